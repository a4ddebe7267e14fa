-- Lanes one after another, with the volumes of their headers.
use Rattle.std.proofs.Common.{◌≡◌, ◌⊎◌, inl, inr, ℕ, zero, suc, ◌+◌, ◌<◌, ◌≤◌, List, [], ◌∷◌, ◌++◌, length, Some, None, refl, sym, ap, subst, ◌∙◌, arith}
use Rattle.std.specs.Prelude.{IsSomeAnd, slice_index_or}
use Rattle.std.specs.List.{Contains}
use Rattle.std.proofs.Math.Seq.{get_or-append_seam}
use Rattle.std.proofs.lemmas.Bool.{cases_lt}
use Rattle.std.proofs.lemmas.List.{get_or_append_left, get_or_past}
use Rattle.std.proofs.lemmas.List.Elements.{Contains-push_cases}
use Rattle.write_trace.specs.declared.header.VolumeHead.{VolumeHead}
use Rattle.write_trace.specs.Headers.{cylinders_of}
use Rattle.pair_table.specs.declared.names.NamedVolume.{NamedVolume}
use Rattle.mover.specs.declared.lane.Lane.{Lane}
use Rattle.mover.specs.Readers.{LaneReaderState}
use Rattle.mover.specs.Lanes.{heads_of}
use Rattle.xrc_session.specs.Joins.{HasInHeader, IsNamedOfLane}
use Rattle.mover_tests.specs.Courses.{AreNewLanes, AreOpened, IsInHeader, IsNewLane}

-- ---- the volumes of a header

cylinders_at : (heads : List VolumeHead) (k : ℕ) (d : VolumeHead) → k < length heads → cylinders_of heads k ≡ (let h : VolumeHead = slice_index_or heads k d in h.cylinders)
cylinders_at [] k d low = absurd (omega (arith, low))
cylinders_at (h ∷ heads) zero d low = refl
cylinders_at (h ∷ heads) (suc k) d low = cylinders_at heads k d (omega (arith, low))

-- One volume of the header more.
pub noted_more : (control : ℕ) (heads : List VolumeHead) (first named : List NamedVolume) (noted : NamedVolume) (d : VolumeHead) → noted.control ≡ control → noted.volume < length heads
    → noted.cylinders ≡ (let h : VolumeHead = slice_index_or heads noted.volume d in h.cylinders)
    → ((v : NamedVolume) → Contains named v → Contains first v ⊎ IsInHeader control heads v) → (v : NamedVolume) → Contains (named ++ noted ∷ []) v → Contains first v ⊎ IsInHeader control heads v
noted_more control heads first named noted d at low same before v has = elim (Contains-push_cases named noted v has) [
  | inl was ↦ before v was
  | inr is ↦ inr (subst (IsInHeader control heads) is (record { control_is = at; within = low; sized = cylinders_at heads noted.volume d low ∙ sym same }))
]

-- The header that a reader was opened with has them.
pub in_header : (control : ℕ) (heads : List VolumeHead) (r : LaneReaderState) (v : NamedVolume) → heads_of r.feed ≡ heads → IsInHeader control heads v → HasInHeader v.volume v.cylinders r
in_header control heads r v same h = record {
  within = subst (λ (l : List VolumeHead). v.volume < length l) (sym same) h.within;
  sized = subst (λ (l : List VolumeHead). cylinders_of l v.volume ≡ v.cylinders) (sym same) h.sized;
}

-- ---- one lane more

module _ {S : Type 0} (lanes : List (Lane S)) (lane : Lane S) where
  before : (k : ℕ) (d : Lane S) → k < length lanes → slice_index_or (lanes ++ lane ∷ []) k d ≡ slice_index_or lanes k d
  before k d low = get_or_append_left lanes (lane ∷ []) d k low

  last : (k : ℕ) (d : Lane S) → k ≡ length lanes → slice_index_or (lanes ++ lane ∷ []) k d ≡ lane
  last k d is = ap (λ n. slice_index_or (lanes ++ lane ∷ []) n d) is ∙ get_or-append_seam lanes lane [] d

  new_more : length (lanes ++ lane ∷ []) ≡ length lanes + 1 → AreNewLanes lanes → IsNewLane (length lanes) lane → AreNewLanes (lanes ++ lane ∷ [])
  new_more many new is k d low = elim (cases_lt k (length lanes)) [
    | inl was ↦ subst (IsNewLane k) (sym (before k d was)) (new k d was)
    | inr high ↦
        let same : k ≡ length lanes = omega (arith, low, many, high) in
        subst (IsNewLane k) (sym (last k d same)) (subst (λ n. IsNewLane n lane) (sym same) is)
  ]

  -- What is named of lanes is of a lane that is there.
  within : (v : NamedVolume) → IsNamedOfLane lanes v → v.control < length lanes
  within v named = elim (cases_lt v.control (length lanes)) [
    | inl low ↦ low
    | inr high ↦ absurd (subst (λ (l : Lane S). IsSomeAnd l.reader (HasInHeader v.volume v.cylinders)) (get_or_past lanes v.control (record lane { reader = None }) high) (named (record lane { reader = None })))
  ]

  named_before : (v : NamedVolume) → IsNamedOfLane lanes v → IsNamedOfLane (lanes ++ lane ∷ []) v
  named_before v named d = subst (λ (l : Lane S). IsSomeAnd l.reader (HasInHeader v.volume v.cylinders)) (sym (before v.control d (within v named))) (named d)

  named_last : (v : NamedVolume) → v.control ≡ length lanes → IsSomeAnd lane.reader (HasInHeader v.volume v.cylinders) → IsNamedOfLane (lanes ++ lane ∷ []) v
  named_last v at has d = subst (λ (l : Lane S). IsSomeAnd l.reader (HasInHeader v.volume v.cylinders)) (sym (last v.control d at)) has

  pub opened_more : (named now : List NamedVolume) → length (lanes ++ lane ∷ []) ≡ length lanes + 1 → AreOpened lanes named → IsNewLane (length lanes) lane
      → ((v : NamedVolume) → Contains now v → Contains named v ⊎ ((v.control ≡ length lanes) × IsSomeAnd lane.reader (HasInHeader v.volume v.cylinders))) → AreOpened (lanes ++ lane ∷ []) now
  opened_more named now many opened new noted = record {
    are_new = new_more many opened.are_new new;
    are_named = λ v has. elim (noted v has) [
      | inl was ↦ named_before v (opened.are_named v was)
      | inr is ↦ named_last v is.0 is.1
    ];
  }

-- ---- a lane that there is

pub some_lane : {S : Type 0} (lanes : List (Lane S)) → 0 < length lanes → Lane S
some_lane [] some = absurd (omega (arith, some))
some_lane (l ∷ lanes) some = l

pub named_within : {S : Type 0} (lanes : List (Lane S)) (v : NamedVolume) → 0 < length lanes → IsNamedOfLane lanes v → v.control < length lanes
named_within lanes v some named = within lanes (some_lane lanes some) v named
