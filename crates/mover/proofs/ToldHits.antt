-- Hits, and the counts that rose for them.
use Rattle.std.proofs.Common.{◌≡◌, ◌≢◌, inl, inr, ℕ, zero, suc, ◌+◌, ◌≤◌, ◌<◌, Bool, true, false, not, cond, nat_eq, List, [], ◌∷◌, length, get_or, map, filter, Some, refl, sym, ap, subst, ◌∙◌, arith, true≢false, slice_get}
use Rattle.std.proofs.lemmas.Bool.{and_from, and_parts, eq-eqb, eqb-true, or_cases, or_left, or_right}
use Rattle.std.proofs.lemmas.Option.{same_Some}
use Rattle.crash_plant.specs.declared.device.Device.{Device}
use Rattle.crash_plant.specs.declared.device.Device.TheVariants.{Volume}
use Rattle.pair_table.specs.declared.row.PairRow.{PairRow}
use Rattle.pair_table.specs.declared.row.PairState.{PairState}
use Rattle.pair_table.specs.Devices.{is_among}
use Rattle.record_rows.specs.Hits.{hit_now, is_down, is_hit_now}
use Rattle.pair_table.specs.States.{is_device_suspended}
use Rattle.record_rows.specs.ToldRows.{AreTold, IsTold}
use Rattle.record_rows.proofs.Counting.{once}
use Rattle.record_rows.proofs.Telling.{only_failed}
use Rattle.site_store.specs.Causes.{FailByCounts}
use Rattle.mover.specs.Moves.{most_faults}
use Rattle.mover.proofs.SamePairs.{before}

-- ---- who is hit

-- a row that is hit now, of a device
pub record HitRow (failed : List Bool) (d : ℕ) (rows : List PairRow) : Type 0 where
  pub place : ℕ
  pub row : PairRow
  pub at : slice_get rows place ≡ Some row
  pub device : row.device ≡ d
  pub hit : is_hit_now failed row ≡ true

pub hit_row_of : (failed : List Bool) (d : ℕ) (rows : List PairRow) → is_among d (hit_now failed rows) ≡ true → HitRow failed d rows
hit_row_of failed d [] among = absurd cc
hit_row_of failed d (r ∷ rows) among = choose (λ e. hit_row_of failed d rows e) (is_hit_now failed r) refl among
  where
    later : HitRow failed d rows → HitRow failed d (r ∷ rows)
    later h = record { place = suc h.place; row = h.row; at = h.at; device = h.device; hit = h.hit }

    choose : (is_among d (hit_now failed rows) ≡ true → HitRow failed d rows) → (b : Bool) → is_hit_now failed r ≡ b → is_among d (map (λ (x : PairRow). x.device) (cond b (r ∷ filter (is_hit_now failed) rows) (filter (is_hit_now failed) rows))) ≡ true → HitRow failed d (r ∷ rows)
    choose on true hit is = elim (or_cases (nat_eq r.device d) (is_among d (hit_now failed rows)) is) [
      | inl here ↦ record { place = 0; row = r; at = refl; device = eqb-true r.device d here; hit = hit }
      | inr rest ↦ later (on rest)
    ]
    choose on false hit is = later (on is)

pub hit_at : (failed : List Bool) (rows : List PairRow) (i : ℕ) (r : PairRow) → slice_get rows i ≡ Some r → is_hit_now failed r ≡ true → is_among r.device (hit_now failed rows) ≡ true
hit_at failed [] i r at hit = absurd cc
hit_at failed (s ∷ rows) zero r at hit = subst (λ (x : PairRow). is_among x.device (hit_now failed (s ∷ rows)) ≡ true) (same_Some s r at) (here (is_hit_now failed s) (ap (is_hit_now failed) (same_Some s r at) ∙ hit))
  where
    here : (b : Bool) → b ≡ true → is_among s.device (map (λ (x : PairRow). x.device) (cond b (s ∷ filter (is_hit_now failed) rows) (filter (is_hit_now failed) rows))) ≡ true
    here true is = or_left (nat_eq s.device s.device) (is_among s.device (hit_now failed rows)) (eq-eqb s.device s.device refl)
    here false is = absurd cc
hit_at failed (s ∷ rows) (suc i) r at hit = after (is_hit_now failed s) (hit_at failed rows i r at hit)
  where
    after : (b : Bool) → is_among r.device (hit_now failed rows) ≡ true → is_among r.device (map (λ (x : PairRow). x.device) (cond b (s ∷ filter (is_hit_now failed) rows) (filter (is_hit_now failed) rows))) ≡ true
    after true rest = or_right (nat_eq s.device r.device) (is_among r.device (hit_now failed rows)) rest
    after false rest = rest

-- A device that is hit by some failed jobs is hit by others, if its own has failed among them.
pub hit_by_others : (a b : List Bool) (d : ℕ) (rows : List PairRow) → is_among d (hit_now a rows) ≡ true → is_down b d ≡ true → is_among d (hit_now b rows) ≡ true
hit_by_others a b d rows among down =
    let h = hit_row_of a d rows among in
    let parts = and_parts (is_down a h.row.device) (not (is_device_suspended h.row.state)) h.hit in
    subst (λ (n : ℕ). is_among n (hit_now b rows) ≡ true) h.device (hit_at b rows h.place h.row h.at (and_from (is_down b h.row.device) (not (is_device_suspended h.row.state)) (ap (is_down b) h.device ∙ down) parts.1))

-- A device that is hit after rows that were told was hit before them.
pub hit_before : (early late : List Bool) (time d : ℕ) (rows next : List PairRow) → AreTold early time rows next → is_among d (hit_now late next) ≡ true → is_among d (hit_now late rows) ≡ true
hit_before early late time d rows next told among =
    let h = hit_row_of late d next among in
    let parts = and_parts (is_down late h.row.device) (not (is_device_suspended h.row.state)) h.hit in
    let b = before (IsTold early time) rows next h.place h.row told h.at in
    let device : h.row.device ≡ b.row.device = ap (λ (x : PairRow). x.device) b.is.same in
    subst (λ (n : ℕ). is_among n (hit_now late rows) ≡ true) (sym device ∙ h.device)
    (hit_at late rows h.place b.row b.at (and_from (is_down late b.row.device) (not (is_device_suspended b.row.state)) (ap (is_down late) (sym device) ∙ parts.0) (was b.row h.row b.is parts.1 (is_device_suspended b.row.state) refl)))
  where
    was : (r s : PairRow) → IsTold early time r s → not (is_device_suspended s.state) ≡ true → (c : Bool) → is_device_suspended r.state ≡ c → not c ≡ true
    was r s is none true e = absurd (cc (ap (λ (q : PairState). not (is_device_suspended q)) (is.stays e), e, none))
    was r s is none false e = refl

-- ---- counts

pub flag_low : (flags : List Bool) (d : ℕ) → get_or flags d false ≡ true → d < length flags
flag_low [] d flag = absurd cc
flag_low (f ∷ flags) zero flag = omega arith
flag_low (f ∷ flags) (suc d) flag = let lt = flag_low flags d flag in omega (arith, lt)

-- Jobs that failed stay failed.
pub still_down : (a b : List Bool) (first last : Device → ℕ) → FailByCounts a b first last → (d : ℕ) → is_down a d ≡ true → is_down b d ≡ true
still_down a b first last fails d down = (fails.alone d (flag_low a d down) down).0

-- So rows that they hit are hit still.
pub still_hit : (a b : List Bool) (first last : Device → ℕ) (rows : List PairRow) → FailByCounts a b first last → hit_now a rows ≢ [] → hit_now b rows ≢ []
still_hit a b first last rows fails some none = by (hit_now a rows) refl
  where
    by : (hit : List ℕ) → hit_now a rows ≡ hit → ⊥
    by [] e = some e
    by (d ∷ hit) e =
        let among : is_among d (hit_now a rows) ≡ true = ap (is_among d) e ∙ or_left (nat_eq d d) (is_among d hit) (eq-eqb d d refl) in
        true≢false (sym (hit_by_others a b d rows among (still_down a b first last fails d (only_failed d a rows among))) ∙ ap (is_among d) none)

-- Jobs that failed between two moments: each device that is hit by those that have failed then was hit before, or its count rose.
module _ (a b : List Bool) (first last : Device → ℕ) (fails : FailByCounts a b first last) where
  rises : (d : ℕ) → last (Volume d) < most_faults → is_down b d ≡ true → is_down a d ≡ false → first (Volume d) + 1 ≤ last (Volume d)
  rises d low down up =
      let lt : d < length a = omega (arith, flag_low b d down, fails.size) in
      elim ((fails.by_count d lt up).rose down) [
        | inl rose ↦ omega (arith, rose)
        | inr end ↦ absurd (omega (arith, end, low))
      ]

  pub hits_rise : (d : ℕ) (rows : List PairRow) → last (Volume d) < most_faults → first (Volume d) ≤ last (Volume d) → once (is_among d (hit_now b rows)) + first (Volume d) ≤ last (Volume d) + once (is_among d (hit_now a rows))
  hits_rise d rows low later = by (is_among d (hit_now b rows)) refl (is_among d (hit_now a rows)) refl
    where
      by : (now : Bool) → is_among d (hit_now b rows) ≡ now → (was : Bool) → is_among d (hit_now a rows) ≡ was → once now + first (Volume d) ≤ last (Volume d) + once was
      by false e was f = omega (arith, later)
      by true e true f = omega (arith, later)
      by true e false f = let rise = rises d low down (up (is_down a d) refl) in omega (arith, rise)
        where
          down : is_down b d ≡ true
          down = let h = hit_row_of b d rows e in ap (is_down b) (sym h.device) ∙ (and_parts (is_down b h.row.device) (not (is_device_suspended h.row.state)) h.hit).0

          up : (c : Bool) → is_down a d ≡ c → c ≡ false
          up true is = absurd (true≢false (sym (hit_by_others b a d rows e is) ∙ f))
          up false is = refl
