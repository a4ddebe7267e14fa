-- Which tracks are settled after a change of a volume.
use Rattle.std.proofs.Common.{◌≡◌, ℕ, ◌<◌, Bool, true, false, not, cond, nat_eq, nat_lt, ◌&&◌, List, [], ◌∷◌, ◌++◌, length, get_or, Option, Some, None, ◌⊎◌, inl, inr, refl, sym, ap, subst, ◌∙◌, arith, true≢false, length-set, get_or-set_same, get_or-set_other}
use Rattle.std.specs.Prelude.{slice_set}
use Rattle.std.specs.List.{list_all}
use Rattle.std.specs.Option.{option_map}
use Rattle.std.proofs.lemmas.Bool.{cases_Bool, and_parts, and_from, or_parts, eqb-true, eqb-false, lt-ltb, ltb-true}
use Rattle.std.proofs.lemmas.List.{length-replicate}
use Rattle.ckd_track.specs.declared.write.Write.{Write}
use Rattle.change_map.specs.Sets.{no_track, every_track, has_track}
use Rattle.change_map.proofs.InSets.{has_every}
use Rattle.copy_plan.specs.Plans.{PlanState}
use Rattle.pending_queue.specs.Entries.{WaitingEntry}
use Rattle.pending_queue.specs.Maps.{with_tracks}
use Rattle.group_state.specs.declared.volume.Volume.{Volume}
use Rattle.group_state.specs.Volumes.{is_numbered, volume_of, with_volume, passes, carries, wants, noted_write, with_write, with_writes, copied_track, formed_track, with_formed_copy, with_formed_copies, dropped_volume, begun, resumed_volume, without_number, has_volume}
use Rattle.group_state.specs.SoundStates.{are_distinct}
use Rattle.group_state.proofs.VolumeLaws.{Keeps, found_with}
use Rattle.fed_logs.specs.ToldTracks.{is_track_settled}

abbrev pub settled_in : (volume track : ℕ) → List Volume → Bool
settled_in v x volumes = passes (is_track_settled x) (volume_of v volumes)

abbrev pub is_live : Volume → Bool
is_live u = u.carried

-- whether the volume is carried
abbrev pub live_in : (volume : ℕ) → List Volume → Bool
live_in v volumes = passes is_live (volume_of v volumes)

pub settled_carries : (x : ℕ) (o : Option Volume) → passes (is_track_settled x) o ≡ true → passes is_live o ≡ true → passes (carries x) o ≡ true
settled_carries x None e f = absurd (true≢false (sym e))
settled_carries x (Some u) e f = choose u.carried f (and_parts (nat_lt x (length u.map)) (cond u.carried (not (has_track u.plan.wanted x)) (not (has_track u.map x))) e).1
  where
    choose : (c : Bool) → c ≡ true → cond c (not (has_track u.plan.wanted x)) (not (has_track u.map x)) ≡ true → (c && not (has_track u.plan.wanted x)) ≡ true
    choose true is e = e
    choose false is e = absurd (true≢false (sym is))

-- a change under a test, by what is found
pub tested_with : (P Q : Volume → Bool) (w v : ℕ) (change : Volume → Volume) → Keeps change → (volumes : List Volume) → (nat_eq w v ≡ true → (u : Volume) → volume_of v volumes ≡ Some u → P (change u) ≡ Q u) → (nat_eq w v ≡ false → (u : Volume) → P u ≡ Q u)
    → passes P (volume_of v (with_volume w change volumes)) ≡ passes Q (volume_of v volumes)
tested_with P Q w v change keeps volumes here there = ap (passes P) (found_with w v change keeps volumes) ∙ choose (nat_eq w v) refl (volume_of v volumes) refl
  where
    choose : (t : Bool) → nat_eq w v ≡ t → (o : Option Volume) → volume_of v volumes ≡ o → passes P (cond t (option_map change o) o) ≡ passes Q o
    choose true is None found = refl
    choose true is (Some u) found = here is u found
    choose false is None found = refl
    choose false is (Some u) found = there is u

-- ---- a joined batch

noted_keeps : (y : ℕ) → Keeps (noted_write y)
noted_keeps y u = choose u.carried
  where
    choose : (t : Bool) → (let n : Volume = cond t u (record u { map = slice_set u.map y true }) in n.number) ≡ u.number
    choose true = refl
    choose false = refl

pub live_write : (v : ℕ) (volumes : List Volume) (w : Write) → live_in v (with_write volumes w) ≡ live_in v volumes
live_write v volumes w = tested_with is_live is_live w.volume v (noted_write w.track) (noted_keeps w.track) volumes (λ same u found. choose u u.carried refl) (λ apart u. refl)
  where
    choose : (u : Volume) (t : Bool) → u.carried ≡ t → is_live (cond t u (record u { map = slice_set u.map w.track true })) ≡ u.carried
    choose u true is = refl
    choose u false is = refl

-- what is settled after one write was settled before, and the volume is carried, or the write is on another track
settled_write : (v x : ℕ) (volumes : List Volume) (w : Write) → settled_in v x (with_write volumes w) ≡ true → (settled_in v x volumes ≡ true) × ((live_in v volumes ≡ true) ⊎ ((nat_eq w.volume v && nat_eq w.track x) ≡ false))
settled_write v x volumes w e = choose (nat_eq w.volume v) refl (volume_of v volumes) refl (sym (ap (passes (is_track_settled x)) (found_with w.volume v (noted_write w.track) (noted_keeps w.track) volumes)) ∙ e)
  where
    noted_one : (u : Volume) (c : Bool) → u.carried ≡ c → is_track_settled x (cond c u (record u { map = slice_set u.map w.track true })) ≡ true → (is_track_settled x u ≡ true) × ((u.carried ≡ true) ⊎ (nat_eq w.track x ≡ false))
    noted_one u true is e = (e, inl is)
    noted_one u false is e =
        let parts = and_parts (nat_lt x (length (slice_set u.map w.track true))) (cond u.carried (not (has_track u.plan.wanted x)) (not (has_track (slice_set u.map w.track true) x))) e in
        let low : x < length u.map = omega (arith, length-set u.map w.track true, ltb-true x (length (slice_set u.map w.track true)) parts.0) in
        let free : not (has_track (slice_set u.map w.track true) x) ≡ true = sym (simp is refl) ∙ parts.1 in
        elim (cases_Bool (nat_eq w.track x)) [
          | inl same ↦ absurd (true≢false (sym free ∙ ap not (subst (λ i. get_or (slice_set u.map i true) x false ≡ true) (sym (eqb-true w.track x same)) (get_or-set_same u.map x true false low))))
          | inr apart ↦ (
            and_from (nat_lt x (length u.map)) (cond u.carried (not (has_track u.plan.wanted x)) (not (has_track u.map x))) (lt-ltb x (length u.map) low)
                (simp is (sym (ap not (get_or-set_other u.map w.track x true false (λ e. eqb-false w.track x apart (sym e)))) ∙ free)),
            inr apart,
          )
        ]

    choose : (t : Bool) → nat_eq w.volume v ≡ t → (o : Option Volume) → volume_of v volumes ≡ o → passes (is_track_settled x) (cond t (option_map (noted_write w.track) o) o) ≡ true → (passes (is_track_settled x) o ≡ true) × ((passes is_live o ≡ true) ⊎ ((t && nat_eq w.track x) ≡ false))
    choose true is None found e = absurd (true≢false (sym e))
    choose true is (Some u) found e = noted_one u u.carried refl e
    choose false is None found e = absurd (true≢false (sym e))
    choose false is (Some u) found e = (e, inr refl)

pub settled_writes : (v x : ℕ) (volumes : List Volume) (writes : List Write) → settled_in v x (with_writes volumes writes) ≡ true
    → (settled_in v x volumes ≡ true) × ((live_in v volumes ≡ true) ⊎ (list_all (λ w. not (nat_eq w.volume v && nat_eq w.track x)) writes ≡ true))
settled_writes v x volumes [] e = (e, inr refl)
settled_writes v x volumes (w ∷ writes) e =
    let rest = settled_writes v x (with_write volumes w) writes e in
    let first = settled_write v x volumes w rest.0 in (
      first.0,
      elim first.1 [
        | inl live ↦ inl live
        | inr apart ↦ elim rest.1 [
          | inl live ↦ inl (sym (live_write v volumes w) ∙ live)
          | inr none ↦ inr (and_from (not (nat_eq w.volume v && nat_eq w.track x)) (list_all (λ w. not (nat_eq w.volume v && nat_eq w.track x)) writes) (ap not apart) none)
        ]
      ],
    )

-- ---- a copied track, and a formed one

pub settled_copies : (v x : ℕ) (volumes : List Volume) (entries : List WaitingEntry) → settled_in v x (with_formed_copies volumes entries) ≡ settled_in v x volumes
settled_copies v x volumes [] = refl
settled_copies v x volumes (e ∷ entries) = settled_copies v x (with_formed_copy volumes e) entries ∙ tested_with (is_track_settled x) (is_track_settled x) e.head.volume v formed_track (λ u. refl) volumes (λ same u found. refl) (λ apart u. refl)

pub settled_copied : (w y v x : ℕ) (volumes : List Volume) → (nat_eq w v && nat_eq y x) ≡ false → settled_in v x (with_volume w (copied_track y) volumes) ≡ settled_in v x volumes
settled_copied w y v x volumes other = tested_with (is_track_settled x) (is_track_settled x) w v (copied_track y) (λ u. refl) volumes same (λ apart u. refl)
  where
    same : nat_eq w v ≡ true → (u : Volume) → volume_of v volumes ≡ Some u → is_track_settled x (copied_track y u) ≡ is_track_settled x u
    same one u found =
        let apart : nat_eq y x ≡ false = sym (ap (λ b. b && nat_eq y x) one) ∙ other in
        ap (λ b. nat_lt x (length u.map) && cond u.carried (not b) (not (has_track u.map x))) (get_or-set_other u.plan.wanted y x false false (λ e. eqb-false y x apart (sym e)))

-- ---- a drop

length_tracks : (set : List Bool) (tracks : List ℕ) → length (with_tracks set tracks) ≡ length set
length_tracks set [] = refl
length_tracks set (y ∷ tracks) = length_tracks (slice_set set y true) tracks ∙ length-set set y true

not_in : (x : ℕ) (set : List Bool) (tracks : List ℕ) → x < length set → has_track (with_tracks set tracks) x ≡ false → (has_track set x ≡ false) × (list_all (λ y. not (nat_eq y x)) tracks ≡ true)
not_in x set [] low e = (e, refl)
not_in x set (y ∷ tracks) low e =
    let rest = not_in x (slice_set set y true) tracks (omega (arith, low, length-set set y true)) e in
    elim (cases_Bool (nat_eq y x)) [
      | inl same ↦ absurd (true≢false (sym (subst (λ i. get_or (slice_set set i true) x false ≡ true) (sym (eqb-true y x same)) (get_or-set_same set x true false low)) ∙ rest.0))
      | inr apart ↦ (sym (get_or-set_other set y x true false (λ e. eqb-false y x apart (sym e))) ∙ rest.0, and_from (not (nat_eq y x)) (list_all (λ y. not (nat_eq y x)) tracks) (ap not apart) rest.1)
    ]

-- What is settled after a drop was settled before; of the dropped volume, no entry waits on it.
pub settled_dropped : (w v x : ℕ) (all : Bool) (tracks : List ℕ) (volumes : List Volume) → (all ≡ false → (y : ℕ) → passes (wants y) (volume_of w volumes) ≡ false) → settled_in v x (with_volume w (dropped_volume all tracks) volumes) ≡ true
    → (settled_in v x volumes ≡ true) × ((nat_eq w v ≡ false) ⊎ (list_all (λ y. not (nat_eq y x)) tracks ≡ true))
settled_dropped w v x all tracks volumes none e = choose (nat_eq w v) refl (volume_of v volumes) refl (sym (ap (passes (is_track_settled x)) (found_with w v (dropped_volume all tracks) (λ u. refl) volumes)) ∙ e)
  where
    unwanted : (c b : Bool) → (c && b) ≡ false → not b ≡ true ⊎ (c ≡ false)
    unwanted true true e = absurd (true≢false e)
    unwanted true false e = inl refl
    unwanted false b e = inr refl

    held : (u : Volume) → (wants x u ≡ false) → has_track u.map x ≡ false → cond u.carried (not (has_track u.plan.wanted x)) (not (has_track u.map x)) ≡ true
    held u f g = elim (unwanted u.carried (has_track u.plan.wanted x) f) [
      | inl free ↦ by u.carried free
      | inr gone ↦ simp gone (ap not g)
    ]
      where
        by : (c : Bool) → not (has_track u.plan.wanted x) ≡ true → cond c (not (has_track u.plan.wanted x)) (not (has_track u.map x)) ≡ true
        by true free = free
        by false free = ap not g

    dropped_one : (b : Bool) → all ≡ b → (u : Volume) → volume_of v volumes ≡ Some u → nat_eq w v ≡ true → is_track_settled x (record u { carried = false; map = cond b (every_track (length u.map)) (with_tracks u.map tracks) }) ≡ true
        → (is_track_settled x u ≡ true) × (list_all (λ y. not (nat_eq y x)) tracks ≡ true)
    dropped_one true every u found same e =
        let parts = and_parts (nat_lt x (length (every_track (length u.map)))) (not (has_track (every_track (length u.map)) x)) e in
        let low : x < length u.map = omega (arith, length-replicate (length u.map) true, ltb-true x (length (every_track (length u.map))) parts.0) in
        absurd (true≢false (sym parts.1 ∙ ap not (has_every (length u.map) x ∙ lt-ltb x (length u.map) low)))
    dropped_one false some u found same e =
        let parts = and_parts (nat_lt x (length (with_tracks u.map tracks))) (not (has_track (with_tracks u.map tracks) x)) e in
        let low : x < length u.map = omega (arith, length_tracks u.map tracks, ltb-true x (length (with_tracks u.map tracks)) parts.0) in
        let free : has_track (with_tracks u.map tracks) x ≡ false = flip (has_track (with_tracks u.map tracks) x) parts.1 in
        let out = not_in x u.map tracks low free in
        let unwished : wants x u ≡ false = ap (passes (wants x)) (sym found) ∙ ap (λ i. passes (wants x) (volume_of i volumes)) (sym (eqb-true w v same)) ∙ none some x in
        (and_from (nat_lt x (length u.map)) (cond u.carried (not (has_track u.plan.wanted x)) (not (has_track u.map x))) (lt-ltb x (length u.map) low) (held u unwished out.0), out.1)
      where
        flip : (b : Bool) → not b ≡ true → b ≡ false
        flip true e = sym e
        flip false e = refl

    choose : (t : Bool) → nat_eq w v ≡ t → (o : Option Volume) → volume_of v volumes ≡ o → passes (is_track_settled x) (cond t (option_map (dropped_volume all tracks) o) o) ≡ true → (passes (is_track_settled x) o ≡ true) × ((t ≡ false) ⊎ (list_all (λ y. not (nat_eq y x)) tracks ≡ true))
    choose true is None found e = absurd (true≢false (sym e))
    choose true is (Some u) found e = let h = dropped_one all refl u found is e in (h.0, inr h.1)
    choose false is None found e = absurd (true≢false (sym e))
    choose false is (Some u) found e = (e, inl refl)

-- ---- a carry, a resume and a forget

pub settled_begun : (w v x : ℕ) (plan : PlanState) (volumes : List Volume) → ((x : ℕ) → x < length plan.wanted → has_track plan.wanted x ≡ true) → settled_in v x (volumes ++ begun w plan ∷ []) ≡ true → settled_in v x volumes ≡ true
settled_begun w v x plan [] every e = choose (nat_eq w v) e
  where
    choose : (t : Bool) → passes (is_track_settled x) (cond t (Some (begun w plan)) None) ≡ true → false ≡ true
    choose true e =
        let parts = and_parts (nat_lt x (length (no_track (length plan.wanted)))) (not (has_track plan.wanted x)) e in
        let low : x < length plan.wanted = omega (arith, length-replicate (length plan.wanted) false, ltb-true x (length (no_track (length plan.wanted))) parts.0) in
        absurd (true≢false (sym parts.1 ∙ ap not (every x low)))
    choose false e = e
settled_begun w v x plan (u ∷ volumes) every e = choose (is_numbered v u) (settled_begun w v x plan volumes every) e
  where
    choose : (t : Bool) → (settled_in v x (volumes ++ begun w plan ∷ []) ≡ true → settled_in v x volumes ≡ true) → passes (is_track_settled x) (cond t (Some u) (volume_of v (volumes ++ begun w plan ∷ []))) ≡ true → passes (is_track_settled x) (cond t (Some u) (volume_of v volumes)) ≡ true
    choose true rest e = e
    choose false rest e = rest e

pub settled_resumed : (w v x : ℕ) (volumes : List Volume) → passes (λ u. not u.carried) (volume_of w volumes) ≡ true → settled_in v x (with_volume w resumed_volume volumes) ≡ settled_in v x volumes
settled_resumed w v x volumes dropped = tested_with (is_track_settled x) (is_track_settled x) w v resumed_volume (λ u. refl) volumes same (λ apart u. refl)
  where
    same : nat_eq w v ≡ true → (u : Volume) → volume_of v volumes ≡ Some u → is_track_settled x (resumed_volume u) ≡ is_track_settled x u
    same one u found =
        let gone : not u.carried ≡ true = ap (passes (λ (u : Volume). not u.carried)) (sym found) ∙ ap (λ i. passes (λ (u : Volume). not u.carried) (volume_of i volumes)) (sym (eqb-true w v one)) ∙ dropped in
        ap (λ n. nat_lt x n && not (has_track u.map x)) (length-replicate (length u.map) false) ∙ choose u.carried gone
      where
        choose : (c : Bool) → not c ≡ true → (nat_lt x (length u.map) && not (has_track u.map x)) ≡ (nat_lt x (length u.map) && cond c (not (has_track u.plan.wanted x)) (not (has_track u.map x)))
        choose true e = absurd (true≢false (sym e))
        choose false e = refl

pub settled_forgotten : (w v x : ℕ) (volumes : List Volume) → are_distinct volumes ≡ true → settled_in v x (without_number w volumes) ≡ true → settled_in v x volumes ≡ true
settled_forgotten w v x [] apart e = e
settled_forgotten w v x (u ∷ volumes) apart e =
    let parts = and_parts (not (has_volume u.number volumes)) (are_distinct volumes) apart in
    choose (is_numbered w u) refl (is_numbered v u) refl parts.0 (settled_forgotten w v x volumes parts.1) e
  where
    missing : (volumes : List Volume) → has_volume v volumes ≡ false → settled_in v x volumes ≡ true → false ≡ true
    missing [] none e = e
    missing (a ∷ volumes) none e = let parts = or_parts (is_numbered v a) (has_volume v volumes) none in missing volumes parts.1 (sym (simp parts.0 refl) ∙ e)

    flip : (b : Bool) → not b ≡ true → b ≡ false
    flip true e = sym e
    flip false e = refl

    choose : (t : Bool) → is_numbered w u ≡ t → (s : Bool) → is_numbered v u ≡ s → not (has_volume u.number volumes) ≡ true → (settled_in v x (without_number w volumes) ≡ true → settled_in v x volumes ≡ true)
        → passes (is_track_settled x) (volume_of v (cond t volumes (u ∷ without_number w volumes))) ≡ true → passes (is_track_settled x) (cond s (Some u) (volume_of v volumes)) ≡ true
    choose true is true at none rest e = absurd (true≢false (sym (missing volumes (flip (has_volume v volumes) (subst (λ i. not (has_volume i volumes) ≡ true) (eqb-true u.number v at) none)) e)))
    choose true is false at none rest e = e
    choose false is true at none rest e = sym (simp at refl) ∙ e
    choose false is false at none rest e = rest (sym (simp at refl) ∙ e)
