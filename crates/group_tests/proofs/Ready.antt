-- A state that is ready stays so, and batches on its first track may be joined.
use Rattle.std.proofs.Common.{◌≡◌, ℕ, ◌≤◌, ◌<◌, Bool, true, false, not, cond, ◌&&◌, nat_eq, nat_lt, nat_le, List, [], ◌∷◌, length, refl, sym, ap, subst, ◌∙◌, arith, length-set}
use Rattle.std.specs.List.{list_all}
use Rattle.std.proofs.lemmas.Bool.{and_parts, and_from, eqb-true, lt-ltb, le-leb, le-ltb}
use Rattle.std.proofs.lemmas.List.{get_or-set_same, get_or-map, length-map}
use Rattle.tod_stamp.specs.declared.stamp.Stamp.{Stamp}
use Rattle.ckd_track.specs.declared.write.Batch.{Batch}
use Rattle.ckd_track.specs.declared.write.Write.{Write}
use Rattle.ckd_track.specs.Writes.{is_earlier}
use Rattle.xrc_edge.specs.Order.{is_in_order}
use Rattle.pending_queue.specs.Entries.{WaitingEntry, copies}
use Rattle.group_state.specs.declared.phase.Phase.{Phase}
use Rattle.group_state.specs.declared.phase.Phase.TheVariants.{Unbroken, Broken, Reported}
use Rattle.group_state.specs.declared.volume.Volume.{Volume}
use Rattle.group_state.specs.Volumes.{with_write, with_writes, formed_track, with_formed_copy, with_formed_copies}
use Rattle.group_state.specs.Controls.{ControlState, new_control, is_reporting, phase_after, fits, joined, formed, due_of}
use Rattle.group_state.specs.Groups.{Group, control_at, with_control, cut_of, formed_at}
use Rattle.group_state.specs.SoundStates.{is_track_within, MayJoin}
use Rattle.group_state.specs.Machine.{group_after}
use Rattle.group_state.specs.Machine.Call.{Join}
use Rattle.group_state.proofs.VolumeLaws.{same_or_none}
use Rattle.group_state.proofs.SoundLaws.{all_up, within_write}
use Rattle.group_state.proofs.Kept.{least_within}
use Rattle.group_tests.specs.ReadyStates.{CarriesFirst, is_first_at}

-- ---- a batch on the first track

stamp_of : (at : ℕ) (w : Write) → is_first_at at w ≡ true → w.stamp.0 ≡ at
stamp_of at w e = eqb-true w.stamp.0 at (and_parts (nat_eq w.volume 0 && nat_eq w.track 0) (nat_eq w.stamp.0 at) e).1

order_at : (at : ℕ) (writes : List Write) → list_all (is_first_at at) writes ≡ true → is_in_order is_earlier writes ≡ true
order_at at [] e = refl
order_at at (w ∷ writes) e =
    let parts = and_parts (is_first_at at w) (list_all (is_first_at at) writes) e in
    let here = stamp_of at w parts.0 in
    and_from (list_all (λ x. not (is_earlier x w)) writes) (is_in_order is_earlier writes)
    (all_up (is_first_at at) (λ x. not (is_earlier x w)) writes (λ x is. ap not (le-ltb x.stamp.0 w.stamp.0 (omega (arith, here, stamp_of at x is)))) parts.1) (order_at at writes parts.1)

pub may_join : (before at : ℕ) (c : ControlState) (b : Batch) → is_reporting c.phase ≡ true → c.floor.0 ≤ before → before < at → is_track_within c.volumes 0 0 ≡ true → b.upto.0 ≡ at → list_all (is_first_at at) b.writes ≡ true → MayJoin c b
may_join before at c b reporting told later within upto first = record {
  tells = record { reporting = reporting; up = omega (arith, told, later, upto) };
  within = all_up (is_first_at at) (λ w. nat_lt c.floor.0 w.stamp.0 && nat_le w.stamp.0 b.upto.0) b.writes
      (λ w is. let here = stamp_of at w is in
      and_from (nat_lt c.floor.0 w.stamp.0) (nat_le w.stamp.0 b.upto.0) (lt-ltb c.floor.0 w.stamp.0 (omega (arith, told, later, here))) (le-leb w.stamp.0 b.upto.0 (omega (arith, upto, here)))) first;
  order = order_at at b.writes first;
  tracks = all_up (is_first_at at) (λ w. is_track_within c.volumes w.volume w.track) b.writes
      (λ w is. let place = and_parts (nat_eq w.volume 0) (nat_eq w.track 0) (and_parts (nat_eq w.volume 0 && nat_eq w.track 0) (nat_eq w.stamp.0 at) is).0 in
      let volume = eqb-true w.volume 0 place.0 in
      let track = eqb-true w.track 0 place.1 in
      (λ i. is_track_within c.volumes (volume i) (track i)) ∙ within) first;
}

-- ---- each call

within_writes : (volumes : List Volume) (writes : List Write) (v x : ℕ) → is_track_within (with_writes volumes writes) v x ≡ is_track_within volumes v x
within_writes volumes [] v x = refl
within_writes volumes (w ∷ writes) v x = within_writes (with_write volumes w) writes v x ∙ within_write w volumes v x

within_formed : (volumes : List Volume) (taken : List WaitingEntry) (v x : ℕ) → is_track_within (with_formed_copies volumes taken) v x ≡ is_track_within volumes v x
within_formed volumes [] v x = refl
within_formed volumes (e ∷ taken) v x =
    within_formed (with_formed_copy volumes e) taken v x ∙ same_or_none (λ (u : Volume). nat_lt x (length u.map)) e.head.volume v formed_track (λ u. refl) (λ u. refl) volumes

pub ready_joined : (before at : ℕ) (s : Group) (b : Batch) → CarriesFirst before s → before < at → b.control ≡ 0 → b.upto.0 ≡ at → CarriesFirst at (group_after s (Join b))
ready_joined before at s b ready later control upto = choose (fits (control_at s b.control) b)
  where
    is : control_at (with_control 0 (joined b) s) 0 ≡ joined b (control_at s 0)
    is = get_or-set_same s.controls 0 (joined b (control_at s 0)) (new_control 0 0 0) (omega (arith, ready.one))

    here : CarriesFirst at (with_control 0 (joined b) s)
    here = record {
      one = length-set s.controls 0 (joined b (control_at s 0)) ∙ ready.one;
      reporting = ap (λ (c : ControlState). is_reporting c.phase) is ∙ ready.reporting;
      told = omega (arith, ap (λ (c : ControlState). c.floor.0) is, upto);
      within = ap (λ (c : ControlState). is_track_within c.volumes 0 0) is ∙ within_writes (control_at s 0).volumes b.writes 0 0 ∙ ready.within;
      last = omega (arith, ready.last, later);
    }

    choose : (t : Bool) → CarriesFirst at (cond t (with_control b.control (joined b) s) s)
    choose true = subst (λ k. CarriesFirst at (with_control k (joined b) s)) (sym control) here
    choose false = record { one = ready.one; reporting = ready.reporting; told = omega (arith, ready.told, later); within = ready.within; last = omega (arith, ready.last, later) }

still_reporting : (cut floor : Stamp) (phase : Phase) → is_reporting phase ≡ true → is_reporting (phase_after cut floor phase) ≡ true
still_reporting cut floor Unbroken e = refl
still_reporting cut floor (Broken cause) e = absurd cc
still_reporting cut floor Reported e = absurd cc

pub ready_formed : (time : ℕ) (s : Group) (limit : Stamp) → limit.0 ≡ time → CarriesFirst time s → CarriesFirst time (formed_at (cut_of s limit) s)
ready_formed time s limit at ready =
    let cut = cut_of s limit in
    let c = control_at s 0 in
    let is : control_at (formed_at cut s) 0 ≡ formed cut c = get_or-map (formed cut) s.controls 0 (new_control 0 0 0) (new_control 0 0 0) (omega (arith, ready.one)) in
    record {
      one = length-map s.controls (formed cut) ∙ ready.one;
      reporting = ap (λ (c : ControlState). is_reporting c.phase) is ∙ still_reporting cut c.floor c.phase ready.reporting;
      told = omega (arith, ap (λ (c : ControlState). c.floor.0) is, ready.told);
      within = ap (λ (c : ControlState). is_track_within c.volumes 0 0) is ∙ within_formed c.volumes (copies (due_of cut c)) 0 0 ∙ ready.within;
      last = omega (arith, least_within limit.0 s.controls, at);
    }
