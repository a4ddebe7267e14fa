-- Breaks of controllers after the calls of a command's change.
use Rattle.std.proofs.Common.{◌≡◌, ◌⊎◌, inl, inr, ℕ, ◌<◌, ◌≤◌, true, List, length, Some, sym, ap, subst, ◌∙◌, arith}
use Rattle.std.proofs.lemmas.Bool.{cases_lt}
use Rattle.std.proofs.lemmas.List.{get_or_past}
use Rattle.tod_stamp.specs.declared.stamp.Stamp.{Stamp}
use Rattle.write_trace.specs.declared.trace.Trace.{Trace}
use Rattle.group_state.specs.declared.phase.Phase.{Phase}
use Rattle.group_state.specs.Controls.{ControlState, is_reporting, new_control}
use Rattle.group_state.specs.Groups.{Group, control_at}
use Rattle.fed_logs.specs.ShownBreaks.{BreaksAreToCome, BrokeAsTraces}
use Rattle.xrc_session.specs.Joins.{StaysForReaders}

module _ (s next : Group) (stays : StaysForReaders s next) where
  -- The floor and the phase of each controller stay, also of one that isn't there.
  phase_stays : (k : ℕ) → (control_at next k).phase ≡ (control_at s k).phase
  phase_stays k = by_side (cases_lt k (length s.controls))
    where
      by_side : (k < length s.controls) ⊎ (length s.controls ≤ k) → (control_at next k).phase ≡ (control_at s k).phase
      by_side (inl low) = stays.phase k low
      by_side (inr high) = ap (λ (c : ControlState). c.phase) (get_or_past next.controls k (new_control 0 0 0) (let many = stays.many in omega (arith, high, many)) ∙ sym (get_or_past s.controls k (new_control 0 0 0) high))

  floor_stays : (k : ℕ) → (control_at next k).floor ≡ (control_at s k).floor
  floor_stays k = by_side (cases_lt k (length s.controls))
    where
      by_side : (k < length s.controls) ⊎ (length s.controls ≤ k) → (control_at next k).floor ≡ (control_at s k).floor
      by_side (inl low) = stays.floor k low
      by_side (inr high) = ap (λ (c : ControlState). c.floor) (get_or_past next.controls k (new_control 0 0 0) (let many = stays.many in omega (arith, high, many)) ∙ sym (get_or_past s.controls k (new_control 0 0 0) high))

  pub breaks_stay : (traces : List Trace) → BrokeAsTraces traces s → BrokeAsTraces traces next
  breaks_stay traces broke k t own cause is =
      broke k t own cause (sym (phase_stays k) ∙ is) ∙ ap (λ (floor : Stamp). Some (record { cause = cause; upto = floor.0 })) (sym (floor_stays k))

  pub breaks_await : (traces : List Trace) (time : ℕ) → BreaksAreToCome traces time s → BreaksAreToCome traces time next
  breaks_await traces time come k b t own at up =
      let still = come k b t own at up in
      record {
        low = (let low = still.low in let many = stays.many in omega (arith, low, many));
        reporting = subst (λ (phase : Phase). is_reporting phase ≡ true) (sym (phase_stays k)) still.reporting;
        up_to = (let up_to = still.up_to in let floor = ap (λ (f : Stamp). f.0) (floor_stays k) in omega (arith, up_to, floor));
      }
