-- The work for a start: its format, and then its first epoch, which works on no volume.
use Rattle.std.proofs.Common.{◌≡◌, inl, inr, ℕ, Bool, false, ◌||◌, List, replicate, Result, Ok, Err, sym, ap, subst, ◌∙◌, arith, true≢false}
use Rattle.std.specs.Prelude.{IfErr, IsErrOf, slice_index_or}
use Rattle.std.proofs.lemmas.Bool.{cases_lt}
use Rattle.std.proofs.lemmas.List.{get_or-replicate, get_or_past, length-replicate}
use Rattle.tod_stamp.specs.declared.stamp.Stamp.{Stamp}
use Rattle.crash_plant.specs.declared.device.Device.{Device}
use Rattle.crash_plant.specs.declared.device.Device.TheVariants.{Control, State, Journal, Volume}
use Rattle.xrc_edge.specs.Causes.{Rose}
use Rattle.crash_plant.specs.Moments.{PlantState, Same, on}
use Rattle.crash_plant.proofs.BehindGates.{same_after}
use Rattle.crash_plant.proofs.Steps.{elapses_trans, silent_trans, site_trans}
use Rattle.applier.proofs.Works.{none_lent_lent}
use Rattle.pair_table.specs.declared.level.Level.{Level}
use Rattle.site_store.specs.Records.{IsStore}
use Rattle.site_store.specs.Sites.{SiteState, new_site}
use Rattle.mover.specs.Moves.{IsOfMover, is_worked_on}
use Rattle.xrc_status.specs.declared.stop.Stop.{Stop}
use Rattle.xrc_status.specs.declared.stop.Stop.TheVariants as stops
use Rattle.xrc_session.specs.Bringing.{IsWorkOfStore}
use Rattle.xrc_session.specs.Starting.{IsWorkOfStart}
use Rattle.xrc_session.specs.Stops.{HasStopCause, stop_of_device}

-- The same cause, if nothing had failed before.
cause_before : (old mid new : PlantState) (stop : Stop) → ((d : Device) → IsStore d → mid.faults d ≡ old.faults d) → mid.console_faults ≡ old.console_faults → HasStopCause mid new stop → HasStopCause old new stop
cause_before old mid new stops.ConsoleFault same console cause = subst (λ (n : ℕ). Rose n new.console_faults) console cause
cause_before old mid new (stops.JournalFault j) same console cause = subst (λ (n : ℕ). Rose n (new.faults (Journal j))) (same (Journal j) tt) cause
cause_before old mid new stops.ControlFault same console cause = subst (λ (n : ℕ). Rose n (new.faults Control)) (same Control tt) cause
cause_before old mid new stops.StateFault same console cause = subst (λ (n : ℕ). Rose n (new.faults State)) (same State tt) cause
cause_before old mid new stop same console cause = cause

none_true : (n i : ℕ) → slice_index_or (replicate n false) i false ≡ false
none_true n i = elim (cases_lt i n) [ inl low ↦ get_or-replicate n i false false low | inr past ↦ get_or_past (replicate n false) i false (omega (arith, length-replicate n false, past)) ]

-- The first epoch works on no volume.
pub none_worked : (controls volumes : ℕ) (session : List ℕ) (level : Level) (at : Stamp) (site : SiteState) → site ≡ new_site controls volumes session level at → (v : ℕ) → ¬ IsOfMover site (Volume v)
none_worked controls volumes session level at site is v = λ of. elim of [
  | inl store ↦ store
  | inr w ↦ true≢false (sym w.2 ∙ ap (λ (s : SiteState). is_worked_on s w.0) is ∙ ap (λ (b : Bool). b || false) (none_true volumes w.0))
]

-- The work for a start, after its format.
pub works_then : {A T : Type 0} (tells : Type 0) (site after : SiteState) (old mid new : PlantState) (value : A) (r : Result (Unit {0}) Stop) (result : Result T Stop) → ((v : ℕ) → ¬ IsOfMover site (Volume v)) → ((s : Stop) → IsErrOf result s → IsErrOf r s) → ((s : Stop) → IsErrOf r s → IsErrOf result s)
    → IsWorkOfStart {T = A} tells old mid (Ok value) → IsWorkOfStore tells site after mid new r → IfErr result (HasStopCause mid new) → IsWorkOfStart tells old new result
works_then {A} {T} tells site after old mid new value r result unworked to from first then cause = record {
  site = site_trans old mid new first.site then.works.site;
  home = none_lent_lent tells (IsOfMover site) mid new then.works first.home;
  elapses = λ told. elapses_trans Control old mid new (first.elapses told) (then.works.elapses told);
  silent = λ told. silent_trans Control old mid new (first.elapses told) (then.works.elapses told) (first.silent told) (then.works.silent told);
  volumes = record {
    bytes = λ told d. (then.works.others told (Volume d) (unworked d)).bytes ∙ first.volumes.bytes told d;
    images = λ told d.
        same_after (on old (Volume d)) (on mid (Volume d)) (on new (Volume d)) Same ((first.elapses told).kept (Volume d)) (first.volumes.images told d) ((then.works.elapses told).kept (Volume d)) (then.works.others told (Volume d) (unworked d)).images;
  };
  cause = by result cause;
  counts = record {
    devices = λ d of not. then.counts.devices d of (λ fault. not (from (stop_of_device d) fault)) ∙ unfailed d of;
    console = λ not. then.counts.console (λ fault. not (from stops.ConsoleFault fault)) ∙ quiet;
    later = λ d. (let one = first.counts.later d in let two = then.counts.later d in omega (arith, one, two));
    console_later = (let one = first.counts.console_later in let two = then.counts.console_later in omega (arith, one, two));
    console_once = (let one = quiet in let two = then.counts.console_once in omega (arith, one, two));
  };
  spent = λ told is. then.spent told (to stops.Spent is);
}
  where
    unfailed : (d : Device) → IsStore d → mid.faults d ≡ old.faults d
    unfailed d of = first.counts.devices d of (λ fault. absurd (cc fault))

    quiet : mid.console_faults ≡ old.console_faults
    quiet = first.counts.console (λ fault. absurd (cc fault))

    by : (x : Result T Stop) → IfErr x (HasStopCause mid new) → IfErr x (HasStopCause old new)
    by (Ok v) cause = tt
    by (Err stop) cause = cause_before old mid new stop unfailed quiet cause
