-- An epoch for whose table there is no memory: no call is made, and nothing is done.
use Rattle.std.proofs.Common.{◌≡◌, ◌<◌, ◌≤◌, ℕ, zero, suc, List, [], length, Option, Some, None, refl, sym, subst, arith}
use Rattle.std.specs.Prelude.{IsSomeAnd, slice_index_or, take}
use Rattle.crash_plant.specs.Moments.{PlantState}
use Rattle.write_trace.specs.declared.trace.Trace.{Trace}
use Rattle.group_state.specs.Groups.{Group}
use Rattle.group_state.specs.SoundStates.{IsGroupSound}
use Rattle.record_rows.specs.Deeds.{time_meant_after}
use Rattle.site_store.proofs.Moments.{have_begun}
use Rattle.site_store.proofs.Single.{no_call}
use Rattle.fed_logs.specs.Logs.{IsFedLog}
use Rattle.fed_logs.specs.Reads.{ReadsOn}
use Rattle.fed_logs.proofs.InTurn.{reads_nothing}
use Rattle.site_store.specs.Sites.{SiteState}
use Rattle.mover.specs.declared.ends.EpochEnd.TheVariants as ends
use Rattle.mover.specs.declared.lane.Lane.{Lane}
use Rattle.mover.specs.Readers.{LaneReaderState}
use Rattle.mover.specs.Lanes.{HasFaultFrom, IsReaderOf}
use Rattle.mover.specs.Rounds.{AreLanesOf}
use Rattle.mover.specs.Epochs.{AllTurnOut, BearsAfter, EpochGoes, EpochRun, HoldsAfter, LaneWent, Shows}
use Rattle.mover.proofs.LaneFeeds.{log_is_fed}
use Rattle.mover.proofs.Numbers.{none_used}
use Rattle.mover.proofs.OwedExactly.{owed_none}
use Rattle.mover.proofs.Parts.{no_fault}

module _ {S : Type 0} (tells : Type 0) (left : S → Option (List ℕ)) (faults : S → ℕ) (limit : ℕ) (first : Group) (lanes : List (Lane S)) (site : SiteState) (plant : PlantState) (are : AreLanesOf first limit lanes) (low : site.time ≤ limit) where
  lane_none : (k : ℕ) (d : Lane S) → k < length lanes → LaneWent left faults [] (slice_index_or lanes k d) (slice_index_or lanes k d)
  lane_none k d below = of (slice_index_or lanes k d).reader (are.each k d below)
    where
      a : Lane S
      a = slice_index_or lanes k d

      of : (p : Option LaneReaderState) → IsSomeAnd p (IsReaderOf first k limit) → IsSomeAnd p (λ r. IsSomeAnd p (λ s. ReadsOn (left a.source) (left a.source) r.feed s.feed [] × HasFaultFrom r.feed.halted (faults a.source) (faults a.source) s.feed.halted))
      of None is = absurd is
      of (Some r) is = (reads_nothing (left a.source) r.feed, no_fault r.feed.halted (faults a.source))

  abbrev none_ran : EpochRun left faults limit first lanes lanes site site plant plant ends.NoMemory
  none_ran = record {
    log = [];
    end = first;
    runs = refl;
    seats = refl;
    limited = refl;
    ended = tt;
    lanes = lane_none;
    steps = [];
    changes = tt;
    made = λ goes_on. refl;
    pairs = tt;
    counted = λ d fewer. omega arith;
    live = tt;
    entries = tt;
    makes = λ done knows. (site.told, refl);
    all = λ done knows. record { known = done; makes = (refl, refl, refl); knows = knows };
    is_left = record { level = refl; controls = refl; table = refl; rows = refl; time = refl };
    owed = owed_none site.told [] [] (λ k v. refl);
    numbers = none_used site;
  }

  none_shows : Shows site site [] plant plant ends.NoMemory
  none_shows = record { begins = λ excepted stands. have_begun plant plant excepted site.told [] (no_call plant excepted site.told); did = tt }

  fed_none : (traces : List Trace) → IsGroupSound first → AllTurnOut left traces lanes lanes → IsFedLog traces first first []
  fed_none traces keeps turns = log_is_fed left faults first first limit [] lanes lanes keeps refl refl are lane_none traces turns

  none_bears : BearsAfter left limit first first lanes lanes site [] []
  none_bears = record {
    fed = fed_none;
    up_to = λ traces none_held turns k t there. refl;
    tracks = λ size traces held done keeps turns knows begins n few. subst (λ (m : ℕ). HoldsAfter size traces held site [] m) (sym (at_none n few)) begins.truth;
    breaks = λ traces keeps turns n few k b t there breaks awaits late early. absurd (late_or_early n few b late early);
    times = λ n m nm few. (rises n m nm few, subst (λ (m : ℕ). time_meant_after (take m []) site.time ≤ limit) (sym (at_none m few)) low);
    each = λ run level goes_on apart keeps turns broke. record { each = tt; due = refl };
  }
    where
      at_none : (n : ℕ) → n ≤ 0 → n ≡ 0
      at_none n few = omega (arith, few)

      late_or_early : (n : ℕ) → n ≤ 0 → (b : ℕ) → site.time ≤ b → b < time_meant_after (take n []) site.time → ⊥
      late_or_early zero few b late early = omega (arith, late, early)
      late_or_early (suc n) few b late early = omega (arith, few)

      rises : (n m : ℕ) → n ≤ m → m ≤ 0 → time_meant_after (take n []) site.time ≤ time_meant_after (take m []) site.time
      rises zero zero nm few = omega arith
      rises zero (suc m) nm few = absurd (omega (arith, few))
      rises (suc n) zero nm few = absurd (omega (arith, nm))
      rises (suc n) (suc m) nm few = absurd (omega (arith, few))

  pub none_goes : EpochGoes tells left faults limit first lanes lanes site site plant plant ends.NoMemory
  none_goes = record { ran = none_ran; shows = λ told. none_shows; bears = none_bears }
