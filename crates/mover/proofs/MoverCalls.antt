-- The mover's calls with the deeds of its site: a form, with the group's log or without, and the drops after it.
use Rattle.std.proofs.Common.{◌≡◌, ◌⊎◌, inl, inr, ℕ, ◌≤◌, ◌<◌, Bool, true, false, not, cond, nat_eq, nat_le, nat_lt, ◌==◌, ◌&&◌, ◌||◌, List, [], ◌∷◌, ◌++◌, length, map, Option, Some, Result, Ok, Err, refl, sym, ap, subst, ◌∙◌, arith, true≢false, slice_get, append-nil, append_assoc, OnOk}
use Rattle.std.specs.List.{list_all, list_any}
use Rattle.std.proofs.lemmas.Bool.{and_parts, eqb-false, eqb-true, ltb-false, ltb-true, or_left, or_right}
use Rattle.tod_stamp.specs.declared.stamp.Stamp.{Stamp}
use Rattle.ckd_track.specs.declared.write.Cause.{Cause}
use Rattle.crash_plant.specs.declared.device.Device.TheVariants.{Volume}
use Rattle.crash_plant.specs.Moments.{PlantState}
use Rattle.pair_table.specs.declared.row.PairRow.{PairRow}
use Rattle.pair_table.specs.declared.row.PairState.{PairState}
use Rattle.pair_table.specs.Devices.{is_among}
use Rattle.pair_table.specs.Tables.{Table, none_clash}
use Rattle.pending_queue.specs.Groups.{FormedGroup}
use Rattle.group_state.specs.declared.joining.Forming as forming
use Rattle.group_state.specs.declared.joining.Forming.TheVariants as formings
use Rattle.group_state.specs.Answers.{form_reply}
use Rattle.group_state.specs.Groups.{Shown, shown_in}
use Rattle.group_state.specs.Machine.{Reply}
use Rattle.group_state.specs.Machine.Call.{Form}
use Rattle.group_state.specs.Runs.{Answer, shown_by}
use Rattle.record_rows.specs.Deeds.{Deed, rows_after_deeds, time_meant_after}
use Rattle.record_rows.specs.Deeds.Deed.{Logged, Changed, Marked}
use Rattle.record_rows.specs.GroupRows.{is_shown_done}
use Rattle.record_rows.specs.Hits.{hit_now}
use Rattle.record_rows.proofs.Counting.{once}
use Rattle.pair_table.specs.States.{is_settled}
use Rattle.site_store.specs.DeedChanges.{AreByChanges, deeds_of}
use Rattle.site_store.specs.DoneDeeds.{BeginsDeeds, DoesDeeds}
use Rattle.site_store.specs.Exceptions.{excepted_after}
use Rattle.site_store.specs.DeedLaws.{LeavesInTurn}
use Rattle.site_store.proofs.Moments.{have_begun}
use Rattle.site_store.proofs.Single.{no_call}
use Rattle.site_store.proofs.Turning.{leave_in_turn}
use Rattle.site_store.proofs.Widening.{begins_still, does_still}
use Rattle.fed_logs.specs.LogLaws.{WasShown}
use Rattle.fed_logs.specs.Moves.{AreEntriesLive, AreQuiet, Following, HasRowIn, IsDuplex, IsUnsettled, KeepsCall, KeepsShown, MakesAllDeeds, MakesDeeds, Plans, ShowsNothing, is_mark_due_after, is_plan_shown_done, plans_with_shown}
use Rattle.turn.specs.Turn.{ticketed}
use Rattle.turn_group.specs.Calls.{MadeCall, as_answer}
use Rattle.turn_group.specs.Notes.{is_of_carried}
use Rattle.turn_group.specs.Seats.{MoverCalled, MoverSeatState, mover_after}
use Rattle.site_store.specs.declared.store_error.StoreError.{StoreError}
use Rattle.site_store.specs.Applying.{excepted_by_apply}
use Rattle.site_store.specs.Causes.{FailByCounts}
use Rattle.site_store.specs.Logging.{AreItemsOf, LogsGroup, after_group, log_deeds, rows_before, rows_logged}
use Rattle.site_store.specs.Records.{after_placement}
use Rattle.site_store.specs.Sites.{SiteState}
use Rattle.site_store.specs.Standing.{Leaves, StandsFast}
use Rattle.site_store.proofs.ByPlacements.{RecordPlacement, by_placements, placement_marked}
use Rattle.mover.specs.Dropping.{AreOfControls, Drops, OwesExactly, VolumeDrop, are_states_of, answer_of_drop, drops_from, known_after_drops, stood_duplex}
use Rattle.mover.specs.Groups.{are_none, is_to_log, matures}
use Rattle.mover.specs.Moves.{Fades, AreHitsCounted, BeginsAll, DidAll, IsLeftAfter, IsInStep, IsStillAt, KeepPairs, KeepsAll, KeepsPair, KnowsDuplex, KnowsRows, KnowsSite, LogsEntriesOf, MaySettle, Moved, SiteMoved, are_shown_at_cuts, is_broken_at, is_mark_due, is_shown_at_cut, is_worked_on, untold_hits}
use Rattle.mover.specs.Slots.{is_track_of_mover}
use Rattle.mover.proofs.DeedPairs.{by_deeds_more}
use Rattle.mover.proofs.DropKnown.{knows_after, same_controls}
use Rattle.mover.proofs.InSlots.{slots_logged}
use Rattle.mover.proofs.KeptCalls.{all_then, drops_kept, knows_still, plans_after_drops, quiet_before_all}
use Rattle.mover.proofs.LeftEntries.{live_may, marked_may, quiet_entries}
use Rattle.mover.proofs.LiveRows.{one_is_due, quiet_live}
use Rattle.mover.proofs.LogMoves.{entries_of_live, logged_fewer, logged_rest, logged_still, logged_told, no_entries}
use Rattle.mover.proofs.LogSteps.{LogSteps, follow_of, log_steps}
use Rattle.mover.proofs.MovedOn.{in_rows_alone}
use Rattle.mover.proofs.OwedExactly.{owed_none, owed_once, stood_faded, stood_logged}
use Rattle.mover.proofs.SamePairs.{apart_still, at_of, before, contains_at, fade_pair, none_there}
use Rattle.mover.proofs.SiteCalls.{fast_then, none_waits}
use Rattle.mover.proofs.ToldHits.{hits_rise}

-- ---- a form

abbrev pub form_answer : (limit : Stamp) → forming.Forming → FormedGroup → Answer
form_answer limit r group = record { call = Form limit; reply = form_reply r (shown_in group) }

pub shown_is : (r : forming.Forming) (shown : Shown) → shown_by (form_reply r shown) ≡ Some shown
shown_is formings.Formed shown = refl
shown_is formings.Nothing shown = refl

-- What a form leaves of the mover's seat.
pub record FormsGroup (limit : Stamp) (r : forming.Forming) (group : FormedGroup) (seat turn : MoverSeatState) : Type 0 where
  pub made : MadeCall
  pub answered : as_answer made ≡ form_answer limit r group
  pub calls : turn.calls ≡ seat.calls ++ made ∷ []
  pub last : turn.last ≡ group.cut
  pub known : turn.known ≡ seat.known

pub forms_of : (limit : Stamp) (r : forming.Forming) (group : FormedGroup) (seat turn : MoverSeatState) → MoverCalled seat (Form limit) (form_reply r (shown_in group)) turn → FormsGroup limit r group seat turn
forms_of limit r group seat turn called = record {
  made = ticketed called.ticket (Form limit) (form_reply r (shown_in group));
  answered = refl;
  calls = ap (λ (s : MoverSeatState). s.calls) called.after;
  last = ap (λ (s : MoverSeatState). s.last) called.after ∙ by r;
  known = ap (λ (s : MoverSeatState). s.known) called.after;
}
  where
    by : (r : forming.Forming) → (mover_after called.ticket (Form limit) (form_reply r (shown_in group)) seat).last ≡ group.cut
    by formings.Formed = refl
    by formings.Nothing = refl

-- What was kept of a form by what it shows.
kept_form : (limit : Stamp) (r : forming.Forming) (shown : Shown) (time : ℕ) (rows : List PairRow) (done : Plans) (deeds : List Deed) (rest : Following) → KeepsShown time rows done (Some shown) deeds rest → KeepsCall time rows done (Form limit) (form_reply r shown) deeds rest
kept_form limit r shown time rows done deeds rest kept = subst (λ (o : Option Shown). KeepsShown time rows done o deeds rest) (sym (shown_is r shown)) kept

-- All that was kept of calls was kept of them.
pub makes_of_all : (run : List Answer) (time : ℕ) (rows : List PairRow) (done : Plans) (deeds : List Deed) (end : ℕ) (last : List PairRow) (known : Plans) → MakesAllDeeds time rows done run deeds end last known → MakesDeeds time rows done run deeds
makes_of_all run time rows done deeds end last known all =
    subst (λ (l : List Deed). MakesDeeds time rows done run l) (append-nil deeds) (subst (λ (l : List Answer). MakesDeeds time rows done l (deeds ++ [])) (append-nil run) (all_then end last known [] [] (last, refl) run time rows done deeds all))

-- ---- quiet deeds, and drops after them

duplex_before : (time : ℕ) (rows : List PairRow) (quiet : List Deed) (next : List PairRow) → AreQuiet time rows quiet next → (k v : ℕ) → HasRowIn IsDuplex k v next → HasRowIn IsDuplex k v rows
duplex_before time rows [] next is k v has = subst (HasRowIn IsDuplex k v) is has
duplex_before time rows (Logged cut entries fewer ∷ quiet) next is k v has = absurd is
duplex_before time rows (Changed at fewer ∷ quiet) next is k v has = is.1.duplex k v (duplex_before time fewer quiet next is.2 k v has)
duplex_before time rows (Marked spot ended fewer ∷ quiet) next is k v has = is.0.duplex k v (duplex_before time fewer quiet next is.1 k v has)

module _ (tells : Type 0) (seat : MoverSeatState) (site after : SiteState) (old new : PlantState) (told : hit_now site.failed site.told ≡ []) where
  counted_of : (result : Result (Unit {0}) StoreError) (moved : SiteMoved tells site after old new result) → AreHitsCounted moved.steps old new
  counted_of result moved d low =
      let n = moved.counted d low in
      let none : untold_hits site d ≡ 0 = ap (λ (hit : List ℕ). once (is_among d hit)) told in
      omega (arith, n, none)

  -- The site failed between two calls: no call was made.
  pub kept_fails : (error : StoreError) → SiteMoved tells site after old new (Err error) → Moved tells seat seat site after old new (Err error)
  kept_fails error moved = record {
    gained = [];
    calls = sym (append-nil seat.calls);
    steps = moved.steps;
    changes = λ shown. moved.changes;
    made = λ going. moved.made going [];
    going = tt;
    pairs = by_deeds_more Fades KeepsPair fade_pair site.told (deeds_of moved.steps) moved.fades;
    counted = counted_of (Err error) moved;
    live = quiet_live (is_mark_due site) site.told site.time site.told (deeds_of moved.steps) moved.quiet.0 moved.quiet.1;
    entries = quiet_entries site.told site.time site.told (deeds_of moved.steps) moved.quiet.0 moved.quiet.1;
    makes = λ done knows. moved.quiet;
    all = tt;
    is_left = tt;
    owed = tt;
    due = tt;
    begins = moved.begins;
    did = moved.did;
  }

  -- It did well, and the volumes that are to be dropped were dropped.
  module _ (next : MoverSeatState) (was : List (Option PairState)) (states : are_states_of site.told was) (apart : none_clash site.told ≡ true) (drops : Drops was after.told seat next) (moved : SiteMoved tells site after old new (Ok tt)) where
    abbrev dropped : List VolumeDrop
    dropped = drops_from 0 was after.told

    apart_then : none_clash after.told ≡ true
    apart_then = apart_still site.told after.told moved.all.still apart

    keeps : (done : Plans) → KnowsDuplex site.told done → KeepsAll site after done (map answer_of_drop dropped) (deeds_of moved.steps)
    keeps done knows = record {
      known = plans_after_drops dropped done;
      makes = subst (λ (t : ℕ). MakesAllDeeds site.time site.told done (map answer_of_drop dropped) (deeds_of moved.steps) t after.told (plans_after_drops dropped done)) (sym moved.all.time)
          (subst (λ (l : List Deed). MakesAllDeeds site.time site.told done (map answer_of_drop dropped) l site.time after.told (plans_after_drops dropped done)) (append-nil (deeds_of moved.steps))
          (quiet_before_all site.time (deeds_of moved.steps) [] site.told after.told done (map answer_of_drop dropped) site.time after.told (plans_after_drops dropped done) moved.all.suspends
          (drops_kept was site.told after.told states moved.all.still apart_then site.time done knows still_known)));
      knows = knows_still was site.told after.told states moved.all.still apart_then site.time done knows still_known;
    }
      where
        still_known : KnowsDuplex after.told done
        still_known k v has = knows k v (duplex_before site.time site.told (deeds_of moved.steps) after.told moved.all.suspends k v has)

    pub kept_moved : Moved tells seat next site after old new (Ok tt)
    kept_moved = record {
      gained = drops.gained;
      calls = drops.calls_are;
      steps = moved.steps;
      changes = λ shown. moved.changes;
      made = λ going. moved.made going (map as_answer drops.gained);
      going = moved.going;
      pairs = by_deeds_more Fades KeepsPair fade_pair site.told (deeds_of moved.steps) moved.fades;
      counted = counted_of (Ok tt) moved;
      live = quiet_live (is_mark_due site) site.told site.time site.told (deeds_of moved.steps) after.told moved.all.suspends;
      entries = quiet_entries site.told site.time site.told (deeds_of moved.steps) after.told moved.all.suspends;
      makes = λ done knows. subst (λ (l : List Answer). MakesDeeds site.time site.told done l (deeds_of moved.steps)) (sym drops.are)
          (let k = keeps done knows in makes_of_all (map answer_of_drop dropped) site.time site.told done (deeds_of moved.steps) after.time after.told k.known k.makes);
      all = λ done knows. subst (λ (l : List Answer). KeepsAll site after done l (deeds_of moved.steps)) (sym drops.are) (keeps done knows);
      is_left = moved.is_left;
      owed = subst (λ (l : List Answer). OwesExactly site.told after.told l (deeds_of moved.steps)) (sym drops.are)
          (owed_once was site.told after.told (deeds_of moved.steps) states apart_then (λ place r s at there gone. stood_faded place site.told (deeds_of moved.steps) r moved.fades at));
      due = moved.due;
      begins = moved.begins;
      did = moved.did;
    }

    -- What the mover knows stands to the site again.
    pub kept_knows : (limit : ℕ) → KnowsSite limit seat site → hit_now after.failed after.told ≡ [] → KnowsSite limit next after
    kept_knows limit knows none = record {
      rows = subst (λ (l : List _). KnowsRows l after.told) (sym drops.known) (knows_after was site.told after.told states moved.all.still apart_then seat.known knows.rows);
      controls = omega (arith, knows.controls, ap length drops.known, same_controls dropped seat.known, moved.is_left.controls);
      in_step = record {
        up = omega (arith, knows.in_step.up, ap (λ (s : Stamp). s.0) drops.last, moved.all.time);
        same = elim knows.in_step.same [
          | inl none ↦ inl (none_still none after.told (subst (λ (l : List PairRow). KeepPairs l after.told) none moved.all.still))
          | inr same ↦ inr (ap (λ (s : Stamp). s.0) drops.last ∙ same ∙ sym moved.all.time)
        ];
      };
      below = omega (arith, knows.below, moved.all.time);
      told = none;
    }
      where
        none_still : site.told ≡ [] → (next : List PairRow) → KeepPairs [] next → next ≡ []
        none_still none [] still = refl
        none_still none (s ∷ next) still = absurd still

-- ---- a group that isn't logged

empty_of : {A : Type 0} (l : List A) → are_none l ≡ true → l ≡ []
empty_of [] is = refl
empty_of (x ∷ l) is = absurd cc

-- why a group isn't logged: its cut is below the time that is meant, or at it with nothing to log
abbrev IsLeftOut : FormedGroup → SiteState → Type 0
IsLeftOut group site = (group.cut.0 < site.time) ⊎ ((group.cut.0 ≡ site.time) × (group.entries ≡ []) × (group.breaks ≡ []) × (list_any (matures group) site.told ≡ false))

left_out : (group : FormedGroup) (site : SiteState) → is_to_log group site.time site.told ≡ false → IsLeftOut group site
left_out group site is = by (nat_eq group.cut.0 site.time) refl is
  where
    both : (a b c : Bool) → (not (a && b) || c) ≡ false → (a ≡ true) × (b ≡ true) × (c ≡ false)
    both true true c e = (refl, refl, e)
    both true false c e = absurd cc
    both false b c e = absurd cc

    by : (t : Bool) → nat_eq group.cut.0 site.time ≡ t → cond t (not (are_none group.entries && are_none group.breaks) || list_any (λ r. matures group r) site.told) (nat_lt site.time group.cut.0) ≡ false → IsLeftOut group site
    by true e is = let parts = both (are_none group.entries) (are_none group.breaks) (list_any (λ r. matures group r) site.told) is in inr (eqb-true group.cut.0 site.time e, empty_of group.entries parts.0, empty_of group.breaks parts.1, parts.2)
    by false e is = let other = eqb-false group.cut.0 site.time e in let up = ltb-false site.time group.cut.0 is in inl (omega (arith, other, up))

module _ (tells : Type 0) (limit : Stamp) (r : forming.Forming) (group : FormedGroup) (seat turn : MoverSeatState) (site : SiteState) (plant : PlantState) (f : FormsGroup limit r group seat turn) (knows : KnowsSite limit.0 seat site) (carried : list_all (is_of_carried seat.known) group.entries ≡ true)
    (from : seat.last.0 ≤ group.cut.0) (out : is_to_log group site.time site.told ≡ false) where
  no_rows : group.cut.0 < site.time → site.told ≡ []
  no_rows early = elim knows.in_step.same [
    | inl none ↦ none
    | inr same ↦ absurd (omega (arith, same, from, early))
  ]

  no_row : {is : PairState → Type 0} (k v : ℕ) → group.cut.0 < site.time → HasRowIn is k v site.told → ⊥
  no_row k v early has = let at = at_of site.told has.row has.among in let e : slice_get [] at.0 ≡ Some has.row = ap (λ (l : List PairRow). slice_get l at.0) (sym (no_rows early)) ∙ at.1 in cc e

  -- a row that the group makes duplex isn't among those that are pending or copying
  none_shown_done : list_any (matures group) site.told ≡ false → (k v : ℕ) → HasRowIn IsUnsettled k v site.told → is_plan_shown_done k v (shown_in group) ≡ false
  none_shown_done none k v has =
      let at = at_of site.told has.row has.among in
      let left : (not (is_settled has.row.state) && is_shown_done group has.row) ≡ false = none_there (matures group) site.told at.0 has.row none at.1 in
      let own : is_shown_done group has.row ≡ false = subst (λ (b : Bool). (not b && is_shown_done group has.row) ≡ false) has.state left in
      subst (λ (j : ℕ). is_plan_shown_done j v (shown_in group) ≡ false) has.control (subst (λ (w : ℕ). is_plan_shown_done has.row.control w (shown_in group) ≡ false) has.volume own)

  shows_nothing : ShowsNothing site.time site.told (shown_in group)
  shows_nothing = by (left_out group site out)
    where
      by : IsLeftOut group site → ShowsNothing site.time site.told (shown_in group)
      by (inl early) = record {
        at = omega (arith, early);
        entries = no_entries seat.known site.told group.entries (no_rows early) knows.rows carried;
        plans = λ k v has. absurd (no_row k v early has);
        breaks = λ k v has. absurd (no_row k v early has);
        early = λ k broken. early;
      }
      by (inr same) = record {
        at = omega (arith, same.0);
        entries = same.1;
        plans = none_shown_done same.3;
        breaks = λ k v has. ap (λ (l : List (ℕ × Stamp × Cause)). list_any (λ (b : ℕ × Stamp × Cause). b.0 == k) l) same.2;
        early = λ k broken. absurd (true≢false (sym broken ∙ ap (λ (l : List (ℕ × Stamp × Cause)). list_any (λ (b : ℕ × Stamp × Cause). b.0 == k) l) same.2));
      }

  keeps_nothing : (done : Plans) → KnowsDuplex site.told done → KeepsAll site site done (form_answer limit r group ∷ []) []
  keeps_nothing done known = record {
    known = plans_with_shown (shown_in group) done;
    makes = record {
      quiet = [];
      next = site.told;
      more = [];
      are = refl;
      suspends = refl;
      goes_on = kept_form limit r (shown_in group) site.time site.told done [] (λ t rows p d. MakesAllDeeds t rows p [] d site.time site.told (plans_with_shown (shown_in group) done)) (inl (shows_nothing, (refl, refl, refl)));
    };
    knows = λ k v has. or_left (done k v) (is_plan_shown_done k v (shown_in group)) (known k v has);
  }

  gained_is : map as_answer (f.made ∷ []) ≡ form_answer limit r group ∷ []
  gained_is = λ i. f.answered i ∷ []

  pub unlogged_moved : Moved tells seat turn site site plant plant (Ok tt)
  unlogged_moved = record {
    gained = f.made ∷ [];
    calls = f.calls;
    steps = [];
    changes = λ shown. tt;
    made = λ going. refl;
    going = λ going. going;
    pairs = tt;
    counted = λ d low. omega arith;
    live = tt;
    entries = tt;
    makes = λ done known. subst (λ (l : List Answer). MakesDeeds site.time site.told done l []) (sym gained_is) (let k = keeps_nothing done known in makes_of_all (form_answer limit r group ∷ []) site.time site.told done [] site.time site.told k.known k.makes);
    all = λ done known. subst (λ (l : List Answer). KeepsAll site site done l []) (sym gained_is) (keeps_nothing done known);
    is_left = record { level = refl; controls = refl; table = refl; rows = refl; time = refl };
    owed = subst (λ (l : List Answer). OwesExactly site.told site.told l []) (sym gained_is) (owed_none site.told (form_answer limit r group ∷ []) [] (λ k v. refl));
    due = refl;
    begins = λ told e stands. have_begun plant plant (excepted_by_apply site e) site.told [] (no_call plant (excepted_by_apply site e) site.told);
    did = λ told e stands. record { does = no_call plant (excepted_by_apply site e) site.told; still = e; stands = stands; fewer = λ d x is. is };
  }

  pub unlogged_knows : KnowsSite limit.0 turn site
  unlogged_knows = record {
    rows = subst (λ (l : List _). KnowsRows l site.told) (sym f.known) knows.rows;
    controls = omega (arith, knows.controls, ap length f.known);
    in_step = by (left_out group site out);
    below = knows.below;
    told = knows.told;
  }
    where
      by : IsLeftOut group site → IsInStep turn.last.0 site.time site.told
      by (inl early) = record { up = omega (arith, early, ap (λ (s : Stamp). s.0) f.last); same = inl (no_rows early) }
      by (inr same) = record { up = omega (arith, same.0, ap (λ (s : Stamp). s.0) f.last); same = inr (ap (λ (s : Stamp). s.0) f.last ∙ same.0) }

-- ---- a group that is logged

pub logged_up : (group : FormedGroup) (site : SiteState) → is_to_log group site.time site.told ≡ true → site.time ≤ group.cut.0
logged_up group site is = by (nat_eq group.cut.0 site.time) refl is
  where
    by : (t : Bool) → nat_eq group.cut.0 site.time ≡ t → cond t (not (are_none group.entries && are_none group.breaks) || list_any (λ r. matures group r) site.told) (nat_lt site.time group.cut.0) ≡ true → site.time ≤ group.cut.0
    by true e is = let same = eqb-true group.cut.0 site.time e in omega (arith, same)
    by false e is = let up = ltb-true site.time group.cut.0 is in omega (arith, up)

module _ (tells : Type 0) (limit : Stamp) (r : forming.Forming) (group : FormedGroup) (seat turn : MoverSeatState) (site next : SiteState) (old new : PlantState) (result : Result (Unit {0}) StoreError) (f : FormsGroup limit r group seat turn) (knows : KnowsSite limit.0 seat site) (apart : none_clash site.told ≡ true) (idle : site.waiting ≡ []) (marked : site.since ≡ 0)
    (is_logged : is_to_log group site.time site.told ≡ true) (carried : list_all (is_of_carried seat.known) group.entries ≡ true) (logs : LogsGroup tells group site next old new result) (leaves : OnOk result (Leaves tells (λ e. e) site next old new)) (fails : FailByCounts site.failed next.failed old.faults new.faults) (later : (d : ℕ) → old.faults (Volume d) ≤ new.faults (Volume d)) where
  abbrev placement : RecordPlacement
  placement = logs.placement

  abbrev early : List Bool
  early = logs.logs.early

  abbrev shown : Shown
  shown = shown_in group

  abbrev rows : List PairRow
  rows = rows_logged placement site group early next.failed

  abbrev deeds : List Deed
  deeds = log_deeds placement site group early next.failed

  pub steps : LogSteps group site placement early next.failed
  steps = log_steps group site early next.failed apart placement logs.logs.early_failed

  up : site.time ≤ group.cut.0
  up = logged_up group site is_logged

  changes : (answers : List Answer) → are_shown_at_cuts (form_answer limit r group ∷ answers) ≡ true → AreByChanges site.level site.time site.told steps.steps
  changes answers shown_at = steps.changes (by r (and_parts (is_shown_at_cut (form_answer limit r group)) (are_shown_at_cuts answers) shown_at).0) up
    where
      by : (r : forming.Forming) → is_shown_at_cut (form_answer limit r group) ≡ true → list_all (is_broken_at group.cut.0) group.breaks ≡ true
      by formings.Formed is = is
      by formings.Nothing is = is

  counted : AreHitsCounted steps.steps old new
  counted d low =
      let most = steps.hit d in
      let rise = hits_rise site.failed next.failed old.faults new.faults fails d site.told low (later d) in
      let none : once (is_among d (hit_now site.failed site.told)) ≡ 0 = ap (λ (hit : List ℕ). once (is_among d hit)) knows.told in
      omega (arith, most, rise, none)

  -- The entries are of rows that are live when the group is formed. No mark is due then.
  live : AreEntriesLive (is_mark_due site) site.told (deeds_of steps.steps)
  live =
      let entries = entries_of_live seat.known site.told group.entries knows.rows carried in
      subst (λ (due : Bool). AreEntriesLive due site.told (deeds_of steps.steps)) (sym (ap (nat_le 1) marked)) (subst (AreEntriesLive false site.told) (sym steps.deeds_are)
      (by_placements (λ (w : RecordPlacement). AreEntriesLive false site.told (log_deeds w site group early next.failed)) (entries, tt) (entries, tt) (entries, tt) placement))

  -- A mark that is made first suspends none of these but by its own device.
  left_entries : LogsEntriesOf site.told (deeds_of steps.steps)
  left_entries =
      let entries = entries_of_live seat.known site.told group.entries knows.rows carried in
      let plain : LogsEntriesOf site.told (Logged group.cut.0 group.entries rows ∷ []) = (λ k d low. live_may site.told (entries k d low), tt) in
      let marked : LogsEntriesOf site.told (log_deeds placement_marked site group early next.failed) = (λ k d low. marked_may site.time (hit_now early site.told) site.told (entries k d low), tt) in
      subst (LogsEntriesOf site.told) (sym steps.deeds_are) (by_placements (λ (w : RecordPlacement). LogsEntriesOf site.told (log_deeds w site group early next.failed)) plain plain marked placement)

  begins : tells → BeginsAll site (deeds_of steps.steps) old new
  begins told e stands = subst (λ (l : List Deed). BeginsDeeds (excepted_by_apply site e) site.told l old new) (sym steps.deeds_are)
      (begins_still old new e (excepted_by_apply site e) site.told (λ d x is. sym (none_waits site e d x idle) ∙ is) deeds (logs.logs.does.begins told e stands))

  -- The form is kept by the log.
  kept : (done : Plans) (rest : Following) → rest group.cut.0 rows (plans_with_shown shown done) [] → KeepsCall site.time site.told done (Form limit) (form_reply r shown) (deeds_of steps.steps) rest
  kept done rest goes_on = kept_form limit r shown site.time site.told done (deeds_of steps.steps) rest (inr (record {
    quiet = steps.quiet;
    mid = rows_before placement site early;
    next = rows;
    later = [];
    are = steps.deeds_are ∙ steps.are;
    suspends = steps.suspends;
    up = up;
    live = entries_of_live seat.known site.told group.entries knows.rows carried;
    marks = steps.marks;
    follow = follow_of group next.failed (rows_before placement site early) rows steps.told steps.grouped;
    goes_on = goes_on;
  }))

  made_is : (drops : List MadeCall) → map as_answer (f.made ∷ drops) ≡ form_answer limit r group ∷ map as_answer drops
  made_is drops = λ i. f.answered i ∷ map as_answer drops

  -- The form showed the group.
  was_shown : (drops : List MadeCall) → WasShown (map as_answer (f.made ∷ drops)) (shown_in group)
  was_shown drops = record {
    answer = as_answer f.made;
    among = contains_at (map as_answer (f.made ∷ drops)) 0 (as_answer f.made) refl;
    shows = ap (λ (a : Answer). shown_by a.reply) f.answered ∙ shown_is r (shown_in group);
  }

  -- The site failed while the group was logged.
  pub log_fails : (error : StoreError) → result ≡ Err error → Moved tells seat turn site next old new result
  log_fails error is = subst (λ (r : Result (Unit {0}) StoreError). Moved tells seat turn site next old new r) (sym is) (record {
    gained = f.made ∷ [];
    calls = f.calls;
    steps = steps.steps;
    changes = λ shown_at. changes [] (ap are_shown_at_cuts (sym (made_is [])) ∙ shown_at);
    made = λ going. steps.made (map as_answer (f.made ∷ [])) (was_shown []) up is_logged going;
    going = tt;
    pairs = steps.pairs;
    counted = counted;
    live = live;
    entries = left_entries;
    makes = λ done known. subst (λ (l : List Answer). MakesDeeds site.time site.told done l (deeds_of steps.steps)) (sym (made_is [])) (record {
      quiet = [];
      next = site.told;
      more = deeds_of steps.steps;
      are = refl;
      suspends = refl;
      goes_on = inr (kept done (λ t rows p d. MakesDeeds t rows p [] d) (rows, refl));
    });
    all = tt;
    is_left = tt;
    owed = tt;
    due = tt;
    begins = begins;
    did = λ told. tt;
  })

  -- The group was logged, and then the volumes that are to be dropped were dropped.
  module _ (is : result ≡ Ok tt) where
    at_ok : {A : Type 0} → OnOk result A → A
    at_ok {A} a = subst (λ (r : Result (Unit {0}) StoreError). OnOk r A) is a

    items : AreItemsOf tells group next.failed (rows_before placement site early) next.told old next.waiting
    items = at_ok logs.logs.items

    is_next : next ≡ after_group old.journals placement group next.waiting early next.failed site
    is_next = at_ok logs.logs.next_is

    told_is : next.told ≡ rows
    told_is = ap (λ (s : SiteState). s.told) is_next

    time_is : next.time ≡ group.cut.0
    time_is = ap (λ (s : SiteState). s.time) is_next

    pub log_still : KeepPairs site.told next.told
    log_still = logged_still tells group site next placement early old idle steps items is_next

    apart_next : none_clash next.told ≡ true
    apart_next = apart_still site.told next.told log_still apart

    pub log_level : next.is_ahead ≡ false
    log_level = ap (λ (s : SiteState). s.is_ahead) is_next

    pub log_rest : (v : ℕ) → is_worked_on next v ≡ true → is_worked_on site v ≡ true
    log_rest = logged_rest tells group site next placement early old idle steps items is_next

    pub log_slots : (v x : ℕ) → is_track_of_mover next v x ≡ true → is_track_of_mover site v x ≡ true
    log_slots = slots_logged tells group next.failed seat.known site next (rows_before placement site early) old knows.rows carried steps.still log_still items

    module _ (end : MoverSeatState) (was : List (Option PairState)) (states : are_states_of site.told was) (drops : Drops was next.told turn end) where
      abbrev dropped_next : List VolumeDrop
      dropped_next = drops_from 0 was next.told

      abbrev gained : List MadeCall
      gained = f.made ∷ drops.gained

      abbrev run : List Answer
      run = form_answer limit r group ∷ map answer_of_drop dropped_next

      run_is : map as_answer gained ≡ run
      run_is = made_is drops.gained ∙ (λ i. form_answer limit r group ∷ drops.are i)

      duplex_then : (done : Plans) → KnowsDuplex site.told done → KnowsDuplex next.told (plans_with_shown shown done)
      duplex_then done known k v has = elim ((follow_of group next.failed (rows_before placement site early) rows steps.told steps.grouped).duplex k v (subst (HasRowIn IsDuplex k v) told_is has)) [
        | inl was ↦ or_left (done k v) (is_plan_shown_done k v shown) (known k v (duplex_before site.time site.told steps.quiet (rows_before placement site early) steps.suspends k v was))
        | inr now ↦ or_right (done k v) (is_plan_shown_done k v shown) now
      ]

      keeps_logged : (done : Plans) → KnowsDuplex site.told done → KeepsAll site next done run (deeds_of steps.steps)
      keeps_logged done known = record {
        known = plans_after_drops dropped_next then;
        makes = record {
          quiet = [];
          next = site.told;
          more = deeds_of steps.steps;
          are = refl;
          suspends = refl;
          goes_on = kept done (λ t rows p d. MakesAllDeeds t rows p (map answer_of_drop dropped_next) d next.time next.told (plans_after_drops dropped_next then))
              (subst (λ (t : ℕ). MakesAllDeeds group.cut.0 rows then (map answer_of_drop dropped_next) [] t next.told (plans_after_drops dropped_next then)) (sym time_is)
              (subst (λ (l : List PairRow). MakesAllDeeds group.cut.0 l then (map answer_of_drop dropped_next) [] group.cut.0 next.told (plans_after_drops dropped_next then)) told_is
              (drops_kept was site.told next.told states log_still apart_next group.cut.0 then (λ k v has. or_left (done k v) (is_plan_shown_done k v shown) (known k v has)) (duplex_then done known))));
        };
        knows = knows_still was site.told next.told states log_still apart_next group.cut.0 then (λ k v has. or_left (done k v) (is_plan_shown_done k v shown) (known k v has)) (duplex_then done known);
      }
        where
          then : Plans
          then = plans_with_shown shown done

      -- After it a mark is due.
      due : is_mark_due next ≡ is_mark_due_after (is_mark_due site) (deeds_of steps.steps)
      due =
          ap is_mark_due is_next ∙ one_is_due (after_placement placement site).since ∙ sym (ap (is_mark_due_after (is_mark_due site)) steps.deeds_are ∙ due_by placement)
        where
          due_by : (w : RecordPlacement) → is_mark_due_after (is_mark_due site) (log_deeds w site group early next.failed) ≡ true
          due_by = by_placements (λ (w : RecordPlacement). is_mark_due_after (is_mark_due site) (log_deeds w site group early next.failed) ≡ true) refl refl refl

      is_left : IsLeftAfter site next (deeds_of steps.steps)
      is_left = record {
        level = ap (λ (s : SiteState). s.level) is_next ∙ level_of placement;
        controls = ap (λ (s : SiteState). s.controls) is_next ∙ controls_of placement;
        table = in_rows_alone site.table next.table rows (ap (λ (s : SiteState). s.table) is_next);
        rows = told_is ∙ sym turn_by.rows_are ∙ ap (λ (l : List Deed). rows_after_deeds l site.told) (sym all_deeds);
        time = time_is ∙ sym (turn_by.time site.time) ∙ ap (λ (l : List Deed). time_meant_after l site.time) (sym all_deeds);
      }
        where
          level_of : (w : RecordPlacement) → (after_placement w site).level ≡ site.level
          level_of = by_placements (λ (w : RecordPlacement). (after_placement w site).level ≡ site.level) refl refl refl

          controls_of : (w : RecordPlacement) → (after_placement w site).controls ≡ site.controls
          controls_of = by_placements (λ (w : RecordPlacement). (after_placement w site).controls ≡ site.controls) refl refl refl

          record_deed : List Deed
          record_deed = Logged group.cut.0 group.entries rows ∷ []

          all_deeds : deeds_of steps.steps ≡ steps.quiet ++ record_deed
          all_deeds = steps.deeds_are ∙ steps.are

          turn_by : LeavesInTurn steps.quiet record_deed (λ d x. false) site.told
          turn_by = leave_in_turn steps.quiet record_deed (λ d x. false) site.told

      did : tells → DidAll site next (deeds_of steps.steps) old new
      did told e stands = record {
        does = subst (λ (l : List Deed). DoesDeeds (excepted_by_apply site e) site.told l old new) (sym steps.deeds_are)
            (does_still old new e (excepted_by_apply site e) site.told (λ d x is. sym (none_waits site e d x idle) ∙ is) deeds (at_ok (logs.logs.does.does told) e stands));
        still = e;
        stands = (at_ok leaves).stands told e stands;
        fewer = λ d x is. logged_fewer tells group site next placement early old idle steps items is_next e d x (ap (λ (l : List Deed). excepted_after site.told l (excepted_by_apply site e) d x) (sym steps.deeds_are) ∙ is);
      }

      owed_run : OwesExactly site.told next.told run (deeds_of steps.steps)
      owed_run = owed_once was site.told next.told (deeds_of steps.steps) states apart_next (λ place r s at there gone.
          ap (stood_duplex place site.told) (steps.deeds_are ∙ steps.are)
          ∙ stood_logged place site.told steps.quiet (Logged group.cut.0 group.entries rows) r s steps.fades at (ap (λ (l : List PairRow). slice_get l place) (sym told_is) ∙ there) gone)

      pub log_moved : Moved tells seat end site next old new (Ok tt)
      log_moved = record {
        gained = gained;
        calls = drops.calls_are ∙ ap (λ (l : List MadeCall). l ++ drops.gained) f.calls ∙ append_assoc seat.calls (f.made ∷ []) drops.gained;
        steps = steps.steps;
        changes = λ shown_at. changes (map answer_of_drop dropped_next) (ap are_shown_at_cuts (sym run_is) ∙ shown_at);
        made = λ going. steps.made (map as_answer gained) (was_shown drops.gained) up is_logged going;
        going = λ going. ap (λ (s : SiteState). s.mark.ended) is_next ∙ by_placements (λ (w : RecordPlacement). (after_placement w site).mark.ended ≡ site.mark.ended) refl refl refl placement ∙ going;
        pairs = steps.pairs;
        counted = counted;
        live = live;
        entries = left_entries;
        makes = λ done known. subst (λ (l : List Answer). MakesDeeds site.time site.told done l (deeds_of steps.steps)) (sym run_is) (let k = keeps_logged done known in makes_of_all run site.time site.told done (deeds_of steps.steps) next.time next.told k.known k.makes);
        all = λ done known. subst (λ (l : List Answer). KeepsAll site next done l (deeds_of steps.steps)) (sym run_is) (keeps_logged done known);
        is_left = is_left;
        owed = subst (λ (l : List Answer). OwesExactly site.told next.told l (deeds_of steps.steps)) (sym run_is) owed_run;
        due = due;
        begins = begins;
        did = did;
      }

      pub log_may : group.cut.0 ≤ limit.0 → StandsFast tells site old → MaySettle tells limit.0 end next new
      log_may low fast = record {
        fast = fast_then tells (λ e. e) site next old new fast (at_ok leaves);
        level = log_level;
        knows = record {
          rows = subst (λ (l : List _). KnowsRows l next.told) (sym known_is) (knows_after was site.told next.told states log_still apart_next turn.known (subst (λ (l : List _). KnowsRows l site.told) (sym f.known) knows.rows));
          controls = omega (arith, knows.controls, ap length known_is, same_controls dropped_next turn.known, ap length f.known, is_left.controls);
          in_step = record { up = omega (arith, last_is, time_is); same = inr (last_is ∙ sym time_is) };
          below = omega (arith, low, time_is);
          told = logged_told tells group site next placement early old idle steps items is_next;
        };
      }
        where
          known_is : end.known ≡ known_after_drops dropped_next turn.known
          known_is = drops.known

          last_is : end.last.0 ≡ group.cut.0
          last_is = ap (λ (s : Stamp). s.0) (drops.last ∙ f.last)

-- ---- no call

pub nothing_done : (tells : Type 0) (seat : MoverSeatState) (site : SiteState) (plant : PlantState) → Moved tells seat seat site site plant plant (Ok tt)
nothing_done tells seat site plant = record {
  gained = [];
  calls = sym (append-nil seat.calls);
  steps = [];
  changes = λ shown. tt;
  made = λ going. refl;
  going = λ going. going;
  pairs = tt;
  counted = λ d low. omega arith;
  live = tt;
  entries = tt;
  makes = λ done known. (site.told, refl);
  all = λ done known. record { known = done; makes = (refl, refl, refl); knows = known };
  is_left = record { level = refl; controls = refl; table = refl; rows = refl; time = refl };
  owed = owed_none site.told [] [] (λ k v. refl);
  due = refl;
  begins = λ told e stands. have_begun plant plant (excepted_by_apply site e) site.told [] (no_call plant (excepted_by_apply site e) site.told);
  did = λ told e stands. record { does = no_call plant (excepted_by_apply site e) site.told; still = e; stands = stands; fewer = λ d x is. is };
}

-- ---- the site's own rows

-- The table has the rows that the devices tell.
pub table_rows : (site : SiteState) (table : Table) → table ≡ site.table → (site.is_ahead ≡ false → site.told ≡ site.table.rows) → site.is_ahead ≡ false → table.rows ≡ site.told
table_rows site table is told level = ap (λ (t : Table). t.rows) is ∙ sym (told level)

pub states_told : (site : SiteState) (told : List PairRow) (was : List (Option PairState)) → told ≡ site.told → are_states_of told was → are_states_of site.told was
states_told site told was is states = subst (λ (l : List PairRow). are_states_of l was) is states

pub controls_still : (n : ℕ) (rows next : List PairRow) → KeepPairs rows next → AreOfControls n rows → AreOfControls n next
controls_still n rows next still are r has =
    let at = at_of next r has in
    let b = before KeepsPair rows next at.0 r still at.1 in
    let low = are b.row (contains_at rows at.0 b.row b.at) in
    let same : r.control ≡ b.row.control = ap (λ (x : PairRow). x.control) b.is.same in
    omega (arith, low, same)

-- ---- the site comes to rest, and volumes are dropped

module _ (tells : Type 0) (seat : MoverSeatState) (site after : SiteState) (old new : PlantState) (result : Result (Unit {0}) StoreError) (moved : SiteMoved tells site after old new result) where
  pub settle_fails : (told : hit_now site.failed site.told ≡ []) (error : StoreError) (is : result ≡ Err error) (end : Result (Unit {0}) StoreError) → result ≡ end → Moved tells seat seat site after old new end
  settle_fails told error is end same = subst (λ (r : Result (Unit {0}) StoreError). Moved tells seat seat site after old new r) (sym is ∙ same)
      (kept_fails tells seat site after old new told error (subst (λ (r : Result (Unit {0}) StoreError). SiteMoved tells site after old new r) is moved))

  -- It did well.
  module _ (is : result ≡ Ok tt) where
    pub well : SiteMoved tells site after old new (Ok tt)
    well = subst (λ (r : Result (Unit {0}) StoreError). SiteMoved tells site after old new r) is moved

    pub well_still : KeepPairs site.told after.told
    well_still = well.all.still

-- ---- a form leaves the seat at its table

pub stays_formed : (limit : Stamp) (reply : Reply) (seat turn : MoverSeatState) → MoverCalled seat (Form limit) reply turn → IsStillAt seat turn
stays_formed limit reply seat turn called = record {
  here = ap (λ (s : MoverSeatState). s.table) called.after;
  begun = ap (λ (s : MoverSeatState). s.first) called.after;
  all = ap (λ (s : MoverSeatState). s.seats) called.after;
  controls = ap (λ (s : MoverSeatState). length s.known) called.after;
}

pub on_err : (A : Type 0) (r : Result (Unit {0}) StoreError) (error : StoreError) → r ≡ Err error → OnOk r A
on_err A r error is = subst (λ (r : Result (Unit {0}) StoreError). OnOk r A) (sym is) tt
