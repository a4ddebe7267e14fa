-- What the mover and its site did, one after another.
use Rattle.std.proofs.Common.{◌≡◌, ℕ, ◌+◌, ◌≤◌, Bool, true, false, not, ◌&&◌, ◌||◌, List, [], ◌∷◌, ◌++◌, map, Result, Ok, Err, refl, sym, ap, subst, ◌∙◌, arith, append_assoc, OnOk}
use Rattle.std.specs.List.{list_any}
use Rattle.std.proofs.lemmas.Bool.{and_from, and_parts}
use Rattle.std.proofs.lemmas.List.Elements.{Contains-append_left, Contains-append_right}
use Rattle.crash_plant.specs.declared.device.Device.TheVariants.{Volume}
use Rattle.crash_plant.specs.Moments.{PlantState}
use Rattle.pair_table.specs.declared.level.Level.{Level}
use Rattle.pair_table.specs.declared.row.PairRow.{PairRow}
use Rattle.pair_table.specs.Tables.{Table, with_rows}
use Rattle.group_state.specs.Runs.{Answer}
use Rattle.row_changes.specs.Changes.{Timed}
use Rattle.row_changes.specs.Changes.Due.{NoneDue}
use Rattle.row_changes.specs.Spans.{hit_count}
use Rattle.record_rows.specs.Deeds.{Deed, entries_by_deed, rows_after_deeds, rows_by_deed, time_by_deed, time_meant_after}
use Rattle.record_rows.proofs.Counting.{counts_append}
use Rattle.site_store.specs.DeedChanges.{AreByChanges, DeedOfChanges, changes_of, deeds_of}
use Rattle.site_store.specs.DoneDeeds.{BeginsDeeds, DoesDeeds}
use Rattle.site_store.specs.Exceptions.{Exceptions, excepted_after, excepted_by_deed, is_kept, is_whole_on}
use Rattle.site_store.proofs.Composing.{begin_after, go_on}
use Rattle.site_store.proofs.Turning.{exceptions_in_turn, leave_in_turn}
use Rattle.site_store.proofs.Widening.{begins_still, does_still}
use Rattle.fed_logs.specs.Moves.{AreEntriesLive, AreQuiet, MakesAllDeeds, MakesDeeds, is_mark_due_after}
use Rattle.fed_logs.proofs.LiveEntries.{live_in_turn}
use Rattle.turn_group.specs.Calls.{MadeCall, as_answer}
use Rattle.turn_group.specs.Seats.{MoverSeatState}
use Rattle.site_store.specs.declared.store_error.StoreError.{StoreError}
use Rattle.site_store.specs.Applying.{excepted_by_apply}
use Rattle.site_store.specs.Sites.{SiteState}
use Rattle.mover.specs.Dropping.{OwesExactly}
use Rattle.mover.specs.Moves.{Fades, InPlacesByDeeds, KeepsPair, SessionGoesOn, AreHitsToldBy, BeginsAll, DidAll, IsLeftAfter, IsQuiet, LogsEntriesOf, MakesAll, Moved, SiteMoved, are_shown_at_cuts, is_mark_due, is_shown_at_cut, none_untold, untold_hits}
use Rattle.mover.specs.Steps.{AreMade}
use Rattle.mover.proofs.KeptCalls.{all_then, all_then_all, quiet_then}
use Rattle.mover.proofs.Making.{made_more, made_then}
use Rattle.mover.proofs.DeedPairs.{by_deeds_then}
use Rattle.mover.proofs.LeftEntries.{entries_then}
use Rattle.mover.proofs.LiveRows.{due_append, live_by_deeds}
use Rattle.mover.proofs.OwedExactly.{owed_then}
use Rattle.mover.proofs.SamePairs.{still_then}

-- ---- deeds with their changes

pub deeds_append : (a b : List DeedOfChanges) → deeds_of (a ++ b) ≡ deeds_of a ++ deeds_of b
deeds_append [] b = refl
deeds_append (s ∷ a) b = λ i. s.deed ∷ deeds_append a b i

pub changes_append : (a b : List DeedOfChanges) → changes_of (a ++ b) ≡ changes_of a ++ changes_of b
changes_append [] b = refl
changes_append (s ∷ a) b = ap (λ (l : List Timed). s.changes ++ l) (changes_append a b) ∙ sym (append_assoc s.changes (changes_of a) (changes_of b))

-- What each deed keeps is kept by both parts' deeds.
by_deeds_on : (R : PairRow → PairRow → Type 0) (site mid : SiteState) (a b : List DeedOfChanges) → mid.told ≡ rows_after_deeds (deeds_of a) site.told → InPlacesByDeeds R site.told (deeds_of a) → InPlacesByDeeds R mid.told (deeds_of b) → InPlacesByDeeds R site.told (deeds_of (a ++ b))
by_deeds_on R site mid a b rows first then =
    subst (InPlacesByDeeds R site.told) (sym (deeds_append a b)) (by_deeds_then R (deeds_of a) (deeds_of b) site.told first (subst (λ (l : List PairRow). InPlacesByDeeds R l (deeds_of b)) rows then))

-- A mark is due after both parts exactly if one is after the second, from what the first leaves.
due_then : (site mid after : SiteState) (a b : List DeedOfChanges) → is_mark_due mid ≡ is_mark_due_after (is_mark_due site) (deeds_of a) → is_mark_due after ≡ is_mark_due_after (is_mark_due mid) (deeds_of b) → is_mark_due after ≡ is_mark_due_after (is_mark_due site) (deeds_of (a ++ b))
due_then site mid after a b first then =
    then ∙ ap (λ (due : Bool). is_mark_due_after due (deeds_of b)) first ∙ sym (due_append (is_mark_due site) (deeds_of a) (deeds_of b)) ∙ ap (is_mark_due_after (is_mark_due site)) (sym (deeds_append a b))

-- Entries of both parts are of live rows.
live_then : (site mid : SiteState) (a b : List DeedOfChanges) → InPlacesByDeeds KeepsPair site.told (deeds_of a) → mid.told ≡ rows_after_deeds (deeds_of a) site.told → is_mark_due mid ≡ is_mark_due_after (is_mark_due site) (deeds_of a)
    → AreEntriesLive (is_mark_due site) site.told (deeds_of a) → AreEntriesLive (is_mark_due mid) mid.told (deeds_of b) → AreEntriesLive (is_mark_due site) site.told (deeds_of (a ++ b))
live_then site mid a b pairs rows due first then =
    subst (AreEntriesLive (is_mark_due site) site.told) (sym (deeds_append a b))
    (live_in_turn (is_mark_due site) site.told (deeds_of a) (deeds_of b) (live_by_deeds site.told (deeds_of a) pairs) first
    (subst (λ (d : Bool). AreEntriesLive d (rows_after_deeds (deeds_of a) site.told) (deeds_of b)) due (subst (λ (r : List PairRow). AreEntriesLive (is_mark_due mid) r (deeds_of b)) rows then)))

pub by_changes_then : (level : Level) (time : ℕ) (rows : List PairRow) (a b : List DeedOfChanges) → AreByChanges level time rows a → AreByChanges level (time_meant_after (deeds_of a) time) (rows_after_deeds (deeds_of a) rows) b → AreByChanges level time rows (a ++ b)
by_changes_then level time rows [] b are then = then
by_changes_then level time rows (s ∷ a) b are then = (are.0, by_changes_then level (time_by_deed time s.deed) (rows_by_deed s.deed) a b are.1 then)

-- ---- exceptions

fewer_here : (lost whole more excepted : Bool) → (more ≡ false → excepted ≡ false) → (lost || (more && not whole)) ≡ false → (lost || (excepted && not whole)) ≡ false
fewer_here true whole more excepted fewer is = absurd cc
fewer_here false true true true fewer is = refl
fewer_here false true true false fewer is = refl
fewer_here false true false excepted fewer is = rw (fewer refl) refl
fewer_here false false true excepted fewer is = absurd cc
fewer_here false false false excepted fewer is = rw (fewer refl) refl

-- After deeds fewer tracks are excepted where fewer were before them.
pub fewer_after : (rows : List PairRow) (deeds : List Deed) (excepted more : Exceptions) → ((d x : ℕ) → more d x ≡ false → excepted d x ≡ false) → (d x : ℕ) → excepted_after rows deeds more d x ≡ false → excepted_after rows deeds excepted d x ≡ false
fewer_after rows [] excepted more fewer d x is = fewer d x is
fewer_after rows (deed ∷ deeds) excepted more fewer d x is =
    fewer_after (rows_by_deed deed) deeds (excepted_by_deed rows deed excepted) (excepted_by_deed rows deed more)
    (λ d x is. fewer_here (not (is_kept d (rows_by_deed deed))) (list_any (is_whole_on rows d x) (entries_by_deed deed)) (more d x) (excepted d x) (fewer d x) is) d x is

-- ---- a site's deeds in turn

-- A table with other rows is so with its own.
pub in_rows_alone : (table next : Table) (rows : List PairRow) → next ≡ with_rows table rows → next ≡ with_rows table next.rows
in_rows_alone table next rows is = is ∙ ap (λ (t : Table). with_rows table t.rows) (sym is)

-- what is meant of a site after calls in turn
pub after_then : (site mid next : SiteState) (a b : List Deed) → IsLeftAfter site mid a → IsLeftAfter mid next b → IsLeftAfter site next (a ++ b)
after_then site mid next a b first then =
    let turn = leave_in_turn a b (λ d x. false) site.told in
    record {
      level = then.level ∙ first.level;
      controls = then.controls ∙ first.controls;
      table = then.table ∙ ap (λ (t : Table). with_rows t next.table.rows) first.table;
      rows = then.rows ∙ ap (rows_after_deeds b) first.rows ∙ sym turn.rows_are;
      time = then.time ∙ ap (time_meant_after b) first.time ∙ sym (turn.time site.time);
    }

module _ (site mid : SiteState) (old between new : PlantState) (a b : List Deed) (first : IsLeftAfter site mid a) where
  pub begins_then : DidAll site mid a old between → BeginsAll mid b between new → BeginsAll site (a ++ b) old new
  begins_then did then excepted stands =
      let one = did excepted stands in
      let now = excepted_by_apply site excepted in
      let later = subst (λ (r : List PairRow). BeginsDeeds (excepted_by_apply mid one.still) r b between new) first.rows (then one.still one.stands) in
      begin_after old between new now site.told a b one.does (begins_still between new (excepted_by_apply mid one.still) (excepted_after site.told a now) (rows_after_deeds a site.told) one.fewer b later)

  pub did_then : (next : SiteState) → DidAll site mid a old between → DidAll mid next b between new → DidAll site next (a ++ b) old new
  did_then next did then excepted stands =
      let one = did excepted stands in
      let two = then one.still one.stands in
      let now = excepted_by_apply site excepted in
      let later = subst (λ (r : List PairRow). DoesDeeds (excepted_by_apply mid one.still) r b between new) first.rows two.does in
      record {
        does = go_on old between new now site.told a b one.does (does_still between new (excepted_by_apply mid one.still) (excepted_after site.told a now) (rows_after_deeds a site.told) one.fewer b later);
        still = two.still;
        stands = two.stands;
        fewer = λ d x is. two.fewer d x (subst (λ (r : List PairRow). excepted_after r b (excepted_by_apply mid one.still) d x ≡ false) (sym first.rows)
            (fewer_after (rows_after_deeds a site.told) b (excepted_by_apply mid one.still) (excepted_after site.told a now) one.fewer d x (ap (λ (e : Exceptions). e d x) (sym (exceptions_in_turn site.told a b now)) ∙ is)));
      }

-- ---- answers

pub on_ok : {A B : Type 0} (r : Result (Unit {0}) StoreError) → (A → B) → OnOk r A → OnOk r B
on_ok (Ok value) f a = f a
on_ok (Err e) f a = tt

pub on_both : {A B C : Type 0} (r : Result (Unit {0}) StoreError) → (A → B → C) → OnOk r A → OnOk r B → OnOk r C
on_both (Ok value) f a b = f a b
on_both (Err e) f a b = tt

-- ---- calls of the site in turn

module _ (tells : Type 0) (site mid after : SiteState) (old between new : PlantState) (result : Result (Unit {0}) StoreError) where
  counts_then : (left : ℕ → ℕ) (a b : List DeedOfChanges) → ((d : ℕ) → between.faults (Volume d) ≤ new.faults (Volume d)) → AreHitsToldBy site a (untold_hits mid) old between → AreHitsToldBy mid b left between new → AreHitsToldBy site (a ++ b) left old new
  counts_then left a b later first then d low =
      let one = first d (omega (arith, low, later d)) in
      let two = then d low in
      let sum : hit_count d (changes_of (a ++ b)) ≡ hit_count d (changes_of a) + hit_count d (changes_of b) = ap (hit_count d) (changes_append a b) ∙ counts_append d (changes_of a) (changes_of b) in
      omega (arith, one, two, sum)

  pub site_then : SiteMoved tells site mid old between (Ok tt) → SiteMoved tells mid after between new result → SiteMoved tells site after old new result
  site_then first then = record {
    steps = first.steps ++ then.steps;
    changes = by_changes_then site.level site.time site.told first.steps then.steps first.changes
        (subst (λ (l : Level). AreByChanges l (time_meant_after a site.time) (rows_after_deeds a site.told) then.steps) first.is_left.level
        (subst (λ (t : ℕ). AreByChanges mid.level t (rows_after_deeds a site.told) then.steps) first.is_left.time (subst (λ (r : List PairRow). AreByChanges mid.level mid.time r then.steps) first.is_left.rows then.changes)));
    made = λ going answers. made_then site.level false answers site.time site.told NoneDue first.steps then.steps NoneDue NoneDue (first.made going answers)
        (subst (λ (l : Level). AreMade l false answers (time_meant_after a site.time) (rows_after_deeds a site.told) NoneDue then.steps NoneDue) first.is_left.level
        (subst (λ (t : ℕ). AreMade mid.level false answers t (rows_after_deeds a site.told) NoneDue then.steps NoneDue) first.is_left.time
        (subst (λ (r : List PairRow). AreMade mid.level false answers mid.time r NoneDue then.steps NoneDue) first.is_left.rows (then.made (first.going going) answers))));
    going = on_ok result (λ (goes_on : SessionGoesOn mid after). λ going. goes_on (first.going going)) then.going;
    fades = by_deeds_on Fades site mid first.steps then.steps first.is_left.rows first.fades then.fades;
    later = λ d. omega (arith, first.later d, then.later d);
    counted = counts_then none_untold first.steps then.steps then.later first.counted_all then.counted;
    counted_all = on_ok result (λ (c : AreHitsToldBy mid then.steps (untold_hits after) between new). counts_then (untold_hits after) first.steps then.steps then.later first.counted_all c) then.counted_all;
    quiet = (then.quiet.0, subst (λ (l : List Deed). AreQuiet site.time site.told l then.quiet.0) (sym both) (quiet_then site.time a b site.told mid.told then.quiet.0 first.all.suspends (subst (λ (t : ℕ). AreQuiet t mid.told b then.quiet.0) first.all.time then.quiet.1)));
    all = on_ok result (λ (q : IsQuiet mid after b). record {
      suspends = subst (λ (l : List Deed). AreQuiet site.time site.told l after.told) (sym both) (quiet_then site.time a b site.told mid.told after.told first.all.suspends (subst (λ (t : ℕ). AreQuiet t mid.told b after.told) first.all.time q.suspends));
      time = q.time ∙ first.all.time;
      still = still_then site.told mid.told after.told first.all.still q.still;
    }) then.all;
    is_left = on_ok result (λ (q : IsLeftAfter mid after b). subst (IsLeftAfter site after) (sym both) (after_then site mid after a b first.is_left q)) then.is_left;
    due = on_ok result (λ (d : is_mark_due after ≡ is_mark_due_after (is_mark_due mid) b). due_then site mid after first.steps then.steps first.due d) then.due;
    begins = λ told. subst (λ (l : List Deed). BeginsAll site l old new) (sym both) (begins_then site mid old between new a b first.is_left (first.did told) (then.begins told));
    did = λ told. on_ok result (λ (d : DidAll mid after b between new). subst (λ (l : List Deed). DidAll site after l old new) (sym both) (did_then site mid old between new a b first.is_left after (first.did told) d)) (then.did told);
  }
    where
      a : List Deed
      a = deeds_of first.steps

      b : List Deed
      b = deeds_of then.steps

      both : deeds_of (first.steps ++ then.steps) ≡ a ++ b
      both = deeds_append first.steps then.steps

-- ---- the mover's calls in turn

pub answers_append : (a b : List MadeCall) → map as_answer (a ++ b) ≡ map as_answer a ++ map as_answer b
answers_append [] b = refl
answers_append (c ∷ a) b = λ i. as_answer c ∷ answers_append a b i

shown_parts : (a b : List Answer) → are_shown_at_cuts (a ++ b) ≡ true → (are_shown_at_cuts a ≡ true) × (are_shown_at_cuts b ≡ true)
shown_parts [] b is = (refl, is)
shown_parts (x ∷ a) b is =
    let first = and_parts (is_shown_at_cut x) (are_shown_at_cuts (a ++ b)) is in
    let rest = shown_parts a b first.1 in
    (and_from (is_shown_at_cut x) (are_shown_at_cuts a) first.0 rest.0, rest.1)

module _ (tells : Type 0) (seat turn next : MoverSeatState) (site mid after : SiteState) (old between new : PlantState) (result : Result (Unit {0}) StoreError) where
  pub moved_then : Moved tells seat turn site mid old between (Ok tt) → Moved tells turn next mid after between new result → Moved tells seat next site after old new result
  moved_then first then = record {
    gained = first.gained ++ then.gained;
    calls = then.calls ∙ ap (λ (l : List MadeCall). l ++ then.gained) first.calls ∙ append_assoc seat.calls first.gained then.gained;
    steps = first.steps ++ then.steps;
    changes = λ shown.
        let parts = shown_parts run more (ap are_shown_at_cuts (sym answers) ∙ shown) in
        by_changes_then site.level site.time site.told first.steps then.steps (first.changes parts.0)
        (subst (λ (l : Level). AreByChanges l (time_meant_after a site.time) (rows_after_deeds a site.told) then.steps) first.is_left.level
        (subst (λ (t : ℕ). AreByChanges mid.level t (rows_after_deeds a site.told) then.steps) first.is_left.time (subst (λ (r : List PairRow). AreByChanges mid.level mid.time r then.steps) first.is_left.rows (then.changes parts.1))));
    made = λ going.
        let all = map as_answer (first.gained ++ then.gained) in
        let here : AreMade site.level false all site.time site.told NoneDue first.steps NoneDue =
        subst (λ (l : List Answer). AreMade site.level false l site.time site.told NoneDue first.steps NoneDue) (sym answers)
        (made_more site.level false run (run ++ more) (λ x has. Contains-append_left run more x has) site.time site.told NoneDue first.steps NoneDue (first.made going)) in
        let later : AreMade mid.level false all mid.time mid.told NoneDue then.steps NoneDue =
        subst (λ (l : List Answer). AreMade mid.level false l mid.time mid.told NoneDue then.steps NoneDue) (sym answers)
        (made_more mid.level false more (run ++ more) (λ x has. Contains-append_right run more x has) mid.time mid.told NoneDue then.steps NoneDue (then.made (first.going going))) in
        made_then site.level false all site.time site.told NoneDue first.steps then.steps NoneDue NoneDue here
        (subst (λ (l : Level). AreMade l false all (time_meant_after a site.time) (rows_after_deeds a site.told) NoneDue then.steps NoneDue) first.is_left.level
        (subst (λ (t : ℕ). AreMade mid.level false all t (rows_after_deeds a site.told) NoneDue then.steps NoneDue) first.is_left.time
        (subst (λ (r : List PairRow). AreMade mid.level false all mid.time r NoneDue then.steps NoneDue) first.is_left.rows later)));
    going = on_ok result (λ (goes_on : SessionGoesOn mid after). λ going. goes_on (first.going going)) then.going;
    pairs = by_deeds_on KeepsPair site mid first.steps then.steps first.is_left.rows first.pairs then.pairs;
    counted = λ d low.
        let two = then.counted d low in
        let one = first.counted d (omega (arith, low, two)) in
        let sum : hit_count d (changes_of (first.steps ++ then.steps)) ≡ hit_count d (changes_of first.steps) + hit_count d (changes_of then.steps) = ap (hit_count d) (changes_append first.steps then.steps) ∙ counts_append d (changes_of first.steps) (changes_of then.steps) in
        omega (arith, one, two, sum);
    live = live_then site mid first.steps then.steps first.pairs first.is_left.rows first.due first.live then.live;
    entries = subst (LogsEntriesOf site.told) (sym both) (entries_then site.told a b first.entries (subst (λ (r : List PairRow). LogsEntriesOf r b) first.is_left.rows then.entries));
    makes = λ done knows.
        let one = first.all done knows in
        subst (λ (l : List Deed). MakesDeeds site.time site.told done (map as_answer (first.gained ++ then.gained)) l) (sym both)
        (subst (λ (l : List Answer). MakesDeeds site.time site.told done l (a ++ b)) (sym answers)
        (all_then mid.time mid.told one.known more b (then.makes one.known one.knows) run site.time site.told done a one.makes));
    all = on_ok result (λ (two : MakesAll mid after more b). λ done knows.
        let one = first.all done knows in
        let last = two one.known one.knows in
        record {
          known = last.known;
          makes = subst (λ (l : List Deed). MakesAllDeeds site.time site.told done (map as_answer (first.gained ++ then.gained)) l after.time after.told last.known) (sym both)
              (subst (λ (l : List Answer). MakesAllDeeds site.time site.told done l (a ++ b) after.time after.told last.known) (sym answers)
              (all_then_all mid.time mid.told one.known more b after.time after.told last.known last.makes run site.time site.told done a one.makes));
          knows = last.knows;
        }) then.all;
    is_left = on_ok result (λ (q : IsLeftAfter mid after b). subst (IsLeftAfter site after) (sym both) (after_then site mid after a b first.is_left q)) then.is_left;
    owed = on_both result (λ (o : OwesExactly mid.told after.told more b) (q : IsLeftAfter mid after b).
        subst (OwesExactly site.told after.told (map as_answer (first.gained ++ then.gained))) (sym both)
        (subst (λ (l : List Answer). OwesExactly site.told after.told l (a ++ b)) (sym answers)
        (owed_then site.told mid.told after.told run more a b first.pairs then.pairs first.is_left.rows q.rows first.owed o))) then.owed then.is_left;
    due = on_ok result (λ (d : is_mark_due after ≡ is_mark_due_after (is_mark_due mid) b). due_then site mid after first.steps then.steps first.due d) then.due;
    begins = λ told. subst (λ (l : List Deed). BeginsAll site l old new) (sym both) (begins_then site mid old between new a b first.is_left (first.did told) (then.begins told));
    did = λ told. on_ok result (λ (d : DidAll mid after b between new). subst (λ (l : List Deed). DidAll site after l old new) (sym both) (did_then site mid old between new a b first.is_left after (first.did told) d)) (then.did told);
  }
    where
      a : List Deed
      a = deeds_of first.steps

      b : List Deed
      b = deeds_of then.steps

      run : List Answer
      run = map as_answer first.gained

      more : List Answer
      more = map as_answer then.gained

      both : deeds_of (first.steps ++ then.steps) ≡ a ++ b
      both = deeds_append first.steps then.steps

      answers : map as_answer (first.gained ++ then.gained) ≡ run ++ more
      answers = answers_append first.gained then.gained
