-- A command's change that is logged and taken over leaves that the session rests at the time at which it rested.
use Rattle.std.proofs.Common.{◌≡◌, ℕ, zero, suc, ◌+◌, ◌<◌, ◌≤◌, nat_eq, Bool, true, ◌&&◌, List, [], ◌∷◌, ◌++◌, length, take, slice_get, Option, Some, None, Ok, refl, sym, ap, subst, ◌∙◌, arith}
use Rattle.std.specs.Prelude.{IsSomeAnd, bytes_eq, slice_index_or}
use Rattle.std.specs.List.{list_all}
use Rattle.std.proofs.lemmas.Bool.{and_parts, eqb-true}
use Rattle.std.proofs.lemmas.List.Sums.{AllPass-from_list_all}
use Rattle.std.proofs.lemmas.Option.{same_Some}
use Rattle.crash_plant.specs.Calls.{SameSite}
use Rattle.crash_plant.specs.Moments.{PlantState}
use Rattle.sidefile.specs.declared.hand.Halt.{Halt}
use Rattle.sidefile.specs.declared.hand.Halt.TheVariants as halts
use Rattle.sidefile.specs.Halts.{broken_in}
use Rattle.pair_table.specs.declared.command.Change.{Change}
use Rattle.pair_table.specs.declared.command.Command.{Command}
use Rattle.pair_table.specs.declared.row.PairRow.{PairRow}
use Rattle.pair_table.specs.Commands.{has_named_primary, is_volume_of}
use Rattle.pair_table.specs.Naming.{Naming}
use Rattle.pair_table.specs.Tables.{AreRowsSound, Table}
use Rattle.group_state.specs.declared.phase.Phase.{Phase}
use Rattle.group_state.specs.declared.phase.Phase.TheVariants.{Unbroken, Broken, Reported}
use Rattle.group_state.specs.Controls.{counts, is_reporting}
use Rattle.group_state.specs.Groups.{Group, control_at}
use Rattle.record_rows.specs.Hits.{hit_now, rows_hit}
use Rattle.record_rows.specs.Records.{rows_with_hits}
use Rattle.xrc_journal.specs.Items.{Item}
use Rattle.site_store.specs.IdleSites.{IsSiteIdle}
use Rattle.site_store.specs.Changing.{LogsChange, MayChange, changed_items}
use Rattle.site_store.specs.Commands.{IsToLog, MayDo, after_command}
use Rattle.site_store.specs.Sites.{SiteState}
use Rattle.site_store.specs.Standing.{Leaves}
use Rattle.mover.specs.declared.lane.Lane.{Lane}
use Rattle.mover.specs.Lanes.{IsReaderOf, broken_by}
use Rattle.mover.specs.Readers.{LaneReaderState}
use Rattle.mover.specs.Rounds.{AreLanesOf}
use Rattle.xrc_session.specs.CarriedLaws.{BegunControlsCount}
use Rattle.xrc_session.specs.Joins.{AreNamedOfLanes, IsTakenOver, RestsAt}
use Rattle.xrc_session.specs.Taking.{IsSoundForRows, MayTake, after_calls, calls_of_change}
use Rattle.xrc_session.proofs.Commanded.{commands_may_be_taken}
use Rattle.xrc_session.proofs.JoinsCommands.{rests_after}
use Rattle.xrc_session.proofs.JoinsRows.{some_of}
use Rattle.xrc_session.proofs.RestingSites.{commands_come_after_changes, commands_may_be_logged, idle_after_changes, told_after_changes, told_after_commands}
use Rattle.mover_tests.specs.Commands.{IsCommandAnswered}
use Rattle.mover_tests.specs.Courses.{AreAtLimit, AreUnbroken, MayGoTo}
use Rattle.mover_tests.proofs.Homes.{labels_still}
use Rattle.mover_tests.proofs.Opening.{named_within, some_lane}

-- ---- rows in order

-- The first rows with the next one are one row more.
pub taken_next : (rows : List PairRow) (place : ℕ) (r : PairRow) → slice_get rows place ≡ Some r → take place rows ++ r ∷ [] ≡ take (suc place) rows
taken_next [] place r at = absurd cc
taken_next (t ∷ rows) zero r at = ap (λ (x : PairRow). x ∷ []) (sym (same_Some t r at))
taken_next (t ∷ rows) (suc place) r at = ap (λ (xs : List PairRow). t ∷ xs) (taken_next rows place r at)

-- ---- controllers that report

counts_reporting : (phase : Phase) → is_reporting phase ≡ true → counts phase ≡ true
counts_reporting Unbroken is = refl
counts_reporting (Broken cause) is = absurd cc
counts_reporting Reported is = absurd cc

-- A reader that hasn't broken reads on.
pub reads_on : (s : Group) (k limit : ℕ) (r : LaneReaderState) → IsReaderOf s k limit r → broken_in r.feed.halted ≡ None → r.feed.halted ≡ None
reads_on s k limit r reader none = by_halt r.feed.halted refl
  where
    by_halt : (h : Option Halt) → r.feed.halted ≡ h → r.feed.halted ≡ None
    by_halt None is = is
    by_halt (Some (halts.Broken cause upto)) is = absurd (let e : Some (upto, cause) ≡ None = sym (ap broken_in is) ∙ none in cc e)
    by_halt (Some halts.NoMemory) is = absurd (reader.goes is)

-- So the controller of a lane whose reader hasn't broken still reports.
lane_tells : {S : Type 0} (s : Group) (limit : ℕ) (lanes : List (Lane S)) (k : ℕ) (d : Lane S) → AreLanesOf s limit lanes → AreUnbroken lanes → k < length lanes → is_reporting (control_at s k).phase ≡ true
lane_tells s limit lanes k d are whole low = of (slice_index_or lanes k d).reader (are.each k d low) (whole k d low)
  where
    of : (o : Option LaneReaderState) → IsSomeAnd o (IsReaderOf s k limit) → broken_by o ≡ None → is_reporting (control_at s k).phase ≡ true
    of None is none = absurd is
    of (Some r) is none = is.reporting (reads_on s k limit r is none)

-- ---- rows that a change makes pending

-- A row whose primary is named is of a controller that there is.
row_within : {S : Type 0} (lanes : List (Lane S)) (names : Naming) (r : PairRow) → 0 < length lanes → AreNamedOfLanes lanes names → has_named_primary names r ≡ true → r.control < length lanes
row_within lanes names r some are named =
    let n = some_of (is_volume_of r) names.primaries named in
    let v = n.item in
    let cylinders = and_parts ((bytes_eq v.serial r.primary && nat_eq v.control r.control) && nat_eq v.volume r.volume) (nat_eq v.cylinders r.cylinders) n.is in
    let volume = and_parts (bytes_eq v.serial r.primary && nat_eq v.control r.control) (nat_eq v.volume r.volume) cylinders.0 in
    let control = and_parts (bytes_eq v.serial r.primary) (nat_eq v.control r.control) volume.0 in
    subst (λ k. k < length lanes) (eqb-true v.control r.control control.1) (named_within lanes v some (are v n.among))

module _ {S : Type 0} (lanes : List (Lane S)) (names : Naming) (s : Group) (limit : ℕ) (are : AreLanesOf s limit lanes) (named : AreNamedOfLanes lanes names) (whole : AreUnbroken lanes) (some : 0 < length lanes) (d : Lane S) where
  all_count : (change : Change) (rows : List PairRow) → list_all (has_named_primary names) rows ≡ true → BegunControlsCount s change rows
  all_count change rows all r among begun =
      let low = row_within lanes names r some named (ap (has_named_primary names) (sym among.2) ∙ AllPass-from_list_all (has_named_primary names) rows all among.0 r among.1) in
      (omega (arith, low, are.many), counts_reporting (control_at s r.control).phase (lane_tells s limit lanes r.control d are whole low))

-- ---- the rows after the change

none_hit : (rows : List PairRow) → hit_now [] rows ≡ []
none_hit [] = refl
none_hit (r ∷ rows) = none_hit rows

logged_rows : {P : Type 0} (at : ℕ) (change : Change) (site next : SiteState) (old : PlantState) (was is : P) → LogsChange at change site next old was is (Ok tt) → (failed : List Bool) × (next.table.rows ≡ rows_with_hits site.level at failed site.table.rows)
logged_rows at change site next old was is logs = by_items (changed_items change site.table.rows) refl
  where
    by_items : (items : List Item) → changed_items change site.table.rows ≡ items → (failed : List Bool) × (next.table.rows ≡ rows_with_hits site.level at failed site.table.rows)
    by_items [] none = ([], ap (λ (t : SiteState). t.table.rows) (logs.nothing none).1 ∙ sym (ap (λ (hit : List ℕ). rows_hit site.level at hit site.table.rows) (none_hit site.table.rows)))
    by_items (i ∷ items) some =
        let rows = logs.rows (λ none. let clash : i ∷ items ≡ [] = sym some ∙ none in cc clash) in
        (next.failed, ap (λ (t : SiteState). t.table.rows) rows.after.next_is)

-- ---- a command

module _ {S : Type 0} (tells : Type 0) (names : Naming) (command : Command) (change : Change) (at : ℕ) (lanes : List (Lane S)) (group : Group) (site : SiteState) (old : PlantState)
    (there : AreAtLimit at lanes group site) (go : MayGoTo tells at names lanes group site old) where
  idle : IsSiteIdle tells site old
  idle = record { may = go.may.rests; same = go.commands.same }

  rest : RestsAt tells at lanes group site old
  rest = record { cut = there.cut; time = there.time; lanes_of = go.are; begins = go.may; kept = go.kept }

  pub may_log : (changed : SiteState) → IsCommandAnswered names command at change site changed → MayChange tells at change changed old
  may_log changed answered =
      subst (λ (t : SiteState). MayChange tells at change t old) (sym answered.next_is)
      (commands_may_be_logged tells old names answered.session command at at change site idle go.commands.labels answered.is (omega (arith, there.time)) (subst (IsToLog change) answered.next_is answered.to_log))

  some : 0 < length lanes
  some = omega (arith, go.are.many, go.kept.keeps.controls_kept.some)

  pub kept_rows : IsSoundForRows group site.table.rows
  kept_rows = subst (IsSoundForRows group) go.commands.same go.kept

  module _ {P : Type 0} (new : PlantState) (changed next : SiteState) (was is : P) (answered : IsCommandAnswered names command at change site changed) (logs : LogsChange at change changed next old was is (Ok tt)) where
    -- The change may be taken over.
    pub may_take : AreUnbroken lanes → MayTake group change site.table.rows next.table.rows
    may_take whole =
        let after_it = logged_rows at change changed next old was is logs in
        let table : changed.table ≡ (after_command names answered.session command at change site).table = ap (λ (t : SiteState). t.table) answered.next_is in
        let all : list_all (has_named_primary names) changed.table.rows ≡ true = answered.again.command.named in
        subst (λ (rows : List PairRow). MayTake group change site.table.rows rows) (sym after_it.1)
        (subst (λ (t : Table). MayTake group change site.table.rows (rows_with_hits changed.level at after_it.0 t.rows)) (sym table)
        (commands_may_be_taken names site.table answered.session command change at changed.level at after_it.0 group go.commands.may.started kept_rows.apart answered.is
        (subst (λ (t : Table). AreRowsSound t.rows) table answered.keeps).apart
        (subst (λ (t : Table). BegunControlsCount group change t.rows) table (all_count lanes names group at go.are go.commands.are_named whole some (some_lane lanes some) change changed.table.rows all))))

    module _ (end : Group) (before after : List PairRow) (before_is : before ≡ site.table.rows) (after_is : after ≡ next.table.rows) (leaves : Leaves tells (λ e. e) changed next old new) (count : length next.failed ≡ length changed.failed)
        (same : SameSite old new) (taken_by : end ≡ after_calls (calls_of_change change group before after) group) (kept_by : IsSoundForRows end after) where
      calls : end ≡ after_calls (calls_of_change change group site.table.rows next.table.rows) group
      calls = taken_by ∙ (λ i. after_calls (calls_of_change change group (before_is i) (after_is i)) group)

      kept : IsSoundForRows end next.table.rows
      kept = subst (IsSoundForRows end) after_is kept_by

      may : MayChange tells at change changed old
      may = may_log changed answered

      told : hit_now next.failed next.told ≡ []
      told = told_after_changes was is old at change changed next (Ok tt)
          (subst (λ (t : SiteState). hit_now t.failed t.told ≡ []) (sym answered.next_is) (told_after_commands names answered.session command at change site go.may.knows.told)) logs

      taken : IsTakenOver tells at change site.table.rows group end changed next old new was is
      taken = record { may = may; logs = logs; leaves = leaves; calls = calls; kept = kept; told = told }

      again : RestsAt tells at lanes end next new
      again =
          rests_after tells was is lanes old new names answered.session command change at group end site next go.commands.are_named (subst (MayDo names) answered.next_is answered.again) rest
          (subst (λ (t : SiteState). IsTakenOver tells at change site.table.rows group end t next old new was is) answered.next_is taken)

      pub there_after : AreAtLimit at lanes end next
      there_after = record { cut = again.cut; time = again.time; each = there.each }

      pub goes_after : MayGoTo tells at names lanes end next new
      goes_after = record {
        are = again.lanes_of;
        may = again.begins;
        kept = again.kept;
        commands = record {
          are_named = go.commands.are_named;
          may = commands_come_after_changes was is old names at change changed next (Ok tt) answered.again count logs;
          labels = labels_still names old new same go.commands.labels;
          same = (idle_after_changes tells was is old new at change changed next (Ok tt) may leaves logs).same;
        };
      }
