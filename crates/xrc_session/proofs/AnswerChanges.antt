-- What a line's command leaves of a site, and what logging its change leaves.
use Rattle.std.proofs.Common.{◌≡◌, ◌≢◌, inl, inr, ℕ, ◌+◌, ◌*◌, ◌≤◌, Bool, true, false, ◌&&◌, List, [], ◌∷◌, None, Ok, refl, sym, ap, subst, ◌∙◌, arith, true≢false}
use Rattle.std.specs.Prelude.{nat_le, nat_lt}
use Rattle.std.specs.List.{Contains, list_all}
use Rattle.std.proofs.lemmas.Bool.{le-leb}
use Rattle.crash_plant.specs.declared.device.Device.TheVariants.{Volume}
use Rattle.crash_plant.specs.Calls.{SameSite}
use Rattle.crash_plant.specs.Moments.{PlantState}
use Rattle.pair_table.specs.declared.command.Change.{Change}
use Rattle.pair_table.specs.declared.level.Level.{Level}
use Rattle.pair_table.specs.declared.row.PairRow.{PairRow}
use Rattle.pair_table.specs.Commands.{PrimariesAreNamed, accepted, change_of, is_end, rows_after, table_after}
use Rattle.pair_table.specs.Devices.{is_among}
use Rattle.pair_table.specs.Naming.{Naming}
use Rattle.pair_table.specs.Refusals.{refusal, refuses_command}
use Rattle.pair_table.specs.Tables.{Table, none_clash, with_rows}
use Rattle.group_state.specs.Groups.{Group}
use Rattle.record_rows.specs.Hits.{hit_changes, hit_now, marked_changes, rows_hit}
use Rattle.pair_table.specs.States.{is_device_suspended}
use Rattle.record_rows.specs.Records.{rows_with_hits}
use Rattle.record_rows.proofs.Counting.{hits_count, marks_count, once}
use Rattle.row_changes.specs.Spans.{hit_count}
use Rattle.consistency.specs.Ways.{hits_stand}
use Rattle.xrc_command.specs.declared.line.Line.{Line}
use Rattle.xrc_journal.specs.Items.{Item}
use Rattle.site_store.specs.Changing.{IsAfterChange, LogsChange, MayChange, changed_items}
use Rattle.site_store.specs.Commands.{IsToLog, LabelsFit, without_flag}
use Rattle.site_store.specs.Records.{after_placement}
use Rattle.site_store.specs.Sites.{SiteState}
use Rattle.site_store.specs.Standing.{Leaves}
use Rattle.site_store.proofs.ByPlacements.{RecordPlacement, by_placements}
use Rattle.site_store.proofs.ChangeEnds.{told_is}
use Rattle.site_store.proofs.CommandRows.{Answered, Own, answered, own_of, table_is}
use Rattle.mover.proofs.Pairs.{Among, contains_of}
use Rattle.xrc_session.specs.Answering.{ControlsCount, IsDoneFrom, IsSiteAfter, MayLogChange}
use Rattle.xrc_session.specs.CarriedLaws.{BegunControlsCount}
use Rattle.xrc_session.specs.Frames.{SuspendsByCounts}
use Rattle.xrc_session.specs.Taking.{MayTake}
use Rattle.xrc_session.proofs.AnswerBegun.{begun_count}
use Rattle.xrc_session.proofs.AnswerRows.{CameFrom, all_of_each, came_from, hit_again, none_hit_after, none_of_each, rows_differ}
use Rattle.xrc_session.proofs.AnswerWorks.{none_suspended, suspends_by_counts}
use Rattle.xrc_session.proofs.Commanded.{commands_may_be_taken}
use Rattle.xrc_session.proofs.RestingSites.{commands_come_after_changes, commands_may_be_logged, hits_pass, idle_after_changes, told_after_changes, told_after_commands}
use Rattle.site_store.specs.Causes.{FailByCounts}

-- ---- after a command

module _ (names : Naming) (line : Line) (change : Change) (was site : SiteState) (plant : PlantState) (d : IsDoneFrom names line change was site plant) where
  abbrev time : ℕ
  time = line.time.0

  of_answer : Answered names was.table line.session line.command change
  of_answer = answered names was.table line.session line.command change d.done

  own : Own names was.table.rows line.command
  own = own_of names was.table line.session line.command d.started of_answer.accepts

  table_there : site.table ≡ accepted names time line.command was.table
  table_there = ap (λ (s : SiteState). s.table) d.site_is ∙ table_is names was.table line.session line.command time of_answer.accepts

  pub rows_are : site.table.rows ≡ rows_after names time line.command was.told
  rows_are = ap (λ (t : Table). t.rows) table_there ∙ ap (rows_after names time line.command) (sym d.same)

  pub ended_is : site.table.is_ended ≡ is_end line.command
  ended_is = ap (λ (t : Table). t.is_ended) table_there

  pub change_is : change_of names line.command was.told ≡ change
  change_is = ap (change_of names line.command) d.same ∙ of_answer.is

  own_told : refuses_command names was.told line.command ≡ None
  own_told = ap (λ (rows : List PairRow). refuses_command names rows line.command) d.same ∙ own.own

  -- The session hadn't ended.
  pub was_goes : was.table.is_ended ≡ false
  was_goes = by_flag was.table.is_ended refl
    where
      by_flag : (b : Bool) → was.table.is_ended ≡ b → b ≡ false
      by_flag false is = refl
      by_flag true is =
          let ended : refusal names (record was.table { is_ended = true }) line.session line.command ≡ None = subst (λ (e : Bool). refusal names (record was.table { is_ended = e }) line.session line.command ≡ None) is of_answer.accepts in
          absurd cc

  pub site_told : site.told ≡ was.told
  site_told = ap (λ (s : SiteState). s.told) d.site_is

  site_failed : site.failed ≡ without_flag 0 change was.failed
  site_failed = ap (λ (s : SiteState). s.failed) d.site_is

  -- No failure of a volume with a row waits to be told.
  pub none_untold : hit_now site.failed site.told ≡ []
  none_untold = subst (λ (s : SiteState). hit_now s.failed s.told ≡ []) (sym d.site_is) (told_after_commands names line.session line.command time change was d.told)

  module _ (apart : none_clash was.told ≡ true) where
    pub came : (r : PairRow) → Among r site.table.rows → CameFrom change was.told r
    came r there =
        subst (λ (c : Change). CameFrom c was.told r) change_is (came_from names time was.told apart line.command own.starts r (subst (Among r) rows_are there))

    -- Nor does one with a row after the command.
    pub none_hit_there : hit_now site.failed site.table.rows ≡ []
    none_hit_there = ap (λ (flags : List Bool). hit_now flags site.table.rows) site_failed ∙ none_hit_after change was.told site.table.rows apart came was.failed d.told

    -- A change with items alters rows.
    pub rows_altered : changed_items change site.table.rows ≢ [] → site.table.rows ≡ was.told → ⊥
    rows_altered some same =
        rows_differ names time was.told apart line.command own_told (λ none. some (ap (λ (c : Change). changed_items c site.table.rows) (sym change_is) ∙ ap (changed_items (change_of names line.command was.told)) rows_are ∙ none)) (sym rows_are ∙ same)

    -- The hits of a mark that the record needs stand after the command.
    pub marks_stand : (failed : List Bool) (level : Level) (at early late : ℕ)
        → hits_stand (marked_changes early (hit_now failed was.told)) (hit_changes late (hit_now failed site.table.rows)) (rows_with_hits level at failed site.table.rows) ≡ true
    marks_stand failed level at early late = hits_pass test (λ state r. refl) level at failed site.table.rows ∙ all_of_each test site.table.rows each
      where
        test : PairRow → Bool
        test r = nat_le (hit_count r.device (marked_changes early (hit_now failed was.told))) (hit_count r.device (hit_changes late (hit_now failed site.table.rows)))

        by_flags : (a b : Bool) → (a ≡ true → b ≡ true) → once a ≤ once b
        by_flags true true up = omega arith
        by_flags true false up = absurd (true≢false (sym (up refl)))
        by_flags false b up = omega arith

        each : (r : PairRow) → Among r site.table.rows → test r ≡ true
        each r there =
            le-leb (hit_count r.device (marked_changes early (hit_now failed was.told))) (hit_count r.device (hit_changes late (hit_now failed site.table.rows)))
            (subst (λ (n : ℕ). n ≤ hit_count r.device (hit_changes late (hit_now failed site.table.rows))) (sym (marks_count r.device early (hit_now failed was.told)))
            (subst (λ (n : ℕ). once (is_among r.device (hit_now failed was.told)) ≤ n) (sym (hits_count r.device late (hit_now failed site.table.rows)))
            (by_flags (is_among r.device (hit_now failed was.told)) (is_among r.device (hit_now failed site.table.rows)) (λ hit. hit_again change was.told site.table.rows apart came failed r there hit))))

    -- The shared state may take the change over, with hits after it.
    pub may_take : (s : Group) → ControlsCount names s → PrimariesAreNamed names site.table.rows → none_clash site.table.rows ≡ true → (level : Level) (cut : ℕ) (failed : List Bool)
        → MayTake s change was.told (rows_with_hits level cut failed site.table.rows)
    may_take s count named clear level cut failed =
        subst (λ (rows : List PairRow). MayTake s change was.told (rows_with_hits level cut failed rows)) (sym after_is)
        (subst (λ (rows : List PairRow). MayTake s change rows (rows_with_hits level cut failed next)) (sym d.same)
        (commands_may_be_taken names was.table line.session line.command change time level cut failed s d.started (subst (λ (rows : List PairRow). none_clash rows ≡ true) d.same apart) d.done
        (subst (λ (rows : List PairRow). none_clash rows ≡ true) after_is clear) begun))
      where
        next : List PairRow
        next = (table_after names was.table line.session line.command time).rows

        after_is : site.table.rows ≡ (table_after names was.table line.session line.command time).rows
        after_is = ap (λ (s : SiteState). s.table.rows) d.site_is

        begun : BegunControlsCount s change (table_after names was.table line.session line.command time).rows
        begun =
            subst (BegunControlsCount s change) (sym rows_are ∙ after_is)
            (subst (λ (c : Change). BegunControlsCount s c (rows_after names time line.command was.told)) change_is
            (begun_count names count.apart time was.told apart s line.command own_told (subst (PrimariesAreNamed names) rows_are named) count))

-- ---- after logging

-- A site after a change that was logged at its time: what stays, and the rows, which are those of the command with hits.
pub record IsLoggedSite (cut : ℕ) (site next : SiteState) : Type 0 where
  pub controls : next.controls ≡ site.controls
  pub level : next.level ≡ site.level
  pub time : next.time ≡ cut
  pub table : next.table ≡ with_rows site.table next.told
  pub flag : next.mark.ended ≡ site.mark.ended
  pub marked : site.since ≡ 0 → next.since ≡ 0
  pub failed : List Bool
  pub rows : next.told ≡ rows_with_hits site.level cut failed site.table.rows

-- Where no job has failed there are no hits.
no_hits : (level : Level) (cut : ℕ) (rows : List PairRow) → rows_with_hits level cut [] rows ≡ rows
no_hits level cut rows = by_hits (hit_now [] rows) (none_of_each [] rows (λ r there. refl))
  where
    by_hits : (hit : List ℕ) → hit ≡ [] → rows_hit level cut hit rows ≡ rows
    by_hits [] none = refl
    by_hits (d ∷ hit) none = absurd cc

module _ {P : Type 0} (tells : Type 0) (cut : ℕ) (change : Change) (site next : SiteState) (old new : PlantState) (was is : P) (may : MayChange tells cut change site old) (at : site.time ≡ cut) where
  unlogged : changed_items change site.table.rows ≡ [] → next ≡ record site { is_ahead = false } → IsLoggedSite cut site next
  unlogged none is = record {
    controls = ap (λ (s : SiteState). s.controls) is;
    level = ap (λ (s : SiteState). s.level) is;
    time = ap (λ (s : SiteState). s.time) is ∙ at;
    table = ap (λ (s : SiteState). s.table) is ∙ ap (with_rows site.table) (sym same ∙ sym told);
    flag = ap (λ (s : SiteState). s.mark.ended) is;
    marked = λ none_since. ap (λ (s : SiteState). s.since) is ∙ none_since;
    failed = [];
    rows = told ∙ same ∙ sym (no_hits site.level cut site.table.rows);
  }
    where
      same : site.told ≡ site.table.rows
      same = told_is tells cut change site old may none

      told : next.told ≡ site.told
      told = ap (λ (s : SiteState). s.told) is

  recorded : (placement : RecordPlacement) → IsAfterChange cut change placement site next old → IsLoggedSite cut site next
  recorded placement after = record {
    controls = ap (λ (s : SiteState). s.controls) after.next_is ∙ by_placements (λ (w : RecordPlacement). (after_placement w site).controls ≡ site.controls) refl refl refl placement;
    level = ap (λ (s : SiteState). s.level) after.next_is ∙ by_placements (λ (w : RecordPlacement). (after_placement w site).level ≡ site.level) refl refl refl placement;
    time = ap (λ (s : SiteState). s.time) after.next_is;
    table = ap (λ (s : SiteState). s.table) after.next_is ∙ ap (with_rows site.table) (sym (ap (λ (s : SiteState). s.told) after.next_is));
    flag = ap (λ (s : SiteState). s.mark.ended) after.next_is ∙ by_placements (λ (w : RecordPlacement). (after_placement w site).mark.ended ≡ site.mark.ended) refl refl refl placement;
    marked = λ none_since. ap (λ (s : SiteState). s.since) after.next_is ∙ by_placements (λ (w : RecordPlacement). site.since ≡ 0 → (after_placement w site).since ≡ 0) (λ e. e) (λ e. e) (λ e. refl) placement none_since;
    failed = next.failed;
    rows = ap (λ (s : SiteState). s.told) after.next_is;
  }

  pub logged_site : LogsChange cut change site next old was is (Ok tt) → IsLoggedSite cut site next
  logged_site logs = choose (changed_items change site.table.rows) refl
    where
      choose : (items : List Item) → changed_items change site.table.rows ≡ items → IsLoggedSite cut site next
      choose [] none = unlogged none (logs.nothing none).1
      choose (i ∷ items) some =
          let rows = logs.rows (λ none. let clash : i ∷ items ≡ [] = sym some ∙ none in cc clash) in
          recorded rows.placement rows.after

-- Labels fit a plant of the same numbers and lengths.
pub labels_fit : (names : Naming) (old new : PlantState) → SameSite old new → LabelsFit old names → LabelsFit new names
labels_fit names old new site fit =
    (λ i. list_all (λ label. nat_lt label.device (site.volumes i) && nat_le (512 + label.cylinders * 860160) (site.lengths (Volume label.device) i)) names.labels) ∙ fit

module _ {P : Type 0} (tells : Type 0) (names : Naming) (line : Line) (change : Change) (before : List PairRow) (site next : SiteState) (old new : PlantState) (was is : P) (h : MayLogChange tells names line change before site old) where
  abbrev at : ℕ
  at = line.time.0

  site_time : site.time ≡ at
  site_time = ap (λ (s : SiteState). s.time) h.from.site_is ∙ h.at

  -- The change may be logged at the line's time.
  pub may_change : MayChange tells at change site old
  may_change =
      subst (λ (s : SiteState). MayChange tells at change s old) (sym h.from.site_is)
      (commands_may_be_logged tells old names line.session line.command at at change h.was h.may.idle h.may.labels h.from.done (let now = h.at in omega (arith, now)) (subst (IsToLog change) h.from.site_is h.to_log))

  -- After it any command may come.
  pub site_after : Leaves tells (λ e. e) site next old new → LogsChange at change site next old was is (Ok tt) → FailByCounts site.failed next.failed old.faults new.faults → SameSite old new → IsSiteAfter tells names site next new
  site_after leaves logs fails same = record {
    may = record {
      idle = idle_after_changes tells was is old new at change site next (Ok tt) may_change leaves logs;
      told = told_after_changes was is old at change site next (Ok tt) (none_untold names line change h.was site old h.from) logs;
      commands = commands_come_after_changes was is old names at change site next (Ok tt) h.again fails.size logs;
      labels = labels_fit names old new same h.may.labels;
    };
    controls = logged.controls;
    level = logged.level;
    time = logged.time ∙ sym site_time;
    table = logged.table;
    flag = logged.flag;
    marked = logged.marked;
  }
    where
      logged : IsLoggedSite at site next
      logged = logged_site tells at change site next old new was is may_change site_time logs

  -- Devices suspend rows by counts.
  pub change_suspends : none_clash h.was.told ≡ true → LogsChange at change site next old was is (Ok tt) → FailByCounts site.failed next.failed old.faults new.faults → SuspendsByCounts site.told next.told old new
  change_suspends apart logs fails = choose (changed_items change site.table.rows) refl
    where
      from : (x : PairRow) → Among x site.table.rows → is_device_suspended x.state ≡ true → (y : PairRow) × Contains site.told y × (y.device ≡ x.device) × (y.state ≡ x.state)
      from x there on = elim (came names line change h.was site old h.from apart x there) [
        | inl added ↦ absurd (true≢false (sym on ∙ added.1))
        | inr (y, among, device, state, alike) ↦ (y, subst (λ (rows : List PairRow). Contains rows y) (sym (site_told names line change h.was site old h.from)) (contains_of y h.was.told among), device, alike on)
      ]

      choose : (items : List Item) → changed_items change site.table.rows ≡ items → SuspendsByCounts site.told next.told old new
      choose [] none = subst (λ (rows : List PairRow). SuspendsByCounts site.told rows old new) (sym (ap (λ (s : SiteState). s.told) (logs.nothing none).1)) (none_suspended site.told old new)
      choose (i ∷ items) some =
          let rows = logs.rows (λ none. let clash : i ∷ items ≡ [] = sym some ∙ none in cc clash) in
          subst (λ (last : List PairRow). SuspendsByCounts site.told last old new) (sym (ap (λ (s : SiteState). s.told) rows.after.next_is))
          (suspends_by_counts site.level at site.failed next.failed site.told site.table.rows old new fails (none_hit_there names line change h.was site old h.from apart) from)

  -- The rows after it may be taken over.
  pub may_take_logged : none_clash h.was.told ≡ true → (s : Group) → ControlsCount names s → LogsChange at change site next old was is (Ok tt) → Leaves tells (λ e. e) site next old new → MayTake s change before next.table.rows
  may_take_logged apart s count logs leaves =
      let logged = logged_site tells at change site next old new was is may_change site_time logs in
      let idle = idle_after_changes tells was is old new at change site next (Ok tt) may_change leaves logs in
      subst (λ (rows : List PairRow). MayTake s change rows next.table.rows) (sym h.rows)
      (subst (λ (rows : List PairRow). MayTake s change h.was.told rows) (sym logged.rows ∙ idle.same)
      (may_take names line change h.was site old h.from apart s count h.again.command.named h.rules.apart site.level at logged.failed))
