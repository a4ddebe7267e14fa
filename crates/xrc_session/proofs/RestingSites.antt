-- After a command's change and after a mark the site is at rest.
use Rattle.std.proofs.Common.{◌≡◌, ℕ, ◌+◌, Bool, true, false, not, cond, nat_eq, ◌&&◌, List, [], ◌∷◌, length, map, filter, nat_lt, Ok, Err, refl, sym, ap, subst, ◌∙◌, true≢false}
use Rattle.std.specs.Prelude.{slice_index_or}
use Rattle.std.specs.List.{list_all}
use Rattle.std.proofs.lemmas.Bool.{and_parts, or_left, or_right, eq-eqb}
use Rattle.crash_plant.specs.Moments.{PlantState}
use Rattle.pair_table.specs.declared.command.Change.{Change}
use Rattle.pair_table.specs.declared.level.Level.{Level}
use Rattle.pair_table.specs.declared.row.PairRow.{PairRow}
use Rattle.pair_table.specs.declared.row.PairState.{PairState}
use Rattle.pair_table.specs.declared.row.PairState.TheVariants.{Pending, Copy, Duplex, Suspended}
use Rattle.pair_table.specs.declared.row.SuspendCause.TheVariants.{Device}
use Rattle.pair_table.specs.Commands.{has_named_primary}
use Rattle.pair_table.specs.Devices.{is_among}
use Rattle.pair_table.specs.Naming.{Naming}
use Rattle.pair_table.specs.Rows.{is_suspended}
use Rattle.pair_table.specs.Tables.{Table, are_below, in_state, most_rows, with_rows}
use Rattle.row_changes.specs.Changes.{FaultReach, Timed, hit_row, reach_of, reached_row, row_after_change, since}
use Rattle.row_changes.specs.Changes.RowChange.{Hit}
use Rattle.row_changes.proofs.Reaching.{changes_state}
use Rattle.row_changes.proofs.Reaching.{reach_is_other}
use Rattle.record_rows.proofs.HitRows.{held}
use Rattle.record_rows.specs.Hits.{hit_now, is_down, is_hit_now, rows_hit}
use Rattle.pair_table.specs.States.{is_by_device, is_device_suspended}
use Rattle.record_rows.specs.Records.{rows_with_hits}
use Rattle.site_store.specs.Changing.{LogsChange, changed_items}
use Rattle.site_store.specs.Commands.{MayDo, after_command, excepted_by_change, is_added, without_flag}
use Rattle.site_store.specs.Sites.{SiteState}
use Rattle.site_store.specs.Standing.{Leaves, StandsFast, none_excepted}
use Rattle.site_store.proofs.Between.{changed_idle, marked_idle}
use Rattle.site_store.proofs.CommandRows.{flag_then}
use Rattle.site_store.proofs.Commanded.{changes_may, commands_leave}
use Rattle.xrc_journal.specs.Items.{Item}
use Rattle.xrc_session.specs.Resting.{AllAreTold, CommandsComeAfterChanges, CommandsComeAfterMarks, CommandsMayBeLogged, IdleAfterChanges, IdleAfterMarks, ToldAfterChanges, ToldAfterCommands, ToldAfterMarks}

-- ---- hits are told

pub suspends : (state : PairState) → is_suspended state ≡ false → is_device_suspended state ≡ false
suspends Pending is = refl
suspends Copy is = refl
suspends Duplex is = refl
suspends (Suspended cause at) is = absurd (true≢false is)

is_down_now : (failed : List Bool) (r : PairRow) → is_hit_now failed r ≡ false → is_device_suspended r.state ≡ false → is_down failed r.device ≡ false
is_down_now failed r none free = by_flag (is_down failed r.device) (is_device_suspended r.state) none free
  where
    by_flag : (a b : Bool) → (a && not b) ≡ false → b ≡ false → a ≡ false
    by_flag false b none free = refl
    by_flag true true none free = absurd (true≢false free)
    by_flag true false none free = absurd (true≢false none)

-- A row that isn't hit now, unless it is among those that are hit, isn't hit after the hits.
row_told : (failed : List Bool) (reach : FaultReach) → is_by_device reach.cause ≡ false → (hits : List ℕ) (time : ℕ) (r : PairRow) → (is_hit_now failed r ≡ true → is_among r.device hits ≡ true)
    → is_hit_now failed (reached_row reach hits time (hit_row hits time r)) ≡ false
row_told failed reach other hits time r hit = by_hit (is_among r.device hits) refl
  where
    off : (a : Bool) → (a && not true) ≡ false
    off true = refl
    off false = refl

    calm : is_among r.device hits ≡ false → (b : Bool) → is_hit_now failed r ≡ b → is_hit_now failed r ≡ false
    calm out true is = absurd (true≢false (sym (hit is) ∙ out))
    calm out false is = is

    reached : (a s : Bool) → is_suspended r.state ≡ s → is_hit_now failed r ≡ false → is_hit_now failed (cond a (cond s r (in_state (since reach.cause time) r)) r) ≡ false
    reached true true is none = none
    reached true false is none = ap (λ (b : Bool). is_down failed r.device && not b) other ∙ ap (λ (a : Bool). a && true) (is_down_now failed r none (suspends r.state is))
    reached false s is none = none

    by_hit : (b : Bool) → is_among r.device hits ≡ b → is_hit_now failed (reached_row reach hits time (cond b (in_state (since Device time) r) r)) ≡ false
    by_hit true is = ap (is_hit_now failed) (held reach hits time (in_state (since Device time) r) refl) ∙ off (is_down failed r.device)
    by_hit false is = reached (reach.reaches hits r) (is_suspended r.state) refl (calm is (is_hit_now failed r) refl)

rows_told : (failed : List Bool) (reach : FaultReach) → is_by_device reach.cause ≡ false → (hits : List ℕ) (time : ℕ) (rows : List PairRow) → ((d : ℕ) → is_among d (hit_now failed rows) ≡ true → is_among d hits ≡ true)
    → hit_now failed (map (λ r. reached_row reach hits time (hit_row hits time r)) rows) ≡ []
rows_told failed reach other hits time [] among = refl
rows_told failed reach other hits time (r ∷ rows) among = rest (is_hit_now failed (told r)) (row_told failed reach other hits time r here) (rows_told failed reach other hits time rows (λ d is. among d (after d (is_hit_now failed r) is)))
  where
    told : PairRow → PairRow
    told s = reached_row reach hits time (hit_row hits time s)

    first : (b : Bool) → b ≡ true → is_among r.device (map (λ s. s.device) (cond b (r ∷ filter (is_hit_now failed) rows) (filter (is_hit_now failed) rows))) ≡ true
    first true is = or_left (nat_eq r.device r.device) (is_among r.device (hit_now failed rows)) (eq-eqb r.device r.device refl)
    first false is = absurd (true≢false (sym is))

    here : is_hit_now failed r ≡ true → is_among r.device hits ≡ true
    here is = among r.device (first (is_hit_now failed r) is)

    after : (d : ℕ) (b : Bool) → is_among d (hit_now failed rows) ≡ true → is_among d (map (λ s. s.device) (cond b (r ∷ filter (is_hit_now failed) rows) (filter (is_hit_now failed) rows))) ≡ true
    after d true is = or_right (nat_eq r.device d) (is_among d (hit_now failed rows)) is
    after d false is = is

    rest : (b : Bool) → b ≡ false → hit_now failed (map told rows) ≡ [] → map (λ s. s.device) (cond b (told r ∷ filter (is_hit_now failed) (map told rows)) (filter (is_hit_now failed) (map told rows))) ≡ []
    rest true is none = absurd (true≢false is)
    rest false is none = none

-- After hits none is hit again, also where two rows have one device.
pub hits_told : (level : Level) (time : ℕ) (failed : List Bool) (rows : List PairRow) → hit_now failed (rows_with_hits level time failed rows) ≡ []
hits_told level time failed rows = by_hits (hit_now failed rows) refl
  where
    by_hits : (hits : List ℕ) → hit_now failed rows ≡ hits → hit_now failed (rows_with_hits level time failed rows) ≡ []
    by_hits [] none = rw none none
    by_hits (d ∷ hits) some = rw some (rows_told failed (reach_of level rows) (reach_is_other level rows) (d ∷ hits) time rows (λ e is. subst (λ (l : List ℕ). is_among e l ≡ true) some is))

-- ---- fewer jobs have failed

none_of_fewer : (failed now : List Bool) (rows : List PairRow) → ((d : ℕ) → is_down now d ≡ true → is_down failed d ≡ true) → hit_now failed rows ≡ [] → hit_now now rows ≡ []
none_of_fewer failed now [] fewer none = refl
none_of_fewer failed now (r ∷ rows) fewer none = by_flags (is_hit_now failed r) (is_hit_now now r) stays (none_of_fewer failed now rows fewer) none
  where
    stays : is_hit_now now r ≡ true → is_hit_now failed r ≡ true
    stays is =
        let parts = and_parts (is_down now r.device) (not (is_device_suspended r.state)) is in
        rw (fewer r.device parts.0) parts.1

    by_flags : (a b : Bool) → (b ≡ true → a ≡ true) → (hit_now failed rows ≡ [] → hit_now now rows ≡ []) → map (λ (s : PairRow). s.device) (cond a (r ∷ filter (is_hit_now failed) rows) (filter (is_hit_now failed) rows)) ≡ []
        → map (λ (s : PairRow). s.device) (cond b (r ∷ filter (is_hit_now now) rows) (filter (is_hit_now now) rows)) ≡ []
    by_flags true b stays rest none = absurd (cc none)
    by_flags false true stays rest none = absurd (true≢false (sym (stays refl)))
    by_flags false false stays rest none = rest none

pub told_after_commands : ToldAfterCommands
told_after_commands names session command at change site told = none_of_fewer site.failed (without_flag 0 change site.failed) site.told fewer told
  where
    fewer : (d : ℕ) → is_down (without_flag 0 change site.failed) d ≡ true → is_down site.failed d ≡ true
    fewer d is = by_added (is_added change (0 + d)) (sym (flag_then 0 d change site.failed) ∙ is)
      where
        by_added : (b : Bool) → cond b false (slice_index_or site.failed d false) ≡ true → is_down site.failed d ≡ true
        by_added true is = absurd (true≢false (sym is))
        by_added false is = is

-- ---- changes and marks

-- The rows after a change's record are those with the hits.
recorded : {P : Type 0} (was is : P) (old : PlantState) (cut : ℕ) (change : Change) (site next : SiteState) (value : Unit {0}) → AllAreTold site → LogsChange cut change site next old was is (Ok value) → AllAreTold next
recorded was is old cut change site next value told logs = by_items (changed_items change site.table.rows) refl
  where
    by_items : (items : List Item) → changed_items change site.table.rows ≡ items → AllAreTold next
    by_items [] none = subst AllAreTold (sym (logs.nothing none).1) told
    by_items (i ∷ items) some =
        let rows = logs.rows (λ none. let clash : i ∷ items ≡ [] = sym some ∙ none in cc clash) in
        subst (λ (l : List PairRow). hit_now next.failed l ≡ []) (sym (ap (λ (s : SiteState). s.told) rows.after.next_is)) (hits_told site.level cut next.failed site.table.rows)

pub told_after_changes : {P : Type 0} (was is : P) (old : PlantState) → ToldAfterChanges was is old
told_after_changes was is old cut change site next (Ok value) told logs = recorded was is old cut change site next value told logs
told_after_changes was is old cut change site next (Err e) told logs = tt

pub told_after_marks : {P : Type 0} (was is : P) → ToldAfterMarks was is
told_after_marks was is site next ended (Ok value) marks = subst (λ (l : List PairRow). hit_now next.failed l ≡ []) (sym (ap (λ (s : SiteState). s.told) marks.next_is)) (hits_told site.level site.time next.failed site.told)
told_after_marks was is site next ended (Err e) marks = tt

-- ---- the site is idle

pub commands_may_be_logged : (tells : Type 0) (plant : PlantState) → CommandsMayBeLogged tells plant
commands_may_be_logged tells plant names session command at cut change site idle labels done late log = changes_may tells plant cut change next fast idle.may.idle late log
  where
    next : SiteState
    next = after_command names session command at change site

    leaves : Leaves tells (excepted_by_change change site) site next plant plant
    leaves = commands_leave tells plant names site session command at change labels done idle.may.fast.fits

    fast : StandsFast tells next plant
    fast = record {
      fits = leaves.fits;
      stands = λ told. let s = idle.may.fast.stands told in (excepted_by_change change site s.0, leaves.stands told s.0 s.1);
    }

pub idle_after_changes : {P : Type 0} (tells : Type 0) (was is : P) (old new : PlantState) → IdleAfterChanges tells was is old new
idle_after_changes tells was is old new cut change site next result may leaves logs = changed_idle tells site next old new (λ e. e) cut change was is result may leaves logs

pub idle_after_marks : {P : Type 0} (tells : Type 0) (was is : P) (old new : PlantState) → IdleAfterMarks tells was is old new
idle_after_marks tells was is old new site next ended (Ok value) may leaves marks = marked_idle tells site next old new (λ e. none_excepted) ended _ next.failed may.fast leaves marks.next_is
idle_after_marks tells was is old new site next ended (Err e) may leaves marks = tt

-- ---- another command may come

-- What holds of a row in whatever state holds of it after hits.
module _ (test : PairRow → Bool) (stays : (state : PairState) (r : PairRow) → test (in_state state r) ≡ test r) (level : Level) (time : ℕ) where
  mapped_pass : (reach : FaultReach) (t : Timed) (rows : List PairRow) → list_all test (map (row_after_change reach t) rows) ≡ list_all test rows
  mapped_pass reach t [] = refl
  mapped_pass reach t (r ∷ rows) = λ i. (ap test (changes_state reach t r) ∙ stays (row_after_change reach t r).state r) i && mapped_pass reach t rows i

  pub hits_pass : (failed : List Bool) (rows : List PairRow) → list_all test (rows_with_hits level time failed rows) ≡ list_all test rows
  hits_pass failed rows = by_hits (hit_now failed rows)
    where
      by_hits : (hits : List ℕ) → list_all test (rows_hit level time hits rows) ≡ list_all test rows
      by_hits [] = refl
      by_hits (d ∷ hits) = mapped_pass (reach_of level rows) (record { time = time; change = Hit (d ∷ hits) }) rows

-- A site with other jobs of the same number, and with hits after its rows.
may_do_again : (names : Naming) (level : Level) (time : ℕ) (site next : SiteState) → MayDo names site → length next.failed ≡ length site.failed → next.table ≡ with_rows site.table (rows_with_hits level time next.failed site.table.rows) → MayDo names next
may_do_again names level time site next may count table = record {
  command = record { named = rows_are (has_named_primary names) ∙ hits_pass (has_named_primary names) (λ state r. refl) level time next.failed site.table.rows ∙ may.command.named; below = passes most_rows ∙ may.command.below };
  started = ap (λ (t : Table). t.is_started) table ∙ may.started;
  labels = ap (λ (n : ℕ). list_all (λ label. nat_lt label.device n) names.labels) count ∙ may.labels;
  rows = ap (λ (n : ℕ). are_below n next.table.rows) count ∙ passes (length site.failed) ∙ may.rows;
}
  where
    rows_are : (test : PairRow → Bool) → list_all test next.table.rows ≡ list_all test (rows_with_hits level time next.failed site.table.rows)
    rows_are test = ap (λ (t : Table). list_all test t.rows) table

    passes : (n : ℕ) → are_below n next.table.rows ≡ are_below n site.table.rows
    passes n = rows_are (λ r. nat_lt r.device n) ∙ hits_pass (λ r. nat_lt r.device n) (λ state r. refl) level time next.failed site.table.rows

pub commands_come_after_changes : {P : Type 0} (was is : P) (old : PlantState) → CommandsComeAfterChanges was is old
commands_come_after_changes was is old names cut change site next (Ok value) may count logs = by_items (changed_items change site.table.rows) refl
  where
    by_items : (items : List Item) → changed_items change site.table.rows ≡ items → MayDo names next
    by_items [] none =
        let site_is = (logs.nothing none).1 in
        subst (MayDo names) (sym site_is) (record { command = may.command; started = may.started; labels = may.labels; rows = may.rows })
    by_items (i ∷ items) some =
        let rows = logs.rows (λ none. let clash : i ∷ items ≡ [] = sym some ∙ none in cc clash) in
        may_do_again names site.level cut site next may count (ap (λ (s : SiteState). s.table) rows.after.next_is)
commands_come_after_changes was is old names cut change site next (Err e) may count logs = tt

pub commands_come_after_marks : {P : Type 0} (was is : P) → CommandsComeAfterMarks was is
commands_come_after_marks was is names site next ended (Ok value) may same count marks =
    may_do_again names site.level site.time site next may count
    (ap (λ (s : SiteState). s.table) marks.next_is ∙ ap (λ (rows : List PairRow). with_rows site.table (rows_with_hits site.level site.time next.failed rows)) same)
commands_come_after_marks was is names site next ended (Err e) may same count marks = tt
