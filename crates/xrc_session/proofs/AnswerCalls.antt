-- What a mark and the logging of a change work on, and why they stop.
use Rattle.std.proofs.Common.{◌≡◌, ◌≢◌, ℕ, Bool, true, List, [], Result, Ok, Err, refl, sym, ap, subst, true≢false}
use Rattle.std.specs.Prelude.{IsErrOf}
use Rattle.std.specs.List.{Contains}
use Rattle.applier.specs.Returns.{WorksOnLent}
use Rattle.applier.proofs.Works.{works_lent_more}
use Rattle.crash_plant.specs.Moments.{PlantState}
use Rattle.pair_table.specs.declared.command.Change.{Change}
use Rattle.pair_table.specs.declared.row.PairRow.{PairRow}
use Rattle.pair_table.specs.Naming.{Naming}
use Rattle.pair_table.specs.Tables.{none_clash}
use Rattle.record_rows.specs.Hits.{hit_now}
use Rattle.pair_table.specs.States.{is_device_suspended}
use Rattle.record_rows.specs.Records.{rows_with_hits}
use Rattle.xrc_command.specs.declared.line.Line.{Line}
use Rattle.site_store.specs.declared.store_error.StoreError.{StoreError}
use Rattle.site_store.specs.declared.store_error.StoreError.TheVariants.{Spent}
use Rattle.site_store.specs.IdleSites.{IsSiteIdle}
use Rattle.site_store.specs.Causes.{FailByCounts, HasStoreCause}
use Rattle.site_store.specs.Changing.{LogsChange, changed_items}
use Rattle.site_store.specs.Marking.{Marks}
use Rattle.site_store.specs.Records.{IsOfMark, IsOfRecord}
use Rattle.site_store.specs.Sites.{SiteState}
use Rattle.mover.specs.Moves.{IsOfMover}
use Rattle.mover.proofs.Pairs.{Among, contains_of}
use Rattle.xrc_status.specs.declared.stop.Stop.{Stop}
use Rattle.xrc_status.specs.declared.stop.Stop.TheVariants as stops
use Rattle.xrc_session.specs.Answering.{MayLogChange}
use Rattle.xrc_session.specs.Bringing.{IsWorkOfStore}
use Rattle.xrc_session.specs.Frames.{SuspendsByCounts}
use Rattle.xrc_session.specs.Stops.{IsSpentNow, stop_of_device, stop_of_store}
use Rattle.xrc_session.proofs.AnswerChanges.{change_suspends, may_change}
use Rattle.xrc_session.proofs.AnswerSites.{mark_of_mover, record_of_mover}
use Rattle.xrc_session.proofs.AnswerWorks.{mark_is_spent, none_counted, numbers_are_spent, record_is_spent, spent_stop, stops_counted, store_cause, suspends_by_counts}

-- A call stops for want of numbers only where the store tells it.
store_spent : (error : StoreError) → (let r : Result (Unit {0}) Stop = Err (stop_of_store error) in IsErrOf r stops.Spent) → (let r : Result (Unit {0}) StoreError = Err error in IsErrOf r Spent)
store_spent error is =
    let stop : stop_of_store error ≡ stops.Spent = cc is in
    ap (λ (e : StoreError). let r : Result (Unit {0}) StoreError = Err e in r) (spent_stop error stop)

-- ---- a mark

module _ {P : Type 0} (tells : Type 0) (site next : SiteState) (old new : PlantState) (was is : P) (ended : Bool) (idle : IsSiteIdle tells site old) (works : WorksOnLent tells (IsOfMark site) old new) where
  mark_lent : WorksOnLent tells (IsOfMover site) old new
  mark_lent = works_lent_more tells (IsOfMark site) (IsOfMover site) old new (mark_of_mover site) works

  -- A mark that counts stops nothing, and tells the rows whose volumes have failed.
  pub mark_works : hit_now site.failed site.told ≡ [] → FailByCounts site.failed next.failed old.faults new.faults → HasStoreCause old.faults new.faults (Ok tt) → Marks site next ended was is (Ok tt)
      → IsWorkOfStore {T = Unit {0}} tells site next old new (Ok tt)
  mark_works none fails cause marks = record {
    works = mark_lent;
    cause = tt;
    counts = none_counted tells (IsOfMark site) old new works (Ok tt) cause;
    spent = λ told spent. absurd (cc spent);
    hits = subst (λ (rows : List PairRow). SuspendsByCounts site.told rows old new) (sym told_is) (suspends_by_counts site.level site.time site.failed next.failed site.told site.told old new fails none from);
  }
    where
      told_is : next.told ≡ rows_with_hits site.level site.time next.failed site.told
      told_is = ap (λ (s : SiteState). s.told) marks.next_is

      from : (x : PairRow) → Among x site.told → is_device_suspended x.state ≡ true → (y : PairRow) × Contains site.told y × (y.device ≡ x.device) × (y.state ≡ x.state)
      from x there on = (x, contains_of x site.told there, refl, refl)

  -- A mark that fails stops for its cause.
  pub mark_stops : (is ≡ was → new ≡ old) → (error : StoreError) → HasStoreCause old.faults new.faults (Err error) → Marks site next ended was is (Err error)
      → IsWorkOfStore {T = Unit {0}} tells site next old new (Err (stop_of_store error))
  mark_stops same_plant error cause marks = record {
    works = mark_lent;
    cause = store_cause old new error cause;
    counts = stops_counted tells (IsOfMark site) old new works error cause;
    spent = spent;
    hits = tt;
  }
    where
      spent : tells → (let r : Result (Unit {0}) Stop = Err (stop_of_store error) in IsErrOf r stops.Spent) → IsSpentNow new
      spent told is =
          let own = store_spent error is in
          let stands = idle.may.fast.stands told in
          subst IsSpentNow (sym (same_plant (marks.nothing own).1)) (numbers_are_spent old stands.0 site stands.1 (mark_is_spent site (marks.spent.0 own)))

-- ---- a change

module _ {P : Type 0} (tells : Type 0) (names : Naming) (line : Line) (change : Change) (before : List PairRow) (site next : SiteState) (old new : PlantState) (was is : P) (h : MayLogChange tells names line change before site old) (works : WorksOnLent tells (IsOfRecord site) old new) where
  log_lent : WorksOnLent tells (IsOfMover site) old new
  log_lent = works_lent_more tells (IsOfRecord site) (IsOfMover site) old new (record_of_mover site) works

  -- A change that is logged stops nothing, and tells the rows whose volumes have failed.
  pub log_works : none_clash before ≡ true → FailByCounts site.failed next.failed old.faults new.faults → HasStoreCause old.faults new.faults (Ok tt) → LogsChange line.time.0 change site next old was is (Ok tt) → (tracks : ℕ)
      → IsWorkOfStore {T = ℕ} tells site next old new (Ok tracks)
  log_works apart fails cause logs tracks = record {
    works = log_lent;
    cause = tt;
    counts = none_counted tells (IsOfRecord site) old new works (Ok tracks) cause;
    spent = λ told spent. absurd (cc spent);
    hits = change_suspends tells names line change before site next old new was is h (subst (λ (rows : List PairRow). none_clash rows ≡ true) h.rows apart) logs fails;
  }

  -- Where it isn't taken over there is no memory.
  pub log_untaken : HasStoreCause old.faults new.faults (Ok tt) → IsWorkOfStore {T = ℕ} tells site next old new (Err stops.NoMemory)
  log_untaken cause = record {
    works = log_lent;
    cause = tt;
    counts = none_counted tells (IsOfRecord site) old new works (Err stops.NoMemory) cause;
    spent = λ told spent. absurd (cc spent);
    hits = tt;
  }

  -- Logging that fails stops for its cause.
  pub log_stops : (error : StoreError) → HasStoreCause old.faults new.faults (Err error) → LogsChange line.time.0 change site next old was is (Err error) → ((let r : Result (Unit {0}) StoreError = Err error in IsErrOf r Spent) → new ≡ old)
      → IsWorkOfStore {T = ℕ} tells site next old new (Err (stop_of_store error))
  log_stops error cause logs uncalled = record {
    works = log_lent;
    cause = store_cause old new error cause;
    counts = stops_counted tells (IsOfRecord site) old new works error cause;
    spent = spent;
    hits = tt;
  }
    where
      some : changed_items change site.table.rows ≢ []
      some none = absurd (true≢false (sym (logs.nothing none).0))

      spent : tells → (let r : Result ℕ Stop = Err (stop_of_store error) in IsErrOf r stops.Spent) → IsSpentNow new
      spent told of =
          let stop : stop_of_store error ≡ stops.Spent = cc of in
          let own = store_spent error (ap (λ (s : Stop). let r : Result (Unit {0}) Stop = Err s in r) stop) in
          let stands = (may_change tells names line change before site next old new was is h).fast.stands told in
          let rows = logs.rows some in
          subst IsSpentNow (sym (uncalled own)) (numbers_are_spent old stands.0 site stands.1 (record_is_spent rows.placement site (rows.spent.0 own)))

-- ---- an answer that is passed on

stop_as : {T U : Type 0} (stop other : Stop) → (let r : Result T Stop = Err stop in IsErrOf r other) → (let r : Result U Stop = Err stop in IsErrOf r other)
stop_as {T} {U} stop other is = let same : stop ≡ other = cc is in ap (λ (s : Stop). let r : Result U Stop = Err s in r) same

ok_as : {T U : Type 0} (a : T) (b : U) (other : Stop) → (let r : Result T Stop = Ok a in IsErrOf r other) → (let r : Result U Stop = Ok b in IsErrOf r other)
ok_as a b other is = absurd (cc is)

-- With another value the work is the same.
module _ {T U : Type 0} (tells : Type 0) (site next : SiteState) (old new : PlantState) where
  pub work_done_as : (a : T) (b : U) → (let r : Result T Stop = Ok a in IsWorkOfStore tells site next old new r) → (let r : Result U Stop = Ok b in IsWorkOfStore tells site next old new r)
  work_done_as a b work = record {
    works = work.works;
    cause = tt;
    counts = record {
      devices = λ d store none. work.counts.devices d store (λ is. none (ok_as a b (stop_of_device d) is));
      console = λ none. work.counts.console (λ is. none (ok_as a b stops.ConsoleFault is));
      later = work.counts.later;
      console_later = work.counts.console_later;
      console_once = work.counts.console_once;
    };
    spent = λ told is. work.spent told (ok_as b a stops.Spent is);
    hits = work.hits;
  }

  pub work_stopped_as : (stop : Stop) → (let r : Result T Stop = Err stop in IsWorkOfStore tells site next old new r) → (let r : Result U Stop = Err stop in IsWorkOfStore tells site next old new r)
  work_stopped_as stop work = record {
    works = work.works;
    cause = work.cause;
    counts = record {
      devices = λ d store none. work.counts.devices d store (λ is. none (stop_as {T = T} {U = U} stop (stop_of_device d) is));
      console = λ none. work.counts.console (λ is. none (stop_as {T = T} {U = U} stop stops.ConsoleFault is));
      later = work.counts.later;
      console_later = work.counts.console_later;
      console_once = work.counts.console_once;
    };
    spent = λ told is. work.spent told (stop_as {T = U} {U = T} stop stops.Spent is);
    hits = tt;
  }
