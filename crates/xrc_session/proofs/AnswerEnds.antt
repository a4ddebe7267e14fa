-- An end that is accepted: its command, and the mark after it.
use Rattle.std.proofs.Common.{◌≡◌, inl, inr, ℕ, ◌≤◌, Bool, true, false, List, Option, Some, None, Result, Ok, Err, refl, sym, ap, subst, ◌∙◌, arith, true≢false}
use Rattle.std.specs.Prelude.{IsErrOf, if◌then◌else◌, is_none}
use Rattle.applier.specs.Returns.{WorksOnLent}
use Rattle.applier.proofs.Works.{works_lent_trans}
use Rattle.xrc_edge.specs.Causes.{Rose}
use Rattle.crash_plant.specs.declared.device.Device.{Device}
use Rattle.crash_plant.specs.declared.device.Device.TheVariants.{Control, State, Journal, Volume}
use Rattle.crash_plant.specs.Calls.{SameSite}
use Rattle.crash_plant.specs.Moments.{PlantState}
use Rattle.pair_table.specs.declared.command.Change.{Change}
use Rattle.pair_table.specs.declared.command.Command.{Command}
use Rattle.pair_table.specs.declared.command.Command.TheVariants.{Start, AddPair, DelPair, Suspend, Query, End}
use Rattle.pair_table.specs.declared.command.Refusal.{Refusal}
use Rattle.pair_table.specs.declared.names.NamedDevice.{NamedDevice}
use Rattle.pair_table.specs.declared.row.PairRow.{PairRow}
use Rattle.pair_table.specs.Commands.{accepted, added, answer, answer_by, change_of, is_end, table_after}
use Rattle.pair_table.specs.Naming.{Naming, labelled_device}
use Rattle.pair_table.specs.Refusals.{refusal, row_of_primary}
use Rattle.pair_table.specs.Tables.{Table, with_rows}
use Rattle.xrc_command.specs.declared.line.Line.{Line}
use Rattle.site_store.specs.Records.{IsStore}
use Rattle.site_store.specs.Sites.{SiteState}
use Rattle.consistency.specs.Stages.{accepts}
use Rattle.consistency.specs.Replying.{is_query}
use Rattle.mover.specs.Moves.{IsOfMover}
use Rattle.xrc_status.specs.declared.stop.Stop.{Stop}
use Rattle.xrc_status.specs.declared.stop.Stop.TheVariants as stops
use Rattle.xrc_session.specs.declared.answering.LineAnswer.{LineAnswer}
use Rattle.xrc_session.specs.Answering.{IsMarkedSite, IsSiteAnswered, IsSiteCommanded, is_end_accepted}
use Rattle.xrc_session.specs.Bringing.{IsWorkOfStore}
use Rattle.xrc_session.specs.Stops.{HasStopCause, IsSpentNow, StopsByCount, stop_of_device}
use Rattle.xrc_session.proofs.AnswerChanges.{labels_fit}
use Rattle.xrc_session.proofs.AnswerDone.{work_from}
use Rattle.xrc_session.proofs.AnswerWorks.{suspends_then}

-- ---- which answers end the session

change_ends : (names : Naming) (command : Command) (rows : List PairRow) → is_end_accepted (Ok (change_of names command rows)) ≡ is_end command
change_ends names (Start level) rows = refl
change_ends names (AddPair primary secondary group) rows = by_rows (row_of_primary primary rows) (labelled_device secondary names)
  where
    by_rows : (o : Option PairRow) (l : Option NamedDevice) → is_end_accepted (Ok (added o l)) ≡ false
    by_rows (Some r) l = refl
    by_rows None (Some l) = refl
    by_rows None None = refl
change_ends names (DelPair choice) rows = refl
change_ends names (Suspend choice) rows = refl
change_ends names Query rows = refl
change_ends names End rows = refl

module _ (names : Naming) (table : Table) (session : List ℕ) (command : Command) (time : ℕ) where
  -- A command that an ended session would accept isn't there.
  accepted_goes : refusal names table session command ≡ None → table.is_ended ≡ false
  accepted_goes accepts = by_flag table.is_ended refl
    where
      by_flag : (b : Bool) → table.is_ended ≡ b → b ≡ false
      by_flag false is = refl
      by_flag true is = absurd (none_refused (subst (λ (e : Bool). refusal names (record table { is_ended = e }) session command ≡ None) is accepts))
        where
          none_refused : refusal names (record table { is_ended = true }) session command ≡ None → ⊥
          none_refused is = absurd cc

  -- The answer of an end that is accepted leaves an ended session, and each other leaves the flag.
  answer_ends : (b : Bool) → is_end_accepted (answer names table session command) ≡ b → (table_after names table session command time).is_ended ≡ (if b then true else table.is_ended)
  answer_ends b is = by_refusal (refusal names table session command) refl
    where
      by_flag : (e : Bool) → e ≡ b → table.is_ended ≡ false → e ≡ (if b then true else table.is_ended)
      by_flag true same goes = ap (λ (c : Bool). if c then true else table.is_ended) same
      by_flag false same goes = sym goes ∙ ap (λ (c : Bool). if c then true else table.is_ended) same

      by_refusal : (o : Option Refusal) → refusal names table session command ≡ o → (table_after names table session command time).is_ended ≡ (if b then true else table.is_ended)
      by_refusal None accepts =
          (λ i. let t : Table = (if is_none (accepts i) then accepted names time command table else table) in t.is_ended)
          ∙ by_flag (is_end command) (sym (change_ends names command table.rows) ∙ (λ i. is_end_accepted (answer_by (sym accepts i) (change_of names command table.rows))) ∙ is) (accepted_goes accepts)
      by_refusal (Some why) refused =
          (λ i. let t : Table = (if is_none (refused i) then accepted names time command table else table) in t.is_ended)
          ∙ ap (λ (c : Bool). if c then true else table.is_ended) ((λ i. is_end_accepted (answer_by (sym refused i) (change_of names command table.rows))) ∙ is)

  -- The session goes on before an end that is accepted.
  pub end_comes : is_end_accepted (answer names table session command) ≡ true → table.is_ended ≡ false
  end_comes is = by_refusal (refusal names table session command) refl
    where
      by_refusal : (o : Option Refusal) → refusal names table session command ≡ o → table.is_ended ≡ false
      by_refusal None accepts = accepted_goes accepts
      by_refusal (Some why) refused = absurd (true≢false (sym is ∙ (λ i. is_end_accepted (answer_by (refused i) (change_of names command table.rows)))))

  -- A command that ends is no query.
  pub ends_no_query : is_end_accepted (answer names table session command) ≡ true → is_query command ≡ true → ⊥
  ends_no_query ends query = by_command command ends query
    where
      by_command : (c : Command) → is_end_accepted (answer names table session c) ≡ true → is_query c ≡ true → ⊥
      by_command (Start level) ends query = true≢false (sym query)
      by_command (AddPair primary secondary group) ends query = true≢false (sym query)
      by_command (DelPair choice) ends query = true≢false (sym query)
      by_command (Suspend choice) ends query = true≢false (sym query)
      by_command End ends query = true≢false (sym query)
      by_command Query ends query = by_refusal (refusal names table session Query) ends
        where
          by_refusal : (o : Option Refusal) → is_end_accepted (answer_by o (change_of names Query table.rows)) ≡ true → ⊥
          by_refusal None ends = true≢false (sym ends)
          by_refusal (Some why) ends = true≢false (sym ends)

-- ---- the site

module _ (tells : Type 0) (names : Naming) (line : Line) (answered : Result Change Refusal) (was site : SiteState) (mid : PlantState) (c : IsSiteCommanded tells names line answered was site mid) (flag : was.mark.ended ≡ was.table.is_ended) where
  table_flag : (b : Bool) → is_end_accepted answered ≡ b → site.table.is_ended ≡ (if b then true else was.table.is_ended)
  table_flag b is =
      ap (λ (t : Table). t.is_ended) c.table
      ∙ answer_ends names was.table line.session line.command line.time.0 b (ap (λ (r : Result Change Refusal). is_end_accepted r) (sym c.answer_is) ∙ is)

  -- Where the session goes on, or had ended before, no mark is made.
  pub answered_on : is_end_accepted answered ≡ false → IsSiteAnswered tells names line answered was site mid
  answered_on on = record {
    answer_is = c.answer_is;
    may = c.may;
    controls = c.controls;
    level = c.level;
    time = c.time;
    table = c.table;
    flag = c.flag ∙ flag ∙ sym (table_flag false on);
    marked = c.marked;
    empty = λ ended. inr (c.same (sym (table_flag false on) ∙ ended));
  }

  module _ (ends : is_end_accepted answered ≡ true) where
    pub site_ended : site.table.is_ended ≡ true
    site_ended = table_flag true ends

    pub was_on : was.table.is_ended ≡ false
    was_on = end_comes names was.table line.session line.command line.time.0 (ap (λ (r : Result Change Refusal). is_end_accepted r) (sym c.answer_is) ∙ ends)

    pub site_unmarked : site.mark.ended ≡ false
    site_unmarked = c.flag ∙ flag ∙ was_on

    pub next_ended : (next : SiteState) (new : PlantState) → IsMarkedSite tells true site next new → next.table.is_ended ≡ true
    next_ended next new marked = ap (λ (t : Table). t.is_ended) marked.table ∙ site_ended

    -- After the mark of an end the site tells it.
    pub answered_end : (next : SiteState) (new : PlantState) → IsMarkedSite tells true site next new → SameSite mid new → IsSiteAnswered tells names line answered was next new
    answered_end next new marked same = record {
      answer_is = c.answer_is;
      may = record { idle = marked.idle; told = marked.told; commands = marked.commands names c.may.commands; labels = labels_fit names mid new same c.may.labels };
      controls = marked.controls ∙ c.controls;
      level = marked.level ∙ c.level;
      time = marked.time ∙ c.time;
      table = marked.table ∙ ap (λ (t : Table). with_rows t next.told) c.table;
      flag = marked.flag ∙ sym (next_ended next new marked);
      marked = λ none. marked.marked;
      empty = λ ended. inl marked.empty;
    }

-- ---- why it stops

rose_before : (a b c : ℕ) → a ≤ b → Rose b c → Rose a c
rose_before a b c up (inl rose) = inl (omega (arith, up, rose))
rose_before a b c up (inr most) = inr most

-- A stop after calls has its cause since before them.
cause_before : (old mid new : PlantState) (stop : Stop) → ((d : Device) → old.faults d ≤ mid.faults d) → old.console_faults ≤ mid.console_faults → HasStopCause mid new stop → HasStopCause old new stop
cause_before old mid new stops.ConsoleFault up console cause = rose_before old.console_faults mid.console_faults new.console_faults console cause
cause_before old mid new (stops.JournalFault j) up console cause = rose_before (old.faults (Journal j)) (mid.faults (Journal j)) (new.faults (Journal j)) (up (Journal j)) cause
cause_before old mid new stops.ControlFault up console cause = rose_before (old.faults Control) (mid.faults Control) (new.faults Control) (up Control) cause
cause_before old mid new stops.StateFault up console cause = rose_before (old.faults State) (mid.faults State) (new.faults State) (up State) cause
cause_before old mid new stops.Spent up console cause = tt
cause_before old mid new stops.NoMemory up console cause = tt
cause_before old mid new (stops.BadLine n) up console cause = absurd cause
cause_before old mid new stops.BadWords up console cause = absurd cause
cause_before old mid new (stops.BadHeader k place) up console cause = absurd cause
cause_before old mid new (stops.HeaderFault k) up console cause = absurd cause
cause_before old mid new stops.NoSession up console cause = absurd cause
cause_before old mid new (stops.OtherSession name) up console cause = absurd cause
cause_before old mid new (stops.Damaged d place) up console cause = absurd cause
cause_before old mid new stops.VolumeFault up console cause = absurd cause
cause_before old mid new (stops.TooSmall d needed) up console cause = absurd cause
cause_before old mid new stops.BadSite up console cause = absurd cause

module _ (tells : Type 0) (was site next : SiteState) (old mid new : PlantState) (answered : LineAnswer) (told : site.told ≡ was.told) (written : site.written ≡ was.written) (waiting : site.waiting ≡ was.waiting)
    (first : (let r : Result LineAnswer Stop = Ok answered in IsWorkOfStore tells was site old mid r)) where
  still : (d : Device) → IsStore d → mid.faults d ≡ old.faults d
  still d store = first.counts.devices d store (λ is. absurd cc)

  console : mid.console_faults ≡ old.console_faults
  console = first.counts.console (λ is. absurd cc)

  works : {T : Type 0} (result : Result T Stop) → IsWorkOfStore tells site next mid new result → WorksOnLent tells (IsOfMover was) old new
  works result rest = works_lent_trans tells (IsOfMover was) old mid new first.works (work_from tells was site next mid new result told written waiting rest).works

  counts : {T U : Type 0} (result : Result T Stop) (other : Result U Stop) → ((stop : Stop) → result ≡ Err stop → other ≡ Err stop) → StopsByCount mid new result → StopsByCount old new other
  counts result other same rest = record {
    devices = λ d store none. rest.devices d store (λ is. none (same (stop_of_device d) is)) ∙ still d store;
    console = λ none. rest.console (λ is. none (same stops.ConsoleFault is)) ∙ console;
    later = λ d. omega (arith, first.counts.later d, rest.later d);
    console_later = omega (arith, first.counts.console_later, rest.console_later);
    console_once = (let quiet = console in let once = rest.console_once in omega (arith, quiet, once));
  }

  -- A mark after a command works on the same devices.
  pub ended_work : (let r : Result (Unit {0}) Stop = Ok tt in IsWorkOfStore tells site next mid new r) → (let r : Result LineAnswer Stop = Ok answered in IsWorkOfStore tells was next old new r)
  ended_work rest = record {
    works = works (Ok tt) rest;
    cause = tt;
    counts = counts (Ok tt) (Ok answered) never rest.counts;
    spent = λ tells_it spent. unspent spent;
    hits = suspends_then was.told site.told next.told old mid new (λ d. first.counts.later (Volume d)) (λ d. rest.counts.later (Volume d)) first.hits rest.hits;
  }
    where
      never : (stop : Stop) → (let r : Result (Unit {0}) Stop = Ok tt in r ≡ Err stop) → (let r : Result LineAnswer Stop = Ok answered in r ≡ Err stop)
      never stop is = absurd cc

      unspent : (let r : Result LineAnswer Stop = Ok answered in IsErrOf r stops.Spent) → IsSpentNow new
      unspent is = absurd cc

  pub stopped_work : (stop : Stop) → (let r : Result (Unit {0}) Stop = Err stop in IsWorkOfStore tells site next mid new r) → (let r : Result LineAnswer Stop = Err stop in IsWorkOfStore tells was next old new r)
  stopped_work stop rest = record {
    works = works (Err stop) rest;
    cause = cause_before old mid new stop first.counts.later first.counts.console_later rest.cause;
    counts = counts (Err stop) (Err stop) (λ other is. same_stop other is) rest.counts;
    spent = λ tells_it spent. rest.spent tells_it (spent_alike spent);
    hits = tt;
  }
    where
      same_stop : (other : Stop) → (let r : Result (Unit {0}) Stop = Err stop in r ≡ Err other) → (let r : Result LineAnswer Stop = Err stop in r ≡ Err other)
      same_stop other is = let same : stop ≡ other = cc in ap (λ (s : Stop). let r : Result LineAnswer Stop = Err s in r) same

      spent_alike : (let r : Result LineAnswer Stop = Err stop in IsErrOf r stops.Spent) → (let r : Result (Unit {0}) Stop = Err stop in IsErrOf r stops.Spent)
      spent_alike is = let same : stop ≡ stops.Spent = cc in ap (λ (s : Stop). let r : Result (Unit {0}) Stop = Err s in r) same
