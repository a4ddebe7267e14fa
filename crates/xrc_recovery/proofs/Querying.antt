-- The ends of a query: at a site of other numbers, at an error, and with its report; and the status of each.
use Rattle.std.proofs.Common.{◌≡◌, ◌≢◌, ◌≤◌, ◌⊎◌, ◌++◌, inl, inr, ℕ, List, Some, Result, Ok, Err, IfErr, IsTrue, refl, sym, ◌∙◌, ap, subst, arith}
use Rattle.std.specs.Prelude.{IsErrOf}
use Rattle.xrc_edge.specs.Causes.{Rose}
use Rattle.crash_plant.specs.declared.device.Device.{Device}
use Rattle.crash_plant.specs.declared.device.Device.TheVariants.{Control, State, Journal, Volume}
use Rattle.crash_plant.specs.Moments.{PlantState}
use Rattle.crash_plant.specs.Calls.{NoneRose, WorksOnConsole}
use Rattle.site_means.specs.declared.means.Means.{Means}
use Rattle.site_means.specs.declared.site_error.SiteError.TheVariants.{NoSession as NoSessionError, Damaged as DamagedError, Fault, TooSmall as TooSmallError, NoMemory as NoMemoryError}
use Rattle.site_means.specs.Answers.{IsStore, ReadsAll, first_short, need}
use Rattle.xrecover.specs.declared.recover_error.RecoverError.{RecoverError}
use Rattle.xrecover.specs.declared.recover_error.RecoverError.TheVariants.{Site, Other}
use Rattle.xrecover.specs.Answers.{FailsSo, IsGoodOrCalledFor, IsMeant}
use Rattle.xrecover.specs.Works.{Nothing}
use Rattle.xrecover.proofs.Works.{works_reads}
use Rattle.xrc_status.specs.declared.stop.Stop.{Stop}
use Rattle.xrc_status.specs.declared.stop.Stop.TheVariants.{NoMemory, BadWords, ConsoleFault, BadLine, JournalFault, ControlFault, StateFault, BadHeader, HeaderFault, NoSession, OtherSession, Damaged, VolumeFault, TooSmall, BadSite, Spent}
use Rattle.xrc_status.specs.Saying.{SaysLast, SaysText}
use Rattle.xrc_status.specs.Stops.{last_line, status_of}
use Rattle.xrc_recovery.specs.Stops.{HasRisen, IsSite, fault_of, stop_of}
use Rattle.xrc_recovery.specs.Statuses.{EndsSo}
use Rattle.xrc_recovery.specs.Queries.{CallsForQuery, EndsQuery, HasMeaning, QueriesSession, SaysReport, ends_query, meaning_report}
use Rattle.xrc_recovery.proofs.Changing.{changes_more, changes_of, changes_then, nothing_here, says_after}
use Rattle.xrc_recovery.proofs.Stopping.{calls_for, has_risen, memory_or_small, not_console, not_site}
use Rattle.xrc_recovery.proofs.Lasting.{console_calls, is_console, is_site, none_before, not_done, risen_still, says_last_alone}

-- ---- a site of other numbers

pub query_at_site : (tells : Type 0) (session : List ℕ) (a : PlantState) → ¬ IsSite a → QueriesSession tells session a a (Err BadSite)
query_at_site tells session a other = record {
  site = (λ is. other, λ no. refl);
  short = λ site. absurd (other site);
  of_short = λ d needed is. absurd cc;
  called_for = λ told. record { calls = other; short = λ d needed is. absurd cc; no_volume = λ is. cc };
  causes = tt;
  no_volume = λ is. cc;
  counts = λ d no. refl;
  complete = λ told site. absurd (other site);
  done = λ told. tt;
  in_part = λ told is. absurd cc;
  silent = λ quiet. nothing_here tells a;
  console_count = λ no. refl;
  console_once = omega arith;
  changes = changes_of tells Nothing a a (nothing_here tells a);
}

-- ---- an error

-- what was answered of the devices
pub record Examined (tells : Type 0) (session : List ℕ) (a b : PlantState) (r : Result Means RecoverError) : Type 0 where
  pub says : tells → IsGoodOrCalledFor a session (λ means. IsMeant a session means) r
  pub short : (d : Device) → first_short a ≡ Some d → r ≡ Err (Site (TooSmallError d (need d)))
  pub small : (d : Device) (needed : ℕ) → IsErrOf r (Site (TooSmallError d needed)) → first_short a ≡ Some d
  pub examined : (d : Device) → IsErrOf r (Site (Fault d)) → IsStore d
  pub fails : FailsSo a.faults b.faults r
  pub reads : ReadsAll tells a b

-- a stop of a device that is too small
small_error : (e : RecoverError) (d : Device) (needed : ℕ) → stop_of e ≡ TooSmall d needed → e ≡ Site (TooSmallError d needed)
small_error (Other name) d needed is = absurd cc
small_error (Site NoSessionError) d needed is = absurd cc
small_error (Site (DamagedError e place)) d needed is = absurd cc
small_error (Site (Fault Control)) d needed is = absurd cc
small_error (Site (Fault State)) d needed is = absurd cc
small_error (Site (Fault (Journal j))) d needed is = absurd cc
small_error (Site (Fault (Volume v))) d needed is = absurd cc
small_error (Site (TooSmallError e n)) d needed is = let same : TooSmall e n ≡ TooSmall d needed = is in cc
small_error (Site NoMemoryError) d needed is = absurd cc

no_volume : (e : RecoverError) → ((d : Device) → e ≡ Site (Fault d) → IsStore d) → stop_of e ≢ VolumeFault
no_volume (Other name) examined = λ is. cc
no_volume (Site NoSessionError) examined = λ is. cc
no_volume (Site (DamagedError d place)) examined = λ is. cc
no_volume (Site (Fault Control)) examined = λ is. cc
no_volume (Site (Fault State)) examined = λ is. cc
no_volume (Site (Fault (Journal j))) examined = λ is. cc
no_volume (Site (Fault (Volume v))) examined = λ is. examined (Volume v) refl
no_volume (Site (TooSmallError d needed)) examined = λ is. cc
no_volume (Site NoMemoryError) examined = λ is. cc

-- Where the devices mean something there is only want of memory.
query_memory : (a b : PlantState) (session : List ℕ) → HasMeaning a session → NoneRose a b → (stop : Stop) → stop ≢ BadSite → CallsForQuery a session stop → HasRisen a b stop → stop ≡ NoMemory
query_memory a b session ready none stop site calls risen = elim (memory_or_small a b session ready.long ready.means ready.is_meant none stop site calls.calls risen) [
  | inl memory ↦ memory
  | inr small ↦ absurd (let first = (calls.short small.0 small.1 small.2).first in let long = ready.long in cc)
]

module _ (tells : Type 0) (session : List ℕ) (a b : PlantState) (e : RecoverError) (stop : Stop) (is : stop ≡ stop_of e) (k : Examined tells session a b (Err e)) where
  own_short : (d : Device) → first_short a ≡ Some d → e ≡ Site (TooSmallError d (need d))
  own_short d first = let same = k.short d first in cc

  own_small : (d : Device) (needed : ℕ) → stop_of e ≡ TooSmall d needed → first_short a ≡ Some d
  own_small d needed at = k.small d needed (ap (λ (f : RecoverError). Err f) (small_error e d needed at))

  own_fault : (d : Device) → e ≡ Site (Fault d) → Rose (a.faults d) (b.faults d)
  own_fault d at = k.fails.rose d (ap (λ (f : RecoverError). Err f) at)

  own_volume : stop_of e ≢ VolumeFault
  own_volume = no_volume e (λ d at. k.examined d (ap (λ (f : RecoverError). Err f) at))

  need_same : (d : Device) (needed : ℕ) → stop_of e ≡ TooSmall d needed → e ≡ Site (TooSmallError d (need d)) → needed ≡ need d
  need_same d needed at same = let both : Site (TooSmallError d needed) ≡ Site (TooSmallError d (need d)) = sym (small_error e d needed at) ∙ same in cc

  own_calls : tells → CallsForQuery a session (stop_of e)
  own_calls told = record {
    calls = calls_for {X = Means} a session (λ means. IsMeant a session means) e own_short (k.says told);
    short = λ d needed at. record { first = own_small d needed at; need_is = need_same d needed at (own_short d (own_small d needed at)) };
    no_volume = own_volume;
  }

  pub query_at_error : IsSite a → QueriesSession tells session a b (Err stop)
  query_at_error site = record {
    site = (λ bad. absurd (not_site e (sym is ∙ let same = bad in cc)), λ no. absurd (no site));
    short = λ again d first. ap (λ (s : Stop). Err s) (is ∙ ap stop_of (own_short d first));
    of_short = λ d needed at. own_small d needed (sym is ∙ let same = at in cc);
    called_for = λ told. subst (λ (s : Stop). CallsForQuery a session s) (sym is) (own_calls told);
    causes = subst (λ (s : Stop). HasRisen a b s) (sym is) (has_risen a b e own_fault);
    no_volume = λ at. own_volume (sym is ∙ at);
    counts = λ d no. k.fails.others d (λ at. no (ap (λ (s : Stop). Err s) (is ∙ let same : e ≡ Site (Fault d) = cc in ap stop_of same)));
    complete = λ told again ready none. is ∙ query_memory a b session ready none (stop_of e) (not_site e) (own_calls told) (has_risen a b e own_fault);
    done = λ told. tt;
    in_part = λ told console. absurd (not_console e (sym is ∙ let same = console in cc));
    silent = λ quiet. works_reads tells a b k.reads;
    console_count = λ no. k.reads.only.console_faults;
    console_once = omega (arith, k.reads.only.console_faults);
    changes = changes_of tells Nothing a b (works_reads tells a b k.reads);
  }

-- ---- the report

-- what a call that says a text answers, as what its caller answers
pub said_as : {E F : Type 0} (tells : Type 0) (text : List ℕ) (a b : PlantState) (v : Unit {0}) → SaysText {T = Unit {0}} {E = E} tells text a b (Ok v) → SaysText {T = Unit {0}} {E = F} tells text a b (Ok v)
said_as tells text a b v said = record {
  front = said.front;
  whole = said.whole;
  cause = record { later = said.cause.later; by_one = said.cause.by_one; ok = said.cause.ok; failed = tt };
}

pub failed_as : {E F : Type 0} (tells : Type 0) (text : List ℕ) (a b : PlantState) (e : E) (f : F) → SaysText {T = Unit {0}} {E = E} tells text a b (Err e) → SaysText {T = Unit {0}} {E = F} tells text a b (Err f)
failed_as tells text a b e f said = record {
  front = said.front;
  whole = λ told. tt;
  cause = record { later = said.cause.later; by_one = said.cause.by_one; ok = tt; failed = said.cause.failed };
}

-- what was read, and what is to be said
pub record Known (tells : Type 0) (session : List ℕ) (a b : PlantState) (means : Means) : Type 0 where
  pub site : IsSite a
  pub long : (d : Device) → ¬ (first_short a ≡ Some d)
  pub is_meant : tells → IsMeant a session means
  pub counts : (d : Device) → b.faults d ≡ a.faults d
  pub reads : ReadsAll tells a b

module _ (tells : Type 0) (session : List ℕ) (a b : PlantState) (means : Means) (k : Known tells session a b means) where
  later : tells → a.clock ≤ b.clock
  later told = ((k.reads.only.elapses told).kept Control).later

  -- no memory for the text
  at_memory : QueriesSession tells session a b (Err NoMemory)
  at_memory = record {
    site = (λ bad. absurd cc, λ no. absurd (no k.site));
    short = λ again d first. absurd (k.long d first);
    of_short = λ d needed is. absurd cc;
    called_for = λ told. record { calls = (k.is_meant told).of; short = λ d needed is. absurd cc; no_volume = λ is. cc };
    causes = tt;
    no_volume = λ is. cc;
    counts = λ d no. k.counts d;
    complete = λ told again ready none. refl;
    done = λ told. tt;
    in_part = λ told is. absurd cc;
    silent = λ quiet. works_reads tells a b k.reads;
    console_count = λ no. k.reads.only.console_faults;
    console_once = omega (arith, k.reads.only.console_faults);
    changes = changes_of tells Nothing a b (works_reads tells a b k.reads);
  }

  module _ (c : PlantState) where
    says_report : {E : Type 0} (r : Result (Unit {0}) E) → SaysText tells (meaning_report means) b c r → tells → SaysReport session a c
    says_report r said told = record {
      means = means;
      is_meant = k.is_meant told;
      says = says_after (meaning_report means) a b c (said.front.only.elapses told) (k.reads.only.silent told) (said.front.moments told) (later told);
    }

    at_done : (v : Unit {0}) → SaysText {T = Unit {0}} {E = Stop} tells (meaning_report means) b c (Ok v) → QueriesSession tells session a c (Ok v)
    unfolding says_report
    at_done v said = record {
      site = (λ bad. absurd cc, λ no. absurd (no k.site));
      short = λ again d first. absurd (k.long d first);
      of_short = λ d needed is. absurd cc;
      called_for = λ told. tt;
      causes = tt;
      no_volume = tt;
      counts = λ d no. said.front.only.faults d ∙ k.counts d;
      complete = λ told again ready none. tt;
      done = λ told. record {
        report = says_report {E = Stop} (Ok v) said told;
        whole = said.whole told ∙ ap (λ (l : List ℕ). l ++ meaning_report means) ((k.reads.only.silent told).said b.clock (later told) (omega arith));
      };
      in_part = λ told is. absurd cc;
      silent = tt;
      console_count = λ no. said.cause.ok ∙ k.reads.only.console_faults;
      console_once = omega (arith, said.cause.by_one, k.reads.only.console_faults);
      changes = changes_then tells Nothing a b c (works_reads tells a b k.reads) said.front.only said.cause.later;
    }

    at_console : SaysText {T = Unit {0}} {E = Stop} tells (meaning_report means) b c (Err ConsoleFault) → QueriesSession tells session a c (Err ConsoleFault)
    at_console said =
        let rose : Rose a.console_faults c.console_faults = subst (λ (n : ℕ). Rose n c.console_faults) k.reads.only.console_faults said.cause.failed in
        record {
          site = (λ bad. absurd cc, λ no. absurd (no k.site));
          short = λ again d first. absurd (k.long d first);
          of_short = λ d needed is. absurd cc;
          called_for = λ told. record { calls = (k.is_meant told).of; short = λ d needed is. absurd cc; no_volume = λ is. cc };
          causes = rose;
          no_volume = λ is. cc;
          counts = λ d no. said.front.only.faults d ∙ k.counts d;
          complete = λ told again ready none. absurd (none.console rose);
          done = λ told. tt;
          in_part = λ told is. says_report {E = Stop} (Err ConsoleFault) said told;
          silent = λ quiet. absurd (quiet (inl refl));
          console_count = λ no. absurd (no refl);
          console_once = omega (arith, said.cause.by_one, k.reads.only.console_faults);
          changes = changes_then tells Nothing a b c (works_reads tells a b k.reads) said.front.only said.cause.later;
        }

    pub query_at_report : (r : Result (Unit {0}) Stop) → IfErr r (λ stop. (stop ≡ NoMemory) ⊎ (stop ≡ ConsoleFault)) → (r ≡ Err NoMemory → c ≡ b) → (r ≢ Err NoMemory → SaysText tells (meaning_report means) b c r) → QueriesSession tells session a c r
    query_at_report (Ok v) stops memory said = at_done v (said (λ is. cc))
    query_at_report (Err stop) (inl is) memory said =
        subst (λ (s : Stop). QueriesSession tells session a c (Err s)) (sym is) (subst (λ (p : PlantState). QueriesSession tells session a p (Err NoMemory)) (sym (memory (ap (λ (s : Stop). Err s) is))) at_memory)
    query_at_report (Err stop) (inr is) memory said =
        let other : stop ≢ NoMemory = λ no. let both : ConsoleFault ≡ NoMemory = sym is ∙ no in cc in
        let text = said (λ no. other (let same : stop ≡ NoMemory = cc in same)) in
        subst (λ (s : Stop). QueriesSession tells session a c (Err s)) (sym is) (at_console (subst (λ (s : Stop). SaysText {T = Unit {0}} {E = Stop} tells (meaning_report means) b c (Err s)) is text))

-- ---- statuses

-- A query ends with a status of its own.
query_known : (a b : PlantState) (stop : Stop) → HasRisen a b stop → stop ≢ VolumeFault → IsTrue (ends_query (status_of stop))
query_known a b NoMemory risen other = refl
query_known a b BadWords risen other = absurd risen
query_known a b ConsoleFault risen other = refl
query_known a b (BadLine n) risen other = absurd risen
query_known a b (JournalFault j) risen other = refl
query_known a b ControlFault risen other = refl
query_known a b StateFault risen other = refl
query_known a b (BadHeader trace place) risen other = absurd risen
query_known a b (HeaderFault trace) risen other = absurd risen
query_known a b NoSession risen other = refl
query_known a b (OtherSession name) risen other = refl
query_known a b (Damaged d place) risen other = refl
query_known a b VolumeFault risen other = absurd (other refl)
query_known a b (TooSmall d needed) risen other = refl
query_known a b BadSite risen other = refl
query_known a b Spent risen other = absurd risen

is_short : (stop : Stop) → status_of stop ≡ 14 → (d : Device) × (needed : ℕ) × (stop ≡ TooSmall d needed)
is_short NoMemory is = absurd (omega (arith, is))
is_short BadWords is = absurd (omega (arith, is))
is_short ConsoleFault is = absurd (omega (arith, is))
is_short (BadLine n) is = absurd (omega (arith, is))
is_short (JournalFault j) is = absurd (omega (arith, is))
is_short ControlFault is = absurd (omega (arith, is))
is_short StateFault is = absurd (omega (arith, is))
is_short (BadHeader trace place) is = absurd (omega (arith, is))
is_short (HeaderFault trace) is = absurd (omega (arith, is))
is_short NoSession is = absurd (omega (arith, is))
is_short (OtherSession name) is = absurd (omega (arith, is))
is_short (Damaged d place) is = absurd (omega (arith, is))
is_short VolumeFault is = absurd (omega (arith, is))
is_short (TooSmall d needed) is = (d, needed, refl)
is_short BadSite is = absurd (omega (arith, is))
is_short Spent is = absurd (omega (arith, is))

-- Done, it says no last line.
pub query_done : (tells : Type 0) (session : List ℕ) (a b : PlantState) (v : Unit {0}) → QueriesSession tells session a b (Ok v) → EndsQuery tells session a b 0
query_done tells session a b v e = record {
  known = refl;
  site = (λ is. absurd (omega (arith, is)), λ no. absurd (let bad = e.site.1 no in cc));
  untouched = λ is. absurd (omega (arith, is));
  short = λ site d first. absurd (let small = e.short site d first in cc);
  of_short = λ is. absurd (omega (arith, is));
  stopped = λ other. absurd (other refl);
  complete = λ told site ready none. inl refl;
  done = λ told is. e.done told;
  in_part = λ told is. absurd (omega (arith, is));
  counts = λ is d. e.counts d (λ no. cc);
  console_count = λ is. e.console_count (λ no. cc);
  console_once = e.console_once;
  changes = e.changes;
  volumes = λ v. e.counts (Volume v) (λ no. cc);
}

-- Each stop has its status, and its line after what was said.
module _ (tells : Type 0) (session : List ℕ) (a b c : PlantState) (stop : Stop) (e : QueriesSession tells session a b (Err stop)) (last : SaysLast tells (last_line stop) b c) where
  ends_so : EndsSo tells stop a c (status_of stop)
  ends_so = record { status_is = refl; says = λ told quiet. says_last_alone tells (last_line stop) a b c last told Nothing (e.silent quiet) }

  pub query_stopped : (stop ≡ BadSite → b ≡ a) → (stop ≡ ConsoleFault → c ≡ b) → EndsQuery tells session a c (status_of stop)
  query_stopped here quiet =
      let o = last.front.only in
      let counts = e.changes.console_faults in
      record {
        known = query_known a b stop e.causes e.no_volume;
        site = (λ is. e.site.0 (ap (λ (s : Stop). Err s) (is_site stop is)), λ no. ap status_of (let bad = e.site.1 no in let same : stop ≡ BadSite = cc in same));
        untouched = λ is. subst (λ (s : PlantState). WorksOnConsole tells s c) (here (is_site stop is)) o;
        short = λ site d first.
            let small = e.short site d first in
            let same : stop ≡ TooSmall d (need d) = cc in
            subst (λ (s : Stop). EndsSo tells s a c (status_of stop)) same ends_so;
        of_short = λ is. let small = is_short stop is in (small.0, e.of_short small.0 small.1 (ap (λ (s : Stop). Err s) small.2));
        stopped = λ other. record {
          stop = stop;
          ends = ends_so;
          called_for = λ told. e.called_for told;
          risen = risen_still a b c o.faults counts last.later stop e.causes;
          counts = λ d here no. o.faults d ∙ e.counts d (λ is. no (let same : stop ≡ fault_of d = cc in same));
        };
        complete = λ told site ready none. inr (ap status_of (e.complete told site ready (none_before a b c o.faults counts last.later none)));
        done = λ told is. absurd (not_done stop is);
        in_part = λ told is.
            let same = is_console stop is in
            subst (λ (s : PlantState). SaysReport session a s) (sym (quiet same)) (e.in_part told (ap (λ (s : Stop). Err s) same));
        counts = λ is. absurd (not_done stop is);
        console_count = λ is. absurd (not_done stop is);
        console_once = console_calls a b c stop last.console_once (λ no. e.console_count (λ is. no (let same : stop ≡ ConsoleFault = cc in same))) e.console_once (λ is. ap (λ (s : PlantState). s.console_faults) (quiet is));
        changes = changes_more tells Nothing a b c e.changes o last.later;
        volumes = λ v. o.faults (Volume v) ∙ e.counts (Volume v) (λ is. e.no_volume (let same : stop ≡ VolumeFault = cc in same));
      }
