-- The ends of a recovery: at a site of other numbers, at an error, and with its report.
use Rattle.std.proofs.Common.{◌≡◌, ◌≢◌, ◌≤◌, ◌+◌, ◌++◌, inl, inr, ℕ, List, [], Some, Result, Ok, Err, OnOk, IfErr, refl, sym, ◌∙◌, ap, subst, arith}
use Rattle.xrc_edge.specs.Causes.{Rose}
use Rattle.crash_plant.specs.declared.device.Device.{Device}
use Rattle.crash_plant.specs.declared.device.Device.TheVariants.{Control, State, Journal, Volume}
use Rattle.crash_plant.specs.Moments.{PlantState}
use Rattle.crash_plant.specs.Choices.{AllFollow, AtNow}
use Rattle.pair_table.specs.declared.row.PairRow.{PairRow}
use Rattle.site_means.specs.declared.means.Means.{Means}
use Rattle.site_means.specs.declared.site_error.SiteError.TheVariants.{NoSession, Damaged, Fault, TooSmall as TooSmallError, NoMemory}
use Rattle.site_means.specs.Answers.{IsStore, first_short, need}
use Rattle.site_means.specs.Sight.{walked}
use Rattle.xrecover.specs.declared.outcome.Outcome.{Outcome}
use Rattle.xrecover.specs.declared.recover_error.RecoverError.{RecoverError}
use Rattle.xrecover.specs.declared.recover_error.RecoverError.TheVariants.{Site, Other}
use Rattle.xrecover.specs.Answers.{IsRecoverable}
use Rattle.xrecover.specs.Pairs.{AreFaulty, SparesOthers}
use Rattle.xrecover.specs.declared.labelling.Labelling.{Labelling}
use Rattle.xrecover.specs.RedoneVolumes.{Redone, meant_rows}
use Rattle.xrecover.specs.Sights.{MeansAsRead, SeesSame, TellsLasting}
use Rattle.xrecover.specs.Works.{Nothing, Works}
use Rattle.xrecover.specs.Labels.{TreatsLabels}
use Rattle.site_means.proofs.ReadAll.{reads_none}
use Rattle.xrecover.proofs.Labels.{treats_read}
use Rattle.xrecover.proofs.Seen.{reads_moments}
use Rattle.xrc_status.specs.Saying.{SaysFront, SaysWhole}
use Rattle.xrc_status.specs.declared.stop.Stop.{Stop}
use Rattle.xrc_status.specs.declared.stop.Stop.TheVariants.{BadSite, ConsoleFault, VolumeFault}
use Rattle.xrc_recovery.specs.Stops.{CallsFor, HasLines, HasRisen, StopsEarly, IsSite, stop_of}
use Rattle.xrc_recovery.specs.Reports.{RedoesPairs, Reports, ReportsAll}
use Rattle.xrc_recovery.specs.Recoveries.{StopLasts, RecoversMeant, RecoversSession, RedoesSession}
use Rattle.xrc_recovery.specs.Texts.{recovered_text}
use Rattle.xrc_recovery.proofs.Changing.{changes_of, changes_then, done_before, faulty_then, follow_then, has_failure, nothing_here, now_then, redone_then, says_after, treats_console, works_here}
use Rattle.xrc_recovery.proofs.Stopping.{calls_for, has_risen, is_early, not_console, not_site, not_volume, only_memory, rows_meant}

-- ---- a site of other numbers

pub at_site : (tells : Type 0) (labelling : Labelling) (session : List ℕ) (a : PlantState) → ¬ IsSite a → RecoversSession tells labelling session a a (Err BadSite)
at_site tells labelling session a other = record {
  site = (λ is. other, λ no. refl);
  short = λ site. absurd (other site);
  called_for = λ told. other;
  causes = tt;
  counts = λ d here no. refl;
  complete = λ told site. absurd (other site);
  done = λ told. tt;
  failed = λ told is. absurd cc;
  in_part = λ told is. absurd cc;
  silent = λ quiet. works_here tells (meant_rows a a.bytes) (walked a a.bytes) a;
  console_count = λ no. refl;
  console_once = omega arith;
  once = λ v. omega arith;
  spared = λ told v none. refl;
  early = λ told soon v. refl;
  changes = changes_of tells (RecoversMeant a) a a (works_here tells (meant_rows a a.bytes) (walked a a.bytes) a);
  labels = λ told. treats_read tells told labelling (meant_rows a a.bytes) (walked a a.bytes) a a (reads_none tells a);
  moments = λ told. reads_moments tells told a a (reads_none tells a);
  lasts = λ told. tt;
  unwritten = λ early. nothing_here tells a;
}

-- ---- an error

-- What an error tells its stop does.
pub error_lasts : (X : Type 0) (tells : Type 0) (a b : PlantState) (e : RecoverError) → stop_of e ≢ VolumeFault → (let r : Result X RecoverError = Err e in TellsLasting tells a b r) → StopLasts tells a b (stop_of e)
error_lasts X tells a b (Other name) none t = t
error_lasts X tells a b (Site NoSession) none t = t
error_lasts X tells a b (Site (Damaged d place)) none t = t
error_lasts X tells a b (Site (Fault Control)) none t = tt
error_lasts X tells a b (Site (Fault State)) none t = tt
error_lasts X tells a b (Site (Fault (Journal j))) none t = elim t [ inl still ↦ inl (changes_of tells Nothing a b still) | inr now ↦ inr now ]
error_lasts X tells a b (Site (Fault (Volume v))) none t = absurd (none refl)
error_lasts X tells a b (Site (TooSmallError (Volume v) needed)) none t = t
error_lasts X tells a b (Site (TooSmallError Control needed)) none t = tt
error_lasts X tells a b (Site (TooSmallError State needed)) none t = tt
error_lasts X tells a b (Site (TooSmallError (Journal j) needed)) none t = tt
error_lasts X tells a b (Site NoMemory) none t = tt

module _ (tells : Type 0) (labelling : Labelling) (session : List ℕ) (a b : PlantState) (e : RecoverError) (stop : Stop) (is : stop ≡ stop_of e) where
  pub at_error : IsSite a → RedoesSession tells labelling session a b (Err e) → RecoversSession tells labelling session a b (Err stop)
  at_error site k =
      let good : Outcome → Type 0 = λ o. IsRecoverable a session o.means in
      let short : (d : Device) → first_short a ≡ Some d → e ≡ Site (TooSmallError d (need d)) = λ d first. let same = k.short d first in cc in
      let fault : (d : Device) → e ≡ Site (Fault d) → Rose (a.faults d) (b.faults d) = λ d at. k.cause.rose d (ap (λ (f : RecoverError). Err f) at) in
      record {
        site = (λ bad. absurd (not_site e (sym is ∙ let same = bad in cc)), λ no. absurd (no site));
        short = λ again d first. ap (λ (s : Stop). Err s) (is ∙ ap stop_of (short d first));
        called_for = λ told. subst (λ (s : Stop). CallsFor a session s) (sym is) (calls_for a session good e short (k.says told));
        causes = subst (λ (s : Stop). HasRisen a b s) (sym is) (has_risen a b e fault);
        counts = λ d here no. k.cause.others d here (λ at. no (ap (λ (s : Stop). Err s) (is ∙ let same : e ≡ Site (Fault d) = cc in ap stop_of same)));
        complete = λ told again ready none. is ∙ only_memory a b session ready none (stop_of e) (not_site e) (calls_for a session good e short (k.says told)) (has_risen a b e fault);
        done = λ told. tt;
        failed = λ told volume. absurd (not_volume a session good e (k.says told) (sym is ∙ let same = volume in cc));
        in_part = λ told console. absurd (not_console e (sym is ∙ let same = console in cc));
        silent = λ quiet. k.works;
        console_count = λ no. k.works.console_faults;
        console_once = omega (arith, k.works.console_faults);
        once = k.volumes.once;
        spared = k.volumes.others;
        early = λ told early. k.volumes.early told e refl (is_early e (subst (λ (s : Stop). StopsEarly s) is early));
        changes = changes_of tells (RecoversMeant a) a b k.works;
        labels = k.labels;
        moments = k.moments;
        lasts = λ told. subst (λ (s : Stop). StopLasts tells a b s) (sym is) (error_lasts Outcome tells a b e (λ volume. not_volume a session good e (k.says told) volume) (k.lasts told));
        unwritten = λ early. k.unwritten e refl (is_early e (subst (λ (s : Stop). StopsEarly s) is early));
      }

-- ---- stops with lines

-- They are no site's.
pub lines_of_site : (stop : Stop) → HasLines stop → stop ≢ BadSite
lines_of_site stop (inl is) = λ bad. cc
lines_of_site stop (inr is) = λ bad. cc

pub late_lines : (stop : Stop) → HasLines stop → ¬ StopsEarly stop
late_lines stop (inl is) = λ early. subst (λ (s : Stop). StopsEarly s) is early
late_lines stop (inr is) = λ early. subst (λ (s : Stop). StopsEarly s) is early

pub last_of_lines : (tells : Type 0) (a c : PlantState) (stop : Stop) → HasLines stop → AtNow (MeansAsRead a) c → StopLasts tells a c stop
last_of_lines tells a c stop (inl is) now = subst (λ (s : Stop). StopLasts tells a c s) (sym is) now
last_of_lines tells a c stop (inr is) now = subst (λ (s : Stop). StopLasts tells a c s) (sym is) now

-- ---- a report

-- what recovery and the report gave
pub record Told (tells : Type 0) (labelling : Labelling) (session : List ℕ) (a b c : PlantState) (means : Means) (failed : List ℕ) (r : Result (Unit {0}) Stop) : Type 0 where
  pub site : IsSite a
  pub long : (d : Device) → ¬ (first_short a ≡ Some d)
  pub is_meant : tells → IsRecoverable a session means
  pub faulty : AreFaulty means.table.rows a.faults b.faults failed
  pub redone : tells → Redone labelling (meant_rows a a.bytes) (walked a a.bytes) failed a b
  pub counts : (d : Device) → IsStore d → b.faults d ≡ a.faults d
  pub once : (v : ℕ) → b.faults (Volume v) ≤ a.faults (Volume v) + 1
  pub spared : tells → SparesOthers (meant_rows a a.bytes) a.faults b.faults
  pub works : Works tells (RecoversMeant a) a b
  pub labels : tells → TreatsLabels labelling (meant_rows a a.bytes) (walked a a.bytes) a b
  pub moments : tells → AllFollow (SeesSame a) a b
  pub lasts : tells → AtNow (MeansAsRead a) b
  pub ok : OnOk r (failed ≡ [])
  pub lines : IfErr r (λ stop. HasLines stop)
  pub volume : r ≡ Err VolumeFault → failed ≢ []
  pub console : r ≡ Err ConsoleFault → Rose b.console_faults c.console_faults
  pub front : SaysFront tells (recovered_text labelling session means.time.0 means.table.rows failed) b c
  pub whole : r ≢ Err ConsoleFault → SaysWhole tells (recovered_text labelling session means.time.0 means.table.rows failed) b c
  pub later : b.console_faults ≤ c.console_faults
  pub by_one : c.console_faults ≤ b.console_faults + 1

module _ (tells : Type 0) (labelling : Labelling) (session : List ℕ) (a b c : PlantState) (means : Means) (failed : List ℕ) where
  pairs_redone : (r : Result (Unit {0}) Stop) → Told tells labelling session a b c means failed r → tells → RedoesPairs labelling session failed a c
  pairs_redone r k told =
      let o = k.front.only in
      let redone = subst (λ (rows : List PairRow). Redone labelling rows (walked a a.bytes) failed a b) (rows_meant a session means (k.is_meant told)) (k.redone told) in
      record {
        means = means;
        is_meant = k.is_meant told;
        faulty = faulty_then means.table.rows a.faults b.faults c.faults failed o.faults k.faulty;
        redone = redone_then a b c (o.devices told) labelling means.table.rows (walked a a.bytes) failed ((o.elapses told).kept Control).later redone;
        done_before = done_before a b c (o.devices told) labelling means.table.rows (walked a a.bytes) failed (o.elapses told) (k.works.silent told) redone;
      }

  reports : (r : Result (Unit {0}) Stop) → Told tells labelling session a b c means failed r → tells → Reports labelling session failed a c
  unfolding pairs_redone
  reports r k told = record {
    pairs = pairs_redone r k told;
    says = says_after (recovered_text labelling session means.time.0 means.table.rows failed) a b c (k.front.only.elapses told) (k.works.silent told) (k.front.moments told) ((k.works.elapses told).kept Control).later;
  }

  reports_all : (r : Result (Unit {0}) Stop) → Told tells labelling session a b c means failed r → tells → r ≢ Err ConsoleFault → ReportsAll labelling session failed a c
  unfolding reports pairs_redone
  reports_all r k told other = record {
    report = reports r k told;
    whole = (k.whole other).whole told ∙ ap (λ (l : List ℕ). l ++ recovered_text labelling session means.time.0 means.table.rows failed) ((k.works.silent told).said b.clock ((k.works.elapses told).kept Control).later (omega arith));
  }

  -- it ends with lines
  has_lines : (stop : Stop) (k : Told tells labelling session a b c means failed (Err stop)) → HasLines stop → HasRisen a c stop
  has_lines stop k (inl is) = subst (λ (s : Stop). HasRisen a c s) (sym is) (subst (λ (n : ℕ). Rose n c.console_faults) k.works.console_faults (k.console (ap (λ (s : Stop). Err s) is)))
  has_lines stop k (inr is) = subst (λ (s : Stop). HasRisen a c s) (sym is)
      (has_failure means.table.rows a.faults c.faults failed (k.volume (ap (λ (s : Stop). Err s) is)) (faulty_then means.table.rows a.faults b.faults c.faults failed k.front.only.faults k.faulty))

  lines_called : (stop : Stop) (k : Told tells labelling session a b c means failed (Err stop)) → HasLines stop → tells → CallsFor a session stop
  lines_called stop k (inl is) told = subst (λ (s : Stop). CallsFor a session s) (sym is) (k.is_meant told).meant.of
  lines_called stop k (inr is) told = subst (λ (s : Stop). CallsFor a session s) (sym is) (k.is_meant told).meant.of

  pub at_report : (r : Result (Unit {0}) Stop) → Told tells labelling session a b c means failed r → RecoversSession tells labelling session a c r
  at_report (Ok v) k = record {
    site = (λ bad. absurd cc, λ no. absurd (no k.site));
    short = λ again d first. absurd (k.long d first);
    called_for = λ told. tt;
    causes = tt;
    counts = λ d here no. k.front.only.faults d ∙ k.counts d here;
    complete = λ told again ready none. tt;
    done = λ told. subst (λ (l : List ℕ). ReportsAll labelling session l a c) k.ok (reports_all (Ok v) k told (λ is. cc));
    failed = λ told is. absurd cc;
    in_part = λ told is. absurd cc;
    silent = tt;
    console_count = λ no. (k.whole no).console_count ∙ k.works.console_faults;
    console_once = omega (arith, k.by_one, k.works.console_faults);
    once = λ v. omega (arith, k.once v, k.front.only.faults (Volume v));
    spared = λ told v none. k.front.only.faults (Volume v) ∙ k.spared told v none;
    early = λ told. tt;
    changes = changes_then tells (RecoversMeant a) a b c k.works k.front.only k.later;
    labels = λ told. treats_console labelling tells (meant_rows a a.bytes) (walked a a.bytes) a b c told ((k.works.elapses told).kept Control).later (k.labels told) k.front.only;
    moments = λ told. follow_then (SeesSame a) tells a b c told ((k.works.elapses told).kept Control).later (k.moments told) k.front.only;
    lasts = λ told. now_then (MeansAsRead a) tells b c told (k.lasts told) k.front.only;
    unwritten = tt;
  }
  at_report (Err stop) k = record {
    site = (λ bad. absurd (lines_of_site stop k.lines (let same = bad in cc)), λ no. absurd (no k.site));
    short = λ again d first. absurd (k.long d first);
    called_for = lines_called stop k k.lines;
    causes = has_lines stop k k.lines;
    counts = λ d here no. k.front.only.faults d ∙ k.counts d here;
    complete = λ told again ready none. only_memory a c session ready none stop (lines_of_site stop k.lines) (lines_called stop k k.lines told) (has_lines stop k k.lines);
    done = λ told. tt;
    failed = λ told is. (failed, k.volume is, reports_all (Err stop) k told (λ console. cc));
    in_part = λ told is. (failed, reports (Err stop) k told);
    silent = λ quiet. absurd (quiet k.lines);
    console_count = λ no. (k.whole no).console_count ∙ k.works.console_faults;
    console_once = omega (arith, k.by_one, k.works.console_faults);
    once = λ v. omega (arith, k.once v, k.front.only.faults (Volume v));
    spared = λ told v none. k.front.only.faults (Volume v) ∙ k.spared told v none;
    early = λ told early. absurd (late_lines stop k.lines early);
    changes = changes_then tells (RecoversMeant a) a b c k.works k.front.only k.later;
    labels = λ told. treats_console labelling tells (meant_rows a a.bytes) (walked a a.bytes) a b c told ((k.works.elapses told).kept Control).later (k.labels told) k.front.only;
    moments = λ told. follow_then (SeesSame a) tells a b c told ((k.works.elapses told).kept Control).later (k.moments told) k.front.only;
    lasts = λ told. last_of_lines tells a c stop k.lines (now_then (MeansAsRead a) tells b c told (k.lasts told) k.front.only);
    unwritten = λ early. absurd (late_lines stop k.lines early);
  }
