-- The status of a recovery, and the line that is said last.
use Rattle.std.proofs.Common.{◌⊎◌, true, ◌≡◌, ◌≢◌, ◌≤◌, ◌+◌, ◌++◌, inl, inr, ℕ, List, [], None, Ok, Err, IsTrue, length, take, refl, sym, ◌∙◌, ap, subst, arith, append_assoc, length-append}
use Rattle.std.proofs.lemmas.Bool.{cases_eq, cases_lt}
use Rattle.std.proofs.lemmas.List.{take-append-le}
use Rattle.std.proofs.Math.Seq.{take-append-add}
use Rattle.xrc_edge.specs.Causes.{Rose}
use Rattle.crash_plant.specs.declared.device.Device.{Device}
use Rattle.crash_plant.specs.declared.device.Device.TheVariants.{Control, State, Journal, Volume}
use Rattle.crash_plant.specs.Choices.{AtNow}
use Rattle.crash_plant.specs.Moments.{PlantState}
use Rattle.crash_plant.specs.Calls.{Elapses, NoneRose, Says, WorksOnConsole}
use Rattle.site_means.specs.Answers.{first_short, need}
use Rattle.site_means.specs.Sight.{walked}
use Rattle.xrecover.specs.declared.labelling.Labelling.{Labelling}
use Rattle.xrecover.specs.RedoneVolumes.{meant_rows}
use Rattle.xrecover.specs.Sights.{ChoosesAsRead, MeansAsRead, SeesSame}
use Rattle.xrecover.specs.Answers.{IsTooSmall}
use Rattle.xrecover.specs.Works.{Nothing, Works}
use Rattle.xrecover.proofs.Works.{rose_later}
use Rattle.xrc_status.specs.declared.stop.Stop.{Stop}
use Rattle.xrc_status.specs.declared.stop.Stop.TheVariants.{NoMemory, BadWords, ConsoleFault, BadLine, JournalFault, ControlFault, StateFault, BadHeader, HeaderFault, NoSession, OtherSession, Damaged, VolumeFault, TooSmall, BadSite, Spent}
use Rattle.xrc_status.specs.Saying.{SaidWhole, SaysLast}
use Rattle.xrc_status.specs.Stops.{last_line, status_of}
use Rattle.xrc_recovery.specs.Stops.{CallsFor, HasRisen, IsShort, StopsEarly, fault_of}
use Rattle.xrc_recovery.specs.Reports.{Changes, Reports, ReportsAll, report_of}
use Rattle.xrc_recovery.specs.Recoveries.{RecoversMeant, RecoversSession, StopLasts}
use Rattle.xrc_recovery.specs.Statuses.{EndsRecovery, EndsSo, ReportsThen, SaysThen, ends_recovery, tells_meaning}
use Rattle.xrc_recovery.proofs.Changing.{changes_more, changes_of, done_more, faulty_then, follow_then, now_then, redone_then, says_after, treats_console}

-- ---- statuses of stops

-- A recovery ends with a status of its own, and a stop's isn't 0.
pub is_known : (a b : PlantState) (stop : Stop) → HasRisen a b stop → IsTrue (ends_recovery (status_of stop))
is_known a b NoMemory risen = refl
is_known a b BadWords risen = absurd risen
is_known a b ConsoleFault risen = refl
is_known a b (BadLine n) risen = absurd risen
is_known a b (JournalFault j) risen = refl
is_known a b ControlFault risen = refl
is_known a b StateFault risen = refl
is_known a b (BadHeader trace place) risen = absurd risen
is_known a b (HeaderFault trace) risen = absurd risen
is_known a b NoSession risen = refl
is_known a b (OtherSession name) risen = refl
is_known a b (Damaged d place) risen = refl
is_known a b VolumeFault risen = refl
is_known a b (TooSmall d needed) risen = refl
is_known a b BadSite risen = refl
is_known a b Spent risen = absurd risen

pub not_done : (stop : Stop) → status_of stop ≢ 0
not_done NoMemory = λ is. omega (arith, is)
not_done BadWords = λ is. omega (arith, is)
not_done ConsoleFault = λ is. omega (arith, is)
not_done (BadLine n) = λ is. omega (arith, is)
not_done (JournalFault j) = λ is. omega (arith, is)
not_done ControlFault = λ is. omega (arith, is)
not_done StateFault = λ is. omega (arith, is)
not_done (BadHeader trace place) = λ is. omega (arith, is)
not_done (HeaderFault trace) = λ is. omega (arith, is)
not_done NoSession = λ is. omega (arith, is)
not_done (OtherSession name) = λ is. omega (arith, is)
not_done (Damaged d place) = λ is. omega (arith, is)
not_done VolumeFault = λ is. omega (arith, is)
not_done (TooSmall d needed) = λ is. omega (arith, is)
not_done BadSite = λ is. omega (arith, is)
not_done Spent = λ is. omega (arith, is)

pub is_console : (stop : Stop) → status_of stop ≡ 3 → stop ≡ ConsoleFault
is_console NoMemory is = absurd (omega (arith, is))
is_console BadWords is = absurd (omega (arith, is))
is_console ConsoleFault is = refl
is_console (BadLine n) is = absurd (omega (arith, is))
is_console (JournalFault j) is = absurd (omega (arith, is))
is_console ControlFault is = absurd (omega (arith, is))
is_console StateFault is = absurd (omega (arith, is))
is_console (BadHeader trace place) is = absurd (omega (arith, is))
is_console (HeaderFault trace) is = absurd (omega (arith, is))
is_console NoSession is = absurd (omega (arith, is))
is_console (OtherSession name) is = absurd (omega (arith, is))
is_console (Damaged d place) is = absurd (omega (arith, is))
is_console VolumeFault is = absurd (omega (arith, is))
is_console (TooSmall d needed) is = absurd (omega (arith, is))
is_console BadSite is = absurd (omega (arith, is))
is_console Spent is = absurd (omega (arith, is))

pub is_volume : (stop : Stop) → status_of stop ≡ 13 → stop ≡ VolumeFault
is_volume NoMemory is = absurd (omega (arith, is))
is_volume BadWords is = absurd (omega (arith, is))
is_volume ConsoleFault is = absurd (omega (arith, is))
is_volume (BadLine n) is = absurd (omega (arith, is))
is_volume (JournalFault j) is = absurd (omega (arith, is))
is_volume ControlFault is = absurd (omega (arith, is))
is_volume StateFault is = absurd (omega (arith, is))
is_volume (BadHeader trace place) is = absurd (omega (arith, is))
is_volume (HeaderFault trace) is = absurd (omega (arith, is))
is_volume NoSession is = absurd (omega (arith, is))
is_volume (OtherSession name) is = absurd (omega (arith, is))
is_volume (Damaged d place) is = absurd (omega (arith, is))
is_volume VolumeFault is = refl
is_volume (TooSmall d needed) is = absurd (omega (arith, is))
is_volume BadSite is = absurd (omega (arith, is))
is_volume Spent is = absurd (omega (arith, is))

pub is_site : (stop : Stop) → status_of stop ≡ 16 → stop ≡ BadSite
is_site NoMemory is = absurd (omega (arith, is))
is_site BadWords is = absurd (omega (arith, is))
is_site ConsoleFault is = absurd (omega (arith, is))
is_site (BadLine n) is = absurd (omega (arith, is))
is_site (JournalFault j) is = absurd (omega (arith, is))
is_site ControlFault is = absurd (omega (arith, is))
is_site StateFault is = absurd (omega (arith, is))
is_site (BadHeader trace place) is = absurd (omega (arith, is))
is_site (HeaderFault trace) is = absurd (omega (arith, is))
is_site NoSession is = absurd (omega (arith, is))
is_site (OtherSession name) is = absurd (omega (arith, is))
is_site (Damaged d place) is = absurd (omega (arith, is))
is_site VolumeFault is = absurd (omega (arith, is))
is_site (TooSmall d needed) is = absurd (omega (arith, is))
is_site BadSite is = refl
is_site Spent is = absurd (omega (arith, is))

-- Stops of other statuses than these come before anything is written.
pub is_early_stop : (stop : Stop) → status_of stop ≢ 3 → status_of stop ≢ 5 → status_of stop ≢ 13 → StopsEarly stop
is_early_stop NoMemory three five thirteen = tt
is_early_stop BadWords three five thirteen = tt
is_early_stop ConsoleFault three five thirteen = absurd (three refl)
is_early_stop (BadLine n) three five thirteen = tt
is_early_stop (JournalFault j) three five thirteen = absurd (five refl)
is_early_stop ControlFault three five thirteen = tt
is_early_stop StateFault three five thirteen = tt
is_early_stop (BadHeader trace place) three five thirteen = tt
is_early_stop (HeaderFault trace) three five thirteen = tt
is_early_stop NoSession three five thirteen = tt
is_early_stop (OtherSession name) three five thirteen = tt
is_early_stop (Damaged d place) three five thirteen = tt
is_early_stop VolumeFault three five thirteen = absurd (thirteen refl)
is_early_stop (TooSmall d needed) three five thirteen = tt
is_early_stop BadSite three five thirteen = tt
is_early_stop Spent three five thirteen = tt

-- ---- what lasts

module _ (tells : Type 0) (old new : PlantState) where
  pub meaning_lasts : (stop : Stop) → StopLasts tells old new stop → tells_meaning (status_of stop) ≡ true → AtNow (MeansAsRead old) new
  meaning_lasts NoMemory last is = absurd cc
  meaning_lasts BadWords last is = absurd cc
  meaning_lasts ConsoleFault last is = last
  meaning_lasts (BadLine n) last is = absurd cc
  meaning_lasts (JournalFault j) last is = absurd cc
  meaning_lasts ControlFault last is = absurd cc
  meaning_lasts StateFault last is = absurd cc
  meaning_lasts (BadHeader trace place) last is = absurd cc
  meaning_lasts (HeaderFault trace) last is = absurd cc
  meaning_lasts NoSession last is = last
  meaning_lasts (OtherSession name) last is = absurd cc
  meaning_lasts (Damaged d place) last is = last
  meaning_lasts VolumeFault last is = last
  meaning_lasts (TooSmall d needed) last is = absurd cc
  meaning_lasts BadSite last is = absurd cc
  meaning_lasts Spent last is = absurd cc

  pub other_lasts : (stop : Stop) → StopLasts tells old new stop → status_of stop ≡ 11 → AtNow (ChoosesAsRead old) new
  other_lasts NoMemory last is = absurd (omega (arith, is))
  other_lasts BadWords last is = absurd (omega (arith, is))
  other_lasts ConsoleFault last is = absurd (omega (arith, is))
  other_lasts (BadLine n) last is = absurd (omega (arith, is))
  other_lasts (JournalFault j) last is = absurd (omega (arith, is))
  other_lasts ControlFault last is = absurd (omega (arith, is))
  other_lasts StateFault last is = absurd (omega (arith, is))
  other_lasts (BadHeader trace place) last is = absurd (omega (arith, is))
  other_lasts (HeaderFault trace) last is = absurd (omega (arith, is))
  other_lasts NoSession last is = absurd (omega (arith, is))
  other_lasts (OtherSession name) last is = last
  other_lasts (Damaged d place) last is = absurd (omega (arith, is))
  other_lasts VolumeFault last is = absurd (omega (arith, is))
  other_lasts (TooSmall d needed) last is = absurd (omega (arith, is))
  other_lasts BadSite last is = absurd (omega (arith, is))
  other_lasts Spent last is = absurd (omega (arith, is))

  pub late_lasts : (stop : Stop) → StopLasts tells old new stop → status_of stop ≡ 5 → Changes tells Nothing old new ⊎ AtNow (MeansAsRead old) new
  late_lasts NoMemory last is = absurd (omega (arith, is))
  late_lasts BadWords last is = absurd (omega (arith, is))
  late_lasts ConsoleFault last is = absurd (omega (arith, is))
  late_lasts (BadLine n) last is = absurd (omega (arith, is))
  late_lasts (JournalFault j) last is = last
  late_lasts ControlFault last is = absurd (omega (arith, is))
  late_lasts StateFault last is = absurd (omega (arith, is))
  late_lasts (BadHeader trace place) last is = absurd (omega (arith, is))
  late_lasts (HeaderFault trace) last is = absurd (omega (arith, is))
  late_lasts NoSession last is = absurd (omega (arith, is))
  late_lasts (OtherSession name) last is = absurd (omega (arith, is))
  late_lasts (Damaged d place) last is = absurd (omega (arith, is))
  late_lasts VolumeFault last is = absurd (omega (arith, is))
  late_lasts (TooSmall d needed) last is = absurd (omega (arith, is))
  late_lasts BadSite last is = absurd (omega (arith, is))
  late_lasts Spent last is = absurd (omega (arith, is))

  module _ (session : List ℕ) (long : first_short old ≡ None) where
    -- A volume is too small after a meaning.
    by_device : (d : Device) (needed : ℕ) → StopLasts tells old new (TooSmall d needed) → IsShort old d needed ⊎ IsTooSmall old session d needed → AtNow (MeansAsRead old) new
    by_device d needed last (inl short) = absurd (let same = sym long ∙ short.first in cc)
    by_device Control needed last (inr small) = absurd (let same = small.device in cc)
    by_device State needed last (inr small) = absurd (let same = small.device in cc)
    by_device (Journal j) needed last (inr small) = absurd (let same = small.device in cc)
    by_device (Volume v) needed last (inr small) = last

    pub small_lasts : (stop : Stop) → StopLasts tells old new stop → CallsFor old session stop → status_of stop ≡ 14 → AtNow (MeansAsRead old) new
    small_lasts (TooSmall d needed) last calls is = by_device d needed last calls
    small_lasts NoMemory last calls is = absurd (omega (arith, is))
    small_lasts BadWords last calls is = absurd (omega (arith, is))
    small_lasts ConsoleFault last calls is = absurd (omega (arith, is))
    small_lasts (BadLine n) last calls is = absurd (omega (arith, is))
    small_lasts (JournalFault j) last calls is = absurd (omega (arith, is))
    small_lasts ControlFault last calls is = absurd (omega (arith, is))
    small_lasts StateFault last calls is = absurd (omega (arith, is))
    small_lasts (BadHeader trace place) last calls is = absurd (omega (arith, is))
    small_lasts (HeaderFault trace) last calls is = absurd (omega (arith, is))
    small_lasts NoSession last calls is = absurd (omega (arith, is))
    small_lasts (OtherSession name) last calls is = absurd (omega (arith, is))
    small_lasts (Damaged d place) last calls is = absurd (omega (arith, is))
    small_lasts VolumeFault last calls is = absurd (omega (arith, is))
    small_lasts BadSite last calls is = absurd (omega (arith, is))
    small_lasts Spent last calls is = absurd (omega (arith, is))

-- ---- counts

-- A count that rose before calls that don't lower it has risen over all of them.
pub rose_still : (before mid now : ℕ) → before ≤ mid → mid ≤ now → Rose before mid → Rose before now
rose_still before mid now first later (inl less) = inl (omega (arith, less, later))
rose_still before mid now first later (inr most) = elim (cases_lt before now) [
  | inl less ↦ inl less
  | inr end ↦ inr ((let same : now ≡ mid = omega (arith, end, first, later) in same) ∙ most)
]

module _ (a b c : PlantState) (faults : (d : Device) → c.faults d ≡ b.faults d) (first : a.console_faults ≤ b.console_faults) (later : b.console_faults ≤ c.console_faults) where
  device_still : (d : Device) → Rose (a.faults d) (b.faults d) → Rose (a.faults d) (c.faults d)
  device_still d rose = subst (λ (n : ℕ). Rose (a.faults d) n) (sym (faults d)) rose

  pub risen_still : (stop : Stop) → HasRisen a b stop → HasRisen a c stop
  risen_still NoMemory risen = tt
  risen_still BadWords risen = absurd risen
  risen_still ConsoleFault risen = rose_still a.console_faults b.console_faults c.console_faults first later risen
  risen_still (BadLine n) risen = absurd risen
  risen_still (JournalFault j) risen = device_still (Journal j) risen
  risen_still ControlFault risen = device_still Control risen
  risen_still StateFault risen = device_still State risen
  risen_still (BadHeader trace place) risen = absurd risen
  risen_still (HeaderFault trace) risen = absurd risen
  risen_still NoSession risen = tt
  risen_still (OtherSession name) risen = tt
  risen_still (Damaged d place) risen = tt
  risen_still VolumeFault risen = (risen.0, device_still (Volume risen.0) risen.1)
  risen_still (TooSmall d needed) risen = tt
  risen_still BadSite risen = tt
  risen_still Spent risen = absurd risen

  pub none_before : NoneRose a c → NoneRose a b
  none_before none = record {
    devices = λ d rose. none.devices d (device_still d rose);
    console = λ rose. none.console (rose_still a.console_faults b.console_faults c.console_faults first later rose);
  }

-- One call on the console at most failed: after one that did, no line is said.
pub console_calls : (a b c : PlantState) (stop : Stop) → c.console_faults ≤ b.console_faults + 1 → (stop ≢ ConsoleFault → b.console_faults ≡ a.console_faults) → b.console_faults ≤ a.console_faults + 1 → (stop ≡ ConsoleFault → c.console_faults ≡ b.console_faults) → c.console_faults ≤ a.console_faults + 1
console_calls a b c stop by_one same once quiet = elim (cases_eq (status_of stop) 3) [
  | inl is ↦ omega (arith, once, quiet (is_console stop is))
  | inr differs ↦ omega (arith, by_one, same (λ is. differs (ap status_of is)))
]

-- ---- what is said

-- A text, and a front of a line after it.
module _ (text line : List ℕ) (a b c : PlantState) (past : Elapses b c) (said : SaidWhole text a b) (p : Says text a b) (q : Says line b c) (later : a.clock ≤ b.clock) where
  front_then : (t : ℕ) → a.clock ≤ t → t ≤ c.clock → (k : ℕ) × (k ≤ length (text ++ line)) × (c.said t ≡ a.said a.clock ++ take k (text ++ line))
  front_then t from to = elim (cases_lt t b.clock) [
    | inl early ↦
        let s = p.front t from (omega (arith, early)) in (
          s.0,
          omega (arith, s.1, length-append text line),
          past.said t (omega (arith, early)) (omega (arith, early)) ∙ s.2 ∙ ap (λ (l : List ℕ). a.said a.clock ++ l) (sym (take-append-le s.0 text line s.1)),
        )
    | inr late ↦
        let s = q.front t late to in (
          length text + s.0,
          omega (arith, s.1, length-append text line),
          s.2 ∙ ap (λ (l : List ℕ). l ++ take s.0 line) said ∙ append_assoc (a.said a.clock) text (take s.0 line) ∙ ap (λ (l : List ℕ). a.said a.clock ++ l) (sym (take-append-add text line s.0)),
        )
  ]

  grows_then : (s t : ℕ) → a.clock ≤ s → s ≤ t → t ≤ c.clock → length (c.said s) ≤ length (c.said t)
  grows_then s t from le to = elim (cases_lt s b.clock) [
    | inl early ↦
        let was = ap length (past.said s (omega (arith, early)) (omega (arith, early))) in
        elim (cases_lt t b.clock) [
          | inl soon ↦ omega (arith, was, p.grows s t from le (omega (arith, soon)), ap length (past.said t (omega (arith, soon)) (omega (arith, soon))))
          | inr late ↦
              let f = q.front t late to in
              omega (arith, was, p.grows s b.clock from (omega (arith, early)) (omega arith), ap length f.2, length-append (b.said b.clock) (take f.0 line))
        ]
    | inr late ↦ q.grows s t late le to
  ]

  says_more : Says (text ++ line) a c
  says_more = record {
    front = front_then;
    grows = grows_then;
    heard = λ t from to. elim (cases_lt t b.clock) [
      | inl early ↦ past.heard t (omega (arith, early)) (omega (arith, early)) ∙ p.heard t from (omega (arith, early))
      | inr late ↦ q.heard t late to ∙ p.heard b.clock later (omega arith)
    ];
    script = q.script ∙ p.script;
  }

module _ (tells : Type 0) (line : List ℕ) (a b c : PlantState) (last : SaysLast tells line b c) (told : tells) where
  -- A last line after a text.
  pub says_then_last : (text : List ℕ) → a.clock ≤ b.clock → a.console_faults ≤ b.console_faults → SaidWhole text a b → Says text a b → SaysThen text line a c
  says_then_last text later counts said says =
      let front = last.front.moments told in
      record {
        says = says_more text line a b c (last.front.only.elapses told) said says front later;
        whole = elim (last.whole told) [
          | inl all ↦ inl (all ∙ ap (λ (l : List ℕ). l ++ line) said ∙ append_assoc (a.said a.clock) text line)
          | inr rose ↦
              let f = front.front c.clock ((last.front.only.elapses told).kept Control).later (omega arith) in
              inr ((f.0, f.1, f.2 ∙ ap (λ (l : List ℕ). l ++ take f.0 line) said ∙ append_assoc (a.said a.clock) text (take f.0 line)), rose_later a.console_faults b.console_faults c.console_faults counts rose)
        ];
      }

  -- It alone, after calls that said nothing.
  pub says_last_alone : (step : Device → List ℕ → List ℕ → Type 0) → Works tells step a b → SaysThen [] line a c
  says_last_alone step works =
      let later = ((works.elapses told).kept Control).later in
      let quiet : b.said b.clock ≡ a.said a.clock = (works.silent told).said b.clock later (omega arith) in
      let front = last.front.moments told in
      record {
        says = says_after line a b c (last.front.only.elapses told) (works.silent told) front later;
        whole = elim (last.whole told) [
          | inl all ↦ inl (all ∙ ap (λ (l : List ℕ). l ++ line) quiet)
          | inr rose ↦
              let f = front.front c.clock ((last.front.only.elapses told).kept Control).later (omega arith) in
              inr ((f.0, f.1, f.2 ∙ ap (λ (l : List ℕ). l ++ take f.0 line) quiet), subst (λ (n : ℕ). Rose n c.console_faults) works.console_faults rose)
        ];
      }

  -- It after a report.
  pub report_then : (labelling : Labelling) (session failed : List ℕ) → a.clock ≤ b.clock → a.console_faults ≤ b.console_faults → ReportsAll labelling session failed a b → ReportsThen labelling session failed line a c
  report_then labelling session failed later counts all =
      let pairs = all.report.pairs in
      let rows = pairs.means.table.rows in
      let o = last.front.only in
      record {
        pairs = record {
          means = pairs.means;
          is_meant = pairs.is_meant;
          faulty = faulty_then rows a.faults b.faults c.faults failed o.faults pairs.faulty;
          redone = redone_then a b c (o.devices told) labelling rows (walked a a.bytes) failed ((o.elapses told).kept Control).later pairs.redone;
          done_before = done_more a b c (o.devices told) labelling rows (walked a a.bytes) failed (o.elapses told) pairs.redone pairs.done_before;
        };
        says = says_then_last (report_of labelling session failed pairs) later counts all.whole all.report.says;
      }

-- ---- the end

-- Done, it says no last line.
pub ends_done : (tells : Type 0) (labelling : Labelling) (session : List ℕ) (a b : PlantState) (v : Unit {0}) → RecoversSession tells labelling session a b (Ok v) → EndsRecovery tells labelling session a b 0
ends_done tells labelling session a b v e = record {
  known = refl;
  site = (λ is. absurd (omega (arith, is)), λ no. absurd (let bad = e.site.1 no in cc));
  untouched = λ is. absurd (omega (arith, is));
  short = λ site d first. absurd (let small = e.short site d first in cc);
  stopped = λ other. absurd (other refl);
  complete = λ told site ready none. inl refl;
  done = λ told is. e.done told;
  counts = λ is d here. e.counts d here (λ no. cc);
  failed = λ told is. absurd (omega (arith, is));
  in_part = λ told is. absurd (omega (arith, is));
  console_count = λ is. e.console_count (λ is. cc);
  console_once = e.console_once;
  once = e.once;
  spared = e.spared;
  uncalled = λ told other. absurd (other refl);
  changes = e.changes;
  labels = e.labels;
  moments = e.moments;
  lasts = λ told is. e.lasts told;
  small = λ told long is. absurd (omega (arith, is));
  other = λ told is. absurd (omega (arith, is));
  late = λ told is. absurd (omega (arith, is));
  unwritten = λ other. absurd (other refl);
}

-- Each stop has its status, and its line after what was said.
module _ (tells : Type 0) (labelling : Labelling) (session : List ℕ) (a b c : PlantState) (stop : Stop) (e : RecoversSession tells labelling session a b (Err stop)) (last : SaysLast tells (last_line stop) b c) where
  ends_so : EndsSo tells stop a c (status_of stop)
  ends_so = record { status_is = refl; says = λ told quiet. says_last_alone tells (last_line stop) a b c last told (RecoversMeant a) (e.silent quiet) }

  pub ends_stopped : (stop ≡ BadSite → b ≡ a) → (stop ≡ ConsoleFault → c ≡ b) → EndsRecovery tells labelling session a c (status_of stop)
  ends_stopped here quiet =
      let o = last.front.only in
      let counts = e.changes.console_faults in
      record {
        known = is_known a b stop e.causes;
        site = (λ is. e.site.0 (ap (λ (s : Stop). Err s) (is_site stop is)), λ no. ap status_of (let bad = e.site.1 no in let same : stop ≡ BadSite = cc in same));
        untouched = λ is. subst (λ (s : PlantState). WorksOnConsole tells s c) (here (is_site stop is)) o;
        short = λ site d first.
            let small = e.short site d first in
            let same : stop ≡ TooSmall d (need d) = cc in
            subst (λ (s : Stop). EndsSo tells s a c (status_of stop)) same ends_so;
        stopped = λ other. record {
          stop = stop;
          ends = ends_so;
          called_for = λ told. e.called_for told;
          risen = risen_still a b c o.faults counts last.later stop e.causes;
          counts = λ d here no. o.faults d ∙ e.counts d here (λ is. no (let same : stop ≡ fault_of d = cc in same));
        };
        complete = λ told site ready none. inr (ap status_of (e.complete told site ready (none_before a b c o.faults counts last.later none)));
        done = λ told is. absurd (not_done stop is);
        counts = λ is. absurd (not_done stop is);
        failed = λ told is.
            let same = is_volume stop is in
            let f = e.failed told (ap (λ (s : Stop). Err s) same) in
            (f.0, f.1, report_then tells (last_line VolumeFault) a b c (subst (λ (s : Stop). SaysLast tells (last_line s) b c) same last) told labelling session f.0 ((e.changes.elapses told).kept Control).later counts f.2);
        in_part = λ told is.
            let same = is_console stop is in
            let f = e.in_part told (ap (λ (s : Stop). Err s) same) in
            (f.0, subst (λ (s : PlantState). Reports labelling session f.0 a s) (sym (quiet same)) f.1);
        console_count = λ is. absurd (not_done stop is);
        console_once = console_calls a b c stop last.console_once (λ no. e.console_count (λ is. no (let same : stop ≡ ConsoleFault = cc in same))) e.console_once (λ is. ap (λ (s : PlantState). s.console_faults) (quiet is));
        once = λ v. omega (arith, e.once v, o.faults (Volume v));
        spared = λ told v none. o.faults (Volume v) ∙ e.spared told v none;
        uncalled = λ told other three five thirteen v. o.faults (Volume v) ∙ e.early told (is_early_stop stop three five thirteen) v;
        changes = changes_more tells (RecoversMeant a) a b c e.changes o last.later;
        labels = λ told. treats_console labelling tells (meant_rows a a.bytes) (walked a a.bytes) a b c told ((e.changes.elapses told).kept Control).later (e.labels told) o;
        moments = λ told. follow_then (SeesSame a) tells a b c told ((e.changes.elapses told).kept Control).later (e.moments told) o;
        lasts = λ told is. now_then (MeansAsRead a) tells b c told (meaning_lasts tells a b stop (e.lasts told) is) o;
        small = λ told long is. now_then (MeansAsRead a) tells b c told (small_lasts tells a b session long stop (e.lasts told) (e.called_for told) is) o;
        other = λ told is. now_then (ChoosesAsRead a) tells b c told (other_lasts tells a b stop (e.lasts told) is) o;
        late = λ told is. elim (late_lasts tells a b stop (e.lasts told) is) [
          | inl none ↦ inl (changes_more tells Nothing a b c none o last.later)
          | inr now ↦ inr (now_then (MeansAsRead a) tells b c told now o)
        ];
        unwritten = λ other three five thirteen. changes_more tells Nothing a b c (changes_of tells Nothing a b (e.unwritten (is_early_stop stop three five thirteen))) o last.later;
      }
