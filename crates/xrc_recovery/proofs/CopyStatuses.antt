-- The status of a copy, and the line that is said last.
use Rattle.std.proofs.Common.{◌≡◌, ◌≢◌, ◌≤◌, ◌==◌, ◌||◌, inl, inr, ℕ, Bool, true, false, List, Ok, Err, refl, sym, ◌∙◌, ap, subst, arith}
use Rattle.std.proofs.lemmas.Bool.{cases_lt, ne_eqb}
use Rattle.crash_plant.specs.declared.device.Device.TheVariants.{Control, Volume}
use Rattle.crash_plant.specs.Moments.{PlantState}
use Rattle.crash_plant.specs.Calls.{WorksOnConsole}
use Rattle.site_means.specs.Answers.{need}
use Rattle.site_means.specs.Sight.{walked}
use Rattle.third_copy.specs.Answers.{CopiesSite, SeesSameRows}
use Rattle.third_copy.specs.Targets.{target_of}
use Rattle.third_copy.proofs.Redone.{redone_still}
use Rattle.xrecover.specs.declared.labelling.Labelling.TheVariants.{AsItIs}
use Rattle.xrecover.specs.RedoneVolumes.{meant_rows}
use Rattle.xrecover.specs.Sights.{ChoosesAsRead, MeansAsRead}
use Rattle.xrecover.specs.Works.{Nothing}
use Rattle.xrc_edge.specs.Causes.{Rose}
use Rattle.xrc_status.specs.declared.stop.Stop.{Stop}
use Rattle.xrc_status.specs.declared.stop.Stop.TheVariants.{NoMemory, BadWords, ConsoleFault, BadLine, JournalFault, ControlFault, StateFault, BadHeader, HeaderFault, NoSession, OtherSession, Damaged, VolumeFault, TooSmall, BadSite, Spent}
use Rattle.xrc_status.specs.Saying.{SaysLast}
use Rattle.xrc_status.specs.Stops.{last_line, status_of}
use Rattle.xrc_recovery.specs.declared.copying.CopyStop.{CopyStop}
use Rattle.xrc_recovery.specs.declared.copying.CopyStop.TheVariants.{NoTarget, Stopped}
use Rattle.xrc_recovery.specs.Copies.{CopiesPairs, CopiesSession, EndsCopy, SaysCopies, SaysCopiesThen, SaysCopiesWhole, copies_of, copy_line, copy_status}
use Rattle.xrc_recovery.specs.Statuses.{EndsSo, ends_recovery, tells_meaning}
use Rattle.xrc_recovery.specs.Stops.{fault_of}
use Rattle.xrc_recovery.specs.Texts.{no_target_line, no_target_status}
use Rattle.xrc_recovery.proofs.Changing.{changes_more, changes_of, follow_then, now_then, treats_console}
use Rattle.xrc_recovery.proofs.CopyEnds.{copied_stays, counts_then, faulty_pairs_then, keeps_changes, lacks_then, lasting_then, none_then, redone_then}
use Rattle.xrc_recovery.proofs.Lasting.{console_calls, is_console, is_early_stop, is_known, is_site, is_volume, late_lasts, meaning_lasts, none_before, not_done, other_lasts, risen_still, says_last_alone, says_then_last, small_lasts}

-- ---- statuses

either_left : (x y : Bool) → x ≡ true → (x || y) ≡ true
either_left true y is = refl
either_left false y is = absurd cc

only_left : (x y : Bool) → y ≡ false → (x || y) ≡ true → x ≡ true
only_left true y none is = refl
only_left false true none is = absurd cc
only_left false false none is = is

-- No stop has the status of a pair without a target.
not_target : (stop : Stop) → status_of stop ≢ no_target_status
not_target NoMemory = λ is. omega (arith, is)
not_target BadWords = λ is. omega (arith, is)
not_target ConsoleFault = λ is. omega (arith, is)
not_target (BadLine n) = λ is. omega (arith, is)
not_target (JournalFault j) = λ is. omega (arith, is)
not_target ControlFault = λ is. omega (arith, is)
not_target StateFault = λ is. omega (arith, is)
not_target (BadHeader trace place) = λ is. omega (arith, is)
not_target (HeaderFault trace) = λ is. omega (arith, is)
not_target NoSession = λ is. omega (arith, is)
not_target (OtherSession name) = λ is. omega (arith, is)
not_target (Damaged d place) = λ is. omega (arith, is)
not_target VolumeFault = λ is. omega (arith, is)
not_target (TooSmall d needed) = λ is. omega (arith, is)
not_target BadSite = λ is. omega (arith, is)
not_target Spent = λ is. omega (arith, is)

-- ---- a line after what was said

module _ (tells : Type 0) (session : List ℕ) (shift : ℕ) (line : List ℕ) (a b c : PlantState) (last : SaysLast tells line b c) (told : tells) where
  copies_still : (failed : List ℕ) → CopiesPairs session shift failed a b → CopiesPairs session shift failed a c
  copies_still failed pairs =
      let o = last.front.only in
      let past = o.elapses told in
      let devices = o.devices told in
      let later = (past.kept Control).later in
      let rows = pairs.means.table.rows in
      record {
        means = pairs.means;
        is_meant = pairs.is_meant;
        targets = none_then rows shift a b c o.faults pairs.targets;
        copied = pairs.copied;
        faulty = faulty_pairs_then rows shift a.faults b.faults c.faults pairs.copied failed o.faults pairs.faulty;
        are_copied = λ r pair is.
            let own = pairs.are_copied r pair is in
            let stays = devices (Volume r.device) in (
              copied_stays pairs.means shift b c r (devices (Volume (target_of shift r))) later own.0,
              redone_still tells told AsItIs r (walked a a.bytes) a b c stays.bytes (λ z left. stays.images c.clock later (omega arith) z left) own.1,
            );
        copied_before = λ t from to differs r pair is z left.
            let v = Volume (target_of shift r) in
            elim (cases_lt t b.clock) [
              | inl early ↦
                  pairs.copied_before t from (omega (arith, early)) (λ same. differs (past.said t (omega (arith, early)) (omega (arith, early)) ∙ same)) r pair is z ((past.kept v).same t (omega (arith, early)) (omega (arith, early)) z left) ∙ sym (devices v).bytes
              | inr late ↦
                  let start = (devices v).images t late to z left in
                  start.2 ∙ (pairs.are_copied r pair is).0.durable start.0 start.1 ∙ sym (devices v).bytes
            ];
        redone = λ r pair. redone_then tells told a b c r (devices (Volume r.device)) later o.faults (pairs.redone r pair);
        redone_before = λ t from to differs r pair.
            let v = Volume r.device in
            elim (cases_lt t b.clock) [
              | inl early ↦ elim (pairs.redone_before t from (omega (arith, early)) (λ same. differs (past.said t (omega (arith, early)) (omega (arith, early)) ∙ same)) r pair) [
                | inl is ↦ inl (λ z left. is z ((past.kept v).same t (omega (arith, early)) (omega (arith, early)) z left) ∙ sym (devices v).bytes)
                | inr rose ↦ inr (subst (λ (n : ℕ). Rose (a.faults v) n) (sym (o.faults v)) rose)
              ]
              | inr late ↦ lasting_then a b c r (devices v) o.faults (pairs.redone r pair) t late to
            ];
      }

  pub copies_then : (failed : List ℕ) → a.clock ≤ b.clock → a.console_faults ≤ b.console_faults → SaysCopiesWhole session shift failed a b → SaysCopiesThen session shift failed line a c
  unfolding copies_still
  copies_then failed later counts all = record {
    pairs = copies_still failed all.copies.pairs;
    says = says_then_last tells line a b c last told (copies_of session shift failed all.copies.pairs) later counts all.whole all.copies.says;
  }

-- ---- the end

-- Done, it says no last line.
pub copy_done : (tells : Type 0) (session : List ℕ) (shift : ℕ) (a b : PlantState) (v : Unit {0}) → CopiesSession tells session shift a b (Ok v) → EndsCopy tells session shift a b 0
copy_done tells session shift a b v e = record {
  known = refl;
  site = (λ is. absurd (omega (arith, is)), λ no. absurd (let bad = e.site.1 no in cc));
  untouched = λ is. absurd (omega (arith, is));
  short = λ site d first. absurd (let small = e.short site d first in cc);
  stopped = λ other target. absurd (other refl);
  no_target = λ is. absurd (omega (arith, is));
  complete = λ told site ready none. inl refl;
  done = λ told is. e.done told;
  failed = λ told is. absurd (omega (arith, is));
  in_part = λ told is. absurd (omega (arith, is));
  counts = λ is d here. e.counts d here (λ no. cc);
  console_count = λ is. e.console_count (λ is. cc);
  console_once = e.console_once;
  volumes = e.volumes;
  changes = e.changes;
  labels = e.labels;
  progress = e.progress;
  moments = e.moments;
  lasts = λ told is. e.lasts told;
  small = λ told long is. absurd (omega (arith, is));
  other = λ told is. absurd (omega (arith, is));
  late = λ told is. absurd (omega (arith, is));
  unwritten = λ other. absurd (other refl);
}

-- Each stop has its status, and its line after what was said.
module _ (tells : Type 0) (session : List ℕ) (shift : ℕ) (a b c : PlantState) (stop : Stop) (e : CopiesSession tells session shift a b (Err (Stopped stop))) (last : SaysLast tells (last_line stop) b c) where
  ends_so : EndsSo tells stop a c (status_of stop)
  ends_so = record { status_is = refl; says = λ told quiet. says_last_alone tells (last_line stop) a b c last told (CopiesSite a shift) (e.silent quiet) }

  pub copy_stopped : (stop ≡ BadSite → b ≡ a) → (stop ≡ ConsoleFault → c ≡ b) → EndsCopy tells session shift a c (status_of stop)
  copy_stopped here quiet =
      let o = last.front.only in
      let counts = e.changes.console_faults in
      let changes = changes_more tells (CopiesSite a shift) a b c e.changes o last.later in
      record {
        known = either_left (ends_recovery (status_of stop)) (status_of stop == no_target_status) (is_known a b stop e.causes);
        site = (λ is. e.site.0 (ap (λ (s : Stop). Err (Stopped s)) (is_site stop is)), λ no. ap status_of (let bad = e.site.1 no in let same : stop ≡ BadSite = cc in same));
        untouched = λ is. subst (λ (s : PlantState). WorksOnConsole tells s c) (here (is_site stop is)) o;
        short = λ site d first.
            let small = e.short site d first in
            let same : stop ≡ TooSmall d (need d) = cc in
            subst (λ (s : Stop). EndsSo tells s a c (status_of stop)) same ends_so;
        stopped = λ other target. record {
          stop = stop;
          ends = ends_so;
          called_for = λ told. e.called_for told;
          risen = risen_still a b c o.faults counts last.later stop e.causes;
          counts = λ d here no. o.faults d ∙ e.counts d here (λ is. no (let same : stop ≡ fault_of d = cc in same));
        };
        no_target = λ is. absurd (not_target stop is);
        complete = λ told site ready none.
            let only = e.complete told site ready (none_before a b c o.faults counts last.later none) in
            inr (ap status_of (let same : stop ≡ NoMemory = cc in same));
        done = λ told is. absurd (not_done stop is);
        failed = λ told is.
            let same = is_volume stop is in
            let f = e.failed told (ap (λ (s : Stop). Err (Stopped s)) same) in
            (f.0, f.1, copies_then tells session shift (last_line VolumeFault) a b c (subst (λ (s : Stop). SaysLast tells (last_line s) b c) same last) told f.0 ((e.changes.elapses told).kept Control).later counts f.2);
        in_part = λ told is.
            let same = is_console stop is in
            let f = e.in_part told (ap (λ (s : Stop). Err (Stopped s)) same) in
            (f.0, subst (λ (s : PlantState). SaysCopies session shift f.0 a s) (sym (quiet same)) f.1);
        counts = λ is. absurd (not_done stop is);
        console_count = λ is. absurd (not_done stop is);
        console_once = console_calls a b c stop last.console_once (λ no. e.console_count (λ is. no (let same : stop ≡ ConsoleFault = cc in same))) e.console_once (λ is. ap (λ (s : PlantState). s.console_faults) (quiet is));
        volumes = λ told. counts_then (meant_rows a a.bytes) shift a.faults b.faults c.faults o.faults (e.volumes told);
        changes = changes;
        labels = λ told. treats_console AsItIs tells (meant_rows a a.bytes) (walked a a.bytes) a b c told ((e.changes.elapses told).kept Control).later (e.labels told) o;
        progress = λ told. keeps_changes tells told shift a c changes;
        moments = λ told. follow_then (SeesSameRows a) tells a b c told ((e.changes.elapses told).kept Control).later (e.moments told) o;
        lasts = λ told is. now_then (MeansAsRead a) tells b c told (meaning_lasts tells a b stop (e.lasts told) (only_left (tells_meaning (status_of stop)) (status_of stop == no_target_status) (ne_eqb (status_of stop) no_target_status (not_target stop)) is)) o;
        small = λ told long is. now_then (MeansAsRead a) tells b c told (small_lasts tells a b session long stop (e.lasts told) (e.called_for told) is) o;
        other = λ told is. now_then (ChoosesAsRead a) tells b c told (other_lasts tells a b stop (e.lasts told) is) o;
        late = λ told is. elim (late_lasts tells a b stop (e.lasts told) is) [
          | inl none ↦ inl (changes_more tells Nothing a b c none o last.later)
          | inr now ↦ inr (now_then (MeansAsRead a) tells b c told now o)
        ];
        unwritten = λ other three five thirteen. changes_more tells Nothing a b c (changes_of tells Nothing a b (e.unwritten (is_early_stop stop three five thirteen))) o last.later;
      }

-- A pair without a target has its line alone.
pub copy_without : (tells : Type 0) (session : List ℕ) (shift : ℕ) (a b c : PlantState) (device : ℕ) → CopiesSession tells session shift a b (Err (NoTarget device)) → SaysLast tells (no_target_line device) b c → EndsCopy tells session shift a c no_target_status
copy_without tells session shift a b c device e last =
    let o = last.front.only in
    let counts = e.changes.console_faults in
    let changes = changes_more tells (CopiesSite a shift) a b c e.changes o last.later in
    record {
      known = refl;
      site = (λ is. absurd (omega (arith, is)), λ no. absurd (let bad = e.site.1 no in cc));
      untouched = λ is. absurd (omega (arith, is));
      short = λ site d first. absurd (let small = e.short site d first in cc);
      stopped = λ other target. absurd (target refl);
      no_target = λ is. record {
        device = device;
        called_for = λ told. lacks_then a b c session shift device o.faults (e.called_for told);
        counts = λ d here. o.faults d ∙ e.counts d here (λ no. cc);
        says = λ told. says_last_alone tells (no_target_line device) a b c last told (CopiesSite a shift) (e.silent (λ lines. lines));
      };
      complete = λ told site ready none. absurd (let only = e.complete told site ready (none_before a b c o.faults counts last.later none) in cc);
      done = λ told is. absurd (omega (arith, is));
      failed = λ told is. absurd (omega (arith, is));
      in_part = λ told is. absurd (omega (arith, is));
      counts = λ is. absurd (omega (arith, is));
      console_count = λ is. absurd (omega (arith, is));
      console_once = omega (arith, last.console_once, e.console_count (λ is. cc));
      volumes = λ told. counts_then (meant_rows a a.bytes) shift a.faults b.faults c.faults o.faults (e.volumes told);
      changes = changes;
      labels = λ told. treats_console AsItIs tells (meant_rows a a.bytes) (walked a a.bytes) a b c told ((e.changes.elapses told).kept Control).later (e.labels told) o;
      progress = λ told. keeps_changes tells told shift a c changes;
      moments = λ told. follow_then (SeesSameRows a) tells a b c told ((e.changes.elapses told).kept Control).later (e.moments told) o;
      lasts = λ told is. now_then (MeansAsRead a) tells b c told (e.lasts told) o;
      small = λ told long is. absurd (omega (arith, is));
      other = λ told is. absurd (omega (arith, is));
      late = λ told is. absurd (omega (arith, is));
      unwritten = λ other three five thirteen. changes_more tells Nothing a b c (changes_of tells Nothing a b (e.unwritten tt)) o last.later;
    }

-- Each ends so.
pub copy_ends : (tells : Type 0) (session : List ℕ) (shift : ℕ) (a b c : PlantState) (stop : CopyStop) → CopiesSession tells session shift a b (Err stop) → SaysLast tells (copy_line stop) b c → (stop ≡ Stopped BadSite → b ≡ a) → (stop ≡ Stopped ConsoleFault → c ≡ b)
    → EndsCopy tells session shift a c (copy_status stop)
copy_ends tells session shift a b c (Stopped stop) e last here quiet = copy_stopped tells session shift a b c stop e last (λ is. here (ap Stopped is)) (λ is. quiet (ap Stopped is))
copy_ends tells session shift a b c (NoTarget device) e last here quiet = copy_without tells session shift a b c device e last
