-- The ends of a copy: at a site of other numbers, at an error, where a pair lacks a target, and with its report.
use Rattle.std.proofs.Common.{◌≡◌, ◌≢◌, ◌⊎◌, ◌≤◌, ◌+◌, ◌*◌, ◌++◌, ◌∷◌, [], inl, inr, ℕ, suc, Bool, true, false, not, cond, List, Some, Result, Ok, Err, OnOk, refl, sym, ◌∙◌, ap, subst, arith}
use Rattle.std.specs.Prelude.{IfOk, IsErrOf, filter, map, slice_get}
use Rattle.std.proofs.lemmas.Bool.{cases_lt}
use Rattle.xrc_edge.specs.Causes.{Rose}
use Rattle.crash_plant.specs.declared.device.Device.{Device}
use Rattle.crash_plant.specs.declared.device.Device.TheVariants.{Control, Volume}
use Rattle.crash_plant.specs.Moments.{PlantState, on, IsDurable, Stays}
use Rattle.crash_plant.specs.Choices.{AllFollow, AtNow}
use Rattle.pair_table.specs.declared.row.PairRow.{PairRow}
use Rattle.pair_table.specs.Devices.{is_among}
use Rattle.pair_table.specs.States.{is_duplex}
use Rattle.site_means.specs.declared.means.Means.{Means}
use Rattle.site_means.specs.declared.site_error.SiteError.TheVariants.{Fault, TooSmall as TooSmallError}
use Rattle.site_means.specs.Answers.{IsStore, first_short, need}
use Rattle.site_means.specs.Sight.{meant_by, walked}
use Rattle.site_means.proofs.ReadAll.{reads_none}
use Rattle.third_copy.specs.declared.copy_error.CopyError.{CopyError}
use Rattle.third_copy.specs.declared.copy_error.CopyError.TheVariants.{NoTarget as NoTargetError, Recover}
use Rattle.third_copy.specs.declared.outcome.CopyOutcome.{CopyOutcome}
use Rattle.third_copy.specs.Answers.{AreFaultyPairs, ArePairsCopied, CopiesSite, CountsPairs, IsCopyCalledFor, IsEarlyCopy, IsRedoneOrFailed, KeepsCopied, SeesSameRows, TellsCopyLasting}
use Rattle.copy_progress.specs.Copies.{done}
use Rattle.third_copy.specs.Pairs.{claim_of, IsCopied, IsPair, NeedsNone, NoneIsWithout, HasCountRisen}
use Rattle.third_copy.specs.Targets.{IsWithoutTarget, target_of}
use Rattle.third_copy.proofs.JobsDone.{either_then}
use Rattle.third_copy.proofs.Phases.{nothing_copied, still_counts, unwritten_moments}
use Rattle.third_copy.proofs.Redone.{redone_still}
use Rattle.third_copy.proofs.Rows.{contained}
use Rattle.xrecover.specs.declared.labelling.Labelling.TheVariants.{AsItIs}
use Rattle.xrecover.specs.declared.recover_error.RecoverError.{RecoverError}
use Rattle.xrecover.specs.declared.recover_error.RecoverError.TheVariants.{Site}
use Rattle.xrecover.specs.Answers.{IsRecoverable, TellsFaults}
use Rattle.xrecover.specs.Labels.{KeepsLabels}
use Rattle.xrecover.specs.Pairs.{duplex_devices}
use Rattle.xrecover.proofs.Labels.{treats_read}
use Rattle.xrecover.specs.RedoneVolumes.{IsRedone, meant_rows}
use Rattle.xrecover.specs.Sights.{MeansAsRead}
use Rattle.xrecover.specs.Works.{Nothing, Works}
use Rattle.xrc_status.specs.Saying.{SaysFront, SaysWhole}
use Rattle.xrc_status.specs.declared.stop.Stop.{Stop}
use Rattle.xrc_status.specs.declared.stop.Stop.TheVariants.{BadSite, ConsoleFault, VolumeFault}
use Rattle.xrc_recovery.specs.declared.copying.CopyStop.{CopyStop}
use Rattle.xrc_recovery.specs.declared.copying.CopyStop.TheVariants.{NoTarget, Stopped}
use Rattle.xrc_recovery.specs.Copies.{CopiesPairs, CopiesSession, IsReadyToCopy, LacksTarget, SaysCopies, SaysCopiesWhole, stop_of_copy}
use Rattle.xrc_recovery.specs.Recoveries.{StopLasts}
use Rattle.xrc_recovery.specs.Reports.{Changes}
use Rattle.xrc_recovery.specs.Stops.{CallsFor, HasFailure, HasLines, HasRisen, IsSite, StopsEarly, stop_of}
use Rattle.xrc_recovery.specs.Texts.{copied_text}
use Rattle.xrc_recovery.proofs.Changing.{changes_of, changes_then, follow_then, nothing_here, now_then, says_after, treats_console}
use Rattle.xrc_recovery.proofs.Ending.{error_lasts, last_of_lines, late_lines, lines_of_site}
use Rattle.xrc_recovery.proofs.Stopping.{calls_for, has_risen, is_early, not_console, not_site, not_volume, only_memory}

-- ---- over calls on the console

-- What is durable stays so.
durable_stays : (b c : PlantState) (d : Device) → Stays (on b d) (on c d) → b.clock ≤ c.clock → IsDurable (on b d) → IsDurable (on c d)
durable_stays b c d stays later durable x left =
    let start = stays.images c.clock later (omega arith) x left in
    start.2 ∙ durable start.0 start.1 ∙ sym stays.bytes

pub copied_stays : (means : Means) (shift : ℕ) (b c : PlantState) (r : PairRow) → Stays (on b (Volume (target_of shift r))) (on c (Volume (target_of shift r))) → b.clock ≤ c.clock → IsCopied means shift b r → IsCopied means shift c r
copied_stays means shift b c r stays later is = record {
  all_done = subst (λ (l : List ℕ). done_is l) (sym stays.bytes) is.all_done;
  durable = durable_stays b c (Volume (target_of shift r)) stays later is.durable;
}
  where
    done_is : List ℕ → Type 0
    done_is l = done (claim_of means r) l ≡ 15 * r.cylinders

pub faulty_pairs_then : (rows : List PairRow) (shift : ℕ) (before now after : Device → ℕ) (copied failed : List ℕ) → ((d : Device) → after d ≡ now d) → AreFaultyPairs rows shift before now copied failed → AreFaultyPairs rows shift before after copied failed
faulty_pairs_then rows shift before now after copied failed same faulty = record {
  listed = faulty.listed;
  of_pairs = faulty.of_pairs;
  counted = λ r pair. either_then (not (is_among r.device copied)) r.device (target_of shift r) before now after (same (Volume r.device)) (same (Volume (target_of shift r))) (faulty.counted r pair);
}

pub counts_then : (rows : List PairRow) (shift : ℕ) (before now after : Device → ℕ) → ((d : Device) → after d ≡ now d) → CountsPairs rows shift before now → CountsPairs rows shift before after
counts_then rows shift before now after same counts = record {
  once = λ v. omega (arith, counts.once v, same (Volume v));
  spared = λ v apart. same (Volume v) ∙ counts.spared v apart;
}

needs_then : (rows : List PairRow) (shift : ℕ) (a b c : PlantState) (r : PairRow) → ((d : Device) → c.faults d ≡ b.faults d) → NeedsNone a b rows shift r → NeedsNone a c rows shift r
needs_then rows shift a b c r same (inl some) = inl some
needs_then rows shift a b c r same (inr unread) = inr (record {
  there = unread.there;
  free = unread.free;
  risen = subst (λ (n : ℕ). HasCountRisen (a.faults (Volume (target_of shift r))) n) (sym (same (Volume (target_of shift r)))) unread.risen;
})

pub none_then : (rows : List PairRow) (shift : ℕ) (a b c : PlantState) → ((d : Device) → c.faults d ≡ b.faults d) → NoneIsWithout a b rows shift → NoneIsWithout a c rows shift
none_then rows shift a b c same none n r at duplex = needs_then rows shift a b c r same (none n r at duplex)

pub lacks_then : (a b c : PlantState) (session : List ℕ) (shift device : ℕ) → ((d : Device) → c.faults d ≡ b.faults d) → LacksTarget a b session shift device → LacksTarget a c session shift device
lacks_then a b c session shift device same lacks =
    let f = lacks.first in
    record {
      means = lacks.means;
      is_meant = lacks.is_meant;
      first = record {
        place = f.place;
        row = f.row;
        at = f.at;
        duplex = f.duplex;
        lacks = f.lacks;
        device_is = f.device_is;
        before = λ n r before at duplex. needs_then lacks.means.table.rows shift a b c r same (f.before n r before at duplex);
      };
    }

-- A volume that is redone, or failed, is so later, too.
pub redone_then : (tells : Type 0) (told : tells) (a b c : PlantState) (r : PairRow) → Stays (on b (Volume r.device)) (on c (Volume r.device)) → b.clock ≤ c.clock → ((d : Device) → c.faults d ≡ b.faults d) → IsRedoneOrFailed a b r → IsRedoneOrFailed a c r
redone_then tells told a b c r stays later same (inl is) = inl (redone_still tells told AsItIs r (walked a a.bytes) a b c stays.bytes (λ z left. stays.images c.clock later (omega arith) z left) is)
redone_then tells told a b c r stays later same (inr rose) = inr (subst (λ (n : ℕ). Rose (a.faults (Volume r.device)) n) (sym (same (Volume r.device))) rose)

-- From a later moment on a crash leaves of it what reads give in the end.
pub lasting_then : (a b c : PlantState) (r : PairRow) → Stays (on b (Volume r.device)) (on c (Volume r.device)) → ((d : Device) → c.faults d ≡ b.faults d) → IsRedoneOrFailed a b r
    → (t : ℕ) → b.clock ≤ t → t ≤ c.clock → ((z : List ℕ) → c.images t (Volume r.device) z → z ≡ c.bytes (Volume r.device)) ⊎ Rose (a.faults (Volume r.device)) (c.faults (Volume r.device))
lasting_then a b c r stays same (inl is) t late to = inl (λ z left. let start = stays.images t late to z left in start.2 ∙ is.durable start.0 start.1 ∙ sym stays.bytes)
lasting_then a b c r stays same (inr rose) t late to = inr (subst (λ (n : ℕ). Rose (a.faults (Volume r.device)) n) (sym (same (Volume r.device))) rose)

-- All that is done is copied, at every moment.
pub keeps_changes : (tells : Type 0) (told : tells) (shift : ℕ) (a b : PlantState) → Changes tells (CopiesSite a shift) a b → KeepsCopied shift a b
keeps_changes tells told shift a b changes m is r pair all t from to c left =
    let start = changes.moments told (Volume (target_of shift r)) t from to c left in
    (start.2.1 m is r (pair, refl)).copied (all start.0 start.1)

-- ---- a pair that failed

-- The first of the duplex pairs' devices that keep a test is that of a pair.
head_of : (f : ℕ → Bool) (rows : List PairRow) (v : ℕ) (rest : List ℕ) → v ∷ rest ≡ filter f (duplex_devices rows) → (k : ℕ) × (r : PairRow) × (slice_get rows k ≡ Some r) × (is_duplex r.state ≡ true) × (f r.device ≡ true)
head_of f [] v rest is = absurd cc
head_of f (q ∷ rows) v rest is = by_duplex (is_duplex q.state) refl is (λ more. let at = head_of f rows v rest more in (suc at.0, at.1, at.2, at.3, at.4))
  where
    Found : Type 0
    Found = (k : ℕ) × (r : PairRow) × (slice_get (q ∷ rows) k ≡ Some r) × (is_duplex r.state ≡ true) × (f r.device ≡ true)

    by_test : is_duplex q.state ≡ true → (b : Bool) → f q.device ≡ b → v ∷ rest ≡ cond b (q.device ∷ filter f (duplex_devices rows)) (filter f (duplex_devices rows)) → (v ∷ rest ≡ filter f (duplex_devices rows) → Found) → Found
    by_test duplex true kept e more = (0, q, refl, duplex, kept)
    by_test duplex false left e more = more e

    by_duplex : (d : Bool) → is_duplex q.state ≡ d → v ∷ rest ≡ filter f (map (λ (r : PairRow). r.device) (cond d (q ∷ filter (λ r. is_duplex r.state) rows) (filter (λ r. is_duplex r.state) rows))) → (v ∷ rest ≡ filter f (duplex_devices rows) → Found) → Found
    by_duplex true duplex e more = by_test duplex (f q.device) refl e more
    by_duplex false other e more = more e

pub has_failure_of_pairs : (rows : List PairRow) (shift : ℕ) (before now : Device → ℕ) (copied failed : List ℕ) → failed ≢ [] → AreFaultyPairs rows shift before now copied failed → HasFailure before now
has_failure_of_pairs rows shift before now copied [] some faulty = absurd (some refl)
has_failure_of_pairs rows shift before now copied (v ∷ rest) some faulty =
    let at = head_of (λ w. not (is_among w copied)) rows v rest faulty.listed in
    let r = at.1 in
    let counted = faulty.counted r (record { among = contained rows at.0 r at.2; duplex = at.3 }) in
    elim (counted.rose at.4) [
      | inl source ↦ (r.device, source)
      | inr target ↦ (target_of shift r, target)
    ]

-- ---- where nothing calls for a stop

-- Each pair has a target, so none lacks one.
no_lack : (a b : PlantState) (session : List ℕ) (shift device : ℕ) → IsReadyToCopy a session shift → LacksTarget a b session shift device → ⊥
no_lack a b session shift device ready lacks =
    let f = lacks.first in
    let own = ready.ready in
    let same : Some lacks.means ≡ Some own.means = sym (ap meant_by lacks.is_meant.meant.mean.1) ∙ ap meant_by own.is_meant.meant.mean.1 in
    let is : lacks.means ≡ own.means = cc in
    let at : slice_get own.means.table.rows f.place ≡ Some f.row = subst (λ (m : Means). slice_get m.table.rows f.place ≡ Some f.row) is f.at in
    ready.targets f.row (record { among = contained own.means.table.rows f.place f.row at; duplex = f.duplex }) (subst (λ (m : Means). IsWithoutTarget a m.table.rows shift f.row) is f.lacks)

-- ---- a site of other numbers

pub copy_at_site : (tells : Type 0) (session : List ℕ) (shift : ℕ) (a : PlantState) → ¬ IsSite a → CopiesSession tells session shift a a (Err (Stopped BadSite))
copy_at_site tells session shift a other =
    let works = nothing_copied tells a a shift (nothing_here tells a) in
    let changes = changes_of tells (CopiesSite a shift) a a works in
    record {
      site = (λ is. other, λ no. refl);
      short = λ site. absurd (other site);
      called_for = λ told. other;
      causes = tt;
      counts = λ d here no. refl;
      complete = λ told site. absurd (other site);
      done = λ told. tt;
      failed = λ told is. absurd cc;
      in_part = λ told is. absurd cc;
      silent = λ quiet. works;
      console_count = λ no. refl;
      console_once = omega arith;
      volumes = λ told. still_counts (meant_rows a a.bytes) shift a.faults a.faults (λ v. refl);
      changes = changes;
      labels = λ told. treats_read tells told AsItIs (meant_rows a a.bytes) (walked a a.bytes) a a (reads_none tells a);
      progress = λ told. keeps_changes tells told shift a a changes;
      moments = λ told. unwritten_moments tells told a a (nothing_here tells a);
      lasts = λ told. tt;
      unwritten = λ early. nothing_here tells a;
    }

-- ---- what the copy gave

pub record CopyGave (tells : Type 0) (session : List ℕ) (shift : ℕ) (a b : PlantState) (r : Result CopyOutcome CopyError) : Type 0 where
  pub ok : tells → IsCopyCalledFor a b session shift r
  pub short : (d : Device) → first_short a ≡ Some d → r ≡ Err (Recover (Site (TooSmallError d (need d))))
  pub cause : TellsFaults a.faults b.faults (λ d. IsErrOf r (Recover (Site (Fault d))))
  pub failed : IfOk r (λ o. AreFaultyPairs o.means.table.rows shift a.faults b.faults o.done o.failed)
  pub counts : tells → CountsPairs (meant_rows a a.bytes) shift a.faults b.faults
  pub copied : tells → IfOk r (λ o. ArePairsCopied shift a b o)
  pub works : Works tells (CopiesSite a shift) a b
  pub labels : tells → KeepsLabels a b
  pub moments : tells → AllFollow (SeesSameRows a) a b
  pub lasts : tells → TellsCopyLasting tells a b r
  pub unwritten : (e : CopyError) → IsErrOf r e → IsEarlyCopy e → Works tells Nothing a b

-- ---- an error

module _ (tells : Type 0) (session : List ℕ) (shift : ℕ) (a b : PlantState) (e : RecoverError) (stop : Stop) (is : stop ≡ stop_of e) where
  pub copy_at_error : IsSite a → CopyGave tells session shift a b (Err (Recover e)) → CopiesSession tells session shift a b (Err (Stopped stop))
  copy_at_error site k =
      let good : CopyOutcome → Type 0 = λ o. IsRecoverable a session o.means in
      let short : (d : Device) → first_short a ≡ Some d → e ≡ Site (TooSmallError d (need d)) = λ d first. let same = k.short d first in cc in
      let fault : (d : Device) → e ≡ Site (Fault d) → Rose (a.faults d) (b.faults d) = λ d at. k.cause.rose d (ap (λ (f : RecoverError). Err (Recover f)) at) in
      let changes = changes_of tells (CopiesSite a shift) a b k.works in
      record {
        site = (λ bad. absurd (not_site e (sym is ∙ let same = bad in cc)), λ no. absurd (no site));
        short = λ again d first. ap (λ (s : Stop). Err (Stopped s)) (is ∙ ap stop_of (short d first));
        called_for = λ told. subst (λ (s : Stop). CallsFor a session s) (sym is) (calls_for {X = CopyOutcome} a session good e short (k.ok told));
        causes = subst (λ (s : Stop). HasRisen a b s) (sym is) (has_risen a b e fault);
        counts = λ d here no. k.cause.others d here (λ at. no (ap (λ (s : Stop). Err (Stopped s)) (is ∙ let same : e ≡ Site (Fault d) = cc in ap stop_of same)));
        complete = λ told again ready none. ap Stopped (is ∙ only_memory a b session ready.ready none (stop_of e) (not_site e) (calls_for {X = CopyOutcome} a session good e short (k.ok told)) (has_risen a b e fault));
        done = λ told. tt;
        failed = λ told volume. absurd (not_volume {X = CopyOutcome} a session good e (k.ok told) (sym is ∙ let same = volume in cc));
        in_part = λ told console. absurd (not_console e (sym is ∙ let same = console in cc));
        silent = λ quiet. k.works;
        console_count = λ no. k.works.console_faults;
        console_once = omega (arith, k.works.console_faults);
        volumes = k.counts;
        changes = changes;
        labels = k.labels;
        progress = λ told. keeps_changes tells told shift a b changes;
        moments = k.moments;
        lasts = λ told. subst (λ (s : Stop). StopLasts tells a b s) (sym is) (error_lasts CopyOutcome tells a b e (λ volume. not_volume {X = CopyOutcome} a session good e (k.ok told) volume) (k.lasts told));
        unwritten = λ early. k.unwritten (Recover e) refl (is_early e (subst (λ (s : Stop). StopsEarly s) is early));
      }

-- ---- a pair lacks a target

pub copy_at_target : (tells : Type 0) (session : List ℕ) (shift : ℕ) (a b : PlantState) (device : ℕ) → IsSite a → CopyGave tells session shift a b (Err (NoTargetError device)) → CopiesSession tells session shift a b (Err (NoTarget device))
copy_at_target tells session shift a b device site k =
    let changes = changes_of tells (CopiesSite a shift) a b k.works in
    let lacks : tells → LacksTarget a b session shift device = λ told. let found = k.ok told in record { means = found.0; is_meant = found.1; first = found.2 } in
    record {
      site = (λ bad. absurd cc, λ no. absurd (no site));
      short = λ again d first. absurd (let same = k.short d first in cc);
      called_for = lacks;
      causes = tt;
      counts = λ d here no. k.cause.others d here (λ at. cc);
      complete = λ told again ready none. absurd (no_lack a b session shift device ready (lacks told));
      done = λ told. tt;
      failed = λ told is. absurd cc;
      in_part = λ told is. absurd cc;
      silent = λ quiet. k.works;
      console_count = λ no. k.works.console_faults;
      console_once = omega (arith, k.works.console_faults);
      volumes = k.counts;
      changes = changes;
      labels = k.labels;
      progress = λ told. keeps_changes tells told shift a b changes;
      moments = k.moments;
      lasts = k.lasts;
      unwritten = λ early. k.unwritten (NoTargetError device) refl tt;
    }

-- ---- both

pub copy_at_fail : (tells : Type 0) (session : List ℕ) (shift : ℕ) (a b : PlantState) (e : CopyError) (stop : CopyStop) → stop ≡ stop_of_copy e → IsSite a → CopyGave tells session shift a b (Err e) → CopiesSession tells session shift a b (Err stop)
copy_at_fail tells session shift a b (Recover e) stop is site k = subst (λ (s : CopyStop). CopiesSession tells session shift a b (Err s)) (sym is) (copy_at_error tells session shift a b e (stop_of e) refl site k)
copy_at_fail tells session shift a b (NoTargetError d) stop is site k = subst (λ (s : CopyStop). CopiesSession tells session shift a b (Err s)) (sym is) (copy_at_target tells session shift a b d site k)

-- ---- a report

-- what the copy and the report gave
pub record CopyTold (tells : Type 0) (session : List ℕ) (shift : ℕ) (a b c : PlantState) (means : Means) (copied failed : List ℕ) (r : Result (Unit {0}) CopyStop) : Type 0 where
  pub site : IsSite a
  pub long : (d : Device) → ¬ (first_short a ≡ Some d)
  pub is_meant : tells → IsRecoverable a session means
  pub targets : tells → NoneIsWithout a b means.table.rows shift
  pub faulty : AreFaultyPairs means.table.rows shift a.faults b.faults copied failed
  pub are_copied : tells → (r : PairRow) → IsPair means.table.rows r → is_among r.device copied ≡ true → IsCopied means shift b r × IsRedone AsItIs r (walked a a.bytes) a b
  pub redone : tells → (r : PairRow) → IsPair means.table.rows r → IsRedoneOrFailed a b r
  pub counts : (d : Device) → IsStore d → b.faults d ≡ a.faults d
  pub volumes : tells → CountsPairs (meant_rows a a.bytes) shift a.faults b.faults
  pub works : Works tells (CopiesSite a shift) a b
  pub labels : tells → KeepsLabels a b
  pub moments : tells → AllFollow (SeesSameRows a) a b
  pub lasts : tells → AtNow (MeansAsRead a) b
  pub ok : OnOk r (failed ≡ [])
  pub front : SaysFront tells (copied_text session means.time.0 means.table.rows failed) b c
  pub later : b.console_faults ≤ c.console_faults
  pub by_one : c.console_faults ≤ b.console_faults + 1

-- how its stop came, and what was said whole
pub record ToldStop (tells : Type 0) (text : List ℕ) (b c : PlantState) (failed : List ℕ) (stop : Stop) : Type 0 where
  pub lines : HasLines stop
  pub volume : stop ≡ VolumeFault → failed ≢ []
  pub console : stop ≡ ConsoleFault → Rose b.console_faults c.console_faults
  pub whole : stop ≢ ConsoleFault → SaysWhole tells text b c

module _ (tells : Type 0) (session : List ℕ) (shift : ℕ) (a b c : PlantState) (means : Means) (copied failed : List ℕ) where
  abbrev text : List ℕ
  text = copied_text session means.time.0 means.table.rows failed

  pairs_copied : (r : Result (Unit {0}) CopyStop) → CopyTold tells session shift a b c means copied failed r → tells → CopiesPairs session shift failed a c
  pairs_copied r k told =
      let o = k.front.only in
      let devices = o.devices told in
      let later = ((o.elapses told).kept Control).later in
      record {
        means = means;
        is_meant = k.is_meant told;
        targets = none_then means.table.rows shift a b c o.faults (k.targets told);
        copied = copied;
        faulty = faulty_pairs_then means.table.rows shift a.faults b.faults c.faults copied failed o.faults k.faulty;
        are_copied = λ p pair is.
            let own = k.are_copied told p pair is in
            let stays = devices (Volume p.device) in (
              copied_stays means shift b c p (devices (Volume (target_of shift p))) later own.0,
              redone_still tells told AsItIs p (walked a a.bytes) a b c stays.bytes (λ z left. stays.images c.clock later (omega arith) z left) own.1,
            );
        copied_before = λ t from to differs p pair is z left. elim (cases_lt t b.clock) [
          | inl early ↦ absurd (differs ((o.elapses told).said t (omega (arith, early)) (omega (arith, early)) ∙ (k.works.silent told).said t from (omega (arith, early))))
          | inr late ↦
              let v = Volume (target_of shift p) in
              let start = (devices v).images t late to z left in
              start.2 ∙ (k.are_copied told p pair is).0.durable start.0 start.1 ∙ sym (devices v).bytes
        ];
        redone = λ p pair. redone_then tells told a b c p (devices (Volume p.device)) later o.faults (k.redone told p pair);
        redone_before = λ t from to differs p pair. elim (cases_lt t b.clock) [
          | inl early ↦ absurd (differs ((o.elapses told).said t (omega (arith, early)) (omega (arith, early)) ∙ (k.works.silent told).said t from (omega (arith, early))))
          | inr late ↦ lasting_then a b c p (devices (Volume p.device)) o.faults (k.redone told p pair) t late to
        ];
      }

  says_copies : (r : Result (Unit {0}) CopyStop) → CopyTold tells session shift a b c means copied failed r → tells → SaysCopies session shift failed a c
  unfolding pairs_copied
  says_copies r k told = record {
    pairs = pairs_copied r k told;
    says = says_after text a b c (k.front.only.elapses told) (k.works.silent told) (k.front.moments told) ((k.works.elapses told).kept Control).later;
  }

  says_whole : (r : Result (Unit {0}) CopyStop) → CopyTold tells session shift a b c means copied failed r → tells → SaysWhole tells text b c → SaysCopiesWhole session shift failed a c
  unfolding says_copies pairs_copied
  says_whole r k told whole = record {
    copies = says_copies r k told;
    whole = whole.whole told ∙ ap (λ (l : List ℕ). l ++ text) ((k.works.silent told).said b.clock ((k.works.elapses told).kept Control).later (omega arith));
  }

  changes : (r : Result (Unit {0}) CopyStop) → CopyTold tells session shift a b c means copied failed r → Changes tells (CopiesSite a shift) a c
  changes r k = changes_then tells (CopiesSite a shift) a b c k.works k.front.only k.later

  pub copy_reported : (v : Unit {0}) → CopyTold tells session shift a b c means copied failed (Ok v) → SaysWhole tells text b c → CopiesSession tells session shift a c (Ok v)
  copy_reported v k whole = record {
    site = (λ bad. absurd cc, λ no. absurd (no k.site));
    short = λ again d first. absurd (k.long d first);
    called_for = λ told. tt;
    causes = tt;
    counts = λ d here no. k.front.only.faults d ∙ k.counts d here;
    complete = λ told again ready none. tt;
    done = λ told. subst (λ (l : List ℕ). SaysCopiesWhole session shift l a c) k.ok (says_whole (Ok v) k told whole);
    failed = λ told is. absurd cc;
    in_part = λ told is. absurd cc;
    silent = tt;
    console_count = λ no. whole.console_count ∙ k.works.console_faults;
    console_once = omega (arith, k.by_one, k.works.console_faults);
    volumes = λ told. counts_then (meant_rows a a.bytes) shift a.faults b.faults c.faults k.front.only.faults (k.volumes told);
    changes = changes (Ok v) k;
    labels = λ told. treats_console AsItIs tells (meant_rows a a.bytes) (walked a a.bytes) a b c told ((k.works.elapses told).kept Control).later (k.labels told) k.front.only;
    progress = λ told. keeps_changes tells told shift a c (changes (Ok v) k);
    moments = λ told. follow_then (SeesSameRows a) tells a b c told ((k.works.elapses told).kept Control).later (k.moments told) k.front.only;
    lasts = λ told. now_then (MeansAsRead a) tells b c told (k.lasts told) k.front.only;
    unwritten = tt;
  }

  module _ (stop : Stop) (s : ToldStop tells text b c failed stop) where
    risen_lines : CopyTold tells session shift a b c means copied failed (Err (Stopped stop)) → HasLines stop → HasRisen a c stop
    risen_lines k (inl is) = subst (λ (t : Stop). HasRisen a c t) (sym is) (subst (λ (n : ℕ). Rose n c.console_faults) k.works.console_faults (s.console is))
    risen_lines k (inr is) = subst (λ (t : Stop). HasRisen a c t) (sym is)
        (has_failure_of_pairs means.table.rows shift a.faults c.faults copied failed (s.volume is) (faulty_pairs_then means.table.rows shift a.faults b.faults c.faults copied failed k.front.only.faults k.faulty))

    called_lines : CopyTold tells session shift a b c means copied failed (Err (Stopped stop)) → HasLines stop → tells → CallsFor a session stop
    called_lines k (inl is) told = subst (λ (t : Stop). CallsFor a session t) (sym is) (k.is_meant told).meant.of
    called_lines k (inr is) told = subst (λ (t : Stop). CallsFor a session t) (sym is) (k.is_meant told).meant.of

    pub copy_told : CopyTold tells session shift a b c means copied failed (Err (Stopped stop)) → CopiesSession tells session shift a c (Err (Stopped stop))
    copy_told k = record {
      site = (λ bad. absurd (lines_of_site stop s.lines (let same = bad in cc)), λ no. absurd (no k.site));
      short = λ again d first. absurd (k.long d first);
      called_for = called_lines k s.lines;
      causes = risen_lines k s.lines;
      counts = λ d here no. k.front.only.faults d ∙ k.counts d here;
      complete = λ told again ready none. ap Stopped (only_memory a c session ready.ready none stop (lines_of_site stop s.lines) (called_lines k s.lines told) (risen_lines k s.lines));
      done = λ told. tt;
      failed = λ told is. let same : stop ≡ VolumeFault = cc in (failed, s.volume same, says_whole (Err (Stopped stop)) k told (s.whole (λ console. cc)));
      in_part = λ told is. (failed, says_copies (Err (Stopped stop)) k told);
      silent = λ quiet. absurd (quiet s.lines);
      console_count = λ no. (s.whole (λ is. no (ap (λ (t : Stop). Err (Stopped t)) is))).console_count ∙ k.works.console_faults;
      console_once = omega (arith, k.by_one, k.works.console_faults);
      volumes = λ told. counts_then (meant_rows a a.bytes) shift a.faults b.faults c.faults k.front.only.faults (k.volumes told);
      changes = changes (Err (Stopped stop)) k;
      labels = λ told. treats_console AsItIs tells (meant_rows a a.bytes) (walked a a.bytes) a b c told ((k.works.elapses told).kept Control).later (k.labels told) k.front.only;
      progress = λ told. keeps_changes tells told shift a c (changes (Err (Stopped stop)) k);
      moments = λ told. follow_then (SeesSameRows a) tells a b c told ((k.works.elapses told).kept Control).later (k.moments told) k.front.only;
      lasts = λ told. last_of_lines tells a c stop s.lines (now_then (MeansAsRead a) tells b c told (k.lasts told) k.front.only);
      unwritten = λ early. absurd (late_lines stop s.lines early);
    }
