-- What lasts of a run while a last line is said after it.
use Rattle.xrc_session.proofs.Growing.{says_grows}
use Rattle.mover.specs.Working.{ShowsLast}
use Rattle.consistency.specs.Moments.{BearsTime}
use Rattle.std.proofs.Common.{◌≡◌, ◌⊎◌, inl, inr, ℕ, zero, suc, ◌+◌, ◌<◌, ◌≤◌, List, [], ◌∷◌, ◌++◌, take, Option, Some, None, refl, sym, ap, subst, ◌∙◌, append_assoc, append-nil, arith}
use Rattle.std.specs.Prelude.{◌-◌, codes, IsSomeAnd}
use Rattle.std.proofs.lemmas.Bool.{cases_lt}
use Rattle.xrc_edge.specs.Causes.{Rose}
use Rattle.crash_plant.specs.declared.device.Device.{Device}
use Rattle.crash_plant.specs.declared.device.Device.TheVariants.{Control, Journal, State, Volume}
use Rattle.crash_plant.specs.Calls.{Elapses, SameSite, WorksOnConsole}
use Rattle.crash_plant.specs.Choices.{AtMoment, AtNow, Choice, IsChoice}
use Rattle.crash_plant.specs.Moments.{PlantState}
use Rattle.crash_plant.proofs.Choices.{past_choice}
use Rattle.pair_table.specs.declared.level.Level.{Level}
use Rattle.pair_table.specs.declared.names.NamedDevice.{NamedDevice}
use Rattle.pair_table.specs.declared.row.PairRow.{PairRow}
use Rattle.site_means.specs.Images.{Shape, shape_of}
use Rattle.site_means.specs.Meaning.{chosen_in, meaning_in}
use Rattle.site_means.proofs.Goes.{shape_same}
use Rattle.xrc_command.specs.declared.line.Line.{Line}
use Rattle.passages.specs.Points.{GoesThrough, Throughout, last_point}
use Rattle.passages.proofs.InARow.{moments_rise}
use Rattle.consistency.specs.Bearing.{ShowsPoint}
use Rattle.consistency.specs.Stages.{ScriptRun, Stage}
use Rattle.consistency.specs.Courses.{Answered, texts_of}
use Rattle.consistency.specs.Leads.{Point}
use Rattle.consistency.specs.Ways.{PassedPoint, Way}
use Rattle.consistency.proofs.Standing.{console_choice, bears_on}
use Rattle.xrc_status.specs.declared.stop.Stop.{Stop}
use Rattle.xrc_status.specs.declared.stop.Stop.TheVariants.{BadHeader, BadLine, BadSite, BadWords, ConsoleFault, ControlFault, Damaged, HeaderFault, JournalFault, NoMemory, NoSession, OtherSession, Spent, StateFault, TooSmall, VolumeFault}
use Rattle.xrc_status.specs.Saying.{SaysLast}
use Rattle.xrc_status.specs.Stops.{last_line}
use Rattle.xrc_session.specs.Frames.{ChangesRows, KeepsPlant}
use Rattle.xrc_session.specs.Runs.{AreLabels, GivesLabel, IsRunOfScript}
use Rattle.xrc_session.specs.Runs.AreLabels.{Given, Last}
use Rattle.xrc_session.specs.Lanes.{SourceBytes}
use Rattle.xrc_session.specs.Starting.{AreOwnSpent, BeginsRun, FormatsFirst, HasRepliedToStart, HearsStart, IsSafeNow, IsUnsaid, LeavesVolumes, MeansStart, ShutsOrStarts, StartsAfter, level_started, reply_to_start}
use Rattle.xrc_session.specs.Starting.BeginsRun.{Starting, Unstarted}
use Rattle.xrc_session.specs.Stops.{HasRunCause, HasStopCause, IsSpentNow}
use Rattle.xrc_session.specs.Trails.{GoesForth, Trail, first_leg, StandsOnTrail}
use Rattle.xrc_session.proofs.InTurn.{keeps_console, keeps_then}
use Rattle.xrc_session.proofs.RowFrames.{changes_rows_none, changes_rows_then}
use Rattle.xrc_session.proofs.WrittenLines.{written_still}
use Rattle.xrc_session.proofs.SafeStarts.{leaves_console, leaves_then, now_then, replied_later}
use Rattle.xrc_session.proofs.Started.{formats_on}

-- ---- counts

module _ (old mid new : PlantState) (faults : (d : Device) → new.faults d ≡ mid.faults d) where
  device_still : (d : Device) → Rose (old.faults d) (mid.faults d) → Rose (old.faults d) (new.faults d)
  device_still d rose = subst (λ (n : ℕ). Rose (old.faults d) n) (sym (faults d)) rose

  stop_still : (stop : Stop) → (stop ≡ ConsoleFault → new.console_faults ≡ mid.console_faults) → HasStopCause old mid stop → HasStopCause old new stop
  stop_still ConsoleFault same cause = subst (λ (n : ℕ). Rose old.console_faults n) (sym (same refl)) cause
  stop_still (JournalFault j) same cause = device_still (Journal j) cause
  stop_still ControlFault same cause = device_still Control cause
  stop_still StateFault same cause = device_still State cause
  stop_still Spent same cause = tt
  stop_still NoMemory same cause = tt
  stop_still BadWords same cause = absurd cause
  stop_still (BadLine n) same cause = absurd cause
  stop_still (BadHeader trace place) same cause = absurd cause
  stop_still (HeaderFault trace) same cause = absurd cause
  stop_still NoSession same cause = absurd cause
  stop_still (OtherSession name) same cause = absurd cause
  stop_still (Damaged d place) same cause = absurd cause
  stop_still VolumeFault same cause = absurd cause
  stop_still (TooSmall d needed) same cause = absurd cause
  stop_still BadSite same cause = absurd cause

  -- A stop has its cause still; of a failed console no line is said.
  pub cause_still : (stop : Stop) → (stop ≡ ConsoleFault → new.console_faults ≡ mid.console_faults) → HasRunCause old mid stop → HasRunCause old new stop
  cause_still stop same (inl cause) = inl (stop_still stop same cause)
  cause_still stop same (inr line) = inr line

  gives_still : (d : ℕ) (labels : List NamedDevice) → GivesLabel old mid d labels → GivesLabel old new d labels
  gives_still d labels (inl is) = inl is
  gives_still d labels (inr none) = inr (none.0, device_still (Volume d) none.1)

  labels_from : (d : ℕ) (labels : List NamedDevice) → AreLabels old mid d labels → AreLabels old new d labels
  labels_from _ _ (Last d none) = Last d none
  labels_from _ _ (Given d these more there gives others) = Given d these more there (gives_still d these gives) (labels_from (d + 1) more others)

  -- The run is still that of the script.
  pub script_still : (session : List ℕ) (sources : List SourceBytes) (run : ScriptRun) → IsRunOfScript session sources old mid run → IsRunOfScript session sources old new run
  script_still session sources run over = record { name = over.name; traces = over.traces; labels = labels_from 0 run.labels over.labels; rises = λ d. over.rises d ∙ sym (faults (Volume d)) }

-- ---- choices

module _ (tells : Type 0) (told : tells) (old new : PlantState) (works : WorksOnConsole tells old new) where
  past : Elapses old new
  past = works.elapses told

  later : old.clock ≤ new.clock
  later = (past.kept Control).later

  same_shape : shape_of new ≡ shape_of old
  same_shape = shape_same old new works.site

  -- What every choice is now, each is still.
  pub now_still : (so : Choice → Type 0) → AtNow so old → AtNow so new
  now_still so was c is = was c (console_choice tells told old new new.clock c works later (omega arith) is)

  -- Numbers that are spent are so still.
  spent_still : IsSpentNow old → IsSpentNow new
  spent_still spent c is =
      let was = spent c (console_choice tells told old new new.clock c works later (omega arith) is) in
      record {
        mark = was.mark;
        chosen = ap (λ (shape : Shape). chosen_in shape c) same_shape ∙ was.chosen;
        means = was.means;
        walk = was.walk;
        meant = ap (λ (shape : Shape). meaning_in shape c) same_shape ∙ was.meant;
        spent = was.spent;
      }

  pub own_spent_still : (run : ScriptRun) (s : Stage) (began : PlantState) → AreOwnSpent run s began old → AreOwnSpent run s began new
  own_spent_still run s began own = record { spent = spent_still own.spent; own = elim own.own [ inl is ↦ inl is | inr starts ↦ inr (by_next s.next starts) ] }
    where
      by_level : (line : Line) (o : Option Level) → IsSomeAnd o (λ level. AtNow (MeansStart run.session level line.time.0 began) old) → IsSomeAnd o (λ level. AtNow (MeansStart run.session level line.time.0 began) new)
      by_level line None none = absurd none
      by_level line (Some level) means = now_still (MeansStart run.session level line.time.0 began) means

      by_next : (o : Option Line) → IsSomeAnd o (λ line. IsSomeAnd (level_started run.session line) (λ level. AtNow (MeansStart run.session level line.time.0 began) old))
          → IsSomeAnd o (λ line. IsSomeAnd (level_started run.session line) (λ level. AtNow (MeansStart run.session level line.time.0 began) new))
      by_next None none = absurd none
      by_next (Some line) starts = by_level line (level_started run.session line) starts

  -- Where each choice bore a time, it does still.
  pub bears_still : (run : ScriptRun) (s : Stage) (said : List ℕ) → AtNow (BearsTime run s said old) old → AtNow (BearsTime run s said new) new
  bears_still run s said was c is = bears_on run s said old new c works.site (now_still (BearsTime run s said old) was c is)

  -- A session stands on its trail still.
  pub along_still : (run : ScriptRun) (lines : List Answered) (heard : Option Line) (trail : Trail) (next : Option Point) → StandsOnTrail run lines heard trail next old → StandsOnTrail run lines heard trail next new
  along_still run lines heard trail next stands = record {
    rowless = stands.rowless;
    linked = stands.linked;
    on_its_way = stands.on_its_way;
    shows = now_still (ShowsLast run new last next) (shown next stands.shows);
  }
    where
      last : Point
      last = last_point (first_leg run lines trail).point trail.points

      shown : (o : Option Point) → AtNow (ShowsLast run old last o) old → AtNow (ShowsLast run new last o) old
      shown None was c is = subst (λ (shape : Shape). ShowsPoint run shape last c) (sym same_shape) (was c is)
      shown (Some q) was c is = subst (λ (shape : Shape). ShowsPoint run shape last c ⊎ ShowsPoint run shape q c) (sym same_shape) (was c is)

  -- No slot is written.
  pub rows_still : (rows : List PairRow) (began : PlantState) → SameSite began old → began.clock ≤ old.clock → ChangesRows rows began old → ChangesRows rows began new
  rows_still rows began site first changes =
      changes_rows_then rows [] rows began old new site first past (λ r has. has) (λ r has. absurd (omega (arith, has.1))) changes (changes_rows_none [] old new (λ d there. works.devices told (Volume d)))

  module _ (up : 0 < old.clock) where
    -- What each choice was from a moment on, each is to the end.
    throughout_still : (so : Choice → Type 0) (from : ℕ) → from ≤ old.clock → Throughout (IsChoice old) from old.clock so → Throughout (IsChoice new) from new.clock so
    throughout_still so from start was t since within c is = elim (cases_lt t old.clock) [
      | inl early ↦ was t since (omega (arith, early)) c (past_choice old new t c works.site past up (omega (arith, early)) is)
      | inr late ↦ was old.clock start (omega arith) c (console_choice tells told old new t c works late within is)
    ]

    throughout_past : (so : Choice → Type 0) (from to : ℕ) → to ≤ old.clock → Throughout (IsChoice old) from to so → Throughout (IsChoice new) from to so
    throughout_past so from to before was t since within c is = was t since within c (past_choice old new t c works.site past up (omega (arith, within, before)) is)

    through_still : (shows : Point → Choice → Type 0) (from : ℕ) (p : Point) (points : List PassedPoint) (next : Option Point) → GoesThrough (IsChoice old) shows from p points old.clock next → GoesThrough (IsChoice new) shows from p points new.clock next
    through_still shows from p [] None goes = (omega (arith, goes.0, later), throughout_still (shows p) from goes.0 goes.1)
    through_still shows from p [] (Some q) goes = (omega (arith, goes.0, later), throughout_still (λ c. shows p c ⊎ shows q c) from goes.0 goes.1)
    through_still shows from p (n ∷ more) next goes =
        let there = moments_rise Point Way Choice (IsChoice old) shows n.moment old.clock n.point more next goes.3 in
        (goes.0, throughout_past (λ c. shows p c ⊎ shows n.point c) from n.moment there goes.1, throughout_past (shows n.point) n.moment n.moment there goes.2, through_still shows n.moment n.point more next goes.3)

    -- The devices go on as they went.
    pub forth_still : (run : ScriptRun) (lines : List Answered) (heard : Option Line) (trail : Trail) (next : Option Point) (began : PlantState) → GoesForth run lines heard trail next began old → GoesForth run lines heard trail next began new
    forth_still run lines heard trail next began forth =
        let first = (first_leg run lines trail).point in
        let before = moments_rise Point Way Choice (IsChoice old) (ShowsPoint run (shape_of old)) forth.from old.clock first trail.points next forth.goes in
        record {
          from = forth.from;
          since = forth.since;
          unsaid = past.said forth.from up before ∙ forth.unsaid;
          rowless = forth.rowless;
          begins = λ c is. subst (λ (shape : Shape). ShowsPoint run shape first c) (sym same_shape) (forth.begins c (past_choice old new forth.from c works.site past up before is));
          goes = subst (λ (shape : Shape). GoesThrough (IsChoice new) (ShowsPoint run shape) forth.from first trail.points new.clock next) (sym same_shape) (through_still (ShowsPoint run (shape_of old)) forth.from first trail.points next forth.goes);
          linked = forth.linked;
          on_its_way = forth.on_its_way;
          written =
              written_still old new works.site past up lines heard (trail.started - 1) trail.points first forth.from began forth.written
              (λ rows. changes_rows_none rows old new (λ d there. works.devices told (Volume d)));
        }

-- ---- the start

-- What is said of a last line begins as the line of a status does, if it is anything.
abbrev pub BeginsAsStatus : List ℕ → Type 0
BeginsAsStatus said = (said ≡ []) ⊎ ((rest : List ℕ) × (said ≡ codes "S" ++ rest))

front_of_line : (k : ℕ) (text : List ℕ) → BeginsAsStatus (take k (codes "S" ++ text))
front_of_line zero text = inl refl
front_of_line (suc k) text = inr (take k text, refl)

front_of_none : (k : ℕ) → BeginsAsStatus (take k [])
front_of_none zero = inl refl
front_of_none (suc k) = inl refl

pub front_of_stop : (stop : Stop) (k : ℕ) → BeginsAsStatus (take k (last_line stop))
front_of_stop ConsoleFault k = front_of_none k
front_of_stop NoMemory k = front_of_line k _
front_of_stop BadWords k = front_of_line k _
front_of_stop (BadLine n) k = front_of_line k _
front_of_stop (JournalFault j) k = front_of_line k _
front_of_stop ControlFault k = front_of_line k _
front_of_stop StateFault k = front_of_line k _
front_of_stop (BadHeader trace place) k = front_of_line k _
front_of_stop (HeaderFault trace) k = front_of_line k _
front_of_stop NoSession k = front_of_line k _
front_of_stop (OtherSession name) k = front_of_line k _
front_of_stop (Damaged d place) k = front_of_line k _
front_of_stop VolumeFault k = front_of_line k _
front_of_stop (TooSmall d needed) k = front_of_line k _
front_of_stop BadSite k = front_of_line k _
front_of_stop Spent k = front_of_line k _

-- Nothing of a reply is said by it.
unsaid_still : (before said more : List ℕ) → IsUnsaid before said → BeginsAsStatus more → IsUnsaid before (said ++ more)
unsaid_still before said more (inl none) (inl nothing) = inl (ap (λ (l : List ℕ). said ++ l) nothing ∙ append-nil said ∙ none)
unsaid_still before said more (inl none) (inr (rest, is)) = inr (rest, ap (λ (l : List ℕ). l ++ more) none ∙ ap (λ (l : List ℕ). before ++ l) is)
unsaid_still before said more (inr (rest, is)) begins = inr (rest ++ more, ap (λ (l : List ℕ). l ++ more) is ∙ append_assoc before (codes "S" ++ rest) more ∙ ap (λ (l : List ℕ). before ++ l) (append_assoc (codes "S") rest more))

module _ (tells : Type 0) (told : tells) (stop : Stop) (session : List ℕ) (old mid new : PlantState) (keeps : KeepsPlant tells old mid) (last : SaysLast tells (last_line stop) mid new) where
  works : WorksOnConsole tells mid new
  works = last.front.only

  gone : Elapses mid new
  gone = works.elapses told

  on_to : mid.clock ≤ new.clock
  on_to = (gone.kept Control).later

  since : old.clock ≤ mid.clock
  since = ((keeps.elapses told).kept Control).later

  hears_still : (level : Level) (at : ℕ) → HearsStart session level at old mid → HearsStart session level at old new
  hears_still level at hears = record { lines = hears.lines; text = hears.text; later = hears.later; start = hears.start; heard = (last.front.moments told).heard new.clock on_to (omega arith) ∙ hears.heard }

  module _ (level : Level) (at : ℕ) (up : 0 < old.clock) (b : StartsAfter session level at old mid) where
    now : 0 < mid.clock
    now = omega (arith, up, since)

    heard_within : b.heard_at ≤ mid.clock
    heard_within = omega (arith, b.later, b.within)

    heard_alike : new.heard b.heard_at ≡ old.heard old.clock ++ (texts_of b.lines ++ b.text)
    heard_alike = gone.heard b.heard_at now heard_within ∙ b.heard

    said_before : new.said b.heard_at ≡ mid.said b.heard_at
    said_before = gone.said b.heard_at now heard_within

    untouched : (t : ℕ) → old.clock ≤ t → t ≤ b.heard_at → (c : Choice) → IsChoice new t c → IsChoice old old.clock c
    untouched t from to c is = b.untouched t from to c (past_choice mid new t c works.site gone now (omega (arith, to, heard_within)) is)

    safe_before : (t : ℕ) → old.clock ≤ t → t ≤ b.replied_at → (c : Choice) → IsChoice new t c → (x : Choice) × IsChoice old old.clock x × ShutsOrStarts session level at old x c
    safe_before t from to c is = b.safe t from to c (past_choice mid new t c works.site gone now (omega (arith, to, b.within)) is)

    volumes_before : LeavesVolumes b.replied_at old new
    volumes_before t from to c is = b.volumes t from to c (past_choice mid new t c works.site gone now (omega (arith, to, b.within)) is)

    said_now : new.said new.clock ≡ mid.said mid.clock ++ take ((last.front.moments told).front new.clock on_to (omega arith)).0 (last_line stop)
    said_now = ((last.front.moments told).front new.clock on_to (omega arith)).2

    -- The reply was said whole by then.
    replied_before : mid.said b.replied_at ≡ mid.said b.heard_at ++ reply_to_start level at → StartsAfter session level at old new
    replied_before whole = record {
      lines = b.lines;
      text = b.text;
      start = b.start;
      heard_at = b.heard_at;
      since = b.since;
      heard = heard_alike;
      untouched = untouched;
      replied_at = b.replied_at;
      later = b.later;
      within = omega (arith, b.within, on_to);
      reached = inl (gone.said b.replied_at now b.within ∙ whole ∙ ap (λ (l : List ℕ). l ++ reply_to_start level at) (sym said_before));
      safe = safe_before;
      volumes = volumes_before;
      means = by_means b.means;
      formats = by_formats b.formats;
    }
      where
        by_means : IsUnsaid (mid.said b.heard_at) (mid.said b.replied_at) ⊎ AtMoment (MeansStart session level at old) mid b.replied_at → IsUnsaid (new.said b.heard_at) (new.said b.replied_at) ⊎ AtMoment (MeansStart session level at old) new b.replied_at
        by_means (inl unsaid) =
            inl (subst (λ (l : List ℕ). IsUnsaid l (new.said b.replied_at)) (sym said_before) (subst (λ (l : List ℕ). IsUnsaid (mid.said b.heard_at) l) (sym (gone.said b.replied_at now b.within)) unsaid))
        by_means (inr mean) = inr (λ c is. mean c (past_choice mid new b.replied_at c works.site gone now b.within is))

        by_formats : IsUnsaid (mid.said b.heard_at) (mid.said b.replied_at) ⊎ FormatsFirst session level at old mid b.replied_at → IsUnsaid (new.said b.heard_at) (new.said b.replied_at) ⊎ FormatsFirst session level at old new b.replied_at
        by_formats (inl unsaid) =
            inl (subst (λ (l : List ℕ). IsUnsaid l (new.said b.replied_at)) (sym said_before) (subst (λ (l : List ℕ). IsUnsaid (mid.said b.heard_at) l) (sym (gone.said b.replied_at now b.within)) unsaid))
        by_formats (inr first) = inr (formats_on session level at old mid new b.replied_at b.replied_at works.site gone now b.within (omega arith) first)

    -- It wasn't, and it is safe to the end.
    unreplied : b.replied_at ≡ mid.clock → StartsAfter session level at old new
    unreplied end = record {
      lines = b.lines;
      text = b.text;
      start = b.start;
      heard_at = b.heard_at;
      since = b.since;
      heard = heard_alike;
      untouched = untouched;
      replied_at = new.clock;
      later = omega (arith, heard_within, on_to);
      within = omega arith;
      reached = inr refl;
      safe = safe;
      volumes = volumes;
      means = by_means b.means;
      formats = by_formats b.formats;
    }
      where
        safe : (t : ℕ) → old.clock ≤ t → t ≤ new.clock → (c : Choice) → IsChoice new t c → (x : Choice) × IsChoice old old.clock x × ShutsOrStarts session level at old x c
        safe t from to c is = elim (cases_lt t mid.clock) [
          | inl early ↦ safe_before t from (omega (arith, early, end)) c is
          | inr late ↦ b.safe mid.clock since (omega (arith, end)) c (console_choice tells told mid new t c works late to is)
        ]

        volumes : LeavesVolumes new.clock old new
        volumes t from to c is = elim (cases_lt t mid.clock) [
          | inl early ↦ volumes_before t from (omega (arith, early, end)) c is
          | inr late ↦ b.volumes mid.clock since (omega (arith, end)) c (console_choice tells told mid new t c works late to is)
        ]

        by_means : IsUnsaid (mid.said b.heard_at) (mid.said b.replied_at) ⊎ AtMoment (MeansStart session level at old) mid b.replied_at → IsUnsaid (new.said b.heard_at) (new.said new.clock) ⊎ AtMoment (MeansStart session level at old) new new.clock
        by_means (inl unsaid) =
            let here = subst (λ (t : ℕ). IsUnsaid (mid.said b.heard_at) (mid.said t)) end unsaid in
            let more = take ((last.front.moments told).front new.clock on_to (omega arith)).0 (last_line stop) in
            let still = unsaid_still (mid.said b.heard_at) (mid.said mid.clock) more here (front_of_stop stop ((last.front.moments told).front new.clock on_to (omega arith)).0) in
            inl (subst (λ (l : List ℕ). IsUnsaid l (new.said new.clock)) (sym said_before) (subst (λ (l : List ℕ). IsUnsaid (mid.said b.heard_at) l) (sym said_now) still))
        by_means (inr mean) = inr (λ c is. subst (λ (t : ℕ). AtMoment (MeansStart session level at old) mid t) end mean c (console_choice tells told mid new new.clock c works on_to (omega arith) is))

        by_formats : IsUnsaid (mid.said b.heard_at) (mid.said b.replied_at) ⊎ FormatsFirst session level at old mid b.replied_at → IsUnsaid (new.said b.heard_at) (new.said new.clock) ⊎ FormatsFirst session level at old new new.clock
        by_formats (inl unsaid) =
            let here = subst (λ (t : ℕ). IsUnsaid (mid.said b.heard_at) (mid.said t)) end unsaid in
            let more = take ((last.front.moments told).front new.clock on_to (omega arith)).0 (last_line stop) in
            let still = unsaid_still (mid.said b.heard_at) (mid.said mid.clock) more here (front_of_stop stop ((last.front.moments told).front new.clock on_to (omega arith)).0) in
            inl (subst (λ (l : List ℕ). IsUnsaid l (new.said new.clock)) (sym said_before) (subst (λ (l : List ℕ). IsUnsaid (mid.said b.heard_at) l) (sym said_now) still))
        by_formats (inr first) = inr (formats_on session level at old mid new b.replied_at new.clock works.site gone now b.within (omega (arith, b.within, on_to)) first)

    pub after_still : StartsAfter session level at old new
    after_still = elim b.reached [ inl whole ↦ replied_before whole | inr end ↦ unreplied end ]

  ends_still : (level : Level) (at : ℕ) → HasRepliedToStart level at old mid ⊎ IsSafeNow session level at old mid → HasRepliedToStart level at old new ⊎ IsSafeNow session level at old new
  ends_still level at (inl replied) = inl (replied_later level at old mid new (says_grows (last_line stop) mid new on_to (last.front.moments told)) replied)
  ends_still level at (inr safe) = inr (now_then session level at old mid new on_to works.site (leaves_console tells mid new told works) safe)

  -- What a run has begun it has begun still.
  pub begins_still : BeginsRun session old mid → BeginsRun session old new
  begins_still (Unstarted leaves) = Unstarted (leaves_then old mid new since leaves gone (leaves_console tells mid new told works))
  begins_still (Starting level at hears ends after) = Starting level at (hears_still level at hears) (ends_still level at ends) (λ up durable. after_still level at up (after up durable))

-- Numbers, lengths and the past are kept.
pub keeps_still : (tells : Type 0) (stop : Stop) (session : List ℕ) (old mid new : PlantState) → KeepsPlant tells old mid → SaysLast tells (last_line stop) mid new → KeepsPlant tells old new
keeps_still tells stop session old mid new keeps last = keeps_then tells old mid new keeps (keeps_console tells mid new last.front.only (λ told. says_grows (last_line stop) mid new ((last.front.only.elapses told).kept Control).later (last.front.moments told)) keeps.home)
