-- After an accepted end all stays applied, over calls on the console and over lines.
use Rattle.std.proofs.Common.{◌≡◌, ◌⊎◌, inl, inr, ℕ, zero, suc, ◌+◌, ◌-◌, ◌<◌, ◌≤◌, Bool, true, false, List, [], ◌∷◌, ◌++◌, length, take, get_or, Option, None, Some, refl, sym, ap, subst, ◌∙◌, arith, length-append, slice_get, true≢false}
use Rattle.std.specs.Prelude.{MatchOption}
use Rattle.std.proofs.Math.Seq.{take-append_seam}
use Rattle.std.proofs.lemmas.Bool.{cases_lt}
use Rattle.std.proofs.lemmas.List.{length_push, take-append-le, take_all}
use Rattle.std.proofs.lemmas.Option.{slice_get_cases}
use Rattle.crash_plant.specs.declared.device.Device.TheVariants.{Control}
use Rattle.crash_plant.specs.Calls.{Elapses, SameSite, WorksOnConsole}
use Rattle.crash_plant.specs.Choices.{Choice}
use Rattle.crash_plant.specs.Moments.{PlantState}
use Rattle.crash_plant.proofs.Choices.{past_choice}
use Rattle.pair_table.specs.Tables.{Table}
use Rattle.site_means.specs.Images.{Shape}
use Rattle.site_means.specs.Meaning.{meaning_in}
use Rattle.site_means.proofs.Goes.{shape_same}
use Rattle.site_store.specs.Sites.{SiteState}
use Rattle.consistency.specs.Stages.{ScriptRun, Stage, breaks_of, names_of}
use Rattle.consistency.specs.Steps.{commanded, table_on_the_way}
use Rattle.consistency.specs.Courses.{Answered, IsCourse, StandsAt, replies_of, stage_at}
use Rattle.consistency.specs.Keeping.{Keeps}
use Rattle.consistency.proofs.Lines.{same_some, stage_front, stage_then}
use Rattle.consistency.proofs.Standing.{console_choice}
use Rattle.mover.specs.declared.lane.Lane.{Lane}
use Rattle.xrc_command.specs.declared.line.Line.{Line}
use Rattle.xrc_session.specs.AppliedEnds.{HasEmptyWalk, IsAllApplied, StaysApplied, StaysAppliedAfter}
use Rattle.xrc_session.specs.LinePauses.{HasAnswered, IsAtSite, IsBetween, IsUnstarted}
use Rattle.xrc_session.specs.States.{SessionState}
use Rattle.xrc_session.specs.Trails.{Trail}

-- Plants of one shape walk the same.
empty_same : (old new : PlantState) → SameSite old new → (c : Choice) → HasEmptyWalk old c → HasEmptyWalk new c
empty_same old new site c empty = record {
  means = empty.means;
  walk = empty.walk;
  meant = ap (λ (s : Shape). meaning_in s c) (shape_same old new site) ∙ empty.meant;
  no_group = empty.no_group;
  ends_at_mark = empty.ends_at_mark;
}

-- ---- calls on the console

-- A call on the console changes no device, at any of its moments.
applied_within : (tells : Type 0) → tells → (old new : PlantState) → WorksOnConsole tells old new → IsAllApplied old old.clock → (t : ℕ) → old.clock ≤ t → t ≤ new.clock → IsAllApplied new t
applied_within tells told old new works is t from to c left = empty_same old new works.site c (is c (console_choice tells told old new t c works from to left))

pub applied_still : (tells : Type 0) → tells → (old new : PlantState) → WorksOnConsole tells old new → IsAllApplied old old.clock → IsAllApplied new new.clock
applied_still tells told old new works is = applied_within tells told old new works is new.clock ((works.elapses told).kept Control).later (omega arith)

-- A moment that has passed stays as it was.
applied_then : (old new : PlantState) → SameSite old new → Elapses old new → 0 < old.clock → (t : ℕ) → t ≤ old.clock → IsAllApplied old t → IsAllApplied new t
applied_then old new site past up t within is c left = empty_same old new site c (is c (past_choice old new t c site past up within left))

after_on : (tells : Type 0) → tells → (lines : List Answered) (began old new : PlantState) → WorksOnConsole tells old new → 0 < began.clock → IsAllApplied old old.clock → StaysAppliedAfter lines began old → StaysAppliedAfter lines began new
after_on tells told lines began old new works up is stays t from to more = by_time (cases_lt old.clock t)
  where
    by_time : (old.clock < t) ⊎ (t ≤ old.clock) → IsAllApplied new t
    by_time (inl late) = applied_within tells told old new works is t (omega (arith, late)) to
    by_time (inr early) =
        let some : 0 < old.clock = omega (arith, up, from, early) in
        applied_then old new works.site (works.elapses told) some t early (stays t from early (omega (arith, more, ap (λ (l : List ℕ). length l) ((works.elapses told).said t some early))))

-- All stays applied over a call on the console.
pub stays_on : (tells : Type 0) → tells → (run : ScriptRun) (lines : List Answered) (began old new : PlantState) → WorksOnConsole tells old new → StaysApplied run lines began old → StaysApplied run lines began new
stays_on tells told run lines began old new works stays number below ended =
    let was = stays number below ended in
    (applied_still tells told old new works was.0, λ up. after_on tells told (take number lines) began old new works up was.0 (was.1 up))

-- ---- what was said before

-- The replies before a line and its own are no longer than those of all lines.
replies_up_to : (lines : List Answered) (n : ℕ) (a : Answered) → slice_get lines n ≡ Some a → length (replies_of (take n lines)) + length a.reply ≤ length (replies_of lines)
replies_up_to [] n a at = absurd cc
replies_up_to (b ∷ lines) zero a at = omega (arith, length-append b.reply (replies_of lines), ap (λ (x : Answered). length x.reply) (same_some b a at))
replies_up_to (b ∷ lines) (suc n) a at = omega (arith, replies_up_to lines n a at, length-append b.reply (replies_of (take n lines)), length-append b.reply (replies_of lines))

-- Where nothing is said after the last of the lines, no more was said than their replies.
said_within : (lines : List Answered) (heard said : List ℕ) (at : StandsAt lines heard said) → (at.answered ≡ length lines → at.part ≡ []) → length said ≤ length (replies_of lines)
said_within lines heard said at unsaid = by_line (slice_get_cases lines at.answered).1
  where
    size : length said ≡ length (replies_of (take at.answered lines)) + length at.part
    size = ap (λ (l : List ℕ). length l) at.said_is ∙ length-append (replies_of (take at.answered lines)) at.part

    by_line : ((a : Answered) × (at.answered < length lines) × (slice_get lines at.answered ≡ Some a) × (get_or lines at.answered a ≡ a)) ⊎ ((length lines ≤ at.answered) × (slice_get lines at.answered ≡ None)) → length said ≤ length (replies_of lines)
    by_line (inl (a, below, is, same)) = omega (arith, size, at.not_whole a is, replies_up_to lines at.answered a is)
    by_line (inr (all, none)) =
        let last : at.answered ≡ length lines = omega (arith, all, at.within) in
        omega (arith, size, ap (λ (l : List ℕ). length l) (unsaid last), ap (λ (l : List Answered). length (replies_of l)) (take_all at.answered lines all))

-- So at no moment before a reply had more been said than just before it.
pub said_before : (run : ScriptRun) (lines : List Answered) (text : List ℕ) (began now : PlantState) → Keeps run lines text began now → (t : ℕ) → began.clock ≤ t → t ≤ now.clock → length (now.said t) ≤ length (began.said began.clock ++ replies_of lines)
said_before run lines text began now keeps t from to =
    let moment = keeps.each t from to in
    omega (
      arith,
      said_within lines moment.heard moment.said moment.at (keeps.unsaid t from to),
      ap (λ (l : List ℕ). length l) moment.said_is ∙ length-append (began.said began.clock) moment.said,
      length-append (began.said began.clock) (replies_of lines),
    )

-- No more had been said at each moment before a call on the console, at which all is applied: so it is applied from the next reply on.
pub applies_before : (tells : Type 0) → tells → (lines : List Answered) (began old now : PlantState) → WorksOnConsole tells old now → began.clock ≤ old.clock → ((t : ℕ) → began.clock ≤ t → t ≤ old.clock → length (old.said t) ≤ length (began.said began.clock ++ replies_of lines))
    → IsAllApplied old old.clock → 0 < began.clock → StaysAppliedAfter lines began now
applies_before tells told lines began old now works later unsaid is up t from to more = by_time (cases_lt old.clock t)
  where
    by_time : (old.clock < t) ⊎ (t ≤ old.clock) → IsAllApplied now t
    by_time (inl late) = applied_within tells told old now works is t (omega (arith, late)) to
    by_time (inr early) = absurd (omega (arith, more, unsaid t from early, ap (λ (l : List ℕ). length l) ((works.elapses told).said t (omega (arith, up, later)) early)))

-- ---- a line's work

-- A session that has ended by a table has ended.
ended_by_table : {S : Type 0} (tells : Type 0) (s : SessionState) (lanes : List (Lane S)) (plant : PlantState) → IsBetween tells s lanes plant → s.table.is_ended ≡ true → s.is_ended ≡ true
ended_by_table {S} tells s lanes plant between ended = by_site s.site between.place
  where
    by_site : (o : Option SiteState) → MatchOption o (IsUnstarted s lanes) (IsAtSite tells s lanes plant) → s.is_ended ≡ true
    by_site None none = absurd (true≢false (sym ended ∙ ap (λ (t : Table). t.is_ended) none.table))
    by_site (Some site) at = at.ended ∙ ap (λ (t : Table). t.is_ended) (sym at.table) ∙ ended

-- An ended table stays ended.
ended_then : (run : ScriptRun) (table : Table) (line : Line) → table.is_ended ≡ true → (commanded (breaks_of run) (names_of run) table line).is_ended ≡ true
ended_then run table line ended = subst (λ (e : Bool). (commanded (breaks_of run) (names_of run) (record table { is_ended = e }) line).is_ended ≡ true) (sym ended) refl

-- So does that of the next line.
ended_next : (run : ScriptRun) (lines : List Answered) → IsCourse run lines → (number : ℕ) → number < length lines → (stage_at run lines number).table.is_ended ≡ true → (stage_at run lines (suc number)).table.is_ended ≡ true
ended_next run lines course number within ended = by_line (slice_get_cases lines number).1
  where
    by_line : ((a : Answered) × (number < length lines) × (slice_get lines number ≡ Some a) × (get_or lines number a ≡ a)) ⊎ ((length lines ≤ number) × (slice_get lines number ≡ None)) → (stage_at run lines (suc number)).table.is_ended ≡ true
    by_line (inr (all, none)) = absurd (omega (arith, all, within))
    by_line (inl (a, below, is, same)) =
        ap (λ (s : Stage). s.table.is_ended) (stage_then run lines number a is) ∙ ap (λ (t : Table). t.is_ended) (course number a is).step.made
        ∙ ended_then run (table_on_the_way run.level a.changes (stage_at run lines number).table) a.line ended

-- And of each line after it.
ended_after : (run : ScriptRun) (lines : List Answered) → IsCourse run lines → (more number : ℕ) → number + more ≤ length lines → (stage_at run lines number).table.is_ended ≡ true → (stage_at run lines (number + more)).table.is_ended ≡ true
ended_after run lines course zero number within ended = ap (λ (n : ℕ). (stage_at run lines n).table.is_ended) (omega arith) ∙ ended
ended_after run lines course (suc more) number within ended =
    ap (λ (n : ℕ). (stage_at run lines n).table.is_ended) (omega arith) ∙ ended_after run lines course more (suc number) (omega (arith, within)) (ended_next run lines course number (omega (arith, within)) ended)

ended_at_last : (run : ScriptRun) (lines : List Answered) → IsCourse run lines → (number : ℕ) → number < length lines → (stage_at run lines (suc number)).table.is_ended ≡ true → (stage_at run lines (length lines)).table.is_ended ≡ true
ended_at_last run lines course number below ended =
    let more = length lines - suc number in
    let all : suc number + more ≡ length lines = omega (arith, below) in
    ap (λ (n : ℕ). (stage_at run lines n).table.is_ended) (sym all) ∙ ended_after run lines course more (suc number) (omega (arith, all)) ended

-- A session that has ended after the lines that it has answered has ended.
pub ended_answered : {S : Type 0} (tells : Type 0) (run : ScriptRun) (lines : List Answered) (trail : Trail) (text : List ℕ) (s : SessionState) (lanes : List (Lane S)) (began old : PlantState) → IsBetween tells s lanes old → HasAnswered run lines trail text s lanes began old
    → (stage_at run lines (length lines)).table.is_ended ≡ true → s.is_ended ≡ true
ended_answered {S} tells run lines trail text s lanes began old between answered ended = ended_by_table tells s lanes old between (ap (λ (t : Table). t.is_ended) (sym answered.stands.table) ∙ ended)

-- Work that leaves the plant as it was where the session has ended: all stays applied over it.
pub stays_worked : {S : Type 0} (tells : Type 0) (run : ScriptRun) (lines : List Answered) (trail : Trail) (text : List ℕ) (s : SessionState) (lanes : List (Lane S)) (began old new : PlantState) → IsBetween tells s lanes old → (s.is_ended ≡ true → new ≡ old) → HasAnswered run lines trail text s lanes began old
    → StaysApplied run lines began new
stays_worked {S} tells run lines trail text s lanes began old new between untouched answered number below ended =
    let same = untouched (ended_answered tells run lines trail text s lanes began old between answered (ended_at_last run lines answered.goes.now.course number below ended)) in
    subst (λ (p : PlantState). IsAllApplied p p.clock × (0 < began.clock → StaysAppliedAfter (take number lines) began p)) (sym same) (answered.applied number below ended)

-- ---- one line more

module _ (run : ScriptRun) (lines : List Answered) (a : Answered) (began now : PlantState) where
  ended_before : (number : ℕ) → number < length lines → (stage_at run (lines ++ a ∷ []) (suc number)).table.is_ended ≡ (stage_at run lines (suc number)).table.is_ended
  ended_before number below = ap (λ (s : Stage). s.table.is_ended) (stage_front run lines (a ∷ []) (suc number) (omega (arith, below)))

  is_last : (number : ℕ) → length lines ≤ number → number < length (lines ++ a ∷ []) → suc number ≡ length (lines ++ a ∷ [])
  is_last number high below = omega (arith, high, below, length_push lines a)

  ended_last : (number : ℕ) → suc number ≡ length (lines ++ a ∷ []) → (stage_at run (lines ++ a ∷ []) (suc number)).table.is_ended ≡ (stage_at run (lines ++ a ∷ []) (length (lines ++ a ∷ []))).table.is_ended
  ended_last number is = ap (λ (n : ℕ). (stage_at run (lines ++ a ∷ []) n).table.is_ended) is

  -- The lines before the last one are these.
  after_last : (number : ℕ) → suc number ≡ length (lines ++ a ∷ []) → StaysAppliedAfter lines began now → StaysAppliedAfter (take number (lines ++ a ∷ [])) began now
  after_last number is stays =
      let here : number ≡ length lines = omega (arith, is, length_push lines a) in
      subst (λ (l : List Answered). StaysAppliedAfter l began now) (sym (ap (λ (n : ℕ). take n (lines ++ a ∷ [])) here ∙ take-append_seam lines (a ∷ []))) stays

  -- After one line more, of whose reply all or a part was said.
  pub stays_more : ((stage_at run (lines ++ a ∷ []) (length (lines ++ a ∷ []))).table.is_ended ≡ true → IsAllApplied now now.clock)
      → (0 < began.clock → (stage_at run (lines ++ a ∷ []) (length (lines ++ a ∷ []))).table.is_ended ≡ true → StaysAppliedAfter lines began now) → StaysApplied run lines began now → StaysApplied run (lines ++ a ∷ []) began now
  stays_more applied after stays number below ended = by_side (cases_lt number (length lines))
    where
      by_side : (number < length lines) ⊎ (length lines ≤ number) → IsAllApplied now now.clock × (0 < began.clock → StaysAppliedAfter (take number (lines ++ a ∷ [])) began now)
      by_side (inl less) =
          let was = stays number less (sym (ended_before number less) ∙ ended) in
          (was.0, λ up. subst (λ (l : List Answered). StaysAppliedAfter l began now) (sym (take-append-le number lines (a ∷ []) (omega (arith, less)))) (was.1 up))
      by_side (inr high) =
          let last = is_last number high below in
          let ended_here = sym (ended_last number last) ∙ ended in
          (applied ended_here, λ up. after_last number last (after up ended_here))
