-- Moments of a run: one that stays when calls go on, and one that stands after answered lines.
use Rattle.std.proofs.Common.{◌≡◌, inl, inr, ℕ, ◌<◌, ◌≤◌, false, List, [], ◌∷◌, ◌++◌, length, take, Some, sym, ap, subst, ◌∙◌, arith, slice_get}
use Rattle.std.specs.Prelude.{◌==◌, fold, IsTrue}
use Rattle.std.proofs.lemmas.List.{length_push, take-append-le, take_all}
use Rattle.crash_plant.specs.Calls.{Elapses, SameSite, WorksOnConsole}
use Rattle.crash_plant.specs.Choices.{Choice, IsChoice}
use Rattle.crash_plant.specs.Moments.{PlantState}
use Rattle.crash_plant.proofs.Choices.{part_still, past_choice}
use Rattle.site_means.specs.declared.means.Means.{Means}
use Rattle.site_means.specs.Images.{Shape}
use Rattle.site_means.specs.Sight.{means_in, means_of}
use Rattle.site_means.proofs.Goes.{shape_same}
use Rattle.consistency.specs.Bearing.{Bears}
use Rattle.consistency.specs.Stages.{ScriptRun, Stage}
use Rattle.consistency.specs.Courses.{Answered, StandsAt, first_stage, lines_begun, next_line, replies_of, stage_after, stage_there, texts_of}
use Rattle.consistency.specs.Keeping.{stage_now}
use Rattle.consistency.specs.Moments.{AllMeanTable, BearsTime, MeansTable, MomentBears}
use Rattle.consistency.specs.Replies.{has_reply}
use Rattle.consistency.proofs.Lines.{at_or_last, last_front, stage_front}

-- ---- plants of one shape

-- What a choice of one plant bears, or means, it bears and means in another with the same numbers and lengths.
abbrev pub bears_on : (run : ScriptRun) (s : Stage) (said : List ℕ) (old new : PlantState) (c : Choice) → SameSite old new → BearsTime run s said old c → BearsTime run s said new c
bears_on run s said old new c site b = record { time = b.time; bears = subst (λ (shape : Shape). Bears run s shape c b.time) (sym (shape_same old new site)) b.bears; not_earlier = b.not_earlier }

pub means_on : (old new : PlantState) (c : Choice) (m : Means) → SameSite old new → means_of old c ≡ Some m → means_of new c ≡ Some m
means_on old new c m site is = ap (λ (shape : Shape). means_in shape c) (shape_same old new site) ∙ is

-- A call on the console leaves each choice that a crash could leave when it began.
pub console_choice : (tells : Type 0) (told : tells) (old new : PlantState) (t : ℕ) (c : Choice) → WorksOnConsole tells old new → old.clock ≤ t → t ≤ new.clock → IsChoice new t c → IsChoice old old.clock c
console_choice tells told old new t c works from to is d part =
    let start = (works.devices told d).images t from to (c d) (is d (part_still old new d works.site part)) in
    subst (λ (l : List ℕ). old.images old.clock d l) (sym start.2) start.1

-- ---- a moment stays

module _ (run : ScriptRun) (lines : List Answered) (old mid new : PlantState) (up : 0 < mid.clock) (site : SameSite mid new) (elapses : Elapses mid new) where
  -- A moment of the past bears still, since the past doesn't change.
  abbrev pub moment_still : (t : ℕ) → t ≤ mid.clock → MomentBears run lines old mid t → MomentBears run lines old new t
  moment_still t le m = record {
    heard = m.heard;
    said = m.said;
    heard_is = elapses.heard t up le ∙ m.heard_is;
    said_is = elapses.said t up le ∙ m.said_is;
    at = m.at;
    bears = λ started c is. bears_on run (stage_there run old.script m.at) m.said mid new c site (m.bears started c (past_choice mid new t c site elapses up le is));
  }

  -- What all its choices mean they mean still.
  pub table_still : (t : ℕ) (le : t ≤ mid.clock) (m : MomentBears run lines old mid t) → AllMeanTable run lines old mid t m → AllMeanTable run lines old new t (moment_still t le m)
  table_still t le m mean started c is =
      let meant = mean started c (past_choice mid new t c site elapses up le is) in
      (meant.0, means_on mid new c meant.0 site meant.1, meant.2)

-- ---- one line more

-- Where nothing of a further reply was said, a run stands so among one line more, too.
abbrev pub stands_longer : (lines : List Answered) (heard said : List ℕ) (a : Answered) → 0 < length a.reply → (at : StandsAt lines heard said) → (at.answered ≡ length lines → at.part ≡ []) → StandsAt (lines ++ a ∷ []) heard said
stands_longer lines heard said a some at unsaid =
    let front : take at.answered lines ≡ take at.answered (lines ++ a ∷ []) = sym (take-append-le at.answered lines (a ∷ []) at.within) in
    record {
      answered = at.answered;
      within = omega (arith, at.within, length_push lines a);
      text = at.text;
      heard_is = at.heard_is ∙ ap (λ (l : List Answered). texts_of l ++ at.text) front;
      part = at.part;
      said_is = at.said_is ∙ ap (λ (l : List Answered). replies_of l ++ at.part) front;
      not_whole = λ b is. elim (at_or_last lines a at.answered b is) [
        | inl here ↦ at.not_whole b here
        | inr last ↦ omega (arith, some, ap length (unsaid last.0), ap (λ (x : Answered). length x.reply) last.1)
      ];
      none_more = at.none_more;
      one_line = at.one_line;
    }

module _ (run : ScriptRun) (lines : List Answered) (a : Answered) (some : 0 < length a.reply) (old new : PlantState) where
  -- It is the same stage.
  pub stage_longer : (heard said : List ℕ) (at : StandsAt lines heard said) (unsaid : at.answered ≡ length lines → at.part ≡ []) → stage_there run old.script (stands_longer lines heard said a some at unsaid) ≡ stage_there run old.script at
  stage_longer heard said at unsaid =
      λ i. record (stage_front run lines (a ∷ []) at.answered at.within i) { next = next_line at.answered (last_front lines (a ∷ []) at.answered at.within i) (length heard == length old.script) at.text }

  abbrev pub moment_longer : (t : ℕ) (m : MomentBears run lines old new t) → (m.at.answered ≡ length lines → m.at.part ≡ []) → MomentBears run (lines ++ a ∷ []) old new t
  moment_longer t m unsaid =
      let same = stage_longer m.heard m.said m.at unsaid in
      record {
        heard = m.heard;
        said = m.said;
        heard_is = m.heard_is;
        said_is = m.said_is;
        at = stands_longer lines m.heard m.said a some m.at unsaid;
        bears = λ started c is. subst (λ (s : Stage). BearsTime run s m.said new c) (sym same) (m.bears (subst (λ (s : Stage). IsTrue s.table.is_started) same started) c is);
      }

  pub table_longer : (t : ℕ) (m : MomentBears run lines old new t) (unsaid : m.at.answered ≡ length lines → m.at.part ≡ []) → AllMeanTable run lines old new t m → AllMeanTable run (lines ++ a ∷ []) old new t (moment_longer t m unsaid)
  table_longer t m unsaid mean started c is =
      let same = stage_longer m.heard m.said m.at unsaid in
      let meant = mean (subst (λ (s : Stage). IsTrue s.table.is_started) same started) c is in
      (meant.0, meant.1, subst (λ (s : Stage). MeansTable s meant.0) (sym same) meant.2)

-- ---- a moment after answered lines

-- Lines that stand first among all.
pub record IsFront (lines all : List Answered) : Type 0 where
  pub within : length lines ≤ length all
  pub front : take (length lines) all ≡ lines

pub front_all : (lines : List Answered) → IsFront lines lines
front_all lines = record { within = omega arith; front = take_all (length lines) lines (omega arith) }

pub front_more : (lines : List Answered) (a : Answered) → IsFront lines (lines ++ a ∷ [])
front_more lines a = record { within = omega (arith, length_push lines a); front = take-append-le (length lines) lines (a ∷ []) (omega arith) ∙ take_all (length lines) lines (omega arith) }

-- What may be said after the replies to the lines: no whole reply, and less than the next one.
pub record MayBePart (lines all : List Answered) (part : List ℕ) : Type 0 where
  pub not_whole : (a : Answered) → slice_get all (length lines) ≡ Some a → length part < length a.reply
  pub none_more : has_reply part ≡ false

abbrev pub stands_after : (all lines : List Answered) (text part : List ℕ) → IsFront lines all → MayBePart lines all part → lines_begun text ≤ 1 → StandsAt all (texts_of lines ++ text) (replies_of lines ++ part)
stands_after all lines text part front may one = record {
  answered = length lines;
  within = front.within;
  text = text;
  heard_is = ap (λ (l : List Answered). texts_of l ++ text) (sym front.front);
  part = part;
  said_is = ap (λ (l : List Answered). replies_of l ++ part) (sym front.front);
  not_whole = may.not_whole;
  none_more = may.none_more;
  one_line = one;
}

module _ (run : ScriptRun) (all lines : List Answered) (text part : List ℕ) (front : IsFront lines all) (may : MayBePart lines all part) (one : lines_begun text ≤ 1) (old new : PlantState) where
  -- The stage there is that of the lines and the text.
  pub stage_there_is : stage_there run old.script (stands_after all lines text part front may one) ≡ stage_now run old.script lines text
  stage_there_is =
      ap (λ (l : List Answered). record (fold stage_after (first_stage run) l) { next = next_line (length lines) (fold (λ (before : ℕ) (a : Answered). a.line.time.0) 0 l) (length (texts_of lines ++ text) == length old.script) text })
      (front.front ∙ sym (take_all (length lines) lines (omega arith)))

  -- Such a moment bears where each of its choices bears a time at that stage.
  abbrev pub moment_after : (t : ℕ) → new.heard t ≡ old.heard old.clock ++ (texts_of lines ++ text) → new.said t ≡ old.said old.clock ++ (replies_of lines ++ part)
      → (IsTrue (stage_now run old.script lines text).table.is_started → (c : Choice) → IsChoice new t c → BearsTime run (stage_now run old.script lines text) (replies_of lines ++ part) new c) → MomentBears run all old new t
  moment_after t heard said bears = record {
    heard = texts_of lines ++ text;
    said = replies_of lines ++ part;
    heard_is = heard;
    said_is = said;
    at = stands_after all lines text part front may one;
    bears = λ started c is.
        subst (λ (s : Stage). BearsTime run s (replies_of lines ++ part) new c) (sym stage_there_is) (bears (subst (λ (s : Stage). IsTrue s.table.is_started) stage_there_is started) c is);
  }

  pub table_meant_there : (t : ℕ) (heard : new.heard t ≡ old.heard old.clock ++ (texts_of lines ++ text)) (said : new.said t ≡ old.said old.clock ++ (replies_of lines ++ part))
      (bears : IsTrue (stage_now run old.script lines text).table.is_started → (c : Choice) → IsChoice new t c → BearsTime run (stage_now run old.script lines text) (replies_of lines ++ part) new c)
      → (IsTrue (stage_now run old.script lines text).table.is_started → (c : Choice) → IsChoice new t c → (means : Means) × (means_of new c ≡ Some means) × MeansTable (stage_now run old.script lines text) means)
      → AllMeanTable run all old new t (moment_after t heard said bears)
  table_meant_there t heard said bears mean started c is =
      let meant = mean (subst (λ (s : Stage). IsTrue s.table.is_started) stage_there_is started) c is in
      (meant.0, meant.1, subst (λ (s : Stage). MeansTable s meant.0) (sym stage_there_is) meant.2)
