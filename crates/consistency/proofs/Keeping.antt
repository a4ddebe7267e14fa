-- How calls go on with a run that answers lines one after another.
use Rattle.std.proofs.Common.{◌≡◌, ◌⊎◌, inl, inr, ℕ, ◌<◌, ◌≤◌, false, List, [], ◌∷◌, ◌++◌, length, take, drop, Option, Some, None, refl, sym, ap, subst, ◌∙◌, append_assoc, append-nil, arith, length-append}
use Rattle.std.specs.Prelude.{◌==◌, ◌&&◌, nat_eq, nat_lt, IsTrue}
use Rattle.std.specs.List.{list_any}
use Rattle.std.proofs.lemmas.Bool.{and_left, and_right, cases_lt, or_from}
use Rattle.std.proofs.lemmas.List.{append_cancel_left, length-take-le, length_push, take-append-drop, take_all}
use Rattle.std.proofs.lemmas.Option.{slice_get_within}
use Rattle.crash_plant.specs.declared.device.Device.TheVariants.{Control}
use Rattle.crash_plant.specs.declared.device.Heard.TheVariants.{Byte, End}
use Rattle.crash_plant.specs.Calls.{Elapses, Hears, HearsNothing, Listens, SameSite, Says, Silent, WorksOnConsole}
use Rattle.crash_plant.specs.Choices.{Choice, IsChoice}
use Rattle.crash_plant.specs.Moments.{PlantState}
use Rattle.crash_plant.proofs.Steps.{site_trans}
use Rattle.site_means.specs.declared.means.Means.{Means}
use Rattle.site_means.specs.Sight.{means_of}
use Rattle.xrc_command.specs.declared.line.Line.{Line}
use Rattle.consistency.specs.Stages.{ScriptRun, Stage}
use Rattle.consistency.specs.Courses.{Answered, AreAsked, IsAnswered, IsAsked, last_line_time, lines_begun, next_line, replies_of, stage_after, stage_at, stage_there, texts_of}
use Rattle.consistency.specs.Keeping.{Keeps, stage_now}
use Rattle.consistency.specs.Moments.{AllMeanTable, AreUpTo, BearsThroughout, BearsTime, FirstMeans, MeansTable, MomentBears}
use Rattle.consistency.specs.Replies.{has_reply}
use Rattle.consistency.specs.Times.{times_said}
use Rattle.consistency.proofs.Joined.{first_joined, itself, joined, each_joined, last_joined}
use Rattle.consistency.proofs.Lines.{asked_more, course_more, last_at, next_not_before, no_feed_before, none_heard, not_end_is, replied_by_last, replies_more, replies_whole, same_some, stage_more, texts_more}
use Rattle.consistency.proofs.Pieces.{times_append, times_front}
use Rattle.consistency.proofs.Replies.{reply_front, reply_some, take_none}
use Rattle.consistency.proofs.Resting.{bears_time_heard}
use Rattle.consistency.proofs.Standing.{MayBePart, bears_on, console_choice, front_all, front_more, means_on, moment_after, moment_longer, moment_still, table_longer, table_meant_there, table_still}

-- ---- the beginning and the end

-- A run that has made no call yet has answered no line.
pub keeps_begins : (run : ScriptRun) (plant : PlantState) → Keeps run [] [] plant plant
keeps_begins run plant = record {
  course = λ n a at. absurd cc;
  asked = λ n a at. absurd cc;
  later = omega arith;
  site = record { journals = refl; volumes = refl; lengths = λ d. refl };
  heard = sym (append-nil (plant.heard plant.clock));
  script = refl;
  said = sym (append-nil (plant.said plant.clock));
  one_line = omega arith;
  each = λ t from to.
      let now : t ≡ plant.clock = omega (arith, from, to) in
      record {
        heard = [];
        said = [];
        heard_is = ap plant.heard now ∙ sym (append-nil (plant.heard plant.clock));
        said_is = ap plant.said now ∙ sym (append-nil (plant.said plant.clock));
        at = record { answered = 0; within = omega arith; text = []; heard_is = refl; part = []; said_is = refl; not_whole = λ a at. absurd cc; none_more = refl; one_line = omega arith };
        bears = λ started. absurd cc;
      };
  unsaid = λ t from to is. refl;
  replies = λ t from to first started. absurd cc;
  now = λ from to. refl;
}

-- A run whose moments have borne so far bears throughout.
pub keeps_throughout : (run : ScriptRun) (lines : List Answered) (text : List ℕ) (old new : PlantState) → Keeps run lines text old new → BearsThroughout run lines old new
keeps_throughout run lines text old new kept = record { course = kept.course; asked = kept.asked; each = kept.each; replies = kept.replies }

-- ---- now

module _ (run : ScriptRun) (lines : List Answered) (text : List ℕ) (old new : PlantState) (kept : Keeps run lines text old new) where
  abbrev moment_now : MomentBears run lines old new new.clock
  moment_now = kept.each new.clock kept.later (itself new.clock)

  answered_now : moment_now.at.answered ≡ length lines
  answered_now = kept.now kept.later (itself new.clock)

  heard_now : moment_now.heard ≡ texts_of lines ++ text
  heard_now = append_cancel_left (old.heard old.clock) moment_now.heard (texts_of lines ++ text) (sym moment_now.heard_is ∙ kept.heard)

  said_now : moment_now.said ≡ replies_of lines
  said_now = append_cancel_left (old.said old.clock) moment_now.said (replies_of lines) (sym moment_now.said_is ∙ kept.said)

  front_now : take moment_now.at.answered lines ≡ lines
  front_now = ap (λ (n : ℕ). take n lines) answered_now ∙ take_all (length lines) lines (omega arith)

  text_now : moment_now.at.text ≡ text
  text_now = append_cancel_left (texts_of lines) moment_now.at.text text (ap (λ (l : List Answered). texts_of l ++ moment_now.at.text) (sym front_now) ∙ sym moment_now.at.heard_is ∙ heard_now)

  stage_is : stage_there run old.script moment_now.at ≡ stage_now run old.script lines text
  stage_is = λ i. record (stage_at run lines (answered_now i)) {
    next = next_line (answered_now i) (last_line_time lines (answered_now i)) (length (heard_now i) == length old.script) (text_now i);
  }

  -- Each choice that a crash may leave now bears a time at the stage of the lines and the text.
  pub keeps_now : IsTrue (stage_now run old.script lines text).table.is_started → (c : Choice) → IsChoice new new.clock c → BearsTime run (stage_now run old.script lines text) (replies_of lines) new c
  keeps_now started c is =
      subst (λ (l : List ℕ). BearsTime run (stage_now run old.script lines text) l new c) said_now
      (subst (λ (s : Stage). BearsTime run s moment_now.said new c) stage_is (moment_now.bears (subst (λ (s : Stage). IsTrue s.table.is_started) (sym stage_is) started) c is))

-- Nothing may always be said after the replies to all lines.
nothing_more : (lines : List Answered) → MayBePart lines lines []
nothing_more lines = record { not_whole = λ a at. absurd (omega (arith, slice_get_within lines (length lines) a at)); none_more = refl }

-- No line begins in nothing.
none_begun : lines_begun [] ≤ 1
none_begun = omega arith

lt_le : (m n : ℕ) → m < n → m ≤ n
lt_le m n below = omega (arith, below)

-- ---- calls after which the same lines are answered

module _ (run : ScriptRun) (lines : List Answered) (text : List ℕ) (old mid new : PlantState) (up : 0 < old.clock) (kept : Keeps run lines text old mid) (site : SameSite mid new) (elapses : Elapses mid new) where
  later : mid.clock ≤ new.clock
  later = (elapses.kept Control).later

  has_past : 0 < mid.clock
  has_past = omega (arith, up, kept.later)

  abbrev early : (t : ℕ) → old.clock ≤ t → t ≤ mid.clock → MomentBears run lines old new t
  early t from before = moment_still run lines old mid new has_past site elapses t before (kept.each t from before)

  abbrev Late : Type 0
  Late = (t : ℕ) → old.clock ≤ t → mid.clock < t → t ≤ new.clock → MomentBears run lines old new t

  abbrev each_on : Late → (t : ℕ) → old.clock ≤ t → t ≤ new.clock → MomentBears run lines old new t
  each_on late = joined run lines old new mid.clock kept.later later early late

  -- No reply comes where the late moments have the same lines answered.
  replies_on : (late : Late) → ((t : ℕ) (from : old.clock ≤ t) (after : mid.clock < t) (to : t ≤ new.clock) → (late t from after to).at.answered ≡ length lines) → FirstMeans run lines old new (each_on late)
  replies_on late stands = first_joined run lines old new mid.clock kept.later later early late
      (λ t from before leads. table_still run lines old mid new has_past site elapses t before (kept.each t from before) (kept.replies t from before leads))
      (λ t from after to more. absurd (omega (arith, more, kept.now kept.later (itself mid.clock), stands t from after to)))

  keeps_on : (late : Late) (next : List ℕ) → ((t : ℕ) (from : old.clock ≤ t) (after : mid.clock < t) (to : t ≤ new.clock) → ((late t from after to).at.answered ≡ length lines) × ((late t from after to).at.part ≡ []))
      → new.heard new.clock ≡ old.heard old.clock ++ (texts_of lines ++ next) → old.script ≡ texts_of lines ++ next ++ new.script → new.said new.clock ≡ old.said old.clock ++ replies_of lines → lines_begun next ≤ 1
      → Keeps run lines next old new
  keeps_on late next stands heard script said one = record {
    course = kept.course;
    asked = kept.asked;
    later = omega (arith, kept.later, later);
    site = site_trans old mid new kept.site site;
    heard = heard;
    script = script;
    said = said;
    one_line = one;
    each = each_on late;
    unsaid = each_joined run lines old new mid.clock kept.later later early late (λ t m. m.at.answered ≡ length lines → m.at.part ≡ []) (λ t from before is. kept.unsaid t from before is) (λ t from after to is. (stands t from after to).1);
    replies = replies_on late (λ t from after to. (stands t from after to).0);
    now = last_joined run lines old new mid.clock kept.later later early late (λ t m. m.at.answered ≡ length lines) (λ from before. same_clock (omega (arith, before, later)) from before) (λ from after to. (stands new.clock from after to).0);
  }
    where
      same_clock : new.clock ≡ mid.clock → (from : old.clock ≤ new.clock) (before : new.clock ≤ mid.clock) → (kept.each new.clock from before).at.answered ≡ length lines
      same_clock is = subst (λ (n : ℕ). (from : old.clock ≤ n) (before : n ≤ mid.clock) → (kept.each n from before).at.answered ≡ length lines) (sym is) (λ from before. kept.now from before)

  -- What was said after the replies is nothing.
  nothing_said : (t : ℕ) → new.said t ≡ mid.said mid.clock → new.said t ≡ old.said old.clock ++ (replies_of lines ++ [])
  nothing_said t is = is ∙ kept.said ∙ ap (λ (l : List ℕ). old.said old.clock ++ l) (sym (append-nil (replies_of lines)))

  abbrev moment_on : (next : List ℕ) → lines_begun next ≤ 1 → (t : ℕ) → new.heard t ≡ old.heard old.clock ++ (texts_of lines ++ next) → new.said t ≡ mid.said mid.clock
      → (IsTrue (stage_now run old.script lines next).table.is_started → (c : Choice) → IsChoice new t c → BearsTime run (stage_now run old.script lines next) (replies_of lines) new c) → MomentBears run lines old new t
  moment_on next one t heard said bears = moment_after run lines lines next [] (front_all lines) (nothing_more lines) one old new t heard (nothing_said t said)
      (λ started c is. subst (λ (l : List ℕ). BearsTime run (stage_now run old.script lines next) l new c) (sym (append-nil (replies_of lines))) (bears started c is))

  module _ (silent : Silent mid new)
      (bears : IsTrue (stage_now run old.script lines text).table.is_started → (t : ℕ) → mid.clock ≤ t → t ≤ new.clock → (c : Choice) → IsChoice new t c → BearsTime run (stage_now run old.script lines text) (replies_of lines) new c) where
    abbrev work_late : Late
    work_late t from after to =
        let since : mid.clock ≤ t = lt_le mid.clock t after in
        moment_on text kept.one_line t (silent.heard t since to ∙ kept.heard) (silent.said t since to) (λ started c is. bears started t since to c is)

    -- Calls that hear and say nothing go on, where each choice of each of their moments bears a time at the same stage.
    pub keeps_works : Keeps run lines text old new
    keeps_works = keeps_on work_late text (λ t from after to. (refl, refl)) (silent.heard new.clock later (itself new.clock) ∙ kept.heard) (kept.script ∙ ap (λ (l : List ℕ). texts_of lines ++ text ++ l) (sym silent.script)) (silent.said new.clock later (itself new.clock) ∙ kept.said) kept.one_line

-- ---- hearing

module _ (run : ScriptRun) (lines : List Answered) (text : List ℕ) (old mid new : PlantState) (up : 0 < old.clock) (kept : Keeps run lines text old mid) (tells : Type 0) (told : tells) (works : WorksOnConsole tells mid new) (listens : Listens mid new) where
  past : Elapses mid new
  past = works.elapses told

  -- On the same text each choice bears what it bore when the call began.
  bears_same : (t : ℕ) → mid.clock ≤ t → t ≤ new.clock → IsTrue (stage_now run old.script lines text).table.is_started → (c : Choice) → IsChoice new t c → BearsTime run (stage_now run old.script lines text) (replies_of lines) new c
  bears_same t since to started c is =
      bears_on run (stage_now run old.script lines text) (replies_of lines) mid new c works.site (keeps_now run lines text old mid kept started c (console_choice tells told mid new t c works since to is))

  -- A call that hears nothing, since the script has ended or since it failed, goes on.
  pub keeps_hears_nothing : HearsNothing mid new → Keeps run lines text old new
  keeps_hears_nothing nothing = keeps_works run lines text old mid new up kept works.site past silent (λ started t since to c is. bears_same t since to started c is)
    where
      silent : Silent mid new
      silent = record {
        heard = λ t since to. elim (listens.heard t since to) [ inl before ↦ before | inr now ↦ now ∙ nothing.heard ];
        said = listens.said;
        script = nothing.script;
      }

  pub keeps_hears_end : Hears mid new End → Keeps run lines text old new
  keeps_hears_end hears = keeps_hears_nothing (record { script = hears.1 ∙ sym hears.0; heard = hears.2 })

  module _ (b : ℕ) (hears : Hears mid new (Byte b)) (one : lines_begun (text ++ b ∷ []) ≤ 1) where
    script_then : old.script ≡ (texts_of lines ++ text) ++ b ∷ new.script
    script_then = kept.script ∙ ap (λ (l : List ℕ). texts_of lines ++ text ++ l) hears.0

    -- Before the byte no line was heard whole.
    none_before : (stage_now run old.script lines text).next ≡ None
    none_before = none_heard (length lines) (last_line_time lines (length lines)) (length (texts_of lines ++ text) == length old.script) text
        (or_from (list_any (λ x. nat_eq x 10) text) ((length (texts_of lines ++ text) == length old.script) && nat_lt 0 (length text)) (no_feed_before text b one)
        (and_left (length (texts_of lines ++ text) == length old.script) (nat_lt 0 (length text)) (not_end_is (texts_of lines ++ text) b new.script old.script script_then)))

    heard_then : new.heard new.clock ≡ old.heard old.clock ++ (texts_of lines ++ (text ++ b ∷ []))
    heard_then =
        hears.1 ∙ ap (λ (l : List ℕ). l ++ b ∷ []) kept.heard ∙ append_assoc (old.heard old.clock) (texts_of lines ++ text) (b ∷ [])
        ∙ ap (λ (l : List ℕ). old.heard old.clock ++ l) (append_assoc (texts_of lines) text (b ∷ []))

    -- With the byte each choice bears what it bore without it.
    bears_then : (t : ℕ) → mid.clock ≤ t → t ≤ new.clock → IsTrue (stage_now run old.script lines (text ++ b ∷ [])).table.is_started → (c : Choice) → IsChoice new t c
        → BearsTime run (stage_now run old.script lines (text ++ b ∷ [])) (replies_of lines) new c
    bears_then t since to started c is =
        let next = stage_now run old.script lines (text ++ b ∷ []) in
        bears_time_heard run (stage_now run old.script lines text) next.next (replies_of lines) new c none_before
        (λ line heard.
        let later = next_not_before (length lines) (last_line_time lines (length lines)) (length (texts_of lines ++ (text ++ b ∷ [])) == length old.script) (text ++ b ∷ []) line heard in
        omega (arith, later, replied_by_last run old.script lines (length lines) kept.asked (omega arith)))
        (bears_same t since to started c is)

    abbrev heard_late : (t : ℕ) → mid.clock < t → t ≤ new.clock → (new.heard t ≡ mid.heard mid.clock) ⊎ (new.heard t ≡ new.heard new.clock) → MomentBears run lines old new t
    heard_late t after to (inl before) =
        let since : mid.clock ≤ t = lt_le mid.clock t after in
        moment_on run lines text old mid new up kept works.site past text kept.one_line t (before ∙ kept.heard) (listens.said t since to) (λ started c is. bears_same t since to started c is)
    heard_late t after to (inr now) =
        let since : mid.clock ≤ t = lt_le mid.clock t after in
        moment_on run lines text old mid new up kept works.site past (text ++ b ∷ []) one t (now ∙ heard_then) (listens.said t since to) (λ started c is. bears_then t since to started c is)

    stands_late : (t : ℕ) (after : mid.clock < t) (to : t ≤ new.clock) (side : (new.heard t ≡ mid.heard mid.clock) ⊎ (new.heard t ≡ new.heard new.clock)) → ((heard_late t after to side).at.answered ≡ length lines) × ((heard_late t after to side).at.part ≡ [])
    stands_late t after to (inl before) = (refl, refl)
    stands_late t after to (inr now) = (refl, refl)

    -- A call that hears one more byte of the line goes on.
    pub keeps_hears : Keeps run lines (text ++ b ∷ []) old new
    keeps_hears =
        let reaches : mid.clock ≤ new.clock = (past.kept Control).later in
        keeps_on run lines text old mid new up kept works.site past
        (λ t from after to. heard_late t after to (listens.heard t (lt_le mid.clock t after) to)) (text ++ b ∷ [])
        (λ t from after to. stands_late t after to (listens.heard t (lt_le mid.clock t after) to)) heard_then
        (script_then ∙ sym (append_assoc (texts_of lines ++ text) (b ∷ []) new.script) ∙ ap (λ (l : List ℕ). l ++ new.script) (append_assoc (texts_of lines) text (b ∷ [])))
        (listens.said new.clock reaches (itself new.clock) ∙ kept.said) one

-- ---- saying

-- A stage that has answered a line has no next line heard.
pub stage_answered : (run : ScriptRun) (script : List ℕ) (lines : List Answered) (a : Answered) → stage_now run script (lines ++ a ∷ []) [] ≡ stage_after (stage_at run lines (length lines)) a
stage_answered run script lines a =
    let all = lines ++ a ∷ [] in
    let s = stage_at run all (length all) in
    let at_end = length (texts_of all ++ []) == length script in
    ap (λ (n : Option Line). record s { next = n }) (none_heard (length all) (last_line_time all (length all)) at_end [] (and_right at_end false refl)) ∙ ap (λ (r : Stage). record r { next = None }) (stage_more run lines a)

module _ (run : ScriptRun) (lines : List Answered) (text : List ℕ) (old mid new : PlantState) (up : 0 < old.clock) (kept : Keeps run lines text old mid) (tells : Type 0) (told : tells) (works : WorksOnConsole tells mid new) where
  -- A front of a text is said after the replies.
  said_after : (t k : ℕ) (bytes : List ℕ) → new.said t ≡ mid.said mid.clock ++ take k bytes → new.said t ≡ old.said old.clock ++ (replies_of lines ++ take k bytes)
  said_after t k bytes is = is ∙ ap (λ (l : List ℕ). l ++ take k bytes) kept.said ∙ append_assoc (old.said old.clock) (replies_of lines) (take k bytes)

  -- What bears a time not before those in a whole text bears one not before those in its front.
  bears_front : (t k : ℕ) (bytes : List ℕ) → mid.clock ≤ t → t ≤ new.clock → (s : Stage) → ((c : Choice) → IsChoice mid mid.clock c → BearsTime run s (replies_of lines ++ bytes) mid c) → (c : Choice) → IsChoice new t c → BearsTime run s (replies_of lines ++ take k bytes) new c
  bears_front t k bytes since to s bears c is =
      let b = bears c (console_choice tells told mid new t c works since to is) in
      bears_on run s (replies_of lines ++ take k bytes) mid new c works.site (record {
        time = b.time;
        bears = b.bears;
        not_earlier = times_front b.time (replies_of lines ++ take k bytes) (drop k bytes)
            (subst (λ (l : List ℕ). AreUpTo b.time (times_said l)) (sym (append_assoc (replies_of lines) (take k bytes) (drop k bytes) ∙ ap (λ (l : List ℕ). replies_of lines ++ l) (take-append-drop k bytes))) b.not_earlier);
      })

  -- ---- a line that is no reply

  module _ (bytes : List ℕ) (says : Says bytes mid new) (none : has_reply bytes ≡ false)
      (during : IsTrue (stage_now run old.script lines text).table.is_started → (c : Choice) → IsChoice mid mid.clock c → BearsTime run (stage_now run old.script lines text) (replies_of lines ++ bytes) mid c) where
    may_say : (k : ℕ) → MayBePart lines lines (take k bytes)
    may_say k = record { not_whole = λ a at. absurd (omega (arith, slice_get_within lines (length lines) a at)); none_more = take_none k bytes none }

    abbrev line_late : (t : ℕ) → old.clock ≤ t → mid.clock < t → t ≤ new.clock → MomentBears run lines old new t
    line_late t from after to =
        let since : mid.clock ≤ t = lt_le mid.clock t after in
        let front = says.front t since to in
        moment_after run lines lines text (take front.0 bytes) (front_all lines) (may_say front.0) kept.one_line old new t (says.heard t since to ∙ kept.heard) (said_after t front.0 bytes front.2)
        (λ started c is. bears_front t front.0 bytes since to (stage_now run old.script lines text) (during started) c is)

    -- The call that says a line after the replies, as that of a status, is the last: the run bears throughout, whether it failed or not.
    pub keeps_says_line : BearsThroughout run lines old new
    keeps_says_line = record {
      course = kept.course;
      asked = kept.asked;
      each = each_on run lines text old mid new up kept works.site (works.elapses told) line_late;
      replies = replies_on run lines text old mid new up kept works.site (works.elapses told) line_late (λ t from after to. refl);
    }

  -- A line that says no time, as that of a status.
  pub keeps_says_status : (bytes : List ℕ) → Says bytes mid new → has_reply bytes ≡ false → times_said bytes ≡ [] → BearsThroughout run lines old new
  keeps_says_status bytes says none timeless = keeps_says_line bytes says none (λ started c is.
      let b = keeps_now run lines text old mid kept started c is in
      let same : times_said (replies_of lines ++ bytes) ≡ times_said (replies_of lines) = times_append (replies_of lines) bytes (replies_whole run lines kept.course) ∙ ap (λ (l : List ℕ). times_said (replies_of lines) ++ l) timeless ∙ append-nil (times_said (replies_of lines)) in
      record { time = b.time; bears = b.bears; not_earlier = subst (λ (l : List ℕ). AreUpTo b.time l) (sym same) b.not_earlier })

  -- ---- the reply to one more line

  module _ (a : Answered) (says : Says a.reply mid new) (is_text : a.text ≡ text) (answered : IsAnswered run (stage_at run lines (length lines)) a) (asks : (stage_now run old.script lines text).next ≡ Some a.line)
      (during : IsTrue (stage_now run old.script lines text).table.is_started → (c : Choice) → IsChoice mid mid.clock c → BearsTime run (stage_now run old.script lines text) (replies_of lines ++ a.reply) mid c)
      (after : IsTrue a.table.is_started → (c : Choice) → IsChoice mid mid.clock c → BearsTime run (stage_after (stage_at run lines (length lines)) a) (replies_of lines ++ a.reply) mid c)
      (mean : IsTrue a.table.is_started → (c : Choice) → IsChoice mid mid.clock c → (means : Means) × (means_of mid c ≡ Some means) × MeansTable (stage_after (stage_at run lines (length lines)) a) means) where
    abbrev all : List Answered
    all = lines ++ a ∷ []

    some : 0 < length a.reply
    some = reply_some _ a.line a.reply answered.is_reply

    next_is : stage_now run old.script all [] ≡ stage_after (stage_at run lines (length lines)) a
    next_is = stage_answered run old.script lines a

    -- A front of the reply may be said before it is whole.
    may_front : (k : ℕ) → k < length a.reply → MayBePart lines all (take k a.reply)
    may_front k below = record {
      not_whole = λ b at.
          let same : a ≡ b = same_some a b (sym (last_at lines a) ∙ at) in
          omega (arith, below, length-take-le k a.reply (lt_le k (length a.reply) below), ap (λ (x : Answered). length x.reply) same);
      none_more = reply_front _ a.line a.reply answered.is_reply k below;
    }

    heard_all : (t : ℕ) → new.heard t ≡ mid.heard mid.clock → new.heard t ≡ old.heard old.clock ++ (texts_of all ++ [])
    heard_all t is = is ∙ kept.heard ∙ ap (λ (l : List ℕ). old.heard old.clock ++ l) (ap (λ (l : List ℕ). texts_of lines ++ l) (sym is_text) ∙ sym (texts_more lines a) ∙ sym (append-nil (texts_of all)))

    said_all : (t k : ℕ) → length a.reply ≤ k → new.said t ≡ mid.said mid.clock ++ take k a.reply → new.said t ≡ old.said old.clock ++ (replies_of all ++ [])
    said_all t k whole is =
        said_after t k a.reply is
        ∙ ap (λ (l : List ℕ). old.said old.clock ++ l) (ap (λ (l : List ℕ). replies_of lines ++ l) (take_all k a.reply whole) ∙ sym (replies_more lines a) ∙ sym (append-nil (replies_of all)))

    -- Once it is whole each choice bears at the stage after the line.
    bears_all : (t : ℕ) → mid.clock ≤ t → t ≤ new.clock → IsTrue (stage_now run old.script all []).table.is_started → (c : Choice) → IsChoice new t c → BearsTime run (stage_now run old.script all []) (replies_of all ++ []) new c
    bears_all t since to started c is =
        let left = console_choice tells told mid new t c works since to is in
        bears_on run (stage_now run old.script all []) (replies_of all ++ []) mid new c works.site
        (subst (λ (s : Stage). BearsTime run s (replies_of all ++ []) mid c) (sym next_is)
        (subst (λ (l : List ℕ). BearsTime run (stage_after (stage_at run lines (length lines)) a) l mid c) (sym (append-nil (replies_of all) ∙ replies_more lines a))
        (after (subst (λ (s : Stage). IsTrue s.table.is_started) next_is started) c left)))

    mean_all : (t : ℕ) → mid.clock ≤ t → t ≤ new.clock → IsTrue (stage_now run old.script all []).table.is_started → (c : Choice) → IsChoice new t c → (means : Means) × (means_of new c ≡ Some means) × MeansTable (stage_now run old.script all []) means
    mean_all t since to started c is =
        let meant = mean (subst (λ (s : Stage). IsTrue s.table.is_started) next_is started) c (console_choice tells told mid new t c works since to is) in
        (meant.0, means_on mid new c meant.0 works.site meant.1, subst (λ (s : Stage). MeansTable s meant.0) (sym next_is) meant.2)

    abbrev reply_at : (t : ℕ) → mid.clock < t → t ≤ new.clock → (k : ℕ) → new.said t ≡ mid.said mid.clock ++ take k a.reply → (k < length a.reply) ⊎ (length a.reply ≤ k) → MomentBears run all old new t
    reply_at t after to k said (inl below) =
        let since : mid.clock ≤ t = lt_le mid.clock t after in
        moment_after run all lines text (take k a.reply) (front_more lines a) (may_front k below) kept.one_line old new t (says.heard t since to ∙ kept.heard) (said_after t k a.reply said)
        (λ started c is. bears_front t k a.reply since to (stage_now run old.script lines text) (during started) c is)
    reply_at t after to k said (inr whole) =
        let since : mid.clock ≤ t = lt_le mid.clock t after in
        moment_after run all all [] [] (front_all all) (nothing_more all) none_begun old new t (heard_all t (says.heard t since to)) (said_all t k whole said) (λ started c is. bears_all t since to started c is)

    abbrev reply_late : (t : ℕ) → old.clock ≤ t → mid.clock < t → t ≤ new.clock → MomentBears run all old new t
    reply_late t from after to =
        let front = says.front t (lt_le mid.clock t after) to in
        reply_at t after to front.0 front.2 (cases_lt front.0 (length a.reply))

    reaches : mid.clock ≤ new.clock
    reaches = ((works.elapses told).kept Control).later

    mid_past : 0 < mid.clock
    mid_past = omega (arith, up, kept.later)

    abbrev reply_early : (t : ℕ) → old.clock ≤ t → t ≤ mid.clock → MomentBears run all old new t
    reply_early t from before = moment_longer run lines a some old new t (moment_still run lines old mid new mid_past works.site (works.elapses told) t before (kept.each t from before)) (kept.unsaid t from before)

    abbrev each_replied : (t : ℕ) → old.clock ≤ t → t ≤ new.clock → MomentBears run all old new t
    each_replied = joined run all old new mid.clock kept.later reaches reply_early reply_late

    -- At the late moments at which it was said whole the choices mean the table.
    table_at : (t : ℕ) (after : mid.clock < t) (to : t ≤ new.clock) (k : ℕ) (said : new.said t ≡ mid.said mid.clock ++ take k a.reply) (side : (k < length a.reply) ⊎ (length a.reply ≤ k))
        → length lines < (reply_at t after to k said side).at.answered → AllMeanTable run all old new t (reply_at t after to k said side)
    table_at t after to k said (inl below) more = absurd (omega (arith, more))
    table_at t after to k said (inr whole) more =
        let since : mid.clock ≤ t = lt_le mid.clock t after in
        table_meant_there run all all [] [] (front_all all) (nothing_more all) none_begun old new t (heard_all t (says.heard t since to)) (said_all t k whole said) (λ started c is. bears_all t since to started c is)
        (λ started c is. mean_all t since to started c is)

    replies_replied : FirstMeans run all old new each_replied
    replies_replied = first_joined run all old new mid.clock kept.later reaches reply_early reply_late
        (λ t from before leads. table_longer run lines a some old new t (moment_still run lines old mid new mid_past works.site (works.elapses told) t before (kept.each t from before)) (kept.unsaid t from before)
        (table_still run lines old mid new mid_past works.site (works.elapses told) t before (kept.each t from before) (kept.replies t from before leads)))
        (λ t from after to more.
        let front = says.front t (lt_le mid.clock t after) to in
        table_at t after to front.0 front.2 (cases_lt front.0 (length a.reply)) (omega (arith, more, kept.now kept.later (itself mid.clock))))

    asked_all : AreAsked old.script all
    asked_all = asked_more old.script lines a kept.asked (subst (λ (l : List ℕ). IsAsked (length lines) (last_line_time lines (length lines)) (length (texts_of lines ++ l) == length old.script) a) (sym is_text)
        (record { asks = ap (next_line (length lines) (last_line_time lines (length lines)) (length (texts_of lines ++ text) == length old.script)) is_text ∙ asks; one_line = subst (λ (l : List ℕ). lines_begun l ≤ 1) (sym is_text) kept.one_line }))

    -- Whether it was said whole or not, the run bears throughout.
    pub keeps_says_throughout : BearsThroughout run all old new
    keeps_says_throughout = record { course = course_more run lines a kept.course answered; asked = asked_all; each = each_replied; replies = replies_replied }

    -- The call that says the reply whole goes on, with one line more answered.
    module _ (whole : new.said new.clock ≡ mid.said mid.clock ++ a.reply) where
      unsaid_at : (t : ℕ) (after : mid.clock < t) (to : t ≤ new.clock) (k : ℕ) (said : new.said t ≡ mid.said mid.clock ++ take k a.reply) (side : (k < length a.reply) ⊎ (length a.reply ≤ k))
          → (reply_at t after to k said side).at.answered ≡ length all → (reply_at t after to k said side).at.part ≡ []
      unsaid_at t after to k said (inl below) is = absurd (omega (arith, is, length_push lines a))
      unsaid_at t after to k said (inr full) is = refl

      now_at : (after : mid.clock < new.clock) (to : new.clock ≤ new.clock) (k : ℕ) (said : new.said new.clock ≡ mid.said mid.clock ++ take k a.reply) (side : (k < length a.reply) ⊎ (length a.reply ≤ k)) → (reply_at new.clock after to k said side).at.answered ≡ length all
      now_at after to k said (inl below) =
          absurd (omega (arith, below, ap length (sym said ∙ whole), length-append (mid.said mid.clock) (take k a.reply), length-append (mid.said mid.clock) a.reply, length-take-le k a.reply (lt_le k (length a.reply) below)))
      now_at after to k said (inr full) = refl

      -- The clock has risen.
      risen : new.clock ≤ mid.clock → ⊥
      risen before =
          let same : new.clock ≡ mid.clock = omega (arith, before, reaches) in
          let said : new.said new.clock ≡ mid.said mid.clock = ap new.said same ∙ (works.elapses told).said mid.clock mid_past (itself mid.clock) in
          omega (arith, some, ap length (sym said ∙ whole), length-append (mid.said mid.clock) a.reply)

      pub keeps_says : Keeps run all [] old new
      keeps_says = record {
        course = course_more run lines a kept.course answered;
        asked = asked_all;
        later = omega (arith, kept.later, reaches);
        site = site_trans old mid new kept.site works.site;
        heard = heard_all new.clock (says.heard new.clock reaches (itself new.clock));
        script =
            kept.script ∙ ap (λ (l : List ℕ). texts_of lines ++ text ++ l) (sym says.script)
            ∙ ap (λ (l : List ℕ). l ++ new.script) (ap (λ (l : List ℕ). texts_of lines ++ l) (sym is_text) ∙ sym (texts_more lines a) ∙ sym (append-nil (texts_of all)));
        said = whole ∙ ap (λ (l : List ℕ). l ++ a.reply) kept.said ∙ append_assoc (old.said old.clock) (replies_of lines) a.reply ∙ ap (λ (l : List ℕ). old.said old.clock ++ l) (sym (replies_more lines a));
        one_line = omega arith;
        each = each_replied;
        unsaid = each_joined run all old new mid.clock kept.later reaches reply_early reply_late (λ t m. m.at.answered ≡ length all → m.at.part ≡ [])
            (λ t from before is. absurd (omega (arith, is, (kept.each t from before).at.within, length_push lines a)))
            (λ t from after to is. let front = says.front t (lt_le mid.clock t after) to in unsaid_at t after to front.0 front.2 (cases_lt front.0 (length a.reply)) is);
        replies = replies_replied;
        now = last_joined run all old new mid.clock kept.later reaches reply_early reply_late (λ t m. m.at.answered ≡ length all) (λ from before. absurd (risen before))
            (λ from after to. let front = says.front new.clock (lt_le mid.clock new.clock after) to in now_at after to front.0 front.2 (cases_lt front.0 (length a.reply)));
      }
