-- The lines of a script that a run heard before its session's start.
use Rattle.std.proofs.Common.{◌≡◌, inl, inr, ℕ, ◌+◌, ◌-◌, Bool, true, false, cond, nat_eq, List, [], ◌∷◌, ◌++◌, length, Some, None, refl, sym, ap, ◌∙◌, append_assoc, append-nil, arith}
use Rattle.std.specs.Prelude.{◌&&◌, bytes_eq, fold, if◌then◌else◌, nat_lt}
use Rattle.std.specs.List.{All}
use Rattle.std.proofs.lemmas.Bool.{eq-eqb, or_left}
use Rattle.std.proofs.lemmas.List.{length_push, take_all}
use Rattle.std.proofs.lemmas.List.Elements.{All-append, All-cons, All-nil}
use Rattle.std.proofs.lemmas.Slice.Eq.{bytes_eq-Decides}
use Rattle.crash_plant.specs.Calls.{HearsNothing}
use Rattle.crash_plant.specs.Moments.{PlantState}
use Rattle.pair_table.specs.declared.command.Command.{Command}
use Rattle.pair_table.specs.declared.command.Command.TheVariants.{Start, AddPair, DelPair, Suspend, Query, End}
use Rattle.pair_table.specs.declared.level.Level.{Level}
use Rattle.pair_table.specs.Tables.{new_table}
use Rattle.consistency.specs.Courses.{Answered, AreAsked, first_line, is_whole_line, last_line_time, later_line, next_line, texts_of}
use Rattle.consistency.proofs.Lines.{asked_more, texts_more, whole_at_end}
use Rattle.script_lines.specs.declared.next.Next.TheVariants as next
use Rattle.script_lines.specs.Hearing.{HearsText}
use Rattle.script_lines.specs.NextLines.{IsNextLine}
use Rattle.script_lines.specs.Texts.{IsWhole, has_feed}
use Rattle.script_lines.proofs.EndLaws.{fed_has}
use Rattle.xrc_command.specs.declared.line.Line.{Line}
use Rattle.xrc_command.specs.Reading.{line_spelled}
use Rattle.xrc_session.specs.Starting.{IsStartOfScript, level_started, start_line}
use Rattle.xrc_session.proofs.Hearings.{next_one}

-- ---- the next line

-- A line that was heard whole is one, where the script's end is known.
whole_is : (tells : Type 0) → tells → (at_end : Bool) (text left : List ℕ) → (left ≡ [] → at_end ≡ true) → IsWhole tells text left → is_whole_line at_end text ≡ true
whole_is tells told at_end text left ends (inl fed) = or_left (has_feed text) (at_end && nat_lt 0 (length text)) (fed_has text fed)
whole_is tells told at_end text left ends (inr last) = ap (λ (e : Bool). is_whole_line e text) (ends (last.at_end told)) ∙ (whole_at_end text last.some last.front.no_feed).0

-- A line that was heard whole after others is the next one of the script.
pub next_is_line : (tells : Type 0) → tells → (script : List ℕ) (lines : List Answered) (text left : List ℕ) (line : Line) (number before : ℕ) → script ≡ texts_of lines ++ text ++ left → IsNextLine tells number before text left (next.Line line) → number ≡ length lines + 1 → last_line_time lines (length lines) ≡ before
    → next_line (length lines) (last_line_time lines (length lines)) (nat_eq (length (texts_of lines ++ text)) (length script)) text ≡ Some line
next_is_line tells told script lines text left line number before whole is counted time =
    let ends : left ≡ [] → nat_eq (length (texts_of lines ++ text)) (length script) ≡ true =
    λ end. eq-eqb (length (texts_of lines ++ text)) (length script) (ap length (sym (whole ∙ ap (λ (l : List ℕ). (texts_of lines ++ text) ++ l) end ∙ append-nil (texts_of lines ++ text)))) in
    let at : number - 1 ≡ length lines = omega (arith, counted) in
    ap (λ (w : Bool). cond w (later_line (length lines) (last_line_time lines (length lines)) (line_spelled (first_line text))) None) (whole_is tells told (nat_eq (length (texts_of lines ++ text)) (length script)) text left ends is.0)
    ∙ ap (λ (n : ℕ). later_line n (last_line_time lines (length lines)) (line_spelled (first_line text))) (sym at)
    ∙ ap (λ (b : ℕ). later_line (number - 1) b (line_spelled (first_line text))) time ∙ is.1

-- The last of some lines and one more is that one.
last_of : (before : ℕ) (lines : List Answered) (a : Answered) → fold (λ (b : ℕ) (x : Answered). x.line.time.0) before (lines ++ a ∷ []) ≡ a.line.time.0
last_of before [] a = refl
last_of before (x ∷ lines) a = last_of x.line.time.0 lines a

pub last_more : (lines : List Answered) (a : Answered) → last_line_time (lines ++ a ∷ []) (length (lines ++ a ∷ [])) ≡ a.line.time.0
last_more lines a = ap (λ (l : List Answered). fold (λ (b : ℕ) (x : Answered). x.line.time.0) 0 l) (take_all (length (lines ++ a ∷ [])) (lines ++ a ∷ []) (omega arith)) ∙ last_of 0 lines a

-- ---- a start

-- A line that starts a session is its start.
start_is : (session : List ℕ) (line : Line) (level : Level) → level_started session line ≡ Some level → line ≡ start_line session level line.time.0
start_is session line level starts = by_command line.command starts
  where
    by_command : (c : Command) → level_started session (record line { command = c }) ≡ Some level → record line { command = c } ≡ start_line session level line.time.0
    by_command (Start l) is = by_name (bytes_eq line.session session) refl is
      where
        by_name : (b : Bool) → bytes_eq line.session session ≡ b → (if b then Some l else None) ≡ Some level → record line { command = Start l } ≡ start_line session level line.time.0
        by_name true named same =
            let name : line.session ≡ session = (bytes_eq-Decides line.session session).0 named in
            let levels : l ≡ level = cc in
            (λ i. record { time = line.time; session = name i; command = Start (levels i) })
        by_name false named same = absurd cc
    by_command (AddPair primary secondary group) is = absurd cc
    by_command (DelPair choice) is = absurd cc
    by_command (Suspend choice) is = absurd cc
    by_command Query is = absurd cc
    by_command End is = absurd cc

-- ---- the lines before it

-- The lines that were heard of a script by a run whose session hasn't started, so many: none of them starts it.
pub record HasHeardLines (session : List ℕ) (began now : PlantState) (number before : ℕ) : Type 0 where
  pub lines : List Answered
  pub asked : AreAsked began.script lines
  pub unstarted : All (λ a. level_started session a.line ≡ None) lines
  pub script : began.script ≡ texts_of lines ++ now.script
  pub heard : now.heard now.clock ≡ began.heard began.clock ++ texts_of lines
  pub counted : number ≡ length lines + 1
  pub time : last_line_time lines (length lines) ≡ before

-- At first it is none.
pub none_heard : (session : List ℕ) (began : PlantState) → HasHeardLines session began began 1 0
none_heard session began = record { lines = []; asked = λ n a at. absurd cc; unstarted = All-nil (λ (a : Answered). level_started session a.line ≡ None); script = refl; heard = sym (append-nil (began.heard began.clock)); counted = refl; time = refl }

module _ (session : List ℕ) (tells : Type 0) (told : tells) (began old mid : PlantState) (number before : ℕ) (text : List ℕ) (line : Line) (was : HasHeardLines session began old number before) (hears : HearsText text old mid) (is : IsNextLine tells number before text mid.script (next.Line line)) where
  script_now : began.script ≡ texts_of was.lines ++ text ++ mid.script
  script_now = was.script ∙ ap (λ (l : List ℕ). texts_of was.lines ++ l) hears.script ∙ sym (append_assoc (texts_of was.lines) text mid.script)

  pub heard_now : mid.heard mid.clock ≡ began.heard began.clock ++ (texts_of was.lines ++ text)
  heard_now = hears.heard ∙ ap (λ (l : List ℕ). l ++ text) was.heard ∙ append_assoc (began.heard began.clock) (texts_of was.lines) text

  -- The line that was heard is the next one.
  asks_line : next_line (length was.lines) (last_line_time was.lines (length was.lines)) (nat_eq (length (texts_of was.lines ++ text)) (length began.script)) text ≡ Some line
  asks_line = next_is_line tells told began.script was.lines text mid.script line number before script_now is was.counted was.time

  -- A start stands there.
  pub start_heard : (level : Level) → level_started session line ≡ Some level → IsStartOfScript session level line.time.0 began.script was.lines text
  start_heard level starts = record {
    asked = was.asked;
    unstarted = was.unstarted;
    asks = asks_line ∙ ap (λ (x : Line). Some x) (start_is session line level starts);
    one_line = next_one tells number before text mid.script (next.Line line) is;
    left = mid.script;
    front = script_now;
  }

  -- Another line was heard after them, and nothing more meanwhile.
  pub lines_heard : (new : PlantState) → HearsNothing mid new → level_started session line ≡ None → HasHeardLines session began new (number + 1) line.time.0
  lines_heard new unheard refused =
      let a : Answered = record { text = text; line = line; reply = []; changes = []; hits = []; table = new_table session } in
      record {
        lines = was.lines ++ a ∷ [];
        asked = asked_more began.script was.lines a was.asked (record { asks = asks_line; one_line = next_one tells number before text mid.script (next.Line line) is });
        unstarted =
            All-append (λ (x : Answered). level_started session x.line ≡ None) was.lines (a ∷ []) was.unstarted
            (All-cons (λ (x : Answered). level_started session x.line ≡ None) a [] refused (All-nil (λ (x : Answered). level_started session x.line ≡ None)));
        script = script_now ∙ ap (λ (l : List ℕ). texts_of was.lines ++ text ++ l) (sym unheard.script) ∙ ap (λ (l : List ℕ). l ++ new.script) (sym (texts_more was.lines a));
        heard = unheard.heard ∙ heard_now ∙ ap (λ (l : List ℕ). began.heard began.clock ++ l) (sym (texts_more was.lines a));
        counted = omega (arith, was.counted, length_push was.lines a);
        time = last_more was.lines a;
      }
