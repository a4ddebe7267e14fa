-- What an exact reply looks at: of the points before its command, and of none before the start.
use Rattle.std.proofs.Common.{◌≡◌, ◌⊎◌, inl, inr, ℕ, ◌<◌, ◌≤◌, Bool, true, false, true≢false, List, [], ◌∷◌, ◌++◌, length, Option, Some, refl, sym, ap, subst, ◌∙◌, arith}
use Rattle.std.specs.Prelude.{◌&&◌, ◌||◌, not, fold, Result, Ok, Err, bytes_eq, if◌then◌else◌}
use Rattle.std.specs.Option.{option_map}
use Rattle.std.proofs.lemmas.Bool.{cases_lt}
use Rattle.std.proofs.lemmas.Option.{slice_get_within}
use Rattle.pair_table.specs.declared.command.Change.{Change}
use Rattle.pair_table.specs.declared.command.Command.{Command}
use Rattle.pair_table.specs.declared.command.Command.TheVariants.{Start, AddPair, DelPair, Suspend, Query, End}
use Rattle.pair_table.specs.declared.command.Refusal.{Refusal}
use Rattle.pair_table.specs.declared.command.Refusal.TheVariants.{Ended, NoSession}
use Rattle.pair_table.specs.Commands.{answer, answer_by, change_of}
use Rattle.pair_table.specs.Naming.{Naming}
use Rattle.pair_table.specs.Refusals.{refusal, refuses_command}
use Rattle.pair_table.specs.Tables.{Table}
use Rattle.sidefile.specs.Breaks.{stamp}
use Rattle.xquery_report.specs.Replies.{answer_part, command_part, said_part}
use Rattle.tod_stamp.specs.Stamps.{stamp_text}
use Rattle.xrc_command.specs.declared.line.Line.{Line}
use Rattle.consistency.specs.Answering.{ReplyContent, points_before, reply_content, tracks_of_command}
use Rattle.consistency.specs.Stages.{ScriptRun, Stage, breaks_of, names_of}
use Rattle.consistency.specs.Courses.{Answered, stage_at}
use Rattle.consistency.specs.Leads.{Point}
use Rattle.consistency.specs.Replying.{IsExact, own_line, report_before, said_tracks}
use Rattle.consistency.specs.Steps.{names_at, table_on_the_way}
use Rattle.consistency.specs.Ways.{Leg, PassedPoint, leg_after, leg_at}
use Rattle.passages.specs.Points.{last_point}
use Rattle.consistency.proofs.Lines.{at_or_last, same_some, stage_front}
use Rattle.xrc_session.specs.Trails.{AreExact, AreNext, IsExactBy, BeginsAtStart, Trail, asked_with, first_leg, last_leg, with_points}
use Rattle.xrc_session.proofs.Asked.{later_points}

-- ---- the reply's own line

-- It tells tracks of an added pair alone.
pub part_told : (c : Command) (r : Result Change Refusal) (a b : ℕ) → said_tracks c r a ≡ said_tracks c r b → answer_part c r a ≡ answer_part c r b
part_told c (Err why) a b same = refl
part_told (AddPair primary secondary group) (Ok change) a b same = ap (λ (n : ℕ). answer_part (AddPair primary secondary group) (Ok change) n) (same_some a b same)
part_told (Start level) (Ok change) a b same = refl
part_told (DelPair choice) (Ok change) a b same = refl
part_told (Suspend choice) (Ok change) a b same = refl
part_told Query (Ok change) a b same = refl
part_told End (Ok change) a b same = refl

pub own_line_told : (line : Line) (x y : ReplyContent) → x.answer ≡ y.answer → x.time ≡ y.time → said_tracks line.command x.answer x.tracks ≡ said_tracks line.command y.answer y.tracks → own_line line x ≡ own_line line y
own_line_told line x y answers times tracks =
    ap (λ (p : List ℕ). stamp_text line.time.0 ++ command_part line.command ++ p ++ said_part (option_map stamp x.time) ++ 10 ∷ [])
    (part_told line.command x.answer x.tracks y.tracks (tracks ∙ ap (λ (r : Result Change Refusal). said_tracks line.command r y.tracks) (sym answers)) ∙ ap (λ (r : Result Change Refusal). answer_part line.command r y.tracks) answers)
    ∙ ap (λ (t : Option ℕ). stamp_text line.time.0 ++ command_part line.command ++ answer_part line.command y.answer y.tracks ++ said_part (option_map stamp t) ++ 10 ∷ []) times

-- ---- before the start

-- No pair is added before the start.
pub refuses_unstarted : (names : Naming) (table : Table) (session primary secondary : List ℕ) (group : Option (List ℕ)) → table.is_started ≡ false → (why : Refusal) × (refusal names table session (AddPair primary secondary group) ≡ Some why)
refuses_unstarted names table session primary secondary group is =
    subst (λ (b : Bool). (why : Refusal) × (refusal names (record table { is_started = b }) session (AddPair primary secondary group) ≡ Some why)) (sym is) (by_both table.is_ended (bytes_eq session table.session) (refuses_command names table.rows (AddPair primary secondary group)))
  where
    by_both : (e b : Bool) (rest : Option Refusal) → (why : Refusal) × ((if e then Some Ended else if not b || (not false && not false) then Some NoSession else if false && false then Some NoSession else rest) ≡ Some why)
    by_both true b rest = (Ended, refl)
    by_both false true rest = (NoSession, refl)
    by_both false false rest = (NoSession, refl)

pub unstarted_told : (names : Naming) (table : Table) (session : List ℕ) (c : Command) → table.is_started ≡ false → (a b : ℕ) → said_tracks c (answer names table session c) a ≡ said_tracks c (answer names table session c) b
unstarted_told names table session (Start level) is a b = refl
unstarted_told names table session (DelPair choice) is a b = refl
unstarted_told names table session (Suspend choice) is a b = refl
unstarted_told names table session Query is a b = refl
unstarted_told names table session End is a b = refl
unstarted_told names table session (AddPair primary secondary group) is a b =
    let why = refuses_unstarted names table session primary secondary group is in
    ap (λ (o : Option Refusal). said_tracks (AddPair primary secondary group) (answer_by o (change_of names (AddPair primary secondary group) table.rows)) a) why.1
    ∙ sym (ap (λ (o : Option Refusal). said_tracks (AddPair primary secondary group) (answer_by o (change_of names (AddPair primary secondary group) table.rows)) b) why.1)

-- A reply before the start looks at no points.
pub exact_any : (run : ScriptRun) (s : Stage) (first other : Point) (points more : List PassedPoint) (n m : ℕ) (a : Answered) → s.table.is_started ≡ false → IsExact run s first points n a → IsExact run s other more m a
exact_any run s first other points more n m a unstarted exact =
    let table = table_on_the_way run.level a.changes s.table in
    let x = reply_content run s first points n a in
    let y = reply_content run s other more m a in
    exact ∙ ap (λ (l : List ℕ). report_before run table a.line ++ l)
    (own_line_told a.line x y refl refl (unstarted_told (names_at a.line.time.0 (breaks_of run) (names_of run)) table a.line.session a.line.command unstarted x.tracks y.tracks))

-- ---- the points before its command

pub content_before : (run : ScriptRun) (s : Stage) (first : Point) (xs ys : List PassedPoint) (number : ℕ) (a : Answered) → points_before number xs ≡ points_before number ys → reply_content run s first xs number a ≡ reply_content run s first ys number a
content_before run s first xs ys number a same =
    let table = table_on_the_way run.level a.changes s.table in
    ap (λ (points : List PassedPoint). record (reply_content run s first xs number a) { tracks = tracks_of_command run first points table.rows a.line.time.0 a.line.command }) same

exact_before : (run : ScriptRun) (s : Stage) (first : Point) (xs ys : List PassedPoint) (number : ℕ) (a : Answered) → points_before number xs ≡ points_before number ys → IsExact run s first xs number a → IsExact run s first ys number a
exact_before run s first xs ys number a same exact =
    exact ∙ ap (λ (c : ReplyContent). report_before run (table_on_the_way run.level a.changes s.table) a.line ++ own_line a.line c) (content_before run s first xs ys number a same)

-- ---- with the changes of its line

-- Before the start there are none to bring.
pub exactly_any : (run : ScriptRun) (s : Stage) (first other : Leg) (points more : List PassedPoint) (n m : ℕ) (a : Answered) → s.table.is_started ≡ false → IsExactBy run s first points n a → IsExactBy run s other more m a
exactly_any run s first other points more n m a unstarted is = record {
  exact = exact_any run s first.point other.point points more n m a unstarted is.exact;
  brings = λ on. absurd (true≢false (sym on ∙ unstarted));
}

exactly_before : (run : ScriptRun) (s : Stage) (first : Leg) (xs ys : List PassedPoint) (number : ℕ) (a : Answered) → points_before number xs ≡ points_before number ys → IsExactBy run s first xs number a → IsExactBy run s first ys number a
exactly_before run s first xs ys number a same is = record {
  exact = exact_before run s first.point xs ys number a same is.exact;
  brings = λ on. record {
    changes = ap (λ (points : List PassedPoint). (fold leg_after first points).changes) (sym same) ∙ (is.brings on).changes;
    rows = ap (λ (points : List PassedPoint). (last_point first.point points).rows) (sym same) ∙ (is.brings on).rows;
  };
}

-- ---- the replies of a trail

module _ (run : ScriptRun) (lines : List Answered) (trail : Trail) (begins : BeginsAtStart run lines trail) where
  -- They stay exact while more points are passed, where all lines are answered at the last leg.
  pub exact_stays : (next : Option Line) (more : List PassedPoint) → AreNext run lines next trail → length lines ≤ (last_leg run lines trail).answered → AreExact run lines trail → AreExact run lines (with_points more trail)
  exact_stays next more linked all exact n a at = by_side (cases_lt n trail.started)
    where
      below : n < length lines
      below = slice_get_within lines n a at

      by_side : (n < trail.started) ⊎ (trail.started ≤ n) → IsExactBy run (stage_at run lines n) (first_leg run lines trail) (trail.points ++ more) n a
      by_side (inl early) =
          exactly_any run (stage_at run lines n) (first_leg run lines trail) (first_leg run lines trail) trail.points (trail.points ++ more) n n a (begins.before n early (omega (arith, below))) (exact n a at)
      by_side (inr late) =
          exactly_before run (stage_at run lines n) (first_leg run lines trail) trail.points (trail.points ++ more) n a
          (sym (later_points run (asked_with lines next) (first_leg run lines trail) trail.points more n late (omega (arith, below, all)) linked)) (exact n a at)

  -- The first leg is the same after one line more, once the session has started.
  pub first_more : (a : Answered) → trail.started ≤ length lines → first_leg run (lines ++ a ∷ []) trail ≡ first_leg run lines trail
  first_more a within = ap (λ (s : Stage). leg_at s trail.started) (stage_front run lines (a ∷ []) trail.started within)

  -- One reply more is exact, too.
  pub exact_more : (a : Answered) → AreExact run lines trail → IsExactBy run (stage_at run lines (length lines)) (first_leg run (lines ++ a ∷ []) trail) trail.points (length lines) a → AreExact run (lines ++ a ∷ []) trail
  exact_more a exact one n b at = elim (at_or_last lines a n b at) [
    | inl here ↦ front n b (omega (arith, slice_get_within lines n b here)) (earlier n b (omega (arith, slice_get_within lines n b here)) (exact n b here))
    | inr last ↦ front n b (omega (arith, last.0)) (there n b last.0 last.1)
  ]
    where
      front : (n : ℕ) (b : Answered) → n ≤ length lines → IsExactBy run (stage_at run lines n) (first_leg run (lines ++ a ∷ []) trail) trail.points n b → IsExactBy run (stage_at run (lines ++ a ∷ []) n) (first_leg run (lines ++ a ∷ []) trail) trail.points n b
      front n b within is = subst (λ (s : Stage). IsExactBy run s (first_leg run (lines ++ a ∷ []) trail) trail.points n b) (sym (stage_front run lines (a ∷ []) n within)) is

      there : (n : ℕ) (b : Answered) → n ≡ length lines → a ≡ b → IsExactBy run (stage_at run lines n) (first_leg run (lines ++ a ∷ []) trail) trail.points n b
      there n b is same =
          subst (λ (x : Answered). IsExactBy run (stage_at run lines n) (first_leg run (lines ++ a ∷ []) trail) trail.points n x) same
          (subst (λ (m : ℕ). IsExactBy run (stage_at run lines m) (first_leg run (lines ++ a ∷ []) trail) trail.points m a) (sym is) one)

      earlier : (n : ℕ) (b : Answered) → n ≤ length lines → IsExactBy run (stage_at run lines n) (first_leg run lines trail) trail.points n b → IsExactBy run (stage_at run lines n) (first_leg run (lines ++ a ∷ []) trail) trail.points n b
      earlier n b within is = by_side (cases_lt (length lines) trail.started)
        where
          by_side : (length lines < trail.started) ⊎ (trail.started ≤ length lines) → IsExactBy run (stage_at run lines n) (first_leg run (lines ++ a ∷ []) trail) trail.points n b
          by_side (inl now) = exactly_any run (stage_at run lines n) (first_leg run lines trail) (first_leg run (lines ++ a ∷ []) trail) trail.points trail.points n n b (begins.before n (omega (arith, now, within)) within) is
          by_side (inr since) = subst (λ (l : Leg). IsExactBy run (stage_at run lines n) l trail.points n b) (sym (first_more a since)) is
