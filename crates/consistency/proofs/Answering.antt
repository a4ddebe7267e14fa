-- Lines that are answered at the end of a leg.
use Rattle.std.proofs.Common.{◌≡◌, ◌⊎◌, inl, inr, ℕ, suc, ◌≤◌, Bool, true, false, not, ◌&&◌, ◌||◌, List, [], ◌∷◌, ◌++◌, Option, Some, None, refl, sym, ap, subst, ◌∙◌, append-nil}
use Rattle.std.specs.Prelude.{bytes_eq, is_none, is_ok, if◌then◌else◌}
use Rattle.std.proofs.lemmas.Bool.{eq-eqb}
use Rattle.pair_table.specs.declared.command.Change.{Change}
use Rattle.pair_table.specs.declared.command.Command.{Command}
use Rattle.pair_table.specs.declared.command.Command.TheVariants.{Start}
use Rattle.pair_table.specs.declared.command.Refusal.{Refusal}
use Rattle.pair_table.specs.declared.command.Refusal.TheVariants.{Ended, NoSession, SessionExists}
use Rattle.pair_table.specs.declared.level.Level.{Level}
use Rattle.pair_table.specs.Commands.{accepted, answer_by, change_of, is_end}
use Rattle.pair_table.specs.Refusals.{refusal}
use Rattle.pair_table.specs.Tables.{Table}
use Rattle.row_changes.specs.Changes.{Timed}
use Rattle.row_changes.specs.Spans.{AreCounted, hit_count}
use Rattle.xrc_command.specs.declared.line.Line.{Line}
use Rattle.consistency.specs.Stages.{ScriptRun, Stage, accepts, accepts_end, breaks_of, names_of}
use Rattle.consistency.specs.Courses.{Answered, IsAnswered, stage_after}
use Rattle.consistency.specs.Replies.{IsReply}
use Rattle.consistency.specs.Steps.{commanded, is_active, names_at, table_after_line, table_on_the_way}
use Rattle.consistency.specs.Answering.{answered_by, is_command_of, points_before, reply_content, tracks_of_command}
use Rattle.consistency.specs.Leads.{LeadsWhole, Point}
use Rattle.consistency.specs.Ways.{IsCommanding, IsEnding, IsLegOf, Leg, PassedPoint, TakesEffect, Way, going_on, hits_through, leg_by, table_at, stage_point}
use Rattle.consistency.specs.Ways.Way.{Commanded, Ending, MarkedFor}
use Rattle.consistency.proofs.CountingHits.{counted_through, counted_to_end}
use Rattle.consistency.proofs.Leading.{whole_itself}
use Rattle.consistency.proofs.Legs.{at_end, effect_is_hit, ends_alike, ends_there, is_step, leg_goes, table_there, rows_of_line}

-- ---- the answer

-- A started session is never started again.
never_twice : (e same : Bool) {X : Type 0} (a b c : X) (rest : Option X) → is_none (if e then Some a else if not same || (not true && not true) then Some b else if true && true then Some c else rest) ≡ false
never_twice true same a b c rest = refl
never_twice false true a b c rest = refl
never_twice false false a b c rest = refl

not_started_twice : (run : ScriptRun) (p : Point) (line : Line) (level : Level) → line.command ≡ Start level → accepts run (table_at run p) line ≡ false
not_started_twice run p line level is =
    ap (λ (c : Command). accepts run (table_at run p) (record line { command = c })) is
    ∙ never_twice p.is_ended (bytes_eq line.session run.session) Ended NoSession SessionExists None

pub content_as_accepted : (run : ScriptRun) (s : Stage) (first : Point) (points : List PassedPoint) (number : ℕ) (text reply : List ℕ) (line : Line) (changes hits : List Timed)
    → is_ok (reply_content run s first points number (answered_by run s text reply line changes hits)).answer ≡ accepts run (table_on_the_way run.level changes s.table) line
content_as_accepted run s first points number text reply line changes hits =
    let table = table_on_the_way run.level changes s.table in
    let names = names_at line.time.0 (breaks_of run) (names_of run) in
    by_refusal (change_of names line.command table.rows) (refusal names table line.session line.command)
  where
    by_refusal : (change : Change) (o : Option Refusal) → is_ok (answer_by o change) ≡ is_none o
    by_refusal change None = refl
    by_refusal change (Some why) = refl

-- The points after a line's command, or after the mark that its record needed first, tell the reply nothing.
points_cut : (number : ℕ) (xs ys : List PassedPoint) (n : PassedPoint) → is_command_of number n.way ≡ true → points_before number (xs ++ n ∷ ys) ≡ points_before number xs
points_cut number [] ys n is = ap (λ (b : Bool). if b then [] else n ∷ points_before number ys) is
points_cut number (m ∷ xs) ys n is = ap (λ (l : List PassedPoint). if is_command_of number m.way then [] else m ∷ l) (points_cut number xs ys n is)

-- The command of a line, and the mark for its record, are of the line.
is_of_line : (way : Way) (number : ℕ) (hits : List Timed) → (way ≡ Commanded number hits) ⊎ (way ≡ MarkedFor number hits) → is_command_of number way ≡ true
is_of_line way number hits (inl command) = ap (is_command_of number) command ∙ eq-eqb number number refl
is_of_line way number hits (inr mark) = ap (is_command_of number) mark ∙ eq-eqb number number refl

pub told_before : (run : ScriptRun) (s : Stage) (first : Point) (xs ys : List PassedPoint) (n : PassedPoint) (number : ℕ) (hits : List Timed) (a : Answered) → (n.way ≡ Commanded number hits) ⊎ (n.way ≡ MarkedFor number hits)
    → reply_content run s first (xs ++ n ∷ ys) number a ≡ reply_content run s first xs number a
told_before run s first xs ys n number hits a is =
    let table = table_on_the_way run.level a.changes s.table in
    ap (λ (points : List PassedPoint). record (reply_content run s first xs number a) { tracks = tracks_of_command run first points table.rows a.line.time.0 a.line.command }) (points_cut number xs ys n (is_of_line n.way number hits is))

-- ---- a line of a session that goes on

module _ (run : ScriptRun) (s : Stage) (goes : s.table.is_ended ≡ false) (l : Leg) (leg : IsLegOf run s l) (line : Line) (q : Point) (hits : List Timed) (effect : TakesEffect run line l q hits) (text reply : List ℕ) where
  abbrev table_then : Table
  table_then = table_after_line run.level (breaks_of run) (names_of run) s.table line l.changes hits

  pub line_is_answered : AreCounted run.rises (s.past ++ l.changes ++ hits) → IsReply (accepts run (table_at run l.point) line) line reply → IsAnswered run s (answered_by run s text reply line l.changes hits)
  line_is_answered counted said = record {
    step = is_step run s goes l leg line q hits effect;
    counted = counted;
    level = λ level is accepted. absurd (differ (accepts run (table_at run (stage_point s)) line) (subst (λ (x : Table). accepts run x line ≡ true) leg.table accepted) (not_started_twice run (stage_point s) line level is));
    is_reply = subst (λ (x : Table). IsReply (accepts run x line) line reply) (table_there run s goes l leg line q hits effect) said;
  }
    where
      differ : (b : Bool) → b ≡ true → b ≡ false → ⊥
      differ true on off = cc
      differ false on off = cc

  -- The session stays started, under its name.
  named : (b : Bool) → (let y : Table = table_on_the_way run.level hits (if b then accepted (names_at line.time.0 (breaks_of run) (names_of run)) line.time.0 line.command (table_at run l.point) else table_at run l.point) in
      y ≡ record { session = run.session; is_started = true; is_ended = y.is_ended; rows = y.rows })
  named true = refl
  named false = refl

  table_named : table_then ≡ record { session = run.session; is_started = true; is_ended = table_then.is_ended; rows = table_then.rows }
  table_named =
      subst (λ (x : Table). let y : Table = table_on_the_way run.level hits (commanded (breaks_of run) (names_of run) x line) in y ≡ record { session = run.session; is_started = true; is_ended = y.is_ended; rows = y.rows })
      (table_there run s goes l leg line q hits effect)
      (named (is_none (refusal (names_at line.time.0 (breaks_of run) (names_of run)) (table_at run l.point) line.session line.command)))

  -- The next leg begins at the point, with the flag that the line leaves.
  abbrev leg_from : Point → (answered : ℕ) → (hit_before : (device : ℕ) → ℕ) → Leg
  leg_from r answered hit_before = record { point = r; replied = q.time; changes = []; marked = []; answered = answered; hit_before = hit_before }

  pub next_leg : (answered : ℕ) (hit_before : (device : ℕ) → ℕ) (flag : Bool) → ((device : ℕ) → hit_count device (s.past ++ l.changes ++ hits) ≤ hit_before device) → table_then.is_ended ≡ flag
      → IsLegOf run (stage_after s (answered_by run s text reply line l.changes hits)) (leg_from (record q { is_ended = flag }) answered hit_before)
  next_leg answered hit_before flag counted left = record {
    table = table_named;
    replied = at_reply;
    counted = counted;
    whole = subst (λ (p : Point). LeadsWhole run.level (breaks_of run) p (record q { is_ended = flag }) []) there (whole_itself run.level (breaks_of run) (record q { is_ended = flag }));
  }
    where
      at_reply : q.time ≡ (if s.table.is_ended then s.replied else line.time.0)
      at_reply = subst (λ (e : Bool). q.time ≡ (if e then s.replied else line.time.0)) (sym goes) (ends_there run s goes l leg line q hits effect)

      there : (let x : Point = record q { is_ended = flag } in x ≡ stage_point (stage_after s (answered_by run s text reply line l.changes hits)))
      there =
          λ i. record {
            time = at_reply i;
            rows = rows_of_line run s goes l leg line q hits effect i;
            due = at_end run s goes l leg line q hits effect i;
            is_ended = sym left i;
          }

  -- A line that is no accepted end leaves it going on.
  goes_by : (b e : Bool) → is_end line.command ≡ e → (let ends : Bool = elim e [ true ↦ b | false ↦ false ] in ends ≡ false) → (if b then accepted (names_at line.time.0 (breaks_of run) (names_of run)) line.time.0 line.command (table_at run l.point) else table_at run l.point).is_ended ≡ false
  goes_by true false is none = is
  goes_by true true is none = absurd cc
  goes_by false e is none = leg_goes run s goes l leg

  pub goes_still : accepts_end run (table_at run l.point) (Some line) ≡ false → table_then.is_ended ≡ q.is_ended
  goes_still is =
      subst (λ (x : Table). (commanded (breaks_of run) (names_of run) x line).is_ended ≡ false) (table_there run s goes l leg line q hits effect)
      (goes_by (is_none (refusal (names_at line.time.0 (breaks_of run) (names_of run)) (table_at run l.point) line.session line.command)) (is_end line.command) refl is)
      ∙ sym (effect.leads.leads.goes_on ∙ leg_goes run s goes l leg)

  -- A line that ends it, and is accepted, leaves it ended.
  pub ends_it : accepts_end run (table_at run l.point) (Some line) ≡ true → table_then.is_ended ≡ true
  ends_it accepted_end =
      subst (λ (x : Table). (commanded (breaks_of run) (names_of run) x line).is_ended ≡ true) (table_there run s goes l leg line q hits effect)
      (by_end (is_end line.command) refl accepted_end)
    where
      by_end : (e : Bool) → is_end line.command ≡ e → (let T : Type 0 = (elim e [ true ↦ accepts run (table_at run l.point) line | false ↦ false ]) ≡ true in T) → (commanded (breaks_of run) (names_of run) (table_at run l.point) line).is_ended ≡ true
      by_end true is holds = rw holds is
      by_end false is holds = absurd cc

-- A line is answered where the session isn't active: before its start, and once it has ended.
pub inactive_is_answered : (run : ScriptRun) (s : Stage) (text reply : List ℕ) (line : Line) → is_active s.table ≡ false → AreCounted run.rises s.past → ((level : Level) → line.command ≡ Start level → accepts run s.table line ≡ true → level ≡ run.level)
    → IsReply (accepts run s.table line) line reply → IsAnswered run s (answered_by run s text reply line [] [])
inactive_is_answered run s text reply line off counted level said = record {
  step = record { active = λ on. absurd (differ (is_active s.table) on off); still = λ still. (refl, refl); made = refl };
  counted = subst (λ (l : List Timed). AreCounted run.rises l) (sym (append-nil s.past) ∙ sym (append-nil (s.past ++ []))) counted;
  level = level;
  is_reply = said;
}
  where
    differ : (b : Bool) → b ≡ true → b ≡ false → ⊥
    differ true on is_off = cc
    differ false on is_off = cc

-- ---- legs after a line

module _ (run : ScriptRun) (s : Stage) (goes : s.table.is_ended ≡ false) (l : Leg) (leg : IsLegOf run s l) (q : Point) (hits : List Timed) (c : IsCommanding run s.next l q hits) (text reply : List ℕ) where
  pub command_is_answered : AreCounted run.rises (s.past ++ l.changes ++ hits) → IsReply (accepts run (table_at run l.point) c.line) c.line reply → IsAnswered run s (answered_by run s text reply c.line l.changes hits)
  command_is_answered = line_is_answered run s goes l leg c.line q hits (c.active (leg_goes run s goes l leg)) text reply

  pub leg_after_command : (number : ℕ) → accepts_end run (table_at run l.point) s.next ≡ false → IsLegOf run (stage_after s (answered_by run s text reply c.line l.changes hits)) (leg_by l q (Commanded number hits))
  leg_after_command number none =
      let effect = c.active (leg_goes run s goes l leg) in
      next_leg run s goes l leg c.line q hits effect text reply (suc l.answered) (hits_through l hits) q.is_ended (counted_through run s l leg hits)
      (goes_still run s goes l leg c.line q hits effect text reply (subst (λ (o : Option Line). accepts_end run (table_at run l.point) o ≡ false) c.heard none))

  pub leg_after_end : (r : Point) (more : List Timed) (number : ℕ) → IsEnding run s.next q r more
      → IsLegOf run (stage_after s (answered_by run s text reply c.line l.changes (hits ++ more))) (leg_by (leg_by l q (Commanded number hits)) r (Ending number more))
  leg_after_end r more number ending =
      let effect = c.active (leg_goes run s goes l leg) in
      let whole = effect_is_hit run s goes c.line l q (going_on r) hits more effect ending.leads in
      let alike = ends_alike run q l.point (Some c.line) effect.leads.leads.goes_on (subst (λ (o : Option Line). accepts_end run (table_at run q) o ≡ true) c.heard ending.accepted) in
      let before = hits_through (leg_by l q (Commanded number hits)) more in
      subst (λ (e : Bool). IsLegOf run (stage_after s (answered_by run s text reply c.line l.changes (hits ++ more))) (record { point = record r { is_ended = e }; replied = r.time; changes = []; marked = []; answered = suc l.answered; hit_before = before }))
      (sym ending.ended)
      (next_leg run s goes l leg c.line (going_on r) (hits ++ more) whole text reply (suc l.answered) before true (counted_to_end run s l leg hits more q number) (ends_it run s goes l leg c.line (going_on r) (hits ++ more) whole text reply alike))
