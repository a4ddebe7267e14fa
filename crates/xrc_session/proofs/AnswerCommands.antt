-- The points of a line's command: that of its record, and that of a mark which the record needs first.
use Rattle.std.proofs.Common.{◌≡◌, ◌⊎◌, inl, inr, ℕ, ◌≤◌, Bool, true, false, not, ◌&&◌, List, [], ◌∷◌, Option, Some, None, refl, sym, ap, subst, ◌∙◌, arith, append-nil, true≢false}
use Rattle.std.specs.Prelude.{is_none}
use Rattle.std.specs.List.{list_all, list_any}
use Rattle.std.proofs.lemmas.Bool.{le-leb}
use Rattle.pair_table.specs.declared.row.PairRow.{PairRow}
use Rattle.pair_table.specs.Tables.{is_of}
use Rattle.row_changes.specs.Changes.{Due, Timed, may_end}
use Rattle.row_changes.specs.Spans.{hit_count}
use Rattle.xrc_command.specs.declared.line.Line.{Line}
use Rattle.record_rows.specs.Hits.{due_once_marked, hit_changes, hit_now, marked_changes, rows_marked}
use Rattle.record_rows.specs.Records.{rows_with_hits}
use Rattle.record_rows.proofs.HitRows.{hit_have_rows}
use Rattle.consistency.specs.Stages.{IsTime, ScriptRun, Stage, accepts_end, breaks_of}
use Rattle.consistency.specs.Bearing.{MayBeMeant}
use Rattle.consistency.specs.Leads.{HitsLead, Point}
use Rattle.consistency.specs.Ways.{HasCountedHits, IsAtWork, IsCommanding, IsLegOf, IsMarking, Leg, MayTakeEffect, Way, commanded_point, hits_stand, leg_to, stage_point, table_at}
use Rattle.consistency.specs.Ways.Way.{Commanded, MarkedFor, OnTheWay}
use Rattle.consistency.proofs.Answering.{leg_after_command}
use Rattle.consistency.proofs.CountingHits.{command_is_counted, leg_is_counted, mark_is_counted}
use Rattle.consistency.proofs.Leading.{leads_itself, leads_rise}
use Rattle.consistency.proofs.Legs.{command_may_be_meant, leg_is_marked, leg_may_be_meant, mark_may_be_meant}
use Rattle.mover.specs.Working.{LinesAsked}
use Rattle.xrc_session.specs.Answering.{AreOfCommand, stage_then}
use Rattle.xrc_session.specs.Answering.AreOfCommand.{OfCommand, AfterMark}
use Rattle.xrc_session.proofs.AnswerAhead.{AreAhead, NextPoint, leg_after_points, leg_next, passed_at, passed_by}
use Rattle.xrc_session.proofs.AnswerHits.{hits_lead, hits_on_the_way, marked_lead}

-- Without a mark no hit has to stand after the command.
pub stand_none : (hits : List Timed) (rows : List PairRow) → hits_stand [] hits rows ≡ true
stand_none hits [] = refl
stand_none hits (r ∷ rows) = ap (λ (b : Bool). b && hits_stand [] hits rows) (le-leb 0 (hit_count r.device hits) (omega arith)) ∙ stand_none hits rows

-- No change leads to the same point.
no_hits_lead : (run : ScriptRun) (p : Point) → HitsLead run.level (breaks_of run) p p []
no_hits_lead run p = record { are_hits = refl; at = refl; leads = leads_itself run.level (breaks_of run) p }

-- ---- the points

-- the point with the rows that a line's command leaves, and the one after the hits of jobs that have failed
abbrev pub command_left : ScriptRun → Leg → Line → Point
command_left run l line = commanded_point run line l.point

abbrev pub command_hit : ScriptRun → Leg → Line → List Bool → Point
command_hit run l line failed = record (command_left run l line) { rows = rows_with_hits run.level l.point.time failed (command_left run l line).rows }

abbrev pub command_hits : ScriptRun → Leg → Line → List Bool → List Timed
command_hits run l line failed = hit_changes l.point.time (hit_now failed (command_left run l line).rows)

-- the point of a mark in which these devices are hit, and the way to it
abbrev pub mark_there : ScriptRun → Leg → (hit : List ℕ) → Point
mark_there run l [] = l.point
mark_there run l (d ∷ hit) = record l.point { rows = rows_marked l.point.time (d ∷ hit) l.point.rows; due = due_once_marked run.level l.point.time (d ∷ hit) }

abbrev pub mark_by : Leg → (hit : List ℕ) → Way
mark_by l [] = OnTheWay []
mark_by l (d ∷ hit) = MarkedFor l.answered (marked_changes l.point.time (d ∷ hit))

abbrev pub next_command : ScriptRun → Leg → Line → List Bool → NextPoint
next_command run l line failed = record { point = command_hit run l line failed; way = Commanded l.answered (command_hits run l line failed) }

abbrev pub next_quiet : ScriptRun → Leg → Line → NextPoint
next_quiet run l line = record { point = command_left run l line; way = Commanded l.answered [] }

abbrev pub next_mark : ScriptRun → Leg → (hit : List ℕ) → NextPoint
next_mark run l hit = record { point = mark_there run l hit; way = mark_by l hit }

-- ---- each comes next

module _ (run : ScriptRun) (stage : Stage) (asked : LinesAsked) (l : Leg) (line : Line) (leg : IsLegOf run stage l) (heard : stage.next ≡ Some line) (asked_is : asked l.answered ≡ Some line)
    (at_work : IsAtWork run asked l) (may : MayTakeEffect run line l) where
  goes : stage.table.is_ended ≡ false
  goes = sym leg.whole.leads.goes_on ∙ at_work.goes_on

  abbrev left : Point
  left = command_left run l line

  abbrev hit_point : List Bool → Point
  hit_point failed = command_hit run l line failed

  abbrev hits_of : List Bool → List Timed
  hits_of failed = command_hits run l line failed

  abbrev mark_point : (hit : List ℕ) → Point
  mark_point hit = mark_there run l hit

  abbrev command_next : List Bool → NextPoint
  command_next failed = next_command run l line failed

  abbrev quiet_next : NextPoint
  quiet_next = next_quiet run l line

  abbrev mark_next : (hit : List ℕ) → NextPoint
  mark_next hit = next_mark run l hit

  -- the leg after a mark with hits
  abbrev marked_leg : List Timed → Leg
  marked_leg marked = record l { marked = marked }

  effect : (marked : List Timed) → MayTakeEffect run line (marked_leg marked)
  effect marked = record { at = may.at; none_due = may.none_due; not_broken_yet = may.not_broken_yet; settled = may.settled }

  -- ---- the command

  commanding : (marked : List Timed) (o : Option Line) → o ≡ Some line → (failed : List Bool) → hits_stand marked (hits_of failed) (hit_point failed).rows ≡ true → (left.rows ≡ l.point.rows → ⊥)
      → IsCommanding run o (marked_leg marked) (hit_point failed) (hits_of failed)
  commanding marked o is failed stand differ = record {
    line = line;
    heard = is;
    stand = stand;
    recorded = λ on same. absurd (differ same);
    active = λ on. record { may = effect marked; leads = hits_lead run.level (breaks_of run) left may.none_due failed };
    ended = λ ended. absurd (true≢false (sym ended ∙ at_work.goes_on));
  }

  -- A command after which no hit stands.
  quiet_commanding : (o : Option Line) → o ≡ Some line → IsCommanding run o l left []
  quiet_commanding o is = record {
    line = line;
    heard = is;
    stand = subst (λ (marked : List Timed). hits_stand marked [] left.rows ≡ true) (sym at_work.none_marked) (stand_none [] left.rows);
    recorded = λ on same. refl;
    active = λ on. record { may = may; leads = no_hits_lead run left };
    ended = λ ended. absurd (true≢false (sym ended ∙ at_work.goes_on));
  }

  pub quiet_ahead : HasCountedHits run (leg_next l quiet_next) → AreAhead run stage asked l (quiet_next ∷ [])
  quiet_ahead counted = (
    ((refl, at_work.not_ending, quiet_commanding (asked l.answered) asked_is), counted),
    command_may_be_meant run stage goes l left [] leg (quiet_commanding stage.next heard) (command_is_counted run stage l leg left l.answered [] counted),
    tt,
  )

  ahead_by : (marked : List Timed) (failed : List Bool) → hits_stand marked (hits_of failed) (hit_point failed).rows ≡ true → (left.rows ≡ l.point.rows → ⊥) → HasCountedHits run (leg_next (marked_leg marked) (command_next failed))
      → AreAhead run stage asked (marked_leg marked) (command_next failed ∷ [])
  ahead_by marked failed stand differ counted = (
    ((refl, at_work.not_ending, commanding marked (asked l.answered) asked_is failed stand differ), counted),
    command_may_be_meant run stage goes (marked_leg marked) (hit_point failed) (hits_of failed) after (commanding marked stage.next heard failed stand differ)
        (command_is_counted run stage (marked_leg marked) after (hit_point failed) l.answered (hits_of failed) counted),
    tt,
  )
    where
      after : IsLegOf run stage (marked_leg marked)
      after = leg_is_marked run stage l l.point l.answered marked leg

  -- The command is ahead of the leg, if its record needs no mark.
  pub command_ahead : (failed : List Bool) → (left.rows ≡ l.point.rows → ⊥) → HasCountedHits run (leg_next l (command_next failed)) → AreAhead run stage asked l (command_next failed ∷ [])
  command_ahead failed differ counted =
      ahead_by l.marked failed (subst (λ (marked : List Timed). hits_stand marked (hits_of failed) (hit_point failed).rows ≡ true) (sym at_work.none_marked) (stand_none (hits_of failed) (hit_point failed).rows)) differ counted

  -- ---- a mark before it

  marking : (o : Option Line) → o ≡ Some line → (left.rows ≡ l.point.rows → ⊥) → (d : ℕ) (hit : List ℕ) → list_all (λ e. list_any (is_of e) l.point.rows) (d ∷ hit) ≡ true
      → IsMarking run o l (mark_point (d ∷ hit)) (marked_changes l.point.time (d ∷ hit))
  marking o is differ d hit have =
      record { line = line; heard = is; may = may; alters = differ; some = λ none. absurd cc; leads = marked_lead run.level (breaks_of run) l.point may.none_due d hit have }

  time_there : IsTime stage l.point.time
  time_there = (let rise = leads_rise run.level (breaks_of run) (stage_point stage) l.point l.changes leg.whole.leads in rise, timed stage.next heard)
    where
      timed : (n : Option Line) → n ≡ Some line → (let T : Type 0 = elim n [ None ↦ l.point.time ≡ stage.replied | Some m ↦ elim stage.table.is_ended [ true ↦ l.point.time ≡ stage.replied | false ↦ l.point.time ≤ m.time.0 ] ] in T)
      timed None is = absurd cc
      timed (Some m) is =
          let same : m ≡ line = cc in
          subst (λ (e : Bool). let T : Type 0 = elim e [ true ↦ l.point.time ≡ stage.replied | false ↦ l.point.time ≤ m.time.0 ] in T) (sym goes) (let at = may.at in let times = ap (λ (x : Line). x.time.0) same in omega (arith, at, times))

  -- The leg's own point may be meant still.
  pub here_meant : HasCountedHits run l → MayBeMeant run stage l.point
  here_meant counted =
      leg_may_be_meant run stage goes l leg time_there (leg_is_counted run stage l leg counted) (ap (λ (due : Due). may_end (not (is_none stage.next)) l.point.time due) may.none_due)

  -- A mark on the way leaves the leg as it was.
  leg_stays : leg_to l l.point [] ≡ l
  leg_stays = λ i. record l { changes = append-nil l.changes i }

  -- After a mark the command is ahead still.
  pub command_after_mark : (failed : List Bool) (hit : List ℕ) → hit_now failed l.point.rows ≡ hit → (left.rows ≡ l.point.rows → ⊥) → hits_stand (marked_changes l.point.time hit) (hits_of failed) (hit_point failed).rows ≡ true
      → HasCountedHits run l → HasCountedHits run (marked_leg (marked_changes l.point.time hit)) → HasCountedHits run (leg_next (marked_leg (marked_changes l.point.time hit)) (command_next failed))
      → AreAhead run stage asked l (mark_next hit ∷ command_next failed ∷ [])
  command_after_mark failed [] is differ stand here counted after = (
    ((at_work, hits_on_the_way run stage l l.point [] leg (no_hits_lead run l.point)), subst (HasCountedHits run) (sym leg_stays) here),
    here_meant here,
    subst (λ (x : Leg). AreAhead run stage asked x (command_next failed ∷ [])) (unmarked ∙ sym leg_stays) (ahead_by [] failed stand differ after),
  )
    where
      unmarked : marked_leg [] ≡ l
      unmarked = λ i. record l { marked = sym at_work.none_marked i }
  command_after_mark failed (d ∷ hit) is differ stand here counted after = (
    ((refl, at_work, marking (asked l.answered) asked_is differ d hit have), counted),
    mark_may_be_meant run stage goes l (mark_point (d ∷ hit)) (marked_changes l.point.time (d ∷ hit)) leg (marking stage.next heard differ d hit have)
        (mark_is_counted run stage l leg (mark_point (d ∷ hit)) l.answered (marked_changes l.point.time (d ∷ hit)) counted),
    ahead_by (marked_changes l.point.time (d ∷ hit)) failed stand differ after,
  )
    where
      have : list_all (λ e. list_any (is_of e) l.point.rows) (d ∷ hit) ≡ true
      have = subst (λ (hits : List ℕ). list_all (λ e. list_any (is_of e) l.point.rows) hits ≡ true) is (hit_have_rows failed l.point.rows)

  -- ---- the leg after the line

  -- The leg of the stage after the line begins there, if the command is no end that is accepted.
  pub quiet_leg_then : accepts_end run (table_at run l.point) stage.next ≡ false → IsLegOf run (stage_then run stage line l []) (leg_next l quiet_next)
  unfolding quiet_commanding
  quiet_leg_then none = leg_after_command run stage goes l leg left [] (quiet_commanding stage.next heard) [] [] l.answered none

  leg_then_by : (marked : List Timed) (failed : List Bool) → hits_stand marked (hits_of failed) (hit_point failed).rows ≡ true → (left.rows ≡ l.point.rows → ⊥) → accepts_end run (table_at run l.point) stage.next ≡ false
      → IsLegOf run (stage_then run stage line l (hits_of failed)) (leg_next (marked_leg marked) (command_next failed))
  unfolding commanding
  leg_then_by marked failed stand differ none =
      leg_after_command run stage goes (marked_leg marked) (leg_is_marked run stage l l.point l.answered marked leg) (hit_point failed) (hits_of failed) (commanding marked stage.next heard failed stand differ) [] [] l.answered none

  pub leg_then : (failed : List Bool) → (left.rows ≡ l.point.rows → ⊥) → accepts_end run (table_at run l.point) stage.next ≡ false → IsLegOf run (stage_then run stage line l (hits_of failed)) (leg_next l (command_next failed))
  leg_then failed differ none =
      leg_then_by l.marked failed (subst (λ (marked : List Timed). hits_stand marked (hits_of failed) (hit_point failed).rows ≡ true) (sym at_work.none_marked) (stand_none (hits_of failed) (hit_point failed).rows)) differ none

  pub leg_then_after_mark : (failed : List Bool) (hit : List ℕ) → (left.rows ≡ l.point.rows → ⊥) → hits_stand (marked_changes l.point.time hit) (hits_of failed) (hit_point failed).rows ≡ true
      → accepts_end run (table_at run l.point) stage.next ≡ false → IsLegOf run (stage_then run stage line l (hits_of failed)) (leg_after_points l (mark_next hit ∷ command_next failed ∷ []))
  leg_then_after_mark failed [] differ stand none = subst (λ (x : Leg). IsLegOf run (stage_then run stage line l (hits_of failed)) (leg_next x (command_next failed))) (sym leg_stays) (leg_then failed differ none)
  leg_then_after_mark failed (d ∷ hit) differ stand none = leg_then_by (marked_changes l.point.time (d ∷ hit)) failed stand differ none

-- ---- the points are of the line

module _ (run : ScriptRun) (l : Leg) (line : Line) where
  pub quiet_is_of_line : (t : ℕ) → AreOfCommand l.answered [] (passed_by (t ∷ []) (next_quiet run l line ∷ []))
  quiet_is_of_line t = OfCommand (passed_at t (next_quiet run l line)) refl

  pub command_is_of_line : (failed : List Bool) (t : ℕ) → AreOfCommand l.answered (command_hits run l line failed) (passed_by (t ∷ []) (next_command run l line failed ∷ []))
  command_is_of_line failed t = OfCommand (passed_at t (next_command run l line failed)) refl

  pub both_are_of_line : (failed : List Bool) (hit : List ℕ) (t u : ℕ) → AreOfCommand l.answered (command_hits run l line failed) (passed_by (t ∷ u ∷ []) (next_mark run l hit ∷ next_command run l line failed ∷ []))
  both_are_of_line failed hit t u = AfterMark (passed_at t (next_mark run l hit)) (passed_at u (next_command run l line failed) ∷ []) (by hit) (command_is_of_line failed u)
    where
      by : (h : List ℕ) → (mark_by l h ≡ OnTheWay []) ⊎ ((marked : List Timed) × (mark_by l h ≡ MarkedFor l.answered marked))
      by [] = inl refl
      by (d ∷ h) = inr (marked_changes l.point.time (d ∷ h), refl)
