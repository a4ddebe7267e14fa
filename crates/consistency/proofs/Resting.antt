-- What choices bear where nothing changed since the last reply, and when a line was heard.
use Rattle.std.proofs.Common.{◌≡◌, ◌⊎◌, inl, inr, ℕ, ◌≤◌, Bool, true, false, not, List, Option, Some, None, refl, sym, ap, subst, ◌∙◌, arith}
use Rattle.std.specs.Prelude.{is_none}
use Rattle.row_changes.specs.Changes.{may_all_come}
use Rattle.row_changes.specs.Changes.Due.{NoneDue}
use Rattle.row_changes.proofs.Leading.{due_wider}
use Rattle.crash_plant.specs.Choices.{Choice}
use Rattle.crash_plant.specs.Moments.{PlantState}
use Rattle.site_means.specs.Images.{Images, Shape, shape_of}
use Rattle.xrc_command.specs.declared.line.Line.{Line}
use Rattle.consistency.specs.Bearing.{Bears}
use Rattle.consistency.specs.Stages.{AreAfterLine, AreOnTheWay, IsFlag, IsTime, ScriptRun, Stage, breaks_of}
use Rattle.consistency.specs.Moments.{BearsTime}

-- ---- a line is heard

-- Where no line was heard the time is the one that was replied.
pub exact_time : (run : ScriptRun) (s : Stage) (shape : Shape) (images : Images) (time : ℕ) → s.next ≡ None → Bears run s shape images time → time ≡ s.replied
exact_time run s shape images time none b = sym b.at ∙ exact s.next none b.may.in_time
  where
    exact : (n : Option Line) → n ≡ None → IsTime (record s { next = n }) b.point.time → b.point.time ≡ s.replied
    exact None is t = t.1
    exact (Some line) is t = absurd cc

-- What is borne where no line was heard is borne with any line that isn't before the last reply.
pub bears_heard : (run : ScriptRun) (s : Stage) (heard : Option Line) (shape : Shape) (images : Images) (time : ℕ) → s.next ≡ None → ((line : Line) → heard ≡ Some line → s.replied ≤ line.time.0) → Bears run s shape images time
    → Bears run (record s { next = heard }) shape images time
bears_heard run s heard shape images time none later b = record {
  point = b.point;
  at = b.at;
  shows = b.shows;
  may = record {
    ended = inr (flagged s.next none b.may.ended);
    in_time = (b.may.in_time.0, timed heard later);
    rows = rested s.table.is_ended b.may.rows;
  };
}
  where
    exactly : b.point.time ≡ s.replied
    exactly = b.at ∙ exact_time run s shape images time none b

    flagged : (n : Option Line) → n ≡ None → IsFlag run (record s { next = n }) b.point.is_ended → b.point.is_ended ≡ s.table.is_ended
    flagged None is (inl accepted) = absurd cc
    flagged None is (inr same) = same
    flagged (Some line) is flag = absurd cc

    timed : (n : Option Line) → ((line : Line) → n ≡ Some line → s.replied ≤ line.time.0) → (let T : Type 0 = elim n [ None ↦ b.point.time ≡ s.replied | Some line ↦ elim s.table.is_ended [ true ↦ b.point.time ≡ s.replied | false ↦ b.point.time ≤ line.time.0 ] ] in T)
    timed None later = exactly
    timed (Some line) later = by_end s.table.is_ended
      where
        by_end : (e : Bool) → (let T : Type 0 = elim e [ true ↦ b.point.time ≡ s.replied | false ↦ b.point.time ≤ line.time.0 ] in T)
        by_end true = exactly
        by_end false = omega (arith, exactly, later line refl)

    none_due : not (is_none s.next) ≡ false
    none_due = ap (λ (n : Option Line). not (is_none n)) none

    rested : (e : Bool) → (let T : Type 0 = elim e [ true ↦ b.point.rows ≡ s.table.rows | false ↦ AreOnTheWay run s b.point.time b.point.rows ⊎ AreAfterLine run s b.point.time b.point.rows ] in T)
        → (let T : Type 0 = elim e [ true ↦ b.point.rows ≡ s.table.rows | false ↦ AreOnTheWay run (record s { next = heard }) b.point.time b.point.rows ⊎ AreAfterLine run (record s { next = heard }) b.point.time b.point.rows ] in T)
    rested true same = same
    rested false (inl way) = inl (record {
      changes = way.changes;
      toward = record {
        may_come = due_wider run.level (breaks_of run) (not (is_none heard)) NoneDue s.replied b.point.time s.table.rows way.changes
            (subst (λ (d : Bool). may_all_come run.level (breaks_of run) d NoneDue s.replied b.point.time s.table.rows way.changes ≡ true) none_due way.toward.may_come);
        broken = way.toward.broken;
      };
      counted = way.counted;
      made = way.made;
    })
    rested false (inr after) = absurd (differ s.next after.line none after.heard)
      where
        differ : (n : Option Line) (line : Line) → n ≡ None → n ≡ Some line → ⊥
        differ None line is heard = cc
        differ (Some l) line is heard = cc

pub bears_time_heard : (run : ScriptRun) (s : Stage) (heard : Option Line) (said : List ℕ) (plant : PlantState) (c : Choice) → s.next ≡ None → ((line : Line) → heard ≡ Some line → s.replied ≤ line.time.0) → BearsTime run s said plant c
    → BearsTime run (record s { next = heard }) said plant c
bears_time_heard run s heard said plant c none later b = record { time = b.time; bears = bears_heard run s heard (shape_of plant) c b.time none later b.bears; not_earlier = b.not_earlier }
