-- Flags that are 1 at the time of an accepted end alone.
use Rattle.std.proofs.Common.{◌≡◌, inl, inr, ℕ, Bool, true, false, List, [], ◌∷◌, Option, Some, None, refl, sym, subst, ◌∙◌}
use Rattle.std.specs.Prelude.{IfSome}
use Rattle.std.specs.List.{All, list_all}
use Rattle.std.proofs.lemmas.Bool.{and_parts}
use Rattle.std.proofs.lemmas.List.Elements.{All-cons, All-head, All-nil, All-tail}
use Rattle.pair_table.specs.Tables.{Table}
use Rattle.row_changes.specs.Changes.{Timed}
use Rattle.xrc_command.specs.declared.line.Line.{Line}
use Rattle.consistency.specs.Stages.{IsFlag, ScriptRun, Stage, accepts_end}
use Rattle.consistency.specs.Bearing.{IsFlagInTime, MayBeMeant, MayBeMeantInTime}
use Rattle.consistency.specs.Leads.{Point}
use Rattle.passages.specs.Points.{AreLinked}
use Rattle.consistency.specs.Ways.{ComesNext, IsCommanding, IsEnding, IsLegOf, IsMarking, Leg, PassedPoint, is_on_the_way, leg_after, stage_point}
use Rattle.consistency.proofs.Legs.{ends_alike, leg_goes}
use Rattle.consistency.proofs.OnTheWay.{leg_after_way, point_after}

pub flags_may_be : (run : ScriptRun) (s : Stage) (time : ℕ) (flag : Bool) → IsFlagInTime run s time flag → IsFlag run s flag
flags_may_be run s time flag (inl same) = inr same
flags_may_be run s time flag (inr ended) = inl ended.0

pub stage_in_time : (run : ScriptRun) (s : Stage) → MayBeMeant run s (stage_point s) → MayBeMeantInTime run s (stage_point s)
stage_in_time run s may = record { may = may; flag = inl refl }

module _ (run : ScriptRun) (s : Stage) (goes : s.table.is_ended ≡ false) where
  going_flag : (p : Point) → p.is_ended ≡ false → MayBeMeant run s p → MayBeMeantInTime run s p
  going_flag p on may = record { may = may; flag = inl (on ∙ sym goes) }

  pub leg_in_time : (l : Leg) → IsLegOf run s l → MayBeMeant run s l.point → MayBeMeantInTime run s l.point
  leg_in_time l leg may = going_flag l.point (leg_goes run s goes l leg) may

  pub ways_in_time : (asked : ℕ → Option Line) (l : Leg) (points : List PassedPoint) → IsLegOf run s l → list_all is_on_the_way points ≡ true → AreLinked (ComesNext run asked) leg_after l points
      → All (λ n. MayBeMeant run s n.point) points → All (λ n. MayBeMeantInTime run s n.point) points
  ways_in_time asked l [] leg on linked may = All-nil (λ (n : PassedPoint). MayBeMeantInTime run s n.point)
  ways_in_time asked l (n ∷ points) leg on linked may =
      let parts = and_parts (is_on_the_way n) (list_all is_on_the_way points) on in
      let come = leg_after_way run s asked l n leg parts.0 linked.0 in
      let goes_there = subst (λ (p : Point). p.is_ended ≡ false) (point_after l n parts.0) (leg_goes run s goes (leg_after l n) come) in
      All-cons (λ (m : PassedPoint). MayBeMeantInTime run s m.point) n points (going_flag n.point goes_there (All-head (λ (m : PassedPoint). MayBeMeant run s m.point) n points may))
      (ways_in_time asked (leg_after l n) points come parts.1 linked.1 (All-tail (λ (m : PassedPoint). MayBeMeant run s m.point) n points may))

  pub command_in_time : (l : Leg) (q : Point) (hits : List Timed) → IsLegOf run s l → IsCommanding run s.next l q hits → MayBeMeant run s q → MayBeMeantInTime run s q
  command_in_time l q hits leg commanding may =
      let on = leg_goes run s goes l leg in
      going_flag q ((commanding.active on).leads.leads.goes_on ∙ on) may

  pub mark_in_time : (l : Leg) (q : Point) (hits : List Timed) → IsLegOf run s l → IsMarking run s.next l q hits → MayBeMeant run s q → MayBeMeantInTime run s q
  mark_in_time l q hits leg marking may = going_flag q (marking.leads.leads.goes_on ∙ leg_goes run s goes l leg) may

  pub ending_in_time : (l : Leg) (q r : Point) (hits more : List Timed) → IsLegOf run s l → IsCommanding run s.next l q hits → IsEnding run s.next q r more → MayBeMeant run s r → MayBeMeantInTime run s r
  ending_in_time l q r hits more leg commanding ending may =
      let not_ended : q.is_ended ≡ (stage_point s).is_ended = (commanding.active (leg_goes run s goes l leg)).leads.leads.goes_on ∙ leg.whole.leads.goes_on in
      let accepted = subst (λ (x : Table). accepts_end run x s.next ≡ true) (sym leg.table) (ends_alike run q (stage_point s) s.next not_ended ending.accepted) in
      record { may = may; flag = inr (accepted, ending.ended, at_line s.next ending.at) }
    where
      at_line : (o : Option Line) → IfSome o (λ line. q.time ≡ line.time.0) → IfSome o (λ line. r.time ≡ line.time.0)
      at_line None at = tt
      at_line (Some line) at = ending.leads.at ∙ at
