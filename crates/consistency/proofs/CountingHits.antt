-- How often devices are hit on the way of a session.
use Rattle.std.proofs.Common.{◌≡◌, ℕ, ◌+◌, ◌≤◌, cond, List, ◌++◌, Option, ap, arith}
use Rattle.std.specs.Prelude.{max}
use Rattle.std.proofs.Math.Nat.{le-max_left, le-max_right}
use Rattle.std.proofs.lemmas.List.Sums.{sum_by-append}
use Rattle.row_changes.specs.Changes.{Timed}
use Rattle.row_changes.specs.Spans.{AreCounted, hit_count, hits}
use Rattle.xrc_command.specs.declared.line.Line.{Line}
use Rattle.consistency.specs.Stages.{ScriptRun, Stage}
use Rattle.consistency.specs.Leads.{Point}
use Rattle.consistency.specs.Ways.{ComesBy, HasCountedHits, IsLegOf, Leg, Way, hits_of_leg, hits_through, leg_by}
use Rattle.consistency.specs.Ways.Way.{Commanded, Ending, MarkedFor, OnTheWay}

count_both : (device : ℕ) (xs ys : List Timed) → hit_count device (xs ++ ys) ≡ hit_count device xs + hit_count device ys
count_both device xs ys = sum_by-append (λ t. cond (hits device t) 1 0) xs ys

count_three : (device : ℕ) (xs ys zs : List Timed) → hit_count device (xs ++ ys ++ zs) ≡ hit_count device xs + hit_count device ys + hit_count device zs
count_three device xs ys zs = omega (arith, count_both device (xs ++ ys) zs, count_both device xs ys)

-- ---- the next point

-- No hit is forgotten by the next point.
pub hits_stay : (run : ScriptRun) (asked : ℕ → Option Line) (l : Leg) (q : Point) (way : Way) (device : ℕ) → ComesBy run asked l q way → hits_of_leg l device ≤ hits_of_leg (leg_by l q way) device
hits_stay run asked l q (OnTheWay changes) device next = omega (arith, count_both device l.changes changes)
hits_stay run asked l q (MarkedFor line more) device next = omega (arith, ap (hit_count device) next.1.none_marked)
hits_stay run asked l q (Commanded line more) device next = omega (arith, le-max_left (hit_count device l.marked) (hit_count device more))
hits_stay run asked l q (Ending line more) device next = omega (arith, le-max_left (hit_count device l.marked) (hit_count device more))

-- A mark's hits are counted after the command too, and once.
pub marked_hits_counted : (run : ScriptRun) (asked : ℕ → Option Line) (l : Leg) (p q : Point) (number : ℕ) (marked more : List Timed) (device : ℕ) → ComesBy run asked l p (MarkedFor number marked)
    → hits_of_leg (leg_by (leg_by l p (MarkedFor number marked)) q (Commanded number more)) device ≡ hits_of_leg l device + max (hit_count device marked) (hit_count device more)
marked_hits_counted run asked l p q number marked more device next = omega (arith, ap (hit_count device) next.1.none_marked)

-- ---- a stage

module _ (run : ScriptRun) (s : Stage) (l : Leg) (leg : IsLegOf run s l) where
  -- What is counted through hits after a command holds those of the lines before, of the way and of the hits.
  pub counted_through : (after : List Timed) (device : ℕ) → hit_count device (s.past ++ l.changes ++ after) ≤ hits_through l after device
  counted_through after device = omega (arith, count_three device s.past l.changes after, leg.counted device, le-max_right (hit_count device l.marked) (hit_count device after))

  pub counted_to_end : (after more : List Timed) (q : Point) (number device : ℕ) → hit_count device (s.past ++ l.changes ++ (after ++ more)) ≤ hits_through (leg_by l q (Commanded number after)) more device
  counted_to_end after more q number device = omega (arith, count_three device s.past l.changes (after ++ more), count_both device after more, leg.counted device, le-max_right (hit_count device l.marked) (hit_count device after), le-max_right 0 (hit_count device more))

  pub leg_is_counted : HasCountedHits run l → AreCounted run.rises (s.past ++ l.changes)
  leg_is_counted has device = omega (arith, count_both device s.past l.changes, leg.counted device, has device)

  pub command_is_counted : (q : Point) (number : ℕ) (after : List Timed) → HasCountedHits run (leg_by l q (Commanded number after)) → AreCounted run.rises (s.past ++ l.changes ++ after)
  command_is_counted q number after has device = omega (arith, counted_through after device, has device)

  pub end_is_counted : (q r : Point) (number : ℕ) (after more : List Timed) → HasCountedHits run (leg_by (leg_by l q (Commanded number after)) r (Ending number more)) → AreCounted run.rises (s.past ++ l.changes ++ (after ++ more))
  end_is_counted q r number after more has device = omega (arith, counted_to_end after more q number device, has device)

  pub mark_is_counted : (q : Point) (number : ℕ) (marked : List Timed) → HasCountedHits run (leg_by l q (MarkedFor number marked)) → AreCounted run.rises (s.past ++ l.changes ++ marked)
  mark_is_counted q number marked has device = omega (arith, count_three device s.past l.changes marked, leg.counted device, has device)
