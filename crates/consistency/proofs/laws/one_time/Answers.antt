use Rattle.std.proofs.Common.{◌≡◌, ◌≤◌, ℕ, Bool, true, false, Option, Some, None, ◌∙◌, sym, ap, subst}
use Rattle.std.specs.Prelude.{unwrap_or}
use Rattle.site_means.specs.declared.means.Means.{Means}
use Rattle.xrc_command.specs.declared.line.Line.{Line}
use Rattle.consistency.specs.Stages.{IsTime, Stage}
use Rattle.consistency.proofs.laws.one_time.Goals as goal

-- The time is at most that of a line that was heard, where the session goes on.
not_later : (s : Stage) (time : ℕ) (line : Line) (next : Option Line) (is_ended : Bool) → next ≡ Some line → is_ended ≡ false → IsTime (record s { next = next; table = record s.table { is_ended = is_ended } }) time → time ≤ line.time.0
not_later s time line None is_ended heard still t = absurd cc
not_later s time line (Some next) true heard still t = absurd cc
not_later s time line (Some next) false heard still t = let same : next ≡ line = cc in subst (λ (l : Line). time ≤ l.time.0) same t.1

pub returns : goal.returns
returns c = record {
  one = λ run s shape images a b x y. sym x.at ∙ sym x.shows.at ∙ ap (λ (o : Option Means). (unwrap_or o x.shows.means).time.0) (sym x.shows.defined ∙ y.shows.defined) ∙ y.shows.at ∙ y.at;
  not_before = λ run s shape images time x. subst (λ (t : ℕ). s.replied ≤ t) x.at x.may.in_time.0;
  not_past = λ run s shape images time line heard still x. subst (λ (t : ℕ). t ≤ line.time.0) x.at (not_later s x.point.time line s.next s.table.is_ended heard still x.may.in_time);
}
