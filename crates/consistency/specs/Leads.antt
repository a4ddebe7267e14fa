-- Points of a session, and how changes of rows lead from one to another.
use Rattle.std.specs.Prelude.{◌≡◌, ℕ, ◌≤◌, ◌==◌, ◌&&◌, List, [], ◌∷◌, Bool, true, false, Option, IsTrue}
use Rattle.std.specs.List.{list_all}
use Rattle.pair_table.specs.declared.level.Level.{Level}
use Rattle.pair_table.specs.declared.row.PairRow.{PairRow}
use Rattle.row_changes.specs.Changes.{Due, Timed, after_change, after_changes, due_after, may_come, may_end}
use Rattle.row_changes.specs.Changes.RowChange.{Break, Hit, MarkedHit, Mature, Reached}
use Rattle.row_changes.specs.Spans.{all_broke, is_hit_at}

-- What the devices of a session mean between two of its records or marks: the time, the rows, what a hit in a mark has left due, and
-- whether the session has ended.
pub record Point : Type 0 where
  pub time : ℕ
  pub rows : List PairRow
  pub due : Due
  pub is_ended : Bool

-- Each change may come where it comes, times don't fall and lie from `from` to `to`, and this is due at the end.
abbrev pub Comes : Level → (breaks : List (Option ℕ)) → Due → (from to : ℕ) → List PairRow → List Timed → Due → Type 0
Comes level breaks due from to rows [] last = (from ≤ to) × (due ≡ last)
Comes level breaks due from to rows (t ∷ changes) last = (from ≤ t.time) × (t.time ≤ to) × IsTrue (may_come breaks due rows t) × Comes level breaks (due_after level due t) t.time to (after_change level t rows) changes last

-- Changes lead from a point to another: they may come where they come, the rows are changed by them, and the session goes on.
pub record Leads (level : Level) (breaks : List (Option ℕ)) (p q : Point) (changes : List Timed) : Type 0 where
  pub may_come : Comes level breaks p.due p.time q.time p.rows changes q.due
  pub rows : q.rows ≡ after_changes level changes p.rows
  pub goes_on : q.is_ended ≡ p.is_ended

-- They lead there, and every controller whose break time lies between broke on the way.
pub record LeadsWhole (level : Level) (breaks : List (Option ℕ)) (p q : Point) (changes : List Timed) : Type 0 where
  pub leads : Leads level breaks p q changes
  pub broken : IsTrue (all_broke p.time q.time 0 breaks changes)

-- Hits at a point's own time lead to another.
pub record HitsLead (level : Level) (breaks : List (Option ℕ)) (p q : Point) (hits : List Timed) : Type 0 where
  pub are_hits : IsTrue (list_all (is_hit_at p.time) hits)
  pub at : q.time ≡ p.time
  pub leads : Leads level breaks p q hits

-- a hit in a mark at a time, before the record for which the mark is made
abbrev pub is_marked_at : (time : ℕ) → Timed → Bool
is_marked_at time t = t.time == time && elim t.change [ MarkedHit devices ↦ true | Hit devices ↦ false | Reached devices ↦ false | Mature device state ↦ false | Break control ↦ false ]

-- Hits in a mark at a point's own time lead to another. They leave the other rows waiting for the record.
pub record MarkedHitsLead (level : Level) (breaks : List (Option ℕ)) (p q : Point) (hits : List Timed) : Type 0 where
  pub are_marked : IsTrue (list_all (is_marked_at p.time) hits)
  pub at : q.time ≡ p.time
  pub leads : Leads level breaks p q hits

-- None is due at a point, or others are since a mark at its very time, where that may be.
abbrev pub may_rest : (may_be_due : Bool) → Point → Bool
may_rest may_be_due p = may_end may_be_due p.time p.due
