-- What is mapped of suspended rows is what they owe, over a command.
use Rattle.group_state.specs.Volumes.{is_wanted}
use Rattle.pair_table.specs.Rows.{is_suspended}
use Rattle.std.specs.Prelude.{◌≡◌, ◌⊎◌, ℕ, ◌++◌, List, [], ◌∷◌, false, Some, ◌<◌}
use Rattle.std.specs.List.{Contains}
use Rattle.tod_stamp.specs.declared.stamp.Stamp.{Stamp}
use Rattle.pair_table.specs.declared.command.Change.{Change}
use Rattle.pair_table.specs.declared.row.PairRow.{PairRow}
use Rattle.pair_table.specs.declared.row.PairState.{PairState}
use Rattle.pair_table.specs.declared.row.PairState.TheVariants.{Suspended}
use Rattle.pair_table.specs.declared.row.SuspendCause.{SuspendCause}
use Rattle.pair_table.specs.Tables.{row_of}
use Rattle.group_state.specs.Groups.{Group, control_at}
use Rattle.pair_table.specs.States.{is_device_suspended}
use Rattle.passages.specs.Points.{last_point}
use Rattle.consistency.specs.Stages.{ScriptRun, tracks_of_row}
use Rattle.consistency.specs.Leads.{Point}
use Rattle.consistency.specs.Owing.{has_pair_in, owes_track}
use Rattle.consistency.specs.Ways.{PassedPoint}
use Rattle.xrc_session.specs.MapsOwed.{MapsOwed, MapsRest}
use Rattle.xrc_session.specs.Taking.{IsSoundForRows, MayTake, after_calls, calls_of_change, is_begun}

-- ---- a command

-- The command didn't begin a row, and left it as it was.
pub record StaysAs (change : Change) (before : List PairRow) (z : PairRow) : Type 0 where
  pub other : is_begun change z.device ≡ false
  pub was : PairRow
  pub found : row_of z.device before ≡ Some was
  pub same : was.state ≡ z.state

-- Rows that a command suspends, or hits after it, are suspended since its time.
abbrev pub SuspendsAt : (time : ℕ) → Change → (before after : List PairRow) → Type 0
SuspendsAt time change before after = (z : PairRow) (cause : SuspendCause) (since : Stamp) → Contains after z → z.state ≡ Suspended cause since → StaysAs change before z ⊎ (since.0 ≡ time)

-- After a command that resumes a device's row, unless the row is suspended again, the tracks that are wanted of its volume are exactly those that
-- the row owed at a time.
abbrev pub WantsOwed : ScriptRun → (first : Point) → List PassedPoint → (device : ℕ) → (before after : List PairRow) → (time : ℕ) → Group → Type 0
WantsOwed run first points device before after time s = (r z : PairRow) → Contains before r → Contains after z → r.device ≡ device → z.device ≡ device → is_suspended z.state ≡ false
    → (x : ℕ) → x < tracks_of_row r → is_wanted r.volume x (control_at s r.control).volumes ≡ owes_track run first points r time x

-- Points are passed by a command: that of its record, after those of marks, by which devices alone suspend rows.
pub record PassesBy (p q : Point) (more : List PassedPoint) : Type 0 where
  pub marks : List PassedPoint
  pub last : PassedPoint
  pub are : more ≡ marks ++ last ∷ []
  pub rows : last.point.rows ≡ q.rows
  pub marked : (n : PassedPoint) (z : PairRow) (state : PairState) → Contains marks n → Contains q.rows z → is_device_suspended z.state ≡ false → has_pair_in z state n.point.rows ≡ has_pair_in z state p.rows

-- Where the maps have what rows owe, they do so after a command's change that was taken over.
abbrev pub MapsOwedAfterChanges : Type 0
MapsOwedAfterChanges = (run : ScriptRun) (first : Point) (points more : List PassedPoint) (p q : Point) (s : Group) (change : Change) → IsSoundForRows s p.rows → MayTake s change p.rows q.rows → q.time ≡ p.time → SuspendsAt p.time change p.rows q.rows
    → (last_point first points).rows ≡ p.rows → PassesBy p q more → MapsRest p s → s.last.0 ≡ p.time → MapsOwed run first points p s
    → let end = after_calls (calls_of_change change s p.rows q.rows) s in MapsOwed run first (points ++ more) q end × MapsRest q end
