-- The laws of deeds. Each is the contract of a public function.
use Rattle.std.specs.Prelude.{◌≡◌, ◌⊎◌, ℕ, ◌<◌, ◌≤◌, List, [], ◌∷◌, ◌++◌, length, take, Bool, true, false, Option, Some, unwrap_or, if◌then◌else◌}
use Rattle.std.specs.List.{All, list_any}
use Rattle.ckd_track.specs.declared.rec.Rec.{Rec}
use Rattle.ckd_track.specs.Effects.{apply}
use Rattle.crash_plant.specs.declared.device.Device.{Device}
use Rattle.crash_plant.specs.declared.spot.Spot.{Spot}
use Rattle.crash_plant.specs.Calls.{Elapses, SameSite, Silent}
use Rattle.crash_plant.specs.Choices.{AllFollow, AtEveryMoment, AtMoment, AtNow, Choice, IsChoice}
use Rattle.crash_plant.specs.Moments.{Follows, PlantState, Same, on}
use Rattle.pair_table.specs.declared.level.Level.{Level}
use Rattle.pair_table.specs.declared.row.PairRow.{PairRow}
use Rattle.pair_table.specs.Tables.{is_of}
use Rattle.pending_queue.specs.Entries.{WaitingEntry}
use Rattle.image_former.specs.Entries.{is_entry_on}
use Rattle.row_changes.specs.Changes.{after_changes}
use Rattle.site_means.specs.declared.means.Means.{Means}
use Rattle.site_means.specs.Sight.{content_of, means_of}
use Rattle.record_rows.specs.Deeds.{Deed, entries_by_deed, rows_after_deeds, time_by_deed, time_meant_after}
use Rattle.site_store.specs.Deeds.{content_after, content_by_deed, means_after}
use Rattle.record_rows.specs.Deeds.Deed.{Logged, Changed, Marked}
use Rattle.site_store.specs.DeedChanges.{AreByChanges, DeedOfChanges, changes_of, deeds_of}
use Rattle.site_store.specs.DoneDeeds.{BeginsDeeds, DoesDeeds, points_of, with_next}
use Rattle.site_store.specs.Exceptions.{Exceptions, excepted_after}
use Rattle.site_store.specs.Seeing.{MeansByDeed, MeansTheSame, SeesAfter}

-- ---- what deeds leave

-- The time and the rows that are meant after deeds; the session and the level stay.
pub record MeansAre (deeds : List Deed) (means : Means) : Type 0 where
  pub time : (means_after deeds means).time.0 ≡ time_meant_after deeds means.time.0
  pub rows : (means_after deeds means).table.rows ≡ rows_after_deeds deeds means.table.rows
  pub session : (means_after deeds means).session ≡ means.session
  pub level : (means_after deeds means).level ≡ means.level

abbrev pub MeansAreAfter : Type 0
MeansAreAfter = (deeds : List Deed) (means : Means) → MeansAre deeds means

abbrev pub IsSameMark : Means → Means → Type 0
IsSameMark old new = (new.from ≡ old.from) × (new.ended ≡ old.ended)

-- A mark's spot and flag are meant after it, and a record leaves those that are meant.
pub record MarkIs (deeds : List Deed) (rows : List PairRow) (means : Means) : Type 0 where
  pub spot_is : (spot : Spot) (ended : Bool) → (means_after (deeds ++ Marked spot ended rows ∷ []) means).from ≡ spot
  pub ended_is : (spot : Spot) (ended : Bool) → (means_after (deeds ++ Marked spot ended rows ∷ []) means).ended ≡ ended
  pub logged : (cut : ℕ) (entries : List WaitingEntry) → IsSameMark (means_after deeds means) (means_after (deeds ++ Logged cut entries rows ∷ []) means)
  pub changed : (time : ℕ) → IsSameMark (means_after deeds means) (means_after (deeds ++ Changed time rows ∷ []) means)

abbrev pub MarksAreMeant : Type 0
MarksAreMeant = (deeds : List Deed) (rows : List PairRow) (means : Means) → MarkIs deeds rows means

-- Deeds in turn leave what the later ones leave of what the first ones leave.
pub record LeavesInTurn (a b : List Deed) (excepted : Exceptions) (rows : List PairRow) : Type 0 where
  pub rows_are : rows_after_deeds (a ++ b) rows ≡ rows_after_deeds b (rows_after_deeds a rows)
  pub time : (t : ℕ) → time_meant_after (a ++ b) t ≡ time_meant_after b (time_meant_after a t)
  pub means : (m : Means) → means_after (a ++ b) m ≡ means_after b (means_after a m)
  pub content : (d x : ℕ) (old : Option (List Rec)) → content_after d x rows (a ++ b) old ≡ content_after d x (rows_after_deeds a rows) b (content_after d x rows a old)
  pub exceptions : excepted_after rows (a ++ b) excepted ≡ excepted_after (rows_after_deeds a rows) b (excepted_after rows a excepted)

abbrev pub DeedsLeaveInTurn : Type 0
DeedsLeaveInTurn = (a b : List Deed) (excepted : Exceptions) (rows : List PairRow) → LeavesInTurn a b excepted rows

-- Only entries change the content of a track: marks and changes of rows leave it.
abbrev pub OnlyEntriesChangeContent : Type 0
OnlyEntriesChangeContent = (d x : ℕ) (rows : List PairRow) (deeds : List Deed) (old : Option (List Rec)) → All (λ deed. entries_by_deed deed ≡ []) deeds
    → content_after d x rows deeds old ≡ old

-- An entry changes its own track, of its row's device, and leaves each other track.
abbrev pub EntriesChangeTheirTracks : Type 0
EntriesChangeTheirTracks = (cut d x : ℕ) (rows next : List PairRow) (entry : WaitingEntry) (old : Option (List Rec))
    → content_by_deed d x rows (Logged cut (entry ∷ []) next) old ≡ (if is_entry_on rows d x entry then Some (apply (unwrap_or old []) entry.kind) else old)

-- A group changes tracks of devices that had a row before it, and no others, whatever its own rows are.
abbrev pub EntriesGoByRowsBefore : Type 0
EntriesGoByRowsBefore = (d x : ℕ) (rows : List PairRow) (deed : Deed) (old : Option (List Rec)) → list_any (is_of d) rows ≡ false → content_by_deed d x rows deed old ≡ old

-- An exception ends by a whole image alone: what deeds leave of the track then doesn't depend on what it was.
abbrev pub WholeImagesEndExceptions : Type 0
WholeImagesEndExceptions = (d x : ℕ) (rows : List PairRow) (deeds : List Deed) (excepted : Exceptions) (old other : Option (List Rec)) → excepted d x ≡ true → excepted_after rows deeds excepted d x ≡ false
    → content_after d x rows deeds old ≡ content_after d x rows deeds other

-- ---- times

-- No deed has a time below the one that is meant before it.
abbrev pub AreInTime : (time : ℕ) → List Deed → Type 0
AreInTime time [] = Unit {0}
AreInTime time (deed ∷ deeds) = (time ≤ time_by_deed time deed) × AreInTime (time_by_deed time deed) deeds

-- The time that is meant doesn't fall from deed to deed.
abbrev pub TimesNeverFall : Type 0
TimesNeverFall = (time : ℕ) (deeds : List Deed) (m n : ℕ) → AreInTime time deeds → m ≤ n → time_meant_after (take m deeds) time ≤ time_meant_after (take n deeds) time

-- ---- timed changes

-- Rows after deeds are those before them after their changes in turn. Each change has a time from the one that is meant before them to
-- the one after them.
abbrev pub DeedsAreChanges : Type 0
DeedsAreChanges = (level : Level) (time : ℕ) (rows : List PairRow) (steps : List DeedOfChanges) → AreInTime time (deeds_of steps) → AreByChanges level time rows steps
    → (rows_after_deeds (deeds_of steps) rows ≡ after_changes level (changes_of steps) rows) × All (λ t. (time ≤ t.time) × (t.time ≤ time_meant_after (deeds_of steps) time)) (changes_of steps)

-- ---- what is seen

-- What is seen after deeds of what is seen after others is seen after both.
abbrev pub SightsCompose : (old mid : PlantState) → Type 0
SightsCompose old mid = (excepted : Exceptions) (rows : List PairRow) (a b : List Deed) (c : Choice) → SameSite old mid → AtNow (SeesAfter old excepted rows a) mid
    → SeesAfter mid (excepted_after rows a excepted) (rows_after_deeds a rows) b c → SeesAfter old excepted rows (a ++ b) c

-- Calls that do deeds, and calls after them that do or begin others, do or begin all of them in turn.
abbrev pub DeedsGoOn : (old mid new : PlantState) → Type 0
DeedsGoOn old mid new = (excepted : Exceptions) (rows : List PairRow) (a b : List Deed) → DoesDeeds excepted rows a old mid → DoesDeeds (excepted_after rows a excepted) (rows_after_deeds a rows) b mid new → DoesDeeds excepted rows (a ++ b) old new

abbrev pub DeedsBeginAfter : (old mid new : PlantState) → Type 0
DeedsBeginAfter old mid new = (excepted : Exceptions) (rows : List PairRow) (a b : List Deed) → DoesDeeds excepted rows a old mid → BeginsDeeds (excepted_after rows a excepted) (rows_after_deeds a rows) b mid new
    → BeginsDeeds excepted rows (a ++ b) old new

-- Where each choice before the calls has one meaning, each choice after them has what the deeds leave of it. The same holds of the content
-- of each track that isn't excepted.
abbrev pub DoneDeedsAreMeant : (old new : PlantState) → Type 0
DoneDeedsAreMeant old new = (excepted : Exceptions) (rows : List PairRow) (deeds : List Deed) (means : Means) → DoesDeeds excepted rows deeds old new → AtNow (λ c. means_of old c ≡ Some means) old
    → AtNow (λ c. means_of new c ≡ Some (means_after deeds means)) new

abbrev pub DoneDeedsLeaveContent : (old new : PlantState) → Type 0
DoneDeedsLeaveContent old new = (excepted : Exceptions) (rows : List PairRow) (deeds : List Deed) (d x : ℕ) (content : Option (List Rec)) → DoesDeeds excepted rows deeds old new → d < old.volumes
    → excepted_after rows deeds excepted d x ≡ false → AtNow (λ c. content_of old c d x ≡ content) old → AtNow (λ c. content_of new c d x ≡ content_after d x rows deeds content) new

-- Deeds are done, and begin, from more exceptions too.
abbrev pub MoreMayBeExcepted : (old new : PlantState) → Type 0
MoreMayBeExcepted old new = (excepted more : Exceptions) (rows : List PairRow) (deeds : List Deed) → ((d x : ℕ) → more d x ≡ false → excepted d x ≡ false)
    → (DoesDeeds excepted rows deeds old new → DoesDeeds more rows deeds old new) × (BeginsDeeds excepted rows deeds old new → BeginsDeeds more rows deeds old new)

-- Deeds that are done have begun.
abbrev pub DoneDeedsHaveBegun : (old new : PlantState) → Type 0
DoneDeedsHaveBegun old new = (excepted : Exceptions) (rows : List PairRow) (deeds : List Deed) → DoesDeeds excepted rows deeds old new → BeginsDeeds excepted rows deeds old new

-- Deeds that begin may be the first of more.
abbrev pub MoreDeedsMayFollow : (old new : PlantState) → Type 0
MoreDeedsMayFollow old new = (excepted : Exceptions) (rows : List PairRow) (a b : List Deed) → BeginsDeeds excepted rows a old new → BeginsDeeds excepted rows (a ++ b) old new

-- ---- no deed, and one

-- Where no call is made no deed is done.
abbrev pub NoCallDoesNoDeed : PlantState → Type 0
NoCallDoesNoDeed plant = (excepted : Exceptions) (rows : List PairRow) → DoesDeeds excepted rows [] plant plant

-- Calls do no deed where each choice of each moment shows what one before them did.
abbrev pub SameSightIsNoDeed : (old new : PlantState) → Type 0
SameSightIsNoDeed old new = (excepted : Exceptions) (rows : List PairRow) → SameSite old new → Elapses old new → Silent old new → AtEveryMoment (SeesAfter old excepted rows []) old new → DoesDeeds excepted rows [] old new

-- They do none where each choice means and holds the same as one that a crash could leave before them.
abbrev pub SameContentIsNoDeed : (old new : PlantState) → Type 0
SameContentIsNoDeed old new = (excepted : Exceptions) (rows : List PairRow) → SameSite old new → Elapses old new → Silent old new → AllFollow (MeansTheSame old excepted) old new → DoesDeeds excepted rows [] old new

-- Reads and syncs do none: a crash leaves on each device what it could leave before them.
abbrev pub ReadsAndSyncsAreNoDeed : (old new : PlantState) → Type 0
ReadsAndSyncsAreNoDeed old new = (excepted : Exceptions) (rows : List PairRow) → SameSite old new → Elapses old new → Silent old new → ((d : Device) → Follows Same (on old d) (on new d)) → DoesDeeds excepted rows [] old new

-- A deed begins where each choice of each moment shows that it is done, or that nothing is. It is done where each choice now shows it.
abbrev pub OneDeedBegins : (old new : PlantState) → Type 0
OneDeedBegins old new = (excepted : Exceptions) (rows : List PairRow) (deed : Deed) → SameSite old new → Elapses old new → Silent old new
    → AtEveryMoment (λ c. SeesAfter old excepted rows [] c ⊎ SeesAfter old excepted rows (deed ∷ []) c) old new → BeginsDeeds excepted rows (deed ∷ []) old new

abbrev pub OneDeedIsDone : (old new : PlantState) → Type 0
OneDeedIsDone old new = (excepted : Exceptions) (rows : List PairRow) (deed : Deed) → SameSite old new → Elapses old new → Silent old new
    → AtEveryMoment (λ c. SeesAfter old excepted rows [] c ⊎ SeesAfter old excepted rows (deed ∷ []) c) old new → AtNow (SeesAfter old excepted rows (deed ∷ [])) new → DoesDeeds excepted rows (deed ∷ []) old new

-- A deed begins where each choice comes by it, or by nothing, from one before the calls. It is done where each choice now comes by it.
abbrev pub OneDeedFollows : (old new : PlantState) → Type 0
OneDeedFollows old new = (excepted : Exceptions) (rows : List PairRow) (deed : Deed) → SameSite old new → Elapses old new → Silent old new
    → AllFollow (λ b c. MeansTheSame old excepted b c ⊎ MeansByDeed old excepted rows deed b c) old new
    → BeginsDeeds excepted rows (deed ∷ []) old new × (AtNow (λ c. (b : Choice) × IsChoice old old.clock b × MeansByDeed old excepted rows deed b c) new → DoesDeeds excepted rows (deed ∷ []) old new)

-- ---- every moment

-- At each moment each choice shows that some first deeds are done.
abbrev pub FirstDeedsAreSeen : (old new : PlantState) → Type 0
FirstDeedsAreSeen old new = (excepted : Exceptions) (rows : List PairRow) (deeds : List Deed) → 0 < old.clock → BeginsDeeds excepted rows deeds old new
    → AtEveryMoment (λ c. (n : ℕ) × (n ≤ length deeds) × SeesAfter old excepted rows (take n deeds) c) old new

-- Each point that is passed is that some first deeds are done.
abbrev pub PointsAreFirstDeeds : Type 0
PointsAreFirstDeeds = (moments : List ℕ) (deeds : List Deed) → All (λ n. (k : ℕ) × (k ≤ length deeds) × (n.point ≡ take k deeds)) (points_of [] moments deeds)

-- Each deed that is done has a moment at which each choice shows that it is the last one done.
abbrev pub EachDeedHasItsMoment : (old new : PlantState) → Type 0
EachDeedHasItsMoment old new = (excepted : Exceptions) (rows : List PairRow) (deeds : List Deed) (n : ℕ) → 0 < old.clock → DoesDeeds excepted rows deeds old new → n < length deeds
    → (t : ℕ) × (old.clock ≤ t) × (t ≤ new.clock) × AtMoment (SeesAfter old excepted rows (with_next n deeds)) new t

-- Each moment has a number of deeds that are done by then, which never falls. A choice shows so many, or the next one too.
pub record NeverGoesBack (excepted : Exceptions) (rows : List PairRow) (deeds : List Deed) (old new : PlantState) : Type 0 where
  pub done : ℕ → ℕ
  pub rises : (s t : ℕ) → s ≤ t → done s ≤ done t
  pub seen : (t : ℕ) → old.clock ≤ t → t ≤ new.clock → AtMoment (λ c. SeesAfter old excepted rows (take (done t) deeds) c ⊎ SeesAfter old excepted rows (with_next (done t) deeds) c) new t

abbrev pub DeedsNeverGoBack : (old new : PlantState) → Type 0
DeedsNeverGoBack old new = (excepted : Exceptions) (rows : List PairRow) (deeds : List Deed) → 0 < old.clock → BeginsDeeds excepted rows deeds old new → NeverGoesBack excepted rows deeds old new
