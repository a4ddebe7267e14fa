-- The laws of what a ring of data sets means. Each is the contract of a public function without parameters.
use Rattle.std.specs.Prelude.{◌≡◌, ◌≢◌, ◌⊎◌, ◌<◌, ◌≤◌, ◌+◌, ◌^◌, ℕ, List, [], ◌∷◌, length, slice_index, Some, None, Ok}
use Rattle.std.specs.List.{Contains}
use Rattle.ckd_track.specs.SlotPlaces.{slot_track}
use Rattle.crash_plant.specs.declared.layout.TheConstants.{SWITCH}
use Rattle.crash_plant.specs.declared.device.Device.TheVariants.{Journal, State, Volume}
use Rattle.control_set.specs.declared.value.Mark.{Mark}
use Rattle.pair_table.specs.declared.row.PairRow.{PairRow}
use Rattle.pair_table.specs.Tables.{with_rows}
use Rattle.state_set.specs.Slots.{state_of}
use Rattle.xrc_journal.specs.Records.{next_set}
use Rattle.xrc_journal.specs.Walks.{Logged}
use Rattle.xrc_journal.specs.RingWalks.{AddsThrough, EndsThrough, HasGroup, HasSwitch, KeepsThrough, PutsGroup, PutsSwitch, WalkPlace, WalkRecord, WalksThrough, journal_images, spot_after_logged, walk_start}
use Rattle.xrc_journal.specs.RingWalks.WalkRecord.{OfGroup, OfSwitch}
use Rattle.site_means.specs.declared.means.Means.{Means}
use Rattle.site_means.specs.Images.{Images, Shape}
use Rattle.site_means.specs.Laws.{AgreeOnMark, FitRows, and_group, with_group}
use Rattle.site_means.specs.Meaning.{chosen_in, meaning_in, stored_in}
use Rattle.site_means.specs.Meaning.Meaning.{Meant}
use Rattle.site_means.specs.Sight.{content_in}
use Rattle.site_means.specs.Walk.{Walk, walk_in}
use Rattle.site_store.specs.Ring.{FitsAfter, IsThrough, ShowsGroup, ShowsSame, ShowsSwitch, and_switch, groups_among, switched_from, walk_with}

-- ---- walks

-- A site's walk without a bad place is one through the data sets, from the mark's spot and time.
abbrev pub WalksAreThrough : Type 0
WalksAreThrough = (shape : Shape) (images : Images) (m : Mark) (rows : List PairRow) → m.at.number < 2 ^ 64 → (walk_in shape images m rows).bad ≡ None → IsThrough shape images rows (walk_start m.at m.time.0) (walk_in shape images m rows)

-- A walk through the data sets whose groups fit the rows is the site's.
abbrev pub ThroughsAreWalks : Type 0
ThroughsAreWalks = (shape : Shape) (images : Images) (m : Mark) (rows : List PairRow) (records : List WalkRecord) (to : WalkPlace) → m.at.number < 2 ^ 64
    → WalksThrough shape.form shape.sets (journal_images images) (walk_start m.at m.time.0) records to → FitRows shape.volumes rows (groups_among records) → walk_in shape images m rows ≡ walk_with rows records to

-- Where images mean something, the walk from the mark is defined, and ends at its end with no time above a cut that isn't below its own.
abbrev pub MeantWalksEnd : Type 0
MeantWalksEnd = (shape : Shape) (images : Images) (means : Means) (w : Walk) (cut : ℕ) → meaning_in shape images ≡ Meant means w → means.from.number < 2 ^ 64 → w.last ≤ cut → w.at.place + SWITCH ≤ length (images (Journal w.at.set))
    → EndsThrough shape.form shape.sets means.from w.at cut (journal_images images)

-- If the number at its end has 64 bits, the number at the mark's spot has too.
abbrev pub MeantNumbersAreLow : Type 0
MeantNumbersAreLow = (shape : Shape) (images : Images) (means : Means) (w : Walk) → meaning_in shape images ≡ Meant means w → w.at.number < 2 ^ 64 → means.from.number < 2 ^ 64

-- The gate at its end isn't 1.
abbrev pub MeantWalksAreShut : Type 0
MeantWalksAreShut = (shape : Shape) (images : Images) (means : Means) (w : Walk) → meaning_in shape images ≡ Meant means w → means.from.number < 2 ^ 64 → slice_index (images (Journal w.at.set)) w.at.place ≢ 1

-- The data set where it ends was entered.
abbrev pub EndsAreEntered : Type 0
EndsAreEntered = (shape : Shape) (images : Images) (means : Means) (w : Walk) → meaning_in shape images ≡ Meant means w → means.from.number < 2 ^ 64 → Contains w.entered w.at.set

-- ---- records at the end

-- Where the walk is kept, the same is meant.
abbrev pub KeptRingsMeanTheSame : Type 0
KeptRingsMeanTheSame = (shape : Shape) (a b : Images) (means : Means) (w : Walk) → meaning_in shape a ≡ Meant means w → AgreeOnMark shape a b → means.from.number < 2 ^ 64
    → KeepsThrough shape.form shape.sets means.from w.at (journal_images a) (journal_images b) → meaning_in shape b ≡ Meant means w

-- Where a group is added to it, the meaning has its time, and its rows changed by its items.
abbrev pub AddedGroupsAreMeant : Type 0
AddedGroupsAreMeant = (shape : Shape) (a b : Images) (means : Means) (w : Walk) (g : Logged) → meaning_in shape a ≡ Meant means w → AgreeOnMark shape a b → FitsAfter shape.volumes means w g
    → AddsThrough shape.form shape.sets means.from w.at (OfGroup g) (spot_after_logged g w.at) (journal_images a) (journal_images b) → meaning_in shape b ≡ Meant (with_group g means) (and_group g (spot_after_logged g w.at) w)

-- Where a switch is added to it, the same is meant: its time doesn't count. The walk ends at the front of the next data set.
abbrev pub AddedSwitchesMeanTheSame : Type 0
AddedSwitchesMeanTheSame = (shape : Shape) (a b : Images) (means : Means) (w : Walk) (time : ℕ) → meaning_in shape a ≡ Meant means w → AgreeOnMark shape a b → means.from.number < 2 ^ 64 → w.last ≤ time
    → AddsThrough shape.form shape.sets means.from w.at (OfSwitch time) (switched_from shape.sets w) (journal_images a) (journal_images b) → meaning_in shape b ≡ Meant means (and_switch time (switched_from shape.sets w) w)

-- ---- while they are put

-- The images have the same mark, the same data sets as far as the walk has entered them, and the same volumes.
pub record IsUntouched (shape : Shape) (w : Walk) (a b : Images) : Type 0 where
  pub mark : AgreeOnMark shape a b
  pub journals : (j : ℕ) → Contains w.entered j → b (Journal j) ≡ a (Journal j)
  pub volumes : (d : ℕ) → b (Volume d) ≡ a (Volume d)

-- They show the same then.
abbrev pub UntouchedShowTheSame : Type 0
UntouchedShowTheSame = (shape : Shape) (a b : Images) (means : Means) (w : Walk) → meaning_in shape a ≡ Meant means w → IsUntouched shape w a b → ShowsSame shape means w a b

-- While a group is put, images show what those before it showed, or the group more. Once it was put, they show it.
abbrev pub GroupsPutAreShown : Type 0
GroupsPutAreShown = (shape : Shape) (a b : Images) (means : Means) (w : Walk) (g : Logged) → meaning_in shape a ≡ Meant means w → FitsAfter shape.volumes means w g
    → PutsGroup shape.form shape.sets means.from w.at g a b → ShowsSame shape means w a b ⊎ ShowsGroup shape g means w a b

abbrev pub GroupsHadAreShown : Type 0
GroupsHadAreShown = (shape : Shape) (a b : Images) (means : Means) (w : Walk) (g : Logged) → meaning_in shape a ≡ Meant means w → FitsAfter shape.volumes means w g
    → HasGroup shape.form shape.sets means.from w.at g a b → ShowsGroup shape g means w a b

-- So it is with a switch.
abbrev pub SwitchesPutAreShown : Type 0
SwitchesPutAreShown = (shape : Shape) (a b : Images) (means : Means) (w : Walk) (time : ℕ) → meaning_in shape a ≡ Meant means w → means.from.number < 2 ^ 64 → w.last ≤ time
    → PutsSwitch shape.form shape.sets means.from w.at time a b → ShowsSame shape means w a b ⊎ ShowsSwitch shape time means w a b

abbrev pub SwitchesHadAreShown : Type 0
SwitchesHadAreShown = (shape : Shape) (a b : Images) (means : Means) (w : Walk) (time : ℕ) → meaning_in shape a ≡ Meant means w → means.from.number < 2 ^ 64 → w.last ≤ time
    → HasSwitch shape.form shape.sets means.from w.at time a b → ShowsSwitch shape time means w a b

-- ---- marks

-- If the mark that counts is the same, and of the state at most the other slot was written, the mark's slot holds the same.
abbrev pub OtherSlotsKeepTheMark : Type 0
OtherSlotsKeepTheMark = (shape : Shape) (a b : Images) (m : Mark) (slot : ℕ) → chosen_in shape a ≡ Ok (Some m) → chosen_in shape b ≡ chosen_in shape a → m.state_slot ≤ 1 → m.state_slot ≢ slot
    → ((session : List ℕ) (k : ℕ) → k ≤ 1 → k ≢ slot → state_of shape.volumes session k (b State) ≡ state_of shape.volumes session k (a State)) → AgreeOnMark shape a b

-- what is meant from a mark at a walk's end with these rows
abbrev pub means_from_mark : Walk → Mark → List PairRow → Means → Means
means_from_mark w m rows means = record means { table = with_rows means.table rows; from = w.at; ended = m.ended }

-- the walk from there: it has no group, and has entered one data set
abbrev pub fresh_walk : Walk → List PairRow → Means → Walk
fresh_walk w rows means = record { groups = []; rows = rows; entered = w.at.set ∷ []; at = w.at; last = means.time.0; bad = None }

-- A mark counts that stands at the walk's end with the session and the time that were meant. Its state slot holds the level and these rows,
-- and the walk's last data set is as it was.
pub record IsMarkedAtEnd (shape : Shape) (means : Means) (w : Walk) (m : Mark) (rows : List PairRow) (a b : Images) : Type 0 where
  pub chosen : chosen_in shape b ≡ Ok (Some m)
  pub stored : stored_in shape b m ≡ Ok (record { level = means.level; rows = rows })
  pub at : m.at ≡ w.at
  pub session : m.session ≡ means.session
  pub time : m.time ≡ means.time
  pub same : b (Journal w.at.set) ≡ a (Journal w.at.set)

-- Then these rows are meant from there, and each track has the content of its slot.
pub record MeansFromMark (shape : Shape) (means : Means) (w : Walk) (m : Mark) (rows : List PairRow) (b : Images) : Type 0 where
  pub meant : meaning_in shape b ≡ Meant (means_from_mark w m rows means) (fresh_walk w rows means)
  pub content : (d x : ℕ) → content_in shape b d x ≡ slot_track (b (Volume d)) x

abbrev pub MarksAtEndsAreMeant : Type 0
MarksAtEndsAreMeant = (shape : Shape) (a b : Images) (means : Means) (w : Walk) (m : Mark) (rows : List PairRow) → meaning_in shape a ≡ Meant means w → means.from.number < 2 ^ 64
    → IsMarkedAtEnd shape means w m rows a b → MeansFromMark shape means w m rows b

-- The data sets that the walk left are free then: a switch from where the mark stands leads to the next one, which is another where there
-- are two.
abbrev pub NextSetsAreFree : Type 0
NextSetsAreFree = (sets : ℕ) (w : Walk) (m : Mark) (rows : List PairRow) (means : Means) → w.at.set < sets → 2 ≤ sets → next_set sets w.at.set ≢ (means_from_mark w m rows means).from.set
