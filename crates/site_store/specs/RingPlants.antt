-- The laws over what crashes leave on a plant, at every moment of calls. Each is the contract of a public function over any plant.
use Rattle.std.specs.Prelude.{◌≡◌, ◌⊎◌, ◌<◌, ◌≤◌, ◌+◌, ◌^◌, ℕ, List, length, Some, Ok}
use Rattle.std.specs.List.{Contains}
use Rattle.ckd_track.specs.SlotPlaces.{slot_track}
use Rattle.crash_plant.specs.declared.layout.TheConstants.{SWITCH}
use Rattle.crash_plant.specs.declared.device.Device.TheVariants.{Journal, Volume}
use Rattle.crash_plant.specs.declared.spot.Spot.{Spot}
use Rattle.crash_plant.specs.Calls.{Elapses, SameSite, WorksOn}
use Rattle.crash_plant.specs.Choices.{AllFollow, AtNow, Choice}
use Rattle.crash_plant.specs.Moments.{IsDurable, PlantState, Stays, on}
use Rattle.control_set.specs.declared.value.Mark.{Mark}
use Rattle.pair_table.specs.declared.row.PairRow.{PairRow}
use Rattle.xrc_journal.specs.Walks.{Logged}
use Rattle.xrc_journal.specs.RingWalks.{AllEndThrough, spot_after_logged}
use Rattle.xrc_journal.specs.Appending.{AllPutGroup, AllPutSwitch, GroupIsPut, IsOfSwitch, NowFollow, SwitchIsPut}
use Rattle.site_means.specs.declared.means.Means.{Means}
use Rattle.site_means.specs.Images.{shape_of}
use Rattle.site_means.specs.Laws.{and_group, with_group}
use Rattle.site_means.specs.Meaning.{chosen_in, meaning}
use Rattle.site_means.specs.Meaning.Meaning.{Meant}
use Rattle.site_means.specs.Sight.{content_of}
use Rattle.site_means.specs.Walk.{Walk}
use Rattle.site_store.specs.RingLaws.{IsMarkedAtEnd, IsUntouched, MeansFromMark, fresh_walk, means_from_mark}
use Rattle.site_store.specs.Ring.{FitsAfter, ShowsGroup, ShowsSame, ShowsSwitch, and_switch, switched_from}

-- ---- what all choices are

-- Whatever a crash may leave now means this by this walk.
abbrev pub AllMean : PlantState → Means → Walk → Type 0
AllMean plant means w = AtNow (λ c. meaning plant c ≡ Meant means w) plant

-- This mark counts in it.
abbrev pub AllChoose : PlantState → Mark → Type 0
AllChoose plant m = AtNow (λ c. chosen_in (shape_of plant) c ≡ Ok (Some m)) plant

-- The data set of a walk's end has room for a switch there, whatever a crash leaves.
abbrev pub AllHaveRoom : PlantState → Walk → Type 0
AllHaveRoom plant w = AtNow (λ c. w.at.place + SWITCH ≤ length (c (Journal w.at.set))) plant

-- A crash leaves what a read gives of each of these data sets.
abbrev pub AreSetsDurable : PlantState → (sets : List ℕ) → Type 0
AreSetsDurable plant sets = (j : ℕ) → Contains sets j → IsDurable (on plant (Journal j))

-- Each choice comes by this step from one before calls. After them all means this by this walk, and the mark that counted does.
pub record IsMeantAfter (step : Choice → Choice → Type 0) (means : Means) (w : Walk) (old new : PlantState) : Type 0 where
  pub follows : NowFollow step old new
  pub meant : AllMean new means w
  pub chosen : (m : Mark) → AllChoose old m → AllChoose new m

-- ---- where a walk ends

-- Where all means one thing by one walk, a record may be put at its end.
abbrev pub AllWalksEnd : PlantState → Type 0
AllWalksEnd plant = (means : Means) (w : Walk) (cut : ℕ) → AllMean plant means w → means.from.number < 2 ^ 64 → w.last ≤ cut → AllHaveRoom plant w → AllEndThrough plant means.from w.at cut

-- A durable data set has room for all choices where a read shows it.
abbrev pub RoomIsRead : PlantState → Type 0
RoomIsRead plant = (w : Walk) → w.at.set < plant.journals → IsDurable (on plant (Journal w.at.set)) → w.at.place + SWITCH ≤ length (plant.bytes (Journal w.at.set)) → AllHaveRoom plant w

-- The data set of its end is durable where those that it has entered are.
abbrev pub EndIsDurable : PlantState → Type 0
EndIsDurable plant = (means : Means) (w : Walk) (rows : List PairRow) (c : Choice) → meaning plant c ≡ Meant means w → means.from.number < 2 ^ 64 → AreSetsDurable plant w.entered → AreSetsDurable plant (fresh_walk w rows means).entered

-- ---- a group

-- At every moment while a group is put, what was shown before is shown, or the group more.
abbrev pub GroupIsShown : (old new : PlantState) → Type 0
GroupIsShown old new = (means : Means) (w : Walk) (g : Logged) → AllMean old means w → FitsAfter old.volumes means w g → AllPutGroup means.from w.at g old new
    → AllFollow (λ b c. ShowsSame (shape_of old) means w b c ⊎ ShowsGroup (shape_of old) g means w b c) old new

-- Once it was put, all shows it.
abbrev pub GroupIsMeant : (old new : PlantState) → Type 0
GroupIsMeant old new = (means : Means) (w : Walk) (g : Logged) → SameSite old new → AllMean old means w → FitsAfter old.volumes means w g → GroupIsPut means.from w.at g old new
    → IsMeantAfter (ShowsGroup (shape_of old) g means w) (with_group g means) (and_group g (spot_after_logged g w.at) w) old new

-- The data sets of the walk stay durable.
abbrev pub GroupIsDurable : (tells : Type 0) → (old new : PlantState) → Type 0
GroupIsDurable tells old new = (from : Spot) (w : Walk) (g : Logged) → tells → WorksOn tells (λ d. d ≡ Journal w.at.set) old new → GroupIsPut from w.at g old new → AreSetsDurable old w.entered
    → AreSetsDurable new (and_group g (spot_after_logged g w.at) w).entered

-- ---- a switch

-- At every moment while a switch is put, what was shown before is shown, by the walk before or by that with the switch.
abbrev pub SwitchIsShown : (old new : PlantState) → Type 0
SwitchIsShown old new = (means : Means) (w : Walk) (time : ℕ) → AllMean old means w → means.from.number < 2 ^ 64 → w.last ≤ time → AllPutSwitch means.from w.at time old new
    → AllFollow (λ b c. ShowsSame (shape_of old) means w b c ⊎ ShowsSwitch (shape_of old) time means w b c) old new

-- Once it was put, it is shown by the walk with the switch.
abbrev pub SwitchIsMeant : (old new : PlantState) → Type 0
SwitchIsMeant old new = (means : Means) (w : Walk) (time : ℕ) → SameSite old new → AllMean old means w → means.from.number < 2 ^ 64 → w.last ≤ time → SwitchIsPut means.from w.at time old new
    → IsMeantAfter (ShowsSwitch (shape_of old) time means w) means (and_switch time (switched_from old.journals w) w) old new

-- The data sets of the walk stay durable, and the next one is so.
abbrev pub SwitchIsDurable : (tells : Type 0) → (old new : PlantState) → Type 0
SwitchIsDurable tells old new = (from : Spot) (w : Walk) (time : ℕ) → tells → WorksOn tells (IsOfSwitch old.journals w.at) old new → SwitchIsPut from w.at time old new → AreSetsDurable old w.entered
    → AreSetsDurable new (and_switch time (switched_from old.journals w) w).entered

-- ---- a switch, and a group after it

-- the walk with the switch that comes before a group
abbrev pub and_switch_for : (sets : ℕ) → Logged → Walk → Walk
and_switch_for sets g w = and_switch g.time (switched_from sets w) w

-- At every moment what was shown before is shown, by the one or the other walk, or the group more.
abbrev pub SwitchedGroupIsShown : (old mid new : PlantState) → Type 0
SwitchedGroupIsShown old mid new = (means : Means) (w : Walk) (g : Logged) → SameSite old mid → old.clock ≤ mid.clock → SameSite mid new → Elapses mid new → AllMean old means w → FitsAfter old.volumes means w g
    → AllPutSwitch means.from w.at g.time old mid → SwitchIsPut means.from w.at g.time old mid → AllPutGroup means.from (switched_from old.journals w) g mid new
    → AllFollow (λ b c. ShowsSame (shape_of old) means w b c ⊎ (ShowsSwitch (shape_of old) g.time means w b c ⊎ ShowsGroup (shape_of old) g means (and_switch_for old.journals g w) b c)) old new

-- Once both were put, all shows the group.
abbrev pub SwitchedGroupIsMeant : (old mid new : PlantState) → Type 0
SwitchedGroupIsMeant old mid new = (means : Means) (w : Walk) (g : Logged) → SameSite old mid → SameSite mid new → AllMean old means w → FitsAfter old.volumes means w g
    → SwitchIsPut means.from w.at g.time old mid → GroupIsPut means.from (switched_from old.journals w) g mid new
    → IsMeantAfter (ShowsGroup (shape_of old) g means (and_switch_for old.journals g w)) (with_group g means) (and_group g (spot_after_logged g (switched_from old.journals w)) (and_switch_for old.journals g w)) old new

-- ---- a mark

-- At every moment while a mark is made at the walk's end, what was shown before is shown, or what is meant from the mark.
abbrev pub MarkIsShown : (old new : PlantState) → Type 0
MarkIsShown old new = (means : Means) (w : Walk) (m : Mark) (rows : List PairRow) → AllMean old means w → means.from.number < 2 ^ 64
    → AllFollow (λ b c. IsUntouched (shape_of old) w b c ⊎ IsMarkedAtEnd (shape_of old) means w m rows b c) old new
    → AllFollow (λ b c. ShowsSame (shape_of old) means w b c ⊎ MeansFromMark (shape_of old) means w m rows c) old new

-- All means what a mark tells, by a walk without a group. The mark counts, and each track has the content of its slot.
pub record IsMeantFromMark (means : Means) (w : Walk) (m : Mark) (rows : List PairRow) (plant : PlantState) : Type 0 where
  pub meant : AllMean plant (means_from_mark w m rows means) (fresh_walk w rows means)
  pub chosen : AllChoose plant m
  pub content : AtNow (λ c. (d x : ℕ) → content_of plant c d x ≡ slot_track (c (Volume d)) x) plant

-- Once it was made, all means that.
abbrev pub MarkIsMeant : (old new : PlantState) → Type 0
MarkIsMeant old new = (means : Means) (w : Walk) (m : Mark) (rows : List PairRow) → SameSite old new → AllMean old means w → means.from.number < 2 ^ 64
    → NowFollow (IsMarkedAtEnd (shape_of old) means w m rows) old new → IsMeantFromMark means w m rows new

-- Data sets that are left alone meanwhile stay durable.
abbrev pub SetsStayDurable : (old new : PlantState) → Type 0
SetsStayDurable old new = (sets : List ℕ) → old.clock ≤ new.clock → ((j : ℕ) → Contains sets j → Stays (on old (Journal j)) (on new (Journal j))) → AreSetsDurable old sets → AreSetsDurable new sets
