-- What a third copy answers, what it leaves of each device, and what a crash leaves of it.
use Rattle.std.specs.Prelude.{◌≡◌, ◌≢◌, ◌≤◌, ◌⊎◌, ◌+◌, ℕ, List, true, not, filter, Some, Result, Ok, Err}
use Rattle.crash_plant.specs.declared.device.Device.{Device}
use Rattle.crash_plant.specs.declared.device.Device.TheVariants.{Control, State, Journal, Volume}
use Rattle.crash_plant.specs.Choices.{AtNow, Choice}
use Rattle.crash_plant.specs.Moments.{PlantState}
use Rattle.pair_table.specs.declared.row.PairRow.{PairRow}
use Rattle.pair_table.specs.Devices.{is_among}
use Rattle.pair_table.specs.Tables.{HasRow}
use Rattle.xrc_edge.specs.Causes.{Rose}
use Rattle.site_means.specs.declared.means.Means.{Means}
use Rattle.site_means.specs.Sight.{content_of, means_of, walked}
use Rattle.volume_copy.specs.Targets.{AreCopied, CopiesTo}
use Rattle.xrecover.specs.declared.labelling.Labelling.TheVariants.{AsItIs}
use Rattle.xrecover.specs.declared.recover_error.RecoverError.{RecoverError}
use Rattle.xrecover.specs.Answers.{IsEarly, IsGoodOrCalledFor, IsRecoverable}
use Rattle.xrecover.specs.Pairs.{HasDuplex, duplex_devices}
use Rattle.xrecover.specs.RedoneVolumes.{IsRedone, Redoes, meant_rows}
use Rattle.xrecover.specs.Sights.{IsUnwritten, MeansAsRead, TellsLasting}
use Rattle.third_copy.specs.declared.copy_error.CopyError.{CopyError}
use Rattle.third_copy.specs.declared.copy_error.CopyError.TheVariants.{NoTarget, Recover}
use Rattle.third_copy.specs.declared.outcome.CopyOutcome.{CopyOutcome}
use Rattle.third_copy.specs.Jobs.{FailsByEither}
use Rattle.third_copy.specs.Pairs.{IsCopied, IsFirstWithout, IsFoundOf, IsPair, IsTargetOf, NoneIsWithout, claim_of}
use Rattle.third_copy.specs.Targets.{target_of}

-- ---- answers

-- What was copied is what the devices mean, and each pair has a target; or the answer is the one that is called for. A pair that lacks a target is
-- told after what is wrong with the site, and before anything is written.
abbrev pub IsCopyCalledFor : (old new : PlantState) → (session : List ℕ) → (shift : ℕ) → Result CopyOutcome CopyError → Type 0
IsCopyCalledFor old new session shift (Ok o) = IsRecoverable old session o.means × NoneIsWithout old new o.means.table.rows shift
IsCopyCalledFor old new session shift (Err (Recover e)) = let r : Result CopyOutcome RecoverError = Err e in IsGoodOrCalledFor old session (λ o. IsRecoverable old session o.means) r
IsCopyCalledFor old new session shift (Err (NoTarget d)) = (m : Means) × IsRecoverable old session m × IsFirstWithout old new m.table.rows shift d

-- each answer but a journal's fault
abbrev pub IsEarlyCopy : CopyError → Type 0
IsEarlyCopy (Recover e) = IsEarly e
IsEarlyCopy (NoTarget d) = Unit {0}

-- ---- which pairs are copied

-- The duplex pairs that are told as failed are those that aren't told as done, in the order of the rows. Of a pair that is done neither volume nor
-- target failed; of the others one did, by its count.
pub record AreFaultyPairs (rows : List PairRow) (shift : ℕ) (old new : Device → ℕ) (copied failed : List ℕ) : Type 0 where
  pub listed : failed ≡ filter (λ v. not (is_among v copied)) (duplex_devices rows)
  pub of_pairs : (v : ℕ) → is_among v copied ≡ true → HasDuplex rows v
  pub counted : (r : PairRow) → IsPair rows r → FailsByEither (not (is_among r.device copied)) r.device (target_of shift r) old new

-- Whatever is answered, a count rises by one at most, and of volumes' counts only those of pairs' volumes and of their targets.
pub record CountsPairs (rows : List PairRow) (shift : ℕ) (old new : Device → ℕ) : Type 0 where
  pub once : (v : ℕ) → new (Volume v) ≤ old (Volume v) + 1
  pub spared : (v : ℕ) → ((r : PairRow) → IsPair rows r → (v ≢ r.device) × (v ≢ target_of shift r)) → new (Volume v) ≡ old (Volume v)

-- A pair's volume is redone, or its own count rose. What its target did makes no difference.
abbrev pub IsRedoneOrFailed : (old new : PlantState) → PairRow → Type 0
IsRedoneOrFailed old new r = IsRedone AsItIs r (walked old old.bytes) old new ⊎ Rose (old.faults (Volume r.device)) (new.faults (Volume r.device))

-- Each pair that is told as done is copied, and its volume is redone. Of each other pair the volume is redone, too, or it failed.
pub record ArePairsCopied (shift : ℕ) (old new : PlantState) (o : CopyOutcome) : Type 0 where
  pub copied : (r : PairRow) → IsPair o.means.table.rows r → is_among r.device o.done ≡ true → IsCopied o.means shift new r × IsRedone AsItIs r (walked old old.bytes) old new
  pub redone : (r : PairRow) → IsPair o.means.table.rows r → IsRedoneOrFailed old new r

-- ---- what it leaves

-- On a pair's volume only a label, and slots of tracks of which the walk has an item, may differ. A target comes from one image to another by the
-- content of the pair's tracks, if it is found by what reads gave at first. All else stays.
abbrev pub CopiesSite : PlantState → (shift : ℕ) → Device → List ℕ → List ℕ → Type 0
CopiesSite plant shift (Volume v) b c = (HasDuplex (meant_rows plant plant.bytes) v → Redoes v (walked plant plant.bytes) b c)
    × ((m : Means) → means_of plant plant.bytes ≡ Some m → (r : PairRow) → IsTargetOf m.table.rows shift r v → CopiesTo (claim_of m r) (content_of plant plant.bytes r.device) b c)
    × (¬ HasDuplex (meant_rows plant plant.bytes) v → ((r : PairRow) → ¬ IsFoundOf plant (meant_rows plant plant.bytes) shift r v) → c ≡ b)
CopiesSite plant shift Control b c = c ≡ b
CopiesSite plant shift State b c = c ≡ b
CopiesSite plant shift (Journal j) b c = c ≡ b

-- In every image that a pair's target has, all that is done begins with the images of the pair's content.
abbrev pub AreAllCopied : (start plant : PlantState) → (moment : ℕ) → Means → (shift : ℕ) → PairRow → Type 0
AreAllCopied start plant t m shift r = (c : List ℕ) → plant.images t (Volume (target_of shift r)) c → AreCopied (claim_of m r) (content_of start start.bytes r.device) c

-- If this holds when a copy begins, it holds at every moment of it.
abbrev pub KeepsCopied : (shift : ℕ) → (old new : PlantState) → Type 0
KeepsCopied shift old new = (m : Means) → means_of old old.bytes ≡ Some m → (r : PairRow) → IsPair m.table.rows r → AreAllCopied old old old.clock m shift r
    → (t : ℕ) → old.clock ≤ t → t ≤ new.clock → AreAllCopied old new t m shift r

-- What is left means the same as what could be left at the start, and on each device of a row each track has the same content. Nothing was written by
-- then, or it means what reads gave at first.
pub record SeesSameRows (plant : PlantState) (b c : Choice) : Type 0 where
  pub means : means_of plant c ≡ means_of plant b
  pub content : (d x : ℕ) → HasRow d (meant_rows plant plant.bytes) → content_of plant c d x ≡ content_of plant b d x
  pub settled : IsUnwritten plant b c ⊎ MeansAsRead plant c

-- What is told of the devices lasts.
abbrev pub TellsCopyLasting : (tells : Type 0) → (old new : PlantState) → Result CopyOutcome CopyError → Type 0
TellsCopyLasting tells old new (Ok o) = AtNow (MeansAsRead old) new
TellsCopyLasting tells old new (Err (NoTarget d)) = AtNow (MeansAsRead old) new
TellsCopyLasting tells old new (Err (Recover e)) = let r : Result CopyOutcome RecoverError = Err e in TellsLasting tells old new r
