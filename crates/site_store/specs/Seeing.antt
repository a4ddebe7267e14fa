-- What is seen of a crash's choice once deeds are done, from what could be left before them.
use Rattle.std.specs.Prelude.{◌≡◌, ℕ, ◌<◌, List, false, option_map}
use Rattle.crash_plant.specs.Choices.{Choice, IsChoice}
use Rattle.crash_plant.specs.Moments.{PlantState}
use Rattle.pair_table.specs.declared.row.PairRow.{PairRow}
use Rattle.site_means.specs.Sight.{content_of, means_of}
use Rattle.record_rows.specs.Deeds.{Deed}
use Rattle.site_store.specs.Deeds.{content_after, content_by_deed, means_after, means_by_deed}
use Rattle.site_store.specs.Exceptions.{Exceptions, excepted_after, excepted_by_deed}

-- A choice is as deeds leave what could be left at a start, with these exceptions and these rows there. It means what they leave of what
-- some choice at the start meant. Each track that isn't excepted has the content that they leave of it in some choice at the start,
-- and different tracks may come from different ones: a slot of which no item of the walk is may hold one of several things.
pub record SeesAfter (start : PlantState) (excepted : Exceptions) (rows : List PairRow) (deeds : List Deed) (c : Choice) : Type 0 where
  pub from : Choice
  pub was : IsChoice start start.clock from
  pub means : means_of start c ≡ option_map (means_after deeds) (means_of start from)
  pub content : (d x : ℕ) → d < start.volumes → excepted_after rows deeds excepted d x ≡ false
      → (a : Choice) × IsChoice start start.clock a × (content_of start c d x ≡ content_after d x rows deeds (content_of start a d x))

-- ---- one step

-- A choice means the same as another, and each track that isn't excepted has the same content.
pub record MeansTheSame (plant : PlantState) (excepted : Exceptions) (b c : Choice) : Type 0 where
  pub means : means_of plant c ≡ means_of plant b
  pub content : (d x : ℕ) → d < plant.volumes → excepted d x ≡ false → content_of plant c d x ≡ content_of plant b d x

-- A choice means what a deed leaves of what another means, and each track that isn't excepted then has what it leaves of it in some choice.
pub record MeansByDeed (plant : PlantState) (excepted : Exceptions) (rows : List PairRow) (deed : Deed) (b c : Choice) : Type 0 where
  pub means : means_of plant c ≡ option_map (λ m. means_by_deed m deed) (means_of plant b)
  pub content : (d x : ℕ) → d < plant.volumes → excepted_by_deed rows deed excepted d x ≡ false → (a : Choice) × IsChoice plant plant.clock a × (content_of plant c d x ≡ content_by_deed d x rows deed (content_of plant a d x))
