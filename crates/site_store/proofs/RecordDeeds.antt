-- A record that is put by its placement, seen as a deed, over plain states.
use Rattle.std.proofs.Common.{◌≡◌, ◌⊎◌, inl, inr, ℕ, ◌<◌, false, List, [], ◌∷◌, Some, sym, ap, ◌∙◌}
use Rattle.std.specs.Option.{option_map}
use Rattle.crash_plant.specs.Calls.{WorksOn}
use Rattle.crash_plant.specs.Choices.{AllFollow, Choice, IsChoice}
use Rattle.crash_plant.specs.Moments.{PlantState}
use Rattle.pair_table.specs.declared.row.PairRow.{PairRow}
use Rattle.record_rows.specs.Deeds.{Deed}
use Rattle.site_store.specs.RingPlants.{AllMean}
use Rattle.site_store.specs.Ring.{ShowsGroup}
use Rattle.site_store.specs.Deeds.{content_by_deed, means_by_deed}
use Rattle.site_store.specs.DoneDeeds.{BeginsDeeds, DoesDeeds}
use Rattle.site_store.specs.Exceptions.{Exceptions, excepted_by_deed}
use Rattle.site_store.specs.Seeing.{MeansByDeed, MeansTheSame}
use Rattle.site_store.proofs.Single.{one_follows}
use Rattle.site_means.specs.declared.means.Means.{Means}
use Rattle.site_means.specs.Images.{shape_of}
use Rattle.site_means.specs.Laws.{with_group}
use Rattle.site_means.specs.Meaning.{meaning}
use Rattle.site_means.specs.Meaning.Meaning.{Meant}
use Rattle.site_means.specs.Sight.{content_of, meant_by}
use Rattle.site_means.specs.Walk.{Walk}
use Rattle.xrc_journal.specs.Contents.{content_through}
use Rattle.xrc_journal.specs.Walks.{Logged}
use Rattle.site_store.specs.declared.placement.Placement.{Placement}
use Rattle.site_store.specs.Recording.{MeansStill, RecordIsMeant, RecordIsShown, walk_by}
use Rattle.site_store.specs.Records.{IsJournal}
use Rattle.site_store.proofs.Calls.{all_weaker}

-- What is meant still is the same sight.
still_same : (plant : PlantState) (e : Exceptions) (means : Means) (w : Walk) (b c : Choice) → meaning plant b ≡ Meant means w → MeansStill (shape_of plant) means b c → MeansTheSame plant e b c
still_same plant e means w b c is still = record {
  means = ap meant_by still.shows.meant ∙ sym (ap meant_by is);
  content = λ d x lt kept. still.shows.content d x;
}

module _ (e : Exceptions) (rows : List PairRow) (deed : Deed) (means : Means) (w : Walk) (g : Logged) (old : PlantState) (all : AllMean old means w) (same : means_by_deed means deed ≡ with_group g means) where
  -- Each track that isn't excepted has by the deed what the items leave of it.
  abbrev pub LeavesContent : Type 0
  LeavesContent = (b : Choice) → IsChoice old old.clock b → (d x : ℕ) → d < old.volumes → excepted_by_deed rows deed e d x ≡ false
      → (a : Choice) × IsChoice old old.clock a × (content_through d x g.items (content_of old b d x) ≡ content_by_deed d x rows deed (content_of old a d x))

  module _ (leaves : LeavesContent) where
    group_by_deed : (v : Walk) (b c : Choice) → IsChoice old old.clock b → ShowsGroup (shape_of old) g means v b c → MeansByDeed old e rows deed b c
    group_by_deed v b c here shown = record {
      means = ap meant_by shown.meant ∙ ap Some (sym same) ∙ ap (option_map (λ (m : Means). means_by_deed m deed)) (sym (ap meant_by (all b here)));
      content = λ d x lt kept. let from = leaves b here d x lt kept in (from.0, from.1, shown.content d x ∙ from.2);
    }

    step_by_deed : (v : Walk) (b c : Choice) → IsChoice old old.clock b → MeansStill (shape_of old) means b c ⊎ ShowsGroup (shape_of old) g means v b c → MeansTheSame old e b c ⊎ MeansByDeed old e rows deed b c
    step_by_deed v b c here (inl still) = inl (still_same old e means w b c (all b here) still)
    step_by_deed v b c here (inr more) = inr (group_by_deed v b c here more)

    module _ (tells : Type 0) (told : tells) (placement : Placement) (new : PlantState) (works : WorksOn tells IsJournal old new) (shown : RecordIsShown placement means w g old new) where
      follows : AllFollow (λ b c. MeansTheSame old e b c ⊎ MeansByDeed old e rows deed b c) old new
      follows = all_weaker old new _ _ shown (λ b c here step. step_by_deed (walk_by old.journals placement g w) b c here step)

      -- While it is put the deed begins.
      pub record_begins : BeginsDeeds e rows (deed ∷ []) old new
      record_begins = (one_follows old new e rows deed works.site (works.elapses told) (works.silent told) follows).0

      -- Once it was put the deed is done.
      pub record_does : RecordIsMeant placement means w g old new → DoesDeeds e rows (deed ∷ []) old new
      record_does meant = (one_follows old new e rows deed works.site (works.elapses told) (works.silent told) follows).1 (λ c is.
          let came = meant.follows c is in
          (came.0, came.1, group_by_deed (walk_by old.journals placement g w) came.0 c came.1 came.2))
