-- What is redone since the start of a third copy, and what stays of it while targets are written.
use Rattle.std.proofs.Common.{◌≡◌, ◌≤◌, ◌<◌, ◌*◌, ℕ, List, length, true, false, sym, ◌∙◌, subst, arith}
use Rattle.std.specs.Prelude.{Contains, slice_index_or}
use Rattle.std.proofs.lemmas.Option.{get_or_from_slice_get, slice_get_within}
use Rattle.ckd_track.specs.SlotPlaces.{slot_track}
use Rattle.crash_plant.specs.declared.device.Device.TheVariants.{Volume}
use Rattle.crash_plant.specs.Moments.{PlantState}
use Rattle.pair_table.specs.declared.row.PairRow.{PairRow}
use Rattle.pair_table.specs.Devices.{is_among}
use Rattle.pair_table.specs.States.{is_duplex}
use Rattle.site_means.specs.Sight.{content_of, walked}
use Rattle.volume_label.specs.Labels.{volume_need}
use Rattle.xrc_journal.specs.Items.{Item}
use Rattle.xrecover.specs.declared.labelling.Labelling.{Labelling}
use Rattle.xrecover.specs.RedoneVolumes.{BearsLabel, Draws, HoldsTracks, IsRedone, Redone}
use Rattle.xrecover.specs.Works.{Nothing, Works}
use Rattle.third_copy.specs.Pairs.{IsPair}
use Rattle.third_copy.proofs.Counting.{not_among}
use Rattle.third_copy.proofs.Rows.{place_of_row}
use Rattle.third_copy.proofs.Site.{items_still}

module _ (tells : Type 0) (told : tells) (old two three : PlantState) (works : Works tells Nothing old two) (labelling : Labelling) (rows : List PairRow) (failed : List ℕ) (redone : Redone labelling rows (walked two two.bytes) failed two three) where
  -- The volume of a pair that didn't fail is redone since the start.
  pub redone_since : (r : PairRow) → IsPair rows r → is_among r.device failed ≡ false → IsRedone labelling r (walked old old.bytes) old three
  redone_since r pair fit =
      let place = place_of_row rows r pair.among in
      let within = slice_get_within rows place.0 r place.1 in
      let here : slice_index_or rows place.0 r ≡ r = get_or_from_slice_get rows place.0 r r place.1 in
      let all = redone place.0 r within in
      let own = subst (λ (q : PairRow). is_duplex q.state ≡ true → ¬ Contains failed q.device → IsRedone labelling q (walked two two.bytes) two three) here all pair.duplex (not_among failed r.device fit) in
      let bytes = works.bytes told (Volume r.device) in
      let items = items_still tells old two works told in
      record {
        draws = subst (λ (l : List ℕ). Draws r.device (walked old old.bytes) l (three.bytes (Volume r.device))) bytes (subst (λ (i : List Item). Draws r.device i (two.bytes (Volume r.device)) (three.bytes (Volume r.device))) items own.draws);
        content = subst (λ (l : List ℕ). HoldsTracks r.device (walked old old.bytes) l (three.bytes (Volume r.device))) bytes (subst (λ (i : List Item). HoldsTracks r.device i (two.bytes (Volume r.device)) (three.bytes (Volume r.device))) items own.content);
        label = subst (λ (l : List ℕ). BearsLabel labelling r l (three.bytes (Volume r.device))) bytes own.label;
        durable = own.durable;
      }

  -- Its slots hold the content of its tracks.
  pub content_since : (r : PairRow) → IsPair rows r → is_among r.device failed ≡ false → volume_need r.cylinders ≤ length (old.bytes (Volume r.device)) → (x : ℕ) → x < 15 * r.cylinders → slot_track (three.bytes (Volume r.device)) x ≡ content_of old old.bytes r.device x
  content_since r pair fit long x below = (redone_since r pair fit).content x (omega (arith, long, below))

-- What is redone stays so where its device stays.
pub redone_still : (tells : Type 0) (told : tells) (labelling : Labelling) (r : PairRow) (items : List Item) (old three new : PlantState) → new.bytes (Volume r.device) ≡ three.bytes (Volume r.device)
    → ((c : List ℕ) → new.images new.clock (Volume r.device) c → (b : List ℕ) × three.images three.clock (Volume r.device) b × (c ≡ b)) → IsRedone labelling r items old three → IsRedone labelling r items old new
redone_still tells told labelling r items old three new same moments done = record {
  draws = subst (λ (l : List ℕ). Draws r.device items (old.bytes (Volume r.device)) l) (sym same) done.draws;
  content = subst (λ (l : List ℕ). HoldsTracks r.device items (old.bytes (Volume r.device)) l) (sym same) done.content;
  label = subst (λ (l : List ℕ). BearsLabel labelling r (old.bytes (Volume r.device)) l) (sym same) done.label;
  durable = λ c left. let start = moments c left in start.2 ∙ done.durable start.0 start.1 ∙ sym same;
}
