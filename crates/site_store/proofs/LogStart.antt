-- A group's record as it was formed from a site's rows, over plain states.
use Rattle.std.proofs.Common.{◌≡◌, ◌≢◌, ℕ, ◌+◌, ◌*◌, ◌-◌, ◌^◌, ◌≤◌, ◌==◌, Bool, true, false, List, [], length, None, refl, sym, ap, subst, ◌∙◌, arith}
use Rattle.std.specs.Prelude.{nat_le, if◌then◌else◌}
use Rattle.std.specs.List.{list_all}
use Rattle.std.proofs.lemmas.Bool.{eqb-false, eqb-true}
use Rattle.ckd_track.specs.declared.layout.TheConstants.{WRITES_OF_RUN}
use Rattle.crash_plant.specs.declared.device.Device.TheVariants.{Journal}
use Rattle.crash_plant.specs.declared.spot.Spot.{Spot}
use Rattle.crash_plant.specs.Calls.{SameSite}
use Rattle.crash_plant.specs.Moments.{PlantState}
use Rattle.pair_table.specs.declared.row.PairRow.{PairRow}
use Rattle.pair_table.specs.Tables.{are_below}
use Rattle.pending_queue.specs.Entries.{WaitingEntry}
use Rattle.pending_queue.specs.Groups.{FormedGroup}
use Rattle.record_rows.specs.ChangedRows.{rows_in_states}
use Rattle.record_rows.specs.Records.{rows_after_mark, rows_with_record}
use Rattle.record_rows.specs.ToldRows.{AreTold}
use Rattle.record_rows.proofs.Devices.{apart_of}
use Rattle.record_rows.proofs.Telling.{after_marks_tell, records_tell}
use Rattle.site_means.specs.Walk.{first_unfit}
use Rattle.xrc_journal.specs.Bodies.{BodyState}
use Rattle.xrc_journal.specs.Items.{Item, body_spelling}
use Rattle.xrc_journal.specs.Records.{next_set}
use Rattle.site_store.specs.declared.hits.Hits.{Hits}
use Rattle.site_store.specs.declared.placement.Placement.TheVariants.{Here, Switched, Marked}
use Rattle.site_store.specs.Hits.{AreHits, with_group_and_hits}
use Rattle.site_store.specs.Jobs.{body_room}
use Rattle.site_store.specs.Logging.{AreItemsOf, FormsRecord}
use Rattle.site_store.specs.Records.{one_more}
use Rattle.site_store.specs.Sites.{SiteState}
use Rattle.site_store.specs.Standing.{FitsPlant, row_has_volume}
use Rattle.site_store.specs.Placements.{placement_from}
use Rattle.site_store.proofs.Below.{below_volumes}
use Rattle.site_store.proofs.HitStates.{group_makes_rows}
use Rattle.site_store.proofs.RecordPairsFit.{next_have_volumes}

-- The items of a record lead from a site's rows to these, which tell the jobs that have failed.
pub record FormedBy (tells : Type 0) (group : FormedGroup) (site : SiteState) (plant : PlantState) (failed : List Bool) (items : List Item) (after : List PairRow) : Type 0 where
  pub are : AreItemsOf tells group failed site.told after plant items
  pub fit : first_unfit plant.volumes 0 site.told items ≡ None
  pub have : list_all (row_has_volume plant) after ≡ true
  pub told_by : AreTold failed group.cut.0 site.told after

module _ (tells : Type 0) (group : FormedGroup) (site : SiteState) (plant : PlantState) (held now : BodyState) (due failed : List Bool) (hits : Hits) (forms : FormsRecord tells group site.told plant held now due failed hits) (fits : FitsPlant site plant) where
  formed_by : (after : List PairRow) → rows_in_states (with_group_and_hits group hits) site.told ≡ after → AreTold failed group.cut.0 site.told after → FormedBy tells group site plant failed now.items after
  formed_by after made told = record {
    are = subst (λ (rows : List PairRow). AreItemsOf tells group failed site.told rows plant now.items) made forms.items;
    fit = forms.fit;
    have = ap (λ (rows : List PairRow). list_all (row_has_volume plant) rows) (sym made) ∙ next_have_volumes (with_group_and_hits group hits) plant site.told fits.told;
    told_by = told;
  }

  low_rows : are_below 64 site.told ≡ true
  low_rows = below_volumes plant 64 site.told fits.lengths.volumes fits.told

  -- Alone it tells the hits of all jobs that have failed.
  pub first_rows : AreHits site.level group.cut failed [] site.told hits → rows_in_states (with_group_and_hits group hits) site.told ≡ rows_with_record site.level group failed site.told
  first_rows are = group_makes_rows site.level group failed [] site.told hits are low_rows

  pub first_formed : AreHits site.level group.cut failed [] site.told hits → FormedBy tells group site plant failed now.items (rows_with_record site.level group failed site.told)
  first_formed are = formed_by (rows_with_record site.level group failed site.told) (first_rows are) (records_tell site.level group failed site.told (apart_of site.told forms.rules.apart))

  -- After a mark it brings the rows that the mark's hits reach, too.
  pub marked_rows : (hit : List ℕ) → AreHits site.level group.cut failed hit site.told hits → rows_in_states (with_group_and_hits group hits) site.told ≡ rows_after_mark site.level hit group failed site.told
  marked_rows hit are = group_makes_rows site.level group failed hit site.told hits are low_rows

  pub marked_formed : (hit : List ℕ) → AreHits site.level group.cut failed hit site.told hits → FormedBy tells group site plant failed now.items (rows_after_mark site.level hit group failed site.told)
  marked_formed hit are = formed_by (rows_after_mark site.level hit group failed site.told) (marked_rows hit are) (after_marks_tell site.level hit group failed site.told (apart_of site.told forms.rules.apart))

-- The body has room for the largest record of the site's controllers.
pub formed_short : (controls of : ℕ) (entries : List WaitingEntry) (items : List Item) → of ≤ controls → length entries ≤ WRITES_OF_RUN * of → length (body_spelling items) ≤ 56669 * length entries + 64 * 39 → length (body_spelling items) ≤ body_room controls
formed_short controls of entries items fit few short = omega (arith, fit, few, short)

pub room_formed : (controls of room : ℕ) (entries : List WaitingEntry) → room ≡ body_room controls → of ≤ controls → length entries ≤ WRITES_OF_RUN * of → 56670 * length entries + 64 * 39 ≤ room
room_formed controls of room entries is fit few = omega (arith, is, fit, few)

-- Reads leave the placement.
pub placement_still : (old mid : PlantState) (at marked : Spot) (items : List Item) → SameSite old mid → placement_from mid at marked items ≡ placement_from old at marked items
placement_still old mid at marked items same = λ i. if nat_le (at.place + 22 + length (body_spelling items) + 24) (same.lengths (Journal at.set) i) then Here else (if next_set (same.journals i) at.set == marked.set then Marked else Switched)

-- one call more
pub one_more_is : (since next : ℕ) → (since ≡ 2 ^ 32 - 1 → next ≡ since) → (since ≢ 2 ^ 32 - 1 → next ≡ since + 1) → next ≡ one_more since
one_more_is since next last other = by_test (since == 2 ^ 32 - 1) refl
  where
    by_test : (b : Bool) → (since == 2 ^ 32 - 1) ≡ b → next ≡ (if b then since else since + 1)
    by_test true is = last (eqb-true since (2 ^ 32 - 1) is)
    by_test false is = other (eqb-false since (2 ^ 32 - 1) is)
