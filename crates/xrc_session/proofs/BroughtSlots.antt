-- Of the volumes the work for a line's time writes slots of its rows alone.
use Rattle.std.proofs.Common.{◌≡◌, ◌⊎◌, ℕ, ◌*◌, ◌≤◌, nat_eq, nat_lt, true, ◌&&◌, not, List, [], ◌++◌, Result, sym, ap, subst, ◌∙◌, inl, inr, true≢false}
use Rattle.std.specs.List.{Contains, list_any}
use Rattle.std.proofs.lemmas.Bool.{and_parts, eqb-true, ltb-true, or_cases}
use Rattle.std.proofs.lemmas.List.Elements.{Contains-append_left}
use Rattle.xrc_edge.specs.declared.limits.TheConstants.{TRACKS_OF_CYLINDER}
use Rattle.ckd_track.specs.SlotPlaces.{slot_end, slot_place}
use Rattle.crash_plant.specs.declared.device.Device.TheVariants.{Volume}
use Rattle.crash_plant.specs.Moments.{PlantState}
use Rattle.pair_table.specs.declared.row.PairRow.{PairRow}
use Rattle.pair_table.specs.Rows.{is_suspended}
use Rattle.xrc_journal.specs.Contents.{is_of_track}
use Rattle.xrc_journal.specs.Items.{Item}
use Rattle.site_store.specs.declared.store_error.StoreError.{StoreError}
use Rattle.site_store.specs.Sites.{SiteState}
use Rattle.mover.specs.Slots.{DiffersInSlotsOf, IsApartFromSlots, WritesSlots, is_track_of_live, is_track_of_mover}
use Rattle.mover.proofs.Pairs.{among_of, contains_of}
use Rattle.xrc_session.specs.Frames.{ChangesRows, DiffersInRows, IsApartFromRows}
use Rattle.xrc_session.specs.WrittenParts.{rows_followed}
use Rattle.xrc_session.proofs.CarriedRows.{kept_among}
use Rattle.xrc_session.proofs.JoinsRows.{some_of}

module _ (site : SiteState) (rows : List PairRow) (idle : site.waiting ≡ []) (told : site.told ≡ rows) where
  -- These rows are among others if they aren't suspended.
  abbrev HasFollowed : List PairRow → Type 0
  HasFollowed all = (r : PairRow) → Contains rows r → not (is_suspended r.state) ≡ true → Contains all r

  -- A range that meets no slot of these meets none that is written.
  apart_slots : (all : List PairRow) → HasFollowed all → (d from to : ℕ) → IsApartFromRows d all from to → IsApartFromSlots (is_track_of_mover site d) from to
  apart_slots all has d from to apart x written = by (or_cases (list_any (is_track_of_live d x) site.told) (list_any (is_of_track d x) site.waiting) written)
    where
      by : (list_any (is_track_of_live d x) site.told ≡ true) ⊎ (list_any (is_of_track d x) site.waiting ≡ true) → (to ≤ slot_place x) ⊎ (slot_end x ≤ from)
      by (inl live) =
          let n = some_of (is_track_of_live d x) site.told live in
          let r = n.item in
          let followed = and_parts (not (is_suspended r.state)) (nat_eq r.device d && nat_lt x (TRACKS_OF_CYLINDER * r.cylinders)) n.is in
          let parts = and_parts (nat_eq r.device d) (nat_lt x (TRACKS_OF_CYLINDER * r.cylinders)) followed.1 in
          apart r (has r (subst (λ (l : List PairRow). Contains l r) told n.among) followed.0) (eqb-true r.device d parts.0) x (ltb-true x (TRACKS_OF_CYLINDER * r.cylinders) parts.1)
      by (inr waits) = absurd (true≢false (sym waits ∙ ap (λ (items : List Item). list_any (is_of_track d x) items) idle))

  differs : (all : List PairRow) → HasFollowed all → (d : ℕ) (was is : List ℕ) → DiffersInSlotsOf (is_track_of_mover site d) was is → DiffersInRows d all was is
  differs all has d was is h = record { size = h.size; others = λ from to le apart. h.others from to le (apart_slots all has d from to apart) }

  module _ (tells : Type 0) (here : tells) (after : SiteState) (old new : PlantState) (result : Result (Unit {0}) StoreError) (writes : WritesSlots tells site after old new result) where
    writes_all : (all : List PairRow) → HasFollowed all → ChangesRows all old new
    writes_all all has = record {
      bytes = λ d low. differs all has d (old.bytes (Volume d)) (new.bytes (Volume d)) (writes.volumes here d low).bytes;
      moments = λ d low t from to c left. let found = (writes.volumes here d low).moments t from to c left in (found.0, found.1, differs all has d found.0 c found.2);
    }

    pub writes_rows : (more : List PairRow) → ChangesRows (rows ++ more) old new
    writes_rows more = writes_all (rows ++ more) (λ r has live. Contains-append_left rows more r has)

    -- Rows that are suspended aren't written.
    pub writes_followed : ChangesRows (rows_followed rows) old new
    writes_followed = writes_all (rows_followed rows) (λ r has live. contains_of r (rows_followed rows) (kept_among (λ s. not (is_suspended s.state)) r rows live (among_of rows r has)))
