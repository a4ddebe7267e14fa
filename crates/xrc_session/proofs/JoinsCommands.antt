-- A session at rest is at rest again after a command whose change is logged and taken over.
use Rattle.std.proofs.Common.{◌≡◌, ◌≤◌, ℕ, nat_eq, Bool, true, ◌&&◌, List, [], ◌∷◌, length, Option, Some, None, Ok, refl, sym, ap, subst, ◌∙◌, arith, inr}
use Rattle.std.specs.Prelude.{IfSome, IsSomeAnd, bytes_eq, slice_index_or}
use Rattle.std.specs.List.{Contains, list_all}
use Rattle.std.proofs.lemmas.Bool.{and_parts, eqb-true}
use Rattle.std.proofs.lemmas.List.{length-map}
use Rattle.std.proofs.lemmas.List.Sums.{AllPass-from_list_all}
use Rattle.tod_stamp.specs.declared.stamp.Stamp.{Stamp}
use Rattle.crash_plant.specs.Moments.{PlantState}
use Rattle.pair_table.specs.declared.command.Change.{Change}
use Rattle.pair_table.specs.declared.command.Change.TheVariants.{Nothing, Started, Added, Resumed, Gone, Suspended, Ended}
use Rattle.pair_table.specs.declared.level.Level.{Level}
use Rattle.pair_table.specs.declared.row.PairRow.{PairRow}
use Rattle.pair_table.specs.Commands.{PrimariesAreNamed, has_named_primary, is_volume_of}
use Rattle.pair_table.specs.Naming.{Naming}
use Rattle.pair_table.specs.Tables.{is_of, row_of}
use Rattle.group_state.specs.Groups.{Group}
use Rattle.record_rows.specs.Hits.{hit_now, rows_hit}
use Rattle.row_changes.specs.Changes.RowChange.{Hit}
use Rattle.xrc_journal.specs.Items.{Item}
use Rattle.turn_group.specs.Notes.{known_of, volumes_known}
use Rattle.site_store.specs.IdleSites.{IsSiteIdle}
use Rattle.site_store.specs.Changing.{IsAfterChange, LogsChange, changed_items}
use Rattle.site_store.specs.Commands.{after_command}
use Rattle.site_store.specs.Records.{after_placement}
use Rattle.site_store.specs.Sites.{SiteState}
use Rattle.site_store.proofs.Between.{changed_idle}
use Rattle.site_store.proofs.ByPlacements.{RecordPlacement, by_placements}
use Rattle.mover.proofs.Pairs.{contains_of, pairs_of, same_pairs}
use Rattle.xrc_session.specs.Taking.{IfAdds, IsSoundForRows, after_calls, calls_of_change}
use Rattle.xrc_session.proofs.Walking.{found_in}
use Rattle.mover.specs.declared.lane.Lane.{Lane}
use Rattle.mover.specs.Rounds.{AreLanesOf}
use Rattle.xrc_session.specs.Joins.{AreNamedOfLanes, HasInHeader, IsRowOfLane, RestsAfterCommands, StaysForReaders}
use Rattle.xrc_session.proofs.JoinsLanes.{changes_stay, lanes_after}
use Rattle.xrc_session.proofs.JoinsRows.{kept_known, some_of}

-- ---- the site after the change

-- What a change's record leaves of a site: its time is the record's, and the pairs are those of the command's rows.
record IsLeftByChange (at : ℕ) (site next : SiteState) : Type 0 where
  controls : next.controls ≡ site.controls
  time : next.time ≡ at
  marked : site.since ≡ 0 → next.since ≡ 0
  pairs : pairs_of next.table.rows ≡ pairs_of site.table.rows

hit_pairs : (level : Level) (time : ℕ) (hit : List ℕ) (rows : List PairRow) → pairs_of (rows_hit level time hit rows) ≡ pairs_of rows
hit_pairs level time [] rows = refl
hit_pairs level time (d ∷ hit) rows = same_pairs level (record { time = time; change = Hit (d ∷ hit) } ∷ []) rows

logged_record : (at : ℕ) (change : Change) (placement : RecordPlacement) (site next : SiteState) (old : PlantState) → IsAfterChange at change placement site next old → IsLeftByChange at site next
logged_record at change placement site next old after = subst (λ (t : SiteState). IsLeftByChange at site t) (sym after.next_is) (record {
  controls = by_placements (λ (w : RecordPlacement). (after_placement w site).controls ≡ site.controls) refl refl refl placement;
  time = refl;
  marked = by_placements (λ (w : RecordPlacement). site.since ≡ 0 → (after_placement w site).since ≡ 0) (λ e. e) (λ e. e) (λ e. refl) placement;
  pairs = hit_pairs site.level at (hit_now next.failed site.table.rows) site.table.rows;
})

logged_change : {P : Type 0} (at : ℕ) (change : Change) (site next : SiteState) (old : PlantState) (was is : P) → site.time ≡ at → LogsChange at change site next old was is (Ok tt) → IsLeftByChange at site next
logged_change at change site next old was is time logs = choose (changed_items change site.table.rows) refl
  where
    choose : (items : List Item) → changed_items change site.table.rows ≡ items → IsLeftByChange at site next
    choose [] none = subst (λ (t : SiteState). IsLeftByChange at site t) (sym (logs.nothing none).1) (record { controls = refl; time = time; marked = λ e. e; pairs = refl })
    choose (i ∷ items) some =
        let logged = logs.rows (λ none. let clash : i ∷ items ≡ [] = sym some ∙ none in cc clash) in
        logged_record at change logged.placement site next old logged.after

-- ---- rows of lanes

named_pairs : (names : Naming) (rows : List PairRow) → list_all (has_named_primary names) (pairs_of rows) ≡ list_all (has_named_primary names) rows
named_pairs names [] = refl
named_pairs names (r ∷ rows) = ap (λ (b : Bool). has_named_primary names r && b) (named_pairs names rows)

named_again : (names : Naming) (rows next : List PairRow) → pairs_of next ≡ pairs_of rows → PrimariesAreNamed names rows → PrimariesAreNamed names next
named_again names rows next same named = sym (named_pairs names next) ∙ ap (list_all (has_named_primary names)) same ∙ named_pairs names rows ∙ named

module _ {S : Type 0} (lanes : List (Lane S)) (names : Naming) (are : AreNamedOfLanes lanes names) where
  row_of_lane : (r : PairRow) → has_named_primary names r ≡ true → IsRowOfLane lanes r
  row_of_lane r named d =
      let n = some_of (is_volume_of r) names.primaries named in
      let v = n.item in
      let cylinders = and_parts ((bytes_eq v.serial r.primary && nat_eq v.control r.control) && nat_eq v.volume r.volume) (nat_eq v.cylinders r.cylinders) n.is in
      let volume = and_parts (bytes_eq v.serial r.primary && nat_eq v.control r.control) (nat_eq v.volume r.volume) cylinders.0 in
      let control = and_parts (bytes_eq v.serial r.primary) (nat_eq v.control r.control) volume.0 in
      subst (λ k. IsSomeAnd (slice_index_or lanes k d).reader (HasInHeader r.volume r.cylinders)) (eqb-true v.control r.control control.1)
      (subst (λ n. IsSomeAnd (slice_index_or lanes v.control d).reader (HasInHeader n r.cylinders)) (eqb-true v.volume r.volume volume.1)
      (subst (λ n. IsSomeAnd (slice_index_or lanes v.control d).reader (HasInHeader v.volume n)) (eqb-true v.cylinders r.cylinders cylinders.1) (are v n.among d)))

  rows_of_lanes : (rows : List PairRow) (r : PairRow) → PrimariesAreNamed names rows → Contains rows r → IsRowOfLane lanes r
  rows_of_lanes rows r named has = row_of_lane r (ap (has_named_primary names) (sym has.2) ∙ AllPass-from_list_all (has_named_primary names) rows named has.0 r has.1)

  pub added_of_lane : (change : Change) (after : List PairRow) → PrimariesAreNamed names after → IfAdds change after (IsRowOfLane lanes)
  added_of_lane Nothing after named = tt
  added_of_lane Started after named = tt
  added_of_lane (Added device) after named = of (row_of device after) refl
    where
      of : (o : Option PairRow) → row_of device after ≡ o → IfSome o (IsRowOfLane lanes)
      of None is = tt
      of (Some r) is = rows_of_lanes after r named (contains_of r after (found_in (is_of device) after r is))
  added_of_lane (Resumed device) after named = tt
  added_of_lane (Gone devices) after named = tt
  added_of_lane (Suspended devices) after named = tt
  added_of_lane Ended after named = tt

-- ---- at rest

pub rests_after : {S P : Type 0} (tells : Type 0) (was is : P) (lanes : List (Lane S)) (old new : PlantState) → RestsAfterCommands tells was is lanes old new
rests_after tells was is lanes old new names session command change at group end site next named may rest taken = record {
  cut = ap (λ (g : Group). g.last.0) taken.calls ∙ ap (λ (t : Stamp). t.0) stays.last ∙ rest.cut;
  time = logged.time;
  lanes_of = subst (λ (g : Group). AreLanesOf g at lanes) (sym taken.calls) (lanes_after lanes at change site.table.rows next.table.rows group rest.lanes_of added);
  begins = record {
    rests = idle.may;
    marked = logged.marked rest.begins.marked;
    knows = record {
      rows = kept_known end next.told kept;
      controls = few;
      in_step = record { up = omega (arith, last_is, logged.time); same = inr (last_is ∙ sym logged.time) };
      below = omega (arith, logged.time);
      told = taken.told;
    };
  };
  kept = kept;
}
  where
    changed : SiteState
    changed = after_command names session command at change site

    logged : IsLeftByChange at changed next
    logged = logged_change at change changed next old was is rest.time taken.logs

    idle : IsSiteIdle tells next new
    idle = changed_idle tells changed next old new (λ e. e) at change was is (Ok tt) taken.may taken.leaves taken.logs

    kept : IsSoundForRows end next.told
    kept = subst (IsSoundForRows end) (sym idle.same) taken.kept

    stays : StaysForReaders group (after_calls (calls_of_change change group site.table.rows next.table.rows) group)
    stays = changes_stay change site.table.rows next.table.rows group

    last_is : end.last.0 ≡ at
    last_is = ap (λ (g : Group). g.last.0) taken.calls ∙ ap (λ (t : Stamp). t.0) stays.last ∙ rest.cut

    added : IfAdds change next.table.rows (IsRowOfLane lanes)
    added = added_of_lane lanes names named change next.table.rows (named_again names changed.table.rows next.table.rows logged.pairs may.command.named)

    few : length (volumes_known end) ≤ next.controls
    few =
        let count : length (volumes_known end) ≡ length (volumes_known group) =
        length-map end.controls known_of ∙ ap (λ (g : Group). length g.controls) taken.calls ∙ stays.many ∙ sym (length-map group.controls known_of) in
        let before = rest.begins.knows.controls in
        let controls = logged.controls in
        omega (arith, count, before, controls)
