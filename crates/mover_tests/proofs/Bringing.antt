-- What an epoch leaves that reached its limit: the session rests there.
use Rattle.std.proofs.Common.{◌≡◌, ℕ, Bool, nat_lt, ◌&&◌, List, [], ◌∷◌, length, Option, Ok, refl, sym, ap, ◌∙◌}
use Rattle.std.specs.List.{list_all}
use Rattle.crash_plant.specs.Moments.{PlantState}
use Rattle.pair_table.specs.declared.row.PairRow.{PairRow}
use Rattle.pair_table.specs.declared.row.PairState.{PairState}
use Rattle.pair_table.specs.Commands.{has_named_primary}
use Rattle.pair_table.specs.Naming.{Naming}
use Rattle.pair_table.specs.Tables.{Table, are_below, in_state, most_rows}
use Rattle.group_state.specs.Groups.{Group}
use Rattle.record_rows.specs.ToldRows.{InPlaces}
use Rattle.site_store.specs.Commands.{MayDo}
use Rattle.site_store.specs.Sites.{SiteState}
use Rattle.mover.specs.declared.ends.EpochEnd.TheVariants as ends
use Rattle.mover.specs.declared.lane.Lane.{Lane}
use Rattle.mover.specs.Epochs.{EpochRun, IsAtTime, IsSamePair, ReachedBy}
use Rattle.mover.specs.Moves.{MoverWorks}
use Rattle.xrc_session.proofs.JoinsLanes.{named_volumes_stay}
use Rattle.xrc_session.proofs.JoinsLogs.{epochs_rest}
use Rattle.mover_tests.specs.Courses.{MayGoTo}
use Rattle.mover_tests.proofs.Homes.{labels_still}

-- What holds of a row in whatever state holds of the rows after an epoch.
pass_places : (test : PairRow → Bool) → ((state : PairState) (r : PairRow) → test (in_state state r) ≡ test r) → (rows next : List PairRow) → InPlaces IsSamePair rows next → list_all test next ≡ list_all test rows
pass_places test stays [] [] are = refl
pass_places test stays [] (s ∷ next) are = absurd are
pass_places test stays (r ∷ rows) [] are = absurd are
pass_places test stays (r ∷ rows) (s ∷ next) are = λ i. (ap test are.0 ∙ stays s.state r) i && pass_places test stays rows next are.1 i

module _ (names : Naming) (limit : ℕ) (site after : SiteState) (at : IsAtTime limit site after) (was : site.told ≡ site.table.rows) (is : after.told ≡ after.table.rows) (count : length after.failed ≡ length site.failed) where
  passes : (test : PairRow → Bool) → ((state : PairState) (r : PairRow) → test (in_state state r) ≡ test r) → list_all test after.table.rows ≡ list_all test site.table.rows
  passes test stays = ap (list_all test) (sym is) ∙ pass_places test stays site.told after.told at.pairs ∙ ap (list_all test) was

  -- A command may come, if one might before.
  may_do_then : MayDo names site → MayDo names after
  may_do_then may = record {
    command = record { named = passes (has_named_primary names) (λ state r. refl) ∙ may.command.named; below = passes (λ r. nat_lt r.device most_rows) (λ state r. refl) ∙ may.command.below };
    started = ap (λ (t : Table). t.is_started) at.is_left.table ∙ may.started;
    labels = ap (λ (n : ℕ). list_all (λ label. nat_lt label.device n) names.labels) count ∙ may.labels;
    rows = ap (λ (n : ℕ). are_below n after.table.rows) count ∙ passes (λ r. nat_lt r.device (length site.failed)) (λ state r. refl) ∙ may.rows;
  }

module _ {S : Type 0} (tells : Type 0) (left : S → Option (List ℕ)) (faults : S → ℕ) (from limit : ℕ) (names : Naming) (group next : Group) (lanes then : List (Lane S)) (site after : SiteState) (was is : PlantState)
    (go : MayGoTo tells from names lanes group site was) (ran : EpochRun left faults limit group lanes then site after was is (ends.Reached next)) (reached : ReachedBy tells left limit group lanes then site next after is)
    (works : MoverWorks tells site after was is (Ok tt)) (same : after.told ≡ after.table.rows) where
  pub goes_then : MayGoTo tells limit names then next after is
  goes_then = record {
    are = reached.lanes;
    may = reached.begins;
    kept = (epochs_rest tells left faults was is limit group next lanes then site after ran reached go.kept).kept;
    commands = record {
      are_named = named_volumes_stay lanes then names reached.same go.commands.are_named;
      may = may_do_then names limit site after reached.time go.commands.same same works.failed.size go.commands.may;
      labels = labels_still names was is works.others.site go.commands.labels;
      same = same;
    };
  }
