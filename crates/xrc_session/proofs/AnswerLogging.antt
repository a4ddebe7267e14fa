-- A command's change that is logged, in each run.
use Rattle.std.proofs.Common.{◌≡◌, ℕ, nat_lt, Bool, false, List, Option, Some, None, Ok, Err, refl, sym, ap, subst, ◌∙◌}
use Rattle.std.specs.Option.{option_map}
use Rattle.std.specs.Prelude.{IsSomeAnd}
use Rattle.crash_plant.specs.Choices.{Choice, IsChoice}
use Rattle.crash_plant.specs.Moments.{PlantState}
use Rattle.pair_table.specs.declared.command.Change.{Change}
use Rattle.pair_table.specs.declared.level.Level.{Level}
use Rattle.pair_table.specs.declared.row.PairRow.{PairRow}
use Rattle.pair_table.specs.Commands.{has_named_primary}
use Rattle.pair_table.specs.Naming.{Naming}
use Rattle.pair_table.specs.Tables.{are_below}
use Rattle.group_state.specs.Groups.{Group}
use Rattle.record_rows.specs.Records.{rows_with_hits}
use Rattle.xrc_command.specs.declared.line.Line.{Line}
use Rattle.site_store.specs.declared.store_error.StoreError.{StoreError}
use Rattle.site_store.specs.Causes.{FailByCounts}
use Rattle.site_store.specs.Changing.{DoesChange, LogsChange, MayChange}
use Rattle.site_store.specs.Records.{VolumesStay}
use Rattle.site_store.specs.Sites.{SiteState}
use Rattle.site_store.specs.Standing.{FitsPlant, Leaves}
use Rattle.site_store.proofs.Commanded.{commands_leave}
use Rattle.consistency.specs.Stages.{ScriptRun, Stage, primaries_named}
use Rattle.consistency.specs.Leads.{Point}
use Rattle.consistency.specs.Ways.{Leg, PassedPoint}
use Rattle.mover.specs.Working.{LinesAsked}
use Rattle.xrc_session.specs.Answering.{ControlsCount, EndsCommand, HasCommanded, IsDoneFrom, MayAnswer, MayLogChange, group_taken}
use Rattle.xrc_session.specs.LinePauses.{RisesCover}
use Rattle.xrc_session.specs.CarriedLaws.{FitsOn}
use Rattle.xrc_session.specs.Lanes.{sizes_of}
use Rattle.xrc_session.specs.Steps.{BeginsToPass}
use Rattle.xrc_session.specs.Taking.{IfAdds, IsSoundForRows, after_calls, calls_of_change, tracks_to_copy}
use Rattle.xrc_session.proofs.AnswerBegun.{added_fits}
use Rattle.xrc_session.proofs.AnswerChanges.{may_change, may_take, site_told, was_goes}
use Rattle.xrc_session.proofs.AnswerHits.{NoneFalls}
use Rattle.xrc_session.proofs.AnswerLogged.{has_logged}
use Rattle.xrc_session.proofs.AnswerLogs.{IsLinePassed, IsLoggedIn, change_begins, line_passed}
use Rattle.xrc_session.proofs.RestingSites.{hits_pass}

module _ (tells : Type 0) (told : tells) (names : Naming) (line : Line) (change : Change) (before : List PairRow) (site next : SiteState) (began old new : PlantState) (h : MayLogChange tells names line change before site old)
    (fails : FailByCounts site.failed next.failed old.faults new.faults) (up : NoneFalls old new) (volumes : VolumesStay tells old new) where
  module _ (g : Group) (kept : IsSoundForRows g before) (count : ControlsCount names g) (run : ScriptRun) (stage : Stage) (asked : LinesAsked) (l : Leg) (first : Point) (points : List PassedPoint) (was : SiteState) (d : IsDoneFrom names line change was site old)
      (may : MayAnswer run stage line asked l first points names was (Some g) began old) (cover : RisesCover run began new) where
    before_is : before ≡ was.told
    before_is = h.rows ∙ sym (site_told names line change h.was site old h.from) ∙ site_told names line change was site old d

    kept_was : IsSoundForRows g was.told
    kept_was = subst (IsSoundForRows g) before_is kept

    goes : was.table.is_ended ≡ false
    goes = was_goes names line change was site old d

    primaries : names.primaries ≡ primaries_named 0 run.traces
    primaries = ap (λ (n : Naming). n.primaries) (may.active goes).2

    fits_here : FitsPlant site old
    fits_here =
        subst (λ (s : SiteState). FitsPlant s old) (sym d.site_is)
        (commands_leave tells old names was line.session line.command line.time.0 change d.labels d.done d.fits).fits

    fits : (level : Level) (cut : ℕ) (failed : List Bool) → IfAdds change (rows_with_hits level cut failed site.table.rows) (FitsOn old (sizes_of run.traces))
    fits level cut failed =
        added_fits old run.traces names change (rows_with_hits level cut failed site.table.rows) primaries
        (hits_pass (has_named_primary names) (λ state r. refl) level cut failed site.table.rows ∙ h.again.command.named)
        (hits_pass (λ r. nat_lt r.device old.volumes) (λ state r. refl) level cut failed site.table.rows ∙ ap (λ (n : ℕ). are_below n site.table.rows) (sym fits_here.failed) ∙ h.again.rows)

    in_run : IsLoggedIn tells run stage asked l first points names line change was site next began old new g
    in_run = record {
      told = told;
      from = d;
      apart = kept_was.apart;
      may = may;
      fails = fails;
      up = up;
      cover = cover;
      volumes = volumes;
      takes = may_take names line change was site old d kept_was.apart g count h.again.command.named h.rules.apart;
      fits = fits;
    }

    -- Where logging fails the points begin to be passed.
    logging_begins : {P : Type 0} (was_plant is_plant : P) (error : StoreError) → LogsChange line.time.0 change site next old was_plant is_plant (Err error) → DoesChange tells line.time.0 change site next old new (Err error)
        → BeginsToPass run stage asked l old new
    logging_begins was_plant is_plant error logs does = change_begins tells run stage asked l first points names line change was site next began old new g in_run was_plant is_plant error logs does

    module _ {P : Type 0} (was_plant is_plant : P) (logs : LogsChange line.time.0 change site next old was_plant is_plant (Ok tt)) (does : DoesChange tells line.time.0 change site next old new (Ok tt)) (leaves : Leaves tells (λ e. e) site next old new)
        (same_plant : is_plant ≡ was_plant → new ≡ old) where
      may_log : MayChange tells line.time.0 change site old
      may_log = may_change tells names line change before site next old new was_plant is_plant h

      passed : IsLinePassed run stage line asked l next began old new
      passed = line_passed tells run stage asked l first points names line change was site next began old new g in_run was_plant is_plant logs does may_log leaves same_plant

      -- Where the change isn't taken over the points are passed.
      untaken_begins : BeginsToPass run stage asked l old new
      untaken_begins = (passed.more, (None, passed.passes))

      -- Where it is the command was done.
      logging_ends : (some : (c : Choice) × IsChoice new new.clock c) (now : Option Group) (tracks : ℕ) → now ≡ option_map (group_taken (Ok change) before next.told) (Some g) → tracks ≡ tracks_to_copy change g before next.told
          → EndsCommand run stage line asked l first points next now began old new (Ok (record { answer = Ok change; tracks = tracks }))
      logging_ends some now tracks taken copied = (
        passed.more,
        passed.passes,
        subst (λ (o : Option Group). HasDone o tracks) (sym (taken ∙ ap (λ (rows : List PairRow). let o : Option Group = Some (after_calls (calls_of_change change g rows next.told) g) in o) before_is))
            (subst (HasDone (Some (after_calls (calls_of_change change g was.told next.told) g))) (sym (copied ∙ ap (λ (rows : List PairRow). tracks_to_copy change g rows next.told) before_is))
            (has_logged tells run stage asked l first points names line change was site next began old new g in_run was_plant is_plant logs does may_log leaves same_plant passed some kept_was)),
      )
        where
          HasDone : Option Group → ℕ → Type 0
          HasDone o tracks = HasCommanded run stage line asked l first points passed.more (record { answer = Ok change; tracks = tracks }) next began new o

  -- ---- with the shared state that is there

  -- Where logging fails the points begin to be passed.
  pub logging_stops : {P : Type 0} (was_plant is_plant : P) (error : StoreError) → LogsChange line.time.0 change site next old was_plant is_plant (Err error) → DoesChange tells line.time.0 change site next old new (Err error) → (o : Option Group)
      → IsSomeAnd o (λ g. IsSoundForRows g before) → IsSomeAnd o (ControlsCount names) → (run : ScriptRun) (stage : Stage) (asked : LinesAsked) (l : Leg) (first : Point) (points : List PassedPoint) (was : SiteState) → IsDoneFrom names line change was site old
      → MayAnswer run stage line asked l first points names was o began old → RisesCover run began new → BeginsToPass run stage asked l old new
  logging_stops was_plant is_plant error logs does None kept count run stage asked l first points was d may cover = absurd kept
  logging_stops was_plant is_plant error logs does (Some g) kept count run stage asked l first points was d may cover =
      logging_begins g kept count run stage asked l first points was d may cover was_plant is_plant error logs does

  module _ {P : Type 0} (was_plant is_plant : P) (logs : LogsChange line.time.0 change site next old was_plant is_plant (Ok tt)) (does : DoesChange tells line.time.0 change site next old new (Ok tt)) (leaves : Leaves tells (λ e. e) site next old new)
      (same_plant : is_plant ≡ was_plant → new ≡ old) (g : Group) (o : Option Group) (is : o ≡ Some g) (kept : IsSomeAnd o (λ g. IsSoundForRows g before)) (count : IsSomeAnd o (ControlsCount names)) where
    kept_there : IsSoundForRows g before
    kept_there = subst (λ (x : Option Group). IsSomeAnd x (λ g. IsSoundForRows g before)) is kept

    count_there : ControlsCount names g
    count_there = subst (λ (x : Option Group). IsSomeAnd x (ControlsCount names)) is count

    module _ (run : ScriptRun) (stage : Stage) (asked : LinesAsked) (l : Leg) (first : Point) (points : List PassedPoint) (was : SiteState) (d : IsDoneFrom names line change was site old) (may : MayAnswer run stage line asked l first points names was o began old)
        (cover : RisesCover run began new) where
      may_there : MayAnswer run stage line asked l first points names was (Some g) began old
      may_there = subst (λ (x : Option Group). MayAnswer run stage line asked l first points names was x began old) is may

      -- Where the change isn't taken over the points are passed.
      pub taking_stops : BeginsToPass run stage asked l old new
      taking_stops = untaken_begins g kept_there count_there run stage asked l first points was d may_there cover was_plant is_plant logs does leaves same_plant

      -- Where it is the line is answered.
      pub taking_ends : (some : (c : Choice) × IsChoice new new.clock c) (now : Option Group) (tracks : ℕ) → now ≡ option_map (group_taken (Ok change) before next.told) (Some g) → tracks ≡ tracks_to_copy change g before next.told
          → EndsCommand run stage line asked l first points next now began old new (Ok (record { answer = Ok change; tracks = tracks }))
      taking_ends some now tracks taken copied = logging_ends g kept_there count_there run stage asked l first points was d may_there cover was_plant is_plant logs does leaves same_plant some now tracks taken copied
