use Rattle.std.proofs.Common.{rules, get_or, ◌≡◌, ◌++◌, ◌∷◌, ◌+◌, ◌<◌, ℕ, Bool, List, [], true, cond, length, take, vec_capacity, vec_len, Some, refl, sym, ap, subst, ◌∙◌, arith}
use Rattle.std.specs.Prelude.{slice_get}
use Rattle.std.specs.Option.{option_copied}
use Rattle.std.proofs.lemmas.List.{append-nil, take_all}
use Rattle.crash_plant.specs.Moments.{PlantState}
use Rattle.pair_table.specs.declared.row.PairRow.{PairRow}
use Rattle.site_means.proofs.ReadAll.{reads_none}
use Rattle.xrecover.specs.FinishedPairs.{FinishesPairs}
use Rattle.xrecover.specs.Labels.{TreatsLabels}
use Rattle.xrecover.specs.SideVolumes.{is_left}
use Rattle.xrecover.proofs.Going.{Going, finished, going_first}
use Rattle.xrecover.proofs.Labels.{treats_read}
use Rattle.xrecover.proofs.LentSides.{flag_of}
use Rattle.xrecover.proofs.Rows.{below_at, some_there}
use Rattle.xrecover.proofs.Stepping.{other_going, pair_long, pair_there, turn_counts, turn_going, turn_treats}
use Rattle.xrecover.proofs.finishing.finish_pairs.Goals as goal
use Rattle.xrecover.proofs.finishing.finish_pairs.Goals.{then-is_duplex+then-finish_unless_left, then-is_duplex+else-finish_unless_left, else-is_duplex}

pub loop-place-init : goal.loop-place-init
loop-place-init g c =
    let old = g.P.Plant.state c.args.plant.now in
    record {
      going = subst (λ (l : List ℕ). Going g.P.Plant.tells c.args.labelling (is_left c.args.jobs.now) [] [] l old old) (sym c.requires.empty) (going_first g.P.Plant.tells c.args.labelling (is_left c.args.jobs.now) [] old);
      treats = λ told. treats_read g.P.Plant.tells told c.args.labelling c.args.table.now.rows [] old old (reads_none g.P.Plant.tells old);
      counts = λ d here. refl;
      count = omega (arith, c.args.failed.ok.0, ap length c.requires.empty);
      places = c.requires.places;
    }

pub push_reserved-requires : goal.push_reserved-requires
push_reserved-requires g c =
    let within : c.loop-place.place < length c.args.table.now.rows = omega (arith, c.len-place-end.ensures.count, c.loop-place-test.true) in
    omega (arith, within, c.loop-place.invariant.count, c.loop-place.invariant.places)

pub unwrap-requires : goal.unwrap-requires
unwrap-requires g c =
    let within : c.loop-place.place < length c.args.table.now.rows = omega (arith, c.len-place-end.ensures.count, c.loop-place-test.true) in
    some_there c.args.table.now.rows c.loop-place.place c.row.result within c.row.ensures.row

pub offset_bounds-jobs-from : goal.offset_bounds-jobs-from
offset_bounds-jobs-from g c =
    let rows = c.args.table.now.rows in
    let i = c.loop-place.place in
    let r = c.unwrap.result.now in
    let is : slice_get rows i ≡ Some r = sym c.row.ensures.row ∙ ap option_copied c.unwrap.ensures in
    let there : r.device < (g.P.Plant.state c.args.plant.now).volumes = below_at (g.P.Plant.state c.args.plant.now).volumes rows i r c.requires.below is in
    let from = c.from.ensures in
    omega (arith, there, from, c.requires.jobs.count)

pub bounds-jobs-from : goal.bounds-jobs-from
bounds-jobs-from g c =
    let rows = c.args.table.now.rows in
    let i = c.loop-place.place in
    let r = c.unwrap.result.now in
    let is : slice_get rows i ≡ Some r = sym c.row.ensures.row ∙ ap option_copied c.unwrap.ensures in
    let there : r.device < (g.P.Plant.state c.args.plant.now).volumes = below_at (g.P.Plant.state c.args.plant.now).volumes rows i r c.requires.below is in
    let from = c.from.ensures in
    omega (arith, there, from, c.requires.jobs.count)

pub bounds-jobs-from-then-is_duplex : goal.bounds-jobs-from-then-is_duplex
bounds-jobs-from-then-is_duplex g c =
    let rows = c.args.table.now.rows in
    let i = c.loop-place.place in
    let r = c.unwrap.result.now in
    let is : slice_get rows i ≡ Some r = sym c.row.ensures.row ∙ ap option_copied c.unwrap.ensures in
    let there : r.device < (g.P.Plant.state c.args.plant.now).volumes = below_at (g.P.Plant.state c.args.plant.now).volumes rows i r c.requires.below is in
    let from = c.from.ensures in
    omega (arith, there, from, c.requires.jobs.count)

pub finish_unless_left-requires-clause-there : goal.finish_unless_left-requires-clause-there
finish_unless_left-requires-clause-there g c κs within =
    let rows = c.args.table.now.rows in
    let i = c.loop-place.place in
    let r = c.unwrap.result.now in
    let is : slice_get rows i ≡ Some r = sym c.row.ensures.row ∙ ap option_copied c.unwrap.ensures in
    pair_there g.P.Plant.tells c.args.labelling (is_left c.args.jobs.now) rows i c.loop-place.failed.items (g.P.Plant.state c.args.plant.now) (g.P.Plant.state c.loop-place.plant) c.loop-place.invariant.going r is c.requires.below

pub finish_unless_left-requires-clause-long : goal.finish_unless_left-requires-clause-long
finish_unless_left-requires-clause-long g c κs within =
    let rows = c.args.table.now.rows in
    let i = c.loop-place.place in
    let r = c.unwrap.result.now in
    let is : slice_get rows i ≡ Some r = sym c.row.ensures.row ∙ ap option_copied c.unwrap.ensures in
    pair_long g.P.Plant.tells c.args.labelling (is_left c.args.jobs.now) rows i c.loop-place.failed.items (g.P.Plant.state c.args.plant.now) (g.P.Plant.state c.loop-place.plant) c.loop-place.invariant.going r is c.requires.big (sym c.is_duplex.ensures ∙ c.if-is_duplex.true)

pub returns-clause-finishes : goal.returns-clause-finishes
returns-clause-finishes g c =
    let old = g.P.Plant.state c.args.plant.now in
    let rows = c.args.table.now.rows in
    let left = is_left c.args.jobs.now in
    let cur = g.P.Plant.state c.loop-place.plant in
    let whole : take c.loop-place.place rows ≡ rows = take_all c.loop-place.place rows (omega (arith, c.len-place-end.ensures.count, c.loop-place-test.false)) in
    let going = subst (λ (l : List PairRow). Going g.P.Plant.tells c.args.labelling left [] l c.loop-place.failed.items old cur) whole c.loop-place.invariant.going in
    let told_of : c.of.result ≡ c.loop-place.failed.items = search rules in
    subst (λ (l : List ℕ). FinishesPairs g.P.Plant.tells c.args.labelling rows left l old cur) (sym told_of) (finished g.P.Plant.tells c.args.labelling left rows c.loop-place.failed.items old cur going c.loop-place.invariant.treats)

pub loop-place-preserved : goal.loop-place-preserved
loop-place-preserved g c =
    let old = g.P.Plant.state c.args.plant.now in
    let cur = g.P.Plant.state c.loop-place.plant in
    let rows = c.args.table.now.rows in
    let jobs = c.args.jobs.now in
    let i = c.loop-place.place in
    let inv = c.loop-place.invariant in
    let r = c.unwrap.result.now in
    let is : slice_get rows i ≡ Some r = sym c.row.ensures.row ∙ ap option_copied c.unwrap.ensures in
    let there : r.device < length jobs = omega (arith, below_at old.volumes rows i r c.requires.below is, c.requires.jobs.count) in
    let keeps = c.len-place-end.ensures.rules in
    elim c.if-is_duplex.branch [
      | then-is_duplex+then-finish_unless_left w ↦
          let new = g.P.Plant.state w.finish_unless_left.new.plant in
          let job = get_or jobs w.from.result w.index-jobs-from.result in
          let alone : is_left jobs r.device ≡ job.failed = flag_of jobs r.device w.index-jobs-from.result there ∙ ap (λ (n : ℕ). (get_or jobs n w.index-jobs-from.result).failed) (sym w.from.ensures) in
          let stayed : job.failed ≡ true → (w.finish_unless_left.result ≡ true) × (new ≡ cur) = λ yes. let same = w.finish_unless_left.ensures.left yes in (same.0, ap g.P.Plant.state same.1) in
          let duplex = sym c.is_duplex.ensures ∙ w.if-is_duplex.true in
          let going = turn_going g.P.Plant.tells c.args.labelling (is_left jobs) rows i c.loop-place.failed.items old cur inv.going r is job.failed w.finish_unless_left.result new keeps duplex alone stayed w.finish_unless_left.ensures.finishes in
          let failed_is : c.if-is_duplex.failed.items ≡ c.loop-place.failed.items ++ r.device ∷ [] = (λ k. (w.failed-is k).items) ∙ w.push_reserved.ensures.items in
          record {
            going = subst (λ (p : PlantState). Going g.P.Plant.tells c.args.labelling (is_left jobs) [] (take (i + 1) rows) c.if-is_duplex.failed.items old p) (ap g.P.Plant.state (sym w.plant-is))
                (subst (λ (l : List ℕ). Going g.P.Plant.tells c.args.labelling (is_left jobs) [] (take (i + 1) rows) l old new) (sym failed_is)
                (subst (λ (h : Bool). Going g.P.Plant.tells c.args.labelling (is_left jobs) [] (take (i + 1) rows) (c.loop-place.failed.items ++ cond h (r.device ∷ []) []) old new) w.if-finish_unless_left.true going));
            treats = λ told. subst (λ (p : PlantState). TreatsLabels c.args.labelling rows [] old p) (ap g.P.Plant.state (sym w.plant-is))
                (turn_treats g.P.Plant.tells c.args.labelling (is_left jobs) rows i c.loop-place.failed.items old cur inv.going r is job.failed w.finish_unless_left.result new keeps duplex alone stayed w.finish_unless_left.ensures.finishes told (inv.treats told));
            counts = λ d here. subst (λ (p : PlantState). p.faults d ≡ old.faults d) (ap g.P.Plant.state (sym w.plant-is))
                (turn_counts g.P.Plant.tells c.args.labelling (is_left jobs) rows i c.loop-place.failed.items old cur inv.going r is job.failed w.finish_unless_left.result new keeps duplex alone stayed w.finish_unless_left.ensures.finishes d here ∙ inv.counts d here);
            count = omega (arith, ap vec_len w.failed-is, w.push_reserved.ensures.len, inv.count);
            places = omega (arith, ap vec_capacity w.failed-is, w.push_reserved.ensures.capacity, inv.places);
          }
      | then-is_duplex+else-finish_unless_left w ↦
          let new = g.P.Plant.state w.finish_unless_left.new.plant in
          let job = get_or jobs w.from.result w.index-jobs-from.result in
          let alone : is_left jobs r.device ≡ job.failed = flag_of jobs r.device w.index-jobs-from.result there ∙ ap (λ (n : ℕ). (get_or jobs n w.index-jobs-from.result).failed) (sym w.from.ensures) in
          let stayed : job.failed ≡ true → (w.finish_unless_left.result ≡ true) × (new ≡ cur) = λ yes. let same = w.finish_unless_left.ensures.left yes in (same.0, ap g.P.Plant.state same.1) in
          let duplex = sym c.is_duplex.ensures ∙ w.if-is_duplex.true in
          let going = turn_going g.P.Plant.tells c.args.labelling (is_left jobs) rows i c.loop-place.failed.items old cur inv.going r is job.failed w.finish_unless_left.result new keeps duplex alone stayed w.finish_unless_left.ensures.finishes in
          let failed_is : c.if-is_duplex.failed.items ≡ c.loop-place.failed.items ++ [] = (λ k. (w.failed-is k).items) ∙ sym (append-nil c.loop-place.failed.items) in
          record {
            going = subst (λ (p : PlantState). Going g.P.Plant.tells c.args.labelling (is_left jobs) [] (take (i + 1) rows) c.if-is_duplex.failed.items old p) (ap g.P.Plant.state (sym w.plant-is))
                (subst (λ (l : List ℕ). Going g.P.Plant.tells c.args.labelling (is_left jobs) [] (take (i + 1) rows) l old new) (sym failed_is)
                (subst (λ (h : Bool). Going g.P.Plant.tells c.args.labelling (is_left jobs) [] (take (i + 1) rows) (c.loop-place.failed.items ++ cond h (r.device ∷ []) []) old new) w.if-finish_unless_left.false going));
            treats = λ told. subst (λ (p : PlantState). TreatsLabels c.args.labelling rows [] old p) (ap g.P.Plant.state (sym w.plant-is))
                (turn_treats g.P.Plant.tells c.args.labelling (is_left jobs) rows i c.loop-place.failed.items old cur inv.going r is job.failed w.finish_unless_left.result new keeps duplex alone stayed w.finish_unless_left.ensures.finishes told (inv.treats told));
            counts = λ d here. subst (λ (p : PlantState). p.faults d ≡ old.faults d) (ap g.P.Plant.state (sym w.plant-is))
                (turn_counts g.P.Plant.tells c.args.labelling (is_left jobs) rows i c.loop-place.failed.items old cur inv.going r is job.failed w.finish_unless_left.result new keeps duplex alone stayed w.finish_unless_left.ensures.finishes d here ∙ inv.counts d here);
            count = omega (arith, ap vec_len w.failed-is, inv.count);
            places = omega (arith, ap vec_capacity w.failed-is, inv.places);
          }
      | else-is_duplex w ↦
          record {
            going = subst (λ (p : PlantState). Going g.P.Plant.tells c.args.labelling (is_left jobs) [] (take (i + 1) rows) c.if-is_duplex.failed.items old p) (ap g.P.Plant.state (sym w.plant-is))
                (subst (λ (l : List ℕ). Going g.P.Plant.tells c.args.labelling (is_left jobs) [] (take (i + 1) rows) l old cur) (λ k. (sym w.failed-is k).items)
                (other_going g.P.Plant.tells c.args.labelling (is_left jobs) rows i c.loop-place.failed.items old cur inv.going r is (sym c.is_duplex.ensures ∙ w.if-is_duplex.false)));
            treats = λ told. subst (λ (p : PlantState). TreatsLabels c.args.labelling rows [] old p) (ap g.P.Plant.state (sym w.plant-is)) (inv.treats told);
            counts = λ d here. subst (λ (p : PlantState). p.faults d ≡ old.faults d) (ap g.P.Plant.state (sym w.plant-is)) (inv.counts d here);
            count = omega (arith, ap vec_len w.failed-is, inv.count);
            places = omega (arith, ap vec_capacity w.failed-is, inv.places);
          }
    ]
