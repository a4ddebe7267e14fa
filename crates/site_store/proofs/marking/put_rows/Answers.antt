use Rattle.std.proofs.Common.{map, ap, ◌∙◌}
use Rattle.pair_table.specs.Tables.{Table, are_below, with_rows}
use Rattle.site_store.specs.Hits.{with_hits}
use Rattle.site_store.specs.Jobs.{has_job_failed}
use Rattle.site_store.proofs.Below.{below_more}
use Rattle.site_store.proofs.HitStates.{hits_make_rows}
use Rattle.site_store.proofs.MarkRows.{in_states_below}
use Rattle.site_store.proofs.marking.put_rows.Goals as goal

pub take_hits-requires : goal.take_hits-requires
take_hits-requires g c = below_more (g.P.Plant.state c.args.plant.now).volumes 64 c.args.table.now.rows c.requires.jobs.1 c.requires.may.devices

pub put_mark-requires-clause-devices : goal.put_mark-requires-clause-devices
put_mark-requires-clause-devices g c κs within =
    let volumes = (g.P.Plant.state c.args.plant.now).volumes in
    let rows = c.args.table.now.rows in
    ap (λ (t : Table). are_below volumes t.rows) c.take_hits.ensures ∙ in_states_below volumes (with_hits c.hits_at-hits.result) rows c.requires.may.devices

pub returns-clause-rows : goal.returns-clause-rows
returns-clause-rows g c =
    let rows = c.args.table.now.rows in
    let below = below_more (g.P.Plant.state c.args.plant.now).volumes 64 rows c.requires.jobs.1 c.requires.may.devices in
    let made = hits_make_rows c.args.levels.1 c.args.mark.now.time (map has_job_failed c.args.jobs.now) rows c.hits_at-hits.result c.hits_at-hits.ensures.hits below in
    c.take_hits.ensures ∙ ap (with_rows c.args.table.now) made
