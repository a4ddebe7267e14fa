use Rattle.std.proofs.Common.{◌≡◌, Err, rules}
use Rattle.site_store.proofs.RecordPuts.{both_journals, both_show_there, switch_fails_as}
use Rattle.site_store.specs.Recording.{group_with}
use Rattle.site_store.proofs.recording.put_switched.Goals as goal

pub returns-in_err-put_switch-clause-shows : goal.returns-in_err-put_switch-clause-shows
returns-in_err-put_switch-clause-shows g c =
    let j = c.args.journal.now in
    let error = c.in_err-put_switch.field-0.0 in
    let is : c.from_residual.result ≡ Err error = search rules in
    switch_fails_as g.P.Plant.tells j.marked j.at (group_with c.args.cut.0 c.args.body.now.items) (g.P.Plant.state c.args.plant.now) (g.P.Plant.state c.put_switch.new.plant) error c.from_residual.result is (record { works = c.put_switch.ensures.only; moments = c.put_switch.ensures.moments })

pub returns-clause-shows : goal.returns-clause-shows
returns-clause-shows g c =
    let j = c.args.journal.now in
    let k = c.put_switch.new.journal in
    both_show_there g.P.Plant.tells j.marked j.at (group_with c.args.cut.0 c.args.body.now.items) (g.P.Plant.state c.args.plant.now) (g.P.Plant.state c.put_switch.new.plant) (g.P.Plant.state c.put_group.new.plant) k.marked k.at c.put_group.result
    c.put_switch.ensures.marked c.in_ok-put_switch.ensures.at (record { works = c.put_switch.ensures.only; moments = c.put_switch.ensures.moments }) c.in_ok-put_switch.ensures.put
    (record { works = c.put_group.ensures.only; moments = c.put_group.ensures.moments }) c.put_group.ensures.put

pub returns-clause-only : goal.returns-clause-only
returns-clause-only g c = both_journals g.P.Plant.tells c.args.journal.now.at c.put_switch.new.journal.at.set _ _ _ c.put_switch.ensures.only c.put_group.ensures.only
