use Rattle.std.proofs.Common.{◌∙◌, sym, ap, Some}
use Rattle.std.specs.Option.{is_some}
use Rattle.fed_logs.specs.LaneFeeds.{FeedState}
use Rattle.fed_logs.specs.declared.reading.Reading.{Reading}
use Rattle.fed_logs.proofs.Below.{nothing_breaks, step_below, below_in_turn}
use Rattle.fed_logs.proofs.UpToLimit.{nothing_up_to, reports_up_to_in_turn, step_reports_up_to}
use Rattle.fed_logs.proofs.Telling.{tells_nothing, tells_step, tells_in_turn, holds_batch, fault_after, refused_after}
use Rattle.fed_logs.proofs.feed.Feed.read_once.Goals as goal

pub returns-in-Some-clause-reads : goal.returns-in-Some-clause-reads
returns-in-Some-clause-reads g c = tells_nothing _ _ _

pub join_held-requires-clause-held : goal.join_held-requires-clause-held
join_held-requires-clause-held g c = holds_batch c.args.self.now.held (ap is_some (sym (ap (λ (f : FeedState). f.held) c.self.view_is)) ∙ sym c.is_some.ensures ∙ c.if-is_some.true)

pub returns-then-is_some-clause-reads : goal.returns-then-is_some-clause-reads
returns-then-is_some-clause-reads g c = tells_step _ _ c.args.limit _ _ _ _ (c.join_held.ensures.steps _ c.args.limit)

pub returns-then-is_some-clause-fault : goal.returns-then-is_some-clause-fault
returns-then-is_some-clause-fault g c = λ goes. c.join_held.ensures.fault (g.S.Source.faults c.args.source.now)

pub returns-in-Some-hand_over-clause-reads : goal.returns-in-Some-hand_over-clause-reads
returns-in-Some-hand_over-clause-reads g c = tells_step _ _ c.args.limit _ _ _ _ c.hand_over.ensures.steps

pub returns-in-Some-hand_over-clause-rises : goal.returns-in-Some-hand_over-clause-rises
returns-in-Some-hand_over-clause-rises g c = λ joined. absurd (c.hand_over.ensures.joins_none (c.in-Some-hand_over.is ∙ ap (λ (r : Reading). Some r) joined))

pub returns-in-None-clause-reads : goal.returns-in-None-clause-reads
returns-in-None-clause-reads g c =
    tells_in_turn _ _ _ _ _ _ _ _ _ (tells_step _ _ c.args.limit _ _ _ _ c.hand_over.ensures.steps) (tells_step _ _ c.args.limit _ _ _ _ (c.join_held-in-None.ensures.steps (g.S.Source.left c.hand_over.new.source) c.args.limit))

pub returns-in-None-clause-fault : goal.returns-in-None-clause-fault
returns-in-None-clause-fault g c = λ goes.
    fault_after (g.S.Source.faults c.args.source.now) (g.S.Source.faults c.hand_over.new.source) c.hand_over.new.self.halted c.join_held-in-None.new.self.halted c.in-None.ensures.stands.0 c.in-None.ensures.fault
    (c.join_held-in-None.ensures.fault (g.S.Source.faults c.args.source.now))

pub returns-in-Some-hand_over-clause-refused : goal.returns-in-Some-hand_over-clause-refused
returns-in-Some-hand_over-clause-refused g c = λ room held. absurd (c.hand_over.ensures.refuses_none room (c.in-Some-hand_over.is ∙ ap (λ (r : Reading). Some r) held))

pub returns-in-None-clause-refused : goal.returns-in-None-clause-refused
returns-in-None-clause-refused g c =
    refused_after _ _ (g.T.Reporter.state c.args.reporter.now) (g.T.Reporter.state c.hand_over.new.reporter) _ (ap (λ t. g.T.Reporter.state t) (c.hand_over.ensures.untold c.in-None.is)) c.join_held-in-None.ensures.refused

pub returns-in-Some-clause-below : goal.returns-in-Some-clause-below
returns-in-Some-clause-below g c = nothing_breaks _ _ _ _

pub returns-then-is_some-clause-below : goal.returns-then-is_some-clause-below
returns-then-is_some-clause-below g c = step_below _ _ c.args.limit _ _ _ _ (c.join_held.ensures.steps (g.S.Source.left c.args.source.now) c.args.limit)

pub returns-in-Some-hand_over-clause-below : goal.returns-in-Some-hand_over-clause-below
returns-in-Some-hand_over-clause-below g c = step_below _ _ c.args.limit _ _ _ _ c.hand_over.ensures.steps

pub returns-in-None-clause-below : goal.returns-in-None-clause-below
returns-in-None-clause-below g c =
    let first = c.hand_over.ensures.steps in
    let then = c.join_held-in-None.ensures.steps (g.S.Source.left c.hand_over.new.source) c.args.limit in
    below_in_turn c.args.limit.0 _ _ _ _ _ _ _ _ _ (tells_step _ _ c.args.limit _ _ _ _ first) (step_below _ _ c.args.limit _ _ _ _ first) (tells_step _ _ c.args.limit _ _ _ _ then) (step_below _ _ c.args.limit _ _ _ _ then)

pub returns-in-Some-clause-up_to : goal.returns-in-Some-clause-up_to
returns-in-Some-clause-up_to g c = nothing_up_to _ _ _ (g.T.Reporter.state c.args.reporter.now)

pub returns-then-is_some-clause-up_to : goal.returns-then-is_some-clause-up_to
returns-then-is_some-clause-up_to g c = step_reports_up_to _ _ c.args.limit _ _ _ _ (c.join_held.ensures.steps (g.S.Source.left c.args.source.now) c.args.limit)

pub returns-in-Some-hand_over-clause-up_to : goal.returns-in-Some-hand_over-clause-up_to
returns-in-Some-hand_over-clause-up_to g c = step_reports_up_to _ _ c.args.limit _ _ _ _ c.hand_over.ensures.steps

pub returns-in-None-clause-up_to : goal.returns-in-None-clause-up_to
returns-in-None-clause-up_to g c =
    let first = c.hand_over.ensures.steps in
    let then = c.join_held-in-None.ensures.steps (g.S.Source.left c.hand_over.new.source) c.args.limit in
    reports_up_to_in_turn c.args.limit.0 _ _ _ _ _ _ _ _ _ (tells_step _ _ c.args.limit _ _ _ _ first) (step_reports_up_to _ _ c.args.limit _ _ _ _ first) (tells_step _ _ c.args.limit _ _ _ _ then) (step_reports_up_to _ _ c.args.limit _ _ _ _ then)
