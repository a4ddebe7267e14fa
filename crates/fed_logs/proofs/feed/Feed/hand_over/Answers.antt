use Rattle.fed_logs.proofs.Telling.{side_goes_on, handed_step, passed_step, broken_step, wanting_step}
use Rattle.fed_logs.proofs.feed.Feed.hand_over.Goals as goal

pub returns-in-Batch-clause-steps : goal.returns-in-Batch-clause-steps
returns-in-Batch-clause-steps g c =
    let old = c.self.inside in
    let h = c.in-Batch.ensures in
    let goes = side_goes_on c.args.self.now old.side old.primary old.held old.halted c.self.view_is c.requires.idle.goes_on c.self.invariant in
    handed_step c.args.self.now old.side old.primary old.held old.halted c.self.view_is _ _ c.args.limit c.handover.new.self (g.T.Reporter.state c.args.reporter.now) (g.T.Reporter.state c.args.reporter.now) c.requires.idle
    c.in-Batch.batch (h.due goes) (h.reached goes)

pub returns-in-AtLimit-clause-steps : goal.returns-in-AtLimit-clause-steps
returns-in-AtLimit-clause-steps g c =
    let old = c.self.inside in
    let h = c.in-AtLimit.ensures in
    let goes = side_goes_on c.args.self.now old.side old.primary old.held old.halted c.self.view_is c.requires.idle.goes_on c.self.invariant in
    passed_step c.args.self.now old.side old.primary old.held old.halted c.self.view_is _ _ c.args.limit c.handover.new.self (g.T.Reporter.state c.args.reporter.now) (g.T.Reporter.state c.raise.new.self) c.requires.idle
    c.pass.new.self c.pass.ensures c.requires.limit c.requires.told.control c.raise.ensures (h.due goes) (h.reached goes)

pub returns-in-Broken-clause-steps : goal.returns-in-Broken-clause-steps
returns-in-Broken-clause-steps g c =
    let old = c.self.inside in
    let h = c.in-Broken.ensures in
    let goes = side_goes_on c.args.self.now old.side old.primary old.held old.halted c.self.view_is c.requires.idle.goes_on c.self.invariant in
    broken_step c.args.self.now old.side old.primary old.held old.halted c.self.view_is _ _ c.args.limit c.handover.new.self (g.T.Reporter.state c.args.reporter.now) (g.T.Reporter.state c.mark_broken.new.self) c.requires.idle
    c.in-Broken.cause c.in-Broken.upto c.pass-in-Broken.new.self c.pass-in-Broken.ensures c.requires.told.control c.mark_broken.ensures (h.due goes) (h.reached goes)

pub returns-in-NoMemory-clause-steps : goal.returns-in-NoMemory-clause-steps
returns-in-NoMemory-clause-steps g c =
    let old = c.self.inside in
    let h = c.in-NoMemory.ensures in
    let goes = side_goes_on c.args.self.now old.side old.primary old.held old.halted c.self.view_is c.requires.idle.goes_on c.self.invariant in
    wanting_step c.args.self.now old.side old.primary old.held old.halted c.self.view_is _ _ c.args.limit c.handover.new.self (g.T.Reporter.state c.args.reporter.now) (g.T.Reporter.state c.args.reporter.now) c.requires.idle (h.reached goes)
