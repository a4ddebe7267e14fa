use Rattle.std.proofs.Common.{◌∙◌, refl, sym}
use Rattle.fed_logs.proofs.Telling.{joined_step, lacking_step, held_step, was_refused}
use Rattle.fed_logs.proofs.feed.Feed.join_held.Goals as goal

pub returns-in-Ok-clause-steps : goal.returns-in-Ok-clause-steps
returns-in-Ok-clause-steps g c = λ left limit. joined_step c.args.self.now c.self.inside.side c.self.inside.primary c.self.inside.held c.self.inside.halted c.self.view_is left limit c.in-Some.batch (g.T.Reporter.state c.args.reporter.now) (g.T.Reporter.state c.join.new.self) c.requires.goes_on
    (sym c.take.ensures.value ∙ c.in-Some.is) c.step.new.self c.take.new.self c.take.ensures.after c.in-Joined.ensures c.in-Ok.ensures.tracks c.in-Ok.ensures.time

pub returns-in-Joined-clause-steps : goal.returns-in-Joined-clause-steps
returns-in-Joined-clause-steps g c = λ left limit. lacking_step c.args.self.now c.self.inside.side c.self.inside.primary c.self.inside.held c.self.inside.halted c.self.view_is left limit c.in-Some.batch (g.T.Reporter.state c.args.reporter.now) (g.T.Reporter.state c.join.new.self) c.requires.goes_on
    (sym c.take.ensures.value ∙ c.in-Some.is) c.step.new.self c.take.new.self c.take.ensures.after c.in-Joined.ensures

pub returns-clause-steps : goal.returns-clause-steps
returns-clause-steps g c = λ left limit. held_step c.args.self.now c.self.inside.side c.self.inside.primary c.self.inside.held c.self.inside.halted c.self.view_is left limit c.in-Some.batch (g.T.Reporter.state c.args.reporter.now) (g.T.Reporter.state c.join.new.self) c.requires.goes_on
    (sym c.take.ensures.value ∙ c.in-Some.is) _ c.in-Held.ensures

pub returns-clause-refused : goal.returns-clause-refused
returns-clause-refused g c = λ asked same. was_refused _ c.in-Some.batch _ asked (g.T.Reporter.state c.args.reporter.now) (g.T.Reporter.state c.join.new.self) refl c.in-Held.ensures same
