-- A session is finished by a mark, or there is nothing to do.
use Rattle.std.proofs.Common.{◌∙◌, ap, refl, sym, true≢false}
use Rattle.xrc_session.specs.States.{SessionState}
use Rattle.xrc_session.proofs.FinishedRuns.{ended_at_end, mark_ends, mark_idle, mark_keeps, mark_told, still_counts, still_ends, still_keeps, still_silent, unstarted_at_end}
use Rattle.xrc_session.proofs.LinesPlaces.{never_none, session_at}
use Rattle.xrc_session.proofs.run.SessionRun.finish.Goals as goal

pub same-site : goal.same-site
same-site g c = refl

pub mark-requires-clause-idle : goal.mark-requires-clause-idle
mark-requires-clause-idle g c κs within =
    let same = session_at c.self.inside.session c.self.inside.controls c.self.inside.kept c.self.inside.place c.self.inside.ended c.args.self c.in-Started.site c.in-Started.is c.self.view_is in
    mark_idle g.P.Plant.tells c.self.inside.session c.self.inside.controls c.self.inside.kept c.in-Started.site c.self.inside.ended c.args.self same (g.P.Plant.state c.args.plant.now) c.requires.may

pub mark-requires-clause-told : goal.mark-requires-clause-told
mark-requires-clause-told g c κs within =
    let same = session_at c.self.inside.session c.self.inside.controls c.self.inside.kept c.self.inside.place c.self.inside.ended c.args.self c.in-Started.site c.in-Started.is c.self.view_is in
    mark_told g.P.Plant.tells c.self.inside.session c.self.inside.controls c.self.inside.kept c.in-Started.site c.self.inside.ended c.args.self same (g.P.Plant.state c.args.plant.now) c.requires.may

-- ---- a mark

pub returns-clause-after_end : goal.returns-clause-after_end
returns-clause-after_end g c ended =
    let same = session_at c.self.inside.session c.self.inside.controls c.self.inside.kept c.self.inside.place c.self.inside.ended c.args.self c.in-Started.site c.in-Started.is c.self.view_is in
    absurd (true≢false (sym ended ∙ ap (λ (s : SessionState). s.is_ended) (sym same) ∙ c.if-ended.false))

pub returns-clause-keeps : goal.returns-clause-keeps
returns-clause-keeps g c =
    let same = session_at c.self.inside.session c.self.inside.controls c.self.inside.kept c.self.inside.place c.self.inside.ended c.args.self c.in-Started.site c.in-Started.is c.self.view_is in
    mark_keeps g.P.Plant.tells c.self.inside.session c.self.inside.controls c.self.inside.kept c.in-Started.site c.self.inside.ended c.args.self same (g.P.Plant.state c.args.plant.now) c.requires.may (g.P.Plant.state c.mark.new.plant) c.mark.new.site c.mark.result c.mark.ensures.works

pub returns-clause-ends : goal.returns-clause-ends
returns-clause-ends g c told began =
    let same = session_at c.self.inside.session c.self.inside.controls c.self.inside.kept c.self.inside.place c.self.inside.ended c.args.self c.in-Started.site c.in-Started.is c.self.view_is in
    mark_ends g.P.Plant.tells c.self.inside.session c.self.inside.controls c.self.inside.kept c.in-Started.site c.self.inside.ended c.args.self same (g.P.Plant.state c.args.plant.now) c.requires.may (g.P.Plant.state c.mark.new.plant) c.mark.new.site c.mark.result c.mark.ensures.works c.if-ended.false told (λ d there. g.met.P.Plant.read_is_image c.args.plant.now d told there) c.mark.ensures.volumes c.mark.ensures.site (g.P.Plant.state began) (c.mark.ensures.marks told began)

pub returns-clause-begins : goal.returns-clause-begins
returns-clause-begins g c told none =
    let same = session_at c.self.inside.session c.self.inside.controls c.self.inside.kept c.self.inside.place c.self.inside.ended c.args.self c.in-Started.site c.in-Started.is c.self.view_is in
    absurd (never_none c.self.inside.session c.self.inside.controls c.self.inside.kept c.in-Started.site c.self.inside.ended c.args.self same none)

pub returns-clause-silent : goal.returns-clause-silent
returns-clause-silent g c = c.mark.ensures.works.works.silent

pub returns-clause-cause : goal.returns-clause-cause
returns-clause-cause g c = c.mark.ensures.works.cause

pub returns-clause-unsaid : goal.returns-clause-unsaid
returns-clause-unsaid g c = c.mark.ensures.unsaid

pub returns-clause-counts : goal.returns-clause-counts
returns-clause-counts g c = c.mark.ensures.works.counts

-- ---- nothing to do

pub returns-in_default-clause-after_end : goal.returns-in_default-clause-after_end
returns-in_default-clause-after_end g c ended = (refl, refl)

pub returns-in_default-clause-keeps : goal.returns-in_default-clause-keeps
returns-in_default-clause-keeps g c = still_keeps g.P.Plant.tells c.args.self (g.P.Plant.state c.args.plant.now) c.requires.may

pub returns-in_default-clause-ends : goal.returns-in_default-clause-ends
returns-in_default-clause-ends g c told began = still_ends g.P.Plant.tells c.args.self (g.P.Plant.state c.args.plant.now) c.requires.may (unstarted_at_end c.self.inside.session c.self.inside.controls c.self.inside.kept c.self.inside.place c.self.inside.ended c.args.self c.in_default.field-0 c.in_default.is c.self.view_is) told (λ d there. g.met.P.Plant.read_is_image c.args.plant.now d told there) (g.P.Plant.state began)

pub returns-in_default-clause-begins : goal.returns-in_default-clause-begins
returns-in_default-clause-begins g c told none = refl

pub returns-in_default-clause-silent : goal.returns-in_default-clause-silent
returns-in_default-clause-silent g c = still_silent g.P.Plant.tells c.args.self (g.P.Plant.state c.args.plant.now) c.requires.may

pub returns-in_default-clause-cause : goal.returns-in_default-clause-cause
returns-in_default-clause-cause g c = tt

pub returns-in_default-clause-unsaid : goal.returns-in_default-clause-unsaid
returns-in_default-clause-unsaid g c is = cc

pub returns-in_default-clause-counts : goal.returns-in_default-clause-counts
returns-in_default-clause-counts g c = still_counts g.P.Plant.tells c.args.self (g.P.Plant.state c.args.plant.now) c.requires.may

pub returns-then-ended-clause-after_end : goal.returns-then-ended-clause-after_end
returns-then-ended-clause-after_end g c ended = (refl, refl)

pub returns-then-ended-clause-keeps : goal.returns-then-ended-clause-keeps
returns-then-ended-clause-keeps g c = still_keeps g.P.Plant.tells c.args.self (g.P.Plant.state c.args.plant.now) c.requires.may

pub returns-then-ended-clause-ends : goal.returns-then-ended-clause-ends
returns-then-ended-clause-ends g c told began =
    let same = session_at c.self.inside.session c.self.inside.controls c.self.inside.kept c.self.inside.place c.self.inside.ended c.args.self c.in-Started.site c.in-Started.is c.self.view_is in
    still_ends g.P.Plant.tells c.args.self (g.P.Plant.state c.args.plant.now) c.requires.may (ended_at_end c.self.inside.session c.self.inside.controls c.self.inside.kept c.in-Started.site c.self.inside.ended c.args.self same c.if-ended.true) told (λ d there. g.met.P.Plant.read_is_image c.args.plant.now d told there) (g.P.Plant.state began)

pub returns-then-ended-clause-begins : goal.returns-then-ended-clause-begins
returns-then-ended-clause-begins g c told none = refl

pub returns-then-ended-clause-silent : goal.returns-then-ended-clause-silent
returns-then-ended-clause-silent g c = still_silent g.P.Plant.tells c.args.self (g.P.Plant.state c.args.plant.now) c.requires.may

pub returns-then-ended-clause-cause : goal.returns-then-ended-clause-cause
returns-then-ended-clause-cause g c = tt

pub returns-then-ended-clause-unsaid : goal.returns-then-ended-clause-unsaid
returns-then-ended-clause-unsaid g c is = cc

pub returns-then-ended-clause-counts : goal.returns-then-ended-clause-counts
returns-then-ended-clause-counts g c = still_counts g.P.Plant.tells c.args.self (g.P.Plant.state c.args.plant.now) c.requires.may
