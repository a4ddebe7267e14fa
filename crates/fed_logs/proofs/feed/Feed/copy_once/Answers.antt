use Rattle.std.proofs.Common.{Some, ◌∙◌, ap}
use Rattle.primary_ctl.specs.States.{track_of}
use Rattle.group_state.specs.Answers.{copy_reply}
use Rattle.fed_logs.specs.LaneFeeds.{FeedState}
use Rattle.fed_logs.proofs.Telling.{tells_copied, track_within}
use Rattle.fed_logs.proofs.feed.Feed.copy_once.Goals as goal

pub read_track-at-requires : goal.read_track-at-requires
read_track-at-requires g c =
    let old = c.self.inside in
    track_within c.args.self.now old.side old.primary old.held old.halted c.self.view_is (g.T.Reporter.state c.args.reporter.now) c.requires.goes_on c.self.invariant c.requires.told.volumes c.in_ok-volume.volume c.in_ok-volume.track c.in_ok-volume.ensures.within

pub returns-clause-reads : goal.returns-clause-reads
returns-clause-reads g c = λ left.
    let v = c.in_ok-volume.volume in
    let x = c.in_ok-volume.track in
    tells_copied left c.args.self.now (g.T.Reporter.state c.args.reporter.now) (g.T.Reporter.state c.next_wanted.new.self) (g.T.Reporter.state c.join_copy.new.self) (Some (v, x)) v x c.read_track-at.result c.read_track-at.new.out (copy_reply c.join_copy.result)
    c.requires.goes_on c.in_ok-volume.ensures.called (c.read_track-at.ensures.track ∙ ap (λ (f : FeedState). track_of f.primary v x) c.self.view_is) c.join_copy.ensures
