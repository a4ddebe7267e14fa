use Rattle.std.proofs.Common.{◌+◌, ◌-◌, ◌∷◌, [], length, ap, subst, ◌∙◌, arith}
use Rattle.pending_queue.specs.Groups.{FormedGroup}
use Rattle.group_state.specs.Groups.{with_news, HasRoomForNews}
use Rattle.group_state.proofs.NewsRoom.{room_for_one, room_left, news_more}
use Rattle.group_state.proofs.forming.announce.Goals as goal

pub announce-requires : goal.announce-requires
announce-requires c = record { room = room_for_one c.loop-k.out (length c.args.controls.now - c.loop-k.k) (omega (arith, c.loop-k-test.true)) c.loop-k.invariant.room }

pub loop-k-preserved : goal.loop-k-preserved
loop-k-preserved c =
    let controls = c.args.controls.now in
    let k = c.loop-k.k in
    let x = c.index-controls-k.result in
    let rest = length controls - (k + 1) in
    record {
      news = c.announce.ensures.news ∙ ap (λ (o : FormedGroup). with_news c.args.cut (x ∷ []) o) c.loop-k.invariant.news ∙ news_more c.args.cut controls k x c.args.out.now c.loop-k-test.true c.index-controls-k.is;
      room = room_left c.loop-k.out c.announce.new.out rest (subst (HasRoomForNews c.loop-k.out) (omega (arith, c.loop-k-test.true)) c.loop-k.invariant.room)
          (ap (λ (o : FormedGroup). o.controls) c.announce.ensures.news) c.announce.ensures.breaks c.announce.ensures.done;
    }
