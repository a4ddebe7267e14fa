use Rattle.std.proofs.Common.{◌≡◌, ◌-◌, ◌++◌, ◌∷◌, [], List, None, refl, ap, ◌∙◌, arith}
use Rattle.ckd_track.specs.declared.write.Write.{Write}
use Rattle.write_trace.specs.Entries.{stamp_of as stamp_of_entry}
use Rattle.write_trace.specs.Writes.{writes_of}
use Rattle.sidefile.specs.Breaks.{stamp}
use Rattle.sidefile.specs.declared.hand.Hand.TheVariants as hands
use Rattle.sidefile.proofs.TurnLaws.{at_stamp, turn_is, turn_above, next_turn, last_turn, broken_turn}
use Rattle.sidefile.proofs.turn.take_turn.Goals as goal

pub returns-then-stamp-limit : goal.returns-then-stamp-limit
returns-then-stamp-limit g c = λ upto above le. turn_above c.args.control c.args.limit.0 upto (g.S.Source.left c.args.source.now) (g.S.Source.faults c.args.source.now) c.args.first c.args.reader.now
    (omega arith) le c.requires.kept c.requires.last c.requires.goes_on

pub returns-in-Next : goal.returns-in-Next
returns-in-Next g c = λ upto above le.
    let h = at_stamp c.stamp_of-stamp.result.0 (stamp_of_entry c.args.first) c.stamp_of-stamp.ensures c.in-Next.ensures in
    let one : c.add.new.writes ≡ [] ++ writes_of (c.args.first ∷ []) = c.in-Ok.ensures.0 ∙ ap (λ (ws : List Write). ws ++ writes_of (c.args.first ∷ [])) c.make-writes.ensures in
    next_turn c.args.first h c.args.control c.args.limit.0 upto c.requires.kept c.requires.goes_on (omega arith) above one c.in-Next.next c.before-upto.result h.found c.before-upto.ensures

pub returns-in-Ended : goal.returns-in-Ended
returns-in-Ended g c = λ upto above le.
    let h = at_stamp c.stamp_of-stamp.result.0 (stamp_of_entry c.args.first) c.stamp_of-stamp.ensures c.in-Ended.ensures in
    let one : c.add.new.writes ≡ [] ++ writes_of (c.args.first ∷ []) = c.in-Ok.ensures.0 ∙ ap (λ (ws : List Write). ws ++ writes_of (c.args.first ∷ [])) c.make-writes.ensures in
    turn_is c.last-in-Ended.result _ c.last-in-Ended.ensures
    (last_turn c.args.first h c.args.control c.args.limit.0 upto c.requires.kept c.requires.goes_on (omega arith) above one h.found c.args.limit refl)

pub returns-in-Bad : goal.returns-in-Bad
returns-in-Bad g c = λ upto above le.
    let h = at_stamp c.stamp_of-stamp.result.0 (stamp_of_entry c.args.first) c.stamp_of-stamp.ensures c.in-Bad.ensures in
    let one : c.add.new.writes ≡ [] ++ writes_of (c.args.first ∷ []) = c.in-Ok.ensures.0 ∙ ap (λ (ws : List Write). ws ++ writes_of (c.args.first ∷ [])) c.make-writes.ensures in
    turn_is c.broken.result _ (c.broken.ensures ∙ ap (λ n. record { hand = hands.Broken c.in-Bad.cause (stamp (n - 1)); waiting = None }) c.stamp_of-stamp.ensures)
    (broken_turn c.args.first h c.args.control c.args.limit.0 upto c.requires.kept c.requires.goes_on (omega arith) above one c.in-Bad.cause h.found)
