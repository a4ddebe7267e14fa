use Rattle.std.proofs.Common.{[], take, map, sym, subst, ◌∙◌}
use Rattle.std.specs.Prelude.{IsTrue}
use Rattle.cut_core.specs.LegalHistories.{is_legal_next}
use Rattle.cut_core.specs.HistoryEvents.{history_event}
use Rattle.cut_core.specs.Floors.{StandsAfter}
use Rattle.group_tests.proofs.Rows.{legal_at, seen_more}
use Rattle.group_tests.proofs.floors.after.Goals as goal

pub step-requires : goal.step-requires
step-requires c =
    let past = map history_event (take c.loop-event.event-index c.args.events.now) in
    let i = c.loop-event.invariant in
    let next = legal_at c.args.controls [] c.args.events.now c.loop-event.event-index c.event-item.result c.loop-event-test.true c.event-item.is c.requires.legal in
    record { legal = (past, i.stands, subst (λ n. IsTrue (is_legal_next n past (history_event c.event-item.result))) (sym i.controls) next) }

pub loop-event-preserved : goal.loop-event-preserved
loop-event-preserved c =
    let past = map history_event (take c.loop-event.event-index c.args.events.now) in
    let i = c.loop-event.invariant in
    let next = legal_at c.args.controls [] c.args.events.now c.loop-event.event-index c.event-item.result c.loop-event-test.true c.event-item.is c.requires.legal in
    record {
      controls = c.step.ensures.controls ∙ i.controls;
      stands = subst (λ p. StandsAfter c.step.new.self p) (sym (seen_more c.args.events.now c.loop-event.event-index c.event-item.result c.loop-event-test.true c.event-item.is))
          (c.step.ensures.stands past i.stands (subst (λ n. IsTrue (is_legal_next n past (history_event c.event-item.result))) (sym i.controls) next));
    }
