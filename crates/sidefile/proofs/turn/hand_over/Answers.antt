use Rattle.std.proofs.Common.{◌≡◌, ◌<◌, ℕ, Option, None, Some, inl, inr, ap, subst, ◌∙◌, arith}
use Rattle.write_trace.specs.declared.entry.Entry.{Entry}
use Rattle.write_trace.specs.Entries.{stamp_of}
use Rattle.write_trace.specs.Answers.{ReaderState}
use Rattle.sidefile.specs.States.{IsWaiting}
use Rattle.sidefile.proofs.Collects.{entry_kept}
use Rattle.sidefile.proofs.TurnLaws.{turn_is, ahead_ended}
use Rattle.sidefile.proofs.FirstTurns.{waiting_is, turn_first, turn_ended, turn_bad, none_left}
use Rattle.sidefile.proofs.turn.hand_over.Goals as goal

-- what is known of the entry that waits, or of none
waits_as : (waiting is : Option Entry) (r : ReaderState) (upto : ℕ) → waiting ≡ is → IsWaiting waiting r upto → IsWaiting is r upto
waits_as waiting is r upto e waits = subst (λ (w : Option Entry). IsWaiting w r upto) e waits

pub returns-in-Some : goal.returns-in-Some
returns-in-Some g c = λ upto waits le.
    let known = waits_as c.args.waiting (Some c.in-Some.first) c.args.reader.now upto c.in-Some.is waits in
    waiting_is c.args.waiting (Some c.in-Some.first) c.in-Some.is (c.take_turn.ensures upto known.1 le)

pub returns-in-Next : goal.returns-in-Next
returns-in-Next g c = λ upto waits le.
    waiting_is c.args.waiting None c.in_default.is (elim (waits_as c.args.waiting None c.args.reader.now upto c.in_default.is waits) [
      | inl (zero, goes) ↦
          let reads = c.in-Next.ensures.finds goes in
          let e = c.in-Next.first in
          let kept = entry_kept c.args.reader.now.volumes c.args.reader.now.last e reads.0.kept in
          let early : upto < stamp_of e = omega (arith, zero, kept.0.0) in
          turn_first e goes reads.0 c.args.control c.args.limit.0 upto (g.S.Source.left c.take_turn-in-Next.new.source)
          (g.S.Source.faults c.args.source.now) (g.S.Source.faults c.look_ahead.new.source) (g.S.Source.faults c.take_turn-in-Next.new.source) c.take_turn-in-Next.new.reader c.take_turn-in-Next.result reads.1
          (c.take_turn-in-Next.ensures upto early le)
      | inr stopped ↦ let h = (c.in-Next.ensures.again stopped).0 in absurd cc
    ])

pub returns-in-Ended : goal.returns-in-Ended
returns-in-Ended g c = λ upto waits le.
    let r = c.args.reader.now in
    let t = c.look_ahead.new.reader in
    let before = g.S.Source.left c.args.source.now in
    let now = g.S.Source.left c.look_ahead.new.source in
    let f1 = g.S.Source.faults c.args.source.now in
    let f2 = g.S.Source.faults c.look_ahead.new.source in
    turn_is c.last.result _ c.last.ensures (waiting_is c.args.waiting None c.in_default.is (elim (waits_as c.args.waiting None r upto c.in_default.is waits) [
      | inl (zero, goes) ↦
          let finds = c.in-Ended.ensures.finds goes in
          turn_ended c.args.control c.args.limit.0 upto before now f1 f2 r t le (none_left before r goes finds.0) finds.1.volumes finds.1.stopped finds.2
      | inr stopped ↦
          let same : t ≡ r = (c.in-Ended.ensures.again stopped).1 in
          turn_ended c.args.control c.args.limit.0 upto before now f1 f2 r t le (λ bytes there. ahead_ended r bytes stopped)
          (ap (λ (x : ReaderState). x.volumes) same) (ap (λ (x : ReaderState). x.stopped) same ∙ stopped) (ap g.S.Source.faults (c.in-Ended.ensures.unasked stopped))
    ]))

pub returns-in-Bad : goal.returns-in-Bad
returns-in-Bad g c = λ upto waits le.
    let r = c.args.reader.now in
    turn_is c.last-in-Bad.result _ c.last-in-Bad.ensures (waiting_is c.args.waiting None c.in_default.is (elim (waits_as c.args.waiting None r upto c.in_default.is waits) [
      | inl (zero, goes) ↦
          turn_bad c.args.control c.args.limit.0 upto (g.S.Source.left c.args.source.now) (g.S.Source.left c.look_ahead.new.source) (g.S.Source.faults c.args.source.now) (g.S.Source.faults c.look_ahead.new.source)
          r c.look_ahead.new.reader c.in-Bad.cause zero goes (c.in-Bad.ensures.finds goes)
      | inr stopped ↦ let h = (c.in-Bad.ensures.again stopped).0 in absurd cc
    ]))
