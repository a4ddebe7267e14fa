use Rattle.std.proofs.Common.{List, ◌∷◌, [], map, Option, subst}
use Rattle.turn.specs.Turn.{OneRun, AllTrue}
use Rattle.turn_group.specs.Calls.{seat_steps}
use Rattle.turn_group.specs.Notes.{says}
use Rattle.turn_group.specs.Notes.SeatNote.{MoverNote}
use Rattle.turn_group.specs.Seats.{TurnState, MoverSeatState, ReaderSeatState, calls_at, mover_note}
use Rattle.turn_group.specs.Histories.{OneHistory}
use Rattle.turn_group.proofs.Runs.{one_history}
use Rattle.turn_group.proofs.group.TurnGroup.close.Goals as goal

pub returns-clause-history : goal.returns-clause-history
returns-clause-history c =
    let first = c.self.inside.table.board.shared.key.value in
    let end = c.close.result in
    let mover = c.mover.inside.seat.place.me.0.mine in
    let readers = map calls_at c.readers.inside.places.items in
    let run : OneRun seat_steps first (mover ∷ readers) end = subst (λ l. OneRun seat_steps first l end) c.gather-seat.ensures.lists c.close.ensures.run in
    let history : OneHistory first mover readers end = one_history first end mover readers run c.mover.invariant.own c.gather-seat.ensures.own in
    subst (λ (s : TurnState). OneHistory s.first c.args.mover.calls (map calls_at c.args.readers) end) c.self.view_is
    (subst (λ (m : MoverSeatState). OneHistory first m.calls (map calls_at c.args.readers) end) c.mover.view_is (subst (λ (l : List (Option ReaderSeatState)). OneHistory first mover (map calls_at l) end) c.readers.view_is history))

pub returns-clause-known : goal.returns-clause-known
returns-clause-known c =
    let view = c.mover.inside.seat.place.me.0 in
    let end = c.close.result in
    let noted : AllTrue says end (mover_note view.notes ∷ []) = subst (AllTrue says end) c.mover.invariant.noted (c.gather-seat.ensures.noted end c.close.ensures.noted) in
    subst (λ (m : MoverSeatState). says end (MoverNote m.last m.known)) c.mover.view_is noted.0
