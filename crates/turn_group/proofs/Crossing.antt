-- The state and its seats may go to another thread, and threads may share the table. A closure that takes them along is sent by a search
-- that lists these.
use denote.Param.Send.{IsSend, IsSync, sendable}
use Rattle.std.proofs.Crossing.{crosses}
use Rattle.atomic_table.proofs.shared.Seat.TheSendSync.{the_send as seat_send}
use Rattle.atomic_table.proofs.shared.Shared.TheSendSync.{the_sync as shared_sync}
use Rattle.atomic_table.proofs.send_lease.SendLease.TheSendSync.{the_sync as lease_sync}
use Rattle.group_state.specs.contracts.state.GroupState as State
use Rattle.turn_group.specs.contracts.seats.ReaderSeat as Reader
use Rattle.turn_group.specs.contracts.group.TurnGroup as Table

pub state_send : IsSend State.the_row
state_send = search (sendable, crosses) depth 40

pub reader_send : IsSend Reader.the_row
reader_send = search (state_send, seat_send, sendable, crosses) depth 40

pub group_sync : IsSync Table.the_row
group_sync = search (state_send, shared_sync, lease_sync, sendable, crosses) depth 40
