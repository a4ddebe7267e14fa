use denote.Param.Send.{sendable, IsSend, IsSync}
use Rattle.std.proofs.Common.{rules}
use Rattle.std.proofs.Crossing.{crosses, sync}
use Rattle.turn_group.proofs.Crossing.{group_sync}
use Rattle.mover.proofs.Crossing.{lane_reader_send}
use Rattle.mover.proofs.round.round.Goals as goal

pub join_mut-moved-requires-send-F : goal.join_mut-moved-requires-send-F
join_mut-moved-requires-send-F g c κs within =
    let runtime : IsSync g.row.R = record { shared = c.type_bounds.sync-R.shared } in
    let gate : IsSync g.row.G = record { shared = c.type_bounds.sync-G.shared } in
    let source : IsSend _ = c.type_bounds.send-S in
    search (rules, lane_reader_send, group_sync, sync, sendable, crosses) depth 60
