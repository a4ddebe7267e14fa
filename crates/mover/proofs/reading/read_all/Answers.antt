use denote.Param.Send.{sendable, IsSync}
use Rattle.std.proofs.Common.{rules}
use Rattle.std.proofs.Crossing.{crosses, sync}
use Rattle.turn_group.proofs.Crossing.{group_sync}
use Rattle.mover.proofs.Crossing.{lane_reader_send}
use Rattle.mover.proofs.reading.read_all.Goals as goal

pub for_each_mut-requires-send-T : goal.for_each_mut-requires-send-T
for_each_mut-requires-send-T g c κs within = search (rules, lane_reader_send, sendable, crosses) depth 40

pub for_each_mut-requires-sync-F : goal.for_each_mut-requires-sync-F
for_each_mut-requires-sync-F g c κs within =
    let runtime : IsSync g.row.W = record { shared = c.type_bounds.sync-W.shared } in
    let gate : IsSync g.row.G = record { shared = c.type_bounds.sync-G.shared } in
    search (group_sync, sync, sendable, crosses) depth 60
