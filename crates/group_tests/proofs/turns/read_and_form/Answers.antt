use denote.Param.Send.{sendable}
use Rattle.std.proofs.Common.{rules}
use Rattle.std.proofs.Crossing.{crosses, sync}
use Rattle.turn_group.proofs.Crossing.{reader_send, group_sync}
use Rattle.group_tests.proofs.turns.read_and_form.Goals as goal

pub join_mut-requires-send-F : goal.join_mut-requires-send-F
join_mut-requires-send-F g c κs within = search (rules, reader_send, group_sync, sync, sendable, crosses) depth 40
