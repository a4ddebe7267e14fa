-- A lane's reader may go to another thread. A closure that takes it along is sent by a search that lists this.
use denote.Param.Send.{IsSend, sendable}
use Rattle.std.proofs.Crossing.{crosses}
use Rattle.std.proofs.MapsCrossing.{crosses as maps_cross}
use Rattle.ckd_track.specs.contracts.rec.Rec as Rec
use Rattle.ckd_track.specs.contracts.track.Track as Track
use Rattle.ckd_track.specs.contracts.write.Kind as Kind
use Rattle.ckd_track.specs.contracts.write.Write as Write
use Rattle.ckd_track.specs.contracts.write.Batch as Batch
use Rattle.ckd_track.specs.contracts.slot.Slot as Slot
use Rattle.write_trace.specs.contracts.entry.Entry as Entry
use Rattle.write_trace.specs.contracts.header.VolumeHead as VolumeHead
use Rattle.write_trace.specs.contracts.reader.TraceReader as TraceReader
use Rattle.sidefile.specs.contracts.sidefile.Sidefile as Sidefile
use Rattle.primary_ctl.specs.contracts.held.Held as Tracks
use Rattle.primary_ctl.specs.contracts.primary.Primary as Primary
use Rattle.fed_logs.specs.contracts.feed.Feed as Feed
use Rattle.pending_queue.specs.contracts.formed.Formed as Formed
use Rattle.turn_group.proofs.Crossing.{reader_send}
use Rattle.mover.specs.contracts.reader.Reader as Reader

-- ---- writes

rec_send : IsSend Rec.the_row
rec_send = search (sendable, crosses) depth 40

track_send : IsSend Track.the_row
track_send = search (rec_send, sendable, crosses) depth 40

kind_send : IsSend Kind.the_row
kind_send = search (rec_send, track_send, sendable, crosses) depth 40

write_send : IsSend Write.the_row
write_send = search (kind_send, sendable, crosses) depth 40

batch_send : IsSend Batch.the_row
batch_send = search (write_send, sendable, crosses) depth 40

slot_send : IsSend Slot.the_row
slot_send = search (sendable, crosses) depth 40

-- ---- a trace's reader and its sidefile

head_send : IsSend VolumeHead.the_row
head_send = search (sendable, crosses) depth 40

entry_send : IsSend Entry.the_row
entry_send = search (write_send, sendable, crosses) depth 40

trace_send : IsSend TraceReader.the_row
trace_send = search (head_send, sendable, crosses) depth 40

side_send : IsSend Sidefile.the_row
side_send = search (entry_send, trace_send, sendable, crosses) depth 40

-- ---- a primary

tracks_send : IsSend Tracks.the_row
tracks_send = search (track_send, sendable, crosses, maps_cross) depth 40

primary_send : IsSend Primary.the_row
primary_send = search (head_send, track_send, tracks_send, sendable, crosses) depth 40

-- ---- a lane's reader

feed_send : IsSend Feed.the_row
feed_send = search (side_send, primary_send, batch_send, sendable, crosses) depth 40

group_send : IsSend Formed.the_row
group_send = search (sendable, crosses) depth 40

pub lane_reader_send : IsSend Reader.the_row
lane_reader_send = search (feed_send, slot_send, reader_send, group_send, sendable, crosses) depth 60
