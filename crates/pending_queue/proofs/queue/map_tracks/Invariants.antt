use Rattle.std.proofs.Common.{◌≡◌, take, length}
use Rattle.pending_queue.specs.Entries.{entry_tracks}
use Rattle.pending_queue.specs.Maps.{with_tracks}
use Rattle.pending_queue.proofs.queue.map_tracks.Given as goal

abbrev pub invariant-loop-place : goal.invariant-loop-place
invariant-loop-place l = record {
  mapped : l.map ≡ with_tracks l.initial.map (entry_tracks l.volume (take l.place l.waiting.entries));
  same_length : length l.map ≡ length l.initial.map;
}
