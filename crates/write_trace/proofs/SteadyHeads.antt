-- The head of a header: the same on longer lists, and what is left stands at the end.
use Rattle.std.proofs.Common.{ℕ, zero, suc, ◌-◌, nat_le, List, [], ◌∷◌, sum_by, Result, Ok}
use Rattle.std.specs.Prelude.{slice_index}
use Rattle.std.specs.Int.{w16, w32}
use Rattle.tod_stamp.specs.Fields.{◌>>=◌, Left, Bad, bytes_at, number_at, within}
use Rattle.tod_stamp.specs.Names.{before_spaces}
use Rattle.write_trace.specs.declared.header.VolumeHead.{VolumeHead}
use Rattle.write_trace.specs.Headers.{tracks_of, is_trace_mark, is_new_serial, cylinder_width, most_cylinders, version_at, volume_at, volumes_at}
use Rattle.write_trace.specs.HeaderParts.{header_front_at}
use Rattle.write_trace.proofs.Steady.{IsSteady, steady_number, steady_bytes, steady_done, steady_then}
use Rattle.write_trace.proofs.Forward.{IsForward, forward_number, forward_bytes, forward_done, forward_then}

steady_version : IsSteady version_at
unfolding version_at
steady_version = steady_then (bytes_at 4 is_trace_mark) (λ m. Ok (slice_index m.0 3 - 48, m.1)) (steady_bytes 4 is_trace_mark) (λ m. steady_done (slice_index m 3 - 48))

forward_version : IsForward version_at
unfolding version_at
forward_version = forward_then (bytes_at 4 is_trace_mark) (λ m. Ok (slice_index m.0 3 - 48, m.1)) (forward_bytes 4 is_trace_mark) (λ m. forward_done (slice_index m 3 - 48))

volume_made : List ℕ → ℕ → VolumeHead
volume_made field cylinders = record { serial = before_spaces field; cylinders = cylinders }

steady_volume : (version : ℕ) (seen : List (List ℕ)) → IsSteady (volume_at version seen)
unfolding volume_at volume_made
steady_volume version seen =
    steady_then (bytes_at 6 (is_new_serial seen)) (λ serial. number_at (cylinder_width version) (within 1 (most_cylinders version)) serial.1 >>= λ cylinders. Ok (volume_made serial.0 cylinders.0, cylinders.1)) (steady_bytes 6 (is_new_serial seen))
    (λ serial. steady_then (number_at (cylinder_width version) (within 1 (most_cylinders version))) (λ cylinders. Ok (volume_made serial cylinders.0, cylinders.1)) (steady_number (cylinder_width version) (within 1 (most_cylinders version))) (λ cylinders. steady_done (volume_made serial cylinders)))

forward_volume : (version : ℕ) (seen : List (List ℕ)) → IsForward (volume_at version seen)
unfolding volume_at volume_made
forward_volume version seen =
    forward_then (bytes_at 6 (is_new_serial seen)) (λ serial. number_at (cylinder_width version) (within 1 (most_cylinders version)) serial.1 >>= λ cylinders. Ok (volume_made serial.0 cylinders.0, cylinders.1)) (forward_bytes 6 (is_new_serial seen))
    (λ serial. forward_then (number_at (cylinder_width version) (within 1 (most_cylinders version))) (λ cylinders. Ok (volume_made serial cylinders.0, cylinders.1)) (forward_number (cylinder_width version) (within 1 (most_cylinders version))) (λ cylinders. forward_done (volume_made serial cylinders)))

steady_volumes : (version count : ℕ) (seen : List (List ℕ)) → IsSteady (volumes_at version count seen)
unfolding volumes_at
steady_volumes version zero seen = steady_done []
steady_volumes version (suc count) seen =
    steady_then (volume_at version seen) (λ first. volumes_at version count (first.0.serial ∷ seen) first.1 >>= λ others. Ok (first.0 ∷ others.0, others.1)) (steady_volume version seen)
    (λ first. steady_then (volumes_at version count (first.serial ∷ seen)) (λ others. Ok (first ∷ others.0, others.1)) (steady_volumes version count (first.serial ∷ seen)) (λ others. steady_done (first ∷ others)))

forward_volumes : (version count : ℕ) (seen : List (List ℕ)) → IsForward (volumes_at version count seen)
unfolding volumes_at
forward_volumes version zero seen = forward_done []
forward_volumes version (suc count) seen =
    forward_then (volume_at version seen) (λ first. volumes_at version count (first.0.serial ∷ seen) first.1 >>= λ others. Ok (first.0 ∷ others.0, others.1)) (forward_volume version seen)
    (λ first. forward_then (volumes_at version count (first.serial ∷ seen)) (λ others. Ok (first ∷ others.0, others.1)) (forward_volumes version count (first.serial ∷ seen)) (λ others. forward_done (first ∷ others)))

abbrev many_at : List VolumeHead → Left → Result (ℕ × Left) Bad
many_at volumes left = number_at w32 (λ n. nat_le n (sum_by tracks_of volumes)) left

pub steady_head : IsSteady header_front_at
unfolding header_front_at
steady_head =
    steady_then version_at (λ version. number_at w16 (within 1 32) version.1 >>= λ count. volumes_at version.0 count.0 [] count.1 >>= λ volumes. many_at volumes.0 volumes.1 >>= λ many. Ok ((version.0, volumes.0, many.0), many.1)) steady_version
    (λ version. steady_then (number_at w16 (within 1 32)) (λ count. volumes_at version count.0 [] count.1 >>= λ volumes. many_at volumes.0 volumes.1 >>= λ many. Ok ((version, volumes.0, many.0), many.1)) (steady_number w16 (within 1 32))
    (λ count. steady_then (volumes_at version count []) (λ volumes. many_at volumes.0 volumes.1 >>= λ many. Ok ((version, volumes.0, many.0), many.1)) (steady_volumes version count [])
    (λ volumes. steady_then (many_at volumes) (λ many. Ok ((version, volumes, many.0), many.1)) (steady_number w32 (λ n. nat_le n (sum_by tracks_of volumes))) (λ many. steady_done (version, volumes, many)))))

pub forward_head : IsForward header_front_at
unfolding header_front_at
forward_head =
    forward_then version_at (λ version. number_at w16 (within 1 32) version.1 >>= λ count. volumes_at version.0 count.0 [] count.1 >>= λ volumes. many_at volumes.0 volumes.1 >>= λ many. Ok ((version.0, volumes.0, many.0), many.1)) forward_version
    (λ version. forward_then (number_at w16 (within 1 32)) (λ count. volumes_at version count.0 [] count.1 >>= λ volumes. many_at volumes.0 volumes.1 >>= λ many. Ok ((version, volumes.0, many.0), many.1)) (forward_number w16 (within 1 32))
    (λ count. forward_then (volumes_at version count []) (λ volumes. many_at volumes.0 volumes.1 >>= λ many. Ok ((version, volumes.0, many.0), many.1)) (forward_volumes version count [])
    (λ volumes. forward_then (many_at volumes) (λ many. Ok ((version, volumes, many.0), many.1)) (forward_number w32 (λ n. nat_le n (sum_by tracks_of volumes))) (λ many. forward_done (version, volumes, many)))))
