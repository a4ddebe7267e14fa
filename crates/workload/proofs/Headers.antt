-- The headers of the traces keep the rules, and so do the serials in them.
use Rattle.std.proofs.Common.{◌≡◌, ◌<◌, ◌+◌, [], ℕ, zero, suc, map, true, IsTrue, refl, arith}
use Rattle.std.specs.List.{range_with_len}
use Rattle.ckd_track.specs.Tracks.{IsTrack}
use Rattle.write_trace.specs.Headers.{are_volumes, is_header}
use Rattle.workload.specs.Traces.{generated_header, generated_volumes, zero_record}

pub headers_keep_rules : (control : ℕ) → control < 4 → IsTrue (is_header (generated_header control))
headers_keep_rules zero lt = refl
headers_keep_rules (suc zero) lt = refl
headers_keep_rules (suc (suc zero)) lt = refl
headers_keep_rules (suc (suc (suc zero))) lt = refl
headers_keep_rules (suc (suc (suc (suc n)))) lt = absurd (omega (arith, lt))

-- Up to four records of zeros are a track.
pub zeros_are_track : (n : ℕ) → n < 4 → IsTrack (map zero_record (range_with_len 1 (n + 1)))
zeros_are_track zero lt = refl
zeros_are_track (suc zero) lt = refl
zeros_are_track (suc (suc zero)) lt = refl
zeros_are_track (suc (suc (suc zero))) lt = refl
zeros_are_track (suc (suc (suc (suc n)))) lt = absurd (omega (arith, lt))

pub volumes_keep_rules : (control : ℕ) → control < 4 → are_volumes 1 [] (generated_volumes control) ≡ true
volumes_keep_rules zero lt = refl
volumes_keep_rules (suc zero) lt = refl
volumes_keep_rules (suc (suc zero)) lt = refl
volumes_keep_rules (suc (suc (suc zero))) lt = refl
volumes_keep_rules (suc (suc (suc (suc n)))) lt = absurd (omega (arith, lt))
