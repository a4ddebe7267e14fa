-- How far a target is the copy of a pair's volume.
use Rattle.std.specs.Prelude.{◌<◌, ◌*◌, ◌==◌, ◌&&◌, ℕ, List, Bool, Option, Some, None, bytes_eq, if◌then◌else◌}
use Rattle.xrc_edge.specs.declared.limits.TheConstants.{TRACKS_OF_CYLINDER}
use Rattle.copy_progress.specs.declared.progress.Progress.{Progress}
use Rattle.copy_progress.specs.declared.claim.Claim.{Claim}
use Rattle.copy_progress.specs.Slots.{chosen_progress}

-- A progress counts for a pair if it is of this session, time, primary and number of tracks, and its number is that of the cylinders before
-- its next track.
abbrev pub counts_for : Claim → Progress → Bool
counts_for claim p = bytes_eq p.session claim.session && (p.time.0 == claim.time.0 && (bytes_eq p.primary claim.primary && (p.tracks == claim.tracks && TRACKS_OF_CYLINDER * p.number == p.next)))

abbrev pub done_by : Claim → Option Progress → ℕ
done_by claim None = 0
done_by claim (Some p) = if counts_for claim p then p.next else 0

-- how many tracks of a target are done
abbrev pub done : Claim → (target : List ℕ) → ℕ
done claim target = done_by claim (chosen_progress target)

-- Each track below what is done is the copy of the pair's.
abbrev pub IsCopiedSoFar : (is_copied : (target : List ℕ) → (track : ℕ) → Type 0) → Claim → (target : List ℕ) → Type 0
IsCopiedSoFar is_copied claim target = (x : ℕ) → x < done claim target → is_copied target x
