-- The stamps that a share says wait for a form are those of the waiting entries on its track.
use Rattle.std.specs.Prelude.{ℕ, ◌==◌, ◌&&◌, Bool}
use Rattle.cut_core.specs.Shares.{names_volume}
use Rattle.cut_core.specs.Groups.{CarriedEntry}

-- whether an entry is on track x of controller k's volume v
abbrev pub waits_on : (k v x : ℕ) → CarriedEntry → Bool
waits_on k v x e = names_volume e.control e.volume k v && e.track == x
