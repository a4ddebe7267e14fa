-- What a history makes of one track of a controller's volume: whether it is carried and wanted, whether the map of the dropped
-- volume holds it, and what waits on it.
use Rattle.std.specs.Prelude.{ℕ, ◌==◌, ◌&&◌, ◌||◌, not, List, [], ◌∷◌, ◌++◌, length, filter, fold, Bool, true, false, nat_lt, if◌then◌else◌}
use Rattle.std.specs.List.{list_any}
use Rattle.ckd_track.specs.declared.write.Write.{Write}
use Rattle.cut_core.specs.Events.{Event}
use Rattle.cut_core.specs.Events.Event.{Join, Copied, Break, Raise, Form, Drop, Carry, Resume, Forget}

-- Whether the volume is carried, whether it is dropped and neither carried again nor forgotten since, whether the track is
-- wanted, whether the volume's map holds it, and the stamps of the carried entries on it that wait for a form.
pub record Share : Type 0 where
  pub is_carried : Bool
  pub is_dropped : Bool
  pub is_wanted : Bool
  pub is_mapped : Bool
  pub waiting : List ℕ

abbrev pub no_share : Share
no_share = record { is_carried = false; is_dropped = false; is_wanted = false; is_mapped = false; waiting = [] }

abbrev pub names_volume : (k v : ℕ) → (control volume : ℕ) → Bool
names_volume k v control volume = k == control && v == volume

-- A joined write is carried where its volume is and its track isn't wanted. While the volume is dropped it goes into the map.
abbrev pub share_write : (stamp : ℕ) → Share → Share
share_write stamp s =
    if s.is_carried && not s.is_wanted then record s { waiting = s.waiting ++ stamp ∷ [] }
    else if s.is_dropped then record s { is_mapped = true }
    else s

abbrev pub share_writes : (v x : ℕ) → List Write → Share → Share
share_writes v x [] s = s
share_writes v x (w ∷ writes) s = share_writes v x writes (if w.volume == v && w.track == x then share_write w.stamp.0 s else s)

-- A copied track is wanted no longer, and is carried as an entry.
abbrev pub share_copied : (stamp : ℕ) → Share → Share
share_copied stamp s = record s { is_wanted = false; waiting = s.waiting ++ stamp ∷ [] }

-- A drop takes out what waits, and ends the carrying; no track is wanted then. The map holds every track where a drop said
-- `all`, else the tracks whose entries were taken out. A volume that was never carried, or was forgotten, gets no map.
abbrev pub share_drop : (all : Bool) → Share → Share
share_drop all s =
    if s.is_carried || s.is_dropped
    then record { is_carried = false; is_dropped = true; is_wanted = false; is_mapped = s.is_mapped || all || not (length s.waiting == 0); waiting = [] }
    else record s { waiting = [] }

-- A carry makes the given tracks wanted; the volume begins without a map.
abbrev pub share_carry : (is_given : Bool) → Share → Share
share_carry is_given s = record { is_carried = true; is_dropped = false; is_wanted = s.is_wanted || is_given; is_mapped = false; waiting = s.waiting }

-- A resume makes exactly the tracks of the map wanted.
abbrev pub share_resume : Share → Share
share_resume s = record { is_carried = true; is_dropped = false; is_wanted = s.is_mapped; is_mapped = false; waiting = s.waiting }

-- What an event makes of track x of controller k's volume v. A carry, a resume and a forget take out nothing that waits.
abbrev pub share_by : (k v x : ℕ) → Share → Event → Share
share_by k v x s (Join b) = if b.control == k then share_writes v x b.writes s else s
share_by k v x s (Copied j u y stamp) = if names_volume j u k v && y == x then share_copied stamp s else s
share_by k v x s (Form cut) = record s { waiting = filter (λ stamp. nat_lt cut stamp) s.waiting }
share_by k v x s (Drop j u all) = if names_volume j u k v then share_drop all s else s
share_by k v x s (Carry j u tracks) = if names_volume j u k v then share_carry (list_any (λ y. y == x) tracks) s else s
share_by k v x s (Resume j u) = if names_volume j u k v then share_resume s else s
share_by k v x s (Forget j u) = if names_volume j u k v then record no_share { waiting = s.waiting } else s
share_by k v x s (Break j upto) = s
share_by k v x s (Raise j upto) = s

abbrev pub share : (k v x : ℕ) → List Event → Share
share k v x past = fold (share_by k v x) no_share past
