-- What a group leaves of one controller's tracks.
use Rattle.std.proofs.Common.{◌≡◌, ℕ, Bool, true, false, cond, ◌&&◌, List, [], ◌∷◌, Option, refl}
use Rattle.std.specs.Prelude.{filter}
use Rattle.ckd_track.specs.declared.rec.Rec.{Rec}
use Rattle.pending_queue.specs.Entries.{WaitingEntry, is_queued_on}
use Rattle.image_former.specs.Changes.{changed_by}
use Rattle.group_state.specs.SoundStates.{is_entry_of_control}
use Rattle.fed_logs.specs.ToldTracks.{after_entries, names_track}

-- Of a controller's tracks only its own entries are.
pub names_own : (k v x : ℕ) (entries : List WaitingEntry) (old : Option (List Rec)) → after_entries (names_track k v x) entries old ≡ after_entries (is_queued_on v x) (filter (is_entry_of_control k) entries) old
names_own k v x [] old = refl
names_own k v x (e ∷ entries) old = choose (is_entry_of_control k e) (names_own k v x entries)
  where
    choose : (t : Bool) → ((o : Option (List Rec)) → after_entries (names_track k v x) entries o ≡ after_entries (is_queued_on v x) (filter (is_entry_of_control k) entries) o)
        → after_entries (names_track k v x) entries (changed_by (t && is_queued_on v x e) e.kind old) ≡ after_entries (is_queued_on v x) (cond t (e ∷ filter (is_entry_of_control k) entries) (filter (is_entry_of_control k) entries)) old
    choose true rest = rest (changed_by (is_queued_on v x e) e.kind old)
    choose false rest = rest old
