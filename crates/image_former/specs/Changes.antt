-- What entries do to the content of a track.
use Rattle.std.specs.Prelude.{ℕ, List, [], ◌∷◌, Bool, Option, Some, unwrap_or, if◌then◌else◌}
use Rattle.std.specs.List.{AllZip}
use Rattle.ckd_track.specs.declared.rec.Rec.{Rec}
use Rattle.ckd_track.specs.declared.write.Kind.{Kind}
use Rattle.ckd_track.specs.Effects.{apply}
use Rattle.pair_table.specs.declared.row.PairRow.{PairRow}
use Rattle.pending_queue.specs.Entries.{WaitingEntry, IsSpelled}
use Rattle.image_former.specs.Entries.{is_entry_on}

-- The entries are those of writes that do this to their tracks, each to its own.
abbrev pub AreSpelled : List WaitingEntry → List Kind → Type 0
AreSpelled entries kinds = AllZip (λ entry kind. IsSpelled entry.head kind entry.form) entries kinds

-- What a write of this kind leaves of a track, where it is on it: where there is no track, it changes the empty one.
abbrev pub changed_by : (on : Bool) → Kind → Option (List Rec) → Option (List Rec)
changed_by on kind old = if on then Some (apply (unwrap_or old []) kind) else old

-- what entries of these kinds in turn leave of a track, where those that pass a test are on it
abbrev pub changed_where : (WaitingEntry → Bool) → List WaitingEntry → List Kind → Option (List Rec) → Option (List Rec)
changed_where on [] kinds old = old
changed_where on (entry ∷ entries) [] old = old
changed_where on (entry ∷ entries) (kind ∷ kinds) old = changed_where on entries kinds (changed_by (on entry) kind old)

-- what entries of these kinds in turn leave of a device's track
abbrev pub changed_through : List PairRow → (device track : ℕ) → List WaitingEntry → List Kind → Option (List Rec) → Option (List Rec)
changed_through rows device track entries kinds old = changed_where (is_entry_on rows device track) entries kinds old
