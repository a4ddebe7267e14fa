-- The track that a reader copies next is one that its controller had when the table was made.
use Rattle.std.proofs.Common.{◌≡◌, ℕ, Bool, true, false, cond, nat_eq, nat_lt, List, [], ◌∷◌, length, map, Option, Some, None, refl, sym, ap, ◌∙◌}
use Rattle.std.specs.Prelude.{IfSome}
use Rattle.std.specs.List.{list_all}
use Rattle.std.proofs.lemmas.Bool.{and_parts, eqb-true, lt-ltb}
use Rattle.change_map.specs.Sets.{has_track}
use Rattle.change_map.proofs.InSets.{had_within}
use Rattle.group_state.specs.declared.volume.Volume.{Volume}
use Rattle.group_state.specs.Volumes.{volume_of, passes, wants, is_wanted}
use Rattle.group_state.specs.Groups.{Group, control_at}
use Rattle.group_state.specs.SoundStates.{has_sizes, Sound}
use Rattle.turn_group.specs.Notes.{known_volume}
use Rattle.turn_group.specs.Seats.{is_track_of_control}
use Rattle.turn_group.proofs.Known.{HasSizesOf, sizes_in, sizes_at}

abbrev has : (track : ℕ) → Volume → Bool
has x u = nat_lt x (length u.map)

-- ---- in the state that the seat has in its turn

wants_within : (x : ℕ) (u : Volume) → has_sizes u ≡ true → wants x u ≡ true → has x u ≡ true
wants_within x u sizes wanted =
    let had = had_within u.plan.wanted x (and_parts u.carried (has_track u.plan.wanted x) wanted).1 in
    rw (eqb-true (length u.map) (length u.plan.wanted) sizes) (lt-ltb x (length u.plan.wanted) had)

wanted_within : (volumes : List Volume) (v x : ℕ) → list_all has_sizes volumes ≡ true → is_wanted v x volumes ≡ true → passes (has x) (volume_of v volumes) ≡ true
wanted_within [] v x sizes wanted = wanted
wanted_within (u ∷ volumes) v x sizes wanted =
    let parts = and_parts (has_sizes u) (list_all has_sizes volumes) sizes in choose (nat_eq u.number v) parts.0 wanted (wanted_within volumes v x parts.1)
  where
    choose : (t : Bool) → has_sizes u ≡ true → passes (wants x) (cond t (Some u) (volume_of v volumes)) ≡ true → (is_wanted v x volumes ≡ true → passes (has x) (volume_of v volumes) ≡ true)
        → passes (has x) (cond t (Some u) (volume_of v volumes)) ≡ true
    choose true here wants rest = wants_within x u here wants
    choose false here wants rest = rest wants

-- ---- in the state that the table was made with

-- whether a volume has the track, by sizes
abbrev is_sized : List (ℕ × ℕ) → (v x : ℕ) → Bool
is_sized [] v x = false
is_sized (u ∷ sizes) v x = cond (nat_eq u.0 v) (nat_lt x u.1) (is_sized sizes v x)

sized_by : (v x : ℕ) (volumes : List Volume) → passes (has x) (volume_of v volumes) ≡ is_sized (sizes_in (map known_volume volumes)) v x
sized_by v x [] = refl
sized_by v x (u ∷ volumes) = choose (nat_eq u.number v) (sized_by v x volumes)
  where
    choose : (b : Bool) → passes (has x) (volume_of v volumes) ≡ is_sized (sizes_in (map known_volume volumes)) v x
        → passes (has x) (cond b (Some u) (volume_of v volumes)) ≡ cond b (nat_lt x (length u.map)) (is_sized (sizes_in (map known_volume volumes)) v x)
    choose true rest = refl
    choose false rest = rest

track_before : (first s : Group) (k v x : ℕ) → HasSizesOf first s → is_track_of_control s k v x ≡ true → is_track_of_control first k v x ≡ true
track_before first s k v x h is =
    sized_by v x (control_at first k).volumes ∙ (ap (λ l. is_sized l v x) (sym (sizes_at first s k h)) ∙ (sym (sized_by v x (control_at s k).volumes) ∙ is))

pub next_within : (first x : Group) (k : ℕ) → HasSizesOf first x → Sound (control_at x k) → (r : Option (ℕ × ℕ)) → IfSome r (λ p. is_wanted p.0 p.1 (control_at x k).volumes ≡ true) → IfSome r (λ p. is_track_of_control first k p.0 p.1 ≡ true)
next_within first x k sizes sound None wanted = tt
next_within first x k sizes sound (Some p) wanted = track_before first x k p.0 p.1 sizes (wanted_within (control_at x k).volumes p.0 p.1 sound.sizes wanted)
