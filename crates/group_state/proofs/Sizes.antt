-- How many tracks a kept volume has, under which numbers controllers and volumes stand, and how many tracks a resume owes.
use Rattle.std.proofs.Common.{inl, inr, ◌≡◌, ℕ, suc, ◌+◌, ◌<◌, Bool, true, not, cond, List, [], ◌∷◌, length, Option, Some, None, refl, sym, ap, subst, ◌∙◌, arith}
use Rattle.std.specs.Prelude.{IfSome}
use Rattle.std.specs.List.{count_by, range_with_len}
use Rattle.std.proofs.lemmas.Bool.{cases_lt, eqb-true, lt-ltb}
use Rattle.std.proofs.lemmas.List.{get_or_past}
use Rattle.change_map.specs.Sets.{has_track, size}
use Rattle.cut_core.specs.Events.{Event}
use Rattle.cut_core.specs.Shares.{share}
use Rattle.group_state.specs.declared.volume.Volume.{Volume}
use Rattle.group_state.specs.Volumes.{volume_of, passes, owed, owed_in}
use Rattle.group_state.specs.Controls.{ControlState, new_control}
use Rattle.group_state.specs.Groups.{new_group, control_at}
use Rattle.group_state.specs.SoundStates.{passes_or_none, has_sizes}
use Rattle.group_state.specs.Machine.Reply.{Owed}
use Rattle.group_state.proofs.SoundLaws.{count_cons}
use Rattle.group_state.specs.Runs.{history}
use Rattle.group_state.specs.Histories.{IsShareOf}
use Rattle.group_state.specs.HistoryLaws.{tracks_reported, IsOfTracks, SizesAreTold, NumbersAreKept, answered_resume, mapped_of, ResumesOweMapped}
use Rattle.group_state.proofs.Stands.{stands_first}
use Rattle.group_state.proofs.RunLaws.{split, stands_after}
use Rattle.group_state.proofs.Tracks.{has_tracks, tracks_after, first_tracks}
use Rattle.group_state.proofs.DonePlans.{found_passes}

-- ---- sizes and numbers

of_tracks : (tracks : ℕ) (o : Option Volume) → passes_or_none (has_tracks tracks) o ≡ true → passes_or_none has_sizes o ≡ true → IfSome o (IsOfTracks tracks)
of_tracks tracks None told sized = tt
of_tracks tracks (Some u) told sized =
    let mapped = eqb-true (length u.map) tracks told in
    record { mapped = mapped; planned = sym (eqb-true (length u.map) (length u.plan.wanted) sized) ∙ mapped }

pub sizes_are_told : SizesAreTold
sizes_are_told n records blocks run s k v runs =
    let first = new_group n records blocks in
    let stands = stands_after n [] first run s (stands_first n records blocks) runs in
    let told = tracks_after n [] run first s (first_tracks n records blocks) (stands_first n records blocks) runs k v in
    elim (cases_lt k n) [
      | inl lt ↦ of_tracks (tracks_reported k v run) (volume_of v (control_at s k).volumes) told (found_passes has_sizes v (control_at s k).volumes (stands.sound k lt).sizes)
      | inr past ↦ subst (λ (c : ControlState). IfSome (volume_of v c.volumes) (IsOfTracks (tracks_reported k v run))) (sym (get_or_past s.controls k (new_control 0 0 0) (omega (arith, past, stands.follows.count)))) tt
    ]

pub numbers_are_kept : NumbersAreKept
numbers_are_kept n records blocks run s k lt runs =
    let stands = stands_after n [] (new_group n records blocks) run s (stands_first n records blocks) runs in
    record { control = stands.numbers k lt; volumes = (stands.sound k lt).distinct }

-- ---- resumes

-- A set has as many tracks as there are numbers that it has.
had_count : (set : List Bool) (p : ℕ → Bool) (first : ℕ) → ((i : ℕ) → i < length set → p (first + i) ≡ has_track set i) → size set ≡ count_by p (range_with_len first (length set))
had_count [] p first same = refl
had_count (b ∷ set) p first same =
    let here : p first ≡ b = subst (λ n. p n ≡ b) (omega arith) (same 0 (omega arith)) in
    let rest = had_count set p (first + 1) (λ i lt. subst (λ n. p n ≡ has_track set i) (omega arith) (same (suc i) (omega arith))) in
    omega (arith, rest, count_cons (λ b. b) b set, count_cons p first (range_with_len (first + 1) (length set)), ap {B = ℕ} (λ t. cond t 1 0) here)

owed_mapped : (k v tracks : ℕ) (past : List Event) (o : Option Volume) → passes (λ u. not u.carried) o ≡ true → ((x : ℕ) → IsShareOf o x (share k v x past)) → passes_or_none (has_tracks tracks) o ≡ true
    → owed_in o ≡ mapped_of k v tracks past
owed_mapped k v tracks past None dropped shares told = absurd cc
owed_mapped k v tracks past (Some u) dropped shares told =
    had_count u.map (λ x. (share k v x past).is_mapped) 0
    (λ i lt. subst (λ x. (share k v x past).is_mapped ≡ has_track u.map i) (omega arith) (sym ((shares i).mapped (lt-ltb i (length u.map) lt))))
    ∙ ap (λ n. mapped_of k v n past) (eqb-true (length u.map) tracks told)

pub resumes_owe_mapped : ResumesOweMapped
resumes_owe_mapped controls records blocks before later s k v n runs =
    let first = new_group controls records blocks in
    let parts = split first before (answered_resume k v n ∷ later) s runs in
    let middle = parts.middle in
    let stands = stands_after controls [] first before middle (stands_first controls records blocks) parts.first in
    let lt : k < controls = omega (arith, parts.second.1.0, stands.follows.count) in
    let told = tracks_after controls [] before first middle (first_tracks controls records blocks) (stands_first controls records blocks) parts.first k v in
    let volumes = (control_at middle k).volumes in
    same_owed n (owed v volumes) parts.second.2.0
    ∙ owed_mapped k v (tracks_reported k v before) (history before) (volume_of v volumes) parts.second.1.1 ((stands.follows.each k lt).volumes v) told
  where
    same_owed : (m n : ℕ) → Owed m ≡ Owed n → m ≡ n
    same_owed m n e = cc
