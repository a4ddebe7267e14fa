-- What is mapped of a controller's volumes, through each change of them.
use Rattle.std.proofs.Common.{◌≡◌, ℕ, ◌<◌, Bool, true, false, not, cond, nat_eq, nat_lt, ◌&&◌, ◌||◌, List, [], ◌∷◌, filter, map, length, Option, Some, None, refl, sym, ap, subst, ◌∙◌, length-set, true≢false}
use Rattle.std.specs.List.{list_all, list_any}
use Rattle.std.specs.Option.{option_map}
use Rattle.std.proofs.lemmas.Bool.{and_parts, eq-eqb, eqb-true, lt-ltb, ltb-true}
use Rattle.ckd_track.specs.declared.write.Write.{Write}
use Rattle.change_map.specs.Sets.{has_track, with_track}
use Rattle.change_map.proofs.InSets.{has_every, has_with}
use Rattle.pair_table.proofs.PutLaws.{number_sym}
use Rattle.pending_queue.specs.Entries.{WaitingEntry, entry_tracks, is_of_volume}
use Rattle.pending_queue.specs.Maps.{with_tracks}
use Rattle.primary_ctl.specs.States.{is_on}
use Rattle.group_state.specs.declared.volume.Volume.{Volume}
use Rattle.group_state.specs.Volumes.{copied_track, dropped_volume, formed_track, noted_write, passes, volume_of, with_formed_copies, with_formed_copy, with_volume, with_write, with_writes}
use Rattle.group_state.specs.SoundStates.{are_within, is_dropped, is_track_within, passes_or_none}
use Rattle.group_state.proofs.SoundLaws.{all_within_write, length_dropped, written_keeps}
use Rattle.group_state.proofs.VolumeLaws.{found_with}
use Rattle.fed_logs.specs.Logs.{is_of_size}
use Rattle.fed_logs.proofs.Tracks.{tested_with}
use Rattle.xrc_session.proofs.MapsWrites.{or_none}

-- ---- tests that changes keep

-- Formed tracks leave each test of volumes that looks at no plan's joined tracks.
pub formed_same : (test : Volume → Bool) → ((u : Volume) → test (formed_track u) ≡ test u) → (v : ℕ) (volumes : List Volume) (entries : List WaitingEntry) → passes test (volume_of v (with_formed_copies volumes entries)) ≡ passes test (volume_of v volumes)
formed_same test same v volumes [] = refl
formed_same test same v volumes (e ∷ entries) =
    formed_same test same v (with_formed_copy volumes e) entries ∙ tested_with test test e.head.volume v formed_track (λ u. refl) volumes (λ one u found. same u) (λ apart u. refl)

-- A test of volumes that joined writes, copied tracks and formed ones leave as it was.
pub record IsSteady (test : Volume → Bool) : Type 0 where
  pub noted : (y : ℕ) (u : Volume) → test (noted_write y u) ≡ test u
  pub copied : (y : ℕ) (u : Volume) → test (copied_track y u) ≡ test u
  pub formed : (u : Volume) → test (formed_track u) ≡ test u

module _ (test : Volume → Bool) (steady : IsSteady test) (v : ℕ) where
  pub steady_writes : (volumes : List Volume) (writes : List Write) → passes test (volume_of v (with_writes volumes writes)) ≡ passes test (volume_of v volumes)
  steady_writes volumes [] = refl
  steady_writes volumes (w ∷ writes) =
      steady_writes (with_write volumes w) writes ∙ tested_with test test w.volume v (noted_write w.track) (written_keeps w.track) volumes (λ same u found. steady.noted w.track u) (λ apart u. refl)

  pub steady_copied : (w y : ℕ) (volumes : List Volume) → passes test (volume_of v (with_volume w (copied_track y) volumes)) ≡ passes test (volume_of v volumes)
  steady_copied w y volumes = tested_with test test w v (copied_track y) (λ u. refl) volumes (λ same u found. steady.copied y u) (λ apart u. refl)

  pub steady_formed : (volumes : List Volume) (entries : List WaitingEntry) → passes test (volume_of v (with_formed_copies volumes entries)) ≡ passes test (volume_of v volumes)
  steady_formed volumes entries = formed_same test steady.formed v volumes entries

-- A drop of another volume.
pub other_dropped : (test : Volume → Bool) (w v : ℕ) (all : Bool) (tracks : List ℕ) → nat_eq w v ≡ false → (volumes : List Volume) → passes test (volume_of v (with_volume w (dropped_volume all tracks) volumes)) ≡ passes test (volume_of v volumes)
other_dropped test w v all tracks apart volumes = tested_with test test w v (dropped_volume all tracks) (λ u. refl) volumes (λ same u found. absurd (true≢false (sym same ∙ apart))) (λ apart u. refl)

-- ---- the tests

noted_flag : {X : Type 0} (of : Volume → X) → ((u : Volume) (map : List Bool) → of (record u { map = map }) ≡ of u) → (y : ℕ) (u : Volume) → of (noted_write y u) ≡ of u
noted_flag of keeps y u = choose u.carried
  where
    choose : (t : Bool) → of (cond t u (record u { map = with_track u.map y })) ≡ of u
    choose true = refl
    choose false = keeps u (with_track u.map y)

abbrev pub is_gone : Volume → Bool
is_gone u = not u.carried

abbrev pub is_live : Volume → Bool
is_live u = u.carried

pub gone_steady : IsSteady is_gone
gone_steady = record { noted = noted_flag is_gone (λ u map. refl); copied = λ y u. refl; formed = λ u. refl }

pub live_steady : IsSteady is_live
live_steady = record { noted = noted_flag is_live (λ u map. refl); copied = λ y u. refl; formed = λ u. refl }

noted_length : (n y : ℕ) (u : Volume) → is_of_size n (noted_write y u) ≡ is_of_size n u
noted_length n y u = choose u.carried
  where
    choose : (t : Bool) → is_of_size n (cond t u (record u { map = with_track u.map y })) ≡ is_of_size n u
    choose true = refl
    choose false = ap (λ (m : ℕ). nat_eq m n) (length-set u.map y true)

pub size_steady : (n : ℕ) → IsSteady (is_of_size n)
size_steady n = record { noted = noted_length n; copied = λ y u. refl; formed = λ u. refl }

pub sized_dropped : (n w v : ℕ) (all : Bool) (tracks : List ℕ) (volumes : List Volume) → passes (is_of_size n) (volume_of v (with_volume w (dropped_volume all tracks) volumes)) ≡ passes (is_of_size n) (volume_of v volumes)
sized_dropped n w v all tracks volumes =
    tested_with (is_of_size n) (is_of_size n) w v (dropped_volume all tracks) (λ u. refl) volumes (λ same u found. ap (λ (m : ℕ). nat_eq m n) (length_dropped all tracks u.map)) (λ apart u. refl)

-- ---- what is mapped

abbrev pub has_in : (volume track : ℕ) → List Volume → Bool
has_in v x volumes = passes (λ u. has_track u.map x) (volume_of v volumes)

pub mapped_copied : (w y v x : ℕ) (volumes : List Volume) → has_in v x (with_volume w (copied_track y) volumes) ≡ has_in v x volumes
mapped_copied w y v x volumes = tested_with (λ u. has_track u.map x) (λ u. has_track u.map x) w v (copied_track y) (λ u. refl) volumes (λ same u found. refl) (λ apart u. refl)

pub mapped_formed : (v x : ℕ) (volumes : List Volume) (entries : List WaitingEntry) → has_in v x (with_formed_copies volumes entries) ≡ has_in v x volumes
mapped_formed v x volumes entries = formed_same (λ u. has_track u.map x) (λ u. refl) v volumes entries

either_way : (a b : Bool) → (a || b) ≡ (b || a)
either_way true true = refl
either_way true false = refl
either_way false true = refl
either_way false false = refl

-- A write on a dropped volume is mapped.
mapped_write : (v x : ℕ) (volumes : List Volume) (w : Write) → is_dropped v volumes ≡ true → is_track_within volumes w.volume w.track ≡ true → has_in v x (with_write volumes w) ≡ (has_in v x volumes || is_on v x w)
mapped_write v x volumes w gone within = ap (passes (λ u. has_track u.map x)) (found_with w.volume v (noted_write w.track) (written_keeps w.track) volumes) ∙ choose (nat_eq w.volume v) refl (volume_of v volumes) refl gone
  where
    here : (u : Volume) → volume_of v volumes ≡ Some u → nat_eq w.volume v ≡ true → w.track < length u.map
    here u found same = ltb-true w.track (length u.map)
        (ap (passes_or_none (λ (u : Volume). nat_lt w.track (length u.map))) (sym found ∙ ap (λ (n : ℕ). volume_of n volumes) (sym (eqb-true w.volume v same))) ∙ within)

    noted : (u : Volume) (t : Bool) → not t ≡ true → w.track < length u.map → has_track (let n : Volume = cond t u (record u { map = with_track u.map w.track }) in n.map) x ≡ (has_track u.map x || nat_eq w.track x)
    noted u true is low = absurd (true≢false (sym is))
    noted u false is low = has_with u.map w.track x low ∙ either_way (nat_eq x w.track) (has_track u.map x) ∙ ap (λ (b : Bool). has_track u.map x || b) (number_sym x w.track)

    choose : (t : Bool) → nat_eq w.volume v ≡ t → (o : Option Volume) → volume_of v volumes ≡ o → passes is_gone o ≡ true
        → passes (λ u. has_track u.map x) (cond t (option_map (noted_write w.track) o) o) ≡ (passes (λ u. has_track u.map x) o || (t && nat_eq w.track x))
    choose t is None found gone = absurd (true≢false (sym gone))
    choose true is (Some u) found gone = noted u u.carried gone (here u found is)
    choose false is (Some u) found gone = sym (or_none (has_track u.map x))

pub mapped_writes : (v x : ℕ) (volumes : List Volume) (writes : List Write) → is_dropped v volumes ≡ true → are_within volumes writes ≡ true → has_in v x (with_writes volumes writes) ≡ (has_in v x volumes || list_any (is_on v x) writes)
mapped_writes v x volumes [] gone within = sym (or_none (has_in v x volumes))
mapped_writes v x volumes (w ∷ writes) gone within =
    let parts = and_parts (is_track_within volumes w.volume w.track) (are_within volumes writes) within in
    let still : is_dropped v (with_write volumes w) ≡ true = tested_with is_gone is_gone w.volume v (noted_write w.track) (written_keeps w.track) volumes (λ same u found. gone_steady.noted w.track u) (λ apart u. refl) ∙ gone in
    mapped_writes v x (with_write volumes w) writes still (all_within_write w volumes writes parts.1)
    ∙ ap (λ (b : Bool). b || list_any (is_on v x) writes) (mapped_write v x volumes w gone parts.0)
    ∙ regroup (has_in v x volumes) (is_on v x w) (list_any (is_on v x) writes)
  where
    regroup : (a b c : Bool) → ((a || b) || c) ≡ (a || (b || c))
    regroup true b c = refl
    regroup false b c = refl

-- Writes leave the map of a volume that is carried.
pub carried_writes_unmapped : (v x : ℕ) (volumes : List Volume) (writes : List Write) → passes is_live (volume_of v volumes) ≡ true → has_in v x (with_writes volumes writes) ≡ has_in v x volumes
carried_writes_unmapped v x volumes [] live = refl
carried_writes_unmapped v x volumes (w ∷ writes) live =
    carried_writes_unmapped v x (with_write volumes w) writes (tested_with is_live is_live w.volume v (noted_write w.track) (written_keeps w.track) volumes (λ same u found. live_steady.noted w.track u) (λ apart u. refl) ∙ live)
    ∙ tested_with (λ u. has_track u.map x) (λ u. has_track u.map x) w.volume v (noted_write w.track) (written_keeps w.track) volumes (λ same u found. noted u u.carried (ap (passes is_live) (sym found) ∙ live)) (λ apart u. refl)
  where
    noted : (u : Volume) (t : Bool) → t ≡ true → has_track (let n : Volume = cond t u (record u { map = with_track u.map w.track }) in n.map) x ≡ has_track u.map x
    noted u true is = refl
    noted u false is = absurd (true≢false (sym is))

-- A drop with all tracks maps each of them.
pub all_mapped : (n v x : ℕ) (tracks : List ℕ) (volumes : List Volume) → x < n → passes (is_of_size n) (volume_of v volumes) ≡ true → has_in v x (with_volume v (dropped_volume true tracks) volumes) ≡ true
all_mapped n v x tracks volumes low sized =
    ap (passes (λ u. has_track u.map x)) (found_with v v (dropped_volume true tracks) (λ u. refl) volumes ∙ ap (λ (b : Bool). cond b (option_map (dropped_volume true tracks) (volume_of v volumes)) (volume_of v volumes)) (eq-eqb v v refl))
    ∙ choose (volume_of v volumes) sized
  where
    choose : (o : Option Volume) → passes (is_of_size n) o ≡ true → passes (λ u. has_track u.map x) (option_map (dropped_volume true tracks) o) ≡ true
    choose None sized = absurd (true≢false (sym sized))
    choose (Some u) sized = has_every (length u.map) x ∙ lt-ltb x (length u.map) (subst (λ (m : ℕ). x < m) (sym (eqb-true (length u.map) n sized)) low)

-- A volume that is kept is dropped after its drop.
pub dropped_is : (v : ℕ) (all : Bool) (tracks : List ℕ) (volumes : List Volume) → passes (λ u. true) (volume_of v volumes) ≡ true → is_dropped v (with_volume v (dropped_volume all tracks) volumes) ≡ true
dropped_is v all tracks volumes there =
    ap (passes is_gone) (found_with v v (dropped_volume all tracks) (λ u. refl) volumes ∙ ap (λ (b : Bool). cond b (option_map (dropped_volume all tracks) (volume_of v volumes)) (volume_of v volumes)) (eq-eqb v v refl))
    ∙ choose (volume_of v volumes) there
  where
    choose : (o : Option Volume) → passes (λ u. true) o ≡ true → passes is_gone (option_map (dropped_volume all tracks) o) ≡ true
    choose None there = there
    choose (Some u) there = refl

-- A volume that is dropped, or carried, is kept.
pub kept_of : (test : Volume → Bool) (o : Option Volume) → passes test o ≡ true → passes (λ u. true) o ≡ true
kept_of test None is = is
kept_of test (Some u) is = refl

no_tracks : (v : ℕ) (entries : List WaitingEntry) → list_all (λ e. not (is_of_volume v e)) entries ≡ true → entry_tracks v entries ≡ []
no_tracks v [] none = refl
no_tracks v (e ∷ entries) none =
    let parts = and_parts (not (is_of_volume v e)) (list_all (λ e. not (is_of_volume v e)) entries) none in
    choose (is_of_volume v e) parts.0 (no_tracks v entries parts.1)
  where
    choose : (b : Bool) → not b ≡ true → entry_tracks v entries ≡ [] → map (λ e. e.head.track) (cond b (e ∷ filter (is_of_volume v) entries) (filter (is_of_volume v) entries)) ≡ []
    choose true is rest = absurd (true≢false (sym is))
    choose false is rest = rest

pub none_tracked : (v x : ℕ) (volumes : List Volume) (entries : List WaitingEntry) → list_all (λ e. not (is_of_volume v e)) entries ≡ true → has_in v x (with_volume v (dropped_volume false (entry_tracks v entries)) volumes) ≡ has_in v x volumes
none_tracked v x volumes entries none =
    tested_with (λ u. has_track u.map x) (λ u. has_track u.map x) v v (dropped_volume false (entry_tracks v entries)) (λ u. refl) volumes
    (λ same u found. ap (λ (tracks : List ℕ). has_track (with_tracks u.map tracks) x) (no_tracks v entries none)) (λ apart u. refl)
