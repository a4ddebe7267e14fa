-- How many tracks a command asks for: those in the map of the row that it resumes, or all of a new row.
use Rattle.std.proofs.Common.{◌≡◌, ◌⊎◌, inl, inr, ℕ, suc, ◌+◌, ◌*◌, ◌<◌, Bool, true, false, cond, nat_lt, List, [], ◌∷◌, ◌++◌, length, Option, Some, None, Ok, refl, sym, ap, subst, ◌∙◌, arith, true≢false}
use Rattle.std.specs.Prelude.{IfSome, IsSomeAnd, IsTrue, bytes_eq, count_by, find}
use Rattle.std.specs.List.{list_any, range_with_len}
use Rattle.std.proofs.lemmas.Bool.{eqb-true, or_left, or_right}
use Rattle.crash_plant.specs.Moments.{PlantState}
use Rattle.change_map.specs.Sets.{has_track, size}
use Rattle.pair_table.specs.declared.command.Change.{Change}
use Rattle.pair_table.specs.declared.command.Change.TheVariants.{Added, Resumed}
use Rattle.pair_table.specs.declared.command.Command.{Command}
use Rattle.pair_table.specs.declared.command.Command.TheVariants.{Start, AddPair, DelPair, Suspend, Query, End}
use Rattle.pair_table.specs.declared.command.Refusal.{Refusal}
use Rattle.pair_table.specs.declared.command.Refusal.TheVariants.{ControlBroken, SecondaryInUse, TooSmall}
use Rattle.pair_table.specs.declared.level.Level.{Level}
use Rattle.xrc_edge.specs.declared.limits.TheConstants.{TRACKS_OF_CYLINDER}
use Rattle.pair_table.specs.declared.names.NamedDevice.{NamedDevice}
use Rattle.pair_table.specs.declared.names.NamedVolume.{NamedVolume}
use Rattle.pair_table.specs.declared.row.PairRow.{PairRow}
use Rattle.pair_table.specs.Commands.{add_to, added, change_of, new_row, new_row_for, rows_after}
use Rattle.pair_table.specs.Naming.{Naming, is_broken, labelled_device, primary_of}
use Rattle.pair_table.specs.Refusals.{is_of_primary, refuses_command, refuses_found, refuses_label, refuses_new, refuses_primary, row_of_primary}
use Rattle.pair_table.specs.Rows.{is_suspended}
use Rattle.pair_table.specs.Tables.{in_state, is_of, row_of}
use Rattle.pair_table.proofs.FindLaws.{found_passes}
use Rattle.group_state.specs.Controls.{counts}
use Rattle.group_state.specs.Groups.{Group, control_at}
use Rattle.group_state.specs.declared.volume.Volume.{Volume}
use Rattle.group_state.specs.Volumes.{owed, owed_in, passes, volume_of}
use Rattle.group_state.proofs.SoundLaws.{count_cons}
use Rattle.record_rows.specs.Records.{rows_with_hits}
use Rattle.record_rows.specs.ToldRows.{InPlaces}
use Rattle.fed_logs.specs.Logs.{is_of_size}
use Rattle.site_store.specs.Sites.{SiteState}
use Rattle.consistency.specs.Answering.{tracks_of_command}
use Rattle.consistency.specs.Stages.{ScriptRun, names_of, tracks_of_row}
use Rattle.consistency.specs.Leads.{Point}
use Rattle.consistency.specs.Owing.{owes_track, tracks_asked, tracks_owed}
use Rattle.consistency.specs.Replying.{said_tracks}
use Rattle.consistency.specs.Ways.{PassedPoint}
use Rattle.mover.specs.Epochs.{IsSamePair}
use Rattle.mover.proofs.Pairs.{Among, among_cases, contains_of, found_of_device}
use Rattle.mover.proofs.Pairs.Among.{Here, Later}
use Rattle.xrc_session.specs.LinePauses.{GoesOnFrom}
use Rattle.xrc_session.specs.Taking.{IsSoundForRows, MayTake, tracks_of_added, tracks_owed_to, tracks_to_copy}
use Rattle.xrc_session.proofs.AnswerSites.{hits_in_places}
use Rattle.xrc_session.proofs.CarriedRows.{among_either}
use Rattle.xrc_session.proofs.Walking.{found_in}

-- ---- the size of a map

-- A set has as many tracks as pass a test that tells of each whether the set has it.
count_set : (set : List Bool) (test : ℕ → Bool) (first : ℕ) → ((x : ℕ) → x < length set → has_track set x ≡ test (first + x)) → size set ≡ count_by test (range_with_len first (length set))
count_set [] test first same = refl
count_set (b ∷ set) test first same =
    let rest = count_set set test (first + 1) later in
    count_cons (λ c. c) b set
    ∙ (λ i. cond (here i) 1 0 + rest i)
    ∙ sym (count_cons test first (range_with_len (first + 1) (length set)))
  where
    here : b ≡ test first
    here = let at : first + 0 ≡ first = omega arith in same 0 (omega arith) ∙ ap test at

    later : (x : ℕ) → x < length set → has_track set x ≡ test ((first + 1) + x)
    later x low = let at : first + suc x ≡ (first + 1) + x = omega arith in same (suc x) (omega (arith, low)) ∙ ap test at

size_by : (test : ℕ → Bool) (n : ℕ) (o : Option Volume) → passes (is_of_size n) o ≡ true → ((x : ℕ) → x < n → passes (λ u. has_track u.map x) o ≡ test x) → owed_in o ≡ count_by test (range_with_len 0 n)
size_by test n None sized same = absurd (true≢false (sym sized))
size_by test n (Some u) sized same =
    let many : length u.map ≡ n = eqb-true (length u.map) n sized in
    count_set u.map test 0 (λ x low. let at : x ≡ 0 + x = omega arith in same x (omega (arith, low, many)) ∙ ap test at) ∙ ap (λ (k : ℕ). count_by test (range_with_len 0 k)) many

-- ---- a row after hits

-- A row in the place of another has its pair.
row_before : (base next : List PairRow) → InPlaces IsSamePair base next → (z : PairRow) → Among z next → (x : PairRow) × Among x base × (z ≡ in_state z.state x)
row_before [] [] same z there = absurd (among_cases z [] there)
row_before [] (s ∷ next) same z there = absurd same
row_before (r ∷ base) [] same z there = absurd same
row_before (r ∷ base) (s ∷ next) same z there = elim (among_cases z (s ∷ next) there) [
  | inl is ↦ (r, Here base, subst (λ (x : PairRow). x ≡ in_state x.state r) is same.0)
  | inr later ↦ let found = row_before base next same.1 z later in (found.0, Later r base found.1, found.2)
]

-- The row of a device that none of the rows had, after one that was added for it and hits, has the added row's tracks.
added_tracks : (level : Level) (cut : ℕ) (failed : List Bool) (rows after : List PairRow) (new : PairRow) → list_any (is_of new.device) rows ≡ false → after ≡ rows_with_hits level cut failed (rows ++ new ∷ []) → (o : Option PairRow) → row_of new.device after ≡ o
    → (A : PairRow → Type 0) → IsSomeAnd o A → tracks_of_added o ≡ tracks_of_row new
added_tracks level cut failed rows after new free is None found A some = absurd some
added_tracks level cut failed rows after new free is (Some z) found A some =
    let before = row_before (rows ++ new ∷ []) (rows_with_hits level cut failed (rows ++ new ∷ [])) (hits_in_places level cut failed (rows ++ new ∷ [])) z (subst (Among z) is (found_in (is_of new.device) after z found)) in
    by_place before.0 before.2 (among_either before.0 new rows before.1)
  where
    on_device : is_of new.device z ≡ true
    on_device = found_passes (is_of new.device) after z found

    among_test : (x : PairRow) (all : List PairRow) → Among x all → is_of new.device x ≡ true → list_any (is_of new.device) all ≡ true
    among_test x _ (Here all) is = or_left (is_of new.device x) (list_any (is_of new.device) all) is
    among_test x _ (Later s all there) is = or_right (is_of new.device s) (list_any (is_of new.device) all) (among_test x all there is)

    by_place : (x : PairRow) → z ≡ in_state z.state x → Among x rows ⊎ (new ≡ x) → tracks_of_row z ≡ tracks_of_row new
    by_place x same (inl there) = absurd (true≢false (sym (among_test x rows there (ap (is_of new.device) (sym same) ∙ on_device)) ∙ free))
    by_place x same (inr one) = ap tracks_of_row same ∙ ap tracks_of_row (sym one)

-- ---- what a command asks for

module _ (run : ScriptRun) (names : Naming) (first : Point) (points : List PassedPoint) (was : SiteState) (old : PlantState) (g : Group) (after : List PairRow) (time : ℕ) (on : GoesOnFrom run first points was old g) (named : names.primaries ≡ (names_of run).primaries)
    (at : was.time ≡ time) (kept : IsSoundForRows g was.told) (level : Level) (cut : ℕ) (failed : List Bool) where
  resumed_tracks : (r : PairRow) → Among r was.told → is_suspended r.state ≡ true → counts (control_at g r.control).phase ≡ true → owed r.volume (control_at g r.control).volumes ≡ tracks_owed run first points r time
  resumed_tracks r among suspended counted =
      let has = contains_of r was.told among in
      size_by (owes_track run first points r time) (tracks_of_row r) (volume_of r.volume (control_at g r.control).volumes) (kept.each r has).own.sized
      (λ x low. on.maps r has suspended counted x low ∙ ap (λ (t : ℕ). owes_track run first points r t x) at)

  module _ (primary secondary : List ℕ) (group : Option (List ℕ)) (own : refuses_command names was.told (AddPair primary secondary group) ≡ None) where
    -- A primary without a row is named, and the secondary's device is in no row.
    abbrev Labelled : Option NamedVolume → Option NamedDevice → Type 0
    Labelled v l = (w : NamedVolume) × (d : NamedDevice) × (v ≡ Some w) × (l ≡ Some d) × (list_any (is_of d.device) was.told ≡ false)

    labelled : row_of_primary primary was.told ≡ None → Labelled (primary_of primary names) (labelled_device secondary names)
    labelled none = by_volume (primary_of primary names) own
      where
        by_free : (b c : Bool) (x y : Refusal) → (let o : Option Refusal = cond b (Some x) (cond c (Some y) None) in o ≡ None) → b ≡ false
        by_free true c x y is = absurd cc
        by_free false c x y is = refl

        by_label : (w : NamedVolume) (l : Option NamedDevice) → refuses_label primary secondary was.told w l ≡ None → (d : NamedDevice) × (l ≡ Some d) × (list_any (is_of d.device) was.told ≡ false)
        by_label w None is = absurd cc
        by_label w (Some d) is =
            let free : refuses_new was.told w d ≡ None = ap (refuses_found secondary was.told w d) (sym none) ∙ is in
            (d, refl, by_free (list_any (is_of d.device) was.told) (nat_lt d.cylinders w.cylinders) SecondaryInUse (TooSmall (TRACKS_OF_CYLINDER * w.cylinders)) free)

        by_broken : (w : NamedVolume) (b : Bool) → (let o : Option Refusal = cond b (Some (ControlBroken w.control)) (refuses_label primary secondary was.told w (labelled_device secondary names)) in o ≡ None)
            → (d : NamedDevice) × (labelled_device secondary names ≡ Some d) × (list_any (is_of d.device) was.told ≡ false)
        by_broken w true is = absurd cc
        by_broken w false is = by_label w (labelled_device secondary names) is

        by_volume : (v : Option NamedVolume) → refuses_primary primary secondary names was.told v ≡ None → Labelled v (labelled_device secondary names)
        by_volume None is = absurd cc
        by_volume (Some w) is = let found = by_broken w (is_broken w.control names) is in (w, found.0, refl, found.1, found.2)

    -- A command asks for the tracks that its row owes, or for all of a new one.
    by_row : (o : Option PairRow) → row_of_primary primary was.told ≡ o → (change : Change) → added o (labelled_device secondary names) ≡ change → MayTake g change was.told after
        → after ≡ rows_with_hits level cut failed (add_to group was.told o (new_row_for secondary group (primary_of primary names) (labelled_device secondary names))) → tracks_asked run first points was.told primary time ≡ tracks_to_copy change g was.told after
    by_row (Some r) is change made take rows =
        rw (is, tracks_asked)
        (sym (resumed_tracks r among begun.0 begun.1) ∙ ap (tracks_owed_to g) (sym found) ∙ ap (λ (c : Change). tracks_to_copy c g was.told after) made)
      where
        among : Among r was.told
        among = found_in (is_of_primary primary) was.told r is

        found : row_of r.device was.told ≡ Some r
        found = found_of_device r was.told kept.apart among

        resumed : MayTake g (Resumed r.device) was.told after
        resumed = subst (λ (c : Change). MayTake g c was.told after) (sym made) take

        begun : IsTrue (is_suspended r.state) × IsTrue (counts (control_at g r.control).phase)
        begun = subst (λ (o : Option PairRow). IfSome o (λ s. IsTrue (is_suspended s.state) × IsTrue (counts (control_at g s.control).phase))) found resumed.begun
    by_row None is change made take rows =
        rw (is, tracks_asked)
        (ap (λ (o : Option NamedVolume). all_of o) (ap (λ (vs : List NamedVolume). find (λ v. bytes_eq v.serial primary) vs) (sym named) ∙ own_label.2) ∙ sym tracks ∙ ap (λ (c : Change). tracks_to_copy c g was.told after) change_is)
      where
        own_label : Labelled (primary_of primary names) (labelled_device secondary names)
        own_label = labelled is

        all_of : Option NamedVolume → ℕ
        all_of o = elim o [ Some volume ↦ TRACKS_OF_CYLINDER * volume.cylinders | None ↦ 0 ]

        change_is : Added own_label.1.device ≡ change
        change_is = ap (added None) (sym own_label.3) ∙ made

        begun : IsSomeAnd (row_of own_label.1.device after) (λ r. (r.control < length g.controls) × IsTrue (counts (control_at g r.control).phase))
        begun = (subst (λ (c : Change). MayTake g c was.told after) (sym change_is) take).begun

        rows_are : after ≡ rows_with_hits level cut failed (was.told ++ new_row secondary group own_label.0 own_label.1 ∷ [])
        rows_are = rows ∙ (λ i. rows_with_hits level cut failed (add_to group was.told None (new_row_for secondary group (own_label.2 i) (own_label.3 i))))

        tracks : tracks_of_added (row_of own_label.1.device after) ≡ tracks_of_row (new_row secondary group own_label.0 own_label.1)
        tracks = added_tracks level cut failed was.told after (new_row secondary group own_label.0 own_label.1) own_label.4 rows_are (row_of own_label.1.device after) refl (λ r. (r.control < length g.controls) × IsTrue (counts (control_at g r.control).phase)) begun

    add_asks : (change : Change) → change_of names (AddPair primary secondary group) was.told ≡ change → MayTake g change was.told after → after ≡ rows_with_hits level cut failed (rows_after names time (AddPair primary secondary group) was.told)
        → tracks_asked run first points was.told primary time ≡ tracks_to_copy change g was.told after
    add_asks change made take rows = by_row (row_of_primary primary was.told) refl change made take rows

  -- So its reply says.
  pub tracks_are_owed : (command : Command) (change : Change) → refuses_command names was.told command ≡ None → change_of names command was.told ≡ change → MayTake g change was.told after → after ≡ rows_with_hits level cut failed (rows_after names time command was.told)
      → said_tracks command (Ok change) (tracks_of_command run first points was.told time command) ≡ said_tracks command (Ok change) (tracks_to_copy change g was.told after)
  tracks_are_owed (Start start_level) change own made take rows = refl
  tracks_are_owed (AddPair primary secondary group) change own made take rows = ap (λ (n : ℕ). let o : Option ℕ = Some n in o) (add_asks primary secondary group own change made take rows)
  tracks_are_owed (DelPair choice) change own made take rows = refl
  tracks_are_owed (Suspend choice) change own made take rows = refl
  tracks_are_owed Query change own made take rows = refl
  tracks_are_owed End change own made take rows = refl
