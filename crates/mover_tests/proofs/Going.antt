-- A new session may go to the time of its start, and what may go to a limit may go to a later one.
use Rattle.std.proofs.Common.{◌≡◌, inl, ◌+◌, ◌-◌, ◌*◌, ◌<◌, ◌≤◌, ℕ, zero, suc, true, false, nat_lt, ◌&&◌, List, [], ◌∷◌, ◌++◌, drop, length, map, take, replicate, Option, Some, None, Result, Ok, refl, sym, ap, ◌∙◌, subst, arith, true≢false}
use Rattle.std.specs.Prelude.{IfOk, IsSomeAnd, IsTrue, slice_index_or}
use Rattle.std.specs.List.{Contains, list_all}
use Rattle.std.proofs.Math.Seq.{take-append_seam}
use Rattle.std.proofs.lemmas.Bool.{and_parts}
use Rattle.std.proofs.lemmas.List.{length-map, length-replicate}
use Rattle.ckd_track.specs.declared.layout.TheConstants.{WRITES_OF_RUN}
use Rattle.crash_plant.specs.Calls.{SameSite}
use Rattle.crash_plant.specs.Moments.{PlantState}
use Rattle.pair_table.specs.declared.level.Level.{Level}
use Rattle.pair_table.specs.declared.names.NamedDevice.{NamedDevice}
use Rattle.pair_table.specs.Naming.{Naming}
use Rattle.xrc_edge.specs.declared.limits.TheConstants.{MOST_CONTROLS}
use Rattle.tod_stamp.specs.declared.stamp.Stamp.{Stamp}
use Rattle.group_state.specs.Controls.{ControlState, is_reporting, new_control}
use Rattle.group_state.specs.Groups.{Group, control_at, new_controls, new_group}
use Rattle.group_state.specs.Volumes.{passes, volume_of}
use Rattle.group_state.proofs.GroupLaws.{length_new}
use Rattle.group_state.proofs.Kept.{kept_first}
use Rattle.group_state.proofs.SoundLaws.{all_up}
use Rattle.group_state.proofs.Stands.{new_at}
use Rattle.turn_group.specs.Notes.{KnownVolume, known_of, volumes_known}
use Rattle.turn_group.specs.Seats.{new_mover}
use Rattle.sidefile.specs.declared.hand.Halt.TheVariants as halts
use Rattle.xrc_edge.specs.declared.outcome.NoMemory.{NoMemory}
use Rattle.site_store.specs.declared.store_error.StoreError.{StoreError}
use Rattle.site_store.specs.Commands.{LabelsFit, MayDo, label_has_volume}
use Rattle.site_store.specs.Sites.{SiteState, new_site}
use Rattle.site_store.specs.Standing.{FitsPlant, SiteStands, none_excepted}
use Rattle.mover.specs.declared.lane.Lane.{Lane}
use Rattle.mover.specs.Readers.{IsOfHeader, LaneReaderState, no_table}
use Rattle.mover.specs.Lanes.{IsReaderOf, heads_of}
use Rattle.mover.specs.Moves.{IsOfLive, KnowsSite, are_numbers_distinct, known_at_control, row_of_volume}
use Rattle.mover.specs.Rounds.{AreLanesOf}
use Rattle.mover.specs.Epochs.{MayBeginEpoch}
use Rattle.mover.specs.OwedTracks.{is_volume_kept}
use Rattle.mover.proofs.Copying.{kept_within}
use Rattle.xrc_session.specs.Taking.{IsSoundForRows}
use Rattle.mover_tests.specs.Courses.{AreNewLanes, AreOpened, IsNewReader, MayGoTo}
use Rattle.mover_tests.proofs.Homes.{labels_still}

-- ---- new lanes

reader_is : (n records blocks k limit : ℕ) (r : LaneReaderState) → k < n → IsNewReader k r → IsReaderOf (new_group n records blocks) k limit r
reader_is n records blocks k limit r low new =
    let there : control_at (new_group n records blocks) k ≡ new_control k records blocks = new_at n 0 records blocks k (new_control 0 0 0) low ∙ ap (λ (j : ℕ). new_control j records blocks) (omega arith) in
    record {
      control = new.control;
      sized = subst (IsOfHeader (heads_of r.feed)) (sym there) refl;
      floor = λ goes. ap (λ (c : ControlState). c.floor.0) there ∙ sym new.time;
      reporting = λ goes. subst (λ (c : ControlState). IsTrue (is_reporting c.phase)) (sym there) refl;
      broken = λ cause upto halted. absurd (let e : None ≡ Some (halts.Broken cause upto) = sym new.reads_on ∙ halted in cc e);
      within = omega (arith, new.upto);
      goes = λ lacks. absurd (let e : None ≡ Some halts.NoMemory = sym new.reads_on ∙ lacks in cc e);
    }

new_lanes : {S : Type 0} → (n records blocks limit : ℕ) (lanes : List (Lane S)) → length lanes ≡ n → AreNewLanes lanes → AreLanesOf (new_group n records blocks) limit lanes
new_lanes {S} n records blocks limit lanes many new = record {
  many = many ∙ sym (length_new n 0 records blocks);
  each = λ k d low. of k (slice_index_or lanes k d).reader (omega (arith, low, many)) (new k d low);
}
  where
    of : (k : ℕ) (o : Option LaneReaderState) → k < n → IsSomeAnd o (IsNewReader k) → IsSomeAnd o (IsReaderOf (new_group n records blocks) k limit)
    of k None low is = absurd is
    of k (Some r) low is = reader_is n records blocks k limit r low is

-- ---- lanes lent and given back

-- The items after a loan of all are those that came back.
pub taken_back : {A : Type 0} (len : ℕ) (items new : List A) → length new ≡ len → take len (new ++ drop (length new) items) ≡ new
taken_back len items new is = ap (λ (n : ℕ). take n (new ++ drop (length new) items)) (sym is) ∙ take-append_seam new (drop (length new) items)

-- ---- a new site

none_known : (n first records blocks k : ℕ) → known_at_control k (map known_of (new_controls n first records blocks)) ≡ []
none_known zero first records blocks k = refl
none_known (suc n) first records blocks zero = refl
none_known (suc n) first records blocks (suc k) = none_known n (first + 1) records blocks k

-- A site without rows stands to a new state as an epoch asks.
begins_new : (tells : Type 0) (n records blocks volumes : ℕ) (session : List ℕ) (level : Level) (at : Stamp) (site : SiteState) (plant : PlantState) → site ≡ new_site n volumes session level at → FitsPlant site plant → (tells → SiteStands none_excepted site plant)
    → MayBeginEpoch tells at.0 (new_group n records blocks) site plant
begins_new tells n records blocks volumes session level at site plant is fits stands = record {
  rests = record {
    fast = record { fits = fits; stands = λ told. (none_excepted, stands told) };
    level = ap (λ (s : SiteState). s.is_ahead) is;
    idle = ap (λ (s : SiteState). s.waiting) is;
  };
  marked = ap (λ (s : SiteState). s.since) is;
  knows = subst (KnowsSite at.0 (new_mover no_table.table group (length group.controls + 1))) (sym is) (record {
    rows = record {
      controls = λ r has. absurd (omega (arith, has.1));
      distinct = λ k. ap are_numbers_distinct (none_known n 0 records blocks k);
      live = live;
      carried = λ r has. absurd (omega (arith, has.1));
    };
    controls = omega (arith, length-map group.controls known_of, length_new n 0 records blocks);
    in_step = record { up = omega arith; same = inl refl };
    below = omega arith;
    told = refl;
  });
}
  where
    group : Group
    group = new_group n records blocks

    live : (k : ℕ) (u : KnownVolume) → Contains (known_at_control k (volumes_known (new_group n records blocks))) u → IsTrue u.carried → IsSomeAnd (row_of_volume k u.number []) (IsOfLive k u)
    live k u has carried = absurd (let none : length (known_at_control k (volumes_known (new_group n records blocks))) ≡ 0 = ap (λ (known : List KnownVolume). length known) (none_known n 0 records blocks k) in omega (arith, has.1, none))

-- It keeps what it does for no rows.
none_kept : (n records blocks k v : ℕ) → is_volume_kept v (control_at (new_group n records blocks) k) ≡ true → ⊥
none_kept n records blocks k v kept =
    let low : k < n = omega (arith, kept_within (new_group n records blocks) k v kept, length_new n 0 records blocks) in
    true≢false (sym kept ∙ ap (λ (c : ControlState). passes (λ u. true) (volume_of v c.volumes)) (new_at n 0 records blocks k (new_control 0 0 0) low))

kept_new : (n records blocks : ℕ) → 1 ≤ n → n ≤ MOST_CONTROLS → records ≤ WRITES_OF_RUN → IsSoundForRows (new_group n records blocks) []
kept_new n records blocks some few most = record {
  keeps = kept_first n records blocks some few most;
  apart = refl;
  each = λ r among. absurd (omega (arith, among.1));
  rowed = λ k v kept. absurd (none_kept n records blocks k v kept);
}

-- A command may come to it.
labels_within : (plant : PlantState) (volumes : ℕ) (labels : List NamedDevice) → volumes ≡ plant.volumes → list_all (label_has_volume plant) labels ≡ true → list_all (λ l. nat_lt l.device (length (replicate volumes false))) labels ≡ true
labels_within plant volumes labels same fit =
    all_up (label_has_volume plant) (λ l. nat_lt l.device (length (replicate volumes false))) labels
    (λ l is. ap (nat_lt l.device) (length-replicate volumes false ∙ same) ∙ (and_parts (nat_lt l.device plant.volumes) _ is).0) fit

may_new : (n volumes : ℕ) (session : List ℕ) (level : Level) (at : Stamp) (names : Naming) (site : SiteState) (plant : PlantState) → site ≡ new_site n volumes session level at → volumes ≡ plant.volumes → LabelsFit plant names → MayDo names site
may_new n volumes session level at names site plant is same fit =
    subst (MayDo names) (sym is) (record { command = record { named = refl; below = refl }; started = refl; labels = labels_within plant volumes names.labels same fit; rows = refl })

-- ---- a session that begins

-- what holds of what was made
made_so : {A E : Type 0} → (P : A → Type 0) (made : Result A E) (x : A) → made ≡ Ok x → IfOk made P → P x
made_so P made x is so = subst (λ (r : Result _ _). IfOk r P) is so

module _ {S : Type 0} (tells : Type 0) (n records blocks : ℕ) (session : List ℕ) (level : Level) (at : Stamp) (names : Naming) (lanes : List (Lane S)) (old plant : PlantState) (same : SameSite old plant) (labels : LabelsFit old names)
    (many : length lanes ≡ n) (some : 1 ≤ n) (few : n ≤ MOST_CONTROLS) (most : records ≤ WRITES_OF_RUN) (opened : AreOpened lanes names.primaries) where
  goes_new : (site : SiteState) → site ≡ new_site n old.volumes session level at → FitsPlant site plant → (tells → SiteStands none_excepted site plant) → MayGoTo tells at.0 names lanes (new_group n records blocks) site plant
  goes_new site is fits stands = record {
    are = new_lanes n records blocks at.0 lanes many opened.are_new;
    may = begins_new tells n records blocks old.volumes session level at site plant is fits stands;
    kept = subst (λ (s : SiteState). IsSoundForRows (new_group n records blocks) s.told) (sym is) (kept_new n records blocks some few most);
    commands = record {
      are_named = opened.are_named;
      may = may_new n old.volumes session level at names site plant is (sym same.volumes) fit;
      labels = fit;
      same = ap (λ (s : SiteState). s.told) is ∙ sym (ap (λ (s : SiteState). s.table.rows) is);
    };
  }
    where
      fit : LabelsFit plant names
      fit = labels_still names old plant same labels

  pub may_begin : (shared : Result Group NoMemory) (group : Group) (made : Result SiteState StoreError) (site : SiteState) → shared ≡ Ok group → made ≡ Ok site → IfOk shared (λ s. s ≡ new_group n records blocks)
      → IfOk made (λ s. s ≡ new_site n old.volumes session level at) → IfOk made (λ s. FitsPlant s plant) → (tells → IfOk made (λ s. SiteStands none_excepted s plant)) → MayGoTo tells at.0 names lanes group site plant
  may_begin shared group made site has is first ok fits stands =
      subst (λ (s : Group). MayGoTo tells at.0 names lanes s site plant) (sym (made_so (λ s. s ≡ new_group n records blocks) shared group has first))
      (goes_new site (made_so (λ s. s ≡ new_site n old.volumes session level at) made site is ok) (made_so (λ s. FitsPlant s plant) made site is fits) (λ told. made_so (λ s. SiteStands none_excepted s plant) made site is (stands told)))
