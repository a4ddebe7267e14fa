-- Owed tracks, by points and by moments.
use Rattle.std.proofs.Common.{◌≡◌, ◌⊎◌, inl, inr, ℕ, ◌*◌, Bool, true, false, not, cond, ◌||◌, List, [], ◌∷◌, length, Option, Some, None, refl, ap, subst, ◌∙◌, arith}
use Rattle.std.specs.Prelude.{count_by}
use Rattle.std.specs.List.{range_with_len}
use Rattle.std.proofs.lemmas.List.FromFn.{length-range_with_len}
use Rattle.std.proofs.lemmas.List.Sums.{sum_by-cons}
use Rattle.crash_plant.specs.Choices.{Choice, IsChoice}
use Rattle.crash_plant.specs.Moments.{PlantState}
use Rattle.pair_table.specs.declared.row.PairRow.{PairRow}
use Rattle.pair_table.specs.declared.row.PairState.{PairState}
use Rattle.pair_table.specs.declared.row.PairState.TheVariants.{Pending, Copy, Duplex, Suspended}
use Rattle.pair_table.specs.declared.row.SuspendCause.{SuspendCause}
use Rattle.pair_table.specs.Naming.{primary_of}
use Rattle.pair_table.specs.Refusals.{row_of_primary}
use Rattle.pair_table.specs.Rows.{is_suspended}
use Rattle.site_means.specs.declared.means.Means.{Means}
use Rattle.site_means.specs.Images.{shape_of}
use Rattle.tod_stamp.specs.declared.stamp.Stamp.{Stamp}
use Rattle.xrc_edge.specs.declared.limits.TheConstants.{TRACKS_OF_CYLINDER}
use Rattle.consistency.specs.Stages.{ScriptRun, names_of, tracks_of_row}
use Rattle.consistency.specs.Bearing.{ShowsPoint}
use Rattle.consistency.specs.PointLaws.{IsWalked}
use Rattle.consistency.specs.Leads.{Point}
use Rattle.pair_table.specs.States.{is_by_device}
use Rattle.consistency.specs.Owing.{HasBeenDuplex, has_pair_in, is_changed, is_meant_in, owes_in, owes_track, tracks_asked, tracks_owed, was_duplex}
use Rattle.consistency.specs.Ways.{PassedPoint, Way}
use Rattle.passages.proofs.Since.{WasSince, moments_tell, points_tell}

-- What a choice that shows a point means of a pair is what the point has.
meant_is : (run : ScriptRun) (plant : PlantState) (row : PairRow) (state : PairState) (p : Point) (c : Choice) → ShowsPoint run (shape_of plant) p c → is_meant_in row state plant c ≡ has_pair_in row state p.rows
meant_is run plant row state p c shows = ap (λ (o : Option Means). elim o [ None ↦ false | Some means ↦ has_pair_in row state means.table.rows ]) shows.defined ∙ ap (has_pair_in row state) shows.rows

module _ (run : ScriptRun) (plant : PlantState) (row : PairRow) (from to : ℕ) (first : Point) (points : List PassedPoint) (walked : IsWalked run plant from to first points) where
  abbrev was : Point → Bool
  was p = has_pair_in row Duplex p.rows

  abbrev is_now : Point → Bool
  is_now p = has_pair_in row row.state p.rows

  abbrev Since : ℕ → Type 0
  Since t = WasSince Point Way Choice (IsChoice plant) (ShowsPoint run (shape_of plant)) was is_now (is_meant_in row Duplex plant) (is_meant_in row row.state plant) (meant_is run plant row Duplex) (meant_is run plant row row.state) from t

  pub duplex_by_points : was_duplex row first points ≡ true → HasBeenDuplex row plant from to
  duplex_by_points is =
      let since : Since to = points_tell Point Way Choice (IsChoice plant) (ShowsPoint run (shape_of plant)) was is_now (is_meant_in row Duplex plant) (is_meant_in row row.state plant) (meant_is run plant row Duplex) (meant_is run plant row row.state)
      from from to first points (was first) walked.goes begins (omega arith) is in
      record { moment = since.moment; since = since.since; within = since.within; duplex = λ c has. since.so_there since.moment (omega arith) (omega arith) c has; later = λ t from-on up c has. since.later t from-on up c has }
    where
      begins : was first ≡ true → ((was first || is_now first) ≡ true) × Since from
      begins e = (
        ap (λ (b : Bool). b || is_now first) e,
        record {
          moment = from;
          since = omega arith;
          within = omega arith;
          so_there = λ t from-on up c has. meant_is run plant row Duplex first c (walked.begins c (subst (λ (n : ℕ). IsChoice plant n c) (omega (arith, from-on, up)) has)) ∙ e;
          later = λ t from-on up c has. inl (meant_is run plant row Duplex first c (walked.begins c (subst (λ (n : ℕ). IsChoice plant n c) (omega (arith, from-on, up)) has)) ∙ e);
        },
      )

  pub duplex_by_moments : HasBeenDuplex row plant from to → was_duplex row first points ≡ true
  duplex_by_moments been =
      moments_tell Point Way Choice (IsChoice plant) (ShowsPoint run (shape_of plant)) was is_now (is_meant_in row Duplex plant) (is_meant_in row row.state plant) (meant_is run plant row Duplex) (meant_is run plant row row.state)
      from to first points (was first) walked.goes walked.some (λ is. is)
      (record {
        moment = been.moment;
        since = been.since;
        within = been.within;
        so_there = λ t from-on up c has. been.duplex c (subst (λ (n : ℕ). IsChoice plant n c) (omega (arith, from-on, up)) has);
        later = λ t from-on up c has. been.later t from-on up c has;
      })

  -- ---- a suspended row

  module _ (cause : SuspendCause) (since : Stamp) (time track : ℕ) (is : row.state ≡ Suspended cause since) where
    owes_is : owes_track run first points row time track ≡ (is_by_device cause || not (was_duplex row first points) || is_changed run row.control row.volume since.0 time track)
    owes_is = ap (λ (state : PairState). owes_in run (was_duplex row first points) row state time track) is

    pub owes_changes : is_by_device cause ≡ false → HasBeenDuplex row plant from to → owes_track run first points row time track ≡ is_changed run row.control row.volume since.0 time track
    owes_changes other been =
        owes_is
        ∙ ap (λ (b : Bool). b || not (was_duplex row first points) || is_changed run row.control row.volume since.0 time track) other
        ∙ ap (λ (b : Bool). false || not b || is_changed run row.control row.volume since.0 time track) (duplex_by_moments been)

    pub owes_all : (is_by_device cause ≡ true) ⊎ ¬ HasBeenDuplex row plant from to → owes_track run first points row time track ≡ true
    owes_all (inl device) = owes_is ∙ ap (λ (b : Bool). b || not (was_duplex row first points) || is_changed run row.control row.volume since.0 time track) device
    owes_all (inr never) = owes_is ∙ by_was (is_by_device cause) (was_duplex row first points) (λ e. never (duplex_by_points e))
      where
        by_was : (a b : Bool) → (b ≡ true → ⊥) → (a || not b || is_changed run row.control row.volume since.0 time track) ≡ true
        by_was true b none = refl
        by_was false true none = absurd (none refl)
        by_was false false none = refl

-- ---- counts

-- A test that each number passes counts all of them.
count_all : (test : ℕ → Bool) (xs : List ℕ) → ((x : ℕ) → test x ≡ true) → count_by test xs ≡ length xs
count_all test [] each = refl
count_all test (x ∷ xs) each = omega (arith, sum_by-cons (λ y. cond (test y) 1 0) x xs, ap {B = ℕ} (λ (b : Bool). cond b 1 0) (each x), count_all test xs each)

owed_all : (run : ScriptRun) (row : PairRow) (first : Point) (points : List PassedPoint) (time : ℕ) → ((x : ℕ) → owes_track run first points row time x ≡ true) → tracks_owed run first points row time ≡ tracks_of_row row
owed_all run row first points time each = count_all (owes_track run first points row time) (range_with_len 0 (tracks_of_row row)) each ∙ length-range_with_len 0 (tracks_of_row row)

pub others_owe_all : (run : ScriptRun) (row : PairRow) (first : Point) (points : List PassedPoint) (time : ℕ) → is_suspended row.state ≡ false → tracks_owed run first points row time ≡ tracks_of_row row
others_owe_all run row first points time not_suspended = owed_all run row first points time (λ x. by_state row.state x not_suspended)
  where
    by_state : (state : PairState) (x : ℕ) → is_suspended state ≡ false → owes_in run (was_duplex row first points) row state time x ≡ true
    by_state Pending x is = refl
    by_state Copy x is = refl
    by_state Duplex x is = refl
    by_state (Suspended cause since) x is = absurd cc

pub never_duplex_owes_all : (run : ScriptRun) (row : PairRow) (first : Point) (points : List PassedPoint) (time : ℕ) → was_duplex row first points ≡ false → tracks_owed run first points row time ≡ tracks_of_row row
never_duplex_owes_all run row first points time never = owed_all run row first points time (λ x. ap (λ (b : Bool). owes_in run b row row.state time x) never ∙ by_state row.state x)
  where
    by_cause : (a c : Bool) → (a || true || c) ≡ true
    by_cause true c = refl
    by_cause false c = refl

    by_state : (state : PairState) (x : ℕ) → owes_in run false row state time x ≡ true
    by_state Pending x = refl
    by_state Copy x = refl
    by_state Duplex x = refl
    by_state (Suspended cause since) x = by_cause (is_by_device cause) (is_changed run row.control row.volume since.0 time x)

-- A pair that is added again asks for the tracks written since its suspension.
pub asks_for_changes : (run : ScriptRun) (row : PairRow) (cause : SuspendCause) (since : Stamp) (first : Point) (points : List PassedPoint) (rows : List PairRow) (primary : List ℕ) (time : ℕ)
    → row_of_primary primary rows ≡ Some row → row.state ≡ Suspended cause since → is_by_device cause ≡ false → was_duplex row first points ≡ true
    → tracks_asked run first points rows primary time ≡ count_by (is_changed run row.control row.volume since.0 time) (range_with_len 0 (tracks_of_row row))
asks_for_changes run row cause since first points rows primary time there is other been =
    ap (λ (o : Option PairRow). elim o [ Some r ↦ tracks_owed run first points r time | None ↦ elim (primary_of primary (names_of run)) [ Some volume ↦ TRACKS_OF_CYLINDER * volume.cylinders | None ↦ 0 ] ]) there
    ∙ ap (λ (state : PairState). count_by (owes_in run (was_duplex row first points) row state time) (range_with_len 0 (tracks_of_row row))) is
    ∙ ap (λ (b : Bool). count_by (λ x. is_by_device cause || not b || is_changed run row.control row.volume since.0 time x) (range_with_len 0 (tracks_of_row row))) been
    ∙ ap (λ (b : Bool). count_by (λ x. b || not true || is_changed run row.control row.volume since.0 time x) (range_with_len 0 (tracks_of_row row))) other
