-- What a choice shows after deeds without entries.
use Rattle.std.proofs.Common.{◌≡◌, inl, inr, ℕ, zero, suc, ◌<◌, ◌≤◌, Bool, true, false, not, ◌&&◌, ◌||◌, List, [], ◌∷◌, length, map, take, Option, Some, None, refl, sym, ap, subst, ◌∙◌, arith, true≢false}
use Rattle.std.specs.Prelude.{IfSome}
use Rattle.std.specs.Option.{option_map}
use Rattle.std.specs.List.{All, Contains, list_any}
use Rattle.std.proofs.lemmas.Bool.{cases_lt}
use Rattle.std.proofs.lemmas.List.{take_all}
use Rattle.std.proofs.lemmas.Option.{get_or_from_slice_get, slice_get_within}
use Rattle.std.proofs.lemmas.List.Elements.{All-cons, All-nil}
use Rattle.crash_plant.specs.Calls.{SameSite}
use Rattle.crash_plant.specs.Choices.{Choice, IsChoice}
use Rattle.crash_plant.specs.Moments.{PlantState}
use Rattle.pair_table.specs.declared.row.PairRow.{PairRow}
use Rattle.pair_table.specs.declared.row.PairState.TheVariants.{Duplex}
use Rattle.passages.specs.Telling.{told_by}
use Rattle.passages.proofs.Telling.{told_otherwise}
use Rattle.primary_ctl.specs.Primaries.{primary}
use Rattle.record_rows.specs.Deeds.{Deed, entries_by_deed, rows_after_deeds, rows_by_deed, time_meant_after}
use Rattle.record_rows.specs.Deeds.Deed.{Logged, Changed, Marked}
use Rattle.pair_table.specs.States.{is_device_suspended}
use Rattle.site_means.specs.declared.means.Means.{Means}
use Rattle.site_means.specs.Images.{Shape, shape_of}
use Rattle.site_means.specs.Sight.{content_of, means_of}
use Rattle.site_means.proofs.Goes.{shape_same}
use Rattle.site_store.specs.Deeds.{means_after, means_by_deed}
use Rattle.site_store.specs.DoneDeeds.{GoesThroughDeeds, PassedDeed, points_of, with_next}
use Rattle.site_store.specs.Exceptions.{Exceptions, excepted_after, excepted_by_deed, is_kept, is_whole_on}
use Rattle.site_store.specs.Seeing.{SeesAfter}
use Rattle.site_store.proofs.Contents.{only_entries}
use Rattle.site_store.proofs.Points.{are_first}
use Rattle.site_store.proofs.Turning.{means_are}
use Rattle.consistency.specs.Stages.{HoldsPrimaries, tracks_of_row}
use Rattle.fed_logs.specs.Moves.{HasRowIn, IsDuplex}
use Rattle.mover.specs.OwedTracks.{held_by_choice}
use Rattle.mover.proofs.Bearing.{below_among}
use Rattle.mover.proofs.Excepting.{none_excepted, unfailed_is_kept}
use Rattle.mover.proofs.Held.{held_is}
use Rattle.mover.proofs.Pairs.{among_of}
use Rattle.xrc_session.specs.EpochPauses.{Between, StandsBetween}
use Rattle.consistency.specs.Bearing.{GoesThroughPoints, ShowsPoint}
use Rattle.consistency.specs.Leads.{Point}
use Rattle.consistency.specs.Ways.{Way}
use Rattle.xrc_session.specs.Resting.{ArePointsAfter, DeedsPassPoints, DeedsShowPoints, DoneDeedsPassAll, DoneDeedsShowLast, IsPointAfter, KeepTracks, ShowsBefore, flag_after}

-- The last mark's flag is meant.
flag_is : (deeds : List Deed) (means : Means) → (means_after deeds means).ended ≡ flag_after deeds means.ended
flag_is [] means = refl
flag_is (Logged cut entries rows ∷ deeds) means = flag_is deeds (means_by_deed means (Logged cut entries rows))
flag_is (Changed time rows ∷ deeds) means = flag_is deeds (means_by_deed means (Changed time rows))
flag_is (Marked spot ended rows ∷ deeds) means = flag_is deeds (means_by_deed means (Marked spot ended rows))

-- The time stays.
time_stays : (time : ℕ) (rows : List PairRow) (deeds : List Deed) → KeepTracks time rows deeds → time_meant_after deeds time ≡ time
time_stays time rows [] keep = refl
time_stays time rows (deed ∷ deeds) keep = ap (time_meant_after deeds) keep.0.at ∙ time_stays time (rows_by_deed deed) deeds keep.1

no_entries : (time : ℕ) (rows : List PairRow) (deeds : List Deed) → KeepTracks time rows deeds → All (λ deed. entries_by_deed deed ≡ []) deeds
no_entries time rows [] keep = All-nil (λ (deed : Deed). entries_by_deed deed ≡ [])
no_entries time rows (deed ∷ deeds) keep = All-cons (λ (other : Deed). entries_by_deed other ≡ []) deed deeds keep.0.entries (no_entries time (rows_by_deed deed) deeds keep.1)

-- A row that is duplex after the deeds was duplex before, and of its tracks none is excepted that wasn't.
duplex_there : (time : ℕ) (rows : List PairRow) (deeds : List Deed) → KeepTracks time rows deeds → (r : PairRow) → Contains (rows_after_deeds deeds rows) r → r.state ≡ Duplex → Contains rows r
duplex_there time rows [] keep r there duplex = there
duplex_there time rows (deed ∷ deeds) keep r there duplex = keep.0.duplex r (duplex_there time (rows_by_deed deed) deeds keep.1 r there duplex) duplex

free_there : (time : ℕ) (rows : List PairRow) (deeds : List Deed) → KeepTracks time rows deeds → (r : PairRow) → Contains (rows_after_deeds deeds rows) r → r.state ≡ Duplex → (excepted : Exceptions) (x : ℕ) → excepted r.device x ≡ false
    → excepted_after rows deeds excepted r.device x ≡ false
free_there time rows [] keep r there duplex excepted x free = free
free_there time rows (deed ∷ deeds) keep r there duplex excepted x free =
    free_there time (rows_by_deed deed) deeds keep.1 r there duplex (excepted_by_deed rows deed excepted) x
    (by_flags (is_kept r.device (rows_by_deed deed)) (excepted r.device x) (not (list_any (is_whole_on rows r.device x) (entries_by_deed deed))) kept free)
  where
    kept : is_kept r.device (rows_by_deed deed) ≡ true
    kept = unfailed_is_kept r.control r.volume (rows_by_deed deed) (record { row = r; among = duplex_there time (rows_by_deed deed) deeds keep.1 r there duplex; control = refl; volume = refl; state = ap is_device_suspended duplex })

    by_flags : (kept was other : Bool) → kept ≡ true → was ≡ false → (not kept || (was && other)) ≡ false
    by_flags true false other is none = refl
    by_flags true true other is none = absurd (true≢false none)
    by_flags false was other is none = absurd (true≢false (sym is))

module _ (start : PlantState) (b : Between) (rows : List PairRow) (deeds : List Deed) (h : ShowsBefore start b rows deeds) (q : Point) (is : IsPointAfter deeds b.point q) (c : Choice) (sees : SeesAfter start b.excepted rows deeds c) where
  st : StandsBetween start b
  st = h.stands

  was : ShowsPoint b.run (shape_of start) b.point sees.from
  was = h.shows sees.from sees.was

  -- the rows after the deeds
  rows_are : rows_after_deeds deeds rows ≡ q.rows
  rows_are = ap (rows_after_deeds deeds) h.same ∙ sym is.rows

  time_is : q.time ≡ b.point.time
  time_is = is.time ∙ time_stays b.point.time rows deeds h.keep

  -- A duplex row's device holds the primary's track.
  holds : (r : PairRow) → Contains q.rows r → r.state ≡ Duplex → (x : ℕ) → x < tracks_of_row r → content_of start c r.device x ≡ Some (primary b.run.traces b.point.time r.control r.volume x)
  holds r has duplex x low =
      let after = subst (λ (all : List PairRow). Contains all r) (sym rows_are) has in
      let before = subst (λ (all : List PairRow). Contains all r) h.same (duplex_there b.point.time rows deeds h.keep r after duplex) in
      let own : HasRowIn IsDuplex r.control r.volume b.point.rows = record { row = r; among = before; control = refl; volume = refl; state = duplex } in
      let low_there : x < b.size r.control r.volume = (let m = st.rows.sized r before in omega (arith, m, low)) in
      let none = none_excepted b.size b.run.traces (held_by_choice start sees.from b.point.rows) b.excepted b.group b.point.time b.point.rows b.done (st.rows.holds sees.from sees.was) st.rows.owed r.control r.volume own x low_there in
      let among = among_of b.point.rows r before in
      let seen = sees.content r.device x (below_among start.volumes r b.point.rows st.rows.below among) (free_there b.point.time rows deeds h.keep r after duplex b.excepted x none) in
      seen.2
      ∙ only_entries r.device x rows deeds (content_of start seen.0 r.device x) (no_entries b.point.time rows deeds h.keep)
      ∙ sym (held_is r b.point.rows st.rows.apart among x start seen.0)
      ∙ (st.rows.holds seen.0 seen.1).truth r.control r.volume own x low_there

  in_place : HoldsPrimaries b.run (shape_of start) c q.rows q.time
  in_place place r there duplex track low =
      holds r (place, slice_get_within q.rows place r there, get_or_from_slice_get q.rows place r r there) duplex track low ∙ ap (λ (t : ℕ). Some (primary b.run.traces t r.control r.volume track)) (sym time_is)

  shown : ShowsPoint b.run (shape_of start) q c
  shown =
      let are = means_are deeds was.means in
      let meant : means_of start c ≡ Some (means_after deeds was.means) = sees.means ∙ ap (option_map (means_after deeds)) was.defined in
      record {
        means = means_after deeds was.means;
        defined = meant;
        session = are.session ∙ was.session;
        level = are.level ∙ was.level;
        at = are.time ∙ ap (time_meant_after deeds) was.at ∙ sym is.time;
        rows = are.rows ∙ ap (rows_after_deeds deeds) was.rows ∙ sym is.rows;
        ended = flag_is deeds was.means ∙ ap (flag_after deeds) was.ended ∙ sym is.ended;
        tracks = in_place;
      }

pub deeds_show_points : (start : PlantState) → DeedsShowPoints start
deeds_show_points start b rows deeds h q is c sees = shown start b rows deeds h q is c sees

-- ---- the points that are passed

keep_first : (n time : ℕ) (rows : List PairRow) (deeds : List Deed) → KeepTracks time rows deeds → KeepTracks time rows (take n deeds)
keep_first zero time rows deeds keep = tt
keep_first (suc n) time rows [] keep = tt
keep_first (suc n) time rows (deed ∷ deeds) keep = (keep.0, keep_first n time (rows_by_deed deed) deeds keep.1)

-- Some first ones of the deeds.
abbrev pub IsFirst : (deeds front : List Deed) → Type 0
IsFirst deeds front = (n : ℕ) × (n ≤ length deeds) × (front ≡ take n deeds)

pub first_ones : (n : ℕ) (deeds : List Deed) → IsFirst deeds (take n deeds)
first_ones n deeds = elim (cases_lt n (length deeds)) [
  | inl less ↦ (n, omega (arith, less), refl)
  | inr past ↦ (length deeds, omega arith, take_all n deeds past ∙ sym (take_all (length deeds) deeds (omega arith)))
]

module _ (old new : PlantState) (b : Between) (rows : List PairRow) (deeds : List Deed) (h : ShowsBefore old b rows deeds) (site : SameSite old new) where
  abbrev Shows : Point → Choice → Type 0
  Shows q c = ShowsPoint b.run (shape_of new) q c

  tell : (n : ℕ) (q : Point) → IsPointAfter (take n deeds) b.point q → (c : Choice) → SeesAfter old b.excepted rows (take n deeds) c → Shows q c
  tell n q is c sees =
      subst (λ (shape : Shape). ShowsPoint b.run shape q c) (sym (shape_same old new site))
      (deeds_show_points old b rows (take n deeds) (record { stands = h.stands; shows = h.shows; same = h.same; keep = keep_first n b.point.time rows deeds h.keep }) q is c sees)

  module _ (told : List Deed → Point) (way : PassedDeed → Way) (are : ArePointsAfter deeds b.point told) where
    pub step : (front : List Deed) (c : Choice) → IsFirst deeds front → SeesAfter old b.excepted rows front c → Shows (told front) c
    step front c first sees =
        subst (λ (all : List Deed). Shows (told all) c) (sym first.2)
        (tell first.0 (told (take first.0 deeds)) (are.after first.0 first.1) c (subst (λ (all : List Deed). SeesAfter old b.excepted rows all c) first.2 sees))

    goes : (moments : List ℕ) (next : Option (List Deed)) → IfSome next (IsFirst deeds) → GoesThroughDeeds old new b.excepted rows moments deeds next
        → GoesThroughPoints b.run new old.clock b.point (map (told_by told way) (points_of [] moments deeds)) new.clock (option_map told next)
    goes moments next first through =
        subst (λ (p : Point). GoesThroughPoints b.run new old.clock p (map (told_by told way) (points_of [] moments deeds)) new.clock (option_map told next)) are.first
        (told_otherwise (List Deed) Deed Point Way Choice (IsChoice new) (SeesAfter old b.excepted rows) (IsFirst deeds) Shows told way step old.clock new.clock [] (points_of [] moments deeds) next (0, omega arith, refl) (are_first [] moments deeds) first through)

pub deeds_pass_points : (old new : PlantState) → DeedsPassPoints old new
deeds_pass_points old new b rows deeds h told way are up begins =
    goes old new b rows deeds h begins.site told way are begins.moments (Some (with_next (length begins.moments) deeds)) (first_ones (suc (length begins.moments)) deeds) (begins.goes up)

pub done_deeds_pass_all : (old new : PlantState) → DoneDeedsPassAll old new
done_deeds_pass_all old new b rows deeds h told way are up does = goes old new b rows deeds h does.site told way are does.moments None tt (does.goes up)

pub done_deeds_show_last : (old new : PlantState) → DoneDeedsShowLast old new
done_deeds_show_last old new b rows deeds h does q is c has =
    let all = take_all (length deeds) deeds (omega arith) in
    tell old new b rows deeds h does.site (length deeds) q (subst (λ (ds : List Deed). IsPointAfter ds b.point q) (sym all) is) c (subst (λ (ds : List Deed). SeesAfter old b.excepted rows ds c) (sym all) (does.now c has))
