-- Calls that do deeds without entries pass the points that tell of them, and calls in turn pass theirs in a row.
use Rattle.xrc_session.proofs.LastPoints.{last_append}
use Rattle.std.proofs.Common.{◌≡◌, ◌⊎◌, inl, inr, ℕ, suc, ◌<◌, ◌≤◌, List, [], ◌∷◌, ◌++◌, length, take, Option, Some, None, refl, sym, ap, subst, ◌∙◌, arith}
use Rattle.std.specs.Prelude.{IfSome, fold, slice_range}
use Rattle.std.specs.List.{Contains}
use Rattle.std.proofs.lemmas.List.{take_all}
use Rattle.std.proofs.lemmas.List.Elements.{All-append, All-nil, Contains-append_cases, Contains-append_left, Contains-append_right}
use Rattle.crash_plant.specs.declared.device.Device.TheVariants.{Control, Volume}
use Rattle.crash_plant.specs.Calls.{Elapses, SameSite}
use Rattle.crash_plant.specs.Choices.{AtNow, Choice, IsChoice}
use Rattle.crash_plant.specs.Moments.{PlantState}
use Rattle.pair_table.specs.declared.row.PairRow.{PairRow}
use Rattle.passages.specs.Points.{Throughout, last_point}
use Rattle.passages.proofs.InARow.{in_a_row, links_go_on}
use Rattle.record_rows.specs.Deeds.{Deed}
use Rattle.site_means.specs.Images.{shape_of}
use Rattle.site_store.specs.DoneDeeds.{BeginsDeeds, DoesDeeds, PassedDeed, with_next}
use Rattle.site_store.specs.Records.{VolumesStay}
use Rattle.site_store.specs.Seeing.{SeesAfter}
use Rattle.consistency.specs.Stages.{ScriptRun, Stage}
use Rattle.consistency.specs.Bearing.{GoesThroughPoints, MayBeMeant, ShowsPoint}
use Rattle.consistency.specs.Leads.{Point}
use Rattle.consistency.specs.Ways.{ComesNext, Leg, PassedPoint, Way, leg_after}
use Rattle.consistency.proofs.Moments.{points_stay}
use Rattle.mover.specs.Working.{LinesAsked, IsOnItsWay, ShowsLast}
use Rattle.xrc_session.specs.EpochPauses.{Between}
use Rattle.xrc_session.specs.Frames.{ChangesRows, DiffersInRows, rows_passed}
use Rattle.xrc_session.specs.Resting.{ArePointsAfter, IsPointAfter, ShowsBefore}
use Rattle.xrc_session.specs.Steps.{BeginsToPass, PassesPointsOn}
use Rattle.xrc_session.specs.WrittenParts.{PassesInParts}
use Rattle.xrc_session.proofs.AnswerAhead.{AreAhead, NextPoint, TellOf, ahead_linked, ahead_meant, last_told, leg_after_points, next_on_its_way, passed_by, points_told}
use Rattle.xrc_session.proofs.RestingPoints.{deeds_pass_points, done_deeds_pass_all, done_deeds_show_last, first_ones, step}
use Rattle.xrc_session.proofs.RowFrames.{changes_rows_then, last_rows, rows_append}
use Rattle.xrc_session.proofs.WrittenParts.{no_parts, part_quiet, part_unwritten, parts_then, passed_parts_stay, passed_within}

-- ---- volumes

unwritten : (d : ℕ) (rows : List PairRow) (was is : List ℕ) → is ≡ was → DiffersInRows d rows was is
unwritten d rows was is same = record { size = ap length same; others = λ from to le apart. ap (λ (l : List ℕ). slice_range l from to) same }

-- Calls that leave volumes as they are write no row's slot.
pub rows_unwritten : (tells : Type 0) → tells → (old new : PlantState) → VolumesStay tells old new → (rows : List PairRow) → ChangesRows rows old new
rows_unwritten tells told old new stay rows = record {
  bytes = λ d there. unwritten d rows (old.bytes (Volume d)) (new.bytes (Volume d)) (stay.bytes told d);
  moments = λ d there t from to c is. let start = stay.images told d t from to c is in (start.0, start.1, unwritten d rows start.0 c start.2);
}

one_moment : (from t to : ℕ) → from ≡ to → from ≤ t → t ≤ to → t ≡ to
one_moment from t to same up low = omega (arith, same, up, low)

none_written : (plant : PlantState) (rows : List PairRow) → ChangesRows rows plant plant
none_written plant rows = record {
  bytes = λ d there. unwritten d rows (plant.bytes (Volume d)) (plant.bytes (Volume d)) refl;
  moments = λ d there t from to c is. (c, subst (λ (at : ℕ). plant.images at (Volume d) c) (one_moment plant.clock t plant.clock refl from to) is, unwritten d rows c c refl);
}

-- ---- deeds

module _ (old new : PlantState) (b : Between) (stage : Stage) (asked : LinesAsked) (l : Leg) (rows : List PairRow) (deeds : List Deed) (ahead : List NextPoint) (told : List Deed → Point) (way : PassedDeed → Way)
    (here : l.point ≡ b.point) (before : ShowsBefore old b rows deeds) (are : ArePointsAfter deeds b.point told) (tell : TellOf told way [] deeds ahead) (comes : AreAhead b.run stage asked l ahead)
    (volumes : (all : List PairRow) → ChangesRows all old new) where
  first_told : told [] ≡ l.point
  first_told = are.first ∙ sym here

  -- The last of the first points is told by the first deeds.
  last_is : (moments : List ℕ) → length moments ≤ length deeds → last_point l.point (passed_by moments ahead) ≡ told (take (length moments) deeds)
  last_is moments few = ap (λ (p : Point). last_point p (passed_by moments ahead)) (sym first_told) ∙ last_told told way moments [] deeds ahead tell few

  none_written_by : SameSite old new → Elapses old new → (points : List PassedPoint) (next : Option Point) → (0 < old.clock → GoesThroughPoints b.run new old.clock l.point points new.clock next) → 0 < old.clock → PassesInParts new old.clock new.clock l.point points
  none_written_by site elapses points next goes up = part_unwritten old new site elapses up l.point points (passed_within b.run new old.clock new.clock l.point points next (goes up)) (volumes [])

  -- Calls that do them all pass all points.
  pub done_passes : (does : DoesDeeds b.excepted rows deeds old new) → PassesPointsOn b.run stage asked l (passed_by does.moments ahead) None old new
  done_passes does = record {
    goes = goes;
    linked = ahead_linked b.run stage asked does.moments ahead l comes;
    may = ahead_meant b.run stage asked does.moments ahead l comes;
    on_its_way = tt;
    now = λ c is. subst (λ (p : Point). ShowsPoint b.run (shape_of new) p c) (sym all) (done_deeds_show_last old new b rows deeds before does (told deeds) after c is);
    volumes = volumes (l.point.rows ++ rows_passed (passed_by does.moments ahead));
    written = none_written_by does.site does.elapses (passed_by does.moments ahead) None goes;
  }
    where
      goes : 0 < old.clock → GoesThroughPoints b.run new old.clock l.point (passed_by does.moments ahead) new.clock None
      goes up =
          subst (λ (p : Point). GoesThroughPoints b.run new old.clock p (passed_by does.moments ahead) new.clock None) (sym here)
          (subst (λ (points : List PassedPoint). GoesThroughPoints b.run new old.clock b.point points new.clock None) (points_told told way does.moments [] deeds ahead tell) (done_deeds_pass_all old new b rows deeds before told way are up does))

      all : last_point l.point (passed_by does.moments ahead) ≡ told deeds
      all = last_is does.moments (let each = does.each in omega (arith, each)) ∙ ap told (ap (λ (n : ℕ). take n deeds) does.each ∙ take_all (length deeds) deeds (omega arith))

      after : IsPointAfter deeds b.point (told deeds)
      after = subst (λ (front : List Deed). IsPointAfter front b.point (told front)) (take_all (length deeds) deeds (omega arith)) (are.after (length deeds) (omega arith))

  -- Calls that begin them pass the first ones, and the next one is on its way.
  pub begun_passes : MayBeMeant b.run stage l.point → (leg_after_points l ahead).point ≡ told deeds → BeginsDeeds b.excepted rows deeds old new → BeginsToPass b.run stage asked l old new
  begun_passes may ends begins = (
    passed_by begins.moments ahead,
    (
      Some (told (with_next (length begins.moments) deeds)),
      record {
        goes = goes;
        linked = ahead_linked b.run stage asked begins.moments ahead l comes;
        may = ahead_meant b.run stage asked begins.moments ahead l comes;
        on_its_way = next_on_its_way told way b.run stage asked begins.moments [] deeds ahead l tell comes (subst (MayBeMeant b.run stage) (sym first_told) may) ends begins.few;
        now = λ c is. shown c (begins.now c is);
        volumes = volumes (l.point.rows ++ rows_passed (passed_by begins.moments ahead));
        written = none_written_by begins.site begins.elapses (passed_by begins.moments ahead) (Some (told (with_next k deeds))) goes;
      },
    ),
  )
    where
      k : ℕ
      k = length begins.moments

      goes : 0 < old.clock → GoesThroughPoints b.run new old.clock l.point (passed_by begins.moments ahead) new.clock (Some (told (with_next k deeds)))
      goes up =
          subst (λ (p : Point). GoesThroughPoints b.run new old.clock p (passed_by begins.moments ahead) new.clock (Some (told (with_next k deeds)))) (sym here)
          (subst (λ (points : List PassedPoint). GoesThroughPoints b.run new old.clock b.point points new.clock (Some (told (with_next k deeds)))) (points_told told way begins.moments [] deeds ahead tell)
          (deeds_pass_points old new b rows deeds before told way are up begins))

      shown : (c : Choice) → SeesAfter old b.excepted rows (take k deeds) c ⊎ SeesAfter old b.excepted rows (with_next k deeds) c → ShowsLast b.run new (last_point l.point (passed_by begins.moments ahead)) (Some (told (with_next k deeds))) c
      shown c (inl sees) = inl (subst (λ (p : Point). ShowsPoint b.run (shape_of new) p c) (sym (last_is begins.moments begins.few)) (step old new b rows deeds before begins.site told way are (take k deeds) c (first_ones k deeds) sees))
      shown c (inr sees) = inr (step old new b rows deeds before begins.site told way are (with_next k deeds) c (first_ones (suc k) deeds) sees)

-- ---- no call

module _ (plant : PlantState) (run : ScriptRun) (stage : Stage) (asked : LinesAsked) (l : Leg) (shows : AtNow (ShowsPoint run (shape_of plant) l.point) plant) where
  still : (p : Point) → p ≡ l.point → Throughout (IsChoice plant) plant.clock plant.clock (ShowsPoint run (shape_of plant) p)
  still p same t from to c is =
      subst (λ (q : Point). ShowsPoint run (shape_of plant) q c) (sym same) (shows c (subst (λ (at : ℕ). IsChoice plant at c) (one_moment plant.clock t plant.clock refl from to) is))

  -- Where nothing is called no point is passed.
  pub nothing_passes : BeginsToPass run stage asked l plant plant
  nothing_passes = (
    [],
    (
      None,
      record {
        goes = λ up. (omega arith, still l.point refl);
        linked = tt;
        may = All-nil (λ (n : PassedPoint). MayBeMeant run stage n.point);
        on_its_way = tt;
        now = shows;
        volumes = none_written plant (l.point.rows ++ []);
        written = λ up. no_parts plant l.point;
      },
    ),
  )

  -- A point that is meant already is passed there.
  pub quiet_passes : (n : NextPoint) → n.point ≡ l.point → AreAhead run stage asked l (n ∷ []) → PassesPointsOn run stage asked l (passed_by (plant.clock ∷ []) (n ∷ [])) None plant plant
  quiet_passes n same comes = record {
    goes = λ up. (omega arith, (λ t from to c is. inl (still l.point refl t from to c is)), still n.point same, (omega arith, still n.point same));
    linked = ahead_linked run stage asked (plant.clock ∷ []) (n ∷ []) l comes;
    may = ahead_meant run stage asked (plant.clock ∷ []) (n ∷ []) l comes;
    on_its_way = tt;
    now = λ c is. subst (λ (q : Point). ShowsPoint run (shape_of plant) q c) (sym same) (shows c is);
    volumes = none_written plant (l.point.rows ++ rows_passed (passed_by (plant.clock ∷ []) (n ∷ [])));
    written = λ up. part_quiet plant l.point (passed_by (plant.clock ∷ []) (n ∷ [])) (omega arith, omega arith, tt);
  }

-- ---- calls in turn

pub legs_append : (l : Leg) (points more : List PassedPoint) → fold leg_after l (points ++ more) ≡ fold leg_after (fold leg_after l points) more
legs_append l [] more = refl
legs_append l (n ∷ points) more = legs_append (leg_after l n) points more

-- Points that calls pass, and those that later calls pass from the last of them on, are passed in a row.
pub passes_then : (run : ScriptRun) (stage : Stage) (asked : LinesAsked) (l : Leg) (points more : List PassedPoint) (next : Option Point) (a b c : PlantState) → SameSite a b → Elapses a b → SameSite b c → Elapses b c
    → (fold leg_after l points).point ≡ last_point l.point points → PassesPointsOn run stage asked l points None a b → PassesPointsOn run stage asked (fold leg_after l points) more next b c
    → PassesPointsOn run stage asked l (points ++ more) next a c
passes_then run stage asked l points more next a b c site past on_site on_past last first second = record {
  goes = λ up.
      let later : 0 < b.clock = (let rise = (past.kept Control).later in omega (arith, up, rise)) in
      in_a_row Point Way Choice (IsChoice c) (ShowsPoint run (shape_of c)) a.clock b.clock c.clock l.point points more next
      (points_stay b c on_site on_past later run a.clock b.clock l.point points None (omega arith) (first.goes up))
      (subst (λ (p : Point). GoesThroughPoints run c b.clock p more c.clock next) last (second.goes later));
  linked = links_go_on Leg PassedPoint (ComesNext run asked) leg_after l points more first.linked second.linked;
  may = All-append (λ (n : PassedPoint). MayBeMeant run stage n.point) points more first.may second.may;
  on_its_way = subst (λ (x : Leg). IfSome next (λ q. IsOnItsWay run asked x q × MayBeMeant run stage q)) (sym (legs_append l points more)) second.on_its_way;
  now = λ e is. subst (λ (p : Point). ShowsLast run c p next e) (ap (λ (p : Point). last_point p more) last ∙ sym (last_append l.point points more)) (second.now e is);
  written = λ up.
      let later : 0 < b.clock = (let rise = (past.kept Control).later in omega (arith, up, rise)) in
      parts_then c a.clock b.clock c.clock l.point points more (passed_parts_stay b c on_site on_past later a.clock b.clock l.point points (omega arith) (first.written up))
      (subst (λ (p : Point). PassesInParts c b.clock c.clock p more) last (second.written later));
  volumes = changes_rows_then (l.point.rows ++ rows_passed points) ((fold leg_after l points).point.rows ++ rows_passed more) (l.point.rows ++ rows_passed (points ++ more)) a b c site ((past.kept Control).later) on_past front back first.volumes second.volumes;
}
  where
    all : (r : PairRow) → Contains (l.point.rows ++ (rows_passed points ++ rows_passed more)) r → Contains (l.point.rows ++ rows_passed (points ++ more)) r
    all r has = subst (λ (rows : List PairRow). Contains (l.point.rows ++ rows) r) (sym (rows_append points more)) has

    own : (r : PairRow) → Contains l.point.rows r → Contains (l.point.rows ++ rows_passed (points ++ more)) r
    own r has = Contains-append_left l.point.rows (rows_passed (points ++ more)) r has

    passed : (r : PairRow) → Contains (rows_passed points) r → Contains (l.point.rows ++ rows_passed (points ++ more)) r
    passed r has = all r (Contains-append_right l.point.rows (rows_passed points ++ rows_passed more) r (Contains-append_left (rows_passed points) (rows_passed more) r has))

    front : (r : PairRow) → Contains (l.point.rows ++ rows_passed points) r → Contains (l.point.rows ++ rows_passed (points ++ more)) r
    front r has = by_side (Contains-append_cases l.point.rows (rows_passed points) r has)
      where
        by_side : Contains l.point.rows r ⊎ Contains (rows_passed points) r → Contains (l.point.rows ++ rows_passed (points ++ more)) r
        by_side (inl here) = own r here
        by_side (inr there) = passed r there

    last_one : (r : PairRow) → Contains (last_point l.point points).rows r → Contains (l.point.rows ++ rows_passed (points ++ more)) r
    last_one r has = by_side (last_rows l.point points r has)
      where
        by_side : Contains l.point.rows r ⊎ Contains (rows_passed points) r → Contains (l.point.rows ++ rows_passed (points ++ more)) r
        by_side (inl here) = own r here
        by_side (inr there) = passed r there

    back : (r : PairRow) → Contains ((fold leg_after l points).point.rows ++ rows_passed more) r → Contains (l.point.rows ++ rows_passed (points ++ more)) r
    back r has = by_side (Contains-append_cases (fold leg_after l points).point.rows (rows_passed more) r has)
      where
        by_side : Contains (fold leg_after l points).point.rows r ⊎ Contains (rows_passed more) r → Contains (l.point.rows ++ rows_passed (points ++ more)) r
        by_side (inl here) = last_one r (subst (λ (p : Point). Contains p.rows r) last here)
        by_side (inr there) = all r (Contains-append_right l.point.rows (rows_passed points ++ rows_passed more) r (Contains-append_right (rows_passed points) (rows_passed more) r there))

-- What began to be passed after points that were passed began to be passed with them.
pub begins_then : (run : ScriptRun) (stage : Stage) (asked : LinesAsked) (l : Leg) (points : List PassedPoint) (a b c : PlantState) → SameSite a b → Elapses a b → SameSite b c → Elapses b c
    → (fold leg_after l points).point ≡ last_point l.point points → PassesPointsOn run stage asked l points None a b → BeginsToPass run stage asked (fold leg_after l points) b c → BeginsToPass run stage asked l a c
begins_then run stage asked l points a b c site past on_site on_past last passed (more, (next, then_passed)) = (points ++ more, (next, passes_then run stage asked l points more next a b c site past on_site on_past last passed then_passed))
