-- Slots of rows that are written by calls in turn.
use Rattle.std.proofs.Common.{◌≡◌, ◌⊎◌, inl, inr, ℕ, ◌<◌, ◌≤◌, List, [], ◌∷◌, ◌++◌, length, sym, ap, subst, ◌∙◌, arith}
use Rattle.std.specs.Prelude.{slice_range}
use Rattle.std.specs.List.{Contains}
use Rattle.std.proofs.lemmas.List.Concat.{flat_map-append}
use Rattle.std.proofs.lemmas.List.Elements.{Contains-append_cases, Contains-append_left, Contains-append_right}
use Rattle.crash_plant.specs.declared.device.Device.TheVariants.{Volume}
use Rattle.crash_plant.specs.Calls.{Elapses, SameSite}
use Rattle.crash_plant.specs.Moments.{PlantState, Stays, on}
use Rattle.crash_plant.proofs.Steps.{follows_then}
use Rattle.pair_table.specs.declared.row.PairRow.{PairRow}
use Rattle.site_store.specs.Records.{VolumesStay}
use Rattle.consistency.specs.Leads.{Point}
use Rattle.consistency.specs.Ways.{PassedPoint}
use Rattle.passages.specs.Points.{last_point}
use Rattle.xrc_session.specs.Frames.{ChangesRows, DiffersInRows, IsApartFromRows, rows_passed}

-- Each row of some is one of others.
abbrev pub AreRowsOf : List PairRow → List PairRow → Type 0
AreRowsOf rows more = (r : PairRow) → Contains rows r → Contains more r

apart_less : (d : ℕ) (rows more : List PairRow) (from to : ℕ) → AreRowsOf rows more → IsApartFromRows d more from to → IsApartFromRows d rows from to
apart_less d rows more from to are apart r has same x within = apart r (are r has) same x within

pub differs_more : (d : ℕ) (rows more : List PairRow) (a b : List ℕ) → AreRowsOf rows more → DiffersInRows d rows a b → DiffersInRows d more a b
differs_more d rows more a b are differs = record { size = differs.size; others = λ from to le apart. differs.others from to le (apart_less d rows more from to are apart) }

pub differs_trans : (d : ℕ) (rows : List PairRow) (a b c : List ℕ) → DiffersInRows d rows a b → DiffersInRows d rows b c → DiffersInRows d rows a c
differs_trans d rows a b c x y = record { size = y.size ∙ x.size; others = λ from to le apart. y.others from to le apart ∙ x.others from to le apart }

pub differs_none : (d : ℕ) (rows : List PairRow) (a b : List ℕ) → b ≡ a → DiffersInRows d rows a b
differs_none d rows a b same = record { size = ap length same; others = λ from to le apart. ap (λ (l : List ℕ). slice_range l from to) same }

-- Calls in turn write slots of the rows of both.
pub changes_rows_then : (rows more all : List PairRow) (a b c : PlantState) → SameSite a b → a.clock ≤ b.clock → Elapses b c → AreRowsOf rows all → AreRowsOf more all → ChangesRows rows a b → ChangesRows more b c → ChangesRows all a c
changes_rows_then rows more all a b c site past on_to are too x y = record {
  bytes = λ d there.
      differs_trans d all (a.bytes (Volume d)) (b.bytes (Volume d)) (c.bytes (Volume d)) (differs_more d rows all (a.bytes (Volume d)) (b.bytes (Volume d)) are (x.bytes d there))
      (differs_more d more all (b.bytes (Volume d)) (c.bytes (Volume d)) too (y.bytes d (omega (arith, there, site.volumes))));
  moments = λ d there.
      follows_then (on a (Volume d)) (on b (Volume d)) (on c (Volume d)) (DiffersInRows d rows) (DiffersInRows d more) (DiffersInRows d all) past (x.moments d there) (on_to.kept (Volume d))
      (y.moments d (omega (arith, there, site.volumes))) (λ p q was differs. differs_more d rows all p q are differs)
      (λ p q r was is before after. differs_trans d all p q r (differs_more d rows all p q are before) (differs_more d more all q r too after));
}

-- Calls that leave volumes alone write none.
pub changes_rows_none : (rows : List PairRow) (a b : PlantState) → ((d : ℕ) → d < a.volumes → Stays (on a (Volume d)) (on b (Volume d))) → ChangesRows rows a b
changes_rows_none rows a b stay = record {
  bytes = λ d there. differs_none d rows (a.bytes (Volume d)) (b.bytes (Volume d)) (stay d there).bytes;
  moments = λ d there t from to c is. let start = (stay d there).images t from to c is in (start.0, start.1, differs_none d rows start.0 c start.2);
}

-- ---- the rows of points

pub rows_append : (points more : List PassedPoint) → rows_passed (points ++ more) ≡ rows_passed points ++ rows_passed more
rows_append points more = flat_map-append (λ n. n.point.rows) points more

-- The last point's rows are among those of the points, if the first has none.
pub last_rows : (p : Point) (points : List PassedPoint) (r : PairRow) → Contains (last_point p points).rows r → Contains p.rows r ⊎ Contains (rows_passed points) r
last_rows p [] r has = inl has
last_rows p (n ∷ points) r has = elim (last_rows n.point points r has) [
  | inl here ↦ inr (Contains-append_left n.point.rows (rows_passed points) r here)
  | inr later ↦ inr (Contains-append_right n.point.rows (rows_passed points) r later)
]

none_contained : (rows : List PairRow) (r : PairRow) → rows ≡ [] → Contains rows r → ⊥
none_contained rows r none has = absurd (omega (arith, has.1, ap length none))

last_rows_are : (p : Point) (points more : List PassedPoint) → p.rows ≡ [] → AreRowsOf ((last_point p points).rows ++ rows_passed more) (rows_passed (points ++ more))
last_rows_are p points more none r has =
    subst (λ (rows : List PairRow). Contains rows r) (sym (rows_append points more)) (by_side (Contains-append_cases (last_point p points).rows (rows_passed more) r has))
  where
    by_last : Contains p.rows r ⊎ Contains (rows_passed points) r → Contains (rows_passed points ++ rows_passed more) r
    by_last (inl first) = absurd (none_contained p.rows r none first)
    by_last (inr passed) = Contains-append_left (rows_passed points) (rows_passed more) r passed

    by_side : Contains (last_point p points).rows r ⊎ Contains (rows_passed more) r → Contains (rows_passed points ++ rows_passed more) r
    by_side (inl last) = by_last (last_rows p points r last)
    by_side (inr later) = Contains-append_right (rows_passed points) (rows_passed more) r later

first_rows_are : (points more : List PassedPoint) → AreRowsOf (rows_passed points) (rows_passed (points ++ more))
first_rows_are points more r has = subst (λ (rows : List PairRow). Contains rows r) (sym (rows_append points more)) (Contains-append_left (rows_passed points) (rows_passed more) r has)

-- After points that were passed, more are passed from the last one on.
pub changes_rows_on : (p : Point) (points more : List PassedPoint) (a b c : PlantState) → SameSite a b → a.clock ≤ b.clock → Elapses b c → p.rows ≡ [] → ChangesRows (rows_passed points) a b → ChangesRows ((last_point p points).rows ++ rows_passed more) b c
    → ChangesRows (rows_passed (points ++ more)) a c
changes_rows_on p points more a b c site past on_to none x y =
    changes_rows_then (rows_passed points) ((last_point p points).rows ++ rows_passed more) (rows_passed (points ++ more)) a b c site past on_to (first_rows_are points more) (last_rows_are p points more none) x y

-- Calls by which the volumes stay as they are write none.
pub changes_rows_stay : (rows : List PairRow) (tells : Type 0) (a b : PlantState) → tells → VolumesStay tells a b → ChangesRows rows a b
changes_rows_stay rows tells a b told stay = record {
  bytes = λ d there. differs_none d rows (a.bytes (Volume d)) (b.bytes (Volume d)) (stay.bytes told d);
  moments = λ d there t from to c is. let start = stay.images told d t from to c is in (start.0, start.1, differs_none d rows start.0 c start.2);
}
