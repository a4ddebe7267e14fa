-- Whether a pair was duplex in a run, by the deeds after which its points stand.
use Rattle.std.proofs.Common.{◌≡◌, ℕ, zero, suc, Bool, true, false, nat_eq, ◌&&◌, ◌||◌, List, [], ◌∷◌, ◌++◌, map, Some, refl, sym, ap, subst, ◌∙◌, true≢false}
use Rattle.std.specs.Prelude.{bytes_eq, fold, slice_get}
use Rattle.std.specs.List.{list_any}
use Rattle.std.proofs.lemmas.Bool.{and_from, eq-eqb}
use Rattle.std.proofs.lemmas.List.Sums.{fold-append}
use Rattle.std.proofs.lemmas.Option.{same_Some}
use Rattle.pair_table.specs.declared.row.PairRow.{PairRow}
use Rattle.pair_table.specs.declared.row.PairState.{PairState}
use Rattle.pair_table.specs.declared.row.PairState.TheVariants.{Pending, Copy, Duplex, Suspended}
use Rattle.pair_table.specs.Refusals.{is_pair}
use Rattle.pair_table.specs.Rows.{cause_number, is_suspended}
use Rattle.pair_table.specs.Tables.{in_state, is_of, none_clash}
use Rattle.pair_table.proofs.PutLaws.{number_sym}
use Rattle.pair_table.proofs.StateLaws.{same_name}
use Rattle.pair_table.proofs.TableLaws.{either_false}
use Rattle.record_rows.specs.Deeds.{Deed, rows_after_deeds, rows_by_deed, time_by_deed}
use Rattle.pair_table.specs.States.{is_device_suspended, is_duplex}
use Rattle.record_rows.proofs.Devices.{apart_first, apart_of, devices_apart, none_at}
use Rattle.passages.specs.Points.{last_point, was_so}
use Rattle.consistency.specs.Leads.{Point}
use Rattle.consistency.specs.Owing.{has_pair_in, is_same_state, was_duplex}
use Rattle.consistency.specs.Ways.{PassedPoint}
use Rattle.mover.specs.Dropping.{is_duplex_row, stood_duplex}
use Rattle.xrc_session.specs.Maps.{BecomesAt, RowsGo}
use Rattle.xrc_session.specs.MapsOwed.{HaveRowsOf}
use Rattle.xrc_session.proofs.MapsRows.{StandsNext, apart_by, duplex_of, ends_as, ends_pair, never_stands, next_at, not_duplex, stays_suspended, stood_now}

-- ---- states

pub same_itself : (state : PairState) → is_same_state state state ≡ true
same_itself Pending = refl
same_itself Copy = refl
same_itself Duplex = refl
same_itself (Suspended cause since) = and_from (nat_eq (cause_number cause) (cause_number cause)) (nat_eq since.0 since.0) (eq-eqb (cause_number cause) (cause_number cause) refl) (eq-eqb since.0 since.0 refl)

duplex_is : (state : PairState) → is_same_state Duplex state ≡ is_duplex state
duplex_is Pending = refl
duplex_is Copy = refl
duplex_is Duplex = refl
duplex_is (Suspended cause since) = refl

pub live_other : (now state : PairState) → is_suspended now ≡ true → is_suspended state ≡ false → is_same_state now state ≡ false
live_other Pending state is live = absurd cc
live_other Copy state is live = absurd cc
live_other Duplex state is live = absurd cc
live_other (Suspended cause since) Pending is live = refl
live_other (Suspended cause since) Copy is live = refl
live_other (Suspended cause since) Duplex is live = refl
live_other (Suspended cause since) (Suspended other at) is live = absurd (true≢false live)

-- ---- the pair of a row among rows

no_other : (z : PairRow) (state : PairState) (rows : List PairRow) → list_any (is_of z.device) rows ≡ false → has_pair_in z state rows ≡ false
no_other z state [] none = refl
no_other z state (x ∷ rows) none =
    let parts = either_false (nat_eq z.device x.device) (list_any (is_of z.device) rows) none in
    ap (λ (b : Bool). (b && is_pair z.primary z.secondary x && is_same_state state x.state) || has_pair_in z state rows) parts.0 ∙ no_other z state rows parts.1

pub pair_at : (rows : List PairRow) (place : ℕ) (r z : PairRow) (state : PairState) → devices_apart rows ≡ true → slice_get rows place ≡ Some r → z ≡ in_state z.state r → has_pair_in z state rows ≡ is_same_state state r.state
pair_at [] place r z state apart at pair = absurd cc
pair_at (x ∷ rows) zero r z state apart at pair =
    subst (λ (y : PairRow). has_pair_in z state (x ∷ rows) ≡ is_same_state state y.state) (same_Some x r at) (here (ap (λ (y : PairRow). in_state z.state y) (same_Some x r at)))
  where
    flags : (a b c d : Bool) → a ≡ true → b ≡ true → d ≡ false → ((a && b && c) || d) ≡ c
    flags true true true d e f g = refl
    flags true true false d e f g = g
    flags true false c d e f g = absurd (true≢false (sym f))
    flags false b c d e f g = absurd (true≢false (sym e))

    here : in_state z.state x ≡ in_state z.state r → has_pair_in z state (x ∷ rows) ≡ is_same_state state x.state
    here same =
        let its : z ≡ in_state z.state x = pair ∙ sym same in
        flags (nat_eq z.device x.device) (is_pair z.primary z.secondary x) (is_same_state state x.state) (has_pair_in z state rows)
        (eq-eqb z.device x.device (ap (λ (y : PairRow). y.device) its))
        (and_from (bytes_eq x.primary z.primary) (bytes_eq x.secondary z.secondary) (ap (bytes_eq x.primary) (ap (λ (y : PairRow). y.primary) its) ∙ same_name x.primary) (ap (bytes_eq x.secondary) (ap (λ (y : PairRow). y.secondary) its) ∙ same_name x.secondary))
        (no_other z state rows (ap (λ (d : ℕ). list_any (is_of d) rows) (ap (λ (y : PairRow). y.device) its) ∙ (apart_first x rows apart).0))
pair_at (x ∷ rows) (suc place) r z state apart at pair =
    let first = apart_first x rows apart in
    let other : nat_eq z.device x.device ≡ false = ap (λ (d : ℕ). nat_eq d x.device) (ap (λ (y : PairRow). y.device) pair) ∙ number_sym r.device x.device ∙ none_at x.device rows place r first.0 at in
    ap (λ (b : Bool). (b && is_pair z.primary z.secondary x && is_same_state state x.state) || has_pair_in z state rows) other ∙ pair_at rows place r z state first.1 at pair

-- ---- through points

-- whether a pair was so, through rows
abbrev pub was_in : (so now : List PairRow → Bool) → Bool → List (List PairRow) → Bool
was_in so now first all = fold (λ was rows. so rows || (now rows && was)) first all

was_rows : (so now : List PairRow → Bool) (first : Bool) (points : List PassedPoint) → was_so (λ p. so p.rows) (λ p. now p.rows) first points ≡ was_in so now first (map (λ n. n.point.rows) points)
was_rows so now first [] = refl
was_rows so now first (n ∷ points) = was_rows so now (so n.point.rows || (now n.point.rows && first)) points

-- What was so at the last point, where now isn't.
last_so : (so now : Point → Bool) (p : Point) (points : List PassedPoint) (was : Bool) → (points ≡ [] → was ≡ so p) → now (last_point p points) ≡ false → was_so so now was points ≡ so (last_point p points)
last_so so now p [] was first not_now = first refl
last_so so now p (n ∷ points) was first not_now = last_so so now n.point points (so n.point || (now n.point && was)) (by points not_now) not_now
  where
    flag : (a b c : Bool) → b ≡ false → (a || (b && c)) ≡ a
    flag true b c e = refl
    flag false true c e = absurd (true≢false e)
    flag false false c e = refl

    by : (more : List PassedPoint) → now (last_point n.point more) ≡ false → more ≡ [] → (so n.point || (now n.point && was)) ≡ so n.point
    by [] e none = flag (so n.point) (now n.point) was e
    by (m ∷ more) e none = absurd cc

module _ (place : ℕ) (z : PairRow) (suspends : is_suspended z.state ≡ true) (unfailed : is_device_suspended z.state ≡ false) where
  abbrev so : List PairRow → Bool
  so rows = has_pair_in z Duplex rows

  abbrev now : List PairRow → Bool
  now rows = has_pair_in z z.state rows

  so_at : (rows : List PairRow) (r : PairRow) → none_clash rows ≡ true → slice_get rows place ≡ Some r → z ≡ in_state z.state r → so rows ≡ is_duplex r.state
  so_at rows r apart at pair = pair_at rows place r z Duplex (apart_of rows apart) at pair ∙ duplex_is r.state

  now_at : (rows : List PairRow) (r : PairRow) → none_clash rows ≡ true → slice_get rows place ≡ Some r → z ≡ in_state z.state r → now rows ≡ is_same_state z.state r.state
  now_at rows r apart at pair = pair_at rows place r z z.state (apart_of rows apart) at pair

  -- A row that is suspended as it is at the end leaves whether its pair was duplex.
  pub was_still : (time : ℕ) (rows : List PairRow) (deeds : List Deed) (r : PairRow) (was : Bool) → none_clash rows ≡ true → RowsGo time rows deeds → slice_get rows place ≡ Some r → slice_get (rows_after_deeds deeds rows) place ≡ Some z → is_suspended r.state ≡ true
      → was_in so now was (map rows_by_deed deeds) ≡ was
  was_still time rows [] r was apart go at last is = refl
  was_still time rows (deed ∷ deeds) r was apart go at last is =
      let n = next_at (BecomesAt (time_by_deed time deed)) rows (rows_by_deed deed) place r go.0 at in
      let then = apart_by (time_by_deed time deed) rows (rows_by_deed deed) go.0 apart in
      let still = stays_suspended (time_by_deed time deed) r n.row n.goes is in
      let pair = ends_pair (time_by_deed time deed) (rows_by_deed deed) deeds place n.row z go.1 n.at last in
      let same = ends_as (time_by_deed time deed) (rows_by_deed deed) deeds place n.row z go.1 n.at last still unfailed in
      let duplex : so (rows_by_deed deed) ≡ false = so_at (rows_by_deed deed) n.row then n.at pair ∙ not_duplex n.row.state still in
      let is_now : now (rows_by_deed deed) ≡ true = now_at (rows_by_deed deed) n.row then n.at pair ∙ ap (is_same_state z.state) same ∙ same_itself z.state in
      ap (λ (b : Bool). was_in so now b (map rows_by_deed deeds)) (λ i. duplex i || (is_now i && was))
      ∙ was_still (time_by_deed time deed) (rows_by_deed deed) deeds n.row was then go.1 n.at last still

  -- A live row's pair was duplex after deeds that suspend it exactly if it stood so.
  pub was_stood : (time : ℕ) (rows : List PairRow) (deeds : List Deed) (r : PairRow) → none_clash rows ≡ true → RowsGo time rows deeds → slice_get rows place ≡ Some r → slice_get (rows_after_deeds deeds rows) place ≡ Some z → is_suspended r.state ≡ false
      → was_in so now (is_duplex r.state) (map rows_by_deed deeds) ≡ stood_duplex place rows deeds
  was_stood time rows [] r apart go at last live = absurd (true≢false (sym suspends ∙ ap (λ (x : PairRow). is_suspended x.state) (same_Some z r (sym last ∙ at)) ∙ live))
  was_stood time rows (deed ∷ deeds) r apart go at last live =
      choose (is_suspended n.row.state) refl (λ x clear there still. was_stood (time_by_deed time deed) (rows_by_deed deed) deeds x clear go.1 there last still)
    where
      n : StandsNext (BecomesAt (time_by_deed time deed)) (rows_by_deed deed) place r
      n = next_at (BecomesAt (time_by_deed time deed)) rows (rows_by_deed deed) place r go.0 at

      then : none_clash (rows_by_deed deed) ≡ true
      then = apart_by (time_by_deed time deed) rows (rows_by_deed deed) go.0 apart

      pair : z ≡ in_state z.state n.row
      pair = ends_pair (time_by_deed time deed) (rows_by_deed deed) deeds place n.row z go.1 n.at last

      first : is_duplex_row (slice_get rows place) ≡ is_duplex r.state
      first = ap is_duplex_row at

      no_more : (a b : Bool) → b ≡ false → (a || b) ≡ a
      no_more true b e = refl
      no_more false b e = e

      flag : (a b c : Bool) → b ≡ false → (a || (b && c)) ≡ a
      flag true b c e = refl
      flag false true c e = absurd (true≢false e)
      flag false false c e = refl

      taken : (a b : Bool) → (a ≡ true → b ≡ true) → b ≡ (a || b)
      taken true b e = e refl
      taken false b e = refl

      choose : (s : Bool) → is_suspended n.row.state ≡ s
          → ((x : PairRow) → none_clash (rows_by_deed deed) ≡ true → slice_get (rows_by_deed deed) place ≡ Some x → is_suspended x.state ≡ false → was_in so now (is_duplex x.state) (map rows_by_deed deeds) ≡ stood_duplex place (rows_by_deed deed) deeds)
          → was_in so now (so (rows_by_deed deed) || (now (rows_by_deed deed) && is_duplex r.state)) (map rows_by_deed deeds) ≡ (is_duplex_row (slice_get rows place) || stood_duplex place (rows_by_deed deed) deeds)
      choose false is rest =
          ap (λ (b : Bool). was_in so now b (map rows_by_deed deeds))
          (flag (so (rows_by_deed deed)) (now (rows_by_deed deed)) (is_duplex r.state) (now_at (rows_by_deed deed) n.row then n.at pair ∙ live_other z.state n.row.state suspends is) ∙ so_at (rows_by_deed deed) n.row then n.at pair)
          ∙ rest n.row then n.at is
          ∙ taken (is_duplex r.state) (stood_duplex place (rows_by_deed deed) deeds) (λ e. stood_now place (rows_by_deed deed) deeds n.row n.at (n.goes.keeps.duplex (duplex_of r.state e) is))
          ∙ ap (λ (b : Bool). b || stood_duplex place (rows_by_deed deed) deeds) (sym first)
      choose true is rest =
          let duplex : so (rows_by_deed deed) ≡ false = so_at (rows_by_deed deed) n.row then n.at pair ∙ not_duplex n.row.state is in
          let same = ends_as (time_by_deed time deed) (rows_by_deed deed) deeds place n.row z go.1 n.at last is unfailed in
          let is_now : now (rows_by_deed deed) ≡ true = now_at (rows_by_deed deed) n.row then n.at pair ∙ ap (is_same_state z.state) same ∙ same_itself z.state in
          ap (λ (b : Bool). was_in so now b (map rows_by_deed deeds)) (λ i. duplex i || (is_now i && is_duplex r.state))
          ∙ was_still (time_by_deed time deed) (rows_by_deed deed) deeds n.row (is_duplex r.state) then go.1 n.at last is
          ∙ sym (ap (λ (b : Bool). b || stood_duplex place (rows_by_deed deed) deeds) first ∙ no_more (is_duplex r.state) (stood_duplex place (rows_by_deed deed) deeds) (never_stands (time_by_deed time deed) (rows_by_deed deed) deeds place n.row go.1 n.at is))

  -- ---- in a run

  module _ (first : Point) (points more : List PassedPoint) (time : ℕ) (rows : List PairRow) (deeds : List Deed) (r : PairRow) (apart : none_clash rows ≡ true) (go : RowsGo time rows deeds) (at : slice_get rows place ≡ Some r) (last : slice_get (rows_after_deeds deeds rows) place ≡ Some z)
      (here : (last_point first points).rows ≡ rows) (have : HaveRowsOf more deeds) where
    after : was_duplex z first (points ++ more) ≡ was_in so now (was_duplex z first points) (map rows_by_deed deeds)
    after =
        fold-append (λ was n. so n.point.rows || (now n.point.rows && was)) (so first.rows) points more
        ∙ was_rows so now (was_duplex z first points) more
        ∙ ap (was_in so now (was_duplex z first points)) have

    -- The pair of a row that was suspended before was duplex exactly if it was before.
    pub duplex_still : is_suspended r.state ≡ true → was_duplex z first (points ++ more) ≡ was_duplex z first points
    duplex_still is = after ∙ was_still time rows deeds r (was_duplex z first points) apart go at last is

    -- The pair of a row that was live was duplex exactly if it stood so.
    pub duplex_stood : is_suspended r.state ≡ false → was_duplex z first (points ++ more) ≡ stood_duplex place rows deeds
    duplex_stood live =
        after
        ∙ ap (λ (b : Bool). was_in so now b (map rows_by_deed deeds))
        (last_so (λ p. so p.rows) (λ p. now p.rows) first points (so first.rows) (λ none. refl) (ap now here ∙ now_at rows r apart at pair ∙ live_other z.state r.state suspends live) ∙ ap so here ∙ so_at rows r apart at pair)
        ∙ was_stood time rows deeds r apart go at last live
      where
        pair : z ≡ in_state z.state r
        pair = ends_pair time rows deeds place r z go at last
