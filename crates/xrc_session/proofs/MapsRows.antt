-- A row in its place, through deeds that suspend rows at their times.
use Rattle.std.proofs.Common.{◌≡◌, ℕ, zero, suc, Bool, true, false, nat_eq, ◌||◌, List, [], ◌∷◌, Option, Some, ◌⊎◌, inl, inr, refl, sym, ap, subst, ◌∙◌, true≢false}
use Rattle.std.specs.Prelude.{slice_get}
use Rattle.std.specs.List.{Contains}
use Rattle.std.proofs.lemmas.Bool.{and_from, eq-eqb, or_cases, or_left}
use Rattle.std.proofs.lemmas.Option.{get_or_from_slice_get, same_Some, slice_get_within}
use Rattle.pair_table.specs.declared.row.PairRow.{PairRow}
use Rattle.pair_table.specs.declared.row.PairState.{PairState}
use Rattle.pair_table.specs.declared.row.PairState.TheVariants.{Pending, Copy, Duplex, Suspended}
use Rattle.pair_table.specs.Rows.{is_suspended}
use Rattle.pair_table.specs.Tables.{in_state, none_clash}
use Rattle.record_rows.specs.Deeds.{Deed, rows_after_deeds, rows_by_deed, time_by_deed}
use Rattle.pair_table.specs.States.{is_device_suspended, is_duplex}
use Rattle.record_rows.specs.ToldRows.{InPlaces}
use Rattle.fed_logs.specs.Moves.{HasRowIn}
use Rattle.mover.specs.Dropping.{is_duplex_row, stood_duplex}
use Rattle.mover.proofs.Pairs.{among_of, apart_still, found_row, is_of_volume_at, pair_of, pairs_of}
use Rattle.xrc_session.specs.Maps.{BecomesAt, RowsGo}

-- ---- places

-- what stands in a place of the next rows
pub record StandsNext (is : PairRow → PairRow → Type 0) (next : List PairRow) (place : ℕ) (r : PairRow) : Type 0 where
  pub row : PairRow
  pub at : slice_get next place ≡ Some row
  pub goes : is r row

pub next_at : (is : PairRow → PairRow → Type 0) (rows next : List PairRow) (place : ℕ) (r : PairRow) → InPlaces is rows next → slice_get rows place ≡ Some r → StandsNext is next place r
next_at is [] next place r each at = absurd cc
next_at is (x ∷ rows) [] place r each at = absurd each
next_at is (x ∷ rows) (y ∷ next) zero r each at = record { row = y; at = refl; goes = subst (λ (w : PairRow). is w y) (same_Some x r at) each.0 }
next_at is (x ∷ rows) (y ∷ next) (suc place) r each at = let n = next_at is rows next place r each.1 at in record { row = n.row; at = n.at; goes = n.goes }

pub among_place : (rows : List PairRow) (place : ℕ) (r : PairRow) → slice_get rows place ≡ Some r → Contains rows r
among_place rows place r at = (place, slice_get_within rows place r at, get_or_from_slice_get rows place r r at)

-- The row of a volume is the one in its place.
some_row : (a b : PairRow) → (let x : Option PairRow = Some a in let y : Option PairRow = Some b in x ≡ y) → a ≡ b
some_row a b e = cc

named : (k v : ℕ) (r : PairRow) → r.control ≡ k → r.volume ≡ v → is_of_volume_at k v r ≡ true
named k v r control volume = and_from (nat_eq r.control k) (nat_eq r.volume v) (eq-eqb r.control k control) (eq-eqb r.volume v volume)

pub row_is : (is : PairState → Type 0) (k v : ℕ) (rows : List PairRow) (place : ℕ) (r : PairRow) → none_clash rows ≡ true → slice_get rows place ≡ Some r → r.control ≡ k → r.volume ≡ v → HasRowIn is k v rows → is r.state
row_is is k v rows place r apart at control volume has =
    let mine = found_row k v r rows apart (among_of rows r (among_place rows place r at)) (named k v r control volume) in
    let its = found_row k v has.row rows apart (among_of rows has.row has.among) (named k v has.row has.control has.volume) in
    subst (λ (x : PairRow). is x.state) (some_row has.row r (sym its ∙ mine)) has.state

pub has_row : (is : PairState → Type 0) (k v : ℕ) (rows : List PairRow) (place : ℕ) (r : PairRow) → slice_get rows place ≡ Some r → r.control ≡ k → r.volume ≡ v → is r.state → HasRowIn is k v rows
has_row is k v rows place r at control volume state = record { row = r; among = among_place rows place r at; control = control; volume = volume; state = state }

-- ---- pairs

same_pairs_by : (time : ℕ) (rows next : List PairRow) → InPlaces (BecomesAt time) rows next → pairs_of next ≡ pairs_of rows
same_pairs_by time [] [] each = refl
same_pairs_by time [] (y ∷ next) each = absurd each
same_pairs_by time (x ∷ rows) [] each = absurd each
same_pairs_by time (x ∷ rows) (y ∷ next) each = λ i. pair_of (each.0.keeps.same i) ∷ same_pairs_by time rows next each.1 i

pub apart_by : (time : ℕ) (rows next : List PairRow) → InPlaces (BecomesAt time) rows next → none_clash rows ≡ true → none_clash next ≡ true
apart_by time rows next each apart = apart_still rows next (same_pairs_by time rows next each) apart

-- ---- states

pub not_duplex : (state : PairState) → is_suspended state ≡ true → is_duplex state ≡ false
not_duplex Pending e = absurd cc
not_duplex Copy e = absurd cc
not_duplex Duplex e = absurd cc
not_duplex (Suspended cause since) e = refl

pub duplex_of : (state : PairState) → is_duplex state ≡ true → state ≡ Duplex
duplex_of Pending e = absurd cc
duplex_of Copy e = absurd cc
duplex_of Duplex e = refl
duplex_of (Suspended cause since) e = absurd cc

-- A row that is suspended isn't live after a deed.
pub stays_suspended : (time : ℕ) (r s : PairRow) → BecomesAt time r s → is_suspended r.state ≡ true → is_suspended s.state ≡ true
stays_suspended time r s goes is = choose (is_suspended s.state) refl
  where
    choose : (b : Bool) → is_suspended s.state ≡ b → b ≡ true
    choose true at = refl
    choose false at = absurd (true≢false (sym is ∙ goes.keeps.live at))

-- After deeds a row that was suspended is as it was, or its device has failed.
pub ends_suspended : (time : ℕ) (rows : List PairRow) (deeds : List Deed) (place : ℕ) (r z : PairRow) → RowsGo time rows deeds → slice_get rows place ≡ Some r → slice_get (rows_after_deeds deeds rows) place ≡ Some z → is_suspended r.state ≡ true
    → (z.state ≡ r.state) ⊎ (is_device_suspended z.state ≡ true)
ends_suspended time rows [] place r z go at last is = inl (ap (λ (x : PairRow). x.state) (same_Some z r (sym last ∙ at)))
ends_suspended time rows (deed ∷ deeds) place r z go at last is =
    let n = next_at (BecomesAt (time_by_deed time deed)) rows (rows_by_deed deed) place r go.0 at in
    let rest = ends_suspended (time_by_deed time deed) (rows_by_deed deed) deeds place n.row z go.1 n.at last (stays_suspended (time_by_deed time deed) r n.row n.goes is) in
    elim (n.goes.keeps.gone is) [
      | inl same ↦ elim rest [ inl still ↦ inl (still ∙ same) | inr failed ↦ inr failed ]
      | inr failed ↦ elim rest [ inl still ↦ inr (ap is_device_suspended still ∙ failed) | inr failed ↦ inr failed ]
    ]

-- It is as at the end, if its device doesn't fail.
pub ends_as : (time : ℕ) (rows : List PairRow) (deeds : List Deed) (place : ℕ) (r z : PairRow) → RowsGo time rows deeds → slice_get rows place ≡ Some r → slice_get (rows_after_deeds deeds rows) place ≡ Some z → is_suspended r.state ≡ true → is_device_suspended z.state ≡ false → r.state ≡ z.state
ends_as time rows deeds place r z go at last is unfailed = elim (ends_suspended time rows deeds place r z go at last is) [ inl same ↦ sym same | inr failed ↦ absurd (true≢false (sym failed ∙ unfailed)) ]

-- After deeds it is a row of the same pair.
pub ends_pair : (time : ℕ) (rows : List PairRow) (deeds : List Deed) (place : ℕ) (r z : PairRow) → RowsGo time rows deeds → slice_get rows place ≡ Some r → slice_get (rows_after_deeds deeds rows) place ≡ Some z → z ≡ in_state z.state r
ends_pair time rows [] place r z go at last =
    let same = same_Some z r (sym last ∙ at) in
    same ∙ ap (λ (state : PairState). in_state state r) (sym (ap (λ (x : PairRow). x.state) same))
ends_pair time rows (deed ∷ deeds) place r z go at last =
    let n = next_at (BecomesAt (time_by_deed time deed)) rows (rows_by_deed deed) place r go.0 at in
    ends_pair (time_by_deed time deed) (rows_by_deed deed) deeds place n.row z go.1 n.at last ∙ ap (in_state z.state) n.goes.keeps.same

-- What stands in a place after deeds stood there before them.
pub record StoodFirst (rows : List PairRow) (place : ℕ) : Type 0 where
  pub row : PairRow
  pub at : slice_get rows place ≡ Some row

stood_at : (is : PairRow → PairRow → Type 0) (rows next : List PairRow) (place : ℕ) (s : PairRow) → InPlaces is rows next → slice_get next place ≡ Some s → StoodFirst rows place
stood_at is [] [] place s each at = absurd cc
stood_at is [] (y ∷ next) place s each at = absurd each
stood_at is (x ∷ rows) [] place s each at = absurd each
stood_at is (x ∷ rows) (y ∷ next) zero s each at = record { row = x; at = refl }
stood_at is (x ∷ rows) (y ∷ next) (suc place) s each at = let f = stood_at is rows next place s each.1 at in record { row = f.row; at = f.at }

pub stood_first : (time : ℕ) (rows : List PairRow) (deeds : List Deed) (place : ℕ) (z : PairRow) → RowsGo time rows deeds → slice_get (rows_after_deeds deeds rows) place ≡ Some z → StoodFirst rows place
stood_first time rows [] place z go last = record { row = z; at = last }
stood_first time rows (deed ∷ deeds) place z go last =
    let n = stood_first (time_by_deed time deed) (rows_by_deed deed) deeds place z go.1 last in
    stood_at (BecomesAt (time_by_deed time deed)) rows (rows_by_deed deed) place n.row go.0 n.at

-- ---- standing duplex

pub stood_now : (place : ℕ) (rows : List PairRow) (deeds : List Deed) (r : PairRow) → slice_get rows place ≡ Some r → r.state ≡ Duplex → stood_duplex place rows deeds ≡ true
stood_now place rows [] r at is = ap is_duplex_row at ∙ ap is_duplex is
stood_now place rows (deed ∷ deeds) r at is = or_left (is_duplex_row (slice_get rows place)) (stood_duplex place (rows_by_deed deed) deeds) (ap is_duplex_row at ∙ ap is_duplex is)

-- A row that is suspended stands duplex no more.
pub never_stands : (time : ℕ) (rows : List PairRow) (deeds : List Deed) (place : ℕ) (r : PairRow) → RowsGo time rows deeds → slice_get rows place ≡ Some r → is_suspended r.state ≡ true → stood_duplex place rows deeds ≡ false
never_stands time rows [] place r go at is = ap is_duplex_row at ∙ not_duplex r.state is
never_stands time rows (deed ∷ deeds) place r go at is =
    let n = next_at (BecomesAt (time_by_deed time deed)) rows (rows_by_deed deed) place r go.0 at in
    ap (λ (b : Bool). b || stood_duplex place (rows_by_deed deed) deeds) (ap is_duplex_row at ∙ not_duplex r.state is)
    ∙ never_stands (time_by_deed time deed) (rows_by_deed deed) deeds place n.row go.1 n.at (stays_suspended (time_by_deed time deed) r n.row n.goes is)

-- A live row that stands duplex, now or later, does so after a deed too, if it is live there.
pub stands_after : (time : ℕ) (rows : List PairRow) (deed : Deed) (deeds : List Deed) (place : ℕ) (r s : PairRow) → slice_get rows place ≡ Some r → slice_get (rows_by_deed deed) place ≡ Some s → BecomesAt time r s → is_suspended s.state ≡ false
    → stood_duplex place rows (deed ∷ deeds) ≡ true → stood_duplex place (rows_by_deed deed) deeds ≡ true
stands_after time rows deed deeds place r s at next goes live stood = elim (or_cases (is_duplex_row (slice_get rows place)) (stood_duplex place (rows_by_deed deed) deeds) stood) [
  | inl now ↦ stood_now place (rows_by_deed deed) deeds s next (goes.keeps.duplex (duplex_of r.state (ap is_duplex_row (sym at) ∙ now)) live)
  | inr later ↦ later
]

-- A live row that is suspended by a deed stood duplex just before, if it ever did.
pub stood_before : (time : ℕ) (rows : List PairRow) (deed : Deed) (deeds : List Deed) (place : ℕ) (r s : PairRow) → RowsGo time rows (deed ∷ deeds) → slice_get rows place ≡ Some r → slice_get (rows_by_deed deed) place ≡ Some s → is_suspended s.state ≡ true
    → stood_duplex place rows (deed ∷ deeds) ≡ true → r.state ≡ Duplex
stood_before time rows deed deeds place r s go at next is stood = elim (or_cases (is_duplex_row (slice_get rows place)) (stood_duplex place (rows_by_deed deed) deeds) stood) [
  | inl now ↦ duplex_of r.state (ap is_duplex_row (sym at) ∙ now)
  | inr later ↦ absurd (true≢false (sym later ∙ never_stands (time_by_deed time deed) (rows_by_deed deed) deeds place s go.1 next is))
]
