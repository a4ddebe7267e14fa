-- Rows of which one is changed, taken out or added, and the rows of other volumes among them.
use Rattle.std.proofs.Common.{◌≡◌, ◌⊎◌, inl, inr, ℕ, Bool, true, false, cond, not, nat_eq, ◌&&◌, List, [], ◌∷◌, ◌++◌, map, filter, Option, Some, None, refl, sym, ap, subst, ◌∙◌, true≢false}
use Rattle.std.specs.Prelude.{find}
use Rattle.std.proofs.lemmas.Bool.{and_parts, and_from, eq-eqb, eqb-true}
use Rattle.ckd_track.specs.declared.rec.Rec.{Rec}
use Rattle.crash_plant.specs.Choices.{Choice}
use Rattle.crash_plant.specs.Moments.{PlantState}
use Rattle.pair_table.specs.declared.row.PairRow.{PairRow}
use Rattle.pair_table.specs.declared.row.PairState.{PairState}
use Rattle.pair_table.specs.Tables.{is_of, none_clash, row_changed, row_of, without_row}
use Rattle.image_former.specs.Entries.{row_device}
use Rattle.site_means.specs.Sight.{content_of}
use Rattle.fed_logs.specs.Moves.{HasRowIn}
use Rattle.mover.specs.Moves.{is_row_of_volume}
use Rattle.mover.specs.OwedTracks.{IsAny, held_by_choice, held_of_row}
use Rattle.mover.proofs.Failing.{among_map}
use Rattle.mover.proofs.Pairs.{Among, among_cases, among_of, contains_of, device_still, found_of_device, found_row, named_by, pair_of, pairs_of}
use Rattle.mover.proofs.Pairs.Among.{Here, Later}

-- ---- one row

some_row : (a b : PairRow) → (let x : Option PairRow = Some a in let y : Option PairRow = Some b in x ≡ y) → a ≡ b
some_row a b e = cc

-- Rows of one device are one row, and so are rows of one controller and volume.
pub one_of_device : (a b : PairRow) (rows : List PairRow) → none_clash rows ≡ true → Among a rows → Among b rows → a.device ≡ b.device → a ≡ b
one_of_device a b rows apart h g same = some_row a b (sym (found_of_device a rows apart h) ∙ ap (λ (d : ℕ). row_of d rows) same ∙ found_of_device b rows apart g)

pub one_of_volume : (k v : ℕ) (a b : PairRow) (rows : List PairRow) → none_clash rows ≡ true → Among a rows → Among b rows → a.control ≡ k → a.volume ≡ v → b.control ≡ k → b.volume ≡ v → a ≡ b
one_of_volume k v a b rows apart h g ac av bc bv = some_row a b (sym (found_row k v a rows apart h (named_by k v a ac av)) ∙ found_row k v b rows apart g (named_by k v b bc bv))

-- ---- other volumes

abbrev pub IsOther : (k v j w : ℕ) → Type 0
IsOther k v j w = (nat_eq k j && nat_eq v w) ≡ false

pub not_itself : (k v j w : ℕ) → IsOther k v j w → k ≡ j → v ≡ w → ⊥
not_itself k v j w other a b = true≢false (sym (and_from (nat_eq k j) (nat_eq v w) (eq-eqb k j a) (eq-eqb v w b)) ∙ other)

-- A row of another volume was there before.
pub record WasThere (is : PairState → Type 0) (j w : ℕ) (rows : List PairRow) (now : PairRow) : Type 0 where
  pub was : HasRowIn is j w rows
  pub same : was.row ≡ now

-- What becomes of rows, but for one volume's row: other rows are the same, and so is what is held of them.
pub record OthersSame (k v : ℕ) (rows next : List PairRow) : Type 1 where
  pub back : (is : PairState → Type 0) (j w : ℕ) → IsOther k v j w → (has : HasRowIn is j w next) → WasThere is j w rows has.row
  pub forth : (j w : ℕ) → IsOther k v j w → HasRowIn IsAny j w rows → HasRowIn IsAny j w next
  pub held : (plant : PlantState) (c : Choice) (j w x : ℕ) → IsOther k v j w → held_by_choice plant c next j w x ≡ held_by_choice plant c rows j w x

-- ---- a row that is changed, but for its pair

-- A change of a row leaves its pair.
abbrev pub LeavesPair : (PairRow → PairRow) → Type 0
LeavesPair to = (s : PairRow) → pair_of (to s) ≡ pair_of s

module _ (r : PairRow) (to : PairRow → PairRow) (leaves : LeavesPair to) (rows : List PairRow) (apart : none_clash rows ≡ true) (there : Among r rows) where
  abbrev change : PairRow → PairRow
  change s = row_changed r.device to s

  abbrev pub changed : List PairRow
  changed = map (row_changed r.device to) rows

  state_pair : (s : PairRow) → pair_of (change s) ≡ pair_of s
  state_pair s = choose (is_of r.device s)
    where
      choose : (t : Bool) → pair_of (cond t (to s) s) ≡ pair_of s
      choose true = leaves s
      choose false = refl

  pub changed_pairs : pairs_of changed ≡ pairs_of rows
  changed_pairs = all rows
    where
      all : (rows : List PairRow) → pairs_of (map change rows) ≡ pairs_of rows
      all [] = refl
      all (s ∷ rows) = λ i. state_pair s i ∷ all rows i

  among_changed : (s : PairRow) (some : List PairRow) → Among s some → Among (change s) (map change some)
  among_changed s _ (Here some) = Here (map change some)
  among_changed s _ (Later t some there) = Later (change t) (map change some) (among_changed s some there)

  -- the row itself, changed
  changed_itself : change r ≡ to r
  changed_itself = ap (λ (t : Bool). cond t (to r) r) (eq-eqb r.device r.device refl)

  state_back : (is : PairState → Type 0) (j w : ℕ) → IsOther r.control r.volume j w → (has : HasRowIn is j w changed) → WasThere is j w rows has.row
  state_back is j w other has =
      let m = among_map change has.row rows (among_of changed has.row has.among) in
      choose m.row m.among m.is (is_of r.device m.row) refl
    where
      choose : (s : PairRow) → Among s rows → change s ≡ has.row → (t : Bool) → is_of r.device s ≡ t → WasThere is j w rows has.row
      choose s among is false at =
          let same : s ≡ has.row = sym (ap (λ (t : Bool). cond t (to s) s) at) ∙ is in
          record {
            was = record { row = has.row; among = contains_of has.row rows (subst (λ (x : PairRow). Among x rows) same among); control = has.control; volume = has.volume; state = has.state };
            same = refl;
          }
      choose s among is true at =
          let itself : r ≡ s = one_of_device r s rows apart there among (eqb-true r.device s.device at) in
          let pair : pair_of s ≡ pair_of has.row = sym (state_pair s) ∙ ap pair_of is in
          let control : r.control ≡ j = ap (λ (x : PairRow). x.control) itself ∙ ap (λ (x : PairRow). x.control) pair ∙ has.control in
          let volume : r.volume ≡ w = ap (λ (x : PairRow). x.volume) itself ∙ ap (λ (x : PairRow). x.volume) pair ∙ has.volume in
          absurd (not_itself r.control r.volume j w other control volume)

  held_pairs : (plant : PlantState) (c : Choice) (j w x : ℕ) → held_by_choice plant c changed j w x ≡ held_by_choice plant c rows j w x
  held_pairs plant c j w x = by_device (find (is_row_of_volume j w) changed) (find (is_row_of_volume j w) rows) (device_still (is_row_of_volume j w) (λ s. refl) rows changed changed_pairs)
    where
      device_content : Option ℕ → Option (List Rec)
      device_content (Some d) = content_of plant c d x
      device_content None = None

      of_device : (o : Option PairRow) → held_of_row plant c x o ≡ device_content (row_device o)
      of_device (Some s) = refl
      of_device None = refl

      by_device : (o p : Option PairRow) → row_device o ≡ row_device p → held_of_row plant c x o ≡ held_of_row plant c x p
      by_device o p same = of_device o ∙ ap device_content same ∙ sym (of_device p)

  pub changed_others : OthersSame r.control r.volume rows changed
  changed_others = record {
    back = state_back;
    forth = λ j w other has. record {
      row = change has.row;
      among = contains_of (change has.row) changed (among_changed has.row rows (among_of rows has.row has.among));
      control = ap (λ (s : PairRow). s.control) (state_pair has.row) ∙ has.control;
      volume = ap (λ (s : PairRow). s.volume) (state_pair has.row) ∙ has.volume;
      state = tt;
    };
    held = λ plant c j w x other. held_pairs plant c j w x;
  }

  pub changed_held : (plant : PlantState) (c : Choice) (x : ℕ) → held_by_choice plant c changed r.control r.volume x ≡ held_by_choice plant c rows r.control r.volume x
  changed_held plant c x = held_pairs plant c r.control r.volume x

  -- The row of the volume is this row, changed.
  pub changed_own : (is : PairState → Type 0) (has : HasRowIn is r.control r.volume changed) → has.row ≡ to r
  changed_own is has =
      let m = among_map change has.row rows (among_of changed has.row has.among) in
      let pair : pair_of m.row ≡ pair_of has.row = sym (state_pair m.row) ∙ ap pair_of m.is in
      let itself : m.row ≡ r = one_of_volume r.control r.volume m.row r rows apart m.among there (ap (λ (s : PairRow). s.control) pair ∙ has.control) (ap (λ (s : PairRow). s.volume) pair ∙ has.volume) refl refl in
      sym m.is ∙ ap change itself ∙ changed_itself

  pub itself_among : Among (to r) changed
  itself_among = subst (λ (s : PairRow). Among s changed) changed_itself (among_changed r rows there)

  pub itself_there : HasRowIn IsAny r.control r.volume changed
  itself_there = record {
    row = to r;
    among = contains_of (to r) changed itself_among;
    control = ap (λ (s : PairRow). s.control) (leaves r);
    volume = ap (λ (s : PairRow). s.volume) (leaves r);
    state = tt;
  }

-- ---- a row that is taken out

pub among_kept : (keep : PairRow → Bool) (s : PairRow) (rows : List PairRow) → Among s (filter keep rows) → Among s rows × (keep s ≡ true)
among_kept keep s [] there = absurd (among_cases s [] there)
among_kept keep s (t ∷ rows) there = choose (keep t) refl there (among_kept keep s rows)
  where
    choose : (b : Bool) → keep t ≡ b → Among s (cond b (t ∷ filter keep rows) (filter keep rows)) → (Among s (filter keep rows) → Among s rows × (keep s ≡ true)) → Among s (t ∷ rows) × (keep s ≡ true)
    choose false is among others = let h = others among in (Later t rows h.0, h.1)
    choose true is among others = elim (among_cases s (t ∷ filter keep rows) among) [
      | inl same ↦ (subst (λ (x : PairRow). Among x (t ∷ rows)) same (Here rows), subst (λ (x : PairRow). keep x ≡ true) same is)
      | inr later ↦ let h = others later in (Later t rows h.0, h.1)
    ]

pub kept_among : (keep : PairRow → Bool) (s : PairRow) (rows : List PairRow) → keep s ≡ true → Among s rows → Among s (filter keep rows)
kept_among keep s _ is (Here rows) = ap_cond (keep s) is
  where
    ap_cond : (b : Bool) → b ≡ true → Among s (cond b (s ∷ filter keep rows) (filter keep rows))
    ap_cond true is = Here (filter keep rows)
    ap_cond false is = absurd (true≢false (sym is))
kept_among keep s _ is (Later t rows there) = choose (keep t) (kept_among keep s rows is there)
  where
    choose : (b : Bool) → Among s (filter keep rows) → Among s (cond b (t ∷ filter keep rows) (filter keep rows))
    choose true h = Later t (filter keep rows) h
    choose false h = h

found_kept : (test keep : PairRow → Bool) (rows : List PairRow) → ((s : PairRow) → Among s rows → test s ≡ true → keep s ≡ true) → find test (filter keep rows) ≡ find test rows
found_kept test keep [] all = refl
found_kept test keep (t ∷ rows) all = choose (keep t) refl (test t) refl (found_kept test keep rows (λ s there. all s (Later t rows there)))
  where
    choose : (b : Bool) → keep t ≡ b → (a : Bool) → test t ≡ a → find test (filter keep rows) ≡ find test rows → find test (cond b (t ∷ filter keep rows) (filter keep rows)) ≡ cond a (Some t) (find test rows)
    choose false is true at others = absurd (true≢false (sym (all t (Here rows) at) ∙ is))
    choose false is false at others = others
    choose true is a at others = ap (λ (x : Bool). cond x (Some t) (find test (filter keep rows))) at ∙ ap (λ (o : Option PairRow). cond a (Some t) o) others

module _ (r : PairRow) (rows : List PairRow) (apart : none_clash rows ≡ true) (there : Among r rows) where
  abbrev keeps : PairRow → Bool
  keeps s = not (is_of r.device s)

  -- a row of another volume stays
  other_stays : (j w : ℕ) → IsOther r.control r.volume j w → (s : PairRow) → Among s rows → s.control ≡ j → s.volume ≡ w → keeps s ≡ true
  other_stays j w other s among control volume = choose (is_of r.device s) refl
    where
      choose : (t : Bool) → is_of r.device s ≡ t → not t ≡ true
      choose false is = refl
      choose true is =
          let itself : r ≡ s = one_of_device r s rows apart there among (eqb-true r.device s.device is) in
          absurd (not_itself r.control r.volume j w other (ap (λ (x : PairRow). x.control) itself ∙ control) (ap (λ (x : PairRow). x.volume) itself ∙ volume))

  pub without_others : OthersSame r.control r.volume rows (without_row r.device rows)
  without_others = record {
    back = λ is j w other has.
        let m = among_kept keeps has.row rows (among_of (without_row r.device rows) has.row has.among) in
        record { was = record { row = has.row; among = contains_of has.row rows m.0; control = has.control; volume = has.volume; state = has.state }; same = refl };
    forth = λ j w other has.
        let among = among_of rows has.row has.among in
        record {
          row = has.row;
          among = contains_of has.row (without_row r.device rows) (kept_among keeps has.row rows (other_stays j w other has.row among has.control has.volume) among);
          control = has.control;
          volume = has.volume;
          state = tt;
        };
    held = λ plant c j w x other. ap (held_of_row plant c x) (found_kept (is_row_of_volume j w) keeps rows (λ s among is.
        let p = and_parts (nat_eq s.control j) (nat_eq s.volume w) is in
        other_stays j w other s among (eqb-true s.control j p.0) (eqb-true s.volume w p.1)));
  }

  -- The volume has no row any more.
  pub without_own : (is : PairState → Type 0) → HasRowIn is r.control r.volume (without_row r.device rows) → ⊥
  without_own is has =
      let m = among_kept keeps has.row rows (among_of (without_row r.device rows) has.row has.among) in
      let itself : has.row ≡ r = one_of_volume r.control r.volume has.row r rows apart m.0 there has.control has.volume refl refl in
      true≢false (sym m.1 ∙ ap not (eq-eqb r.device has.row.device (ap (λ (s : PairRow). s.device) (sym itself))))

-- ---- a row that is added

pub among_first : (s : PairRow) (rows more : List PairRow) → Among s rows → Among s (rows ++ more)
among_first s _ more (Here rows) = Here (rows ++ more)
among_first s _ more (Later t rows there) = Later t (rows ++ more) (among_first s rows more there)

pub among_last : (r : PairRow) (rows : List PairRow) → Among r (rows ++ r ∷ [])
among_last r [] = Here []
among_last r (t ∷ rows) = Later t (rows ++ r ∷ []) (among_last r rows)

pub among_either : (s r : PairRow) (rows : List PairRow) → Among s (rows ++ r ∷ []) → Among s rows ⊎ (r ≡ s)
among_either s r [] there = elim (among_cases s (r ∷ []) there) [ inl same ↦ inr same | inr later ↦ absurd (among_cases s [] later) ]
among_either s r (t ∷ rows) there = elim (among_cases s (t ∷ (rows ++ r ∷ [])) there) [
  | inl same ↦ inl (subst (λ (x : PairRow). Among x (t ∷ rows)) same (Here rows))
  | inr later ↦ elim (among_either s r rows later) [ inl before ↦ inl (Later t rows before) | inr same ↦ inr same ]
]

found_first : (test : PairRow → Bool) (r : PairRow) (rows : List PairRow) → test r ≡ false → find test (rows ++ r ∷ []) ≡ find test rows
found_first test r [] none = ap (λ (t : Bool). cond t (Some r) None) none
found_first test r (t ∷ rows) none = ap (λ (o : Option PairRow). cond (test t) (Some t) o) (found_first test r rows none)

module _ (r : PairRow) (rows : List PairRow) (apart : none_clash (rows ++ r ∷ []) ≡ true) where
  pub added_others : OthersSame r.control r.volume rows (rows ++ r ∷ [])
  added_others = record {
    back = λ is j w other has. elim (among_either has.row r rows (among_of (rows ++ r ∷ []) has.row has.among)) [
      | inl before ↦ record { was = record { row = has.row; among = contains_of has.row rows before; control = has.control; volume = has.volume; state = has.state }; same = refl }
      | inr same ↦ absurd (not_itself r.control r.volume j w other (ap (λ (s : PairRow). s.control) same ∙ has.control) (ap (λ (s : PairRow). s.volume) same ∙ has.volume))
    ];
    forth = λ j w other has. record { row = has.row; among = contains_of has.row (rows ++ r ∷ []) (among_first has.row rows (r ∷ []) (among_of rows has.row has.among)); control = has.control; volume = has.volume; state = tt };
    held = λ plant c j w x other. ap (held_of_row plant c x) (found_first (is_row_of_volume j w) r rows other);
  }

  -- The row of the volume is the new one.
  pub added_own : (is : PairState → Type 0) (has : HasRowIn is r.control r.volume (rows ++ r ∷ [])) → has.row ≡ r
  added_own is has = one_of_volume r.control r.volume has.row r (rows ++ r ∷ []) apart (among_of (rows ++ r ∷ []) has.row has.among) (among_last r rows) has.control has.volume refl refl

  pub added_there : HasRowIn IsAny r.control r.volume (rows ++ r ∷ [])
  added_there = record { row = r; among = contains_of r (rows ++ r ∷ []) (among_last r rows); control = refl; volume = refl; state = tt }
