-- Duplex pairs redone one after another.
use Rattle.std.proofs.Common.{◌≡◌, ◌≢◌, ◌<◌, ◌==◌, ◌&&◌, ◌||◌, ◌+◌, ◌++◌, ◌∷◌, ◌⊎◌, inl, inr, ℕ, zero, suc, Bool, true, false, not, cond, List, [], length, take, Option, None, Some, refl, sym, ◌∙◌, ap, subst, arith}
use Rattle.std.specs.Prelude.{All, find, filter, map, slice_get, slice_index_or}
use Rattle.std.specs.List.{list_any}
use Rattle.std.proofs.lemmas.Bool.{and_parts, and_from, cases_eq, eq-eqb, eqb-false, eqb-true}
use Rattle.std.proofs.lemmas.List.{append-nil, map-append}
use Rattle.std.proofs.lemmas.List.Elements.{All-nil, All-cons, All-head, All-tail, All-push, filter-append}
use Rattle.std.proofs.lemmas.List.Folds.{list_any-append}
use Rattle.std.proofs.lemmas.Option.{slice_get-get_or}
use Rattle.crash_plant.specs.declared.device.Device.{Device}
use Rattle.crash_plant.specs.declared.device.Device.TheVariants.{Control, State, Journal, Volume}
use Rattle.crash_plant.specs.Moments.{PlantState, Follows, Same, on}
use Rattle.crash_plant.proofs.Steps.{follows_here, follows_then}
use Rattle.pair_table.specs.declared.row.PairRow.{PairRow}
use Rattle.pair_table.specs.Tables.{clashes, is_of, none_clash}
use Rattle.site_means.proofs.ReadAll.{reads_none}
use Rattle.xrc_journal.specs.Items.{Item}
use Rattle.xrc_journal.specs.Jobs.{FailsByCount}
use Rattle.xrecover.specs.Pairs.{HasDuplex, duplex_devices, is_duplex_of}
use Rattle.pair_table.specs.States.{is_duplex}
use Rattle.xrecover.specs.FinishedPairs.{FinishesPairs}
use Rattle.xrecover.specs.Labels.{TreatsLabels}
use Rattle.xrecover.specs.Works.{Nothing, OfOneVolume, Works}
use Rattle.xrecover.specs.declared.labelling.Labelling.{Labelling}
use Rattle.xrecover.specs.RedoneVolumes.{BearsLabel, Draws, HoldsTracks, IsRedone, Recovers, Redoes}
use Rattle.xrecover.proofs.Relations.{recovers_same, redoes_same}
use Rattle.xrecover.proofs.Rows.{recovers_one}
use Rattle.xrecover.proofs.Works.{works_more, works_reads, works_trans}

-- ---- rows of one device

-- None of these rows is of the row's device.
abbrev pub Apart : List PairRow → PairRow → Type 0
Apart rows r = All (λ q. q.device ≢ r.device) rows

clash_apart : (q r : PairRow) → clashes q r ≡ false → q.device ≢ r.device
clash_apart q r none = eqb-false q.device r.device (middle _ (q.device == r.device) _ none)
  where
    middle : (a b c : Bool) → (a || b || c) ≡ false → b ≡ false
    middle true b c e = absurd cc
    middle false true c e = absurd cc
    middle false false c e = refl

not_false : (b : Bool) → not b ≡ true → b ≡ false
not_false true e = absurd cc
not_false false e = refl

none_of : (q r : PairRow) (rows : List PairRow) (i : ℕ) → list_any (clashes q) rows ≡ false → slice_get rows i ≡ Some r → clashes q r ≡ false
none_of q r [] i none is = absurd cc
none_of q r (p ∷ rows) zero none is = let same : p ≡ r = cc in ap (clashes q) (sym same) ∙ (either (clashes q p) (list_any (clashes q) rows) none).0
  where
    either : (a b : Bool) → (a || b) ≡ false → (a ≡ false) × (b ≡ false)
    either true b e = absurd cc
    either false b e = (refl, e)
none_of q r (p ∷ rows) (suc i) none is = none_of q r rows i (either (clashes q p) (list_any (clashes q) rows) none).1 is
  where
    either : (a b : Bool) → (a || b) ≡ false → (a ≡ false) × (b ≡ false)
    either true b e = absurd cc
    either false b e = (refl, e)

-- Rows that don't clash are of devices of their own.
pub apart_before : (rows : List PairRow) (i : ℕ) (r : PairRow) → none_clash rows ≡ true → slice_get rows i ≡ Some r → Apart (take i rows) r
apart_before [] i r none is = absurd cc
apart_before (q ∷ rows) zero r none is = All-nil (λ p. p.device ≢ r.device)
apart_before (q ∷ rows) (suc i) r none is =
    let parts = and_parts (not (list_any (clashes q) rows)) (none_clash rows) none in
    All-cons (λ p. p.device ≢ r.device) q (take i rows) (clash_apart q r (none_of q r rows i (not_false (list_any (clashes q) rows) parts.0) is)) (apart_before rows i r parts.1 is)

take_next : (rows : List PairRow) (i : ℕ) (r : PairRow) → slice_get rows i ≡ Some r → take (suc i) rows ≡ take i rows ++ r ∷ []
take_next [] i r is = absurd cc
take_next (q ∷ rows) zero r is = let same : q ≡ r = cc in ap (λ (p : PairRow). p ∷ []) same
take_next (q ∷ rows) (suc i) r is = ap (λ (l : List PairRow). q ∷ l) (take_next rows i r is)

pub take_more : (rows : List PairRow) (i : ℕ) (r : PairRow) → slice_get rows i ≡ Some r → take (i + 1) rows ≡ take i rows ++ r ∷ []
take_more rows i r is = let on : i + 1 ≡ suc i = omega arith in ap (λ (n : ℕ). take n rows) on ∙ take_next rows i r is

-- A row of the same device is the same row.
pub same_row : (rows : List PairRow) (i : ℕ) (r : PairRow) (k : ℕ) (d : PairRow) → none_clash rows ≡ true → slice_get rows i ≡ Some r → k < length rows → (slice_index_or rows k d).device ≡ r.device → slice_index_or rows k d ≡ r
same_row [] i r k d none is lt own = absurd cc
same_row (q ∷ rows) zero r zero d none is lt own = let same : q ≡ r = cc in same
same_row (q ∷ rows) zero r (suc k) d none is lt own =
    let parts = and_parts (not (list_any (clashes q) rows)) (none_clash rows) none in
    let same : q ≡ r = cc in
    let there : slice_get rows k ≡ Some (slice_index_or rows k d) = slice_get-get_or rows k d (omega (arith, lt)) in
    absurd (clash_apart q (slice_index_or rows k d) (none_of q (slice_index_or rows k d) rows k (not_false (list_any (clashes q) rows) parts.0) there) (ap (λ (p : PairRow). p.device) same ∙ sym own))
same_row (q ∷ rows) (suc i) r zero d none is lt own =
    let parts = and_parts (not (list_any (clashes q) rows)) (none_clash rows) none in
    absurd (clash_apart q r (none_of q r rows i (not_false (list_any (clashes q) rows) parts.0) is) own)
same_row (q ∷ rows) (suc i) r (suc k) d none is lt own = same_row rows i r k d (and_parts (not (list_any (clashes q) rows)) (none_clash rows) none).1 is (omega (arith, lt)) own

-- ---- duplex pairs of more rows

pub none_duplex : (front : List PairRow) (r : PairRow) → Apart front r → list_any (is_duplex_of r.device) front ≡ false
none_duplex [] r apart = refl
none_duplex (q ∷ front) r apart = (λ i. first (r.device == q.device) refl i || none_duplex front r (All-tail (λ p. p.device ≢ r.device) q front apart) i)
  where
    first : (b : Bool) → (r.device == q.device) ≡ b → is_duplex_of r.device q ≡ false
    first true is = absurd (All-head (λ p. p.device ≢ r.device) q front apart (sym (eqb-true r.device q.device is)))
    first false is = ap (λ (b : Bool). b && is_duplex q.state) is

duplex_cases : (rows : List PairRow) (v : ℕ) → HasDuplex rows v ⊎ (list_any (is_duplex_of v) rows ≡ false)
duplex_cases rows v = by_test (list_any (is_duplex_of v) rows) refl
  where
    by_test : (b : Bool) → list_any (is_duplex_of v) rows ≡ b → HasDuplex rows v ⊎ (list_any (is_duplex_of v) rows ≡ false)
    by_test true is = inl is
    by_test false is = inr is

duplex_before : (front more : List PairRow) (v : ℕ) → HasDuplex front v → HasDuplex (front ++ more) v
duplex_before front more v has = list_any-append (is_duplex_of v) front more ∙ (λ i. has i || list_any (is_duplex_of v) more)

duplex_last : (front : List PairRow) (r : PairRow) → is_duplex r.state ≡ true → HasDuplex (front ++ r ∷ []) r.device
duplex_last front r duplex =
    let own : is_duplex_of r.device r ≡ true = and_from (is_of r.device r) (is_duplex r.state) (eq-eqb r.device r.device refl) duplex in
    list_any-append (is_duplex_of r.device) front (r ∷ []) ∙ (λ i. list_any (is_duplex_of r.device) front || (own i || false)) ∙ right (list_any (is_duplex_of r.device) front)
  where
    right : (b : Bool) → (b || true) ≡ true
    right true = refl
    right false = refl

-- Rows after a row that clashes with none of them are of other devices.
apart_after : (q : PairRow) (rows : List PairRow) → list_any (clashes q) rows ≡ false → Apart rows q
apart_after q [] none = All-nil (λ p. p.device ≢ q.device)
apart_after q (p ∷ rows) none =
    let parts = neither (clashes q p) (list_any (clashes q) rows) none in
    All-cons (λ p. p.device ≢ q.device) p rows (λ same. clash_apart q p parts.0 (sym same)) (apart_after q rows parts.1)
  where
    neither : (a b : Bool) → (a || b) ≡ false → (a ≡ false) × (b ≡ false)
    neither true b e = absurd cc
    neither false b e = (refl, e)

abbrev pub is_duplex_row : Option PairRow → Bool
is_duplex_row None = false
is_duplex_row (Some r) = is_duplex r.state

-- A device has a duplex pair where its row is one.
pub duplex_found : (v : ℕ) (rows : List PairRow) → none_clash rows ≡ true → list_any (is_duplex_of v) rows ≡ is_duplex_row (find (is_of v) rows)
duplex_found v [] none = refl
duplex_found v (q ∷ rows) none =
    let parts = and_parts (not (list_any (clashes q) rows)) (none_clash rows) none in
    by_first (is_of v q) refl (duplex_found v rows parts.1) (apart_after q rows (not_false (list_any (clashes q) rows) parts.0))
  where
    or_none : (b : Bool) → (b || false) ≡ b
    or_none true = refl
    or_none false = refl

    by_first : (b : Bool) → is_of v q ≡ b → list_any (is_duplex_of v) rows ≡ is_duplex_row (find (is_of v) rows) → Apart rows q → (b && is_duplex q.state || list_any (is_duplex_of v) rows) ≡ is_duplex_row (cond b (Some q) (find (is_of v) rows))
    by_first false e more apart = more
    by_first true e more apart =
        let none : list_any (is_duplex_of v) rows ≡ false = ap (λ (n : ℕ). list_any (is_duplex_of n) rows) (eqb-true v q.device e) ∙ none_duplex rows q apart in
        (λ i. is_duplex q.state || none i) ∙ or_none (is_duplex q.state)

-- Volumes of more pairs may differ.
pub recovers_more : (front more : List PairRow) (items : List Item) (d : Device) (x y : List ℕ) → Recovers front items d x y → Recovers (front ++ more) items d x y
recovers_more front more items Control x y p = p
recovers_more front more items State x y p = p
recovers_more front more items (Journal j) x y p = p
recovers_more front more items (Volume v) x y p = elim (duplex_cases front v) [
  | inl has ↦ (λ _. p.0 has, λ none. absurd (none (duplex_before front more v has)))
  | inr none ↦ let same : y ≡ x = p.1 (λ has. absurd (cc (has, none))) in (λ _. redoes_same v items x y same, λ _. same)
]

-- ---- the devices that failed

abbrev pub with_flag : (device : ℕ) → Bool → (ℕ → Bool) → ℕ → Bool
with_flag device b has_failed v = cond (v == device) b (has_failed v)

flag_here : (device : ℕ) (b : Bool) (has_failed : ℕ → Bool) → with_flag device b has_failed device ≡ b
flag_here device b has_failed = ap (λ (t : Bool). cond t b (has_failed device)) (eq-eqb device device refl)

flag_other : (device v : ℕ) (b : Bool) (has_failed : ℕ → Bool) → v ≢ device → with_flag device b has_failed v ≡ has_failed v
flag_other device v b has_failed differ = by_test (v == device) refl
  where
    by_test : (t : Bool) → (v == device) ≡ t → cond t b (has_failed v) ≡ has_failed v
    by_test true is = absurd (differ (eqb-true v device is))
    by_test false is = refl

-- Flags that are the same but at one device, which none of the rows is of.
listed_same : (front : List PairRow) (r : PairRow) (f g : ℕ → Bool) → ((v : ℕ) → v ≢ r.device → f v ≡ g v) → Apart front r → filter f (duplex_devices front) ≡ filter g (duplex_devices front)
listed_same [] r f g same apart = refl
listed_same (q ∷ front) r f g same apart =
    by_duplex (is_duplex q.state) (listed_same front r f g same (All-tail (λ p. p.device ≢ r.device) q front apart)) (same q.device (All-head (λ p. p.device ≢ r.device) q front apart))
  where
    by_duplex : (d : Bool) → filter f (duplex_devices front) ≡ filter g (duplex_devices front) → f q.device ≡ g q.device
        → filter f (map (λ (p : PairRow). p.device) (cond d (q ∷ filter (λ p. is_duplex p.state) front) (filter (λ p. is_duplex p.state) front))) ≡ filter g (map (λ (p : PairRow). p.device) (cond d (q ∷ filter (λ p. is_duplex p.state) front) (filter (λ p. is_duplex p.state) front)))
    by_duplex true more own = (λ i. cond (own i) (q.device ∷ more i) (more i))
    by_duplex false more own = more

pub devices_append : (front : List PairRow) (r : PairRow) (d : Bool) → is_duplex r.state ≡ d → duplex_devices (front ++ r ∷ []) ≡ duplex_devices front ++ cond d (r.device ∷ []) []
devices_append front r d is =
    ap (map (λ (p : PairRow). p.device)) (filter-append (λ (p : PairRow). is_duplex p.state) front (r ∷ []))
    ∙ map-append (λ (p : PairRow). p.device) (filter (λ p. is_duplex p.state) front) (filter (λ p. is_duplex p.state) (r ∷ []))
    ∙ (λ i. duplex_devices front ++ map (λ (p : PairRow). p.device) (cond (is i) (r ∷ []) [])) ∙ ap (λ (l : List ℕ). duplex_devices front ++ l) (by_flag d)
  where
    by_flag : (d : Bool) → map (λ (p : PairRow). p.device) (cond d (r ∷ []) []) ≡ cond d (r.device ∷ []) []
    by_flag true = refl
    by_flag false = refl

-- What holds of the devices that are listed holds of each duplex row's that failed.
pub all_listed : (G : ℕ → Type 0) (has_failed : ℕ → Bool) (rows : List PairRow) → All G (filter has_failed (duplex_devices rows)) → All (λ row. is_duplex row.state ≡ true → has_failed row.device ≡ true → G row.device) rows
all_listed G has_failed [] all = All-nil (λ row. is_duplex row.state ≡ true → has_failed row.device ≡ true → G row.device)
all_listed G has_failed (q ∷ rows) all = by_duplex (is_duplex q.state) refl all (λ more. all_listed G has_failed rows more)
  where
    by_failed : (h : Bool) → has_failed q.device ≡ h → All G (cond h (q.device ∷ filter has_failed (duplex_devices rows)) (filter has_failed (duplex_devices rows)))
        → (All G (filter has_failed (duplex_devices rows)) → All (λ row. is_duplex row.state ≡ true → has_failed row.device ≡ true → G row.device) rows) → All (λ row. is_duplex row.state ≡ true → has_failed row.device ≡ true → G row.device) (q ∷ rows)
    by_failed true is all more = All-cons (λ row. is_duplex row.state ≡ true → has_failed row.device ≡ true → G row.device) q rows
        (λ d h. All-head G q.device (filter has_failed (duplex_devices rows)) all) (more (All-tail G q.device (filter has_failed (duplex_devices rows)) all))
    by_failed false is all more = All-cons (λ row. is_duplex row.state ≡ true → has_failed row.device ≡ true → G row.device) q rows (λ d h. absurd (cc (is, h))) (more all)

    by_duplex : (d : Bool) → is_duplex q.state ≡ d → All G (filter has_failed (map (λ (p : PairRow). p.device) (cond d (q ∷ filter (λ p. is_duplex p.state) rows) (filter (λ p. is_duplex p.state) rows))))
        → (All G (filter has_failed (duplex_devices rows)) → All (λ row. is_duplex row.state ≡ true → has_failed row.device ≡ true → G row.device) rows) → All (λ row. is_duplex row.state ≡ true → has_failed row.device ≡ true → G row.device) (q ∷ rows)
    by_duplex true is all more = by_failed (has_failed q.device) refl all more
    by_duplex false is all more = All-cons (λ row. is_duplex row.state ≡ true → has_failed row.device ≡ true → G row.device) q rows (λ d h. absurd (cc (is, d))) (more all)

-- ---- one pair more

abbrev pub either : (left has_failed : ℕ → Bool) → ℕ → Bool
either left has_failed v = left v || has_failed v

-- The pairs of these rows are done, or their volumes failed, but those that are left alone.
pub record Going (tells : Type 0) (labelling : Labelling) (left : ℕ → Bool) (items : List Item) (front : List PairRow) (failed : List ℕ) (old now : PlantState) : Type 0 where
  pub works : Works tells (Recovers front items) old now
  pub has_failed : ℕ → Bool
  pub listed : failed ≡ filter (either left has_failed) (duplex_devices front)
  pub are_duplex : (v : ℕ) → has_failed v ≡ true → HasDuplex front v
  pub were_fit : (v : ℕ) → has_failed v ≡ true → left v ≡ false
  pub counted : (v : ℕ) → FailsByCount (has_failed v) (old.faults (Volume v)) (now.faults (Volume v))
  pub redone : tells → All (λ row. is_duplex row.state ≡ true → left row.device ≡ false → has_failed row.device ≡ false → IsRedone labelling row items old now) front
  pub stays : tells → (v : ℕ) → left v ≡ true → (now.bytes (Volume v) ≡ old.bytes (Volume v)) × Follows Same (on old (Volume v)) (on now (Volume v))

pub going_first : (tells : Type 0) (labelling : Labelling) (left : ℕ → Bool) (items : List Item) (a : PlantState) → Going tells labelling left items [] [] a a
going_first tells labelling left items a = record {
  works = works_more tells Nothing (Recovers [] items) a a (λ told d x y e. recovers_same [] items d x y e) (works_reads tells a a (reads_none tells a));
  has_failed = λ v. false;
  listed = refl;
  are_duplex = λ v is. absurd cc;
  were_fit = λ v is. absurd cc;
  counted = λ v. record { later = omega arith; by_one = omega arith; same = λ _. refl; rose = λ is. absurd cc };
  redone = λ told. All-nil _;
  stays = λ told v is. (refl, follows_here (on a (Volume v)) Same (λ b now. refl));
}

-- A pair that isn't duplex is left.
pub going_other : (tells : Type 0) (labelling : Labelling) (left : ℕ → Bool) (items : List Item) (front : List PairRow) (r : PairRow) (failed : List ℕ) (a b : PlantState) → is_duplex r.state ≡ false → Going tells labelling left items front failed a b → Going tells labelling left items (front ++ r ∷ []) failed a b
going_other tells labelling left items front r failed a b other g = record {
  works = works_more tells (Recovers front items) (Recovers (front ++ r ∷ []) items) a b (λ told d x y p. recovers_more front (r ∷ []) items d x y p) g.works;
  has_failed = g.has_failed;
  listed = g.listed ∙ sym (ap (filter (either left g.has_failed)) (devices_append front r false other) ∙ nil_after);
  are_duplex = λ v is. duplex_before front (r ∷ []) v (g.are_duplex v is);
  were_fit = g.were_fit;
  counted = g.counted;
  redone = λ told. All-push (λ row. is_duplex row.state ≡ true → left row.device ≡ false → g.has_failed row.device ≡ false → IsRedone labelling row items a b) front r (g.redone told) (λ duplex. absurd (cc (duplex, other)));
  stays = g.stays;
}
  where
    nil_after : filter (either left g.has_failed) (duplex_devices front ++ []) ≡ filter (either left g.has_failed) (duplex_devices front)
    nil_after = filter-append (either left g.has_failed) (duplex_devices front) [] ∙ append-nil (filter (either left g.has_failed) (duplex_devices front))

-- A duplex pair whose volume is left alone has failed before.
pub going_left : (tells : Type 0) (labelling : Labelling) (left : ℕ → Bool) (items : List Item) (front : List PairRow) (r : PairRow) (failed : List ℕ) (a b : PlantState) → is_duplex r.state ≡ true → left r.device ≡ true → Going tells labelling left items front failed a b
    → Going tells labelling left items (front ++ r ∷ []) (failed ++ r.device ∷ []) a b
going_left tells labelling left items front r failed a b duplex alone g = record {
  works = works_more tells (Recovers front items) (Recovers (front ++ r ∷ []) items) a b (λ told d x y p. recovers_more front (r ∷ []) items d x y p) g.works;
  has_failed = g.has_failed;
  listed =
      (λ i. g.listed i ++ cond (either_left (sym alone i) (g.has_failed r.device)) (r.device ∷ []) []) ∙ sym (filter-append (either left g.has_failed) (duplex_devices front) (r.device ∷ []))
      ∙ ap (filter (either left g.has_failed)) (sym (devices_append front r true duplex));
  are_duplex = λ v is. duplex_before front (r ∷ []) v (g.are_duplex v is);
  were_fit = g.were_fit;
  counted = g.counted;
  redone = λ told. All-push (λ row. is_duplex row.state ≡ true → left row.device ≡ false → g.has_failed row.device ≡ false → IsRedone labelling row items a b) front r (g.redone told) (λ duplex fit. absurd (cc (alone, fit)));
  stays = g.stays;
}
  where
    either_left : Bool → Bool → Bool
    either_left one other = one || other

module _ (tells : Type 0) (labelling : Labelling) (left : ℕ → Bool) (items : List Item) (front : List PairRow) (r : PairRow) (failed : List ℕ) (flag : Bool) (a b c : PlantState) (going : Going tells labelling left items front failed a b) (duplex : is_duplex r.state ≡ true) (fit : left r.device ≡ false) (apart : Apart front r)
    (works : Works tells (OfOneVolume r.device (Redoes r.device items)) b c) (counts : (v : ℕ) → v ≢ r.device → c.faults (Volume v) ≡ b.faults (Volume v)) (cause : FailsByCount flag (b.faults (Volume r.device)) (c.faults (Volume r.device)))
    (redone : tells → flag ≡ false → IsRedone labelling r items b c) where
  -- Its volume had not failed, and its count stood.
  unfailed : going.has_failed r.device ≡ false
  unfailed = by_flag (going.has_failed r.device) refl
    where
      by_flag : (h : Bool) → going.has_failed r.device ≡ h → going.has_failed r.device ≡ false
      by_flag true is = let has = going.are_duplex r.device is in let none = none_duplex front r apart in absurd (cc (has, none))
      by_flag false is = is

  counted_here : FailsByCount flag (a.faults (Volume r.device)) (c.faults (Volume r.device))
  counted_here = subst (λ (n : ℕ). FailsByCount flag n (c.faults (Volume r.device))) ((going.counted r.device).same unfailed) cause

  -- what was done stays
  redone_still : (told : tells) (row : PairRow) → row.device ≢ r.device → IsRedone labelling row items a b → IsRedone labelling row items a c
  redone_still told row differ done =
      let same : c.bytes (Volume row.device) ≡ b.bytes (Volume row.device) = (works.bytes told (Volume row.device)).1 differ in
      record {
        draws = subst (λ (l : List ℕ). Draws row.device items (a.bytes (Volume row.device)) l) (sym same) done.draws;
        content = subst (λ (l : List ℕ). HoldsTracks row.device items (a.bytes (Volume row.device)) l) (sym same) done.content;
        label = subst (λ (l : List ℕ). BearsLabel labelling row (a.bytes (Volume row.device)) l) (sym same) done.label;
        durable = λ z left.
            let came = works.moments told (Volume row.device) c.clock ((works.elapses told).kept (Volume row.device)).later (omega arith) z left in
            (came.2).1 differ ∙ done.durable came.0 came.1 ∙ sym same;
      }

  -- The volume was as at first.
  redone_here : (told : tells) → flag ≡ false → IsRedone labelling r items a c
  redone_here told good =
      let same : b.bytes (Volume r.device) ≡ a.bytes (Volume r.device) = (going.works.bytes told (Volume r.device)).1 (λ has. let none = none_duplex front r apart in absurd (cc (has, none))) in
      let done = redone told good in
      record {
        draws = subst (λ (l : List ℕ). Draws r.device items l (c.bytes (Volume r.device))) same done.draws;
        content = subst (λ (l : List ℕ). HoldsTracks r.device items l (c.bytes (Volume r.device))) same done.content;
        label = subst (λ (l : List ℕ). BearsLabel labelling r l (c.bytes (Volume r.device))) same done.label;
        durable = done.durable;
      }

  flags_here : either left (with_flag r.device flag going.has_failed) r.device ≡ flag
  flags_here = (λ i. fit i || flag_here r.device flag going.has_failed i)

  pub going_duplex : Going tells labelling left items (front ++ r ∷ []) (failed ++ cond flag (r.device ∷ []) []) a c
  going_duplex = record {
    works = works_trans tells (Recovers (front ++ r ∷ []) items) (OfOneVolume r.device (Redoes r.device items)) (Recovers (front ++ r ∷ []) items) a b c
        (λ d x y z p q. recovers_one (front ++ r ∷ []) items r.device (duplex_last front r duplex) d x y z p q) (λ d x y p. p)
        (works_more tells (Recovers front items) (Recovers (front ++ r ∷ []) items) a b (λ told d x y p. recovers_more front (r ∷ []) items d x y p) going.works) works;
    has_failed = with_flag r.device flag going.has_failed;
    listed =
        (λ i. going.listed i ++ cond flag (r.device ∷ []) [])
        ∙ (λ i. sym (listed_same front r (either left (with_flag r.device flag going.has_failed)) (either left going.has_failed) (λ v differ j. left v || flag_other r.device v flag going.has_failed differ j) apart) i ++ cond (sym flags_here i) (r.device ∷ []) [])
        ∙ sym (filter-append (either left (with_flag r.device flag going.has_failed)) (duplex_devices front) (r.device ∷ [])) ∙ ap (filter (either left (with_flag r.device flag going.has_failed))) (sym (devices_append front r true duplex));
    are_duplex = λ v is. elim (cases_eq v r.device) [
      | inl here ↦ subst (λ (n : ℕ). HasDuplex (front ++ r ∷ []) n) (sym here) (duplex_last front r duplex)
      | inr differ ↦ duplex_before front (r ∷ []) v (going.are_duplex v (sym (flag_other r.device v flag going.has_failed differ) ∙ is))
    ];
    were_fit = λ v is. elim (cases_eq v r.device) [
      | inl here ↦ ap left here ∙ fit
      | inr differ ↦ going.were_fit v (sym (flag_other r.device v flag going.has_failed differ) ∙ is)
    ];
    counted = λ v. elim (cases_eq v r.device) [
      | inl here ↦ subst (λ (n : ℕ). FailsByCount (with_flag r.device flag going.has_failed n) (a.faults (Volume n)) (c.faults (Volume n))) (sym here)
          (subst (λ (h : Bool). FailsByCount h (a.faults (Volume r.device)) (c.faults (Volume r.device))) (sym (flag_here r.device flag going.has_failed)) counted_here)
      | inr differ ↦ subst (λ (h : Bool). FailsByCount h (a.faults (Volume v)) (c.faults (Volume v))) (sym (flag_other r.device v flag going.has_failed differ))
          (subst (λ (n : ℕ). FailsByCount (going.has_failed v) (a.faults (Volume v)) n) (sym (counts v differ)) (going.counted v))
    ];
    redone = λ told. All-push (λ row. is_duplex row.state ≡ true → left row.device ≡ false → with_flag r.device flag going.has_failed row.device ≡ false → IsRedone labelling row items a c) front r
        (λ k d lt is live good.
        let row = slice_index_or front k d in
        let differ : row.device ≢ r.device = apart k d lt in
        redone_still told row differ (going.redone told k d lt is live (sym (flag_other r.device row.device flag going.has_failed differ) ∙ good)))
        (λ is live good. redone_here told (sym (flag_here r.device flag going.has_failed) ∙ good));
    stays = λ told v alone.
        let differ : v ≢ r.device = λ here. let other : left v ≡ false = ap left here ∙ fit in absurd (cc (other, alone)) in
        let before = going.stays told v alone in (
          (works.bytes told (Volume v)).1 differ ∙ before.0,
          follows_then (on a (Volume v)) (on b (Volume v)) (on c (Volume v)) Same (OfOneVolume r.device (Redoes r.device items) (Volume v)) Same ((going.works.elapses told).kept (Volume v)).later before.1 ((works.elapses told).kept (Volume v)) (works.moments told (Volume v))
              (λ p q here e. e) (λ p q z here there e f. f.1 differ ∙ e),
        );
  }

-- ---- all pairs

pub finished : (tells : Type 0) (labelling : Labelling) (left : ℕ → Bool) (rows : List PairRow) (failed : List ℕ) (a b : PlantState) → Going tells labelling left [] rows failed a b → (tells → TreatsLabels labelling rows [] a b) → FinishesPairs tells labelling rows left failed a b
finished tells labelling left rows failed a b g treats = record {
  works = g.works;
  has_failed = g.has_failed;
  listed = g.listed;
  are_duplex = g.are_duplex;
  were_fit = g.were_fit;
  counted = g.counted;
  redone = g.redone;
  stays = g.stays;
  treats = treats;
}
