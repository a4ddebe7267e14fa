-- The lines of rows, one after another.
use Rattle.std.proofs.Common.{◌≡◌, ◌≢◌, ◌<◌, ◌+◌, ◌==◌, ◌||◌, ◌++◌, ◌∷◌, [], ℕ, zero, suc, Bool, true, false, List, Option, Some, None, Bor, is_some, Ok, Err, length, take, drop, refl, sym, ◌∙◌, ap, subst, arith, append_assoc, append-nil, take-append-drop, eq-eqb, ne_eqb}
use Rattle.std.specs.Prelude.{slice_get}
use Rattle.std.specs.Option.{option_copied}
use Rattle.crash_plant.specs.Moments.{PlantState}
use Rattle.pair_table.specs.declared.row.PairRow.{PairRow}
use Rattle.xrecover.proofs.Going.{take_more}
use Rattle.xrc_status.specs.Saying.{SaysText, SaysWhole}
use Rattle.xrc_status.proofs.SayLaws.{text_so_far, text_then, whole_then}
use Rattle.xrc_recovery.specs.Texts.{pair_line, pair_lines}
use Rattle.pair_table.specs.Devices.{is_among}

pub lines_append : (failed : List ℕ) (rows more : List PairRow) → pair_lines failed (rows ++ more) ≡ pair_lines failed rows ++ pair_lines failed more
lines_append failed [] more = refl
lines_append failed (row ∷ rows) more = ap (λ (l : List ℕ). pair_line failed row ++ l) (lines_append failed rows more) ∙ sym (append_assoc (pair_line failed row) (pair_lines failed rows) (pair_lines failed more))

-- One line more.
pub lines_more : (failed : List ℕ) (rows : List PairRow) (row : PairRow) → pair_lines failed (rows ++ row ∷ []) ≡ pair_lines failed rows ++ pair_line failed row
lines_more failed rows row = lines_append failed rows (row ∷ []) ∙ ap (λ (l : List ℕ). pair_lines failed rows ++ l) (append-nil (pair_line failed row))

-- Four texts, put after a text one after another.
pub four_after : (line a b c d : List ℕ) (w x y z : List ℕ) → w ≡ line ++ a → x ≡ w ++ b → y ≡ x ++ c → z ≡ y ++ d → z ≡ line ++ (a ++ b ++ c ++ d)
four_after line a b c d w x y z p q r s =
    s ∙ ap (λ (l : List ℕ). l ++ d) (r ∙ ap (λ (l : List ℕ). l ++ c) (q ∙ ap (λ (l : List ℕ). l ++ b) p ∙ append_assoc line a b) ∙ append_assoc line (a ++ b) c) ∙ append_assoc line (a ++ b ++ c) d

-- ---- devices that failed

-- A device that stands at a place is among them.
pub among_here : (failed : List ℕ) (i device : ℕ) → slice_get failed i ≡ Some device → is_among device failed ≡ true
among_here [] i device is = absurd cc
among_here (x ∷ failed) zero device is = let same : x ≡ device = cc in rw (eq-eqb x device same) refl
among_here (x ∷ failed) (suc i) device is = rw (among_here failed i device is) (either_way (x == device))
  where
    either_way : (b : Bool) → (b || true) ≡ true
    either_way true = refl
    either_way false = refl

-- It isn't among the first of them, nor is it the next.
among_next : (failed : List ℕ) (i device other : ℕ) → slice_get failed i ≡ Some other → other ≢ device → is_among device (take i failed) ≡ false → is_among device (take (suc i) failed) ≡ false
among_next [] i device other is differs none = absurd cc
among_next (x ∷ failed) zero device other is differs none = let same : x ≡ other = cc in rw (ne_eqb x device (λ e. differs (sym same ∙ e))) refl
among_next (x ∷ failed) (suc i) device other is differs none = both (x == device) (is_among device (take i failed)) (is_among device (take (suc i) failed)) none (among_next failed i device other is differs)
  where
    both : (a b c : Bool) → (a || b) ≡ false → (b ≡ false → c ≡ false) → (a || c) ≡ false
    both true b c e then = absurd cc
    both false b c e then = then e

pub among_more : (failed : List ℕ) (i device other : ℕ) → slice_get failed i ≡ Some other → other ≢ device → is_among device (take i failed) ≡ false → is_among device (take (i + 1) failed) ≡ false
among_more failed i device other is differs none = let on : i + 1 ≡ suc i = omega arith in ap (λ (n : ℕ). is_among device (take n failed)) on ∙ among_next failed i device other is differs none

-- There is an item at each place below the length.
none_at : (xs : List ℕ) (i : ℕ) → i < length xs → (let none : Option ℕ = None in none ≡ slice_get xs i) → ⊥
none_at [] i lt is = absurd (omega (arith, lt))
none_at (x ∷ xs) zero lt is = absurd cc
none_at (x ∷ xs) (suc i) lt is = none_at xs i (omega (arith, lt)) is

pub some_at : (xs : List ℕ) (i : ℕ) (o : Option (Bor ℕ)) → i < length xs → option_copied o ≡ slice_get xs i → is_some o ≡ true
some_at xs i None lt is = absurd (none_at xs i lt is)
some_at xs i (Some x) lt is = refl

-- ---- lines said one after another

module _ (tells : Type 0) (failed : List ℕ) (rows : List PairRow) (first : List ℕ) (i : ℕ) (row : PairRow) (is : slice_get rows i ≡ Some row) (a b c : PlantState) (so_far : SaysWhole tells (first ++ pair_lines failed (take i rows)) a b) where
  text_more : (first ++ pair_lines failed (take i rows)) ++ pair_line failed row ≡ first ++ pair_lines failed (take (i + 1) rows)
  text_more = append_assoc first (pair_lines failed (take i rows)) (pair_line failed row)
      ∙ ap (λ (l : List ℕ). first ++ l) (sym (lines_more failed (take i rows) row) ∙ ap (pair_lines failed) (sym (take_more rows i row is)))

  pub line_said : {T E : Type 0} (v : T) → SaysText {T = T} {E = E} tells (pair_line failed row) b c (Ok v) → SaysWhole tells (first ++ pair_lines failed (take (i + 1) rows)) a c
  line_said {T} {E} v said = subst (λ (l : List ℕ). SaysWhole tells l a c) text_more (whole_then {T = T} {E = E} tells (first ++ pair_lines failed (take i rows)) (pair_line failed row) a b c v so_far said)

  text_all : (first ++ pair_lines failed (take (i + 1) rows)) ++ pair_lines failed (drop (i + 1) rows) ≡ first ++ pair_lines failed rows
  text_all = append_assoc first (pair_lines failed (take (i + 1) rows)) (pair_lines failed (drop (i + 1) rows))
      ∙ ap (λ (l : List ℕ). first ++ l) (sym (lines_append failed (take (i + 1) rows) (drop (i + 1) rows)) ∙ ap (pair_lines failed) (take-append-drop (i + 1) rows))

  pub line_failed : {T V E F : Type 0} (e : E) (f : F) → SaysText {T = T} {E = E} tells (pair_line failed row) b c (Err e) → SaysText {T = V} {E = F} tells (first ++ pair_lines failed rows) a c (Err f)
  line_failed {T} {V} {E} {F} e f said =
      let part = subst (λ (l : List ℕ). SaysText {T = T} {E = E} tells l a c (Err e)) text_more (text_then tells (first ++ pair_lines failed (take i rows)) (pair_line failed row) a b c (Err e) so_far said) in
      subst (λ (l : List ℕ). SaysText {T = V} {E = F} tells l a c (Err f)) text_all (text_so_far tells (first ++ pair_lines failed (take (i + 1) rows)) (pair_lines failed (drop (i + 1) rows)) a c e f part)
