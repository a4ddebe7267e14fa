-- The break of a controller among those that a group reports, one break after another.
use Rattle.std.proofs.Common.{◌≡◌, ℕ, zero, suc, ◌≤◌, ◌<◌, ◌==◌, cond, Bool, true, false, List, [], ◌∷◌, length, take, get_or, Some, None, refl, sym, ap, ◌∙◌, arith, eq-eqb, eqb-true}
use Rattle.std.specs.Prelude.{slice_get}
use Rattle.std.specs.List.{list_any}
use Rattle.std.proofs.lemmas.List.{take_all}
use Rattle.std.proofs.lemmas.Option.{slice_get-get_or}
use Rattle.tod_stamp.specs.declared.stamp.Stamp.{Stamp}
use Rattle.ckd_track.specs.declared.write.Cause.{Cause}
use Rattle.pair_table.proofs.TableLaws.{either_false}
use Rattle.record_rows.specs.GroupRows.{shown_break}

pub eqb_sym_false : (a b : ℕ) → (a == b) ≡ false → (b == a) ≡ false
eqb_sym_false a b differ = by_case (b == a) refl
  where
    by_case : (c : Bool) → (b == a) ≡ c → c ≡ false
    by_case false e = refl
    by_case true e = let is = eq-eqb a b (sym (eqb-true b a e)) in absurd (cc (is, differ))

abbrev pub Break : Type 0
Break = ℕ × Stamp × Cause

abbrev pub is_break_of : (control : ℕ) → Break → Bool
is_break_of control found = found.0 == control

shown_at : (control : ℕ) (breaks : List Break) (i : ℕ) (found : Break) → list_any (is_break_of control) (take i breaks) ≡ false → slice_get breaks i ≡ Some found → is_break_of control found ≡ true → shown_break control breaks ≡ Some found.1
shown_at control [] i found none is same = absurd cc
shown_at control (b ∷ breaks) zero found none is same =
    let e : b ≡ found = cc is in
    ap (λ (f : Break). shown_break control (f ∷ breaks)) e ∙ ap (λ (c : Bool). cond c (Some found.1) (shown_break control breaks)) same
shown_at control (b ∷ breaks) (suc i) found none is same =
    let parts = either_false (is_break_of control b) (list_any (is_break_of control) (take i breaks)) none in
    ap (λ (c : Bool). cond c (Some b.1) (shown_break control breaks)) parts.0 ∙ shown_at control breaks i found parts.1 is same

shown_none : (control : ℕ) (breaks : List Break) → list_any (is_break_of control) breaks ≡ false → shown_break control breaks ≡ None
shown_none control [] none = refl
shown_none control (b ∷ breaks) none =
    let parts = either_false (is_break_of control b) (list_any (is_break_of control) breaks) none in
    ap (λ (c : Bool). cond c (Some b.1) (shown_break control breaks)) parts.0 ∙ shown_none control breaks parts.1

module _ (breaks : List Break) (control : ℕ) (list : List Break) (i : ℕ) (is : list ≡ breaks) (none : list_any (is_break_of control) (take i breaks) ≡ false) where
  pub break_here : (d : Break) → i < length list → (get_or list i d).0 ≡ control → Some (get_or list i d).1 ≡ shown_break control breaks
  break_here d within found =
      let there : slice_get breaks i ≡ Some (get_or list i d) = ap (λ (l : List Break). slice_get l i) (sym is) ∙ slice_get-get_or list i d within in
      sym (shown_at control breaks i (get_or list i d) none there (eq-eqb (get_or list i d).0 control found))

  pub break_none : length list ≤ i → None ≡ shown_break control breaks
  break_none past =
      let all : take i breaks ≡ breaks = take_all i breaks (omega (arith, past, ap length is)) in
      sym (shown_none control breaks (ap (list_any (is_break_of control)) (sym all) ∙ none))
