-- Changes that lead on from point to point.
use Rattle.std.proofs.Common.{◌≡◌, inl, inr, ℕ, ◌≤◌, Bool, true, false, not, ◌&&◌, ◌||◌, List, [], ◌∷◌, ◌++◌, Option, Some, None, refl, sym, ap, subst, ◌∙◌, arith, ◌+◌}
use Rattle.std.specs.Prelude.{nat_le, nat_lt}
use Rattle.std.specs.List.{list_any}
use Rattle.std.proofs.lemmas.Bool.{and_from, and_left, and_parts, and_right, cases_lt, le-leb, le-ltb, lt-leb, not_from_false, or_left}
use Rattle.std.proofs.lemmas.List.Folds.{list_any-append}
use Rattle.pair_table.specs.declared.level.Level.{Level}
use Rattle.pair_table.specs.declared.row.PairRow.{PairRow}
use Rattle.row_changes.specs.Changes.{Due, Timed, after_change, after_changes, due_after, may_all_come, may_come, may_end}
use Rattle.row_changes.specs.Changes.Due.{NoneDue}
use Rattle.row_changes.specs.Spans.{Toward, all_broke, breaks_control, lies_in}
use Rattle.consistency.specs.Leads.{Comes, Leads, LeadsWhole, Point}

module _ (level : Level) (breaks : List (Option ℕ)) where
  -- What comes from a time on comes from an earlier one on.
  comes_from : (due last : Due) (early from to : ℕ) (rows : List PairRow) (changes : List Timed) → early ≤ from → Comes level breaks due from to rows changes last → Comes level breaks due early to rows changes last
  comes_from due last early from to rows [] le c = (omega (arith, le, c.0), c.1)
  comes_from due last early from to rows (t ∷ changes) le c = (omega (arith, le, c.0), c.1, c.2, c.3)

  -- What comes up to a time and what comes after it comes in a row.
  pub comes_on : (due mid last : Due) (from here to : ℕ) (rows : List PairRow) (xs ys : List Timed) → here ≤ to → Comes level breaks due from here rows xs mid → Comes level breaks mid here to (after_changes level xs rows) ys last → Comes level breaks due from to rows (xs ++ ys) last
  comes_on due mid last from here to rows [] ys le first then = comes_from due last from here to rows ys first.0 (subst (λ (d : Due). Comes level breaks d here to rows ys last) (sym first.1) then)
  comes_on due mid last from here to rows (t ∷ xs) ys le first then = (first.0, omega (arith, first.1, le), first.2, comes_on (due_after level due t) mid last t.time here to (after_change level t rows) xs ys le first.3 then)

  -- It may all come, where what is due at the end may be.
  pub comes_all : (may_be_due : Bool) (due last : Due) (from to : ℕ) (rows : List PairRow) (changes : List Timed) → may_end may_be_due to last ≡ true → Comes level breaks due from to rows changes last → may_all_come level breaks may_be_due due from to rows changes ≡ true
  comes_all m due last from to rows [] end c = subst (λ (d : Due). may_end m to d ≡ true) (sym c.1) end
  comes_all m due last from to rows (t ∷ changes) end c =
      and_from (nat_le from t.time && nat_le t.time to && may_come breaks due rows t) (may_all_come level breaks m (due_after level due t) t.time to (after_change level t rows) changes)
      (and_from (nat_le from t.time && nat_le t.time to) (may_come breaks due rows t) (and_from (nat_le from t.time) (nat_le t.time to) (le-leb from t.time c.0) (le-leb t.time to c.1)) c.2)
      (comes_all m (due_after level due t) last t.time to (after_change level t rows) changes end c.3)

  pub comes_rise : (due last : Due) (from to : ℕ) (rows : List PairRow) (changes : List Timed) → Comes level breaks due from to rows changes last → from ≤ to
  comes_rise due last from to rows [] c = c.0
  comes_rise due last from to rows (t ∷ changes) c = omega (arith, c.0, c.1)

pub rows_on : (level : Level) (xs ys : List Timed) (rows : List PairRow) → after_changes level (xs ++ ys) rows ≡ after_changes level ys (after_changes level xs rows)
rows_on level [] ys rows = refl
rows_on level (t ∷ xs) ys rows = rows_on level xs ys (after_change level t rows)

-- Times don't fall from a point to one to which changes lead.
pub leads_rise : (level : Level) (breaks : List (Option ℕ)) (p q : Point) (changes : List Timed) → Leads level breaks p q changes → p.time ≤ q.time
leads_rise level breaks p q changes leads = comes_rise level breaks p.due q.due p.time q.time p.rows changes leads.may_come

-- Changes that lead from a point to a second one and from there to a third lead from the first to the third in a row.
pub leads_on : (level : Level) (breaks : List (Option ℕ)) (p q r : Point) (xs ys : List Timed) → Leads level breaks p q xs → Leads level breaks q r ys → Leads level breaks p r (xs ++ ys)
leads_on level breaks p q r xs ys first then = record {
  may_come = comes_on level breaks p.due q.due r.due p.time q.time r.time p.rows xs ys (leads_rise level breaks q r ys then) first.may_come
      (subst (λ (l : List PairRow). Comes level breaks q.due q.time r.time l ys r.due) first.rows then.may_come);
  rows = then.rows ∙ ap (λ (l : List PairRow). after_changes level ys l) first.rows ∙ sym (rows_on level xs ys p.rows);
  goes_on = then.goes_on ∙ first.goes_on;
}

-- No change leads from a point to itself.
pub leads_itself : (level : Level) (breaks : List (Option ℕ)) (p : Point) → Leads level breaks p p []
leads_itself level breaks p = record { may_come = (omega arith, refl); rows = refl; goes_on = refl }

-- Rows are on their way at a point to which changes lead whole, where nothing was due at first.
pub leads_toward : (level : Level) (breaks : List (Option ℕ)) (may_be_due : Bool) (p q : Point) (changes : List Timed) → p.due ≡ NoneDue → may_end may_be_due q.time q.due ≡ true → LeadsWhole level breaks p q changes
    → Toward level breaks may_be_due p.time q.time p.rows changes
leads_toward level breaks m p q changes none end whole = record {
  may_come = comes_all level breaks m NoneDue q.due p.time q.time p.rows changes end (subst (λ (d : Due). Comes level breaks d p.time q.time p.rows changes q.due) none whole.leads.may_come);
  broken = whole.broken;
}

-- ---- breaks

-- No break time lies between a time and itself.
none_between : (time : ℕ) (b : Option ℕ) → lies_in time time b ≡ false
none_between time None = refl
none_between time (Some b) = elim (cases_lt b time) [
  | inl below ↦ and_left (nat_le time b) (nat_lt b time) (lt-leb time b below)
  | inr above ↦ and_right (nat_le time b) (nat_lt b time) (le-ltb b time above)
]

none_broke : (time k : ℕ) (breaks : List (Option ℕ)) → all_broke time time k breaks [] ≡ true
none_broke time k [] = refl
none_broke time k (b ∷ breaks) =
    and_from (not (lies_in time time b) || list_any (breaks_control k) []) (all_broke time time (k + 1) breaks [])
    (or_left (not (lies_in time time b)) (list_any (breaks_control k) []) (not_from_false (lies_in time time b) (none_between time b))) (none_broke time (k + 1) breaks)

pub whole_itself : (level : Level) (breaks : List (Option ℕ)) (p : Point) → LeadsWhole level breaks p p []
whole_itself level breaks p = record { leads = leads_itself level breaks p; broken = none_broke p.time 0 breaks }

any_left : (k : ℕ) (xs ys : List Timed) → list_any (breaks_control k) xs ≡ true → list_any (breaks_control k) (xs ++ ys) ≡ true
any_left k xs ys e = list_any-append (breaks_control k) xs ys ∙ or_left (list_any (breaks_control k) xs) (list_any (breaks_control k) ys) e

-- Who broke by changes broke by them with others after them.
pub broke_still : (from to k : ℕ) (breaks : List (Option ℕ)) (xs ys : List Timed) → all_broke from to k breaks xs ≡ true → all_broke from to k breaks (xs ++ ys) ≡ true
broke_still from to k [] xs ys broke = refl
broke_still from to k (b ∷ breaks) xs ys broke =
    let parts = and_parts (not (lies_in from to b) || list_any (breaks_control k) xs) (all_broke from to (k + 1) breaks xs) broke in
    and_from (not (lies_in from to b) || list_any (breaks_control k) (xs ++ ys)) (all_broke from to (k + 1) breaks (xs ++ ys)) (one (not (lies_in from to b)) parts.0) (broke_still from to (k + 1) breaks xs ys parts.1)
  where
    one : (out : Bool) → (out || list_any (breaks_control k) xs) ≡ true → (out || list_any (breaks_control k) (xs ++ ys)) ≡ true
    one true e = refl
    one false e = any_left k xs ys e

-- Changes at a point's own time leave whole what led to it.
pub hits_whole : (level : Level) (breaks : List (Option ℕ)) (p q r : Point) (xs hits : List Timed) → LeadsWhole level breaks p q xs → r.time ≡ q.time → Leads level breaks q r hits → LeadsWhole level breaks p r (xs ++ hits)
hits_whole level breaks p q r xs hits whole at leads = record {
  leads = leads_on level breaks p q r xs hits whole.leads leads;
  broken = broke_still p.time r.time 0 breaks xs hits (subst (λ (n : ℕ). all_broke p.time n 0 breaks xs ≡ true) (sym at) whole.broken);
}
