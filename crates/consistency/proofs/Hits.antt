-- Hits that follow one another at a point's time.
use Rattle.std.proofs.Common.{◌≡◌, ℕ, Bool, true, false, cond, ◌&&◌, List, [], ◌∷◌, ◌++◌, Option, refl, sym, ap, subst, ◌∙◌}
use Rattle.std.specs.Prelude.{◌==◌}
use Rattle.std.specs.List.{list_all}
use Rattle.std.proofs.lemmas.Bool.{and_from, and_parts}
use Rattle.std.proofs.lemmas.List.Folds.{list_all-append}
use Rattle.pair_table.specs.declared.level.Level.{Level}
use Rattle.pair_table.specs.declared.row.PairRow.{PairRow}
use Rattle.row_changes.specs.Changes.{Due, RowChange, Timed, after_change, devices_hit, due_after, due_in_record, may_end, reaches_others}
use Rattle.row_changes.specs.Changes.Due.{DueSince, NoneDue}
use Rattle.row_changes.specs.Changes.RowChange.{Break, Hit, MarkedHit, Mature, Reached}
use Rattle.row_changes.specs.Spans.{is_hit_at}
use Rattle.consistency.specs.Leads.{Comes, HitsLead, MarkedHitsLead, Point, is_marked_at, may_rest}
use Rattle.consistency.proofs.Leading.{leads_on}

pub no_other : (b : Bool) → (b && false) ≡ true → ⊥
no_other true e = cc
no_other false e = cc

-- A hit with its reach leaves nothing due where nothing was.
hit_leaves_none : (level : Level) (due : Due) (time at : ℕ) (change : RowChange) → due ≡ NoneDue → is_hit_at time (record { time = at; change = change }) ≡ true → due_after level due (record { time = at; change = change }) ≡ NoneDue
hit_leaves_none level due time at (Hit devices) none is = ap (λ (d : Due). due_in_record d at) none
hit_leaves_none level due time at (MarkedHit devices) none is = absurd (no_other (at == time) is)
hit_leaves_none level due time at (Reached devices) none is = absurd (no_other (at == time) is)
hit_leaves_none level due time at (Mature device state) none is = absurd (no_other (at == time) is)
hit_leaves_none level due time at (Break control) none is = absurd (no_other (at == time) is)

-- Nothing is due after hits where nothing was due before them.
pub hits_leave_none : (level : Level) (breaks : List (Option ℕ)) (due last : Due) (time from to : ℕ) (rows : List PairRow) (hits : List Timed) → due ≡ NoneDue → list_all (is_hit_at time) hits ≡ true → Comes level breaks due from to rows hits last → last ≡ NoneDue
hits_leave_none level breaks due last time from to rows [] none are c = sym c.1 ∙ none
hits_leave_none level breaks due last time from to rows (t ∷ hits) none are c =
    let parts = and_parts (is_hit_at time t) (list_all (is_hit_at time) hits) are in
    hits_leave_none level breaks (due_after level due t) last time t.time to (after_change level t rows) hits (hit_leaves_none level due time t.time t.change none parts.0) parts.1 c.3

-- Hits at a point's time and others after them are hits in a row.
pub hits_on : (level : Level) (breaks : List (Option ℕ)) (p q r : Point) (xs ys : List Timed) → HitsLead level breaks p q xs → HitsLead level breaks q r ys → HitsLead level breaks p r (xs ++ ys)
hits_on level breaks p q r xs ys first then = record {
  are_hits = list_all-append (is_hit_at p.time) xs ys ∙ and_from (list_all (is_hit_at p.time) xs) (list_all (is_hit_at p.time) ys) first.are_hits (subst (λ (n : ℕ). list_all (is_hit_at n) ys ≡ true) first.at then.are_hits);
  at = then.at ∙ first.at;
  leads = leads_on level breaks p q r xs ys first.leads then.leads;
}

-- A hit in a mark leaves nothing due, or the others since its time.
mark_leaves : (level : Level) (due : Due) (time at : ℕ) (change : RowChange) → is_marked_at time (record { time = at; change = change }) ≡ true → may_end true time (due_after level due (record { time = at; change = change })) ≡ true
mark_leaves level due time at (MarkedHit devices) is = by_reach (reaches_others level)
  where
    and_left_of : (b : Bool) → (b && true) ≡ true → (true && b) ≡ true
    and_left_of true e = refl
    and_left_of false e = absurd cc

    by_reach : (others : Bool) → may_end true time (cond others (DueSince at (devices_hit due ++ devices)) NoneDue) ≡ true
    by_reach false = refl
    by_reach true = and_left_of (at == time) is
mark_leaves level due time at (Hit devices) is = absurd (no_other (at == time) is)
mark_leaves level due time at (Reached devices) is = absurd (no_other (at == time) is)
mark_leaves level due time at (Mature device state) is = absurd (no_other (at == time) is)
mark_leaves level due time at (Break control) is = absurd (no_other (at == time) is)

-- So what is due after hits in a mark may be due while a line is heard, where nothing was due before them.
marks_may_rest : (level : Level) (breaks : List (Option ℕ)) (due last : Due) (time from to : ℕ) (rows : List PairRow) (hits : List Timed) → may_end true time due ≡ true → list_all (is_marked_at time) hits ≡ true → Comes level breaks due from to rows hits last → may_end true time last ≡ true
marks_may_rest level breaks due last time from to rows [] rests are c = subst (λ (d : Due). may_end true time d ≡ true) c.1 rests
marks_may_rest level breaks due last time from to rows (t ∷ hits) rests are c =
    let parts = and_parts (is_marked_at time t) (list_all (is_marked_at time) hits) are in
    marks_may_rest level breaks (due_after level due t) last time t.time to (after_change level t rows) hits (mark_leaves level due time t.time t.change parts.0) parts.1 c.3

pub marks_rest : (level : Level) (breaks : List (Option ℕ)) (p q : Point) (hits : List Timed) → p.due ≡ NoneDue → MarkedHitsLead level breaks p q hits → may_rest true q ≡ true
marks_rest level breaks p q hits none marked =
    subst (λ (n : ℕ). may_end true n q.due ≡ true) (sym marked.at)
    (marks_may_rest level breaks p.due q.due p.time p.time q.time p.rows hits (subst (λ (d : Due). may_end true p.time d ≡ true) (sym none) refl) marked.are_marked marked.leads.may_come)
