-- What a legal event says, and legal histories in parts.
use Rattle.std.proofs.Common.{◌≡◌, ℕ, ◌<◌, ◌≤◌, true, false, not, nat_lt, nat_le, nat_eq, ◌&&◌, List, [], ◌∷◌, ◌++◌, sym, subst, refl, append_assoc, append-nil}
use Rattle.std.proofs.lemmas.Bool.{and_parts, and_from, not-true, ltb-true, leb-true, eqb-true}
use Rattle.ckd_track.specs.declared.write.Batch.{Batch}
use Rattle.xrc_edge.specs.Order.{is_in_order}
use Rattle.cut_core.specs.Events.{Event, floor, is_broken_after, last_cut}
use Rattle.cut_core.specs.Events.Event.{Join, Copied, Form}
use Rattle.cut_core.specs.Shares.{share}
use Rattle.cut_core.specs.LegalHistories.{are_in, may_report, is_below_floors, is_legal_next, are_legal}
use Rattle.ckd_track.specs.Writes.{is_earlier}

-- it is one of the controllers, hasn't broken, and reports no earlier time
pub record Tells (n j u : ℕ) (past : List Event) : Type 0 where
  pub control : j < n
  pub unbroken : is_broken_after j past ≡ false
  pub up : floor j past ≤ u

pub tells : (n j u : ℕ) (past : List Event) → may_report n j past ≡ true → nat_le (floor j past) u ≡ true → Tells n j u past
tells n j u past may le =
    let parts = and_parts (nat_lt j n) (not (is_broken_after j past)) may in
    record { control = ltb-true j n parts.0; unbroken = not-true (is_broken_after j past) parts.1; up = leb-true (floor j past) u le }

-- of a break and of a raise
pub told : (n j u : ℕ) (past : List Event) → (may_report n j past && nat_le (floor j past) u) ≡ true → Tells n j u past
told n j u past legal =
    let parts = and_parts (may_report n j past) (nat_le (floor j past) u) legal in
    tells n j u past parts.0 parts.1

pub record Joins (n : ℕ) (past : List Event) (b : Batch) : Type 0 where
  pub tells : Tells n b.control b.upto.0 past
  pub within : are_in (floor b.control past) b.upto.0 b.writes ≡ true
  pub order : is_in_order is_earlier b.writes ≡ true

pub joins : (n : ℕ) (past : List Event) (b : Batch) → is_legal_next n past (Join b) ≡ true → Joins n past b
joins n past b legal =
    let k = b.control in
    let outer = and_parts (may_report n k past && are_in (floor k past) b.upto.0 b.writes && is_in_order is_earlier b.writes) (nat_le (floor k past) b.upto.0) legal in
    let inner = and_parts (may_report n k past && are_in (floor k past) b.upto.0 b.writes) (is_in_order is_earlier b.writes) outer.0 in
    let parts = and_parts (may_report n k past) (are_in (floor k past) b.upto.0 b.writes) inner.0 in
    record { tells = tells n k b.upto.0 past parts.0 outer.1; within = parts.1; order = inner.1 }

pub record Copies (n k v x s : ℕ) (past : List Event) : Type 0 where
  pub control : k < n
  pub unbroken : is_broken_after k past ≡ false
  pub wanted : (share k v x past).is_wanted ≡ true
  pub stamp : s ≡ floor k past

pub copies : (n k v x s : ℕ) (past : List Event) → is_legal_next n past (Copied k v x s) ≡ true → Copies n k v x s past
copies n k v x s past legal =
    let outer = and_parts (may_report n k past && (share k v x past).is_wanted) (nat_eq s (floor k past)) legal in
    let inner = and_parts (may_report n k past) (share k v x past).is_wanted outer.0 in
    let may = and_parts (nat_lt k n) (not (is_broken_after k past)) inner.0 in
    record { control = ltb-true k n may.0; unbroken = not-true (is_broken_after k past) may.1; wanted = inner.1; stamp = eqb-true s (floor k past) outer.1 }

pub record Forms (n c : ℕ) (past : List Event) : Type 0 where
  pub above : last_cut past ≤ c
  pub floors : is_below_floors n c past ≡ true

pub forms_at : (n c : ℕ) (past : List Event) → is_legal_next n past (Form c) ≡ true → Forms n c past
forms_at n c past legal =
    let parts = and_parts (nat_le (last_cut past) c) (is_below_floors n c past) legal in
    record { above = leb-true (last_cut past) c parts.0; floors = parts.1 }

-- ---- histories in parts

-- legal events up to a place: the later ones don't matter
pub legal_front : (n : ℕ) (past before later : List Event) → are_legal n past (before ++ later) ≡ true → are_legal n past before ≡ true
legal_front n past [] later e = refl
legal_front n past (x ∷ before) later e =
    let parts = and_parts (is_legal_next n past x) (are_legal n (past ++ x ∷ []) (before ++ later)) e in
    and_from (is_legal_next n past x) (are_legal n (past ++ x ∷ []) before) parts.0 (legal_front n (past ++ x ∷ []) before later parts.1)

-- what is legal after all events is legal after the last of them
pub legal_after : (n : ℕ) (past before later : List Event) → are_legal n past (before ++ later) ≡ true → are_legal n (past ++ before) later ≡ true
legal_after n past [] later e = subst (λ p. are_legal n p later ≡ true) (sym (append-nil past)) e
legal_after n past (x ∷ before) later e =
    let parts = and_parts (is_legal_next n past x) (are_legal n (past ++ x ∷ []) (before ++ later)) e in
    subst (λ p. are_legal n p later ≡ true) (append_assoc past (x ∷ []) before) (legal_after n (past ++ x ∷ []) before later parts.1)

-- a legal history, and one more legal event
pub legal_snoc : (n : ℕ) (past before : List Event) (x : Event) → are_legal n past before ≡ true → is_legal_next n (past ++ before) x ≡ true → are_legal n past (before ++ x ∷ []) ≡ true
legal_snoc n past [] x legal next = and_from (is_legal_next n past x) true (subst (λ p. is_legal_next n p x ≡ true) (append-nil past) next) refl
legal_snoc n past (y ∷ before) x legal next =
    let parts = and_parts (is_legal_next n past y) (are_legal n (past ++ y ∷ []) before) legal in
    and_from (is_legal_next n past y) (are_legal n (past ++ y ∷ []) (before ++ x ∷ [])) parts.0
    (legal_snoc n (past ++ y ∷ []) before x parts.1 (subst (λ p. is_legal_next n p x ≡ true) (sym (append_assoc past (y ∷ []) before)) next))
