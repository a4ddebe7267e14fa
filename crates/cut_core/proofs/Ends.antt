-- A history with one more event at its end: its floors, its breaks, who is done, its last cut and what waits.
use Rattle.std.proofs.Common.{◌≡◌, ℕ, max, Bool, true, false, not, ◌&&◌, ◌||◌, List, [], ◌∷◌, ◌++◌, ◌⊎◌, inl, inr, refl, sym, ap, ◌∙◌, append_assoc, append-nil, arith}
use Rattle.std.specs.Prelude.{◌==◌, filter}
use Rattle.std.specs.List.{list_any, list_all}
use Rattle.std.proofs.Math.Bool.{or-false, and-false, and-true, or_assoc, and_assoc}
use Rattle.std.proofs.lemmas.Bool.{and_parts, and_from, or_left, or_right, cases_Bool, eqb-true}
use Rattle.std.proofs.lemmas.List.Elements.{filter-append, filter_agree}
use Rattle.cut_core.specs.Events.{Event, reported_upto, floor, is_break_of, is_broken_after, is_form_at, is_done, cut_after, last_cut_from, last_cut}
use Rattle.cut_core.specs.Events.Event.{Form}
use Rattle.cut_core.specs.Groups.{CarriedEntry, carried_by, forms, drops, still_waits, waiting_in}
use Rattle.cut_core.proofs.Filters.{filter_both, filter_all, and_swap}

-- ---- tests

pub clash : (b : Bool) → b ≡ true → b ≡ false → ⊥
clash true p q = cc
clash false p q = cc

pub either_true : (a b : Bool) → (a || b) ≡ true → (a ≡ true) ⊎ (b ≡ true)
either_true true b e = inl refl
either_true false b e = inr e

pub any_snoc : (p : Event → Bool) (past : List Event) (x : Event) → list_any p (past ++ x ∷ []) ≡ (list_any p past || p x)
any_snoc p [] x = or-false (p x)
any_snoc p (y ∷ past) x = rw (any_snoc p past x) (sym (or_assoc (p y) (list_any p past) (p x)))

pub all_snoc : (p : Event → Bool) (past : List Event) (x : Event) → list_all p (past ++ x ∷ []) ≡ (list_all p past && p x)
all_snoc p [] x = and-true (p x)
all_snoc p (y ∷ past) x = rw (all_snoc p past x) (sym (and_assoc (p y) (list_all p past) (p x)))

-- ---- floors, breaks and cuts

-- the floor rises to what one more event reports
pub floor_snoc : (k : ℕ) (past : List Event) (x : Event) → floor k (past ++ x ∷ []) ≡ max (floor k past) (reported_upto k x)
floor_snoc k [] x = omega arith
floor_snoc k (y ∷ past) x = omega (arith, floor_snoc k past x)

pub broken_snoc : (k : ℕ) (past : List Event) (x : Event) → is_broken_after k (past ++ x ∷ []) ≡ (is_broken_after k past || is_break_of k x)
broken_snoc k past x = any_snoc (is_break_of k) past x

last_cut_append : (c : ℕ) (past more : List Event) → last_cut_from c (past ++ more) ≡ last_cut_from (last_cut_from c past) more
last_cut_append c [] more = refl
last_cut_append c (x ∷ past) more = last_cut_append (cut_after c x) past more

pub cut_snoc : (past : List Event) (x : Event) → last_cut (past ++ x ∷ []) ≡ cut_after (last_cut past) x
cut_snoc past x = last_cut_append 0 past (x ∷ [])

-- ---- who is done

done_broke : (k : ℕ) (past : List Event) → is_done k past ≡ true → is_broken_after k past ≡ true
done_broke k [] e = absurd cc
done_broke k (x ∷ past) e = elim (either_true (is_break_of k x && list_any (is_form_at (reported_upto k x)) past) (is_done k past) e) [
  | inl here ↦ or_left (is_break_of k x) (is_broken_after k past) (and_parts (is_break_of k x) (list_any (is_form_at (reported_upto k x)) past) here).0
  | inr there ↦ or_right (is_break_of k x) (is_broken_after k past) (done_broke k past there)
]

-- who hasn't broken isn't done
pub not_done : (k : ℕ) (past : List Event) → is_broken_after k past ≡ false → is_done k past ≡ false
not_done k past e = elim (cases_Bool (is_done k past)) [
  | inr other ↦ other
  | inl done ↦ absurd (clash (is_broken_after k past) (done_broke k past done) e)
]

-- who is done stays so
pub done_more : (k : ℕ) (past : List Event) (x : Event) → is_done k past ≡ true → is_done k (past ++ x ∷ []) ≡ true
done_more k [] x e = absurd cc
done_more k (y ∷ past) x e =
    let f = list_any (is_form_at (reported_upto k y)) past in
    let now = is_break_of k y && list_any (is_form_at (reported_upto k y)) (past ++ x ∷ []) in
    elim (either_true (is_break_of k y && f) (is_done k past) e) [
      | inr there ↦ or_right now (is_done k (past ++ x ∷ [])) (done_more k past x there)
      | inl here ↦
          let parts = and_parts (is_break_of k y) f here in
          or_left now (is_done k (past ++ x ∷ [])) (and_from (is_break_of k y) (list_any (is_form_at (reported_upto k y)) (past ++ x ∷ [])) parts.0
          (rw (any_snoc (is_form_at (reported_upto k y)) past x) (or_left f (is_form_at (reported_upto k y) x) parts.1)))
    ]

-- an event that is no form makes no controller done
pub done_stays : (k : ℕ) (past : List Event) (x : Event) → ((t : ℕ) → is_form_at t x ≡ false) → is_done k (past ++ x ∷ []) ≡ is_done k past
done_stays k [] x none = rw (and-false (is_break_of k x)) refl
done_stays k (y ∷ past) x none = rw (any_snoc (is_form_at (reported_upto k y)) past x, none (reported_upto k y), or-false (list_any (is_form_at (reported_upto k y)) past), done_stays k past x none) refl

-- every break of the controller has this time
abbrev pub breaks_at : (k t : ℕ) → List Event → Bool
breaks_at k t past = list_all (λ e. not (is_break_of k e) || reported_upto k e == t) past

break_time : (b same : Bool) → (not b || same) ≡ true → b ≡ true → same ≡ true
break_time true same e is = e
break_time false same e is = absurd cc

-- either side of a form's effect, by cases
mixed : (f t d h : Bool) → ((f || t) || (d || (h && t))) ≡ ((f || d) || t)
mixed true t d h = refl
mixed false true true h = refl
mixed false true false h = refl
mixed false false true h = refl
mixed false false false true = refl
mixed false false false false = refl

mix : (b f x t d h : Bool) → (b ≡ true → x ≡ t) → ((b && (f || x)) || (d || (h && t))) ≡ (((b && f) || d) || ((b || h) && t))
mix true f x t d h e = rw (e refl) (mixed f t d h)
mix false f x t d h e = refl

-- a form makes a controller done where that has broken at the form's cut
pub done_form : (k t c : ℕ) (past : List Event) → breaks_at k t past ≡ true → is_done k (past ++ Form c ∷ []) ≡ (is_done k past || (is_broken_after k past && c == t))
done_form k t c [] e = refl
done_form k t c (y ∷ past) e =
    let parts = and_parts (not (is_break_of k y) || reported_upto k y == t) (breaks_at k t past) e in
    rw (any_snoc (is_form_at (reported_upto k y)) past (Form c), done_form k t c past parts.1)
    (mix (is_break_of k y) (list_any (is_form_at (reported_upto k y)) past) (c == reported_upto k y) (c == t) (is_done k past) (is_broken_after k past)
    (λ is. ap (λ u. c == u) (eqb-true (reported_upto k y) t (break_time (is_break_of k y) (reported_upto k y == t) parts.0 is))))

-- ---- what waits

-- an event neither forms nor drops the entry
abbrev pub stays : Event → CarriedEntry → Bool
stays x e = not (forms e x) && not (drops e x)

pub waiting_snoc : (before later : List Event) (x : Event) → waiting_in before (later ++ x ∷ []) ≡ filter (stays x) (waiting_in before later) ++ carried_by (before ++ later) x
waiting_snoc before [] x =
    rw (filter_all (still_waits []) (carried_by before x) (λ e. refl), append-nil (carried_by before x), append-nil before) refl
waiting_snoc before (y ∷ later) x =
    let c = carried_by before y in
    let rest = waiting_in (before ++ y ∷ []) later in
    let here : filter (still_waits (later ++ x ∷ [])) c ≡ filter (stays x) (filter (still_waits later) c) =
    filter_agree (still_waits (later ++ x ∷ [])) (λ e. stays x e && still_waits later e)
    (λ e. all_snoc (λ y. not (forms e y) && not (drops e y)) later x ∙ and_swap (still_waits later e) (stays x e)) c
    ∙ sym (filter_both (stays x) (still_waits later) c) in
    rw (here, waiting_snoc (before ++ y ∷ []) later x, filter-append (stays x) (filter (still_waits later) c) rest, append_assoc before (y ∷ []) later)
    (sym (append_assoc (filter (stays x) (filter (still_waits later) c)) (filter (stays x) rest) (carried_by (before ++ y ∷ later) x)))
