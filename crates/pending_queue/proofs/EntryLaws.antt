-- Entries: the order of a group, what a cut takes, and the room that entries take.
use Rattle.std.proofs.Common.{◌≡◌, ℕ, suc, ◌≤◌, ◌<◌, Bool, true, false, ◌&&◌, List, [], ◌∷◌, ◌++◌, length, take, drop, subst, inl, inr, refl, sym, ap, ◌∙◌, arith, append_assoc, length-append}
use Rattle.std.specs.Prelude.{◌⊎◌, nat_eq, nat_lt, nat_le, filter}
use Rattle.std.proofs.lemmas.Bool.{cases_Bool, and_parts, and_from, and_cases, and_left, and_right, or_cases, or_parts, or_from, eqb-true, eqb-false, ltb-true, ltb-false, leb-true, leb-false, lt-ltb, le-ltb, le-leb, lt-leb}
use Rattle.std.proofs.lemmas.List.{append-nil}
use Rattle.std.proofs.lemmas.List.Sums.{length-filter, count_by-le-length}
use Rattle.tod_stamp.specs.declared.stamp.Stamp.{Stamp}
use Rattle.ckd_track.specs.declared.write.Write.{Write}
use Rattle.pending_queue.specs.Entries.{WaitingEntry, entries_of, entry_stamp, last_stamp_from, entries_never_fall, is_due, is_later, due, left, stands_before}
use Rattle.xrc_edge.specs.Order.{in_order, is_in_order}
use Rattle.xrc_edge.proofs.OrderLaws.{IsOrder, order_orders, order_stays}
use Rattle.xrc_edge.proofs.Merges.{order_grows, length_order}
use Rattle.ckd_track.specs.Writes.{writes_never_fall}

-- ---- the order of a group, in numbers

is_before : (a b : WaitingEntry) → stands_before a b ≡ true → (entry_stamp a < entry_stamp b) ⊎ ((entry_stamp a ≡ entry_stamp b) × (a.head.control < b.head.control))
is_before a b e = elim (or_cases (nat_lt (entry_stamp a) (entry_stamp b)) (nat_eq (entry_stamp a) (entry_stamp b) && nat_lt a.head.control b.head.control) e) [
  | inl lt ↦ inl (ltb-true (entry_stamp a) (entry_stamp b) lt)
  | inr both ↦
      let parts = and_parts (nat_eq (entry_stamp a) (entry_stamp b)) (nat_lt a.head.control b.head.control) both in
      inr (eqb-true (entry_stamp a) (entry_stamp b) parts.0, ltb-true a.head.control b.head.control parts.1)
]

record NotBefore (a b : WaitingEntry) : Type 0 where
  stamps : entry_stamp b ≤ entry_stamp a
  controls : entry_stamp a ≡ entry_stamp b → b.head.control ≤ a.head.control

not_before : (a b : WaitingEntry) → stands_before a b ≡ false → NotBefore a b
not_before a b e =
    let parts = or_parts (nat_lt (entry_stamp a) (entry_stamp b)) (nat_eq (entry_stamp a) (entry_stamp b) && nat_lt a.head.control b.head.control) e in
    record {
      stamps = ltb-false (entry_stamp a) (entry_stamp b) parts.0;
      controls = λ same. elim (and_cases (nat_eq (entry_stamp a) (entry_stamp b)) (nat_lt a.head.control b.head.control) parts.1) [
        | inl other ↦ absurd (eqb-false (entry_stamp a) (entry_stamp b) other same)
        | inr ge ↦ ltb-false a.head.control b.head.control ge
      ];
    }

stands_not : (a b : WaitingEntry) → NotBefore a b → stands_before a b ≡ false
stands_not a b h = elim (cases_Bool (nat_eq (entry_stamp a) (entry_stamp b))) [
  | inl same ↦ or_from (nat_lt (entry_stamp a) (entry_stamp b)) (nat_eq (entry_stamp a) (entry_stamp b) && nat_lt a.head.control b.head.control) (le-ltb (entry_stamp a) (entry_stamp b) h.stamps)
      (and_right (nat_eq (entry_stamp a) (entry_stamp b)) (nat_lt a.head.control b.head.control) (le-ltb a.head.control b.head.control (h.controls (eqb-true (entry_stamp a) (entry_stamp b) same))))
  | inr other ↦ or_from (nat_lt (entry_stamp a) (entry_stamp b)) (nat_eq (entry_stamp a) (entry_stamp b) && nat_lt a.head.control b.head.control) (le-ltb (entry_stamp a) (entry_stamp b) h.stamps)
      (and_left (nat_eq (entry_stamp a) (entry_stamp b)) (nat_lt a.head.control b.head.control) other)
]

pub before_order : IsOrder stands_before
before_order = record {
  one_way = λ a b e. stands_not b a (elim (is_before a b e) [
    | inl lt ↦ record { stamps = omega arith; controls = λ same. omega arith }
    | inr both ↦ record { stamps = omega arith; controls = λ same. omega arith }
  ]);
  through = λ a b c bc ab. let x = not_before b c bc in let y = not_before a b ab in stands_not a c (record {
    stamps = omega (arith, x.stamps, y.stamps);
    controls = λ same. omega (arith, x.controls (omega (arith, x.stamps, y.stamps)), y.controls (omega (arith, x.stamps, y.stamps)));
  });
}

-- ---- stamps that don't fall

never_fall_lower : (low last : ℕ) (entries : List WaitingEntry) → low ≤ last → entries_never_fall last entries ≡ true → entries_never_fall low entries ≡ true
never_fall_lower low last [] le e = refl
never_fall_lower low last (x ∷ entries) le e =
    let parts = and_parts (nat_le last (entry_stamp x)) (entries_never_fall (entry_stamp x) entries) e in
    and_from (nat_le low (entry_stamp x)) (entries_never_fall (entry_stamp x) entries) (le-leb low (entry_stamp x) (omega (arith, leb-true last (entry_stamp x) parts.0))) parts.1

pub never_fall_filter : (test : WaitingEntry → Bool) (last : ℕ) (entries : List WaitingEntry) → entries_never_fall last entries ≡ true → entries_never_fall last (filter test entries) ≡ true
never_fall_filter test last [] e = refl
never_fall_filter test last (x ∷ entries) e =
    let parts = and_parts (nat_le last (entry_stamp x)) (entries_never_fall (entry_stamp x) entries) e in
    elim (cases_Bool (test x)) [
      | inl is ↦ simp is (and_from (nat_le last (entry_stamp x)) (entries_never_fall (entry_stamp x) (filter test entries)) parts.0 (never_fall_filter test (entry_stamp x) entries parts.1))
      | inr is ↦ simp is (never_fall_filter test last entries (never_fall_lower last (entry_stamp x) entries (leb-true last (entry_stamp x) parts.0) parts.1))
    ]

pub left_never_falls : (cut : Stamp) (entries : List WaitingEntry) → entries_never_fall 0 entries ≡ true → entries_never_fall 0 (left cut entries) ≡ true
left_never_falls cut entries e = never_fall_filter (is_later cut) 0 entries e

-- the entries of writes after those that wait
pub pushed_never_fall : (control last : ℕ) (waiting : List WaitingEntry) (writes : List Write) → entries_never_fall last waiting ≡ true → writes_never_fall (last_stamp_from last waiting) writes ≡ true
    → entries_never_fall last (waiting ++ entries_of control writes) ≡ true
pushed_never_fall k last [] [] e f = refl
pushed_never_fall k last [] (w ∷ writes) e f =
    let parts = and_parts (nat_le last w.stamp.0) (writes_never_fall w.stamp.0 writes) f in
    and_from (nat_le last w.stamp.0) (entries_never_fall w.stamp.0 (entries_of k writes)) parts.0 (pushed_never_fall k w.stamp.0 [] writes refl parts.1)
pushed_never_fall k last (x ∷ waiting) writes e f =
    let parts = and_parts (nat_le last (entry_stamp x)) (entries_never_fall (entry_stamp x) waiting) e in
    and_from (nat_le last (entry_stamp x)) (entries_never_fall (entry_stamp x) (waiting ++ entries_of k writes)) parts.0 (pushed_never_fall k (entry_stamp x) waiting writes parts.1 f)

-- ---- cuts

-- After an entry that a cut leaves, it leaves all.
pub all_later : (cut : Stamp) (last : ℕ) (entries : List WaitingEntry) → cut.0 < last → entries_never_fall last entries ≡ true → (due cut entries ≡ []) × (left cut entries ≡ entries)
all_later cut last [] lt e = (refl, refl)
all_later cut last (x ∷ entries) lt e =
    let parts = and_parts (nat_le last (entry_stamp x)) (entries_never_fall (entry_stamp x) entries) e in
    let above : cut.0 < entry_stamp x = omega (arith, leb-true last (entry_stamp x) parts.0) in
    let not_due = lt-leb (entry_stamp x) cut.0 above in
    let later = lt-ltb cut.0 (entry_stamp x) above in
    let rest = all_later cut (entry_stamp x) entries above parts.1 in
    (simp not_due rest.0, simp later (ap (λ (t : List WaitingEntry). x ∷ t) rest.1))

pub each_once : (cut : Stamp) (last : ℕ) (entries : List WaitingEntry) → entries_never_fall last entries ≡ true → due cut entries ++ left cut entries ≡ entries
each_once cut last [] e = refl
each_once cut last (x ∷ entries) e =
    let parts = and_parts (nat_le last (entry_stamp x)) (entries_never_fall (entry_stamp x) entries) e in
    elim (cases_Bool (nat_le (entry_stamp x) cut.0)) [
      | inl is ↦
          let later = le-ltb cut.0 (entry_stamp x) (leb-true (entry_stamp x) cut.0 is) in
          simp (is, later) (ap (λ (t : List WaitingEntry). x ∷ t) (each_once cut (entry_stamp x) entries parts.1))
      | inr is ↦
          let above = leb-false (entry_stamp x) cut.0 is in
          let later = lt-ltb cut.0 (entry_stamp x) above in
          let rest = all_later cut (entry_stamp x) entries above parts.1 in
          simp (is, later, rest.0, rest.1)
    ]

-- ---- moving what is due

-- An entry that is due moves from the front of a queue to its place in a group.
pub record IsMoved (cut : Stamp) (entry : WaitingEntry) (rest entries now : List WaitingEntry) : Type 0 where
  pub rising : entries_never_fall 0 rest ≡ true
  pub ordered : is_in_order stands_before now ≡ true
  pub stays : left cut rest ≡ left cut (entry ∷ rest)
  pub moves : in_order stands_before (now ++ due cut rest) ≡ in_order stands_before (entries ++ due cut (entry ∷ rest))
  pub fewer : length (due cut (entry ∷ rest)) ≡ suc (length (due cut rest))

pub moved : (cut : Stamp) (entry : WaitingEntry) (rest entries now : List WaitingEntry) → entries_never_fall 0 (entry ∷ rest) ≡ true → is_due cut entry ≡ true
    → now ≡ in_order stands_before (entries ++ entry ∷ []) → IsMoved cut entry rest entries now
moved cut entry rest entries now e is put =
    let parts = and_parts (nat_le 0 (entry_stamp entry)) (entries_never_fall (entry_stamp entry) rest) e in
    let not_later = le-ltb cut.0 (entry_stamp entry) (leb-true (entry_stamp entry) cut.0 is) in
    record {
      rising = never_fall_lower 0 (entry_stamp entry) rest (omega arith) parts.1;
      ordered = ap (is_in_order stands_before) put ∙ order_orders stands_before before_order (entries ++ entry ∷ []);
      stays = simp not_later;
      moves =
          ap (λ (t : List WaitingEntry). in_order stands_before (t ++ due cut rest)) put
          ∙ order_grows stands_before before_order (entries ++ entry ∷ []) (due cut rest)
          ∙ ap (in_order stands_before) (append_assoc entries (entry ∷ []) (due cut rest))
          ∙ simp is;
      fewer = simp is;
    }

-- Where the first entry isn't due, none is.
pub none_due : (cut : Stamp) (entry : WaitingEntry) (rest : List WaitingEntry) → entries_never_fall 0 (entry ∷ rest) ≡ true → is_due cut entry ≡ false → (due cut (entry ∷ rest) ≡ []) × (left cut (entry ∷ rest) ≡ entry ∷ rest)
none_due cut entry rest e not_due =
    let parts = and_parts (nat_le 0 (entry_stamp entry)) (entries_never_fall (entry_stamp entry) rest) e in
    all_later cut (entry_stamp entry) (entry ∷ rest) (leb-false (entry_stamp entry) cut.0 not_due)
    (and_from (nat_le (entry_stamp entry) (entry_stamp entry)) (entries_never_fall (entry_stamp entry) rest) (le-leb (entry_stamp entry) (entry_stamp entry) (omega arith)) parts.1)

-- the same of the first entry that waits
pub record FirstIsMoved (cut : Stamp) (waiting rest entries now : List WaitingEntry) : Type 0 where
  pub rising : entries_never_fall 0 rest ≡ true
  pub ordered : is_in_order stands_before now ≡ true
  pub stays : left cut rest ≡ left cut waiting
  pub moves : in_order stands_before (now ++ due cut rest) ≡ in_order stands_before (entries ++ due cut waiting)
  pub fewer : length (due cut waiting) ≡ suc (length (due cut rest))
  pub shorter : length waiting ≡ suc (length rest)
  pub one_more : length now ≡ suc (length entries)

first_moves : (cut : Stamp) (waiting entries : List WaitingEntry) → entries_never_fall 0 waiting ≡ true → (due cut waiting ≡ [] → ⊥) → FirstIsMoved cut waiting (drop 1 waiting) entries (in_order stands_before (entries ++ take 1 waiting))
first_moves cut [] entries rising some = absurd (some refl)
first_moves cut (e ∷ rest) entries rising some =
    let now = in_order stands_before (entries ++ e ∷ []) in
    let is : is_due cut e ≡ true = elim (cases_Bool (is_due cut e)) [ inl on ↦ on | inr off ↦ absurd (some (none_due cut e rest rising off).0) ] in
    let step = moved cut e rest entries now rising is refl in
    record { rising = step.rising; ordered = step.ordered; stays = step.stays; moves = step.moves; fewer = step.fewer; shorter = refl; one_more = omega (arith, length_order stands_before (entries ++ e ∷ []), length-append entries (e ∷ [])) }

pub first_moved : (cut : Stamp) (waiting rest entries now : List WaitingEntry) → entries_never_fall 0 waiting ≡ true → (due cut waiting ≡ [] → ⊥) → rest ≡ drop 1 waiting → now ≡ in_order stands_before (entries ++ take 1 waiting)
    → FirstIsMoved cut waiting rest entries now
first_moved cut waiting rest entries now rising some rest_is now_is =
    let step = first_moves cut waiting entries rising some in
    subst (λ (r : List WaitingEntry). FirstIsMoved cut waiting r entries now) (sym rest_is) (subst (FirstIsMoved cut waiting (drop 1 waiting) entries) (sym now_is) step)

-- A group that takes nothing stays as it is.
pub nothing_moves : (entries : List WaitingEntry) → is_in_order stands_before entries ≡ true → in_order stands_before (entries ++ []) ≡ entries
nothing_moves entries ordered = ap (in_order stands_before) (append-nil entries) ∙ order_stays stands_before entries ordered

-- ---- the last stamp, and how many a cut takes

pub last_stamp_pushed : (last : ℕ) (entries : List WaitingEntry) (entry : WaitingEntry) → last_stamp_from last (entries ++ entry ∷ []) ≡ entry_stamp entry
last_stamp_pushed last [] entry = refl
last_stamp_pushed last (x ∷ entries) entry = last_stamp_pushed (entry_stamp x) entries entry

pub due_within : (cut : Stamp) (entries : List WaitingEntry) → length (due cut entries) ≤ length entries
due_within cut entries = omega (arith, length-filter (is_due cut) entries, count_by-le-length (is_due cut) entries)
