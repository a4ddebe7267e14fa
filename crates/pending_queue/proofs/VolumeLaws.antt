-- A volume's entries among those that wait: their tracks, and a queue without them.
use Rattle.std.proofs.Common.{◌≡◌, ℕ, zero, suc, ◌≤◌, ◌<◌, ◌+◌, Bool, true, false, not, cond, ◌&&◌, ◌||◌, List, [], ◌∷◌, ◌++◌, length, get_or, take, drop, refl, sym, ap, ◌∙◌, arith, true≢false, eq-eqb, append_assoc}
use Rattle.std.specs.Prelude.{nat_lt, nat_le, map, filter}
use Rattle.std.specs.List.{list_all, list_any, sum_by}
use Rattle.std.proofs.lemmas.Bool.{and_parts, and_from, ltb-true, leb-true, le-leb, or_right, or_from, ne_eqb}
use Rattle.std.proofs.lemmas.List.{append-nil, map-append}
use Rattle.std.proofs.lemmas.List.Elements.{filter-append}
use Rattle.std.proofs.Math.Seq.{drop-cons, take-suc}
use Rattle.std.proofs.lemmas.List.Sums.{sum_by-cons, length-filter, sum_by-take-le}
use Rattle.tod_stamp.specs.declared.stamp.Stamp.{Stamp}
use Rattle.ckd_track.specs.declared.write.Kind.TheVariants.{Whole}
use Rattle.ckd_track.specs.declared.write.Write.{Write}
use Rattle.change_map.specs.Sets.{with_track}
use Rattle.pending_queue.specs.Maps.{with_tracks}
use Rattle.pending_queue.specs.Entries.{WaitingEntry, is_of_volume, without_volume, entry_tracks, entry_stamp, last_stamp_from, entries_never_fall, is_copy_of, is_due, due, is_later, left}
use Rattle.pending_queue.specs.declared.head.EntryHead.{EntryHead}
use Rattle.pending_queue.proofs.EntryLaws.{never_fall_filter, none_due}
use Rattle.ckd_track.specs.Writes.{writes_never_fall}

-- ---- tracks

pub track_below : (v bound : ℕ) (entries : List WaitingEntry) (k : ℕ) (d : WaitingEntry) → list_all (λ x. nat_lt x bound) (entry_tracks v entries) ≡ true → k < length entries → is_of_volume v (get_or entries k d) ≡ true
    → (get_or entries k d).head.track < bound
track_below v bound [] k d all lt is = absurd (omega arith)
track_below v bound (e ∷ entries) zero d all lt is = ltb-true e.head.track bound (here (is_of_volume v e) is all)
  where
    here : (t : Bool) → t ≡ true → list_all (λ x. nat_lt x bound) (map (λ (e : WaitingEntry). e.head.track) (cond t (e ∷ filter (is_of_volume v) entries) (filter (is_of_volume v) entries))) ≡ true → nat_lt e.head.track bound ≡ true
    here true is all = (and_parts (nat_lt e.head.track bound) (list_all (λ x. nat_lt x bound) (entry_tracks v entries)) all).0
    here false is all = absurd cc
track_below v bound (e ∷ entries) (suc k) d all lt is = track_below v bound entries k d (rest (is_of_volume v e) all) (omega arith) is
  where
    rest : (t : Bool) → list_all (λ x. nat_lt x bound) (map (λ (e : WaitingEntry). e.head.track) (cond t (e ∷ filter (is_of_volume v) entries) (filter (is_of_volume v) entries))) ≡ true → list_all (λ x. nat_lt x bound) (entry_tracks v entries) ≡ true
    rest true all = (and_parts (nat_lt e.head.track bound) (list_all (λ x. nat_lt x bound) (entry_tracks v entries)) all).1
    rest false all = all

-- an entry with a head, to read lists by
abbrev pub some_entry : EntryHead → WaitingEntry
some_entry head = record { head = head; kind = Whole []; form = []; is_copy = false }

-- one more of the first entries
pub taken_more : (entries : List WaitingEntry) (k : ℕ) (d : WaitingEntry) → k < length entries → take (k + 1) entries ≡ take k entries ++ get_or entries k d ∷ []
taken_more entries k d lt = let next : k + 1 ≡ suc k = omega arith in ap (λ n. take n entries) next ∙ take-suc entries k d lt

with_more : (tracks : List ℕ) (x : ℕ) (set : List Bool) → with_tracks set (tracks ++ x ∷ []) ≡ with_track (with_tracks set tracks) x
with_more [] x set = refl
with_more (y ∷ tracks) x set = with_more tracks x (with_track set y)

pub mapped_more : (set : List Bool) (v : ℕ) (entries : List WaitingEntry) (k : ℕ) (d : WaitingEntry) → k < length entries → (get_or entries k d).head.volume ≡ v
    → with_tracks set (entry_tracks v (take (k + 1) entries)) ≡ with_track (with_tracks set (entry_tracks v (take k entries))) (get_or entries k d).head.track
mapped_more set v entries k d lt is =
    let x = get_or entries k d in
    let here : filter (is_of_volume v) (x ∷ []) ≡ x ∷ [] = ap (λ t. cond t (x ∷ []) []) (eq-eqb x.head.volume v is) in
    let tracks : entry_tracks v (take (k + 1) entries) ≡ entry_tracks v (take k entries) ++ x.head.track ∷ [] =
    ap (entry_tracks v) (taken_more entries k d lt) ∙ ap (map (λ (e : WaitingEntry). e.head.track)) (filter-append (is_of_volume v) (take k entries) (x ∷ []) ∙ ap (λ (t : List WaitingEntry). filter (is_of_volume v) (take k entries) ++ t) here)
    ∙ map-append (λ (e : WaitingEntry). e.head.track) (filter (is_of_volume v) (take k entries)) (x ∷ []) in
    ap (with_tracks set) tracks ∙ with_more (entry_tracks v (take k entries)) x.head.track set

pub mapped_same : (set : List Bool) (v : ℕ) (entries : List WaitingEntry) (k : ℕ) (d : WaitingEntry) → k < length entries → ((get_or entries k d).head.volume ≡ v → ⊥)
    → with_tracks set (entry_tracks v (take (k + 1) entries)) ≡ with_tracks set (entry_tracks v (take k entries))
mapped_same set v entries k d lt other =
    let x = get_or entries k d in
    let here : filter (is_of_volume v) (x ∷ []) ≡ [] = ap (λ t. cond t (x ∷ []) []) (ne_eqb x.head.volume v other) in
    ap (λ (es : List WaitingEntry). with_tracks set (map (λ (e : WaitingEntry). e.head.track) es))
    (ap (filter (is_of_volume v)) (taken_more entries k d lt) ∙ filter-append (is_of_volume v) (take k entries) (x ∷ []) ∙ ap (λ (t : List WaitingEntry). filter (is_of_volume v) (take k entries) ++ t) here ∙ append-nil (filter (is_of_volume v) (take k entries)))

-- ---- a queue with fewer entries

pub without_never_falls : (v : ℕ) (entries : List WaitingEntry) → entries_never_fall 0 entries ≡ true → entries_never_fall 0 (without_volume v entries) ≡ true
without_never_falls v entries e = never_fall_filter (λ e. not (is_of_volume v e)) 0 entries e

-- Of entries so many went round once, from the front to the end, and those of a volume are out of them.
abbrev pub round : (volume : ℕ) → List WaitingEntry → (count : ℕ) → List WaitingEntry
round v entries k = drop k entries ++ without_volume v (take k entries)

-- one that goes out, or round
pub record IsRound (v : ℕ) (entries : List WaitingEntry) (k : ℕ) (d : WaitingEntry) : Type 0 where
  pub some : 0 < length (round v entries k)
  pub first : get_or (round v entries k) 0 d ≡ get_or entries k d
  pub out : (get_or entries k d).head.volume ≡ v → drop 1 (round v entries k) ≡ round v entries (k + 1)
  pub turned : ((get_or entries k d).head.volume ≡ v → ⊥) → drop 1 (round v entries k) ++ take 1 (round v entries k) ≡ round v entries (k + 1)

pub goes_round : (v : ℕ) (entries : List WaitingEntry) (k : ℕ) (d : WaitingEntry) → k < length entries → IsRound v entries k d
goes_round v entries k d lt =
    let x = get_or entries k d in
    let next_is : suc k ≡ k + 1 = omega arith in
    let after = drop (suc k) entries in
    let kept = without_volume v (take k entries) in
    let here : round v entries k ≡ x ∷ (after ++ kept) = ap (λ (t : List WaitingEntry). t ++ kept) (drop-cons entries k d lt) in
    let more : without_volume v (take (suc k) entries) ≡ kept ++ without_volume v (x ∷ []) =
    ap (without_volume v) (take-suc entries k d lt) ∙ filter-append (λ e. not (is_of_volume v e)) (take k entries) (x ∷ []) in
    let next : round v entries (suc k) ≡ after ++ (kept ++ without_volume v (x ∷ [])) = ap (λ (t : List WaitingEntry). after ++ t) more in
    let same : round v entries (suc k) ≡ round v entries (k + 1) = ap (round v entries) next_is in
    record {
      some = omega (arith, ap length here);
      first = ap (λ (t : List WaitingEntry). get_or t 0 d) here;
      out = λ is.
          let off : without_volume v (x ∷ []) ≡ [] = ap (λ t. cond (not t) (x ∷ []) []) (eq-eqb x.head.volume v is) in
          ap (drop 1) here ∙ sym (same_end kept (without_volume v (x ∷ [])) off) ∙ sym next ∙ same;
      turned = λ other.
          let on : without_volume v (x ∷ []) ≡ x ∷ [] = ap (λ t. cond (not t) (x ∷ []) []) (ne_eqb x.head.volume v other) in
          ap (λ (t : List WaitingEntry). drop 1 t ++ take 1 t) here ∙ append_assoc after kept (x ∷ []) ∙ ap (λ (t : List WaitingEntry). after ++ (kept ++ t)) (sym on) ∙ sym next ∙ same;
    }
  where
    same_end : (kept none : List WaitingEntry) → none ≡ [] → drop (suc k) entries ++ (kept ++ none) ≡ drop (suc k) entries ++ kept
    same_end kept none is = ap (λ (t : List WaitingEntry). drop (suc k) entries ++ (kept ++ t)) is ∙ ap (λ (t : List WaitingEntry). drop (suc k) entries ++ t) (append-nil kept)

-- ---- copied tracks that a cut leaves

pub any_append : {A : Type 0} (test : A → Bool) (xs ys : List A) → list_any test (xs ++ ys) ≡ (list_any test xs || list_any test ys)
any_append test [] ys = refl
any_append test (x ∷ xs) ys = choose (test x) (any_append test xs ys)
  where
    choose : (t : Bool) → list_any test (xs ++ ys) ≡ (list_any test xs || list_any test ys) → (t || list_any test (xs ++ ys)) ≡ ((t || list_any test xs) || list_any test ys)
    choose true e = refl
    choose false e = e

-- none of them among one more of the first entries
pub none_left_more : (v : ℕ) (cut : Stamp) (entries : List WaitingEntry) (k : ℕ) (d : WaitingEntry) → k < length entries → (is_later cut (get_or entries k d) && is_copy_of v (get_or entries k d)) ≡ false
    → list_any (is_copy_of v) (left cut (take k entries)) ≡ false → list_any (is_copy_of v) (left cut (take (k + 1) entries)) ≡ false
none_left_more v cut entries k d lt not_here none =
    let x = get_or entries k d in
    ap (λ (es : List WaitingEntry). list_any (is_copy_of v) (left cut es)) (taken_more entries k d lt)
    ∙ ap (list_any (is_copy_of v)) (filter-append (is_later cut) (take k entries) (x ∷ []))
    ∙ any_append (is_copy_of v) (left cut (take k entries)) (left cut (x ∷ []))
    ∙ or_from (list_any (is_copy_of v) (left cut (take k entries))) (list_any (is_copy_of v) (left cut (x ∷ []))) none (any_one (is_later cut x) ∙ choose (is_later cut x) (is_copy_of v x) not_here)
  where
    any_one : (later : Bool) → list_any (is_copy_of v) (cond later (get_or entries k d ∷ []) []) ≡ cond later (is_copy_of v (get_or entries k d) || false) false
    any_one true = refl
    any_one false = refl

    choose : (later copy : Bool) → (later && copy) ≡ false → (cond later (copy || false) false) ≡ false
    choose false copy e = refl
    choose true false e = refl
    choose true true e = absurd cc

-- one of them, at a place
pub left_copy_at : (v : ℕ) (cut : Stamp) (entries : List WaitingEntry) (k : ℕ) (e : WaitingEntry) → k < length entries → e ≡ get_or entries k e → is_copy_of v e ≡ true → is_later cut e ≡ true
    → list_any (is_copy_of v) (left cut entries) ≡ true
left_copy_at v cut [] k e lt is copy later = absurd (omega arith)
left_copy_at v cut (x ∷ entries) zero e lt is copy later = here (is_later cut x) (ap (is_later cut) (sym is) ∙ later)
  where
    here : (t : Bool) → t ≡ true → list_any (is_copy_of v) (cond t (x ∷ left cut entries) (left cut entries)) ≡ true
    here true on = ap (λ b. b || list_any (is_copy_of v) (left cut entries)) (ap (is_copy_of v) (sym is) ∙ copy)
    here false on = absurd cc
left_copy_at v cut (x ∷ entries) (suc k) e lt is copy later = there (is_later cut x) (left_copy_at v cut entries k e (omega arith) is copy later)
  where
    there : (t : Bool) → list_any (is_copy_of v) (left cut entries) ≡ true → list_any (is_copy_of v) (cond t (x ∷ left cut entries) (left cut entries)) ≡ true
    there true on = or_right (is_copy_of v x) (list_any (is_copy_of v) (left cut entries)) on
    there false on = on

-- ---- whether a cut takes any

none_taken : (e : WaitingEntry) (rest : List WaitingEntry) → (e ∷ rest ≡ []) → ⊥
none_taken e rest is = cc

pub due_first : (cut : Stamp) (entries : List WaitingEntry) (first : WaitingEntry) (b : Bool) → 0 < length entries → first ≡ get_or entries 0 first → entries_never_fall 0 entries ≡ true → b ≡ nat_le (entry_stamp first) cut.0
    → (b ≡ true → due cut entries ≡ [] → ⊥) × ((due cut entries ≡ [] → ⊥) → b ≡ true)
due_first cut [] first b some is rising test = absurd (omega arith)
due_first cut (e ∷ rest) first b some is rising test = choose (is_due cut e) refl
  where
    same : b ≡ is_due cut e
    same = test ∙ ap (is_due cut) is

    choose : (t : Bool) → is_due cut e ≡ t → (b ≡ true → due cut (e ∷ rest) ≡ [] → ⊥) × ((due cut (e ∷ rest) ≡ [] → ⊥) → b ≡ true)
    choose true on = (λ yes none. none_taken e (due cut rest) (sym (ap (λ (t : Bool). cond t (e ∷ due cut rest) (due cut rest)) on) ∙ none), λ taken. same ∙ on)
    choose false off = (λ yes. absurd (true≢false (sym yes ∙ same ∙ off)), λ taken. absurd (taken (none_due cut e rest rising off).0))

-- ---- moving what is due

pub nothing_due : (cut : Stamp) (entries : List WaitingEntry) (b : Bool) → ((due cut entries ≡ [] → ⊥) → b ≡ true) → b ≡ false → due cut entries ≡ []
nothing_due cut entries b some off = choose (due cut entries) some
  where
    choose : (taken : List WaitingEntry) → ((taken ≡ [] → ⊥) → b ≡ true) → taken ≡ []
    choose [] some = refl
    choose (x ∷ taken) some = absurd (true≢false (sym (some (λ none. none_taken x taken none)) ∙ off))

-- ---- room

pub carried_within : {A : Type 0} (test : A → Bool) (items : List A) (i : ℕ) → length (filter test (take i items)) ≤ length (filter test items)
carried_within test items i = omega (arith, length-filter test (take i items), length-filter test items, sum_by-take-le (λ a. cond (test a) 1 0) items i)

-- The next carried item adds no more than all of them add up to.
pub next_within : {A : Type 0} (test : A → Bool) (f : A → ℕ) (items : List A) (i : ℕ) (x : A) → i < length items → x ≡ get_or items i x → test x ≡ true
    → sum_by f (filter test (take i items)) + f x ≤ sum_by f (filter test items)
next_within test f [] i x lt is on = absurd (omega arith)
next_within test f (y ∷ items) zero x lt is on =
    let here : filter test (y ∷ items) ≡ y ∷ filter test items = ap (λ t. cond t (y ∷ filter test items) (filter test items)) (ap test (sym is) ∙ on) in
    omega (arith, ap (sum_by f) here, sum_by-cons f y (filter test items), ap f is)
next_within test f (y ∷ items) (suc i) x lt is on = choose (test y) (next_within test f items i x (omega arith) is on)
  where
    choose : (t : Bool) → sum_by f (filter test (take i items)) + f x ≤ sum_by f (filter test items)
        → sum_by f (cond t (y ∷ filter test (take i items)) (filter test (take i items))) + f x ≤ sum_by f (cond t (y ∷ filter test items) (filter test items))
    choose true le = omega (arith, le, sum_by-cons f y (filter test (take i items)), sum_by-cons f y (filter test items))
    choose false le = le

-- the carried items among one more of the first
pub carried_more : {A : Type 0} (test : A → Bool) (items : List A) (i : ℕ) (x : A) → i < length items → x ≡ get_or items i x → test x ≡ true → filter test (take (i + 1) items) ≡ filter test (take i items) ++ x ∷ []
carried_more test items i x lt is on =
    let next : i + 1 ≡ suc i = omega arith in
    ap (λ n. filter test (take n items)) next ∙ ap (filter test) (take-suc items i x lt) ∙ filter-append test (take i items) (get_or items i x ∷ [])
    ∙ ap (λ y. filter test (take i items) ++ filter test (y ∷ [])) (sym is) ∙ ap (λ t. filter test (take i items) ++ cond t (x ∷ []) []) on

pub carried_same : {A : Type 0} (test : A → Bool) (items : List A) (i : ℕ) (x : A) → i < length items → x ≡ get_or items i x → test x ≡ false → filter test (take (i + 1) items) ≡ filter test (take i items)
carried_same test items i x lt is off =
    let next : i + 1 ≡ suc i = omega arith in
    ap (λ n. filter test (take n items)) next ∙ ap (filter test) (take-suc items i x lt) ∙ filter-append test (take i items) (get_or items i x ∷ [])
    ∙ ap (λ y. filter test (take i items) ++ filter test (y ∷ [])) (sym is) ∙ ap (λ t. filter test (take i items) ++ cond t (x ∷ []) []) off ∙ append-nil (filter test (take i items))

sum_of_ones : {A : Type 0} (items : List A) → sum_by (λ _. 1) items ≡ length items
sum_of_ones [] = refl
sum_of_ones (x ∷ items) = omega (arith, sum_by-cons (λ _. 1) x items, sum_of_ones items)

pub next_count : {A : Type 0} (test : A → Bool) (items : List A) (i : ℕ) (x : A) → i < length items → x ≡ get_or items i x → test x ≡ true → length (filter test (take i items)) < length (filter test items)
next_count test items i x lt is on = omega (arith, next_within test (λ _. 1) items i x lt is on, sum_of_ones (filter test (take i items)), sum_of_ones (filter test items))

-- ---- stamps

writes_lower : (low last : ℕ) (writes : List Write) → low ≤ last → writes_never_fall last writes ≡ true → writes_never_fall low writes ≡ true
writes_lower low last [] le e = refl
writes_lower low last (w ∷ writes) le e =
    let parts = and_parts (nat_le last w.stamp.0) (writes_never_fall w.stamp.0 writes) e in
    and_from (nat_le low w.stamp.0) (writes_never_fall w.stamp.0 writes) (le-leb low w.stamp.0 (omega (arith, leb-true last w.stamp.0 parts.0))) parts.1

-- of writes whose stamps don't fall some are left out
pub carried_never_fall : (test : Write → Bool) (last : ℕ) (writes : List Write) → writes_never_fall last writes ≡ true → writes_never_fall last (filter test writes) ≡ true
carried_never_fall test last [] e = refl
carried_never_fall test last (w ∷ writes) e =
    let parts = and_parts (nat_le last w.stamp.0) (writes_never_fall w.stamp.0 writes) e in
    choose (test w) parts.0 (carried_never_fall test w.stamp.0 writes parts.1)
  where
    choose : (t : Bool) → nat_le last w.stamp.0 ≡ true → writes_never_fall w.stamp.0 (filter test writes) ≡ true → writes_never_fall last (cond t (w ∷ filter test writes) (filter test writes)) ≡ true
    choose true le rest = and_from (nat_le last w.stamp.0) (writes_never_fall w.stamp.0 (filter test writes)) le rest
    choose false le rest = writes_lower last w.stamp.0 (filter test writes) (leb-true last w.stamp.0 le) rest

-- one more entry at the end
pub pushed_rises : (last : ℕ) (entries : List WaitingEntry) (e : WaitingEntry) → entries_never_fall last entries ≡ true → last_stamp_from last entries ≤ entry_stamp e → entries_never_fall last (entries ++ e ∷ []) ≡ true
pushed_rises last [] e rising le = and_from (nat_le last (entry_stamp e)) true (le-leb last (entry_stamp e) le) refl
pushed_rises last (x ∷ entries) e rising le =
    let parts = and_parts (nat_le last (entry_stamp x)) (entries_never_fall (entry_stamp x) entries) rising in
    and_from (nat_le last (entry_stamp x)) (entries_never_fall (entry_stamp x) (entries ++ e ∷ [])) parts.0 (pushed_rises (entry_stamp x) entries e parts.1 le)

pub all_carried : (writes : List Write) → filter (λ w. true) writes ≡ writes
all_carried [] = refl
all_carried (w ∷ writes) = ap (λ (ws : List Write). w ∷ ws) (all_carried writes)
