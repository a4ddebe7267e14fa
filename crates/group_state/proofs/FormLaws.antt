-- A form leaves a controller sound; which plans are done after it.
use Rattle.std.proofs.Common.{inl, inr, ◌≡◌, ℕ, suc, zero, ◌<◌, ◌+◌, ◌-◌, Bool, true, false, not, cond, nat_eq, ◌&&◌, ◌||◌, List, [], ◌∷◌, ◌++◌, length, get_or, take, Option, Some, None, refl, sym, ap, ◌∙◌, arith}
use Rattle.std.specs.Prelude.{◌==◌, nat_lt, nat_le, map, filter}
use Rattle.std.specs.List.{list_all, list_any, count_by}
use Rattle.std.proofs.lemmas.Bool.{cases_Bool, cases_lt, and_parts, or_parts, and_from, eqb-true, eq-eqb, lt-ltb, lt-leb, le-ltb, le-leb, not-true}
use Rattle.std.proofs.lemmas.List.Elements.{filter_more, filter-append}
use Rattle.std.proofs.lemmas.List.Filters.{sum_by-filter_both}
use Rattle.std.proofs.lemmas.List.{append-nil}
use Rattle.std.proofs.lemmas.List.Sums.{fold_push, sum_by-take-le, sum_by_more}
use Rattle.tod_stamp.specs.declared.stamp.Stamp.{Stamp}
use Rattle.change_map.specs.Sets.{has_track, size}
use Rattle.pending_queue.specs.Entries.{WaitingEntry, entry_stamp, is_of_volume, is_copy_of, copies, is_due, is_later, due, left}
use Rattle.pending_queue.specs.Groups.{FormedGroup}
use Rattle.group_state.specs.declared.volume.Volume.{Volume}
use Rattle.group_state.specs.Volumes.{is_numbered, volume_of, has_volume, with_volume, passes, formed_track, with_formed_copy, with_formed_copies, is_volume_done, is_done_after, numbers_of}
use Rattle.group_state.specs.Controls.{ControlState, formed, reported_break, done_of}
use Rattle.group_state.specs.Groups.{with_news}
use Rattle.group_state.specs.SoundStates.{passes_or_none, has_sizes, are_distinct, may_wait, is_entry_of, is_entry_of_control, may_form, has_joined, CopiesAreCounted, Sound}
use Rattle.group_state.proofs.VolumeLaws.{distinct_with, all_with, or_none_with, none_found}
use Rattle.pending_queue.proofs.EntryLaws.{left_never_falls}
use Rattle.group_state.proofs.SoundLaws.{all_filter, entries_with, count_cons, swapped}

-- ---- a form

formed_wait : (e : WaitingEntry) (u : Volume) → may_wait e u ≡ true → may_wait e (formed_track u) ≡ true
formed_wait e u ok = ok

entries_formed : (volumes : List Volume) (formed : List WaitingEntry) (entries : List WaitingEntry) → list_all (is_entry_of volumes) entries ≡ true → list_all (is_entry_of (with_formed_copies volumes formed)) entries ≡ true
entries_formed volumes [] entries e = e
entries_formed volumes (x ∷ formed) entries e = entries_formed (with_formed_copy volumes x) formed entries (entries_with x.head.volume formed_track (λ u. refl) formed_wait volumes entries e)

sizes_formed : (volumes : List Volume) (formed : List WaitingEntry) → list_all has_sizes volumes ≡ true → list_all has_sizes (with_formed_copies volumes formed) ≡ true
sizes_formed volumes [] e = e
sizes_formed volumes (x ∷ formed) e = sizes_formed (with_formed_copy volumes x) formed (all_with has_sizes x.head.volume formed_track (λ u ok. ok) volumes e)

distinct_formed : (volumes : List Volume) (formed : List WaitingEntry) → are_distinct (with_formed_copies volumes formed) ≡ are_distinct volumes
distinct_formed volumes [] = refl
distinct_formed volumes (x ∷ formed) = distinct_formed (with_formed_copy volumes x) formed ∙ distinct_with x.head.volume formed_track (λ u. refl) volumes

-- each formed copy of a volume counts its plan down by one
pub joined_formed : (v n : ℕ) (volumes : List Volume) (formed : List WaitingEntry) → passes_or_none (has_joined (count_by (is_of_volume v) formed + n)) (volume_of v volumes) ≡ true → passes_or_none (has_joined n) (volume_of v (with_formed_copies volumes formed)) ≡ true
joined_formed v n volumes [] e = ap (λ m. passes_or_none (has_joined m) (volume_of v volumes)) (omega arith) ∙ e
joined_formed v n volumes (x ∷ formed) e =
    let count = count_by (is_of_volume v) (x ∷ formed) + n in
    let rest = count_by (is_of_volume v) formed + n in
    joined_formed v n (with_formed_copy volumes x) formed
    (or_none_with (has_joined count) (has_joined rest) x.head.volume v formed_track (λ u. refl)
    (λ same u ok. fewer u.carried u.plan.joined count rest (omega (arith, count_cons (is_of_volume v) x formed, ap {B = ℕ} (λ b. cond b 1 0) same)) ok)
    (λ other u ok. ap (λ m. has_joined m u) (omega (arith, count_cons (is_of_volume v) x formed, ap {B = ℕ} (λ b. cond b 1 0) other)) ∙ ok) volumes e)
  where
    fewer : (c : Bool) (j count rest : ℕ) → count ≡ rest + 1 → (not c || j == count) ≡ true → (not c || (j - 1) == rest) ≡ true
    fewer false j count rest e ok = refl
    fewer true j count rest e ok = eq-eqb (j - 1) rest (omega (arith, eqb-true j count ok))

-- the copied tracks of a volume
true_one : (b : Bool) → cond {A = ℕ} (b && true) 1 0 ≡ cond {A = ℕ} b 1 0
true_one true = refl
true_one false = refl

false_none : (b : Bool) → cond {A = ℕ} (b && false) 1 0 ≡ 0
false_none true = refl
false_none false = refl

pub copies_count : (v : ℕ) (entries : List WaitingEntry) → count_by (is_of_volume v) (copies entries) ≡ count_by (is_copy_of v) entries
copies_count v [] = refl
copies_count v (e ∷ entries) = choose e.is_copy refl (copies_count v entries)
  where
    choose : (k : Bool) → e.is_copy ≡ k → count_by (is_of_volume v) (copies entries) ≡ count_by (is_copy_of v) entries
        → count_by (is_of_volume v) (cond k (e ∷ copies entries) (copies entries)) ≡ count_by (is_copy_of v) (e ∷ entries)
    choose true is rest = omega (arith, rest, count_cons (is_of_volume v) e (copies entries), count_cons (is_copy_of v) e entries, ap {B = ℕ} (λ b. cond (is_of_volume v e && b) 1 0) is, true_one (is_of_volume v e))
    choose false is rest = omega (arith, rest, count_cons (is_copy_of v) e entries, ap {B = ℕ} (λ b. cond (is_of_volume v e && b) 1 0) is, false_none (is_of_volume v e))

pub later_not : (cut : Stamp) (e : WaitingEntry) → is_later cut e ≡ not (is_due cut e)
later_not cut e = elim (cases_lt cut.0 (entry_stamp e)) [
  | inl lt ↦ rw (lt-ltb cut.0 (entry_stamp e) lt, lt-leb (entry_stamp e) cut.0 lt) refl
  | inr le ↦ rw (le-ltb cut.0 (entry_stamp e) le, le-leb (entry_stamp e) cut.0 le) refl
]

-- those that a cut takes, and those that it leaves
pub due_copies : (v : ℕ) (cut : Stamp) (waiting : List WaitingEntry) → count_by (is_of_volume v) (copies (due cut waiting)) + count_by (is_copy_of v) (left cut waiting) ≡ count_by (is_copy_of v) waiting
due_copies v cut waiting = omega (arith, copies_count v (due cut waiting), sum_by-filter_both (is_due cut) (is_later cut) (later_not cut) (λ e. cond (is_copy_of v e) 1 0) waiting)

pub sound_formed : (cut : Stamp) (c : ControlState) → Sound c → Sound (formed cut c)
sound_formed cut c s =
    let waiting = c.queue.waiting in
    let taken = copies (due cut waiting) in
    record {
      own = all_filter (is_entry_of_control c.queue.control) (is_later cut) waiting s.own;
      rises = left_never_falls cut waiting s.rises;
      stamps = all_filter (λ e. nat_le (entry_stamp e) c.floor.0) (is_later cut) waiting s.stamps;
      sizes = sizes_formed c.volumes taken s.sizes;
      distinct = distinct_formed c.volumes taken ∙ s.distinct;
      entries = all_filter (is_entry_of (with_formed_copies c.volumes taken)) (is_later cut) waiting (entries_formed c.volumes taken waiting s.entries);
      counts = λ v. joined_formed v (count_by (is_copy_of v) (left cut waiting)) c.volumes taken (ap (λ n. passes_or_none (has_joined n) (volume_of v c.volumes)) (due_copies v cut waiting) ∙ s.counts v);
    }

-- ---- one copied track more

pub formed_more : (volumes : List Volume) (cut : Stamp) (waiting : List WaitingEntry) (k : ℕ) (e : WaitingEntry) → k < length waiting → e ≡ get_or waiting k e
    → with_formed_copies volumes (copies (due cut (take (k + 1) waiting)))
    ≡ cond (is_due cut e && e.is_copy) (with_formed_copy (with_formed_copies volumes (copies (due cut (take k waiting)))) e) (with_formed_copies volumes (copies (due cut (take k waiting))))
formed_more volumes cut waiting k e lt is =
    let before = copies (due cut (take k waiting)) in
    let one : due cut (take (k + 1) waiting) ≡ due cut (take k waiting) ++ cond (is_due cut e) (e ∷ []) [] = filter_more (is_due cut) waiting k e lt ∙ ap (λ (x : WaitingEntry). due cut (take k waiting) ++ cond (is_due cut x) (x ∷ []) []) (sym is) in
    let more : copies (due cut (take (k + 1) waiting)) ≡ before ++ copies (cond (is_due cut e) (e ∷ []) []) = ap copies one ∙ filter-append (λ (x : WaitingEntry). x.is_copy) (due cut (take k waiting)) (cond (is_due cut e) (e ∷ []) []) in
    ap (with_formed_copies volumes) more ∙ choose before (is_due cut e) e.is_copy refl
  where
    choose : (before : List WaitingEntry) (d k : Bool) → e.is_copy ≡ k → with_formed_copies volumes (before ++ copies (cond d (e ∷ []) [])) ≡ cond (d && k) (with_formed_copy (with_formed_copies volumes before) e) (with_formed_copies volumes before)
    choose before false k copy = ap (with_formed_copies volumes) (append-nil before)
    choose before true true copy = ap (λ (b : Bool). with_formed_copies volumes (before ++ cond b (e ∷ []) [])) copy ∙ fold_push with_formed_copy volumes before e
    choose before true false copy = ap (λ (b : Bool). with_formed_copies volumes (before ++ cond b (e ∷ []) [])) copy ∙ ap (with_formed_copies volumes) (append-nil before)

both_pass : (one two after : Volume → Bool) (o : Option Volume) → ((u : Volume) → one u ≡ true → two u ≡ true → after u ≡ true) → passes one o ≡ true → passes_or_none two o ≡ true → passes after o ≡ true
both_pass one two after None up e f = absurd cc
both_pass one two after (Some u) up e f = up u e f

pub all_at : {A : Type 0} (test : A → Bool) (items : List A) (k : ℕ) (d : A) → list_all test items ≡ true → k < length items → test (get_or items k d) ≡ true
all_at test [] k d e lt = absurd (omega arith)
all_at test (a ∷ items) zero d e lt = (and_parts (test a) (list_all test items) e).0
all_at test (a ∷ items) (suc k) d e lt = all_at test items k d (and_parts (test a) (list_all test items) e).1 (omega arith)

-- the next due copy's volume has a joined track
pub may_form_next : (volumes : List Volume) (cut : Stamp) (waiting : List WaitingEntry) (k : ℕ) (e : WaitingEntry) → k < length waiting → e ≡ get_or waiting k e → e.is_copy ≡ true → list_all (is_entry_of volumes) waiting ≡ true → CopiesAreCounted waiting volumes
    → passes (may_form e.head.track) (volume_of e.head.volume (with_formed_copies volumes (copies (due cut (take k waiting))))) ≡ true
may_form_next volumes cut waiting k e lt is copy entries counts =
    let v = e.head.volume in
    let taken = copies (due cut (take k waiting)) in
    let now = with_formed_copies volumes taken in
    let waits : is_entry_of now e ≡ true = ap (is_entry_of now) is ∙ all_at (is_entry_of now) waiting k e (entries_formed volumes taken waiting entries) lt in
    let all = count_by (is_copy_of v) waiting in
    let done = count_by (is_of_volume v) taken in
    let here : cond {A = ℕ} (is_copy_of v (get_or waiting k e)) 1 0 ≡ 1 =
    ap {B = ℕ} (λ (x : WaitingEntry). cond (is_copy_of v x) 1 0) (sym is) ∙ ap {B = ℕ} (λ b. cond (nat_eq v v && b) 1 0) copy ∙ ap {B = ℕ} (λ b. cond (b && true) 1 0) (eq-eqb v v refl) in
    let first = sum_by_more (λ x. cond (is_copy_of v x) 1 0) waiting k e lt in
    let within = sum_by-take-le (λ x. cond (is_copy_of v x) 1 0) waiting (k + 1) in
    let some : done < all = omega (arith, here, first, within, due_copies v cut (take k waiting)) in
    let rest : done + (all - done) ≡ all = omega (arith, some) in
    both_pass (may_wait e) (has_joined (all - done)) (may_form e.head.track) (volume_of v now)
    (λ u ok joined. ready u ok (all - done) (omega (arith, some)) joined) waits
    (joined_formed v (all - done) volumes taken (ap (λ n. passes_or_none (has_joined n) (volume_of v volumes)) rest ∙ counts v))
  where
    ready : (u : Volume) → may_wait e u ≡ true → (n : ℕ) → 0 < n → has_joined n u ≡ true → may_form e.head.track u ≡ true
    ready u ok n some joined =
        let parts = and_parts u.carried (nat_lt e.head.track (length u.map) && not (e.is_copy && has_track u.plan.wanted e.head.track)) ok in
        let rest = and_parts (nat_lt e.head.track (length u.map)) (not (e.is_copy && has_track u.plan.wanted e.head.track)) parts.1 in
        and_from (not (has_track u.plan.wanted e.head.track)) (nat_lt 0 u.plan.joined) (ap (λ b. not (b && has_track u.plan.wanted e.head.track)) (sym copy) ∙ rest.1)
        (counted u.carried parts.0 u.plan.joined joined)
      where
        counted : (c : Bool) → c ≡ true → (j : ℕ) → (not c || j == n) ≡ true → nat_lt 0 j ≡ true
        counted true is j same = lt-ltb 0 j (omega (arith, some, eqb-true j n same))
        counted false is j same = absurd cc

-- ---- which plans are done after a form

count_any : {A : Type 0} (test : A → Bool) (items : List A) → nat_eq (count_by test items) 0 ≡ not (list_any test items)
count_any test [] = refl
count_any test (a ∷ items) = choose (test a) refl (count_any test items)
  where
    choose : (t : Bool) → test a ≡ t → nat_eq (count_by test items) 0 ≡ not (list_any test items) → nat_eq (count_by test (a ∷ items)) 0 ≡ not (t || list_any test items)
    choose true is rest = not_zero (count_by test (a ∷ items)) (omega (arith, count_cons test a items, ap {B = ℕ} (λ b. cond b 1 0) is))
      where
        not_zero : (n : ℕ) → 0 < n → nat_eq n 0 ≡ false
        not_zero n lt = elim (cases_Bool (nat_eq n 0)) [ inl same ↦ absurd (omega (arith, eqb-true n 0 same)) | inr other ↦ other ]
    choose false is rest = ap (λ n. nat_eq n 0) (omega (arith, count_cons test a items, ap {B = ℕ} (λ b. cond b 1 0) is)) ∙ rest

filter_mapped : {A B : Type 0} (test : B → Bool) (f : A → B) (items : List A) → filter test (map f items) ≡ map f (filter (λ a. test (f a)) items)
filter_mapped test f [] = refl
filter_mapped {A} {B} test f (a ∷ items) = choose (test (f a)) (filter_mapped test f items)
  where
    choose : (t : Bool) → filter test (map f items) ≡ map f (filter (λ a. test (f a)) items) → cond t (f a ∷ filter test (map f items)) (filter test (map f items)) ≡ map f (cond t (a ∷ filter (λ a. test (f a)) items) (filter (λ a. test (f a)) items))
    choose true rest = ap (λ (bs : List B). f a ∷ bs) rest
    choose false rest = rest

filter_same_where : {A : Type 0} (ok one two : A → Bool) (items : List A) → ((a : A) → ok a ≡ true → one a ≡ two a) → list_all ok items ≡ true → filter one items ≡ filter two items
filter_same_where ok one two [] same e = refl
filter_same_where {A} ok one two (a ∷ items) same e =
    let parts = and_parts (ok a) (list_all ok items) e in
    ap (λ (b : Bool). cond b (a ∷ filter one items) (filter one items)) (same a parts.0) ∙ ap (λ (kept : List A). cond (two a) (a ∷ kept) kept) (filter_same_where ok one two items same parts.1)

-- a volume after these copied tracks are formed
abbrev formed_by : List WaitingEntry → Volume → Volume
formed_by formed u = record u { plan = record u.plan { joined = u.plan.joined - count_by (is_of_volume u.number) formed } }

abbrev changed_where : (v : ℕ) → Volume → Volume
changed_where v u = cond (is_numbered v u) (formed_track u) u

none_where : (v : ℕ) (volumes : List Volume) → has_volume v volumes ≡ false → map (changed_where v) volumes ≡ volumes
none_where v [] e = refl
none_where v (u ∷ volumes) e =
    let parts = or_parts (is_numbered v u) (has_volume v volumes) e in
    rw (parts.0, none_where v volumes parts.1) refl

formed_where : (v : ℕ) (volumes : List Volume) → are_distinct volumes ≡ true → with_volume v formed_track volumes ≡ map (changed_where v) volumes
formed_where v [] e = refl
formed_where v (u ∷ volumes) e =
    let parts = and_parts (not (has_volume u.number volumes)) (are_distinct volumes) e in
    choose (is_numbered v u) refl (not-true (has_volume u.number volumes) parts.0) (formed_where v volumes parts.1)
  where
    choose : (t : Bool) → is_numbered v u ≡ t → has_volume u.number volumes ≡ false → with_volume v formed_track volumes ≡ map (changed_where v) volumes
        → cond t (formed_track u ∷ volumes) (u ∷ with_volume v formed_track volumes) ≡ cond t (formed_track u) u ∷ map (changed_where v) volumes
    choose true is none rest = ap (λ (us : List Volume). formed_track u ∷ us) (sym (none_where v volumes (ap (λ n. has_volume n volumes) (sym (eqb-true u.number v is)) ∙ none)))
    choose false is none rest = ap (λ (us : List Volume). u ∷ us) rest

map_both : {A B C : Type 0} (g : B → C) (f : A → B) (h : A → C) (items : List A) → ((a : A) → g (f a) ≡ h a) → map g (map f items) ≡ map h items
map_both g f h [] same = refl
map_both {A} {B} {C} g f h (a ∷ items) same = ap (λ (c : C). c ∷ map g (map f items)) (same a) ∙ ap (λ (cs : List C). h a ∷ cs) (map_both g f h items same)

formed_one : (x : WaitingEntry) (formed : List WaitingEntry) (u : Volume) → formed_by formed (changed_where x.head.volume u) ≡ formed_by (x ∷ formed) u
formed_one x formed u = choose (is_numbered x.head.volume u) refl
  where
    choose : (t : Bool) → is_numbered x.head.volume u ≡ t → formed_by formed (cond t (formed_track u) u) ≡ formed_by (x ∷ formed) u
    choose true is =
        let same : nat_eq x.head.volume u.number ≡ true = eq-eqb x.head.volume u.number (sym (eqb-true u.number x.head.volume is)) in
        ap (λ j. record u { plan = record u.plan { joined = j } }) (omega (arith, count_cons (is_of_volume u.number) x formed, ap {B = ℕ} (λ b. cond b 1 0) same))
    choose false is =
        let other : nat_eq x.head.volume u.number ≡ false = swapped u.number x.head.volume is in
        ap (λ j. record u { plan = record u.plan { joined = j } }) (omega (arith, count_cons (is_of_volume u.number) x formed, ap {B = ℕ} (λ b. cond b 1 0) other))

formed_none : (volumes : List Volume) → map (formed_by []) volumes ≡ volumes
formed_none [] = refl
formed_none (u ∷ volumes) =
    ap (λ j. record u { plan = record u.plan { joined = j } } ∷ map (formed_by []) volumes) (omega arith) ∙ ap (λ (us : List Volume). u ∷ us) (formed_none volumes)

formed_all : (volumes : List Volume) (formed : List WaitingEntry) → are_distinct volumes ≡ true → with_formed_copies volumes formed ≡ map (formed_by formed) volumes
formed_all volumes [] e = sym (formed_none volumes)
formed_all volumes (x ∷ formed) e =
    formed_all (with_formed_copy volumes x) formed (distinct_with x.head.volume formed_track (λ u. refl) volumes ∙ e)
    ∙ ap (map (formed_by formed)) (formed_where x.head.volume volumes e)
    ∙ map_both (formed_by formed) (changed_where x.head.volume) (formed_by (x ∷ formed)) volumes (formed_one x formed)

-- what is found by its number holds of each volume
found_each : (test : ℕ → Volume → Bool) (volumes : List Volume) → are_distinct volumes ≡ true → ((v : ℕ) → passes_or_none (test v) (volume_of v volumes) ≡ true) → list_all (λ u. test u.number u) volumes ≡ true
found_each test [] e all = refl
found_each test (u ∷ volumes) e all =
    let parts = and_parts (not (has_volume u.number volumes)) (are_distinct volumes) e in
    and_from (test u.number u) (list_all (λ u. test u.number u) volumes)
    (ap (λ (b : Bool). passes_or_none (test u.number) (cond b (Some u) (volume_of u.number volumes))) (sym (eq-eqb u.number u.number refl)) ∙ all u.number)
    (found_each test volumes parts.1 (λ v. others v (is_numbered v u) refl (all v)))
  where
    others : (v : ℕ) (t : Bool) → is_numbered v u ≡ t → passes_or_none (test v) (cond t (Some u) (volume_of v volumes)) ≡ true → passes_or_none (test v) (volume_of v volumes) ≡ true
    others v false is ok = ok
    others v true is ok = ap (passes_or_none (test v)) (none_found v volumes (ap (λ n. has_volume n volumes) (sym (eqb-true u.number v is)) ∙ not-true (has_volume u.number volumes) (and_parts (not (has_volume u.number volumes)) (are_distinct volumes) e).0))

done_one : (cut : Stamp) (waiting : List WaitingEntry) (u : Volume) → has_joined (count_by (is_copy_of u.number) waiting) u ≡ true → is_volume_done (formed_by (copies (due cut waiting)) u) ≡ is_done_after cut waiting u
done_one cut waiting u ok = choose u.carried ok
  where
    choose : (c : Bool) → (not c || u.plan.joined == count_by (is_copy_of u.number) waiting) ≡ true
        → (c && (size u.plan.wanted == 0 && (u.plan.joined - count_by (is_of_volume u.number) (copies (due cut waiting))) == 0)) ≡ (c && (size u.plan.wanted == 0 && not (list_any (is_copy_of u.number) (left cut waiting))))
    choose false ok = refl
    choose true ok =
        let n = u.number in
        let rest : u.plan.joined - count_by (is_of_volume n) (copies (due cut waiting)) ≡ count_by (is_copy_of n) (left cut waiting) = omega (arith, eqb-true u.plan.joined (count_by (is_copy_of n) waiting) ok, due_copies n cut waiting) in
        ap (λ b. size u.plan.wanted == 0 && b) (ap (λ j. nat_eq j 0) rest ∙ count_any (is_copy_of n) (left cut waiting))

-- the volumes that are shown as done
pub done_is : (cut : Stamp) (c : ControlState) → Sound c → done_of (formed cut c) ≡ numbers_of c.queue.control (filter (is_done_after cut c.queue.waiting) c.volumes)
done_is cut c s =
    let waiting = c.queue.waiting in
    let taken = copies (due cut waiting) in
    ap (λ (us : List Volume). numbers_of c.queue.control (filter is_volume_done us)) (formed_all c.volumes taken s.distinct)
    ∙ ap (numbers_of c.queue.control) (filter_mapped is_volume_done (formed_by taken) c.volumes)
    ∙ map_both (λ (u : Volume). (c.queue.control, u.number)) (formed_by taken) (λ (u : Volume). (c.queue.control, u.number)) (filter (λ u. is_volume_done (formed_by taken u)) c.volumes) (λ u. refl)
    ∙ ap (numbers_of c.queue.control) (filter_same_where (λ u. has_joined (count_by (is_copy_of u.number) waiting) u) (λ u. is_volume_done (formed_by taken u)) (is_done_after cut waiting) c.volumes (done_one cut waiting)
    (found_each (λ v u. has_joined (count_by (is_copy_of v) waiting) u) c.volumes s.distinct s.counts))

-- what one controller shows of a form, before it is made
pub announced : (cut : Stamp) (c : ControlState) (out : FormedGroup) → Sound c
    → (let told = record out { breaks = out.breaks ++ reported_break cut c } in record told { done = told.done ++ numbers_of c.queue.control (filter (is_done_after cut c.queue.waiting) c.volumes) }) ≡ with_news cut (c ∷ []) out
announced cut c out s = λ i. record out { breaks = out.breaks ++ sym (append-nil (reported_break cut c)) i; done = out.done ++ (sym (done_is cut c s) ∙ sym (append-nil (done_of (formed cut c)))) i }
