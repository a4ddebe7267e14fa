-- What a form shows of one controller is what was due in its queue.
use Rattle.std.proofs.Common.{◌≡◌, ℕ, zero, suc, ◌+◌, ◌<◌, ◌≤◌, Bool, true, false, not, nat_eq, nat_le, nat_lt, ◌&&◌, ◌||◌, List, [], ◌∷◌, ◌++◌, length, get_or, refl, sym, ap, subst, ◌∙◌, arith, true≢false}
use Rattle.std.specs.Prelude.{filter}
use Rattle.std.specs.List.{list_all, flat_map}
use Rattle.std.proofs.lemmas.Bool.{and_parts, and_from, eqb-true, ne_eqb, leb-true, le-ltb}
use Rattle.std.proofs.lemmas.List.Elements.{All-get_or, filter-append}
use Rattle.std.proofs.lemmas.List.{append-nil}
use Rattle.tod_stamp.specs.declared.stamp.Stamp.{Stamp}
use Rattle.xrc_edge.specs.Order.{in_order, is_in_order}
use Rattle.xrc_edge.proofs.OrderLaws.{order_stays}
use Rattle.xrc_edge.proofs.Positions.{filter_order}
use Rattle.pending_queue.specs.Entries.{WaitingEntry, entry_stamp, entries_never_fall, is_due, due, stands_before}
use Rattle.pending_queue.proofs.EntryLaws.{before_order, never_fall_filter}
use Rattle.group_state.specs.Controls.{ControlState, new_control, due_of}
use Rattle.group_state.specs.Groups.{Group, control_at, are_numbered, has_few}
use Rattle.group_state.specs.SoundStates.{IsGroupSound, Sound, is_entry_of_control}
use Rattle.group_state.specs.HistoryLaws.{FormsShowOwnParts}
use Rattle.group_state.proofs.SoundLaws.{all_filter}

-- ---- numbers

pub number_at : (first i : ℕ) (controls : List ControlState) (d : ControlState) → are_numbered first controls ≡ true → i < length controls → (get_or controls i d).queue.control ≡ first + i
number_at first i [] d numbered low = absurd (omega (arith, low))
number_at first zero (c ∷ controls) d numbered low =
    let parts = and_parts (nat_eq c.queue.control first && has_few c) (are_numbered (first + 1) controls) numbered in
    let is : c.queue.control ≡ first = eqb-true c.queue.control first (and_parts (nat_eq c.queue.control first) (has_few c) parts.0).0 in
    is ∙ omega arith
number_at first (suc i) (c ∷ controls) d numbered low =
    let parts = and_parts (nat_eq c.queue.control first && has_few c) (are_numbered (first + 1) controls) numbered in
    number_at (first + 1) i controls d parts.1 (omega (arith, low)) ∙ omega arith

pub control_number : (s : Group) (k : ℕ) → IsGroupSound s → k < length s.controls → (control_at s k).queue.control ≡ k
control_number s k keeps low = number_at 0 k s.controls (new_control 0 0 0) keeps.controls_kept.numbered low ∙ omega arith

-- ---- entries of one controller

all_own : (k : ℕ) (entries : List WaitingEntry) → list_all (is_entry_of_control k) entries ≡ true → filter (is_entry_of_control k) entries ≡ entries
all_own k [] own = refl
all_own k (e ∷ entries) own =
    let parts = and_parts (is_entry_of_control k e) (list_all (is_entry_of_control k) entries) own in
    rw parts.0 (ap (λ (es : List WaitingEntry). e ∷ es) (all_own k entries parts.1))

none_own : (k j : ℕ) (entries : List WaitingEntry) → nat_eq j k ≡ false → list_all (is_entry_of_control j) entries ≡ true → filter (is_entry_of_control k) entries ≡ []
none_own k j [] other own = refl
none_own k j (e ∷ entries) other own =
    let parts = and_parts (is_entry_of_control j e) (list_all (is_entry_of_control j) entries) own in
    let not_here : is_entry_of_control k e ≡ false = ap (λ n. nat_eq n k) (eqb-true e.head.control j parts.0) ∙ other in
    rw not_here (none_own k j entries other parts.1)

-- what waits in each queue is of its own controller
abbrev Owned : List ControlState → Type 0
Owned controls = (i : ℕ) → i < length controls → let c = get_or controls i (new_control 0 0 0) in list_all (is_entry_of_control c.queue.control) c.queue.waiting ≡ true

own_of_due : (cut : Stamp) (k first : ℕ) (c : ControlState) → c.queue.control ≡ first → list_all (is_entry_of_control c.queue.control) c.queue.waiting ≡ true → list_all (is_entry_of_control first) (due_of cut c) ≡ true
own_of_due cut k first c is own = subst (λ n. list_all (is_entry_of_control n) (due_of cut c) ≡ true) is (all_filter (is_entry_of_control c.queue.control) (is_due cut) c.queue.waiting own)

number_of : (first : ℕ) (c : ControlState) (controls : List ControlState) → are_numbered first (c ∷ controls) ≡ true → (c.queue.control ≡ first) × (are_numbered (first + 1) controls ≡ true)
number_of first c controls numbered =
    let parts = and_parts (nat_eq c.queue.control first && has_few c) (are_numbered (first + 1) controls) numbered in
    (eqb-true c.queue.control first (and_parts (nat_eq c.queue.control first) (has_few c) parts.0).0, parts.1)

none_after : (cut : Stamp) (k first : ℕ) (controls : List ControlState) → k < first → are_numbered first controls ≡ true → Owned controls → filter (is_entry_of_control k) (flat_map (due_of cut) controls) ≡ []
none_after cut k first [] lt numbered owned = refl
none_after cut k first (c ∷ controls) lt numbered owned =
    let parts = number_of first c controls numbered in
    filter-append (is_entry_of_control k) (due_of cut c) (flat_map (due_of cut) controls)
    ∙ ap (λ (es : List WaitingEntry). es ++ filter (is_entry_of_control k) (flat_map (due_of cut) controls)) (none_own k first (due_of cut c) (ne_eqb first k (λ e. omega (arith, lt, e))) (own_of_due cut k first c parts.0 (owned 0 (omega arith))))
    ∙ none_after cut k (first + 1) controls (omega (arith, lt)) parts.1 (λ i low. owned (suc i) (omega (arith, low)))

own_due : (cut : Stamp) (i first : ℕ) (controls : List ControlState) → are_numbered first controls ≡ true → Owned controls → i < length controls
    → filter (is_entry_of_control (first + i)) (flat_map (due_of cut) controls) ≡ due_of cut (get_or controls i (new_control 0 0 0))
own_due cut i first [] numbered owned low = absurd (omega (arith, low))
own_due cut zero first (c ∷ controls) numbered owned low =
    let parts = number_of first c controls numbered in
    let at : first + 0 ≡ first = omega arith in
    subst (λ n. filter (is_entry_of_control n) (due_of cut c ++ flat_map (due_of cut) controls) ≡ due_of cut c) (sym at)
    (filter-append (is_entry_of_control first) (due_of cut c) (flat_map (due_of cut) controls)
    ∙ ap (λ (es : List WaitingEntry). es ++ filter (is_entry_of_control first) (flat_map (due_of cut) controls)) (all_own first (due_of cut c) (own_of_due cut first first c parts.0 (owned 0 (omega arith))))
    ∙ ap (λ (es : List WaitingEntry). due_of cut c ++ es) (none_after cut first (first + 1) controls (omega arith) parts.1 (λ i low. owned (suc i) (omega (arith, low))))
    ∙ append-nil (due_of cut c))
own_due cut (suc i) first (c ∷ controls) numbered owned low =
    let parts = number_of first c controls numbered in
    let at : first + suc i ≡ (first + 1) + i = omega arith in
    subst (λ n. filter (is_entry_of_control n) (due_of cut c ++ flat_map (due_of cut) controls) ≡ due_of cut (get_or controls i (new_control 0 0 0))) (sym at)
    (filter-append (is_entry_of_control ((first + 1) + i)) (due_of cut c) (flat_map (due_of cut) controls)
    ∙ ap (λ (es : List WaitingEntry). es ++ filter (is_entry_of_control ((first + 1) + i)) (flat_map (due_of cut) controls))
    (none_own ((first + 1) + i) first (due_of cut c) (ne_eqb first ((first + 1) + i) (λ e. omega (arith, e))) (own_of_due cut i first c parts.0 (owned 0 (omega arith))))
    ∙ own_due cut i (first + 1) controls parts.1 (λ j lt. owned (suc j) (omega (arith, lt))) (omega (arith, low)))

-- ---- entries of one controller stand in order

none_before : (k last : ℕ) (a : WaitingEntry) (entries : List WaitingEntry) → is_entry_of_control k a ≡ true → entry_stamp a ≤ last → entries_never_fall last entries ≡ true → list_all (is_entry_of_control k) entries ≡ true
    → list_all (λ b. not (stands_before b a)) entries ≡ true
none_before k last a [] is le rising own = refl
none_before k last a (b ∷ entries) is le rising own =
    let up = and_parts (nat_le last (entry_stamp b)) (entries_never_fall (entry_stamp b) entries) rising in
    let parts = and_parts (is_entry_of_control k b) (list_all (is_entry_of_control k) entries) own in
    let above : entry_stamp a ≤ entry_stamp b = omega (arith, le, leb-true last (entry_stamp b) up.0) in
    let same : a.head.control ≤ b.head.control = omega (arith, eqb-true a.head.control k is, eqb-true b.head.control k parts.0) in
    and_from (not (stands_before b a)) (list_all (λ b. not (stands_before b a)) entries)
    (stays (nat_lt (entry_stamp b) (entry_stamp a)) (nat_eq (entry_stamp b) (entry_stamp a)) (nat_lt b.head.control a.head.control) (le-ltb (entry_stamp b) (entry_stamp a) above) (le-ltb b.head.control a.head.control same))
    (none_before k (entry_stamp b) a entries is above up.1 parts.1)
  where
    stays : (lt eq less : Bool) → lt ≡ false → less ≡ false → not (lt || (eq && less)) ≡ true
    stays true eq less e f = absurd (true≢false e)
    stays false eq true e f = absurd (true≢false f)
    stays false true false e f = refl
    stays false false false e f = refl

in_place : (k last : ℕ) (entries : List WaitingEntry) → entries_never_fall last entries ≡ true → list_all (is_entry_of_control k) entries ≡ true → is_in_order stands_before entries ≡ true
in_place k last [] rising own = refl
in_place k last (e ∷ entries) rising own =
    let up = and_parts (nat_le last (entry_stamp e)) (entries_never_fall (entry_stamp e) entries) rising in
    let parts = and_parts (is_entry_of_control k e) (list_all (is_entry_of_control k) entries) own in
    and_from (list_all (λ b. not (stands_before b e)) entries) (is_in_order stands_before entries) (none_before k (entry_stamp e) e entries parts.0 (omega arith) up.1 parts.1) (in_place k (entry_stamp e) entries up.1 parts.1)

pub own_part : FormsShowOwnParts
own_part s cut k keeps low =
    let c = control_at s k in
    let at : 0 + k ≡ k = omega arith in
    let sound = λ (i : ℕ) (lt : i < length s.controls). All-get_or Sound s.controls i (new_control 0 0 0) lt keeps.sound in
    let mine = sound k low in
    filter_order stands_before before_order (is_entry_of_control k) (flat_map (due_of cut) s.controls)
    ∙ ap (in_order stands_before) (subst (λ n. filter (is_entry_of_control n) (flat_map (due_of cut) s.controls) ≡ due_of cut c) at (own_due cut k 0 s.controls keeps.controls_kept.numbered (λ i lt. (sound i lt).own) low))
    ∙ order_stays stands_before (due cut c.queue.waiting)
    (in_place c.queue.control 0 (due cut c.queue.waiting) (never_fall_filter (is_due cut) 0 c.queue.waiting mine.rises) (all_filter (is_entry_of_control c.queue.control) (is_due cut) c.queue.waiting mine.own))
