-- The entries of a group by their places, and those of one track.
use Rattle.std.proofs.Common.{◌≡◌, ◌==◌, ◌&&◌, ◌||◌, ℕ, zero, suc, Bool, true, false, cond, List, [], ◌∷◌, map, Option, Some, None, refl, sym, ◌∙◌, ap, subst}
use Rattle.std.specs.Prelude.{slice_get, find, not, IfSome, IsSomeAnd, bytes_eq}
use Rattle.std.specs.List.{list_any}
use Rattle.std.proofs.lemmas.Bool.{and_parts, and_from, or_parts, eqb-true, eq-eqb, both_ways, not-true}
use Rattle.std.proofs.lemmas.Option.{same_Some}
use Rattle.ckd_track.specs.Entries.{IsQueueForm}
use Rattle.pair_table.specs.declared.row.PairRow.{PairRow}
use Rattle.pair_table.specs.Tables.{clashes, none_clash}
use Rattle.pending_queue.specs.declared.head.EntryHead.{EntryHead}
use Rattle.pending_queue.specs.Entries.{WaitingEntry, IsOfWrite, write_of}
use Rattle.image_former.specs.Entries.{is_row_of, entry_row, row_device, is_device, is_entry_on}
use Rattle.image_former.specs.Steps.{is_beside}

-- ---- places

abbrev pub head_in : WaitingEntry → EntryHead
head_in entry = entry.head

-- the entry with a head that is shown
pub record EntryThere (entries : List WaitingEntry) (i : ℕ) (h : EntryHead) : Type 0 where
  pub entry : WaitingEntry
  pub there : slice_get entries i ≡ Some entry
  pub head : entry.head ≡ h

pub entry_there : (entries : List WaitingEntry) (i : ℕ) (h : EntryHead) → slice_get (map head_in entries) i ≡ Some h → EntryThere entries i h
entry_there [] i h is = absurd cc
entry_there (e ∷ entries) zero h is = record { entry = e; there = refl; head = same_Some e.head h is }
entry_there (e ∷ entries) (suc i) h is = let t = entry_there entries i h is in record { entry = t.entry; there = t.there; head = t.head }

pub form_there : (entries : List WaitingEntry) (i : ℕ) (e : WaitingEntry) (form : List ℕ) → slice_get entries i ≡ Some e → slice_get (map (λ (x : WaitingEntry). x.form) entries) i ≡ Some form → e.form ≡ form
form_there [] i e form is shown = absurd cc
form_there (x ∷ entries) zero e form is shown = ap (λ (y : WaitingEntry). y.form) (sym (same_Some x e is)) ∙ same_Some x.form form shown
form_there (x ∷ entries) (suc i) e form is shown = form_there entries i e form is shown

-- its form is that of a write
pub is_form : (found : Option WaitingEntry) (e : WaitingEntry) (form : List ℕ) → found ≡ Some e → IfSome found IsOfWrite → e.form ≡ form → IsQueueForm form
is_form found e form is of_write shown =
    let w : IsOfWrite e = subst (λ (o : Option WaitingEntry). IfSome o IsOfWrite) is of_write in
    record { write = write_of e.head e.kind; keeps = w.keeps; spelled = sym shown ∙ w.spelled }

-- ---- entries of one track

-- what two heads of one track share
pub record Beside (h : EntryHead) (e : WaitingEntry) : Type 0 where
  pub control : h.control ≡ e.head.control
  pub volume : h.volume ≡ e.head.volume
  pub track : h.track ≡ e.head.track

three_parts : (a b c : Bool) → (a && b && c) ≡ true → (a ≡ true) × (b ≡ true) × (c ≡ true)
three_parts true true c e = (refl, refl, e)
three_parts true false c e = absurd cc
three_parts false b c e = absurd cc

pub beside_parts : (h : EntryHead) (e : WaitingEntry) → is_beside h e ≡ true → Beside h e
beside_parts h e is =
    let parts = three_parts (h.control == e.head.control) (h.volume == e.head.volume) (h.track == e.head.track) is in
    record { control = eqb-true h.control e.head.control parts.0; volume = eqb-true h.volume e.head.volume parts.1; track = eqb-true h.track e.head.track parts.2 }

pub found_passes : {A : Type 0} (test : A → Bool) (xs : List A) (x : A) → find test xs ≡ Some x → test x ≡ true
found_passes test [] x is = absurd cc
found_passes test (y ∷ xs) x is = by_first (found_passes test xs x) (test y) refl
  where
    by_first : (find test xs ≡ Some x → test x ≡ true) → (b : Bool) → test y ≡ b → test x ≡ true
    by_first more true passes = ap test (sym (same_Some y x ((λ j. cond (sym passes j) (Some y) (find test xs)) ∙ is))) ∙ passes
    by_first more false fails = more ((λ j. cond (sym fails j) (Some y) (find test xs)) ∙ is)

pub found_fails : {A : Type 0} (test other : A → Bool) (xs : List A) (x : A) → find test xs ≡ Some x → list_any other xs ≡ false → other x ≡ false
found_fails test other [] x is none = absurd cc
found_fails test other (y ∷ xs) x is none = by_first (λ found. found_fails test other xs x found (or_parts (other y) (list_any other xs) none).1) (test y) refl
  where
    by_first : (find test xs ≡ Some x → other x ≡ false) → (b : Bool) → test y ≡ b → other x ≡ false
    by_first more true passes = ap other (sym (same_Some y x ((λ j. cond (sym passes j) (Some y) (find test xs)) ∙ is))) ∙ (or_parts (other y) (list_any other xs) none).0
    by_first more false fails = more ((λ j. cond (sym fails j) (Some y) (find test xs)) ∙ is)

mid_true : (a b c : Bool) → b ≡ true → (a || b || c) ≡ true
mid_true true b c e = refl
mid_true false b c e = λ i. e i || c

-- no other row has the device of the first
clash_here : (q s : PairRow) → clashes q s ≡ false → q.device ≡ s.device → ⊥
clash_here q s apart same = both_ways (clashes q s) apart (mid_true (bytes_eq q.primary s.primary) (q.device == s.device) (q.control == s.control && q.volume == s.volume) (eq-eqb q.device s.device same))

-- Rows of one device are one row.
pub one_row : (one two : PairRow → Bool) (rows : List PairRow) (r s : PairRow) → none_clash rows ≡ true → find one rows ≡ Some r → find two rows ≡ Some s → r.device ≡ s.device → r ≡ s
one_row one two [] r s apart first second same = absurd cc
one_row one two (q ∷ rows) r s apart first second same = by_first (λ a b. one_row one two rows r s (and_parts (not (list_any (clashes q) rows)) (none_clash rows) apart).1 a b same) (one q) (two q) refl refl
  where
    parts : (not (list_any (clashes q) rows) ≡ true) × (none_clash rows ≡ true)
    parts = and_parts (not (list_any (clashes q) rows)) (none_clash rows) apart

    alone : list_any (clashes q) rows ≡ false
    alone = not-true (list_any (clashes q) rows) parts.0

    there : (test : PairRow → Bool) (t : PairRow) → test q ≡ true → find test (q ∷ rows) ≡ Some t → q ≡ t
    there test t passes is = same_Some q t ((λ j. cond (sym passes j) (Some q) (find test rows)) ∙ is)

    after : (test : PairRow → Bool) (t : PairRow) → test q ≡ false → find test (q ∷ rows) ≡ Some t → find test rows ≡ Some t
    after test t fails is = (λ j. cond (sym fails j) (Some q) (find test rows)) ∙ is

    by_first : (find one rows ≡ Some r → find two rows ≡ Some s → r ≡ s) → (a b : Bool) → one q ≡ a → two q ≡ b → r ≡ s
    by_first more true true a b = sym (there one r a first) ∙ there two s b second
    by_first more true false a b =
        let is = there one r a first in
        absurd (clash_here q s (found_fails two (clashes q) rows s (after two s b second) alone) (ap (λ (t : PairRow). t.device) is ∙ same))
    by_first more false true a b =
        let is = there two s b second in
        absurd (clash_here q r (found_fails one (clashes q) rows r (after one r a first) alone) (ap (λ (t : PairRow). t.device) is ∙ sym same))
    by_first more false false a b = more (after one r a first) (after two s b second)

-- the row of an entry that has one
pub row_and : (o : Option PairRow) (P : ℕ → Type 0) → IsSomeAnd (row_device o) P → (row : PairRow) × (o ≡ Some row) × P row.device
row_and (Some row) P is = (row, refl, is)
row_and None P is = absurd is

pub both_agree : (a b : Bool) → (a ≡ true → b ≡ true) → (b ≡ true → a ≡ true) → a ≡ b
both_agree true b one two = sym (one refl)
both_agree false true one two = two refl
both_agree false false one two = refl

row_by : (rows : List PairRow) (h g : EntryHead) → h.control ≡ g.control → h.volume ≡ g.volume → find (is_row_of h) rows ≡ find (is_row_of g) rows
row_by rows h g control volume = λ i. find (λ (row : PairRow). row.control == control i && row.volume == volume i) rows

-- With rows that don't clash, the entries on the track of a head are those that name its controller, volume and track.
pub on_is_beside : (rows : List PairRow) (h : EntryHead) (r : PairRow) (e : WaitingEntry) (s : PairRow) → none_clash rows ≡ true → find (is_row_of h) rows ≡ Some r → entry_row rows e ≡ Some s
    → is_entry_on rows r.device h.track e ≡ is_beside h e
on_is_beside rows h r e s apart has other = ap (λ (o : Option PairRow). is_device r.device (row_device o) && e.head.track == h.track) other ∙ both_agree (s.device == r.device && e.head.track == h.track) (is_beside h e) forth back
  where
    forth : (s.device == r.device && e.head.track == h.track) ≡ true → is_beside h e ≡ true
    forth on =
        let parts = and_parts (s.device == r.device) (e.head.track == h.track) on in
        let same : r ≡ s = one_row (is_row_of h) (is_row_of e.head) rows r s apart has other (sym (eqb-true s.device r.device parts.0)) in
        let mine = and_parts (r.control == h.control) (r.volume == h.volume) (found_passes (is_row_of h) rows r has) in
        let its = and_parts (s.control == e.head.control) (s.volume == e.head.volume) (found_passes (is_row_of e.head) rows s other) in
        let control : h.control ≡ e.head.control = sym (eqb-true r.control h.control mine.0) ∙ ap (λ (t : PairRow). t.control) same ∙ eqb-true s.control e.head.control its.0 in
        let volume : h.volume ≡ e.head.volume = sym (eqb-true r.volume h.volume mine.1) ∙ ap (λ (t : PairRow). t.volume) same ∙ eqb-true s.volume e.head.volume its.1 in
        beside control volume (sym (eqb-true e.head.track h.track parts.1))
      where
        beside : h.control ≡ e.head.control → h.volume ≡ e.head.volume → h.track ≡ e.head.track → is_beside h e ≡ true
        beside control volume track = λ i. eq-eqb h.control e.head.control control i && eq-eqb h.volume e.head.volume volume i && eq-eqb h.track e.head.track track i

    back : is_beside h e ≡ true → (s.device == r.device && e.head.track == h.track) ≡ true
    back is =
        let same = beside_parts h e is in
        let found : s ≡ r = same_Some s r (sym other ∙ row_by rows e.head h (sym same.control) (sym same.volume) ∙ has) in
        and_from (s.device == r.device) (e.head.track == h.track) (eq-eqb s.device r.device (ap (λ (t : PairRow). t.device) found)) (eq-eqb e.head.track h.track (sym same.track))

-- the entry at a place, by its head
pub form_at : (entries : List WaitingEntry) (i : ℕ) (h : EntryHead) → slice_get (map head_in entries) i ≡ Some h → (e : WaitingEntry) × (slice_get entries i ≡ Some (record e { head = h }))
form_at entries i h shown =
    let t = entry_there entries i h shown in
    (t.entry, t.there ∙ (λ j. Some (record t.entry { head = t.head j })))
