-- Entries that stand in a group: what is read at a place, putting one at its place, and forms that stay where more bytes come.
use Rattle.std.proofs.Common.{◌≡◌, ℕ, ◌≤◌, ◌<◌, ◌+◌, ◌*◌, ◌-◌, Bool, true, false, not, cond, ◌&&◌, List, [], ◌∷◌, ◌++◌, length, get_or, take, drop, Some, refl, sym, ap, ◌∙◌, subst, arith, length-append, append_assoc}
use Rattle.std.specs.Prelude.{slice_get, IfSome}
use Rattle.std.specs.List.{All}
use Rattle.std.specs.Option.{option_map}
use Rattle.std.proofs.lemmas.Bool.{not-true}
use Rattle.std.proofs.lemmas.List.{length-take-le, length-drop, take-append-le, take-append-drop, drop-take, map-append, get_or_default}
use Rattle.std.proofs.Math.Seq.{drop-append_seam, take-append_seam}
use Rattle.std.proofs.lemmas.Slice.{drop-append-drop}
use Rattle.std.proofs.lemmas.List.Elements.{All-head, All-tail, All-cons, All-push}
use Rattle.std.proofs.lemmas.List.Folds.{list_all-map}
use Rattle.std.proofs.lemmas.Option.{slice_get-get_or, slice_get-map}
use Rattle.ckd_track.specs.declared.layout.TheConstants.{WRITES_OF_RUN}
use Rattle.ckd_track.specs.Entries.{longest_entry}
use Rattle.ckd_track.specs.Slots.{with_bytes}
use Rattle.pending_queue.specs.declared.placed.Placed.{Placed}
use Rattle.pending_queue.specs.Entries.{WaitingEntry, IsOfWrite, entry_by, stands_before}
use Rattle.pending_queue.specs.PlacedEntries.{placed_entry, placed_entries, placed_before, AreFormsSound}
use Rattle.xrc_edge.specs.Order.{put_in_order, in_order, is_in_order}
use Rattle.xrc_edge.proofs.OrderLaws.{IsOrder, parted}
use Rattle.xrc_edge.proofs.Merges.{length_order}
use Rattle.pending_queue.proofs.EntryLaws.{before_order}

-- ---- at a place

pub entry_at : (bytes : List ℕ) (items : List Placed) (i : ℕ) (p : Placed) → i < length items → p ≡ get_or items i p → slice_get (placed_entries bytes items) i ≡ Some (placed_entry bytes p)
entry_at bytes items i p lt is = slice_get-map (placed_entry bytes) items i ∙ ap (option_map (placed_entry bytes)) (slice_get-get_or items i p lt ∙ ap Some (sym is))

pub written_at : (entries : List WaitingEntry) (i : ℕ) (d : WaitingEntry) → All IsOfWrite entries → i < length entries → IfSome (slice_get entries i) IsOfWrite
written_at entries i d written lt = subst (λ o. IfSome o IsOfWrite) (sym (slice_get-get_or entries i d lt)) (written i d lt)

-- ---- the order

pub placed_order : IsOrder placed_before
placed_order = record {
  one_way = λ a b e. before_order.one_way (placed_entry [] a) (placed_entry [] b) e;
  through = λ a b c bc ab. before_order.through (placed_entry [] a) (placed_entry [] b) (placed_entry [] c) bc ab;
}

-- Where the last entry doesn't stand after a head, none does.
pub none_after : (items : List Placed) (p last : Placed) (k : ℕ) (d : Placed) → is_in_order placed_before items ≡ true → last ≡ get_or items (length items - 1) last → placed_before p last ≡ false → k < length items
    → placed_before p (get_or items k d) ≡ false
none_after items p last k d ordered is before lt =
    let at_last : get_or items (length items - 1) d ≡ last = get_or_default items (length items - 1) d last (omega arith) ∙ sym is in
    not-true _ (parted placed_before placed_order p items ordered k (length items - 1) d (omega arith) (omega arith) (ap (λ q. not (placed_before p q)) at_last ∙ ap not before))

put_map : (bytes : List ℕ) (p : Placed) (items : List Placed) → placed_entries bytes (put_in_order placed_before p items) ≡ put_in_order stands_before (placed_entry bytes p) (placed_entries bytes items)
put_map bytes p [] = refl
put_map bytes p (q ∷ items) = choose (placed_before q p) (put_map bytes p items)
  where
    choose : (t : Bool) → placed_entries bytes (put_in_order placed_before p items) ≡ put_in_order stands_before (placed_entry bytes p) (placed_entries bytes items)
        → placed_entries bytes (cond t (q ∷ put_in_order placed_before p items) (p ∷ q ∷ items))
        ≡ cond t (placed_entry bytes q ∷ put_in_order stands_before (placed_entry bytes p) (placed_entries bytes items)) (placed_entry bytes p ∷ placed_entry bytes q ∷ placed_entries bytes items)
    choose true e = ap (λ (es : List WaitingEntry). placed_entry bytes q ∷ es) e
    choose false e = refl

pub order_map : (bytes : List ℕ) (items : List Placed) → placed_entries bytes (in_order placed_before items) ≡ in_order stands_before (placed_entries bytes items)
order_map bytes [] = refl
order_map bytes (p ∷ items) = put_map bytes p (in_order placed_before items) ∙ ap (put_in_order stands_before (placed_entry bytes p)) (order_map bytes items)

pub ordered_map : (bytes : List ℕ) (items : List Placed) → is_in_order stands_before (placed_entries bytes items) ≡ is_in_order placed_before items
ordered_map bytes [] = refl
ordered_map bytes (p ∷ items) = λ i. list_all-map (λ (b : WaitingEntry). not (stands_before b (placed_entry bytes p))) (placed_entry bytes) items i && ordered_map bytes items i

put_all : {A : Type 0} (P : A → Type 0) (below : A → A → Bool) (a : A) (items : List A) → P a → All P items → All P (put_in_order below a items)
put_all P below a [] here all = All-cons P a [] here all
put_all P below a (b ∷ items) here all = choose (below b a) (put_all P below a items here (All-tail P b items all))
  where
    choose : (t : Bool) → All P (put_in_order below a items) → All P (cond t (b ∷ put_in_order below a items) (a ∷ b ∷ items))
    choose true rest = All-cons P b (put_in_order below a items) (All-head P b items all) rest
    choose false rest = All-cons P a (b ∷ items) here all

order_all : {A : Type 0} (P : A → Type 0) (below : A → A → Bool) (items : List A) → All P items → All P (in_order below items)
order_all P below [] all = all
order_all P below (a ∷ items) all = put_all P below a (in_order below items) (All-head P a items all) (order_all P below items (All-tail P a items all))

-- ---- forms

kept_part : (used begin len : ℕ) (bytes after : List ℕ) → begin + len ≤ used → used ≤ length bytes → take len (drop begin (take used bytes ++ after)) ≡ take len (drop begin bytes)
kept_part used begin len bytes after within inside =
    let front = take used bytes in
    let size = length-take-le used bytes inside in
    sym (drop-take begin len (front ++ after))
    ∙ ap (drop begin) (take-append-le (begin + len) front after (omega (arith, size)) ∙ sym (take-append-le (begin + len) front (drop used bytes) (omega (arith, size))) ∙ ap (take (begin + len)) (take-append-drop used bytes))
    ∙ drop-take begin len bytes

new_part : (used : ℕ) (bytes form after : List ℕ) → used ≤ length bytes → take (length form) (drop used (take used bytes ++ (form ++ after))) ≡ form
new_part used bytes form after inside =
    ap (λ n. take (length form) (drop n (take used bytes ++ (form ++ after)))) (sym (length-take-le used bytes inside))
    ∙ ap (take (length form)) (drop-append_seam (take used bytes) (form ++ after)) ∙ take-append_seam form after

abbrev IsInside : (used : ℕ) → Placed → Type 0
IsInside used p = p.begin + p.len ≤ used

same_forms : (used : ℕ) (bytes form : List ℕ) (items : List Placed) → used ≤ length bytes → All (IsInside used) items → placed_entries (with_bytes used form bytes) items ≡ placed_entries bytes items
same_forms used bytes form [] within inside = refl
same_forms used bytes form (p ∷ items) within inside =
    let first = kept_part used p.begin p.len bytes (form ++ drop (used + length form) bytes) (All-head (IsInside used) p items inside) within in
    let others = same_forms used bytes form items within (All-tail (IsInside used) p items inside) in
    λ i. entry_by p.head p.effect (first i) ∷ others i

pub same_size : (used : ℕ) (bytes form : List ℕ) → used + length form ≤ length bytes → length (with_bytes used form bytes) ≡ length bytes
same_size used bytes form within =
    let after = drop (used + length form) bytes in
    omega (arith, length-append (take used bytes) (form ++ after), length-append form after, length-take-le used bytes (omega arith), length-drop (used + length form) bytes)

-- ---- one more entry

-- A new entry, whose form goes after the bytes that are used.
pub record IsNew (controls used : ℕ) (items : List Placed) (p : Placed) (form : List ℕ) : Type 0 where
  pub fits : length items < WRITES_OF_RUN * controls
  pub short : length form ≤ longest_entry
  pub begin : p.begin ≡ used
  pub len : p.len ≡ length form
  pub written : IsOfWrite (entry_by p.head p.effect form)

pub record IsPut (controls capacity used : ℕ) (before after : List ℕ) (items now : List Placed) (entry : WaitingEntry) : Type 0 where
  pub keeps : AreFormsSound controls capacity after used now
  pub entries : placed_entries after now ≡ in_order stands_before (placed_entries before items ++ entry ∷ [])

pub put : (controls old capacity used : ℕ) (before after : List ℕ) (items now : List Placed) (p : Placed) (form : List ℕ) → AreFormsSound controls old before used items → IsNew controls used items p form → after ≡ with_bytes used form before
    → now ≡ in_order placed_before (items ++ p ∷ []) → old ≤ capacity → IsPut controls capacity (used + p.len) before after items now (entry_by p.head p.effect form)
put controls old capacity used before after items now p form keeps new bytes is room =
    let entry = entry_by p.head p.effect form in
    let within : used + length form ≤ length before = omega (arith, keeps.filled, keeps.sized, new.fits, new.short) in
    let same = ap (λ b. placed_entries b items) bytes ∙ same_forms used before form items (omega arith) keeps.inside in
    let here : placed_entry after p ≡ entry =
    (λ i. entry_by p.head p.effect (take (new.len i) (drop (new.begin i) (bytes i)))) ∙ ap (entry_by p.head p.effect) (new_part used before form (drop (used + length form) before) (omega arith)) in
    let all : placed_entries after (items ++ p ∷ []) ≡ placed_entries before items ++ entry ∷ [] =
    map-append (placed_entry after) items (p ∷ []) ∙ (λ i. same i ++ here i ∷ []) in
    let entries = ap (placed_entries after) is ∙ order_map after (items ++ p ∷ []) ∙ ap (in_order stands_before) all in
    let count : length now ≡ length items + 1 = ap length is ∙ length_order placed_before (items ++ p ∷ []) ∙ length-append items (p ∷ []) in
    record {
      keeps = record {
        few = keeps.few;
        room = omega (arith, keeps.room, room);
        sized = ap length bytes ∙ same_size used before form within ∙ keeps.sized;
        within = omega (arith, count, new.fits);
        filled = omega (arith, count, keeps.filled, new.short, new.len);
        inside = subst (All (IsInside (used + p.len))) (sym is) (order_all (IsInside (used + p.len)) placed_before (items ++ p ∷ [])
            (All-push (IsInside (used + p.len)) items p (λ k d lt. omega (arith, keeps.inside k d lt)) (omega (arith, new.begin, new.len))));
        written = subst (All IsOfWrite) (sym entries) (order_all IsOfWrite stands_before (placed_entries before items ++ entry ∷ []) (All-push IsOfWrite (placed_entries before items) entry keeps.written new.written));
      };
      entries = entries;
    }

-- A buffer that is written back whole.
pub whole_again : (n : ℕ) (now after : List ℕ) → length now ≡ n → take n (now ++ after) ≡ now
whole_again n now after size = ap (λ k. take k (now ++ after)) (sym size) ∙ take-append_seam now after

pub first_one : (entries : List WaitingEntry) (d : WaitingEntry) → 0 < length entries → take 1 entries ≡ get_or entries 0 d ∷ []
first_one [] d some = absurd (omega arith)
first_one (e ∷ entries) d some = refl

-- ---- a form in a buffer

pub form_in : (len : ℕ) (form out after : List ℕ) → out ≡ form ++ after → len ≡ length form → take len out ≡ form
form_in len form out after is size = (λ i. take (size i) (is i)) ∙ take-append_seam form after

-- the front of a form and an image after it
pub two_parts : (front image out mid now : List ℕ) → length front ≡ 15 → mid ≡ with_bytes 0 front out → now ≡ with_bytes 15 image mid → now ≡ (front ++ image) ++ drop (length (front ++ image)) out
two_parts front image out mid now size mid_is now_is =
    let n = 15 + length image in
    let begin : 0 + length front ≡ 15 = omega (arith, size) in
    let mid_front : mid ≡ front ++ drop 15 out = mid_is ∙ ap (λ k. front ++ drop k out) begin in
    let first : take 15 mid ≡ front = ap (take 15) mid_front ∙ whole_again 15 front (drop 15 out) size in
    let rest : drop n mid ≡ drop n out = ap (drop n) mid_front ∙ drop-append-drop 15 out front n (omega arith) size in
    let long : n ≡ length (front ++ image) = omega (arith, length-append front image, size) in
    now_is ∙ (λ i. first i ++ (image ++ rest i)) ∙ sym (append_assoc front image (drop n out)) ∙ ap (λ k. (front ++ image) ++ drop k out) long
