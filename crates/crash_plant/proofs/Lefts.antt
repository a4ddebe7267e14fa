-- What one crash leaves is an image.
use Rattle.std.proofs.Common.{◌≡◌, inl, inr, ℕ, zero, suc, ◌+◌, ◌-◌, ◌%◌, ◌<◌, ◌≤◌, List, [], ◌∷◌, ◌++◌, get_or, length, map, take, drop, refl, sym, ◌∙◌, ap, subst, arith, append_assoc, length-append, length-take}
use Rattle.std.proofs.lemmas.List.{drop-drop, drop-take, take-take, take-append-le, drop-append-le, take_rest, length-map, map_push}
use Rattle.std.proofs.lemmas.Slice.{drop-append-drop}
use Rattle.std.proofs.Math.Seq.{take-append-add, drop-append-add}
use Rattle.std.proofs.lemmas.Bool.{cases_lt}
use Rattle.crash_plant.specs.declared.entry.Done.{Done}
use Rattle.crash_plant.specs.declared.entry.Done.TheVariants.{Write, Sync}
use Rattle.crash_plant.specs.declared.entry.PastCall.{PastCall}
use Rattle.crash_plant.specs.Bytes.{patched, Torn}
use Rattle.crash_plant.specs.DiskRemains.{repeated, open_then, open_begin, open_after, open_writes, filled, all_filled, left_of}
use Rattle.crash_plant.specs.Pasts.{Note, note_of, Step, Through, Does, Chains, Fits, AllFit}
use Rattle.crash_plant.proofs.Patches.{patched_torn}

pub length-repeated : (choice : List ℕ) (n : ℕ) → length (repeated choice n) ≡ n
length-repeated choice zero = refl
length-repeated choice (suc n) = omega (arith, length-append (repeated choice n) (get_or choice (n % length choice) 0 ∷ []), length-repeated choice n)

-- One call more.
pub open_push : (open_before past : List Note) (n : Note) → open_after open_before (past ++ n ∷ []) ≡ open_then n n.done (open_after open_before past)
open_push open_before [] n = refl
open_push open_before (x ∷ past) n = open_push (open_then x x.done open_before) past n

pub filled_push : (choice : List ℕ) (writes : List Note) (n : Note) (bytes : List ℕ) → all_filled choice (writes ++ n ∷ []) bytes ≡ filled choice n.done (all_filled choice writes bytes)
filled_push choice [] n bytes = refl
filled_push choice (x ∷ writes) n bytes = filled_push choice writes n (filled choice x.done bytes)

-- The open writes are those after a place in the record.
open_next_by : (past next : List Note) (i from : ℕ) (n : Note) (done : Done) → n.done ≡ done → length past ≡ i → next ≡ past ++ n ∷ [] → from ≤ i → drop from past ≡ open_writes past → (open_begin n.done from (i + 1) ≤ i + 1) × (drop (open_begin n.done from (i + 1)) next ≡ open_writes next)
open_next_by past next i from n (Write place count) is size grows within so_far = rw is (
  omega (arith, within),
  ap (λ (l : List Note). drop from l) grows ∙ drop_front past (n ∷ []) from (omega (arith, within, size)) ∙ ap (λ (l : List Note). l ++ n ∷ []) so_far ∙ sym (ap (λ (l : List Note). open_writes l) grows ∙ open_push [] past n ∙ ap (λ (d : Done). open_then n d (open_writes past)) is),
)
  where
    drop_front : (xs ys : List Note) (k : ℕ) → k ≤ length xs → drop k (xs ++ ys) ≡ drop k xs ++ ys
    drop_front xs ys zero le = refl
    drop_front [] ys (suc k) le = absurd (omega (arith, le))
    drop_front (x ∷ xs) ys (suc k) le = drop_front xs ys k (omega (arith, le))
open_next_by past next i from n Sync is size grows within so_far = rw is (
  omega arith,
  drop_past next (i + 1) (omega (arith, ap length grows, length-append past (n ∷ []), size)) ∙ sym (ap (λ (l : List Note). open_writes l) grows ∙ open_push [] past n ∙ ap (λ (d : Done). open_then n d (open_writes past)) is),
)
  where
    drop_past : (xs : List Note) (k : ℕ) → length xs ≤ k → drop k xs ≡ []
    drop_past [] zero le = refl
    drop_past [] (suc k) le = refl
    drop_past (x ∷ xs) zero le = absurd (omega (arith, le))
    drop_past (x ∷ xs) (suc k) le = drop_past xs k (omega (arith, le))

pub open_next : (log : List PastCall) (i from : ℕ) (e : PastCall) → take (i + 1) log ≡ take i log ++ e ∷ [] → i < length log → from ≤ i → drop from (map note_of (take i log)) ≡ open_writes (map note_of (take i log))
    → (open_begin e.done from (i + 1) ≤ i + 1) × (drop (open_begin e.done from (i + 1)) (map note_of (take (i + 1) log)) ≡ open_writes (map note_of (take (i + 1) log)))
open_next log i from e grows less within so_far =
    open_next_by (map note_of (take i log)) (map note_of (take (i + 1) log)) i from (note_of e) e.done refl (omega (arith, length-map (take i log) note_of, length-take i log, less)) (ap (λ (l : List PastCall). map note_of l) grows ∙ map_push note_of (take i log) e) within so_far

-- A call that keeps within the length keeps the length.
pub length-filled : (choice : List ℕ) (done : Done) (bytes : List ℕ) → Fits (length bytes) done → length (filled choice done bytes) ≡ length bytes
length-filled choice (Write place count) bytes fits =
    let size = length-repeated choice count in
    let torn = patched_torn place (repeated choice count) bytes (patched place (repeated choice count) bytes) (omega (arith, fits, size)) refl in
    torn.size
length-filled choice Sync bytes fits = refl

pub length-all_filled : (choice : List ℕ) (writes : List Note) (bytes : List ℕ) → AllFit (length bytes) writes → length (all_filled choice writes bytes) ≡ length bytes
length-all_filled choice [] bytes fits = refl
length-all_filled choice (n ∷ writes) bytes fits =
    let same = length-filled choice n.done bytes fits.0 in
    length-all_filled choice writes (filled choice n.done bytes) (subst (λ (k : ℕ). AllFit k writes) (sym same) fits.1) ∙ same

-- What is written over a range that lies within keeps what is elsewhere alike.
module _ (q : ℕ) (xs x y : List ℕ) (p n : ℕ) (torn : Torn p n x y) (fits : q + length xs ≤ length x) where
  size_y : length y ≡ length x
  size_y = torn.size

  front_x : length (take q x) ≡ q
  front_x = omega (arith, length-take q x, fits)

  front_y : length (take q y) ≡ q
  front_y = omega (arith, length-take q y, fits, size_y)

  both_x : length (take q x ++ xs) ≡ q + length xs
  both_x = omega (arith, front_x, length-append (take q x) xs)

  both_y : length (take q y ++ xs) ≡ q + length xs
  both_y = omega (arith, front_y, length-append (take q y) xs)

  at_front : p ≤ q → take p (patched q xs y) ≡ take p (patched q xs x)
  at_front le = within y front_y ∙ torn.before ∙ sym (within x front_x)
    where
      within : (l : List ℕ) → length (take q l) ≡ q → take p (patched q xs l) ≡ take p l
      within l size = ap (λ (k : List ℕ). take p k) (append_assoc (take q l) xs (drop (q + length xs) l)) ∙ take-append-le p (take q l) (xs ++ drop (q + length xs) l) (omega (arith, le, size)) ∙ take-take p q l le

  same_front : q ≤ p → take q y ≡ take q x
  same_front le = sym (take-take q p y le) ∙ ap (λ (l : List ℕ). take q l) torn.before ∙ take-take q p x le

  in_middle : q ≤ p → p ≤ q + length xs → take p (patched q xs y) ≡ take p (patched q xs x)
  in_middle from to = within y both_y ∙ ap (λ (l : List ℕ). take p (l ++ xs)) (same_front from) ∙ sym (within x both_x)
    where
      within : (l : List ℕ) → length (take q l ++ xs) ≡ q + length xs → take p (patched q xs l) ≡ take p (take q l ++ xs)
      within l size = take-append-le p (take q l ++ xs) (drop (q + length xs) l) (omega (arith, to, size))

  after : q + length xs ≤ p → take p (patched q xs y) ≡ take p (patched q xs x)
  after le = parts y both_y ∙ ap (λ (l : List ℕ). (l ++ xs) ++ take (p - (q + length xs)) (drop (q + length xs) y)) (same_front (omega (arith, le))) ∙ ap (λ (l : List ℕ). (take q x ++ xs) ++ l) rest ∙ sym (parts x both_x)
    where
      parts : (l : List ℕ) → length (take q l ++ xs) ≡ q + length xs → take p (patched q xs l) ≡ (take q l ++ xs) ++ take (p - (q + length xs)) (drop (q + length xs) l)
      parts l size = ap (λ (j : ℕ). take j ((take q l ++ xs) ++ drop (q + length xs) l)) (omega (arith, size, le)) ∙ take-append-add (take q l ++ xs) (drop (q + length xs) l) (p - (q + length xs))

      whole : q + length xs + (p - (q + length xs)) ≡ p
      whole = omega (arith, le)

      rest : take (p - (q + length xs)) (drop (q + length xs) y) ≡ take (p - (q + length xs)) (drop (q + length xs) x)
      rest = sym (drop-take (q + length xs) (p - (q + length xs)) y) ∙ ap (λ (j : ℕ). drop (q + length xs) (take j y)) whole ∙ ap (λ (l : List ℕ). drop (q + length xs) l) torn.before ∙ sym (ap (λ (j : ℕ). drop (q + length xs) (take j x)) whole) ∙ drop-take (q + length xs) (p - (q + length xs)) x

  before_both : take p (patched q xs y) ≡ take p (patched q xs x)
  before_both = elim (cases_lt q p) [
    | inl later ↦ elim (cases_lt (q + length xs) p) [
      | inl past ↦ after (omega (arith, past))
      | inr within ↦ in_middle (omega (arith, later)) within
    ]
    | inr early ↦ at_front early
  ]

  -- after what is written
  after_all : q + length xs ≤ p + n → drop (p + n) (patched q xs y) ≡ drop (p + n) (patched q xs x)
  after_all le = past y both_y ∙ torn.after ∙ sym (past x both_x)
    where
      past : (l : List ℕ) → length (take q l ++ xs) ≡ q + length xs → drop (p + n) (patched q xs l) ≡ drop (p + n) l
      past l size = drop-append-drop (q + length xs) l (take q l ++ xs) (p + n) le size

  same_rest : p + n ≤ q + length xs → drop (q + length xs) y ≡ drop (q + length xs) x
  same_rest le = ap (λ (j : ℕ). drop j y) (sym whole) ∙ sym (drop-drop (q + length xs - (p + n)) (p + n) y) ∙ ap (λ (l : List ℕ). drop (q + length xs - (p + n)) l) torn.after ∙ drop-drop (q + length xs - (p + n)) (p + n) x ∙ ap (λ (j : ℕ). drop j x) whole
    where
      whole : p + n + (q + length xs - (p + n)) ≡ q + length xs
      whole = omega (arith, le)

  after_middle : q ≤ p + n → p + n ≤ q + length xs → drop (p + n) (patched q xs y) ≡ drop (p + n) (patched q xs x)
  after_middle from to = past y front_y ∙ ap (λ (l : List ℕ). drop (p + n - q) (xs ++ l)) (same_rest to) ∙ sym (past x front_x)
    where
      past : (l : List ℕ) → length (take q l) ≡ q → drop (p + n) (patched q xs l) ≡ drop (p + n - q) (xs ++ drop (q + length xs) l)
      past l size = ap (λ (j : List ℕ). drop (p + n) j) (append_assoc (take q l) xs (drop (q + length xs) l)) ∙ ap (λ (j : ℕ). drop j (take q l ++ (xs ++ drop (q + length xs) l))) (omega (arith, size, from)) ∙ drop-append-add (take q l) (xs ++ drop (q + length xs) l) (p + n - q)

  after_front : p + n ≤ q → drop (p + n) (patched q xs y) ≡ drop (p + n) (patched q xs x)
  after_front le = past y front_y ∙ ap (λ (l : List ℕ). take (q - (p + n)) l ++ (xs ++ drop (q + length xs) y)) torn.after ∙ ap (λ (l : List ℕ). take (q - (p + n)) (drop (p + n) x) ++ (xs ++ l)) (same_rest (omega (arith, le))) ∙ sym (past x front_x)
    where
      past : (l : List ℕ) → length (take q l) ≡ q → drop (p + n) (patched q xs l) ≡ take (q - (p + n)) (drop (p + n) l) ++ (xs ++ drop (q + length xs) l)
      past l size =
          ap (λ (j : List ℕ). drop (p + n) j) (append_assoc (take q l) xs (drop (q + length xs) l))
          ∙ drop-append-le (p + n) (take q l) (xs ++ drop (q + length xs) l) (omega (arith, size, le))
          ∙ ap (λ (j : List ℕ). j ++ (xs ++ drop (q + length xs) l)) (ap (λ (j : ℕ). drop (p + n) (take j l)) (omega (arith, le)) ∙ drop-take (p + n) (q - (p + n)) l)

  after_both : drop (p + n) (patched q xs y) ≡ drop (p + n) (patched q xs x)
  after_both = elim (cases_lt q (p + n)) [
    | inl later ↦ elim (cases_lt (q + length xs) (p + n)) [
      | inl past ↦ after_all (omega (arith, past))
      | inr within ↦ after_middle (omega (arith, later)) within
    ]
    | inr early ↦ after_front early
  ]

  pub torn_under : Torn p n (patched q xs x) (patched q xs y)
  torn_under = record {
    before = before_both;
    after = after_both;
    size = (patched_torn q xs y (patched q xs y) (omega (arith, fits, size_y)) refl).size ∙ size_y ∙ sym (patched_torn q xs x (patched q xs x) fits refl).size;
  }

-- Filling keeps what is elsewhere alike.
torn_filled : (choice : List ℕ) (done : Done) (p n : ℕ) (x y : List ℕ) → Fits (length x) done → Torn p n x y → Torn p n (filled choice done x) (filled choice done y)
torn_filled choice (Write place count) p n x y fits torn = torn_under place (repeated choice count) x y p n torn (omega (arith, fits, length-repeated choice count))
torn_filled choice Sync p n x y fits torn = torn

torn_all_filled : (choice : List ℕ) (writes : List Note) (p n : ℕ) (x y : List ℕ) → AllFit (length x) writes → Torn p n x y → Torn p n (all_filled choice writes x) (all_filled choice writes y)
torn_all_filled choice [] p n x y fits torn = torn
torn_all_filled choice (w ∷ writes) p n x y fits torn =
    torn_all_filled choice writes p n (filled choice w.done x) (filled choice w.done y) (subst (λ (k : ℕ). AllFit k writes) (sym (length-filled choice w.done x fits.0)) fits.1) (torn_filled choice w.done p n x y fits.0 torn)

fit_push : (size : ℕ) (writes : List Note) (n : Note) → AllFit size writes → Fits size n.done → AllFit size (writes ++ n ∷ [])
fit_push size [] n fits one = (one, tt)
fit_push size (w ∷ writes) n fits one = (fits.0, fit_push size writes n fits.1 one)

-- One call more, where the writes open before it are filled.
left_step : (choice : List ℕ) (n : Note) (done : Done) (b a : List ℕ) (writes : List Note) → n.done ≡ done → AllFit (length b) writes → Does done b a
    → Step done a (all_filled choice writes b) (all_filled choice (open_then n done writes) a) × AllFit (length a) (open_then n done writes)
left_step choice n (Write place count) b a writes is fits does =
    let torn : Torn place count b a = record { before = does.1; after = does.2; size = does.3 } in
    let under = torn_all_filled choice writes place count b a fits torn in
    let fit_a : AllFit (length a) writes = subst (λ (k : ℕ). AllFit k writes) (sym does.3) fits in
    let size = length-all_filled choice writes a fit_a in
    let bytes = repeated choice count in
    let long = length-repeated choice count in
    let fill = patched_torn place bytes (all_filled choice writes a) (patched place bytes (all_filled choice writes a)) (omega (arith, does.0, does.3, size, long)) refl in
    let fill_torn : Torn place count (all_filled choice writes a) (patched place bytes (all_filled choice writes a)) = subst (λ (k : ℕ). Torn place k (all_filled choice writes a) (patched place bytes (all_filled choice writes a))) long fill in
    let whole : all_filled choice (writes ++ n ∷ []) a ≡ patched place bytes (all_filled choice writes a) = filled_push choice writes n a ∙ ap (λ (d : Done). filled choice d (all_filled choice writes a)) is in (
      subst (λ (l : List ℕ). Torn place count (all_filled choice writes b) l) (sym whole) (record { before = fill_torn.before ∙ under.before; after = fill_torn.after ∙ under.after; size = fill_torn.size ∙ under.size }),
      fit_push (length a) writes n fit_a (subst (λ (d : Done). Fits (length a) d) (sym is) (omega (arith, does.0, does.3))),
    )
left_step choice n Sync b a writes is fits does = (refl, tt)

-- What is left has gone through all calls.
left_through : (choice : List ℕ) (past : List Note) (b now : List ℕ) (writes : List Note) → AllFit (length b) writes → Chains b past now → Through past (all_filled choice writes b) (all_filled choice (open_after writes past) now)
left_through choice [] b now writes fits is = ap (λ (l : List ℕ). all_filled choice writes l) is
left_through choice (n ∷ past) b now writes fits chains =
    let step = left_step choice n n.done b n.after writes refl fits chains.0 in
    (all_filled choice (open_then n n.done writes) n.after, step.0, left_through choice past n.after now (open_then n n.done writes) step.1 chains.1)

pub left_is_image : (choice : List ℕ) (past : List Note) (b now : List ℕ) → Chains b past now → Through past b (left_of choice past now)
left_is_image choice past b now chains = left_through choice past b now [] tt chains

-- The open writes keep within the length.
left_fit : (n : Note) (done : Done) (b a : List ℕ) (writes : List Note) → n.done ≡ done → AllFit (length b) writes → Does done b a → AllFit (length a) (open_then n done writes)
left_fit n done b a writes is fits does = (left_step [] n done b a writes is fits does).1

open_fit : (past : List Note) (b now : List ℕ) (writes : List Note) → AllFit (length b) writes → Chains b past now → AllFit (length now) (open_after writes past)
open_fit [] b now writes fits is = subst (λ (l : List ℕ). AllFit (length l) writes) (sym is) fits
open_fit (n ∷ past) b now writes fits chains = open_fit past n.after now (open_then n n.done writes) (left_fit n n.done b n.after writes refl fits chains.0) chains.1

pub open_writes_fit : (past : List Note) (b now : List ℕ) → Chains b past now → AllFit (length now) (open_writes past)
open_writes_fit past b now chains = open_fit past b now [] tt chains

-- each of the writes
pub fit_at : (size : ℕ) (log : List PastCall) (i : ℕ) (d : PastCall) → i < length log → AllFit size (map note_of log) → Fits size (get_or log i d).done
fit_at size [] i d less fits = absurd (omega (arith, less))
fit_at size (e ∷ log) zero d less fits = fits.0
fit_at size (e ∷ log) (suc i) d less fits = fit_at size log i d (omega (arith, less)) fits.1

pub fit_take : (size : ℕ) (log : List PastCall) (i : ℕ) → AllFit size (map note_of log) → AllFit size (map note_of (take i log))
fit_take size log zero fits = tt
fit_take size [] (suc i) fits = tt
fit_take size (e ∷ log) (suc i) fits = (fits.0, fit_take size log i fits.1)

-- the calls of the record from a place on
pub notes_after : (log seen again : List PastCall) (from : ℕ) → seen ≡ log → again ≡ log → drop from (map note_of again) ≡ open_writes (map note_of again) → map note_of (take (length seen - from) (drop from seen)) ≡ open_writes (map note_of log)
notes_after log seen again from is same open_ones =
    ap (λ (l : List PastCall). map note_of l) (take_rest seen from) ∙ notes_drop seen from ∙ ap (λ (l : List PastCall). drop from (map note_of l)) (is ∙ sym same) ∙ open_ones ∙ ap (λ (l : List PastCall). open_writes (map note_of l)) same
  where
    notes_drop : (l : List PastCall) (k : ℕ) → map note_of (drop k l) ≡ drop k (map note_of l)
    notes_drop l zero = refl
    notes_drop [] (suc k) = refl
    notes_drop (e ∷ l) (suc k) = notes_drop l k
