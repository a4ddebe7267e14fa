-- Reads and writes of an item at an index.
use Rattle.std.proofs.Common.{◌≡◌, ◌≢◌, ◌<◌, ◌≤◌, ℕ, zero, suc, List, [], ◌∷◌, ◌++◌, length, slice_set, slice_index_or, map, ◌+◌, inl, inr, refl, ap, sym, ◌∙◌, subst, arith, length-append, append_assoc}
use Rattle.std.proofs.lemmas.Bool.{cases_lt}
use Rattle.crash_plant.specs.declared.device.Device.{Device}
use Rattle.crash_plant.specs.declared.device.Device.TheVariants.{Control, State, Journal, Volume}
use Rattle.crash_plant.specs.Devices.{seen_at, seen_of}

-- What is seen at the index of an item.
pub seen_is : {A B : Type 0} (f : A → B) (none : B) (xs : List A) (i : ℕ) (x : A) → x ≡ slice_index_or xs i x → i < length xs → seen_at f none xs i ≡ f x
seen_is f none [] i x is less = absurd (omega arith)
seen_is f none (y ∷ ys) zero x is less = ap f (sym is)
seen_is f none (y ∷ ys) (suc i) x is less = seen_is f none ys i x is (omega arith)

-- What is seen of an item that was put there.
pub seen_set : {A B : Type 0} (f : A → B) (none : B) (xs : List A) (i : ℕ) (x : A) → i < length xs → seen_at f none (slice_set xs i x) i ≡ f x
seen_set f none [] i x less = absurd (omega arith)
seen_set f none (y ∷ ys) zero x less = refl
seen_set f none (y ∷ ys) (suc i) x less = seen_set f none ys i x (omega arith)

-- What is seen of another one than the item that was put there.
pub seen_set_other : {A B : Type 0} (f : A → B) (none : B) (xs : List A) (i j : ℕ) (x : A) → j ≢ i → seen_at f none (slice_set xs i x) j ≡ seen_at f none xs j
seen_set_other f none [] i j x other = refl
seen_set_other f none (y ∷ ys) zero zero x other = absurd (other refl)
seen_set_other f none (y ∷ ys) zero (suc j) x other = refl
seen_set_other f none (y ∷ ys) (suc i) zero x other = refl
seen_set_other f none (y ∷ ys) (suc i) (suc j) x other = seen_set_other f none ys i j x (λ same. other (ap suc same))

-- a write of what is seen as before
pub seen_set_same : {A B : Type 0} (f : A → B) (none : B) (xs : List A) (i j : ℕ) (x : A) → (i < length xs → f x ≡ seen_at f none xs i) → seen_at f none (slice_set xs i x) j ≡ seen_at f none xs j
seen_set_same f none [] i j x same = refl
seen_set_same f none (y ∷ ys) zero zero x same = same (omega arith)
seen_set_same f none (y ∷ ys) zero (suc j) x same = refl
seen_set_same f none (y ∷ ys) (suc i) zero x same = refl
seen_set_same f none (y ∷ ys) (suc i) (suc j) x same = seen_set_same f none ys i j x (λ less. same (omega (arith, less)))

-- What is seen before the item that was put at the end.
pub seen_push_before : {A B : Type 0} (f : A → B) (none : B) (xs : List A) (x : A) (i : ℕ) → i < length xs → seen_at f none (xs ++ x ∷ []) i ≡ seen_at f none xs i
seen_push_before f none [] x i less = absurd (omega (arith, less))
seen_push_before f none (y ∷ ys) x zero less = refl
seen_push_before f none (y ∷ ys) x (suc i) less = seen_push_before f none ys x i (omega (arith, less))

-- What is seen of the item that was put at the end.
pub seen_push_last : {A B : Type 0} (f : A → B) (none : B) (xs : List A) (x : A) → seen_at f none (xs ++ x ∷ []) (length xs) ≡ f x
seen_push_last f none [] x = refl
seen_push_last f none (y ∷ ys) x = seen_push_last f none ys x

-- A change of one journal is seen of no other device.
pub seen_of_journal : {D P B : Type 0} (see : D → B) (see_place : P → B) (none : B) (control state : D) (journals : List D) (volumes : List P) (j : ℕ) (disk : D) (d : Device) → d ≢ Journal j
    → seen_of see see_place none control state (slice_set journals j disk) volumes d ≡ seen_of see see_place none control state journals volumes d
seen_of_journal see see_place none control state journals volumes j disk Control other = refl
seen_of_journal see see_place none control state journals volumes j disk State other = refl
seen_of_journal see see_place none control state journals volumes j disk (Journal i) other = seen_set_other see none journals j i disk (λ same. other (ap Journal same))
seen_of_journal see see_place none control state journals volumes j disk (Volume v) other = refl

-- A change of one volume's place is seen of no other device.
pub seen_of_volume : {D P B : Type 0} (see : D → B) (see_place : P → B) (none : B) (control state : D) (journals : List D) (volumes : List P) (v : ℕ) (place : P) (d : Device) → d ≢ Volume v
    → seen_of see see_place none control state journals (slice_set volumes v place) d ≡ seen_of see see_place none control state journals volumes d
seen_of_volume see see_place none control state journals volumes v place Control other = refl
seen_of_volume see see_place none control state journals volumes v place State other = refl
seen_of_volume see see_place none control state journals volumes v place (Journal j) other = refl
seen_of_volume see see_place none control state journals volumes v place (Volume w) other = seen_set_other see_place none volumes v w place (λ same. other (ap Volume same))

-- A journal that is seen as before is so seen among all devices.
pub seen_of_journal_same : {D P B : Type 0} (see : D → B) (see_place : P → B) (none : B) (control state : D) (journals : List D) (volumes : List P) (j : ℕ) (disk : D) (d : Device) → (j < length journals → see disk ≡ seen_at see none journals j)
    → seen_of see see_place none control state (slice_set journals j disk) volumes d ≡ seen_of see see_place none control state journals volumes d
seen_of_journal_same see see_place none control state journals volumes j disk Control same = refl
seen_of_journal_same see see_place none control state journals volumes j disk State same = refl
seen_of_journal_same see see_place none control state journals volumes j disk (Journal i) same = seen_set_same see none journals j i disk same
seen_of_journal_same see see_place none control state journals volumes j disk (Volume v) same = refl

-- A place that is seen as before is so seen among all devices.
pub seen_of_volume_same : {D P B : Type 0} (see : D → B) (see_place : P → B) (none : B) (control state : D) (journals : List D) (volumes : List P) (v : ℕ) (place : P) (d : Device) → (v < length volumes → see_place place ≡ seen_at see_place none volumes v)
    → seen_of see see_place none control state journals (slice_set volumes v place) d ≡ seen_of see see_place none control state journals volumes d
seen_of_volume_same see see_place none control state journals volumes v place Control same = refl
seen_of_volume_same see see_place none control state journals volumes v place State same = refl
seen_of_volume_same see see_place none control state journals volumes v place (Journal j) same = refl
seen_of_volume_same see see_place none control state journals volumes v place (Volume w) same = seen_set_same see_place none volumes v w place same

-- A count that rose, or stayed, at one index.
pub seen_set_later : {A : Type 0} (count : A → ℕ) (xs : List A) (i j : ℕ) (x : A) → (i < length xs → seen_at count 0 xs i ≤ count x) → seen_at count 0 xs j ≤ seen_at count 0 (slice_set xs i x) j
seen_set_later count [] i j x later = omega arith
seen_set_later count (y ∷ ys) zero zero x later = later (omega arith)
seen_set_later count (y ∷ ys) zero (suc j) x later = omega arith
seen_set_later count (y ∷ ys) (suc i) zero x later = omega arith
seen_set_later count (y ∷ ys) (suc i) (suc j) x later = seen_set_later count ys i j x (λ less. later (omega (arith, less)))

-- what is seen of the journal and of the volume that changed
pub seen_of_journal_here : {D P B : Type 0} (see : D → B) (see_place : P → B) (none : B) (control state : D) (journals : List D) (volumes : List P) (j number : ℕ) (disk : D) → j ≡ number → j < length journals → seen_of see see_place none control state (slice_set journals j disk) volumes (Journal number) ≡ see disk
seen_of_journal_here see see_place none control state journals volumes j number disk is within = subst (λ (n : ℕ). seen_at see none (slice_set journals j disk) n ≡ see disk) is (seen_set see none journals j disk within)

pub seen_of_volume_here : {D P B : Type 0} (see : D → B) (see_place : P → B) (none : B) (control state : D) (journals : List D) (volumes : List P) (v number : ℕ) (place : P) → v ≡ number → v < length volumes → seen_of see see_place none control state journals (slice_set volumes v place) (Volume number) ≡ see_place place
seen_of_volume_here see see_place none control state journals volumes v number place is within = subst (λ (n : ℕ). seen_at see_place none (slice_set volumes v place) n ≡ see_place place) is (seen_set see_place none volumes v place within)

-- what was seen of them
pub seen_is_at : {A B : Type 0} (see : A → B) (none : B) (xs : List A) (i number : ℕ) (x : A) → i ≡ number → x ≡ slice_index_or xs i x → i < length xs → seen_at see none xs number ≡ see x
seen_is_at see none xs i number x is was within = subst (λ (n : ℕ). seen_at see none xs n ≡ see x) is (seen_is see none xs i x was within)

-- One item more, whose place is after those before it.
pub seen_push : {A B : Type 0} (see : A → B) (none : B) (value : ℕ → B) (xs ys : List A) (x : A) (n : ℕ) → length xs ≡ n → ys ≡ xs ++ x ∷ [] → ((i : ℕ) → i < n → seen_at see none xs i ≡ value i) → see x ≡ value n → (i : ℕ) → i < n + 1 → seen_at see none ys i ≡ value i
seen_push see none value xs ys x n size is before last i less = elim (cases_lt i n) [
  | inl early ↦ ap (λ (zs : List _). seen_at see none zs i) is ∙ seen_push_before see none xs x i (omega (arith, early, size)) ∙ before i early
  | inr late ↦
      let end : i ≡ n = omega (arith, late, less) in
      ap (λ (zs : List _). seen_at see none zs i) is ∙ ap (λ (k : ℕ). seen_at see none (xs ++ x ∷ []) k) (end ∙ sym size) ∙ seen_push_last see none xs x ∙ last ∙ ap value (sym end)
]

-- A list with one item more is longer by one.
pub length_push : {A : Type 0} (xs ys : List A) (x : A) (n : ℕ) → length xs ≡ n → ys ≡ xs ++ x ∷ [] → length ys ≡ n + 1
length_push xs ys x n size is = omega (arith, size, ap length is, length-append xs (x ∷ []))

-- What is seen alike of each item.
pub seen_at_alike : {A B : Type 0} (all : B) (xs : List A) (i : ℕ) → seen_at (λ x. all) all xs i ≡ all
seen_at_alike all [] i = refl
seen_at_alike all (x ∷ xs) zero = refl
seen_at_alike all (x ∷ xs) (suc i) = seen_at_alike all xs i

-- What is seen alike everywhere.
pub seen_of_alike : {D P B : Type 0} (all : B) (control state : D) (journals : List D) (volumes : List P) (d : Device) → seen_of (λ disk. all) (λ place. all) all control state journals volumes d ≡ all
seen_of_alike all control state journals volumes Control = refl
seen_of_alike all control state journals volumes State = refl
seen_of_alike all control state journals volumes (Journal j) = seen_at_alike all journals j
seen_of_alike all control state journals volumes (Volume v) = seen_at_alike all volumes v

-- What is seen of an item that was made of another one.
pub seen_map : {A B C : Type 0} (make : A → B) (see : B → C) (none : C) (xs : List A) (i : ℕ) → seen_at see none (map make xs) i ≡ seen_at (λ x. see (make x)) none xs i
seen_map make see none [] i = refl
seen_map make see none (x ∷ xs) zero = refl
seen_map make see none (x ∷ xs) (suc i) = seen_map make see none xs i

-- What is seen of a journal and of a volume's place, before a change of it and after.
module _ {D P B : Type 0} (see : D → B) (see_place : P → B) (none : B) (control state : D) (journals : List D) (volumes : List P) (device : Device) (number i : ℕ) (index_is : i ≡ number) where
  pub journal_was : (disk : D) → device ≡ Journal number → i < length journals → disk ≡ slice_index_or journals i disk → seen_of see see_place none control state journals volumes device ≡ see disk
  journal_was disk is within was = subst (λ (d : Device). seen_of see see_place none control state journals volumes d ≡ see disk) (sym is) (seen_is_at see none journals i number disk index_is was within)

  pub journal_is : (disk : D) → device ≡ Journal number → i < length journals → seen_of see see_place none control state (slice_set journals i disk) volumes device ≡ see disk
  journal_is disk is within = subst (λ (d : Device). seen_of see see_place none control state (slice_set journals i disk) volumes d ≡ see disk) (sym is) (seen_of_journal_here see see_place none control state journals volumes i number disk index_is within)

  pub volume_was : (place : P) → device ≡ Volume number → i < length volumes → place ≡ slice_index_or volumes i place → seen_of see see_place none control state journals volumes device ≡ see_place place
  volume_was place is within was = subst (λ (d : Device). seen_of see see_place none control state journals volumes d ≡ see_place place) (sym is) (seen_is_at see_place none volumes i number place index_is was within)

  pub volume_is : (place : P) → device ≡ Volume number → i < length volumes → seen_of see see_place none control state journals (slice_set volumes i place) device ≡ see_place place
  volume_is place is within = subst (λ (d : Device). seen_of see see_place none control state journals (slice_set volumes i place) d ≡ see_place place) (sym is) (seen_of_volume_here see see_place none control state journals volumes i number place index_is within)

-- What is seen of no item, nor after the end.
pub seen_none : {A B : Type 0} (see : A → B) (none : B) (xs : List A) (n : ℕ) → length xs ≡ n → ((i : ℕ) → i < n → seen_at see none xs i ≡ none) → (i : ℕ) → seen_at see none xs i ≡ none
seen_none see none xs n size each i = elim (cases_lt i (length xs)) [ inl within ↦ each i (omega (arith, within, size)) | inr past ↦ after xs i past ]
  where
    after : (ys : List _) (k : ℕ) → length ys ≤ k → seen_at see none ys k ≡ none
    after [] k le = refl
    after (y ∷ ys) zero le = absurd (omega (arith, le))
    after (y ∷ ys) (suc k) le = after ys k (omega (arith, le))

pub seen_of_none : {D P B : Type 0} (see : D → B) (see_place : P → B) (none : B) (control state : D) (journals : List D) (volumes : List P) → see control ≡ none → see state ≡ none → ((j : ℕ) → seen_at see none journals j ≡ none) → ((v : ℕ) → seen_at see_place none volumes v ≡ none) → (d : Device) → seen_of see see_place none control state journals volumes d ≡ none
seen_of_none see see_place none control state journals volumes at_control at_state at_journals at_volumes Control = at_control
seen_of_none see see_place none control state journals volumes at_control at_state at_journals at_volumes State = at_state
seen_of_none see see_place none control state journals volumes at_control at_state at_journals at_volumes (Journal j) = at_journals j
seen_of_none see see_place none control state journals volumes at_control at_state at_journals at_volumes (Volume v) = at_volumes v

-- A row that was made item by item of another row.
pub row_push : {A B C : Type 0} (see : A → C) (of : B → C) (none : C) (made new : List A) (x : A) (from : List B) (y : B) → length made ≡ length from → new ≡ made ++ x ∷ [] → ((i : ℕ) → i < length from → seen_at see none made i ≡ seen_at of none from i) → see x ≡ of y
    → (i : ℕ) → i < length (from ++ y ∷ []) → seen_at see none new i ≡ seen_at of none (from ++ y ∷ []) i
row_push see of none made new x from y size is before last i less =
    seen_push see none (λ (k : ℕ). seen_at of none (from ++ y ∷ []) k) made new x (length from) size is (λ k early. before k early ∙ sym (seen_push_before of none from y k early)) (last ∙ sym (seen_push_last of none from y)) i (omega (arith, less, length-append from (y ∷ [])))

pub same_length_push : {A B : Type 0} (made new : List A) (x : A) (from : List B) (y : B) → length made ≡ length from → new ≡ made ++ x ∷ [] → length new ≡ length (from ++ y ∷ [])
same_length_push made new x from y size is = omega (arith, size, ap length is, length-append made (x ∷ []), length-append from (y ∷ []))

-- Rows that are seen alike up to their common length are so everywhere.
pub seen_alike : {A B C : Type 0} (see : A → C) (of : B → C) (none : C) (xs : List A) (ys : List B) → length xs ≡ length ys → ((i : ℕ) → i < length ys → seen_at see none xs i ≡ seen_at of none ys i) → (i : ℕ) → seen_at see none xs i ≡ seen_at of none ys i
seen_alike see of none [] [] size each i = refl
seen_alike see of none [] (y ∷ ys) size each i = absurd (omega (arith, size))
seen_alike see of none (x ∷ xs) [] size each i = absurd (omega (arith, size))
seen_alike see of none (x ∷ xs) (y ∷ ys) size each zero = each 0 (omega arith)
seen_alike see of none (x ∷ xs) (y ∷ ys) size each (suc i) = seen_alike see of none xs ys (omega (arith, size)) (λ k less. each (suc k) (omega (arith, less))) i

-- What is seen of what is seen.
pub seen_through : {A B C : Type 0} (f : B → C) (see : A → B) (none : B) (xs : List A) (i : ℕ) → f (seen_at see none xs i) ≡ seen_at (λ x. f (see x)) (f none) xs i
seen_through f see none [] i = refl
seen_through f see none (x ∷ xs) zero = refl
seen_through f see none (x ∷ xs) (suc i) = seen_through f see none xs i

-- One item more is taken of a list.
pub taken : {A : Type 0} (all so_far rest : List A) (x : A) (next : List A) → all ≡ so_far ++ rest → rest ≡ x ∷ next → all ≡ (so_far ++ x ∷ []) ++ next
taken all so_far rest x next is goes = is ∙ ap (λ (l : List _). so_far ++ l) goes ∙ sym (append_assoc so_far (x ∷ []) next)
