-- What waits on one track.
use Rattle.std.proofs.Common.{◌≡◌, ℕ, Bool, true, false, cond, List, [], ◌∷◌, ◌++◌, map, refl, sym, ◌∙◌}
use Rattle.std.specs.Prelude.{filter}
use Rattle.std.proofs.lemmas.List.{map-append}
use Rattle.std.proofs.lemmas.List.Elements.{filter-append}
use Rattle.cut_core.specs.Shares.{Share}
use Rattle.cut_core.specs.Groups.{CarriedEntry}
use Rattle.cut_core.specs.Waiting.{waits_on}
use Rattle.cut_core.proofs.Filters.{filter_all, filter_none}

-- the stamps of the entries on a track
abbrev pub stamps_on : (k v x : ℕ) → List CarriedEntry → List ℕ
stamps_on k v x entries = map (λ (e : CarriedEntry). e.stamp) (filter (waits_on k v x) entries)

pub stamps_append : (k v x : ℕ) (xs ys : List CarriedEntry) → stamps_on k v x (xs ++ ys) ≡ stamps_on k v x xs ++ stamps_on k v x ys
stamps_append k v x xs ys = rw (filter-append (waits_on k v x) xs ys) (map-append (λ (e : CarriedEntry). e.stamp) (filter (waits_on k v x) xs) (filter (waits_on k v x) ys))

-- a test of stamps, and the same test of entries
pub moved : (k v x : ℕ) (keep : CarriedEntry → Bool) (p : ℕ → Bool) (entries : List CarriedEntry) → ((e : CarriedEntry) → waits_on k v x e ≡ true → p e.stamp ≡ keep e) → filter p (stamps_on k v x entries) ≡ stamps_on k v x (filter keep entries)
moved k v x keep p [] same = refl
moved k v x keep p (e ∷ entries) same = choose (waits_on k v x e) refl (keep e) refl (moved k v x keep p entries same)
  where
    choose : (t : Bool) → waits_on k v x e ≡ t → (u : Bool) → keep e ≡ u → filter p (stamps_on k v x entries) ≡ stamps_on k v x (filter keep entries)
        → filter p (map (λ (e : CarriedEntry). e.stamp) (cond t (e ∷ filter (waits_on k v x) entries) (filter (waits_on k v x) entries))) ≡ stamps_on k v x (cond u (e ∷ filter keep entries) (filter keep entries))
    choose true on true is h = rw (on, same e on, is, h) refl
    choose true on false is h = rw (same e on, is) h
    choose false on true is h = rw on h
    choose false on false is h = h

pub stays_all : (k v x : ℕ) (keep : CarriedEntry → Bool) (entries : List CarriedEntry) → ((e : CarriedEntry) → waits_on k v x e ≡ true → keep e ≡ true) → stamps_on k v x (filter keep entries) ≡ stamps_on k v x entries
stays_all k v x keep entries all = sym (moved k v x keep (λ n. true) entries (λ e on. sym (all e on))) ∙ filter_all (λ n. true) (stamps_on k v x entries) (λ n. refl)

pub stays_none : (k v x : ℕ) (keep : CarriedEntry → Bool) (entries : List CarriedEntry) → ((e : CarriedEntry) → waits_on k v x e ≡ true → keep e ≡ false) → stamps_on k v x (filter keep entries) ≡ []
stays_none k v x keep entries none = sym (moved k v x keep (λ n. false) entries (λ e on. sym (none e on))) ∙ filter_none (λ n. false) (stamps_on k v x entries) (λ n. refl)

pub same_waiting : (t : Bool) (a b : Share) → a.waiting ≡ b.waiting → (cond t a b).waiting ≡ b.waiting
same_waiting true a b e = e
same_waiting false a b e = refl
