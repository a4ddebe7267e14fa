-- A carried volume isn't dropped and has no map.
use Rattle.std.proofs.Common.{inl, inr, arith, suc, ◌≡◌, ℕ, Bool, true, false, not, cond, nat_eq, ◌&&◌, ◌||◌, List, [], ◌∷◌, ◌++◌, length, map, refl}
use Rattle.std.specs.Prelude.{filter, fold, ◌==◌}
use Rattle.std.specs.List.{list_any}
use Rattle.std.proofs.lemmas.Bool.{cases_Bool, eqb-true}
use Rattle.ckd_track.specs.declared.write.Write.{Write}
use Rattle.cut_core.specs.Events.{Event}
use Rattle.cut_core.specs.Events.Event.{Join, Copied, Break, Raise, Form, Drop, Carry, Resume, Forget}
use Rattle.cut_core.specs.Shares.{Share, names_volume, share_write, share_writes, share_copied, share_drop, share_by}
use Rattle.cut_core.specs.Groups.{CarriedEntry}

abbrev pub is_plain : Share → Bool
is_plain s = not s.is_carried || (not s.is_dropped && not s.is_mapped)

plain_write : (stamp : ℕ) (s : Share) → is_plain s ≡ true → is_plain (share_write stamp s) ≡ true
plain_write stamp s e = choose (s.is_carried && not s.is_wanted) s.is_dropped refl
  where
    when_dropped : (c m : Bool) → (not c || (false && not m)) ≡ true → (not c || (false && false)) ≡ true
    when_dropped true m e = absurd cc
    when_dropped false m e = refl

    choose : (c d : Bool) → s.is_dropped ≡ d → is_plain (cond c (record s { waiting = s.waiting ++ stamp ∷ [] }) (cond d (record s { is_mapped = true }) s)) ≡ true
    choose true d is = e
    choose false false is = e
    choose false true is = rw is (when_dropped s.is_carried s.is_mapped (rw is at e))

plain_writes : (v x : ℕ) (writes : List Write) (s : Share) → is_plain s ≡ true → is_plain (share_writes v x writes s) ≡ true
plain_writes v x [] s e = e
plain_writes v x (w ∷ writes) s e = plain_writes v x writes (cond (w.volume == v && w.track == x) (share_write w.stamp.0 s) s) (choose (w.volume == v && w.track == x))
  where
    choose : (t : Bool) → is_plain (cond t (share_write w.stamp.0 s) s) ≡ true
    choose true = plain_write w.stamp.0 s e
    choose false = e

plain_either : (t : Bool) (a b : Share) → is_plain a ≡ true → is_plain b ≡ true → is_plain (cond t a b) ≡ true
plain_either true a b e f = e
plain_either false a b e f = f

plain_next : (k v x : ℕ) (s : Share) (y : Event) → is_plain s ≡ true → is_plain (share_by k v x s y) ≡ true
plain_next k v x s (Join b) e = plain_either (b.control == k) (share_writes v x b.writes s) s (plain_writes v x b.writes s e) e
plain_next k v x s (Copied j u y stamp) e = plain_either (names_volume j u k v && y == x) (share_copied stamp s) s e e
plain_next k v x s (Form c) e = e
plain_next k v x s (Drop j u all) e = plain_either (names_volume j u k v) (share_drop all s) s (plain_either (s.is_carried || s.is_dropped) _ (record s { waiting = [] }) refl e) e
plain_next k v x s (Carry j u tracks) e = plain_either (names_volume j u k v) _ s refl e
plain_next k v x s (Resume j u) e = plain_either (names_volume j u k v) _ s refl e
plain_next k v x s (Forget j u) e = plain_either (names_volume j u k v) _ s refl e
plain_next k v x s (Break j u) e = e
plain_next k v x s (Raise j u) e = e

pub plain_all : (k v x : ℕ) (events : List Event) (s : Share) → is_plain s ≡ true → is_plain (fold (share_by k v x) s events) ≡ true
plain_all k v x [] s e = e
plain_all k v x (y ∷ events) s e = plain_all k v x events (share_by k v x s y) (plain_next k v x s y e)

not_none : (n : ℕ) → nat_eq (suc n) 0 ≡ false
not_none n = elim (cases_Bool (nat_eq (suc n) 0)) [ inl same ↦ absurd (omega (arith, eqb-true (suc n) 0 same)) | inr other ↦ other ]

-- whether anything waits on the track
pub any_waits : (p : CarriedEntry → Bool) (entries : List CarriedEntry) → not (length (map (λ (e : CarriedEntry). e.stamp) (filter p entries)) == 0) ≡ list_any p entries
any_waits p [] = refl
any_waits p (e ∷ entries) = choose (p e) (any_waits p entries)
  where
    choose : (t : Bool) → not (length (map (λ (e : CarriedEntry). e.stamp) (filter p entries)) == 0) ≡ list_any p entries
        → not (length (map (λ (e : CarriedEntry). e.stamp) (cond t (e ∷ filter p entries) (filter p entries))) == 0) ≡ (t || list_any p entries)
    choose true h = rw (not_none (length (map (λ (e : CarriedEntry). e.stamp) (filter p entries)))) refl
    choose false h = h
