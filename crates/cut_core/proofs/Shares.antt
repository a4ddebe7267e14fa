-- What a share says waits are the waiting entries on its track.
use Rattle.std.proofs.Common.{inl, inr, ◌≡◌, ℕ, Bool, true, false, not, cond, nat_eq, nat_lt, nat_le, ◌&&◌, ◌||◌, List, [], ◌∷◌, ◌++◌, map, refl, sym, ap, subst, ◌∙◌, append_assoc, append-nil}
use Rattle.std.specs.Prelude.{filter, ◌==◌}
use Rattle.std.proofs.lemmas.Bool.{and_parts, cases_lt, eqb-true, eq-eqb, lt-ltb, le-ltb, lt-leb, le-leb}
use Rattle.std.proofs.lemmas.List.Sums.{fold-append}
use Rattle.ckd_track.specs.declared.write.Write.{Write}
use Rattle.cut_core.specs.Events.{Event}
use Rattle.cut_core.specs.Events.Event.{Join, Copied, Break, Raise, Form, Drop, Carry, Resume, Forget}
use Rattle.cut_core.specs.Shares.{Share, no_share, names_volume, share_write, share_writes, share_copied, share_drop, share_by, share}
use Rattle.cut_core.specs.Groups.{CarriedEntry, carried_entry, copied_entry, is_write_carried, carried_by, waiting_in}
use Rattle.cut_core.specs.Waiting.{waits_on}
use Rattle.cut_core.proofs.Ends.{stays, waiting_snoc}
use Rattle.cut_core.proofs.Waits.{stamps_on, stamps_append, moved, stays_all, stays_none, same_waiting}

-- ---- a joined batch

-- whether a write is on the track
abbrev writes_on : (v x : ℕ) → Write → Bool
writes_on v x w = w.volume == v && w.track == x

itself : (k : ℕ) → nat_eq k k ≡ true
itself k = eq-eqb k k refl

-- a share with one more stamp that waits, and one whose map holds the track
abbrev carried_on : ℕ → Share → Share
carried_on stamp s = record s { waiting = s.waiting ++ stamp ∷ [] }

abbrev mapped : Share → Share
mapped s = record s { is_mapped = true }

-- what the writes that are left make of a share
abbrev Joins : (k v x : ℕ) (past : List Event) → List Write → Type 0
Joins k v x past writes = (s : Share) → s.is_carried ≡ (share k v x past).is_carried → s.is_wanted ≡ (share k v x past).is_wanted
    → (share_writes v x writes s).waiting ≡ s.waiting ++ stamps_on k v x (map (carried_entry k) (filter (is_write_carried past k) writes))

-- a write that isn't on the track
joined_off : (k v x : ℕ) (w : Write) (t : Bool) (rest : List Write) → writes_on v x w ≡ false → stamps_on k v x (map (carried_entry k) (cond t (w ∷ rest) rest)) ≡ stamps_on k v x (map (carried_entry k) rest)
joined_off k v x w true rest off = rw (itself k, off) refl
joined_off k v x w false rest off = refl

-- a write on the track is carried where the track's share says so
carried_is : (k v x : ℕ) (past : List Event) (w : Write) → writes_on v x w ≡ true → is_write_carried past k w ≡ ((share k v x past).is_carried && not (share k v x past).is_wanted)
carried_is k v x past w on =
    let parts = and_parts (w.volume == v) (w.track == x) on in
    subst (λ u. (let s = share k w.volume w.track past in s.is_carried && not s.is_wanted) ≡ (let s = share k u x past in s.is_carried && not s.is_wanted)) (eqb-true w.volume v parts.0)
    (subst (λ y. (let s = share k w.volume w.track past in s.is_carried && not s.is_wanted) ≡ (let s = share k w.volume y past in s.is_carried && not s.is_wanted)) (eqb-true w.track x parts.1) refl)

joined_on : (k v x : ℕ) (past : List Event) (w : Write) (writes : List Write) (s : Share) → Joins k v x past writes → writes_on v x w ≡ true
    → s.is_carried ≡ (share k v x past).is_carried → s.is_wanted ≡ (share k v x past).is_wanted → (c d t : Bool) → c ≡ t
    → (share_writes v x writes (cond c (carried_on w.stamp.0 s) (cond d (mapped s) s))).waiting ≡ s.waiting ++ stamps_on k v x (map (carried_entry k) (cond t (w ∷ filter (is_write_carried past k) writes) (filter (is_write_carried past k) writes)))
joined_on k v x past w writes s rest on carried wanted true d true e =
    rw (itself k, on) (rest (carried_on w.stamp.0 s) carried wanted ∙ append_assoc s.waiting (w.stamp.0 ∷ []) (stamps_on k v x (map (carried_entry k) (filter (is_write_carried past k) writes))))
joined_on k v x past w writes s rest on carried wanted false true false e = rest (mapped s) carried wanted
joined_on k v x past w writes s rest on carried wanted false false false e = rest s carried wanted
joined_on k v x past w writes s rest on carried wanted true d false e = absurd cc
joined_on k v x past w writes s rest on carried wanted false d true e = absurd cc

joined : (k v x : ℕ) (past : List Event) (writes : List Write) → Joins k v x past writes
joined k v x past [] s carried wanted = sym (append-nil s.waiting)
joined k v x past (w ∷ writes) s carried wanted = choose (writes_on v x w) refl (joined k v x past writes)
  where
    choose : (t : Bool) → writes_on v x w ≡ t → Joins k v x past writes
        → (share_writes v x writes (cond t (share_write w.stamp.0 s) s)).waiting ≡ s.waiting ++ stamps_on k v x (map (carried_entry k) (cond (is_write_carried past k w) (w ∷ filter (is_write_carried past k) writes) (filter (is_write_carried past k) writes)))
    choose false off rest = rest s carried wanted ∙ ap (λ xs. s.waiting ++ xs) (sym (joined_off k v x w (is_write_carried past k w) (filter (is_write_carried past k) writes) off))
    choose true on rest = joined_on k v x past w writes s rest on carried wanted (s.is_carried && not s.is_wanted) s.is_dropped (is_write_carried past k w) (rw (carried, wanted) (sym (carried_is k v x past w on)))

-- writes of another controller
others : (j k v x : ℕ) (writes : List Write) → nat_eq j k ≡ false → stamps_on k v x (map (carried_entry j) writes) ≡ []
others j k v x [] e = refl
others j k v x (w ∷ writes) e = rw e (others j k v x writes e)

-- ---- one more event

same_names : (j u k v x : ℕ) (e : CarriedEntry) → waits_on k v x e ≡ true → names_volume j u e.control e.volume ≡ names_volume j u k v
same_names j u k v x e on =
    let parts = and_parts (names_volume e.control e.volume k v) (e.track == x) on in
    let names = and_parts (e.control == k) (e.volume == v) parts.0 in
    rw (eqb-true e.control k names.0, eqb-true e.volume v names.1) refl

above_is : (c n : ℕ) → nat_lt c n ≡ (not (nat_le n c) && true)
above_is c n = elim (cases_lt c n) [
  | inl lt ↦ rw (lt-ltb c n lt, lt-leb n c lt) refl
  | inr le ↦ rw (le-ltb c n le, le-leb n c le) refl
]

abbrev Waits : (k v x : ℕ) → List Event → Type 0
Waits k v x past = (share k v x past).waiting ≡ stamps_on k v x (waiting_in [] past)

module _ (k v x : ℕ) (past : List Event) (h : Waits k v x past) where
  abbrev s : Share
  s = share k v x past

  abbrev w : List CarriedEntry
  w = waiting_in [] past

  -- what waits still waits
  kept : (keep : CarriedEntry → Bool) → ((e : CarriedEntry) → waits_on k v x e ≡ true → keep e ≡ true) → s.waiting ≡ stamps_on k v x (filter keep w)
  kept keep all = h ∙ sym (stays_all k v x keep w all)

  -- and nothing is carried
  quiet : (keep : CarriedEntry → Bool) → ((e : CarriedEntry) → waits_on k v x e ≡ true → keep e ≡ true) → s.waiting ≡ stamps_on k v x (filter keep w) ++ []
  quiet keep all = kept keep all ∙ sym (append-nil (stamps_on k v x (filter keep w)))

  by_event : (y : Event) → (share_by k v x s y).waiting ≡ stamps_on k v x (filter (stays y) w) ++ stamps_on k v x (carried_by past y)
  by_event (Break j u) = quiet (stays (Break j u)) (λ e on. refl)
  by_event (Raise j u) = quiet (stays (Raise j u)) (λ e on. refl)
  by_event (Carry j u tracks) = same_waiting (names_volume j u k v) _ s refl ∙ quiet (stays (Carry j u tracks)) (λ e on. refl)
  by_event (Resume j u) = same_waiting (names_volume j u k v) _ s refl ∙ quiet (stays (Resume j u)) (λ e on. refl)
  by_event (Forget j u) = same_waiting (names_volume j u k v) _ s refl ∙ quiet (stays (Forget j u)) (λ e on. refl)
  by_event (Form c) =
      ap (filter (λ n. nat_lt c n)) h ∙ moved k v x (stays (Form c)) (λ n. nat_lt c n) w (λ e on. above_is c e.stamp) ∙ sym (append-nil (stamps_on k v x (filter (stays (Form c)) w)))
  by_event (Drop j u all) = dropped (names_volume j u k v) refl
    where
      dropped : (t : Bool) → names_volume j u k v ≡ t → (cond t (share_drop all s) s).waiting ≡ stamps_on k v x (filter (stays (Drop j u all)) w) ++ []
      dropped true is = same_waiting (s.is_carried || s.is_dropped) _ (record s { waiting = [] }) refl
          ∙ rw (stays_none k v x (stays (Drop j u all)) w (λ e on. rw (same_names j u k v x e on, is) refl)) refl
      dropped false is = quiet (stays (Drop j u all)) (λ e on. rw (same_names j u k v x e on, is) refl)
  by_event (Copied j u y stamp) = copied (names_volume j u k v && y == x)
    where
      e : CarriedEntry
      e = copied_entry j u y stamp

      copied : (t : Bool) → (cond t (share_copied stamp s) s).waiting ≡ stamps_on k v x (filter (stays (Copied j u y stamp)) w) ++ map (λ (e : CarriedEntry). e.stamp) (cond t (e ∷ []) [])
      copied true = ap (λ xs. xs ++ stamp ∷ []) (kept (stays (Copied j u y stamp)) (λ e on. refl))
      copied false = quiet (stays (Copied j u y stamp)) (λ e on. refl)
  by_event (Join b) = choose (nat_eq b.control k) refl
    where
      choose : (t : Bool) → nat_eq b.control k ≡ t
          → (cond t (share_writes v x b.writes s) s).waiting ≡ stamps_on k v x (filter (stays (Join b)) w) ++ stamps_on k v x (map (carried_entry b.control) (filter (is_write_carried past b.control) b.writes))
      choose true is =
          subst (λ j. (share_writes v x b.writes s).waiting ≡ stamps_on k v x (filter (stays (Join b)) w) ++ stamps_on k v x (map (carried_entry j) (filter (is_write_carried past j) b.writes))) (sym (eqb-true b.control k is))
          (joined k v x past b.writes s refl refl ∙ ap (λ xs. xs ++ stamps_on k v x (map (carried_entry k) (filter (is_write_carried past k) b.writes))) (kept (stays (Join b)) (λ e on. refl)))
      choose false is = rw (others b.control k v x (filter (is_write_carried past b.control) b.writes) is) (quiet (stays (Join b)) (λ e on. refl))

all_wait : (k v x : ℕ) (past later : List Event) → Waits k v x past → Waits k v x (past ++ later)
all_wait k v x past [] h = subst (λ p. Waits k v x p) (sym (append-nil past)) h
all_wait k v x past (y ∷ later) h =
    let next : Waits k v x (past ++ y ∷ []) =
    ap (λ (s : Share). s.waiting) (fold-append (share_by k v x) no_share past (y ∷ [])) ∙ by_event k v x past h y
    ∙ sym (ap (stamps_on k v x) (waiting_snoc [] past y) ∙ stamps_append k v x (filter (stays y) (waiting_in [] past)) (carried_by past y)) in
    subst (λ p. Waits k v x p) (append_assoc past (y ∷ []) later) (all_wait k v x (past ++ y ∷ []) later next)

-- In every history, also one that isn't legal, the two ways to say what waits agree. So a drop maps exactly the tracks of the
-- entries that it takes out.
pub shares_wait : (k v x : ℕ) (past : List Event) → (share k v x past).waiting ≡ map (λ e. e.stamp) (filter (waits_on k v x) (waiting_in [] past))
shares_wait k v x past = all_wait k v x [] past refl
