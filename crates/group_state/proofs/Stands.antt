-- What is kept through a run: the state follows the history, controllers stand by their numbers and keep their rules, and all that
-- waits is of one of them. A call on one controller keeps it.
use Rattle.std.proofs.Common.{inl, inr, ◌≡◌, ℕ, zero, suc, ◌+◌, ◌<◌, ◌≤◌, Bool, true, false, nat_eq, nat_lt, List, [], ◌∷◌, ◌++◌, length, get_or, map, refl, sym, ap, subst, ◌∙◌, arith, length-set}
use Rattle.std.specs.Prelude.{filter}
use Rattle.std.specs.List.{list_all}
use Rattle.std.proofs.lemmas.Bool.{cases_Bool, and_from, eqb-true, eqb-false, ne_eqb, lt-ltb}
use Rattle.std.proofs.lemmas.List.{get_or-set_same, get_or-set_other}
use Rattle.std.proofs.lemmas.List.Folds.{list_all-append}
use Rattle.ckd_track.specs.declared.write.Write.{Write}
use Rattle.cut_core.specs.Events.{Event, cut_after, last_cut}
use Rattle.cut_core.specs.Shares.{no_share, share}
use Rattle.cut_core.specs.Groups.{CarriedEntry, carried_entry, carried_by, waiting_in}
use Rattle.cut_core.specs.LegalHistories.{is_legal_next}
use Rattle.cut_core.proofs.Filters.{all_filter}
use Rattle.cut_core.proofs.Legality.{legal_snoc}
use Rattle.cut_core.proofs.Ends.{cut_snoc, stays, waiting_snoc}
use Rattle.group_state.specs.Controls.{ControlState, new_control}
use Rattle.group_state.specs.Groups.{Group, new_controls, new_group, control_at, with_control}
use Rattle.group_state.specs.SoundStates.{Sound}
use Rattle.group_state.specs.Histories.{IsControlOf, FollowsHistory}
use Rattle.group_state.proofs.GroupLaws.{length_new}
use Rattle.group_state.proofs.Elsewhere.{IsElsewhere, control_aside, share_snoc}

-- all entries are of the first controllers
abbrev pub are_below : (controls : ℕ) → List CarriedEntry → Bool
are_below n entries = list_all (λ e. nat_lt e.control n) entries

pub record Stands (n : ℕ) (past : List Event) (s : Group) : Type 0 where
  pub follows : FollowsHistory n past s
  pub numbers : (k : ℕ) → k < n → (control_at s k).queue.control ≡ k
  pub sound : (k : ℕ) → k < n → Sound (control_at s k)
  pub below : are_below n (waiting_in [] past) ≡ true
  -- the history has nothing of any other controller
  pub beyond : (k v x : ℕ) → n ≤ k → share k v x past ≡ no_share

pub below_next : (n : ℕ) (past : List Event) (x : Event) → are_below n (waiting_in [] past) ≡ true → are_below n (carried_by past x) ≡ true → are_below n (waiting_in [] (past ++ x ∷ [])) ≡ true
below_next n past x waits carried =
    ap (are_below n) (waiting_snoc [] past x) ∙ list_all-append (λ (e : CarriedEntry). nat_lt e.control n) (filter (stays x) (waiting_in [] past)) (carried_by past x)
    ∙ rw (all_filter (λ (e : CarriedEntry). nat_lt e.control n) (stays x) (waiting_in [] past) waits, carried) refl

pub written_below : (n k : ℕ) (writes : List Write) → k < n → are_below n (map (carried_entry k) writes) ≡ true
written_below n k [] lt = refl
written_below n k (w ∷ writes) lt = and_from (nat_lt k n) (are_below n (map (carried_entry k) writes)) (lt-ltb k n lt) (written_below n k writes lt)

-- ---- a call on one controller

-- what holds of the changed controller and of the others
pub at_each : (P : ℕ → ControlState → Type 0) (s : Group) (j : ℕ) (change : ControlState → ControlState) → j < length s.controls → P j (change (control_at s j)) → ((k : ℕ) → nat_eq j k ≡ false → P k (control_at s k))
    → (k : ℕ) → P k (control_at (with_control j change s) k)
at_each P s j change lt here there k = elim (cases_Bool (nat_eq j k)) [
  | inl same ↦ subst (λ i. P i (control_at (with_control j change s) i)) (eqb-true j k same)
      (subst (P j) (sym (get_or-set_same s.controls j (change (control_at s j)) (new_control 0 0 0) lt)) here)
  | inr other ↦ subst (P k) (sym (get_or-set_other s.controls j k (change (control_at s j)) (new_control 0 0 0) (λ e. eqb-false j k other (sym e)))) (there k other)
]

pub stands_next : (n : ℕ) (past : List Event) (x : Event) (j : ℕ) (change : ControlState → ControlState) (s : Group) → Stands n past s → j < n → is_legal_next n past x ≡ true → cut_after (last_cut past) x ≡ last_cut past
    → ((k : ℕ) → nat_eq j k ≡ false → IsElsewhere k past x) → are_below n (carried_by past x) ≡ true → (change (control_at s j)).queue.control ≡ (control_at s j).queue.control
    → Sound (change (control_at s j)) → IsControlOf j (past ++ x ∷ []) (change (control_at s j)) → Stands n (past ++ x ∷ []) (with_control j change s)
stands_next n past x j change s h lt legal cut elsewhere carried number sound control =
    let within : j < length s.controls = omega (arith, lt, h.follows.count) in
    let each = at_each (λ k c. k < n → IsControlOf k (past ++ x ∷ []) c) s j change within (λ below. control) (λ k other below. control_aside k past x (control_at s k) (elsewhere k other) (h.follows.each k below)) in
    record {
      follows = record {
        legal = legal_snoc n [] past x h.follows.legal legal;
        count = length-set s.controls j (change (control_at s j)) ∙ h.follows.count;
        last = h.follows.last ∙ sym (cut_snoc past x ∙ cut);
        each = each;
      };
      numbers = at_each (λ k c. k < n → c.queue.control ≡ k) s j change within (λ below. number ∙ h.numbers j lt) (λ k other below. h.numbers k below);
      sound = at_each (λ k c. k < n → Sound c) s j change within (λ below. sound) (λ k other below. h.sound k below);
      below = below_next n past x h.below carried;
      beyond = λ k v y le. share_snoc k v y past x ∙ (elsewhere k (ne_eqb j k (λ e. omega (arith, e, lt, le)))).shares v y (share k v y past) ∙ h.beyond k v y le;
    }

-- ---- the first state

pub new_at : (n first records blocks k : ℕ) (d : ControlState) → k < n → get_or (new_controls n first records blocks) k d ≡ new_control (first + k) records blocks
new_at zero first records blocks k d lt = absurd (omega arith)
new_at (suc n) first records blocks zero d lt = ap (λ k. new_control k records blocks) (omega arith)
new_at (suc n) first records blocks (suc k) d lt = new_at n (first + 1) records blocks k d (omega arith) ∙ ap (λ k. new_control k records blocks) (omega arith)

new_follows : (k records blocks : ℕ) → IsControlOf k [] (new_control k records blocks)
new_follows k records blocks = record {
  told = refl;
  reporting = refl;
  live = refl;
  volumes = λ v y. record { carried = refl; dropped = refl; wanted = λ e. refl; mapped = λ e. refl };
  waiting = tt;
}

pub new_sound : (k records blocks : ℕ) → Sound (new_control k records blocks)
new_sound k records blocks = record { own = refl; rises = refl; stamps = refl; sizes = refl; distinct = refl; entries = refl; counts = λ v. refl }

pub stands_first : (n records blocks : ℕ) → Stands n [] (new_group n records blocks)
stands_first n records blocks =
    let at : (k : ℕ) → k < n → control_at (new_group n records blocks) k ≡ new_control k records blocks = λ k lt. new_at n 0 records blocks k (new_control 0 0 0) lt ∙ ap (λ k. new_control k records blocks) (omega arith) in
    record {
      follows = record {
        legal = refl;
        count = length_new n 0 records blocks;
        last = refl;
        each = λ k lt. subst (IsControlOf k []) (sym (at k lt)) (new_follows k records blocks);
      };
      numbers = λ k lt. ap (λ (c : ControlState). c.queue.control) (at k lt);
      sound = λ k lt. subst Sound (sym (at k lt)) (new_sound k records blocks);
      below = refl;
      beyond = λ k v x past. refl;
    }
