-- What a crash leaves of a disk, as calls come to its record.
use Rattle.std.proofs.Common.{◌≡◌, inl, inr, ℕ, ◌+◌, ◌<◌, ◌≤◌, min, max, nat_le, true, false, List, [], ◌∷◌, ◌++◌, length, map, refl, sym, ap, subst, arith, Result, Ok, Err, OnOk, OnErr}
use Rattle.std.proofs.lemmas.Bool.{cases_lt}
use Rattle.std.proofs.lemmas.Bool.Decides.{nat_tests}
use Rattle.crash_plant.specs.declared.entry.Done.{Done}
use Rattle.crash_plant.specs.declared.entry.Done.TheVariants.{Write, Sync}
use Rattle.crash_plant.specs.declared.entry.PastCall.{PastCall}
use Rattle.crash_plant.specs.Bytes.{Torn}
use Rattle.crash_plant.specs.Pasts.{Note, note_of, Step, Reach, Through, Does, Chains, InTime, last_till, moved_one, moved_entry, moved}

-- Before a call began it changes nothing.
pub reach_before : (t : ℕ) (past : List Note) (n : Note) (b c : List ℕ) → t < n.since → t < n.till → Reach t (past ++ n ∷ []) b c → Reach t past b c
reach_before t [] n b c since till (inl stays) = stays.1
reach_before t [] n b c since till (inr goes) = absurd (omega (arith, goes.1, since))
reach_before t (x ∷ past) n b c since till (inl stays) = inl stays
reach_before t (x ∷ past) n b c since till (inr goes) = inr (goes.0, goes.1, goes.2, reach_before t past n goes.0 c since till goes.3)

pub reach_still : (t : ℕ) (past : List Note) (n : Note) (b c : List ℕ) → t < n.till → Reach t past b c → Reach t (past ++ n ∷ []) b c
reach_still t [] n b c till is = inl (till, is)
reach_still t (x ∷ past) n b c till (inl stays) = inl stays
reach_still t (x ∷ past) n b c till (inr goes) = inr (goes.0, goes.1, goes.2, reach_still t past n goes.0 c till goes.3)

-- The last call is done no earlier than those before it.
pub last_later : (since till : ℕ) (past : List Note) → InTime since till past → till ≤ last_till till past
last_later since till [] times = omega arith
last_later since till (n ∷ past) times = omega (arith, times.1, last_later n.since n.till past times.4)

-- Once all calls are done, an image has gone through all.
pub through_of : (t since till : ℕ) (past : List Note) (b c : List ℕ) → InTime since till past → last_till till past ≤ t → Reach t past b c → Through past b c
through_of t since till [] b c times done is = is
through_of t since till (n ∷ past) b c times done (inl stays) = absurd (omega (arith, stays.0, done, last_later n.since n.till past times.4))
through_of t since till (n ∷ past) b c times done (inr goes) = (goes.0, goes.2, through_of t n.since n.till past goes.0 c times.4 done goes.3)

pub reach_of : (t since till : ℕ) (past : List Note) (b c : List ℕ) → InTime since till past → last_till till past ≤ t → Through past b c → Reach t past b c
reach_of t since till [] b c times done is = is
reach_of t since till (n ∷ past) b c times done through =
    inr (through.0, omega (arith, times.3, done, last_later n.since n.till past times.4), through.1, reach_of t n.since n.till past through.0 c times.4 done through.2)

-- From then on nothing changes.
pub reach_later : (s t since till : ℕ) (past : List Note) (b c : List ℕ) → InTime since till past → last_till till past ≤ s → last_till till past ≤ t → Reach s past b c → Reach t past b c
reach_later s t since till past b c times done later now = reach_of t since till past b c times later (through_of s since till past b c times done now)

-- One call more.
pub through_push : (past : List Note) (n : Note) (b c : List ℕ) → Through (past ++ n ∷ []) b c → (m : List ℕ) × Through past b m × Step n.done n.after m c
through_push [] n b c through = (b, refl, subst (λ (l : List ℕ). Step n.done n.after b l) (sym through.2) through.1)
through_push (x ∷ past) n b c through =
    let rest = through_push past n through.0 c through.2 in
    (rest.0, (through.0, through.1, rest.1), rest.2)

pub push_through : (past : List Note) (n : Note) (b m c : List ℕ) → Through past b m → Step n.done n.after m c → Through (past ++ n ∷ []) b c
push_through [] n b m c is step = (c, subst (λ (l : List ℕ). Step n.done n.after l c) is step, refl)
push_through (x ∷ past) n b m c through step = (through.0, through.1, push_through past n through.0 m c through.2 step)

pub last_push : (till : ℕ) (past : List Note) (n : Note) → last_till till (past ++ n ∷ []) ≡ n.till
last_push till [] n = refl
last_push till (x ∷ past) n = last_push x.till past n

pub in_time_push : (since till : ℕ) (past : List Note) (n : Note) → since ≤ till → InTime since till past → last_till till past < n.since → n.since ≤ n.till → InTime since till (past ++ n ∷ [])
in_time_push since till [] n order times later ends = (omega (arith, order, later), omega (arith, later, ends), omega (arith, order, later, ends), ends, tt)
in_time_push since till (x ∷ past) n order times later ends = (times.0, times.1, times.2, times.3, in_time_push x.since x.till past n times.3 times.4 later ends)

pub chains_push : (b : List ℕ) (past : List Note) (n : Note) (now : List ℕ) → Chains b past now → Does n.done now n.after → Chains b (past ++ n ∷ []) n.after
chains_push b [] n now is does = (subst (λ (l : List ℕ). Does n.done l n.after) is does, refl)
chains_push b (x ∷ past) n now chains does = (chains.0, chains_push x.after past n now chains.1 does)

-- What a call does is one of its steps.
does_step : (done : Done) (b a : List ℕ) → Does done b a → Step done a b a
does_step (Write place count) b a does = record { before = does.1; after = does.2; size = does.3 }
does_step Sync b a does = refl

pub chains_through : (b : List ℕ) (past : List Note) (now : List ℕ) → Chains b past now → Through past b now
chains_through b [] now is = is
chains_through b (n ∷ past) now chains = (n.after, does_step n.done b n.after chains.0, chains_through n.after past now chains.1)

-- What a write may do is done by the write of these bytes.
pub does_torn : (place count : ℕ) (b a : List ℕ) → place + count ≤ length b → Torn place count b a → Does (Write place count) b a
does_torn place count b a fits torn = (fits, torn.before, torn.after, torn.size)

-- A call that was done before the lent time, and one that wasn't.
moved_early : (lent till : ℕ) (n : Note) → n.till ≤ lent → moved_one lent till n ≡ n
moved_early lent till n early = let is : nat_le n.till lent ≡ true = grind (arith, nat_tests) in rw is refl

moved_late : (lent till : ℕ) (n : Note) → lent < n.till → moved_one lent till n ≡ record { since = min n.since (lent + 1); till = till; done = n.done; after = n.after }
moved_late lent till n late = let is : nat_le n.till lent ≡ false = grind (arith, nat_tests) in rw is refl

-- A disk's record stays in order where a call comes to it, or none.
pub noted_or_not : {T E : Type 0} (result : Result T E) (base now held with_it : List ℕ) (past noted : List Note) (at : ℕ) (done : Done) → Chains base past now → InTime 0 0 past → last_till 0 past < at → Does done now with_it
    → OnOk result (held ≡ with_it) → OnOk result (noted ≡ past ++ record { since = at; till = at; done = done; after = held } ∷ []) → OnErr result (held ≡ now) → OnErr result (noted ≡ past) → Chains base noted held × InTime 0 0 noted
noted_or_not (Ok x) base now held with_it past noted at done chains times later does is pushed same same_past =
    let n : Note = record { since = at; till = at; done = done; after = held } in
    let does_now : Does done now held = subst (λ (l : List ℕ). Does done now l) (sym is) does in (
      subst (λ (l : List Note). Chains base l held) (sym pushed) (chains_push base past n now chains does_now),
      subst (λ (l : List Note). InTime 0 0 l) (sym pushed) (in_time_push 0 0 past n (omega arith) times later (omega arith)),
    )
noted_or_not (Err e) base now held with_it past noted at done chains times later does is pushed same same_past = (
  subst (λ (l : List Note). Chains base l held) (sym same_past) (subst (λ (l : List ℕ). Chains base past l) (sym same) chains),
  subst (λ (l : List Note). InTime 0 0 l) (sym same_past) times,
)

-- The same bounds at other moments.
least : (m n k : ℕ) → m ≤ k → min m n ≤ k
least m n k le = omega (arith, le)

module _ (lent till : ℕ) (after_lent : lent + 1 < till) where
  abbrev late_note : Note → Note
  late_note n = record { since = min n.since (lent + 1); till = till; done = n.done; after = n.after }

  early_cons : (n : Note) (past : List Note) → n.till ≤ lent → moved lent till (n ∷ past) ≡ n ∷ moved lent till past
  early_cons n past early = ap (λ (x : Note). x ∷ moved lent till past) (moved_early lent till n early)

  late_cons : (n : Note) (past : List Note) → lent < n.till → moved lent till (n ∷ past) ≡ late_note n ∷ moved lent till past
  late_cons n past late = ap (λ (x : Note). x ∷ moved lent till past) (moved_late lent till n late)

  -- The moved calls stand in order.
  in_time_late : (since end : ℕ) (past : List Note) → lent < end → InTime since end past → InTime (min since (lent + 1)) till (moved lent till past)
  in_time_late since end [] late times = tt
  in_time_late since end (n ∷ past) late times =
      let ends : lent < n.till = omega (arith, late, times.1) in
      subst (λ (l : List Note). InTime (min since (lent + 1)) till l) (sym (late_cons n past ends))
      (omega (arith, times.0), omega arith, omega (arith, after_lent), omega (arith, after_lent), in_time_late n.since n.till past ends times.4)

  pub in_time_moved : (since end : ℕ) (past : List Note) → since ≤ end → end ≤ lent → InTime since end past → InTime since end (moved lent till past)
  in_time_moved since end [] order early times = tt
  in_time_moved since end (n ∷ past) order early times = elim (cases_lt lent n.till) [
    | inl late ↦ subst (λ (l : List Note). InTime since end l) (sym (late_cons n past late))
        (omega (arith, times.0, order, early), omega (arith, early, after_lent), omega (arith, order, early, after_lent), omega (arith, after_lent), in_time_late n.since n.till past late times.4)
    | inr before ↦ subst (λ (l : List Note). InTime since end l) (sym (early_cons n past before))
        (times.0, times.1, times.2, times.3, in_time_moved n.since n.till past times.3 before times.4)
  ]

  -- They lead on to the same bytes.
  pub chains_moved : (b : List ℕ) (past : List Note) (now : List ℕ) → Chains b past now → Chains b (moved lent till past) now
  chains_moved b [] now is = is
  chains_moved b (n ∷ past) now chains = elim (cases_lt lent n.till) [
    | inl late ↦ subst (λ (l : List Note). Chains b l now) (sym (late_cons n past late)) (chains.0, chains_moved n.after past now chains.1)
    | inr before ↦ subst (λ (l : List Note). Chains b l now) (sym (early_cons n past before)) (chains.0, chains_moved n.after past now chains.1)
  ]

  pub through_moved : (past : List Note) (b c : List ℕ) → Through (moved lent till past) b c → Through past b c
  through_moved [] b c is = is
  through_moved (n ∷ past) b c through = elim (cases_lt lent n.till) [
    | inl late ↦
        let step = subst (λ (l : List Note). Through l b c) (late_cons n past late) through in
        (step.0, step.1, through_moved past step.0 c step.2)
    | inr before ↦
        let step = subst (λ (l : List Note). Through l b c) (early_cons n past before) through in
        (step.0, step.1, through_moved past step.0 c step.2)
  ]

  pub moved_through : (past : List Note) (b c : List ℕ) → Through past b c → Through (moved lent till past) b c
  moved_through [] b c is = is
  moved_through (n ∷ past) b c through =
      let rest = moved_through past through.0 c through.2 in
      elim (cases_lt lent n.till) [
        | inl late ↦ subst (λ (l : List Note). Through l b c) (sym (late_cons n past late)) (through.0, through.1, rest)
        | inr before ↦ subst (λ (l : List Note). Through l b c) (sym (early_cons n past before)) (through.0, through.1, rest)
      ]

  -- They are done by then.
  pub last_moved : (end : ℕ) (past : List Note) → end ≤ till → last_till end (moved lent till past) ≤ till
  last_moved end [] le = le
  last_moved end (n ∷ past) le = elim (cases_lt lent n.till) [
    | inl late ↦ subst (λ (l : List Note). last_till end l ≤ till) (sym (late_cons n past late)) (last_moved till past (omega arith))
    | inr before ↦ subst (λ (l : List Note). last_till end l ≤ till) (sym (early_cons n past before)) (last_moved n.till past (omega (arith, before, after_lent)))
  ]

  -- Up to the moment of the loan the images are as they were.
  pub reach_kept : (t : ℕ) (past : List Note) (b c : List ℕ) → t ≤ lent → Reach t past b c → Reach t (moved lent till past) b c
  reach_kept t [] b c le is = is
  reach_kept t (n ∷ past) b c le now = elim (cases_lt lent n.till) [
    | inl late ↦ subst (λ (l : List Note). Reach t l b c) (sym (late_cons n past late)) (elim now [
      | inl stays ↦ inl (omega (arith, le, after_lent), stays.1)
      | inr goes ↦ inr (goes.0, omega (arith, goes.1), goes.2, reach_kept t past goes.0 c le goes.3)
    ])
    | inr before ↦ subst (λ (l : List Note). Reach t l b c) (sym (early_cons n past before)) (elim now [
      | inl stays ↦ inl stays
      | inr goes ↦ inr (goes.0, goes.1, goes.2, reach_kept t past goes.0 c le goes.3)
    ])
  ]

  pub kept_reach : (t : ℕ) (past : List Note) (b c : List ℕ) → t ≤ lent → Reach t (moved lent till past) b c → Reach t past b c
  kept_reach t [] b c le is = is
  kept_reach t (n ∷ past) b c le now = elim (cases_lt lent n.till) [
    | inl late ↦ elim (subst (λ (l : List Note). Reach t l b c) (late_cons n past late) now) [
      | inl stays ↦ inl (omega (arith, le, late), stays.1)
      | inr goes ↦ inr (goes.0, omega (arith, goes.1, le), goes.2, kept_reach t past goes.0 c le goes.3)
    ]
    | inr before ↦ elim (subst (λ (l : List Note). Reach t l b c) (early_cons n past before) now) [
      | inl stays ↦ inl stays
      | inr goes ↦ inr (goes.0, goes.1, goes.2, kept_reach t past goes.0 c le goes.3)
    ]
  ]

  -- In the lent time each image of an own moment of it may stand.
  pub own_reach : (s t since end : ℕ) (past : List Note) (b c : List ℕ) → InTime since end past → lent ≤ s → lent < t → t < till → Reach s past b c → Reach t (moved lent till past) b c
  own_reach s t since end [] b c times from later before is = is
  own_reach s t since end (n ∷ past) b c times from later before now = elim (cases_lt lent n.till) [
    | inl late ↦ subst (λ (l : List Note). Reach t l b c) (sym (late_cons n past late)) (elim now [
      | inl stays ↦ inl (before, stays.1)
      | inr goes ↦ inr (goes.0, omega (arith, later), goes.2, own_reach s t n.since n.till past goes.0 c times.4 from later before goes.3)
    ])
    | inr early ↦ subst (λ (l : List Note). Reach t l b c) (sym (early_cons n past early)) (elim now [
      | inl stays ↦ absurd (omega (arith, stays.0, early, from))
      | inr goes ↦ inr (goes.0, omega (arith, times.3, early, later), goes.2, own_reach s t n.since n.till past goes.0 c times.4 from later before goes.3)
    ])
  ]

  -- an own moment of an image in a list of calls, from these on
  abbrev Own : ℕ → ℕ → ℕ → List Note → List ℕ → List ℕ → Type 0
  Own low since last past b c = (u : ℕ) × (low ≤ u) × (since ≤ u) × (u ≤ last) × Reach u past b c

  -- Each image in the lent time stands at an own moment of it.
  own_late : (low last t since end : ℕ) (past : List Note) (b c : List ℕ) → InTime since end past → lent < end → low < end → since ≤ end → last_till end past ≤ last → lent < t → t < till → Reach t (moved lent till past) b c → Own low since last past b c
  own_late low last t since end [] b c times late starts order within later before is = (end, omega arith, order, within, is)
  own_late low last t since end (n ∷ past) b c times late starts order within later before now =
      let ends : lent < n.till = omega (arith, late, times.1) in
      let rises = last_later n.since n.till past times.4 in
      elim (subst (λ (l : List Note). Reach t l b c) (late_cons n past ends) now) [
        | inl stays ↦ (max low since, omega arith, omega arith, omega (arith, times.1, times.2, starts, rises, within), inl (omega (arith, times.1, times.2, starts), stays.1))
        | inr goes ↦
            let rest = own_late low last t n.since n.till past goes.0 c times.4 ends (omega (arith, starts, times.1)) times.3 within later before goes.3 in
            (rest.0, rest.1, omega (arith, times.0, rest.2), rest.3, inr (goes.0, rest.2, goes.2, rest.4))
      ]

  pub own_moment : (last t since end : ℕ) (past : List Note) (b c : List ℕ) → InTime since end past → since ≤ end → end ≤ lent → lent ≤ last → last_till end past ≤ last → lent < t → t < till → Reach t (moved lent till past) b c
      → (u : ℕ) × (lent ≤ u) × (u ≤ last) × Reach u past b c
  own_moment last t since end [] b c times order early fits within later before is = (lent, omega arith, fits, is)
  own_moment last t since end (n ∷ past) b c times order early fits within later before now = elim (cases_lt lent n.till) [
    | inl late ↦ elim (subst (λ (l : List Note). Reach t l b c) (late_cons n past late) now) [
      | inl stays ↦ (lent, omega arith, fits, inl (late, stays.1))
      | inr goes ↦
          let rest = own_late lent last t n.since n.till past goes.0 c times.4 late late times.3 within later before goes.3 in
          (rest.0, rest.1, rest.3, inr (goes.0, rest.2, goes.2, rest.4))
    ]
    | inr soon ↦ elim (subst (λ (l : List Note). Reach t l b c) (early_cons n past soon) now) [
      | inl stays ↦ absurd (omega (arith, stays.0, soon, later))
      | inr goes ↦
          let rest = own_moment last t n.since n.till past goes.0 c times.4 times.3 soon fits within later before goes.3 in
          (rest.0, rest.1, rest.2, inr (goes.0, omega (arith, times.3, soon, rest.1), goes.2, rest.3))
    ]
  ]

-- What is moved of the record is what is moved of its notes.
pub notes_moved : (lent till : ℕ) (log : List PastCall) → map note_of (map (moved_entry lent till) log) ≡ moved lent till (map note_of log)
notes_moved lent till [] = refl
notes_moved lent till (e ∷ log) = elim (cases_lt lent e.till) [
  | inl late ↦
      let is : nat_le e.till lent ≡ false = grind (arith, nat_tests) in
      rw is (ap (λ (l : List Note). record { since = min e.since (lent + 1); till = till; done = e.done; after = e.after.value.bytes.items } ∷ l) (notes_moved lent till log))
  | inr early ↦
      let is : nat_le e.till lent ≡ true = grind (arith, nat_tests) in
      rw is (ap (λ (l : List Note). note_of e ∷ l) (notes_moved lent till log))
]
