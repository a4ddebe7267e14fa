-- What a crash leaves of a disk, from the record of the calls on it.
use Rattle.std.specs.Prelude.{◌≡◌, ◌⊎◌, ◌+◌, ◌≤◌, ◌<◌, ℕ, cond, nat_le, min, List, [], ◌∷◌, length, take, drop, map, ⊤}
use Rattle.std.specs.Coded.{Unit-prop, le_prop, Coded-set, coded_list, coded_ℕ}
use Rattle.crash_plant.specs.declared.entry.Done.{Done}
use Rattle.crash_plant.specs.declared.entry.Done.TheVariants.{Write, Sync}
use Rattle.crash_plant.specs.declared.entry.PastCall.{PastCall}
use Rattle.crash_plant.specs.Bytes.{Torn}

-- a call, and what the disk held then
pub record Note : Type 0 where
  pub since : ℕ
  pub till : ℕ
  pub done : Done
  pub after : List ℕ

abbrev pub note_of : PastCall → Note
note_of entry = record { since = entry.since; till = entry.till; done = entry.done; after = entry.after.value.bytes.items }

-- A call takes an image to an image: a write leaves any bytes in its range, and a sync what the disk held.
abbrev pub Step : Done → List ℕ → List ℕ → List ℕ → Type 0
Step (Write place count) after b c = Torn place count b c
Step Sync after b c = c ≡ after

-- An image at a moment. A call isn't done, and none after it, where its end is later; it is done where its beginning isn't
-- later. Between the two it may be done or not.
abbrev pub Reach : ℕ → List Note → List ℕ → List ℕ → Type 0
Reach t [] b c = c ≡ b
Reach t (n ∷ past) b c = ((t < n.till) × (c ≡ b)) ⊎ ((m : List ℕ) × (n.since ≤ t) × Step n.done n.after b m × Reach t past m c)

-- an image once all calls are done
abbrev pub Through : List Note → List ℕ → List ℕ → Type 0
Through [] b c = c ≡ b
Through (n ∷ past) b c = (m : List ℕ) × Step n.done n.after b m × Through past m c

-- A call takes what the disk held to what it held then.
abbrev pub Does : Done → List ℕ → List ℕ → Type 0
Does (Write place count) b a = (place + count ≤ length b) × (take place a ≡ take place b) × (drop (place + count) a ≡ drop (place + count) b) × (length a ≡ length b)
Does Sync b a = a ≡ b

-- A call keeps within a length.
abbrev pub Fits : ℕ → Done → Type 0
Fits size (Write place count) = place + count ≤ size
Fits size Sync = ⊤

abbrev pub AllFit : ℕ → List Note → Type 0
AllFit size [] = ⊤
AllFit size (n ∷ past) = Fits size n.done × AllFit size past

-- From what the disk held first, each call leads on to the next, and the last to what the disk holds.
abbrev pub Chains : List ℕ → List Note → List ℕ → Type 0
Chains b [] now = now ≡ b
Chains b (n ∷ past) now = Does n.done b n.after × Chains n.after past now

-- Calls stand in the order of their moments, after a call of these.
abbrev pub InTime : ℕ → ℕ → List Note → Type 0
InTime since till [] = ⊤
InTime since till (n ∷ past) = (since ≤ n.since) × (till ≤ n.till) × (since < n.till) × (n.since ≤ n.till) × InTime n.since n.till past

-- the moment at which the last call was done
abbrev pub last_till : ℕ → List Note → ℕ
last_till till [] = till
last_till till (n ∷ past) = last_till n.till past

-- A call of a lent time, which the plant counts from a moment on and up to another: it was done at any moment between.
abbrev pub moved_one : ℕ → ℕ → Note → Note
moved_one lent till n = cond (nat_le n.till lent) n (record { since = min n.since (lent + 1); till = till; done = n.done; after = n.after })

abbrev pub moved_entry : ℕ → ℕ → PastCall → PastCall
moved_entry lent till entry = cond (nat_le entry.till lent) entry (record { since = min entry.since (lent + 1); till = till; done = entry.done; after = entry.after })

abbrev pub moved : ℕ → ℕ → List Note → List Note
moved lent till past = map (moved_one lent till) past

-- Each of these facts has one proof at most.
same_prop : (b c : List ℕ) → IsProp (b ≡ c)
same_prop b c = Coded-set (coded_list coded_ℕ) b c

number_prop : (m n : ℕ) → IsProp (m ≡ n)
number_prop m n = Coded-set coded_ℕ m n

order_prop : (m n : ℕ) → IsProp (m ≤ n)
order_prop m n = le_prop

before_prop : (m n : ℕ) → IsProp (m < n)
before_prop m n = le_prop

Does-prop : (done : Done) (b a : List ℕ) → IsProp (Does done b a)
Does-prop (Write place count) b a x y = λ i. (
  order_prop (place + count) (length b) x.0 y.0 i,
  same_prop (take place a) (take place b) x.1 y.1 i,
  same_prop (drop (place + count) a) (drop (place + count) b) x.2 y.2 i,
  number_prop (length a) (length b) x.3 y.3 i,
)
Does-prop Sync b a x y = same_prop a b x y

pub Chains-prop : (b : List ℕ) (past : List Note) (now : List ℕ) → IsProp (Chains b past now)
Chains-prop b [] now x y = same_prop now b x y
Chains-prop b (n ∷ past) now x y = λ i. (Does-prop n.done b n.after x.0 y.0 i, Chains-prop n.after past now x.1 y.1 i)

pub InTime-prop : (since till : ℕ) (past : List Note) → IsProp (InTime since till past)
InTime-prop since till [] x y = Unit-prop x y
InTime-prop since till (n ∷ past) x y = λ i. (
  order_prop since n.since x.0 y.0 i,
  order_prop till n.till x.1 y.1 i,
  before_prop since n.till x.2 y.2 i,
  order_prop n.since n.till x.3 y.3 i,
  InTime-prop n.since n.till past x.4 y.4 i,
)
