-- What a write leaves elsewhere.
use Rattle.std.proofs.Common.{◌≡◌, ◌≤◌, ℕ, ◌+◌, ◌-◌, ◌/◌, List, ◌++◌, length, take, drop, replicate, refl, sym, ◌∙◌, ap, subst, arith, append_assoc, length-append, length-take, length-drop}
use Rattle.std.proofs.lemmas.List.{take_at, drop_at, take-take, drop-drop, length-replicate}
use Rattle.crash_plant.specs.Bytes.{patched, resized, Torn}

-- A write tears no more than its range.
pub patched_torn : (place : ℕ) (bytes old new : List ℕ) → place + length bytes ≤ length old → new ≡ patched place bytes old → Torn place (length bytes) old new
patched_torn place bytes old new fits is = record {
  before = ap (λ (l : List ℕ). take place l) (is ∙ append_assoc (take place old) bytes (drop (place + length bytes) old)) ∙ take_at (take place old) (bytes ++ drop (place + length bytes) old) place front;
  after = ap (λ (l : List ℕ). drop (place + length bytes) l) is ∙ drop_at (take place old ++ bytes) (drop (place + length bytes) old) (place + length bytes) middle;
  size = omega (arith, ap length is, length-append (take place old ++ bytes) (drop (place + length bytes) old), length-drop (place + length bytes) old, middle);
}
  where
    front : length (take place old) ≡ place
    front = omega (arith, length-take place old)

    middle : length (take place old ++ bytes) ≡ place + length bytes
    middle = omega (arith, front, length-append (take place old) bytes)

-- two writes, one after the other
pub torn_twice : (p m n : ℕ) (a b c : List ℕ) → Torn p m a b → Torn (p + m) n b c → Torn p (m + n) a c
torn_twice p m n a b c x y = record {
  before = sym (take-take p (p + m) c (omega arith)) ∙ ap (λ (l : List ℕ). take p l) y.before ∙ take-take p (p + m) b (omega arith) ∙ x.before;
  after = ap (λ (k : ℕ). drop k c) regroup ∙ y.after ∙ sym (drop-drop n (p + m) b) ∙ ap (λ (l : List ℕ). drop n l) x.after ∙ drop-drop n (p + m) a ∙ ap (λ (k : ℕ). drop k a) (sym regroup);
  size = y.size ∙ x.size;
}
  where
    regroup : p + (m + n) ≡ p + m + n
    regroup = omega arith

-- a write of no more bytes at the same place
pub torn_more : (p m n : ℕ) (a b : List ℕ) → Torn p m a b → Torn p (m + n) a b
torn_more p m n a b x = torn_twice p m n a b b x (record { before = refl; after = refl; size = refl })

-- Two writes, one after the other, are one write of both.
pub patched_twice : (p : ℕ) (f b old : List ℕ) → p + length f + length b ≤ length old → patched (p + length f) b (patched p f old) ≡ patched p (f ++ b) old
patched_twice p f b old fits = ap (λ (l : List ℕ). l ++ b ++ drop (p + length f + length b) (patched p f old)) front ∙ ap (λ (l : List ℕ). take p old ++ f ++ b ++ l) back ∙ ap (λ (l : List ℕ). l ++ drop (p + length (f ++ b)) old) (append_assoc (take p old) f b)
  where
    size : length (take p old ++ f) ≡ p + length f
    size = omega (arith, length-append (take p old) f, length-take p old)

    front : take (p + length f) (patched p f old) ≡ take p old ++ f
    front = take_at (take p old ++ f) (drop (p + length f) old) (p + length f) size

    back : drop (p + length f + length b) (patched p f old) ≡ drop (p + length (f ++ b)) old
    back = sym (drop-drop (length b) (p + length f) (patched p f old)) ∙ ap (λ (l : List ℕ). drop (length b) l) (drop_at (take p old ++ f) (drop (p + length f) old) (p + length f) size) ∙ drop-drop (length b) (p + length f) old
        ∙ ap (λ (k : ℕ). drop k old) (omega (arith, length-append f b))

-- A write of the front half of the bytes tears no more than the range of all.
pub torn_front : (place : ℕ) (bytes front old new : List ℕ) → front ≡ take (length bytes / 2) bytes → Torn place (length front) old new → Torn place (length bytes) old new
torn_front place bytes front old new is torn = subst (λ (n : ℕ). Torn place n old new) (omega (arith, size)) (torn_more place (length front) (length bytes - length front) old new torn)
  where
    size : length front ≤ length bytes
    size = omega (arith, ap length is, length-take (length bytes / 2) bytes)

-- A device that was cut or filled has the length asked for.
pub length-resized : (n : ℕ) (old : List ℕ) → length (resized n old) ≡ n
length-resized n old = omega (arith, length-append (take n old) (replicate (n - length old) 0), length-take n old, length-replicate {A = ℕ} (n - length old) 0)
