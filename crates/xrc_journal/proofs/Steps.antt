-- Fields that are read at a place in bytes that are long enough, or not.
use Rattle.std.proofs.Common.{◌≡◌, ℕ, ◌+◌, ◌<◌, ◌≤◌, Bool, true, false, cond, nat_lt, List, length, take, drop, slice_index, Ok, Err, refl, ap, subst, ◌∙◌, arith, length-drop, get_or-take}
use Rattle.std.specs.Int.{Width, w8, byte_len, from_be_bytes}
use Rattle.std.proofs.lemmas.Bool.{le-ltb, lt-ltb}
use Rattle.std.proofs.lemmas.List.{drop-drop, get_or-drop}
use Rattle.tod_stamp.specs.Fields.{Left, after, bytes_at, number_at}
use Rattle.tod_stamp.specs.Fields.Bad.{Cut, Broken}
use Rattle.tod_stamp.proofs.FieldLaws.{allow_ok, at_place, guard_ok}

pub number_step : (w : Width) (rule : ℕ → Bool) (p k : ℕ) (bytes : List ℕ) → k + byte_len w ≤ length bytes
    → number_at w rule (at_place p (drop k bytes))
    ≡ cond (rule (from_be_bytes w (take (byte_len w) (drop k bytes)))) (Ok (from_be_bytes w (take (byte_len w) (drop k bytes)), at_place (p + byte_len w) (drop (k + byte_len w) bytes))) (Err (Broken p))
unfolding number_at
number_step w rule p k bytes long =
    let enough : nat_lt (length (drop k bytes)) (byte_len w) ≡ false = le-ltb _ _ (omega (arith, long, length-drop k bytes)) in
    rw (enough, drop-drop (byte_len w) k bytes) refl

pub number_cut : (w : Width) (rule : ℕ → Bool) (p : ℕ) (bytes : List ℕ) → length bytes < byte_len w → number_at w rule (at_place p bytes) ≡ Err (Cut p)
unfolding number_at
number_cut w rule p bytes short = rw (lt-ltb (length bytes) (byte_len w) short) refl

pub bytes_cut : (n : ℕ) (rule : List ℕ → Bool) (p : ℕ) (bytes : List ℕ) → length bytes < n → bytes_at n rule (at_place p bytes) ≡ Err (Cut p)
unfolding bytes_at
bytes_cut n rule p bytes short = rw (lt-ltb (length bytes) n short) refl

pub byte_step : (rule : ℕ → Bool) (p k : ℕ) (bytes : List ℕ) → k + 1 ≤ length bytes
    → number_at w8 rule (at_place p (drop k bytes)) ≡ cond (rule (slice_index bytes k)) (Ok (slice_index bytes k, at_place (p + 1) (drop (k + 1) bytes))) (Err (Broken p))
byte_step rule p k bytes long = number_step w8 rule p k bytes long ∙ ap (λ (n : ℕ). cond (rule n) (Ok (n, at_place (p + 1) (drop (k + 1) bytes))) (Err (Broken p))) (one_byte k bytes)
  where
    one_byte : (k : ℕ) (bytes : List ℕ) → from_be_bytes w8 (take 1 (drop k bytes)) ≡ slice_index bytes k
    one_byte k bytes = get_or-take 1 (drop k bytes) 0 0 (omega arith) ∙ get_or-drop k bytes 0 0 ∙ ap (λ (i : ℕ). slice_index bytes i) (omega arith)

-- a number that was read keeps its rule
pub number_kept : (w : Width) (rule : ℕ → Bool) (left : Left) (n : ℕ) (next : Left) → number_at w rule left ≡ Ok (n, next) → rule n ≡ true
unfolding number_at
number_kept w rule left n next e =
    let value = from_be_bytes w (take (byte_len w) left.bytes) in
    let long = guard_ok (nat_lt (length left.bytes) (byte_len w)) (Cut left.place) (cond (rule value) (Ok (value, after (byte_len w) left)) (Err (Broken left.place))) (n, next) e in
    let kept = allow_ok (rule value) (Broken left.place) (value, after (byte_len w) left) (n, next) long.1 in
    subst (λ (k : ℕ). rule k ≡ true) (ap (λ (p : ℕ × Left). p.0) kept.1) kept.0
