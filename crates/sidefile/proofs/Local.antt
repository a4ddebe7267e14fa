-- A reader takes a text from the front, and looks no further: after the same text it reads the same, whatever follows.
use Rattle.std.proofs.Common.{◌≡◌, ℕ, ◌+◌, ◌≤◌, Bool, true, false, cond, nat_lt, List, [], ◌++◌, length, take, Result, Ok, Err, refl, sym, ap, subst, ◌∙◌, append_assoc, arith, length-append, length-take}
use Rattle.std.specs.Int.{Width, byte_len, from_be_bytes}
use Rattle.std.proofs.lemmas.Bool.{le-ltb, ltb-false}
use Rattle.std.proofs.lemmas.List.{take_at, drop_at, take-append-drop}
use Rattle.tod_stamp.specs.Fields.{◌>>=◌, Left, Bad, after, bytes_at, number_at}
use Rattle.tod_stamp.specs.Fields.Bad.{Cut, Broken}
use Rattle.tod_stamp.proofs.FieldLaws.{bind_ok, guard_ok, allow_ok}

abbrev pub at : (place : ℕ) → List ℕ → Left
at place bytes = record { place = place; bytes = bytes }

-- what was taken
pub record Taken {A : Type 0} (f : Left → Result (A × Left) Bad) (left : Left) (x : A × Left) : Type 0 where
  pub text : List ℕ
  pub parts : left.bytes ≡ text ++ x.1.bytes
  pub place : x.1.place ≡ left.place + length text
  pub again : (more : List ℕ) → f (at left.place (text ++ more)) ≡ Ok (x.0, at (left.place + length text) more)

abbrev pub IsLocal : {A : Type 0} → (Left → Result (A × Left) Bad) → Type 0
IsLocal f = (left : Left) (x : _) → f left ≡ Ok x → Taken f left x

-- the value that a reader gave
pub given_is : {A E : Type 0} (a b : A) → (let x : Result A E = Ok a in let y : Result A E = Ok b in x ≡ y) → a ≡ b
given_is a b e = cc

pub local_number : (w : Width) (rule : ℕ → Bool) → IsLocal (number_at w rule)
unfolding number_at
local_number w rule left x e =
    let n = byte_len w in
    let found = from_be_bytes w (take n left.bytes) in
    let one = guard_ok (nat_lt (length left.bytes) n) (Cut left.place) (cond (rule found) (Ok (found, after n left)) (Err (Broken left.place))) x e in
    let two = allow_ok (rule found) (Broken left.place) (found, after n left) x one.1 in
    let le : n ≤ length left.bytes = ltb-false (length left.bytes) n one.0 in
    let len : length (take n left.bytes) ≡ n = omega (arith, length-take n left.bytes) in
    subst (λ (p : ℕ × Left). Taken (number_at w rule) left p) two.1 (record {
      text = take n left.bytes;
      parts = sym (take-append-drop n left.bytes);
      place = ap (λ k. left.place + k) (sym len);
      again = λ more.
          let long : nat_lt (length (take n left.bytes ++ more)) n ≡ false = le-ltb _ _ (omega (arith, len, length-append (take n left.bytes) more)) in
          rw (long, take_at (take n left.bytes) more n len, two.0, drop_at (take n left.bytes) more n len, len) refl;
    })

pub local_bytes : (n : ℕ) (rule : List ℕ → Bool) → IsLocal (bytes_at n rule)
unfolding bytes_at
local_bytes n rule left x e =
    let one = guard_ok (nat_lt (length left.bytes) n) (Cut left.place) (cond (rule (take n left.bytes)) (Ok (take n left.bytes, after n left)) (Err (Broken left.place))) x e in
    let two = allow_ok (rule (take n left.bytes)) (Broken left.place) (take n left.bytes, after n left) x one.1 in
    let le : n ≤ length left.bytes = ltb-false (length left.bytes) n one.0 in
    let len : length (take n left.bytes) ≡ n = omega (arith, length-take n left.bytes) in
    subst (λ (p : List ℕ × Left). Taken (bytes_at n rule) left p) two.1 (record {
      text = take n left.bytes;
      parts = sym (take-append-drop n left.bytes);
      place = ap (λ k. left.place + k) (sym len);
      again = λ more.
          let long : nat_lt (length (take n left.bytes ++ more)) n ≡ false = le-ltb _ _ (omega (arith, len, length-append (take n left.bytes) more)) in
          rw (long, take_at (take n left.bytes) more n len, two.0, drop_at (take n left.bytes) more n len, len) refl;
    })

pub local_done : {A : Type 0} (a : A) → IsLocal (λ left. Ok (a, left))
local_done a left x e = subst (λ (p : _ × Left). Taken (λ left. Ok (a, left)) left p) (given_is (a, left) x e) (record {
  text = [];
  parts = refl;
  place = omega arith;
  again = λ more. ap (λ n. Ok (a, at n more)) (omega arith);
})

pub local_then : {A B : Type 0} (f : Left → Result (A × Left) Bad) (g : A × Left → Result (B × Left) Bad) → IsLocal f → ((x : A) → IsLocal (λ left. g (x, left))) → IsLocal (λ left. f left >>= g)
local_then f g one two left x e =
    let b = bind_ok (f left) g x e in
    let p = one left b.0 b.1 in
    let q = two b.0.0 b.0.1 x b.2 in
    record {
      text = p.text ++ q.text;
      parts = p.parts ∙ ap (λ (t : List ℕ). p.text ++ t) q.parts ∙ sym (append_assoc p.text q.text x.1.bytes);
      place = omega (arith, p.place, q.place, length-append p.text q.text);
      again = λ more.
          ap (λ (t : List ℕ). f (at left.place t) >>= g) (append_assoc p.text q.text more)
          ∙ ap (λ (r : Result (_ × Left) Bad). r >>= g) (p.again (q.text ++ more))
          ∙ ap (λ n. g (b.0.0, at n (q.text ++ more))) (sym p.place)
          ∙ q.again more
          ∙ ap (λ n. Ok (x.0, at n more)) (omega (arith, p.place, length-append p.text q.text));
    }

pub local_choice : {A : Type 0} (b : Bool) (f g : Left → Result (A × Left) Bad) → IsLocal f → IsLocal g → IsLocal (λ left. cond b (f left) (g left))
local_choice true f g one two = one
local_choice false f g one two = two
