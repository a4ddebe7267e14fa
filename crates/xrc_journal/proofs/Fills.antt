-- What a buffer holds once bytes were read into its front.
use Rattle.std.proofs.Common.{◌≡◌, ℕ, ◌+◌, ◌-◌, ◌<◌, ◌≤◌, true, false, cond, nat_eq, List, [], ◌++◌, length, take, slice_set, Some, None, refl, sym, ap, ◌∙◌, arith, length-append}
use Rattle.std.proofs.lemmas.List.{take-set, get_or-set_same, length-set, take-take, take_at}
use Rattle.xrc_journal.specs.Items.{Form, none_earlier, are_items_after, anywhere, body_spelling}
use Rattle.xrc_journal.specs.Reading.{items_from, items_at}
use Rattle.xrc_journal.specs.Bodies.{items_of, held_in, HoldsItems, GoodFront}
use Rattle.xrc_journal.proofs.Fronts.{are_anywhere}

-- bytes that were read, the rest of the buffer, and a gate that was closed after the good items
module _ (form : Form) (no_deltas : form.deltas ≡ false) (bytes rest given : List ℕ) (n count : ℕ) (size : length bytes ≡ count) (some : 1 ≤ length rest) (is : given ≡ take count (bytes ++ rest)) (front : GoodFront form given n) where
  given_is : given ≡ bytes
  given_is = is ∙ take_at bytes rest count size

  n_le : n ≤ length bytes
  n_le = omega (arith, front.within, ap length given_is)

  full_long : n < length (bytes ++ rest)
  full_long = omega (arith, n_le, some, length-append bytes rest)

  same : take n (slice_set (bytes ++ rest) n 0) ≡ take n given
  same = take-set (bytes ++ rest) n 0 ∙ sym (take-take n count (bytes ++ rest) (omega (arith, n_le, size))) ∙ ap (λ (l : List ℕ). take n l) (sym is)

  pub fill_holds : HoldsItems n (slice_set (bytes ++ rest) n 0)
  fill_holds = record {
    within = omega (arith, full_long, length-set (bytes ++ rest) n 0);
    shut = get_or-set_same (bytes ++ rest) n 0 0 full_long;
    keep = ap (λ (l : List ℕ). are_items_after anywhere none_earlier (items_of l)) same ∙ are_anywhere form none_earlier (items_of (take n given)) no_deltas front.keep;
    spelled = same ∙ front.spelled ∙ ap (λ (l : List ℕ). body_spelling (items_of l)) (sym same);
  }

  pub fill_keeps : are_items_after form none_earlier (items_of (take n (slice_set (bytes ++ rest) n 0))) ≡ true
  fill_keeps = ap (λ (l : List ℕ). are_items_after form none_earlier (items_of l)) same ∙ front.keep

  pub fill_items : (place : ℕ) → items_at form place bytes ≡ record { good = items_of (take n (slice_set (bytes ++ rest) n 0)); bad = cond (nat_eq n count) None (Some (place + n)) }
  fill_items place =
      ap (λ (l : List ℕ). items_at form place l) (sym given_is) ∙ front.read place
      ∙ (let len : length given ≡ count = ap length given_is ∙ size in λ i. record { good = items_of (sym same i); bad = cond (nat_eq n (len i)) None (Some (place + n)) })

-- a buffer whose first byte is a closed gate
pub shut_first : (buffer : List ℕ) → 1 ≤ length buffer → HoldsItems 0 (slice_set buffer 0 0)
unfolding items_from
shut_first buffer some = record {
  within = omega (arith, some, length-set buffer 0 0);
  shut = get_or-set_same buffer 0 0 0 (omega (arith, some));
  keep = refl;
  spelled = refl;
}

-- What it holds is nothing.
pub none_held : (buffer : List ℕ) → held_in 0 buffer ≡ record { items = []; room = length buffer - 1 }
unfolding items_from
none_held buffer = refl

pub none_keeps : (form : Form) → are_items_after form none_earlier (items_of []) ≡ true
unfolding items_from
none_keeps form = refl
