-- The items of a body gone over one after another.
use Rattle.std.proofs.Common.{◌≡◌, ℕ, ◌+◌, ◌-◌, ◌≤◌, true, List, [], ◌∷◌, ◌++◌, length, take, drop, Option, Some, None, refl, sym, ap, subst, ◌∙◌, arith, append_assoc, append-nil, length-append, length-drop}
use Rattle.std.specs.Prelude.{slice_range}
use Rattle.std.proofs.Math.Seq.{take-append_seam}
use Rattle.std.proofs.lemmas.Bool.{and_parts}
use Rattle.std.proofs.lemmas.Option.{same_Some}
use Rattle.std.proofs.lemmas.List.{take_all, drop_at, drop-drop}
use Rattle.xrc_journal.specs.declared.reading.BodyItem.{BodyItem}
use Rattle.xrc_journal.specs.Items.{Item, Earlier, none_earlier, anywhere, earlier_after, is_item, are_items_after, item_spelling, body_spelling}
use Rattle.xrc_journal.specs.Views.{told, first_told}
use Rattle.xrc_journal.proofs.ItemsAgain.{some_bytes}
use Rattle.xrc_journal.specs.Contents.{HasItem}
use Rattle.applier.specs.Writes.{IsItemTold}
use Rattle.applier.proofs.InSlots.{has_after, has_first}

-- how far the items of a body were gone over
pub record Reading (items : List Item) (bytes : List ℕ) (at : ℕ) : Type 0 where
  pub done : List Item
  pub todo : List Item
  pub earlier : Earlier
  pub whole : items ≡ done ++ todo
  pub within : at ≤ length bytes
  pub rest : drop at bytes ≡ body_spelling todo
  pub keep : are_items_after anywhere earlier todo ≡ true

abbrev pub reading_start : (items : List Item) (bytes : List ℕ) → are_items_after anywhere none_earlier items ≡ true → bytes ≡ body_spelling items → Reading items bytes 0
reading_start items bytes keep spelled = record { done = []; todo = items; earlier = none_earlier; whole = refl; within = omega arith; rest = spelled; keep = keep }

module _ (items : List Item) (bytes : List ℕ) (at : ℕ) (r : Reading items bytes at) where
  pub rest_are : take (length bytes - at) (drop at bytes) ≡ body_spelling r.todo
  rest_are = take_all (length bytes - at) (drop at bytes) (omega (arith, length-drop at bytes)) ∙ r.rest

  -- the item that is read next
  pub record Next (item : BodyItem) (size : ℕ) : Type 0 where
    pub i : Item
    pub more : List Item
    pub parts : items ≡ r.done ++ i ∷ more
    pub is : is_item anywhere r.earlier i ≡ true
    pub told_is : item ≡ told i
    pub spelled : slice_range bytes at (at + size) ≡ item_spelling i
    pub some : 1 ≤ size
    pub long : at + size ≤ length bytes
    pub rest_is : drop (at + size) bytes ≡ body_spelling more
    pub others : are_items_after anywhere (earlier_after i r.earlier) more ≡ true

  next_by : (todo : List Item) (item : BodyItem) (size : ℕ) → r.todo ≡ todo → (let a : Option (BodyItem × ℕ) = Some (item, size) in a ≡ first_told todo) → Next item size
  next_by [] item size is e = absurd cc
  next_by (i ∷ more) item size is e =
      let parts = and_parts (is_item anywhere r.earlier i) (are_items_after anywhere (earlier_after i r.earlier) more) (subst (λ (l : List Item). are_items_after anywhere r.earlier l ≡ true) is r.keep) in
      let pair = same_Some (item, size) (told i, length (item_spelling i)) e in
      let same : (item ≡ told i) × (size ≡ length (item_spelling i)) = (ap (λ (p : BodyItem × ℕ). p.0) pair, ap (λ (p : BodyItem × ℕ). p.1) pair) in
      let within : (at + size) - at ≡ size = omega arith in
      let spelled : drop at bytes ≡ item_spelling i ++ body_spelling more = r.rest ∙ ap (λ (l : List Item). body_spelling l) is in
      record {
        i = i;
        more = more;
        parts = r.whole ∙ ap (λ (l : List Item). r.done ++ l) is;
        is = parts.0;
        told_is = same.0;
        spelled = ap (λ (n : ℕ). take n (drop at bytes)) (within ∙ same.1) ∙ ap (λ (l : List ℕ). take (length (item_spelling i)) l) spelled ∙ take-append_seam (item_spelling i) (body_spelling more);
        some = omega (arith, same.1, some_bytes i);
        long = omega (arith, same.1, ap length spelled, length-append (item_spelling i) (body_spelling more), length-drop at bytes, r.within);
        rest_is = sym (drop-drop size at bytes) ∙ ap (λ (l : List ℕ). drop size l) spelled ∙ drop_at (item_spelling i) (body_spelling more) size (sym same.1);
        others = parts.1;
      }

  pub next_of : (item : BodyItem) (size : ℕ) → (let a : Option (BodyItem × ℕ) = Some (item, size) in a ≡ first_told r.todo) → Next item size
  next_of item size e = next_by r.todo item size refl e

  abbrev pub read_more : (item : BodyItem) (size : ℕ) → Next item size → Reading items bytes (at + size)
  read_more item size n = record {
    done = r.done ++ n.i ∷ [];
    todo = n.more;
    earlier = earlier_after n.i r.earlier;
    whole = n.parts ∙ sym (append_assoc r.done (n.i ∷ []) n.more);
    within = n.long;
    rest = n.rest_is;
    keep = n.others;
  }

  -- the item as its bytes tell it
  pub next_told : (item : BodyItem) (size : ℕ) (n : Next item size) → IsItemTold item (slice_range bytes at (at + size)) n.i
  next_told item size n = record { earlier = r.earlier; keeps = n.is; told_is = n.told_is; spelled = n.spelled }

  -- It is one of the items.
  pub next_has : (item : BodyItem) (size : ℕ) (n : Next item size) (device x : ℕ) → HasItem device x (n.i ∷ []) → HasItem device x items
  next_has item size n device x has = subst (λ (l : List Item). HasItem device x l) (sym n.parts) (has_after device x r.done (n.i ∷ n.more) (has_first device x n.i n.more has))

  -- all were read
  none_by : (todo : List Item) → (let a : Option (BodyItem × ℕ) = None in a ≡ first_told todo) → todo ≡ []
  none_by [] e = refl
  none_by (i ∷ more) e = absurd cc

  pub all_read : (let a : Option (BodyItem × ℕ) = None in a ≡ first_told r.todo) → items ≡ r.done
  all_read e = r.whole ∙ ap (λ (l : List Item). r.done ++ l) (none_by r.todo e) ∙ append-nil r.done
