use Rattle.std.proofs.Common.{◌≡◌, ℕ, ◌≤◌, List, false, None, ap, sym, subst, ◌∙◌}
use Rattle.std.specs.Prelude.{IfSome}
use Rattle.change_map.specs.Sets.{least_from}
use Rattle.change_map.specs.Words.{has_bit, IsNextBit}
use Rattle.change_map.proofs.InSets.{least_none, least_is_none, some_least}
use Rattle.change_map.proofs.Bits.{next_is_least}
use Rattle.change_map.proofs.map.ChangeMap.next_from.Goals as goal

least : (c : goal.After-next_bit) → c.next_bit.result ≡ least_from c.args.self.now c.args.x
least c =
    let next = c.next_bit.result in
    let x = c.args.x in
    let items = c.self.inside.words.items in
    let given = c.as_slice.ensures.value in
    let none : next ≡ None → (y : ℕ) → x ≤ y → has_bit items y ≡ false =
    subst (λ (ws : List ℕ). next ≡ None → (y : ℕ) → x ≤ y → has_bit ws y ≡ false) given c.next_bit.ensures.none in
    let some : IfSome next (IsNextBit items x) = subst (λ (ws : List ℕ). IfSome next (IsNextBit ws x)) given c.next_bit.ensures.some in
    next_is_least c.self.inside.tracks items x next c.self.invariant none some ∙ ap (λ tracks. least_from tracks x) c.self.view_is

pub returns : goal.returns
returns c = record {
  least = least c;
  some = some_least c.args.self.now c.args.x c.next_bit.result (least c);
  none = (λ nowhere. least_is_none c.args.self.now c.args.x (sym (least c) ∙ nowhere), λ none. least c ∙ least_none c.args.self.now c.args.x none);
}
