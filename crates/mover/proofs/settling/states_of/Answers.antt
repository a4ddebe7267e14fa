use Rattle.std.proofs.Common.{◌≡◌, inl, inr, ◌<◌, ◌≤◌, ℕ, Option, Some, None, get_or, set, length, sym, ap, ◌∙◌, arith}
use Rattle.std.specs.Prelude.{slice_get}
use Rattle.image_former.proofs.Lists.{item_there}
use Rattle.std.proofs.lemmas.Bool.{cases_eq}
use Rattle.std.proofs.lemmas.List.{get_or-set_same, get_or-set_other, length-replicate, length-set}
use Rattle.std.proofs.lemmas.Option.{same_Some, slice_get_within}
use Rattle.pair_table.specs.declared.row.PairRow.{PairRow}
use Rattle.pair_table.specs.declared.row.PairState.{PairState}
use Rattle.mover.proofs.settling.states_of.Goals as goal

pub loop-place-init : goal.loop-place-init
loop-place-init c = let none : Option PairState = None in record { long = length-replicate 64 none; are = λ i r lt at. absurd (omega (arith, lt)) }

pub loop-place-preserved : goal.loop-place-preserved
loop-place-preserved c =
    let rows = c.args.table.now.rows in
    let row = c.row-item.result in
    let i = c.loop-place.place in
    let states = c.loop-place.states in
    let inv = c.loop-place.invariant in
    let there : slice_get rows i ≡ Some row = item_there c.rows-row-items.result.now rows i row c.rows-row-items.ensures.rows c.loop-place-test.true c.row-item.is in
    let few : length rows ≤ 64 = c.rows-row-items.ensures.sound.few in
    let within : i < length rows = slice_get_within rows i row there in
    let low : i < length states = omega (arith, within, few, inv.long) in
    let state = λ (x : PairRow). let s : Option PairState = Some x.state in s in
    record {
      long = length-set states i (Some row.state) ∙ inv.long;
      are = λ j r lt at. elim (cases_eq j i) [
        | inl e ↦ ap (λ (n : ℕ). get_or (set states i (Some row.state)) n None) e ∙ get_or-set_same states i (Some row.state) None low ∙ ap state (same_Some row r (sym there ∙ ap (slice_get rows) (sym e) ∙ at))
        | inr n ↦ get_or-set_other states i j (Some row.state) None n ∙ inv.are j r (omega (arith, lt, n)) at
      ];
    }

pub returns-clause-states : goal.returns-clause-states
returns-clause-states c place r at =
    let within = slice_get_within c.args.table.now.rows place r at in
    c.loop-place.invariant.are place r (omega (arith, within, ap length c.rows-row-items.ensures.rows, c.loop-place-test.false)) at
