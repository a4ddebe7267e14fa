use Rattle.std.proofs.Common.{arith, ◌≡◌, ◌<◌, ◌∙◌, ◌++◌, ◌∷◌, [], ℕ, List, Bool, not, length, vec_len, vec_capacity, take, Some, sym, ap, take_all}
use Rattle.std.specs.Prelude.{filter, slice_get}
use Rattle.std.specs.Option.{option_copied}
use Rattle.pair_table.specs.declared.row.PairRow.{PairRow}
use Rattle.pair_table.specs.Devices.{is_among}
use Rattle.xrecover.specs.Pairs.{duplex_devices}
use Rattle.xrecover.proofs.Rows.{some_there}
use Rattle.third_copy.proofs.Rows.{devices_dropped, devices_kept, devices_other}
use Rattle.third_copy.proofs.pairs.others_of.Goals as goal
use Rattle.third_copy.proofs.pairs.others_of.Goals.{then-is_duplex+then-is_other, then-is_duplex+else-is_other, else-is_duplex}

pub unwrap-row-requires : goal.unwrap-row-requires
unwrap-row-requires c =
    let within : c.loop-place.place < length c.args.table.now.rows = omega (arith, c.len-place-end.ensures.count, c.loop-place-test.true) in
    some_there c.args.table.now.rows c.loop-place.place c.row.result within c.row.ensures.row

pub push_reserved-requires : goal.push_reserved-requires
push_reserved-requires c =
    let within : c.loop-place.place < length c.args.table.now.rows = omega (arith, c.len-place-end.ensures.count, c.loop-place-test.true) in
    omega (arith, within, c.loop-place.invariant.count, c.loop-place.invariant.places)

pub loop-place-preserved : goal.loop-place-preserved
loop-place-preserved c =
    let rows = c.args.table.now.rows in
    let i = c.loop-place.place in
    let inv = c.loop-place.invariant in
    let r = c.unwrap-row.result.now in
    let is : slice_get rows i ≡ Some r = sym c.row.ensures.row ∙ ap option_copied c.unwrap-row.ensures in
    let test : ℕ → Bool = λ v. not (is_among v c.args.done.now) in
    elim c.if-is_duplex.branch [
      | then-is_duplex+then-is_other w ↦ record {
        listed = (λ k. (w.others-is k).items) ∙ w.push_reserved.ensures.items ∙ ap (λ (l : List ℕ). l ++ r.device ∷ []) inv.listed ∙ sym (devices_kept test rows i r is (sym c.is_duplex.ensures ∙ w.if-is_duplex.true) (sym w.is_missing-is_other.ensures ∙ w.if-is_other.true));
        count = omega (arith, ap vec_len w.others-is, w.push_reserved.ensures.len, inv.count);
        places = omega (arith, ap vec_capacity w.others-is, w.push_reserved.ensures.capacity, inv.places);
      }
      | then-is_duplex+else-is_other w ↦ record {
        listed = (λ k. (w.others-is k).items) ∙ inv.listed ∙ sym (devices_dropped test rows i r is (sym c.is_duplex.ensures ∙ w.if-is_duplex.true) (sym w.is_missing-is_other.ensures ∙ w.if-is_other.false));
        count = omega (arith, ap vec_len w.others-is, inv.count);
        places = omega (arith, ap vec_capacity w.others-is, inv.places);
      }
      | else-is_duplex w ↦ record {
        listed = (λ k. (w.others-is k).items) ∙ inv.listed ∙ sym (devices_other test rows i r is (sym c.is_duplex.ensures ∙ w.if-is_duplex.false));
        count = omega (arith, ap vec_len w.others-is, inv.count);
        places = omega (arith, ap vec_capacity w.others-is, inv.places);
      }
    ]

pub returns : goal.returns
returns c =
    let rows = c.args.table.now.rows in
    let whole : take c.loop-place.place rows ≡ rows = take_all c.loop-place.place rows (omega (arith, c.len-place-end.ensures.count, c.loop-place-test.false)) in
    c.of.ensures ∙ c.loop-place.invariant.listed ∙ ap (λ (l : List PairRow). filter (λ v. not (is_among v c.args.done.now)) (duplex_devices l)) whole
