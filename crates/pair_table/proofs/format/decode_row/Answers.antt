use Rattle.std.proofs.Common.{◌≡◌, Some, sym, ap, ◌∙◌, arith}
use Rattle.std.specs.Prelude.{slice_range, slice_index}
use Rattle.std.specs.Int.{w16, w32, w64, from_be_bytes}
use Rattle.tod_stamp.specs.Names.{name_in}
use Rattle.pair_table.specs.Rows.{state_of_numbers, group_of_field, allowed}
use Rattle.pair_table.proofs.RowsAgain.{read_row}
use Rattle.pair_table.proofs.format.decode_row.Goals as goal

pub returns : goal.returns
returns c =
    let bytes = c.args.bytes.now in
    let primary = c.in_ok-from_field.field-0 in
    let secondary = c.in_ok-from_field-2.field-0 in
    let state = c.in_ok-state_of.field-0 in
    let group = c.in_ok-group_of.field-0 in
    let name : name_in 6 (slice_range bytes 0 6) ≡ Some primary = sym c.from_field.ensures ∙ c.in_ok-from_field.was in
    let other : name_in 6 (slice_range bytes 6 12) ≡ Some secondary = sym c.from_field-2.ensures ∙ c.in_ok-from_field-2.was in
    let time : from_be_bytes w64 (slice_range bytes 24 32) ≡ c.read_u64.result = omega (arith, c.read_u64.ensures) in
    let groups : group_of_field (slice_range bytes 32 38) ≡ Some group = sym c.group_of.ensures ∙ c.in_ok-group_of.was in
    let states : state_of_numbers (slice_index bytes 22) (slice_index bytes 23) (from_be_bytes w64 (slice_range bytes 24 32)) ≡ Some state =
    ap (state_of_numbers (slice_index bytes 22) (slice_index bytes 23)) time ∙ sym c.state_of.ensures ∙ c.in_ok-state_of.was in
    let control : from_be_bytes w16 (slice_range bytes 12 14) ≡ c.read_u16.result = omega (arith, c.read_u16.ensures) in
    let volume : from_be_bytes w16 (slice_range bytes 14 16) ≡ c.read_u16-2.result = omega (arith, c.read_u16-2.ensures) in
    let device : from_be_bytes w16 (slice_range bytes 16 18) ≡ c.read_u16-3.result = omega (arith, c.read_u16-3.ensures) in
    let cylinders : from_be_bytes w32 (slice_range bytes 18 22) ≡ c.read_u32.result = omega (arith, c.read_u32.ensures) in
    c.allowed.ensures
    ∙ sym (read_row bytes primary secondary state group c.told-bytes name other states groups
    ∙ λ i. allowed (record { primary = primary; secondary = secondary; control = control i; volume = volume i; device = device i; cylinders = cylinders i; state = state; group = group }))
