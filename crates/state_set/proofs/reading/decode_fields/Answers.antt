use Rattle.std.proofs.Common.{◌≡◌, ◌≤◌, ◌*◌, ℕ, List, length, take, drop, option_map, sym, ap, subst, ◌∙◌, arith, length-take, length-drop}
use Rattle.std.specs.Prelude.{slice_range}
use Rattle.std.specs.Int.{w16, from_be_bytes}
use Rattle.std.proofs.lemmas.List.{take_all}
use Rattle.pair_table.specs.Rows.{row_length}
use Rattle.state_set.specs.Slots.{rows_in, started_table, with_table}
use Rattle.state_set.proofs.Fields.{with_level, too_many, of_level, table_is, no_table}
use Rattle.state_set.proofs.RowsAt.{rows_fit}
use Rattle.state_set.proofs.reading.decode_fields.Goals as goal

pub returns-then-count : goal.returns-then-count
returns-then-count c =
    let bytes = c.args.bytes.now in
    let count : from_be_bytes w16 (slice_range bytes 13 15) ≡ c.read_u16-count.result = omega (arith, c.read_u16-count.ensures) in
    let state = of_level c.args.version c.args.volumes bytes c.in-Some.level (sym c.level_of.ensures ∙ c.in-Some.is) in
    let none = too_many c.args.version c.args.volumes (from_be_bytes w16 (slice_range bytes 13 15)) (drop 15 bytes) (omega (arith, count, c.if-count.true)) in
    sym (ap (option_map (with_table c.args.session)) (state ∙ ap (with_level c.in-Some.level) none))

pub read_rows-requires : goal.read_rows-requires
read_rows-requires c =
    let bytes = c.args.bytes.now in
    let long : length (take 2432 (drop 15 bytes)) ≡ 2432 = omega (arith, length-take 2432 (drop 15 bytes), length-drop 15 bytes, c.told-bytes) in
    subst (λ (n : ℕ). row_length c.args.version * c.read_u16-count.result ≤ n) (sym long) (rows_fit c.args.version c.read_u16-count.result (omega (arith, c.if-count.false)))

pub returns-in-Some-2 : goal.returns-in-Some-2
returns-in-Some-2 c =
    let bytes = c.args.bytes.now in
    let count : from_be_bytes w16 (slice_range bytes 13 15) ≡ c.read_u16-count.result = omega (arith, c.read_u16-count.ensures) in
    let state = of_level c.args.version c.args.volumes bytes c.in-Some.level (sym c.level_of.ensures ∙ c.in-Some.is) in
    let rows = ap (λ (n : ℕ). rows_in c.args.version c.args.volumes n (drop 15 bytes)) count in
    let all = take_all 2432 (drop 15 bytes) (omega (arith, c.told-bytes, length-drop 15 bytes)) in
    table_is c.args.session c.in-Some.level _ c.in-Some-2.table (sym c.in-Some-2.is ∙ c.in_ok-table.ensures ∙ ap (λ (t : List ℕ). option_map (started_table c.args.session) (rows_in c.args.version c.args.volumes c.read_u16-count.result t)) all)
    ∙ sym (ap (option_map (with_table c.args.session)) (state ∙ ap (with_level c.in-Some.level) rows))

pub returns-in-None : goal.returns-in-None
returns-in-None c =
    let bytes = c.args.bytes.now in
    let count : from_be_bytes w16 (slice_range bytes 13 15) ≡ c.read_u16-count.result = omega (arith, c.read_u16-count.ensures) in
    let state = of_level c.args.version c.args.volumes bytes c.in-Some.level (sym c.level_of.ensures ∙ c.in-Some.is) in
    let rows = ap (λ (n : ℕ). rows_in c.args.version c.args.volumes n (drop 15 bytes)) count in
    let all = take_all 2432 (drop 15 bytes) (omega (arith, c.told-bytes, length-drop 15 bytes)) in
    no_table c.args.session c.in-Some.level _ (sym c.in-None.is ∙ c.in_ok-table.ensures ∙ ap (λ (t : List ℕ). option_map (started_table c.args.session) (rows_in c.args.version c.args.volumes c.read_u16-count.result t)) all)
    ∙ sym (ap (option_map (with_table c.args.session)) (state ∙ ap (with_level c.in-Some.level) rows))
