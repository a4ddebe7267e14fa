use Rattle.std.proofs.Common.{◌≡◌, ◌≤◌, ℕ, ◌+◌, ◌-◌, ◌*◌, ◌++◌, ◌∷◌, List, [], length, take, drop, false, true, Some, ap, sym, subst, ◌∙◌, arith, option_map}
use Rattle.pair_table.specs.Rows.{row_by, row_length}
use Rattle.pair_table.specs.Tables.{Table, with_rows}
use Rattle.state_set.specs.Slots.{are_rows, started_table}
use Rattle.state_set.proofs.After.{follows, goes_last}
use Rattle.state_set.proofs.RowsAt.{left_at, at_start, none_next, some_next, row_within, others_within, breaks_on, all_read, read_keeps}
use Rattle.state_set.proofs.reading.read_rows.Goals as goal

pub loop-init : goal.loop-init
loop-init c =
    let is : c.start.new.self ≡ started_table c.args.session [] = c.start.ensures ∙ ap (λ (t : Table). record t { is_started = true }) c.in_ok-table.ensures in
    record {
      table = is ∙ ap (λ (t : Table). started_table c.args.session t.rows) (sym is);
      rules = ap (λ (t : Table). are_rows c.args.volumes t.rows) is;
      left = at_start c.args.version c.args.volumes c.args.count c.args.bytes.now ∙ ap (λ (t : Table). left_at c.args.version c.args.volumes (c.args.count - 0) t.rows c.args.bytes.now) (sym is);
      fits = subst (λ (n : ℕ). row_length c.args.version * n ≤ length c.args.bytes.now) (omega arith) c.requires;
    }

pub split_at-requires : goal.split_at-requires
split_at-requires c =
    subst (λ (n : ℕ). n ≤ length c.loop.rest.now) (sym c.row_length.ensures)
    (row_within c.args.version c.args.volumes c.args.count c.loop.counter c.loop.table.rows c.loop.rest.now c.loop-test.true c.loop.invariant.fits)

pub returns-in_default : goal.returns-in_default
returns-in_default c =
    let rest = c.loop.rest.now in
    let front : c.split_at.result.0.now ≡ take (row_length c.args.version) rest = c.split_at.ensures.front ∙ ap (λ (n : ℕ). take n rest) c.row_length.ensures in
    let none = none_next c.args.version c.args.volumes c.args.count c.loop.counter c.loop.table.rows rest c.loop-test.true (ap (row_by c.args.version) (sym front) ∙ sym c.decode_row_of.ensures ∙ c.in_default.is) in
    ap (option_map (started_table c.args.session)) (sym (c.loop.invariant.left ∙ none))

pub may_follow-requires-clause-row : goal.may_follow-requires-clause-row
may_follow-requires-clause-row c = read_keeps c.args.version c.split_at.result.0.now c.in-Some.row (sym c.decode_row_of.ensures ∙ c.in-Some.is)

pub may_follow-requires-clause-rows : goal.may_follow-requires-clause-rows
may_follow-requires-clause-rows c = c.loop.invariant.rules

pub returns-then-not-may_follow : goal.returns-then-not-may_follow
returns-then-not-may_follow c =
    let rest = c.loop.rest.now in
    let rows = c.loop.table.rows in
    let row = c.in-Some.row in
    let front : c.split_at.result.0.now ≡ take (row_length c.args.version) rest = c.split_at.ensures.front ∙ ap (λ (n : ℕ). take n rest) c.row_length.ensures in
    let next = some_next c.args.version c.args.volumes c.args.count c.loop.counter rows rest c.loop-test.true row (ap (row_by c.args.version) (sym front) ∙ sym c.decode_row_of.ensures ∙ c.in-Some.is) in
    let broken : are_rows c.args.volumes (rows ++ row ∷ []) ≡ false = sym c.may_follow.ensures ∙ c.if-not-may_follow.true in
    ap (option_map (started_table c.args.session)) (sym (c.loop.invariant.left ∙ next ∙ breaks_on c.args.volumes (rows ++ row ∷ []) _ broken))

pub put_row-requires : goal.put_row-requires
put_row-requires c =
    let rules = read_keeps c.args.version c.split_at.result.0.now c.in-Some.row (sym c.decode_row_of.ensures ∙ c.in-Some.is) in
    (follows c.args.volumes c.loop.table.rows c.in-Some.row rules (sym c.may_follow.ensures ∙ c.if-not-may_follow.false)).may

pub loop-preserved : goal.loop-preserved
loop-preserved c =
    let version = c.args.version in
    let rest = c.loop.rest.now in
    let rows = c.loop.table.rows in
    let row = c.in-Some.row in
    let rules = read_keeps version c.split_at.result.0.now row (sym c.decode_row_of.ensures ∙ c.in-Some.is) in
    let front : c.split_at.result.0.now ≡ take (row_length version) rest = c.split_at.ensures.front ∙ ap (λ (n : ℕ). take n rest) c.row_length.ensures in
    let back : c.split_at.result.1.now ≡ drop (row_length version) rest = c.split_at.ensures.back ∙ ap (λ (n : ℕ). drop n rest) c.row_length.ensures in
    let kept : are_rows c.args.volumes (rows ++ row ∷ []) ≡ true = sym c.may_follow.ensures ∙ c.if-not-may_follow.false in
    let last = goes_last rows row (follows c.args.volumes rows row rules kept).absent in
    let is : c.put_row.new.self ≡ started_table c.args.session (rows ++ row ∷ []) =
    c.in_ok-put_row.ensures.ok ∙ ap (with_rows c.loop.table) last ∙ ap (λ (t : Table). with_rows t (rows ++ row ∷ [])) c.loop.invariant.table in
    let next = some_next version c.args.volumes c.args.count c.loop.counter rows rest c.loop-test.true row (ap (row_by version) (sym front) ∙ sym c.decode_row_of.ensures ∙ c.in-Some.is) in
    let left = c.args.count - (c.loop.counter + 1) in
    record {
      table = is ∙ ap (λ (t : Table). started_table c.args.session t.rows) (sym is);
      rules = ap (λ (t : Table). are_rows c.args.volumes t.rows) is ∙ kept;
      left = c.loop.invariant.left ∙ next ∙ (λ i. left_at version c.args.volumes left (sym is i).rows (sym back i));
      fits = subst (λ (t : List ℕ). row_length version * left ≤ length t) (sym back)
          (others_within version c.args.volumes c.args.count c.loop.counter rows rest c.loop-test.true c.loop.invariant.fits);
    }

pub returns : goal.returns
returns c =
    let done = all_read c.args.version c.args.volumes (c.args.count - c.loop.counter) c.loop.table.rows c.loop.rest.now (omega (arith, c.loop-test.false)) c.loop.invariant.rules in
    ap Some c.loop.invariant.table ∙ ap (option_map (started_table c.args.session)) (sym (c.loop.invariant.left ∙ done))
