use Rattle.std.proofs.Common.{◌≡◌, ◌+◌, sym, ◌∙◌, arith}
use Rattle.xrc_journal.proofs.Headers.{header_bounds, group_length, header_bad, header_group, header_switch}
use Rattle.xrc_journal.proofs.header.decode_header.Goals as goal

pub returns-then-not-keeps_rules-clause-header : goal.returns-then-not-keeps_rules-clause-header
returns-then-not-keeps_rules-clause-header c =
    header_bad c.args.size c.args.at c.args.last.0 (c.args.at.place + 1) c.args.bytes.now c.told-bytes (sym c.keeps_rules.ensures ∙ c.if-not-keeps_rules.true)

pub returns-then-bytes-eq1-clause-header : goal.returns-then-bytes-eq1-clause-header
returns-then-bytes-eq1-clause-header c =
    header_group c.args.size c.args.at c.args.last.0 (c.args.at.place + 1) c.args.bytes.now c.told-bytes c.read_u64.result c.read_u32-length.result (sym c.keeps_rules.ensures ∙ c.if-not-keeps_rules.false) c.if-bytes-eq1.true (omega (arith, c.read_u64.ensures)) (omega (arith, c.read_u32-length.ensures))

pub returns-else-bytes-eq1-clause-header : goal.returns-else-bytes-eq1-clause-header
returns-else-bytes-eq1-clause-header c =
    header_switch c.args.size c.args.at c.args.last.0 (c.args.at.place + 1) c.args.bytes.now c.told-bytes c.read_u64.result (sym c.keeps_rules.ensures ∙ c.if-not-keeps_rules.false) c.if-bytes-eq1.false (omega (arith, c.read_u64.ensures))

pub returns-then-bytes-eq1-clause-number : goal.returns-then-bytes-eq1-clause-number
returns-then-bytes-eq1-clause-number c = λ some. (header_bounds c.args.size c.args.at c.args.last.0 c.args.bytes.now (sym c.keeps_rules.ensures ∙ c.if-not-keeps_rules.false)).number

pub returns-else-bytes-eq1-clause-number : goal.returns-else-bytes-eq1-clause-number
returns-else-bytes-eq1-clause-number c = λ some. (header_bounds c.args.size c.args.at c.args.last.0 c.args.bytes.now (sym c.keeps_rules.ensures ∙ c.if-not-keeps_rules.false)).number

pub returns-then-bytes-eq1-clause-fits : goal.returns-then-bytes-eq1-clause-fits
returns-then-bytes-eq1-clause-fits c = λ time length is.
    let bounds = (header_bounds c.args.size c.args.at c.args.last.0 c.args.bytes.now (sym c.keeps_rules.ensures ∙ c.if-not-keeps_rules.false)).group c.if-bytes-eq1.true in
    let same : c.read_u32-length.result ≡ length = group_length _ _ _ _ is in
    omega (arith, same, bounds.1, c.read_u32-length.ensures)

pub returns-then-bytes-eq1-clause-short : goal.returns-then-bytes-eq1-clause-short
returns-then-bytes-eq1-clause-short c = λ time length is.
    let bounds = (header_bounds c.args.size c.args.at c.args.last.0 c.args.bytes.now (sym c.keeps_rules.ensures ∙ c.if-not-keeps_rules.false)).group c.if-bytes-eq1.true in
    let same : c.read_u32-length.result ≡ length = group_length _ _ _ _ is in
    omega (arith, same, bounds.0, c.read_u32-length.ensures)
