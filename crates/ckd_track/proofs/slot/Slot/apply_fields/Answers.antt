use Rattle.std.proofs.Common.{◌∙◌, sym, arith}
use Rattle.ckd_track.proofs.KindLaws.{format_fields, format_split, format_is, whole_fields, whole_is}
use Rattle.ckd_track.proofs.slot.Slot.apply_fields.Goals as goal

pub format_spelled-requires-clause-spelled : goal.format_spelled-requires-clause-spelled
format_spelled-requires-clause-spelled c =
    let r = c.requires.fields in
    let f = format_fields c.args.fields.now r.kind r.keeps (sym c.in-3.is ∙ r.tagged) r.spelled in
    (format_split c.args.fields.now c.split_at-in-3.result.0.now c.split_at-in-3.result.1.now f c.split_at-in-3.ensures.front c.split_at-in-3.ensures.back).2

pub format_spelled-requires-clause-above : goal.format_spelled-requires-clause-above
format_spelled-requires-clause-above c =
    let r = c.requires.fields in
    let f = format_fields c.args.fields.now r.kind r.keeps (sym c.in-3.is ∙ r.tagged) r.spelled in
    (format_split c.args.fields.now c.split_at-in-3.result.0.now c.split_at-in-3.result.1.now f c.split_at-in-3.ensures.front c.split_at-in-3.ensures.back).3

pub put-requires : goal.put-requires
put-requires c =
    let r = c.requires.fields in
    whole_fields c.args.fields.now c.args.tag r.kind (λ e. absurd (omega (arith, e))) (λ e. absurd (omega (arith, e))) r.keeps r.tagged r.spelled

pub returns-in-3 : goal.returns-in-3
returns-in-3 c = λ kind keeps tagged spelled.
    let f = format_fields c.args.fields.now kind keeps (sym c.in-3.is ∙ tagged) spelled in
    let s = format_split c.args.fields.now c.split_at-in-3.result.0.now c.split_at-in-3.result.1.now f c.split_at-in-3.ensures.front c.split_at-in-3.ensures.back in
    rw (c.format_spelled.ensures, s.0, s.1, c.split_at-in-3.ensures.back) (format_is c.args.fields.now kind c.args.self.now keeps (sym c.in-3.is ∙ tagged) spelled)

pub returns-in_default : goal.returns-in_default
returns-in_default c = λ kind keeps tagged spelled.
    c.put.ensures ∙ whole_is c.args.fields.now c.args.tag kind c.args.self.now (λ e. absurd (omega (arith, e))) (λ e. absurd (omega (arith, e))) keeps tagged spelled
