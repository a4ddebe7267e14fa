use Rattle.std.proofs.Common.{List, ℕ, [], ◌∷◌, ◌++◌, ◌∙◌, ap, codes}
use Rattle.std.specs.Int.{w16, w64, to_be_bytes}
use Rattle.tod_stamp.specs.Names.{session_field}
use Rattle.control_set.specs.Marks.{flag}
use Rattle.control_set.proofs.Again.{joined}
use Rattle.control_set.proofs.spelling.encode.Goals as goal

pub returns-clause-spelled : goal.returns-clause-spelled
returns-clause-spelled c =
    let m = c.args.mark.now in
    let word = codes "XCTL" ++ to_be_bytes w64 m.number in
    c.join-2.ensures ∙ ap (λ (l : List ℕ). l ++ c.back_fields.result) (c.join.ensures ∙ ap (λ (l : List ℕ). l ++ c.field.result) c.front_fields.ensures ∙ ap (λ (l : List ℕ). word ++ l) c.field.ensures.field)
    ∙ ap (λ (l : List ℕ). word ++ session_field m.session ++ l) c.back_fields.ensures
    ∙ joined (word ++ session_field m.session) m.state_slot (to_be_bytes w16 m.at.set) (to_be_bytes w64 m.at.place) (to_be_bytes w64 m.at.number) (to_be_bytes w64 m.time.0) (flag m.ended ∷ [])
