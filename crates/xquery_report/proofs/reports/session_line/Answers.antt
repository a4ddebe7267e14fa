use Rattle.std.proofs.Common.{◌++◌, ◌∙◌, ◌∷◌, [], ℕ, List, length, ap}
use Rattle.std.specs.Prelude.{codes, decimal}
use Rattle.tod_stamp.specs.Stamps.{stamp_text}
use Rattle.xquery_report.specs.Reports.{level_part}
use Rattle.xquery_report.proofs.reports.session_line.Goals as goal

pub returns : goal.returns
returns c =
    let session = c.args.table.now.session in
    let pairs = length c.args.table.now.rows in
    c.add-7.ensures ∙ ap (λ (l : List ℕ). l ++ 10 ∷ []) (c.add_number.ensures.text ∙ ap (λ (n : ℕ). c.add-6.new.self ++ 32 ∷ decimal n) (c.from.ensures ∙ c.len.ensures.count)
    ∙ ap (λ (l : List ℕ). l ++ 32 ∷ decimal pairs) (c.add-6.ensures ∙ ap (λ (l : List ℕ). l ++ codes " PAIRS") (c.add-5.ensures ∙ ap (λ (l : List ℕ). c.add-4.new.self ++ l) c.text.ensures
    ∙ ap (λ (l : List ℕ). l ++ stamp_text c.args.time.0) (c.add-4.ensures ∙ ap (λ (l : List ℕ). l ++ codes " JOURNALED ") (c.add-3.ensures ∙ ap (λ (l : List ℕ). c.add-2.new.self ++ l) c.level_part.ensures.text
    ∙ ap (λ (l : List ℕ). l ++ level_part c.args.level) (c.add-2.ensures ∙ ap (λ (l : List ℕ). c.add.new.self ++ l) (c.as_bytes.ensures.name ∙ c.session.ensures)
    ∙ ap (λ (l : List ℕ). l ++ session) (c.add.ensures ∙ ap (λ (l : List ℕ). l ++ codes "SESSION ") c.make-line.ensures)))))))
