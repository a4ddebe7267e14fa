use Rattle.std.proofs.Common.{◌∙◌, ◌++◌, ◌∷◌, [], ℕ, List, ap}
use Rattle.std.specs.Prelude.{codes}
use Rattle.tod_stamp.specs.Stamps.{stamp_text}
use Rattle.xrc_recovery.proofs.lines.site_line.Goals as goal

pub returns : goal.returns
returns c =
    c.add-5.ensures.text ∙ ap (λ (l : List ℕ). l ++ 10 ∷ []) (c.add-4.ensures.text ∙ ap (λ (l : List ℕ). c.add-3.new.self ++ l) c.text.ensures
    ∙ ap (λ (l : List ℕ). l ++ stamp_text c.args.time.0) (c.add-3.ensures.text ∙ ap (λ (l : List ℕ). l ++ codes " T=") (c.add-2.ensures.text ∙ ap (λ (l : List ℕ). c.add.new.self ++ l) c.as_bytes.ensures.name
    ∙ ap (λ (l : List ℕ). l ++ c.args.session) (c.add.ensures.text ∙ ap (λ (l : List ℕ). l ++ c.args.word.now) c.make-line.ensures))))
