use Rattle.std.proofs.Common.{◌++◌, ◌∷◌, [], ◌∙◌, List, ℕ, ap}
use Rattle.std.specs.Prelude.{codes}
use Rattle.tod_stamp.specs.Stamps.{stamp_text}
use Rattle.workload.specs.Summaries.{count_text}
use Rattle.workload.proofs.summing.line.Goals as goal

pub returns : goal.returns
returns c =
    let counts = c.args.counts.now in
    let number = c.in_ok-add_count.ensures ∙ ap (λ (l : List ℕ). l ++ count_text (codes "GENERATE") c.from.result) c.make-line.ensures ∙ ap (λ (n : ℕ). count_text (codes "GENERATE") n) c.from.ensures in
    let lines = c.in_ok-add_count-2.ensures ∙ ap (λ (l : List ℕ). l ++ count_text (codes " LINES") 12) number in
    let pairs = c.in_ok-add_count-3.ensures ∙ ap (λ (l : List ℕ). l ++ count_text (codes " PAIRS") counts.pairs) lines in
    let writes = c.in_ok-add_count-4.ensures ∙ ap (λ (l : List ℕ). l ++ count_text (codes " WRITES") 2000) pairs in
    let duplex = c.in_ok-add_count-5.ensures ∙ ap (λ (l : List ℕ). l ++ count_text (codes " DUPLEX") counts.duplex) writes in
    let records = c.in_ok-add_count-6.ensures ∙ ap (λ (l : List ℕ). l ++ count_text (codes " RECORDS") counts.tally.records) duplex in
    let sum = c.in_ok-add_count-7.ensures ∙ ap (λ (l : List ℕ). l ++ count_text (codes " SUM") counts.tally.sum) records in
    let word = c.in_ok-extend_from_slice.ensures.ok ∙ ap (λ (l : List ℕ). l ++ codes " T=") sum in
    let time = c.in_ok-extend_from_slice-2.ensures.ok ∙ ap (λ (t : List ℕ). c.extend_from_slice.new.self ++ t) c.text.ensures ∙ ap (λ (l : List ℕ). l ++ stamp_text counts.time.0) word in
    c.in_ok-extend_from_slice-3.ensures.ok ∙ ap (λ (l : List ℕ). l ++ 10 ∷ []) time
