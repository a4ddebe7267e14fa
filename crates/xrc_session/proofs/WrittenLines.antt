-- Volumes that are written line by line, over calls in turn.
use Rattle.std.proofs.Common.{◌≡◌, ◌⊎◌, inl, inr, ℕ, suc, ◌+◌, ◌<◌, ◌≤◌, List, [], ◌∷◌, ◌++◌, length, take, Option, Some, None, refl, sym, ap, subst, ◌∙◌, append_assoc, append-nil, arith}
use Rattle.std.specs.Prelude.{IfSome}
use Rattle.std.specs.List.{flat_map}
use Rattle.std.proofs.lemmas.Bool.{cases_lt}
use Rattle.std.proofs.lemmas.List.{length_push, take-append-le, take_all}
use Rattle.std.proofs.lemmas.List.Concat.{flat_map-append}
use Rattle.crash_plant.specs.Calls.{Elapses, SameSite}
use Rattle.crash_plant.specs.Moments.{PlantState}
use Rattle.pair_table.specs.declared.row.PairRow.{PairRow}
use Rattle.xrc_command.specs.declared.line.Line.{Line}
use Rattle.passages.specs.Points.{last_point}
use Rattle.consistency.specs.Courses.{Answered, replies_of, texts_of}
use Rattle.consistency.specs.Leads.{Point}
use Rattle.consistency.specs.Ways.{PassedPoint}
use Rattle.xrc_session.specs.Frames.{ChangesRows}
use Rattle.xrc_session.specs.WrittenLines.{AreWrittenByLines, WritesByLines, WrittenLine, points_of_line}
use Rattle.xrc_session.specs.WrittenParts.{PassesInParts, WritesInParts, WrittenPart, points_of_parts}
use Rattle.xrc_session.proofs.LastPoints.{last_append}
use Rattle.xrc_session.proofs.WrittenParts.{part_unwritten, parts_append, parts_rise, parts_stay}

-- ---- a line

-- The lines after which a reply was said are some of more.
by_lines_more : (lines : List Answered) (a : Answered) (began now : PlantState) (from : ℕ) (p : Point) (n : ℕ) (written : List WrittenLine) (more : List WrittenPart) → n + length written ≤ length lines → WritesByLines lines began now from p n written more → WritesByLines (lines ++ a ∷ []) began now from p n written more
by_lines_more lines a began now from p n [] more below by = by
by_lines_more lines a began now from p n (w ∷ written) more below by = (
  by.0,
  by.1 ∙ ap (λ (l : List Answered). began.heard began.clock ++ texts_of l) (sym (take-append-le (suc n) lines (a ∷ []) (omega (arith, below)))),
  by.2 ∙ ap (λ (l : List Answered). began.said began.clock ++ replies_of l) (sym (take-append-le (suc n) lines (a ∷ []) (omega (arith, below)))),
  by_lines_more lines a began now w.at (last_point p (points_of_line w)) (suc n) written more (omega (arith, below)) by.3,
)

-- The moments rise.
by_lines_rise : (lines : List Answered) (began now : PlantState) (from : ℕ) (p : Point) (n : ℕ) (written : List WrittenLine) (more : List WrittenPart) → WritesByLines lines began now from p n written more → from ≤ now.clock
by_lines_rise lines began now from p n [] more by = parts_rise now from now.clock p more by
by_lines_rise lines began now from p n (w ∷ written) more by =
    let first = parts_rise now from w.at p w.parts by.0 in
    let rest = by_lines_rise lines began now w.at (last_point p (points_of_line w)) (suc n) written more by.3 in
    omega (arith, first, rest)

-- One reply more was said now.
by_lines_said : (lines : List Answered) (began now : PlantState) (from : ℕ) (p : Point) (n m : ℕ) (written : List WrittenLine) (more : List WrittenPart) → m ≡ suc (n + length written) → now.heard now.clock ≡ began.heard began.clock ++ texts_of (take m lines) → now.said now.clock ≡ began.said began.clock ++ replies_of (take m lines) → WritesByLines lines began now from p n written more
    → WritesByLines lines began now from p n (written ++ record { at = now.clock; parts = more } ∷ []) []
by_lines_said lines began now from p n m [] more counted heard said by =
    let one : m ≡ suc n = omega (arith, counted) in
    (by, heard ∙ ap (λ (k : ℕ). began.heard began.clock ++ texts_of (take k lines)) one, said ∙ ap (λ (k : ℕ). began.said began.clock ++ replies_of (take k lines)) one, refl)
by_lines_said lines began now from p n m (w ∷ written) more counted heard said by = (by.0, by.1, by.2, by_lines_said lines began now w.at (last_point p (points_of_line w)) (suc n) m written more (omega (arith, counted)) heard said by.3)

-- ---- calls

module _ (old new : PlantState) (site : SameSite old new) (elapses : Elapses old new) (up : 0 < old.clock) where
  by_lines_on : (lines : List Answered) (began : PlantState) (from : ℕ) (p : Point) (n : ℕ) (written : List WrittenLine) (parts more : List WrittenPart) → WritesByLines lines began old from p n written parts
      → WritesInParts new old.clock new.clock (last_point p (flat_map points_of_line written ++ points_of_parts parts)) more → WritesByLines lines began new from p n written (parts ++ more)
  by_lines_on lines began from p n [] parts more by then = parts_append new from old.clock new.clock p parts more (parts_stay old new site elapses up from old.clock p parts (omega arith) by) then
  by_lines_on lines began from p n (w ∷ written) parts more by then =
      let rest = by_lines_rise lines began old w.at (last_point p (points_of_line w)) (suc n) written parts by.3 in
      let last : last_point p ((points_of_line w ++ flat_map points_of_line written) ++ points_of_parts parts) ≡ last_point (last_point p (points_of_line w)) (flat_map points_of_line written ++ points_of_parts parts) =
      ap (last_point p) (append_assoc (points_of_line w) (flat_map points_of_line written) (points_of_parts parts)) ∙ last_append p (points_of_line w) (flat_map points_of_line written ++ points_of_parts parts) in (
        parts_stay old new site elapses up from w.at p w.parts rest by.0,
        elapses.heard w.at up rest ∙ by.1,
        elapses.said w.at up rest ∙ by.2,
        by_lines_on lines began w.at (last_point p (points_of_line w)) (suc n) written parts more by.3 (subst (λ (q : Point). WritesInParts new old.clock new.clock q more) last then),
      )

  -- Calls that pass more points go on so.
  pub written_on : (lines : List Answered) (asked : Option Line) (n : ℕ) (points : List PassedPoint) (p : Point) (from : ℕ) (began : PlantState) (more : List PassedPoint) → AreWrittenByLines lines asked n points p from began old
      → PassesInParts new old.clock new.clock (last_point p points) more → AreWrittenByLines lines asked n (points ++ more) p from began new
  written_on lines asked n points p from began more v passes = record {
    written = v.written;
    more = v.more ++ passes.0;
    are =
        ap (λ (xs : List PassedPoint). xs ++ more) v.are ∙ append_assoc (flat_map points_of_line v.written) (points_of_parts v.more) more
        ∙ ap (λ (xs : List PassedPoint). flat_map points_of_line v.written ++ xs) (ap (λ (xs : List PassedPoint). points_of_parts v.more ++ xs) passes.1 ∙ sym (flat_map-append (λ part. part.points) v.more passes.0));
    below = v.below;
    nearly = v.nearly;
    all = v.all;
    by_lines = by_lines_on lines began from p n v.written v.more passes.0 v.by_lines (subst (λ (xs : List PassedPoint). WritesInParts new old.clock new.clock (last_point p xs) passes.0) v.are passes.2);
  }

  -- Calls that write no row go on so.
  pub written_still : (lines : List Answered) (asked : Option Line) (n : ℕ) (points : List PassedPoint) (p : Point) (from : ℕ) (began : PlantState) → AreWrittenByLines lines asked n points p from began old → ((rows : List PairRow) → ChangesRows rows old new) → AreWrittenByLines lines asked n points p from began new
  written_still lines asked n points p from began v changes =
      subst (λ (xs : List PassedPoint). AreWrittenByLines lines asked n xs p from began new) (append-nil points) (written_on lines asked n points p from began [] v (part_unwritten old new site elapses up (last_point p points) [] tt (changes [])))

-- ---- lines

of_any : (o : Option Line) (A : Type 0) → A → IfSome o (λ line. A)
of_any None A a = tt
of_any (Some line) A a = a

-- Where all replies were said, another line may be heard.
pub written_heard : (lines : List Answered) (asked other : Option Line) (n : ℕ) (points : List PassedPoint) (p : Point) (from : ℕ) (began now : PlantState) → now.heard now.clock ≡ began.heard began.clock ++ texts_of lines → now.said now.clock ≡ began.said began.clock ++ replies_of lines → AreWrittenByLines lines asked n points p from began now
    → AreWrittenByLines lines other n points p from began now
written_heard lines asked other n points p from began now heard said v = by_side (cases_lt (n + length v.written) (length lines))
  where
    by_side : (n + length v.written < length lines) ⊎ (length lines ≤ n + length v.written) → AreWrittenByLines lines other n points p from began now
    by_side (inr all) = record { written = v.written; more = v.more; are = v.are; below = v.below; nearly = v.nearly; all = of_any other (length lines ≤ n + length v.written) all; by_lines = v.by_lines }
    by_side (inl one) =
        let w : WrittenLine = record { at = now.clock; parts = v.more } in
        let many = length_push v.written w in
        record {
          written = v.written ++ w ∷ [];
          more = [];
          are = v.are ∙ sym (append-nil (flat_map points_of_line (v.written ++ w ∷ [])) ∙ flat_map-append points_of_line v.written (w ∷ []) ∙ ap (λ (xs : List PassedPoint). flat_map points_of_line v.written ++ xs) (append-nil (points_of_parts v.more)));
          below = omega (arith, many, one);
          nearly = omega (arith, many, v.nearly);
          all = of_any other (length lines ≤ n + length (v.written ++ w ∷ [])) (omega (arith, many, v.nearly));
          by_lines = by_lines_said lines began now from p n (length lines) v.written v.more (omega (arith, v.nearly, one)) (heard ∙ ap (λ (l : List Answered). began.heard began.clock ++ texts_of l) (sym (take_all (length lines) lines (omega arith)))) (said ∙ ap (λ (l : List Answered). began.said began.clock ++ replies_of l) (sym (take_all (length lines) lines (omega arith)))) v.by_lines;
        }

-- The line that was heard is answered.
pub written_answered : (lines : List Answered) (a : Answered) (n : ℕ) (points : List PassedPoint) (p : Point) (from : ℕ) (began now : PlantState) → AreWrittenByLines lines (Some a.line) n points p from began now → AreWrittenByLines (lines ++ a ∷ []) None n points p from began now
written_answered lines a n points p from began now v =
    let many = length_push lines a in
    record {
      written = v.written;
      more = v.more;
      are = v.are;
      below = omega (arith, many, v.below);
      nearly = omega (arith, many, v.all);
      all = tt;
      by_lines = by_lines_more lines a began now from p n v.written v.more v.below v.by_lines;
    }

-- At first nothing is written.
pub written_first : (lines : List Answered) (n : ℕ) (p : Point) (began now : PlantState) → n ≤ length lines → length lines ≤ suc n → AreWrittenByLines lines None n [] p now.clock began now
written_first lines n p began now below nearly = record { written = []; more = []; are = refl; below = omega (arith, below); nearly = omega (arith, nearly); all = tt; by_lines = refl }
