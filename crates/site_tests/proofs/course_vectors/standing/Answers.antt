use Rattle.std.proofs.Common.{◌≡◌, ◌++◌, [], ℕ, zero, suc, List, take, Option, Some, None, refl, sym, ap, ◌∙◌, arith, true≢false}
use Rattle.std.proofs.lemmas.Bool.{and_right}
use Rattle.consistency.specs.Courses.{next_line, replies_of}
use Rattle.consistency.specs.Replies.{has_reply}
use Rattle.site_tests.specs.CourseVectors.{start_reply, status_18}
use Rattle.consistency.proofs.Lines.{none_heard}
use Rattle.site_tests.proofs.course_vectors.standing.Goals as goal

pub returns-clause-status : goal.returns-clause-status
returns-clause-status c = record { answered = 0; within = omega arith; text = []; heard_is = refl; part = status_18; said_is = refl; not_whole = λ a at. absurd cc; none_more = refl; one_line = omega arith }

pub returns-clause-reply : goal.returns-clause-reply
returns-clause-reply c at = true≢false (ap has_reply (said at.answered at.part at.said_is) ∙ at.none_more)
  where
    said : (n : ℕ) (part : List ℕ) → start_reply ≡ replies_of (take n []) ++ part → start_reply ≡ part
    said zero part is = is
    said (suc n) part is = is

pub returns-clause-nothing : goal.returns-clause-nothing
returns-clause-nothing c answered before at_end a is asked = differ (sym (none_heard answered before at_end [] (and_right at_end _ refl)) ∙ ap (next_line answered before at_end) (sym is) ∙ asked.asks)
  where
    differ : {X : Type 0} {x : X} → (let a : Option X = None in let b : Option X = Some x in a ≡ b) → ⊥
    differ e = cc
