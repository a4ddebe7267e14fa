use Rattle.std.proofs.Common.{◌∷◌, [], ℕ, List, get_or, refl, sym, ap, ◌∙◌, arith, true≢false}
use Rattle.std.specs.Prelude.{bytes_eq, codes}
use Rattle.tod_stamp.specs.Stamps.{stamp_text}
use Rattle.consistency.specs.Times.{words}
use Rattle.site_tests.specs.CourseVectors.{query_at, query_reply, query_report}
use Rattle.consistency.proofs.Replies.{last_is, reply_some}
use Rattle.site_tests.proofs.course_vectors.replies.Goals as goal

pub returns-clause-query : goal.returns-clause-query
returns-clause-query c = record {
  report = query_report;
  whole = refl;
  none = refl;
  last = codes "0000000000000080 XQUERY OK T=0000000000000080";
  one_line = refl;
  parts = refl;
  others = codes "T=0000000000000080" ∷ [];
  words_are = refl;
}

pub returns-clause-other_time : goal.returns-clause-other_time
returns-clause-other_time c r = true≢false (sym (ap (λ (l : List (List ℕ)). bytes_eq (get_or l 0 []) (stamp_text 0x81)) (ap words (last_is _ (query_at 0x81) query_reply r) ∙ r.words_are)))

pub returns-clause-other_answer : goal.returns-clause-other_answer
returns-clause-other_answer c r = true≢false (sym (ap (λ (l : List (List ℕ)). bytes_eq (get_or l 2 []) (codes "REFUSED")) (ap words (last_is _ (query_at 0x80) query_reply r) ∙ r.words_are)))

pub returns-clause-nothing : goal.returns-clause-nothing
returns-clause-nothing c accepted line r = absurd (omega (arith, reply_some accepted line [] r))
