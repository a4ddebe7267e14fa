-- What deeds leave, deed by deed.
use Rattle.std.proofs.Common.{◌≡◌, ℕ, List, [], ◌∷◌, ◌++◌, Option, refl, ap, ◌∙◌}
use Rattle.ckd_track.specs.declared.rec.Rec.{Rec}
use Rattle.pair_table.specs.declared.row.PairRow.{PairRow}
use Rattle.site_means.specs.declared.means.Means.{Means}
use Rattle.record_rows.specs.Deeds.{Deed, rows_after_deeds, rows_by_deed, time_by_deed, time_meant_after}
use Rattle.site_store.specs.Deeds.{content_after, content_by_deed, means_after, means_by_deed, from_mark, with_time_and_rows}
use Rattle.record_rows.specs.Deeds.Deed.{Logged, Changed, Marked}
use Rattle.site_store.specs.Exceptions.{Exceptions, excepted_after, excepted_by_deed}
use Rattle.site_store.specs.DeedLaws.{DeedsLeaveInTurn, IsSameMark, MarksAreMeant, MeansAreAfter}

rows_in_turn : (a b : List Deed) (rows : List PairRow) → rows_after_deeds (a ++ b) rows ≡ rows_after_deeds b (rows_after_deeds a rows)
rows_in_turn [] b rows = refl
rows_in_turn (deed ∷ a) b rows = rows_in_turn a b (rows_by_deed deed)

time_in_turn : (a b : List Deed) (time : ℕ) → time_meant_after (a ++ b) time ≡ time_meant_after b (time_meant_after a time)
time_in_turn [] b time = refl
time_in_turn (deed ∷ a) b time = time_in_turn a b (time_by_deed time deed)

pub means_in_turn : (a b : List Deed) (means : Means) → means_after (a ++ b) means ≡ means_after b (means_after a means)
means_in_turn [] b means = refl
means_in_turn (deed ∷ a) b means = means_in_turn a b (means_by_deed means deed)

pub content_in_turn : (d x : ℕ) (rows : List PairRow) (a b : List Deed) (old : Option (List Rec)) → content_after d x rows (a ++ b) old ≡ content_after d x (rows_after_deeds a rows) b (content_after d x rows a old)
content_in_turn d x rows [] b old = refl
content_in_turn d x rows (deed ∷ a) b old = content_in_turn d x (rows_by_deed deed) a b (content_by_deed d x rows deed old)

pub exceptions_in_turn : (rows : List PairRow) (a b : List Deed) (excepted : Exceptions) → excepted_after rows (a ++ b) excepted ≡ excepted_after (rows_after_deeds a rows) b (excepted_after rows a excepted)
exceptions_in_turn rows [] b excepted = refl
exceptions_in_turn rows (deed ∷ a) b excepted = exceptions_in_turn (rows_by_deed deed) a b (excepted_by_deed rows deed excepted)

pub leave_in_turn : DeedsLeaveInTurn
leave_in_turn a b excepted rows = record {
  rows_are = rows_in_turn a b rows;
  time = time_in_turn a b;
  means = means_in_turn a b;
  content = λ d x old. content_in_turn d x rows a b old;
  exceptions = exceptions_in_turn rows a b excepted;
}

pub means_are : MeansAreAfter
means_are [] means = record { time = refl; rows = refl; session = refl; level = refl }
means_are (Logged cut entries rows ∷ deeds) means = let are = means_are deeds (with_time_and_rows cut rows means) in record { time = are.time; rows = are.rows; session = are.session; level = are.level }
means_are (Changed time rows ∷ deeds) means = let are = means_are deeds (with_time_and_rows time rows means) in record { time = are.time; rows = are.rows; session = are.session; level = are.level }
means_are (Marked spot ended rows ∷ deeds) means = let are = means_are deeds (from_mark spot ended rows means) in record { time = are.time; rows = are.rows; session = are.session; level = are.level }

-- A deed after others is what is meant last.
last_means : (deeds : List Deed) (deed : Deed) (means : Means) → means_after (deeds ++ deed ∷ []) means ≡ means_by_deed (means_after deeds means) deed
last_means deeds deed means = means_in_turn deeds (deed ∷ []) means

same_mark : (deeds : List Deed) (deed : Deed) (means : Means) → IsSameMark (means_after deeds means) (means_by_deed (means_after deeds means) deed) → IsSameMark (means_after deeds means) (means_after (deeds ++ deed ∷ []) means)
same_mark deeds deed means same = (ap (λ (m : Means). m.from) (last_means deeds deed means) ∙ same.0, ap (λ (m : Means). m.ended) (last_means deeds deed means) ∙ same.1)

pub marks_are_meant : MarksAreMeant
marks_are_meant deeds rows means = record {
  spot_is = λ spot ended. ap (λ (m : Means). m.from) (last_means deeds (Marked spot ended rows) means);
  ended_is = λ spot ended. ap (λ (m : Means). m.ended) (last_means deeds (Marked spot ended rows) means);
  logged = λ cut entries. same_mark deeds (Logged cut entries rows) means (refl, refl);
  changed = λ time. same_mark deeds (Changed time rows) means (refl, refl);
}
