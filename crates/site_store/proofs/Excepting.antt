-- Exceptions end by whole images.
use Rattle.std.proofs.Common.{◌≡◌, Bool, true, false, ◌&&◌, List, [], ◌∷◌, Option, refl, ap}
use Rattle.std.specs.Prelude.{not}
use Rattle.std.specs.List.{list_any}
use Rattle.std.proofs.lemmas.Bool.{or_parts}
use Rattle.ckd_track.specs.declared.rec.Rec.{Rec}
use Rattle.record_rows.specs.Deeds.{entries_by_deed, rows_by_deed}
use Rattle.site_store.specs.Deeds.{content_after, content_by_deed}
use Rattle.site_store.specs.Exceptions.{excepted_after, excepted_by_deed, is_kept, is_whole_on}
use Rattle.site_store.specs.DeedLaws.{WholeImagesEndExceptions}
use Rattle.site_store.proofs.Contents.{same_by_deed}

ended_by : (excepted whole : Bool) → excepted ≡ true → (excepted && not whole) ≡ false → whole ≡ true
ended_by true true is none = refl
ended_by true false is none = absurd cc
ended_by false whole is none = absurd cc

pub whole_ends : WholeImagesEndExceptions
whole_ends d x rows [] excepted old other is ended = absurd (cc (is, ended))
whole_ends d x rows (deed ∷ deeds) excepted old other is ended =
    by_test (whole_ends d x (rows_by_deed deed) deeds (excepted_by_deed rows deed excepted) (content_by_deed d x rows deed old) (content_by_deed d x rows deed other)) (excepted_by_deed rows deed excepted d x) refl
  where
    by_test : (excepted_by_deed rows deed excepted d x ≡ true → excepted_after (rows_by_deed deed) deeds (excepted_by_deed rows deed excepted) d x ≡ false → content_after d x rows (deed ∷ deeds) old ≡ content_after d x rows (deed ∷ deeds) other)
        → (b : Bool) → excepted_by_deed rows deed excepted d x ≡ b → content_after d x rows (deed ∷ deeds) old ≡ content_after d x rows (deed ∷ deeds) other
    by_test on true still = on still ended
    by_test on false gone =
        let parts = or_parts (not (is_kept d (rows_by_deed deed))) (excepted d x && not (list_any (is_whole_on rows d x) (entries_by_deed deed))) gone in
        ap (λ (t : Option (List Rec)). content_after d x (rows_by_deed deed) deeds t) (same_by_deed d x rows deed old other (ended_by (excepted d x) (list_any (is_whole_on rows d x) (entries_by_deed deed)) is parts.1))
