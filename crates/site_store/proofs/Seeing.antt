-- What is seen after deeds of what is seen after others.
use Rattle.std.proofs.Common.{◌≡◌, ℕ, ◌<◌, Bool, true, false, List, ◌++◌, Option, Some, None, refl, sym, ap, subst, ◌∙◌}
use Rattle.std.specs.Prelude.{option_map}
use Rattle.ckd_track.specs.declared.rec.Rec.{Rec}
use Rattle.crash_plant.specs.Calls.{SameSite}
use Rattle.crash_plant.specs.Choices.{AtNow, Choice, IsChoice}
use Rattle.crash_plant.specs.Moments.{PlantState}
use Rattle.pair_table.specs.declared.row.PairRow.{PairRow}
use Rattle.site_means.specs.declared.means.Means.{Means}
use Rattle.site_means.specs.Images.{Shape}
use Rattle.site_means.specs.Sight.{content_in, content_of, means_in, means_of}
use Rattle.site_means.proofs.Goes.{shape_same}
use Rattle.record_rows.specs.Deeds.{Deed, rows_after_deeds}
use Rattle.site_store.specs.Deeds.{content_after, means_after}
use Rattle.site_store.specs.Exceptions.{Exceptions, excepted_after}
use Rattle.site_store.specs.Seeing.{SeesAfter}
use Rattle.site_store.proofs.Turning.{content_in_turn, exceptions_in_turn, means_in_turn}
use Rattle.site_store.proofs.Excepting.{whole_ends}

-- what deeds leave of what others leave of a meaning, where one is meant
meant_in_turn : (a b : List Deed) (means : Option Means) → option_map (means_after b) (option_map (means_after a) means) ≡ option_map (means_after (a ++ b)) means
meant_in_turn a b None = refl
meant_in_turn a b (Some m) = ap Some (sym (means_in_turn a b m))

-- A plant of the same numbers and lengths sees the same of a choice.
pub same_means : (old mid : PlantState) → SameSite old mid → (c : Choice) → means_of mid c ≡ means_of old c
same_means old mid site c = ap (λ (shape : Shape). means_in shape c) (shape_same old mid site)

pub same_content : (old mid : PlantState) → SameSite old mid → (c : Choice) (d x : ℕ) → content_of mid c d x ≡ content_of old c d x
same_content old mid site c d x = ap (λ (shape : Shape). content_in shape c d x) (shape_same old mid site)

module _ (old mid : PlantState) (site : SameSite old mid) (excepted : Exceptions) (rows : List PairRow) (a : List Deed) (first : AtNow (SeesAfter old excepted rows a) mid) where
  -- a track's content after both, where it comes from a choice in the middle
  module _ (b : List Deed) (c from : Choice) (was : IsChoice mid mid.clock from) (d x : ℕ) (within : d < old.volumes) where
    abbrev ComesFrom : Type 0
    ComesFrom = (e : Choice) × IsChoice old old.clock e × (content_of old c d x ≡ content_after d x rows (a ++ b) (content_of old e d x))

    content_then : content_of mid c d x ≡ content_after d x (rows_after_deeds a rows) b (content_of mid from d x) → excepted_after (rows_after_deeds a rows) b (excepted_after rows a excepted) d x ≡ false → ComesFrom
    content_then is told = by_test (excepted_after rows a excepted d x) refl
      where
        here : content_of old c d x ≡ content_after d x (rows_after_deeds a rows) b (content_of old from d x)
        here = sym (same_content old mid site c d x) ∙ is ∙ ap (λ (t : Option (List Rec)). content_after d x (rows_after_deeds a rows) b t) (same_content old mid site from d x)

        by_test : (e : Bool) → excepted_after rows a excepted d x ≡ e → ComesFrom
        by_test false known =
            let early = (first from was).content d x within known in
            (early.0, early.1, here ∙ ap (λ (t : Option (List Rec)). content_after d x (rows_after_deeds a rows) b t) early.2 ∙ sym (content_in_turn d x rows a b (content_of old early.0 d x)))
        by_test true open_still =
            let early = first from was in (
              early.from,
              early.was,
              here
                  ∙ whole_ends d x (rows_after_deeds a rows) b (excepted_after rows a excepted) (content_of old from d x) (content_after d x rows a (content_of old early.from d x)) open_still told
                  ∙ sym (content_in_turn d x rows a b (content_of old early.from d x)),
            )

  pub sees_then : (b : List Deed) (c : Choice) → SeesAfter mid (excepted_after rows a excepted) (rows_after_deeds a rows) b c → SeesAfter old excepted rows (a ++ b) c
  sees_then b c then =
      let early = first then.from then.was in
      record {
        from = early.from;
        was = early.was;
        means = sym (same_means old mid site c) ∙ then.means ∙ ap (λ (m : Option Means). option_map (means_after b) m) (same_means old mid site then.from ∙ early.means) ∙ meant_in_turn a b (means_of old early.from);
        content = λ d x within told.
            let there = subst (λ (n : ℕ). d < n) (sym site.volumes) within in
            let known = sym (ap (λ (e : Exceptions). e d x) (exceptions_in_turn rows a b excepted)) ∙ told in
            let later = then.content d x there known in
            content_then b c later.0 later.1 d x within later.2 known;
      }
