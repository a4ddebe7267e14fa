-- No deed, and one.
use Rattle.std.proofs.Common.{◌≡◌, ◌⊎◌, inl, inr, ℕ, ◌≤◌, List, [], ◌∷◌, refl, sym, ap, subst, ◌∙◌, arith}
use Rattle.std.specs.Prelude.{option_map, Option, Some, None}
use Rattle.crash_plant.specs.declared.device.Device.TheVariants.{Control}
use Rattle.crash_plant.specs.Choices.{AtEveryMoment, AtNow, Choice, IsChoice}
use Rattle.crash_plant.specs.Moments.{PlantState, on}
use Rattle.crash_plant.proofs.Choices.{part_still}
use Rattle.crash_plant.proofs.Steps.{kept_here}
use Rattle.pair_table.specs.declared.row.PairRow.{PairRow}
use Rattle.passages.specs.Points.{Throughout}
use Rattle.site_means.specs.declared.means.Means.{Means}
use Rattle.site_means.specs.Sight.{means_of}
use Rattle.record_rows.specs.Deeds.{Deed}
use Rattle.site_store.specs.Exceptions.{Exceptions}
use Rattle.site_store.specs.DeedLaws.{NoCallDoesNoDeed, OneDeedBegins, OneDeedFollows, OneDeedIsDone, ReadsAndSyncsAreNoDeed, SameContentIsNoDeed, SameSightIsNoDeed}
use Rattle.site_store.specs.Seeing.{MeansByDeed, MeansTheSame, SeesAfter}

-- What each choice now is, it is at each moment from now to now.
through_now : (plant : PlantState) (is : Choice → Type 0) → AtNow is plant → Throughout (IsChoice plant) plant.clock plant.clock is
through_now plant is now t since within c has = now c (let here : t ≡ plant.clock = omega arith in subst (λ (m : ℕ). IsChoice plant m c) here has)

pub one_is_done : (old new : PlantState) → OneDeedIsDone old new
one_is_done old new excepted rows deed site elapses silent every now = record {
  site = site;
  elapses = elapses;
  silent = silent;
  moments = new.clock ∷ [];
  each = refl;
  goes = λ up. let last = through_now new (SeesAfter old excepted rows (deed ∷ [])) now in ((elapses.kept Control).later, every, last, (omega arith, last));
  now = now;
}

pub one_begins : (old new : PlantState) → OneDeedBegins old new
one_begins old new excepted rows deed site elapses silent every = record {
  site = site;
  elapses = elapses;
  silent = silent;
  moments = [];
  few = omega arith;
  goes = λ up. ((elapses.kept Control).later, every);
  now = every new.clock (elapses.kept Control).later (omega arith);
}

pub same_sight : (old new : PlantState) → SameSightIsNoDeed old new
same_sight old new excepted rows site elapses silent every = record {
  site = site;
  elapses = elapses;
  silent = silent;
  moments = [];
  each = refl;
  goes = λ up. ((elapses.kept Control).later, every);
  now = every new.clock (elapses.kept Control).later (omega arith);
}

no_means : (means : Option Means) → means ≡ option_map (λ m. m) means
no_means None = refl
no_means (Some m) = refl

-- what could be left at the start shows that nothing is done
sees_itself : (old : PlantState) (excepted : Exceptions) (rows : List PairRow) (c : Choice) → IsChoice old old.clock c → SeesAfter old excepted rows [] c
sees_itself old excepted rows c is = record { from = c; was = is; means = no_means (means_of old c); content = λ d x within told. (c, is, refl) }

-- a choice that means the same, or what a deed leaves
sees_same : (old : PlantState) (excepted : Exceptions) (rows : List PairRow) (b c : Choice) → IsChoice old old.clock b → MeansTheSame old excepted b c → SeesAfter old excepted rows [] c
sees_same old excepted rows b c was same = record { from = b; was = was; means = same.means ∙ no_means (means_of old b); content = λ d x within told. (b, was, same.content d x within told) }

sees_deed : (old : PlantState) (excepted : Exceptions) (rows : List PairRow) (deed : Deed) (b c : Choice) → IsChoice old old.clock b → MeansByDeed old excepted rows deed b c → SeesAfter old excepted rows (deed ∷ []) c
sees_deed old excepted rows deed b c was by = record { from = b; was = was; means = by.means; content = by.content }

pub same_content : (old new : PlantState) → SameContentIsNoDeed old new
same_content old new excepted rows site elapses silent follows = same_sight old new excepted rows site elapses silent (λ t from to c is. let start = follows t from to c is in sees_same old excepted rows start.0 c start.1 start.2)

pub one_follows : (old new : PlantState) → OneDeedFollows old new
one_follows old new excepted rows deed site elapses silent follows =
    (one_begins old new excepted rows deed site elapses silent every, λ now. one_is_done old new excepted rows deed site elapses silent every (λ c is. let start = now c is in sees_deed old excepted rows deed start.0 c start.1 start.2))
  where
    by_step : (b c : Choice) → IsChoice old old.clock b → MeansTheSame old excepted b c ⊎ MeansByDeed old excepted rows deed b c → SeesAfter old excepted rows [] c ⊎ SeesAfter old excepted rows (deed ∷ []) c
    by_step b c was (inl same) = inl (sees_same old excepted rows b c was same)
    by_step b c was (inr by) = inr (sees_deed old excepted rows deed b c was by)

    every : AtEveryMoment (λ c. SeesAfter old excepted rows [] c ⊎ SeesAfter old excepted rows (deed ∷ []) c) old new
    every t from to c is = let start = follows t from to c is in by_step start.0 c start.1 start.2

pub reads_and_syncs : (old new : PlantState) → ReadsAndSyncsAreNoDeed old new
reads_and_syncs old new excepted rows site elapses silent same = same_sight old new excepted rows site elapses silent (λ t from to c is. sees_itself old excepted rows c (was t from to c is))
  where
    was : (t : ℕ) → old.clock ≤ t → t ≤ new.clock → (c : Choice) → IsChoice new t c → IsChoice old old.clock c
    was t from to c is d part =
        let start = same d t from to (c d) (is d (part_still old new d site part)) in
        subst (λ (b : List ℕ). old.images old.clock d b) (sym start.2) start.1

pub no_call : (plant : PlantState) → NoCallDoesNoDeed plant
no_call plant excepted rows =
    same_sight plant plant excepted rows (record { journals = refl; volumes = refl; lengths = λ d. refl })
    (record { kept = λ d. kept_here (on plant d); heard = λ t up to. refl; said = λ t up to. refl })
    (record { heard = λ t from to. still plant.heard t from to; said = λ t from to. still plant.said t from to; script = refl })
    (λ t from to c is. sees_itself plant excepted rows c (let here : t ≡ plant.clock = omega arith in subst (λ (m : ℕ). IsChoice plant m c) here is))
  where
    still : (f : ℕ → List ℕ) (t : ℕ) → plant.clock ≤ t → t ≤ plant.clock → f t ≡ f plant.clock
    still f t from to = let here : t ≡ plant.clock = omega arith in ap f here
