-- Work for a start's own time leaves at every moment just the session that starts.
use Rattle.std.proofs.Common.{◌≡◌, ◌⊎◌, inl, inr, ℕ, zero, suc, ◌<◌, ◌≤◌, Bool, false, List, [], ◌∷◌, length, take, Option, Some, refl, sym, ap, subst, ◌∙◌, arith}
use Rattle.std.specs.Prelude.{option_map}
use Rattle.std.proofs.lemmas.Bool.{cases_lt}
use Rattle.std.proofs.lemmas.List.{take_all}
use Rattle.crash_plant.specs.declared.device.Device.TheVariants.{Control}
use Rattle.crash_plant.specs.Choices.{Choice, IsChoice}
use Rattle.crash_plant.specs.Moments.{PlantState}
use Rattle.pair_table.specs.declared.level.Level.{Level}
use Rattle.pair_table.specs.declared.row.PairRow.{PairRow}
use Rattle.group_state.specs.Groups.{Group}
use Rattle.group_state.specs.Runs.{Answer}
use Rattle.row_changes.specs.Changes.{Due}
use Rattle.row_changes.specs.Changes.Due.{NoneDue}
use Rattle.record_rows.specs.Deeds.{Deed, rows_after_deeds, rows_by_deed, time_by_deed, time_meant_after}
use Rattle.record_rows.specs.ToldRows.{due_after_changes}
use Rattle.site_means.specs.declared.means.Means.{Means}
use Rattle.site_means.specs.Sight.{means_of, meant_by}
use Rattle.site_store.specs.DeedChanges.{DeedOfChanges, deeds_of}
use Rattle.site_store.specs.Deeds.{means_after, means_by_deed}
use Rattle.site_store.specs.DoneDeeds.{BeginsDeeds, with_next}
use Rattle.site_store.specs.Exceptions.{Exceptions}
use Rattle.site_store.specs.Seeing.{SeesAfter}
use Rattle.site_store.specs.Sites.{SiteState, meant_for}
use Rattle.site_store.specs.Standing.{SiteStands}
use Rattle.site_store.proofs.Moments.{first_seen}
use Rattle.site_store.proofs.Turning.{means_are}
use Rattle.mover.specs.declared.ends.EpochEnd.{EpochEnd}
use Rattle.mover.specs.declared.lane.Lane.{Lane}
use Rattle.mover.specs.Epochs.{EpochGoes, TimesRiseTo}
use Rattle.mover.specs.Moves.{InPlacesByDeeds, KeepsPair}
use Rattle.mover.specs.Steps.{AreMade, IsDeedMade}
use Rattle.mover.specs.Steps.IsDeedMade.{Suspends, Marks, MarksFirst, Records, RecordsAfter}
use Rattle.record_rows.specs.ToldRows.{InPlaces}
use Rattle.xrc_session.specs.Starting.{MeansStart, StaysStarted}

-- ---- deeds without rows

no_place : (is : PairRow → PairRow → Type 0) (next : List PairRow) → InPlaces is [] next → next ≡ []
no_place is [] places = refl
no_place is (s ∷ next) places = absurd places

-- Deeds that keep pairs leave no row where there was none.
none_after : (deeds : List Deed) (n : ℕ) (rows : List PairRow) → rows ≡ [] → InPlacesByDeeds KeepsPair rows deeds → rows_after_deeds (take n deeds) rows ≡ []
none_after [] zero rows none pairs = none
none_after [] (suc n) rows none pairs = none
none_after (deed ∷ deeds) zero rows none pairs = none
none_after (deed ∷ deeds) (suc n) rows none pairs = none_after deeds n (rows_by_deed deed) (no_place KeepsPair (rows_by_deed deed) (subst (λ (l : List PairRow). InPlaces KeepsPair l (rows_by_deed deed)) none pairs.0)) pairs.1

-- A deed of the mover leaves the session's flag.
flag_by : (level : Level) (flag : Bool) (answers : List Answer) (time : ℕ) (rows : List PairRow) (due : Due) (step : DeedOfChanges) → IsDeedMade level flag answers time rows due step → (means : Means) → means.ended ≡ flag → (means_by_deed means step.deed).ended ≡ flag
flag_by level flag answers time rows _ _ (Suspends _ _ failed some) means is = is
flag_by level flag answers time rows _ _ (Marks _ _ failed spot) means is = refl
flag_by level flag answers time rows _ _ (MarksFirst _ _ failed spot) means is = refl
flag_by level flag answers time rows _ _ (Records _ _ group failed shown up to_log) means is = is
flag_by level flag answers time _ _ _ (RecordsAfter _ was group failed marked shown up to_log) means is = is

flag_after : (level : Level) (flag : Bool) (answers : List Answer) (time : ℕ) (rows : List PairRow) (due : Due) (steps : List DeedOfChanges) (last : Due) → AreMade level flag answers time rows due steps last → (n : ℕ) (means : Means) → means.ended ≡ flag
    → (means_after (take n (deeds_of steps)) means).ended ≡ flag
flag_after level flag answers time rows due [] last made zero means is = is
flag_after level flag answers time rows due [] last made (suc n) means is = is
flag_after level flag answers time rows due (step ∷ steps) last made zero means is = is
flag_after level flag answers time rows due (step ∷ steps) last made (suc n) means is =
    flag_after level flag answers (time_by_deed time step.deed) (rows_by_deed step.deed) (due_after_changes level due step.changes) steps last made.1 n (means_by_deed means step.deed) (flag_by level flag answers time rows due step made.0 means is)

-- The time that is meant stays, if it rises no further.
time_stays : (time : ℕ) (deeds : List Deed) (n : ℕ) → TimesRiseTo time time deeds → n ≤ length deeds → time_meant_after (take n deeds) time ≡ time
time_stays time deeds n rise within = let both = rise 0 n (omega arith) within in let low = both.0 in let high = both.1 in omega (arith, low, high)

-- ---- at every moment

module _ {S : Type 0} (tells : Type 0) (told : tells) (left : S → Option (List ℕ)) (faults : S → ℕ) (at : ℕ) (group : Group) (lanes then : List (Lane S)) (site after : SiteState) (old new : PlantState) (result : EpochEnd) (goes : EpochGoes tells left faults at group lanes then site after old new result)
    (excepted : Exceptions) (stands : SiteStands excepted site old) (goes_on : site.mark.ended ≡ false) (none : site.told ≡ []) (same : site.time ≡ at) where
  abbrev deeds : List Deed
  deeds = deeds_of goes.ran.steps

  begins : BeginsDeeds excepted site.told deeds old new
  begins = (goes.shows told).begins excepted stands

  abbrev Sees : (n : ℕ) → Choice → Type 0
  Sees n c = SeesAfter old excepted site.told (take n deeds) c

  rises : TimesRiseTo site.time site.time deeds
  rises = subst (λ (n : ℕ). TimesRiseTo n site.time deeds) (sym same) goes.bears.times

  -- What shows so many deeds means the start.
  means_start : (n : ℕ) (c : Choice) → n ≤ length deeds → Sees n c → MeansStart site.table.session site.level at old c
  means_start n c within sees =
      let d = take n deeds in
      let meant : means_of old sees.from ≡ Some (meant_for site) = ap meant_by (stands.meant sees.from sees.was) in
      let b = means_are d (meant_for site) in
      record {
        means = means_after d (meant_for site);
        defined = sees.means ∙ ap (option_map (means_after d)) meant;
        session_is = b.session;
        level_is = b.level;
        time = b.time ∙ time_stays site.time deeds n rises within ∙ same;
        rows = b.rows ∙ none_after deeds n site.told none goes.ran.pairs;
        ended = flag_after site.level false _ site.time site.told NoneDue goes.ran.steps NoneDue (goes.ran.made goes_on) n (meant_for site) goes_on;
      }

  now_means : (c : Choice) → IsChoice new new.clock c → MeansStart site.table.session site.level at old c
  now_means c has = by_side (begins.now c has)
    where
      n : ℕ
      n = length begins.moments

      by_size : Sees (suc n) c → (n < length deeds) ⊎ (length deeds ≤ n) → MeansStart site.table.session site.level at old c
      by_size sees (inl more) = means_start (suc n) c (omega (arith, more)) sees
      by_size sees (inr all) = means_start n c begins.few (subst (λ (l : List Deed). SeesAfter old excepted site.told l c) (take_all (suc n) deeds (omega (arith, all)) ∙ sym (take_all n deeds all)) sees)

      by_side : Sees n c ⊎ SeesAfter old excepted site.told (with_next n deeds) c → MeansStart site.table.session site.level at old c
      by_side (inl sees) = means_start n c begins.few sees
      by_side (inr sees) = by_size sees (cases_lt n (length deeds))

  each_means : (t : ℕ) → old.clock ≤ t → t ≤ new.clock → (c : Choice) → IsChoice new t c → MeansStart site.table.session site.level at old c
  each_means t from to c has = by (cases_lt 0 old.clock)
    where
      by : (0 < old.clock) ⊎ (old.clock ≤ 0) → MeansStart site.table.session site.level at old c
      by (inl up) = let seen = first_seen old new excepted site.told deeds up begins t from to c has in means_start seen.0 c seen.1 seen.2
      by (inr low) =
          let kept = begins.elapses.kept Control in
          let none : old.clock ≡ 0 = omega (arith, low) in
          let still = kept.still none in
          let here : t ≡ new.clock = omega (arith, to, still) in
          now_means c (subst (λ (s : ℕ). IsChoice new s c) here has)

-- An epoch for a start's own time.
pub stays_started : {S : Type 0} (tells : Type 0) → tells → (left : S → Option (List ℕ)) (faults : S → ℕ) (at : ℕ) (group : Group) (lanes then : List (Lane S)) (site after : SiteState) (old new : PlantState) (result : EpochEnd) → EpochGoes tells left faults at group lanes then site after old new result
    → (excepted : Exceptions) → SiteStands excepted site old → site.mark.ended ≡ false → StaysStarted at site old new
stays_started tells told left faults at group lanes then site after old new result goes excepted stands goes_on none same t from to c has = each_means tells told left faults at group lanes then site after old new result goes excepted stands goes_on none same t from to c has
