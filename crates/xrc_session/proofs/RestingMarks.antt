-- After a mark no record stands.
use Rattle.std.proofs.Common.{◌≡◌, ℕ, zero, suc, ◌+◌, ◌≤◌, ◌++◌, Bool, true, false, cond, List, [], ◌∷◌, Option, Some, None, Ok, Err, refl, sym, ap, ◌∙◌, arith}
use Rattle.std.specs.List.{flat_map}
use Rattle.crash_plant.specs.declared.device.Device.TheVariants.{Journal}
use Rattle.crash_plant.specs.declared.spot.Spot.{Spot}
use Rattle.crash_plant.specs.Choices.{Choice, IsChoice}
use Rattle.crash_plant.specs.Moments.{PlantState}
use Rattle.control_set.specs.declared.value.Mark.{Mark}
use Rattle.xrc_journal.specs.Records.{Found, walk_one}
use Rattle.xrc_journal.specs.Records.Found.{End, Group, Switch, Damaged}
use Rattle.xrc_journal.specs.Walks.{Logged}
use Rattle.xrc_journal.proofs.RecordsRead.{switch_leads}
use Rattle.site_means.specs.Images.{Images, Shape, shape_of}
use Rattle.site_means.specs.Sight.{walked, walked_by}
use Rattle.site_means.specs.Walk.{Walk, WalkState, WalkStep, group_step, has_entered, start, step, step_by, turns_at, unfit_in, walk_from, walk_on}
use Rattle.site_means.specs.Walk.WalkStep.{Ends, GoesOn, Breaks}
use Rattle.site_means.proofs.Found.{group_ends}
use Rattle.site_means.proofs.Reaching.{MeantBy, meant_by}
use Rattle.site_store.specs.Exceptions.{Exceptions}
use Rattle.site_store.specs.Sites.{SiteState, meant_for}
use Rattle.site_store.specs.Standing.{SiteStands}
use Rattle.xrc_session.specs.AppliedEnds.{HasEmptyWalk}
use Rattle.xrc_session.specs.Resting.{MarksBeginWalks, NothingIsWalked}

pub marks_begin_walks : {P : Type 0} (was is : P) → MarksBeginWalks was is
marks_begin_walks was is site next ended (Ok value) marks = ap (λ (s : SiteState). s.at) marks.next_is ∙ sym (ap (λ (s : SiteState). s.mark.at) marks.next_is)
marks_begin_walks was is site next ended (Err e) marks = tt

-- ---- a walk's numbers

-- A step that goes on counts.
module _ (shape : Shape) (images : Images) (s next : WalkState) (groups : List Logged) where
  abbrev Next : WalkStep → Type 0
  Next found = found ≡ GoesOn groups next → next.at.number ≡ s.at.number + 1

  counted : (gs : List Logged) (n : WalkState) → n.at.number ≡ s.at.number + 1 → Next (GoesOn gs n)
  counted gs n count is = let same : n ≡ next = cc in ap (λ (w : WalkState). w.at.number) (sym same) ∙ count

  by_found : (found : Found) → walk_one shape.form shape.sets (images (Journal s.at.set)) s.at s.last ≡ found → Next (step_by shape s found)
  by_found End at is = absurd (cc is)
  by_found (Group time items after) at is = by_fit (unfit_in shape s items) is
    where
      by_fit : (o : Option ℕ) → Next (group_step s time items after o)
      by_fit None is = counted _ _ (group_ends shape.form shape.sets (images (Journal s.at.set)) s.at s.last time items after at).number is
      by_fit (Some place) is = absurd (cc is)
  by_found (Switch time after) at is = by_set (has_entered after.set s.entered) is
    where
      by_set : (b : Bool) → Next (cond b (Breaks s.at.place) (GoesOn [] (record { rows = s.rows; entered = s.entered ++ after.set ∷ []; at = after; last = time })))
      by_set true is = absurd (cc is)
      by_set false is = counted _ _ (ap (λ (spot : Spot). spot.number) (switch_leads shape.form shape.sets (images (Journal s.at.set)) s.at after s.last time at)) is
  by_found (Damaged place items) at is = absurd (cc is)

  steps_count : Next (step shape images s)
  steps_count = by_found (walk_one shape.form shape.sets (images (Journal s.at.set)) s.at s.last) refl

-- A walk's number at its end isn't below that at its beginning. Where they are one, it has no group.
record Counts (from : ℕ) (w : Walk) : Type 0 where
  up : from ≤ w.at.number
  none : w.at.number ≡ from → w.groups ≡ []

walks_count : (turns : ℕ) (shape : Shape) (images : Images) (s : WalkState) → Counts s.at.number (walk_from turns shape images s)
unfolding walk_from
walks_count zero shape images s = record { up = omega arith; none = λ same. refl }
walks_count (suc turns) shape images s = by_step (step shape images s) refl (λ n. walks_count turns shape images n)
  where
    by_step : (found : WalkStep) → step shape images s ≡ found → ((n : WalkState) → Counts n.at.number (walk_from turns shape images n)) → Counts s.at.number (walk_on s found (λ n. walk_from turns shape images n))
    by_step Ends is rest = record { up = omega arith; none = λ same. refl }
    by_step (GoesOn groups next) is rest =
        let count = steps_count shape images s next groups is in
        let later = (rest next).up in
        record { up = omega (arith, count, later); none = λ same. absurd (omega (arith, count, later, same)) }
    by_step (Breaks place) is rest = record { up = omega arith; none = λ same. refl }

-- ---- a site

module _ (plant : PlantState) (excepted : Exceptions) (site : SiteState) (stands : SiteStands excepted site plant) (empty : site.at ≡ site.mark.at) (c : Choice) (is : IsChoice plant plant.clock c) where
  abbrev w : Walk
  w = stands.walk

  by : MeantBy (shape_of plant) c (meant_for site) w
  by = meant_by (shape_of plant) c (meant_for site) w (stands.meant c is)

  mark_is : by.mark ≡ site.mark
  mark_is = let chosen = stands.chosen c is in let found = by.chosen in cc

  ends : w.at ≡ site.mark.at
  ends = stands.at ∙ empty

  none_walked : w.groups ≡ []
  none_walked =
      let counts = walks_count (turns_at by.mark.at) (shape_of plant) c (start by.mark by.stored.rows) in
      let there : w.at ≡ by.mark.at = ends ∙ sym (ap (λ (k : Mark). k.at) mark_is) in
      let at : (walk_from (turns_at by.mark.at) (shape_of plant) c (start by.mark by.stored.rows)).at.number ≡ by.mark.at.number = ap (λ (k : Walk). k.at.number) by.walk_is ∙ ap (λ (s : Spot). s.number) there in
      ap (λ (k : Walk). k.groups) (sym by.walk_is) ∙ counts.none at

  none_there : HasEmptyWalk plant c
  none_there = record { means = meant_for site; walk = w; meant = stands.meant c is; no_group = none_walked; ends_at_mark = ends }

pub nothing_is_walked : (plant : PlantState) → NothingIsWalked plant
nothing_is_walked plant excepted site stands empty c is = none_there plant excepted site stands empty c is

-- So no item is walked.
pub walked_none : (plant : PlantState) (images : Images) → HasEmptyWalk plant images → walked plant images ≡ []
walked_none plant images empty = ap walked_by empty.meant ∙ ap (λ (gs : List Logged). flat_map (λ g. g.items) gs) empty.no_group
