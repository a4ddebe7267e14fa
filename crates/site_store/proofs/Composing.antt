-- Deeds of calls one after another.
use Rattle.std.proofs.Common.{◌≡◌, ◌⊎◌, inl, inr, ℕ, ◌<◌, List, [], ◌++◌, length, take, Option, Some, None, sym, subst, arith, append-nil, length-append}
use Rattle.std.specs.Prelude.{option_map}
use Rattle.crash_plant.specs.declared.device.Device.TheVariants.{Control}
use Rattle.crash_plant.specs.Calls.{Elapses, SameSite}
use Rattle.crash_plant.specs.Choices.{Choice, IsChoice}
use Rattle.crash_plant.specs.Moments.{PlantState}
use Rattle.crash_plant.proofs.Choices.{past_choice}
use Rattle.crash_plant.proofs.Steps.{elapses_trans, silent_trans, site_trans}
use Rattle.pair_table.specs.declared.row.PairRow.{PairRow}
use Rattle.passages.specs.Points.{GoesThrough}
use Rattle.passages.proofs.InARow.{in_a_row, passed_still}
use Rattle.record_rows.specs.Deeds.{Deed, rows_after_deeds}
use Rattle.site_store.specs.DoneDeeds.{DoesDeeds, GoesThroughDeeds, PassedDeed, points_of, with_next}
use Rattle.site_store.specs.Exceptions.{Exceptions, excepted_after}
use Rattle.site_store.specs.DeedLaws.{DeedsBeginAfter, DeedsGoOn, SightsCompose}
use Rattle.site_store.specs.Seeing.{SeesAfter}
use Rattle.site_store.proofs.Points.{first_in_turn, last_done, next_in_turn, passed_after, points_in_turn}
use Rattle.site_store.proofs.Seeing.{sees_then}

pub sights_compose : (old mid : PlantState) → SightsCompose old mid
sights_compose old mid excepted rows a b c site first then = sees_then old mid site excepted rows a first b c then

-- Calls up to a middle state that do deeds, and calls from there on.
module _ (old mid new : PlantState) (excepted : Exceptions) (rows : List PairRow) (a b : List Deed) (did : DoesDeeds excepted rows a old mid) (site : SameSite mid new) (elapses : Elapses mid new) where
  abbrev Sees : List Deed → Choice → Type 0
  Sees done c = SeesAfter old excepted rows done c

  abbrev SeesLater : List Deed → Choice → Type 0
  SeesLater done c = SeesAfter mid (excepted_after rows a excepted) (rows_after_deeds a rows) done c

  later : (done : List Deed) (c : Choice) → SeesLater done c → Sees (a ++ done) c
  later done c then = sees_then old mid did.site excepted rows a did.now done c then

  pub goes_then : (moments : List ℕ) (next : Option (List Deed)) → 0 < old.clock → GoesThroughDeeds mid new (excepted_after rows a excepted) (rows_after_deeds a rows) moments b next
      → GoesThroughDeeds old new excepted rows (did.moments ++ moments) (a ++ b) (option_map (λ p. a ++ p) next)
  goes_then moments next up goes =
      let past : 0 < mid.clock = omega (arith, up, (did.elapses.kept Control).later) in
      let first : GoesThrough (IsChoice new) Sees old.clock [] (points_of [] did.moments a) mid.clock None =
      passed_still (List Deed) Deed Choice (IsChoice mid) (IsChoice new) Sees old.clock mid.clock [] (points_of [] did.moments a) None (λ t within c has. past_choice mid new t c site elapses past within has) (did.goes up) in
      let after : GoesThrough (IsChoice new) Sees mid.clock (a ++ []) (points_of (a ++ []) moments b) new.clock (option_map (λ (p : List Deed). a ++ p) next) =
      passed_after Choice (IsChoice new) SeesLater Sees a later mid.clock new.clock [] moments b next goes in
      let here : GoesThrough (IsChoice new) Sees mid.clock a (points_of a moments b) new.clock (option_map (λ (p : List Deed). a ++ p) next) =
      subst (λ (q : List Deed). GoesThrough (IsChoice new) Sees mid.clock q (points_of q moments b) new.clock (option_map (λ (p : List Deed). a ++ p) next)) (append-nil a) after in
      let rest = subst (λ (q : List Deed). GoesThrough (IsChoice new) Sees mid.clock q (points_of a moments b) new.clock (option_map (λ (p : List Deed). a ++ p) next)) (sym (last_done [] did.moments a did.each)) here in
      subst (λ (ps : List PassedDeed). GoesThrough (IsChoice new) Sees old.clock [] ps new.clock (option_map (λ (p : List Deed). a ++ p) next)) (sym (points_in_turn [] did.moments a moments b did.each))
      (in_a_row (List Deed) Deed Choice (IsChoice new) Sees old.clock mid.clock new.clock [] (points_of [] did.moments a) (points_of a moments b) (option_map (λ (p : List Deed). a ++ p) next) first rest)

  pub either_then : (p q m n : List Deed) (c : Choice) → m ≡ a ++ p → n ≡ a ++ q → SeesLater p c ⊎ SeesLater q c → Sees m c ⊎ Sees n c
  either_then p q m n c is_first is_next (inl sees) = inl (subst (λ (l : List Deed). Sees l c) (sym is_first) (later p c sees))
  either_then p q m n c is_first is_next (inr sees) = inr (subst (λ (l : List Deed). Sees l c) (sym is_next) (later q c sees))

pub go_on : (old mid new : PlantState) → DeedsGoOn old mid new
go_on old mid new excepted rows a b did does = record {
  site = site_trans old mid new did.site does.site;
  elapses = elapses_trans Control old mid new did.elapses does.elapses;
  silent = silent_trans Control old mid new did.elapses does.elapses did.silent does.silent;
  moments = did.moments ++ does.moments;
  each = omega (arith, length-append did.moments does.moments, length-append a b, did.each, does.each);
  goes = λ up. goes_then old mid new excepted rows a b did does.site does.elapses does.moments None up (does.goes (omega (arith, up, (did.elapses.kept Control).later)));
  now = λ c has. sees_then old mid did.site excepted rows a did.now b c (does.now c has);
}

pub begin_after : (old mid new : PlantState) → DeedsBeginAfter old mid new
begin_after old mid new excepted rows a b did begins = record {
  site = site_trans old mid new did.site begins.site;
  elapses = elapses_trans Control old mid new did.elapses begins.elapses;
  silent = silent_trans Control old mid new did.elapses begins.elapses did.silent begins.silent;
  moments = did.moments ++ begins.moments;
  few = omega (arith, length-append did.moments begins.moments, length-append a b, did.each, begins.few);
  goes = λ up.
      let up_later : 0 < mid.clock = omega (arith, up, (did.elapses.kept Control).later) in
      subst (λ (q : List Deed). GoesThroughDeeds old new excepted rows (did.moments ++ begins.moments) (a ++ b) (Some q)) (sym next)
      (goes_then old mid new excepted rows a b did begins.site begins.elapses begins.moments (Some (with_next (length begins.moments) b)) up (begins.goes up_later));
  now = λ c has. either_then old mid new excepted rows a b did begins.site begins.elapses (take (length begins.moments) b) (with_next (length begins.moments) b) (take (length (did.moments ++ begins.moments)) (a ++ b))
      (with_next (length (did.moments ++ begins.moments)) (a ++ b)) c (first_in_turn did.moments begins.moments a b did.each) next (begins.now c has);
}
  where
    next : with_next (length (did.moments ++ begins.moments)) (a ++ b) ≡ a ++ with_next (length begins.moments) b
    next = next_in_turn did.moments begins.moments a b did.each
