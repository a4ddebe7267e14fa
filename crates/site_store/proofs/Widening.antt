-- Deeds from more exceptions.
use Rattle.std.proofs.Common.{◌≡◌, ◌⊎◌, inl, inr, ℕ, Bool, true, false, ◌&&◌, ◌||◌, List, [], ◌∷◌, length, take, Some, None, refl}
use Rattle.std.specs.Prelude.{not}
use Rattle.std.specs.List.{list_any}
use Rattle.crash_plant.specs.Choices.{Choice, IsChoice}
use Rattle.crash_plant.specs.Moments.{PlantState}
use Rattle.pair_table.specs.declared.row.PairRow.{PairRow}
use Rattle.record_rows.specs.Deeds.{Deed, entries_by_deed, rows_by_deed}
use Rattle.site_store.specs.DoneDeeds.{BeginsDeeds, DoesDeeds, with_next}
use Rattle.site_store.specs.Exceptions.{Exceptions, excepted_after, excepted_by_deed, is_kept, is_whole_on}
use Rattle.site_store.specs.DeedLaws.{MoreMayBeExcepted}
use Rattle.site_store.specs.Seeing.{SeesAfter}
use Rattle.site_store.proofs.Points.{passed_after}

fewer_here : (lost whole more excepted : Bool) → (more ≡ false → excepted ≡ false) → (lost || (more && not whole)) ≡ false → (lost || (excepted && not whole)) ≡ false
fewer_here true whole more excepted fewer is = absurd cc
fewer_here false true true true fewer is = refl
fewer_here false true true false fewer is = refl
fewer_here false true false excepted fewer is = rw (fewer refl) refl
fewer_here false false true excepted fewer is = absurd cc
fewer_here false false false excepted fewer is = rw (fewer refl) refl

fewer_by : (rows : List PairRow) (deed : Deed) (excepted more : Exceptions) → ((d x : ℕ) → more d x ≡ false → excepted d x ≡ false) → (d x : ℕ) → excepted_by_deed rows deed more d x ≡ false → excepted_by_deed rows deed excepted d x ≡ false
fewer_by rows deed excepted more fewer d x is = fewer_here (not (is_kept d (rows_by_deed deed))) (list_any (is_whole_on rows d x) (entries_by_deed deed)) (more d x) (excepted d x) (fewer d x) is

fewer_after : (rows : List PairRow) (deeds : List Deed) (excepted more : Exceptions) → ((d x : ℕ) → more d x ≡ false → excepted d x ≡ false) → (d x : ℕ) → excepted_after rows deeds more d x ≡ false → excepted_after rows deeds excepted d x ≡ false
fewer_after rows [] excepted more fewer d x is = fewer d x is
fewer_after rows (deed ∷ deeds) excepted more fewer d x is = fewer_after (rows_by_deed deed) deeds (excepted_by_deed rows deed excepted) (excepted_by_deed rows deed more) (fewer_by rows deed excepted more fewer) d x is

module _ (old new : PlantState) (excepted more : Exceptions) (rows : List PairRow) (fewer : (d x : ℕ) → more d x ≡ false → excepted d x ≡ false) where
  sees : (done : List Deed) (c : Choice) → SeesAfter old excepted rows done c → SeesAfter old more rows done c
  sees done c is = record { from = is.from; was = is.was; means = is.means; content = λ d x within told. is.content d x within (fewer_after rows done excepted more fewer d x told) }

  either : (p q : List Deed) (c : Choice) → SeesAfter old excepted rows p c ⊎ SeesAfter old excepted rows q c → SeesAfter old more rows p c ⊎ SeesAfter old more rows q c
  either p q c (inl is) = inl (sees p c is)
  either p q c (inr is) = inr (sees q c is)

  pub does_still : (deeds : List Deed) → DoesDeeds excepted rows deeds old new → DoesDeeds more rows deeds old new
  does_still deeds does = record {
    site = does.site;
    elapses = does.elapses;
    silent = does.silent;
    moments = does.moments;
    each = does.each;
    goes = λ up. passed_after Choice (IsChoice new) (SeesAfter old excepted rows) (SeesAfter old more rows) [] sees old.clock new.clock [] does.moments deeds None (does.goes up);
    now = λ c has. sees deeds c (does.now c has);
  }

  pub begins_still : (deeds : List Deed) → BeginsDeeds excepted rows deeds old new → BeginsDeeds more rows deeds old new
  begins_still deeds begins = record {
    site = begins.site;
    elapses = begins.elapses;
    silent = begins.silent;
    moments = begins.moments;
    few = begins.few;
    goes = λ up. passed_after Choice (IsChoice new) (SeesAfter old excepted rows) (SeesAfter old more rows) [] sees old.clock new.clock [] begins.moments deeds (Some (with_next (length begins.moments) deeds)) (begins.goes up);
    now = λ c has. either (take (length begins.moments) deeds) (with_next (length begins.moments) deeds) c (begins.now c has);
  }

pub more_excepted : (old new : PlantState) → MoreMayBeExcepted old new
more_excepted old new excepted more rows deeds fewer = (does_still old new excepted more rows fewer deeds, begins_still old new excepted more rows fewer deeds)
