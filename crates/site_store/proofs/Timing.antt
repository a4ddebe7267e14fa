-- The times that deeds mean.
use Rattle.std.proofs.Common.{ℕ, zero, suc, ◌≤◌, List, [], ◌∷◌, take, arith}
use Rattle.record_rows.specs.Deeds.{Deed, time_by_deed, time_meant_after}
use Rattle.site_store.specs.DeedLaws.{AreInTime, TimesNeverFall}

later : (time : ℕ) (deeds : List Deed) (n : ℕ) → AreInTime time deeds → time ≤ time_meant_after (take n deeds) time
later time deeds zero come = omega arith
later time [] (suc n) come = omega arith
later time (deed ∷ deeds) (suc n) come = omega (arith, come.0, later (time_by_deed time deed) deeds n come.1)

-- The time after all of them isn't below the one before them.
pub later_all : (time : ℕ) (deeds : List Deed) → AreInTime time deeds → time ≤ time_meant_after deeds time
later_all time [] come = omega arith
later_all time (deed ∷ deeds) come = omega (arith, come.0, later_all (time_by_deed time deed) deeds come.1)

pub never_fall : TimesNeverFall
never_fall time deeds zero n come le = later time deeds n come
never_fall time deeds (suc m) zero come le = absurd (omega (arith, le))
never_fall time [] (suc m) (suc n) come le = omega arith
never_fall time (deed ∷ deeds) (suc m) (suc n) come le = never_fall (time_by_deed time deed) deeds m n come.1 (omega (arith, le))
