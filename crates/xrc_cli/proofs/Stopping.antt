-- Which stops end a run, and what their statuses tell.
use Rattle.site_store.specs.Records.{IsStore}
use Rattle.std.proofs.Common.{◌≡◌, ◌⊎◌, inl, inr, ℕ, ◌+◌, ◌≤◌, ◌==◌, ◌||◌, Bool, true, false, true≢false, nat_eq, refl, sym, ap, subst, ◌∙◌, arith, ◌≢◌}
use Rattle.std.proofs.lemmas.Bool.{eq-eqb}
use Rattle.xrc_edge.specs.Causes.{Rose}
use Rattle.crash_plant.specs.declared.device.Device.{Device}
use Rattle.crash_plant.specs.declared.device.Device.TheVariants.{Control, Journal, State}
use Rattle.crash_plant.specs.Moments.{PlantState}
use Rattle.xrc_status.specs.declared.stop.Stop.{Stop}
use Rattle.xrc_status.specs.declared.stop.Stop.TheVariants as stops
use Rattle.xrc_status.specs.Stops.{status_of}
use Rattle.xrc_session.specs.Openings.{ComesEarly, IsOfHeaders, IsOfSite}
use Rattle.xrc_session.specs.Stops.{HasRunCause, HasStopCause, stop_of_device}
use Rattle.xrc_cli.specs.Statuses.{HasStatusCause, may_end_run}

-- The stops of a run, with the causes of those that have one by counts.
pub data EndsBy (old new : PlantState) : Stop → Type 0 where
  BySite : EndsBy old new stops.BadSite
  ByLength : (d : Device) (needed : ℕ) → EndsBy old new (stops.TooSmall d needed)
  ByHeader : (k place : ℕ) → EndsBy old new (stops.BadHeader k place)
  BySource : (k : ℕ) → EndsBy old new (stops.HeaderFault k)
  ByMemory : EndsBy old new stops.NoMemory
  ByLine : (n : ℕ) → EndsBy old new (stops.BadLine n)
  ByNumbers : EndsBy old new stops.Spent
  ByConsole : Rose old.console_faults new.console_faults → EndsBy old new stops.ConsoleFault
  ByJournal : (j : ℕ) → Rose (old.faults (Journal j)) (new.faults (Journal j)) → EndsBy old new (stops.JournalFault j)
  ByControl : Rose (old.faults Control) (new.faults Control) → EndsBy old new stops.ControlFault
  ByState : Rose (old.faults State) (new.faults State) → EndsBy old new stops.StateFault

module _ (old new : PlantState) where
  ends_late : (stop : Stop) → HasStopCause old new stop → EndsBy old new stop
  ends_late stops.ConsoleFault cause = ByConsole cause
  ends_late (stops.JournalFault j) cause = ByJournal j cause
  ends_late stops.ControlFault cause = ByControl cause
  ends_late stops.StateFault cause = ByState cause
  ends_late stops.Spent cause = ByNumbers
  ends_late stops.NoMemory cause = ByMemory
  ends_late (stops.BadLine n) cause = absurd cause
  ends_late stops.BadWords cause = absurd cause
  ends_late (stops.BadHeader k place) cause = absurd cause
  ends_late (stops.HeaderFault k) cause = absurd cause
  ends_late stops.NoSession cause = absurd cause
  ends_late (stops.OtherSession name) cause = absurd cause
  ends_late (stops.Damaged d place) cause = absurd cause
  ends_late stops.VolumeFault cause = absurd cause
  ends_late (stops.TooSmall d needed) cause = absurd cause
  ends_late stops.BadSite cause = absurd cause

  -- A run's stop is one of these.
  pub ends_by : (stop : Stop) → ComesEarly stop ⊎ HasRunCause old new stop → EndsBy old new stop
  ends_by stop (inl (inl (inl is))) = subst (λ (x : Stop). EndsBy old new x) (sym is) BySite
  ends_by stop (inl (inl (inr (d, needed, is)))) = subst (λ (x : Stop). EndsBy old new x) (sym is) (ByLength d needed)
  ends_by stop (inl (inr (inl (k, place, is)))) = subst (λ (x : Stop). EndsBy old new x) (sym is) (ByHeader k place)
  ends_by stop (inl (inr (inr (k, is)))) = subst (λ (x : Stop). EndsBy old new x) (sym is) (BySource k)
  ends_by stop (inr (inl cause)) = ends_late stop cause
  ends_by stop (inr (inr (n, is))) = subst (λ (x : Stop). EndsBy old new x) (sym is) (ByLine n)

  -- ---- statuses

  pub status_known : (stop : Stop) → EndsBy old new stop → may_end_run (status_of stop) ≡ true
  status_known _ BySite = refl
  status_known _ (ByLength d needed) = refl
  status_known _ (ByHeader k place) = refl
  status_known _ (BySource k) = refl
  status_known _ ByMemory = refl
  status_known _ (ByLine n) = refl
  status_known _ ByNumbers = refl
  status_known _ (ByConsole rose) = refl
  status_known _ (ByJournal j rose) = refl
  status_known _ (ByControl rose) = refl
  status_known _ (ByState rose) = refl

  pub not_done : (stop : Stop) → EndsBy old new stop → status_of stop ≡ 0 → ⊥
  not_done _ BySite is = omega (arith, is)
  not_done _ (ByLength d needed) is = omega (arith, is)
  not_done _ (ByHeader k place) is = omega (arith, is)
  not_done _ (BySource k) is = omega (arith, is)
  not_done _ ByMemory is = omega (arith, is)
  not_done _ (ByLine n) is = omega (arith, is)
  not_done _ ByNumbers is = omega (arith, is)
  not_done _ (ByConsole rose) is = omega (arith, is)
  not_done _ (ByJournal j rose) is = omega (arith, is)
  not_done _ (ByControl rose) is = omega (arith, is)
  not_done _ (ByState rose) is = omega (arith, is)

  -- whether a status has its cause by a count
  abbrev is_counted : (status : ℕ) → Bool
  is_counted status = status == 0 || status == 3 || status == 5 || status == 6 || status == 7

  -- No count of a store changed but with its own stop.
  abbrev pub StoresAsWere : Stop → Type 0
  StoresAsWere stop = (d : Device) → IsStore d → stop ≢ stop_of_device d → new.faults d ≡ old.faults d

  -- None did but with its own status.
  by_status : (stop : Stop) → StoresAsWere stop → (d : Device) → IsStore d → status_of stop ≢ status_of (stop_of_device d) → new.faults d ≡ old.faults d
  by_status stop as_were d store other = as_were d store (λ is. other (ap status_of is))

  -- A status without a cause by a count.
  uncounted : (status : ℕ) → may_end_run status ≡ true → is_counted status ≡ false → ((d : Device) → IsStore d → status ≢ status_of (stop_of_device d) → new.faults d ≡ old.faults d) → new.console_faults ≤ old.console_faults + 1 → HasStatusCause status old new
  uncounted status known not as_were once = record {
    known = known;
    counts = as_were;
    console_count = λ is. absurd (never 0 is refl);
    console_once = once;
    console = λ is. absurd (never 3 is refl);
    journal = λ is. absurd (never 5 is refl);
    control = λ is. absurd (never 6 is refl);
    state = λ is. absurd (never 7 is refl);
  }
    where
      never : (n : ℕ) → status ≡ n → is_counted n ≡ true → ⊥
      never n is counted = true≢false (sym counted ∙ sym (ap is_counted is) ∙ not)

  -- Each status has its cause.
  pub status_cause : (stop : Stop) → EndsBy old new stop → StoresAsWere stop → new.console_faults ≤ old.console_faults + 1 → HasStatusCause (status_of stop) old new
  status_cause _ BySite as_were once = uncounted 16 refl refl (by_status stops.BadSite as_were) once
  status_cause _ (ByLength d needed) as_were once = uncounted 14 refl refl (by_status (stops.TooSmall d needed) as_were) once
  status_cause _ (ByHeader k place) as_were once = uncounted 8 refl refl (by_status (stops.BadHeader k place) as_were) once
  status_cause _ (BySource k) as_were once = uncounted 9 refl refl (by_status (stops.HeaderFault k) as_were) once
  status_cause _ ByMemory as_were once = uncounted 1 refl refl (by_status stops.NoMemory as_were) once
  status_cause _ (ByLine n) as_were once = uncounted 4 refl refl (by_status (stops.BadLine n) as_were) once
  status_cause _ ByNumbers as_were once = uncounted 24 refl refl (by_status stops.Spent as_were) once
  status_cause _ (ByConsole rose) as_were once = record {
    known = refl;
    counts = by_status stops.ConsoleFault as_were;
    console_count = λ is. absurd (omega (arith, is));
    console_once = once;
    console = λ is. rose;
    journal = λ is. absurd (omega (arith, is));
    control = λ is. absurd (omega (arith, is));
    state = λ is. absurd (omega (arith, is));
  }
  status_cause _ (ByJournal j rose) as_were once = record {
    known = refl;
    counts = by_status (stops.JournalFault j) as_were;
    console_count = λ is. absurd (omega (arith, is));
    console_once = once;
    console = λ is. absurd (omega (arith, is));
    journal = λ is. (j, rose, λ other not. as_were (Journal other) tt (λ same. not (let one : j ≡ other = cc same in sym one)));
    control = λ is. absurd (omega (arith, is));
    state = λ is. absurd (omega (arith, is));
  }
  status_cause _ (ByControl rose) as_were once = record {
    known = refl;
    counts = by_status stops.ControlFault as_were;
    console_count = λ is. absurd (omega (arith, is));
    console_once = once;
    console = λ is. absurd (omega (arith, is));
    journal = λ is. absurd (omega (arith, is));
    control = λ is. rose;
    state = λ is. absurd (omega (arith, is));
  }
  status_cause _ (ByState rose) as_were once = record {
    known = refl;
    counts = by_status stops.StateFault as_were;
    console_count = λ is. absurd (omega (arith, is));
    console_once = once;
    console = λ is. absurd (omega (arith, is));
    journal = λ is. absurd (omega (arith, is));
    control = λ is. absurd (omega (arith, is));
    state = λ is. rose;
  }

  -- ---- what a status tells of its stop

  pub is_console : (stop : Stop) → EndsBy old new stop → status_of stop ≡ 3 → stop ≡ stops.ConsoleFault
  is_console _ (ByConsole rose) is = refl
  is_console _ BySite is = absurd (omega (arith, is))
  is_console _ (ByLength d needed) is = absurd (omega (arith, is))
  is_console _ (ByHeader k place) is = absurd (omega (arith, is))
  is_console _ (BySource k) is = absurd (omega (arith, is))
  is_console _ ByMemory is = absurd (omega (arith, is))
  is_console _ (ByLine n) is = absurd (omega (arith, is))
  is_console _ ByNumbers is = absurd (omega (arith, is))
  is_console _ (ByJournal j rose) is = absurd (omega (arith, is))
  is_console _ (ByControl rose) is = absurd (omega (arith, is))
  is_console _ (ByState rose) is = absurd (omega (arith, is))

  pub is_spent : (stop : Stop) → EndsBy old new stop → status_of stop ≡ 24 → stop ≡ stops.Spent
  is_spent _ ByNumbers is = refl
  is_spent _ BySite is = absurd (omega (arith, is))
  is_spent _ (ByLength d needed) is = absurd (omega (arith, is))
  is_spent _ (ByHeader k place) is = absurd (omega (arith, is))
  is_spent _ (BySource k) is = absurd (omega (arith, is))
  is_spent _ ByMemory is = absurd (omega (arith, is))
  is_spent _ (ByLine n) is = absurd (omega (arith, is))
  is_spent _ (ByConsole rose) is = absurd (omega (arith, is))
  is_spent _ (ByJournal j rose) is = absurd (omega (arith, is))
  is_spent _ (ByControl rose) is = absurd (omega (arith, is))
  is_spent _ (ByState rose) is = absurd (omega (arith, is))

  neither : (n a b : ℕ) → (n ≡ a) ⊎ (n ≡ b) → nat_eq n a ≡ false → nat_eq n b ≡ false → ⊥
  neither n a b (inl is) one two = true≢false (sym (eq-eqb n a is) ∙ one)
  neither n a b (inr is) one two = true≢false (sym (eq-eqb n b is) ∙ two)

  pub is_of_site : (stop : Stop) → EndsBy old new stop → (status_of stop ≡ 14) ⊎ (status_of stop ≡ 16) → IsOfSite stop
  is_of_site _ BySite is = inl refl
  is_of_site _ (ByLength d needed) is = inr (d, needed, refl)
  is_of_site _ (ByHeader k place) is = absurd (neither 8 14 16 is refl refl)
  is_of_site _ (BySource k) is = absurd (neither 9 14 16 is refl refl)
  is_of_site _ ByMemory is = absurd (neither 1 14 16 is refl refl)
  is_of_site _ (ByLine n) is = absurd (neither 4 14 16 is refl refl)
  is_of_site _ ByNumbers is = absurd (neither 24 14 16 is refl refl)
  is_of_site _ (ByConsole rose) is = absurd (neither 3 14 16 is refl refl)
  is_of_site _ (ByJournal j rose) is = absurd (neither 5 14 16 is refl refl)
  is_of_site _ (ByControl rose) is = absurd (neither 6 14 16 is refl refl)
  is_of_site _ (ByState rose) is = absurd (neither 7 14 16 is refl refl)

  pub is_of_headers : (stop : Stop) → EndsBy old new stop → (status_of stop ≡ 8) ⊎ (status_of stop ≡ 9) → IsOfHeaders stop
  is_of_headers _ (ByHeader k place) is = inl (k, place, refl)
  is_of_headers _ (BySource k) is = inr (k, refl)
  is_of_headers _ BySite is = absurd (neither 16 8 9 is refl refl)
  is_of_headers _ (ByLength d needed) is = absurd (neither 14 8 9 is refl refl)
  is_of_headers _ ByMemory is = absurd (neither 1 8 9 is refl refl)
  is_of_headers _ (ByLine n) is = absurd (neither 4 8 9 is refl refl)
  is_of_headers _ ByNumbers is = absurd (neither 24 8 9 is refl refl)
  is_of_headers _ (ByConsole rose) is = absurd (neither 3 8 9 is refl refl)
  is_of_headers _ (ByJournal j rose) is = absurd (neither 5 8 9 is refl refl)
  is_of_headers _ (ByControl rose) is = absurd (neither 6 8 9 is refl refl)
  is_of_headers _ (ByState rose) is = absurd (neither 7 8 9 is refl refl)
