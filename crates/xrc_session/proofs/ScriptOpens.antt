-- How the opening of a script's run stops it.
use Rattle.std.proofs.Common.{◌≡◌, ◌⊎◌, inl, inr, ℕ, List, [], length, Option, Some, None, Result, Ok, Err, refl, sym, ap, subst, ◌∙◌}
use Rattle.std.specs.Prelude.{IfErr, IsErrOf}
use Rattle.crash_plant.specs.Moments.{PlantState}
use Rattle.mover.specs.declared.lane.Lane.{Lane}
use Rattle.xrc_status.specs.declared.stop.Stop.{Stop}
use Rattle.xrc_status.specs.declared.stop.Stop.TheVariants as stops
use Rattle.xrc_session.specs.Lanes.{AllTold, AllWent, SourceBytes}
use Rattle.xrc_session.specs.Openings.{ComesEarly, OpensInOrder, StayGood, opening_stop, stop_of_headers, stop_of_site}
use Rattle.xrc_session.specs.Stops.{HasRunCause, HasStopCause}
use Rattle.xrc_session.proofs.InTurn.{NoneFell, cause_before}
use Rattle.xrc_session.proofs.StartWorks.{err_as}

-- ---- the opening

-- A stop that comes early has no cause after the opening.
run_cause_late : (old new : PlantState) (stop : Stop) → HasRunCause old new stop → ComesEarly stop → ⊥
run_cause_late old new stop cause (inl (inl is)) = by_cause (subst (λ (x : Stop). HasRunCause old new x) is cause)
  where
    by_cause : HasRunCause old new stops.BadSite → ⊥
    by_cause (inl never) = never
    by_cause (inr bad) = let clash = bad.1 in cc
run_cause_late old new stop cause (inl (inr (d, needed, is))) = by_cause (subst (λ (x : Stop). HasRunCause old new x) is cause)
  where
    by_cause : HasRunCause old new (stops.TooSmall d needed) → ⊥
    by_cause (inl never) = never
    by_cause (inr bad) = let clash = bad.1 in cc
run_cause_late old new stop cause (inr (inl (k, place, is))) = by_cause (subst (λ (x : Stop). HasRunCause old new x) is cause)
  where
    by_cause : HasRunCause old new (stops.BadHeader k place) → ⊥
    by_cause (inl never) = never
    by_cause (inr bad) = let clash = bad.1 in cc
run_cause_late old new stop cause (inr (inr (k, is))) = by_cause (subst (λ (x : Stop). HasRunCause old new x) is cause)
  where
    by_cause : HasRunCause old new (stops.HeaderFault k) → ⊥
    by_cause (inl never) = never
    by_cause (inr bad) = let clash = bad.1 in cc

pub comes_late : {T : Type 0} (old new : PlantState) (result : Result T Stop) → IfErr result (HasRunCause old new) → (stop : Stop) → IsErrOf result stop → ComesEarly stop → ⊥
comes_late {T} old new (Ok value) cause stop is early = absurd cc
comes_late {T} old new (Err other) cause stop is early = let same : other ≡ stop = cc in run_cause_late old new stop (subst (λ (x : Stop). HasRunCause old new x) same cause) early

-- A result of another type opens so, too, if it stops so.
pub opens_err : {S T U : Type 0} (left : S → Option (List ℕ)) (faults : S → ℕ) (controls : ℕ) (before now : List (Lane S)) (plant : PlantState) (stop : Stop) → (let r : Result T Stop = Err stop in OpensInOrder left faults controls before now plant r)
    → (let r : Result U Stop = Err stop in OpensInOrder left faults controls before now plant r)
opens_err {S} {T} {U} left faults controls before now plant stop opens = record {
  site = λ x due. let a = opens.site x due in (err_as {T = T} {U = U} stop x a.0, a.1);
  of_site = λ x of is. opens.of_site x of (err_as {T = U} {U = T} stop x is);
  headers = λ sources x told due. by_side x (opens.headers sources x told due);
  of_headers = λ sources x told of is. opens.of_headers sources x told of (err_as {T = U} {U = T} stop x is);
  fault = λ k d is. opens.fault k d (err_as {T = U} {U = T} stop (stops.HeaderFault k) is);
}
  where
    by_side : (x : Stop) → (let r : Result T Stop = Err stop in IsErrOf r x ⊎ IsErrOf r stops.NoMemory) → (let r : Result U Stop = Err stop in IsErrOf r x ⊎ IsErrOf r stops.NoMemory)
    by_side x (inl is) = inl (err_as {T = T} {U = U} stop x is)
    by_side x (inr none) = inr (err_as {T = T} {U = U} stop stops.NoMemory none)

pub opens_so : {S T U : Type 0} (left : S → Option (List ℕ)) (faults : S → ℕ) (controls : ℕ) (before now : List (Lane S)) (plant : PlantState) (made : Result T Stop) (result : Result U Stop) (stop : Stop) → made ≡ Err stop → result ≡ Err stop
    → OpensInOrder left faults controls before now plant made → OpensInOrder left faults controls before now plant result
opens_so {S} {T} {U} left faults controls before now plant made result stop was is opens =
    subst (λ (r : Result U Stop). OpensInOrder left faults controls before now plant r) (sym is)
    (opens_err {T = T} {U = U} left faults controls before now plant stop (subst (λ (r : Result T Stop). OpensInOrder left faults controls before now plant r) was opens))

-- What is so of a stop is so of a result that stops so, and the other way round.
pub err_from : {T : Type 0} (result : Result T Stop) (stop : Stop) (is_so : Stop → Type 0) → result ≡ Err stop → is_so stop → IfErr result is_so
err_from {T} result stop is_so is so = subst (λ (r : Result T Stop). IfErr r is_so) (sym is) so

pub err_of : {T : Type 0} (result : Result T Stop) (stop : Stop) (is_so : Stop → Type 0) → result ≡ Err stop → IfErr result is_so → is_so stop
err_of {T} result stop is_so is so = subst (λ (r : Result T Stop). IfErr r is_so) is so

-- An opening stops for its own causes, or for want of memory.
pub early_cause : (old new : PlantState) (stop : Stop) → ComesEarly stop ⊎ (stop ≡ stops.NoMemory) → ComesEarly stop ⊎ HasRunCause old new stop
early_cause old new stop (inl early) = inl early
early_cause old new stop (inr memory) = inr (inl (subst (λ (x : Stop). HasStopCause old new x) (sym memory) tt))

-- After the lines a run stops for the causes of a line.
pub finish_late : (old new : PlantState) (result : Result (Unit {0}) Stop) → IfErr result (HasStopCause old new) → (stop : Stop) → IsErrOf result stop → ComesEarly stop → ⊥
finish_late old new (Ok value) cause stop is early = absurd cc
finish_late old new (Err other) cause stop is early = comes_late old new (Err other) (inl cause) stop is early

pub finish_cause : (old mid new : PlantState) (result : Result (Unit {0}) Stop) → NoneFell old mid → IfErr result (HasStopCause mid new) → IfErr result (λ stop. ComesEarly stop ⊎ HasRunCause old new stop)
finish_cause old mid new (Ok value) fell cause = tt
finish_cause old mid new (Err stop) fell cause = inr (inl (cause_before old mid new stop fell cause))

-- A stop that isn't early says nothing of early ones.
pub none_early : {T : Type 0} (A : Type 0) (result : Result T Stop) → ((stop : Stop) → IsErrOf result stop → ComesEarly stop → ⊥) → IfErr result (λ stop. ComesEarly stop → A)
none_early {T} A (Ok value) late = tt
none_early {T} A (Err stop) late = λ early. absurd (late stop refl early)

-- What an opening says where no stop is due.
pub opening_none : (controls : ℕ) (plant : PlantState) (sources : List SourceBytes) → opening_stop controls plant sources ≡ None → (stop_of_site controls (length sources) plant ≡ None) × (stop_of_headers 0 [] sources ≡ None)
opening_none controls plant sources none = by_site (stop_of_site controls (length sources) plant) refl none
  where
    by_site : (o : Option Stop) → stop_of_site controls (length sources) plant ≡ o → (let x : Option Stop = elim o [ Some stop ↦ Some stop | None ↦ stop_of_headers 0 [] sources ] in x ≡ None) → (stop_of_site controls (length sources) plant ≡ None) × (stop_of_headers 0 [] sources ≡ None)
    by_site None is rest = (is, rest)
    by_site (Some stop) is rest = absurd cc

opening_some : (controls : ℕ) (plant : PlantState) (sources : List SourceBytes) (stop : Stop) → stop_of_site controls (length sources) plant ≡ None → opening_stop controls plant sources ≡ Some stop → stop_of_headers 0 [] sources ≡ Some stop
opening_some controls plant sources stop none due = by_site (stop_of_site controls (length sources) plant) none due
  where
    by_site : (o : Option Stop) → o ≡ None → (let x : Option Stop = elim o [ Some stop ↦ Some stop | None ↦ stop_of_headers 0 [] sources ] in x ≡ Some stop) → stop_of_headers 0 [] sources ≡ Some stop
    by_site None is rest = rest
    by_site (Some other) is rest = absurd cc

-- After an opening that was done no stop is due by it.
pub never_due : {S T : Type 0} (left : S → Option (List ℕ)) (faults : S → ℕ) (controls : ℕ) (before opened last : List (Lane S)) (plant : PlantState) (value : T) → (let r : Result T Stop = Ok value in OpensInOrder left faults controls before opened plant r) → StayGood left faults before opened
    → AllWent left faults opened last → (sources : List SourceBytes) (stop : Stop) → AllTold left faults before last sources → opening_stop controls plant sources ≡ Some stop → ⊥
never_due {S} {T} left faults controls before opened last plant value opens good went sources stop told due =
    let site : stop_of_site controls (length sources) plant ≡ None = ap (λ (n : ℕ). stop_of_site controls n plant) told.many ∙ none_of_site (stop_of_site controls (length before) plant) refl in
    let clash : Some stop ≡ None = sym (opening_some controls plant sources stop site due) ∙ good last sources told went in
    cc
  where
    never : (x : Stop) → (let r : Result T Stop = Ok value in IsErrOf r x) → ⊥
    never x is = cc

    none_of_site : (o : Option Stop) → stop_of_site controls (length before) plant ≡ o → stop_of_site controls (length before) plant ≡ None
    none_of_site None is = is
    none_of_site (Some x) is = absurd (never x (opens.site x is).0)

-- After an opening that was done, whatever comes later opens in order.
pub opens_done : {S T U : Type 0} (left : S → Option (List ℕ)) (faults : S → ℕ) (controls : ℕ) (before opened last : List (Lane S)) (plant : PlantState) (value : T) → (let r : Result T Stop = Ok value in OpensInOrder left faults controls before opened plant r) → StayGood left faults before opened
    → AllWent left faults opened last → (result : Result U Stop) → ((stop : Stop) → IsErrOf result stop → ComesEarly stop → ⊥) → OpensInOrder left faults controls before last plant result
opens_done {S} {T} {U} left faults controls before opened last plant value opens good went result late = record {
  site = λ stop due. absurd (never stop (opens.site stop due).0);
  of_site = λ stop of is. absurd (late stop is (inl of));
  headers = λ sources stop told due. absurd (never_due left faults controls before opened last plant value opens good went sources stop told due);
  of_headers = λ sources stop told of is. absurd (late stop is (inr of));
  fault = λ k d is. absurd (late (stops.HeaderFault k) is (inr (inr (k, refl))));
}
  where
    never : (stop : Stop) → (let r : Result T Stop = Ok value in IsErrOf r stop) → ⊥
    never stop is = cc
