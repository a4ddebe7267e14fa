-- What lending volumes and taking them back leaves as it was, one volume after another.
use Rattle.std.proofs.Common.{◌≡◌, inl, inr, ℕ, ◌<◌, ◌≤◌, List, refl, sym, ◌∙◌, subst, arith}
use Rattle.std.proofs.lemmas.Bool.{cases_lt}
use Rattle.crash_plant.specs.declared.device.Device.{Device}
use Rattle.crash_plant.specs.declared.device.Device.TheVariants.{Volume}
use Rattle.crash_plant.specs.Moments.{PlantState, on}
use Rattle.crash_plant.specs.Calls.{LeavesAllBut}
use Rattle.crash_plant.proofs.Steps.{kept_here, kept_trans, stays_trans, site_trans, loan_trans, works_on_here}
use Rattle.applier.specs.Loans.{LeavesBut}

-- no call
pub leaves_here : (tells : Type 0) (among : Device → Type 0) (a : PlantState) → LeavesBut tells among a a
leaves_here tells among a =
    let same = works_on_here tells among a in
    record {
      site = same.site;
      loans = λ v other. same.loans v;
      goes_on = λ told. (omega arith, λ none. none);
      heard = λ told t up to. refl;
      said = λ told t up to. refl;
      kept = λ told d other. kept_here (on a d);
      silent = same.silent;
      others = same.others;
      others_faults = same.others_faults;
      console_faults = refl;
    }

-- what doesn't change at any moment of two rows of calls
quiet_then : (a b c : ℕ) (x y z : ℕ → List ℕ) → a ≤ b → ((t : ℕ) → 0 < b → t ≤ b → z t ≡ y t) → ((t : ℕ) → a ≤ t → t ≤ b → y t ≡ x a) → ((t : ℕ) → b ≤ t → t ≤ c → z t ≡ y b) → (t : ℕ) → a ≤ t → t ≤ c → z t ≡ x a
quiet_then a b c x y z le kept first second t from to = elim (cases_lt t b) [
  | inl early ↦ kept t (omega (arith, early)) (omega (arith, early)) ∙ first t from (omega (arith, early))
  | inr late ↦ second t late to ∙ first b le (omega arith)
]

-- One volume more is lent or taken back.
pub leaves_then : (tells : Type 0) (among more : Device → Type 0) (v : ℕ) (a b c : PlantState) → ((d : Device) → among d → more d) → more (Volume v) → LeavesBut tells among a b → LeavesAllBut tells v b c → LeavesBut tells more a c
leaves_then tells among more v a b c wider own x y = record {
  site = site_trans a b c x.site y.site;
  loans = λ w other. loan_trans w a b c (x.loans w (λ is. other (wider (Volume w) is))) (y.loans w (λ same. other (subst (λ (u : ℕ). more (Volume u)) (sym same) own)));
  goes_on = λ told. (omega (arith, (x.goes_on told).0, (y.goes_on told).0), λ none. (y.goes_on told).1 ((x.goes_on told).1 none));
  heard = λ told t up to. let le = (x.goes_on told).0 in y.heard told t (omega (arith, up, le)) (omega (arith, to, le)) ∙ x.heard told t up to;
  said = λ told t up to. let le = (x.goes_on told).0 in y.said told t (omega (arith, up, le)) (omega (arith, to, le)) ∙ x.said told t up to;
  kept = λ told d other. kept_trans (on a d) (on b d) (on c d) (x.kept told d (λ is. other (wider d is))) (y.kept told d (apart d other));
  silent = λ told. record {
    heard = quiet_then a.clock b.clock c.clock a.heard b.heard c.heard (x.goes_on told).0 (y.heard told) (x.silent told).heard (y.silent told).heard;
    said = quiet_then a.clock b.clock c.clock a.said b.said c.said (x.goes_on told).0 (y.said told) (x.silent told).said (y.silent told).said;
    script = (y.silent told).script ∙ (x.silent told).script;
  };
  others = λ told d other. stays_trans (on a d) (on b d) (on c d) (x.others told d (λ is. other (wider d is))) (x.kept told d (λ is. other (wider d is))) (y.kept told d (apart d other)) (y.others told d (apart d other));
  others_faults = λ d other. y.others_faults d (apart d other) ∙ x.others_faults d (λ is. other (wider d is));
  console_faults = y.console_faults ∙ x.console_faults;
}
  where
    apart : (d : Device) → ¬ more d → d ≡ Volume v → ⊥
    apart d other same = other (subst (λ (e : Device). more e) (sym same) own)
