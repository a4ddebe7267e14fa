-- From the devices one by one to what a crash leaves on all.
use Rattle.std.proofs.Common.{◌≡◌, ◌≢◌, inl, inr, ◌⊎◌, ℕ, ◌≤◌, ◌<◌, List, [], refl, sym, ap, subst, arith}
use Rattle.std.proofs.lemmas.Bool.{cases_lt, cases_eq}
use Rattle.crash_plant.specs.declared.device.Device.{Device}
use Rattle.crash_plant.specs.declared.device.Device.TheVariants.{Control, State, Journal, Volume}
use Rattle.crash_plant.specs.Moments.{PlantState, on, Follows}
use Rattle.crash_plant.specs.Calls.{Elapses, IsPart, SameSite, WorksOn}
use Rattle.crash_plant.specs.Choices.{Choice, IsChoice, AllFollow}

-- A device is part of a plant, or it isn't.
pub part_cases : (plant : PlantState) (d : Device) → IsPart plant d ⊎ ¬ IsPart plant d
part_cases plant Control = inl tt
part_cases plant State = inl tt
part_cases plant (Journal j) = elim (cases_lt j plant.journals) [ inl part ↦ inl part | inr past ↦ inr (λ part. absurd (omega (arith, past, part))) ]
part_cases plant (Volume v) = elim (cases_lt v plant.volumes) [ inl part ↦ inl part | inr past ↦ inr (λ part. absurd (omega (arith, past, part))) ]

-- Numbers that stay keep the devices.
pub part_still : (old new : PlantState) (d : Device) → SameSite old new → IsPart old d → IsPart new d
part_still old new Control site part = tt
part_still old new State site part = tt
part_still old new (Journal j) site part = subst (λ (n : ℕ). j < n) (sym site.journals) part
part_still old new (Volume v) site part = subst (λ (n : ℕ). v < n) (sym site.volumes) part

pub part_before : (old new : PlantState) (d : Device) → SameSite old new → IsPart new d → IsPart old d
part_before old new Control site part = tt
part_before old new State site part = tt
part_before old new (Journal j) site part = subst (λ (n : ℕ). j < n) site.journals part
part_before old new (Volume v) site part = subst (λ (n : ℕ). v < n) site.volumes part

-- Where each device has an image there is a choice.
pub some_choice : (plant : PlantState) (t : ℕ) → ((d : Device) → IsPart plant d → (c : List ℕ) × plant.images t d c) → (c : Choice) × IsChoice plant t c
some_choice plant t image = (λ d. (one d (part_cases plant d)).0, λ d part. (one d (part_cases plant d)).1 part)
  where
    one : (d : Device) → IsPart plant d ⊎ ¬ IsPart plant d → (c : List ℕ) × (IsPart plant d → plant.images t d c)
    one d (inl part) = let found = image d part in (found.0, λ again. found.1)
    one d (inr out) = ([], λ part. absurd (out part))

-- each device by its step
pub all_follow : (step : Device → List ℕ → List ℕ → Type 0) (old new : PlantState) → SameSite old new → ((d : Device) → IsPart old d → Follows (step d) (on old d) (on new d))
    → AllFollow (λ b c. (d : Device) → (IsPart old d → step d (b d) (c d)) × (¬ IsPart old d → c d ≡ b d)) old new
all_follow step old new site each t from to c is = (λ d. (one d (part_cases old d)).0, λ d. (one d (part_cases old d)).1, λ d. (one d (part_cases old d)).2)
  where
    one : (d : Device) → IsPart old d ⊎ ¬ IsPart old d → (b : List ℕ) × (IsPart old d → old.images old.clock d b) × ((IsPart old d → step d b (c d)) × (¬ IsPart old d → c d ≡ b))
    one d (inl part) =
        let start = each d part t from to (c d) (is d (part_still old new d site part)) in
        (start.0, λ again. start.1, (λ again. start.2, λ out. absurd (out part)))
    one d (inr out) = (c d, λ part. absurd (out part), (λ part. absurd (out part), λ again. refl))

-- No choice comes to the past.
pub past_choice : (old new : PlantState) (t : ℕ) (c : Choice) → SameSite old new → Elapses old new → 0 < old.clock → t ≤ old.clock → IsChoice new t c → IsChoice old t c
past_choice old new t c site elapses up le is d part = (elapses.kept d).same t up le (c d) (is d (part_still old new d site part))

-- no call
pub choices_here : (a : PlantState) (step : Choice → Choice → Type 0) → ((c : Choice) → IsChoice a a.clock c → step c c) → AllFollow step a a
choices_here a step same t from to c is =
    let here : t ≡ a.clock = omega arith in
    let now = subst (λ (s : ℕ). IsChoice a s c) here is in
    (c, now, same c now)

-- One call more.
pub choices_then : (a b c : PlantState) (so_far step all : Choice → Choice → Type 0) → a.clock ≤ b.clock → AllFollow so_far a b → SameSite b c → Elapses b c → AllFollow step b c → ((x y : Choice) → IsChoice a a.clock x → so_far x y → all x y)
    → ((x y z : Choice) → IsChoice a a.clock x → IsChoice b b.clock y → so_far x y → step y z → all x z) → AllFollow all a c
choices_then a b c so_far step all le f site elapses s first then t from to z is = elim (cases_lt t b.clock) [
  | inl early ↦
      let start = f t from (omega (arith, early)) z (past_choice b c t z site elapses (omega (arith, early)) (omega (arith, early)) is) in
      (start.0, start.1, first start.0 z start.1 start.2)
  | inr late ↦
      let mid = s t late to z is in
      let start = f b.clock le (omega arith) mid.0 mid.1 in
      (start.0, start.1, then start.0 mid.0 z start.1 mid.1 start.2 mid.2)
]

-- Two devices are the same, or they aren't.
pub device_cases : (d e : Device) → (d ≡ e) ⊎ (d ≢ e)
device_cases Control Control = inl refl
device_cases Control State = inr (λ same. cc same)
device_cases Control (Journal j) = inr (λ same. cc same)
device_cases Control (Volume v) = inr (λ same. cc same)
device_cases State Control = inr (λ same. cc same)
device_cases State State = inl refl
device_cases State (Journal j) = inr (λ same. cc same)
device_cases State (Volume v) = inr (λ same. cc same)
device_cases (Journal i) Control = inr (λ same. cc same)
device_cases (Journal i) State = inr (λ same. cc same)
device_cases (Journal i) (Journal j) = elim (cases_eq i j) [ inl is ↦ inl (ap Journal is) | inr differ ↦ inr (λ same. differ (cc same)) ]
device_cases (Journal i) (Volume v) = inr (λ same. cc same)
device_cases (Volume v) Control = inr (λ same. cc same)
device_cases (Volume v) State = inr (λ same. cc same)
device_cases (Volume v) (Journal j) = inr (λ same. cc same)
device_cases (Volume v) (Volume w) = elim (cases_eq v w) [ inl is ↦ inl (ap Volume is) | inr differ ↦ inr (λ same. differ (cc same)) ]

-- calls on one device
pub works_on_choices : (tells : Type 0) (told : tells) (device : Device) (step : List ℕ → List ℕ → Type 0) (old new : PlantState) → IsPart old device → WorksOn tells (λ d. d ≡ device) old new → Follows step (on old device) (on new device)
    → AllFollow (λ b c. step (b device) (c device) × ((d : Device) → d ≢ device → c d ≡ b d)) old new
works_on_choices tells told device step old new part works follows t from to c is =
    let all = all_follow _ old new works.site (λ d here s after before f left. each d s after before f left (device_cases d device)) t from to c is in
    (all.0, all.1, (((all.2 device).0 part).0 refl, λ d differ. elim (part_cases old d) [ inl here ↦ ((all.2 d).0 here).1 differ | inr out ↦ (all.2 d).1 out ]))
  where
    each : (d : Device) (s : ℕ) → old.clock ≤ s → s ≤ new.clock → (f : List ℕ) → new.images s d f → (d ≡ device) ⊎ (d ≢ device) → (b : List ℕ) × old.images old.clock d b × ((d ≡ device → step b f) × (d ≢ device → f ≡ b))
    each d s after before f left (inl same) =
        let start = follows s after before f (subst (λ (e : Device). new.images s e f) same left) in
        (start.0, subst (λ (e : Device). old.images old.clock e start.0) (sym same) start.1, (λ here. start.2, λ differ. absurd (differ same)))
    each d s after before f left (inr differ) =
        let start = (works.others told d differ).images s after before f left in
        (start.0, start.1, (λ same. absurd (differ same), λ other. start.2))
