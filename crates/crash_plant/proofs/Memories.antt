-- What calls on a plant in memory leave, from what they did to its disks and its console.
use Rattle.std.proofs.Common.{◌≡◌, ◌≢◌, inl, inr, ℕ, zero, suc, ◌<◌, ◌≤◌, List, [], ◌∷◌, length, refl, sym, ◌∙◌, ap, subst, arith, false}
use Rattle.crash_plant.specs.declared.device.Device.{Device}
use Rattle.crash_plant.specs.declared.device.Device.TheVariants.{Control, State, Journal, Volume}
use Rattle.crash_plant.specs.declared.memory_console.MemoryConsole.{MemoryConsole}
use Rattle.crash_plant.specs.declared.memory_disks.MemoryDisks.{MemoryDisks}
use Rattle.crash_plant.specs.declared.shelf.Shelf.{Shelf}
use Rattle.crash_plant.specs.declared.shelf.Shelf.TheVariants.{Here, Lent, Away}
use Rattle.crash_plant.specs.Calls.{IsThere, LeavesAllBut, SameLoan, SameSite, Silent, WorksOn, WorksOnConsole}
use Rattle.crash_plant.specs.Devices.{seen_at}
use Rattle.crash_plant.specs.MemoryConsole.{SameMemoryConsole, heard_at, last_told, said_at}
use Rattle.crash_plant.specs.MemoryDisks.{IsHome, SameSizes, view}
use Rattle.crash_plant.specs.MemoryPlant.{past_state}
use Rattle.crash_plant.specs.Moments.{SamePast, Stays, on}
use Rattle.crash_plant.specs.CallSteps.{Passes}
use Rattle.crash_plant.specs.Shelves.{last_done, shelf_bytes, shelf_images, shelf_is_lent, shelf_length, shelf_lent, shelf_since}
use Rattle.crash_plant.proofs.Choices.{device_cases}
use Rattle.crash_plant.proofs.Consoles.{heard_now, heard_same, left_same, said_now, said_same}
use Rattle.crash_plant.proofs.Passing.{images_later}
use Rattle.crash_plant.proofs.Steps.{kept_here}

-- Up to a moment a place keeps its images, and its loan.
pub record Keeps (clock : ℕ) (old new : Shelf) : Type 0 where
  pub same : (t : ℕ) → t ≤ clock → (c : List ℕ) → shelf_images new t c → shelf_images old t c
  pub all : (t : ℕ) → t ≤ clock → (c : List ℕ) → shelf_images old t c → shelf_images new t c
  pub length_is : shelf_length new ≡ shelf_length old
  pub here : shelf_is_lent new ≡ shelf_is_lent old
  pub since : shelf_since new ≡ shelf_since old
  pub lent : SamePast (shelf_lent new) (shelf_lent old)
  pub lent_clock : (shelf_lent new).clock ≡ (shelf_lent old).clock

pub keeps_here : (clock : ℕ) (shelf : Shelf) → Keeps clock shelf shelf
keeps_here clock shelf = record { same = λ t le c left. left; all = λ t le c left. left; length_is = refl; here = refl; since = refl; lent = kept_here (shelf_lent shelf); lent_clock = refl }

pub keeps_same : (clock : ℕ) (old new : Shelf) → new ≡ old → Keeps clock old new
keeps_same clock old new same = subst (λ (s : Shelf). Keeps clock old s) (sym same) (keeps_here clock old)

-- A place that is here has no loan.
since_home : (shelf : Shelf) → shelf_is_lent shelf ≡ false → shelf_since shelf ≡ 1
since_home (Here disk) here = refl
since_home (Lent n at was) here = absurd (cc here)
since_home (Away n) here = refl

lent_home : (old new : Shelf) → shelf_is_lent old ≡ false → shelf_is_lent new ≡ false → SamePast (shelf_lent new) (shelf_lent old) × ((shelf_lent new).clock ≡ (shelf_lent old).clock)
lent_home (Here x) (Here y) here now = (kept_here (shelf_lent (Here x)), refl)
lent_home (Here x) (Lent n at was) here now = absurd (cc now)
lent_home (Here x) (Away n) here now = absurd (cc now)
lent_home (Lent n at was) new here now = absurd (cc here)
lent_home (Away n) new here now = absurd (cc here)

pub keeps_passes : (step : List ℕ → List ℕ → Type 0) (clock now : ℕ) (old new : Shelf) → shelf_is_lent old ≡ false → Passes step clock now old new → Keeps clock old new
keeps_passes step clock now old new here passes =
    let lent = lent_home old new here (passes.here ∙ here) in
    record {
      same = passes.same;
      all = passes.all;
      length_is = passes.length_is;
      here = passes.here;
      since = since_home new (passes.here ∙ here) ∙ sym (since_home old here);
      lent = lent.0;
      lent_clock = lent.1;
    }

-- Volumes are lent alike in two rows of places of which each is.
pub lent_alike : (xs ys : List Shelf) (v : ℕ) → length ys ≡ length xs → shelf_is_lent (seen_at (λ shelf. shelf) (Away 0) ys v) ≡ shelf_is_lent (seen_at (λ shelf. shelf) (Away 0) xs v) → seen_at shelf_is_lent false ys v ≡ seen_at shelf_is_lent false xs v
lent_alike [] [] v size same = refl
lent_alike [] (y ∷ ys) v size same = absurd (omega (arith, size))
lent_alike (x ∷ xs) [] v size same = absurd (omega (arith, size))
lent_alike (x ∷ xs) (y ∷ ys) zero size same = same
lent_alike (x ∷ xs) (y ∷ ys) (suc v) size same = lent_alike xs ys v (omega (arith, size)) same

pub lent_at_home : (xs : List Shelf) (v : ℕ) → v < length xs → seen_at shelf_is_lent false xs v ≡ shelf_is_lent (seen_at (λ shelf. shelf) (Away 0) xs v)
lent_at_home [] v less = absurd (omega (arith, less))
lent_at_home (x ∷ xs) zero less = refl
lent_at_home (x ∷ xs) (suc v) less = lent_at_home xs v (omega (arith, less))

-- A device that calls may name is at home.
pub home_of : (disks : MemoryDisks) (x : MemoryConsole) (clock : ℕ) (f : Device → ℕ) (p : ℕ) (d : Device) → IsThere (past_state disks x clock f p) d → IsHome disks d
home_of disks x clock f p Control there = tt
home_of disks x clock f p State there = tt
home_of disks x clock f p (Journal j) there = there
home_of disks x clock f p (Volume v) there = (there.0, sym (lent_at_home disks.volumes.items v there.0) ∙ there.1)

pub same_of : (x y : MemoryConsole) → y ≡ x → SameMemoryConsole x y
same_of x y same = subst (λ (c : MemoryConsole). SameMemoryConsole x c) (sym same) (record { script = refl; next = refl; said = refl; first = refl; turns = refl })

-- From one state of disks and console to another.
module _ (a b : MemoryDisks) (x y : MemoryConsole) (clock now : ℕ) (f g : Device → ℕ) (p q : ℕ) (begun : 0 < clock) (later : clock ≤ now) (done : (d : Device) → last_done (view a d) ≤ clock) (told : last_told x ≤ clock) (sizes : SameSizes a b) where
  pub kept_keeps : (d : Device) → Keeps clock (view a d) (view b d) → SamePast (on (past_state a x clock f p) d) (on (past_state b y now g q) d)
  kept_keeps d keeps = record { later = later; still = λ none. absurd (omega (arith, begun, none)); same = λ t up le c left. keeps.same t le c left; all = λ t up le c left. keeps.all t le c left }

  pub stays_same : (d : Device) → view b d ≡ view a d → g d ≡ f d → Stays (on (past_state a x clock f p) d) (on (past_state b y now g q) d)
  stays_same d same count = record {
    bytes = ap shelf_bytes same;
    images = λ t from to c left. (c, images_later (view a d) t clock c (omega (arith, done d, from)) (done d) (subst (λ (s : Shelf). shelf_images s t c) same left), refl);
    all = λ t from to c was. subst (λ (s : Shelf). shelf_images s t c) (sym same) (images_later (view a d) clock t c (done d) (omega (arith, done d, from)) was);
    faults = count;
  }

  pub loan_keeps : (v : ℕ) → Keeps clock (view a (Volume v)) (view b (Volume v)) → SameLoan v (past_state a x clock f p) (past_state b y now g q)
  loan_keeps v keeps = record { is_lent = lent_alike a.volumes.items b.volumes.items v sizes.volumes keeps.here; since = keeps.since; lent = keeps.lent; clock = keeps.lent_clock }

  pub site_keeps : ((d : Device) → Keeps clock (view a d) (view b d)) → SameSite (past_state a x clock f p) (past_state b y now g q)
  site_keeps keeps = record { journals = sizes.journals; volumes = sizes.volumes; lengths = λ d. (keeps d).length_is }

  module _ (same : SameMemoryConsole x y) where
    pub silent_same : Silent (past_state a x clock f p) (past_state b y now g q)
    silent_same = record {
      heard = λ t from to. heard_same x y t same ∙ heard_now x t (omega (arith, told, from)) ∙ sym (heard_now x clock told);
      said = λ t from to. said_same x y t same ∙ said_now x t (omega (arith, told, from)) ∙ sym (said_now x clock told);
      script = left_same x y same;
    }

    -- calls on some devices
    pub works_on : (among : Device → Type 0) → ((d : Device) → ¬ among d → view b d ≡ view a d) → ((d : Device) → Keeps clock (view a d) (view b d)) → ((d : Device) → ¬ among d → g d ≡ f d) → ((d : Device) → f d ≤ g d) → q ≡ p
        → WorksOn (Unit {0}) among (past_state a x clock f p) (past_state b y now g q)
    works_on among others keeps counts rise console = record {
      site = site_keeps keeps;
      loans = λ v. loan_keeps v (keeps (Volume v));
      elapses = λ t. record { kept = λ d. kept_keeps d (keeps d); heard = λ s up to. heard_same x y s same; said = λ s up to. said_same x y s same };
      silent = λ t. silent_same;
      others = λ t d other. stays_same d (others d other) (counts d other);
      others_faults = counts;
      console_faults = console;
      faults = rise;
    }

    -- a call on one
    pub works_on_one : (step : List ℕ → List ℕ → Type 0) (device : Device) → ((d : Device) → d ≢ device → view b d ≡ view a d) → shelf_is_lent (view a device) ≡ false → Passes step clock now (view a device) (view b device) → ((d : Device) → d ≢ device → g d ≡ f d) → f device ≤ g device → q ≡ p
        → WorksOn (Unit {0}) (λ d. d ≡ device) (past_state a x clock f p) (past_state b y now g q)
    works_on_one step device others here passes counts rise console = works_on (λ d. d ≡ device) others each counts rises console
      where
        each : (d : Device) → Keeps clock (view a d) (view b d)
        each d = elim (device_cases d device) [
          | inl is ↦ subst (λ (e : Device). Keeps clock (view a e) (view b e)) (sym is) (keeps_passes step clock now (view a device) (view b device) here passes)
          | inr other ↦ keeps_same clock (view a d) (view b d) (others d other)
        ]

        rises : (d : Device) → f d ≤ g d
        rises d = elim (device_cases d device) [
          | inl is ↦ subst (λ (e : Device). f e ≤ g e) (sym is) rise
          | inr other ↦ omega (arith, counts d other)
        ]

    -- lending a volume and taking it back
    pub leaves_all_but : (v : ℕ) → ((d : Device) → d ≢ Volume v → view b d ≡ view a d) → shelf_length (view b (Volume v)) ≡ shelf_length (view a (Volume v)) → ((d : Device) → d ≢ Volume v → g d ≡ f d) → q ≡ p → LeavesAllBut (Unit {0}) v (past_state a x clock f p) (past_state b y now g q)
    leaves_all_but v others size counts console = record {
      site = record { journals = sizes.journals; volumes = sizes.volumes; lengths = each };
      loans = λ w other. loan_keeps w (keeps_same clock (view a (Volume w)) (view b (Volume w)) (others (Volume w) (λ same. other (cc same))));
      goes_on = λ t. (later, λ none. absurd (omega (arith, begun, none)));
      heard = λ t s up to. heard_same x y s same;
      said = λ t s up to. said_same x y s same;
      kept = λ t d other. kept_keeps d (keeps_same clock (view a d) (view b d) (others d other));
      silent = λ t. silent_same;
      others = λ t d other. stays_same d (others d other) (counts d other);
      others_faults = counts;
      console_faults = console;
    }
      where
        each : (d : Device) → shelf_length (view b d) ≡ shelf_length (view a d)
        each d = elim (device_cases d (Volume v)) [
          | inl is ↦ subst (λ (e : Device). shelf_length (view b e) ≡ shelf_length (view a e)) (sym is) size
          | inr other ↦ ap shelf_length (others d other)
        ]

  -- a call on the console
  pub works_on_console : b ≡ a → ((t : ℕ) → t ≤ clock → heard_at y t ≡ heard_at x t) → ((t : ℕ) → t ≤ clock → said_at y t ≡ said_at x t) → ((d : Device) → g d ≡ f d) → WorksOnConsole (Unit {0}) (past_state a x clock f p) (past_state b y now g q)
  works_on_console same heard said counts = record {
    site = site_keeps (λ d. each d);
    loans = λ v. loan_keeps v (each (Volume v));
    elapses = λ t. record { kept = λ d. kept_keeps d (each d); heard = λ s up to. heard s to; said = λ s up to. said s to };
    devices = λ t d. stays_same d (ap (λ (disks : MemoryDisks). view disks d) same) (counts d);
    faults = counts;
  }
    where
      each : (d : Device) → Keeps clock (view a d) (view b d)
      each d = keeps_same clock (view a d) (view b d) (ap (λ (disks : MemoryDisks). view disks d) same)

pub same_sizes : (a b : MemoryDisks) → b ≡ a → SameSizes a b
same_sizes a b same = subst (λ (disks : MemoryDisks). SameSizes a disks) (sym same) (record { journals = refl; volumes = refl })
