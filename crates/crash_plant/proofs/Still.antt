-- Calls on plants that keep no past.
use Rattle.std.proofs.Common.{◌≡◌, ◌≢◌, ℕ, ◌≤◌, List, ◌++◌, length, take, refl, sym, ◌∙◌, arith, true, false}
use Rattle.std.proofs.lemmas.List.{take_all}
use Rattle.crash_plant.specs.declared.device.Device.{Device}
use Rattle.crash_plant.specs.declared.device.Device.TheVariants.{Volume}
use Rattle.crash_plant.specs.Moments.{SamePast, Stays, on}
use Rattle.crash_plant.specs.Calls.{SameSite, SameLoan, Elapses, Silent, WorksOn, LeavesAllBut, Lends, TakesBack, Says}
use Rattle.crash_plant.specs.PastlessPlants.{Contents, still, still_disk, unknown, AgreesBut}
use Rattle.crash_plant.proofs.Steps.{kept_here}

kept_still : (a b : Contents) (d : Device) → SamePast (on (still a) d) (on (still b) d)
kept_still a b d = record { later = omega arith; still = λ none. refl; same = λ t up le c now. absurd (omega (arith, up)); all = λ t up le c was. absurd (omega (arith, up)) }

-- a device whose bytes and count are as before
pub stays_still : (a b : Contents) (d : Device) → b.bytes d ≡ a.bytes d → b.faults d ≡ a.faults d → Stays (on (still a) d) (on (still b) d)
stays_still a b d bytes faults = record { bytes = bytes; images = λ t from to c now. (a.bytes d, refl, now ∙ bytes); all = λ t from to c was. was ∙ sym bytes; faults = faults }

site_still : (among : Device → Type 0) (a b : Contents) → AgreesBut among a b → SameSite (still a) (still b)
site_still among a b agrees = record { journals = agrees.journals; volumes = agrees.volumes; lengths = agrees.lengths }

-- a volume that is lent as before
pub loan_still : (v : ℕ) (a b : Contents) → b.is_lent v ≡ a.is_lent v → SameLoan v (still a) (still b)
loan_still v a b lent = record { is_lent = lent; since = refl; lent = kept_here unknown; clock = refl }

-- no past changes where there is none
pub elapses_still : (a b : Contents) → Elapses (still a) (still b)
elapses_still a b = record { kept = kept_still a b; heard = λ t up le. absurd (omega (arith, up)); said = λ t up le. absurd (omega (arith, up)) }

silent_still : (among : Device → Type 0) (a b : Contents) → AgreesBut among a b → Silent (still a) (still b)
silent_still among a b agrees = record { heard = λ t from to. agrees.heard; said = λ t from to. agrees.said; script = agrees.script }

-- a call on some devices
pub works_on_still : (tells : Type 0) (among : Device → Type 0) (a b : Contents) → AgreesBut among a b → ((v : ℕ) → b.is_lent v ≡ a.is_lent v) → ((d : Device) → a.faults d ≤ b.faults d) → WorksOn tells among (still a) (still b)
works_on_still tells among a b agrees lent later = record {
  site = site_still among a b agrees;
  loans = λ v. loan_still v a b (lent v);
  elapses = λ told. elapses_still a b;
  silent = λ told. silent_still among a b agrees;
  others = λ told d other. stays_still a b d (agrees.bytes d other) (agrees.faults d other);
  others_faults = agrees.faults;
  console_faults = agrees.console_faults;
  faults = later;
}

-- lending a volume and taking it back
leaves_still : (tells : Type 0) (v : ℕ) (a b : Contents) → AgreesBut (λ d. d ≡ Volume v) a b → ((w : ℕ) → w ≢ v → b.is_lent w ≡ a.is_lent w) → LeavesAllBut tells v (still a) (still b)
leaves_still tells v a b agrees lent = record {
  site = site_still _ a b agrees;
  loans = λ w other. loan_still w a b (lent w other);
  goes_on = λ told. (omega arith, λ none. refl);
  heard = λ told t up le. absurd (omega (arith, up));
  said = λ told t up le. absurd (omega (arith, up));
  kept = λ told d other. kept_still a b d;
  silent = λ told. silent_still _ a b agrees;
  others = λ told d other. stays_still a b d (agrees.bytes d other) (agrees.faults d other);
  others_faults = agrees.faults;
  console_faults = agrees.console_faults;
}

pub lends_still : (tells : Type 0) (v : ℕ) (a b : Contents) (bytes : List ℕ) (length_is faults : ℕ) → AgreesBut (λ d. d ≡ Volume v) a b → ((w : ℕ) → w ≢ v → b.is_lent w ≡ a.is_lent w) → b.is_lent v ≡ true → b.faults (Volume v) ≡ a.faults (Volume v) → length_is ≡ a.lengths (Volume v) → faults ≡ a.faults (Volume v) → (tells → bytes ≡ a.bytes (Volume v))
    → Lends tells v (still a) (still b) (still_disk bytes length_is faults)
lends_still tells v a b bytes length_is faults agrees lent is_lent kept size count same = record {
  rest = leaves_still tells v a b agrees lent;
  is_lent = is_lent;
  since = refl;
  lent = record { later = omega arith; still = λ none. refl; same = λ t up le c now. absurd (omega (arith, up)); all = λ t up le c was. absurd (omega (arith, up)) };
  clock = refl;
  length_is = size;
  faults = count;
  keeps_past = λ told begun. absurd (omega (arith, begun));
  same_faults = kept;
  bytes = same;
  images = λ told c now. now ∙ same told;
  images_all = λ told c now. now ∙ sym (same told);
  kept = λ told. kept_still a b (Volume v);
}

pub takes_back_still : (tells : Type 0) (v : ℕ) (a b : Contents) (bytes : List ℕ) (length_is faults : ℕ) → AgreesBut (λ d. d ≡ Volume v) a b → ((w : ℕ) → w ≢ v → b.is_lent w ≡ a.is_lent w) → b.is_lent v ≡ false → b.faults (Volume v) ≡ faults → (tells → b.bytes (Volume v) ≡ bytes)
    → TakesBack tells v (still a) (still b) (still_disk bytes length_is faults)
takes_back_still tells v a b bytes length_is faults agrees lent is_back count same = record {
  rest = leaves_still tells v a b agrees lent;
  is_back = is_back;
  faults = count;
  bytes = same;
  before = λ told t up since le c now. absurd (omega (arith, up));
  before_all = λ told t up since le c was. absurd (omega (arith, up));
  own = λ told t since le c now. absurd (omega (arith, le));
  own_all = λ told t since le c own. absurd (omega (arith, le));
  has_moment = λ told less. absurd (omega (arith, less));
  now = λ told c now. now ∙ same told;
  now_all = λ told c now. now ∙ sym (same told);
}

-- a say of a front of the bytes
pub says_still : (bytes : List ℕ) (a b : Contents) (k : ℕ) → k ≤ length bytes → b.said ≡ a.said ++ take k bytes → b.heard ≡ a.heard → b.script ≡ a.script → Says bytes (still a) (still b)
says_still bytes a b k within said heard script = record {
  front = λ t from to. (k, within, said);
  grows = λ s t from le end. omega arith;
  heard = λ t from to. heard;
  script = script;
}

-- a say of all the bytes
pub says_all_still : (bytes : List ℕ) (a b : Contents) → b.said ≡ a.said ++ bytes → b.heard ≡ a.heard → b.script ≡ a.script → Says bytes (still a) (still b)
says_all_still bytes a b said heard script = says_still bytes a b (length bytes) (omega arith) (rw (take_all (length bytes) bytes (omega arith)) said) heard script
