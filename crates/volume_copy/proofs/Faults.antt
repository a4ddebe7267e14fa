-- Which count rose in calls one after another.
use Rattle.std.proofs.Common.{◌≡◌, ◌≢◌, inl, inr, ℕ, ◌+◌, ◌≤◌, Result, Ok, Err, sym, ◌∙◌, subst}
use Rattle.xrc_edge.specs.Causes.{HasCause, Rose}
use Rattle.crash_plant.specs.declared.device.Device.{Device}
use Rattle.crash_plant.proofs.Choices.{device_cases}
use Rattle.volume_copy.specs.Faults.{FailsAt, FailsAmong}

-- one call on one device
pub fails_one : {T E : Type 0} (among : Device → Type 0) (d : Device) (old new : Device → ℕ) (r : Result T E) → among d → HasCause (old d) (new d) r → ((e : Device) → e ≢ d → new e ≡ old e) → FailsAmong among old new r
fails_one among d old new (Ok x) is cause others = record {
  ok = λ e. elim (device_cases e d) [ inl here ↦ subst (λ (f : Device). new f ≡ old f) (sym here) cause.ok | inr other ↦ others e other ];
  failed = tt;
}
fails_one among d old new (Err x) is cause others = record {
  ok = tt;
  failed = record { device = d; among_is = is; rose = cause.failed; later = cause.later; by_one = cause.by_one; others = others };
}

-- a call that failed after others that didn't
pub fails_after : (among : Device → Type 0) (a b c : Device → ℕ) → ((d : Device) → b d ≡ a d) → FailsAt among b c → FailsAt among a c
fails_after among a b c same at = record {
  device = at.device;
  among_is = at.among_is;
  rose = subst (λ (n : ℕ). Rose n (c at.device)) (same at.device) at.rose;
  later = subst (λ (n : ℕ). n ≤ c at.device) (same at.device) at.later;
  by_one = subst (λ (n : ℕ). c at.device ≤ n + 1) (same at.device) at.by_one;
  others = λ d other. at.others d other ∙ same d;
}

-- a call after others that didn't fail
pub fails_then : {T E : Type 0} (among : Device → Type 0) (a b c : Device → ℕ) (r : Result T E) → ((d : Device) → b d ≡ a d) → FailsAmong among b c r → FailsAmong among a c r
fails_then among a b c (Ok x) same f = record { ok = λ d. f.ok d ∙ same d; failed = tt }
fails_then among a b c (Err x) same f = record { ok = tt; failed = fails_after among a b c same f.failed }

-- more devices
pub fails_wider : {T E : Type 0} (among more : Device → Type 0) (a b : Device → ℕ) (r : Result T E) → ((d : Device) → among d → more d) → FailsAmong among a b r → FailsAmong more a b r
fails_wider among more a b (Ok x) wider f = record { ok = f.ok; failed = tt }
fails_wider among more a b (Err x) wider f = record { ok = tt; failed = record { device = f.failed.device; among_is = wider f.failed.device f.failed.among_is; rose = f.failed.rose; later = f.failed.later; by_one = f.failed.by_one; others = f.failed.others } }

-- No count rises where a call answers Ok.
pub fails_none : {T E : Type 0} (among : Device → Type 0) (a b : Device → ℕ) (x : T) → ((d : Device) → b d ≡ a d) → (let r : Result T E = Ok x in FailsAmong among a b r)
fails_none among a b x same = record { ok = same; failed = tt }

-- the error of a call is that of the whole
pub fails_so : {T U E F : Type 0} (among : Device → Type 0) (a b : Device → ℕ) (e : E) (f : F) → (let r : Result T E = Err e in FailsAmong among a b r) → (let s : Result U F = Err f in FailsAmong among a b s)
fails_so among a b e f fails = record { ok = tt; failed = fails.failed }

-- a call on one device that didn't fail
pub none_rose : {T E : Type 0} (d : Device) (old new : Device → ℕ) (x : T) → (let r : Result T E = Ok x in HasCause (old d) (new d) r) → ((e : Device) → e ≢ d → new e ≡ old e) → (e : Device) → new e ≡ old e
none_rose d old new x cause others e = elim (device_cases e d) [ inl here ↦ subst (λ (f : Device). new f ≡ old f) (sym here) cause.ok | inr other ↦ others e other ]
