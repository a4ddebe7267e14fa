-- Calls that change nothing, one after another.
use Rattle.std.proofs.Common.{◌≡◌, inl, inr, ℕ, Result, Err, sym, ap, ◌∙◌, subst, arith}
use Rattle.xrc_edge.specs.Causes.{Rose}
use Rattle.xrc_journal.specs.Answers.{ReadsOnly}
use Rattle.site_means.specs.declared.site_error.SiteError.{SiteError}
use Rattle.site_means.specs.declared.site_error.SiteError.TheVariants.{Fault}
use Rattle.crash_plant.specs.declared.device.Device.TheVariants.{Journal}
use Rattle.crash_plant.specs.declared.device.Device.{Device}
use Rattle.crash_plant.specs.Moments.{PlantState, on, Follows, IsDurable, Same}
use Rattle.crash_plant.specs.Calls.{WorksOn}
use Rattle.crash_plant.proofs.Choices.{device_cases}
use Rattle.crash_plant.proofs.Steps.{follows_here, follows_then, works_on_here, works_on_more, works_on_trans}
use Rattle.site_means.specs.Answers.{FaultsAreCounted, IsStore, ReadsAll}

-- a call on one device
pub reads_one : (tells : Type 0) (d : Device) (old new : PlantState) → IsStore d → (tells → new.bytes d ≡ old.bytes d) → (tells → Follows Same (on old d) (on new d)) → WorksOn tells (λ e. e ≡ d) old new → ReadsAll tells old new
reads_one tells d old new is same moments only = record {
  same = λ told e. elim (device_cases e d) [
    | inl here ↦ subst (λ (f : Device). new.bytes f ≡ old.bytes f) (sym here) (same told)
    | inr other ↦ (only.others told e other).bytes
  ];
  moments = λ told e. elim (device_cases e d) [
    | inl here ↦ subst (λ (f : Device). Follows Same (on old f) (on new f)) (sym here) (moments told)
    | inr other ↦ (only.others told e other).images
  ];
  only = works_on_more tells (λ e. e ≡ d) IsStore old new (λ e here. subst (λ (f : Device). IsStore f) (sym here) is) only;
}

-- no call
pub reads_none : (tells : Type 0) (a : PlantState) → ReadsAll tells a a
reads_none tells a =
    let here = works_on_here tells IsStore a in
    record { same = λ told d i. a.bytes d; moments = λ told d. follows_here (on a d) Same (λ b now i. b); only = here }

-- two calls
pub reads_then : (tells : Type 0) (a b c : PlantState) → ReadsAll tells a b → ReadsAll tells b c → ReadsAll tells a c
reads_then tells a b c x y = record {
  same = λ told d. y.same told d ∙ x.same told d;
  moments = λ told d. follows_then (on a d) (on b d) (on c d) Same Same Same ((x.only.elapses told).kept d).later (x.moments told d) ((y.only.elapses told).kept d) (y.moments told d) (λ p q here e. e) (λ p q r here there e f. f ∙ e);
  only = works_on_trans tells IsStore a b c x.only y.only;
}

-- What is durable stays so.
pub durable_later : (tells : Type 0) (a b : PlantState) (d : Device) → tells → ReadsAll tells a b → IsDurable (on a d) → IsDurable (on b d)
durable_later tells a b d told reads durable c left =
    let came = reads.moments told d b.clock ((reads.only.elapses told).kept d).later (omega arith) c left in
    came.2 ∙ durable came.0 came.1 ∙ sym (reads.same told d)

pub reads_journal : (tells : Type 0) (j : ℕ) (old new : PlantState) → ReadsOnly tells (Journal j) old new → ReadsAll tells old new
reads_journal tells j old new r = reads_one tells (Journal j) old new tt r.same r.moments r.only

-- ---- faults

fault_is : {X : Type 0} (d e : Device) → (let a : Result X SiteError = Err (Fault d) in let b : Result X SiteError = Err (Fault e) in a ≡ b) → d ≡ e
fault_is d e is = cc

-- a fault of one device
pub fails_one : {X : Type 0} (tells : Type 0) (d : Device) (old new : PlantState) → Rose (old.faults d) (new.faults d) → WorksOn tells (λ e. e ≡ d) old new → (let r : Result X SiteError = Err (Fault d) in FaultsAreCounted old.faults new.faults r)
fails_one {X = X} tells d old new rose only = record {
  rose = λ e is. subst (λ (f : Device). Rose (old.faults f) (new.faults f)) (fault_is {X = X} d e is) rose;
  others = λ e other. only.others_faults e (λ here. other (ap (λ (f : Device). Err (Fault f)) (sym here)));
}

-- an answer after a call that answered no fault
pub fails_then : {X : Type 0} (a b c : Device → ℕ) (r : Result X SiteError) → ((d : Device) → b d ≡ a d) → FaultsAreCounted b c r → FaultsAreCounted a c r
fails_then a b c r same f = record {
  rose = λ d is. subst (λ (n : ℕ). Rose n (c d)) (same d) (f.rose d is);
  others = λ d other. f.others d other ∙ same d;
}

pub error_is : {Y : Type 0} (e f : SiteError) → (let a : Result Y SiteError = Err e in let b : Result Y SiteError = Err f in a ≡ b) → e ≡ f
error_is e f is = cc

-- the same error of a call that gives something else
pub fails_as : {X Y : Type 0} (a b : Device → ℕ) (e : SiteError) → (let r : Result X SiteError = Err e in FaultsAreCounted a b r) → (let r : Result Y SiteError = Err e in FaultsAreCounted a b r)
fails_as {X = X} {Y = Y} a b e f = record {
  rose = λ d is. f.rose d (ap (λ (k : SiteError). Err k) (error_is {Y = Y} e (Fault d) is));
  others = λ d other. f.others d (λ is. other (ap (λ (k : SiteError). Err k) (error_is {Y = X} e (Fault d) is)));
}
