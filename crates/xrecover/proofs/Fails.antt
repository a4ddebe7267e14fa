-- Why a recovery fails: faults of calls that read.
use Rattle.std.proofs.Common.{◌≡◌, ◌≢◌, ◌≤◌, ℕ, Bool, false, Result, Ok, Err, arith, ◌∙◌, ap, subst}
use Rattle.std.specs.Prelude.{IsErrOf, is_err}
use Rattle.xrc_edge.specs.Causes.{HasCause, Rose}
use Rattle.crash_plant.specs.declared.device.Device.{Device}
use Rattle.crash_plant.specs.declared.device.Device.TheVariants.{Control, State, Journal, Volume}
use Rattle.xrc_journal.specs.Jobs.{FailsByCount}
use Rattle.site_means.specs.declared.site_error.SiteError.{SiteError}
use Rattle.site_means.specs.declared.site_error.SiteError.TheVariants.{Fault, NoMemory}
use Rattle.site_means.specs.Answers.{FaultsAreCounted, IsStore}
use Rattle.site_means.proofs.ReadAll.{error_is, fails_as}
use Rattle.xrecover.specs.declared.recover_error.RecoverError.{RecoverError}
use Rattle.xrecover.specs.declared.recover_error.RecoverError.TheVariants.{Site}
use Rattle.xrecover.specs.Answers.{FailsSo, TellsFaults}
use Rattle.xrecover.proofs.Works.{rose_later}

-- an answer of another kind, where no count rose
pub so_none : {X : Type 0} (a b : Device → ℕ) (r : Result X RecoverError) → ((d : Device) → b d ≡ a d) → ((d : Device) → ¬ IsErrOf r (Site (Fault d))) → FailsSo a b r
so_none a b r same none = record { rose = λ d is. absurd (none d is); others = λ d other. same d }

-- Where a call that reads answered no error, no count rose.
pub none_rose : {X : Type 0} (a b : Device → ℕ) (x : X) → (let r : Result X SiteError = Ok x in FaultsAreCounted a b r) → (d : Device) → b d ≡ a d
none_rose {X = X} a b x f d = f.others d (λ is. no_error x (Fault d) is)
  where
    no_error : (x : X) (e : SiteError) → (let a : Result X SiteError = Ok x in let b : Result X SiteError = Err e in a ≡ b) → ⊥
    no_error x e is = cc

pub so_good : {X : Type 0} (a b : Device → ℕ) (x : X) → (let r : Result X RecoverError = Ok x in FailsSo a b r) → (d : Device) → b d ≡ a d
so_good {X = X} a b x f d = f.others d (λ is. no_error x (Site (Fault d)) is)
  where
    no_error : (x : X) (e : RecoverError) → (let a : Result X RecoverError = Ok x in let b : Result X RecoverError = Err e in a ≡ b) → ⊥
    no_error x e is = cc

-- the same error of a site
pub so_counted : (X Y : Type 0) (a b : Device → ℕ) (e : SiteError) → (let r : Result X SiteError = Err e in FaultsAreCounted a b r) → (let r : Result Y RecoverError = Err (Site e) in FailsSo a b r)
so_counted X Y a b e f = record {
  rose = λ d is. f.rose d (ap (λ (k : SiteError). Err k) (own_error d is));
  others = λ d other. f.others d (λ is. other (ap (λ (k : SiteError). Err (Site k)) (error_is {Y = X} e (Fault d) is)));
}
  where
    own_error : (d : Device) → (let r : Result Y RecoverError = Err (Site e) in IsErrOf r (Site (Fault d))) → e ≡ Fault d
    own_error d is = cc

-- ---- the count of one volume

-- after calls that left it
pub counted_then : (failed : Bool) (a b c : ℕ) → b ≡ a → FailsByCount failed b c → FailsByCount failed a c
counted_then failed a b c same counted = subst (λ (n : ℕ). FailsByCount failed n c) same counted

pub counted_same : (a b : ℕ) → b ≡ a → FailsByCount false a b
counted_same a b same = record { later = omega arith; by_one = omega arith; same = λ _. same; rose = λ is. absurd cc }

-- by one call on it
pub counted_by : {T E : Type 0} (a b : ℕ) (r : Result T E) → HasCause a b r → FailsByCount (is_err r) a b
counted_by a b (Ok x) cause = counted_same a b cause.ok
counted_by a b (Err e) cause = record { later = cause.later; by_one = cause.by_one; same = λ is. absurd cc; rose = λ _. cause.failed }

-- ---- faults that are told

-- a control, a state or a journal
pub no_volume : (d : Device) (v : ℕ) → IsStore d → d ≢ Volume v
no_volume Control v is = λ e. cc
no_volume State v is = λ e. cc
no_volume (Journal j) v is = λ e. cc
no_volume (Volume w) v is = absurd is

-- No fault is told, and no count changed.
pub tells_none : {X E : Type 0} (a b : Device → ℕ) (x : X) (f : Device → E) → ((d : Device) → IsStore d → b d ≡ a d) → TellsFaults a b (λ d. let r : Result X E = Ok x in IsErrOf r (f d))
tells_none {X} {E} a b x f same = record { rose = λ d is. absurd (no_error x (f d) is); others = λ d here none. same d here }
  where
    no_error : (x : X) (e : E) → (let r : Result X E = Ok x in let q : Result X E = Err e in r ≡ q) → ⊥
    no_error x e is = cc

-- The fault of a call that reads, after calls that left the counts of the control, the state and the journals.
pub tells_read : {X Y : Type 0} (a b c : Device → ℕ) (e : SiteError) → ((d : Device) → a d ≤ b d) → ((d : Device) → IsStore d → b d ≡ a d) → (let r : Result X SiteError = Err e in FaultsAreCounted b c r) → TellsFaults a c (λ d. let r : Result Y SiteError = Err e in IsErrOf r (Fault d))
tells_read {X} {Y} a b c e le same f =
    let counted = fails_as {X = X} {Y = Y} b c e f in
    record { rose = λ d is. rose_later (a d) (b d) (c d) (le d) (counted.rose d is); others = λ d here none. counted.others d none ∙ same d here }

recover_error_is : {Y : Type 0} (e f : RecoverError) → (let a : Result Y RecoverError = Err e in let b : Result Y RecoverError = Err f in a ≡ b) → e ≡ f
recover_error_is e f is = cc

site_is : (e f : SiteError) → (let a : RecoverError = Site e in let b : RecoverError = Site f in a ≡ b) → e ≡ f
site_is e f is = cc

-- It is told as a recovery's, after calls that left the counts of the control, the state and the journals.
pub tells_site : {X Y : Type 0} (a b c : Device → ℕ) (e : SiteError) → ((d : Device) → a d ≤ b d) → ((d : Device) → IsStore d → b d ≡ a d)
    → TellsFaults b c (λ d. let r : Result X SiteError = Err e in IsErrOf r (Fault d)) → TellsFaults a c (λ d. let r : Result Y RecoverError = Err (Site e) in IsErrOf r (Site (Fault d)))
tells_site {X} {Y} a b c e le same t = record {
  rose = λ d is. rose_later (a d) (b d) (c d) (le d) (t.rose d (own_error d is));
  others = λ d here none. t.others d here (λ own. none (ap (λ (k : SiteError). Err (Site k)) (error_is {Y = X} e (Fault d) own))) ∙ same d here;
}
  where
    own_error : (d : Device) → (let r : Result Y RecoverError = Err (Site e) in IsErrOf r (Site (Fault d))) → (let r : Result X SiteError = Err e in IsErrOf r (Fault d))
    own_error d is = ap (λ (k : SiteError). Err k) (site_is e (Fault d) (recover_error_is {Y = Y} (Site e) (Site (Fault d)) is))

-- The same error of a call that gives something else,
pub tells_again : {X Y : Type 0} (a b c : Device → ℕ) (e : RecoverError) → ((d : Device) → b d ≡ a d) → TellsFaults b c (λ d. let r : Result X RecoverError = Err e in IsErrOf r (Site (Fault d))) → TellsFaults a c (λ d. let r : Result Y RecoverError = Err e in IsErrOf r (Site (Fault d)))
tells_again {X} {Y} a b c e same t = record {
  rose = λ d is. subst (λ (n : ℕ). Rose n (c d)) (same d) (t.rose d (ap (λ (k : RecoverError). Err k) (recover_error_is {Y = Y} e (Site (Fault d)) is)));
  others = λ d here none. t.others d here (λ is. none (ap (λ (k : RecoverError). Err k) (recover_error_is {Y = X} e (Site (Fault d)) is))) ∙ same d;
}

-- also of one that only reads,
pub tells_so : {X Y : Type 0} (a b : Device → ℕ) (e : RecoverError) → (let r : Result X RecoverError = Err e in FailsSo a b r) → TellsFaults a b (λ d. let r : Result Y RecoverError = Err e in IsErrOf r (Site (Fault d)))
tells_so {X} {Y} a b e f = record {
  rose = λ d is. f.rose d (ap (λ (k : RecoverError). Err k) (recover_error_is {Y = Y} e (Site (Fault d)) is));
  others = λ d here none. f.others d (λ is. none (ap (λ (k : RecoverError). Err k) (recover_error_is {Y = X} e (Site (Fault d)) is)));
}

-- or want of memory.
pub tells_memory : {Y : Type 0} (a b : Device → ℕ) → ((d : Device) → b d ≡ a d) → TellsFaults a b (λ d. let r : Result Y RecoverError = Err (Site NoMemory) in IsErrOf r (Site (Fault d)))
tells_memory {Y} a b same = record { rose = λ d is. absurd cc; others = λ d here none. same d }
