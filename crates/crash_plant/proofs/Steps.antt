-- How what calls do to the moments adds up.
use Rattle.std.proofs.Common.{◌≡◌, inl, inr, ℕ, ◌≤◌, ◌<◌, List, refl, sym, ◌∙◌, ap, subst, arith, false}
use Rattle.std.proofs.lemmas.Bool.{cases_lt, cases_eq}
use Rattle.crash_plant.specs.declared.device.Device.{Device}
use Rattle.crash_plant.specs.declared.device.Device.TheVariants.{Control}
use Rattle.crash_plant.specs.Moments.{Standing, PlantState, on, SamePast, Follows, Same, Stays}
use Rattle.crash_plant.specs.Calls.{NoneLent, SameSite, SameLoan, Elapses, Silent, WorksOn, WorksOnConsole, Lends, TakesBack}

-- No call keeps the past.
pub kept_here : (a : Standing) → SamePast a a
kept_here a = record { later = omega arith; still = λ none. none; same = λ t on le c now. now; all = λ t on le c now. now }

-- Where no call was made, each image is one that was there.
pub follows_here : (a : Standing) (step : List ℕ → List ℕ → Type 0) → ((b : List ℕ) → a.images a.clock b → step b b) → Follows step a a
follows_here a step same t from to c left =
    let here : t ≡ a.clock = omega arith in
    let now = subst (λ (s : ℕ). a.images s c) here left in
    (c, now, same c now)

-- Two calls keep the past that each of them keeps.
pub kept_trans : (a b c : Standing) → SamePast a b → SamePast b c → SamePast a c
kept_trans a b c x y = record {
  later = omega (arith, x.later, y.later);
  still = λ none. y.still (x.still none);
  same = λ t on le f now. x.same t on le f (y.same t (omega (arith, on, x.later)) (omega (arith, le, x.later)) f now);
  all = λ t on le f was. y.all t (omega (arith, on, x.later)) (omega (arith, le, x.later)) f (x.all t on le f was);
}

-- One call more: from images that the calls so far may leave now, the next one leads on by the step of both.
pub follows_then : (a b c : Standing) (so_far step all : List ℕ → List ℕ → Type 0) → a.clock ≤ b.clock → Follows so_far a b → SamePast b c → Follows step b c
    → ((x y : List ℕ) → a.images a.clock x → so_far x y → all x y) → ((x y z : List ℕ) → a.images a.clock x → b.images b.clock y → so_far x y → step y z → all x z)
    → Follows all a c
follows_then a b c so_far step all le f k s first then t from to z left = elim (cases_lt t b.clock) [
  | inl early ↦
      let start = f t from (omega (arith, early)) z (k.same t (omega (arith, early)) (omega (arith, early)) z left) in
      (start.0, start.1, first start.0 z start.1 start.2)
  | inr late ↦
      let mid = s t late to z left in
      let start = f b.clock le (omega arith) mid.0 mid.1 in
      (start.0, start.1, then start.0 mid.0 z start.1 mid.1 start.2 mid.2)
]

-- No call leaves a device alone.
pub stays_here : (a : Standing) → Stays a a
stays_here a = record { bytes = refl; images = follows_here a Same (λ b now. refl); all = λ t from to c was. let here : t ≡ a.clock = omega arith in subst (λ (s : ℕ). a.images s c) (sym here) was; faults = refl }

-- Two calls leave a device alone that each of them leaves alone.
pub stays_trans : (a b c : Standing) → Stays a b → SamePast a b → SamePast b c → Stays b c → Stays a c
stays_trans a b c x past k y = record {
  bytes = y.bytes ∙ x.bytes;
  images = follows_then a b c Same Same Same past.later x.images k y.images (λ p q here e. e) (λ p q r here there e e2. e2 ∙ e);
  all = λ t from to e was. elim (cases_lt t b.clock) [
    | inl early ↦ k.all t (omega (arith, early)) (omega (arith, early)) e (x.all t from (omega (arith, early)) e was)
    | inr late ↦ y.all t late to e (x.all b.clock past.later (omega arith) e was)
  ];
  faults = y.faults ∙ x.faults;
}

-- Numbers and lengths are as before after two calls, too.
pub site_trans : (a b c : PlantState) → SameSite a b → SameSite b c → SameSite a c
site_trans a b c x y = record {
  journals = y.journals ∙ x.journals;
  volumes = y.volumes ∙ x.volumes;
  lengths = λ d. y.lengths d ∙ x.lengths d;
}

-- A volume is lent as before after two calls, too.
pub loan_trans : (v : ℕ) (a b c : PlantState) → SameLoan v a b → SameLoan v b c → SameLoan v a c
loan_trans v a b c x y = record {
  is_lent = y.is_lent ∙ x.is_lent;
  since = y.since ∙ x.since;
  lent = kept_trans (c.lent v) (b.lent v) (a.lent v) y.lent x.lent;
  clock = y.clock ∙ x.clock;
}

-- The past of a plant doesn't change in two calls.
pub elapses_trans : (d : Device) (a b c : PlantState) → Elapses a b → Elapses b c → Elapses a c
elapses_trans d a b c x y =
    let le : a.clock ≤ b.clock = (x.kept d).later in
    record {
      kept = λ e. kept_trans (on a e) (on b e) (on c e) (x.kept e) (y.kept e);
      heard = λ t up to. y.heard t (omega (arith, up, le)) (omega (arith, to, le)) ∙ x.heard t up to;
      said = λ t up to. y.said t (omega (arith, up, le)) (omega (arith, to, le)) ∙ x.said t up to;
    }

-- what doesn't change at any moment of two rows of calls
quiet_then : (a b c : ℕ) (x y z : ℕ → List ℕ) → a ≤ b → ((t : ℕ) → 0 < b → t ≤ b → z t ≡ y t) → ((t : ℕ) → a ≤ t → t ≤ b → y t ≡ x a) → ((t : ℕ) → b ≤ t → t ≤ c → z t ≡ y b) → (t : ℕ) → a ≤ t → t ≤ c → z t ≡ x a
quiet_then a b c x y z le kept first second t from to = elim (cases_lt t b) [
  | inl early ↦ kept t (omega (arith, early)) (omega (arith, early)) ∙ first t from (omega (arith, early))
  | inr late ↦ second t late to ∙ first b le (omega arith)
]

-- Nothing is heard or said in two calls that hear and say nothing.
pub silent_trans : (d : Device) (a b c : PlantState) → Elapses a b → Elapses b c → Silent a b → Silent b c → Silent a c
silent_trans d a b c past k x y = record {
  heard = quiet_then a.clock b.clock c.clock a.heard b.heard c.heard (past.kept d).later k.heard x.heard y.heard;
  said = quiet_then a.clock b.clock c.clock a.said b.said c.said (past.kept d).later k.said x.said y.said;
  script = y.script ∙ x.script;
}

-- No call works on no device.
pub works_on_here : (tells : Type 0) (among : Device → Type 0) (a : PlantState) → WorksOn tells among a a
works_on_here tells among a = record {
  site = record { journals = refl; volumes = refl; lengths = λ d. refl };
  loans = λ v. record { is_lent = refl; since = refl; lent = kept_here (a.lent v); clock = refl };
  elapses = λ told. record { kept = λ d. kept_here (on a d); heard = λ t up to. refl; said = λ t up to. refl };
  silent = λ told. record {
    heard = λ t from to. let here : t ≡ a.clock = omega arith in ap a.heard here;
    said = λ t from to. let here : t ≡ a.clock = omega arith in ap a.said here;
    script = refl;
  };
  others = λ told d other. stays_here (on a d);
  others_faults = λ d other. refl;
  console_faults = refl;
  faults = λ d. omega arith;
}

-- Two calls work on the devices on which each of them works.
pub works_on_trans : (tells : Type 0) (among : Device → Type 0) (a b c : PlantState) → WorksOn tells among a b → WorksOn tells among b c → WorksOn tells among a c
works_on_trans tells among a b c x y = record {
  site = site_trans a b c x.site y.site;
  loans = λ v. loan_trans v a b c (x.loans v) (y.loans v);
  elapses = λ told. elapses_trans Control a b c (x.elapses told) (y.elapses told);
  silent = λ told. silent_trans Control a b c (x.elapses told) (y.elapses told) (x.silent told) (y.silent told);
  others = λ told e other. stays_trans (on a e) (on b e) (on c e) (x.others told e other) ((x.elapses told).kept e) ((y.elapses told).kept e) (y.others told e other);
  others_faults = λ e other. y.others_faults e other ∙ x.others_faults e other;
  console_faults = y.console_faults ∙ x.console_faults;
  faults = λ e. omega (arith, x.faults e, y.faults e);
}

-- Calls on some devices are calls on more of them.
pub works_on_more : (tells : Type 0) (among more : Device → Type 0) (a b : PlantState) → ((d : Device) → among d → more d) → WorksOn tells among a b → WorksOn tells more a b
works_on_more tells among more a b wider x = record {
  site = x.site;
  loans = x.loans;
  elapses = x.elapses;
  silent = x.silent;
  others = λ told e other. x.others told e (λ is. other (wider e is));
  others_faults = λ e other. x.others_faults e (λ is. other (wider e is));
  console_faults = x.console_faults;
  faults = x.faults;
}

-- No call works on no console.
pub works_on_console_here : (tells : Type 0) (a : PlantState) → WorksOnConsole tells a a
works_on_console_here tells a =
    let same = works_on_here tells (λ d. ⊥) a in
    record { site = same.site; loans = same.loans; elapses = same.elapses; devices = λ told d. stays_here (on a d); faults = λ d. refl }

-- Two calls work on the console alone if each of them does.
pub works_on_console_trans : (tells : Type 0) (a b c : PlantState) → WorksOnConsole tells a b → WorksOnConsole tells b c → WorksOnConsole tells a c
works_on_console_trans tells a b c x y = record {
  site = site_trans a b c x.site y.site;
  loans = λ v. loan_trans v a b c (x.loans v) (y.loans v);
  elapses = λ told. elapses_trans Control a b c (x.elapses told) (y.elapses told);
  devices = λ told e. stays_trans (on a e) (on b e) (on c e) (x.devices told e) ((x.elapses told).kept e) ((y.elapses told).kept e) (y.devices told e);
  faults = λ e. y.faults e ∙ x.faults e;
}

-- Calls lend no volume, and take none away.
pub none_lent_then : (tells : Type 0) (among : Device → Type 0) (a b : PlantState) → WorksOn tells among a b → NoneLent a → NoneLent b
none_lent_then tells among a b x home v there = (x.loans v).is_lent ∙ home v (omega (arith, there, x.site.volumes))

pub none_lent_console : (tells : Type 0) (a b : PlantState) → WorksOnConsole tells a b → NoneLent a → NoneLent b
none_lent_console tells a b x home v there = (x.loans v).is_lent ∙ home v (omega (arith, there, x.site.volumes))

-- A volume that was lent and is back is lent no more, and neither is another.
pub none_lent_again : (tells : Type 0) (v : ℕ) (a b c d : PlantState) (first last : Standing) → Lends tells v a b first → ((w : ℕ) → SameLoan w b c) → c.volumes ≡ b.volumes → TakesBack tells v c d last → NoneLent a → NoneLent d
none_lent_again tells v a b c d first last lends between same back home w there = elim (cases_eq w v) [
  | inl here ↦ subst (λ (u : ℕ). d.is_lent u ≡ false) (sym here) back.is_back
  | inr other ↦ (back.rest.loans w other).is_lent ∙ (between w).is_lent ∙ (lends.rest.loans w other).is_lent ∙ home w (omega (arith, there, back.rest.site.volumes, same, lends.rest.site.volumes))
]
