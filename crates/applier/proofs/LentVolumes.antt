-- One volume that is lent, and is back.
use Rattle.std.proofs.Common.{◌≡◌, ◌≢◌, inl, inr, ◌⊎◌, ℕ, ◌<◌, ◌≤◌, List, sym, ◌∙◌, subst, arith}
use Rattle.std.proofs.lemmas.Bool.{cases_lt}
use Rattle.crash_plant.specs.declared.device.Device.{Device}
use Rattle.crash_plant.specs.declared.device.Device.TheVariants.{Volume}
use Rattle.crash_plant.specs.Moments.{Standing, PlantState, on, SamePast, Follows, Stays, IsDurable, OwnImage}
use Rattle.crash_plant.specs.Calls.{SameLoan, LeavesAllBut, Lends, TakesBack, IsLentOne}
use Rattle.crash_plant.proofs.Steps.{kept_trans}
use Rattle.applier.specs.Loans.{WorkedOn, IsOut, LeavesBut}
use Rattle.applier.specs.Returns.{IsBack}

-- other numbers are other volumes
pub apart_volumes : (v w : ℕ) → w ≢ v → Volume w ≢ Volume v
apart_volumes v w differ same = differ (cc same)

-- An image of a device that stays is one that was there.
stayed : (a b : Standing) (t : ℕ) (c : List ℕ) → Stays a b → a.clock ≤ t → t ≤ b.clock → b.images t c → a.images a.clock c
stayed a b t c stays from to left = let start = stays.images t from to c left in subst (λ (l : List ℕ). a.images a.clock l) (sym start.2) start.1

-- A volume that was home is out once it is lent, after others were lent.
pub out_of : (tells : Type 0) (among : Device → Type 0) (v : ℕ) (a b c : PlantState) (first : Standing) → LeavesBut tells among a b → ¬ among (Volume v) → v < b.volumes → Lends tells v b c first → IsOut tells a c v first
out_of tells among v a b c first x home there l = record {
  from = record {
    there = omega (arith, there, x.site.volumes);
    length_is = l.length_is ∙ x.site.lengths (Volume v);
    faults = l.faults ∙ x.others_faults (Volume v) home;
    bytes = λ told. l.bytes told ∙ (x.others told (Volume v) home).bytes;
    keeps_past = λ told up. l.keeps_past told (omega (arith, up, (x.goes_on told).0));
    images = λ told e left. stayed (on a (Volume v)) (on b (Volume v)) b.clock e (x.others told (Volume v) home) (x.goes_on told).0 (omega arith) (l.images told e left);
    images_all = λ told e left. l.images_all told e ((x.others told (Volume v) home).all b.clock (x.goes_on told).0 (omega arith) e left);
  };
  there = omega (arith, there, l.rest.site.volumes);
  is_lent = l.is_lent;
  since = λ told. omega (arith, l.since, (x.goes_on told).0);
  since_now = λ told. omega (arith, l.since, (l.rest.goes_on told).0);
  past = λ told. l.lent;
  clock = l.clock;
  same_length = l.rest.site.lengths (Volume v) ∙ x.site.lengths (Volume v);
  same_faults = l.same_faults ∙ x.others_faults (Volume v) home;
  kept = λ told. kept_trans (on a (Volume v)) (on b (Volume v)) (on c (Volume v)) (x.kept told (Volume v) home) (l.kept told);
  before = λ told t up from since to e left.
      let le : t ≤ b.clock = omega (arith, since, l.since) in
      stayed (on a (Volume v)) (on b (Volume v)) t e (x.others told (Volume v) home) from le ((l.kept told).same t (omega (arith, up, (x.goes_on told).0)) le e left);
  before_all = λ told t up from since to e left.
      let le : t ≤ b.clock = omega (arith, since, l.since) in
      (l.kept told).all t (omega (arith, up, (x.goes_on told).0)) le e ((x.others told (Volume v) home).all t from le e left);
}

-- It is out still once another volume is lent or taken back.
pub out_then : (tells : Type 0) (v w : ℕ) (a b c : PlantState) (first : Standing) → w ≢ v → IsOut tells a b w first → LeavesAllBut tells v b c → IsOut tells a c w first
out_then tells v w a b c first differ x y = record {
  from = x.from;
  there = omega (arith, x.there, y.site.volumes);
  is_lent = loan.is_lent ∙ x.is_lent;
  since = λ told. omega (arith, loan.since, x.since told);
  since_now = λ told. omega (arith, loan.since, x.since_now told, (y.goes_on told).0);
  past = λ told. kept_trans (c.lent w) (b.lent w) first loan.lent (x.past told);
  clock = loan.clock ∙ x.clock;
  same_length = y.site.lengths (Volume w) ∙ x.same_length;
  same_faults = y.others_faults (Volume w) (apart_volumes v w differ) ∙ x.same_faults;
  kept = λ told. kept_trans (on a (Volume w)) (on b (Volume w)) (on c (Volume w)) (x.kept told) (y.kept told (Volume w) (apart_volumes v w differ));
  before = λ told t up from since to e left.
      let early : t < b.lent_since w = omega (arith, since, loan.since) in
      let le : t ≤ b.clock = omega (arith, early, x.since_now told) in
      x.before told t up from early le e ((y.kept told (Volume w) (apart_volumes v w differ)).same t (omega (arith, up, (x.kept told).later)) le e left);
  before_all = λ told t up from since to e left.
      let early : t < b.lent_since w = omega (arith, since, loan.since) in
      let le : t ≤ b.clock = omega (arith, early, x.since_now told) in
      (y.kept told (Volume w) (apart_volumes v w differ)).all t (omega (arith, up, (x.kept told).later)) le e (x.before_all told t up from early le e left);
}
  where
    loan : SameLoan w b c
    loan = y.loans w differ

-- A volume that is out can be taken back.
pub lent_one : (tells own : Type 0) (v : ℕ) (a b : PlantState) (lent now : Standing) → (tells → own) → IsOut tells a b v lent → WorkedOn own lent now → IsLentOne tells v b now
lent_one tells own v a b lent now told_own x w = record {
  there = x.there;
  is_lent = x.is_lent;
  length_is = w.length_is ∙ x.from.length_is ∙ sym x.same_length;
  past = λ told. kept_trans (b.lent v) lent now (x.past told) (w.past (told_own told));
  faults = omega (arith, x.same_faults, x.from.faults, w.faults);
}

-- It is taken back.
module _ (tells own : Type 0) (v : ℕ) (a b c : PlantState) (lent given : Standing) (told_own : tells → own) (x : IsOut tells a b v lent) (w : WorkedOn own lent given) (y : TakesBack tells v b c given) where
  -- A moment before the last one is there only on a plant with a past.
  ticking : tells → (t : ℕ) → t < c.clock → 0 < a.clock
  ticking told t before = elim (cases_lt 0 a.clock) [
    | inl up ↦ up
    | inr none ↦
        let zero_a : a.clock ≡ 0 = omega (arith, none) in
        let zero_c = (y.rest.goes_on told).1 ((x.kept told).still zero_a) in
        absurd (omega (arith, before, zero_c))
  ]

  back_kept : tells → SamePast (on a (Volume v)) (on c (Volume v))
  back_kept told = record {
    later = omega (arith, (x.kept told).later, (y.rest.goes_on told).0);
    still = λ none. (y.rest.goes_on told).1 ((x.kept told).still none);
    same = λ t up to e left. (x.kept told).same t up to e (y.before told t (omega (arith, up, (x.kept told).later)) (omega (arith, to, x.since told)) (omega (arith, to, (x.kept told).later)) e left);
    all = λ t up to e was. y.before_all told t (omega (arith, up, (x.kept told).later)) (omega (arith, to, x.since told)) (omega (arith, to, (x.kept told).later)) e ((x.kept told).all t up to e was);
  }

  back_images : tells → (t : ℕ) → a.clock ≤ t → t ≤ c.clock → (e : List ℕ) → c.images t (Volume v) e → a.images a.clock (Volume v) e ⊎ OwnImage lent.clock given e
  back_images told t from to e left = elim (cases_lt t c.clock) [
    | inl before ↦ elim (cases_lt t (b.lent_since v)) [
      | inl early ↦
          let up = ticking told t before in
          let le : t ≤ b.clock = omega (arith, early, x.since_now told) in
          inl (x.before told t up from early le e (y.before told t (omega (arith, up, (x.kept told).later)) early le e left))
      | inr late ↦ let own_image = y.own told t late before e left in inr (own_image.0, omega (arith, x.clock, own_image.1), own_image.2, own_image.3)
    ]
    | inr now ↦
        let is : t ≡ c.clock = omega (arith, now, to) in
        inr (given.clock, (w.past (told_own told)).later, omega arith, y.now told e (subst (λ (s : ℕ). c.images s (Volume v) e) is left))
  ]

  pub back_of : IsBack tells a c v lent given
  back_of = record {
    from = x.from;
    is_back = y.is_back;
    faults = y.faults;
    later = w.faults;
    bytes = y.bytes;
    kept = back_kept;
    images = back_images;
    last = y.now;
    last_all = y.now_all;
    has_moment = λ told rises.
        let there : b.lent_since v < c.clock = y.has_moment told (omega (arith, x.clock, rises)) in
        (b.lent_since v, x.since told, there, λ e own_image. y.own_all told (b.lent_since v) (omega arith) there e (own_image.0, omega (arith, x.clock, own_image.1), own_image.2, own_image.3));
  }

-- It is back still once another volume is lent or taken back.
pub back_then : (tells : Type 0) (v w : ℕ) (a b c : PlantState) (lent given : Standing) → w ≢ v → IsBack tells a b w lent given → LeavesAllBut tells v b c → IsBack tells a c w lent given
back_then tells v w a b c lent given differ x y = record {
  from = x.from;
  is_back = (y.loans w differ).is_lent ∙ x.is_back;
  faults = y.others_faults (Volume w) apart ∙ x.faults;
  later = x.later;
  bytes = λ told. (y.others told (Volume w) apart).bytes ∙ x.bytes told;
  kept = λ told. kept_trans (on a (Volume w)) (on b (Volume w)) (on c (Volume w)) (x.kept told) (y.kept told (Volume w) apart);
  images = λ told t from to e left. elim (cases_lt t b.clock) [
    | inl early ↦ x.images told t from (omega (arith, early)) e ((y.kept told (Volume w) apart).same t (omega (arith, early)) (omega (arith, early)) e left)
    | inr late ↦ x.images told b.clock (x.kept told).later (omega arith) e (stayed (on b (Volume w)) (on c (Volume w)) t e (y.others told (Volume w) apart) late to left)
  ];
  last = λ told e left. x.last told e (stayed (on b (Volume w)) (on c (Volume w)) c.clock e (y.others told (Volume w) apart) (y.goes_on told).0 (omega arith) left);
  last_all = λ told e left. (y.others told (Volume w) apart).all c.clock (y.goes_on told).0 (omega arith) e (x.last_all told e left);
  has_moment = λ told rises.
      let m = x.has_moment told rises in
      (m.0, m.1, omega (arith, m.2, (y.goes_on told).0), λ e own_image. (y.kept told (Volume w) apart).all m.0 (omega (arith, m.2)) (omega (arith, m.2)) e (m.3 e own_image));
}
  where
    apart : Volume w ≢ Volume v
    apart = apart_volumes v w differ

-- By the step by which the disk came to stand so, the volume came there too.
pub back_follows : (tells : Type 0) (v : ℕ) (a c : PlantState) (lent given : Standing) (step : List ℕ → List ℕ → Type 0) → tells → IsBack tells a c v lent given → ((l : List ℕ) → step l l) → Follows step lent given → Follows step (on a (Volume v)) (on c (Volume v))
back_follows tells v a c lent given step told x same came t from to e left = elim (x.images told t from to e left) [
  | inl was ↦ (e, was, same e)
  | inr own_image ↦
      let start = came own_image.0 own_image.1 own_image.2 e own_image.3 in
      (start.0, x.from.images told start.0 start.1, start.2)
]

-- Where the disk is durable the volume is.
pub back_durable : (tells : Type 0) (v : ℕ) (a c : PlantState) (lent given : Standing) → tells → IsBack tells a c v lent given → IsDurable given → IsDurable (on c (Volume v))
back_durable tells v a c lent given told x durable e left = durable e (x.last told e left) ∙ sym (x.bytes told)
