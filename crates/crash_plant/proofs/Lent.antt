-- A volume that was lent and is back.
use Rattle.std.proofs.Common.{◌≡◌, inl, inr, ℕ, ◌+◌, ◌≤◌, ◌<◌, List, sym, ◌∙◌, subst, arith}
use Rattle.std.proofs.lemmas.Bool.{cases_lt}
use Rattle.crash_plant.specs.declared.device.Device.TheVariants.{Volume}
use Rattle.crash_plant.specs.Moments.{Standing, PlantState, on, SamePast, Follows}
use Rattle.crash_plant.specs.Calls.{IsLentOne, SameLoan, SameSite, Lends, TakesBack}
use Rattle.crash_plant.proofs.Steps.{kept_trans}

-- From the plant a, in which the volume wasn't lent, by b, c and d: it is lent, other calls are made or none, and it is taken back.
module _ (tells : Type 0) (told : tells) (v : ℕ) (a b c d : PlantState) (first last : Standing) (lends : Lends tells v a b first) (between : SamePast (on b (Volume v)) (on c (Volume v))) (loan : SameLoan v b c) (takes_back : TakesBack tells v c d last) where
  since_is : c.lent_since v ≡ a.clock + 1
  since_is = loan.since ∙ lends.since

  clock_is : (c.lent v).clock ≡ first.clock
  clock_is = loan.clock ∙ lends.clock

  ab : a.clock ≤ b.clock
  ab = (lends.rest.goes_on told).0

  bc : b.clock ≤ c.clock
  bc = between.later

  cd : c.clock ≤ d.clock
  cd = (takes_back.rest.goes_on told).0

  -- The past before the lent time is as it was.
  pub lent_kept : SamePast (on a (Volume v)) (on d (Volume v))
  lent_kept = record {
    later = omega (arith, ab, bc, cd);
    still = λ none. (takes_back.rest.goes_on told).1 (between.still ((lends.rest.goes_on told).1 none));
    same = λ t up le z now. (lends.kept told).same t up le z (between.same t (omega (arith, up, ab)) (omega (arith, le, ab)) z
        (takes_back.before told t (omega (arith, up, ab, bc)) (omega (arith, since_is, le)) (omega (arith, le, ab, bc)) z now));
    all = λ t up le z was. takes_back.before_all told t (omega (arith, up, ab, bc)) (omega (arith, since_is, le)) (omega (arith, le, ab, bc)) z
        (between.all t (omega (arith, up, ab)) (omega (arith, le, ab)) z ((lends.kept told).all t up le z was));
  }

  -- At every moment each image comes by the step by which the volume came there.
  pub lent_moments : (step : List ℕ → List ℕ → Type 0) → ((x : List ℕ) → step x x) → first.clock ≤ last.clock → Follows step first last → Follows step (on a (Volume v)) (on d (Volume v))
  lent_moments step same le came t from to z left = elim (cases_lt t d.clock) [
    | inl before ↦ elim (cases_lt a.clock t) [
      | inl lent ↦
          let own = takes_back.own told t (omega (arith, since_is, lent)) before z left in
          let start = came own.0 (omega (arith, clock_is, own.1)) own.2 z own.3 in
          (start.0, lends.images told start.0 start.1, start.2)
      | inr begin ↦
          let is : t ≡ a.clock = omega arith in
          let was = subst (λ (s : ℕ). a.images s (Volume v) z) is (lent_kept.same t (ticking before) begin z left) in
          (z, was, same z)
    ]
    | inr now ↦
        let is : t ≡ d.clock = omega arith in
        let start = came last.clock le (omega arith) z (takes_back.now told z (subst (λ (s : ℕ). d.images s (Volume v) z) is left)) in
        (start.0, lends.images told start.0 start.1, start.2)
  ]
    where
      ticking : t < d.clock → 0 < a.clock
      ticking before = elim (cases_lt 0 a.clock) [
        | inl up ↦ up
        | inr none ↦
            let zero_a : a.clock ≡ 0 = omega arith in
            let zero_d = (takes_back.rest.goes_on told).1 (between.still ((lends.rest.goes_on told).1 zero_a)) in
            absurd (omega (arith, before, zero_d))
      ]

-- A volume that was lent can be taken back after calls on it and on others.
pub lent_one : (tells : Type 0) (v : ℕ) (a b c : PlantState) (first last : Standing) → Lends tells v a b first → v < a.volumes → SameLoan v b c → SameSite b c → c.faults (Volume v) ≡ b.faults (Volume v) → (tells → SamePast first last) → last.length_is ≡ first.length_is → first.faults ≤ last.faults → IsLentOne tells v c last
lent_one tells v a b c first last lends there loan site count past size later = record {
  there = omega (arith, there, lends.rest.site.volumes, site.volumes);
  is_lent = loan.is_lent ∙ lends.is_lent;
  length_is = size ∙ lends.length_is ∙ sym (site.lengths (Volume v) ∙ lends.rest.site.lengths (Volume v));
  past = λ told. kept_trans (c.lent v) (b.lent v) last loan.lent (kept_trans (b.lent v) first last lends.lent (past told));
  faults = omega (arith, count, lends.same_faults, lends.faults, later);
}
