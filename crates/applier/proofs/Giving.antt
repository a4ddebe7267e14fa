-- Volumes given back one after another.
use Rattle.std.proofs.Common.{◌≡◌, ◌≢◌, inl, inr, ◌⊎◌, ℕ, zero, suc, ◌+◌, ◌<◌, ◌≤◌, List, [], ◌∷◌, length, get_or, refl, sym, ◌∙◌, ap, subst, arith, Option, Some, None, IsSome, IfSome, true, false}
use Rattle.std.proofs.lemmas.Bool.{cases_lt}
use Rattle.std.proofs.lemmas.List.{get_or_default}
use Rattle.crash_plant.specs.declared.device.Device.{Device}
use Rattle.crash_plant.specs.declared.device.Device.TheVariants.{Volume}
use Rattle.crash_plant.specs.Moments.{Standing, PlantState, on, SamePast}
use Rattle.crash_plant.specs.Calls.{NoneLent, SameLoan, TakesBack, IsLentOne}
use Rattle.crash_plant.proofs.Choices.{device_cases}
use Rattle.xrc_journal.specs.declared.job.VolumeJob.{VolumeJob}
use Rattle.applier.specs.Disks.{OnDisks, AreApart, IsLentTo}
use Rattle.applier.specs.Loans.{HoldsVolume, IsOut, AreOut, LeavesBut}
use Rattle.applier.specs.Returns.{IsBack, AreBack}
use Rattle.applier.proofs.Others.{leaves_then}
use Rattle.applier.proofs.LentVolumes.{lent_one, back_of, back_then}
use Rattle.applier.proofs.Lending.{on_more, holds_then, other_volume}

-- The disks of so many jobs are back, and those of the others are out.
pub record AreHalfBack (tells own : Type 0) {D : Type 0} (state : D → Standing) (n : ℕ) (start plant : PlantState) (lent given : List (VolumeJob D)) : Type 0 where
  pub home : NoneLent start
  pub apart : AreApart given
  pub back : (i : ℕ) (d : VolumeJob D) → i < n → i < length given → OnDisks (λ was is. IsBack tells start plant (get_or given i d).device (state was) (state is)) (get_or lent i d).disk (get_or given i d).disk
  pub out : (i : ℕ) (d : VolumeJob D) → n ≤ i → i < length given → OnDisks (HoldsVolume tells own state start plant (get_or given i d).device) (get_or lent i d).disk (get_or given i d).disk
  pub others : LeavesBut tells (IsLentTo given) start plant

-- What is out isn't back yet.
pub none_back : (tells own : Type 0) {D : Type 0} (state : D → Standing) (start plant : PlantState) (lent given : List (VolumeJob D)) → AreOut tells own state start plant lent given → AreHalfBack tells own state 0 start plant lent given
none_back tells own state start plant lent given x = record {
  home = x.home;
  apart = x.apart;
  back = λ i d early less. absurd (omega (arith, early));
  out = λ i d late less. x.disks i d less;
  others = x.others;
}

-- Where a job has no disk anything holds of both.
on_no_disk : {D : Type 0} (holds more : D → D → Type 0) (old new : Option D) → new ≡ None → OnDisks holds old new → OnDisks more old new
on_no_disk holds more (Some x) (Some y) none fact = absurd (cc none)
on_no_disk holds more (Some x) None none fact = fact
on_no_disk holds more None (Some y) none fact = fact
on_no_disk holds more None None none fact = tt

-- Where a job has a disk, another fact of it follows.
on_disk : {D : Type 0} (holds more : D → D → Type 0) (old new : Option D) (disk : D) → new ≡ Some disk → ((was : D) → holds was disk → more was disk) → OnDisks holds old new → OnDisks more old new
on_disk holds more old new disk is follows fact = subst (λ (o : Option _). OnDisks more old o) (sym is) (go old (subst (λ (o : Option _). OnDisks holds old o) is fact))
  where
    go : (o : Option _) → OnDisks holds o (Some disk) → OnDisks more o (Some disk)
    go (Some was) f = follows was f
    go None f = f

module _ {D : Type 0} (tells own : Type 0) (state : D → Standing) (n : ℕ) (start b : PlantState) (lent given : List (VolumeJob D)) (x : AreHalfBack tells own state n start b lent given) (job : VolumeJob D) (less : n < length given) (at : job ≡ get_or given n job) where
  -- A job that has no disk gives none back.
  pub back_none : job.disk ≡ None → AreHalfBack tells own state (n + 1) start b lent given
  back_none none = record {
    home = x.home;
    apart = x.apart;
    back = λ i d early i_less. elim (cases_lt i n) [
      | inl before ↦ x.back i d before i_less
      | inr from ↦
          let is : i ≡ n = omega (arith, early, from) in
          let no_disk : (get_or given i d).disk ≡ None = ap (λ (k : ℕ). (get_or given k d).disk) is ∙ ap (λ (j : VolumeJob D). j.disk) (get_or_default given n d job less ∙ sym at) ∙ none in
          on_no_disk _ _ _ _ no_disk (x.out i d from i_less)
    ];
    out = λ i d late i_less. x.out i d (omega (arith, late)) i_less;
    others = x.others;
  }

  same_at : (d : VolumeJob D) → get_or given n d ≡ job
  same_at d = get_or_default given n d job less ∙ sym at

  -- The disk of a job can be given back.
  pub is_lent_one : (disk : D) → job.disk ≡ Some disk → IsLentOne tells job.device b (state disk)
  is_lent_one disk has = go (get_or lent n job).disk (subst (λ (o : Option D). OnDisks (HoldsVolume tells own state start b job.device) (get_or lent n job).disk o) has here)
    where
      here : OnDisks (HoldsVolume tells own state start b job.device) (get_or lent n job).disk job.disk
      here = subst (λ (j : VolumeJob D). OnDisks (HoldsVolume tells own state start b j.device) (get_or lent n job).disk j.disk) (sym at) (x.out n job (omega arith) less)

      go : (o : Option D) → OnDisks (HoldsVolume tells own state start b job.device) o (Some disk) → IsLentOne tells job.device b (state disk)
      go (Some was) f = lent_one tells own job.device start b (state was) (state disk) f.tells_own f.out f.worked
      go None f = absurd f

  -- It is given back.
  module _ (c : PlantState) (disk : D) (has : job.disk ≡ Some disk) (takes_back : TakesBack tells job.device b c (state disk)) where
    apart_from : (i : ℕ) (d : VolumeJob D) → i < length given → i ≢ n → (get_or given i d).device ≢ job.device
    apart_from i d i_less differ same = other_volume given n i d x.apart less i_less differ (same ∙ ap (λ (j : VolumeJob D). j.device) (sym (same_at d)))

    here : IsLentTo given (Volume job.device)
    here = (job, (n, (less, at)), subst (λ (o : Option D). IsSome o) (sym has) refl, refl)

    now_back : (d : VolumeJob D) → OnDisks (λ was is. IsBack tells start c (get_or given n d).device (state was) (state is)) (get_or lent n d).disk (get_or given n d).disk
    now_back d = on_disk _ _ _ _ disk (ap (λ (j : VolumeJob D). j.disk) (same_at d) ∙ has)
        (λ was f. subst (λ (j : VolumeJob D). IsBack tells start c j.device (state was) (state disk)) (sym (same_at d))
        (back_of tells own job.device start b c (state was) (state disk) f.tells_own (subst (λ (j : VolumeJob D). IsOut tells start b j.device (state was)) (same_at d) f.out) f.worked takes_back))
        (x.out n d (omega arith) less)

    pub back_more : AreHalfBack tells own state (n + 1) start c lent given
    back_more = record {
      home = x.home;
      apart = x.apart;
      back = λ i d early i_less. elim (cases_lt i n) [
        | inl before ↦ on_more _ _ _ _ (λ was is f. back_then tells job.device (get_or given i d).device start b c (state was) (state is) (apart_from i d i_less (λ same. absurd (omega (arith, same, before)))) f takes_back.rest) (x.back i d before i_less)
        | inr from ↦
            let is : n ≡ i = omega (arith, early, from) in
            subst (λ (k : ℕ). OnDisks (λ was is. IsBack tells start c (get_or given k d).device (state was) (state is)) (get_or lent k d).disk (get_or given k d).disk) is (now_back d)
      ];
      out = λ i d late i_less. holds_then tells own state job.device (get_or given i d).device start b c _ _ (apart_from i d i_less (λ same. absurd (omega (arith, same, late)))) takes_back.rest (x.out i d (omega (arith, late)) i_less);
      others = leaves_then tells (IsLentTo given) (IsLentTo given) job.device start b c (λ d is. is) here x.others takes_back.rest;
    }

-- The next job has given its disk back, or nothing was done.
module _ {P D : Type 0} (plants : P → PlantState) (tells own : Type 0) (state : D → Standing) (n : ℕ) (start : PlantState) (b : P) (lent given : List (VolumeJob D)) (x : AreHalfBack tells own state n start (plants b) lent given) (job : VolumeJob D) (less : n < length given) (at : job ≡ get_or given n job) where
  pub own_lent : IfSome job.disk (λ disk. IsLentOne tells job.device (plants b) (state disk))
  own_lent = go job.disk refl
    where
      go : (o : Option D) → job.disk ≡ o → IfSome o (λ disk. IsLentOne tells job.device (plants b) (state disk))
      go (Some disk) is = is_lent_one tells own state n start (plants b) lent given x job less at disk is
      go None is = tt

  pub back_next : (c : P) → (job.disk ≡ None → c ≡ b) → IfSome job.disk (λ disk. TakesBack tells job.device (plants b) (plants c) (state disk)) → AreHalfBack tells own state (n + 1) start (plants c) lent given
  back_next c nothing takes_back = go job.disk refl takes_back
    where
      go : (o : Option D) → job.disk ≡ o → IfSome o (λ disk. TakesBack tells job.device (plants b) (plants c) (state disk)) → AreHalfBack tells own state (n + 1) start (plants c) lent given
      go (Some disk) is back = back_more tells own state n start (plants b) lent given x job less at (plants c) disk is back
      go None is back = subst (λ (p : P). AreHalfBack tells own state (n + 1) start (plants p) lent given) (sym (nothing is)) (back_none tells own state n start (plants b) lent given x job less at is)

-- The device is the volume of a job that has its disk, or it isn't.
pub lent_cases : {D : Type 0} (jobs : List (VolumeJob D)) (device : Device) → IsLentTo jobs device ⊎ ¬ IsLentTo jobs device
lent_cases [] device = inr (λ lent. absurd (omega (arith, lent.1.1.0)))
lent_cases (job ∷ jobs) device = elim (lent_cases jobs device) [
  | inl among ↦ inl (among.0, (suc among.1.0, (omega (arith, among.1.1.0), among.1.1.1)), among.2, among.3)
  | inr none ↦ elim (cases_some job.disk) [
    | inl some ↦ elim (device_cases device (Volume job.device)) [
      | inl is ↦ inl (job, (0, (omega arith, refl)), some, is)
      | inr differ ↦ inr (λ lent. no lent.0 lent.1.0 lent.1.1.0 lent.1.1.1 lent.2 lent.3 none (λ j same has is. differ (is ∙ ap (λ (k : VolumeJob _). Volume k.device) same)))
    ]
    | inr not ↦ inr (λ lent. no lent.0 lent.1.0 lent.1.1.0 lent.1.1.1 lent.2 lent.3 none (λ j same has is. not (subst (λ (k : VolumeJob _). IsSome k.disk) same has)))
  ]
]
  where
    cases_some : {T : Type 0} (o : Option T) → IsSome o ⊎ ¬ IsSome o
    cases_some (Some x) = inl refl
    cases_some None = inr (λ some. cc some)

    no : (j : VolumeJob _) (i : ℕ) → i < length (job ∷ jobs) → j ≡ get_or (job ∷ jobs) i j → IsSome j.disk → device ≡ Volume j.device → ¬ IsLentTo jobs device → ((k : VolumeJob _) → k ≡ job → IsSome k.disk → device ≡ Volume k.device → ⊥) → ⊥
    no j zero less at has is none first = first j at has is
    no j (suc i) less at has is none first = none (j, (i, (omega (arith, less), at)), has, is)

module _ {D : Type 0} (tells own : Type 0) (state : D → Standing) (start c : PlantState) (lent given : List (VolumeJob D)) (x : AreHalfBack tells own state (length given) start c lent given) where
  -- What holds of each volume that is back holds of each device that was lent.
  of_back : (P : Device → Type 0) → ((v : ℕ) (was is : D) → IsBack tells start c v (state was) (state is) → P (Volume v)) → (d : Device) → IsLentTo given d → P d
  of_back P holds d among = subst (λ (e : Device). P e) (sym among.3) (go among.0 among.1.0 among.1.1.1 among.2 (x.back among.1.0 among.0 among.1.1.0 among.1.1.0))
    where
      by_disk : (v : ℕ) (o p : Option D) → IsSome p → OnDisks (λ was is. IsBack tells start c v (state was) (state is)) o p → P (Volume v)
      by_disk v (Some was) (Some is) some f = holds v was is f
      by_disk v None (Some is) some f = absurd f
      by_disk v (Some was) None some f = absurd f
      by_disk v None None some f = absurd (cc some)

      go : (job : VolumeJob D) (i : ℕ) → job ≡ get_or given i job → IsSome job.disk → OnDisks (λ was is. IsBack tells start c (get_or given i job).device (state was) (state is)) (get_or lent i job).disk (get_or given i job).disk → P (Volume job.device)
      go job i at some f = by_disk job.device (get_or lent i job).disk job.disk some
          (subst (λ (j : VolumeJob D). OnDisks (λ was is. IsBack tells start c j.device (state was) (state is)) (get_or lent i job).disk j.disk) (sym at) f)

  -- Once each is back, they are all.
  pub all_back : AreBack tells state start c lent given
  all_back = record {
    disks = λ i d less. x.back i d less less;
    works = record {
      site = x.others.site;
      is_lent = λ v. elim (lent_cases given (Volume v)) [
        | inl among ↦ of_back (λ d. (w : ℕ) → d ≡ Volume w → c.is_lent w ≡ start.is_lent w) (λ u was is back w same. subst (λ (n : ℕ). c.is_lent n ≡ start.is_lent n) (cc same) (back.is_back ∙ sym (x.home u back.from.there))) (Volume v) among v refl
        | inr none ↦ (x.others.loans v none).is_lent
      ];
      loans = λ v is_lent. elim (lent_cases given (Volume v)) [
        | inl among ↦ of_back (λ d. (w : ℕ) → d ≡ Volume w → start.is_lent w ≡ true → SameLoan w start c)
            (λ u was is back w same still. absurd (was_home u w (cc same) back.from.there still)) (Volume v) among v refl is_lent
        | inr none ↦ x.others.loans v none
      ];
      elapses = λ told. record {
        kept = λ d. elim (lent_cases given d) [
          | inl among ↦ of_back (λ e. SamePast (on start e) (on c e)) (λ u was is back. back.kept told) d among
          | inr none ↦ x.others.kept told d none
        ];
        heard = x.others.heard told;
        said = x.others.said told;
      };
      silent = x.others.silent;
      others = x.others.others;
      others_faults = x.others.others_faults;
      console_faults = x.others.console_faults;
      faults = λ d. elim (lent_cases given d) [
        | inl among ↦ of_back (λ e. start.faults e ≤ c.faults e) (λ u was is back. omega (arith, back.faults, back.later, back.from.faults)) d among
        | inr none ↦ omega (arith, x.others.others_faults d none)
      ];
    };
  }
    where
      was_home : (u w : ℕ) → u ≡ w → u < start.volumes → start.is_lent w ≡ true → ⊥
      was_home u w same there still =
          let home : start.is_lent w ≡ false = x.home w (omega (arith, same, there)) in
          cc (home, still)
