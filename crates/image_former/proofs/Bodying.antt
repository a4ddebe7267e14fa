-- The items of a body that is formed, one entry after another.
use Rattle.std.proofs.Common.{◌≡◌, ◌⊎◌, inl, inr, ◌≤◌, ◌<◌, ◌+◌, ◌==◌, ◌&&◌, ◌||◌, ◌++◌, ℕ, zero, suc, Bool, true, false, cond, List, [], ◌∷◌, length, get_or, set, Option, Some, None, refl, sym, ◌∙◌, ap, subst, arith, length-append}
use Rattle.std.specs.Prelude.{not, count_by, IsSomeAnd}
use Rattle.std.specs.List.{list_any, list_all, flat_map}
use Rattle.std.proofs.lemmas.Bool.{and_parts, and_from, or_parts, or_cases, eqb-true, eq-eqb, ne_eqb, both_ways, cases_eq}
use Rattle.std.proofs.lemmas.List.{length-set, get_or-set_same, get_or-set_other, flat_map_more}
use Rattle.std.proofs.lemmas.List.Folds.{list_any-append, list_all-append, list_any_at, Any-from_list_any}
use Rattle.std.proofs.lemmas.List.Sums.{sum_by-cons, fold_push}
use Rattle.crash_plant.specs.Moments.{Standing}
use Rattle.ckd_track.specs.declared.rec.Rec.{Rec}
use Rattle.ckd_track.specs.declared.write.Kind.{Kind}
use Rattle.ckd_track.specs.SlotPlaces.{slot_track}
use Rattle.xrc_journal.specs.declared.job.VolumeJob.{VolumeJob}
use Rattle.xrc_journal.specs.Items.{Item, Earlier, earlier_after, earlier_after_all, is_drawn, item_spelling, body_spelling}
use Rattle.xrc_journal.specs.Items.Item.{Image, Delta, Pair, Gone}
use Rattle.xrc_journal.specs.Contents.{content_by, content_through, is_of_track}
use Rattle.xrc_journal.specs.Jobs.{OnVolume}
use Rattle.pair_table.specs.declared.row.PairRow.{PairRow}
use Rattle.pending_queue.specs.Entries.{WaitingEntry}
use Rattle.image_former.specs.Entries.{entry_row, row_device, entry_device, is_device, is_entry_on, HasEntry}
use Rattle.image_former.specs.Changes.{AreSpelled, changed_through}
use Rattle.image_former.specs.Jobs.{is_job_of, is_failed_of, HasOneJob}
use Rattle.image_former.specs.Forms.{is_image}
use Rattle.image_former.specs.Steps.{Goes, OfBytes, OnlyReadsDisk, StandForTracks, StandOnJob, AreFormed}

-- ---- a device with one job

module _ {D : Type 0} (device : ℕ) where
  count_cons : (x : VolumeJob D) (jobs : List (VolumeJob D)) → count_by (is_job_of device) (x ∷ jobs) ≡ cond (is_job_of device x) 1 0 + count_by (is_job_of device) jobs
  count_cons x jobs = sum_by-cons (λ (j : VolumeJob D). cond (is_job_of device j) 1 0) x jobs

  one_there : (x : VolumeJob D) → x.device ≡ device → ◌≡◌ {A = ℕ} (cond (is_job_of device x) 1 0) 1
  one_there x is = ap (λ (b : Bool). cond b 1 0) (eq-eqb x.device device is)

  none_there : (x : VolumeJob D) → (x.device ≡ device → ⊥) → ◌≡◌ {A = ℕ} (cond (is_job_of device x) 1 0) 0
  none_there x other = ap (λ (b : Bool). cond b 1 0) (ne_eqb x.device device other)

  no_job : (jobs : List (VolumeJob D)) (k : ℕ) (d : VolumeJob D) → count_by (is_job_of device) jobs ≡ 0 → k < length jobs → (get_or jobs k d).device ≡ device → ⊥
  no_job [] k d none lt is = omega (arith, lt)
  no_job (x ∷ jobs) zero d none lt is = omega (arith, none, count_cons x jobs, one_there x is)
  no_job (x ∷ jobs) (suc k) d none lt is = no_job jobs k d (omega (arith, none, count_cons x jobs)) (omega (arith, lt)) is

  pub sole_job : (jobs : List (VolumeJob D)) (i k : ℕ) (c d : VolumeJob D) → count_by (is_job_of device) jobs ≡ 1 → i < length jobs → (get_or jobs i c).device ≡ device → k < length jobs → (get_or jobs k d).device ≡ device
      → get_or jobs k d ≡ get_or jobs i c
  sole_job [] i k c d one lt is lk has = absurd (omega (arith, lt))
  sole_job (x ∷ jobs) zero zero c d one lt is lk has = refl
  sole_job (x ∷ jobs) zero (suc k) c d one lt is lk has = absurd (no_job jobs k d (omega (arith, one, count_cons x jobs, one_there x is)) (omega (arith, lk)) has)
  sole_job (x ∷ jobs) (suc i) zero c d one lt is lk has = absurd (no_job jobs i c (omega (arith, one, count_cons x jobs, one_there x has)) (omega (arith, lt)) is)
  sole_job (x ∷ jobs) (suc i) (suc k) c d one lt is lk has = elim (cases_eq x.device device) [
    | inl here ↦ absurd (no_job jobs i c (omega (arith, one, count_cons x jobs, one_there x here)) (omega (arith, lt)) is)
    | inr other ↦ sole_job jobs i k c d (omega (arith, one, count_cons x jobs, none_there x other)) (omega (arith, lt)) is (omega (arith, lk)) has
  ]

both_agree : (a b : Bool) → (a ≡ true → b ≡ true) → (b ≡ true → a ≡ true) → a ≡ b
both_agree true b one two = sym (one refl)
both_agree false true one two = two refl
both_agree false false one two = refl

pub sole_failed : {D : Type 0} (device : ℕ) (jobs : List (VolumeJob D)) (i : ℕ) (c : VolumeJob D) → count_by (is_job_of device) jobs ≡ 1 → i < length jobs → (get_or jobs i c).device ≡ device
    → list_any (is_failed_of device) jobs ≡ (get_or jobs i c).failed
sole_failed device jobs i c one lt is = both_agree (list_any (is_failed_of device) jobs) (get_or jobs i c).failed forth back
  where
    forth : list_any (is_failed_of device) jobs ≡ true → (get_or jobs i c).failed ≡ true
    forth any =
        let found = Any-from_list_any (is_failed_of device) jobs any in
        let job = found.1 in
        let parts = and_parts (job.device == device) job.failed found.4 in
        let at : get_or jobs found.0 job ≡ job = found.3 in
        let same = sole_job device jobs i found.0 c job one lt is found.2 (ap (λ (j : VolumeJob _). j.device) at ∙ eqb-true job.device device parts.0) in
        ap (λ (j : VolumeJob _). j.failed) (sym same ∙ at) ∙ parts.1

    back : (get_or jobs i c).failed ≡ true → list_any (is_failed_of device) jobs ≡ true
    back bad = list_any_at (is_failed_of device) jobs i c lt (and_from ((get_or jobs i c).device == device) (get_or jobs i c).failed (eq-eqb (get_or jobs i c).device device is) bad)

-- the device of an entry that is on a track
on_device : (o : Option ℕ) (device : ℕ) (P : ℕ → Type 0) (b : Bool) → IsSomeAnd o P → (is_device device o && b) ≡ true → P device
on_device (Some n) device P b is on = subst P (eqb-true n device (and_parts (n == device) b on).0) is
on_device None device P b is on = absurd is

pub one_of_entry : {D : Type 0} (rows : List PairRow) (jobs : List (VolumeJob D)) (e : WaitingEntry) (device x : ℕ) → HasOneJob rows jobs e → is_entry_on rows device x e ≡ true → count_by (is_job_of device) jobs ≡ 1
one_of_entry rows jobs e device x one on = on_device (entry_device rows e) device (λ d. count_by (is_job_of d) jobs ≡ 1) (e.head.track == x) one on

-- ---- facts of the bytes of a volume

module _ {D : Type 0} (state : D → Standing) where
  pub of_any : (P : List ℕ → Type 0) (disk : Option D) → ((bytes : List ℕ) → P bytes) → OfBytes state P disk
  of_any P (Some disk) each = each (state disk).bytes
  of_any P None each = tt

  pub of_map : (P Q : List ℕ → Type 0) (disk : Option D) → ((bytes : List ℕ) → P bytes → Q bytes) → OfBytes state P disk → OfBytes state Q disk
  of_map P Q (Some disk) each is = each (state disk).bytes is
  of_map P Q None each is = tt

  pub of_both : (P Q R : List ℕ → Type 0) (disk : Option D) → ((bytes : List ℕ) → P bytes → Q bytes → R bytes) → OfBytes state P disk → OfBytes state Q disk → OfBytes state R disk
  of_both P Q R (Some disk) each is also = each (state disk).bytes is also
  of_both P Q R None each is also = tt

  pub of_after : (tells : Type 0) (failed : Bool) (P : List ℕ → Type 0) (a b : Option D) → tells → OnVolume state (OnlyReadsDisk tells failed) a b → OfBytes state P a → OfBytes state P b
  of_after tells failed P (Some a) (Some b) told on is = subst P (sym (on.bytes told)) is
  of_after tells failed P (Some a) None told on is = absurd on
  of_after tells failed P None (Some b) told on is = absurd on
  of_after tells failed P None None told on is = tt

-- ---- bodies of images

pub late_images : (items : List Item) (earlier : Earlier) → list_all is_image items ≡ true → (earlier_after_all items earlier).late ≡ earlier.late
late_images [] earlier all = refl
late_images (Image d x recs ∷ items) earlier all = late_images items (earlier_after (Image d x recs) earlier) all
late_images (Delta d x kind ∷ items) earlier all = absurd cc
late_images (Pair version row ∷ items) earlier all = absurd cc
late_images (Gone d ∷ items) earlier all = absurd cc

pub not_drawn : (device x : ℕ) (items : List Item) (earlier : Earlier) → list_all is_image items ≡ true → list_any (is_of_track device x) items ≡ false → is_drawn earlier.drawn device x ≡ false
    → is_drawn (earlier_after_all items earlier).drawn device x ≡ false
not_drawn device x [] earlier all none before = before
not_drawn device x (Image d y recs ∷ items) earlier all none before =
    let parts = or_parts (d == device && y == x) (list_any (is_of_track device x) items) none in
    not_drawn device x items (earlier_after (Image d y recs) earlier) all parts.1 (λ i. parts.0 i || before i)
not_drawn device x (Delta d y kind ∷ items) earlier all none before = absurd cc
not_drawn device x (Pair version row ∷ items) earlier all none before = absurd cc
not_drawn device x (Gone d ∷ items) earlier all none before = absurd cc

pub spelled_more : (items : List Item) (i : Item) → length (body_spelling (items ++ i ∷ [])) ≡ length (body_spelling items) + length (item_spelling i)
spelled_more items i = ap length (sym (flat_map_more item_spelling [] items i)) ∙ length-append (flat_map item_spelling items) (item_spelling i)

-- ---- one entry more

still_bool : (a o f : Bool) → (o ≡ true → (a ≡ true) ⊎ (f ≡ true)) → (a && not f) ≡ ((a || (o || false)) && not f)
still_bool true o f still = refl
still_bool false false f still = refl
still_bool false true true still = refl
still_bool false true false still = absurd (elim (still refl) [
  | inl e ↦ clash e
  | inr e ↦ clash e
])
  where
    clash : false ≡ true → ⊥
    clash e = cc

more_bool : (a o f : Bool) → (o ≡ true → f ≡ false) → ((a && not f) || (o || false)) ≡ ((a || (o || false)) && not f)
more_bool true true true fine = absurd (clash (fine refl))
  where
    clash : true ≡ false → ⊥
    clash e = cc
more_bool true true false fine = refl
more_bool true false true fine = refl
more_bool true false false fine = refl
more_bool false true true fine = absurd (clash (fine refl))
  where
    clash : true ≡ false → ⊥
    clash e = cc
more_bool false true false fine = refl
more_bool false false f fine = refl

or_false : (o : Bool) → (o || false) ≡ o
or_false true = refl
or_false false = refl

module _ {D : Type 0} (state : D → Standing) (tells : Type 0) (rows : List PairRow) (entries : List WaitingEntry) where
  pub formed_none : (jobs : List (VolumeJob D)) → AreFormed state tells rows entries [] jobs []
  formed_none jobs = record {
    images = refl;
    tracks = λ device x. refl;
    content = λ told k d lt good. of_any state (StandForTracks rows entries [] (get_or jobs k d).device []) (get_or jobs k d).disk (λ bytes x kinds has spelled. absurd (clash has));
    short = omega arith;
  }
    where
      clash : false ≡ true → ⊥
      clash e = cc

  any_then : (device x : ℕ) (done : List WaitingEntry) (e : WaitingEntry) → list_any (is_entry_on rows device x) (done ++ e ∷ []) ≡ (list_any (is_entry_on rows device x) done || (is_entry_on rows device x e || false))
  any_then device x done e = list_any-append (is_entry_on rows device x) done (e ∷ [])

  has_then : (device x : ℕ) (done : List WaitingEntry) (e : WaitingEntry) → HasEntry rows device x (done ++ e ∷ []) → HasEntry rows device x done ⊎ (is_entry_on rows device x e ≡ true)
  has_then device x done e has = elim (or_cases (list_any (is_entry_on rows device x) done) (is_entry_on rows device x e || false) (sym (any_then device x done e) ∙ has)) [
    | inl before ↦ inl before
    | inr here ↦ inr (sym (or_false (is_entry_on rows device x e)) ∙ here)
  ]

  -- An entry that adds no item: its volume has failed, or an earlier one is on its track.
  pub formed_still : (done : List WaitingEntry) (e : WaitingEntry) (jobs : List (VolumeJob D)) (items : List Item) → HasOneJob rows jobs e
      → ((device x : ℕ) → is_entry_on rows device x e ≡ true → (list_any (is_entry_on rows device x) done ≡ true) ⊎ (list_any (is_failed_of device) jobs ≡ true))
      → AreFormed state tells rows entries done jobs items → AreFormed state tells rows entries (done ++ e ∷ []) jobs items
  formed_still done e jobs items one still formed = record {
    images = formed.images;
    tracks = λ device x. formed.tracks device x ∙ still_bool (list_any (is_entry_on rows device x) done) (is_entry_on rows device x e) (list_any (is_failed_of device) jobs) (still device x)
        ∙ (λ i. sym (any_then device x done e) i && not (list_any (is_failed_of device) jobs));
    content = λ told k d lt good.
        let job = get_or jobs k d in
        of_map state (StandForTracks rows entries done job.device items) (StandForTracks rows entries (done ++ e ∷ []) job.device items) job.disk
        (λ bytes stands x kinds has spelled. stands x kinds (before job k d refl lt good x (has_then job.device x done e has)) spelled) (formed.content told k d lt good);
    short = omega (arith, formed.short, length-append done (e ∷ []));
  }
    where
      before : (job : VolumeJob D) (k : ℕ) (d : VolumeJob D) → job ≡ get_or jobs k d → k < length jobs → job.failed ≡ false → (x : ℕ) → HasEntry rows job.device x done ⊎ (is_entry_on rows job.device x e ≡ true) → HasEntry rows job.device x done
      before job k d is lt good x (inl has) = has
      before job k d is lt good x (inr on) = elim (still job.device x on) [
        | inl has ↦ has
        | inr bad ↦ absurd (both_ways (list_any (is_failed_of job.device) jobs)
            (sole_failed job.device jobs k d (one_of_entry rows jobs e job.device x one on) lt (ap (λ (j : VolumeJob D). j.device) (sym is)) ∙ ap (λ (j : VolumeJob D). j.failed) (sym is) ∙ good) bad)
      ]

  -- what is known of the track of such an entry, on its device
  abbrev Fact : (r : PairRow) (e : WaitingEntry) (recs : List Rec) (device : ℕ) → List ℕ → Type 0
  Fact r e recs device bytes = device ≡ r.device → (kinds : List Kind) → AreSpelled entries kinds → Some recs ≡ changed_through rows r.device e.head.track entries kinds (slot_track bytes e.head.track)

  -- An entry that adds an image of its track.
  pub formed_more : (done : List WaitingEntry) (e : WaitingEntry) (r : PairRow) (jobs : List (VolumeJob D)) (items : List Item) (recs : List Rec) (i : ℕ) (c : VolumeJob D) → HasOneJob rows jobs e → entry_row rows e ≡ Some r
      → i < length jobs → (get_or jobs i c).device ≡ r.device → (get_or jobs i c).failed ≡ false
      → (tells → OfBytes state (λ bytes. (kinds : List Kind) → AreSpelled entries kinds → Some recs ≡ changed_through rows r.device e.head.track entries kinds (slot_track bytes e.head.track)) (get_or jobs i c).disk)
      → length (item_spelling (Image r.device e.head.track recs)) ≤ 56669
      → AreFormed state tells rows entries done jobs items → AreFormed state tells rows entries (done ++ e ∷ []) jobs (items ++ Image r.device e.head.track recs ∷ [])
  formed_more done e r jobs items recs i c one row lt own good fact size formed = record {
    images = list_all-append is_image items (Image r.device e.head.track recs ∷ []) ∙ and_from (list_all is_image items) true formed.images refl;
    tracks = λ device x.
        list_any-append (is_of_track device x) items (Image r.device e.head.track recs ∷ [])
        ∙ (λ j. formed.tracks device x j || (is_of_track device x (Image r.device e.head.track recs) || false))
        ∙ more_bool (list_any (is_entry_on rows device x) done) (r.device == device && e.head.track == x) (list_any (is_failed_of device) jobs) (λ here. fine device (eqb-true r.device device (and_parts (r.device == device) (e.head.track == x) here).0))
        ∙ (λ j. (list_any (is_entry_on rows device x) done || (sym (on_is device x) j || false)) && not (list_any (is_failed_of device) jobs))
        ∙ (λ j. sym (any_then device x done e) j && not (list_any (is_failed_of device) jobs));
    content = λ told k d lk live.
        let job = get_or jobs k d in
        of_both state (StandForTracks rows entries done job.device items) (Fact r e recs job.device) (StandForTracks rows entries (done ++ e ∷ []) job.device (items ++ Image r.device e.head.track recs ∷ [])) job.disk
        (λ bytes stands it x kinds has spelled. holds job.device bytes stands it x kinds has spelled) (formed.content told k d lk live) (own_fact told k d lk);
    short = omega (arith, formed.short, size, spelled_more items (Image r.device e.head.track recs), length-append done (e ∷ []));
  }
    where
      on_is : (device x : ℕ) → is_entry_on rows device x e ≡ (r.device == device && e.head.track == x)
      on_is device x = ap (λ (o : Option PairRow). is_device device (row_device o) && e.head.track == x) row

      alone : count_by (is_job_of r.device) jobs ≡ 1
      alone = one_of_entry rows jobs e r.device e.head.track one (on_is r.device e.head.track ∙ and_from (r.device == r.device) (e.head.track == e.head.track) (eq-eqb r.device r.device refl) (eq-eqb e.head.track e.head.track refl))

      fine : (device : ℕ) → r.device ≡ device → list_any (is_failed_of device) jobs ≡ false
      fine device is = subst (λ (n : ℕ). list_any (is_failed_of n) jobs ≡ false) is (sole_failed r.device jobs i c alone lt own ∙ good)

      own_fact : tells → (k : ℕ) (d : VolumeJob D) → k < length jobs → OfBytes state (Fact r e recs (get_or jobs k d).device) (get_or jobs k d).disk
      own_fact told k d lk = elim (cases_eq (get_or jobs k d).device r.device) [
        | inl same ↦
            let is = sole_job r.device jobs i k c d alone lt own lk same in
            of_map state (λ bytes. (kinds : List Kind) → AreSpelled entries kinds → Some recs ≡ changed_through rows r.device e.head.track entries kinds (slot_track bytes e.head.track)) (Fact r e recs (get_or jobs k d).device) (get_or jobs k d).disk (λ bytes it same. it)
            (subst (λ (j : VolumeJob D). OfBytes state (λ bytes. (kinds : List Kind) → AreSpelled entries kinds → Some recs ≡ changed_through rows r.device e.head.track entries kinds (slot_track bytes e.head.track)) j.disk) (sym is) (fact told))
        | inr other ↦ of_any state (Fact r e recs (get_or jobs k d).device) (get_or jobs k d).disk (λ bytes same. absurd (other same))
      ]

      holds : (device : ℕ) (bytes : List ℕ) → StandForTracks rows entries done device items bytes → Fact r e recs device bytes → (x : ℕ) (kinds : List Kind) → HasEntry rows device x (done ++ e ∷ []) → AreSpelled entries kinds
          → content_through device x (items ++ Image r.device e.head.track recs ∷ []) (slot_track bytes x) ≡ changed_through rows device x entries kinds (slot_track bytes x)
      holds device bytes stands it x kinds has spelled = fold_push (content_by device x) (slot_track bytes x) items (Image r.device e.head.track recs) ∙ by_track (r.device == device && e.head.track == x) refl
        where
          by_track : (here : Bool) → (r.device == device && e.head.track == x) ≡ here
              → cond (r.device == device && e.head.track == x) (Some recs) (content_through device x items (slot_track bytes x)) ≡ changed_through rows device x entries kinds (slot_track bytes x)
          by_track true here =
              let parts = and_parts (r.device == device) (e.head.track == x) here in
              let same = eqb-true r.device device parts.0 in
              let place = eqb-true e.head.track x parts.1 in
              (λ j. cond (here j) (Some recs) (content_through device x items (slot_track bytes x)))
              ∙ it (sym same) kinds spelled ∙ (λ j. changed_through rows (same j) (place j) entries kinds (slot_track bytes (place j)))
          by_track false away =
              (λ j. cond (away j) (Some recs) (content_through device x items (slot_track bytes x)))
              ∙ stands x kinds (elim (has_then device x done e has) [
                | inl before ↦ before
                | inr here ↦ absurd (both_ways (is_entry_on rows device x e) (on_is device x ∙ away) here)
              ]) spelled

  -- A job's volume was read.
  pub formed_jobs : (done : List WaitingEntry) (jobs : List (VolumeJob D)) (items : List Item) (i : ℕ) (new c : VolumeJob D) → i < length jobs → Goes state tells (get_or jobs i c) new → (get_or jobs i c).failed ≡ false → new.failed ≡ false
      → AreFormed state tells rows entries done jobs items → AreFormed state tells rows entries done (set jobs i new) items
  formed_jobs done jobs items i new c lt goes good still formed = record {
    images = formed.images;
    tracks = λ device x. formed.tracks device x ∙ (λ j. list_any (is_entry_on rows device x) done && not (sym (any_set (is_failed_of device) jobs i new c (λ n. goes.device n == device && (still ∙ sym good) n)) j));
    content = λ told k d lk live. elim (cases_eq k i) [
      | inl same ↦
          let at : get_or (set jobs i new) k d ≡ new = ap (λ (n : ℕ). get_or (set jobs i new) n d) same ∙ get_or-set_same jobs i new d lt in
          subst (StandOnJob state rows entries done items) (sym at) (λ fine.
          subst (λ (n : ℕ). OfBytes state (StandForTracks rows entries done n items) new.disk) (sym goes.device)
          (of_after state tells new.failed (StandForTracks rows entries done (get_or jobs i c).device items) (get_or jobs i c).disk new.disk told (goes.reads good) (formed.content told i c lt good))) live
      | inr other ↦
          let at : get_or (set jobs i new) k d ≡ get_or jobs k d = get_or-set_other jobs i k new d other in
          subst (StandOnJob state rows entries done items) (sym at) (formed.content told k d (omega (arith, lk, length-set jobs i new))) live
    ];
    short = formed.short;
  }
    where
      any_set : {A : Type 0} (p : A → Bool) (xs : List A) (n : ℕ) (y d : A) → p y ≡ p (get_or xs n d) → list_any p (set xs n y) ≡ list_any p xs
      any_set p [] n y d same = refl
      any_set p (x ∷ xs) zero y d same = λ j. same j || list_any p xs
      any_set p (x ∷ xs) (suc n) y d same = ap (λ (b : Bool). p x || b) (any_set p xs n y d same)
