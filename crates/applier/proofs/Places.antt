-- The job of an item's device among jobs in order of their devices, and the jobs that the item isn't of.
use Rattle.std.proofs.Common.{◌≡◌, ◌≢◌, inl, inr, ◌==◌, ◌&&◌, ◌||◌, ◌++◌, ◌+◌, ◌-◌, ◌<◌, ◌≤◌, ℕ, Bool, true, false, ltb, List, [], ◌∷◌, length, get_or, set, Option, Some, None, Result, Ok, is_err, refl, sym, ◌∙◌, ap, subst, arith, length-set}
use Rattle.std.specs.Prelude.{All, IfSome}
use Rattle.std.specs.List.Sorted.{IsPartitionedBy, IsPartitionPoint}
use Rattle.std.proofs.lemmas.Bool.{and_parts, cases_eq, cases_lt, eq-eqb, eqb-true, false≢true, lt-ltb, ltb-false, ltb-true, or_cases}
use Rattle.std.proofs.lemmas.List.{get_or-set_other, get_or-set_same, get_or_default}
use Rattle.xrc_edge.specs.declared.outcome.Failed.{Failed}
use Rattle.ckd_track.specs.SlotPlaces.{slot_end}
use Rattle.crash_plant.specs.Moments.{Standing}
use Rattle.crash_plant.proofs.Steps.{kept_here, follows_here}
use Rattle.xrc_journal.specs.declared.job.VolumeJob.{VolumeJob}
use Rattle.xrc_journal.specs.declared.reading.BodyItem.{BodyItem}
use Rattle.xrc_journal.specs.declared.reading.BodyItem.TheVariants.{Image as ImageTold}
use Rattle.xrc_journal.specs.Items.{Item, anywhere, none_earlier, is_item, are_items_after}
use Rattle.xrc_journal.specs.Items.Item.{Image, Delta, Pair, Gone}
use Rattle.xrc_journal.specs.Views.{told}
use Rattle.xrc_journal.specs.Contents.{HasItem}
use Rattle.applier.specs.Disks.{AreRising, OnDisks}
use Rattle.applier.specs.Jobs.{HasSlots}
use Rattle.applier.specs.Sides.{AppliesToJob, HasItsSlots, HoldsOfEach}
use Rattle.applier.specs.Slots.{DiffersInSlots}
use Rattle.applier.specs.Writes.{written_by, EndsAs, HasSlotRoom, IsItemTold, Writes, WritesInTurn, WritesOn, WritesToJob}
use Rattle.applier.proofs.Going.{Reading}
use Rattle.applier.proofs.InSlots.{differs_here}
use Rattle.applier.proofs.InTurn.{in_turn_more, in_turn_none}
use Rattle.applier.proofs.Volumes.{applies_in_turn}

-- What is told of an item of a device's track is an image of this track.
pub told_of : (item : BodyItem) (bytes : List ℕ) (i : Item) (device x : ℕ) → IsItemTold item bytes i → HasItem device x (i ∷ []) → item ≡ ImageTold device x
told_of item bytes i device x t has = go i t.keeps t.told_is has
  where
    go : (i : Item) → is_item anywhere t.earlier i ≡ true → item ≡ told i → HasItem device x (i ∷ []) → item ≡ ImageTold device x
    go (Image d y recs) keeps e own = elim (or_cases (d == device && y == x) false own) [
      | inl same ↦
          let parts = and_parts (d == device) (y == x) same in
          e ∙ (λ i. ImageTold (eqb-true d device parts.0 i) (eqb-true y x parts.1 i))
      | inr none ↦ absurd (false≢true none)
    ]
    go (Delta d y kind) keeps e own = absurd cc
    go (Pair version row) keeps e own = absurd cc
    go (Gone d) keeps e own = absurd cc

-- An image of the device is an item of its track.
pub told_own : (device x : ℕ) (bytes : List ℕ) (i : Item) → IsItemTold (ImageTold device x) bytes i → HasItem device x (i ∷ [])
told_own device x bytes i t = go i t.keeps t.told_is
  where
    go : (i : Item) → is_item anywhere t.earlier i ≡ true → ImageTold device x ≡ told i → HasItem device x (i ∷ [])
    go (Image d y recs) keeps e =
        let d_is : device ≡ d = cc in
        let y_is : x ≡ y = cc in
        λ i. (eq-eqb d device (sym d_is) i && eq-eqb y x (sym y_is) i) || false
    go (Delta d y kind) keeps e = absurd cc
    go (Pair version row) keeps e = absurd cc
    go (Gone d) keeps e = absurd cc

module _ {D : Type 0} (state : D → Standing) (tells : Type 0) where
  -- an item of another device
  pub writes_none : (device : ℕ) (i : Item) (disk : D) → ((x : ℕ) → ¬ HasItem device x (i ∷ [])) → Writes state tells device i disk disk (Ok tt)
  writes_none device i disk none = record {
    length_is = refl;
    cause = record { later = omega arith; by_one = omega arith; ok = refl; failed = record {} };
    idle = λ none. refl;
    fails = λ failed. absurd cc;
    past = λ told. kept_here (state disk);
    moments = λ told. follows_here (state disk) (DiffersInSlots device (i ∷ [])) (λ b now. differs_here device (i ∷ []) b);
    bytes = λ told. differs_here device (i ∷ []) (state disk).bytes;
    done = λ told. same_bytes i none;
  }
    where
      same_bytes : (i : Item) → ((x : ℕ) → ¬ HasItem device x (i ∷ [])) → (state disk).bytes ≡ written_by device (state disk).bytes i
      same_bytes (Image d x recs) none = by_device (d == device) refl
        where
          by_device : (b : Bool) → (d == device) ≡ b → (state disk).bytes ≡ written_by device (state disk).bytes (Image d x recs)
          by_device true e = absurd (none x (λ i. (e i && eq-eqb x x refl i) || false))
          by_device false e = search e
      same_bytes (Delta d x kind) none = refl
      same_bytes (Pair version row) none = refl
      same_bytes (Gone d) none = refl

  pub job_stays : (i : Item) (job : VolumeJob D) → ((x : ℕ) → ¬ HasItem job.device x (i ∷ [])) → WritesToJob state tells i job job
  job_stays i job none = record {
    device = refl;
    left_alone = λ failed. refl;
    without_disk = λ none. refl;
    writes = λ good. on job.disk good;
  }
    where
      on : (o : Option D) → job.failed ≡ false → OnDisks (WritesOn state tells job.device i job.failed) o o
      on (Some disk) good = record { result = Ok tt; failed_by = good; writes = writes_none job.device i disk none }
      on None good = tt

  -- An item was written to the job's disk, or its write failed.
  pub job_writes : (i : Item) (job : VolumeJob D) (disk new : D) (result : Result (Unit {0}) Failed) (failed : Bool) → job.failed ≡ false → job.disk ≡ Some disk → failed ≡ is_err result → Writes state tells job.device i disk new result → WritesToJob state tells i job (record job { disk = Some new; failed = failed })
  job_writes i job disk new result failed good is failed_by writes = record {
    device = refl;
    left_alone = λ bad. absurd (false≢true (sym good ∙ bad));
    without_disk = λ none. let e : (let a : Option D = None in a ≡ Some disk) = sym none ∙ is in absurd cc;
    writes = λ same. subst (λ (o : Option D). OnDisks (WritesOn state tells job.device i failed) o (Some new)) (sym is) (record { result = result; failed_by = failed_by; writes = writes });
  }

  module _ (item : BodyItem) (bytes : List ℕ) (i : Item) (t : IsItemTold item bytes i) (jobs : List (VolumeJob D)) where
    -- The item is of none of the jobs' devices.
    pub all_stay : ((k : ℕ) (d : VolumeJob D) (x : ℕ) → k < length jobs → item ≢ ImageTold (get_or jobs k d).device x) → HoldsOfEach (WritesToJob state tells i) jobs jobs
    all_stay none = record { same = refl; each = λ k d less. job_stays i (get_or jobs k d) (λ x has. none k d x less (told_of item bytes i (get_or jobs k d).device x t has)) }

    -- The item is written to the job of its device.
    pub one_writes : (place : ℕ) (d new : VolumeJob D) → AreRising jobs → place < length jobs → ((k : VolumeJob D) (x : ℕ) → (get_or jobs place k).device ≢ x → (y : ℕ) → item ≢ ImageTold x y) → WritesToJob state tells i (get_or jobs place d) new → HoldsOfEach (WritesToJob state tells i) jobs (set jobs place new)
    one_writes place d new rising there only one = record { same = length-set jobs place new; each = at }
      where
        other : (k : ℕ) (e : VolumeJob D) → k < length jobs → k ≢ place → (get_or jobs place e).device ≢ (get_or jobs k e).device
        other k e less apart same = elim (cases_lt k place) [
          | inl before ↦ omega (arith, rising k place e before there, same)
          | inr from ↦ omega (arith, rising place k e (omega (arith, from, apart)) less, same)
        ]

        at : (k : ℕ) (e : VolumeJob D) → k < length jobs → WritesToJob state tells i (get_or jobs k e) (get_or (set jobs place new) k e)
        at k e less = elim (cases_eq k place) [
          | inl same ↦
              subst (λ (n : ℕ). WritesToJob state tells i (get_or jobs n e) (get_or (set jobs place new) n e)) (sym same)
              (subst (λ (j : VolumeJob D). WritesToJob state tells i (get_or jobs place e) j) (sym (get_or-set_same jobs place new e there))
              (subst (λ (j : VolumeJob D). WritesToJob state tells i j new) (get_or_default jobs place d e there) one))
          | inr apart ↦
              subst (λ (j : VolumeJob D). WritesToJob state tells i (get_or jobs k e) j) (sym (get_or-set_other jobs place k new e apart))
              (job_stays i (get_or jobs k e) (λ x has. only e (get_or jobs k e).device (other k e less apart) x (told_of item bytes i (get_or jobs k e).device x t has)))
        ]

-- ---- the slot of an item's track

module _ {D : Type 0} (state : D → Standing) (tells : Type 0) (items : List Item) (item : BodyItem) (bytes : List ℕ) (i : Item) (t : IsItemTold item bytes i) (has_more : (device x : ℕ) → HasItem device x (i ∷ []) → HasItem device x items) where
  -- The slot of one of the items lies in the disk of its job, on which items before were written.
  pub room_of_item : (done : List Item) (old now : VolumeJob D) → HasItsSlots state items old → WritesInTurn state tells done old now → HasSlotRoom state item now
  room_of_item done old now slots w x good is = go old.failed refl
    where
      own : HasItem old.device x items
      own = has_more old.device x (told_own old.device x bytes i (subst (λ (b : BodyItem). IsItemTold b bytes i) (is ∙ ap (λ (d : ℕ). ImageTold d x) w.device) t))

      ends_length : (failed : Bool) (a b : D) → EndsAs state tells old.device done failed a b → (state b).length_is ≡ (state a).length_is
      ends_length true a b stop = stop.length_is
      ends_length false a b all = all.length_is

      on : (o n : Option D) → HasSlots state old.device items o → OnDisks (EndsAs state tells old.device done now.failed) o n → IfSome n (λ disk. slot_end x ≤ (state disk).length_is)
      on (Some a) (Some b) room ends = omega (arith, room x own, ends_length now.failed a b ends)
      on None None room ends = record {}
      on None (Some b) room ends = absurd ends
      on (Some a) None room ends = absurd ends

      go : (b : Bool) → old.failed ≡ b → IfSome now.disk (λ disk. slot_end x ≤ (state disk).length_is)
      go true was = absurd (false≢true (sym good ∙ ap (λ (j : VolumeJob D). j.failed) (w.left_alone was) ∙ was))
      go false was = on old.disk now.disk (slots was) (w.writes was)

-- the room in the disk that the job has
pub room_in : {D : Type 0} (fits : D → Type 0) (o : Option D) (disk : D) → o ≡ Some disk → IfSome o fits → fits disk
room_in fits o disk is room = subst (λ (p : Option _). IfSome p fits) is room

pub same_device : (a b x y : ℕ) → ImageTold a b ≡ ImageTold x y → a ≡ x
same_device a b x y e = cc

-- ---- all of the jobs

-- One job more stands above those before.
pub rises_more : {D : Type 0} (jobs : List (VolumeJob D)) (place : ℕ) → 1 ≤ place → (before here : VolumeJob D) → before ≡ get_or jobs (place - 1) before → here ≡ get_or jobs place here → before.device < here.device
    → ((i j : ℕ) (d : VolumeJob D) → i < j → j < place → j < length jobs → (get_or jobs i d).device < (get_or jobs j d).device) → (i j : ℕ) (d : VolumeJob D) → i < j → j < place + 1 → j < length jobs → (get_or jobs i d).device < (get_or jobs j d).device
rises_more jobs place some before here before_is here_is up so_far i j d less low there = elim (cases_lt j place) [
  | inl earlier ↦ so_far i j d less earlier there
  | inr from ↦
      let last : j ≡ place = omega (arith, low, from) in
      let here_dev : (get_or jobs j d).device ≡ here.device = ap (λ (n : ℕ). (get_or jobs n d).device) last ∙ ap (λ (v : VolumeJob _). v.device) (get_or_default jobs place d here (omega (arith, there, last)) ∙ sym here_is) in
      let before_dev : (get_or jobs (place - 1) d).device ≡ before.device = ap (λ (v : VolumeJob _). v.device) (get_or_default jobs (place - 1) d before (omega (arith, there, last)) ∙ sym before_is) in
      elim (cases_lt i (place - 1)) [
        | inl below ↦ omega (arith, so_far i (place - 1) d below (omega (arith, some)) (omega (arith, there, last)), before_dev, here_dev, up)
        | inr at_it ↦
            let same : i ≡ place - 1 = omega (arith, at_it, less, last, some) in
            omega (arith, ap (λ (n : ℕ). (get_or jobs n d).device) same, before_dev, here_dev, up)
      ]
]

-- The devices below one stand in front.
pub parted_below : {D : Type 0} (jobs : List (VolumeJob D)) (device : ℕ) → AreRising jobs → IsPartitionedBy (λ job. ltb job.device device) jobs
parted_below jobs device rising i j d up there low = elim (cases_lt i j) [
  | inl less ↦ lt-ltb (get_or jobs i d).device device (omega (arith, rising i j d less there, ltb-true (get_or jobs j d).device device low))
  | inr from ↦ ap (λ (n : ℕ). ltb (get_or jobs n d).device device) (omega (arith, up, from)) ∙ low
]

-- No job is of a device that isn't where those below it end.
pub none_of : {D : Type 0} (jobs : List (VolumeJob D)) (device place : ℕ) → AreRising jobs → IsPartitionPoint (λ job. ltb job.device device ≡ true) (λ job. ltb job.device device ≡ false) jobs place
    → (place < length jobs → (d : VolumeJob D) → (get_or jobs place d).device ≢ device) → (i : ℕ) (d : VolumeJob D) → i < length jobs → (get_or jobs i d).device ≢ device
none_of jobs device place rising point other i d there same = elim (cases_lt i place) [
  | inl below ↦ omega (arith, ltb-true (get_or jobs i d).device device (point.0 i d (omega arith) below), same)
  | inr from ↦ elim (cases_lt place i) [
    | inl above ↦ omega (arith, rising place i d above there, ltb-false (get_or jobs place d).device device (point.1 place d (omega arith) (omega (arith, above, there))), same)
    | inr to ↦
        let is : i ≡ place = omega (arith, from, to) in
        other (omega (arith, is, there)) d (ap (λ (n : ℕ). (get_or jobs n d).device) (sym is) ∙ same)
  ]
]

pub rising_still : {D : Type 0} (old now : List (VolumeJob D)) → length now ≡ length old → ((k : ℕ) (d : VolumeJob D) → k < length old → (get_or now k d).device ≡ (get_or old k d).device) → AreRising old → AreRising now
rising_still old now same devices rising i j d less there = omega (arith, rising i j d less (omega (arith, there, same)), devices i d (omega (arith, less, there, same)), devices j d (omega (arith, there, same)))

module _ {D : Type 0} (state : D → Standing) (tells : Type 0) where
  pub each_none : (jobs : List (VolumeJob D)) → HoldsOfEach (WritesInTurn state tells []) jobs jobs
  each_none jobs = record { same = refl; each = λ k d less. in_turn_none state tells (get_or jobs k d) }

  module _ (done : List Item) (old now : List (VolumeJob D)) (so_far : HoldsOfEach (WritesInTurn state tells done) old now) where
    pub rising_here : AreRising old → AreRising now
    rising_here rising = rising_still old now so_far.same (λ k d less. (so_far.each k d less).device) rising

    pub each_more : (i : Item) (new : List (VolumeJob D)) → HoldsOfEach (WritesToJob state tells i) now new → HoldsOfEach (WritesInTurn state tells (done ++ i ∷ [])) old new
    each_more i new one = record {
      same = one.same ∙ so_far.same;
      each = λ k d less. in_turn_more state tells done i (get_or old k d) (get_or now k d) (get_or new k d) (so_far.each k d less) (one.each k d (omega (arith, less, so_far.same)));
    }

    pub each_room : (items : List Item) (item : BodyItem) (bytes : List ℕ) (i : Item) (t : IsItemTold item bytes i) → ((device x : ℕ) → HasItem device x (i ∷ []) → HasItem device x items) → All (HasItsSlots state items) old → All (HasSlotRoom state item) now
    each_room items item bytes i t has_more slots k d less =
        let there : k < length old = omega (arith, less, so_far.same) in
        room_of_item state tells items item bytes i t has_more done (get_or old k d) (get_or now k d) (slots k d there) (so_far.each k d there)

  pub each_applies : (items : List Item) (old now : List (VolumeJob D)) → are_items_after anywhere none_earlier items ≡ true → All (HasItsSlots state items) old → ((disk : D) → tells → length (state disk).bytes ≡ (state disk).length_is) → HoldsOfEach (WritesInTurn state tells items) old now → HoldsOfEach (AppliesToJob state tells items) old now
  each_applies items old now keep slots told_length all = record {
    same = all.same;
    each = λ k d less. applies_in_turn state tells items (get_or old k d) (get_or now k d) keep (slots k d less) told_length (all.each k d less);
  }

-- The items before were written to each job.
pub record ApplyingEach {D : Type 0} (state : D → Standing) (tells : Type 0) (items : List Item) (bytes : List ℕ) (at : ℕ) (first now : List (VolumeJob D)) : Type 0 where
  pub reading : Reading items bytes at
  pub writes : HoldsOfEach (WritesInTurn state tells reading.done) first now
