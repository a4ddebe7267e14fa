-- What is said of a volume once the items of a body were written, or one failed.
use Rattle.std.proofs.Common.{◌≡◌, ◌≤◌, ◌++◌, ◌&&◌, ℕ, Bool, true, false, List, [], ◌∷◌, length, Option, Some, None, refl, sym, ◌∙◌, ap, subst, arith, append_assoc}
use Rattle.std.proofs.lemmas.Bool.{and_parts, false≢true}
use Rattle.ckd_track.specs.SlotPlaces.{slot_end}
use Rattle.crash_plant.specs.Moments.{Standing, Follows, SamePast}
use Rattle.crash_plant.proofs.Steps.{kept_here, follows_here}
use Rattle.xrc_journal.specs.declared.job.VolumeJob.{VolumeJob}
use Rattle.xrc_journal.specs.Items.{Item, Form, Earlier, none_earlier, anywhere, earlier_after, is_item, are_items_after}
use Rattle.xrc_journal.specs.Contents.{HasItem}
use Rattle.xrc_journal.specs.Jobs.{FailsByCount, OnVolume}
use Rattle.applier.specs.Disks.{OnDisks}
use Rattle.applier.specs.Sides.{AppliesToJob, HasItsSlots}
use Rattle.applier.specs.Slots.{DiffersInSlots, HoldsContent}
use Rattle.applier.specs.Jobs.{HasSlots, StopsAtItem}
use Rattle.applier.specs.Writes.{written, EndsAs, StopsAt, WritesAll, WritesInTurn}
use Rattle.applier.proofs.InSlots.{has_before, has_after, differs_before, differs_here, differs_then}
use Rattle.applier.proofs.Contents.{Room, items_steps, holds_all, holds_but}

keep_front : (form : Form) (earlier : Earlier) (items more : List Item) → are_items_after form earlier (items ++ more) ≡ true → are_items_after form earlier items ≡ true
keep_front form earlier [] more keep = refl
keep_front form earlier (i ∷ items) more keep =
    let parts = and_parts (is_item form earlier i) (are_items_after form (earlier_after i earlier) (items ++ more)) keep in
    λ j. parts.0 j && keep_front form (earlier_after i earlier) items more parts.1 j

slots_of : {D : Type 0} (state : D → Standing) (device : ℕ) (items : List Item) (job : Option D) (disk : D) → job ≡ Some disk → HasSlots state device items job → (x : ℕ) → HasItem device x items → slot_end x ≤ (state disk).length_is
slots_of state device items job disk is has = subst (λ (o : Option _). HasSlots state device items o) is has

module _ {D : Type 0} (state : D → Standing) (tells : Type 0) (device : ℕ) (items : List Item) (old new : D) (keep : are_items_after anywhere none_earlier items ≡ true) (slots : (x : ℕ) → HasItem device x items → slot_end x ≤ (state old).length_is)
    (told_length : tells → length (state old).bytes ≡ (state old).length_is) where
  room : tells → Room device items (length (state old).bytes)
  room told x has = omega (arith, slots x has, told_length told)

  -- ---- all were written

  module _ (all : WritesAll state tells device items old new) where
    all_bytes : tells → DiffersInSlots device items (state old).bytes (state new).bytes
    all_bytes told = subst (λ (l : List ℕ). DiffersInSlots device items (state old).bytes l) (sym (all.bytes told)) (items_steps device none_earlier items (state old).bytes keep (room told)).differs

    all_content : tells → HoldsContent device items (state old).bytes (state new).bytes
    all_content told = subst (λ (l : List ℕ). HoldsContent device items (state old).bytes l) (sym (all.bytes told)) (holds_all device none_earlier items (state old).bytes keep (room told))

  -- ---- one failed

  module _ (s : StopsAt state tells device items old new) where
    front : are_items_after anywhere none_earlier s.before ≡ true
    front = keep_front anywhere none_earlier s.before (s.item ∷ s.rest) (ap (λ (l : List Item). are_items_after anywhere none_earlier l) (sym s.parts) ∙ keep)

    front_room : tells → Room device s.before (length (state old).bytes)
    front_room told x has = room told x (subst (λ (l : List Item). HasItem device x l) (sym s.parts) (has_before device x s.before (s.item ∷ s.rest) has))

    parts : items ≡ (s.before ++ s.item ∷ []) ++ s.rest
    parts = s.parts ∙ sym (append_assoc s.before (s.item ∷ []) s.rest)

    widen : (b c : List ℕ) → DiffersInSlots device (s.before ++ s.item ∷ []) b c → DiffersInSlots device items b c
    widen b c d = subst (λ (l : List Item). DiffersInSlots device l b c) (sym parts) (differs_before device (s.before ++ s.item ∷ []) s.rest b c d)

    stop_bytes : tells → DiffersInSlots device (s.before ++ s.item ∷ []) (state old).bytes (state new).bytes
    stop_bytes told = differs_then device s.before (s.item ∷ []) (state old).bytes (written device s.before (state old).bytes) (state new).bytes
        (items_steps device none_earlier s.before (state old).bytes front (front_room told)).differs (s.bytes told)

    stop_moments : tells → Follows (DiffersInSlots device items) (state old) (state new)
    stop_moments told t from to c left = let m = s.moments told t from to c left in (m.0, m.1, widen m.0 c m.2)

    stop_at : tells → StopsAtItem device items (state old) (state new)
    stop_at told = record {
      done = s.before;
      item = s.item;
      rest = s.rest;
      parts = s.parts;
      track = s.track;
      own = s.own;
      moments = s.moments told;
      bytes = stop_bytes told;
      holds = holds_but device none_earlier s.before s.item (state old).bytes (state new).bytes front (front_room told) (s.bytes told);
    }

    some : ((x : ℕ) → HasItem device x items → ⊥) → ⊥
    some none = none s.track (subst (λ (l : List Item). HasItem device s.track l) (sym parts) (has_before device s.track (s.before ++ s.item ∷ []) s.rest (has_after device s.track s.before (s.item ∷ []) s.own)))

  -- ---- by whether the job failed

  same_by : (failed : Bool) → EndsAs state tells device items failed old new → ((x : ℕ) → HasItem device x items → ⊥) → (new ≡ old) × (failed ≡ false)
  same_by true stop none = absurd (some stop none)
  same_by false all none = (all.idle none, refl)

  cause_by : (failed : Bool) → EndsAs state tells device items failed old new → FailsByCount failed (state old).faults (state new).faults
  cause_by true stop = stop.cause
  cause_by false all = record { later = omega (arith, all.faults); by_one = omega (arith, all.faults); same = λ good. all.faults; rose = λ failed. absurd cc }

  length_by : (failed : Bool) → EndsAs state tells device items failed old new → (state new).length_is ≡ (state old).length_is
  length_by true stop = stop.length_is
  length_by false all = all.length_is

  past_by : (failed : Bool) → EndsAs state tells device items failed old new → tells → SamePast (state old) (state new)
  past_by true stop told = stop.past told
  past_by false all told = all.past told

  moments_by : (failed : Bool) → EndsAs state tells device items failed old new → tells → Follows (DiffersInSlots device items) (state old) (state new)
  moments_by true stop told = stop_moments stop told
  moments_by false all told = all.moments told

  bytes_by : (failed : Bool) → EndsAs state tells device items failed old new → tells → DiffersInSlots device items (state old).bytes (state new).bytes
  bytes_by true stop told = widen stop (state old).bytes (state new).bytes (stop_bytes stop told)
  bytes_by false all told = all_bytes all told

  content_by : (failed : Bool) → EndsAs state tells device items failed old new → tells → failed ≡ false → HoldsContent device items (state old).bytes (state new).bytes
  content_by true stop told good = absurd cc
  content_by false all told good = all_content all told

  stops_by : (failed : Bool) → EndsAs state tells device items failed old new → tells → failed ≡ true → StopsAtItem device items (state old) (state new)
  stops_by true stop told bad = stop_at stop told
  stops_by false all told bad = absurd cc

-- ---- of a job

on_disks : {D : Type 0} (state : D → Standing) (holds : D → D → Type 0) (meant : Standing → Standing → Type 0) (o n : Option D) → ((a b : D) → o ≡ Some a → n ≡ Some b → holds a b → meant (state a) (state b)) → OnDisks holds o n → OnVolume state meant o n
on_disks state holds meant (Some a) (Some b) to held = to a b refl refl held
on_disks state holds meant None None to held = tt
on_disks state holds meant None (Some b) to held = absurd held
on_disks state holds meant (Some a) None to held = absurd held

on_same : {D : Type 0} (state : D → Standing) (meant : Standing → Standing → Type 0) (o : Option D) → ((a : Standing) → meant a a) → OnVolume state meant o o
on_same state meant (Some a) here = here (state a)
on_same state meant None here = tt

same_on : {D : Type 0} (holds : D → D → Type 0) (o n : Option D) → ((a b : D) → o ≡ Some a → holds a b → b ≡ a) → OnDisks holds o n → n ≡ o
same_on holds (Some a) (Some b) to held = ap (λ (d : _). Some d) (to a b refl held)
same_on holds None None to held = refl
same_on holds None (Some b) to held = absurd held
same_on holds (Some a) None to held = absurd held

module _ {D : Type 0} (state : D → Standing) (tells : Type 0) (items : List Item) (old new : VolumeJob D) (keep : are_items_after anywhere none_earlier items ≡ true) (slots : HasItsSlots state items old)
    (told_length : (disk : D) → tells → length (state disk).bytes ≡ (state disk).length_is) (w : WritesInTurn state tells items old new) where
  room_on : old.failed ≡ false → (a : D) → old.disk ≡ Some a → (x : ℕ) → HasItem old.device x items → slot_end x ≤ (state a).length_is
  room_on good a is = slots_of state old.device items old.disk a is (slots good)

  -- what is so of volumes whose jobs haven't failed
  fine : (meant : Standing → Standing → Type 0) → ((a b : D) → ((x : ℕ) → HasItem old.device x items → slot_end x ≤ (state a).length_is) → EndsAs state tells old.device items new.failed a b → meant (state a) (state b)) → old.failed ≡ false → OnVolume state meant old.disk new.disk
  fine meant to good = on_disks state (EndsAs state tells old.device items new.failed) meant old.disk new.disk (λ a b is now ends. to a b (room_on good a is) ends) (w.writes good)

  -- what is so of all volumes, since nothing happens to those whose jobs failed before
  of_all : (meant : Standing → Standing → Type 0) → ((a : Standing) → meant a a) → (old.failed ≡ false → OnVolume state meant old.disk new.disk) → OnVolume state meant old.disk new.disk
  of_all meant here to = go old.failed refl
    where
      go : (b : Bool) → old.failed ≡ b → OnVolume state meant old.disk new.disk
      go true is = subst (λ (j : VolumeJob D). OnVolume state meant old.disk j.disk) (sym (w.left_alone is)) (on_same state meant old.disk here)
      go false is = to is

  none_done : ((x : ℕ) → ¬ HasItem old.device x items) → (new.disk ≡ old.disk) × (new.failed ≡ old.failed)
  none_done none = go old.failed refl
    where
      flag_on : (o n : Option D) → old.disk ≡ o → new.disk ≡ n → OnDisks (EndsAs state tells old.device items new.failed) o n → old.failed ≡ false → new.failed ≡ old.failed
      flag_on (Some a) (Some b) is now ends good = (same_by state tells old.device items a b keep (room_on good a is) (told_length a) new.failed ends none).1 ∙ sym good
      flag_on None None is now ends good = ap (λ (j : VolumeJob D). j.failed) (w.without_disk is)
      flag_on None (Some b) is now ends good = absurd ends
      flag_on (Some a) None is now ends good = absurd ends

      go : (b : Bool) → old.failed ≡ b → (new.disk ≡ old.disk) × (new.failed ≡ old.failed)
      go true is = (ap (λ (j : VolumeJob D). j.disk) (w.left_alone is), ap (λ (j : VolumeJob D). j.failed) (w.left_alone is))
      go false is = (
        same_on (EndsAs state tells old.device items new.failed) old.disk new.disk (λ a b own ends. (same_by state tells old.device items a b keep (room_on is a own) (told_length a) new.failed ends none).0) (w.writes is),
        flag_on old.disk new.disk refl refl (w.writes is) is,
      )

  -- All items were gone over.
  pub applies_in_turn : AppliesToJob state tells items old new
  applies_in_turn = record {
    device = w.device;
    left_alone = w.left_alone;
    without_disk = w.without_disk;
    no_item = none_done;
    cause = λ good. fine (λ a b. FailsByCount new.failed a.faults b.faults) (λ a b room ends. cause_by state tells old.device items a b keep room (told_length a) new.failed ends) good;
    length_is = of_all (λ a b. b.length_is ≡ a.length_is) (λ a. refl) (fine (λ a b. b.length_is ≡ a.length_is) (λ a b room ends. length_by state tells old.device items a b keep room (told_length a) new.failed ends));
    past = λ told. of_all SamePast (λ a. kept_here a) (fine SamePast (λ a b room ends. past_by state tells old.device items a b keep room (told_length a) new.failed ends told));
    moments = λ told. of_all (Follows (DiffersInSlots old.device items)) (λ a. follows_here a (DiffersInSlots old.device items) (λ b now. differs_here old.device items b))
        (fine (Follows (DiffersInSlots old.device items)) (λ a b room ends. moments_by state tells old.device items a b keep room (told_length a) new.failed ends told));
    bytes = λ told. of_all (λ a b. DiffersInSlots old.device items a.bytes b.bytes) (λ a. differs_here old.device items a.bytes)
        (fine (λ a b. DiffersInSlots old.device items a.bytes b.bytes) (λ a b room ends. bytes_by state tells old.device items a b keep room (told_length a) new.failed ends told));
    content = λ told good. fine (λ a b. HoldsContent old.device items a.bytes b.bytes) (λ a b room ends. content_by state tells old.device items a b keep room (told_length a) new.failed ends told good) (was_good good);
    stops = λ told good bad. fine (StopsAtItem old.device items) (λ a b room ends. stops_by state tells old.device items a b keep room (told_length a) new.failed ends told bad) good;
  }
    where
      was_good : new.failed ≡ false → old.failed ≡ false
      was_good good = go old.failed refl
        where
          go : (b : Bool) → old.failed ≡ b → old.failed ≡ false
          go true is = absurd (false≢true (sym good ∙ ap (λ (j : VolumeJob D). j.failed) (w.left_alone is) ∙ is))
          go false is = is
