-- The items of a body written to a job's volume one after another.
use Rattle.std.proofs.Common.{◌≡◌, ℕ, Bool, true, false, List, [], ◌∷◌, ◌++◌, Option, Some, None, Result, Ok, Err, IsOk, IsErr, OnOk, is_err, refl, sym, ap, subst, ◌∙◌, append_assoc}
use Rattle.std.proofs.lemmas.List.Sums.{fold_push}
use Rattle.xrc_edge.specs.declared.outcome.Failed.{Failed}
use Rattle.xrc_edge.specs.Causes.{HasCause}
use Rattle.crash_plant.specs.Moments.{Standing, Follows}
use Rattle.crash_plant.proofs.Steps.{kept_here, follows_here, kept_trans, follows_then}
use Rattle.xrc_journal.specs.declared.job.VolumeJob.{VolumeJob}
use Rattle.xrc_journal.specs.Items.{Item}
use Rattle.xrc_journal.specs.Jobs.{FailsByCount}
use Rattle.applier.specs.Disks.{OnDisks}
use Rattle.applier.specs.Slots.{DiffersInSlots}
use Rattle.applier.specs.Writes.{written_by, written, EndsAs, StopsAt, Writes, WritesAll, WritesInTurn, WritesOn, WritesToJob}
use Rattle.applier.proofs.Going.{Reading}
use Rattle.applier.proofs.InSlots.{has_before, has_after, differs_here, differs_before, differs_then}

module _ {D : Type 0} (state : D → Standing) (tells : Type 0) (device : ℕ) where
  -- nothing yet
  writes_none : (first : D) → WritesAll state tells device [] first first
  writes_none first = record {
    length_is = refl;
    faults = refl;
    idle = λ none. refl;
    past = λ told. kept_here (state first);
    moments = λ told. follows_here (state first) (DiffersInSlots device []) (λ b now. differs_here device [] b);
    bytes = λ told. refl;
  }

  same_bytes : (a b c : List ℕ) (result : Result (Unit {0}) Failed) → IsOk result → OnOk result (a ≡ b) → b ≡ c → a ≡ c
  same_bytes a b c (Ok done) is e same = e ∙ same
  same_bytes a b c (Err bad) is e same = absurd cc

  same_count : (a b : ℕ) (result : Result (Unit {0}) Failed) → IsOk result → HasCause a b result → b ≡ a
  same_count a b (Ok done) is cause = cause.ok
  same_count a b (Err bad) is cause = absurd cc

  risen_count : (a b : ℕ) (result : Result (Unit {0}) Failed) → IsErr result → HasCause a b result → FailsByCount true a b
  risen_count a b (Ok done) is cause = absurd cc
  risen_count a b (Err bad) is cause = record { later = cause.later; by_one = cause.by_one; same = λ good. absurd cc; rose = λ failed. cause.failed }

  is_good : (result : Result (Unit {0}) Failed) → false ≡ is_err result → IsOk result
  is_good (Ok done) e = refl
  is_good (Err bad) e = absurd cc

  module _ (done : List Item) (i : Item) (first mid last : D) (result : Result (Unit {0}) Failed) (so_far : WritesAll state tells device done first mid) (one : Writes state tells device i mid last result) where
    both_moments : tells → Follows (DiffersInSlots device (done ++ i ∷ [])) (state first) (state last)
    both_moments told = follows_then (state first) (state mid) (state last) (DiffersInSlots device done) (DiffersInSlots device (i ∷ [])) (DiffersInSlots device (done ++ i ∷ []))
        (so_far.past told).later (so_far.moments told) (one.past told) (one.moments told)
        (λ x y was d. differs_before device done (i ∷ []) x y d)
        (λ x y z was then d e. differs_then device done (i ∷ []) x y z d e)

    -- one item more
    writes_more : IsOk result → WritesAll state tells device (done ++ i ∷ []) first last
    writes_more is = record {
      length_is = one.length_is ∙ so_far.length_is;
      faults = same_count (state mid).faults (state last).faults result is one.cause ∙ so_far.faults;
      idle = λ none. one.idle (λ x has. none x (has_after device x done (i ∷ []) has)) ∙ so_far.idle (λ x has. none x (has_before device x done (i ∷ []) has));
      past = λ told. kept_trans (state first) (state mid) (state last) (so_far.past told) (one.past told);
      moments = both_moments;
      bytes = λ told. same_bytes (state last).bytes (written_by device (state mid).bytes i) (written device (done ++ i ∷ []) (state first).bytes) result is (one.done told)
          (ap (λ (l : List ℕ). written_by device l i) (so_far.bytes told) ∙ sym (fold_push (written_by device) (state first).bytes done i));
    }

    -- its write failed
    stops_here : IsErr result → StopsAt state tells device (done ++ i ∷ []) first last
    stops_here failed = record {
      before = done;
      item = i;
      rest = [];
      parts = refl;
      track = (one.fails failed).0;
      own = (one.fails failed).1;
      cause = subst (λ (n : ℕ). FailsByCount true n (state last).faults) so_far.faults (risen_count (state mid).faults (state last).faults result failed one.cause);
      length_is = one.length_is ∙ so_far.length_is;
      past = λ told. kept_trans (state first) (state mid) (state last) (so_far.past told) (one.past told);
      moments = both_moments;
      bytes = λ told. subst (λ (l : List ℕ). DiffersInSlots device (i ∷ []) l (state last).bytes) (so_far.bytes told) (one.bytes told);
    }

  -- An item after the one that failed is not begun.
  stops_still : (items : List Item) (i : Item) (first last : D) → StopsAt state tells device items first last → StopsAt state tells device (items ++ i ∷ []) first last
  stops_still items i first last s = record {
    before = s.before;
    item = s.item;
    rest = s.rest ++ i ∷ [];
    parts = ap (λ (l : List Item). l ++ i ∷ []) s.parts ∙ append_assoc s.before (s.item ∷ s.rest) (i ∷ []);
    track = s.track;
    own = s.own;
    cause = s.cause;
    length_is = s.length_is;
    past = s.past;
    moments = s.moments;
    bytes = s.bytes;
  }

  ends_more : (done : List Item) (i : Item) (failed : Bool) (first mid last : D) → WritesAll state tells device done first mid → WritesOn state tells device i failed mid last → EndsAs state tells device (done ++ i ∷ []) failed first last
  ends_more done i true first mid last so_far one = stops_here done i first mid last one.result so_far one.writes (sym one.failed_by)
  ends_more done i false first mid last so_far one = writes_more done i first mid last one.result so_far one.writes (is_good one.result one.failed_by)

  -- ---- on disks that a job may have

  none_on : (disk : Option D) → OnDisks (EndsAs state tells device [] false) disk disk
  none_on (Some disk) = writes_none disk
  none_on None = tt

  still_on : (items : List Item) (i : Item) (o n : Option D) → OnDisks (EndsAs state tells device items true) o n → OnDisks (EndsAs state tells device (items ++ i ∷ []) true) o n
  still_on items i (Some a) (Some b) stopped = stops_still items i a b stopped
  still_on items i None None stopped = tt
  still_on items i None (Some b) stopped = absurd stopped
  still_on items i (Some a) None stopped = absurd stopped

  more_on : (done : List Item) (i : Item) (failed : Bool) (o m n : Option D) → OnDisks (EndsAs state tells device done false) o m → OnDisks (WritesOn state tells device i failed) m n → OnDisks (EndsAs state tells device (done ++ i ∷ []) failed) o n
  more_on done i failed (Some a) (Some b) (Some c) so_far one = ends_more done i failed a b c so_far one
  more_on done i failed None None None so_far one = tt
  more_on done i failed None (Some b) n so_far one = absurd so_far
  more_on done i failed (Some a) None n so_far one = absurd so_far
  more_on done i failed (Some a) (Some b) None so_far one = absurd one
  more_on done i failed None None (Some c) so_far one = absurd one

-- ---- on a job

module _ {D : Type 0} (state : D → Standing) (tells : Type 0) where
  pub in_turn_none : (job : VolumeJob D) → WritesInTurn state tells [] job job
  in_turn_none job = record {
    device = refl;
    left_alone = λ failed. refl;
    without_disk = λ none. refl;
    writes = λ good. subst (λ (b : Bool). OnDisks (EndsAs state tells job.device [] b) job.disk job.disk) (sym good) (none_on state tells job.device job.disk);
  }

  module _ (done : List Item) (i : Item) (old mid new : VolumeJob D) (so_far : WritesInTurn state tells done old mid) (one : WritesToJob state tells i mid new) where
    by_flag : (b : Bool) → mid.failed ≡ b → old.failed ≡ false → OnDisks (EndsAs state tells old.device (done ++ i ∷ []) new.failed) old.disk new.disk
    by_flag true is good =
        subst (λ (j : VolumeJob D). OnDisks (EndsAs state tells old.device (done ++ i ∷ []) j.failed) old.disk j.disk) (sym (one.left_alone is))
        (subst (λ (b : Bool). OnDisks (EndsAs state tells old.device (done ++ i ∷ []) b) old.disk mid.disk) (sym is)
        (still_on state tells old.device done i old.disk mid.disk (subst (λ (b : Bool). OnDisks (EndsAs state tells old.device done b) old.disk mid.disk) is (so_far.writes good))))
    by_flag false is good =
        more_on state tells old.device done i new.failed old.disk mid.disk new.disk
        (subst (λ (b : Bool). OnDisks (EndsAs state tells old.device done b) old.disk mid.disk) is (so_far.writes good))
        (subst (λ (d : ℕ). OnDisks (WritesOn state tells d i new.failed) mid.disk new.disk) so_far.device (one.writes is))

    pub in_turn_more : WritesInTurn state tells (done ++ i ∷ []) old new
    in_turn_more = record {
      device = one.device ∙ so_far.device;
      left_alone = λ failed. one.left_alone (ap (λ (j : VolumeJob D). j.failed) (so_far.left_alone failed) ∙ failed) ∙ so_far.left_alone failed;
      without_disk = λ none. one.without_disk (ap (λ (j : VolumeJob D). j.disk) (so_far.without_disk none) ∙ none) ∙ so_far.without_disk none;
      writes = by_flag mid.failed refl;
    }

-- The items before were written to the job.
pub record Applying {D : Type 0} (state : D → Standing) (tells : Type 0) (items : List Item) (bytes : List ℕ) (at : ℕ) (first now : VolumeJob D) : Type 0 where
  pub reading : Reading items bytes at
  pub writes : WritesInTurn state tells reading.done first now
