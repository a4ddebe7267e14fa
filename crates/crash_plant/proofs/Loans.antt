-- Lending a volume of a plant in memory, and taking it back.
use Rattle.std.proofs.Common.{◌≡◌, ◌≢◌, inl, inr, ℕ, ◌<◌, ◌≤◌, ◌+◌, List, length, refl, sym, ◌∙◌, ap, subst, arith, true, false}
use Rattle.std.proofs.lemmas.Bool.{cases_lt}
use Rattle.std.specs.declared.snapshot.Snapshot.{Snapshot}
use Rattle.crash_plant.specs.declared.device.Device.{Device}
use Rattle.crash_plant.specs.declared.device.Device.TheVariants.{Volume}
use Rattle.crash_plant.specs.declared.memory_console.MemoryConsole.{MemoryConsole}
use Rattle.crash_plant.specs.declared.memory_disk.MemoryDisk.{MemoryDisk}
use Rattle.crash_plant.specs.declared.memory_disks.MemoryDisks.{MemoryDisks}
use Rattle.crash_plant.specs.declared.shelf.Shelf.{Shelf}
use Rattle.crash_plant.specs.declared.shelf.Shelf.TheVariants.{Here, Lent, Away}
use Rattle.crash_plant.specs.Calls.{Lends, TakesBack}
use Rattle.crash_plant.specs.Clock.{clock_of, last_tick}
use Rattle.crash_plant.specs.MemoryConsole.{last_told}
use Rattle.crash_plant.specs.MemoryDisk.{Moves, held, first_held, past_of}
use Rattle.crash_plant.specs.MemoryDisks.{SameSizes, view, volumes_of}
use Rattle.crash_plant.specs.MemoryPlant.{past_state}
use Rattle.crash_plant.specs.Moments.{SamePast, Standing, on}
use Rattle.crash_plant.specs.CallSteps.{Shelves}
use Rattle.crash_plant.specs.Pasts.{Note, Reach, InTime, last_till, moved}
use Rattle.crash_plant.specs.Shelves.{IsLentAs, last_done, lent_at, shelf_bytes, shelf_images, shelf_is_lent, shelf_length, shelf_lent, shelf_since}
use Rattle.crash_plant.proofs.Memories.{leaves_all_but, lent_at_home, same_of}
use Rattle.crash_plant.proofs.Records.{kept_reach, last_moved, moved_through, own_moment, own_reach, reach_kept, reach_later, reach_of, through_moved, through_of}

abbrev pub own_standing : MemoryDisk → ℕ → ℕ → Standing
own_standing disk clock faults = record { bytes = held disk; clock = clock; images = λ t c. Reach t (past_of disk) (first_held disk) c; length_is = length (held disk); faults = faults }

module _ (a b : MemoryDisks) (x : MemoryConsole) (f g : Device → ℕ) (p q v : ℕ) (others : (d : Device) → d ≢ Volume v → view b d ≡ view a d) (sizes : SameSizes a b) (there : v < volumes_of a) (console : q ≡ p) where
  -- A volume is lent at a tick.
  lends_was : (ticks : ℕ) (was : Snapshot MemoryDisk) (n : ℕ) → ((d : Device) → last_done (view a d) ≤ clock_of ticks) → last_told x ≤ clock_of ticks → view a (Volume v) ≡ Here was.value → view b (Volume v) ≡ Lent (length (held was.value)) ticks was → ((d : Device) → g d ≡ f d) → n ≡ f (Volume v)
      → Lends (Unit {0}) v (past_state a x (clock_of ticks) f p) (past_state b x (clock_of ticks) g q) (own_standing was.value (clock_of ticks) n)
  lends_was ticks was n done told here is counts count = record {
    rest = leaves_all_but a b x x (clock_of ticks) (clock_of ticks) f g p q (omega arith) (omega arith) done told sizes (same_of x x refl) v others (ap shelf_length is ∙ sym (ap shelf_length here)) (λ d other. counts d) console;
    is_lent = lent_at_home b.volumes.items v (omega (arith, there, sizes.volumes)) ∙ ap shelf_is_lent is;
    since = ap shelf_since is;
    lent = subst (λ (s : Shelf). SamePast (shelf_lent s) (own_standing was.value (clock_of ticks) n)) (sym is) (record { later = omega arith; still = λ none. none; same = λ t up le c left. left; all = λ t up le c left. left });
    clock = ap (λ (s : Shelf). (shelf_lent s).clock) is;
    length_is = sym (ap shelf_length here);
    faults = count;
    keeps_past = λ told begun. omega arith;
    same_faults = counts (Volume v);
    bytes = λ t. sym (ap shelf_bytes here);
    images = λ t c left. subst (λ (s : Shelf). shelf_images s (clock_of ticks) c) (sym here) left;
    images_all = λ t c left. subst (λ (s : Shelf). shelf_images s (clock_of ticks) c) here left;
    kept = λ t. record {
      later = omega arith;
      still = λ none. none;
      same = λ s up le c left. subst (λ (z : Shelf). shelf_images z s c) (sym here) (subst (λ (z : Shelf). shelf_images z s c) is left);
      all = λ s up le c left. subst (λ (z : Shelf). shelf_images z s c) (sym is) (subst (λ (z : Shelf). shelf_images z s c) here left);
    };
  }

  pub lends : (ticks : ℕ) (disk : MemoryDisk) (n : ℕ) → ((d : Device) → last_done (view a d) ≤ clock_of ticks) → last_told x ≤ clock_of ticks → view a (Volume v) ≡ Here disk → IsLentAs ticks disk (view b (Volume v)) → ((d : Device) → g d ≡ f d) → n ≡ f (Volume v)
      → Lends (Unit {0}) v (past_state a x (clock_of ticks) f p) (past_state b x (clock_of ticks) g q) (own_standing disk (clock_of ticks) n)
  lends ticks disk n done told here lent counts count =
      subst (λ (y : MemoryDisk). Lends (Unit {0}) v (past_state a x (clock_of ticks) f p) (past_state b x (clock_of ticks) g q) (own_standing y (clock_of ticks) n)) lent.1
      (lends_was ticks lent.0 n done told (here ∙ sym (ap Here lent.1)) (lent.2 ∙ ap (λ (y : MemoryDisk). Lent (length (held y)) ticks lent.0) (sym lent.1)) counts count)

-- What is in its place again shows what it showed: up to the moment of the loan as it was, in the lent time any of its own
-- images of that time, and from then on what it is now.
pub record Returns (lent own now : ℕ) (disk : MemoryDisk) (shelf : Shelf) : Type 0 where
  pub before : (t : ℕ) → t ≤ lent → (c : List ℕ) → shelf_images shelf t c → Reach t (past_of disk) (first_held disk) c
  pub before_all : (t : ℕ) → t ≤ lent → (c : List ℕ) → Reach t (past_of disk) (first_held disk) c → shelf_images shelf t c
  pub own_time : (t : ℕ) → lent < t → t < now → (c : List ℕ) → shelf_images shelf t c → (s : ℕ) × (lent ≤ s) × (s ≤ own) × Reach s (past_of disk) (first_held disk) c
  pub own_all : (s t : ℕ) → lent ≤ s → s ≤ own → lent < t → t < now → (c : List ℕ) → Reach s (past_of disk) (first_held disk) c → shelf_images shelf t c
  pub has_moment : lent < own → lent + 1 < now
  pub last : (c : List ℕ) → shelf_images shelf now c → Reach own (past_of disk) (first_held disk) c
  pub last_all : (c : List ℕ) → Reach own (past_of disk) (first_held disk) c → shelf_images shelf now c
  pub bytes_are : shelf_bytes shelf ≡ held disk
  pub length_is : shelf_length shelf ≡ length (held disk)
  pub here : shelf_is_lent shelf ≡ false

-- No own call was made.
returns_still : (lent own ticks : ℕ) (disk : MemoryDisk) (shelf : Shelf) → last_till 0 (past_of disk) ≤ clock_of own → clock_of lent ≤ clock_of own → own ≤ lent → lent ≤ ticks → shelf ≡ Here disk → Returns (clock_of lent) (clock_of own) (clock_of ticks) disk shelf
returns_still lent own ticks disk shelf done later early on is = subst (λ (s : Shelf). Returns (clock_of lent) (clock_of own) (clock_of ticks) disk s) (sym is) (record {
  before = λ t le c left. left;
  before_all = λ t le c left. left;
  own_time = λ t from to c left. (clock_of own, later, omega arith, move t (clock_of own) c (omega (arith, done, early, from)) done left);
  own_all = λ s t from to above below c left. move s t c (omega (arith, done, early, from)) (omega (arith, done, early, above)) left;
  has_moment = λ rises. absurd (omega (arith, rises, early));
  last = λ c left. move (clock_of ticks) (clock_of own) c (omega (arith, done, early, on)) done left;
  last_all = λ c left. move (clock_of own) (clock_of ticks) c done (omega (arith, done, early, on)) left;
  bytes_are = refl;
  length_is = refl;
  here = refl;
})
  where
    move : (s t : ℕ) (c : List ℕ) → last_till 0 (past_of disk) ≤ s → last_till 0 (past_of disk) ≤ t → Reach s (past_of disk) (first_held disk) c → Reach t (past_of disk) (first_held disk) c
    move s t c at_s at_t left = reach_later s t 0 0 (past_of disk) (first_held disk) c disk.in_time at_s at_t left

-- Own calls were made.
module _ (lent own now : ℕ) (disk new : MemoryDisk) (done : last_till 0 (past_of disk) ≤ clock_of own) (rises : lent < own) (after : lent + 1 ≤ now) (moves : Moves (clock_of lent) (clock_of now) disk new) where
  after_lent : clock_of lent + 1 < clock_of now
  after_lent = omega (arith, after)

  forth : (t : ℕ) (c : List ℕ) → Reach t (moved (clock_of lent) (clock_of now) (past_of disk)) (first_held disk) c → Reach t (past_of new) (first_held new) c
  forth t c left = subst (λ (l : List ℕ). Reach t (past_of new) l c) (sym moves.base) (subst (λ (l : List Note). Reach t l (first_held disk) c) (sym moves.past) left)

  back : (t : ℕ) (c : List ℕ) → Reach t (past_of new) (first_held new) c → Reach t (moved (clock_of lent) (clock_of now) (past_of disk)) (first_held disk) c
  back t c left = subst (λ (l : List ℕ). Reach t (moved (clock_of lent) (clock_of now) (past_of disk)) l c) moves.base (subst (λ (l : List Note). Reach t l (first_held new) c) moves.past left)

  times : InTime 0 0 (moved (clock_of lent) (clock_of now) (past_of disk))
  times = subst (λ (l : List Note). InTime 0 0 l) moves.past new.in_time

  ended : last_till 0 (moved (clock_of lent) (clock_of now) (past_of disk)) ≤ clock_of now
  ended = last_moved (clock_of lent) (clock_of now) after_lent 0 (past_of disk) (omega arith)

  returns_moved : Returns (clock_of lent) (clock_of own) (clock_of now) disk (Here new)
  returns_moved = record {
    before = λ t le c left. kept_reach (clock_of lent) (clock_of now) after_lent t (past_of disk) (first_held disk) c le (back t c left);
    before_all = λ t le c left. forth t c (reach_kept (clock_of lent) (clock_of now) after_lent t (past_of disk) (first_held disk) c le left);
    own_time = λ t from to c left. own_moment (clock_of lent) (clock_of now) after_lent (clock_of own) t 0 0 (past_of disk) (first_held disk) c disk.in_time (omega arith) (omega arith) (omega (arith, rises)) done from to (back t c left);
    own_all = λ s t from to above below c left. forth t c (own_reach (clock_of lent) (clock_of now) after_lent s t 0 0 (past_of disk) (first_held disk) c disk.in_time from above below left);
    has_moment = λ up. after_lent;
    last = λ c left. reach_of (clock_of own) 0 0 (past_of disk) (first_held disk) c disk.in_time done (through_moved (clock_of lent) (clock_of now) after_lent (past_of disk) (first_held disk) c (through_of (clock_of now) 0 0 (moved (clock_of lent) (clock_of now) (past_of disk)) (first_held disk) c times ended (back (clock_of now) c left)));
    last_all = λ c left. forth (clock_of now) c (reach_of (clock_of now) 0 0 (moved (clock_of lent) (clock_of now) (past_of disk)) (first_held disk) c times ended (moved_through (clock_of lent) (clock_of now) after_lent (past_of disk) (first_held disk) c (through_of (clock_of own) 0 0 (past_of disk) (first_held disk) c disk.in_time done left)));
    bytes_are = moves.bytes_are;
    length_is = ap length moves.bytes_are;
    here = refl;
  }

returns : (lent own ticks now : ℕ) (disk : MemoryDisk) (shelf : Shelf) → last_till 0 (past_of disk) ≤ clock_of own → clock_of lent ≤ clock_of own → lent ≤ ticks → Shelves own lent ticks now disk shelf → Returns (clock_of lent) (clock_of own) (clock_of now) disk shelf
returns lent own ticks now disk shelf done later on shelves = elim (cases_lt lent own) [
  | inl rises ↦
      let goes = shelves.0 rises in
      let new = goes.2 in
      subst (λ (s : Shelf). Returns (clock_of lent) (clock_of own) (clock_of now) disk s) (sym new.2) (returns_moved lent own now disk new.0 done rises goes.0 new.1)
  | inr early ↦
      let stays = shelves.1 early in
      subst (λ (n : ℕ). Returns (clock_of lent) (clock_of own) (clock_of n) disk shelf) (sym stays.0) (returns_still lent own ticks disk shelf done later early on stays.1)
]

module _ (a b : MemoryDisks) (x y : MemoryConsole) (f g : Device → ℕ) (p q v ticks now own n : ℕ) (disk : MemoryDisk) (others : (d : Device) → d ≢ Volume v → view b d ≡ view a d) (sizes : SameSizes a b) (same : y ≡ x) (there : v < volumes_of a) (console : q ≡ p) (later : ticks ≤ now)
    (done : (d : Device) → last_done (view a d) ≤ clock_of ticks) (told : last_told x ≤ clock_of ticks) (own_done : last_till 0 (past_of disk) ≤ clock_of own) (loan : lent_at (view a (Volume v)) ≤ ticks)
    (past : SamePast (shelf_lent (view a (Volume v))) (own_standing disk (clock_of own) n)) (size : length (held disk) ≡ shelf_length (view a (Volume v))) (shelves : Shelves own (lent_at (view a (Volume v))) ticks now disk (view b (Volume v)))
    (counts : (d : Device) → d ≢ Volume v → g d ≡ f d) (count : g (Volume v) ≡ n) where
  -- A volume that was lent from here.
  taken_back : (k at : ℕ) (was : Snapshot MemoryDisk) → view a (Volume v) ≡ Lent k at was → TakesBack (Unit {0}) v (past_state a x (clock_of ticks) f p) (past_state b y (clock_of now) g q) (own_standing disk (clock_of own) n)
  taken_back k at was is = record {
    rest = leaves_all_but a b x y (clock_of ticks) (clock_of now) f g p q (omega arith) (omega (arith, later)) done told sizes (same_of x y same) v others (back.length_is ∙ size) counts console;
    is_back = lent_at_home b.volumes.items v (omega (arith, there, sizes.volumes)) ∙ back.here;
    faults = count;
    bytes = λ t. back.bytes_are;
    before = λ t s up early le c left. subst (λ (z : Shelf). shelf_images z s c) (sym is) (kept.same s (omega arith) (before_loan s early) c (back.before s (before_loan s early) c left));
    before_all = λ t s up early le c left. back.before_all s (before_loan s early) c (kept.all s (omega arith) (before_loan s early) c (subst (λ (z : Shelf). shelf_images z s c) is left));
    own = λ t s from to c left. let found = back.own_time s (in_loan s from) to c left in (found.0, omega (arith, clock_is, found.1), found.2, found.3);
    own_all = λ t s from to c own_image. back.own_all own_image.0 s (omega (arith, clock_is, own_image.1)) own_image.2 (in_loan s from) to c own_image.3;
    has_moment = λ t rises. let moment = back.has_moment (omega (arith, clock_is, rises)) in omega (arith, moment, since_is);
    now = λ t c left. back.last c left;
    now_all = λ t c left. back.last_all c left;
  }
    where
      at_is : lent_at (view a (Volume v)) ≡ at
      at_is = ap lent_at is

      since_is : shelf_since (view a (Volume v)) ≡ clock_of at + 1
      since_is = ap shelf_since is

      clock_is : (shelf_lent (view a (Volume v))).clock ≡ clock_of at
      clock_is = ap (λ (s : Shelf). (shelf_lent s).clock) is

      kept : SamePast (shelf_lent (Lent k at was)) (own_standing disk (clock_of own) n)
      kept = subst (λ (s : Shelf). SamePast (shelf_lent s) (own_standing disk (clock_of own) n)) is past

      back : Returns (clock_of at) (clock_of own) (clock_of now) disk (view b (Volume v))
      back = returns at own ticks now disk (view b (Volume v)) own_done kept.later (omega (arith, at_is, loan)) (subst (λ (m : ℕ). Shelves own m ticks now disk (view b (Volume v))) at_is shelves)

      before_loan : (s : ℕ) → s < shelf_since (view a (Volume v)) → s ≤ clock_of at
      before_loan s early = omega (arith, early, since_is)

      in_loan : (s : ℕ) → shelf_since (view a (Volume v)) ≤ s → clock_of at < s
      in_loan s from = omega (arith, from, since_is)

  pub takes_back : shelf_is_lent (view a (Volume v)) ≡ true → TakesBack (Unit {0}) v (past_state a x (clock_of ticks) f p) (past_state b y (clock_of now) g q) (own_standing disk (clock_of own) n)
  takes_back lent = by_place (view a (Volume v)) refl lent
    where
      by_place : (shelf : Shelf) → view a (Volume v) ≡ shelf → shelf_is_lent shelf ≡ true → TakesBack (Unit {0}) v (past_state a x (clock_of ticks) f p) (past_state b y (clock_of now) g q) (own_standing disk (clock_of own) n)
      by_place (Here z) is lent = absurd (cc lent)
      by_place (Lent k at was) is lent = taken_back k at was is
      by_place (Away k) is lent = let still = past.still (ap (λ (s : Shelf). (shelf_lent s).clock) is) in absurd (omega (arith, still))

-- A volume with own calls is in its place, moved.
pub shelves_moved : (own at lent ticks now : ℕ) (disk new : MemoryDisk) (shelf : Shelf) → at ≡ lent → at < own → own ≤ last_tick → at + 1 ≤ now → Moves (clock_of at) (clock_of now) disk new → shelf ≡ Here new → Shelves own lent ticks now disk shelf
shelves_moved own at lent ticks now disk new shelf same rises within after moves is =
    subst (λ (n : ℕ). Shelves own n ticks now disk shelf) same ((λ up. (after, omega (arith, rises, within), (new, moves, is))), (λ early. absurd (omega (arith, rises, early))))
