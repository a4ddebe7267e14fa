-- Calls on a device that keeps its past.
use Rattle.std.proofs.Common.{◌≡◌, inl, inr, ℕ, ◌<◌, ◌≤◌, List, [], ◌∷◌, ◌++◌, length, refl, sym, ◌∙◌, ap, subst, arith, false, Result, Ok, Err, OnOk, OnErr}
use Rattle.std.proofs.lemmas.Bool.{cases_lt}
use Rattle.crash_plant.specs.declared.entry.Done.{Done}
use Rattle.crash_plant.specs.declared.entry.Done.TheVariants.{Write, Sync}
use Rattle.crash_plant.specs.declared.shelf.Shelf.{Shelf}
use Rattle.crash_plant.specs.declared.shelf.Shelf.TheVariants.{Here, Lent, Away}
use Rattle.crash_plant.specs.Bytes.{patched}
use Rattle.crash_plant.specs.Moments.{SamePast, Follows}
use Rattle.crash_plant.specs.CallSteps.{IsSynced, Passes, ShelfOpens, ShelfStands, step_of}
use Rattle.crash_plant.specs.Pasts.{Note, Step, Reach, Through, Does, Chains, InTime, last_till}
use Rattle.crash_plant.specs.Shelves.{ShelfNotes, ShelfAlike, last_done, lent_at, shelf_base, shelf_bytes, shelf_images, shelf_is_lent, shelf_length, shelf_past}
use Rattle.crash_plant.proofs.Records.{chains_through, in_time_push, last_push, reach_before, reach_still, reach_later, reach_of, push_through, through_of, through_push}

-- Each record stands in order, and one that is here leads on to what a read gives.
pub shelf_in_time : (shelf : Shelf) → InTime 0 0 (shelf_past shelf)
shelf_in_time (Here disk) = disk.in_time
shelf_in_time (Lent n at was) = was.value.in_time
shelf_in_time (Away n) = tt

pub shelf_chained : (shelf : Shelf) → shelf_is_lent shelf ≡ false → Chains (shelf_base shelf) (shelf_past shelf) (shelf_bytes shelf)
shelf_chained (Here disk) here = disk.chained
shelf_chained (Lent n at was) here = absurd (cc here)
shelf_chained (Away n) here = absurd (cc here)

shelf_sized : (shelf : Shelf) → shelf_is_lent shelf ≡ false → shelf_length shelf ≡ length (shelf_bytes shelf)
shelf_sized (Here disk) here = refl
shelf_sized (Lent n at was) here = absurd (cc here)
shelf_sized (Away n) here = absurd (cc here)

-- Once the calls are done, the images stay.
pub images_later : (shelf : Shelf) (s t : ℕ) (c : List ℕ) → last_done shelf ≤ s → last_done shelf ≤ t → shelf_images shelf s c → shelf_images shelf t c
images_later shelf s t c done later now = reach_later s t 0 0 (shelf_past shelf) (shelf_base shelf) c (shelf_in_time shelf) done later now

pub read_image : (shelf : Shelf) (t : ℕ) → shelf_is_lent shelf ≡ false → last_done shelf ≤ t → shelf_images shelf t (shelf_bytes shelf)
read_image shelf t here done = reach_of t 0 0 (shelf_past shelf) (shelf_base shelf) (shelf_bytes shelf) (shelf_in_time shelf) done (chains_through (shelf_base shelf) (shelf_past shelf) (shelf_bytes shelf) (shelf_chained shelf here))

-- A call leaves a device alone.
pub passes_still : (step : List ℕ → List ℕ → Type 0) (clock now : ℕ) (shelf : Shelf) → ((c : List ℕ) → step c c) → last_done shelf ≤ clock → clock ≤ now → Passes step clock now shelf shelf
passes_still step clock now shelf stays done later = record {
  later = later;
  same = λ t le c left. left;
  all = λ t le c left. left;
  follows = λ t from to c left. (c, images_later shelf t clock c (omega (arith, done, from)) done left, stays c);
  takes = stays (shelf_bytes shelf);
  length_is = refl;
  here = refl;
}

stays_of : (done : Done) (c : List ℕ) → step_of done c c
stays_of (Write place count) c = record { before = refl; after = refl; size = refl }
stays_of Sync c = refl

takes_of : (done : Done) (b a : List ℕ) → Does done b a → step_of done b a
takes_of (Write place count) b a does = record { before = does.1; after = does.2; size = does.3 }
takes_of Sync b a does = does

size_of : (done : Done) (b a : List ℕ) → Does done b a → length a ≡ length b
size_of (Write place count) b a does = does.3
size_of Sync b a does = ap length does

-- A call was tried without memory for its record.
pub passes_alike : (done : Done) (clock now : ℕ) (old new : Shelf) → shelf_is_lent old ≡ false → last_done old ≤ clock → clock ≤ now → ShelfAlike old new → Passes (step_of done) clock now old new
passes_alike done clock now old new here still later alike = record {
  later = later;
  same = λ t le c left. back t c left;
  all = λ t le c left. subst (λ (l : List ℕ). Reach t (shelf_past new) l c) (sym alike.base) (subst (λ (l : List Note). Reach t l (shelf_base old) c) (sym alike.past) left);
  follows = λ t from to c left. (c, images_later old t clock c (omega (arith, still, from)) still (back t c left), stays_of done c);
  takes = subst (λ (l : List ℕ). step_of done (shelf_bytes old) l) (sym alike.bytes_are) (stays_of done (shelf_bytes old));
  length_is = shelf_sized new alike.here ∙ ap length alike.bytes_are ∙ sym (shelf_sized old here);
  here = alike.here ∙ sym here;
}
  where
    back : (t : ℕ) (c : List ℕ) → shelf_images new t c → shelf_images old t c
    back t c left = subst (λ (l : List ℕ). Reach t (shelf_past old) l c) alike.base (subst (λ (l : List Note). Reach t l (shelf_base new) c) alike.past left)

pub stands_alike : (clock now : ℕ) (old new : Shelf) → last_done old ≤ clock → ShelfAlike old new → ShelfStands clock now old new
stands_alike clock now old new still alike = λ t from to c was.
    let then_too = images_later old clock t c still (omega (arith, still, from)) was in
    subst (λ (l : List ℕ). Reach t (shelf_past new) l c) (sym alike.base) (subst (λ (l : List Note). Reach t l (shelf_base old) c) (sym alike.past) then_too)

-- Where no call is made all stands.
pub stands_still : (clock now : ℕ) (shelf : Shelf) → last_done shelf ≤ clock → ShelfStands clock now shelf shelf
stands_still clock now shelf done = λ t from to c was. images_later shelf clock t c done (omega (arith, done, from)) was

-- A call came to the record.
module _ (done : Done) (place clock now : ℕ) (bytes : List ℕ) (old new : Shelf) (here : shelf_is_lent old ≡ false) (still : last_done old ≤ clock) (later : clock < now) (does : Does done (shelf_bytes old) (patched place bytes (shelf_bytes old))) (notes : ShelfNotes now done place bytes old new) where
  forth : (t : ℕ) (c : List ℕ) → Reach t (shelf_past old ++ record { since = now; till = now; done = done; after = shelf_bytes new } ∷ []) (shelf_base old) c → shelf_images new t c
  forth t c left = subst (λ (l : List ℕ). Reach t (shelf_past new) l c) (sym notes.base) (subst (λ (l : List Note). Reach t l (shelf_base old) c) (sym notes.past) left)

  back : (t : ℕ) (c : List ℕ) → shelf_images new t c → Reach t (shelf_past old ++ record { since = now; till = now; done = done; after = shelf_bytes new } ∷ []) (shelf_base old) c
  back t c left = subst (λ (l : List ℕ). Reach t (shelf_past old ++ record { since = now; till = now; done = done; after = shelf_bytes new } ∷ []) l c) notes.base (subst (λ (l : List Note). Reach t l (shelf_base new) c) notes.past left)

  before : (t : ℕ) (c : List ℕ) → t < now → shelf_images new t c → shelf_images old t c
  before t c early left = reach_before t (shelf_past old) (record { since = now; till = now; done = done; after = shelf_bytes new }) (shelf_base old) c early early (back t c left)

  last_image : (t : ℕ) (c : List ℕ) → now ≤ t → shelf_images new t c → (m : List ℕ) × Through (shelf_past old) (shelf_base old) m × Step done (shelf_bytes new) m c
  last_image t c late left =
      let past = shelf_past old in
      let n : Note = record { since = now; till = now; done = done; after = shelf_bytes new } in
      let times = in_time_push 0 0 past n (omega arith) (shelf_in_time old) (omega (arith, still, later)) (omega arith) in
      let last : last_till 0 (past ++ n ∷ []) ≤ t = omega (arith, last_push 0 past n, late) in
      through_push past n (shelf_base old) c (through_of t 0 0 (past ++ n ∷ []) (shelf_base old) c times last (back t c left))

  at_clock : (c : List ℕ) → Through (shelf_past old) (shelf_base old) c → shelf_images old clock c
  at_clock c through = reach_of clock 0 0 (shelf_past old) (shelf_base old) c (shelf_in_time old) still through

  does_now : Does done (shelf_bytes old) (shelf_bytes new)
  does_now = subst (λ (l : List ℕ). Does done (shelf_bytes old) l) (sym notes.bytes_are) does

  -- Each image now comes by a step from one before the call.
  came : (m c : List ℕ) → Through (shelf_past old) (shelf_base old) m → Step done (shelf_bytes new) m c → (b : List ℕ) × shelf_images old clock b × step_of done b c
  came m c through step = came_by done m c refl through step
    where
      came_by : (d : Done) (m c : List ℕ) → done ≡ d → Through (shelf_past old) (shelf_base old) m → Step d (shelf_bytes new) m c → (b : List ℕ) × shelf_images old clock b × step_of done b c
      came_by (Write p n) m c is through step = (m, at_clock m through, subst (λ (d : Done). step_of d m c) (sym is) step)
      came_by Sync m c is through step = (shelf_bytes old, read_image old clock here still, subst (λ (d : Done). step_of d (shelf_bytes old) c) (sym is) (step ∙ subst (λ (d : Done). step_of d (shelf_bytes old) (shelf_bytes new)) is (takes_of done (shelf_bytes old) (shelf_bytes new) does_now)))

  pub passes_noted : Passes (step_of done) clock now old new
  passes_noted = record {
    later = omega (arith, later);
    same = λ t le c left. before t c (omega (arith, le, later)) left;
    all = λ t le c left. forth t c (reach_still t (shelf_past old) (record { since = now; till = now; done = done; after = shelf_bytes new }) (shelf_base old) c (omega (arith, le, later)) left);
    follows = λ t from to c left. elim (cases_lt t now) [
      | inl early ↦ (c, images_later old t clock c (omega (arith, still, from)) still (before t c early left), stays_of done c)
      | inr late ↦ let last = last_image t c late left in came last.0 c last.1 last.2
    ];
    takes = takes_of done (shelf_bytes old) (shelf_bytes new) does_now;
    length_is = shelf_sized new notes.here ∙ size_of done (shelf_bytes old) (shelf_bytes new) does_now ∙ sym (shelf_sized old here);
    here = notes.here ∙ sym here;
  }

  -- After a sync each image is what a read gives.
  pub synced : IsSynced done now new
  synced = synced_by done refl
    where
      synced_by : (d : Done) → done ≡ d → IsSynced d now new
      synced_by (Write p n) is = tt
      synced_by Sync is = λ c left. let last = last_image now c (omega arith) left in subst (λ (d : Done). Step d (shelf_bytes new) last.0 c) is last.2

  -- A write opens its range.
  pub opened : ShelfOpens done clock now old new
  opened = opened_by done refl
    where
      opened_by : (d : Done) → done ≡ d → ShelfOpens d clock now old new
      opened_by (Write p n) is = λ b c left torn.
          let past = shelf_past old in
          let last : Note = record { since = now; till = now; done = done; after = shelf_bytes new } in
          let times = in_time_push 0 0 past last (omega arith) (shelf_in_time old) (omega (arith, still, later)) (omega arith) in
          let ended : last_till 0 (past ++ last ∷ []) ≤ now = omega (arith, last_push 0 past last) in
          let step : Step done (shelf_bytes new) b c = subst (λ (e : Done). Step e (shelf_bytes new) b c) (sym is) torn in
          forth now c (reach_of now 0 0 (past ++ last ∷ []) (shelf_base old) c times ended (push_through past last (shelf_base old) b c (through_of clock 0 0 past (shelf_base old) b (shelf_in_time old) still left) step))
      opened_by Sync is = tt

-- What passes between two moments, of a device with any counts.
pub kept_of : (step : List ℕ → List ℕ → Type 0) (clock now : ℕ) (old new : Shelf) (f g : ℕ) → 0 < clock → Passes step clock now old new
    → SamePast (record { bytes = shelf_bytes old; clock = clock; images = λ t c. shelf_images old t c; length_is = shelf_length old; faults = f }) (record { bytes = shelf_bytes new; clock = now; images = λ t c. shelf_images new t c; length_is = shelf_length new; faults = g })
kept_of step clock now old new f g begun passes = record {
  later = passes.later;
  still = λ none. absurd (omega (arith, begun, none));
  same = λ t up le c left. passes.same t le c left;
  all = λ t up le c left. passes.all t le c left;
}

pub follows_of : (step : List ℕ → List ℕ → Type 0) (clock now : ℕ) (old new : Shelf) (f g : ℕ) → Passes step clock now old new
    → Follows step (record { bytes = shelf_bytes old; clock = clock; images = λ t c. shelf_images old t c; length_is = shelf_length old; faults = f }) (record { bytes = shelf_bytes new; clock = now; images = λ t c. shelf_images new t c; length_is = shelf_length new; faults = g })
follows_of step clock now old new f g passes = passes.follows

-- A call on a disk that was tried: what it left, and when the last was done.
module _ {T E : Type 0} (result : Result T E) (done : Done) (place clock now : ℕ) (bytes : List ℕ) (old new : Shelf) (here : shelf_is_lent old ≡ false) (still : last_done old ≤ clock) (later : clock < now) (ok : OnOk result (ShelfNotes now done place bytes old new)) (err : OnErr result (ShelfAlike old new)) where
  pub last_tried : last_done new ≤ now
  last_tried = by_result result ok err
    where
      by_result : {T E : Type 0} (r : Result T E) → OnOk r (ShelfNotes now done place bytes old new) → OnErr r (ShelfAlike old new) → last_done new ≤ now
      by_result (Ok x) notes alike = omega (arith, ap (λ (l : List Note). last_till 0 l) notes.past ∙ last_push 0 (shelf_past old) (record { since = now; till = now; done = done; after = shelf_bytes new }))
      by_result (Err e) notes alike = omega (arith, ap (λ (l : List Note). last_till 0 l) alike.past, still, later)

  pub home_tried : shelf_is_lent new ≡ false
  home_tried = by_result result ok err
    where
      by_result : {T E : Type 0} (r : Result T E) → OnOk r (ShelfNotes now done place bytes old new) → OnErr r (ShelfAlike old new) → shelf_is_lent new ≡ false
      by_result (Ok x) notes alike = notes.here
      by_result (Err e) notes alike = alike.here

-- A device that is here was lent at no tick.
pub never_lent : (shelf : Shelf) → shelf_is_lent shelf ≡ false → lent_at shelf ≡ 0
never_lent (Here disk) here = refl
never_lent (Lent n at was) here = absurd (cc here)
never_lent (Away n) here = refl

-- A device with no call is left alone, whatever calls may change.
pub passes_none : (done : Done) (clock now : ℕ) (shelf : Shelf) → last_done shelf ≤ clock → now ≡ clock → Passes (step_of done) clock now shelf shelf
passes_none done clock now shelf still same = passes_still (step_of done) clock now shelf (stays_of done) still (omega (arith, same))
