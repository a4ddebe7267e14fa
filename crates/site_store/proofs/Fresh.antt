-- What stands after the first mark, and the devices at the moments of a session's start, over plain states.
use Rattle.std.proofs.Common.{◌≡◌, ◌≢◌, ◌⊎◌, inl, inr, ℕ, zero, suc, ◌+◌, ◌≤◌, ◌<◌, false, true, List, [], ◌∷◌, drop, slice_index, Option, Some, None, Result, Ok, Err, refl, sym, ap, subst, ◌∙◌, arith}
use Rattle.std.specs.Prelude.{IsErrOf, slice_index_or}
use Rattle.std.specs.List.{Contains}
use Rattle.std.proofs.lemmas.List.{get_or-drop, length-replicate}
use Rattle.tod_stamp.specs.declared.stamp.Stamp.{Stamp}
use Rattle.crash_plant.specs.declared.device.Device.{Device}
use Rattle.crash_plant.specs.declared.device.Device.TheVariants.{Control, State, Journal, Volume}
use Rattle.crash_plant.specs.Bytes.{Torn}
use Rattle.crash_plant.specs.Calls.{NoneLent, SameSite, WorksOn}
use Rattle.crash_plant.specs.Choices.{AllFollow, Choice, IsChoice}
use Rattle.crash_plant.specs.Moments.{Follows, IsDurable, PlantState, on}
use Rattle.crash_plant.proofs.Choices.{choices_then, works_on_choices}
use Rattle.control_set.specs.declared.value.Mark.{Mark}
use Rattle.control_set.specs.Marks.{IsMark}
use Rattle.control_set.specs.Slots.{IsNext, NoGateOpen, chosen_mark, is_closed, lengths_of, slot_of}
use Rattle.control_set.proofs.Lengths.{at_is, count_is, same_lengths}
use Rattle.control_set.proofs.Reading.{closed_is}
use Rattle.control_set.proofs.Stands.{none_of_gates, none_where}
use Rattle.pair_table.specs.declared.level.Level.{Level}
use Rattle.pair_table.specs.declared.row.PairRow.{PairRow}
use Rattle.state_set.specs.Slots.{Stored, state_of}
use Rattle.site_means.specs.Images.{Images, Shape, shape_of}
use Rattle.site_means.specs.Meaning.{chosen_in, meaning, meaning_in, means_by, stored_in}
use Rattle.site_means.specs.Meaning.Meaning.{Meant}
use Rattle.site_means.specs.Sight.{means_of}
use Rattle.site_means.specs.Sight as sight
use Rattle.site_means.specs.Walk.{Walk, ends_at, start, turns_at, walk_in}
use Rattle.site_means.proofs.Meanings.{by_walk}
use Rattle.site_means.proofs.Reaching.{ends_here, shut_ends}
use Rattle.xrc_edge.specs.Causes.{Rose}
use Rattle.site_store.specs.declared.store_error.StoreError.{StoreError}
use Rattle.site_store.specs.declared.store_error.StoreError.TheVariants.{Fault, Spent}
use Rattle.site_store.specs.Causes.{HasStoreCause}
use Rattle.site_store.specs.Records.{IsStore}
use Rattle.site_store.specs.Formats.{HasStartCause, IsFormatted, IsShut, MeansStarted, ShutsControl, ShutsFirst, ShutsOrMeans, started_means}
use Rattle.site_store.specs.Marking.{AllPutMark, IsMarked, MarkIsPut, PutsMark}
use Rattle.site_store.specs.Sites.{first_mark, first_spot, meant_for, new_site}
use Rattle.site_store.specs.Standing.{FitsPlant, HasLengths, SiteStands, none_excepted}
use Rattle.site_store.proofs.Calls.{all_weaker}

-- ---- what the devices are

-- A mark is written on devices on which a session starts.
pub marked_formatted : (d : Device) → IsMarked d → IsFormatted d
marked_formatted Control is = tt
marked_formatted State is = tt
marked_formatted (Journal j) is = absurd is
marked_formatted (Volume v) is = absurd is

pub lengths_stay : (controls : ℕ) (old new : PlantState) → SameSite old new → HasLengths controls old → HasLengths controls new
lengths_stay controls old new same lengths = record {
  control = omega (arith, lengths.control, same.lengths Control);
  state = omega (arith, lengths.state, same.lengths State);
  journals = (omega (arith, lengths.journals.0, same.journals), omega (arith, lengths.journals.1, same.journals));
  journal = λ j there. omega (arith, lengths.journal j (omega (arith, there, same.journals)), same.lengths (Journal j));
  volumes = omega (arith, lengths.volumes, same.volumes);
}

-- A spot of the plant is one by the lengths of its journals.
spot_there : (plant : PlantState) (set place : ℕ) → set < plant.journals → place + 24 ≤ plant.lengths (Journal set) → IsMark (lengths_of plant) (record { number = 1; session = []; state_slot = 0; at = record { set = set; place = place; number = 1 }; time = record { 0 = 1 }; ended = false })
spot_there plant set place there room =
    let count = count_is (λ j. plant.lengths (Journal j)) 0 plant.journals in
    let size : slice_index (lengths_of plant) set ≡ plant.lengths (Journal set) = at_is (λ j. plant.lengths (Journal j)) 0 plant.journals set there ∙ ap (λ (k : ℕ). plant.lengths (Journal k)) (omega arith) in
    record { number = omega arith; most = omega arith; state_slot = omega arith; set = omega (arith, there, count); room = omega (arith, room, size); next = omega arith; time = omega arith }

-- ---- the control and journal 0

-- nothing yet
pub first_here : (lengths : List ℕ) (c : Choice) → ShutsFirst lengths c c
first_here lengths c = record { control = record { slots = record { first = inl refl; second = inl refl }; counts = λ mark is. inl is }; before = inl (refl, refl) }

first_closed : (lengths bytes : List ℕ) → slice_index bytes 0 ≢ 1 → is_closed (slot_of lengths bytes) ≡ true
first_closed lengths bytes shut = ap is_closed (closed_is lengths bytes shut)

second_closed : (lengths bytes : List ℕ) → slice_index bytes 512 ≢ 1 → is_closed (slot_of lengths (drop 512 bytes)) ≡ true
second_closed lengths bytes shut = first_closed lengths (drop 512 bytes) (λ is. shut (sym (get_or-drop 512 bytes 0 0) ∙ is))

-- No gate is open.
both_shut : (lengths : List ℕ) (x z : Choice) → NoGateOpen (z Control) → ShutsFirst lengths x z
both_shut lengths x z shut =
    let first = first_closed lengths (z Control) shut.first in
    let second = second_closed lengths (z Control) shut.second in
    record {
      control = record { slots = record { first = inr first; second = inr second }; counts = λ mark is. inr (none_of_gates lengths (z Control) shut) };
      before = inr (record { first = first; second = second });
    }

-- Only the control was called, and then journal 0.
module _ (tells : Type 0) (told : tells) (old mid : PlantState) (works : WorksOn tells (λ d. d ≡ Control) old mid) (follows : Follows (ShutsControl (lengths_of old)) (on old Control) (on mid Control)) where
  pub shut_control : AllFollow (ShutsFirst (lengths_of old)) old mid
  shut_control = all_weaker old mid _ _ (works_on_choices tells told Control (ShutsControl (lengths_of old)) old mid tt works follows)
      (λ x y here step. record { control = step.0; before = inl (step.1 State (λ same. cc same), step.1 (Journal 0) (λ same. cc same)) })

  pub shut_journal : (new : PlantState) → NoGateOpen (mid.bytes Control) → IsDurable (on mid Control) → 1 ≤ old.journals → WorksOn tells (λ d. d ≡ Journal 0) mid new → Follows (Torn 0 1) (on mid (Journal 0)) (on new (Journal 0)) → AllFollow (ShutsFirst (lengths_of old)) old new
  shut_journal new gates control there puts torn =
      choices_then old mid new (ShutsFirst (lengths_of old)) _ (ShutsFirst (lengths_of old)) ((works.elapses told).kept Control).later shut_control puts.site (puts.elapses told)
      (works_on_choices tells told (Journal 0) (Torn 0 1) mid new (omega (arith, there, works.site.journals)) puts torn)
      (λ x y here step. step) (λ x y z here is step put. both_shut (lengths_of old) x z (subst (λ (l : List ℕ). NoGateOpen l) (sym (put.1 Control (λ same. cc same) ∙ control (y Control) (is Control tt))) gates))

-- ---- the first mark

only_among : (n j : ℕ) → Contains (n ∷ []) j → n ≡ j
only_among n j has = by_place has.0 has.1 has.2
  where
    by_place : (k : ℕ) → k < 1 → slice_index_or (n ∷ []) k j ≡ j → n ≡ j
    by_place zero lt is = is
    by_place (suc k) lt is = absurd (omega (arith, lt))

-- With no gate open the first number is the next one.
pub first_is_next : (lengths control : List ℕ) → NoGateOpen control → IsNext (chosen_mark lengths control) 1
first_is_next lengths control none = subst (λ (r : Result (Option Mark) ℕ). IsNext r 1) (sym (none_of_gates lengths control none)) refl

-- A mark before a gate that isn't 1 means what its state slot holds, by a walk without a group.
meant_at_gate : (shape : Shape) (b : Images) (m : Mark) (s : Stored) → chosen_in shape b ≡ Ok (Some m) → stored_in shape b m ≡ Ok s → slice_index (b (Journal m.at.set)) m.at.place ≢ 1
    → (let w = ends_at (start m s.rows) None in meaning_in shape b ≡ Meant (means_by m s w) w)
meant_at_gate shape b m s chosen stored shut =
    let walk : walk_in shape b m s.rows ≡ ends_at (start m s.rows) None = ends_here (turns_at m.at) shape b (start m s.rows) (shut_ends shape b (start m s.rows) shut) in
    by_walk shape b m s chosen stored None (ap (λ (k : Walk). k.bad) walk) ∙ ap (λ (k : Walk). Meant (means_by m s k) k) walk

module _ (plant : PlantState) (controls : ℕ) (session : List ℕ) (level : Level) (at : Stamp) where
  pub first_is_mark : HasLengths controls plant → 1 ≤ at.0 → IsMark (lengths_of plant) (first_mark session at)
  first_is_mark long time =
      let there : 0 < plant.journals = omega (arith, long.journals.0) in
      let spot = spot_there plant 0 0 there (omega (arith, long.journal 0 there)) in
      record { number = omega arith; most = omega arith; state_slot = omega arith; set = spot.set; room = spot.room; next = omega arith; time = time }

  pub first_fits : NoneLent plant → (1 ≤ controls) × (controls ≤ 16) → HasLengths controls plant → 1 ≤ at.0 → FitsPlant (new_site controls plant.volumes session level at) plant
  first_fits home few long time =
      let there : 0 < plant.journals = omega (arith, long.journals.0) in
      record {
        home = home;
        controls = few;
        lengths = long;
        rows = refl;
        told = refl;
        mark = first_is_mark long time;
        session = refl;
        started = refl;
        set = there;
        room = omega (arith, long.journal 0 there);
        next = omega arith;
        time = time;
        failed = length-replicate plant.volumes false;
        written = length-replicate plant.volumes false;
        items = refl;
      }

  -- the mark with which a session starts, and what its state slot holds
  module _ (put : MarkIsPut (first_mark session at) (record { level = level; rows = [] }) plant) (shut : slice_index (plant.bytes (Journal 0)) 0 ≢ 1) (journal : IsDurable (on plant (Journal 0))) (there : 0 < plant.journals) where
    abbrev first_walk : Walk
    first_walk = record { groups = []; rows = []; entered = 0 ∷ []; at = first_spot; last = at.0; bad = None }

    chosen_there : (c : Choice) → IsChoice plant plant.clock c → chosen_mark (lengths_of plant) (c Control) ≡ Ok (Some (first_mark session at))
    chosen_there c is = ap (λ (l : List ℕ). chosen_mark (lengths_of plant) l) (put.control (c Control) (is Control tt)) ∙ put.chosen

    held_there : (c : Choice) → IsChoice plant plant.clock c → state_of plant.volumes session 0 (c State) ≡ Ok (record { level = level; rows = [] })
    held_there c is = ap (λ (l : List ℕ). state_of plant.volumes session 0 l) (put.state (c State) (is State tt)) ∙ put.holds

    first_meant : (c : Choice) → IsChoice plant plant.clock c → meaning plant c ≡ Meant (meant_for (new_site controls plant.volumes session level at)) first_walk
    first_meant c is =
        meant_at_gate (shape_of plant) c (first_mark session at) (record { level = level; rows = [] }) (chosen_there c is) (held_there c is)
        (subst (λ (l : List ℕ). slice_index l 0 ≢ 1) (sym (journal (c (Journal 0)) (is (Journal 0) there))) shut)

    pub first_means : MeansStarted plant (started_means session level at)
    first_means c is = ap sight.meant_by (first_meant c is)

    pub first_stands : SiteStands none_excepted (new_site controls plant.volumes session level at) plant
    first_stands = record {
      walk = first_walk;
      meant = first_meant;
      chosen = chosen_there;
      at = refl;
      last = refl;
      control = put.control;
      state = put.state;
      journals = λ j entered. subst (λ (k : ℕ). IsDurable (on plant (Journal k))) (only_among 0 j entered) journal;
      done = [];
      items = refl;
      applied = λ d there good x fine. refl;
      unwritten = λ d there not x has. absurd (let e : false ≡ true = has in cc e);
    }

-- ---- with the mark

module _ (tells : Type 0) (told : tells) (session : List ℕ) (level : Level) (at : Stamp) (old mid : PlantState) (shuts_works : WorksOn tells IsFormatted old mid) (shut : AllFollow (ShutsFirst (lengths_of old)) old mid) where
  -- before the mark
  pub shut_alone : AllFollow (ShutsOrMeans old (started_means session level at)) old mid
  shut_alone = all_weaker old mid _ _ shut (λ x y here step. inl step)

  module _ (new : PlantState) (is_shut : IsShut mid) (there : 2 ≤ old.journals) (puts_works : WorksOn tells IsMarked mid new)
      (puts : AllPutMark (first_mark session at) (record { level = level; rows = [] }) mid new) where
    -- No gate is open.
    no_gate : (y z : Choice) → IsChoice mid mid.clock y → chosen_mark (lengths_of mid) (z Control) ≡ chosen_mark (lengths_of mid) (y Control) → NoGateOpen (z Control)
    no_gate y z is e = (none_where (lengths_of mid) (z Control)).0 (e ∙ ap (λ (l : List ℕ). chosen_mark (lengths_of mid) l) (is_shut.control (y Control) (is Control tt)) ∙ none_of_gates (lengths_of mid) (mid.bytes Control) is_shut.gates)

    -- The first mark counts before its state, and no record stands there.
    first_seen : (y z : Choice) → IsChoice mid mid.clock y → z (Journal 0) ≡ y (Journal 0) → chosen_mark (lengths_of mid) (z Control) ≡ Ok (Some (first_mark session at)) → state_of mid.volumes session 0 (z State) ≡ Ok (record { level = level; rows = [] })
        → means_of old z ≡ Some (started_means session level at)
    first_seen y z is kept chosen holds =
        ap sight.meant_by (meant_at_gate (shape_of old) z (first_mark session at) (record { level = level; rows = [] })
        (ap (λ (l : List ℕ). chosen_mark l (z Control)) (sym (same_lengths old mid shuts_works.site)) ∙ chosen)
        (ap (λ (k : ℕ). state_of k session 0 (z State)) (sym shuts_works.site.volumes) ∙ holds)
        (subst (λ (l : List ℕ). slice_index l 0 ≢ 1) (sym (kept ∙ is_shut.journal (y (Journal 0)) (is (Journal 0) (omega (arith, there, shuts_works.site.journals))))) is_shut.first))

    pub shut_or_means : AllFollow (ShutsOrMeans old (started_means session level at)) old new
    shut_or_means =
        choices_then old mid new (ShutsFirst (lengths_of old)) (PutsMark (lengths_of mid) mid.volumes (first_mark session at) (record { level = level; rows = [] })) (ShutsOrMeans old (started_means session level at))
        ((shuts_works.elapses told).kept Control).later shut puts_works.site (puts_works.elapses told) puts
        (λ x y here step. inl step) (λ x y z here is step put. elim put.chosen [
          | inl e ↦ inl (both_shut (lengths_of old) x z (no_gate y z is e))
          | inr e ↦ inr (first_seen y z is (put.others (Journal 0) (λ no. no)) e.0 e.1)
        ])

-- What was put is the first mark after its state.
pub mark_is_put : (new : PlantState) (session : List ℕ) (level : Level) (at : Stamp) (m : Mark) (rows : List PairRow) → m ≡ first_mark session at → rows ≡ [] → MarkIsPut m (record { level = level; rows = rows }) new → MarkIsPut (first_mark session at) (record { level = level; rows = [] }) new
mark_is_put new session level at m rows is none put = subst (λ (x : Type 0). x) (λ i. MarkIsPut (is i) (record { level = level; rows = none i }) new) put

pub puts_first : (session : List ℕ) (level : Level) (at : Stamp) (m : Mark) (rows : List PairRow) (old new : PlantState) → m ≡ first_mark session at → rows ≡ [] → AllPutMark m (record { level = level; rows = rows }) old new
    → AllPutMark (first_mark session at) (record { level = level; rows = [] }) old new
puts_first session level at m rows old new is none puts = subst (λ (x : Type 0). x) (λ i. AllPutMark (is i) (record { level = level; rows = none i }) old new) puts

-- ---- causes

same_error : {T : Type 0} (r : Result T StoreError) (e f : StoreError) → r ≡ Err e → IsErrOf r f → e ≡ f
same_error r e f is named = inside (sym is ∙ named)
  where
    inside : {T : Type 0} → (let a : Result T StoreError = Err e in let b : Result T StoreError = Err f in a ≡ b) → e ≡ f
    inside same = cc

-- The gates weren't shut: the start fails by the same error.
pub shut_cause : {T U : Type 0} (old new : PlantState) (r : Result T StoreError) (s : Result U StoreError) (e : StoreError) → r ≡ Err e → s ≡ Err e → HasStartCause old new r → HasStartCause old new s
shut_cause old new r s e r_is s_is cause = record {
  fault = λ d named. cause.fault d (r_is ∙ ap Err (same_error s e (Fault d) s_is named));
  others = λ d not. cause.others d (λ named. not (s_is ∙ ap Err (same_error r e (Fault d) r_is named)));
  spent = λ named. cause.spent (r_is ∙ ap Err (same_error s e Spent s_is named));
}

-- A device is one of the store, or no mark is written on it.
store_or_not : (d : Device) → IsStore d ⊎ ¬ IsMarked d
store_or_not Control = inl tt
store_or_not State = inl tt
store_or_not (Journal j) = inl tt
store_or_not (Volume v) = inr (λ no. no)

ok_err : {T : Type 0} (r : Result T StoreError) (value : T) (e : StoreError) → r ≡ Ok value → IsErrOf r e → ⊥
ok_err r value e is named = cc

module _ (tells : Type 0) (old mid new : PlantState) (shut_same : (d : Device) → mid.faults d ≡ old.faults d) (works : WorksOn tells IsMarked mid new) (put : Result (Unit {0}) StoreError) (cause : HasStoreCause mid.faults new.faults put) where
  still : (d : Device) → ¬ IsErrOf put (Fault d) → new.faults d ≡ old.faults d
  still d not = elim (store_or_not d) [ inl store ↦ cause.counts.others d store not | inr other ↦ works.others_faults d other ] ∙ shut_same d

  -- The mark wasn't put.
  pub put_cause : {T : Type 0} (s : Result T StoreError) (e : StoreError) → put ≡ Err e → s ≡ Err e → ((d : Device) → IsErrOf put (Fault d) → IsMarked d) → ¬ IsErrOf put Spent → HasStartCause old new s
  put_cause s e put_is s_is marked unspent = record {
    fault = λ d named.
        let there : IsErrOf put (Fault d) = put_is ∙ ap Err (same_error s e (Fault d) s_is named) in
        (marked_formatted d (marked d there), subst (λ (n : ℕ). Rose n (new.faults d)) (shut_same d) (cause.counts.fault d there).1);
    others = λ d not. still d (λ named. not (s_is ∙ ap Err (same_error put e (Fault d) put_is named)));
    spent = λ named. unspent (put_is ∙ ap Err (same_error s e Spent s_is named));
  }

  -- All was.
  pub whole_cause : {T : Type 0} (s : Result T StoreError) (value : T) (unit : Unit {0}) → put ≡ Ok unit → s ≡ Ok value → HasStartCause old new s
  whole_cause s value unit put_is s_is = record {
    fault = λ d named. absurd (ok_err s value (Fault d) s_is named);
    others = λ d not. still d (λ named. ok_err put unit (Fault d) put_is named);
    spent = λ named. ok_err s value Spent s_is named;
  }
