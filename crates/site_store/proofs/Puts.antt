-- The moments of a state and of the mark after it, over plain states.
use Rattle.std.proofs.Common.{◌≡◌, ◌≢◌, ◌≤◌, inl, inr, ℕ, ◌+◌, ◌-◌, ◌^◌, List, [], ◌∷◌, ◌++◌, length, take, drop, slice_index, Bool, true, false, cond, Option, Some, None, Result, Ok, Err, refl, sym, ap, subst, ◌∙◌, arith, length-append, append_assoc, length-take, get_or-take}
use Rattle.std.specs.Prelude.{IsTrue, bytes_eq, codes}
use Rattle.std.specs.Int.{w16, w64, to_be_bytes}
use Rattle.std.proofs.lemmas.Bool.{and_parts, cases_eq}
use Rattle.std.proofs.lemmas.List.{get_or-drop}
use Rattle.crash_plant.specs.declared.device.Device.{Device}
use Rattle.crash_plant.specs.declared.device.Device.TheVariants.{Control, State}
use Rattle.crash_plant.specs.Choices.{Choice, IsChoice, AllFollow}
use Rattle.crash_plant.specs.Moments.{PlantState, on, Follows, IsDurable}
use Rattle.crash_plant.specs.Calls.{WorksOn}
use Rattle.crash_plant.specs.Bytes.{patched}
use Rattle.crash_plant.proofs.Choices.{choices_then, works_on_choices}
use Rattle.crash_plant.proofs.Patches.{patched_torn}
use Rattle.tod_stamp.specs.Fields.{u64_at, within}
use Rattle.tod_stamp.specs.Names.{before_spaces, is_field, is_name, is_session, session_field}
use Rattle.tod_stamp.proofs.NameLaws.{length-name_field}
use Rattle.control_set.specs.declared.value.Mark.{Mark}
use Rattle.control_set.specs.Marks.{flag, mark_spelling}
use Rattle.control_set.specs.Places.{keeps, mark_in, session_at}
use Rattle.control_set.specs.Slots.{NoGateOpen, OldOrNew, chosen_mark, chosen_of, free_place, is_second_free, lengths_of, place_of_slot, slot_of}
use Rattle.control_set.proofs.Reading.{closed_is, first_part, open_is}
use Rattle.control_set.proofs.Lengths.{same_lengths}
use Rattle.state_set.specs.Slots.{OneSlot, Stored, state_of}
use Rattle.site_store.specs.Marking.{IsMarked, PutsMark}
use Rattle.site_store.proofs.Calls.{all_weaker}

-- what isn't marked is another device
not_control : (d : Device) → ¬ IsMarked d → d ≢ Control
not_control d other is = other (subst (λ (e : Device). IsMarked e) (sym is) tt)

not_state : (d : Device) → ¬ IsMarked d → d ≢ State
not_state d other is = other (subst (λ (e : Device). IsMarked e) (sym is) tt)

pub control_marked : (d : Device) → d ≡ Control → IsMarked d
control_marked d is = subst (λ (e : Device). IsMarked e) (sym is) tt

pub state_marked : (d : Device) → d ≡ State → IsMarked d
state_marked d is = subst (λ (e : Device). IsMarked e) (sym is) tt

module _ (tells : Type 0) (told : tells) (old mid : PlantState) (m : Mark) (s : Stored) (n : ℕ) (put_works : WorksOn tells (λ d. d ≡ State) old mid) (put_moments : Follows (OneSlot m.state_slot n) (on old State) (on mid State)) where
  -- The state alone was written.
  abbrev PutsState : Choice → Choice → Type 0
  PutsState b c = OneSlot m.state_slot n (b State) (c State) × ((d : Device) → d ≢ State → c d ≡ b d)

  put_choices : AllFollow PutsState old mid
  put_choices = works_on_choices tells told State (OneSlot m.state_slot n) old mid tt put_works put_moments

  state_put : (x y : Choice) → IsChoice old old.clock x → PutsState x y → PutsMark (lengths_of old) old.volumes m s x y
  state_put x y here step = record {
    chosen = inl (ap (λ (l : List ℕ). chosen_mark (lengths_of old) l) (step.1 Control (λ same. cc same)));
    state = λ session slot low other. step.0.others old.volumes session slot low other;
    others = λ d other. step.1 d (not_state d other);
  }

  pub puts_state : AllFollow (PutsMark (lengths_of old) old.volumes m s) old mid
  puts_state = all_weaker old mid PutsState (PutsMark (lengths_of old) old.volumes m s) put_choices state_put

  module _ (new : PlantState) (place : ℕ) (holds : state_of mid.volumes m.session m.state_slot (mid.bytes State) ≡ Ok s) (durable : IsDurable (on mid State))
      (mark_works : WorksOn tells (λ d. d ≡ Control) mid new) (mark_moments : Follows (OldOrNew (lengths_of mid) m place) (on mid Control) (on new Control)) where
    -- Then the control alone was written.
    abbrev MarksControl : Choice → Choice → Type 0
    MarksControl b c = OldOrNew (lengths_of mid) m place (b Control) (c Control) × ((d : Device) → d ≢ Control → c d ≡ b d)

    mark_choices : AllFollow MarksControl mid new
    mark_choices = works_on_choices tells told Control (OldOrNew (lengths_of mid) m place) mid new tt mark_works mark_moments

    both_put : (x y z : Choice) → IsChoice old old.clock x → IsChoice mid mid.clock y → PutsState x y → MarksControl y z → PutsMark (lengths_of old) old.volumes m s x z
    both_put x y z here there one two =
        let lens = same_lengths old mid put_works.site in
        let control : y Control ≡ x Control = one.1 Control (λ same. cc same) in
        let state : z State ≡ y State = two.1 State (λ same. cc same) in
        let stands : y State ≡ mid.bytes State = durable (y State) (there State tt) in
        record {
          chosen = elim two.0.chosen [
            | inl is ↦ inl (ap (λ (l : List ℕ). chosen_mark l (z Control)) (sym lens) ∙ is ∙ ap (λ (l : List ℕ). chosen_mark l (y Control)) lens ∙ ap (λ (l : List ℕ). chosen_mark (lengths_of old) l) control)
            | inr is ↦ inr (
              ap (λ (l : List ℕ). chosen_mark l (z Control)) (sym lens) ∙ is,
              ap (λ (k : ℕ). state_of k m.session m.state_slot (z State)) (sym put_works.site.volumes) ∙ ap (λ (l : List ℕ). state_of mid.volumes m.session m.state_slot l) (state ∙ stands) ∙ holds,
            )
          ];
          state = λ session slot low other. ap (λ (l : List ℕ). state_of old.volumes session slot l) state ∙ one.0.others old.volumes session slot low other;
          others = λ d other. two.1 d (not_control d other) ∙ one.1 d (not_state d other);
        }

    pub puts_both : AllFollow (PutsMark (lengths_of old) old.volumes m s) old new
    puts_both = choices_then old mid new PutsState MarksControl (PutsMark (lengths_of old) old.volumes m s) ((put_works.elapses told).kept State).later put_choices mark_works.site (mark_works.elapses told) mark_choices state_put both_put

-- A slot that holds a mark or is damaged holds it where a damaged one can't be.
is_kept : {S : Type 0} (slot held damaged : S) (k : Bool) (P : S → Type 0) → slot ≡ cond k held damaged → P slot → (P damaged → ⊥) → (k ≡ true) × P held
is_kept slot held damaged true P is here never = (refl, subst P is here)
is_kept slot held damaged false P is here never = absurd (never (subst P is here))

-- The mark of a slot, read with the other slot closed, has a session that is a name.
session_held : (lengths z : List ℕ) (m : Mark) → 49 ≤ length z → chosen_of (slot_of lengths z) (slot_of lengths []) ≡ Ok (Some m) → IsTrue (is_session m.session)
session_held lengths z m long is =
    elim (cases_eq (slice_index z 0) 1) [
      | inr shut ↦ absurd (not_none (sym (ap (λ s. chosen_of s (slot_of lengths [])) (closed_is lengths z shut)) ∙ is))
      | inl on ↦ by_kept (is_kept (slot_of lengths z) _ _ (keeps lengths front) (λ s. chosen_of s (slot_of lengths []) ≡ Ok (Some m))
          (sym (first_part lengths z) ∙ open_is lengths front (omega (arith, long, length-take 49 z)) (get_or-take 49 z 0 0 (omega arith) ∙ on)) is not_damaged)
    ]
  where
    front : List ℕ
    front = take 49 z

    not_none : (let none : Result (Option Mark) ℕ = Ok None in none ≡ Ok (Some m)) → ⊥
    not_none e = cc

    not_damaged : (let damaged : Result (Option Mark) ℕ = Err 0 in damaged ≡ Ok (Some m)) → ⊥
    not_damaged e = cc

    mark_or : Result (Option Mark) ℕ → Mark
    mark_or (Ok (Some n)) = n
    mark_or (Ok None) = m
    mark_or (Err place) = m

    by_kept : (keeps lengths front ≡ true) × (let found : Result (Option Mark) ℕ = Ok (Some (mark_in front)) in found ≡ Ok (Some m)) → IsTrue (is_session m.session)
    by_kept kept =
        let second = (and_parts (bytes_eq (codes "XCTL") (take 4 (drop 1 front))) _ kept.0).1 in
        let third = (and_parts (within 1 (2 ^ 64 - 2) (u64_at front 5)) _ second).1 in
        let field = (and_parts (is_field 8 (session_at front)) _ third).0 in
        let name = (and_parts (is_name 8 (before_spaces (session_at front))) _ field).0 in
        subst (λ (n : Mark). IsTrue (is_session n.session)) (ap mark_or kept.1) name

-- A mark's bytes are 48, since its session is a name.
spelled_length : (m : Mark) → IsTrue (is_session m.session) → length (mark_spelling m) ≡ 48
spelled_length m name =
    ap length (nested m) ∙ omega (arith, length-name_field 8 m.session name, length-append (session_field m.session) (back m))
  where
    back : Mark → List ℕ
    back m = m.state_slot ∷ (to_be_bytes w16 m.at.set ++ (to_be_bytes w64 m.at.place ++ (to_be_bytes w64 m.at.number ++ (to_be_bytes w64 m.time.0 ++ (flag m.ended ∷ [])))))

    nested : (m : Mark) → mark_spelling m ≡ codes "XCTL" ++ (to_be_bytes w64 m.number ++ (session_field m.session ++ back m))
    nested m = simp append_assoc refl

-- With no gate open the mark goes to the first slot, and the gate of the second stays.
pub second_stays : (lengths : List ℕ) (m : Mark) (x y z : List ℕ) → 1024 ≤ length x → 1024 ≤ length z → NoGateOpen x → y ≡ x → (NoGateOpen y → chosen_of (slot_of lengths z) (slot_of lengths []) ≡ Ok (Some m)) → z ≡ patched (free_place lengths y) (1 ∷ mark_spelling m) y → slice_index z 512 ≡ slice_index x 512
second_stays lengths m x y z long long_then gates same held put =
    let gates_then : NoGateOpen y = subst NoGateOpen (sym same) gates in
    let first : free_place lengths y ≡ 0 = λ i. place_of_slot (is_second_free (closed_is lengths y gates_then.first i) (slot_of lengths (drop 512 y))) in
    let name = session_held lengths z m (omega (arith, long_then)) (held gates_then) in
    let size : length (1 ∷ mark_spelling m) ≡ 49 = omega (arith, spelled_length m name) in
    let torn = patched_torn 0 (1 ∷ mark_spelling m) y z (omega (arith, size, long, ap length same)) (subst (λ (k : ℕ). z ≡ patched k (1 ∷ mark_spelling m) y) first put) in
    let end : 0 + length (1 ∷ mark_spelling m) ≡ 49 = omega (arith, size) in
    let after : drop 49 z ≡ drop 49 y = subst (λ (n : ℕ). drop n z ≡ drop n y) end torn.after in
    sym (get_or-drop 49 z 463 0) ∙ ap (λ (l : List ℕ). slice_index l 463) after ∙ get_or-drop 49 y 463 0 ∙ ap (λ (l : List ℕ). slice_index l 512) same
