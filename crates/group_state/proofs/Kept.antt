-- Each call leaves a group state sound.
use Rattle.std.proofs.Common.{◌≡◌, ℕ, zero, suc, ◌+◌, ◌≤◌, ◌<◌, Bool, true, false, not, ◌||◌, ◌&&◌, cond, min, nat_eq, nat_le, List, [], ◌∷◌, length, get_or, set, map, Ok, Err, refl, sym, ap, subst, ◌∙◌, arith}
use Rattle.std.specs.Prelude.{Result, OnOk, OnErr, fold}
use Rattle.std.specs.List.{list_all}
use Rattle.std.proofs.lemmas.Bool.{and_parts, and_from, leb-true, le-leb}
use Rattle.std.proofs.lemmas.List.{get_or_default}
use Rattle.std.proofs.lemmas.List.Elements.{All-set, All-map, All-get_or, All-from_get_or}
use Rattle.ckd_track.specs.declared.layout.TheConstants.{WRITES_OF_RUN}
use Rattle.tod_stamp.specs.declared.stamp.Stamp.{Stamp}
use Rattle.xrc_edge.specs.declared.limits.TheConstants.{MOST_CONTROLS}
use Rattle.ckd_track.specs.declared.rec.Rec.{Rec}
use Rattle.ckd_track.specs.declared.write.Batch.{Batch}
use Rattle.ckd_track.specs.declared.write.Cause.{Cause}
use Rattle.copy_plan.specs.Plans.{PlanState}
use Rattle.group_state.specs.declared.phase.Phase.{Phase}
use Rattle.group_state.specs.declared.phase.Phase.TheVariants.{Unbroken, Broken, Reported}
use Rattle.group_state.specs.Volumes.{is_wanted}
use Rattle.group_state.specs.Controls.{ControlState, new_control, counts, fits, fits_track, is_reporting, lesser, phase_after, joined, copied, raised, broke, begun_volume, dropped, resumed, forgotten, formed}
use Rattle.group_state.specs.Groups.{Group, new_controls, control_at, with_control, cut_of, formed_at}
use Rattle.group_state.specs.Machine.{Call, group_after}
use Rattle.group_state.specs.Machine.Call.{Join, NextWanted, Copied, Raise, Break, Form, Carry, Drop, Resume, Forget}
use Rattle.group_state.specs.Runs.{May}
use Rattle.group_state.specs.SoundStates.{Sound, has_reported, IsGroupSound, is_track_within, MayReport, MayJoin, MayCarry, is_dropped}
use Rattle.group_state.proofs.SoundLaws.{sound_joined, sound_copied, sound_raised, sound_broke, sound_begun, sound_dropped, sound_resumed, sound_forgotten}
use Rattle.group_state.proofs.FormLaws.{all_at, sound_formed}
use Rattle.group_state.proofs.GroupLaws.{SameQueue, same_queue, kept_change, kept_formed, kept_new, length_new}
use Rattle.group_state.proofs.Stands.{new_at, new_sound}

-- ---- one controller

-- What a change of a controller keeps, of what makes a group state sound.
pub record KeepsOne (cut : Stamp) (new old : ControlState) : Type 0 where
  pub same : SameQueue new old
  pub sound : Sound old → Sound new
  pub told : has_reported cut old ≡ true → has_reported cut new ≡ true

pub keeps_old : (cut : Stamp) (new old : ControlState) → new ≡ old → KeepsOne cut new old
keeps_old cut new old e = subst (λ (c : ControlState). KeepsOne cut c old) (sym e) (record { same = same_queue old old refl; sound = λ s. s; told = λ t. t })

pub keeps_then : (cut : Stamp) (new then old : ControlState) → new ≡ then → KeepsOne cut then old → KeepsOne cut new old
keeps_then cut new then old e k = subst (λ (c : ControlState). KeepsOne cut c old) (sym e) k

pub keeps_result : {A E : Type 0} (cut : Stamp) (r : Result A E) (new then old : ControlState) → OnOk r (new ≡ then) → OnErr r (new ≡ old) → KeepsOne cut then old → KeepsOne cut new old
keeps_result cut (Ok a) new then old ok err k = keeps_then cut new then old ok k
keeps_result cut (Err e) new then old ok err k = keeps_old cut new old err

-- a controller that counts no longer than before, and has reported no less
told_up : (counted counts : Bool) (cut floor upto : ℕ) → floor ≤ upto → (counts ≡ true → counted ≡ true) → (not counted || nat_le cut floor) ≡ true → (not counts || nat_le cut upto) ≡ true
told_up counted false cut floor upto up still told = refl
told_up counted true cut floor upto up still told = le-leb cut upto (omega (arith, up, leb-true cut floor (ap (λ b. not b || nat_le cut floor) (sym (still refl)) ∙ told)))

reporting_counts : (phase : Phase) → is_reporting phase ≡ true → counts phase ≡ true
reporting_counts Unbroken e = refl
reporting_counts (Broken cause) e = absurd cc
reporting_counts Reported e = absurd cc

pub keeps_joined : (cut : Stamp) (b : Batch) (c : ControlState) → MayJoin c b → KeepsOne cut (joined b c) c
keeps_joined cut b c may = record {
  same = record { control = refl; records = refl };
  sound = λ s. sound_joined b c s may;
  told = told_up (counts c.phase) (counts c.phase) cut.0 c.floor.0 b.upto.0 may.tells.up (λ e. e);
}

pub keeps_copied : (cut : Stamp) (v x : ℕ) (at : Stamp) (recs : List Rec) (c : ControlState) → at ≡ c.floor → is_wanted v x c.volumes ≡ true → is_track_within c.volumes v x ≡ true → KeepsOne cut (copied v x at recs c) c
keeps_copied cut v x at recs c floor wanted within = record { same = record { control = refl; records = refl }; sound = λ s. sound_copied v x at recs c s floor wanted within; told = λ t. t }

pub keeps_raised : (cut : Stamp) (upto : Stamp) (c : ControlState) → MayReport c upto → KeepsOne cut (raised upto c) c
keeps_raised cut upto c may = record {
  same = record { control = refl; records = refl };
  sound = λ s. sound_raised upto c s may;
  told = told_up (counts c.phase) (counts c.phase) cut.0 c.floor.0 upto.0 may.up (λ e. e);
}

pub keeps_broke : (cut : Stamp) (upto : Stamp) (cause : Cause) (c : ControlState) → MayReport c upto → KeepsOne cut (broke upto cause c) c
keeps_broke cut upto cause c may = record {
  same = record { control = refl; records = refl };
  sound = λ s. sound_broke upto cause c s may;
  told = told_up (counts c.phase) true cut.0 c.floor.0 upto.0 may.up (λ e. reporting_counts c.phase may.reporting);
}

pub keeps_begun : (cut : Stamp) (v : ℕ) (plan : PlanState) (c : ControlState) → MayCarry c v plan → KeepsOne cut (begun_volume v plan c) c
keeps_begun cut v plan c may = record { same = record { control = refl; records = refl }; sound = λ s. sound_begun v plan c s may; told = λ t. t }

pub keeps_dropped : (cut : Stamp) (v : ℕ) (all : Bool) (c : ControlState) → KeepsOne cut (dropped v all c) c
keeps_dropped cut v all c = record { same = record { control = refl; records = refl }; sound = sound_dropped v all c; told = λ t. t }

pub keeps_resumed : (cut : Stamp) (v : ℕ) (c : ControlState) → is_dropped v c.volumes ≡ true → KeepsOne cut (resumed v c) c
keeps_resumed cut v c gone = record { same = record { control = refl; records = refl }; sound = λ s. sound_resumed v c s gone; told = λ t. t }

pub keeps_forgotten : (cut : Stamp) (v : ℕ) (c : ControlState) → is_dropped v c.volumes ≡ true → KeepsOne cut (forgotten v c) c
keeps_forgotten cut v c gone = record { same = record { control = refl; records = refl }; sound = λ s. sound_forgotten v c s gone; told = λ t. t }

-- ---- a call on one controller

all_set : {A : Type 0} (test : A → Bool) (items : List A) (k : ℕ) (a : A) → test a ≡ true → list_all test items ≡ true → list_all test (set items k a) ≡ true
all_set test [] k a here e = refl
all_set test (x ∷ items) zero a here e = and_from (test a) (list_all test items) here (and_parts (test x) (list_all test items) e).1
all_set test (x ∷ items) (suc k) a here e =
    let parts = and_parts (test x) (list_all test items) e in
    and_from (test x) (list_all test (set items k a)) parts.0 (all_set test items k a here parts.1)

-- the controller that is read at a number of a state
pub control_here : (s now : Group) (k : ℕ) (old : ControlState) → s ≡ now → k < length now.controls → old ≡ get_or s.controls k old → old ≡ control_at now k
control_here s now k old is below here =
    here ∙ get_or_default s.controls k old (new_control 0 0 0) (omega (arith, below, ap (λ (g : Group). length g.controls) is)) ∙ ap (λ (g : Group). control_at g k) is

-- A state is left sound where what is read at a number of it is changed there.
pub kept_call : (s now : Group) (k : ℕ) (new old : ControlState) → IsGroupSound s → s ≡ now → k < length now.controls → old ≡ get_or s.controls k old → (old ≡ control_at now k → KeepsOne s.last new old)
    → IsGroupSound (record { controls = set s.controls k new; last = s.last })
kept_call s now k new old keeps is below here change =
    let lt : k < length s.controls = omega (arith, below, ap (λ (g : Group). length g.controls) is) in
    let one = change (control_here s now k old is below here) in
    record {
      controls_kept = kept_change s.controls k new old keeps.controls_kept lt here one.same;
      sound = All-set Sound s.controls k new (one.sound (subst Sound (sym here) (All-get_or Sound s.controls k old lt keeps.sound))) keeps.sound;
      told = all_set (has_reported s.last) s.controls k new (one.told (ap (has_reported s.last) here ∙ all_at (has_reported s.last) s.controls k old keeps.told lt)) keeps.told;
    }

-- ---- a form

pub least_within : (limit : ℕ) (controls : List ControlState) → fold lesser limit controls ≤ limit
least_within limit [] = omega arith
least_within limit (c ∷ controls) = omega (arith, least_within (lesser limit c) controls, less (counts c.phase))
  where
    less : (t : Bool) → cond t (min limit c.floor.0) limit ≤ limit
    less true = omega arith
    less false = omega arith

-- the cut is at most the floor of each controller that counts
told_formed : (cut : Stamp) (limit : ℕ) (controls : List ControlState) → cut.0 ≤ fold lesser limit controls → list_all (has_reported cut) (map (formed cut) controls) ≡ true
told_formed cut limit [] le = refl
told_formed cut limit (c ∷ controls) le =
    and_from (has_reported cut (formed cut c)) (list_all (has_reported cut) (map (formed cut) controls))
    (here c.phase (omega (arith, le, least_within (lesser limit c) controls))) (told_formed cut (lesser limit c) controls le)
  where
    up : cut.0 ≤ min limit c.floor.0 → nat_le cut.0 c.floor.0 ≡ true
    up le = le-leb cut.0 c.floor.0 (omega (arith, le))

    here : (phase : Phase) → cut.0 ≤ cond (counts phase) (min limit c.floor.0) limit → (not (counts (phase_after cut c.floor phase)) || nat_le cut.0 c.floor.0) ≡ true
    here Unbroken le = up le
    here Reported le = refl
    here (Broken cause) le = choose (nat_eq c.floor.0 cut.0)
      where
        choose : (t : Bool) → (let after : Phase = cond t Reported (Broken cause) in (not (counts after) || nat_le cut.0 c.floor.0) ≡ true)
        choose true = refl
        choose false = up le

pub kept_form : (s : Group) (limit : ℕ) (cut : Stamp) → cut.0 ≡ fold lesser limit s.controls → IsGroupSound s → IsGroupSound (formed_at cut s)
kept_form s limit cut is keeps = record {
  controls_kept = kept_formed cut s.controls keeps.controls_kept;
  sound = All-map Sound (formed cut) s.controls (All-from_get_or (λ (c : ControlState). Sound (formed cut c)) s.controls (new_control 0 0 0)
      (λ i lt. sound_formed cut (control_at s i) (All-get_or Sound s.controls i (new_control 0 0 0) lt keeps.sound)));
  told = told_formed cut limit s.controls (omega (arith, is));
}

pub kept_with : (s : Group) (k : ℕ) (change : ControlState → ControlState) → IsGroupSound s → k < length s.controls → KeepsOne s.last (change (control_at s k)) (control_at s k) → IsGroupSound (with_control k change s)
kept_with s k change keeps low one = kept_call s s k (change (control_at s k)) (control_at s k) keeps refl low (get_or_default s.controls k (new_control 0 0 0) (control_at s k) low) (λ e. one)

-- ---- each call

pub kept_next : (s : Group) (call : Call) → IsGroupSound s → May s call → IsGroupSound (group_after s call)
kept_next s (Join b) keeps may = choose (fits (control_at s b.control) b)
  where
    choose : (t : Bool) → IsGroupSound (cond t (with_control b.control (joined b) s) s)
    choose true = kept_with s b.control (joined b) keeps may.control (keeps_joined s.last b (control_at s b.control) may.legal)
    choose false = keeps
kept_next s (NextWanted k) keeps may = keeps
kept_next s (Copied k v x at slot) keeps may = choose (is_wanted v x (control_at s k).volumes) (fits_track (control_at s k) slot) refl
  where
    choose : (t u : Bool) → is_wanted v x (control_at s k).volumes ≡ t → IsGroupSound (cond (t && u) (with_control k (copied v x at slot) s) s)
    choose true true wanted = kept_with s k (copied v x at slot) keeps may.0 (keeps_copied s.last v x at slot (control_at s k) may.1.floor wanted may.1.track)
    choose true false wanted = keeps
    choose false u wanted = keeps
kept_next s (Raise k upto) keeps may = kept_with s k (raised upto) keeps may.0 (keeps_raised s.last upto (control_at s k) may.1)
kept_next s (Break k upto cause) keeps may = kept_with s k (broke upto cause) keeps may.0 (keeps_broke s.last upto cause (control_at s k) may.1)
kept_next s (Form limit) keeps may = kept_form s limit.0 (cut_of s limit) refl keeps
kept_next s (Carry k v plan) keeps may = kept_with s k (begun_volume v plan) keeps may.0 (keeps_begun s.last v plan (control_at s k) may.1)
kept_next s (Drop k v all) keeps may = kept_with s k (dropped v all) keeps may (keeps_dropped s.last v all (control_at s k))
kept_next s (Resume k v) keeps may = kept_with s k (resumed v) keeps may.0 (keeps_resumed s.last v (control_at s k) may.1)
kept_next s (Forget k v) keeps may = kept_with s k (forgotten v) keeps may.0 (keeps_forgotten s.last v (control_at s k) may.1)

-- ---- the first state

told_new : (n first records blocks : ℕ) → list_all (has_reported (record { 0 = 0 })) (new_controls n first records blocks) ≡ true
told_new zero first records blocks = refl
told_new (suc n) first records blocks = told_new n (first + 1) records blocks

pub kept_first : (n records blocks : ℕ) → 1 ≤ n → n ≤ MOST_CONTROLS → records ≤ WRITES_OF_RUN → IsGroupSound (record { controls = new_controls n 0 records blocks; last = record { 0 = 0 } })
kept_first n records blocks some few le = record {
  controls_kept = kept_new n records blocks some few le;
  sound = All-from_get_or Sound (new_controls n 0 records blocks) (new_control 0 0 0)
      (λ i lt. subst Sound (sym (new_at n 0 records blocks i (new_control 0 0 0) (omega (arith, lt, length_new n 0 records blocks)))) (new_sound (0 + i) records blocks));
  told = told_new n 0 records blocks;
}
