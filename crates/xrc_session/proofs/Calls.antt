-- What calls between epochs leave of a controller's volumes.
use Rattle.std.proofs.Common.{◌≡◌, ℕ, ◌<◌, Bool, true, false, cond, not, nat_eq, ◌&&◌, ◌||◌, List, length, Option, Some, None, refl, sym, ap, subst, ◌∙◌, true≢false}
use Rattle.std.specs.List.{list_all, list_any}
use Rattle.std.specs.Option.{option_map}
use Rattle.std.proofs.lemmas.Bool.{eq-eqb, or_right}
use Rattle.std.proofs.lemmas.List.{get_or_default}
use Rattle.copy_plan.specs.Plans.{PlanState}
use Rattle.pending_queue.specs.Entries.{entry_tracks, is_copy_of, is_of_volume}
use Rattle.group_state.specs.declared.volume.Volume.{Volume}
use Rattle.group_state.specs.Volumes.{begun, dropped_volume, has_volume, passes, resumed_volume, volume_of, wants, with_volume}
use Rattle.group_state.specs.Controls.{ControlState, begun_volume, dropped, forgotten, new_control, resumed}
use Rattle.group_state.specs.Groups.{Group, control_at, with_control}
use Rattle.group_state.specs.SoundStates.{IsGroupSound, MayCarry, are_distinct, is_dropped}
use Rattle.group_state.proofs.Kept.{KeepsOne, kept_call, keeps_begun, keeps_dropped, keeps_forgotten, keeps_resumed}
use Rattle.group_state.proofs.SoundLaws.{all_filter}
use Rattle.group_state.proofs.VolumeLaws.{Keeps, found_after, found_with, found_without}
use Rattle.fed_logs.specs.Logs.{IsPlanDone}
use Rattle.fed_logs.proofs.Standing.{at_with}
use Rattle.mover.specs.OwedTracks.{is_copied_to, is_mapped, is_owed, is_volume_kept}
use Rattle.mover.proofs.Copying.{kept_after_drop}
use Rattle.xrc_session.proofs.CarriedRows.{IsOther}

-- ---- a volume that a change of its controller keeps

-- It is found as before, and copied tracks of it wait as before.
pub record KeepsOther (w : ℕ) (c d : ControlState) : Type 0 where
  pub found : volume_of w d.volumes ≡ volume_of w c.volumes
  pub copies : (x : ℕ) → list_any (is_copied_to w x) c.queue.waiting ≡ true → list_any (is_copied_to w x) d.queue.waiting ≡ true
  pub none : list_all (λ e. not (is_copy_of w e)) c.queue.waiting ≡ true → list_all (λ e. not (is_copy_of w e)) d.queue.waiting ≡ true

pub kept_other : (w : ℕ) (c d : ControlState) → KeepsOther w c d → is_volume_kept w d ≡ is_volume_kept w c
kept_other w c d h = ap (passes (λ u. true)) h.found

pub owed_other : (w x : ℕ) (c d : ControlState) → KeepsOther w c d → is_owed w x c ≡ true → is_owed w x d ≡ true
owed_other w x c d h e =
    more (passes (wants x) (volume_of w d.volumes)) (passes (is_mapped x) (volume_of w d.volumes)) (list_any (is_copied_to w x) c.queue.waiting) (list_any (is_copied_to w x) d.queue.waiting) (h.copies x)
    (ap (λ (o : Option Volume). (passes (wants x) o || list_any (is_copied_to w x) c.queue.waiting) || passes (is_mapped x) o) h.found ∙ e)
  where
    more : (a m p q : Bool) → (p ≡ true → q ≡ true) → ((a || p) || m) ≡ true → ((a || q) || m) ≡ true
    more true m p q up e = refl
    more false m true q up e = ap (λ (b : Bool). b || m) (up refl)
    more false m false q up e = or_right q m e

pub plan_other : (w : ℕ) (c d : ControlState) → KeepsOther w c d → IsPlanDone w c → IsPlanDone w d
plan_other w c d h done = record {
  carried = ap (passes (λ u. u.carried)) h.found ∙ done.carried;
  unwanted = λ x. ap (passes (wants x)) h.found ∙ done.unwanted x;
  copies = h.none done.copies;
}

same_other : (w : ℕ) (c : ControlState) → KeepsOther w c c
same_other w c = record { found = refl; copies = λ x e. e; none = λ e. e }

-- ---- each call

-- what a change of one volume leaves of another, and of itself
found_apart : (v w : ℕ) (change : Volume → Volume) → Keeps change → nat_eq v w ≡ false → (volumes : List Volume) → volume_of w (with_volume v change volumes) ≡ volume_of w volumes
found_apart v w change keeps apart volumes = found_with v w change keeps volumes ∙ ap (λ (t : Bool). cond t (option_map change (volume_of w volumes)) (volume_of w volumes)) apart

found_itself : (v : ℕ) (change : Volume → Volume) → Keeps change → (volumes : List Volume) → volume_of v (with_volume v change volumes) ≡ option_map change (volume_of v volumes)
found_itself v change keeps volumes = found_with v v change keeps volumes ∙ ap (λ (t : Bool). cond t (option_map change (volume_of v volumes)) (volume_of v volumes)) (eq-eqb v v refl)

pub drop_other : (v w : ℕ) (all : Bool) (c : ControlState) → nat_eq v w ≡ false → KeepsOther w c (dropped v all c)
drop_other v w all c apart = record {
  found = found_apart v w (dropped_volume all (entry_tracks v c.queue.waiting)) (λ u. refl) apart c.volumes;
  copies = λ x e. kept_after_drop v w x apart c.queue.waiting e;
  none = λ e. all_filter (λ entry. not (is_copy_of w entry)) (λ entry. not (is_of_volume v entry)) c.queue.waiting e;
}

pub drop_itself : (v : ℕ) (all : Bool) (c : ControlState) → volume_of v (dropped v all c).volumes ≡ option_map (dropped_volume all (entry_tracks v c.queue.waiting)) (volume_of v c.volumes)
drop_itself v all c = found_itself v (dropped_volume all (entry_tracks v c.queue.waiting)) (λ u. refl) c.volumes

pub resume_other : (v w : ℕ) (c : ControlState) → nat_eq v w ≡ false → KeepsOther w c (resumed v c)
resume_other v w c apart = record { found = found_apart v w resumed_volume (λ u. refl) apart c.volumes; copies = λ x e. e; none = λ e. e }

pub resume_itself : (v : ℕ) (c : ControlState) → volume_of v (resumed v c).volumes ≡ option_map resumed_volume (volume_of v c.volumes)
resume_itself v c = found_itself v resumed_volume (λ u. refl) c.volumes

pub forget_other : (v w : ℕ) (c : ControlState) → are_distinct c.volumes ≡ true → nat_eq v w ≡ false → KeepsOther w c (forgotten v c)
forget_other v w c distinct apart = record { found = found_without v w c.volumes distinct ∙ ap (λ (t : Bool). cond t None (volume_of w c.volumes)) apart; copies = λ x e. e; none = λ e. e }

pub forget_itself : (v : ℕ) (c : ControlState) → are_distinct c.volumes ≡ true → volume_of v (forgotten v c).volumes ≡ None
forget_itself v c distinct = found_without v v c.volumes distinct ∙ ap (λ (t : Bool). cond t None (volume_of v c.volumes)) (eq-eqb v v refl)

pub begin_other : (v w : ℕ) (plan : PlanState) (c : ControlState) → has_volume v c.volumes ≡ false → nat_eq v w ≡ false → KeepsOther w c (begun_volume v plan c)
begin_other v w plan c unknown apart =
    record { found = found_after w c.volumes (begun v plan) unknown ∙ ap (λ (t : Bool). cond t (Some (begun v plan)) (volume_of w c.volumes)) apart; copies = λ x e. e; none = λ e. e }

pub begin_itself : (v : ℕ) (plan : PlanState) (c : ControlState) → has_volume v c.volumes ≡ false → volume_of v (begun_volume v plan c).volumes ≡ Some (begun v plan)
begin_itself v plan c unknown = found_after v c.volumes (begun v plan) unknown ∙ ap (λ (t : Bool). cond t (Some (begun v plan)) (volume_of v c.volumes)) (eq-eqb v v refl)

-- ---- the state

-- what a change of a controller leaves of every other volume of the state
pub other_at : (s : Group) (k v j w : ℕ) (change : ControlState → ControlState) → ((u : ℕ) → nat_eq v u ≡ false → KeepsOther u (control_at s k) (change (control_at s k))) → IsOther k v j w → j < length s.controls
    → KeepsOther w (control_at s j) (control_at (with_control k change s) j)
other_at s k v j w change keeps other low = at_with s k j change (KeepsOther w (control_at s j)) low
    (λ is. subst (λ (i : ℕ). KeepsOther w (control_at s i) (change (control_at s i))) is (keeps w (sym (ap (λ (b : Bool). b && nat_eq v w) (eq-eqb k j is)) ∙ other)))
    (λ apart. same_other w (control_at s j))

-- the controller itself, changed
pub own_is : (s : Group) (k : ℕ) (change : ControlState → ControlState) → k < length s.controls → control_at (with_control k change s) k ≡ change (control_at s k)
own_is s k change low = at_with s k k change (λ (c : ControlState). c ≡ change (control_at s k)) low (λ is. refl) (λ apart. absurd (true≢false (sym (eq-eqb k k refl) ∙ apart)))

keeps_with : (s : Group) (k : ℕ) (change : ControlState → ControlState) → IsGroupSound s → k < length s.controls → KeepsOne s.last (change (control_at s k)) (control_at s k) → IsGroupSound (with_control k change s)
keeps_with s k change keeps low one = kept_call s s k (change (control_at s k)) (control_at s k) keeps refl low (get_or_default s.controls k (new_control 0 0 0) (control_at s k) low) (λ e. one)

pub keeps_drop : (s : Group) (k v : ℕ) (all : Bool) → k < length s.controls → IsGroupSound s → IsGroupSound (with_control k (dropped v all) s)
keeps_drop s k v all low keeps = keeps_with s k (dropped v all) keeps low (keeps_dropped s.last v all (control_at s k))

pub keeps_resume : (s : Group) (k v : ℕ) → k < length s.controls → is_dropped v (control_at s k).volumes ≡ true → IsGroupSound s → IsGroupSound (with_control k (resumed v) s)
keeps_resume s k v low gone keeps = keeps_with s k (resumed v) keeps low (keeps_resumed s.last v (control_at s k) gone)

pub keeps_forget : (s : Group) (k v : ℕ) → k < length s.controls → is_dropped v (control_at s k).volumes ≡ true → IsGroupSound s → IsGroupSound (with_control k (forgotten v) s)
keeps_forget s k v low gone keeps = keeps_with s k (forgotten v) keeps low (keeps_forgotten s.last v (control_at s k) gone)

pub keeps_begin : (s : Group) (k v : ℕ) (plan : PlanState) → k < length s.controls → MayCarry (control_at s k) v plan → IsGroupSound s → IsGroupSound (with_control k (begun_volume v plan) s)
keeps_begin s k v plan low may keeps = keeps_with s k (begun_volume v plan) keeps low (keeps_begun s.last v plan (control_at s k) may)
