-- A volume that is kept has as many tracks as the run reported when it last began to be carried.
use Rattle.std.proofs.Common.{inl, inr, ◌≡◌, ℕ, zero, suc, ◌+◌, ◌<◌, Bool, true, false, cond, nat_eq, ◌&&◌, List, [], ◌∷◌, ◌++◌, length, get_or, map, Some, None, refl, sym, ap, subst, ◌∙◌, arith, append_assoc, append-nil, length-set}
use Rattle.std.specs.Prelude.{◌==◌}
use Rattle.std.proofs.lemmas.Bool.{cases_lt, eq-eqb}
use Rattle.std.proofs.lemmas.List.{get_or-map, get_or_past, length-map, length-replicate}
use Rattle.std.proofs.lemmas.List.Sums.{fold_push}
use Rattle.std.proofs.lemmas.List.Elements.{filter_map-append}
use Rattle.tod_stamp.specs.declared.stamp.Stamp.{Stamp}
use Rattle.ckd_track.specs.declared.write.Write.{Write}
use Rattle.change_map.specs.Sets.{with_track}
use Rattle.copy_plan.specs.Plans.{PlanState}
use Rattle.pending_queue.specs.Entries.{WaitingEntry, entry_tracks, copies}
use Rattle.group_state.specs.declared.volume.Volume.{Volume}
use Rattle.group_state.specs.Volumes.{volume_of, has_volume, with_volume, without_number, begun, noted_write, with_write, with_writes, copied_track, formed_track, with_formed_copies, dropped_volume, resumed_volume, is_wanted}
use Rattle.group_state.specs.Controls.{ControlState, new_control, fits, fits_track, joined, copied, raised, broke, begun_volume, dropped, resumed, forgotten, formed, due_of}
use Rattle.group_state.specs.Groups.{Group, new_controls, new_group, control_at, with_control, cut_of, formed_at}
use Rattle.group_state.specs.SoundStates.{passes_or_none, are_distinct, Sound}
use Rattle.group_state.specs.Machine.{Call, group_after, reply_to, steps}
use Rattle.group_state.specs.Machine.Call.{Join, NextWanted, Copied, Raise, Break, Form, Carry, Drop, Resume, Forget}
use Rattle.group_state.specs.Machine.Reply.{Made}
use Rattle.group_state.proofs.VolumeLaws.{same_or_none, found_after, found_without}
use Rattle.group_state.proofs.SoundLaws.{length_dropped}
use Rattle.group_state.specs.Runs.{Answer, May, Runs, event_of, history}
use Rattle.group_state.specs.HistoryLaws.{tracks_by, tracks_reported}
use Rattle.group_state.proofs.Shares.{written_number}
use Rattle.group_state.proofs.Stands.{Stands, at_each}
use Rattle.group_state.proofs.Steps.{with_event, step}
use Rattle.group_state.proofs.RunLaws.{event_first}

abbrev pub has_tracks : (tracks : ℕ) → Volume → Bool
has_tracks n u = length u.map == n

-- each volume of the controller has so many tracks, where it is kept
abbrev pub Have : (ℕ → ℕ) → List Volume → Type 0
Have tracks volumes = (v : ℕ) → passes_or_none (has_tracks (tracks v)) (volume_of v volumes) ≡ true

-- ---- each change

written_tracks : (x n : ℕ) (u : Volume) → has_tracks n (noted_write x u) ≡ has_tracks n u
written_tracks x n u = choose u.carried
  where
    choose : (t : Bool) → has_tracks n (cond t u (record u { map = with_track u.map x })) ≡ has_tracks n u
    choose true = refl
    choose false = ap (λ m. nat_eq m n) (length-set u.map x true)

have_written : (tracks : ℕ → ℕ) (writes : List Write) (volumes : List Volume) → Have tracks volumes → Have tracks (with_writes volumes writes)
have_written tracks [] volumes h = h
have_written tracks (w ∷ writes) volumes h =
    have_written tracks writes (with_write volumes w) (λ v. same_or_none (has_tracks (tracks v)) w.volume v (noted_write w.track) (written_number w.track) (written_tracks w.track (tracks v)) volumes ∙ h v)

have_formed : (tracks : ℕ → ℕ) (formed : List WaitingEntry) (volumes : List Volume) → Have tracks volumes → Have tracks (with_formed_copies volumes formed)
have_formed tracks [] volumes h = h
have_formed tracks (e ∷ formed) volumes h =
    have_formed tracks formed (with_volume e.head.volume formed_track volumes) (λ v. same_or_none (has_tracks (tracks v)) e.head.volume v formed_track (λ u. refl) (λ u. refl) volumes ∙ h v)

have_begun : (tracks : ℕ → ℕ) (v : ℕ) (plan : PlanState) (volumes : List Volume) → has_volume v volumes ≡ false → Have tracks volumes → Have (λ w. cond (nat_eq v w) (length plan.wanted) (tracks w)) (volumes ++ begun v plan ∷ [])
have_begun tracks v plan volumes unknown h w =
    subst (λ o. passes_or_none (has_tracks (cond (nat_eq v w) (length plan.wanted) (tracks w))) o ≡ true) (sym (found_after w volumes (begun v plan) unknown)) (choose (nat_eq v w))
  where
    choose : (t : Bool) → passes_or_none (has_tracks (cond t (length plan.wanted) (tracks w))) (cond t (Some (begun v plan)) (volume_of w volumes)) ≡ true
    choose true = eq-eqb (length (begun v plan).map) (length plan.wanted) (length-replicate (length plan.wanted) false)
    choose false = h w

have_forgotten : (tracks : ℕ → ℕ) (v : ℕ) (volumes : List Volume) → are_distinct volumes ≡ true → Have tracks volumes → Have tracks (without_number v volumes)
have_forgotten tracks v volumes distinct h w = subst (λ o. passes_or_none (has_tracks (tracks w)) o ≡ true) (sym (found_without v w volumes distinct)) (choose (nat_eq v w))
  where
    choose : (t : Bool) → passes_or_none (has_tracks (tracks w)) (cond t None (volume_of w volumes)) ≡ true
    choose true = refl
    choose false = h w

-- ---- each call

abbrev pub HaveTracks : List Answer → Group → Type 0
HaveTracks run s = (k : ℕ) → Have (λ v. tracks_reported k v run) (control_at s k).volumes

told_more : (run : List Answer) (a : Answer) (k v : ℕ) → tracks_reported k v (run ++ a ∷ []) ≡ tracks_by k v (tracks_reported k v run) a.call a.reply
told_more run a k v = fold_push (λ n (answer : Answer). tracks_by k v n answer.call answer.reply) 0 run a

-- the volumes of each controller have so many tracks
abbrev pub HaveAll : (ℕ → ℕ → ℕ) → Group → Type 0
HaveAll tracks s = (k : ℕ) → Have (tracks k) (control_at s k).volumes

module _ (tracks : ℕ → ℕ → ℕ) (s : Group) (h : HaveAll tracks s) where
  changed : (j : ℕ) (change : ControlState → ControlState) → j < length s.controls → Have (tracks j) (change (control_at s j)).volumes → HaveAll tracks (with_control j change s)
  changed j change lt have = at_each (λ k c. Have (tracks k) c.volumes) s j change lt have (λ k other. h k)

  pub forms : (cut : Stamp) → HaveAll tracks (formed_at cut s)
  forms cut k = elim (cases_lt k (length s.controls)) [
    | inl lt ↦ subst (λ (c : ControlState). Have (tracks k) c.volumes) (sym (get_or-map (formed cut) s.controls k (new_control 0 0 0) (new_control 0 0 0) lt)) (have_formed (tracks k) (copies (due_of cut (control_at s k))) (control_at s k).volumes (h k))
    | inr past ↦ subst (λ (c : ControlState). Have (tracks k) c.volumes) (sym (get_or_past (map (formed cut) s.controls) k (new_control 0 0 0) (omega (arith, past, length-map s.controls (formed cut))))) (λ v. refl)
  ]

  by_call : (call : Call) → May s call → ((k : ℕ) → k < length s.controls → Sound (control_at s k)) → HaveAll (λ k v. tracks_by k v (tracks k v) call (reply_to s call)) (group_after s call)
  by_call (Join b) may sound = choose (fits (control_at s b.control) b)
    where
      choose : (t : Bool) → HaveAll tracks (cond t (with_control b.control (joined b) s) s)
      choose true = changed b.control (joined b) may.control (have_written (tracks b.control) b.writes (control_at s b.control).volumes (h b.control))
      choose false = h
  by_call (NextWanted k) may sound = h
  by_call (Copied k v x at slot) may sound = choose (is_wanted v x (control_at s k).volumes && fits_track (control_at s k) slot)
    where
      choose : (t : Bool) → HaveAll tracks (cond t (with_control k (copied v x at slot) s) s)
      choose true = changed k (copied v x at slot) may.0 (λ w. same_or_none (has_tracks (tracks k w)) v w (copied_track x) (λ u. refl) (λ u. refl) (control_at s k).volumes ∙ h k w)
      choose false = h
  by_call (Raise k upto) may sound = changed k (raised upto) may.0 (h k)
  by_call (Break k upto cause) may sound = changed k (broke upto cause) may.0 (h k)
  by_call (Form limit) may sound = forms (cut_of s limit)
  by_call (Carry k v plan) may sound = at_each (λ j c. Have (λ w. tracks_by j w (tracks j w) (Carry k v plan) Made) c.volumes) s k (begun_volume v plan) may.0
      (λ w. rw (eq-eqb k k refl) (have_begun (tracks k) v plan (control_at s k).volumes may.1.unknown (h k) w)) (λ j other w. rw other (h j w))
  by_call (Drop k v all) may sound = changed k (dropped v all) may
      (λ w. same_or_none (has_tracks (tracks k w)) v w (dropped_volume all (entry_tracks v (control_at s k).queue.waiting)) (λ u. refl)
      (λ u. ap (λ m. nat_eq m (tracks k w)) (length_dropped all (entry_tracks v (control_at s k).queue.waiting) u.map)) (control_at s k).volumes ∙ h k w)
  by_call (Resume k v) may sound = changed k (resumed v) may.0
      (λ w. same_or_none (has_tracks (tracks k w)) v w resumed_volume (λ u. refl) (λ u. ap (λ m. nat_eq m (tracks k w)) (length-replicate (length u.map) false)) (control_at s k).volumes ∙ h k w)
  by_call (Forget k v) may sound = changed k (forgotten v) may.0 (have_forgotten (tracks k) v (control_at s k).volumes (sound k may.0).distinct (h k))

step_tracks : (run : List Answer) (a : Answer) (s next : Group) → HaveTracks run s → May s a.call → ((k : ℕ) → k < length s.controls → Sound (control_at s k)) → steps s a.call a.reply next → HaveTracks (run ++ a ∷ []) next
step_tracks run a s next h may sound made k v =
    subst (λ n. passes_or_none (has_tracks n) (volume_of v (control_at next k).volumes) ≡ true)
    (sym (told_more run a k v ∙ ap (tracks_by k v (tracks_reported k v run) a.call) made.0))
    (subst (λ (t : Group). passes_or_none (has_tracks (tracks_by k v (tracks_reported k v run) a.call (reply_to s a.call))) (volume_of v (control_at t k).volumes) ≡ true) (sym made.1)
    (by_call (λ k v. tracks_reported k v run) s h a.call may sound k v))

-- ---- runs

pub event_last : (done : List Answer) (a : Answer) → with_event (history done) (event_of a) ≡ history (done ++ a ∷ [])
event_last done a = sym (append-nil (with_event (history done) (event_of a))) ∙ event_first (history done) (event_of a) [] ∙ sym (filter_map-append event_of done (a ∷ []))

pub tracks_after : (n : ℕ) (done run : List Answer) (s end : Group) → HaveTracks done s → Stands n (history done) s → Runs s run end → HaveTracks (done ++ run) end
tracks_after n done [] s end h stands runs = subst (λ answers. HaveTracks answers end) (sym (append-nil done)) (subst (HaveTracks done) (sym runs) h)
tracks_after n done (a ∷ run) s end h stands runs =
    let next = runs.0 in
    let sound = λ (k : ℕ) (lt : k < length s.controls). stands.sound k (omega (arith, lt, stands.follows.count)) in
    let have = step_tracks done a s next h runs.1 sound runs.2 in
    let after = step n (history done) s a.call a.reply next stands runs.1 runs.2 in
    subst (λ answers. HaveTracks answers end) (append_assoc done (a ∷ []) run)
    (tracks_after n (done ++ a ∷ []) run next end have (subst (λ past. Stands n past next) (event_last done a) after) runs.3)

first_none : (n first records blocks k v : ℕ) → volume_of v (get_or (new_controls n first records blocks) k (new_control 0 0 0)).volumes ≡ None
first_none zero first records blocks k v = refl
first_none (suc n) first records blocks zero v = refl
first_none (suc n) first records blocks (suc k) v = first_none n (first + 1) records blocks k v

pub first_tracks : (n records blocks : ℕ) → HaveTracks [] (new_group n records blocks)
first_tracks n records blocks k v = ap (passes_or_none (has_tracks 0)) (first_none n 0 records blocks k v)
