-- Rows and plans stand on the state through each call, and so does what the state keeps of itself.
use Rattle.std.proofs.Common.{◌≡◌, ℕ, ◌<◌, Bool, true, false, not, cond, nat_eq, ◌&&◌, ◌||◌, List, [], ◌∷◌, length, get_or, inl, inr, refl, sym, ap, subst, ◌∙◌, arith, length-set, get_or-set_same, get_or-set_other, true≢false}
use Rattle.std.specs.Prelude.{slice_set}
use Rattle.std.specs.List.{list_all}
use Rattle.std.proofs.lemmas.Bool.{cases_Bool, and_parts, and_from, or_cases, eqb-true, eqb-false, eq-eqb}
use Rattle.std.proofs.lemmas.List.{length-map, length-replicate}
use Rattle.std.proofs.lemmas.List.Folds.{list_all-append}
use Rattle.tod_stamp.specs.declared.stamp.Stamp.{Stamp}
use Rattle.ckd_track.specs.declared.rec.Rec.{Rec}
use Rattle.ckd_track.specs.declared.write.Batch.{Batch}
use Rattle.ckd_track.specs.declared.write.Write.{Write}
use Rattle.pair_table.specs.declared.row.PairRow.{PairRow}
use Rattle.pair_table.specs.Rows.{is_suspended}
use Rattle.cut_core.specs.Shares.{names_volume}
use Rattle.pending_queue.specs.Entries.{WaitingEntry, is_copy_of, is_later, is_of_volume, entries_of, copy_of, copy_head, due, copies, entry_tracks}
use Rattle.pending_queue.specs.Maps.{with_tracks}
use Rattle.group_state.specs.declared.volume.Volume.{Volume}
use Rattle.group_state.specs.Volumes.{volume_of, with_volume, passes, wants, is_wanted, noted_write, with_write, with_writes, copied_track, formed_track, with_formed_copy, with_formed_copies, dropped_volume}
use Rattle.group_state.specs.Controls.{ControlState, new_control, counts, carried_writes, joined, copied, raised, broke, dropped, formed}
use Rattle.group_state.specs.Groups.{Group, control_at, with_control, cut_of, formed_at, shown_at}
use Rattle.group_state.specs.SoundStates.{IsGroupSound, passes_or_none}
use Rattle.group_state.specs.Machine.{Call, Reply}
use Rattle.group_state.specs.Runs.{May}
use Rattle.group_state.proofs.VolumeLaws.{Keeps, same_or_none}
use Rattle.group_state.proofs.SoundLaws.{all_filter}
use Rattle.group_state.proofs.Kept.{kept_with, keeps_joined, keeps_copied, keeps_raised, keeps_broke, keeps_dropped}
use Rattle.fed_logs.proofs.Tracks.{tested_with}
use Rattle.fed_logs.proofs.Keeping.{at_map}
use Rattle.fed_logs.specs.Moves.{HasRowIn, IsLive, IsDuplex, AreFewer, MayFollow, Plans, plans_with_shown, plans_without, is_plan_shown_done}
use Rattle.fed_logs.specs.Logs.{Sizes, is_of_size, AreSized, IsPlanDone, Stand}
use Rattle.fed_logs.proofs.Shown.{counts_after, shown_done}
use Rattle.fed_logs.proofs.Went.{WentRead}
use Rattle.fed_logs.proofs.Went.WentRead.{Same, Joins, Copies, Raises, Breaks}

-- ---- one controller of the state

pub at_with : (s : Group) (j k : ℕ) (change : ControlState → ControlState) (P : ControlState → Type 0) → k < length s.controls → (j ≡ k → P (change (control_at s k))) → (nat_eq j k ≡ false → P (control_at s k)) → P (control_at (with_control j change s) k)
at_with s j k change P low here there = elim (cases_Bool (nat_eq j k)) [
  | inl same ↦
      let is : j ≡ k = eqb-true j k same in
      subst P (subst (λ i. change (control_at s k) ≡ get_or (slice_set s.controls i (change (control_at s i))) k (new_control 0 0 0)) (sym is) (sym (get_or-set_same s.controls k (change (control_at s k)) (new_control 0 0 0) low))) (here is)
  | inr apart ↦ subst P (sym (get_or-set_other s.controls j k (change (control_at s j)) (new_control 0 0 0) (λ e. eqb-false j k apart (sym e)))) (there apart)
]

pub same_count : (s : Group) (j : ℕ) (change : ControlState → ControlState) → length (with_control j change s).controls ≡ length s.controls
same_count s j change = length-set s.controls j (change (control_at s j))

pub formed_count : (s : Group) (cut : Stamp) → length (formed_at cut s).controls ≡ length s.controls
formed_count s cut = length-map s.controls (formed cut)

-- ---- tests on volumes that calls keep

noted_number : (y : ℕ) → Keeps (noted_write y)
noted_number y u = choose u.carried
  where
    choose : (t : Bool) → (let n : Volume = cond t u (record u { map = slice_set u.map y true }) in n.number) ≡ u.number
    choose true = refl
    choose false = refl

tested_writes : (P : Volume → Bool) → ((y : ℕ) (u : Volume) → P (noted_write y u) ≡ P u) → (v : ℕ) (volumes : List Volume) (writes : List Write) → passes P (volume_of v (with_writes volumes writes)) ≡ passes P (volume_of v volumes)
tested_writes P same v volumes [] = refl
tested_writes P same v volumes (w ∷ writes) = tested_writes P same v (with_write volumes w) writes ∙ tested_with P P w.volume v (noted_write w.track) (noted_number w.track) volumes (λ one u found. same w.track u) (λ apart u. refl)

tested_copies : (P : Volume → Bool) → ((u : Volume) → P (formed_track u) ≡ P u) → (v : ℕ) (volumes : List Volume) (entries : List WaitingEntry) → passes P (volume_of v (with_formed_copies volumes entries)) ≡ passes P (volume_of v volumes)
tested_copies P same v volumes [] = refl
tested_copies P same v volumes (e ∷ entries) = tested_copies P same v (with_formed_copy volumes e) entries ∙ tested_with P P e.head.volume v formed_track (λ u. refl) volumes (λ one u found. same u) (λ apart u. refl)

tested_other : (P : Volume → Bool) (w v : ℕ) (change : Volume → Volume) → Keeps change → nat_eq w v ≡ false → (volumes : List Volume) → passes P (volume_of v (with_volume w change volumes)) ≡ passes P (volume_of v volumes)
tested_other P w v change keeps apart volumes = tested_with P P w v change keeps volumes (λ same u found. absurd (true≢false (sym same ∙ apart))) (λ apart u. refl)

abbrev is_volume_carried : Volume → Bool
is_volume_carried u = u.carried

noted_carried : (y : ℕ) (u : Volume) → is_volume_carried (noted_write y u) ≡ is_volume_carried u
noted_carried y u = choose u.carried refl
  where
    choose : (t : Bool) → u.carried ≡ t → is_volume_carried (cond t u (record u { map = slice_set u.map y true })) ≡ u.carried
    choose true is = refl
    choose false is = refl

noted_wants : (x y : ℕ) (u : Volume) → wants x (noted_write y u) ≡ wants x u
noted_wants x y u = choose u.carried
  where
    choose : (t : Bool) → wants x (cond t u (record u { map = slice_set u.map y true })) ≡ wants x u
    choose true = refl
    choose false = refl

-- ---- sizes

abbrev IsSized : (n v : ℕ) → List Volume → Type 0
IsSized n v volumes = passes_or_none (is_of_size n) (volume_of v volumes) ≡ true

noted_size : (n y : ℕ) (u : Volume) → is_of_size n (noted_write y u) ≡ is_of_size n u
noted_size n y u = choose u.carried
  where
    choose : (t : Bool) → is_of_size n (cond t u (record u { map = slice_set u.map y true })) ≡ is_of_size n u
    choose true = refl
    choose false = ap (λ m. nat_eq m n) (length-set u.map y true)

sized_writes : (n v : ℕ) (volumes : List Volume) (writes : List Write) → IsSized n v volumes → IsSized n v (with_writes volumes writes)
sized_writes n v volumes [] h = h
sized_writes n v volumes (w ∷ writes) h = sized_writes n v (with_write volumes w) writes (same_or_none (is_of_size n) w.volume v (noted_write w.track) (noted_number w.track) (noted_size n w.track) volumes ∙ h)

sized_formed : (n v : ℕ) (volumes : List Volume) (entries : List WaitingEntry) → IsSized n v volumes → IsSized n v (with_formed_copies volumes entries)
sized_formed n v volumes [] h = h
sized_formed n v volumes (e ∷ entries) h = sized_formed n v (with_formed_copy volumes e) entries (same_or_none (is_of_size n) e.head.volume v formed_track (λ u. refl) (λ u. refl) volumes ∙ h)

length_tracks : (set : List Bool) (tracks : List ℕ) → length (with_tracks set tracks) ≡ length set
length_tracks set [] = refl
length_tracks set (y ∷ tracks) = length_tracks (slice_set set y true) tracks ∙ length-set set y true

dropped_size : (n : ℕ) (all : Bool) (tracks : List ℕ) (u : Volume) → is_of_size n (dropped_volume all tracks u) ≡ is_of_size n u
dropped_size n true tracks u = ap (λ m. nat_eq m n) (length-replicate (length u.map) true)
dropped_size n false tracks u = ap (λ m. nat_eq m n) (length_tracks u.map tracks)

sized_with : (size : Sizes) (s : Group) (j : ℕ) (change : ControlState → ControlState) → ((c : ControlState) (n v : ℕ) → IsSized n v c.volumes → IsSized n v (change c).volumes) → AreSized size s → AreSized size (with_control j change s)
sized_with size s j change stays h = λ k v low.
    let was : k < length s.controls = omega (arith, low, same_count s j change) in
    at_with s j k change (λ c. IsSized (size k v) v c.volumes) was (λ is. stays (control_at s k) (size k v) v (h k v was)) (λ apart. h k v was)

pub sized_read : (size : Sizes) (s next : Group) (call : Call) (reply : Reply) → WentRead s call reply next → AreSized size s → AreSized size next
sized_read size s _ _ _ (Same call reply none) h = h
sized_read size s _ _ _ (Joins b) h = sized_with size s b.control (joined b) (λ c n v is. sized_writes n v c.volumes b.writes is) h
sized_read size s _ _ _ (Copies k v x at slot wanted) h = sized_with size s k (copied v x at slot) (λ c n w is. same_or_none (is_of_size n) v w (copied_track x) (λ u. refl) (λ u. refl) c.volumes ∙ is) h
sized_read size s _ _ _ (Raises k upto) h = sized_with size s k (raised upto) (λ c n v is. is) h
sized_read size s _ _ _ (Breaks k upto cause) h = sized_with size s k (broke upto cause) (λ c n v is. is) h

pub sized_drop : (size : Sizes) (s : Group) (k w : ℕ) (all : Bool) → AreSized size s → AreSized size (with_control k (dropped w all) s)
sized_drop size s k w all h =
    sized_with size s k (dropped w all) (λ c n v is. same_or_none (is_of_size n) w v (dropped_volume all (entry_tracks w c.queue.waiting)) (λ u. refl) (dropped_size n all (entry_tracks w c.queue.waiting)) c.volumes ∙ is) h

pub sized_form : (size : Sizes) (s : Group) (cut : Stamp) → AreSized size s → AreSized size (formed_at cut s)
sized_form size s cut h = λ k v low.
    let was : k < length s.controls = omega (arith, low, formed_count s cut) in
    let c = control_at s k in
    subst (λ (c : ControlState). IsSized (size k v) v c.volumes) (sym (at_map cut s.controls k was)) (sized_formed (size k v) v c.volumes (copies (due cut c.queue.waiting)) (h k v was))

-- ---- the state is left sound

pub kept_read : (s next : Group) (call : Call) (reply : Reply) → May s call → WentRead s call reply next → IsGroupSound s → IsGroupSound next
kept_read s _ _ _ may (Same call reply none) keeps = keeps
kept_read s _ _ _ may (Joins b) keeps = kept_with s b.control (joined b) keeps may.control (keeps_joined s.last b (control_at s b.control) may.legal)
kept_read s _ _ _ may (Copies k v x at slot wanted) keeps = kept_with s k (copied v x at slot) keeps may.0 (keeps_copied s.last v x at slot (control_at s k) may.1.floor wanted may.1.track)
kept_read s _ _ _ may (Raises k upto) keeps = kept_with s k (raised upto) keeps may.0 (keeps_raised s.last upto (control_at s k) may.1)
kept_read s _ _ _ may (Breaks k upto cause) keeps = kept_with s k (broke upto cause) keeps may.0 (keeps_broke s.last upto cause (control_at s k) may.1)

pub kept_drop : (s : Group) (k v : ℕ) (all : Bool) → k < length s.controls → IsGroupSound s → IsGroupSound (with_control k (dropped v all) s)
kept_drop s k v all low keeps = kept_with s k (dropped v all) keeps low (keeps_dropped s.last v all (control_at s k))

-- ---- plans and rows

-- One controller is changed so that what is known to be done there stays done, and a controller that counts stays so.
stands_with : (s : Group) (j : ℕ) (change : ControlState → ControlState) (rows : List PairRow) (done after : Plans) → (counts (control_at s j).phase ≡ true → counts (change (control_at s j)).phase ≡ true)
    → ((k v : ℕ) → HasRowIn IsDuplex k v rows → after k v ≡ true) → ((k v : ℕ) → after k v ≡ true → done k v ≡ true)
    → ((v : ℕ) → after j v ≡ true → IsPlanDone v (control_at s j) → IsPlanDone v (change (control_at s j))) → Stand s rows done → Stand (with_control j change s) rows after
stands_with s j change rows done after keeps duplex fewer stays h = record {
  live = λ k v has.
      let was = h.live k v has in (
        omega (arith, was.0, same_count s j change),
        at_with s j k change (λ c. counts c.phase ≡ true) was.0 (λ is. subst (λ i. counts (change (control_at s i)).phase ≡ true) is (keeps (subst (λ i. counts (control_at s i).phase ≡ true) (sym is) was.1))) (λ apart. was.1),
      );
  duplex = duplex;
  plans = λ k v known.
      let was = h.plans k v (fewer k v known) in (
        omega (arith, was.0, same_count s j change),
        at_with s j k change (IsPlanDone v) was.0
            (λ is. subst (λ i. IsPlanDone v (change (control_at s i))) is (stays v (subst (λ i. after i v ≡ true) (sym is) known) (subst (λ i. IsPlanDone v (control_at s i)) (sym is) was.1))) (λ apart. was.1),
      );
}

none_of_writes : (k v : ℕ) (writes : List Write) → list_all (λ e. not (is_copy_of v e)) (entries_of k writes) ≡ true
none_of_writes k v [] = refl
none_of_writes k v (w ∷ writes) = and_from (not (nat_eq w.volume v && false)) (list_all (λ e. not (is_copy_of v e)) (entries_of k writes)) (off (nat_eq w.volume v)) (none_of_writes k v writes)
  where
    off : (a : Bool) → not (a && false) ≡ true
    off true = refl
    off false = refl

joins_done : (b : Batch) (c : ControlState) (v : ℕ) → IsPlanDone v c → IsPlanDone v (joined b c)
joins_done b c v h = record {
  carried = tested_writes is_volume_carried noted_carried v c.volumes b.writes ∙ h.carried;
  unwanted = λ x. tested_writes (wants x) (noted_wants x) v c.volumes b.writes ∙ h.unwanted x;
  copies = list_all-append (λ e. not (is_copy_of v e)) c.queue.waiting (entries_of c.queue.control (carried_writes c b))
      ∙ and_from (list_all (λ e. not (is_copy_of v e)) c.queue.waiting) (list_all (λ e. not (is_copy_of v e)) (entries_of c.queue.control (carried_writes c b))) h.copies (none_of_writes c.queue.control v (carried_writes c b));
}

copied_done : (w y : ℕ) (at : Stamp) (slot : List Rec) (c : ControlState) (v : ℕ) → is_wanted w y c.volumes ≡ true → IsPlanDone v c → IsPlanDone v (copied w y at slot c)
copied_done w y at slot c v wanted h = elim (cases_Bool (nat_eq w v)) [
  | inl same ↦ absurd (true≢false (sym (subst (λ i. is_wanted i y c.volumes ≡ true) (eqb-true w v same) wanted) ∙ h.unwanted y))
  | inr apart ↦ record {
    carried = tested_other is_volume_carried w v (copied_track y) (λ u. refl) apart c.volumes ∙ h.carried;
    unwanted = λ x. tested_other (wants x) w v (copied_track y) (λ u. refl) apart c.volumes ∙ h.unwanted x;
    copies = list_all-append (λ e. not (is_copy_of v e)) c.queue.waiting (copy_of (copy_head c.queue.control w y at) slot ∷ [])
        ∙ and_from (list_all (λ e. not (is_copy_of v e)) c.queue.waiting) (not (nat_eq w v && true) && true) h.copies (simp apart refl);
  }
]

drops_done : (w : ℕ) (all : Bool) (c : ControlState) (v : ℕ) → nat_eq w v ≡ false → IsPlanDone v c → IsPlanDone v (dropped w all c)
drops_done w all c v apart h = record {
  carried = tested_other is_volume_carried w v (dropped_volume all (entry_tracks w c.queue.waiting)) (λ u. refl) apart c.volumes ∙ h.carried;
  unwanted = λ x. tested_other (wants x) w v (dropped_volume all (entry_tracks w c.queue.waiting)) (λ u. refl) apart c.volumes ∙ h.unwanted x;
  copies = all_filter (λ e. not (is_copy_of v e)) (λ e. not (is_of_volume w e)) c.queue.waiting h.copies;
}

forms_done : (cut : Stamp) (c : ControlState) (v : ℕ) → IsPlanDone v c → IsPlanDone v (formed cut c)
forms_done cut c v h = record {
  carried = tested_copies is_volume_carried (λ u. refl) v c.volumes (copies (due cut c.queue.waiting)) ∙ h.carried;
  unwanted = λ x. tested_copies (wants x) (λ u. refl) v c.volumes (copies (due cut c.queue.waiting)) ∙ h.unwanted x;
  copies = all_filter (λ e. not (is_copy_of v e)) (is_later cut) c.queue.waiting h.copies;
}

-- ---- each call

pub stands_read : (s next : Group) (call : Call) (reply : Reply) (rows : List PairRow) (done : Plans) → WentRead s call reply next → Stand s rows done → Stand next rows done
stands_read s _ _ _ rows done (Same call reply none) h = h
stands_read s _ _ _ rows done (Joins b) h = stands_with s b.control (joined b) rows done done (λ e. e) h.duplex (λ k v e. e) (λ v known. joins_done b (control_at s b.control) v) h
stands_read s _ _ _ rows done (Copies j w y at slot wanted) h = stands_with s j (copied w y at slot) rows done done (λ e. e) h.duplex (λ k v e. e) (λ v known. copied_done w y at slot (control_at s j) v wanted) h
stands_read s _ _ _ rows done (Raises j upto) h = stands_with s j (raised upto) rows done done (λ e. e) h.duplex (λ k v e. e) (λ v known d. record { carried = d.carried; unwanted = d.unwanted; copies = d.copies }) h
stands_read s _ _ _ rows done (Breaks j upto cause) h = stands_with s j (broke upto cause) rows done done (λ e. refl) h.duplex (λ k v e. e) (λ v known d. record { carried = d.carried; unwanted = d.unwanted; copies = d.copies }) h

pub stands_drop : (s : Group) (k w : ℕ) (all : Bool) (rows : List PairRow) (done : Plans) → (HasRowIn IsDuplex k w rows → ⊥) → Stand s rows done → Stand (with_control k (dropped w all) s) rows (plans_without k w done)
stands_drop s k w all rows done gone h =
    stands_with s k (dropped w all) rows done (plans_without k w done) (λ e. e)
    (λ j v has. and_from (done j v) (not (names_volume j v k w)) (h.duplex j v has) (other j v has (nat_eq j k) refl (nat_eq v w) refl))
    (λ j v known. (and_parts (done j v) (not (names_volume j v k w)) known).0)
    (λ v known. drops_done w all (control_at s k) v (apart v (nat_eq w v) refl (and_parts (done k v) (not (names_volume k v k w)) known).1)) h
  where
    other : (j v : ℕ) → HasRowIn IsDuplex j v rows → (a : Bool) → nat_eq j k ≡ a → (b : Bool) → nat_eq v w ≡ b → not (a && b) ≡ true
    other j v has true is true at = absurd (gone (subst (λ i. HasRowIn IsDuplex i w rows) (eqb-true j k is) (subst (λ i. HasRowIn IsDuplex j i rows) (eqb-true v w at) has)))
    other j v has true is false at = refl
    other j v has false is b at = refl

    apart : (v : ℕ) (t : Bool) → nat_eq w v ≡ t → not (nat_eq k k && nat_eq v w) ≡ true → t ≡ false
    apart v true is e = absurd (true≢false (sym e ∙ ap not (and_from (nat_eq k k) (nat_eq v w) (eq-eqb k k refl) (eq-eqb v w (sym (eqb-true w v is))))))
    apart v false is e = refl

pub duplex_lives : (k v : ℕ) (rows : List PairRow) → HasRowIn IsDuplex k v rows → HasRowIn IsLive k v rows
duplex_lives k v rows h = record { row = h.row; among = h.among; control = h.control; volume = h.volume; state = ap is_suspended h.state }

pub stands_form : (s : Group) (limit : Stamp) (rows next : List PairRow) (done : Plans) → IsGroupSound s → MayFollow (shown_at (cut_of s limit) s) rows next → Stand s rows done
    → Stand (formed_at (cut_of s limit) s) next (plans_with_shown (shown_at (cut_of s limit) s) done)
stands_form s limit rows next done keeps follow h =
    let cut = cut_of s limit in
    let shown = shown_at cut s in
    record {
      live = λ k v has.
          let was = follow.live k v has in
          let stood = h.live k v was.1 in
          (omega (arith, stood.0, formed_count s cut), counts_after s cut k keeps stood.0 was.0 stood.1);
      duplex = λ k v has. elim (follow.duplex k v has) [
        | inl was ↦ either_left (done k v) (is_plan_shown_done k v shown) (h.duplex k v was)
        | inr now ↦ either_right (done k v) (is_plan_shown_done k v shown) now
      ];
      plans = λ k v known. elim (or_cases (done k v) (is_plan_shown_done k v shown) known) [
        | inl was ↦
            let d = h.plans k v was in
            (omega (arith, d.0, formed_count s cut), subst (IsPlanDone v) (sym (at_map cut s.controls k d.0)) (forms_done cut (control_at s k) v d.1))
        | inr now ↦
            let d = shown_done s cut k v keeps now in
            (omega (arith, d.0, formed_count s cut), subst (IsPlanDone v) (sym (at_map cut s.controls k d.0)) d.1)
      ];
    }
  where
    either_left : (a b : Bool) → a ≡ true → (a || b) ≡ true
    either_left true b e = refl
    either_left false b e = absurd (true≢false (sym e))

    either_right : (a b : Bool) → b ≡ true → (a || b) ≡ true
    either_right true b e = refl
    either_right false b e = e

pub stands_fewer : (s : Group) (rows next : List PairRow) (done : Plans) → AreFewer rows next → Stand s rows done → Stand s next done
stands_fewer s rows next done fewer h = record { live = λ k v has. h.live k v (fewer.live k v has); duplex = λ k v has. h.duplex k v (fewer.duplex k v has); plans = h.plans }
