-- Each change of a controller keeps what is held.
use Rattle.std.proofs.Common.{◌≡◌, ℕ, ◌<◌, ◌≤◌, Bool, true, false, not, cond, nat_eq, nat_lt, nat_le, ◌&&◌, ◌||◌, List, [], ◌∷◌, ◌++◌, length, Option, Some, ◌⊎◌, inl, inr, refl, sym, ap, subst, ◌∙◌, arith, true≢false}
use Rattle.std.specs.Prelude.{filter, map}
use Rattle.std.specs.List.{list_all}
use Rattle.std.proofs.lemmas.Bool.{cases_Bool, cases_lt, and_parts, and_from, eqb-true, eqb-false, ltb-true, lt-ltb, le-ltb, leb-true, le-leb, lt-leb}
use Rattle.std.proofs.lemmas.List.Folds.{list_all-append}
use Rattle.tod_stamp.specs.declared.stamp.Stamp.{Stamp}
use Rattle.ckd_track.specs.declared.rec.Rec.{Rec}
use Rattle.ckd_track.specs.declared.write.Batch.{Batch}
use Rattle.ckd_track.specs.declared.write.Write.{Write}
use Rattle.ckd_track.specs.Effects.{apply}
use Rattle.cut_core.specs.LegalHistories.{are_in}
use Rattle.change_map.specs.Sets.{has_track}
use Rattle.copy_plan.specs.Plans.{PlanState}
use Rattle.pending_queue.specs.Entries.{WaitingEntry, entry_stamp, entry_of, entries_of, copy_of, copy_head, due, left, is_of_volume, without_volume, entry_tracks, is_queued_on}
use Rattle.pending_queue.proofs.EntryLaws.{each_once}
use Rattle.image_former.specs.Changes.{changed_by}
use Rattle.primary_ctl.specs.States.{after_writes}
use Rattle.group_state.specs.declared.phase.Phase.{Phase}
use Rattle.group_state.specs.declared.volume.Volume.{Volume}
use Rattle.group_state.specs.Volumes.{passes, carries, volume_of, is_carried, wants}
use Rattle.group_state.specs.Controls.{ControlState, carried_writes, joined, copied, dropped, formed, begun_volume, resumed, forgotten}
use Rattle.group_state.specs.SoundStates.{Sound, MayReport, MayJoin, is_dropped}
use Rattle.group_state.proofs.SoundLaws.{all_filter}
use Rattle.fed_logs.specs.ToldTracks.{after_entries, is_queued_up_to, is_write_up_to, is_no_later_copy, has_no_later_copy, HoldsTold}
use Rattle.fed_logs.proofs.Entries.{changed_append, changed_none, changed_filter, up_to_later}
use Rattle.fed_logs.proofs.Tracks.{settled_in, settled_carries, settled_writes, settled_copies, settled_copied, settled_dropped, settled_begun, settled_resumed, settled_forgotten}

abbrev Tracks : Type 0
Tracks = (volume track time : ℕ) → List Rec

abbrev Kept : Type 0
Kept = (volume track : ℕ) → Option (List Rec)

-- ---- a batch

-- writes later than a time leave a track as it is up to that time
late_writes : (k v x t above upto : ℕ) (volumes : List Volume) (writes : List Write) (old : Option (List Rec)) → t ≤ above → are_in above upto writes ≡ true → after_entries (is_queued_up_to v x t) (entries_of k (filter (is_carried volumes) writes)) old ≡ old
late_writes k v x t above upto volumes [] old le all = refl
late_writes k v x t above upto volumes (w ∷ writes) old le all =
    let parts = and_parts (nat_lt above w.stamp.0 && nat_le w.stamp.0 upto) (are_in above upto writes) all in
    let low = ltb-true above w.stamp.0 (and_parts (nat_lt above w.stamp.0) (nat_le w.stamp.0 upto) parts.0).0 in
    choose (is_carried volumes w) (lt-leb w.stamp.0 t (omega (arith, low, le))) (λ o. late_writes k v x t above upto volumes writes o le parts.1)
  where
    none : (a b : Bool) → b ≡ false → (a && b) ≡ false
    none true b e = e
    none false b e = refl

    choose : (c : Bool) → nat_le w.stamp.0 t ≡ false → ((o : Option (List Rec)) → after_entries (is_queued_up_to v x t) (entries_of k (filter (is_carried volumes) writes)) o ≡ o)
        → after_entries (is_queued_up_to v x t) (entries_of k (cond c (w ∷ filter (is_carried volumes) writes) (filter (is_carried volumes) writes))) old ≡ old
    choose true late rest = rest (changed_by (is_queued_on v x (entry_of k w) && nat_le w.stamp.0 t) w.kind old) ∙ ap (λ b. changed_by b w.kind old) (none (is_queued_on v x (entry_of k w)) (nat_le w.stamp.0 t) late)
    choose false late rest = rest old

-- the writes of a batch on a track that is carried do what they do
own_writes : (k v x t : ℕ) (volumes : List Volume) (writes : List Write) (recs : List Rec) → passes (carries x) (volume_of v volumes) ≡ true
    → after_entries (is_queued_up_to v x t) (entries_of k (filter (is_carried volumes) writes)) (Some recs) ≡ Some (after_writes recs (filter (is_write_up_to v x t) writes))
own_writes k v x t volumes [] recs carried = refl
own_writes k v x t volumes (w ∷ writes) recs carried = choose (nat_eq w.volume v && nat_eq w.track x) refl (nat_le w.stamp.0 t) refl (λ r. own_writes k v x t volumes writes r carried)
  where
    mine : (nat_eq w.volume v && nat_eq w.track x) ≡ true → is_carried volumes w ≡ true
    mine is = let parts = and_parts (nat_eq w.volume v) (nat_eq w.track x) is in rw (eqb-true w.volume v parts.0, eqb-true w.track x parts.1) carried

    other : (c : Bool) (b : Bool) → b ≡ false → (is_queued_up_to v x t (entry_of k w)) ≡ b
        → ((r : List Rec) → after_entries (is_queued_up_to v x t) (entries_of k (filter (is_carried volumes) writes)) (Some r) ≡ Some (after_writes r (filter (is_write_up_to v x t) writes)))
        → after_entries (is_queued_up_to v x t) (entries_of k (cond c (w ∷ filter (is_carried volumes) writes) (filter (is_carried volumes) writes))) (Some recs) ≡ Some (after_writes recs (filter (is_write_up_to v x t) writes))
    other true b none is rest = ap (λ b. after_entries (is_queued_up_to v x t) (entries_of k (filter (is_carried volumes) writes)) (changed_by b w.kind (Some recs))) (is ∙ none) ∙ rest recs
    other false b none is rest = rest recs

    taken : (c : Bool) → c ≡ true → is_queued_up_to v x t (entry_of k w) ≡ true
        → ((r : List Rec) → after_entries (is_queued_up_to v x t) (entries_of k (filter (is_carried volumes) writes)) (Some r) ≡ Some (after_writes r (filter (is_write_up_to v x t) writes)))
        → after_entries (is_queued_up_to v x t) (entries_of k (cond c (w ∷ filter (is_carried volumes) writes) (filter (is_carried volumes) writes))) (Some recs) ≡ Some (after_writes recs (w ∷ filter (is_write_up_to v x t) writes))
    taken true e on rest = ap (λ b. after_entries (is_queued_up_to v x t) (entries_of k (filter (is_carried volumes) writes)) (changed_by b w.kind (Some recs))) on ∙ rest (apply recs w.kind)
    taken false e on rest = absurd cc

    choose : (on : Bool) → (nat_eq w.volume v && nat_eq w.track x) ≡ on → (up : Bool) → nat_le w.stamp.0 t ≡ up
        → ((r : List Rec) → after_entries (is_queued_up_to v x t) (entries_of k (filter (is_carried volumes) writes)) (Some r) ≡ Some (after_writes r (filter (is_write_up_to v x t) writes)))
        → after_entries (is_queued_up_to v x t) (entries_of k (filter (is_carried volumes) (w ∷ writes))) (Some recs) ≡ Some (after_writes recs (cond (on && up) (w ∷ filter (is_write_up_to v x t) writes) (filter (is_write_up_to v x t) writes)))
    choose true is true up rest = taken (is_carried volumes w) (mine is) (λ i. is i && up i) rest
    choose true is false up rest = other (is_carried volumes w) (true && false) refl (rw (is, up) refl) rest
    choose false is up at rest = other (is_carried volumes w) false refl (rw is refl) rest

-- writes on other tracks
other_writes : (k v x t : ℕ) (is : Write → Bool) (writes : List Write) (old : Option (List Rec)) → list_all (λ w. not (nat_eq w.volume v && nat_eq w.track x)) writes ≡ true
    → (after_entries (is_queued_up_to v x t) (entries_of k (filter is writes)) old ≡ old) × (filter (is_write_up_to v x t) writes ≡ [])
other_writes k v x t is [] old none = (refl, refl)
other_writes k v x t is (w ∷ writes) old none =
    let parts = and_parts (not (nat_eq w.volume v && nat_eq w.track x)) (list_all (λ w. not (nat_eq w.volume v && nat_eq w.track x)) writes) none in
    let off = flip (nat_eq w.volume v && nat_eq w.track x) parts.0 in
    (taken (is w) off (λ o. (other_writes k v x t is writes o parts.1).0), simp off (other_writes k v x t is writes old parts.1).1)
  where
    flip : (b : Bool) → not b ≡ true → b ≡ false
    flip true e = sym e
    flip false e = refl

    taken : (c : Bool) → (nat_eq w.volume v && nat_eq w.track x) ≡ false → ((o : Option (List Rec)) → after_entries (is_queued_up_to v x t) (entries_of k (filter is writes)) o ≡ o)
        → after_entries (is_queued_up_to v x t) (entries_of k (cond c (w ∷ filter is writes) (filter is writes))) old ≡ old
    taken true off rest = ap (λ b. after_entries (is_queued_up_to v x t) (entries_of k (filter is writes)) (changed_by (b && nat_le w.stamp.0 t) w.kind old)) off ∙ rest old
    taken false off rest = rest old

-- no copied track is later than the floor
floor_copies : (v x floor : ℕ) (entries : List WaitingEntry) → list_all (λ e. nat_le (entry_stamp e) floor) entries ≡ true → has_no_later_copy v x floor entries ≡ true
floor_copies v x floor [] all = refl
floor_copies v x floor (e ∷ entries) all =
    let parts = and_parts (nat_le (entry_stamp e) floor) (list_all (λ e. nat_le (entry_stamp e) floor) entries) all in
    and_from (is_no_later_copy v x floor e) (has_no_later_copy v x floor entries) (either (not (e.is_copy && is_queued_on v x e)) (nat_le (entry_stamp e) floor) parts.0) (floor_copies v x floor entries parts.1)
  where
    either : (a b : Bool) → b ≡ true → (a || b) ≡ true
    either true b e = refl
    either false b e = e

pub joins : (truth : Tracks) (last : ℕ) (held : Kept) (c : ControlState) (b : Batch) → Sound c → MayJoin c b → last ≤ c.floor.0
    → ((v x t : ℕ) → c.floor.0 ≤ t → t ≤ b.upto.0 → truth v x t ≡ after_writes (truth v x c.floor.0) (filter (is_write_up_to v x t) b.writes)) → HoldsTold truth last held c → HoldsTold truth last held (joined b c)
joins truth last held c b sound may low tells h =
    let new = entries_of c.queue.control (carried_writes c b) in
    record {
      holds = λ v x t settled copies from to.
          let was = settled_writes v x c.volumes b.writes settled in
          let first = and_parts (has_no_later_copy v x t c.queue.waiting) (has_no_later_copy v x t new) (sym (list_all-append (is_no_later_copy v x t) c.queue.waiting new) ∙ copies) in
          changed_append (is_queued_up_to v x t) c.queue.waiting new (held v x)
          ∙ elim (cases_lt c.floor.0 t) [
            | inl later ↦
                let at_floor = h.holds v x c.floor.0 was.0 (floor_copies v x c.floor.0 c.queue.waiting sound.stamps) low (omega arith) in
                ap (after_entries (is_queued_up_to v x t) new) (up_to_later v x c.floor.0 t c.queue.waiting (held v x) (omega (arith, later)) sound.stamps ∙ at_floor)
                ∙ elim was.1 [
                  | inl live ↦ own_writes c.queue.control v x t c.volumes b.writes (truth v x c.floor.0) (settled_carries x (volume_of v c.volumes) was.0 live)
                  | inr none ↦
                      let others = other_writes c.queue.control v x t (is_carried c.volumes) b.writes (Some (truth v x c.floor.0)) none in
                      others.0 ∙ sym (ap (λ (ws : List Write). let r : Option (List Rec) = Some (after_writes (truth v x c.floor.0) ws) in r) others.1)
                ]
                ∙ ap (λ (r : List Rec). Some r) (sym (tells v x t (omega (arith, later)) to))
            | inr early ↦
                late_writes c.queue.control v x t c.floor.0 b.upto.0 c.volumes b.writes (after_entries (is_queued_up_to v x t) c.queue.waiting (held v x)) early may.within
                ∙ h.holds v x t was.0 first.0 from early
          ];
    }

-- ---- a copied track

-- An entry that isn't on a track leaves it as it is.
pub copies_in : (truth : Tracks) (last : ℕ) (held : Kept) (c : ControlState) (w y : ℕ) (at : Stamp) (recs : List Rec) → Sound c → at ≡ c.floor → recs ≡ truth w y at.0 → HoldsTold truth last held c → HoldsTold truth last held (copied w y at recs c)
copies_in truth last held c w y at recs sound floor tells h = record {
  holds = λ v x t carried copies from to.
      let new : WaitingEntry = copy_of (copy_head c.queue.control w y at) recs in
      let parts = and_parts (has_no_later_copy v x t c.queue.waiting) (has_no_later_copy v x t (new ∷ [])) (sym (list_all-append (is_no_later_copy v x t) c.queue.waiting (new ∷ [])) ∙ copies) in
      changed_append (is_queued_up_to v x t) c.queue.waiting (new ∷ []) (held v x)
      ∙ choose v x t carried from to parts.0 parts.1 (nat_eq w v && nat_eq y x) refl;
}
  where
    choose : (v x t : ℕ) → settled_in v x (copied w y at recs c).volumes ≡ true → last ≤ t → t ≤ c.floor.0 → has_no_later_copy v x t c.queue.waiting ≡ true → has_no_later_copy v x t (copy_of (copy_head c.queue.control w y at) recs ∷ []) ≡ true
        → (on : Bool) → (nat_eq w v && nat_eq y x) ≡ on → changed_by (on && nat_le at.0 t) (copy_of (copy_head c.queue.control w y at) recs).kind (after_entries (is_queued_up_to v x t) c.queue.waiting (held v x)) ≡ Some (truth v x t)
    choose v x t carried from to before own true is =
        let parts = and_parts (nat_eq w v) (nat_eq y x) is in
        let late : nat_le at.0 t ≡ true = sym (simp is refl) ∙ (and_parts (not (nat_eq w v && nat_eq y x) || nat_le at.0 t) true own).0 in
        let now : at.0 ≡ t = omega (arith, ap (λ (s : Stamp). s.0) floor, to, leb-true at.0 t late) in
        rw late (ap (λ (r : List Rec). Some r) (tells ∙ rw (eqb-true w v parts.0, eqb-true y x parts.1, now) refl))
    choose v x t carried from to before own false is = h.holds v x t (sym (settled_copied w y v x c.volumes is) ∙ carried) before from to

-- ---- a time

pub tells_upto : (truth : Tracks) (last : ℕ) (held : Kept) (c : ControlState) (upto : Stamp) (phase : Phase) → Sound c → MayReport c upto → last ≤ c.floor.0
    → ((v x t : ℕ) → c.floor.0 ≤ t → t ≤ upto.0 → truth v x t ≡ truth v x c.floor.0) → HoldsTold truth last held c → HoldsTold truth last held (record c { floor = upto; phase = phase })
tells_upto truth last held c upto phase sound may low tells h = record {
  holds = λ v x t settled copies from to. elim (cases_lt c.floor.0 t) [
    | inl later ↦
        up_to_later v x c.floor.0 t c.queue.waiting (held v x) (omega (arith, later)) sound.stamps
        ∙ h.holds v x c.floor.0 settled (floor_copies v x c.floor.0 c.queue.waiting sound.stamps) low (omega arith)
        ∙ ap (λ (r : List Rec). Some r) (sym (tells v x t (omega (arith, later)) to))
    | inr early ↦ h.holds v x t settled copies from early
  ];
}

-- ---- a drop

pub drops : (truth : Tracks) (last : ℕ) (held : Kept) (c : ControlState) (w : ℕ) (all : Bool) → (all ≡ false → (y : ℕ) → passes (wants y) (volume_of w c.volumes) ≡ false) → HoldsTold truth last held c → HoldsTold truth last held (dropped w all c)
drops truth last held c w all none h = record {
  holds = λ v x t settled copies from to.
      let was = settled_dropped w v x all (entry_tracks w c.queue.waiting) c.volumes none settled in
      elim (cases_Bool (nat_eq w v)) [
        | inr ne ↦
            changed_filter (is_queued_up_to v x t) (λ e. not (is_of_volume w e)) c.queue.waiting (held v x) (λ e gone. other v x t e ne (is_of_volume w e) refl gone)
            ∙ h.holds v x t was.0 (kept v x t ne c.queue.waiting copies) from to
        | inl same ↦
            let off = none_on v x (eqb-true w v same) c.queue.waiting (elim was.1 [ inl ne ↦ absurd (true≢false (sym same ∙ ne)) | inr out ↦ out ]) in
            changed_none (is_queued_up_to v x t) (λ e. not (is_queued_on v x e)) (without_volume w c.queue.waiting) (held v x) (λ e is. off_track v x t e is) (all_filter (λ e. not (is_queued_on v x e)) (λ e. not (is_of_volume w e)) c.queue.waiting off)
            ∙ sym (changed_none (is_queued_up_to v x t) (λ e. not (is_queued_on v x e)) c.queue.waiting (held v x) (λ e is. off_track v x t e is) off)
            ∙ h.holds v x t was.0 (no_copy v x t c.queue.waiting off) from to
      ];
}
  where
    none_on : (v x : ℕ) → w ≡ v → (entries : List WaitingEntry) → list_all (λ y. not (nat_eq y x)) (entry_tracks w entries) ≡ true → list_all (λ e. not (is_queued_on v x e)) entries ≡ true
    none_on v x same [] out = refl
    none_on v x same (e ∷ entries) out = choose (nat_eq e.head.volume w) refl out (none_on v x same entries)
      where
        choose : (b : Bool) → nat_eq e.head.volume w ≡ b → list_all (λ y. not (nat_eq y x)) (map (λ e. e.head.track) (cond b (e ∷ filter (is_of_volume w) entries) (filter (is_of_volume w) entries))) ≡ true
            → (list_all (λ y. not (nat_eq y x)) (entry_tracks w entries) ≡ true → list_all (λ e. not (is_queued_on v x e)) entries ≡ true) → list_all (λ e. not (is_queued_on v x e)) (e ∷ entries) ≡ true
        choose true is out rest =
            let parts = and_parts (not (nat_eq e.head.track x)) (list_all (λ y. not (nat_eq y x)) (entry_tracks w entries)) out in
            and_from (not (is_queued_on v x e)) (list_all (λ e. not (is_queued_on v x e)) entries) (off (nat_eq e.head.volume v) (nat_eq e.head.track x) parts.0) (rest parts.1)
          where
            off : (a b : Bool) → not b ≡ true → not (a && b) ≡ true
            off true b e = e
            off false b e = refl
        choose false is out rest = and_from (not (is_queued_on v x e)) (list_all (λ e. not (is_queued_on v x e)) entries) (simp (subst (λ i. nat_eq e.head.volume i ≡ false) same is) refl) (rest out)

    off_track : (v x t : ℕ) (e : WaitingEntry) → not (is_queued_on v x e) ≡ true → is_queued_up_to v x t e ≡ false
    off_track v x t e is = both (is_queued_on v x e) (nat_le (entry_stamp e) t) is
      where
        both : (a b : Bool) → not a ≡ true → (a && b) ≡ false
        both true b e = absurd (true≢false (sym e))
        both false b e = refl

    no_copy : (v x t : ℕ) (entries : List WaitingEntry) → list_all (λ e. not (is_queued_on v x e)) entries ≡ true → has_no_later_copy v x t entries ≡ true
    no_copy v x t [] none = refl
    no_copy v x t (e ∷ entries) none =
        let parts = and_parts (not (is_queued_on v x e)) (list_all (λ e. not (is_queued_on v x e)) entries) none in
        and_from (is_no_later_copy v x t e) (has_no_later_copy v x t entries) (free e.is_copy (is_queued_on v x e) (nat_le (entry_stamp e) t) parts.0) (no_copy v x t entries parts.1)
      where
        free : (a b d : Bool) → not b ≡ true → (not (a && b) || d) ≡ true
        free true true d e = absurd (true≢false (sym e))
        free true false d e = refl
        free false b d e = refl

    apart : (v : ℕ) (e : WaitingEntry) → nat_eq w v ≡ false → nat_eq e.head.volume w ≡ true → nat_eq e.head.volume v ≡ false
    apart v e ne is = elim (cases_Bool (nat_eq e.head.volume v)) [
      | inl at ↦ absurd (eqb-false w v ne (sym (eqb-true e.head.volume w is) ∙ eqb-true e.head.volume v at))
      | inr at ↦ at
    ]

    other : (v x t : ℕ) (e : WaitingEntry) → nat_eq w v ≡ false → (b : Bool) → is_of_volume w e ≡ b → not b ≡ false → is_queued_up_to v x t e ≡ false
    other v x t e ne true is gone = rw (apart v e ne is) refl
    other v x t e ne false is gone = absurd cc

    kept : (v x t : ℕ) → nat_eq w v ≡ false → (entries : List WaitingEntry) → has_no_later_copy v x t (without_volume w entries) ≡ true → has_no_later_copy v x t entries ≡ true
    kept v x t ne [] copies = refl
    kept v x t ne (e ∷ entries) copies = choose (is_of_volume w e) refl copies (kept v x t ne entries)
      where
        choose : (b : Bool) → is_of_volume w e ≡ b → has_no_later_copy v x t (cond (not b) (e ∷ without_volume w entries) (without_volume w entries)) ≡ true
            → (has_no_later_copy v x t (without_volume w entries) ≡ true → has_no_later_copy v x t entries ≡ true) → has_no_later_copy v x t (e ∷ entries) ≡ true
        choose true is copies rest = and_from (is_no_later_copy v x t e) (has_no_later_copy v x t entries) (free e.is_copy (nat_eq e.head.volume v) (nat_eq e.head.track x) (nat_le (entry_stamp e) t) (apart v e ne is)) (rest copies)
          where
            free : (a b c d : Bool) → b ≡ false → (not (a && (b && c)) || d) ≡ true
            free true true c d e = absurd cc
            free true false c d e = refl
            free false b c d e = refl
        choose false is copies rest =
            let parts = and_parts (is_no_later_copy v x t e) (has_no_later_copy v x t (without_volume w entries)) copies in
            and_from (is_no_later_copy v x t e) (has_no_later_copy v x t entries) parts.0 (rest parts.1)

-- ---- a form

pub forms : (truth : Tracks) (last : ℕ) (cut : Stamp) (held : Kept) (c : ControlState) → Sound c → last ≤ cut.0 → HoldsTold truth last held c
    → HoldsTold truth cut.0 (λ v x. after_entries (is_queued_on v x) (due cut c.queue.waiting) (held v x)) (formed cut c)
forms truth last cut held c sound rises h = record {
  holds = λ v x t settled copies from to.
      let was = sym (settled_copies v x c.volumes (filter (λ e. e.is_copy) (due cut c.queue.waiting))) ∙ settled in
      ap (after_entries (is_queued_up_to v x t) (left cut c.queue.waiting)) (taken v x t from c.queue.waiting (held v x))
      ∙ sym (changed_append (is_queued_up_to v x t) (due cut c.queue.waiting) (left cut c.queue.waiting) (held v x))
      ∙ ap (λ (es : List WaitingEntry). after_entries (is_queued_up_to v x t) es (held v x)) (each_once cut 0 c.queue.waiting sound.rises)
      ∙ h.holds v x t was (all_copies v x t from c.queue.waiting copies) (omega (arith, rises, from)) to;
}
  where
    -- what the cut takes is up to each later time
    taken : (v x t : ℕ) → cut.0 ≤ t → (entries : List WaitingEntry) (old : Option (List Rec)) → after_entries (is_queued_on v x) (due cut entries) old ≡ after_entries (is_queued_up_to v x t) (due cut entries) old
    taken v x t le [] old = refl
    taken v x t le (e ∷ entries) old = choose (nat_le (entry_stamp e) cut.0) refl (taken v x t le entries)
      where
        choose : (b : Bool) → nat_le (entry_stamp e) cut.0 ≡ b → ((o : Option (List Rec)) → after_entries (is_queued_on v x) (due cut entries) o ≡ after_entries (is_queued_up_to v x t) (due cut entries) o)
            → after_entries (is_queued_on v x) (cond b (e ∷ due cut entries) (due cut entries)) old ≡ after_entries (is_queued_up_to v x t) (cond b (e ∷ due cut entries) (due cut entries)) old
        choose true is rest =
            let low : nat_le (entry_stamp e) t ≡ true = le-leb (entry_stamp e) t (omega (arith, le, leb-true (entry_stamp e) cut.0 is)) in
            rest (changed_by (is_queued_on v x e) e.kind old) ∙ ap (λ b. after_entries (is_queued_up_to v x t) (due cut entries) (changed_by b e.kind old)) (whole (is_queued_on v x e) (nat_le (entry_stamp e) t) low)
          where
            whole : (a b : Bool) → b ≡ true → a ≡ (a && b)
            whole true b e = sym e
            whole false b e = refl
        choose false is rest = rest old

    all_copies : (v x t : ℕ) → cut.0 ≤ t → (entries : List WaitingEntry) → has_no_later_copy v x t (left cut entries) ≡ true → has_no_later_copy v x t entries ≡ true
    all_copies v x t le [] copies = refl
    all_copies v x t le (e ∷ entries) copies = choose (cases_lt cut.0 (entry_stamp e)) copies (all_copies v x t le entries)
      where
        either : (a b : Bool) → b ≡ true → (a || b) ≡ true
        either true b e = refl
        either false b e = e

        choose : (cut.0 < entry_stamp e) ⊎ (entry_stamp e ≤ cut.0) → has_no_later_copy v x t (left cut (e ∷ entries)) ≡ true → (has_no_later_copy v x t (left cut entries) ≡ true → has_no_later_copy v x t entries ≡ true) → has_no_later_copy v x t (e ∷ entries) ≡ true
        choose (inl lt) copies rest =
            let parts = and_parts (is_no_later_copy v x t e) (has_no_later_copy v x t (left cut entries)) (sym (simp (lt-ltb cut.0 (entry_stamp e) lt) refl) ∙ copies) in
            and_from (is_no_later_copy v x t e) (has_no_later_copy v x t entries) parts.0 (rest parts.1)
        choose (inr low) copies rest =
            and_from (is_no_later_copy v x t e) (has_no_later_copy v x t entries)
            (either (not (e.is_copy && is_queued_on v x e)) (nat_le (entry_stamp e) t) (le-leb (entry_stamp e) t (omega (arith, low, le)))) (rest (sym (simp (le-ltb cut.0 (entry_stamp e) low) refl) ∙ copies))

-- ---- a carry, a resume and a forget

pub begins : (truth : Tracks) (last : ℕ) (held : Kept) (c : ControlState) (w : ℕ) (plan : PlanState) → ((x : ℕ) → x < length plan.wanted → has_track plan.wanted x ≡ true) → HoldsTold truth last held c → HoldsTold truth last held (begun_volume w plan c)
begins truth last held c w plan every h = record { holds = λ v x t settled copies from to. h.holds v x t (settled_begun w v x plan c.volumes every settled) copies from to }

pub resumes : (truth : Tracks) (last : ℕ) (held : Kept) (c : ControlState) (w : ℕ) → is_dropped w c.volumes ≡ true → HoldsTold truth last held c → HoldsTold truth last held (resumed w c)
resumes truth last held c w dropped h = record { holds = λ v x t settled copies from to. h.holds v x t (sym (settled_resumed w v x c.volumes dropped) ∙ settled) copies from to }

pub forgets : (truth : Tracks) (last : ℕ) (held : Kept) (c : ControlState) (w : ℕ) → Sound c → HoldsTold truth last held c → HoldsTold truth last held (forgotten w c)
forgets truth last held c w sound h = record { holds = λ v x t settled copies from to. h.holds v x t (settled_forgotten w v x c.volumes sound.distinct settled) copies from to }
