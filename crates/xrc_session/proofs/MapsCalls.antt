-- What each call of a fed log leaves of a dropped volume's map.
use Rattle.std.proofs.Common.{◌≡◌, ℕ, ◌<◌, ◌≤◌, Bool, true, false, nat_eq, ◌&&◌, ◌||◌, List, [], length, refl, sym, ap, subst, ◌∙◌, arith}
use Rattle.std.specs.List.{list_any}
use Rattle.std.proofs.lemmas.Bool.{eq-eqb, eqb-true}
use Rattle.tod_stamp.specs.declared.stamp.Stamp.{Stamp}
use Rattle.change_map.specs.Sets.{has_track}
use Rattle.ckd_track.specs.declared.write.Batch.{Batch}
use Rattle.write_trace.specs.declared.entry.Entry.{Entry}
use Rattle.write_trace.specs.declared.trace.Trace.{Trace}
use Rattle.write_trace.specs.Writes.{writes_of}
use Rattle.primary_ctl.specs.States.{is_on}
use Rattle.pending_queue.specs.Entries.{copies, due, entry_tracks}
use Rattle.group_state.specs.Volumes.{volume_of}
use Rattle.group_state.specs.Controls.{ControlState, broke, copied, dropped, formed, joined, raised}
use Rattle.group_state.specs.Groups.{Group, control_at, formed_at, with_control}
use Rattle.group_state.specs.Machine.{Call, Reply}
use Rattle.group_state.specs.Runs.{May}
use Rattle.group_state.specs.SoundStates.{MayJoin, Sound, is_dropped}
use Rattle.group_state.specs.Calls.{is_by_reader}
use Rattle.group_state.proofs.SoundLaws.{dropped_none, none_waits}
use Rattle.fed_logs.specs.ToldTracks.{floor_of, has_changed}
use Rattle.fed_logs.specs.Feeds.{IsFedBy, entries_between}
use Rattle.fed_logs.proofs.Keeping.{at_map}
use Rattle.fed_logs.proofs.Standing.{at_with}
use Rattle.fed_logs.proofs.Went.{WentRead}
use Rattle.fed_logs.proofs.Went.WentRead.{Same, Joins, Copies, Raises, Breaks}
use Rattle.xrc_session.specs.Maps.{maps_track, has_write_between}
use Rattle.xrc_session.proofs.MapsWrites.{or_none, written_both, written_in, written_none}
use Rattle.xrc_session.proofs.MapsVolumes.{dropped_is, gone_steady, has_in, is_gone, kept_of, mapped_copied, mapped_formed, mapped_writes, none_tracked, other_dropped, steady_copied, steady_formed, steady_writes}

-- A volume stays dropped, and its map gets what a trace writes from the controller's floor to the one after it.
pub record Grown (t : Trace) (v : ℕ) (c d : ControlState) : Type 0 where
  pub dropped : is_dropped v d.volumes ≡ true
  pub up : c.floor.0 ≤ d.floor.0
  pub grows : (x : ℕ) → maps_track v x d ≡ (maps_track v x c || has_write_between t v x c.floor.0 d.floor.0)

-- A change that leaves floor, map and volume leaves it so.
pub grown_same : (t : Trace) (v : ℕ) (c d : ControlState) → d.floor.0 ≡ c.floor.0 → is_dropped v d.volumes ≡ true → ((x : ℕ) → maps_track v x d ≡ maps_track v x c) → Grown t v c d
grown_same t v c d floor gone same = record {
  dropped = gone;
  up = omega (arith, floor);
  grows = λ x. same x ∙ sym (or_none (maps_track v x c)) ∙ ap (λ (b : Bool). maps_track v x c || b) (sym (written_none t v x c.floor.0 d.floor.0 (omega (arith, floor))));
}

pub grown_then : (t : Trace) (v : ℕ) (c d e : ControlState) → Grown t v c d → Grown t v d e → Grown t v c e
grown_then t v c d e first then = record {
  dropped = then.dropped;
  up = (let a = first.up in let b = then.up in omega (arith, a, b));
  grows = λ x.
      then.grows x ∙ ap (λ (b : Bool). b || has_write_between t v x d.floor.0 e.floor.0) (first.grows x)
      ∙ regroup (maps_track v x c) (has_write_between t v x c.floor.0 d.floor.0) (has_write_between t v x d.floor.0 e.floor.0)
      ∙ ap (λ (b : Bool). maps_track v x c || b) (written_both t v x c.floor.0 d.floor.0 e.floor.0 first.up then.up);
}
  where
    regroup : (a b c : Bool) → ((a || b) || c) ≡ (a || (b || c))
    regroup true b c = refl
    regroup false b c = refl

-- The floor goes up, and nothing is written up to there.
grown_up : (t : Trace) (v : ℕ) (c d : ControlState) → c.floor.0 ≤ d.floor.0 → is_dropped v d.volumes ≡ true → ((x : ℕ) → maps_track v x d ≡ maps_track v x c) → entries_between t c.floor.0 d.floor.0 ≡ [] → Grown t v c d
grown_up t v c d up gone same none = record {
  dropped = gone;
  up = up;
  grows = λ x. same x ∙ sym (or_none (maps_track v x c)) ∙ ap (λ (b : Bool). maps_track v x c || b) (sym (unwritten x));
}
  where
    unwritten : (x : ℕ) → has_write_between t v x c.floor.0 d.floor.0 ≡ false
    unwritten x = sym (written_in t v x c.floor.0 d.floor.0) ∙ ap (λ (entries : List Entry). list_any (is_on v x) (writes_of entries)) none

joined_grows : (t : Trace) (v : ℕ) (b : Batch) (c : ControlState) → is_dropped v c.volumes ≡ true → MayJoin c b → b.writes ≡ writes_of (entries_between t c.floor.0 b.upto.0) → Grown t v c (joined b c)
joined_grows t v b c gone may writes = record {
  dropped = steady_writes is_gone gone_steady v c.volumes b.writes ∙ gone;
  up = may.tells.up;
  grows = λ x. mapped_writes v x c.volumes b.writes gone may.tracks ∙ ap (λ (w : Bool). has_in v x c.volumes || w) (ap (list_any (is_on v x)) writes ∙ written_in t v x c.floor.0 b.upto.0);
}

-- ---- a reader's call

module _ (t : Trace) (k v : ℕ) (s : Group) (low : k < length s.controls) (gone : is_dropped v (control_at s k).volumes ≡ true) where
  abbrev Grows : ControlState → Type 0
  Grows d = Grown t v (control_at s k) d

  still : Grows (control_at s k)
  still = grown_same t v (control_at s k) (control_at s k) refl gone (λ x. refl)

  pub read_grows : (call : Call) (reply : Reply) (next : Group) → WentRead s call reply next → May s call → (is_by_reader k call ≡ true → has_changed reply ≡ true → IsFedBy t (floor_of s k) call) → Grows (control_at next k)
  read_grows _ _ _ (Same call reply none) may fed = still
  read_grows _ _ _ (Joins b) may fed = at_with s b.control k (joined b) Grows low
      (λ is. joined_grows t v b (control_at s k) gone (subst (λ (i : ℕ). MayJoin (control_at s i) b) is may.legal) (fed (eq-eqb b.control k is) refl).0.writes)
      (λ apart. still)
  read_grows _ _ _ (Copies j w y at slot wanted) may fed = at_with s j k (copied w y at slot) Grows low
      (λ is. grown_same t v (control_at s k) (copied w y at slot (control_at s k)) refl (steady_copied is_gone gone_steady v w y (control_at s k).volumes ∙ gone) (λ x. mapped_copied w y v x (control_at s k).volumes))
      (λ apart. still)
  read_grows _ _ _ (Raises j upto) may fed = at_with s j k (raised upto) Grows low
      (λ is. grown_up t v (control_at s k) (raised upto (control_at s k)) (subst (λ (i : ℕ). floor_of s i ≤ upto.0) is may.1.up) gone (λ x. refl) (fed (eq-eqb j k is) refl).0)
      (λ apart. still)
  read_grows _ _ _ (Breaks j upto cause) may fed = at_with s j k (broke upto cause) Grows low
      (λ is. grown_up t v (control_at s k) (broke upto cause (control_at s k)) (subst (λ (i : ℕ). floor_of s i ≤ upto.0) is may.1.up) gone (λ x. refl) (fed (eq-eqb j k is) refl).0)
      (λ apart. still)

  -- ---- the mover's calls

  pub form_grows : (cut : Stamp) → Grows (control_at (formed_at cut s) k)
  form_grows cut =
      let c = control_at s k in
      subst Grows (sym (at_map cut s.controls k low))
      (grown_same t v c (formed cut c) refl (steady_formed is_gone gone_steady v c.volumes (copies (due cut c.queue.waiting)) ∙ gone) (λ x. mapped_formed v x c.volumes (copies (due cut c.queue.waiting))))

  -- A drop of another volume, or one without all tracks, of which nothing waits.
  pub drop_grows : (j w : ℕ) (all : Bool) → Sound (control_at s k) → ((nat_eq j k && nat_eq w v) ≡ true → all ≡ false) → Grows (control_at (with_control j (dropped w all) s) k)
  drop_grows j w all sound part = at_with s j k (dropped w all) Grows low (λ is. here (nat_eq w v) refl is) (λ apart. still)
    where
      here : (b : Bool) → nat_eq w v ≡ b → j ≡ k → Grows (dropped w all (control_at s k))
      here false apart is = grown_same t v (control_at s k) (dropped w all (control_at s k)) refl (other_dropped is_gone w v all (entry_tracks w (control_at s k).queue.waiting) apart (control_at s k).volumes ∙ gone)
          (λ x. other_dropped (λ u. has_track u.map x) w v all (entry_tracks w (control_at s k).queue.waiting) apart (control_at s k).volumes)
      here true same is =
          let own : w ≡ v = eqb-true w v same in
          let some : all ≡ false = part (ap (λ (a : Bool). a && nat_eq w v) (eq-eqb j k is) ∙ same) in
          subst (λ (a : Bool). Grows (dropped w a (control_at s k))) (sym some)
          (subst (λ (i : ℕ). Grows (dropped i false (control_at s k))) (sym own)
          (grown_same t v (control_at s k) (dropped v false (control_at s k)) refl (dropped_is v false (entry_tracks v (control_at s k).queue.waiting) (control_at s k).volumes (kept_of is_gone (volume_of v (control_at s k).volumes) gone))
          (λ x. none_tracked v x (control_at s k).volumes (control_at s k).queue.waiting (none_waits v (control_at s k).volumes (control_at s k).queue.waiting (dropped_none v (control_at s k).volumes gone) sound.entries))))
