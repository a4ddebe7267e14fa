-- What a log leaves of a dropped volume's map: it grows, or it is whole.
use Rattle.std.proofs.Common.{◌≡◌, ℕ, ◌<◌, Bool, true, false, cond, nat_eq, ◌&&◌, ◌||◌, List, [], ◌∷◌, length, Option, Some, None, ◌⊎◌, inl, inr, refl, sym, ap, subst, ◌∙◌, arith, true≢false}
use Rattle.std.specs.Prelude.{slice_get}
use Rattle.std.specs.List.{list_all}
use Rattle.std.proofs.lemmas.Bool.{and_parts, eq-eqb, eqb-true}
use Rattle.std.proofs.lemmas.Option.{slice_get_within}
use Rattle.tod_stamp.specs.declared.stamp.Stamp.{Stamp}
use Rattle.write_trace.specs.declared.trace.Trace.{Trace}
use Rattle.pending_queue.specs.Entries.{copies, due, entry_tracks}
use Rattle.group_state.specs.declared.volume.Volume.{Volume}
use Rattle.group_state.specs.Volumes.{passes, volume_of}
use Rattle.group_state.specs.Controls.{ControlState, broke, copied, dropped, joined, raised}
use Rattle.group_state.specs.Groups.{Group, control_at, cut_of, formed_at, with_control}
use Rattle.group_state.specs.Machine.{Call, Reply}
use Rattle.group_state.specs.Machine.Call.{Join, NextWanted, Copied, Raise, Break, Form, Carry, Drop, Resume, Forget}
use Rattle.group_state.specs.Runs.{Answer}
use Rattle.group_state.specs.SoundStates.{is_dropped}
use Rattle.fed_logs.specs.Feeds.{is_call_of_reader}
use Rattle.fed_logs.specs.Logs.{IsFedLog, is_call_of_seat, is_of_size}
use Rattle.fed_logs.proofs.Keeping.{at_map}
use Rattle.fed_logs.proofs.ReadCalls.{answer_of, drop_log, fed_own, form_log, read_on, some_trace}
use Rattle.fed_logs.proofs.Standing.{at_with}
use Rattle.fed_logs.proofs.Went.{WentRead}
use Rattle.fed_logs.proofs.Went.WentRead.{Same, Joins, Copies, Raises, Breaks}
use Rattle.mover.specs.Dropping.{owed_by_call, owed_by_calls, owed_in_turn}
use Rattle.xrc_session.specs.Maps.{MapsAreWhole, MapsGrow, maps_track, has_write_between}
use Rattle.xrc_session.proofs.MapsCalls.{Grown, drop_grows, form_grows, grown_same, grown_then, read_grows}
use Rattle.xrc_session.proofs.MapsKeeps.{sound_at}
use Rattle.xrc_session.proofs.MapsVolumes.{IsSteady, all_mapped, dropped_is, kept_of, other_dropped, size_steady, sized_dropped, steady_copied, steady_formed, steady_writes}

-- ---- what calls owe

-- all tracks are owed by some drop of the volume
abbrev pub OwesAll : (k v : ℕ) → List Answer → Type 0
OwesAll k v run = owed_by_calls k v run ≡ Some true

pub some_flag : (a b : Bool) → (let x : Option Bool = Some a in let y : Option Bool = Some b in x ≡ y) → a ≡ b
some_flag a b e = cc

-- What is owed later is owed.
owes_later : (first later : Option Bool) → later ≡ Some true → owed_in_turn first later ≡ Some true
owes_later None later is = is
owes_later (Some all) None is = absurd cc
owes_later (Some all) (Some every) is = ap (λ (b : Bool). Some (all || b)) (some_flag every true is) ∙ ap Some (or_all all)
  where
    or_all : (b : Bool) → (b || true) ≡ true
    or_all true = refl
    or_all false = refl

owes_first : (first later : Option Bool) → first ≡ Some true → owed_in_turn first later ≡ Some true
owes_first None later is = absurd cc
owes_first (Some all) None is = is
owes_first (Some all) (Some every) is = ap (λ (b : Bool). Some (b || every)) (some_flag all true is)

-- What is owed is owed first or later.
owes_either : (first later : Option Bool) → owed_in_turn first later ≡ Some true → (first ≡ Some true) ⊎ (later ≡ Some true)
owes_either None later is = inr is
owes_either (Some all) None is = inl is
owes_either (Some true) (Some every) is = inl refl
owes_either (Some false) (Some every) is = inr is

-- ---- it grows

module _ (traces : List Trace) (k v : ℕ) (t : Trace) (own : slice_get traces k ≡ Some t) where
  abbrev Goes : List Answer → Type 0
  Goes run = (s end : Group) → IsFedLog traces s end run → (OwesAll k v run → ⊥) → is_dropped v (control_at s k).volumes ≡ true → Grown t v (control_at s k) (control_at end k)

  low_in : (s end : Group) (run : List Answer) → IsFedLog traces s end run → k < length s.controls
  low_in s end run log = let within = slice_get_within traces k t own in let each = log.each in omega (arith, within, each)

  read_goes : (call : Call) (reply : Reply) (run : List Answer) → is_call_of_reader call ≡ true → Goes run → Goes (answer_of call reply ∷ run)
  read_goes call reply run reads rest s end log none gone =
      let on = read_on traces s end call reply run reads log in
      let low = low_in s end (answer_of call reply ∷ run) log in
      let first = read_grows t k v s low gone call reply on.next on.went on.may (λ mine done. fed_own t k (control_at s k).floor.0 (answer_of call reply) run mine done (log.fed k t own)) in
      grown_then t v (control_at s k) (control_at on.next k) (control_at end k) first (rest on.next end on.log (λ e. none (owes_later (owed_by_call k v call) (owed_by_calls k v run) e)) first.dropped)

  one_goes : (call : Call) (reply : Reply) (run : List Answer) → Goes run → Goes (answer_of call reply ∷ run)
  one_goes (Join b) reply run rest = read_goes (Join b) reply run refl rest
  one_goes (NextWanted j) reply run rest = read_goes (NextWanted j) reply run refl rest
  one_goes (Copied j w y at slot) reply run rest = read_goes (Copied j w y at slot) reply run refl rest
  one_goes (Raise j upto) reply run rest = read_goes (Raise j upto) reply run refl rest
  one_goes (Break j upto cause) reply run rest = read_goes (Break j upto cause) reply run refl rest
  one_goes (Form limit) reply run rest = λ s end log none gone.
      let first = form_grows t k v s (low_in s end (answer_of (Form limit) reply ∷ run) log) gone (cut_of s limit) in
      grown_then t v (control_at s k) (control_at (formed_at (cut_of s limit) s) k) (control_at end k) first
      (rest (formed_at (cut_of s limit) s) end (form_log traces s end limit reply run log) none first.dropped)
  one_goes (Drop j w all) reply run rest = λ s end log none gone.
      let low = low_in s end (answer_of (Drop j w all) reply ∷ run) log in
      let first = drop_grows t k v s low gone j w all (sound_at s k log.kept low) (λ mine. part (all) refl (λ e. none (owes_first (owed_by_call k v (Drop j w all)) (owed_by_calls k v run) (ap (λ (b : Bool). cond b (Some all) None) mine ∙ ap Some e)))) in
      grown_then t v (control_at s k) (control_at (with_control j (dropped w all) s) k) (control_at end k) first
      (rest (with_control j (dropped w all) s) end (drop_log traces s end j w all reply run log) (λ e. none (owes_later (owed_by_call k v (Drop j w all)) (owed_by_calls k v run) e)) first.dropped)
    where
      part : (b : Bool) → all ≡ b → (b ≡ true → ⊥) → all ≡ false
      part true is never = absurd (never refl)
      part false is never = is
  one_goes (Carry j w plan) reply run rest = λ s end log none gone. absurd (true≢false (sym (and_parts (is_call_of_seat (answer_of (Carry j w plan) reply)) (list_all is_call_of_seat run) log.seats).0))
  one_goes (Resume j w) reply run rest = λ s end log none gone. absurd (true≢false (sym (and_parts (is_call_of_seat (answer_of (Resume j w) reply)) (list_all is_call_of_seat run) log.seats).0))
  one_goes (Forget j w) reply run rest = λ s end log none gone. absurd (true≢false (sym (and_parts (is_call_of_seat (answer_of (Forget j w) reply)) (list_all is_call_of_seat run) log.seats).0))

  -- The map of a dropped volume grows, if none of its drops is with all tracks.
  pub grows_over : (run : List Answer) → Goes run
  grows_over [] = λ s end log none gone. subst (λ (g : Group). Grown t v (control_at s k) (control_at g k)) (sym log.runs) (grown_same t v (control_at s k) (control_at s k) refl gone (λ x. refl))
  grows_over (a ∷ run) = one_goes a.call a.reply run (grows_over run)

pub never_owes : (let x : Option Bool = None in let y : Option Bool = Some true in x ≡ y) → ⊥
never_owes e = absurd cc

pub maps_grow : MapsGrow
maps_grow traces s end run k v t log own none gone x = (grows_over traces k v t own run s end log (λ e. never_owes (sym none ∙ e)) gone).grows x

-- ---- it is whole

-- Each of a volume's tracks is in its map, and the volume is dropped.
record IsWhole (n v : ℕ) (c : ControlState) : Type 0 where
  dropped : is_dropped v c.volumes ≡ true
  mapped : (x : ℕ) → x < n → maps_track v x c ≡ true

abbrev HasSize : (n v : ℕ) → ControlState → Type 0
HasSize n v c = passes (is_of_size n) (volume_of v c.volumes) ≡ true

-- What a steady test of a volume finds after calls.
module _ (test : Volume → Bool) (steady : IsSteady test) (k v : ℕ) where
  abbrev Passes : ControlState → Type 0
  Passes c = passes test (volume_of v c.volumes) ≡ true

  pub test_read : (s : Group) (call : Call) (reply : Reply) (next : Group) → WentRead s call reply next → k < length s.controls → passes test (volume_of v (control_at s k).volumes) ≡ true → passes test (volume_of v (control_at next k).volumes) ≡ true
  test_read s _ _ _ (Same call reply none) low is = is
  test_read s _ _ _ (Joins b) low is = at_with s b.control k (joined b) Passes low (λ same. steady_writes test steady v (control_at s k).volumes b.writes ∙ is) (λ apart. is)
  test_read s _ _ _ (Copies j w y at slot wanted) low is = at_with s j k (copied w y at slot) Passes low (λ same. steady_copied test steady v w y (control_at s k).volumes ∙ is) (λ apart. is)
  test_read s _ _ _ (Raises j upto) low is = at_with s j k (raised upto) Passes low (λ same. is) (λ apart. is)
  test_read s _ _ _ (Breaks j upto cause) low is = at_with s j k (broke upto cause) Passes low (λ same. is) (λ apart. is)

  pub test_form : (s : Group) (cut : Stamp) → k < length s.controls → passes test (volume_of v (control_at s k).volumes) ≡ true → passes test (volume_of v (control_at (formed_at cut s) k).volumes) ≡ true
  test_form s cut low is =
      let c = control_at s k in
      subst Passes (sym (at_map cut s.controls k low)) (steady_formed test steady v c.volumes (copies (due cut c.queue.waiting)) ∙ is)

  -- after a drop of another volume
  pub test_drop : (s : Group) (j w : ℕ) (all : Bool) → k < length s.controls → (nat_eq j k && nat_eq w v) ≡ false → passes test (volume_of v (control_at s k).volumes) ≡ true → passes test (volume_of v (control_at (with_control j (dropped w all) s) k).volumes) ≡ true
  test_drop s j w all low other is = at_with s j k (dropped w all) Passes low
      (λ same. other_dropped test w v all (entry_tracks w (control_at s k).queue.waiting) (sym (ap (λ (b : Bool). b && nat_eq w v) (eq-eqb j k same)) ∙ other) (control_at s k).volumes ∙ is) (λ apart. is)

size_drop : (k v n : ℕ) (s : Group) (j w : ℕ) (all : Bool) → k < length s.controls → HasSize n v (control_at s k) → HasSize n v (control_at (with_control j (dropped w all) s) k)
size_drop k v n s j w all low sized =
    at_with s j k (dropped w all) (HasSize n v) low (λ is. sized_dropped n w v all (entry_tracks w (control_at s k).queue.waiting) (control_at s k).volumes ∙ sized) (λ apart. sized)

grown_whole : (t : Trace) (n v : ℕ) (c d : ControlState) → Grown t v c d → IsWhole n v c → IsWhole n v d
grown_whole t n v c d grown whole = record {
  dropped = grown.dropped;
  mapped = λ x low. grown.grows x ∙ ap (λ (b : Bool). b || has_write_between t v x c.floor.0 d.floor.0) (whole.mapped x low);
}

-- A drop with all tracks of a volume that is kept.
dropped_whole : (n v : ℕ) (c : ControlState) → HasSize n v c → IsWhole n v (dropped v true c)
dropped_whole n v c sized = record {
  dropped = dropped_is v true (entry_tracks v c.queue.waiting) c.volumes (kept_of (is_of_size n) (volume_of v c.volumes) sized);
  mapped = λ x low. all_mapped n v x (entry_tracks v c.queue.waiting) c.volumes low sized;
}

module _ (traces : List Trace) (k v n : ℕ) (t : Trace) (own : slice_get traces k ≡ Some t) where
  abbrev Fills : List Answer → Type 0
  Fills run = (s end : Group) → IsFedLog traces s end run → HasSize n v (control_at s k) → OwesAll k v run ⊎ IsWhole n v (control_at s k) → IsWhole n v (control_at end k)

  read_fills : (call : Call) (reply : Reply) (run : List Answer) → is_call_of_reader call ≡ true → owed_by_call k v call ≡ None → Fills run → Fills (answer_of call reply ∷ run)
  read_fills call reply run reads owes rest s end log sized so =
      let on = read_on traces s end call reply run reads log in
      let low = low_in traces k v t own s end (answer_of call reply ∷ run) log in
      rest on.next end on.log (test_read (is_of_size n) (size_steady n) k v s call reply on.next on.went low sized) (elim so [
        | inl all ↦ inl (sym (ap (λ (o : Option Bool). owed_in_turn o (owed_by_calls k v run)) owes) ∙ all)
        | inr whole ↦
            inr (grown_whole t n v (control_at s k) (control_at on.next k)
            (read_grows t k v s low whole.dropped call reply on.next on.went on.may (λ mine done. fed_own t k (control_at s k).floor.0 (answer_of call reply) run mine done (log.fed k t own))) whole)
      ])

  drop_fills : (j w : ℕ) (all : Bool) (reply : Reply) (run : List Answer) → Fills run → Fills (answer_of (Drop j w all) reply ∷ run)
  drop_fills j w all reply run rest s end log sized so =
      rest (with_control j (dropped w all) s) end (drop_log traces s end j w all reply run log) (size_drop k v n s j w all low sized) (elim so [
        | inl owes ↦ by_owed (nat_eq j k && nat_eq w v) refl owes
        | inr whole ↦ inr (after whole)
      ])
    where
      low : k < length s.controls
      low = low_in traces k v t own s end (answer_of (Drop j w all) reply ∷ run) log

      filled : (nat_eq j k && nat_eq w v) ≡ true → all ≡ true → IsWhole n v (control_at (with_control j (dropped w all) s) k)
      filled mine every =
          let parts = and_parts (nat_eq j k) (nat_eq w v) mine in
          at_with s j k (dropped w all) (IsWhole n v) low
          (λ is. subst (λ (u : ℕ). IsWhole n v (dropped u all (control_at s k))) (sym (eqb-true w v parts.1)) (subst (λ (b : Bool). IsWhole n v (dropped v b (control_at s k))) (sym every) (dropped_whole n v (control_at s k) sized)))
          (λ apart. absurd (true≢false (sym parts.0 ∙ apart)))

      grown : (b : Bool) → (nat_eq j k && nat_eq w v) ≡ b → (a : Bool) → all ≡ a → IsWhole n v (control_at s k) → IsWhole n v (control_at (with_control j (dropped w all) s) k)
      grown true mine true every whole = filled mine every
      grown true mine false some whole = grown_whole t n v (control_at s k) (control_at (with_control j (dropped w all) s) k) (drop_grows t k v s low whole.dropped j w all (sound_at s k log.kept low) (λ is. some)) whole
      grown false other a is whole =
          grown_whole t n v (control_at s k) (control_at (with_control j (dropped w all) s) k) (drop_grows t k v s low whole.dropped j w all (sound_at s k log.kept low) (λ is. absurd (true≢false (sym is ∙ other)))) whole

      after : IsWhole n v (control_at s k) → IsWhole n v (control_at (with_control j (dropped w all) s) k)
      after = grown (nat_eq j k && nat_eq w v) refl all refl

      by_owed : (b : Bool) → (nat_eq j k && nat_eq w v) ≡ b → OwesAll k v (answer_of (Drop j w all) reply ∷ run) → OwesAll k v run ⊎ IsWhole n v (control_at (with_control j (dropped w all) s) k)
      by_owed false other owes = inl (sym (ap (λ (b : Bool). owed_in_turn (cond b (Some all) None) (owed_by_calls k v run)) other) ∙ owes)
      by_owed true mine owes = elim (owes_either (Some all) (owed_by_calls k v run) (sym (ap (λ (b : Bool). owed_in_turn (cond b (Some all) None) (owed_by_calls k v run)) mine) ∙ owes)) [
        | inl now ↦ inr (filled mine (some_flag all true now))
        | inr later ↦ inl later
      ]

  one_fills : (call : Call) (reply : Reply) (run : List Answer) → Fills run → Fills (answer_of call reply ∷ run)
  one_fills (Join b) reply run rest = read_fills (Join b) reply run refl refl rest
  one_fills (NextWanted j) reply run rest = read_fills (NextWanted j) reply run refl refl rest
  one_fills (Copied j w y at slot) reply run rest = read_fills (Copied j w y at slot) reply run refl refl rest
  one_fills (Raise j upto) reply run rest = read_fills (Raise j upto) reply run refl refl rest
  one_fills (Break j upto cause) reply run rest = read_fills (Break j upto cause) reply run refl refl rest
  one_fills (Form limit) reply run rest = λ s end log sized so.
      let low = low_in traces k v t own s end (answer_of (Form limit) reply ∷ run) log in
      rest (formed_at (cut_of s limit) s) end (form_log traces s end limit reply run log) (test_form (is_of_size n) (size_steady n) k v s (cut_of s limit) low sized) (elim so [
        | inl owes ↦ inl owes
        | inr whole ↦ inr (grown_whole t n v (control_at s k) (control_at (formed_at (cut_of s limit) s) k) (form_grows t k v s low whole.dropped (cut_of s limit)) whole)
      ])
  one_fills (Drop j w all) reply run rest = drop_fills j w all reply run rest
  one_fills (Carry j w plan) reply run rest = λ s end log sized so. absurd (true≢false (sym (and_parts (is_call_of_seat (answer_of (Carry j w plan) reply)) (list_all is_call_of_seat run) log.seats).0))
  one_fills (Resume j w) reply run rest = λ s end log sized so. absurd (true≢false (sym (and_parts (is_call_of_seat (answer_of (Resume j w) reply)) (list_all is_call_of_seat run) log.seats).0))
  one_fills (Forget j w) reply run rest = λ s end log sized so. absurd (true≢false (sym (and_parts (is_call_of_seat (answer_of (Forget j w) reply)) (list_all is_call_of_seat run) log.seats).0))

  fills_over : (run : List Answer) → Fills run
  fills_over [] = λ s end log sized so. subst (λ (g : Group). IsWhole n v (control_at g k)) (sym log.runs) (elim so [ inl owes ↦ absurd (never_owes owes) | inr whole ↦ whole ])
  fills_over (a ∷ run) = one_fills a.call a.reply run (fills_over run)

pub maps_are_whole : MapsAreWhole
maps_are_whole traces s end run k v n log low owes sized x within =
    let t = some_trace traces k (let each = log.each in omega (arith, low, each)) in
    (fills_over traces k v n t.0 t.1 run s end log sized (inl owes)).mapped x within
