-- A row is suspended in a log, and its volume dropped without all of its tracks: what is mapped of it begins with the row's suspension.
use Rattle.std.proofs.Common.{◌≡◌, ℕ, ◌<◌, ◌≤◌, Bool, true, false, cond, not, nat_eq, ◌&&◌, ◌||◌, List, [], ◌∷◌, ◌++◌, length, Option, Some, None, ◌⊎◌, inl, inr, refl, sym, ap, subst, ◌∙◌, arith, true≢false}
use Rattle.std.specs.Prelude.{slice_get}
use Rattle.std.specs.List.{All, list_all}
use Rattle.std.proofs.lemmas.Bool.{and_from, and_parts, eqb-true, or_left, or_right}
use Rattle.tod_stamp.specs.declared.stamp.Stamp.{Stamp}
use Rattle.pair_table.specs.declared.row.PairRow.{PairRow}
use Rattle.pair_table.specs.declared.row.PairState.TheVariants.{Suspended}
use Rattle.pair_table.specs.declared.row.SuspendCause.{SuspendCause}
use Rattle.pair_table.specs.Rows.{is_suspended}
use Rattle.pair_table.proofs.PutLaws.{number_sym}
use Rattle.write_trace.specs.declared.trace.Trace.{Trace}
use Rattle.pending_queue.specs.Entries.{WaitingEntry, entry_tracks, is_of_volume}
use Rattle.group_state.specs.Volumes.{passes, volume_of}
use Rattle.group_state.specs.Controls.{ControlState, counts, dropped, formed, new_control}
use Rattle.group_state.specs.Groups.{Group, control_at, cut_of, formed_at, shown_at, with_control}
use Rattle.group_state.specs.Machine.{Call, Reply}
use Rattle.group_state.specs.Machine.Reply.{Made}
use Rattle.group_state.specs.Machine.Call.{Join, NextWanted, Copied, Raise, Break, Form, Carry, Drop, Resume, Forget}
use Rattle.group_state.specs.Calls.{is_by_reader}
use Rattle.group_state.specs.Runs.{Answer}
use Rattle.group_state.specs.SoundStates.{has_reported, is_dropped, is_entry_of_control}
use Rattle.group_state.proofs.FormLaws.{all_at}
use Rattle.record_rows.specs.Deeds.{Deed, rows_after_deeds, rows_by_deed, time_by_deed}
use Rattle.record_rows.specs.Deeds.Deed.{Logged}
use Rattle.pair_table.specs.States.{is_by_device, is_device_suspended, is_duplex}
use Rattle.fed_logs.specs.Feeds.{IsFedBy, is_call_of_reader}
use Rattle.fed_logs.specs.Logs.{BeginsLog, IsFedLog, Sizes, is_call_of_seat}
use Rattle.fed_logs.specs.Moves.{AreQuiet, HasRowIn, IsDuplex, IsKeptWhole, IsLogged, KeepsCall, KeepsDropped, KeepsShown, Plans, ShowsNothing, is_plan_shown_done, plans_with_shown, plans_without}
use Rattle.fed_logs.specs.ToldTracks.{HeldTracks, floor_of, has_changed, held_after_group}
use Rattle.fed_logs.proofs.Bearing.{kept_shown}
use Rattle.fed_logs.proofs.Keeping.{at_map, reported_to_last}
use Rattle.fed_logs.proofs.Standing.{at_with}
use Rattle.fed_logs.proofs.ReadCalls.{ReadOn, answer_of, drop_begins, drop_log, fed_own, form_begins, form_log, nothing_begins, quiet_begins, read_begins, read_on}
use Rattle.fed_logs.proofs.Went.{form_shown}
use Rattle.mover.specs.Dropping.{owed_by_call, owed_by_calls, owed_in_turn, stood_duplex}
use Rattle.mover.specs.Moves.{LogsEntriesOf, MayHaveEntries}
use Rattle.xrc_session.specs.Maps.{AreMapsSound, MapsBegin, RowsGo, maps_track, has_write_between}
use Rattle.xrc_session.proofs.MapsCalls.{Grown}
use Rattle.xrc_session.proofs.MapsKeeps.{calls_keep_maps, form_maps, sound_at}
use Rattle.xrc_session.proofs.MapsLogs.{grows_over, never_owes, some_flag, test_drop, test_form, test_read}
use Rattle.xrc_session.proofs.MapsSince.{IsSince, all_flags, drop_maps, none_due, since_formed, since_now, since_up}
use Rattle.xrc_session.proofs.MapsWaits.{WaitsAsWritten, cut_above, drop_waits, form_waits, read_waits, waits_first}
use Rattle.xrc_session.proofs.MapsWrites.{written_both}
use Rattle.xrc_session.proofs.MapsRows.{duplex_of, ends_suspended, has_row, row_is, stands_after, stays_suspended, stood_before}
use Rattle.xrc_session.proofs.MapsVolumes.{dropped_is, is_live, kept_of, live_steady}
use Rattle.xrc_session.proofs.MapsCounted.{counted_before, read_cut, read_up}
use Rattle.xrc_session.proofs.MapsNever.{Kept, Stands, StandsBy, low_in, never_over, quiet_walk, stands_by}

-- ---- what is owed

-- Drops of a volume, none of which is with all tracks.
in_part : (all : Bool) (later : Option Bool) → owed_in_turn (Some all) later ≡ Some false → (all ≡ false) × (later ≡ Some true → ⊥)
in_part false None is = (refl, λ e. never_owes e)
in_part true None is = absurd (true≢false (some_flag true false is))
in_part false (Some every) is = (refl, λ e. true≢false (sym (some_flag every true e) ∙ some_flag every false is))
in_part true (Some every) is = absurd (true≢false (some_flag true false is))

module _ (size : Sizes) (traces : List Trace) (k v place : ℕ) (t : Trace) (own : slice_get traces k ≡ Some t) (z : PairRow) (cause : SuspendCause) (since : Stamp) (suspended : z.state ≡ Suspended cause since) (whole : is_by_device cause ≡ false) where
  abbrev StandsAt : List PairRow → Type 0
  StandsAt rows = Stands traces k v place t own rows

  is_suspended_z : is_suspended z.state ≡ true
  is_suspended_z = ap is_suspended suspended

  unfailed : is_device_suspended z.state ≡ false
  unfailed = ap is_device_suspended suspended ∙ whole

  -- The row is live and stands duplex, or it is suspended as it is at the end, and its plan was done.
  abbrev StandsSo : Plans → (last : ℕ) → ControlState → (rows : List PairRow) → List Deed → PairRow → Type 0
  StandsSo done last c rows deeds r = ((is_suspended r.state ≡ false) × (stood_duplex place rows deeds ≡ true)) ⊎ ((r.state ≡ z.state) × (done k v ≡ true) × IsSince t v since.0 last c)

  record Stage (done : Plans) (last : ℕ) (c : ControlState) (rows : List PairRow) (deeds : List Deed) : Type 0 where
    stands : StandsAt rows
    ends : slice_get (rows_after_deeds deeds rows) place ≡ Some z
    entries : LogsEntriesOf rows deeds
    knows : HasRowIn IsDuplex k v rows → done k v ≡ true
    phase : StandsSo done last c rows deeds stands.row

  -- The row is suspended as at the end, if it is suspended and its device fails no more.
  as_at_end : (time : ℕ) (rows : List PairRow) (deeds : List Deed) (r : PairRow) → RowsGo time rows deeds → slice_get rows place ≡ Some r → slice_get (rows_after_deeds deeds rows) place ≡ Some z → is_suspended r.state ≡ true → r.state ≡ z.state
  as_at_end time rows deeds r go at ends is = elim (ends_suspended time rows deeds place r z go at ends is) [ inl same ↦ sym same | inr failed ↦ absurd (true≢false (sym failed ∙ unfailed)) ]

  -- a deed, and what goes with it
  stage_by : (done next_done : Plans) (last next_last : ℕ) (c d : ControlState) (time : ℕ) (rows : List PairRow) (deed : Deed) (deeds : List Deed) → RowsGo time rows (deed ∷ deeds) → (LogsEntriesOf rows (deed ∷ deeds) → LogsEntriesOf (rows_by_deed deed) deeds)
      → (done k v ≡ true → next_done k v ≡ true) → (HasRowIn IsDuplex k v (rows_by_deed deed) → HasRowIn IsDuplex k v rows ⊎ (next_done k v ≡ true)) → time_by_deed time deed ≡ next_last
      → ((h : Stage done last c rows (deed ∷ deeds)) → h.stands.row.state ≡ z.state → done k v ≡ true → IsSince t v since.0 last c → IsSince t v since.0 next_last d)
      → Stage done last c rows (deed ∷ deeds) → Stage next_done next_last d (rows_by_deed deed) deeds
  stage_by done next_done last next_last c d time rows deed deeds go entries known fewer at older h = record {
    stands = b.stands;
    ends = h.ends;
    entries = entries h.entries;
    knows = λ has. elim (fewer has) [ inl was ↦ known (h.knows was) | inr now ↦ now ];
    phase = elim h.phase [
      | inl live ↦ by (is_suspended b.stands.row.state) refl live.0 live.1
      | inr is ↦ inr (still is.0, known is.1, older h is.0 is.1 is.2)
    ];
  }
    where
      b : StandsBy traces k v place t own (time_by_deed time deed) rows (rows_by_deed deed) h.stands
      b = stands_by traces k v place t own (time_by_deed time deed) rows (rows_by_deed deed) go.0 h.stands

      by : (s : Bool) → is_suspended b.stands.row.state ≡ s → is_suspended h.stands.row.state ≡ false → stood_duplex place rows (deed ∷ deeds) ≡ true → StandsSo next_done next_last d (rows_by_deed deed) deeds b.stands.row
      by false is live stood = inl (is, stands_after (time_by_deed time deed) rows deed deeds place h.stands.row b.stands.row h.stands.at b.stands.at b.goes is stood)
      by true is live stood =
          let same = as_at_end (time_by_deed time deed) (rows_by_deed deed) deeds b.stands.row go.1 b.stands.at h.ends is in
          let duplex = stood_before time rows deed deeds place h.stands.row b.stands.row go h.stands.at b.stands.at is stood in
          let then : since.0 ≡ next_last = elim (b.goes.since cause since (same ∙ suspended)) [ inl stays ↦ absurd (true≢false (sym is ∙ ap is_suspended stays ∙ live)) | inr time ↦ time ∙ at ] in
          inr (same, known (h.knows (has_row IsDuplex k v rows place h.stands.row h.stands.at h.stands.control h.stands.volume duplex)), subst (λ (n : ℕ). IsSince t v n next_last d) (sym then) (since_now t v next_last d))

      still : h.stands.row.state ≡ z.state → b.stands.row.state ≡ z.state
      still is = as_at_end (time_by_deed time deed) (rows_by_deed deed) deeds b.stands.row go.1 b.stands.at h.ends (stays_suspended (time_by_deed time deed) h.stands.row b.stands.row b.goes (ap is_suspended is ∙ is_suspended_z))

  -- quiet deeds, at the time of the last cut
  quiet_stage : (done : Plans) (last : ℕ) (c : ControlState) (time : ℕ) (quiet more : List Deed) (rows next : List PairRow) → last ≡ time → AreQuiet time rows quiet next → RowsGo time rows (quiet ++ more) → Stage done last c rows (quiet ++ more) → Stage done last c next more × RowsGo time next more
  quiet_stage done last c time quiet more rows next cut is go h =
      quiet_walk (Stage done last c) time (λ rows deed deeds at fewer entries go h. stage_by done done last last c c time rows deed deeds go (λ e. subst (λ (T : Type 0). T) entries e) (λ e. e) (λ has. inl (fewer.duplex k v has)) (at ∙ sym cut) (λ h same known old. old) h) quiet more rows next is go h

  -- the same rows, with other plans and another state of the controller
  stage_on : (done next_done : Plans) (last next_last : ℕ) (c d : ControlState) (rows : List PairRow) (deeds : List Deed) → (done k v ≡ true → next_done k v ≡ true) → (IsSince t v since.0 last c → IsSince t v since.0 next_last d) → Stage done last c rows deeds → Stage next_done next_last d rows deeds
  stage_on done next_done last next_last c d rows deeds known older h = record {
    stands = h.stands;
    ends = h.ends;
    entries = h.entries;
    knows = λ has. known (h.knows has);
    phase = elim h.phase [ inl live ↦ inl live | inr is ↦ inr (is.0, known is.1, older is.2) ];
  }

  -- ---- in a log

  record Ready (held : HeldTracks) (s : Group) (time : ℕ) (rows : List PairRow) (done : Plans) (deeds : List Deed) : Type 0 where
    begins : BeginsLog size traces held s time rows done
    keeps : AreMapsSound s
    cut : s.last.0 ≡ time
    waits : WaitsAsWritten t s.last.0 (control_at s k)
    live : passes is_live (volume_of v (control_at s k).volumes) ≡ true
    go : RowsGo time rows deeds
    stage : Stage done s.last.0 (control_at s k) rows deeds

  abbrev Mapped : Group → Type 0
  Mapped end = (x : ℕ) → maps_track v x (control_at end k) ≡ has_write_between t v x since.0 (floor_of end k)

  abbrev Maps : List Answer → Type 0
  Maps run = (s end : Group) (held : HeldTracks) (time : ℕ) (rows : List PairRow) (done : Plans) (deeds : List Deed) (ended : ℕ) (last : List PairRow) (known : Plans) → IsFedLog traces s end run → Kept traces k v place t own run time rows done deeds ended last known
      → Ready held s time rows done deeds → counts (control_at end k).phase ≡ true → owed_by_calls k v run ≡ Some false → Mapped end

  low_at : (s end : Group) (run : List Answer) → IsFedLog traces s end run → k < length s.controls
  low_at s end run log = low_in traces k v place t own s end run log

  -- The controller has reported up to the last cut.
  told_at : (s end : Group) (run : List Answer) → IsFedLog traces s end run → counts (control_at end k).phase ≡ true → s.last.0 ≤ floor_of s k
  told_at s end run log counted =
      let low = low_at s end run log in
      reported_to_last s.last (control_at s k) (all_at (has_reported s.last) s.controls k (new_control 0 0 0) log.kept.told low) (counted_before traces k run s end log low counted)

  read_mapped : (call : Call) (reply : Reply) (run : List Answer) → is_call_of_reader call ≡ true → owed_by_call k v call ≡ None → Maps run → (s end : Group) (held : HeldTracks) (time : ℕ) (rows : List PairRow) (done : Plans) (deeds : List Deed) (ended : ℕ) (last : List PairRow) (known : Plans)
      → IsFedLog traces s end (answer_of call reply ∷ run) → Kept traces k v place t own run time rows done deeds ended last known → Ready held s time rows done deeds → counts (control_at end k).phase ≡ true → owed_by_calls k v (answer_of call reply ∷ run) ≡ Some false → Mapped end
  read_mapped call reply run reads owes rest s end held time rows done deeds ended last known log moves h counted owed = rest on.next end held time rows done deeds ended last known on.log moves (record {
    begins = read_begins size traces held s end call reply run time rows done reads log on h.begins;
    keeps = calls_keep_maps s on.next call reply log.kept on.may on.stepped h.keeps;
    cut = ap (λ (m : Stamp). m.0) same ∙ h.cut;
    waits = subst (λ (m : Stamp). WaitsAsWritten t m.0 (control_at on.next k)) (sym same) (read_waits t k s low (sound_at s k log.kept low) h.waits call reply on.next on.went on.may fed);
    live = test_read is_live live_steady k v s call reply on.next on.went low h.live;
    go = h.go;
    stage = subst (λ (m : Stamp). Stage done m.0 (control_at on.next k) rows deeds) (sym same)
        (stage_on done done s.last.0 s.last.0 (control_at s k) (control_at on.next k) rows deeds (λ e. e)
        (since_up t v since.0 s.last.0 (control_at s k) (control_at on.next k) (told_at s end (answer_of call reply ∷ run) log counted) (read_up s call reply on.next k on.went on.may low)) h.stage);
  }) counted (sym (ap (λ (o : Option Bool). owed_in_turn o (owed_by_calls k v run)) owes) ∙ owed)
    where
      on : ReadOn traces s end call reply run
      on = read_on traces s end call reply run reads log

      low : k < length s.controls
      low = low_at s end (answer_of call reply ∷ run) log

      same : on.next.last ≡ s.last
      same = read_cut s call reply on.next on.went

      fed : is_by_reader k call ≡ true → has_changed reply ≡ true → IsFedBy t (floor_of s k) call
      fed mine done = fed_own t k (control_at s k).floor.0 (answer_of call reply) run mine done (log.fed k t own)

  -- what a form's entries are
  none_of : (rows : List PairRow) (entries : List WaitingEntry) (stands : StandsAt rows) → stands.row.state ≡ z.state → All (λ e. HasRowIn MayHaveEntries e.head.control e.head.volume rows) entries → list_all (λ e. not (is_entry_of_control k e && is_of_volume v e)) entries ≡ true
  none_of rows entries stands same each =
      all_flags (λ e. HasRowIn MayHaveEntries e.head.control e.head.volume rows) (λ e. not (is_entry_of_control k e && is_of_volume v e)) entries (λ e has. choose e (is_entry_of_control k e && is_of_volume v e) refl has) each
    where
      never : MayHaveEntries stands.row.state → ⊥
      never (inl live) = true≢false (sym (ap is_suspended same ∙ is_suspended_z) ∙ live)
      never (inr failed) = true≢false (sym failed ∙ ap is_device_suspended same ∙ unfailed)

      choose : (e : WaitingEntry) (b : Bool) → (is_entry_of_control k e && is_of_volume v e) ≡ b → HasRowIn MayHaveEntries e.head.control e.head.volume rows → not b ≡ true
      choose e false is has = refl
      choose e true is has =
          let parts = and_parts (is_entry_of_control k e) (is_of_volume v e) is in
          absurd (never (row_is MayHaveEntries k v rows place stands.row stands.apart stands.at stands.control stands.volume
          (subst (λ (j : ℕ). HasRowIn MayHaveEntries j v rows) (eqb-true e.head.control k parts.0) (subst (λ (w : ℕ). HasRowIn MayHaveEntries e.head.control w rows) (eqb-true e.head.volume v parts.1) has))))

  form_mapped : (limit : Stamp) (reply : Reply) (run : List Answer) → Maps run → (s end : Group) (held : HeldTracks) (time : ℕ) (rows : List PairRow) (done : Plans) (deeds : List Deed) (ended : ℕ) (last : List PairRow) (known : Plans) → IsFedLog traces s end (answer_of (Form limit) reply ∷ run)
      → KeepsShown time rows done (Some (shown_at (cut_of s limit) s)) deeds (λ t₁ r p d. Kept traces k v place t own run t₁ r p d ended last known) → Ready held s time rows done deeds → counts (control_at end k).phase ≡ true → owed_by_calls k v run ≡ Some false → Mapped end
  form_mapped limit reply run rest s end held time rows done deeds ended last known log keeps h counted owed = choose keeps
    where
      cut : Stamp
      cut = cut_of s limit

      next : Group
      next = formed_at (cut_of s limit) s

      c : ControlState
      c = control_at s k

      low : k < length s.controls
      low = low_at s end (answer_of (Form limit) reply ∷ run) log

      up : s.last.0 ≤ cut.0
      up = cut_above s.last limit.0 s.controls log.runs.1 log.kept.told

      then : IsFedLog traces next end run
      then = form_log traces s end limit reply run log

      formed_is : control_at next k ≡ formed cut c
      formed_is = at_map cut s.controls k low

      more : Plans
      more = plans_with_shown (shown_at cut s) done

      choose : (ShowsNothing time rows (shown_at cut s) × Kept traces k v place t own run time rows more deeds ended last known) ⊎ IsLogged time rows done (shown_at cut s) deeds (λ t₁ r p d. Kept traces k v place t own run t₁ r p d ended last known) → Mapped end
      choose (inl both) =
          let at = both.0.at in
          let was = h.cut in
          let same : cut.0 ≡ s.last.0 = omega (arith, up, at, was) in
          rest next end held time rows more deeds ended last known then both.1 (record {
            begins = nothing_begins size traces held s end limit reply run time rows done log both.0 h.begins;
            keeps = form_maps s cut h.keeps;
            cut = same ∙ h.cut;
            waits = form_waits t k s low (sound_at s k log.kept low) h.waits cut up;
            live = test_form is_live live_steady k v s cut low h.live;
            go = h.go;
            stage = stage_on done more s.last.0 cut.0 c (control_at next k) rows deeds (λ e. or_left (done k v) (is_plan_shown_done k v (shown_at cut s)) e)
                (λ old. subst (λ (d : ControlState). IsSince t v since.0 cut.0 d) (sym formed_is) (subst (λ (n : ℕ). IsSince t v since.0 n (formed cut c)) (sym same) (record { low = old.low; same = old.same }))) h.stage;
          }) counted owed
      choose (inr l) = logged (quiet_stage done s.last.0 c time l.quiet (Logged cut.0 (shown_at cut s).entries l.next ∷ l.later) rows l.mid h.cut l.suspends (subst (RowsGo time rows) l.are h.go) (subst (Stage done s.last.0 c rows) l.are h.stage))
        where
          mid : BeginsLog size traces held s time l.mid done
          mid = quiet_begins size traces held s time done l.quiet rows l.mid l.suspends h.begins

          older : (m : Stage done s.last.0 c l.mid (Logged cut.0 (shown_at cut s).entries l.next ∷ l.later)) → m.stands.row.state ≡ z.state → done k v ≡ true → IsSince t v since.0 s.last.0 c → IsSince t v since.0 cut.0 (control_at next k)
          older m same known old = subst (λ (d : ControlState). IsSince t v since.0 cut.0 d) (sym formed_is)
              (since_formed t v since.0 s.last.0 cut c (mid.stand.plans k v known).1 h.waits up (none_due s cut k v log.kept low (none_of l.mid (shown_at cut s).entries m.stands same m.entries.0)) old)

          logged : Stage done s.last.0 c l.mid (Logged cut.0 (shown_at cut s).entries l.next ∷ l.later) × RowsGo time l.mid (Logged cut.0 (shown_at cut s).entries l.next ∷ l.later) → Mapped end
          logged m = rest next end (held_after_group (shown_at cut s).entries held) cut.0 l.next more l.later ended last known then l.goes_on (record {
            begins = form_begins size traces held s end limit reply run time l.mid l.next done log l.follow mid;
            keeps = form_maps s cut h.keeps;
            cut = refl;
            waits = form_waits t k s low (sound_at s k log.kept low) h.waits cut up;
            live = test_form is_live live_steady k v s cut low h.live;
            go = m.1.1;
            stage = stage_by done more s.last.0 cut.0 c (control_at next k) time l.mid (Logged cut.0 (shown_at cut s).entries l.next) l.later m.1 (λ e. e.1) (λ e. or_left (done k v) (is_plan_shown_done k v (shown_at cut s)) e)
                (λ has. elim (l.follow.duplex k v has) [ inl was ↦ inl was | inr now ↦ inr (or_right (done k v) (is_plan_shown_done k v (shown_at cut s)) now) ]) refl older m.0;
          }) counted owed

  -- ---- the drop

  -- What the drop leaves of the controller.
  record IsBegun (last : ℕ) (d : ControlState) : Type 0 where
    gone : is_dropped v d.volumes ≡ true
    mapped : (x : ℕ) → maps_track v x d ≡ has_write_between t v x last d.floor.0
    old : IsSince t v since.0 last d
    low : last ≤ d.floor.0

  begun_mapped : (last : ℕ) (d e : ControlState) → IsBegun last d → Grown t v d e → (x : ℕ) → maps_track v x e ≡ has_write_between t v x since.0 e.floor.0
  begun_mapped last d e b grown x =
      grown.grows x ∙ ap (λ (f : Bool). f || has_write_between t v x d.floor.0 e.floor.0) (b.mapped x ∙ sym (b.old.same x))
      ∙ written_both t v x since.0 d.floor.0 e.floor.0 (let first = b.old.low in let then = b.low in omega (arith, first, then)) grown.up

  drop_mapped : (j w : ℕ) (all : Bool) (reply : Reply) (run : List Answer) → Maps run → (s end : Group) (held : HeldTracks) (time : ℕ) (rows : List PairRow) (done : Plans) (deeds : List Deed) (ended : ℕ) (last : List PairRow) (known : Plans) → IsFedLog traces s end (answer_of (Drop j w all) reply ∷ run)
      → KeepsDropped time rows done j w all deeds (λ t₁ r p d. Kept traces k v place t own run t₁ r p d ended last known) → Ready held s time rows done deeds → counts (control_at end k).phase ≡ true → owed_by_calls k v (answer_of (Drop j w all) reply ∷ run) ≡ Some false → Mapped end
  drop_mapped j w all reply run rest s end held time rows done deeds ended last known log keeps h counted owed = choose (nat_eq j k && nat_eq w v) refl
    where
      next : Group
      next = with_control j (dropped w all) s

      c : ControlState
      c = control_at s k

      low : k < length s.controls
      low = low_at s end (answer_of (Drop j w all) reply ∷ run) log

      told : s.last.0 ≤ floor_of s k
      told = told_at s end (answer_of (Drop j w all) reply ∷ run) log counted

      then : IsFedLog traces next end run
      then = drop_log traces s end j w all reply run log

      same_floor : (control_at next k).floor ≡ c.floor
      same_floor = at_with s j k (dropped w all) (λ (d : ControlState). d.floor ≡ c.floor) low (λ is. refl) (λ apart. refl)

      choose : (b : Bool) → (nat_eq j k && nat_eq w v) ≡ b → Mapped end
      choose false other = rest next end held time rows (plans_without j w done) deeds ended last known then keeps.goes_on (record {
        begins = drop_begins size traces held s end j w all reply run time rows done log keeps.gone keeps.known h.begins;
        keeps = calls_keep_maps s next (Drop j w all) Made log.kept log.runs.1 (refl, refl) h.keeps;
        cut = h.cut;
        waits = drop_waits t k s low (sound_at s k log.kept low) h.waits j w all;
        live = test_drop is_live live_steady k v s j w all low other h.live;
        go = h.go;
        stage = stage_on done (plans_without j w done) s.last.0 s.last.0 c (control_at next k) rows deeds
            (λ e. and_from (done k v) (not (nat_eq k j && nat_eq v w)) e (ap not (ap (λ (b : Bool). b && nat_eq v w) (number_sym k j) ∙ ap (λ (b : Bool). nat_eq j k && b) (number_sym v w) ∙ other)))
            (λ old. record { low = old.low; same = λ x. ap (λ (f : Stamp). has_write_between t v x since.0 f.0) same_floor ∙ old.same x ∙ ap (λ (f : Stamp). has_write_between t v x s.last.0 f.0) (sym same_floor) }) h.stage;
      }) counted (sym (ap (λ (b : Bool). owed_in_turn (cond b (Some all) None) (owed_by_calls k v run)) other) ∙ owed)
      choose true mine = elim h.stage.phase [
        | inl live ↦ absurd (lives live.0 live.1)
        | inr is ↦ begun_mapped s.last.0 (control_at next k) (control_at end k) (begun is.1 is.2) (grows_over traces k v t own run next end then part.1 (begun is.1 is.2).gone)
      ]
        where
          names : (nat_eq j k ≡ true) × (nat_eq w v ≡ true)
          names = and_parts (nat_eq j k) (nat_eq w v) mine

          part : (all ≡ false) × (owed_by_calls k v run ≡ Some true → ⊥)
          part = in_part all (owed_by_calls k v run) (sym (ap (λ (b : Bool). owed_in_turn (cond b (Some all) None) (owed_by_calls k v run)) mine) ∙ owed)

          dropped_at : (P : ControlState → Type 0) → P (dropped v false c) → P (control_at next k)
          dropped_at P p = at_with s j k (dropped w all) P low
              (λ is. subst (λ (u : ℕ). P (dropped u all c)) (sym (eqb-true w v names.1)) (subst (λ (b : Bool). P (dropped v b c)) (sym part.0) p))
              (λ apart. absurd (true≢false (sym names.0 ∙ apart)))

          begun : done k v ≡ true → IsSince t v since.0 s.last.0 c → IsBegun s.last.0 (control_at next k)
          begun known old = dropped_at (IsBegun s.last.0) (record {
            gone = dropped_is v false (entry_tracks v c.queue.waiting) c.volumes (kept_of is_live (volume_of v c.volumes) h.live);
            mapped = drop_maps t v s.last.0 c (sound_at s k log.kept low) (h.begins.stand.plans k v known).1 (h.keeps.above k low) (λ x. h.keeps.empty k v x low h.live) h.waits;
            old = record { low = old.low; same = old.same };
            low = told;
          })

          -- A live row isn't dropped in part: it isn't duplex, and becomes so no more.
          lives : is_suspended h.stage.stands.row.state ≡ false → stood_duplex place rows deeds ≡ true → ⊥
          lives live stood = never_over traces k v place t own run next end time rows (plans_without j w done) deeds ended last known then
              (dropped_at (λ (d : ControlState). is_dropped v d.volumes ≡ true) (dropped_is v false (entry_tracks v c.queue.waiting) c.volumes (kept_of is_live (volume_of v c.volumes) h.live))) keeps.goes_on h.go
              (record { stands = h.stage.stands; not_now = by (is_duplex h.stage.stands.row.state) refl; later = stood })
            where
              by : (d : Bool) → is_duplex h.stage.stands.row.state ≡ d → d ≡ false
              by false is = refl
              by true is = absurd (keeps.gone (subst (λ (i : ℕ). HasRowIn IsDuplex i w rows) (sym (eqb-true j k names.0)) (subst (λ (u : ℕ). HasRowIn IsDuplex k u rows) (sym (eqb-true w v names.1))
                  (has_row IsDuplex k v rows place h.stage.stands.row h.stage.stands.at h.stage.stands.control h.stage.stands.volume (duplex_of h.stage.stands.row.state is)))))

  whole_mapped : (a : Answer) (run : List Answer) (s end : Group) (held : HeldTracks) (time : ℕ) (rows : List PairRow) (done : Plans) (deeds : List Deed) (ended : ℕ) (last : List PairRow) (known : Plans) → IsKeptWhole time rows done a deeds (λ t₁ r p d. Kept traces k v place t own run t₁ r p d ended last known)
      → Ready held s time rows done deeds
      → ((next : List PairRow) (more : List Deed) → KeepsCall time next done a.call a.reply more (λ t₁ r p d. Kept traces k v place t own run t₁ r p d ended last known) → Ready held s time next done more → Mapped end) → Mapped end
  whole_mapped a run s end held time rows done deeds ended last known m h by =
      let n = quiet_stage done s.last.0 (control_at s k) time m.quiet m.more rows m.next h.cut m.suspends (subst (RowsGo time rows) m.are h.go) (subst (Stage done s.last.0 (control_at s k) rows) m.are h.stage) in
      by m.next m.more m.goes_on (record {
        begins = quiet_begins size traces held s time done m.quiet rows m.next m.suspends h.begins;
        keeps = h.keeps;
        cut = h.cut;
        waits = h.waits;
        live = h.live;
        go = n.1;
        stage = n.0;
      })

  one_mapped : (call : Call) (reply : Reply) (run : List Answer) → Maps run → Maps (answer_of call reply ∷ run)
  one_mapped (Join b) reply run rest = λ s end held time rows done deeds ended last known log moves h counted owed. read_mapped (Join b) reply run refl refl rest s end held time rows done deeds ended last known log moves h counted owed
  one_mapped (NextWanted j) reply run rest = λ s end held time rows done deeds ended last known log moves h counted owed. read_mapped (NextWanted j) reply run refl refl rest s end held time rows done deeds ended last known log moves h counted owed
  one_mapped (Copied j w y at slot) reply run rest = λ s end held time rows done deeds ended last known log moves h counted owed. read_mapped (Copied j w y at slot) reply run refl refl rest s end held time rows done deeds ended last known log moves h counted owed
  one_mapped (Raise j upto) reply run rest = λ s end held time rows done deeds ended last known log moves h counted owed. read_mapped (Raise j upto) reply run refl refl rest s end held time rows done deeds ended last known log moves h counted owed
  one_mapped (Break j upto why) reply run rest = λ s end held time rows done deeds ended last known log moves h counted owed. read_mapped (Break j upto why) reply run refl refl rest s end held time rows done deeds ended last known log moves h counted owed
  one_mapped (Form limit) reply run rest = λ s end held time rows done deeds ended last known log moves h counted owed.
      whole_mapped (answer_of (Form limit) reply) run s end held time rows done deeds ended last known moves h
      (λ next more keeps h. form_mapped limit reply run rest s end held time next done more ended last known log (kept_shown s log.runs.0 limit reply time next done more (λ t₁ r p d. Kept traces k v place t own run t₁ r p d ended last known) (form_shown s log.runs.0 limit reply log.runs.2) keeps) h counted owed)
  one_mapped (Drop j w all) reply run rest = λ s end held time rows done deeds ended last known log moves h counted owed.
      whole_mapped (answer_of (Drop j w all) reply) run s end held time rows done deeds ended last known moves h
      (λ next more keeps h. drop_mapped j w all reply run rest s end held time next done more ended last known log keeps h counted owed)
  one_mapped (Carry j w plan) reply run rest = λ s end held time rows done deeds ended last known log moves h counted owed. absurd (true≢false (sym (and_parts (is_call_of_seat (answer_of (Carry j w plan) reply)) (list_all is_call_of_seat run) log.seats).0))
  one_mapped (Resume j w) reply run rest = λ s end held time rows done deeds ended last known log moves h counted owed. absurd (true≢false (sym (and_parts (is_call_of_seat (answer_of (Resume j w) reply)) (list_all is_call_of_seat run) log.seats).0))
  one_mapped (Forget j w) reply run rest = λ s end held time rows done deeds ended last known log moves h counted owed. absurd (true≢false (sym (and_parts (is_call_of_seat (answer_of (Forget j w) reply)) (list_all is_call_of_seat run) log.seats).0))

  mapped_over : (run : List Answer) → Maps run
  mapped_over [] = λ s end held time rows done deeds ended last known log moves h counted owed. absurd (cc owed)
  mapped_over (a ∷ run) = one_mapped a.call a.reply run (mapped_over run)

pub maps_begin : MapsBegin
maps_begin size traces held s end run time ended rows last done known deeds log begins moves keeps rests apart go entries place r z cause since t h own counted live owed =
    let low = low_in traces r.control r.volume place t own s end run log in
    mapped_over size traces r.control r.volume place t own z cause since h.suspended h.whole run s end held time rows done deeds ended last known log moves (record {
      begins = begins;
      keeps = keeps;
      cut = rests.cut;
      waits = waits_first t s.last.0 (control_at s r.control) (sound_at s r.control log.kept low) (let floor = rests.told r.control low (counted_before traces r.control run s end log low counted) in let cut = rests.cut in omega (arith, floor, cut));
      live = live;
      go = go;
      stage = record {
        stands = record { row = r; at = h.was; control = refl; volume = refl; apart = apart };
        ends = h.is;
        entries = entries;
        knows = λ has. begins.stand.duplex r.control r.volume has;
        phase = inl (h.live, h.stood);
      };
    }) counted owed
