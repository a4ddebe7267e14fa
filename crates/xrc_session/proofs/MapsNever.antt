-- A volume that is dropped before its row stands duplex: a log in which the row would stand so later isn't there.
use Rattle.std.proofs.Common.{◌≡◌, ℕ, ◌<◌, Bool, true, false, not, nat_eq, List, [], ◌∷◌, ◌++◌, length, Option, Some, None, ◌⊎◌, inl, inr, refl, sym, ap, subst, ◌∙◌, arith, append-nil, true≢false}
use Rattle.std.specs.Prelude.{slice_get}
use Rattle.std.specs.List.{list_all}
use Rattle.std.proofs.lemmas.Bool.{and_parts, eqb-true, or_cases}
use Rattle.std.proofs.lemmas.Option.{slice_get_within}
use Rattle.tod_stamp.specs.declared.stamp.Stamp.{Stamp}
use Rattle.pair_table.specs.declared.row.PairRow.{PairRow}
use Rattle.pair_table.specs.Tables.{none_clash}
use Rattle.write_trace.specs.declared.trace.Trace.{Trace}
use Rattle.pending_queue.specs.Entries.{entry_tracks}
use Rattle.group_state.specs.declared.volume.Volume.{Volume}
use Rattle.group_state.specs.Volumes.{passes, volume_of}
use Rattle.group_state.specs.Controls.{ControlState, dropped, formed}
use Rattle.group_state.specs.Groups.{Group, control_at, cut_of, formed_at, shown_at, with_control}
use Rattle.group_state.specs.Machine.{Call, Reply}
use Rattle.group_state.specs.Machine.Call.{Join, NextWanted, Copied, Raise, Break, Form, Carry, Drop, Resume, Forget}
use Rattle.group_state.specs.Runs.{Answer}
use Rattle.group_state.specs.SoundStates.{IsGroupSound, is_dropped}
use Rattle.record_rows.specs.Deeds.{Deed, rows_by_deed, time_by_deed}
use Rattle.record_rows.specs.Deeds.Deed.{Logged, Changed, Marked}
use Rattle.record_rows.specs.ToldRows.{InPlaces}
use Rattle.fed_logs.specs.Feeds.{is_call_of_reader, part_of_mover}
use Rattle.fed_logs.specs.Logs.{IsFedLog, is_call_of_seat}
use Rattle.fed_logs.specs.Moves.{AreFewer, AreQuiet, HasRowIn, IsDuplex, IsKeptWhole, IsLogged, KeepsCall, KeepsShown, MakesAllDeeds, Plans, ShowsNothing, is_plan_shown_done, plans_with_shown, plans_without}
use Rattle.fed_logs.proofs.Bearing.{kept_shown}
use Rattle.fed_logs.proofs.Keeping.{at_map}
use Rattle.fed_logs.proofs.Standing.{at_with}
use Rattle.fed_logs.proofs.ReadCalls.{answer_of, drop_log, fed_own, form_log, read_on}
use Rattle.fed_logs.proofs.Shown.{shown_done}
use Rattle.fed_logs.proofs.Went.{form_shown}
use Rattle.mover.specs.Dropping.{is_duplex_row, stood_duplex}
use Rattle.pair_table.specs.States.{is_duplex}
use Rattle.mover.specs.Moves.{LogsEntriesOf}
use Rattle.xrc_session.specs.Maps.{BecomesAt, RowsGo}
use Rattle.xrc_session.proofs.MapsCalls.{form_grows, read_grows}
use Rattle.xrc_session.proofs.MapsRows.{apart_by, duplex_of, has_row, next_at, row_is}
use Rattle.xrc_session.proofs.MapsVolumes.{dropped_is, is_gone, is_live, kept_of, other_dropped}

-- ---- through quiet deeds

-- What quiet deeds at a time leave of something that goes with rows and the deeds that are left.
pub quiet_walk : (F : List PairRow → List Deed → Type 0) (time : ℕ)
    → ((rows : List PairRow) (deed : Deed) (deeds : List Deed) → time_by_deed time deed ≡ time → AreFewer rows (rows_by_deed deed) → LogsEntriesOf rows (deed ∷ deeds) ≡ LogsEntriesOf (rows_by_deed deed) deeds → RowsGo time rows (deed ∷ deeds) → F rows (deed ∷ deeds) → F (rows_by_deed deed) deeds)
    → (quiet more : List Deed) (rows next : List PairRow) → AreQuiet time rows quiet next → RowsGo time rows (quiet ++ more) → F rows (quiet ++ more) → F next more × RowsGo time next more
quiet_walk F time step [] more rows next is go f = (subst (λ (r : List PairRow). F r more) (sym is) f, subst (λ (r : List PairRow). RowsGo time r more) (sym is) go)
quiet_walk F time step (Logged cut entries fewer ∷ quiet) more rows next is go f = absurd is
quiet_walk F time step (Changed at fewer ∷ quiet) more rows next is go f =
    quiet_walk F time step quiet more fewer next is.2 (subst (λ (n : ℕ). RowsGo n fewer (quiet ++ more)) is.0 go.1) (step rows (Changed at fewer) (quiet ++ more) is.0 is.1 refl go f)
quiet_walk F time step (Marked spot ended fewer ∷ quiet) more rows next is go f =
    quiet_walk F time step quiet more fewer next is.1 go.1 (step rows (Marked spot ended fewer) (quiet ++ more) refl is.0 refl go f)

module _ (traces : List Trace) (k v place : ℕ) (t : Trace) (own : slice_get traces k ≡ Some t) where
  pub low_in : (s end : Group) (run : List Answer) → IsFedLog traces s end run → k < length s.controls
  low_in s end run log = let within = slice_get_within traces k t own in let each = log.each in omega (arith, within, each)

  -- The row of the volume stands in the place.
  pub record Stands (rows : List PairRow) : Type 0 where
    pub row : PairRow
    pub at : slice_get rows place ≡ Some row
    pub control : row.control ≡ k
    pub volume : row.volume ≡ v
    pub apart : none_clash rows ≡ true

  -- It does so after a deed.
  pub record StandsBy (time : ℕ) (rows next : List PairRow) (h : Stands rows) : Type 0 where
    pub stands : Stands next
    pub goes : BecomesAt time h.row stands.row

  pub stands_by : (time : ℕ) (rows next : List PairRow) → InPlaces (BecomesAt time) rows next → (h : Stands rows) → StandsBy time rows next h
  stands_by time rows next each h =
      let n = next_at (BecomesAt time) rows next place h.row each h.at in
      record {
        stands = record {
          row = n.row;
          at = n.at;
          control = ap (λ (x : PairRow). x.control) n.goes.keeps.same ∙ h.control;
          volume = ap (λ (x : PairRow). x.volume) n.goes.keeps.same ∙ h.volume;
          apart = apart_by time rows next each h.apart;
        };
        goes = n.goes;
      }

  -- ---- a dropped volume's row is duplex no more

  -- A row isn't duplex, and stands so later.
  pub record StandsLater (rows : List PairRow) (deeds : List Deed) : Type 0 where
    pub stands : Stands rows
    pub not_now : is_duplex stands.row.state ≡ false
    pub later : stood_duplex place rows deeds ≡ true

  later_by : (rows : List PairRow) (deed : Deed) (deeds : List Deed) (time : ℕ) → RowsGo time rows (deed ∷ deeds) → (HasRowIn IsDuplex k v (rows_by_deed deed) → HasRowIn IsDuplex k v rows) → StandsLater rows (deed ∷ deeds) → StandsLater (rows_by_deed deed) deeds
  later_by rows deed deeds time go back h =
      let b = stands_by (time_by_deed time deed) rows (rows_by_deed deed) go.0 h.stands in
      record {
        stands = b.stands;
        not_now = choose b.stands (is_duplex b.stands.row.state) refl;
        later = elim (or_cases (is_duplex_row (slice_get rows place)) (stood_duplex place (rows_by_deed deed) deeds) h.later) [
          | inl now ↦ absurd (true≢false (sym now ∙ ap is_duplex_row h.stands.at ∙ h.not_now))
          | inr later ↦ later
        ];
      }
    where
      choose : (n : Stands (rows_by_deed deed)) (d : Bool) → is_duplex n.row.state ≡ d → d ≡ false
      choose n false is = refl
      choose n true is =
          let was = back (has_row IsDuplex k v (rows_by_deed deed) place n.row n.at n.control n.volume (duplex_of n.row.state is)) in
          absurd (true≢false (sym (ap is_duplex (row_is IsDuplex k v rows place h.stands.row h.stands.apart h.stands.at h.stands.control h.stands.volume was)) ∙ h.not_now))

  abbrev pub Kept : (run : List Answer) → (time : ℕ) → List PairRow → Plans → List Deed → (ended : ℕ) → List PairRow → Plans → Type 0
  Kept run time rows done deeds ended last known = MakesAllDeeds time rows done (part_of_mover run) deeds ended last known

  abbrev pub Never : List Answer → Type 0
  Never run = (s end : Group) (time : ℕ) (rows : List PairRow) (done : Plans) (deeds : List Deed) (ended : ℕ) (last : List PairRow) (known : Plans) → IsFedLog traces s end run → is_dropped v (control_at s k).volumes ≡ true → Kept run time rows done deeds ended last known
      → RowsGo time rows deeds → StandsLater rows deeds → ⊥

  quiet_later : (time : ℕ) (quiet more : List Deed) (rows next : List PairRow) → AreQuiet time rows quiet next → RowsGo time rows (quiet ++ more) → StandsLater rows (quiet ++ more) → StandsLater next more × RowsGo time next more
  quiet_later time quiet more rows next is go h = quiet_walk StandsLater time (λ rows deed deeds at fewer entries go h. later_by rows deed deeds time go (fewer.duplex k v) h) quiet more rows next is go h

  -- A drop leaves each volume dropped that is.
  still_gone : (s : Group) (j w : ℕ) (all : Bool) → k < length s.controls → is_dropped v (control_at s k).volumes ≡ true → is_dropped v (control_at (with_control j (dropped w all) s) k).volumes ≡ true
  still_gone s j w all low gone = at_with s j k (dropped w all) (λ (c : ControlState). is_dropped v c.volumes ≡ true) low (λ is. here (nat_eq w v) refl) (λ apart. gone)
    where
      tracks : List ℕ
      tracks = entry_tracks w (control_at s k).queue.waiting

      here : (b : Bool) → nat_eq w v ≡ b → is_dropped v (dropped w all (control_at s k)).volumes ≡ true
      here false apart = other_dropped is_gone w v all tracks apart (control_at s k).volumes ∙ gone
      here true same = subst (λ (u : ℕ). is_dropped v (dropped u all (control_at s k)).volumes ≡ true) (sym (eqb-true w v same))
          (dropped_is v all (entry_tracks v (control_at s k).queue.waiting) (control_at s k).volumes (kept_of is_gone (volume_of v (control_at s k).volumes) gone))

  -- No plan of a dropped volume is shown done.
  none_shown : (s : Group) (cut : Stamp) → IsGroupSound s → k < length s.controls → is_dropped v (control_at s k).volumes ≡ true → is_plan_shown_done k v (shown_at cut s) ≡ true → ⊥
  none_shown s cut keeps low gone shown =
      let plan = (shown_done s cut k v keeps shown).1 in
      let after = (form_grows t k v s low gone cut).dropped in
      never (volume_of v (formed cut (control_at s k)).volumes) plan.carried (subst (λ (c : ControlState). is_dropped v c.volumes ≡ true) (at_map cut s.controls k low) after)
    where
      never : (o : Option Volume) → passes is_live o ≡ true → passes is_gone o ≡ true → ⊥
      never None live gone = true≢false (sym live)
      never (Some u) live gone = true≢false (sym gone ∙ ap not live)

  form_never : (limit : Stamp) (reply : Reply) (run : List Answer) → Never run → (s end : Group) (time : ℕ) (rows : List PairRow) (done : Plans) (deeds : List Deed) (ended : ℕ) (last : List PairRow) (known : Plans) → IsFedLog traces s end (answer_of (Form limit) reply ∷ run)
      → is_dropped v (control_at s k).volumes ≡ true → KeepsShown time rows done (Some (shown_at (cut_of s limit) s)) deeds (λ t r p d. Kept run t r p d ended last known) → RowsGo time rows deeds → StandsLater rows deeds → ⊥
  form_never limit reply run rest s end time rows done deeds ended last known log gone keeps go h = choose keeps
    where
      cut : Stamp
      cut = cut_of s limit

      low : k < length s.controls
      low = low_in s end (answer_of (Form limit) reply ∷ run) log

      then : IsFedLog traces (formed_at cut s) end run
      then = form_log traces s end limit reply run log

      still : is_dropped v (control_at (formed_at cut s) k).volumes ≡ true
      still = (form_grows t k v s low gone cut).dropped

      choose : (ShowsNothing time rows (shown_at cut s) × Kept run time rows (plans_with_shown (shown_at cut s) done) deeds ended last known) ⊎ IsLogged time rows done (shown_at cut s) deeds (λ t r p d. Kept run t r p d ended last known) → ⊥
      choose (inl both) = rest (formed_at cut s) end time rows (plans_with_shown (shown_at cut s) done) deeds ended last known then still both.1 go h
      choose (inr l) =
          let logged = Logged cut.0 (shown_at cut s).entries l.next in
          let mid = quiet_later time l.quiet (logged ∷ l.later) rows l.mid l.suspends (subst (RowsGo time rows) l.are go) (subst (StandsLater rows) l.are h) in
          rest (formed_at cut s) end cut.0 l.next (plans_with_shown (shown_at cut s) done) l.later ended last known then still l.goes_on mid.1.1
          (later_by l.mid logged l.later time mid.1 (λ has. elim (l.follow.duplex k v has) [ inl was ↦ was | inr shown ↦ absurd (none_shown s cut log.kept low gone shown) ]) mid.0)

  whole_never : (a : Answer) (run : List Answer) (time : ℕ) (rows : List PairRow) (done : Plans) (deeds : List Deed) (ended : ℕ) (last : List PairRow) (known : Plans) → IsKeptWhole time rows done a deeds (λ t r p d. Kept run t r p d ended last known) → RowsGo time rows deeds → StandsLater rows deeds
      → ((next : List PairRow) (more : List Deed) → KeepsCall time next done a.call a.reply more (λ t r p d. Kept run t r p d ended last known) → RowsGo time next more → StandsLater next more → ⊥) → ⊥
  whole_never a run time rows done deeds ended last known m go h by =
      let n = quiet_later time m.quiet m.more rows m.next m.suspends (subst (RowsGo time rows) m.are go) (subst (StandsLater rows) m.are h) in
      by m.next m.more m.goes_on n.1 n.0

  read_never : (call : Call) (reply : Reply) (run : List Answer) → is_call_of_reader call ≡ true → Never run → (s end : Group) (time : ℕ) (rows : List PairRow) (done : Plans) (deeds : List Deed) (ended : ℕ) (last : List PairRow) (known : Plans) → IsFedLog traces s end (answer_of call reply ∷ run)
      → is_dropped v (control_at s k).volumes ≡ true → Kept run time rows done deeds ended last known → RowsGo time rows deeds → StandsLater rows deeds → ⊥
  read_never call reply run reads rest s end time rows done deeds ended last known log gone moves go h =
      let on = read_on traces s end call reply run reads log in
      let low = low_in s end (answer_of call reply ∷ run) log in
      rest on.next end time rows done deeds ended last known on.log (read_grows t k v s low gone call reply on.next on.went on.may (λ mine done. fed_own t k (control_at s k).floor.0 (answer_of call reply) run mine done (log.fed k t own))).dropped moves go h

  one_never : (call : Call) (reply : Reply) (run : List Answer) → Never run → Never (answer_of call reply ∷ run)
  one_never (Join b) reply run rest s end time rows done deeds ended last known log gone moves go h = read_never (Join b) reply run refl rest s end time rows done deeds ended last known log gone moves go h
  one_never (NextWanted j) reply run rest s end time rows done deeds ended last known log gone moves go h = read_never (NextWanted j) reply run refl rest s end time rows done deeds ended last known log gone moves go h
  one_never (Copied j w y at slot) reply run rest s end time rows done deeds ended last known log gone moves go h = read_never (Copied j w y at slot) reply run refl rest s end time rows done deeds ended last known log gone moves go h
  one_never (Raise j upto) reply run rest s end time rows done deeds ended last known log gone moves go h = read_never (Raise j upto) reply run refl rest s end time rows done deeds ended last known log gone moves go h
  one_never (Break j upto why) reply run rest s end time rows done deeds ended last known log gone moves go h = read_never (Break j upto why) reply run refl rest s end time rows done deeds ended last known log gone moves go h
  one_never (Form limit) reply run rest s end time rows done deeds ended last known log gone moves go h =
      whole_never (answer_of (Form limit) reply) run time rows done deeds ended last known moves go h
      (λ next more keeps go h. form_never limit reply run rest s end time next done more ended last known log gone (kept_shown s log.runs.0 limit reply time next done more (λ t r p d. Kept run t r p d ended last known) (form_shown s log.runs.0 limit reply log.runs.2) keeps) go h)
  one_never (Drop j w all) reply run rest s end time rows done deeds ended last known log gone moves go h =
      whole_never (answer_of (Drop j w all) reply) run time rows done deeds ended last known moves go h
      (λ next more keeps go h. rest (with_control j (dropped w all) s) end time next (plans_without j w done) more ended last known (drop_log traces s end j w all reply run log) (still_gone s j w all (low_in s end (answer_of (Drop j w all) reply ∷ run) log) gone) keeps.goes_on go h)
  one_never (Carry j w plan) reply run rest s end time rows done deeds ended last known log gone moves go h = absurd (true≢false (sym (and_parts (is_call_of_seat (answer_of (Carry j w plan) reply)) (list_all is_call_of_seat run) log.seats).0))
  one_never (Resume j w) reply run rest s end time rows done deeds ended last known log gone moves go h = absurd (true≢false (sym (and_parts (is_call_of_seat (answer_of (Resume j w) reply)) (list_all is_call_of_seat run) log.seats).0))
  one_never (Forget j w) reply run rest s end time rows done deeds ended last known log gone moves go h = absurd (true≢false (sym (and_parts (is_call_of_seat (answer_of (Forget j w) reply)) (list_all is_call_of_seat run) log.seats).0))

  pub never_over : (run : List Answer) → Never run
  never_over [] = λ s end time rows done deeds ended last known log gone moves go h.
      let n = quiet_later time deeds [] rows last moves.0 (subst (RowsGo time rows) (sym (append-nil deeds)) go) (subst (StandsLater rows) (sym (append-nil deeds)) h) in
      true≢false (sym n.0.later ∙ ap is_duplex_row n.0.stands.at ∙ n.0.not_now)
  never_over (a ∷ run) = one_never a.call a.reply run (never_over run)
