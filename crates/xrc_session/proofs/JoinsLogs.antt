-- Rows stand after a log of calls, whatever the traces are, and the shared state keeps their volumes.
use Rattle.std.proofs.Common.{◌≡◌, ◌<◌, ℕ, nat_eq, Bool, true, false, cond, ◌&&◌, ◌||◌, ◌⊎◌, List, [], ◌∷◌, length, map, Some, Option, refl, sym, ap, subst, ◌∙◌, inl, inr, true≢false}
use Rattle.std.specs.List.{list_all, list_any}
use Rattle.std.proofs.lemmas.Bool.{and_from, and_parts, eqb-true}
use Rattle.std.proofs.lemmas.List.{length-map}
use Rattle.tod_stamp.specs.declared.stamp.Stamp.{Stamp}
use Rattle.crash_plant.specs.Moments.{PlantState}
use Rattle.pair_table.specs.declared.row.PairRow.{PairRow}
use Rattle.pair_table.specs.declared.row.PairState.{PairState}
use Rattle.pair_table.specs.declared.row.PairState.TheVariants.{Pending, Copy, Duplex, Suspended}
use Rattle.pair_table.specs.Tables.{none_clash}
use Rattle.group_state.specs.declared.volume.Volume.{Volume}
use Rattle.group_state.specs.Controls.{counts, dropped}
use Rattle.group_state.specs.Groups.{Group, Shown, control_at, cut_of, formed_at, shown_at, with_control}
use Rattle.group_state.specs.Machine.{Call, Reply}
use Rattle.group_state.specs.Machine.Call.{Join, NextWanted, Copied, Raise, Break, Form, Carry, Drop, Resume, Forget}
use Rattle.group_state.specs.Runs.{Answer, Runs}
use Rattle.group_state.specs.SoundStates.{IsGroupSound}
use Rattle.group_state.specs.Volumes.{passes, volume_of}
use Rattle.group_state.proofs.Kept.{kept_form}
use Rattle.record_rows.specs.Deeds.{Deed}
use Rattle.record_rows.specs.Deeds.Deed.{Logged, Changed, Marked}
use Rattle.record_rows.specs.ToldRows.{InPlaces}
use Rattle.site_store.specs.DeedChanges.{deeds_of}
use Rattle.fed_logs.specs.Feeds.{is_call_of_reader, part_of_mover}
use Rattle.fed_logs.specs.Logs.{IsPlanDone, Stand, is_call_of_seat}
use Rattle.fed_logs.specs.Moves.{AreQuiet, HasRowIn, IsKeptWhole, IsLogged, KeepsCall, MakesAllDeeds, Plans, ShowsNothing, plans_with_shown, plans_without}
use Rattle.fed_logs.proofs.Bearing.{kept_shown}
use Rattle.fed_logs.proofs.ReadCalls.{answer_of}
use Rattle.fed_logs.proofs.Standing.{kept_drop, kept_read, stands_drop, stands_fewer, stands_form, stands_read}
use Rattle.fed_logs.proofs.Went.{form_shown, went_read}
use Rattle.turn_group.specs.Notes.{known_of, known_volume, volumes_known}
use Rattle.turn_group.proofs.Known.{HasSizesOf, sizes_at, sizes_in}
use Rattle.mover.specs.OwedTracks.{IsAny, is_volume_kept}
use Rattle.mover.proofs.Pairs.{among_of, contains_of, is_of_volume_at, named_by, pair_before, pair_of, pairs_of}
use Rattle.xrc_session.specs.Taking.{IsSoundForRows}
use Rattle.pair_table.specs.States.{is_duplex}
use Rattle.mover.specs.Moves.{KeepsAll, KnowsDuplex, KnowsRows}
use Rattle.mover.specs.Epochs.{IsSamePair}
use Rattle.mover.proofs.CarriedAgain.{apart_again, carried_again}
use Rattle.mover.proofs.LanesAgain.{sizes_stay}
use Rattle.mover.proofs.SamePairs.{any_there, at_of}
use Rattle.xrc_session.specs.Joins.{EpochsComeToRest, RowsStandAfterLogs}
use Rattle.xrc_session.proofs.JoinsRows.{HasSome, some_of}

-- ---- a log

-- Rows stand after quiet deeds, and a state that every call keeps is kept.
stands_quiet : (s : Group) (time : ℕ) (done : Plans) (quiet : List Deed) (rows next : List PairRow) → AreQuiet time rows quiet next → Stand s rows done → Stand s next done
stands_quiet s time done [] rows next is stand = subst (λ (r : List PairRow). Stand s r done) (sym is) stand
stands_quiet s time done (Logged cut entries fewer ∷ quiet) rows next is stand = absurd is
stands_quiet s time done (Changed at fewer ∷ quiet) rows next is stand = stands_quiet s time done quiet fewer next is.2 (stands_fewer s rows fewer done is.1 stand)
stands_quiet s time done (Marked spot ended fewer ∷ quiet) rows next is stand = stands_quiet s time done quiet fewer next is.1 (stands_fewer s rows fewer done is.0 stand)

module _ (ended : ℕ) (last : List PairRow) (known : Plans) where
  abbrev Made : List Answer → ℕ → List PairRow → Plans → List Deed → Type 0
  Made run t r p d = MakesAllDeeds t r p (part_of_mover run) d ended last known

  abbrev Stands : Group → Type 0
  Stands end = IsGroupSound end × Stand end last known

  -- what is so of calls from each state on
  abbrev Goes : List Answer → Group → Type 0
  Goes run end = (s : Group) (time : ℕ) (rows : List PairRow) (done : Plans) (deeds : List Deed) → IsGroupSound s → Runs s run end → list_all is_call_of_seat run ≡ true → Stand s rows done → Made run time rows done deeds → Stands end

  read : (call : Call) (reply : Reply) (run : List Answer) (end : Group) → is_call_of_reader call ≡ true → Goes run end → (s : Group) (time : ℕ) (rows : List PairRow) (done : Plans) (deeds : List Deed) → IsGroupSound s → Runs s (answer_of call reply ∷ run) end
      → list_all is_call_of_seat run ≡ true → Stand s rows done → Made run time rows done deeds → Stands end
  read call reply run end reads rest s time rows done deeds keeps runs seats stand made =
      let went = went_read s runs.0 call reply reads runs.2 in
      rest runs.0 time rows done deeds (kept_read s runs.0 call reply runs.1 went keeps) runs.3 seats (stands_read s runs.0 call reply rows done went stand) made

  form : (limit : Stamp) (reply : Reply) (run : List Answer) (end : Group) → Goes run end → (s : Group) (time : ℕ) (rows : List PairRow) (done : Plans) (deeds : List Deed) → IsGroupSound s → Runs s (answer_of (Form limit) reply ∷ run) end
      → list_all is_call_of_seat run ≡ true → Stand s rows done → KeepsCall time rows done (Form limit) reply deeds (Made run) → Stands end
  form limit reply run end rest s time rows done deeds keeps runs seats stand made =
      choose (kept_shown s runs.0 limit reply time rows done deeds (Made run) (form_shown s runs.0 limit reply runs.2) made)
    where
      shown : Shown
      shown = shown_at (cut_of s limit) s

      next : Group
      next = formed_at (cut_of s limit) s

      on : (time : ℕ) (rows : List PairRow) (deeds : List Deed) → Stand next rows (plans_with_shown shown done) → Made run time rows (plans_with_shown shown done) deeds → Stands end
      on time rows deeds stand made = rest next time rows (plans_with_shown shown done) deeds (kept_form s limit.0 (cut_of s limit) refl keeps) (subst (λ (g : Group). Runs g run end) runs.2.1 runs.3) seats stand made

      choose : (ShowsNothing time rows shown × Made run time rows (plans_with_shown shown done) deeds) ⊎ IsLogged time rows done shown deeds (Made run) → Stands end
      choose (inl both) = on time rows deeds (stands_form s limit rows rows done keeps (record { live = λ k v has. (both.0.breaks k v has, has); duplex = λ k v has. inl has }) stand) both.1
      choose (inr h) = on shown.cut.0 h.next h.later (stands_form s limit h.mid h.next done keeps h.follow (stands_quiet s time done h.quiet rows h.mid h.suspends stand)) h.goes_on

  kept_on : (a : Answer) (run : List Answer) (end : Group) (s : Group) (time : ℕ) (rows : List PairRow) (done : Plans) (deeds : List Deed) → IsKeptWhole time rows done a deeds (Made run) → Stand s rows done
      → ((next : List PairRow) (more : List Deed) → KeepsCall time next done a.call a.reply more (Made run) → Stand s next done → Stands end) → Stands end
  kept_on a run end s time rows done deeds h stand by = by h.next h.more h.goes_on (stands_quiet s time done h.quiet rows h.next h.suspends stand)

  others : (call : Call) (reply : Reply) (run : List Answer) → list_all is_call_of_seat (answer_of call reply ∷ run) ≡ true → list_all is_call_of_seat run ≡ true
  others call reply run seats = (and_parts (is_call_of_seat (answer_of call reply)) (list_all is_call_of_seat run) seats).1

  never : (call : Call) (reply : Reply) (run : List Answer) → is_call_of_seat (answer_of call reply) ≡ false → list_all is_call_of_seat (answer_of call reply ∷ run) ≡ true → ⊥
  never call reply run none seats = true≢false (sym (and_parts (is_call_of_seat (answer_of call reply)) (list_all is_call_of_seat run) seats).0 ∙ none)

  one : (call : Call) (reply : Reply) (run : List Answer) (end : Group) → Goes run end → Goes (answer_of call reply ∷ run) end
  one (Join batch) reply run end rest s time rows done deeds keeps runs seats stand made = read (Join batch) reply run end refl rest s time rows done deeds keeps runs (others (Join batch) reply run seats) stand made
  one (NextWanted k) reply run end rest s time rows done deeds keeps runs seats stand made = read (NextWanted k) reply run end refl rest s time rows done deeds keeps runs (others (NextWanted k) reply run seats) stand made
  one (Copied k v x at slot) reply run end rest s time rows done deeds keeps runs seats stand made = read (Copied k v x at slot) reply run end refl rest s time rows done deeds keeps runs (others (Copied k v x at slot) reply run seats) stand made
  one (Raise k upto) reply run end rest s time rows done deeds keeps runs seats stand made = read (Raise k upto) reply run end refl rest s time rows done deeds keeps runs (others (Raise k upto) reply run seats) stand made
  one (Break k upto cause) reply run end rest s time rows done deeds keeps runs seats stand made = read (Break k upto cause) reply run end refl rest s time rows done deeds keeps runs (others (Break k upto cause) reply run seats) stand made
  one (Form limit) reply run end rest s time rows done deeds keeps runs seats stand made =
      kept_on (answer_of (Form limit) reply) run end s time rows done deeds made stand (λ next more made then. form limit reply run end rest s time next done more keeps runs (others (Form limit) reply run seats) then made)
  one (Drop k v all) reply run end rest s time rows done deeds keeps runs seats stand made =
      kept_on (answer_of (Drop k v all) reply) run end s time rows done deeds made stand
      (λ next more made then. rest (with_control k (dropped v all) s) time next (plans_without k v done) more (kept_drop s k v all runs.1 keeps) (subst (λ (g : Group). Runs g run end) runs.2.1 runs.3)
      (others (Drop k v all) reply run seats) (stands_drop s k v all next done made.gone then) made.goes_on)
  one (Carry k v plan) reply run end rest s time rows done deeds keeps runs seats stand made = absurd (never (Carry k v plan) reply run refl seats)
  one (Resume k v) reply run end rest s time rows done deeds keeps runs seats stand made = absurd (never (Resume k v) reply run refl seats)
  one (Forget k v) reply run end rest s time rows done deeds keeps runs seats stand made = absurd (never (Forget k v) reply run refl seats)

  goes : (run : List Answer) (end : Group) → Goes run end
  goes [] end s time rows done deeds keeps runs seats stand made =
      let same : end ≡ s = runs in
      let quiet = stands_quiet s time done deeds rows last made.0 stand in
      (subst IsGroupSound (sym same) keeps, subst (λ (g : Group). Stand g last known) (sym same) (subst (λ (p : Plans). Stand s last p) (sym made.2) quiet))
  goes (a ∷ run) end s time rows done deeds keeps runs seats stand made = one a.call a.reply run end (goes run end) s time rows done deeds keeps runs seats stand made

pub rows_stand : RowsStandAfterLogs
rows_stand s end run time ended rows last done known deeds keeps runs seats stand made = goes ended last known run end s time rows done deeds keeps runs seats stand made

-- ---- what is known of plans before an epoch

-- whether a volume's row is duplex
abbrev is_duplex_at : (k v : ℕ) → PairRow → Bool
is_duplex_at k v r = is_of_volume_at k v r && is_duplex r.state

abbrev plans_of_rows : List PairRow → Plans
plans_of_rows rows = λ k v. list_any (is_duplex_at k v) rows

duplex_state : (state : PairState) → is_duplex state ≡ true → state ≡ Duplex
duplex_state Pending is = absurd cc
duplex_state Copy is = absurd cc
duplex_state Duplex is = refl
duplex_state (Suspended cause since) is = absurd cc

knows_duplex : (rows : List PairRow) → KnowsDuplex rows (plans_of_rows rows)
knows_duplex rows k v has =
    let at = at_of rows has.row has.among in
    any_there (is_duplex_at k v) rows at.0 has.row at.1 (and_from (is_of_volume_at k v has.row) (is_duplex has.row.state) (named_by k v has.row has.control has.volume) (ap is_duplex has.state))

stands_kept : (s : Group) (rows : List PairRow) → IsSoundForRows s rows → Stand s rows (plans_of_rows rows)
stands_kept s rows kept = record {
  live = λ k v has. let own = kept.each has.row has.among in (subst (λ j. j < length s.controls) has.control own.low, subst (λ j. counts (control_at s j).phase ≡ true) has.control (own.counted has.state));
  duplex = knows_duplex rows;
  plans = λ k v is. of k v (some_of (is_duplex_at k v) rows is);
}
  where
    of : (k v : ℕ) → HasSome (is_duplex_at k v) rows → (k < length s.controls) × IsPlanDone v (control_at s k)
    of k v some =
        let parts = and_parts (is_of_volume_at k v some.item) (is_duplex some.item.state) some.is in
        let at = and_parts (nat_eq some.item.control k) (nat_eq some.item.volume v) parts.0 in
        let own = kept.each some.item some.among in (
          subst (λ j. j < length s.controls) (eqb-true some.item.control k at.0) own.low,
          subst (λ j. IsPlanDone v (control_at s j)) (eqb-true some.item.control k at.0) (subst (λ w. IsPlanDone w (control_at s some.item.control)) (eqb-true some.item.volume v at.1) (own.done (duplex_state some.item.state parts.1))),
        )

-- ---- the rows of volumes

same_pairs_of : (rows next : List PairRow) → InPlaces IsSamePair rows next → pairs_of rows ≡ pairs_of next
same_pairs_of [] [] are = refl
same_pairs_of [] (s ∷ next) are = absurd are
same_pairs_of (r ∷ rows) [] are = absurd are
same_pairs_of (r ∷ rows) (s ∷ next) are = λ i. ap pair_of (sym are.0) i ∷ same_pairs_of rows next are.1 i

kept_by : (v : ℕ) (volumes : List Volume) → passes (λ u. true) (volume_of v volumes) ≡ list_any (λ (u : ℕ × ℕ). nat_eq u.0 v) (sizes_in (map known_volume volumes))
kept_by v [] = refl
kept_by v (u ∷ volumes) = choose (nat_eq u.number v) (kept_by v volumes)
  where
    choose : (b : Bool) → passes (λ (u : Volume). true) (volume_of v volumes) ≡ list_any (λ (u : ℕ × ℕ). nat_eq u.0 v) (sizes_in (map known_volume volumes))
        → passes (λ (u : Volume). true) (cond b (Some u) (volume_of v volumes)) ≡ (b || list_any (λ (u : ℕ × ℕ). nat_eq u.0 v) (sizes_in (map known_volume volumes)))
    choose true others = refl
    choose false others = others

kept_still : (first s : Group) (k v : ℕ) → HasSizesOf first s → is_volume_kept v (control_at s k) ≡ is_volume_kept v (control_at first k)
kept_still first s k v h =
    kept_by v (control_at s k).volumes ∙ ap (list_any (λ (u : ℕ × ℕ). nat_eq u.0 v)) (sizes_at first s k h) ∙ sym (kept_by v (control_at first k).volumes)

-- ---- after an epoch

module _ (group next : Group) (before after : List PairRow) (log : List Answer) (known : Plans) (runs : Runs group log next) (seats : list_all is_call_of_seat log ≡ true) (kept : IsSoundForRows group before) (pairs : InPlaces IsSamePair before after) (knows : KnowsRows (volumes_known next) after)
    (stands : IsGroupSound next × Stand next after known) where
  sizes : HasSizesOf group next
  sizes = sizes_stay group group log next runs seats refl

  apart : none_clash after ≡ true
  apart = apart_again before after pairs kept.apart

  row_again : (k v : ℕ) → HasRowIn IsAny k v before → HasRowIn IsAny k v after
  row_again k v has =
      let p = pair_before has.row after before (same_pairs_of before after pairs) (among_of before has.row has.among) in
      record { row = p.row; among = contains_of p.row after p.among; control = ap (λ (r : PairRow). r.control) p.pair ∙ has.control; volume = ap (λ (r : PairRow). r.volume) p.pair ∙ has.volume; state = tt }

  kept_after : IsSoundForRows next after
  kept_after = record {
    keeps = stands.0;
    apart = apart;
    each = λ r among. record {
      low = subst (λ n. r.control < n) (length-map next.controls known_of) (knows.controls r among);
      own = carried_again group next before after sizes (λ r among. (kept.each r among).own) pairs apart knows r among;
      counted = λ live. (stands.1.live r.control r.volume (record { row = r; among = among; control = refl; volume = refl; state = live })).1;
      done = λ is. (stands.1.plans r.control r.volume (stands.1.duplex r.control r.volume (record { row = r; among = among; control = refl; volume = refl; state = is }))).1;
    };
    rowed = λ k v is. row_again k v (kept.rowed k v (sym (kept_still group next k v sizes) ∙ is));
  }

pub epochs_rest : {S : Type 0} (tells : Type 0) (left : S → Option (List ℕ)) (faults : S → ℕ) (was is : PlantState) → EpochsComeToRest tells left faults was is
epochs_rest tells left faults was is limit group next lanes then site after ran reached kept = record {
  cut = reached.cut;
  time = reached.time.time;
  lanes_of = reached.lanes;
  begins = reached.begins;
  kept = subst (λ (end : Group). IsSoundForRows end after.told) (sym ran.ended) (kept_after group ran.end site.told after.told ran.log all.known ran.runs ran.seats kept reached.time.pairs
      (subst (λ (end : Group). KnowsRows (volumes_known end) after.told) ran.ended reached.begins.knows.rows)
      (rows_stand group ran.end ran.log site.time after.time site.told after.told (plans_of_rows site.told) all.known (deeds_of ran.steps) kept.keeps ran.runs ran.seats (stands_kept group site.told kept) all.makes));
}
  where
    all : KeepsAll site after (plans_of_rows site.told) (part_of_mover ran.log) (deeds_of ran.steps)
    all = ran.all (plans_of_rows site.told) (knows_duplex site.told)
