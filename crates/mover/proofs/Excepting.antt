-- No track of a duplex row is excepted after any of the deeds.
use Rattle.std.proofs.Common.{◌≡◌, ◌⊎◌, inl, inr, ℕ, zero, suc, ◌<◌, ◌≤◌, Bool, true, false, cond, not, nat_eq, ◌&&◌, ◌||◌, List, [], ◌∷◌, ◌++◌, length, take, filter, Option, Some, None, refl, sym, ap, subst, ◌∙◌, arith, append-nil, true≢false}
use Rattle.std.specs.List.{list_all, list_any}
use Rattle.std.proofs.lemmas.Bool.{and_parts, and_from, cases_Bool, eq-eqb, not_from_false, or_left, or_right}
use Rattle.tod_stamp.specs.declared.stamp.Stamp.{Stamp}
use Rattle.write_trace.specs.declared.trace.Trace.{Trace}
use Rattle.pair_table.specs.declared.row.PairRow.{PairRow}
use Rattle.pair_table.specs.Tables.{is_of, none_clash}
use Rattle.pending_queue.specs.Entries.{WaitingEntry, due, is_queued_on, is_whole}
use Rattle.image_former.specs.Entries.{is_entry_on}
use Rattle.group_state.specs.declared.volume.Volume.{Volume}
use Rattle.group_state.specs.Volumes.{passes, volume_of}
use Rattle.group_state.specs.Controls.{dropped}
use Rattle.group_state.specs.Groups.{Group, Shown, control_at, cut_of, formed_at, shown_at, with_control}
use Rattle.group_state.specs.Machine.{Call, Reply}
use Rattle.group_state.specs.Machine.Call.{Join, NextWanted, Copied, Raise, Break, Form, Carry, Drop, Resume, Forget}
use Rattle.group_state.specs.Runs.{Answer}
use Rattle.pair_table.specs.States.{is_device_suspended}
use Rattle.record_rows.specs.Deeds.{Deed, entries_by_deed, rows_after_deeds, rows_by_deed}
use Rattle.record_rows.specs.Deeds.Deed.{Logged, Changed, Marked}
use Rattle.site_store.specs.Exceptions.{Exceptions, excepted_after, excepted_by_deed, is_kept, is_whole_on}
use Rattle.fed_logs.specs.ToldTracks.{HeldTracks, held_after_group, names_track}
use Rattle.group_state.specs.SoundStates.{is_entry_of_control}
use Rattle.fed_logs.proofs.Keeping.{at_map}
use Rattle.group_state.proofs.OwnParts.{own_part}
use Rattle.fed_logs.specs.Feeds.{is_call_of_reader, part_of_mover}
use Rattle.fed_logs.specs.Logs.{BeginsLog, IsFedLog, IsPlanDone, Sizes, is_call_of_seat}
use Rattle.fed_logs.specs.Moves.{AreFewer, AreQuiet, HasRowIn, IsDuplex, IsKeptOn, IsLogged, KeepsCall, KeepsShown, IsKeptWhole, MakesAllDeeds, MakesDeeds, MayFollow, Plans, ShowsNothing, plans_with_shown, plans_without}
use Rattle.fed_logs.proofs.Bearing.{kept_shown}
use Rattle.fed_logs.proofs.ReadCalls.{answer_of, drop_begins, drop_log, fewer_begins, form_begins, form_log, nothing_begins, read_begins, read_on}
use Rattle.fed_logs.proofs.Standing.{at_with, formed_count, same_count}
use Rattle.fed_logs.proofs.Went.{form_shown}
use Rattle.mover.specs.OwedTracks.{ExceptedAreOwed, IsUnfailed, is_copied_to, is_volume_kept}
use Rattle.mover.proofs.Copying.{OwedLater, done_owes_none, drops_later, forms_later, kept_within, read_later, read_within}
use Rattle.mover.proofs.Held.{KeepPairs}
use Rattle.mover.proofs.Pairs.{Among, among_of, apart_still, entry_names, one_device, pairs_of}
use Rattle.mover.proofs.Pairs.Among.{Here as First, Later as After}

-- ---- rows that keep their devices

any_among : (test : PairRow → Bool) (r : PairRow) (rows : List PairRow) → Among r rows → test r ≡ true → list_any test rows ≡ true
any_among test r _ (First rows) is = or_left (test r) (list_any test rows) is
any_among test r _ (After s rows there) is = or_right (test s) (list_any test rows) (any_among test r rows there is)

-- The device of an unfailed row is kept.
pub unfailed_is_kept : (k v : ℕ) (rows : List PairRow) (has : HasRowIn IsUnfailed k v rows) → is_kept has.row.device rows ≡ true
unfailed_is_kept k v rows has =
    any_among (λ r. is_of has.row.device r && not (is_device_suspended r.state)) has.row rows (among_of rows has.row has.among)
    (and_from (nat_eq has.row.device has.row.device) (not (is_device_suspended has.row.state)) (eq-eqb has.row.device has.row.device refl) (not_from_false (is_device_suspended has.row.state) has.state))

-- Rows are unfailed after each deed only where they were before.
abbrev pub KeepFailed : List PairRow → List Deed → Type 0
KeepFailed rows [] = Unit {0}
KeepFailed rows (deed ∷ deeds) = ((k v : ℕ) → HasRowIn IsUnfailed k v (rows_by_deed deed) → HasRowIn IsUnfailed k v rows) × KeepFailed (rows_by_deed deed) deeds

-- What is excepted of it after a deed was so before, and no whole image of it was logged.
pub excepted_before : (kept was whole : Bool) → kept ≡ true → (not kept || (was && not whole)) ≡ true → (was ≡ true) × (whole ≡ false)
excepted_before true true false is e = (refl, refl)
excepted_before true true true is e = absurd (true≢false (sym e))
excepted_before true false whole is e = absurd (true≢false (sym e))
excepted_before false was whole is e = absurd (true≢false (sym is))

-- ---- one deed

-- the same of a row after a deed, by the row of its volume before
module _ (rows next : List PairRow) (apart : none_clash rows ≡ true) (same : pairs_of next ≡ pairs_of rows) (k v : ℕ) (has : HasRowIn IsUnfailed k v next) (was : HasRowIn IsUnfailed k v rows) where
  device_was : was.row.device ≡ has.row.device
  device_was = one_device IsUnfailed IsUnfailed k v rows next apart same was has

  was_excepted : (deed : Deed) → rows_by_deed deed ≡ next → (excepted : Exceptions) (x : ℕ) → excepted_by_deed rows deed excepted has.row.device x ≡ true
      → (excepted was.row.device x ≡ true) × (list_any (is_whole_on rows was.row.device x) (entries_by_deed deed) ≡ false)
  was_excepted deed is excepted x e =
      let d = has.row.device in
      let kept : is_kept d (rows_by_deed deed) ≡ true = ap (is_kept d) is ∙ unfailed_is_kept k v next has in
      let before = excepted_before (is_kept d (rows_by_deed deed)) (excepted d x) (list_any (is_whole_on rows d x) (entries_by_deed deed)) kept e in
      (ap (λ (n : ℕ). excepted n x) device_was ∙ before.0, ap (λ (n : ℕ). list_any (is_whole_on rows n x) (entries_by_deed deed)) device_was ∙ before.1)

-- Rows may be suspended.
fewer_owed : (size : Sizes) (excepted : Exceptions) (s : Group) (rows fewer : List PairRow) (deed : Deed) → none_clash rows ≡ true → pairs_of fewer ≡ pairs_of rows → rows_by_deed deed ≡ fewer
    → ((k v : ℕ) → HasRowIn IsUnfailed k v fewer → HasRowIn IsUnfailed k v rows) → ExceptedAreOwed size excepted s rows → ExceptedAreOwed size (excepted_by_deed rows deed excepted) s fewer
fewer_owed size excepted s rows fewer deed apart same is f h k v has kept x low e =
    let was = f k v has in
    h k v was kept x low (was_excepted rows fewer apart same k v has was deed is excepted x e).0

-- ---- a group that is logged

-- a copied track that a group takes is a whole image there
whole_taken : (k v x : ℕ) (d : ℕ) (rows : List PairRow) (entries : List WaitingEntry) → ((e : WaitingEntry) → is_entry_on rows d x e ≡ names_track k v x e) → list_any (is_copied_to v x) (filter (is_entry_of_control k) entries) ≡ true
    → list_any (is_whole_on rows d x) entries ≡ true
whole_taken k v x d rows [] on some = absurd (true≢false (sym some))
whole_taken k v x d rows (e ∷ entries) on some = choose (is_entry_of_control k e) refl some (whole_taken k v x d rows entries on)
  where
    here : is_entry_of_control k e ≡ true → is_copied_to v x e ≡ true → is_whole_on rows d x e ≡ true
    here own copy =
        let one = and_parts e.is_copy (is_whole e.kind && is_queued_on v x e) copy in
        let two = and_parts (is_whole e.kind) (is_queued_on v x e) one.1 in
        and_from (is_entry_on rows d x e) (is_whole e.kind) (on e ∙ and_from (is_entry_of_control k e) (is_queued_on v x e) own two.1) two.0

    choose : (own : Bool) → is_entry_of_control k e ≡ own → list_any (is_copied_to v x) (cond own (e ∷ filter (is_entry_of_control k) entries) (filter (is_entry_of_control k) entries)) ≡ true
        → (list_any (is_copied_to v x) (filter (is_entry_of_control k) entries) ≡ true → list_any (is_whole_on rows d x) entries ≡ true) → list_any (is_whole_on rows d x) (e ∷ entries) ≡ true
    choose true own some others = elim (cases_Bool (is_copied_to v x e)) [
      | inl copy ↦ or_left (is_whole_on rows d x e) (list_any (is_whole_on rows d x) entries) (here own copy)
      | inr none ↦ or_right (is_whole_on rows d x e) (list_any (is_whole_on rows d x) entries) (others (sym (ap (λ (b : Bool). b || list_any (is_copied_to v x) (filter (is_entry_of_control k) entries)) none) ∙ some))
    ]
    choose false own some others = or_right (is_whole_on rows d x e) (list_any (is_whole_on rows d x) entries) (others some)

module _ (size : Sizes) (traces : List Trace) (held : HeldTracks) (s end : Group) (limit : Stamp) (reply : Reply) (run : List Answer) (log : IsFedLog traces s end (answer_of (Form limit) reply ∷ run)) where
  abbrev cut : Stamp
  cut = cut_of s limit

  abbrev shown : Shown
  shown = shown_at cut s

  -- What the group took of a controller's queue was shown.
  taken_is_shown : (time : ℕ) (rows : List PairRow) (done : Plans) → BeginsLog size traces held s time rows done → (k : ℕ) → k < length s.controls → filter (is_entry_of_control k) shown.entries ≡ due cut (control_at s k).queue.waiting
  taken_is_shown time rows done b k low = own_part s cut k log.kept low

  owed_after : (k v x : ℕ) → k < length s.controls → list_any (is_copied_to v x) (due cut (control_at s k).queue.waiting) ≡ false → OwedLater v x (control_at s k) → OwedLater v x (control_at (formed_at cut s) k)
  owed_after k v x low none h = subst (OwedLater v x) (sym (at_map cut s.controls k low)) (forms_later cut v x (control_at s k) none h)

  within_form : (k v : ℕ) → is_volume_kept v (control_at (formed_at cut s) k) ≡ true → k < length s.controls
  within_form k v kept = let low = kept_within (formed_at cut s) k v kept in omega (arith, low, formed_count s cut)

  group_owed : (excepted : Exceptions) (time : ℕ) (mid next : List PairRow) (done : Plans) → none_clash mid ≡ true → pairs_of next ≡ pairs_of mid → ((k v : ℕ) → HasRowIn IsUnfailed k v next → HasRowIn IsUnfailed k v mid)
      → BeginsLog size traces held s time mid done → ExceptedAreOwed size excepted s mid → ExceptedAreOwed size (excepted_by_deed mid (Logged cut.0 shown.entries next) excepted) (formed_at cut s) next
  group_owed excepted time mid next done apart same f b h k v has kept x low e =
      let was = f k v has in
      let within = within_form k v kept in
      let before = was_excepted mid next apart same k v has was (Logged cut.0 shown.entries next) refl excepted x e in
      owed_after k v x within (none_taken was within before.1) (λ there. h k v was there x low before.0) kept
    where
      none_taken : (was : HasRowIn IsUnfailed k v mid) → k < length s.controls → list_any (is_whole_on mid was.row.device x) shown.entries ≡ false → list_any (is_copied_to v x) (due cut (control_at s k).queue.waiting) ≡ false
      none_taken was within none = by (list_any (is_copied_to v x) (due cut (control_at s k).queue.waiting)) refl
        where
          on : (entry : WaitingEntry) → is_entry_on mid was.row.device x entry ≡ names_track k v x entry
          on entry = entry_names was.row mid apart (among_of mid was.row was.among) x entry ∙ ap (λ (n : ℕ). names_track n was.row.volume x entry) was.control ∙ ap (λ (n : ℕ). names_track k n x entry) was.volume

          by : (t : Bool) → list_any (is_copied_to v x) (due cut (control_at s k).queue.waiting) ≡ t → t ≡ false
          by false is = refl
          by true is = absurd (true≢false (sym (whole_taken k v x was.row.device mid shown.entries on (ap (list_any (is_copied_to v x)) (taken_is_shown time mid done b k within) ∙ is)) ∙ none))

  -- A form that shows no entry takes none.
  nothing_owed : (excepted : Exceptions) (time : ℕ) (rows : List PairRow) (done : Plans) → shown.entries ≡ [] → BeginsLog size traces held s time rows done → ExceptedAreOwed size excepted s rows → ExceptedAreOwed size excepted (formed_at cut s) rows
  nothing_owed excepted time rows done none b h k v has kept x low e =
      let within = within_form k v kept in
      let empty : due cut (control_at s k).queue.waiting ≡ [] = sym (taken_is_shown time rows done b k within) ∙ ap (filter (is_entry_of_control k)) none in
      owed_after k v x within (ap (list_any (is_copied_to v x)) empty) (λ there. h k v has there x low e) kept

-- ---- a volume that is dropped

drop_owed : (size : Sizes) (traces : List Trace) (held : HeldTracks) (excepted : Exceptions) (s : Group) (j w : ℕ) (all : Bool) (time : ℕ) (rows : List PairRow) (done : Plans) → (all ≡ false → done j w ≡ true) → BeginsLog size traces held s time rows done
    → ExceptedAreOwed size excepted s rows → ExceptedAreOwed size excepted (with_control j (dropped w all) s) rows
drop_owed size traces held excepted s j w all time rows done known b h k v has kept x low e =
    let within : k < length s.controls = (let there = kept_within (with_control j (dropped w all) s) k v kept in omega (arith, there, same_count s j (dropped w all))) in
    let later : OwedLater v x (control_at s k) = λ there. h k v has there x low e in
    at_with s j k (dropped w all) (OwedLater v x) within
    (λ is. drops_later (size k v) w all v x (control_at s k) low (b.sized k v within) (λ some. subst (λ (i : ℕ). IsPlanDone w (control_at s i)) is (b.stand.plans j w (known some)).1) later) (λ apart. later) kept

-- ---- where the plans of duplex rows are done

pub none_excepted : (size : Sizes) (traces : List Trace) (held : HeldTracks) (excepted : Exceptions) (s : Group) (time : ℕ) (rows : List PairRow) (done : Plans) → BeginsLog size traces held s time rows done → ExceptedAreOwed size excepted s rows
    → (k v : ℕ) (has : HasRowIn IsDuplex k v rows) (x : ℕ) → x < size k v → excepted has.row.device x ≡ false
none_excepted size traces held excepted s time rows done b h k v has x low = by (excepted has.row.device x) refl
  where
    kept : (o : Option Volume) → passes (λ u. u.carried) o ≡ true → passes (λ u. true) o ≡ true
    kept None carried = carried
    kept (Some u) carried = refl

    by : (t : Bool) → excepted has.row.device x ≡ t → t ≡ false
    by false is = refl
    by true is =
        let d = (b.stand.plans k v (b.stand.duplex k v has)).1 in
        let unfailed : HasRowIn IsUnfailed k v rows = record { row = has.row; among = has.among; control = has.control; volume = has.volume; state = ap is_device_suspended has.state } in
        absurd (true≢false (sym (h k v unfailed (kept (volume_of v (control_at s k).volumes) d.carried) x low is) ∙ done_owes_none v x (control_at s k) d))

-- ---- a log

module _ (size : Sizes) (traces : List Trace) where
  abbrev NoneExcepted : Exceptions → List PairRow → Type 0
  NoneExcepted excepted rows = (k v : ℕ) (has : HasRowIn IsDuplex k v rows) (x : ℕ) → x < size k v → excepted has.row.device x ≡ false

  abbrev Goal : Exceptions → List PairRow → List Deed → Type 0
  Goal excepted rows deeds = (n : ℕ) → n ≤ length deeds → NoneExcepted (excepted_after rows (take n deeds) excepted) (rows_after_deeds (take n deeds) rows)

  -- what is known of rows and exceptions at a state
  pub record Here (held : HeldTracks) (excepted : Exceptions) (s : Group) (time : ℕ) (rows : List PairRow) (done : Plans) (deeds : List Deed) : Type 0 where
    pub begins : BeginsLog size traces held s time rows done
    pub owed : ExceptedAreOwed size excepted s rows
    pub apart : none_clash rows ≡ true
    pub pairs : KeepPairs rows deeds
    pub failed : KeepFailed rows deeds

  now : (held : HeldTracks) (excepted : Exceptions) (s : Group) (time : ℕ) (rows : List PairRow) (done : Plans) (deeds : List Deed) → Here held excepted s time rows done deeds → NoneExcepted excepted rows
  now held excepted s time rows done deeds h = none_excepted size traces held excepted s time rows done h.begins h.owed

  first_then : (excepted : Exceptions) (rows : List PairRow) (deed : Deed) (deeds : List Deed) → NoneExcepted excepted rows → Goal (excepted_by_deed rows deed excepted) (rows_by_deed deed) deeds → Goal excepted rows (deed ∷ deeds)
  first_then excepted rows deed deeds here goal zero le = here
  first_then excepted rows deed deeds here goal (suc n) le = goal n (omega (arith, le))

  at_start : (excepted : Exceptions) (rows : List PairRow) (deeds : List Deed) → deeds ≡ [] → NoneExcepted excepted rows → Goal excepted rows deeds
  at_start excepted rows deeds none here zero le = here
  at_start excepted rows deeds none here (suc n) le = absurd (let few : length deeds ≡ 0 = ap (λ (ds : List Deed). length ds) none in omega (arith, few, le))

  -- quiet deeds, and more after them
  quiet_on : (held : HeldTracks) (s : Group) (time : ℕ) (done : Plans) (quiet : List Deed) (excepted : Exceptions) (rows next : List PairRow) (more : List Deed) → AreQuiet time rows quiet next → Here held excepted s time rows done (quiet ++ more)
      → ((left : Exceptions) → Here held left s time next done more → Goal left next more) → Goal excepted rows (quiet ++ more)
  quiet_on held s time done [] excepted rows next more is h rest =
      subst (λ (r : List PairRow). Goal excepted r more) is (rest excepted (subst (λ (r : List PairRow). Here held excepted s time r done more) (sym is) h))
  quiet_on held s time done (Logged time_cut entries fewer ∷ quiet) excepted rows next more is h rest = absurd is
  quiet_on held s time done (Changed at fewer ∷ quiet) excepted rows next more is h rest =
      first_then excepted rows (Changed at fewer) (quiet ++ more) (now held excepted s time rows done (Changed at fewer ∷ (quiet ++ more)) h)
      (quiet_on held s time done quiet (excepted_by_deed rows (Changed at fewer) excepted) fewer next more is.2 (after is.1) rest)
    where
      after : AreFewer rows fewer → Here held (excepted_by_deed rows (Changed at fewer) excepted) s time fewer done (quiet ++ more)
      after f = record {
        begins = fewer_begins size traces held s time rows fewer done f h.begins;
        owed = fewer_owed size excepted s rows fewer (Changed at fewer) h.apart h.pairs.0 refl h.failed.0 h.owed;
        apart = apart_still rows fewer h.pairs.0 h.apart;
        pairs = h.pairs.1;
        failed = h.failed.1;
      }
  quiet_on held s time done (Marked spot ended fewer ∷ quiet) excepted rows next more is h rest =
      first_then excepted rows (Marked spot ended fewer) (quiet ++ more) (now held excepted s time rows done (Marked spot ended fewer ∷ (quiet ++ more)) h)
      (quiet_on held s time done quiet (excepted_by_deed rows (Marked spot ended fewer) excepted) fewer next more is.1 (after is.0) rest)
    where
      after : AreFewer rows fewer → Here held (excepted_by_deed rows (Marked spot ended fewer) excepted) s time fewer done (quiet ++ more)
      after f = record {
        begins = fewer_begins size traces held s time rows fewer done f h.begins;
        owed = fewer_owed size excepted s rows fewer (Marked spot ended fewer) h.apart h.pairs.0 refl h.failed.0 h.owed;
        apart = apart_still rows fewer h.pairs.0 h.apart;
        pairs = h.pairs.1;
        failed = h.failed.1;
      }

  abbrev Keeps : List Answer → Group → Type 0
  Keeps run end = (held : HeldTracks) (excepted : Exceptions) (s : Group) (time : ℕ) (rows : List PairRow) (done : Plans) (deeds : List Deed) → IsFedLog traces s end run → Here held excepted s time rows done deeds → MakesDeeds time rows done (part_of_mover run) deeds → Goal excepted rows deeds

  read : (call : Call) (reply : Reply) (run : List Answer) (end : Group) → is_call_of_reader call ≡ true → Keeps run end → (held : HeldTracks) (excepted : Exceptions) (s : Group) (time : ℕ) (rows : List PairRow) (done : Plans) (deeds : List Deed)
      → IsFedLog traces s end (answer_of call reply ∷ run) → Here held excepted s time rows done deeds → MakesDeeds time rows done (part_of_mover run) deeds → Goal excepted rows deeds
  read call reply run end reads rest held excepted s time rows done deeds log h moves =
      let on = read_on traces s end call reply run reads log in
      rest held excepted on.next time rows done deeds on.log (record {
        begins = read_begins size traces held s end call reply run time rows done reads log on h.begins;
        owed = λ k v has kept x low e. read_later s on.next call reply k v x on.went (read_within s on.next call reply k v on.went kept) (λ there. h.owed k v has there x low e) kept;
        apart = h.apart;
        pairs = h.pairs;
        failed = h.failed;
      }) moves

  form : (limit : Stamp) (reply : Reply) (run : List Answer) (end : Group) → Keeps run end → (held : HeldTracks) (excepted : Exceptions) (s : Group) (time : ℕ) (rows : List PairRow) (done : Plans) (deeds : List Deed) → IsFedLog traces s end (answer_of (Form limit) reply ∷ run)
      → Here held excepted s time rows done deeds → KeepsShown time rows done (Some (shown_at (cut_of s limit) s)) deeds (λ t r p d. MakesDeeds t r p (part_of_mover run) d) → Goal excepted rows deeds
  form limit reply run end rest held excepted s time rows done deeds log h keeps = choose keeps
    where
      logged : (mid next : List PairRow) (later : List Deed) → MayFollow (shown_at (cut_of s limit) s) mid next → MakesDeeds (cut_of s limit).0 next (plans_with_shown (shown_at (cut_of s limit) s) done) (part_of_mover run) later
          → (left : Exceptions) → Here held left s time mid done (Logged (cut_of s limit).0 (shown_at (cut_of s limit) s).entries next ∷ later) → Goal left mid (Logged (cut_of s limit).0 (shown_at (cut_of s limit) s).entries next ∷ later)
      logged mid next later follow moves left m =
          first_then left mid (Logged (cut_of s limit).0 (shown_at (cut_of s limit) s).entries next) later (now held left s time mid done (Logged (cut_of s limit).0 (shown_at (cut_of s limit) s).entries next ∷ later) m)
          (rest (held_after_group (shown_at (cut_of s limit) s).entries held) (excepted_by_deed mid (Logged (cut_of s limit).0 (shown_at (cut_of s limit) s).entries next) left) (formed_at (cut_of s limit) s) (cut_of s limit).0 next (plans_with_shown (shown_at (cut_of s limit) s) done) later (form_log traces s end limit reply run log) (record {
            begins = form_begins size traces held s end limit reply run time mid next done log follow m.begins;
            owed = group_owed size traces held s end limit reply run log left time mid next done m.apart m.pairs.0 m.failed.0 m.begins m.owed;
            apart = apart_still mid next m.pairs.0 m.apart;
            pairs = m.pairs.1;
            failed = m.failed.1;
          }) moves)

      choose : (ShowsNothing time rows (shown_at (cut_of s limit) s) × MakesDeeds time rows (plans_with_shown (shown_at (cut_of s limit) s) done) (part_of_mover run) deeds) ⊎ IsLogged time rows done (shown_at (cut_of s limit) s) deeds (λ t r p d. MakesDeeds t r p (part_of_mover run) d) → Goal excepted rows deeds
      choose (inl both) =
          rest held excepted (formed_at (cut_of s limit) s) time rows (plans_with_shown (shown_at (cut_of s limit) s) done) deeds (form_log traces s end limit reply run log) (record {
            begins = nothing_begins size traces held s end limit reply run time rows done log both.0 h.begins;
            owed = nothing_owed size traces held s end limit reply run log excepted time rows done both.0.entries h.begins h.owed;
            apart = h.apart;
            pairs = h.pairs;
            failed = h.failed;
          }) both.1
      choose (inr l) =
          subst (Goal excepted rows) (sym l.are)
          (quiet_on held s time done l.quiet excepted rows l.mid (Logged (cut_of s limit).0 (shown_at (cut_of s limit) s).entries l.next ∷ l.later) l.suspends (subst (Here held excepted s time rows done) l.are h) (logged l.mid l.next l.later l.follow l.goes_on))

  -- what was kept on between two calls of the mover's
  kept_on : (a : Answer) (run : List Answer) (held : HeldTracks) (excepted : Exceptions) (s : Group) (time : ℕ) (rows : List PairRow) (done : Plans) (deeds : List Deed) → IsKeptOn time rows done a deeds (λ t r p d. MakesDeeds t r p (part_of_mover run) d)
      → Here held excepted s time rows done deeds
      → ((left : Exceptions) (next : List PairRow) (more : List Deed) → KeepsCall time next done a.call a.reply more (λ t r p d. MakesDeeds t r p (part_of_mover run) d) → Here held left s time next done more → Goal left next more) → Goal excepted rows deeds
  kept_on a run held excepted s time rows done deeds k h by =
      subst (Goal excepted rows) (sym k.are) (quiet_on held s time done k.quiet excepted rows k.next k.more k.suspends (subst (Here held excepted s time rows done) k.are h) (λ left m. choose left k.goes_on m))
    where
      choose : (left : Exceptions) → (k.more ≡ []) ⊎ KeepsCall time k.next done a.call a.reply k.more (λ t r p d. MakesDeeds t r p (part_of_mover run) d) → Here held left s time k.next done k.more → Goal left k.next k.more
      choose left (inl none) m = at_start left k.next k.more none (now held left s time k.next done k.more m)
      choose left (inr keeps) m = by left k.next k.more keeps m

  one : (call : Call) (reply : Reply) (run : List Answer) (end : Group) → Keeps run end → Keeps (answer_of call reply ∷ run) end
  one (Join batch) reply run end rest held excepted s time rows done deeds log h moves = read (Join batch) reply run end refl rest held excepted s time rows done deeds log h moves
  one (NextWanted k) reply run end rest held excepted s time rows done deeds log h moves = read (NextWanted k) reply run end refl rest held excepted s time rows done deeds log h moves
  one (Copied k v x at slot) reply run end rest held excepted s time rows done deeds log h moves = read (Copied k v x at slot) reply run end refl rest held excepted s time rows done deeds log h moves
  one (Raise k upto) reply run end rest held excepted s time rows done deeds log h moves = read (Raise k upto) reply run end refl rest held excepted s time rows done deeds log h moves
  one (Break k upto cause) reply run end rest held excepted s time rows done deeds log h moves = read (Break k upto cause) reply run end refl rest held excepted s time rows done deeds log h moves
  one (Form limit) reply run end rest held excepted s time rows done deeds log h moves =
      kept_on (answer_of (Form limit) reply) run held excepted s time rows done deeds moves h
      (λ left next more keeps then. form limit reply run end rest held left s time next done more log then
      (kept_shown s log.runs.0 limit reply time next done more (λ t r p d. MakesDeeds t r p (part_of_mover run) d) (form_shown s log.runs.0 limit reply log.runs.2) keeps))
  one (Drop k v all) reply run end rest held excepted s time rows done deeds log h moves =
      kept_on (answer_of (Drop k v all) reply) run held excepted s time rows done deeds moves h
      (λ left next more keeps then. rest held left (with_control k (dropped v all) s) time next (plans_without k v done) more (drop_log traces s end k v all reply run log) (record {
        begins = drop_begins size traces held s end k v all reply run time next done log keeps.gone keeps.known then.begins;
        owed = drop_owed size traces held left s k v all time next done keeps.known then.begins then.owed;
        apart = then.apart;
        pairs = then.pairs;
        failed = then.failed;
      }) keeps.goes_on)
  one (Carry k v plan) reply run end rest held excepted s time rows done deeds log h moves = absurd (true≢false (sym (and_parts (is_call_of_seat (answer_of (Carry k v plan) reply)) (list_all is_call_of_seat run) log.seats).0))
  one (Resume k v) reply run end rest held excepted s time rows done deeds log h moves = absurd (true≢false (sym (and_parts (is_call_of_seat (answer_of (Resume k v) reply)) (list_all is_call_of_seat run) log.seats).0))
  one (Forget k v) reply run end rest held excepted s time rows done deeds log h moves = absurd (true≢false (sym (and_parts (is_call_of_seat (answer_of (Forget k v) reply)) (list_all is_call_of_seat run) log.seats).0))

  -- No track of a duplex row is excepted after any of the deeds.
  pub excepts_none : (run : List Answer) (end : Group) → Keeps run end
  excepts_none [] end = λ held excepted s time rows done deeds log h moves.
      subst (Goal excepted rows) (append-nil deeds)
      (quiet_on held s time done deeds excepted rows moves.0 [] moves.1 (subst (Here held excepted s time rows done) (sym (append-nil deeds)) h) (λ left m. at_start left moves.0 [] refl (now held left s time moves.0 done [] m)))
  excepts_none (a ∷ run) end = one a.call a.reply run end (excepts_none run end)

  -- ---- all was kept

  module _ (ended : ℕ) (last : List PairRow) (known : Plans) where
    abbrev All : List Answer → ℕ → List PairRow → Plans → List Deed → Type 0
    All run t r p d = MakesAllDeeds t r p (part_of_mover run) d ended last known

    -- What is excepted after all deeds is owed.
    abbrev Owes : Group → Exceptions → List PairRow → List Deed → Type 0
    Owes end excepted rows deeds = ExceptedAreOwed size (excepted_after rows deeds excepted) end last

    quiet_owes : (held : HeldTracks) (s end : Group) (time : ℕ) (done : Plans) (quiet : List Deed) (excepted : Exceptions) (rows next : List PairRow) (more : List Deed) → AreQuiet time rows quiet next → Here held excepted s time rows done (quiet ++ more)
        → ((left : Exceptions) → Here held left s time next done more → Owes end left next more) → Owes end excepted rows (quiet ++ more)
    quiet_owes held s end time done [] excepted rows next more is h rest =
        subst (λ (r : List PairRow). Owes end excepted r more) is (rest excepted (subst (λ (r : List PairRow). Here held excepted s time r done more) (sym is) h))
    quiet_owes held s end time done (Logged time_cut entries fewer ∷ quiet) excepted rows next more is h rest = absurd is
    quiet_owes held s end time done (Changed at fewer ∷ quiet) excepted rows next more is h rest =
        quiet_owes held s end time done quiet (excepted_by_deed rows (Changed at fewer) excepted) fewer next more is.2 (record {
          begins = fewer_begins size traces held s time rows fewer done is.1 h.begins;
          owed = fewer_owed size excepted s rows fewer (Changed at fewer) h.apart h.pairs.0 refl h.failed.0 h.owed;
          apart = apart_still rows fewer h.pairs.0 h.apart;
          pairs = h.pairs.1;
          failed = h.failed.1;
        }) rest
    quiet_owes held s end time done (Marked spot flag fewer ∷ quiet) excepted rows next more is h rest =
        quiet_owes held s end time done quiet (excepted_by_deed rows (Marked spot flag fewer) excepted) fewer next more is.1 (record {
          begins = fewer_begins size traces held s time rows fewer done is.0 h.begins;
          owed = fewer_owed size excepted s rows fewer (Marked spot flag fewer) h.apart h.pairs.0 refl h.failed.0 h.owed;
          apart = apart_still rows fewer h.pairs.0 h.apart;
          pairs = h.pairs.1;
          failed = h.failed.1;
        }) rest

    abbrev OwesAll : List Answer → Group → Type 0
    OwesAll run end = (held : HeldTracks) (excepted : Exceptions) (s : Group) (time : ℕ) (rows : List PairRow) (done : Plans) (deeds : List Deed) → IsFedLog traces s end run → Here held excepted s time rows done deeds → All run time rows done deeds → Owes end excepted rows deeds

    read_owes : (call : Call) (reply : Reply) (run : List Answer) (end : Group) → is_call_of_reader call ≡ true → OwesAll run end → (held : HeldTracks) (excepted : Exceptions) (s : Group) (time : ℕ) (rows : List PairRow) (done : Plans) (deeds : List Deed)
        → IsFedLog traces s end (answer_of call reply ∷ run) → Here held excepted s time rows done deeds → All run time rows done deeds → Owes end excepted rows deeds
    read_owes call reply run end reads rest held excepted s time rows done deeds log h moves =
        let on = read_on traces s end call reply run reads log in
        rest held excepted on.next time rows done deeds on.log (record {
          begins = read_begins size traces held s end call reply run time rows done reads log on h.begins;
          owed = λ k v has kept x low e. read_later s on.next call reply k v x on.went (read_within s on.next call reply k v on.went kept) (λ there. h.owed k v has there x low e) kept;
          apart = h.apart;
          pairs = h.pairs;
          failed = h.failed;
        }) moves

    form_owes : (limit : Stamp) (reply : Reply) (run : List Answer) (end : Group) → OwesAll run end → (held : HeldTracks) (excepted : Exceptions) (s : Group) (time : ℕ) (rows : List PairRow) (done : Plans) (deeds : List Deed) → IsFedLog traces s end (answer_of (Form limit) reply ∷ run)
        → Here held excepted s time rows done deeds → KeepsShown time rows done (Some (shown_at (cut_of s limit) s)) deeds (All run) → Owes end excepted rows deeds
    form_owes limit reply run end rest held excepted s time rows done deeds log h keeps = choose keeps
      where
        logged : (mid next : List PairRow) (later : List Deed) → MayFollow (shown_at (cut_of s limit) s) mid next → All run (cut_of s limit).0 next (plans_with_shown (shown_at (cut_of s limit) s) done) later
            → (left : Exceptions) → Here held left s time mid done (Logged (cut_of s limit).0 (shown_at (cut_of s limit) s).entries next ∷ later) → Owes end left mid (Logged (cut_of s limit).0 (shown_at (cut_of s limit) s).entries next ∷ later)
        logged mid next later follow moves left m =
            rest (held_after_group (shown_at (cut_of s limit) s).entries held) (excepted_by_deed mid (Logged (cut_of s limit).0 (shown_at (cut_of s limit) s).entries next) left) (formed_at (cut_of s limit) s) (cut_of s limit).0 next
            (plans_with_shown (shown_at (cut_of s limit) s) done) later (form_log traces s end limit reply run log) (record {
              begins = form_begins size traces held s end limit reply run time mid next done log follow m.begins;
              owed = group_owed size traces held s end limit reply run log left time mid next done m.apart m.pairs.0 m.failed.0 m.begins m.owed;
              apart = apart_still mid next m.pairs.0 m.apart;
              pairs = m.pairs.1;
              failed = m.failed.1;
            }) moves

        choose : (ShowsNothing time rows (shown_at (cut_of s limit) s) × All run time rows (plans_with_shown (shown_at (cut_of s limit) s) done) deeds) ⊎ IsLogged time rows done (shown_at (cut_of s limit) s) deeds (All run) → Owes end excepted rows deeds
        choose (inl both) =
            rest held excepted (formed_at (cut_of s limit) s) time rows (plans_with_shown (shown_at (cut_of s limit) s) done) deeds (form_log traces s end limit reply run log) (record {
              begins = nothing_begins size traces held s end limit reply run time rows done log both.0 h.begins;
              owed = nothing_owed size traces held s end limit reply run log excepted time rows done both.0.entries h.begins h.owed;
              apart = h.apart;
              pairs = h.pairs;
              failed = h.failed;
            }) both.1
        choose (inr l) =
            subst (Owes end excepted rows) (sym l.are)
            (quiet_owes held s end time done l.quiet excepted rows l.mid (Logged (cut_of s limit).0 (shown_at (cut_of s limit) s).entries l.next ∷ l.later) l.suspends (subst (Here held excepted s time rows done) l.are h) (logged l.mid l.next l.later l.follow l.goes_on))

    kept_owes : (a : Answer) (run : List Answer) (end : Group) (held : HeldTracks) (excepted : Exceptions) (s : Group) (time : ℕ) (rows : List PairRow) (done : Plans) (deeds : List Deed) → IsKeptWhole time rows done a deeds (All run) → Here held excepted s time rows done deeds
        → ((left : Exceptions) (next : List PairRow) (more : List Deed) → KeepsCall time next done a.call a.reply more (All run) → Here held left s time next done more → Owes end left next more) → Owes end excepted rows deeds
    kept_owes a run end held excepted s time rows done deeds k h by =
        subst (Owes end excepted rows) (sym k.are) (quiet_owes held s end time done k.quiet excepted rows k.next k.more k.suspends (subst (Here held excepted s time rows done) k.are h) (λ left m. by left k.next k.more k.goes_on m))

    one_owes : (call : Call) (reply : Reply) (run : List Answer) (end : Group) → OwesAll run end → OwesAll (answer_of call reply ∷ run) end
    one_owes (Join batch) reply run end rest held excepted s time rows done deeds log h moves = read_owes (Join batch) reply run end refl rest held excepted s time rows done deeds log h moves
    one_owes (NextWanted k) reply run end rest held excepted s time rows done deeds log h moves = read_owes (NextWanted k) reply run end refl rest held excepted s time rows done deeds log h moves
    one_owes (Copied k v x at slot) reply run end rest held excepted s time rows done deeds log h moves = read_owes (Copied k v x at slot) reply run end refl rest held excepted s time rows done deeds log h moves
    one_owes (Raise k upto) reply run end rest held excepted s time rows done deeds log h moves = read_owes (Raise k upto) reply run end refl rest held excepted s time rows done deeds log h moves
    one_owes (Break k upto cause) reply run end rest held excepted s time rows done deeds log h moves = read_owes (Break k upto cause) reply run end refl rest held excepted s time rows done deeds log h moves
    one_owes (Form limit) reply run end rest held excepted s time rows done deeds log h moves =
        kept_owes (answer_of (Form limit) reply) run end held excepted s time rows done deeds moves h
        (λ left next more keeps then. form_owes limit reply run end rest held left s time next done more log then (kept_shown s log.runs.0 limit reply time next done more (All run) (form_shown s log.runs.0 limit reply log.runs.2) keeps))
    one_owes (Drop k v all) reply run end rest held excepted s time rows done deeds log h moves =
        kept_owes (answer_of (Drop k v all) reply) run end held excepted s time rows done deeds moves h
        (λ left next more keeps then. rest held left (with_control k (dropped v all) s) time next (plans_without k v done) more (drop_log traces s end k v all reply run log) (record {
          begins = drop_begins size traces held s end k v all reply run time next done log keeps.gone keeps.known then.begins;
          owed = drop_owed size traces held left s k v all time next done keeps.known then.begins then.owed;
          apart = then.apart;
          pairs = then.pairs;
          failed = then.failed;
        }) keeps.goes_on)
    one_owes (Carry k v plan) reply run end rest held excepted s time rows done deeds log h moves = absurd (true≢false (sym (and_parts (is_call_of_seat (answer_of (Carry k v plan) reply)) (list_all is_call_of_seat run) log.seats).0))
    one_owes (Resume k v) reply run end rest held excepted s time rows done deeds log h moves = absurd (true≢false (sym (and_parts (is_call_of_seat (answer_of (Resume k v) reply)) (list_all is_call_of_seat run) log.seats).0))
    one_owes (Forget k v) reply run end rest held excepted s time rows done deeds log h moves = absurd (true≢false (sym (and_parts (is_call_of_seat (answer_of (Forget k v) reply)) (list_all is_call_of_seat run) log.seats).0))

    -- What is excepted after the whole log is owed there.
    pub owes_at_end : (run : List Answer) (end : Group) → OwesAll run end
    owes_at_end [] end = λ held excepted s time rows done deeds log h moves.
        subst (Owes end excepted rows) (append-nil deeds)
        (quiet_owes held s end time done deeds excepted rows last [] moves.0 (subst (Here held excepted s time rows done) (sym (append-nil deeds)) h)
        (λ left m. subst (λ (g : Group). ExceptedAreOwed size left g last) (sym log.runs) m.owed))
    owes_at_end (a ∷ run) end = one_owes a.call a.reply run end (owes_at_end run end)
