-- Maps have what rows owe after a log, where they had it before.
use Rattle.std.proofs.Common.{◌≡◌, ℕ, suc, ◌<◌, ◌≤◌, Bool, true, false, cond, not, ◌||◌, List, [], ◌∷◌, ◌++◌, length, take, Option, Some, None, inl, inr, refl, sym, ap, subst, ◌∙◌, arith, true≢false}
use Rattle.std.specs.Prelude.{slice_get}
use Rattle.std.specs.List.{Contains}
use Rattle.std.proofs.lemmas.Option.{none-some, same_Some, slice_get-get_or}
use Rattle.tod_stamp.specs.declared.stamp.Stamp.{Stamp}
use Rattle.pair_table.specs.declared.row.PairRow.{PairRow}
use Rattle.pair_table.specs.declared.row.PairState.{PairState}
use Rattle.pair_table.specs.declared.row.PairState.TheVariants.{Pending, Copy, Duplex, Suspended}
use Rattle.pair_table.specs.declared.row.SuspendCause.{SuspendCause}
use Rattle.pair_table.specs.Rows.{is_suspended}
use Rattle.pair_table.specs.Tables.{in_state}
use Rattle.write_trace.specs.declared.trace.Trace.{Trace}
use Rattle.group_state.specs.Calls.{is_by_mover}
use Rattle.group_state.specs.Controls.{counts}
use Rattle.group_state.specs.Groups.{Group, control_at}
use Rattle.group_state.specs.Machine.{Call}
use Rattle.group_state.specs.Machine.Call.{Join, NextWanted, Copied, Raise, Break, Form, Carry, Drop, Resume, Forget}
use Rattle.group_state.specs.Runs.{Answer, Runs}
use Rattle.group_state.specs.SoundStates.{IsGroupSound}
use Rattle.group_state.specs.Volumes.{volume_of}
use Rattle.group_state.proofs.Kept.{kept_next}
use Rattle.record_rows.specs.Deeds.{Deed, rows_after_deeds, rows_by_deed, time_by_deed, time_meant_after}
use Rattle.pair_table.specs.States.{is_by_device, is_device_suspended, owes_through}
use Rattle.passages.specs.Points.{last_point}
use Rattle.consistency.specs.Stages.{ScriptRun, tracks_of_row}
use Rattle.consistency.specs.Leads.{Point}
use Rattle.consistency.specs.Owing.{is_changed, owes_in, owes_track, was_duplex}
use Rattle.consistency.specs.Ways.{PassedPoint}
use Rattle.fed_logs.specs.Feeds.{is_answer_of_mover, part_of_mover}
use Rattle.fed_logs.specs.Logs.{Sizes, is_of_size}
use Rattle.fed_logs.specs.Moves.{Plans}
use Rattle.fed_logs.specs.ToldTracks.{HeldTracks, floor_of}
use Rattle.fed_logs.proofs.Bearing.{reached_holds}
use Rattle.fed_logs.proofs.ReadCalls.{some_trace}
use Rattle.mover.specs.Dropping.{owed_by_call, owed_by_calls, owed_in_turn, stood_duplex}
use Rattle.mover.proofs.OwedExactly.{owes_hit, owes_other, owes_split}
use Rattle.mover.specs.OwedTracks.{IsCarriedAsLive}
use Rattle.mover.proofs.Copying.{kept_within}
use Rattle.xrc_session.specs.Maps.{BecomesAt, AreMapsSound, RestsAtCut, RowsGo, maps_track, has_write_between}
use Rattle.xrc_session.specs.MapsOwed.{HasCutOrNoRow, HaveRowsOf, DeedsLeadTo, MapsOwed, MapsOwedAfterLogs, MapsRest, SuspendedUpTo}
use Rattle.xrc_session.proofs.MapsBegins.{maps_begin}
use Rattle.xrc_session.proofs.MapsCounted.{counted_before}
use Rattle.xrc_session.proofs.MapsChanged.{changed_is}
use Rattle.xrc_session.proofs.MapsKeeps.{calls_keep_maps}
use Rattle.xrc_session.proofs.MapsLogs.{grows_over, maps_are_whole, never_owes}
use Rattle.xrc_session.proofs.MapsOff.{one_count}
use Rattle.xrc_session.proofs.MapsRows.{StoodFirst, among_place, ends_as, ends_pair, next_at, stood_first}
use Rattle.xrc_session.proofs.MapsStates.{duplex_still, duplex_stood}
use Rattle.xrc_session.proofs.MapsVolumes.{kept_of}
use Rattle.xrc_session.proofs.MapsWrites.{written_both}

-- ---- runs

-- Through a run the number of controllers stays, and what is kept of maps is kept.
pub run_count : (run : List Answer) (s end : Group) → Runs s run end → length end.controls ≡ length s.controls
run_count [] s end runs = ap (λ (g : Group). length g.controls) runs
run_count (a ∷ run) s end runs = run_count run runs.0 end runs.3 ∙ ap (λ (g : Group). length g.controls) runs.2.1 ∙ one_count s a.call

pub run_keeps : (run : List Answer) (s end : Group) → IsGroupSound s → Runs s run end → AreMapsSound s → AreMapsSound end
run_keeps [] s end keeps runs h = subst AreMapsSound (sym runs) h
run_keeps (a ∷ run) s end keeps runs h =
    run_keeps run runs.0 end (subst IsGroupSound (sym runs.2.1) (kept_next s a.call keeps runs.1)) runs.3 (calls_keep_maps s runs.0 a.call a.reply keeps runs.1 runs.2 h)

-- What calls owe, the mover's owe.
owed_of_mover : (k v : ℕ) (run : List Answer) → owed_by_calls k v (part_of_mover run) ≡ owed_by_calls k v run
owed_of_mover k v [] = refl
owed_of_mover k v (a ∷ run) = choose (is_answer_of_mover a) refl (owed_of_mover k v run)
  where
    none : (call : Call) → is_by_mover call ≡ false → owed_by_call k v call ≡ None
    none (Join b) is = refl
    none (NextWanted j) is = refl
    none (Copied j w y at slot) is = refl
    none (Raise j upto) is = refl
    none (Break j upto cause) is = refl
    none (Form limit) is = refl
    none (Carry j w plan) is = refl
    none (Drop j w all) is = absurd cc
    none (Resume j w) is = refl
    none (Forget j w) is = refl

    choose : (b : Bool) → is_answer_of_mover a ≡ b → owed_by_calls k v (part_of_mover run) ≡ owed_by_calls k v run
        → owed_by_calls k v (cond b (a ∷ part_of_mover run) (part_of_mover run)) ≡ owed_in_turn (owed_by_call k v a.call) (owed_by_calls k v run)
    choose true is rest = ap (owed_in_turn (owed_by_call k v a.call)) rest
    choose false is rest = rest ∙ ap (λ (o : Option Bool). owed_in_turn o (owed_by_calls k v run)) (sym (none a.call is))

-- ---- states

pub record IsSuspendedAs (state : PairState) : Type 0 where
  pub cause : SuspendCause
  pub since : Stamp
  pub is : state ≡ Suspended cause since

pub suspended_as : (state : PairState) → is_suspended state ≡ true → IsSuspendedAs state
suspended_as Pending e = absurd cc
suspended_as Copy e = absurd cc
suspended_as Duplex e = absurd cc
suspended_as (Suspended cause since) e = record { cause = cause; since = since; is = refl }

failed_suspended : (state : PairState) → is_device_suspended state ≡ true → is_suspended state ≡ true
failed_suspended Pending e = absurd cc
failed_suspended Copy e = absurd cc
failed_suspended Duplex e = absurd cc
failed_suspended (Suspended cause since) e = refl

-- ---- since when

-- A row that is suspended after deeds is so since a time up to theirs.
since_up_to : (bound time : ℕ) (rows : List PairRow) (deeds : List Deed) (place : ℕ) (r z : PairRow) (cause : SuspendCause) (since : Stamp) → RowsGo time rows deeds → ((n : ℕ) → n ≤ length deeds → time_meant_after (take n deeds) time ≤ bound)
    → slice_get rows place ≡ Some r → slice_get (rows_after_deeds deeds rows) place ≡ Some z → z.state ≡ Suspended cause since → (r.state ≡ z.state → since.0 ≤ bound) → since.0 ≤ bound
since_up_to bound time rows [] place r z cause since go times at last is before = before (ap (λ (x : PairRow). x.state) (same_Some r z (sym at ∙ last)))
since_up_to bound time rows (deed ∷ deeds) place r z cause since go times at last is before =
    let n = next_at (BecomesAt (time_by_deed time deed)) rows (rows_by_deed deed) place r go.0 at in
    since_up_to bound (time_by_deed time deed) (rows_by_deed deed) deeds place n.row z cause since go.1 (λ m low. times (suc m) (omega (arith, low))) n.at last is
    (λ same. elim (n.goes.since cause since (same ∙ is)) [
      | inl stays ↦ before (sym stays ∙ same)
      | inr then ↦ let up : time_by_deed time deed ≤ bound = times 1 (omega arith) in omega (arith, then, up)
    ])

-- ---- one row

module _ (run : ScriptRun) (size : Sizes) (held : HeldTracks) (s end : Group) (log : List Answer) (first : Point) (points more : List PassedPoint) (p q : Point) (done known : Plans) (deeds : List Deed)
    (h : DeedsLeadTo run size held s end log p q done known deeds) (here : (last_point first points).rows ≡ p.rows) (have : HaveRowsOf more deeds) (rest : MapsRest p s) (cut : HasCutOrNoRow p.time p.rows s) (told : RestsAtCut end q.time) (owed : MapsOwed run first points p s) where
  rows_are : q.rows ≡ rows_after_deeds deeds p.rows
  rows_are = (reached_holds size run.traces held s end log p.time q.time p.rows q.rows done known deeds h.fed h.begins h.kept).0

  later : p.time ≤ q.time
  later = h.times 0 (omega arith)

  module _ (place : ℕ) (z r : PairRow) (cause : SuspendCause) (since : Stamp) (now : slice_get q.rows place ≡ Some z) (at : slice_get p.rows place ≡ Some r) (is : z.state ≡ Suspended cause since) (counted : counts (control_at end r.control).phase ≡ true) (x : ℕ) (low : x < tracks_of_row r) where
    k : ℕ
    k = r.control

    v : ℕ
    v = r.volume

    rests : RestsAtCut s p.time
    rests = elim cut [
      | inl same ↦ rest.rests same
      | inr none ↦ absurd (none-some r (ap (λ (rows : List PairRow). slice_get rows place) (sym none) ∙ at))
    ]

    last : slice_get (rows_after_deeds deeds p.rows) place ≡ Some z
    last = ap (λ (rows : List PairRow). slice_get rows place) (sym rows_are) ∙ now

    pair : z ≡ in_state z.state r
    pair = ends_pair p.time p.rows deeds place r z h.go at last

    suspends : is_suspended z.state ≡ true
    suspends = ap is_suspended is

    own : IsCarriedAsLive s r
    own = h.carried r (among_place p.rows place r at)

    within : r.control < length s.controls
    within = kept_within s r.control r.volume (kept_of (is_of_size (tracks_of_row r)) (volume_of r.volume (control_at s r.control).volumes) own.sized)

    trace : (t : Trace) × (slice_get run.traces r.control ≡ Some t)
    trace = some_trace run.traces r.control (let each = h.fed.each in omega (arith, within, each))

    counted_was : counts (control_at s r.control).phase ≡ true
    counted_was = counted_before run.traces r.control log s end h.fed within counted

    floor_was : floor_of s r.control ≡ p.time
    floor_was = rests.told r.control within counted_was

    floor_is : floor_of end r.control ≡ q.time
    floor_is = told.told r.control (let same = run_count log s end h.fed.runs in omega (arith, within, same)) counted

    stood : Bool
    stood = stood_duplex place p.rows deeds

    -- what is owed of it
    calls : owed_by_calls r.control r.volume log ≡ cond (is_by_device cause) (owes_hit r.state) (owes_other r.state (stood_duplex place p.rows deeds))
    calls =
        sym (owed_of_mover r.control r.volume log)
        ∙ sym (ap (λ (y : PairRow). owed_by_calls y.control y.volume (part_of_mover log)) pair)
        ∙ h.owed place r z at now
        ∙ ap (λ (state : PairState). owes_through r.state state (stood_duplex place p.rows deeds)) is ∙ owes_split r.state (stood_duplex place p.rows deeds) (is_by_device cause)

    owes_is : (to : ℕ) (all : List PassedPoint) → owes_track run first all z to x ≡ (is_by_device cause || not (was_duplex z first all) || is_changed run r.control r.volume since.0 to x)
    owes_is to all =
        ap (λ (state : PairState). owes_in run (was_duplex z first all) z state to x) is
        ∙ ap (λ (y : PairRow). is_by_device cause || not (was_duplex z first all) || is_changed run y.control y.volume since.0 to x) pair

    changed : (to : ℕ) → is_changed run r.control r.volume since.0 to x ≡ has_write_between trace.0 r.volume x since.0 to
    changed to = changed_is run r.control r.volume x since.0 to trace.0 trace.1

    abbrev Goal : Type 0
    Goal = maps_track r.volume x (control_at end r.control) ≡ (is_by_device cause || not (was_duplex z first (points ++ more)) || is_changed run r.control r.volume since.0 q.time x)

    -- the map of a volume that isn't dropped in the log
    grown : owed_by_calls r.control r.volume log ≡ None → is_suspended r.state ≡ true → maps_track r.volume x (control_at end r.control) ≡ (maps_track r.volume x (control_at s r.control) || has_write_between trace.0 r.volume x p.time q.time)
    grown none was =
        let g = grows_over run.traces r.control r.volume trace.0 trace.1 log s end h.fed (λ e. never_owes (sym none ∙ e)) (own.dropped was) in
        g.grows x
        ∙ ap (λ (n : ℕ). maps_track r.volume x (control_at s r.control) || has_write_between trace.0 r.volume x n (floor_of end r.control)) floor_was
        ∙ ap (λ (n : ℕ). maps_track r.volume x (control_at s r.control) || has_write_between trace.0 r.volume x p.time n) floor_is

    whole : owed_by_calls r.control r.volume log ≡ Some true → maps_track r.volume x (control_at end r.control) ≡ true
    whole all = maps_are_whole run.traces s end log r.control r.volume (tracks_of_row r) h.fed within all own.sized x low

    was_owed : is_suspended r.state ≡ true → maps_track r.volume x (control_at s r.control) ≡ owes_track run first points r p.time x
    was_owed was = owed r (among_place p.rows place r at) was counted_was x low

    -- Its device has failed: it owes all.
    failed : is_by_device cause ≡ true → Goal
    failed device = filled (is_device_suspended r.state) refl ∙ sym (ap (λ (b : Bool). b || not (was_duplex z first (points ++ more)) || is_changed run r.control r.volume since.0 q.time x) device)
      where
        hit : owed_by_calls r.control r.volume log ≡ owes_hit r.state
        hit = calls ∙ ap (λ (b : Bool). cond b (owes_hit r.state) (owes_other r.state (stood_duplex place p.rows deeds))) device

        owes_all : (to : ℕ) → is_device_suspended r.state ≡ true → owes_track run first points r to x ≡ true
        owes_all to is =
            let its = suspended_as r.state (failed_suspended r.state is) in
            let device : is_by_device its.cause ≡ true = sym (ap is_device_suspended its.is) ∙ is in
            ap (λ (state : PairState). owes_in run (was_duplex r first points) r state to x) its.is
            ∙ ap (λ (b : Bool). b || not (was_duplex r first points) || is_changed run r.control r.volume its.since.0 to x) device

        filled : (b : Bool) → is_device_suspended r.state ≡ b → maps_track r.volume x (control_at end r.control) ≡ true
        filled true was =
            let suspended = failed_suspended r.state was in
            grown (hit ∙ ap (λ (b : Bool). cond b None (Some true)) was) suspended
            ∙ ap (λ (b : Bool). b || has_write_between trace.0 r.volume x p.time q.time) (was_owed suspended ∙ owes_all p.time was)
        filled false was = whole (hit ∙ ap (λ (b : Bool). cond b None (Some true)) was)

    -- It was suspended before.
    still : is_by_device cause ≡ false → is_suspended r.state ≡ true → Goal
    still unfailed was =
        grown (owes ∙ ap (λ (b : Bool). cond b None (Some (not (stood_duplex place p.rows deeds)))) was) was
        ∙ ap (λ (b : Bool). b || has_write_between trace.0 r.volume x p.time q.time) (was_owed was ∙ ap (λ (y : PairRow). owes_track run first points y p.time x) itself ∙ owes_is p.time points)
        ∙ flags (is_by_device cause) (was_duplex z first points) (was_duplex z first (points ++ more)) (is_changed run r.control r.volume since.0 p.time x) (has_write_between trace.0 r.volume x p.time q.time) (is_changed run r.control r.volume since.0 q.time x) unfailed
        (duplex_still place z suspends (ap is_device_suspended is ∙ unfailed) first points more p.time p.rows deeds r h.apart h.go at last here have was)
        (ap (λ (b : Bool). b || has_write_between trace.0 r.volume x p.time q.time) (changed p.time) ∙ written_both trace.0 r.volume x since.0 p.time q.time (rest.since r cause since (among_place p.rows place r at) (same ∙ is)) later ∙ sym (changed q.time))
      where
        owes : owed_by_calls r.control r.volume log ≡ owes_other r.state (stood_duplex place p.rows deeds)
        owes = calls ∙ ap (λ (b : Bool). cond b (owes_hit r.state) (owes_other r.state (stood_duplex place p.rows deeds))) unfailed

        same : r.state ≡ z.state
        same = ends_as p.time p.rows deeds place r z h.go at last was (ap is_device_suspended is ∙ unfailed)

        itself : r ≡ z
        itself = ap (λ (state : PairState). in_state state r) same ∙ sym pair

        flags : (a w u b c d : Bool) → a ≡ false → u ≡ w → (b || c) ≡ d → ((a || not w || b) || c) ≡ (a || not u || d)
        flags true w u b c d e f g = absurd (true≢false e)
        flags false true u b c d e f g = g ∙ ap (λ (n : Bool). not n || d) (sym f)
        flags false false u b c d e f g = ap (λ (n : Bool). not n || d) (sym f)

    -- It was live before.
    begun : is_by_device cause ≡ false → is_suspended r.state ≡ false → Goal
    begun unfailed live = by (stood_duplex place p.rows deeds) refl
      where
        owes : owed_by_calls r.control r.volume log ≡ Some (not (stood_duplex place p.rows deeds))
        owes = calls ∙ ap (λ (b : Bool). cond b (owes_hit r.state) (owes_other r.state (stood_duplex place p.rows deeds))) unfailed ∙ ap (λ (b : Bool). cond b None (Some (not (stood_duplex place p.rows deeds)))) live

        was : was_duplex z first (points ++ more) ≡ stood_duplex place p.rows deeds
        was = duplex_stood place z suspends (ap is_device_suspended is ∙ unfailed) first points more p.time p.rows deeds r h.apart h.go at last here have live

        flags : (a w d : Bool) → a ≡ false → w ≡ false → (a || not w || d) ≡ true
        flags true w d e f = absurd (true≢false e)
        flags false true d e f = absurd (true≢false f)
        flags false false d e f = refl

        alone : (a w d : Bool) → a ≡ false → w ≡ true → (a || not w || d) ≡ d
        alone true w d e f = absurd (true≢false e)
        alone false true d e f = refl
        alone false false d e f = absurd (true≢false (sym f))

        by : (b : Bool) → stood_duplex place p.rows deeds ≡ b → Goal
        by false never =
            whole (owes ∙ ap (λ (b : Bool). Some (not b)) never)
            ∙ sym (flags (is_by_device cause) (was_duplex z first (points ++ more)) (is_changed run r.control r.volume since.0 q.time x) unfailed (was ∙ never))
        by true once =
            maps_begin size run.traces held s end log p.time q.time p.rows q.rows done known deeds h.fed h.begins h.kept rest.keeps rests h.apart h.go h.entries place r z cause since trace.0
            (record { was = at; is = last; live = live; stood = once; suspended = is; whole = unfailed }) trace.1 counted (own.carried live) (owes ∙ ap (λ (b : Bool). Some (not b)) once) x
            ∙ ap (has_write_between trace.0 r.volume x since.0) floor_is
            ∙ sym (changed q.time)
            ∙ sym (alone (is_by_device cause) (was_duplex z first (points ++ more)) (is_changed run r.control r.volume since.0 q.time x) unfailed (was ∙ once))

    pub one_owed : maps_track z.volume x (control_at end z.control) ≡ owes_track run first (points ++ more) z q.time x
    one_owed = ap (λ (y : PairRow). maps_track y.volume x (control_at end y.control)) pair ∙ choose (is_by_device cause) refl (is_suspended r.state) refl ∙ sym (owes_is q.time (points ++ more))
      where
        choose : (b : Bool) → is_by_device cause ≡ b → (c : Bool) → is_suspended r.state ≡ c → Goal
        choose true device c was = failed device
        choose false unfailed true was = still unfailed was
        choose false unfailed false live = begun unfailed live

  at_place : (z : PairRow) (has : Contains q.rows z) → slice_get q.rows has.0 ≡ Some z
  at_place z has = slice_get-get_or q.rows has.0 z has.1 ∙ ap Some has.2

  first_at : (z : PairRow) (has : Contains q.rows z) → StoodFirst p.rows has.0
  first_at z has = stood_first p.time p.rows deeds has.0 z h.go (ap (λ (rows : List PairRow). slice_get rows has.0) (sym rows_are) ∙ at_place z has)

  all_owed : MapsOwed run first (points ++ more) q end
  all_owed z has suspends counted x low =
      let f = first_at z has in
      let its = suspended_as z.state suspends in
      let pair = ends_pair p.time p.rows deeds has.0 f.row z h.go f.at (ap (λ (rows : List PairRow). slice_get rows has.0) (sym rows_are) ∙ at_place z has) in
      one_owed has.0 z f.row its.cause its.since (at_place z has) f.at its.is (subst (λ (y : PairRow). counts (control_at end y.control).phase ≡ true) pair counted) x (subst (λ (y : PairRow). x < tracks_of_row y) pair low)

  all_since : SuspendedUpTo q.time q.rows
  all_since z cause since has is =
      let f = first_at z has in
      since_up_to q.time p.time p.rows deeds has.0 f.row z cause since h.go h.times f.at (ap (λ (rows : List PairRow). slice_get rows has.0) (sym rows_are) ∙ at_place z has) is
      (λ same. let up = rest.since f.row cause since (among_place p.rows has.0 f.row f.at) (same ∙ is) in omega (arith, up, later))

pub maps_owed_after_logs : MapsOwedAfterLogs
maps_owed_after_logs run size held s end log first points more p q done known deeds h here have rest cut told owed = (
  all_owed run size held s end log first points more p q done known deeds h here have rest cut told owed,
  record {
    keeps = run_keeps log s end h.fed.kept h.fed.runs rest.keeps;
    rests = λ same. told;
    since = all_since run size held s end log first points more p q done known deeds h here have rest cut told owed;
  },
)
