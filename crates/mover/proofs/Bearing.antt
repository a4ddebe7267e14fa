-- What a choice shows after the first deeds bears the time that is meant then.
use Rattle.std.proofs.Common.{◌≡◌, inl, inr, ℕ, ◌<◌, ◌≤◌, Bool, true, false, nat_lt, List, [], ◌∷◌, ◌++◌, length, take, Option, Some, None, refl, sym, ap, subst, ◌∙◌, arith}
use Rattle.std.specs.Prelude.{option_map, is_none, not}
use Rattle.std.specs.List.{Contains, list_any}
use Rattle.std.proofs.lemmas.Bool.{and_parts, cases_lt, ltb-true, or_left, or_right}
use Rattle.std.proofs.lemmas.List.Folds.{list_any-append}
use Rattle.std.proofs.lemmas.Option.{get_or_from_slice_get, slice_get_within}
use Rattle.crash_plant.specs.Choices.{Choice}
use Rattle.crash_plant.specs.Moments.{PlantState}
use Rattle.pair_table.specs.declared.row.PairRow.{PairRow}
use Rattle.pair_table.specs.Tables.{are_below}
use Rattle.primary_ctl.specs.Primaries.{primary}
use Rattle.group_state.specs.Groups.{Group}
use Rattle.group_state.specs.Runs.{Answer}
use Rattle.row_changes.specs.Changes.{Timed, break_time_of}
use Rattle.row_changes.specs.Spans.{all_broke, breaks_control}
use Rattle.record_rows.specs.Deeds.{Deed, rows_after_deeds, time_meant_after}
use Rattle.record_rows.specs.Deeds.Deed.{Logged, Changed, Marked}
use Rattle.record_rows.proofs.Counting.{counts_append}
use Rattle.site_means.specs.declared.means.Means.{Means}
use Rattle.site_means.specs.Images.{shape_of}
use Rattle.site_means.specs.Sight.{content_of, means_of}
use Rattle.xrc_command.specs.declared.line.Line.{Line}
use Rattle.site_store.specs.DeedChanges.{DeedOfChanges, changes_of, deeds_of}
use Rattle.site_store.specs.Deeds.{content_after, means_after, means_by_deed}
use Rattle.site_store.specs.Exceptions.{Exceptions, excepted_after}
use Rattle.site_store.specs.Seeing.{SeesAfter}
use Rattle.site_store.proofs.Turning.{means_are}
use Rattle.consistency.specs.Stages.{HoldsPrimaries, IsTime, ScriptRun, Stage, breaks_of, tracks_of_row}
use Rattle.fed_logs.specs.Deeds.{held_after_deeds}
use Rattle.fed_logs.specs.LogLaws.{ReportsBreak}
use Rattle.fed_logs.specs.Logs.{Sizes}
use Rattle.fed_logs.specs.Moves.{HasRowIn, IsDuplex, Plans}
use Rattle.fed_logs.proofs.Bearing.{logs_bear}
use Rattle.fed_logs.proofs.Breaking.{breaks_come}
use Rattle.fed_logs.proofs.Rising.{times_rise}
use Rattle.consistency.specs.Bearing.{Bears, MayBeMeant, ShowsPoint}
use Rattle.consistency.specs.Leads.{Leads, Point, may_rest}
use Rattle.consistency.specs.Ways.{HasCountedHits, IsLegOf, Leg, leg_to, stage_point}
use Rattle.consistency.proofs.Bearing.{points_bear}
use Rattle.consistency.proofs.CountingHits.{leg_is_counted}
use Rattle.consistency.proofs.Leading.{leads_on, leads_rise}
use Rattle.consistency.proofs.Legs.{leg_may_be_meant}
use Rattle.mover.specs.BorneLaws.{SeenDeedsBear, SeenDeedsShowPoints}
use Rattle.mover.specs.Points.{AreSteps, LeavesSo, point_after_deeds, point_by}
use Rattle.mover.specs.OwedTracks.{held_by_choice}
use Rattle.mover.specs.Working.{Work, WorkBegins}
use Rattle.mover.specs.SilentBreaks.{all_silent}
use Rattle.mover.proofs.Breaking.{all_are, all_between, one_between, report_is_named}
use Rattle.mover.proofs.Excepting.{excepts_none}
use Rattle.mover.proofs.Held.{KeepPairs, content_after_is, pairs_after}
use Rattle.mover.proofs.Leading.{count_deeds, fewer_hits, first_deeds, first_steps, flag_there, lead_there, rests_there, rows_there, silent_points, silent_steps, steps_keep_failed, steps_keep_pairs, time_there, trace_of_break}
use Rattle.mover.proofs.Pairs.{Among, among_of, contains_of, pair_before}
use Rattle.mover.proofs.Pairs.Among.{Here, Later}

-- ---- lists

pub below_among : (devices : ℕ) (r : PairRow) (rows : List PairRow) → are_below devices rows ≡ true → Among r rows → r.device < devices
below_among devices r _ below (Here rows) = ltb-true r.device devices (and_parts (nat_lt r.device devices) (are_below devices rows) below).0
below_among devices r _ below (Later s rows there) = below_among devices r rows (and_parts (nat_lt s.device devices) (are_below devices rows) below).1 there

-- ---- the flag

-- Deeds of steps leave the flag that is meant.
flag_stays : (run : ScriptRun) (p : Point) (steps : List DeedOfChanges) → AreSteps run.level (breaks_of run) p steps → (means : Means) → means.ended ≡ p.is_ended → (means_after (deeds_of steps) means).ended ≡ p.is_ended
flag_stays run p [] each means is = is
flag_stays run p (step ∷ steps) each means is = flag_stays run (point_by run.level p step) steps each.1 (means_by_deed means step.deed) (by step.deed each.0.leaves)
  where
    by : (deed : Deed) → LeavesSo p.is_ended (point_by run.level p step).due deed → (means_by_deed means deed).ended ≡ p.is_ended
    by (Logged cut entries rows) leaves = is
    by (Changed time rows) leaves = is
    by (Marked spot ended rows) leaves = leaves

-- ---- the work

module _ (start : PlantState) (k : Work) (w : WorkBegins start k) (n : ℕ) (le : n ≤ length k.steps) where
  abbrev run : ScriptRun
  run = k.run

  abbrev stage : Stage
  stage = k.stage

  abbrev line : Line
  line = k.line

  abbrev l : Leg
  l = k.leg

  abbrev size : Sizes
  size = k.size

  abbrev excepted : Exceptions
  excepted = k.excepted

  abbrev s : Group
  s = k.begun

  abbrev end : Group
  end = k.ended

  abbrev log : List Answer
  log = k.log

  abbrev done : Plans
  done = k.done

  abbrev steps : List DeedOfChanges
  steps = k.steps

  abbrev pub p : Point
  p = l.point

  abbrev pub deeds : List Deed
  deeds = deeds_of steps

  -- the first deeds
  abbrev pub first : List Deed
  first = take n deeds

  abbrev pub shows : Point
  shows = point_after_deeds run.level p (take n steps)

  within : n ≤ length deeds
  within = let e = count_deeds steps in omega (arith, le, e)

  each_first : AreSteps run.level (breaks_of run) p (take n steps)
  each_first = first_steps run.level (breaks_of run) n p steps w.logged.each

  pairs_first : KeepPairs p.rows first
  pairs_first = subst (KeepPairs p.rows) (first_deeds n steps) (steps_keep_pairs run.level (breaks_of run) p (take n steps) each_first)

  time_is : shows.time ≡ time_meant_after first p.time
  time_is = time_there run.level p (take n steps) ∙ ap (λ (ds : List Deed). time_meant_after ds p.time) (first_deeds n steps)

  rows_are : shows.rows ≡ rows_after_deeds first p.rows
  rows_are = rows_there run.level p (take n steps) ∙ ap (λ (ds : List Deed). rows_after_deeds ds p.rows) (first_deeds n steps)

  -- ---- tracks

  module _ (c : Choice) (sees : SeesAfter start excepted p.rows first c) where
    -- Each duplex row's device holds the primary's track.
    holds : (k v : ℕ) (has : HasRowIn IsDuplex k v (rows_after_deeds first p.rows)) → (x : ℕ) → x < tracks_of_row has.row → content_of start c has.row.device x ≡ Some (primary run.traces (time_meant_after first p.time) k v x)
    holds k v has x low =
        let rows = rows_after_deeds first p.rows in
        let d = has.row.device in
        let before = pair_before has.row p.rows rows (pairs_after p.rows first pairs_first) (among_of rows has.row has.among) in
        let r = before.row in
        let device : r.device ≡ d = ap (λ (q : PairRow). q.device) before.pair in
        let control : r.control ≡ k = ap (λ (q : PairRow). q.control) before.pair ∙ has.control in
        let volume : r.volume ≡ v = ap (λ (q : PairRow). q.volume) before.pair ∙ has.volume in
        let below : d < start.volumes = (let b = below_among start.volumes r p.rows w.stands.below before.among in omega (arith, b, device)) in
        let sized : x < size k v = (let m = w.stands.sized r (contains_of r p.rows before.among) in
        let same : tracks_of_row r ≡ tracks_of_row has.row = ap tracks_of_row before.pair in
        let at : size r.control r.volume ≡ size k v = ap (λ (i : ℕ). size i r.volume) control ∙ ap (size k) volume in
        omega (arith, m, same, at, low)) in
        let here = w.stands.holds sees.from sees.was in
        let none : excepted_after p.rows first excepted d x ≡ false =
        excepts_none size run.traces log end (held_by_choice start sees.from p.rows) excepted s p.time p.rows done deeds w.logged.fed
        (record {
          begins = here;
          owed = w.stands.owed;
          apart = w.stands.apart;
          pairs = steps_keep_pairs run.level (breaks_of run) p steps w.logged.each;
          failed = steps_keep_failed run.level (breaks_of run) p steps w.stands.apart w.logged.each;
        }) w.logged.kept n within k v has x sized in
        let seen = sees.content d x below none in
        let a = seen.0 in
        let held = held_by_choice start a p.rows in
        let told = logs_bear size run.traces held s end log p.time p.rows done deeds w.logged.fed (w.stands.holds a seen.1) w.logged.kept n within k v has x sized in
        seen.2
        ∙ ap (λ (e : ℕ). content_after e x p.rows first (content_of start a e x)) (sym device)
        ∙ content_after_is r p.rows w.stands.apart before.among x start a first pairs_first
        ∙ ap (λ (i : ℕ). held_after_deeds first held i r.volume x) control
        ∙ ap (λ (i : ℕ). held_after_deeds first held k i x) volume
        ∙ told

    in_place : (rows : List PairRow) → rows ≡ rows_after_deeds first p.rows → (time : ℕ) → time ≡ time_meant_after first p.time → HoldsPrimaries run (shape_of start) c rows time
    in_place rows is time at place r there duplex track low =
        let has : HasRowIn IsDuplex r.control r.volume (rows_after_deeds first p.rows) = record {
          row = r;
          among = subst (λ (all : List PairRow). Contains all r) is (place, slice_get_within rows place r there, get_or_from_slice_get rows place r r there);
          control = refl;
          volume = refl;
          state = duplex;
        } in
        holds r.control r.volume has track low ∙ ap (λ (t : ℕ). Some (primary run.traces t r.control r.volume track)) (sym at)

    -- ---- the point

    pub shown : ShowsPoint run (shape_of start) shows c
    shown =
        let was = w.shows sees.from sees.was in
        let b = means_are first was.means in
        let meant : means_of start c ≡ Some (means_after first was.means) = sees.means ∙ ap (option_map (means_after first)) was.defined in
        record {
          means = means_after first was.means;
          defined = meant;
          session = b.session ∙ was.session;
          level = b.level ∙ was.level;
          at = b.time ∙ ap (time_meant_after first) was.at ∙ sym time_is;
          rows = b.rows ∙ ap (rows_after_deeds first) was.rows ∙ sym rows_are;
          ended = ap (λ (ds : List Deed). (means_after ds was.means).ended) (sym (first_deeds n steps)) ∙ flag_stays run p (take n steps) each_first was.means was.ended ∙ sym (flag_there run.level p (take n steps));
          tracks = in_place shows.rows rows_are shows.time time_is;
        }

  -- ---- rows and breaks

  abbrev pub named : List DeedOfChanges
  named = all_silent line.time.0 (breaks_of run) (take n steps)

  abbrev pub changes : List Timed
  changes = changes_of named

  leads : Leads run.level (breaks_of run) p shows changes
  leads =
      subst (λ (q : Point). Leads run.level (breaks_of run) p q changes) (silent_points run.level line.time.0 (breaks_of run) p (take n steps) each_first)
      (lead_there run.level (breaks_of run) p named (silent_steps run.level line.time.0 (breaks_of run) p (take n steps) each_first))

  within_line : shows.time ≤ line.time.0
  within_line = let t = (times_rise p.time line.time.0 s end log p.rows done deeds n n w.logged.fed.runs w.logged.kept w.logged.up w.logged.limited (omega arith) within).1 in omega (arith, t, time_is)

  -- A break whose time has passed was reported by a group, and is named there.
  break_is_named : (k b : ℕ) → break_time_of k (breaks_of run) ≡ Some b → p.time ≤ b → b < shows.time → list_any (breaks_control k) changes ≡ true
  break_is_named k b is from to =
      let t = trace_of_break run.traces k b is in
      let below : b < time_meant_after first p.time = omega (arith, to, time_is) in
      let reports = breaks_come run.traces s end log p.time p.rows done deeds k b t.0 w.logged.fed w.logged.kept t.1 t.2 (w.logged.awaits k b is from) from n within below in
      report_is_named log line.time.0 (breaks_of run) k b is (let high = within_line in omega (arith, to, high)) p.rows (take n steps) (subst (ReportsBreak log k b p.rows) (sym (first_deeds n steps)) reports)

  -- Each break since the last reply has come.
  pub broken : all_broke stage.replied shows.time 0 (breaks_of run) (l.changes ++ changes) ≡ true
  broken = all_between stage.replied shows.time 0 (breaks_of run) (breaks_of run) (l.changes ++ changes) (all_are (breaks_of run)) each
    where
      each : (k b : ℕ) → break_time_of k (breaks_of run) ≡ Some b → stage.replied ≤ b → b < shows.time → list_any (breaks_control k) (l.changes ++ changes) ≡ true
      each k b is from to = list_any-append (breaks_control k) l.changes changes ∙ elim (cases_lt b p.time) [
        | inl early ↦ or_left (list_any (breaks_control k) l.changes) (list_any (breaks_control k) changes) (one_between stage.replied p.time 0 (breaks_of run) l.changes k k b (omega arith) w.at_line.leg_is.whole.broken is from early)
        | inr late ↦ or_right (list_any (breaks_control k) l.changes) (list_any (breaks_control k) changes) (break_is_named k b is late to)
      ]

  abbrev pub leg : Leg
  leg = leg_to l shows changes

  pub leg_there : IsLegOf run stage leg
  leg_there = record {
    table = w.at_line.leg_is.table;
    replied = w.at_line.leg_is.replied;
    whole = record { leads = leads_on run.level (breaks_of run) (stage_point stage) p shows l.changes changes w.at_line.leg_is.whole.leads leads; broken = broken };
    counted = w.at_line.leg_is.counted;
  }

  pub counted : HasCountedHits run leg
  counted device =
      let all = w.at_line.counted device in
      omega (arith, all, counts_append device l.changes changes, counts_append device l.changes (changes_of steps), fewer_hits device line.time.0 (breaks_of run) n steps)

  in_time : IsTime stage shows.time
  in_time = (up, timed stage.next w.at_line.heard)
    where
      up : stage.replied ≤ shows.time
      up = leads_rise run.level (breaks_of run) (stage_point stage) shows (l.changes ++ changes) leg_there.whole.leads

      timed : (next : Option Line) → next ≡ Some line → (let T : Type 0 = elim next [ None ↦ shows.time ≡ stage.replied | Some m ↦ elim stage.table.is_ended [ true ↦ shows.time ≡ stage.replied | false ↦ shows.time ≤ m.time.0 ] ] in T)
      timed None is = absurd cc
      timed (Some m) is =
          let same : m ≡ line = cc in
          subst (λ (e : Bool). let T : Type 0 = elim e [ true ↦ shows.time ≡ stage.replied | false ↦ shows.time ≤ m.time.0 ] in T) (sym w.at_line.goes_on) (let high = within_line in omega (arith, high, ap (λ (x : Line). x.time.0) same))

  pub may_be_meant : MayBeMeant run stage shows
  may_be_meant =
      leg_may_be_meant run stage w.at_line.goes_on leg leg_there in_time (leg_is_counted run stage leg leg_there counted)
      (ap (λ (o : Option Line). may_rest (not (is_none o)) shows) w.at_line.heard ∙ rests_there run.level (breaks_of run) p (take n steps) w.at_line.rests each_first)

  pub bears : (c : Choice) → SeesAfter start excepted p.rows first c → Bears run stage (shape_of start) c (time_meant_after first p.time)
  bears c sees = subst (Bears run stage (shape_of start) c) time_is (points_bear run stage (shape_of start) shows c (shown c sees) may_be_meant)

pub seen_deeds_show_points : (start : PlantState) → SeenDeedsShowPoints start
seen_deeds_show_points start k w n le c sees = shown start k w n le c sees

pub seen_deeds_bear : (start : PlantState) → SeenDeedsBear start
seen_deeds_bear start k w n le c sees = bears start k w n le c sees
