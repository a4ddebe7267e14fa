-- What the record of a group makes of rows, and the deeds that logging it is.
use Rattle.std.proofs.Common.{◌≡◌, inl, inr, ℕ, zero, suc, ◌+◌, ◌≤◌, ◌<◌, Bool, true, false, cond, nat_eq, nat_le, ◌==◌, ◌&&◌, ◌||◌, List, [], ◌∷◌, ◌++◌, replicate, Option, Some, None, refl, sym, ap, subst, ◌∙◌, arith, true≢false, append-nil}
use Rattle.std.specs.List.{All, list_all, list_any}
use Rattle.std.proofs.lemmas.Bool.{and_from, and_parts, eq-eqb, leb-true}
use Rattle.std.proofs.lemmas.List.Elements.{All-cons, All-nil}
use Rattle.tod_stamp.specs.declared.stamp.Stamp.{Stamp}
use Rattle.ckd_track.specs.declared.write.Cause.{Cause}
use Rattle.pair_table.specs.declared.level.Level.{Level}
use Rattle.pair_table.specs.declared.row.PairRow.{PairRow}
use Rattle.pair_table.specs.declared.row.PairState.{PairState}
use Rattle.pair_table.specs.declared.row.PairState.TheVariants.{Pending, Copy, Duplex, Suspended}
use Rattle.pair_table.specs.declared.row.SuspendCause.TheVariants.{Control}
use Rattle.pair_table.specs.Devices.{is_among}
use Rattle.pair_table.specs.Rows.{is_suspended}
use Rattle.pair_table.specs.Tables.{in_state, none_clash}
use Rattle.pending_queue.specs.Groups.{FormedGroup}
use Rattle.group_state.specs.Groups.{shown_in}
use Rattle.group_state.specs.Runs.{Answer}
use Rattle.row_changes.specs.Changes.{Due, Timed, after_change, break_time_of, due_after, is_at, may_all_come, may_come}
use Rattle.row_changes.specs.Changes.Due.{NoneDue}
use Rattle.row_changes.specs.Spans.{hit_count}
use Rattle.record_rows.specs.Deeds.{Deed}
use Rattle.record_rows.specs.Deeds.Deed.{Logged, Marked}
use Rattle.record_rows.specs.GroupRows.{are_breaks_at_cut, is_break_at, is_shown_done, row_in, row_with_group, rows_with_group, shown_break, state_by_group}
use Rattle.record_rows.specs.Hits.{due_once_marked, hit_now, marked_changes, rows_marked}
use Rattle.record_rows.specs.Records.{changes_after_mark, record_changes, rows_after_mark, rows_with_record}
use Rattle.record_rows.specs.ToldRows.{AreGrouped, AreTold, InPlaces, IsGrouped, IsTold}
use Rattle.record_rows.proofs.Coming.{after_marks_are_changes, after_marks_may_come, records_are_changes, records_may_come}
use Rattle.record_rows.proofs.Counting.{after_marks_count, counts_append, marked_records_count, marks_count, once, records_count}
use Rattle.record_rows.proofs.Devices.{apart_of, devices_apart}
use Rattle.record_rows.proofs.Grouped.{after_marks_group, records_group}
use Rattle.record_rows.proofs.HitRows.{marks_are_changes}
use Rattle.record_rows.proofs.Telling.{after_marks_tell, marks_tell, only_failed, records_tell}
use Rattle.site_store.specs.DeedChanges.{AreByChanges, DeedOfChanges, changes_of, deeds_of}
use Rattle.fed_logs.specs.LogLaws.{WasShown}
use Rattle.fed_logs.specs.Moves.{AreQuiet, MayFollow, is_mark_at_most, is_plan_shown_done}
use Rattle.site_store.specs.Logging.{FailedBetween, log_deeds, rows_before, rows_logged}
use Rattle.site_store.specs.Sites.{SiteState}
use Rattle.site_store.proofs.ByPlacements.{RecordPlacement, by_placements, placement_here, placement_marked, placement_switched}
use Rattle.mover.specs.Groups.{is_to_log}
use Rattle.mover.specs.Moves.{Fades, InPlacesByDeeds, KeepPairs, KeepsPair, is_broken_at}
use Rattle.mover.specs.Steps.{AreMade}
use Rattle.mover.proofs.Making.{after_mark_made, record_made}
use Rattle.mover.proofs.SamePairs.{apart_still, at_of, before, contains_at, each_mapped, each_more, fade_pair, fewer_of, pair_self, still_self, still_then}
use Rattle.mover.proofs.SiteCalls.{fades_hit, fades_marked, fades_told}
use Rattle.mover.proofs.ToldHits.{hit_before, hit_by_others}

-- ---- breaks at the cut

abbrev bound : List (ℕ × Stamp × Cause) → ℕ
bound [] = 0
bound (f ∷ found) = suc (f.0 + bound found)

all_at : (n k time : ℕ) → k < n → break_time_of k (replicate n (Some time)) ≡ Some time
all_at zero k time low = absurd (omega (arith, low))
all_at (suc n) zero time low = refl
all_at (suc n) (suc k) time low = all_at n k time (omega (arith, low))

pub breaks_at : (n time : ℕ) (found : List (ℕ × Stamp × Cause)) → bound found ≤ n → list_all (is_broken_at time) found ≡ true → list_all (is_break_at (replicate n (Some time)) time) found ≡ true
breaks_at n time [] low is = refl
breaks_at n time (f ∷ found) low is =
    let parts = and_parts (is_broken_at time f) (list_all (is_broken_at time) found) is in
    and_from (is_break_at (replicate n (Some time)) time f) (list_all (is_break_at (replicate n (Some time)) time) found)
    (and_from (is_broken_at time f) (is_at time (break_time_of f.0 (replicate n (Some time)))) parts.0 (ap (is_at time) (all_at n f.0 time (omega (arith, low))) ∙ eq-eqb time time refl))
    (breaks_at n time found (omega (arith, low)) parts.1)

-- ---- changes in time

in_time : (level : Level) (breaks : List (Option ℕ)) (may_be_due : Bool) (due : Due) (from to : ℕ) (rows : List PairRow) (changes : List Timed) → may_all_come level breaks may_be_due due from to rows changes ≡ true → (low : ℕ) → low ≤ from → All (λ (t : Timed). (low ≤ t.time) × (t.time ≤ to)) changes
in_time level breaks may_be_due due from to rows [] come low le = All-nil (λ (t : Timed). (low ≤ t.time) × (t.time ≤ to))
in_time level breaks may_be_due due from to rows (t ∷ changes) come low le =
    let all = and_parts (nat_le from t.time && nat_le t.time to && may_come breaks due rows t) (may_all_come level breaks may_be_due (due_after level due t) t.time to (after_change level t rows) changes) come in
    let here = and_parts (nat_le from t.time && nat_le t.time to) (may_come breaks due rows t) all.0 in
    let times = and_parts (nat_le from t.time) (nat_le t.time to) here.0 in
    let up = leb-true from t.time times.0 in
    let down = leb-true t.time to times.1 in
    All-cons (λ (t : Timed). (low ≤ t.time) × (t.time ≤ to)) t changes (omega (arith, up, le), down) (in_time level breaks may_be_due (due_after level due t) t.time to (after_change level t rows) changes all.1 low (omega (arith, up, le)))

marked_in_time : (time : ℕ) (hit : List ℕ) → All (λ (t : Timed). (time ≤ t.time) × (t.time ≤ time)) (marked_changes time hit)
marked_in_time time [] = All-nil (λ (t : Timed). (time ≤ t.time) × (t.time ≤ time))
marked_in_time time (d ∷ hit) = All-cons (λ (t : Timed). (time ≤ t.time) × (t.time ≤ time)) _ [] (omega arith, omega arith) (All-nil (λ (t : Timed). (time ≤ t.time) × (t.time ≤ time)))

-- ---- what may follow

each_both : (R S : PairRow → PairRow → Type 0) (rows next : List PairRow) → InPlaces R rows next → InPlaces S rows next → InPlaces (λ r s. R r s × S r s) rows next
each_both R S [] [] a b = tt
each_both R S [] (s ∷ next) a b = a
each_both R S (r ∷ rows) [] a b = a
each_both R S (r ∷ rows) (s ∷ next) a b = ((a.0, b.0), each_both R S rows next a.1 b.1)

shown_none : (k : ℕ) (breaks : List (ℕ × Stamp × Cause)) → shown_break k breaks ≡ None → list_any (λ (b : ℕ × Stamp × Cause). b.0 == k) breaks ≡ false
shown_none k [] none = refl
shown_none k (f ∷ breaks) none = choose (λ e. shown_none k breaks e) (nat_eq f.0 k) none
  where
    choose : (shown_break k breaks ≡ None → list_any (λ (b : ℕ × Stamp × Cause). b.0 == k) breaks ≡ false) → (b : Bool) → cond b (Some f.1) (shown_break k breaks) ≡ None → (b || list_any (λ (b : ℕ × Stamp × Cause). b.0 == k) breaks) ≡ false
    choose on true e = absurd cc
    choose on false e = on e

module _ (group : FormedGroup) (failed : List Bool) (mid next : List PairRow) (told : AreTold failed group.cut.0 mid next) (grouped : AreGrouped group mid next) where
  abbrev Both : PairRow → PairRow → Type 0
  Both r s = IsTold failed group.cut.0 r s × IsGrouped group r s

  both : InPlaces Both mid next
  both = each_both (IsTold failed group.cut.0) (IsGrouped group) mid next told grouped

  pub follow_of : MayFollow (shown_in group) mid next
  follow_of = record {
    live = λ k v has.
        let at = at_of next has.row has.among in
        let b = before Both mid next at.0 has.row both at.1 in
        let control : b.row.control ≡ k = ap (λ (x : PairRow). x.control) (sym b.is.0.same) ∙ has.control in
        let volume : b.row.volume ≡ v = ap (λ (x : PairRow). x.volume) (sym b.is.0.same) ∙ has.volume in (
          shown_none k group.breaks (ap (λ (j : ℕ). shown_break j group.breaks) (sym control) ∙ b.is.1.unbroken has.state),
          record { row = b.row; among = contains_at mid at.0 b.row b.at; control = control; volume = volume; state = b.is.0.live has.state },
        );
    duplex = λ k v has.
        let at = at_of next has.row has.among in
        let b = before Both mid next at.0 has.row both at.1 in
        let control : b.row.control ≡ k = ap (λ (x : PairRow). x.control) (sym b.is.0.same) ∙ has.control in
        let volume : b.row.volume ≡ v = ap (λ (x : PairRow). x.volume) (sym b.is.0.same) ∙ has.volume in
        elim (b.is.1.duplex has.state) [
          | inl was ↦ inl (record { row = b.row; among = contains_at mid at.0 b.row b.at; control = control; volume = volume; state = was })
          | inr done ↦ inr (subst (λ (j : ℕ). is_plan_shown_done j v (shown_in group) ≡ true) control (subst (λ (w : ℕ). is_plan_shown_done b.row.control w (shown_in group) ≡ true) volume done))
        ];
  }

-- ---- pairs

-- A row that isn't suspended keeps its pair in another state, if it was duplex only where it is still or is suspended.
keeps_into : (r : PairRow) (state : PairState) → is_suspended r.state ≡ false → (r.state ≡ Duplex → is_suspended state ≡ false → state ≡ Duplex) → KeepsPair r (in_state state r)
keeps_into r state live duplex = record { same = refl; live = λ is. live; gone = λ is. absurd (true≢false (sym is ∙ live)); duplex = duplex }

group_keeps : (group : FormedGroup) (r : PairRow) → KeepsPair r (row_with_group group r)
group_keeps group r = by (shown_break r.control group.breaks) (is_shown_done group r) r.state refl
  where
    breaks : (since : Stamp) → is_suspended r.state ≡ false → KeepsPair r (in_state (Suspended Control since) r)
    breaks since live = keeps_into r (Suspended Control since) live (λ is gone. absurd (true≢false gone))

    matures : is_suspended r.state ≡ false → KeepsPair r (in_state Duplex r)
    matures live = keeps_into r Duplex live (λ is up. refl)

    by : (o : Option Stamp) (done : Bool) (state : PairState) → r.state ≡ state → KeepsPair r (row_in r (state_by_group o done state))
    by (Some since) done Pending e = breaks since (ap is_suspended e)
    by (Some since) done Copy e = breaks since (ap is_suspended e)
    by (Some since) done Duplex e = breaks since (ap is_suspended e)
    by (Some since) done (Suspended cause at) e = pair_self r
    by None true Pending e = matures (ap is_suspended e)
    by None false Pending e = keeps_into r Copy (ap is_suspended e) (λ is up. absurd (cc (e, is)))
    by None true Copy e = matures (ap is_suspended e)
    by None false Copy e = pair_self r
    by None done Duplex e = pair_self r
    by None done (Suspended cause at) e = pair_self r

groups_keep : (group : FormedGroup) (rows : List PairRow) → KeepPairs rows (rows_with_group group rows)
groups_keep group rows = each_mapped KeepsPair (row_with_group group) (group_keeps group) rows

fades_keep : (group : FormedGroup) (rows next : List PairRow) → InPlaces Fades (rows_with_group group rows) next → KeepPairs rows next
fades_keep group rows next fade = still_then rows (rows_with_group group rows) next (groups_keep group rows) (each_more Fades KeepsPair fade_pair (rows_with_group group rows) next fade)

-- ---- the steps

-- The deeds of a log with their changes: quiet ones first, then the record.
pub record LogSteps (group : FormedGroup) (site : SiteState) (placement : RecordPlacement) (early failed : List Bool) : Type 0 where
  pub quiet : List Deed
  pub steps : List DeedOfChanges
  pub deeds_are : deeds_of steps ≡ log_deeds placement site group early failed
  pub are : log_deeds placement site group early failed ≡ quiet ++ Logged group.cut.0 group.entries (rows_logged placement site group early failed) ∷ []
  pub suspends : AreQuiet site.time site.told quiet (rows_before placement site early)
  pub marks : is_mark_at_most quiet ≡ true
  pub changes : list_all (is_broken_at group.cut.0) group.breaks ≡ true → site.time ≤ group.cut.0 → AreByChanges site.level site.time site.told steps
  pub made : (answers : List Answer) → WasShown answers (shown_in group) → site.time ≤ group.cut.0 → is_to_log group site.time site.told ≡ true → site.mark.ended ≡ false → AreMade site.level false answers site.time site.told NoneDue steps NoneDue
  pub hit : (d : ℕ) → hit_count d (changes_of steps) ≤ once (is_among d (hit_now failed site.told))
  pub still : KeepPairs site.told (rows_before placement site early)
  pub fades : InPlacesByDeeds Fades site.told quiet
  pub pairs : InPlacesByDeeds KeepsPair site.told (deeds_of steps)
  pub kept : KeepPairs (rows_before placement site early) (rows_logged placement site group early failed)
  pub told : AreTold failed group.cut.0 (rows_before placement site early) (rows_logged placement site group early failed)
  pub grouped : AreGrouped group (rows_before placement site early) (rows_logged placement site group early failed)

module _ (group : FormedGroup) (site : SiteState) (early failed : List Bool) (apart : none_clash site.told ≡ true) where
  abbrev n : ℕ
  n = bound group.breaks

  abbrev breaks : List (Option ℕ)
  breaks = replicate n (Some group.cut.0)

  at_cut : list_all (is_broken_at group.cut.0) group.breaks ≡ true → are_breaks_at_cut breaks group ≡ true
  at_cut is = breaks_at n group.cut.0 group.breaks (omega arith) is

  -- a record with no mark before it
  abbrev next : List PairRow
  next = rows_with_record site.level group failed site.told

  abbrev plain : DeedOfChanges
  plain = record { deed = Logged group.cut.0 group.entries next; changes = record_changes group failed site.told }

  plain_changes : list_all (is_broken_at group.cut.0) group.breaks ≡ true → site.time ≤ group.cut.0 → AreByChanges site.level site.time site.told (plain ∷ [])
  plain_changes is up = (
    record {
      rows_are = records_are_changes site.level breaks group failed site.told (apart_of site.told apart) (at_cut is);
      in_time = in_time site.level breaks false NoneDue site.time group.cut.0 site.told (record_changes group failed site.told) (records_may_come site.level breaks group failed site.time site.told (apart_of site.told apart) (at_cut is) up) site.time (omega arith);
    },
    tt,
  )

  plain_kept : KeepPairs site.told next
  plain_kept = fades_keep group site.told next (fades_hit site.level group.cut.0 (hit_now failed site.told) (rows_with_group group site.told))

  plain_hit : (d : ℕ) → hit_count d (record_changes group failed site.told ++ []) ≤ once (is_among d (hit_now failed site.told))
  plain_hit d = let e = ap (hit_count d) (append-nil (record_changes group failed site.told)) ∙ records_count d group failed site.told in omega (arith, e)

  pub here_steps : LogSteps group site placement_here early failed
  here_steps = record {
    quiet = [];
    steps = plain ∷ [];
    deeds_are = refl;
    are = refl;
    suspends = refl;
    marks = refl;
    changes = plain_changes;
    made = λ answers shown up to_log going. record_made site.level answers group site.time site.told failed shown up to_log;
    hit = plain_hit;
    still = still_self site.told;
    fades = tt;
    pairs = (plain_kept, tt);
    kept = plain_kept;
    told = records_tell site.level group failed site.told (apart_of site.told apart);
    grouped = records_group site.level group failed site.told;
  }

  pub switched_steps : LogSteps group site placement_switched early failed
  switched_steps = record {
    quiet = [];
    steps = plain ∷ [];
    deeds_are = refl;
    are = refl;
    suspends = refl;
    marks = refl;
    changes = plain_changes;
    made = λ answers shown up to_log going. record_made site.level answers group site.time site.told failed shown up to_log;
    hit = plain_hit;
    still = still_self site.told;
    fades = tt;
    pairs = (plain_kept, tt);
    kept = plain_kept;
    told = records_tell site.level group failed site.told (apart_of site.told apart);
    grouped = records_group site.level group failed site.told;
  }

  -- a record after a mark
  abbrev early_hits : List ℕ
  early_hits = hit_now early site.told

  abbrev mid : List PairRow
  mid = rows_marked site.time early_hits site.told

  mid_fades : InPlaces Fades site.told mid
  mid_fades = fades_marked site.time early_hits site.told

  mid_still : KeepPairs site.told mid
  mid_still = each_more Fades KeepsPair fade_pair site.told mid mid_fades

  mid_kept : KeepPairs mid (rows_after_mark site.level early_hits group failed mid)
  mid_kept = fades_keep group mid (rows_after_mark site.level early_hits group failed mid) (fades_told site.level group.cut.0 early_hits (hit_now failed mid) (rows_with_group group mid))

  abbrev after : List Timed
  after = changes_after_mark site.level early_hits group failed mid

  marked_hit : FailedBetween site.failed early failed → (d : ℕ) → hit_count d (marked_changes site.time early_hits ++ (after ++ [])) ≤ once (is_among d (hit_now failed site.told))
  marked_hit between d = by (is_among d early_hits) refl (is_among d (hit_now failed mid)) refl (is_among d (hit_now failed site.told)) refl
    where
      most : hit_count d (marked_changes site.time early_hits ++ after) ≤ 1
      most = marked_records_count d site.level group early failed site.time site.told

      sum : hit_count d (marked_changes site.time early_hits ++ after) ≡ once (is_among d early_hits) + once (is_among d (hit_now failed mid))
      sum = counts_append d (marked_changes site.time early_hits) after ∙ ap (λ (k : ℕ). k + hit_count d after) (marks_count d site.time early_hits) ∙ ap (λ (k : ℕ). once (is_among d early_hits) + k) (after_marks_count d site.level early_hits group failed mid)

      same : hit_count d (marked_changes site.time early_hits ++ (after ++ [])) ≡ hit_count d (marked_changes site.time early_hits ++ after)
      same = ap (λ (l : List Timed). hit_count d (marked_changes site.time early_hits ++ l)) (append-nil after)

      by : (a : Bool) → is_among d early_hits ≡ a → (b : Bool) → is_among d (hit_now failed mid) ≡ b → (c : Bool) → is_among d (hit_now failed site.told) ≡ c → hit_count d (marked_changes site.time early_hits ++ (after ++ [])) ≤ once c
      by a e b f true g = omega (arith, most, same)
      by false e false f false g = let x : once (is_among d early_hits) ≡ 0 = ap once e in let y : once (is_among d (hit_now failed mid)) ≡ 0 = ap once f in omega (arith, sum, same, x, y)
      by true e b f false g = absurd (true≢false (sym (hit_by_others early failed d site.told e (between.after d (only_failed d early site.told e))) ∙ g))
      by false e true f false g = absurd (true≢false (sym (hit_before early failed site.time d site.told mid (marks_tell site.time early site.told (apart_of site.told apart)) f) ∙ g))

  pub marked_steps : FailedBetween site.failed early failed → LogSteps group site placement_marked early failed
  marked_steps between = record {
    quiet = Marked site.at site.mark.ended mid ∷ [];
    steps = record { deed = Marked site.at site.mark.ended mid; changes = marked_changes site.time early_hits } ∷ record { deed = Logged group.cut.0 group.entries (rows_after_mark site.level early_hits group failed mid); changes = after } ∷ [];
    deeds_are = refl;
    are = refl;
    suspends = (fewer_of site.told mid mid_fades, refl);
    marks = refl;
    changes = λ is up. (
      record { rows_are = marks_are_changes site.level site.time early_hits site.told; in_time = marked_in_time site.time early_hits },
      (
        record {
          rows_are = after_marks_are_changes site.level breaks early_hits group failed mid mid_apart (at_cut is);
          in_time = in_time site.level breaks false (due_once_marked site.level site.time early_hits) site.time group.cut.0 mid after (after_marks_may_come site.level breaks early_hits group failed site.time site.time mid mid_apart (at_cut is) up) site.time (omega arith);
        },
        tt,
      ),
    );
    made = λ answers shown up to_log going. after_mark_made site.level answers site.at site.mark.ended going group site.time site.told early failed shown up to_log;
    hit = marked_hit between;
    still = mid_still;
    fades = (mid_fades, tt);
    pairs = (mid_still, (mid_kept, tt));
    kept = mid_kept;
    told = after_marks_tell site.level early_hits group failed mid mid_apart;
    grouped = after_marks_group site.level early_hits group failed mid;
  }
    where
      mid_apart : devices_apart mid ≡ true
      mid_apart = apart_of mid (apart_still site.told mid mid_still apart)

  pub log_steps : (placement : RecordPlacement) → FailedBetween site.failed early failed → LogSteps group site placement early failed
  log_steps placement between = by_placements (λ (w : RecordPlacement). LogSteps group site w early failed) here_steps switched_steps (marked_steps between) placement
