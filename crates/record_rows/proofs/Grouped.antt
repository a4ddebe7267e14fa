-- What a group's record makes of each row.
use Rattle.std.proofs.Common.{◌≡◌, ◌⊎◌, inl, inr, ℕ, Bool, true, false, cond, List, [], ◌∷◌, map, Option, Some, None, refl, sym, ap, subst, ◌∙◌, true≢false}
use Rattle.tod_stamp.specs.declared.stamp.Stamp.{Stamp}
use Rattle.pair_table.specs.declared.level.Level.{Level}
use Rattle.pair_table.specs.declared.row.PairRow.{PairRow}
use Rattle.pair_table.specs.declared.row.PairState.{PairState}
use Rattle.pair_table.specs.declared.row.PairState.TheVariants.{Pending, Copy, Duplex, Suspended}
use Rattle.pair_table.specs.declared.row.SuspendCause.TheVariants.{Device, Control}
use Rattle.pair_table.specs.Devices.{is_among}
use Rattle.pair_table.specs.Rows.{is_suspended}
use Rattle.pair_table.specs.Tables.{in_state}
use Rattle.pending_queue.specs.Groups.{FormedGroup}
use Rattle.row_changes.specs.Changes.{FaultReach, reach_of, reached_row, since}
use Rattle.record_rows.specs.GroupRows.{is_shown_done, row_in, row_with_group, shown_break, state_by_group}
use Rattle.record_rows.specs.Hits.{hit_now}
use Rattle.record_rows.specs.Records.{rows_after_mark, rows_with_record}
use Rattle.record_rows.specs.ToldRows.{AreGrouped, IsGrouped}
use Rattle.record_rows.proofs.HitRows.{held, hits_row, reach_row, told_after_group, told_row}

-- ---- a row that isn't suspended after what is told is as it was

module _ (reach : FaultReach) (time : ℕ) where
  only_reached : (devices : List ℕ) (r : PairRow) → is_suspended (reached_row reach devices time r).state ≡ false → reached_row reach devices time r ≡ r
  only_reached devices r live = choose (reach.reaches devices r) (is_suspended r.state) live
    where
      choose : (b c : Bool) → is_suspended (cond b (cond c r (in_state (since reach.cause time) r)) r).state ≡ false → cond b (cond c r (in_state (since reach.cause time) r)) r ≡ r
      choose true true live = refl
      choose true false live = absurd (true≢false live)
      choose false c live = refl

  only_reach : (marked : List ℕ) (r : PairRow) → is_suspended (reach_row reach time marked r).state ≡ false → reach_row reach time marked r ≡ r
  only_reach [] r live = refl
  only_reach (d ∷ marked) r live = only_reached (d ∷ marked) r live

  only_hits : (hit : List ℕ) (r : PairRow) → is_suspended (hits_row reach time hit r).state ≡ false → hits_row reach time hit r ≡ r
  only_hits [] r live = refl
  only_hits (d ∷ hit) r live = choose (is_among r.device (d ∷ hit)) live
    where
      choose : (b : Bool) → is_suspended (reached_row reach (d ∷ hit) time (cond b (in_state (since Device time) r) r)).state ≡ false → reached_row reach (d ∷ hit) time (cond b (in_state (since Device time) r) r) ≡ r
      choose true live = absurd (true≢false (sym (ap (λ (x : PairRow). is_suspended x.state) (held reach (d ∷ hit) time (in_state (since Device time) r) refl)) ∙ live))
      choose false live = only_reached (d ∷ hit) r live

  only_told : (marked hit : List ℕ) (r : PairRow) → is_suspended (told_row reach time marked hit r).state ≡ false → told_row reach time marked hit r ≡ r
  only_told marked hit r live =
      let first = reach_row reach time marked r in
      let same = only_hits hit first live in
      same ∙ only_reach marked r (sym (ap (λ (x : PairRow). is_suspended x.state) same) ∙ live)

-- ---- what the group makes of it

copy_waits_no_more : Copy ≡ Pending → ⊥
copy_waits_no_more e = cc

duplex_waits_no_more : Duplex ≡ Pending → ⊥
duplex_waits_no_more e = cc

copy_is_not_duplex : Copy ≡ Duplex → ⊥
copy_is_not_duplex e = cc

-- What a group makes of a state, by the break of its controller and by whether its plan is done.
record Follows (broken : Option Stamp) (done : Bool) (old new : PairState) : Type 0 where
  unbroken : is_suspended new ≡ false → broken ≡ None
  begun : new ≡ Pending → ⊥
  duplex : new ≡ Duplex → (old ≡ Duplex) ⊎ (done ≡ true)
  all_done : is_suspended new ≡ false → done ≡ true → new ≡ Duplex

by_suspension : (broken : Option Stamp) (done : Bool) (old new : PairState) → is_suspended new ≡ true → Follows broken done old new
by_suspension broken done old new is = record {
  unbroken = λ live. absurd (true≢false (sym is ∙ live));
  begun = λ e. true≢false (sym is ∙ ap (λ (q : PairState). is_suspended q) e);
  duplex = λ e. absurd (true≢false (sym is ∙ ap (λ (q : PairState). is_suspended q) e));
  all_done = λ live d. absurd (true≢false (sym is ∙ live));
}

group_makes : (broken : Option Stamp) (done : Bool) (r : PairRow) (state : PairState) → r.state ≡ state → Follows broken done r.state (row_in r (state_by_group broken done state)).state
group_makes (Some time) done r Pending is = by_suspension (Some time) done r.state (Suspended Control time) refl
group_makes (Some time) done r Copy is = by_suspension (Some time) done r.state (Suspended Control time) refl
group_makes (Some time) done r Duplex is = by_suspension (Some time) done r.state (Suspended Control time) refl
group_makes (Some time) done r (Suspended cause at) is = by_suspension (Some time) done r.state r.state (ap (λ (q : PairState). is_suspended q) is)
group_makes None true r Pending is = record { unbroken = λ live. refl; begun = duplex_waits_no_more; duplex = λ e. inr refl; all_done = λ live d. refl }
group_makes None false r Pending is = record { unbroken = λ live. refl; begun = copy_waits_no_more; duplex = λ e. absurd (copy_is_not_duplex e); all_done = λ live d. absurd (true≢false (sym d)) }
group_makes None true r Copy is = record { unbroken = λ live. refl; begun = duplex_waits_no_more; duplex = λ e. inr refl; all_done = λ live d. refl }
group_makes None false r Copy is = record { unbroken = λ live. refl; begun = λ e. copy_waits_no_more (sym is ∙ e); duplex = λ e. absurd (copy_is_not_duplex (sym is ∙ e)); all_done = λ live d. absurd (true≢false (sym d)) }
group_makes None done r Duplex is = record { unbroken = λ live. refl; begun = λ e. duplex_waits_no_more (sym is ∙ e); duplex = λ e. inl e; all_done = λ live d. is }
group_makes None done r (Suspended cause at) is = by_suspension None done r.state r.state (ap (λ (q : PairState). is_suspended q) is)

-- ---- both

not_suspended : (a b : PairState) → a ≡ b → is_suspended b ≡ false → is_suspended a ≡ false
not_suspended a b e is = ap (λ (q : PairState). is_suspended q) e ∙ is

row_grouped : (group : FormedGroup) (reach : FaultReach) (time : ℕ) (marked hit : List ℕ) (r : PairRow) → IsGrouped group r (told_row reach time marked hit (row_with_group group r))
row_grouped group reach time marked hit r = record {
  unbroken = λ live. follows.unbroken (sym (ap (λ (q : PairState). is_suspended q) (same live)) ∙ live);
  begun = λ e. follows.begun (sym (same (not_suspended (told_row reach time marked hit (row_with_group group r)).state Pending e refl)) ∙ e);
  duplex = λ e. follows.duplex (sym (same (not_suspended (told_row reach time marked hit (row_with_group group r)).state Duplex e refl)) ∙ e);
  done = λ live d. same live ∙ follows.all_done (sym (ap (λ (q : PairState). is_suspended q) (same live)) ∙ live) d;
}
  where
    follows : Follows (shown_break r.control group.breaks) (is_shown_done group r) r.state (row_with_group group r).state
    follows = group_makes (shown_break r.control group.breaks) (is_shown_done group r) r r.state refl

    same : is_suspended (told_row reach time marked hit (row_with_group group r)).state ≡ false → (told_row reach time marked hit (row_with_group group r)).state ≡ (row_with_group group r).state
    same live = ap (λ (x : PairRow). x.state) (only_told reach time marked hit (row_with_group group r) live)

grouped_each : (group : FormedGroup) (f : PairRow → PairRow) (rows : List PairRow) → ((r : PairRow) → IsGrouped group r (f r)) → AreGrouped group rows (map f rows)
grouped_each group f [] each = tt
grouped_each group f (r ∷ rows) each = (each r, grouped_each group f rows each)

pub after_marks_group : (level : Level) (marked : List ℕ) (group : FormedGroup) (failed : List Bool) (rows : List PairRow) → AreGrouped group rows (rows_after_mark level marked group failed rows)
after_marks_group level marked group failed rows =
    let hit = hit_now failed rows in
    let reach = reach_of level rows in
    subst (λ (next : List PairRow). AreGrouped group rows next) (sym (told_after_group level group marked hit rows))
    (grouped_each group (λ r. told_row reach group.cut.0 marked hit (row_with_group group r)) rows (λ r. row_grouped group reach group.cut.0 marked hit r))

pub records_group : (level : Level) (group : FormedGroup) (failed : List Bool) (rows : List PairRow) → AreGrouped group rows (rows_with_record level group failed rows)
records_group level group failed rows = after_marks_group level [] group failed rows
