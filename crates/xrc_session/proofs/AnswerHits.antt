-- Hits after a command and in a mark: how they lead from point to point, and that each has a fault of its own.
use Rattle.std.proofs.Common.{◌≡◌, inl, inr, ℕ, suc, ◌+◌, ◌<◌, ◌≤◌, ◌==◌, Bool, true, false, ◌&&◌, List, [], ◌∷◌, ◌++◌, length, Option, refl, sym, ap, subst, ◌∙◌, arith}
use Rattle.std.specs.Prelude.{nat_le}
use Rattle.std.specs.List.{list_all, list_any}
use Rattle.std.proofs.lemmas.Bool.{and_from, and_parts, eq-eqb, le-leb}
use Rattle.xrc_edge.specs.Causes.{Rose}
use Rattle.crash_plant.specs.declared.device.Device.TheVariants.{Volume}
use Rattle.crash_plant.specs.Moments.{PlantState}
use Rattle.pair_table.specs.declared.level.Level.{Level}
use Rattle.pair_table.specs.declared.row.PairRow.{PairRow}
use Rattle.pair_table.specs.Devices.{is_among}
use Rattle.pair_table.specs.Tables.{is_of}
use Rattle.row_changes.specs.Changes.{Due, Timed, are_hit, due_after_mark, due_in_record, is_of_mark, is_of_record}
use Rattle.row_changes.specs.Changes.Due.{NoneDue}
use Rattle.row_changes.specs.Spans.{all_broke, hit_count, is_hit_at}
use Rattle.record_rows.specs.Hits.{due_once_marked, hit_changes, hit_now, marked_changes, rows_hit, rows_marked}
use Rattle.record_rows.specs.Records.{rows_with_hits}
use Rattle.record_rows.proofs.Counting.{counts_append, hits_count, marks_count, once}
use Rattle.record_rows.proofs.HitRows.{hit_have_rows}
use Rattle.consistency.specs.Stages.{ScriptRun, Stage, breaks_of}
use Rattle.consistency.specs.Leads.{HitsLead, MarkedHitsLead, Point}
use Rattle.consistency.specs.Ways.{HasCountedHits, IsLegOf, IsOnTheWay, Leg, are_at_time, hits_of_leg, leg_by, leg_to, stage_point}
use Rattle.consistency.specs.Ways.Way.{Commanded, Ending, MarkedFor}
use Rattle.consistency.proofs.Leading.{hits_whole, leads_itself}
use Rattle.mover.specs.Moves.{most_faults}
use Rattle.xrc_session.specs.LinePauses.{RisesCover}
use Rattle.xrc_session.specs.Trails.{AreHitsOfFaults}

-- ---- what leads

some_hit : (d : ℕ) (hit : List ℕ) (rows : List PairRow) → list_all (λ e. list_any (is_of e) rows) (d ∷ hit) ≡ true → are_hit (d ∷ hit) rows ≡ true
some_hit d hit rows have = and_from (nat_le 1 (length (d ∷ hit))) (list_all (λ e. list_any (is_of e) rows) (d ∷ hit)) (le-leb 1 (length (d ∷ hit)) (let le : 1 ≤ suc (length hit) = omega arith in le)) have

module _ (level : Level) (breaks : List (Option ℕ)) (p : Point) (due : p.due ≡ NoneDue) where
  lead_by : (hit : List ℕ) → list_all (λ d. list_any (is_of d) p.rows) hit ≡ true → HitsLead level breaks p (record p { rows = rows_hit level p.time hit p.rows }) (hit_changes p.time hit)
  lead_by [] have = record { are_hits = refl; at = refl; leads = leads_itself level breaks p }
  lead_by (d ∷ hit) have = record {
    are_hits = ap (λ (b : Bool). (b && true) && true) (eq-eqb p.time p.time refl);
    at = refl;
    leads = record {
      may_come = (omega arith, omega arith, and_from (is_of_record p.due p.time) (are_hit (d ∷ hit) p.rows) (ap (λ (x : Due). is_of_record x p.time) due) (some_hit d hit p.rows have), (omega arith, ap (λ (x : Due). due_in_record x p.time) due ∙ sym due));
      rows = refl;
      goes_on = refl;
    };
  }

  -- The hits of jobs that have failed lead from a point to the one with the rows after them.
  pub hits_lead : (failed : List Bool) → HitsLead level breaks p (record p { rows = rows_with_hits level p.time failed p.rows }) (hit_changes p.time (hit_now failed p.rows))
  hits_lead failed = lead_by (hit_now failed p.rows) (hit_have_rows failed p.rows)

  -- So do those that stand in a mark before a record, which leave the others due.
  pub marked_lead : (d : ℕ) (hit : List ℕ) → list_all (λ e. list_any (is_of e) p.rows) (d ∷ hit) ≡ true
      → MarkedHitsLead level breaks p (record p { rows = rows_marked p.time (d ∷ hit) p.rows; due = due_once_marked level p.time (d ∷ hit) }) (marked_changes p.time (d ∷ hit))
  marked_lead d hit have = record {
    are_marked = ap (λ (b : Bool). (b && true) && true) (eq-eqb p.time p.time refl);
    at = refl;
    leads = record {
      may_come = (
        omega arith,
        omega arith,
        and_from (is_of_mark p.due p.time) (are_hit (d ∷ hit) p.rows) (ap (λ (x : Due). is_of_mark x p.time) due) (some_hit d hit p.rows have),
        (omega arith, ap (λ (x : Due). due_after_mark level x p.time (d ∷ hit)) due),
      );
      rows = refl;
      goes_on = refl;
    };
  }

at_one_time : (from to : ℕ) (hits : List Timed) → to ≡ from → list_all (is_hit_at from) hits ≡ true → are_at_time to hits ≡ true
at_one_time from to [] same are = refl
at_one_time from to (t ∷ hits) same are =
    let parts = and_parts (is_hit_at from t) (list_all (is_hit_at from) hits) are in
    and_from (t.time == to) (are_at_time to hits) (ap (λ (n : ℕ). t.time == n) same ∙ (and_parts (t.time == from) _ parts.0).0) (at_one_time from to hits same parts.1)

-- Hits at a leg's point are on the way from it.
pub hits_on_the_way : (run : ScriptRun) (stage : Stage) (l : Leg) (q : Point) (hits : List Timed) → IsLegOf run stage l → HitsLead run.level (breaks_of run) l.point q hits → IsOnTheWay run l q hits
hits_on_the_way run stage l q hits leg hit = record {
  leads = hit.leads;
  together = at_one_time l.point.time q.time hits hit.at hit.are_hits;
  broken = subst (λ (n : ℕ). all_broke n q.time 0 (breaks_of run) (l.changes ++ hits) ≡ true) (sym leg.replied)
      (hits_whole run.level (breaks_of run) (stage_point stage) l.point q l.changes hits leg.whole hit.at hit.leads).broken;
}

-- ---- what is counted

-- No volume's count falls in calls.
abbrev pub NoneFalls : (old new : PlantState) → Type 0
NoneFalls old new = (d : ℕ) → old.faults (Volume d) ≤ new.faults (Volume d)

-- These changes hit a device no oftener than its count rises in calls, if it ends below the largest number.
abbrev pub AreOfFaults : List Timed → (old new : PlantState) → Type 0
AreOfFaults hits old new = (d : ℕ) → new.faults (Volume d) < most_faults → hit_count d hits + old.faults (Volume d) ≤ new.faults (Volume d)

-- The count of each device that is hit rose in calls.
abbrev pub RoseForEach : (hit : List ℕ) → (old new : PlantState) → Type 0
RoseForEach hit old new = (d : ℕ) → is_among d hit ≡ true → Rose (old.faults (Volume d)) (new.faults (Volume d))

once_by : (hit : Bool) (before now : ℕ) → before ≤ now → (hit ≡ true → Rose before now) → now < most_faults → once hit + before ≤ now
once_by true before now up rose low = by_rise (rose refl)
  where
    by_rise : Rose before now → 1 + before ≤ now
    by_rise (inl less) = omega (arith, less)
    by_rise (inr most) = absurd (omega (arith, most, low))
once_by false before now up rose low = omega (arith, up)

pub hits_of_faults : (time : ℕ) (hit : List ℕ) (old new : PlantState) → NoneFalls old new → RoseForEach hit old new → AreOfFaults (hit_changes time hit) old new
hits_of_faults time hit old new up rose d low =
    subst (λ (n : ℕ). n + old.faults (Volume d) ≤ new.faults (Volume d)) (sym (hits_count d time hit)) (once_by (is_among d hit) (old.faults (Volume d)) (new.faults (Volume d)) (up d) (rose d) low)

pub marks_of_faults : (time : ℕ) (hit : List ℕ) (old new : PlantState) → NoneFalls old new → RoseForEach hit old new → AreOfFaults (marked_changes time hit) old new
marks_of_faults time hit old new up rose d low =
    subst (λ (n : ℕ). n + old.faults (Volume d) ≤ new.faults (Volume d)) (sym (marks_count d time hit)) (once_by (is_among d hit) (old.faults (Volume d)) (new.faults (Volume d)) (up d) (rose d) low)

pub none_of_faults : (old new : PlantState) → NoneFalls old new → AreOfFaults [] old new
none_of_faults old new up d low = let rises = up d in omega (arith, rises)

module _ (l : Leg) (began old new : PlantState) (up : NoneFalls old new) (before : AreHitsOfFaults l began old) where
  abbrev Before : ℕ → Type 0
  Before d = hits_of_leg l d + began.faults (Volume d) ≤ old.faults (Volume d)

  there : (d : ℕ) → new.faults (Volume d) < most_faults → Before d
  there d low = before d (let rises = up d in omega (arith, rises, low))

  -- A leg whose hits have faults has them after more calls.
  pub leg_counted : AreHitsOfFaults l began new
  leg_counted d low = let was = there d low in let rises = up d in omega (arith, was, rises)

  -- Hits on the way, in a mark, and after a command or an end have them, too. The hits of a mark that stand after the command count once.
  pub way_counted : (q : Point) (hits : List Timed) → AreOfFaults hits old new → AreHitsOfFaults (leg_to l q hits) began new
  way_counted q hits own d low =
      let was = there d low in
      let now = own d low in
      let both = counts_append d l.changes hits in
      omega (arith, was, now, both)

  pub mark_counted : l.marked ≡ [] → (q : Point) (number : ℕ) (hits : List Timed) → AreOfFaults hits old new → AreHitsOfFaults (leg_by l q (MarkedFor number hits)) began new
  mark_counted none q number hits own d low =
      let was = there d low in
      let now = own d low in
      let unmarked = ap (hit_count d) none in
      omega (arith, was, now, unmarked)

  pub command_counted : l.marked ≡ [] → (q : Point) (number : ℕ) (marked hits : List Timed) → AreOfFaults marked old new → AreOfFaults hits old new
      → AreHitsOfFaults (leg_by (record l { marked = marked }) q (Commanded number hits)) began new
  command_counted none q number marked hits early own d low =
      let was = there d low in
      let first = early d low in
      let now = own d low in
      let unmarked = ap (hit_count d) none in
      omega (arith, was, first, now, unmarked)

  pub end_counted : l.marked ≡ [] → (q : Point) (number : ℕ) (hits : List Timed) → AreOfFaults hits old new → AreHitsOfFaults (leg_by l q (Ending number hits)) began new
  end_counted none q number hits own d low =
      let was = there d low in
      let now = own d low in
      let unmarked = ap (hit_count d) none in
      omega (arith, was, now, unmarked)

-- So a run that has as many faults counts each hit.
pub counted_hits : (run : ScriptRun) (l : Leg) (began new : PlantState) → AreHitsOfFaults l began new → RisesCover run began new → HasCountedHits run l
counted_hits run l began new hits cover d =
    let low = cover d in
    let now = hits d low.0 in
    omega (arith, now, low.1)
