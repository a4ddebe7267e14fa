-- Rows whose devices a mark for a command's record hit stand after the command as the hits left them.
use Rattle.std.proofs.Common.{◌≡◌, ◌⊎◌, inl, inr, ℕ, ◌<◌, Bool, true, false, cond, ◌&&◌, List, [], ◌∷◌, map, refl, sym, ap, subst, ◌∙◌, arith}
use Rattle.std.specs.Prelude.{◌==◌, Option, nat_le, if◌then◌else◌}
use Rattle.std.specs.List.{All, list_all}
use Rattle.std.proofs.lemmas.Bool.{and_parts, eqb-true, leb-true}
use Rattle.std.proofs.lemmas.List.Elements.{All-cons, All-nil}
use Rattle.std.proofs.lemmas.List.Sums.{sum_by-cons}
use Rattle.pair_table.specs.declared.row.PairRow.{PairRow}
use Rattle.pair_table.specs.declared.row.PairState.{PairState}
use Rattle.pair_table.specs.declared.row.SuspendCause.TheVariants.{Device as ByDevice}
use Rattle.pair_table.specs.Devices.{is_among}
use Rattle.pair_table.specs.Rows.{is_suspended}
use Rattle.pair_table.specs.Tables.{in_state}
use Rattle.row_changes.specs.Changes.{FaultReach, RowChange, Timed, reach_of, reached_row, row_after_change, since, suspended_by}
use Rattle.row_changes.specs.Changes.RowChange.{Break, Hit, MarkedHit, Mature, Reached}
use Rattle.row_changes.specs.Spans.{hit_count, hits, is_hit_at}
use Rattle.row_changes.proofs.Functions.{after_rows, row_after}
use Rattle.row_changes.proofs.Reaching.{reached_state}
use Rattle.xrc_command.specs.declared.line.Line.{Line}
use Rattle.consistency.specs.Stages.{ScriptRun}
use Rattle.consistency.specs.Leads.{Point}
use Rattle.consistency.specs.Ways.{IsCommanding, Leg, commanded_point, hits_stand}
use Rattle.consistency.proofs.Hits.{no_other}

module _ (reach : FaultReach) (time : ℕ) where
  -- the state in which its device's failure leaves a row
  abbrev Struck : PairState
  Struck = since ByDevice time

  -- A row's device, and its state where it was struck, stay while others are reached.
  reached_stays : (devices : List ℕ) (r : PairRow) → r.state ≡ Struck → reached_row reach devices time r ≡ r
  reached_stays devices r is = by_case (reach.reaches devices r)
    where
      by_case : (b : Bool) → (if b then suspended_by reach.cause time r else r) ≡ r
      by_case true = ap (λ (state : PairState). if is_suspended state then r else in_state (since reach.cause time) r) is
      by_case false = refl

  reached_device : (devices : List ℕ) (r : PairRow) → (reached_row reach devices time r).device ≡ r.device
  reached_device devices r = ap (λ (x : PairRow). x.device) (reached_state reach devices time r)

  -- One hit leaves a row its device. It strikes the row of its device, and leaves a struck row so.
  abbrev Stands : (t : Timed) (r : PairRow) → Type 0
  Stands t r = ((row_after_change reach t r).device ≡ r.device) × ((r.state ≡ Struck) ⊎ (hits r.device t ≡ true) → (row_after_change reach t r).state ≡ Struck)

  hit_stands : (at : ℕ) (change : RowChange) (r : PairRow) → is_hit_at time (record { time = at; change = change }) ≡ true → Stands (record { time = at; change = change }) r
  hit_stands at (Hit devices) r is = subst (λ (n : ℕ). Stands (record { time = n; change = Hit devices }) r) (sym (eqb-true at time (left_of (at == time) is))) (by_case (is_among r.device devices) refl)
    where
      left_of : (b : Bool) → (b && true) ≡ true → b ≡ true
      left_of true e = refl
      left_of false e = absurd cc

      by_case : (b : Bool) → is_among r.device devices ≡ b → Stands (record { time = time; change = Hit devices }) r
      by_case true among = rw among (reached_device devices (in_state Struck r), λ struck. ap (λ (x : PairRow). x.state) (reached_stays devices (in_state Struck r) refl))
      by_case false among = rw among (reached_device devices r, still)
        where
          still : (r.state ≡ Struck) ⊎ (false ≡ true) → (reached_row reach devices time r).state ≡ Struck
          still (inl struck) = ap (λ (x : PairRow). x.state) (reached_stays devices r struck) ∙ struck
          still (inr never) = absurd cc
  hit_stands at (MarkedHit devices) r is = absurd (no_other (at == time) is)
  hit_stands at (Reached devices) r is = absurd (no_other (at == time) is)
  hit_stands at (Mature device state) r is = absurd (no_other (at == time) is)
  hit_stands at (Break control) r is = absurd (no_other (at == time) is)

  -- Hits that stand, where each of these rows comes from the one before.
  abbrev AllStand : (after : List Timed) (r : PairRow) → Type 0
  AllStand after r = ((row_after reach after r).device ≡ r.device) × ((r.state ≡ Struck) ⊎ (0 < hit_count r.device after) → (row_after reach after r).state ≡ Struck)

  one_then : (t : Timed) (after : List Timed) (r : PairRow) → Stands t r → AllStand after (row_after_change reach t r) → AllStand (t ∷ after) r
  one_then t after r one rest = (rest.0 ∙ one.0, struck_then)
    where
      by_hit : (b : Bool) → hits r.device t ≡ b → 0 < hit_count r.device (t ∷ after) → (row_after reach (t ∷ after) r).state ≡ Struck
      by_hit true is some = rest.1 (inl (one.1 (inr is)))
      by_hit false is some = rest.1 (inr (subst (λ (n : ℕ). 0 < hit_count n after) (sym one.0) (omega (arith, some, sum_by-cons (λ x. cond (hits r.device x) 1 0) t after, ap {B = ℕ} (λ (b : Bool). cond b 1 0) is))))

      struck_then : (r.state ≡ Struck) ⊎ (0 < hit_count r.device (t ∷ after)) → (row_after reach (t ∷ after) r).state ≡ Struck
      struck_then (inl struck) = rest.1 (inl (one.1 (inl struck)))
      struck_then (inr some) = by_hit (hits r.device t) refl some

  all_stand : (after : List Timed) (r : PairRow) → list_all (is_hit_at time) after ≡ true → AllStand after r
  all_stand [] r are = (refl, done)
    where
      done : (r.state ≡ Struck) ⊎ (0 < hit_count r.device []) → r.state ≡ Struck
      done (inl struck) = struck
      done (inr some) = absurd (omega (arith, some))
  all_stand (t ∷ after) r are =
      let parts = and_parts (is_hit_at time t) (list_all (is_hit_at time) after) are in
      one_then t after r (hit_stands t.time t.change r parts.0) (all_stand after (row_after_change reach t r) parts.1)

  -- Of rows after hits, those are struck that the hits hold as often as a mark does, where the mark holds them.
  pub rows_stand : (marked after : List Timed) (rows : List PairRow) → list_all (is_hit_at time) after ≡ true → hits_stand marked after (map (row_after reach after) rows) ≡ true
      → All (λ r. 0 < hit_count r.device marked → r.state ≡ Struck) (map (row_after reach after) rows)
  rows_stand marked after [] are stand = All-nil (λ (r : PairRow). 0 < hit_count r.device marked → r.state ≡ Struck)
  rows_stand marked after (r ∷ rows) are stand =
      All-cons (λ (x : PairRow). 0 < hit_count x.device marked → x.state ≡ Struck) (row_after reach after r) (map (row_after reach after) rows) here (rows_stand marked after rows are parts.1)
    where
      parts : (let new = row_after reach after r in (nat_le (hit_count new.device marked) (hit_count new.device after) ≡ true) × (hits_stand marked after (map (row_after reach after) rows) ≡ true))
      parts = let new = row_after reach after r in and_parts (nat_le (hit_count new.device marked) (hit_count new.device after)) (hits_stand marked after (map (row_after reach after) rows)) stand

      here : 0 < hit_count (row_after reach after r).device marked → (row_after reach after r).state ≡ Struck
      here some =
          let one = all_stand after r are in
          let as_often = leb-true (hit_count (row_after reach after r).device marked) (hit_count (row_after reach after r).device after) parts.0 in
          one.1 (inr (subst (λ (n : ℕ). 0 < hit_count n after) one.0 (omega (arith, some, as_often))))

-- After the command each row whose device the mark hit is suspended by its device.
pub marked_rows_stand : (run : ScriptRun) (asked : Option Line) (l : Leg) (q : Point) (after : List Timed) → l.point.is_ended ≡ false → IsCommanding run asked l q after
    → All (λ r. 0 < hit_count r.device l.marked → r.state ≡ since ByDevice l.point.time) q.rows
marked_rows_stand run asked l q after goes commanding =
    let effect = commanding.active goes in
    let start = (commanded_point run commanding.line l.point).rows in
    let rows_are = effect.leads.leads.rows ∙ after_rows run.level after start in
    subst (λ (rows : List PairRow). All (λ r. 0 < hit_count r.device l.marked → r.state ≡ since ByDevice l.point.time) rows) (sym rows_are)
    (rows_stand (reach_of run.level start) l.point.time l.marked after start effect.leads.are_hits (subst (λ (rows : List PairRow). hits_stand l.marked after rows ≡ true) rows_are commanding.stand))
