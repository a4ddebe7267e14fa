-- Points on the way to a line's time, of its command, and of the end: each may be meant.
use Rattle.std.proofs.Common.{◌≡◌, ◌⊎◌, inl, inr, ℕ, ◌≤◌, Bool, true, false, not, ◌&&◌, List, ◌++◌, Option, Some, None, refl, sym, ap, subst, ◌∙◌, append_assoc, arith}
use Rattle.std.specs.Prelude.{is_none}
use Rattle.std.specs.List.{list_all}
use Rattle.tod_stamp.specs.declared.stamp.Stamp.{Stamp}
use Rattle.pair_table.specs.declared.command.Command.{Command}
use Rattle.pair_table.specs.declared.command.Command.TheVariants.{Start, AddPair, DelPair, Suspend, Query, End}
use Rattle.pair_table.specs.declared.row.PairRow.{PairRow}
use Rattle.pair_table.specs.Tables.{Table}
use Rattle.row_changes.specs.Changes.{Due, Timed, after_changes, may_all_come, may_end}
use Rattle.row_changes.specs.Changes.Due.{NoneDue}
use Rattle.row_changes.specs.Spans.{AreCounted, Toward, all_broke, is_hit_at}
use Rattle.pair_table.specs.States.{is_settled}
use Rattle.xrc_command.specs.declared.line.Line.{Line}
use Rattle.consistency.specs.Stages.{AreAfterLine, AreOnTheWay, IsTime, ScriptRun, Stage, accepts_end, breaks_of, names_of}
use Rattle.consistency.specs.Steps.{IsCommanded, IsLineStep, commanded, is_active, table_after_line, table_on_the_way}
use Rattle.consistency.specs.Bearing.{MayBeMeant}
use Rattle.consistency.specs.Leads.{HitsLead, Point, may_rest}
use Rattle.consistency.specs.Ways.{IsCommanding, IsEnding, IsLegOf, IsMarking, IsOnTheWay, Leg, TakesEffect, commanded_point, going_on, leg_at, leg_by, leg_to, table_at, stage_point}
use Rattle.consistency.specs.Ways.Way.{MarkedFor}
use Rattle.consistency.proofs.Hits.{hits_leave_none, hits_on, marks_rest}
use Rattle.consistency.proofs.Leading.{comes_all, hits_whole, leads_on, leads_rise, leads_toward, whole_itself}

-- ---- legs

-- A leg begins at the point of a stage of a started session.
pub leg_begins : (run : ScriptRun) (s : Stage) (answered : ℕ) → s.table ≡ table_at run (stage_point s) → IsLegOf run s (leg_at s answered)
leg_begins run s answered table = record { table = table; replied = refl; whole = whole_itself run.level (breaks_of run) (stage_point s); counted = λ device. omega arith }

-- It comes to each point on the way.
pub leg_goes_on : (run : ScriptRun) (s : Stage) (l : Leg) (q : Point) (changes : List Timed) → IsLegOf run s l → IsOnTheWay run l q changes → IsLegOf run s (leg_to l q changes)
leg_goes_on run s l q changes leg way = record {
  table = leg.table;
  replied = leg.replied;
  whole = record {
    leads = leads_on run.level (breaks_of run) (stage_point s) l.point q l.changes changes leg.whole.leads way.leads;
    broken = subst (λ (n : ℕ). all_broke n q.time 0 (breaks_of run) (l.changes ++ changes) ≡ true) leg.replied way.broken;
  };
  counted = leg.counted;
}

-- Hits at its point's time leave it a leg.
pub leg_is_hit : (run : ScriptRun) (s : Stage) (l : Leg) (q : Point) (hits : List Timed) → IsLegOf run s l → HitsLead run.level (breaks_of run) l.point q hits → IsLegOf run s (leg_to l q hits)
leg_is_hit run s l q hits leg hit = record { table = leg.table; replied = leg.replied; whole = hits_whole run.level (breaks_of run) (stage_point s) l.point q l.changes hits leg.whole hit.at hit.leads; counted = leg.counted }

-- So it does after a mark that a command's record needs first.
pub leg_is_marked : (run : ScriptRun) (s : Stage) (l : Leg) (q : Point) (number : ℕ) (hits : List Timed) → IsLegOf run s l → IsLegOf run s (leg_by l q (MarkedFor number hits))
leg_is_marked run s l q number hits leg = record { table = leg.table; replied = leg.replied; whole = leg.whole; counted = leg.counted }

-- ---- the end

-- An end is accepted alike with any rows.
end_alike : (run : ScriptRun) (p q : Point) (c : Command) (time : Stamp) (session : List ℕ) → p.is_ended ≡ q.is_ended → accepts_end run (table_at run p) (Some (record { time = time; session = session; command = c })) ≡ true
    → accepts_end run (table_at run q) (Some (record { time = time; session = session; command = c })) ≡ true
end_alike run p q End time session same accepted = subst (λ (e : Bool). accepts_end run (table_at run (record q { is_ended = e })) (Some (record { time = time; session = session; command = End })) ≡ true) same accepted
end_alike run p q (Start level) time session same accepted = absurd cc
end_alike run p q (AddPair primary secondary group) time session same accepted = absurd cc
end_alike run p q (DelPair choice) time session same accepted = absurd cc
end_alike run p q (Suspend choice) time session same accepted = absurd cc
end_alike run p q Query time session same accepted = absurd cc

pub ends_alike : (run : ScriptRun) (p q : Point) (next : Option Line) → p.is_ended ≡ q.is_ended → accepts_end run (table_at run p) next ≡ true → accepts_end run (table_at run q) next ≡ true
ends_alike run p q None same accepted = absurd cc
ends_alike run p q (Some line) same accepted = end_alike run p q line.command line.time line.session same accepted

-- ---- what may be meant

module _ (run : ScriptRun) (s : Stage) (goes : s.table.is_ended ≡ false) where
  abbrev Rows : (time : ℕ) → List PairRow → Bool → Type 0
  Rows time rows e = elim e [ true ↦ rows ≡ s.table.rows | false ↦ AreOnTheWay run s time rows ⊎ AreAfterLine run s time rows ]

  -- A point that a leg has come to may be meant.
  pub leg_may_be_meant : (l : Leg) → IsLegOf run s l → IsTime s l.point.time → AreCounted run.rises (s.past ++ l.changes) → may_rest (not (is_none s.next)) l.point ≡ true → MayBeMeant run s l.point
  leg_may_be_meant l leg in_time counted rests = record {
    ended = inr leg.whole.leads.goes_on;
    in_time = in_time;
    rows = subst (Rows l.point.time l.point.rows) (sym goes) (inl (record {
      changes = l.changes;
      toward = leads_toward run.level (breaks_of run) (not (is_none s.next)) (stage_point s) l.point l.changes refl rests leg.whole;
      counted = counted;
      made = leg.whole.leads.rows;
    }));
  }

  -- ---- a command

  module _ (l : Leg) (leg : IsLegOf run s l) (line : Line) (q : Point) (hits : List Timed) (effect : TakesEffect run line l q hits) where
    -- The table that the command finds is the one on the way.
    pub table_there : table_at run l.point ≡ table_on_the_way run.level l.changes s.table
    table_there =
        ap (λ (r : List PairRow). table_at run (record l.point { rows = r })) leg.whole.leads.rows
        ∙ ap (λ (e : Bool). table_at run (record l.point { rows = after_changes run.level l.changes s.table.rows; is_ended = e })) leg.whole.leads.goes_on
        ∙ sym (ap (λ (x : Table). record x { rows = after_changes run.level l.changes s.table.rows }) leg.table)

    none_due : may_end false l.point.time l.point.due ≡ true
    none_due = subst (λ (d : Due). may_end false l.point.time d ≡ true) (sym effect.may.none_due) refl

    pub at_end : q.due ≡ NoneDue
    at_end = hits_leave_none run.level (breaks_of run) l.point.due q.due l.point.time l.point.time q.time (commanded_point run line l.point).rows hits effect.may.none_due effect.leads.are_hits effect.leads.leads.may_come

    hits_come : may_all_come run.level (breaks_of run) false l.point.due l.point.time q.time (commanded_point run line l.point).rows hits ≡ true
    hits_come = comes_all run.level (breaks_of run) false l.point.due q.due l.point.time q.time (commanded_point run line l.point).rows hits
        (subst (λ (d : Due). may_end false q.time d ≡ true) (sym at_end) refl) effect.leads.leads.may_come

    pub ends_there : q.time ≡ line.time.0
    ends_there = effect.leads.at ∙ effect.may.at

    pub is_commanded : IsCommanded run.level (breaks_of run) (names_of run) s.replied s.table line l.changes hits
    is_commanded = record {
      toward = subst (λ (n : ℕ). Toward run.level (breaks_of run) false s.replied n s.table.rows l.changes) effect.may.at
          (leads_toward run.level (breaks_of run) false (stage_point s) l.point l.changes refl none_due leg.whole);
      not_broken_yet = effect.may.not_broken_yet;
      settled = subst (λ (r : List PairRow). list_all (λ r. is_settled r.state) r ≡ true) leg.whole.leads.rows effect.may.settled;
      are_hits = subst (λ (n : ℕ). list_all (is_hit_at n) hits ≡ true) effect.may.at effect.leads.are_hits;
      may_come =
          subst (λ (x : Table). may_all_come run.level (breaks_of run) false NoneDue line.time.0 line.time.0 (commanded (breaks_of run) (names_of run) x line).rows hits ≡ true) table_there
          (subst (λ (n : ℕ). may_all_come run.level (breaks_of run) false NoneDue n line.time.0 (commanded_point run line l.point).rows hits ≡ true) effect.may.at
          (subst (λ (n : ℕ). may_all_come run.level (breaks_of run) false NoneDue l.point.time n (commanded_point run line l.point).rows hits ≡ true) ends_there
          (subst (λ (d : Due). may_all_come run.level (breaks_of run) false d l.point.time q.time (commanded_point run line l.point).rows hits ≡ true) effect.may.none_due hits_come)));
    }

    -- The rows of the point are those of the line.
    pub rows_of_line : q.rows ≡ (table_after_line run.level (breaks_of run) (names_of run) s.table line l.changes hits).rows
    rows_of_line = effect.leads.leads.rows ∙ ap (λ (x : Table). after_changes run.level hits (commanded (breaks_of run) (names_of run) x line).rows) table_there

    pub after_line : s.next ≡ Some line → AreCounted run.rises (s.past ++ l.changes ++ hits) → AreAfterLine run s q.time q.rows
    after_line heard counted = record { line = line; heard = heard; at = ends_there; changes = l.changes; hits = hits; commanded = is_commanded; counted = counted; made = rows_of_line }

    pub in_time_there : s.next ≡ Some line → IsTime s q.time
    in_time_there heard = (omega (arith, leads_rise run.level (breaks_of run) (stage_point s) l.point l.changes leg.whole.leads, effect.leads.at), timed s.next heard)
      where
        timed : (n : Option Line) → n ≡ Some line → (let T : Type 0 = elim n [ None ↦ q.time ≡ s.replied | Some m ↦ elim s.table.is_ended [ true ↦ q.time ≡ s.replied | false ↦ q.time ≤ m.time.0 ] ] in T)
        timed None is = absurd cc
        timed (Some m) is =
            let same : m ≡ line = cc in
            subst (λ (e : Bool). let T : Type 0 = elim e [ true ↦ q.time ≡ s.replied | false ↦ q.time ≤ m.time.0 ] in T) (sym goes) (omega (arith, ends_there, ap (λ (x : Line). x.time.0) same))

    -- The line is a step from the stage.
    pub is_step : IsLineStep run.level (breaks_of run) (names_of run) s.replied s.table line l.changes hits (table_after_line run.level (breaks_of run) (names_of run) s.table line l.changes hits)
    is_step = record {
      active = λ on. is_commanded;
      still = λ off. absurd (differ (is_active s.table) on_now off);
      made = refl;
    }
      where
        on_now : is_active s.table ≡ true
        on_now = ap (λ (x : Table). x.is_started && not s.table.is_ended) leg.table ∙ ap not goes

        differ : (b : Bool) → b ≡ true → b ≡ false → ⊥
        differ true on off = cc
        differ false on off = cc

  -- The leg's session goes on.
  pub leg_goes : (l : Leg) → IsLegOf run s l → l.point.is_ended ≡ false
  leg_goes l leg = leg.whole.leads.goes_on ∙ goes

  -- The point of the next line's command may be meant.
  pub command_may_be_meant : (l : Leg) (q : Point) (hits : List Timed) → IsLegOf run s l → IsCommanding run s.next l q hits → AreCounted run.rises (s.past ++ l.changes ++ hits) → MayBeMeant run s q
  command_may_be_meant l q hits leg commanding counted =
      let effect = commanding.active (leg_goes l leg) in
      record {
        ended = inr (effect.leads.leads.goes_on ∙ leg.whole.leads.goes_on);
        in_time = in_time_there l leg commanding.line q hits effect commanding.heard;
        rows = subst (Rows q.time q.rows) (sym goes) (inr (after_line l leg commanding.line q hits effect commanding.heard counted));
      }

  -- The line is a step, to the rows of that point.
  pub command_is_step : (l : Leg) (q : Point) (hits : List Timed) → IsLegOf run s l → (c : IsCommanding run s.next l q hits)
      → (let new = table_after_line run.level (breaks_of run) (names_of run) s.table c.line l.changes hits in IsLineStep run.level (breaks_of run) (names_of run) s.replied s.table c.line l.changes hits new × (q.rows ≡ new.rows))
  command_is_step l q hits leg commanding =
      let effect = commanding.active (leg_goes l leg) in
      (is_step l leg commanding.line q hits effect, rows_of_line l leg commanding.line q hits effect)

  -- ---- a mark that a command's record needs

  -- The time of a leg's point may be that of devices, where the next line's command may take effect there.
  time_there : (l : Leg) → IsLegOf run s l → (line : Line) → s.next ≡ Some line → l.point.time ≡ line.time.0 → (q : Point) → q.time ≡ l.point.time → IsTime s q.time
  time_there l leg line heard at q same = (omega (arith, leads_rise run.level (breaks_of run) (stage_point s) l.point l.changes leg.whole.leads, same), timed s.next heard)
    where
      timed : (n : Option Line) → n ≡ Some line → (let T : Type 0 = elim n [ None ↦ q.time ≡ s.replied | Some m ↦ elim s.table.is_ended [ true ↦ q.time ≡ s.replied | false ↦ q.time ≤ m.time.0 ] ] in T)
      timed None is = absurd cc
      timed (Some m) is =
          let line_is : m ≡ line = cc in
          subst (λ (e : Bool). let T : Type 0 = elim e [ true ↦ q.time ≡ s.replied | false ↦ q.time ≤ m.time.0 ] in T) (sym goes) (omega (arith, at, same, ap (λ (x : Line). x.time.0) line_is))

  -- The point of the mark may be meant: the others that are due wait for the record.
  pub mark_may_be_meant : (l : Leg) (q : Point) (hits : List Timed) → IsLegOf run s l → IsMarking run s.next l q hits → AreCounted run.rises (s.past ++ l.changes ++ hits) → MayBeMeant run s q
  mark_may_be_meant l q hits leg marking counted =
      let whole = hits_whole run.level (breaks_of run) (stage_point s) l.point q l.changes hits leg.whole marking.leads.at marking.leads.leads in
      let come : IsLegOf run s (leg_to l q hits) = record { table = leg.table; replied = leg.replied; whole = whole; counted = leg.counted } in
      leg_may_be_meant (leg_to l q hits) come (time_there l leg marking.line marking.heard marking.may.at q marking.leads.at) (subst (λ (x : List Timed). AreCounted run.rises x) (append_assoc s.past l.changes hits) counted)
      (ap (λ (o : Option Line). may_rest (not (is_none o)) q) marking.heard ∙ marks_rest run.level (breaks_of run) l.point q hits marking.may.none_due marking.leads)

  -- ---- the end

  -- Hits after a command's point are hits after the command.
  pub effect_is_hit : (line : Line) (l : Leg) (q r : Point) (hits more : List Timed) → TakesEffect run line l q hits → HitsLead run.level (breaks_of run) q r more → TakesEffect run line l r (hits ++ more)
  effect_is_hit line l q r hits more effect hit = record {
    may = effect.may;
    leads = hits_on run.level (breaks_of run) (commanded_point run line l.point) q r hits more effect.leads hit;
  }

  -- The end after the command's point may be meant.
  pub ending_may_be_meant : (l : Leg) (q r : Point) (hits more : List Timed) → IsLegOf run s l → IsCommanding run s.next l q hits → IsEnding run s.next q r more → AreCounted run.rises (s.past ++ l.changes ++ (hits ++ more)) → MayBeMeant run s r
  ending_may_be_meant l q r hits more leg commanding ending counted =
      let effect = commanding.active (leg_goes l leg) in
      let whole = effect_is_hit commanding.line l q (going_on r) hits more effect ending.leads in
      let not_ended : q.is_ended ≡ (stage_point s).is_ended = effect.leads.leads.goes_on ∙ leg.whole.leads.goes_on in
      record {
        ended = inl (subst (λ (x : Table). accepts_end run x s.next ≡ true) (sym leg.table) (ends_alike run q (stage_point s) s.next not_ended ending.accepted));
        in_time = in_time_there l leg commanding.line (going_on r) (hits ++ more) whole commanding.heard;
        rows = subst (Rows r.time r.rows) (sym goes) (inr (after_line l leg commanding.line (going_on r) (hits ++ more) whole commanding.heard counted));
      }

-- Once the session has ended its one point may be meant, whatever is heard.
pub ended_may_be_meant : (run : ScriptRun) (s : Stage) → s.table.is_ended ≡ true → MayBeMeant run s (stage_point s)
ended_may_be_meant run s ended = record {
  ended = inr refl;
  in_time = (omega arith, timed s.next);
  rows = subst (λ (e : Bool). let T : Type 0 = elim e [ true ↦ s.table.rows ≡ s.table.rows | false ↦ AreOnTheWay run s s.replied s.table.rows ⊎ AreAfterLine run s s.replied s.table.rows ] in T) (sym ended) refl;
}
  where
    timed : (n : Option Line) → (let T : Type 0 = elim n [ None ↦ s.replied ≡ s.replied | Some m ↦ elim s.table.is_ended [ true ↦ s.replied ≡ s.replied | false ↦ s.replied ≤ m.time.0 ] ] in T)
    timed None = refl
    timed (Some m) = subst (λ (e : Bool). let T : Type 0 = elim e [ true ↦ s.replied ≡ s.replied | false ↦ s.replied ≤ m.time.0 ] in T) (sym ended) refl
