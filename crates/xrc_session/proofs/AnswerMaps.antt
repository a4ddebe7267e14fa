-- What is mapped after a command, by what the rows owe.
use Rattle.std.proofs.Common.{◌≡◌, ◌⊎◌, inl, inr, ℕ, zero, suc, ◌+◌, ◌<◌, Bool, true, false, cond, nat_eq, ◌&&◌, ◌||◌, List, [], ◌∷◌, ◌++◌, map, refl, sym, ap, subst, ◌∙◌, arith, true≢false}
use Rattle.std.specs.Prelude.{◌==◌, fold}
use Rattle.std.specs.List.{All, Contains, list_all}
use Rattle.std.proofs.lemmas.Bool.{and_parts, eqb-true}
use Rattle.std.proofs.lemmas.List.Elements.{All-cons, All-contains, All-nil}
use Rattle.std.proofs.lemmas.List.Sums.{sum_by-cons}
use Rattle.crash_plant.specs.Moments.{PlantState}
use Rattle.pair_table.specs.declared.command.Change.{Change}
use Rattle.pair_table.specs.declared.command.Command.{Command}
use Rattle.pair_table.specs.declared.level.Level.{Level}
use Rattle.pair_table.specs.declared.row.PairRow.{PairRow}
use Rattle.pair_table.specs.declared.row.PairState.{PairState}
use Rattle.pair_table.specs.declared.row.SuspendCause.TheVariants.{Device as ByDevice}
use Rattle.pair_table.specs.Commands.{change_of, rows_after}
use Rattle.pair_table.specs.Devices.{is_among}
use Rattle.pair_table.specs.Naming.{Naming}
use Rattle.pair_table.specs.Refusals.{is_pair}
use Rattle.pair_table.specs.Tables.{in_state, is_of}
use Rattle.group_state.specs.Groups.{Group}
use Rattle.row_changes.specs.Changes.{RowChange, Timed, after_change, after_changes, hit_row, since}
use Rattle.row_changes.specs.Changes.RowChange.{Break, Hit, MarkedHit, Mature, Reached}
use Rattle.row_changes.specs.Spans.{hit_count, hits}
use Rattle.pair_table.specs.States.{is_device_suspended}
use Rattle.record_rows.specs.Records.{rows_with_hits}
use Rattle.record_rows.proofs.Counting.{once}
use Rattle.passages.specs.Points.{AreLinked}
use Rattle.site_store.specs.Sites.{SiteState}
use Rattle.consistency.specs.Stages.{ScriptRun, breaks_of}
use Rattle.consistency.specs.Leads.{MarkedHitsLead, Point, is_marked_at}
use Rattle.consistency.specs.Owing.{has_pair_in, is_same_state}
use Rattle.consistency.specs.Ways.{ComesNext, IsAtWork, IsCommanding, Leg, PassedPoint, Way, leg_after, leg_by}
use Rattle.consistency.specs.Ways.Way.{Commanded, Ending, MarkedFor, OnTheWay}
use Rattle.consistency.proofs.Hits.{no_other}
use Rattle.consistency.proofs.Marked.{marked_rows_stand}
use Rattle.mover.specs.Working.{LinesAsked}
use Rattle.xrc_session.specs.LinePauses.{GoesOnFrom, HasCut, site_point}
use Rattle.xrc_session.specs.Answering.{AreOfCommand}
use Rattle.xrc_session.specs.Answering.AreOfCommand.{OfCommand, OfEnd, AfterMark}
use Rattle.xrc_session.specs.Taking.{IsSoundForRows, MayTake, after_calls, calls_of_change}
use Rattle.xrc_session.specs.MapsOwed.{MapsOwed, MapsRest}
use Rattle.xrc_session.specs.MapsTaken.{PassesBy, SuspendsAt}
use Rattle.xrc_session.proofs.AnswerLegs.{comes_by}
use Rattle.xrc_session.proofs.CommandsSuspend.{commands_suspend}
use Rattle.xrc_session.proofs.MapsChanges.{maps_owed_after_changes}

-- ---- rows after the hits of a mark

module _ (z : PairRow) (state : PairState) where
  abbrev here_in : PairRow → Bool
  here_in r = is_of z.device r && is_pair z.primary z.secondary r && is_same_state state r.state

  -- Hits of other devices leave a row's pair as it is.
  hit_elsewhere : (devices : List ℕ) (time : ℕ) (rows : List PairRow) → is_among z.device devices ≡ false → has_pair_in z state (map (hit_row devices time) rows) ≡ has_pair_in z state rows
  hit_elsewhere devices time [] never = refl
  hit_elsewhere devices time (r ∷ rows) never = let rest = hit_elsewhere devices time rows never in λ i. one i || rest i
    where
      off : (a b c d : Bool) → a ≡ false → (a && b && c) ≡ (a && b && d)
      off true b c d is = absurd (true≢false is)
      off false b c d is = refl

      by_hit : (b : Bool) → nat_eq z.device r.device ≡ false → here_in (cond b (in_state (since ByDevice time) r) r) ≡ here_in r
      by_hit true other = off (nat_eq z.device r.device) (is_pair z.primary z.secondary r) (is_same_state state (since ByDevice time)) (is_same_state state r.state) other
      by_hit false other = refl

      by_device : (b : Bool) → nat_eq z.device r.device ≡ b → here_in (hit_row devices time r) ≡ here_in r
      by_device true same = ap (λ (b : Bool). here_in (cond b (in_state (since ByDevice time) r) r)) (ap (λ (d : ℕ). is_among d devices) (sym (eqb-true z.device r.device same)) ∙ never)
      by_device false other = by_hit (is_among r.device devices) other

      one : here_in (hit_row devices time r) ≡ here_in r
      one = by_device (nat_eq z.device r.device) refl

  none_first : (b : Bool) (n : ℕ) → once b + n ≡ 0 → (b ≡ false) × (n ≡ 0)
  none_first true n none = absurd (omega (arith, none))
  none_first false n none = (refl, omega (arith, none))

  marks_elsewhere : (level : Level) (time at : ℕ) (change : RowChange) (rows : List PairRow) → is_marked_at time (record { time = at; change = change }) ≡ true → hits z.device (record { time = at; change = change }) ≡ false
      → has_pair_in z state (after_change level (record { time = at; change = change }) rows) ≡ has_pair_in z state rows
  marks_elsewhere level time at (MarkedHit devices) rows is never = hit_elsewhere devices at rows never
  marks_elsewhere level time at (Hit devices) rows is never = absurd (no_other (at == time) is)
  marks_elsewhere level time at (Reached devices) rows is never = absurd (no_other (at == time) is)
  marks_elsewhere level time at (Mature device new) rows is never = absurd (no_other (at == time) is)
  marks_elsewhere level time at (Break control) rows is never = absurd (no_other (at == time) is)

  -- So do all hits of a mark, if none is of the row's device.
  all_elsewhere : (level : Level) (time : ℕ) (changes : List Timed) (rows : List PairRow) → list_all (is_marked_at time) changes ≡ true → hit_count z.device changes ≡ 0 → has_pair_in z state (after_changes level changes rows) ≡ has_pair_in z state rows
  all_elsewhere level time [] rows are none = refl
  all_elsewhere level time (t ∷ changes) rows are none =
      let parts = and_parts (is_marked_at time t) (list_all (is_marked_at time) changes) are in
      let first = none_first (hits z.device t) (hit_count z.device changes) (sym (sum_by-cons (λ (x : Timed). once (hits z.device x)) t changes) ∙ none) in
      all_elsewhere level time changes (after_change level t rows) parts.1 first.1 ∙ marks_elsewhere level time t.time t.change rows parts.0 first.0

-- ---- the points of a command

module _ (run : ScriptRun) (asked : LinesAsked) (number : ℕ) (hits_of : List Timed) (q : Point) (goes : q.is_ended ≡ false) where
  -- The session hasn't ended after the points.
  none_ends : (n m : PassedPoint) (own more : List Timed) (l : Leg) → m.way ≡ Ending number more → AreLinked (ComesNext run asked) leg_after l (n ∷ m ∷ []) → (leg_after (leg_after l n) m).point ≡ q → ⊥
  none_ends n m own more l ends linked at =
      let ending = (comes_by run asked (leg_after l n) m (Ending number more) ends linked.1.0).1 in
      let point = ap (λ (way : Way). (leg_by (leg_after l n) m.point way).point.is_ended) ends in
      true≢false (sym ending.ended ∙ sym point ∙ ap (λ (p : Point). p.is_ended) at ∙ goes)

  -- A row that its device doesn't suspend after the command wasn't hit in the mark before it.
  unmarked : (points : List PassedPoint) → AreOfCommand number hits_of points → (k : Leg) → AreLinked (ComesNext run asked) leg_after k points → (k.marked ≡ [] → ⊥) → k.point.is_ended ≡ false → (fold leg_after k points).point ≡ q
      → (z : PairRow) → Contains q.rows z → is_device_suspended z.state ≡ false → hit_count z.device k.marked ≡ 0
  unmarked _ (OfCommand n is) k linked some goes_there at z has unfailed = by_count (hit_count z.device k.marked) refl
    where
      commanding : IsCommanding run (asked number) k n.point hits_of
      commanding = (comes_by run asked k n (Commanded number hits_of) is linked.0).2

      point : n.point ≡ q
      point = sym (ap (λ (way : Way). (leg_by k n.point way).point) is) ∙ at

      stands : 0 < hit_count z.device k.marked → z.state ≡ since ByDevice k.point.time
      stands =
          All-contains (λ (r : PairRow). 0 < hit_count r.device k.marked → r.state ≡ since ByDevice k.point.time) n.point.rows z (marked_rows_stand run (asked number) k n.point hits_of goes_there commanding)
          (subst (λ (p : Point). Contains p.rows z) (sym point) has)

      by_count : (n : ℕ) → hit_count z.device k.marked ≡ n → n ≡ 0
      by_count zero is = refl
      by_count (suc n) is = absurd (true≢false (sym (ap is_device_suspended (stands (omega (arith, is)))) ∙ unfailed))
  unmarked _ (OfEnd n m own more is ends both) k linked some goes_there at z has unfailed = absurd (none_ends n m own more k ends linked at)
  unmarked _ (AfterMark n points by rest) k linked some goes_there at z has unfailed = absurd (some (at_work by).none_marked)
    where
      at_work : (n.way ≡ OnTheWay []) ⊎ ((marked : List Timed) × (n.way ≡ MarkedFor number marked)) → IsAtWork run asked k
      at_work (inl on_way) = (comes_by run asked k n (OnTheWay []) on_way linked.0).0
      at_work (inr marked) = (comes_by run asked k n (MarkedFor number marked.0) marked.1 linked.0).1

  -- A point of a mark: by its hits devices alone suspend rows.
  abbrev IsMark : (rows : List PairRow) → PassedPoint → Type 0
  IsMark rows n = (z : PairRow) (state : PairState) → Contains q.rows z → is_device_suspended z.state ≡ false → has_pair_in z state n.point.rows ≡ has_pair_in z state rows

  marked_hits : (l : Leg) (n : PassedPoint) (marked : List Timed) → MarkedHitsLead run.level (breaks_of run) l.point n.point marked → ((z : PairRow) → Contains q.rows z → is_device_suspended z.state ≡ false → hit_count z.device marked ≡ 0) → IsMark l.point.rows n
  marked_hits l n marked leads none z state has unfailed = ap (has_pair_in z state) leads.leads.rows ∙ all_elsewhere z state run.level l.point.time marked l.point.rows leads.are_marked (none z has unfailed)

  -- The points of a command after a leg with these rows: marks, and that of its record.
  record Passes (rows : List PairRow) (points : List PassedPoint) : Type 0 where
    marks : List PassedPoint
    last : PassedPoint
    are : points ≡ marks ++ last ∷ []
    rows_last : last.point.rows ≡ q.rows
    marked : All (IsMark rows) marks

  passes_on : (rows : List PairRow) (n : PassedPoint) (points : List PassedPoint) → IsMark rows n → Passes rows points → Passes rows (n ∷ points)
  passes_on rows n points mark more = record {
    marks = n ∷ more.marks;
    last = more.last;
    are = ap (λ (l : List PassedPoint). n ∷ l) more.are;
    rows_last = more.rows_last;
    marked = All-cons (IsMark rows) n more.marks mark more.marked;
  }

  passes : (points : List PassedPoint) → AreOfCommand number hits_of points → (l : Leg) → AreLinked (ComesNext run asked) leg_after l points → (fold leg_after l points).point ≡ q → Passes l.point.rows points
  passes _ (OfCommand n is) l linked at = record {
    marks = [];
    last = n;
    are = refl;
    rows_last = ap (λ (p : Point). p.rows) (sym (ap (λ (way : Way). (leg_by l n.point way).point) is) ∙ at);
    marked = All-nil (IsMark l.point.rows);
  }
  passes _ (OfEnd n m own more is ends both) l linked at = absurd (none_ends n m own more l ends linked at)
  passes _ (AfterMark n points by rest) l linked at = by_way by (passes points rest (leg_after l n) linked.1 at)
    where
      onward : (leg_after l n).point.rows ≡ l.point.rows → IsMark l.point.rows n → Passes (leg_after l n).point.rows points → Passes l.point.rows (n ∷ points)
      onward same mark later = passes_on l.point.rows n points mark (subst (λ (rows : List PairRow). Passes rows points) same later)

      by_way : (n.way ≡ OnTheWay []) ⊎ ((marked : List Timed) × (n.way ≡ MarkedFor number marked)) → Passes (leg_after l n).point.rows points → Passes l.point.rows (n ∷ points)
      by_way (inl on_way) =
          let rows : n.point.rows ≡ l.point.rows = (comes_by run asked l n (OnTheWay []) on_way linked.0).1.leads.rows in
          onward (ap (λ (way : Way). (leg_by l n.point way).point.rows) on_way ∙ rows) (λ z state has unfailed. ap (has_pair_in z state) rows)
      by_way (inr (marked, way)) =
          let comes = comes_by run asked l n (MarkedFor number marked) way linked.0 in
          let marked_is : (leg_after l n).marked ≡ marked = ap (λ (w : Way). (leg_by l n.point w).marked) way in
          let point_is : (leg_after l n).point ≡ l.point = ap (λ (w : Way). (leg_by l n.point w).point) way in
          onward (ap (λ (p : Point). p.rows) point_is)
          (marked_hits l n marked comes.2.leads (λ z has unfailed.
          ap (hit_count z.device) (sym marked_is)
          ∙ unmarked points rest (leg_after l n) linked.1 (λ none. comes.2.some (sym marked_is ∙ none)) (ap (λ (p : Point). p.is_ended) point_is ∙ comes.1.goes_on) at z has unfailed))

  -- A command passes them.
  pub command_passes : (p : Point) (points : List PassedPoint) → AreOfCommand number hits_of points → (l : Leg) → l.point.rows ≡ p.rows → AreLinked (ComesNext run asked) leg_after l points → (fold leg_after l points).point ≡ q → PassesBy p q points
  command_passes p points of l rows linked at =
      let found : Passes p.rows points = subst (λ (r : List PairRow). Passes r points) rows (passes points of l linked at) in
      record {
        marks = found.marks;
        last = found.last;
        are = found.are;
        rows = found.rows_last;
        marked = λ n z state among has unfailed. All-contains (IsMark p.rows) found.marks n found.marked among z state has unfailed;
      }

-- ---- the maps

-- After a command whose change was taken over the maps have what suspended rows owe, if they did before it.
pub maps_after_command : (run : ScriptRun) (asked : LinesAsked) (l : Leg) (first : Point) (points more : List PassedPoint) (number : ℕ) (hits : List Timed) (names : Naming) (command : Command) (change : Change) (was next : SiteState) (old : PlantState) (g : Group)
    (time : ℕ) (level : Level) (failed : List Bool) → GoesOnFrom run first points was old g → HasCut was.time g → l.point ≡ site_point was → IsSoundForRows g was.told → MayTake g change was.told next.told
    → change_of names command was.told ≡ change → was.time ≡ time → next.time ≡ time → next.mark.ended ≡ false → next.told ≡ rows_with_hits level time failed (rows_after names time command was.told)
    → AreOfCommand number hits more → AreLinked (ComesNext run asked) leg_after l more → (fold leg_after l more).point ≡ site_point next
    → let taken = after_calls (calls_of_change change g was.told next.told) g in MapsOwed run first (points ++ more) (site_point next) taken × MapsRest (site_point next) taken
maps_after_command run asked l first points more number hits names command change was next old g time level failed on cut here kept take made at then goes are by linked there =
    maps_owed_after_changes run first points more (site_point was) (site_point next) g change kept take (then ∙ sym at)
    (subst (λ (n : ℕ). SuspendsAt n change was.told next.told) (sym at) (commands_suspend names time g was.told next.told kept.apart command change level failed made take are))
    on.last (command_passes run asked number hits (site_point next) goes (site_point was) more by l (ap (λ (p : Point). p.rows) here) linked there) on.maps_rest cut on.maps
