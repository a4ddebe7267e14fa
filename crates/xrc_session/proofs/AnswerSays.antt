-- What the reply to a line says, by the points of the line.
use Rattle.std.proofs.Common.{◌≡◌, ◌⊎◌, inl, inr, ℕ, ◌==◌, Bool, true, false, cond, ◌&&◌, ◌||◌, List, [], ◌∷◌, ◌++◌, Option, Some, None, Result, Err, refl, sym, ap, subst, ◌∙◌, true≢false}
use Rattle.std.specs.Prelude.{bytes_eq, count_by, fold}
use Rattle.std.specs.List.{All, list_any, range_with_len}
use Rattle.std.proofs.lemmas.Bool.{and_from, eq-eqb, eqb-true}
use Rattle.std.proofs.lemmas.List.Elements.{All-cons, All-head, All-nil, All-tail}
use Rattle.std.proofs.lemmas.Slice.Eq.{bytes_eq-Decides}
use Rattle.pair_table.specs.declared.command.Change.{Change}
use Rattle.pair_table.specs.declared.command.Command.{Command}
use Rattle.pair_table.specs.declared.command.Command.TheVariants.{Start, AddPair, DelPair, Suspend, Query, End}
use Rattle.pair_table.specs.declared.command.Refusal.{Refusal}
use Rattle.pair_table.specs.declared.command.Refusal.TheVariants.{Ended}
use Rattle.pair_table.specs.declared.row.PairRow.{PairRow}
use Rattle.pair_table.specs.declared.row.PairState.{PairState}
use Rattle.pair_table.specs.declared.row.PairState.TheVariants.{Pending, Copy, Duplex, Suspended}
use Rattle.pair_table.specs.Commands.{answer, is_end}
use Rattle.pair_table.specs.Naming.{Naming}
use Rattle.pair_table.specs.Refusals.{is_of_primary, is_pair, row_of_primary}
use Rattle.pair_table.specs.Rows.{is_suspended, state_numbers}
use Rattle.pair_table.specs.Tables.{Table, is_of, none_clash}
use Rattle.passages.specs.Points.{AreLinked}
use Rattle.row_changes.specs.Changes.{Timed, after_changes}
use Rattle.xrc_command.specs.declared.line.Line.{Line}
use Rattle.consistency.specs.Answering.{is_command_of, points_before, tracks_of_command}
use Rattle.consistency.specs.Stages.{ScriptRun, Stage, accepts, accepts_end, tracks_of_row}
use Rattle.consistency.specs.Leads.{Point}
use Rattle.consistency.specs.Owing.{has_pair_in, is_same_state, owes_in, owes_track, tracks_asked, was_duplex}
use Rattle.consistency.specs.Replying.{said_tracks}
use Rattle.consistency.specs.Steps.{table_on_the_way}
use Rattle.consistency.specs.Ways.{ComesBy, ComesNext, IsLegOf, Leg, PassedPoint, Way, leg_after, leg_by, table_at}
use Rattle.consistency.specs.Ways.Way.{Commanded, MarkedFor, OnTheWay}
use Rattle.mover.specs.Working.{LinesAsked}
use Rattle.mover.proofs.Pairs.{Among}
use Rattle.mover.proofs.Pairs.Among.{Here, Later}
use Rattle.xrc_session.specs.Answering.{AreOfCommand}
use Rattle.xrc_session.specs.Answering.AreOfCommand.{OfCommand, OfEnd, AfterMark}
use Rattle.xrc_session.proofs.AnswerRows.{one_of_device}
use Rattle.xrc_session.proofs.Walking.{found_in}

-- ---- the table that a command finds

-- It is that of the leg's point.
pub table_of_leg : (run : ScriptRun) (stage : Stage) (l : Leg) → IsLegOf run stage l → table_at run l.point ≡ table_on_the_way run.level l.changes stage.table
table_of_leg run stage l leg =
    ap (λ (r : List PairRow). table_at run (record l.point { rows = r })) leg.whole.leads.rows
    ∙ ap (λ (e : Bool). table_at run (record l.point { rows = after_changes run.level l.changes stage.table.rows; is_ended = e })) leg.whole.leads.goes_on
    ∙ sym (ap (λ (x : Table). record x { rows = after_changes run.level l.changes stage.table.rows }) leg.table)

-- Once a session has ended each command is refused for it.
pub ended_answer : (names : Naming) (table : Table) (session : List ℕ) (command : Command) → table.is_ended ≡ true → answer names table session command ≡ Err Ended
ended_answer names table session command ended = rw ended refl

-- ---- an end

pub no_end : (run : ScriptRun) (table : Table) (line : Line) → is_end line.command ≡ false → accepts_end run table (Some line) ≡ false
no_end run table line none = by_flag (is_end line.command) none
  where
    by_flag : (b : Bool) → b ≡ false → (let a : Bool = elim b [ true ↦ accepts run table line | false ↦ false ] in a) ≡ false
    by_flag true none = absurd (true≢false none)
    by_flag false none = refl

pub refused_end : (run : ScriptRun) (table : Table) (line : Line) → accepts run table line ≡ false → accepts_end run table (Some line) ≡ false
refused_end run table line none = by_flag (is_end line.command)
  where
    by_flag : (b : Bool) → (let a : Bool = elim b [ true ↦ accepts run table line | false ↦ false ] in a) ≡ false
    by_flag true = none
    by_flag false = refl

pub accepted_end : (run : ScriptRun) (table : Table) (line : Line) → is_end line.command ≡ true → accepts run table line ≡ true → accepts_end run table (Some line) ≡ true
accepted_end run table line is accepted = by_flag (is_end line.command) is
  where
    by_flag : (b : Bool) → b ≡ true → (let a : Bool = elim b [ true ↦ accepts run table line | false ↦ false ] in a) ≡ true
    by_flag true is = accepted
    by_flag false is = absurd (true≢false (sym is))

-- ---- tracks

-- A refusal says no tracks.
refused_tracks : (command : Command) (why : Refusal) (a b : ℕ) → said_tracks command (Err why) a ≡ said_tracks command (Err why) b
refused_tracks (Start level) why a b = refl
refused_tracks (AddPair primary secondary group) why a b = refl
refused_tracks (DelPair choice) why a b = refl
refused_tracks (Suspend choice) why a b = refl
refused_tracks Query why a b = refl
refused_tracks End why a b = refl

pub refused_tells : (command : Command) (answered : Result Change Refusal) (why : Refusal) → answered ≡ Err why → (a b : ℕ) → said_tracks command answered a ≡ said_tracks command (Err why) b
refused_tells command answered why is a b = ap (λ (r : Result Change Refusal). said_tracks command r a) is ∙ refused_tracks command why a b

folds_on : {A B : Type 0} (f : B → A → B) (b : B) (xs ys : List A) → fold f b (xs ++ ys) ≡ fold f (fold f b xs) ys
folds_on f b [] ys = refl
folds_on f b (x ∷ xs) ys = folds_on f (f b x) xs ys

module _ (row : PairRow) (rows : List PairRow) (among : Among row rows) (apart : none_clash rows ≡ true) (suspended : is_suspended row.state ≡ true) where
  -- The row's pair stands among the rows as it is, and not duplex.
  not_duplex : (state : PairState) → is_suspended state ≡ true → is_same_state Duplex state ≡ false
  not_duplex Pending is = absurd (true≢false (sym is))
  not_duplex Copy is = absurd (true≢false (sym is))
  not_duplex Duplex is = absurd (true≢false (sym is))
  not_duplex (Suspended cause since) is = refl

  same_state : (state : PairState) → is_same_state state state ≡ true
  same_state state =
      and_from ((state_numbers state).0 == (state_numbers state).0 && (state_numbers state).1 == (state_numbers state).1) ((state_numbers state).2 == (state_numbers state).2)
      (and_from ((state_numbers state).0 == (state_numbers state).0) ((state_numbers state).1 == (state_numbers state).1) (eq-eqb (state_numbers state).0 (state_numbers state).0 refl) (eq-eqb (state_numbers state).1 (state_numbers state).1 refl))
      (eq-eqb (state_numbers state).2 (state_numbers state).2 refl)

  abbrev pub test_in : PairState → PairRow → Bool
  test_in state r = is_of row.device r && is_pair row.primary row.secondary r && is_same_state state r.state

  none_duplex : (all : List PairRow) → ((r : PairRow) → Among r all → Among r rows) → list_any (test_in Duplex) all ≡ false
  none_duplex [] are = refl
  none_duplex (r ∷ all) are = ap (λ (b : Bool). b || list_any (test_in Duplex) all) (by_device (is_of row.device r) refl) ∙ none_duplex all (λ s there. are s (Later r all there))
    where
      off : (a : Bool) → (a && false) ≡ false
      off true = refl
      off false = refl

      by_device : (b : Bool) → is_of row.device r ≡ b → ((b && is_pair row.primary row.secondary r) && is_same_state Duplex r.state) ≡ false
      by_device false is = refl
      by_device true is =
          let same : row ≡ r = one_of_device row r rows apart among (are r (Here all)) (eqb-true row.device r.device is) in
          ap (λ (b : Bool). is_pair row.primary row.secondary r && b) (ap (λ (s : PairRow). is_same_state Duplex s.state) (sym same) ∙ not_duplex row.state suspended) ∙ off (is_pair row.primary row.secondary r)

  as_now : (all : List PairRow) → Among row all → list_any (test_in row.state) all ≡ true
  as_now _ (Here all) = ap (λ (b : Bool). b || list_any (test_in row.state) all)
      (and_from (is_of row.device row && is_pair row.primary row.secondary row) (is_same_state row.state row.state)
      (and_from (is_of row.device row) (is_pair row.primary row.secondary row) (eq-eqb row.device row.device refl)
      (and_from (bytes_eq row.primary row.primary) (bytes_eq row.secondary row.secondary) ((bytes_eq-Decides row.primary row.primary).1 refl) ((bytes_eq-Decides row.secondary row.secondary).1 refl)))
      (same_state row.state))
  as_now _ (Later s all there) = ap (λ (b : Bool). test_in row.state s || b) (as_now all there) ∙ on (test_in row.state s)
    where
      on : (a : Bool) → (a || true) ≡ true
      on true = refl
      on false = refl

  one_more : (rows_there : List PairRow) (was : Bool) → rows_there ≡ rows → (has_pair_in row Duplex rows_there || (has_pair_in row row.state rows_there && was)) ≡ was
  one_more rows_there was same = (λ i. has_pair_in row Duplex (same i) || (has_pair_in row row.state (same i) && was)) ∙ (λ i. none_duplex rows (λ r there. there) i || (as_now rows among i && was))

  still_so : (points : List PassedPoint) (was : Bool) → All (λ n. n.point.rows ≡ rows) points → fold (λ w n. has_pair_in row Duplex n.point.rows || (has_pair_in row row.state n.point.rows && w)) was points ≡ was
  still_so [] was same = refl
  still_so (n ∷ points) was same =
      ap (λ (w : Bool). fold (λ w m. has_pair_in row Duplex m.point.rows || (has_pair_in row row.state m.point.rows && w)) w points) (one_more n.point.rows was (All-head (λ (m : PassedPoint). m.point.rows ≡ rows) n points same))
      ∙ still_so points was (All-tail (λ (m : PassedPoint). m.point.rows ≡ rows) n points same)

  -- Points of these rows tell nothing of whether the row's pair was duplex.
  pub duplex_still : (first : Point) (points more : List PassedPoint) → All (λ n. n.point.rows ≡ rows) more → was_duplex row first (points ++ more) ≡ was_duplex row first points
  duplex_still first points more same =
      folds_on (λ w n. has_pair_in row Duplex n.point.rows || (has_pair_in row row.state n.point.rows && w)) (has_pair_in row Duplex first.rows) points more ∙ still_so more (was_duplex row first points) same

  pub owes_still : (run : ScriptRun) (first : Point) (points more : List PassedPoint) (time x : ℕ) → All (λ n. n.point.rows ≡ rows) more → owes_track run first (points ++ more) row time x ≡ owes_track run first points row time x
  owes_still run first points more time x same = ap (λ (was : Bool). owes_in run was row row.state time x) (duplex_still first points more same)

-- So a command asks for as many tracks, if the row of its primary is suspended.
pub asked_still : (run : ScriptRun) (first : Point) (points more : List PassedPoint) (rows : List PairRow) (time : ℕ) (command : Command) → none_clash rows ≡ true → All (λ n. n.point.rows ≡ rows) more
    → ((primary secondary : List ℕ) (group : Option (List ℕ)) (r : PairRow) → command ≡ AddPair primary secondary group → row_of_primary primary rows ≡ Some r → is_suspended r.state ≡ true)
    → tracks_of_command run first (points ++ more) rows time command ≡ tracks_of_command run first points rows time command
asked_still run first points more rows time (Start level) apart same taken = refl
asked_still run first points more rows time (AddPair primary secondary group) apart same taken = by_row (row_of_primary primary rows) refl
  where
    by_row : (o : Option PairRow) → row_of_primary primary rows ≡ o → tracks_asked run first (points ++ more) rows primary time ≡ tracks_asked run first points rows primary time
    by_row None is = rw (is, tracks_asked) refl
    by_row (Some r) is =
        rw (is, tracks_asked) (λ i. count_by (λ x. owes_still r rows (found_in (is_of_primary primary) rows r is) apart (taken primary secondary group r refl is) run first points more time x same i) (range_with_len 0 (tracks_of_row r)))
asked_still run first points more rows time (DelPair choice) apart same taken = refl
asked_still run first points more rows time (Suspend choice) apart same taken = refl
asked_still run first points more rows time Query apart same taken = refl
asked_still run first points more rows time End apart same taken = refl

-- ---- points before a line's command

module _ (run : ScriptRun) (asked : LinesAsked) (number : ℕ) (hits : List Timed) where
  cut_here : (n : PassedPoint) (rest : List PassedPoint) (P : PassedPoint → Type 0) → is_command_of number n.way ≡ true → All P (points_before number (n ∷ rest))
  cut_here n rest P is = subst (λ (b : Bool). All P (cond b [] (n ∷ points_before number rest))) (sym is) (All-nil P)

  of_number : (n : PassedPoint) (way : Way) → n.way ≡ way → is_command_of number way ≡ true → is_command_of number n.way ≡ true
  of_number n way is of = ap (is_command_of number) is ∙ of

  -- The points of a line before its command have the rows of its leg.
  pub marks_leave : (more : List PassedPoint) → AreOfCommand number hits more → (l : Leg) → AreLinked (ComesNext run asked) leg_after l more → All (λ n. n.point.rows ≡ l.point.rows) (points_before number more)
  marks_leave _ (OfCommand n is) l linked = cut_here n [] (λ (m : PassedPoint). m.point.rows ≡ l.point.rows) (of_number n (Commanded number hits) is (eq-eqb number number refl))
  marks_leave _ (OfEnd n m own more is ends both) l linked = cut_here n (m ∷ []) (λ (k : PassedPoint). k.point.rows ≡ l.point.rows) (of_number n (Commanded number own) is (eq-eqb number number refl))
  marks_leave _ (AfterMark n points by rest) l linked = by_way by (marks_leave points rest (leg_after l n) linked.1)
    where
      by_way : (n.way ≡ OnTheWay []) ⊎ ((marked : List Timed) × (n.way ≡ MarkedFor number marked)) → All (λ m. m.point.rows ≡ (leg_after l n).point.rows) (points_before number points) → All (λ m. m.point.rows ≡ l.point.rows) (points_before number (n ∷ points))
      by_way (inr marked) more = cut_here n points (λ (m : PassedPoint). m.point.rows ≡ l.point.rows) (of_number n (MarkedFor number marked.0) marked.1 (eq-eqb number number refl))
      by_way (inl on_way) more =
          let same : n.point.rows ≡ l.point.rows = (on_rows (subst (λ (way : Way). ComesBy run asked l n.point way) on_way linked.0.0)) in
          let point : (leg_after l n).point.rows ≡ l.point.rows = ap (λ (way : Way). (leg_by l n.point way).point.rows) on_way ∙ same in
          subst (λ (b : Bool). All (λ (m : PassedPoint). m.point.rows ≡ l.point.rows) (cond b [] (n ∷ points_before number points))) (sym (ap (is_command_of number) on_way))
          (All-cons (λ (m : PassedPoint). m.point.rows ≡ l.point.rows) n (points_before number points) same (subst (λ (rows : List PairRow). All (λ (m : PassedPoint). m.point.rows ≡ rows) (points_before number points)) point more))
        where
          on_rows : ComesBy run asked l n.point (OnTheWay []) → n.point.rows ≡ l.point.rows
          on_rows comes = comes.1.leads.rows
