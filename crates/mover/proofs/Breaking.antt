-- Breaks of controllers without a live row change no row. So each break whose time has passed may be named among the changes of the group
-- that reported it.
use Rattle.std.proofs.Common.{◌≡◌, ◌⊎◌, inl, inr, ℕ, zero, suc, ◌+◌, ◌<◌, ◌≤◌, Bool, true, false, cond, not, nat_eq, nat_lt, nat_le, ◌&&◌, ◌||◌, List, [], ◌∷◌, ◌++◌, map, Option, Some, None, refl, sym, ap, subst, ◌∙◌, arith, add-one, true≢false}
use Rattle.std.specs.List.{list_any}
use Rattle.std.proofs.lemmas.Bool.{and_parts, and_from, eq-eqb, eqb-true, leb-true, le-leb, ltb-true, lt-ltb, or_left, or_right}
use Rattle.std.proofs.lemmas.List.Folds.{list_any-append}
use Rattle.pair_table.specs.declared.level.Level.{Level}
use Rattle.pair_table.specs.declared.row.PairRow.{PairRow}
use Rattle.pair_table.specs.declared.row.SuspendCause.TheVariants.{Control}
use Rattle.pair_table.specs.Rows.{is_suspended}
use Rattle.group_state.specs.Groups.{Shown}
use Rattle.group_state.specs.Runs.{Answer}
use Rattle.row_changes.specs.Changes.{FaultReach, Timed, after_change, after_changes, break_time_of, broken_row, is_at, reach_of, row_after_change, since}
use Rattle.row_changes.specs.Changes.Due.{NoneDue}
use Rattle.row_changes.specs.Changes.RowChange.{Break}
use Rattle.row_changes.specs.Spans.{all_broke, breaks_control, hit_count, lies_in}
use Rattle.record_rows.specs.Deeds.{Deed, rows_by_deed}
use Rattle.record_rows.specs.Deeds.Deed.{Logged}
use Rattle.record_rows.specs.ToldRows.{due_after_changes}
use Rattle.record_rows.proofs.Composing.{changes_in_a_row}
use Rattle.site_store.specs.DeedChanges.{DeedOfChanges, changes_of, deeds_of}
use Rattle.consistency.specs.Leads.{Comes}
use Rattle.consistency.specs.Ways.{are_at_time}
use Rattle.mover.specs.SilentBreaks.{all_silent, breaking_at, has_none_live, silent_at, silent_from, silent_of}
use Rattle.fed_logs.specs.LogLaws.{ReportsBreak}
use Rattle.fed_logs.specs.LogLaws.ReportsBreak.{Now, Later}
use Rattle.fed_logs.specs.Moves.{HasRowIn, IsLive, MayFollow, is_break_of_control}

pub same_deeds : (limit : ℕ) (breaks : List (Option ℕ)) (steps : List DeedOfChanges) → deeds_of (all_silent limit breaks steps) ≡ deeds_of steps
same_deeds limit breaks [] = refl
same_deeds limit breaks (step ∷ steps) = ap (λ (ds : List Deed). step.deed ∷ ds) (same_deeds limit breaks steps)

-- ---- they change nothing

unbroken_row : (k time : ℕ) (r : PairRow) → (not (nat_eq r.control k) || is_suspended r.state) ≡ true → broken_row k time r ≡ r
unbroken_row k time r is = choose (nat_eq r.control k) (is_suspended r.state) is
  where
    choose : (a b : Bool) → (not a || b) ≡ true → cond a (cond b r (record r { state = since Control time })) r ≡ r
    choose true true e = refl
    choose true false e = absurd (true≢false (sym e))
    choose false b e = refl

unbroken : (reach : FaultReach) (k time : ℕ) (rows : List PairRow) → has_none_live k rows ≡ true → map (row_after_change reach (breaking_at time k)) rows ≡ rows
unbroken reach k time [] none = refl
unbroken reach k time (r ∷ rows) none =
    let parts = and_parts (not (nat_eq r.control k) || is_suspended r.state) (has_none_live k rows) none in
    λ i. unbroken_row k time r parts.0 i ∷ unbroken reach k time rows parts.1 i

-- what holds of each silent break
record Silent (limit time k : ℕ) (b : Option ℕ) (rows : List PairRow) : Type 0 where
  pub at : is_at time b ≡ true
  pub below : nat_lt time limit ≡ true
  pub none : has_none_live k rows ≡ true

silent_parts : (limit time k : ℕ) (b : Option ℕ) (rows : List PairRow) → (is_at time b && (nat_lt time limit && has_none_live k rows)) ≡ true → Silent limit time k b rows
silent_parts limit time k b rows is =
    let one = and_parts (is_at time b) (nat_lt time limit && has_none_live k rows) is in
    let two = and_parts (nat_lt time limit) (has_none_live k rows) one.1 in
    record { at = one.0; below = two.0; none = two.1 }

pub silent_leaves : (level : Level) (limit time k : ℕ) (breaks : List (Option ℕ)) (rows : List PairRow) → after_changes level (silent_from limit time k breaks rows) rows ≡ rows
silent_leaves level limit time k [] rows = refl
silent_leaves level limit time k (b ∷ breaks) rows =
    changes_in_a_row level (silent_at limit time k b rows) (silent_from limit time (suc k) breaks rows) rows
    ∙ ap (after_changes level (silent_from limit time (suc k) breaks rows)) (first (is_at time b && (nat_lt time limit && has_none_live k rows)) refl)
    ∙ silent_leaves level limit time (suc k) breaks rows
  where
    first : (t : Bool) → (is_at time b && (nat_lt time limit && has_none_live k rows)) ≡ t → after_changes level (cond t (breaking_at time k ∷ []) []) rows ≡ rows
    first true is = unbroken (reach_of level rows) k time rows (silent_parts limit time k b rows is).none
    first false is = refl

pub silent_due : (level : Level) (limit time k : ℕ) (breaks : List (Option ℕ)) (rows : List PairRow) → due_after_changes level NoneDue (silent_from limit time k breaks rows) ≡ NoneDue
silent_due level limit time k [] rows = refl
silent_due level limit time k (b ∷ breaks) rows = choose (is_at time b && (nat_lt time limit && has_none_live k rows)) (silent_due level limit time (suc k) breaks rows)
  where
    choose : (t : Bool) → due_after_changes level NoneDue (silent_from limit time (suc k) breaks rows) ≡ NoneDue → due_after_changes level NoneDue (cond t (breaking_at time k ∷ []) [] ++ silent_from limit time (suc k) breaks rows) ≡ NoneDue
    choose true others = others
    choose false others = others

pub silent_together : (limit time k : ℕ) (breaks : List (Option ℕ)) (rows : List PairRow) → are_at_time time (silent_from limit time k breaks rows) ≡ true
silent_together limit time k [] rows = refl
silent_together limit time k (b ∷ breaks) rows = choose (is_at time b && (nat_lt time limit && has_none_live k rows)) (silent_together limit time (suc k) breaks rows)
  where
    choose : (t : Bool) → are_at_time time (silent_from limit time (suc k) breaks rows) ≡ true → are_at_time time (cond t (breaking_at time k ∷ []) [] ++ silent_from limit time (suc k) breaks rows) ≡ true
    choose true others = and_from (nat_eq time time) (are_at_time time (silent_from limit time (suc k) breaks rows)) (eq-eqb time time refl) others
    choose false others = others

pub silent_hits : (device limit time k : ℕ) (breaks : List (Option ℕ)) (rows : List PairRow) → hit_count device (silent_from limit time k breaks rows) ≡ 0
silent_hits device limit time k [] rows = refl
silent_hits device limit time k (b ∷ breaks) rows = choose (is_at time b && (nat_lt time limit && has_none_live k rows)) (silent_hits device limit time (suc k) breaks rows)
  where
    choose : (t : Bool) → hit_count device (silent_from limit time (suc k) breaks rows) ≡ 0 → hit_count device (cond t (breaking_at time k ∷ []) [] ++ silent_from limit time (suc k) breaks rows) ≡ 0
    choose true others = omega (arith, others)
    choose false others = others

-- ---- they may come

-- These are the break times of the controllers from one on.
abbrev pub AreFrom : (all : List (Option ℕ)) → (control : ℕ) → List (Option ℕ) → Type 0
AreFrom all k [] = Unit {0}
AreFrom all k (b ∷ breaks) = (break_time_of k all ≡ b) × AreFrom all (suc k) breaks

shifted : (c : Option ℕ) (all : List (Option ℕ)) (k : ℕ) (breaks : List (Option ℕ)) → AreFrom all k breaks → AreFrom (c ∷ all) (suc k) breaks
shifted c all k [] h = tt
shifted c all k (b ∷ breaks) h = (h.0, shifted c all (suc k) breaks h.1)

pub all_are : (all : List (Option ℕ)) → AreFrom all 0 all
all_are [] = tt
all_are (b ∷ all) = (refl, shifted b all 0 all (all_are all))

pub silent_comes : (level : Level) (all : List (Option ℕ)) (limit time k : ℕ) (breaks : List (Option ℕ)) (rows : List PairRow) → AreFrom all k breaks → Comes level all NoneDue time time rows (silent_from limit time k breaks rows) NoneDue
silent_comes level all limit time k [] rows h = (omega arith, refl)
silent_comes level all limit time k (b ∷ breaks) rows h = choose (is_at time b && (nat_lt time limit && has_none_live k rows)) refl (silent_comes level all limit time (suc k) breaks rows h.1)
  where
    choose : (t : Bool) → (is_at time b && (nat_lt time limit && has_none_live k rows)) ≡ t → Comes level all NoneDue time time rows (silent_from limit time (suc k) breaks rows) NoneDue
        → Comes level all NoneDue time time rows (cond t (breaking_at time k ∷ []) [] ++ silent_from limit time (suc k) breaks rows) NoneDue
    choose false is others = others
    choose true is others =
        let p = silent_parts limit time k b rows is in (
          omega arith,
          omega arith,
          ap (is_at time) h.0 ∙ p.at,
          subst (λ (l : List PairRow). Comes level all NoneDue time time l (silent_from limit time (suc k) breaks rows) NoneDue) (sym (unbroken (reach_of level rows) k time rows p.none)) others,
        )

-- ---- who is named

-- A controller without a live row, whose break time is the group's, is named.
silent_names : (limit time k : ℕ) (breaks : List (Option ℕ)) (rows : List PairRow) (i j : ℕ) → j ≡ k + i → break_time_of i breaks ≡ Some time → time < limit → has_none_live j rows ≡ true → list_any (breaks_control j) (silent_from limit time k breaks rows) ≡ true
silent_names limit time k [] rows i j is at below none = absurd cc
silent_names limit time k (b ∷ breaks) rows zero j is at below none =
    let here : k ≡ j = omega (arith, is) in
    list_any-append (breaks_control j) (silent_at limit time k b rows) (silent_from limit time (suc k) breaks rows)
    ∙ or_left (list_any (breaks_control j) (silent_at limit time k b rows)) (list_any (breaks_control j) (silent_from limit time (suc k) breaks rows)) (named here (tested here))
  where
    tested : k ≡ j → (is_at time b && (nat_lt time limit && has_none_live k rows)) ≡ true
    tested here =
        and_from (is_at time b) (nat_lt time limit && has_none_live k rows) (ap (is_at time) at ∙ eq-eqb time time refl)
        (and_from (nat_lt time limit) (has_none_live k rows) (lt-ltb time limit below) (ap (λ (n : ℕ). has_none_live n rows) here ∙ none))

    named : k ≡ j → (is_at time b && (nat_lt time limit && has_none_live k rows)) ≡ true → list_any (breaks_control j) (silent_at limit time k b rows) ≡ true
    named here is = ap (λ (t : Bool). list_any (breaks_control j) (cond t (breaking_at time k ∷ []) [])) is ∙ or_left (nat_eq k j) false (eq-eqb k j here)
silent_names limit time k (b ∷ breaks) rows (suc i) j is at below none =
    list_any-append (breaks_control j) (silent_at limit time k b rows) (silent_from limit time (suc k) breaks rows)
    ∙ or_right (list_any (breaks_control j) (silent_at limit time k b rows)) (list_any (breaks_control j) (silent_from limit time (suc k) breaks rows))
    (silent_names limit time (suc k) breaks rows i j (omega (arith, is)) at below none)

-- ---- the group that reported a break

after_first : (k v : ℕ) (r : PairRow) (rows : List PairRow) → HasRowIn IsLive k v rows → HasRowIn IsLive k v (r ∷ rows)
after_first k v r rows has = record { row = has.row; among = (suc has.among.0, (let low = has.among.1 in omega (arith, low)), has.among.2); control = has.control; volume = has.volume; state = has.state }

none_live : (k : ℕ) (rows : List PairRow) → ((v : ℕ) → HasRowIn IsLive k v rows → ⊥) → has_none_live k rows ≡ true
none_live k [] none = refl
none_live k (r ∷ rows) none = and_from (not (nat_eq r.control k) || is_suspended r.state) (has_none_live k rows) (here (nat_eq r.control k) refl (is_suspended r.state) refl) (none_live k rows (λ v has. none v (after_first k v r rows has)))
  where
    here : (a : Bool) → nat_eq r.control k ≡ a → (b : Bool) → is_suspended r.state ≡ b → (not a || b) ≡ true
    here false at b is = refl
    here true at true is = refl
    here true at false is =
        absurd (none r.volume (record { row = r; among = (0, omega arith, refl); control = eqb-true r.control k at; volume = refl; state = is }))

-- what a report is, by the deeds
abbrev ReportCases : (run : List Answer) → (k b : ℕ) → List PairRow → List Deed → Type 0
ReportCases run k b rows [] = ⊥
ReportCases run k b rows (deed ∷ deeds) =
    ((shown : Shown) × (next : List PairRow) × (deed ≡ Logged shown.cut.0 shown.entries next) × (is_break_of_control k shown ≡ true) × (shown.cut.0 ≡ b) × MayFollow shown rows next)
    ⊎ ReportsBreak run k b (rows_by_deed deed) deeds

report_cases : (run : List Answer) (k b : ℕ) (rows : List PairRow) (deeds : List Deed) → ReportsBreak run k b rows deeds → ReportCases run k b rows deeds
report_cases run k b _ _ (Now shown rows next deeds was reports at follow) = inl (shown, next, refl, reports, at, follow)
report_cases run k b _ _ (Later rows deed deeds later) = inr later

-- Where a group among the deeds reported a break below the limit, it is named.
pub report_is_named : (run : List Answer) (limit : ℕ) (breaks : List (Option ℕ)) (k b : ℕ) → break_time_of k breaks ≡ Some b → b < limit → (rows : List PairRow) (steps : List DeedOfChanges) → ReportsBreak run k b rows (deeds_of steps)
    → list_any (breaks_control k) (changes_of (all_silent limit breaks steps)) ≡ true
report_is_named run limit breaks k b is below rows [] reports = absurd (report_cases run k b rows [] reports)
report_is_named run limit breaks k b is below rows (step ∷ steps) reports =
    choose (changes_of (all_silent limit breaks steps)) (report_is_named run limit breaks k b is below (rows_by_deed step.deed) steps) (report_cases run k b rows (step.deed ∷ deeds_of steps) reports)
  where
    here : (rest : List Timed) → list_any (breaks_control k) (silent_of limit breaks step.deed) ≡ true → list_any (breaks_control k) ((step.changes ++ silent_of limit breaks step.deed) ++ rest) ≡ true
    here rest named =
        list_any-append (breaks_control k) (step.changes ++ silent_of limit breaks step.deed) rest
        ∙ or_left (list_any (breaks_control k) (step.changes ++ silent_of limit breaks step.deed)) (list_any (breaks_control k) rest)
        (list_any-append (breaks_control k) step.changes (silent_of limit breaks step.deed) ∙ or_right (list_any (breaks_control k) step.changes) (list_any (breaks_control k) (silent_of limit breaks step.deed)) named)

    choose : (rest : List Timed) → (ReportsBreak run k b (rows_by_deed step.deed) (deeds_of steps) → list_any (breaks_control k) rest ≡ true) → ReportCases run k b rows (step.deed ∷ deeds_of steps) → list_any (breaks_control k) ((step.changes ++ silent_of limit breaks step.deed) ++ rest) ≡ true
    choose rest others (inl (shown, next, deed, tells, at, follow)) = here rest (
        ap (λ (d : Deed). list_any (breaks_control k) (silent_of limit breaks d)) deed
        ∙ silent_names limit shown.cut.0 0 breaks next k k (omega arith) (is ∙ ap (λ (n : ℕ). Some n) (sym at)) (omega (arith, at, below))
        (none_live k next (λ v has. true≢false (sym tells ∙ (follow.live k v has).0)))
        )
    choose rest others (inr later) =
        list_any-append (breaks_control k) (step.changes ++ silent_of limit breaks step.deed) rest
        ∙ or_right (list_any (breaks_control k) (step.changes ++ silent_of limit breaks step.deed)) (list_any (breaks_control k) rest) (others later)

-- ---- all breaks between two times

-- Each controller whose break time lies between broke.
pub all_between : (from to k : ℕ) (all breaks : List (Option ℕ)) (changes : List Timed) → AreFrom all k breaks → ((j b : ℕ) → break_time_of j all ≡ Some b → from ≤ b → b < to → list_any (breaks_control j) changes ≡ true) → all_broke from to k breaks changes ≡ true
all_between from to k all [] changes h each = refl
all_between from to k all (b ∷ breaks) changes h each =
    and_from (not (lies_in from to b) || list_any (breaks_control k) changes) (all_broke from to (k + 1) breaks changes) (here b h.0)
    (subst (λ (n : ℕ). all_broke from to n breaks changes ≡ true) (sym (add-one k)) (all_between from to (suc k) all breaks changes h.1 each))
  where
    here : (b : Option ℕ) → break_time_of k all ≡ b → (not (lies_in from to b) || list_any (breaks_control k) changes) ≡ true
    here None is = refl
    here (Some n) is = choose (nat_le from n && nat_lt n to) refl
      where
        choose : (t : Bool) → (nat_le from n && nat_lt n to) ≡ t → (not t || list_any (breaks_control k) changes) ≡ true
        choose false e = refl
        choose true e = let p = and_parts (nat_le from n) (nat_lt n to) e in each k n is (leb-true from n p.0) (ltb-true n to p.1)

-- So it did where all that lie between did.
pub one_between : (from to k : ℕ) (breaks : List (Option ℕ)) (changes : List Timed) (i j b : ℕ) → j ≡ k + i → all_broke from to k breaks changes ≡ true → break_time_of i breaks ≡ Some b → from ≤ b → b < to → list_any (breaks_control j) changes ≡ true
one_between from to k [] changes i j b is all at low high = absurd cc
one_between from to k (c ∷ breaks) changes zero j b is all at low high =
    let first = (and_parts (not (lies_in from to c) || list_any (breaks_control k) changes) (all_broke from to (k + 1) breaks changes) all).0 in
    let inside : lies_in from to c ≡ true = ap (lies_in from to) at ∙ and_from (nat_le from b) (nat_lt b to) (le-leb from b low) (lt-ltb b to high) in
    let here : k ≡ j = omega (arith, is) in
    ap (λ (n : ℕ). list_any (breaks_control n) changes) (sym here) ∙ sym (ap (λ (t : Bool). not t || list_any (breaks_control k) changes) inside) ∙ first
one_between from to k (c ∷ breaks) changes (suc i) j b is all at low high =
    one_between from to (k + 1) breaks changes i j b (omega (arith, is)) (and_parts (not (lies_in from to c) || list_any (breaks_control k) changes) (all_broke from to (k + 1) breaks changes) all).1 at low high
