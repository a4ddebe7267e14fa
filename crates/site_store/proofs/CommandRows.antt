-- What a command makes of the rows and of the jobs' flags, by its answer.
use Rattle.std.proofs.Common.{◌≡◌, ℕ, zero, suc, ◌+◌, ◌≤◌, ◌<◌, ◌==◌, ◌&&◌, ◌||◌, Bool, true, false, not, cond, nat_lt, List, [], ◌∷◌, length, map, filter, get_or, set, Option, Some, None, Ok, refl, sym, ap, ◌∙◌, arith, eqb-true, eq-eqb}
use Rattle.std.specs.Prelude.{is_none, bytes_eq}
use Rattle.std.specs.List.{list_any, list_all}
use Rattle.std.proofs.lemmas.Bool.{ltb-true, ltb-false}
use Rattle.pair_table.specs.declared.command.Change.{Change}
use Rattle.pair_table.specs.declared.command.Change.TheVariants.{Nothing, Started, Added, Resumed, Gone, Suspended as SuspendedRows, Ended as EndedSession}
use Rattle.pair_table.specs.declared.command.Command.{Command}
use Rattle.pair_table.specs.declared.command.Command.TheVariants.{Start, AddPair, DelPair, Suspend, Query, End}
use Rattle.pair_table.specs.declared.command.Refusal.{Refusal}
use Rattle.pair_table.specs.declared.command.Refusal.TheVariants.{ControlBroken, Ended, NoSession, SecondaryInUse, SessionExists}
use Rattle.pair_table.specs.declared.names.NamedDevice.{NamedDevice}
use Rattle.pair_table.specs.declared.names.NamedVolume.{NamedVolume}
use Rattle.pair_table.specs.declared.row.PairState.{PairState}
use Rattle.pair_table.specs.declared.row.PairState.TheVariants.{Pending}
use Rattle.pair_table.specs.declared.row.PairRow.{PairRow}
use Rattle.pair_table.specs.Commands.{accepted, add_to, added, answer, answer_by, change_of, devices_of, is_chosen, is_to_suspend, new_row, new_row_for, rows_after, suspended_since, table_after, wants_memory}
use Rattle.pair_table.specs.Naming.{Naming, is_broken, labelled_device, primary_of}
use Rattle.pair_table.specs.Refusals.{is_of_primary, is_start, refusal, refuses_command, refuses_found, refuses_label, refuses_primary, row_of_primary}
use Rattle.pair_table.specs.Tables.{Table, are_below, in_state, is_of, resumed_in}
use Rattle.pair_table.proofs.AddLaws.{label_all}
use Rattle.pair_table.proofs.FindLaws.{all-filter, all-map, all-snoc, found_all}
use Rattle.site_store.specs.Commands.{AddsBelow, added_device, alters, is_added, without_flag}
use Rattle.site_store.specs.Hits.{are_some}

-- ---- the answer

-- A command that was answered with a change wasn't refused.
pub record Answered (names : Naming) (table : Table) (session : List ℕ) (command : Command) (change : Change) : Type 0 where
  pub accepts : refusal names table session command ≡ None
  pub is : change_of names command table.rows ≡ change

pub answered : (names : Naming) (table : Table) (session : List ℕ) (command : Command) (change : Change) → answer names table session command ≡ Ok change → Answered names table session command change
answered names table session command change is = by_refusal (refusal names table session command) refl is
  where
    by_refusal : (o : Option Refusal) → refusal names table session command ≡ o → answer_by o (change_of names command table.rows) ≡ Ok change → Answered names table session command change
    by_refusal (Some why) at is = absurd (cc is)
    by_refusal None at is = record { accepts = at; is = cc is }

pub table_is : (names : Naming) (table : Table) (session : List ℕ) (command : Command) (time : ℕ) → refusal names table session command ≡ None → table_after names table session command time ≡ accepted names time command table
table_is names table session command time none = λ i. cond (is_none (none i)) (accepted names time command table) table

-- It is no start of a started session, and its own reasons don't refuse it.
pub record Own (names : Naming) (rows : List PairRow) (command : Command) : Type 0 where
  pub starts : is_start command ≡ false
  pub own : refuses_command names rows command ≡ None

pub own_of : (names : Naming) (table : Table) (session : List ℕ) (command : Command) → table.is_started ≡ true → refusal names table session command ≡ None → Own names table.rows command
own_of names table session command started none =
    let o = opened table.is_ended (not (bytes_eq session table.session) || (not table.is_started && not (is_start command))) (is_start command && table.is_started) none in
    record { starts = alone (is_start command) (ap (λ (b : Bool). is_start command && b) (sym started) ∙ o.0); own = o.1 }
  where
    opened : (ended wrong again : Bool) → cond ended (Some Ended) (cond wrong (Some NoSession) (cond again (Some SessionExists) (refuses_command names table.rows command))) ≡ None → (again ≡ false) × (refuses_command names table.rows command ≡ None)
    opened true wrong again none = absurd (cc none)
    opened false true again none = absurd (cc none)
    opened false false true none = absurd (cc none)
    opened false false false none = (refl, none)

    alone : (b : Bool) → (b && true) ≡ false → b ≡ false
    alone true is = absurd (cc is)
    alone false is = refl

-- ---- rows that stay

filter_none : (test : PairRow → Bool) (rows : List PairRow) → are_some (devices_of (filter test rows)) ≡ false → filter (λ r. not (test r)) rows ≡ rows
filter_none test [] none = refl
filter_none test (r ∷ rows) none = by_test (test r) none (filter_none test rows)
  where
    by_test : (b : Bool) → are_some (devices_of (cond b (r ∷ filter test rows) (filter test rows))) ≡ false → (are_some (devices_of (filter test rows)) ≡ false → filter (λ s. not (test s)) rows ≡ rows)
        → cond (not b) (r ∷ filter (λ s. not (test s)) rows) (filter (λ s. not (test s)) rows) ≡ r ∷ rows
    by_test true none more = absurd (cc none)
    by_test false none more = ap (λ (l : List PairRow). r ∷ l) (more none)

map_none : (test : PairRow → Bool) (state : PairState) (rows : List PairRow) → are_some (devices_of (filter test rows)) ≡ false → map (λ r. cond (test r) (in_state state r) r) rows ≡ rows
map_none test state [] none = refl
map_none test state (r ∷ rows) none = by_test (test r) none (map_none test state rows)
  where
    by_test : (b : Bool) → are_some (devices_of (cond b (r ∷ filter test rows) (filter test rows))) ≡ false → (are_some (devices_of (filter test rows)) ≡ false → map (λ s. cond (test s) (in_state state s) s) rows ≡ rows)
        → cond b (in_state state r) r ∷ map (λ s. cond (test s) (in_state state s) s) rows ≡ r ∷ rows
    by_test true none more = absurd (cc none)
    by_test false none more = ap (λ (l : List PairRow). r ∷ l) (more none)

-- A change that alters no row leaves the rows.
pub unaltered : (names : Naming) (time : ℕ) (command : Command) (rows : List PairRow) → is_start command ≡ false → alters (change_of names command rows) ≡ false → rows_after names time command rows ≡ rows
unaltered names time (Start level) rows starts none = absurd (cc starts)
unaltered names time (AddPair p s g) rows starts none = by_names (row_of_primary p rows) (primary_of p names) (labelled_device s names) none
  where
    by_names : (o : Option PairRow) (v : Option NamedVolume) (l : Option NamedDevice) → alters (added o l) ≡ false → add_to g rows o (new_row_for s g v l) ≡ rows
    by_names (Some r) v l none = absurd (cc none)
    by_names None v (Some l) none = absurd (cc none)
    by_names None (Some v) None none = refl
    by_names None None None none = refl
unaltered names time (DelPair choice) rows starts none = filter_none (is_chosen choice) rows none
unaltered names time (Suspend choice) rows starts none = map_none (is_to_suspend choice) _ rows none
unaltered names time Query rows starts none = refl
unaltered names time End rows starts none = refl

-- ---- what all rows pass

module _ (test : PairRow → Bool) (of_state : (state : PairState) (group : Option (List ℕ)) (r : PairRow) → test (record r { state = state; group = group }) ≡ test r) where
  by_state : (b : Bool) (state : PairState) (r : PairRow) → test (cond b (in_state state r) r) ≡ test r
  by_state true state r = of_state state r.group r
  by_state false state r = refl

  -- What rows pass whatever their state and group, the rows after a command pass, if a new row does.
  pub rows_pass : (names : Naming) (time : ℕ) (command : Command) (rows : List PairRow)
      → ((p s : List ℕ) (g : Option (List ℕ)) (v : NamedVolume) (l : NamedDevice) → command ≡ AddPair p s g → primary_of p names ≡ Some v → labelled_device s names ≡ Some l → row_of_primary p rows ≡ None → test (new_row s g v l) ≡ true)
      → list_all test rows ≡ true → list_all test (rows_after names time command rows) ≡ true
  rows_pass names time (Start level) rows new all = refl
  rows_pass names time (AddPair p s g) rows new all = by_names (row_of_primary p rows) refl (primary_of p names) refl (labelled_device s names) refl
    where
      by_resumed : (b : Bool) (o : PairRow) → test (cond b (resumed_in g o) o) ≡ test o
      by_resumed true o = of_state Pending g o
      by_resumed false o = refl

      by_names : (o : Option PairRow) → row_of_primary p rows ≡ o → (v : Option NamedVolume) → primary_of p names ≡ v → (l : Option NamedDevice) → labelled_device s names ≡ l → list_all test (add_to g rows o (new_row_for s g v l)) ≡ true
      by_names (Some r) found v named l labelled = all-map test (λ o. cond (is_of_primary r.primary o) (resumed_in g o) o) rows (λ o. by_resumed (is_of_primary r.primary o) o) all
      by_names None found (Some v) named (Some l) labelled = all-snoc test rows (new_row s g v l) all (new p s g v l refl named labelled found)
      by_names None found (Some v) named None labelled = all
      by_names None found None named l labelled = all
  rows_pass names time (DelPair choice) rows new all = all-filter test (λ r. not (is_chosen choice r)) rows all
  rows_pass names time (Suspend choice) rows new all = all-map test (suspended_since choice time) rows (λ r. by_state (is_to_suspend choice r) _ r) all
  rows_pass names time Query rows new all = all
  rows_pass names time End rows new all = all

-- The rows after a command are on the devices of the labels and of the rows before it.
pub after_below : (n : ℕ) (names : Naming) (time : ℕ) (command : Command) (rows : List PairRow) → list_all (λ l. nat_lt l.device n) names.labels ≡ true → are_below n rows ≡ true → are_below n (rows_after names time command rows) ≡ true
after_below n names time command rows labels below = rows_pass (λ r. nat_lt r.device n) (λ state group r. refl) names time command rows (λ p s g v l is named labelled none. label_all (λ k. nat_lt k.device n) s names.labels l labels labelled) below

-- ---- the device of an added pair

pub adds_below : (n : ℕ) (names : Naming) (command : Command) (rows : List PairRow) → list_all (λ l. nat_lt l.device n) names.labels ≡ true → are_below n rows ≡ true → AddsBelow n (change_of names command rows)
adds_below n names (Start level) rows labels below d is = absurd (cc is)
adds_below n names (AddPair p s g) rows labels below d is = by_names (row_of_primary p rows) refl (labelled_device s names) refl is
  where
    by_names : (o : Option PairRow) → row_of_primary p rows ≡ o → (l : Option NamedDevice) → labelled_device s names ≡ l → is_added (added o l) d ≡ true → d < n
    by_names (Some r) found l labelled is = omega (arith, eqb-true r.device d is, ltb-true r.device n (found_all (is_of_primary p) (λ o. nat_lt o.device n) rows r found below))
    by_names None found (Some l) labelled is = omega (arith, eqb-true l.device d is, ltb-true l.device n (label_all (λ k. nat_lt k.device n) s names.labels l labels labelled))
    by_names None found None labelled is = absurd (cc is)
adds_below n names (DelPair choice) rows labels below d is = absurd (cc is)
adds_below n names (Suspend choice) rows labels below d is = absurd (cc is)
adds_below n names Query rows labels below d is = absurd (cc is)
adds_below n names End rows labels below d is = absurd (cc is)

-- The secondary of a pair that is added has as many cylinders as its primary.
pub large_enough : (names : Naming) (rows : List PairRow) (p s : List ℕ) (g : Option (List ℕ)) (v : NamedVolume) (l : NamedDevice) → refuses_command names rows (AddPair p s g) ≡ None → primary_of p names ≡ Some v → labelled_device s names ≡ Some l → row_of_primary p rows ≡ None → v.cylinders ≤ l.cylinders
large_enough names rows p s g v l own named labelled none = by_break (is_broken v.control names) (ap (refuses_primary p s names rows) (sym named) ∙ own)
  where
    by_size : (used small : Bool) (why : Refusal) → nat_lt l.cylinders v.cylinders ≡ small → cond used (Some SecondaryInUse) (cond small (Some why) None) ≡ None → v.cylinders ≤ l.cylinders
    by_size true small why is e = absurd (cc e)
    by_size false true why is e = absurd (cc e)
    by_size false false why is e = ltb-false l.cylinders v.cylinders is

    by_break : (broken : Bool) → cond broken (Some (ControlBroken v.control)) (refuses_label p s rows v (labelled_device s names)) ≡ None → v.cylinders ≤ l.cylinders
    by_break true e = absurd (cc e)
    by_break false e = by_size (list_any (is_of l.device) rows) (nat_lt l.cylinders v.cylinders) _ refl (ap (refuses_found s rows v l) (sym none) ∙ ap (refuses_label p s rows v) (sym labelled) ∙ e)

-- ---- the jobs' flags

pub flags_count : (first : ℕ) (change : Change) (flags : List Bool) → length (without_flag first change flags) ≡ length flags
flags_count first change [] = refl
flags_count first change (flag ∷ flags) = ap (λ (n : ℕ). suc n) (flags_count (first + 1) change flags)

-- A flag is taken away from the device of an added pair.
pub flag_then : (first d : ℕ) (change : Change) (flags : List Bool) → get_or (without_flag first change flags) d false ≡ cond (is_added change (first + d)) false (get_or flags d false)
flag_then first d change [] = sym (never (is_added change (first + d)))
  where
    never : (b : Bool) → cond b false false ≡ false
    never true = refl
    never false = refl
flag_then first zero change (flag ∷ flags) = ap (λ (n : ℕ). cond (is_added change n) false flag) here
  where
    here : first ≡ first + 0
    here = omega arith
flag_then first (suc d) change (flag ∷ flags) = flag_then (first + 1) d change flags ∙ ap (λ (n : ℕ). cond (is_added change n) false (get_or flags d false)) there
  where
    there : (first + 1) + d ≡ first + suc d
    there = omega arith

-- Where no pair is added they stay.
pub flags_stay : (first : ℕ) (change : Change) (flags : List Bool) → ((d : ℕ) → first ≤ d → is_added change d ≡ false) → without_flag first change flags ≡ flags
flags_stay first change [] none = refl
flags_stay first change (flag ∷ flags) none = λ i. cond (none first (omega arith) i) false flag ∷ flags_stay (first + 1) change flags (λ d le. none d (omega (arith, le))) i

-- The flag of one device is taken away.
pub flag_away : (first i : ℕ) (change : Change) (flags : List Bool) → ((d : ℕ) → is_added change d ≡ (first + i == d)) → without_flag first change flags ≡ set flags i false
flag_away first i change [] added = refl
flag_away first zero change (flag ∷ flags) added =
    (λ j. cond ((added first ∙ eq-eqb (first + 0) first (omega arith)) j) false flag ∷ without_flag (first + 1) change flags)
    ∙ ap (λ (l : List Bool). false ∷ l) (flags_stay (first + 1) change flags (λ d le. added d ∙ differ d le))
  where
    differ : (d : ℕ) → first + 1 ≤ d → (first + 0 == d) ≡ false
    differ d le = by_test (first + 0 == d) refl
      where
        by_test : (b : Bool) → (first + 0 == d) ≡ b → b ≡ false
        by_test true is = absurd (omega (arith, eqb-true (first + 0) d is, le))
        by_test false is = refl
flag_away first (suc i) change (flag ∷ flags) added =
    (λ j. cond ((added first ∙ differ) j) false flag ∷ without_flag (first + 1) change flags)
    ∙ ap (λ (l : List Bool). flag ∷ l) (flag_away (first + 1) i change flags (λ d. added d ∙ ap (λ (n : ℕ). n == d) there))
  where
    there : first + suc i ≡ (first + 1) + i
    there = omega arith

    differ : (first + suc i == first) ≡ false
    differ = by_test (first + suc i == first) refl
      where
        by_test : (b : Bool) → (first + suc i == first) ≡ b → b ≡ false
        by_test true is = absurd (omega (arith, eqb-true (first + suc i) first is))
        by_test false is = refl

-- A change that alters a row is one of a command that may.
pub alters_wants : (names : Naming) (command : Command) (rows : List PairRow) → alters (change_of names command rows) ≡ true → wants_memory command ≡ true
alters_wants names (Start level) rows some = some
alters_wants names (AddPair p s g) rows some = refl
alters_wants names (DelPair choice) rows some = refl
alters_wants names (Suspend choice) rows some = refl
alters_wants names Query rows some = some
alters_wants names End rows some = some

-- The rows that the devices tell stay, where those of the table are kept before it goes ahead of them.
pub told_after : (names : Naming) (table : Table) (session : List ℕ) (command : Command) (time : ℕ) (change : Change) → answer names table session command ≡ Ok change → table.is_started ≡ true → (ahead : Bool) (told : List PairRow)
    → cond (ahead || alters change) (cond (wants_memory command && not ahead) table.rows told) (table_after names table session command time).rows ≡ cond ahead told table.rows
told_after names table session command time change is started true told = ap (λ (b : Bool). cond b table.rows told) (never (wants_memory command))
  where
    never : (b : Bool) → (b && false) ≡ false
    never true = refl
    never false = refl
told_after names table session command time change is started false told = by_change (alters change) refl
  where
    a : Answered names table session command change
    a = answered names table session command change is

    by_change : (b : Bool) → alters change ≡ b → cond b (cond (wants_memory command && true) table.rows told) (table_after names table session command time).rows ≡ table.rows
    by_change true some = ap (λ (b : Bool). cond (b && true) table.rows told) (alters_wants names command table.rows (ap alters a.is ∙ some))
    by_change false none = ap (λ (t : Table). t.rows) (table_is names table session command time a.accepts) ∙ unaltered names time command table.rows (own_of names table session command started a.accepts).starts (ap alters a.is ∙ none)

-- ---- the device of an added pair, as the code finds it

-- whether it is this one
abbrev pub is_found : (found : Option ℕ) → (device : ℕ) → Bool
is_found (Some d) device = d == device
is_found None device = false

pub added_is : (change : Change) (d : ℕ) → is_added change d ≡ is_found (added_device change) d
added_is Nothing d = refl
added_is Started d = refl
added_is (Added device) d = refl
added_is (Resumed device) d = refl
added_is (Gone devices) d = refl
added_is (SuspendedRows devices) d = refl
added_is EndedSession d = refl

-- Its job's flag is taken away, and no other.
pub flags_after : (change : Change) (flags : List Bool) (d : ℕ) → added_device change ≡ Some d → without_flag 0 change flags ≡ set flags d false
flags_after change flags d found = flag_away 0 d change flags (λ k. added_is change k ∙ ap (λ (o : Option ℕ). is_found o k) found ∙ ap (λ (n : ℕ). n == k) here)
  where
    here : d ≡ 0 + d
    here = omega arith

pub flags_same : (change : Change) (flags : List Bool) → added_device change ≡ None → without_flag 0 change flags ≡ flags
flags_same change flags none = flags_stay 0 change flags (λ d le. added_is change d ∙ ap (λ (o : Option ℕ). is_found o d) none)

pub added_below : (n : ℕ) (change : Change) (d : ℕ) → AddsBelow n change → added_device change ≡ Some d → d < n
added_below n change d below found = below d (added_is change d ∙ ap (λ (o : Option ℕ). is_found o d) found ∙ eq-eqb d d refl)

pub none_there : (found : Option ℕ) → ((d : ℕ) → found ≡ Some d → ⊥) → found ≡ None
none_there None none = refl
none_there (Some d) none = absurd (none d refl)
