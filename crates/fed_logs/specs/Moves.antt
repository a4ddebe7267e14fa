-- What the mover kept of its calls: the deeds that it did between them and by them.
use Rattle.std.specs.Prelude.{◌≡◌, ◌⊎◌, ℕ, ◌<◌, ◌≤◌, ◌==◌, ◌&&◌, ◌||◌, not, List, [], ◌∷◌, ◌++◌, Bool, true, false, Option, Some, None, IsTrue}
use Rattle.std.specs.List.{All, list_any, Contains}
use Rattle.pair_table.specs.declared.row.PairRow.{PairRow}
use Rattle.pair_table.specs.declared.row.PairState.{PairState}
use Rattle.pair_table.specs.declared.row.PairState.TheVariants.{Duplex}
use Rattle.pair_table.specs.Rows.{is_suspended}
use Rattle.pair_table.specs.States.{is_settled}
use Rattle.pending_queue.specs.Entries.{WaitingEntry}
use Rattle.cut_core.specs.Shares.{names_volume}
use Rattle.group_state.specs.Groups.{Shown}
use Rattle.group_state.specs.HistoryLaws.{is_named}
use Rattle.group_state.specs.Machine.{Call, Reply}
use Rattle.group_state.specs.Machine.Call.{Join, NextWanted, Copied, Raise, Break, Form, Carry, Drop, Resume, Forget}
use Rattle.group_state.specs.Runs.{Answer, shown_by}
use Rattle.record_rows.specs.Deeds.{Deed, rows_by_deed}
use Rattle.record_rows.specs.Deeds.Deed.{Logged, Changed, Marked}

-- ---- rows

-- A row of a controller's volume is among these, in a state that passes.
pub record HasRowIn (is : PairState → Type 0) (k v : ℕ) (rows : List PairRow) : Type 0 where
  pub row : PairRow
  pub among : Contains rows row
  pub control : row.control ≡ k
  pub volume : row.volume ≡ v
  pub state : is row.state

abbrev pub IsLive : PairState → Type 0
IsLive state = is_suspended state ≡ false

abbrev pub IsDuplex : PairState → Type 0
IsDuplex state = state ≡ Duplex

-- A row that is pending or copying.
abbrev pub IsUnsettled : PairState → Type 0
IsUnsettled state = is_settled state ≡ false

-- An entry is of a volume whose row is live.
abbrev pub IsOfLiveRow : List PairRow → WaitingEntry → Type 0
IsOfLiveRow rows entry = HasRowIn IsLive entry.head.control entry.head.volume rows

-- Rows are live or duplex only where rows before were.
pub record AreFewer (rows next : List PairRow) : Type 0 where
  pub live : (k v : ℕ) → HasRowIn IsLive k v next → HasRowIn IsLive k v rows
  pub duplex : (k v : ℕ) → HasRowIn IsDuplex k v next → HasRowIn IsDuplex k v rows

-- ---- what a form shows

abbrev pub is_break_of_control : (control : ℕ) → Shown → Bool
is_break_of_control k shown = list_any (λ b. b.0 == k) shown.breaks

abbrev pub is_plan_shown_done : (control volume : ℕ) → Shown → Bool
is_plan_shown_done k v shown = list_any (is_named k v) shown.done

-- After a group those rows are live that were and of whose controllers no break is reported, and those are duplex that were or whose plans
-- are done with it.
pub record MayFollow (shown : Shown) (rows next : List PairRow) : Type 0 where
  pub live : (k v : ℕ) → HasRowIn IsLive k v next → (is_break_of_control k shown ≡ false) × HasRowIn IsLive k v rows
  pub duplex : (k v : ℕ) → HasRowIn IsDuplex k v next → HasRowIn IsDuplex k v rows ⊎ IsTrue (is_plan_shown_done k v shown)

-- A form that shows nothing new to a site: no entry, and a cut up to the time that is meant. It makes no row duplex that is pending or copying.
-- It reports no break of a live row's controller, and none at all but below that time, as while a session starts.
pub record ShowsNothing (time : ℕ) (rows : List PairRow) (shown : Shown) : Type 0 where
  pub at : shown.cut.0 ≤ time
  pub entries : shown.entries ≡ []
  pub plans : (k v : ℕ) → HasRowIn IsUnsettled k v rows → is_plan_shown_done k v shown ≡ false
  pub breaks : (k v : ℕ) → HasRowIn IsLive k v rows → is_break_of_control k shown ≡ false
  pub early : (k : ℕ) → IsTrue (is_break_of_control k shown) → shown.cut.0 < time

-- ---- quiet deeds

-- Deeds by which rows are suspended at the time that is meant, and marks. Nothing else happens.
abbrev pub AreQuiet : (time : ℕ) → List PairRow → List Deed → (next : List PairRow) → Type 0
AreQuiet time rows [] next = next ≡ rows
AreQuiet time rows (Logged cut entries fewer ∷ deeds) next = ⊥
AreQuiet time rows (Changed at fewer ∷ deeds) next = (at ≡ time) × AreFewer rows fewer × AreQuiet time fewer deeds next
AreQuiet time rows (Marked spot ended fewer ∷ deeds) next = AreFewer rows fewer × AreQuiet time fewer deeds next

-- whether deeds are none, or one mark
abbrev pub is_mark_at_most : List Deed → Bool
is_mark_at_most [] = true
is_mark_at_most (Logged cut entries rows ∷ deeds) = false
is_mark_at_most (Changed time rows ∷ deeds) = false
is_mark_at_most (Marked spot ended rows ∷ []) = true
is_mark_at_most (Marked spot ended rows ∷ deed ∷ deeds) = false

-- ---- entries of live rows

-- The entries of each group are of rows that were live when the group was formed, by the rows that were seen last then. A mark is due after a
-- group, and reports rows that the next form sees. A mark that isn't due may be made for a group that was formed before it.
abbrev pub AreEntriesLive : (due : Bool) → (seen : List PairRow) → List Deed → Type 0
AreEntriesLive due seen [] = Unit {0}
AreEntriesLive due seen (Logged cut entries next ∷ deeds) = All (IsOfLiveRow seen) entries × AreEntriesLive true next deeds
AreEntriesLive due seen (Changed at next ∷ deeds) = AreEntriesLive due next deeds
AreEntriesLive true seen (Marked spot ended next ∷ deeds) = AreEntriesLive false next deeds
AreEntriesLive false seen (Marked spot ended next ∷ deeds) = AreEntriesLive false seen deeds

-- Rows are live only where others are.
abbrev pub AreLiveIn : (wider rows : List PairRow) → Type 0
AreLiveIn wider rows = (k v : ℕ) → HasRowIn IsLive k v rows → HasRowIn IsLive k v wider

-- After each deed rows are live only where rows before it were.
abbrev pub LiveByDeeds : List PairRow → List Deed → Type 0
LiveByDeeds rows [] = Unit {0}
LiveByDeeds rows (deed ∷ deeds) = AreLiveIn rows (rows_by_deed deed) × LiveByDeeds (rows_by_deed deed) deeds

-- whether a mark is due after deeds
abbrev pub is_mark_due_after : (due : Bool) → List Deed → Bool
is_mark_due_after due [] = due
is_mark_due_after due (Logged cut entries rows ∷ deeds) = is_mark_due_after true deeds
is_mark_due_after due (Changed time rows ∷ deeds) = is_mark_due_after due deeds
is_mark_due_after due (Marked spot ended rows ∷ deeds) = is_mark_due_after false deeds

-- ---- plans

-- the volumes whose plans are known to be done, of those that aren't dropped
abbrev pub Plans : Type 0
Plans = (control volume : ℕ) → Bool

abbrev pub plans_with_shown : Shown → Plans → Plans
plans_with_shown shown done = λ k v. done k v || is_plan_shown_done k v shown

abbrev pub plans_without : (control volume : ℕ) → Plans → Plans
plans_without k v done = λ j w. done j w && not (names_volume j w k v)

-- ---- what was kept of a call

-- what holds of the deeds that follow, from a time, rows and plans on
abbrev pub Following : Type 1
Following = ℕ → List PairRow → Plans → List Deed → Type 0

-- A form is logged as what it showed, at a cut that isn't below the time that is meant. Its entries are of volumes whose rows are live. A mark
-- before its record may suspend rows.
pub record IsLogged (time : ℕ) (rows : List PairRow) (done : Plans) (shown : Shown) (deeds : List Deed) (rest : Following) : Type 0 where
  pub quiet : List Deed
  pub mid : List PairRow
  pub next : List PairRow
  pub later : List Deed
  pub are : deeds ≡ quiet ++ Logged shown.cut.0 shown.entries next ∷ later
  pub live : All (IsOfLiveRow rows) shown.entries
  pub marks : IsTrue (is_mark_at_most quiet)
  pub suspends : AreQuiet time rows quiet mid
  pub up : time ≤ shown.cut.0
  pub follow : MayFollow shown mid next
  pub goes_on : rest shown.cut.0 next (plans_with_shown shown done) later

-- What was kept of a form that shows this.
abbrev pub KeepsShown : (time : ℕ) → List PairRow → Plans → Option Shown → List Deed → Following → Type 0
KeepsShown time rows done None deeds rest = ⊥
KeepsShown time rows done (Some shown) deeds rest = (ShowsNothing time rows shown × rest time rows (plans_with_shown shown done) deeds) ⊎ IsLogged time rows done shown deeds rest

-- A volume is dropped where its row isn't duplex any more, and without all its tracks only where its plan is known to be done. It is
-- known no longer.
pub record KeepsDropped (time : ℕ) (rows : List PairRow) (done : Plans) (k v : ℕ) (all : Bool) (deeds : List Deed) (rest : Following) : Type 0 where
  pub gone : HasRowIn IsDuplex k v rows → ⊥
  pub known : all ≡ false → IsTrue (done k v)
  pub goes_on : rest time rows (plans_without k v done) deeds

-- What was kept of one call of the mover's.
abbrev pub KeepsCall : (time : ℕ) → List PairRow → Plans → Call → Reply → List Deed → Following → Type 0
KeepsCall time rows done (Join b) reply deeds rest = ⊥
KeepsCall time rows done (NextWanted k) reply deeds rest = ⊥
KeepsCall time rows done (Copied k v x at slot) reply deeds rest = ⊥
KeepsCall time rows done (Raise k upto) reply deeds rest = ⊥
KeepsCall time rows done (Break k upto cause) reply deeds rest = ⊥
KeepsCall time rows done (Form limit) reply deeds rest = KeepsShown time rows done (shown_by reply) deeds rest
KeepsCall time rows done (Carry k v plan) reply deeds rest = ⊥
KeepsCall time rows done (Drop k v all) reply deeds rest = KeepsDropped time rows done k v all deeds rest
KeepsCall time rows done (Resume k v) reply deeds rest = ⊥
KeepsCall time rows done (Forget k v) reply deeds rest = ⊥

-- Between two calls of the mover rows may be suspended. Where nothing more may follow, something may be kept from no call on.
pub record IsKeptOn (time : ℕ) (rows : List PairRow) (done : Plans) (answer : Answer) (deeds : List Deed) (rest : Following) : Type 0 where
  pub quiet : List Deed
  pub next : List PairRow
  pub more : List Deed
  pub are : deeds ≡ quiet ++ more
  pub suspends : AreQuiet time rows quiet next
  pub goes_on : (more ≡ []) ⊎ KeepsCall time next done answer.call answer.reply more rest

-- Deeds are what was kept of the mover's calls, in order, as far as these were kept.
abbrev pub MakesDeeds : (time : ℕ) → List PairRow → Plans → List Answer → List Deed → Type 0
MakesDeeds time rows done [] deeds = (next : List PairRow) × AreQuiet time rows deeds next
MakesDeeds time rows done (answer ∷ run) deeds = IsKeptOn time rows done answer deeds (λ t r p d. MakesDeeds t r p run d)

-- ---- all that was kept

-- Deeds by all of the mover's calls, which end at a time, with rows and plans.
pub record IsKeptWhole (time : ℕ) (rows : List PairRow) (done : Plans) (answer : Answer) (deeds : List Deed) (rest : Following) : Type 0 where
  pub quiet : List Deed
  pub next : List PairRow
  pub more : List Deed
  pub are : deeds ≡ quiet ++ more
  pub suspends : AreQuiet time rows quiet next
  pub goes_on : KeepsCall time next done answer.call answer.reply more rest

-- Every call of the mover's was kept.
abbrev pub MakesAllDeeds : (time : ℕ) → List PairRow → Plans → List Answer → List Deed → (end : ℕ) → (last : List PairRow) → (known : Plans) → Type 0
MakesAllDeeds time rows done [] deeds end last known = AreQuiet time rows deeds last × (end ≡ time) × (known ≡ done)
MakesAllDeeds time rows done (answer ∷ run) deeds end last known = IsKeptWhole time rows done answer deeds (λ t r p d. MakesAllDeeds t r p run d end last known)
