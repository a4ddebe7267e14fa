-- Runs are histories, their forms give the groups, and no batch joins late.
use Rattle.std.proofs.Common.{◌≡◌, ℕ, Bool, true, false, cond, List, [], ◌∷◌, ◌++◌, Option, Some, None, refl, sym, ap, subst, ◌∙◌, append_assoc, append-nil}
use Rattle.std.specs.List.{list_all, cons_option}
use Rattle.std.specs.Option.{option_map}
use Rattle.std.proofs.lemmas.Bool.{and_parts}
use Rattle.std.proofs.lemmas.List.Elements.{filter_map-append}
use Rattle.std.proofs.lemmas.List.Folds.{list_all-append}
use Rattle.tod_stamp.specs.declared.stamp.Stamp.{Stamp}
use Rattle.cut_core.specs.Events.{Event}
use Rattle.cut_core.specs.Cuts.{joins_above}
use Rattle.cut_core.specs.LegalHistories.{are_legal}
use Rattle.cut_core.specs.Events.Event.{Join as Joins, Form as Forms}
use Rattle.cut_core.proofs.Late.{no_late}
use Rattle.group_state.specs.Groups.{Group, Shown, new_group, cut_of, gives_nothing, shown_at}
use Rattle.group_state.specs.Machine.{Reply, steps}
use Rattle.group_state.specs.Machine.Call.{Form}
use Rattle.group_state.specs.Machine.Reply.{Formed, Nothing}
use Rattle.group_state.specs.Runs.{Answer, event_of, history, shown_by, Runs}
use Rattle.group_state.specs.HistoryLaws.{RunsAreHistories, answered, joined_answer, HasForm, IsGroupOf, FormsGiveGroups, NoLateJoin}
use Rattle.group_state.proofs.Stands.{Stands, stands_first}
use Rattle.group_state.proofs.Forms.{shows_group}
use Rattle.group_state.proofs.Steps.{with_event, step}

pub event_first : (past : List Event) (x : Option Event) (rest : List Event) → with_event past x ++ rest ≡ past ++ cons_option x rest
event_first past None rest = refl
event_first past (Some x) rest = append_assoc past (x ∷ []) rest

pub stands_after : (n : ℕ) (past : List Event) (s : Group) (run : List Answer) (end : Group) → Stands n past s → Runs s run end → Stands n (past ++ history run) end
stands_after n past s [] end h runs = subst (λ p. Stands n p end) (sym (append-nil past)) (subst (Stands n past) (sym runs) h)
stands_after n past s (a ∷ run) end h runs =
    let next = runs.0 in
    let one = step n past s a.call a.reply next h runs.1 runs.2 in
    subst (λ p. Stands n p end) (event_first past (event_of a) (history run)) (stands_after n (with_event past (event_of a)) next run end one runs.3)

pub runs_are_histories : RunsAreHistories
runs_are_histories n records blocks run s runs = (stands_after n [] (new_group n records blocks) run s (stands_first n records blocks) runs).follows

-- ---- what forms show

-- a run in two parts
pub record IsSplit (s : Group) (before rest : List Answer) (end : Group) : Type 0 where
  pub middle : Group
  pub first : Runs s before middle
  pub second : Runs middle rest end

pub split : (s : Group) (before rest : List Answer) (end : Group) → Runs s (before ++ rest) end → IsSplit s before rest end
split s [] rest end runs = record { middle = s; first = refl; second = runs }
split s (a ∷ before) rest end runs =
    let later = split runs.0 before rest end runs.3 in
    record { middle = later.middle; first = (runs.0, runs.1, runs.2, later.first); second = later.second }

pub form_shows : (s : Group) (limit : Stamp) (reply : Reply) (shown : Shown) (next : Group) → shown_by reply ≡ Some shown → steps s (Form limit) reply next → shown_at (cut_of s limit) s ≡ shown
form_shows s limit reply shown next is made = by_reply (gives_nothing s limit) (sym (ap shown_by made.0) ∙ is)
  where
    by_reply : (t : Bool) → shown_by (cond t (Nothing (shown_at (cut_of s limit) s)) (Formed (shown_at (cut_of s limit) s))) ≡ Some shown → shown_at (cut_of s limit) s ≡ shown
    by_reply true e = cc
    by_reply false e = cc

pub forms_give_groups : FormsGiveGroups
forms_give_groups n before later limit shown f =
    let first = new_group n f.records f.blocks in
    let parts = split first before (answered limit f.reply ∷ later) f.last f.runs in
    let h = stands_after n [] first before parts.middle (stands_first n f.records f.blocks) parts.first in
    subst (IsGroupOf n limit (history before)) (form_shows parts.middle limit f.reply shown parts.second.0 f.shows parts.second.2) (shows_group n (history before) parts.middle limit h)

-- ---- no late join

-- a form in the history of a run
form_in : (before later : List Answer) (limit : Stamp) (reply : Reply) (shown : Shown) → shown_by reply ≡ Some shown → history (before ++ answered limit reply ∷ later) ≡ history before ++ Forms shown.cut.0 ∷ history later
form_in before later limit reply shown is =
    filter_map-append event_of before (answered limit reply ∷ later)
    ∙ ap (λ (o : Option Shown). history before ++ cons_option (option_map (λ shown. Forms shown.cut.0) o) (history later)) is

pub form_legal : (n : ℕ) (before later : List Answer) (limit : Stamp) (shown : Shown) → HasForm n before later limit shown → are_legal n [] (history before ++ Forms shown.cut.0 ∷ history later) ≡ true
form_legal n before later limit shown f =
    subst (λ events. are_legal n [] events ≡ true) (form_in before later limit f.reply shown f.shows) (runs_are_histories n f.records f.blocks (before ++ answered limit f.reply ∷ later) f.last f.runs).legal

pub no_late_join : NoLateJoin
no_late_join n before between later limit shown b f =
    let rest = between ++ joined_answer b ∷ later in
    let cut = shown.cut.0 in
    let above : list_all (joins_above cut) (history rest) ≡ true = no_late n (history before) (history rest) cut (form_legal n before rest limit shown f) in
    let parts = sym (ap (list_all (joins_above cut)) (filter_map-append event_of between (joined_answer b ∷ later)) ∙ list_all-append (joins_above cut) (history between) (Joins b ∷ history later)) ∙ above in
    let second = and_parts (list_all (joins_above cut) (history between)) (list_all (joins_above cut) (Joins b ∷ history later)) parts in
    (and_parts (joins_above cut (Joins b)) (list_all (joins_above cut) (history later)) second.1).0
