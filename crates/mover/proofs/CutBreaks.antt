-- Each break that a form of a run shows is at the form's cut.
use Rattle.std.proofs.Common.{◌≡◌, Bool, true, false, cond, nat_eq, List, [], ◌∷◌, Some, None, refl, ap, ◌∙◌}
use Rattle.std.specs.List.{flat_map, list_all}
use Rattle.std.proofs.lemmas.Bool.{and_from}
use Rattle.tod_stamp.specs.declared.stamp.Stamp.{Stamp}
use Rattle.group_state.specs.declared.phase.Phase.{Phase}
use Rattle.group_state.specs.declared.phase.Phase.TheVariants.{Unbroken, Broken, Reported}
use Rattle.group_state.specs.Controls.{ControlState, fits, fits_track, reported, reported_break, reported_cause, room_of}
use Rattle.group_state.specs.Groups.{Group, control_at, cut_of, gives_nothing, shown_at}
use Rattle.group_state.specs.Machine.{Call, reply_to_copied, reply_to}
use Rattle.group_state.specs.Machine.Call.{Join, NextWanted, Copied, Raise, Break, Form, Carry, Drop, Resume, Forget}
use Rattle.group_state.specs.Machine.Reply.{Joined, Held, Formed, Nothing}
use Rattle.group_state.specs.Runs.{Answer, Runs, shown_by}
use Rattle.group_state.specs.Volumes.{is_wanted}
use Rattle.fed_logs.proofs.FeedEntries.{all_append}
use Rattle.fed_logs.specs.Feeds.{is_answer_of_mover, part_of_mover}
use Rattle.mover.specs.Moves.{are_shown_at_cuts, is_broken_at, is_shown_at_cut, shows_at_cut}
use Rattle.mover.proofs.LogParts.{all_filtered}

-- a controller's break is shown where its floor is the cut
own_at : (cut : Stamp) (c : ControlState) → list_all (is_broken_at cut.0) (reported_break cut c) ≡ true
own_at cut c = by_phase c.phase
  where
    by_phase : (phase : Phase) → list_all (is_broken_at cut.0) (reported c.queue.control c.floor (reported_cause cut c.floor phase)) ≡ true
    by_phase Unbroken = refl
    by_phase Reported = refl
    by_phase (Broken cause) = choose (nat_eq c.floor.0 cut.0) refl
      where
        choose : (t : Bool) → nat_eq c.floor.0 cut.0 ≡ t → list_all (is_broken_at cut.0) (reported c.queue.control c.floor (cond t (Some cause) None)) ≡ true
        choose true same = and_from (nat_eq c.floor.0 cut.0) true same refl
        choose false same = refl

all_at : (cut : Stamp) (controls : List ControlState) → list_all (is_broken_at cut.0) (flat_map (reported_break cut) controls) ≡ true
all_at cut [] = refl
all_at cut (c ∷ controls) = all_append (is_broken_at cut.0) (reported_break cut c) (flat_map (reported_break cut) controls) (own_at cut c) (all_at cut controls)

-- what a call's reply shows
shown_so : (s : Group) (call : Call) → shows_at_cut (shown_by (reply_to s call)) ≡ true
shown_so s (Join b) = choose (fits (control_at s b.control) b)
  where
    choose : (t : Bool) → shows_at_cut (shown_by (cond t Joined (Held (room_of (control_at s b.control))))) ≡ true
    choose true = refl
    choose false = refl
shown_so s (NextWanted k) = refl
shown_so s (Copied k v x at slot) = choose (is_wanted v x (control_at s k).volumes) (fits_track (control_at s k) slot)
  where
    choose : (t u : Bool) → shows_at_cut (shown_by (reply_to_copied t u (room_of (control_at s k)))) ≡ true
    choose true true = refl
    choose true false = refl
    choose false u = refl
shown_so s (Raise k upto) = refl
shown_so s (Break k upto cause) = refl
shown_so s (Form limit) = choose (gives_nothing s limit)
  where
    choose : (t : Bool) → shows_at_cut (shown_by (cond t (Nothing (shown_at (cut_of s limit) s)) (Formed (shown_at (cut_of s limit) s)))) ≡ true
    choose true = all_at (cut_of s limit) s.controls
    choose false = all_at (cut_of s limit) s.controls
shown_so s (Carry k v plan) = refl
shown_so s (Drop k v all) = refl
shown_so s (Resume k v) = refl
shown_so s (Forget k v) = refl

shown_at_cuts : (s : Group) (run : List Answer) (end : Group) → Runs s run end → are_shown_at_cuts run ≡ true
shown_at_cuts s [] end runs = refl
shown_at_cuts s (a ∷ run) end (next, may, is, rest) =
    and_from (is_shown_at_cut a) (are_shown_at_cuts run) (ap (λ r. shows_at_cut (shown_by r)) is.0 ∙ shown_so s a.call) (shown_at_cuts next run end rest)

-- So is each break that a form of the mover's part shows.
pub mover_shows_at_cuts : (s : Group) (run : List Answer) (end : Group) → Runs s run end → are_shown_at_cuts (part_of_mover run) ≡ true
mover_shows_at_cuts s run end runs = all_filtered is_shown_at_cut is_answer_of_mover run (shown_at_cuts s run end runs)
