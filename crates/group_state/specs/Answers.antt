-- What the calls of a group state answer, as replies of the machine.
use Rattle.group_state.specs.declared.joining.Joining as joining
use Rattle.group_state.specs.declared.joining.Joining.TheVariants as joinings
use Rattle.group_state.specs.declared.joining.RunJoin as running
use Rattle.group_state.specs.declared.joining.RunJoin.TheVariants as runnings
use Rattle.group_state.specs.declared.joining.CopyJoin as copying
use Rattle.group_state.specs.declared.joining.CopyJoin.TheVariants as copyings
use Rattle.group_state.specs.declared.joining.Forming as forming
use Rattle.group_state.specs.declared.joining.Forming.TheVariants as formings
use Rattle.group_state.specs.Groups.{Shown}
use Rattle.group_state.specs.Machine.{Reply}
use Rattle.group_state.specs.Machine.Reply.{Joined, Held, Stale, Formed, Nothing}

abbrev pub join_reply : joining.Joining → Reply
join_reply joinings.Joined = Joined
join_reply (joinings.Held batch room) = Held room

abbrev pub run_reply : running.RunJoin → Reply
run_reply runnings.Joined = Joined
run_reply (runnings.Held room) = Held room

abbrev pub copy_reply : copying.CopyJoin → Reply
copy_reply copyings.Joined = Joined
copy_reply (copyings.Held room) = Held room
copy_reply copyings.Stale = Stale

abbrev pub form_reply : forming.Forming → Shown → Reply
form_reply formings.Formed shown = Formed shown
form_reply formings.Nothing shown = Nothing shown
