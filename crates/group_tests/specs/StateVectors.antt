-- What worked runs of the machine name.
use Rattle.std.specs.Prelude.{ℕ, List, [], ◌∷◌, map, fold, replicate, false, true}
use Rattle.ckd_track.specs.declared.layout.TheConstants.{BLOCKS_OF_QUEUE, WRITES_OF_RUN}
use Rattle.ckd_track.specs.declared.write.Kind.TheVariants.{Update}
use Rattle.ckd_track.specs.declared.write.Write.{Write}
use Rattle.ckd_track.specs.declared.write.Batch.{Batch}
use Rattle.copy_plan.specs.Plans.{PlanState, fresh_plan}
use Rattle.group_tests.specs.CutVectors.{whole_on}
use Rattle.group_state.specs.Groups.{Group, Shown, new_group}
use Rattle.group_state.specs.Machine.{Call, group_after}
use Rattle.group_state.specs.Machine.Call.{Join, Copied, Raise, Carry}

-- the state after these calls
abbrev pub after_all : Group → List Call → Group
after_all s calls = fold group_after s calls

-- a write on volume 0 that updates a record of a track
abbrev pub update_of : (count stamp : ℕ) → Write
update_of count stamp = record { volume = 0; track = 0; stamp = record { 0 = stamp }; kind = Update 1 (replicate count 7) }

abbrev pub batch : (control : ℕ) → List Write → (upto : ℕ) → Batch
batch k writes upto = record { control = k; writes = writes; upto = record { 0 = upto } }

abbrev pub raise : (control upto : ℕ) → Call
raise k upto = Raise k (record { 0 = upto })

-- plans of two tracks, of which none is wanted, and both
abbrev pub none_wanted : PlanState
none_wanted = fresh_plan (false ∷ false ∷ [])

abbrev pub both_wanted : PlanState
both_wanted = fresh_plan (true ∷ true ∷ [])

abbrev pub copy : (track at : ℕ) → Call
copy x at = Copied 0 0 x (record { 0 = at }) []

-- Two controllers, of which the first carries its volume 0 and has writes of 10 and 20; the second has reported up to 15.
abbrev pub state_of_two : Group
state_of_two = after_all (new_group 2 WRITES_OF_RUN BLOCKS_OF_QUEUE) (Carry 0 0 none_wanted ∷ Join (batch 0 (whole_on 0 0x10 ∷ []) 0x1F) ∷ Join (batch 0 (whole_on 1 0x20 ∷ []) 0x40) ∷ raise 1 0x15 ∷ [])

-- controller and track of what a form shows
abbrev pub tracks_shown : Shown → List (ℕ × ℕ)
tracks_shown shown = map (λ e. (e.head.control, e.head.track)) shown.entries
