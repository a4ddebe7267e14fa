-- Worked logs with their deeds: of one controller or two, whose first carries its volume 0, of two tracks.
use Rattle.std.specs.Prelude.{ℕ, List, [], ◌∷◌, None, false, take}
use Rattle.ckd_track.specs.declared.layout.TheConstants.{BLOCKS_OF_QUEUE, WRITES_OF_RUN}
use Rattle.pair_table.specs.declared.row.PairRow.{PairRow}
use Rattle.group_state.specs.Groups.{Group, Shown, new_group, cut_of, shown_at}
use Rattle.group_state.specs.Machine.{Call}
use Rattle.group_state.specs.Machine.Call.{Join, Form, Carry, Drop, Resume}
use Rattle.group_state.specs.Runs.{Answer}
use Rattle.fed_logs.specs.ToldTracks.{HeldTracks}
use Rattle.record_rows.specs.Deeds.{Deed}
use Rattle.record_rows.specs.Deeds.Deed.{Logged, Changed}
use Rattle.fed_logs.specs.Moves.{HasRowIn, IsDuplex, IsLive, AreFewer, Plans}
use Rattle.group_tests.specs.CutVectors.{whole_on}
use Rattle.group_tests.specs.HistoryVectors.{answers_to}
use Rattle.group_tests.specs.StateVectors.{after_all, batch, raise, none_wanted, both_wanted, copy, state_of_two}

-- nothing is held, and no plan is known to be done
abbrev pub none_held : HeldTracks
none_held = λ k v x. None

abbrev pub none_known : Plans
none_known = λ k v. false

-- what a form with this limit shows
abbrev pub shown_of : Group → (limit : ℕ) → Shown
shown_of s limit = shown_at (cut_of s (record { 0 = limit })) s

-- the group of a form as a deed, with the rows after it
abbrev pub logged_of : Shown → List PairRow → Deed
logged_of shown rows = Logged shown.cut.0 shown.entries rows

abbrev pub form_to : (limit : ℕ) → Call
form_to limit = Form (record { 0 = limit })

abbrev pub one_control : Group
one_control = new_group 1 WRITES_OF_RUN BLOCKS_OF_QUEUE

-- ---- a cut

-- The second controller has reported up to 15 alone.
abbrev pub log_of_cut : List Answer
log_of_cut = answers_to state_of_two (form_to 0x40 ∷ [])

abbrev pub deeds_of_cut : (rows : List PairRow) → List Deed
deeds_of_cut rows = logged_of (shown_of state_of_two 0x40) rows ∷ []

-- ---- a pair that follows again

-- The volume is carried, with a write on track 1, until its pair is suspended after the group of that write.
abbrev pub before_drop : List Call
before_drop = Carry 0 0 none_wanted ∷ Join (batch 0 (whole_on 1 0x64 ∷ []) 0x6D) ∷ []

abbrev pub followed : Group
followed = after_all one_control before_drop

-- Its volume is dropped then. Writes of 110 and 120 come while it is. It is resumed, and its one owed track is copied.
abbrev pub until_copied : List Call
until_copied = form_to 0x6D ∷ Drop 0 0 false ∷ Join (batch 0 (whole_on 1 0x110 ∷ whole_on 1 0x120 ∷ []) 0x1FF) ∷ Resume 0 0 ∷ copy 1 0x1FF ∷ []

abbrev pub copied_again : Group
copied_again = after_all followed until_copied

abbrev pub log_of_drop : List Answer
log_of_drop = answers_to followed (take 2 until_copied)

abbrev pub deeds_of_drop : (rows fewer : List PairRow) → List Deed
deeds_of_drop rows fewer = logged_of (shown_of followed 0x6D) rows ∷ Changed 0x6D fewer ∷ []

-- A row of the first controller's volume 0 is live.
abbrev pub HasLiveRow : List PairRow → Type 0
HasLiveRow rows = HasRowIn IsLive 0 0 rows

-- A live pair is suspended before its volume is dropped.
pub record IsSuspendedFirst (rows fewer : List PairRow) : Type 0 where
  pub live : HasLiveRow rows
  pub less : AreFewer rows fewer
  pub gone : HasRowIn IsDuplex 0 0 fewer → ⊥

abbrev pub log_of_resume : List Answer
log_of_resume = answers_to copied_again (form_to 0x1FF ∷ [])

abbrev pub deeds_of_resume : (next : List PairRow) → List Deed
deeds_of_resume next = logged_of (shown_of copied_again 0x1FF) next ∷ []

-- ---- a crash while copying

-- One of two tracks is copied at 60, and the other once the floor was raised to 63.
abbrev pub copies_in_two : List Call
copies_in_two = Carry 0 0 both_wanted ∷ raise 0 0x60 ∷ copy 0 0x60 ∷ raise 0 0x63 ∷ copy 1 0x63 ∷ []

abbrev pub copying : Group
copying = after_all one_control copies_in_two

abbrev pub log_of_copy : List Answer
log_of_copy = answers_to copying (form_to 0x60 ∷ [])

abbrev pub deeds_of_copy : (next : List PairRow) → List Deed
deeds_of_copy next = logged_of (shown_of copying 0x60) next ∷ []
