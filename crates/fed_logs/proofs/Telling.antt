-- What a feed's calls report.
use Rattle.std.proofs.Common.{◌≡◌, ◌≤◌, ℕ, true, List, [], ◌∷◌, ◌++◌, Option, Some, None, refl, sym, ap, subst, ◌∙◌, append-nil, append_assoc}
use Rattle.std.specs.Prelude.{filter}
use Rattle.std.specs.Option.{is_some}
use Rattle.tod_stamp.specs.declared.stamp.Stamp.{Stamp}
use Rattle.ckd_track.specs.declared.rec.Rec.{Rec}
use Rattle.ckd_track.specs.declared.write.Batch.{Batch}
use Rattle.ckd_track.specs.declared.write.Cause.{Cause}
use Rattle.pending_queue.specs.declared.room.Room.{Room}
use Rattle.write_trace.specs.declared.header.VolumeHead.{VolumeHead}
use Rattle.write_trace.specs.Headers.{is_track_of}
use Rattle.primary_ctl.specs.States.{PrimaryState, track_of, is_on, after_writes}
use Rattle.sidefile.specs.declared.hand.Hand.TheVariants as hands
use Rattle.sidefile.specs.declared.hand.Halt.{Halt}
use Rattle.sidefile.specs.declared.hand.Halt.TheVariants as halts
use Rattle.sidefile.specs.ExactHands.{IsDue}
use Rattle.sidefile.specs.Halts.{reached}
use Rattle.sidefile.specs.States.{SidefileState, front_of}
use Rattle.group_state.specs.Machine.{Call, Reply}
use Rattle.group_state.specs.Machine.Call.{Join, NextWanted, Copied, Raise, Break}
use Rattle.group_state.specs.Machine.Reply.{Made, Joined, Held, Wanted}
use Rattle.group_state.specs.Runs.{Answer}
use Rattle.fed_logs.specs.LaneFeeds.{FeedState, ReadsFurther, IsFeedSound}
use Rattle.group_state.specs.HistoryLaws.{joined_answer}
use Rattle.fed_logs.specs.Steps.{IsIdle, primary_at, held_answer, raised_answer, broken_answer, wanted_answer, copied_answer}
use Rattle.fed_logs.specs.Steps.FeedStep.{Hands, Joins, Lacks, Holds, Passes, Breaks, Wants, Asks, Copies}
use Rattle.fed_logs.specs.declared.reading.Reading.{Reading}
use Rattle.fed_logs.specs.declared.reading.Reading.TheVariants as readings
use Rattle.fed_logs.specs.Reporters.{ReporterState, reporter_after, HoldsBatch, HasFaultBy, IsRefusedBy, IsSameReporter, StepsOn, ReportsOn, WasRefused}
use Rattle.fed_logs.proofs.InTurn.{reads_nothing, reads_in_turn}
use Rattle.fed_logs.proofs.Stepping.{steps_read_on}

abbrev pub feed_of : SidefileState → PrimaryState → Option Batch → Option Halt → FeedState
feed_of side primary held halted = record { side = side; primary = primary; held = held; halted = halted }

same_reporter : (told : ReporterState) → IsSameReporter told told
same_reporter told = record { control = refl; volumes = refl }

called_reporter : (told then : ReporterState) (call : Call) (reply : Reply) → then ≡ reporter_after call reply told → IsSameReporter told then
called_reporter told then call reply called = record { control = ap (λ (s : ReporterState). s.control) called; volumes = ap (λ (s : ReporterState). s.volumes) called }

module _ (old : FeedState) (side : SidefileState) (primary : PrimaryState) (held : Option Batch) (halted : Option Halt) (is : feed_of side primary held halted ≡ old) where
  abbrev was : FeedState
  was = feed_of side primary held halted

  goes_inside : old.halted ≡ None → halted ≡ None
  goes_inside goes = ap (λ (f : FeedState). f.halted) is ∙ goes

  idle_inside : IsIdle old → IsIdle was
  idle_inside idle = record { goes_on = goes_inside idle.goes_on; none = ap (λ (f : FeedState). f.held) is ∙ idle.none }

  -- A feed that reads on has a sidefile that hands over.
  pub side_goes_on : old.halted ≡ None → IsFeedSound halted side primary held → side.halted ≡ None
  side_goes_on goes keeps =
      let g : ReadsFurther side primary held = subst (λ (h : Option Halt). IsFeedSound h side primary held) (goes_inside goes) keeps in
      g.hands

  -- A track of the reporter's volumes is one of the primary's.
  pub track_within : (told : ReporterState) → old.halted ≡ None → IsFeedSound halted side primary held → told.volumes ≡ old.side.reader.volumes → (v x : ℕ) → is_track_of told.volumes v x ≡ true → is_track_of primary.volumes v x ≡ true
  track_within told goes keeps volumes v x within =
      let g : ReadsFurther side primary held = subst (λ (h : Option Halt). IsFeedSound h side primary held) (goes_inside goes) keeps in
      let same : told.volumes ≡ primary.volumes = volumes ∙ sym (ap (λ (f : FeedState). f.side.reader.volumes) is) ∙ sym g.volumes in
      subst (λ (heads : List VolumeHead). is_track_of heads v x ≡ true) same within

  -- ---- the held batch

  module _ (left : Option (List ℕ)) (limit : Stamp) (batch : Batch) (told then : ReporterState) (goes : old.halted ≡ None) (has : held ≡ Some batch) where
    pub joined_step : (next : PrimaryState) (after : Option Batch) → after ≡ None → then ≡ reporter_after (Join batch) Joined told → ((v x : ℕ) → track_of next v x ≡ after_writes (track_of primary v x) (filter (is_on v x) batch.writes))
        → next.time ≡ batch.upto.0 → StepsOn left left limit old (feed_of side next after halted) told then
    joined_step next after none called tracks time =
        subst (λ (f : FeedState). StepsOn left left limit f (feed_of side next after halted) told then) is
        (subst (λ (h : Option Batch). StepsOn left left limit was (feed_of side next h halted) told then) (sym none)
        (record { same = called_reporter told then (Join batch) Joined called; gained = joined_answer batch ∷ []; answers = ap (λ (s : ReporterState). s.answers) called; step = Joins was batch next (goes_inside goes) has refl (record { tracks = tracks; time = time }) }))

    pub lacking_step : (next : PrimaryState) (after : Option Batch) → after ≡ None → then ≡ reporter_after (Join batch) Joined told → StepsOn left left limit old (feed_of side next after (Some halts.NoMemory)) told then
    lacking_step next after none called =
        subst (λ (f : FeedState). StepsOn left left limit f (feed_of side next after (Some halts.NoMemory)) told then) is
        (subst (λ (h : Option Batch). StepsOn left left limit was (feed_of side next h (Some halts.NoMemory)) told then) (sym none)
        (record { same = called_reporter told then (Join batch) Joined called; gained = joined_answer batch ∷ []; answers = ap (λ (s : ReporterState). s.answers) called; step = Lacks was batch next (goes_inside goes) has refl }))

    pub held_step : (room : Room) → then ≡ reporter_after (Join batch) (Held room) told → StepsOn left left limit old (feed_of side primary (Some batch) halted) told then
    held_step room called =
        subst (λ (f : FeedState). StepsOn left left limit f (feed_of side primary (Some batch) halted) told then) is
        (subst (λ (h : Option Batch). StepsOn left left limit was (feed_of side primary h halted) told then) has
        (record { same = called_reporter told then (Join batch) (Held room) called; gained = held_answer batch room ∷ []; answers = ap (λ (s : ReporterState). s.answers) called; step = Holds was batch room (goes_inside goes) has refl }))

  -- ---- a handover

  module _ (before now : Option (List ℕ)) (limit : Stamp) (next : SidefileState) (told then : ReporterState) (idle : IsIdle old) where
    pub handed_step : (batch : Batch) → IsDue side.control limit.0 before now (front_of side) (front_of next) (hands.Batch batch) → next.upto ≡ reached side.upto limit.0 (hands.Batch batch) → StepsOn before now limit old (feed_of next primary (Some batch) halted) told told
    handed_step batch due upto =
        subst (λ (f : FeedState). StepsOn before now limit f (feed_of next primary (Some batch) halted) told told) is
        (record { same = same_reporter told; gained = []; answers = sym (append-nil told.answers); step = Hands was next batch (idle_inside idle) (record { due = due; upto = upto }) })

    pub passed_step : (passed : PrimaryState) → passed ≡ primary_at limit.0 primary → old.side.upto ≤ limit.0 → told.control ≡ old.side.control → then ≡ reporter_after (Raise told.control limit) Made told
        → IsDue side.control limit.0 before now (front_of side) (front_of next) hands.AtLimit → next.upto ≡ reached side.upto limit.0 hands.AtLimit → StepsOn before now limit old (feed_of next passed held halted) told then
    passed_step passed stands low control called due upto =
        let own : told.control ≡ side.control = control ∙ sym (ap (λ (f : FeedState). f.side.control) is) in
        subst (λ (f : FeedState). StepsOn before now limit f (feed_of next passed held halted) told then) is
        (subst (λ (p : PrimaryState). StepsOn before now limit was (feed_of next p held halted) told then) (sym stands)
        (record {
          same = called_reporter told then (Raise told.control limit) Made called;
          gained = raised_answer side.control limit ∷ [];
          answers = ap (λ (s : ReporterState). s.answers) called ∙ ap (λ (k : ℕ). told.answers ++ raised_answer k limit ∷ []) own;
          step = Passes was next (idle_inside idle) (record { due = due; upto = upto }) (subst (λ (f : FeedState). f.side.upto ≤ limit.0) (sym is) low);
        }))

    pub broken_step : (cause : Cause) (upto : Stamp) (passed : PrimaryState) → passed ≡ primary_at upto.0 primary → told.control ≡ old.side.control → then ≡ reporter_after (Break told.control upto cause) Made told
        → IsDue side.control limit.0 before now (front_of side) (front_of next) (hands.Broken cause upto) → next.upto ≡ reached side.upto limit.0 (hands.Broken cause upto)
        → StepsOn before now limit old (feed_of next passed held (Some (halts.Broken cause upto))) told then
    broken_step cause upto passed stands control called due at =
        let own : told.control ≡ side.control = control ∙ sym (ap (λ (f : FeedState). f.side.control) is) in
        subst (λ (f : FeedState). StepsOn before now limit f (feed_of next passed held (Some (halts.Broken cause upto))) told then) is
        (subst (λ (p : PrimaryState). StepsOn before now limit was (feed_of next p held (Some (halts.Broken cause upto))) told then) (sym stands)
        (record {
          same = called_reporter told then (Break told.control upto cause) Made called;
          gained = broken_answer side.control upto cause ∷ [];
          answers = ap (λ (s : ReporterState). s.answers) called ∙ ap (λ (k : ℕ). told.answers ++ broken_answer k upto cause ∷ []) own;
          step = Breaks was next cause upto (idle_inside idle) (record { due = due; upto = at });
        }))

    pub wanting_step : next.upto ≡ reached side.upto limit.0 hands.NoMemory → StepsOn before now limit old (feed_of next primary held (Some halts.NoMemory)) told told
    wanting_step upto =
        subst (λ (f : FeedState). StepsOn before now limit f (feed_of next primary held (Some halts.NoMemory)) told told) is
        (record { same = same_reporter told; gained = []; answers = sym (append-nil told.answers); step = Wants was next (idle_inside idle) (record { due = tt; upto = upto }) })

-- ---- a copied track

pub asked_step : (left : Option (List ℕ)) (limit : Stamp) (feed : FeedState) (told then : ReporterState) (found : Option (ℕ × ℕ)) → feed.halted ≡ None → then ≡ reporter_after (NextWanted told.control) (Wanted found) told → StepsOn left left limit feed feed told then
asked_step left limit feed told then found goes called = record { same = called_reporter told then (NextWanted told.control) (Wanted found) called; gained = wanted_answer told.control found ∷ []; answers = ap (λ (s : ReporterState). s.answers) called; step = Asks feed told.control found goes refl }

pub copied_step : (left : Option (List ℕ)) (limit : Stamp) (feed : FeedState) (told then : ReporterState) (v x : ℕ) (at : Stamp) (slot : List Rec) (reply : Reply) → feed.halted ≡ None → slot ≡ track_of feed.primary v x
    → then ≡ reporter_after (Copied told.control v x at slot) reply told → StepsOn left left limit feed feed told then
copied_step left limit feed told then v x at slot reply goes is called = record {
  same = called_reporter told then (Copied told.control v x at slot) reply called;
  gained = copied_answer told.control v x at slot reply ∷ [];
  answers = ap (λ (s : ReporterState). s.answers) called;
  step = Copies feed told.control v x at slot reply goes refl is;
}

-- ---- calls one after another

pub tells_nothing : (left : Option (List ℕ)) (feed : FeedState) (told : ReporterState) → ReportsOn left left feed feed told told
tells_nothing left feed told = record { same = same_reporter told; gained = []; answers = sym (append-nil told.answers); reads_on = reads_nothing left feed }

pub tells_step : (before now : Option (List ℕ)) (limit : Stamp) (old new : FeedState) (told after : ReporterState) → StepsOn before now limit old new told after → ReportsOn before now old new told after
tells_step before now limit old new told after s = record { same = s.same; gained = s.gained; answers = s.answers; reads_on = steps_read_on before now limit old new s.gained s.step }

pub tells_in_turn : (before mid now : Option (List ℕ)) (a b c : FeedState) (told next after : ReporterState) → ReportsOn before mid a b told next → ReportsOn mid now b c next after → ReportsOn before now a c told after
tells_in_turn before mid now a b c told next after h k = record {
  same = record { control = k.same.control ∙ h.same.control; volumes = k.same.volumes ∙ h.same.volumes };
  gained = h.gained ++ k.gained;
  answers = k.answers ∙ ap (λ (l : List Answer). l ++ k.gained) h.answers ∙ append_assoc told.answers h.gained k.gained;
  reads_on = reads_in_turn before mid now a b c h.gained k.gained h.reads_on k.reads_on;
}

-- A track was asked for, and reported.
pub tells_copied : (left : Option (List ℕ)) (feed : FeedState) (told mid then : ReporterState) (found : Option (ℕ × ℕ)) (v x : ℕ) (at : Stamp) (slot : List Rec) (reply : Reply) → feed.halted ≡ None → mid ≡ reporter_after (NextWanted told.control) (Wanted found) told
    → slot ≡ track_of feed.primary v x → then ≡ reporter_after (Copied mid.control v x at slot) reply mid → ReportsOn left left feed feed told then
tells_copied left feed told mid then found v x at slot reply goes asked is called =
    tells_in_turn left left left feed feed feed told mid then (tells_step left left at feed feed told mid (asked_step left at feed told mid found goes asked))
    (tells_step left left at feed feed mid then (copied_step left at feed mid then v x at slot reply goes is called))

-- ---- what is held, and what was counted

pub holds_batch : (held : Option Batch) → is_some held ≡ true → HoldsBatch held
holds_batch None e = absurd cc
holds_batch (Some batch) e = (batch, refl)

-- A feed that reads on has met no fault, so that what is counted after it is counted from before.
pub fault_after : (faults risen : ℕ) (between halted : Option Halt) → between ≡ None → HasFaultBy faults risen between → HasFaultBy faults faults halted → HasFaultBy faults risen halted
fault_after faults risen between halted goes h k =
    let same : risen ≡ faults = subst (λ (x : Option Halt). HasFaultBy faults risen x) goes h in
    subst (λ (n : ℕ). HasFaultBy faults n halted) (sym same) k

-- ---- a batch that was refused

room_is : (room asked : Room) → (let a : Reading = readings.Held room in let b : Reading = readings.Held asked in a ≡ b) → room ≡ asked
room_is room asked same = cc

pub was_refused : (feed : FeedState) (batch : Batch) (room asked : Room) (told then : ReporterState) → feed.held ≡ Some batch → then ≡ reporter_after (Join batch) (Held room) told → (let a : Reading = readings.Held room in let b : Reading = readings.Held asked in a ≡ b)
    → WasRefused asked feed told then
was_refused feed batch room asked told then holds called same = record {
  batch = batch;
  holds = holds;
  answers = ap (λ (s : ReporterState). s.answers) called ∙ ap (λ (r : Room). told.answers ++ held_answer batch r ∷ []) (room_is room asked same);
}

-- So it was where nothing was reported before.
pub refused_after : (reading : Reading) (feed : FeedState) (told mid then : ReporterState) → mid ≡ told → IsRefusedBy reading feed mid then → IsRefusedBy reading feed told then
refused_after reading feed told mid then same refused = subst (λ (s : ReporterState). IsRefusedBy reading feed s then) same refused
