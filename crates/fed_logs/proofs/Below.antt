-- The breaks that a feed's calls report are below the limit.
use Rattle.std.proofs.Common.{◌≡◌, ◌<◌, ℕ, true, nat_lt, List, [], ◌∷◌, ◌++◌, Option, Some, None, refl, sym, ap, subst, ◌∙◌, arith, append-nil, append_assoc}
use Rattle.std.specs.List.{list_all}
use Rattle.std.proofs.lemmas.Bool.{and_from, lt-ltb}
use Rattle.std.proofs.lemmas.List.{append_cancel_left}
use Rattle.tod_stamp.specs.declared.stamp.Stamp.{Stamp}
use Rattle.ckd_track.specs.declared.write.Cause.{Cause}
use Rattle.ckd_track.specs.declared.write.Cause.TheVariants.{ReadFault, BadTrace, Crowded}
use Rattle.write_trace.specs.declared.entry.Entry.{Entry}
use Rattle.sidefile.specs.declared.hand.Hand.TheVariants as hands
use Rattle.sidefile.specs.declared.hand.Halt.{Halt}
use Rattle.sidefile.specs.AheadEntries.{IsAhead, cause_ahead}
use Rattle.sidefile.specs.Breaks.{stamp}
use Rattle.sidefile.specs.ExactHands.{SidefileFront, IsDue, runs_ahead}
use Rattle.sidefile.specs.Hands.{batch_of, hand}
use Rattle.sidefile.specs.States.{front_of}
use Rattle.sidefile.proofs.HandLaws.{Step, step}
use Rattle.sidefile.proofs.HandLaws.Step.{Takes, Waits, Breaks as GivesUp}
use Rattle.group_state.specs.Runs.{Answer}
use Rattle.fed_logs.specs.ShownBreaks.{is_break_below}
use Rattle.fed_logs.specs.LaneFeeds.{FeedState}
use Rattle.fed_logs.specs.Reads.{AreLeft}
use Rattle.fed_logs.specs.Steps.{FeedStep, wanted_answer}
use Rattle.fed_logs.specs.Steps.FeedStep.{Hands, Joins, Lacks, Holds, Passes, Breaks, Wants, Asks, Copies}
use Rattle.fed_logs.specs.Reporters.{ReporterState, StepsOn, ReportsOn, BreaksBelow, IsHaltBelow, break_bound, copying_answers}
use Rattle.fed_logs.specs.FeedLaws.{NoCallBreaks, CallsBreakBelowInTurn, CopiesReportNoBreak}
use Rattle.fed_logs.proofs.FeedEntries.{all_append}
use Rattle.fed_logs.proofs.InTurn.{no_halt}

-- ---- a hand

-- A break that is handed over is below the limit.
hand_below : (control limit : ℕ) (cause : Option Cause) (all : List (List Entry)) (why : Cause) (upto : Stamp) → hands.Broken why upto ≡ hand control cause limit all → upto.0 < break_bound limit
hand_below control limit cause all why upto is = choose (step control cause limit all)
  where
    choose : Step control cause limit all → upto.0 < break_bound limit
    choose (Takes run more up first h there goes crowded clean) = absurd (let b : hands.Broken why upto ≡ hands.Batch (batch_of control run up) = is ∙ h in cc b)
    choose (Waits h above clean) = absurd (let b : hands.Broken why upto ≡ hands.AtLimit = is ∙ h in cc b)
    choose (GivesUp b h at there some br) =
        let same : hands.Broken why upto ≡ hands.Broken b.cause (stamp b.upto) = is ∙ h in
        let stamps : stamp b.upto ≡ upto = cc same in
        let time : b.upto ≡ upto.0 = ap (λ (s : Stamp). s.0) stamps in
        omega (arith, time, at, there)

-- So is one that is due.
due_below : (control limit : ℕ) (before now : Option (List ℕ)) (old new : SidefileFront) (cause : Cause) (upto : Stamp) → IsDue control limit before now old new (hands.Broken cause upto) → (bytes : List ℕ) → IsAhead old.reader before bytes
    → upto.0 < break_bound limit
due_below control limit before now old new ReadFault upto due bytes there =
    let f = due bytes there in
    hand_below control limit (Some ReadFault) (runs_ahead old f.front) ReadFault upto f.hand
due_below control limit before now old new (BadTrace place) upto due bytes there = hand_below control limit (cause_ahead old.reader bytes) (runs_ahead old bytes) (BadTrace place) upto (due bytes there)
due_below control limit before now old new (Crowded at) upto due bytes there = hand_below control limit (cause_ahead old.reader bytes) (runs_ahead old bytes) (Crowded at) upto (due bytes there)

-- ---- a step

abbrev AreBelow : (limit : ℕ) → List Answer → Type 0
AreBelow limit gained = list_all (is_break_below (break_bound limit)) gained ≡ true

reads_further : (limit : ℕ) (halted : Option Halt) → halted ≡ None → IsHaltBelow limit halted
reads_further limit halted goes = subst (IsHaltBelow limit) (sym goes) tt

-- What calls gained is below a limit, and so is the halt.
abbrev IsBelow : (limit : ℕ) → (old new : FeedState) → List Answer → Type 0
IsBelow limit old new gained = AreBelow limit gained × (old.halted ≡ None → IsHaltBelow limit new.halted)

step_is_below : (before now : Option (List ℕ)) (limit : Stamp) (old new : FeedState) (gained : List Answer) → FeedStep before now limit old new gained → (bytes : List ℕ) → IsAhead old.side.reader before bytes → IsBelow limit.0 old new gained
step_is_below before now limit _ _ _ (Hands old side batch idle h) bytes there = (refl, reads_further limit.0 old.halted)
step_is_below before now limit _ _ _ (Joins old batch primary goes held same takes) bytes there = (refl, reads_further limit.0 old.halted)
step_is_below before now limit _ _ _ (Lacks old batch primary goes held same) bytes there = (refl, λ goes. tt)
step_is_below before now limit _ _ _ (Holds old batch room goes held same) bytes there = (refl, reads_further limit.0 old.halted)
step_is_below before now limit _ _ _ (Passes old side idle h low) bytes there = (refl, reads_further limit.0 old.halted)
step_is_below before now limit _ _ _ (Breaks old side cause upto idle h) bytes there =
    let low = due_below old.side.control limit.0 before now (front_of old.side) (front_of side) cause upto h.due bytes there in
    (and_from (nat_lt upto.0 (break_bound limit.0)) true (lt-ltb upto.0 (break_bound limit.0) low) refl, λ goes. low)
step_is_below before now limit _ _ _ (Wants old side idle h) bytes there = (refl, λ goes. tt)
step_is_below before now limit _ _ _ (Asks old k found goes same) bytes there = (refl, reads_further limit.0 old.halted)
step_is_below before now limit _ _ _ (Copies old k v x at slot reply goes same is) bytes there = (refl, reads_further limit.0 old.halted)

-- What a reporter gained is one list.
of_gained : (limit : ℕ) (told after : ReporterState) (own : List Answer) → after.answers ≡ told.answers ++ own → AreBelow limit own → (gained : List Answer) → after.answers ≡ told.answers ++ gained → AreBelow limit gained
of_gained limit told after own is below gained again = subst (AreBelow limit) (append_cancel_left told.answers own gained (sym is ∙ again)) below

pub step_below : (before now : Option (List ℕ)) (limit : Stamp) (old new : FeedState) (told after : ReporterState) → StepsOn before now limit old new told after → BreaksBelow limit.0 before old new told after
step_below before now limit old new told after s = record {
  told_so = λ bytes there. of_gained limit.0 told after s.gained s.answers (step_is_below before now limit old new s.gained s.step bytes there).0;
  halts = λ goes bytes there. (step_is_below before now limit old new s.gained s.step bytes there).1 goes;
}

-- ---- calls one after another

pub nothing_breaks : NoCallBreaks
nothing_breaks limit left feed told = record { told_so = λ bytes there. of_gained limit told told [] (sym (append-nil told.answers)) refl; halts = λ goes bytes there. reads_further limit feed.halted goes }

module _ (limit : ℕ) (before mid now : Option (List ℕ)) (a b c : FeedState) (told next after : ReporterState) (h : ReportsOn before mid a b told next) (k : ReportsOn mid now b c next after) where
  -- A feed that reads on after calls did so before.
  went : (halted : Option Halt) → a.halted ≡ halted → b.halted ≡ None → a.halted ≡ None
  went None was is = was
  went (Some halt) was is = absurd (no_halt b.halted halt is (ap (λ (f : FeedState). f.halted) (h.reads_on.stays halt was).0 ∙ was))

  left_ahead : b.halted ≡ None → (bytes : List ℕ) → IsAhead a.side.reader before bytes → (rest : List ℕ) × IsAhead b.side.reader mid rest
  left_ahead is bytes there =
      let r = h.reads_on.reads (went a.halted refl is) bytes there in
      (r.rest, subst (λ (x : Option Halt). AreLeft mid x b.side.reader r.rest) is r.left)

  module _ (then : BreaksBelow limit mid b c next after) (bytes : List ℕ) (there : IsAhead a.side.reader before bytes) where
    answers_then : (halted : Option Halt) → b.halted ≡ halted → AreBelow limit k.gained
    answers_then (Some halt) is = subst (AreBelow limit) (sym (k.reads_on.stays halt is).1) refl
    answers_then None is = let l = left_ahead is bytes there in then.told_so l.0 l.1 k.gained k.answers

    halts_then : (halted : Option Halt) → b.halted ≡ halted → IsHaltBelow limit b.halted → IsHaltBelow limit c.halted
    halts_then (Some halt) is low = subst (λ (f : FeedState). IsHaltBelow limit f.halted) (sym (k.reads_on.stays halt is).0) low
    halts_then None is low = let l = left_ahead is bytes there in then.halts is l.0 l.1

pub below_in_turn : CallsBreakBelowInTurn
below_in_turn limit before mid now a b c told next after h low k then = record {
  told_so = λ bytes there.
      of_gained limit told after (h.gained ++ k.gained) (k.answers ∙ ap (λ (l : List Answer). l ++ k.gained) h.answers ∙ append_assoc told.answers h.gained k.gained)
      (all_append (is_break_below (break_bound limit)) h.gained k.gained (low.told_so bytes there h.gained h.answers) (answers_then limit before mid now a b c told next after h k then bytes there b.halted refl));
  halts = λ goes bytes there. halts_then limit before mid now a b c told next after h k then bytes there b.halted refl (low.halts goes bytes there);
}

pub copies_report_no_break : CopiesReportNoBreak
copies_report_no_break limit left None feed told after goes copied = record {
  told_so = λ bytes there. of_gained limit told after (wanted_answer told.control None ∷ []) copied refl;
  halts = λ was bytes there. reads_further limit feed.halted goes;
}
copies_report_no_break limit left (Some joined) feed told after goes copied = record {
  told_so = λ bytes there. of_gained limit told after (copying_answers told.control feed.primary copied.volume copied.track copied.at joined) copied.answers refl;
  halts = λ was bytes there. reads_further limit feed.halted goes;
}
