-- What the readers of lanes did, one round after another.
use Rattle.std.proofs.Common.{◌≡◌, ℕ, true, List, [], ◌++◌, Option, Some, None, refl, sym, ap, subst, ◌∙◌, arith, append_assoc}
use Rattle.std.specs.Prelude.{IsSomeAnd, slice_index_or}
use Rattle.std.specs.List.{All, list_all}
use Rattle.std.proofs.lemmas.List.{append_cancel_left}
use Rattle.sidefile.specs.declared.hand.Halt.{Halt}
use Rattle.sidefile.specs.declared.hand.Halt.TheVariants as halts
use Rattle.group_state.specs.Runs.{Answer}
use Rattle.fed_logs.specs.ShownBreaks.{is_break_below}
use Rattle.fed_logs.specs.LaneFeeds.{FeedState}
use Rattle.fed_logs.specs.Reads.{ReadsOn}
use Rattle.fed_logs.specs.Reporters.{BreaksBelow, HasFaultBy, ReporterState, ReportsOn, break_bound}
use Rattle.fed_logs.proofs.Below.{below_in_turn}
use Rattle.fed_logs.proofs.InTurn.{reads_in_turn}
use Rattle.fed_logs.proofs.UpToLimit.{up_to_in_turn}
use Rattle.turn_group.specs.Seats.{TurnState}
use Rattle.mover.specs.declared.lane.Lane.{Lane}
use Rattle.mover.specs.Readers.{LaneReaderState}
use Rattle.mover.specs.Lanes.{AllLanesRead, BreaksInRound, HasFaultFrom, IsLaneSeated, MayGoOn, MayLaneRead, MayRead, ReadsInRound, Sits, SourceRead, answers_of}
use Rattle.mover.proofs.Parts.{fault_then, reads_none}

-- ---- a reader

-- A count of faults after two rounds: a feed that has broken stays so.
faults_then : (old mid new : Option Halt) (faults between risen : ℕ) → ((halt : Halt) → old ≡ Some halt → mid ≡ old) → ((halt : Halt) → mid ≡ Some halt → new ≡ mid) → HasFaultFrom old faults between mid → HasFaultFrom mid between risen new
    → HasFaultFrom old faults risen new
faults_then (Some halt) mid new faults between risen stays later first then = subst (λ (h : Option Halt). HasFaultFrom h between risen new) (stays halt refl) then ∙ first
faults_then None None new faults between risen stays later first then = fault_then faults between risen new first then
faults_then None (Some halt) new faults between risen stays later first then =
    subst (λ (h : Option Halt). HasFaultBy faults risen h) (sym (later halt refl)) (subst (λ (n : ℕ). HasFaultBy faults n (Some halt)) (sym then) first)

-- a reporter of which these answers alone are told
abbrev reporter_with : List Answer → ReporterState
reporter_with answers = record { control = 0; volumes = []; floor = 0; reporting = true; answers = answers }

tells_with : (before now : Option (List ℕ)) (old new : FeedState) (told gained : List Answer) → ReadsOn before now old new gained → ReportsOn before now old new (reporter_with told) (reporter_with (told ++ gained))
tells_with before now old new told gained reads = record { same = record { control = refl; volumes = refl }; gained = gained; answers = refl; reads_on = reads }

below_with : (limit : ℕ) (before : Option (List ℕ)) (old new : FeedState) (told gained : List Answer) → BreaksInRound limit before old new gained → BreaksBelow limit before old new (reporter_with told) (reporter_with (told ++ gained))
below_with limit before old new told gained low = record {
  told_so = λ bytes there more same. subst (λ (l : List Answer). list_all (is_break_below (break_bound limit)) l ≡ true) (append_cancel_left told gained more same) (low.told bytes there);
  halts = low.halts;
}

module _ (limit : ℕ) (before mid now : Option (List ℕ)) where
  breaks_then : (a b c : FeedState) (one two : List Answer) → ReadsOn before mid a b one → BreaksInRound limit before a b one → ReadsOn mid now b c two → BreaksInRound limit mid b c two → BreaksInRound limit before a c (one ++ two)
  breaks_then a b c one two first low then below =
      let all = below_in_turn limit before mid now a b c (reporter_with []) (reporter_with one) (reporter_with (one ++ two)) (tells_with before mid a b [] one first) (below_with limit before a b [] one low) (tells_with mid now b c one two then) (below_with limit mid b c one two below) in
      record { told = λ bytes there. all.told_so bytes there (one ++ two) refl; halts = all.halts }

  pub reads_then : (faults between risen : ℕ) (old turn new : LaneReaderState) → ReadsInRound limit before mid faults between old turn → ReadsInRound limit mid now between risen turn new → ReadsInRound limit before now faults risen old new
  reads_then faults between risen old turn new first then = record {
    gained = first.gained ++ then.gained;
    answers = then.answers ∙ ap (λ (l : List Answer). l ++ then.gained) first.answers ∙ append_assoc (answers_of old) first.gained then.gained;
    same = record { control = then.same.control ∙ first.same.control; heads = then.same.heads ∙ first.same.heads };
    reads_on = reads_in_turn before mid now old.feed turn.feed new.feed first.gained then.gained first.reads_on then.reads_on;
    up_to = up_to_in_turn limit before mid now old.feed turn.feed new.feed first.gained then.gained first.reads_on first.up_to then.reads_on then.up_to;
    below = breaks_then old.feed turn.feed new.feed first.gained then.gained first.reads_on first.below then.reads_on then.below;
    fault = faults_then old.feed.halted turn.feed.halted new.feed.halted faults between risen (λ halt is. ap (λ (f : FeedState). f.halted) (first.reads_on.stays halt is).0) (λ halt is. ap (λ (f : FeedState). f.halted) (then.reads_on.stays halt is).0) first.fault then.fault;
  }

-- ---- lanes

module _ {S : Type 0} (left : S → Option (List ℕ)) (faults : S → ℕ) (at : TurnState) (limit : ℕ) where
  -- what a lane's reader did, by the reader before and after it
  abbrev pub DidRead : (source then : S) → (old new : Option LaneReaderState) → Type 0
  DidRead source then old new = IsSomeAnd old (λ was. IsSomeAnd new (λ is. Sits at limit is × SourceRead left faults limit source then was is))

  did_then : (s t u : S) (a b c : Option LaneReaderState) → DidRead s t a b → DidRead t u b c → DidRead s u a c
  did_then s t u None b c first then = absurd first
  did_then s t u (Some old) None c first then = absurd first
  did_then s t u (Some old) (Some turn) None first then = absurd then
  did_then s t u (Some old) (Some turn) (Some new) first then = (then.0, reads_then limit (left s) (left t) (left u) (faults s) (faults t) (faults u) old turn new first.1 then.1)

  did_none : (s : S) (a : Option LaneReaderState) → IsSomeAnd a (MayRead at limit) → DidRead s s a a
  did_none s None may = absurd may
  did_none s (Some r) may = (may.0, reads_none limit (left s) (faults s) r r.feed r.seat r.last r.last refl)

  did_sits : (s t : S) (a b : Option LaneReaderState) → DidRead s t a b → IsSomeAnd b (Sits at limit)
  did_sits s t None b did = absurd did
  did_sits s t (Some old) None did = absurd did
  did_sits s t (Some old) (Some new) did = did.0

  sits_and : (a : Option LaneReaderState) → IsSomeAnd a (Sits at limit) → IsSomeAnd a (λ r. MayGoOn r.feed) → IsSomeAnd a (MayRead at limit)
  sits_and None sits goes = absurd sits
  sits_and (Some r) sits goes = (sits, goes)

  -- No round.
  pub all_none : (lanes : List (Lane S)) → All (MayLaneRead at limit) lanes → AllLanesRead left faults at limit lanes lanes
  all_none lanes may = record { same = refl; each = λ k d low. did_none (slice_index_or lanes k d).source (slice_index_or lanes k d).reader (may k d low) }

  module _ (old turn new : List (Lane S)) (first : AllLanesRead left faults at limit old turn) where
    -- One more round.
    pub all_then : AllLanesRead left faults at limit turn new → AllLanesRead left faults at limit old new
    all_then then = record {
      same = then.same ∙ first.same;
      each = λ k d low. did_then (slice_index_or old k d).source (slice_index_or turn k d).source (slice_index_or new k d).source (slice_index_or old k d).reader (slice_index_or turn k d).reader (slice_index_or new k d).reader
          (first.each k d low) (then.each k d (omega (arith, low, first.same)));
    }

  module _ (old new : List (Lane S)) (did : AllLanesRead left faults at limit old new) where
    pub all_sit : All (IsLaneSeated at limit) new
    all_sit k d low = did_sits (slice_index_or old k d).source (slice_index_or new k d).source (slice_index_or old k d).reader (slice_index_or new k d).reader (did.each k d (omega (arith, low, did.same)))

    -- Readers of which none lacks memory may read again.
    pub all_again : All (λ (lane : Lane S). IsSomeAnd lane.reader (λ r. MayGoOn r.feed)) new → All (MayLaneRead at limit) new
    all_again goes k d low = sits_and (slice_index_or new k d).reader (all_sit k d low) (goes k d low)
