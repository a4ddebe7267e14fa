-- Calls one after another read on.
use Rattle.std.proofs.Common.{◌≡◌, ℕ, Bool, true, false, cond, List, [], ◌∷◌, ◌++◌, Option, Some, None, refl, sym, ap, subst, ◌∙◌, append-nil, append_assoc}
use Rattle.std.specs.Prelude.{MatchBool}
use Rattle.tod_stamp.specs.declared.stamp.Stamp.{Stamp}
use Rattle.ckd_track.specs.declared.write.Cause.{Cause}
use Rattle.write_trace.specs.declared.trace.Trace.{Trace}
use Rattle.sidefile.specs.declared.hand.Halt.{Halt}
use Rattle.sidefile.specs.declared.hand.Halt.TheVariants as halts
use Rattle.sidefile.specs.AheadEntries.{IsAhead}
use Rattle.group_state.specs.Calls.{reporting_after}
use Rattle.group_state.specs.Runs.{Answer}
use Rattle.fed_logs.specs.ToldTracks.{has_changed}
use Rattle.fed_logs.specs.Feeds.{AreFedBy, IsFedBy, floor_after_call}
use Rattle.fed_logs.specs.LaneFeeds.{FeedState, floor_after_calls, reporting_after_calls}
use Rattle.fed_logs.specs.Reads.{Outlook, HasRead, AreLeft, StandsSo, MayTurnOutOf, IsToFailIn, IsStillToCome, ReadsBytes, ReadsOn}
use Rattle.fed_logs.specs.Reads.Outlook.{Whole, Failing}
use Rattle.fed_logs.specs.FeedLaws.{NoCallReadsNothing, CallsReadInTurn}

floors_then : (floor : ℕ) (a b : List Answer) → floor_after_calls floor (a ++ b) ≡ floor_after_calls (floor_after_calls floor a) b
floors_then floor [] b = refl
floors_then floor (x ∷ a) b = floors_then (cond (has_changed x.reply) (floor_after_call floor x.call) floor) a b

reporting_then : (reporting : Bool) (a b : List Answer) → reporting_after_calls reporting (a ++ b) ≡ reporting_after_calls (reporting_after_calls reporting a) b
reporting_then reporting [] b = refl
reporting_then reporting (x ∷ a) b = reporting_then (reporting_after x.call reporting) a b

pub fed_then : (t : Trace) (floor : ℕ) (a b : List Answer) → AreFedBy t floor a → AreFedBy t (floor_after_calls floor a) b → AreFedBy t floor (a ++ b)
fed_then t floor [] b h k = k
fed_then t floor (x ∷ a) b h k = choose (has_changed x.reply) (λ n. fed_then t n a b) h k
  where
    choose : (changed : Bool) → ((n : ℕ) → AreFedBy t n a → AreFedBy t (floor_after_calls n a) b → AreFedBy t n (a ++ b)) → MatchBool changed (IsFedBy t floor x.call × AreFedBy t (floor_after_call floor x.call) a) (AreFedBy t floor a)
        → AreFedBy t (floor_after_calls (cond changed (floor_after_call floor x.call) floor) a) b → MatchBool changed (IsFedBy t floor x.call × AreFedBy t (floor_after_call floor x.call) (a ++ b)) (AreFedBy t floor (a ++ b))
    choose true others h k = (h.0, others (floor_after_call floor x.call) h.1 k)
    choose false others h k = others floor h k

pub no_halt : (halted : Option Halt) (halt : Halt) → halted ≡ None → halted ≡ Some halt → ⊥
no_halt halted halt none some = let e : None ≡ Some halt = sym none ∙ some in cc e

-- A feed that reads on hasn't broken.
pub unbroken : (halted : Option Halt) (gained : List Answer) → halted ≡ None → (cause : Cause) (upto : Stamp) → halted ≡ Some (halts.Broken cause upto) → reporting_after_calls true gained ≡ false
unbroken halted gained goes cause upto broke = absurd (no_halt halted (halts.Broken cause upto) goes broke)

pub reads_nothing : NoCallReadsNothing
reads_nothing told feed = record {
  stays = λ halt is. (refl, refl, refl);
  floor = λ not. refl;
  reporting = λ goes. refl;
  told = unbroken feed.halted [];
  reads = λ goes bytes there. record {
    used = [];
    rest = bytes;
    split = refl;
    left = subst (λ (h : Option Halt). AreLeft told h feed.side.reader bytes) (sym goes) there;
    could = λ o later turn. turn;
    fails = λ later fails. fails;
    reads = λ o t later come turn read. record { fed = tt; stands = subst (λ (h : Option Halt). StandsSo o later t feed h) (sym goes) read };
  };
}

pub still_before : (o : Outlook) (rest used more later : List ℕ) → rest ≡ used ++ more → IsStillToCome o more later → IsStillToCome o rest (used ++ later)
still_before Whole rest used more later split come = ap (λ (x : List ℕ). used ++ x) come ∙ sym split
still_before Failing rest used more later split come = tt

-- Bytes that calls one after another used.
abbrev pub bytes_in_turn : (mid now : Option (List ℕ)) (a b c : FeedState) (first then : List Answer) (bytes : List ℕ) → floor_after_calls a.primary.time first ≡ b.primary.time → b.halted ≡ None → (r : ReadsBytes mid a b first bytes)
    → ReadsBytes now b c then r.rest → ReadsBytes now a c (first ++ then) bytes
bytes_in_turn mid now a b c first then bytes floor is r s = record {
  used = r.used ++ s.used;
  rest = s.rest;
  split = r.split ∙ ap (λ (x : List ℕ). r.used ++ x) s.split ∙ sym (append_assoc r.used s.used s.rest);
  left = s.left;
  could = λ o later turn. subst (λ (x : List ℕ). MayTurnOutOf o x a) (sym (append_assoc r.used s.used later)) (r.could o (s.used ++ later) (s.could o later turn));
  fails = λ later fails. subst (λ (x : List ℕ). IsToFailIn x a) (sym (append_assoc r.used s.used later)) (r.fails (s.used ++ later) (s.fails later fails));
  reads = λ o t later come turn read.
      let all : HasRead o (r.used ++ (s.used ++ later)) t a = subst (λ (x : List ℕ). HasRead o x t a) (append_assoc r.used s.used later) read in
      let one = r.reads o t (s.used ++ later) (still_before o r.rest s.used s.rest later s.split come) (s.could o later turn) all in
      let two = s.reads o t later come turn (subst (λ (x : Option Halt). StandsSo o (s.used ++ later) t b x) is one.stands) in
      record { fed = fed_then t a.primary.time first then one.fed (subst (λ (n : ℕ). AreFedBy t n then) (sym floor) two.fed); stands = two.stands };
}

-- Bytes are ahead of a feed that reads on after calls.
pub still_ahead : (mid : Option (List ℕ)) (a b : FeedState) (first : List Answer) (bytes : List ℕ) → b.halted ≡ None → (r : ReadsBytes mid a b first bytes) → IsAhead b.side.reader mid r.rest
still_ahead mid a b first bytes is r = subst (λ (x : Option Halt). AreLeft mid x b.side.reader r.rest) is r.left

pub reads_in_turn : CallsReadInTurn
reads_in_turn before mid now a b c first then h k = choose b.halted refl
  where
    choose : (halt : Option Halt) → b.halted ≡ halt → ReadsOn before now a c (first ++ then)
    choose (Some halt) is =
        let s = k.stays halt is in
        subst (λ (n : Option (List ℕ)). ReadsOn before n a c (first ++ then)) (sym s.2)
        (subst (λ (f : FeedState). ReadsOn before mid a f (first ++ then)) (sym s.0)
        (subst (λ (l : List Answer). ReadsOn before mid a b l) (sym (ap (λ (l : List Answer). first ++ l) s.1 ∙ append-nil first)) h))
    choose None is =
        let floor : floor_after_calls a.primary.time first ≡ b.primary.time = h.floor (λ lack. no_halt b.halted halts.NoMemory is lack) in
        record {
          stays = λ halt was. absurd (no_halt b.halted halt is (ap (λ (f : FeedState). f.halted) (h.stays halt was).0 ∙ was));
          floor = λ not. floors_then a.primary.time first then ∙ ap (λ (n : ℕ). floor_after_calls n then) floor ∙ k.floor not;
          reporting = λ goes. reporting_then true first then ∙ ap (λ t. reporting_after_calls t then) (h.reporting is) ∙ k.reporting goes;
          told = λ goes cause upto broke. reporting_then true first then ∙ ap (λ t. reporting_after_calls t then) (h.reporting is) ∙ k.told is cause upto broke;
          reads = λ goes bytes there.
              let r = h.reads goes bytes there in
              bytes_in_turn mid now a b c first then bytes floor is r (k.reads is r.rest (still_ahead mid a b first bytes is r));
        }
