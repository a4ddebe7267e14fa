-- Calls on a feed go as far towards a limit as its trace lets them.
use Rattle.std.proofs.Common.{◌≡◌, ◌<◌, ◌+◌, ◌-◌, ◌&&◌, ◌||◌, ℕ, min, Bool, true, false, nat_eq, nat_lt, eq-eqb, List, [], ◌∷◌, ◌++◌, Option, Some, None, refl, sym, ap, subst, ◌∙◌, arith, append-nil, append_assoc}
use Rattle.std.specs.List.{list_all, list_any}
use Rattle.std.proofs.lemmas.Bool.{and_from, and_parts, eqb-false, lt-ltb, or_left, or_right}
use Rattle.std.proofs.lemmas.List.{append_cancel_left}
use Rattle.std.proofs.lemmas.List.Folds.{list_any-append}
use Rattle.tod_stamp.specs.declared.stamp.Stamp.{Stamp}
use Rattle.ckd_track.specs.declared.write.Batch.{Batch}
use Rattle.write_trace.specs.declared.entry.Entry.{Entry}
use Rattle.write_trace.specs.declared.trace.Trace.{Trace}
use Rattle.write_trace.specs.Entries.{stamp_of}
use Rattle.sidefile.specs.declared.hand.Hand.TheVariants as hands
use Rattle.sidefile.specs.declared.hand.Halt.{Halt}
use Rattle.sidefile.specs.declared.hand.Halt.TheVariants as halts
use Rattle.sidefile.specs.AheadEntries.{IsAhead, ahead}
use Rattle.sidefile.specs.Breaks.{cause_of}
use Rattle.sidefile.specs.Runs.{runs}
use Rattle.sidefile.specs.States.{SidefileState}
use Rattle.sidefile.proofs.HandLaws.{GoesTo, IsAbove}
use Rattle.sidefile.proofs.RunLaws.{begins}
use Rattle.group_state.specs.Machine.Call.{Join}
use Rattle.group_state.specs.Runs.{Answer}
use Rattle.fed_logs.specs.Feeds.{goes_up_to, has_entry_at, is_entry_at, is_up_to_limit}
use Rattle.fed_logs.specs.LaneFeeds.{FeedState}
use Rattle.fed_logs.specs.Reads.{Outlook, HasRead, IsStillToCome, MayTurnOut, ReadsOn, StandsSo}
use Rattle.fed_logs.specs.Limits.{GoesUpTo, GoesUpToBy, IsHeldUpTo, WentUpTo}
use Rattle.group_state.specs.HistoryLaws.{joined_answer}
use Rattle.fed_logs.specs.Steps.{FeedStep, HandsOver, primary_at, held_answer, raised_answer, broken_answer, wanted_answer, copied_answer}
use Rattle.fed_logs.specs.Steps.FeedStep.{Hands, Joins, Lacks, Holds, Passes, Breaks, Wants, Asks, Copies}
use Rattle.fed_logs.specs.Reporters.{ReporterState, StepsOn, ReportsOn, ReportsUpTo, copying_answers}
use Rattle.fed_logs.specs.FeedLaws.{NoCallGoesUpTo, CallsGoUpToInTurn, CopiesGoUpTo}
use Rattle.fed_logs.proofs.FeedEntries.{all_append}
use Rattle.fed_logs.proofs.Hands.{leaves, takes_run}
use Rattle.fed_logs.proofs.InTurn.{bytes_in_turn, no_halt, reads_nothing, still_ahead, still_before}
use Rattle.fed_logs.proofs.Stepping.{handed_read, hands_on, steps_read_on}

-- ---- a batch

-- A batch goes to the limit, or to just before an entry that is left.
at_next : (limit upto : ℕ) (next : List Entry) → GoesTo limit upto (runs next) → IsAbove upto (runs next) → (nat_eq upto limit || (nat_lt upto limit && list_any (is_entry_at (upto + 1)) next)) ≡ true
at_next limit upto [] goes above = or_left (nat_eq upto limit) (nat_lt upto limit && false) (eq-eqb upto limit goes)
at_next limit upto (e ∷ entries) goes above = choose (nat_eq upto limit) refl
  where
    to : upto ≡ min limit (stamp_of e - 1)
    to = subst (GoesTo limit upto) (begins e entries).is goes

    low : upto < stamp_of e
    low = subst (IsAbove upto) (begins e entries).is above

    choose : (t : Bool) → nat_eq upto limit ≡ t → (t || (nat_lt upto limit && list_any (is_entry_at (upto + 1)) (e ∷ entries))) ≡ true
    choose true is = refl
    choose false is =
        let other = eqb-false upto limit is in
        and_from (nat_lt upto limit) (list_any (is_entry_at (upto + 1)) (e ∷ entries)) (lt-ltb upto limit (omega (arith, to, other)))
        (or_left (nat_eq (stamp_of e) (upto + 1)) (list_any (is_entry_at (upto + 1)) entries) (eq-eqb (stamp_of e) (upto + 1) (omega (arith, to, low, other))))

any_after : (time : ℕ) (front entries : List Entry) → list_any (is_entry_at time) entries ≡ true → list_any (is_entry_at time) (front ++ entries) ≡ true
any_after time front entries any = list_any-append (is_entry_at time) front entries ∙ or_right (list_any (is_entry_at time) front) (list_any (is_entry_at time) entries) any

either_on : (a less b c : Bool) → (b ≡ true → c ≡ true) → (a || (less && b)) ≡ true → (a || (less && c)) ≡ true
either_on true less b c on is = refl
either_on false less b c on is = let parts = and_parts less b is in and_from less c parts.0 (on parts.1)

module _ (before now : Option (List ℕ)) (limit : ℕ) (old : FeedState) (side : SidefileState) (batch : Batch) (h : HandsOver before now limit old.side side (hands.Batch batch)) (bytes : List ℕ) (there : IsAhead old.side.reader before bytes) where
  -- The batch that is handed over goes up to the limit.
  handed_up_to : (o : Outlook) (t : Trace) (later : List ℕ) → IsStillToCome o (h.due bytes there).1.rest later → MayTurnOut o later None side.reader.stopped → HasRead o ((h.due bytes there).1.used ++ later) t old
      → goes_up_to limit t (Join batch) ≡ true
  handed_up_to o t later come turn read =
      let d = h.due bytes there in
      let v = leaves o t old.side.control limit now old.side side bytes later (hands.Batch batch) d.0 d.1 come turn read.ends_so in
      let entries = ahead old.side.waiting old.side.reader (d.1.used ++ later) in
      let next = ahead side.waiting side.reader later in
      let r = takes_run old.side.control limit old.side.upto (cause_of t.end) entries next batch read.later v.hand_is v.runs_left in
      let time = batch.upto.0 + 1 in
      either_on (nat_eq batch.upto.0 limit) (nat_lt batch.upto.0 limit) (list_any (is_entry_at time) next) (has_entry_at t time)
      (λ any. subst (λ (es : List Entry). list_any (is_entry_at time) es ≡ true) read.all
      (any_after time (read.before ++ read.run) entries (subst (λ (es : List Entry). list_any (is_entry_at time) es ≡ true) (sym r.split) (any_after time r.run next any))))
      (at_next limit batch.upto.0 next r.goes r.above)

-- ---- a step

-- Calls that go so far whatever was read.
by_reads : (limit : ℕ) (before now : Option (List ℕ)) (old new : FeedState) (gained : List Answer) → ReadsOn before now old new gained → ((t : Trace) → IsHeldUpTo limit t old.held → WentUpTo limit t new gained) → GoesUpTo limit before now old new gained
by_reads limit before now old new gained reads went goes bytes there = record { reads = reads.reads goes bytes there; went = λ o t later come turn read held. went t held }

step_by : (before now : Option (List ℕ)) (limit : Stamp) (old new : FeedState) (gained : List Answer) → FeedStep before now limit old new gained → ((t : Trace) → IsHeldUpTo limit.0 t old.held → WentUpTo limit.0 t new gained) → GoesUpTo limit.0 before now old new gained
step_by before now limit old new gained step went = by_reads limit.0 before now old new gained (steps_read_on before now limit old new gained step) went

-- The batch that was held goes up to the limit.
told_up_to : (limit : ℕ) (t : Trace) (batch : Batch) (was : Option Batch) → was ≡ Some batch → IsHeldUpTo limit t was → (goes_up_to limit t (Join batch) && true) ≡ true
told_up_to limit t batch was is up = and_from (goes_up_to limit t (Join batch)) true (subst (IsHeldUpTo limit t) is up) refl

step_up_to : (before now : Option (List ℕ)) (limit : Stamp) (old new : FeedState) (gained : List Answer) → FeedStep before now limit old new gained → GoesUpTo limit.0 before now old new gained
step_up_to before now limit _ _ _ (Hands old side batch idle h) = λ goes bytes there. record {
  reads = hands_on before now limit.0 old (record old { side = side; held = Some batch }) [] (hands.Batch batch) idle.goes_on idle.goes_on bytes (h.due bytes there).1
      (λ o t later come turn read. (tt, handed_read before now limit.0 old side idle batch h bytes there o t later come turn read));
  went = λ o t later come turn read held. record {
    calls = refl;
    held = handed_up_to before now limit.0 old side batch h bytes there o t later come (subst (λ (x : Option Halt). MayTurnOut o later x side.reader.stopped) idle.goes_on turn) read;
  };
}
step_up_to before now limit _ _ _ (Joins old batch primary goes held same takes) =
    step_by before now limit old (record old { primary = primary; held = None }) (joined_answer batch ∷ []) (Joins old batch primary goes held same takes) (λ t up. record { calls = told_up_to limit.0 t batch old.held held up; held = tt })
step_up_to before now limit _ _ _ (Lacks old batch primary goes held same) =
    step_by before now limit old (record old { primary = primary; held = None; halted = Some halts.NoMemory }) (joined_answer batch ∷ []) (Lacks old batch primary goes held same) (λ t up. record { calls = told_up_to limit.0 t batch old.held held up; held = tt })
step_up_to before now limit _ _ _ (Holds old batch room goes held same) =
    step_by before now limit old old (held_answer batch room ∷ []) (Holds old batch room goes held same) (λ t up. record { calls = told_up_to limit.0 t batch old.held held up; held = up })
step_up_to before now limit _ _ _ (Passes old side idle h low) =
    step_by before now limit old (record old { side = side; primary = primary_at limit.0 old.primary }) (raised_answer old.side.control limit ∷ []) (Passes old side idle h low)
    (λ t up. record { calls = and_from (nat_eq limit.0 limit.0) true (eq-eqb limit.0 limit.0 refl) refl; held = up })
step_up_to before now limit _ _ _ (Breaks old side cause upto idle h) =
    step_by before now limit old (record old { side = side; primary = primary_at upto.0 old.primary; halted = Some (halts.Broken cause upto) }) (broken_answer old.side.control upto cause ∷ []) (Breaks old side cause upto idle h)
    (λ t up. record { calls = refl; held = up })
step_up_to before now limit _ _ _ (Wants old side idle h) =
    step_by before now limit old (record old { side = side; halted = Some halts.NoMemory }) [] (Wants old side idle h) (λ t up. record { calls = refl; held = up })
step_up_to before now limit _ _ _ (Asks old k found goes same) =
    step_by before now limit old old (wanted_answer k found ∷ []) (Asks old k found goes same) (λ t up. record { calls = refl; held = up })
step_up_to before now limit _ _ _ (Copies old k v x at slot reply goes same is) =
    step_by before now limit old old (copied_answer k v x at slot reply ∷ []) (Copies old k v x at slot reply goes same is) (λ t up. record { calls = refl; held = up })

-- ---- calls one after another

pub up_to_in_turn : (limit : ℕ) (before mid now : Option (List ℕ)) (a b c : FeedState) (first then : List Answer) → ReadsOn before mid a b first → GoesUpTo limit before mid a b first → ReadsOn mid now b c then → GoesUpTo limit mid now b c then
    → GoesUpTo limit before now a c (first ++ then)
up_to_in_turn limit before mid now a b c first then h low k next = choose b.halted refl
  where
    choose : (halt : Option Halt) → b.halted ≡ halt → GoesUpTo limit before now a c (first ++ then)
    choose (Some halt) is =
        let s = k.stays halt is in
        subst (λ (n : Option (List ℕ)). GoesUpTo limit before n a c (first ++ then)) (sym s.2)
        (subst (λ (f : FeedState). GoesUpTo limit before mid a f (first ++ then)) (sym s.0)
        (subst (λ (l : List Answer). GoesUpTo limit before mid a b l) (sym (ap (λ (l : List Answer). first ++ l) s.1 ∙ append-nil first)) low))
    choose None is = λ goes bytes there.
        let g : GoesUpToBy limit mid a b first bytes = low goes bytes there in
        let u : GoesUpToBy limit now b c then g.reads.rest = next is g.reads.rest (still_ahead mid a b first bytes is g.reads) in
        record {
          reads = bytes_in_turn mid now a b c first then bytes (h.floor (λ lack. no_halt b.halted halts.NoMemory is lack)) is g.reads u.reads;
          went = λ o t later come turn read held.
              let r = g.reads in
              let s = u.reads in
              let all : HasRead o (r.used ++ (s.used ++ later)) t a = subst (λ (x : List ℕ). HasRead o x t a) (append_assoc r.used s.used later) read in
              let still : IsStillToCome o r.rest (s.used ++ later) = still_before o r.rest s.used s.rest later s.split come in
              let could = s.could o later turn in
              let one = g.went o t (s.used ++ later) still could all held in
              let stands = (r.reads o t (s.used ++ later) still could all).stands in
              let two = u.went o t later come turn (subst (λ (x : Option Halt). StandsSo o (s.used ++ later) t b x) is stands) one.held in
              record { calls = all_append (is_up_to_limit limit t) first then one.calls two.calls; held = two.held };
        }

-- ---- what a reporter gained

-- What a reporter gained is one list.
up_to_gained : (limit : ℕ) (before now : Option (List ℕ)) (old new : FeedState) (told after : ReporterState) (own : List Answer) → after.answers ≡ told.answers ++ own → GoesUpTo limit before now old new own → ReportsUpTo limit before now old new told after
up_to_gained limit before now old new told after own is goes gained again = subst (GoesUpTo limit before now old new) (append_cancel_left told.answers own gained (sym is ∙ again)) goes

pub none_up_to : (limit : ℕ) (left : Option (List ℕ)) (feed : FeedState) → GoesUpTo limit left left feed feed []
none_up_to limit left feed = by_reads limit left left feed feed [] (reads_nothing left feed) (λ t up. record { calls = refl; held = up })

pub nothing_up_to : NoCallGoesUpTo
nothing_up_to limit left feed told = up_to_gained limit left left feed feed told told [] (sym (append-nil told.answers)) (none_up_to limit left feed)

pub step_reports_up_to : (before now : Option (List ℕ)) (limit : Stamp) (old new : FeedState) (told after : ReporterState) → StepsOn before now limit old new told after → ReportsUpTo limit.0 before now old new told after
step_reports_up_to before now limit old new told after s = up_to_gained limit.0 before now old new told after s.gained s.answers (step_up_to before now limit old new s.gained s.step)

pub reports_up_to_in_turn : CallsGoUpToInTurn
reports_up_to_in_turn limit before mid now a b c told next after h low k then =
    up_to_gained limit before now a c told after (h.gained ++ k.gained) (k.answers ∙ ap (λ (l : List Answer). l ++ k.gained) h.answers ∙ append_assoc told.answers h.gained k.gained)
    (up_to_in_turn limit before mid now a b c h.gained k.gained h.reads_on (low h.gained h.answers) k.reads_on (then k.gained k.answers))

copied_up_to : (limit : ℕ) (left : Option (List ℕ)) (feed : FeedState) (told after : ReporterState) (own : List Answer) → ReportsOn left left feed feed told after → after.answers ≡ told.answers ++ own → ((t : Trace) → list_all (is_up_to_limit limit t) own ≡ true)
    → ReportsUpTo limit left left feed feed told after
copied_up_to limit left feed told after own tells is passes =
    let reads : ReadsOn left left feed feed own = subst (ReadsOn left left feed feed) (append_cancel_left told.answers tells.gained own (sym tells.answers ∙ is)) tells.reads_on in
    up_to_gained limit left left feed feed told after own is (by_reads limit left left feed feed own reads (λ t up. record { calls = passes t; held = up }))

pub copies_go_up_to : CopiesGoUpTo
copies_go_up_to limit left None feed told after tells copied = copied_up_to limit left feed told after (wanted_answer told.control None ∷ []) tells copied (λ t. refl)
copies_go_up_to limit left (Some joined) feed told after tells copied =
    copied_up_to limit left feed told after (copying_answers told.control feed.primary copied.volume copied.track copied.at joined) tells copied.answers (λ t. refl)
