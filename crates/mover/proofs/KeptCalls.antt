-- What was kept of the mover's calls, one after another.
use Rattle.std.proofs.Common.{◌≡◌, inl, inr, ℕ, suc, ◌+◌, Bool, true, false, not, cond, nat_eq, ◌&&◌, List, [], ◌∷◌, ◌++◌, get_or, map, Option, Some, None, refl, sym, ap, subst, ◌∙◌, arith, true≢false, slice_get, append_assoc}
use Rattle.std.proofs.lemmas.Bool.{and_from, and_parts, eqb-true, not_from_false, or_parts}
use Rattle.std.proofs.lemmas.Option.{same_Some}
use Rattle.std.specs.Prelude.{IsTrue}
use Rattle.pair_table.specs.declared.row.PairRow.{PairRow}
use Rattle.pair_table.specs.declared.row.PairState.{PairState}
use Rattle.pair_table.specs.declared.row.PairState.TheVariants.{Pending, Copy, Duplex, Suspended}
use Rattle.pair_table.specs.Rows.{is_suspended}
use Rattle.pair_table.specs.Tables.{clashes, none_clash}
use Rattle.pair_table.proofs.PutLaws.{number_sym}
use Rattle.pair_table.proofs.TableLaws.{first_apart}
use Rattle.cut_core.specs.Shares.{names_volume}
use Rattle.group_state.specs.Groups.{Shown}
use Rattle.group_state.specs.Machine.{Call, Reply}
use Rattle.group_state.specs.Machine.Call.{Join, NextWanted, Copied, Raise, Break, Form, Carry, Drop, Resume, Forget}
use Rattle.group_state.specs.Runs.{Answer, shown_by}
use Rattle.record_rows.specs.Deeds.{Deed}
use Rattle.record_rows.specs.Deeds.Deed.{Logged, Changed, Marked}
use Rattle.pair_table.specs.States.{is_by_device}
use Rattle.fed_logs.specs.Moves.{AreQuiet, HasRowIn, IsDuplex, Plans, plans_with_shown, plans_without, Following, KeepsShown, KeepsCall, MakesDeeds, MakesAllDeeds}
use Rattle.mover.specs.Dropping.{VolumeDrop, are_states_of, answer_of_drop, drop_of, drops_from, owes_since}
use Rattle.mover.specs.Moves.{KeepPairs, KeepsPair, KnowsDuplex}
use Rattle.mover.proofs.SamePairs.{Before, at_of, before, clash_by_names, contains_at, none_there, one_row}
use Rattle.mover.proofs.DropKnown.{dropped_by, is_dropped, names_drop, owes_gone}

-- ---- quiet deeds in a row

pub quiet_then : (time : ℕ) (a b : List Deed) (rows mid next : List PairRow) → AreQuiet time rows a mid → AreQuiet time mid b next → AreQuiet time rows (a ++ b) next
quiet_then time [] b rows mid next is then = subst (λ (r : List PairRow). AreQuiet time r b next) is then
quiet_then time (Logged cut entries fewer ∷ a) b rows mid next is then = absurd is
quiet_then time (Changed at fewer ∷ a) b rows mid next is then = (is.0, is.1, quiet_then time a b fewer mid next is.2 then)
quiet_then time (Marked spot ended fewer ∷ a) b rows mid next is then = (is.0, quiet_then time a b fewer mid next is.1 then)

-- ---- calls in a row

-- Quiet deeds may come before what was kept of calls.
pub quiet_before_all : (time : ℕ) (quiet deeds : List Deed) (rows next : List PairRow) (done : Plans) (run : List Answer) (end : ℕ) (last : List PairRow) (known : Plans) → AreQuiet time rows quiet next → MakesAllDeeds time next done run deeds end last known
    → MakesAllDeeds time rows done run (quiet ++ deeds) end last known
quiet_before_all time quiet deeds rows next done [] end last known is makes = (quiet_then time quiet deeds rows next last is makes.0, makes.1, makes.2)
quiet_before_all time quiet deeds rows next done (a ∷ run) end last known is makes = record {
  quiet = quiet ++ makes.quiet;
  next = makes.next;
  more = makes.more;
  are = ap (λ (l : List Deed). quiet ++ l) makes.are ∙ sym (append_assoc quiet makes.quiet makes.more);
  suspends = quiet_then time quiet makes.quiet rows next makes.next is makes.suspends;
  goes_on = makes.goes_on;
}

pub quiet_before : (time : ℕ) (quiet deeds : List Deed) (rows next : List PairRow) (done : Plans) (run : List Answer) → AreQuiet time rows quiet next → MakesDeeds time next done run deeds → MakesDeeds time rows done run (quiet ++ deeds)
quiet_before time quiet deeds rows next done [] is makes = (makes.0, quiet_then time quiet deeds rows next makes.0 is makes.1)
quiet_before time quiet deeds rows next done (a ∷ run) is makes = record {
  quiet = quiet ++ makes.quiet;
  next = makes.next;
  more = makes.more;
  are = ap (λ (l : List Deed). quiet ++ l) makes.are ∙ sym (append_assoc quiet makes.quiet makes.more);
  suspends = quiet_then time quiet makes.quiet rows next makes.next is makes.suspends;
  goes_on = makes.goes_on;
}

-- What was kept of a call is kept with more deeds after it, if what follows is.
module _ (rest then : Following) (more : List Deed) (on : (t : ℕ) (r : List PairRow) (p : Plans) (d : List Deed) → rest t r p d → then t r p (d ++ more)) where
  shown_on : (time : ℕ) (rows : List PairRow) (done : Plans) (o : Option Shown) (deeds : List Deed) → KeepsShown time rows done o deeds rest → KeepsShown time rows done o (deeds ++ more) then
  shown_on time rows done None deeds keeps = absurd keeps
  shown_on time rows done (Some shown) deeds (inl nothing) = inl (nothing.0, on time rows (plans_with_shown shown done) deeds nothing.1)
  shown_on time rows done (Some shown) deeds (inr logged) = inr (record {
    quiet = logged.quiet;
    mid = logged.mid;
    next = logged.next;
    later = logged.later ++ more;
    are = ap (λ (l : List Deed). l ++ more) logged.are ∙ append_assoc logged.quiet (Logged shown.cut.0 shown.entries logged.next ∷ logged.later) more;
    suspends = logged.suspends;
    up = logged.up;
    live = logged.live;
    marks = logged.marks;
    follow = logged.follow;
    goes_on = on shown.cut.0 logged.next (plans_with_shown shown done) logged.later logged.goes_on;
  })

  pub call_on : (time : ℕ) (rows : List PairRow) (done : Plans) (call : Call) (reply : Reply) (deeds : List Deed) → KeepsCall time rows done call reply deeds rest → KeepsCall time rows done call reply (deeds ++ more) then
  call_on time rows done (Join b) reply deeds keeps = absurd keeps
  call_on time rows done (NextWanted k) reply deeds keeps = absurd keeps
  call_on time rows done (Copied k v x at slot) reply deeds keeps = absurd keeps
  call_on time rows done (Raise k upto) reply deeds keeps = absurd keeps
  call_on time rows done (Break k upto cause) reply deeds keeps = absurd keeps
  call_on time rows done (Form limit) reply deeds keeps = shown_on time rows done (shown_by reply) deeds keeps
  call_on time rows done (Carry k v plan) reply deeds keeps = absurd keeps
  call_on time rows done (Drop k v all) reply deeds keeps = record { gone = keeps.gone; known = keeps.known; goes_on = on time rows (plans_without k v done) deeds keeps.goes_on }
  call_on time rows done (Resume k v) reply deeds keeps = absurd keeps
  call_on time rows done (Forget k v) reply deeds keeps = absurd keeps

-- What was kept of calls and of others after them was kept of all of them.
module _ (mid : ℕ) (between : List PairRow) (known : Plans) (others : List Answer) (more : List Deed) where
  pub all_then_all : (end : ℕ) (last : List PairRow) (still : Plans) → MakesAllDeeds mid between known others more end last still → (run : List Answer) (time : ℕ) (rows : List PairRow) (done : Plans) (deeds : List Deed) → MakesAllDeeds time rows done run deeds mid between known
      → MakesAllDeeds time rows done (run ++ others) (deeds ++ more) end last still
  all_then_all end last still then [] time rows done deeds makes =
      quiet_before_all time deeds more rows between done others end last still makes.0
      (subst (λ (t : ℕ). MakesAllDeeds t between done others more end last still) makes.1 (subst (λ (p : Plans). MakesAllDeeds mid between p others more end last still) makes.2 then))
  all_then_all end last still then (a ∷ run) time rows done deeds makes = record {
    quiet = makes.quiet;
    next = makes.next;
    more = makes.more ++ more;
    are = ap (λ (l : List Deed). l ++ more) makes.are ∙ append_assoc makes.quiet makes.more more;
    suspends = makes.suspends;
    goes_on = call_on (λ t r p d. MakesAllDeeds t r p run d mid between known) (λ t r p d. MakesAllDeeds t r p (run ++ others) d end last still) more (λ t r p d kept. all_then_all end last still then run t r p d kept)
        time makes.next done a.call a.reply makes.more makes.goes_on;
  }

  pub all_then : MakesDeeds mid between known others more → (run : List Answer) (time : ℕ) (rows : List PairRow) (done : Plans) (deeds : List Deed) → MakesAllDeeds time rows done run deeds mid between known → MakesDeeds time rows done (run ++ others) (deeds ++ more)
  all_then then [] time rows done deeds makes =
      quiet_before time deeds more rows between done others makes.0 (subst (λ (t : ℕ). MakesDeeds t between done others more) makes.1 (subst (λ (p : Plans). MakesDeeds mid between p others more) makes.2 then))
  all_then then (a ∷ run) time rows done deeds makes = record {
    quiet = makes.quiet;
    next = makes.next;
    more = makes.more ++ more;
    are = ap (λ (l : List Deed). l ++ more) makes.are ∙ append_assoc makes.quiet makes.more more;
    suspends = makes.suspends;
    goes_on = inr (call_on (λ t r p d. MakesAllDeeds t r p run d mid between known) (λ t r p d. MakesDeeds t r p (run ++ others) d) more (λ t r p d kept. all_then then run t r p d kept) time makes.next done a.call a.reply makes.more makes.goes_on);
  }

-- ---- drops

abbrev pub plans_after_drops : List VolumeDrop → Plans → Plans
plans_after_drops [] done = done
plans_after_drops (d ∷ drops) done = plans_after_drops drops (plans_without d.control d.volume done)

-- Each drop is of a volume whose row isn't duplex, and of one without all its tracks it is known that its plan is done.
abbrev AreDroppable : List PairRow → Plans → List VolumeDrop → Type 0
AreDroppable rows done [] = Unit {0}
AreDroppable rows done (d ∷ drops) = (HasRowIn IsDuplex d.control d.volume rows → ⊥) × (d.all ≡ false → IsTrue (done d.control d.volume)) × AreDroppable rows (plans_without d.control d.volume done) drops

drops_make : (time : ℕ) (rows : List PairRow) (done : Plans) (drops : List VolumeDrop) → AreDroppable rows done drops → MakesAllDeeds time rows done (map answer_of_drop drops) [] time rows (plans_after_drops drops done)
drops_make time rows done [] may = (refl, refl, refl)
drops_make time rows done (d ∷ drops) may = record {
  quiet = [];
  next = rows;
  more = [];
  are = refl;
  suspends = refl;
  goes_on = record { gone = may.0; known = may.1; goes_on = drops_make time rows (plans_without d.control d.volume done) drops may.2 };
}

-- A plan that none of the drops is of is known still.
known_still : (k v : ℕ) (drops : List VolumeDrop) (done : Plans) → is_dropped k v drops ≡ false → done k v ≡ true → plans_after_drops drops done k v ≡ true
known_still k v [] done none is = is
known_still k v (d ∷ drops) done none is = known_still k v drops (plans_without d.control d.volume done) parts.1 (and_from (done k v) (not (names_volume k v d.control d.volume)) is (not_from_false (names_volume k v d.control d.volume) (other_way parts.0)))
  where
    parts : (names_drop k v d ≡ false) × (is_dropped k v drops ≡ false)
    parts = or_parts (names_drop k v d) (is_dropped k v drops) none

    other_way : names_drop k v d ≡ false → names_volume k v d.control d.volume ≡ false
    other_way e = (λ i. number_sym k d.control i && number_sym v d.volume i) ∙ e

-- Where a row was duplex and its own device doesn't suspend it, it owes those tracks alone that change from then on.
was_duplex : (was : Option PairState) (is : PairState) → owes_since was is ≡ Some false → was ≡ Some Duplex
was_duplex None is e = absurd cc
was_duplex (Some was) Pending e = absurd cc
was_duplex (Some was) Copy e = absurd cc
was_duplex (Some was) Duplex e = absurd cc
was_duplex (Some Pending) (Suspended cause since) e = absurd cc
was_duplex (Some Copy) (Suspended cause since) e = absurd cc
was_duplex (Some Duplex) (Suspended cause since) e = refl
was_duplex (Some (Suspended by at)) (Suspended cause since) e = choose (is_by_device cause && not (is_by_device by)) e
  where
    choose : (b : Bool) → cond b (Some true) None ≡ Some false → (let a : Option PairState = Some (Suspended by at) in let b : Option PairState = Some Duplex in a ≡ b)
    choose true e = absurd cc
    choose false e = absurd cc

-- Rows whose volumes are dropped may be dropped one after another: no two are of one volume.
droppable : (all : List PairRow) (was : List (Option PairState)) (place : ℕ) (rows : List PairRow) (done : Plans) → none_clash rows ≡ true
    → ((i : ℕ) (r : PairRow) → slice_get rows i ≡ Some r → is_suspended r.state ≡ true → HasRowIn IsDuplex r.control r.volume all → ⊥)
    → ((i : ℕ) (r : PairRow) → slice_get rows i ≡ Some r → get_or was (i + place) None ≡ Some Duplex → done r.control r.volume ≡ true) → AreDroppable all done (drops_from place was rows)
droppable all was place [] done apart gone known = tt
droppable all was place (r ∷ rows) done apart gone known =
    choose (λ p known. droppable all was (suc place) rows p (first_apart r rows apart).others (λ i s at. gone (suc i) s at) known) (owes_since (get_or was place None) r.state) refl
  where
    first : 0 + place ≡ place
    first = omega arith

    Later : Type 0
    Later = (p : Plans) → ((i : ℕ) (s : PairRow) → slice_get rows i ≡ Some s → get_or was (i + suc place) None ≡ Some Duplex → p s.control s.volume ≡ true) → AreDroppable all p (drops_from (suc place) was rows)

    known_on : (i : ℕ) (s : PairRow) → slice_get rows i ≡ Some s → get_or was (i + suc place) None ≡ Some Duplex → done s.control s.volume ≡ true
    known_on i s at duplex = let same : suc i + place ≡ i + suc place = omega arith in known (suc i) s at (ap (λ (n : ℕ). get_or was n None) same ∙ duplex)

    other : (i : ℕ) (s : PairRow) → slice_get rows i ≡ Some s → names_volume s.control s.volume r.control r.volume ≡ false
    other i s at = by (names_volume s.control s.volume r.control r.volume) refl
      where
        by : (b : Bool) → names_volume s.control s.volume r.control r.volume ≡ b → b ≡ false
        by false e = refl
        by true e =
            let names = and_parts (nat_eq s.control r.control) (nat_eq s.volume r.volume) e in
            absurd (true≢false (sym (clash_by_names r s (sym (eqb-true s.control r.control names.0)) (sym (eqb-true s.volume r.volume names.1))) ∙ none_there (clashes r) rows i s (first_apart r rows apart).first at))

    choose : Later → (o : Option Bool) → owes_since (get_or was place None) r.state ≡ o → AreDroppable all done (drop_of r o ++ drops_from (suc place) was rows)
    choose later None e = later done known_on
    choose later (Some whole) e = (
      gone 0 r refl (owes_gone (get_or was place None) r.state whole e),
      λ some. known 0 r refl (ap (λ (n : ℕ). get_or was n None) first ∙ was_duplex (get_or was place None) r.state (e ∙ ap (λ (b : Bool). let o : Option Bool = Some b in o) some)),
      later (plans_without r.control r.volume done) (λ i s at duplex. and_from (done s.control s.volume) (not (names_volume s.control s.volume r.control r.volume)) (known_on i s at duplex) (not_from_false (names_volume s.control s.volume r.control r.volume) (other i s at))),
    )

-- ---- drops after rows

module _ (was : List (Option PairState)) (rows next : List PairRow) (states : are_states_of rows was) (still : KeepPairs rows next) (apart : none_clash next ≡ true) where
  abbrev drops : List VolumeDrop
  drops = drops_from 0 was next

  gone_of : (i : ℕ) (r : PairRow) → slice_get next i ≡ Some r → is_suspended r.state ≡ true → HasRowIn IsDuplex r.control r.volume next → ⊥
  gone_of i r at gone has =
      let there = at_of next has.row has.among in
      let same = one_row next there.0 i has.row r apart there.1 at has.control has.volume in
      true≢false (sym gone ∙ ap (λ (x : PairRow). is_suspended x.state) (sym same) ∙ ap is_suspended has.state)

  -- Plans of rows that were duplex are known, and those of rows that are.
  module _ (time : ℕ) (done : Plans) (before_known : KnowsDuplex rows done) (knows : KnowsDuplex next done) where
    pub drops_kept : MakesAllDeeds time next done (map answer_of_drop drops) [] time next (plans_after_drops drops done)
    drops_kept = drops_make time next done drops (droppable next was 0 next done apart gone_of (λ i r at duplex. known_of i r at (before KeepsPair rows next i r still at) duplex))
      where
        known_of : (i : ℕ) (r : PairRow) → slice_get next i ≡ Some r → (b : Before KeepsPair rows i r) → get_or was (i + 0) None ≡ Some Duplex → done r.control r.volume ≡ true
        known_of i r at b duplex =
            let same : i ≡ i + 0 = omega arith in
            let state : b.row.state ≡ Duplex = same_Some b.row.state Duplex (sym (states i b.row b.at) ∙ ap (λ (n : ℕ). get_or was n None) same ∙ duplex) in
            before_known r.control r.volume (record { row = b.row; among = contains_at rows i b.row b.at; control = ap (λ (x : PairRow). x.control) (sym b.is.same); volume = ap (λ (x : PairRow). x.volume) (sym b.is.same); state = state })

    pub knows_still : KnowsDuplex next (plans_after_drops drops done)
    knows_still k v has = known_still k v drops done (by (is_dropped k v drops) refl) (knows k v has)
      where
        by : (b : Bool) → is_dropped k v drops ≡ b → b ≡ false
        by false e = refl
        by true e =
            let d = dropped_by k v was 0 next e in
            absurd (gone_of d.offset d.row d.at (owes_gone (get_or was (d.offset + 0) None) d.row.state d.all d.owes)
            (record { row = has.row; among = has.among; control = has.control ∙ sym d.control; volume = has.volume ∙ sym d.volume; state = has.state }))
