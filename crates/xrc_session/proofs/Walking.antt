-- A command's change, row by row: what its calls leave, with the rows that go with them.
use Rattle.std.proofs.Common.{◌≡◌, inl, inr, ℕ, ◌<◌, Bool, true, false, cond, not, nat_eq, ◌&&◌, ◌||◌, List, [], ◌∷◌, ◌++◌, filter, length, Option, Some, None, refl, sym, ap, subst, ◌∙◌, true≢false}
use Rattle.std.specs.Prelude.{find, IfSome, IsSomeAnd}
use Rattle.std.specs.List.{Contains, flat_map}
use Rattle.std.proofs.lemmas.Bool.{eq-eqb, eqb-true}
use Rattle.std.proofs.lemmas.List.{append_assoc}
use Rattle.change_map.specs.Sets.{every_track}
use Rattle.copy_plan.specs.Plans.{fresh_plan}
use Rattle.pair_table.specs.declared.command.Change.{Change}
use Rattle.pair_table.specs.declared.command.Change.TheVariants.{Nothing, Started, Added, Resumed, Gone, Suspended as SuspendedRows, Ended}
use Rattle.pair_table.specs.declared.row.PairRow.{PairRow}
use Rattle.pair_table.specs.declared.row.PairState.{PairState}
use Rattle.pair_table.specs.declared.row.PairState.TheVariants.{Pending, Copy, Duplex, Suspended}
use Rattle.pair_table.specs.declared.row.SuspendCause.TheVariants.{Command}
use Rattle.pair_table.specs.Devices.{is_among}
use Rattle.pair_table.specs.Rows.{is_suspended}
use Rattle.pair_table.specs.Tables.{in_state, is_of, none_clash, resumed_in, row_changed, row_of, with_resumed, with_state, without_row}
use Rattle.pair_table.proofs.FindLaws.{found_passes}
use Rattle.pair_table.proofs.PutLaws.{number_sym}
use Rattle.pair_table.proofs.TableLaws.{changed-absent, either_false, first_apart, no_row, with_state-absent, without-absent}
use Rattle.group_state.specs.Controls.{counts}
use Rattle.group_state.specs.Groups.{Group, control_at}
use Rattle.group_state.specs.Machine.{Call, group_after}
use Rattle.group_state.specs.Machine.Call.{Carry, Drop, Forget, Resume}
use Rattle.pair_table.specs.States.{is_by_device, is_device_suspended, is_duplex, owes, owes_suspended}
use Rattle.record_rows.specs.ToldRows.{InPlaces}
use Rattle.consistency.specs.Stages.{tracks_of_row}
use Rattle.fed_logs.specs.Logs.{IsPlanDone}
use Rattle.fed_logs.specs.Moves.{Plans, plans_without}
use Rattle.mover.proofs.Failing.{among_map}
use Rattle.mover.proofs.Pairs.{Among, among_of, apart_among, apart_still, contains_of, found_of_device, pair_of, pairs_of}
use Rattle.mover.proofs.Pairs.Among.{Here, Later}
use Rattle.xrc_session.specs.Taking.{AllMay, IfAdds, IsSuspendedSince, IsSoundForRows, MayBeBegun, MayTake, after_calls, as_pending, calls_of_change, carry_calls, command_calls, drop_call, drop_calls, forget_calls, pair_group_after, regrouped_row, is_begun, owes_again, plans_after, plans_after_calls}
use Rattle.xrc_session.specs.Taking.{resume_calls, rows_by_command, stands_again, state_by_command, state_or_pending, tracks_owed_to, regrouped_rows}
use Rattle.xrc_session.proofs.KeptRows.{apart_last, may_carry_row}
use Rattle.xrc_session.proofs.CarriedRows.{among_either, among_kept, itself_among}
use Rattle.xrc_session.proofs.StandsAgain.{grouped_back, resumed_done}

-- ---- rows in their places

pub among_at_place : (xs : List PairRow) (r : PairRow) (rest : List PairRow) → Among r (xs ++ r ∷ rest)
among_at_place [] r rest = Here rest
among_at_place (t ∷ xs) r rest = Later t (xs ++ r ∷ rest) (among_at_place xs r rest)

-- A row in its place among rows of different devices, in another state, and taken out.
state_at : (xs : List PairRow) (r : PairRow) (rest : List PairRow) (state : PairState) → none_clash (xs ++ r ∷ rest) ≡ true → with_state r.device state (xs ++ r ∷ rest) ≡ xs ++ in_state state r ∷ rest
state_at [] r rest state apart = rw (eq-eqb r.device r.device refl) (ap (λ (t : List PairRow). in_state state r ∷ t) (with_state-absent r.device state rest (first_apart r rest apart).devices))
state_at (t ∷ xs) r rest state apart =
    let first = first_apart t (xs ++ r ∷ rest) apart in
    let other : nat_eq r.device t.device ≡ false = number_sym r.device t.device ∙ (apart_among t r (xs ++ r ∷ rest) first.first (among_at_place xs r rest)).device in
    rw other (ap (λ (u : List PairRow). t ∷ u) (state_at xs r rest state first.others))

without_at : (xs : List PairRow) (r : PairRow) (rest : List PairRow) → none_clash (xs ++ r ∷ rest) ≡ true → without_row r.device (xs ++ r ∷ rest) ≡ xs ++ rest
without_at [] r rest apart = rw (eq-eqb r.device r.device refl) (without-absent r.device rest (first_apart r rest apart).devices)
without_at (t ∷ xs) r rest apart =
    let first = first_apart t (xs ++ r ∷ rest) apart in
    let other : nat_eq r.device t.device ≡ false = number_sym r.device t.device ∙ (apart_among t r (xs ++ r ∷ rest) first.first (among_at_place xs r rest)).device in
    rw other (ap (λ (u : List PairRow). t ∷ u) (without_at xs r rest first.others))

pub found_in : (test : PairRow → Bool) (rows : List PairRow) (r : PairRow) → find test rows ≡ Some r → Among r rows
found_in test [] r found = absurd cc
found_in test (t ∷ rows) r found = choose (test t) found (found_in test rows r)
  where
    choose : (b : Bool) → cond b (Some t) (find test rows) ≡ Some r → (find test rows ≡ Some r → Among r rows) → Among r (t ∷ rows)
    choose true is others = let same : t ≡ r = cc in subst (λ (x : PairRow). Among x (t ∷ rows)) same (Here rows)
    choose false is others = Later t rows (others is)

-- ---- what calls leave

-- What each call leaves of something that goes with a state, its rows and the plans that are known to be done. An added row may have to fit.
pub record Steps (J : Group → List PairRow → Plans → Type 0) (fits : PairRow → Type 0) : Type 1 where
  pub kept : (s : Group) (rows : List PairRow) (done : Plans) → J s rows done → IsSoundForRows s rows
  pub drop : (s : Group) (rows : List PairRow) (done : Plans) (r : PairRow) (state : PairState) (all : Bool) → J s rows done → Contains rows r → is_suspended state ≡ true
      → (is_device_suspended state ≡ true → all ≡ true) → (all ≡ false → IsPlanDone r.volume (control_at s r.control))
      → J (group_after s (Drop r.control r.volume all)) (with_state r.device state rows) (plans_without r.control r.volume done)
  pub resume : (s : Group) (rows : List PairRow) (done : Plans) (r : PairRow) (group : Option (List ℕ)) → J s rows done → Contains rows r → is_suspended r.state ≡ true → counts (control_at s r.control).phase ≡ true
      → J (group_after s (Resume r.control r.volume)) (with_resumed r.device group rows) done
  pub forget : (s : Group) (rows : List PairRow) (done : Plans) (r : PairRow) → J s rows done → Contains rows r → is_suspended r.state ≡ true
      → J (group_after s (Forget r.control r.volume)) (without_row r.device rows) done
  pub add : (s : Group) (rows : List PairRow) (done : Plans) (r : PairRow) → J s rows done → r.control < length s.controls → counts (control_at s r.control).phase ≡ true → r.state ≡ Pending → none_clash (rows ++ r ∷ []) ≡ true → fits r
      → J (group_after s (Carry r.control r.volume (fresh_plan (every_track (tracks_of_row r))))) (rows ++ r ∷ []) done

-- Calls may be made, and what they leave goes with these rows.
pub record Walked (J : Group → List PairRow → Plans → Type 0) (calls : List Call) (s : Group) (next : List PairRow) (done : Plans) : Type 0 where
  pub may : AllMay calls s
  pub ends : J (after_calls calls s) next (plans_after_calls calls done)

walked_then : (J : Group → List PairRow → Plans → Type 0) (first second : List Call) (s : Group) (next : List PairRow) (done : Plans) → AllMay first s → Walked J second (after_calls first s) next (plans_after_calls first done) → Walked J (first ++ second) s next done
walked_then J [] second s next done may walk = walk
walked_then J (call ∷ first) second s next done may walk =
    let more = walked_then J first second (group_after s call) next (plans_after call done) may.1 walk in
    record { may = (may.0, more.may); ends = more.ends }

-- ---- a drop

negated : (b : Bool) → not b ≡ false → b ≡ true
negated true is = refl
negated false is = absurd (true≢false is)

pub record DropFacts (was is : PairState) (all : Bool) : Type 0 where
  pub suspends : is_suspended is ≡ true
  pub device : is_device_suspended is ≡ true → all ≡ true
  pub known : all ≡ false → was ≡ Duplex

some_bool : (a b : Bool) → (let x : Option Bool = Some a in let y : Option Bool = Some b in x ≡ y) → a ≡ b
some_bool a b e = cc

drop_facts : (was is : PairState) (all : Bool) → owes was is ≡ Some all → DropFacts was is all
drop_facts was Pending all e = absurd cc
drop_facts was Copy all e = absurd cc
drop_facts was Duplex all e = absurd cc
drop_facts was (Suspended cause since) all e = by was e
  where
    all_known : true ≡ all → (was : PairState) → DropFacts was (Suspended cause since) all
    all_known e was = record { suspends = refl; device = λ is. sym e; known = λ none. absurd (true≢false (e ∙ none)) }

    again : (b : Bool) → cond b (Some true) None ≡ Some all → (was : PairState) → DropFacts was (Suspended cause since) all
    again true e was = all_known (some_bool true all e) was
    again false e was = absurd cc

    by : (was : PairState) → owes_suspended was (is_duplex was) (is_by_device cause) ≡ Some all → DropFacts was (Suspended cause since) all
    by Pending e = all_known (some_bool true all e) Pending
    by Copy e = all_known (some_bool true all e) Copy
    by Duplex e = record { suspends = refl; device = λ is. sym (some_bool (is_by_device cause) all e) ∙ is; known = λ none. refl }
    by (Suspended early from) e = again (is_by_device cause && not (is_by_device early)) e (Suspended early from)

-- the drops of rows that were these before
abbrev pub drops_in : (rows next : List PairRow) → List Call
drops_in [] next = []
drops_in (r ∷ rows) [] = []
drops_in (r ∷ rows) (s ∷ next) = drop_call s (owes r.state s.state) ++ drops_in rows next

module _ (J : Group → List PairRow → Plans → Type 0) (fits : PairRow → Type 0) (steps : Steps J fits) where
  drop_one : (xs : List PairRow) (r : PairRow) (rest : List PairRow) (state : PairState) (s : Group) (done : Plans) → (owes r.state state ≡ None → state ≡ r.state) → J s (xs ++ r ∷ rest) done
      → Walked J (drop_call (in_state state r) (owes r.state state)) s (xs ++ in_state state r ∷ rest) done
  drop_one xs r rest state s done stays j = choose (owes r.state state) refl
    where
      kept : IsSoundForRows s (xs ++ r ∷ rest)
      kept = steps.kept s (xs ++ r ∷ rest) done j

      among : Contains (xs ++ r ∷ rest) r
      among = contains_of r (xs ++ r ∷ rest) (among_at_place xs r rest)

      choose : (o : Option Bool) → owes r.state state ≡ o → Walked J (drop_call (in_state state r) o) s (xs ++ in_state state r ∷ rest) done
      choose None is = record { may = tt; ends = subst (λ (x : PairState). J s (xs ++ in_state x r ∷ rest) done) (sym (stays is)) j }
      choose (Some all) is =
          let facts = drop_facts r.state state all is in
          record {
            may = ((kept.each r among).low, tt);
            ends = subst (λ (rows : List PairRow). J (group_after s (Drop r.control r.volume all)) rows (plans_without r.control r.volume done)) (state_at xs r rest state kept.apart)
                (steps.drop s (xs ++ r ∷ rest) done r state all j among facts.suspends facts.device (λ part. (kept.each r among).done (facts.known part)));
          }

  drops_walk : (xs rows next : List PairRow) (s : Group) (done : Plans) → InPlaces IsSuspendedSince rows next → J s (xs ++ rows) done → Walked J (drops_in rows next) s (xs ++ next) done
  drops_walk xs [] [] s done follow j = record { may = tt; ends = j }
  drops_walk xs [] (t ∷ next) s done follow j = absurd follow
  drops_walk xs (r ∷ rows) [] s done follow j = absurd follow
  drops_walk xs (r ∷ rows) (t ∷ next) s done follow j =
      let calls = drop_call t (owes r.state t.state) in
      let one : Walked J calls s (xs ++ t ∷ rows) done =
      subst (λ (x : PairRow). Walked J (drop_call x (owes r.state t.state)) s (xs ++ x ∷ rows) done) (sym follow.0.same) (drop_one xs r rows t.state s done follow.0.stays j) in
      let more = drops_walk (xs ++ t ∷ []) rows next (after_calls calls s) (plans_after_calls calls done) follow.1
      (subst (λ (all : List PairRow). J (after_calls calls s) all (plans_after_calls calls done)) (sym (append_assoc xs (t ∷ []) rows)) one.ends) in
      walked_then J calls (drops_in rows next) s (xs ++ t ∷ next) done one.may
      (subst (λ (all : List PairRow). Walked J (drops_in rows next) (after_calls calls s) all (plans_after_calls calls done)) (append_assoc xs (t ∷ []) next) more)

  -- ---- rows that go

  abbrev stays_in : (devices : List ℕ) → PairRow → Bool
  stays_in devices r = not (is_among r.device devices)

  abbrev away : PairRow → PairRow
  away r = in_state (Suspended Command (record { 0 = 0 })) r

  forget_one : (xs : List PairRow) (r : PairRow) (rest : List PairRow) (s : Group) (done : Plans) → J s (xs ++ r ∷ rest) done
      → Walked J (Drop r.control r.volume true ∷ Forget r.control r.volume ∷ []) s (xs ++ rest) done
  forget_one xs r rest s done j =
      let kept = steps.kept s (xs ++ r ∷ rest) done j in
      let low = (kept.each r (contains_of r (xs ++ r ∷ rest) (among_at_place xs r rest))).low in
      let t = group_after s (Drop r.control r.volume true) in
      let dropped : J t (xs ++ away r ∷ rest) (plans_without r.control r.volume done) =
      subst (λ (rows : List PairRow). J (group_after s (Drop r.control r.volume true)) rows (plans_without r.control r.volume done)) (state_at xs r rest (away r).state kept.apart)
      (steps.drop s (xs ++ r ∷ rest) done r (away r).state true j (contains_of r (xs ++ r ∷ rest) (among_at_place xs r rest)) refl (λ is. refl) (λ none. absurd (true≢false none))) in
      let there = contains_of (away r) (xs ++ away r ∷ rest) (among_at_place xs (away r) rest) in
      let follows = steps.kept t (xs ++ away r ∷ rest) (plans_without r.control r.volume done) dropped in
      let own = follows.each (away r) there in
      record {
        may = (low, ((own.low, own.own.dropped refl), tt));
        ends = subst (λ (rows : List PairRow). J (group_after t (Forget r.control r.volume)) rows (plans_without r.control r.volume done)) (without_at xs (away r) rest follows.apart)
            (steps.forget t (xs ++ away r ∷ rest) (plans_without r.control r.volume done) (away r) dropped there refl);
      }

  abbrev both : PairRow → List Call
  both r = Drop r.control r.volume true ∷ Forget r.control r.volume ∷ []

  forgets_walk : (devices : List ℕ) (xs rows : List PairRow) (s : Group) (done : Plans) → J s (xs ++ rows) done → Walked J (flat_map (forget_calls devices) rows) s (xs ++ filter (stays_in devices) rows) done
  forgets_walk devices xs [] s done j = record { may = tt; ends = j }
  forgets_walk devices xs (r ∷ rows) s done j = choose (is_among r.device devices) (λ ys t known k. forgets_walk devices ys rows t known k)
    where
      choose : (b : Bool) → ((ys : List PairRow) (t : Group) (known : Plans) → J t (ys ++ rows) known → Walked J (flat_map (forget_calls devices) rows) t (ys ++ filter (stays_in devices) rows) known)
          → Walked J (cond b (both r) [] ++ flat_map (forget_calls devices) rows) s (xs ++ cond (not b) (r ∷ filter (stays_in devices) rows) (filter (stays_in devices) rows)) done
      choose true others =
          let one = forget_one xs r rows s done j in
          walked_then J (both r) (flat_map (forget_calls devices) rows) s (xs ++ filter (stays_in devices) rows) done one.may (others xs (after_calls (both r) s) (plans_after_calls (both r) done) one.ends)
      choose false others =
          let more = others (xs ++ r ∷ []) s done (subst (λ (all : List PairRow). J s all done) (sym (append_assoc xs (r ∷ []) rows)) j) in
          subst (λ (all : List PairRow). Walked J (flat_map (forget_calls devices) rows) s all done) (append_assoc xs (r ∷ []) (filter (stays_in devices) rows)) more

  -- ---- the command

  abbrev WalksBy : Change → (before after : List PairRow) → Group → Plans → Type 0
  WalksBy change before after s done = Walked J (command_calls change s before after) s (rows_by_command change before after) done

  adds : (before : List PairRow) (o : Option PairRow) (s : Group) (done : Plans) → IsSomeAnd o (λ r. (r.control < length s.controls) × (counts (control_at s r.control).phase ≡ true)) → IfSome o (λ r. fits (in_state Pending r))
      → none_clash (before ++ as_pending o) ≡ true → J s before done → Walked J (carry_calls o) s (before ++ as_pending o) done
  adds before None s done begun fit apart j = absurd begun
  adds before (Some r) s done begun fit apart j = record {
    may = ((begun.0, may_carry_row s before (in_state Pending r) (steps.kept s before done j) begun.0 begun.1 refl apart), tt);
    ends = steps.add s before done (in_state Pending r) j begun.0 begun.1 refl apart fit;
  }

  -- A row is resumed.
  resume_one : (before : List PairRow) (r : PairRow) (group : Option (List ℕ)) (s : Group) (done : Plans) → Contains before r → is_suspended r.state ≡ true → counts (control_at s r.control).phase ≡ true → J s before done
      → Walked J (Resume r.control r.volume ∷ []) s (with_resumed r.device group before) done
  resume_one before r group s done among suspended counted j =
      let own = (steps.kept s before done j).each r among in
      record { may = ((own.low, own.own.dropped suspended), tt); ends = steps.resume s before done r group j among suspended counted }

  -- A row is resumed, and its volume is dropped again, since the row is suspended as it was. It has its new group.
  again_one : (before : List PairRow) (r : PairRow) (group : Option (List ℕ)) (s : Group) (done : Plans) → Contains before r → is_suspended r.state ≡ true → counts (control_at s r.control).phase ≡ true → J s before done
      → Walked J (Resume r.control r.volume ∷ Drop r.control r.volume (owes_again (tracks_owed_to s (Some r)) r.state) ∷ []) s (regrouped_rows r.device group before) done
  again_one before r group s done among suspended counted j = record {
    may = (resumed.may.0, ((follows.each pending there).low, tt));
    ends = subst (λ (rows : List PairRow). J (group_after t (Drop r.control r.volume all)) rows (plans_without r.control r.volume done)) (grouped_back r group before kept.apart among)
        (steps.drop t (with_resumed r.device group before) done pending r.state all resumed.ends there suspended failed known);
  }
    where
      kept : IsSoundForRows s before
      kept = steps.kept s before done j

      resumed : Walked J (Resume r.control r.volume ∷ []) s (with_resumed r.device group before) done
      resumed = resume_one before r group s done among suspended counted j

      t : Group
      t = group_after s (Resume r.control r.volume)

      pending : PairRow
      pending = resumed_in group r

      all : Bool
      all = owes_again (tracks_owed_to s (Some r)) r.state

      follows : IsSoundForRows t (with_resumed r.device group before)
      follows = steps.kept t (with_resumed r.device group before) done resumed.ends

      there : Contains (with_resumed r.device group before) pending
      there = contains_of pending (with_resumed r.device group before) (itself_among r (resumed_in group) (λ x. refl) before kept.apart (among_of before r among))

      failed : is_device_suspended r.state ≡ true → all ≡ true
      failed is = ap (λ (b : Bool). b || not (nat_eq (tracks_owed_to s (Some r)) 0)) is

      known : all ≡ false → IsPlanDone r.volume (control_at t r.control)
      known part = resumed_done s before r kept among suspended
          (eqb-true (tracks_owed_to s (Some r)) 0 (negated (nat_eq (tracks_owed_to s (Some r)) 0) (either_false (is_device_suspended r.state) (not (nat_eq (tracks_owed_to s (Some r)) 0)) part).1))

  resumes : (device : ℕ) (before after : List PairRow) (o : Option PairRow) → row_of device before ≡ o → (s : Group) (done : Plans) → IfSome o (λ r. (is_suspended r.state ≡ true) × (counts (control_at s r.control).phase ≡ true)) → J s before done
      → Walked J (resume_calls s o (row_of device after)) s (cond (stands_again o (row_of device after)) (regrouped_rows device (pair_group_after device after) before) (with_resumed device (pair_group_after device after) before)) done
  resumes device before after None is s done begun j = record {
    may = tt;
    ends = subst (λ (rows : List PairRow). J s rows done) (sym (changed-absent device (resumed_in (pair_group_after device after)) before (no_row device before is))) j;
  }
  resumes device before after (Some r) is s done begun j = choose (stands_again (Some r) (row_of device after))
    where
      group : Option (List ℕ)
      group = pair_group_after device after

      among : Contains before r
      among = contains_of r before (found_in (is_of device) before r is)

      same : device ≡ r.device
      same = eqb-true device r.device (found_passes (is_of device) before r is)

      choose : (b : Bool) → Walked J (Resume r.control r.volume ∷ cond b (Drop r.control r.volume (owes_again (tracks_owed_to s (Some r)) r.state) ∷ []) []) s (cond b (regrouped_rows device group before) (with_resumed device group before)) done
      choose true = subst (λ (d : ℕ). Walked J (Resume r.control r.volume ∷ Drop r.control r.volume (owes_again (tracks_owed_to s (Some r)) r.state) ∷ []) s (regrouped_rows d group before) done) (sym same) (again_one before r group s done among begun.0 begun.1 j)
      choose false = subst (λ (d : ℕ). Walked J (Resume r.control r.volume ∷ []) s (with_resumed d group before) done) (sym same) (resume_one before r group s done among begun.0 begun.1 j)

  command_walk : (change : Change) (before after : List PairRow) (s : Group) (done : Plans) → MayBeBegun s change before after → IfAdds change after (λ r. fits (in_state Pending r)) → none_clash (rows_by_command change before after) ≡ true → J s before done
      → WalksBy change before after s done
  command_walk Nothing before after s done begun fit apart j = record { may = tt; ends = j }
  command_walk Started before after s done begun fit apart j = record { may = tt; ends = j }
  command_walk (Added device) before after s done begun fit apart j = adds before (row_of device after) s done begun fit apart j
  command_walk (Resumed device) before after s done begun fit apart j = resumes device before after (row_of device before) refl s done begun j
  command_walk (Gone devices) before after s done begun fit apart j = forgets_walk devices [] before s done j
  command_walk (SuspendedRows devices) before after s done begun fit apart j = record { may = tt; ends = j }
  command_walk Ended before after s done begun fit apart j = record { may = tt; ends = j }

-- ---- the states in which a command leaves rows

found_state : (before : List PairRow) (r : PairRow) → none_clash before ≡ true → Among r before → state_or_pending (row_of r.device before) ≡ r.state
found_state before r apart there = ap state_or_pending (found_of_device r before apart there)

-- A row after suspensions is of the pair of the row that the command left.
abbrev IsAfter : (r t : PairRow) → Type 0
IsAfter r t = t ≡ in_state t.state r

-- the state in which a command left a row that it didn't begin
not_begun : (change : Change) (before : List PairRow) (r t : PairRow) → IsAfter r t → is_begun change r.device ≡ false → none_clash before ≡ true → Among r before → state_by_command change before t ≡ r.state
not_begun change before r t follows none apart there = ap (λ (d : ℕ). cond (is_begun change d && not (stands_again (row_of d before) (Some t))) Pending (state_or_pending (row_of d before))) (ap (λ (x : PairRow). x.device) follows)
    ∙ ap (λ (b : Bool). cond (b && not (stands_again (row_of r.device before) (Some t))) Pending (state_or_pending (row_of r.device before))) none
    ∙ found_state before r apart there

added_state : (device : ℕ) (before : List PairRow) (new : PairRow) (after : List PairRow) → row_of device after ≡ Some new → none_clash before ≡ true → none_clash (before ++ in_state Pending new ∷ []) ≡ true → (r t : PairRow)
    → Among r (before ++ in_state Pending new ∷ []) → IsAfter r t → state_by_command (Added device) before t ≡ r.state
added_state device before new after found apart whole r t there follows = elim (among_either r (in_state Pending new) before there) [
  | inl old ↦ not_begun (Added device) before r t follows (other old (nat_eq device r.device) refl) apart old
  | inr same ↦ own (ap (λ (x : PairRow). x.device) follows ∙ ap (λ (x : PairRow). x.device) (sym same)) ∙ ap (λ (x : PairRow). x.state) same
]
  where
    own_device : nat_eq device new.device ≡ true
    own_device = found_passes (is_of device) after new found

    absent : (o : Option PairRow) → row_of new.device before ≡ o → o ≡ None
    absent None is = refl
    absent (Some x) is = absurd (true≢false (sym (found_passes (is_of new.device) before x is) ∙ number_sym new.device x.device ∙ (apart_last (in_state Pending new) x before whole (found_in (is_of new.device) before x is)).device))

    own : t.device ≡ new.device → state_by_command (Added device) before t ≡ Pending
    own is = ap (λ (d : ℕ). cond (nat_eq device d && not (stands_again (row_of d before) (Some t))) Pending (state_or_pending (row_of d before))) is
        ∙ ap (λ (b : Bool). cond (b && not (stands_again (row_of new.device before) (Some t))) Pending (state_or_pending (row_of new.device before))) own_device
        ∙ ap (λ (o : Option PairRow). cond (not (stands_again o (Some t))) Pending (state_or_pending o)) (absent (row_of new.device before) refl)

    other : Among r before → (b : Bool) → nat_eq device r.device ≡ b → b ≡ false
    other old false is = refl
    other old true is =
        absurd (true≢false (sym (eq-eqb r.device new.device (sym (eqb-true device r.device is) ∙ eqb-true device new.device own_device)) ∙ (apart_last (in_state Pending new) r before whole old).device))

-- The state in which a resume leaves rows: the row is pending, or is suspended again as it was.
resumed_state : (device : ℕ) (group : Option (List ℕ)) (before : List PairRow) (p : Option PairRow) → none_clash before ≡ true → (r t : PairRow) → Among r (cond (stands_again (row_of device before) p) (regrouped_rows device group before) (with_resumed device group before)) → IsAfter r t
    → (nat_eq device t.device ≡ true → p ≡ Some t) → state_by_command (Resumed device) before t ≡ r.state
resumed_state device group before p apart r t there follows found = choose (stands_again (row_of device before) p) refl there
  where
    -- what becomes of the row that was before
    was_row : (w : PairRow) → Among w before → t.device ≡ w.device → (again : Bool) → stands_again (row_of device before) p ≡ again → (b : Bool) → nat_eq device w.device ≡ b
        → state_by_command (Resumed device) before t ≡ cond (b && not again) Pending w.state
    was_row w among same again is false other =
        ap (λ (d : ℕ). cond (nat_eq device d && not (stands_again (row_of d before) (Some t))) Pending (state_or_pending (row_of d before))) same
        ∙ ap (λ (b : Bool). cond (b && not (stands_again (row_of w.device before) (Some t))) Pending (state_or_pending (row_of w.device before))) other
        ∙ found_state before w apart among
    was_row w among same again is true own =
        let here : nat_eq device t.device ≡ true = ap (nat_eq device) same ∙ own in
        let itself : stands_again (row_of t.device before) (Some t) ≡ again = ap (λ (d : ℕ). stands_again (row_of d before) (Some t)) (sym (eqb-true device t.device here)) ∙ ap (stands_again (row_of device before)) (sym (found here)) ∙ is in
        ap (λ (b : Bool). cond (b && not (stands_again (row_of t.device before) (Some t))) Pending (state_or_pending (row_of t.device before))) here
        ∙ ap (λ (b : Bool). cond (not b) Pending (state_or_pending (row_of t.device before))) itself
        ∙ ap (λ (d : ℕ). cond (not again) Pending (state_or_pending (row_of d before))) same
        ∙ ap (λ (x : PairState). cond (not again) Pending x) (found_state before w apart among)

    device_is : t.device ≡ r.device
    device_is = ap (λ (x : PairRow). x.device) follows

    resumed_device : (w : PairRow) → (let x : PairRow = row_changed device (resumed_in group) w in x.device) ≡ w.device
    resumed_device w = by (is_of device w)
      where
        by : (b : Bool) → (let x : PairRow = cond b (resumed_in group w) w in x.device) ≡ w.device
        by true = refl
        by false = refl

    pending_state : (w : PairRow) → (let x : PairRow = row_changed device (resumed_in group) w in x.state) ≡ cond (nat_eq device w.device && true) Pending w.state
    pending_state w = by (is_of device w)
      where
        by : (b : Bool) → (let x : PairRow = cond b (resumed_in group w) w in x.state) ≡ cond (b && true) Pending w.state
        by true = refl
        by false = refl

    grouped_device : (w : PairRow) → (let x : PairRow = row_changed device (regrouped_row group) w in x.device) ≡ w.device
    grouped_device w = by (is_of device w)
      where
        by : (b : Bool) → (let x : PairRow = cond b (regrouped_row group w) w in x.device) ≡ w.device
        by true = refl
        by false = refl

    grouped_state : (w : PairRow) → (let x : PairRow = row_changed device (regrouped_row group) w in x.state) ≡ w.state
    grouped_state w = by (is_of device w)
      where
        by : (b : Bool) → (let x : PairRow = cond b (regrouped_row group w) w in x.state) ≡ w.state
        by true = refl
        by false = refl

    stays : (b : Bool) → (state : PairState) → cond (b && false) Pending state ≡ state
    stays true state = refl
    stays false state = refl

    choose : (again : Bool) → stands_again (row_of device before) p ≡ again → Among r (cond again (regrouped_rows device group before) (with_resumed device group before)) → state_by_command (Resumed device) before t ≡ r.state
    choose true is there =
        let was = among_map (row_changed device (regrouped_row group)) r before there in
        let same : t.device ≡ was.row.device = device_is ∙ sym (ap (λ (x : PairRow). x.device) was.is) ∙ grouped_device was.row in
        was_row was.row was.among same true is (nat_eq device was.row.device) refl ∙ stays (nat_eq device was.row.device) was.row.state ∙ sym (grouped_state was.row) ∙ ap (λ (x : PairRow). x.state) was.is
    choose false is there =
        let was = among_map (row_changed device (resumed_in group)) r before there in
        let same : t.device ≡ was.row.device = device_is ∙ sym (ap (λ (x : PairRow). x.device) was.is) ∙ resumed_device was.row in
        was_row was.row was.among same false is (nat_eq device was.row.device) refl ∙ sym (pending_state was.row) ∙ ap (λ (x : PairRow). x.state) was.is

pub begun_state : (change : Change) (before after : List PairRow) (s : Group) → MayBeBegun s change before after → none_clash before ≡ true → none_clash (rows_by_command change before after) ≡ true → none_clash after ≡ true → (r t : PairRow)
    → Among r (rows_by_command change before after) → Among t after → IsAfter r t → state_by_command change before t ≡ r.state
begun_state Nothing before after s begun apart whole clear r t there among follows = not_begun Nothing before r t follows refl apart there
begun_state Started before after s begun apart whole clear r t there among follows = not_begun Started before r t follows refl apart there
begun_state (Added device) before after s begun apart whole clear r t there among follows = choose (row_of device after) refl begun whole there
  where
    choose : (o : Option PairRow) → row_of device after ≡ o → IsSomeAnd o (λ x. (x.control < length s.controls) × (counts (control_at s x.control).phase ≡ true)) → none_clash (before ++ as_pending o) ≡ true → Among r (before ++ as_pending o)
        → state_by_command (Added device) before t ≡ r.state
    choose None is none whole there = absurd none
    choose (Some new) is begun whole there = added_state device before new after is apart whole r t there follows
begun_state (Resumed device) before after s begun apart whole clear r t there among follows =
    resumed_state device (pair_group_after device after) before (row_of device after) apart r t there follows (λ is. ap (λ (d : ℕ). row_of d after) (eqb-true device t.device is) ∙ found_of_device t after clear among)
begun_state (Gone devices) before after s begun apart whole clear r t there among follows = not_begun (Gone devices) before r t follows refl apart (among_kept (λ x. not (is_among x.device devices)) r before there).0
begun_state (SuspendedRows devices) before after s begun apart whole clear r t there among follows = not_begun (SuspendedRows devices) before r t follows refl apart there
begun_state Ended before after s begun apart whole clear r t there among follows = not_begun Ended before r t follows refl apart there

same_drops : (change : Change) (before rows next : List PairRow) → InPlaces IsSuspendedSince rows next → ((r t : PairRow) → Among r rows → Among t next → IsAfter r t → state_by_command change before t ≡ r.state)
    → drops_in rows next ≡ flat_map (drop_calls change before) next
same_drops change before [] [] follow states = refl
same_drops change before [] (t ∷ next) follow states = absurd follow
same_drops change before (r ∷ rows) [] follow states = absurd follow
same_drops change before (r ∷ rows) (t ∷ next) follow states =
    let was : r.state ≡ state_by_command change before t = sym (states r t (Here rows) (Here next) follow.0.same) in
    ap (λ (x : PairState). drop_call t (owes x t.state) ++ drops_in rows next) was
    ∙ ap (λ (calls : List Call). drop_calls change before t ++ calls) (same_drops change before rows next follow.1 (λ x y there among. states x y (Later r rows there) (Later t next among)))

-- Suspensions leave each row's pair, so rows that don't clash don't after them.
pub same_after : (rows next : List PairRow) → InPlaces IsSuspendedSince rows next → pairs_of next ≡ pairs_of rows
same_after [] [] follow = refl
same_after [] (t ∷ next) follow = absurd follow
same_after (r ∷ rows) [] follow = absurd follow
same_after (r ∷ rows) (t ∷ next) follow = λ i. pair_of (follow.0.same i) ∷ same_after rows next follow.1 i

-- ---- the whole change

pub change_walk : (J : Group → List PairRow → Plans → Type 0) (fits : PairRow → Type 0) (steps : Steps J fits) (change : Change) (before after : List PairRow) (s : Group) (done : Plans) → MayTake s change before after → IfAdds change after (λ r. fits (in_state Pending r)) → J s before done
    → Walked J (calls_of_change change s before after) s after done
change_walk J fits steps change before after s done may fit j =
    let first = command_walk J fits steps change before after s done may.begun fit may.apart j in
    let calls = command_calls change s before after in
    let rows = rows_by_command change before after in
    let clear = apart_still rows after (same_after rows after may.follow) may.apart in
    let same = same_drops change before rows after may.follow (λ r t. begun_state change before after s may.begun (steps.kept s before done j).apart may.apart clear r t) in
    let second = drops_walk J fits steps [] rows after (after_calls calls s) (plans_after_calls calls done) may.follow first.ends in
    walked_then J calls (flat_map (drop_calls change before) after) s after done first.may
    (subst (λ (drops : List Call). Walked J drops (after_calls calls s) after (plans_after_calls calls done)) same second)
