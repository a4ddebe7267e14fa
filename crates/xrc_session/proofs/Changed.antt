-- A command's change that is taken over: what is kept for rows after it, and what stands.
use Rattle.std.proofs.Common.{◌≡◌, ℕ, ◌<◌, Bool, true, false, not, nat_lt, nat_eq, ◌&&◌, ◌||◌, List, [], ◌∷◌, ◌++◌, length, inl, inr, Option, Some, None, refl, sym, subst, ◌∙◌, true≢false}
use Rattle.std.specs.Prelude.{IfSome}
use Rattle.std.specs.List.{Contains}
use Rattle.std.proofs.lemmas.Bool.{and_from, and_parts, eq-eqb, eqb-true, or_cases, or_left, or_right}
use Rattle.cut_core.specs.Shares.{names_volume}
use Rattle.change_map.specs.Sets.{every_track}
use Rattle.copy_plan.specs.Plans.{fresh_plan}
use Rattle.crash_plant.specs.Moments.{PlantState}
use Rattle.pair_table.specs.declared.command.Change.{Change}
use Rattle.pair_table.specs.declared.command.Change.TheVariants.{Nothing, Started, Added, Resumed, Gone, Suspended as SuspendedRows, Ended}
use Rattle.pair_table.specs.declared.row.PairRow.{PairRow}
use Rattle.pair_table.specs.declared.row.PairState.{PairState}
use Rattle.pair_table.specs.declared.row.PairState.TheVariants.{Pending}
use Rattle.pair_table.specs.Rows.{is_suspended}
use Rattle.pair_table.specs.Tables.{in_state, row_of, with_state}
use Rattle.pair_table.proofs.FindLaws.{all-snoc}
use Rattle.group_state.specs.Groups.{Group, control_at}
use Rattle.group_state.specs.Machine.{group_after}
use Rattle.group_state.specs.Machine.Call.{Carry, Drop}
use Rattle.group_state.specs.SoundStates.{MayCarry}
use Rattle.pair_table.specs.States.{is_device_suspended}
use Rattle.fed_logs.specs.Logs.{IsPlanDone}
use Rattle.fed_logs.specs.Moves.{Plans, plans_without}
use Rattle.xrc_session.specs.EpochPauses.{Between, StandsBetween}
use Rattle.xrc_session.specs.CarriedLaws.{FitsOn, TakenRowsStand}
use Rattle.xrc_session.specs.Taking.{IfAdds, IsSoundForRows, MayTake, calls_of_change}
use Rattle.xrc_session.proofs.Adding.{added_rows_stand}
use Rattle.xrc_session.proofs.Forgetting.{forgotten_rows_stand}
use Rattle.xrc_session.proofs.KeptRows.{kept_added_row, kept_dropped_row, kept_forgotten_row, kept_resumed_row, may_carry_row}
use Rattle.xrc_session.proofs.Resuming.{resumed_rows_stand}
use Rattle.xrc_session.proofs.Suspending.{suspended_rows_stand}
use Rattle.xrc_session.proofs.Walking.{Steps, Walked, change_walk}

-- ---- what is kept

abbrev pub Kept : Group → List PairRow → Plans → Type 0
Kept s rows done = IsSoundForRows s rows

abbrev FitsAny : PairRow → Type 0
FitsAny r = Unit {0}

kept_steps : Steps Kept FitsAny
kept_steps = record {
  kept = λ s rows done j. j;
  drop = λ s rows done r state all j among suspends device known. kept_dropped_row s rows r j among state all suspends;
  resume = λ s rows done r group j among suspended counted. kept_resumed_row s rows r j among group suspended counted;
  forget = λ s rows done r j among suspended. kept_forgotten_row s rows r j among suspended;
  add = λ s rows done r j low counted pending apart fit. kept_added_row s rows r j low counted pending apart;
}

any_fits : (change : Change) (after : List PairRow) → IfAdds change after FitsAny
any_fits Nothing after = tt
any_fits Started after = tt
any_fits (Added device) after = choose (row_of device after)
  where
    choose : (o : Option PairRow) → IfSome o FitsAny
    choose None = tt
    choose (Some r) = tt
any_fits (Resumed device) after = tt
any_fits (Gone devices) after = tt
any_fits (SuspendedRows devices) after = tt
any_fits Ended after = tt

pub no_plans : Plans
no_plans = λ k v. false

-- The calls of a change may be made, and after them the state is sound for the rows after it.
pub taken : (s : Group) (change : Change) (before after : List PairRow) → IsSoundForRows s before → MayTake s change before after → Walked Kept (calls_of_change change s before after) s after no_plans
taken s change before after kept may = change_walk Kept FitsAny kept_steps change before after s no_plans may (any_fits change after) kept

-- ---- what stands

-- the plans that are known to be done, with one more
abbrev pub plans_with : (control volume : ℕ) → Plans → Plans
plans_with k v done = λ j w. done j w || names_volume j w k v

same_name : (k v : ℕ) → names_volume k v k v ≡ true
same_name k v = and_from (nat_eq k k) (nat_eq v v) (eq-eqb k k refl) (eq-eqb v v refl)

known_no_more : (k v : ℕ) (done : Plans) → plans_without k v (plans_with k v done) ≡ plans_without k v done
known_no_more k v done = λ i j w. flags (done j w) (names_volume j w k v) i
  where
    flags : (a b : Bool) → ((a || b) && not b) ≡ (a && not b)
    flags true b = refl
    flags false true = refl
    flags false false = refl

-- A plan that is done may be known to be so.
pub known_stands : (start : PlantState) (b : Between) (k v : ℕ) → StandsBetween start b → k < length b.group.controls → IsPlanDone v (control_at b.group k) → StandsBetween start (record b { done = plans_with k v b.done })
known_stands start b k v st low plan = record {
  rows = record {
    apart = st.rows.apart;
    below = st.rows.below;
    sized = st.rows.sized;
    holds = λ c is.
        let h = st.rows.holds c is in
        record {
          sized = h.sized;
          holds = h.holds;
          last = h.last;
          stand = record {
            live = h.stand.live;
            duplex = λ j w has. or_left (b.done j w) (names_volume j w k v) (h.stand.duplex j w has);
            plans = λ j w known. elim (or_cases (b.done j w) (names_volume j w k v) known) [
              | inl before ↦ h.stand.plans j w before
              | inr new ↦
                  let p = and_parts (nat_eq j k) (nat_eq w v) new in
                  subst (λ (i : ℕ). (i < length b.group.controls) × IsPlanDone w (control_at b.group i)) (sym (eqb-true j k p.0))
                  (subst (λ (u : ℕ). (k < length b.group.controls) × IsPlanDone u (control_at b.group k)) (sym (eqb-true w v p.1)) (low, plan))
            ];
          };
          truth = h.truth;
        };
    rowed = st.rows.rowed;
    owed = st.rows.owed;
    failed = st.rows.failed;
    carried = st.rows.carried;
  };
  keeps = st.keeps;
  some = st.some;
}

module _ (start : PlantState) (b : Between) where
  abbrev at : Group → List PairRow → Plans → Between
  at s rows done = record b { group = s; point = record b.point { rows = rows }; done = done }

  abbrev Stands : Group → List PairRow → Plans → Type 0
  Stands s rows done = IsSoundForRows s rows × StandsBetween start (at s rows done)

  dropped_stands : (s : Group) (rows : List PairRow) (done : Plans) (r : PairRow) (state : PairState) (all : Bool) → Stands s rows done → Contains rows r → is_suspended state ≡ true → (is_device_suspended state ≡ true → all ≡ true)
      → (all ≡ false → IsPlanDone r.volume (control_at s r.control)) → StandsBetween start (at (group_after s (Drop r.control r.volume all)) (with_state r.device state rows) (plans_without r.control r.volume done))
  dropped_stands s rows done r state all j among suspends device known = choose all refl
    where
      low : r.control < length s.controls
      low = (j.0.each r among).low

      choose : (b : Bool) → all ≡ b → StandsBetween start (at (group_after s (Drop r.control r.volume all)) (with_state r.device state rows) (plans_without r.control r.volume done))
      choose true is = suspended_rows_stand start (at s rows done) r state all j.1 (record { among = among; suspends = suspends; failed = device; known = λ part. absurd (true≢false (sym is ∙ part)); may = low })
      choose false is = subst (λ (plans : Plans). StandsBetween start (at (group_after s (Drop r.control r.volume all)) (with_state r.device state rows) plans)) (known_no_more r.control r.volume done)
          (suspended_rows_stand start (at s rows (plans_with r.control r.volume done)) r state all (known_stands start (at s rows done) r.control r.volume j.1 low (known is)) (record {
            among = among;
            suspends = suspends;
            failed = device;
            known = λ part. or_right (done r.control r.volume) (names_volume r.control r.volume r.control r.volume) (same_name r.control r.volume);
            may = low;
          }))

  stands_steps : Steps Stands (FitsOn start b.size)
  stands_steps = record {
    kept = λ s rows done j. j.0;
    drop = λ s rows done r state all j among suspends device known. (
      kept_dropped_row s rows r j.0 among state all suspends,
      dropped_stands s rows done r state all j among suspends device known,
    );
    resume = λ s rows done r group j among suspended counted. (
      kept_resumed_row s rows r j.0 among group suspended counted,
      resumed_rows_stand start (at s rows done) r group j.1 (record { among = among; counted = counted; may = ((j.0.each r among).low, (j.0.each r among).own.dropped suspended) }),
    );
    forget = λ s rows done r j among suspended. (
      kept_forgotten_row s rows r j.0 among suspended,
      forgotten_rows_stand start (at s rows done) r j.1 (record { among = among; may = ((j.0.each r among).low, (j.0.each r among).own.dropped suspended) }),
    );
    add = λ s rows done r j low counted pending apart fit. (
      kept_added_row s rows r j.0 low counted pending apart,
      subst (λ (n : ℕ). StandsBetween start (at (group_after s (Carry r.control r.volume (fresh_plan (every_track n)))) (rows ++ r ∷ []) done)) fit.sized
          (added_rows_stand start (at s rows done) r j.1 (record {
            apart = apart;
            below = all-snoc (λ (x : PairRow). nat_lt x.device start.volumes) rows r j.1.rows.below fit.below;
            sized = fit.sized;
            pending = pending;
            counted = counted;
            may = (low, subst (λ (n : ℕ). MayCarry (control_at s r.control) r.volume (fresh_plan (every_track n))) (sym fit.sized) (may_carry_row s rows r j.0 low counted pending apart));
          })),
    );
  }

pub taken_rows_stand : (start : PlantState) → TakenRowsStand start
taken_rows_stand start b change after st kept may fit =
    (change_walk (Stands start b) (FitsOn start b.size) (stands_steps start b) change b.point.rows after b.group b.done may (fitting change fit) (kept, st)).ends.1
  where
    fitting : (change : Change) → IfAdds change after (FitsOn start b.size) → IfAdds change after (λ r. FitsOn start b.size (in_state Pending r))
    fitting Nothing fit = fit
    fitting Started fit = fit
    fitting (Added device) fit = choose (row_of device after) fit
      where
        choose : (o : Option PairRow) → IfSome o (FitsOn start b.size) → IfSome o (λ r. FitsOn start b.size (in_state Pending r))
        choose None fit = fit
        choose (Some r) fit = record { below = fit.below; sized = fit.sized }
    fitting (Resumed device) fit = fit
    fitting (Gone devices) fit = fit
    fitting (SuspendedRows devices) fit = fit
    fitting Ended fit = fit
