-- Calls of a session in turn: why they stop, what their counts say, and how lanes read on.
use Rattle.xrc_session.proofs.Growing.{grows_then, here_grows, silent_grows}
use Rattle.std.proofs.Common.{◌≡◌, ◌⊎◌, inl, inr, ℕ, ◌≤◌, List, [], ◌++◌, Option, Some, None, refl, sym, ap, subst, ◌∙◌, arith}
use Rattle.std.specs.Prelude.{IsErrOf, IsSomeAnd, Ok, Result, slice_index_or}
use Rattle.std.specs.List.{Contains}
use Rattle.xrc_edge.specs.Causes.{Rose}
use Rattle.crash_plant.specs.declared.device.Device.{Device}
use Rattle.crash_plant.specs.declared.device.Device.TheVariants.{Control, State, Journal, Volume}
use Rattle.crash_plant.specs.Calls.{Elapses, NoneLent, WorksOnConsole}
use Rattle.crash_plant.specs.Moments.{PlantState}
use Rattle.crash_plant.proofs.Steps.{elapses_trans, none_lent_console, site_trans}
use Rattle.sidefile.specs.declared.hand.Halt.{Halt}
use Rattle.pair_table.specs.declared.row.PairRow.{PairRow}
use Rattle.applier.specs.Returns.{WorksOnLent}
use Rattle.consistency.specs.Stages.{ScriptRun}
use Rattle.pair_table.specs.States.{is_device_suspended}
use Rattle.group_state.specs.Runs.{Answer}
use Rattle.fed_logs.specs.Reads.{ReadsOn}
use Rattle.fed_logs.specs.Reporters.{HasFaultBy}
use Rattle.fed_logs.proofs.InTurn.{reads_in_turn, reads_nothing}
use Rattle.mover.specs.declared.lane.Lane.{Lane}
use Rattle.mover.specs.Lanes.{HasFaultFrom, MayGoOn}
use Rattle.fed_logs.specs.LaneFeeds.{FeedState}
use Rattle.mover.specs.Readers.{LaneReaderState}
use Rattle.mover.specs.TurningOut.{AllMayGoOn, AllReadOn}
use Rattle.site_store.specs.Records.{IsStore}
use Rattle.xrc_status.specs.declared.stop.Stop.{Stop}
use Rattle.xrc_status.specs.declared.stop.Stop.TheVariants as stops
use Rattle.xrc_session.specs.LinePauses.{RisesCover}
use Rattle.xrc_session.specs.Frames.{CountRose, KeepsPlant, SuspendsByCounts, SaidGrows}
use Rattle.xrc_session.specs.Lanes.{AllWent}
use Rattle.xrc_session.specs.Stops.{HasStopCause, StopsByCount, stop_of_device}

-- ---- causes

rose_before : (a b c : ℕ) → a ≤ b → Rose b c → Rose a c
rose_before a b c le (inl rose) = inl (omega (arith, le, rose))
rose_before a b c le (inr most) = inr most

-- No count of a plant has fallen.
pub record NoneFell (old new : PlantState) : Type 0 where
  pub devices : (d : Device) → old.faults d ≤ new.faults d
  pub console : old.console_faults ≤ new.console_faults

-- Why later calls stop is why all stop.
pub cause_before : (old mid new : PlantState) (stop : Stop) → NoneFell old mid → HasStopCause mid new stop → HasStopCause old new stop
cause_before old mid new stops.ConsoleFault fell cause = rose_before old.console_faults mid.console_faults new.console_faults fell.console cause
cause_before old mid new (stops.JournalFault j) fell cause = rose_before (old.faults (Journal j)) (mid.faults (Journal j)) (new.faults (Journal j)) (fell.devices (Journal j)) cause
cause_before old mid new stops.ControlFault fell cause = rose_before (old.faults Control) (mid.faults Control) (new.faults Control) (fell.devices Control) cause
cause_before old mid new stops.StateFault fell cause = rose_before (old.faults State) (mid.faults State) (new.faults State) (fell.devices State) cause
cause_before old mid new stops.Spent fell cause = tt
cause_before old mid new stops.NoMemory fell cause = tt
cause_before old mid new (stops.BadLine n) fell cause = cause
cause_before old mid new stops.BadWords fell cause = cause
cause_before old mid new (stops.BadHeader k place) fell cause = cause
cause_before old mid new (stops.HeaderFault k) fell cause = cause
cause_before old mid new stops.NoSession fell cause = cause
cause_before old mid new (stops.OtherSession name) fell cause = cause
cause_before old mid new (stops.Damaged d place) fell cause = cause
cause_before old mid new stops.VolumeFault fell cause = cause
cause_before old mid new (stops.TooSmall d needed) fell cause = cause
cause_before old mid new stops.BadSite fell cause = cause

-- ---- counts

-- Counts that no call of these raised.
pub record NoneRisen (old new : PlantState) : Type 0 where
  pub devices : (d : Device) → IsStore d → new.faults d ≡ old.faults d
  pub console : new.console_faults ≡ old.console_faults
  pub fell : NoneFell old new

pub fell_here : (old : PlantState) → NoneFell old old
fell_here old = record { devices = λ d. omega arith; console = omega arith }

pub fell_then : (old mid new : PlantState) → NoneFell old mid → NoneFell mid new → NoneFell old new
fell_then old mid new x y = record { devices = λ d. omega (arith, x.devices d, y.devices d); console = omega (arith, x.console, y.console) }

pub none_risen_here : (old : PlantState) → NoneRisen old old
none_risen_here old = record { devices = λ d store. refl; console = refl; fell = fell_here old }

pub none_risen_then : (old mid new : PlantState) → NoneRisen old mid → NoneRisen mid new → NoneRisen old new
none_risen_then old mid new x y = record { devices = λ d store. y.devices d store ∙ x.devices d store; console = y.console ∙ x.console; fell = fell_then old mid new x.fell y.fell }

-- A call that was done raised none.
pub done_raises_none : {T : Type 0} (old new : PlantState) (value : T) → (let r : Result T Stop = Ok value in StopsByCount old new r) → NoneRisen old new
done_raises_none {T} old new value counts = record { devices = λ d store. counts.devices d store (λ is. absurd cc); console = counts.console (λ is. absurd cc); fell = record { devices = counts.later; console = counts.console_later } }

pub counts_fell : {T : Type 0} (old new : PlantState) (result : Result T Stop) → StopsByCount old new result → NoneFell old new
counts_fell {T} old new result counts = record { devices = counts.later; console = counts.console_later }

pub none_stop : {T : Type 0} (old new : PlantState) (result : Result T Stop) → NoneRisen old new → StopsByCount old new result
none_stop {T} old new result none = record { devices = λ d store no_stop. none.devices d store; console = λ no_stop. none.console; later = none.fell.devices; console_later = none.fell.console; console_once = (let same = none.console in omega (arith, same)) }

-- After calls that raised none the counts are those of the later ones.
pub counts_after : {T : Type 0} (old mid new : PlantState) (result : Result T Stop) → NoneRisen old mid → StopsByCount mid new result → StopsByCount old new result
counts_after {T} old mid new result none counts = record {
  devices = λ d store no_stop. counts.devices d store no_stop ∙ none.devices d store;
  console = λ no_stop. counts.console no_stop ∙ none.console;
  later = λ d. omega (arith, none.fell.devices d, counts.later d);
  console_later = omega (arith, none.fell.console, counts.console_later);
  console_once = omega (arith, none.console, counts.console_once);
}

-- They say of another result what they say of this, if this stops only as that does.
pub counts_as : {T U : Type 0} (old new : PlantState) (result : Result T Stop) (other : Result U Stop) → ((stop : Stop) → IsErrOf result stop → IsErrOf other stop) → StopsByCount old new result → StopsByCount old new other
counts_as {T} {U} old new result other same counts = record {
  devices = λ d store no_stop. counts.devices d store (λ is. no_stop (same (stop_of_device d) is));
  console = λ no_stop. counts.console (λ is. no_stop (same stops.ConsoleFault is));
  later = counts.later;
  console_later = counts.console_later;
  console_once = counts.console_once;
}

-- ---- rows that are suspended

risen_then : (a b c : ℕ) → a ≤ b → b ≤ c → CountRose a b → CountRose a c
risen_then a b c x y (inl lt) = inl (omega (arith, lt, y))
risen_then a b c x y (inr most) = inr (omega (arith, most, y))

risen_before : (a b c : ℕ) → a ≤ b → CountRose b c → CountRose a c
risen_before a b c x (inl lt) = inl (omega (arith, lt, x))
risen_before a b c x (inr most) = inr most

pub suspends_then : (rows mid_rows rows_now : List PairRow) (old mid new : PlantState) → NoneFell old mid → NoneFell mid new → SuspendsByCounts rows mid_rows old mid → SuspendsByCounts mid_rows rows_now mid new → SuspendsByCounts rows rows_now old new
suspends_then rows mid_rows rows_now old mid new fell on first next r has suspended = by_side (next r has suspended)
  where
    by_first : (s : PairRow) → s.device ≡ r.device → s.state ≡ r.state → CountRose (old.faults (Volume s.device)) (mid.faults (Volume s.device)) ⊎ ((q : PairRow) × Contains rows q × (q.device ≡ s.device) × (q.state ≡ s.state))
        → CountRose (old.faults (Volume r.device)) (new.faults (Volume r.device)) ⊎ ((q : PairRow) × Contains rows q × (q.device ≡ r.device) × (q.state ≡ r.state))
    by_first s same alike (inl risen) =
        inl (subst (λ (d : ℕ). CountRose (old.faults (Volume d)) (new.faults (Volume d))) same
        (risen_then (old.faults (Volume s.device)) (mid.faults (Volume s.device)) (new.faults (Volume s.device)) (fell.devices (Volume s.device)) (on.devices (Volume s.device)) risen))
    by_first s same alike (inr was) = inr (was.0, was.1, was.2 ∙ same, was.3 ∙ alike)

    by_side : CountRose (mid.faults (Volume r.device)) (new.faults (Volume r.device)) ⊎ ((s : PairRow) × Contains mid_rows s × (s.device ≡ r.device) × (s.state ≡ r.state))
        → CountRose (old.faults (Volume r.device)) (new.faults (Volume r.device)) ⊎ ((q : PairRow) × Contains rows q × (q.device ≡ r.device) × (q.state ≡ r.state))
    by_side (inl risen) = inl (risen_before (old.faults (Volume r.device)) (mid.faults (Volume r.device)) (new.faults (Volume r.device)) (fell.devices (Volume r.device)) risen)
    by_side (inr was) = by_first was.0 was.2 was.3 (first was.0 was.1 (ap is_device_suspended was.3 ∙ suspended))

pub suspends_same : (rows : List PairRow) (old new : PlantState) → SuspendsByCounts rows rows old new
suspends_same rows old new r has suspended = inr (r, has, refl, refl)

-- ---- the plant

pub keeps_here : (tells : Type 0) (old : PlantState) → NoneLent old → (tells → Elapses old old) → KeepsPlant tells old old
keeps_here tells old home past = record { site = record { journals = refl; volumes = refl; lengths = λ d. refl }; home = home; elapses = past; grows = λ told. here_grows old }

pub keeps_lent : (tells : Type 0) (among : Device → Type 0) (old new : PlantState) → WorksOnLent tells among old new → NoneLent old → KeepsPlant tells old new
keeps_lent tells among old new works home = record { site = works.site; home = λ v there. works.is_lent v ∙ home v (omega (arith, there, works.site.volumes)); elapses = works.elapses; grows = λ told. silent_grows old new ((works.elapses told).kept Control).later (works.silent told).said }

pub keeps_then : (tells : Type 0) (old mid new : PlantState) → KeepsPlant tells old mid → KeepsPlant tells mid new → KeepsPlant tells old new
keeps_then tells old mid new x y = record {
  site = site_trans old mid new x.site y.site;
  home = y.home;
  elapses = λ told. elapses_trans Control old mid new (x.elapses told) (y.elapses told);
  grows = λ told. grows_then old mid new ((x.elapses told).kept Control).later (y.elapses told) (x.grows told) (y.grows told);
}

pub keeps_console : (tells : Type 0) (old new : PlantState) → WorksOnConsole tells old new → (tells → SaidGrows old new) → NoneLent old → KeepsPlant tells old new
keeps_console tells old new works grows home = record { site = works.site; home = none_lent_console tells old new works home; elapses = works.elapses; grows = grows }

-- ---- faults of volumes

pub rises_before : (run : ScriptRun) (began mid new : PlantState) → NoneFell mid new → RisesCover run began new → RisesCover run began mid
rises_before run began mid new fell rises d =
    let both = rises d in
    let later = fell.devices (Volume d) in
    (omega (arith, both.0, later), omega (arith, both.1, later))

-- ---- lanes

module _ {S : Type 0} (left : S → Option (List ℕ)) (faults : S → ℕ) where
  fault_then : (f g h : ℕ) (was is end : Option Halt) → HasFaultFrom was f g is → HasFaultFrom is g h end → ((halt : Halt) → was ≡ Some halt → is ≡ Some halt) → ((halt : Halt) → is ≡ Some halt → end ≡ Some halt) → HasFaultFrom was f h end
  fault_then f g h (Some halt) None end first then_so stays stays_on = let never = stays halt refl in absurd cc
  fault_then f g h (Some halt) (Some other) end first then_so stays stays_on = then_so ∙ first
  fault_then f g h None None end first then_so stays stays_on = subst (λ (n : ℕ). HasFaultBy n h end) first then_so
  fault_then f g h None (Some halt) end first then_so stays stays_on =
      subst (λ (o : Option Halt). HasFaultBy f h o) (sym (stays_on halt refl)) (subst (λ (n : ℕ). HasFaultBy f n (Some halt)) (sym then_so) first)

  one_then : (a b c : Lane S) (p q r : Option LaneReaderState) (first next : List Answer)
      → IsSomeAnd p (λ was. IsSomeAnd q (λ is. ReadsOn (left a.source) (left b.source) was.feed is.feed first × HasFaultFrom was.feed.halted (faults a.source) (faults b.source) is.feed.halted))
      → IsSomeAnd q (λ was. IsSomeAnd r (λ is. ReadsOn (left b.source) (left c.source) was.feed is.feed next × HasFaultFrom was.feed.halted (faults b.source) (faults c.source) is.feed.halted))
      → IsSomeAnd p (λ was. IsSomeAnd r (λ is. ReadsOn (left a.source) (left c.source) was.feed is.feed (first ++ next) × HasFaultFrom was.feed.halted (faults a.source) (faults c.source) is.feed.halted))
  one_then a b c None q r first next h k = absurd h
  one_then a b c (Some was) None r first next h k = absurd h
  one_then a b c (Some was) (Some is) None first next h k = absurd k
  one_then a b c (Some was) (Some is) (Some end) first next h k = (
    reads_in_turn (left a.source) (left b.source) (left c.source) was.feed is.feed end.feed first next h.0 k.0,
    fault_then (faults a.source) (faults b.source) (faults c.source) was.feed.halted is.feed.halted end.feed.halted h.1 k.1
        (λ halt is_so. ap (λ (f : FeedState). f.halted) (h.0.stays halt is_so).0 ∙ is_so) (λ halt is_so. ap (λ (f : FeedState). f.halted) (k.0.stays halt is_so).0 ∙ is_so),
  )

  -- Lanes that went on, and then on again, went on.
  pub went_then : (old mid new : List (Lane S)) → AllWent left faults old mid → AllWent left faults mid new → AllWent left faults old new
  went_then old mid new first next = record {
    many = next.many ∙ first.many;
    each = λ k d low.
        let h = first.each k d low in
        let n = next.each k d (omega (arith, low, first.many)) in (
          h.0 ++ n.0,
          one_then (slice_index_or old k d) (slice_index_or mid k d) (slice_index_or new k d) (slice_index_or old k d).reader (slice_index_or mid k d).reader (slice_index_or new k d).reader h.0 n.0 h.1 n.1,
        );
  }

  fault_here : (f : ℕ) (was : Option Halt) → HasFaultFrom was f f was
  fault_here f None = refl
  fault_here f (Some halt) = refl

  one_here : (a : Lane S) (p : Option LaneReaderState) → IsSomeAnd p (λ r. Unit {0}) → IsSomeAnd p (λ was. IsSomeAnd p (λ is. ReadsOn (left a.source) (left a.source) was.feed is.feed [] × HasFaultFrom was.feed.halted (faults a.source) (faults a.source) is.feed.halted))
  one_here a None is = absurd is
  one_here a (Some r) is = (reads_nothing (left a.source) r.feed, fault_here (faults a.source) r.feed.halted)

  -- Lanes that have readers and read nothing went on.
  pub went_here : (lanes : List (Lane S)) → AllMayGoOn lanes → AllWent left faults lanes lanes
  went_here lanes may = record { many = refl; each = λ k d low. ([], one_here (slice_index_or lanes k d) (slice_index_or lanes k d).reader (some (slice_index_or lanes k d).reader (may k d low))) }
    where
      some : (o : Option LaneReaderState) → IsSomeAnd o (λ r. MayGoOn r.feed) → IsSomeAnd o (λ r. Unit {0})
      some None is = absurd is
      some (Some r) is = tt

  -- Lanes that went on read on.
  pub went_read : (old new : List (Lane S)) → AllWent left faults old new → AllReadOn left old new
  went_read old new went = record { same = went.many; each = λ k d low. let h = went.each k d low in of (slice_index_or old k d) (slice_index_or new k d) (slice_index_or old k d).reader (slice_index_or new k d).reader h.0 h.1 }
    where
      of : (a b : Lane S) (p q : Option LaneReaderState) (run : List Answer) → IsSomeAnd p (λ was. IsSomeAnd q (λ is. ReadsOn (left a.source) (left b.source) was.feed is.feed run × HasFaultFrom was.feed.halted (faults a.source) (faults b.source) is.feed.halted))
          → IsSomeAnd p (λ was. IsSomeAnd q (λ is. (gained : List Answer) × ReadsOn (left a.source) (left b.source) was.feed is.feed gained))
      of a b None q run h = absurd h
      of a b (Some was) None run h = absurd h
      of a b (Some was) (Some is) run h = (run, h.0)
