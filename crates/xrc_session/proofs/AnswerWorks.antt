-- Why the work for a line's command and for a mark stops, and which rows it suspends.
use Rattle.std.proofs.Common.{◌≡◌, ◌⊎◌, inl, inr, ℕ, ◌≤◌, ◌||◌, Bool, true, false, cond, List, [], ◌∷◌, Result, Ok, Err, refl, sym, ap, subst, ◌∙◌, arith, true≢false, nat_eq, nat_lt, nat_le}
use Rattle.std.specs.List.{Contains}
use Rattle.std.proofs.lemmas.Bool.{eqb-true, leb-true, ltb-true, or_cases}
use Rattle.xrc_edge.specs.Causes.{Rose}
use Rattle.applier.specs.Returns.{WorksOnLent}
use Rattle.crash_plant.specs.declared.device.Device.{Device}
use Rattle.crash_plant.specs.declared.device.Device.TheVariants.{Control, State, Journal, Volume}
use Rattle.crash_plant.specs.Moments.{PlantState}
use Rattle.crash_plant.specs.declared.spot.Spot.{Spot}
use Rattle.pair_table.specs.declared.level.Level.{Level}
use Rattle.pair_table.specs.declared.row.PairRow.{PairRow}
use Rattle.pair_table.specs.declared.row.SuspendCause.TheVariants.{Device as OfDevice}
use Rattle.pair_table.specs.Devices.{is_among}
use Rattle.pair_table.specs.Tables.{in_state}
use Rattle.row_changes.specs.Changes.{FaultReach, hit_row, reach_of, reached_row, since}
use Rattle.row_changes.proofs.Reaching.{reached_state}
use Rattle.row_changes.proofs.Reaching.{reach_is_other}
use Rattle.record_rows.specs.Hits.{hit_now, is_down, rows_hit}
use Rattle.pair_table.specs.States.{is_device_suspended}
use Rattle.record_rows.specs.Records.{rows_with_hits}
use Rattle.record_rows.proofs.Telling.{only_failed}
use Rattle.site_store.specs.declared.store_error.StoreError.{StoreError}
use Rattle.site_store.specs.declared.store_error.StoreError.TheVariants.{Fault, Spent, NoMemory}
use Rattle.site_store.specs.Causes.{FailByCounts, HasStoreCause}
use Rattle.site_store.specs.Exceptions.{Exceptions}
use Rattle.site_store.specs.Records.{IsStore}
use Rattle.site_store.specs.Sites.{SiteState, meant_for}
use Rattle.site_store.specs.Standing.{SiteStands}
use Rattle.site_store.specs.Placements.{is_mark_spent, is_spent, most}
use Rattle.site_store.proofs.ByPlacements.{RecordPlacement, by_placements}
use Rattle.xrc_status.specs.declared.stop.Stop.{Stop}
use Rattle.xrc_status.specs.declared.stop.Stop.TheVariants as stops
use Rattle.mover.proofs.Pairs.{Among, among_of}
use Rattle.mover.proofs.ToldHits.{flag_low, hit_by_others}
use Rattle.xrc_session.specs.Frames.{CountRose, SuspendsByCounts}
use Rattle.xrc_session.specs.Stops.{HasStopCause, IsSpentNow, StopsByCount, stop_of_device, stop_of_store}
use Rattle.xrc_session.proofs.FailedRows.{reached_hit}
use Rattle.xrc_session.proofs.RestingRows.{map_back}

-- ---- numbers

-- Whatever a crash leaves now tells that numbers are spent, if the site's are.
pub numbers_are_spent : (plant : PlantState) (excepted : Exceptions) (site : SiteState) → SiteStands excepted site plant → (site.mark.number ≡ most) ⊎ (most ≤ site.at.number) → IsSpentNow plant
numbers_are_spent plant excepted site stands spent c is =
    record { mark = site.mark; chosen = stands.chosen c is; means = meant_for site; walk = stands.walk; meant = stands.meant c is; spent = of spent }
  where
    of : (site.mark.number ≡ most) ⊎ (most ≤ site.at.number) → (site.mark.number ≡ most) ⊎ (most ≤ stands.walk.at.number)
    of (inl mark) = inl mark
    of (inr end) = inr (subst (λ (spot : Spot). most ≤ spot.number) (sym stands.at) end)

pub mark_is_spent : (site : SiteState) → is_mark_spent site ≡ true → (site.mark.number ≡ most) ⊎ (most ≤ site.at.number)
mark_is_spent site is = inl (eqb-true site.mark.number most is)

pub record_is_spent : (placement : RecordPlacement) (site : SiteState) → is_spent placement site ≡ true → (site.mark.number ≡ most) ⊎ (most ≤ site.at.number)
record_is_spent placement site = by_placements (λ (w : RecordPlacement). is_spent w site ≡ true → (site.mark.number ≡ most) ⊎ (most ≤ site.at.number)) here switched marked placement
  where
    here : nat_lt most site.at.number ≡ true → (site.mark.number ≡ most) ⊎ (most ≤ site.at.number)
    here is = let less = ltb-true most site.at.number is in inr (omega (arith, less))

    switched : nat_le most site.at.number ≡ true → (site.mark.number ≡ most) ⊎ (most ≤ site.at.number)
    switched is = inr (leb-true most site.at.number is)

    marked : (nat_le most site.at.number || nat_eq site.mark.number most) ≡ true → (site.mark.number ≡ most) ⊎ (most ≤ site.at.number)
    marked is = elim (or_cases (nat_le most site.at.number) (nat_eq site.mark.number most) is) [
      | inl end ↦ inr (leb-true most site.at.number end)
      | inr mark ↦ inl (eqb-true site.mark.number most mark)
    ]

-- ---- why it stops

pub spent_stop : (error : StoreError) → stop_of_store error ≡ stops.Spent → error ≡ Spent
spent_stop (Fault Control) is = absurd cc
spent_stop (Fault State) is = absurd cc
spent_stop (Fault (Journal j)) is = absurd cc
spent_stop (Fault (Volume v)) is = absurd cc
spent_stop Spent is = refl
spent_stop NoMemory is = absurd cc

pub console_stop : (error : StoreError) → stop_of_store error ≡ stops.ConsoleFault → ⊥
console_stop (Fault Control) is = absurd cc
console_stop (Fault State) is = absurd cc
console_stop (Fault (Journal j)) is = absurd cc
console_stop (Fault (Volume v)) is = absurd cc
console_stop Spent is = absurd cc
console_stop NoMemory is = absurd cc

fault_cause : (old new : PlantState) (d : Device) → IsStore d → Rose (old.faults d) (new.faults d) → HasStopCause old new (stop_of_device d)
fault_cause old new Control store rose = rose
fault_cause old new State store rose = rose
fault_cause old new (Journal j) store rose = rose
fault_cause old new (Volume v) store rose = absurd store

-- A call of a site fails for the stop's cause.
pub store_cause : (old new : PlantState) (error : StoreError) → HasStoreCause old.faults new.faults (Err error) → HasStopCause old new (stop_of_store error)
store_cause old new (Fault d) cause = let own = cause.counts.fault d refl in fault_cause old new d own.0 own.1
store_cause old new Spent cause = tt
store_cause old new NoMemory cause = tt

-- A fault of the control, the state or a journal is one of a store.
pub store_fault : (old new : PlantState) (error : StoreError) → HasStoreCause old.faults new.faults (Err error) → (d : Device) → error ≡ Fault d → IsStore d
store_fault old new error cause d is = (cause.counts.fault d (ap (λ (e : StoreError). let r : Result (Unit {0}) StoreError = Err e in r) is)).0

module _ {T : Type 0} (tells : Type 0) (among : Device → Type 0) (old new : PlantState) (works : WorksOnLent tells among old new) where
  -- A stop of a call counts by its own device.
  pub stops_counted : (error : StoreError) → HasStoreCause old.faults new.faults (Err error) → StopsByCount {T = T} old new (Err (stop_of_store error))
  stops_counted error cause = record {
    devices = λ d store other. cause.counts.others d store (λ is. other (ap (λ (stop : Stop). let r : Result T Stop = Err stop in r) (same d error is)));
    console = λ other. works.console_faults;
    later = works.faults;
    console_later = (let same = works.console_faults in omega (arith, same));
    console_once = (let same = works.console_faults in omega (arith, same));
  }
    where
      same : (d : Device) (e : StoreError) → (let r : Result (Unit {0}) StoreError = Err e in r ≡ Err (Fault d)) → stop_of_store e ≡ stop_of_device d
      same d e is = let one : e ≡ Fault d = cc in ap stop_of_store one

  -- None counts where the site's call succeeds.
  pub none_counted : (result : Result T Stop) → HasStoreCause old.faults new.faults (Ok tt) → StopsByCount old new result
  none_counted result cause = record {
    devices = λ d store other. cause.counts.others d store (λ is. absurd cc);
    console = λ other. works.console_faults;
    later = works.faults;
    console_later = (let same = works.console_faults in omega (arith, same));
    console_once = (let same = works.console_faults in omega (arith, same));
  }

-- ---- jobs that fail

-- Of rows of which none was hit before calls each that is hit after them has a count that rose.
pub rose_for_each : (flags now : List Bool) (old new : Device → ℕ) (rows : List PairRow) → FailByCounts flags now old new → hit_now flags rows ≡ [] → (d : ℕ) → is_among d (hit_now now rows) ≡ true → Rose (old (Volume d)) (new (Volume d))
rose_for_each flags now old new rows fails none d hit = (fails.by_count d (let low = flag_low now d down in let size = fails.size in omega (arith, low, size)) (up (is_down flags d) refl)).rose down
  where
    down : is_down now d ≡ true
    down = only_failed d now rows hit

    up : (b : Bool) → is_down flags d ≡ b → b ≡ false
    up true is = absurd (true≢false (sym (hit_by_others now flags d rows hit is) ∙ ap (is_among d) none))
    up false is = refl

-- ---- rows that are suspended

-- A row that its device suspends after hits was as it is before, or its device is hit.
suspended_back : (level : Level) (time : ℕ) (hits : List ℕ) (rows : List PairRow) (r : PairRow) → Among r (rows_hit level time hits rows) → is_device_suspended r.state ≡ true
    → (x : PairRow) × Among x rows × (x.device ≡ r.device) × ((x.state ≡ r.state) ⊎ (is_among x.device hits ≡ true))
suspended_back level time [] rows r there is = (r, there, refl, inl refl)
suspended_back level time (d ∷ hits) rows r there is =
    let back = map_back (λ s. reached_row reach (d ∷ hits) time (hit_row (d ∷ hits) time s)) r rows there in
    let found = by_hit back.0 (is_among back.0.device (d ∷ hits)) refl back.2 in
    (back.0, back.1, found.0, found.1)
  where
    reach : FaultReach
    reach = reach_of level rows

    all : List ℕ
    all = d ∷ hits

    Found : PairRow → Type 0
    Found x = (x.device ≡ r.device) × ((x.state ≡ r.state) ⊎ (is_among x.device all ≡ true))

    reached : (x : PairRow) → (reached_row reach all time x).device ≡ x.device
    reached x = ap (λ (s : PairRow). s.device) (reached_state reach all time x)

    by_hit : (x : PairRow) (b : Bool) → is_among x.device all ≡ b → reached_row reach all time (cond b (in_state (since OfDevice time) x) x) ≡ r → Found x
    by_hit x true hit same = (sym (reached (in_state (since OfDevice time) x)) ∙ ap (λ (s : PairRow). s.device) same, inr hit)
    by_hit x false hit same =
        let on = ap (λ (s : PairRow). is_device_suspended s.state) same ∙ is in
        (sym (reached x) ∙ ap (λ (s : PairRow). s.device) same, inl (reached_hit reach (reach_is_other level rows) all time x on ∙ ap (λ (s : PairRow). s.state) same))

-- Where each row that its device suspends comes from one that it suspended since the same time, hits after them suspend by counts.
pub suspends_by_counts : (level : Level) (time : ℕ) (flags now : List Bool) (before rows : List PairRow) (old new : PlantState) → FailByCounts flags now old.faults new.faults → hit_now flags rows ≡ []
    → ((x : PairRow) → Among x rows → is_device_suspended x.state ≡ true → (y : PairRow) × Contains before y × (y.device ≡ x.device) × (y.state ≡ x.state))
    → SuspendsByCounts before (rows_with_hits level time now rows) old new
suspends_by_counts level time flags now before rows old new fails none from r has on =
    let back = suspended_back level time (hit_now now rows) rows r (among_of (rows_with_hits level time now rows) r has) on in
    by_side back.0 back.1 back.2 back.3
  where
    risen : (d : ℕ) → Rose (old.faults (Volume d)) (new.faults (Volume d)) → CountRose (old.faults (Volume d)) (new.faults (Volume d))
    risen d (inl less) = inl less
    risen d (inr end) = inr (omega (arith, end))

    by_side : (x : PairRow) → Among x rows → x.device ≡ r.device → (x.state ≡ r.state) ⊎ (is_among x.device (hit_now now rows) ≡ true)
        → CountRose (old.faults (Volume r.device)) (new.faults (Volume r.device)) ⊎ ((s : PairRow) × Contains before s × (s.device ≡ r.device) × (s.state ≡ r.state))
    by_side x there device (inl was) = let y = from x there (ap is_device_suspended was ∙ on) in inr (y.0, y.1, y.2 ∙ device, y.3 ∙ was)
    by_side x there device (inr hit) =
        inl (subst (λ (d : ℕ). CountRose (old.faults (Volume d)) (new.faults (Volume d))) device (risen x.device (rose_for_each flags now old.faults new.faults rows fails none x.device hit)))

-- Rows that stay suspend nothing.
pub none_suspended : (rows : List PairRow) (old new : PlantState) → SuspendsByCounts rows rows old new
none_suspended rows old new r has on = inr (r, has, refl, refl)

-- ---- one after another

later_risen : (a b c : ℕ) → a ≤ b → CountRose b c → CountRose a c
later_risen a b c up (inl less) = inl (omega (arith, up, less))
later_risen a b c up (inr end) = inr end

risen_still : (a b c : ℕ) → b ≤ c → CountRose a b → CountRose a c
risen_still a b c up (inl less) = inl (omega (arith, up, less))
risen_still a b c up (inr end) = inr (omega (arith, end, up))

pub suspends_then : (rows mid last : List PairRow) (a b c : PlantState) → ((d : ℕ) → a.faults (Volume d) ≤ b.faults (Volume d)) → ((d : ℕ) → b.faults (Volume d) ≤ c.faults (Volume d))
    → SuspendsByCounts rows mid a b → SuspendsByCounts mid last b c → SuspendsByCounts rows last a c
suspends_then rows mid last a b c up on first second r has is = elim (second r has is) [
  | inl risen ↦ inl (later_risen (a.faults (Volume r.device)) (b.faults (Volume r.device)) (c.faults (Volume r.device)) (up r.device) risen)
  | inr (s, among, device, was) ↦ elim (first s among (ap is_device_suspended was ∙ is)) [
    | inl risen ↦ inl (subst (λ (d : ℕ). CountRose (a.faults (Volume d)) (c.faults (Volume d))) device (risen_still (a.faults (Volume s.device)) (b.faults (Volume s.device)) (c.faults (Volume s.device)) (on s.device) risen))
    | inr (x, there, same, alike) ↦ inr (x, there, same ∙ device, alike ∙ was)
  ]
]
