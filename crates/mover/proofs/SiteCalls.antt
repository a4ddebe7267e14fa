-- What the calls of a site between two calls of the mover do: a group is applied, and failures are told by a record or a mark.
use Rattle.std.proofs.Common.{◌≡◌, ◌≢◌, inl, inr, ℕ, zero, suc, ◌+◌, ◌≤◌, ◌<◌, Bool, true, false, not, cond, nat_eq, ◌&&◌, ◌||◌, List, [], ◌∷◌, ◌++◌, length, get_or, replicate, Result, Ok, Err, refl, sym, ap, subst, ◌∙◌, arith, true≢false, OnOk, append-nil}
use Rattle.std.specs.Prelude.{IsErrOf, IsOk}
use Rattle.std.specs.List.{All, list_any}
use Rattle.std.proofs.lemmas.List.Elements.{All-cons, All-nil}
use Rattle.crash_plant.specs.declared.device.Device.{Device}
use Rattle.crash_plant.specs.declared.device.Device.TheVariants.{Control, State, Journal, Volume}
use Rattle.crash_plant.specs.Moments.{PlantState}
use Rattle.applier.specs.Returns.{WorksOnLent}
use Rattle.applier.proofs.Works.{works_lent_more}
use Rattle.xrc_journal.specs.Bodies.{have_image}
use Rattle.xrc_journal.specs.Contents.{is_of_track}
use Rattle.xrc_journal.specs.Items.{Item}
use Rattle.xrc_journal.specs.Jobs.{FailsByCount}
use Rattle.pending_queue.specs.Entries.{WaitingEntry}
use Rattle.group_state.specs.Runs.{Answer}
use Rattle.pair_table.specs.declared.level.Level.{Level}
use Rattle.pair_table.specs.declared.row.PairRow.{PairRow}
use Rattle.pair_table.specs.declared.row.SuspendCause.TheVariants.{Device as OfDevice}
use Rattle.pair_table.specs.Devices.{is_among}
use Rattle.pair_table.specs.Rows.{is_suspended}
use Rattle.pair_table.specs.Tables.{in_state, none_clash, with_rows}
use Rattle.row_changes.specs.Changes.{FaultReach, Timed, hit_row, reach_of, reached_row, since}
use Rattle.row_changes.specs.Changes.Due.{NoneDue}
use Rattle.row_changes.specs.Spans.{hit_count}
use Rattle.record_rows.specs.Deeds.{Deed, entries_by_deed, rows_by_deed, time_by_deed}
use Rattle.record_rows.specs.Deeds.Deed.{Changed, Marked}
use Rattle.record_rows.specs.Hits.{hit_changes, hit_now, rows_hit, rows_marked, rows_told}
use Rattle.record_rows.specs.Records.{rows_with_hits}
use Rattle.record_rows.specs.ToldRows.{InPlaces}
use Rattle.record_rows.proofs.Counting.{hits_count, once}
use Rattle.record_rows.proofs.Devices.{apart_of}
use Rattle.record_rows.proofs.HitRows.{hits_are_changes, hits_row, reach_row, told_row, told_rows as rows_are_told}
use Rattle.record_rows.proofs.Telling.{hits_tell, none_hit_again}
use Rattle.site_store.specs.DoneDeeds.{BeginsDeeds, DoesDeeds}
use Rattle.site_store.specs.Exceptions.{Exceptions, excepted_after, is_kept, is_whole_on}
use Rattle.site_store.proofs.Moments.{have_begun}
use Rattle.site_store.proofs.Single.{no_call}
use Rattle.site_store.proofs.Widening.{begins_still, does_still}
use Rattle.fed_logs.specs.Moves.{AreFewer, AreQuiet, is_mark_due_after}
use Rattle.site_store.specs.declared.store_error.StoreError.{StoreError}
use Rattle.site_store.specs.declared.store_error.StoreError.TheVariants.{Spent}
use Rattle.site_store.specs.Applying.{Applies, AppliesToVolume, DoesApply, excepted_by_apply, is_applied}
use Rattle.site_store.specs.Causes.{FailByCounts, HasStoreCause}
use Rattle.site_store.specs.Changing.{DoesSuspend, Suspends, suspension_deeds, suspension_deeds_of, with_suspensions}
use Rattle.site_store.specs.Jobs.{has_device}
use Rattle.site_store.specs.Marking.{DoesMark, Marks, MayMark, excepted_with_waiting, rows_at_mark}
use Rattle.site_store.specs.Records.{IsOfMark, IsOfRecord, IsStore, VolumesStay, after_mark}
use Rattle.site_store.specs.Sites.{SiteState, has_failed, is_written}
use Rattle.site_store.specs.Standing.{FitsPlant, Leaves, SiteStands, StandsFast, none_excepted}
use Rattle.site_store.specs.Waiting.{IsOfWaiting}
use Rattle.site_store.proofs.ByPlacements.{RecordPlacement, by_placements, placement_here, placement_marked, placement_switched}
use Rattle.mover.specs.Steps.{AreMade}
use Rattle.mover.specs.Moves.{Fades, SessionGoesOn, IsOfMover, KeepPairs, KeepsPair, MoverWorks, SiteMoved, is_device_of_row, is_mark_due, is_worked_on, most_faults, untold_hits}
use Rattle.mover.proofs.InSlots.{slots_applied, slots_at_rest, slots_stay}
use Rattle.mover.proofs.SamePairs.{apart_still, each_mapped, each_more, fade_pair, fade_self, fewer_of, gone_then, same_pair, still_self}
use Rattle.mover.proofs.Making.{hits_made, mark_made}
use Rattle.mover.proofs.MovedOn.{in_rows_alone, on_both, on_ok}
use Rattle.mover.proofs.SpentSites.{mark_spent, suspend_spent}
use Rattle.mover.proofs.ToldHits.{flag_low, hits_rise, still_hit}

-- ---- flags

pub and_true : (b : Bool) → (b && true) ≡ b
and_true true = refl
and_true false = refl

or_false : (b : Bool) → (b || false) ≡ b
or_false true = refl
or_false false = refl

and_parts_false : (a b : Bool) → a ≡ false → (a && b) ≡ false
and_parts_false true b e = absurd cc
and_parts_false false b e = refl

-- Where no item waits, the same tracks are excepted once what waits is applied.
pub none_waits : (site : SiteState) (e : Exceptions) (d x : ℕ) → site.waiting ≡ [] → excepted_by_apply site e d x ≡ e d x
none_waits site e d x idle = ap (λ (items : List Item). e d x && not (have_image items d x)) idle ∙ and_true (e d x)

-- So it is once the items that wait are excepted too.
no_more_waits : (site : SiteState) (e : Exceptions) → site.waiting ≡ [] → excepted_with_waiting site e ≡ e
no_more_waits site e idle = λ k d x. (ap (λ (items : List Item). e d x || list_any (is_of_track d x) items) idle ∙ or_false (e d x)) k

-- A track that isn't excepted isn't once what waits is applied.
pub still_none : (site : SiteState) (e : Exceptions) (d x : ℕ) → e d x ≡ false → excepted_by_apply site e d x ≡ false
still_none site e d x none = and_parts_false (e d x) (not (have_image site.waiting d x)) none

-- ---- devices of rows

pub devices_still : (v : ℕ) (rows next : List PairRow) → KeepPairs rows next → is_device_of_row v next ≡ is_device_of_row v rows
devices_still v [] [] are = refl
devices_still v [] (s ∷ next) are = absurd are
devices_still v (r ∷ rows) [] are = absurd are
devices_still v (r ∷ rows) (s ∷ next) are = λ i. nat_eq (ap (λ (x : PairRow). x.device) are.0.same i) v || devices_still v rows next are.1 i

-- the parts of a volume on which the mover works
pub worked_rows : (site : SiteState) (v : ℕ) → is_device_of_row v site.told ≡ true → is_worked_on site v ≡ true
worked_rows site v is = rw is refl

pub worked_written : (site : SiteState) (v : ℕ) → is_written site v ≡ true → is_worked_on site v ≡ true
worked_written site v is = by (is_device_of_row v site.told) (is_written site v) is
  where
    by : (a b : Bool) → b ≡ true → (a || b || has_device v site.waiting) ≡ true
    by true b e = refl
    by false true e = refl
    by false false e = absurd cc

pub worked_waiting : (site : SiteState) (v : ℕ) → has_device v site.waiting ≡ true → is_worked_on site v ≡ true
worked_waiting site v is = by (is_device_of_row v site.told) (is_written site v) (has_device v site.waiting) is
  where
    by : (a b c : Bool) → c ≡ true → (a || b || c) ≡ true
    by true b c e = refl
    by false true c e = refl
    by false false c e = e

-- The mover works on the volumes of a site after calls that it worked on before, if it works on their parts.
pub works_less : (site next : SiteState) → KeepPairs site.told next.told → ((v : ℕ) → is_written next v ≡ true → is_worked_on site v ≡ true) → ((v : ℕ) → has_device v next.waiting ≡ true → is_worked_on site v ≡ true) → (v : ℕ) → is_worked_on next v ≡ true → is_worked_on site v ≡ true
works_less site next still written waiting v is = by (is_device_of_row v next.told) refl (is_written next v) refl (has_device v next.waiting) refl is
  where
    by : (a : Bool) → is_device_of_row v next.told ≡ a → (b : Bool) → is_written next v ≡ b → (c : Bool) → has_device v next.waiting ≡ c → (a || b || c) ≡ true → is_worked_on site v ≡ true
    by true e b f c g is = worked_rows site v (sym (devices_still v site.told next.told still) ∙ e)
    by false e true f c g is = written v f
    by false e false f true g is = waiting v g
    by false e false f false g is = absurd cc

-- ---- what a call leaves for the next

pub fast_then : (tells : Type 0) (now : Exceptions → Exceptions) (site next : SiteState) (old new : PlantState) → StandsFast tells site old → Leaves tells now site next old new → StandsFast tells next new
fast_then tells now site next old new fast leaves = record { fits = leaves.fits; stands = λ told. let s = fast.stands told in (now s.0, leaves.stands told s.0 s.1) }

-- ---- a group is applied

module _ (tells : Type 0) (site next : SiteState) (old new : PlantState) (fits : FitsPlant site old) (applies : Applies tells site next old new) (leaves : Leaves tells (excepted_by_apply site) site next old new) (works : WorksOnLent tells (IsOfWaiting site) old new) where
  pub apply_fails : FailByCounts site.failed next.failed old.faults new.faults
  apply_fails = record {
    size = leaves.fits.failed ∙ works.site.volumes ∙ sym fits.failed;
    alone = λ d lt was.
        let v = (applies.volumes d (omega (arith, lt, fits.failed))).volume in
        let none : is_applied site d ≡ false = ap (λ (b : Bool). not b && has_device d site.waiting) was in
        (v.same_job none ∙ was, v.same_count none);
    by_count = λ d lt was. by d (applies.volumes d (omega (arith, lt, fits.failed))).volume was (is_applied site d) refl;
  }
    where
      by : (d : ℕ) → AppliesToVolume tells site.waiting (is_applied site d) (has_failed site d) (has_failed next d) d old new → get_or site.failed d false ≡ false → (b : Bool) → is_applied site d ≡ b → FailsByCount (get_or next.failed d false) (old.faults (Volume d)) (new.faults (Volume d))
      by d v was true e = v.count e
      by d v was false e =
          let same = v.same_count e in
          let job : get_or next.failed d false ≡ false = v.same_job e ∙ was in
          record { later = omega (arith, same); by_one = omega (arith, same); same = λ good. same; rose = λ bad. absurd (true≢false (sym bad ∙ job)) }

  told_is : next.told ≡ site.told
  told_is = ap (λ (s : SiteState). s.told) applies.next_is

  pub apply_moved : (tells → DoesApply site old new) → SiteMoved tells site next old new (Ok tt)
  apply_moved moments = record {
    steps = [];
    changes = tt;
    made = λ going answers. refl;
    going = λ going. ap (λ (s : SiteState). s.mark.ended) applies.next_is ∙ going;
    fades = tt;
    later = λ d. works.faults (Volume d);
    counted = λ d low. let up = works.faults (Volume d) in omega (arith, up);
    counted_all = λ d low.
        let rise = hits_rise site.failed next.failed old.faults new.faults apply_fails d site.told low (works.faults (Volume d)) in
        let is : untold_hits next d ≡ once (is_among d (hit_now next.failed site.told)) = ap (λ (rows : List PairRow). once (is_among d (hit_now next.failed rows))) told_is in
        omega (arith, rise, is);
    quiet = (site.told, refl);
    all = record { suspends = told_is; time = ap (λ (s : SiteState). s.time) applies.next_is; still = subst (λ (rows : List PairRow). KeepPairs site.told rows) (sym told_is) (still_self site.told) };
    is_left = record {
      level = ap (λ (s : SiteState). s.level) applies.next_is;
      controls = ap (λ (s : SiteState). s.controls) applies.next_is;
      table = in_rows_alone site.table next.table site.table.rows (ap (λ (s : SiteState). s.table) applies.next_is);
      rows = told_is;
      time = ap (λ (s : SiteState). s.time) applies.next_is;
    };
    due = ap is_mark_due applies.next_is;
    begins = λ told e stands. have_begun old new (excepted_by_apply site e) site.told [] (does told e);
    did = λ told e stands. record {
      does = does told e;
      still = excepted_by_apply site e;
      stands = leaves.stands told e stands;
      fewer = λ d x is. still_none next (excepted_by_apply site e) d x is;
    };
  }
    where
      does : tells → (e : Exceptions) → DoesDeeds (excepted_by_apply site e) site.told [] old new
      does told e = does_still old new none_excepted (excepted_by_apply site e) site.told (λ d x is. refl) [] (moments told).does

  pub apply_works : MoverWorks tells site next old new (Ok tt)
  apply_works = record {
    others = works_lent_more tells (IsOfWaiting site) (IsOfMover site) old new among works;
    cause = record { counts = record { fault = λ d none. cc none; others = λ d store none. works.others_faults d (not_waiting d store) }; memory = λ none. cc none };
    failed = apply_fails;
    rest = works_less site next (subst (λ (rows : List PairRow). KeepPairs site.told rows) (sym told_is) (still_self site.told)) written (λ v is. absurd (none_there v is));
    slots = slots_applied tells site next old new applies;
    spent = λ none. cc none;
  }
    where
      among : (d : Device) → IsOfWaiting site d → IsOfMover site d
      among Control is = absurd is
      among State is = absurd is
      among (Journal j) is = absurd is
      among (Volume v) is = inr (v, refl, worked_waiting site v is)

      not_waiting : (d : Device) → IsStore d → ¬ IsOfWaiting site d
      not_waiting Control store is = is
      not_waiting State store is = is
      not_waiting (Journal j) store is = is
      not_waiting (Volume v) store is = store

      none_there : (v : ℕ) → has_device v next.waiting ≡ true → ⊥
      none_there v is = true≢false (sym is ∙ ap (λ (s : SiteState). has_device v s.waiting) applies.next_is)

      written : (v : ℕ) → is_written next v ≡ true → is_worked_on site v ≡ true
      written v is = either (is_written site v) refl (sym (applies.volumes v low).written ∙ is)
        where
          low : v < old.volumes
          low = let lt = flag_low next.written v is in omega (arith, lt, leaves.fits.written, works.site.volumes)

          waits : (f w : Bool) → (not f && w) ≡ true → w ≡ true
          waits true w e = absurd cc
          waits false w e = e

          either : (b : Bool) → is_written site v ≡ b → (is_written site v || is_applied site v) ≡ true → is_worked_on site v ≡ true
          either true e is = worked_written site v e
          either false e is = worked_waiting site v (waits (has_failed site v) (has_device v site.waiting) (sym (ap (λ (b : Bool). b || is_applied site v) e) ∙ is))

-- ---- failures are told

-- Hits and what they reach suspend rows, and do nothing else.
fade_hit : (devices : List ℕ) (time : ℕ) (r : PairRow) → Fades r (hit_row devices time r)
fade_hit devices time r = by (is_among r.device devices)
  where
    by : (b : Bool) → Fades r (cond b (in_state (since OfDevice time) r) r)
    by true = record { same = refl; fades = inr refl; gone = λ is. inr refl }
    by false = fade_self r

fade_reached : (reach : FaultReach) (devices : List ℕ) (time : ℕ) (r : PairRow) → Fades r (reached_row reach devices time r)
fade_reached reach devices time r = by (reach.reaches devices r) (is_suspended r.state) refl
  where
    by : (b c : Bool) → is_suspended r.state ≡ c → Fades r (cond b (cond c r (in_state (since reach.cause time) r)) r)
    by true true e = fade_self r
    by true false e = record { same = refl; fades = inr refl; gone = λ is. absurd (true≢false (sym is ∙ e)) }
    by false c e = fade_self r

fade_then : (r s t : PairRow) → Fades r s → Fades s t → Fades r t
fade_then r s t a b = record {
  same = same_pair r s t a.same b.same;
  fades = elim b.fades [
    | inl same ↦ elim a.fades [
      | inl was ↦ inl (same ∙ was)
      | inr gone ↦ inr (ap is_suspended same ∙ gone)
    ]
    | inr gone ↦ inr gone
  ];
  gone = gone_then r.state s.state t.state a.gone b.gone;
}

fade_told : (reach : FaultReach) (time : ℕ) (marked hit : List ℕ) (r : PairRow) → Fades r (told_row reach time marked hit r)
fade_told reach time marked hit r = fade_then r (reach_row reach time marked r) (told_row reach time marked hit r) (first marked) (then hit (reach_row reach time marked r))
  where
    first : (m : List ℕ) → Fades r (reach_row reach time m r)
    first [] = fade_self r
    first (d ∷ m) = fade_reached reach (d ∷ m) time r

    then : (h : List ℕ) (s : PairRow) → Fades s (hits_row reach time h s)
    then [] s = fade_self s
    then (d ∷ h) s = let struck = hit_row (d ∷ h) time s in fade_then s struck (reached_row reach (d ∷ h) time struck) (fade_hit (d ∷ h) time s) (fade_reached reach (d ∷ h) time struck)

pub fades_told : (level : Level) (time : ℕ) (marked hit : List ℕ) (rows : List PairRow) → InPlaces Fades rows (rows_told level time marked hit rows)
fades_told level time marked hit rows =
    let reach = reach_of level rows in
    subst (λ (next : List PairRow). InPlaces Fades rows next) (sym (rows_are_told level time marked hit rows)) (each_mapped Fades (told_row reach time marked hit) (fade_told reach time marked hit) rows)

pub fades_hit : (level : Level) (time : ℕ) (hit : List ℕ) (rows : List PairRow) → InPlaces Fades rows (rows_hit level time hit rows)
fades_hit level time hit rows = fades_told level time [] hit rows

pub fades_marked : (time : ℕ) (hit : List ℕ) (rows : List PairRow) → InPlaces Fades rows (rows_marked time hit rows)
fades_marked time hit rows = each_mapped Fades (hit_row hit time) (fade_hit hit time) rows

in_time : (time : ℕ) (hit : List ℕ) → All (λ (t : Timed). (time ≤ t.time) × (t.time ≤ time)) (hit_changes time hit)
in_time time [] = All-nil (λ (t : Timed). (time ≤ t.time) × (t.time ≤ time))
in_time time (d ∷ hit) = All-cons (λ (t : Timed). (time ≤ t.time) × (t.time ≤ time)) _ [] (omega arith, omega arith) (All-nil (λ (t : Timed). (time ≤ t.time) × (t.time ≤ time)))

-- the rows after a record or a mark that tells failures at the site's time
abbrev pub told_rows : (site : SiteState) → (failed : List Bool) → List PairRow
told_rows site failed = rows_with_hits site.level site.time failed site.told

-- What a call leaves that tells failures.
pub record Tells (site next : SiteState) : Type 0 where
  pub level : next.level ≡ site.level
  pub controls : next.controls ≡ site.controls
  pub table : next.table ≡ with_rows site.table next.table.rows
  pub rows : next.told ≡ told_rows site next.failed
  pub time : next.time ≡ site.time
  pub level_is : next.is_ahead ≡ false
  pub idle : next.waiting ≡ []
  pub going : SessionGoesOn site next
  pub written : (v : ℕ) → is_written next v ≡ true → is_written site v ≡ true

told_fades : (site : SiteState) (failed : List Bool) → InPlaces Fades site.told (told_rows site failed)
told_fades site failed = fades_hit site.level site.time (hit_now failed site.told) site.told

pub told_still : (site : SiteState) (failed : List Bool) → KeepPairs site.told (told_rows site failed)
told_still site failed = each_more Fades KeepsPair fade_pair site.told (told_rows site failed) (told_fades site failed)

told_fewer : (site : SiteState) (failed : List Bool) → AreFewer site.told (told_rows site failed)
told_fewer site failed = fewer_of site.told (told_rows site failed) (told_fades site failed)

pub told_apart : (site : SiteState) (failed : List Bool) → none_clash site.told ≡ true → none_clash (told_rows site failed) ≡ true
told_apart site failed apart = apart_still site.told (told_rows site failed) (told_still site failed) apart

-- Then no failure is left to be told.
pub none_untold_then : (site next : SiteState) → none_clash site.told ≡ true → Tells site next → hit_now next.failed next.told ≡ []
none_untold_then site next apart t = ap (hit_now next.failed) t.rows ∙ none_hit_again next.failed site.time site.told (told_rows site next.failed) (hits_tell site.level site.time next.failed site.told (apart_of site.told apart))

-- Every crash leaves the site after the call, with no more tracks excepted than before.
abbrev pub StandsFewer : (site next : SiteState) → (old new : PlantState) → Type 0
StandsFewer site next old new = (e : Exceptions) → SiteStands e site old → (now : Exceptions) × SiteStands now next new × ((d x : ℕ) → e d x ≡ false → now d x ≡ false)

-- A record or a mark with such rows is a deed without entries, at the site's time.
module _ (tells : Type 0) (site next : SiteState) (old new : PlantState) (result : Result (Unit {0}) StoreError) (apart : none_clash site.told ≡ true) (idle : site.waiting ≡ []) (fails : FailByCounts site.failed next.failed old.faults new.faults)
    (later : (d : ℕ) → old.faults (Volume d) ≤ new.faults (Volume d)) (leaves : tells → OnOk result (StandsFewer site next old new)) where
  abbrev next_rows : List PairRow
  next_rows = told_rows site next.failed

  abbrev changes : List Timed
  changes = hit_changes site.time (hit_now next.failed site.told)

  counts : (left : ℕ) (d : ℕ) → left ≡ 0 → new.faults (Volume d) < most_faults → hit_count d (changes ++ []) + old.faults (Volume d) + left ≤ new.faults (Volume d) + untold_hits site d
  counts left d none low =
      let rise = hits_rise site.failed next.failed old.faults new.faults fails d site.told low (later d) in
      let many : hit_count d (changes ++ []) ≡ once (is_among d (hit_now next.failed site.told)) = ap (hit_count d) (append-nil changes) ∙ hits_count d site.time (hit_now next.failed site.told) in
      omega (arith, rise, many, none)

  pub tell_moved : (deed : Deed) → rows_by_deed deed ≡ next_rows → time_by_deed site.time deed ≡ site.time → entries_by_deed deed ≡ [] → AreQuiet site.time site.told (deed ∷ []) next_rows
      → (site.mark.ended ≡ false → (answers : List Answer) → AreMade site.level false answers site.time site.told NoneDue (record { deed = deed; changes = changes } ∷ []) NoneDue) → OnOk result (Tells site next)
      → OnOk result (is_mark_due next ≡ is_mark_due_after (is_mark_due site) (deed ∷ [])) → (tells → (e : Exceptions) → SiteStands e site old → BeginsDeeds e site.told (deed ∷ []) old new) → (tells → OnOk result ((e : Exceptions) → SiteStands e site old → DoesDeeds e site.told (deed ∷ []) old new)) → SiteMoved tells site next old new result
  tell_moved deed rows_are time_is none quiet made tell due begins does = record {
    steps = record { deed = deed; changes = changes } ∷ [];
    changes = (
      record {
        rows_are = rows_are ∙ hits_are_changes site.level site.time (hit_now next.failed site.told) site.told;
        in_time = subst (λ (t : ℕ). All (λ (c : Timed). (site.time ≤ c.time) × (c.time ≤ t)) changes) (sym time_is) (in_time site.time (hit_now next.failed site.told));
      },
      tt,
    );
    made = made;
    going = on_ok result (λ (t : Tells site next). t.going) tell;
    fades = (subst (λ (l : List PairRow). InPlaces Fades site.told l) (sym rows_are) (told_fades site next.failed), tt);
    later = later;
    counted = λ d low. counts 0 d refl low;
    counted_all = on_ok result (λ (t : Tells site next). λ d low. counts (untold_hits next d) d (ap (λ (hit : List ℕ). once (is_among d hit)) (none_untold_then site next apart t)) low) tell;
    quiet = (next_rows, quiet);
    all = on_ok result (λ (t : Tells site next). record { suspends = subst (λ (l : List PairRow). AreQuiet site.time site.told (deed ∷ []) l) (sym t.rows) quiet; time = t.time; still = subst (λ (l : List PairRow). KeepPairs site.told l) (sym t.rows) (told_still site next.failed) }) tell;
    is_left = on_ok result (λ (t : Tells site next). record { level = t.level; controls = t.controls; table = t.table; rows = t.rows ∙ sym rows_are; time = t.time ∙ sym time_is }) tell;
    due = due;
    begins = λ told e stands. begins_still old new e (excepted_by_apply site e) site.told (same e) (deed ∷ []) (begins told e stands);
    did = λ told. on_both result (λ (d : (e : Exceptions) → SiteStands e site old → DoesDeeds e site.told (deed ∷ []) old new) (l : StandsFewer site next old new).
        λ e stands. let s = l e stands in record {
          does = does_still old new e (excepted_by_apply site e) site.told (same e) (deed ∷ []) (d e stands);
          still = s.0;
          stands = s.1;
          fewer = λ v x is. still_none next s.0 v x (s.2 v x (same e v x (before (excepted_by_apply site e) v x is)));
        }) (does told) (leaves told);
  }
    where
      same : (e : Exceptions) (d x : ℕ) → excepted_by_apply site e d x ≡ false → e d x ≡ false
      same e d x is = sym (none_waits site e d x idle) ∙ is

      before : (e : Exceptions) (d x : ℕ) → excepted_after site.told (deed ∷ []) e d x ≡ false → e d x ≡ false
      before e d x is = by (is_kept d (rows_by_deed deed)) (e d x) (sym (ap (λ (l : List WaitingEntry). not (is_kept d (rows_by_deed deed)) || (e d x && not (list_any (is_whole_on site.told d x) l))) none) ∙ is)
        where
          by : (a b : Bool) → (not a || (b && true)) ≡ false → b ≡ false
          by true b e = sym (and_true b) ∙ e
          by false b e = absurd cc

-- ---- no call

pub nothing_moved : (tells : Type 0) (site : SiteState) (plant : PlantState) (value : Unit {0}) → SiteMoved tells site site plant plant (Ok value)
nothing_moved tells site plant value = record {
  steps = [];
  changes = tt;
  made = λ going answers. refl;
  going = λ going. going;
  fades = tt;
  later = λ d. omega arith;
  counted = λ d low. omega arith;
  counted_all = λ d low. omega arith;
  quiet = (site.told, refl);
  all = record { suspends = refl; time = refl; still = still_self site.told };
  is_left = record { level = refl; controls = refl; table = refl; rows = refl; time = refl };
  due = refl;
  begins = λ told e stands. have_begun plant plant (excepted_by_apply site e) site.told [] (no_call plant (excepted_by_apply site e) site.told);
  did = λ told e stands. record { does = no_call plant (excepted_by_apply site e) site.told; still = e; stands = stands; fewer = λ d x is. is };
}

-- ---- suspensions

pub none_written : (n v : ℕ) → get_or (replicate n false) v false ≡ true → ⊥
none_written zero v is = true≢false (sym is)
none_written (suc n) zero is = true≢false (sym is)
none_written (suc n) (suc v) is = none_written n v is

-- Suspensions are told at the site's time.
module _ (tells : Type 0) {P : Type 0} (state : P → PlantState) (site next : SiteState) (was is : P) (result : Result (Unit {0}) StoreError) (apart : none_clash site.told ≡ true) (idle : site.waiting ≡ []) (level : site.is_ahead ≡ false)
    (ok : Suspends site.time site next (state was) was is result) (leaves : OnOk result (Leaves tells (λ e. e) site next (state was) (state is))) (moments : DoesSuspend tells site.time site next (state was) (state is) result)
    (works : WorksOnLent tells (IsOfRecord site) (state was) (state is)) (fails : FailByCounts site.failed next.failed (state was).faults (state is).faults) where
  -- What they leave, also where there are none.
  pub suspend_tells : OnOk result (Tells site next)
  suspend_tells = by (hit_now site.failed site.told) refl
    where
      none_told : next ≡ site → hit_now site.failed site.told ≡ [] → Tells site next
      none_told same none = record {
        level = ap (λ (s : SiteState). s.level) same;
        controls = ap (λ (s : SiteState). s.controls) same;
        table = in_rows_alone site.table next.table site.table.rows (ap (λ (s : SiteState). s.table) same);
        rows = ap (λ (s : SiteState). s.told) same ∙ ap (λ (hit : List ℕ). rows_hit site.level site.time hit site.told) (sym none) ∙ ap (λ (s : SiteState). told_rows site s.failed) (sym same);
        time = ap (λ (s : SiteState). s.time) same;
        level_is = ap (λ (s : SiteState). s.is_ahead) same ∙ level;
        idle = ap (λ (s : SiteState). s.waiting) same ∙ idle;
        going = λ going. ap (λ (s : SiteState). s.mark.ended) same ∙ going;
        written = λ v is. ap (λ (s : SiteState). is_written s v) (sym same) ∙ is;
      }

      Left : RecordPlacement → Type 0
      Left placement = next ≡ with_suspensions (state was).journals placement site.time ok.items next.failed site → Tells site next

      here_left : Left placement_here
      here_left e = record {
        level = ap (λ (s : SiteState). s.level) e;
        controls = ap (λ (s : SiteState). s.controls) e;
        table = in_rows_alone site.table next.table (told_rows site site.failed) (ap (λ (s : SiteState). s.table) e);
        rows = ap (λ (s : SiteState). s.told) e ∙ ap (λ (s : SiteState). told_rows site s.failed) (sym e);
        time = ap (λ (s : SiteState). s.time) e;
        level_is = ap (λ (s : SiteState). s.is_ahead) e;
        idle = ap (λ (s : SiteState). s.waiting) e ∙ idle;
        going = λ going. ap (λ (s : SiteState). s.mark.ended) e ∙ going;
        written = λ v is. ap (λ (s : SiteState). is_written s v) (sym e) ∙ is;
      }

      switched_left : Left placement_switched
      switched_left e = record {
        level = ap (λ (s : SiteState). s.level) e;
        controls = ap (λ (s : SiteState). s.controls) e;
        table = in_rows_alone site.table next.table (told_rows site site.failed) (ap (λ (s : SiteState). s.table) e);
        rows = ap (λ (s : SiteState). s.told) e ∙ ap (λ (s : SiteState). told_rows site s.failed) (sym e);
        time = ap (λ (s : SiteState). s.time) e;
        level_is = ap (λ (s : SiteState). s.is_ahead) e;
        idle = ap (λ (s : SiteState). s.waiting) e ∙ idle;
        going = λ going. ap (λ (s : SiteState). s.mark.ended) e ∙ going;
        written = λ v is. ap (λ (s : SiteState). is_written s v) (sym e) ∙ is;
      }

      marked_left : Left placement_marked
      marked_left e = record {
        level = ap (λ (s : SiteState). s.level) e;
        controls = ap (λ (s : SiteState). s.controls) e;
        table = in_rows_alone site.table next.table (told_rows site next.failed) (ap (λ (s : SiteState). s.table) e);
        rows = ap (λ (s : SiteState). s.told) e;
        time = ap (λ (s : SiteState). s.time) e;
        level_is = ap (λ (s : SiteState). s.is_ahead) e;
        idle = ap (λ (s : SiteState). s.waiting) e;
        going = λ going. ap (λ (s : SiteState). s.mark.ended) e ∙ going;
        written = λ v is. absurd (none_written (length site.written) v (ap (λ (s : SiteState). is_written s v) (sym e) ∙ is));
      }

      by : (hits : List ℕ) → hit_now site.failed site.told ≡ hits → OnOk result (Tells site next)
      by [] none = let n = ok.nothing none in on_ok result (λ (value : Unit {0}). none_told n.1 none) (any result)
        where
          any : (r : Result (Unit {0}) StoreError) → OnOk r (Unit {0})
          any (Ok value) = tt
          any (Err e) = tt
      by (d ∷ hits) some = on_ok result (λ (e : next ≡ with_suspensions (state was).journals ok.placement site.time ok.items next.failed site). by_placements Left here_left switched_left marked_left ok.placement e) (ok.logged (λ none. let clash : d ∷ hits ≡ [] = sym some ∙ none in cc clash))

  pub suspend_moved : SiteMoved tells site next (state was) (state is) result
  suspend_moved = by (hit_now site.failed site.told) refl
    where
      stays : (r : Result (Unit {0}) StoreError) → IsOk r → next ≡ site → is ≡ was → SiteMoved tells site next (state was) (state is) r
      stays (Ok value) good same here = subst (λ (s : SiteState). SiteMoved tells site s (state was) (state is) (Ok value)) (sym same) (subst (λ (p : P). SiteMoved tells site site (state was) (state p) (Ok value)) (sym here) (nothing_moved tells site (state was) value))
      stays (Err e) good same here = absurd (true≢false (sym good))

      fewer_stand : tells → OnOk result (StandsFewer site next (state was) (state is))
      fewer_stand told = on_ok result (λ (l : Leaves tells (λ e. e) site next (state was) (state is)). λ e stands. (e, l.stands told e stands, λ d x none. none)) leaves

      later : (d : ℕ) → (state was).faults (Volume d) ≤ (state is).faults (Volume d)
      later d = works.faults (Volume d)

      Begin : List Deed → Type 0
      Begin deeds = tells → (e : Exceptions) → SiteStands e site (state was) → BeginsDeeds e site.told deeds (state was) (state is)

      Do : List Deed → Type 0
      Do deeds = tells → OnOk result ((e : Exceptions) → SiteStands e site (state was) → DoesDeeds e site.told deeds (state was) (state is))

      After : RecordPlacement → SiteState
      After placement = with_suspensions (state was).journals placement site.time moments.items next.failed site

      Goes : RecordPlacement → Type 0
      Goes placement = OnOk result (next ≡ After placement) → Begin (suspension_deeds placement site site.time next.failed) → Do (suspension_deeds placement site site.time next.failed) → SiteMoved tells site next (state was) (state is) result

      by_record : hit_now site.failed site.told ≢ [] → OnOk result (is_mark_due next ≡ is_mark_due site) → Begin (Changed site.time (told_rows site next.failed) ∷ []) → Do (Changed site.time (told_rows site next.failed) ∷ []) → SiteMoved tells site next (state was) (state is) result
      by_record there due begins does = tell_moved tells site next (state was) (state is) result apart idle fails later fewer_stand (Changed site.time (told_rows site next.failed)) refl refl refl (refl, told_fewer site next.failed, refl) (λ going answers. hits_made site.level answers site.time site.told next.failed (still_hit site.failed next.failed (state was).faults (state is).faults site.told fails there)) suspend_tells due begins does

      same_due : (placement : RecordPlacement) → is_mark_due (After placement) ≡ is_mark_due site → OnOk result (next ≡ After placement) → OnOk result (is_mark_due next ≡ is_mark_due site)
      same_due placement same left = on_ok result (λ (e : next ≡ After placement). ap is_mark_due e ∙ same) left

      by_mark : OnOk result (next ≡ After placement_marked) → Begin (Marked site.at site.mark.ended (told_rows site next.failed) ∷ []) → Do (Marked site.at site.mark.ended (told_rows site next.failed) ∷ []) → SiteMoved tells site next (state was) (state is) result
      by_mark left begins does = tell_moved tells site next (state was) (state is) result apart idle fails later fewer_stand (Marked site.at site.mark.ended (told_rows site next.failed)) refl refl refl (told_fewer site next.failed, refl) (λ going answers. mark_made site.level answers site.at site.mark.ended going site.time site.told next.failed) suspend_tells (on_ok result (λ (e : next ≡ After placement_marked). ap is_mark_due e) left) begins does

      some_deeds : hit_now site.failed site.told ≢ [] → suspension_deeds_of moments.placement site site.time next.failed ≡ suspension_deeds moments.placement site site.time next.failed
      some_deeds some = by_hit (hit_now site.failed site.told) some
        where
          by_hit : (hit : List ℕ) → hit ≢ [] → elim hit [ [] ↦ [] | d ∷ more ↦ suspension_deeds moments.placement site site.time next.failed ] ≡ suspension_deeds moments.placement site site.time next.failed
          by_hit [] some = absurd (some refl)
          by_hit (d ∷ more) some = refl

      by : (hits : List ℕ) → hit_now site.failed site.told ≡ hits → SiteMoved tells site next (state was) (state is) result
      by [] none = let n = ok.nothing none in stays result n.0 n.1 n.2
      by (d ∷ hits) some =
          let there : hit_now site.failed site.told ≢ [] = λ none. let clash : d ∷ hits ≡ [] = sym some ∙ none in cc clash in
          by_placements Goes (λ left. by_record there (same_due placement_here refl left)) (λ left. by_record there (same_due placement_switched refl left)) by_mark moments.placement (moments.left there) (subst Begin (some_deeds there) moments.begins) (subst Do (some_deeds there) moments.does)

  pub suspend_works : HasStoreCause (state was).faults (state is).faults result → VolumesStay tells (state was) (state is) → StandsFast tells site (state was) → (IsErrOf result Spent → (next ≡ site) × (is ≡ was)) → MoverWorks tells site next (state was) (state is) result
  suspend_works cause stay fast uncalled = record {
    others = works_lent_more tells (IsOfRecord site) (IsOfMover site) (state was) (state is) among works;
    cause = cause;
    failed = fails;
    rest = on_ok result (λ (t : Tells site next). works_less site next (tells_still t) (λ v is. worked_written site v (t.written v is)) (λ v is. absurd (true≢false (sym is ∙ ap (has_device v) t.idle)))) suspend_tells;
    slots = slots_stay tells site next (state was) (state is) result stay (on_ok result (λ (t : Tells site next). slots_at_rest site next (tells_still t) t.idle) suspend_tells);
    spent = suspend_spent tells state site next was is result fast site.time ok uncalled;
  }
    where
      among : (d : Device) → IsOfRecord site d → IsOfMover site d
      among Control is = inl tt
      among State is = inl tt
      among (Journal j) is = inl tt
      among (Volume v) (inl is) = absurd is
      among (Volume v) (inr is) = inr (v, refl, worked_written site v is)

      tells_still : Tells site next → KeepPairs site.told next.told
      tells_still t = subst (λ (l : List PairRow). KeepPairs site.told l) (sym t.rows) (told_still site next.failed)

-- ---- a mark

module _ (tells : Type 0) {P : Type 0} (state : P → PlantState) (site next : SiteState) (ended : Bool) (goes_on : ended ≡ false) (was is : P) (result : Result (Unit {0}) StoreError) (apart : none_clash site.told ≡ true) (idle : site.waiting ≡ [])
    (ok : Marks site next ended was is result) (leaves : OnOk result (Leaves tells (λ e. none_excepted) site next (state was) (state is))) (moments : DoesMark tells site next ended (state was) (state is) result)
    (works : WorksOnLent tells (IsOfMark site) (state was) (state is)) (fails : FailByCounts site.failed next.failed (state was).faults (state is).faults) where
  pub mark_tells : OnOk result (Tells site next)
  mark_tells = on_ok result (λ (e : next ≡ after_mark ended (rows_at_mark site.level site next.failed) next.failed site). record {
    level = ap (λ (s : SiteState). s.level) e;
    controls = ap (λ (s : SiteState). s.controls) e;
    table = in_rows_alone site.table next.table (told_rows site next.failed) (ap (λ (s : SiteState). s.table) e);
    rows = ap (λ (s : SiteState). s.told) e;
    time = ap (λ (s : SiteState). s.time) e;
    level_is = ap (λ (s : SiteState). s.is_ahead) e;
    idle = ap (λ (s : SiteState). s.waiting) e;
    going = λ going. ap (λ (s : SiteState). s.mark.ended) e ∙ goes_on;
    written = λ v is. absurd (none_written (length site.written) v (ap (λ (s : SiteState). is_written s v) (sym e) ∙ is));
  }) ok.next_is

  pub mark_moved : SiteMoved tells site next (state was) (state is) result
  mark_moved = tell_moved tells site next (state was) (state is) result apart idle fails later fewer_stand deed refl refl refl (told_fewer site next.failed, refl) (λ going answers. mark_made site.level answers site.at ended goes_on site.time site.told next.failed) mark_tells mark_due
      (λ told e stands. subst (λ (x : Exceptions). BeginsDeeds x site.told (deed ∷ []) (state was) (state is)) (waits e) (moments.begins told e stands))
      (λ told. on_ok result (λ (does : (e : Exceptions) → SiteStands e site (state was) → DoesDeeds (excepted_with_waiting site e) site.told (deed ∷ []) (state was) (state is)). λ e stands.
      subst (λ (x : Exceptions). DoesDeeds x site.told (deed ∷ []) (state was) (state is)) (waits e) (does e stands)) (moments.does told))
    where
      deed : Deed
      deed = Marked site.at ended (told_rows site next.failed)

      mark_due : OnOk result (is_mark_due next ≡ false)
      mark_due = on_ok result (λ (e : next ≡ after_mark ended (rows_at_mark site.level site next.failed) next.failed site). ap is_mark_due e) ok.next_is

      waits : (e : Exceptions) → excepted_with_waiting site e ≡ e
      waits e = no_more_waits site e idle

      later : (d : ℕ) → (state was).faults (Volume d) ≤ (state is).faults (Volume d)
      later d = works.faults (Volume d)

      fewer_stand : tells → OnOk result (StandsFewer site next (state was) (state is))
      fewer_stand told = on_ok result (λ (l : Leaves tells (λ e. none_excepted) site next (state was) (state is)). λ e stands. (none_excepted, l.stands told e stands, λ d x none. refl)) leaves

  pub mark_works : HasStoreCause (state was).faults (state is).faults result → StandsFast tells site (state was) → MoverWorks tells site next (state was) (state is) result
  mark_works cause fast = record {
    others = works_lent_more tells (IsOfMark site) (IsOfMover site) (state was) (state is) among works;
    cause = cause;
    failed = fails;
    rest = on_ok result (λ (t : Tells site next). works_less site next (tells_still t) (λ v is. worked_written site v (t.written v is)) (λ v is. absurd (true≢false (sym is ∙ ap (has_device v) t.idle)))) mark_tells;
    slots = slots_stay tells site next (state was) (state is) result moments.volumes (on_ok result (λ (t : Tells site next). slots_at_rest site next (tells_still t) t.idle) mark_tells);
    spent = mark_spent tells state site next was is result fast ended ok;
  }
    where
      among : (d : Device) → IsOfMark site d → IsOfMover site d
      among Control is = inl tt
      among State is = inl tt
      among (Journal j) is = absurd is
      among (Volume v) is = inr (v, refl, worked_written site v is)

      tells_still : Tells site next → KeepPairs site.told next.told
      tells_still t = subst (λ (l : List PairRow). KeepPairs site.told l) (sym t.rows) (told_still site next.failed)

-- Where nothing waits, a mark may be made.
pub may_mark : (tells : Type 0) (site : SiteState) (plant : PlantState) → StandsFast tells site plant → site.is_ahead ≡ false → site.waiting ≡ [] → MayMark tells site plant
may_mark tells site plant fast level idle = record { fast = fast; level = level; idle = λ row has duplex. ap (λ (items : List Item). has_device row.device items) idle }
