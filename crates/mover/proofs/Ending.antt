-- After the whole work the shared state stands for the rows again.
use Rattle.std.proofs.Common.{◌≡◌, inl, inr, ℕ, ◌<◌, ◌≤◌, Bool, true, false, cond, not, nat_lt, nat_le, ◌&&◌, ◌||◌, List, [], ◌∷◌, length, take, Option, Some, None, refl, sym, ap, subst, ◌∙◌, arith, true≢false}
use Rattle.std.specs.List.{Contains, list_any}
use Rattle.std.proofs.lemmas.Bool.{and_parts, and_from, eqb-true, ltb-true, or_cases}
use Rattle.std.proofs.lemmas.List.{take_all}
use Rattle.ckd_track.specs.declared.rec.Rec.{Rec}
use Rattle.ckd_track.specs.declared.write.Kind.{Kind}
use Rattle.ckd_track.specs.declared.write.Kind.TheVariants.{Update, Format, Whole}
use Rattle.change_map.specs.Sets.{has_track}
use Rattle.crash_plant.specs.Choices.{Choice, IsChoice}
use Rattle.crash_plant.specs.Moments.{PlantState}
use Rattle.pair_table.specs.declared.row.PairRow.{PairRow}
use Rattle.pair_table.specs.Tables.{are_below, none_clash}
use Rattle.pending_queue.specs.Entries.{WaitingEntry, entry_stamp, is_queued_on, is_whole}
use Rattle.image_former.specs.Changes.{changed_by}
use Rattle.group_state.specs.declared.volume.Volume.{Volume}
use Rattle.group_state.specs.Volumes.{passes, volume_of, wants}
use Rattle.group_state.specs.Controls.{ControlState}
use Rattle.group_state.specs.Groups.{control_at}
use Rattle.group_state.specs.SoundStates.{passes_or_none}
use Rattle.pair_table.specs.States.{is_device_suspended}
use Rattle.record_rows.specs.Deeds.{Deed}
use Rattle.site_means.specs.Images.{Shape, shape_of}
use Rattle.site_means.specs.Sight.{content_of}
use Rattle.site_means.proofs.Goes.{shape_same}
use Rattle.site_store.specs.DeedChanges.{DeedOfChanges, deeds_of}
use Rattle.site_store.specs.Deeds.{content_after}
use Rattle.site_store.specs.Exceptions.{Exceptions, excepted_after}
use Rattle.site_store.specs.Seeing.{SeesAfter}
use Rattle.site_store.proofs.Seeing.{same_content}
use Rattle.consistency.specs.Stages.{breaks_of, tracks_of_row}
use Rattle.fed_logs.specs.ToldTracks.{AllHold, after_entries, has_no_later_copy, is_no_later_copy, is_queued_up_to, is_settled_in, is_track_settled}
use Rattle.fed_logs.specs.Deeds.{held_after_deeds}
use Rattle.fed_logs.specs.Feeds.{truth_of}
use Rattle.fed_logs.specs.Logs.{BeginsLog, is_of_size}
use Rattle.fed_logs.specs.Moves.{HasRowIn, Plans}
use Rattle.fed_logs.proofs.Bearing.{reached_holds}
use Rattle.consistency.specs.Bearing.{ShowsPoint}
use Rattle.consistency.specs.Leads.{Point}
use Rattle.mover.specs.BorneLaws.{DoesWork, StandsForRowsAgain}
use Rattle.mover.specs.Points.{point_after_deeds}
use Rattle.mover.specs.OwedTracks.{CarriedAsLive, ExceptedAreOwed, FailedAreOwed, IsAny, held_by_choice, is_copied_to, is_mapped, is_owed, is_volume_kept}
use Rattle.mover.specs.Working.{IsKeptToEnd, StandsForRows, Work, WorkBegins}
use Rattle.mover.proofs.Bearing.{below_among, shown}
use Rattle.mover.proofs.Excepting.{none_excepted, owes_at_end}
use Rattle.mover.proofs.Held.{KeepPairs, content_after_is, held_is, pairs_after}
use Rattle.mover.proofs.Keeping.{kept_back}
use Rattle.mover.proofs.Leading.{count_deeds, rows_there, steps_keep_failed, steps_keep_pairs, time_there}
use Rattle.mover.proofs.Pairs.{among_of, apart_still, contains_of, pair_before, pairs_of}

-- ---- a whole image that waits

whole_by : (kind : Kind) (old other : Option (List Rec)) → is_whole kind ≡ true → changed_by true kind old ≡ changed_by true kind other
whole_by (Whole track) old other whole = refl
whole_by (Update number bytes) old other whole = absurd cc
whole_by (Format after recs) old other whole = absurd cc

-- Where a copied track waits as a whole image up to a time, it makes no difference what was held.
pub copy_decides : (v x t : ℕ) (entries : List WaitingEntry) (old other : Option (List Rec)) → has_no_later_copy v x t entries ≡ true → list_any (is_copied_to v x) entries ≡ true
    → after_entries (is_queued_up_to v x t) entries old ≡ after_entries (is_queued_up_to v x t) entries other
copy_decides v x t [] old other none some = absurd (true≢false (sym some))
copy_decides v x t (e ∷ entries) old other none some =
    let parts = and_parts (is_no_later_copy v x t e) (has_no_later_copy v x t entries) none in
    let on = is_queued_up_to v x t e in
    elim (or_cases (is_copied_to v x e) (list_any (is_copied_to v x) entries) some) [
      | inl here ↦ ap (after_entries (is_queued_up_to v x t) entries) (by_copy here parts.0)
      | inr after ↦ copy_decides v x t entries (changed_by on e.kind old) (changed_by on e.kind other) parts.1 after
    ]
  where
    by_copy : is_copied_to v x e ≡ true → is_no_later_copy v x t e ≡ true → changed_by (is_queued_up_to v x t e) e.kind old ≡ changed_by (is_queued_up_to v x t e) e.kind other
    by_copy here up =
        let one = and_parts e.is_copy (is_whole e.kind && is_queued_on v x e) here in
        let two = and_parts (is_whole e.kind) (is_queued_on v x e) one.1 in
        let early : nat_le (entry_stamp e) t ≡ true = sym (ap (λ (b : Bool). not b || nat_le (entry_stamp e) t) (and_from e.is_copy (is_queued_on v x e) one.0 two.1)) ∙ up in
        let on : is_queued_up_to v x t e ≡ true = and_from (is_queued_on v x e) (nat_le (entry_stamp e) t) two.1 early in
        ap (λ (b : Bool). changed_by b e.kind old) on ∙ whole_by e.kind old other two.0 ∙ sym (ap (λ (b : Bool). changed_by b e.kind other) on)

-- ---- settled tracks

pub settled_kept : (x : ℕ) (o : Option Volume) → passes (is_track_settled x) o ≡ true → passes (λ u. true) o ≡ true
settled_kept x None is = is
settled_kept x (Some u) is = refl

pub settled_low : (n x : ℕ) (o : Option Volume) → passes (is_track_settled x) o ≡ true → passes_or_none (is_of_size n) o ≡ true → x < n
settled_low n x None is sized = absurd (true≢false (sym is))
settled_low n x (Some u) is sized =
    let low = ltb-true x (length u.map) (and_parts (nat_lt x (length u.map)) (cond u.carried (not (has_track u.plan.wanted x)) (not (has_track u.map x))) is).0 in
    let long = eqb-true (length u.map) n sized in
    omega (arith, low, long)

-- A settled track is owed only where its copy waits.
pub settled_copy : (v x : ℕ) (c : ControlState) → is_settled_in v x c ≡ true → is_owed v x c ≡ true → list_any (is_copied_to v x) c.queue.waiting ≡ true
settled_copy v x c settled owed = choose (volume_of v c.volumes) settled owed
  where
    choose : (o : Option Volume) → passes (is_track_settled x) o ≡ true → ((passes (wants x) o || list_any (is_copied_to v x) c.queue.waiting) || passes (is_mapped x) o) ≡ true → list_any (is_copied_to v x) c.queue.waiting ≡ true
    choose None settled owed = absurd (true≢false (sym settled))
    choose (Some u) settled owed = by u.carried (has_track u.plan.wanted x) (has_track u.map x) (list_any (is_copied_to v x) c.queue.waiting) (and_parts (nat_lt x (length u.map)) (cond u.carried (not (has_track u.plan.wanted x)) (not (has_track u.map x))) settled).1 owed
      where
        by : (carried wanted mapped copy : Bool) → cond carried (not wanted) (not mapped) ≡ true → (((carried && wanted) || copy) || (not carried && mapped)) ≡ true → copy ≡ true
        by carried wanted mapped true free owed = refl
        by true true mapped false free owed = absurd (true≢false (sym free))
        by true false mapped false free owed = absurd (true≢false (sym owed))
        by false wanted true false free owed = absurd (true≢false (sym free))
        by false wanted false false free owed = absurd (true≢false (sym owed))

-- ---- devices

pub below_pairs : (n : ℕ) (rows : List PairRow) → are_below n (pairs_of rows) ≡ are_below n rows
below_pairs n [] = refl
below_pairs n (r ∷ rows) = ap (λ (b : Bool). nat_lt r.device n && b) (below_pairs n rows)

-- ---- the end of the work

module _ (old new : PlantState) (k : Work) (time : ℕ) (last : List PairRow) (known : Plans) (w : WorkBegins old k) (does : DoesWork old new k) (whole : IsKeptToEnd k time last known) (failed : FailedAreOwed k.size k.ended last)
    (carried : CarriedAsLive k.ended last) where
  abbrev p : Point
  p = k.leg.point

  abbrev q : Point
  q = point_after_deeds k.run.level p k.steps

  abbrev deeds : List Deed
  deeds = deeds_of k.steps

  abbrev excepted : Exceptions
  excepted = excepted_after p.rows deeds k.excepted

  pairs : KeepPairs p.rows deeds
  pairs = steps_keep_pairs k.run.level (breaks_of k.run) p k.steps w.logged.each

  same : pairs_of q.rows ≡ pairs_of p.rows
  same = ap pairs_of (rows_there k.run.level p k.steps) ∙ pairs_after p.rows deeds pairs

  apart : none_clash q.rows ≡ true
  apart = apart_still p.rows q.rows same w.stands.apart

  -- what holds after the log, by each choice before it
  abbrev Ended : Choice → Type 0
  Ended a = BeginsLog k.size k.run.traces (held_after_deeds deeds (held_by_choice old a p.rows)) k.ended q.time q.rows known

  last_is : (a : Choice) → IsChoice old old.clock a → last ≡ q.rows
  last_is a was = (reached_holds k.size k.run.traces (held_by_choice old a p.rows) k.begun k.ended k.log p.time time p.rows last k.done known deeds w.logged.fed (w.stands.holds a was) whole).0 ∙ sym (rows_there k.run.level p k.steps)

  ended : (a : Choice) → IsChoice old old.clock a → Ended a
  ended a was =
      let r = reached_holds k.size k.run.traces (held_by_choice old a p.rows) k.begun k.ended k.log p.time time p.rows last k.done known deeds w.logged.fed (w.stands.holds a was) whole in
      subst (λ (n : ℕ). BeginsLog k.size k.run.traces (held_after_deeds deeds (held_by_choice old a p.rows)) k.ended n q.rows known) (r.1 ∙ sym (time_there k.run.level p k.steps))
      (subst (λ (rows : List PairRow). BeginsLog k.size k.run.traces (held_after_deeds deeds (held_by_choice old a p.rows)) k.ended time rows known) (last_is a was) r.3)

  owed : (a : Choice) → IsChoice old old.clock a → ExceptedAreOwed k.size excepted k.ended q.rows
  owed a was =
      subst (ExceptedAreOwed k.size excepted k.ended) (last_is a was)
      (owes_at_end k.size k.run.traces time last known k.log k.ended (held_by_choice old a p.rows) k.excepted k.begun p.time p.rows k.done deeds w.logged.fed (record {
        begins = w.stands.holds a was;
        owed = w.stands.owed;
        apart = w.stands.apart;
        pairs = pairs;
        failed = steps_keep_failed k.run.level (breaks_of k.run) p k.steps w.stands.apart w.logged.each;
      }) whole)

  failed_there : (a : Choice) → IsChoice old old.clock a → FailedAreOwed k.size k.ended q.rows
  failed_there a was = subst (FailedAreOwed k.size k.ended) (last_is a was) failed

  carried_there : (a : Choice) → IsChoice old old.clock a → CarriedAsLive k.ended q.rows
  carried_there a was = subst (CarriedAsLive k.ended) (last_is a was) carried

  -- Each volume that is kept has a row.
  rowed : (j v : ℕ) → is_volume_kept v (control_at k.ended j) ≡ true → HasRowIn IsAny j v q.rows
  rowed j v kept =
      let has = w.stands.rowed j v (kept_back k.run.traces j v k.log k.ended k.begun w.logged.fed kept) in
      let now = pair_before has.row q.rows p.rows (sym same) (among_of p.rows has.row has.among) in
      record {
        row = now.row;
        among = contains_of now.row q.rows now.among;
        control = ap (λ (r : PairRow). r.control) now.pair ∙ has.control;
        volume = ap (λ (r : PairRow). r.volume) now.pair ∙ has.volume;
        state = tt;
      }

  -- Each track that is excepted is owed, of whatever row.
  each_owed : (a : Choice) → IsChoice old old.clock a → (j v : ℕ) (has : HasRowIn IsAny j v q.rows) → is_volume_kept v (control_at k.ended j) ≡ true → (x : ℕ) → x < k.size j v → excepted has.row.device x ≡ true → is_owed v x (control_at k.ended j) ≡ true
  each_owed a was j v has kept x low e = choose (is_device_suspended has.row.state) refl
    where
      choose : (t : Bool) → is_device_suspended has.row.state ≡ t → is_owed v x (control_at k.ended j) ≡ true
      choose false is = owed a was j v (record { row = has.row; among = has.among; control = has.control; volume = has.volume; state = is }) kept x low e
      choose true is = failed_there a was j v (record { row = has.row; among = has.among; control = has.control; volume = has.volume; state = is }) kept x low

  module _ (c : Choice) (sees : SeesAfter old k.excepted p.rows deeds c) where
    -- What the choice holds of a track that isn't excepted is what the deeds leave of what some choice held before.
    held_so : (j v : ℕ) (has : HasRowIn IsAny j v q.rows) (x : ℕ) → excepted has.row.device x ≡ false
        → (a : Choice) × IsChoice old old.clock a × (held_by_choice new c q.rows j v x ≡ held_after_deeds deeds (held_by_choice old a p.rows) j v x)
    held_so j v has x none =
        let d = has.row.device in
        let before = pair_before has.row p.rows q.rows same (among_of q.rows has.row has.among) in
        let r = before.row in
        let device : r.device ≡ d = ap (λ (s : PairRow). s.device) before.pair in
        let control : r.control ≡ j = ap (λ (s : PairRow). s.control) before.pair ∙ has.control in
        let volume : r.volume ≡ v = ap (λ (s : PairRow). s.volume) before.pair ∙ has.volume in
        let below : d < old.volumes = (let b = below_among old.volumes r p.rows w.stands.below before.among in omega (arith, b, device)) in
        let seen = sees.content d x below none in
        let now : held_by_choice new c q.rows j v x ≡ content_of new c d x =
        ap (λ (i : ℕ). held_by_choice new c q.rows i v x) (sym has.control) ∙ ap (λ (i : ℕ). held_by_choice new c q.rows has.row.control i x) (sym has.volume) ∙ held_is has.row q.rows apart (among_of q.rows has.row has.among) x new c in (
          seen.0,
          seen.1,
          now
              ∙ same_content old new does.site c d x
              ∙ seen.2
              ∙ ap (λ (e : ℕ). content_after e x p.rows deeds (content_of old seen.0 e x)) (sym device)
              ∙ content_after_is r p.rows w.stands.apart before.among x old seen.0 deeds pairs
              ∙ ap (λ (i : ℕ). held_after_deeds deeds (held_by_choice old seen.0 p.rows) i r.volume x) control
              ∙ ap (λ (i : ℕ). held_after_deeds deeds (held_by_choice old seen.0 p.rows) j i x) volume,
        )

    -- the settled tracks of what is held
    all_hold : AllHold (truth_of k.run.traces) (held_by_choice new c q.rows) k.ended
    all_hold j low =
        let base = (ended sees.from sees.was).holds j low in
        record {
          holds = λ v x t settled none from to.
              let there = control_at k.ended j in
              let kept = settled_kept x (volume_of v there.volumes) settled in
              let has = rowed j v kept in
              let within = settled_low (k.size j v) x (volume_of v there.volumes) settled ((ended sees.from sees.was).sized j v low) in
              by j low v x t settled none from to kept has within (excepted has.row.device x) refl;
        }
      where
        by : (j : ℕ) → j < length k.ended.controls → (v x t : ℕ) → is_settled_in v x (control_at k.ended j) ≡ true → has_no_later_copy v x t (control_at k.ended j).queue.waiting ≡ true → k.ended.last.0 ≤ t → t ≤ (control_at k.ended j).floor.0
            → is_volume_kept v (control_at k.ended j) ≡ true → (has : HasRowIn IsAny j v q.rows) → x < k.size j v → (e : Bool) → excepted has.row.device x ≡ e
            → after_entries (is_queued_up_to v x t) (control_at k.ended j).queue.waiting (held_by_choice new c q.rows j v x) ≡ Some (truth_of k.run.traces j v x t)
        by j low v x t settled none from to kept has within false is =
            let h = held_so j v has x is in
            ap (after_entries (is_queued_up_to v x t) (control_at k.ended j).queue.waiting) h.2 ∙ ((ended h.0 h.1).holds j low).holds v x t settled none from to
        by j low v x t settled none from to kept has within true is =
            copy_decides v x t (control_at k.ended j).queue.waiting (held_by_choice new c q.rows j v x) (held_after_deeds deeds (held_by_choice old sees.from p.rows) j v x) none
            (settled_copy v x (control_at k.ended j) settled (each_owed sees.from sees.was j v has kept x within is))
            ∙ ((ended sees.from sees.was).holds j low).holds v x t settled none from to

    -- What the choice holds is what was told.
    begins_again : BeginsLog k.size k.run.traces (held_by_choice new c q.rows) k.ended q.time q.rows known
    begins_again =
        let base = ended sees.from sees.was in
        record {
          sized = base.sized;
          holds = all_hold;
          last = base.last;
          stand = base.stand;
          truth = λ j v has x low.
              let none = none_excepted k.size k.run.traces (held_after_deeds deeds (held_by_choice old sees.from p.rows)) excepted k.ended q.time q.rows known base (owed sees.from sees.was) j v has x low in
              let any : HasRowIn IsAny j v q.rows = record { row = has.row; among = has.among; control = has.control; volume = has.volume; state = tt } in
              let h = held_so j v any x none in
              h.2 ∙ (ended h.0 h.1).truth j v has x low;
        }

  below : are_below new.volumes q.rows ≡ true
  below = ap (λ (n : ℕ). are_below n q.rows) does.site.volumes ∙ sym (below_pairs old.volumes q.rows) ∙ ap (are_below old.volumes) same ∙ below_pairs old.volumes p.rows ∙ w.stands.below

  sized : (r : PairRow) → Contains q.rows r → tracks_of_row r ≤ k.size r.control r.volume
  sized r there =
      let before = pair_before r p.rows q.rows same (among_of q.rows r there) in
      let m = w.stands.sized before.row (contains_of before.row p.rows before.among) in
      let tracks : tracks_of_row before.row ≡ tracks_of_row r = ap tracks_of_row before.pair in
      let at : k.size before.row.control before.row.volume ≡ k.size r.control r.volume = ap (λ (s : PairRow). k.size s.control s.volume) before.pair in
      omega (arith, m, tracks, at)

  pub stands_again : (some : (c : Choice) × IsChoice old old.clock c) → StandsForRows k.run k.size new excepted k.ended q known
  stands_again some = record {
    apart = apart;
    below = below;
    sized = sized;
    holds = λ c has. begins_again c (does.now c has);
    rowed = rowed;
    owed = owed some.0 some.1;
    failed = failed_there some.0 some.1;
    carried = carried_there some.0 some.1;
  }

  -- Each choice shows the point after all deeds.
  pub shows_last : (c : Choice) → IsChoice new new.clock c → ShowsPoint k.run (shape_of new) q c
  shows_last c has =
      let n = length k.steps in
      let all : take n k.steps ≡ k.steps = take_all n k.steps (omega arith) in
      let done : take n deeds ≡ deeds = take_all n deeds (let e = count_deeds k.steps in omega (arith, e)) in
      subst (λ (shape : Shape). ShowsPoint k.run shape q c) (sym (shape_same old new does.site))
      (subst (λ (steps : List DeedOfChanges). ShowsPoint k.run (shape_of old) (point_after_deeds k.run.level p steps) c) all
      (shown old k w n (omega arith) c (subst (λ (ds : List Deed). SeesAfter old k.excepted p.rows ds c) (sym done) (does.now c has))))

pub stands_for_rows_again : (old new : PlantState) → StandsForRowsAgain old new
stands_for_rows_again old new k time last known w does whole failed carried some =
    (stands_again old new k time last known w does whole failed carried some, λ c has. shows_last old new k time last known w does whole failed carried c has)
