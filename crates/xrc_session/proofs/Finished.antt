-- What slots hold at the end of a run's script.
use Rattle.std.proofs.Common.{◌≡◌, ℕ, zero, suc, ◌+◌, ◌-◌, ◌<◌, Bool, true, false, List, [], ◌∷◌, ◌++◌, length, take, drop, Some, refl, sym, ap, subst, ◌∙◌, append-nil, arith, slice_get}
use Rattle.std.specs.Prelude.{◌&&◌, not, Result, Ok, Err, filter, if◌then◌else◌, map, nat_lt}
use Rattle.std.specs.List.{Contains, list_all}
use Rattle.std.proofs.lemmas.Bool.{and_parts, ltb-true}
use Rattle.std.proofs.lemmas.Option.{get_or_from_slice_get, slice_get_within}
use Rattle.tod_stamp.specs.Fields.{IsBytes}
use Rattle.tod_stamp.proofs.FieldLaws.{IsBytes-drop}
use Rattle.ckd_track.specs.declared.fault.ImageError.{ImageError}
use Rattle.ckd_track.specs.declared.rec.Rec.{Rec}
use Rattle.ckd_track.specs.Images.{image, image_at}
use Rattle.ckd_track.specs.SlotPlaces.{slot_place, slot_track, track_read}
use Rattle.ckd_track.proofs.Parts.{read_track}
use Rattle.crash_plant.specs.declared.device.Device.TheVariants.{Volume}
use Rattle.crash_plant.specs.Choices.{AtNow, IsChoice}
use Rattle.crash_plant.specs.Moments.{PlantState}
use Rattle.primary_ctl.specs.Primaries.{primary}
use Rattle.pair_table.specs.declared.row.PairRow.{PairRow}
use Rattle.pair_table.specs.declared.row.PairState.TheVariants.{Duplex}
use Rattle.pair_table.specs.Tables.{are_below}
use Rattle.xrc_journal.specs.Items.{Item}
use Rattle.xrc_journal.specs.Contents.{content_through}
use Rattle.record_rows.specs.Hits.{hit_now, is_down, is_hit_now}
use Rattle.pair_table.specs.States.{is_device_suspended}
use Rattle.site_means.specs.Images.{shape_of}
use Rattle.site_means.specs.Sight.{content_in, walked, walked_by}
use Rattle.applier.specs.Slots.{BeginsWithTrack}
use Rattle.site_store.specs.Sites.{SiteState, has_failed}
use Rattle.group_state.specs.Groups.{Group}
use Rattle.mover.specs.OwedTracks.{held_by_choice}
use Rattle.mover.proofs.Excepting.{none_excepted}
use Rattle.consistency.specs.Bearing.{ShowsPoint}
use Rattle.consistency.specs.Stages.{ScriptRun, tracks_of_row}
use Rattle.consistency.specs.Courses.{Answered, stage_at}
use Rattle.consistency.specs.Leads.{Point}
use Rattle.consistency.specs.Ways.{stage_point}
use Rattle.consistency.proofs.Lines.{same_some}
use Rattle.xrc_session.specs.AppliedEnds.{HasEmptyWalk}
use Rattle.xrc_session.specs.LinePauses.{StandsForSite, site_point}
use Rattle.xrc_session.specs.Ends.{IsApplied, rows_at_end}
use Rattle.xrc_session.specs.Lanes.{sizes_of}
use Rattle.xrc_session.proofs.RestingMarks.{walked_none}

-- ---- slots

-- The image from which a track is read stands there as it is spelled.
image_is : (bytes : List ℕ) (recs : List Rec) (read : Result (List Rec × List ℕ) ImageError) → IsBytes bytes → image_at bytes ≡ read → track_read read ≡ Some recs → take (length (image recs)) bytes ≡ image recs
image_is bytes recs (Ok found) fits at is =
    let r = read_track bytes found.1 found.0 fits at in
    subst (λ (l : List Rec). take (length (image l)) bytes ≡ image l) (same_some found.0 recs is) (ap (λ (n : ℕ). take n bytes) (sym r.size_is) ∙ r.front)
image_is bytes recs (Err bad) fits at is = absurd cc

-- So a slot begins with the image of the track that it holds.
slot_begins : (volume : List ℕ) (x : ℕ) (recs : List Rec) → IsBytes volume → slot_track volume x ≡ Some recs → BeginsWithTrack volume x (Some recs)
slot_begins volume x recs fits is =
    let p = slot_place x in
    let n = length (image recs) in
    let size : p + n - p ≡ n = omega arith in
    ap (λ (k : ℕ). take k (drop p volume)) size ∙ image_is (drop p volume) recs (image_at (drop p volume)) (IsBytes-drop p volume fits) refl is

-- ---- what volumes hold

-- A row is one of its rows.
contained : (rows : List PairRow) (place : ℕ) (r : PairRow) → slice_get rows place ≡ Some r → Contains rows r
contained rows place r at = (place, slice_get_within rows place r at, get_or_from_slice_get rows place r r at)

-- The device of a row that no device suspends hasn't failed, if no device is hit.
none_hit : (failed : List Bool) (rows : List PairRow) (place : ℕ) (r : PairRow) → hit_now failed rows ≡ [] → slice_get rows place ≡ Some r → is_device_suspended r.state ≡ false → is_down failed r.device ≡ false
none_hit failed [] place r none at fine = absurd cc
none_hit failed (q ∷ rows) zero r none at fine =
    let same : q ≡ r = same_some q r at in
    subst (λ (p : PairRow). is_down failed p.device ≡ false) same (by_hit (is_down failed q.device) (is_device_suspended q.state) refl (ap (λ (p : PairRow). is_device_suspended p.state) same ∙ fine) none)
  where
    by_hit : (d s : Bool) → is_down failed q.device ≡ d → s ≡ false → map (λ r. r.device) (if d && not s then q ∷ filter (is_hit_now failed) rows else filter (is_hit_now failed) rows) ≡ [] → is_down failed q.device ≡ false
    by_hit false s is fine cut = is
    by_hit true false is fine cut = absurd cc
    by_hit true true is fine cut = absurd cc
none_hit failed (q ∷ rows) (suc place) r none at fine = none_hit failed rows place r (by_hit (is_hit_now failed q) none) at fine
  where
    by_hit : (b : Bool) → map (λ r. r.device) (if b then q ∷ filter (is_hit_now failed) rows else filter (is_hit_now failed) rows) ≡ [] → hit_now failed rows ≡ []
    by_hit false cut = cut
    by_hit true cut = absurd cc

below_at : (n : ℕ) (rows : List PairRow) (place : ℕ) (r : PairRow) → slice_get rows place ≡ Some r → are_below n rows ≡ true → r.device < n
below_at n [] place r at below = absurd cc
below_at n (q ∷ rows) zero r at below =
    let parts = and_parts (nat_lt q.device n) (list_all (λ p. nat_lt p.device n) rows) below in
    subst (λ (p : PairRow). p.device < n) (same_some q r at) (ltb-true q.device n parts.0)
below_at n (q ∷ rows) (suc place) r at below = below_at n rows place r at (and_parts (nat_lt q.device n) (list_all (λ p. nat_lt p.device n) rows) below).1

-- What a site's volumes hold where nothing waits: a duplex row's slots hold the primary's tracks.
module _ (run : ScriptRun) (site : SiteState) (group : Group) (now : PlantState) (stands : StandsForSite run site group now) (idle : site.waiting ≡ []) (told : hit_now site.failed site.told ≡ []) (read : IsChoice now now.clock now.bytes)
    (shows : AtNow (ShowsPoint run (shape_of now) (site_point site)) now) (place : ℕ) (r : PairRow) (at : slice_get site.told place ≡ Some r) (duplex : r.state ≡ Duplex) (x : ℕ) (within : x < tracks_of_row r) where
  among : Contains site.told r
  among = contained site.told place r at

  not_excepted : stands.excepted r.device x ≡ false
  not_excepted =
      let b = stands.rows in
      none_excepted (sizes_of run.traces) run.traces (held_by_choice now b.some.0 site.told) stands.excepted group site.time site.told stands.done (b.rows.holds b.some.0 b.some.1) b.rows.owed r.control r.volume
      (record { row = r; among = among; control = refl; volume = refl; state = duplex }) x (omega (arith, within, b.rows.sized r among))

  not_failed : has_failed site r.device ≡ false
  not_failed = none_hit site.failed site.told place r told at (ap is_device_suspended duplex)

  there : r.device < now.volumes
  there = below_at now.volumes site.told place r at stands.rows.rows.below

  held : content_in (shape_of now) now.bytes r.device x ≡ Some (primary run.traces site.time r.control r.volume x)
  held = (shows now.bytes read).tracks place r at duplex x within

  items_are : walked now now.bytes ≡ stands.stands.done
  items_are = ap walked_by (stands.stands.meant now.bytes read) ∙ stands.stands.items ∙ ap (λ (l : List Item). stands.stands.done ++ l) idle ∙ append-nil stands.stands.done

  pub slot_holds : slot_track (now.bytes (Volume r.device)) x ≡ Some (primary run.traces site.time r.control r.volume x)
  slot_holds =
      stands.stands.applied r.device there not_failed x not_excepted
      ∙ ap (λ (l : List Item). content_through r.device x l (slot_track (now.bytes (Volume r.device)) x)) (sym items_are) ∙ held

-- Once no record is walked, slots hold what is meant.
pub slot_is_meant : (run : ScriptRun) (site : SiteState) (now : PlantState) → IsChoice now now.clock now.bytes → AtNow (ShowsPoint run (shape_of now) (site_point site)) now → AtNow (HasEmptyWalk now) now
    → (place : ℕ) (r : PairRow) → slice_get site.told place ≡ Some r → r.state ≡ Duplex → (x : ℕ) → x < tracks_of_row r → slot_track (now.bytes (Volume r.device)) x ≡ Some (primary run.traces site.time r.control r.volume x)
slot_is_meant run site now read shows walk place r at duplex x within =
    ap (λ (items : List Item). content_through r.device x items (slot_track (now.bytes (Volume r.device)) x)) (sym (walked_none now now.bytes (walk now.bytes read))) ∙ (shows now.bytes read).tracks place r at duplex x within

-- ---- at the end

-- After the last line all is applied.
pub all_applied : (run : ScriptRun) (lines : List Answered) (site : SiteState) (old now : PlantState) → stage_point (stage_at run lines (length lines)) ≡ site_point site
    → ((place : ℕ) (r : PairRow) → slice_get site.told place ≡ Some r → r.state ≡ Duplex → (x : ℕ) → x < tracks_of_row r → slot_track (old.bytes (Volume r.device)) x ≡ Some (primary run.traces site.time r.control r.volume x))
    → ((d : ℕ) → now.bytes (Volume d) ≡ old.bytes (Volume d)) → AtNow (HasEmptyWalk now) now → IsApplied run lines now
all_applied run lines site old now point hold same walk = record {
  walk = walk;
  slots = λ place r at duplex bytes x within.
      let rows : rows_at_end run lines ≡ site.told = ap (λ (p : Point). p.rows) point in
      let time : (stage_at run lines (length lines)).replied ≡ site.time = ap (λ (p : Point). p.time) point in
      let slot = hold place r (ap (λ (l : List PairRow). slice_get l place) (sym rows) ∙ at) duplex x within in
      subst (λ (n : ℕ). BeginsWithTrack (now.bytes (Volume r.device)) x (Some (primary run.traces n r.control r.volume x))) (sym time)
      (slot_begins (now.bytes (Volume r.device)) x (primary run.traces site.time r.control r.volume x) bytes (ap (λ (l : List ℕ). slot_track l x) (same r.device) ∙ slot));
}
