-- What a third copy holds of a site whose devices show a point of a run.
use Rattle.std.proofs.Common.{◌≡◌, ◌≤◌, ◌<◌, ◌*◌, inl, inr, ℕ, Bool, true, false, not, List, Option, Some, refl, sym, ◌∙◌, ap, subst, arith}
use Rattle.std.specs.Prelude.{slice_get}
use Rattle.std.proofs.lemmas.Bool.{cases_Bool}
use Rattle.ckd_track.specs.declared.rec.Rec.{Rec}
use Rattle.copy_progress.specs.Copies.{done}
use Rattle.crash_plant.specs.declared.device.Device.{Device}
use Rattle.crash_plant.specs.declared.device.Device.TheVariants.{Control, Volume}
use Rattle.crash_plant.specs.Moments.{PlantState}
use Rattle.pair_table.specs.declared.row.PairRow.{PairRow}
use Rattle.pair_table.specs.declared.row.PairState.{PairState}
use Rattle.pair_table.specs.declared.row.PairState.TheVariants.{Pending, Copy, Duplex, Suspended}
use Rattle.pair_table.specs.Devices.{is_among}
use Rattle.pair_table.specs.States.{is_duplex}
use Rattle.primary_ctl.specs.Primaries.{primary}
use Rattle.site_means.specs.declared.means.Means.{Means}
use Rattle.site_means.specs.Images.{shape_of}
use Rattle.site_means.specs.Sight.{content_of, means_of, meant_by}
use Rattle.consistency.specs.Bearing.{ShowsPoint}
use Rattle.consistency.specs.Leads.{Point}
use Rattle.consistency.specs.Stages.{ScriptRun, tracks_of_row}
use Rattle.third_copy.specs.Answers.{AreAllCopied, AreFaultyPairs}
use Rattle.third_copy.specs.Pairs.{IsPair, claim_of}
use Rattle.third_copy.specs.Targets.{target_of}
use Rattle.third_copy.proofs.Counting.{listed_unless}
use Rattle.third_copy.proofs.Rows.{place_of_row}
use Rattle.volume_copy.specs.Targets.{AreCopied, IsCopyOf}
use Rattle.xrc_recovery.specs.Copies.{CopiesPairs, EndsCopy}

of_duplex : (s : PairState) → is_duplex s ≡ true → s ≡ Duplex
of_duplex Pending is = absurd cc
of_duplex Copy is = absurd cc
of_duplex Duplex is = refl
of_duplex (Suspended cause since) is = absurd cc

-- A pair that isn't told as failed is copied.
is_copied : (rows : List PairRow) (shift : ℕ) (before now : Device → ℕ) (copied failed : List ℕ) → AreFaultyPairs rows shift before now copied failed → (r : PairRow) → IsPair rows r → is_among r.device failed ≡ false → is_among r.device copied ≡ true
is_copied rows shift before now copied failed faulty r pair good = elim (cases_Bool (is_among r.device copied)) [
  | inl is ↦ is
  | inr none ↦ absurd (clash (sym (ap (λ (l : List ℕ). is_among r.device l) faulty.listed ∙ listed_unless rows copied r pair none) ∙ good))
]
  where
    clash : (true ≡ false) → ⊥
    clash e = cc

pub copies_hold : (tells : Type 0) (told : tells) (old new : PlantState) (session : List ℕ) (shift status : ℕ) → EndsCopy tells session shift old new status → (failed : List ℕ) (pairs : CopiesPairs session shift failed old new)
    → (run : ScriptRun) (p : Point) → ShowsPoint run (shape_of old) p old.bytes
    → (r : PairRow) → IsPair pairs.means.table.rows r → is_among r.device failed ≡ false → AreAllCopied old old old.clock pairs.means shift r
    → (c : List ℕ) → new.images new.clock (Volume (target_of shift r)) c → (x : ℕ) → x < tracks_of_row r → IsCopyOf (Some (primary run.traces p.time r.control r.volume x)) c x
copies_hold tells told old new session shift status ends failed pairs run p shows r pair good before c left x below =
    let m = pairs.means in
    let meant : means_of old old.bytes ≡ Some m = ap meant_by pairs.is_meant.meant.mean.1 in
    let own = (pairs.are_copied r pair (is_copied m.table.rows shift old.faults new.faults pairs.copied failed pairs.faulty r pair good)).0 in
    let all : done (claim_of m r) c ≡ tracks_of_row r = ap (λ (l : List ℕ). done (claim_of m r) l) (own.durable c left) ∙ own.all_done in
    let copied : AreCopied (claim_of m r) (content_of old old.bytes r.device) c = ends.progress told m meant r pair before new.clock ((ends.changes.elapses told).kept Control).later (omega arith) c left in
    let here : IsCopyOf (content_of old old.bytes r.device x) c x = copied x (omega (arith, below, all)) in
    let shown : Some shows.means ≡ Some m = sym shows.defined ∙ meant in
    let same : shows.means ≡ m = cc in
    let place = place_of_row m.table.rows r pair.among in
    let rows : m.table.rows ≡ p.rows = ap (λ (n : Means). n.table.rows) (sym same) ∙ shows.rows in
    let at : slice_get p.rows place.0 ≡ Some r = ap (λ (l : List PairRow). slice_get l place.0) (sym rows) ∙ place.1 in
    let content : content_of old old.bytes r.device x ≡ Some (primary run.traces p.time r.control r.volume x) = shows.tracks place.0 r at (of_duplex r.state pair.duplex) x below in
    subst (λ (t : Option (List Rec)). IsCopyOf t c x) content here
