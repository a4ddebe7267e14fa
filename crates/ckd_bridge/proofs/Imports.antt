-- The header of an import keeps the rules of traces.
use Rattle.std.proofs.Common.{◌≡◌, ℕ, zero, suc, ◌+◌, ◌≤◌, true, ◌&&◌, List, [], ◌∷◌, ◌++◌, Result, Ok, Err, refl, ap, ◌∙◌, arith}
use Rattle.std.specs.Prelude.{IsOk, slice_range}
use Rattle.std.proofs.lemmas.Bool.{le-leb, lt-ltb}
use Rattle.tod_stamp.specs.Fields.{◌>>=◌, IsBytes, within}
use Rattle.ckd_track.specs.declared.rec.Rec.{Rec}
use Rattle.ckd_track.specs.Tracks.{is_track}
use Rattle.ckd_track.proofs.ImageLaws.{both_true}
use Rattle.ckd_track.proofs.TrackLaws.{and_true}
use Rattle.write_trace.specs.declared.header.VolumeHead.{VolumeHead}
use Rattle.write_trace.specs.Headers.{Base, are_bases, base_spelling, is_from, is_track_of}
use Rattle.ckd_image.specs.declared.shape.DeviceType.{DeviceType}
use Rattle.ckd_image.specs.declared.shape.ImageShape.{ImageShape}
use Rattle.ckd_image.specs.declared.fault.TrackFault.{TrackFault}
use Rattle.ckd_image.specs.Shapes.{track_bytes, track_place}
use Rattle.ckd_image.specs.ImageTracks.{device_track_at}
use Rattle.ckd_image.proofs.TrackReads.{tracks_are_spelled}
use Rattle.ckd_bridge.specs.declared.stop.ImageFile.TheVariants.{First}
use Rattle.ckd_bridge.specs.Pieces.{AreGood}
use Rattle.ckd_bridge.specs.Jobs.{imported_piece}
use Rattle.ckd_bridge.specs.Tracks.{named_track, track_of_device}
use Rattle.ckd_bridge.specs.Commands.{imported_tracks, imported_volume, recs_or_none, tracks_of_shape}
use Rattle.ckd_bridge.proofs.Standings.{IsBytes-slice}
use Rattle.ckd_bridge.specs.Laws.{ImportsAreTraces}

-- where the tracks after some have to begin
abbrev pub after_all : (low : ℕ × ℕ) → List Base → ℕ × ℕ
after_all low [] = low
after_all low (b ∷ base) = after_all (b.0, b.1 + 1) base

-- one more track after some
bases_more : (volumes : List VolumeHead) (low : ℕ × ℕ) (base : List Base) (b : Base) → are_bases volumes low base ≡ true → is_track_of volumes b.0 b.1 ≡ true → is_from (after_all low base) (b.0, b.1) ≡ true → is_track b.2 ≡ true
    → are_bases volumes low (base ++ b ∷ []) ≡ true
bases_more volumes low [] b are there from is = and_true ((is_track_of volumes b.0 b.1 && is_from low (b.0, b.1)) && is_track b.2) true (and_true (is_track_of volumes b.0 b.1 && is_from low (b.0, b.1)) (is_track b.2) (and_true (is_track_of volumes b.0 b.1) (is_from low (b.0, b.1)) there from) is) refl
bases_more volumes low (first ∷ base) b are there from is =
    let parts = both_true ((is_track_of volumes first.0 first.1 && is_from low (first.0, first.1)) && is_track first.2) (are_bases volumes (first.0, first.1 + 1) base) are in
    and_true ((is_track_of volumes first.0 first.1 && is_from low (first.0, first.1)) && is_track first.2) (are_bases volumes (first.0, first.1 + 1) (base ++ b ∷ [])) parts.0
    (bases_more volumes (first.0, first.1 + 1) base b parts.1 there from is)

after_more : (low : ℕ × ℕ) (base : List Base) (b : Base) → after_all low (base ++ b ∷ []) ≡ (b.0, b.1 + 1)
after_more low [] b = refl
after_more low (first ∷ base) b = after_more (first.0, first.1 + 1) base b

-- the records of a good track are a track
named_is_track : (k : ℕ) (bytes : List ℕ) (read : Result (List Rec) TrackFault) → IsBytes bytes → device_track_at k bytes ≡ read → IsOk (named_track First k read >>= λ recs. Ok (base_spelling 1 (0, k, recs)))
    → is_track (recs_or_none (named_track First k read)) ≡ true
named_is_track k bytes (Ok recs) fits e ok = (tracks_are_spelled k bytes recs fits e).0
named_is_track k bytes (Err fault) fits e ok = absurd cc

good_is_track : (device_type : DeviceType) (image : List ℕ) (k : ℕ) → IsBytes image → IsOk (track_of_device First device_type image k >>= λ recs. Ok (base_spelling 1 (0, k, recs)))
    → is_track (recs_or_none (track_of_device First device_type image k)) ≡ true
good_is_track device_type image k fits ok =
    let bytes = slice_range image (track_place device_type k) (track_place device_type k + track_bytes device_type) in
    named_is_track k bytes (device_track_at k bytes) (IsBytes-slice (track_place device_type k) (track_place device_type k + track_bytes device_type) image fits) refl ok

-- the tracks before a number keep the rules
pub record AreBasesTo (volumes : List VolumeHead) (base : List Base) (n : ℕ) : Type 0 where
  pub are : are_bases volumes (0, 0) base ≡ true
  pub end : after_all (0, 0) base ≡ (0, n)

tracks_to : (serial image : List ℕ) (shape : ImageShape) (n : ℕ) → IsBytes image → n ≤ tracks_of_shape shape → AreGood (imported_piece shape image) n
    → AreBasesTo (imported_volume serial shape.cylinders ∷ []) (imported_tracks shape.device_type image n) n
tracks_to serial image shape zero fits le good = record { are = refl; end = refl }
tracks_to serial image shape (suc n) fits le good =
    let volumes = imported_volume serial shape.cylinders ∷ [] in
    let so_far = tracks_to serial image shape n fits (omega (arith, le)) (λ k lt. good k (omega (arith, lt))) in
    let b : Base = (0, n, recs_or_none (track_of_device First shape.device_type image n)) in
    let base = imported_tracks shape.device_type image n in
    let there : is_track_of volumes 0 n ≡ true = lt-ltb n (tracks_of_shape shape) (omega (arith, le)) in
    let from : is_from (after_all (0, 0) base) (0, n) ≡ true = ap (λ (p : ℕ × ℕ). is_from p (0, n)) so_far.end ∙ le-leb n n (omega arith) in
    record {
      are = bases_more volumes (0, 0) base b so_far.are there from (good_is_track shape.device_type image n fits (good n (omega arith)));
      end = after_more (0, 0) base b ∙ ap (λ k. (0, k)) (more n);
    }
  where
    more : (n : ℕ) → n + 1 ≡ suc n
    more n = omega arith

pub headers_are_traces : ImportsAreTraces
headers_are_traces serial image shape fits valid within good =
    let base = tracks_to serial image shape (tracks_of_shape shape) fits (omega arith) good in
    rw (valid, within, base.are) refl
