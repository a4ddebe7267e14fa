-- The pieces of an import are the base tracks of its header.
use Rattle.std.proofs.Common.{◌≡◌, ℕ, zero, suc, ◌-◌, ◌*◌, List, [], ◌∷◌, ◌++◌, length, take, Result, Ok, Err, refl, sym, ap, ◌∙◌, arith, length-append}
use Rattle.std.specs.Prelude.{IsOk}
use Rattle.std.specs.List.{flat_map}
use Rattle.std.specs.Int.{w16, w32, to_be_bytes}
use Rattle.std.proofs.lemmas.List.{append-nil}
use Rattle.std.proofs.lemmas.Grind.{flat_map-append}
use Rattle.std.proofs.Math.Seq.{take-append_seam}
use Rattle.tod_stamp.specs.Fields.{◌>>=◌}
use Rattle.xrc_edge.specs.declared.limits.TheConstants.{TRACKS_OF_CYLINDER}
use Rattle.ckd_track.specs.declared.rec.Rec.{Rec}
use Rattle.write_trace.specs.Headers.{Base, base_spelling, header_spelling, trace_mark, volume_spelling}
use Rattle.ckd_image.specs.declared.shape.ImageShape.{ImageShape}
use Rattle.ckd_bridge.specs.declared.stop.ImageFile.TheVariants.{First}
use Rattle.ckd_bridge.specs.declared.stop.Refusal.{Refusal}
use Rattle.ckd_bridge.specs.Tracks.{track_of_device}
use Rattle.ckd_bridge.specs.Jobs.{imported_piece}
use Rattle.ckd_bridge.specs.Pieces.{AreGood, bytes_of_piece, pieces_up_to}
use Rattle.ckd_bridge.specs.Commands.{before_base, imported_header, imported_tracks, imported_volume, recs_or_none, tracks_of_shape}

-- the piece of a track that is there
piece_is : (k : ℕ) (read : Result (List Rec) Refusal) → IsOk (read >>= λ recs. Ok (base_spelling 1 (0, k, recs))) → bytes_of_piece (read >>= λ recs. Ok (base_spelling 1 (0, k, recs))) ≡ base_spelling 1 (0, k, recs_or_none read)
piece_is k (Ok recs) ok = refl
piece_is k (Err refusal) ok = absurd cc

pieces_are_tracks : (shape : ImageShape) (image : List ℕ) (n : ℕ) → AreGood (imported_piece shape image) n → pieces_up_to (imported_piece shape image) n ≡ flat_map (base_spelling 1) (imported_tracks shape.device_type image n)
pieces_are_tracks shape image zero good = refl
pieces_are_tracks shape image (suc n) good =
    let before = pieces_are_tracks shape image n (λ k lt. good k (omega (arith, lt))) in
    let last = piece_is n (track_of_device First shape.device_type image n) (good n (omega arith)) in
    let tracks = imported_tracks shape.device_type image n in
    let base : Base = (0, n, recs_or_none (track_of_device First shape.device_type image n)) in
    ap (λ (t : List ℕ). t ++ bytes_of_piece (imported_piece shape image n)) before
    ∙ ap (λ (t : List ℕ). flat_map (base_spelling 1) tracks ++ t) (last ∙ sym (append-nil (base_spelling 1 base)))
    ∙ sym (flat_map-append (base_spelling 1) tracks (base ∷ []))

tracks_are_counted : (shape : ImageShape) (image : List ℕ) (n : ℕ) → length (imported_tracks shape.device_type image n) ≡ n
tracks_are_counted shape image zero = refl
tracks_are_counted shape image (suc n) =
    let base : Base = (0, n, recs_or_none (track_of_device First shape.device_type image n)) in
    length-append (imported_tracks shape.device_type image n) (base ∷ []) ∙ omega (arith, tracks_are_counted shape image n)

pub pieces_are_header : (serial : List ℕ) (shape : ImageShape) (image : List ℕ) → AreGood (imported_piece shape image) (tracks_of_shape shape)
    → before_base serial shape.cylinders ++ pieces_up_to (imported_piece shape image) (tracks_of_shape shape) ≡ header_spelling (imported_header serial shape image)
pieces_are_header serial shape image good =
    let n = tracks_of_shape shape in
    let volume = volume_spelling 1 (imported_volume serial shape.cylinders) in
    let front : List ℕ → ℕ → List ℕ = λ v k. trace_mark 1 ++ to_be_bytes w16 1 ++ v ++ to_be_bytes w32 k in
    ap (λ (t : List ℕ). before_base serial shape.cylinders ++ t) (pieces_are_tracks shape image n good)
    ∙ ap (λ (t : List ℕ). front t n ++ flat_map (base_spelling 1) (imported_tracks shape.device_type image n)) (sym (append-nil volume))
    ∙ ap (λ k. front (volume ++ []) k ++ flat_map (base_spelling 1) (imported_tracks shape.device_type image n)) (sym (tracks_are_counted shape image n))

-- An empty header's number of base tracks is its last field: what stands before it, and another number.
pub opening_is : (serial : List ℕ) (cylinders : ℕ) (bytes : List ℕ) → bytes ≡ header_spelling (record { version = 1; volumes = imported_volume serial cylinders ∷ []; base = [] })
    → take (length bytes - 4) bytes ++ to_be_bytes w32 (TRACKS_OF_CYLINDER * cylinders) ≡ before_base serial cylinders
opening_is serial cylinders bytes is =
    let volume = volume_spelling 1 (imported_volume serial cylinders) in
    let front : List ℕ = trace_mark 1 ++ to_be_bytes w16 1 ++ volume in
    let whole : bytes ≡ front ++ to_be_bytes w32 0 =
    is ∙ append-nil (trace_mark 1 ++ to_be_bytes w16 1 ++ (volume ++ []) ++ to_be_bytes w32 0)
    ∙ ap (λ (t : List ℕ). trace_mark 1 ++ to_be_bytes w16 1 ++ t ++ to_be_bytes w32 0) (append-nil volume) in
    let long : length bytes - 4 ≡ length front = omega (arith, ap length whole, length-append front (to_be_bytes w32 0)) in
    ap (λ (t : List ℕ). t ++ to_be_bytes w32 (TRACKS_OF_CYLINDER * cylinders)) (ap (λ k. take k bytes) long ∙ ap (take (length front)) whole ∙ take-append_seam front (to_be_bytes w32 0))
