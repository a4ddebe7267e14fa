-- The laws of the bridge: what an import writes is a trace's header, and what an export writes is an image of the volume's tracks.
use Rattle.std.specs.Prelude.{◌≡◌, ◌<◌, ℕ, List, IsTrue}
use Rattle.tod_stamp.specs.Fields.{IsBytes, within}
use Rattle.tod_stamp.specs.Names.{is_serial}
use Rattle.xrc_edge.specs.declared.limits.TheConstants.{MOST_NARROW_CYLINDERS}
use Rattle.write_trace.specs.Headers.{is_header}
use Rattle.ckd_image.specs.declared.shape.ImageShape.{ImageShape}
use Rattle.ckd_bridge.specs.declared.stop.ImageFile.TheVariants.{First}
use Rattle.ckd_bridge.specs.Pieces.{AreGood}
use Rattle.ckd_bridge.specs.Jobs.{exported_piece, imported_piece}
use Rattle.ckd_bridge.specs.Tracks.{track_of_device, track_of_slot}
use Rattle.ckd_bridge.specs.Commands.{exported_bytes, imported_header, tracks_of_shape}

-- The header keeps the rules of traces, so what follows it is read as entries.
abbrev pub ImportsAreTraces : Type 0
ImportsAreTraces = (serial image : List ℕ) (shape : ImageShape) → IsBytes image → IsTrue (is_serial serial) → IsTrue (within 1 MOST_NARROW_CYLINDERS shape.cylinders)
    → AreGood (imported_piece shape image) (tracks_of_shape shape) → IsTrue (is_header (imported_header serial shape image))

-- Each track of the image holds the records that the volume's slot holds.
abbrev pub ExportsReadBack : Type 0
ExportsReadBack = (volume : List ℕ) (shape : ImageShape) → IsBytes volume → AreGood (exported_piece shape.device_type volume) (tracks_of_shape shape)
    → (track : ℕ) → track < tracks_of_shape shape → track_of_device First shape.device_type (exported_bytes shape volume) track ≡ track_of_slot volume track
