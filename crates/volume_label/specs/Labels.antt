-- The label of a volume device: its one spelling in 14 bytes, and reading it.
use Rattle.std.specs.Prelude.{ℕ, ◌+◌, ◌*◌, ◌==◌, ◌&&◌, List, ◌++◌, length, take, drop, slice_range, Bool, Option, Some, None, nat_le, bytes_eq, codes, if◌then◌else◌}
use Rattle.ckd_track.specs.declared.layout.TheConstants.{CYLINDER_LENGTH, FIRST_SLOT}
use Rattle.std.specs.Int.{w32, to_be_bytes, from_be_bytes}
use Rattle.tod_stamp.specs.Names.{serial_field, name_in}
use Rattle.volume_label.specs.declared.label.Label.{Label}

-- how many bytes a device with so many cylinders needs
abbrev pub volume_need : (cylinders : ℕ) → ℕ
volume_need cylinders = FIRST_SLOT + cylinders * CYLINDER_LENGTH

-- There is a cylinder, and a device of this length has room for all of them.
abbrev pub holds_cylinders : (device_length cylinders : ℕ) → Bool
holds_cylinders device_length cylinders = nat_le 1 cylinders && nat_le (volume_need cylinders) device_length

-- mark, serial and cylinders
abbrev pub label_spelling : Label → List ℕ
label_spelling label = codes "XVOL" ++ serial_field label.serial ++ to_be_bytes w32 label.cylinders

abbrev pub with_serial : (device_length : ℕ) → Option (List ℕ) → (cylinders : ℕ) → Option Label
with_serial device_length None cylinders = None
with_serial device_length (Some serial) cylinders = if holds_cylinders device_length cylinders then Some (record { serial = serial; cylinders = cylinders }) else None

-- the label that 14 bytes at the front of a device of this length are
abbrev pub label_of : (device_length : ℕ) → List ℕ → Option Label
label_of device_length bytes =
    if length bytes == 14 && bytes_eq (codes "XVOL") (take 4 bytes)
    then with_serial device_length (name_in 6 (slice_range bytes 4 10)) (from_be_bytes w32 (drop 10 bytes))
    else None
