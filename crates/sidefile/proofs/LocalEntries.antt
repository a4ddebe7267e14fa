-- The same for entries.
use Rattle.std.proofs.Common.{ℕ, ◌+◌, ◌*◌, cond, nat_eq, nat_lt, nat_le, ◌&&◌, List, length, Ok}
use Rattle.std.specs.Int.{w8, w16, w64}
use Rattle.tod_stamp.specs.Fields.{◌>>=◌, bytes_at, number_at, within, any}
use Rattle.ckd_track.specs.declared.write.Kind.TheVariants.{Update, Format, Whole}
use Rattle.ckd_track.specs.Effects.{longest_update}
use Rattle.write_trace.specs.declared.header.VolumeHead.{VolumeHead}
use Rattle.write_trace.specs.Headers.{place_at, cylinders_of, cylinder_width, image_field}
use Rattle.write_trace.specs.Entries.{format_at, whole_at, kind_at, write_at, entry_at, records_field}
use Rattle.write_trace.specs.declared.entry.Entry.TheVariants.{Written, Idle}
use Rattle.sidefile.proofs.Local.{IsLocal, local_number, local_bytes, local_done, local_then, local_choice}
use Rattle.sidefile.proofs.LocalImages.{local_image, local_records}
use Rattle.ckd_track.specs.Fields.{update_at}

local_update : IsLocal update_at
unfolding update_at
local_update = local_then (number_at w8 (within 1 255)) (λ number. number_at w16 (λ n. nat_le n longest_update) number.1 >>= λ len. bytes_at len.0 any len.1 >>= λ bytes. Ok (Update number.0 bytes.0, bytes.1)) (local_number w8 (within 1 255))
    (λ number. local_then (number_at w16 (λ n. nat_le n longest_update)) (λ len. bytes_at len.0 any len.1 >>= λ bytes. Ok (Update number bytes.0, bytes.1)) (local_number w16 (λ n. nat_le n longest_update))
    (λ len. local_then (bytes_at len any) (λ bytes. Ok (Update number bytes.0, bytes.1)) (local_bytes len any) (λ bytes. local_done (Update number bytes))))

local_format : IsLocal format_at
unfolding format_at
local_format = local_then (number_at w8 any) (λ low. number_at w8 any low.1 >>= λ count. records_field count.0 low.0 count.1 >>= λ recs. Ok (Format low.0 recs.0, recs.1)) (local_number w8 any)
    (λ low. local_then (number_at w8 any) (λ count. records_field count.0 low count.1 >>= λ recs. Ok (Format low recs.0, recs.1)) (local_number w8 any)
    (λ count. local_then (records_field count low) (λ recs. Ok (Format low recs.0, recs.1)) (local_records count low) (λ recs. local_done (Format low recs))))

local_whole : IsLocal whole_at
unfolding whole_at
local_whole = local_then image_field (λ track. Ok (Whole track.0, track.1)) local_image (λ track. local_done (Whole track))

local_kind : (tag : ℕ) → IsLocal (kind_at tag)
unfolding kind_at
local_kind tag = local_choice (nat_eq tag 2) update_at (λ left. cond (nat_eq tag 3) (format_at left) (whole_at left)) local_update (local_choice (nat_eq tag 3) format_at whole_at local_format local_whole)

pub local_place : (version : ℕ) (volumes : List VolumeHead) → IsLocal (place_at version volumes)
unfolding place_at
local_place version volumes =
    local_then (number_at w16 (λ n. nat_lt n (length volumes))) (λ volume. number_at (cylinder_width version) (λ n. nat_lt n (cylinders_of volumes volume.0)) volume.1 >>= λ cylinder. number_at w16 (λ n. nat_lt n 15) cylinder.1 >>= λ head. Ok ((volume.0, 15 * cylinder.0 + head.0), head.1))
    (local_number w16 (λ n. nat_lt n (length volumes)))
    (λ volume. local_then (number_at (cylinder_width version) (λ n. nat_lt n (cylinders_of volumes volume))) (λ cylinder. number_at w16 (λ n. nat_lt n 15) cylinder.1 >>= λ head. Ok ((volume, 15 * cylinder.0 + head.0), head.1)) (local_number (cylinder_width version) (λ n. nat_lt n (cylinders_of volumes volume)))
    (λ cylinder. local_then (number_at w16 (λ n. nat_lt n 15)) (λ head. Ok ((volume, 15 * cylinder + head.0), head.1)) (local_number w16 (λ n. nat_lt n 15)) (λ head. local_done (volume, 15 * cylinder + head))))

local_write : (version : ℕ) (volumes : List VolumeHead) (tag stamp : ℕ) → IsLocal (write_at version volumes tag stamp)
unfolding write_at
local_write version volumes tag stamp =
    local_then (place_at version volumes) (λ at. kind_at tag at.1 >>= λ kind. Ok (Written (record { volume = at.0.0; track = at.0.1; stamp = record { 0 = stamp }; kind = kind.0 }), kind.1)) (local_place version volumes)
    (λ at. local_then (kind_at tag) (λ kind. Ok (Written (record { volume = at.0; track = at.1; stamp = record { 0 = stamp }; kind = kind.0 }), kind.1)) (local_kind tag)
    (λ kind. local_done (Written (record { volume = at.0; track = at.1; stamp = record { 0 = stamp }; kind = kind }))))

pub local_entry : (version : ℕ) (volumes : List VolumeHead) (last : ℕ) → IsLocal (entry_at version volumes last)
unfolding entry_at
local_entry version volumes last =
    local_then (number_at w8 (within 1 4)) (λ tag. number_at w64 (λ n. nat_le 1 n && nat_le last n) tag.1 >>= λ stamp. cond (nat_eq tag.0 1) (Ok (Idle (record { 0 = stamp.0 }), stamp.1)) (write_at version volumes tag.0 stamp.0 stamp.1)) (local_number w8 (within 1 4))
    (λ tag. local_then (number_at w64 (λ n. nat_le 1 n && nat_le last n)) (λ stamp. cond (nat_eq tag 1) (Ok (Idle (record { 0 = stamp.0 }), stamp.1)) (write_at version volumes tag stamp.0 stamp.1)) (local_number w64 (λ n. nat_le 1 n && nat_le last n))
    (λ stamp. local_choice (nat_eq tag 1) (λ left. Ok (Idle (record { 0 = stamp }), left)) (write_at version volumes tag stamp) (local_done (Idle (record { 0 = stamp }))) (local_write version volumes tag stamp)))
