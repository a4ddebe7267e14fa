-- What the rules of a header say of the widths of its fields.
use Rattle.std.proofs.Common.{◌≡◌, ℕ, ◌+◌, ◌*◌, ◌^◌, ◌<◌, ◌≤◌, true, not, ◌&&◌, nat_lt, nat_le, List, [], ◌∷◌, length, arith}
use Rattle.std.specs.Prelude.{bytes_eq}
use Rattle.std.specs.List.{list_any, All}
use Rattle.std.proofs.lemmas.Bool.{leb-true, ltb-true}
use Rattle.std.proofs.lemmas.List.Elements.{All-nil, All-cons}
use Rattle.tod_stamp.specs.Fields.{within, is_version}
use Rattle.tod_stamp.specs.Names.{is_serial}
use Rattle.ckd_track.specs.Tracks.{is_track}
use Rattle.write_trace.specs.declared.header.VolumeHead.{VolumeHead}
use Rattle.write_trace.specs.declared.header.Header.{Header}
use Rattle.write_trace.specs.Headers.{Base, cylinders_of, is_track_of, are_volumes, are_bases, is_from, is_header, most_cylinders}
use Rattle.write_trace.proofs.BaseCounts.{most_few, count_bases, few_tracks}
use Rattle.write_trace.proofs.FieldSteps.{both_true}
use Rattle.write_trace.proofs.FieldsAgain.{cylinders_fit}

-- a volume's rules, and those of the volumes after it
pub record FirstFits (version : ℕ) (seen : List (List ℕ)) (v : VolumeHead) (volumes : List VolumeHead) : Type 0 where
  pub few : v.cylinders ≤ most_cylinders version
  pub others : are_volumes version (v.serial ∷ seen) volumes ≡ true

first_fits : (version : ℕ) (seen : List (List ℕ)) (v : VolumeHead) (volumes : List VolumeHead) → are_volumes version seen (v ∷ volumes) ≡ true → FirstFits version seen v volumes
first_fits version seen v volumes is =
    let a = both_true (is_serial v.serial && not (list_any (bytes_eq v.serial) seen) && within 1 (most_cylinders version) v.cylinders) (are_volumes version (v.serial ∷ seen) volumes) is in
    let b = both_true (is_serial v.serial && not (list_any (bytes_eq v.serial) seen)) (within 1 (most_cylinders version) v.cylinders) a.0 in
    let c = both_true (nat_le 1 v.cylinders) (nat_le v.cylinders (most_cylinders version)) b.1 in
    record { few = leb-true v.cylinders (most_cylinders version) c.1; others = a.1 }

-- A volume has no more cylinders than one can have.
pub fitting_volumes : (version : ℕ) (seen : List (List ℕ)) (volumes : List VolumeHead) → are_volumes version seen volumes ≡ true → All (λ (v : VolumeHead). v.cylinders ≤ most_cylinders version) volumes
fitting_volumes version seen [] is = All-nil (λ (v : VolumeHead). v.cylinders ≤ most_cylinders version)
fitting_volumes version seen (v ∷ volumes) is =
    let first = first_fits version seen v volumes is in
    All-cons (λ (v : VolumeHead). v.cylinders ≤ most_cylinders version) v volumes first.few (fitting_volumes version (v.serial ∷ seen) volumes first.others)

-- and never more than in version 2
pub few_cylinders : (version : ℕ) (seen : List (List ℕ)) (volumes : List VolumeHead) → are_volumes version seen volumes ≡ true → All (λ (v : VolumeHead). v.cylinders ≤ 1000000) volumes
few_cylinders version seen [] is = All-nil (λ (v : VolumeHead). v.cylinders ≤ 1000000)
few_cylinders version seen (v ∷ volumes) is =
    let first = first_fits version seen v volumes is in
    All-cons (λ (v : VolumeHead). v.cylinders ≤ 1000000) v volumes (omega (arith, first.few, most_few version)) (few_cylinders version (v.serial ∷ seen) volumes first.others)

-- a base track's rules, and those of the base tracks after it
record FirstBase (volumes : List VolumeHead) (low : ℕ × ℕ) (b : Base) (base : List Base) : Type 0 where
  pub track : b.1 < 15 * cylinders_of volumes b.0
  pub others : are_bases volumes (b.0, b.1 + 1) base ≡ true

first_base : (volumes : List VolumeHead) (low : ℕ × ℕ) (b : Base) (base : List Base) → are_bases volumes low (b ∷ base) ≡ true → FirstBase volumes low b base
first_base volumes low b base is =
    let a = both_true (is_track_of volumes b.0 b.1 && is_from low (b.0, b.1) && is_track b.2) (are_bases volumes (b.0, b.1 + 1) base) is in
    let c = both_true (is_track_of volumes b.0 b.1 && is_from low (b.0, b.1)) (is_track b.2) a.0 in
    let d = both_true (is_track_of volumes b.0 b.1) (is_from low (b.0, b.1)) c.0 in
    let e = both_true (nat_lt b.0 (length volumes)) (nat_lt b.1 (15 * cylinders_of volumes b.0)) d.0 in
    record { track = ltb-true _ _ e.1; others = a.1 }

-- The cylinder of each base track is one that its version can name.
pub near_bases : (version : ℕ) (volumes : List VolumeHead) (low : ℕ × ℕ) (base : List Base) → are_volumes version [] volumes ≡ true → are_bases volumes low base ≡ true → All (λ (b : Base). b.1 < 15 * most_cylinders version) base
near_bases version volumes low [] vs is = All-nil (λ (b : Base). b.1 < 15 * most_cylinders version)
near_bases version volumes low (b ∷ base) vs is =
    let first = first_base volumes low b base is in
    All-cons (λ (b : Base). b.1 < 15 * most_cylinders version) b base (omega (arith, first.track, cylinders_fit version b.0 [] volumes vs)) (near_bases version volumes (b.0, b.1 + 1) base vs first.others)

-- a track of a volume has a number of three bytes
pub near_track : (version : ℕ) (volumes : List VolumeHead) (volume track : ℕ) → are_volumes version [] volumes ≡ true → is_track_of volumes volume track ≡ true → track < 15000000
near_track version volumes volume track vs there =
    let e = both_true (nat_lt volume (length volumes)) (nat_lt track (15 * cylinders_of volumes volume)) there in
    omega (arith, ltb-true _ _ e.1, cylinders_fit version volume [] volumes vs, most_few version)

-- the rules of a header one by one
pub record HeaderRules (h : Header) : Type 0 where
  pub version : is_version h.version ≡ true
  pub many : length h.volumes ≤ 32
  pub volumes : are_volumes h.version [] h.volumes ≡ true
  pub base : are_bases h.volumes (0, 0) h.base ≡ true

pub header_rules : (h : Header) → is_header h ≡ true → HeaderRules h
header_rules h is =
    let a = both_true (is_version h.version && within 1 32 (length h.volumes) && are_volumes h.version [] h.volumes) (are_bases h.volumes (0, 0) h.base) is in
    let b = both_true (is_version h.version && within 1 32 (length h.volumes)) (are_volumes h.version [] h.volumes) a.0 in
    let c = both_true (is_version h.version) (within 1 32 (length h.volumes)) b.0 in
    let d = both_true (nat_le 1 (length h.volumes)) (nat_le (length h.volumes) 32) c.1 in
    record { version = c.0; many = leb-true (length h.volumes) 32 d.1; volumes = b.1; base = a.1 }

-- a header has fewer base tracks than a number of four bytes can say
pub few_in_header : (h : Header) → is_header h ≡ true → length h.base < 2 ^ 32
few_in_header h is =
    let rules = header_rules h is in
    omega (arith, count_bases h.volumes h.base rules.base, few_tracks h.version [] h.volumes rules.volumes, rules.many)
