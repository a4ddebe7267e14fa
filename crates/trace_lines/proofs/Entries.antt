-- What is so of an entry that may follow: the writer takes it.
use Rattle.std.proofs.Common.{◌≡◌, ℕ, ◌<◌, ◌≤◌, ◌^◌, ◌*◌, true, ◌&&◌, nat_lt, nat_le, [], length, arith}
use Rattle.std.proofs.lemmas.Bool.{leb-true, ltb-true}
use Rattle.tod_stamp.specs.Fields.{is_version}
use Rattle.tod_stamp.specs.declared.stamp.Stamp.{Stamp}
use Rattle.ckd_track.specs.declared.write.Write.{Write}
use Rattle.ckd_track.specs.Effects.{keeps_rules}
use Rattle.write_trace.specs.declared.header.Header.{Header}
use Rattle.write_trace.specs.declared.entry.Entry.TheVariants.{Written, Idle}
use Rattle.write_trace.specs.Headers.{cylinders_of, is_header, is_track_of, most_cylinders}
use Rattle.write_trace.specs.Entries.{is_stamp_from}
use Rattle.write_trace.proofs.FieldSteps.{both_true}
use Rattle.write_trace.proofs.FieldsAgain.{cylinders_fit}
use Rattle.write_trace.proofs.HeaderRanges.{header_rules}
use Rattle.trace_lines.specs.Traces.{may_follow}

stamped : (last stamp : ℕ) → is_stamp_from last stamp ≡ true → 1 ≤ stamp
stamped last stamp is =
    let a = both_true (nat_le 1 stamp && nat_le last stamp) (nat_lt stamp (2 ^ 64)) is in
    let b = both_true (nat_le 1 stamp) (nat_le last stamp) a.0 in
    leb-true 1 stamp b.0

pub idle_is_stamped : (h : Header) (last : ℕ) (stamp : Stamp) → may_follow h.volumes last (Idle stamp) ≡ true → 1 ≤ stamp.0
idle_is_stamped h last stamp is = stamped last stamp.0 is

pub write_is_stamped : (h : Header) (last : ℕ) (w : Write) → may_follow h.volumes last (Written w) ≡ true → 1 ≤ w.stamp.0
write_is_stamped h last w is =
    let a = both_true (is_stamp_from last w.stamp.0 && is_track_of h.volumes w.volume w.track) (keeps_rules w.kind) is in
    let b = both_true (is_stamp_from last w.stamp.0) (is_track_of h.volumes w.volume w.track) a.0 in
    stamped last w.stamp.0 b.0

pub write_is_near : (h : Header) (last : ℕ) (w : Write) → is_header h ≡ true → may_follow h.volumes last (Written w) ≡ true → w.track < 15 * most_cylinders h.version
write_is_near h last w header is =
    let a = both_true (is_stamp_from last w.stamp.0 && is_track_of h.volumes w.volume w.track) (keeps_rules w.kind) is in
    let b = both_true (is_stamp_from last w.stamp.0) (is_track_of h.volumes w.volume w.track) a.0 in
    let volumes = (header_rules h header).volumes in
    let c = both_true (nat_lt w.volume (length h.volumes)) (nat_lt w.track (15 * cylinders_of h.volumes w.volume)) b.1 in
    omega (arith, ltb-true _ _ c.1, cylinders_fit h.version w.volume [] h.volumes volumes)

pub version_is_known : (h : Header) → is_header h ≡ true → is_version h.version ≡ true
version_is_known h header = (header_rules h header).version

pub write_keeps_rules : (h : Header) (last : ℕ) (w : Write) → may_follow h.volumes last (Written w) ≡ true → keeps_rules w.kind ≡ true
write_keeps_rules h last w is = (both_true (is_stamp_from last w.stamp.0 && is_track_of h.volumes w.volume w.track) (keeps_rules w.kind) is).1
