-- What is read of a trace, from its header to its end, is the trace of its bytes.
use Rattle.std.proofs.Common.{◌≡◌, ℕ, ◌≤◌, ◌<◌, true, false, List, [], ◌∷◌, ◌++◌, length, Option, Some, Result, Ok, Err, refl, sym, ap, ◌∙◌}
use Rattle.tod_stamp.specs.Fields.{◌>>=◌, Left, Bad, is_version, place_of}
use Rattle.tod_stamp.specs.Fields.Bad.{Cut, Broken}
use Rattle.xrc_edge.specs.declared.limits.TheConstants.{MOST_CONTROL_VOLUMES}
use Rattle.write_trace.specs.declared.header.VolumeHead.{VolumeHead}
use Rattle.write_trace.specs.declared.header.Header.{Header}
use Rattle.write_trace.specs.declared.entry.Entry.{Entry}
use Rattle.write_trace.specs.declared.trace.HeaderError.{HeaderError}
use Rattle.write_trace.specs.declared.trace.HeaderError.TheVariants as header
use Rattle.write_trace.specs.declared.trace.TraceEnd.{TraceEnd}
use Rattle.write_trace.specs.declared.trace.TraceEnd.TheVariants as ends
use Rattle.write_trace.specs.Headers.{are_volumes, header_at, is_header}
use Rattle.write_trace.specs.Entries.{stamp_of}
use Rattle.write_trace.specs.WholeTraces.{after_header, bad_start, end_of, entries_from, last_entry_stamp, most_bytes, trace_of, whole_trace}
use Rattle.write_trace.specs.UnreadBytes.{seen}
use Rattle.write_trace.specs.Answers.{AnswersNext, ReaderState}
use Rattle.write_trace.specs.Steps.{next_of}
use Rattle.write_trace.specs.Rests.{IsRestOfAll, ReadsRest, rest_of}
use Rattle.write_trace.specs.Starts.{ReadsHeader, Starts}
use Rattle.write_trace.proofs.HeaderRanges.{header_rules}
use Rattle.write_trace.proofs.Rests.{ReadSoFar, one_more}
use Rattle.write_trace.proofs.Rows.{last_stamp_on}
use Rattle.ckd_bridge.specs.declared.named_volume.NamedVolume.{NamedVolume}
use Rattle.ckd_bridge.specs.declared.stop.Stop.{Stop}
use Rattle.ckd_bridge.specs.declared.stop.Stop.TheVariants.{NoMemory, ReadFault, WriteFault, Refused}
use Rattle.ckd_bridge.specs.NamedVolumes.{GivesVolume, first_of_serial, volume_numbered, stop_of_bad_header, volume_at_end, volume_to_follow}

-- ---- the entries, one after another

pub record ReadTo (before now : Option (List ℕ)) (faults risen : ℕ) (old new : ReaderState) (stamp : ℕ) : Type 0 where
  pub entries : List Entry
  pub so_far : ReadSoFar before now faults risen old entries new
  pub stamp_is : stamp ≡ last_entry_stamp old.last entries

pub one_entry : (before mid now : Option (List ℕ)) (faults risen rises : ℕ) (old r new : ReaderState) (stamp : ℕ) (e : Entry) → ReadTo before mid faults risen old r stamp → AnswersNext mid now risen rises r new (next_of e)
    → ReadTo before now faults rises old new (stamp_of e) × (r.left.place < new.left.place) × (new.left.place ≤ most_bytes)
one_entry before mid now faults risen rises old r new stamp e read answer =
    let more = one_more before mid now faults risen rises old r new read.entries e read.so_far answer in
    (record { entries = read.entries ++ e ∷ []; so_far = more.0; stamp_is = sym (last_stamp_on old.last read.entries e) }, more.1, more.2)

-- ---- the whole trace

read_header : (given : List ℕ) (h : Header) (left : Left) → header_at (whole_trace given) ≡ Ok (h, left) → trace_of false given ≡ Ok (after_header false given h (entries_from (length left.bytes) h.version h.volumes 0 left))
unfolding trace_of
read_header given h left is = rw (is, trace_of) refl

pub bad_header : (given : List ℕ) (bad : Bad) → header_at (whole_trace given) ≡ Err bad → trace_of false given ≡ Err (header.BadHeader (place_of bad))
unfolding trace_of
bad_header given bad is = rw (is, trace_of) refl ∙ ap (λ (e : HeaderError). Err e) (not_fault bad)
  where
    not_fault : (bad : Bad) → bad_start false given bad ≡ header.BadHeader (place_of bad)
    not_fault (Cut place) = refl
    not_fault (Broken place) = refl

pub rules_are : (h : Header) → is_header h ≡ true → (length h.volumes ≤ MOST_CONTROL_VOLUMES) × (are_volumes h.version [] h.volumes ≡ true)
rules_are h is = let rules = header_rules h is in (rules.many, rules.volumes)

pub version_is_known : (h : Header) → is_header h ≡ true → is_version h.version ≡ true
version_is_known h is = (header_rules h is).version

-- the same of what a reader keeps of the header
pub reader_is_ruled : (before now : Option (List ℕ)) (h : Header) (reader : ReaderState) → ReadsHeader before now h reader → (length reader.volumes ≤ MOST_CONTROL_VOLUMES) × (are_volumes reader.version [] reader.volumes ≡ true)
reader_is_ruled before now h reader reads =
    let rules = header_rules h reads.kept in
    (rw reads.volumes rules.many, rw (reads.version, reads.volumes) rules.volumes)

pub whole_is_read : (before mid : Option (List ℕ)) (h : Header) (reader : ReaderState) (entries : List Entry) (end : TraceEnd) (bytes : List ℕ) → ReadsHeader before mid h reader → before ≡ Some bytes → IsRestOfAll mid reader entries end
    → trace_of false bytes ≡ Ok (record { header = h; entries = entries; end = end })
whole_is_read before mid h reader entries end bytes reads told all =
    let (rest, there, is, long) = reads.reads bytes told in
    let left = seen reader.left.place rest in
    let n = length left.bytes in
    let found = entries_from n h.version h.volumes 0 left in
    let rests = all rest there in
    let same : rest_of reader rest ≡ found =
    ap (λ (v : List VolumeHead). entries_from n reader.version v reader.last left) reads.volumes ∙ ap (λ s. entries_from n reader.version h.volumes s left) reads.last ∙ ap (λ k. entries_from n k h.volumes 0 left) reads.version in
    let good : found.0 ≡ entries = ap (λ (p : List Entry × Left). p.0) (sym same) ∙ rests.good in
    let ends : end_of false bytes h.version h.volumes (last_entry_stamp 0 found.0) found.1 ≡ end =
    ap (λ k. end_of false bytes k h.volumes (last_entry_stamp 0 found.0) found.1) (sym reads.version)
    ∙ ap (λ (v : List VolumeHead). end_of false bytes reader.version v (last_entry_stamp 0 found.0) found.1) (sym reads.volumes)
    ∙ ap (λ (es : List Entry). end_of false bytes reader.version reader.volumes (last_entry_stamp 0 es) found.1) good
    ∙ ap (λ s. end_of false bytes reader.version reader.volumes (last_entry_stamp s entries) found.1) (sym reads.last)
    ∙ ap (λ (p : List Entry × Left). end_of false bytes reader.version reader.volumes (last_entry_stamp reader.last entries) p.1) (sym same)
    ∙ rests.ends bytes (sym long) in
    read_header bytes h left is
    ∙ ap (λ (es : List Entry). Ok (record { header = h; entries = es; end = end_of false bytes h.version h.volumes (last_entry_stamp 0 found.0) found.1 })) good
    ∙ ap (λ (x : TraceEnd). Ok (record { header = h; entries = entries; end = x })) ends

-- ---- the volume that is found

-- what is found, for whatever cause it stops
gives : (found wanted : Result NamedVolume Stop) → wanted ≡ found → GivesVolume found wanted
gives (Ok volume) wanted is = is
gives (Err NoMemory) wanted is = tt
gives (Err ReadFault) wanted is = tt
gives (Err WriteFault) wanted is = tt
gives (Err (Refused refusal)) wanted is = is

pub header_refused : (before now : Option (List ℕ)) (faults risen : ℕ) (serial : List ℕ) (stamp : ℕ) (error : HeaderError) (bytes : List ℕ) → (let r : Result (Header × ReaderState) HeaderError = Err error in Starts before now faults risen r) → before ≡ Some bytes
    → GivesVolume (Err (stop_of_bad_header error)) (volume_to_follow serial stamp (trace_of false bytes))
header_refused before now faults risen serial stamp (header.BadHeader place) bytes starts told =
    let (bad, is, at) = starts.0 bytes told in
    ap (volume_to_follow serial stamp) (bad_header bytes bad is ∙ ap (λ k. Err (header.BadHeader k)) at)
header_refused before now faults risen serial stamp header.HeaderFault bytes starts told = tt
header_refused before now faults risen serial stamp header.NoMemory bytes starts told = tt

pub not_named : (before now : Option (List ℕ)) (h : Header) (reader : ReaderState) (serial : List ℕ) (stamp : ℕ) (stop : Stop) (bytes : List ℕ) → ReadsHeader before now h reader → before ≡ Some bytes
    → volume_numbered h.version h.volumes (first_of_serial serial h.volumes) ≡ Err stop → GivesVolume (Err stop) (volume_to_follow serial stamp (trace_of false bytes))
not_named before now h reader serial stamp stop bytes reads told none =
    let (rest, there, is, long) = reads.reads bytes told in
    let left = seen reader.left.place rest in
    let found = entries_from (length left.bytes) h.version h.volumes 0 left in
    let t = after_header false bytes h found in
    gives (Err stop) (volume_to_follow serial stamp (trace_of false bytes))
    (ap (volume_to_follow serial stamp) (read_header bytes h left is)
    ∙ ap (λ (r : Result NamedVolume Stop). r >>= λ volume. volume_at_end volume stamp (last_entry_stamp 0 t.entries) t.end) none)

-- by a trace that ends so, not by a fault
ends_so : (before mid : Option (List ℕ)) (h : Header) (reader : ReaderState) (entries : List Entry) (last : ℕ) (end : TraceEnd) (volume : NamedVolume) (serial : List ℕ) (stamp : ℕ) (bytes : List ℕ) → ReadsHeader before mid h reader → before ≡ Some bytes
    → volume_numbered h.version h.volumes (first_of_serial serial h.volumes) ≡ Ok volume → IsRestOfAll mid reader entries end → last ≡ last_entry_stamp reader.last entries
    → GivesVolume (volume_at_end volume stamp last end) (volume_to_follow serial stamp (trace_of false bytes))
ends_so before mid h reader entries last end volume serial stamp bytes reads told named all last_is =
    gives (volume_at_end volume stamp last end) (volume_to_follow serial stamp (trace_of false bytes))
    (ap (volume_to_follow serial stamp) (whole_is_read before mid h reader entries end bytes reads told all)
    ∙ ap (λ (r : Result NamedVolume Stop). r >>= λ v. volume_at_end v stamp (last_entry_stamp 0 entries) end) named
    ∙ ap (λ s. volume_at_end volume stamp (last_entry_stamp s entries) end) (sym reads.last)
    ∙ ap (λ s. volume_at_end volume stamp s end) (sym last_is))

pub is_found : (before mid now : Option (List ℕ)) (faults risen : ℕ) (h : Header) (reader : ReaderState) (entries : List Entry) (last : ℕ) (end : TraceEnd) (volume : NamedVolume) (serial : List ℕ) (stamp : ℕ) (bytes : List ℕ) → ReadsHeader before mid h reader → before ≡ Some bytes
    → volume_numbered h.version h.volumes (first_of_serial serial h.volumes) ≡ Ok volume → ReadsRest mid now faults risen reader entries end → last ≡ last_entry_stamp reader.last entries
    → GivesVolume (volume_at_end volume stamp last end) (volume_to_follow serial stamp (trace_of false bytes))
is_found before mid now faults risen h reader entries last ends.Ended volume serial stamp bytes reads told named rest last_is = ends_so before mid h reader entries last ends.Ended volume serial stamp bytes reads told named rest.0 last_is
is_found before mid now faults risen h reader entries last (ends.BadTrace place) volume serial stamp bytes reads told named rest last_is = ends_so before mid h reader entries last (ends.BadTrace place) volume serial stamp bytes reads told named rest.0 last_is
is_found before mid now faults risen h reader entries last ends.ReadFault volume serial stamp bytes reads told named rest last_is = tt
