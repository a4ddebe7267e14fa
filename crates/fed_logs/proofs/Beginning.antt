-- The start of a trace: nothing was read of what a source's bytes are.
use Rattle.std.proofs.Common.{◌≡◌, ◌≤◌, ◌+◌, ℕ, zero, suc, Bool, true, false, cond, nat_eq, nat_le, ◌&&◌, List, [], ◌∷◌, length, Option, Some, None, Result, Ok, Err, refl, sym, ap, subst, ◌∙◌}
use Rattle.std.specs.Int.{w8, w64}
use Rattle.std.proofs.lemmas.Bool.{and_parts, and_from, leb-true, le-leb}
use Rattle.tod_stamp.specs.Fields.{◌>>=◌, Left, Bad, number_at, within, after}
use Rattle.tod_stamp.specs.Fields.Bad.{Cut, Broken}
use Rattle.tod_stamp.proofs.FieldLaws.{bind_ok, guard_ok, allow_ok}
use Rattle.write_trace.specs.declared.header.Header.{Header}
use Rattle.write_trace.specs.declared.header.VolumeHead.{VolumeHead}
use Rattle.write_trace.specs.declared.entry.Entry.{Entry}
use Rattle.write_trace.specs.declared.entry.Entry.TheVariants.{Written, Idle}
use Rattle.write_trace.specs.declared.next.Stopped.{Stopped}
use Rattle.write_trace.specs.declared.trace.Trace.{Trace}
use Rattle.write_trace.specs.declared.trace.TraceEnd.TheVariants as ends
use Rattle.write_trace.specs.Headers.{place_at, header_at}
use Rattle.write_trace.specs.Entries.{stamp_of, entry_at, write_at, kind_at}
use Rattle.write_trace.specs.WholeTraces.{entries_from, after_header, trace_of, whole_trace}
use Rattle.write_trace.specs.UnreadBytes.{seen}
use Rattle.write_trace.specs.Answers.{ReaderState}
use Rattle.sidefile.specs.AheadEntries.{ahead, entries_ahead}
use Rattle.sidefile.proofs.Turns.{no_turn, turn_err, turn_ok}
use Rattle.sidefile.proofs.TraceLaws.{ahead_trace, given_trace}
use Rattle.fed_logs.specs.LaneFeeds.{FeedState}
use Rattle.fed_logs.specs.Reads.{do_rise}
use Rattle.fed_logs.specs.Reads.Outlook.{Whole, Failing}
use Rattle.fed_logs.specs.FeedLaws.{ComeSo, IsAfterHeader, BeginsTrace, HeadersBeginTraces}
use Rattle.fed_logs.proofs.Stepping.{first_is_unread}

-- ---- reading

-- a number keeps its rule
number_kept : (rule : ℕ → Bool) (left : Left) (n : ℕ) (next : Left) → number_at w64 rule left ≡ Ok (n, next) → rule n ≡ true
unfolding number_at
number_kept rule left n next e =
    let one = guard_ok _ (Cut left.place) _ (n, next) e in
    let two = allow_ok (rule _) (Broken left.place) (_, after 8 left) (n, next) one.1 in
    subst (λ k. rule k ≡ true) (ap (λ (p : ℕ × Left). p.0) two.1) two.0

-- what is read as a write has the stamp that was read
write_stamp : (version tag stamp : ℕ) (volumes : List VolumeHead) (left : Left) (e : Entry) (next : Left) → write_at version volumes tag stamp left ≡ Ok (e, next) → stamp_of e ≡ stamp
unfolding write_at
write_stamp version tag stamp volumes left e next read =
    let one = bind_ok (place_at version volumes left) (λ at. kind_at tag at.1 >>= (λ kind. Ok (Written (record { volume = at.0.0; track = at.0.1; stamp = record { 0 = stamp }; kind = kind.0 }), kind.1))) (e, next) read in
    let two = bind_ok (kind_at tag one.0.1) (λ kind. Ok (Written (record { volume = one.0.0.0; track = one.0.0.1; stamp = record { 0 = stamp }; kind = kind.0 }), kind.1)) (e, next) one.2 in
    let same : (Written (record { volume = one.0.0.0; track = one.0.0.1; stamp = record { 0 = stamp }; kind = two.0.0 }), two.0.1) ≡ (e, next) = cc (two.2) in
    sym (ap (λ (p : Entry × Left). stamp_of p.0) same)

-- the rule that a stamp keeps
abbrev keeps_stamp : (last : ℕ) → ℕ → Bool
keeps_stamp last n = nat_le 1 n && nat_le last n

entry_keeps : (version last : ℕ) (volumes : List VolumeHead) (left : Left) (e : Entry) (next : Left) → entry_at version volumes last left ≡ Ok (e, next) → keeps_stamp last (stamp_of e) ≡ true
unfolding entry_at
entry_keeps version last volumes left e next read =
    let one = bind_ok (number_at w8 (within 1 4) left)
    (λ t. number_at w64 (λ n. nat_le 1 n && nat_le last n) t.1 >>= (λ s. cond (nat_eq t.0 1) (Ok (Idle (record { 0 = s.0 }), s.1)) (write_at version volumes t.0 s.0 s.1))) (e, next) read in
    let two = bind_ok (number_at w64 (λ n. nat_le 1 n && nat_le last n) one.0.1)
    (λ s. cond (nat_eq one.0.0 1) (Ok (Idle (record { 0 = s.0 }), s.1)) (write_at version volumes one.0.0 s.0 s.1)) (e, next) one.2 in
    let kept = number_kept (λ n. nat_le 1 n && nat_le last n) one.0.1 two.0.0 two.0.1 two.1 in
    subst (λ n. keeps_stamp last n ≡ true) (sym (choose (nat_eq one.0.0 1) one.0.0 two.0.0 two.0.1 two.2)) kept
  where
    choose : (idle : Bool) (tag stamp : ℕ) (after : Left) → cond idle (Ok (Idle (record { 0 = stamp }), after)) (write_at version volumes tag stamp after) ≡ Ok (e, next) → stamp_of e ≡ stamp
    choose true tag stamp after is =
        let same : (Idle (record { 0 = stamp }), after) ≡ (e, next) = cc is in
        sym (ap (λ (p : Entry × Left). stamp_of p.0) same)
    choose false tag stamp after is = write_stamp version tag stamp volumes after e next is

-- An entry that is read isn't before the last one, and its stamp is 1 at least.
entry_rises : (version last : ℕ) (volumes : List VolumeHead) (left : Left) (e : Entry) (next : Left) → entry_at version volumes last left ≡ Ok (e, next) → last ≤ stamp_of e
entry_rises version last volumes left e next read = leb-true last (stamp_of e) (and_parts (nat_le 1 (stamp_of e)) (nat_le last (stamp_of e)) (entry_keeps version last volumes left e next read)).1

entry_is_late : (version last : ℕ) (volumes : List VolumeHead) (left : Left) (e : Entry) (next : Left) → entry_at version volumes last left ≡ Ok (e, next) → 1 ≤ stamp_of e
entry_is_late version last volumes left e next read = leb-true 1 (stamp_of e) (and_parts (nat_le 1 (stamp_of e)) (nat_le last (stamp_of e)) (entry_keeps version last volumes left e next read)).0

entries_rise : (turns version : ℕ) (volumes : List VolumeHead) (last : ℕ) (left : Left) → do_rise last (entries_from turns version volumes last left).0 ≡ true
unfolding entries_from
entries_rise zero version volumes last left = refl
entries_rise (suc turns) version volumes last left =
    choose (λ n next. entries_rise turns version volumes n next) (entry_at version volumes last left) refl
  where
    choose : ((n : ℕ) (next : Left) → do_rise n (entries_from turns version volumes n next).0 ≡ true) → (read : Result (Entry × Left) Bad) → entry_at version volumes last left ≡ read
        → do_rise last (elim read as (λ r. List Entry × Left) [
          | Ok e ↦ (e.0 ∷ (entries_from turns version volumes (stamp_of e.0) e.1).0, (entries_from turns version volumes (stamp_of e.0) e.1).1)
          | Err bad ↦ ([], left)
        ]).0 ≡ true
    choose others (Ok e) is =
        and_from (nat_le last (stamp_of e.0)) (do_rise (stamp_of e.0) (entries_from turns version volumes (stamp_of e.0) e.1).0)
        (le-leb last (stamp_of e.0) (entry_rises version last volumes left e.0 e.1 is)) (others (stamp_of e.0) e.1)
    choose others (Err bad) is = refl

-- The stamps of what is read are 1 at least.
entries_from_one : (turns version : ℕ) (volumes : List VolumeHead) (last : ℕ) (left : Left) → do_rise last (entries_from turns version volumes last left).0 ≡ true → do_rise 1 (entries_from turns version volumes last left).0 ≡ true
entries_from_one zero version volumes last left rise = ap (λ (p : List Entry × Left). do_rise 1 p.0) (no_turn version volumes last left)
entries_from_one (suc turns) version volumes last left rise = choose (entry_at version volumes last left) refl
  where
    choose : (r : Result (Entry × Left) Bad) → entry_at version volumes last left ≡ r → do_rise 1 (entries_from (suc turns) version volumes last left).0 ≡ true
    choose (Err bad) is = ap (λ (p : List Entry × Left). do_rise 1 p.0) (turn_err (suc turns) version volumes last left bad is)
    choose (Ok e) is =
        let more = (entries_from turns version volumes (stamp_of e.0) e.1).0 in
        let here : (entries_from (suc turns) version volumes last left).0 ≡ e.0 ∷ more = ap (λ (p : List Entry × Left). p.0) (turn_ok turns version volumes last left e.0 e.1 is) in
        let parts = and_parts (nat_le last (stamp_of e.0)) (do_rise (stamp_of e.0) more) (ap (do_rise last) (sym here) ∙ rise) in
        ap (do_rise 1) here ∙ and_from (nat_le 1 (stamp_of e.0)) (do_rise (stamp_of e.0) more) (le-leb 1 (stamp_of e.0) (entry_is_late version last volumes left e.0 e.1 is)) parts.1

-- What is ahead of a reader has stamps of 1 at least, which never fall.
ahead_rises : (stopped : Option Stopped) (reader : ReaderState) (bytes : List ℕ) → do_rise 1 (entries_ahead stopped reader bytes) ≡ true
ahead_rises None reader bytes =
    let left = seen reader.left.place bytes in
    let n = length left.bytes in
    entries_from_one n reader.version reader.volumes reader.last left (entries_rise n reader.version reader.volumes reader.last left)
ahead_rises (Some why) reader bytes = refl

-- ---- headers

read_header : (told : List ℕ) (h : Header) (left : Left) → header_at (whole_trace told) ≡ Ok (h, left) → trace_of false told ≡ Ok (after_header false told h (entries_from (length left.bytes) h.version h.volumes 0 left))
unfolding trace_of
read_header told h left is = rw (is, trace_of) refl

one_rest : (a b : List ℕ) → Some a ≡ Some b → a ≡ b
one_rest a b e = cc

module _ (told : List ℕ) (now : Option (List ℕ)) (head : Header) (feed : FeedState) (rest : List ℕ) (h : IsAfterHeader told now head feed rest) where
  abbrev reader : ReaderState
  reader = feed.side.reader

  -- the bytes that the header leaves are those that are ahead
  same_rest : (h.reads.reads told refl).0 ≡ rest
  same_rest = one_rest (h.reads.reads told refl).0 rest (sym (h.reads.reads told refl).1 ∙ h.there h.reads.goes_on)

  header_is : header_at (whole_trace told) ≡ Ok (head, seen reader.left.place rest)
  header_is = subst (λ (r : List ℕ). header_at (whole_trace told) ≡ Ok (head, seen reader.left.place r)) same_rest (h.reads.reads told refl).2

  long : reader.left.place + length rest ≡ length told
  long = subst (λ (r : List ℕ). reader.left.place + length r ≡ length told) same_rest (h.reads.reads told refl).3

  -- where all bytes come
  abbrev whole : Trace
  whole = after_header false told head (entries_from (length (seen reader.left.place rest).bytes) head.version head.volumes 0 (seen reader.left.place rest))

  begins_whole : (left : List ℕ) → BeginsTrace Whole told rest left head feed
  begins_whole left =
      let is = read_header told head (seen reader.left.place rest) header_is in
      let known = ahead_trace false told rest head reader whole header_is (sym long) h.reads.version h.reads.volumes h.reads.last h.reads.goes_on is in
      record {
        trace = whole;
        headed = refl;
        is = is;
        unread = first_is_unread Whole rest whole feed h.first known.0 (ap (do_rise 1) (sym known.0) ∙ ahead_rises reader.stopped reader rest) (known.1 refl);
      }

  -- where the source fails
  begins_failing : (later left : List ℕ) → ComeSo Failing reader rest later left → BeginsTrace Failing told later left head feed
  begins_failing later left come =
      let given : Trace = record { header = head; entries = ahead None reader later; end = ends.ReadFault } in
      record {
        trace = given;
        headed = refl;
        is = given_trace told rest later left head reader header_is (sym long) h.reads.version h.reads.volumes h.reads.last h.reads.goes_on come.0 come.1;
        unread = first_is_unread Failing later given feed h.first refl (ahead_rises reader.stopped reader later) refl;
      }

pub headers_begin_traces : HeadersBeginTraces
headers_begin_traces told now head feed rest h Whole later left come = subst (λ (l : List ℕ). BeginsTrace Whole told l left head feed) (sym come) (begins_whole told now head feed rest h left)
headers_begin_traces told now head feed rest h Failing later left come = begins_failing told now head feed rest h later left come
