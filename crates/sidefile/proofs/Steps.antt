-- What one look of a reader does to the entries that are ahead.
use Rattle.std.proofs.Common.{◌≡◌, ℕ, zero, suc, ◌+◌, ◌-◌, ◌<◌, ◌≤◌, true, false, cond, nat_eq, List, [], ◌∷◌, ◌++◌, length, take, drop, Option, Some, None, Ok, refl, sym, ap, ◌∙◌, ◌≢◌, eq-eqb, append_assoc, arith, length-append}
use Rattle.std.proofs.lemmas.List.{take-append-drop, take-append-le, take_at, drop_at}
use Rattle.std.proofs.Math.Seq.{take-add}
use Rattle.std.proofs.lemmas.Bool.{ne_eqb, le-leb}
use Rattle.tod_stamp.specs.Fields.{Left}
use Rattle.tod_stamp.specs.Fields.Bad.{Cut}
use Rattle.ckd_track.specs.declared.write.Cause.{Cause}
use Rattle.ckd_track.specs.declared.write.Cause.TheVariants.{BadTrace}
use Rattle.write_trace.specs.declared.header.VolumeHead.{VolumeHead}
use Rattle.ckd_track.specs.declared.write.Write.{Write}
use Rattle.write_trace.specs.declared.entry.Entry.{Entry}
use Rattle.write_trace.specs.declared.entry.Entry.TheVariants.{Written}
use Rattle.write_trace.specs.declared.trace.TraceEnd.TheVariants as ends
use Rattle.write_trace.specs.declared.trace.TraceEnd.TheVariants.{Ended}
use Rattle.write_trace.specs.Entries.{entry_spelling, entry_at, stamp_of}
use Rattle.write_trace.specs.WholeTraces.{most_bytes, entries_from, last_entry_stamp, end_of, bad_end}
use Rattle.write_trace.specs.declared.next.Stopped.{Stopped}
use Rattle.write_trace.specs.UnreadBytes.{unread, seen}
use Rattle.write_trace.specs.Answers.{ReaderState, ReadsEntry, EndsThere, IsBadThere, FailsThere}
use Rattle.sidefile.specs.Breaks.{cause_of}
use Rattle.sidefile.specs.AheadEntries.{IsFault, read_of, end_at, cause_ahead, cause_to_come}
use Rattle.sidefile.specs.Looks.{EntriesAreRead, ReadsAllEntries, EndsAfter, FailsAfter, WritesAfter}
use Rattle.sidefile.proofs.Local.{at}
use Rattle.sidefile.proofs.LocalEntries.{local_entry}
use Rattle.sidefile.proofs.Turns.{turn_ok, turn_err, shorter, enough_turns, none_there}

-- ---- the bytes of an entry

-- a text in front of what is seen is seen in front of it
pub seen_after : (place : ℕ) (text front : List ℕ) → length text ≤ most_bytes - place → seen place (text ++ front) ≡ at place (text ++ (seen (place + length text) front).bytes)
seen_after place text front le =
    let room : most_bytes - place ≡ length text + (most_bytes - (place + length text)) = omega (arith, le) in
    ap (at place)
    (ap (λ n. take n (text ++ front)) room
    ∙ take-add (length text) (most_bytes - (place + length text)) (text ++ front)
    ∙ ap (λ (t : List ℕ). t ++ take (most_bytes - (place + length text)) (drop (length text) (text ++ front))) (take_at text front (length text) refl)
    ∙ ap (λ (t : List ℕ). text ++ take (most_bytes - (place + length text)) t) (drop_at text front (length text) refl))

-- a text at the front of the bytes that are seen is at the front of all
pub front_of_all : (text more bytes : List ℕ) (n : ℕ) → take n bytes ≡ text ++ more → take (length text) bytes ≡ text
front_of_all text more bytes n e =
    let le : length text ≤ length (take n bytes) = omega (arith, ap length e, length-append text more) in
    ap (take (length text)) (sym (take-append-drop n bytes)) ∙ take-append-le (length text) (take n bytes) (drop n bytes) le ∙ ap (take (length text)) e ∙ take_at text more (length text) refl

-- what an entry took of the bytes
pub record Took (old new : ReaderState) (e : Entry) (bytes rest : List ℕ) : Type 0 where
  pub text : List ℕ
  pub parts : bytes ≡ text ++ rest
  pub place : new.left.place ≡ old.left.place + length text
  pub again : (front : List ℕ) → entry_at old.version old.volumes old.last (seen old.left.place (text ++ front)) ≡ Ok (e, seen new.left.place front)

pub took : (before now : Option (List ℕ)) (old new : ReaderState) (e : Entry) → ReadsEntry before now old new e → (bytes : List ℕ) → unread old.left.bytes before ≡ Some bytes
    → (rest : List ℕ) × (unread new.left.bytes now ≡ Some rest) × Took old new e bytes rest
took before now old new e reads bytes told =
    let (rest, there, spelled, read) = reads.entry bytes told in
    let spelling = entry_spelling old.version e in
    let t = local_entry old.version old.volumes old.last (seen old.left.place bytes) (e, seen new.left.place rest) read in
    let le : length t.text ≤ most_bytes - old.left.place = omega (arith, t.place, reads.within) in
    let front = front_of_all t.text (seen new.left.place rest).bytes bytes (most_bytes - old.left.place) t.parts in
    let same_length : length spelling ≡ length t.text = omega (arith, t.place, reads.place) in
    let text_is : t.text ≡ spelling = sym front ∙ ap (λ (b : List ℕ). take (length t.text) b) spelled ∙ take_at spelling rest (length t.text) same_length in (
      rest,
      there,
      record {
        text = t.text;
        parts = spelled ∙ ap (λ (u : List ℕ). u ++ rest) (sym text_is);
        place = t.place;
        again = λ more.
            ap (entry_at old.version old.volumes old.last) (seen_after old.left.place t.text more le)
            ∙ t.again (seen (old.left.place + length t.text) more).bytes
            ∙ ap (λ n. Ok (e, seen n more)) (sym t.place);
      },
    )

-- ---- one entry

-- what is read of bytes that begin with an entry's
pub read_after : (old new : ReaderState) (e : Entry) (bytes rest : List ℕ) (t : Took old new e bytes rest) → new.version ≡ old.version → new.volumes ≡ old.volumes → new.last ≡ stamp_of e → (front : List ℕ)
    → read_of old (t.text ++ front) ≡ (e ∷ (read_of new front).0, (read_of new front).1)
read_after old new e bytes rest t version volumes last front =
    let all = seen old.left.place (t.text ++ front) in
    let after = seen new.left.place front in
    let n = length all.bytes in
    let less = shorter old.version old.volumes old.last all (e, after) (t.again front) in
    let same : entries_from n old.version old.volumes (stamp_of e) after ≡ entries_from (length after.bytes) new.version new.volumes new.last after =
    enough_turns n (length after.bytes) old.version old.volumes (stamp_of e) after (omega (arith, less)) (omega arith)
    ∙ ap (λ k. entries_from (length after.bytes) k old.volumes (stamp_of e) after) (sym version) ∙ ap (λ (v : List VolumeHead). entries_from (length after.bytes) new.version v (stamp_of e) after) (sym volumes)
    ∙ ap (λ s. entries_from (length after.bytes) new.version new.volumes s after) (sym last) in
    enough_turns n (suc n) old.version old.volumes old.last all (omega arith) (omega arith)
    ∙ turn_ok n old.version old.volumes old.last all e after (t.again front)
    ∙ ap (λ (p : List Entry × Left). (e ∷ p.0, p.1)) same

-- why a reader that goes on will break
pub cause_open : (r : ReaderState) (bytes : List ℕ) → r.stopped ≡ None → cause_ahead r bytes ≡ cause_of (end_at (r.left.place + length bytes) (read_of r bytes).1)
cause_open r bytes goes = ap (λ (s : Option Stopped). cause_to_come s r bytes) goes

pub reads_all : (before now : Option (List ℕ)) (old new : ReaderState) (e : Entry) → old.stopped ≡ None → ReadsEntry before now old new e → ReadsAllEntries before now old new (e ∷ [])
reads_all before now old new e goes reads bytes told =
    let (rest, there, t) = took before now old new e reads bytes told in
    let after = λ (front : List ℕ). read_after old new e bytes rest t reads.version reads.volumes reads.last front in
    let end : new.left.place + length rest ≡ old.left.place + length bytes = omega (arith, t.place, ap length t.parts, length-append t.text rest) in (
      rest,
      there,
      record {
        used = t.text;
        split = t.parts;
        place = t.place;
        fronts = λ front. after front;
        last = reads.last;
        version = reads.version;
        volumes = reads.volumes;
        same_end =
            cause_open new rest reads.goes_on
            ∙ ap (λ n. cause_of (end_at n (read_of new rest).1)) end
            ∙ ap (λ (l : Left). cause_of (end_at (old.left.place + length bytes) l)) (ap (λ (p : List Entry × Left). p.1) (sym (after rest) ∙ ap (read_of old) (sym t.parts)))
            ∙ sym (cause_open old bytes goes);
      },
    )

-- ---- no entry

nothing_seen : (place : ℕ) → seen place [] ≡ at place []
nothing_seen place = none (most_bytes - place)
  where
    none : (n : ℕ) → at place (take n []) ≡ at place []
    none zero = refl
    none (suc n) = refl

pub ends_there : (before : Option (List ℕ)) (r : ReaderState) → r.stopped ≡ None → EndsThere before r → EndsAfter before r [] None
ends_there before r goes ended bytes told =
    let none = ended bytes told in
    let read : read_of r bytes ≡ ([], seen r.left.place []) = ap (read_of r) none ∙ turn_err (length (seen r.left.place []).bytes) r.version r.volumes r.last (seen r.left.place []) (Cut r.left.place) (ap (entry_at r.version r.volumes r.last) (nothing_seen r.left.place) ∙ none_there r.version r.volumes r.last r.left.place) in
    let there : nat_eq r.left.place (r.left.place + 0) ≡ true = eq-eqb r.left.place (r.left.place + 0) (omega arith) in (
      ap (λ (p : List Entry × Left). p.0) read,
      cause_open r bytes goes
          ∙ ap (λ (l : Left). cause_of (end_at (r.left.place + length bytes) l)) (ap (λ (p : List Entry × Left). p.1) read)
          ∙ ap (λ (b : List ℕ). cause_of (end_at (r.left.place + length b) (seen r.left.place []))) none
          ∙ ap (λ b. cause_of (cond b Ended (ends.BadTrace r.left.place))) there,
    )

some_bytes : (bytes : List ℕ) → bytes ≢ [] → 0 < length bytes
some_bytes [] some = absurd (some refl)
some_bytes (b ∷ bytes) some = omega arith

pub bad_there : (before : Option (List ℕ)) (r : ReaderState) (place : ℕ) → r.stopped ≡ None → place ≡ r.left.place → IsBadThere before r → EndsAfter before r [] (Some (BadTrace place))
bad_there before r place goes at_place is bytes told =
    let (some, bad, err) = is bytes told in
    let read : read_of r bytes ≡ ([], seen r.left.place bytes) = turn_err (length (seen r.left.place bytes).bytes) r.version r.volumes r.last (seen r.left.place bytes) bad err in
    let before_end : nat_eq r.left.place (r.left.place + length bytes) ≡ false = ne_eqb r.left.place (r.left.place + length bytes) (λ e. omega (arith, some_bytes bytes some)) in (
      ap (λ (p : List Entry × Left). p.0) read,
      cause_open r bytes goes
          ∙ ap (λ (l : Left). cause_of (end_at (r.left.place + length bytes) l)) (ap (λ (p : List Entry × Left). p.1) read)
          ∙ ap (λ b. cause_of (cond b Ended (ends.BadTrace r.left.place))) before_end
          ∙ ap (λ n. Some (BadTrace n)) (sym at_place),
    )

-- a source that told still tells
told_still : (held bytes : List ℕ) (now : Option (List ℕ)) → unread held now ≡ Some bytes → (left : List ℕ) × (now ≡ Some left) × (bytes ≡ held ++ left)
told_still held bytes None e = absurd cc
told_still held bytes (Some left) e = (left, refl, cc)

pub fails_there : (before now : Option (List ℕ)) (old new : ReaderState) → FailsThere before now old new → FailsAfter before now old []
fails_there before now old new fails bytes told =
    let held = new.left.bytes in
    let (left, source, split) = told_still held bytes now (fails.given ∙ told) in
    let read : read_of old held ≡ ([], seen old.left.place held) = turn_err (length (seen old.left.place held).bytes) old.version old.volumes old.last (seen old.left.place held) (Cut fails.cut.0) fails.cut.1 in
    (left, source, held, split, ap (λ (p : List Entry × Left). p.0) read, λ given len. fault_of given read (omega (arith, len, fails.place, fails.within)))
  where
    fault_of : (given : List ℕ) → read_of old new.left.bytes ≡ ([], seen old.left.place new.left.bytes) → length given ≤ most_bytes
        → end_of true given old.version old.volumes (last_entry_stamp old.last (read_of old new.left.bytes).0) (read_of old new.left.bytes).1 ≡ ends.ReadFault
    fault_of given read le =
        ap (λ (x : List Entry × Left). end_of true given old.version old.volumes (last_entry_stamp old.last x.0) x.1) read
        ∙ ap (bad_end true given old.left.place) fails.cut.1
        ∙ ap (λ b. cond b ends.ReadFault (ends.BadTrace old.left.place)) (le-leb (length given) most_bytes le)

-- ---- one after another

pub none_read : (told : Option (List ℕ)) (r : ReaderState) → ReadsAllEntries told told r r []
none_read told r bytes there = (bytes, there, record { used = []; split = refl; place = omega arith; fronts = λ front. refl; last = refl; version = refl; volumes = refl; same_end = refl })

last_append : (last : ℕ) (xs ys : List Entry) → last_entry_stamp last (xs ++ ys) ≡ last_entry_stamp (last_entry_stamp last xs) ys
last_append last [] ys = refl
last_append last (x ∷ xs) ys = last_append (stamp_of x) xs ys

pub read_then : (a b c : Option (List ℕ)) (r s t : ReaderState) (xs ys : List Entry) → ReadsAllEntries a b r s xs → ReadsAllEntries b c s t ys → ReadsAllEntries a c r t (xs ++ ys)
read_then a b c r s t xs ys one two bytes told =
    let (mid, there, p) = one bytes told in
    let (rest, last, q) = two mid there in (
      rest,
      last,
      record {
        used = p.used ++ q.used;
        split = p.split ∙ ap (λ (u : List ℕ). p.used ++ u) q.split ∙ sym (append_assoc p.used q.used rest);
        place = omega (arith, p.place, q.place, length-append p.used q.used);
        fronts = λ front.
            ap (read_of r) (append_assoc p.used q.used front)
            ∙ p.fronts (q.used ++ front)
            ∙ ap (λ (x : List Entry × Left). (xs ++ x.0, x.1)) (q.fronts front)
            ∙ ap (λ (es : List Entry). (es, (read_of t front).1)) (sym (append_assoc xs ys (read_of t front).0));
        last = q.last ∙ ap (λ n. last_entry_stamp n ys) p.last ∙ sym (last_append r.last xs ys);
        version = q.version ∙ p.version;
        volumes = q.volumes ∙ p.volumes;
        same_end = q.same_end ∙ p.same_end;
      },
    )

-- all bytes, where nothing is left out
pub whole_read : (r s : ReaderState) (xs : List Entry) (bytes rest : List ℕ) → EntriesAreRead r s xs bytes rest → (read_of r bytes).0 ≡ xs ++ (read_of s rest).0
whole_read r s xs bytes rest p =
    ap (λ (b : List ℕ). (read_of r b).0) p.split ∙ ap (λ (x : List Entry × Left). x.0) (p.fronts rest)

pub ends_then : (a b : Option (List ℕ)) (r s : ReaderState) (xs ys : List Entry) (cause : Option Cause) → ReadsAllEntries a b r s xs → EndsAfter b s ys cause → EndsAfter a r (xs ++ ys) cause
ends_then a b r s xs ys cause one two bytes told =
    let (mid, there, p) = one bytes told in
    let (read, end) = two mid there in
    (whole_read r s xs bytes mid p ∙ ap (λ (es : List Entry). xs ++ es) read, sym p.same_end ∙ end)

-- a fault after bytes that follow entries is a fault after them all
pub fault_before : (r s : ReaderState) (xs : List Entry) (bytes rest : List ℕ) (p : EntriesAreRead r s xs bytes rest) (front : List ℕ) → IsFault s front → IsFault r (p.used ++ front)
fault_before r s xs bytes rest p front fault given len =
    let after = read_of s front in
    ap (λ (x : List Entry × Left). end_of true given r.version r.volumes (last_entry_stamp r.last x.0) x.1) (p.fronts front)
    ∙ ap (λ n. end_of true given r.version r.volumes n after.1) (last_append r.last xs after.0 ∙ ap (λ n. last_entry_stamp n after.0) (sym p.last))
    ∙ ap (λ k. end_of true given k r.volumes (last_entry_stamp s.last after.0) after.1) (sym p.version)
    ∙ ap (λ (v : List VolumeHead). end_of true given s.version v (last_entry_stamp s.last after.0) after.1) (sym p.volumes)
    ∙ fault given (omega (arith, len, p.place, length-append p.used front))

pub fails_then : (a b c : Option (List ℕ)) (r s : ReaderState) (xs ys : List Entry) → ReadsAllEntries a b r s xs → FailsAfter b c s ys → FailsAfter a c r (xs ++ ys)
fails_then a b c r s xs ys one two bytes told =
    let (mid, there, p) = one bytes told in
    let (left, source, front, split, read, fault) = two mid there in (
      left,
      source,
      p.used ++ front,
      p.split ∙ ap (λ (u : List ℕ). p.used ++ u) split ∙ sym (append_assoc p.used front left),
      ap (λ (x : List Entry × Left). x.0) (p.fronts front) ∙ ap (λ (es : List Entry). xs ++ es) read,
      fault_before r s xs bytes mid p front fault,
    )

pub writes_then : (a b : Option (List ℕ)) (r s : ReaderState) (xs : List Entry) (w : Write) (stamp : ℕ) → ReadsAllEntries a b r s (xs ++ Written w ∷ []) → w.stamp.0 ≡ stamp → WritesAfter a r xs stamp
writes_then a b r s xs w stamp one is bytes told =
    let (mid, there, p) = one bytes told in
    (w, (read_of s mid).0, whole_read r s (xs ++ Written w ∷ []) bytes mid p ∙ append_assoc xs (Written w ∷ []) (read_of s mid).0, is)
