-- Reading entry after entry. Each takes a byte at least, so it makes no difference how many turns there are beyond the bytes.
use Rattle.std.proofs.Common.{◌≡◌, ℕ, zero, suc, ◌+◌, ◌<◌, ◌≤◌, List, [], ◌∷◌, ◌++◌, length, Result, Ok, Err, refl, sym, ap, ◌∙◌, arith, length-append}
use Rattle.tod_stamp.specs.Fields.{Left, Bad, number_at}
use Rattle.tod_stamp.specs.Fields.Bad.{Cut}
use Rattle.write_trace.specs.declared.header.VolumeHead.{VolumeHead}
use Rattle.write_trace.specs.declared.entry.Entry.{Entry}
use Rattle.write_trace.specs.Entries.{entry_at, stamp_of}
use Rattle.write_trace.specs.WholeTraces.{entries_from}
use Rattle.sidefile.proofs.Local.{at, Taken}
use Rattle.sidefile.proofs.LocalEntries.{local_entry}

-- one turn, by what is read first
abbrev one_turn : (ℕ → Left → List Entry × Left) → Left → Result (Entry × Left) Bad → List Entry × Left
one_turn others left (Ok e) = (e.0 ∷ (others (stamp_of e.0) e.1).0, (others (stamp_of e.0) e.1).1)
one_turn others left (Err bad) = ([], left)

turn : (turns version : ℕ) (volumes : List VolumeHead) (last : ℕ) (left : Left)
    → entries_from (suc turns) version volumes last left ≡ one_turn (λ last left. entries_from turns version volumes last left) left (entry_at version volumes last left)
unfolding entries_from
turn turns version volumes last left = refl

pub turn_ok : (turns version : ℕ) (volumes : List VolumeHead) (last : ℕ) (left : Left) (e : Entry) (next : Left) → entry_at version volumes last left ≡ Ok (e, next)
    → entries_from (suc turns) version volumes last left ≡ (e ∷ (entries_from turns version volumes (stamp_of e) next).0, (entries_from turns version volumes (stamp_of e) next).1)
turn_ok turns version volumes last left e next h = turn turns version volumes last left ∙ ap (one_turn (λ last left. entries_from turns version volumes last left) left) h

pub no_turn : (version : ℕ) (volumes : List VolumeHead) (last : ℕ) (left : Left) → entries_from zero version volumes last left ≡ ([], left)
unfolding entries_from
no_turn version volumes last left = refl

pub turn_err : (turns version : ℕ) (volumes : List VolumeHead) (last : ℕ) (left : Left) (bad : Bad) → entry_at version volumes last left ≡ Err bad
    → entries_from turns version volumes last left ≡ ([], left)
turn_err zero version volumes last left bad h = no_turn version volumes last left
turn_err (suc turns) version volumes last left bad h = turn turns version volumes last left ∙ ap (one_turn (λ last left. entries_from turns version volumes last left) left) h

-- without bytes no entry is read
pub none_there : (version : ℕ) (volumes : List VolumeHead) (last place : ℕ) → entry_at version volumes last (at place []) ≡ Err (Cut place)
unfolding entry_at number_at
none_there version volumes last place = refl

-- An entry that is read takes a byte at least.
pub takes_some : (version : ℕ) (volumes : List VolumeHead) (last : ℕ) (left : Left) (e : Entry) (next : Left) → (t : Taken (entry_at version volumes last) left (e, next)) → 0 < length t.text
takes_some version volumes last left e next t = some t.text (t.again [])
  where
    some : (text : List ℕ) → entry_at version volumes last (at left.place (text ++ [])) ≡ Ok (e, at (left.place + length text) []) → 0 < length text
    some [] h = let n = none_there version volumes last left.place in absurd cc
    some (b ∷ text) h = omega arith

-- what is left after an entry is shorter
pub shorter : (version : ℕ) (volumes : List VolumeHead) (last : ℕ) (left : Left) (e : Entry × Left) → entry_at version volumes last left ≡ Ok e → length e.1.bytes < length left.bytes
shorter version volumes last left e h =
    let t = local_entry version volumes last left e h in
    omega (arith, takes_some version volumes last left e.0 e.1 t, ap length t.parts, length-append t.text e.1.bytes)

no_more : (n version : ℕ) (volumes : List VolumeHead) (last : ℕ) (left : Left) (r : Result (Entry × Left) Bad) → entry_at version volumes last left ≡ r → length left.bytes ≤ 0
    → entries_from n version volumes last left ≡ ([], left)
no_more n version volumes last left (Err bad) h le = turn_err n version volumes last left bad h
no_more n version volumes last left (Ok e) h le = absurd (omega (arith, shorter version volumes last left e h, le))

next_turns : (m n version : ℕ) (volumes : List VolumeHead) (last : ℕ) (left : Left) (r : Result (Entry × Left) Bad) → entry_at version volumes last left ≡ r → length left.bytes ≤ suc m → length left.bytes ≤ suc n
    → ((last : ℕ) (left : Left) → length left.bytes ≤ m → length left.bytes ≤ n → entries_from m version volumes last left ≡ entries_from n version volumes last left)
    → entries_from (suc m) version volumes last left ≡ entries_from (suc n) version volumes last left
next_turns m n version volumes last left (Err bad) h le more others = turn_err (suc m) version volumes last left bad h ∙ sym (turn_err (suc n) version volumes last left bad h)
next_turns m n version volumes last left (Ok e) h le more others =
    let less = shorter version volumes last left e h in
    let same = others (stamp_of e.0) e.1 (omega (arith, less, le)) (omega (arith, less, more)) in
    turn_ok m version volumes last left e.0 e.1 h ∙ ap (λ (p : List Entry × Left). (e.0 ∷ p.0, p.1)) same ∙ sym (turn_ok n version volumes last left e.0 e.1 h)

pub enough_turns : (m n version : ℕ) (volumes : List VolumeHead) (last : ℕ) (left : Left) → length left.bytes ≤ m → length left.bytes ≤ n
    → entries_from m version volumes last left ≡ entries_from n version volumes last left
enough_turns zero n version volumes last left le more = no_turn version volumes last left ∙ sym (no_more n version volumes last left (entry_at version volumes last left) refl le)
enough_turns (suc m) zero version volumes last left le more = no_more (suc m) version volumes last left (entry_at version volumes last left) refl more ∙ sym (no_turn version volumes last left)
enough_turns (suc m) (suc n) version volumes last left le more = next_turns m n version volumes last left (entry_at version volumes last left) refl le more (λ last left le more. enough_turns m n version volumes last left le more)
