-- What is read as a mark keeps the table and was spelled so.
use Rattle.std.proofs.Common.{◌≡◌, ℕ, ◌+◌, ◌-◌, ◌^◌, ◌<◌, ◌≤◌, true, nat_eq, nat_le, nat_lt, List, [], ◌∷◌, ◌++◌, length, Result, Ok, refl, sym, ap, subst, ◌∙◌, arith, append_assoc}
use Rattle.std.specs.Prelude.{codes, bytes_eq, slice_index, IsTrue}
use Rattle.std.specs.Int.{w8, w16, w64, to_be_bytes}
use Rattle.std.proofs.lemmas.Bool.{leb-true, ltb-true}
use Rattle.std.proofs.lemmas.Slice.Eq.{bytes_eq-Decides}
use Rattle.tod_stamp.specs.Fields.{◌>>=◌, IsBytes, Left, Bad, bytes_at, number_at, within}
use Rattle.tod_stamp.specs.Names.{is_name, is_field, is_session, session_field, before_spaces}
use Rattle.tod_stamp.proofs.FieldLaws.{bind_ok, Takes, Takes-then, wide8, wide16, wide64, number_takes, bytes_takes}
use Rattle.tod_stamp.proofs.NameLaws.{both_true, fields_spelled}
use Rattle.control_set.specs.declared.value.Mark.{Mark}
use Rattle.control_set.specs.Marks.{IsMark, IsInRange, mark_spelling, mark_at, has_spot, flag}
use Rattle.control_set.specs.Laws.{MarksAreSpelled}
use Rattle.control_set.proofs.Again.{length_is}

-- the value that a reader gave
given_is : {A : Type 0} (a b : A) → (let x : Result A Bad = Ok a in let y : Result A Bad = Ok b in x ≡ y) → a ≡ b
given_is a b e = cc

byte_is : (n : ℕ) → n < 256 → to_be_bytes w8 n ≡ n ∷ []
byte_is n lt = ap (λ k. k ∷ []) (omega (arith, lt))

-- a flag's byte
flag_is : (n : ℕ) → n ≤ 1 → n ≡ flag (nat_eq n 1)
flag_is n le = grind (arith, le)

-- ---- the fields after the state slot

abbrev pub back_spelling : Mark → List ℕ
back_spelling m = to_be_bytes w16 m.at.set ++ to_be_bytes w64 m.at.place ++ to_be_bytes w64 m.at.number ++ to_be_bytes w64 m.time.0 ++ flag m.ended ∷ []

record BackTaken (lengths : List ℕ) (number : ℕ) (session : List ℕ) (state_slot : ℕ) (left : Left) (m : Mark) (next : Left) : Type 0 where
  takes : Takes left (back_spelling m) next
  number_is : m.number ≡ number
  session_is : m.session ≡ session
  slot_is : m.state_slot ≡ state_slot
  set : m.at.set < length lengths
  room : m.at.place + 24 ≤ slice_index lengths m.at.set
  at_least : 1 ≤ m.at.number
  timed : 1 ≤ m.time.0
  set_range : m.at.set < 2 ^ 16
  place_range : m.at.place < 2 ^ 64
  next_range : m.at.number < 2 ^ 64
  time_range : m.time.0 < 2 ^ 64

module _ (lengths : List ℕ) (number : ℕ) (session : List ℕ) (state_slot : ℕ) where
  -- the mark of these fields and those
  abbrev made : (set place next time ended : ℕ) → Mark
  made set place next time ended = record {
    number = number;
    session = session;
    state_slot = state_slot;
    at = record { set = set; place = place; number = next };
    time = record { 0 = time };
    ended = nat_eq ended 1;
  }

  -- the end of reading
  abbrev done : Mark → Left → Result (Mark × Left) Bad
  done m left = Ok (m, left)

  back_takes : (left : Left) (m : Mark) (next : Left) → IsBytes left.bytes
      → (number_at w16 (λ n. nat_lt n (length lengths)) left
      >>= (λ set. number_at w64 (has_spot lengths set.0) set.1
      >>= (λ place. number_at w64 (nat_le 1) place.1
      >>= (λ next. number_at w64 (nat_le 1) next.1
      >>= (λ time. number_at w8 (within 0 1) time.1
      >>= (λ ended. done (made set.0 place.0 next.0 time.0 ended.0) ended.1)))))) ≡ Ok (m, next)
      → BackTaken lengths number session state_slot left m next
  back_takes left m next fits e =
      let one = bind_ok (number_at w16 (λ n. nat_lt n (length lengths)) left) _ (m, next) e in
      let set = number_takes w16 (2 ^ 16) wide16 (λ n. nat_lt n (length lengths)) left one.0.0 one.0.1 fits one.1 in
      let two = bind_ok (number_at w64 (has_spot lengths one.0.0) one.0.1) _ (m, next) one.2 in
      let place = number_takes w64 (2 ^ 64) wide64 (has_spot lengths one.0.0) one.0.1 two.0.0 two.0.1 set.takes.rest_bytes two.1 in
      let three = bind_ok (number_at w64 (nat_le 1) two.0.1) _ (m, next) two.2 in
      let spot = number_takes w64 (2 ^ 64) wide64 (nat_le 1) two.0.1 three.0.0 three.0.1 place.takes.rest_bytes three.1 in
      let four = bind_ok (number_at w64 (nat_le 1) three.0.1) _ (m, next) three.2 in
      let time = number_takes w64 (2 ^ 64) wide64 (nat_le 1) three.0.1 four.0.0 four.0.1 spot.takes.rest_bytes four.1 in
      let five = bind_ok (number_at w8 (within 0 1) four.0.1) _ (m, next) four.2 in
      let ended = number_takes w8 (2 ^ 8) wide8 (within 0 1) four.0.1 five.0.0 five.0.1 time.takes.rest_bytes five.1 in
      let low : five.0.0 ≤ 1 = leb-true five.0.0 1 (both_true (nat_le 0 five.0.0) (nat_le five.0.0 1) ended.kept).1 in
      let room = both_true (nat_lt one.0.0 (length lengths)) (nat_le (two.0.0 + 24) (slice_index lengths one.0.0)) place.kept in
      let front2 = Takes-then left (to_be_bytes w16 one.0.0) one.0.1 (to_be_bytes w64 two.0.0) two.0.1 set.takes place.takes in
      let front3 = Takes-then left (to_be_bytes w16 one.0.0 ++ to_be_bytes w64 two.0.0) two.0.1 (to_be_bytes w64 three.0.0) three.0.1 front2 spot.takes in
      let front4 = Takes-then left (to_be_bytes w16 one.0.0 ++ to_be_bytes w64 two.0.0 ++ to_be_bytes w64 three.0.0) three.0.1 (to_be_bytes w64 four.0.0) four.0.1 front3 time.takes in
      let front = to_be_bytes w16 one.0.0 ++ to_be_bytes w64 two.0.0 ++ to_be_bytes w64 three.0.0 ++ to_be_bytes w64 four.0.0 in
      let whole = Takes-then left front four.0.1 (to_be_bytes w8 five.0.0) five.0.1 front4 ended.takes in
      let spelled : front ++ to_be_bytes w8 five.0.0 ≡ front ++ flag (nat_eq five.0.0 1) ∷ [] =
      ap (λ (t : List ℕ). front ++ t) (byte_is five.0.0 ended.fits ∙ ap (λ k. k ∷ []) (flag_is five.0.0 low)) in
      subst (λ (p : Mark × Left). BackTaken lengths number session state_slot left p.0 p.1) (given_is (made one.0.0 two.0.0 three.0.0 four.0.0 five.0.0, five.0.1) (m, next) five.2) (record {
        takes = subst (λ (t : List ℕ). Takes left t five.0.1) spelled whole;
        number_is = refl;
        session_is = refl;
        slot_is = refl;
        set = ltb-true one.0.0 (length lengths) set.kept;
        room = leb-true (two.0.0 + 24) (slice_index lengths one.0.0) room.1;
        at_least = leb-true 1 three.0.0 spot.kept;
        timed = leb-true 1 four.0.0 time.kept;
        set_range = set.fits;
        place_range = place.fits;
        next_range = spot.fits;
        time_range = time.fits;
      })

-- ---- the whole mark

pub record MarkTaken (lengths : List ℕ) (left : Left) (m : Mark) (next : Left) : Type 0 where
  pub takes : Takes left (mark_spelling m) next
  pub is_mark : IsMark lengths m
  pub in_range : IsInRange m

word_is : (bytes : List ℕ) → bytes_eq (codes "XCTL") bytes ≡ true → bytes ≡ codes "XCTL"
word_is bytes e = sym ((bytes_eq-Decides (codes "XCTL") bytes).0 e)

front_then : (w n f : List ℕ) (s : ℕ) (a b c d g : List ℕ) → (w ++ n ++ f ++ s ∷ []) ++ (a ++ b ++ c ++ d ++ g) ≡ w ++ n ++ f ++ s ∷ [] ++ a ++ b ++ c ++ d ++ g
front_then w n f s a b c d g = simp append_assoc refl

pub mark_takes : (lengths : List ℕ) (left : Left) (m : Mark) (next : Left) → IsBytes left.bytes → mark_at lengths left ≡ Ok (m, next) → MarkTaken lengths left m next
unfolding mark_at
mark_takes lengths left m next fits e =
    let one = bind_ok (bytes_at 4 (bytes_eq (codes "XCTL")) left) _ (m, next) e in
    let word = bytes_takes 4 (bytes_eq (codes "XCTL")) left one.0.0 one.0.1 fits one.1 in
    let two = bind_ok (number_at w64 (within 1 (2 ^ 64 - 2)) one.0.1) _ (m, next) one.2 in
    let number = number_takes w64 (2 ^ 64) wide64 (within 1 (2 ^ 64 - 2)) one.0.1 two.0.0 two.0.1 word.0.rest_bytes two.1 in
    let three = bind_ok (bytes_at 8 (is_field 8) two.0.1) _ (m, next) two.2 in
    let session = bytes_takes 8 (is_field 8) two.0.1 three.0.0 three.0.1 number.takes.rest_bytes three.1 in
    let four = bind_ok (number_at w8 (within 0 1) three.0.1) _ (m, next) three.2 in
    let slot = number_takes w8 (2 ^ 8) wide8 (within 0 1) three.0.1 four.0.0 four.0.1 session.0.rest_bytes four.1 in
    let back = back_takes lengths two.0.0 (before_spaces three.0.0) four.0.0 four.0.1 m next slot.takes.rest_bytes four.2 in
    let name = both_true (is_name 8 (before_spaces three.0.0)) _ session.2 in
    let range = both_true (nat_le 1 two.0.0) (nat_le two.0.0 (2 ^ 64 - 2)) number.kept in
    let low : four.0.0 ≤ 1 = leb-true four.0.0 1 (both_true (nat_le 0 four.0.0) (nat_le four.0.0 1) slot.kept).1 in
    let front2 = Takes-then left one.0.0 one.0.1 (to_be_bytes w64 two.0.0) two.0.1 word.0 number.takes in
    let front3 = Takes-then left (one.0.0 ++ to_be_bytes w64 two.0.0) two.0.1 three.0.0 three.0.1 front2 session.0 in
    let front4 = Takes-then left (one.0.0 ++ to_be_bytes w64 two.0.0 ++ three.0.0) three.0.1 (to_be_bytes w8 four.0.0) four.0.1 front3 slot.takes in
    let whole = Takes-then left (one.0.0 ++ to_be_bytes w64 two.0.0 ++ three.0.0 ++ to_be_bytes w8 four.0.0) four.0.1 (back_spelling m) next front4 back.takes in
    let spelled = spelled_is m one.0.0 three.0.0 two.0.0 four.0.0 (word_is one.0.0 word.2) session.1 session.2 slot.fits back.number_is back.session_is back.slot_is in
    record {
      takes = subst (λ (t : List ℕ). Takes left t next) spelled whole;
      is_mark = record {
        number = subst (λ k. 1 ≤ k) (sym back.number_is) (leb-true 1 two.0.0 range.0);
        most = subst (λ k. k ≤ 2 ^ 64 - 2) (sym back.number_is) (leb-true two.0.0 (2 ^ 64 - 2) range.1);
        state_slot = subst (λ k. k ≤ 1) (sym back.slot_is) low;
        set = back.set;
        room = back.room;
        next = back.at_least;
        time = back.timed;
      };
      in_range = record {
        number = subst (λ k. k < 2 ^ 64) (sym back.number_is) number.fits;
        session = subst (λ (n : List ℕ). IsTrue (is_session n)) (sym back.session_is) name.0;
        state_slot = subst (λ k. k < 2 ^ 8) (sym back.slot_is) slot.fits;
        set = back.set_range;
        place = back.place_range;
        next = back.next_range;
        time = back.time_range;
      };
    }
  where
    spelled_is : (m : Mark) (word session : List ℕ) (number slot : ℕ) → word ≡ codes "XCTL" → length session ≡ 8 → is_field 8 session ≡ true → slot < 2 ^ 8 → m.number ≡ number → m.session ≡ before_spaces session → m.state_slot ≡ slot
        → (word ++ to_be_bytes w64 number ++ session ++ to_be_bytes w8 slot) ++ back_spelling m ≡ mark_spelling m
    spelled_is m word session number slot w len valid fits n s k =
        ap (λ (t : List ℕ). (t ++ to_be_bytes w64 number ++ session ++ to_be_bytes w8 slot) ++ back_spelling m) w
        ∙ ap (λ (j : ℕ). (codes "XCTL" ++ to_be_bytes w64 j ++ session ++ to_be_bytes w8 slot) ++ back_spelling m) (sym n)
        ∙ ap (λ (t : List ℕ). (codes "XCTL" ++ to_be_bytes w64 m.number ++ t ++ to_be_bytes w8 slot) ++ back_spelling m) (sym (fields_spelled 8 session len valid) ∙ ap (λ (t : List ℕ). session_field t) (sym s))
        ∙ ap (λ (t : List ℕ). (codes "XCTL" ++ to_be_bytes w64 m.number ++ session_field m.session ++ t) ++ back_spelling m) (byte_is slot fits ∙ ap (λ j. j ∷ []) (sym k))
        ∙ front_then (codes "XCTL") (to_be_bytes w64 m.number) (session_field m.session) m.state_slot (to_be_bytes w16 m.at.set) (to_be_bytes w64 m.at.place) (to_be_bytes w64 m.at.number) (to_be_bytes w64 m.time.0) (flag m.ended ∷ [])

pub marks_spelled : MarksAreSpelled
marks_spelled lengths place bytes m left fits e =
    let taken = mark_takes lengths (record { place = place; bytes = bytes }) m left fits e in
    (taken.is_mark, taken.in_range, taken.takes.parts, taken.takes.place ∙ ap (λ (k : ℕ). place + k) (length_is m taken.in_range))
