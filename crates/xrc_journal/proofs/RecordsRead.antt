-- What is walked over as a group stands spelled behind an open gate; and on which bytes that depends.
use Rattle.std.proofs.Common.{◌≡◌, ◌≢◌, ℕ, ◌+◌, ◌-◌, ◌^◌, ◌<◌, ◌≤◌, Bool, true, false, cond, nat_eq, nat_lt, nat_le, ◌&&◌, List, [], ◌∷◌, ◌++◌, length, take, drop, slice_index, Option, Some, None, Result, Ok, Err, refl, sym, ap, subst, ◌∙◌, append_assoc, arith, length-append, length-take, length-drop, take-append-drop, append-nil, get_or-take}
use Rattle.std.specs.Int.{w8, w16, w32, w64, to_be_bytes}
use Rattle.std.proofs.lemmas.Bool.{leb-true, ltb-true, eqb-true, eq-eqb, ne_eqb}
use Rattle.std.proofs.lemmas.List.{drop-drop, drop_more, drop-take, take-take}
use Rattle.tod_stamp.specs.Fields.{◌>>=◌, IsBytes, Left, Bad, number_at, within}
use Rattle.tod_stamp.proofs.FieldLaws.{at_place, IsBytes-take, IsBytes-drop, bind_ok, Takes, Takes-then, wide8, wide16, wide32, wide64, number_takes}
use Rattle.crash_plant.specs.declared.spot.Spot.{Spot}
use Rattle.xrc_journal.specs.Items.{Item, Form, body_spelling}
use Rattle.xrc_journal.specs.Reading.{Items, items_at}
use Rattle.xrc_journal.specs.Records.{RecordHead, record_header_spelling, most_body, is_body_length, record_head_at, next_set, spot_after, spot_in, stretch, group_or, switch_or, switch_of, record_or, walk_one}
use Rattle.xrc_journal.specs.Records.Found.{End, Group, Switch}
use Rattle.xrc_journal.specs.Laws.{EndsAreShut, GroupsAreSpelled, SwitchesAreSpelled}
use Rattle.xrc_journal.proofs.Fields.{both_true, given_is, one_byte}
use Rattle.xrc_journal.proofs.ItemsRead.{BeginWith, bodies_spelled}
use Rattle.xrc_journal.proofs.RecordsAgain.{opened}
use Rattle.xrc_journal.proofs.Steps.{number_kept}

-- ---- what was found

-- how a group was found at a spot
pub record GroupFound (form : Form) (journal : List ℕ) (at : Spot) (last time : ℕ) (items : List Item) (after : Spot) : Type 0 where
  pub gate : slice_index journal at.place ≡ 1
  pub head : RecordHead
  pub left : Left
  pub header : record_head_at (length journal) at last (at_place (at.place + 1) (stretch (at.place + 1) 21 journal)) ≡ Ok (head, left)
  pub kind : nat_eq head.kind 1 ≡ true
  pub read : items_at form (at.place + 22) (stretch (at.place + 22) head.len journal) ≡ record { good = items; bad = None }
  pub time_is : head.time ≡ time
  pub after_is : spot_after at head.len ≡ after

items_are : (read : Items) (bad : Option ℕ) (at : Spot) (head : RecordHead) (time : ℕ) (items : List Item) (after : Spot) → read.bad ≡ bad → group_or at head read bad ≡ Group time items after
    → (read ≡ record { good = items; bad = None }) × (head.time ≡ time) × (spot_after at head.len ≡ after)
items_are read None at head time items after is e =
    let same : (head.time ≡ time) × (read.good ≡ items) × (spot_after at head.len ≡ after) = (cc, cc, cc) in
    ((λ i. record { good = same.1 i; bad = is i }), same.0, same.2)
items_are read (Some place) at head time items after is e = absurd cc

switch_is_none : (at : Spot) (head : RecordHead) (set : Result (ℕ × Left) Bad) (time : ℕ) (items : List Item) (after : Spot) → switch_or at head set ≡ Group time items after → ⊥
switch_is_none at head (Ok set) time items after e = cc
switch_is_none at head (Err bad) time items after e = cc

module _ (form : Form) (sets : ℕ) (journal : List ℕ) (at : Spot) (last time : ℕ) (items : List Item) (after : Spot) where
  by_kind : (head : RecordHead) (left : Left) (group : Bool) → slice_index journal at.place ≡ 1 → record_head_at (length journal) at last (at_place (at.place + 1) (stretch (at.place + 1) 21 journal)) ≡ Ok (head, left) → nat_eq head.kind 1 ≡ group
      → cond group (group_or at head (items_at form (at.place + 22) (stretch (at.place + 22) head.len journal)) (items_at form (at.place + 22) (stretch (at.place + 22) head.len journal)).bad) (switch_of sets journal at head) ≡ Group time items after
      → GroupFound form journal at last time items after
  by_kind head left true gate header kind e =
      let are = items_are (items_at form (at.place + 22) (stretch (at.place + 22) head.len journal)) _ at head time items after refl e in
      record { gate = gate; head = head; left = left; header = header; kind = kind; read = are.0; time_is = are.1; after_is = are.2 }
  by_kind head left false gate header kind e = absurd (switch_is_none at head _ time items after e)

  by_head : (read : Result (RecordHead × Left) Bad) → slice_index journal at.place ≡ 1 → record_head_at (length journal) at last (at_place (at.place + 1) (stretch (at.place + 1) 21 journal)) ≡ read → record_or form sets journal at read ≡ Group time items after
      → GroupFound form journal at last time items after
  by_head (Ok head) gate header e = by_kind head.0 head.1 (nat_eq head.0.kind 1) gate header refl e
  by_head (Err bad) gate header e = absurd cc

  by_gate : (open-gate : Bool) → nat_eq (slice_index journal at.place) 1 ≡ open-gate
      → cond open-gate (record_or form sets journal at (record_head_at (length journal) at last (at_place (at.place + 1) (stretch (at.place + 1) 21 journal)))) End ≡ Group time items after → GroupFound form journal at last time items after
  by_gate true is e = by_head (record_head_at (length journal) at last (at_place (at.place + 1) (stretch (at.place + 1) 21 journal))) (eqb-true (slice_index journal at.place) 1 is) refl e
  by_gate false is e = absurd cc

  pub group_found : walk_one form sets journal at last ≡ Group time items after → GroupFound form journal at last time items after
  unfolding walk_one
  group_found e = by_gate (nat_eq (slice_index journal at.place) 1) refl e

-- and back
pub found_group : (form : Form) (sets : ℕ) (journal : List ℕ) (at : Spot) (last time : ℕ) (items : List Item) (after : Spot) → GroupFound form journal at last time items after → walk_one form sets journal at last ≡ Group time items after
found_group form sets journal at last time items after f =
    opened form sets journal at last f.head f.left f.gate f.header
    ∙ ap (λ (b : Bool). cond b (group_or at f.head (items_at form (at.place + 22) (stretch (at.place + 22) f.head.len journal)) (items_at form (at.place + 22) (stretch (at.place + 22) f.head.len journal)).bad) (switch_of sets journal at f.head)) f.kind
    ∙ ap (λ (r : Items). group_or at f.head r r.bad) f.read
    ∙ (λ i. Group (f.time_is i) items (f.after_is i))

-- ---- gates that end a walk

found_or : (form : Form) (sets : ℕ) (journal : List ℕ) (at : Spot) (read : Result (RecordHead × Left) Bad) → record_or form sets journal at read ≡ End → ⊥
found_or form sets journal at (Err bad) e = cc
found_or form sets journal at (Ok head) e = by_kind (nat_eq head.0.kind 1) _ _ e
  where
    not_group : (at : Spot) (head : RecordHead) (read : Items) (bad : Option ℕ) → group_or at head read bad ≡ End → ⊥
    not_group at head read None e = cc
    not_group at head read (Some place) e = cc

    not_switch : (at : Spot) (head : RecordHead) (set : Result (ℕ × Left) Bad) → switch_or at head set ≡ End → ⊥
    not_switch at head (Ok set) e = cc
    not_switch at head (Err bad) e = cc

    by_kind : (group : Bool) (read : Items) (set : Result (ℕ × Left) Bad) → cond group (group_or at head.0 read read.bad) (switch_or at head.0 set) ≡ End → ⊥
    by_kind true read set e = not_group at head.0 read read.bad e
    by_kind false read set e = not_switch at head.0 set e

pub end_is_shut : (form : Form) (sets : ℕ) (journal : List ℕ) (at : Spot) (last : ℕ) → walk_one form sets journal at last ≡ End → slice_index journal at.place ≢ 1
unfolding walk_one
end_is_shut form sets journal at last e gate =
    found_or form sets journal at (record_head_at (length journal) at last (at_place (at.place + 1) (stretch (at.place + 1) 21 journal)))
    (ap (λ (b : Bool). cond b (record_or form sets journal at (record_head_at (length journal) at last (at_place (at.place + 1) (stretch (at.place + 1) 21 journal)))) End) (sym (eq-eqb (slice_index journal at.place) 1 gate)) ∙ e)

pub shut_is_end : (form : Form) (sets : ℕ) (journal : List ℕ) (at : Spot) (last : ℕ) → slice_index journal at.place ≢ 1 → walk_one form sets journal at last ≡ End
unfolding walk_one
shut_is_end form sets journal at last shut = rw (ne_eqb (slice_index journal at.place) 1 shut) refl

-- ---- what a header says

-- what was read as a header
pub record HeadTaken (size : ℕ) (at : Spot) (last : ℕ) (left : Left) (head : RecordHead) (next : Left) : Type 0 where
  pub takes : Takes left (record_header_spelling head.kind at.number head.time head.len) next
  pub kind : within 1 2 head.kind ≡ true
  pub number : at.number < 2 ^ 64 - 1
  pub later : last ≤ head.time
  pub stamp : head.time < 2 ^ 64
  pub fits : is_body_length size at head.kind head.len ≡ true

pub head_takes : (size : ℕ) (at : Spot) (last : ℕ) (left : Left) (head : RecordHead) (next : Left) → IsBytes left.bytes → record_head_at size at last left ≡ Ok (head, next) → HeadTaken size at last left head next
unfolding record_head_at
head_takes size at last left head next fits e =
    let expected : ℕ → Bool = λ n. nat_eq n at.number && nat_lt n (2 ^ 64 - 1) in
    let one = bind_ok (number_at w8 (within 1 2) left) (λ k. number_at w64 expected k.1 >>= (λ n. number_at w64 (nat_le last) n.1 >>= (λ t. number_at w32 (is_body_length size at k.0) t.1 >>= (λ l. Ok (record { kind = k.0; time = t.0; len = l.0 }, l.1))))) (head, next) e in
    let kind = number_takes w8 (2 ^ 8) wide8 (within 1 2) left one.0.0 one.0.1 fits one.1 in
    let two = bind_ok (number_at w64 expected one.0.1) (λ n. number_at w64 (nat_le last) n.1 >>= (λ t. number_at w32 (is_body_length size at one.0.0) t.1 >>= (λ l. Ok (record { kind = one.0.0; time = t.0; len = l.0 }, l.1)))) (head, next) one.2 in
    let number = number_takes w64 (2 ^ 64) wide64 expected one.0.1 two.0.0 two.0.1 kind.takes.rest_bytes two.1 in
    let three = bind_ok (number_at w64 (nat_le last) two.0.1) (λ t. number_at w32 (is_body_length size at one.0.0) t.1 >>= (λ l. Ok (record { kind = one.0.0; time = t.0; len = l.0 }, l.1))) (head, next) two.2 in
    let time = number_takes w64 (2 ^ 64) wide64 (nat_le last) two.0.1 three.0.0 three.0.1 number.takes.rest_bytes three.1 in
    let four = bind_ok (number_at w32 (is_body_length size at one.0.0) three.0.1) (λ l. Ok (record { kind = one.0.0; time = three.0.0; len = l.0 }, l.1)) (head, next) three.2 in
    let len = number_takes w32 (2 ^ 32) wide32 (is_body_length size at one.0.0) three.0.1 four.0.0 four.0.1 time.takes.rest_bytes four.1 in
    let is = both_true (nat_eq two.0.0 at.number) (nat_lt two.0.0 (2 ^ 64 - 1)) number.kept in
    let number_is = eqb-true two.0.0 at.number is.0 in
    let tag = subst (λ (t : List ℕ). Takes left t one.0.1) (one_byte one.0.0 kind.fits) kind.takes in
    let front2 = Takes-then left (one.0.0 ∷ []) one.0.1 (to_be_bytes w64 two.0.0) two.0.1 tag number.takes in
    let front3 = Takes-then left (one.0.0 ∷ to_be_bytes w64 two.0.0) two.0.1 (to_be_bytes w64 three.0.0) three.0.1 front2 time.takes in
    let whole = Takes-then left (one.0.0 ∷ to_be_bytes w64 two.0.0 ++ to_be_bytes w64 three.0.0) three.0.1 (to_be_bytes w32 four.0.0) four.0.1 front3 len.takes in
    subst (λ (p : RecordHead × Left). HeadTaken size at last left p.0 p.1) (given_is (record { kind = one.0.0; time = three.0.0; len = four.0.0 }, four.0.1) (head, next) four.2) (record {
      takes = subst (λ (n : ℕ). Takes left (record_header_spelling one.0.0 n three.0.0 four.0.0) four.0.1) number_is whole;
      kind = kind.kept;
      number = omega (arith, number_is, ltb-true two.0.0 (2 ^ 64 - 1) is.1);
      later = leb-true last three.0.0 time.kept;
      stamp = time.fits;
      fits = len.kept;
    })

-- a group's body and the 24 bytes after it lie in the data set
pub group_fits : (size : ℕ) (at : Spot) (head : RecordHead) → nat_eq head.kind 1 ≡ true → is_body_length size at head.kind head.len ≡ true → (head.len ≤ most_body) × (at.place + 22 + head.len + 24 ≤ size)
group_fits size at head kind fits =
    let test = ap (λ (b : Bool). cond b (nat_le head.len most_body && nat_le (at.place + 22 + head.len + 24) size) (nat_eq head.len 2)) (sym kind) ∙ fits in
    let both = both_true (nat_le head.len most_body) (nat_le (at.place + 22 + head.len + 24) size) test in
    (leb-true head.len most_body both.0, leb-true (at.place + 22 + head.len + 24) size both.1)

no_bytes : (bytes : List ℕ) → length bytes ≡ 0 → bytes ≡ []
no_bytes [] len = refl
no_bytes (b ∷ bytes) len = absurd (omega (arith, len))

-- the length of a stretch that lies in the bytes
length-stretch : (from count : ℕ) (bytes : List ℕ) → from + count ≤ length bytes → length (stretch from count bytes) ≡ count
length-stretch from count bytes fits = omega (arith, fits, length-take count (drop from bytes), length-drop from bytes)

split_at : (from count : ℕ) (bytes : List ℕ) → drop from bytes ≡ stretch from count bytes ++ drop (from + count) bytes
split_at from count bytes = sym (take-append-drop count (drop from bytes)) ∙ ap (λ (t : List ℕ). stretch from count bytes ++ t) (drop-drop count from bytes)

-- the gate, the header, the body and the rest from a place on
stands_by : (place len : ℕ) (header body journal : List ℕ) → place < length journal → slice_index journal place ≡ 1 → stretch (place + 1) 21 journal ≡ header → stretch (place + 22) len journal ≡ body
    → drop place journal ≡ 1 ∷ (header ++ body) ++ drop (place + 22 + len) journal
stands_by place len header body journal within gate is_header is_body =
    drop_more journal place 0 within ∙ ap (λ (g : ℕ). g ∷ drop (place + 1) journal) gate
    ∙ ap (λ (t : List ℕ). 1 ∷ t) (split_at (place + 1) 21 journal ∙ ap (λ (t : List ℕ). t ++ drop (place + 1 + 21) journal) is_header ∙ ap (λ (k : ℕ). header ++ drop k journal) regroup
    ∙ ap (λ (t : List ℕ). header ++ t) (split_at (place + 22) len journal ∙ ap (λ (t : List ℕ). t ++ drop (place + 22 + len) journal) is_body)
    ∙ sym (append_assoc header body (drop (place + 22 + len) journal)))
  where
    regroup : place + 1 + 21 ≡ place + 22
    regroup = omega arith

pub groups_spelled : GroupsAreSpelled
groups_spelled form sets journal at after last time items fits e =
    let f = group_found form sets journal at last time items after e in
    let head = head_takes (length journal) at last (at_place (at.place + 1) (stretch (at.place + 1) 21 journal)) f.head f.left (IsBytes-take 21 (drop (at.place + 1) journal) (IsBytes-drop (at.place + 1) journal fits)) f.header in
    let bounds = group_fits (length journal) at f.head f.kind head.fits in
    let header_len = length-stretch (at.place + 1) 21 journal (omega (arith, bounds.1)) in
    let body_len = length-stretch (at.place + 22) f.head.len journal (omega (arith, bounds.1)) in
    let kind_is = eqb-true f.head.kind 1 f.kind in
    let none = no_bytes f.left.bytes (omega (arith, header_len, ap length head.takes.parts, length-append (record_header_spelling f.head.kind at.number f.head.time f.head.len) f.left.bytes)) in
    let header : stretch (at.place + 1) 21 journal ≡ record_header_spelling 1 at.number time f.head.len =
    head.takes.parts ∙ ap (λ (t : List ℕ). record_header_spelling f.head.kind at.number f.head.time f.head.len ++ t) none ∙ append-nil (record_header_spelling f.head.kind at.number f.head.time f.head.len)
    ∙ (λ i. record_header_spelling (kind_is i) at.number (f.time_is i) f.head.len) in
    let body_fits = IsBytes-take f.head.len (drop (at.place + 22) journal) (IsBytes-drop (at.place + 22) journal fits) in
    let read = subst (λ (r : Items). BeginWith form (at.place + 22) (stretch (at.place + 22) f.head.len journal) r) f.read (bodies_spelled form (at.place + 22) (stretch (at.place + 22) f.head.len journal) body_fits) in
    let body : stretch (at.place + 22) f.head.len journal ≡ body_spelling items = read.parts ∙ ap (λ (t : List ℕ). body_spelling items ++ t) (read.all refl) ∙ append-nil (body_spelling items) in
    let len : f.head.len ≡ length (body_spelling items) = sym body_len ∙ ap length body in (
      record {
        keep = read.keep;
        short = omega (arith, len, bounds.0);
        room = omega (arith, len, bounds.1);
        number = head.number;
        later = omega (arith, head.later, f.time_is);
        stamp = omega (arith, head.stamp, f.time_is);
      },
      (drop (at.place + 22 + f.head.len) journal, stands_by at.place f.head.len (record_header_spelling 1 at.number time (length (body_spelling items))) (body_spelling items) journal (omega (arith, bounds.1)) f.gate (header ∙ ap (λ (n : ℕ). record_header_spelling 1 at.number time n) len) body),
      sym f.after_is ∙ ap (λ (n : ℕ). spot_after at n) len,
    )

-- ---- switches

-- how a switch was found at a spot
record SwitchFound (sets : ℕ) (journal : List ℕ) (at : Spot) (last time : ℕ) (after : Spot) : Type 0 where
  gate : slice_index journal at.place ≡ 1
  head : RecordHead
  left : Left
  header : record_head_at (length journal) at last (at_place (at.place + 1) (stretch (at.place + 1) 21 journal)) ≡ Ok (head, left)
  kind : nat_eq head.kind 1 ≡ false
  set : ℕ
  rest : Left
  read : number_at w16 (λ n. nat_eq n (next_set sets at.set)) (at_place (at.place + 22) (stretch (at.place + 22) 2 journal)) ≡ Ok (set, rest)
  time_is : head.time ≡ time
  after_is : spot_in set at ≡ after

switch_is : (at : Spot) (head : RecordHead) (read : Result (ℕ × Left) Bad) (time : ℕ) (after : Spot) → switch_or at head read ≡ Switch time after
    → (set : ℕ × Left) × (read ≡ Ok set) × (head.time ≡ time) × (spot_in set.0 at ≡ after)
switch_is at head (Ok set) time after e = (set, refl, cc, cc)
switch_is at head (Err bad) time after e = absurd cc

group_is_none : (at : Spot) (head : RecordHead) (read : Items) (bad : Option ℕ) (time : ℕ) (after : Spot) → group_or at head read bad ≡ Switch time after → ⊥
group_is_none at head read None time after e = cc
group_is_none at head read (Some place) time after e = cc

module _ (form : Form) (sets : ℕ) (journal : List ℕ) (at : Spot) (last time : ℕ) (after : Spot) where
  by_kind_of : (head : RecordHead) (left : Left) (group : Bool) → slice_index journal at.place ≡ 1 → record_head_at (length journal) at last (at_place (at.place + 1) (stretch (at.place + 1) 21 journal)) ≡ Ok (head, left) → nat_eq head.kind 1 ≡ group
      → cond group (group_or at head (items_at form (at.place + 22) (stretch (at.place + 22) head.len journal)) (items_at form (at.place + 22) (stretch (at.place + 22) head.len journal)).bad) (switch_of sets journal at head) ≡ Switch time after
      → SwitchFound sets journal at last time after
  by_kind_of head left true gate header kind e = absurd (group_is_none at head (items_at form (at.place + 22) (stretch (at.place + 22) head.len journal)) _ time after e)
  by_kind_of head left false gate header kind e =
      let is = switch_is at head (number_at w16 (λ n. nat_eq n (next_set sets at.set)) (at_place (at.place + 22) (stretch (at.place + 22) 2 journal))) time after e in
      record { gate = gate; head = head; left = left; header = header; kind = kind; set = is.0.0; rest = is.0.1; read = is.1; time_is = is.2; after_is = is.3 }

  by_head_of : (read : Result (RecordHead × Left) Bad) → slice_index journal at.place ≡ 1 → record_head_at (length journal) at last (at_place (at.place + 1) (stretch (at.place + 1) 21 journal)) ≡ read → record_or form sets journal at read ≡ Switch time after
      → SwitchFound sets journal at last time after
  by_head_of (Ok head) gate header e = by_kind_of head.0 head.1 (nat_eq head.0.kind 1) gate header refl e
  by_head_of (Err bad) gate header e = absurd cc

  by_gate_of : (open-gate : Bool) → nat_eq (slice_index journal at.place) 1 ≡ open-gate
      → cond open-gate (record_or form sets journal at (record_head_at (length journal) at last (at_place (at.place + 1) (stretch (at.place + 1) 21 journal)))) End ≡ Switch time after → SwitchFound sets journal at last time after
  by_gate_of true is e = by_head_of (record_head_at (length journal) at last (at_place (at.place + 1) (stretch (at.place + 1) 21 journal))) (eqb-true (slice_index journal at.place) 1 is) refl e
  by_gate_of false is e = absurd cc

  switch_found : walk_one form sets journal at last ≡ Switch time after → SwitchFound sets journal at last time after
  unfolding walk_one
  switch_found e = by_gate_of (nat_eq (slice_index journal at.place) 1) refl e

-- a kind that isn't 1 is 2
other_kind : (kind : ℕ) → within 1 2 kind ≡ true → nat_eq kind 1 ≡ false → kind ≡ 2
other_kind kind is not =
    let both = both_true (nat_le 1 kind) (nat_le kind 2) is in
    omega (arith, leb-true 1 kind both.0, leb-true kind 2 both.1, λ (one : kind ≡ 1). true_is_not (sym (eq-eqb kind 1 one) ∙ not))
  where
    true_is_not : true ≡ false → ⊥
    true_is_not e = absurd cc

pub switches_spelled : SwitchesAreSpelled
switches_spelled form sets journal at after last time fits e =
    let f = switch_found form sets journal at last time after e in
    let next = next_set sets at.set in
    let head = head_takes (length journal) at last (at_place (at.place + 1) (stretch (at.place + 1) 21 journal)) f.head f.left (IsBytes-take 21 (drop (at.place + 1) journal) (IsBytes-drop (at.place + 1) journal fits)) f.header in
    let kind_is = other_kind f.head.kind head.kind f.kind in
    let len_is = eqb-true f.head.len 2 (ap (λ (b : Bool). cond b (nat_le f.head.len most_body && nat_le (at.place + 22 + f.head.len + 24) (length journal)) (nat_eq f.head.len 2)) (sym f.kind) ∙ head.fits) in
    let target = number_takes w16 (2 ^ 16) wide16 (λ n. nat_eq n next) (at_place (at.place + 22) (stretch (at.place + 22) 2 journal)) f.set f.rest (IsBytes-take 2 (drop (at.place + 22) journal) (IsBytes-drop (at.place + 22) journal fits)) f.read in
    let set_is = eqb-true f.set next target.kept in
    let target_len = length-append (to_be_bytes w16 f.set) f.rest.bytes in
    let no_more = no_bytes f.rest.bytes (omega (arith, ap length target.takes.parts, target_len, length-take 2 (drop (at.place + 22) journal))) in
    let body : stretch (at.place + 22) 2 journal ≡ to_be_bytes w16 next =
    target.takes.parts ∙ (λ i. to_be_bytes w16 (set_is i) ++ no_more i) ∙ append-nil (to_be_bytes w16 next) in
    let room : at.place + 24 ≤ length journal = omega (arith, ap length body, length-take 2 (drop (at.place + 22) journal), length-drop (at.place + 22) journal) in
    let header_len = length-stretch (at.place + 1) 21 journal (omega (arith, room)) in
    let none = no_bytes f.left.bytes (omega (arith, header_len, ap length head.takes.parts, length-append (record_header_spelling f.head.kind at.number f.head.time f.head.len) f.left.bytes)) in
    let header : stretch (at.place + 1) 21 journal ≡ record_header_spelling 2 at.number time 2 =
    head.takes.parts ∙ ap (λ (t : List ℕ). record_header_spelling f.head.kind at.number f.head.time f.head.len ++ t) none ∙ append-nil (record_header_spelling f.head.kind at.number f.head.time f.head.len)
    ∙ (λ i. record_header_spelling (kind_is i) at.number (f.time_is i) (len_is i)) in (
      record { number = head.number; later = omega (arith, head.later, f.time_is); stamp = omega (arith, head.stamp, f.time_is) },
      (drop (at.place + 22 + 2) journal, stands_by at.place 2 (record_header_spelling 2 at.number time 2) (to_be_bytes w16 next) journal (omega (arith, room)) f.gate header body),
      sym f.after_is ∙ ap (λ (n : ℕ). spot_in n at) set_is,
    )

-- A switch leads to the next data set, whatever else stands there.
pub switch_leads : (form : Form) (sets : ℕ) (journal : List ℕ) (at after : Spot) (last time : ℕ) → walk_one form sets journal at last ≡ Switch time after → after ≡ spot_in (next_set sets at.set) at
switch_leads form sets journal at after last time e =
    let f = switch_found form sets journal at last time after e in
    let kept = number_kept w16 (λ n. nat_eq n (next_set sets at.set)) (at_place (at.place + 22) (stretch (at.place + 22) 2 journal)) f.set f.rest f.read in
    sym f.after_is ∙ ap (λ (n : ℕ). spot_in n at) (eqb-true f.set (next_set sets at.set) kept)

pub ends_shut : EndsAreShut
ends_shut form sets journal at last = (end_is_shut form sets journal at last, shut_is_end form sets journal at last)

-- ---- on which bytes it depends

same_part : (m from count : ℕ) (b c : List ℕ) → from + count ≤ m → take m c ≡ take m b → stretch from count c ≡ stretch from count b
same_part m from count b c le same =
    sym (drop-take from count c) ∙ ap (λ (l : List ℕ). drop from l) (sym (take-take (from + count) m c le) ∙ ap (λ (l : List ℕ). take (from + count) l) same ∙ take-take (from + count) m b le) ∙ drop-take from count b

same_byte : (m place : ℕ) (b c : List ℕ) → place < m → take m c ≡ take m b → slice_index c place ≡ slice_index b place
same_byte m place b c lt same = sym (get_or-take m c place 0 lt) ∙ ap (λ (l : List ℕ). slice_index l place) same ∙ get_or-take m b place 0 lt

-- A group that is found depends on no byte after its body.
pub found_again : (form : Form) (m : ℕ) (b c : List ℕ) (at : Spot) (last time : ℕ) (items : List Item) (after : Spot) → take m c ≡ take m b → length c ≡ length b → after.place ≤ m → GroupFound form b at last time items after → GroupFound form c at last time items after
found_again form m b c at last time items after same size le f =
    let place_is : at.place + 22 + f.head.len ≡ after.place = ap (λ (s : Spot). s.place) f.after_is in
    let byte = same_byte m at.place b c (omega (arith, le, place_is)) same in
    let header = same_part m (at.place + 1) 21 b c (omega (arith, le, place_is)) same in
    let body = same_part m (at.place + 22) f.head.len b c (omega (arith, le, place_is)) same in
    record {
      gate = byte ∙ f.gate;
      head = f.head;
      left = f.left;
      header = (λ i. record_head_at (size i) at last (at_place (at.place + 1) (header i))) ∙ f.header;
      kind = f.kind;
      read = ap (λ (l : List ℕ). items_at form (at.place + 22) l) body ∙ f.read;
      time_is = f.time_is;
      after_is = f.after_is;
    }
