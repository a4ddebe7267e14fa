-- A record that stands spelled behind an open gate is walked over.
use Rattle.std.proofs.Common.{◌≡◌, ℕ, ◌+◌, ◌-◌, ◌^◌, ◌<◌, ◌≤◌, true, nat_eq, nat_lt, nat_le, ◌&&◌, List, [], ◌∷◌, ◌++◌, length, take, drop, slice_index, None, Ok, refl, sym, ap, ◌∙◌, append_assoc, arith, append-nil}
use Rattle.std.specs.Int.{w16, w32, w64, to_be_bytes}
use Rattle.std.proofs.lemmas.Bool.{le-leb, lt-ltb, eq-eqb}
use Rattle.std.proofs.lemmas.List.{take_at, drop-drop, get_or-drop}
use Rattle.tod_stamp.specs.Fields.{Left, number_at, within}
use Rattle.tod_stamp.proofs.FieldLaws.{at_place, wide16, wide32, wide64, number_again}
use Rattle.crash_plant.specs.declared.spot.Spot.{Spot}
use Rattle.xrc_journal.specs.Items.{Form, body_spelling}
use Rattle.xrc_journal.specs.Reading.{Items, items_at}
use Rattle.xrc_journal.specs.Records.{RecordHead, record_header_spelling, gated_record_spelling, most_body, next_set, is_body_length, record_head_at, stretch, group_or, switch_or, record_or, walk_one}
use Rattle.xrc_journal.specs.Laws.{HasRecordAt, GroupsAreWalked, SwitchesAreWalked}
use Rattle.xrc_journal.proofs.Fields.{and_true, byte_again}
use Rattle.xrc_journal.proofs.ItemsAgain.{bodies_again}

abbrev pub head_of : (kind time len : ℕ) → RecordHead
head_of kind time len = record { kind = kind; time = time; len = len }

four_parts : (a b c rest : List ℕ) → (a ++ b ++ c) ++ rest ≡ a ++ (b ++ (c ++ rest))
four_parts a b c rest = simp append_assoc refl

head_again : (size : ℕ) (at : Spot) (last place kind time len : ℕ) → within 1 2 kind ≡ true → at.number < 2 ^ 64 - 1 → last ≤ time → time < 2 ^ 64 → len < 2 ^ 32 → is_body_length size at kind len ≡ true
    → record_head_at size at last (at_place place (kind ∷ (to_be_bytes w64 at.number ++ (to_be_bytes w64 time ++ (to_be_bytes w32 len ++ []))))) ≡ Ok (head_of kind time len, at_place (place + 1 + 8 + 8 + 4) [])
unfolding record_head_at
head_again size at last place kind time len is_kind number later stamp short fits =
    let expected : (nat_eq at.number at.number && nat_lt at.number (2 ^ 64 - 1)) ≡ true = and_true (nat_eq at.number at.number) (nat_lt at.number (2 ^ 64 - 1)) (eq-eqb at.number at.number refl) (lt-ltb at.number (2 ^ 64 - 1) number) in
    let one = byte_again (within 1 2) place kind (to_be_bytes w64 at.number ++ (to_be_bytes w64 time ++ (to_be_bytes w32 len ++ []))) is_kind in
    let two = number_again w64 (2 ^ 64) wide64 (λ n. nat_eq n at.number && nat_lt n (2 ^ 64 - 1)) (place + 1) at.number (to_be_bytes w64 time ++ (to_be_bytes w32 len ++ [])) (omega (arith, number)) expected in
    let three = number_again w64 (2 ^ 64) wide64 (nat_le last) (place + 1 + 8) time (to_be_bytes w32 len ++ []) stamp (le-leb last time later) in
    let four = number_again w32 (2 ^ 32) wide32 (is_body_length size at kind) (place + 1 + 8 + 8) len [] short fits in
    rw (one, two, three, four) refl

-- what stands behind an open gate, part by part
module _ (journal : List ℕ) (place kind number time : ℕ) (body : List ℕ) (stands : HasRecordAt place (gated_record_spelling kind number time body) journal) where
  from : drop place journal ≡ 1 ∷ (record_header_spelling kind number time (length body) ++ body) ++ stands.0
  from = stands.1

  pub gate_is : slice_index journal place ≡ 1
  gate_is = ap (λ (k : ℕ). slice_index journal k) (omega arith) ∙ sym (get_or-drop place journal 0 0) ∙ ap (λ (l : List ℕ). slice_index l 0) from

  pub header_is : stretch (place + 1) 21 journal ≡ record_header_spelling kind number time (length body)
  header_is = ap (λ (l : List ℕ). take 21 l) (sym (drop-drop 1 place journal) ∙ ap (λ (l : List ℕ). drop 1 l) from ∙ append_assoc (record_header_spelling kind number time (length body)) body stands.0)
      ∙ take_at (record_header_spelling kind number time (length body)) (body ++ stands.0) 21 refl

  pub body_is : stretch (place + 22) (length body) journal ≡ body
  body_is = ap (λ (l : List ℕ). take (length body) l) (sym (drop-drop 22 place journal) ∙ ap (λ (l : List ℕ). drop 22 l) from) ∙ take_at body stands.0 (length body) refl

-- a record whose gate is open and whose header is read
pub opened : (form : Form) (sets : ℕ) (journal : List ℕ) (at : Spot) (last : ℕ) (head : RecordHead) (left : Left) → slice_index journal at.place ≡ 1
    → record_head_at (length journal) at last (at_place (at.place + 1) (stretch (at.place + 1) 21 journal)) ≡ Ok (head, left) → walk_one form sets journal at last ≡ record_or form sets journal at (Ok (head, left))
unfolding walk_one
opened form sets journal at last head left gate read = rw (eq-eqb (slice_index journal at.place) 1 gate, read) refl

-- the header of a record that stands at a spot
stood_head : (journal : List ℕ) (at : Spot) (last kind time : ℕ) (body : List ℕ) → HasRecordAt at.place (gated_record_spelling kind at.number time body) journal → within 1 2 kind ≡ true → at.number < 2 ^ 64 - 1 → last ≤ time → time < 2 ^ 64 → length body < 2 ^ 32
    → is_body_length (length journal) at kind (length body) ≡ true
    → record_head_at (length journal) at last (at_place (at.place + 1) (stretch (at.place + 1) 21 journal)) ≡ Ok (head_of kind time (length body), at_place (at.place + 1 + 1 + 8 + 8 + 4) [])
stood_head journal at last kind time body stands is_kind number later stamp short fits =
    ap (λ (l : List ℕ). record_head_at (length journal) at last (at_place (at.place + 1) l))
    (header_is journal at.place kind at.number time body stands ∙ sym (append-nil (record_header_spelling kind at.number time (length body)))
    ∙ ap (λ (l : List ℕ). kind ∷ l) (four_parts (to_be_bytes w64 at.number) (to_be_bytes w64 time) (to_be_bytes w32 (length body)) []))
    ∙ head_again (length journal) at last (at.place + 1) kind time (length body) is_kind number later stamp short fits

pub groups_walked : GroupsAreWalked
groups_walked form sets journal at last time items may stands =
    let body = body_spelling items in
    let fits : is_body_length (length journal) at 1 (length body) ≡ true = and_true (nat_le (length body) most_body) (nat_le (at.place + 22 + length body + 24) (length journal)) (le-leb (length body) most_body may.short) (le-leb (at.place + 22 + length body + 24) (length journal) may.room) in
    let head = stood_head journal at last 1 time body stands refl may.number may.later may.stamp (omega (arith, may.short)) fits in
    let read : items_at form (at.place + 22) (stretch (at.place + 22) (length body) journal) ≡ record { good = items; bad = None } =
    ap (λ (l : List ℕ). items_at form (at.place + 22) l) (body_is journal at.place 1 at.number time body stands) ∙ bodies_again form (at.place + 22) items may.keep in
    opened form sets journal at last (head_of 1 time (length body)) (at_place (at.place + 1 + 1 + 8 + 8 + 4) []) (gate_is journal at.place 1 at.number time body stands) head
    ∙ ap (λ (r : Items). group_or at (head_of 1 time (length body)) r r.bad) read

pub switches_walked : SwitchesAreWalked
switches_walked form sets journal at last time set number later stamp stands =
    let next = next_set sets at.set in
    let body = to_be_bytes w16 next in
    let head = stood_head journal at last 2 time body stands refl number later stamp (omega arith) refl in
    let read = number_again w16 (2 ^ 16) wide16 (λ n. nat_eq n next) (at.place + 22) next [] set (eq-eqb next next refl) in
    opened form sets journal at last (head_of 2 time 2) (at_place (at.place + 1 + 1 + 8 + 8 + 4) []) (gate_is journal at.place 2 at.number time body stands) head
    ∙ ap (λ (l : List ℕ). switch_or at (head_of 2 time 2) (number_at w16 (λ n. nat_eq n next) (at_place (at.place + 22) l))) (body_is journal at.place 2 at.number time body stands ∙ sym (append-nil body))
    ∙ ap (λ r. switch_or at (head_of 2 time 2) r) read
