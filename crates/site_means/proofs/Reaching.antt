-- Walks that come from one standing to another, over images that agree up to there.
use Rattle.std.proofs.Common.{◌≡◌, ◌≢◌, ℕ, zero, suc, ◌+◌, ◌-◌, ◌^◌, ◌<◌, Bool, nat_eq, nat_lt, nat_le, ◌&&◌, List, [], ◌∷◌, ◌++◌, length, slice_index, Option, Some, None, Result, Ok, Err, refl, sym, ap, ◌∙◌, arith}
use Rattle.std.specs.Int.{w8, w32, w64}
use Rattle.std.proofs.lemmas.Bool.{and_parts, eqb-true, ltb-true}
use Rattle.tod_stamp.specs.Fields.{◌>>=◌, Left, number_at, within}
use Rattle.tod_stamp.proofs.FieldLaws.{at_place, bind_ok}
use Rattle.crash_plant.specs.declared.device.Device.TheVariants.{Journal}
use Rattle.crash_plant.specs.declared.spot.Spot.{Spot}
use Rattle.control_set.specs.declared.value.Mark.{Mark}
use Rattle.pair_table.specs.declared.row.PairRow.{PairRow}
use Rattle.pair_table.specs.Tables.{with_rows}
use Rattle.state_set.specs.Slots.{Stored, started_table}
use Rattle.xrc_journal.specs.Items.{Item}
use Rattle.xrc_journal.specs.Records.{Found, RecordHead, record_head_at, is_body_length, stretch, walk_one}
use Rattle.xrc_journal.specs.Records.Found.{Group}
use Rattle.xrc_journal.specs.Walks.{Logged}
use Rattle.xrc_journal.proofs.RecordsRead.{group_found, shut_is_end}
use Rattle.site_means.specs.declared.means.Means.{Means}
use Rattle.site_means.specs.Images.{Images, Shape}
use Rattle.site_means.specs.Walk.{WalkState, WalkStep, Walk, ends_at, first_unfit, last_time, rows_through, start, step, step_by, turns_at, walk_from, walk_in, walk_items, walk_on}
use Rattle.site_means.specs.Walk.WalkStep.{Ends}
use Rattle.site_means.specs.Meaning.{chosen_in, meaning_by_mark, meaning_by_state, meaning_by_walk, meaning_in, means_by, stored_in}
use Rattle.site_means.specs.Meaning.Meaning.{Meant}
use Rattle.site_means.specs.Laws.{AgreeOnMark, and_group, with_group}
use Rattle.site_means.proofs.Contents.{items_last}
use Rattle.site_means.proofs.Goes.{rows_append, rows_of_walk}
use Rattle.control_set.proofs.Keeps.{number_kept}
use Rattle.site_means.proofs.Meanings.{by_walk}
use Rattle.site_means.proofs.Taking.{shifted, unfit_shifted}

-- ---- the meaning

-- the mark and the state slot of images that mean something
pub record MeantBy (shape : Shape) (images : Images) (means : Means) (w : Walk) : Type 0 where
  pub mark : Mark
  pub stored : Stored
  pub chosen : chosen_in shape images ≡ Ok (Some mark)
  pub holds : stored_in shape images mark ≡ Ok stored
  pub walk_is : walk_in shape images mark stored.rows ≡ w
  pub good : w.bad ≡ None
  pub means_are : means_by mark stored w ≡ means

meant_same : (a b : Means) (v w : Walk) → Meant a v ≡ Meant b w → (a ≡ b) × (v ≡ w)
meant_same a b v w e = (cc, cc)

module _ (shape : Shape) (images : Images) (means : Means) (w : Walk) where
  by_bad : (m : Mark) (s : Stored) (bad : Option (ℕ × ℕ)) → chosen_in shape images ≡ Ok (Some m) → stored_in shape images m ≡ Ok s → (walk_in shape images m s.rows).bad ≡ bad → meaning_by_walk m s (walk_in shape images m s.rows) bad ≡ Meant means w → MeantBy shape images means w
  by_bad m s None chosen holds good e =
      let same = meant_same (means_by m s (walk_in shape images m s.rows)) means (walk_in shape images m s.rows) w e in
      record {
        mark = m;
        stored = s;
        chosen = chosen;
        holds = holds;
        walk_is = same.1;
        good = ap (λ (k : Walk). k.bad) (sym same.1) ∙ good;
        means_are = ap (λ (k : Walk). means_by m s k) (sym same.1) ∙ same.0;
      }
  by_bad m s (Some bad) chosen holds good e = absurd cc

  by_held : (m : Mark) (r : Result Stored ℕ) → chosen_in shape images ≡ Ok (Some m) → stored_in shape images m ≡ r → meaning_by_state shape images m r ≡ Meant means w → MeantBy shape images means w
  by_held m (Ok s) chosen holds e = by_bad m s (walk_in shape images m s.rows).bad chosen holds refl e
  by_held m (Err place) chosen holds e = absurd cc

  by_mark : (c : Result (Option Mark) ℕ) → chosen_in shape images ≡ c → meaning_by_mark shape images c ≡ Meant means w → MeantBy shape images means w
  by_mark (Ok (Some m)) chosen e = by_held m (stored_in shape images m) chosen refl e
  by_mark (Ok None) chosen e = absurd cc
  by_mark (Err place) chosen e = absurd cc

  pub meant_by : meaning_in shape images ≡ Meant means w → MeantBy shape images means w
  meant_by e = by_mark (chosen_in shape images) refl e

pub ends_here : (left : ℕ) (shape : Shape) (b : Images) (e : WalkState) → step shape b e ≡ Ends → walk_from left shape b e ≡ ends_at e None
unfolding walk_from
ends_here zero shape b e is = refl
ends_here (suc left) shape b e is = ap (λ (k : WalkStep). walk_on e k (λ n. walk_from left shape b n)) is

pub shut_ends : (shape : Shape) (b : Images) (e : WalkState) → slice_index (b (Journal e.at.set)) e.at.place ≢ 1 → step shape b e ≡ Ends
shut_ends shape b e shut = ap (λ (k : Found). step_by shape e k) (shut_is_end shape.form shape.sets (b (Journal e.at.set)) e.at e.last shut)

-- the mark and the state of the second images
pub same_mark : (shape : Shape) (a b : Images) (means : Means) (w : Walk) (by : MeantBy shape a means w) → AgreeOnMark shape a b → (chosen_in shape b ≡ Ok (Some by.mark)) × (stored_in shape b by.mark ≡ Ok by.stored)
same_mark shape a b means w by agree = (agree.chosen ∙ by.chosen, agree.stored by.mark by.chosen ∙ by.holds)

-- ---- a group more

-- a record that is found has a number below the last
number_below : (size : ℕ) (at : Spot) (last : ℕ) (left : Left) (head : RecordHead) (next : Left) → record_head_at size at last left ≡ Ok (head, next) → at.number < 2 ^ 64 - 1
unfolding record_head_at
number_below size at last left head next e =
    let expected : ℕ → Bool = λ n. nat_eq n at.number && nat_lt n (2 ^ 64 - 1) in
    let one = bind_ok (number_at w8 (within 1 2) left) (λ k. number_at w64 expected k.1 >>= (λ n. number_at w64 (nat_le last) n.1 >>= (λ t. number_at w32 (is_body_length size at k.0) t.1 >>= (λ l. Ok (record { kind = k.0; time = t.0; len = l.0 }, l.1))))) (head, next) e in
    let two = bind_ok (number_at w64 expected one.0.1) (λ n. number_at w64 (nat_le last) n.1 >>= (λ t. number_at w32 (is_body_length size at one.0.0) t.1 >>= (λ l. Ok (record { kind = one.0.0; time = t.0; len = l.0 }, l.1)))) (head, next) one.2 in
    let kept = and_parts (nat_eq two.0.0 at.number) (nat_lt two.0.0 (2 ^ 64 - 1)) (number_kept w64 expected one.0.1 two.0.0 two.0.1 two.1) in
    omega (arith, eqb-true two.0.0 at.number kept.0, ltb-true two.0.0 (2 ^ 64 - 1) kept.1)

pub group_number : (shape : Shape) (journal : List ℕ) (at : Spot) (last time : ℕ) (items : List Item) (after : Spot) → walk_one shape.form shape.sets journal at last ≡ Group time items after → at.number < 2 ^ 64 - 1
group_number shape journal at last time items after e =
    let f = group_found shape.form shape.sets journal at last time items after e in
    number_below (length journal) at last (at_place (at.place + 1) (stretch (at.place + 1) 21 journal)) f.head f.left f.header

-- where a group fits at one place it fits at every
pub fits_anywhere : (volumes place : ℕ) (rows : List PairRow) (items : List Item) → first_unfit volumes 0 rows items ≡ None → first_unfit volumes place rows items ≡ None
fits_anywhere volumes place rows items none =
    let here : place ≡ place + 0 = omega arith in
    ap (λ (n : ℕ). first_unfit volumes n rows items) here ∙ unfit_shifted volumes place 0 rows items ∙ ap (shifted place) none

last_is : (mark : ℕ) (groups : List Logged) (g : Logged) → last_time mark (groups ++ g ∷ []) ≡ g.time
last_is mark [] g = refl
last_is mark (h ∷ groups) g = last_is h.time groups g

-- the rows at the end of a walk by which images mean something
pub rows_turn : (shape : Shape) (a : Images) (means : Means) (w : Walk) (by : MeantBy shape a means w) → means.table.rows ≡ rows_through (walk_items w) by.stored.rows
rows_turn shape a means w by = ap (λ (k : Means). k.table.rows) (sym by.means_are)

pub rows_end : (shape : Shape) (a : Images) (means : Means) (w : Walk) (by : MeantBy shape a means w) → w.rows ≡ means.table.rows
rows_end shape a means w by =
    ap (λ (k : Walk). k.rows) (sym by.walk_is) ∙ rows_of_walk (turns_at by.mark.at) shape a (start by.mark by.stored.rows) ∙ ap (λ (k : Walk). rows_through (walk_items k) by.stored.rows) by.walk_is
    ∙ sym (rows_turn shape a means w by)

-- what images mean whose walk has the group at its end
pub added_means : (shape : Shape) (a b : Images) (means : Means) (w : Walk) (g : Logged) (after : Spot) (by : MeantBy shape a means w) → AgreeOnMark shape a b → walk_in shape b by.mark by.stored.rows ≡ and_group g after w
    → meaning_in shape b ≡ Meant (with_group g means) (and_group g after w)
added_means shape a b means w g after by agree whole =
    let m = by.mark in
    let rows = by.stored.rows in
    let mark = same_mark shape a b means w by agree in
    let rows_are : rows_through (walk_items (and_group g after w)) rows ≡ rows_through g.items means.table.rows =
    ap (λ (l : List Item). rows_through l rows) (items_last w.groups g) ∙ rows_append (walk_items w) g.items rows ∙ ap (λ (l : List PairRow). rows_through g.items l) (sym (rows_turn shape a means w by)) in
    let means_are : means_by m by.stored (and_group g after w) ≡ with_group g means =
    (λ i. let k : Means = record { session = m.session; level = by.stored.level; time = record { 0 = last_is m.time.0 w.groups g i }; table = started_table m.session (rows_are i); from = m.at; ended = m.ended } in k)
    ∙ ap (λ (k : Means). let v : Means = record { session = k.session; level = k.level; time = record { 0 = g.time }; table = with_rows k.table (rows_through g.items means.table.rows); from = k.from; ended = k.ended } in v) by.means_are in
    by_walk shape b m by.stored mark.0 mark.1 None (ap (λ (k : Walk). k.bad) whole)
    ∙ ap (λ (k : Walk). Meant (means_by m by.stored k) k) whole ∙ ap (λ (k : Means). Meant k (and_group g after w)) means_are
