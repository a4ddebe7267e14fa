-- A site's walk without a bad place as one through the data sets, and the other way round.
use Rattle.std.proofs.Common.{◌≡◌, inl, inr, ℕ, zero, suc, ◌+◌, ◌-◌, ◌^◌, ◌≤◌, ◌<◌, Bool, true, false, cond, nat_eq, nat_lt, nat_le, ◌&&◌, List, [], ◌∷◌, ◌++◌, length, slice_index, Option, Some, None, Result, Ok, Err, refl, sym, ap, subst, ◌∙◌, arith}
use Rattle.std.specs.Int.{w8, w32, w64}
use Rattle.std.specs.List.{flat_map}
use Rattle.std.proofs.lemmas.Bool.{and_parts, eqb-true, ltb-true}
use Rattle.tod_stamp.specs.Fields.{◌>>=◌, Left, Bad, number_at, within}
use Rattle.tod_stamp.proofs.FieldLaws.{at_place, bind_ok}
use Rattle.crash_plant.specs.declared.device.Device.TheVariants.{Journal}
use Rattle.crash_plant.specs.declared.spot.Spot.{Spot}
use Rattle.control_set.proofs.Keeps.{number_kept}
use Rattle.pair_table.specs.declared.row.PairRow.{PairRow}
use Rattle.xrc_journal.specs.Items.{Form, Item}
use Rattle.xrc_journal.specs.Records.{Found, RecordHead, record_head_at, record_or, is_body_length, stretch, walk_one}
use Rattle.xrc_journal.specs.Records.Found.{End, Group, Switch, Damaged}
use Rattle.xrc_journal.specs.Walks.{Logged}
use Rattle.xrc_journal.specs.RingWalks.{LeadsTo, WalkPlace, WalkRecord, WalksThrough, found_there, journal_images, walk_at}
use Rattle.xrc_journal.specs.RingWalks.WalkRecord.{OfGroup, OfSwitch}
use Rattle.site_means.specs.Images.{Images, Shape}
use Rattle.site_means.specs.Walk.{WalkState, WalkStep, Walk, body_place, first_unfit, found_at, group_step, has_entered, rows_through, start, step, step_by, turns_at, unfit_in, walk_from, walk_on, with_before}
use Rattle.site_means.specs.Walk.WalkStep.{Ends, GoesOn, Breaks}
use Rattle.site_means.specs.Laws.{FitRows}
use Rattle.site_means.proofs.Found.{group_ends, switch_leads}
use Rattle.site_means.proofs.Goes.{goes_by, rest_ends, rest_goes, rest_of, rows_append}
use Rattle.site_means.proofs.Reaching.{fits_anywhere, group_number}
use Rattle.site_means.proofs.Taking.{shifted, unfit_shifted}
use Rattle.site_store.specs.Ring.{IsThrough, walk_end, groups_among, walk_with}
use Rattle.site_store.specs.RingLaws.{ThroughsAreWalks, WalksAreThrough}

-- where the site's walk stands, as one through the data sets
abbrev pub place_of : WalkState → WalkPlace
place_of s = walk_at s.entered s.at s.last

-- ---- one record

-- a walk that ends at once has no record there
end_found : (shape : Shape) (s : WalkState) (f : Found) → step_by shape s f ≡ Ends → f ≡ End
end_found shape s End e = refl
end_found shape s (Group time items after) e = absurd (by_unfit (unfit_in shape s items) e)
  where
    by_unfit : (bad : Option ℕ) → group_step s time items after bad ≡ Ends → ⊥
    by_unfit None e = cc
    by_unfit (Some place) e = cc
end_found shape s (Switch time after) e = absurd (by_entered (has_entered after.set s.entered) e)
  where
    by_entered : (entered : Bool) → cond entered (Breaks s.at.place) (GoesOn [] (record { rows = s.rows; entered = s.entered ++ after.set ∷ []; at = after; last = time })) ≡ Ends → ⊥
    by_entered true e = cc
    by_entered false e = cc
end_found shape s (Damaged place items) e = absurd cc

-- where a group fits at some place it fits at the first
fits_first : (volumes place : ℕ) (rows : List PairRow) (items : List Item) → first_unfit volumes place rows items ≡ None → first_unfit volumes 0 rows items ≡ None
fits_first volumes place rows items none =
    let here : place + 0 ≡ place = omega arith in
    by_first (first_unfit volumes 0 rows items) (sym (unfit_shifted volumes place 0 rows items) ∙ ap (λ (n : ℕ). first_unfit volumes n rows items) here ∙ none)
  where
    by_first : (o : Option ℕ) → shifted place o ≡ None → o ≡ None
    by_first None e = refl
    by_first (Some k) e = absurd cc

-- a record that is found has a number below the last
number_below : (size : ℕ) (at : Spot) (last : ℕ) (left : Left) (head : RecordHead) (next : Left) → record_head_at size at last left ≡ Ok (head, next) → at.number < 2 ^ 64 - 1
unfolding record_head_at
number_below size at last left head next e =
    let expected : ℕ → Bool = λ n. nat_eq n at.number && nat_lt n (2 ^ 64 - 1) in
    let one = bind_ok (number_at w8 (within 1 2) left) (λ k. number_at w64 expected k.1 >>= (λ n. number_at w64 (nat_le last) n.1 >>= (λ t. number_at w32 (is_body_length size at k.0) t.1 >>= (λ l. Ok (record { kind = k.0; time = t.0; len = l.0 }, l.1))))) (head, next) e in
    let two = bind_ok (number_at w64 expected one.0.1) (λ n. number_at w64 (nat_le last) n.1 >>= (λ t. number_at w32 (is_body_length size at one.0.0) t.1 >>= (λ l. Ok (record { kind = one.0.0; time = t.0; len = l.0 }, l.1)))) (head, next) one.2 in
    let kept = and_parts (nat_eq two.0.0 at.number) (nat_lt two.0.0 (2 ^ 64 - 1)) (number_kept w64 expected one.0.1 two.0.0 two.0.1 two.1) in
    omega (arith, eqb-true two.0.0 at.number kept.0, ltb-true two.0.0 (2 ^ 64 - 1) kept.1)

module _ (form : Form) (sets : ℕ) (journal : List ℕ) (at : Spot) (last time : ℕ) (after : Spot) where
  abbrev header : Result (RecordHead × Left) Bad
  header = record_head_at (length journal) at last (at_place (at.place + 1) (stretch (at.place + 1) 21 journal))

  by_header : (read : Result (RecordHead × Left) Bad) → header ≡ read → record_or form sets journal at read ≡ Switch time after → at.number < 2 ^ 64 - 1
  by_header (Ok head) is e = number_below (length journal) at last (at_place (at.place + 1) (stretch (at.place + 1) 21 journal)) head.0 head.1 is
  by_header (Err bad) is e = absurd cc

  by_gate : (is_open : Bool) → cond is_open (record_or form sets journal at header) End ≡ Switch time after → at.number < 2 ^ 64 - 1
  by_gate true e = by_header header refl e
  by_gate false e = absurd cc

  switch_number : walk_one form sets journal at last ≡ Switch time after → at.number < 2 ^ 64 - 1
  unfolding walk_one
  switch_number e = by_gate (nat_eq (slice_index journal at.place) 1) e

-- ---- from the site's walk

through : (turns : ℕ) (shape : Shape) (images : Images) (s : WalkState) → s.at.number + turns ≡ 2 ^ 64 → 1 ≤ turns → (walk_from turns shape images s).bad ≡ None → IsThrough shape images s.rows (place_of s) (walk_from turns shape images s)
unfolding walk_from
through zero shape images s number some good = absurd (omega (arith, some))
through (suc turns) shape images s number some good = by_step (step shape images s) refl good (λ n e some good. through turns shape images n e some good)
  where
    by_step : (k : WalkStep) → step shape images s ≡ k → (walk_on s k (λ n. walk_from turns shape images n)).bad ≡ None
        → ((n : WalkState) → n.at.number + turns ≡ 2 ^ 64 → 1 ≤ turns → (walk_from turns shape images n).bad ≡ None → IsThrough shape images n.rows (place_of n) (walk_from turns shape images n))
        → IsThrough shape images s.rows (place_of s) (walk_on s k (λ n. walk_from turns shape images n))
    by_step Ends e good more = record { records = []; walks = record { leads = refl; ends = end_found shape s (found_at shape images s) e }; groups = refl; fits = tt }
    by_step (Breaks place) e good more = absurd cc
    by_step (GoesOn groups n) e good more = elim (goes_by shape images s groups n e) [
      | inl g ↦
          let journal = images (Journal s.at.set) in
          let ends = group_ends shape.form shape.sets journal s.at s.last g.time g.items g.after g.found in
          let below = group_number shape journal s.at s.last g.time g.items g.after g.found in
          let next = g.next_is in
          let w = walk_from turns shape images n in
          let one : Logged = record { time = g.time; items = g.items } in
          let rest = more n (omega (arith, number, ends.number, ap (λ (m : WalkState). m.at.number) next)) (omega (arith, number, below)) good in
          let walks = subst (λ (p : WalkPlace). WalksThrough shape.form shape.sets (journal_images images) p rest.records (walk_end w)) (ap place_of next) rest.walks in
          let fits : FitRows shape.volumes (rows_through g.items s.rows) w.groups = subst (λ (m : WalkState). FitRows shape.volumes m.rows w.groups) next rest.fits in
          subst (λ (l : List Logged). IsThrough shape images s.rows (place_of s) (with_before l w)) (sym g.groups_are) (record {
            records = OfGroup one ∷ rest.records;
            walks = record { leads = (g.after, g.found, walks.leads); ends = walks.ends };
            groups = ap (λ (l : List Logged). one ∷ l) rest.groups;
            fits = (fits_first shape.volumes (body_place s.at) s.rows g.items g.fits, fits);
          })
      | inr k ↦
          let journal = images (Journal s.at.set) in
          let leads = switch_leads shape.form shape.sets journal s.at s.last k.time k.after k.found in
          let below = switch_number shape.form shape.sets journal s.at s.last k.time k.after k.found in
          let next = k.next_is in
          let w = walk_from turns shape images n in
          let rest = more n (omega (arith, number, ap (λ (p : Spot). p.number) leads, ap (λ (m : WalkState). m.at.number) next)) (omega (arith, number, below)) good in
          let walks = subst (λ (p : WalkPlace). WalksThrough shape.form shape.sets (journal_images images) p rest.records (walk_end w)) (ap place_of next) rest.walks in
          let fits : FitRows shape.volumes s.rows w.groups = subst (λ (m : WalkState). FitRows shape.volumes m.rows w.groups) next rest.fits in
          subst (λ (l : List Logged). IsThrough shape images s.rows (place_of s) (with_before l w)) (sym k.groups_are) (record {
            records = OfSwitch k.time ∷ rest.records;
            walks = record { leads = (k.after, k.found, k.unentered, walks.leads); ends = walks.ends };
            groups = rest.groups;
            fits = fits;
          })
    ]

pub walks_through : WalksAreThrough
walks_through shape images m rows lt good = through (turns_at m.at) shape images (start m rows) (omega (arith, lt)) (omega (arith, lt)) good

-- ---- and back

-- the items of groups, in turn
abbrev pub items_of : List Logged → List Item
items_of groups = flat_map (λ (g : Logged). g.items) groups

rest_through : (shape : Shape) (images : Images) (s : WalkState) (records : List WalkRecord) (to : WalkPlace) → s.at.number < 2 ^ 64 → LeadsTo shape.form shape.sets (journal_images images) (place_of s) records to
    → found_there shape.form shape.sets (journal_images images) to ≡ End → FitRows shape.volumes s.rows (groups_among records) → rest_of shape images s ≡ walk_with s.rows records to
rest_through shape images s [] to lt leads ends fits =
    let same = sym leads in
    let found : found_at shape images s ≡ End = ap (λ (p : WalkPlace). found_there shape.form shape.sets (journal_images images) p) same ∙ ends in
    rest_ends shape images s lt (ap (λ (f : Found). step_by shape s f) found)
    ∙ (λ i. let v : Walk = record { groups = []; rows = s.rows; entered = (same i).entered; at = (same i).at; last = (same i).last; bad = None } in v)
rest_through shape images s (OfGroup g ∷ records) to lt leads ends fits =
    let after = leads.0 in
    let n : WalkState = record { rows = rows_through g.items s.rows; entered = s.entered; at = after; last = g.time } in
    let journal = images (Journal s.at.set) in
    let forth = group_ends shape.form shape.sets journal s.at s.last g.time g.items after leads.1 in
    let below = group_number shape journal s.at s.last g.time g.items after leads.1 in
    let goes : step shape images s ≡ GoesOn (g ∷ []) n =
    ap (λ (f : Found). step_by shape s f) leads.1 ∙ ap (λ (k : Option ℕ). group_step s g.time g.items after k) (fits_anywhere shape.volumes (body_place s.at) s.rows g.items fits.0) in
    let more = rest_through shape images n records to (omega (arith, forth.number, below)) leads.2 ends fits.1 in
    rest_goes shape images s n (g ∷ []) lt goes ∙ ap (λ (v : Walk). with_before (g ∷ []) v) more
    ∙ (λ i. let v : Walk = record { groups = g ∷ groups_among records; rows = rows i; entered = to.entered; at = to.at; last = to.last; bad = None } in v)
  where
    rows : rows_through (items_of (groups_among records)) (rows_through g.items s.rows) ≡ rows_through (g.items ++ items_of (groups_among records)) s.rows
    rows = sym (rows_append g.items (items_of (groups_among records)) s.rows)
rest_through shape images s (OfSwitch time ∷ records) to lt leads ends fits =
    let after = leads.0 in
    let n : WalkState = record { rows = s.rows; entered = s.entered ++ after.set ∷ []; at = after; last = time } in
    let journal = images (Journal s.at.set) in
    let forth = switch_leads shape.form shape.sets journal s.at s.last time after leads.1 in
    let below = switch_number shape.form shape.sets journal s.at s.last time after leads.1 in
    let goes : step shape images s ≡ GoesOn [] n = ap (λ (f : Found). step_by shape s f) leads.1 ∙ ap (λ (b : Bool). cond b (Breaks s.at.place) (GoesOn [] n)) leads.2 in
    let more = rest_through shape images n records to (omega (arith, ap (λ (p : Spot). p.number) forth, below)) leads.3 ends fits in
    rest_goes shape images s n [] lt goes ∙ ap (λ (v : Walk). with_before [] v) more

pub throughs_walked : ThroughsAreWalks
throughs_walked shape images m rows records to lt walks fits = rest_through shape images (start m rows) records to lt walks.leads walks.ends fits
