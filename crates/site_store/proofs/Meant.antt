-- What images mean whose walk through the data sets is kept, or has a record more at its end, and what they show.
use Rattle.std.proofs.Common.{◌≡◌, ◌≢◌, inl, inr, ℕ, ◌+◌, ◌^◌, ◌≤◌, ◌<◌, Bool, true, false, cond, nat_eq, List, [], ◌∷◌, ◌++◌, slice_index, Option, Some, None, Result, Ok, refl, sym, ap, subst, ◌∙◌, append-nil, arith}
use Rattle.std.proofs.lemmas.Bool.{cases_lt, eqb-true}
use Rattle.std.proofs.lemmas.List.Elements.{Contains-push}
use Rattle.std.proofs.lemmas.Map.Views.{Contains-from_any}
use Rattle.std.specs.List.{Contains}
use Rattle.ckd_track.specs.declared.rec.Rec.{Rec}
use Rattle.ckd_track.specs.SlotPlaces.{slot_track}
use Rattle.crash_plant.specs.declared.device.Device.TheVariants.{Control, State, Journal, Volume}
use Rattle.crash_plant.specs.declared.spot.Spot.{Spot}
use Rattle.control_set.specs.declared.value.Mark.{Mark}
use Rattle.control_set.specs.Slots.{chosen_mark}
use Rattle.pair_table.specs.declared.row.PairRow.{PairRow}
use Rattle.pair_table.specs.Tables.{Table, with_rows}
use Rattle.state_set.specs.Slots.{Stored, started_table, state_of}
use Rattle.xrc_journal.specs.Contents.{content_by, content_through}
use Rattle.xrc_journal.specs.Items.{Form, Item}
use Rattle.xrc_journal.specs.Walks.{Logged}
use Rattle.xrc_journal.specs.RingWalks.{AddsThrough, EndsThrough, KeepsThrough, LeadsTo, WalkPlace, WalkRecord, journal_images, spot_after_logged, walk_after, walk_start}
use Rattle.xrc_journal.specs.RingWalks.WalkRecord.{OfGroup, OfSwitch}
use Rattle.xrc_journal.proofs.RecordsRead.{end_is_shut}
use Rattle.site_means.specs.declared.means.Means.{Means}
use Rattle.site_means.specs.Images.{Images, Shape}
use Rattle.site_means.specs.Laws.{AgreeOnMark, FitRows, and_group, with_group}
use Rattle.site_means.specs.Meaning.{Meaning, meaning_in, means_by}
use Rattle.site_means.specs.Meaning.Meaning.{Meant}
use Rattle.site_means.specs.Sight.{walked_by}
use Rattle.site_means.specs.Walk.{Walk, ends_at, first_unfit, has_entered, rows_through, start, turns_at, walk_from, walk_in, walk_items}
use Rattle.site_means.proofs.Agreeing.{mark_here, walk_same}
use Rattle.site_means.proofs.Contents.{items_last}
use Rattle.site_means.proofs.Found.{group_ends}
use Rattle.site_means.proofs.Goes.{rows_append}
use Rattle.site_means.proofs.Meanings.{by_walk}
use Rattle.site_means.proofs.Reaching.{MeantBy, added_means, ends_here, meant_by, rows_end, rows_turn, same_mark, shut_ends}
use Rattle.site_store.specs.Ring.{IsThrough, ShowsAfter, and_switch, walk_end, groups_among, switched_from, walk_with}
use Rattle.site_store.specs.RingLaws.{AddedGroupsAreMeant, AddedSwitchesMeanTheSame, EndsAreEntered, GroupsHadAreShown, GroupsPutAreShown, KeptRingsMeanTheSame, MarksAtEndsAreMeant, MeantNumbersAreLow, MeantWalksAreShut, MeantWalksEnd, NextSetsAreFree, OtherSlotsKeepTheMark, SwitchesHadAreShown, SwitchesPutAreShown, UntouchedShowTheSame, fresh_walk, means_from_mark}
use Rattle.site_store.proofs.Walking.{items_of, throughs_walked, walks_through}

-- ---- lists

-- a group at the end of records is their last
groups_last : (records : List WalkRecord) (g : Logged) → groups_among (records ++ OfGroup g ∷ []) ≡ groups_among records ++ g ∷ []
groups_last [] g = refl
groups_last (OfGroup h ∷ records) g = ap (λ (l : List Logged). h ∷ l) (groups_last records g)
groups_last (OfSwitch time ∷ records) g = groups_last records g

-- a switch is none
groups_still : (records : List WalkRecord) (time : ℕ) → groups_among (records ++ OfSwitch time ∷ []) ≡ groups_among records
groups_still [] time = refl
groups_still (OfGroup h ∷ records) time = ap (λ (l : List Logged). h ∷ l) (groups_still records time)
groups_still (OfSwitch t ∷ records) time = groups_still records time

fit_last : (volumes : ℕ) (rows : List PairRow) (groups : List Logged) (g : Logged) → FitRows volumes rows groups → first_unfit volumes 0 (rows_through (items_of groups) rows) g.items ≡ None → FitRows volumes rows (groups ++ g ∷ [])
fit_last volumes rows [] g fits one = (one, tt)
fit_last volumes rows (h ∷ groups) g fits one = (
  fits.0,
  fit_last volumes (rows_through h.items rows) groups g fits.1 (ap (λ (l : List PairRow). first_unfit volumes 0 l g.items) (sym (rows_append h.items (items_of groups) rows)) ∙ one),
)

through_append : (d x : ℕ) (xs ys : List Item) (old : Option (List Rec)) → content_through d x (xs ++ ys) old ≡ content_through d x ys (content_through d x xs old)
through_append d x [] ys old = refl
through_append d x (i ∷ xs) ys old = through_append d x xs ys (content_by d x old i)

-- ---- the walk by which images mean something

-- It is one through the data sets.
pub record MeantThrough (shape : Shape) (images : Images) (means : Means) (w : Walk) (by : MeantBy shape images means w) : Type 0 where
  pub number : by.mark.at.number < 2 ^ 64
  pub from : means.from ≡ by.mark.at
  pub is : IsThrough shape images by.stored.rows (walk_start by.mark.at by.mark.time.0) w
  pub fits : FitRows shape.volumes by.stored.rows (groups_among is.records)
  pub walk_is : w ≡ walk_with by.stored.rows is.records (walk_end w)

meant_through : (shape : Shape) (images : Images) (means : Means) (w : Walk) (by : MeantBy shape images means w) → means.from.number < 2 ^ 64 → MeantThrough shape images means w by
meant_through shape images means w by lt =
    let m = by.mark in
    let rows = by.stored.rows in
    let from : means.from ≡ m.at = ap (λ (k : Means). k.from) (sym by.means_are) in
    let number : m.at.number < 2 ^ 64 = subst (λ (k : Spot). k.number < 2 ^ 64) from lt in
    let is : IsThrough shape images rows (walk_start m.at m.time.0) w =
    subst (λ (k : Walk). IsThrough shape images rows (walk_start m.at m.time.0) k) by.walk_is (walks_through shape images m rows number (ap (λ (k : Walk). k.bad) by.walk_is ∙ by.good)) in
    let fits = subst (λ (l : List Logged). FitRows shape.volumes rows l) is.groups is.fits in
    record { number = number; from = from; is = is; fits = fits; walk_is = sym by.walk_is ∙ throughs_walked shape images m rows is.records (walk_end w) number is.walks fits }

pub meant_ends : MeantWalksEnd
meant_ends shape images means w cut meant lt up room =
    let by = meant_by shape images means w meant in
    let t = meant_through shape images means w by lt in
    subst (λ (k : Spot). EndsThrough shape.form shape.sets k w.at cut (journal_images images)) (sym t.from)
    (record { last = by.mark.time.0; records = t.is.records; entered = w.entered; time = w.last; walks = t.is.walks; up_to = up; room = room })

pub meant_shut : MeantWalksAreShut
meant_shut shape images means w meant lt =
    let t = meant_through shape images means w (meant_by shape images means w meant) lt in
    end_is_shut shape.form shape.sets (images (Journal w.at.set)) w.at w.last t.is.walks.ends

-- A walk from a number that no record has takes no turn.
no_turns : (shape : Shape) (images : Images) (m : Mark) (rows : List PairRow) → 2 ^ 64 ≤ m.at.number → walk_in shape images m rows ≡ ends_at (start m rows) None
unfolding walk_from
no_turns shape images m rows beyond =
    let none : turns_at m.at ≡ 0 = omega arith in
    ap (λ (t : ℕ). walk_from t shape images (start m rows)) none

pub meant_low : MeantNumbersAreLow
meant_low shape images means w meant low =
    let by = meant_by shape images means w meant in
    let from : means.from ≡ by.mark.at = ap (λ (k : Means). k.from) (sym by.means_are) in
    elim (cases_lt means.from.number (2 ^ 64)) [
      | inl lt ↦ lt
      | inr beyond ↦
          let none = no_turns shape images by.mark by.stored.rows (omega (arith, beyond, ap (λ (k : Spot). k.number) from)) in
          absurd (omega (arith, beyond, low, ap (λ (k : Spot). k.number) from, ap (λ (k : Walk). k.at.number) (sym none ∙ by.walk_is)))
    ]

-- The data set where records lead was entered.
lead_entered : (form : Form) (sets : ℕ) (images : ℕ → List ℕ) (from to : WalkPlace) (records : List WalkRecord) → LeadsTo form sets images from records to → Contains from.entered from.at.set → Contains to.entered to.at.set
lead_entered form sets images from to [] leads here = subst (λ (p : WalkPlace). Contains p.entered p.at.set) (sym leads) here
lead_entered form sets images from to (OfGroup g ∷ records) leads here =
    let ends = group_ends form sets (images from.at.set) from.at from.last g.time g.items leads.0 leads.1 in
    lead_entered form sets images (walk_after (OfGroup g) leads.0 from) to records leads.2 (subst (λ (n : ℕ). Contains from.entered n) (sym ends.set) here)
lead_entered form sets images from to (OfSwitch time ∷ records) leads here = lead_entered form sets images (walk_after (OfSwitch time) leads.0 from) to records leads.3 (Contains-push from.entered leads.0.set)

pub end_entered : EndsAreEntered
end_entered shape images means w meant lt =
    let by = meant_by shape images means w meant in
    let t = meant_through shape images means w by lt in
    lead_entered shape.form shape.sets (journal_images images) (walk_start by.mark.at by.mark.time.0) (walk_end w) t.is.records t.is.walks.leads (Contains-push [] by.mark.at.set)

-- ---- the meaning

-- where the mark and the walk are the same
meant_again : (shape : Shape) (a b : Images) (means : Means) (w : Walk) (by : MeantBy shape a means w) → AgreeOnMark shape a b → walk_in shape b by.mark by.stored.rows ≡ w → meaning_in shape b ≡ Meant means w
meant_again shape a b means w by agree walk =
    let mark = same_mark shape a b means w by agree in
    by_walk shape b by.mark by.stored mark.0 mark.1 None (ap (λ (k : Walk). k.bad) walk ∙ by.good)
    ∙ ap (λ (k : Walk). Meant (means_by by.mark by.stored k) k) walk ∙ ap (λ (k : Means). Meant k w) by.means_are

pub kept_same : KeptRingsMeanTheSame
kept_same shape a b means w meant agree lt keeps =
    let by = meant_by shape a means w meant in
    let m = by.mark in
    let rows = by.stored.rows in
    let t = meant_through shape a means w by lt in
    let kept = subst (λ (k : Spot). KeepsThrough shape.form shape.sets k w.at (journal_images a) (journal_images b)) t.from keeps in
    let walk : walk_in shape b m rows ≡ w = throughs_walked shape b m rows t.is.records (walk_end w) t.number (kept m.time.0 w.last t.is.records w.entered t.is.walks) t.fits ∙ sym t.walk_is in
    meant_again shape a b means w by agree walk

pub group_added : AddedGroupsAreMeant
group_added shape a b means w g meant agree f adds =
    let by = meant_by shape a means w meant in
    let m = by.mark in
    let rows = by.stored.rows in
    let after = spot_after_logged g w.at in
    let t = meant_through shape a means w by f.number in
    let records = t.is.records ++ OfGroup g ∷ [] in
    let more = subst (λ (k : Spot). AddsThrough shape.form shape.sets k w.at (OfGroup g) after (journal_images a) (journal_images b)) t.from adds in
    let turn = rows_turn shape a means w by in
    let fit = fit_last shape.volumes rows w.groups g t.is.fits (ap (λ (l : List PairRow). first_unfit shape.volumes 0 l g.items) (sym turn) ∙ f.fits) in
    let groups : groups_among records ≡ w.groups ++ g ∷ [] = groups_last t.is.records g ∙ ap (λ (l : List Logged). l ++ g ∷ []) (sym t.is.groups) in
    let walks = throughs_walked shape b m rows records (walk_after (OfGroup g) after (walk_end w)) t.number (more m.time.0 w.last t.is.records w.entered t.is.walks f.later) (subst (λ (l : List Logged). FitRows shape.volumes rows l) (sym groups) fit) in
    let rows_are : rows_through (items_of (groups_among records)) rows ≡ rows_through g.items w.rows =
    ap (λ (l : List Logged). rows_through (items_of l) rows) groups ∙ ap (λ (l : List Item). rows_through l rows) (items_last w.groups g) ∙ rows_append (walk_items w) g.items rows
    ∙ ap (λ (l : List PairRow). rows_through g.items l) (sym turn ∙ sym (rows_end shape a means w by)) in
    let walk : walk_in shape b m rows ≡ and_group g after w = walks ∙ (λ i. let v : Walk = record { groups = groups i; rows = rows_are i; entered = w.entered; at = after; last = g.time; bad = None } in v) in
    added_means shape a b means w g after by agree walk

pub switch_added : AddedSwitchesMeanTheSame
switch_added shape a b means w time meant agree lt late adds =
    let by = meant_by shape a means w meant in
    let m = by.mark in
    let rows = by.stored.rows in
    let after = switched_from shape.sets w in
    let t = meant_through shape a means w by lt in
    let records = t.is.records ++ OfSwitch time ∷ [] in
    let more = subst (λ (k : Spot). AddsThrough shape.form shape.sets k w.at (OfSwitch time) after (journal_images a) (journal_images b)) t.from adds in
    let still = groups_still t.is.records time in
    let groups : groups_among records ≡ w.groups = still ∙ sym t.is.groups in
    let walks = throughs_walked shape b m rows records (walk_after (OfSwitch time) after (walk_end w)) t.number (more m.time.0 w.last t.is.records w.entered t.is.walks late) (subst (λ (l : List Logged). FitRows shape.volumes rows l) (sym still) t.fits) in
    let rows_are : rows_through (items_of (groups_among records)) rows ≡ w.rows = ap (λ (l : List Logged). rows_through (items_of l) rows) groups ∙ sym (rows_turn shape a means w by) ∙ sym (rows_end shape a means w by) in
    let walk : walk_in shape b m rows ≡ and_switch time after w =
    walks ∙ (λ i. let v : Walk = record { groups = groups i; rows = rows_are i; entered = w.entered ++ after.set ∷ []; at = after; last = time; bad = None } in v) in
    let mark = same_mark shape a b means w by agree in
    by_walk shape b m by.stored mark.0 mark.1 None (ap (λ (k : Walk). k.bad) walk)
    ∙ ap (λ (k : Walk). Meant (means_by m by.stored k) k) walk ∙ ap (λ (k : Means). Meant k (and_switch time after w)) by.means_are

-- ---- what is shown

-- Images with the same control and state have the same mark.
agree_on_mark : (shape : Shape) (b c : Images) → c Control ≡ b Control → c State ≡ b State → AgreeOnMark shape b c
agree_on_mark shape b c control state = record {
  chosen = ap (λ (l : List ℕ). chosen_mark shape.lengths l) control;
  stored = λ m is. ap (λ (l : List ℕ). state_of shape.volumes m.session m.state_slot l) state;
}

shows : (shape : Shape) (a b : Images) (was means : Means) (w v : Walk) (items : List Item) → meaning_in shape a ≡ Meant was w → meaning_in shape b ≡ Meant means v → walk_items v ≡ walk_items w ++ items → ((d : ℕ) → b (Volume d) ≡ a (Volume d))
    → ShowsAfter shape items means v a b
shows shape a b was means w v items before now more same = record {
  meant = now;
  content = λ d x. let slot = slot_track (a (Volume d)) x in
      (let vol = same d in λ i. content_through d x (walked_by (now i)) (slot_track (vol i) x))
      ∙ ap (λ (l : List Item). content_through d x l slot) more
      ∙ through_append d x (walk_items w) items slot
      ∙ ap (λ (k : Meaning). content_through d x items (content_through d x (walked_by k) slot)) (sym before);
}

-- nothing more
shows_still : (shape : Shape) (a b : Images) (means : Means) (w v : Walk) → meaning_in shape a ≡ Meant means w → meaning_in shape b ≡ Meant means v → walk_items v ≡ walk_items w → ((d : ℕ) → b (Volume d) ≡ a (Volume d)) → ShowsAfter shape [] means v a b
shows_still shape a b means w v before now same volumes = shows shape a b means means w v [] before now (same ∙ sym (append-nil (walk_items w))) volumes

-- a data set that was entered is among those
entered_among : (j : ℕ) (entered : List ℕ) → has_entered j entered ≡ true → Contains entered j
entered_among j entered is = Contains-from_any {eq = λ x y. nat_eq y x} (λ x y e. sym (eqb-true y x e)) j entered is

pub untouched_shown : UntouchedShowTheSame
untouched_shown shape a b means w meant un =
    let by = meant_by shape a means w meant in
    let m = by.mark in
    let rows = by.stored.rows in
    let same : (j : ℕ) → has_entered j (walk_in shape a m rows).entered ≡ true → b (Journal j) ≡ a (Journal j) = λ j is.
    un.journals j (entered_among j w.entered (ap (λ (k : Walk). has_entered j k.entered) (sym by.walk_is) ∙ is)) in
    let walk : walk_in shape b m rows ≡ w = walk_same (turns_at m.at) shape a b (start m rows) (mark_here m rows) same ∙ by.walk_is in
    shows_still shape a b means w w meant (meant_again shape a b means w by un.mark walk) refl un.volumes

pub group_put : GroupsPutAreShown
group_put shape a b means w g meant f puts =
    let others = puts.range.others in
    let agree = agree_on_mark shape a b (others Control (λ e. cc e)) (others State (λ e. cc e)) in
    let volumes : (d : ℕ) → b (Volume d) ≡ a (Volume d) = λ d. others (Volume d) (λ e. cc e) in
    elim puts.walk [
      | inl keeps ↦ inl (shows_still shape a b means w w meant (kept_same shape a b means w meant agree f.number keeps) refl volumes)
      | inr adds ↦ inr (shows shape a b means (with_group g means) w (and_group g (spot_after_logged g w.at) w) g.items meant (group_added shape a b means w g meant agree f adds) (items_last w.groups g) volumes)
    ]

pub group_had : GroupsHadAreShown
group_had shape a b means w g meant f has =
    let others = has.range.others in
    let agree = agree_on_mark shape a b (others Control (λ e. cc e)) (others State (λ e. cc e)) in
    shows shape a b means (with_group g means) w (and_group g (spot_after_logged g w.at) w) g.items meant (group_added shape a b means w g meant agree f has.walk) (items_last w.groups g) (λ d. others (Volume d) (λ e. cc e))

pub switch_put : SwitchesPutAreShown
switch_put shape a b means w time meant lt late puts =
    let others = puts.range.others in
    let agree = agree_on_mark shape a b (others Control (λ e. cc e) (λ e. cc e)) (others State (λ e. cc e) (λ e. cc e)) in
    let volumes : (d : ℕ) → b (Volume d) ≡ a (Volume d) = λ d. others (Volume d) (λ e. cc e) (λ e. cc e) in
    elim puts.walk [
      | inl keeps ↦ inl (shows_still shape a b means w w meant (kept_same shape a b means w meant agree lt keeps) refl volumes)
      | inr adds ↦ inr (shows_still shape a b means w (and_switch time (switched_from shape.sets w) w) meant (switch_added shape a b means w time meant agree lt late adds) refl volumes)
    ]

pub switch_had : SwitchesHadAreShown
switch_had shape a b means w time meant lt late has =
    let others = has.range.others in
    let agree = agree_on_mark shape a b (others Control (λ e. cc e) (λ e. cc e)) (others State (λ e. cc e) (λ e. cc e)) in
    shows_still shape a b means w (and_switch time (switched_from shape.sets w) w) meant (switch_added shape a b means w time meant agree lt late has.walk) refl (λ d. others (Volume d) (λ e. cc e) (λ e. cc e))

-- ---- marks

mark_is : (m n : Mark) → (let x : Result (Option Mark) ℕ = Ok (Some m) in x ≡ Ok (Some n)) → m ≡ n
mark_is m n e = cc

pub mark_kept : OtherSlotsKeepTheMark
mark_kept shape a b m slot chosen same low other state = record {
  chosen = same;
  stored = λ n is. let this : n ≡ m = mark_is n m (sym is ∙ chosen) in
      state n.session n.state_slot (omega (arith, low, ap (λ (k : Mark). k.state_slot) this)) (λ e. other (sym (ap (λ (k : Mark). k.state_slot) this) ∙ e));
}

pub marks_meant : MarksAtEndsAreMeant
marks_meant shape a b means w m rows meant lt marked =
    let by = meant_by shape a means w meant in
    let s : Stored = record { level = means.level; rows = rows } in
    let shut : slice_index (b (Journal w.at.set)) w.at.place ≢ 1 = subst (λ (l : List ℕ). slice_index l w.at.place ≢ 1) (sym marked.same) (meant_shut shape a means w meant lt) in
    let end = shut_ends shape b (start m rows) (subst (λ (k : Spot). slice_index (b (Journal k.set)) k.place ≢ 1) (sym marked.at) shut) in
    let walk : walk_in shape b m rows ≡ ends_at (start m rows) None = ends_here (turns_at m.at) shape b (start m rows) end in
    let table_is : started_table means.session means.table.rows ≡ means.table = subst (λ (k : Means). started_table k.session k.table.rows ≡ k.table) by.means_are refl in
    let table : started_table m.session rows ≡ with_rows means.table rows = ap (λ (l : List ℕ). started_table l rows) marked.session ∙ ap (λ (k : Table). with_rows k rows) table_is in
    let meant_now : meaning_in shape b ≡ Meant (means_from_mark w m rows means) (fresh_walk w rows means) =
    by_walk shape b m s marked.chosen marked.stored None (ap (λ (k : Walk). k.bad) walk)
    ∙ ap (λ (k : Walk). Meant (means_by m s k) k) walk
    ∙ (let session = marked.session in
    let time = marked.time in
    let at = marked.at in
    λ i. Meant (record { session = session i; level = means.level; time = time i; table = table i; from = at i; ended = m.ended }) (record { groups = []; rows = rows; entered = (at i).set ∷ []; at = at i; last = (time i).0; bad = None })) in
    record {
      meant = meant_now;
      content = λ d x. ap (λ (k : Meaning). content_through d x (walked_by k) (slot_track (b (Volume d)) x)) meant_now;
    }

pub next_free : NextSetsAreFree
next_free sets w m rows means there two = by_last (nat_eq (w.at.set + 1) sets) refl
  where
    by_last : (last : Bool) → nat_eq (w.at.set + 1) sets ≡ last → cond last 0 (w.at.set + 1) ≢ w.at.set
    by_last true is = λ e. omega (arith, eqb-true (w.at.set + 1) sets is, two, e)
    by_last false is = λ e. omega (arith, e)
