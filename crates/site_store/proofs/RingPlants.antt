-- What is shown at every moment while records are put and marks are made, and meant after them, over plain states.
use Rattle.std.proofs.Common.{◌≡◌, ◌⊎◌, inl, inr, ℕ, zero, suc, ◌≤◌, ◌<◌, List, [], ◌∷◌, ◌++◌, length, sym, ap, subst, ◌∙◌, arith}
use Rattle.std.specs.Prelude.{slice_index_or}
use Rattle.std.specs.List.{Contains}
use Rattle.std.proofs.lemmas.Bool.{cases_eq}
use Rattle.std.proofs.lemmas.List.Elements.{Contains-append_cases}
use Rattle.crash_plant.specs.declared.device.Device.{Device}
use Rattle.crash_plant.specs.declared.device.Device.TheVariants.{Control, Journal}
use Rattle.crash_plant.specs.declared.spot.Spot.{Spot}
use Rattle.crash_plant.specs.Calls.{Elapses, SameSite, WorksOn}
use Rattle.crash_plant.specs.Choices.{AllFollow, Choice}
use Rattle.crash_plant.specs.Moments.{IsDurable, PlantState, Stays, on}
use Rattle.crash_plant.proofs.Choices.{choices_then}
use Rattle.control_set.specs.Slots.{chosen_mark}
use Rattle.xrc_journal.specs.Appending.{AllPutGroup, AllPutSwitch, GroupIsPut, IsOfSwitch, NowFollow, SwitchIsPut}
use Rattle.xrc_journal.specs.Contents.{content_through}
use Rattle.xrc_journal.specs.Items.{Item}
use Rattle.xrc_journal.specs.Records.{next_set}
use Rattle.xrc_journal.specs.RingWalks.{spot_after_logged}
use Rattle.xrc_journal.specs.Walks.{Logged}
use Rattle.xrc_journal.proofs.RingAppends.{journal_is}
use Rattle.site_means.specs.declared.means.Means.{Means}
use Rattle.site_means.specs.Images.{Images, Shape, shape_of}
use Rattle.site_means.specs.Laws.{and_group, with_group}
use Rattle.site_means.specs.Meaning.{chosen_in, meaning_in}
use Rattle.site_means.specs.Sight.{content_in}
use Rattle.site_means.specs.Walk.{Walk, first_unfit}
use Rattle.site_means.proofs.Goes.{shape_same}
use Rattle.site_store.specs.Ring.{FitsAfter, ShowsAfter, ShowsGroup, ShowsSame, ShowsSwitch}
use Rattle.site_store.specs.RingPlants.{AllMean, AllWalksEnd, AreSetsDurable, EndIsDurable, GroupIsDurable, GroupIsMeant, GroupIsShown, IsMeantAfter, MarkIsMeant, MarkIsShown, RoomIsRead, SetsStayDurable, SwitchIsDurable, SwitchIsMeant, SwitchIsShown, SwitchedGroupIsMeant, SwitchedGroupIsShown, and_switch_for}
use Rattle.site_store.proofs.Meant.{end_entered, group_had, group_put, marks_meant, meant_ends, switch_had, switch_put, untouched_shown}

-- ---- where a walk ends

pub all_end : (plant : PlantState) → AllWalksEnd plant
all_end plant means w cut all lt up room = λ c is. meant_ends (shape_of plant) c means w cut (all c is) lt up (room c is)

pub room_read : (plant : PlantState) → RoomIsRead plant
room_read plant w there durable room = λ c is.
    let now = durable (c (Journal w.at.set)) (is (Journal w.at.set) there) in
    omega (arith, room, ap length now)

-- ---- one record

pub group_shown : (old new : PlantState) → GroupIsShown old new
group_shown old new means w g all f puts t since to c is =
    let came = puts t since to c is in
    (came.0, came.1, group_put (shape_of old) came.0 c means w g (all came.0 came.1) f came.2)

pub switch_shown : (old new : PlantState) → SwitchIsShown old new
switch_shown old new means w time all lt late puts t since to c is =
    let came = puts t since to c is in
    (came.0, came.1, switch_put (shape_of old) came.0 c means w time (all came.0 came.1) lt late came.2)

-- the mark of a choice whose control is as before
mark_stays : (old new : PlantState) → SameSite old new → (b c : Choice) → c Control ≡ b Control → chosen_in (shape_of new) c ≡ chosen_in (shape_of old) b
mark_stays old new site b c same = ap (λ (s : Shape). chosen_in s c) (shape_same old new site) ∙ ap (λ (l : List ℕ). chosen_mark (shape_of old).lengths l) same

pub group_meant : (old new : PlantState) → GroupIsMeant old new
group_meant old new means w g site all f put =
    let follow : NowFollow (ShowsGroup (shape_of old) g means w) old new = λ c is.
    let came = put.walk c is in
    (came.0, came.1, group_had (shape_of old) came.0 c means w g (all came.0 came.1) f came.2) in
    record {
      follows = follow;
      meant = λ c is. let came = follow c is in ap (λ (s : Shape). meaning_in s c) (shape_same old new site) ∙ came.2.meant;
      chosen = λ m was c is. let came = put.walk c is in mark_stays old new site came.0 c (came.2.range.others Control (λ e. cc e)) ∙ was came.0 came.1;
    }

pub switch_meant : (old new : PlantState) → SwitchIsMeant old new
switch_meant old new means w time site all lt late put =
    let follow : NowFollow (ShowsSwitch (shape_of old) time means w) old new = λ c is.
    let came = put.walk c is in
    (came.0, came.1, switch_had (shape_of old) came.0 c means w time (all came.0 came.1) lt late came.2) in
    record {
      follows = follow;
      meant = λ c is. let came = follow c is in ap (λ (s : Shape). meaning_in s c) (shape_same old new site) ∙ came.2.meant;
      chosen = λ m was c is. let came = put.walk c is in mark_stays old new site came.0 c (came.2.range.others Control (λ e. cc e) (λ e. cc e)) ∙ was came.0 came.1;
    }

-- ---- durable data sets

-- A device that is left alone stays durable.
durable_stays : (old new : PlantState) (d : Device) → old.clock ≤ new.clock → Stays (on old d) (on new d) → IsDurable (on old d) → IsDurable (on new d)
durable_stays old new d le stays durable c left =
    let from = stays.images new.clock le (omega arith) c left in
    from.2 ∙ durable from.0 from.1 ∙ sym stays.bytes

pub sets_stay : (old new : PlantState) → SetsStayDurable old new
sets_stay old new sets le stay all j has = durable_stays old new (Journal j) le (stay j has) (all j has)

pub group_durable : (tells : Type 0) (old new : PlantState) → GroupIsDurable tells old new
group_durable tells old new from w g told works put all j has = elim (cases_eq j w.at.set) [
  | inl is ↦ subst (λ (n : ℕ). IsDurable (on new (Journal n))) (sym is) put.durable
  | inr other ↦ durable_stays old new (Journal j) ((works.elapses told).kept (Journal j)).later (works.others told (Journal j) (λ e. other (journal_is j w.at.set e))) (all j has)
]

only_among : (n j : ℕ) → Contains (n ∷ []) j → n ≡ j
only_among n j has = by_place has.0 has.1 has.2
  where
    by_place : (k : ℕ) → k < 1 → slice_index_or (n ∷ []) k j ≡ j → n ≡ j
    by_place zero lt is = is
    by_place (suc k) lt is = absurd (omega (arith, lt))

pub end_durable : (plant : PlantState) → EndIsDurable plant
end_durable plant means w rows c meant lt all j has = all j (subst (λ (n : ℕ). Contains w.entered n) (only_among w.at.set j has) (end_entered (shape_of plant) c means w meant lt))

module _ (tells : Type 0) (old new : PlantState) (w : Walk) where
  abbrev next : ℕ
  next = next_set old.journals w.at.set

  not_among : (j : ℕ) → ¬ (j ≡ next) → ¬ (j ≡ w.at.set) → ¬ IsOfSwitch old.journals w.at (Journal j)
  not_among j later other among = elim among [ inl here ↦ other (journal_is j w.at.set here) | inr there ↦ later (journal_is j next there) ]

  before_next : (j : ℕ) → ¬ (j ≡ next) → Contains w.entered j ⊎ Contains (next ∷ []) j → Contains w.entered j
  before_next j later (inl is) = is
  before_next j later (inr last) = absurd (later (sym (only_among next j last)))

  switch_stays : (from : Spot) (time : ℕ) → tells → WorksOn tells (IsOfSwitch old.journals w.at) old new → SwitchIsPut from w.at time old new → AreSetsDurable old w.entered → AreSetsDurable new (w.entered ++ next ∷ [])
  switch_stays from time told works put all j has = elim (cases_eq j next) [
    | inl is ↦ subst (λ (n : ℕ). IsDurable (on new (Journal n))) (sym is) put.closed_durable
    | inr later ↦ elim (cases_eq j w.at.set) [
      | inl is ↦ subst (λ (n : ℕ). IsDurable (on new (Journal n))) (sym is) put.durable
      | inr other ↦ durable_stays old new (Journal j) ((works.elapses told).kept (Journal j)).later (works.others told (Journal j) (not_among j later other)) (all j (before_next j later (Contains-append_cases w.entered (next ∷ []) j has)))
    ]
  ]

pub switch_durable : (tells : Type 0) (old new : PlantState) → SwitchIsDurable tells old new
switch_durable tells old new from w time told works put all = switch_stays tells old new w from time told works put all

-- ---- a switch, and a group after it

-- what is shown of images that have the same content as others
shows_then : (shape : Shape) (items : List Item) (means : Means) (k : Walk) (x y z : Images) → ((d t : ℕ) → content_in shape y d t ≡ content_in shape x d t) → ShowsAfter shape items means k y z → ShowsAfter shape items means k x z
shows_then shape items means k x y z same s = record { meant = s.meant; content = λ d t. s.content d t ∙ ap (content_through d t items) (same d t) }

module _ (old mid : PlantState) (means : Means) (w : Walk) (g : Logged) (one : SameSite old mid) (all : AllMean old means w) (f : FitsAfter old.volumes means w g) (switched : SwitchIsPut means.from w.at g.time old mid) where
  abbrev v : Walk
  v = and_switch_for old.journals g w

  mid_means : IsMeantAfter (ShowsSwitch (shape_of old) g.time means w) means v old mid
  mid_means = switch_meant old mid means w g.time one all f.number f.later switched

  mid_fits : FitsAfter mid.volumes means v g
  mid_fits = record { number = f.number; later = omega arith; fits = ap (λ (n : ℕ). first_unfit n 0 means.table.rows g.items) one.volumes ∙ f.fits }

  -- a step after the switch
  after_switch : (x y z : Choice) → ((d t : ℕ) → content_in (shape_of old) y d t ≡ content_in (shape_of old) x d t) → ShowsSame (shape_of mid) means v y z ⊎ ShowsGroup (shape_of mid) g means v y z
      → ShowsSwitch (shape_of old) g.time means w x z ⊎ ShowsGroup (shape_of old) g means v x z
  after_switch x y z same step = elim (subst (λ (s : Shape). ShowsSame s means v y z ⊎ ShowsGroup s g means v y z) (shape_same old mid one) step) [
    | inl still ↦ inl (shows_then (shape_of old) [] means v x y z same still)
    | inr more ↦ inr (shows_then (shape_of old) g.items (with_group g means) (and_group g (spot_after_logged g v.at) v) x y z same more)
  ]

  same_content : (x y : Choice) → ShowsSame (shape_of old) means w x y ⊎ ShowsSwitch (shape_of old) g.time means w x y → (d t : ℕ) → content_in (shape_of old) y d t ≡ content_in (shape_of old) x d t
  same_content x y (inl s) d t = s.content d t
  same_content x y (inr s) d t = s.content d t

  module _ (new : PlantState) (two : SameSite mid new) where
    abbrev ShowsWay : Choice → Choice → Type 0
    ShowsWay b c = ShowsSame (shape_of old) means w b c ⊎ (ShowsSwitch (shape_of old) g.time means w b c ⊎ ShowsGroup (shape_of old) g means v b c)

    way_first : (x y : Choice) → ShowsSame (shape_of old) means w x y ⊎ ShowsSwitch (shape_of old) g.time means w x y → ShowsWay x y
    way_first x y (inl still) = inl still
    way_first x y (inr switch) = inr (inl switch)

    way_shown : old.clock ≤ mid.clock → Elapses mid new → AllPutSwitch means.from w.at g.time old mid → AllPutGroup means.from v.at g mid new → AllFollow ShowsWay old new
    way_shown le elapses switching grouping =
        choices_then old mid new (λ x y. ShowsSame (shape_of old) means w x y ⊎ ShowsSwitch (shape_of old) g.time means w x y) (λ y z. ShowsSame (shape_of mid) means v y z ⊎ ShowsGroup (shape_of mid) g means v y z) ShowsWay le
        (switch_shown old mid means w g.time all f.number f.later switching)
        two
        elapses
        (group_shown mid new means v g mid_means.meant mid_fits grouping)
        (λ x y here step. way_first x y step)
        (λ x y z here there so_far step. inr (after_switch x y z (same_content x y so_far) step))

    way_meant : GroupIsPut means.from v.at g mid new → IsMeantAfter (ShowsGroup (shape_of old) g means v) (with_group g means) (and_group g (spot_after_logged g v.at) v) old new
    way_meant put =
        let last = group_meant mid new means v g two mid_means.meant mid_fits put in
        let step : (x y z : Choice) → ShowsSwitch (shape_of old) g.time means w x y → ShowsGroup (shape_of mid) g means v y z → ShowsGroup (shape_of old) g means v x z = λ x y z was now.
        shows_then (shape_of old) g.items (with_group g means) (and_group g (spot_after_logged g v.at) v) x y z was.content (subst (λ (s : Shape). ShowsGroup s g means v y z) (shape_same old mid one) now) in
        record {
          follows = λ c is.
              let came = last.follows c is in
              let was = mid_means.follows came.0 came.1 in
              (was.0, was.1, step was.0 came.0 c was.2 came.2);
          meant = last.meant;
          chosen = λ m is. last.chosen m (mid_means.chosen m is);
        }

pub switched_group_shown : (old mid new : PlantState) → SwitchedGroupIsShown old mid new
switched_group_shown old mid new means w g one le two elapses all f switching switched grouping = way_shown old mid means w g one all f switched new two le elapses switching grouping

pub switched_group_meant : (old mid new : PlantState) → SwitchedGroupIsMeant old mid new
switched_group_meant old mid new means w g one two all f switched put = way_meant old mid means w g one all f switched new two put

-- ---- a mark

pub mark_shown : (old new : PlantState) → MarkIsShown old new
mark_shown old new means w m rows all lt follows t since to c is =
    let came = follows t since to c is in (
      came.0,
      came.1,
      elim came.2 [
        | inl un ↦ inl (untouched_shown (shape_of old) came.0 c means w (all came.0 came.1) un)
        | inr marked ↦ inr (marks_meant (shape_of old) came.0 c means w m rows (all came.0 came.1) lt marked)
      ],
    )

pub mark_meant : (old new : PlantState) → MarkIsMeant old new
mark_meant old new means w m rows site all lt follows =
    let shape = shape_same old new site in
    record {
      meant = λ c is. let came = follows c is in ap (λ (s : Shape). meaning_in s c) shape ∙ (marks_meant (shape_of old) came.0 c means w m rows (all came.0 came.1) lt came.2).meant;
      chosen = λ c is. let came = follows c is in ap (λ (s : Shape). chosen_in s c) shape ∙ came.2.chosen;
      content = λ c is d x. let came = follows c is in ap (λ (s : Shape). content_in s c d x) shape ∙ (marks_meant (shape_of old) came.0 c means w m rows (all came.0 came.1) lt came.2).content d x;
    }
