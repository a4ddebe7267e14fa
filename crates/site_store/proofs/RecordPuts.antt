-- A record put by its placement: what is shown while it is put, and what is meant once it was put, over plain states.
use Rattle.std.proofs.Common.{◌≡◌, ◌⊎◌, inl, inr, ℕ, List, Result, Ok, Err, sym, subst}
use Rattle.std.specs.Prelude.{OnOk}
use Rattle.crash_plant.specs.declared.device.Device.{Device}
use Rattle.crash_plant.specs.declared.device.Device.TheVariants.{Control, Journal}
use Rattle.crash_plant.specs.declared.spot.Spot.{Spot}
use Rattle.crash_plant.specs.Calls.{WorksOn}
use Rattle.crash_plant.specs.Choices.{Choice}
use Rattle.crash_plant.specs.Moments.{PlantState}
use Rattle.crash_plant.proofs.Steps.{works_on_more, works_on_trans}
use Rattle.xrc_journal.specs.Appending.{AllPutGroup, AllPutSwitch, GroupIsPut, IsOfSwitch, SwitchIsPut}
use Rattle.xrc_journal.specs.Items.{Item}
use Rattle.xrc_journal.specs.Records.{next_set, spot_in}
use Rattle.xrc_journal.specs.Walks.{Logged}
use Rattle.site_means.specs.declared.means.Means.{Means}
use Rattle.site_means.specs.Images.{Shape, shape_of}
use Rattle.site_means.specs.Walk.{Walk}
use Rattle.site_store.specs.RingPlants.{AllMean, AreSetsDurable, and_switch_for}
use Rattle.site_store.specs.Ring.{FitsAfter, ShowsGroup, ShowsSame, ShowsSwitch, and_switch, switched_from}
use Rattle.site_store.proofs.RingPlants.{group_durable, group_meant, group_shown, switch_durable, switch_shown, switched_group_meant, switched_group_shown}
use Rattle.site_store.specs.declared.store_error.StoreError.{StoreError}
use Rattle.site_store.specs.declared.placement.Placement.{Placement}
use Rattle.site_store.specs.declared.placement.Placement.TheVariants.{Here, Switched, Marked}
use Rattle.site_store.specs.Recording.{MeansStill, RecordIsMeant, RecordIsShown, ShowsRecord, walk_after_record}
use Rattle.site_store.specs.Records.{IsJournal}
use Rattle.site_store.specs.Placements.{spot_after_record}
use Rattle.site_store.proofs.Calls.{all_weaker}

-- What is so of an answer gives something else.
pub on_ok : {A B : Type 0} (result : Result (Unit {0}) StoreError) → (A → B) → OnOk result A → OnOk result B
on_ok (Ok value) more a = more a
on_ok (Err error) more a = tt

-- ---- what is shown of one choice

still_or_more : (shape : Shape) (means : Means) (w v : Walk) (g : Logged) (b c : Choice) → ShowsSame shape means w b c ⊎ ShowsGroup shape g means v b c → MeansStill shape means b c ⊎ ShowsGroup shape g means v b c
still_or_more shape means w v g b c (inl still) = inl (record { walk = w; shows = still })
still_or_more shape means w v g b c (inr more) = inr more

still_or_switched : (shape : Shape) (means : Means) (w v : Walk) (g : Logged) (b c : Choice) → ShowsSame shape means w b c ⊎ ShowsSwitch shape g.time means w b c → MeansStill shape means b c ⊎ ShowsGroup shape g means v b c
still_or_switched shape means w v g b c (inl still) = inl (record { walk = w; shows = still })
still_or_switched shape means w v g b c (inr switched) = inl (record { walk = and_switch g.time (switched_from shape.sets w) w; shows = switched })

still_by_placement : (shape : Shape) (means : Means) (w v : Walk) (g : Logged) (b c : Choice) → ShowsSame shape means w b c ⊎ (ShowsSwitch shape g.time means w b c ⊎ ShowsGroup shape g means v b c) → MeansStill shape means b c ⊎ ShowsGroup shape g means v b c
still_by_placement shape means w v g b c (inl still) = inl (record { walk = w; shows = still })
still_by_placement shape means w v g b c (inr step) = still_after step
  where
    still_after : ShowsSwitch shape g.time means w b c ⊎ ShowsGroup shape g means v b c → MeansStill shape means b c ⊎ ShowsGroup shape g means v b c
    still_after (inl switched) = inl (record { walk = and_switch g.time (switched_from shape.sets w) w; shows = switched })
    still_after (inr more) = inr more

-- ---- a group where it fits

-- A call puts a group at a spot.
pub record Grouping (tells : Type 0) (from at : Spot) (g : Logged) (old new : PlantState) : Type 0 where
  pub works : WorksOn tells (λ d. d ≡ Journal at.set) old new
  pub moments : tells → AllPutGroup from at g old new

pub here_shown : (tells : Type 0) (from at : Spot) (g : Logged) (old new : PlantState) → Grouping tells from at g old new → tells → (means : Means) (w : Walk) → means.from ≡ from → w.at ≡ at → AllMean old means w → FitsAfter old.volumes means w g
    → RecordIsShown Here means w g old new
here_shown tells from at g old new puts told means w begins ends all fits =
    let moved : AllPutGroup means.from w.at g old new = subst (λ (f : Spot). AllPutGroup f w.at g old new) (sym begins) (subst (λ (s : Spot). AllPutGroup from s g old new) (sym ends) (puts.moments told)) in
    all_weaker old new _ _ (group_shown old new means w g all fits moved) (λ b c here step. still_or_more (shape_of old) means w w g b c step)

pub here_meant : (tells : Type 0) (from at : Spot) (g : Logged) (old new : PlantState) → Grouping tells from at g old new → GroupIsPut from at g old new → (means : Means) (w : Walk) → means.from ≡ from → w.at ≡ at → AllMean old means w → FitsAfter old.volumes means w g
    → RecordIsMeant Here means w g old new
here_meant tells from at g old new puts put means w begins ends all fits =
    group_meant old new means w g puts.works.site all fits (subst (λ (f : Spot). GroupIsPut f w.at g old new) (sym begins) (subst (λ (s : Spot). GroupIsPut from s g old new) (sym ends) put))

pub here_durable : (tells : Type 0) (from at : Spot) (g : Logged) (old new : PlantState) → Grouping tells from at g old new → tells → GroupIsPut from at g old new → (w : Walk) → w.at ≡ at → AreSetsDurable old w.entered → AreSetsDurable new (walk_after_record old.journals Here g w).entered
here_durable tells from at g old new puts told put w ends all =
    group_durable tells old new from w g told (subst (λ (s : Spot). WorksOn tells (λ d. d ≡ Journal s.set) old new) (sym ends) puts.works) (subst (λ (s : Spot). GroupIsPut from s g old new) (sym ends) put) all

-- A group that was put where it fits is the record.
pub here_shows : (tells : Type 0) (from at : Spot) (g : Logged) (old new : PlantState) (result : Result (Unit {0}) StoreError) → Grouping tells from at g old new → (tells → OnOk result (GroupIsPut from at g old new)) → ShowsRecord tells Here from at g old new result
here_shows tells from at g old new result puts put = record {
  shown = here_shown tells from at g old new puts;
  meant = λ told. on_ok result (here_meant tells from at g old new puts) (put told);
  durable = λ told. on_ok result (here_durable tells from at g old new puts told) (put told);
}

-- ---- a switch, and a group after it

-- A call puts a switch at a spot.
pub record Switching (tells : Type 0) (from at : Spot) (time : ℕ) (old new : PlantState) : Type 0 where
  pub works : WorksOn tells (IsOfSwitch old.journals at) old new
  pub moments : tells → AllPutSwitch from at time old new

-- The switch alone shows the same.
pub switch_shows_same : (tells : Type 0) (from at : Spot) (g : Logged) (old new : PlantState) → Switching tells from at g.time old new → tells → (means : Means) (w : Walk) → means.from ≡ from → w.at ≡ at → AllMean old means w → FitsAfter old.volumes means w g
    → RecordIsShown Switched means w g old new
switch_shows_same tells from at g old new puts told means w begins ends all fits =
    let moved : AllPutSwitch means.from w.at g.time old new = subst (λ (f : Spot). AllPutSwitch f w.at g.time old new) (sym begins) (subst (λ (s : Spot). AllPutSwitch from s g.time old new) (sym ends) (puts.moments told)) in
    all_weaker old new _ _ (switch_shown old new means w g.time all fits.number fits.later moved) (λ b c here step. still_or_switched (shape_of old) means w (and_switch_for old.journals g w) g b c step)

-- Where it wasn't put, no record was.
pub switch_fails : (tells : Type 0) (from at : Spot) (g : Logged) (old new : PlantState) (error : StoreError) → Switching tells from at g.time old new → ShowsRecord tells Switched from at g old new (Err error)
switch_fails tells from at g old new error puts = record {
  shown = switch_shows_same tells from at g old new puts;
  meant = λ told. tt;
  durable = λ told. tt;
}

-- the spot after a switch
abbrev after : (sets : ℕ) → Spot → Spot
after sets at = spot_in (next_set sets at.set) at

module _ (tells : Type 0) (from at : Spot) (g : Logged) (old mid new : PlantState) (one : Switching tells from at g.time old mid) (two : Grouping tells from (after old.journals at) g mid new) where
  both_shown : tells → SwitchIsPut from at g.time old mid → (means : Means) (w : Walk) → means.from ≡ from → w.at ≡ at → AllMean old means w → FitsAfter old.volumes means w g → RecordIsShown Switched means w g old new
  both_shown told switched means w begins ends all fits =
      let switching : AllPutSwitch means.from w.at g.time old mid = subst (λ (f : Spot). AllPutSwitch f w.at g.time old mid) (sym begins) (subst (λ (s : Spot). AllPutSwitch from s g.time old mid) (sym ends) (one.moments told)) in
      let put : SwitchIsPut means.from w.at g.time old mid = subst (λ (f : Spot). SwitchIsPut f w.at g.time old mid) (sym begins) (subst (λ (s : Spot). SwitchIsPut from s g.time old mid) (sym ends) switched) in
      let grouping : AllPutGroup means.from (switched_from old.journals w) g mid new = subst (λ (f : Spot). AllPutGroup f (switched_from old.journals w) g mid new) (sym begins) (subst (λ (s : Spot). AllPutGroup from (after old.journals s) g mid new) (sym ends) (two.moments told)) in
      all_weaker old new _ _ (switched_group_shown old mid new means w g one.works.site ((one.works.elapses told).kept Control).later two.works.site (two.works.elapses told) all fits switching put grouping)
      (λ b c here step. still_by_placement (shape_of old) means w (and_switch_for old.journals g w) g b c step)

  both_meant : SwitchIsPut from at g.time old mid → GroupIsPut from (after old.journals at) g mid new → (means : Means) (w : Walk) → means.from ≡ from → w.at ≡ at → AllMean old means w → FitsAfter old.volumes means w g → RecordIsMeant Switched means w g old new
  both_meant switched grouped means w begins ends all fits =
      let put : SwitchIsPut means.from w.at g.time old mid = subst (λ (f : Spot). SwitchIsPut f w.at g.time old mid) (sym begins) (subst (λ (s : Spot). SwitchIsPut from s g.time old mid) (sym ends) switched) in
      let is_put : GroupIsPut means.from (switched_from old.journals w) g mid new = subst (λ (f : Spot). GroupIsPut f (switched_from old.journals w) g mid new) (sym begins) (subst (λ (s : Spot). GroupIsPut from (after old.journals s) g mid new) (sym ends) grouped) in
      switched_group_meant old mid new means w g one.works.site two.works.site all fits put is_put

  both_durable : tells → SwitchIsPut from at g.time old mid → GroupIsPut from (after old.journals at) g mid new → (w : Walk) → w.at ≡ at → AreSetsDurable old w.entered → AreSetsDurable new (walk_after_record old.journals Switched g w).entered
  both_durable told switched grouped w ends all =
      let first : WorksOn tells (IsOfSwitch old.journals w.at) old mid = subst (λ (s : Spot). WorksOn tells (IsOfSwitch old.journals s) old mid) (sym ends) one.works in
      let put : SwitchIsPut from w.at g.time old mid = subst (λ (s : Spot). SwitchIsPut from s g.time old mid) (sym ends) switched in
      let then : WorksOn tells (λ d. d ≡ Journal (switched_from old.journals w).set) mid new = subst (λ (s : Spot). WorksOn tells (λ d. d ≡ Journal (after old.journals s).set) mid new) (sym ends) two.works in
      let is_put : GroupIsPut from (switched_from old.journals w) g mid new = subst (λ (s : Spot). GroupIsPut from (after old.journals s) g mid new) (sym ends) grouped in
      group_durable tells mid new from (and_switch_for old.journals g w) g told then is_put (switch_durable tells old mid from w g.time told first put all)

  -- A group that was put after a switch is the record.
  pub both_show : (result : Result (Unit {0}) StoreError) → (tells → SwitchIsPut from at g.time old mid) → (tells → OnOk result (GroupIsPut from (after old.journals at) g mid new)) → ShowsRecord tells Switched from at g old new result
  both_show result switched grouped = record {
    shown = λ told. both_shown told (switched told);
    meant = λ told. on_ok result (both_meant (switched told)) (grouped told);
    durable = λ told. on_ok result (both_durable told (switched told)) (grouped told);
  }

-- So it is where calls name the mark's spot and that after the switch otherwise.
pub both_show_there : (tells : Type 0) (from at : Spot) (g : Logged) (old mid new : PlantState) (marked there : Spot) (result : Result (Unit {0}) StoreError) → marked ≡ from → there ≡ after old.journals at → Switching tells from at g.time old mid
    → (tells → SwitchIsPut from at g.time old mid) → Grouping tells marked there g mid new → (tells → OnOk result (GroupIsPut marked there g mid new)) → ShowsRecord tells Switched from at g old new result
both_show_there tells from at g old mid new marked there result is_from is_there one switched two grouped =
    let two_from : Grouping tells from there g mid new = subst (λ (f : Spot). Grouping tells f there g mid new) is_from two in
    let two_here : Grouping tells from (after old.journals at) g mid new = subst (λ (s : Spot). Grouping tells from s g mid new) is_there two_from in
    let put_from : tells → OnOk result (GroupIsPut from there g mid new) = subst (λ (f : Spot). tells → OnOk result (GroupIsPut f there g mid new)) is_from grouped in
    let put_here : tells → OnOk result (GroupIsPut from (after old.journals at) g mid new) = subst (λ (s : Spot). tells → OnOk result (GroupIsPut from s g mid new)) is_there put_from in
    both_show tells from at g old mid new one two_here result switched put_here

-- Where the switch wasn't put, no record was, whatever the error is.
pub switch_fails_as : (tells : Type 0) (from at : Spot) (g : Logged) (old new : PlantState) (error : StoreError) (result : Result (Unit {0}) StoreError) → result ≡ Err error → Switching tells from at g.time old new → ShowsRecord tells Switched from at g old new result
switch_fails_as tells from at g old new error result is puts = subst (λ (r : Result (Unit {0}) StoreError). ShowsRecord tells Switched from at g old new r) (sym is) (switch_fails tells from at g old new error puts)

-- ---- the devices

of_journals : (sets : ℕ) (at : Spot) (d : Device) → IsOfSwitch sets at d → IsJournal d
of_journals sets at d among = elim among [ inl here ↦ subst IsJournal (sym here) tt | inr there ↦ subst IsJournal (sym there) tt ]

pub one_journal : (tells : Type 0) (set : ℕ) (old new : PlantState) → WorksOn tells (λ d. d ≡ Journal set) old new → WorksOn tells IsJournal old new
one_journal tells set old new works = works_on_more tells _ _ _ _ (λ d is. subst IsJournal (sym is) tt) works

pub both_journals : (tells : Type 0) (at : Spot) (set : ℕ) (old mid new : PlantState) → WorksOn tells (IsOfSwitch old.journals at) old mid → WorksOn tells (λ d. d ≡ Journal set) mid new → WorksOn tells IsJournal old new
both_journals tells at set old mid new one two = works_on_trans tells _ _ _ _ (works_on_more tells _ _ _ _ (of_journals old.journals at) one) (one_journal tells set mid new two)

-- ---- by its placement

pub here_by_placement : (tells : Type 0) (placement : Placement) (from at : Spot) (g : Logged) (old new : PlantState) (result : Result (Unit {0}) StoreError) → placement ≡ Here → ShowsRecord tells Here from at g old new result → ShowsRecord tells placement from at g old new result
here_by_placement tells placement from at g old new result is shows = subst (λ (w : Placement). ShowsRecord tells w from at g old new result) (sym is) shows

-- After a mark a record comes as after a switch.
marked_as_switched : (tells : Type 0) (from at : Spot) (g : Logged) (old new : PlantState) (result : Result (Unit {0}) StoreError) → ShowsRecord tells Switched from at g old new result → ShowsRecord tells Marked from at g old new result
marked_as_switched tells from at g old new result shows = record { shown = shows.shown; meant = shows.meant; durable = shows.durable }

pub switched_by_placement : (tells : Type 0) (placement : Placement) (from at : Spot) (g : Logged) (old new : PlantState) (result : Result (Unit {0}) StoreError) → (placement ≡ Switched) ⊎ (placement ≡ Marked) → ShowsRecord tells Switched from at g old new result
    → ShowsRecord tells placement from at g old new result
switched_by_placement tells placement from at g old new result (inl is) shows = subst (λ (w : Placement). ShowsRecord tells w from at g old new result) (sym is) shows
switched_by_placement tells placement from at g old new result (inr is) shows = subst (λ (w : Placement). ShowsRecord tells w from at g old new result) (sym is) (marked_as_switched tells from at g old new result shows)

pub spot_by_placement : (sets : ℕ) (placement : Placement) (items : List Item) (at there : Spot) (result : Result (Unit {0}) StoreError) → (placement ≡ Switched) ⊎ (placement ≡ Marked) → OnOk result (there ≡ spot_after_record sets Switched items at) → OnOk result (there ≡ spot_after_record sets placement items at)
spot_by_placement sets placement items at there result (inl is) comes = subst (λ (w : Placement). OnOk result (there ≡ spot_after_record sets w items at)) (sym is) comes
spot_by_placement sets placement items at there result (inr is) comes = subst (λ (w : Placement). OnOk result (there ≡ spot_after_record sets w items at)) (sym is) comes
