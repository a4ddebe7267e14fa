-- The site stands after a group's record, over plain states.
use Rattle.std.proofs.Common.{◌≡◌, ◌⊎◌, inl, inr, ℕ, ◌<◌, ◌++◌, Bool, false, true, List, [], append-nil, refl, sym, ap, subst, ◌∙◌}
use Rattle.crash_plant.specs.declared.device.Device.TheVariants.{Control, State, Volume}
use Rattle.crash_plant.specs.Calls.{WorksOn}
use Rattle.crash_plant.specs.Moments.{PlantState}
use Rattle.control_set.specs.declared.value.Mark.{Mark}
use Rattle.site_store.specs.RingPlants.{AllChoose, AreSetsDurable}
use Rattle.site_store.specs.Exceptions.{Exceptions}
use Rattle.site_means.specs.declared.means.Means.{Means}
use Rattle.site_means.specs.Laws.{with_group}
use Rattle.site_means.specs.Meaning.Meaning.{Meant}
use Rattle.site_means.specs.Walk.{Walk, walk_items}
use Rattle.site_means.proofs.Contents.{items_last}
use Rattle.xrc_journal.specs.Contents.{HasItem}
use Rattle.xrc_journal.specs.Items.{Item}
use Rattle.xrc_journal.specs.Walks.{Logged}
use Rattle.site_store.specs.declared.placement.Placement.{Placement}
use Rattle.site_store.specs.declared.placement.Placement.TheVariants.{Here, Switched, Marked}
use Rattle.site_store.specs.Recording.{RecordIsMeant, walk_after_record, walk_by}
use Rattle.site_store.specs.Records.{IsJournal}
use Rattle.site_store.specs.Sites.{SiteState, has_failed, is_written, meant_for}
use Rattle.site_store.specs.Standing.{AreApplied, SiteStands}
use Rattle.site_store.proofs.Calls.{durable_still}

-- A record's placement leaves the items of the walk.
same_items : (sets : ℕ) (placement : Placement) (g : Logged) (w : Walk) → walk_items (walk_by sets placement g w) ≡ walk_items w
same_items sets Here g w = refl
same_items sets Switched g w = refl
same_items sets Marked g w = refl

-- The site after the record of a group: it means the group more, the group's items wait, and each job that fails meanwhile is told.
pub record IsAfterGroup (sets : ℕ) (placement : Placement) (g : Logged) (w : Walk) (site next : SiteState) : Type 0 where
  pub meant_is : with_group g (meant_for site) ≡ meant_for next
  pub mark_is : next.mark ≡ site.mark
  pub at_is : (walk_after_record sets placement g w).at ≡ next.at
  pub time_is : g.time ≡ next.time
  pub waiting_is : next.waiting ≡ g.items
  pub failed : (d : ℕ) → has_failed next d ≡ false → has_failed site d ≡ false
  pub written : (d : ℕ) → is_written next d ≡ is_written site d

module _ (tells : Type 0) (told : tells) (e : Exceptions) (site next : SiteState) (old new : PlantState) (placement : Placement) (g : Logged) (stands : SiteStands e site old) (idle : site.waiting ≡ []) (works : WorksOn tells IsJournal old new)
    (is : IsAfterGroup old.journals placement g stands.walk site next) where
  abbrev w : Walk
  w = stands.walk

  abbrev after : Walk
  after = walk_after_record old.journals placement g w

  done_all : stands.done ≡ walk_items w
  done_all = sym (append-nil stands.done) ∙ sym (ap (λ (l : List Item). stands.done ++ l) idle) ∙ sym stands.items

  same_bytes : (d : ℕ) → new.bytes (Volume d) ≡ old.bytes (Volume d)
  same_bytes d = (works.others told (Volume d) (λ journal. journal)).bytes

  still_failed : (d : ℕ) → has_failed site d ≡ true → has_failed next d ≡ true
  still_failed d was = by_flag (has_failed next d) refl
    where
      by_flag : (flag : Bool) → has_failed next d ≡ flag → has_failed next d ≡ true
      by_flag true now = now
      by_flag false now = let not = is.failed d now in cc

  applied_still : (d : ℕ) → d < new.volumes → has_failed next d ≡ false → AreApplied (e d) stands.done d (new.bytes (Volume d))
  applied_still d lt good = subst (λ (l : List ℕ). AreApplied (e d) stands.done d l) (sym (same_bytes d)) (stands.applied d (subst (λ (n : ℕ). d < n) works.site.volumes lt) (is.failed d good))

  unwritten_still : (d : ℕ) → d < new.volumes → is_written next d ≡ false → (x : ℕ) → HasItem d x stands.done → (has_failed next d ≡ true) ⊎ (e d x ≡ true)
  unwritten_still d lt not x has = elim (stands.unwritten d (subst (λ (n : ℕ). d < n) works.site.volumes lt) (sym (is.written d) ∙ not) x has) [
    | inl failed ↦ inl (still_failed d failed)
    | inr excepted ↦ inr excepted
  ]

  -- Once the record was put, the site stands after it.
  pub group_stands : RecordIsMeant placement (meant_for site) w g old new → AreSetsDurable new after.entered → SiteStands e next new
  group_stands record_is durable = record {
    walk = after;
    meant = λ c left. record_is.meant c left ∙ ap (λ (m : Means). Meant m after) is.meant_is;
    chosen = subst (λ (m : Mark). AllChoose new m) (sym is.mark_is) (record_is.chosen site.mark stands.chosen);
    at = is.at_is;
    last = is.time_is;
    control = durable_still tells told IsJournal old new Control works (λ journal. journal) stands.control;
    state = durable_still tells told IsJournal old new State works (λ journal. journal) stands.state;
    journals = durable;
    done = stands.done;
    items = items_last (walk_by old.journals placement g w).groups g ∙ ap (λ (l : List Item). l ++ g.items) (same_items old.journals placement g w ∙ sym done_all) ∙ ap (λ (l : List Item). stands.done ++ l) (sym is.waiting_is);
    applied = applied_still;
    unwritten = unwritten_still;
  }

-- A site that stands with some exceptions stands with more.
pub stands_more : (e f : Exceptions) (site : SiteState) (plant : PlantState) → ((d x : ℕ) → e d x ≡ false → f d x ≡ false) → SiteStands f site plant → SiteStands e site plant
stands_more e f site plant fewer stands = record {
  walk = stands.walk;
  meant = stands.meant;
  chosen = stands.chosen;
  at = stands.at;
  last = stands.last;
  control = stands.control;
  state = stands.state;
  journals = stands.journals;
  done = stands.done;
  items = stands.items;
  applied = λ d lt good x kept. stands.applied d lt good x (fewer d x kept);
  unwritten = λ d lt not x has. by_case d x (stands.unwritten d lt not x has);
}
  where
    by_flag : (d x : ℕ) (b : Bool) → e d x ≡ b → f d x ≡ true → (has_failed site d ≡ true) ⊎ (e d x ≡ true)
    by_flag d x true is excepted = inr is
    by_flag d x false is excepted = let none = fewer d x is in absurd (cc (none, excepted))

    by_case : (d x : ℕ) → (has_failed site d ≡ true) ⊎ (f d x ≡ true) → (has_failed site d ≡ true) ⊎ (e d x ≡ true)
    by_case d x (inl failed) = inl failed
    by_case d x (inr excepted) = by_flag d x (e d x) refl excepted
