-- What putting a group at the journal's end does to the walk through data sets, over plain states.
use Rattle.std.proofs.Common.{◌≡◌, ◌≢◌, ◌⊎◌, inl, inr, ℕ, ◌≤◌, ◌<◌, List, [], ◌∷◌, ◌++◌, length, slice_index, refl, sym, ap, subst, ◌∙◌, arith}
use Rattle.std.proofs.lemmas.Bool.{cases_eq}
use Rattle.crash_plant.specs.declared.device.Device.{Device}
use Rattle.crash_plant.specs.declared.device.Device.TheVariants.{Journal}
use Rattle.crash_plant.specs.declared.spot.Spot.{Spot}
use Rattle.crash_plant.specs.Bytes.{patched}
use Rattle.crash_plant.specs.Moments.{IsDurable, PlantState, Follows, on}
use Rattle.crash_plant.specs.Calls.{IsPart, WorksOn}
use Rattle.crash_plant.specs.Choices.{AllFollow, Choice, IsChoice}
use Rattle.crash_plant.proofs.Choices.{device_cases, part_still, some_choice, works_on_choices}
use Rattle.xrc_journal.specs.Items.{Form, form_of}
use Rattle.xrc_journal.specs.Walks.{Logged}
use Rattle.xrc_journal.specs.RingWalks.{AddsThrough, AllEndThrough, EndsThrough, HasGroup, PutsGroup, journal_images, spot_after_logged, walk_at}
use Rattle.xrc_journal.specs.RingWalks.WalkRecord.{OfGroup}
use Rattle.xrc_journal.specs.RingLaws.{SameUpTo}
use Rattle.xrc_journal.specs.Appending.{GroupIsPut, IsShutAt, PutsRecord, room_for}
use Rattle.xrc_journal.proofs.RecordsRead.{end_is_shut}
use Rattle.xrc_journal.proofs.Appends.{MayPut, behind_gate, group_stands, may_stand, next_shut, range_torn, same_form}
use Rattle.xrc_journal.proofs.Puts.{byte_of_patched}
use Rattle.xrc_journal.proofs.RingWalking.{groups_added, walks_kept}

-- ---- choices

pub journal_is : (a b : ℕ) → (let x : Device = Journal a in let y : Device = Journal b in x ≡ y) → a ≡ b
journal_is a b e = cc

-- Each step of a choice says less.
pub all_less : (a b : PlantState) (step less : Choice → Choice → Type 0) → AllFollow step a b → ((x y : Choice) → IsChoice a a.clock x → step x y → less x y) → AllFollow less a b
all_less a b step less follows weaker t since to c is = let came = follows t since to c is in (came.0, came.1, weaker came.0 c came.1 came.2)

-- an image of one device, chosen with some of all others
pub choice_with : (plant : PlantState) (t : ℕ) → ((d : Device) → IsPart plant d → (c : List ℕ) × plant.images t d c) → (e : Device) (image : List ℕ) → plant.images t e image → (c : Choice) × IsChoice plant t c × (c e ≡ image)
choice_with plant t all e image left = ((λ d. pick d (device_cases d e)), (λ d part. picked d part (device_cases d e)), here (device_cases e e))
  where
    some : (c : Choice) × IsChoice plant t c
    some = some_choice plant t all

    pick : (d : Device) → (d ≡ e) ⊎ (d ≢ e) → List ℕ
    pick d (inl same) = image
    pick d (inr other) = some.0 d

    picked : (d : Device) → IsPart plant d → (which : (d ≡ e) ⊎ (d ≢ e)) → plant.images t d (pick d which)
    picked d part (inl same) = subst (λ (x : Device). plant.images t x image) (sym same) left
    picked d part (inr other) = some.1 d part

    here : (which : (e ≡ e) ⊎ (e ≢ e)) → pick e which ≡ image
    here (inl same) = refl
    here (inr other) = absurd (other refl)

-- Where every walk ends at a spot, its gate is closed.
pub end_shut : (form : Form) (sets : ℕ) (from to : Spot) (cut : ℕ) (images : ℕ → List ℕ) → EndsThrough form sets from to cut images → slice_index (images to.set) to.place ≢ 1
end_shut form sets from to cut images e = end_is_shut form sets (images to.set) to e.time e.walks.ends

pub all_end_shut : (plant : PlantState) (from to : Spot) (cut : ℕ) → ((d : Device) → IsPart plant d → (c : List ℕ) × plant.images plant.clock d c) → AllEndThrough plant from to cut → IsShutAt to.place (on plant (Journal to.set))
all_end_shut plant from to cut all ends image left =
    let chosen = choice_with plant plant.clock all (Journal to.set) image left in
    subst (λ (l : List ℕ). slice_index l to.place ≢ 1) chosen.2 (end_shut (form_of plant) plant.journals from to cut (journal_images chosen.0) (ends chosen.0 chosen.1))

-- ---- one choice

module _ (form : Form) (sets : ℕ) (from at : Spot) (g : Logged) (may : MayPut form at g) (size : ℕ) (b c : Choice) (puts : PutsRecord size (room_for g.items) at.place (behind_gate at g) (b (Journal at.set)) (c (Journal at.set)))
    (others : (d : Device) → d ≢ Journal at.set → c d ≡ b d) where
  same_before : (entered : List ℕ) (time : ℕ) → SameUpTo (walk_at entered at time) (journal_images b) (journal_images c)
  same_before entered time = record { left = λ set is other. others (Journal set) (λ e. other (journal_is set at.set e)); before = puts.torn.before; size = puts.torn.size }

  opened_adds : slice_index (c (Journal at.set)) at.place ≡ 1 → AddsThrough form sets from at (OfGroup g) (spot_after_logged g at) (journal_images b) (journal_images c)
  opened_adds gate last time records entered walks later =
      groups_added form sets (journal_images b) (journal_images c) from last records (walk_at entered at time) g (same_before entered time)
      (record {
        may = may_stand at g form may size (b (Journal at.set)) (c (Journal at.set)) puts gate time later;
        stands = group_stands at g (c (Journal at.set)) (puts.stands gate);
        shut = next_shut at g (c (Journal at.set)) (puts.stands gate);
      })
      walks

  pub puts_group : PutsGroup form sets from at g b c
  puts_group = record {
    walk = elim (cases_eq (slice_index (c (Journal at.set)) at.place) 1) [
      | inl is ↦ inr (opened_adds is)
      | inr shut ↦ inl (λ last time records entered walks. walks_kept form sets (journal_images b) (journal_images c) from last records (walk_at entered at time) (same_before entered time) shut walks)
    ];
    range = record { torn = range_torn at g (b (Journal at.set)) (c (Journal at.set)) puts.torn; others = others };
  }

  pub has_group : slice_index (c (Journal at.set)) at.place ≡ 1 → HasGroup form sets from at g b c
  has_group gate = record { walk = opened_adds gate; range = record { torn = range_torn at g (b (Journal at.set)) (c (Journal at.set)) puts.torn; others = others } }

  pub ends_after_group : slice_index (c (Journal at.set)) at.place ≡ 1 → EndsThrough form sets from at g.time (journal_images b) → EndsThrough form sets from (spot_after_logged g at) g.time (journal_images c)
  ends_after_group gate e = record {
    last = e.last;
    records = e.records ++ OfGroup g ∷ [];
    entered = e.entered;
    time = g.time;
    walks = opened_adds gate e.last e.time e.records e.entered e.walks e.up_to;
    up_to = omega arith;
    room = omega (arith, puts.room gate, puts.long gate);
  }

-- ---- all choices

module _ (tells : Type 0) (told : tells) (old new : PlantState) (from at : Spot) (g : Logged) (there : at.set < old.journals) (may : MayPut (form_of old) at g) (only : WorksOn tells (λ d. d ≡ Journal at.set) old new)
    (moments : Follows (PutsRecord (old.lengths (Journal at.set)) (room_for g.items) at.place (behind_gate at g)) (on old (Journal at.set)) (on new (Journal at.set))) where
  abbrev Step : Choice → Choice → Type 0
  Step b c = PutsRecord (old.lengths (Journal at.set)) (room_for g.items) at.place (behind_gate at g) (b (Journal at.set)) (c (Journal at.set)) × ((d : Device) → d ≢ Journal at.set → c d ≡ b d)

  comes : AllFollow Step old new
  comes = works_on_choices tells told (Journal at.set) (PutsRecord (old.lengths (Journal at.set)) (room_for g.items) at.place (behind_gate at g)) old new there only moments

  pub all_put_group : AllFollow (PutsGroup (form_of old) old.journals from at g) old new
  all_put_group = all_less old new Step (PutsGroup (form_of old) old.journals from at g) comes (λ x y here step. puts_group (form_of old) old.journals from at g may (old.lengths (Journal at.set)) x y step.0 step.1)

  module _ (written : new.bytes (Journal at.set) ≡ patched at.place (1 ∷ behind_gate at g) (old.bytes (Journal at.set))) (within : at.place ≤ length (old.bytes (Journal at.set))) (durable : IsDurable (on new (Journal at.set))) (ends : AllEndThrough old from at g.time) where
    gate : (c : Choice) → IsChoice new new.clock c → slice_index (c (Journal at.set)) at.place ≡ 1
    gate c is =
        ap (λ (l : List ℕ). slice_index l at.place) (durable (c (Journal at.set)) (is (Journal at.set) (part_still old new (Journal at.set) only.site there)) ∙ written)
        ∙ byte_of_patched at.place 1 (behind_gate at g) (old.bytes (Journal at.set)) within

    before : (c : Choice) → IsChoice new new.clock c → (b : Choice) × IsChoice old old.clock b × Step b c
    before c is = comes new.clock ((only.elapses told).kept (Journal at.set)).later (omega arith) c is

    ends_there : (c : Choice) → IsChoice new new.clock c → EndsThrough (form_of new) new.journals from (spot_after_logged g at) g.time (journal_images c)
    ends_there c is =
        let came = before c is in
        let form = sym (same_form old new only.site) in
        let sets = sym only.site.journals in
        subst (λ (x : Type 0). x) (λ i. EndsThrough (form i) (sets i) from (spot_after_logged g at) g.time (journal_images c))
        (ends_after_group (form_of old) old.journals from at g may (old.lengths (Journal at.set)) came.0 c came.2.0 came.2.1 (gate c is) (ends came.0 came.1))

    pub group_is_put : GroupIsPut from at g old new
    group_is_put = record {
      walk = λ c is. let came = before c is in (came.0, came.1, has_group (form_of old) old.journals from at g may (old.lengths (Journal at.set)) came.0 c came.2.0 came.2.1 (gate c is));
      written = written;
      durable = durable;
      ends = ends_there;
    }
