-- The last group was applied: nothing else is seen at any moment, and the site stands after it, over plain states.
use Rattle.std.proofs.Common.{◌≡◌, ◌⊎◌, inl, inr, ℕ, ◌+◌, ◌*◌, ◌≤◌, ◌<◌, Bool, true, false, not, ◌&&◌, ◌||◌, nat_lt, nat_le, List, [], ◌++◌, length, get_or, Option, Some, Ok, refl, sym, ap, subst, ◌∙◌, arith, append-nil, IsTrue}
use Rattle.std.specs.List.{list_all}
use Rattle.std.proofs.lemmas.Bool.{cases_Bool}
use Rattle.ckd_track.specs.declared.rec.Rec.{Rec}
use Rattle.ckd_track.specs.SlotPlaces.{slot_track}
use Rattle.crash_plant.specs.declared.device.Device.{Device}
use Rattle.crash_plant.specs.declared.device.Device.TheVariants.{Control, State, Journal, Volume}
use Rattle.crash_plant.specs.Calls.{IsPart, NoneLent, SameSite}
use Rattle.crash_plant.specs.Choices.{AllFollow, Choice, IsChoice}
use Rattle.crash_plant.specs.Moments.{Follows, IsDurable, PlantState, on}
use Rattle.crash_plant.proofs.Choices.{all_follow, choices_here, part_cases}
use Rattle.crash_plant.proofs.Steps.{stays_here}
use Rattle.control_set.specs.Marks.{IsMark}
use Rattle.control_set.specs.Slots.{chosen_mark}
use Rattle.state_set.specs.Slots.{state_of}
use Rattle.pair_table.specs.declared.row.PairRow.{PairRow}
use Rattle.xrc_journal.specs.Bodies.{have_image}
use Rattle.xrc_journal.specs.Contents.{HasItem, content_through}
use Rattle.xrc_journal.specs.Items.{AreItems, Item, form_of}
use Rattle.applier.specs.Returns.{WorksOnLent}
use Rattle.applier.specs.Slots.{DiffersInSlots}
use Rattle.applier.proofs.InSlots.{differs_here, has_either}
use Rattle.applier.proofs.Works.{works_lent_more}
use Rattle.site_means.specs.Images.{Shape, shape_of}
use Rattle.site_means.specs.Laws.{AgreeOnMark}
use Rattle.site_means.specs.Meaning.{chosen_in, meaning, meaning_in}
use Rattle.site_means.specs.Meaning.Meaning.{Meant}
use Rattle.site_means.specs.Sight.{meant_by, walked, walked_by}
use Rattle.site_means.proofs.Agreeing.{meanings_agree}
use Rattle.site_means.proofs.Goes.{shape_same}
use Rattle.site_means.proofs.Drawn.{contents_are_drawn}
use Rattle.site_store.specs.DoneDeeds.{DoesDeeds}
use Rattle.site_store.specs.Exceptions.{Exceptions}
use Rattle.site_store.proofs.Single.{same_content}
use Rattle.site_store.specs.Applying.{Applies, AppliesTo, AppliesToVolume, DoesApply, SeesTheSame, excepted_by_apply, is_applied, with_applied}
use Rattle.site_store.specs.Jobs.{has_device}
use Rattle.site_store.specs.Marking.{IsAmong}
use Rattle.site_store.specs.Records.{IsVolume}
use Rattle.site_store.specs.Sites.{SiteState, has_failed, is_written, meant_for}
use Rattle.site_store.specs.Standing.{AreApplied, FitsPlant, HasLengths, Leaves, SiteStands, none_excepted, row_has_volume}
use Rattle.site_store.proofs.Calls.{all_weaker, durable_same}
use Rattle.site_store.proofs.ItemTracks.{content_append, content_none, draws_of, image_item, item_cases, item_device, room_of, track_kept}

-- Images with the same control and state have the same mark.
agree_on_mark : (shape : Shape) (b c : Choice) → c Control ≡ b Control → c State ≡ b State → AgreeOnMark shape b c
agree_on_mark shape b c control state = record {
  chosen = ap (λ (l : List ℕ). chosen_mark shape.lengths l) control;
  stored = λ m is. ap (λ (l : List ℕ). state_of shape.volumes m.session m.state_slot l) state;
}

-- how an image of a device comes from an earlier one
abbrev pub StepOn : List Item → Device → List ℕ → List ℕ → Type 0
StepOn items Control b c = c ≡ b
StepOn items State b c = c ≡ b
StepOn items (Journal j) b c = c ≡ b
StepOn items (Volume v) b c = DiffersInSlots v items b c

-- ---- the numbers

lengths_still : (controls : ℕ) (old new : PlantState) → SameSite old new → HasLengths controls old → HasLengths controls new
lengths_still controls old new same lengths = record {
  control = omega (arith, lengths.control, same.lengths Control);
  state = omega (arith, lengths.state, same.lengths State);
  journals = (omega (arith, lengths.journals.0, same.journals), omega (arith, lengths.journals.1, same.journals));
  journal = λ j there. omega (arith, lengths.journal j (omega (arith, there, same.journals)), same.lengths (Journal j));
  volumes = omega (arith, lengths.volumes, same.volumes);
}

rows_still : (old new : PlantState) → SameSite old new → (rows : List PairRow) → IsTrue (list_all (row_has_volume old) rows) → IsTrue (list_all (row_has_volume new) rows)
rows_still old new same rows have = subst (λ (x : Type 0). x) (λ i. IsTrue (list_all (λ row. nat_lt row.device (sym same.volumes i) && nat_le (512 + row.cylinders * 860160) (sym (same.lengths (Volume row.device)) i)) rows)) have

-- The site's numbers fit the plant still, where nothing waits any more.
pub fits_applied : (site : SiteState) (failed written : List Bool) (old new : PlantState) → SameSite old new → NoneLent new → length failed ≡ length site.failed → length written ≡ length site.written → FitsPlant site old → FitsPlant (with_applied failed written site) new
fits_applied site failed written old new same home failures flags fits = record {
  home = home;
  controls = fits.controls;
  lengths = lengths_still site.controls old new same fits.lengths;
  rows = rows_still old new same site.table.rows fits.rows;
  told = rows_still old new same site.told fits.told;
  mark = subst (λ (l : List ℕ). IsMark l site.mark) (sym (ap (λ (s : Shape). s.lengths) (shape_same old new same))) fits.mark;
  session = fits.session;
  started = fits.started;
  set = omega (arith, fits.set, same.journals);
  room = omega (arith, fits.room, same.lengths (Journal site.at.set));
  next = fits.next;
  time = fits.time;
  failed = failures ∙ fits.failed ∙ sym same.volumes;
  written = flags ∙ fits.written ∙ sym same.volumes;
  items = refl;
}

-- ---- what is seen, and what stands

module _ (tells : Type 0) (told : tells) (site next : SiteState) (old new : PlantState) (works : WorksOnLent tells IsVolume old new) (each : (d : ℕ) → d < old.volumes → AppliesTo tells site next d old new)
    (keep : AreItems (form_of old) site.waiting) (sizes : (d : ℕ) → d < old.volumes → length (old.bytes (Volume d)) ≡ old.lengths (Volume d)) where
  on_each : (d : Device) → IsPart old d → Follows (StepOn site.waiting d) (on old d) (on new d)
  on_each Control part = (works.others told Control (λ is. is)).images
  on_each State part = (works.others told State (λ is. is)).images
  on_each (Journal j) part = (works.others told (Journal j) (λ is. is)).images
  on_each (Volume v) part = (each v part).volume.moments told

  comes : AllFollow (λ b c. (d : Device) → (IsPart old d → StepOn site.waiting d (b d) (c d)) × (¬ IsPart old d → c d ≡ b d)) old new
  comes = all_follow (StepOn site.waiting) old new works.site on_each

  -- A job that had failed is left alone.
  failed_still : (d : ℕ) → d < old.volumes → has_failed site d ≡ true → has_failed next d ≡ true
  failed_still d there was = (each d there).volume.same_job (λ i. not (was i) && has_device d site.waiting) ∙ was

  module _ (e : Exceptions) (stands : SiteStands e site old) where
    -- ---- one choice

    module _ (b c : Choice) (is : IsChoice old old.clock b) (step : (d : Device) → (IsPart old d → StepOn site.waiting d (b d) (c d)) × (¬ IsPart old d → c d ≡ b d)) where
      journal_same : (j : ℕ) → c (Journal j) ≡ b (Journal j)
      journal_same j = elim (part_cases old (Journal j)) [ inl part ↦ (step (Journal j)).0 part | inr out ↦ (step (Journal j)).1 out ]

      meaning_same : meaning old c ≡ meaning old b
      meaning_same = meanings_agree (shape_of old) b c (record { mark = agree_on_mark (shape_of old) b c ((step Control).0 tt) ((step State).0 tt); journals = λ m s chosen stored j entered. journal_same j })

      walked_is : walked old b ≡ stands.done ++ site.waiting
      walked_is = ap walked_by (stands.meant b is) ∙ stands.items

      -- after the walk's items a track is the same
      through_same : (d x : ℕ) → d < old.volumes → content_through d x (stands.done ++ site.waiting) (slot_track (c (Volume d)) x) ≡ content_through d x (stands.done ++ site.waiting) (slot_track (b (Volume d)) x)
      through_same d x within = elim (item_cases d x site.waiting) [
        | inl has ↦
            content_append d x stands.done site.waiting (slot_track (c (Volume d)) x)
            ∙ contents_are_drawn d x site.waiting (content_through d x stands.done (slot_track (b (Volume d)) x)) (content_through d x stands.done (slot_track (c (Volume d)) x)) (draws_of old d x site.waiting keep has)
            ∙ sym (content_append d x stands.done site.waiting (slot_track (b (Volume d)) x))
        | inr none ↦ ap (λ (t : Option (List Rec)). content_through d x (stands.done ++ site.waiting) t) (track_kept d x site.waiting (b (Volume d)) (c (Volume d)) ((step (Volume d)).0 within) none)
      ]

      sees_same : SeesTheSame old b c
      sees_same = record {
        means = ap meant_by meaning_same;
        content = λ d x within.
            (λ i. content_through d x (walked_by (meaning_same i)) (slot_track (c (Volume d)) x))
            ∙ subst (λ (l : List Item). content_through d x l (slot_track (c (Volume d)) x) ≡ content_through d x l (slot_track (b (Volume d)) x)) (sym walked_is) (through_same d x within);
      }

    -- ---- every moment

    moments_same : AllFollow (SeesTheSame old) old new
    moments_same t from to c is =
        let came = comes t from to c is in
        (came.0, came.1, sees_same came.0 c came.1 came.2)

    pub does_apply : DoesApply site old new
    does_apply = record {
      same = moments_same;
      does = same_content old new none_excepted site.told works.site (works.elapses told) (works.silent told)
          (all_weaker old new _ _ moments_same (λ b c here same. record { means = same.means; content = λ d x lt kept. same.content d x lt }));
    }

    -- ---- afterwards

    later : old.clock ≤ new.clock
    later = ((works.elapses told).kept Control).later

    still : (d : Device) → ¬ IsVolume d → IsDurable (on old d) → IsDurable (on new d)
    still d other durable = let stays = works.others told d other in durable_same old new d stays.images later stays.bytes durable

    meant_now : (c : Choice) → IsChoice new new.clock c → (meaning new c ≡ Meant (meant_for site) stands.walk) × (chosen_in (shape_of new) c ≡ Ok (Some site.mark))
    meant_now c is =
        let came = comes new.clock later (omega arith) c is in
        let b = came.0 in
        let shape = shape_same old new works.site in (
          ap (λ (s : Shape). meaning_in s c) shape ∙ meaning_same b c came.1 came.2 ∙ stands.meant b came.1,
          ap (λ (s : Shape). chosen_in s c) shape ∙ (agree_on_mark (shape_of old) b c ((came.2 Control).0 tt) ((came.2 State).0 tt)).chosen ∙ stands.chosen b came.1,
        )

    -- A track of which an item waited holds what it leaves, whatever stood there.
    drawn_now : (d x : ℕ) → d < old.volumes → has_failed site d ≡ false → has_failed next d ≡ false → HasItem d x site.waiting → slot_track (new.bytes (Volume d)) x ≡ content_through d x (stands.done ++ site.waiting) (slot_track (new.bytes (Volume d)) x)
    drawn_now d x there was is has =
        let v = old.bytes (Volume d) in
        let w = new.bytes (Volume d) in
        let applied : is_applied site d ≡ true = (λ i. not (was i) && item_device d x site.waiting has i) in
        let holds : slot_track w x ≡ content_through d x site.waiting (slot_track v x) = ((each d there).volume.content told applied is).content x (omega (arith, room_of old d x site.waiting keep has, sizes d there)) (λ none. absurd (cc none)) in
        holds
        ∙ contents_are_drawn d x site.waiting (content_through d x stands.done (slot_track w x)) (slot_track v x) (draws_of old d x site.waiting keep has)
        ∙ sym (content_append d x stands.done site.waiting (slot_track w x))

    kept_now : (d x : ℕ) → d < old.volumes → has_failed site d ≡ false → e d x ≡ false → ¬ HasItem d x site.waiting → slot_track (new.bytes (Volume d)) x ≡ content_through d x (stands.done ++ site.waiting) (slot_track (new.bytes (Volume d)) x)
    kept_now d x there was free none =
        let v = old.bytes (Volume d) in
        let w = new.bytes (Volume d) in
        let before = stands.applied d there was x free in
        let kept : slot_track w x ≡ slot_track v x = track_kept d x site.waiting v w ((each d there).volume.slots told) none in
        kept ∙ before ∙ ap (λ (t : Option (List Rec)). content_through d x stands.done t) (sym kept) ∙ sym (content_none d x site.waiting (content_through d x stands.done (slot_track w x)) none)
        ∙ sym (content_append d x stands.done site.waiting (slot_track w x))

    -- A track that isn't excepted after it wasn't before, or an image of it waited.
    free_or_drawn : (d x : ℕ) → excepted_by_apply site e d x ≡ false → (e d x ≡ false) ⊎ (have_image site.waiting d x ≡ true)
    free_or_drawn d x free = by_flags (e d x) (have_image site.waiting d x) free
      where
        by_flags : (a b : Bool) → (a && not b) ≡ false → (a ≡ false) ⊎ (b ≡ true)
        by_flags false b is = inl refl
        by_flags true true is = inr refl
        by_flags true false is = absurd cc

    track_now : (d x : ℕ) → d < old.volumes → has_failed site d ≡ false → has_failed next d ≡ false → excepted_by_apply site e d x ≡ false → slot_track (new.bytes (Volume d)) x ≡ content_through d x (stands.done ++ site.waiting) (slot_track (new.bytes (Volume d)) x)
    track_now d x there was is free = elim (item_cases d x site.waiting) [
      | inl has ↦ drawn_now d x there was is has
      | inr none ↦ kept_now d x there was (elim (free_or_drawn d x free) [ inl free_still ↦ free_still | inr drawn ↦ absurd (none (image_item d x site.waiting drawn)) ]) none
    ]

    applied_now : (d : ℕ) → d < old.volumes → has_failed next d ≡ false → AreApplied (excepted_by_apply site e d) (stands.done ++ site.waiting) d (new.bytes (Volume d))
    applied_now d there is x free = elim (cases_Bool (has_failed site d)) [
      | inl was ↦ let now = failed_still d there was in absurd (cc (now, is))
      | inr was ↦ track_now d x there was is free
    ]

    -- What was excepted is still, where no item of it waited.
    excepted_still : (d x : ℕ) → e d x ≡ true → ¬ HasItem d x site.waiting → excepted_by_apply site e d x ≡ true
    excepted_still d x excepted none = elim (cases_Bool (have_image site.waiting d x)) [
      | inl drawn ↦ absurd (none (image_item d x site.waiting drawn))
      | inr free ↦ (λ i. excepted i && not (free i))
    ]

    unwritten_now : (d : ℕ) → d < old.volumes → is_written next d ≡ false → (x : ℕ) → HasItem d x (stands.done ++ site.waiting) → (has_failed next d ≡ true) ⊎ (excepted_by_apply site e d x ≡ true)
    unwritten_now d there clean x has = by_flags (has_failed site d) refl (is_written site d) refl
      where
        by_flags : (was : Bool) → has_failed site d ≡ was → (dirty : Bool) → is_written site d ≡ dirty → (has_failed next d ≡ true) ⊎ (excepted_by_apply site e d x ≡ true)
        by_flags true was dirty is = inl (failed_still d there was)
        by_flags false was true is = let flag : is_written next d ≡ true = (each d there).written ∙ (λ i. is i || is_applied site d) in absurd (cc (clean, flag))
        by_flags false was false is = elim (item_cases d x site.waiting) [
          | inl now ↦
              let device = item_device d x site.waiting now in
              let flag : is_written next d ≡ true = (each d there).written ∙ (λ i. is i || (not (was i) && device i)) in
              absurd (cc (clean, flag))
          | inr none ↦ elim (has_either d x stands.done site.waiting has) [
            | inl before ↦ elim (stands.unwritten d there is x before) [
              | inl failed ↦ inl (failed_still d there failed)
              | inr excepted ↦ inr (excepted_still d x excepted none)
            ]
            | inr now ↦ absurd (none now)
          ]
        ]

    -- After it the site stands.
    pub stands_applied : next ≡ with_applied next.failed next.written site → SiteStands (excepted_by_apply site e) next new
    stands_applied next_is = record {
      walk = stands.walk;
      meant = λ c is. (meant_now c is).0 ∙ (λ i. Meant (meant_for (sym next_is i)) stands.walk);
      chosen = λ c is. (meant_now c is).1 ∙ (λ i. Ok (Some (sym next_is i).mark));
      at = stands.at ∙ (λ i. (sym next_is i).at);
      last = stands.last ∙ (λ i. (sym next_is i).time);
      control = still Control (λ is. is) stands.control;
      state = still State (λ is. is) stands.state;
      journals = λ j entered. still (Journal j) (λ is. is) (stands.journals j entered);
      done = stands.done ++ site.waiting;
      items = stands.items ∙ sym (append-nil (stands.done ++ site.waiting)) ∙ (λ i. (stands.done ++ site.waiting) ++ (sym next_is i).waiting);
      applied = λ d there good. applied_now d (omega (arith, there, works.site.volumes)) good;
      unwritten = λ d there clean x has. unwritten_now d (omega (arith, there, works.site.volumes)) clean x has;
    }

-- ---- each volume

-- The volumes of a site among the devices of the volumes that were due.
pub volumes_alone : (tells : Type 0) (due : List Bool) (old new : PlantState) → WorksOnLent tells (IsAmong due) old new → WorksOnLent tells IsVolume old new
volumes_alone tells due old new works = works_lent_more tells (IsAmong due) IsVolume old new volume works
  where
    volume : (d : Device) → IsAmong due d → IsVolume d
    volume Control among = among
    volume State among = among
    volume (Journal j) among = among
    volume (Volume v) among = tt

-- What was applied to the volume of each job is applied to the volumes of the site.
pub applies_to : (tells : Type 0) (site : SiteState) (failed written was_failed was_written due : List Bool) (items : List Item) (old new : PlantState) → items ≡ site.waiting → was_failed ≡ site.failed → was_written ≡ site.written → ((d : ℕ) → get_or due d false ≡ has_device d items)
    → ((d : ℕ) → d < length was_failed → AppliesToVolume tells items (not (get_or was_failed d false) && get_or due d false) (get_or was_failed d false) (get_or failed d false) d old new)
    → ((d : ℕ) → d < length was_written → get_or written d false ≡ (get_or was_written d false || (not (get_or was_failed d false) && get_or due d false))) → length site.failed ≡ old.volumes → length site.written ≡ old.volumes
    → (d : ℕ) → d < old.volumes → AppliesTo tells site (with_applied failed written site) d old new
applies_to tells site failed written was_failed was_written due items old new items_are failures flags due_is applies marks count count_written d there =
    let is : get_or due d false ≡ has_device d site.waiting = due_is d ∙ ap (has_device d) items_are in
    record {
      volume = subst (λ (x : Type 0). x) (λ i. AppliesToVolume tells (items_are i) (not (get_or (failures i) d false) && is i) (get_or (failures i) d false) (get_or failed d false) d old new) (applies d (omega (arith, there, count, ap length failures)));
      written = subst (λ (x : Type 0). x) (λ i. get_or written d false ≡ (get_or (flags i) d false || (not (get_or (failures i) d false) && is i))) (marks d (omega (arith, there, count_written, ap length flags)));
    }

-- ---- nothing waits

neither : (b : Bool) → (b && false) ≡ false
neither true = refl
neither false = refl

-- No volume is called.
pub applies_nothing : (tells : Type 0) (site : SiteState) (plant : PlantState) → site.waiting ≡ [] → Applies tells site site plant plant
applies_nothing tells site plant none = record {
  next_is = (λ i. record site { waiting = none i });
  volumes = λ d there. record {
    volume = record {
      stays = λ no told. stays_here (on plant (Volume d));
      same_count = λ no. refl;
      same_job = λ no. refl;
      count = λ yes. absurd (cc (yes, apart d));
      content = λ told yes. absurd (cc (yes, apart d));
      slots = λ told. differs_here d site.waiting (plant.bytes (Volume d));
      moments = λ told t from to c left. let here : t ≡ plant.clock = omega (arith, from, to) in (c, subst (λ (m : ℕ). plant.images m (Volume d) c) here left, differs_here d site.waiting c);
    };
    written = sym (ap (λ (b : Bool). is_written site d || b) (apart d) ∙ alone (is_written site d));
  };
}
  where
    apart : (d : ℕ) → is_applied site d ≡ false
    apart d = ap (λ (l : List Item). not (has_failed site d) && has_device d l) none ∙ neither (not (has_failed site d))

    alone : (b : Bool) → (b || false) ≡ b
    alone true = refl
    alone false = refl

-- What stood stands, but that fewer tracks are excepted where none waits.
pub leaves_nothing : (tells : Type 0) (site : SiteState) (plant : PlantState) → site.waiting ≡ [] → FitsPlant site plant → Leaves tells (excepted_by_apply site) site site plant plant
leaves_nothing tells site plant none fits = record { fits = fits; stands = λ told e stands. subst (λ (f : Exceptions). SiteStands f site plant) (same e) stands }
  where
    alone : (b : Bool) → b ≡ (b && true)
    alone true = refl
    alone false = refl

    same : (e : Exceptions) → e ≡ excepted_by_apply site e
    same e = (λ i d x. (alone (e d x) ∙ ap (λ (l : List Item). e d x && not (have_image l d x)) (sym none)) i)

pub does_nothing : (site : SiteState) (plant : PlantState) → DoesDeeds none_excepted site.told [] plant plant → DoesApply site plant plant
does_nothing site plant does = record { same = choices_here plant (SeesTheSame plant) (λ c is. record { means = refl; content = λ d x within. refl }); does = does }
