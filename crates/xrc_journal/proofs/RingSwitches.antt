-- What putting a switch at the journal's end does to the walk through data sets, over plain states.
use Rattle.std.proofs.Common.{◌≡◌, ◌≢◌, inl, inr, true, false, ℕ, ◌-◌, ◌^◌, ◌≤◌, ◌<◌, List, [], ◌∷◌, ◌++◌, length, take, slice_index, refl, sym, ap, subst, ◌∙◌, arith}
use Rattle.std.proofs.lemmas.Bool.{cases_eq}
use Rattle.crash_plant.specs.declared.device.Device.{Device}
use Rattle.crash_plant.specs.declared.device.Device.TheVariants.{Journal}
use Rattle.crash_plant.specs.declared.layout.TheConstants.{SWITCH}
use Rattle.crash_plant.specs.declared.spot.Spot.{Spot}
use Rattle.crash_plant.specs.Bytes.{Torn, patched}
use Rattle.crash_plant.specs.Moments.{IsDurable, PlantState, Follows, Stays, on}
use Rattle.crash_plant.specs.Calls.{IsPart, WorksOn}
use Rattle.crash_plant.specs.Choices.{AllFollow, Choice, IsChoice}
use Rattle.crash_plant.proofs.BehindGates.{torn_here}
use Rattle.crash_plant.proofs.Choices.{choices_here, choices_then, some_choice, works_on_choices}
use Rattle.crash_plant.proofs.Patches.{patched_torn}
use Rattle.crash_plant.proofs.Steps.{works_on_more, works_on_trans}
use Rattle.xrc_journal.specs.Items.{Form, form_of}
use Rattle.xrc_journal.specs.Records.{next_set, spot_in, switch_spelling}
use Rattle.xrc_journal.specs.RingWalks.{AddsThrough, AllEndThrough, EndsThrough, HasSwitch, KeepsThrough, PutsSwitch, SwitchRange, WalkRecord, WalksThrough, is_entered, journal_images, walk_at, walk_start}
use Rattle.xrc_journal.specs.RingWalks.WalkRecord.{OfSwitch}
use Rattle.xrc_journal.specs.RingLaws.{SameUpTo}
use Rattle.xrc_journal.specs.Appending.{IsOfSwitch, IsShutAt, PutsRecord, SwitchIsPut}
use Rattle.xrc_journal.proofs.Appends.{same_form}
use Rattle.xrc_journal.proofs.Puts.{byte_of_patched}
use Rattle.xrc_journal.proofs.RecordsRead.{end_is_shut}
use Rattle.xrc_journal.proofs.RingAppends.{all_less, journal_is}
use Rattle.xrc_journal.proofs.RingWalking.{entered_here, next_below, next_is_fresh, stands_entered, switches_added, walks_kept}

differ : (a b : ℕ) → a ≢ b → (let x : Device = Journal a in let y : Device = Journal b in x ≢ y)
differ a b other e = other (journal_is a b e)

true_is_not_false : (set : ℕ) (entered : List ℕ) → is_entered set entered ≡ true → is_entered set entered ≡ false → ⊥
true_is_not_false set entered one two = true_is_not (sym one ∙ two)
  where
    true_is_not : true ≡ false → ⊥
    true_is_not e = cc

-- The next data set isn't the one where the walk ends, if the walk didn't begin there.
pub next_differs : (form : Form) (sets : ℕ) (from to : Spot) (cut : ℕ) (images : ℕ → List ℕ) → to.set < sets → next_set sets to.set ≢ from.set → EndsThrough form sets from to cut images → next_set sets to.set ≢ to.set
next_differs form sets from to cut images low other e same =
    let there = walk_at e.entered to e.time in
    let fresh = next_is_fresh form sets images from e.last e.records there low other e.walks in
    let here = stands_entered form sets images (walk_start from e.last) there e.records e.walks.leads (entered_here from.set) in
    true_is_not_false (next_set sets to.set) e.entered (ap (λ (n : ℕ). is_entered n e.entered) same ∙ here) fresh

-- ---- one choice

module _ (form : Form) (sets : ℕ) (from at : Spot) (time : ℕ) (low : at.set < sets) (other : next_set sets at.set ≢ from.set) (apart : next_set sets at.set ≢ at.set) (b y : Choice)
    (gate : Torn 0 1 (b (Journal (next_set sets at.set))) (y (Journal (next_set sets at.set)))) (others : (d : Device) → d ≢ Journal (next_set sets at.set) → y d ≡ b d) where
  abbrev next : ℕ
  next = next_set sets at.set

  here_same : y (Journal at.set) ≡ b (Journal at.set)
  here_same = others (Journal at.set) (differ at.set next (λ e. apart (sym e)))

  -- A data set that a walk to the end left isn't the next one.
  fresh : (last t : ℕ) (records : List WalkRecord) (entered : List ℕ) → WalksThrough form sets (journal_images b) (walk_start from last) records (walk_at entered at t) → (set : ℕ) → is_entered set entered ≡ true → set ≢ next
  fresh last t records entered walks set is same =
      true_is_not_false next entered (ap (λ (n : ℕ). is_entered n entered) (sym same) ∙ is) (next_is_fresh form sets (journal_images b) from last records (walk_at entered at t) low other walks)

  -- while the next data set's gate is closed
  pub closing_puts : PutsSwitch form sets from at time b y
  closing_puts = record {
    walk = inl keeps;
    range = record {
      torn = subst (λ (l : List ℕ). Torn at.place SWITCH (b (Journal at.set)) l) (sym here_same) (torn_here at.place SWITCH (b (Journal at.set)));
      gate = gate;
      others = λ d is isnt. others d isnt;
    };
  }
    where
      keeps : KeepsThrough form sets from at (journal_images b) (journal_images y)
      keeps last t records entered walks =
          let same : SameUpTo (walk_at entered at t) (journal_images b) (journal_images y) = record {
            left = λ set is isnt. others (Journal set) (differ set next (fresh last t records entered walks set is));
            before = ap (λ (l : List ℕ). take at.place l) here_same;
            size = ap length here_same;
          } in
          let shut = end_is_shut form sets (b (Journal at.set)) at t walks.ends in
          walks_kept form sets (journal_images b) (journal_images y) from last records (walk_at entered at t) same (λ is. shut (ap (λ (l : List ℕ). slice_index l at.place) (sym here_same) ∙ is)) walks

  -- and then the switch is put there
  module _ (few : next_set sets at.set < 2 ^ 16) (number : at.number < 2 ^ 64 - 1) (stamp : time < 2 ^ 64) (size : ℕ) (c : Choice) (closed : slice_index (y (Journal (next_set sets at.set))) 0 ≢ 1)
      (puts : PutsRecord size SWITCH at.place (switch_spelling at.number time (next_set sets at.set)) (y (Journal at.set)) (c (Journal at.set))) (rest : (d : Device) → d ≢ Journal at.set → c d ≡ y d) where
    next_same : c (Journal next) ≡ y (Journal next)
    next_same = rest (Journal next) (differ next at.set apart)

    here_torn : Torn at.place SWITCH (b (Journal at.set)) (c (Journal at.set))
    here_torn = subst (λ (l : List ℕ). Torn at.place SWITCH l (c (Journal at.set))) here_same (subst (λ (n : ℕ). Torn at.place n (y (Journal at.set)) (c (Journal at.set))) (omega arith) puts.torn)

    same_before : (last t : ℕ) (records : List WalkRecord) (entered : List ℕ) → WalksThrough form sets (journal_images b) (walk_start from last) records (walk_at entered at t) → SameUpTo (walk_at entered at t) (journal_images b) (journal_images c)
    same_before last t records entered walks = record {
      left = λ set is isnt. rest (Journal set) (differ set at.set isnt) ∙ others (Journal set) (differ set next (fresh last t records entered walks set is));
      before = here_torn.before;
      size = here_torn.size;
    }

    adds : slice_index (c (Journal at.set)) at.place ≡ 1 → AddsThrough form sets from at (OfSwitch time) (spot_in next at) (journal_images b) (journal_images c)
    adds is last t records entered walks later =
        switches_added form sets (journal_images b) (journal_images c) from last time records (walk_at entered at t) (same_before last t records entered walks)
        (record {
          there = low;
          few = few;
          fresh = other;
          may = record { number = number; later = later; stamp = stamp };
          stands = puts.stands is;
          shut = λ first. closed (ap (λ (l : List ℕ). slice_index l 0) (sym next_same) ∙ first);
        })
        walks

    range : SwitchRange sets at b c
    range = record {
      torn = here_torn;
      gate = subst (λ (l : List ℕ). Torn 0 1 (b (Journal next)) l) (sym next_same) gate;
      others = λ d is isnt. rest d is ∙ others d isnt;
    }

    pub switch_puts : PutsSwitch form sets from at time b c
    switch_puts = record {
      walk = elim (cases_eq (slice_index (c (Journal at.set)) at.place) 1) [
        | inl is ↦ inr (adds is)
        | inr shut ↦ inl (λ last t records entered walks. walks_kept form sets (journal_images b) (journal_images c) from last records (walk_at entered at t) (same_before last t records entered walks) shut walks)
      ];
      range = range;
    }

    pub has_switch : slice_index (c (Journal at.set)) at.place ≡ 1 → HasSwitch form sets from at time b c
    has_switch is = record { walk = adds is; range = range }

    pub ends_after_switch : slice_index (c (Journal at.set)) at.place ≡ 1 → SWITCH ≤ length (c (Journal next)) → EndsThrough form sets from at time (journal_images b) → EndsThrough form sets from (spot_in next at) time (journal_images c)
    ends_after_switch is long e = record {
      last = e.last;
      records = e.records ++ OfSwitch time ∷ [];
      entered = e.entered ++ next ∷ [];
      time = time;
      walks = adds is e.last e.time e.records e.entered e.walks e.up_to;
      up_to = omega arith;
      room = long;
    }

-- ---- all choices

-- No switch is put.
pub none_put : (form : Form) (sets : ℕ) (from at : Spot) (time : ℕ) (plant : PlantState) → AllFollow (PutsSwitch form sets from at time) plant plant
none_put form sets from at time plant = choices_here plant (PutsSwitch form sets from at time) (λ c is. record {
  walk = inl (λ last t records entered walks. walks);
  range = record { torn = torn_here at.place SWITCH (c (Journal at.set)); gate = torn_here 0 1 (c (Journal (next_set sets at.set))); others = λ d one two. refl };
})

-- The first gate of a data set is closed.
pub record ClosesGate (tells : Type 0) (set : ℕ) (old mid : PlantState) : Type 0 where
  pub only : WorksOn tells (λ d. d ≡ Journal set) old mid
  pub torn : tells → Follows (Torn 0 1) (on old (Journal set)) (on mid (Journal set))

-- It was closed, and synced.
pub record HasClosedGate (set : ℕ) (old mid : PlantState) : Type 0 where
  pub written : mid.bytes (Journal set) ≡ patched 0 (0 ∷ []) (old.bytes (Journal set))
  pub durable : IsDurable (on mid (Journal set))

-- A switch to a data set is put at a spot.
pub record LeadsOn (tells : Type 0) (at : Spot) (time set : ℕ) (mid new : PlantState) : Type 0 where
  pub only : WorksOn tells (λ d. d ≡ Journal at.set) mid new
  pub moments : tells → Follows (PutsRecord (mid.lengths (Journal at.set)) SWITCH at.place (switch_spelling at.number time set)) (on mid (Journal at.set)) (on new (Journal at.set))

-- The next data set isn't the one where all walks end.
pub all_apart : (plant : PlantState) (from to : Spot) (cut : ℕ) → ((d : Device) → IsPart plant d → (c : List ℕ) × plant.images plant.clock d c) → to.set < plant.journals → next_set plant.journals to.set ≢ from.set → AllEndThrough plant from to cut
    → next_set plant.journals to.set ≢ to.set
all_apart plant from to cut all low other ends = let some = some_choice plant plant.clock all in next_differs (form_of plant) plant.journals from to cut (journal_images some.0) low other (ends some.0 some.1)

durable_still : (old new : PlantState) (d : Device) → old.clock ≤ new.clock → Stays (on old d) (on new d) → IsDurable (on old d) → IsDurable (on new d)
durable_still old new d later stays durable c left = let start = stays.images new.clock later (omega arith) c left in start.2 ∙ durable start.0 start.1 ∙ sym stays.bytes

-- A gate that isn't 1 in any image isn't in a device that stays.
pub shut_still : (old new : PlantState) (d : Device) (place : ℕ) → old.clock ≤ new.clock → Stays (on old d) (on new d) → IsShutAt place (on old d) → IsShutAt place (on new d)
shut_still old new d place later stays shut c left = let start = stays.images new.clock later (omega arith) c left in λ is. shut start.0 start.1 (ap (λ (l : List ℕ). slice_index l place) (sym start.2) ∙ is)

module _ (tells : Type 0) (told : tells) (old mid : PlantState) (from at : Spot) (time : ℕ) (there : at.set < old.journals) (into : next_set old.journals at.set < old.journals) (other : next_set old.journals at.set ≢ from.set) (apart : next_set old.journals at.set ≢ at.set)
    (first : ClosesGate tells (next_set old.journals at.set) old mid) where
  abbrev Closes : Choice → Choice → Type 0
  Closes b y = Torn 0 1 (b (Journal (next_set old.journals at.set))) (y (Journal (next_set old.journals at.set))) × ((d : Device) → d ≢ Journal (next_set old.journals at.set) → y d ≡ b d)

  closes : AllFollow Closes old mid
  closes = works_on_choices tells told (Journal (next_set old.journals at.set)) (Torn 0 1) old mid into first.only (first.torn told)

  pub all_closing : AllFollow (PutsSwitch (form_of old) old.journals from at time) old mid
  all_closing = all_less old mid Closes (PutsSwitch (form_of old) old.journals from at time) closes (λ b y is step. closing_puts (form_of old) old.journals from at time there other apart b y step.0 step.1)

  module _ (new : PlantState) (few : next_set old.journals at.set < 2 ^ 16) (number : at.number < 2 ^ 64 - 1) (stamp : time < 2 ^ 64) (shut : HasClosedGate (next_set old.journals at.set) old mid) (second : LeadsOn tells at time (next_set old.journals at.set) mid new) where
    abbrev Leads : Choice → Choice → Type 0
    Leads y c = PutsRecord (mid.lengths (Journal at.set)) SWITCH at.place (switch_spelling at.number time (next_set old.journals at.set)) (y (Journal at.set)) (c (Journal at.set)) × ((d : Device) → d ≢ Journal at.set → c d ≡ y d)

    leads : AllFollow Leads mid new
    leads = works_on_choices tells told (Journal at.set) (PutsRecord (mid.lengths (Journal at.set)) SWITCH at.place (switch_spelling at.number time (next_set old.journals at.set))) mid new (omega (arith, there, first.only.site.journals)) second.only (second.moments told)

    -- The next data set's gate is closed then.
    read_between : (y : Choice) → IsChoice mid mid.clock y → y (Journal (next_set old.journals at.set)) ≡ patched 0 (0 ∷ []) (old.bytes (Journal (next_set old.journals at.set)))
    read_between y is = shut.durable (y (Journal (next_set old.journals at.set))) (is (Journal (next_set old.journals at.set)) (omega (arith, into, first.only.site.journals))) ∙ shut.written

    closed : (y : Choice) → IsChoice mid mid.clock y → slice_index (y (Journal (next_set old.journals at.set))) 0 ≢ 1
    closed y is =
        let zero = ap (λ (l : List ℕ). slice_index l 0) (read_between y is) ∙ byte_of_patched 0 0 [] (old.bytes (Journal (next_set old.journals at.set))) (omega arith) in
        λ one. absurd (omega (arith, zero, one))

    pub all_switching : AllFollow (PutsSwitch (form_of old) old.journals from at time) old new
    all_switching = choices_then old mid new Closes Leads (PutsSwitch (form_of old) old.journals from at time) ((first.only.elapses told).kept (Journal at.set)).later closes second.only.site (second.only.elapses told) leads
        (λ b y is step. closing_puts (form_of old) old.journals from at time there other apart b y step.0 step.1)
        (λ b y c is between one two. switch_puts (form_of old) old.journals from at time there other apart b y one.0 one.1 few number stamp (mid.lengths (Journal at.set)) c (closed y between) two.0 two.1)

    module _ (ends : AllEndThrough old from at time) (written : new.bytes (Journal at.set) ≡ patched at.place (1 ∷ switch_spelling at.number time (next_set old.journals at.set)) (mid.bytes (Journal at.set))) (durable : IsDurable (on new (Journal at.set)))
        (within : at.place ≤ length (old.bytes (Journal at.set))) (long : SWITCH ≤ length (old.bytes (Journal (next_set old.journals at.set)))) where
      between_later : mid.clock ≤ new.clock
      between_later = ((second.only.elapses told).kept (Journal at.set)).later

      here_still : mid.bytes (Journal at.set) ≡ old.bytes (Journal at.set)
      here_still = (first.only.others told (Journal at.set) (differ at.set (next_set old.journals at.set) (λ e. apart (sym e)))).bytes

      next_still : Stays (on mid (Journal (next_set old.journals at.set))) (on new (Journal (next_set old.journals at.set)))
      next_still = second.only.others told (Journal (next_set old.journals at.set)) (differ (next_set old.journals at.set) at.set apart)

      written_whole : new.bytes (Journal at.set) ≡ patched at.place (1 ∷ switch_spelling at.number time (next_set old.journals at.set)) (old.bytes (Journal at.set))
      written_whole = written ∙ ap (λ (l : List ℕ). patched at.place (1 ∷ switch_spelling at.number time (next_set old.journals at.set)) l) here_still

      gate : (c : Choice) → IsChoice new new.clock c → slice_index (c (Journal at.set)) at.place ≡ 1
      gate c is =
          ap (λ (l : List ℕ). slice_index l at.place) (durable (c (Journal at.set)) (is (Journal at.set) (omega (arith, there, first.only.site.journals, second.only.site.journals))) ∙ written_whole)
          ∙ byte_of_patched at.place 1 (switch_spelling at.number time (next_set old.journals at.set)) (old.bytes (Journal at.set)) within

      -- what a choice comes from
      record From (c : Choice) : Type 0 where
        between : Choice
        is_between : IsChoice mid mid.clock between
        leading : Leads between c
        before : Choice
        is_before : IsChoice old old.clock before
        closing : Closes before between

      from_both : (c : Choice) → IsChoice new new.clock c → From c
      from_both c is =
          let led = leads new.clock between_later (omega arith) c is in
          let shutting = closes mid.clock ((first.only.elapses told).kept (Journal at.set)).later (omega arith) led.0 led.1 in
          record { between = led.0; is_between = led.1; leading = led.2; before = shutting.0; is_before = shutting.1; closing = shutting.2 }

      long_there : (c : Choice) → (f : From c) → SWITCH ≤ length (c (Journal (next_set old.journals at.set)))
      long_there c f =
          let torn = patched_torn 0 (0 ∷ []) (old.bytes (Journal (next_set old.journals at.set))) _ (omega (arith, long)) refl in
          omega (arith, long, torn.size, ap length (f.leading.1 (Journal (next_set old.journals at.set)) (differ (next_set old.journals at.set) at.set apart)), ap length (read_between f.between f.is_between))

      ends_there : (c : Choice) → IsChoice new new.clock c → EndsThrough (form_of new) new.journals from (spot_in (next_set old.journals at.set) at) time (journal_images c)
      ends_there c is =
          let f = from_both c is in
          let form = sym (same_form old mid first.only.site) ∙ sym (same_form mid new second.only.site) in
          let sets = sym first.only.site.journals ∙ sym second.only.site.journals in
          subst (λ (x : Type 0). x) (λ i. EndsThrough (form i) (sets i) from (spot_in (next_set old.journals at.set) at) time (journal_images c))
          (ends_after_switch (form_of old) old.journals from at time there other apart f.before f.between f.closing.0 f.closing.1 few number stamp (mid.lengths (Journal at.set)) c (closed f.between f.is_between) f.leading.0 f.leading.1 (gate c is) (long_there c f)
          (ends f.before f.is_before))

      pub switch_is_put : SwitchIsPut from at time old new
      switch_is_put = record {
        walk = λ c is.
            let f = from_both c is in (
              f.before,
              f.is_before,
              has_switch (form_of old) old.journals from at time there other apart f.before f.between f.closing.0 f.closing.1 few number stamp (mid.lengths (Journal at.set)) c (closed f.between f.is_between) f.leading.0 f.leading.1 (gate c is),
            );
        written = written_whole;
        durable = durable;
        closed = next_still.bytes ∙ shut.written;
        closed_durable = durable_still mid new (Journal (next_set old.journals at.set)) between_later next_still shut.durable;
        ends = ends_there;
      }

-- ---- the calls

-- What is known of a switch before it is put.
pub record MaySwitchTo (tells : Type 0) (from at : Spot) (time set : ℕ) (old : PlantState) : Type 0 where
  pub there : at.set < old.journals
  pub is_next : set ≡ next_set old.journals at.set
  pub few : set < 2 ^ 16
  pub number : at.number ≤ 2 ^ 64 - 2
  pub fresh : ¬ (set ≡ from.set)
  pub images : tells → (d : Device) → IsPart old d → (c : List ℕ) × old.images old.clock d c
  pub ends : tells → AllEndThrough old from at time

module _ (tells : Type 0) (told : tells) (from at : Spot) (time set : ℕ) (old mid : PlantState) (may : MaySwitchTo tells from at time set old) where
  into : next_set old.journals at.set < old.journals
  into = next_below old.journals at.set may.there

  other : next_set old.journals at.set ≢ from.set
  other same = may.fresh (may.is_next ∙ same)

  away : next_set old.journals at.set ≢ at.set
  away = all_apart old from at time (may.images told) may.there other (may.ends told)

  pub put_apart : set ≢ at.set
  put_apart same = away (sym may.is_next ∙ same)

  module _ (closes : ClosesGate tells set old mid) where
    first : ClosesGate tells (next_set old.journals at.set) old mid
    first = subst (λ (n : ℕ). ClosesGate tells n old mid) may.is_next closes

    pub moments_closing : AllFollow (PutsSwitch (form_of old) old.journals from at time) old mid
    moments_closing = all_closing tells told old mid from at time may.there into other away first

    pub shut_between : IsShutAt at.place (on old (Journal at.set)) → IsShutAt at.place (on mid (Journal at.set))
    shut_between shut = shut_still old mid (Journal at.set) at.place ((closes.only.elapses told).kept (Journal at.set)).later (closes.only.others told (Journal at.set) (differ at.set set (λ e. put_apart (sym e)))) shut

    module _ (new : PlantState) (stamp : time < 2 ^ 64) (shut : HasClosedGate set old mid) (leads_on : LeadsOn tells at time set mid new) where
      closed_there : HasClosedGate (next_set old.journals at.set) old mid
      closed_there = subst (λ (n : ℕ). HasClosedGate n old mid) may.is_next shut

      second : LeadsOn tells at time (next_set old.journals at.set) mid new
      second = subst (λ (n : ℕ). LeadsOn tells at time n mid new) may.is_next leads_on

      few : next_set old.journals at.set < 2 ^ 16
      few = omega (arith, may.few, may.is_next)

      number : at.number < 2 ^ 64 - 1
      number = omega (arith, may.number)

      pub moments_switching : AllFollow (PutsSwitch (form_of old) old.journals from at time) old new
      moments_switching = all_switching tells told old mid from at time may.there into other away first new few number stamp closed_there second

      pub put_switching : new.bytes (Journal at.set) ≡ patched at.place (1 ∷ switch_spelling at.number time set) (mid.bytes (Journal at.set)) → IsDurable (on new (Journal at.set)) → at.place ≤ length (old.bytes (Journal at.set)) → SWITCH ≤ length (old.bytes (Journal set)) → SwitchIsPut from at time old new
      put_switching written durable within long = switch_is_put tells told old mid from at time may.there into other away first new few number stamp closed_there second (may.ends told)
          (written ∙ ap (λ (n : ℕ). patched at.place (1 ∷ switch_spelling at.number time n) (mid.bytes (Journal at.set))) may.is_next) durable within (subst (λ (n : ℕ). SWITCH ≤ length (old.bytes (Journal n))) may.is_next long)

-- on which devices they work
module _ (tells : Type 0) (at : Spot) (time set : ℕ) (old mid : PlantState) (is_next : set ≡ next_set old.journals at.set) (closes : ClosesGate tells set old mid) where
  pub only_closing : WorksOn tells (IsOfSwitch old.journals at) old mid
  only_closing = works_on_more tells _ (IsOfSwitch old.journals at) old mid (λ d is. inr (is ∙ ap (λ (n : ℕ). Journal n) is_next)) closes.only

  pub only_switching : (new : PlantState) → LeadsOn tells at time set mid new → WorksOn tells (IsOfSwitch old.journals at) old new
  only_switching new second = works_on_trans tells (IsOfSwitch old.journals at) old mid new only_closing (works_on_more tells _ (IsOfSwitch old.journals at) mid new (λ d is. inl is) second.only)
