-- What a formed group that is logged does, and what one that isn't.
use Rattle.std.proofs.Common.{◌≡◌, inl, inr, ℕ, suc, ◌*◌, ◌<◌, Bool, true, false, not, cond, nat_eq, nat_lt, ◌==◌, ◌&&◌, ◌||◌, List, [], ◌∷◌, ◌++◌, length, Option, Some, None, Result, refl, sym, ap, subst, ◌∙◌, arith, true≢false, slice_get, OnOk}
use Rattle.std.specs.Prelude.{IsErrOf, IsSomeAnd, find}
use Rattle.std.specs.List.{All, Contains, list_all, list_any}
use Rattle.std.proofs.lemmas.Bool.{and_from, and_parts, eq-eqb, eqb-true, ltb-true, or_cases, or_left, or_right}
use Rattle.std.proofs.lemmas.List.Elements.{All-cons, All-nil}
use Rattle.crash_plant.specs.declared.device.Device.{Device}
use Rattle.crash_plant.specs.declared.device.Device.TheVariants.{Control, State, Journal, Volume}
use Rattle.crash_plant.specs.Moments.{PlantState}
use Rattle.applier.specs.Returns.{WorksOnLent}
use Rattle.applier.proofs.Works.{works_lent_more}
use Rattle.pair_table.specs.declared.row.PairRow.{PairRow}
use Rattle.pair_table.specs.Devices.{is_among}
use Rattle.pair_table.specs.Tables.{is_of}
use Rattle.pending_queue.specs.Entries.{WaitingEntry, is_whole}
use Rattle.pending_queue.specs.Groups.{FormedGroup}
use Rattle.image_former.specs.Entries.{HasEntry, entry_device, entry_row, is_device, is_entry_on, is_row_of, row_device}
use Rattle.image_former.specs.Forms.{is_image}
use Rattle.xrc_journal.specs.Bodies.{have_image}
use Rattle.xrc_journal.specs.Contents.{HasItem, is_of_track}
use Rattle.xrc_journal.specs.Items.{Earlier, Item, earlier_after_all, is_drawn, none_earlier}
use Rattle.xrc_journal.specs.Items.Item.{Image, Delta, Pair, Gone}
use Rattle.record_rows.specs.Hits.{hit_now, is_down}
use Rattle.pair_table.specs.States.{is_device_suspended}
use Rattle.record_rows.proofs.Telling.{none_hit_again}
use Rattle.site_store.specs.Exceptions.{Exceptions, excepted_after, is_kept, is_whole_on}
use Rattle.fed_logs.specs.Moves.{HasRowIn, IsLive}
use Rattle.turn_group.specs.Notes.{KnownVolume, is_of_carried}
use Rattle.site_store.specs.declared.store_error.StoreError.{StoreError}
use Rattle.site_store.specs.declared.store_error.StoreError.TheVariants.{Spent}
use Rattle.site_store.specs.Applying.{excepted_by_apply}
use Rattle.site_store.specs.Causes.{FailByCounts, HasStoreCause}
use Rattle.site_store.specs.Jobs.{has_device, is_of_device}
use Rattle.site_store.specs.Logging.{AreItemsOf, HasEntryOn, IsOfLog, IsOfSomeRow, after_group, is_entry_of_device, is_pair_item, log_deeds, rows_before, rows_logged}
use Rattle.site_store.specs.Records.{IsOfRecord, VolumesStay, after_placement}
use Rattle.site_store.specs.Sites.{SiteState, is_written}
use Rattle.site_store.proofs.ByPlacements.{RecordPlacement, by_placements, placement_here, placement_marked, placement_switched}
use Rattle.mover.specs.Moves.{IsOfLive, IsOfMover, KeepPairs, KnowsRows, MoverWorks, is_device_of_row, is_row_of_volume, is_worked_on, known_at_control, row_of_volume}
use Rattle.mover.specs.Numbers.{IsSiteSpent}
use Rattle.mover.specs.Slots.{is_track_of_mover}
use Rattle.mover.proofs.InSlots.{slots_stay}
use Rattle.mover.proofs.LogSteps.{LogSteps}
use Rattle.mover.proofs.SamePairs.{at_of, contains_at, still_then}
use Rattle.mover.proofs.SiteCalls.{devices_still, none_waits, none_written, works_less, worked_rows, worked_written}
use Rattle.mover.proofs.ToldHits.{hit_at}

-- ---- entries have rows

-- The row of an entry's volume, which is carried.
record CarriedRow (rows : List PairRow) (e : WaitingEntry) : Type 0 where
  known : KnownVolume
  low : e.head.track < known.tracks
  row : IsSomeAnd (row_of_volume e.head.control e.head.volume rows) (IsOfLive e.head.control known)

carried_row : (known : List (List KnownVolume)) (rows : List PairRow) (e : WaitingEntry) → KnowsRows known rows → is_of_carried known e ≡ true → CarriedRow rows e
carried_row known rows e knows is = by (known_at_control e.head.control known) (λ u has. knows.live e.head.control u has) is
  where
    here : (u : KnownVolume) → (u.carried ≡ true → IsSomeAnd (row_of_volume e.head.control u.number rows) (IsOfLive e.head.control u)) → (u.number == e.head.volume && (u.carried && nat_lt e.head.track u.tracks)) ≡ true → CarriedRow rows e
    here u live is =
        let parts = and_parts (u.number == e.head.volume) (u.carried && nat_lt e.head.track u.tracks) is in
        let more = and_parts u.carried (nat_lt e.head.track u.tracks) parts.1 in
        record {
          known = u;
          low = ltb-true e.head.track u.tracks more.1;
          row = subst (λ (v : ℕ). IsSomeAnd (row_of_volume e.head.control v rows) (IsOfLive e.head.control u)) (eqb-true u.number e.head.volume parts.0) (live more.0);
        }

    by : (volumes : List KnownVolume) → ((u : KnownVolume) → Contains volumes u → u.carried ≡ true → IsSomeAnd (row_of_volume e.head.control u.number rows) (IsOfLive e.head.control u)) → list_any (λ (u : KnownVolume). u.number == e.head.volume && (u.carried && nat_lt e.head.track u.tracks)) volumes ≡ true → CarriedRow rows e
    by [] live is = absurd cc
    by (u ∷ volumes) live is = elim (or_cases (u.number == e.head.volume && (u.carried && nat_lt e.head.track u.tracks)) (list_any (λ (u : KnownVolume). u.number == e.head.volume && (u.carried && nat_lt e.head.track u.tracks)) volumes) is) [
      | inl this ↦ here u (live u (0, omega arith, refl)) this
      | inr later ↦ by volumes (λ w has. let at = at_of volumes w has in live w (contains_at (u ∷ volumes) (suc at.0) w at.1)) later
    ]

-- An entry of a volume that is carried is of a row that isn't suspended.
pub entry_of_row : (known : List (List KnownVolume)) (rows : List PairRow) (e : WaitingEntry) → KnowsRows known rows → is_of_carried known e ≡ true → IsOfSomeRow rows e
entry_of_row known rows e knows is = let c = carried_row known rows e knows is in row (entry_row rows e) c.known c.low c.row
  where
    row : (o : Option PairRow) → (u : KnownVolume) → e.head.track < u.tracks → IsSomeAnd o (IsOfLive e.head.control u) → IsSomeAnd o (λ (r : PairRow). e.head.track < r.cylinders * 15)
    row None u low is = absurd is
    row (Some r) u low is = let size : u.tracks ≡ 15 * r.cylinders = is.1 in omega (arith, low, size)

live_there : (k v : ℕ) (u : KnownVolume) (rows : List PairRow) → IsSomeAnd (row_of_volume k v rows) (IsOfLive k u) → HasRowIn IsLive k v rows
live_there k v u [] is = absurd is
live_there k v u (r ∷ rows) is = choose (λ more. live_there k v u rows more) (is_row_of_volume k v r) refl is
  where
    choose : (IsSomeAnd (row_of_volume k v rows) (IsOfLive k u) → HasRowIn IsLive k v rows) → (b : Bool) → is_row_of_volume k v r ≡ b → IsSomeAnd (cond b (Some r) (row_of_volume k v rows)) (IsOfLive k u) → HasRowIn IsLive k v (r ∷ rows)
    choose others true names is = let parts = and_parts (r.control == k) (r.volume == v) names in record { row = r; among = (0, omega arith, refl); control = eqb-true r.control k parts.0; volume = eqb-true r.volume v parts.1; state = is.0 }
    choose others false names is =
        let has = others is in
        let at = at_of rows has.row has.among in
        record { row = has.row; among = contains_at (r ∷ rows) (suc at.0) has.row at.1; control = has.control; volume = has.volume; state = has.state }

-- So are all.
all_of_carried : (known : List (List KnownVolume)) (P : WaitingEntry → Type 0) → ((e : WaitingEntry) → is_of_carried known e ≡ true → P e) → (entries : List WaitingEntry) → list_all (is_of_carried known) entries ≡ true → All P entries
all_of_carried known P each [] are = All-nil P
all_of_carried known P each (e ∷ entries) are =
    let parts = and_parts (is_of_carried known e) (list_all (is_of_carried known) entries) are in
    All-cons P e entries (each e parts.0) (all_of_carried known P each entries parts.1)

pub entries_of_rows : (known : List (List KnownVolume)) (rows : List PairRow) (entries : List WaitingEntry) → KnowsRows known rows → list_all (is_of_carried known) entries ≡ true → All (IsOfSomeRow rows) entries
entries_of_rows known rows entries knows are = all_of_carried known (IsOfSomeRow rows) (λ e is. entry_of_row known rows e knows is) entries are

pub entries_of_live : (known : List (List KnownVolume)) (rows : List PairRow) (entries : List WaitingEntry) → KnowsRows known rows → list_all (is_of_carried known) entries ≡ true
    → All (λ (e : WaitingEntry). HasRowIn IsLive e.head.control e.head.volume rows) entries
entries_of_live known rows entries knows are =
    all_of_carried known (λ (e : WaitingEntry). HasRowIn IsLive e.head.control e.head.volume rows) (λ e is. let c = carried_row known rows e knows is in live_there e.head.control e.head.volume c.known rows c.row) entries are

-- Without rows there is no entry.
pub no_entries : (known : List (List KnownVolume)) (rows : List PairRow) (entries : List WaitingEntry) → rows ≡ [] → KnowsRows known rows → list_all (is_of_carried known) entries ≡ true → entries ≡ []
no_entries known rows [] none knows are = refl
no_entries known rows (e ∷ entries) none knows are =
    absurd (subst (λ (l : List PairRow). IsOfSomeRow l e) none (entry_of_row known rows e knows (and_parts (is_of_carried known e) (list_all (is_of_carried known) entries) are).0))

-- ---- images that wait

drawn_more : (d x : ℕ) (items : List Item) (earlier : Earlier) → is_drawn earlier.drawn d x ≡ true → is_drawn (earlier_after_all items earlier).drawn d x ≡ true
drawn_more d x [] earlier is = is
drawn_more d x (Image e y recs ∷ items) earlier is = drawn_more d x items _ (or_right (nat_eq e d && nat_eq y x) (is_drawn earlier.drawn d x) is)
drawn_more d x (Delta e y kind ∷ items) earlier is = drawn_more d x items earlier is
drawn_more d x (Pair version row ∷ items) earlier is = drawn_more d x items _ is
drawn_more d x (Gone e ∷ items) earlier is = drawn_more d x items _ is

drawn_there : (d x : ℕ) (images more : List Item) (earlier : Earlier) → list_all is_image images ≡ true → HasItem d x images → is_drawn (earlier_after_all (images ++ more) earlier).drawn d x ≡ true
drawn_there d x [] more earlier are has = absurd cc
drawn_there d x (Image e y recs ∷ images) more earlier are has = elim (or_cases (nat_eq e d && nat_eq y x) (list_any (is_of_track d x) images) has) [
  | inl here ↦ drawn_more d x (images ++ more) _ (or_left (nat_eq e d && nat_eq y x) (is_drawn earlier.drawn d x) here)
  | inr later ↦ drawn_there d x images more _ are later
]
drawn_there d x (Delta e y kind ∷ images) more earlier are has = absurd cc
drawn_there d x (Pair version row ∷ images) more earlier are has = absurd cc
drawn_there d x (Gone e ∷ images) more earlier are has = absurd cc

-- a track of which a device has an item
some_track : (v : ℕ) (images : List Item) → list_all is_image images ≡ true → has_device v images ≡ true → (x : ℕ) × HasItem v x images
some_track v [] are has = absurd cc
some_track v (Image e y recs ∷ images) are has = elim (or_cases (nat_eq e v) (has_device v images) has) [
  | inl here ↦ (y, or_left (nat_eq e v && nat_eq y y) (list_any (is_of_track v y) images) (and_from (nat_eq e v) (nat_eq y y) here (eq-eqb y y refl)))
  | inr later ↦ let t = some_track v images are later in (t.0, or_right (nat_eq e v && nat_eq y t.0) (list_any (is_of_track v t.0) images) t.1)
]
some_track v (Delta e y kind ∷ images) are has = absurd cc
some_track v (Pair version row ∷ images) are has = absurd cc
some_track v (Gone e ∷ images) are has = absurd cc

no_device : (v : ℕ) (pairs : List Item) → list_all is_pair_item pairs ≡ true → has_device v pairs ≡ false
no_device v [] are = refl
no_device v (Image e y recs ∷ pairs) are = absurd cc
no_device v (Delta e y kind ∷ pairs) are = absurd cc
no_device v (Pair version row ∷ pairs) are = no_device v pairs are
no_device v (Gone e ∷ pairs) are = absurd cc

device_parts : (v : ℕ) (images pairs : List Item) → list_all is_pair_item pairs ≡ true → has_device v (images ++ pairs) ≡ true → has_device v images ≡ true
device_parts v [] pairs are has = absurd (true≢false (sym has ∙ no_device v pairs are))
device_parts v (i ∷ images) pairs are has = elim (or_cases (is_of_device v i) (has_device v (images ++ pairs)) has) [
  | inl here ↦ or_left (is_of_device v i) (has_device v images) here
  | inr later ↦ or_right (is_of_device v i) (has_device v images) (device_parts v images pairs are later)
]

-- A device of an entry is some row's.
device_of_row : (rows : List PairRow) (e : WaitingEntry) (v : ℕ) → is_device v (entry_device rows e) ≡ true → is_device_of_row v rows ≡ true
device_of_row rows e v is = of rows is
  where
    of : (rows : List PairRow) → is_device v (row_device (find (is_row_of e.head) rows)) ≡ true → is_device_of_row v rows ≡ true
    of [] is = absurd cc
    of (r ∷ rows) is = choose (λ f. of rows f) (is_row_of e.head r) is
      where
        choose : (is_device v (row_device (find (is_row_of e.head) rows)) ≡ true → is_device_of_row v rows ≡ true) → (b : Bool) → is_device v (row_device (cond b (Some r) (find (is_row_of e.head) rows))) ≡ true → (nat_eq r.device v || is_device_of_row v rows) ≡ true
        choose on true is = or_left (nat_eq r.device v) (is_device_of_row v rows) is
        choose on false is = or_right (nat_eq r.device v) (is_device_of_row v rows) (on is)

entry_on_row : (rows : List PairRow) (v x : ℕ) (entries : List WaitingEntry) → HasEntry rows v x entries → is_device_of_row v rows ≡ true
entry_on_row rows v x [] has = absurd cc
entry_on_row rows v x (e ∷ entries) has = elim (or_cases (is_entry_on rows v x e) (list_any (is_entry_on rows v x) entries) has) [
  | inl here ↦ device_of_row rows e v (and_parts (is_device v (entry_device rows e)) (nat_eq e.head.track x) here).0
  | inr later ↦ entry_on_row rows v x entries later
]

pub entry_on_device : (rows : List PairRow) (v : ℕ) (entries : List WaitingEntry) → HasEntryOn rows entries v → is_device_of_row v rows ≡ true
entry_on_device rows v [] has = absurd cc
entry_on_device rows v (e ∷ entries) has = elim (or_cases (is_entry_of_device rows v e) (list_any (is_entry_of_device rows v) entries) has) [
  | inl here ↦ device_of_row rows e v here
  | inr later ↦ entry_on_device rows v entries later
]

whole_has : (rows : List PairRow) (d x : ℕ) (entries : List WaitingEntry) → list_any (is_whole_on rows d x) entries ≡ true → HasEntry rows d x entries
whole_has rows d x [] is = absurd cc
whole_has rows d x (e ∷ entries) is = elim (or_cases (is_whole_on rows d x e) (list_any (is_whole_on rows d x) entries) is) [
  | inl here ↦ or_left (is_entry_on rows d x e) (list_any (is_entry_on rows d x) entries) (and_parts (is_entry_on rows d x e) (is_whole e.kind) here).0
  | inr later ↦ or_right (is_entry_on rows d x e) (list_any (is_entry_on rows d x) entries) (whole_has rows d x entries later)
]

-- a row that keeps a device
record KeptRow (d : ℕ) (rows : List PairRow) : Type 0 where
  place : ℕ
  row : PairRow
  at : slice_get rows place ≡ Some row
  device : row.device ≡ d
  up : not (is_device_suspended row.state) ≡ true

kept_row : (d : ℕ) (rows : List PairRow) → is_kept d rows ≡ true → KeptRow d rows
kept_row d [] is = absurd cc
kept_row d (r ∷ rows) is = elim (or_cases (is_of d r && not (is_device_suspended r.state)) (is_kept d rows) is) [
  | inl here ↦ let parts = and_parts (is_of d r) (not (is_device_suspended r.state)) here in record { place = 0; row = r; at = refl; device = sym (eqb-true d r.device parts.0); up = parts.1 }
  | inr later ↦ let k = kept_row d rows later in record { place = suc k.place; row = k.row; at = k.at; device = k.device; up = k.up }
]

-- A device that rows keep, none of which is hit now, hasn't failed.
kept_is_up : (failed : List Bool) (d : ℕ) (rows : List PairRow) → hit_now failed rows ≡ [] → is_kept d rows ≡ true → is_down failed d ≡ false
kept_is_up failed d rows none kept = by (is_down failed d) refl
  where
    by : (b : Bool) → is_down failed d ≡ b → b ≡ false
    by false e = refl
    by true e =
        let k = kept_row d rows kept in
        let hit = hit_at failed rows k.place k.row k.at (and_from (is_down failed k.row.device) (not (is_device_suspended k.row.state)) (ap (is_down failed) k.device ∙ e) k.up) in
        absurd (true≢false (sym hit ∙ ap (is_among k.row.device) none))

-- ---- exceptions after a group's record

module _ (tells : Type 0) (group : FormedGroup) (site next : SiteState) (placement : RecordPlacement) (early : List Bool) (old : PlantState) (idle : site.waiting ≡ []) (s : LogSteps group site placement early next.failed)
    (items : AreItemsOf tells group next.failed (rows_before placement site early) next.told old next.waiting) (is_next : next ≡ after_group old.journals placement group next.waiting early next.failed site) where
  pub rows_are : next.told ≡ rows_logged placement site group early next.failed
  rows_are = ap (λ (s : SiteState). s.told) is_next

  pub logged_told : hit_now next.failed next.told ≡ []
  logged_told = ap (hit_now next.failed) rows_are ∙ none_hit_again next.failed group.cut.0 (rows_before placement site early) (rows_logged placement site group early next.failed) s.told

  -- A track that has a whole image in the group has an image that waits, unless its device has failed.
  image_waits : (d x : ℕ) → is_kept d (rows_logged placement site group early next.failed) ≡ true → list_any (is_whole_on (rows_before placement site early) d x) group.entries ≡ true → have_image next.waiting d x ≡ true
  image_waits d x kept whole =
      let up = kept_is_up next.failed d next.told logged_told (ap (is_kept d) rows_are ∙ kept) in
      let has = (items.tracks d x).1 (whole_has (rows_before placement site early) d x group.entries whole, up) in
      ap (λ (l : List Item). have_image l d x) items.parts ∙ drawn_there d x items.images items.pairs none_earlier items.are_images has

  waits_no_more : (e kept whole image : Bool) → (not kept || (e && not whole)) ≡ false → (kept ≡ true → whole ≡ true → image ≡ true) → (e && not image) ≡ false
  waits_no_more e false whole image is so = absurd cc
  waits_no_more false true whole image is so = refl
  waits_no_more true true false image is so = absurd cc
  waits_no_more true true true image is so = rw (so refl refl) refl

  -- After the deeds no track is excepted that isn't excepted after them, once what waits is applied.
  pub logged_fewer : (e : Exceptions) (d x : ℕ) → excepted_after site.told (log_deeds placement site group early next.failed) (excepted_by_apply site e) d x ≡ false → excepted_by_apply next e d x ≡ false
  logged_fewer e d x is = by_placements Fewer here_fewer here_fewer_switched marked_fewer placement (λ kept whole. image_waits d x kept whole) is
    where
      now : excepted_by_apply site e d x ≡ e d x
      now = none_waits site e d x idle

      plain : (kept whole : Bool) → (not kept || (excepted_by_apply site e d x && not whole)) ≡ false → (kept ≡ true → whole ≡ true → have_image next.waiting d x ≡ true) → excepted_by_apply next e d x ≡ false
      plain kept whole is so = waits_no_more (e d x) kept whole (have_image next.waiting d x) (sym (ap (λ (b : Bool). not kept || (b && not whole)) now) ∙ is) so

      after : (marked kept whole excepted : Bool) → (not kept || ((not marked || (excepted && true)) && not whole)) ≡ false → (not kept || (excepted && not whole)) ≡ false
      after marked false whole excepted is = absurd cc
      after false true true excepted is = by excepted
        where
          by : (b : Bool) → (false || (b && false)) ≡ false
          by true = refl
          by false = refl
      after false true false excepted is = absurd cc
      after true true whole true is = is
      after true true whole false is = refl

      Fewer : RecordPlacement → Type 0
      Fewer w = (is_kept d (rows_logged w site group early next.failed) ≡ true → list_any (is_whole_on (rows_before w site early) d x) group.entries ≡ true → have_image next.waiting d x ≡ true)
          → excepted_after site.told (log_deeds w site group early next.failed) (excepted_by_apply site e) d x ≡ false → excepted_by_apply next e d x ≡ false

      here_fewer : Fewer placement_here
      here_fewer so is = plain (is_kept d (rows_logged placement_here site group early next.failed)) (list_any (is_whole_on site.told d x) group.entries) is so

      here_fewer_switched : Fewer placement_switched
      here_fewer_switched so is = plain (is_kept d (rows_logged placement_switched site group early next.failed)) (list_any (is_whole_on site.told d x) group.entries) is so

      marked_fewer : Fewer placement_marked
      marked_fewer so is =
          let kept = is_kept d (rows_logged placement_marked site group early next.failed) in
          let whole = list_any (is_whole_on (rows_before placement_marked site early) d x) group.entries in
          plain kept whole (after (is_kept d (rows_before placement_marked site early)) kept whole (excepted_by_apply site e d x) is) so

  -- ---- what it leaves

  pub logged_still : KeepPairs site.told next.told
  logged_still = subst (λ (l : List PairRow). KeepPairs site.told l) (sym rows_are)
      (still_then site.told (rows_before placement site early) (rows_logged placement site group early next.failed) s.still s.kept)

  pub logged_rest : (v : ℕ) → is_worked_on next v ≡ true → is_worked_on site v ≡ true
  logged_rest = works_less site next logged_still (λ v is. worked_written site v (written placement v (ap (λ (s : SiteState). is_written s v) (sym is_next) ∙ is))) waits
    where
      Written : RecordPlacement → Type 0
      Written w = (v : ℕ) → is_written (after_placement w site) v ≡ true → is_written site v ≡ true

      written : (w : RecordPlacement) → Written w
      written = by_placements Written (λ v is. is) (λ v is. is) (λ v is. absurd (none_written (length site.written) v is))

      waits : (v : ℕ) → has_device v next.waiting ≡ true → is_worked_on site v ≡ true
      waits v is =
          let t = some_track v items.images items.are_images (device_parts v items.images items.pairs items.are_pairs (ap (has_device v) (sym items.parts) ∙ is)) in
          let has = (items.tracks v t.0).0 t.1 in
          worked_rows site v (sym (devices_still v site.told (rows_before placement site early) s.still) ∙ entry_on_row (rows_before placement site early) v t.0 group.entries has.0)

-- ---- the devices of a log

pub log_works : (tells : Type 0) (group : FormedGroup) (site next : SiteState) (old new : PlantState) (result : Result (Unit {0}) StoreError) → site.told ≡ site.table.rows → WorksOnLent tells (IsOfLog site group) old new → HasStoreCause old.faults new.faults result
    → FailByCounts site.failed next.failed old.faults new.faults → OnOk result ((v : ℕ) → is_worked_on next v ≡ true → is_worked_on site v ≡ true)
    → VolumesStay tells old new → OnOk result ((v x : ℕ) → is_track_of_mover next v x ≡ true → is_track_of_mover site v x ≡ true) → (IsErrOf result Spent → IsSiteSpent tells next new) → MoverWorks tells site next old new result
log_works tells group site next old new result same works cause fails rest stay slots spent = record {
  others = works_lent_more tells (IsOfLog site group) (IsOfMover site) old new among works;
  cause = cause;
  failed = fails;
  rest = rest;
  slots = slots_stay tells site next old new result stay slots;
  spent = spent;
}
  where
    record_device : (d : Device) → IsOfRecord site d → IsOfMover site d
    record_device Control is = inl tt
    record_device State is = inl tt
    record_device (Journal j) is = inl tt
    record_device (Volume v) (inl is) = absurd is
    record_device (Volume v) (inr is) = inr (v, refl, worked_written site v is)

    among : (d : Device) → IsOfLog site group d → IsOfMover site d
    among d (inl is) = record_device d is
    among d (inr is) = inr (is.0, is.1, worked_rows site is.0 (ap (is_device_of_row is.0) same ∙ entry_on_device site.table.rows is.0 group.entries is.2))
