-- The slots that the mover writes, call by call.
use Rattle.std.proofs.Common.{◌≡◌, inl, inr, ℕ, ◌*◌, ◌<◌, Bool, true, false, not, cond, nat_eq, nat_lt, ◌==◌, ◌&&◌, ◌||◌, List, [], ◌∷◌, length, Option, Some, None, Result, Ok, refl, sym, ap, subst, ◌∙◌, arith, true≢false, OnOk}
use Rattle.std.specs.Prelude.{IsSomeAnd, find, slice_range}
use Rattle.std.specs.List.{list_all, list_any}
use Rattle.std.proofs.lemmas.Bool.{and_from, and_parts, eqb-true, ltb-true, lt-ltb, not-true, or_cases, or_left, or_right}
use Rattle.xrc_edge.specs.declared.limits.TheConstants.{TRACKS_OF_CYLINDER}
use Rattle.crash_plant.specs.declared.device.Device.TheVariants.{Volume}
use Rattle.crash_plant.specs.Calls.{Elapses}
use Rattle.crash_plant.specs.Moments.{Follows, SamePast, PlantState, Same, Standing, on}
use Rattle.crash_plant.proofs.Steps.{follows_here, follows_then}
use Rattle.pair_table.specs.declared.row.PairRow.{PairRow}
use Rattle.pair_table.specs.Rows.{is_suspended}
use Rattle.pending_queue.specs.Entries.{WaitingEntry}
use Rattle.pending_queue.specs.Groups.{FormedGroup}
use Rattle.xrc_journal.specs.Contents.{HasItem, is_of_track}
use Rattle.xrc_journal.specs.Items.{Item}
use Rattle.xrc_journal.specs.Items.Item.{Image, Delta, Pair, Gone}
use Rattle.applier.specs.Slots.{DiffersInSlots}
use Rattle.applier.proofs.InSlots.{has_either}
use Rattle.image_former.specs.Entries.{HasEntry, entry_device, entry_row, is_device, is_entry_on, is_row_of, row_device}
use Rattle.turn_group.specs.Notes.{KnownVolume, is_of_carried}
use Rattle.site_store.specs.declared.store_error.StoreError.{StoreError}
use Rattle.site_store.specs.Applying.{Applies}
use Rattle.site_store.specs.Logging.{AreItemsOf, is_pair_item}
use Rattle.site_store.specs.Records.{VolumesStay}
use Rattle.site_store.specs.Sites.{SiteState}
use Rattle.site_store.proofs.LentJobs.{found_any}
use Rattle.mover.specs.Moves.{IsOfLive, KeepPairs, KnowsRows, known_at_control, row_of_volume}
use Rattle.mover.specs.Slots.{DiffersInSlotsOf, WritesSlots, WritesSlotsOf, is_track_of_live, is_track_of_mover, is_track_of_row}
use Rattle.mover.proofs.MovedOn.{on_ok}
use Rattle.mover.proofs.SamePairs.{still_self}

-- ---- bytes

module _ (tracks : ℕ → Bool) where
  differs_same : (b c : List ℕ) → c ≡ b → DiffersInSlotsOf tracks b c
  differs_same b c is = record { size = ap length is; others = λ from to le apart. ap (λ (bytes : List ℕ). slice_range bytes from to) is }

  differs_then : (a b c : List ℕ) → DiffersInSlotsOf tracks a b → DiffersInSlotsOf tracks b c → DiffersInSlotsOf tracks a c
  differs_then a b c x y = record { size = y.size ∙ x.size; others = λ from to le apart. y.others from to le apart ∙ x.others from to le apart }

  -- The slots of fewer tracks differ.
  differs_more : (fewer : ℕ → Bool) → ((x : ℕ) → fewer x ≡ true → tracks x ≡ true) → (b c : List ℕ) → DiffersInSlotsOf fewer b c → DiffersInSlotsOf tracks b c
  differs_more fewer wider b c d = record { size = d.size; others = λ from to le apart. d.others from to le (λ x is. apart x (wider x is)) }

  -- The slots of items' tracks differ.
  differs_by_items : (device : ℕ) (items : List Item) → ((x : ℕ) → HasItem device x items → tracks x ≡ true) → (b c : List ℕ) → DiffersInSlots device items b c → DiffersInSlotsOf tracks b c
  differs_by_items device items wider b c d = record { size = d.size; others = λ from to le apart. d.others from to le (λ x has. apart x (wider x has)) }

  -- ---- one device

  writes_by : (step : List ℕ → List ℕ → Type 0) → ((b c : List ℕ) → step b c → DiffersInSlotsOf tracks b c) → (a b : Standing) → step a.bytes b.bytes → Follows step a b → WritesSlotsOf tracks a b
  writes_by step differs a b bytes follows = record {
    bytes = differs a.bytes b.bytes bytes;
    moments = λ t from to c left. let start = follows t from to c left in (start.0, start.1, differs start.0 c start.2);
  }

  writes_same : (a b : Standing) → b.bytes ≡ a.bytes → Follows Same a b → WritesSlotsOf tracks a b
  writes_same = writes_by Same differs_same

  writes_then : (a b c : Standing) → SamePast a b → SamePast b c → WritesSlotsOf tracks a b → WritesSlotsOf tracks b c → WritesSlotsOf tracks a c
  writes_then a b c past kept x y = record {
    bytes = differs_then a.bytes b.bytes c.bytes x.bytes y.bytes;
    moments = follows_then a b c (DiffersInSlotsOf tracks) (DiffersInSlotsOf tracks) (DiffersInSlotsOf tracks) past.later x.moments kept y.moments (λ p q here d. d) (λ p q r here there d e. differs_then p q r d e);
  }

-- ---- tracks of rows

-- A track of a row that isn't suspended now is one of a row that wasn't before.
live_before : (v x : ℕ) (rows next : List PairRow) → KeepPairs rows next → list_any (is_track_of_live v x) next ≡ true → list_any (is_track_of_live v x) rows ≡ true
live_before v x [] [] are is = is
live_before v x [] (s ∷ next) are is = absurd are
live_before v x (r ∷ rows) [] are is = absurd are
live_before v x (r ∷ rows) (s ∷ next) are is = elim (or_cases (is_track_of_live v x s) (list_any (is_track_of_live v x) next) is) [
  | inl here ↦ or_left (is_track_of_live v x r) (list_any (is_track_of_live v x) rows) (before here)
  | inr later ↦ or_right (is_track_of_live v x r) (list_any (is_track_of_live v x) rows) (live_before v x rows next are.1 later)
]
  where
    before : is_track_of_live v x s ≡ true → is_track_of_live v x r ≡ true
    before now =
        let parts = and_parts (not (is_suspended s.state)) (is_track_of_row v x s) now in
        and_from (not (is_suspended r.state)) (is_track_of_row v x r) (ap not (are.0.live (not-true (is_suspended s.state) parts.0))) (sym (ap (is_track_of_row v x) are.0.same) ∙ parts.1)

-- The mover writes no other slots after calls that keep the pairs, if what waits then is of its tracks.
pub slots_before : (site next : SiteState) → KeepPairs site.told next.told → ((v x : ℕ) → HasItem v x next.waiting → is_track_of_mover site v x ≡ true) → (v x : ℕ) → is_track_of_mover next v x ≡ true → is_track_of_mover site v x ≡ true
slots_before site next still waits v x is = elim (or_cases (list_any (is_track_of_live v x) next.told) (list_any (is_of_track v x) next.waiting) is) [
  | inl row ↦ or_left (list_any (is_track_of_live v x) site.told) (list_any (is_of_track v x) site.waiting) (live_before v x site.told next.told still row)
  | inr item ↦ waits v x item
]

-- So it is where nothing waits then.
pub slots_at_rest : (site next : SiteState) → KeepPairs site.told next.told → next.waiting ≡ [] → (v x : ℕ) → is_track_of_mover next v x ≡ true → is_track_of_mover site v x ≡ true
slots_at_rest site next still idle = slots_before site next still (λ v x has. absurd (true≢false (sym has ∙ ap (λ (items : List Item). list_any (is_of_track v x) items) idle)))

-- ---- calls of a site

pub slots_here : (tells : Type 0) (site : SiteState) (plant : PlantState) → WritesSlots tells site site plant plant (Ok tt)
slots_here tells site plant = record {
  volumes = λ told v there. writes_same (is_track_of_mover site v) (on plant (Volume v)) (on plant (Volume v)) refl (follows_here (on plant (Volume v)) Same (λ b now. refl));
  rest = λ v x is. is;
}

module _ (tells : Type 0) (site next : SiteState) (old new : PlantState) (result : Result (Unit {0}) StoreError) where
  -- The volumes stay as they are.
  pub slots_stay : VolumesStay tells old new → OnOk result ((v x : ℕ) → is_track_of_mover next v x ≡ true → is_track_of_mover site v x ≡ true) → WritesSlots tells site next old new result
  slots_stay stay rest = record {
    volumes = λ told v there. writes_same (is_track_of_mover site v) (on old (Volume v)) (on new (Volume v)) (stay.bytes told v) (stay.images told v);
    rest = rest;
  }

  -- One call after another.
  pub slots_then : (mid : SiteState) (between : PlantState) → between.volumes ≡ old.volumes → (tells → Elapses old between) → (tells → Elapses between new) → WritesSlots tells site mid old between (Ok tt) → WritesSlots tells mid next between new result
      → WritesSlots tells site next old new result
  slots_then mid between same past later first then = record {
    volumes = λ told v there.
        let second = then.volumes told v (omega (arith, there, same)) in
        writes_then (is_track_of_mover site v) (on old (Volume v)) (on between (Volume v)) (on new (Volume v)) ((past told).kept (Volume v)) ((later told).kept (Volume v)) (first.volumes told v there)
        (writes_by (is_track_of_mover site v) (DiffersInSlotsOf (is_track_of_mover mid v)) (differs_more (is_track_of_mover site v) (is_track_of_mover mid v) (first.rest v)) (on between (Volume v)) (on new (Volume v)) second.bytes second.moments);
    rest = on_ok result (λ (rest : (v x : ℕ) → is_track_of_mover next v x ≡ true → is_track_of_mover mid v x ≡ true). λ v x is. first.rest v x (rest v x is)) then.rest;
  }

-- What waits is applied.
pub slots_applied : (tells : Type 0) (site next : SiteState) (old new : PlantState) → Applies tells site next old new → WritesSlots tells site next old new (Ok tt)
slots_applied tells site next old new applies = record {
  volumes = λ told v there.
      let a = (applies.volumes v there).volume in
      writes_by (is_track_of_mover site v) (DiffersInSlots v site.waiting) (differs_by_items (is_track_of_mover site v) v site.waiting (λ x has. or_right (list_any (is_track_of_live v x) site.told) (list_any (is_of_track v x) site.waiting) has))
      (on old (Volume v)) (on new (Volume v)) (a.slots told) (a.moments told);
  rest = slots_at_rest site next (subst (λ (rows : List PairRow). KeepPairs site.told rows) (sym (ap (λ (s : SiteState). s.told) applies.next_is)) (still_self site.told)) (ap (λ (s : SiteState). s.waiting) applies.next_is);
}

-- ---- a group that is logged

-- An entry's row isn't suspended, and has the entry's track.
abbrev IsLiveWith : WaitingEntry → PairRow → Type 0
IsLiveWith e r = (is_suspended r.state ≡ false) × (e.head.track < TRACKS_OF_CYLINDER * r.cylinders)

-- So it is of an entry whose volume is carried.
live_row : (known : List (List KnownVolume)) (rows : List PairRow) (e : WaitingEntry) → KnowsRows known rows → is_of_carried known e ≡ true → IsSomeAnd (entry_row rows e) (IsLiveWith e)
live_row known rows e knows is =
    let f = found_any (λ (u : KnownVolume). u.number == e.head.volume && (u.carried && nat_lt e.head.track u.tracks)) (known_at_control e.head.control known) is in
    let u = f.element in
    let parts = and_parts (u.number == e.head.volume) (u.carried && nat_lt e.head.track u.tracks) f.passes in
    let more = and_parts u.carried (nat_lt e.head.track u.tracks) parts.1 in
    let live = knows.live e.head.control u (f.place, f.within, f.there) more.0 in
    row (entry_row rows e) u (ltb-true e.head.track u.tracks more.1) (subst (λ (v : ℕ). IsSomeAnd (row_of_volume e.head.control v rows) (IsOfLive e.head.control u)) (eqb-true u.number e.head.volume parts.0) live)
  where
    row : (o : Option PairRow) (u : KnownVolume) → e.head.track < u.tracks → IsSomeAnd o (IsOfLive e.head.control u) → IsSomeAnd o (IsLiveWith e)
    row None u low is = absurd is
    row (Some r) u low is = (is.0, subst (λ (n : ℕ). e.head.track < n) is.1 low)

-- The track that an entry is on, by the same pairs later, is one of that row.
track_of_row : (e : WaitingEntry) (v x : ℕ) (rows next : List PairRow) → KeepPairs rows next → IsSomeAnd (entry_row rows e) (IsLiveWith e) → is_entry_on next v x e ≡ true → list_any (is_track_of_live v x) rows ≡ true
track_of_row e v x rows next still live on = let parts = and_parts (is_device v (entry_device next e)) (nat_eq e.head.track x) on in by rows next still live parts.0
  where
    same_track : e.head.track ≡ x
    same_track = eqb-true e.head.track x (and_parts (is_device v (entry_device next e)) (nat_eq e.head.track x) on).1

    by : (rows next : List PairRow) → KeepPairs rows next → IsSomeAnd (find (is_row_of e.head) rows) (IsLiveWith e) → is_device v (row_device (find (is_row_of e.head) next)) ≡ true → list_any (is_track_of_live v x) rows ≡ true
    by [] next still live on = absurd live
    by (r ∷ rows) [] still live on = absurd still
    by (r ∷ rows) (s ∷ next) still live on = choose (λ live on. by rows next still.1 live on) (is_row_of e.head r) live (sym (ap (λ (b : Bool). is_device v (row_device (cond b (Some s) (find (is_row_of e.head) next)))) (ap (is_row_of e.head) still.0.same)) ∙ on)
      where
        choose : (IsSomeAnd (find (is_row_of e.head) rows) (IsLiveWith e) → is_device v (row_device (find (is_row_of e.head) next)) ≡ true → list_any (is_track_of_live v x) rows ≡ true)
            → (b : Bool) → IsSomeAnd (cond b (Some r) (find (is_row_of e.head) rows)) (IsLiveWith e) → is_device v (row_device (cond b (Some s) (find (is_row_of e.head) next))) ≡ true → (is_track_of_live v x r || list_any (is_track_of_live v x) rows) ≡ true
        choose later true live on =
            let there = and_from (nat_eq r.device v) (nat_lt x (TRACKS_OF_CYLINDER * r.cylinders)) (sym (ap (λ (q : PairRow). nat_eq q.device v) still.0.same) ∙ on) (lt-ltb x (TRACKS_OF_CYLINDER * r.cylinders) (subst (λ (n : ℕ). n < TRACKS_OF_CYLINDER * r.cylinders) same_track live.1)) in
            or_left (is_track_of_live v x r) (list_any (is_track_of_live v x) rows) (and_from (not (is_suspended r.state)) (is_track_of_row v x r) (ap not live.0) there)
        choose later false live on = or_right (is_track_of_live v x r) (list_any (is_track_of_live v x) rows) (later live on)

entry_on_live : (known : List (List KnownVolume)) (v x : ℕ) (rows next : List PairRow) (entries : List WaitingEntry) → KnowsRows known rows → list_all (is_of_carried known) entries ≡ true → KeepPairs rows next → HasEntry next v x entries → list_any (is_track_of_live v x) rows ≡ true
entry_on_live known v x rows next [] knows are still has = absurd cc
entry_on_live known v x rows next (e ∷ entries) knows are still has =
    let parts = and_parts (is_of_carried known e) (list_all (is_of_carried known) entries) are in
    elim (or_cases (is_entry_on next v x e) (list_any (is_entry_on next v x) entries) has) [
      | inl here ↦ track_of_row e v x rows next still (live_row known rows e knows parts.0) here
      | inr later ↦ entry_on_live known v x rows next entries knows parts.1 still later
    ]

no_track : (v x : ℕ) (pairs : List Item) → list_all is_pair_item pairs ≡ true → HasItem v x pairs → ⊥
no_track v x [] are has = cc has
no_track v x (Image d y recs ∷ pairs) are has = cc are
no_track v x (Delta d y kind ∷ pairs) are has = cc are
no_track v x (Pair version row ∷ pairs) are has = no_track v x pairs are has
no_track v x (Gone d ∷ pairs) are has = cc are

-- What waits after a group is of tracks of rows that weren't suspended before it.
pub slots_logged : (tells : Type 0) (group : FormedGroup) (failed : List Bool) (known : List (List KnownVolume)) (site next : SiteState) (rows : List PairRow) (old : PlantState) → KnowsRows known site.told → list_all (is_of_carried known) group.entries ≡ true
    → KeepPairs site.told rows → KeepPairs site.told next.told → AreItemsOf tells group failed rows next.told old next.waiting → (v x : ℕ) → is_track_of_mover next v x ≡ true → is_track_of_mover site v x ≡ true
slots_logged tells group failed known site next rows old knows carried before still items = slots_before site next still waits
  where
    waits : (v x : ℕ) → HasItem v x next.waiting → is_track_of_mover site v x ≡ true
    waits v x has = elim (has_either v x items.images items.pairs (ap (λ (l : List Item). list_any (is_of_track v x) l) (sym items.parts) ∙ has)) [
      | inl image ↦ or_left (list_any (is_track_of_live v x) site.told) (list_any (is_of_track v x) site.waiting) (entry_on_live known v x site.told rows group.entries knows carried before ((items.tracks v x).0 image).0)
      | inr pair ↦ absurd (no_track v x items.pairs items.are_pairs pair)
    ]
