-- One entry turned into an image, or passed over.
use Rattle.std.proofs.Common.{◌≡◌, ◌⊎◌, inl, inr, ◌≤◌, ◌<◌, ◌+◌, ◌==◌, ◌&&◌, ◌||◌, ◌++◌, ℕ, Bool, true, false, cond, map, List, [], ◌∷◌, length, take, get_or, set, Option, Some, None, refl, sym, ◌∙◌, ap, subst, arith}
use Rattle.std.specs.Prelude.{not, slice_get, find, count_by, is_some, IsSomeAnd, IfSome}
use Rattle.std.specs.List.{All, AllZip, list_any}
use Rattle.std.proofs.lemmas.Bool.{and_parts, and_from, eqb-true, eq-eqb}
use Rattle.std.proofs.lemmas.List.{get_or-set_same, get_or_default, length-set}
use Rattle.std.proofs.lemmas.List.Elements.{All-head, All-tail}
use Rattle.std.proofs.lemmas.List.Folds.{list_any_at}
use Rattle.std.proofs.lemmas.List.Sums.{sum_by-cons}
use Rattle.std.proofs.lemmas.Option.{same_Some, slice_get_within, get_or_from_slice_get}
use Rattle.crash_plant.specs.Moments.{Standing}
use Rattle.ckd_track.specs.declared.rec.Rec.{Rec}
use Rattle.ckd_track.specs.declared.write.Kind.{Kind}
use Rattle.ckd_track.specs.SlotPlaces.{slot_track}
use Rattle.xrc_journal.specs.declared.job.VolumeJob.{VolumeJob}
use Rattle.xrc_journal.specs.Items.{Item, none_earlier, item_spelling}
use Rattle.xrc_journal.specs.Items.Item.{Image}
use Rattle.xrc_journal.specs.Bodies.{are_late, have_image}
use Rattle.pair_table.specs.declared.row.PairRow.{PairRow}
use Rattle.pair_table.specs.Tables.{AreRowsSound, none_clash}
use Rattle.pending_queue.specs.declared.head.EntryHead.{EntryHead}
use Rattle.pending_queue.specs.Entries.{WaitingEntry}
use Rattle.image_former.specs.Entries.{is_row_of, entry_row, row_device, is_device, is_entry_on, HasEntry}
use Rattle.image_former.specs.Changes.{AreSpelled, changed_through}
use Rattle.image_former.specs.Jobs.{is_job_of, is_failed_of, HasOneJob, HoldsSlots, BeginsWhole}
use Rattle.image_former.specs.Steps.{is_beside, DoesEntries, HoldsSlot, OfBytes, Goes, GoesBy, AreReady, AreFormed}
use Rattle.image_former.proofs.Lists.{take_there, find_here}
use Rattle.image_former.proofs.Entries.{head_in, form_at, row_and, on_is_beside}
use Rattle.image_former.proofs.Changing.{changed_after, changed_agree, any_agree}
use Rattle.image_former.proofs.Going.{by_here, ready_after, zip_set}
use Rattle.image_former.proofs.Bodying.{sole_failed, of_map, of_after, late_images, not_drawn, formed_still, formed_more, formed_jobs}

some_row : (o : Option PairRow) (P : ℕ → Type 0) → IsSomeAnd (row_device o) P → is_some o ≡ true
some_row (Some row) P is = refl
some_row None P is = absurd is

pub count_any : {A : Type 0} (test : A → Bool) (xs : List A) → count_by test xs ≡ 1 → list_any test xs ≡ true
count_any test [] one = absurd (omega (arith, one))
count_any test (x ∷ xs) one = by_first (count_any test xs) (test x) refl
  where
    by_first : (count_by test xs ≡ 1 → list_any test xs ≡ true) → (b : Bool) → test x ≡ b → (test x || list_any test xs) ≡ true
    by_first more true passes = λ j. passes j || list_any test xs
    by_first more false fails =
        let here : ◌≡◌ {A = ℕ} (cond (test x) 1 0) 0 = ap (λ (b : Bool). cond b 1 0) fails in
        (λ j. fails j || list_any test xs) ∙ more (omega (arith, one, sum_by-cons (λ (y : _). cond (test y) 1 0) x xs, here))

-- the slot of an entry's track, among those of all entries
pub slot_of : {D : Type 0} (state : D → Standing) (rows : List PairRow) (device x : ℕ) (entries : List WaitingEntry) (disk : Option D) → HasEntry rows device x entries → HoldsSlots state rows device entries disk → HoldsSlot state x disk
slot_of state rows device x entries (Some disk) has slots = slots x has
slot_of state rows device x entries None has slots = absurd (slots x has)

-- With rows that don't clash, the entries beside a head are those on its device's track.
agree_all : {D : Type 0} (rows : List PairRow) (jobs : List (VolumeJob D)) (h : EntryHead) (r : PairRow) → none_clash rows ≡ true → find (is_row_of h) rows ≡ Some r → (entries : List WaitingEntry) → All (HasOneJob rows jobs) entries
    → AllZip (λ e f. is_beside h e ≡ is_entry_on rows r.device h.track f) entries entries
agree_all rows jobs h r apart has [] all = tt
agree_all rows jobs h r apart has (e ∷ entries) all =
    let s = row_and (entry_row rows e) (λ d. count_by (is_job_of d) jobs ≡ 1) (All-head (HasOneJob rows jobs) e entries all) in
    (sym (on_is_beside rows h r e s.0 apart has s.1), agree_all rows jobs h r apart has entries (All-tail (HasOneJob rows jobs) e entries all))

module _ {D : Type 0} (state : D → Standing) (tells : Type 0) (rows : List PairRow) (entries : List WaitingEntry) (place : ℕ) (head : EntryHead) (jobs : List (VolumeJob D))
    (ready : AreReady state rows entries jobs) (shown : slice_get (map head_in entries) place ≡ Some head) where
  entry : WaitingEntry
  entry = record (form_at entries place head shown).0 { head = head }

  there : slice_get entries place ≡ Some (record (form_at entries place head shown).0 { head = head })
  there = (form_at entries place head shown).1

  within : place < length entries
  within = slice_get_within entries place (record (form_at entries place head shown).0 { head = head }) there

  abbrev Entry : WaitingEntry
  Entry = record (form_at entries place head shown).0 { head = head }

  one_of : (other : List (VolumeJob D)) → AreReady state rows entries other → HasOneJob rows other Entry
  one_of other is = subst (HasOneJob rows other) (get_or_from_slice_get entries place Entry Entry there) (is.one_job place Entry within)

  pub row_there : is_some (find (is_row_of head) rows) ≡ true
  row_there = some_row (find (is_row_of head) rows) (λ d. count_by (is_job_of d) jobs ≡ 1) (one_of jobs ready)

  module _ (d : ℕ) (known : row_device (find (is_row_of head) rows) ≡ Some d) where
    pub job_there : list_any (is_job_of d) jobs ≡ true
    job_there = count_any (is_job_of d) jobs (subst (λ (o : Option ℕ). IsSomeAnd o (λ n. count_by (is_job_of n) jobs ≡ 1)) known (one_of jobs ready))

    module _ (keeps : AreRowsSound rows) (i : ℕ) (lt : i < length jobs) (own : (j : VolumeJob D) → (get_or jobs i j).device ≡ d) where
      found : (row : PairRow) × (find (is_row_of head) rows ≡ Some row) × (count_by (is_job_of row.device) jobs ≡ 1)
      found = row_and (find (is_row_of head) rows) (λ n. count_by (is_job_of n) jobs ≡ 1) (one_of jobs ready)

      device_is : found.0.device ≡ d
      device_is = same_Some found.0.device d (ap row_device (sym found.1) ∙ known)

      mine : (j : VolumeJob D) → (get_or jobs i j).device ≡ found.0.device
      mine j = own j ∙ sym device_is

      on_is : (device x : ℕ) → is_entry_on rows device x Entry ≡ (found.0.device == device && head.track == x)
      on_is device x = ap (λ (o : Option PairRow). is_device device (row_device o) && head.track == x) found.1

      on_own : is_entry_on rows found.0.device head.track Entry ≡ true
      on_own = on_is found.0.device head.track ∙ and_from (found.0.device == found.0.device) (head.track == head.track) (eq-eqb found.0.device found.0.device refl) (eq-eqb head.track head.track refl)

      agree : AllZip (λ e f. is_beside head e ≡ is_entry_on rows found.0.device head.track f) entries entries
      agree = agree_all rows jobs head found.0 keeps.apart found.1 entries ready.one_job

      beside_is : list_any (is_beside head) (take place entries) ≡ list_any (is_entry_on rows found.0.device head.track) (take place entries)
      beside_is = any_agree (is_beside head) (is_entry_on rows found.0.device head.track) place entries agree

      has_own : HasEntry rows found.0.device head.track entries
      has_own = list_any_at (is_entry_on rows found.0.device head.track) entries place Entry within (ap (is_entry_on rows found.0.device head.track) (get_or_from_slice_get entries place Entry Entry there) ∙ on_own)

      -- ---- it is passed over

      on_parts : (device x : ℕ) → is_entry_on rows device x Entry ≡ true → (found.0.device ≡ device) × (head.track ≡ x)
      on_parts device x on =
          let parts = and_parts (found.0.device == device) (head.track == x) (sym (on_is device x) ∙ on) in
          (eqb-true found.0.device device parts.0, eqb-true head.track x parts.1)

      passed : (items : List Item) → ((device x : ℕ) → is_entry_on rows device x Entry ≡ true → (list_any (is_entry_on rows device x) (take place entries) ≡ true) ⊎ (list_any (is_failed_of device) jobs ≡ true))
          → AreFormed state tells rows entries (take place entries) jobs items → AreFormed state tells rows entries (take (place + 1) entries) jobs items
      passed items still formed = subst (λ (l : List WaitingEntry). AreFormed state tells rows entries l jobs items) (sym (take_there entries place Entry there))
          (formed_still state tells rows entries (take place entries) Entry jobs items (one_of jobs ready) still formed)

      pub passed_failed : (items : List Item) (j : VolumeJob D) → (get_or jobs i j).failed ≡ true → AreFormed state tells rows entries (take place entries) jobs items → AreFormed state tells rows entries (take (place + 1) entries) jobs items
      passed_failed items j bad formed = passed items (λ device x on. inr (subst (λ (n : ℕ). list_any (is_failed_of n) jobs ≡ true) (on_parts device x on).0 (sole_failed found.0.device jobs i j found.2 lt (mine j) ∙ bad))) formed

      pub passed_earlier : (items : List Item) → list_any (is_beside head) (take place entries) ≡ true → AreFormed state tells rows entries (take place entries) jobs items → AreFormed state tells rows entries (take (place + 1) entries) jobs items
      passed_earlier items earlier formed = passed items (λ device x on.
          let is = on_parts device x on in
          inl ((λ j. list_any (is_entry_on rows (sym is.0 j) (sym is.1 j)) (take place entries)) ∙ sym beside_is ∙ earlier)) formed

      -- ---- its job

      pub slot_there : (j : VolumeJob D) → (get_or jobs i j).failed ≡ false → HoldsSlot state head.track (get_or jobs i j).disk
      slot_there j good = slot_of state rows (get_or jobs i j).device head.track entries (get_or jobs i j).disk (subst (λ (n : ℕ). HasEntry rows n head.track entries) (sym (mine j)) has_own) (ready.slots i j lt good)

      module _ (first : list_any (is_beside head) (take place entries) ≡ false) (j new : VolumeJob D) (goes : Goes state tells (get_or jobs i j) new) where
        none_before : list_any (is_entry_on rows found.0.device head.track) (take place entries) ≡ false
        none_before = sym beside_is ∙ first

        is_first : find (is_entry_on rows found.0.device head.track) entries ≡ Some Entry
        is_first = find_here (is_entry_on rows found.0.device head.track) entries place Entry none_before there on_own

        begins : BeginsWhole rows entries (get_or jobs i j).device → head.whole ≡ true
        begins whole = subst (λ (o : Option WaitingEntry). IfSome o (λ e. e.head.whole ≡ true)) is_first (subst (λ (n : ℕ). BeginsWhole rows entries n) (mine j) whole head.track)

        goes_by : (head.whole ≡ true → new.disk ≡ (get_or jobs i j).disk) → (head.whole ≡ true → new.failed ≡ (get_or jobs i j).failed) → GoesBy state tells rows entries (get_or jobs i j) new
        goes_by disk failed = record {
          goes = goes;
          not_read = λ whole. (disk (begins whole), failed (begins whole));
          not_called = λ none. absurd (none head.track (subst (λ (n : ℕ). HasEntry rows n head.track entries) (sym (mine j)) has_own));
        }

        pub all_go : (head.whole ≡ true → new.disk ≡ (get_or jobs i j).disk) → (head.whole ≡ true → new.failed ≡ (get_or jobs i j).failed) → AllZip (GoesBy state tells rows entries) jobs (set jobs i new)
        all_go disk failed = zip_set (GoesBy state tells rows entries) (by_here state tells rows entries) jobs i new (λ k. subst (λ (a : VolumeJob D). GoesBy state tells rows entries a new) (get_or_default jobs i j k lt) (goes_by disk failed))

        -- ---- it is formed

        pub not_late : (items : List Item) → AreFormed state tells rows entries (take place entries) jobs items → are_late items ≡ false
        not_late items formed = late_images items none_earlier formed.images

        pub not_there : (items : List Item) (k : VolumeJob D) → AreFormed state tells rows entries (take place entries) jobs items → have_image items (get_or (set jobs i new) i k).device head.track ≡ false
        not_there items k formed =
            let at : (get_or (set jobs i new) i k).device ≡ found.0.device = ap (λ (a : VolumeJob D). a.device) (get_or-set_same jobs i new k lt) ∙ goes.device ∙ mine j in
            ap (λ (n : ℕ). have_image items n head.track) at
            ∙ not_drawn found.0.device head.track items none_earlier formed.images (formed.tracks found.0.device head.track ∙ (λ n. none_before n && not (list_any (is_failed_of found.0.device) jobs))) refl

        does_all : (old : Option (List Rec)) (recs : List Rec) → DoesEntries head place entries old recs → (kinds : List Kind) → AreSpelled entries kinds → Some recs ≡ changed_through rows found.0.device head.track entries kinds old
        does_all old recs does kinds spelled =
            does kinds spelled ∙ sym (changed_after (is_beside head) place entries kinds old spelled first) ∙ changed_agree (is_beside head) (is_entry_on rows found.0.device head.track) entries kinds old agree

        pub formed_then : (items : List Item) (k : VolumeJob D) → (get_or jobs i j).failed ≡ false → new.failed ≡ false → AllZip (GoesBy state tells rows entries) jobs (set jobs i new)
            → (tells → OfBytes state (λ bytes. DoesEntries head place entries (slot_track bytes head.track) new.slot) (get_or jobs i j).disk)
            → length (item_spelling (Image (get_or (set jobs i new) i k).device head.track (get_or (set jobs i new) i k).slot)) ≤ 56669
            → AreFormed state tells rows entries (take place entries) jobs items
            → AreFormed state tells rows entries (take (place + 1) entries) (set jobs i new) (items ++ Image (get_or (set jobs i new) i k).device head.track (get_or (set jobs i new) i k).slot ∷ [])
        formed_then items k good still all content size formed =
            let news = set jobs i new in
            let at : get_or news i k ≡ new = get_or-set_same jobs i new k lt in
            let device : (get_or news i k).device ≡ found.0.device = ap (λ (a : VolumeJob D). a.device) at ∙ goes.device ∙ mine j in
            let slot : (get_or news i k).slot ≡ new.slot = ap (λ (a : VolumeJob D). a.slot) at in
            let image : Image (get_or news i k).device head.track (get_or news i k).slot ≡ Image found.0.device head.track new.slot = (λ n. Image (device n) head.track (slot n)) in
            let within_then : i < length news = omega (arith, lt, length-set jobs i new) in
            let fact : tells → OfBytes state (λ bytes. (kinds : List Kind) → AreSpelled entries kinds → Some new.slot ≡ changed_through rows found.0.device head.track entries kinds (slot_track bytes head.track)) (get_or news i k).disk =
            λ told. subst (λ (a : VolumeJob D). OfBytes state (λ bytes. (kinds : List Kind) → AreSpelled entries kinds → Some new.slot ≡ changed_through rows found.0.device head.track entries kinds (slot_track bytes head.track)) a.disk) (sym at)
            (of_map state (λ bytes. DoesEntries head place entries (slot_track bytes head.track) new.slot) (λ bytes. (kinds : List Kind) → AreSpelled entries kinds → Some new.slot ≡ changed_through rows found.0.device head.track entries kinds (slot_track bytes head.track)) new.disk
            (λ bytes does. does_all (slot_track bytes head.track) new.slot does)
            (of_after state tells new.failed (λ bytes. DoesEntries head place entries (slot_track bytes head.track) new.slot) (get_or jobs i j).disk new.disk told (goes.reads good) (content told))) in
            subst (λ (l : List WaitingEntry). AreFormed state tells rows entries l news (items ++ Image (get_or news i k).device head.track (get_or news i k).slot ∷ [])) (sym (take_there entries place Entry there))
            (subst (λ (t : Item). AreFormed state tells rows entries (take place entries ++ Entry ∷ []) news (items ++ t ∷ [])) (sym image)
            (formed_more state tells rows entries (take place entries) Entry found.0 news items new.slot i k (one_of news (ready_after state tells rows entries jobs news all ready)) found.1 within_then device
            (ap (λ (a : VolumeJob D). a.failed) at ∙ still) fact (subst (λ (t : Item). length (item_spelling t) ≤ 56669) image size)
            (formed_jobs state tells rows entries (take place entries) jobs items i new j lt goes good still formed)))
