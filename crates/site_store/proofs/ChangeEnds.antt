-- The answers of a call that logs a change, over plain states.
use Rattle.std.proofs.Common.{◌≡◌, ◌≢◌, ℕ, ◌*◌, ◌-◌, ◌^◌, ◌≤◌, ◌<◌, ◌++◌, Bool, false, true, List, [], ◌∷◌, length, Result, Ok, Err, refl, sym, ap, subst, ◌∙◌, arith}
use Rattle.std.specs.Prelude.{◌↔◌, OnOk, IsErrOf}
use Rattle.std.specs.List.{list_all}
use Rattle.tod_stamp.specs.declared.stamp.Stamp.{Stamp}
use Rattle.crash_plant.specs.declared.device.Device.TheVariants.{Journal}
use Rattle.crash_plant.specs.Calls.{WorksOn}
use Rattle.crash_plant.specs.Choices.{Choice, IsChoice}
use Rattle.crash_plant.specs.Moments.{PlantState}
use Rattle.pair_table.specs.declared.command.Change.{Change}
use Rattle.pair_table.specs.declared.row.PairRow.{PairRow}
use Rattle.pair_table.specs.Tables.{are_below}
use Rattle.record_rows.specs.Deeds.{Deed}
use Rattle.record_rows.specs.Deeds.Deed.{Changed, Marked as MarkedDeed}
use Rattle.record_rows.specs.Hits.{hit_now, rows_marked}
use Rattle.record_rows.specs.Records.{rows_with_hits}
use Rattle.site_store.specs.DoneDeeds.{DoesDeeds}
use Rattle.site_store.specs.Exceptions.{Exceptions}
use Rattle.site_store.proofs.Moments.{more_follow}
use Rattle.site_store.proofs.Single.{no_call}
use Rattle.site_means.specs.Images.{shape_of}
use Rattle.site_means.specs.Walk.{rows_through}
use Rattle.state_set.specs.Slots.{are_rows}
use Rattle.state_set.proofs.After.{rows_from}
use Rattle.xrc_journal.specs.Bodies.{BodyState}
use Rattle.xrc_journal.specs.Items.{Item, body_spelling, form_of}
use Rattle.site_store.specs.declared.store_error.StoreError.{StoreError}
use Rattle.site_store.specs.declared.store_error.StoreError.TheVariants.{Spent}
use Rattle.site_store.specs.declared.placement.Placement.{Placement}
use Rattle.site_store.specs.declared.placement.Placement.TheVariants.{Here, Marked}
use Rattle.site_store.specs.Changing.{AreChangeItems, DoesChange, FormsChange, Lead, IsAfterChange, IsPlacementOfChange, LogsChange, MayChange, change_deeds, change_deeds_of, changed_items, suspension_deeds}
use Rattle.site_store.specs.Hits.{pairs_with_next, with_hits}
use Rattle.site_store.specs.Marking.{MakesMark}
use Rattle.site_store.specs.Recording.{HasRoomBy, MayPutRecord, ShowsRecord, group_with}
use Rattle.site_store.specs.Records.{IsJournal, IsOfMark, after_record}
use Rattle.site_store.specs.InTurn.{DoesInTurn}
use Rattle.site_store.specs.RowRecords.{IsAfterRows, LogsRecord, are_rows_spent, has_items, names_rows, rows_deeds}
use Rattle.site_store.specs.Sites.{SiteState, meant_for}
use Rattle.site_store.specs.Standing.{FitsPlant, Leaves, SiteStands, none_excepted, row_has_volume}
use Rattle.site_store.specs.Placements.{is_spent, placement_of}
use Rattle.site_store.proofs.Below.{below_volumes}
use Rattle.site_store.proofs.ComesFirst.{ComesFirst, mark_first, nothing_first, record_do, rows_leave}
use Rattle.site_store.proofs.MarkFirst.{Suffice, mark_begins, room_after_mark, suffice}
use Rattle.site_store.proofs.HitsLead.{change_leads, near_leads, near_marked}
use Rattle.site_store.proofs.LogForms.{HasPlace, plain_place}
use Rattle.site_store.proofs.LogPut.{IsReady, MakesDeed, may_put as put_may}
use Rattle.site_store.proofs.MeantRows.{meant_apart}
use Rattle.site_store.proofs.RecordPuts.{on_ok}
use Rattle.site_store.proofs.RowEnds.{begin_here, change_is, change_none, change_plain, plain_after, plain_suspensions, record_enough, suspension_plain, with_told_mark}
use Rattle.site_store.proofs.RowItems.{AreRowItems, both_rows, changes_rows, keep_anywhere, next_rows}
use Rattle.site_store.proofs.RowRoom.{hits_have}
use Rattle.site_store.proofs.RowsLogged.{rows_make, with_logged_rows}
use Rattle.site_store.proofs.StandsEnd.{from_low}

-- ---- nothing is called

-- the site that goes on from a change that alters no row
abbrev pub level_with : SiteState → SiteState
level_with site = record site { is_ahead = false }

pub some_items : (items : List Item) → has_items items ≡ true → items ≢ []
some_items items some none = let no = ap has_items none in absurd (cc (no, some))

pub no_items : (items : List Item) → has_items items ≡ false → items ≡ []
no_items [] none = refl
no_items (i ∷ items) none = absurd cc

-- Without items the rows on the devices are the table's.
pub told_is : (tells : Type 0) (cut : ℕ) (change : Change) (site : SiteState) (old : PlantState) → MayChange tells cut change site old → changed_items change site.table.rows ≡ [] → site.told ≡ site.table.rows
told_is tells cut change site old may none = ap (λ (l : List Item). rows_through l site.told) (sym none) ∙ may.lead.leads

pub level_view : (view site : SiteState) → view ≡ site → site.told ≡ site.table.rows → record view { is_ahead = false; told = view.table.rows } ≡ level_with site
level_view view site is told = ap (λ (s : SiteState). record s { is_ahead = false; told = s.table.rows }) is ∙ (λ i. record site { is_ahead = false; told = sym told i })

pub none_leaves : (tells : Type 0) (site : SiteState) (old : PlantState) → FitsPlant site old → Leaves tells (λ e. e) site (level_with site) old old
none_leaves tells site old fits = record {
  fits = record {
    home = fits.home;
    controls = fits.controls;
    lengths = fits.lengths;
    rows = fits.rows;
    told = fits.told;
    mark = fits.mark;
    session = fits.session;
    started = fits.started;
    set = fits.set;
    room = fits.room;
    next = fits.next;
    time = fits.time;
    failed = fits.failed;
    written = fits.written;
    items = fits.items;
  };
  stands = λ told e stands. record {
    walk = stands.walk;
    meant = stands.meant;
    chosen = stands.chosen;
    at = stands.at;
    last = stands.last;
    control = stands.control;
    state = stands.state;
    journals = stands.journals;
    done = stands.done;
    items = stands.items;
    applied = stands.applied;
    unwritten = stands.unwritten;
  };
}

pub none_done : (tells : Type 0) (cut : ℕ) (change : Change) (site next : SiteState) (old : PlantState) → changed_items change site.table.rows ≡ [] → DoesChange tells cut change site next old old (Ok tt)
none_done tells cut change site next old none = record {
  placement = Here;
  is_placement = λ some. absurd (some none);
  begins = λ told e stands. begin_here old e site.told (change_deeds_of change Here site cut next.failed);
  does = λ told e stands. subst (λ (deeds : List Deed). DoesDeeds e site.told deeds old old) (sym (change_none site cut next.failed change Here none)) (no_call old e site.told);
}

-- ---- a record is formed, once these jobs had failed

module _ (tells : Type 0) (cut : Stamp) (change : Change) (site : SiteState) (old : PlantState) (may : MayChange tells cut.0 change site old) (failed : List Bool) (held now : BodyState) (forms : FormsChange site.level cut failed change site.table.rows held now) where
  abbrev pub rows : List PairRow
  rows = rows_with_hits site.level cut.0 failed site.table.rows

  fits : FitsPlant site old
  fits = may.fast.fits

  abbrev changed : List Item
  changed = changed_items change site.table.rows

  abbrev pairs : List Item
  pairs = pairs_with_next (with_hits forms.hits) site.table.rows

  parts : now.items ≡ changed ++ pairs
  parts = ap (λ (h : BodyState). h.items) forms.now_is

  keep : are_rows old.volumes site.table.rows ≡ true
  keep = rows_from old.volumes site.table.rows (record { few = forms.rules.few; apart = forms.rules.apart; below = below_volumes old old.volumes site.table.rows (omega arith) fits.rows })

  few : are_below 64 site.table.rows ≡ true
  few = below_volumes old 64 site.table.rows fits.lengths.volumes fits.rows

  pub formed : AreChangeItems cut.0 change failed site old now.items
  formed = record {
    hits = pairs;
    parts = parts;
    lead = subst (λ (l : List Item). Lead old.volumes l site.told rows) (sym parts) (change_leads site.level cut failed site.table.rows forms.hits forms.are old.volumes keep few changed site.told may.lead);
  }

  are_rows_alone : AreRowItems now.items
  are_rows_alone = subst AreRowItems (sym parts) (both_rows changed pairs (changes_rows change site.table.rows) (next_rows (with_hits forms.hits) site.table.rows))

  short : length (body_spelling now.items) ≤ 128 * 39
  short = omega (arith, forms.short, may.few)

  are_ready : (at : SiteState) (plant : PlantState) (placement : Placement) → FitsPlant at plant → at.waiting ≡ [] → at.time ≤ cut.0 → list_all (row_has_volume plant) site.table.rows ≡ true → HasRoomBy plant placement at.mark.at at.at now.items → at.at.number ≤ 2 ^ 64 - 2 → IsReady cut.0 placement at rows plant now.items
  are_ready at plant placement fit idle late have room number = record {
    fits = fit;
    idle = idle;
    late = late;
    keep = keep_anywhere (form_of plant) now.items are_rows_alone forms.keep;
    have = hits_have plant site.level cut.0 failed site.table.rows have;
    room = room;
    number = number;
    short = omega (arith, short);
  }

  -- ---- the record comes after nothing

  abbrev follows : Bool
  follows = names_rows change site.table.rows

  module _ (same : failed ≡ site.failed) (placement : Placement) (placement_is : placement ≡ placement_of old site now.items) where
    is_placement : (w : Placement) → placement ≡ w → IsPlacementOfChange cut.0 change site old w
    is_placement w is = record { first = now.items; formed = subst (λ (f : List Bool). AreChangeItems cut.0 change f site old now.items) same formed; placement_is = sym is ∙ placement_is }

    pub spent_logs : (next : SiteState) → are_rows_spent follows placement site ≡ true → LogsRecord tells cut.0 change site next old old (Err Spent)
    spent_logs next spent = record {
      placement = placement;
      is_placement = is_placement placement refl;
      spent = (λ e. spent, λ e. refl);
      after = tt;
      does = record { begins = λ told e stands. begin_here old e site.told (rows_deeds follows placement site cut.0 next.failed); does = λ told. tt };
    }

    module _ (enough : are_rows_spent follows placement site ≡ false) (next : SiteState) (new : PlantState) (result : Result (Unit {0}) StoreError) (unspent : ¬ IsErrOf result Spent) where
      -- What follows from whether a record follows a mark, and from the placement, is so of the record.
      logs_by : (f : Bool) → follows ≡ f → (w : Placement) → placement ≡ w → OnOk result (IsAfterRows f cut.0 change w now.items site next old) → DoesInTurn tells (rows_deeds f w site cut.0 next.failed) site old new result → LogsRecord tells cut.0 change site next old new result
      unfolding is_placement
      logs_by f f_is w w_is after does = record {
        placement = w;
        is_placement = is_placement w w_is;
        spent = (λ e. absurd (unspent e), λ spent. absurd (cc (spent, subst (λ (v : Placement). are_rows_spent follows v site ≡ false) w_is enough)));
        after = subst (λ (b : Bool). OnOk result (IsAfterRows b cut.0 change w now.items site next old)) (sym f_is) after;
        does = subst (λ (b : Bool). DoesInTurn tells (rows_deeds b w site cut.0 next.failed) site old new result) (sym f_is) does;
      }

      -- A mark came first, and the record after it, if one follows.
      pub marked_logs : placement ≡ Marked → OnOk result (IsAfterRows follows cut.0 change Marked [] site next old) → DoesInTurn tells (rows_deeds follows Marked site cut.0 next.failed) site old new result → LogsRecord tells cut.0 change site next old new result
      marked_logs marked after does = logs_by follows refl Marked marked (by_first follows after) does
        where
          by_first : (f : Bool) → OnOk result (IsAfterRows f cut.0 change Marked [] site next old) → OnOk result (IsAfterRows f cut.0 change Marked now.items site next old)
          by_first true by = by
          by_first false by = by

    module _ (plain : placement ≢ Marked) (enough : are_rows_spent follows placement site ≡ false) where
      place : HasPlace old placement site.mark.at site.at now.items
      place = plain_place site.controls site.mark.number old site.at site.mark.at now.items placement fits.lengths fits.set (omega (arith, short)) placement_is plain (record_enough follows placement site.at.number site.mark.number plain enough)

      ready : IsReady cut.0 placement site rows old now.items
      ready = are_ready site old placement fits may.idle may.cut_is fits.rows place.room place.number

      pub may_put : (tells → IsChoice old old.clock old.bytes) → (tells → length (old.bytes (Journal site.at.set)) ≡ old.lengths (Journal site.at.set)) → MayPutRecord tells placement site.mark.at site.at cut.0 now.items old
      may_put read size = put_may cut.0 placement site rows old now.items ready tells may.fast.stands read size

      module _ (read : tells → IsChoice old old.clock old.bytes) (new : PlantState) (works : WorksOn tells IsJournal old new) (result : Result (Unit {0}) StoreError) (shows : ShowsRecord tells placement site.mark.at site.at (group_with cut.0 now.items) old new result) where
        abbrev pub next : SiteState
        next = with_logged_rows old.journals placement cut.0 now.items rows site

        makes : tells → (e : Exceptions) → SiteStands e site old → MakesDeed tells (Changed cut.0 rows) cut.0 site rows old now.items
        makes told e stands = rows_make tells cut.0 site old now.items rows are_rows_alone formed.lead

        pub record_leaves : OnOk result (Leaves tells (λ e. e) site next old new)
        record_leaves = rows_leave tells [] site site old old new (nothing_first tells site old) placement cut.0 (Changed cut.0 rows) now.items rows ready makes read works result shows are_rows_alone

        does_by : (deeds : List Deed) → Changed cut.0 rows ∷ [] ≡ deeds → DoesInTurn tells deeds site old new result
        does_by deeds is = subst (λ (d : List Deed). DoesInTurn tells d site old new result) is (record_do tells [] site site old old new (nothing_first tells site old) placement cut.0 (Changed cut.0 rows) now.items rows ready makes read works result shows)

        module _ (then : SiteState) (unspent : ¬ IsErrOf result Spent) (still : then.failed ≡ failed) where
          after_by : OnOk result (then ≡ next) → OnOk result (then ≡ after_record old.journals placement cut.0 now.items rows site.failed site)
          after_by is = on_ok result (λ (e : then ≡ next). e ∙ plain_after old.journals placement cut.0 now.items rows site plain) is

          by_follows : (f : Bool) → follows ≡ f → OnOk result (then ≡ next) → LogsRecord tells cut.0 change site then old new result
          by_follows true follow is = logs_by enough then new result unspent true follow placement refl
              (on_ok result (λ (e : then ≡ after_record old.journals placement cut.0 now.items rows site.failed site). record {
                items = now.items;
                are = subst (λ (f : List Bool). AreChangeItems cut.0 change f site old now.items) (sym still) formed;
                next_is = e ∙ (λ i. after_record old.journals placement cut.0 now.items (rows_with_hits site.level cut.0 (sym still i) site.table.rows) ((sym same ∙ sym still) i) site);
              }) (after_by is))
              (does_by (change_deeds placement site cut.0 then.failed) (sym (change_plain site cut.0 then.failed placement plain ∙ ap (λ (f : List Bool). Changed cut.0 (rows_with_hits site.level cut.0 f site.table.rows) ∷ []) still)))
          by_follows false alone is =
              let told : site.told ≡ site.table.rows = told_is tells cut.0 change site old may (no_items changed alone) in
              logs_by enough then new result unspent false alone placement refl
              (on_ok result (λ (e : then ≡ after_record old.journals placement cut.0 now.items rows site.failed site).
              e ∙ (λ i. after_record old.journals placement cut.0 now.items (rows_with_hits site.level cut.0 (same i) (sym told i)) site.failed site) ∙ plain_suspensions old.journals placement cut.0 now.items then.failed site plain) (after_by is))
              (does_by (suspension_deeds placement site cut.0 then.failed) (sym (suspension_plain site cut.0 then.failed placement plain ∙ (λ i. Changed cut.0 (rows_with_hits site.level cut.0 (still i) (told i)) ∷ []))))

          pub record_logs : OnOk result (then ≡ next) → LogsRecord tells cut.0 change site then old new result
          record_logs is = by_follows follows refl is

  -- ---- the record comes after a mark

  module _ (low : site.at.number < 2 ^ 64) (choice : tells → (c : Choice) × IsChoice old old.clock c) (mid : PlantState) (enough : is_spent Marked site ≡ false) where
    abbrev pub marked : List PairRow
    marked = rows_marked site.time (hit_now failed site.told) site.told

    abbrev pub here : SiteState
    here = with_told_mark marked failed site

    numbers : Suffice site.at.number site.mark.number
    numbers = suffice site.at.number site.mark.number fits.mark.most enough

    module _ (touches : WorksOn tells (IsOfMark site) old mid) (makes : MakesMark tells site.mark.ended marked site here old mid (Ok tt)) (leaves : Leaves tells (λ e. none_excepted) site here old mid) (read : tells → IsChoice mid mid.clock mid.bytes) where
      ready_on : IsReady cut.0 Marked here rows mid now.items
      ready_on =
          let next = numbers.next_is in
          are_ready here mid Marked leaves.fits refl may.cut_is leaves.fits.rows (room_after_mark site.controls mid site.at now.items leaves.fits.lengths leaves.fits.set next (omega (arith, short))) (omega (arith, next))

      stands_on : tells → (e : Exceptions) × SiteStands e here mid
      stands_on told = let before = may.fast.stands told in (none_excepted, leaves.stands told before.0 before.1)

      pub may_put_after : (tells → length (mid.bytes (Journal site.at.set)) ≡ mid.lengths (Journal site.at.set)) → MayPutRecord tells Marked here.mark.at here.at cut.0 now.items mid
      may_put_after size = put_may cut.0 Marked here rows mid now.items ready_on tells stands_on read size

      -- The mark's rows are led to the same.
      leads_on : tells → (e : Exceptions) → SiteStands e site old → Lead old.volumes now.items marked rows
      leads_on told e stands =
          let c = choice told in
          let apart = meant_apart (shape_of old) c.0 (meant_for site) stands.walk (stands.meant c.0 c.1) (from_low e site old stands fits c.0 c.1 low) in
          subst (λ (l : List Item). Lead old.volumes l marked rows) (sym parts)
          (near_leads site.level cut failed site.table.rows forms.hits forms.are old.volumes keep few changed site.told may.lead marked (near_marked failed site.time site.told apart))

      makes_on : tells → (e : Exceptions) → SiteStands e site old → MakesDeed tells (Changed cut.0 rows) cut.0 here rows mid now.items
      makes_on told e stands = rows_make tells cut.0 here mid now.items rows are_rows_alone (subst (λ (n : ℕ). Lead n now.items marked rows) (sym touches.site.volumes) (leads_on told e stands))

      before : ComesFirst tells (MarkedDeed site.at site.mark.ended marked ∷ []) site here old mid
      before = mark_first tells site here old mid site.mark.ended marked may.idle makes leaves refl

      pub change_after : (then : SiteState) (result : Result (Unit {0}) StoreError) → then.failed ≡ failed → OnOk result (then ≡ with_logged_rows mid.journals Marked cut.0 now.items rows here) → OnOk result (IsAfterChange cut.0 change Marked site then old)
      change_after then (Ok value) still is = record {
        items = now.items;
        are = subst (λ (f : List Bool). AreChangeItems cut.0 change f site old now.items) (sym still) formed;
        next_is = is ∙ ap (λ (n : ℕ). with_logged_rows n Marked cut.0 now.items rows here) touches.site.journals
            ∙ ap (λ (f : List Bool). after_record old.journals Marked cut.0 now.items (rows_with_hits site.level cut.0 f site.table.rows) f site) (sym still);
      }
      change_after then (Err error) still is = tt

      module _ (new : PlantState) (works : WorksOn tells IsJournal mid new) (result : Result (Unit {0}) StoreError) (shows : ShowsRecord tells Marked here.mark.at here.at (group_with cut.0 now.items) mid new result) where
        abbrev pub next_on : SiteState
        next_on = with_logged_rows mid.journals Marked cut.0 now.items rows here

        pub after_leaves : OnOk result (Leaves tells (λ e. e) site next_on old new)
        after_leaves = rows_leave tells (MarkedDeed site.at site.mark.ended marked ∷ []) site here old mid new before Marked cut.0 (Changed cut.0 rows) now.items rows ready_on makes_on read works result shows are_rows_alone

        pub after_done : (then : SiteState) → then.failed ≡ failed → DoesInTurn tells (change_deeds Marked site cut.0 then.failed) site old new result
        after_done then still = subst (λ (f : List Bool). DoesInTurn tells (change_deeds Marked site cut.0 f) site old new result) (sym still)
            (record_do tells (MarkedDeed site.at site.mark.ended marked ∷ []) site here old mid new before Marked cut.0 (Changed cut.0 rows) now.items rows ready_on makes_on read works result shows)

-- ---- the mark isn't made

-- The mark's rows tell the hits of the jobs that have failed by then.
pub mark_fails : (tells : Type 0) (cut : ℕ) (site next : SiteState) (old new : PlantState) (error : StoreError) → site.waiting ≡ [] → MakesMark tells site.mark.ended (rows_marked site.time (hit_now next.failed site.told) site.told) site next old new (Err error)
    → DoesInTurn tells (change_deeds Marked site cut next.failed) site old new (Err error)
mark_fails tells cut site next old new error idle makes =
    let marked = rows_marked site.time (hit_now next.failed site.told) site.told in
    record {
      begins = λ told e stands. more_follow old new e site.told (MarkedDeed site.at site.mark.ended marked ∷ []) (Changed cut (rows_with_hits site.level cut next.failed site.table.rows) ∷ [])
          (mark_begins tells site.mark.ended marked site next old new (Err error) makes idle told e stands);
      does = λ told. tt;
    }

-- ---- what a command's change reads from it

module _ (tells : Type 0) (cut : ℕ) (change : Change) (site next : SiteState) (old new : PlantState) (result : Result (Unit {0}) StoreError) (follow : names_rows change site.table.rows ≡ true) (logs : LogsRecord tells cut change site next old new result) where
  some : changed_items change site.table.rows ≢ []
  some = some_items (changed_items change site.table.rows) follow

  pub change_logs : {P : Type 0} (was is : P) → LogsChange cut change site next old was is result
  change_logs was is = record {
    nothing = λ none. absurd (some none);
    rows = λ more. record {
      placement = logs.placement;
      is_placement = logs.is_placement;
      spent = subst (λ (b : Bool). IsErrOf result Spent ↔ (are_rows_spent b logs.placement site ≡ true)) follow logs.spent;
      after = subst (λ (b : Bool). OnOk result (IsAfterRows b cut change logs.placement logs.is_placement.first site next old)) follow logs.after;
    };
  }

  pub change_does : DoesChange tells cut change site next old new result
  change_does =
      let does : DoesInTurn tells (change_deeds_of change logs.placement site cut next.failed) site old new result =
      subst (λ (d : List Deed). DoesInTurn tells d site old new result) (ap (λ (b : Bool). rows_deeds b logs.placement site cut next.failed) follow ∙ sym (change_is site cut next.failed change logs.placement some)) logs.does in
      record { placement = logs.placement; is_placement = λ more. logs.is_placement; begins = does.begins; does = does.does }
