-- What commands and rows that are put leave of a site, on a plant that it fits.
use Rattle.std.proofs.Common.{◌≡◌, ◌⊎◌, inl, inr, ℕ, ◌+◌, ◌*◌, ◌≤◌, ◌&&◌, ◌||◌, Bool, true, false, cond, nat_le, nat_lt, List, [], ◌∷◌, length, Option, Some, None, Ok, refl, sym, ap, subst, ◌∙◌, arith}
use Rattle.std.specs.Prelude.{is_none}
use Rattle.std.specs.List.{list_all}
use Rattle.std.proofs.lemmas.Bool.{and_from, and_parts, cases_Bool, le-leb, leb-true}
use Rattle.crash_plant.specs.declared.device.Device.TheVariants.{Volume}
use Rattle.crash_plant.specs.Moments.{PlantState}
use Rattle.pair_table.specs.declared.command.Change.{Change}
use Rattle.pair_table.specs.declared.command.Command.{Command}
use Rattle.pair_table.specs.declared.command.Command.TheVariants.{AddPair}
use Rattle.pair_table.specs.declared.names.NamedDevice.{NamedDevice}
use Rattle.pair_table.specs.declared.names.NamedVolume.{NamedVolume}
use Rattle.pair_table.specs.declared.row.PairRow.{PairRow}
use Rattle.pair_table.specs.Commands.{MayCommand, accepted, answer, new_row, rows_after, table_after, wants_memory}
use Rattle.pair_table.specs.Naming.{Naming, labelled_device, primary_of}
use Rattle.pair_table.specs.Refusals.{refusal, refuses_command, row_of_primary}
use Rattle.pair_table.specs.Tables.{AreRowsSound, Table, are_below, is_of, with_row}
use Rattle.pair_table.proofs.AddLaws.{label_all}
use Rattle.state_set.specs.Slots.{started_table}
use Rattle.site_store.specs.Exceptions.{Exceptions}
use Rattle.site_means.specs.declared.means.Means.{Means}
use Rattle.site_means.specs.Meaning.Meaning.{Meant}
use Rattle.site_store.specs.Changing.{Lead, changed_items, named_devices}
use Rattle.site_store.specs.Commands.{ChangesMayBeLogged, CommandsLeaveSites, IsToLog, LabelsFit, MayDo, PutRowsLeaveSites, alters, excepted_by_change, is_added, label_has_volume, with_change}
use Rattle.site_store.specs.Sites.{SiteState, has_failed, meant_for}
use Rattle.site_store.specs.Standing.{FitsPlant, SiteStands, row_has_volume}
use Rattle.site_store.proofs.CommandLeads.{alters_some, command_leads, few_named}
use Rattle.site_store.proofs.CommandRows.{Answered, Own, after_below, answered, flag_then, flags_count, large_enough, own_of, rows_pass, table_is}

or_left : (a b : Bool) → a ≡ true → (a || b) ≡ true
or_left true b e = refl
or_left false b e = absurd (cc e)

or_right : (a b : Bool) → b ≡ true → (a || b) ≡ true
or_right true b e = refl
or_right false b e = e

-- ---- a command

module _ (names : Naming) (site : SiteState) (session : List ℕ) (command : Command) (at : ℕ) (change : Change) (is : answer names site.table session command ≡ Ok change) (started : site.table.is_started ≡ true) where
  was_answered : Answered names site.table session command change
  was_answered = answered names site.table session command change is

  by_itself : Own names site.table.rows command
  by_itself = own_of names site.table session command started was_answered.accepts

  after_is : table_after names site.table session command at ≡ accepted names at command site.table
  after_is = table_is names site.table session command at was_answered.accepts

  rows_are : (table_after names site.table session command at).rows ≡ rows_after names at command site.table.rows
  rows_are = ap (λ (t : Table). t.rows) after_is

  -- whether the job of a device has failed after it
  flag_is : (d : ℕ) → has_failed (with_change (table_after names site.table session command at) change site) d ≡ cond (is_added change d) false (has_failed site d)
  flag_is d = flag_then 0 d change site.failed ∙ ap (λ (n : ℕ). cond (is_added change n) false (has_failed site d)) here
    where
      here : 0 + d ≡ d
      here = omega arith

  module _ (plant : PlantState) (labels : LabelsFit plant names) (fits : FitsPlant site plant) where
    -- A new pair's device has the slots of the primary's cylinders.
    new_has : (p s : List ℕ) (g : Option (List ℕ)) (v : NamedVolume) (l : NamedDevice) → command ≡ AddPair p s g → primary_of p names ≡ Some v → labelled_device s names ≡ Some l → row_of_primary p site.table.rows ≡ None
        → row_has_volume plant (new_row s g v l) ≡ true
    new_has p s g v l command_is named labelled none =
        let own = ap (λ (k : Command). refuses_command names site.table.rows k) (sym command_is) ∙ by_itself.own in
        let large = large_enough names site.table.rows p s g v l own named labelled none in
        let has = and_parts (nat_lt l.device plant.volumes) (nat_le (512 + l.cylinders * 860160) (plant.lengths (Volume l.device))) (label_all (label_has_volume plant) s names.labels l labels labelled) in
        and_from (nat_lt l.device plant.volumes) (nat_le (512 + v.cylinders * 860160) (plant.lengths (Volume l.device))) has.0
        (le-leb (512 + v.cylinders * 860160) (plant.lengths (Volume l.device)) (omega (arith, large, leb-true (512 + l.cylinders * 860160) (plant.lengths (Volume l.device)) has.1)))

    pub commanded_fits : FitsPlant (with_change (table_after names site.table session command at) change site) plant
    commanded_fits = record {
      home = fits.home;
      controls = fits.controls;
      lengths = fits.lengths;
      rows = ap (λ (l : List PairRow). list_all (row_has_volume plant) l) rows_are ∙ rows_pass (row_has_volume plant) (λ state group r. refl) names at command site.table.rows new_has fits.rows;
      told = fits.told;
      mark = fits.mark;
      session = fits.session ∙ ap (λ (t : Table). t.session) (sym after_is);
      started = ap (λ (t : Table). t.is_started) after_is;
      set = fits.set;
      room = fits.room;
      next = fits.next;
      time = fits.time;
      failed = flags_count 0 change site.failed ∙ fits.failed;
      written = fits.written;
      items = fits.items;
    }

    -- What stands, but for the tracks of a device whose job may be used again.
    module _ (e : Exceptions) (stands : SiteStands e site plant) where
      same_session : site.table.session ≡ (table_after names site.table session command at).session
      same_session = ap (λ (t : Table). t.session) (sym after_is)

      same_means : meant_for site ≡ meant_for (with_change (table_after names site.table session command at) change site)
      same_means = λ i. record { session = same_session i; level = site.level; time = record { 0 = site.time }; table = started_table (same_session i) site.told; from = site.mark.at; ended = site.mark.ended }

      -- A job that may be used again had failed, and its tracks are excepted.
      good_before : (d x : ℕ) → has_failed (with_change (table_after names site.table session command at) change site) d ≡ false → excepted_by_change change site e d x ≡ false → has_failed site d ≡ false
      good_before d x good free = by_flags (has_failed site d) (is_added change d) (e d x) (sym (flag_is d) ∙ good) free
        where
          by_flags : (was added excepted : Bool) → cond added false was ≡ false → (excepted || (was && added)) ≡ false → was ≡ false
          by_flags false added excepted good free = refl
          by_flags true true true good free = absurd (cc free)
          by_flags true true false good free = absurd (cc free)
          by_flags true false excepted good free = absurd (cc good)

      free_before : (d x : ℕ) → excepted_by_change change site e d x ≡ false → e d x ≡ false
      free_before d x free = by_flag (e d x) free
        where
          by_flag : (b : Bool) → (b || (has_failed site d && is_added change d)) ≡ false → b ≡ false
          by_flag true free = absurd (cc free)
          by_flag false free = refl

      failed_or_excepted : (d x : ℕ) → has_failed site d ≡ true → (has_failed (with_change (table_after names site.table session command at) change site) d ≡ true) ⊎ (excepted_by_change change site e d x ≡ true)
      failed_or_excepted d x failed = elim (cases_Bool (is_added change d)) [
        | inl added ↦ inr (or_right (e d x) (has_failed site d && is_added change d) (λ i. failed i && added i))
        | inr other ↦ inl (flag_is d ∙ ap (λ (b : Bool). cond b false (has_failed site d)) other ∙ failed)
      ]

      pub commanded_stands : SiteStands (excepted_by_change change site e) (with_change (table_after names site.table session command at) change site) plant
      commanded_stands = record {
        walk = stands.walk;
        meant = λ c left. stands.meant c left ∙ ap (λ (m : Means). Meant m stands.walk) same_means;
        chosen = stands.chosen;
        at = stands.at;
        last = stands.last;
        control = stands.control;
        state = stands.state;
        journals = stands.journals;
        done = stands.done;
        items = stands.items;
        applied = λ d there good x free. stands.applied d there (good_before d x good free) x (free_before d x free);
        unwritten = λ d there clean x has. elim (stands.unwritten d there clean x has) [
          | inl failed ↦ failed_or_excepted d x failed
          | inr excepted ↦ inr (or_left (e d x) (has_failed site d && is_added change d) excepted)
        ];
      }

  -- ---- another command may come

  pub may_again : MayDo names site → MayCommand names (table_after names site.table session command at).rows → MayDo names (with_change (table_after names site.table session command at) change site)
  may_again may again = record {
    command = again;
    started = ap (λ (t : Table). t.is_started) after_is;
    labels = ap (λ (n : ℕ). list_all (λ label. nat_lt label.device n) names.labels) (flags_count 0 change site.failed) ∙ may.labels;
    rows = (λ i. are_below (flags_count 0 change site.failed i) (rows_are i)) ∙ after_below (length site.failed) names at command site.table.rows may.labels may.rows;
  }

  -- ---- the change is to be logged

  pub change_to_log : site.is_ahead ≡ false → site.told ≡ site.table.rows → (wants_memory command ≡ true → AreRowsSound site.table.rows) → AreRowsSound (table_after names site.table session command at).rows → list_all (λ l. nat_lt l.device (length site.failed)) names.labels ≡ true → are_below (length site.failed) site.table.rows ≡ true
      → IsToLog change (with_change (table_after names site.table session command at) change site)
  change_to_log level told keeps keeps_then labels below = record {
    few = subst (λ (c : Change). named_devices c ≤ 64) was_answered.is (few_named names command site.table.rows (λ wants. omega (arith, (keeps wants).few)));
    ahead = λ some. or_right site.is_ahead (alters change) (alters_some change (table_after names site.table session command at).rows some);
    lead =
        let first = command_leads (length site.failed) names at site.table.rows below command keeps by_itself.starts by_itself.own (subst AreRowsSound rows_are keeps_then) (after_below (length site.failed) names at command site.table.rows labels below) in
        subst (λ (x : Type 0). x) (λ i. Lead (sym (flags_count 0 change site.failed) i) (changed_items (was_answered.is i) (sym rows_are i)) (sym told i) (sym rows_are i)) first;
  }

-- ---- the laws

pub commands_leave : (tells : Type 0) (plant : PlantState) → CommandsLeaveSites tells plant
commands_leave tells plant names site session command at change labels is fits = record {
  fits = commanded_fits names site session command at change is fits.started plant labels fits;
  stands = λ told e stands. commanded_stands names site session command at change is fits.started plant labels fits e stands;
}

pass_with : (test : PairRow → Bool) (row : PairRow) (rows : List PairRow) → test row ≡ true → list_all test rows ≡ true → list_all test (with_row row rows) ≡ true
pass_with test row [] here all = and_from (test row) true here refl
pass_with test row (r ∷ rows) here all =
    let parts = and_parts (test r) (list_all test rows) all in
    by_device (is_of row.device r) (and_from (test row) (list_all test rows) here parts.1) (and_from (test r) (list_all test (with_row row rows)) parts.0 (pass_with test row rows here parts.1))
  where
    by_device : (b : Bool) → list_all test (row ∷ rows) ≡ true → list_all test (r ∷ with_row row rows) ≡ true → list_all test (cond b (row ∷ rows) (r ∷ with_row row rows)) ≡ true
    by_device true put more = put
    by_device false put more = more

pub put_rows_leave : (tells : Type 0) (plant : PlantState) → PutRowsLeaveSites tells plant
put_rows_leave tells plant row site has fits = record {
  fits = record {
    home = fits.home;
    controls = fits.controls;
    lengths = fits.lengths;
    rows = pass_with (row_has_volume plant) row site.table.rows has fits.rows;
    told = fits.told;
    mark = fits.mark;
    session = fits.session;
    started = fits.started;
    set = fits.set;
    room = fits.room;
    next = fits.next;
    time = fits.time;
    failed = fits.failed;
    written = fits.written;
    items = fits.items;
  };
  stands = λ told e stands. record {
    walk = stands.walk;
    meant = stands.meant;
    chosen = stands.chosen;
    at = stands.at;
    last = stands.last;
    control = stands.control;
    state = stands.state;
    journals = stands.journals;
    done = stands.done;
    items = stands.items;
    applied = stands.applied;
    unwritten = stands.unwritten;
  };
}

pub changes_may : (tells : Type 0) (plant : PlantState) → ChangesMayBeLogged tells plant
changes_may tells plant cut change site fast idle late log = record {
  fast = fast;
  idle = idle;
  cut_is = late;
  few = log.few;
  ahead = log.ahead;
  lead = subst (λ (n : ℕ). Lead n (changed_items change site.table.rows) site.told site.table.rows) fast.fits.failed log.lead;
}

-- a command leaves the session's name
pub session_after : (names : Naming) (table : Table) (session : List ℕ) (command : Command) (time : ℕ) → (table_after names table session command time).session ≡ table.session
session_after names table session command time = choose (is_none (refusal names table session command))
  where
    choose : (t : Bool) → (cond t (accepted names time command table) table).session ≡ table.session
    choose true = refl
    choose false = refl
