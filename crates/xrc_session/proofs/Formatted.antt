-- What stands once a site is formatted and the labels are read.
use Rattle.std.proofs.Common.{◌≡◌, inl, inr, ◌⊎◌, ℕ, zero, suc, ◌<◌, ◌≤◌, ◌+◌, ◌*◌, nat_lt, nat_le, true, List, [], ◌∷◌, length, Some, Result, Ok, Err, refl, sym, ap, subst, ◌∙◌, arith}
use Rattle.std.specs.List.{list_all}
use Rattle.std.proofs.lemmas.Bool.{and_from, and_parts}
use Rattle.tod_stamp.specs.declared.stamp.Stamp.{Stamp}
use Rattle.crash_plant.specs.declared.device.Device.{Device}
use Rattle.crash_plant.specs.declared.device.Device.TheVariants.{Control, State, Journal, Volume}
use Rattle.crash_plant.specs.Calls.{NoneLent, WorksOn}
use Rattle.crash_plant.specs.Choices.{Choice, IsChoice}
use Rattle.crash_plant.specs.Moments.{Follows, IsDurable, PlantState, Same, on}
use Rattle.crash_plant.proofs.BehindGates.{same_after}
use Rattle.crash_plant.proofs.Choices.{choices_then, part_still, past_choice}
use Rattle.control_set.specs.Slots.{lengths_of}
use Rattle.applier.specs.Returns.{WorksOnLent}
use Rattle.applier.proofs.Works.{lent_of_works, none_lent_lent, works_lent_more, works_lent_trans}
use Rattle.pair_table.specs.declared.level.Level.{Level}
use Rattle.pair_table.specs.declared.names.NamedDevice.{NamedDevice}
use Rattle.pair_table.specs.Commands.{has_named_primary}
use Rattle.pair_table.specs.Naming.{Naming}
use Rattle.pair_table.specs.Tables.{are_below, most_rows}
use Rattle.record_rows.specs.Hits.{hit_now}
use Rattle.site_means.specs.Images.{Shape}
use Rattle.site_means.specs.Meaning.{chosen_in}
use Rattle.site_means.specs.Sight.{means_of}
use Rattle.site_means.proofs.Goes.{shape_same}
use Rattle.site_store.specs.Commands.{LabelsFit, label_has_volume}
use Rattle.site_store.specs.declared.store_error.StoreError.{StoreError}
use Rattle.site_store.specs.declared.store_error.StoreError.TheVariants as store
use Rattle.site_store.specs.Formats.{AllShutOrMean, HasStartCause, IsFormatted, ShutsOrMeans, started_means}
use Rattle.site_store.specs.Records.{IsStore, IsVolume, VolumesStay}
use Rattle.site_store.specs.Sites.{SiteState, new_site}
use Rattle.site_store.specs.Standing.{FitsPlant, SiteStands, none_excepted}
use Rattle.site_store.proofs.Calls.{all_same}
use Rattle.site_store.proofs.LogReads.{fits_still, stands_read}
use Rattle.xrc_status.specs.declared.stop.Stop.{Stop}
use Rattle.xrc_status.specs.declared.stop.Stop.TheVariants as stops
use Rattle.xrc_session.specs.LinePauses.{MayCommandSite}
use Rattle.xrc_session.specs.Runs.{AreLabelsRead}
use Rattle.xrc_session.specs.Starting.{FormatsFirst, IsSafeThroughout, IsWorkOfStart, MeansStart, ShutsOrStarts, ShutsSite}
use Rattle.xrc_session.specs.Stops.{HasStopCause, StopsByCount, stop_of_store}
use Rattle.xrc_session.proofs.BroughtWorks.{cause_of_device, spent_store}
use Rattle.xrc_session.proofs.Labelled.{read_since}

-- any device
abbrev pub IsAnyDevice : Device → Type 0
IsAnyDevice d = Unit {0}

pub on_any : (tells : Type 0) (among : Device → Type 0) (old new : PlantState) → WorksOn tells among old new → WorksOnLent tells IsAnyDevice old new
on_any tells among old new works = works_lent_more tells among IsAnyDevice old new (λ d is. tt) (lent_of_works tells among old new works)

-- ---- safe

-- What means the start of a session.
pub starts_of : (session : List ℕ) (level : Level) (at : Stamp) (plant : PlantState) (c : Choice) → means_of plant c ≡ Some (started_means session level at) → MeansStart session level at.0 plant c
starts_of session level at plant c meant = record { means = started_means session level at; defined = meant; session_is = refl; level_is = refl; time = refl; rows = refl; ended = refl }

-- a choice that has the journals after the first of another one
abbrev with_journals : (b c : Choice) → Choice
with_journals b c Control = b Control
with_journals b c State = b State
with_journals b c (Journal zero) = b (Journal zero)
with_journals b c (Journal (suc j)) = c (Journal (suc j))
with_journals b c (Volume v) = b (Volume v)

journals_are : (b c : Choice) (j : ℕ) → 1 ≤ j → c (Journal j) ≡ with_journals b c (Journal j)
journals_are b c zero after = absurd (omega (arith, after))
journals_are b c (suc j) after = refl

-- The format leaves the journals after the first alone. So what a crash leaves of them it could leave before.
journals_could : (tells : Type 0) → tells → (old new : PlantState) → WorksOn tells IsFormatted old new → (t : ℕ) → old.clock ≤ t → t ≤ new.clock → (b c : Choice) → IsChoice old old.clock b → IsChoice new t c → IsChoice old old.clock (with_journals b c)
journals_could tells told old new works t from to b c was is Control part = was Control part
journals_could tells told old new works t from to b c was is State part = was State part
journals_could tells told old new works t from to b c was is (Journal zero) part = was (Journal zero) part
journals_could tells told old new works t from to b c was is (Journal (suc j)) part =
    let stays = works.others told (Journal (suc j)) (λ (first : suc j ≡ 0). absurd (omega (arith, first))) in
    let start = stays.images t from to (c (Journal (suc j))) (is (Journal (suc j)) (part_still old new (Journal (suc j)) works.site part)) in
    subst (λ (l : List ℕ). old.images old.clock (Journal (suc j)) l) (sym start.2) start.1
journals_could tells told old new works t from to b c was is (Volume v) part = was (Volume v) part

shuts_or_means : (session : List ℕ) (level : Level) (at : Stamp) (tells : Type 0) → tells → (old new : PlantState) → WorksOn tells IsFormatted old new → AllShutOrMean (started_means session level at) old new → IsDurable (on old Control) → (t : ℕ) → old.clock ≤ t → t ≤ new.clock → (c : Choice) → IsChoice new t c
    → (x : Choice) × IsChoice old old.clock x × (ShutsSite (lengths_of old) x c ⊎ (means_of old c ≡ Some (started_means session level at)))
shuts_or_means session level at tells told old new works all durable t from to c is =
    let was = all durable t from to c is in by_step was.0 was.1 was.2
  where
    by_step : (b : Choice) → IsChoice old old.clock b → ShutsOrMeans old (started_means session level at) b c → (x : Choice) × IsChoice old old.clock x × (ShutsSite (lengths_of old) x c ⊎ (means_of old c ≡ Some (started_means session level at)))
    by_step b was (inl shuts) = (
      with_journals b c,
      journals_could tells told old new works t from to b c was is,
      inl (record { first = record { control = shuts.control; before = shuts.before }; journals = journals_are b c }),
    )
    by_step b was (inr means) = (b, was, inr means)

pub shuts_or_starts : (session : List ℕ) (level : Level) (at : Stamp) (tells : Type 0) → tells → (old new : PlantState) → WorksOn tells IsFormatted old new → AllShutOrMean (started_means session level at) old new → IsSafeThroughout session level at.0 old new
shuts_or_starts session level at tells told old new works all durable t from to c is =
    let was = shuts_or_means session level at tells told old new works all durable t from to c is in
    (was.0, was.1, elim was.2 [ inl shuts ↦ inl shuts | inr means ↦ inr (starts_of session level at old c means) ])

-- ---- the format's own stop

stops_of_format : (d : Device) → IsFormatted d → IsStore d
stops_of_format Control is = tt
stops_of_format State is = tt
stops_of_format (Journal j) is = tt
stops_of_format (Volume v) is = absurd is

pub store_of_format : (old new : PlantState) (r : Result SiteState StoreError) (error : StoreError) → r ≡ Err error → HasStartCause old new r → (d : Device) → error ≡ store.Fault d → IsStore d
store_of_format old new r error is cause d fault = stops_of_format d (cause.fault d (is ∙ ap (λ (e : StoreError). Err e) fault)).0

cause_of_format : (old new : PlantState) (r : Result SiteState StoreError) (error : StoreError) → r ≡ Err error → HasStartCause old new r → HasStopCause old new (stop_of_store error)
cause_of_format old new r (store.Fault d) is cause = let fault = cause.fault d is in cause_of_device old new d (stops_of_format d fault.0) fault.1
cause_of_format old new r store.Spent is cause = tt
cause_of_format old new r store.NoMemory is cause = tt

-- Volumes that aren't worked on stay.
pub volumes_of : (tells : Type 0) (among : Device → Type 0) (old new : PlantState) → ((v : ℕ) → ¬ among (Volume v)) → WorksOn tells among old new → VolumesStay tells old new
volumes_of tells among old new out works = record {
  bytes = λ told d. (works.others told (Volume d) (out d)).bytes;
  images = λ told d. (works.others told (Volume d) (out d)).images;
}

not_formatted : (v : ℕ) → ¬ IsFormatted (Volume v)
not_formatted v = λ is. is

-- Numbers of a start aren't spent by its format.
pub format_unspent : (old new : PlantState) (r : Result SiteState StoreError) (error : StoreError) → r ≡ Err error → HasStartCause old new r → stop_of_store error ≡ stops.Spent → ⊥
format_unspent old new r error is cause stop = cause.spent (is ∙ ap (λ (e : StoreError). Err e) (spent_store error stop))

-- A start that its format stops.
pub format_stops : (tells : Type 0) (old new : PlantState) (r : Result SiteState StoreError) (error : StoreError) → r ≡ Err error → NoneLent old → WorksOn tells IsFormatted old new → HasStartCause old new r → {T : Type 0} → IsWorkOfStart {T = T} tells old new (Err (stop_of_store error))
format_stops tells old new r error is home works cause = record {
  site = works.site;
  home = none_lent_lent tells IsFormatted old new (lent_of_works tells IsFormatted old new works) home;
  elapses = works.elapses;
  silent = works.silent;
  volumes = volumes_of tells IsFormatted old new not_formatted works;
  cause = cause_of_format old new r error is cause;
  counts = record {
    devices = λ d of none. cause.others d (λ fault. none (let same : error ≡ store.Fault d = cc (is, fault) in ap (λ (e : StoreError). Err (stop_of_store e)) same));
    console = λ none. works.console_faults;
    later = works.faults;
    console_later = (let same = works.console_faults in omega (arith, same));
    console_once = (let same = works.console_faults in omega (arith, same));
  };
  spent = λ told spent. let stop : stop_of_store error ≡ stops.Spent = cc spent in absurd (format_unspent old new r error is cause stop);
}

-- ---- after the labels

module _ (tells : Type 0) (session : List ℕ) (level : Level) (controls : ℕ) (at : Stamp) (old mid new : PlantState) (home : NoneLent old) (formats : WorksOn tells IsFormatted old mid) (reads : WorksOn tells IsVolume mid new) (stay : VolumesStay tells mid new) where
  works : WorksOnLent tells IsAnyDevice old new
  works = works_lent_trans tells IsAnyDevice old mid new (on_any tells IsFormatted old mid formats) (on_any tells IsVolume mid new reads)

  pub still_home : NoneLent new
  still_home = none_lent_lent tells IsAnyDevice old new works home

  -- The labels are read alone.
  read_moments : tells → (d : Device) → Follows Same (on mid d) (on new d)
  read_moments told Control = (reads.others told Control (λ is. is)).images
  read_moments told State = (reads.others told State (λ is. is)).images
  read_moments told (Journal j) = (reads.others told (Journal j) (λ is. is)).images
  read_moments told (Volume v) = stay.images told v

  read_bytes : tells → (d : Device) → new.bytes d ≡ mid.bytes d
  read_bytes told Control = (reads.others told Control (λ is. is)).bytes
  read_bytes told State = (reads.others told State (λ is. is)).bytes
  read_bytes told (Journal j) = (reads.others told (Journal j) (λ is. is)).bytes
  read_bytes told (Volume v) = stay.bytes told v

  first_stay : VolumesStay tells old mid
  first_stay = volumes_of tells IsFormatted old mid not_formatted formats

  pub volumes_still : VolumesStay tells old new
  volumes_still = record {
    bytes = λ told d. stay.bytes told d ∙ first_stay.bytes told d;
    images = λ told d. same_after (on old (Volume d)) (on mid (Volume d)) (on new (Volume d)) Same ((formats.elapses told).kept (Volume d)) (first_stay.images told d) ((reads.elapses told).kept (Volume d)) (stay.images told d);
  }

  pub labels_of_start : tells → (labels : List NamedDevice) → AreLabelsRead mid new labels → AreLabelsRead old new labels
  labels_of_start told labels read = read_since old mid new labels formats.site (first_stay.bytes told) (λ d. formats.others_faults (Volume d) (not_formatted d)) read

  pub stands_still : tells → (site : SiteState) → SiteStands none_excepted site mid → SiteStands none_excepted site new
  stands_still told site stands =
      stands_read mid new reads.site (read_bytes told) (read_moments told) ((reads.elapses told).kept Control).later none_excepted site site.failed (λ d is. is) (λ d is. is) stands

  pub fits_new : (site : SiteState) → FitsPlant site mid → FitsPlant site new
  fits_new site fits = fits_still mid new reads.site site still_home fits

  -- Any command may come to the new site.
  pub may_command : (names : Naming) (site : SiteState) → site ≡ new_site controls old.volumes session level at → FitsPlant site mid → (tells → SiteStands none_excepted site mid) → LabelsFit new names → MayCommandSite tells names new site
  may_command names site is fits stands labels = record {
    idle = record {
      may = record {
        fast = record { fits = fits_new site fits; stands = λ told. (none_excepted, stands_still told site (stands told)) };
        level = ap (λ (s : SiteState). s.is_ahead) is;
        idle = ap (λ (s : SiteState). s.waiting) is;
      };
      same = ap (λ (s : SiteState). s.told) is ∙ sym (ap (λ (s : SiteState). s.table.rows) is);
    };
    told = ap (λ (s : SiteState). hit_now s.failed s.told) is;
    commands = record {
      command = record {
        named = ap (λ (s : SiteState). list_all (has_named_primary names) s.table.rows) is;
        below = ap (λ (s : SiteState). are_below most_rows s.table.rows) is;
      };
      started = ap (λ (s : SiteState). s.table.is_started) is;
      labels = labels_below names.labels labels;
      rows = ap (λ (s : SiteState). are_below (length s.failed) s.table.rows) is;
    };
    labels = labels;
  }
    where
      count : new.volumes ≡ length site.failed
      count = sym (fits_new site fits).failed

      labels_below : (labels : List NamedDevice) → list_all (label_has_volume new) labels ≡ true → list_all (λ label. nat_lt label.device (length site.failed)) labels ≡ true
      labels_below [] fit = refl
      labels_below (l ∷ labels) fit =
          let parts = and_parts (label_has_volume new l) (list_all (label_has_volume new) labels) fit in
          let first = and_parts (nat_lt l.device new.volumes) (nat_le (512 + l.cylinders * 860160) (new.lengths (Volume l.device))) parts.0 in
          and_from (nat_lt l.device (length site.failed)) (list_all (λ label. nat_lt label.device (length site.failed)) labels) (ap (λ (n : ℕ). nat_lt l.device n) (sym count) ∙ first.0) (labels_below labels parts.1)

  -- It is safe throughout: what a crash leaves in the reads is what it could leave before them.
  pub safe_new : tells → AllShutOrMean (started_means session level at) old mid → IsSafeThroughout session level at.0 old new
  safe_new told all durable =
      choices_then old mid new (ShutsOrStarts session level at.0 old) (λ y z. (d : Device) → z d ≡ y d) (ShutsOrStarts session level at.0 old)
      ((formats.elapses told).kept Control).later (shuts_or_starts session level at tells told old mid formats all durable) reads.site (reads.elapses told) (all_same mid new reads.site (read_moments told))
      (λ x y was step. step) (λ x y z was here step same. subst (λ (c : Choice). ShutsOrStarts session level at.0 old x c) (λ i d. sym (same d) i) step)

  -- It was formatted first.
  pub formats_new : (told : tells) → AllShutOrMean (started_means session level at) old mid → (site : SiteState) → site ≡ new_site controls old.volumes session level at → SiteStands none_excepted site mid → 0 < old.clock → IsDurable (on old Control) → FormatsFirst session level at.0 old new new.clock
  formats_new told all site is stands up durable =
      let later = ((formats.elapses told).kept Control).later in
      let now : 0 < mid.clock = omega (arith, up, later) in
      record {
        formatted_at = mid.clock;
        since = later;
        within = ((reads.elapses told).kept Control).later;
        before = λ t from to c left. shuts_or_means session level at tells told old mid formats all durable t from to c (past_choice mid new t c reads.site (reads.elapses told) now to left);
        first = λ c left.
            ap (λ (s : Shape). chosen_in s c) (sym (shape_same old mid formats.site)) ∙ stands.chosen c (past_choice mid new mid.clock c reads.site (reads.elapses told) now (omega arith) left)
            ∙ ap (λ (s : SiteState). Ok (Some s.mark)) is;
      }

  -- A start goes on, if the format ended well.
  counts_new : {T : Type 0} → (result : Result T Stop) → ((d : Device) → mid.faults d ≡ old.faults d) → StopsByCount old new result
  counts_new result none = record {
    devices = λ d of not. reads.others_faults d (store_or_volume d of) ∙ none d;
    console = λ not. reads.console_faults ∙ formats.console_faults;
    later = λ d. (let first = formats.faults d in let then = reads.faults d in omega (arith, first, then));
    console_later = (let first = formats.console_faults in let then = reads.console_faults in omega (arith, first, then));
    console_once = (let first = formats.console_faults in let then = reads.console_faults in omega (arith, first, then));
  }
    where
      store_or_volume : (d : Device) → IsStore d → ¬ IsVolume d
      store_or_volume Control of = λ is. is
      store_or_volume State of = λ is. is
      store_or_volume (Journal j) of = λ is. is
      store_or_volume (Volume v) of = absurd of

  pub work_goes_on : {T : Type 0} → (value : T) → ((d : Device) → mid.faults d ≡ old.faults d) → IsWorkOfStart {T = T} tells old new (Ok value)
  work_goes_on value none = record {
    site = works.site;
    home = still_home;
    elapses = works.elapses;
    silent = works.silent;
    volumes = volumes_still;
    cause = tt;
    counts = counts_new (Ok value) none;
    spent = λ told is. absurd (cc is);
  }

  pub work_without : {T : Type 0} → ((d : Device) → mid.faults d ≡ old.faults d) → IsWorkOfStart {T = T} tells old new (Err stops.NoMemory)
  work_without none = record {
    site = works.site;
    home = still_home;
    elapses = works.elapses;
    silent = works.silent;
    volumes = volumes_still;
    cause = tt;
    counts = counts_new (Err stops.NoMemory) none;
    spent = λ told is. absurd (cc is);
  }
