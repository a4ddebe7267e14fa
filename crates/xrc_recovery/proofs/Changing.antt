-- What is said after a recovery, and what stays of the recovery then.
use Rattle.std.proofs.Common.{◌≡◌, ◌≢◌, ◌≤◌, ◌<◌, ◌++◌, inl, inr, ℕ, List, [], ◌∷◌, true, length, take, refl, sym, ◌∙◌, ap, subst, arith, length-append}
use Rattle.std.specs.Prelude.{Contains, filter, slice_index_or}
use Rattle.std.proofs.lemmas.Bool.{cases_lt}
use Rattle.std.proofs.lemmas.List.{append-nil}
use Rattle.std.proofs.lemmas.List.Elements.{All-head, All-same, All-weaker, filter_passes}
use Rattle.crash_plant.specs.declared.device.Device.{Device}
use Rattle.crash_plant.specs.declared.device.Device.TheVariants.{Control, Volume}
use Rattle.crash_plant.specs.Moments.{PlantState, on, IsDurable, Same, Stays}
use Rattle.crash_plant.specs.Calls.{Elapses, Says, Silent, WorksOnConsole}
use Rattle.crash_plant.specs.Choices.{AllFollow, AtNow, Choice}
use Rattle.crash_plant.proofs.Choices.{part_still, past_choice}
use Rattle.crash_plant.proofs.Steps.{elapses_trans, follows_then, none_lent_console, site_trans}
use Rattle.pair_table.specs.declared.row.PairRow.{PairRow}
use Rattle.xrc_journal.specs.Items.{Item}
use Rattle.xrc_journal.specs.Jobs.{FailsByCount}
use Rattle.site_means.proofs.ReadAll.{reads_none}
use Rattle.xrecover.specs.Pairs.{AreFaulty, duplex_devices}
use Rattle.pair_table.specs.States.{is_duplex}
use Rattle.xrecover.specs.declared.labelling.Labelling.{Labelling}
use Rattle.xrecover.specs.declared.labelling.Labelling.TheVariants.{AsPrimary, AsItIs}
use Rattle.xrecover.specs.RedoneVolumes.{BearsLabel, Draws, HoldsTracks, IsRedone, Recovers, Redone}
use Rattle.xrecover.specs.Works.{Nothing, Works}
use Rattle.xrecover.specs.Labels.{AreNamed, LabelsLast, TreatsLabels}
use Rattle.xrecover.proofs.Labels.{keeps_same, keeps_then, last_before, named_still}
use Rattle.xrecover.proofs.Relations.{recovers_same}
use Rattle.xrecover.proofs.Works.{works_more, works_reads}
use Rattle.xrc_recovery.specs.Reports.{Changes, IsDoneBefore}
use Rattle.xrc_recovery.specs.Stops.{HasFailure}

-- ---- what is said after calls that say nothing

module _ (text : List ℕ) (a b c : PlantState) (past : Elapses b c) (quiet : Silent a b) (says : Says text b c) (later : a.clock ≤ b.clock) where
  still_said : (t : ℕ) → a.clock ≤ t → t < b.clock → c.said t ≡ a.said a.clock
  still_said t from early = past.said t (omega (arith, early)) (omega (arith, early)) ∙ quiet.said t from (omega (arith, early))

  said_then : (t : ℕ) → b.clock ≤ t → t ≤ c.clock → (k : ℕ) × (k ≤ length text) × (c.said t ≡ a.said a.clock ++ take k text)
  said_then t late to =
      let s = says.front t late to in
      (s.0, s.1, s.2 ∙ ap (λ (l : List ℕ). l ++ take s.0 text) (quiet.said b.clock later (omega arith)))

  pub says_after : Says text a c
  says_after = record {
    front = λ t from to. elim (cases_lt t b.clock) [
      | inl early ↦ (0, omega arith, still_said t from early ∙ sym (append-nil (a.said a.clock)))
      | inr late ↦ said_then t late to
    ];
    grows = λ s t from le to. elim (cases_lt s b.clock) [
      | inl early ↦ elim (cases_lt t b.clock) [
        | inl soon ↦ omega (arith, ap length (still_said s from early), ap length (still_said t (omega (arith, from, le)) soon))
        | inr late ↦
            let f = said_then t late to in
            omega (arith, ap length (still_said s from early), ap length f.2, length-append (a.said a.clock) (take f.0 text))
      ]
      | inr late ↦ says.grows s t late le to
    ];
    heard = λ t from to. elim (cases_lt t b.clock) [
      | inl early ↦ past.heard t (omega (arith, early)) (omega (arith, early)) ∙ quiet.heard t from (omega (arith, early))
      | inr late ↦ says.heard t late to ∙ quiet.heard b.clock later (omega arith)
    ];
    script = says.script ∙ quiet.script;
  }

-- ---- what changes

pub changes_of : (tells : Type 0) (step : Device → List ℕ → List ℕ → Type 0) (a b : PlantState) → Works tells step a b → Changes tells step a b
changes_of tells step a b w = record {
  site = w.site;
  home = w.home;
  elapses = w.elapses;
  bytes = w.bytes;
  moments = w.moments;
  faults = w.faults;
  console_faults = omega (arith, w.console_faults);
}

-- Calls on the console change no device.
pub changes_more : (tells : Type 0) (step : Device → List ℕ → List ℕ → Type 0) (a b c : PlantState) → Changes tells step a b → WorksOnConsole tells b c → b.console_faults ≤ c.console_faults → Changes tells step a c
changes_more tells step a b c w o later = record {
  site = site_trans a b c w.site o.site;
  home = λ none. none_lent_console tells b c o (w.home none);
  elapses = λ told. elapses_trans Control a b c (w.elapses told) (o.elapses told);
  bytes = λ told d. subst (λ (l : List ℕ). step d (a.bytes d) l) (sym (o.devices told d).bytes) (w.bytes told d);
  moments = λ told d. follows_then (on a d) (on b d) (on c d) (step d) Same (step d) ((w.elapses told).kept d).later (w.moments told d) ((o.elapses told).kept d) (o.devices told d).images (λ p q here s. s) (λ p q r here there s same. subst (λ (l : List ℕ). step d p l) (sym same) s);
  faults = λ d. omega (arith, w.faults d, o.faults d);
  console_faults = omega (arith, w.console_faults, later);
}

pub changes_then : (tells : Type 0) (step : Device → List ℕ → List ℕ → Type 0) (a b c : PlantState) → Works tells step a b → WorksOnConsole tells b c → b.console_faults ≤ c.console_faults → Changes tells step a c
changes_then tells step a b c w o later = changes_more tells step a b c (changes_of tells step a b w) o later

-- no call
pub works_here : (tells : Type 0) (rows : List PairRow) (items : List Item) (a : PlantState) → Works tells (Recovers rows items) a a
works_here tells rows items a = works_more tells Nothing (Recovers rows items) a a (λ told d x y e. recovers_same rows items d x y e) (works_reads tells a a (reads_none tells a))

pub nothing_here : (tells : Type 0) (a : PlantState) → Works tells Nothing a a
nothing_here tells a = works_reads tells a a (reads_none tells a)

-- At every moment of calls on the console a crash leaves what it left when they began.
pub follow_then : (R : Choice → Choice → Type 0) (tells : Type 0) (a b c : PlantState) → tells → a.clock ≤ b.clock → AllFollow R a b → WorksOnConsole tells b c → AllFollow R a c
follow_then R tells a b c told later f o t from to z is = elim (cases_lt t b.clock) [
  | inl early ↦ f t from (omega (arith, early)) z (past_choice b c t z o.site (o.elapses told) (omega (arith, early)) (omega (arith, early)) is)
  | inr late ↦
      f b.clock later (omega arith) z (λ d part.
      let start = (o.devices told d).images t late to (z d) (is d (part_still b c d o.site part)) in
      subst (λ (l : List ℕ). b.images b.clock d l) (sym start.2) start.1)
]

-- What is so of whatever a crash leaves stays so.
pub now_then : (P : Choice → Type 0) (tells : Type 0) (b c : PlantState) → tells → AtNow P b → WorksOnConsole tells b c → AtNow P c
now_then P tells b c told now o z is = now z (λ d part.
    let start = (o.devices told d).images c.clock ((o.elapses told).kept d).later (omega arith) (z d) (is d (part_still b c d o.site part)) in
    subst (λ (l : List ℕ). b.images b.clock d l) (sym start.2) start.1)

labels_then : (tells : Type 0) (items : List Item) (a b c : PlantState) → tells → a.clock ≤ b.clock → ((v : ℕ) → LabelsLast v items (on a (Volume v)) (on b (Volume v))) → WorksOnConsole tells b c → (v : ℕ) → LabelsLast v items (on a (Volume v)) (on c (Volume v))
labels_then tells items a b c told later last o v = last_before v items (on a (Volume v)) (on b (Volume v)) (on c (Volume v)) later (last v) ((o.elapses told).kept (Volume v)) (o.devices told (Volume v)).images (o.devices told (Volume v)).bytes

named_console : (tells : Type 0) (rows : List PairRow) (a b c : PlantState) → tells → AreNamed rows a b → WorksOnConsole tells b c → AreNamed rows a c
named_console tells rows a b c told named o k d lt duplex =
    let row = slice_index_or rows k d in
    named_still row a b c (o.devices told (Volume row.device)).bytes (o.faults (Volume row.device)) (named k d lt duplex)

-- Calls on the console change no label.
pub treats_console : (labelling : Labelling) (tells : Type 0) (rows : List PairRow) (items : List Item) (a b c : PlantState) → tells → a.clock ≤ b.clock → TreatsLabels labelling rows items a b → WorksOnConsole tells b c → TreatsLabels labelling rows items a c
treats_console AsPrimary tells rows items a b c told later treats o = (labels_then tells items a b c told later treats.0 o, named_console tells rows a b c told treats.1 o)
treats_console AsItIs tells rows items a b c told later treats o = λ v.
    let stays = o.devices told (Volume v) in
    keeps_then (on a (Volume v)) (on b (Volume v)) (on c (Volume v)) later (treats v) ((o.elapses told).kept (Volume v)) (keeps_same (on b (Volume v)) (on c (Volume v)) stays.bytes stays.images)

-- ---- what was redone

module _ (a b c : PlantState) (devices : (d : Device) → Stays (on b d) (on c d)) where
  durable_then : (d : Device) → IsDurable (on b d) → (t : ℕ) → b.clock ≤ t → t ≤ c.clock → (x : List ℕ) → c.images t d x → x ≡ c.bytes d
  durable_then d durable t late to x left =
      let start = (devices d).images t late to x left in
      start.2 ∙ durable start.0 start.1 ∙ sym (devices d).bytes

  pub redone_then : (labelling : Labelling) (rows : List PairRow) (items : List Item) (failed : List ℕ) → b.clock ≤ c.clock → Redone labelling rows items failed a b → Redone labelling rows items failed a c
  redone_then labelling rows items failed later redone = All-weaker
      (λ row. is_duplex row.state ≡ true → ¬ Contains failed row.device → IsRedone labelling row items a b)
      (λ row. is_duplex row.state ≡ true → ¬ Contains failed row.device → IsRedone labelling row items a c)
      (λ row was duplex good.
      let r = was duplex good in
      let same = sym (devices (Volume row.device)).bytes in
      record {
        draws = subst (λ (l : List ℕ). Draws row.device items (a.bytes (Volume row.device)) l) same r.draws;
        content = subst (λ (l : List ℕ). HoldsTracks row.device items (a.bytes (Volume row.device)) l) same r.content;
        label = subst (λ (l : List ℕ). BearsLabel labelling row (a.bytes (Volume row.device)) l) same r.label;
        durable = λ x left. durable_then (Volume row.device) r.durable c.clock later (omega arith) x left;
      })
      rows redone

  pub done_before : (labelling : Labelling) (rows : List PairRow) (items : List Item) (failed : List ℕ) → Elapses b c → Silent a b → Redone labelling rows items failed a b → IsDoneBefore rows failed a c
  done_before labelling rows items failed past quiet redone t from to differs = elim (cases_lt t b.clock) [
    | inl early ↦ absurd (differs (past.said t (omega (arith, early)) (omega (arith, early)) ∙ quiet.said t from (omega (arith, early))))
    | inr late ↦
        All-weaker
        (λ row. is_duplex row.state ≡ true → ¬ Contains failed row.device → IsRedone labelling row items a b)
        (λ row. is_duplex row.state ≡ true → ¬ Contains failed row.device → (x : List ℕ) → c.images t (Volume row.device) x → x ≡ c.bytes (Volume row.device))
        (λ row was duplex good x left. durable_then (Volume row.device) (was duplex good).durable t late to x left)
        rows redone
  ]

  -- What was so before more is said stays so.
  pub done_more : (labelling : Labelling) (rows : List PairRow) (items : List Item) (failed : List ℕ) → Elapses b c → Redone labelling rows items failed a b → IsDoneBefore rows failed a b → IsDoneBefore rows failed a c
  done_more labelling rows items failed past redone done t from to differs = elim (cases_lt t b.clock) [
    | inl early ↦
        All-weaker
        (λ row. is_duplex row.state ≡ true → ¬ Contains failed row.device → (x : List ℕ) → b.images t (Volume row.device) x → x ≡ b.bytes (Volume row.device))
        (λ row. is_duplex row.state ≡ true → ¬ Contains failed row.device → (x : List ℕ) → c.images t (Volume row.device) x → x ≡ c.bytes (Volume row.device))
        (λ row was duplex good x left.
        was duplex good x ((past.kept (Volume row.device)).same t (omega (arith, early)) (omega (arith, early)) x left) ∙ sym (devices (Volume row.device)).bytes)
        rows (done t from (omega (arith, early)) (λ same. differs (past.said t (omega (arith, early)) (omega (arith, early)) ∙ same)))
    | inr late ↦
        All-weaker
        (λ row. is_duplex row.state ≡ true → ¬ Contains failed row.device → IsRedone labelling row items a b)
        (λ row. is_duplex row.state ≡ true → ¬ Contains failed row.device → (x : List ℕ) → c.images t (Volume row.device) x → x ≡ c.bytes (Volume row.device))
        (λ row was duplex good x left. durable_then (Volume row.device) (was duplex good).durable t late to x left)
        rows redone
  ]

-- ---- what failed

pub faulty_then : (rows : List PairRow) (before now after : Device → ℕ) (failed : List ℕ) → ((d : Device) → after d ≡ now d) → AreFaulty rows before now failed → AreFaulty rows before after failed
faulty_then rows before now after failed same faulty = record {
  has_failed = faulty.has_failed;
  listed = faulty.listed;
  are_duplex = faulty.are_duplex;
  counted = λ v. subst (λ (n : ℕ). FailsByCount (faulty.has_failed v) (before (Volume v)) n) (sym (same (Volume v))) (faulty.counted v);
}

pub has_failure : (rows : List PairRow) (before now : Device → ℕ) (failed : List ℕ) → failed ≢ [] → AreFaulty rows before now failed → HasFailure before now
has_failure rows before now [] some faulty = absurd (some refl)
has_failure rows before now (v ∷ rest) some faulty =
    let passes = All-same (λ w. faulty.has_failed w ≡ true) (v ∷ rest) (filter faulty.has_failed (duplex_devices rows)) faulty.listed (filter_passes faulty.has_failed (duplex_devices rows)) in
    (v, (faulty.counted v).rose (All-head (λ w. faulty.has_failed w ≡ true) v rest passes))
