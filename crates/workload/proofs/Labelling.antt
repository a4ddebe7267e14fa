-- Volumes that are labelled one after another.
use Rattle.std.proofs.Common.{◌≡◌, ◌≢◌, inl, inr, ℕ, ◌+◌, ◌≤◌, ◌<◌, Bool, true, false, cond, List, nat_lt, replicate, length, refl, sym, ◌∙◌, ap, subst, arith}
use Rattle.std.proofs.lemmas.Bool.{cases_eq, cases_lt, lt-ltb, le-ltb}
use Rattle.std.proofs.lemmas.List.{length-replicate}
use Rattle.crash_plant.specs.declared.device.Device.TheVariants.{Control, State, Journal, Volume}
use Rattle.crash_plant.specs.Bytes.{patched}
use Rattle.crash_plant.specs.Calls.{IsThere}
use Rattle.crash_plant.specs.NewPlants.{IsMade}
use Rattle.crash_plant.specs.Moments.{PlantState}
use Rattle.crash_plant.specs.PlainLaws.{plain_length_told}
use Rattle.crash_plant.specs.PlainPlant.{plain_state}
use Rattle.crash_plant.specs.declared.layout.TheConstants.{CONTROL_LENGTH, STATE_LENGTH}
use Rattle.crash_plant.specs.declared.plain_plant.PlainPlant.{PlainPlant}
use Rattle.crash_plant.proofs.Steps.{loan_trans, site_trans}
use Rattle.volume_label.specs.Labels.{label_spelling, volume_need}
use Rattle.xrc_journal.specs.Lengths.{journal_length}
use Rattle.workload.specs.Scripts.{generated_script}
use Rattle.workload.specs.Sites.{HoldsInput, IsLabelledUpTo, LabelsVolume, blank_volume, generated_label, labelled_volume, volume_after, zero_bytes}
use Rattle.workload.proofs.Leaving.{console_then, loan_here}

-- ---- what a volume holds

chosen : (count v : ℕ) (b : Bool) → nat_lt v count ≡ b → volume_after count v ≡ cond b (labelled_volume v) blank_volume
chosen count v b is = ap (λ (t : Bool). cond t (labelled_volume v) blank_volume) is

pub labelled_before : (count v : ℕ) → v < count → volume_after count v ≡ labelled_volume v
labelled_before count v lt = chosen count v true (lt-ltb v count lt)

pub blank_after : (count v : ℕ) → count ≤ v → volume_after count v ≡ blank_volume
blank_after count v le = chosen count v false (le-ltb v count le)

kept_by_next : (count v : ℕ) → v ≢ count → volume_after (count + 1) v ≡ volume_after count v
kept_by_next count v other = elim (cases_lt v count) [
  | inl before ↦ labelled_before (count + 1) v (omega (arith, before)) ∙ sym (labelled_before count v before)
  | inr after ↦ blank_after (count + 1) v (omega (arith, after, other)) ∙ sym (blank_after count v after)
]

-- ---- one label more

volume_is : (v w : ℕ) → Volume v ≡ Volume w → v ≡ w
volume_is v w same = cc

module _ (made a b : PlantState) (count : ℕ) where
  pub one_label_more : count < 8 → IsLabelledUpTo count made a → LabelsVolume count a b → IsLabelledUpTo (count + 1) made b
  one_label_more few so_far labels = record {
    volumes = λ v lt. elim (cases_eq v count) [
      | inl here ↦
          subst (λ (w : ℕ). b.bytes (Volume w) ≡ volume_after (count + 1) w) (sym here)
          (labels.bytes ∙ ap (λ (l : List ℕ). patched 0 (label_spelling (generated_label count)) l) (so_far.volumes count few ∙ blank_after count count (omega arith))
          ∙ sym (labelled_before (count + 1) count (omega arith)))
      | inr other ↦ labels.others (Volume v) (λ same. other (volume_is v count same)) ∙ so_far.volumes v lt ∙ sym (kept_by_next count v other)
    ];
    others = λ d no_volume. labels.others d (no_volume count) ∙ so_far.others d no_volume;
    site = site_trans made a b so_far.site labels.site;
    loans = λ w. loan_trans w made a b (so_far.loans w) (labels.loans w);
    faults = λ d. labels.faults d ∙ so_far.faults d;
    console = console_then made a b so_far.console labels.console;
  }

-- ---- the first, and the last

zeros_are : (count : ℕ) → replicate count 0 ≡ zero_bytes count
unfolding zero_bytes
zeros_are count = refl

module _ (journal volume : ℕ) (script : List ℕ) (made : PlantState) (is : IsMade 2 journal 8 volume script made) where
  pub none_labelled : volume ≡ volume_need 1 → IsLabelledUpTo 0 made made
  none_labelled size = record {
    volumes = λ v lt. is.each_volume v lt ∙ zeros_are volume ∙ ap (λ (n : ℕ). zero_bytes n) size ∙ sym (blank_after 0 v (omega arith));
    others = λ d no_volume. refl;
    site = record { journals = refl; volumes = refl; lengths = λ d. refl };
    loans = λ w. loan_here w made;
    faults = λ d. refl;
    console = record { heard = refl; said = refl; script = refl; console_faults = refl };
  }

  module _ (plant : PlantState) where
    pub volume_is_there : (count v : ℕ) → v < 8 → IsLabelledUpTo count made plant → IsThere plant (Volume v)
    volume_is_there count v lt so_far = (omega (arith, lt, so_far.site.volumes, is.has_volumes), (so_far.loans v).is_lent ∙ is.none_lent v (omega (arith, lt, is.has_volumes)))

    pub all_labelled : journal ≡ journal_length 4 → script ≡ generated_script → IsLabelledUpTo 8 made plant → HoldsInput plant
    all_labelled size text done = record {
      has_journals = done.site.journals ∙ is.has_journals;
      has_volumes = done.site.volumes ∙ is.has_volumes;
      control = done.others Control (λ v same. cc same) ∙ is.control ∙ zeros_are CONTROL_LENGTH;
      state = done.others State (λ v same. cc same) ∙ is.state ∙ zeros_are STATE_LENGTH;
      each_journal = λ j lt. done.others (Journal j) (λ v same. cc same) ∙ is.each_journal j lt ∙ zeros_are journal ∙ ap (λ (n : ℕ). zero_bytes n) size;
      each_volume = λ v lt. done.volumes v lt ∙ labelled_before 8 v lt;
      heard = done.console.heard ∙ is.heard;
      said = done.console.said ∙ is.said;
      is_to_hear = done.console.script ∙ is.is_to_hear ∙ text;
      none_lent = λ v lt. (done.loans v).is_lent ∙ is.none_lent v (omega (arith, lt, done.site.volumes));
      faults = λ d. done.faults d ∙ is.faults d;
      console_faults = done.console.console_faults ∙ is.console_faults;
    }

-- A volume of a plant in memory stays as long as it was made.
pub volume_is_long : (journal volume : ℕ) (script : List ℕ) (p : PlainPlant) (plant : PlantState) (count v : ℕ) → IsMade 2 journal 8 volume script (plain_state p) → volume ≡ volume_need 1 → v < 8 → IsLabelledUpTo count (plain_state p) plant → 14 ≤ plant.lengths (Volume v)
volume_is_long journal volume script p plant count v is size lt so_far =
    let there : IsThere (plain_state p) (Volume v) = (omega (arith, lt, is.has_volumes), is.none_lent v (omega (arith, lt, is.has_volumes))) in
    let told = plain_length_told p (Volume v) there in
    let zeros = ap length (is.each_volume v lt) in
    omega (arith, so_far.site.lengths (Volume v), told, zeros, length-replicate {A = ℕ} volume 0, size)
