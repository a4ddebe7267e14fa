-- What a run in memory left, and how the command ends.
use Rattle.std.proofs.Common.{◌≡◌, ◌⊎◌, ◌∙◌, inl, inr, ℕ, List, ◌∷◌, Option, Some, None, Result, Ok, Err, IfOk, IsTrue, map, refl, sym, ap, subst, arith}
use Rattle.std.specs.List.{All, range_with_len}
use Rattle.std.specs.Prelude.{find, nat_lt}
use Rattle.std.proofs.lemmas.List.Elements.{All-map, All-weaker}
use Rattle.xrc_edge.specs.MemorySources.{MemoryState}
use Rattle.crash_plant.specs.declared.device.Device.{Device}
use Rattle.crash_plant.specs.declared.device.Device.TheVariants.{Control, State}
use Rattle.crash_plant.specs.Calls.{NoneLent}
use Rattle.crash_plant.specs.Moments.{PlantState}
use Rattle.site_means.specs.declared.means.Means.{Means}
use Rattle.site_means.specs.declared.site_error.SiteError.{SiteError}
use Rattle.site_means.specs.declared.site_error.SiteError.TheVariants.{TooSmall}
use Rattle.site_means.specs.Answers.{Mean, first_short, journals_from, need}
use Rattle.site_means.specs.Images.{Images, Shape, shape_of}
use Rattle.site_means.specs.Meaning.{Meaning, meaning, meaning_in}
use Rattle.site_means.proofs.Goes.{shape_same}
use Rattle.workload.specs.Summaries.{HasTracks, LeavesAsItWas, MayBeSummedUp, is_duplex_pair, summary_line}
use Rattle.crash_plant.specs.declared.plain_plant.PlainPlant.{PlainPlant}
use Rattle.crash_plant.specs.PlainPlant.{plain_state}
use Rattle.mover.specs.declared.lane.Lane.{Lane}
use Rattle.workload.specs.declared.layout.TheConstants.{CONTROLS}
use Rattle.workload.specs.Scripts.{generated_session}
use Rattle.workload.specs.Traces.{generated_source, generated_sources}
use Rattle.xrc_cli.specs.Generating.{EndsGenerating, HasNoMarks, SumsUp, SumsUpRun, unread_lane}
use Rattle.xrc_cli.specs.Generating.EndsGenerating.{ConsoleFailed, Done}
use Rattle.xrc_cli.specs.Saying.{SaysDone}
use Rattle.xrc_cli.specs.Statuses.{EndsScriptRun}

-- ---- a plant that reads leave as it was

module _ (a b : PlantState) (leaves : LeavesAsItWas a b) where
  same_bytes : b.bytes ≡ a.bytes
  same_bytes = λ j d. leaves.devices.bytes d j

  same_meaning : meaning b b.bytes ≡ meaning a a.bytes
  same_meaning = ap (λ (s : Shape). meaning_in s b.bytes) (shape_same a b leaves.devices.site) ∙ ap (λ (c : Images). meaning_in (shape_of a) c) same_bytes

  same_short : first_short b ≡ first_short a
  same_short = λ j. find (λ d. nat_lt (leaves.devices.site.lengths d j) (need d)) (Control ∷ State ∷ journals_from 0 (leaves.devices.site.journals j))

  pub home_still : NoneLent a → NoneLent b
  home_still none = λ v below. (leaves.devices.loans v).is_lent ∙ none v (omega (arith, below, leaves.devices.site.volumes))

  pub may_be_summed_up : (means : Means) → NoneLent a → first_short a ≡ None → Mean (meaning a a.bytes) means → All (HasTracks b) means.table.rows → MayBeSummedUp b
  may_be_summed_up means none long mean each = record {
    home = home_still none;
    long = same_short ∙ long;
    means = means;
    meant = subst (λ (m : Meaning). Mean m means) (sym same_meaning) mean;
    each = All-weaker (HasTracks b) (λ row. IsTrue (is_duplex_pair row) → HasTracks b row) (λ row has is. has) means.table.rows each;
  }

  pub meant_still : (means : Means) → Mean (meaning a a.bytes) means → Mean (meaning b b.bytes) means
  meant_still means mean = subst (λ (m : Meaning). Mean m means) (sym same_meaning) mean

  pub sums_up : (number : ℕ) (means : Means) (line : List ℕ) → Mean (meaning a a.bytes) means → line ≡ summary_line number b.bytes means → SumsUp number a line
  sums_up number means line mean is = record { means = means; meant = mean; is = is ∙ ap (λ (c : Images). summary_line number c means) same_bytes }

  pub all_summed : {E : Type 0} (number : ℕ) (means : Means) (result : Result (List ℕ) E) → Mean (meaning a a.bytes) means → IfOk result (λ line. line ≡ summary_line number b.bytes means) → IfOk result (λ line. SumsUp number a line)
  all_summed number means (Ok line) mean is = sums_up number means line mean is
  all_summed number means (Err e) mean is = tt

-- Where the meaning was found, no device is too small.
pub none_short : (a : PlantState) (means : Means) (result : Result Means SiteError) → result ≡ Ok means → ((d : Device) → first_short a ≡ Some d → result ≡ Err (TooSmall d (need d))) → first_short a ≡ None
none_short a means result ok short = by (first_short a) refl
  where
    by : (found : Option Device) → first_short a ≡ found → first_short a ≡ None
    by None is = is
    by (Some d) is = let failed = short d is in absurd cc

-- ---- the run

-- No generated source has a mark.
pub none_marked : (number : ℕ) (sources : List MemoryState) → sources ≡ generated_sources number → All HasNoMarks sources
none_marked number sources given = subst (λ (l : List MemoryState). All HasNoMarks l) (sym given) (All-map HasNoMarks (generated_source number) (range_with_len 0 CONTROLS) (λ k d within. refl))

-- What is said of a line follows from what is known of it.
pub weaker : {E : Type 0} (P Q : List ℕ → Type 0) (result : Result (List ℕ) E) → ((line : List ℕ) → P line → Q line) → IfOk result P → IfOk result Q
weaker P Q (Ok line) more is = more line is
weaker P Q (Err e) more is = tt

-- a run to status 0 of the generated session over the generated sources
pub run_done : (number : ℕ) (made ran : PlainPlant) (session : List ℕ) (before lanes : List (Lane MemoryState)) (sources : List MemoryState) (status : ℕ) → session ≡ generated_session
    → before ≡ map unread_lane sources → sources ≡ generated_sources number → status ≡ 0
    → EndsScriptRun (Unit {0}) plain_state (λ source. Some source.left) (λ source. 0) session CONTROLS before lanes made ran status
    → EndsScriptRun (Unit {0}) plain_state (λ source. Some source.left) (λ source. 0) generated_session CONTROLS (map unread_lane (generated_sources number)) lanes made ran 0
run_done number made ran session before lanes sources status named opened given done ends =
    subst (λ (n : ℕ). EndsScriptRun (Unit {0}) plain_state (λ source. Some source.left) (λ source. 0) generated_session CONTROLS (map unread_lane (generated_sources number)) lanes made ran n) done
    (subst (λ (xs : List (Lane MemoryState)). EndsScriptRun (Unit {0}) plain_state (λ source. Some source.left) (λ source. 0) generated_session CONTROLS xs lanes made ran status) (opened ∙ ap (map unread_lane) given)
    (subst (λ (name : List ℕ). EndsScriptRun (Unit {0}) plain_state (λ source. Some source.left) (λ source. 0) name CONTROLS before lanes made ran status) named ends))

-- ---- the end

pub said : (tells : Type 0) (number : ℕ) (line : List ℕ) (a b : PlantState) (status : ℕ) → SumsUpRun number line → SaysDone tells line a b status → EndsGenerating tells number a b status
said tells number line a b status sums s = by s.known
  where
    by : (status ≡ 0) ⊎ (status ≡ 3) → EndsGenerating tells number a b status
    by (inl is) = subst (λ (n : ℕ). EndsGenerating tells number a b n) (sym is) (Done line sums (record { front = s.front; whole = λ told. s.whole told is; console_count = s.console_count is }))
    by (inr is) = subst (λ (n : ℕ). EndsGenerating tells number a b n) (sym is) (ConsoleFailed line sums s.front (s.console is) s.console_once)
