-- What the devices mean, read step by step, and what of it lasts.
use Rattle.std.proofs.Common.{◌≡◌, ◌&&◌, ℕ, zero, suc, Bool, true, false, cond, List, Option, Some, None, Result, Ok, Err, nat_lt, refl, sym, ap, subst, ◌∙◌}
use Rattle.std.specs.Prelude.{IsErrOf, find}
use Rattle.crash_plant.specs.declared.device.Device.{Device}
use Rattle.crash_plant.specs.declared.device.Device.TheVariants.{Control, State, Journal, Volume}
use Rattle.crash_plant.specs.Moments.{PlantState, IsDurable, on}
use Rattle.crash_plant.specs.Calls.{SameSite}
use Rattle.control_set.specs.declared.value.Mark.{Mark}
use Rattle.pair_table.specs.declared.row.PairRow.{PairRow}
use Rattle.state_set.specs.Slots.{Stored}
use Rattle.site_means.specs.declared.means.Means.{Means}
use Rattle.site_means.specs.declared.reading.SiteReading.{SiteReading}
use Rattle.site_means.specs.declared.site_error.SiteError.{SiteError}
use Rattle.site_means.specs.declared.site_error.SiteError.TheVariants.{NoSession, Damaged, Fault, TooSmall, NoMemory}
use Rattle.site_means.specs.Images.{shape_of}
use Rattle.site_means.specs.Walk.{Walk, walk_in}
use Rattle.site_means.specs.Meaning.{Meaning, meaning, meaning_by_mark, meaning_by_state, meaning_by_walk, stored_in}
use Rattle.site_means.specs.Meaning.Meaning.{NoMark, DamagedAt, Meant}
use Rattle.site_means.specs.Answers.{AllDurable, AnswersMeaning, IsChosen, IsStore, IsInTurn, IsOfControl, IsRead, Mean, ReadsAll, RestDurable, WhereTold, first_short, is_short, journals_from}
use Rattle.site_means.proofs.Meanings.{SameSeen, same_seen, seen_back, seen_chosen, seen_meaning, seen_reached, seen_read}
use Rattle.site_means.proofs.ReadAll.{durable_later}
use Rattle.site_means.proofs.Reaching.{meant_by}
use Rattle.volume_label.specs.Labels.{volume_need}
use Rattle.xrecover.specs.declared.recover_error.RecoverError.{RecoverError}
use Rattle.xrecover.specs.declared.recover_error.RecoverError.TheVariants.{Site, Other}
use Rattle.xrecover.specs.Answers.{After, HasWalk, IsGoodOrCalledFor, IsMeant, IsOf, IsRecoverable, IsTooSmall}
use Rattle.xrecover.specs.Pairs.{first_small}
use Rattle.pair_table.specs.States.{is_duplex}
use Rattle.xrecover.specs.Sights.{TellsDurable}

-- The chosen mark has a walk where the devices mean something.
pub has_walk : (plant : PlantState) (m : Mark) (means : Means) → IsChosen plant m → Mean (meaning plant plant.bytes) means → HasWalk plant m
has_walk plant m means chosen mean =
    let by = meant_by (shape_of plant) plant.bytes means mean.0 mean.1 in
    let same : by.mark ≡ m = let both = sym by.chosen ∙ chosen in cc in
    subst (λ (k : Mark). HasWalk plant k) same (record { stored = by.stored; chosen = by.chosen; holds = by.holds; good = ap (λ (k : Walk). k.bad) by.walk_is ∙ by.good })

pub read_walk : (plant : PlantState) (r : SiteReading) → IsRead plant r → HasWalk plant r.mark
read_walk plant r is = has_walk plant r.mark r.means is.chosen (is.walk, is.meant)

-- The lengths of volumes stay.
pub small_same : (old new : PlantState) (rows : List PairRow) → SameSite old new → first_small new rows ≡ first_small old rows
small_same old new rows site = λ i. find (λ r. is_duplex r.state && nat_lt (site.lengths (Volume r.device) i) (volume_need r.cylinders)) rows

-- The first device that is too short is none of the volumes.
short_among : (plant : PlantState) (first count : ℕ) (d : Device) → find (is_short plant) (journals_from first count) ≡ Some d → IsStore d
short_among plant first zero d e = absurd cc
short_among plant first (suc count) d e = by_test (is_short plant (Journal first)) (λ more. short_among plant (suc first) count d more) e
  where
    by_test : (b : Bool) → (find (is_short plant) (journals_from (suc first) count) ≡ Some d → IsStore d) → cond b (Some (Journal first)) (find (is_short plant) (journals_from (suc first) count)) ≡ Some d → IsStore d
    by_test true more e = let same : d ≡ Journal first = cc in subst (λ (k : Device). IsStore k) (sym same) tt
    by_test false more e = more e

pub first_examined : (plant : PlantState) (d : Device) → first_short plant ≡ Some d → IsStore d
first_examined plant d e = by_control (is_short plant Control) e
  where
    by_state : (b : Bool) → cond b (Some State) (find (is_short plant) (journals_from 0 plant.journals)) ≡ Some d → IsStore d
    by_state true e = let same : d ≡ State = cc in subst (λ (k : Device). IsStore k) (sym same) tt
    by_state false e = short_among plant 0 plant.journals d e

    by_control : (b : Bool) → cond b (Some Control) (cond (is_short plant State) (Some State) (find (is_short plant) (journals_from 0 plant.journals))) ≡ Some d → IsStore d
    by_control true e = let same : d ≡ Control = cc in subst (λ (k : Device). IsStore k) (sym same) tt
    by_control false e = by_state (is_short plant State) e

-- ---- after what is meant

module _ (old one : PlantState) (site : SameSite old one) (session : List ℕ) (means : Means) (meant : IsMeant old session means) where
  pub too_small : (row : PairRow) → first_small one means.table.rows ≡ Some row → IsTooSmall old session (Volume row.device) (volume_need row.cylinders)
  too_small row first = record {
    of = meant.of;
    means = means;
    mean = meant.mean;
    row = row;
    first = sym (small_same old one means.table.rows site) ∙ first;
    device = refl;
    need_is = refl;
  }

  pub recoverable : first_small one means.table.rows ≡ None → IsRecoverable old session means
  recoverable none = record { meant = meant; long = sym (small_same old one means.table.rows site) ∙ none }

-- What an error is called for by is the same, whatever else would be good.
pub called_as : {X Y : Type 0} (plant : PlantState) (session : List ℕ) (good : X → Type 0) (other : Y → Type 0) (e : RecoverError) → (let r : Result X RecoverError = Err e in IsGoodOrCalledFor plant session good r) → (let r : Result Y RecoverError = Err e in IsGoodOrCalledFor plant session other r)
called_as plant session good other (Other name) says = says
called_as plant session good other (Site NoSession) says = says
called_as plant session good other (Site (Damaged d place)) says = says
called_as plant session good other (Site (Fault d)) says = says
called_as plant session good other (Site (TooSmall d needed)) says = says
called_as plant session good other (Site NoMemory) says = says

-- ---- after a mark

module _ (tells : Type 0) (told : tells) (old one : PlantState) (reads : ReadsAll tells old one) (m : Mark) (session : List ℕ) (chosen : IsChosen old m) (same : m.session ≡ session) where
  pub is_of : IsOf old session
  is_of = record { mark = m; chosen = chosen; same = same }

  after : (d : Device) → After old session d
  after Control = tt
  after State = record { mark = m; chosen = chosen; same = same }
  after (Journal j) = record { mark = m; chosen = chosen; same = same }
  after (Volume v) = record { mark = m; chosen = chosen; same = same }

  seen : SameSeen old one
  seen = same_seen tells old one reads told

  pub chosen_later : IsChosen one m
  chosen_later = seen_chosen old one seen m chosen

  -- An error after the mark says the same of the devices before.
  pub means_says : {X : Type 0} (good : X → Type 0) (e : SiteError) → (let r : Result SiteReading SiteError = Err e in AnswersMeaning (λ reading. IsRead one reading) (meaning one one.bytes) r)
      → ((d : Device) → (let r : Result SiteReading SiteError = Err e in IsErrOf r (Fault d)) → IsInTurn one d)
      → ((d : Device) (needed : ℕ) → ¬ (let r : Result SiteReading SiteError = Err e in IsErrOf r (TooSmall d needed))) → (let r : Result X RecoverError = Err (Site e) in IsGoodOrCalledFor old session good r)
  means_says good NoSession says turn small = sym (seen_meaning old one seen) ∙ says
  means_says good (Damaged d place) says turn small = (sym (seen_meaning old one seen) ∙ says, after d)
  means_says good (Fault d) says turn small = (after d, seen_reached old one seen d (turn d refl))
  means_says good (TooSmall d needed) says turn small = absurd (small d needed refl)
  means_says good NoMemory says turn small = is_of

  -- what they mean, as they meant before
  pub means_session : (r : SiteReading) → IsRead one r → IsMeant old session r.means × IsRead old r
  means_session r is = let before = seen_read old one seen r is in (record { of = is_of; mean = (before.walk, before.meant) }, before)

-- What may be wrong with the control says so of a session's recovery.
pub mark_says : {X : Type 0} (plant : PlantState) (session : List ℕ) (good : X → Type 0) (e : SiteError) → IsOfControl e → (let r : Result Mark SiteError = Err e in AnswersMeaning (λ m. IsChosen plant m) (meaning plant plant.bytes) r)
    → (let r : Result X RecoverError = Err (Site e) in IsGoodOrCalledFor plant session good r)
mark_says plant session good NoSession wrong says = says
mark_says plant session good (Damaged d place) wrong says = (says, subst (λ (k : Device). After plant session k) (sym wrong) tt)
mark_says plant session good (Fault d) wrong says = (subst (λ (k : Device). After plant session k) (sym wrong) tt, subst (λ (k : Device). IsInTurn plant k) (sym wrong) tt)
mark_says plant session good (TooSmall d needed) wrong says = absurd wrong
mark_says plant session good NoMemory wrong says = absurd wrong

-- ---- what lasts

-- What is meant after a mark isn't told of the control.
abbrev StandsAfter : Meaning → Type 0
StandsAfter NoMark = ⊥
StandsAfter (DamagedAt Control place) = ⊥
StandsAfter (DamagedAt State place) = Unit {0}
StandsAfter (DamagedAt (Journal j) place) = Unit {0}
StandsAfter (DamagedAt (Volume v) place) = Unit {0}
StandsAfter (Meant means walk) = Unit {0}

module _ (old new : PlantState) where
  by_walk_end : (m : Mark) (s : Stored) (w : Walk) (bad : Option (ℕ × ℕ)) → StandsAfter (meaning_by_walk m s w bad)
  by_walk_end m s w None = tt
  by_walk_end m s w (Some bad) = tt

  by_slot : (m : Mark) (r : Result Stored ℕ) → StandsAfter (meaning_by_state (shape_of old) old.bytes m r)
  by_slot m (Ok s) = by_walk_end m s (walk_in (shape_of old) old.bytes m s.rows) (walk_in (shape_of old) old.bytes m s.rows).bad
  by_slot m (Err place) = tt

  stands_after : (m : Mark) (k : Meaning) → IsChosen old m → meaning old old.bytes ≡ k → StandsAfter k
  stands_after m k chosen is = subst (λ (n : Meaning). StandsAfter n) (sym (ap (λ (c : Result (Option Mark) ℕ). meaning_by_mark (shape_of old) old.bytes c) chosen) ∙ is) (by_slot m (stored_in (shape_of old) old.bytes m))

  -- Where no mark is chosen only the control is read.
  only_control : IsDurable (on new Control) → ((m : Mark) → ¬ IsChosen old m) → AllDurable old new
  only_control durable none Control turn = durable
  only_control durable none State turn = absurd (none turn.0 turn.1)
  only_control durable none (Journal j) turn = absurd (none turn.mark turn.chosen)
  only_control durable none (Volume v) turn = absurd turn

  all_durable : IsDurable (on new Control) → RestDurable old new → AllDurable old new
  all_durable durable rest Control turn = durable
  all_durable durable rest State turn = rest State (λ is. cc) turn
  all_durable durable rest (Journal j) turn = rest (Journal j) (λ is. cc) turn
  all_durable durable rest (Volume v) turn = absurd turn

  -- an error of the mark
  pub mark_durable : (X Y : Type 0) (session : List ℕ) (good : X → Type 0) (e : RecoverError) → ((k : SiteError) → e ≡ Site k → IsOfControl k) → (¬ (e ≡ Site (Fault Control)) → IsDurable (on new Control))
      → (let r : Result X RecoverError = Err e in IsGoodOrCalledFor old session good r) → (let r : Result Y RecoverError = Err e in TellsDurable old new r)
  mark_durable X Y session good (Other name) wrong durable says = durable (λ is. cc)
  mark_durable X Y session good (Site NoSession) wrong durable says = only_control (durable (λ is. cc)) (λ m chosen. stands_after m NoMark chosen says)
  mark_durable X Y session good (Site (Damaged d place)) wrong durable says =
      only_control (durable (λ is. cc)) (λ m chosen. subst (λ (k : Device). StandsAfter (DamagedAt k place)) (wrong (Damaged d place) refl) (stands_after m (DamagedAt d place) chosen says.0))
  mark_durable X Y session good (Site (Fault d)) wrong durable says = tt
  mark_durable X Y session good (Site (TooSmall d needed)) wrong durable says = tt
  mark_durable X Y session good (Site NoMemory) wrong durable says = tt

-- What lasts after a mark.
module _ (tells : Type 0) (told : tells) (old one new : PlantState) (first : ReadsAll tells old one) (then : ReadsAll tells one new) (control : IsDurable (on one Control)) where
  rest_before : RestDurable one new → RestDurable old new
  rest_before rest d other turn = rest d other (seen_reached one old (seen_back old one (same_seen tells old one first told)) d turn)

  pub session_durable : RestDurable one new → AllDurable old new
  session_durable rest = all_durable old new (durable_later tells one new Control told then control) (rest_before rest)

  pub walk_durable : (X Y : Type 0) (e : SiteError) → (let r : Result X SiteError = Err e in WhereTold r (RestDurable one new)) → (let r : Result Y RecoverError = Err (Site e) in TellsDurable old new r)
  walk_durable X Y NoSession w = session_durable w
  walk_durable X Y (Damaged d place) w = session_durable w
  walk_durable X Y (Fault d) w = tt
  walk_durable X Y (TooSmall d needed) w = tt
  walk_durable X Y NoMemory w = tt

-- The same error of a call that gives something else.
pub durable_as : (X Y : Type 0) (old new : PlantState) (e : RecoverError) → (let r : Result X RecoverError = Err e in TellsDurable old new r) → (let r : Result Y RecoverError = Err e in TellsDurable old new r)
durable_as X Y old new (Other name) t = t
durable_as X Y old new (Site NoSession) t = t
durable_as X Y old new (Site (Damaged d place)) t = t
durable_as X Y old new (Site (Fault d)) t = tt
durable_as X Y old new (Site (TooSmall d needed)) t = tt
durable_as X Y old new (Site NoMemory) t = tt
