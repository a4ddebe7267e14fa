-- Images that agree where a walk looks.
use Rattle.std.proofs.Common.{◌≡◌, ℕ, zero, suc, true, List, [], Option, Some, None, Result, Ok, Err, refl, ap, ◌∙◌}
use Rattle.crash_plant.specs.declared.device.Device.TheVariants.{Journal}
use Rattle.control_set.specs.declared.value.Mark.{Mark}
use Rattle.pair_table.specs.declared.row.PairRow.{PairRow}
use Rattle.state_set.specs.Slots.{Stored}
use Rattle.xrc_journal.specs.Records.{walk_one}
use Rattle.site_means.specs.Images.{Images, Shape}
use Rattle.site_means.specs.Walk.{WalkState, WalkStep, Walk, has_entered, start, step, step_by, turns_at, walk_from, walk_on, with_before}
use Rattle.site_means.specs.Walk.WalkStep.{Ends, GoesOn, Breaks}
use Rattle.site_means.specs.Meaning.{chosen_in, meaning_by_mark, meaning_by_state, meaning_by_walk, stored_in}
use Rattle.site_means.specs.Laws.{Agree, MeaningsAgree}
use Rattle.site_means.proofs.Goes.{entered_here, entered_last, entered_stays}

-- ---- the same journals

-- the images have the same where the walk looks
abbrev SameSets : (a b : Images) → List ℕ → Type 0
SameSets a b entered = (j : ℕ) → has_entered j entered ≡ true → b (Journal j) ≡ a (Journal j)

step_same : (shape : Shape) (a b : Images) (s : WalkState) → b (Journal s.at.set) ≡ a (Journal s.at.set) → step shape b s ≡ step shape a s
step_same shape a b s same = ap (λ (l : List ℕ). step_by shape s (walk_one shape.form shape.sets l s.at s.last)) same

pub walk_same : (turns : ℕ) (shape : Shape) (a b : Images) (s : WalkState) → has_entered s.at.set s.entered ≡ true → SameSets a b (walk_from turns shape a s).entered → walk_from turns shape b s ≡ walk_from turns shape a s
unfolding walk_from
walk_same zero shape a b s here same = refl
walk_same (suc turns) shape a b s here same =
    let st = step_same shape a b s (same s.at.set (entered_stays (suc turns) shape a s s.at.set here)) in
    ap (λ (k : WalkStep). walk_on s k (λ n. walk_from turns shape b n)) st ∙ by_step (step shape a s) refl (λ n h more. walk_same turns shape a b n h more) same
  where
    by_step : (k : WalkStep) → step shape a s ≡ k → ((n : WalkState) → has_entered n.at.set n.entered ≡ true → SameSets a b (walk_from turns shape a n).entered → walk_from turns shape b n ≡ walk_from turns shape a n)
        → SameSets a b (walk_on s k (λ n. walk_from turns shape a n)).entered → walk_on s k (λ n. walk_from turns shape b n) ≡ walk_on s k (λ n. walk_from turns shape a n)
    by_step Ends e more same = refl
    by_step (Breaks place) e more same = refl
    by_step (GoesOn groups n) e more same = ap (λ (w : Walk). with_before groups w) (more n (entered_here shape a s n groups e here) same)

-- ---- the meaning

pub mark_here : (m : Mark) (rows : List PairRow) → has_entered (start m rows).at.set (start m rows).entered ≡ true
mark_here m rows = entered_last m.at.set []

module _ (shape : Shape) (a b : Images) (agree : Agree shape a b) where
  by_stored : (m : Mark) → chosen_in shape a ≡ Ok (Some m) → (r : Result Stored ℕ) → stored_in shape a m ≡ r → meaning_by_state shape b m r ≡ meaning_by_state shape a m r
  by_stored m chosen (Err place) stored = refl
  by_stored m chosen (Ok s) stored =
      ap (λ (w : Walk). meaning_by_walk m s w w.bad) (walk_same (turns_at m.at) shape a b (start m s.rows) (mark_here m s.rows) (agree.journals m s chosen stored))

  by_chosen : (c : Result (Option Mark) ℕ) → chosen_in shape a ≡ c → meaning_by_mark shape b c ≡ meaning_by_mark shape a c
  by_chosen (Err place) e = refl
  by_chosen (Ok None) e = refl
  by_chosen (Ok (Some m)) e = ap (λ (r : Result Stored ℕ). meaning_by_state shape b m r) (agree.mark.stored m e) ∙ by_stored m e (stored_in shape a m) refl

pub meanings_agree : MeaningsAgree
meanings_agree shape a b agree = ap (λ (c : Result (Option Mark) ℕ). meaning_by_mark shape b c) agree.mark.chosen ∙ by_chosen shape a b agree (chosen_in shape a) refl
