-- What is seen of a crash while volumes are redone.
use Rattle.std.proofs.Common.{◌≡◌, ◌⊎◌, inl, inr, ℕ, zero, suc, ◌<◌, ◌≤◌, arith, Bool, true, false, List, length, Option, Some, None, Result, Ok, Err, refl, sym, ap, subst, ◌∙◌}
use Rattle.std.proofs.lemmas.Bool.{cases_lt, ltb-true}
use Rattle.ckd_track.specs.declared.rec.Rec.{Rec}
use Rattle.ckd_track.specs.SlotPlaces.{slot_track}
use Rattle.crash_plant.specs.declared.device.Device.{Device}
use Rattle.crash_plant.specs.declared.device.Device.TheVariants.{Control, State, Journal, Volume}
use Rattle.crash_plant.specs.declared.spot.Spot.{Spot}
use Rattle.crash_plant.specs.Choices.{AllFollow, AtNow, Choice, IsChoice}
use Rattle.crash_plant.specs.Calls.{IsPart}
use Rattle.crash_plant.specs.Moments.{PlantState, IsDurable, Same, on}
use Rattle.crash_plant.proofs.Choices.{all_follow, part_cases, part_still, past_choice}
use Rattle.control_set.specs.declared.value.Mark.{Mark}
use Rattle.control_set.specs.Slots.{chosen_mark, lengths_of}
use Rattle.control_set.proofs.Again.{set_kept}
use Rattle.control_set.proofs.Keeps.{chosen_keeps}
use Rattle.control_set.proofs.Lengths.{count_is}
use Rattle.pair_table.specs.declared.row.PairRow.{PairRow}
use Rattle.state_set.specs.Slots.{Stored, state_of}
use Rattle.xrc_journal.specs.Items.{Item}
use Rattle.xrc_journal.specs.Records.{walk_one}
use Rattle.xrc_journal.specs.Walks.{Logged}
use Rattle.xrc_journal.specs.Contents.{content_through}
use Rattle.site_means.specs.Images.{Images, Shape, shape_of}
use Rattle.site_means.specs.Walk.{WalkState, WalkStep, Walk, has_entered, start, step, step_by, turns_at, walk_from, walk_on, with_before}
use Rattle.site_means.specs.Walk.WalkStep.{Ends, GoesOn, Breaks}
use Rattle.site_means.specs.Meaning.{chosen_in, meaning, meaning_by_mark, meaning_by_state, meaning_by_walk, stored_in}
use Rattle.site_means.specs.Sight.{meant_by, walked, walked_by}
use Rattle.site_means.proofs.Found.{group_ends, next_within, switch_leads}
use Rattle.site_means.specs.Answers.{AllDurable, IsStore, IsInTurn, ReadsAll}
use Rattle.site_means.proofs.Agreeing.{meanings_agree}
use Rattle.site_means.proofs.Goes.{entered_more, entered_one, goes_by}
use Rattle.site_means.proofs.Drawn.{contents_are_drawn}
use Rattle.xrecover.specs.Pairs.{HasDuplex, is_duplex_of}
use Rattle.xrecover.specs.RedoneVolumes.{Recovers, Redoes}
use Rattle.xrecover.specs.Sights.{MeansAsRead, SeesSame}
use Rattle.xrecover.specs.Works.{Works}
use Rattle.xrecover.proofs.Contents.{item_cases, track_kept}
use Rattle.xrecover.proofs.Deltas.{walked_drawn}
use Rattle.std.specs.List.{list_any}

-- ---- the meaning depends on the control, the state and the journals of the plant

-- the images have the same control, state and journals
pub record SameLogs (sets : ℕ) (a b : Images) : Type 0 where
  pub control : b Control ≡ a Control
  pub state : b State ≡ a State
  pub journals : (j : ℕ) → j < sets → b (Journal j) ≡ a (Journal j)

-- A walk stays among the journals.
set_within : (shape : Shape) (images : Images) (s n : WalkState) (groups : List Logged) → step shape images s ≡ GoesOn groups n → s.at.set < shape.sets → n.at.set < shape.sets
set_within shape images s n groups e within = elim (goes_by shape images s groups n e) [
  | inl g ↦
      let ends = group_ends shape.form shape.sets (images (Journal s.at.set)) s.at s.last g.time g.items g.after g.found in
      subst (λ (k : ℕ). k < shape.sets) (sym (ap (λ (m : WalkState). m.at.set) g.next_is ∙ ends.set)) within
  | inr w ↦
      let leads = switch_leads shape.form shape.sets (images (Journal s.at.set)) s.at s.last w.time w.after w.found in
      subst (λ (k : ℕ). k < shape.sets) (sym (ap (λ (m : WalkState). m.at.set) w.next_is ∙ ap (λ (k : Spot). k.set) leads)) (next_within shape.sets s.at.set within)
]

walk_alike : (turns : ℕ) (shape : Shape) (a b : Images) (s : WalkState) → s.at.set < shape.sets → SameLogs shape.sets a b → walk_from turns shape b s ≡ walk_from turns shape a s
unfolding walk_from
walk_alike zero shape a b s within same = refl
walk_alike (suc turns) shape a b s within same =
    let st : step shape b s ≡ step shape a s = ap (λ (l : List ℕ). step_by shape s (walk_one shape.form shape.sets l s.at s.last)) (same.journals s.at.set within) in
    ap (λ (k : WalkStep). walk_on s k (λ n. walk_from turns shape b n)) st ∙ by_step (step shape a s) refl (λ n there. walk_alike turns shape a b n there same)
  where
    by_step : (k : WalkStep) → step shape a s ≡ k → ((n : WalkState) → n.at.set < shape.sets → walk_from turns shape b n ≡ walk_from turns shape a n) → walk_on s k (λ n. walk_from turns shape b n) ≡ walk_on s k (λ n. walk_from turns shape a n)
    by_step Ends e more = refl
    by_step (Breaks place) e more = refl
    by_step (GoesOn groups n) e more = ap (λ (w : Walk). with_before groups w) (more n (set_within shape a s n groups e within))

module _ (plant : PlantState) (a b : Images) (same : SameLogs plant.journals a b) where
  by_stored : (m : Mark) → m.at.set < plant.journals → (r : Result Stored ℕ) → meaning_by_state (shape_of plant) b m r ≡ meaning_by_state (shape_of plant) a m r
  by_stored m within (Err place) = refl
  by_stored m within (Ok s) = ap (λ (w : Walk). meaning_by_walk m s w w.bad) (walk_alike (turns_at m.at) (shape_of plant) a b (start m s.rows) within same)

  by_chosen : (c : Result (Option Mark) ℕ) → chosen_in (shape_of plant) a ≡ c → meaning_by_mark (shape_of plant) b c ≡ meaning_by_mark (shape_of plant) a c
  by_chosen (Err place) e = refl
  by_chosen (Ok None) e = refl
  by_chosen (Ok (Some m)) e =
      let lengths = lengths_of plant in
      let within = ltb-true m.at.set (length lengths) (set_kept lengths m (chosen_keeps lengths (a Control) m e)) in
      ap (λ (l : List ℕ). meaning_by_state (shape_of plant) b m (state_of plant.volumes m.session m.state_slot l)) same.state
      ∙ by_stored m (subst (λ (n : ℕ). m.at.set < n) (count_is (λ j. plant.lengths (Journal j)) 0 plant.journals) within) (stored_in (shape_of plant) a m)

  pub meaning_alike : meaning plant b ≡ meaning plant a
  meaning_alike = ap (λ (l : List ℕ). meaning_by_mark (shape_of plant) b (chosen_mark (lengths_of plant) l)) same.control ∙ by_chosen (chosen_in (shape_of plant) a) refl

-- ---- a choice

pub duplex_cases : (rows : List PairRow) (v : ℕ) → HasDuplex rows v ⊎ ¬ HasDuplex rows v
duplex_cases rows v = by_test (list_any (is_duplex_of v) rows) refl
  where
    by_test : (b : Bool) → list_any (is_duplex_of v) rows ≡ b → HasDuplex rows v ⊎ ¬ HasDuplex rows v
    by_test true is = inl is
    by_test false is = inr (λ has. absurd (cc (has, is)))

-- ---- while nothing is written

module _ (tells : Type 0) (told : tells) (old one : PlantState) (reads : ReadsAll tells old one) where
  comes_same : AllFollow (λ b c. (d : Device) → (IsPart old d → c d ≡ b d) × (¬ IsPart old d → c d ≡ b d)) old one
  comes_same = all_follow (λ d. Same) old one reads.only.site (λ d part. reads.moments told d)

  unwritten_sees : (b c : Choice) → ((d : Device) → c d ≡ b d) → SeesSame old b c
  unwritten_sees b c same =
      let now : meaning old c ≡ meaning old b = meaning_alike old b c (record { control = same Control; state = same State; journals = λ j there. same (Journal j) }) in
      record {
        means = ap meant_by now;
        content = λ d x i. content_through d x (walked_by (now i)) (slot_track (same (Volume d) i) x);
        settled = inl (λ d part. same d);
      }

  pub reads_moments : AllFollow (SeesSame old) old one
  reads_moments t from to c is =
      let came = comes_same t from to c is in
      (came.0, came.1, unwritten_sees came.0 c (λ d. elim (part_cases old d) [ inl part ↦ (came.2 d).0 part | inr out ↦ (came.2 d).1 out ]))

-- ---- what reads gave lasts

-- A walk enters journals of the plant.
entered_within : (turns : ℕ) (shape : Shape) (images : Images) (s : WalkState) → ((k : ℕ) → has_entered k s.entered ≡ true → k < shape.sets) → s.at.set < shape.sets → (k : ℕ) → has_entered k (walk_from turns shape images s).entered ≡ true → k < shape.sets
unfolding walk_from
entered_within zero shape images s before within k is = before k is
entered_within (suc turns) shape images s before within k is = by_step (step shape images s) refl (λ n more there. entered_within turns shape images n more there k) is
  where
    next : (groups : List Logged) (n : WalkState) → step shape images s ≡ GoesOn groups n → (j : ℕ) → has_entered j n.entered ≡ true → j < shape.sets
    next groups n e j here = elim (entered_more shape images s n groups j e here) [
      | inl was ↦ before j was
      | inr fresh ↦ subst (λ (m : ℕ). m < shape.sets) (sym fresh.1) (set_within shape images s n groups e within)
    ]

    by_step : (st : WalkStep) → step shape images s ≡ st → ((n : WalkState) → ((j : ℕ) → has_entered j n.entered ≡ true → j < shape.sets) → n.at.set < shape.sets → has_entered k (walk_from turns shape images n).entered ≡ true → k < shape.sets)
        → has_entered k (walk_on s st (λ n. walk_from turns shape images n)).entered ≡ true → k < shape.sets
    by_step Ends e more here = before k here
    by_step (Breaks place) e more here = before k here
    by_step (GoesOn groups n) e more here = more n (next groups n e) (set_within shape images s n groups e within) here

-- A device that was read in its turn is one of the plant.
pub turn_part : (plant : PlantState) (d : Device) → IsInTurn plant d → IsPart plant d
turn_part plant Control turn = tt
turn_part plant State turn = tt
turn_part plant (Journal j) e =
    let lengths = lengths_of plant in
    let set = ltb-true e.mark.at.set (length lengths) (set_kept lengths e.mark (chosen_keeps lengths (plant.bytes Control) e.mark e.chosen)) in
    let within = subst (λ (n : ℕ). e.mark.at.set < n) (count_is (λ k. plant.lengths (Journal k)) 0 plant.journals) set in
    entered_within (turns_at e.mark.at) (shape_of plant) plant.bytes (start e.mark e.stored.rows) (λ k here. subst (λ (n : ℕ). n < plant.journals) (sym (entered_one k e.mark.at.set here)) within) within j e.entered
turn_part plant (Volume v) turn = absurd turn

-- The meaning is what reads gave where each device is that was read in its turn.
pub means_read : (plant : PlantState) (c : Choice) → ((d : Device) → IsInTurn plant d → c d ≡ plant.bytes d) → MeansAsRead plant c
means_read plant c same = meanings_agree (shape_of plant) plant.bytes c (record {
  mark = record {
    chosen = ap (λ (l : List ℕ). chosen_mark (lengths_of plant) l) (same Control tt);
    stored = λ m chosen. ap (λ (l : List ℕ). state_of plant.volumes m.session m.state_slot l) (same State (m, chosen));
  };
  journals = λ m s chosen holds j entered. same (Journal j) (record { mark = m; stored = s; chosen = chosen; holds = holds; entered = entered });
})

module _ (tells : Type 0) (told : tells) (old one : PlantState) (reads : ReadsAll tells old one) where
  -- What is durable is read again of whatever a crash leaves now.
  pub read_lasts : (c : Choice) → IsChoice one one.clock c → (d : Device) → IsPart old d → IsDurable (on one d) → c d ≡ old.bytes d
  read_lasts c is d part durable = durable (c d) (is d (part_still old one d reads.only.site part)) ∙ reads.same told d

  pub now_means : AllDurable old one → AtNow (MeansAsRead old) one
  now_means all c is = means_read old c (λ d turn. read_lasts c is d (turn_part old d turn) (all d turn))

-- ---- while volumes are redone

module _ (tells : Type 0) (told : tells) (rows : List PairRow) (items : List Item) (old one new : PlantState) (reads : ReadsAll tells old one) (all : AllDurable old one) (works : Works tells (Recovers rows items) one new) where
  untouched : (d : Device) (x y : List ℕ) → IsStore d → Recovers rows items d x y → y ≡ x
  untouched Control x y is p = p
  untouched State x y is p = p
  untouched (Journal j) x y is p = p
  untouched (Volume v) x y is p = absurd is

  turn_examined : (d : Device) → IsInTurn old d → IsStore d
  turn_examined Control turn = tt
  turn_examined State turn = tt
  turn_examined (Journal j) turn = tt
  turn_examined (Volume v) turn = turn

  -- From then on each choice means what reads gave.
  pub later_means : (t : ℕ) → one.clock ≤ t → t ≤ new.clock → (c : Choice) → IsChoice new t c → MeansAsRead old c
  later_means t from to c is = means_read old c (λ d turn.
      let part = part_still one new d works.site (part_still old one d reads.only.site (turn_part old d turn)) in
      let came = works.moments told d t from to (c d) (is d part) in
      untouched d came.0 (c d) (turn_examined d turn) came.2 ∙ all d turn came.0 came.1 ∙ reads.same told d)

  pub end_means : AtNow (MeansAsRead old) new
  end_means c is = later_means new.clock ((works.elapses told).kept Control).later (omega arith) c is

module _ (tells : Type 0) (told : tells) (rows : List PairRow) (old new : PlantState) (works : Works tells (Recovers rows (walked old old.bytes)) old new) where
  comes : AllFollow (λ b c. (d : Device) → (IsPart old d → Recovers rows (walked old old.bytes) d (b d) (c d)) × (¬ IsPart old d → c d ≡ b d)) old new
  comes = all_follow (Recovers rows (walked old old.bytes)) old new works.site (λ d part. works.moments told d)

  module _ (b c : Choice) (step : (d : Device) → (IsPart old d → Recovers rows (walked old old.bytes) d (b d) (c d)) × (¬ IsPart old d → c d ≡ b d)) (means : MeansAsRead old c) where
    logs_same : SameLogs old.journals b c
    logs_same = record { control = (step Control).0 tt; state = (step State).0 tt; journals = λ j there. (step (Journal j)).0 there }

    now : meaning old c ≡ meaning old b
    now = meaning_alike old b c logs_same

    -- after the walk's items a track is the same
    redone_same : (d x : ℕ) → Redoes d (walked old old.bytes) (b (Volume d)) (c (Volume d)) → content_through d x (walked old old.bytes) (slot_track (c (Volume d)) x) ≡ content_through d x (walked old old.bytes) (slot_track (b (Volume d)) x)
    redone_same d x redoes = elim (item_cases d x (walked old old.bytes)) [
      | inl has ↦ contents_are_drawn d x (walked old old.bytes) (slot_track (b (Volume d)) x) (slot_track (c (Volume d)) x) (walked_drawn old old.bytes d x has)
      | inr none ↦ ap (λ (t : Option (List Rec)). content_through d x (walked old old.bytes) t) (track_kept d x (walked old old.bytes) (b (Volume d)) (c (Volume d)) redoes none)
    ]

    bytes_same : (d x : ℕ) → c (Volume d) ≡ b (Volume d) → content_through d x (walked old old.bytes) (slot_track (c (Volume d)) x) ≡ content_through d x (walked old old.bytes) (slot_track (b (Volume d)) x)
    bytes_same d x same = ap (λ (l : List ℕ). content_through d x (walked old old.bytes) (slot_track l x)) same

    through_same : (d x : ℕ) → content_through d x (walked old old.bytes) (slot_track (c (Volume d)) x) ≡ content_through d x (walked old old.bytes) (slot_track (b (Volume d)) x)
    through_same d x = elim (part_cases old (Volume d)) [
      | inr out ↦ bytes_same d x ((step (Volume d)).1 out)
      | inl part ↦ elim (duplex_cases rows d) [
        | inl duplex ↦ redone_same d x (((step (Volume d)).0 part).0 duplex)
        | inr none ↦ bytes_same d x (((step (Volume d)).0 part).1 none)
      ]
    ]

    sees_same : SeesSame old b c
    sees_same = record {
      means = ap meant_by now;
      content = λ d x.
          (λ i. content_through d x (walked_by (means i)) (slot_track (c (Volume d)) x)) ∙ through_same d x
          ∙ (λ i. content_through d x (walked_by ((sym means ∙ now) i)) (slot_track (b (Volume d)) x));
      settled = inr means;
    }

-- Nothing is written until all that was read is durable.
module _ (tells : Type 0) (told : tells) (some more : List PairRow) (items : List Item) (old one new : PlantState) (reads : ReadsAll tells old one) (all : AllDurable old one) (works : Works tells (Recovers some items) one new)
    (whole : Works tells (Recovers more (walked old old.bytes)) old new) where
  pub sees_moments : AllFollow (SeesSame old) old new
  sees_moments t from to c is = elim (cases_lt t one.clock) [
    | inl early ↦ reads_moments tells told old one reads t from (omega (arith, early)) c (past_choice one new t c works.site (works.elapses told) (omega (arith, early)) (omega (arith, early)) is)
    | inr late ↦
        let came = comes tells told more old new whole t from to c is in
        (came.0, came.1, sees_same tells told more old new whole came.0 c came.2 (later_means tells told some items old one new reads all works t late to c is))
  ]
