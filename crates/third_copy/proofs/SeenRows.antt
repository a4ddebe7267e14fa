-- What is seen of a crash while targets are written.
use Rattle.std.proofs.Common.{◌≡◌, inl, inr, ℕ, ◌≤◌, List, Option, sym, ap, ◌∙◌, arith}
use Rattle.std.proofs.lemmas.Bool.{cases_lt}
use Rattle.ckd_track.specs.declared.rec.Rec.{Rec}
use Rattle.ckd_track.specs.SlotPlaces.{slot_track}
use Rattle.crash_plant.specs.declared.device.Device.{Device}
use Rattle.crash_plant.specs.declared.device.Device.TheVariants.{Control, State, Journal, Volume}
use Rattle.crash_plant.specs.Choices.{AllFollow, AtNow, Choice, IsChoice}
use Rattle.crash_plant.specs.Calls.{IsPart}
use Rattle.crash_plant.specs.Moments.{PlantState}
use Rattle.crash_plant.proofs.Choices.{all_follow, part_cases, part_still, past_choice}
use Rattle.pair_table.specs.declared.row.PairRow.{PairRow}
use Rattle.pair_table.specs.Tables.{HasRow}
use Rattle.site_means.specs.Answers.{AllDurable, IsStore, IsInTurn, ReadsAll}
use Rattle.site_means.specs.Meaning.{meaning}
use Rattle.site_means.specs.Sight.{meant_by, walked, walked_by}
use Rattle.site_means.proofs.Drawn.{contents_are_drawn}
use Rattle.xrc_journal.specs.Contents.{content_through}
use Rattle.xrecover.specs.RedoneVolumes.{Redoes, meant_rows}
use Rattle.xrecover.specs.Sights.{MeansAsRead, SeesSame}
use Rattle.xrecover.specs.Works.{Works}
use Rattle.xrecover.proofs.Contents.{item_cases, track_kept}
use Rattle.xrecover.proofs.Deltas.{walked_drawn}
use Rattle.xrecover.proofs.Seen.{SameLogs, duplex_cases, meaning_alike, means_read, reads_moments, turn_part}
use Rattle.third_copy.specs.Answers.{CopiesSite, SeesSameRows}
use Rattle.third_copy.specs.Pairs.{IsTargetOf}

-- What was seen the same is seen the same on the devices of rows.
rows_same : (plant : PlantState) (b c : Choice) → SeesSame plant b c → SeesSameRows plant b c
rows_same plant b c s = record { means = s.means; content = λ d x has. s.content d x; settled = s.settled }

module _ (tells : Type 0) (told : tells) (shift : ℕ) (old one new : PlantState) (reads : ReadsAll tells old one) (all : AllDurable old one) (works : Works tells (CopiesSite old shift) one new) where
  untouched : (d : Device) (x y : List ℕ) → IsStore d → CopiesSite old shift d x y → y ≡ x
  untouched Control x y is p = p
  untouched State x y is p = p
  untouched (Journal j) x y is p = p
  untouched (Volume v) x y is p = absurd is

  in_turn : (d : Device) → IsInTurn old d → IsStore d
  in_turn Control turn = tt
  in_turn State turn = tt
  in_turn (Journal j) turn = tt
  in_turn (Volume v) turn = turn

  -- From the end of the reading on each choice means what reads gave.
  pub later_means : (t : ℕ) → one.clock ≤ t → t ≤ new.clock → (c : Choice) → IsChoice new t c → MeansAsRead old c
  later_means t from to c is = means_read old c (λ d turn.
      let part = part_still one new d works.site (part_still old one d reads.only.site (turn_part old d turn)) in
      let came = works.moments told d t from to (c d) (is d part) in
      untouched d came.0 (c d) (in_turn d turn) came.2 ∙ all d turn came.0 came.1 ∙ reads.same told d)

  pub end_means : AtNow (MeansAsRead old) new
  end_means c is = later_means new.clock ((works.elapses told).kept Control).later (omega arith) c is

  module _ (whole : Works tells (CopiesSite old shift) old new) (apart : (d : ℕ) (r : PairRow) → HasRow d (meant_rows old old.bytes) → ¬ IsTargetOf (meant_rows old old.bytes) shift r d) where
    comes : AllFollow (λ b c. (d : Device) → (IsPart old d → CopiesSite old shift d (b d) (c d)) × (¬ IsPart old d → c d ≡ b d)) old new
    comes = all_follow (CopiesSite old shift) old new whole.site (λ d part. whole.moments told d)

    module _ (b c : Choice) (step : (d : Device) → (IsPart old d → CopiesSite old shift d (b d) (c d)) × (¬ IsPart old d → c d ≡ b d)) (means : MeansAsRead old c) where
      logs_same : SameLogs old.journals b c
      logs_same = record { control = (step Control).0 tt; state = (step State).0 tt; journals = λ j there. (step (Journal j)).0 there }

      now : meaning old c ≡ meaning old b
      now = meaning_alike old b c logs_same

      redone_same : (d x : ℕ) → Redoes d (walked old old.bytes) (b (Volume d)) (c (Volume d)) → content_through d x (walked old old.bytes) (slot_track (c (Volume d)) x) ≡ content_through d x (walked old old.bytes) (slot_track (b (Volume d)) x)
      redone_same d x redoes = elim (item_cases d x (walked old old.bytes)) [
        | inl has ↦ contents_are_drawn d x (walked old old.bytes) (slot_track (b (Volume d)) x) (slot_track (c (Volume d)) x) (walked_drawn old old.bytes d x has)
        | inr none ↦ ap (λ (t : Option (List Rec)). content_through d x (walked old old.bytes) t) (track_kept d x (walked old old.bytes) (b (Volume d)) (c (Volume d)) redoes none)
      ]

      bytes_same : (d x : ℕ) → c (Volume d) ≡ b (Volume d) → content_through d x (walked old old.bytes) (slot_track (c (Volume d)) x) ≡ content_through d x (walked old old.bytes) (slot_track (b (Volume d)) x)
      bytes_same d x same = ap (λ (l : List ℕ). content_through d x (walked old old.bytes) (slot_track l x)) same

      through_same : (d x : ℕ) → HasRow d (meant_rows old old.bytes) → content_through d x (walked old old.bytes) (slot_track (c (Volume d)) x) ≡ content_through d x (walked old old.bytes) (slot_track (b (Volume d)) x)
      through_same d x row = elim (part_cases old (Volume d)) [
        | inr out ↦ bytes_same d x ((step (Volume d)).1 out)
        | inl part ↦ elim (duplex_cases (meant_rows old old.bytes) d) [
          | inl duplex ↦ redone_same d x (((step (Volume d)).0 part).0 duplex)
          | inr none ↦ bytes_same d x (((step (Volume d)).0 part).2 none (λ r is. apart d r row is.0))
        ]
      ]

      sees_same : SeesSameRows old b c
      sees_same = record {
        means = ap meant_by now;
        content = λ d x row.
            (λ i. content_through d x (walked_by (means i)) (slot_track (c (Volume d)) x)) ∙ through_same d x row
            ∙ (λ i. content_through d x (walked_by ((sym means ∙ now) i)) (slot_track (b (Volume d)) x));
        settled = inr means;
      }

    -- Nothing is written until all that was read is durable.
    pub sees_moments : AllFollow (SeesSameRows old) old new
    sees_moments t from to c is = elim (cases_lt t one.clock) [
      | inl early ↦
          let came = reads_moments tells told old one reads t from (omega (arith, early)) c (past_choice one new t c works.site (works.elapses told) (omega (arith, early)) (omega (arith, early)) is) in
          (came.0, came.1, rows_same old came.0 c came.2)
      | inr late ↦
          let came = comes t from to c is in
          (came.0, came.1, sees_same came.0 c came.2 (later_means t late to c is))
    ]
