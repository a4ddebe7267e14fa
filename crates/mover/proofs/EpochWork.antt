-- An epoch for a line as work for the line: what a session has before it is what the work begins with, so each of its moments bears.
use Rattle.std.proofs.Common.{◌≡◌, ◌⊎◌, inl, inr, ℕ, suc, ◌<◌, ◌≤◌, true, List, length, take, Option, Some, refl, sym, ap, subst, ◌∙◌, arith}
use Rattle.std.proofs.lemmas.Bool.{cases_lt}
use Rattle.std.proofs.lemmas.List.{take_all}
use Rattle.crash_plant.specs.Choices.{Choice, IsChoice}
use Rattle.crash_plant.specs.Moments.{PlantState}
use Rattle.pair_table.specs.declared.row.PairRow.{PairRow}
use Rattle.pair_table.specs.Tables.{none_clash}
use Rattle.group_state.specs.Groups.{Group}
use Rattle.group_state.specs.Runs.{Answer}
use Rattle.record_rows.specs.Deeds.{Deed}
use Rattle.record_rows.proofs.Counting.{counts_append}
use Rattle.site_means.specs.Images.{Shape}
use Rattle.site_means.proofs.Goes.{shape_same}
use Rattle.xrc_command.specs.declared.line.Line.{Line}
use Rattle.site_store.specs.DeedChanges.{DeedOfChanges, changes_of, deeds_of}
use Rattle.site_store.specs.DoneDeeds.{BeginsDeeds, with_next}
use Rattle.site_store.specs.Seeing.{SeesAfter}
use Rattle.consistency.specs.Bearing.{Bears}
use Rattle.consistency.specs.Stages.{breaks_of}
use Rattle.fed_logs.specs.Feeds.{part_of_mover}
use Rattle.fed_logs.specs.Moves.{HasRowIn, IsDuplex, MakesDeeds}
use Rattle.fed_logs.proofs.BreaksToCome.{breaks_to_come_are_awaited}
use Rattle.consistency.specs.Leads.{Point, may_rest}
use Rattle.consistency.specs.Ways.{HasCountedHits, leg_to}
use Rattle.mover.specs.Points.{AreSteps}
use Rattle.mover.specs.BorneLaws.{next_point}
use Rattle.mover.specs.Working.{IsAtLine, IsLogOfWork, Work, WorkBegins, named_steps, points_in, time_then}
use Rattle.mover.proofs.Bearing.{seen_deeds_bear}
use Rattle.mover.proofs.Leading.{count_deeds, trace_of_break}
use Rattle.mover.proofs.Passing.{begun_deeds_bear, begun_deeds_pass_points, points_are_on_the_way}
use Rattle.site_store.specs.Sites.{SiteState}
use Rattle.mover.specs.declared.ends.EpochEnd.{EpochEnd}
use Rattle.mover.specs.declared.lane.Lane.{Lane}
use Rattle.mover.specs.Moves.{KnowsDuplex}
use Rattle.mover.specs.Epochs.{AreStepsOf}
use Rattle.mover.specs.Bearing.{BearsSome, BearsAtEachMoment, EpochsBear, IsEpochOf, RunSoFar}
use Rattle.mover.proofs.LogParts.{up_to_limit}

module _ {S : Type 0} (tells : Type 0) (left : S → Option (List ℕ)) (faults : S → ℕ) (so : RunSoFar) (line : Line) (group : Group) (old new : List (Lane S)) (site after : SiteState) (was is : PlantState) (result : EpochEnd)
    (e : IsEpochOf tells left faults so line group old new site after was is result) where
  abbrev pub p : Point
  p = so.leg.point

  abbrev pub steps : List DeedOfChanges
  steps = e.goes.ran.steps

  abbrev pub log : List Answer
  log = e.goes.ran.log

  abbrev pub work : Work
  work = record { run = so.run; stage = so.stage; line = line; leg = so.leg; size = so.size; excepted = so.excepted; begun = group; ended = e.goes.ran.end; log = log; done = so.done; steps = steps }

  pub same_time : p.time ≡ site.time
  same_time = ap (λ (r : Point). r.time) e.stands.at

  pub same_rows : p.rows ≡ site.told
  same_rows = ap (λ (r : Point). r.rows) e.stands.at

  pub knows_duplex : KnowsDuplex site.told so.done
  knows_duplex k v has = (e.stands.rows.holds e.stands.some.0 e.stands.some.1).stand.duplex k v (subst (HasRowIn IsDuplex k v) (sym same_rows) has)

  pub apart : none_clash site.told ≡ true
  apart = subst (λ (rows : List PairRow). none_clash rows ≡ true) same_rows e.stands.rows.apart

  pub steps_are : AreStepsOf so.run site steps
  steps_are = e.goes.bears.each so.run e.stands.has_site.level e.stands.has_site.goes_on apart e.stands.has_state.keeps e.for_line.turns e.stands.has_state.broke

  pub up_to_line : site.time ≤ line.time.0
  up_to_line = (e.goes.bears.times 0 0 (omega arith) (omega arith)).1

  -- ---- what the work begins with

  counted : HasCountedHits so.run (leg_to so.leg p (changes_of steps))
  counted device =
      let rose = e.for_line.counted device in
      let here = e.goes.ran.counted device rose.0 in
      omega (arith, rose.1, here, e.stands.hits device, counts_append device so.leg.changes (changes_of steps))

  at_line : IsAtLine work
  at_line = record {
    goes_on = sym e.stands.leg_is.whole.leads.goes_on ∙ ap (λ (r : Point). r.is_ended) e.stands.at;
    heard = e.for_line.heard;
    leg_is = e.stands.leg_is;
    rests = subst (λ (r : Point). may_rest true r ≡ true) (sym e.stands.at) refl;
    counted = counted;
  }

  logged : IsLogOfWork work
  logged = record {
    fed = e.goes.bears.fed so.run.traces e.stands.has_state.keeps e.for_line.turns;
    kept = subst (λ (r : Point). MakesDeeds r.time r.rows so.done (part_of_mover log) (deeds_of steps)) (sym e.stands.at) (e.goes.ran.makes so.done knows_duplex);
    each = subst (λ (r : Point). AreSteps so.run.level (breaks_of so.run) r steps) (sym e.stands.at) steps_are.each;
    up = omega (arith, up_to_line, same_time);
    limited = up_to_limit line.time.0 e.goes.ran.log e.goes.ran.limited;
    awaits = λ k b at from.
        let t = trace_of_break so.run.traces k b at in
        breaks_to_come_are_awaited group k b (e.stands.has_state.awaits k b t.0 t.1 t.2 (omega (arith, from, same_time)));
  }

  pub work_begins : WorkBegins was work
  work_begins = record { at_line = at_line; shows = e.stands.shows; stands = e.stands.rows; logged = logged }

  pub begins : BeginsDeeds so.excepted p.rows (deeds_of steps) was is
  begins = subst (λ (rows : List PairRow). BeginsDeeds so.excepted rows (deeds_of steps) was is) (sym same_rows) ((e.goes.shows e.told).begins so.excepted e.stands.has_site.stands)

  -- ---- what it bears

  abbrev Sees : (n : ℕ) → Choice → Type 0
  Sees n c = SeesAfter was so.excepted p.rows (take n (deeds_of steps)) c

  -- A choice that shows so many of the deeds bears.
  seen_bears : (n : ℕ) (c : Choice) → n ≤ length (deeds_of steps) → Sees n c → BearsSome so is c
  seen_bears n c few sees = (
    time_then n work,
    subst (λ (shape : Shape). Bears so.run so.stage shape c (time_then n work)) (sym (shape_same was is begins.site)) (seen_deeds_bear was work work_begins n (omega (arith, few, count_deeds steps)) c sees),
  )

  now_bears : (c : Choice) → IsChoice is is.clock c → BearsSome so is c
  now_bears c has = by_side (begins.now c has)
    where
      n : ℕ
      n = length begins.moments

      by_size : Sees (suc n) c → (n < length (deeds_of steps)) ⊎ (length (deeds_of steps) ≤ n) → BearsSome so is c
      by_size sees (inl more) = seen_bears (suc n) c (omega (arith, more)) sees
      by_size sees (inr all) = seen_bears n c begins.few (subst (λ (l : List Deed). SeesAfter was so.excepted p.rows l c) (take_all (suc n) (deeds_of steps) (omega (arith, all)) ∙ sym (take_all n (deeds_of steps) all)) sees)

      by_side : Sees n c ⊎ SeesAfter was so.excepted p.rows (with_next n (deeds_of steps)) c → BearsSome so is c
      by_side (inl sees) = seen_bears n c begins.few sees
      by_side (inr sees) = by_size sees (cases_lt n (length (deeds_of steps)))

  pub bears_at_each_moment : BearsAtEachMoment so was is
  bears_at_each_moment = record {
    moments = λ up. begun_deeds_bear was is work work_begins up begins;
    now = now_bears;
    passes = λ asked at_work.
        let found = begun_deeds_pass_points was is work asked work_begins at_work begins in (
          points_in work begins.moments (named_steps work),
          next_point work begins.moments,
          record { goes = found.goes; linked = found.linked; on_the_way = points_are_on_the_way so.run.level p begins.moments (named_steps work); may = found.may; may_next = found.may_next; comes_next = found.comes_next; now = found.now },
        );
  }

pub epochs_bear : {S : Type 0} → (tells : Type 0) → (left : S → Option (List ℕ)) → (faults : S → ℕ) → (was is : PlantState) → EpochsBear tells left faults was is
epochs_bear tells left faults was is so line group old new site after result e = bears_at_each_moment tells left faults so line group old new site after was is result e
