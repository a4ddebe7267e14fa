-- A line's reply is said.
use Rattle.xrc_session.proofs.RepliesNow.{bears_after}
use Rattle.xrc_session.proofs.OnTrail.{rests_on_trail}
use Rattle.pair_table.specs.Tables.{Table}
use Rattle.std.proofs.Common.{◌≡◌, ℕ, ◌<◌, ◌≤◌, true, List, [], ◌∷◌, ◌++◌, length, take, Option, Some, None, refl, sym, ap, subst, ◌∙◌, append_assoc, arith, true≢false}
use Rattle.std.specs.Prelude.{MatchOption, IsTrue}
use Rattle.crash_plant.specs.declared.device.Device.TheVariants.{Control}
use Rattle.crash_plant.specs.Calls.{Says, WorksOnConsole}
use Rattle.crash_plant.specs.Moments.{PlantState}
use Rattle.site_store.specs.Sites.{SiteState}
use Rattle.consistency.specs.Stages.{ScriptRun}
use Rattle.consistency.specs.Pauses.{MayReply}
use Rattle.consistency.specs.Courses.{Answered, IsAnswered, replies_of, stage_at, texts_of}
use Rattle.consistency.proofs.Between.{replies_fail, replies_go_on}
use Rattle.consistency.proofs.Lines.{asked_more, course_more, texts_more}
use Rattle.mover.specs.declared.lane.Lane.{Lane}
use Rattle.xrc_command.specs.declared.line.Line.{Line}
use Rattle.xrc_status.specs.Saying.{SaidWhole}
use Rattle.xrc_status.specs.declared.stop.Stop.TheVariants.{ConsoleFault}
use Rattle.xrc_session.specs.declared.answering.LineAnswer.{LineAnswer}
use Rattle.xrc_session.specs.AppliedEnds.{IsAllApplied, StaysApplied, StaysAppliedAfter}
use Rattle.xrc_session.specs.LinePauses.{HasAnswered, HasNotBegun, RestsAtSite, StandsAfterLines, stage_after_text}
use Rattle.xrc_session.specs.Ends.{StopsInLine}
use Rattle.xrc_session.specs.Replying.{reply_composed}
use Rattle.xrc_session.specs.States.{SessionState}
use Rattle.xrc_session.specs.Steps.{IsExactAfter, IsToReply, line_answered}
use Rattle.xrc_session.specs.Stops.{RepliesInPart}
use Rattle.xrc_session.specs.Trails.{AreExact, GoesForth, Trail, first_leg, BeginsAtStart, StandsOnTrail}
use Rattle.xrc_session.proofs.AppliedEnds.{applied_still, applies_before, said_before, stays_more, stays_on}
use Rattle.xrc_session.proofs.Consoles.{after_on}
use Rattle.xrc_session.proofs.Courses.{none_next}
use Rattle.xrc_session.proofs.Exactly.{exact_more}
use Rattle.xrc_session.proofs.Replied.{IsAsTold, reply_is_exact}

module _ {S : Type 0} (run : ScriptRun) (lines : List Answered) (trail : Trail) (text : List ℕ) (line : Line) (answer : LineAnswer) (s : SessionState) (lanes : List (Lane S)) (began mid new : PlantState)
    (to : IsToReply run lines trail text line answer s lanes began mid) (as_told : IsAsTold s) (many : length run.traces ≡ length lanes) (reply : List ℕ) (composed : reply ≡ reply_composed s.site lanes line answer)
    (tells : Type 0) (told : tells) (works : WorksOnConsole tells mid new) (says : Says reply mid new) where
  abbrev a : Answered
  a = line_answered run lines text line to.changes to.hits began reply

  exact : IsExactAfter run lines trail text began a
  exact = reply_is_exact run lines trail text line answer s lanes began mid to as_told many reply composed

  may : MayReply run (stage_after_text run lines text began) lines (first_leg run (lines ++ a ∷ []) trail) trail.points a mid
  may = to.may reply exact

  answered : IsAnswered run (stage_at run lines (length lines)) a
  answered = record { step = may.answered.step; counted = may.answered.counted; level = may.answered.level; is_reply = may.answered.is_reply }

  exact_all : AreExact run (lines ++ a ∷ []) trail
  exact_all = exact_more run lines trail to.begins a to.exact (record { exact = exact; brings = λ on. let b = to.brings reply on in record { changes = b.changes; rows = b.rows } })

  stands : StandsAfterLines run (lines ++ a ∷ []) (stage_after_text run (lines ++ a ∷ []) [] began) trail s began new
  stands = after_on tells mid new works told run (lines ++ a ∷ []) (stage_after_text run (lines ++ a ∷ []) [] began) trail s began to.goes.now.site to.goes.now.later (to.stands reply)

  applied_now : (stage_after_text run (lines ++ a ∷ []) [] began).table.is_ended ≡ true → IsAllApplied new new.clock
  applied_now ended = applied_still tells told mid new works (to.applied reply ended)

  later : mid.clock ≤ new.clock
  later = ((works.elapses told).kept Control).later

  -- So it is from the reply's first byte on.
  stays_now : 0 < began.clock → (stage_after_text run (lines ++ a ∷ []) [] began).table.is_ended ≡ true → StaysAppliedAfter lines began new
  stays_now up ended = applies_before tells told lines began mid new works to.goes.now.later (said_before run lines text began mid (to.goes.keeps up)) (to.applied reply ended) up

  -- Once it was said whole, the line is answered.
  pub said_whole : StaysApplied run lines began mid → SaidWhole reply mid new → HasAnswered run (lines ++ a ∷ []) trail [] s lanes began new
  said_whole stays whole =
      let on = replies_go_on run lines (first_leg run (lines ++ a ∷ []) trail) trail.points a began mid new to.goes may tells told works says whole in
      record {
        goes = on;
        exact = exact_all;
        stands = stands;
        broke = to.broke;
        applied = stays_more run lines a began new applied_now stays_now (stays_on tells told run lines began mid new works stays);
      }

  in_part : RepliesInPart run lines a began new
  in_part =
      let said = says.front new.clock later (omega arith) in
      record {
        course = course_more run lines a to.goes.now.course answered;
        asked = asked_more began.script lines a to.goes.now.asked (record { asks = may.asks; one_line = to.goes.now.one_line });
        heard = says.heard new.clock later (omega arith) ∙ to.goes.now.heard ∙ ap (λ (l : List ℕ). began.heard began.clock ++ l) (sym (texts_more lines a));
        script = to.goes.now.script ∙ ap (λ (l : List ℕ). texts_of lines ++ text ++ l) (sym says.script) ∙ ap (λ (l : List ℕ). l ++ new.script) (sym (texts_more lines a));
        front = (said.0, said.1, said.2 ∙ ap (λ (l : List ℕ). l ++ take said.0 reply) to.goes.now.said ∙ append_assoc (began.said began.clock) (replies_of lines) (take said.0 reply));
        applied = applied_now;
        stays = stays_now;
        bears = λ up. replies_fail run lines (first_leg run (lines ++ a ∷ []) trail) trail.points a began mid new to.goes may tells told works says up;
        bears_now = bears_after run lines (first_leg run (lines ++ a ∷ []) trail) trail.points a began mid new to.goes may tells told works;
      }

  -- Where the console failed the session stops within the reply.
  pub said_in_part : StopsInLine run lines text began new ConsoleFault
  said_in_part = record {
    trail = trail;
    stopped = record {
      part = Some a;
      stands = (refl, refl, in_part);
      exact = exact_all;
      unstarted = λ unstarted_trail. by_none s.site unstarted_trail stands.place;
      begun = λ on. by_begun s.site refl on stands.place;
      next = None;
      on_trail = λ some. by_along s.site some stands.place;
      goes_forth = λ past some. by_place s.site (omega (arith, past, to.goes.now.later, later)) some stands.place;
    };
    volumes = stands.volumes;
    spent = λ is. absurd cc;
  }
    where
      by_begun : (o : Option SiteState) → s.site ≡ o → IsTrue (stage_at run (lines ++ a ∷ []) (length (lines ++ a ∷ []))).table.is_started
          → MatchOption o (HasNotBegun trail began new) (RestsAtSite run (lines ++ a ∷ []) (stage_after_text run (lines ++ a ∷ []) [] began) trail s began new) → (0 < trail.started) × BeginsAtStart run (lines ++ a ∷ []) trail
      by_begun None is on none = absurd (true≢false (sym on ∙ ap (λ (t : Table). t.is_started) stands.table ∙ as_told.unstarted is))
      by_begun (Some site) is on rests = (rests.under_way.some, rests.under_way.begins)

      by_none : (o : Option SiteState) → trail.started ≡ 0 → MatchOption o (HasNotBegun trail began new) (RestsAtSite run (lines ++ a ∷ []) (stage_after_text run (lines ++ a ∷ []) [] began) trail s began new) → trail.points ≡ []
      by_none None zero not_begun = not_begun.points
      by_none (Some site) zero rests = absurd (omega (arith, zero, rests.under_way.some))

      by_along : (o : Option SiteState) → 0 < trail.started → MatchOption o (HasNotBegun trail began new) (RestsAtSite run (lines ++ a ∷ []) (stage_after_text run (lines ++ a ∷ []) [] began) trail s began new)
          → StandsOnTrail run (lines ++ a ∷ []) None trail None new
      by_along None some none = absurd (omega (arith, some, none.started))
      by_along (Some site) some rests =
          subst (λ (o : Option Line). StandsOnTrail run (lines ++ a ∷ []) o trail None new) (none_next run began.script (lines ++ a ∷ []))
          (rests_on_trail run (lines ++ a ∷ []) (stage_after_text run (lines ++ a ∷ []) [] began) trail s began new site rests)

      by_place : (o : Option SiteState) → 0 < new.clock → 0 < trail.started → MatchOption o (HasNotBegun trail began new) (RestsAtSite run (lines ++ a ∷ []) (stage_after_text run (lines ++ a ∷ []) [] began) trail s began new)
          → GoesForth run (lines ++ a ∷ []) None trail None began new
      by_place None up some none = absurd (omega (arith, some, none.started))
      by_place (Some site) up some rests =
          subst (λ (o : Option Line). GoesForth run (lines ++ a ∷ []) o trail None began new) (none_next run began.script (lines ++ a ∷ [])) (rests.under_way.goes_forth up)
