-- What a crash may leave after a line's reply that is said whole or in part, also on a plant that keeps no past.
use Rattle.std.proofs.Common.{◌≡◌, ℕ, ◌≤◌, Bool, true, false, List, [], ◌∷◌, ◌++◌, length, refl, sym, subst, arith}
use Rattle.std.specs.Prelude.{◌==◌, if◌then◌else◌}
use Rattle.std.proofs.lemmas.List.Elements.{All-append, All-weaker}
use Rattle.crash_plant.specs.declared.device.Device.TheVariants.{Control}
use Rattle.crash_plant.specs.Calls.{WorksOnConsole}
use Rattle.crash_plant.specs.Choices.{AtNow}
use Rattle.crash_plant.specs.Moments.{PlantState}
use Rattle.site_means.specs.Images.{shape_of}
use Rattle.consistency.specs.Stages.{ScriptRun, Stage}
use Rattle.consistency.specs.Pauses.{MayReply, RunGoesOn}
use Rattle.consistency.specs.Courses.{Answered, IsAnswered, last_line_time, replies_of, stage_after, stage_at, texts_of}
use Rattle.consistency.specs.Keeping.{stage_now}
use Rattle.consistency.specs.Moments.{AreUpTo, BearsTime}
use Rattle.consistency.specs.Times.{times_said}
use Rattle.consistency.specs.Ways.{Leg, PassedPoint, stage_point}
use Rattle.consistency.proofs.Bearing.{points_bear}
use Rattle.consistency.proofs.Between.{stages_are_points}
use Rattle.consistency.proofs.Keeping.{stage_answered}
use Rattle.consistency.proofs.Lines.{next_not_before, replied_by_last, replies_more, replies_whole}
use Rattle.consistency.proofs.Pieces.{times_append}
use Rattle.consistency.proofs.Replying.{exact_says_up_to}
use Rattle.consistency.proofs.Standing.{bears_on, console_choice}

module _ (run : ScriptRun) (lines : List Answered) (from : Leg) (points : List PassedPoint) (a : Answered) (first old new : PlantState) (goes : RunGoesOn run lines a.text first old)
    (reply : MayReply run (stage_now run first.script lines a.text) lines from points a old) (tells : Type 0) (told : tells) (works : WorksOnConsole tells old new) where
  abbrev s : Stage
  s = stage_now run first.script lines a.text

  abbrev before : Stage
  before = stage_at run lines (length lines)

  abbrev after : Stage
  after = stage_after before a

  abbrev all : List Answered
  all = lines ++ a ∷ []

  answered : IsAnswered run before a
  answered = record { step = reply.answered.step; counted = reply.answered.counted; level = reply.answered.level; is_reply = reply.answered.is_reply }

  -- The time of the session doesn't fall.
  rises : before.replied ≤ after.replied
  rises =
      let later = next_not_before (length lines) (last_line_time lines (length lines)) (length (texts_of lines ++ a.text) == length first.script) a.text a.line reply.asks in
      let last = replied_by_last run first.script lines (length lines) goes.now.asked (omega arith) in
      by_end before.table.is_ended (omega (arith, later, last))
    where
      by_end : (e : Bool) → before.replied ≤ a.line.time.0 → before.replied ≤ (if e then before.replied else a.line.time.0)
      by_end true le = omega arith
      by_end false le = le

  -- No time of the replies to the lines and to this one is after it.
  said_up_to : AreUpTo after.replied (times_said (replies_of lines ++ a.reply))
  said_up_to =
      subst (λ (l : List ℕ). AreUpTo after.replied l) (sym (times_append (replies_of lines) a.reply (replies_whole run lines goes.now.course)))
      (All-append (λ z. z ≤ after.replied) (times_said (replies_of lines)) (times_said a.reply) (up_to after.replied rises goes.now.times)
      (exact_says_up_to run s from.point points (length lines) a reply.names goes.now.short reply.short reply.exact))
    where
      up_to : (late : ℕ) → before.replied ≤ late → AreUpTo before.replied (times_said (replies_of lines)) → AreUpTo late (times_said (replies_of lines))
      up_to late le = All-weaker (λ z. z ≤ before.replied) (λ z. z ≤ late) (λ z at. omega (arith, le, at)) (times_said (replies_of lines))

  -- Each choice bears a time at the stage after the line, which isn't before any that the reply says.
  pub bears_after : (stage_now run first.script all []).table.is_started ≡ true → AtNow (BearsTime run (stage_now run first.script all []) (replies_of all) new) new
  bears_after started c is =
      let next_is = stage_answered run first.script lines a in
      let left = console_choice tells told old new new.clock c works ((works.elapses told).kept Control).later (omega arith) is in
      let shown = reply.shows (subst (λ (x : Stage). x.table.is_started ≡ true) next_is started) c left in
      bears_on run (stage_now run first.script all []) (replies_of all) old new c works.site
      (subst (λ (x : Stage). BearsTime run x (replies_of all) old c) (sym next_is)
      (subst (λ (l : List ℕ). BearsTime run after l old c) (sym (replies_more lines a))
      (record { time = after.replied; bears = points_bear run after (shape_of old) (stage_point after) c shown (stages_are_points run after refl answered.counted); not_earlier = said_up_to })))
