use Rattle.std.proofs.Common.{◌≡◌, false, nat_eq, slice_index, refl, sym, ap, ◌∙◌}
use Rattle.std.proofs.lemmas.Bool.{eqb-false}
use Rattle.crash_plant.specs.declared.device.Device.TheVariants.{Journal as JournalDevice}
use Rattle.xrc_journal.specs.Items.{form_of}
use Rattle.xrc_journal.specs.Bodies.{BodyState}
use Rattle.xrc_journal.specs.Records.{Found, walk_one}
use Rattle.xrc_journal.specs.Records.Found.{End}
use Rattle.xrc_journal.specs.Answers.{told_of, items_found}
use Rattle.xrc_journal.proofs.RecordsRead.{shut_is_end}
use Rattle.xrc_journal.proofs.Spots.{fault_cause, reads_only_trans}
use Rattle.xrc_journal.proofs.spot.walk.Goals as goal

pub returns-in-Ok-true-clause-only : goal.returns-in-Ok-true-clause-only
returns-in-Ok-true-clause-only g c =
    reads_only_trans g.P.Plant.tells _ _ _ _ (record { same = c.read_gate.ensures.same; moments = c.read_gate.ensures.moments; only = c.read_gate.ensures.only }) c.walk_open.ensures.only

pub returns-in-Ok-false-clause-finds : goal.returns-in-Ok-false-clause-finds
returns-in-Ok-false-clause-finds g c = λ told none.
    let old = g.P.Plant.state c.args.plant.now in
    let journal = old.bytes (JournalDevice c.args.at.set) in
    let gate : nat_eq (slice_index journal c.args.at.place) 1 ≡ false = sym (c.in-Ok-false.ensures.gate told) ∙ c.in-Ok-false.field-0-test in
    let is : walk_one (form_of old) old.journals journal c.args.at c.args.last.0 ≡ End = shut_is_end (form_of old) old.journals journal c.args.at c.args.last.0 (eqb-false (slice_index journal c.args.at.place) 1 gate) in
    let empty = sym (ap items_found is) in
    record {
      told = sym (ap (λ (f : Found). told_of c.args.at.set f) is);
      held = c.clear.ensures ∙ (λ i. let h : BodyState = record { items = empty i; room = c.args.into.now.room } in h);
    }

pub returns-in-Err-clause-finds : goal.returns-in-Err-clause-finds
returns-in-Err-clause-finds g c = λ told none. absurd (none c.args.at.set refl)

pub returns-in-Err-clause-cause : goal.returns-in-Err-clause-cause
returns-in-Err-clause-cause g c = fault_cause c.args.at.set _ _ c.in-Err.ensures.cause.failed
