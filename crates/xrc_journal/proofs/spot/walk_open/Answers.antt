use Rattle.std.proofs.Common.{◌+◌, ℕ, Some, refl, sym, ap, subst, ◌∙◌, arith}
use Rattle.tod_stamp.proofs.FieldLaws.{at_place}
use Rattle.crash_plant.specs.declared.device.Device.TheVariants.{Journal as JournalDevice}
use Rattle.xrc_journal.specs.declared.header.RecordHeader.{RecordHeader}
use Rattle.xrc_journal.specs.Items.{form_of}
use Rattle.xrc_journal.specs.Records.{Found, record_head_at, stretch}
use Rattle.xrc_journal.specs.Answers.{Finds, header_of, group_at, switch_at, told_of}
use Rattle.xrc_journal.proofs.Appends.{same_form}
use Rattle.xrc_journal.proofs.Spots.{cut_header, bad_by, group_by, switch_by, finds_damaged, finds_switch, fault_cause, reads_only_trans}
use Rattle.xrc_journal.proofs.spot.walk_open.Goals as goal

pub returns-then-length-at-lt-FRONT-clause-finds : goal.returns-then-length-at-lt-FRONT-clause-finds
returns-then-length-at-lt-FRONT-clause-finds g c = λ told none.
    let old = g.P.Plant.state c.args.plant.now in
    let journal = old.bytes (JournalDevice c.args.at.set) in
    let size = g.met.P.Plant.length_told c.args.plant.now (JournalDevice c.args.at.set) told c.requires.there in
    finds_damaged c.args.at.set c.args.at.place _ c.args.into.now (bad_by (form_of old) old.journals journal c.args.at c.args.last.0 (c.requires.gate told) (cut_header journal c.args.at c.args.last.0 (omega (arith, size, c.length.ensures, c.if-length-at-lt-FRONT.true, c.requires.range)))) c.requires.empty

pub returns-in-Ok-None-clause-finds : goal.returns-in-Ok-None-clause-finds
returns-in-Ok-None-clause-finds g c = λ told none.
    let old = g.P.Plant.state c.args.plant.now in
    let journal = old.bytes (JournalDevice c.args.at.set) in
    let size = g.met.P.Plant.length_told c.args.plant.now (JournalDevice c.args.at.set) told c.requires.there in
    let header = ap (λ (n : ℕ). header_of (record_head_at n c.args.at c.args.last.0 (at_place (c.args.at.place + 1) (stretch (c.args.at.place + 1) 21 journal)))) size ∙ sym (c.in-Ok-None.ensures.header told) ∙ c.in-Ok-None.field-0-is in
    finds_damaged c.args.at.set c.args.at.place _ c.args.into.now (bad_by (form_of old) old.journals journal c.args.at c.args.last.0 (c.requires.gate told) header) c.requires.empty

pub returns-in-Ok-Some-Group-clause-finds : goal.returns-in-Ok-Some-Group-clause-finds
returns-in-Ok-Some-Group-clause-finds g c = λ told none.
    let old = g.P.Plant.state c.args.plant.now in
    let mid = g.P.Plant.state c.read_header.new.plant in
    let journal = old.bytes (JournalDevice c.args.at.set) in
    let size = g.met.P.Plant.length_told c.args.plant.now (JournalDevice c.args.at.set) told c.requires.there in
    let time = c.in-Ok-Some-Group.time in
    let len = c.in-Ok-Some-Group.length in
    let header = ap (λ (n : ℕ). header_of (record_head_at n c.args.at c.args.last.0 (at_place (c.args.at.place + 1) (stretch (c.args.at.place + 1) 21 journal)))) size ∙ sym (c.in-Ok-Some-Group.ensures.header told) ∙ c.in-Ok-Some-Group.field-0-is ∙ ap (λ (h : RecordHeader). Some h) c.in-Ok-Some-Group.field-0-0-is in
    let form = same_form old mid c.read_header.ensures.only.site in
    let same = c.read_header.ensures.same told in
    let walked = group_by (form_of old) old.journals journal c.args.at c.args.last.0 (c.requires.gate told) time len header in
    subst (λ (f : Found). Finds c.args.at.set f c.walk_group.result c.args.into.now c.walk_group.new.into) ((λ i. group_at (form i) (same i) c.args.at time.0 len) ∙ sym walked) (c.walk_group.ensures.finds told none)

pub returns-in-Ok-Some-Switch-clause-finds : goal.returns-in-Ok-Some-Switch-clause-finds
returns-in-Ok-Some-Switch-clause-finds g c = λ told none.
    let old = g.P.Plant.state c.args.plant.now in
    let mid = g.P.Plant.state c.read_header.new.plant in
    let journal = old.bytes (JournalDevice c.args.at.set) in
    let size = g.met.P.Plant.length_told c.args.plant.now (JournalDevice c.args.at.set) told c.requires.there in
    let time = c.in-Ok-Some-Switch.time in
    let header = ap (λ (n : ℕ). header_of (record_head_at n c.args.at c.args.last.0 (at_place (c.args.at.place + 1) (stretch (c.args.at.place + 1) 21 journal)))) size ∙ sym (c.in-Ok-Some-Switch.ensures.header told) ∙ c.in-Ok-Some-Switch.field-0-is ∙ ap (λ (h : RecordHeader). Some h) c.in-Ok-Some-Switch.field-0-0-is in
    let sets = c.read_header.ensures.only.site.journals in
    let same = c.read_header.ensures.same told in
    let walked = switch_by (form_of old) old.journals journal c.args.at c.args.last.0 (c.requires.gate told) time header in
    let answer = c.walk_switch.ensures.told told none ∙ (λ i. told_of c.args.at.set (switch_at (sets i) (same i) c.args.at time.0)) in
    subst (λ (f : Found). Finds c.args.at.set f c.walk_switch.result c.args.into.now c.args.into.now) (sym walked) (finds_switch c.args.at.set old.journals journal c.args.at time.0 c.walk_switch.result c.args.into.now answer c.requires.empty)

pub returns-in-Ok-Some-Group-clause-only : goal.returns-in-Ok-Some-Group-clause-only
returns-in-Ok-Some-Group-clause-only g c =
    reads_only_trans g.P.Plant.tells _ _ _ _ (record { same = c.read_header.ensures.same; moments = c.read_header.ensures.moments; only = c.read_header.ensures.only }) c.walk_group.ensures.only

pub returns-in-Ok-Some-Switch-clause-only : goal.returns-in-Ok-Some-Switch-clause-only
returns-in-Ok-Some-Switch-clause-only g c =
    reads_only_trans g.P.Plant.tells _ _ _ _ (record { same = c.read_header.ensures.same; moments = c.read_header.ensures.moments; only = c.read_header.ensures.only }) c.walk_switch.ensures.only

pub returns-in-Err-clause-finds : goal.returns-in-Err-clause-finds
returns-in-Err-clause-finds g c = λ told none. absurd (none c.args.at.set refl)

pub returns-in-Err-clause-cause : goal.returns-in-Err-clause-cause
returns-in-Err-clause-cause g c = fault_cause c.args.at.set _ _ c.in-Err.ensures.cause.failed
