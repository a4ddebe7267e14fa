use Rattle.std.proofs.Common.{◌≡◌, ◌+◌, ◌-◌, List, ℕ, take, drop, sym, ap, ◌∙◌, arith}
use Rattle.std.specs.Int.{w16, from_be_bytes}
use Rattle.crash_plant.specs.declared.device.Device.TheVariants.{Journal as JournalDevice}
use Rattle.xrc_journal.specs.Records.{Found, next_set, stretch}
use Rattle.xrc_journal.specs.Answers.{told_of}
use Rattle.xrc_journal.proofs.Spots.{switch_cut, switch_other, switch_next, fault_cause}
use Rattle.xrc_journal.proofs.spot.walk_switch.Goals as goal

pub returns-then-length-place-lt2-clause-told : goal.returns-then-length-place-lt2-clause-told
returns-then-length-place-lt2-clause-told g c = λ told none.
    let old = g.P.Plant.state c.args.plant.now in
    let size = g.met.P.Plant.length_told c.args.plant.now (JournalDevice c.args.at.set) told c.requires.there in
    sym (ap (λ (f : Found). told_of c.args.at.set f) (switch_cut old.journals (old.bytes (JournalDevice c.args.at.set)) c.args.at c.args.time.0 (omega (arith, size, c.length.ensures, c.if-length-place-lt2.true, c.requires.range))))

pub returns-then-from_be_bytes-set-clause-told : goal.returns-then-from_be_bytes-set-clause-told
returns-then-from_be_bytes-set-clause-told g c = λ told none.
    let old = g.P.Plant.state c.args.plant.now in
    let bytes = old.bytes (JournalDevice c.args.at.set) in
    let size = g.met.P.Plant.length_told c.args.plant.now (JournalDevice c.args.at.set) told c.requires.there in
    let two : c.args.at.place + 22 + 2 - (c.args.at.place + 22) ≡ 2 = omega arith in
    let read : c.read.new.into ≡ stretch (c.args.at.place + 22) 2 bytes = c.in-Ok.ensures.bytes told ∙ ap (λ (k : ℕ). take k (drop (c.args.at.place + 22) bytes)) two in
    let target : c.from_be_bytes.result ≡ from_be_bytes w16 (stretch (c.args.at.place + 22) 2 bytes) = omega (arith, c.from_be_bytes.ensures, ap (λ (l : List ℕ). from_be_bytes w16 l) read) in
    sym (ap (λ (f : Found). told_of c.args.at.set f)
    (switch_other old.journals bytes c.args.at c.args.time.0 c.from_be_bytes.result (omega (arith, size, c.length.ensures, c.if-length-place-lt2.false, c.requires.range)) target (λ is. c.if-from_be_bytes-set.true (is ∙ sym (c.next_set-set.ensures ∙ ap (λ (n : ℕ). next_set n c.args.at.set) c.journals.ensures)))))

pub returns-else-from_be_bytes-set-clause-told : goal.returns-else-from_be_bytes-set-clause-told
returns-else-from_be_bytes-set-clause-told g c = λ told none.
    let old = g.P.Plant.state c.args.plant.now in
    let bytes = old.bytes (JournalDevice c.args.at.set) in
    let size = g.met.P.Plant.length_told c.args.plant.now (JournalDevice c.args.at.set) told c.requires.there in
    let two : c.args.at.place + 22 + 2 - (c.args.at.place + 22) ≡ 2 = omega arith in
    let read : c.read.new.into ≡ stretch (c.args.at.place + 22) 2 bytes = c.in-Ok.ensures.bytes told ∙ ap (λ (k : ℕ). take k (drop (c.args.at.place + 22) bytes)) two in
    let target : c.next_set-set.result ≡ from_be_bytes w16 (stretch (c.args.at.place + 22) 2 bytes) = omega (arith, c.if-from_be_bytes-set.false, c.from_be_bytes.ensures, ap (λ (l : List ℕ). from_be_bytes w16 l) read) in
    sym (ap (λ (f : Found). told_of c.args.at.set f)
    (switch_next old.journals bytes c.args.at c.args.time.0 c.next_set-set.result (omega (arith, size, c.length.ensures, c.if-length-place-lt2.false, c.requires.range)) target (c.next_set-set.ensures ∙ ap (λ (n : ℕ). next_set n c.args.at.set) c.journals.ensures)))

pub returns-in-Err-clause-cause : goal.returns-in-Err-clause-cause
returns-in-Err-clause-cause g c = fault_cause c.args.at.set _ _ c.in-Err.ensures.cause.failed
