use Rattle.std.proofs.Common.{List, ◌+◌, ◌≤◌, length, sym, ◌∙◌, arith, subst}
use Rattle.std.proofs.lemmas.List.{length-map}
use Rattle.ckd_track.specs.declared.rec.Rec.{Rec}
use Rattle.pending_queue.specs.Groups.{heads}
use Rattle.image_former.proofs.Besides.{apply_forth}
use Rattle.image_former.proofs.Entries.{head_in, entry_there, form_there, is_form}
use Rattle.image_former.proofs.Changing.{Applying, apply_first, apply_more, apply_other, apply_all}
use Rattle.image_former.proofs.Linking.{bucket_there}
use Rattle.image_former.proofs.tracks.apply_entries.Goals as goal
use Rattle.image_former.proofs.tracks.apply_entries.Goals.{then-is_same_track, else-is_same_track}

pub apply_entry-requires : goal.apply_entry-requires
apply_entry-requires c =
    let entries = c.args.formed.now.entries in
    let t = entry_there entries c.args.place c.args.head c.requires.head in
    let form = c.entry.result.now in
    record { form = is_form _ t.entry form t.there c.entry.ensures.write (form_there entries c.args.place t.entry form t.there c.entry.ensures.form) }

pub loop-at-init : goal.loop-at-init
loop-at-init c =
    let entries = c.args.formed.now.entries in
    let t = entry_there entries c.args.place c.args.head c.requires.head in
    let own = bucket_there (heads c.args.formed.now) c.args.place c.args.head c.requires.head in
    let within : c.forth-at.result ≤ length entries = omega (arith, c.forth-at.ensures.within, length-map entries head_in) in
    let first = apply_first c.args.head c.args.place entries t c.entry.result.now c.args.slot.now c.apply_entry.new.self (form_there entries c.args.place t.entry c.entry.result.now t.there c.entry.ensures.form) c.apply_entry.ensures in
    (apply_forth c.args.head c.args.place c.args.place c.forth-at.result entries c.args.slot.now c.apply_entry.new.self first c.forth-at.ensures within (λ linked. own), within, λ lt. c.forth-at.ensures.shares lt ∙ own)

pub apply_entry-requires-then-is_same_track : goal.apply_entry-requires-then-is_same_track
apply_entry-requires-then-is_same_track c =
    let entries = c.args.formed.now.entries in
    let t = entry_there entries c.loop-at.at c.head.result c.head.ensures in
    let form = c.entry-then-is_same_track.result.now in
    record { form = is_form _ t.entry form t.there c.entry-then-is_same_track.ensures.write (form_there entries c.loop-at.at t.entry form t.there c.entry-then-is_same_track.ensures.form) }

pub loop-at-preserved : goal.loop-at-preserved
loop-at-preserved c =
    let entries = c.args.formed.now.entries in
    let at = c.loop-at.at in
    let next = c.forth-at-in-loop-at in
    let t = entry_there entries at c.head.result c.head.ensures in
    let within : next.result ≤ length entries = omega (arith, next.ensures.within, length-map entries head_in) in
    let done : Applying c.args.head c.args.place (at + 1) entries c.args.slot.now c.if-is_same_track.slot =
    elim c.if-is_same_track.branch [
      | then-is_same_track w ↦
          let form = w.entry-then-is_same_track.result.now in
          subst (λ (l : List Rec). Applying c.args.head c.args.place (at + 1) entries c.args.slot.now l) (sym w.slot-is)
          (apply_more c.args.head c.head.result c.args.place at entries t form c.args.slot.now c.loop-at.slot w.apply_entry-then-is_same_track.new.self c.loop-at.invariant.0 (sym c.is_same_track.ensures ∙ w.if-is_same_track.true)
          (form_there entries at t.entry form t.there w.entry-then-is_same_track.ensures.form) w.apply_entry-then-is_same_track.ensures)
      | else-is_same_track w ↦
          subst (λ (l : List Rec). Applying c.args.head c.args.place (at + 1) entries c.args.slot.now l) (sym w.slot-is)
          (apply_other c.args.head c.head.result c.args.place at entries t c.args.slot.now c.loop-at.slot c.loop-at.invariant.0 (sym c.is_same_track.ensures ∙ w.if-is_same_track.false))
    ] in (
      apply_forth c.args.head c.args.place at next.result entries c.args.slot.now c.if-is_same_track.slot done next.ensures within c.loop-at.invariant.2,
      within,
      λ lt. next.ensures.shares lt ∙ c.loop-at.invariant.2 (omega (arith, lt, next.ensures.rises)),
    )

pub returns : goal.returns
returns c old begins =
    apply_all c.args.head c.args.place c.loop-at.at c.args.formed.now.entries c.args.slot.now c.loop-at.slot c.loop-at.invariant.0 (omega (arith, c.loop-at-test.false, c.count.ensures)) old begins
