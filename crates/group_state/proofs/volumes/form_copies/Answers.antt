use Rattle.std.proofs.Common.{◌≡◌, ◌<◌, List, [], length, get_or, take, Bool, true, cond, ap, sym, ◌∙◌, arith}
use Rattle.std.proofs.lemmas.Bool.{and_parts}
use Rattle.std.proofs.lemmas.List.{get_or_default}
use Rattle.ckd_track.specs.declared.write.Kind.TheVariants.{Whole}
use Rattle.pending_queue.specs.declared.head.EntryHead.{EntryHead}
use Rattle.pending_queue.specs.Entries.{WaitingEntry, copies, due, is_due}
use Rattle.group_state.specs.declared.volume.Volume.{Volume}
use Rattle.group_state.specs.Volumes.{with_volume, formed_track, with_formed_copies, volume_of, passes}
use Rattle.group_state.specs.SoundStates.{may_form}
use Rattle.group_state.proofs.FormLaws.{formed_more, may_form_next}
use Rattle.group_state.proofs.volumes.form_copies.Goals as goal
use Rattle.group_state.proofs.volumes.form_copies.Goals.{then-is_due_copy, else-is_due_copy}

-- what a look-up past the end would give
none : WaitingEntry
none = record { head = record { control = 0; volume = 0; track = 0; stamp = record { 0 = 0 }; whole = true }; kind = Whole []; form = []; is_copy = true }

pub form_copy-requires : goal.form_copy-requires
form_copy-requires c =
    let waiting = c.args.queue.now.state.waiting in
    let k = c.loop-place.place in
    let e = get_or waiting k none in
    let lt : k < length waiting = omega arith in
    let is : e ≡ get_or waiting k e = get_or_default waiting k none e lt in
    let copy = (and_parts (is_due c.args.cut e) e.is_copy (sym (c.if-is_due_copy.ensures none))).1 in
    ap (λ (h : EntryHead). passes (may_form h.track) (volume_of h.volume c.loop-place.volumes)) (c.head-head.ensures none)
    ∙ ap (λ (us : List Volume). passes (may_form e.head.track) (volume_of e.head.volume us)) c.loop-place.invariant
    ∙ may_form_next c.args.volumes.now c.args.cut waiting k e lt is copy c.requires.entries c.requires.counts

pub loop-place-preserved : goal.loop-place-preserved
loop-place-preserved c =
    let waiting = c.args.queue.now.state.waiting in
    let k = c.loop-place.place in
    let e = get_or waiting k none in
    let lt : k < length waiting = omega arith in
    let is : e ≡ get_or waiting k e = get_or_default waiting k none e lt in
    let before = with_formed_copies c.args.volumes.now (copies (due c.args.cut (take k waiting))) in
    let more = formed_more c.args.volumes.now c.args.cut waiting k e lt is in
    elim c.if-is_due_copy.branch [
      | then-is_due_copy w ↦
          w.volumes-is ∙ w.form_copy.ensures
          ∙ ap (λ (h : EntryHead). with_volume h.volume formed_track c.loop-place.volumes) (w.head-head.ensures none)
          ∙ ap (λ (us : List Volume). with_volume e.head.volume formed_track us) c.loop-place.invariant
          ∙ sym (more ∙ ap (λ (b : Bool). cond b (with_volume e.head.volume formed_track before) before) (sym (c.is_due_copy.ensures none) ∙ w.if-is_due_copy.true))
      | else-is_due_copy w ↦
          w.volumes-is ∙ c.loop-place.invariant
          ∙ sym (more ∙ ap (λ (b : Bool). cond b (with_volume e.head.volume formed_track before) before) (sym (c.is_due_copy.ensures none) ∙ w.if-is_due_copy.false))
    ]
