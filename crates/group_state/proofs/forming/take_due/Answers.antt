use Rattle.std.proofs.Common.{◌≡◌, length, get_or, set, take, ap, sym, ◌∙◌, arith}
use Rattle.std.specs.List.{flat_map}
use Rattle.std.proofs.lemmas.List.Edits.{map_over_more}
use Rattle.pending_queue.specs.Groups.{FormedGroup, with_entries}
use Rattle.group_state.specs.Controls.{ControlState, formed, due_of}
use Rattle.group_state.proofs.GroupLaws.{not_yet, taken_more, entries_more, entries_count, few_at}
use Rattle.group_state.proofs.forming.take_due.Goals as goal

pub form-requires-clause-few : goal.form-requires-clause-few
form-requires-clause-few c =
    let old = c.args.controls.now in
    let k = c.loop-k.k in
    let x = c.index-controls-k.result in
    let here = not_yet c.args.cut old c.loop-k.controls k x c.loop-k.invariant.controls c.loop-k-test.true c.index-controls-k.is in
    omega (arith, few_at old k x c.requires.few c.loop-k-test.true here, ap (λ (v : ControlState). v.queue.records) c.index-controls-k.is)

pub loop-k-preserved : goal.loop-k-preserved
loop-k-preserved c =
    let cut = c.args.cut in
    let out = c.args.out.now in
    let old = c.args.controls.now in
    let now = c.loop-k.controls in
    let k = c.loop-k.k in
    let x = c.index-controls-k.result in
    let read : x ≡ get_or now k x = c.index-controls-k.is in
    let here : x ≡ get_or old k x = not_yet cut old now k x c.loop-k.invariant.controls c.loop-k-test.true read in
    record {
      controls = ap (λ (y : ControlState). set now k y) c.form.ensures.control ∙ ap (λ (y : ControlState). set now k (formed cut y)) (sym read)
          ∙ map_over_more (formed cut) old now k x c.loop-k-test.true c.loop-k.invariant.controls read;
      group = c.form.ensures.group ∙ ap (λ (y : ControlState). with_entries c.loop-k.out (due_of cut y)) (sym read)
          ∙ ap (λ (o : FormedGroup). with_entries o (due_of cut x)) c.loop-k.invariant.group ∙ entries_more out (flat_map (due_of cut) (take k old)) (due_of cut x)
          ∙ ap (with_entries out) (sym (taken_more cut old k x c.loop-k-test.true here));
      few = omega (arith, ap (λ (o : FormedGroup). length o.entries) c.form.ensures.group, entries_count c.loop-k.out (due_of cut (get_or now k x)), c.form.ensures.few, c.loop-k.invariant.few);
    }
