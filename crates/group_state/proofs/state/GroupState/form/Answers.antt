use Rattle.std.proofs.Common.{◌≡◌, ◌≤◌, Bool, cond, true≢false, ◌&&◌, not, List, ◌++◌, length, take, drop, map, refl, ap, sym, subst, ◌∙◌, arith}
use Rattle.std.specs.Prelude.{◌==◌, fold}
use Rattle.std.specs.List.{list_all, list_any, flat_map}
use Rattle.tod_stamp.specs.declared.stamp.Stamp.{Stamp}
use Rattle.group_state.specs.declared.joining.Forming.{Forming}
use Rattle.group_state.specs.declared.joining.Forming.TheVariants.{Formed, Nothing}
use Rattle.pending_queue.specs.Groups.{FormedGroup, empty_group, with_entries}
use Rattle.group_state.specs.Controls.{ControlState, formed, lesser, has_news, due_of}
use Rattle.group_state.specs.Groups.{Group, HasRoomForNews, has_few, cut_of, gives_nothing, formed_at, shown_at, shown_in, with_news}
use Rattle.group_state.specs.Machine.Reply.{Formed as Shows, Nothing as Quiet}
use Rattle.group_state.specs.Answers.{form_reply}
use Rattle.group_state.specs.SoundStates.{IsGroupSound}
use Rattle.group_state.proofs.SoundLaws.{written_back}
use Rattle.group_state.proofs.GroupLaws.{all_few}
use Rattle.group_state.proofs.Kept.{kept_form}
use Rattle.group_state.proofs.NewsRoom.{room_first}
use Rattle.group_state.proofs.state.GroupState.form.Goals as goal
use Rattle.group_state.proofs.state.GroupState.form.Goals.{then-nothing, else-nothing}

pub take_due-requires-clause-few : goal.take_due-requires-clause-few
take_due-requires-clause-few c = ap (list_all has_few) c.as_mut_slice.ensures.value ∙ all_few 0 c.self.inside.controls.items c.self.invariant.controls_kept.numbered

pub announce-requires : goal.announce-requires
announce-requires c =
    let n = length c.as_slice-3.result.now in
    let le : n ≤ c.args.out.now.controls = omega (arith, ap (λ (cs : List ControlState). length cs) c.as_slice-3.ensures.value, ap (λ (g : Group). length g.controls) c.self.view_is, c.requires.room) in
    record { room = subst (λ (o : FormedGroup). HasRoomForNews o n) (sym c.begin.ensures) (room_first (empty_group c.args.out.now.controls c.least-cut.result) n refl refl le) }

pub invariant_of-self : goal.invariant_of-self
invariant_of-self c =
    let s = c.self.inside in
    let items = s.controls.items in
    let limit = c.args.limit in
    let new = c.take_due.new.controls in
    let cut = c.least-cut.result in
    let is = written_back s.controls.len new (drop (length new) items) (omega arith) ∙ c.take_due.ensures.controls ∙ ap (λ (cs : List ControlState). map (formed cut) cs) c.as_mut_slice.ensures.value in
    subst (λ (cs : List ControlState). IsGroupSound (record { controls = cs; last = cut })) (sym is)
    (kept_form (record { controls = items; last = s.last }) limit.0 cut (c.least-cut.ensures ∙ ap (λ (cs : List ControlState). fold lesser limit.0 cs) c.as_slice.ensures.value) c.self.invariant)

-- what the group shows, and the state after it
pub returns-clause-step : goal.returns-clause-step
returns-clause-step c =
    let s = c.self.inside in
    let items = s.controls.items in
    let limit = c.args.limit in
    let view : Group = record { controls = items; last = s.last } in
    let now : Group = c.args.self.now in
    let cut = c.least-cut.result in
    let new = c.take_due.new.controls in
    let number = c.least-cut.ensures ∙ ap (λ (cs : List ControlState). fold lesser limit.0 cs) c.as_slice.ensures.value in
    let least : cut ≡ cut_of view limit = λ i. record { 0 = number i } in
    let announced : c.announce.new.out ≡ with_news cut items (empty_group c.args.out.now.controls cut) = c.announce.ensures ∙ (λ i. with_news cut (c.as_slice-3.ensures.value i) (c.begin.ensures i)) in
    let taken : c.take_due.new.out ≡ with_entries (with_news cut items (empty_group c.args.out.now.controls cut)) (flat_map (due_of cut) items) =
    c.take_due.ensures.group ∙ (λ i. with_entries (announced i) (flat_map (due_of cut) (c.as_mut_slice.ensures.value i))) in
    let shown : shown_in c.take_due.new.out ≡ shown_at (cut_of now limit) now =
    ap shown_in taken ∙ ap (λ (t : Stamp). shown_at t view) least ∙ ap (λ (g : Group). shown_at (cut_of g limit) g) c.self.view_is in
    let is = written_back s.controls.len new (drop (length new) items) (omega arith) ∙ c.take_due.ensures.controls ∙ ap (λ (cs : List ControlState). map (formed cut) cs) c.as_mut_slice.ensures.value in
    let after : (let group : Group = record { controls = take s.controls.len (new ++ drop (length new) items); last = cut } in group) ≡ formed_at (cut_of now limit) now =
    (λ i. record { controls = is i; last = cut }) ∙ ap (λ (t : Stamp). formed_at t view) least ∙ ap (λ (g : Group). formed_at (cut_of g limit) g) c.self.view_is in
    let same = c.gives_nothing-nothing.ensures ∙ ap (λ (cs : List ControlState). cut.0 == s.last.0 && not (list_any (has_news cut) cs)) c.as_slice-2.ensures.value
    ∙ ap (λ (t : Stamp). t.0 == s.last.0 && not (list_any (has_news t) items)) least ∙ ap (λ (g : Group). gives_nothing g limit) c.self.view_is in (
      elim c.if-nothing.branch [
        | then-nothing w ↦ ap (λ (f : Forming). form_reply f (shown_in c.take_due.new.out)) w.result-is ∙ ap Quiet shown
            ∙ ap (λ (b : Bool). cond b (Quiet (shown_at (cut_of now limit) now)) (Shows (shown_at (cut_of now limit) now))) (sym w.if-nothing.true ∙ same)
        | else-nothing w ↦ ap (λ (f : Forming). form_reply f (shown_in c.take_due.new.out)) w.result-is ∙ ap Shows shown
            ∙ ap (λ (b : Bool). cond b (Quiet (shown_at (cut_of now limit) now)) (Shows (shown_at (cut_of now limit) now))) (sym w.if-nothing.false ∙ same)
      ],
      after,
    )

clash : (let x : Forming = Formed in let y : Forming = Nothing in x ≡ y) → ⊥
clash e = cc

pub returns-clause-nothing : goal.returns-clause-nothing
returns-clause-nothing c =
    let s = c.self.inside in
    let items = s.controls.items in
    let limit = c.args.limit in
    let view : Group = record { controls = items; last = s.last } in
    let cut = c.least-cut.result in
    let number = c.least-cut.ensures ∙ ap (λ (cs : List ControlState). fold lesser limit.0 cs) c.as_slice.ensures.value in
    let least : cut ≡ cut_of view limit = λ i. record { 0 = number i } in
    let same = c.gives_nothing-nothing.ensures ∙ ap (λ (cs : List ControlState). cut.0 == s.last.0 && not (list_any (has_news cut) cs)) c.as_slice-2.ensures.value
    ∙ ap (λ (t : Stamp). t.0 == s.last.0 && not (list_any (has_news t) items)) least ∙ ap (λ (g : Group). gives_nothing g limit) c.self.view_is in
    elim c.if-nothing.branch [
      | then-nothing w ↦ (λ e. sym same ∙ w.if-nothing.true, λ e. w.result-is)
      | else-nothing w ↦ (λ e. absurd (clash (sym w.result-is ∙ e)), λ e. absurd (true≢false (sym (same ∙ e) ∙ w.if-nothing.false)))
    ]
