use Rattle.std.proofs.Common.{◌≡◌, List, ◌++◌, ◌+◌, ◌≤◌, ◌∷◌, [], length, ap, sym, subst, ◌∙◌}
use Rattle.std.specs.Prelude.{filter}
use Rattle.pending_queue.specs.Groups.{FormedGroup, most_done_of_control}
use Rattle.group_state.specs.declared.volume.Volume.{Volume}
use Rattle.group_state.specs.Volumes.{is_done_after, numbers_of}
use Rattle.group_state.specs.Controls.{ControlState, reported_break, reported}
use Rattle.group_state.specs.Groups.{with_news}
use Rattle.group_state.proofs.FormLaws.{announced}
use Rattle.group_state.proofs.Numbers.{few_volumes}
use Rattle.group_state.proofs.NewsRoom.{done_fits, done_grow}
use Rattle.group_state.proofs.control.Control.announce.Goals as goal

pub show_done-requires : goal.show_done-requires
show_done-requires c =
    let few = few_volumes _ c.self.invariant in
    let is = c.show_break.ensures in
    record {
      room = done_fits c.args.out.now c.show_break.new.out.controls (length c.show_break.new.out.done) (length c.as_slice.result.now) c.requires.room (ap (λ (o : FormedGroup). o.controls) is) (ap (λ (o : FormedGroup). length o.done) is)
          (subst (λ (us : List Volume). length us ≤ most_done_of_control) (sym c.as_slice.ensures.value) few);
    }

pub returns-clause-news : goal.returns-clause-news
returns-clause-news c =
    let s = c.self.inside in
    let cut = c.args.cut in
    let out = c.args.out.now in
    let waiting = s.queue.state.waiting in
    let k = s.queue.state.control in
    let view : ControlState = record { queue = s.queue.state; floor = s.floor; phase = s.phase; volumes = s.volumes.items } in
    let number = c.control.ensures in
    let cause = c.cause_at-cause.ensures in
    let broke : c.show_break.new.out ≡ record out { breaks = out.breaks ++ reported_break cut view } = c.show_break.ensures ∙ (λ i. record out { breaks = out.breaks ++ reported (number i) s.floor (cause i) }) in
    c.show_done.ensures
    ∙ ap (λ (us : List Volume). record c.show_break.new.out { done = c.show_break.new.out.done ++ numbers_of k (filter (is_done_after cut waiting) us) }) c.as_slice.ensures.value
    ∙ ap (λ (o : FormedGroup). record o { done = o.done ++ numbers_of k (filter (is_done_after cut waiting) s.volumes.items) }) broke
    ∙ announced cut view out c.self.invariant.sound ∙ ap (λ (v : ControlState). with_news cut (v ∷ []) out) c.self.view_is

pub returns-clause-done : goal.returns-clause-done
returns-clause-done c =
    let s = c.self.inside in
    let test = is_done_after c.args.cut s.queue.state.waiting in
    let few = few_volumes _ c.self.invariant in
    let grown = done_grow s.queue.state.control test s.volumes.items c.args.out.now.done few in
    let is = ap (λ (o : FormedGroup). length o.done) c.show_done.ensures
    ∙ ap (λ (us : List Volume). length (c.show_break.new.out.done ++ numbers_of s.queue.state.control (filter test us))) c.as_slice.ensures.value
    ∙ ap (λ (o : FormedGroup). length (o.done ++ numbers_of s.queue.state.control (filter test s.volumes.items))) c.show_break.ensures in
    subst (λ n. n ≤ length c.args.out.now.done + most_done_of_control) (sym is) grown
