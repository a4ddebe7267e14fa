use Rattle.std.proofs.Common.{◌≡◌, Bool, true, List, false, length, not, nat_lt, ap, sym, subst, ◌∙◌}
use Rattle.std.specs.List.{list_all}
use Rattle.std.proofs.lemmas.List.{length-replicate}
use Rattle.pending_queue.specs.Entries.{is_of_volume, entry_tracks}
use Rattle.pending_queue.specs.Queues.{QueueState}
use Rattle.group_state.proofs.SoundLaws.{length_tracks}
use Rattle.group_tests.specs.Trials.{AreTried}
use Rattle.group_tests.proofs.Tried.{tried_filter, tried_tracks}
use Rattle.group_tests.proofs.trials.drop_volume.Goals as goal

pub drop_volume-requires : goal.drop_volume-requires
drop_volume-requires g c =
    let waiting = c.args.queue.now.state.waiting in
    let size = ap (λ (set : List Bool). length set) c.clear_all.ensures ∙ length-replicate (length c.args.map.now) false ∙ c.requires.tracks in
    record { tracks = subst (λ n. list_all (λ x. nat_lt x n) (entry_tracks c.args.volume waiting) ≡ true) (sym size) (tried_tracks c.args.at 4 c.args.volume waiting c.requires.tried) }

pub loop-track-init : goal.loop-track-init
loop-track-init g c =
    let waiting = c.args.queue.now.state.waiting in
    let size = ap (λ (set : List Bool). length set) c.clear_all.ensures ∙ length-replicate (length c.args.map.now) false ∙ c.requires.tracks in
    ap (λ (set : List Bool). length set) c.drop_volume.ensures.mapped ∙ length_tracks c.clear_all.new.self (entry_tracks c.args.volume waiting) ∙ size

pub returns-clause-tried : goal.returns-clause-tried
returns-clause-tried g c =
    subst (λ (q : QueueState). AreTried c.args.at 4 q.waiting) (sym c.drop_volume.ensures.left)
    (tried_filter c.args.at 4 (λ e. not (is_of_volume c.args.volume e)) c.args.queue.now.state.waiting c.requires.tried)
