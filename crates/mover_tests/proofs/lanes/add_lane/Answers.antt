use Rattle.std.proofs.Common.{rules, ◌≡◌, ◌+◌, ◌⊎◌, List, [], ◌∷◌, ◌++◌, length, subst, sym}
use Rattle.std.specs.Prelude.{IsSomeAnd}
use Rattle.std.specs.List.{Contains}
use Rattle.pair_table.specs.declared.names.NamedVolume.{NamedVolume}
use Rattle.mover.specs.declared.lane.Lane.{Lane}
use Rattle.xrc_session.specs.Joins.{HasInHeader}
use Rattle.mover_tests.specs.Courses.{AreOpened, IsNewLane}
use Rattle.mover_tests.proofs.Opening.{opened_more}
use Rattle.mover_tests.proofs.lanes.add_lane.Goals as goal

pub returns-clause-opened : goal.returns-clause-opened
returns-clause-opened g c =
    let lanes = c.args.lanes.now.all.items in
    let lane = c.opened-lane.result in
    let named = c.opened-lane.new.named.items in
    let pushed : c.push.new.self.items ≡ lanes ++ lane ∷ [] = search rules in
    let control : c.len-control.result ≡ length lanes = search rules in
    let many : length (lanes ++ lane ∷ []) ≡ length lanes + 1 = search rules in
    subst (λ (l : List (Lane g.row.S.Denot)). AreOpened l named) (sym pushed)
    (opened_more lanes lane c.args.lanes.now.named.items named many c.requires.opened (subst (λ k. IsNewLane k lane) control c.opened-lane.ensures.new)
    (subst (λ k. (v : NamedVolume) → Contains named v → Contains c.args.lanes.now.named.items v ⊎ ((v.control ≡ k) × IsSomeAnd lane.reader (HasInHeader v.volume v.cylinders))) control c.opened-lane.ensures.named))
