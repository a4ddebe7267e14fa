use Rattle.std.proofs.Common.{rules, ◌≡◌, inl, inr, Some, subst, sym}
use Rattle.std.specs.Prelude.{IsSomeAnd}
use Rattle.mover.specs.declared.lane.Lane.{Lane}
use Rattle.mover.specs.Lanes.{first_reader, heads_of}
use Rattle.mover.specs.Readers.{LaneReaderState}
use Rattle.xrc_session.specs.Joins.{HasInHeader}
use Rattle.mover_tests.proofs.Opening.{in_header}
use Rattle.mover_tests.proofs.lanes.opened.Goals as goal

pub returns-clause-named : goal.returns-clause-named
returns-clause-named g c = λ v has.
    let reader : LaneReaderState = first_reader c.expect-side.result c.expect-primary.result in
    let opened : c.open.new.self.reader ≡ Some reader = search rules in
    let heads : heads_of reader.feed ≡ c.in-Ok.header.volumes = search rules in
    elim (c.note_volumes.ensures v has) [
      | inl was ↦ inl was
      | inr is ↦ inr (is.control_is, subst (λ o. IsSomeAnd o (HasInHeader v.volume v.cylinders)) (sym opened) (in_header c.args.control c.in-Ok.header.volumes reader v heads is))
    ]
