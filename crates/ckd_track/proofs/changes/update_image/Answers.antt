use Rattle.std.proofs.Common.{◌∙◌, sym, take}
use Rattle.ckd_track.specs.Slots.{track_of_image}
use Rattle.ckd_track.proofs.Updates.{place_within, update_holds, not_found}
use Rattle.ckd_track.proofs.changes.update_image.Goals as goal

pub fill_place-requires : goal.fill_place-requires
fill_place-requires c = place_within c.args.number c.args.used c.args.bytes.now c.args.buffer.now c.in-Some.place c.requires.holds (sym c.in-Some.ensures)

pub returns-in-Some-clause-holds : goal.returns-in-Some-clause-holds
returns-in-Some-clause-holds c =
    (update_holds c.args.number c.args.used c.args.bytes.now c.args.buffer.now c.fill_place.new.buffer c.in-Some.place c.requires.holds (sym c.in-Some.ensures) c.fill_place.ensures).holds

pub returns-in-Some-clause-seen : goal.returns-in-Some-clause-seen
returns-in-Some-clause-seen c =
    (update_holds c.args.number c.args.used c.args.bytes.now c.args.buffer.now c.fill_place.new.buffer c.in-Some.place c.requires.holds (sym c.in-Some.ensures) c.fill_place.ensures).seen

pub returns-in_default-clause-seen : goal.returns-in_default-clause-seen
returns-in_default-clause-seen c = sym (not_found c.args.number 2 c.args.bytes.now (track_of_image (take c.args.used c.args.buffer.now)) (sym c.content_place.ensures ∙ c.in_default.is))
