use Rattle.std.proofs.Common.{sym, subst, ◌∙◌}
use Rattle.xrc_journal.specs.declared.reading.BodyItem.{BodyItem}
use Rattle.applier.specs.Writes.{IsItemTold}
use Rattle.applier.proofs.Places.{all_stay, one_writes, same_device}
use Rattle.applier.proofs.rising.apply_item_to.Goals as goal

pub returns-in-Some : goal.returns-in-Some
returns-in-Some g c i t =
    let there = c.in-Some.ensures.there in
    one_writes g.D.Disk.state g.D.Disk.tells c.args.item c.args.bytes.now i t c.args.jobs.now c.in-Some.place c.index-jobs-place.result c.apply_item.new.job c.requires.rising there.0
    (λ k x other y e. other (there.1 k ∙ same_device c.in-Image.device c.in-Image.track x y (sym c.in-Image.is ∙ e))) (c.apply_item.ensures i (subst (λ (b : BodyItem). IsItemTold b c.args.bytes.now i) c.in-Image.is t))

pub returns-in_default-place_of : goal.returns-in_default-place_of
returns-in_default-place_of g c i t =
    all_stay g.D.Disk.state g.D.Disk.tells c.args.item c.args.bytes.now i t c.args.jobs.now
    (λ k d x less e. c.place_of.ensures.none c.in_default-place_of.is k d less (sym (same_device c.in-Image.device c.in-Image.track _ x (sym c.in-Image.is ∙ e))))

pub returns-in_default : goal.returns-in_default
returns-in_default g c i t =
    all_stay g.D.Disk.state g.D.Disk.tells c.args.item c.args.bytes.now i t c.args.jobs.now
    (λ k d x less e. c.in_default.not-Image _ x e)
