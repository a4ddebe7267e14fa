use Rattle.std.proofs.Common.{slice_index_or, sym, ◌∙◌, ap}
use Rattle.crash_plant.specs.declared.shelf.Shelf.{Shelf}
use Rattle.crash_plant.proofs.Views.{journal_before, volume_before, volume_home}
use Rattle.crash_plant.proofs.memory_disks.MemoryDisks.disk.Goals as goal

pub returns-in-Journal : goal.returns-in-Journal
returns-in-Journal c = journal_before c.args.self.now c.args.device _ _ c.from.ensures _ c.in-Journal.is c.requires c.index.ensures

pub returns-in-Here : goal.returns-in-Here
returns-in-Here c = volume_before c.args.self.now c.args.device _ _ c.from-in-Volume.ensures _ c.in-Volume.is c.requires c.index-in-Volume.ensures ∙ c.in-Here.is

pub unreachable-requires : goal.unreachable-requires
unreachable-requires c = let home = volume_home c.args.self.now c.args.device _ _ c.from-in-Volume.ensures _ c.in-Volume.is c.requires (sym c.in-Lent.is ∙ c.index-in-Volume.ensures ∙ ap (λ (s : Shelf). slice_index_or c.args.self.now.volumes.items c.from-in-Volume.result s) c.in-Lent.is) in absurd (cc home)

pub unreachable-requires-in-Away : goal.unreachable-requires-in-Away
unreachable-requires-in-Away c = let home = volume_home c.args.self.now c.args.device _ _ c.from-in-Volume.ensures _ c.in-Volume.is c.requires (sym c.in-Away.is ∙ c.index-in-Volume.ensures ∙ ap (λ (s : Shelf). slice_index_or c.args.self.now.volumes.items c.from-in-Volume.result s) c.in-Away.is) in absurd (cc home)
