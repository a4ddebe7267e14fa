use Rattle.std.proofs.Common.{◌<◌, ◌≤◌, ◌+◌, length, slice_index_or, sym, ◌∙◌, ap, subst}
use Rattle.crash_plant.specs.declared.device.Device.TheVariants.{Journal, Volume}
use Rattle.crash_plant.specs.declared.shelf.Shelf.{Shelf}
use Rattle.crash_plant.specs.declared.shelf.Shelf.TheVariants.{Here, Away}
use Rattle.crash_plant.specs.Bytes.{patched}
use Rattle.crash_plant.specs.Shelves.{ShelfRoom, last_done, shelf_bytes, shelf_length}
use Rattle.crash_plant.specs.Pasts.{Does}
use Rattle.crash_plant.proofs.Seen.{journal_is, volume_is, seen_of_journal, seen_of_volume}
use Rattle.crash_plant.proofs.Views.{journal_before, journal_within, volume_before, volume_home, volume_within, noted_shelf, alike_shelf}
use Rattle.crash_plant.proofs.memory_disks.MemoryDisks.note.Goals as goal

pub note-requires-in-Journal-clause-later : goal.note-requires-in-Journal-clause-later
note-requires-in-Journal-clause-later c = subst (λ (s : Shelf). last_done s < c.args.now) (journal_before c.args.self.now c.args.device _ _ c.from.ensures _ c.in-Journal.is c.requires.there c.index_mut.ensures.value) c.requires.later

pub note-requires-in-Journal-clause-range : goal.note-requires-in-Journal-clause-range
note-requires-in-Journal-clause-range c = subst (λ (s : Shelf). c.args.place + length c.args.bytes.now ≤ shelf_length s) (journal_before c.args.self.now c.args.device _ _ c.from.ensures _ c.in-Journal.is c.requires.there c.index_mut.ensures.value) c.requires.range

pub note-requires-in-Journal-clause-does : goal.note-requires-in-Journal-clause-does
note-requires-in-Journal-clause-does c = subst (λ (s : Shelf). Does c.args.done (shelf_bytes s) (patched c.args.place c.args.bytes.now (shelf_bytes s))) (journal_before c.args.self.now c.args.device _ _ c.from.ensures _ c.in-Journal.is c.requires.there c.index_mut.ensures.value) c.requires.does

pub returns-in-Journal-clause-ok : goal.returns-in-Journal-clause-ok
returns-in-Journal-clause-ok c =
    let p = c.args.self.now in
    noted_shelf _ _ _ _ _ _ _ _ _ (journal_before p c.args.device _ _ c.from.ensures _ c.in-Journal.is c.requires.there c.index_mut.ensures.value)
    (journal_is Here (λ (s : Shelf). s) (Away 0) p.control p.state p.journals.items p.volumes.items c.args.device _ _ c.from.ensures c.note-in-Journal.new.self c.in-Journal.is (journal_within p c.args.device _ _ c.from.ensures c.in-Journal.is c.requires.there)) c.note-in-Journal.ensures.ok

pub returns-in-Journal-clause-err : goal.returns-in-Journal-clause-err
returns-in-Journal-clause-err c =
    let p = c.args.self.now in
    alike_shelf _ _ _ _ _ (journal_before p c.args.device _ _ c.from.ensures _ c.in-Journal.is c.requires.there c.index_mut.ensures.value)
    (journal_is Here (λ (s : Shelf). s) (Away 0) p.control p.state p.journals.items p.volumes.items c.args.device _ _ c.from.ensures c.note-in-Journal.new.self c.in-Journal.is (journal_within p c.args.device _ _ c.from.ensures c.in-Journal.is c.requires.there)) c.note-in-Journal.ensures.err

pub returns-in-Journal-clause-others : goal.returns-in-Journal-clause-others
returns-in-Journal-clause-others c d other =
    let p = c.args.self.now in
    seen_of_journal Here (λ (s : Shelf). s) (Away 0) p.control p.state p.journals.items p.volumes.items c.from.result c.note-in-Journal.new.self d (λ same. other (same ∙ ap Journal c.from.ensures ∙ sym c.in-Journal.is))

pub note-requires-in-Here-clause-later : goal.note-requires-in-Here-clause-later
note-requires-in-Here-clause-later c = subst (λ (s : Shelf). last_done s < c.args.now) (volume_before c.args.self.now c.args.device _ _ c.from-in-Volume.ensures _ c.in-Volume.is c.requires.there c.index_mut-in-Volume.ensures.value ∙ c.in-Here.is) c.requires.later

pub note-requires-in-Here-clause-range : goal.note-requires-in-Here-clause-range
note-requires-in-Here-clause-range c = subst (λ (s : Shelf). c.args.place + length c.args.bytes.now ≤ shelf_length s) (volume_before c.args.self.now c.args.device _ _ c.from-in-Volume.ensures _ c.in-Volume.is c.requires.there c.index_mut-in-Volume.ensures.value ∙ c.in-Here.is) c.requires.range

pub note-requires-in-Here-clause-does : goal.note-requires-in-Here-clause-does
note-requires-in-Here-clause-does c = subst (λ (s : Shelf). Does c.args.done (shelf_bytes s) (patched c.args.place c.args.bytes.now (shelf_bytes s))) (volume_before c.args.self.now c.args.device _ _ c.from-in-Volume.ensures _ c.in-Volume.is c.requires.there c.index_mut-in-Volume.ensures.value ∙ c.in-Here.is) c.requires.does

pub unreachable-requires : goal.unreachable-requires
unreachable-requires c = let home = volume_home c.args.self.now c.args.device _ _ c.from-in-Volume.ensures _ c.in-Volume.is c.requires.there (sym c.in-Lent.is ∙ c.index_mut-in-Volume.ensures.value ∙ ap (λ (s : Shelf). slice_index_or c.args.self.now.volumes.items c.from-in-Volume.result s) c.in-Lent.is) in absurd (cc home)

pub unreachable-requires-in-Away : goal.unreachable-requires-in-Away
unreachable-requires-in-Away c = let home = volume_home c.args.self.now c.args.device _ _ c.from-in-Volume.ensures _ c.in-Volume.is c.requires.there (sym c.in-Away.is ∙ c.index_mut-in-Volume.ensures.value ∙ ap (λ (s : Shelf). slice_index_or c.args.self.now.volumes.items c.from-in-Volume.result s) c.in-Away.is) in absurd (cc home)

pub returns-in-Here-clause-ok : goal.returns-in-Here-clause-ok
returns-in-Here-clause-ok c =
    let p = c.args.self.now in
    noted_shelf _ _ _ _ _ _ _ _ _ (volume_before p c.args.device _ _ c.from-in-Volume.ensures _ c.in-Volume.is c.requires.there c.index_mut-in-Volume.ensures.value ∙ c.in-Here.is)
    (volume_is Here (λ (s : Shelf). s) (Away 0) p.control p.state p.journals.items p.volumes.items c.args.device _ _ c.from-in-Volume.ensures (Here c.note-in-Here.new.self) c.in-Volume.is (volume_within p c.args.device _ _ c.from-in-Volume.ensures c.in-Volume.is c.requires.there)) c.note-in-Here.ensures.ok

pub returns-in-Here-clause-err : goal.returns-in-Here-clause-err
returns-in-Here-clause-err c =
    let p = c.args.self.now in
    alike_shelf _ _ _ _ _ (volume_before p c.args.device _ _ c.from-in-Volume.ensures _ c.in-Volume.is c.requires.there c.index_mut-in-Volume.ensures.value ∙ c.in-Here.is)
    (volume_is Here (λ (s : Shelf). s) (Away 0) p.control p.state p.journals.items p.volumes.items c.args.device _ _ c.from-in-Volume.ensures (Here c.note-in-Here.new.self) c.in-Volume.is (volume_within p c.args.device _ _ c.from-in-Volume.ensures c.in-Volume.is c.requires.there)) c.note-in-Here.ensures.err

pub returns-in-Here-clause-others : goal.returns-in-Here-clause-others
returns-in-Here-clause-others c d other =
    let p = c.args.self.now in
    seen_of_volume Here (λ (s : Shelf). s) (Away 0) p.control p.state p.journals.items p.volumes.items c.from-in-Volume.result (Here c.note-in-Here.new.self) d (λ same. other (same ∙ ap Volume c.from-in-Volume.ensures ∙ sym c.in-Volume.is))

pub returns-in-Journal-clause-room : goal.returns-in-Journal-clause-room
returns-in-Journal-clause-room c room = c.note-in-Journal.ensures.room (subst (λ (s : Shelf). ShelfRoom s) (journal_before c.args.self.now c.args.device _ _ c.from.ensures _ c.in-Journal.is c.requires.there c.index_mut.ensures.value) room)

pub returns-in-Here-clause-room : goal.returns-in-Here-clause-room
returns-in-Here-clause-room c room = c.note-in-Here.ensures.room (subst (λ (s : Shelf). ShelfRoom s) (volume_before c.args.self.now c.args.device _ _ c.from-in-Volume.ensures _ c.in-Volume.is c.requires.there c.index_mut-in-Volume.ensures.value ∙ c.in-Here.is) room)
