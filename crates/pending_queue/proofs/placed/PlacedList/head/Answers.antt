use Rattle.std.proofs.Common.{length, ap, ◌∙◌, arith}
use Rattle.std.specs.Option.{option_map}
use Rattle.std.proofs.lemmas.List.{length-map}
use Rattle.std.proofs.lemmas.Option.{slice_get-map}
use Rattle.pending_queue.specs.Entries.{WaitingEntry}
use Rattle.pending_queue.specs.PlacedEntries.{PlacedState, placed_entry, placed_entries}
use Rattle.pending_queue.proofs.Places.{entry_at}
use Rattle.pending_queue.proofs.placed.PlacedList.head.Goals as goal

pub returns : goal.returns
returns c =
    let bytes = c.self.inside.bytes.items in
    let items = c.self.inside.entries.items in
    rw (← c.self.view_is) (slice_get-map (λ (e : WaitingEntry). e.head) (placed_entries bytes items) c.args.place
    ∙ ap (option_map (λ (e : WaitingEntry). e.head)) (entry_at bytes items c.args.place c.index.result.now
    (omega (arith, c.requires, ap (λ (s : PlacedState). length s.entries) c.self.view_is, length-map items (placed_entry bytes))) c.index.ensures))
