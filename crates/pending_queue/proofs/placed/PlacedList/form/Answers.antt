use Rattle.std.proofs.Common.{◌≡◌, ◌<◌, ◌+◌, ◌-◌, Some, length, take, drop, sym, ap, ◌∙◌, arith}
use Rattle.std.specs.Option.{option_map}
use Rattle.std.proofs.lemmas.List.{length-map}
use Rattle.std.proofs.lemmas.Option.{slice_get-map}
use Rattle.pending_queue.specs.Entries.{WaitingEntry}
use Rattle.pending_queue.specs.PlacedEntries.{PlacedState, placed_entry, placed_entries}
use Rattle.pending_queue.proofs.Places.{entry_at, written_at}
use Rattle.pending_queue.proofs.placed.PlacedList.form.Goals as goal

pub returns-clause-form : goal.returns-clause-form
returns-clause-form c =
    let bytes = c.self.inside.bytes.items in
    let items = c.self.inside.entries.items in
    let p = c.index-placed.result.now in
    let below : c.args.place < length items = omega (arith, c.requires, ap (λ (s : PlacedState). length s.entries) c.self.view_is, length-map items (placed_entry bytes)) in
    let len : p.len ≡ p.begin + p.len - p.begin = omega arith in
    rw (← c.self.view_is) (slice_get-map (λ (e : WaitingEntry). e.form) (placed_entries bytes items) c.args.place
    ∙ ap (option_map (λ (e : WaitingEntry). e.form)) (entry_at bytes items c.args.place p below c.index-placed.ensures)
    ∙ (λ i. Some (take (len i) (drop p.begin (sym c.as_slice.ensures.value i)))))

pub returns-clause-write : goal.returns-clause-write
returns-clause-write c =
    let bytes = c.self.inside.bytes.items in
    let items = c.self.inside.entries.items in
    rw (← c.self.view_is) (written_at (placed_entries bytes items) c.args.place (placed_entry bytes c.index-placed.result.now) c.self.invariant.written
    (omega (arith, c.requires, ap (λ (s : PlacedState). length s.entries) c.self.view_is)))
