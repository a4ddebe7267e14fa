use Rattle.std.proofs.Common.{◌<◌, length, get_or, sym, ap, ◌∙◌, arith}
use Rattle.std.proofs.lemmas.List.{length-map}
use Rattle.ckd_track.specs.Slots.{with_bytes}
use Rattle.pending_queue.specs.Entries.{WaitingEntry}
use Rattle.pending_queue.specs.Waitings.{WaitingState, entry_in}
use Rattle.pending_queue.proofs.Waits.{held_at, short_at, len_at, waiting_at}
use Rattle.pending_queue.proofs.waiting.WaitingList.copy_front.Goals as goal

pub read_at-requires-clause-held : goal.read_at-requires-clause-held
read_at-requires-clause-held c =
    let region = c.self.inside.region in
    let waiting = c.self.inside.entries.items in
    held_at region waiting 0 c.index.result.now c.self.invariant.out.held (omega (arith, c.requires.some, ap (λ (s : WaitingState). length s.entries) c.self.view_is, length-map waiting (entry_in region))) c.index.ensures

pub read_at-requires-clause-room : goal.read_at-requires-clause-room
read_at-requires-clause-room c =
    let region = c.self.inside.region in
    let waiting = c.self.inside.entries.items in
    let some : 0 < length waiting = omega (arith, c.requires.some, ap (λ (s : WaitingState). length s.entries) c.self.view_is, length-map waiting (entry_in region)) in
    omega (arith, c.requires.room, short_at region waiting 0 c.index.result.now c.self.invariant.out.held c.self.invariant.short some c.index.ensures)

pub returns-clause-short : goal.returns-clause-short
returns-clause-short c =
    let region = c.self.inside.region in
    let waiting = c.self.inside.entries.items in
    let some : 0 < length waiting = omega (arith, c.requires.some, ap (λ (s : WaitingState). length s.entries) c.self.view_is, length-map waiting (entry_in region)) in
    omega (arith, c.len.ensures, short_at region waiting 0 c.index.result.now c.self.invariant.out.held c.self.invariant.short some c.index.ensures)

pub returns-clause-copied : goal.returns-clause-copied
returns-clause-copied c = λ other.
    let region = c.self.inside.region in
    let waiting = c.self.inside.entries.items in
    let some : 0 < length waiting = omega (arith, c.requires.some, ap (λ (s : WaitingState). length s.entries) c.self.view_is, length-map waiting (entry_in region)) in
    c.read_at.ensures ∙ ap (λ (e : WaitingEntry). with_bytes c.args.begin e.form c.args.out.now) (sym (waiting_at region waiting 0 c.index.result.now other some c.index.ensures) ∙ ap (λ (s : WaitingState). get_or s.entries 0 other) c.self.view_is)

pub returns-clause-len : goal.returns-clause-len
returns-clause-len c = λ other.
    let region = c.self.inside.region in
    let waiting = c.self.inside.entries.items in
    let some : 0 < length waiting = omega (arith, c.requires.some, ap (λ (s : WaitingState). length s.entries) c.self.view_is, length-map waiting (entry_in region)) in
    c.len.ensures ∙ len_at region waiting 0 c.index.result.now other c.self.invariant.out.held some c.index.ensures ∙ ap (λ (s : WaitingState). length (get_or s.entries 0 other).form) c.self.view_is
