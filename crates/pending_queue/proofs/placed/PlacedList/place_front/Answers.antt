use Rattle.std.proofs.Common.{◌≡◌, ℕ, ◌+◌, List, ◌∷◌, [], ◌++◌, length, get_or, take, drop, refl, sym, ap, ◌∙◌, subst, arith}
use Rattle.std.specs.Prelude.{vec_capacity}
use Rattle.std.proofs.lemmas.List.{length-map}
use Rattle.ckd_track.specs.Slots.{with_bytes}
use Rattle.pending_queue.specs.declared.placed.Placed.{Placed}
use Rattle.pending_queue.specs.Entries.{WaitingEntry, IsOfWrite, entry_by, stands_before}
use Rattle.pending_queue.specs.PlacedEntries.{PlacedState, placed_entry}
use Rattle.xrc_edge.specs.Order.{in_order, is_in_order}
use Rattle.pending_queue.proofs.VolumeLaws.{some_entry}
use Rattle.pending_queue.proofs.Places.{IsNew, IsPut, put, ordered_map, same_size, whole_again, first_one}
use Rattle.pending_queue.proofs.placed.PlacedList.place_front.Goals as goal

pub put_placed-requires-clause-ordered : goal.put_placed-requires-clause-ordered
put_placed-requires-clause-ordered c =
    sym (ordered_map c.self.inside.bytes.items c.self.inside.entries.items) ∙ ap (λ (s : PlacedState). is_in_order stands_before s.entries) c.self.view_is ∙ c.requires.ordered

-- the first entry that waits
abbrev first : (c : goal.After-put_placed) → WaitingEntry
first c = get_or c.args.waiting.now.entries 0 (some_entry c.give_front-effect.result.0)

abbrev item : (c : goal.After-put_placed) → Placed
item c = record { head = c.give_front-effect.result.0; effect = c.give_front-effect.result.1; begin = c.self.inside.used; len = c.copy_front-len.result }

is_first : (c : goal.After-put_placed) → entry_by c.give_front-effect.result.0 c.give_front-effect.result.1 (first c).form ≡ first c
is_first c = c.give_front-effect.ensures.given (some_entry c.give_front-effect.result.0)

new : (c : goal.After-put_placed) → IsNew c.self.inside.controls c.self.inside.used c.self.inside.entries.items (item c) (first c).form
new c = record {
  fits = omega (arith, c.requires.room, ap (λ (s : PlacedState). length s.entries) c.self.view_is, ap (λ (s : PlacedState). s.controls) c.self.view_is, length-map c.self.inside.entries.items (placed_entry c.self.inside.bytes.items));
  short = omega (arith, c.copy_front-len.ensures.short, c.copy_front-len.ensures.len (some_entry c.give_front-effect.result.0));
  begin = refl;
  len = c.copy_front-len.ensures.len (some_entry c.give_front-effect.result.0);
  written = subst IsOfWrite (sym (is_first c)) (c.copy_front-len.ensures.write (some_entry c.give_front-effect.result.0));
}

-- the buffer that is written back
abbrev after : (c : goal.After-put_placed) → List ℕ
after c = take c.self.inside.bytes.len (c.copy_front-len.new.out ++ drop (length c.copy_front-len.new.out) c.self.inside.bytes.items)

copied : (c : goal.After-put_placed) → c.copy_front-len.new.out ≡ with_bytes c.self.inside.used (first c).form c.self.inside.bytes.items
copied c = c.copy_front-len.ensures.copied (some_entry c.give_front-effect.result.0) ∙ ap (with_bytes c.self.inside.used (first c).form) c.as_mut_slice.ensures.value

written_back : (c : goal.After-put_placed) → after c ≡ with_bytes c.self.inside.used (first c).form c.self.inside.bytes.items
written_back c =
    whole_again c.self.inside.bytes.len c.copy_front-len.new.out (drop (length c.copy_front-len.new.out) c.self.inside.bytes.items)
    (ap length (copied c) ∙ same_size c.self.inside.used c.self.inside.bytes.items (first c).form (omega (arith, c.self.invariant.filled, c.self.invariant.sized, (new c).fits, (new c).short)) ∙ ap length (sym c.as_mut_slice.ensures.value) ∙ c.as_mut_slice.ensures.len)
    ∙ copied c

step : (c : goal.After-put_placed)
    → IsPut c.self.inside.controls (vec_capacity c.put_placed.new.entries) (c.self.inside.used + c.copy_front-len.result) c.self.inside.bytes.items (after c) c.self.inside.entries.items c.put_placed.new.entries.items
    (entry_by c.give_front-effect.result.0 c.give_front-effect.result.1 (first c).form)
step c =
    put c.self.inside.controls (vec_capacity c.self.inside.entries) (vec_capacity c.put_placed.new.entries) c.self.inside.used c.self.inside.bytes.items (after c) c.self.inside.entries.items c.put_placed.new.entries.items (item c) (first c).form
    c.self.invariant (new c) (written_back c) c.put_placed.ensures.put c.put_placed.ensures.capacity

pub invariant_of-self : goal.invariant_of-self
invariant_of-self c = (step c).keeps

pub returns-clause-placed : goal.returns-clause-placed
returns-clause-placed c =
    let last : entry_by c.give_front-effect.result.0 c.give_front-effect.result.1 (first c).form ∷ [] ≡ take 1 c.args.waiting.now.entries =
    ap (λ (e : WaitingEntry). e ∷ []) (is_first c) ∙ sym (first_one c.args.waiting.now.entries (some_entry c.give_front-effect.result.0) c.requires.some) in
    (step c).entries ∙ (λ i. in_order stands_before ((c.self.view_is i).entries ++ last i))
