use Rattle.std.proofs.Common.{◌≡◌, ℕ, ◌<◌, false, true, List, take, Option, sym, ap, subst, ◌∙◌, arith}
use Rattle.std.specs.Prelude.{IsSomeAnd}
use Rattle.std.specs.List.{list_any}
use Rattle.std.proofs.lemmas.List.{get_or-replicate, length-replicate, length-set, take_all}
use Rattle.pending_queue.specs.Entries.{WaitingEntry}
use Rattle.site_store.specs.Logging.{is_entry_of_device}
use Rattle.site_store.proofs.DueItems.{written_more}
use Rattle.site_store.proofs.Wanted.{device_at, none_first, some_row, wanted_more}
use Rattle.site_store.proofs.forming.wanted_volumes.Goals as goal

pub loop-place-init : goal.loop-place-init
loop-place-init c = record {
  long = length-replicate 64 false;
  are = λ d lt. get_or-replicate 64 d false false lt ∙ sym (none_first (is_entry_of_device c.args.table.now.rows d) c.args.formed.now.entries);
  written = λ k e lt. absurd (omega (arith, lt));
}

pub device_of-requires : goal.device_of-requires
device_of-requires c = some_row _ (λ d. d < 64) (device_at c.args.table.now.rows c.args.formed.now.entries c.loop-place.place c.head.result (λ d. d < 64) c.head.ensures c.requires)

pub bounds-wanted-device_of : goal.bounds-wanted-device_of
bounds-wanted-device_of c = subst (λ (o : Option ℕ). IsSomeAnd o (λ d. d < 64)) c.device_of.ensures.device (device_at c.args.table.now.rows c.args.formed.now.entries c.loop-place.place c.head.result (λ d. d < 64) c.head.ensures c.requires)

pub loop-place-preserved : goal.loop-place-preserved
loop-place-preserved c =
    let rows = c.args.table.now.rows in
    let entries = c.args.formed.now.entries in
    let low : c.device_of.result < 64 = subst (λ (o : Option ℕ). IsSomeAnd o (λ d. d < 64)) c.device_of.ensures.device (device_at rows entries c.loop-place.place c.head.result (λ d. d < 64) c.head.ensures c.requires) in
    record {
      long = length-set c.loop-place.wanted c.device_of.result true ∙ c.loop-place.invariant.long;
      are = λ d lt. wanted_more rows entries c.loop-place.wanted c.loop-place.place c.device_of.result c.head.result c.head.ensures c.device_of.ensures.device (omega (arith, low, c.loop-place.invariant.long)) d (c.loop-place.invariant.are d lt);
      written = written_more entries c.loop-place.place (omega (arith, c.loop-place-test.true, c.count-place-end.ensures)) c.entry.ensures.write c.loop-place.invariant.written;
    }

pub returns-clause-wanted : goal.returns-clause-wanted
returns-clause-wanted c d lt =
    let entries = c.args.formed.now.entries in
    let all : take c.loop-place.place entries ≡ entries = take_all c.loop-place.place entries (omega (arith, c.loop-place-test.false, c.count-place-end.ensures)) in
    c.loop-place.invariant.are d lt ∙ ap (λ (l : List WaitingEntry). list_any (is_entry_of_device c.args.table.now.rows d) l) all

pub returns-clause-written : goal.returns-clause-written
returns-clause-written c k e lt = c.loop-place.invariant.written k e (omega (arith, lt, c.loop-place-test.false, c.count-place-end.ensures))
