use Rattle.std.proofs.Common.{sym, ◌∙◌}
use Rattle.crash_plant.proofs.Views.{place_was, place_is, other_places, lent_as, here_not_lent, here_not_away}
use Rattle.crash_plant.proofs.memory_disks.MemoryDisks.lend.Goals as goal

pub returns-clause-others : goal.returns-clause-others
returns-clause-others c d other = other_places c.args.self.now c.args.device _ c.from.ensures c.requires.0 c.replace.new.dest d other

pub returns-clause-was : goal.returns-clause-was
returns-clause-was c = place_was c.args.self.now c.args.device _ c.from.ensures c.requires.0 _ c.index_mut.ensures.value ∙ sym c.replace.ensures.value ∙ c.in-Here.is

pub returns-clause-lent : goal.returns-clause-lent
returns-clause-lent c =
    let was = place_was c.args.self.now c.args.device _ c.from.ensures c.requires.0 _ c.index_mut.ensures.value ∙ sym c.replace.ensures.value ∙ c.in-Here.is in
    lent_as c.args.at _ _ c.lent_shelf-shelf.result _ c.lent_shelf-shelf.ensures (sym c.disk.ensures ∙ was) (place_is c.args.self.now c.args.device _ c.from.ensures c.requires.0 c.replace.new.dest ∙ c.replace.ensures.after)

pub unreachable-requires : goal.unreachable-requires
unreachable-requires c = here_not_lent _ _ _ _ (sym c.disk.ensures ∙ place_was c.args.self.now c.args.device _ c.from.ensures c.requires.0 _ c.index_mut.ensures.value ∙ sym c.replace.ensures.value ∙ c.in-Lent.is)

pub unreachable-requires-in-Away : goal.unreachable-requires-in-Away
unreachable-requires-in-Away c = here_not_away _ _ (sym c.disk.ensures ∙ place_was c.args.self.now c.args.device _ c.from.ensures c.requires.0 _ c.index_mut.ensures.value ∙ sym c.replace.ensures.value ∙ c.in-Away.is)
