use Rattle.std.proofs.Common.{rules, ap, ◌∙◌, ◌∷◌, [], Some}
use Rattle.atomic_table.specs.Table.{rest}
use Rattle.turn.specs.Turn.{with_ticketed, ticketed}
use Rattle.turn.proofs.Keeps.{passes}
use Rattle.turn.proofs.table.TurnTable.pass_turn.Goals as goal

pub fetch_add-requires : goal.fetch_add-requires
fetch_add-requires g c =
    let m = g.M.Machine in
    let did = c.exchange.ensures.3 in
    let asked = c.requires.call in (
      search rules,
      search rules,
      passes m.steps m.part m.says _ _ _ _ asked.ticket asked.state c.args.state _ _ asked.old _ (ap (λ m. m.0.stage) did ∙ asked.stage)
          (ap (λ m. m.1) did ∙ ap (λ cs. (0, Some c.args.state) ∷ rest cs) asked.carried) asked.did (ap (λ m. m.0.notes) did ∙ asked.notes) asked.same_part asked.true_then asked.others,
    )

pub returns-clause-passed : goal.returns-clause-passed
returns-clause-passed g c =
    let did = c.exchange.ensures.3 in
    let asked = c.requires.call in record {
      ticket = asked.ticket;
      me = c.fetch_add.ensures.2 asked.ticket asked.state (ap (λ m. m.0.stage) did ∙ asked.stage) ∙ ap (λ m. (with_ticketed m.0 (ticketed asked.ticket g.C.Call.event g.C.Call.reply) g.C.Call.note, [])) did;
    }
