use Rattle.std.proofs.Common.{◌^◌, ◌∷◌, List, ℕ, ap}
use Rattle.std.proofs.lemmas.Bool.{lt-ltb}
use Rattle.xrc_journal.specs.Items.Item.{Gone}
use Rattle.xrc_journal.proofs.body.Body.put_gone.Goals as goal

pub put-requires-clause-next : goal.put-requires-clause-next
put-requires-clause-next c = record { item = Gone c.args.device; keeps = lt-ltb c.args.device (2 ^ 16) c.ranges.device.fits; spelled = ap (λ (l : List ℕ). 4 ∷ l) c.device_bytes.ensures }
