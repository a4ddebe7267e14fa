use Rattle.std.specs.Prelude.{[], ◌∷◌}
use Rattle.xrc_journal.specs.Items.Item.{Gone}
use Rattle.site_store.proofs.DevicePuts.{Put}
use Rattle.site_store.proofs.changing.put_gone.Given as goal

-- the devices before were put
abbrev pub invariant-loop-device : goal.invariant-loop-device
invariant-loop-device l = Put (λ d. Gone d ∷ []) l.fn.body l.body l.devices l.device-index
