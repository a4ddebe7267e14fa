use Rattle.site_store.specs.Changing.{pair_item}
use Rattle.pair_table.specs.Tables.{row_of}
use Rattle.site_store.proofs.DevicePuts.{Put}
use Rattle.site_store.proofs.changing.put_rows.Given as goal

-- the rows of the devices before were put
abbrev pub invariant-loop-device : goal.invariant-loop-device
invariant-loop-device l = Put (λ d. pair_item (row_of d l.table.rows)) l.fn.body l.body l.devices l.device-index
