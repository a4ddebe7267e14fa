use Rattle.std.proofs.Common.{false, refl}
use Rattle.std.proofs.lemmas.List.{get_or-replicate}
use Rattle.site_store.proofs.hits.no_devices.Goals as goal

pub returns : goal.returns
returns c = record { flags = λ d lt. get_or-replicate 64 d false false lt; any_is = refl }
