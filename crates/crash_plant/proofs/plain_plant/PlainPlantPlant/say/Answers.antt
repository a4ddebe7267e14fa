use Rattle.std.proofs.Common.{refl}
use Rattle.crash_plant.proofs.Still.{says_all_still}
use Rattle.crash_plant.proofs.plain_plant.PlainPlantPlant.say.Goals as goal

pub returns-in-Ok-clause-moments : goal.returns-in-Ok-clause-moments
returns-in-Ok-clause-moments c told = says_all_still _ _ _ c.in-Ok.ensures.items refl refl
