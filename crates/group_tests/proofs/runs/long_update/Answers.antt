use Rattle.std.proofs.Common.{◌≡◌, List, [], ◌∷◌, subst}
use Rattle.std.specs.Prelude.{ℕ}
use Rattle.ckd_track.specs.declared.write.Kind.TheVariants.{Update}
use Rattle.ckd_track.specs.declared.write.Write.{Write}
use Rattle.group_tests.specs.StateVectors.{batch}
use Rattle.group_tests.proofs.runs.long_update.Goals as goal

-- the update of these bytes
abbrev update : List ℕ → Write
update bytes = record { volume = 0; track = 0; stamp = record { 0 = 9 }; kind = Update 1 bytes }

pub returns : goal.returns
returns g c = subst (λ bytes. c.batch_of.result ≡ batch 0 (update bytes ∷ []) 9) c.filled.ensures.bytes c.batch_of.ensures
