-- How a command ends.
use Rattle.std.proofs.Common.{◌≡◌, ℕ, List, Option, Result, Ok, Err, inr}
use Rattle.ckd_image.specs.declared.shape.ImageShape.{ImageShape}
use Rattle.ckd_bridge.specs.declared.stop.Refusal.{Refusal}
use Rattle.ckd_bridge.specs.declared.stop.Stop.{Stop}
use Rattle.ckd_bridge.specs.declared.stop.Stop.TheVariants.{NoMemory, ReadFault, WriteFault, Refused}
use Rattle.ckd_bridge.specs.Pieces.{Copies}
use Rattle.ckd_bridge.specs.Commands.{EndsBridge, tracks_of_shape}

-- A copy that stops ends the command.
pub stops : (X : Type 0) (found : Result ImageShape Refusal) (pieces : ImageShape → ℕ → Result (List ℕ) Refusal) (bytes : ImageShape → List ℕ) (of : ImageShape) (opening : List ℕ) (old new : Option (List ℕ)) (stop : Stop) → found ≡ Ok of
    → Copies {X = X} (pieces of) (tracks_of_shape of) opening old new (Err stop) → EndsBridge found pieces bytes old new (Err stop)
stops X found pieces bytes of opening old new NoMemory is copies = tt
stops X found pieces bytes of opening old new ReadFault is copies = tt
stops X found pieces bytes of opening old new WriteFault is copies = tt
stops X found pieces bytes of opening old new (Refused refusal) is copies = (inr (of, is, copies.0), copies.1)
