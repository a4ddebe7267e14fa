-- What calls leave on the devices on which they don't work, over plain states.
use Rattle.std.proofs.Common.{◌≡◌, inl, inr, ◌≤◌, sym, ◌∙◌, arith}
use Rattle.crash_plant.specs.declared.device.Device.{Device}
use Rattle.crash_plant.specs.Choices.{Choice, IsChoice, AllFollow}
use Rattle.crash_plant.specs.Moments.{PlantState, on, Follows, IsDurable, Same}
use Rattle.crash_plant.specs.Calls.{SameSite, WorksOn}
use Rattle.crash_plant.proofs.Choices.{all_follow, part_cases}

-- A device on which nothing changed is durable if it was.
pub durable_same : (old new : PlantState) (d : Device) → Follows Same (on old d) (on new d) → old.clock ≤ new.clock → new.bytes d ≡ old.bytes d → IsDurable (on old d) → IsDurable (on new d)
durable_same old new d follows later same durable c left =
    let start = follows new.clock later (omega arith) c left in
    start.2 ∙ durable start.0 start.1 ∙ sym same

pub durable_still : (tells : Type 0) (told : tells) (among : Device → Type 0) (old new : PlantState) (d : Device) → WorksOn tells among old new → ¬ among d → IsDurable (on old d) → IsDurable (on new d)
durable_still tells told among old new d works not durable =
    let stays = works.others told d not in
    durable_same old new d stays.images ((works.elapses told).kept d).later stays.bytes durable

-- a step that says less
pub all_weaker : (a b : PlantState) (step less : Choice → Choice → Type 0) → AllFollow step a b → ((x y : Choice) → IsChoice a a.clock x → step x y → less x y) → AllFollow less a b
all_weaker a b step less follows weaker t from to c is =
    let start = follows t from to c is in
    (start.0, start.1, weaker start.0 c start.1 start.2)

-- Where each device has the images that it had, the choices are those that were.
pub all_same : (old new : PlantState) → SameSite old new → ((d : Device) → Follows Same (on old d) (on new d)) → AllFollow (λ b c. (d : Device) → c d ≡ b d) old new
all_same old new site same =
    all_weaker old new _ _ (all_follow (λ d. Same) old new site (λ d part. same d)) (λ x y here step d. elim (part_cases old d) [
      | inl part ↦ (step d).0 part
      | inr out ↦ (step d).1 out
    ])
