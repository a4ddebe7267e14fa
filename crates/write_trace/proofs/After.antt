-- What stands in front of bytes that were put after it, or weren't.
use Rattle.std.proofs.Common.{◌≡◌, ℕ, List, ◌++◌, length, take, Result, Ok, Err, OnOk, refl, ap, ◌∙◌}
use Rattle.std.specs.Result.{OnErr}
use Rattle.std.proofs.Math.Seq.{take-length}
use Rattle.std.proofs.lemmas.List.{take_at}

pub front_stays : {T E : Type 0} (outcome : Result T E) (front more out : List ℕ) → OnOk outcome (out ≡ front ++ more) → OnErr outcome (out ≡ front) → take (length front) out ≡ front
front_stays (Ok x) front more out put kept = ap (take (length front)) put ∙ take_at front more (length front) refl
front_stays (Err e) front more out put kept = ap (take (length front)) kept ∙ take-length front
