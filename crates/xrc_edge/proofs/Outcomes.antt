-- What a call told, by its result.
use Rattle.std.proofs.Common.{◌≡◌, Result, Ok, Err, IsOk, IsErr, OnErr, refl}

pub is_err : {T E : Type 0} (result : Result T E) (bad : E) → result ≡ Err bad → IsErr result
is_err (Ok x) bad e = absurd cc
is_err (Err b) bad e = refl

pub is_ok : {T E : Type 0} (result : Result T E) (x : T) → result ≡ Ok x → IsOk result
is_ok (Ok y) x e = refl
is_ok (Err bad) x e = absurd cc

pub on_err : {T E P : Type 0} (result : Result T E) → P → OnErr result P
on_err (Ok x) p = record {}
on_err (Err bad) p = p
