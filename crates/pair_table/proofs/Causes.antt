-- A cause is known by its number.
use Rattle.std.proofs.Common.{◌≡◌, nat_eq, true, Some, refl, sym, ap, ◌∙◌}
use Rattle.std.proofs.lemmas.Bool.{eqb-true}
use Rattle.std.proofs.lemmas.Option.{same_Some}
use Rattle.pair_table.specs.declared.row.SuspendCause.{SuspendCause}
use Rattle.pair_table.specs.declared.row.SuspendCause.TheVariants.{Command, Device, Session, Control, Group}
use Rattle.pair_table.specs.Rows.{cause_number, cause_of_number}

pub cause_again : (cause : SuspendCause) → cause_of_number (cause_number cause) ≡ Some cause
cause_again Command = refl
cause_again Device = refl
cause_again Session = refl
cause_again Control = refl
cause_again Group = refl

pub same_causes : (a b : SuspendCause) → nat_eq (cause_number a) (cause_number b) ≡ true → a ≡ b
same_causes a b same = same_Some a b (sym (cause_again a) ∙ ap cause_of_number (eqb-true (cause_number a) (cause_number b) same) ∙ cause_again b)
