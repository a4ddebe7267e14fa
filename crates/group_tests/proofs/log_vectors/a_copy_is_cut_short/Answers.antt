use Rattle.std.proofs.Common.{[], ◌∷◌, inl, inr, refl, sym, arith, true≢false}
use Rattle.group_tests.specs.LogVectors.{shown_of, logged_of, copying}
use Rattle.group_tests.proofs.LiveRows.{of_live}
use Rattle.group_tests.proofs.log_vectors.a_copy_is_cut_short.Goals as goal

pub returns-clause-shown : goal.returns-clause-shown
returns-clause-shown c = refl

pub returns-clause-done : goal.returns-clause-done
returns-clause-done c = refl

pub returns-clause-held : goal.returns-clause-held
returns-clause-held c rows = refl

pub returns-clause-copies : goal.returns-clause-copies
returns-clause-copies c rows next follow has = elim (follow.duplex 0 0 has) [
  | inl was ↦ was
  | inr done ↦ absurd (true≢false (sym done))
]

pub returns-clause-deeds : goal.returns-clause-deeds
returns-clause-deeds c rows next live follow = record {
  quiet = [];
  next = rows;
  more = logged_of (shown_of copying 0x60) next ∷ [];
  are = refl;
  suspends = refl;
  goes_on = inr (inr (record { quiet = []; mid = rows; next = next; later = []; are = refl; live = of_live rows (shown_of copying 0x60).entries live refl; marks = refl; suspends = refl; up = omega arith; follow = follow; goes_on = (next, refl) }));
}
