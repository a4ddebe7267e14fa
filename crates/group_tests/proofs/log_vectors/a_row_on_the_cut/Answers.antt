use Rattle.std.proofs.Common.{[], ◌∷◌, inl, inr, refl, arith}
use Rattle.group_tests.specs.LogVectors.{shown_of, logged_of}
use Rattle.group_tests.specs.StateVectors.{state_of_two}
use Rattle.group_tests.proofs.LiveRows.{of_live}
use Rattle.group_tests.proofs.log_vectors.a_row_on_the_cut.Goals as goal

pub returns-clause-shown : goal.returns-clause-shown
returns-clause-shown c = refl

pub returns-clause-deeds : goal.returns-clause-deeds
returns-clause-deeds c rows live = record {
  quiet = [];
  next = rows;
  more = logged_of (shown_of state_of_two 0x40) rows ∷ [];
  are = refl;
  suspends = refl;
  goes_on = inr (inr (record {
    quiet = [];
    mid = rows;
    next = rows;
    later = [];
    are = refl;
    live = of_live rows (shown_of state_of_two 0x40).entries live refl;
    marks = refl;
    suspends = refl;
    up = omega arith;
    follow = record { live = λ k v has. (refl, has); duplex = λ k v has. inl has };
    goes_on = (rows, refl);
  }));
}

pub returns-clause-time : goal.returns-clause-time
returns-clause-time c rows = refl

pub returns-clause-held : goal.returns-clause-held
returns-clause-held c rows = refl

pub returns-clause-later : goal.returns-clause-later
returns-clause-later c rows = refl
