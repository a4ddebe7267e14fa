use Rattle.std.proofs.Common.{[], ◌∷◌, inl, inr, refl, arith}
use Rattle.record_rows.specs.Deeds.Deed.{Changed}
use Rattle.group_tests.specs.LogVectors.{shown_of, followed, copied_again, deeds_of_drop, deeds_of_resume}
use Rattle.group_tests.proofs.LiveRows.{of_live}
use Rattle.group_tests.proofs.log_vectors.a_pair_follows_again.Goals as goal

pub returns-clause-done : goal.returns-clause-done
returns-clause-done c = refl

pub returns-clause-owed : goal.returns-clause-owed
returns-clause-owed c = refl

pub returns-clause-shown : goal.returns-clause-shown
returns-clause-shown c = refl

pub returns-clause-done_again : goal.returns-clause-done_again
returns-clause-done_again c = refl

pub returns-clause-dropped : goal.returns-clause-dropped
returns-clause-dropped c rows fewer first = record {
  quiet = [];
  next = rows;
  more = deeds_of_drop rows fewer;
  are = refl;
  suspends = refl;
  goes_on = inr (inr (record {
    quiet = [];
    mid = rows;
    next = rows;
    later = Changed 0x6D fewer ∷ [];
    are = refl;
    live = of_live rows (shown_of followed 0x6D).entries first.live refl;
    marks = refl;
    suspends = refl;
    up = omega arith;
    follow = record { live = λ k v has. (refl, has); duplex = λ k v has. inl has };
    goes_on = record {
      quiet = Changed 0x6D fewer ∷ [];
      next = fewer;
      more = [];
      are = refl;
      suspends = (refl, first.less, refl);
      goes_on = inr (record { gone = first.gone; known = λ some. refl; goes_on = (fewer, refl) });
    };
  }));
}

pub returns-clause-times : goal.returns-clause-times
returns-clause-times c rows fewer = refl

pub returns-clause-again : goal.returns-clause-again
returns-clause-again c rows next live follow = record {
  quiet = [];
  next = rows;
  more = deeds_of_resume next;
  are = refl;
  suspends = refl;
  goes_on = inr (inr (record {
    quiet = [];
    mid = rows;
    next = next;
    later = [];
    are = refl;
    live = of_live rows (shown_of copied_again 0x1FF).entries live refl;
    marks = refl;
    suspends = refl;
    up = omega arith;
    follow = follow;
    goes_on = (next, refl);
  }));
}
