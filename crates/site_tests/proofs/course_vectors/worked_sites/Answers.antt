use Rattle.std.proofs.Common.{◌≤◌, [], false, ap, refl, inl, inr, arith}
use Rattle.row_changes.specs.Changes.Due.{NoneDue}
use Rattle.site_means.specs.Sight.{meant_by}
use Rattle.site_tests.proofs.course_vectors.worked_sites.Goals as goal

pub returns-clause-begun : goal.returns-clause-begun
returns-clause-begun c = record {
  point = record { time = 0x50; rows = []; due = NoneDue; is_ended = false };
  at = refl;
  shows = record { means = _; defined = ap meant_by c.meant_groups.ensures.other_gate; session = refl; level = refl; at = refl; rows = refl; ended = refl; tracks = λ place r at state track below. absurd cc };
  may = record {
    ended = inr refl;
    in_time = (let e : 0x50 ≤ 0x50 = omega arith in e, refl);
    rows = inl (record { changes = []; toward = record { may_come = refl; broken = refl }; counted = λ device. omega arith; made = refl });
  };
}

pub returns-clause-on_the_way : goal.returns-clause-on_the_way
returns-clause-on_the_way c = record {
  point = record { time = 0x80; rows = []; due = NoneDue; is_ended = false };
  at = refl;
  shows = record { means = _; defined = ap meant_by c.meant_groups.ensures.whole; session = refl; level = refl; at = refl; rows = refl; ended = refl; tracks = λ place r at state track below. absurd cc };
  may = record {
    ended = inr refl;
    in_time = (let e : 0x50 ≤ 0x80 = omega arith in e, let e : 0x80 ≤ 0x90 = omega arith in e);
    rows = inl (record { changes = []; toward = record { may_come = refl; broken = refl }; counted = λ device. omega arith; made = refl });
  };
}

pub returns-clause-unheard : goal.returns-clause-unheard
returns-clause-unheard c = λ b. let at = b.at in let exact = b.may.in_time.1 in omega (arith, at, exact)

pub returns-clause-past_the_line : goal.returns-clause-past_the_line
returns-clause-past_the_line c = λ b. let at = b.at in let within = b.may.in_time.1 in omega (arith, at, within)
