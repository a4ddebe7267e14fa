use Rattle.std.proofs.Common.{refl, arith}
use Rattle.group_tests.specs.HistoryVectors.{first_state, worked_calls}
use Rattle.group_tests.proofs.WorkedRuns.{run_of}
use Rattle.group_tests.proofs.history_vectors.worked_run.Goals as goal

pub returns-clause-history : goal.returns-clause-history
returns-clause-history c = refl

pub returns-clause-runs : goal.returns-clause-runs
returns-clause-runs c =
    run_of first_state worked_calls (
      (omega arith, record { unknown = refl; fresh = refl }),
      (
        record { control = omega arith; rules = refl; legal = record { tells = record { reporting = refl; up = omega arith }; within = refl; order = refl; tracks = refl } },
        (
          (omega arith, record { reporting = refl; floor = refl; track = refl }),
          (
            (omega arith, record { reporting = refl; up = omega arith }),
            (
              omega arith,
              (
                omega arith,
                (
                  record { control = omega arith; rules = refl; legal = record { tells = record { reporting = refl; up = omega arith }; within = refl; order = refl; tracks = refl } },
                  (
                    (omega arith, refl),
                    (
                      omega arith,
                      (
                        (omega arith, record { reporting = refl; floor = refl; track = refl }),
                        ((omega arith, record { reporting = refl; up = omega arith }), tt),
                      ),
                    ),
                  ),
                ),
              ),
            ),
          ),
        ),
      ),
    )
