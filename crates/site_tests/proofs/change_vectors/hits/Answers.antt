use Rattle.std.proofs.Common.{◌≤◌, arith}
use Rattle.site_tests.proofs.change_vectors.hits.Goals as goal

pub returns-clause-without_fault : goal.returns-clause-without_fault
returns-clause-without_fault c counted = let one : 1 ≤ 0 = counted 1 in omega (arith, one)

pub returns-clause-twice : goal.returns-clause-twice
returns-clause-twice c counted = let two : 2 ≤ 1 = counted 1 in omega (arith, two)
