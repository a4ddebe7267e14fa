use Rattle.std.proofs.Common.{refl}
use Rattle.write_trace.specs.declared.next.Stopped.TheVariants.{AtEnd}
use Rattle.write_trace.specs.declared.trace.TraceEnd.TheVariants.{Ended}
use Rattle.sidefile.proofs.look.look_ahead.Goals as goal

pub returns-in-Write-clause-again : goal.returns-in-Write-clause-again
returns-in-Write-clause-again g c = λ e. let h = (c.in-Write.ensures.again (AtEnd Ended) e).0 in absurd cc

pub returns-in-Idle-clause-again : goal.returns-in-Idle-clause-again
returns-in-Idle-clause-again g c = λ e. let h = (c.in-Idle.ensures.again (AtEnd Ended) e).0 in absurd cc

pub returns-in-Ended-clause-again : goal.returns-in-Ended-clause-again
returns-in-Ended-clause-again g c = λ e. (refl, (c.in-Ended.ensures.again (AtEnd Ended) e).1)

pub returns-in-BadTrace-clause-again : goal.returns-in-BadTrace-clause-again
returns-in-BadTrace-clause-again g c = λ e. let h = (c.in-BadTrace.ensures.again (AtEnd Ended) e).0 in absurd cc

pub returns-in-ReadFault-clause-again : goal.returns-in-ReadFault-clause-again
returns-in-ReadFault-clause-again g c = λ e. let h = (c.in-ReadFault.ensures.again (AtEnd Ended) e).0 in absurd cc

pub returns-in-NoMemory-clause-again : goal.returns-in-NoMemory-clause-again
returns-in-NoMemory-clause-again g c = λ e. let h = (c.in-NoMemory.ensures.again (AtEnd Ended) e).0 in absurd cc
