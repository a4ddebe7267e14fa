use Rattle.third_copy.proofs.pairs.copy_unless_failed.Goals as goal

pub returns-in-Ok-clause-done : goal.returns-in-Ok-clause-done
returns-in-Ok-clause-done g c told is = record { all_done = c.in-Ok.ensures.done told; durable = c.in-Ok.ensures.durable told }

pub returns-in-Ok-clause-counts : goal.returns-in-Ok-clause-counts
returns-in-Ok-clause-counts g c is = c.in-Ok.ensures.fails.ok

pub returns-in-Err-clause-fails : goal.returns-in-Err-clause-fails
returns-in-Err-clause-fails g c fit failed = c.in-Err.ensures.fails.failed
