use Rattle.site_store.proofs.Meant.{mark_kept, marks_meant, next_free}
use Rattle.site_store.proofs.ring.marks_free_the_ring.Goals as goal

pub returns-clause-kept : goal.returns-clause-kept
returns-clause-kept c = mark_kept

pub returns-clause-meant : goal.returns-clause-meant
returns-clause-meant c = marks_meant

pub returns-clause-free : goal.returns-clause-free
returns-clause-free c = next_free
