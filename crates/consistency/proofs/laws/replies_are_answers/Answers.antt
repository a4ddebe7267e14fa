use Rattle.consistency.proofs.Counting.{replies_counted}
use Rattle.consistency.proofs.laws.replies_are_answers.Goals as goal

pub returns : goal.returns
returns c run lines heard said stamped course at = replies_counted run lines heard said stamped course at
