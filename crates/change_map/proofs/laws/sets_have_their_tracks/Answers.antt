use Rattle.change_map.proofs.InSets.{has_none, has_every, has_with, has_without, has_union, same_set}
use Rattle.change_map.proofs.laws.sets_have_their_tracks.Goals as goal

pub returns : goal.returns
returns c = record {
  none = has_none;
  every = has_every;
  with = has_with;
  without = has_without;
  union = λ tracks others x long. has_union tracks others long x;
  same = same_set;
}
