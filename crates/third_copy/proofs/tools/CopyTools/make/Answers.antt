use Rattle.std.proofs.Common.{arith}
use Rattle.third_copy.proofs.tools.CopyTools.make.Goals as goal

pub returns : goal.returns
returns c = record {
  jobs_empty = c.in_ok-jobs.ensures.items;
  jobs_places = omega (arith, c.in_ok-jobs.ensures.capacity, c.len.ensures.count, c.from-rows.ensures);
  done_empty = c.in_ok-done.ensures.items;
  done_places = omega (arith, c.in_ok-done.ensures.capacity, c.len.ensures.count, c.from-rows.ensures);
  failed_empty = c.in_ok-failed.ensures.items;
  failed_places = omega (arith, c.in_ok-failed.ensures.capacity, c.len.ensures.count, c.from-rows.ensures);
}
