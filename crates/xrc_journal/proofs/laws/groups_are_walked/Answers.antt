use Rattle.xrc_journal.proofs.RecordsAgain.{groups_walked, switches_walked}
use Rattle.xrc_journal.proofs.RecordsRead.{groups_spelled, switches_spelled, ends_shut}
use Rattle.xrc_journal.proofs.laws.groups_are_walked.Goals as goal

pub returns : goal.returns
returns c = record {
  walked = groups_walked;
  spelled = groups_spelled;
  switch_walked = switches_walked;
  switch_spelled = switches_spelled;
  shut = ends_shut;
}
