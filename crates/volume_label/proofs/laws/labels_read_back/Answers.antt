use Rattle.volume_label.proofs.Labels.{back, spelled}
use Rattle.volume_label.proofs.laws.labels_read_back.Goals as goal

pub returns : goal.returns
returns c = record {
  back = back;
  spelled = spelled;
}
