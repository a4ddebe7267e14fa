use Rattle.consistency.proofs.Leading.{hits_whole, leads_on, leads_toward, whole_itself}
use Rattle.consistency.proofs.points.changes_lead_on.Goals as goal

pub returns : goal.returns
returns c = record {
  itself = whole_itself;
  on = leads_on;
  hits = λ level breaks p q r xs hits whole hit. hits_whole level breaks p q r xs hits whole hit.at hit.leads;
  toward = leads_toward;
}
