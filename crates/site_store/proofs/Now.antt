-- What is meant once deeds are done, and the content that they leave.
use Rattle.std.proofs.Common.{List, Option, ap, ◌∙◌}
use Rattle.std.specs.Prelude.{option_map}
use Rattle.ckd_track.specs.declared.rec.Rec.{Rec}
use Rattle.crash_plant.specs.Moments.{PlantState}
use Rattle.site_means.specs.declared.means.Means.{Means}
use Rattle.site_store.specs.Deeds.{content_after, means_after}
use Rattle.site_store.specs.DeedLaws.{DoneDeedsAreMeant, DoneDeedsLeaveContent}
use Rattle.site_store.proofs.Seeing.{same_content, same_means}

pub are_meant : (old new : PlantState) → DoneDeedsAreMeant old new
are_meant old new excepted rows deeds means does all c has =
    let sees = does.now c has in
    same_means old new does.site c ∙ sees.means ∙ ap (λ (m : Option Means). option_map (means_after deeds) m) (all sees.from sees.was)

pub leave_content : (old new : PlantState) → DoneDeedsLeaveContent old new
leave_content old new excepted rows deeds d x content does within told all c has =
    let found = (does.now c has).content d x within told in
    same_content old new does.site c d x ∙ found.2 ∙ ap (λ (t : Option (List Rec)). content_after d x rows deeds t) (all found.0 found.1)
