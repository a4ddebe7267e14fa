use Rattle.std.proofs.Common.{refl, [], ◌∷◌}
use Rattle.ckd_track.specs.declared.rec.Rec.{Rec}
use Rattle.ckd_track.specs.declared.write.Kind.TheVariants.{Update, Format}
use Rattle.trace_tests.proofs.tracks.deltas_are_applied.Goals as goal

pub apply_delta-requires : goal.apply_delta-requires
apply_delta-requires c d = record { form = record { kind = Update 1 (90 ∷ []); part = refl; keeps = refl; spelled = refl } }

pub apply_delta-requires-2 : goal.apply_delta-requires-2
apply_delta-requires-2 c d =
    let rec : Rec = record { number = 2; key = []; content = 81 ∷ [] } in
    record { form = record { kind = Format 1 (rec ∷ []); part = refl; keeps = refl; spelled = refl } }
