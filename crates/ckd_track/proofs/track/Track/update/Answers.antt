use Rattle.std.proofs.Common.{◌≡◌, ◌∙◌, ap, sym, subst, ℕ, List, length, Some, None}
use Rattle.std.specs.Prelude.{◌==◌}
use Rattle.std.specs.List.{position}
use Rattle.ckd_track.specs.declared.rec.Rec.{Rec}
use Rattle.ckd_track.specs.Tracks.{IsTrack, track_size}
use Rattle.ckd_track.specs.Effects.{fitted, updated}
use Rattle.ckd_track.proofs.RowLaws.{update_one, update_absent}
use Rattle.ckd_track.proofs.Updates.{updated_is_track, sizes-updated}
use Rattle.ckd_track.proofs.track.Track.update.Goals as goal

pub invariant_of-self : goal.invariant_of-self
invariant_of-self c =
    let items = c.self.inside.recs.items in
    let found : position (λ (r : Rec). r.number == c.args.number) items ≡ Some c.in-Some.place = ap (position (λ (r : Rec). r.number == c.args.number)) (c.self.view_is ∙ sym c.recs.ensures.recs) ∙ sym c.in-Some.ensures in
    let filled : c.refilled.result ≡ fitted (length c.index_mut-rec.result.now.content) c.args.bytes.now = c.refilled.ensures ∙ ap (λ (t : List ℕ). fitted (length t) c.args.bytes.now) c.replace-content.ensures.value in
    let e = update_one c.args.number c.in-Some.place c.args.bytes.now c.refilled.result items c.index_mut-rec.result.now c.self.invariant.0 found c.index_mut-rec.ensures.value filled in
    (subst (λ (t : List Rec). IsTrack t) (sym e) (updated_is_track c.args.number c.args.bytes.now items c.self.invariant.0), c.self.invariant.1 ∙ sym (ap track_size e ∙ sizes-updated c.args.number c.args.bytes.now items))

pub returns-in-Some : goal.returns-in-Some
returns-in-Some c =
    let items = c.self.inside.recs.items in
    let found : position (λ (r : Rec). r.number == c.args.number) items ≡ Some c.in-Some.place = ap (position (λ (r : Rec). r.number == c.args.number)) (c.self.view_is ∙ sym c.recs.ensures.recs) ∙ sym c.in-Some.ensures in
    let filled : c.refilled.result ≡ fitted (length c.index_mut-rec.result.now.content) c.args.bytes.now = c.refilled.ensures ∙ ap (λ (t : List ℕ). fitted (length t) c.args.bytes.now) c.replace-content.ensures.value in
    let e = update_one c.args.number c.in-Some.place c.args.bytes.now c.refilled.result items c.index_mut-rec.result.now c.self.invariant.0 found c.index_mut-rec.ensures.value filled in
    e ∙ ap (λ (t : List Rec). updated c.args.number c.args.bytes.now t) c.self.view_is

pub returns-in_default : goal.returns-in_default
returns-in_default c =
    let absent : position (λ (r : Rec). r.number == c.args.number) c.args.self.now ≡ None = ap (position (λ (r : Rec). r.number == c.args.number)) (sym c.recs.ensures.recs) ∙ sym c.record_place.ensures ∙ c.in_default.is in
    sym (update_absent c.args.number c.args.bytes.now c.args.self.now absent)
