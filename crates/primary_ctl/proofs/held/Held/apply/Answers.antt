use Rattle.std.proofs.Common.{◌≡◌, refl, sym, subst, Option, Some, List, []}
use Rattle.std.specs.Prelude.{IsSome}
use Rattle.ckd_track.specs.declared.rec.Rec.{Rec}
use Rattle.ckd_track.specs.Effects.{apply}
use Rattle.primary_ctl.specs.States.{is_place, found}
use Rattle.primary_ctl.proofs.Places.{on_ok, put_at, apply_at, listed, not_listed}
use Rattle.primary_ctl.proofs.held.Held.apply.Goals as goal

some_is : (o : Option (List Rec)) (recs : List Rec) → Some recs ≡ o → IsSome o
some_is o recs e = subst IsSome e refl

pub returns-in-Some : goal.returns-in-Some
returns-in-Some c =
    let w = c.args.write.now in
    let v = c.in-Some.ensures.value in
    let u = (c.get_mut.follows.holds c.apply.new.self).3 (some_is _ c.in-Some.track.now v) in
    on_ok c.apply.result
    (λ (is : c.apply.new.self ≡ apply c.in-Some.track.now w.kind). apply_at c.args.self.now (c.get_mut.follows.lender c.apply.new.self).entries w.volume w.track c.in-Some.track.now w.kind
    (listed (found c.args.self.now w.volume w.track) c.in-Some.track.now (rw (← c.self.view_is) (sym v)))
    (λ v t. put_at (is_place w.volume w.track (v, t)) (found (c.get_mut.follows.lender c.apply.new.self).entries v t) (found c.args.self.now v t) (apply c.in-Some.track.now w.kind)
    (rw (← c.self.view_is, ← is) (u.0 (v, t)))))
    c.apply.ensures.ok

pub returns : goal.returns
returns c =
    let w = c.args.write.now in
    let v = c.in_default.ensures.value in
    let is : c.apply-2.new.self ≡ apply [] w.kind = cc (c.in_ok-apply.ensures.ok, c.make-track.ensures) in
    let same : c.get_mut.follows.lender-at-none ≡ c.self.inside.tracks = c.get_mut.follows.holds-at-none in
    on_ok c.put.result
    (λ h. apply_at c.args.self.now c.put.new.self w.volume w.track [] w.kind
    (not_listed (found c.args.self.now w.volume w.track) (rw (← c.self.view_is) (sym v)))
    (λ v t. rw (← is, ← c.self.view_is, ← same) (h v t)))
    c.put.ensures
