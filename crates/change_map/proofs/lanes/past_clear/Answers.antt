use Rattle.std.proofs.Common.{◌+◌, ◌*◌, ◌≤◌, ◌∙◌, ℕ, not, nat_eq, get_or, length, inl, inr, sym, arith, w64}
use Rattle.std.specs.Simd.Lanes.{chunk}
use Rattle.std.proofs.lemmas.Bool.{cases_lt, eqb-true, not-false}
use Rattle.std.proofs.lemmas.Simd.{bitmask_splat, length-chunk, none_from_empty_mask}
use Rattle.change_map.proofs.lanes.past_clear.Goals as goal

pub loop-k-preserved : goal.loop-k-preserved
loop-k-preserved c = λ x from before.
    let next = c.args.from + c.loop-k.k * 8 in
    let room : next + 8 ≤ length c.args.words.now = omega (arith, c.loop-k-test.true, c.loop-k.auto, c.requires) in
    let differs = λ (a b : ℕ). not (nat_eq a b) in
    let none = sym (bitmask_splat w64 differs (chunk next 8 c.args.words.now) 8 0 (length-chunk next 8 c.args.words.now room) (omega arith)) ∙ c.if-set-ne0.false in
    elim (cases_lt x next) [
      | inl lower ↦ c.loop-k.invariant x from lower
      | inr here ↦ eqb-true (get_or c.args.words.now x 0) 0 (not-false (nat_eq (get_or c.args.words.now x 0) 0) (none_from_empty_mask (λ w. differs w 0) c.args.words.now next 8 0 room none x here (omega (arith, before))))
    ]
