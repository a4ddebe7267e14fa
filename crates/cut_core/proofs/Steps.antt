-- What one more event makes of what the floors keep of a controller.
use Rattle.std.proofs.Common.{◌≡◌, ℕ, ◌≤◌, Bool, true, false, cond, ◌&&◌, ◌||◌, List, [], ◌∷◌, ◌++◌, refl, sym, ◌∙◌, arith}
use Rattle.std.specs.Prelude.{◌==◌}
use Rattle.std.proofs.Math.Bool.{or-false}
use Rattle.cut_core.specs.Events.{Event, reported_upto, floor, is_break_of, is_broken_after, is_form_at, is_done}
use Rattle.cut_core.specs.Events.Event.{Form}
use Rattle.cut_core.proofs.Ends.{floor_snoc, broken_snoc, done_stays, done_form, not_done, breaks_at}
use Rattle.cut_core.specs.declared.told.ReportedPhase.TheVariants.{Unbroken, Broken, Done}
use Rattle.cut_core.specs.declared.told.Told.{Told}
use Rattle.cut_core.specs.Floors.{reported_after_form, told_after}

-- what is kept of a controller, of its floor and of what is so of it
abbrev pub as_told : ℕ → (done broken : Bool) → Told
as_told floor done broken = record { floor = record { 0 = floor }; phase = cond done Done (cond broken Broken Unbroken) }

same_told : (f g : ℕ) (d e b c : Bool) → f ≡ g → d ≡ e → b ≡ c → as_told f d b ≡ as_told g e c
same_told f g d e b c p q r = rw (p, q, r) refl

-- an event of another controller, which is no form
pub told_kept : (k : ℕ) (past : List Event) (x : Event) → ((t : ℕ) → is_form_at t x ≡ false) → is_break_of k x ≡ false → reported_upto k x ≡ 0 → told_after k (past ++ x ∷ []) ≡ told_after k past
told_kept k past x form break untold =
    same_told (floor k (past ++ x ∷ [])) (floor k past) (is_done k (past ++ x ∷ [])) (is_done k past) (is_broken_after k (past ++ x ∷ [])) (is_broken_after k past)
    (omega (arith, floor_snoc k past x, untold)) (done_stays k past x form) (broken_snoc k past x ∙ rw break (or-false (is_broken_after k past)))

-- an event of the controller that reports up to a time, and breaks it or doesn't
pub told_next : (k u : ℕ) (b : Bool) (past : List Event) (x : Event) → ((t : ℕ) → is_form_at t x ≡ false) → is_break_of k x ≡ b → reported_upto k x ≡ u → floor k past ≤ u → is_broken_after k past ≡ false → as_told u false b ≡ told_after k (past ++ x ∷ [])
told_next k u b past x form break told le unbroken =
    same_told u (floor k (past ++ x ∷ [])) false (is_done k (past ++ x ∷ [])) b (is_broken_after k (past ++ x ∷ []))
    (omega (arith, floor_snoc k past x, told, le)) (sym (done_stays k past x form ∙ not_done k past unbroken)) (sym (broken_snoc k past x ∙ rw (unbroken, break) refl))

-- a form
pub told_formed : (k c : ℕ) (past : List Event) → breaks_at k (floor k past) past ≡ true → told_after k (past ++ Form c ∷ []) ≡ reported_after_form c (told_after k past)
told_formed k c past e =
    same_told (floor k (past ++ Form c ∷ [])) (floor k past) (is_done k (past ++ Form c ∷ [])) (is_done k past || (is_broken_after k past && c == floor k past)) (is_broken_after k (past ++ Form c ∷ [])) (is_broken_after k past || false)
    (omega (arith, floor_snoc k past (Form c))) (done_form k (floor k past) c past e) (broken_snoc k past (Form c))
    ∙ as_formed (is_done k past) (is_broken_after k past) (floor k past) c
  where
    as_formed : (d b : Bool) (f c : ℕ) → as_told f (d || (b && c == f)) (b || false) ≡ reported_after_form c (as_told f d b)
    as_formed true b f c = refl
    as_formed false false f c = refl
    as_formed false true f c = by_same (c == f)
      where
        by_same : (s : Bool) → as_told f (false || (true && s)) (true || false) ≡ cond s (as_told f true true) (as_told f false true)
        by_same true = refl
        by_same false = refl
