-- After a form no write joins with a stamp up to its cut.
use Rattle.std.proofs.Common.{◌≡◌, ℕ, ◌≤◌, true, nat_lt, nat_le, ◌&&◌, List, [], ◌∷◌, ◌++◌, refl, arith}
use Rattle.std.specs.List.{list_all}
use Rattle.std.proofs.lemmas.Bool.{and_parts, and_from, ltb-true, lt-ltb}
use Rattle.ckd_track.specs.declared.write.Write.{Write}
use Rattle.cut_core.specs.Events.{Event, floor, cut_after, last_cut}
use Rattle.cut_core.specs.Events.Event.{Join, Copied, Break, Raise, Form, Drop, Carry, Resume, Forget}
use Rattle.cut_core.specs.LegalHistories.{are_in, is_legal_next, are_legal}
use Rattle.cut_core.specs.Cuts.{joins_above, NoLateWrite}
use Rattle.cut_core.proofs.Legality.{joins, forms_at, legal_front, legal_after}
use Rattle.cut_core.proofs.Ends.{cut_snoc}
use Rattle.cut_core.proofs.Kept.{Kept, floor_above, kept_next, legal_kept}

above_floor : (cut low high : ℕ) (writes : List Write) → cut ≤ low → are_in low high writes ≡ true → list_all (λ w. nat_lt cut w.stamp.0) writes ≡ true
above_floor cut low high [] le e = refl
above_floor cut low high (w ∷ writes) le e =
    let parts = and_parts (nat_lt low w.stamp.0 && nat_le w.stamp.0 high) (are_in low high writes) e in
    let first = ltb-true low w.stamp.0 (and_parts (nat_lt low w.stamp.0) (nat_le w.stamp.0 high) parts.0).0 in
    and_from (nat_lt cut w.stamp.0) (list_all (λ w. nat_lt cut w.stamp.0) writes) (lt-ltb cut w.stamp.0 (omega arith)) (above_floor cut low high writes le parts.1)

join_above : (n cut : ℕ) (past : List Event) (x : Event) → Kept n past → cut ≤ last_cut past → is_legal_next n past x ≡ true → joins_above cut x ≡ true
join_above n cut past (Join b) kept le legal =
    let parts = joins n past b legal in
    above_floor cut (floor b.control past) b.upto.0 b.writes (omega (arith, le, floor_above n b.control past kept parts.tells.control parts.tells.unbroken)) parts.within
join_above n cut past x kept le legal = refl

-- a cut doesn't fall
pub cut_rises : (n : ℕ) (past : List Event) (x : Event) → is_legal_next n past x ≡ true → last_cut past ≤ cut_after (last_cut past) x
cut_rises n past (Form c) legal = (forms_at n c past legal).above
cut_rises n past (Join b) legal = omega arith
cut_rises n past (Copied k v x s) legal = omega arith
cut_rises n past (Break k u) legal = omega arith
cut_rises n past (Raise k u) legal = omega arith
cut_rises n past (Drop k v all) legal = omega arith
cut_rises n past (Carry k v tracks) legal = omega arith
cut_rises n past (Resume k v) legal = omega arith
cut_rises n past (Forget k v) legal = omega arith

all_above : (n cut : ℕ) (past later : List Event) → Kept n past → cut ≤ last_cut past → are_legal n past later ≡ true → list_all (joins_above cut) later ≡ true
all_above n cut past [] kept le legal = refl
all_above n cut past (x ∷ later) kept le legal =
    let parts = and_parts (is_legal_next n past x) (are_legal n (past ++ x ∷ []) later) legal in
    and_from (joins_above cut x) (list_all (joins_above cut) later) (join_above n cut past x kept le parts.0)
    (all_above n cut (past ++ x ∷ []) later (kept_next n past x parts.0 kept) (omega (arith, le, cut_rises n past x parts.0, cut_snoc past x)) parts.1)

pub no_late : NoLateWrite
no_late n before later cut legal =
    let kept = legal_kept n before (legal_front n [] before (Form cut ∷ later) legal) in
    let parts = and_parts (is_legal_next n before (Form cut)) (are_legal n (before ++ Form cut ∷ []) later) (legal_after n [] before (Form cut ∷ later) legal) in
    all_above n cut (before ++ Form cut ∷ []) later (kept_next n before (Form cut) parts.0 kept) (omega (arith, cut_snoc before (Form cut))) parts.1
