-- Points that are ahead of a leg, passed at moments.
use Rattle.std.proofs.Common.{◌≡◌, inl, inr, ℕ, ◌≤◌, List, [], ◌∷◌, ◌++◌, length, map, take, refl, sym, ap, subst, ◌∙◌, arith, append_assoc, append-nil}
use Rattle.std.specs.Prelude.{fold}
use Rattle.std.specs.List.{All}
use Rattle.std.proofs.lemmas.List.Elements.{All-cons, All-nil}
use Rattle.passages.specs.Points.{AreLinked, last_point}
use Rattle.passages.specs.Telling.{told_by}
use Rattle.record_rows.specs.Deeds.{Deed}
use Rattle.site_store.specs.DoneDeeds.{PassedDeed, deed_passed, points_of, with_next}
use Rattle.consistency.specs.Stages.{ScriptRun, Stage}
use Rattle.consistency.specs.Bearing.{MayBeMeant}
use Rattle.consistency.specs.Leads.{Point}
use Rattle.consistency.specs.Ways.{ComesBy, ComesNext, HasCountedHits, Leg, PassedPoint, Way, leg_after, leg_by}
use Rattle.mover.specs.Working.{LinesAsked, IsOnItsWay}

-- a point that is ahead, and the way that leads to it
pub record NextPoint : Type 0 where
  pub point : Point
  pub way : Way

abbrev pub leg_next : Leg → NextPoint → Leg
leg_next l n = leg_by l n.point n.way

-- the leg after all of them
abbrev pub leg_after_points : Leg → List NextPoint → Leg
leg_after_points l [] = l
leg_after_points l (n ∷ ahead) = leg_after_points (leg_next l n) ahead

-- Each comes next by its way, hits are counted, and each may be meant.
abbrev pub AreAhead : ScriptRun → Stage → LinesAsked → Leg → List NextPoint → Type 0
AreAhead run stage asked l [] = Unit {0}
AreAhead run stage asked l (n ∷ ahead) = (ComesBy run asked l n.point n.way × HasCountedHits run (leg_next l n)) × MayBeMeant run stage n.point × AreAhead run stage asked (leg_next l n) ahead

abbrev pub passed_at : ℕ → NextPoint → PassedPoint
passed_at t n = record { moment = t; point = n.point; way = n.way }

-- the first of them, passed at these moments
abbrev pub passed_by : (moments : List ℕ) → List NextPoint → List PassedPoint
passed_by [] ahead = []
passed_by (t ∷ moments) [] = []
passed_by (t ∷ moments) (n ∷ ahead) = passed_at t n ∷ passed_by moments ahead

module _ (run : ScriptRun) (stage : Stage) (asked : LinesAsked) where
  pub ahead_linked : (moments : List ℕ) (ahead : List NextPoint) (l : Leg) → AreAhead run stage asked l ahead → AreLinked (ComesNext run asked) leg_after l (passed_by moments ahead)
  ahead_linked [] ahead l are = tt
  ahead_linked (t ∷ moments) [] l are = tt
  ahead_linked (t ∷ moments) (n ∷ ahead) l are = (are.0, ahead_linked moments ahead (leg_next l n) are.2)

  pub ahead_meant : (moments : List ℕ) (ahead : List NextPoint) (l : Leg) → AreAhead run stage asked l ahead → All (λ n. MayBeMeant run stage n.point) (passed_by moments ahead)
  ahead_meant [] ahead l are = All-nil (λ (n : PassedPoint). MayBeMeant run stage n.point)
  ahead_meant (t ∷ moments) [] l are = All-nil (λ (n : PassedPoint). MayBeMeant run stage n.point)
  ahead_meant (t ∷ moments) (n ∷ ahead) l are =
      All-cons (λ (m : PassedPoint). MayBeMeant run stage m.point) (passed_at t n) (passed_by moments ahead) are.1 (ahead_meant moments ahead (leg_next l n) are.2)

-- ---- points that tell of deeds

-- Points ahead tell of deeds, where some were done before: the first of the points of the first of the deeds, and so on.
abbrev pub TellOf : (told : List Deed → Point) → (way : PassedDeed → Way) → (done : List Deed) → List Deed → List NextPoint → Type 0
TellOf told way done [] [] = Unit {0}
TellOf told way done [] (n ∷ ahead) = ⊥
TellOf told way done (deed ∷ deeds) [] = ⊥
TellOf told way done (deed ∷ deeds) (n ∷ ahead) =
    (told (done ++ deed ∷ []) ≡ n.point) × ((t : ℕ) → way (deed_passed t done deed) ≡ n.way) × TellOf told way (done ++ deed ∷ []) deeds ahead

module _ (told : List Deed → Point) (way : PassedDeed → Way) where
  -- The points of the deeds are these, passed at their moments.
  pub points_told : (moments : List ℕ) (done deeds : List Deed) (ahead : List NextPoint) → TellOf told way done deeds ahead → map (told_by told way) (points_of done moments deeds) ≡ passed_by moments ahead
  points_told [] done deeds ahead tell = refl
  points_told (t ∷ moments) done [] [] tell = refl
  points_told (t ∷ moments) done [] (n ∷ ahead) tell = absurd tell
  points_told (t ∷ moments) done (deed ∷ deeds) [] tell = absurd tell
  points_told (t ∷ moments) done (deed ∷ deeds) (n ∷ ahead) tell =
      (λ i. record { moment = t; point = tell.0 i; way = tell.1 t i } ∷ map (told_by told way) (points_of (done ++ deed ∷ []) moments deeds))
      ∙ ap (λ (rest : List PassedPoint). passed_at t n ∷ rest) (points_told moments (done ++ deed ∷ []) deeds ahead tell.2)

  -- The last of the first ones is told by the first deeds.
  pub last_told : (moments : List ℕ) (done deeds : List Deed) (ahead : List NextPoint) → TellOf told way done deeds ahead → length moments ≤ length deeds
      → last_point (told done) (passed_by moments ahead) ≡ told (done ++ take (length moments) deeds)
  last_told [] done deeds ahead tell few = ap told (sym (append-nil done))
  last_told (t ∷ moments) done [] ahead tell few = absurd (omega (arith, few))
  last_told (t ∷ moments) done (deed ∷ deeds) [] tell few = absurd tell
  last_told (t ∷ moments) done (deed ∷ deeds) (n ∷ ahead) tell few =
      ap (λ (p : Point). last_point p (passed_by moments ahead)) (sym tell.0)
      ∙ last_told moments (done ++ deed ∷ []) deeds ahead tell.2 (omega (arith, few))
      ∙ ap told (append_assoc done (deed ∷ []) (take (length moments) deeds))

  -- The next one is on its way after the first ones.
  pub next_on_its_way : (run : ScriptRun) (stage : Stage) (asked : LinesAsked) (moments : List ℕ) (done deeds : List Deed) (ahead : List NextPoint) (l : Leg) → TellOf told way done deeds ahead → AreAhead run stage asked l ahead
      → MayBeMeant run stage (told done) → (leg_after_points l ahead).point ≡ told (done ++ deeds) → length moments ≤ length deeds
      → IsOnItsWay run asked (fold leg_after l (passed_by moments ahead)) (told (done ++ with_next (length moments) deeds)) × MayBeMeant run stage (told (done ++ with_next (length moments) deeds))
  next_on_its_way run stage asked [] done [] [] l tell are may ends few =
      (inl (sym ends), subst (MayBeMeant run stage) (ap told (sym (append-nil done))) may)
  next_on_its_way run stage asked [] done [] (n ∷ ahead) l tell are may ends few = absurd tell
  next_on_its_way run stage asked [] done (deed ∷ deeds) [] l tell are may ends few = absurd tell
  next_on_its_way run stage asked [] done (deed ∷ deeds) (n ∷ ahead) l tell are may ends few =
      (inr (n.way, subst (λ (q : Point). ComesBy run asked l q n.way) (sym tell.0) are.0.0), subst (MayBeMeant run stage) (sym tell.0) are.1)
  next_on_its_way run stage asked (t ∷ moments) done [] ahead l tell are may ends few = absurd (omega (arith, few))
  next_on_its_way run stage asked (t ∷ moments) done (deed ∷ deeds) [] l tell are may ends few = absurd tell
  next_on_its_way run stage asked (t ∷ moments) done (deed ∷ deeds) (n ∷ ahead) l tell are may ends few =
      let more = append_assoc done (deed ∷ []) in
      subst (λ (front : List Deed). IsOnItsWay run asked (fold leg_after (leg_next l n) (passed_by moments ahead)) (told front) × MayBeMeant run stage (told front)) (more (with_next (length moments) deeds))
      (next_on_its_way run stage asked moments (done ++ deed ∷ []) deeds ahead (leg_next l n) tell.2 are.2 (subst (MayBeMeant run stage) (sym tell.0) are.1) (ends ∙ ap told (sym (more deeds))) (omega (arith, few)))
