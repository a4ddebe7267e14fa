-- What a track at a place is after a change at one place.
use Rattle.std.proofs.Common.{◌≡◌, ℕ, Bool, true, false, cond, nat_eq, ◌&&◌, List, [], Option, Some, None, Result, Ok, Err, refl, sym, ap, ◌∙◌}
use Rattle.std.specs.Prelude.{unwrap_or, OnOk}
use Rattle.std.proofs.lemmas.Bool.{eqb-true}
use Rattle.ckd_track.specs.declared.rec.Rec.{Rec}
use Rattle.ckd_track.specs.declared.write.Kind.{Kind}
use Rattle.ckd_track.specs.Effects.{apply}
use Rattle.primary_ctl.specs.States.{PlacedTrack, is_place, track_in}

pub put_at : (here : Bool) (new old : Option (List Rec)) (content : List Rec) → new ≡ cond here (Some content) old → unwrap_or new [] ≡ cond here content (unwrap_or old [])
put_at true new old content e = ap (λ (o : Option (List Rec)). unwrap_or o []) e
put_at false new old content e = ap (λ (o : Option (List Rec)). unwrap_or o []) e

-- one place at which the test is true
here : (volume track v t : ℕ) → is_place volume track (v, t) ≡ true → (v ≡ volume) × (t ≡ track)
here volume track v t e = both (nat_eq volume v) (nat_eq track t) refl refl e
  where
    both : (a b : Bool) → nat_eq volume v ≡ a → nat_eq track t ≡ b → (a && b) ≡ true → (v ≡ volume) × (t ≡ track)
    both true true x y e = (sym (eqb-true volume v x), sym (eqb-true track t y))
    both true false x y e = absurd cc
    both false b x y e = absurd cc

-- A track that is put where one stood is that one after a write.
pub apply_at : (held new : List PlacedTrack) (volume track : ℕ) (before : List Rec) (kind : Kind) → track_in held volume track ≡ before
    → ((v t : ℕ) → track_in new v t ≡ cond (is_place volume track (v, t)) (apply before kind) (track_in held v t))
    → (v t : ℕ) → track_in new v t ≡ cond (is_place volume track (v, t)) (apply (track_in held v t) kind) (track_in held v t)
apply_at held new volume track before kind was is v t = is v t ∙ same (is_place volume track (v, t)) refl
  where
    same : (b : Bool) → is_place volume track (v, t) ≡ b → cond b (apply before kind) (track_in held v t) ≡ cond b (apply (track_in held v t) kind) (track_in held v t)
    same true e = let at = here volume track v t e in ap (λ (recs : List Rec). apply recs kind) (sym was ∙ ap (λ n. track_in held n track) (sym at.0) ∙ ap (λ n. track_in held v n) (sym at.1))
    same false e = refl

-- what holds after a success
pub on_ok : {T E A B : Type 0} (r : Result T E) → (A → B) → OnOk r A → OnOk r B
on_ok (Ok x) f a = f a
on_ok (Err e) f a = tt

-- a track that is not listed is empty
pub not_listed : (o : Option (List Rec)) → o ≡ None → unwrap_or o [] ≡ []
not_listed o e = ap (λ (o : Option (List Rec)). unwrap_or o []) e

pub listed : (o : Option (List Rec)) (recs : List Rec) → o ≡ Some recs → unwrap_or o [] ≡ recs
listed o recs e = ap (λ (o : Option (List Rec)). unwrap_or o []) e
