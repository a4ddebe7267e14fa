-- Batches one after another make of a track what their writes in a row make.
use Rattle.std.proofs.Common.{◌≡◌, ℕ, List, [], ◌∷◌, ◌++◌, refl, sym, ap, ◌∙◌, nat_le}
use Rattle.std.specs.Prelude.{filter}
use Rattle.std.specs.List.{flat_map}
use Rattle.ckd_track.specs.declared.rec.Rec.{Rec}
use Rattle.ckd_track.specs.declared.write.Write.{Write}
use Rattle.ckd_track.specs.Effects.{apply}
use Rattle.write_trace.specs.Writes.{writes_of}
use Rattle.primary_ctl.specs.States.{base_in, is_on, after_writes}
use Rattle.primary_ctl.specs.Primaries.{after_batches, BatchesMakeThePrimary}
use Rattle.std.proofs.lemmas.List.Elements.{filter-append}
use Rattle.primary_ctl.proofs.Filters.{filter_both}
use Rattle.primary_ctl.proofs.OwnWrites.{own_writes}

after_append : (recs : List Rec) (xs ys : List Write) → after_writes recs (xs ++ ys) ≡ after_writes (after_writes recs xs) ys
after_append recs [] ys = refl
after_append recs (x ∷ xs) ys = after_append (apply recs x.kind) xs ys

in_a_row : (volume track : ℕ) (recs : List Rec) (batches : List (List Write))
    → after_batches volume track recs batches ≡ after_writes recs (filter (is_on volume track) (flat_map (λ writes. writes) batches))
in_a_row volume track recs [] = refl
in_a_row volume track recs (b ∷ batches) =
    in_a_row volume track (after_writes recs (filter (is_on volume track) b)) batches
    ∙ sym (after_append recs (filter (is_on volume track) b) (filter (is_on volume track) (flat_map (λ writes. writes) batches)))
    ∙ sym (ap (after_writes recs) (filter-append (is_on volume track) b (flat_map (λ writes. writes) batches)))

pub batches_make : BatchesMakeThePrimary
batches_make traces time control volume track t batches fall at all =
    let base = base_in t.header.base volume track in
    in_a_row volume track base batches
    ∙ ap (λ (ws : List Write). after_writes base (filter (is_on volume track) ws)) all
    ∙ ap (after_writes base) (filter_both (is_on volume track) (λ w. nat_le w.stamp.0 time) (writes_of t.entries))
    ∙ sym (own_writes traces time control volume track t fall at)
