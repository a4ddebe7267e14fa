-- An image among items decides what they leave of its track.
use Rattle.std.proofs.Common.{◌≡◌, ℕ, Bool, true, false, cond, ◌||◌, List, [], ◌∷◌, Option, Some, refl, sym, ap, ◌∙◌}
use Rattle.std.specs.List.{list_any}
use Rattle.ckd_track.specs.declared.rec.Rec.{Rec}
use Rattle.xrc_journal.specs.Items.{Item}
use Rattle.xrc_journal.specs.Items.Item.{Image, Delta, Pair, Gone}
use Rattle.xrc_journal.specs.Bodies.{draws}
use Rattle.xrc_journal.specs.Contents.{content_by, content_through}

same_draw : (device track : ℕ) (i : Item) (old new : Option (List Rec)) → draws device track i ≡ true → content_by device track new i ≡ content_by device track old i
same_draw device track (Image d x recs) old new e = ap (λ (b : Bool). cond b (Some recs) new) e ∙ sym (ap (λ (b : Bool). cond b (Some recs) old) e)
same_draw device track (Delta d x kind) old new e = absurd cc
same_draw device track (Pair version row) old new e = absurd cc
same_draw device track (Gone d) old new e = absurd cc

-- Where the items have an image of a track, its content doesn't depend on what stood there before.
pub contents_are_drawn : (device track : ℕ) (items : List Item) (old new : Option (List Rec)) → list_any (draws device track) items ≡ true → content_through device track items new ≡ content_through device track items old
contents_are_drawn device track [] old new has = absurd cc
contents_are_drawn device track (i ∷ items) old new has =
    by_draws (draws device track i) refl (λ more. contents_are_drawn device track items (content_by device track old i) (content_by device track new i) more)
  where
    by_draws : (b : Bool) → draws device track i ≡ b → (list_any (draws device track) items ≡ true → content_through device track items (content_by device track new i) ≡ content_through device track items (content_by device track old i))
        → content_through device track items (content_by device track new i) ≡ content_through device track items (content_by device track old i)
    by_draws true e more = ap (λ (o : Option (List Rec)). content_through device track items o) (same_draw device track i old new e)
    by_draws false e more = more (ap (λ (b : Bool). b || list_any (draws device track) items) (sym e) ∙ has)
