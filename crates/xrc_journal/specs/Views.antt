-- The items of a body as its reader reports them.
use Rattle.std.specs.Prelude.{◌≡◌, ℕ, List, [], ◌∷◌, length, Option, Some, None, IsTrue}
use Rattle.xrc_journal.specs.declared.reading.BodyItem.{BodyItem}
use Rattle.xrc_journal.specs.declared.reading.BodyItem.TheVariants.{Image as ImageTold, Pair as PairTold, Gone as GoneTold}
use Rattle.xrc_journal.specs.Items.{Item, Earlier, anywhere, are_items_after, item_spelling, body_spelling}
use Rattle.xrc_journal.specs.Items.Item.{Image, Delta, Pair, Gone}

-- What is told of an item. A row is told alike in both versions. A change, which no body has yet, would be told as its track.
abbrev pub told : Item → BodyItem
told (Image device track recs) = ImageTold device track
told (Delta device track kind) = ImageTold device track
told (Pair version row) = PairTold row
told (Gone device) = GoneTold device

-- The bytes are items that keep the rules, whatever items stand before them.
pub record AreItemBytes (bytes : List ℕ) : Type 0 where
  pub earlier : Earlier
  pub items : List Item
  pub keep : IsTrue (are_items_after anywhere earlier items)
  pub spelled : bytes ≡ body_spelling items

-- what is told of the first of these items, and its length
abbrev pub first_told : List Item → Option (BodyItem × ℕ)
first_told [] = None
first_told (i ∷ items) = Some (told i, length (item_spelling i))
