-- A group that is put at the end: what stands there then, over plain states.
use Rattle.std.proofs.Common.{◌≡◌, ◌≢◌, false, nat_lt, ◌&&◌, ℕ, ◌+◌, ◌-◌, ◌^◌, ◌≤◌, ◌<◌, List, [], ◌∷◌, ◌++◌, length, drop, slice_index, sym, ap, subst, ◌∙◌, arith, append_assoc, length-append}
use Rattle.std.proofs.lemmas.List.{get_or-drop, get_or-append-add}
use Rattle.crash_plant.specs.declared.device.Device.TheVariants.{Volume}
use Rattle.crash_plant.specs.declared.spot.Spot.{Spot}
use Rattle.crash_plant.specs.Bytes.{Torn}
use Rattle.crash_plant.specs.Moments.{PlantState}
use Rattle.crash_plant.specs.Calls.{SameSite}
use Rattle.xrc_journal.specs.Items.{Form, AreItems, body_spelling, form_of, is_within}
use Rattle.xrc_journal.specs.Records.{record_header_spelling, group_spelling, most_body}
use Rattle.xrc_journal.specs.Walks.{Logged}
use Rattle.xrc_journal.specs.Laws.{HasRecordAt, MayStand}
use Rattle.xrc_journal.specs.Appending.{PutsRecord}

zero_is_not : (n : ℕ) → n ≡ 0 → n ≢ 1
zero_is_not n e = omega (arith, e)

-- the byte after a front that stands at a place
byte_after : (place : ℕ) (c front rest : List ℕ) (n : ℕ) → drop place c ≡ front ++ rest → n ≡ place + length front → slice_index c n ≡ slice_index rest 0
byte_after place c front rest n is end =
    let whole : n ≡ place + (length front + 0) = omega (arith, end) in
    ap (λ (k : ℕ). slice_index c k) whole ∙ sym (get_or-drop place c (length front + 0) 0) ∙ ap (λ (l : List ℕ). slice_index l (length front + 0)) is ∙ get_or-append-add front rest 0 0

-- a group that may be put at a spot with room, where its time isn't below that of the record before
pub record MayPut (form : Form) (at : Spot) (g : Logged) : Type 0 where
  pub keep : AreItems form g.items
  pub short : length (body_spelling g.items) ≤ most_body
  pub number : at.number < 2 ^ 64 - 1
  pub stamp : g.time < 2 ^ 64

module _ (at : Spot) (g : Logged) where
  -- what is put behind the gate
  abbrev pub behind_gate : List ℕ
  behind_gate = group_spelling at.number g.time g.items ++ 0 ∷ []

  pub after_length : length behind_gate ≡ length (body_spelling g.items) + 22
  after_length = omega (arith, length-append (group_spelling at.number g.time g.items) (0 ∷ []), length-append (record_header_spelling 1 at.number g.time (length (body_spelling g.items))) (body_spelling g.items))

  pub range_torn : (b c : List ℕ) → Torn at.place (1 + length behind_gate) b c → Torn at.place (length (body_spelling g.items) + 23) b c
  range_torn b c torn = subst (λ (n : ℕ). Torn at.place n b c) (omega (arith, after_length)) torn

  module _ (c : List ℕ) (stands : HasRecordAt at.place behind_gate c) where
    all : drop at.place c ≡ (1 ∷ group_spelling at.number g.time g.items) ++ 0 ∷ stands.0
    all = stands.1 ∙ ap (λ (l : List ℕ). 1 ∷ l) (append_assoc (group_spelling at.number g.time g.items) (0 ∷ []) stands.0)

    pub group_stands : HasRecordAt at.place (group_spelling at.number g.time g.items) c
    group_stands = (0 ∷ stands.0, all)

    pub next_shut : slice_index c (at.place + 22 + length (body_spelling g.items)) ≢ 1
    next_shut = zero_is_not _ (byte_after at.place c (1 ∷ group_spelling at.number g.time g.items) (0 ∷ stands.0) (at.place + 22 + length (body_spelling g.items)) all
        (omega (arith, length-append (record_header_spelling 1 at.number g.time (length (body_spelling g.items))) (body_spelling g.items))))

  module _ (form : Form) (may : MayPut form at g) (size : ℕ) (b c : List ℕ) (puts : PutsRecord size (22 + length (body_spelling g.items) + 24) at.place behind_gate b c) (gate : slice_index c at.place ≡ 1) where
    pub may_stand : (time : ℕ) → time ≤ g.time → MayStand form (length c) at time g.time g.items
    may_stand time later = record { keep = may.keep; short = may.short; room = omega (arith, puts.room gate, puts.long gate); number = may.number; later = later; stamp = may.stamp }

-- ---- the form of items after it

pub same_form : (old new : PlantState) → SameSite old new → form_of new ≡ form_of old
same_form old new same = λ i. record { deltas = false; has_slot = λ device track. nat_lt device (same.volumes i) && is_within (same.lengths (Volume device) i) track }
