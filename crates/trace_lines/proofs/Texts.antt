-- The first piece of a text, and those after it.
use Rattle.std.proofs.Common.{◌≡◌, ℕ, suc, ◌+◌, ◌<◌, Bool, true, false, cond, not, nat_eq, List, [], ◌∷◌, ◌++◌, length, take, drop, Some, None, refl, sym, ap, ◌∙◌, length-drop, arith}
use Rattle.std.specs.List.{position_or_len}
use Rattle.ckd_track.specs.declared.rec.Rec.{Rec}
use Rattle.ckd_track.specs.Tracks.{is_track}
use Rattle.trace_lines.specs.Pieces.{first_piece, after_piece, with_front, pieces_of}
use Rattle.trace_lines.specs.Lines.{first_word, after_word, words_of, record_in, records_from, track_from}

-- a number that goes one further in a list with one byte more
front_of : (n byte : ℕ) (text : List ℕ) → take (1 + n) (byte ∷ text) ≡ byte ∷ take n text
front_of n byte text = let next : 1 + n ≡ suc n = omega arith in ap (λ (k : ℕ). take k (byte ∷ text)) next

back_of : (n byte : ℕ) (text : List ℕ) → drop (1 + n + 1) (byte ∷ text) ≡ drop (n + 1) text
back_of n byte text = let next : 1 + n + 1 ≡ suc (n + 1) = omega arith in ap (λ (k : ℕ). drop k (byte ∷ text)) next

-- A byte before a text parts it at once, or else goes to the front of its first piece.
in_front : (parting byte n : ℕ) (text : List ℕ) (parts : Bool) → pieces_of parting text ≡ take n text ∷ pieces_of parting (drop (n + 1) text)
    → cond parts ([] ∷ pieces_of parting text) (with_front byte (pieces_of parting text)) ≡ take (cond (not parts) (1 + n) 0) (byte ∷ text) ∷ pieces_of parting (drop (cond (not parts) (1 + n) 0 + 1) (byte ∷ text))
in_front parting byte n text true others = refl
in_front parting byte n text false others =
    let front = ap (λ (piece : List ℕ). piece ∷ pieces_of parting (drop (1 + n + 1) (byte ∷ text))) (front_of n byte text) in
    let back = ap (λ (rest : List ℕ). (byte ∷ take n text) ∷ pieces_of parting rest) (back_of n byte text) in
    ap (with_front byte) others ∙ sym (front ∙ back)

last_piece : (parting byte : ℕ) (parts : Bool) → cond parts ([] ∷ pieces_of parting []) (with_front byte (pieces_of parting [])) ≡ take (cond (not parts) (1 + 0) 0) (byte ∷ []) ∷ pieces_of parting (drop (cond (not parts) (1 + 0) 0 + 1) (byte ∷ []))
unfolding pieces_of
last_piece parting byte true = refl
last_piece parting byte false = refl

pieces_cons : (parting byte : ℕ) (text : List ℕ) → pieces_of parting (byte ∷ text) ≡ first_piece parting (byte ∷ text) ∷ pieces_of parting (after_piece parting (byte ∷ text))
unfolding pieces_of
pieces_cons parting byte [] = last_piece parting byte (nat_eq byte parting)
pieces_cons parting byte (next ∷ text) = in_front parting byte (position_or_len (λ byte. nat_eq byte parting) (next ∷ text)) (next ∷ text) (nat_eq byte parting) (pieces_cons parting next text)

-- The pieces are the first one and those of what follows it.
pub first_of_pieces : (parting : ℕ) (text : List ℕ) → 0 < length text → pieces_of parting text ≡ first_piece parting text ∷ pieces_of parting (after_piece parting text)
first_of_pieces parting [] some = absurd (omega (arith, some))
first_of_pieces parting (byte ∷ text) some = pieces_cons parting byte text

-- What follows is shorter.
pub rest_is_shorter : (parting : ℕ) (text : List ℕ) → 0 < length text → length (after_piece parting text) < length text
rest_is_shorter parting text some = omega (arith, some, length-drop (position_or_len (λ byte. nat_eq byte parting) text + 1) text)

pub no_pieces : (parting : ℕ) (text : List ℕ) → length text ≡ 0 → pieces_of parting text ≡ []
unfolding pieces_of
no_pieces parting [] none = refl
no_pieces parting (byte ∷ text) none = absurd (omega (arith, none))

-- ---- records

pub records_step : (recs : List Rec) (text : List ℕ) (rec : Rec) → 0 < length text → record_in (first_word text) ≡ Some rec → records_from recs (words_of text) ≡ records_from (recs ++ rec ∷ []) (words_of (after_word text))
records_step recs text rec some found = rw (first_of_pieces 32 text some, found) refl

pub records_stop : (recs : List Rec) (text : List ℕ) → 0 < length text → record_in (first_word text) ≡ None → records_from recs (words_of text) ≡ None
records_stop recs text some found = rw (first_of_pieces 32 text some, found) refl

pub records_end : (recs : List Rec) (text : List ℕ) → length text ≡ 0 → records_from recs (words_of text) ≡ Some recs
records_end recs text none = rw (no_pieces 32 text none) refl

pub track_step : (recs : List Rec) (text : List ℕ) (rec : Rec) → 0 < length text → record_in (first_word text) ≡ Some rec → is_track (recs ++ rec ∷ []) ≡ true → track_from recs (words_of text) ≡ track_from (recs ++ rec ∷ []) (words_of (after_word text))
track_step recs text rec some found fits = rw (first_of_pieces 32 text some, found, fits) refl

pub track_stop : (recs : List Rec) (text : List ℕ) → 0 < length text → record_in (first_word text) ≡ None → track_from recs (words_of text) ≡ None
track_stop recs text some found = rw (first_of_pieces 32 text some, found) refl

pub track_full : (recs : List Rec) (text : List ℕ) (rec : Rec) → 0 < length text → record_in (first_word text) ≡ Some rec → is_track (recs ++ rec ∷ []) ≡ false → track_from recs (words_of text) ≡ None
track_full recs text rec some found fits = rw (first_of_pieces 32 text some, found, fits) refl

pub track_end : (recs : List Rec) (text : List ℕ) → length text ≡ 0 → track_from recs (words_of text) ≡ Some recs
track_end recs text none = rw (no_pieces 32 text none) refl
