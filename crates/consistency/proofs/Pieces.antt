-- The lines and times of texts that stand one after another.
use Rattle.std.proofs.Common.{◌≡◌, ℕ, ◌≤◌, Bool, true, false, cond, nat_eq, List, [], ◌∷◌, ◌++◌, length, refl, sym, ap, subst, ◌∙◌, append_assoc, append-nil}
use Rattle.std.specs.Prelude.{All}
use Rattle.std.specs.List.{flat_map, list_any}
use Rattle.std.proofs.lemmas.Bool.{or_parts}
use Rattle.std.proofs.lemmas.List.{take_at}
use Rattle.std.proofs.lemmas.List.Concat.{flat_map-append}
use Rattle.std.proofs.lemmas.List.Elements.{All-take}
use Rattle.consistency.specs.Moments.{AreUpTo}
use Rattle.consistency.specs.Times.{AreWhole, ended_pieces, times_in_line, times_said, unended, whole_lines}

-- The pieces of two texts are those of the first, and of the second after what the first leaves.
pub pieces_append : (s : ℕ) (read a b : List ℕ) → ended_pieces s read (a ++ b) ≡ ended_pieces s read a ++ ended_pieces s (unended s read a) b
pieces_append s read [] b = refl
pieces_append s read (x ∷ a) b = choose (nat_eq x s) (pieces_append s [] a b) (pieces_append s (read ++ x ∷ []) a b)
  where
    choose : (t : Bool) → ended_pieces s [] (a ++ b) ≡ ended_pieces s [] a ++ ended_pieces s (unended s [] a) b
        → ended_pieces s (read ++ x ∷ []) (a ++ b) ≡ ended_pieces s (read ++ x ∷ []) a ++ ended_pieces s (unended s (read ++ x ∷ []) a) b
        → cond t (read ∷ ended_pieces s [] (a ++ b)) (ended_pieces s (read ++ x ∷ []) (a ++ b))
        ≡ cond t (read ∷ ended_pieces s [] a) (ended_pieces s (read ++ x ∷ []) a) ++ ended_pieces s (cond t (unended s [] a) (unended s (read ++ x ∷ []) a)) b
    choose true ended on = ap (λ (l : List (List ℕ)). read ∷ l) ended
    choose false ended on = on

pub unended_append : (s : ℕ) (read a b : List ℕ) → unended s read (a ++ b) ≡ unended s (unended s read a) b
unended_append s read [] b = refl
unended_append s read (x ∷ a) b = choose (nat_eq x s) (unended_append s [] a b) (unended_append s (read ++ x ∷ []) a b)
  where
    choose : (t : Bool) → unended s [] (a ++ b) ≡ unended s (unended s [] a) b → unended s (read ++ x ∷ []) (a ++ b) ≡ unended s (unended s (read ++ x ∷ []) a) b
        → cond t (unended s [] (a ++ b)) (unended s (read ++ x ∷ []) (a ++ b)) ≡ unended s (cond t (unended s [] a) (unended s (read ++ x ∷ []) a)) b
    choose true ended on = ended
    choose false ended on = on

-- A text without the separator has no piece.
pub no_pieces : (s : ℕ) (read text : List ℕ) → list_any (λ b. nat_eq b s) text ≡ false → (ended_pieces s read text ≡ []) × (unended s read text ≡ read ++ text)
no_pieces s read [] none = (refl, sym (append-nil read))
no_pieces s read (x ∷ text) none =
    let parts = or_parts (nat_eq x s) (list_any (λ b. nat_eq b s) text) none in
    let rest = no_pieces s (read ++ x ∷ []) text parts.1 in
    (rw parts.0 rest.0, rw parts.0 (rest.1 ∙ append_assoc read (x ∷ []) text))

-- ---- whole lines

-- After whole lines a text has its own lines.
pub lines_append : (a b : List ℕ) → AreWhole a → whole_lines (a ++ b) ≡ whole_lines a ++ whole_lines b
lines_append a b whole = pieces_append 10 [] a b ∙ ap (λ (r : List ℕ). ended_pieces 10 [] a ++ ended_pieces 10 r b) whole

-- Whole lines after whole lines are whole.
pub whole_append : (a b : List ℕ) → AreWhole a → AreWhole b → AreWhole (a ++ b)
whole_append a b whole then = unended_append 10 [] a b ∙ ap (λ (r : List ℕ). unended 10 r b) whole ∙ then

-- What ends with a line feed is whole.
pub feed_whole : (a : List ℕ) → AreWhole (a ++ 10 ∷ [])
feed_whole a = unended_append 10 [] a (10 ∷ [])

-- The line that a line feed ends, after whole lines.
pub line_ended : (a line : List ℕ) → AreWhole a → list_any (λ b. nat_eq b 10) line ≡ false → whole_lines (a ++ line ++ 10 ∷ []) ≡ whole_lines a ++ line ∷ []
line_ended a line whole none =
    let own = no_pieces 10 [] line none in
    ap whole_lines (append_assoc a line (10 ∷ [])) ∙ lines_append a (line ++ 10 ∷ []) whole
    ∙ ap (λ (l : List (List ℕ)). whole_lines a ++ l) (pieces_append 10 [] line (10 ∷ []) ∙ ap (λ (l : List (List ℕ)). l ++ ended_pieces 10 (unended 10 [] line) (10 ∷ [])) own.0 ∙ ap (λ (r : List ℕ). ended_pieces 10 r (10 ∷ [])) own.1)

-- ---- times

-- The times that whole lines say, and then those that a text says after them.
pub times_append : (a b : List ℕ) → AreWhole a → times_said (a ++ b) ≡ times_said a ++ times_said b
times_append a b whole = ap (flat_map times_in_line) (lines_append a b whole) ∙ flat_map-append times_in_line (whole_lines a) (whole_lines b)

-- What the front of a list has in it.
all_front : (P : ℕ → Type 0) (xs ys : List ℕ) → All P (xs ++ ys) → All P xs
all_front P xs ys all = subst (λ (l : List ℕ). All P l) (take_at xs ys (length xs) refl) (All-take P (length xs) (xs ++ ys) all)

-- A front of a text says no other times than the text.
pub times_front : (time : ℕ) (a b : List ℕ) → AreUpTo time (times_said (a ++ b)) → AreUpTo time (times_said a)
times_front time a b all =
    all_front (λ z. z ≤ time) (times_said a) (flat_map times_in_line (ended_pieces 10 (unended 10 [] a) b))
    (subst (λ (l : List ℕ). All (λ z. z ≤ time) l) (ap (flat_map times_in_line) (pieces_append 10 [] a b) ∙ flat_map-append times_in_line (whole_lines a) (ended_pieces 10 (unended 10 [] a) b)) all)
