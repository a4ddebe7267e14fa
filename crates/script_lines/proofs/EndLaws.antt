-- A script has one next line, and the hearing of it one end.
use Rattle.std.proofs.Common.{◌≡◌, inl, inr, ℕ, zero, suc, ◌<◌, ◌≤◌, true, false, cond, nat_eq, List, [], ◌∷◌, ◌++◌, length, refl, sym, ap, subst, ◌∙◌, append_assoc, append-nil, arith}
use Rattle.std.proofs.lemmas.Bool.{or_parts, or_right}
use Rattle.std.proofs.lemmas.List.{length_push}
use Rattle.script_lines.specs.declared.line_end.LineEnd.{LineEnd}
use Rattle.script_lines.specs.declared.line_end.LineEnd.TheVariants.{Nothing, TooLong, Whole}
use Rattle.script_lines.specs.Texts.{IsFed, has_feed, IsNothing, IsTooLong, IsWhole}

-- How a hearing ended that didn't fail, by what was heard and what is left.
abbrev pub Ends : LineEnd → (text left : List ℕ) → Type 0
Ends Whole text left = IsWhole (Unit {0}) text left
Ends TooLong text left = IsTooLong text
Ends Nothing text left = IsNothing (Unit {0}) text left

-- ---- the next line of a script

-- what is heard of a script up to a line feed, or so many bytes
next_text : (most : ℕ) → (script : List ℕ) → List ℕ
next_text zero script = []
next_text (suc n) [] = []
next_text (suc n) (b ∷ script) = cond (nat_eq b 10) (b ∷ []) (b ∷ next_text n script)

-- It is a line and its line feed,
fed_is : (n : ℕ) (line left : List ℕ) → length line < n → has_feed line ≡ false → next_text n (line ++ 10 ∷ left) ≡ line ++ 10 ∷ []
unfolding next_text
fed_is zero line left short none = absurd (omega (arith, short))
fed_is (suc n) [] left short none = refl
fed_is (suc n) (b ∷ line) left short none = let parts = or_parts (nat_eq b 10) (has_feed line) none in rw parts.0 (ap (λ (l : List ℕ). b ∷ l) (fed_is n line left (omega (arith, short)) parts.1))

-- or all that is left,
last_is : (n : ℕ) (text : List ℕ) → length text ≤ n → has_feed text ≡ false → next_text n text ≡ text
unfolding next_text
last_is zero [] short none = refl
last_is zero (b ∷ text) short none = absurd (omega (arith, short))
last_is (suc n) [] short none = refl
last_is (suc n) (b ∷ text) short none = let parts = or_parts (nat_eq b 10) (has_feed text) none in rw parts.0 (ap (λ (l : List ℕ). b ∷ l) (last_is n text (omega (arith, short)) parts.1))

-- or so many bytes.
long_is : (n : ℕ) (text left : List ℕ) → length text ≡ n → has_feed text ≡ false → next_text n (text ++ left) ≡ text
unfolding next_text
long_is zero [] left size none = refl
long_is zero (b ∷ text) left size none = absurd (omega (arith, size))
long_is (suc n) [] left size none = absurd (omega (arith, size))
long_is (suc n) (b ∷ text) left size none = let parts = or_parts (nat_eq b 10) (has_feed text) none in rw parts.0 (ap (λ (l : List ℕ). b ∷ l) (long_is n text left (omega (arith, size)) parts.1))

-- However a hearing ended, what was heard is the next line.
ends_next : (n : ℕ) → n ≡ 257 → (end : LineEnd) (text left : List ℕ) → Ends end text left → next_text n (text ++ left) ≡ text
ends_next n is Whole text left (inl fed) =
    ap (λ (l : List ℕ). next_text n (l ++ left)) fed.text_is ∙ ap (next_text n) (append_assoc fed.line (10 ∷ []) left) ∙ fed_is n fed.line left (omega (arith, is, fed.front.short)) fed.front.no_feed ∙ sym fed.text_is
ends_next n is Whole text left (inr last) =
    ap (λ (l : List ℕ). next_text n (text ++ l)) (last.at_end tt) ∙ ap (next_text n) (append-nil text) ∙ last_is n text (omega (arith, is, last.front.short)) last.front.no_feed
ends_next n is TooLong text left long = long_is n text left (long.size ∙ sym is) long.no_feed
ends_next n is Nothing text left nothing =
    ap (λ (l : List ℕ). next_text n (text ++ l)) (nothing.at_end tt) ∙ ap (next_text n) (append-nil text ∙ nothing.text_is) ∙ last_is n [] (omega arith) refl ∙ sym nothing.text_is

-- ---- its end

-- A line with its line feed has one, so that it is neither too long nor nothing.
has_its_feed : (line : List ℕ) → has_feed (line ++ 10 ∷ []) ≡ true
has_its_feed [] = refl
has_its_feed (b ∷ line) = or_right (nat_eq b 10) (has_feed (line ++ 10 ∷ [])) (has_its_feed line)

pub fed_has : (text : List ℕ) → IsFed text → has_feed text ≡ true
fed_has text fed = ap has_feed fed.text_is ∙ has_its_feed fed.line

whole_long : (text left : List ℕ) → Ends Whole text left → (rest : List ℕ) → Ends TooLong text rest → ⊥
whole_long text left (inl fed) rest long = let some = fed_has text fed in cc (some, long.no_feed)
whole_long text left (inr last) rest long = omega (arith, last.front.short, long.size)

whole_nothing : (text left : List ℕ) → Ends Whole text left → (rest : List ℕ) → Ends Nothing text rest → ⊥
whole_nothing text left (inl fed) rest nothing = omega (arith, ap length (sym fed.text_is ∙ nothing.text_is), length_push fed.line 10)
whole_nothing text left (inr last) rest nothing = omega (arith, last.some, ap length nothing.text_is)

long_nothing : (text left : List ℕ) → Ends TooLong text left → (rest : List ℕ) → Ends Nothing text rest → ⊥
long_nothing text left long rest nothing = omega (arith, long.size, ap length nothing.text_is)

same_end : (x y : LineEnd) (text left rest : List ℕ) → Ends x text left → Ends y text rest → x ≡ y
same_end Whole Whole text left rest e f = refl
same_end Whole TooLong text left rest e f = absurd (whole_long text left e rest f)
same_end Whole Nothing text left rest e f = absurd (whole_nothing text left e rest f)
same_end TooLong Whole text left rest e f = absurd (whole_long text rest f left e)
same_end TooLong TooLong text left rest e f = refl
same_end TooLong Nothing text left rest e f = absurd (long_nothing text left e rest f)
same_end Nothing Whole text left rest e f = absurd (whole_nothing text rest f left e)
same_end Nothing TooLong text left rest e f = absurd (long_nothing text rest f left e)
same_end Nothing Nothing text left rest e f = refl

-- Both are the same for the same script.
pub told_apart : (script text other left rest : List ℕ) (x y : LineEnd) → script ≡ text ++ left → script ≡ other ++ rest → Ends x text left → Ends y other rest → (x ≡ y) × (text ≡ other)
told_apart script a b left rest x y first second e f =
    let same : a ≡ b = sym (ends_next 257 refl x a left e) ∙ ap (next_text 257) (sym first ∙ second) ∙ ends_next 257 refl y b rest f in
    (same_end x y b left rest (subst (λ (l : List ℕ). Ends x l left) same e) f, same)
