-- The operands: what is read is spelled so, and what is spelled is read.
use Rattle.std.proofs.Common.{◌≡◌, ℕ, ◌⊎◌, Bool, true, false, ◌&&◌, ◌||◌, List, [], ◌∷◌, ◌++◌, length, Option, Some, None, refl, sym, ap, subst, ◌∙◌, append_assoc, append-nil, inl, inr}
use Rattle.std.specs.Prelude.{bytes_eq, codes}
use Rattle.std.specs.List.{list_all}
use Rattle.std.proofs.lemmas.Bool.{cases_Bool}
use Rattle.std.proofs.lemmas.Slice.Eq.{bytes_eq-Decides}
use Rattle.tod_stamp.specs.Names.{is_name_char, is_serial}
use Rattle.tod_stamp.specs.Fields.{within}
use Rattle.tod_stamp.proofs.NameLaws.{both_true, and_true}
use Rattle.pair_table.specs.declared.command.Choice.{Choice}
use Rattle.pair_table.specs.declared.command.Choice.TheVariants.{One, All}
use Rattle.pair_table.specs.declared.level.Level.{Level}
use Rattle.pair_table.specs.declared.level.Level.TheVariants.{Volume, Session, Group}
use Rattle.pair_table.specs.Rows.{is_group}
use Rattle.xrc_command.specs.Lines.{level_text, pair_text, choice_text, group_text, names_serials}
use Rattle.xrc_command.specs.Reading.{text_at, split_at, serial_of, both_serials, level_of, pair_then, pair_of, pair_group, grouped_pair_of, choice_of}
use Rattle.xrc_command.proofs.PartReading.{bind_some, map_some, allow_some, first_or, text_takes, text_again, split_takes, split_again, serial_takes, serial_again}

-- ---- levels

abbrev pub level_operand : Level → List ℕ
level_operand level = codes " ERRORLEVEL(" ++ level_text level ++ codes ")"

abbrev pub IsLevelOperand : (level : Level) (operand : List ℕ) → Type 0
IsLevelOperand level operand = (operand ≡ level_operand level) ⊎ ((level ≡ Volume) × (operand ≡ []))

pub level_takes : (operand : List ℕ) (level : Level) → level_of operand ≡ Some level → IsLevelOperand level operand
level_takes operand level e =
    first_or (bytes_eq operand [] || bytes_eq operand (level_operand Volume)) _ _ level e
    (λ is r. let same : Volume ≡ level = cc in subst (λ l. IsLevelOperand l operand) same (by_volume (bytes_eq operand []) refl is))
    (λ r. first_or (bytes_eq operand (level_operand Session)) _ _ level r
    (λ is s. let same : Session ≡ level = cc in subst (λ l. IsLevelOperand l operand) same (inl ((bytes_eq-Decides operand (level_operand Session)).0 is)))
    (λ s. let found = allow_some (bytes_eq operand (level_operand Group)) (Some Group) level s in
    let same : Group ≡ level = (let h = found.1 in cc) in
    subst (λ l. IsLevelOperand l operand) same (inl ((bytes_eq-Decides operand (level_operand Group)).0 found.0))))
  where
    by_volume : (b : Bool) → bytes_eq operand [] ≡ b → (b || bytes_eq operand (level_operand Volume)) ≡ true → IsLevelOperand Volume operand
    by_volume true none is = inr (refl, (bytes_eq-Decides operand []).0 none)
    by_volume false some is = inl ((bytes_eq-Decides operand (level_operand Volume)).0 is)

-- ---- pairs

abbrev pub choice_operand : Choice → List ℕ
choice_operand choice = codes " VOLUME(" ++ choice_text choice ++ codes ")"

serials_take : (primary secondary : List ℕ) (pair : List ℕ × List ℕ) → both_serials primary secondary ≡ Some pair
    → (primary ≡ pair.0) × (secondary ≡ pair.1) × ((is_serial pair.0 && is_serial pair.1) ≡ true)
serials_take primary secondary pair e =
    let one = bind_some (serial_of primary) _ pair e in
    let two = bind_some (serial_of secondary) _ pair one.2 in
    let last : (one.0, two.0) ≡ pair = (let h = two.2 in cc) in
    let first = serial_takes primary one.0 one.1 in
    let second = serial_takes secondary two.0 two.1 in
    subst (λ (p : List ℕ × List ℕ). (primary ≡ p.0) × (secondary ≡ p.1) × ((is_serial p.0 && is_serial p.1) ≡ true)) last
    (sym first.0, sym second.0, and_true (is_serial one.0) (is_serial two.0) first.1 second.1)

-- the parts one after another
joined : (operand names primary after-primary secondary rest p s : List ℕ)
    → operand ≡ codes " VOLUME(" ++ names → names ≡ primary ++ 44 ∷ after-primary → after-primary ≡ secondary ++ 41 ∷ rest
    → primary ≡ p → secondary ≡ s → operand ≡ codes " VOLUME(" ++ (p ++ 44 ∷ (s ++ 41 ∷ rest))
joined operand names primary after-primary secondary rest p s e1 e2 e3 e4 e5 = rw (e1, e2, e3, e4, e5) refl

grouped : (p s rest : List ℕ) → p ++ 44 ∷ (s ++ 41 ∷ rest) ≡ (pair_text p s ++ codes ")") ++ rest
grouped p s rest = sym (append_assoc (pair_text p s) (codes ")") rest ∙ append_assoc (p ++ codes ",") s (codes ")" ++ rest) ∙ append_assoc p (codes ",") (s ++ (codes ")" ++ rest)))

-- a pair's text at the front of an operand
abbrev pub IsPairThen : (operand : List ℕ) (found : (List ℕ × List ℕ) × List ℕ) → Type 0
IsPairThen operand found = (operand ≡ choice_operand (One found.0.0 found.0.1) ++ found.1) × ((is_serial found.0.0 && is_serial found.0.1) ≡ true)

pub then_takes : (operand : List ℕ) (found : (List ℕ × List ℕ) × List ℕ) → pair_then operand ≡ Some found → IsPairThen operand found
unfolding pair_then
then_takes operand found e =
    let one = bind_some (text_at (codes " VOLUME(") operand) _ found e in
    let two = bind_some (split_at 44 one.0) _ found one.2 in
    let three = bind_some (split_at 41 two.0.1) _ found two.2 in
    let four = bind_some (both_serials two.0.0 three.0.0) _ found three.2 in
    let last : (four.0, three.0.1) ≡ found = (let h = four.2 in cc) in
    let five = serials_take two.0.0 three.0.0 four.0 four.1 in
    subst (λ (f : (List ℕ × List ℕ) × List ℕ). IsPairThen operand f) last (
      joined operand one.0 two.0.0 two.0.1 three.0.0 three.0.1 four.0.0 four.0.1
          (text_takes (codes " VOLUME(") operand one.0 one.1) (split_takes 44 one.0 two.0.0 two.0.1 two.1) (split_takes 41 two.0.1 three.0.0 three.0.1 three.1) five.0 five.1
          ∙ ap (λ (t : List ℕ). codes " VOLUME(" ++ t) (grouped four.0.0 four.0.1 three.0.1),
      five.2,
    )

pub then_again : (primary secondary rest : List ℕ) → (is_serial primary && is_serial secondary) ≡ true → pair_then (choice_operand (One primary secondary) ++ rest) ≡ Some ((primary, secondary), rest)
unfolding pair_then
then_again primary secondary rest e =
    let both = both_true (is_serial primary) (is_serial secondary) e in
    let first = both_true (within 1 6 (length primary)) (list_all is_name_char primary) both.0 in
    let second = both_true (within 1 6 (length secondary)) (list_all is_name_char secondary) both.1 in
    let flat : pair_then (codes " VOLUME(" ++ (primary ++ 44 ∷ (secondary ++ 41 ∷ rest))) ≡ Some ((primary, secondary), rest) =
    rw (
      text_again (codes " VOLUME(") (primary ++ 44 ∷ (secondary ++ 41 ∷ rest)),
      split_again 44 primary (secondary ++ 41 ∷ rest) first.1 refl,
      split_again 41 secondary rest second.1 refl,
      serial_again primary both.0,
      serial_again secondary both.1,
    ) refl in
    subst (λ (t : List ℕ). pair_then (codes " VOLUME(" ++ t) ≡ Some ((primary, secondary), rest)) (grouped primary secondary rest) flat

pub pair_takes : (operand : List ℕ) (pair : List ℕ × List ℕ) → pair_of operand ≡ Some pair
    → (operand ≡ choice_operand (One pair.0 pair.1)) × ((is_serial pair.0 && is_serial pair.1) ≡ true)
pair_takes operand pair e =
    let one = bind_some (pair_then operand) _ pair e in
    let two = allow_some (bytes_eq one.0.1 []) (Some one.0.0) pair one.2 in
    let same : one.0.0 ≡ pair = (let h = two.1 in cc) in
    let none = (bytes_eq-Decides one.0.1 []).0 two.0 in
    let took = then_takes operand one.0 one.1 in
    let front = choice_operand (One one.0.0.0 one.0.0.1) in
    subst (λ (p : List ℕ × List ℕ). (operand ≡ choice_operand (One p.0 p.1)) × ((is_serial p.0 && is_serial p.1) ≡ true)) same
    (took.0 ∙ ap (λ (t : List ℕ). front ++ t) none ∙ append-nil front, took.1)

pub pair_again : (primary secondary : List ℕ) → (is_serial primary && is_serial secondary) ≡ true → pair_of (choice_operand (One primary secondary)) ≡ Some (primary, secondary)
pair_again primary secondary e =
    ap (λ (t : List ℕ). pair_of t) (sym (append-nil (choice_operand (One primary secondary)))) ∙ rw (then_again primary secondary [] e) refl

-- ---- groups

pub group_takes : (rest : List ℕ) (group : Option (List ℕ)) → pair_group rest ≡ Some group → (rest ≡ group_text group) × (is_group group ≡ true)
unfolding pair_group
group_takes rest group e =
    first_or (bytes_eq rest []) _ _ group e (λ is r. without ((bytes_eq-Decides rest []).0 is) r)
    (λ r. let one = bind_some (text_at (codes " GROUP(") rest) _ group r in
    let two = bind_some (split_at 41 one.0) _ group one.2 in
    let three = bind_some (serial_of two.0.0) _ group two.2 in
    let four = allow_some (bytes_eq two.0.1 []) (Some (Some three.0)) group three.2 in
    let name = serial_takes two.0.0 three.0 three.1 in
    let end = (bytes_eq-Decides two.0.1 []).0 four.0 in
    let same : Some three.0 ≡ group = (let h = four.1 in cc) in
    let whole : rest ≡ codes " GROUP(" ++ (three.0 ++ 41 ∷ []) =
    text_takes (codes " GROUP(") rest one.0 one.1 ∙ ap (λ (t : List ℕ). codes " GROUP(" ++ t) (split_takes 41 one.0 two.0.0 two.0.1 two.1 ∙ (λ i. sym name.0 i ++ 41 ∷ end i)) in
    subst (λ (g : Option (List ℕ)). (rest ≡ group_text g) × (is_group g ≡ true)) same (whole, name.1))
  where
    without : rest ≡ [] → Some None ≡ Some group → (rest ≡ group_text group) × (is_group group ≡ true)
    without none r = let same : None ≡ group = cc in subst (λ (g : Option (List ℕ)). (rest ≡ group_text g) × (is_group g ≡ true)) same (none, refl)

pub group_again : (group : Option (List ℕ)) → is_group group ≡ true → pair_group (group_text group) ≡ Some group
unfolding pair_group
group_again None e = refl
group_again (Some name) e =
    let chars = both_true (within 1 6 (length name)) (list_all is_name_char name) e in
    let flat : pair_group (codes " GROUP(" ++ (name ++ 41 ∷ [])) ≡ Some (Some name) =
    rw (text_again (codes " GROUP(") (name ++ 41 ∷ []), split_again 41 name [] chars.1 refl, serial_again name e) refl in
    flat

-- the operand of a pair with its group
abbrev pub grouped_operand : (primary secondary : List ℕ) (group : Option (List ℕ)) → List ℕ
grouped_operand primary secondary group = choice_operand (One primary secondary) ++ group_text group

-- what is read as a pair and its group
pub record IsGroupedPair (operand : List ℕ) (found : (List ℕ × List ℕ) × Option (List ℕ)) : Type 0 where
  pub spelled : operand ≡ grouped_operand found.0.0 found.0.1 found.1
  pub serials : (is_serial found.0.0 && is_serial found.0.1 && is_group found.1) ≡ true

pub grouped_takes : (operand : List ℕ) (found : (List ℕ × List ℕ) × Option (List ℕ)) → grouped_pair_of operand ≡ Some found → IsGroupedPair operand found
grouped_takes operand found e =
    let one = bind_some (pair_then operand) _ found e in
    let two = bind_some (pair_group one.0.1) _ found one.2 in
    let last : (one.0.0, two.0) ≡ found = (let h = two.2 in cc) in
    let pair = then_takes operand one.0 one.1 in
    let group = group_takes one.0.1 two.0 two.1 in
    subst (λ (f : (List ℕ × List ℕ) × Option (List ℕ)). IsGroupedPair operand f) last (record {
      spelled = pair.0 ∙ ap (λ (t : List ℕ). choice_operand (One one.0.0.0 one.0.0.1) ++ t) group.0;
      serials = and_true (is_serial one.0.0.0 && is_serial one.0.0.1) (is_group two.0) pair.1 group.1;
    })

pub grouped_again : (primary secondary : List ℕ) (group : Option (List ℕ)) → (is_serial primary && is_serial secondary && is_group group) ≡ true
    → grouped_pair_of (grouped_operand primary secondary group) ≡ Some ((primary, secondary), group)
grouped_again primary secondary group e =
    let both = both_true (is_serial primary && is_serial secondary) (is_group group) e in
    rw (then_again primary secondary (group_text group) both.0, group_again group both.1) refl

-- ---- choices

-- ALL alone is no pair
no_pair : pair_of (choice_operand All) ≡ None
unfolding pair_then text_at split_at
no_pair = refl

pub choice_takes : (operand : List ℕ) (choice : Choice) → choice_of operand ≡ Some choice → (operand ≡ choice_operand choice) × (names_serials choice ≡ true)
choice_takes operand choice e =
    first_or (bytes_eq operand (choice_operand All)) _ _ choice e
    (λ is r. let same : All ≡ choice = cc in
    subst (λ c. (operand ≡ choice_operand c) × (names_serials c ≡ true)) same ((bytes_eq-Decides operand (choice_operand All)).0 is, refl))
    (λ r. let found = map_some (λ (pair : List ℕ × List ℕ). One pair.0 pair.1) (pair_of operand) choice r in
    subst (λ c. (operand ≡ choice_operand c) × (names_serials c ≡ true)) found.2 (pair_takes operand found.0 found.1))

pub choice_again : (choice : Choice) → names_serials choice ≡ true → choice_of (choice_operand choice) ≡ Some choice
choice_again All e = refl
choice_again (One primary secondary) e =
    let pair = pair_again primary secondary e in
    elim (cases_Bool (bytes_eq (choice_operand (One primary secondary)) (choice_operand All))) [
      | inl same ↦
          let is = (bytes_eq-Decides (choice_operand (One primary secondary)) (choice_operand All)).0 same in
          absurd (clash (sym pair ∙ ap (λ (t : List ℕ). pair_of t) is ∙ no_pair))
      | inr other ↦ rw (other, pair) refl
    ]
  where
    clash : ◌≡◌ {A = Option (List ℕ × List ℕ)} (Some (primary, secondary)) None → ⊥
    clash e = cc
