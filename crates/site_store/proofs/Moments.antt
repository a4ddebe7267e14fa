-- How many deeds are done at each moment.
use Rattle.std.proofs.Common.{◌≡◌, ◌⊎◌, inl, inr, ℕ, zero, suc, ◌<◌, ◌≤◌, List, [], ◌∷◌, ◌++◌, length, take, Option, Some, None, sym, subst, ◌∙◌, arith, append-nil, append_assoc, length-append}
use Rattle.std.proofs.lemmas.Bool.{cases_lt}
use Rattle.std.proofs.lemmas.List.{take_all}
use Rattle.crash_plant.specs.Choices.{AtNow, Choice, IsChoice}
use Rattle.crash_plant.specs.Moments.{PlantState}
use Rattle.pair_table.specs.declared.row.PairRow.{PairRow}
use Rattle.passages.specs.Points.{GoesThrough, Throughout, last_point}
use Rattle.passages.proofs.InARow.{moments_rise, on_its_way}
use Rattle.record_rows.specs.Deeds.{Deed}
use Rattle.site_store.specs.DoneDeeds.{BeginsDeeds, GoesThroughDeeds, PassedDeed, points_of, with_next}
use Rattle.site_store.specs.Exceptions.{Exceptions}
use Rattle.site_store.specs.DeedLaws.{DeedsNeverGoBack, DoneDeedsHaveBegun, EachDeedHasItsMoment, FirstDeedsAreSeen, MoreDeedsMayFollow}
use Rattle.site_store.specs.Seeing.{SeesAfter}
use Rattle.site_store.proofs.Points.{last_some, points_first, take_first}

-- how many of these moments have come at a time, as far as they come in order
abbrev come : ℕ → List ℕ → ℕ
come t [] = 0
come t (m ∷ moments) = elim (cases_lt t m) [ inl early ↦ 0 | inr late ↦ suc (come t moments) ]

come_rises : (s t : ℕ) (moments : List ℕ) → s ≤ t → come s moments ≤ come t moments
come_rises s t [] le = omega arith
come_rises s t (m ∷ moments) le = by_side (come_rises s t moments le) (cases_lt s m) (cases_lt t m)
  where
    by_side : come s moments ≤ come t moments → (a : (s < m) ⊎ (m ≤ s)) (b : (t < m) ⊎ (m ≤ t)) → elim a [ inl early ↦ 0 | inr late ↦ suc (come s moments) ] ≤ elim b [ inl early ↦ 0 | inr late ↦ suc (come t moments) ]
    by_side rest (inl early) b = omega arith
    by_side rest (inr late) (inl early) = absurd (omega (arith, le, late, early))
    by_side rest (inr late) (inr then) = omega (arith, rest)

come_few : (t : ℕ) (moments : List ℕ) → come t moments ≤ length moments
come_few t [] = omega arith
come_few t (m ∷ moments) = by_side (come_few t moments) (cases_lt t m)
  where
    by_side : come t moments ≤ length moments → (a : (t < m) ⊎ (m ≤ t)) → elim a [ inl early ↦ 0 | inr late ↦ suc (come t moments) ] ≤ suc (length moments)
    by_side rest (inl early) = omega arith
    by_side rest (inr late) = omega (arith, rest)

module _ (C : Type 0) (left : ℕ → C → Type 0) (shows : List Deed → C → Type 0) where
  abbrev ShowsOr : List Deed → List Deed → ℕ → C → Type 0
  ShowsOr done deeds n c = shows (done ++ take n deeds) c ⊎ shows (done ++ take (suc n) deeds) c

  none_done : (done deeds : List Deed) (c : C) → shows done c ⊎ shows (done ++ take 1 deeds) c → ShowsOr done deeds 0 c
  none_done done deeds c (inl is) = inl (subst (λ (p : List Deed). shows p c) (sym (append-nil done)) is)
  none_done done deeds c (inr is) = inr is

  one_more : (done : List Deed) (deed : Deed) (deeds : List Deed) (n : ℕ) (c : C) → ShowsOr (done ++ deed ∷ []) deeds n c → ShowsOr done (deed ∷ deeds) (suc n) c
  one_more done deed deeds n c (inl is) = inl (subst (λ (p : List Deed). shows p c) (append_assoc done (deed ∷ []) (take n deeds)) is)
  one_more done deed deeds n c (inr is) = inr (subst (λ (p : List Deed). shows p c) (append_assoc done (deed ∷ []) (take (suc n) deeds)) is)

  -- A choice shows as many deeds as have come at its moment, or the next one too.
  pub shown_at : (from to : ℕ) (done : List Deed) (moments : List ℕ) (deeds : List Deed) → length moments ≤ length deeds → GoesThrough left shows from done (points_of done moments deeds) to (Some (done ++ with_next (length moments) deeds))
      → (t : ℕ) → from ≤ t → t ≤ to → (c : C) → left t c → ShowsOr done deeds (come t moments) c
  shown_at from to done [] deeds few goes t since within c has = none_done done deeds c (goes.1 t since within c has)
  shown_at from to done (m ∷ moments) [] few goes t since within c has = absurd (omega (arith, few))
  shown_at from to done (m ∷ moments) (deed ∷ deeds) few goes t since within c has =
      let here = done ++ deed ∷ [] in
      let rest = subst (λ (q : List Deed). GoesThrough left shows m here (points_of here moments deeds) to (Some q)) (sym (append_assoc done (deed ∷ []) (with_next (length moments) deeds))) goes.3 in
      by_side (λ late. shown_at m to here moments deeds (omega (arith, few)) rest t late within c has) (cases_lt t m)
    where
      by_side : (m ≤ t → ShowsOr (done ++ deed ∷ []) deeds (come t moments) c) → (a : (t < m) ⊎ (m ≤ t)) → ShowsOr done (deed ∷ deeds) (elim a [ inl early ↦ 0 | inr late ↦ suc (come t moments) ]) c
      by_side then (inl early) = none_done done (deed ∷ deeds) c (goes.1 t since (omega (arith, early)) c has)
      by_side then (inr late) = one_more done deed deeds (come t moments) c (then late)

  -- A deed that is done is shown by all at a moment of its own.
  pub own_moment : (from to : ℕ) (done : List Deed) (moments : List ℕ) (deeds : List Deed) (next : Option (List Deed)) (n : ℕ) → length moments ≡ length deeds → n < length deeds → GoesThrough left shows from done (points_of done moments deeds) to next
      → (t : ℕ) × (from ≤ t) × (t ≤ to) × Throughout left t t (shows (done ++ take (suc n) deeds))
  own_moment from to done moments [] next n each less goes = absurd (omega (arith, less))
  own_moment from to done [] (deed ∷ deeds) next n each less goes = absurd (omega (arith, each))
  own_moment from to done (m ∷ moments) (deed ∷ deeds) next zero each less goes =
      let here = done ++ deed ∷ [] in
      (m, goes.0, moments_rise (List Deed) Deed C left shows m to here (points_of here moments deeds) next goes.3, goes.2)
  own_moment from to done (m ∷ moments) (deed ∷ deeds) next (suc n) each less goes =
      let found = own_moment m to (done ++ deed ∷ []) moments deeds next n (omega (arith, each)) (omega (arith, less)) goes.3 in
      (found.0, omega (arith, goes.0, found.1), found.2, subst (λ (p : List Deed). Throughout left found.0 found.0 (shows p)) (append_assoc done (deed ∷ []) (take (suc n) deeds)) found.3)

  -- Others may be on their way where what shows the last point or the one, shows it or the other.
  pub other_next : (from to : ℕ) (done : List Deed) (points : List PassedDeed) (p q : List Deed) → ((c : C) → shows (last_point done points) c ⊎ shows p c → shows (last_point done points) c ⊎ shows q c)
      → GoesThrough left shows from done points to (Some p) → GoesThrough left shows from done points to (Some q)
  other_next from to done [] p q turn goes = (goes.0, λ t since within c has. turn c (goes.1 t since within c has))
  other_next from to done (n ∷ points) p q turn goes = (goes.0, goes.1, goes.2, other_next n.moment to n.point points p q turn goes.3)

pub never_back : (old new : PlantState) → DeedsNeverGoBack old new
never_back old new excepted rows deeds up begins = record {
  done = λ t. come t begins.moments;
  rises = λ s t le. come_rises s t begins.moments le;
  seen = λ t from to c has. shown_at Choice (IsChoice new) (SeesAfter old excepted rows) old.clock new.clock [] begins.moments deeds begins.few (begins.goes up) t from to c has;
}

pub first_seen : (old new : PlantState) → FirstDeedsAreSeen old new
first_seen old new excepted rows deeds up begins t from to c has =
    by_side (shown_at Choice (IsChoice new) (SeesAfter old excepted rows) old.clock new.clock [] begins.moments deeds begins.few (begins.goes up) t from to c has)
  where
    n : ℕ
    n = come t begins.moments

    few : n ≤ length deeds
    few = omega (arith, come_few t begins.moments, begins.few)

    by_size : SeesAfter old excepted rows (take (suc n) deeds) c → (n < length deeds) ⊎ (length deeds ≤ n) → (k : ℕ) × (k ≤ length deeds) × SeesAfter old excepted rows (take k deeds) c
    by_size is (inl more) = (suc n, omega (arith, more), is)
    by_size is (inr all) = (n, few, subst (λ (l : List Deed). SeesAfter old excepted rows l c) (take_all (suc n) deeds (omega (arith, all)) ∙ sym (take_all n deeds all)) is)

    by_side : SeesAfter old excepted rows (take n deeds) c ⊎ SeesAfter old excepted rows (take (suc n) deeds) c → (k : ℕ) × (k ≤ length deeds) × SeesAfter old excepted rows (take k deeds) c
    by_side (inl is) = (n, few, is)
    by_side (inr is) = by_size is (cases_lt n (length deeds))

pub has_its_moment : (old new : PlantState) → EachDeedHasItsMoment old new
has_its_moment old new excepted rows deeds n up does less =
    let found = own_moment Choice (IsChoice new) (SeesAfter old excepted rows) old.clock new.clock [] does.moments deeds None n does.each less (does.goes up) in
    (found.0, found.1, found.2, λ c has. found.3 found.0 (omega arith) (omega arith) c has)

pub have_begun : (old new : PlantState) → DoneDeedsHaveBegun old new
have_begun old new excepted rows deeds does = record {
  site = does.site;
  elapses = does.elapses;
  silent = does.silent;
  moments = does.moments;
  few = omega (arith, does.each);
  goes = λ up. on_its_way (List Deed) Deed Choice (IsChoice new) (SeesAfter old excepted rows) old.clock new.clock [] (with_next (length does.moments) deeds) (points_of [] does.moments deeds) (does.goes up);
  now = λ c has. inl (subst (λ (l : List Deed). SeesAfter old excepted rows l c) (sym (take_all (length does.moments) deeds (omega (arith, does.each)))) (does.now c has));
}

-- Deeds that begin may be the first of more.
module _ (old new : PlantState) (excepted : Exceptions) (rows : List PairRow) (a b : List Deed) (begins : BeginsDeeds excepted rows a old new) where
  abbrev n : ℕ
  n = length begins.moments

  abbrev Sees : List Deed → Choice → Type 0
  Sees done c = SeesAfter old excepted rows done c

  turn : (c : Choice) → Sees (take n a) c ⊎ Sees (with_next n a) c → Sees (take n a) c ⊎ Sees (with_next n (a ++ b)) c
  turn c (inl is) = inl is
  turn c (inr is) = by_size (cases_lt n (length a))
    where
      by_size : (n < length a) ⊎ (length a ≤ n) → Sees (take n a) c ⊎ Sees (with_next n (a ++ b)) c
      by_size (inl more) = inr (subst (λ (l : List Deed). Sees l c) (sym (take_first (suc n) a b (omega (arith, more)))) is)
      by_size (inr all) = inl (subst (λ (l : List Deed). Sees l c) (take_all (suc n) a (omega (arith, all)) ∙ sym (take_all n a all)) is)

  turn_last : (c : Choice) → Sees (last_point [] (points_of [] begins.moments a)) c ⊎ Sees (with_next n a) c → Sees (last_point [] (points_of [] begins.moments a)) c ⊎ Sees (with_next n (a ++ b)) c
  turn_last c = subst (λ (l : List Deed). Sees l c ⊎ Sees (with_next n a) c → Sees l c ⊎ Sees (with_next n (a ++ b)) c) (sym (last_some [] begins.moments a begins.few)) (turn c)

  pub more_goes : 0 < old.clock → GoesThroughDeeds old new excepted rows begins.moments (a ++ b) (Some (with_next n (a ++ b)))
  more_goes up = subst (λ (ps : List PassedDeed). GoesThrough (IsChoice new) Sees old.clock [] ps new.clock (Some (with_next n (a ++ b)))) (sym (points_first [] begins.moments a b begins.few))
      (other_next Choice (IsChoice new) Sees old.clock new.clock [] (points_of [] begins.moments a) (with_next n a) (with_next n (a ++ b)) turn_last (begins.goes up))

  pub more_now : AtNow (λ c. Sees (take n (a ++ b)) c ⊎ Sees (with_next n (a ++ b)) c) new
  more_now c has = subst (λ (l : List Deed). Sees l c ⊎ Sees (with_next n (a ++ b)) c) (sym (take_first n a b begins.few)) (turn c (begins.now c has))

pub more_follow : (old new : PlantState) → MoreDeedsMayFollow old new
more_follow old new excepted rows a b begins = record {
  site = begins.site;
  elapses = begins.elapses;
  silent = begins.silent;
  moments = begins.moments;
  few = omega (arith, begins.few, length-append a b);
  goes = more_goes old new excepted rows a b begins;
  now = more_now old new excepted rows a b begins;
}
