-- Writes of a trace on a track between two times.
use Rattle.std.proofs.Common.{◌≡◌, ℕ, ◌<◌, ◌≤◌, Bool, true, false, cond, nat_lt, nat_le, ◌&&◌, ◌||◌, List, [], ◌∷◌, filter, inl, inr, ◌⊎◌, refl, sym, ap, ◌∙◌, arith}
use Rattle.std.specs.List.{list_any}
use Rattle.std.proofs.lemmas.Bool.{cases_lt, lt-ltb, le-ltb, le-leb, lt-leb}
use Rattle.ckd_track.specs.declared.write.Write.{Write}
use Rattle.write_trace.specs.declared.entry.Entry.{Entry}
use Rattle.write_trace.specs.declared.entry.Entry.TheVariants.{Written, Idle}
use Rattle.write_trace.specs.declared.trace.Trace.{Trace}
use Rattle.write_trace.specs.Writes.{writes_of}
use Rattle.primary_ctl.specs.States.{is_on}
use Rattle.fed_logs.specs.Feeds.{entries_between, is_between}
use Rattle.xrc_session.specs.Maps.{has_write_between}

-- ---- flags

pub or_none : (b : Bool) → (b || false) ≡ b
or_none true = refl
or_none false = refl

and_none : (a b : Bool) → b ≡ false → (a && b) ≡ false
and_none true b e = e
and_none false b e = refl

pub any_same : {X : Type 0} (test also : X → Bool) (xs : List X) → ((x : X) → test x ≡ also x) → list_any test xs ≡ list_any also xs
any_same test also [] same = refl
any_same test also (x ∷ xs) same = λ i. same x i || any_same test also xs same i

any_never : {X : Type 0} (test : X → Bool) (xs : List X) → ((x : X) → test x ≡ false) → list_any test xs ≡ false
any_never test [] never = refl
any_never test (x ∷ xs) never = ap (λ (b : Bool). b || list_any test xs) (never x) ∙ any_never test xs never

-- One of two tests passes somewhere.
any_either : {X : Type 0} (test also : X → Bool) (xs : List X) → (list_any test xs || list_any also xs) ≡ list_any (λ x. test x || also x) xs
any_either test also [] = refl
any_either test also (x ∷ xs) = flags (test x) (also x) (list_any test xs) (list_any also xs) ∙ ap (λ (b : Bool). (test x || also x) || b) (any_either test also xs)
  where
    flags : (a b c d : Bool) → ((a || c) || (b || d)) ≡ ((a || b) || (c || d))
    flags true b c d = refl
    flags false true true d = refl
    flags false true false d = refl
    flags false false c d = refl

-- ---- times

abbrev is_in : (from to : ℕ) → Write → Bool
is_in from to w = nat_lt from w.stamp.0 && nat_le w.stamp.0 to

none_in : (from to : ℕ) (w : Write) → to ≤ from → is_in from to w ≡ false
none_in from to w low = choose (cases_lt from w.stamp.0)
  where
    choose : (from < w.stamp.0) ⊎ (w.stamp.0 ≤ from) → is_in from to w ≡ false
    choose (inl above) = and_none (nat_lt from w.stamp.0) (nat_le w.stamp.0 to) (lt-leb w.stamp.0 to (omega (arith, above, low)))
    choose (inr under) = ap (λ (b : Bool). b && nat_le w.stamp.0 to) (le-ltb from w.stamp.0 under)

both_in : (from mid to : ℕ) (w : Write) (on : Bool) → from ≤ mid → mid ≤ to → ((on && is_in from mid w) || (on && is_in mid to w)) ≡ (on && is_in from to w)
both_in from mid to w false low high = refl
both_in from mid to w true low high = choose (cases_lt mid w.stamp.0)
  where
    choose : (mid < w.stamp.0) ⊎ (w.stamp.0 ≤ mid) → (is_in from mid w || is_in mid to w) ≡ is_in from to w
    choose (inl above) =
        simp (lt-leb w.stamp.0 mid above, lt-ltb mid w.stamp.0 above, lt-ltb from w.stamp.0 (omega (arith, above, low))) refl
    choose (inr under) =
        simp (le-leb w.stamp.0 mid under, le-ltb mid w.stamp.0 under, le-leb w.stamp.0 to (omega (arith, under, high))) (or_none (nat_lt from w.stamp.0 && true))

-- ---- a trace

-- Nothing is written from a time to no later one.
pub written_none : (t : Trace) (v x from to : ℕ) → to ≤ from → has_write_between t v x from to ≡ false
written_none t v x from to low = any_never (λ w. is_on v x w && is_in from to w) (writes_of t.entries) (λ w. and_none (is_on v x w) (is_in from to w) (none_in from to w low))

-- What is written from a time to another is written up to a time between, or after it.
pub written_both : (t : Trace) (v x from mid to : ℕ) → from ≤ mid → mid ≤ to → (has_write_between t v x from mid || has_write_between t v x mid to) ≡ has_write_between t v x from to
written_both t v x from mid to low high =
    any_either (λ w. is_on v x w && is_in from mid w) (λ w. is_on v x w && is_in mid to w) (writes_of t.entries)
    ∙ any_same (λ w. (is_on v x w && is_in from mid w) || (is_on v x w && is_in mid to w)) (λ w. is_on v x w && is_in from to w) (writes_of t.entries) (λ w. both_in from mid to w (is_on v x w) low high)

-- The writes of the entries after one time, up to another, are tested by those times too.
pub any_in : (t : Trace) (from to : ℕ) (test : Write → Bool) → list_any test (writes_of (entries_between t from to)) ≡ list_any (λ w. test w && is_in from to w) (writes_of t.entries)
any_in t from to test = all t.entries
  where
    and_all : (a : Bool) → a ≡ (a && true)
    and_all true = refl
    and_all false = refl

    all : (entries : List Entry) → list_any test (writes_of (filter (is_between from to) entries)) ≡ list_any (λ w. test w && is_in from to w) (writes_of entries)
    all [] = refl
    all (Written w ∷ entries) = choose (is_in from to w) (all entries)
      where
        choose : (b : Bool) → list_any test (writes_of (filter (is_between from to) entries)) ≡ list_any (λ w. test w && is_in from to w) (writes_of entries)
            → list_any test (writes_of (cond b (Written w ∷ filter (is_between from to) entries) (filter (is_between from to) entries))) ≡ ((test w && b) || list_any (λ w. test w && is_in from to w) (writes_of entries))
        choose true rest = λ i. and_all (test w) i || rest i
        choose false rest = rest ∙ ap (λ (b : Bool). b || list_any (λ w. test w && is_in from to w) (writes_of entries)) (sym (and_none (test w) false refl))
    all (Idle stamp ∷ entries) = choose (is_between from to (Idle stamp)) (all entries)
      where
        choose : (b : Bool) → list_any test (writes_of (filter (is_between from to) entries)) ≡ list_any (λ w. test w && is_in from to w) (writes_of entries)
            → list_any test (writes_of (cond b (Idle stamp ∷ filter (is_between from to) entries) (filter (is_between from to) entries))) ≡ list_any (λ w. test w && is_in from to w) (writes_of entries)
        choose true rest = rest
        choose false rest = rest

-- What is written there is what the entries there write.
pub written_in : (t : Trace) (v x from to : ℕ) → list_any (is_on v x) (writes_of (entries_between t from to)) ≡ has_write_between t v x from to
written_in t v x from to = any_in t from to (is_on v x)

-- After a time, what was written up to a floor and what the entries from there to another write is what is written up to that one.
pub written_on : (t : Trace) (v x time floor to : ℕ) → floor ≤ to → (has_write_between t v x time floor || list_any (λ w. is_on v x w && nat_lt time w.stamp.0) (writes_of (entries_between t floor to))) ≡ has_write_between t v x time to
written_on t v x time floor to up =
    ap (λ (b : Bool). has_write_between t v x time floor || b) (any_in t floor to (λ w. is_on v x w && nat_lt time w.stamp.0))
    ∙ any_either (λ w. is_on v x w && is_in time floor w) (λ w. (is_on v x w && nat_lt time w.stamp.0) && is_in floor to w) (writes_of t.entries)
    ∙ any_same (λ w. (is_on v x w && is_in time floor w) || ((is_on v x w && nat_lt time w.stamp.0) && is_in floor to w)) (λ w. is_on v x w && is_in time to w) (writes_of t.entries) (λ w. one w (is_on v x w))
  where
    flags : (a : Bool) → ((a && true) || (a && false)) ≡ (a && true)
    flags true = refl
    flags false = refl

    other : (a b : Bool) → ((a && false) || (a && b)) ≡ (a && b)
    other true b = refl
    other false b = refl

    one : (w : Write) (on : Bool) → ((on && is_in time floor w) || ((on && nat_lt time w.stamp.0) && is_in floor to w)) ≡ (on && is_in time to w)
    one w false = refl
    one w true = choose (cases_lt floor w.stamp.0)
      where
        choose : (floor < w.stamp.0) ⊎ (w.stamp.0 ≤ floor) → (is_in time floor w || (nat_lt time w.stamp.0 && is_in floor to w)) ≡ is_in time to w
        choose (inl above) = simp (lt-leb w.stamp.0 floor above, lt-ltb floor w.stamp.0 above) (other (nat_lt time w.stamp.0) (nat_le w.stamp.0 to))
        choose (inr under) = simp (le-leb w.stamp.0 floor under, le-ltb floor w.stamp.0 under, le-leb w.stamp.0 to (omega (arith, under, up))) (flags (nat_lt time w.stamp.0))
