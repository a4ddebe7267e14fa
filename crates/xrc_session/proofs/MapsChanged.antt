-- Whether a track of a row has changed is whether its controller's trace writes on it.
use Rattle.std.proofs.Common.{◌≡◌, ℕ, zero, suc, ◌+◌, ◌<◌, Bool, true, false, cond, nat_eq, nat_lt, nat_le, ◌&&◌, ◌||◌, List, [], ◌∷◌, filter, map, Some, refl, ap, ◌∙◌, arith}
use Rattle.std.specs.Prelude.{slice_get}
use Rattle.std.specs.List.{list_any}
use Rattle.std.proofs.lemmas.Bool.{eq-eqb, lt-leb, ltb-true, ne_eqb}
use Rattle.std.proofs.lemmas.List.Folds.{list_any-append}
use Rattle.std.proofs.lemmas.Option.{same_Some}
use Rattle.ckd_track.specs.declared.write.Write.{Write}
use Rattle.write_trace.specs.declared.trace.Trace.{Trace}
use Rattle.write_trace.specs.Writes.{writes_of}
use Rattle.xrc_edge.specs.Order.{in_order, put_in_order}
use Rattle.primary_ctl.specs.States.{is_on}
use Rattle.primary_ctl.specs.Primaries.{ControlWrite, all_writes, is_on_track, is_written_earlier, write_of_control}
use Rattle.consistency.specs.Stages.{ScriptRun}
use Rattle.consistency.specs.Owing.{is_changed}
use Rattle.xrc_session.specs.Maps.{has_write_between}

any_put : {A : Type 0} (test : A → Bool) (below : A → A → Bool) (a : A) (items : List A) → list_any test (put_in_order below a items) ≡ (test a || list_any test items)
any_put test below a [] = refl
any_put {A} test below a (b ∷ items) = choose (below b a) (any_put test below a items)
  where
    swap : (x y z : Bool) → (x || (y || z)) ≡ (y || (x || z))
    swap true true z = refl
    swap true false z = refl
    swap false y z = refl

    choose : (t : Bool) → list_any test (put_in_order below a items) ≡ (test a || list_any test items) → list_any test (cond t (b ∷ put_in_order below a items) (a ∷ b ∷ items)) ≡ (test a || (test b || list_any test items))
    choose true rest = ap (λ (x : Bool). test b || x) rest ∙ swap (test b) (test a) (list_any test items)
    choose false rest = refl

any_order : {A : Type 0} (test : A → Bool) (below : A → A → Bool) (items : List A) → list_any test (in_order below items) ≡ list_any test items
any_order test below [] = refl
any_order test below (a ∷ items) = any_put test below a (in_order below items) ∙ ap (λ (x : Bool). test a || x) (any_order test below items)

any_filter : {A : Type 0} (test keep : A → Bool) (items : List A) → list_any test (filter keep items) ≡ list_any (λ a. test a && keep a) items
any_filter test keep [] = refl
any_filter {A} test keep (a ∷ items) = choose (keep a) (any_filter test keep items)
  where
    and_true : (x : Bool) → x ≡ (x && true)
    and_true true = refl
    and_true false = refl

    and_false : (x : Bool) → false ≡ (x && false)
    and_false true = refl
    and_false false = refl

    choose : (t : Bool) → list_any test (filter keep items) ≡ list_any (λ a. test a && keep a) items → list_any test (cond t (a ∷ filter keep items) (filter keep items)) ≡ ((test a && t) || list_any (λ a. test a && keep a) items)
    choose true rest = λ i. and_true (test a) i || rest i
    choose false rest = rest ∙ ap (λ (x : Bool). x || list_any (λ a. test a && keep a) items) (and_false (test a))

module _ (k v x since to : ℕ) where
  abbrev counts : ControlWrite → Bool
  counts w = (is_on_track k v x w && nat_lt since w.write.stamp.0) && nat_le w.write.stamp.0 to

  abbrev own : Write → Bool
  own w = is_on v x w && (nat_lt since w.stamp.0 && nat_le w.stamp.0 to)

  none_of : (j : ℕ) (writes : List Write) → nat_eq j k ≡ false → list_any counts (map (write_of_control j) writes) ≡ false
  none_of j [] other = refl
  none_of j (w ∷ writes) other = ap (λ (b : Bool). (((b && is_on v x w) && nat_lt since w.stamp.0) && nat_le w.stamp.0 to) || list_any counts (map (write_of_control j) writes)) other ∙ none_of j writes other

  own_of : (writes : List Write) → list_any counts (map (write_of_control k) writes) ≡ list_any own writes
  own_of [] = refl
  own_of (w ∷ writes) = λ i. (ap (λ (b : Bool). ((b && is_on v x w) && nat_lt since w.stamp.0) && nat_le w.stamp.0 to) (eq-eqb k k refl) ∙ regroup (is_on v x w) (nat_lt since w.stamp.0) (nat_le w.stamp.0 to)) i || own_of writes i
    where
      regroup : (a b c : Bool) → ((a && b) && c) ≡ (a && (b && c))
      regroup true b c = refl
      regroup false b c = refl

  none_later : (j : ℕ) (traces : List Trace) → k < j → list_any counts (all_writes j traces) ≡ false
  none_later j [] above = refl
  none_later j (t ∷ traces) above =
      list_any-append counts (map (write_of_control j) (writes_of t.entries)) (all_writes (j + 1) traces)
      ∙ ap (λ (b : Bool). b || list_any counts (all_writes (j + 1) traces)) (none_of j (writes_of t.entries) (ne_eqb j k (λ e. omega (arith, above, e))))
      ∙ none_later (j + 1) traces (omega (arith, above))

  at_place : (place j : ℕ) (traces : List Trace) (t : Trace) → k ≡ j + place → slice_get traces place ≡ Some t → list_any counts (all_writes j traces) ≡ list_any own (writes_of t.entries)
  at_place place j [] t is at = absurd cc
  at_place zero j (s ∷ traces) t is at =
      let same : j ≡ k = omega (arith, is) in
      list_any-append counts (map (write_of_control j) (writes_of s.entries)) (all_writes (j + 1) traces)
      ∙ ap (λ (b : Bool). list_any counts (map (write_of_control j) (writes_of s.entries)) || b) (none_later (j + 1) traces (omega (arith, is)))
      ∙ or_none (list_any counts (map (write_of_control j) (writes_of s.entries)))
      ∙ ap (λ (n : ℕ). list_any counts (map (write_of_control n) (writes_of s.entries))) same
      ∙ own_of (writes_of s.entries)
      ∙ ap (λ (u : Trace). list_any own (writes_of u.entries)) (same_Some s t at)
    where
      or_none : (b : Bool) → (b || false) ≡ b
      or_none true = refl
      or_none false = refl
  at_place (suc place) j (s ∷ traces) t is at =
      list_any-append counts (map (write_of_control j) (writes_of s.entries)) (all_writes (j + 1) traces)
      ∙ ap (λ (b : Bool). b || list_any counts (all_writes (j + 1) traces)) (none_of j (writes_of s.entries) (ne_eqb j k (λ e. omega (arith, is, e))))
      ∙ at_place place (j + 1) traces t (omega (arith, is)) at

-- A track is changed exactly if its controller's trace writes on it.
pub changed_is : (run : ScriptRun) (k v x since to : ℕ) (t : Trace) → slice_get run.traces k ≡ Some t → is_changed run k v since to x ≡ has_write_between t v x since to
changed_is run k v x since to t at =
    any_order (λ w. is_on_track k v x w && nat_lt since w.write.stamp.0) is_written_earlier (filter (λ w. nat_le w.write.stamp.0 to) (all_writes 0 run.traces))
    ∙ any_filter (λ w. is_on_track k v x w && nat_lt since w.write.stamp.0) (λ w. nat_le w.write.stamp.0 to) (all_writes 0 run.traces)
    ∙ at_place k v x since to k 0 run.traces t (omega arith) at

-- No track changes after a time up to that time.
pub none_changed : (run : ScriptRun) (k v time x : ℕ) → is_changed run k v time time x ≡ false
none_changed run k v time x =
    any_order (λ w. is_on_track k v x w && nat_lt time w.write.stamp.0) is_written_earlier (filter (λ w. nat_le w.write.stamp.0 time) (all_writes 0 run.traces))
    ∙ any_filter (λ w. is_on_track k v x w && nat_lt time w.write.stamp.0) (λ w. nat_le w.write.stamp.0 time) (all_writes 0 run.traces)
    ∙ none (all_writes 0 run.traces)
  where
    flags : (a b c : Bool) → (b ≡ true → c ≡ false) → ((a && b) && c) ≡ false
    flags true true c e = e refl
    flags true false c e = refl
    flags false b c e = refl

    never : (w : ControlWrite) → nat_lt time w.write.stamp.0 ≡ true → nat_le w.write.stamp.0 time ≡ false
    never w later = let up = ltb-true time w.write.stamp.0 later in lt-leb w.write.stamp.0 time up

    none : (writes : List ControlWrite) → list_any (λ w. (is_on_track k v x w && nat_lt time w.write.stamp.0) && nat_le w.write.stamp.0 time) writes ≡ false
    none [] = refl
    none (w ∷ writes) =
        (λ i. flags (is_on_track k v x w) (nat_lt time w.write.stamp.0) (nat_le w.write.stamp.0 time) (never w) i || list_any (λ w. (is_on_track k v x w && nat_lt time w.write.stamp.0) && nat_le w.write.stamp.0 time) writes)
        ∙ none writes
