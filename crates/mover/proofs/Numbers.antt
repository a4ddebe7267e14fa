-- How many numbers the calls of a site use up, one by one and in turn.
use Rattle.std.proofs.Common.{◌≡◌, ◌≢◌, ◌⊎◌, inl, inr, ℕ, ◌+◌, ◌*◌, ◌≤◌, ◌<◌, Bool, true, nat_eq, nat_le, not, List, [], ◌∷◌, ◌++◌, map, Result, Ok, Err, refl, sym, ap, subst, ◌∙◌, arith, true≢false}
use Rattle.std.specs.Prelude.{IsOk}
use Rattle.std.specs.List.{list_all}
use Rattle.std.proofs.lemmas.Bool.{eqb-true, leb-true, ltb-true, or_cases}
use Rattle.tod_stamp.specs.declared.stamp.Stamp.{Stamp}
use Rattle.crash_plant.specs.Moments.{PlantState}
use Rattle.pending_queue.specs.Groups.{FormedGroup}
use Rattle.group_state.specs.declared.joining.Forming as forming
use Rattle.group_state.specs.Runs.{Answer}
use Rattle.group_state.proofs.SoundLaws.{count_append, count_none}
use Rattle.record_rows.specs.Hits.{hit_now}
use Rattle.turn_group.specs.Calls.{MadeCall, as_answer}
use Rattle.turn_group.specs.Seats.{MoverSeatState}
use Rattle.site_store.specs.declared.store_error.StoreError.{StoreError}
use Rattle.site_store.specs.Applying.{Applies}
use Rattle.site_store.specs.Changing.{Suspends, with_suspensions}
use Rattle.site_store.specs.Logging.{LogsGroup, after_group}
use Rattle.site_store.specs.Marking.{Marks, rows_at_mark}
use Rattle.site_store.specs.Records.{after_mark}
use Rattle.site_store.specs.Sites.{SiteState}
use Rattle.site_store.specs.Placements.{is_spent, is_suspension_spent, most}
use Rattle.site_store.proofs.ByPlacements.{RecordPlacement, by_placements}
use Rattle.mover.specs.Dropping.{MakesDrops, VolumeDrop, answer_of_drop}
use Rattle.mover.specs.Numbers.{FormsUse, UsesNumbers, UsesNumbersOf, UsesUpTo, forms_among, is_form}
use Rattle.mover.proofs.MoverCalls.{FormsGroup}
use Rattle.mover.proofs.MovedOn.{answers_append, on_ok}

-- ---- in turn

-- the numbers after calls that use up so many
abbrev After : (records marks : ℕ) → (site after : SiteState) → Type 0
After records marks site after = (after.at.number ≤ site.at.number + records) × (after.mark.number ≤ site.mark.number + marks)

-- The greatest number is that near.
abbrev IsNear : (records marks : ℕ) → SiteState → Type 0
IsNear records marks site = (most ≤ site.at.number + records) ⊎ (most ≤ site.mark.number + marks)

more : (m n k l : ℕ) → m ≤ n + k → k ≤ l → m ≤ n + l
more m n k l low up = omega (arith, low, up)

in_turn : (m n k a b : ℕ) → m ≤ n + b → n ≤ k + a → m ≤ k + (a + b)
in_turn m n k a b then first = omega (arith, then, first)

-- What uses up fewer uses up at most as many.
pub uses_more : (a b c d : ℕ) (site after : SiteState) (result : Result (Unit {0}) StoreError) → a ≤ c → b ≤ d → UsesUpTo a b site after result → UsesUpTo c d site after result
uses_more a b c d site after result records marks uses = record {
  within = on_ok result (λ (n : After a b site after). (more after.at.number site.at.number a c n.0 records, more after.mark.number site.mark.number b d n.1 marks)) uses.within;
  spent = λ is. elim (uses.spent is) [
    | inl at ↦ inl (more most site.at.number a c at records)
    | inr mark ↦ inr (more most site.mark.number b d mark marks)
  ];
}

pub uses_then : (a b c d : ℕ) (site mid after : SiteState) (result : Result (Unit {0}) StoreError) → UsesUpTo a b site mid (Ok tt) → UsesUpTo c d mid after result → UsesUpTo (a + c) (b + d) site after result
uses_then a b c d site mid after result first then = record {
  within = on_ok result (λ (n : After c d mid after). (in_turn after.at.number mid.at.number site.at.number a c n.0 first.within.0, in_turn after.mark.number mid.mark.number site.mark.number b d n.1 first.within.1)) then.within;
  spent = λ is. elim (then.spent is) [
    | inl at ↦ inl (in_turn most mid.at.number site.at.number a c at first.within.0)
    | inr mark ↦ inr (in_turn most mid.mark.number site.mark.number b d mark first.within.1)
  ];
}

pub uses_as : (records marks : ℕ) (site after : SiteState) (r s : Result (Unit {0}) StoreError) → r ≡ s → UsesUpTo records marks site after r → UsesUpTo records marks site after s
uses_as records marks site after r s same uses = subst (λ (r : Result (Unit {0}) StoreError). UsesUpTo records marks site after r) same uses

uses_none : (site after : SiteState) → after.at.number ≡ site.at.number → after.mark.number ≡ site.mark.number → UsesUpTo 0 0 site after (Ok tt)
uses_none site after at mark = record { within = (omega (arith, at), omega (arith, mark)); spent = λ none. cc none }

-- No call has no form.
pub none_used : (site : SiteState) → UsesNumbersOf [] site site (Ok tt)
none_used site = uses_none site site refl refl

-- ---- a record

-- so many numbers more, at most
at_most : (m n k : ℕ) → m ≡ n → m ≤ n + k
at_most m n k e = omega (arith, e)

-- The numbers of a record and of a switch before it, and that of a mark which comes first.
module _ (tells : Type 0) (group : FormedGroup) (site next : SiteState) (old new : PlantState) (result : Result (Unit {0}) StoreError) (logs : LogsGroup tells group site next old new result) where
  abbrev Goes : RecordPlacement → Type 0
  Goes placement = next ≡ after_group old.journals placement group next.waiting logs.logs.early next.failed site → After 2 1 site next

  goes : (placement : RecordPlacement) → Goes placement
  goes = by_placements Goes
      (λ e. let at : next.at.number ≡ site.at.number + 1 = ap (λ (s : SiteState). s.at.number) e in let mark : next.mark.number ≡ site.mark.number = ap (λ (s : SiteState). s.mark.number) e in (omega (arith, at), omega (arith, mark)))
      (λ e. let at : next.at.number ≡ site.at.number + 1 + 1 = ap (λ (s : SiteState). s.at.number) e in let mark : next.mark.number ≡ site.mark.number = ap (λ (s : SiteState). s.mark.number) e in (omega (arith, at), omega (arith, mark)))
      (λ e. let at : next.at.number ≡ site.at.number + 1 + 1 = ap (λ (s : SiteState). s.at.number) e in let mark : next.mark.number ≡ site.mark.number + 1 = ap (λ (s : SiteState). s.mark.number) e in (omega (arith, at), omega (arith, mark)))

  near : (placement : RecordPlacement) → is_spent placement site ≡ true → IsNear 2 1 site
  near = by_placements (λ (placement : RecordPlacement). is_spent placement site ≡ true → IsNear 2 1 site)
      (λ is. inl (below most site.at.number (ltb-true most site.at.number is)))
      (λ is. inl (up_to most site.at.number (leb-true most site.at.number is)))
      (λ is. elim (or_cases (nat_le most site.at.number) (nat_eq site.mark.number most) is) [
        | inl at ↦ inl (up_to most site.at.number (leb-true most site.at.number at))
        | inr mark ↦ inr (at_most most site.mark.number 1 (sym (eqb-true site.mark.number most mark)))
      ])
    where
      below : (m n : ℕ) → m < n → m ≤ n + 2
      below m n low = omega (arith, low)

      up_to : (m n : ℕ) → m ≤ n → m ≤ n + 2
      up_to m n low = omega (arith, low)

  pub log_uses : UsesUpTo 2 1 site next result
  log_uses = record { within = on_ok result (goes logs.placement) logs.logs.next_is; spent = λ is. near logs.placement (logs.first.spent.0 is) }

-- ---- suspensions

module _ {P : Type 0} (cut : ℕ) (site next : SiteState) (old : PlantState) (was is : P) (result : Result (Unit {0}) StoreError) (ok : Suspends cut site next old was is result) where
  abbrev Tells : RecordPlacement → Type 0
  Tells placement = next ≡ with_suspensions old.journals placement cut ok.items next.failed site → After 2 1 site next

  tells_by : (placement : RecordPlacement) → Tells placement
  tells_by = by_placements Tells
      (λ e. let at : next.at.number ≡ site.at.number + 1 = ap (λ (s : SiteState). s.at.number) e in let mark : next.mark.number ≡ site.mark.number = ap (λ (s : SiteState). s.mark.number) e in (omega (arith, at), omega (arith, mark)))
      (λ e. let at : next.at.number ≡ site.at.number + 1 + 1 = ap (λ (s : SiteState). s.at.number) e in let mark : next.mark.number ≡ site.mark.number = ap (λ (s : SiteState). s.mark.number) e in (omega (arith, at), omega (arith, mark)))
      (λ e. let at : next.at.number ≡ site.at.number = ap (λ (s : SiteState). s.at.number) e in let mark : next.mark.number ≡ site.mark.number + 1 = ap (λ (s : SiteState). s.mark.number) e in (omega (arith, at), omega (arith, mark)))

  near_then : (placement : RecordPlacement) → is_suspension_spent placement site ≡ true → IsNear 2 1 site
  near_then = by_placements (λ (placement : RecordPlacement). is_suspension_spent placement site ≡ true → IsNear 2 1 site)
      (λ is. inl (below most site.at.number (ltb-true most site.at.number is)))
      (λ is. inl (up_to most site.at.number (leb-true most site.at.number is)))
      (λ is. inr (at_most most site.mark.number 1 (sym (eqb-true site.mark.number most is))))
    where
      below : (m n : ℕ) → m < n → m ≤ n + 2
      below m n low = omega (arith, low)

      up_to : (m n : ℕ) → m ≤ n → m ≤ n + 2
      up_to m n low = omega (arith, low)

  pub suspend_uses : UsesUpTo 2 1 site next result
  suspend_uses = by (hit_now site.failed site.told) refl
    where
      none : (r : Result (Unit {0}) StoreError) → IsOk r → next ≡ site → UsesUpTo 2 1 site next r
      none (Ok value) good same = uses_more 0 0 2 1 site next (Ok value) (omega arith) (omega arith) (uses_none site next (ap (λ (s : SiteState). s.at.number) same) (ap (λ (s : SiteState). s.mark.number) same))
      none (Err e) good same = absurd (true≢false (sym good))

      by : (hits : List ℕ) → hit_now site.failed site.told ≡ hits → UsesUpTo 2 1 site next result
      by [] e = let n = ok.nothing e in none result n.0 n.1
      by (d ∷ hits) e =
          let some : hit_now site.failed site.told ≢ [] = λ none. let clash : d ∷ hits ≡ [] = sym e ∙ none in cc clash in
          record { within = on_ok result (tells_by ok.placement) (ok.logged some); spent = λ is. near_then ok.placement ((ok.spent some).0 is) }

-- ---- a mark

pub mark_uses : {P : Type 0} (site next : SiteState) (ended : Bool) (was is : P) (result : Result (Unit {0}) StoreError) → Marks site next ended was is result → UsesUpTo 0 1 site next result
mark_uses site next ended was is result ok = record {
  within = on_ok result (λ (e : next ≡ after_mark ended (rows_at_mark site.level site next.failed) next.failed site).
      let at : next.at.number ≡ site.at.number = ap (λ (s : SiteState). s.at.number) e in let mark : next.mark.number ≡ site.mark.number + 1 = ap (λ (s : SiteState). s.mark.number) e in (omega (arith, at), omega (arith, mark))) ok.next_is;
  spent = λ is. inr (at_most most site.mark.number 1 (sym (eqb-true site.mark.number most (ok.spent.0 is))));
}

-- ---- a site comes to rest

-- A group is applied, and failures are told.
pub tell_uses : (tells : Type 0) {P : Type 0} (cut : ℕ) (site mid next : SiteState) (old between : PlantState) (was is : P) (result : Result (Unit {0}) StoreError) → Applies tells site mid old between → Suspends cut mid next between was is result → UsesUpTo 2 1 site next result
tell_uses tells cut site mid next old between was is result applies ok =
    uses_then 0 0 2 1 site mid next result (uses_none site mid (ap (λ (s : SiteState). s.at.number) applies.next_is) (ap (λ (s : SiteState). s.mark.number) applies.next_is)) (suspend_uses cut mid next between was is result ok)

-- No mark is due.
pub told_use : (site next : SiteState) (r s : Result (Unit {0}) StoreError) → r ≡ s → UsesUpTo 2 1 site next r → UsesUpTo 2 2 site next s
told_use site next r s same used = uses_more 2 1 2 2 site next s (omega arith) (omega arith) (uses_as 2 1 site next r s same used)

-- A mark is made.
pub marked_use : {P : Type 0} (site mid next : SiteState) (ended : Bool) (was is : P) (told : Result (Unit {0}) StoreError) → told ≡ Ok tt → UsesUpTo 2 1 site mid told → (result : Result (Unit {0}) StoreError) → Marks mid next ended was is result → UsesUpTo 2 2 site next result
marked_use site mid next ended was is told well used result ok = uses_then 2 1 0 1 site mid next result (uses_as 2 1 site mid told (Ok tt) well used) (mark_uses mid next ended was is result ok)

-- ---- forms

forms_append : (a b : List MadeCall) → forms_among (map as_answer (a ++ b)) ≡ forms_among (map as_answer a) + forms_among (map as_answer b)
forms_append a b = ap forms_among (answers_append a b) ∙ count_append (λ (x : Answer). is_form x.call) (map as_answer a) (map as_answer b)

no_form : (drops : List VolumeDrop) → list_all (λ (x : Answer). not (is_form x.call)) (map answer_of_drop drops) ≡ true
no_form [] = refl
no_form (d ∷ drops) = no_form drops

forms_still : (drops : List VolumeDrop) (seat next : MoverSeatState) → MakesDrops drops seat next → forms_among (map as_answer next.calls) ≡ forms_among (map as_answer seat.calls)
forms_still drops seat next made =
    let gained : forms_among (map as_answer made.gained) ≡ 0 = ap forms_among made.are ∙ count_none (λ (x : Answer). is_form x.call) (map answer_of_drop drops) (no_form drops) in
    omega (arith, ap (λ (calls : List MadeCall). forms_among (map as_answer calls)) made.calls_are, forms_append seat.calls made.gained, gained)

one_form : (limit : Stamp) (r : forming.Forming) (group : FormedGroup) (seat turn : MoverSeatState) → FormsGroup limit r group seat turn → forms_among (map as_answer turn.calls) ≡ forms_among (map as_answer seat.calls) + 1
one_form limit r group seat turn f =
    let gained : forms_among (map as_answer (f.made ∷ [])) ≡ 1 = ap (λ (x : Answer). forms_among (x ∷ [])) f.answered in
    omega (arith, ap (λ (calls : List MadeCall). forms_among (map as_answer calls)) f.calls, forms_append seat.calls (f.made ∷ []), gained)

-- A form whose group isn't logged, or wasn't.
pub form_uses : (limit : Stamp) (r : forming.Forming) (group : FormedGroup) (seat turn : MoverSeatState) (site after : SiteState) (result : Result (Unit {0}) StoreError) → FormsGroup limit r group seat turn → UsesUpTo 2 1 site after result → FormsUse 1 2 1 seat turn site after result
form_uses limit r group seat turn site after result f uses = record { made = one_form limit r group seat turn f; uses = uses }

pub unlogged_uses : (limit : Stamp) (r : forming.Forming) (group : FormedGroup) (seat turn : MoverSeatState) (site : SiteState) → FormsGroup limit r group seat turn → FormsUse 1 2 1 seat turn site site (Ok tt)
unlogged_uses limit r group seat turn site f = form_uses limit r group seat turn site site (Ok tt) f (uses_more 0 0 2 1 site site (Ok tt) (omega arith) (omega arith) (uses_none site site refl refl))

-- Drops after it change no number.
pub drops_use : (forms records marks : ℕ) (drops : List VolumeDrop) (seat turn next : MoverSeatState) (site after : SiteState) (result : Result (Unit {0}) StoreError) → MakesDrops drops turn next → FormsUse forms records marks seat turn site after result → FormsUse forms records marks seat next site after result
drops_use forms records marks drops seat turn next site after result made before = record { made = forms_still drops turn next made ∙ before.made; uses = before.uses }

-- No form was made.
pub rest_uses : (records marks : ℕ) (seat : MoverSeatState) (site after : SiteState) (result : Result (Unit {0}) StoreError) → UsesUpTo records marks site after result → FormsUse 0 records marks seat seat site after result
rest_uses records marks seat site after result uses = record { made = omega arith; uses = uses }

-- ---- the mover's calls

-- A round's part has one form.
pub part_uses : (seat turn next : MoverSeatState) (site mid after : SiteState) (result : Result (Unit {0}) StoreError) → FormsUse 1 2 1 seat turn site mid (Ok tt) → FormsUse 0 2 2 turn next mid after result → UsesNumbers seat next site after result
part_uses seat turn next site mid after result first then = (1, record { made = omega (arith, first.made, then.made); uses = uses_then 2 1 2 2 site mid after result first.uses then.uses })

-- So has one that ends in an error.
pub part_fails : (seat turn : MoverSeatState) (site mid : SiteState) (result : Result (Unit {0}) StoreError) → FormsUse 1 2 1 seat turn site mid result → UsesNumbers seat turn site mid result
part_fails seat turn site mid result first = (1, record { made = first.made; uses = uses_more 2 1 4 3 site mid result (omega arith) (omega arith) first.uses })

pub numbers_none : (seat : MoverSeatState) (site : SiteState) → UsesNumbers seat seat site site (Ok tt)
numbers_none seat site = (0, record { made = omega arith; uses = uses_none site site refl refl })

pub numbers_then : (seat turn next : MoverSeatState) (site mid after : SiteState) (result : Result (Unit {0}) StoreError) → UsesNumbers seat turn site mid (Ok tt) → UsesNumbers turn next mid after result → UsesNumbers seat next site after result
numbers_then seat turn next site mid after result first then =
    let a = first.0 in
    let b = then.0 in
    let uses = uses_then (4 * a) (3 * a) (4 * b) (3 * b) site mid after result first.1.uses then.1.uses in
    (a + b, record { made = omega (arith, first.1.made, then.1.made); uses = uses_more (4 * a + 4 * b) (3 * a + 3 * b) (4 * (a + b)) (3 * (a + b)) site after result (omega arith) (omega arith) uses })

-- Calls after none are all that the seat has.
pub numbers_of : (seat next : MoverSeatState) (site after : SiteState) (result : Result (Unit {0}) StoreError) → seat.calls ≡ [] → UsesNumbers seat next site after result → UsesNumbersOf (map as_answer next.calls) site after result
numbers_of seat next site after result none numbers =
    let before : forms_among (map as_answer seat.calls) ≡ 0 = ap (λ (calls : List MadeCall). forms_among (map as_answer calls)) none in
    let n = forms_among (map as_answer next.calls) in
    let same : numbers.0 ≡ n = omega (arith, numbers.1.made, before) in
    subst (λ (m : ℕ). UsesUpTo (4 * m) (3 * m) site after result) same numbers.1.uses
