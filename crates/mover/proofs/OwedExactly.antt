-- The drops of each row's volume are exactly those of what it owes more: after one half of a round, and after parts in turn.
use Rattle.std.proofs.Common.{◌≡◌, ◌⊎◌, inl, inr, ℕ, zero, suc, ◌+◌, Bool, true, false, not, cond, nat_eq, ◌&&◌, ◌||◌, List, [], ◌∷◌, ◌++◌, get_or, map, Option, Some, None, refl, sym, ap, subst, ◌∙◌, arith, true≢false, slice_get}
use Rattle.std.specs.List.{list_any}
use Rattle.std.proofs.lemmas.Bool.{and_from, eq-eqb, or_cases, or_from, or_left, or_parts, or_right}
use Rattle.std.proofs.lemmas.Option.{same_Some}
use Rattle.pair_table.specs.declared.row.PairRow.{PairRow}
use Rattle.pair_table.specs.declared.row.PairState.{PairState}
use Rattle.pair_table.specs.declared.row.PairState.TheVariants.{Pending, Copy, Duplex, Suspended}
use Rattle.pair_table.specs.Rows.{is_suspended}
use Rattle.pair_table.specs.Tables.{clashes, none_clash}
use Rattle.pair_table.proofs.PutLaws.{number_sym}
use Rattle.pair_table.proofs.TableLaws.{first_apart}
use Rattle.group_state.specs.Runs.{Answer}
use Rattle.record_rows.specs.Deeds.{Deed, rows_after_deeds, rows_by_deed}
use Rattle.pair_table.specs.States.{is_by_device, is_device_suspended, is_duplex, owes_suspended, owes_through}
use Rattle.record_rows.specs.ToldRows.{InPlaces}
use Rattle.mover.specs.Dropping.{OwesExactly, answer_of_drop, are_states_of, drop_of, drops_from, is_duplex_row, owed_by_call, owed_by_calls, owed_in_turn, owes_since, stood_duplex}
use Rattle.mover.specs.Moves.{Fades, InPlacesByDeeds, KeepsPair}
use Rattle.mover.proofs.DeedPairs.{After, after, in_place, pairs_after}
use Rattle.mover.proofs.SamePairs.{device_still, none_there}

-- ---- drops in turn

then_none : (o : Option Bool) → owed_in_turn o None ≡ o
then_none None = refl
then_none (Some all) = refl

or_false : (b : Bool) → (b || false) ≡ b
or_false true = refl
or_false false = refl

or_more : (a b c : Bool) → (a || (b || c)) ≡ ((a || b) || c)
or_more true b c = refl
or_more false b c = refl

then_all : (o : Option Bool) → owed_in_turn o (Some true) ≡ Some true
then_all None = refl
then_all (Some true) = refl
then_all (Some false) = refl

in_more_turns : (a b c : Option Bool) → owed_in_turn a (owed_in_turn b c) ≡ owed_in_turn (owed_in_turn a b) c
in_more_turns None b c = refl
in_more_turns (Some a) None c = refl
in_more_turns (Some a) (Some b) None = refl
in_more_turns (Some a) (Some b) (Some c) = ap (λ (t : Bool). let o : Option Bool = Some t in o) (or_more a b c)

calls_in_turn : (k v : ℕ) (a b : List Answer) → owed_by_calls k v (a ++ b) ≡ owed_in_turn (owed_by_calls k v a) (owed_by_calls k v b)
calls_in_turn k v [] b = refl
calls_in_turn k v (x ∷ a) b = ap (owed_in_turn (owed_by_call k v x.call)) (calls_in_turn k v a b) ∙ in_more_turns (owed_by_call k v x.call) (owed_by_calls k v a) (owed_by_calls k v b)

-- ---- states

-- A row that isn't suspended owes no more.
live_owes : (was is : PairState) (stood : Bool) → is_suspended is ≡ false → owes_through was is stood ≡ None
live_owes was Pending stood live = refl
live_owes was Copy stood live = refl
live_owes was Duplex stood live = refl
live_owes was (Suspended cause since) stood live = absurd cc

-- What a row owes once its own device suspends it, and once it is suspended for another reason.
abbrev pub owes_hit : (was : PairState) → Option Bool
owes_hit was = cond (is_device_suspended was) None (Some true)

abbrev pub owes_other : (was : PairState) (stood : Bool) → Option Bool
owes_other was stood = cond (is_suspended was) None (Some (not stood))

pub owes_split : (was : PairState) (stood by_device : Bool) → owes_suspended was stood by_device ≡ cond by_device (owes_hit was) (owes_other was stood)
owes_split (Suspended cause since) stood true = choose (is_by_device cause)
  where
    choose : (b : Bool) → cond (not b) (Some true) None ≡ cond b None (Some true)
    choose true = refl
    choose false = refl
owes_split (Suspended cause since) stood false = refl
owes_split Pending true true = refl
owes_split Pending true false = refl
owes_split Pending false true = refl
owes_split Pending false false = refl
owes_split Copy true true = refl
owes_split Copy true false = refl
owes_split Copy false true = refl
owes_split Copy false false = refl
owes_split Duplex true true = refl
owes_split Duplex true false = refl
owes_split Duplex false true = refl
owes_split Duplex false false = refl

-- One that its device suspends owes all its tracks.
pub device_owes : (was is : PairState) (stood : Bool) → is_device_suspended is ≡ true → owes_through was is stood ≡ owes_hit was
device_owes was Pending stood hit = absurd cc
device_owes was Copy stood hit = absurd cc
device_owes was Duplex stood hit = absurd cc
device_owes was (Suspended cause since) stood hit = owes_split was stood (is_by_device cause) ∙ (λ i. cond (hit i) (owes_hit was) (owes_other was stood))

other_owes : (was is : PairState) (stood : Bool) → is_suspended is ≡ true → is_device_suspended is ≡ false → owes_through was is stood ≡ owes_other was stood
other_owes was Pending stood gone up = absurd cc
other_owes was Copy stood gone up = absurd cc
other_owes was Duplex stood gone up = absurd cc
other_owes was (Suspended cause since) stood gone up = owes_split was stood (is_by_device cause) ∙ (λ i. cond (up i) (owes_hit was) (owes_other was stood))

-- It matters for suspended rows alone whether they stood duplex.
owes_stood : (was is : PairState) (a b : Bool) → (is_suspended is ≡ true → a ≡ b) → owes_through was is a ≡ owes_through was is b
owes_stood was Pending a b same = refl
owes_stood was Copy a b same = refl
owes_stood was Duplex a b same = refl
owes_stood was (Suspended cause since) a b same = ap (owes_through was (Suspended cause since)) (same refl)

-- A row that stays in its state owes no more.
owes_none : (state : PairState) (stood : Bool) → owes_through state state stood ≡ None
owes_none Pending stood = refl
owes_none Copy stood = refl
owes_none Duplex stood = refl
owes_none (Suspended cause since) stood = by (is_by_device cause)
  where
    by : (b : Bool) → cond (b && not b) (Some true) None ≡ (let o : Option Bool = None in o)
    by true = refl
    by false = refl

-- ---- whether a row stood duplex

or_gone : (b : Bool) (state : PairState) → is_suspended state ≡ true → (b || is_duplex state) ≡ b
or_gone b Pending gone = absurd cc
or_gone b Copy gone = absurd cc
or_gone b Duplex gone = absurd cc
or_gone b (Suspended cause since) gone = or_false b

or_same : (b : Bool) → (b || b) ≡ b
or_same true = refl
or_same false = refl

or_fades : (r s : PairRow) → Fades r s → (is_duplex r.state || is_duplex s.state) ≡ is_duplex r.state
or_fades r s f = elim f.fades [
  | inl same ↦ ap (λ (state : PairState). is_duplex r.state || is_duplex state) same ∙ or_same (is_duplex r.state)
  | inr gone ↦ or_gone (is_duplex r.state) s.state gone
]

-- After deeds that only suspend rows, a row stood duplex if it did at first.
pub stood_faded : (place : ℕ) (rows : List PairRow) (deeds : List Deed) (r : PairRow) → InPlacesByDeeds Fades rows deeds → slice_get rows place ≡ Some r → stood_duplex place rows deeds ≡ is_duplex r.state
stood_faded place rows [] r fade at = ap is_duplex_row at
stood_faded place rows (deed ∷ deeds) r fade at =
    let s = after Fades rows (rows_by_deed deed) place r fade.0 at in
    (λ i. is_duplex_row (at i) || stood_faded place (rows_by_deed deed) deeds s.row fade.1 s.at i) ∙ or_fades r s.row s.is

-- So it is of a row that one more deed suspends.
pub stood_logged : (place : ℕ) (rows : List PairRow) (quiet : List Deed) (deed : Deed) (r s : PairRow) → InPlacesByDeeds Fades rows quiet → slice_get rows place ≡ Some r → slice_get (rows_by_deed deed) place ≡ Some s → is_suspended s.state ≡ true
    → stood_duplex place rows (quiet ++ deed ∷ []) ≡ is_duplex r.state
stood_logged place rows [] deed r s fade at there gone = (λ i. is_duplex_row (at i) || is_duplex_row (there i)) ∙ or_gone (is_duplex r.state) s.state gone
stood_logged place rows (first ∷ quiet) deed r s fade at there gone =
    let m = after Fades rows (rows_by_deed first) place r fade.0 at in
    (λ i. is_duplex_row (at i) || stood_logged place (rows_by_deed first) quiet deed m.row s fade.1 m.at there gone i) ∙ or_fades r m.row m.is

stood_in_turn : (place : ℕ) (rows : List PairRow) (a b : List Deed) → stood_duplex place rows (a ++ b) ≡ (stood_duplex place rows a || stood_duplex place (rows_after_deeds a rows) b)
stood_in_turn place rows [] [] = sym (or_same (is_duplex_row (slice_get rows place)))
stood_in_turn place rows [] (deed ∷ b) =
    let first = is_duplex_row (slice_get rows place) in
    let rest = stood_duplex place (rows_by_deed deed) b in
    ap (λ (t : Bool). t || rest) (sym (or_same first)) ∙ sym (or_more first first rest)
stood_in_turn place rows (deed ∷ a) b =
    let first = is_duplex_row (slice_get rows place) in
    ap (λ (t : Bool). first || t) (stood_in_turn place (rows_by_deed deed) a b) ∙ or_more first (stood_duplex place (rows_by_deed deed) a) (stood_duplex place (rows_after_deeds a (rows_by_deed deed)) b)

duplex_is : (state : PairState) → is_duplex state ≡ true → state ≡ Duplex
duplex_is Pending e = absurd cc
duplex_is Copy e = absurd cc
duplex_is Duplex e = refl
duplex_is (Suspended cause since) e = absurd cc

not_duplex : (state : PairState) → is_suspended state ≡ true → is_duplex state ≡ false
not_duplex state gone = or_gone false state gone

-- A row that is suspended doesn't stand duplex again.
none_stood : (place : ℕ) (rows : List PairRow) (deeds : List Deed) (r : PairRow) → InPlacesByDeeds KeepsPair rows deeds → slice_get rows place ≡ Some r → is_suspended r.state ≡ true → stood_duplex place rows deeds ≡ false
none_stood place rows [] r keep at gone = ap is_duplex_row at ∙ not_duplex r.state gone
none_stood place rows (deed ∷ deeds) r keep at gone =
    or_from (is_duplex_row (slice_get rows place)) (stood_duplex place (rows_by_deed deed) deeds) (ap is_duplex_row at ∙ not_duplex r.state gone)
    (let s = after KeepsPair rows (rows_by_deed deed) place r keep.0 at in none_stood place (rows_by_deed deed) deeds s.row keep.1 s.at (still s.row s.is (is_suspended s.row.state) refl))
  where
    still : (s : PairRow) → KeepsPair r s → (b : Bool) → is_suspended s.state ≡ b → b ≡ true
    still s is true e = refl
    still s is false e = absurd (true≢false (sym gone ∙ is.live e))

-- A row that stood duplex is so still, unless it is suspended.
stands_still : (place : ℕ) (rows : List PairRow) (deeds : List Deed) (r s : PairRow) → InPlacesByDeeds KeepsPair rows deeds → slice_get rows place ≡ Some r → slice_get (rows_after_deeds deeds rows) place ≡ Some s → stood_duplex place rows deeds ≡ true
    → is_suspended s.state ≡ false → s.state ≡ Duplex
stands_still place rows [] r s keep at there stood live = duplex_is s.state (ap is_duplex_row (sym there) ∙ stood)
stands_still place rows (deed ∷ deeds) r s keep at there stood live = elim (or_cases (is_duplex_row (slice_get rows place)) (stood_duplex place (rows_by_deed deed) deeds) stood) [
  | inl here ↦ (in_place KeepsPair rows (rows_after_deeds deeds (rows_by_deed deed)) place r s (pairs_after rows (deed ∷ deeds) keep) at there).duplex (duplex_is r.state (ap is_duplex_row (sym at) ∙ here)) live
  | inr later ↦ let m = after KeepsPair rows (rows_by_deed deed) place r keep.0 at in stands_still place (rows_by_deed deed) deeds m.row s keep.1 m.at there later live
]

stood_first : (place : ℕ) (rows : List PairRow) (deeds : List Deed) (r : PairRow) → slice_get rows place ≡ Some r → r.state ≡ Duplex → stood_duplex place rows deeds ≡ true
stood_first place rows [] r at duplex = ap is_duplex_row at ∙ ap is_duplex duplex
stood_first place rows (deed ∷ deeds) r at duplex = or_left (is_duplex_row (slice_get rows place)) (stood_duplex place (rows_by_deed deed) deeds) (ap is_duplex_row at ∙ ap is_duplex duplex)

-- ---- one half of a round

other_names : (x y : PairRow) → clashes x y ≡ false → (nat_eq x.control y.control && nat_eq x.volume y.volume) ≡ false
other_names x y apart = (or_parts _ (nat_eq x.control y.control && nat_eq x.volume y.volume) apart).1

-- Rows that don't name a volume don't drop it.
none_owed : (x : PairRow) (was : List (Option PairState)) (place : ℕ) (rows : List PairRow) → list_any (clashes x) rows ≡ false → owed_by_calls x.control x.volume (map answer_of_drop (drops_from place was rows)) ≡ None
none_owed x was place [] apart = refl
none_owed x was place (y ∷ rows) apart = choose (owes_since (get_or was place None) y.state) (none_owed x was (suc place) rows parts.1)
  where
    parts : (clashes x y ≡ false) × (list_any (clashes x) rows ≡ false)
    parts = or_parts (clashes x y) (list_any (clashes x) rows) apart

    other : (nat_eq y.control x.control && nat_eq y.volume x.volume) ≡ false
    other = (λ i. number_sym y.control x.control i && number_sym y.volume x.volume i) ∙ other_names x y parts.0

    choose : (o : Option Bool) → owed_by_calls x.control x.volume (map answer_of_drop (drops_from (suc place) was rows)) ≡ None → owed_by_calls x.control x.volume (map answer_of_drop (drop_of y o ++ drops_from (suc place) was rows)) ≡ None
    choose None rest = rest
    choose (Some all) rest = λ i. owed_in_turn (cond (other i) (Some all) None) (rest i)

-- A row's volume is dropped for what that row owes.
owed_here : (was : List (Option PairState)) (place : ℕ) (rows : List PairRow) (i : ℕ) (s : PairRow) → none_clash rows ≡ true → slice_get rows i ≡ Some s
    → owed_by_calls s.control s.volume (map answer_of_drop (drops_from place was rows)) ≡ owes_since (get_or was (i + place) None) s.state
owed_here was place [] i s apart at = absurd cc
owed_here was place (y ∷ rows) zero s apart at =
    let same : place ≡ 0 + place = omega arith in
    subst (λ (x : PairRow). owed_by_calls x.control x.volume (map answer_of_drop (drops_from place was (y ∷ rows))) ≡ owes_since (get_or was (0 + place) None) x.state) (same_Some y s at)
    (choose (owes_since (get_or was place None) y.state) ∙ ap (λ (n : ℕ). owes_since (get_or was n None) y.state) same)
  where
    self : (nat_eq y.control y.control && nat_eq y.volume y.volume) ≡ true
    self = and_from (nat_eq y.control y.control) (nat_eq y.volume y.volume) (eq-eqb y.control y.control refl) (eq-eqb y.volume y.volume refl)

    rest : owed_by_calls y.control y.volume (map answer_of_drop (drops_from (suc place) was rows)) ≡ None
    rest = none_owed y was (suc place) rows (first_apart y rows apart).first

    choose : (o : Option Bool) → owed_by_calls y.control y.volume (map answer_of_drop (drop_of y o ++ drops_from (suc place) was rows)) ≡ o
    choose None = rest
    choose (Some all) = λ i. owed_in_turn (cond (self i) (Some all) None) (rest i)
owed_here was place (y ∷ rows) (suc i) s apart at =
    let same : i + suc place ≡ suc i + place = omega arith in
    choose (owes_since (get_or was place None) y.state) ∙ owed_here was (suc place) rows i s (first_apart y rows apart).others at ∙ ap (λ (n : ℕ). owes_since (get_or was n None) s.state) same
  where
    rest : Option Bool
    rest = owed_by_calls s.control s.volume (map answer_of_drop (drops_from (suc place) was rows))

    other : (nat_eq y.control s.control && nat_eq y.volume s.volume) ≡ false
    other = other_names y s (none_there (clashes y) rows i s (first_apart y rows apart).first at)

    choose : (o : Option Bool) → owed_by_calls s.control s.volume (map answer_of_drop (drop_of y o ++ drops_from (suc place) was rows)) ≡ rest
    choose None = refl
    choose (Some all) = λ i. owed_in_turn (cond (other i) (Some all) None) rest

-- The drops of rows that had these states are exactly those of what is owed, if each suspended row stood duplex only at first.
pub owed_once : (was : List (Option PairState)) (rows next : List PairRow) (deeds : List Deed) → are_states_of rows was → none_clash next ≡ true
    → ((place : ℕ) (r s : PairRow) → slice_get rows place ≡ Some r → slice_get next place ≡ Some s → is_suspended s.state ≡ true → stood_duplex place rows deeds ≡ is_duplex r.state)
    → OwesExactly rows next (map answer_of_drop (drops_from 0 was next)) deeds
owed_once was rows next deeds states apart stood place r s at there =
    let same : place + 0 ≡ place = omega arith in
    owed_here was 0 next place s apart there
    ∙ ap (λ (n : ℕ). owes_since (get_or was n None) s.state) same
    ∙ ap (λ (o : Option PairState). owes_since o s.state) (states place r at)
    ∙ owes_stood r.state s.state (is_duplex r.state) (stood_duplex place rows deeds) (λ gone. sym (stood place r s at there gone))

-- Where the rows stay and no call drops a volume, nothing more is owed.
pub owed_none : (rows : List PairRow) (answers : List Answer) (deeds : List Deed) → ((k v : ℕ) → owed_by_calls k v answers ≡ None) → OwesExactly rows rows answers deeds
owed_none rows answers deeds none place r s at there =
    none s.control s.volume ∙ sym (owes_none s.state (stood_duplex place rows deeds)) ∙ ap (λ (x : PairRow). owes_through x.state s.state (stood_duplex place rows deeds)) (same_Some s r (sym there ∙ at))

-- ---- parts in turn

-- What is owed more in two parts, by the states of a row before, between and after them, and by whether it stood duplex in each.
module _ (was mid is : PairRow) (first then : Bool) (a : KeepsPair was mid) (b : KeepsPair mid is) (none : is_suspended mid.state ≡ true → then ≡ false) (still : first ≡ true → is_suspended mid.state ≡ false → then ≡ true) where
  abbrev before : Option Bool
  before = owes_through was.state mid.state first

  live_through : is_suspended is.state ≡ false → owed_in_turn before (owes_through mid.state is.state then) ≡ owes_through was.state is.state (first || then)
  live_through live =
      (λ i. owed_in_turn (live_owes was.state mid.state first (b.live live) i) (live_owes mid.state is.state then live i)) ∙ sym (live_owes was.state is.state (first || then) live)

  hit_through : is_device_suspended is.state ≡ true → owed_in_turn before (owes_through mid.state is.state then) ≡ owes_through was.state is.state (first || then)
  hit_through hit = ap (owed_in_turn before) (device_owes mid.state is.state then hit) ∙ by (is_device_suspended mid.state) refl ∙ sym (device_owes was.state is.state (first || then) hit)
    where
      up : is_device_suspended mid.state ≡ false → (t : Bool) → is_device_suspended was.state ≡ t → t ≡ false
      up e true f = absurd (true≢false (sym (device_still was.state mid.state a.gone f) ∙ e))
      up e false f = refl

      by : (t : Bool) → is_device_suspended mid.state ≡ t → owed_in_turn before (cond t None (Some true)) ≡ owes_hit was.state
      by true e = then_none before ∙ device_owes was.state mid.state first e
      by false e = then_all before ∙ (λ i. cond (sym (up e (is_device_suspended was.state) refl) i) None (Some true))

  other_through : is_suspended is.state ≡ true → is_device_suspended is.state ≡ false → owed_in_turn before (owes_through mid.state is.state then) ≡ owes_through was.state is.state (first || then)
  other_through gone other = ap (owed_in_turn before) (other_owes mid.state is.state then gone other) ∙ by (is_suspended mid.state) refl ∙ sym (other_owes was.state is.state (first || then) gone other)
    where
      up : (t : Bool) → is_device_suspended mid.state ≡ t → t ≡ false
      up true e = absurd (true≢false (sym (device_still mid.state is.state b.gone e) ∙ other))
      up false e = refl

      either : (c d : Bool) → (c ≡ true → d ≡ true) → (c || d) ≡ d
      either true d so = sym (so refl)
      either false d so = refl

      by : (t : Bool) → is_suspended mid.state ≡ t → owed_in_turn before (cond t None (Some (not then))) ≡ owes_other was.state (first || then)
      by true e =
          then_none before ∙ other_owes was.state mid.state first e (up (is_device_suspended mid.state) refl)
          ∙ ap (owes_other was.state) (sym (ap (λ (t : Bool). first || t) (none e) ∙ or_false first))
      by false e =
          ap (λ (o : Option Bool). owed_in_turn o (Some (not then))) (live_owes was.state mid.state first e)
          ∙ (λ i. cond (sym (a.live e) i) None (Some (not (sym (either first then (λ stood. still stood e)) i))))

  pub owes_in_turn : owed_in_turn before (owes_through mid.state is.state then) ≡ owes_through was.state is.state (first || then)
  owes_in_turn = by (is_suspended is.state) refl (is_device_suspended is.state) refl
    where
      by : (t : Bool) → is_suspended is.state ≡ t → (u : Bool) → is_device_suspended is.state ≡ u → owed_in_turn before (owes_through mid.state is.state then) ≡ owes_through was.state is.state (first || then)
      by false e u f = live_through e
      by true e true f = hit_through f
      by true e false f = other_through e f

module _ (rows mid next : List PairRow) (a b : List Answer) (d e : List Deed) (first : InPlacesByDeeds KeepsPair rows d) (then : InPlacesByDeeds KeepsPair mid e) (mid_is : mid ≡ rows_after_deeds d rows) (next_is : next ≡ rows_after_deeds e mid) where
  pub owed_then : OwesExactly rows mid a d → OwesExactly mid next b e → OwesExactly rows next (a ++ b) (d ++ e)
  owed_then one two place r s at there =
      calls_in_turn s.control s.volume a b
      ∙ (λ i. owed_in_turn (owed_first i) (two place m.row s m.at there i))
      ∙ owes_in_turn r m.row s (stood_duplex place rows d) (stood_duplex place mid e) m.is keeps none still
      ∙ ap (owes_through r.state s.state) (sym stood)
    where
      m : After KeepsPair mid place r
      m = after KeepsPair rows mid place r (subst (InPlaces KeepsPair rows) (sym mid_is) (pairs_after rows d first)) at

      keeps : KeepsPair m.row s
      keeps = in_place KeepsPair mid next place m.row s (subst (InPlaces KeepsPair mid) (sym next_is) (pairs_after mid e then)) m.at there

      owed_first : owed_by_calls s.control s.volume a ≡ owes_through r.state m.row.state (stood_duplex place rows d)
      owed_first = ap (λ (x : PairRow). owed_by_calls x.control x.volume a) keeps.same ∙ one place r m.row at m.at

      none : is_suspended m.row.state ≡ true → stood_duplex place mid e ≡ false
      none gone = none_stood place mid e m.row then m.at gone

      still : stood_duplex place rows d ≡ true → is_suspended m.row.state ≡ false → stood_duplex place mid e ≡ true
      still stood live = stood_first place mid e m.row m.at (stands_still place rows d r m.row first at (ap (λ (l : List PairRow). slice_get l place) (sym mid_is) ∙ m.at) stood live)

      stood : stood_duplex place rows (d ++ e) ≡ (stood_duplex place rows d || stood_duplex place mid e)
      stood = stood_in_turn place rows d e ∙ ap (λ (l : List PairRow). stood_duplex place rows d || stood_duplex place l e) (sym mid_is)

-- ---- drops with all tracks

owed_by_whole : (a b : Option Bool) → owed_in_turn a b ≡ Some true → (a ≡ Some true) ⊎ (b ≡ Some true)
owed_by_whole None b is = inr is
owed_by_whole (Some true) b is = inl refl
owed_by_whole (Some false) None is = absurd cc
owed_by_whole (Some false) (Some every) is = inr is

-- Calls that drop a volume with all its tracks have one that does.
pub whole_among : (test : Answer → Bool) (k v : ℕ) → ((a : Answer) → owed_by_call k v a.call ≡ Some true → test a ≡ true) → (answers : List Answer) → owed_by_calls k v answers ≡ Some true → list_any test answers ≡ true
whole_among test k v whole [] is = absurd cc
whole_among test k v whole (a ∷ answers) is = elim (owed_by_whole (owed_by_call k v a.call) (owed_by_calls k v answers) is) [
  | inl here ↦ or_left (test a) (list_any test answers) (whole a here)
  | inr later ↦ or_right (test a) (list_any test answers) (whole_among test k v whole answers later)
]
