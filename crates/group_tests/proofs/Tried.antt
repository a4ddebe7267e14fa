-- Entries that are tried stay so, and what a queue asks of them holds.
use Rattle.std.proofs.Common.{◌≡◌, ℕ, ◌≤◌, Bool, true, nat_lt, nat_le, Ok, Err, List, [], ◌∷◌, ◌++◌, refl, ◌∙◌, arith}
use Rattle.std.specs.Prelude.{filter, Result, OnOk, OnErr}
use Rattle.std.specs.List.{list_all}
use Rattle.std.proofs.lemmas.Bool.{and_parts, and_from, leb-true, le-leb}
use Rattle.std.proofs.lemmas.List.Folds.{list_all-map}
use Rattle.pending_queue.specs.Entries.{WaitingEntry, entry_stamp, last_stamp, is_of_volume, entry_tracks}
use Rattle.group_state.proofs.SoundLaws.{all_up, all_filter, all_joined, last_up_to}
use Rattle.group_tests.specs.Trials.{is_tried, AreTried}

pub tried_later : (at to tracks : ℕ) (entries : List WaitingEntry) → at ≤ to → AreTried at tracks entries → AreTried to tracks entries
tried_later at to tracks entries le tried =
    all_up (is_tried at tracks) (is_tried to tracks) entries
    (λ e is. let parts = and_parts (nat_le (entry_stamp e) at) (nat_lt e.head.track tracks) is in
    and_from (nat_le (entry_stamp e) to) (nat_lt e.head.track tracks) (le-leb (entry_stamp e) to (omega (arith, le, leb-true (entry_stamp e) at parts.0))) parts.1) tried

pub tried_filter : (at tracks : ℕ) (test : WaitingEntry → Bool) (entries : List WaitingEntry) → AreTried at tracks entries → AreTried at tracks (filter test entries)
tried_filter at tracks test entries tried = all_filter (is_tried at tracks) test entries tried

pub tried_last : (at tracks : ℕ) (entries : List WaitingEntry) → AreTried at tracks entries → last_stamp entries ≤ at
tried_last at tracks entries tried =
    last_up_to (record { 0 = at }) 0 entries (omega arith)
    (all_up (is_tried at tracks) (λ e. nat_le (entry_stamp e) at) entries (λ e is. (and_parts (nat_le (entry_stamp e) at) (nat_lt e.head.track tracks) is).0) tried)

pub tried_more : (at tracks : ℕ) (entries : List WaitingEntry) (e : WaitingEntry) → AreTried at tracks entries → is_tried at tracks e ≡ true → AreTried at tracks (entries ++ e ∷ [])
tried_more at tracks entries e tried is = all_joined (is_tried at tracks) entries (e ∷ []) tried (and_from (is_tried at tracks e) true is refl)

pub tried_tracks : (at tracks v : ℕ) (entries : List WaitingEntry) → AreTried at tracks entries → list_all (λ x. nat_lt x tracks) (entry_tracks v entries) ≡ true
tried_tracks at tracks v entries tried =
    list_all-map (λ x. nat_lt x tracks) (λ (e : WaitingEntry). e.head.track) (filter (is_of_volume v) entries)
    ∙ all_up (is_tried at tracks) (λ e. nat_lt e.head.track tracks) (filter (is_of_volume v) entries) (λ e is. (and_parts (nat_le (entry_stamp e) at) (nat_lt e.head.track tracks) is).1)
    (tried_filter at tracks (is_of_volume v) entries tried)

-- what holds after either answer
pub on_either : {A E : Type 0} (r : Result A E) (P Q R : Type 0) → (P → R) → (Q → R) → OnOk r P → OnErr r Q → R
on_either (Ok a) P Q R f g ok err = f ok
on_either (Err e) P Q R f g ok err = g err
