-- The mover's view while seats are split off.
use Rattle.std.proofs.Common.{◌≡◌, ℕ, zero, suc, ◌+◌, ◌<◌, List, [], ◌∷◌, ◌++◌, drop, length, map, Option, Some, refl, sym, ap, ◌∙◌, subst, arith}
use Rattle.std.specs.List.{range_with_len}
use Rattle.std.proofs.lemmas.List.FromFn.{map-range_with_len_more}
use Rattle.atomic_table.specs.Seated.{TableId}
use Rattle.turn.specs.declared.view.SeatStage.TheVariants.{Idle}
use Rattle.turn.specs.Turn.{without_second, second_alone, with_one_more, new_view}
use Rattle.group_state.specs.Groups.{Group, control_at}
use Rattle.group_state.specs.Controls.{is_reporting}
use Rattle.turn_group.specs.Notes.{volumes_known, reader_notes}
use Rattle.turn_group.specs.Notes.SeatNote.{MoverNote, ReaderNote}
use Rattle.turn_group.specs.Seats.{SeatView, ReaderSeatState, AllFrom, IsAtPlace, new_reader, new_readers}
use Rattle.turn_group.proofs.Notes.{notes_more}

-- the mover's view once so many seats are split off: the notes of the other readers are with it
abbrev pub split_view : Group → (made : ℕ) → SeatView
split_view s k = record { first = Some s; stage = Idle; mine = []; joined = []; seats = k + 1; notes = MoverNote s.last (volumes_known s) ∷ reader_notes k (drop k s.controls) }

suc_is : (k : ℕ) → suc k ≡ k + 1
suc_is k = omega arith

pub split_more : (s : Group) (k : ℕ) (v w : SeatView) → k < length s.controls → v ≡ split_view s k → w ≡ with_one_more v → w ≡ split_view s (k + 1)
split_more s k v w lt is next =
    next ∙ (ap (λ z. with_one_more z) is
    ∙ (λ i. record {
      first = Some s;
      stage = Idle;
      mine = [];
      joined = [];
      seats = k + 1 + 1;
      notes = (ap (λ ns. without_second (MoverNote s.last (volumes_known s) ∷ ns)) (notes_more s k lt) ∙ ap (λ n. MoverNote s.last (volumes_known s) ∷ reader_notes n (drop (k + 1) s.controls)) (suc_is k)) i;
    }))

pub split_seat : (table : TableId) (s : Group) (k : ℕ) (v w : SeatView) → k < length s.controls → v ≡ split_view s k → w ≡ new_view v
    → w ≡ record { first = Some s; stage = Idle; mine = []; joined = []; seats = 0; notes = ReaderNote k (control_at s k).floor (is_reporting (control_at s k).phase) ∷ [] }
split_seat table s k v w lt is new =
    new ∙ (ap (λ z. new_view z) is
    ∙ (λ i. record { first = Some s; stage = Idle; mine = []; joined = []; seats = 0; notes = ap (λ ns. second_alone (MoverNote s.last (volumes_known s) ∷ ns)) (notes_more s k lt) i }))

pub readers_more : (table : TableId) (s : Group) (k : ℕ) (made : ReaderSeatState) (old new : List (Option ReaderSeatState)) → old ≡ new_readers table s k → made ≡ new_reader table s k → new ≡ old ++ Some made ∷ [] → new ≡ new_readers table s (k + 1)
readers_more table s k made old new is seat pushed =
    pushed ∙ ((λ i. is i ++ Some (seat i) ∷ []) ∙ sym (map-range_with_len_more (λ j. Some (new_reader table s j)) 0 k k (omega arith)))

places_from : (table : TableId) (s : Group) (a n : ℕ) → AllFrom IsAtPlace a (map (λ k. Some (new_reader table s k)) (range_with_len a n))
places_from table s a zero = tt
places_from table s a (suc n) = (refl, subst (λ b. AllFrom IsAtPlace (suc a) (map (λ k. Some (new_reader table s k)) (range_with_len b n))) (suc_is a) (places_from table s (suc a) n))

pub new_places : (table : TableId) (s : Group) (n : ℕ) (seats : List (Option ReaderSeatState)) → seats ≡ new_readers table s n → AllFrom IsAtPlace 0 seats
new_places table s n seats is = subst (AllFrom IsAtPlace 0) (sym is) (places_from table s 0 n)
