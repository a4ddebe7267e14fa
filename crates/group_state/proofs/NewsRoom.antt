-- The breaks and the done plans of a form fit the room of its group: of each controller one break, and few done plans.
use Rattle.std.proofs.lemmas.List.{take_more, length-map, map-append}
use Rattle.std.proofs.lemmas.Grind.{flat_map-append}
use Rattle.std.proofs.lemmas.List.Sums.{length-filter, count_by-le-length}
use Rattle.std.proofs.Math.Nat.{mul-le-mul_left, mul-suc}
use Rattle.std.proofs.Common.{◌≡◌, ℕ, ◌+◌, ◌*◌, ◌≤◌, ◌<◌, Bool, List, [], ◌∷◌, ◌++◌, length, length-append, length-take-le, append_assoc, get_or, map, take, sym, ap, ◌∙◌, arith}
use Rattle.std.specs.Prelude.{filter}
use Rattle.std.specs.List.{flat_map}
use Rattle.tod_stamp.specs.declared.stamp.Stamp.{Stamp}
use Rattle.ckd_track.specs.declared.write.Cause.{Cause}
use Rattle.pending_queue.specs.Groups.{FormedGroup, HasRoomForDone, most_done_of_control}
use Rattle.group_state.specs.declared.volume.Volume.{Volume}
use Rattle.group_state.specs.Volumes.{numbers_of}
use Rattle.group_state.specs.Controls.{ControlState, formed, reported_break, done_of}
use Rattle.group_state.specs.Groups.{HasRoomForNews, with_news}

-- ---- the done plans of one controller

done_count : (k : ℕ) (test : Volume → Bool) (volumes : List Volume) → length (numbers_of k (filter test volumes)) ≤ length volumes
done_count k test volumes = omega (arith, length-map {B = ℕ × ℕ} (filter test volumes) (λ (u : Volume). (k, u.number)), length-filter test volumes, count_by-le-length test volumes)

-- one more fits, of a controller whose volumes all fit
pub one_done_fits : (first out : FormedGroup) (k : ℕ) (test : Volume → Bool) (volumes : List Volume) (place : ℕ) → out ≡ record first { done = first.done ++ numbers_of k (filter test (take place volumes)) } → place < length volumes
    → length first.done + length volumes ≤ most_done_of_control * first.controls → HasRoomForDone out 1
one_done_fits first out k test volumes place is lt room = less most_done_of_control room
  where
    less : (most : ℕ) → length first.done + length volumes ≤ most * first.controls → length out.done + 1 ≤ most * out.controls
    less most room =
        let more = length-append first.done (numbers_of k (filter test (take place volumes))) in
        omega (arith, room, lt, ap (λ (o : FormedGroup). length o.done) is, ap (λ (o : FormedGroup). most * o.controls) is, more, done_count k test (take place volumes), length-take-le place volumes (omega (arith, lt)))

-- all volumes of a controller fit
pub done_fits : (group : FormedGroup) (controls done volumes : ℕ) → HasRoomForNews group 1 → controls ≡ group.controls → done ≡ length group.done → volumes ≤ most_done_of_control → done + volumes ≤ most_done_of_control * controls
done_fits group controls done volumes room same is few = less most_done_of_control room.done_room few
  where
    less : (most : ℕ) → length group.done + most * 1 ≤ most * group.controls → volumes ≤ most → done + volumes ≤ most * controls
    less most le few = omega (arith, le, few, is, ap (λ m. most * m) same)

pub done_grow : (k : ℕ) (test : Volume → Bool) (volumes : List Volume) (old : List (ℕ × ℕ)) → length volumes ≤ most_done_of_control → length (old ++ numbers_of k (filter test volumes)) ≤ length old + most_done_of_control
done_grow k test volumes old few = less most_done_of_control few
  where
    less : (most : ℕ) → length volumes ≤ most → length (old ++ numbers_of k (filter test volumes)) ≤ length old + most
    less most few = omega (arith, few, length-append old (numbers_of k (filter test volumes)), done_count k test volumes)

-- ---- the controllers, one after another

pub room_first : (group : FormedGroup) (n : ℕ) → length group.breaks ≡ 0 → length group.done ≡ 0 → n ≤ group.controls → HasRoomForNews group n
room_first group n breaks done le = record { breaks_room = omega (arith, breaks, le); done_room = omega (arith, done, mul-le-mul_left most_done_of_control le) }

pub room_for_one : (group : FormedGroup) (n : ℕ) → 1 ≤ n → HasRoomForNews group n → HasRoomForNews group 1
room_for_one group n some room = record {
  breaks_room = omega (arith, room.breaks_room, some);
  done_room = omega (arith, room.done_room, mul-le-mul_left most_done_of_control some);
}

-- so many more of one more
times : (most n : ℕ) → most * (n + 1) ≡ most * n + most
times most n = ap (λ m. most * m) (omega arith) ∙ mul-suc most n

pub room_left : (group more : FormedGroup) (n : ℕ) → HasRoomForNews group (n + 1) → more.controls ≡ group.controls → length more.breaks ≤ length group.breaks + 1 → length more.done ≤ length group.done + most_done_of_control → HasRoomForNews more n
room_left group more n room same breaks done = record {
  breaks_room = omega (arith, room.breaks_room, same, breaks);
  done_room = less most_done_of_control done room.done_room;
}
  where
    less : (most : ℕ) → length more.done ≤ length group.done + most → length group.done + most * (n + 1) ≤ most * group.controls → length more.done + most * n ≤ most * more.controls
    less most grown le = omega (arith, le, grown, ap (λ m. most * m) same, times most n)

flat_more : {A : Type 0} (f : ControlState → List A) (controls : List ControlState) (k : ℕ) (c : ControlState) → k < length controls → c ≡ get_or controls k c → flat_map f (take (k + 1) controls) ≡ flat_map f (take k controls) ++ flat_map f (c ∷ [])
flat_more f controls k c lt is =
    ap (flat_map f) (take_more controls k c lt) ∙ flat_map-append f (take k controls) (get_or controls k c ∷ []) ∙ ap (λ (x : ControlState). flat_map f (take k controls) ++ flat_map f (x ∷ [])) (sym is)

formed_more : (cut : Stamp) (controls : List ControlState) (k : ℕ) (c : ControlState) → k < length controls → c ≡ get_or controls k c
    → flat_map done_of (map (formed cut) (take (k + 1) controls)) ≡ flat_map done_of (map (formed cut) (take k controls)) ++ flat_map done_of (map (formed cut) (c ∷ []))
formed_more cut controls k c lt is =
    ap (λ (cs : List ControlState). flat_map done_of (map (formed cut) cs)) (take_more controls k c lt) ∙ ap (flat_map done_of) (map-append (formed cut) (take k controls) (get_or controls k c ∷ []))
    ∙ flat_map-append done_of (map (formed cut) (take k controls)) (map (formed cut) (get_or controls k c ∷ []))
    ∙ ap (λ (x : ControlState). flat_map done_of (map (formed cut) (take k controls)) ++ flat_map done_of (map (formed cut) (x ∷ []))) (sym is)

-- one controller more
pub news_more : (cut : Stamp) (controls : List ControlState) (k : ℕ) (c : ControlState) (group : FormedGroup) → k < length controls → c ≡ get_or controls k c
    → with_news cut (c ∷ []) (with_news cut (take k controls) group) ≡ with_news cut (take (k + 1) controls) group
news_more cut controls k c group lt is =
    let breaks : (group.breaks ++ flat_map (reported_break cut) (take k controls)) ++ flat_map (reported_break cut) (c ∷ []) ≡ group.breaks ++ flat_map (reported_break cut) (take (k + 1) controls) =
    append_assoc group.breaks (flat_map (reported_break cut) (take k controls)) (flat_map (reported_break cut) (c ∷ []))
    ∙ ap (λ (shown : List (ℕ × Stamp × Cause)). group.breaks ++ shown) (sym (flat_more (reported_break cut) controls k c lt is)) in
    let done : (group.done ++ flat_map done_of (map (formed cut) (take k controls))) ++ flat_map done_of (map (formed cut) (c ∷ [])) ≡ group.done ++ flat_map done_of (map (formed cut) (take (k + 1) controls)) =
    append_assoc group.done (flat_map done_of (map (formed cut) (take k controls))) (flat_map done_of (map (formed cut) (c ∷ [])))
    ∙ ap (λ (shown : List (ℕ × ℕ)). group.done ++ shown) (sym (formed_more cut controls k c lt is)) in
    λ i. record group { breaks = breaks i; done = done i }
