use Rattle.std.proofs.Common.{arith, ◌≡◌, ◌∷◌, ◌++◌, [], List, length, map, Option, Some, sym, ap, ◌∙◌, subst, length-append}
use Rattle.std.specs.Prelude.{All}
use Rattle.turn.specs.Turn.{AllTrue}
use Rattle.turn_group.specs.Notes.{says}
use Rattle.turn_group.specs.Seats.{SeatView, ReaderSeatState, IsSeated, IsAtPlace, calls_at, AllFrom, IsOwn}
use Rattle.turn_group.proofs.Places.{from_front}
use Rattle.turn_group.proofs.Gathering.{shifted, all_front, own_pushed, true_front}
use Rattle.turn_group.proofs.group.gather.Goals as goal

pub loop-place-preserved-in-Some-place : goal.loop-place-preserved-in-Some-place
loop-place-preserved-in-Some-place c =
    let was = c.loop-place.invariant in
    let rest = c.pop.new.self.items in
    let reader = c.in-Some-place.reader in
    let view = c.reader.inside.seat.place.me.0 in
    let old = c.loop-place.mover.place.me.0 in
    let did = c.join.ensures.joined in
    let home = IsSeated c.args.table.now.board.shared.table_id in
    let items : c.loop-place.places.items ≡ rest ++ Some reader ∷ [] = c.in-Some.ensures.items ∙ ap (λ p. rest ++ p ∷ []) c.in-Some-place.is in
    let places = subst (AllFrom IsAtPlace 0) items was.places in
    record {
      same = (c.join.ensures.same.0 ∙ was.same.0, c.join.ensures.same.1 ∙ was.same.1);
      mine = ap (λ (v : SeatView). v.mine) did ∙ was.mine;
      joined = shifted rest c.loop-place.places.items reader old.joined c.join.new.mover.place.me.0.joined (map calls_at c.args.places.items) items was.joined
          (ap (λ (v : SeatView). v.joined) did ∙ (ap (λ l. view.mine ∷ l ++ old.joined) c.reader.invariant.unjoined ∙ ap (λ (s : ReaderSeatState). s.calls ∷ old.joined) c.reader.view_is));
      homes = all_front home rest (Some reader ∷ []) (subst (All home) items was.homes);
      places = from_front IsAtPlace 0 rest (Some reader ∷ []) places;
      own = (λ all. was.own
          (subst (λ (l : List (Option ReaderSeatState)). AllFrom IsOwn 0 (map calls_at l)) (sym items) (own_pushed rest reader places (subst (λ (s : ReaderSeatState). IsOwn s.control s.calls) c.reader.view_is c.reader.invariant.own) all)));
      noted = λ s true_now. was.noted s (true_front s old.notes view.notes (subst (AllTrue says s) (ap (λ (v : SeatView). v.notes) did) true_now));
      seats = (let less = ap (λ (v : SeatView). v.seats) did in let before = was.seats in let longer = ap length items ∙ length-append rest (Some reader ∷ []) in omega arith);
    }
