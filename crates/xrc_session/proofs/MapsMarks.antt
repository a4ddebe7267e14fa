-- Whether a pair was duplex, through the points that a command passes.
use Rattle.std.proofs.Common.{◌≡◌, suc, Bool, true, false, nat_eq, ◌&&◌, ◌||◌, List, [], ◌∷◌, ◌++◌, refl, sym, ap, ◌∙◌, arith}
use Rattle.std.specs.List.{Contains}
use Rattle.std.proofs.lemmas.List.Sums.{fold-append}
use Rattle.pair_table.specs.declared.row.PairRow.{PairRow}
use Rattle.pair_table.specs.declared.row.PairState.{PairState}
use Rattle.pair_table.specs.declared.row.PairState.TheVariants.{Duplex}
use Rattle.pair_table.specs.Refusals.{is_pair}
use Rattle.pair_table.specs.Rows.{state_numbers}
use Rattle.pair_table.proofs.PutLaws.{number_sym}
use Rattle.pair_table.specs.States.{is_device_suspended}
use Rattle.passages.specs.Points.{last_point, was_so}
use Rattle.consistency.specs.Leads.{Point}
use Rattle.consistency.specs.Owing.{has_pair_in, is_same_state, was_duplex}
use Rattle.consistency.specs.Ways.{PassedPoint}
use Rattle.mover.proofs.Pairs.{Among, contains_of}
use Rattle.mover.proofs.Pairs.Among.{Here, Later}
use Rattle.xrc_session.specs.MapsTaken.{PassesBy}

-- ---- states

pub state_sym : (a b : PairState) → is_same_state a b ≡ is_same_state b a
state_sym a b = λ i. number_sym (state_numbers a).0 (state_numbers b).0 i && number_sym (state_numbers a).1 (state_numbers b).1 i && number_sym (state_numbers a).2 (state_numbers b).2 i

-- Where no row of its device stands in a state, a row's pair doesn't.
pub never_in : (z : PairRow) (state : PairState) (rows : List PairRow) → ((r : PairRow) → Among r rows → nat_eq z.device r.device ≡ true → is_same_state state r.state ≡ false) → has_pair_in z state rows ≡ false
never_in z state [] none = refl
never_in z state (r ∷ rows) none =
    both (nat_eq z.device r.device) (is_pair z.primary z.secondary r) (is_same_state state r.state) (has_pair_in z state rows) (none r (Here rows)) (never_in z state rows (λ x there. none x (Later r rows there)))
  where
    both : (a b c d : Bool) → (a ≡ true → c ≡ false) → d ≡ false → ((a && b && c) || d) ≡ false
    both true true c d e f = (λ i. e refl i || d) ∙ f
    both true false c d e f = f
    both false b c d e f = f

-- ---- points

flags : (a b c : Bool) → (a || (b && c)) ≡ (a || (b && (a || (b && c))))
flags true b c = refl
flags false true true = refl
flags false true false = refl
flags false false c = refl

-- The last point is counted in.
was_counted : (so now : Point → Bool) (p : Point) (points : List PassedPoint) (was : Bool) → (points ≡ [] → was ≡ (so p || (now p && was)))
    → was_so so now was points ≡ (so (last_point p points) || (now (last_point p points) && was_so so now was points))
was_counted so now p [] was counted = counted refl
was_counted so now p (n ∷ points) was counted = was_counted so now n.point points (so n.point || (now n.point && was)) (λ none. flags (so n.point) (now n.point) was)

-- Points at which the same is so change nothing.
was_marked : (so now : Point → Bool) (a b was : Bool) (points : List PassedPoint) → was ≡ (a || (b && was)) → ((n : PassedPoint) → Contains points n → (so n.point ≡ a) × (now n.point ≡ b)) → was_so so now was points ≡ was
was_marked so now a b was [] counted same = refl
was_marked so now a b was (n ∷ points) counted same =
    let first = same n (0, omega arith, refl) in
    let stays : (so n.point || (now n.point && was)) ≡ was = (λ i. first.0 i || (first.1 i && was)) ∙ sym counted in
    ap (λ (w : Bool). was_so so now w points) stays ∙ was_marked so now a b was points counted (λ m there. same m (suc there.0, (let low = there.1 in omega (arith, low)), there.2))

module _ (z : PairRow) (first p q : Point) (points more : List PassedPoint) (here : (last_point first points).rows ≡ p.rows) where
  abbrev so : Point → Bool
  so n = has_pair_in z Duplex n.rows

  abbrev now : Point → Bool
  now n = has_pair_in z z.state n.rows

  -- Whether a pair was duplex, by the last point's rows.
  pub duplex_before : was_duplex z first points ≡ (has_pair_in z Duplex p.rows || (has_pair_in z z.state p.rows && was_duplex z first points))
  duplex_before =
      was_counted so now first points (so first) (λ none. one (so first) (now first))
      ∙ ap (λ (rows : List PairRow). has_pair_in z Duplex rows || (has_pair_in z z.state rows && was_duplex z first points)) here
    where
      one : (a b : Bool) → a ≡ (a || (b && a))
      one true b = refl
      one false true = refl
      one false false = refl

  -- A pair that is suspended after a command was duplex exactly if it was before, if its device hasn't failed.
  pub duplex_after : PassesBy p q more → is_device_suspended z.state ≡ false → Among z q.rows → has_pair_in z Duplex q.rows ≡ false → has_pair_in z z.state q.rows ≡ true → was_duplex z first (points ++ more) ≡ was_duplex z first points
  duplex_after by unfailed there never itself =
      ap (λ (all : List PassedPoint). was_duplex z first (points ++ all)) by.are
      ∙ fold-append (λ was n. so n.point || (now n.point && was)) (so first) points (by.marks ++ by.last ∷ [])
      ∙ fold-append (λ was n. so n.point || (now n.point && was)) (was_duplex z first points) by.marks (by.last ∷ [])
      ∙ (λ i. (ap (has_pair_in z Duplex) by.rows ∙ never) i || ((ap (has_pair_in z z.state) by.rows ∙ itself) i && was_so so now (was_duplex z first points) by.marks))
      ∙ was_marked so now (so p) (now p) (was_duplex z first points) by.marks duplex_before
      (λ n among. (by.marked n z Duplex among (contains_of z q.rows there) unfailed, by.marked n z z.state among (contains_of z q.rows there) unfailed))
