-- What is said only grows.
use Rattle.std.proofs.Common.{◌≡◌, ◌⊎◌, inl, inr, ℕ, zero, suc, ◌+◌, ◌<◌, ◌≤◌, List, [], ◌∷◌, ◌++◌, length, take, refl, sym, ap, ◌∙◌, append_assoc, append-nil, arith}
use Rattle.std.proofs.lemmas.Bool.{cases_lt}
use Rattle.std.proofs.lemmas.List.{length-append, length-take-le}
use Rattle.crash_plant.specs.declared.device.Device.TheVariants.{Control}
use Rattle.crash_plant.specs.Calls.{Elapses, Says}
use Rattle.crash_plant.specs.Moments.{PlantState}
use Rattle.script_lines.specs.Hearing.{SaysNothing}
use Rattle.std.specs.Prelude.{Result}
use Rattle.xrc_session.specs.Frames.{KeepsPlant, SaidGrows}
use Rattle.xrc_session.specs.Starting.{IsWorkOfStart}
use Rattle.xrc_status.specs.declared.stop.Stop.{Stop}

-- It does where nothing is said.
pub silent_grows : (old new : PlantState) → old.clock ≤ new.clock → SaysNothing old new → SaidGrows old new
silent_grows old new later silent = record {
  more = [];
  said = silent new.clock later (omega arith) ∙ sym (append-nil (old.said old.clock));
  moments = λ up s t from on to. ([], silent t (omega (arith, from, on)) to ∙ sym (silent s from (omega (arith, on, to))) ∙ sym (append-nil (new.said s)));
}

pub here_grows : (old : PlantState) → SaidGrows old old
here_grows old = silent_grows old old (omega arith) (λ t from to. ap old.said (omega (arith, from, to)))

-- A longer front begins with a shorter one.
longer : (j k : ℕ) (l : List ℕ) → j ≤ k → (more : List ℕ) × (take k l ≡ take j l ++ more)
longer zero k l le = (take k l, refl)
longer (suc j) zero l le = absurd (omega (arith, le))
longer (suc j) (suc k) [] le = ([], refl)
longer (suc j) (suc k) (b ∷ l) le = let rest = longer j k l (omega (arith, le)) in (rest.0, (λ i. b ∷ rest.1 i))

-- It does where a text is said.
pub says_grows : (bytes : List ℕ) (old new : PlantState) → old.clock ≤ new.clock → Says bytes old new → SaidGrows old new
says_grows bytes old new later says = record { more = take front_now.0 bytes; said = front_now.2; moments = λ up. by_moments }
  where
    front_now : (k : ℕ) × (k ≤ length bytes) × (new.said new.clock ≡ old.said old.clock ++ take k bytes)
    front_now = says.front new.clock later (omega arith)

    by_moments : (s t : ℕ) → old.clock ≤ s → s ≤ t → t ≤ new.clock → (after : List ℕ) × (new.said t ≡ new.said s ++ after)
    by_moments s t from on to =
        let early = says.front s from (omega (arith, on, to)) in
        let late = says.front t (omega (arith, from, on)) to in
        let size : (k : ℕ) → k ≤ length bytes → length (old.said old.clock ++ take k bytes) ≡ length (old.said old.clock) + k = λ k le. length-append (old.said old.clock) (take k bytes) ∙ ap (λ (n : ℕ). length (old.said old.clock) + n) (length-take-le k bytes le) in
        let first : length (new.said s) ≡ length (old.said old.clock) + early.0 = ap (λ (l : List ℕ). length l) early.2 ∙ size early.0 early.1 in
        let last : length (new.said t) ≡ length (old.said old.clock) + late.0 = ap (λ (l : List ℕ). length l) late.2 ∙ size late.0 late.1 in
        let grown = says.grows s t from on to in
        let rest = longer early.0 late.0 bytes (omega (arith, first, last, grown)) in
        (rest.0, late.2 ∙ ap (λ (l : List ℕ). old.said old.clock ++ l) rest.1 ∙ sym (append_assoc (old.said old.clock) (take early.0 bytes) rest.0) ∙ ap (λ (l : List ℕ). l ++ rest.0) (sym early.2))

-- It does in turn.
pub grows_then : (old mid new : PlantState) → old.clock ≤ mid.clock → Elapses mid new → SaidGrows old mid → SaidGrows mid new → SaidGrows old new
grows_then old mid new since elapses first then = record {
  more = first.more ++ then.more;
  said = then.said ∙ ap (λ (l : List ℕ). l ++ then.more) first.said ∙ append_assoc (old.said old.clock) first.more then.more;
  moments = by_moments;
}
  where
    by_moments : 0 < old.clock → (s t : ℕ) → old.clock ≤ s → s ≤ t → t ≤ new.clock → (after : List ℕ) × (new.said t ≡ new.said s ++ after)
    by_moments up s t from on to = by_late (cases_lt mid.clock t)
      where
        now : 0 < mid.clock
        now = omega (arith, up, since)

        past : (r : ℕ) → r ≤ mid.clock → new.said r ≡ mid.said r
        past r le = elapses.said r now le

        by_early : mid.clock < t → (mid.clock ≤ s) ⊎ (s < mid.clock) → (more : List ℕ) × (new.said t ≡ new.said s ++ more)
        by_early late (inl after) = then.moments now s t after on to
        by_early late (inr before) =
            let one = first.moments up s mid.clock from (omega (arith, before)) (omega arith) in
            let two = then.moments now mid.clock t (omega arith) (omega (arith, late)) to in
            (one.0 ++ two.0, two.1 ∙ ap (λ (l : List ℕ). l ++ two.0) (past mid.clock (omega arith) ∙ one.1) ∙ append_assoc (mid.said s) one.0 two.0 ∙ ap (λ (l : List ℕ). l ++ (one.0 ++ two.0)) (sym (past s (omega (arith, before)))))

        sides : (s < mid.clock) ⊎ (mid.clock ≤ s) → (mid.clock ≤ s) ⊎ (s < mid.clock)
        sides (inl less) = inr less
        sides (inr more) = inl more

        by_late : (mid.clock < t) ⊎ (t ≤ mid.clock) → (more : List ℕ) × (new.said t ≡ new.said s ++ more)
        by_late (inl late) = by_early late (sides (cases_lt s mid.clock))
        by_late (inr early) =
            let one = first.moments up s t from on early in
            (one.0, past t early ∙ one.1 ∙ ap (λ (l : List ℕ). l ++ one.0) (sym (past s (omega (arith, on, early)))))

-- The work of a start keeps the plant: it says nothing.
pub start_keeps : {T : Type 0} (tells : Type 0) (old new : PlantState) (result : Result T Stop) → IsWorkOfStart tells old new result → KeepsPlant tells old new
start_keeps tells old new result works = record { site = works.site; home = works.home; elapses = works.elapses; grows = λ told. silent_grows old new ((works.elapses told).kept Control).later (works.silent told).said }
