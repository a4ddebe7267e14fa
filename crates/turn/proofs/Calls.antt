-- For a call that stands between `take_turn` and `pass_turn`.
use Rattle.std.proofs.Common.{◌≡◌, ◌≢◌, ℕ, [], ◌∷◌, ap, ◌∙◌, subst, Option, List, Some, sym}
use Rattle.atomic_table.specs.declared.shared.Seat.{Seat}
use Rattle.turn.specs.declared.view.Ticketed.{Ticketed}
use Rattle.turn.specs.declared.view.View.{View}
use Rattle.turn.specs.Turn.{ticketed, with_ticketed, IsSameSeat, AllTrue, Took, MayPass, HasPassed, HasCalled, ReachesBy, IsReached}

module _ {X E R N : Type 0} where
  -- what `pass_turn` asks, by what `take_turn` gave and what the machine did
  pub may_pass : (steps : X → E → R → X → Type 0) (part : N → ℕ) {says : X → N → Type 0} {p q : Seat (Option X) (View X E R N)} {x : X} → Took steps says p x q → (e : E) (r : R) (old n : N) (y : X) → p.me.0.notes ≡ old ∷ []
      → steps x e r y → part n ≡ part old → says y n → ((u : N) → part u ≢ part old → says x u → says y u) → MayPass steps part says q e r n y
  may_pass steps part {x = x} took e r old n y had did same_part true_then others = record {
    ticket = took.ticket;
    state = x;
    old = old;
    notes = ap (λ m. m.0.notes) took.me ∙ had;
    same_part = same_part;
    true_then = true_then;
    others = others;
    stage = ap (λ m. m.0.stage) took.me;
    carried = ap (λ m. m.1) took.me;
    did = did;
  }

  -- the one note of a seat is true of the state that it took
  pub noted : {steps : X → E → R → X → Type 0} {says : X → N → Type 0} {p q : Seat (Option X) (View X E R N)} {x : X} → Took steps says p x q → (n : N) → p.me.0.notes ≡ n ∷ [] → says x n
  noted {says = says} {x = x} took n had = (subst (AllTrue says x) had took.noted).0

  -- what a call has done between the seats p and s
  pub has_called : {steps : X → E → R → X → Type 0} {says : X → N → Type 0} {p q s : Seat (Option X) (View X E R N)} {x : X} {e : E} {r : R} {n : N} → IsSameSeat p q → Took steps says p x q → IsSameSeat q s → HasPassed q e r n s → HasCalled p e r n s
  has_called {e = e} {r = r} {n = n} first took then passed = record {
    same_seat = (then.0 ∙ first.0, then.1 ∙ first.1);
    ticket = passed.ticket;
    me = passed.me ∙ ap (λ m. (with_ticketed m.0 (ticketed passed.ticket e r) n, [])) took.me;
  }

  pub same_notes : {steps : X → E → R → X → Type 0} {says : X → N → Type 0} {p q : Seat (Option X) (View X E R N)} {x : X} → Took steps says p x q → q.me.0.notes ≡ p.me.0.notes
  same_notes took = ap (λ m. m.0.notes) took.me

module _ {X E R : Type 0} (steps : X → E → R → X → Type 0) (Q : X → Type 0) (lasts : (x : X) (e : E) (r : R) (y : X) → Q x → steps x e r y → Q y) where
  -- what each event keeps is true after any run
  pub runs_keep : (x : X) (log : List (Ticketed E R)) (y : X) → ReachesBy steps x log y → Q x → Q y
  runs_keep x [] y run q = subst Q run q
  runs_keep x (e ∷ es) y run q = runs_keep run.0 es y run.2 (lasts x e.event e.reply run.0 q run.1)

  -- and so of the state that a seat has in hand, where it is true of the state that its view begins with
  pub still : (first : Option X) (start x : X) → first ≡ Some start → IsReached steps first x → Q start → Q x
  still first start x is reached q =
      let both : Some start ≡ Some reached.start = sym is ∙ reached.first_is in
      let same_start : start ≡ reached.start = cc in
      runs_keep reached.start reached.log x reached.runs (subst Q same_start q)
