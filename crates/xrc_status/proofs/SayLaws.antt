-- How texts that are said add up.
use Rattle.std.proofs.Common.{◌≡◌, ◌≤◌, ◌+◌, ◌++◌, ℕ, List, Result, Ok, Err, length, take, sym, ◌∙◌, ap, subst, arith, append_assoc, length-append, inl, inr}
use Rattle.std.proofs.lemmas.Bool.{cases_lt}
use Rattle.std.proofs.lemmas.List.{take-append-le}
use Rattle.std.proofs.Math.Seq.{take-append-add}
use Rattle.crash_plant.specs.declared.device.Device.TheVariants.{Control}
use Rattle.crash_plant.specs.Moments.{PlantState}
use Rattle.crash_plant.specs.Calls.{Elapses, Says}
use Rattle.xrc_edge.specs.Causes.{Rose}
use Rattle.crash_plant.proofs.Steps.{works_on_console_trans}
use Rattle.xrc_status.specs.Saying.{SaidWhole, SaysFront, SaysText, SaysWhole}

-- A front of a text is one of a longer text.
pub says_so_far : (tells : Type 0) (x y : List ℕ) (a b : PlantState) → SaysFront tells x a b → SaysFront tells (x ++ y) a b
says_so_far tells x y a b front = record {
  only = front.only;
  moments = λ told.
      let says = front.moments told in
      record {
        front = λ t from to.
            let s = says.front t from to in (
              s.0,
              (omega (arith, s.1, length-append x y)),
              s.2 ∙ ap (λ (l : List ℕ). a.said a.clock ++ l) (sym (take-append-le s.0 x y s.1)),
            );
        grows = says.grows;
        heard = says.heard;
        script = says.script;
      };
}

-- A text, and a front of the next.
module _ (x y : List ℕ) (a b c : PlantState) (past : Elapses b c) (said : SaidWhole x a b) (p : Says x a b) (q : Says y b c) (later : a.clock ≤ b.clock) where
  front_then : (t : ℕ) → a.clock ≤ t → t ≤ c.clock → (k : ℕ) × (k ≤ length (x ++ y)) × (c.said t ≡ a.said a.clock ++ take k (x ++ y))
  front_then t from to = elim (cases_lt t b.clock) [
    | inl early ↦
        let s = p.front t from (omega (arith, early)) in (
          s.0,
          omega (arith, s.1, length-append x y),
          past.said t (omega (arith, early)) (omega (arith, early)) ∙ s.2 ∙ ap (λ (l : List ℕ). a.said a.clock ++ l) (sym (take-append-le s.0 x y s.1)),
        )
    | inr late ↦
        let s = q.front t late to in (
          length x + s.0,
          omega (arith, s.1, length-append x y),
          s.2 ∙ ap (λ (l : List ℕ). l ++ take s.0 y) said ∙ append_assoc (a.said a.clock) x (take s.0 y) ∙ ap (λ (l : List ℕ). a.said a.clock ++ l) (sym (take-append-add x y s.0)),
        )
  ]

  grows_then : (s t : ℕ) → a.clock ≤ s → s ≤ t → t ≤ c.clock → length (c.said s) ≤ length (c.said t)
  grows_then s t from le to = elim (cases_lt s b.clock) [
    | inl early ↦
        let was = ap length (past.said s (omega (arith, early)) (omega (arith, early))) in
        elim (cases_lt t b.clock) [
          | inl soon ↦ omega (arith, was, p.grows s t from le (omega (arith, soon)), ap length (past.said t (omega (arith, soon)) (omega (arith, soon))))
          | inr late ↦
              let f = q.front t late to in
              omega (arith, was, p.grows s b.clock from (omega (arith, early)) (omega arith), ap length f.2, length-append (b.said b.clock) (take f.0 y))
        ]
    | inr late ↦ q.grows s t late le to
  ]

  says_both : Says (x ++ y) a c
  says_both = record {
    front = front_then;
    grows = grows_then;
    heard = λ t from to. elim (cases_lt t b.clock) [
      | inl early ↦ past.heard t (omega (arith, early)) (omega (arith, early)) ∙ p.heard t from (omega (arith, early))
      | inr late ↦ q.heard t late to ∙ p.heard b.clock later (omega arith)
    ];
    script = q.script ∙ p.script;
  }

pub says_then : (tells : Type 0) (x y : List ℕ) (a b c : PlantState) → SaysFront tells x a b → (tells → SaidWhole x a b) → SaysFront tells y b c → SaysFront tells (x ++ y) a c
says_then tells x y a b c first said second = record {
  only = works_on_console_trans tells a b c first.only second.only;
  moments = λ told. says_both x y a b c (second.only.elapses told) (said told) (first.moments told) (second.moments told) ((first.only.elapses told).kept Control).later;
}

-- A call that did not fail has said its text whole.
pub all_said : {T E : Type 0} (tells : Type 0) (x : List ℕ) (a b : PlantState) (v : T) → SaysText {T = T} {E = E} tells x a b (Ok v) → SaysWhole tells x a b
all_said tells x a b v says = record { front = says.front; whole = says.whole; console_count = says.cause.ok }

pub ok_said : {T E : Type 0} (tells : Type 0) (x : List ℕ) (a b : PlantState) (v : T) → SaysWhole tells x a b → SaysText {T = T} {E = E} tells x a b (Ok v)
ok_said tells x a b v says = record {
  front = says.front;
  whole = says.whole;
  cause = record { later = omega (arith, says.console_count); by_one = omega (arith, says.console_count); ok = says.console_count; failed = tt };
}

-- Of two texts the first was said whole, and then the second was said whole or in part.
pub text_then : {T E : Type 0} (tells : Type 0) (x y : List ℕ) (a b c : PlantState) (r : Result T E) → SaysWhole tells x a b → SaysText tells y b c r → SaysText tells (x ++ y) a c r
text_then tells x y a b c (Ok v) first second = record {
  front = says_then tells x y a b c first.front first.whole second.front;
  whole = λ told. second.whole told ∙ ap (λ (l : List ℕ). l ++ y) (first.whole told) ∙ append_assoc (a.said a.clock) x y;
  cause = record { later = omega (arith, first.console_count, second.cause.later); by_one = omega (arith, first.console_count, second.cause.by_one); ok = second.cause.ok ∙ first.console_count; failed = tt };
}
text_then tells x y a b c (Err e) first second = record {
  front = says_then tells x y a b c first.front first.whole second.front;
  whole = λ told. tt;
  cause = record { later = omega (arith, first.console_count, second.cause.later); by_one = omega (arith, first.console_count, second.cause.by_one); ok = tt; failed = subst (λ (n : ℕ). Rose n c.console_faults) first.console_count second.cause.failed };
}

pub whole_then : {T E : Type 0} (tells : Type 0) (x y : List ℕ) (a b c : PlantState) (v : T) → SaysWhole tells x a b → SaysText {T = T} {E = E} tells y b c (Ok v) → SaysWhole tells (x ++ y) a c
whole_then {T} {E} tells x y a b c v first second = all_said {T = T} {E = E} tells (x ++ y) a c v (text_then tells x y a b c (Ok v) first second)

-- A text that was not said whole is a part of a longer one.
pub text_so_far : {T V E F : Type 0} (tells : Type 0) (x y : List ℕ) (a b : PlantState) (e : E) (f : F) → SaysText {T = T} {E = E} tells x a b (Err e) → SaysText {T = V} {E = F} tells (x ++ y) a b (Err f)
text_so_far tells x y a b e f says = record {
  front = says_so_far tells x y a b says.front;
  whole = λ told. tt;
  cause = record { later = says.cause.later; by_one = says.cause.by_one; ok = tt; failed = says.cause.failed };
}
