-- Rows of events that are legal one after another.
use Rattle.std.proofs.Common.{◌≡◌, ℕ, zero, suc, ◌+◌, ◌<◌, true, List, [], ◌∷◌, ◌++◌, length, get_or, take, map, sym, ap, subst, ◌∙◌, append_assoc, append-nil, arith}
use Rattle.std.proofs.lemmas.Bool.{and_parts}
use Rattle.std.proofs.lemmas.List.{take_more, map-append}
use Rattle.cut_core.specs.declared.event.Event.{Event as Told}
use Rattle.cut_core.specs.Events.{Event}
use Rattle.cut_core.specs.LegalHistories.{is_legal_next, are_legal}
use Rattle.cut_core.specs.HistoryEvents.{history_event}

-- each event is legal after those before it
pub legal_at : (n : ℕ) (past : List Event) (events : List Told) (i : ℕ) (e : Told) → i < length events → e ≡ get_or events i e → are_legal n past (map history_event events) ≡ true → is_legal_next n (past ++ map history_event (take i events)) (history_event e) ≡ true
legal_at n past [] i e lt is legal = absurd (omega arith)
legal_at n past (x ∷ events) zero e lt is legal =
    subst (λ p. is_legal_next n p (history_event e) ≡ true) (sym (append-nil past))
    (subst (λ y. is_legal_next n past (history_event y) ≡ true) (sym is) (and_parts (is_legal_next n past (history_event x)) (are_legal n (past ++ history_event x ∷ []) (map history_event events)) legal).0)
legal_at n past (x ∷ events) (suc i) e lt is legal =
    let parts = and_parts (is_legal_next n past (history_event x)) (are_legal n (past ++ history_event x ∷ []) (map history_event events)) legal in
    subst (λ p. is_legal_next n p (history_event e) ≡ true) (append_assoc past (history_event x ∷ []) (map history_event (take i events)))
    (legal_at n (past ++ history_event x ∷ []) events i e (omega (arith, lt)) is parts.1)

pub seen_more : (events : List Told) (i : ℕ) (e : Told) → i < length events → e ≡ get_or events i e → map history_event (take (i + 1) events) ≡ map history_event (take i events) ++ history_event e ∷ []
seen_more events i e lt is =
    ap (map history_event) (take_more events i e lt) ∙ map-append history_event (take i events) (get_or events i e ∷ [])
    ∙ ap (λ y. map history_event (take i events) ++ history_event y ∷ []) (sym is)
