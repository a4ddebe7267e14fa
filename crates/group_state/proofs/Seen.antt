-- Entries that wait, seen one for one in a history: more of them, some of them, and in order.
use Rattle.std.proofs.Common.{◌≡◌, Bool, true, false, cond, List, [], ◌∷◌, ◌++◌, refl}
use Rattle.std.specs.Prelude.{filter}
use Rattle.std.specs.List.{list_all, list_any}
use Rattle.std.proofs.lemmas.Bool.{and_parts}
use Rattle.xrc_edge.specs.Order.{put_in_order, in_order}
use Rattle.pending_queue.specs.Entries.{WaitingEntry, stands_before as waits_before}
use Rattle.cut_core.specs.Groups.{CarriedEntry, comes_before}
use Rattle.group_state.specs.Histories.{IsSeen, AreSeen}

pub seen_append : (ws vs : List WaitingEntry) (es fs : List CarriedEntry) → AreSeen ws es → AreSeen vs fs → AreSeen (ws ++ vs) (es ++ fs)
seen_append [] vs [] fs s t = t
seen_append [] vs (e ∷ es) fs s t = absurd s
seen_append (w ∷ ws) vs [] fs s t = absurd s
seen_append (w ∷ ws) vs (e ∷ es) fs s t = (s.0, seen_append ws vs es fs s.1 t)

-- tests that agree on entries that are seen
pub seen_filter : (ok : CarriedEntry → Bool) (p : WaitingEntry → Bool) (q : CarriedEntry → Bool) → ((w : WaitingEntry) (e : CarriedEntry) → IsSeen w e → ok e ≡ true → p w ≡ q e)
    → (ws : List WaitingEntry) (es : List CarriedEntry) → list_all ok es ≡ true → AreSeen ws es → AreSeen (filter p ws) (filter q es)
seen_filter ok p q same [] [] all s = tt
seen_filter ok p q same [] (e ∷ es) all s = absurd s
seen_filter ok p q same (w ∷ ws) [] all s = absurd s
seen_filter ok p q same (w ∷ ws) (e ∷ es) all s =
    let parts = and_parts (ok e) (list_all ok es) all in
    choose (p w) (q e) (same w e s.0 parts.0) (seen_filter ok p q same ws es parts.1 s.1)
  where
    choose : (t u : Bool) → t ≡ u → AreSeen (filter p ws) (filter q es) → AreSeen (cond t (w ∷ filter p ws) (filter p ws)) (cond u (e ∷ filter q es) (filter q es))
    choose true true is rest = (s.0, rest)
    choose false false is rest = rest
    choose true false is rest = absurd cc
    choose false true is rest = absurd cc

pub seen_any : (ok : CarriedEntry → Bool) (p : WaitingEntry → Bool) (q : CarriedEntry → Bool) → ((w : WaitingEntry) (e : CarriedEntry) → IsSeen w e → ok e ≡ true → p w ≡ q e)
    → (ws : List WaitingEntry) (es : List CarriedEntry) → list_all ok es ≡ true → AreSeen ws es → list_any p ws ≡ list_any q es
seen_any ok p q same [] [] all s = refl
seen_any ok p q same [] (e ∷ es) all s = absurd s
seen_any ok p q same (w ∷ ws) [] all s = absurd s
seen_any ok p q same (w ∷ ws) (e ∷ es) all s =
    let parts = and_parts (ok e) (list_all ok es) all in
    rw (same w e s.0 parts.0, seen_any ok p q same ws es parts.1 s.1) refl

-- ---- in order

seen_before : (w v : WaitingEntry) (e f : CarriedEntry) → IsSeen w e → IsSeen v f → waits_before w v ≡ comes_before e f
seen_before w v e f s t = rw (s.stamp, t.stamp, s.control, t.control) refl

seen_put : (w : WaitingEntry) (e : CarriedEntry) (ws : List WaitingEntry) (es : List CarriedEntry) → IsSeen w e → AreSeen ws es → AreSeen (put_in_order waits_before w ws) (put_in_order comes_before e es)
seen_put w e [] [] s t = (s, tt)
seen_put w e [] (f ∷ es) s t = absurd t
seen_put w e (v ∷ ws) [] s t = absurd t
seen_put w e (v ∷ ws) (f ∷ es) s t = choose (waits_before v w) (comes_before f e) (seen_before v w f e t.0 s) (seen_put w e ws es s t.1)
  where
    choose : (b c : Bool) → b ≡ c → AreSeen (put_in_order waits_before w ws) (put_in_order comes_before e es)
        → AreSeen (cond b (v ∷ put_in_order waits_before w ws) (w ∷ v ∷ ws)) (cond c (f ∷ put_in_order comes_before e es) (e ∷ f ∷ es))
    choose true true is rest = (t.0, rest)
    choose false false is rest = (s, t)
    choose true false is rest = absurd cc
    choose false true is rest = absurd cc

pub seen_order : (ws : List WaitingEntry) (es : List CarriedEntry) → AreSeen ws es → AreSeen (in_order waits_before ws) (in_order comes_before es)
seen_order [] [] s = tt
seen_order [] (e ∷ es) s = absurd s
seen_order (w ∷ ws) [] s = absurd s
seen_order (w ∷ ws) (e ∷ es) s = seen_put w e (in_order waits_before ws) (in_order comes_before es) s.0 (seen_order ws es s.1)
