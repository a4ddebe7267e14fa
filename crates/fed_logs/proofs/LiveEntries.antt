-- Deeds one after the other, whose groups have entries of rows that are live when the groups are formed.
use Rattle.std.proofs.Common.{Bool, true, false, List, [], ◌∷◌, ◌++◌}
use Rattle.pair_table.specs.declared.row.PairRow.{PairRow}
use Rattle.record_rows.specs.Deeds.{Deed, rows_after_deeds}
use Rattle.record_rows.specs.Deeds.Deed.{Logged, Changed, Marked}
use Rattle.fed_logs.specs.Moves.{AreEntriesLive, AreLiveIn, LiveByDeeds, is_mark_due_after}
use Rattle.fed_logs.specs.LogLaws.{LiveEntriesInTurn}

live_of_more : (due : Bool) (seen wider : List PairRow) (deeds : List Deed) → AreLiveIn wider seen → AreEntriesLive due seen deeds → AreEntriesLive due wider deeds
live_of_more due seen wider [] up live = tt
live_of_more due seen wider (Logged cut entries next ∷ deeds) up live = (λ place entry low. up _ _ (live.0 place entry low), live.1)
live_of_more due seen wider (Changed at next ∷ deeds) up live = live
live_of_more true seen wider (Marked spot ended next ∷ deeds) up live = live
live_of_more false seen wider (Marked spot ended next ∷ deeds) up live = live_of_more false seen wider deeds up live

-- The rows that were seen may be wider than those that are now.
live_then : (due : Bool) (rows seen : List PairRow) (a b : List Deed) → AreLiveIn seen rows → LiveByDeeds rows a → AreEntriesLive due seen a → AreEntriesLive (is_mark_due_after due a) (rows_after_deeds a rows) b → AreEntriesLive due seen (a ++ b)
live_then due rows seen [] b up fewer first then = live_of_more due rows seen b up then
live_then due rows seen (Logged cut entries next ∷ a) b up fewer first then = (first.0, live_then true next next a b (λ k v has. has) fewer.1 first.1 then)
live_then due rows seen (Changed at next ∷ a) b up fewer first then = live_then due next next a b (λ k v has. has) fewer.1 first then
live_then true rows seen (Marked spot ended next ∷ a) b up fewer first then = live_then false next next a b (λ k v has. has) fewer.1 first then
live_then false rows seen (Marked spot ended next ∷ a) b up fewer first then = live_then false next seen a b (λ k v has. up k v (fewer.0 k v has)) fewer.1 first then

pub live_in_turn : LiveEntriesInTurn
live_in_turn due rows a b fewer first then = live_then due rows rows a b (λ k v has. has) fewer first then
