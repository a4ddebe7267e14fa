-- Entries of groups are of rows that are live when the groups are formed: deeds between two calls, and deeds one after another.
use Rattle.std.proofs.Common.{◌≡◌, ◌+◌, ◌^◌, ◌-◌, ℕ, Bool, true, false, cond, nat_eq, nat_le, List, [], ◌∷◌, ◌++◌, refl, sym, ap, ◌∙◌, arith}
use Rattle.std.proofs.lemmas.Bool.{eqb-true, le-leb, leb-false}
use Rattle.pair_table.specs.declared.row.PairRow.{PairRow}
use Rattle.record_rows.specs.Deeds.{Deed, rows_by_deed}
use Rattle.record_rows.specs.Deeds.Deed.{Logged, Changed, Marked}
use Rattle.fed_logs.specs.Moves.{AreEntriesLive, AreLiveIn, AreQuiet, LiveByDeeds, is_mark_due_after}
use Rattle.site_store.specs.Records.{one_more}
use Rattle.mover.specs.Moves.{InPlacesByDeeds, KeepPairs, KeepsPair}
use Rattle.mover.proofs.SamePairs.{at_of, before, contains_at}

-- ---- rows

-- Rows that keep their pairs are live only where rows before were.
live_in : (rows next : List PairRow) → KeepPairs rows next → AreLiveIn rows next
live_in rows next are k v has =
    let at = at_of next has.row has.among in
    let b = before KeepsPair rows next at.0 has.row are at.1 in
    record {
      row = b.row;
      among = contains_at rows at.0 b.row b.at;
      control = ap (λ (x : PairRow). x.control) (sym b.is.same) ∙ has.control;
      volume = ap (λ (x : PairRow). x.volume) (sym b.is.same) ∙ has.volume;
      state = b.is.live has.state;
    }

pub live_by_deeds : (rows : List PairRow) (deeds : List Deed) → InPlacesByDeeds KeepsPair rows deeds → LiveByDeeds rows deeds
live_by_deeds rows [] are = tt
live_by_deeds rows (deed ∷ deeds) are = (live_in rows (rows_by_deed deed) are.0, live_by_deeds (rows_by_deed deed) deeds are.1)

-- Quiet deeds log no group.
pub quiet_live : (due : Bool) (seen : List PairRow) (time : ℕ) (rows : List PairRow) (deeds : List Deed) (next : List PairRow) → AreQuiet time rows deeds next → AreEntriesLive due seen deeds
quiet_live due seen time rows [] next is = tt
quiet_live due seen time rows (Logged cut entries fewer ∷ deeds) next is = absurd is
quiet_live due seen time rows (Changed at fewer ∷ deeds) next is = quiet_live due fewer time fewer deeds next is.2
quiet_live true seen time rows (Marked spot ended fewer ∷ deeds) next is = quiet_live false fewer time fewer deeds next is.1
quiet_live false seen time rows (Marked spot ended fewer ∷ deeds) next is = quiet_live false seen time fewer deeds next is.1

-- ---- marks that are due

pub due_append : (due : Bool) (a b : List Deed) → is_mark_due_after due (a ++ b) ≡ is_mark_due_after (is_mark_due_after due a) b
due_append due [] b = refl
due_append due (Logged cut entries rows ∷ a) b = due_append true a b
due_append due (Changed time rows ∷ a) b = due_append due a b
due_append due (Marked spot ended rows ∷ a) b = due_append false a b

-- After a group a mark is due.
pub one_is_due : (since : ℕ) → nat_le 1 (one_more since) ≡ true
one_is_due since = by (nat_eq since (2 ^ 32 - 1)) refl
  where
    by : (t : Bool) → nat_eq since (2 ^ 32 - 1) ≡ t → nat_le 1 (cond t since (since + 1)) ≡ true
    by true is = let e = eqb-true since (2 ^ 32 - 1) is in le-leb 1 since (omega (arith, e))
    by false is = le-leb 1 (since + 1) (omega arith)

-- Where none is due no group was logged since the last mark.
pub none_since : (since : ℕ) → nat_le 1 since ≡ false → since ≡ 0
none_since since is = let low = leb-false 1 since is in omega (arith, low)
