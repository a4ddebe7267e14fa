-- Entries of a volume whose row is live.
use Rattle.std.proofs.Common.{◌≡◌, true, List, [], ◌∷◌, nat_eq, subst}
use Rattle.std.specs.List.{All, list_all}
use Rattle.std.proofs.lemmas.Bool.{and_parts, eqb-true}
use Rattle.std.proofs.lemmas.List.Elements.{All-cons, All-nil}
use Rattle.pair_table.specs.declared.row.PairRow.{PairRow}
use Rattle.pending_queue.specs.Entries.{WaitingEntry}
use Rattle.cut_core.specs.Shares.{names_volume}
use Rattle.fed_logs.specs.Moves.{HasRowIn, IsLive, IsOfLiveRow}
use Rattle.group_tests.specs.LogVectors.{HasLiveRow}

pub of_live : (rows : List PairRow) (entries : List WaitingEntry) → HasLiveRow rows → list_all (λ e. names_volume 0 0 e.head.control e.head.volume) entries ≡ true → All (IsOfLiveRow rows) entries
of_live rows [] live are = All-nil (IsOfLiveRow rows)
of_live rows (e ∷ entries) live are =
    let all = and_parts (names_volume 0 0 e.head.control e.head.volume) (list_all (λ e. names_volume 0 0 e.head.control e.head.volume) entries) are in
    let named = and_parts (nat_eq 0 e.head.control) (nat_eq 0 e.head.volume) all.0 in
    All-cons (IsOfLiveRow rows) e entries
    (subst (λ k. HasRowIn IsLive k e.head.volume rows) (eqb-true 0 e.head.control named.0) (subst (λ v. HasRowIn IsLive 0 v rows) (eqb-true 0 e.head.volume named.1) live))
    (of_live rows entries live all.1)
