-- The theorem on cuts, of what forms show in a run.
use Rattle.std.proofs.Common.{◌≡◌, Bool, true, not, nat_le, ◌&&◌, List, [], ◌∷◌, Option, Some, None, refl, sym, ap, subst, ◌∙◌}
use Rattle.std.specs.Prelude.{filter, is_none}
use Rattle.std.specs.List.{list_all}
use Rattle.std.proofs.lemmas.Bool.{and_parts, and_from}
use Rattle.ckd_track.specs.declared.write.Kind.{Kind}
use Rattle.pending_queue.specs.Entries.{WaitingEntry}
use Rattle.cut_core.specs.Events.{last_cut}
use Rattle.cut_core.specs.Groups.{CarriedEntry, is_copy, group}
use Rattle.cut_core.proofs.Complete.{complete}
use Rattle.cut_core.proofs.Copies.{copies_are_between}
use Rattle.group_state.proofs.SoundLaws.{all_true}
use Rattle.group_state.specs.Runs.{history}
use Rattle.group_state.specs.Histories.{HasContent, IsSeen, AreSeen}
use Rattle.group_state.specs.HistoryLaws.{is_between_cuts, FormsAreComplete}
use Rattle.group_state.proofs.Seen.{seen_filter}
use Rattle.group_state.proofs.RunLaws.{forms_give_groups, form_legal}

-- a copied track is seen as one
pub copy_is_seen : (w : WaitingEntry) (kind : Option Kind) → HasContent w kind → w.is_copy ≡ is_none kind
copy_is_seen w None is = is
copy_is_seen w (Some kind) is = ap (λ (w : WaitingEntry). w.is_copy) is

-- what all seen entries pass, those that wait pass
seen_all : (p : WaitingEntry → Bool) (q : CarriedEntry → Bool) → ((w : WaitingEntry) (e : CarriedEntry) → IsSeen w e → q e ≡ p w) → (ws : List WaitingEntry) (es : List CarriedEntry) → AreSeen ws es → list_all q es ≡ true → list_all p ws ≡ true
seen_all p q same [] [] seen all = refl
seen_all p q same [] (e ∷ es) seen all = absurd seen
seen_all p q same (w ∷ ws) [] seen all = absurd seen
seen_all p q same (w ∷ ws) (e ∷ es) seen all =
    let parts = and_parts (q e) (list_all q es) all in
    and_from (p w) (list_all p ws) (sym (same w e seen.0) ∙ parts.0) (seen_all p q same ws es seen.1 parts.1)

pub forms_are_complete : FormsAreComplete
forms_are_complete n before later limit shown f =
    let past = history before in
    let cut = shown.cut.0 in
    let given = forms_give_groups n before later limit shown f in
    let legal = form_legal n before later limit shown f in
    let all = all_true (λ (e : CarriedEntry). true) (group past cut) (λ e. refl) in
    let writes : AreSeen (filter (λ w. not w.is_copy) shown.entries) (filter (λ e. not (is_copy e)) (group past cut)) =
    seen_filter (λ e. true) (λ w. not w.is_copy) (λ e. not (is_copy e)) (λ w e seen ok. ap not (copy_is_seen w e.kind seen.content)) shown.entries (group past cut) all given.entries in
    let copies : AreSeen (filter (λ w. w.is_copy) shown.entries) (filter is_copy (group past cut)) =
    seen_filter (λ e. true) (λ w. w.is_copy) is_copy (λ w e seen ok. copy_is_seen w e.kind seen.content) shown.entries (group past cut) all given.entries in
    record {
      writes = subst (AreSeen (filter (λ w. not w.is_copy) shown.entries)) (complete n past (history later) cut legal) writes;
      copies = seen_all (is_between_cuts (last_cut past) cut) (λ e. nat_le (last_cut past) e.stamp && nat_le e.stamp cut) (λ w e seen. rw seen.stamp refl)
          (filter (λ w. w.is_copy) shown.entries) (filter is_copy (group past cut)) copies (copies_are_between n past (history later) cut legal);
    }
