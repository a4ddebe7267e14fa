-- What entries leave of a track.
use Rattle.std.proofs.Common.{◌≡◌, ℕ, ◌≤◌, Bool, true, false, cond, nat_le, List, [], ◌∷◌, ◌++◌, Option, refl, sym, ap, ◌∙◌, arith}
use Rattle.std.specs.Prelude.{filter}
use Rattle.std.specs.List.{list_all}
use Rattle.std.proofs.lemmas.Bool.{and_parts, leb-true, le-leb}
use Rattle.ckd_track.specs.declared.rec.Rec.{Rec}
use Rattle.pending_queue.specs.Entries.{WaitingEntry, entry_stamp}
use Rattle.image_former.specs.Changes.{changed_by}
use Rattle.fed_logs.specs.ToldTracks.{after_entries, is_queued_up_to}

pub changed_append : (on : WaitingEntry → Bool) (xs ys : List WaitingEntry) (old : Option (List Rec)) → after_entries on (xs ++ ys) old ≡ after_entries on ys (after_entries on xs old)
changed_append on [] ys old = refl
changed_append on (x ∷ xs) ys old = changed_append on xs ys (changed_by (on x) x.kind old)

-- entries on which two tests agree
pub changed_alike : (on at : WaitingEntry → Bool) (is : WaitingEntry → Bool) (xs : List WaitingEntry) (old : Option (List Rec)) → ((e : WaitingEntry) → is e ≡ true → on e ≡ at e) → list_all is xs ≡ true → after_entries on xs old ≡ after_entries at xs old
changed_alike on at is [] old same all = refl
changed_alike on at is (x ∷ xs) old same all =
    let parts = and_parts (is x) (list_all is xs) all in
    ap (λ b. after_entries on xs (changed_by b x.kind old)) (same x parts.0) ∙ changed_alike on at is xs (changed_by (at x) x.kind old) same parts.1

pub changed_none : (on : WaitingEntry → Bool) (is : WaitingEntry → Bool) (xs : List WaitingEntry) (old : Option (List Rec)) → ((e : WaitingEntry) → is e ≡ true → on e ≡ false) → list_all is xs ≡ true → after_entries on xs old ≡ old
changed_none on is [] old none all = refl
changed_none on is (x ∷ xs) old none all =
    let parts = and_parts (is x) (list_all is xs) all in
    ap (λ b. after_entries on xs (changed_by b x.kind old)) (none x parts.0) ∙ changed_none on is xs old none parts.1

-- A filter that leaves out only what a test doesn't pass.
pub changed_filter : (on is : WaitingEntry → Bool) (xs : List WaitingEntry) (old : Option (List Rec)) → ((e : WaitingEntry) → is e ≡ false → on e ≡ false) → after_entries on (filter is xs) old ≡ after_entries on xs old
changed_filter on is [] old none = refl
changed_filter on is (x ∷ xs) old none = choose (is x) refl (changed_filter on is xs)
  where
    choose : (t : Bool) → is x ≡ t → ((o : Option (List Rec)) → ((e : WaitingEntry) → is e ≡ false → on e ≡ false) → after_entries on (filter is xs) o ≡ after_entries on xs o)
        → after_entries on (cond t (x ∷ filter is xs) (filter is xs)) old ≡ after_entries on xs (changed_by (on x) x.kind old)
    choose true i rest = rest (changed_by (on x) x.kind old) none
    choose false i rest = rest old none ∙ ap (λ b. after_entries on xs (changed_by b x.kind old)) (sym (none x i))

-- ---- stamps

-- up to a time that isn't below any stamp, the same are on the track as up to a later one
pub up_to_later : (v x floor t : ℕ) (xs : List WaitingEntry) (old : Option (List Rec)) → floor ≤ t → list_all (λ e. nat_le (entry_stamp e) floor) xs ≡ true → after_entries (is_queued_up_to v x t) xs old ≡ after_entries (is_queued_up_to v x floor) xs old
up_to_later v x floor t xs old le all = changed_alike (is_queued_up_to v x t) (is_queued_up_to v x floor) (λ e. nat_le (entry_stamp e) floor) xs old
    (λ e is. rw (is, le-leb (entry_stamp e) t (omega (arith, leb-true (entry_stamp e) floor is))) refl) all
