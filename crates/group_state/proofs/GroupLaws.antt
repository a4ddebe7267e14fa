-- Controllers stand by their numbers after each change.
use Rattle.std.proofs.lemmas.List.{take_more, append-nil, get_or-append_right, get_or-drop, length-take-le}
use Rattle.std.proofs.lemmas.Grind.{flat_map-append}
use Rattle.std.proofs.Common.{◌≡◌, ℕ, zero, suc, ◌-◌, take, drop, append_assoc, length-append, ◌+◌, ◌≤◌, ◌<◌, true, ◌&&◌, List, [], ◌∷◌, ◌++◌, length, get_or, set, map, refl, sym, ap, subst, ◌∙◌, arith, length-set, add-one}
use Rattle.std.specs.Prelude.{nat_eq, nat_le}
use Rattle.std.specs.List.{list_all, flat_map}
use Rattle.std.proofs.lemmas.Bool.{and_parts, and_from, eq-eqb, leb-true, le-leb}
use Rattle.ckd_track.specs.declared.layout.TheConstants.{WRITES_OF_RUN}
use Rattle.xrc_edge.specs.declared.limits.TheConstants.{MOST_CONTROLS}
use Rattle.tod_stamp.specs.declared.stamp.Stamp.{Stamp}
use Rattle.xrc_edge.specs.Order.{in_order}
use Rattle.xrc_edge.proofs.Merges.{order_grows, length_order}
use Rattle.pending_queue.specs.Entries.{WaitingEntry, stands_before}
use Rattle.pending_queue.specs.Groups.{FormedGroup, with_entries}
use Rattle.pending_queue.proofs.EntryLaws.{before_order}
use Rattle.group_state.specs.Controls.{ControlState, new_control, formed, due_of}
use Rattle.group_state.specs.Groups.{new_controls, has_few, are_numbered, AreControlsSound}
use Rattle.group_state.proofs.FormLaws.{all_at}

-- what no change alters
pub record SameQueue (new old : ControlState) : Type 0 where
  pub control : new.queue.control ≡ old.queue.control
  pub records : new.queue.records ≡ old.queue.records

pub same_queue : (new old : ControlState) → new ≡ old → SameQueue new old
same_queue new old e = record { control = ap (λ (c : ControlState). c.queue.control) e; records = ap (λ (c : ControlState). c.queue.records) e }

-- ---- one controller

numbered_set : (first k : ℕ) (controls : List ControlState) (new d : ControlState) → are_numbered first controls ≡ true → k < length controls → SameQueue new (get_or controls k d) → are_numbered first (set controls k new) ≡ true
numbered_set first k [] new d e lt s = absurd (omega arith)
numbered_set first zero (c ∷ controls) new d e lt s =
    let parts = and_parts (nat_eq c.queue.control first && has_few c) (are_numbered (first + 1) controls) e in
    and_from (nat_eq new.queue.control first && has_few new) (are_numbered (first + 1) controls) (ap (λ n. nat_eq n first && nat_le new.queue.records WRITES_OF_RUN) s.control ∙ ap (λ n. nat_eq c.queue.control first && nat_le n WRITES_OF_RUN) s.records ∙ parts.0) parts.1
numbered_set first (suc k) (c ∷ controls) new d e lt s =
    let parts = and_parts (nat_eq c.queue.control first && has_few c) (are_numbered (first + 1) controls) e in
    and_from (nat_eq c.queue.control first && has_few c) (are_numbered (first + 1) (set controls k new)) parts.0 (numbered_set (first + 1) k controls new d parts.1 (omega arith) s)

pub kept_set : (controls : List ControlState) (k : ℕ) (new d : ControlState) → AreControlsSound controls → k < length controls → SameQueue new (get_or controls k d) → AreControlsSound (set controls k new)
kept_set controls k new d keeps lt s = record {
  some = omega (arith, keeps.some, length-set controls k new);
  few = omega (arith, keeps.few, length-set controls k new);
  numbered = numbered_set 0 k controls new d keeps.numbered lt s;
}

-- the same of a controller that was read there and changed
pub kept_change : (controls : List ControlState) (k : ℕ) (new old : ControlState) → AreControlsSound controls → k < length controls → old ≡ get_or controls k old → SameQueue new old → AreControlsSound (set controls k new)
kept_change controls k new old keeps lt is s = kept_set controls k new old keeps lt (subst (SameQueue new) is s)

-- ---- all controllers

numbered_formed : (cut : Stamp) (first : ℕ) (controls : List ControlState) → are_numbered first (map (formed cut) controls) ≡ are_numbered first controls
numbered_formed cut first [] = refl
numbered_formed cut first (c ∷ controls) = ap (λ b. (nat_eq c.queue.control first && has_few c) && b) (numbered_formed cut (first + 1) controls)

length_formed : (cut : Stamp) (controls : List ControlState) → length (map (formed cut) controls) ≡ length controls
length_formed cut [] = refl
length_formed cut (c ∷ controls) = omega (arith, length_formed cut controls)

pub kept_formed : (cut : Stamp) (controls : List ControlState) → AreControlsSound controls → AreControlsSound (map (formed cut) controls)
kept_formed cut controls keeps = record {
  some = omega (arith, keeps.some, length_formed cut controls);
  few = omega (arith, keeps.few, length_formed cut controls);
  numbered = numbered_formed cut 0 controls ∙ keeps.numbered;
}

pub all_few : (first : ℕ) (controls : List ControlState) → are_numbered first controls ≡ true → list_all has_few controls ≡ true
all_few first [] e = refl
all_few first (c ∷ controls) e =
    let parts = and_parts (nat_eq c.queue.control first && has_few c) (are_numbered (first + 1) controls) e in
    and_from (has_few c) (list_all has_few controls) (and_parts (nat_eq c.queue.control first) (has_few c) parts.0).1 (all_few (first + 1) controls parts.1)

-- ---- the first state

pub new_more : (n first records blocks : ℕ) → new_controls (n + 1) first records blocks ≡ new_controls n first records blocks ++ new_control (first + n) records blocks ∷ []
new_more n first records blocks = rw add-one (more n first)
  where
    more : (n first : ℕ) → new_controls (suc n) first records blocks ≡ new_controls n first records blocks ++ new_control (first + n) records blocks ∷ []
    more zero first = ap (λ k. new_control k records blocks ∷ []) (omega arith)
    more (suc n) first = ap (λ (cs : List ControlState). new_control first records blocks ∷ cs) (more n (first + 1) ∙ ap (λ k. new_controls n (first + 1) records blocks ++ new_control k records blocks ∷ []) (omega arith))

pub length_new : (n first records blocks : ℕ) → length (new_controls n first records blocks) ≡ n
length_new zero first records blocks = refl
length_new (suc n) first records blocks = omega (arith, length_new n (first + 1) records blocks)

numbered_new : (n first records blocks : ℕ) → records ≤ WRITES_OF_RUN → are_numbered first (new_controls n first records blocks) ≡ true
numbered_new zero first records blocks le = refl
numbered_new (suc n) first records blocks le =
    and_from (nat_eq first first && nat_le records WRITES_OF_RUN) (are_numbered (first + 1) (new_controls n (first + 1) records blocks)) (and_from (nat_eq first first) (nat_le records WRITES_OF_RUN) (eq-eqb first first refl) (le-leb records WRITES_OF_RUN le)) (numbered_new n (first + 1) records blocks le)

pub kept_new : (n records blocks : ℕ) → 1 ≤ n → n ≤ MOST_CONTROLS → records ≤ WRITES_OF_RUN → AreControlsSound (new_controls n 0 records blocks)
kept_new n records blocks some few le = record { some = omega (arith, some, length_new n 0 records blocks); few = omega (arith, few, length_new n 0 records blocks); numbered = numbered_new n 0 records blocks le }

-- ---- a form over the controllers, one after another

-- a controller that isn't formed yet
pub not_yet : (cut : Stamp) (old now : List ControlState) (k : ℕ) (c : ControlState) → now ≡ map (formed cut) (take k old) ++ drop k old → k < length old → c ≡ get_or now k c → c ≡ get_or old k c
not_yet cut old now k c is lt read =
    let front : length (map (formed cut) (take k old)) ≡ k = length_formed cut (take k old) ∙ length-take-le k old (omega (arith, lt)) in
    read ∙ ap (λ (cs : List ControlState). get_or cs k c) is ∙ get_or-append_right (map (formed cut) (take k old)) (drop k old) k k c front (omega arith) ∙ get_or-drop k old (k - k) c ∙ ap (λ n. get_or old n c) (omega arith)

pub taken_more : (cut : Stamp) (old : List ControlState) (k : ℕ) (c : ControlState) → k < length old → c ≡ get_or old k c → flat_map (due_of cut) (take (k + 1) old) ≡ flat_map (due_of cut) (take k old) ++ due_of cut c
taken_more cut old k c lt is =
    ap (flat_map (due_of cut)) (take_more old k c lt) ∙ flat_map-append (due_of cut) (take k old) (get_or old k c ∷ [])
    ∙ ap (λ (x : ControlState). flat_map (due_of cut) (take k old) ++ (due_of cut x ++ [])) (sym is) ∙ ap (λ (es : List WaitingEntry). flat_map (due_of cut) (take k old) ++ es) (append-nil (due_of cut c))

pub entries_more : (out : FormedGroup) (first more : List WaitingEntry) → with_entries (with_entries out first) more ≡ with_entries out (first ++ more)
entries_more out first more =
    ap (λ (es : List WaitingEntry). record out { entries = es })
    (order_grows stands_before before_order (out.entries ++ first) more ∙ ap (in_order stands_before) (append_assoc out.entries first more))

pub entries_count : (out : FormedGroup) (more : List WaitingEntry) → length (with_entries out more).entries ≡ length out.entries + length more
entries_count out more = length_order stands_before (out.entries ++ more) ∙ length-append out.entries more

pub few_at : (controls : List ControlState) (k : ℕ) (c : ControlState) → list_all has_few controls ≡ true → k < length controls → c ≡ get_or controls k c → c.queue.records ≤ WRITES_OF_RUN
few_at controls k c all lt is = leb-true c.queue.records WRITES_OF_RUN (ap has_few is ∙ all_at has_few controls k c all lt)
