-- What goes through a controller's queue in a run.
use Rattle.std.proofs.Common.{◌≡◌, ℕ, ◌<◌, Bool, true, false, cond, nat_eq, nat_lt, nat_le, ◌&&◌, ◌||◌, not, List, [], ◌∷◌, ◌++◌, length, refl, sym, ap, ◌∙◌, subst, arith, append_assoc, append-nil, length-set}
use Rattle.std.specs.Prelude.{filter, Some}
use Rattle.std.specs.List.{list_all}
use Rattle.std.proofs.lemmas.Bool.{and_parts, eq-eqb}
use Rattle.std.proofs.lemmas.Bool.Decides.{nat_tests}
use Rattle.std.proofs.lemmas.List.{get_or-map, length-map}
use Rattle.std.proofs.lemmas.List.Elements.{All-get_or}
use Rattle.tod_stamp.specs.declared.stamp.Stamp.{Stamp}
use Rattle.ckd_track.specs.declared.rec.Rec.{Rec}
use Rattle.ckd_track.specs.declared.write.Batch.{Batch}
use Rattle.pending_queue.specs.Entries.{WaitingEntry, entries_of, copy_of, copy_head, entry_stamp, entries_never_fall, is_of_volume, is_due, is_later, due, left}
use Rattle.pending_queue.proofs.EntryLaws.{each_once}
use Rattle.group_state.specs.Volumes.{is_wanted}
use Rattle.group_state.specs.Controls.{ControlState, new_control, carried_writes, fits, fits_track, joined, copied, raised, broke, begun_volume, dropped, resumed, forgotten, formed}
use Rattle.group_state.specs.Groups.{Group, control_at, with_control, cut_of, gives_nothing, formed_at, shown_at}
use Rattle.group_state.specs.Machine.{Call, Reply, reply_to, group_after}
use Rattle.group_state.specs.Machine.Call.{Join, NextWanted, Copied, Raise, Break, Form, Carry, Drop, Resume, Forget}
use Rattle.group_state.specs.Machine.Reply.{Formed, Nothing}
use Rattle.group_state.specs.Runs.{Answer, May, Runs, shown_by}
use Rattle.group_state.specs.SoundStates.{Sound, IsGroupSound}
use Rattle.group_state.proofs.SoundLaws.{all_kept}
use Rattle.group_state.proofs.Stands.{at_each}
use Rattle.turn_group.specs.Queues.{waiting_at, gained, is_shown_by, falls, stays_in, stays_of, own_part, part_by, part_of_groups, QueuesFlow}
use Rattle.group_state.proofs.Kept.{kept_next}
use Rattle.group_state.proofs.OwnParts.{own_part as all_parts}

-- ---- filters

-- two tests pass the same of items that pass a third
filter_same : {A : Type 0} (p q t : A → Bool) (items : List A) → list_all t items ≡ true → ((a : A) → t a ≡ true → p a ≡ q a) → filter p items ≡ filter q items
filter_same p q t [] all same = refl
filter_same {A} p q t (a ∷ items) all same =
    let parts = and_parts (t a) (list_all t items) all in
    (λ i. cond (same a parts.0 i) (a ∷ filter p items) (filter p items)) ∙ ap (λ (l : List A). cond (q a) (a ∷ l) l) (filter_same p q t items parts.1 same)

all_true : {A : Type 0} (items : List A) → list_all (λ a. true) items ≡ true
all_true [] = refl
all_true (a ∷ items) = all_true items

filter_true : {A : Type 0} (items : List A) → filter (λ a. true) items ≡ items
filter_true [] = refl
filter_true (a ∷ items) = ap (λ l. a ∷ l) (filter_true items)

filter_more : {A : Type 0} (p : A → Bool) (xs ys : List A) → filter p (xs ++ ys) ≡ filter p xs ++ filter p ys
filter_more p [] ys = refl
filter_more {A} p (x ∷ xs) ys = choose (p x) (filter_more p xs ys)
  where
    choose : (t : Bool) → filter p (xs ++ ys) ≡ filter p xs ++ filter p ys → cond t (x ∷ filter p (xs ++ ys)) (filter p (xs ++ ys)) ≡ cond t (x ∷ filter p xs) (filter p xs) ++ filter p ys
    choose true rest = ap (λ l. x ∷ l) rest
    choose false rest = rest

filter_twice : {A : Type 0} (p q : A → Bool) (items : List A) → filter (λ a. not (not (q a) || not (p a))) items ≡ filter p (filter q items)
filter_twice p q [] = refl
filter_twice {A} p q (a ∷ items) = choose (q a) (p a) refl (filter_twice p q items)
  where
    choose : (t u : Bool) → p a ≡ u → filter (λ a. not (not (q a) || not (p a))) items ≡ filter p (filter q items)
        → cond (not (not t || not u)) (a ∷ filter (λ a. not (not (q a) || not (p a))) items) (filter (λ a. not (not (q a) || not (p a))) items) ≡ filter p (cond t (a ∷ filter q items) (filter q items))
    choose true true is rest = ap (λ l. a ∷ l) rest ∙ sym (ap (λ b. cond b (a ∷ filter p (filter q items)) (filter p (filter q items))) is)
    choose true false is rest = rest ∙ sym (ap (λ b. cond b (a ∷ filter p (filter q items)) (filter p (filter q items))) is)
    choose false u is rest = rest

-- ---- what waits after each call

itself : (k : ℕ) → nat_eq k k ≡ true
itself k = eq-eqb k k refl

-- a change of one controller's queue, which gains something
grown : (s : Group) (j : ℕ) (change : ControlState → ControlState) (more : List WaitingEntry) → j < length s.controls → (change (control_at s j)).queue.waiting ≡ (control_at s j).queue.waiting ++ more
    → (k : ℕ) → waiting_at k (with_control j change s) ≡ waiting_at k s ++ cond (nat_eq j k) more []
grown s j change more lt is =
    at_each (λ k c. c.queue.waiting ≡ waiting_at k s ++ cond (nat_eq j k) more []) s j change lt (is ∙ ap (λ b. waiting_at j s ++ cond b more []) (sym (itself j)))
    (λ k other. sym (append-nil (waiting_at k s)) ∙ ap (λ b. waiting_at k s ++ cond b more []) (sym other))

same_waiting : (s : Group) (j : ℕ) (change : ControlState → ControlState) → j < length s.controls → (change (control_at s j)).queue.waiting ≡ (control_at s j).queue.waiting → (k : ℕ) → waiting_at k (with_control j change s) ≡ waiting_at k s ++ []
same_waiting s j change lt is k =
    at_each (λ k c. c.queue.waiting ≡ waiting_at k s) s j change lt is (λ k other. refl) k ∙ sym (append-nil (waiting_at k s))

nothing_more : (t : Bool) (xs : List WaitingEntry) → xs ≡ xs ++ cond t [] []
nothing_more true xs = sym (append-nil xs)
nothing_more false xs = sym (append-nil xs)

join_waits : (s : Group) (b : Batch) → b.control < length s.controls → (k : ℕ) → waiting_at k (group_after s (Join b)) ≡ waiting_at k s ++ gained k s (Join b)
join_waits s b lt k = choose (fits (control_at s b.control) b)
  where
    choose : (t : Bool) → waiting_at k (cond t (with_control b.control (joined b) s) s) ≡ waiting_at k s ++ cond (nat_eq b.control k) (cond t (entries_of (control_at s b.control).queue.control (carried_writes (control_at s b.control) b)) []) []
    choose true = grown s b.control (joined b) (entries_of (control_at s b.control).queue.control (carried_writes (control_at s b.control) b)) lt refl k
    choose false = nothing_more (nat_eq b.control k) (waiting_at k s)

copy_waits : (s : Group) (j v x : ℕ) (at : Stamp) (slot : List Rec) → j < length s.controls → (k : ℕ) → waiting_at k (group_after s (Copied j v x at slot)) ≡ waiting_at k s ++ gained k s (Copied j v x at slot)
copy_waits s j v x at slot lt k = choose (is_wanted v x (control_at s j).volumes) (fits_track (control_at s j) slot)
  where
    choose : (t u : Bool) → waiting_at k (cond (t && u) (with_control j (copied v x at slot) s) s) ≡ waiting_at k s ++ cond (nat_eq j k) (cond (t && u) (copy_of (copy_head (control_at s j).queue.control v x at) slot ∷ []) []) []
    choose true true = grown s j (copied v x at slot) (copy_of (copy_head (control_at s j).queue.control v x at) slot ∷ []) lt refl k
    choose true false = nothing_more (nat_eq j k) (waiting_at k s)
    choose false u = nothing_more (nat_eq j k) (waiting_at k s)

form_waits : (s : Group) (cut : Stamp) (k : ℕ) → k < length s.controls → waiting_at k (formed_at cut s) ≡ left cut (waiting_at k s)
form_waits s cut k lt = ap (λ (c : ControlState). c.queue.waiting) (get_or-map (formed cut) s.controls k (new_control 0 0 0) (new_control 0 0 0) lt)

drop_waits : (s : Group) (j v : ℕ) (all : Bool) → j < length s.controls → (k : ℕ) → waiting_at k (with_control j (dropped v all) s) ≡ filter (λ e. not (nat_eq j k && is_of_volume v e)) (waiting_at k s)
drop_waits s j v all lt =
    at_each (λ k c. c.queue.waiting ≡ filter (λ e. not (nat_eq j k && is_of_volume v e)) (waiting_at k s)) s j (dropped v all) lt
    (ap (λ t. filter (λ e. not (t && is_of_volume v e)) (waiting_at j s)) (sym (itself j)))
    (λ k other. sym (filter_true (waiting_at k s)) ∙ ap (λ t. filter (λ e. not (t && is_of_volume v e)) (waiting_at k s)) (sym other))

-- ---- a run

-- a queue that grows by what is gained, and of which no form or drop takes anything
grows : (p : WaitingEntry → Bool) (was more now stays out : List WaitingEntry) → now ≡ was ++ more → filter p now ++ stays ≡ out → filter p was ++ (filter p more ++ stays) ≡ out
grows p was more now stays out is rest =
    sym (append_assoc (filter p was) (filter p more) stays) ∙ (ap (λ l. l ++ stays) (sym (filter_more p was more)) ∙ (ap (λ l. filter p l ++ stays) (sym is) ∙ rest))

due_later : (a b : ℕ) → nat_lt a b ≡ true → nat_le b a ≡ false
due_later a b lt = grind (arith, nat_tests)

-- a form takes what is due, and nothing of it falls
takes : (cut : Stamp) (f : WaitingEntry → Bool) (was : List WaitingEntry) → entries_never_fall 0 was ≡ true → filter (λ e. not (not (is_due cut e) && f e)) was ≡ due cut was ++ filter (λ e. not (f e)) (left cut was)
takes cut f was rises =
    let p = λ (e : WaitingEntry). not (not (is_due cut e) && f e) in
    ap (filter p) (sym (each_once cut 0 was rises))
    ∙ (filter_more p (due cut was) (left cut was)
    ∙ (λ i. (filter_same p (λ e. true) (is_due cut) (due cut was) (all_kept (is_due cut) was) (λ e is. ap (λ b. not (not b && f e)) is) ∙ filter_true (due cut was)) i
    ++ filter_same p (λ e. not (f e)) (is_later cut) (left cut was) (all_kept (is_later cut) was) (λ e is. ap (λ b. not (not b && f e)) (due_later cut.0 (entry_stamp e) is)) i))

pub shown_form : (s : Group) (limit : Stamp) (reply : Reply) → reply ≡ reply_to s (Form limit) → shown_by reply ≡ Some (shown_at (cut_of s limit) s)
shown_form s limit reply is = ap shown_by is ∙ choose (gives_nothing s limit)
  where
    choose : (t : Bool) → shown_by (cond t (Nothing (shown_at (cut_of s limit) s)) (Formed (shown_at (cut_of s limit) s))) ≡ Some (shown_at (cut_of s limit) s)
    choose true = refl
    choose false = refl

module _ (k : ℕ) (log : List Answer) (end : Group) where
  abbrev Flows : Group → Type 0
  Flows s = filter (stays_in k log) (waiting_at k s) ++ stays_of k s log ≡ part_of_groups k log ++ waiting_at k end

  abbrev FlowsBy : Group → Call → Reply → Type 0
  FlowsBy s call reply = filter (stays_in k (record { call = call; reply = reply } ∷ log)) (waiting_at k s) ++ (filter (stays_in k log) (gained k s call) ++ stays_of k (group_after s call) log) ≡ (part_by k call reply ++ part_of_groups k log) ++ waiting_at k end

  flow_next : (s : Group) (call : Call) (reply : Reply) → k < length s.controls → IsGroupSound s → May s call → reply ≡ reply_to s call → Flows (group_after s call) → FlowsBy s call reply
  flow_next s (Join b) reply lt h may is rest = grows (stays_in k log) (waiting_at k s) (gained k s (Join b)) (waiting_at k (group_after s (Join b))) (stays_of k (group_after s (Join b)) log) (part_of_groups k log ++ waiting_at k end) (join_waits s b may.control k) rest
  flow_next s (NextWanted j) reply lt h may is rest = rest
  flow_next s (Copied j v x at slot) reply lt h may is rest =
      grows (stays_in k log) (waiting_at k s) (gained k s (Copied j v x at slot)) (waiting_at k (group_after s (Copied j v x at slot))) (stays_of k (group_after s (Copied j v x at slot)) log) (part_of_groups k log ++ waiting_at k end) (copy_waits s j v x at slot may.0 k) rest
  flow_next s (Raise j upto) reply lt h may is rest = grows (stays_in k log) (waiting_at k s) [] (waiting_at k (with_control j (raised upto) s)) (stays_of k (with_control j (raised upto) s) log) (part_of_groups k log ++ waiting_at k end) (same_waiting s j (raised upto) may.0 refl k) rest
  flow_next s (Break j upto cause) reply lt h may is rest =
      grows (stays_in k log) (waiting_at k s) [] (waiting_at k (with_control j (broke upto cause) s)) (stays_of k (with_control j (broke upto cause) s) log) (part_of_groups k log ++ waiting_at k end) (same_waiting s j (broke upto cause) may.0 refl k) rest
  flow_next s (Form limit) reply lt h may is rest =
      let cut = cut_of s limit in
      let shown = shown_form s limit reply is in
      let later = stays_of k (formed_at cut s) log in
      let next : filter (stays_in k log) (left cut (waiting_at k s)) ++ later ≡ part_of_groups k log ++ waiting_at k end = ap (λ l. filter (stays_in k log) l ++ later) (sym (form_waits s cut k lt)) ∙ rest in
      ap (λ o. filter (λ e. not (not (is_shown_by o e) && falls k log e)) (waiting_at k s) ++ later) shown
      ∙ (ap (λ l. l ++ later) (takes cut (falls k log) (waiting_at k s) (All-get_or Sound s.controls k (new_control 0 0 0) lt h.sound).rises)
      ∙ (append_assoc (due cut (waiting_at k s)) (filter (stays_in k log) (left cut (waiting_at k s))) later
      ∙ (ap (λ l. due cut (waiting_at k s) ++ l) next
      ∙ (sym (append_assoc (due cut (waiting_at k s)) (part_of_groups k log) (waiting_at k end))
      ∙ ap (λ l. (l ++ part_of_groups k log) ++ waiting_at k end) (sym (ap (own_part k) shown ∙ all_parts s cut k h lt))))))
  flow_next s (Carry j v plan) reply lt h may is rest = grows (stays_in k log) (waiting_at k s) [] (waiting_at k (with_control j (begun_volume v plan) s)) (stays_of k (with_control j (begun_volume v plan) s) log) (part_of_groups k log ++ waiting_at k end) (same_waiting s j (begun_volume v plan) may.0 refl k) rest
  flow_next s (Drop j v all) reply lt h may is rest =
      let later = stays_of k (with_control j (dropped v all) s) log in
      let gone = λ (e : WaitingEntry). nat_eq j k && is_of_volume v e in
      ap (λ l. l ++ later)
      (filter_same (λ e. not (gone e || falls k log e)) (λ e. not (not (not (gone e)) || not (stays_in k log e))) (λ e. true) (waiting_at k s) (all_true (waiting_at k s)) (λ e yes. twice (gone e) (falls k log e))
      ∙ (filter_twice (stays_in k log) (λ e. not (gone e)) (waiting_at k s) ∙ ap (filter (stays_in k log)) (sym (drop_waits s j v all may k))))
      ∙ rest
    where
      twice : (g f : Bool) → not (g || f) ≡ not (not (not g) || not (not f))
      twice true f = refl
      twice false true = refl
      twice false false = refl
  flow_next s (Resume j v) reply lt h may is rest = grows (stays_in k log) (waiting_at k s) [] (waiting_at k (with_control j (resumed v) s)) (stays_of k (with_control j (resumed v) s) log) (part_of_groups k log ++ waiting_at k end) (same_waiting s j (resumed v) may.0 refl k) rest
  flow_next s (Forget j v) reply lt h may is rest = grows (stays_in k log) (waiting_at k s) [] (waiting_at k (with_control j (forgotten v) s)) (stays_of k (with_control j (forgotten v) s) log) (part_of_groups k log ++ waiting_at k end) (same_waiting s j (forgotten v) may.0 refl k) rest

controls_stay : (s : Group) (call : Call) → length (group_after s call).controls ≡ length s.controls
controls_stay s (Join b) = choose (fits (control_at s b.control) b)
  where
    choose : (t : Bool) → length (cond t (with_control b.control (joined b) s) s).controls ≡ length s.controls
    choose true = length-set s.controls b.control (joined b (control_at s b.control))
    choose false = refl
controls_stay s (NextWanted j) = refl
controls_stay s (Copied j v x at slot) = choose (is_wanted v x (control_at s j).volumes && fits_track (control_at s j) slot)
  where
    choose : (t : Bool) → length (cond t (with_control j (copied v x at slot) s) s).controls ≡ length s.controls
    choose true = length-set s.controls j (copied v x at slot (control_at s j))
    choose false = refl
controls_stay s (Raise j upto) = length-set s.controls j (raised upto (control_at s j))
controls_stay s (Break j upto cause) = length-set s.controls j (broke upto cause (control_at s j))
controls_stay s (Form limit) = length-map s.controls (formed (cut_of s limit))
controls_stay s (Carry j v plan) = length-set s.controls j (begun_volume v plan (control_at s j))
controls_stay s (Drop j v all) = length-set s.controls j (dropped v all (control_at s j))
controls_stay s (Resume j v) = length-set s.controls j (resumed v (control_at s j))
controls_stay s (Forget j v) = length-set s.controls j (forgotten v (control_at s j))

pub queues_flow : QueuesFlow
queues_flow k first [] end lt h run = append-nil (filter (stays_in k []) (waiting_at k first)) ∙ (filter_true (waiting_at k first) ∙ ap (waiting_at k) (sym run))
queues_flow k first (a ∷ log) end lt h run =
    let next = group_after first a.call in
    let rest : Runs next log end = subst (λ (s : Group). Runs s log end) run.2.1 run.3 in
    flow_next k log end first a.call a.reply lt h run.1 run.2.0 (queues_flow k next log end (subst (λ n. k < n) (sym (controls_stay first a.call)) lt) (kept_next first a.call h run.1) rest)
