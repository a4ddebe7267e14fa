-- Each copied track that waits was joined by a call of the run, and is a write of the whole track that was in its slot.
use Rattle.std.proofs.Common.{inl, inr, ◌≡◌, ℕ, zero, suc, ◌+◌, ◌<◌, Bool, true, false, not, cond, ◌&&◌, List, [], ◌∷◌, ◌++◌, length, get_or, map, refl, sym, ap, subst, ◌∙◌, arith, append_assoc, append-nil}
use Rattle.std.specs.Prelude.{filter, IsTrue}
use Rattle.std.specs.List.{AllByRecursion, Contains, flat_map}
use Rattle.std.proofs.lemmas.Bool.{cases_lt}
use Rattle.std.proofs.lemmas.List.{get_or-map, get_or_past, length-map}
use Rattle.std.proofs.lemmas.List.Elements.{Contains-append_left, Contains-push, All-from_recursion}
use Rattle.tod_stamp.specs.declared.stamp.Stamp.{Stamp}
use Rattle.ckd_track.specs.declared.rec.Rec.{Rec}
use Rattle.ckd_track.specs.declared.write.Write.{Write}
use Rattle.xrc_edge.specs.Order.{put_in_order, in_order}
use Rattle.pending_queue.specs.Entries.{WaitingEntry, entries_of, copy_head, copy_of, is_of_volume, is_due, is_later, stands_before}
use Rattle.group_state.specs.Volumes.{is_wanted}
use Rattle.group_state.specs.Controls.{ControlState, new_control, carried_writes, fits, fits_track, joined, copied, raised, broke, begun_volume, dropped, resumed, forgotten, formed, due_of}
use Rattle.group_state.specs.Groups.{Group, Shown, new_controls, new_group, control_at, with_control, cut_of, formed_at}
use Rattle.group_state.specs.Machine.{Call, group_after, reply_to, steps}
use Rattle.group_state.specs.Machine.Call.{Join, NextWanted, Copied, Raise, Break, Form, Carry, Drop, Resume, Forget}
use Rattle.group_state.specs.Machine.Reply.{Joined}
use Rattle.group_state.specs.Runs.{Answer, May, Runs, history}
use Rattle.group_state.specs.HistoryLaws.{answered, answered_copy, WasCopied, CopiesWereReported}
use Rattle.group_state.proofs.Stands.{Stands, at_each, stands_first}
use Rattle.group_state.proofs.Steps.{step}
use Rattle.group_state.proofs.RunLaws.{split, form_shows}
use Rattle.group_state.proofs.Tracks.{event_last}

-- ---- what each item has

abbrev Each : {A : Type 0} → (A → Type 0) → List A → Type 0
Each P items = AllByRecursion P items

each_append : {A : Type 0} (P : A → Type 0) (xs ys : List A) → Each P xs → Each P ys → Each P (xs ++ ys)
each_append P [] ys e f = f
each_append P (x ∷ xs) ys e f = (e.0, each_append P xs ys e.1 f)

each_filter : {A : Type 0} (P : A → Type 0) (keep : A → Bool) (items : List A) → Each P items → Each P (filter keep items)
each_filter P keep [] e = tt
each_filter {A} P keep (a ∷ items) e = choose (keep a) (each_filter P keep items e.1)
  where
    choose : (t : Bool) → Each P (filter keep items) → Each P (cond t (a ∷ filter keep items) (filter keep items))
    choose true rest = (e.0, rest)
    choose false rest = rest

each_up : {A : Type 0} (P Q : A → Type 0) (items : List A) → ((a : A) → P a → Q a) → Each P items → Each Q items
each_up P Q [] up e = tt
each_up P Q (a ∷ items) up e = (up a e.0, each_up P Q items up e.1)

each_put : {A : Type 0} (P : A → Type 0) (below : A → A → Bool) (a : A) (items : List A) → P a → Each P items → Each P (put_in_order below a items)
each_put P below a [] p e = (p, tt)
each_put {A} P below a (b ∷ items) p e = choose (below b a) (each_put P below a items p e.1)
  where
    choose : (t : Bool) → Each P (put_in_order below a items) → Each P (cond t (b ∷ put_in_order below a items) (a ∷ b ∷ items))
    choose true rest = (e.0, rest)
    choose false rest = (p, e)

each_order : {A : Type 0} (P : A → Type 0) (below : A → A → Bool) (items : List A) → Each P items → Each P (in_order below items)
each_order P below [] e = tt
each_order P below (a ∷ items) e = each_put P below a (in_order below items) e.0 (each_order P below items e.1)

each_flat : {A B : Type 0} (P : B → Type 0) (f : A → List B) (items : List A) (d : A) → ((i : ℕ) → i < length items → Each P (f (get_or items i d))) → Each P (flat_map f items)
each_flat P f [] d e = tt
each_flat P f (a ∷ items) d e = each_append P (f a) (flat_map f items) (e 0 (omega arith)) (each_flat P f items d (λ i lt. e (suc i) (omega arith)))

-- ---- each call

abbrev IfCopied : List Answer → WaitingEntry → Type 0
IfCopied run w = IsTrue w.is_copy → WasCopied run w

abbrev WereCopied : List Answer → Group → Type 0
WereCopied run s = (k : ℕ) → Each (IfCopied run) (control_at s k).queue.waiting

still : (run : List Answer) (a : Answer) (w : WaitingEntry) → IfCopied run w → IfCopied (run ++ a ∷ []) w
still run a w was copy =
    let c = was copy in
    record { slot = c.slot; is = c.is; told = Contains-append_left run (a ∷ []) (answered_copy w c.slot) c.told }

writes_are_no_copies : (run : List Answer) (k : ℕ) (writes : List Write) → Each (IfCopied run) (entries_of k writes)
writes_are_no_copies run k [] = tt
writes_are_no_copies run k (w ∷ writes) = (λ copy. absurd cc, writes_are_no_copies run k writes)

module _ (n : ℕ) (run : List Answer) (a : Answer) (s : Group) (h : WereCopied run s) where
  abbrev longer : List Answer
  longer = run ++ a ∷ []

  all_still : (k : ℕ) → Each (IfCopied longer) (control_at s k).queue.waiting
  all_still k = each_up (IfCopied run) (IfCopied longer) (control_at s k).queue.waiting (still run a) (h k)

  changed : (j : ℕ) (change : ControlState → ControlState) → j < length s.controls → Each (IfCopied longer) (change (control_at s j)).queue.waiting → WereCopied longer (with_control j change s)
  changed j change lt each = at_each (λ k c. Each (IfCopied longer) c.queue.waiting) s j change lt each (λ k other. all_still k)

  forms : (cut : Stamp) → WereCopied longer (formed_at cut s)
  forms cut k = elim (cases_lt k (length s.controls)) [
    | inl lt ↦ subst (λ (c : ControlState). Each (IfCopied longer) c.queue.waiting) (sym (get_or-map (formed cut) s.controls k (new_control 0 0 0) (new_control 0 0 0) lt))
        (each_filter (IfCopied longer) (is_later cut) (control_at s k).queue.waiting (all_still k))
    | inr past ↦ subst (λ (c : ControlState). Each (IfCopied longer) c.queue.waiting) (sym (get_or_past (map (formed cut) s.controls) k (new_control 0 0 0) (omega (arith, past, length-map s.controls (formed cut))))) tt
  ]

  joins_copy : (k v x : ℕ) (at : Stamp) (slot : List Rec) → (control_at s k).queue.control ≡ k → a ≡ record { call = Copied k v x at slot; reply = Joined } → IfCopied longer (copy_of (copy_head (control_at s k).queue.control v x at) slot)
  joins_copy k v x at slot number is copy = record {
    slot = slot;
    is = refl;
    told = subst (λ j. Contains longer (record { call = Copied j v x at slot; reply = Joined })) (sym number) (subst (Contains longer) is (Contains-push run a));
  }

  by_call : (call : Call) → May s call → ((k : ℕ) → k < length s.controls → (control_at s k).queue.control ≡ k) → a ≡ record { call = call; reply = reply_to s call } → WereCopied longer (group_after s call)
  by_call (Join b) may numbers is = choose (fits (control_at s b.control) b)
    where
      choose : (t : Bool) → WereCopied longer (cond t (with_control b.control (joined b) s) s)
      choose true = changed b.control (joined b) may.control (each_append (IfCopied longer) (control_at s b.control).queue.waiting (entries_of (control_at s b.control).queue.control (carried_writes (control_at s b.control) b))
          (all_still b.control) (writes_are_no_copies longer (control_at s b.control).queue.control (carried_writes (control_at s b.control) b)))
      choose false = all_still
  by_call (NextWanted k) may numbers is = all_still
  by_call (Copied k v x at slot) may numbers is = choose (is_wanted v x (control_at s k).volumes) refl (fits_track (control_at s k) slot) refl
    where
      choose : (w : Bool) → is_wanted v x (control_at s k).volumes ≡ w → (t : Bool) → fits_track (control_at s k) slot ≡ t → WereCopied longer (cond (w && t) (with_control k (copied v x at slot) s) s)
      choose true wanted true fit =
          let made : a ≡ record { call = Copied k v x at slot; reply = Joined } = is ∙ rw (wanted, fit) refl in
          changed k (copied v x at slot) may.0 (each_append (IfCopied longer) (control_at s k).queue.waiting (copy_of (copy_head (control_at s k).queue.control v x at) slot ∷ [])
          (all_still k) (joins_copy k v x at slot (numbers k may.0) made, tt))
      choose true wanted false fit = all_still
      choose false wanted t fit = all_still
  by_call (Raise k upto) may numbers is = changed k (raised upto) may.0 (all_still k)
  by_call (Break k upto cause) may numbers is = changed k (broke upto cause) may.0 (all_still k)
  by_call (Form limit) may numbers is = forms (cut_of s limit)
  by_call (Carry k v plan) may numbers is = changed k (begun_volume v plan) may.0 (all_still k)
  by_call (Drop k v all) may numbers is = changed k (dropped v all) may (each_filter (IfCopied longer) (λ w. not (is_of_volume v w)) (control_at s k).queue.waiting (all_still k))
  by_call (Resume k v) may numbers is = changed k (resumed v) may.0 (all_still k)
  by_call (Forget k v) may numbers is = changed k (forgotten v) may.0 (all_still k)

-- ---- runs

step_copied : (n : ℕ) (run : List Answer) (a : Answer) (s next : Group) → WereCopied run s → May s a.call → ((k : ℕ) → k < length s.controls → (control_at s k).queue.control ≡ k) → steps s a.call a.reply next → WereCopied (run ++ a ∷ []) next
step_copied n run a s next h may numbers made =
    subst (WereCopied (run ++ a ∷ [])) (sym made.1) (by_call n run a s h a.call may numbers (ap (λ r. record { call = a.call; reply = r }) made.0))

copied_after : (n : ℕ) (done run : List Answer) (s end : Group) → WereCopied done s → Stands n (history done) s → Runs s run end → WereCopied (done ++ run) end
copied_after n done [] s end h stands runs = subst (λ answers. WereCopied answers end) (sym (append-nil done)) (subst (WereCopied done) (sym runs) h)
copied_after n done (a ∷ run) s end h stands runs =
    let next = runs.0 in
    let numbers = λ (k : ℕ) (lt : k < length s.controls). stands.numbers k (omega (arith, lt, stands.follows.count)) in
    let were = step_copied n done a s next h runs.1 numbers runs.2 in
    let after = step n (history done) s a.call a.reply next stands runs.1 runs.2 in
    subst (λ answers. WereCopied answers end) (append_assoc done (a ∷ []) run)
    (copied_after n (done ++ a ∷ []) run next end were (subst (λ past. Stands n past next) (event_last done a) after) runs.3)

first_waiting : (n first records blocks k : ℕ) → (get_or (new_controls n first records blocks) k (new_control 0 0 0)).queue.waiting ≡ []
first_waiting zero first records blocks k = refl
first_waiting (suc n) first records blocks zero = refl
first_waiting (suc n) first records blocks (suc k) = first_waiting n (first + 1) records blocks k

first_copied : (n records blocks : ℕ) → WereCopied [] (new_group n records blocks)
first_copied n records blocks k = subst (Each (IfCopied [])) (sym (first_waiting n 0 records blocks k)) tt

pub copies_were_reported : CopiesWereReported
copies_were_reported n before later limit shown f =
    let first = new_group n f.records f.blocks in
    let parts = split first before (answered limit f.reply ∷ later) f.last f.runs in
    let middle = parts.middle in
    let cut = cut_of middle limit in
    let were = copied_after n [] before first middle (first_copied n f.records f.blocks) (stands_first n f.records f.blocks) parts.first in
    let due = each_flat (IfCopied before) (due_of cut) middle.controls (new_control 0 0 0) (λ i lt. each_filter (IfCopied before) (is_due cut) (control_at middle i).queue.waiting (were i)) in
    let entries = each_order (IfCopied before) stands_before (flat_map (due_of cut) middle.controls) due in
    All-from_recursion (IfCopied before) shown.entries
    (subst (λ (shown : Shown). Each (IfCopied before) shown.entries) (form_shows middle limit f.reply shown parts.second.0 f.shows parts.second.2) entries)
