-- Each controller that has broken was reported so by a call of the run, with its cause.
use Rattle.std.proofs.Common.{inl, inr, ◌≡◌, ℕ, zero, suc, ◌+◌, ◌<◌, Bool, true, false, cond, ◌&&◌, List, [], ◌∷◌, ◌++◌, length, get_or, map, Some, None, refl, sym, ap, subst, ◌∙◌, arith, append_assoc, append-nil, true≢false}
use Rattle.std.specs.Prelude.{◌==◌}
use Rattle.std.specs.List.{All, Contains, flat_map}
use Rattle.std.proofs.lemmas.Bool.{cases_lt}
use Rattle.std.proofs.lemmas.List.{get_or-map, get_or_past, length-map}
use Rattle.std.proofs.lemmas.List.Elements.{Contains-append_left, Contains-push, All-nil, All-cons, All-append}
use Rattle.tod_stamp.specs.declared.stamp.Stamp.{Stamp}
use Rattle.ckd_track.specs.declared.write.Cause.{Cause}
use Rattle.group_state.specs.declared.phase.Phase.{Phase}
use Rattle.group_state.specs.declared.phase.Phase.TheVariants.{Unbroken, Broken, Reported}
use Rattle.group_state.specs.Volumes.{is_wanted}
use Rattle.group_state.specs.Controls.{ControlState, new_control, is_reporting, fits, fits_track, joined, copied, raised, broke, begun_volume, dropped, resumed, forgotten, reported_cause, reported, reported_break, phase_after, formed}
use Rattle.group_state.specs.Groups.{Group, Shown, new_controls, new_group, control_at, with_control, cut_of, formed_at}
use Rattle.group_state.specs.Machine.{Call, group_after, reply_to, steps}
use Rattle.group_state.specs.Machine.Call.{Join, NextWanted, Copied, Raise, Break, Form, Carry, Drop, Resume, Forget}
use Rattle.group_state.specs.Machine.Reply.{Made}
use Rattle.group_state.specs.Runs.{Answer, May, Runs}
use Rattle.group_state.specs.HistoryLaws.{answered, answered_break, BreaksWereReported}
use Rattle.group_state.proofs.Stands.{at_each, stands_first}
use Rattle.group_state.proofs.RunLaws.{split, stands_after, form_shows}

-- a controller that has broken was reported so
abbrev WasReported : List Answer → (control : ℕ) → ControlState → Type 0
WasReported run k c = (cause : Cause) → c.phase ≡ Broken cause → Contains run (answered_break (k, c.floor, cause))

abbrev WereReported : List Answer → Group → Type 0
WereReported run s = (k : ℕ) → WasReported run k (control_at s k)

still_told : (run : List Answer) (a : Answer) (k : ℕ) (c : ControlState) → WasReported run k c → WasReported (run ++ a ∷ []) k c
still_told run a k c told cause is = Contains-append_left run (a ∷ []) (answered_break (k, c.floor, cause)) (told cause is)

all_later : (run : List Answer) (a : Answer) (s : Group) → WereReported run s → WereReported (run ++ a ∷ []) s
all_later run a s told k = still_told run a k (control_at s k) (told k)

-- a controller that reports hasn't broken
still_tells : (run : List Answer) (k : ℕ) (c : ControlState) → is_reporting c.phase ≡ true → WasReported run k c
still_tells run k c tells cause is = absurd (true≢false (sym tells ∙ ap is_reporting is))

same_cause : (a b : Cause) → Broken a ≡ Broken b → a ≡ b
same_cause a b e = cc

broke_before : (cut time : Stamp) (phase : Phase) (cause : Cause) → phase_after cut time phase ≡ Broken cause → phase ≡ Broken cause
broke_before cut time Unbroken cause e = e
broke_before cut time Reported cause e = e
broke_before cut time (Broken other) cause e = choose (time.0 == cut.0) e
  where
    choose : (t : Bool) → cond t Reported (Broken other) ≡ Broken cause → Broken other ≡ Broken cause
    choose true e = absurd cc
    choose false e = e

module _ (run : List Answer) (a : Answer) (s : Group) (told : WereReported run s) where
  -- a call that leaves a controller's floor and phase
  leaves : (j : ℕ) (change : ControlState → ControlState) → j < length s.controls → (change (control_at s j)).floor ≡ (control_at s j).floor → (change (control_at s j)).phase ≡ (control_at s j).phase
      → WereReported (run ++ a ∷ []) (with_control j change s)
  leaves j change lt floor phase = at_each (WasReported (run ++ a ∷ [])) s j change lt
      (λ cause is. subst (λ t. Contains (run ++ a ∷ []) (answered_break (j, t, cause))) (sym floor) (still_told run a j (control_at s j) (told j) cause (sym phase ∙ is)))
      (λ k other. still_told run a k (control_at s k) (told k))

  -- a call after which the controller still reports
  tells : (j : ℕ) (change : ControlState → ControlState) → j < length s.controls → is_reporting (change (control_at s j)).phase ≡ true → WereReported (run ++ a ∷ []) (with_control j change s)
  tells j change lt reporting = at_each (WasReported (run ++ a ∷ [])) s j change lt (still_tells (run ++ a ∷ []) j (change (control_at s j)) reporting) (λ k other. still_told run a k (control_at s k) (told k))

  breaks : (j : ℕ) (upto : Stamp) (cause : Cause) → j < length s.controls → a ≡ answered_break (j, upto, cause) → WereReported (run ++ a ∷ []) (with_control j (broke upto cause) s)
  breaks j upto cause lt is = at_each (WasReported (run ++ a ∷ [])) s j (broke upto cause) lt
      (λ other same. subst (λ c. Contains (run ++ a ∷ []) (answered_break (j, upto, c))) (same_cause cause other same) (subst (Contains (run ++ a ∷ [])) is (Contains-push run a)))
      (λ k other. still_told run a k (control_at s k) (told k))

  forms : (cut : Stamp) → WereReported (run ++ a ∷ []) (formed_at cut s)
  forms cut k = elim (cases_lt k (length s.controls)) [
    | inl lt ↦ subst (WasReported (run ++ a ∷ []) k) (sym (get_or-map (formed cut) s.controls k (new_control 0 0 0) (new_control 0 0 0) lt))
        (λ cause is. still_told run a k (control_at s k) (told k) cause (broke_before cut (control_at s k).floor (control_at s k).phase cause is))
    | inr past ↦ subst (WasReported (run ++ a ∷ []) k) (sym (get_or_past (map (formed cut) s.controls) k (new_control 0 0 0) (omega (arith, past, length-map s.controls (formed cut))))) (λ cause is. absurd cc)
  ]

  by_call : (call : Call) → May s call → (reply_to s call ≡ Made → a ≡ record { call = call; reply = Made }) → WereReported (run ++ a ∷ []) (group_after s call)
  by_call (Join b) may is = choose (fits (control_at s b.control) b)
    where
      choose : (t : Bool) → WereReported (run ++ a ∷ []) (cond t (with_control b.control (joined b) s) s)
      choose true = tells b.control (joined b) may.control may.legal.tells.reporting
      choose false = all_later run a s told
  by_call (NextWanted k) may is = all_later run a s told
  by_call (Copied k v x at slot) may is = choose (is_wanted v x (control_at s k).volumes && fits_track (control_at s k) slot)
    where
      choose : (t : Bool) → WereReported (run ++ a ∷ []) (cond t (with_control k (copied v x at slot) s) s)
      choose true = leaves k (copied v x at slot) may.0 refl refl
      choose false = all_later run a s told
  by_call (Raise k upto) may is = tells k (raised upto) may.0 may.1.reporting
  by_call (Break k upto cause) may is = breaks k upto cause may.0 (is refl)
  by_call (Form limit) may is = forms (cut_of s limit)
  by_call (Carry k v plan) may is = leaves k (begun_volume v plan) may.0 refl refl
  by_call (Drop k v all) may is = leaves k (dropped v all) may refl refl
  by_call (Resume k v) may is = leaves k (resumed v) may.0 refl refl
  by_call (Forget k v) may is = leaves k (forgotten v) may.0 refl refl

-- ---- runs

step_told : (run : List Answer) (a : Answer) (s next : Group) → WereReported run s → May s a.call → steps s a.call a.reply next → WereReported (run ++ a ∷ []) next
step_told run a s next told may made =
    subst (WereReported (run ++ a ∷ [])) (sym made.1) (by_call run a s told a.call may (λ is. ap (λ r. record { call = a.call; reply = r }) (made.0 ∙ is)))

told_after : (done run : List Answer) (s end : Group) → WereReported done s → Runs s run end → WereReported (done ++ run) end
told_after done [] s end told runs = subst (λ answers. WereReported answers end) (sym (append-nil done)) (subst (WereReported done) (sym runs) told)
told_after done (a ∷ run) s end told runs =
    subst (λ answers. WereReported answers end) (append_assoc done (a ∷ []) run) (told_after (done ++ a ∷ []) run runs.0 end (step_told done a s runs.0 told runs.1 runs.2) runs.3)

new_tells : (n first records blocks k : ℕ) → is_reporting (get_or (new_controls n first records blocks) k (new_control 0 0 0)).phase ≡ true
new_tells zero first records blocks k = refl
new_tells (suc n) first records blocks zero = refl
new_tells (suc n) first records blocks (suc k) = new_tells n (first + 1) records blocks k

first_told : (n records blocks : ℕ) → WereReported [] (new_group n records blocks)
first_told n records blocks k = still_tells [] k (control_at (new_group n records blocks) k) (new_tells n 0 records blocks k)

-- ---- what forms show

break_told : (run : List Answer) (cut : Stamp) (k : ℕ) (c : ControlState) → c.queue.control ≡ k → WasReported run k c → All (λ b. Contains run (answered_break b)) (reported_break cut c)
break_told run cut k c number told = by_phase c.phase refl
  where
    by_phase : (phase : Phase) → c.phase ≡ phase → All (λ b. Contains run (answered_break b)) (reported c.queue.control c.floor (reported_cause cut c.floor phase))
    by_phase Unbroken is = All-nil (λ b. Contains run (answered_break b))
    by_phase Reported is = All-nil (λ b. Contains run (answered_break b))
    by_phase (Broken cause) is = choose (c.floor.0 == cut.0)
      where
        choose : (t : Bool) → All (λ b. Contains run (answered_break b)) (reported c.queue.control c.floor (cond t (Some cause) None))
        choose false = All-nil (λ b. Contains run (answered_break b))
        choose true =
            All-cons (λ b. Contains run (answered_break b)) (c.queue.control, c.floor, cause) [] (subst (λ j. Contains run (answered_break (j, c.floor, cause))) (sym number) (told cause is)) (All-nil (λ b. Contains run (answered_break b)))

breaks_told : (run : List Answer) (cut : Stamp) (first : ℕ) (controls : List ControlState) (d : ControlState) → ((i : ℕ) → i < length controls → (get_or controls i d).queue.control ≡ first + i)
    → ((i : ℕ) → i < length controls → WasReported run (first + i) (get_or controls i d)) → All (λ b. Contains run (answered_break b)) (flat_map (reported_break cut) controls)
breaks_told run cut first [] d numbers told = All-nil (λ b. Contains run (answered_break b))
breaks_told run cut first (c ∷ controls) d numbers told =
    All-append (λ b. Contains run (answered_break b)) (reported_break cut c) (flat_map (reported_break cut) controls)
    (break_told run cut (first + 0) c (numbers 0 (omega arith)) (told 0 (omega arith)))
    (breaks_told run cut (first + 1) controls d (λ i lt. numbers (suc i) (omega arith) ∙ omega arith)
    (λ i lt. subst (λ k. WasReported run k (get_or controls i d)) (omega arith) (told (suc i) (omega arith))))

pub breaks_were_reported : BreaksWereReported
breaks_were_reported n before later limit shown f =
    let first = new_group n f.records f.blocks in
    let parts = split first before (answered limit f.reply ∷ later) f.last f.runs in
    let middle = parts.middle in
    let stands = stands_after n [] first before middle (stands_first n f.records f.blocks) parts.first in
    let told = told_after [] before first middle (first_told n f.records f.blocks) parts.first in
    subst (λ (shown : Shown). All (λ b. Contains before (answered_break b)) shown.breaks) (form_shows middle limit f.reply shown parts.second.0 f.shows parts.second.2)
    (breaks_told before (cut_of middle limit) 0 middle.controls (new_control 0 0 0)
    (λ i lt. stands.numbers i (omega (arith, lt, stands.follows.count)) ∙ omega arith)
    (λ i lt. subst (λ k. WasReported before k (control_at middle i)) (omega arith) (told i)))
