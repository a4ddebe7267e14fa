-- What the calls of a controller's reader report of the controller after a run.
use Rattle.std.proofs.Common.{◌≡◌, ◌<◌, ◌&&◌, ℕ, nat_eq, Bool, true, false, cond, [], ◌∷◌, length, refl, sym, ap, subst, ◌∙◌, arith}
use Rattle.std.proofs.lemmas.Bool.{eq-eqb}
use Rattle.tod_stamp.specs.declared.stamp.Stamp.{Stamp}
use Rattle.group_state.specs.declared.phase.Phase.{Phase}
use Rattle.group_state.specs.declared.phase.Phase.TheVariants as phases
use Rattle.group_state.specs.Calls.{is_by_reader, reporting_after}
use Rattle.group_state.specs.Volumes.{is_wanted}
use Rattle.group_state.specs.Controls.{ControlState, is_reporting, phase_after, fits, fits_track, room_of, joined, copied, raised, broke, begun_volume, dropped, resumed, forgotten}
use Rattle.group_state.specs.Groups.{Group, control_at, with_control, cut_of}
use Rattle.group_state.specs.Machine.{Call, Reply, reply_to_copied, reply_to, group_after, steps}
use Rattle.group_state.specs.Machine.Call.{Join, NextWanted, Copied, Raise, Break, Form, Carry, Drop, Resume, Forget}
use Rattle.group_state.specs.Machine.Reply.{Made, Joined, Held, Stale}
use Rattle.fed_logs.specs.ToldTracks.{floor_of, has_changed}
use Rattle.fed_logs.proofs.Keeping.{at_map}
use Rattle.fed_logs.specs.Feeds.{floor_after_call, is_answer_of, part_of_reader}
use Rattle.fed_logs.proofs.Standing.{at_with, same_count, formed_count}
use Rattle.fed_logs.specs.LaneFeeds.{floor_after_calls, reporting_after_calls}
use Rattle.fed_logs.specs.FeedLaws.{FloorsAreByCalls, ReportingIsByCalls}

either_way : {A : Type 0} (b : Bool) (x : A) → cond b x x ≡ x
either_way true x = refl
either_way false x = refl

abbrev tells_at : Group → (control : ℕ) → Bool
tells_at s k = is_reporting (control_at s k).phase

-- What a controller's floor is after a call, and whether it still reports: a call of its own reader reports that, and no other does.
record IsToldSo (k : ℕ) (s next : Group) (call : Call) (reply : Reply) : Type 0 where
  floor : floor_of next k ≡ cond (is_by_reader k call) (cond (has_changed reply) (floor_after_call (floor_of s k) call) (floor_of s k)) (floor_of s k)
  reporting : tells_at next k ≡ cond (is_by_reader k call) (reporting_after call (tells_at s k)) (tells_at s k)
  count : length next.controls ≡ length s.controls

-- a form leaves whether a controller reports
phase_tells : (cut floor : Stamp) (phase : Phase) → is_reporting (phase_after cut floor phase) ≡ is_reporting phase
phase_tells cut floor phases.Unbroken = refl
phase_tells cut floor (phases.Broken cause) = choose (nat_eq floor.0 cut.0)
  where
    choose : (t : Bool) → is_reporting (cond t phases.Reported (phases.Broken cause)) ≡ false
    choose true = refl
    choose false = refl
phase_tells cut floor phases.Reported = refl

module _ (k : ℕ) (s : Group) (low : k < length s.controls) where
  -- a reader's call that changes its controller
  by_reader : (j : ℕ) (change : ControlState → ControlState) (call : Call) (reply : Reply) → is_by_reader k call ≡ nat_eq j k → has_changed reply ≡ true → (change (control_at s k)).floor.0 ≡ floor_after_call (floor_of s k) call
      → is_reporting (change (control_at s k)).phase ≡ reporting_after call (tells_at s k) → IsToldSo k s (with_control j change s) call reply
  by_reader j change call reply own done floor reporting =
      let mine : cond (is_by_reader k call) (cond (has_changed reply) (floor_after_call (floor_of s k) call) (floor_of s k)) (floor_of s k) ≡ cond (nat_eq j k) (floor_after_call (floor_of s k) call) (floor_of s k) =
      ap (λ t. cond t (cond (has_changed reply) (floor_after_call (floor_of s k) call) (floor_of s k)) (floor_of s k)) own ∙ ap (λ t. cond (nat_eq j k) (cond t (floor_after_call (floor_of s k) call) (floor_of s k)) (floor_of s k)) done in
      record {
        floor = at_with s j k change (λ c. c.floor.0 ≡ cond (nat_eq j k) (floor_after_call (floor_of s k) call) (floor_of s k)) low
            (λ e. floor ∙ sym (ap (λ t. cond t (floor_after_call (floor_of s k) call) (floor_of s k)) (eq-eqb j k e))) (λ apart. sym (ap (λ t. cond t (floor_after_call (floor_of s k) call) (floor_of s k)) apart))
            ∙ sym mine;
        reporting = at_with s j k change (λ c. is_reporting c.phase ≡ cond (is_by_reader k call) (reporting_after call (tells_at s k)) (tells_at s k)) low
            (λ e. reporting ∙ sym (ap (λ t. cond t (reporting_after call (tells_at s k)) (tells_at s k)) (own ∙ eq-eqb j k e))) (λ apart. sym (ap (λ t. cond t (reporting_after call (tells_at s k)) (tells_at s k)) (own ∙ apart)));
        count = same_count s j change;
      }

  -- a call that leaves the state as it was
  by_none : (call : Call) (reply : Reply) → has_changed reply ≡ false → reporting_after call (tells_at s k) ≡ tells_at s k → IsToldSo k s s call reply
  by_none call reply none still = record {
    floor = sym (ap (λ t. cond (is_by_reader k call) (cond t (floor_after_call (floor_of s k) call) (floor_of s k)) (floor_of s k)) none ∙ either_way (is_by_reader k call) (floor_of s k));
    reporting = sym (ap (λ t. cond (is_by_reader k call) t (tells_at s k)) still ∙ either_way (is_by_reader k call) (tells_at s k));
    count = refl;
  }

  -- a call of no reader that changes a controller's volumes
  by_other : (j : ℕ) (change : ControlState → ControlState) (call : Call) (reply : Reply) → is_by_reader k call ≡ false → (change (control_at s k)).floor.0 ≡ floor_of s k → is_reporting (change (control_at s k)).phase ≡ tells_at s k
      → IsToldSo k s (with_control j change s) call reply
  by_other j change call reply other floor reporting = record {
    floor = at_with s j k change (λ c. c.floor.0 ≡ floor_of s k) low (λ e. floor) (λ apart. refl)
        ∙ sym (ap (λ t. cond t (cond (has_changed reply) (floor_after_call (floor_of s k) call) (floor_of s k)) (floor_of s k)) other);
    reporting = at_with s j k change (λ c. is_reporting c.phase ≡ tells_at s k) low (λ e. reporting) (λ apart. refl) ∙ sym (ap (λ t. cond t (reporting_after call (tells_at s k)) (tells_at s k)) other);
    count = same_count s j change;
  }

  told_by : (call : Call) → IsToldSo k s (group_after s call) call (reply_to s call)
  told_by (Join b) = choose (fits (control_at s b.control) b)
    where
      choose : (t : Bool) → IsToldSo k s (cond t (with_control b.control (joined b) s) s) (Join b) (cond t Joined (Held (room_of (control_at s b.control))))
      choose true = by_reader b.control (joined b) (Join b) Joined refl refl refl refl
      choose false = by_none (Join b) (Held (room_of (control_at s b.control))) refl refl
  told_by (NextWanted j) = by_none (NextWanted j) (reply_to s (NextWanted j)) refl refl
  told_by (Copied j v x at slot) = choose (is_wanted v x (control_at s j).volumes) (fits_track (control_at s j) slot)
    where
      choose : (t u : Bool) → IsToldSo k s (cond (t && u) (with_control j (copied v x at slot) s) s) (Copied j v x at slot) (reply_to_copied t u (room_of (control_at s j)))
      choose true true = by_reader j (copied v x at slot) (Copied j v x at slot) Joined refl refl refl refl
      choose true false = by_none (Copied j v x at slot) (Held (room_of (control_at s j))) refl refl
      choose false u = by_none (Copied j v x at slot) Stale refl refl
  told_by (Raise j upto) = by_reader j (raised upto) (Raise j upto) Made refl refl refl refl
  told_by (Break j upto cause) = by_reader j (broke upto cause) (Break j upto cause) Made refl refl refl refl
  told_by (Form limit) =
      let cut = cut_of s limit in
      record {
        floor = ap (λ (c : ControlState). c.floor.0) (at_map cut s.controls k low);
        reporting = ap (λ (c : ControlState). is_reporting c.phase) (at_map cut s.controls k low) ∙ phase_tells cut (control_at s k).floor (control_at s k).phase;
        count = formed_count s cut;
      }
  told_by (Carry j v plan) = by_other j (begun_volume v plan) (Carry j v plan) Made refl refl refl
  told_by (Drop j v all) = by_other j (dropped v all) (Drop j v all) Made refl refl refl
  told_by (Resume j v) = by_other j (resumed v) (Resume j v) (reply_to s (Resume j v)) refl refl refl
  told_by (Forget j v) = by_other j (forgotten v) (Forget j v) Made refl refl refl

  told_after : (next : Group) (call : Call) (reply : Reply) → steps s call reply next → IsToldSo k s next call reply
  told_after next call reply is = subst (λ r. IsToldSo k s next call r) (sym is.0) (subst (λ (g : Group). IsToldSo k s g call (reply_to s call)) (sym is.1) (told_by call))

pub floors_are_by_calls : FloorsAreByCalls
floors_are_by_calls s [] end runs k low = ap (λ (g : Group). floor_of g k) runs
floors_are_by_calls s (a ∷ run) end (next, may, is, rest) k low =
    let b = told_after k s low next a.call a.reply is in
    floors_are_by_calls next run end rest k (omega (arith, low, b.count)) ∙ ap (λ n. floor_after_calls n (part_of_reader k run)) b.floor ∙ choose (is_answer_of k a)
  where
    choose : (t : Bool) → floor_after_calls (cond t (cond (has_changed a.reply) (floor_after_call (floor_of s k) a.call) (floor_of s k)) (floor_of s k)) (part_of_reader k run)
        ≡ floor_after_calls (floor_of s k) (cond t (a ∷ part_of_reader k run) (part_of_reader k run))
    choose true = refl
    choose false = refl

pub reporting_is_by_calls : ReportingIsByCalls
reporting_is_by_calls s [] end runs k low = ap (λ (g : Group). tells_at g k) runs
reporting_is_by_calls s (a ∷ run) end (next, may, is, rest) k low =
    let b = told_after k s low next a.call a.reply is in
    reporting_is_by_calls next run end rest k (omega (arith, low, b.count)) ∙ ap (λ t. reporting_after_calls t (part_of_reader k run)) b.reporting ∙ choose (is_answer_of k a)
  where
    choose : (t : Bool) → reporting_after_calls (cond t (reporting_after a.call (tells_at s k)) (tells_at s k)) (part_of_reader k run) ≡ reporting_after_calls (tells_at s k) (cond t (a ∷ part_of_reader k run) (part_of_reader k run))
    choose true = refl
    choose false = refl
