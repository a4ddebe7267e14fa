-- No volume begins to be kept by the calls of readers and mover.
use Rattle.std.proofs.Common.{◌≡◌, ℕ, ◌<◌, true, List, [], ◌∷◌, length, refl, sym, ap, subst, ◌∙◌, arith, true≢false}
use Rattle.std.specs.List.{list_all}
use Rattle.std.proofs.lemmas.Bool.{and_parts}
use Rattle.write_trace.specs.declared.trace.Trace.{Trace}
use Rattle.group_state.specs.Controls.{ControlState, dropped}
use Rattle.group_state.specs.Groups.{Group, control_at, cut_of, formed_at, with_control}
use Rattle.group_state.specs.Machine.{Call, Reply}
use Rattle.group_state.specs.Machine.Call.{Join, NextWanted, Copied, Raise, Break, Form, Carry, Drop, Resume, Forget}
use Rattle.group_state.specs.Runs.{Answer}
use Rattle.fed_logs.proofs.Keeping.{at_map}
use Rattle.fed_logs.specs.Feeds.{is_call_of_reader}
use Rattle.fed_logs.specs.Logs.{IsFedLog, is_call_of_seat}
use Rattle.fed_logs.proofs.ReadCalls.{answer_of, drop_log, form_log, read_on}
use Rattle.fed_logs.proofs.Standing.{at_with, formed_count, same_count}
use Rattle.mover.specs.OwedTracks.{is_volume_kept}
use Rattle.mover.proofs.Copying.{kept_dropped, kept_formed, kept_read, kept_within, read_within}

module _ (traces : List Trace) (k v : ℕ) where
  abbrev KeptBack : List Answer → Group → Type 0
  KeptBack run end = (s : Group) → IsFedLog traces s end run → is_volume_kept v (control_at end k) ≡ true → is_volume_kept v (control_at s k) ≡ true

  read_back : (call : Call) (reply : Reply) (run : List Answer) (end : Group) → is_call_of_reader call ≡ true → KeptBack run end → KeptBack (answer_of call reply ∷ run) end
  read_back call reply run end reads rest s log kept =
      let on = read_on traces s end call reply run reads log in
      let there = rest on.next on.log kept in
      sym (kept_read s on.next call reply k v on.went (read_within s on.next call reply k v on.went there)) ∙ there

  one_back : (call : Call) (reply : Reply) (run : List Answer) (end : Group) → KeptBack run end → KeptBack (answer_of call reply ∷ run) end
  one_back (Join batch) reply run end rest s log kept = read_back (Join batch) reply run end refl rest s log kept
  one_back (NextWanted j) reply run end rest s log kept = read_back (NextWanted j) reply run end refl rest s log kept
  one_back (Copied j w x at slot) reply run end rest s log kept = read_back (Copied j w x at slot) reply run end refl rest s log kept
  one_back (Raise j upto) reply run end rest s log kept = read_back (Raise j upto) reply run end refl rest s log kept
  one_back (Break j upto cause) reply run end rest s log kept = read_back (Break j upto cause) reply run end refl rest s log kept
  one_back (Form limit) reply run end rest s log kept =
      let cut = cut_of s limit in
      let there = rest (formed_at cut s) (form_log traces s end limit reply run log) kept in
      let low : k < length s.controls = (let l = kept_within (formed_at cut s) k v there in omega (arith, l, formed_count s cut)) in
      sym (kept_formed cut v (control_at s k)) ∙ sym (ap (is_volume_kept v) (at_map cut s.controls k low)) ∙ there
  one_back (Drop j w all) reply run end rest s log kept =
      let there = rest (with_control j (dropped w all) s) (drop_log traces s end j w all reply run log) kept in
      let low : k < length s.controls = (let l = kept_within (with_control j (dropped w all) s) k v there in omega (arith, l, same_count s j (dropped w all))) in
      sym (at_with s j k (dropped w all) (λ (c : ControlState). is_volume_kept v c ≡ is_volume_kept v (control_at s k)) low (λ is. kept_dropped w all v (control_at s k)) (λ apart. refl)) ∙ there
  one_back (Carry j w plan) reply run end rest s log kept = absurd (true≢false (sym (and_parts (is_call_of_seat (answer_of (Carry j w plan) reply)) (list_all is_call_of_seat run) log.seats).0))
  one_back (Resume j w) reply run end rest s log kept = absurd (true≢false (sym (and_parts (is_call_of_seat (answer_of (Resume j w) reply)) (list_all is_call_of_seat run) log.seats).0))
  one_back (Forget j w) reply run end rest s log kept = absurd (true≢false (sym (and_parts (is_call_of_seat (answer_of (Forget j w) reply)) (list_all is_call_of_seat run) log.seats).0))

  -- A volume that is kept after a log was kept before it.
  pub kept_back : (run : List Answer) (end : Group) → KeptBack run end
  kept_back [] end = λ s log kept. subst (λ (g : Group). is_volume_kept v (control_at g k) ≡ true) log.runs kept
  kept_back (a ∷ run) end = one_back a.call a.reply run end (kept_back run end)
