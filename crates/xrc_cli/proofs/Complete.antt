-- A run in which nothing calls for a stop is done.
use Rattle.std.proofs.Common.{◌≡◌, ◌⊎◌, inl, inr, ℕ, ◌==◌, ◌||◌, Bool, true, false, nat_eq, List, [], length, Option, Some, None, refl, sym, ap, ◌∙◌, arith}
use Rattle.std.proofs.lemmas.Bool.{eqb-true}
use Rattle.crash_plant.specs.declared.device.Device.TheVariants.{Control, Journal, State}
use Rattle.crash_plant.specs.Moments.{PlantState}
use Rattle.mover.specs.declared.lane.Lane.{Lane}
use Rattle.xrc_status.specs.declared.stop.Stop.{Stop}
use Rattle.xrc_status.specs.declared.stop.Stop.TheVariants.{BadHeader, BadLine, BadSite, BadWords, ConsoleFault, ControlFault, Damaged, HeaderFault, JournalFault, NoMemory, NoSession, OtherSession, Spent, StateFault, TooSmall, VolumeFault}
use Rattle.xrc_status.specs.Stops.{status_of}
use Rattle.xrc_session.specs.Lanes.{AllTold, SourceBytes}
use Rattle.xrc_session.specs.Openings.{opening_stop, stop_of_headers, stop_of_site}
use Rattle.xrc_session.specs.Runs.{AreCountsBelow}
use Rattle.xrc_cli.specs.Laws.{IsGoodScript, NoStoreRose}
use Rattle.xrc_cli.specs.Statuses.{EndsScriptRun}
use Rattle.xrc_cli.proofs.ScriptTexts.{no_bad_line}

-- ---- statuses

last_or : (status : ℕ) (others : Bool) (n : ℕ) → (others || nat_eq status n) ≡ true → (others ≡ true) ⊎ (status ≡ n)
last_or status true n is = inl refl
last_or status false n is = inr (eqb-true status n is)

-- A bad line alone has the status 4.
pub bad_line_is : (stop : Stop) → status_of stop ≡ 4 → (n : ℕ) × (stop ≡ BadLine n)
bad_line_is (BadLine n) is = (n, refl)
bad_line_is NoMemory is = absurd (omega (arith, is))
bad_line_is BadWords is = absurd (omega (arith, is))
bad_line_is ConsoleFault is = absurd (omega (arith, is))
bad_line_is (JournalFault j) is = absurd (omega (arith, is))
bad_line_is ControlFault is = absurd (omega (arith, is))
bad_line_is StateFault is = absurd (omega (arith, is))
bad_line_is (BadHeader trace place) is = absurd (omega (arith, is))
bad_line_is (HeaderFault trace) is = absurd (omega (arith, is))
bad_line_is NoSession is = absurd (omega (arith, is))
bad_line_is (OtherSession name) is = absurd (omega (arith, is))
bad_line_is (Damaged d place) is = absurd (omega (arith, is))
bad_line_is VolumeFault is = absurd (omega (arith, is))
bad_line_is (TooSmall d needed) is = absurd (omega (arith, is))
bad_line_is BadSite is = absurd (omega (arith, is))
bad_line_is Spent is = absurd (omega (arith, is))

-- ---- the law

module _ {S P : Type 0} (tells : Type 0) (told : tells) (state : P → PlantState) (left : S → Option (List ℕ)) (faults : S → ℕ) (old new : P) (session : List ℕ) (storage : ℕ) (before now : List (Lane S)) (status : ℕ) (sources : List SourceBytes)
    (ends : EndsScriptRun tells state left faults session storage before now old new status) (given : AllTold left faults before now sources) (opens : opening_stop storage (state old) sources ≡ None) (good : IsGoodScript (state old).script)
    (quiet : NoStoreRose (state old) (state new)) (below : AreCountsBelow (state new)) where
  -- Numbers, lengths and headers are good.
  not_by_site : (status ≡ 14) ⊎ (status ≡ 16) → ⊥
  not_by_site is =
      let site = ends.opens.of_site is in
      let due : stop_of_site storage (length sources) (state old) ≡ Some site.0 = ap (λ (n : ℕ). stop_of_site storage n (state old)) given.many ∙ site.2 in
      let stops : opening_stop storage (state old) sources ≡ Some site.0 = ap (λ (o : Option Stop). elim o [ Some stop ↦ Some stop | None ↦ stop_of_headers 0 [] sources ]) due in
      cc (opens, stops)

  not_by_headers : (status ≡ 8) ⊎ (status ≡ 9) → ⊥
  not_by_headers is =
      let header = ends.opens.of_headers is in
      let stops = header.3 sources given in
      cc (opens, stops)

  -- Each line counts.
  not_by_line : status ≡ 4 → ⊥
  not_by_line is =
      let ran = ends.ran told below sources given opens in
      let stopped = ran.stopped (λ zero. omega (arith, is, zero)) in
      let (n, bad) = bad_line_is stopped.stop (sym stopped.status_is ∙ is) in
      no_bad_line tells told (state old).script ran.lines good.lines stopped.text (state new).script ran.asked good.asked good.whole stopped.script (stopped.of_bad n bad).1

  -- No count rose.
  not_by_console : status ≡ 3 → ⊥
  not_by_console is = quiet.console (ends.cause.console is)

  not_by_journal : status ≡ 5 → ⊥
  not_by_journal is = let rose = ends.cause.journal is in quiet.devices (Journal rose.0) tt rose.1

  not_by_control : status ≡ 6 → ⊥
  not_by_control is = quiet.devices Control tt (ends.cause.control is)

  not_by_state : status ≡ 7 → ⊥
  not_by_state is = quiet.devices State tt (ends.cause.state is)

  abbrev Ends : Type 0
  Ends = (status ≡ 0) ⊎ ((status ≡ 1) ⊎ (status ≡ 24))

  of_1 : (status == 0 || status == 1) ≡ true → Ends
  of_1 is = elim (last_or status (status == 0) 1 is) [ inl others ↦ inl (eqb-true status 0 others) | inr here ↦ inr (inl here) ]

  of_3 : (status == 0 || status == 1 || status == 3) ≡ true → Ends
  of_3 is = elim (last_or status (status == 0 || status == 1) 3 is) [ inl others ↦ of_1 others | inr here ↦ absurd (not_by_console here) ]

  of_4 : (status == 0 || status == 1 || status == 3 || status == 4) ≡ true → Ends
  of_4 is = elim (last_or status (status == 0 || status == 1 || status == 3) 4 is) [ inl others ↦ of_3 others | inr here ↦ absurd (not_by_line here) ]

  of_5 : (status == 0 || status == 1 || status == 3 || status == 4 || status == 5) ≡ true → Ends
  of_5 is = elim (last_or status (status == 0 || status == 1 || status == 3 || status == 4) 5 is) [ inl others ↦ of_4 others | inr here ↦ absurd (not_by_journal here) ]

  of_6 : (status == 0 || status == 1 || status == 3 || status == 4 || status == 5 || status == 6) ≡ true → Ends
  of_6 is = elim (last_or status (status == 0 || status == 1 || status == 3 || status == 4 || status == 5) 6 is) [ inl others ↦ of_5 others | inr here ↦ absurd (not_by_control here) ]

  of_7 : (status == 0 || status == 1 || status == 3 || status == 4 || status == 5 || status == 6 || status == 7) ≡ true → Ends
  of_7 is = elim (last_or status (status == 0 || status == 1 || status == 3 || status == 4 || status == 5 || status == 6) 7 is) [ inl others ↦ of_6 others | inr here ↦ absurd (not_by_state here) ]

  of_9 : (status == 0 || status == 1 || status == 3 || status == 4 || status == 5 || status == 6 || status == 7 || status == 8 || status == 9) ≡ true → Ends
  of_9 is = elim (last_or status (status == 0 || status == 1 || status == 3 || status == 4 || status == 5 || status == 6 || status == 7 || status == 8) 9 is) [
    | inr nine ↦ absurd (not_by_headers (inr nine))
    | inl rest ↦ elim (last_or status (status == 0 || status == 1 || status == 3 || status == 4 || status == 5 || status == 6 || status == 7) 8 rest) [ inl others ↦ of_7 others | inr here ↦ absurd (not_by_headers (inl here)) ]
  ]

  -- It is done, but for want of memory and for numbers that are spent.
  pub is_complete : Ends
  is_complete = elim (last_or status _ 24 ends.cause.known) [
    | inr spent ↦ inr (inr spent)
    | inl some ↦ elim (last_or status _ 16 some) [
      | inr here ↦ absurd (not_by_site (inr here))
      | inl rest ↦ elim (last_or status _ 14 rest) [ inl others ↦ of_9 others | inr here ↦ absurd (not_by_site (inl here)) ]
    ]
  ]
