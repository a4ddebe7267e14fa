-- The ends of a labelling.
use Rattle.std.proofs.Common.{◌≡◌, ◌≢◌, ◌⊎◌, ◌+◌, ◌≤◌, ◌++◌, inl, inr, ℕ, List, take, Some, refl, sym, ◌∙◌, ap, subst, arith}
use Rattle.xrc_edge.specs.Causes.{Rose}
use Rattle.crash_plant.specs.declared.device.Device.TheVariants.{Control, Volume}
use Rattle.crash_plant.specs.Bytes.{Torn}
use Rattle.crash_plant.specs.Calls.{Says, WorksOn, WorksOnConsole}
use Rattle.crash_plant.specs.Moments.{PlantState, on, Follows, IsDurable}
use Rattle.crash_plant.proofs.BehindGates.{same_after, torn_here}
use Rattle.crash_plant.proofs.Steps.{elapses_trans, follows_here, loan_trans, site_trans, stays_trans, works_on_here}
use Rattle.volume_label.specs.declared.label.Label.{Label}
use Rattle.volume_label.specs.Labels.{label_of, label_spelling, volume_need}
use Rattle.xrc_status.specs.declared.stop.Stop.TheVariants.{BadSite, TooSmall, VolumeFault}
use Rattle.xrc_status.specs.Saying.{SaidWhole, SaysLast}
use Rattle.xrc_status.specs.Stops.{last_line}
use Rattle.xrc_recovery.proofs.Changing.{says_after}
use Rattle.xrc_cli.specs.Labelling.{HasLabelToStay, EndsLabelling, IsLongEnough, HasVolume, WritesLabel, label_line}
use Rattle.xrc_cli.specs.Saying.{SaysDone}

-- a status is this one
abbrev Is : (status number : ℕ) → Type 0
Is status number = status ≡ number

module _ (tells : Type 0) (device : ℕ) (label : Label) where
  -- ---- what is written

  -- Calls on the console change no device.
  written : (a b c : PlantState) → WorksOn tells (λ d. d ≡ Volume device) a b → (tells → Follows (Torn 0 14) (on a (Volume device)) (on b (Volume device)))
      → (tells → Torn 0 14 (a.bytes (Volume device)) (b.bytes (Volume device))) → WorksOnConsole tells b c → WritesLabel tells device a c
  written a b c w moments torn o = record {
    site = site_trans a b c w.site o.site;
    loans = λ v. loan_trans v a b c (w.loans v) (o.loans v);
    elapses = λ told. elapses_trans Control a b c (w.elapses told) (o.elapses told);
    bytes = λ told. subst (λ (l : List ℕ). Torn 0 14 (a.bytes (Volume device)) l) (sym (o.devices told (Volume device)).bytes) (torn told);
    moments = λ told. same_after (on a (Volume device)) (on b (Volume device)) (on c (Volume device)) (Torn 0 14) ((w.elapses told).kept (Volume device)) (moments told) ((o.elapses told).kept (Volume device)) ((o.devices told (Volume device)).images);
    others = λ told d other. stays_trans (on a d) (on b d) (on c d) (w.others told d other) ((w.elapses told).kept d) ((o.elapses told).kept d) (o.devices told d);
    others_faults = λ d other. o.faults d ∙ w.others_faults d other;
  }

  unwritten : (a c : PlantState) → WorksOnConsole tells a c → WritesLabel tells device a c
  unwritten a c o = written a a c (works_on_here tells (λ d. d ≡ Volume device) a) (λ told. follows_here (on a (Volume device)) (Torn 0 14) (λ b here. torn_here 0 14 b)) (λ told. torn_here 0 14 (a.bytes (Volume device))) o

  -- A label that is there to stay is there when something was said.
  bears : (b c : PlantState) → tells → WorksOnConsole tells b c → IsDurable (on b (Volume device)) → take 14 (b.bytes (Volume device)) ≡ label_spelling label
      → label_of (b.lengths (Volume device)) (take 14 (b.bytes (Volume device))) ≡ Some label → HasLabelToStay device label c
  bears b c told o durable begins valid = record {
    durable = λ x here. let f = (o.devices told (Volume device)).images c.clock ((o.elapses told).kept (Volume device)).later (omega arith) x here in f.2 ∙ durable f.0 f.1 ∙ sym (o.devices told (Volume device)).bytes;
    begins = ap (take 14) (o.devices told (Volume device)).bytes ∙ begins;
    valid = ap (λ (n : ℕ). label_of n (take 14 (c.bytes (Volume device)))) (o.site.lengths (Volume device)) ∙ ap (λ (l : List ℕ). label_of (b.lengths (Volume device)) (take 14 l)) (o.devices told (Volume device)).bytes ∙ valid;
  }

  -- ---- before anything is written

  said_or_rose : (text : List ℕ) (status : ℕ) (a c : PlantState) → status ≢ 0 → SaidWhole text a c ⊎ Rose a.console_faults c.console_faults → SaidWhole text a c ⊎ (status ≢ 0 × Rose a.console_faults c.console_faults)
  said_or_rose text status a c not (inl whole) = inl whole
  said_or_rose text status a c not (inr rose) = inr (not, rose)

  pub no_volume : (a c : PlantState) → ¬ HasVolume a device → SaysLast tells (last_line BadSite) a c → EndsLabelling tells device label a c 16
  no_volume a c not s = record {
    known = refl;
    no_volume = (λ is. not, λ is. refl);
    short = ((λ is. absurd (omega arith)), λ h. absurd (not h.0));
    volume = λ is. absurd (omega arith);
    console = λ is. absurd (omega arith);
    complete = λ has room none. absurd (not has);
    volume_count = λ other. s.front.only.faults (Volume device);
    console_count = λ is. absurd (omega arith);
    volume_once = (let kept = s.front.only.faults (Volume device) in omega (arith, kept));
    console_once = s.console_once;
    says = λ told. s.front.moments told;
    whole = λ told. said_or_rose (last_line BadSite) 16 a c (λ is. absurd (omega arith)) (s.whole told);
    labelled = λ told. not_done;
    unwritten = λ is. s.front.only;
    writes = unwritten a c s.front.only;
  }
    where
      not_done : Is 16 0 ⊎ Is 16 3 → HasLabelToStay device label c
      not_done (inl is) = absurd (omega arith)
      not_done (inr is) = absurd (omega arith)

  pub no_room : (a c : PlantState) → HasVolume a device → ¬ IsLongEnough a device label.cylinders → SaysLast tells (last_line (TooSmall (Volume device) (volume_need label.cylinders))) a c → EndsLabelling tells device label a c 14
  no_room a c has not s = record {
    known = refl;
    no_volume = ((λ is. absurd (omega arith)), λ other. absurd (other has));
    short = (λ is. (has, not), λ h. refl);
    volume = λ is. absurd (omega arith);
    console = λ is. absurd (omega arith);
    complete = λ again room none. absurd (not room);
    volume_count = λ other. s.front.only.faults (Volume device);
    console_count = λ is. absurd (omega arith);
    volume_once = (let kept = s.front.only.faults (Volume device) in omega (arith, kept));
    console_once = s.console_once;
    says = λ told. s.front.moments told;
    whole = λ told. said_or_rose (last_line (TooSmall (Volume device) (volume_need label.cylinders))) 14 a c (λ is. absurd (omega arith)) (s.whole told);
    labelled = λ told. not_done;
    unwritten = λ is. s.front.only;
    writes = unwritten a c s.front.only;
  }
    where
      not_done : Is 14 0 ⊎ Is 14 3 → HasLabelToStay device label c
      not_done (inl is) = absurd (omega arith)
      not_done (inr is) = absurd (omega arith)

  -- ---- with the label

  module _ (a b c : PlantState) (has : HasVolume a device) (room : IsLongEnough a device label.cylinders) (w : WorksOn tells (λ d. d ≡ Volume device) a b)
      (moments : tells → Follows (Torn 0 14) (on a (Volume device)) (on b (Volume device))) (torn : tells → Torn 0 14 (a.bytes (Volume device)) (b.bytes (Volume device))) where
    says_later : (text : List ℕ) → WorksOnConsole tells b c → (tells → Says text b c) → tells → Says text a c
    says_later text o says told = says_after text a b c (o.elapses told) (w.silent told) (says told) ((w.elapses told).kept Control).later

    whole_later : (text : List ℕ) → tells → SaidWhole text b c → SaidWhole text a c
    whole_later text told whole = whole ∙ ap (λ l. l ++ text) ((w.silent told).said b.clock ((w.elapses told).kept Control).later (omega arith))

    pub not_written : Rose (a.faults (Volume device)) (b.faults (Volume device)) → b.faults (Volume device) ≤ a.faults (Volume device) + 1 → SaysLast tells (last_line VolumeFault) b c → EndsLabelling tells device label a c 13
    not_written rose by_one s = record {
      known = refl;
      no_volume = ((λ is. absurd (omega arith)), λ other. absurd (other has));
      short = ((λ is. absurd (omega arith)), λ h. absurd (h.1 room));
      volume = λ is. rises;
      console = λ is. absurd (omega arith);
      complete = λ again enough none. absurd (none.devices (Volume device) rises);
      volume_count = λ other. absurd (other refl);
      console_count = λ is. absurd (omega arith);
      volume_once = (let kept = s.front.only.faults (Volume device) in omega (arith, by_one, kept));
      console_once = (let one = s.console_once in let same = w.console_faults in omega (arith, one, same));
      says = says_later (last_line VolumeFault) s.front.only s.front.moments;
      whole = λ told. whole_or_rose told (s.whole told);
      labelled = λ told. not_done;
      unwritten = early;
      writes = written a b c w moments torn s.front.only;
    }
      where
        rises : Rose (a.faults (Volume device)) (c.faults (Volume device))
        rises = subst (λ (n : ℕ). Rose (a.faults (Volume device)) n) (sym (s.front.only.faults (Volume device))) rose

        whole_or_rose : tells → SaidWhole (last_line VolumeFault) b c ⊎ Rose b.console_faults c.console_faults → SaidWhole (last_line VolumeFault) a c ⊎ ((¬ Is 13 0) × Rose a.console_faults c.console_faults)
        whole_or_rose told (inl whole) = inl (whole_later (last_line VolumeFault) told whole)
        whole_or_rose told (inr up) = inr ((λ is. absurd (omega arith)), subst (λ (n : ℕ). Rose n c.console_faults) w.console_faults up)

        not_done : Is 13 0 ⊎ Is 13 3 → HasLabelToStay device label c
        not_done (inl is) = absurd (omega arith)
        not_done (inr is) = absurd (omega arith)

        early : Is 13 14 ⊎ Is 13 16 → WorksOnConsole tells a c
        early (inl is) = absurd (omega arith)
        early (inr is) = absurd (omega arith)

    module _ (same : b.faults (Volume device) ≡ a.faults (Volume device)) (durable : tells → IsDurable (on b (Volume device))) (begins : tells → take 14 (b.bytes (Volume device)) ≡ label_spelling label)
        (valid : tells → label_of (b.lengths (Volume device)) (take 14 (b.bytes (Volume device))) ≡ Some label) where
      stands : WorksOnConsole tells b c → tells → HasLabelToStay device label c
      stands o told = bears b c told o (durable told) (begins told) (valid told)

      -- by the status with which the line was said
      by_status : (status : ℕ) → (status ≡ 0) ⊎ (status ≡ 3) → SaysDone tells (label_line device label) b c status → EndsLabelling tells device label a c status
      by_status status (inl is) s = subst (λ (n : ℕ). EndsLabelling tells device label a c n) (sym is) (record {
        known = refl;
        no_volume = ((λ bad. absurd (omega arith)), λ other. absurd (other has));
        short = ((λ bad. absurd (omega arith)), λ h. absurd (h.1 room));
        volume = λ bad. absurd (omega arith);
        console = λ bad. absurd (omega arith);
        complete = λ again enough none. refl;
        volume_count = λ other. s.front.only.faults (Volume device) ∙ same;
        console_count = λ done. s.console_count is ∙ w.console_faults;
        volume_once = (let kept = s.front.only.faults (Volume device) in omega (arith, same, kept));
        console_once = (let one = s.console_once in let same = w.console_faults in omega (arith, one, same));
        says = says_later (label_line device label) s.front.only s.front.moments;
        whole = λ told. inl (whole_later (label_line device label) told (s.whole told is));
        labelled = λ told done. stands s.front.only told;
        unwritten = early;
        writes = written a b c w moments torn s.front.only;
      })
        where
          early : Is 0 14 ⊎ Is 0 16 → WorksOnConsole tells a c
          early (inl bad) = absurd (omega arith)
          early (inr bad) = absurd (omega arith)
      by_status status (inr is) s = subst (λ (n : ℕ). EndsLabelling tells device label a c n) (sym is) (record {
        known = refl;
        no_volume = ((λ bad. absurd (omega arith)), λ other. absurd (other has));
        short = ((λ bad. absurd (omega arith)), λ h. absurd (h.1 room));
        volume = λ bad. absurd (omega arith);
        console = λ bad. rises;
        complete = λ again enough none. absurd (none.console rises);
        volume_count = λ other. s.front.only.faults (Volume device) ∙ same;
        console_count = λ bad. absurd (omega arith);
        volume_once = (let kept = s.front.only.faults (Volume device) in omega (arith, same, kept));
        console_once = (let one = s.console_once in let same = w.console_faults in omega (arith, one, same));
        says = says_later (label_line device label) s.front.only s.front.moments;
        whole = λ told. inr ((λ bad. absurd (omega arith)), rises);
        labelled = λ told done. stands s.front.only told;
        unwritten = early;
        writes = written a b c w moments torn s.front.only;
      })
        where
          rises : Rose a.console_faults c.console_faults
          rises = subst (λ (n : ℕ). Rose n c.console_faults) w.console_faults (s.console is)

          early : Is 3 14 ⊎ Is 3 16 → WorksOnConsole tells a c
          early (inl bad) = absurd (omega arith)
          early (inr bad) = absurd (omega arith)

      pub labelled : (status : ℕ) → SaysDone tells (label_line device label) b c status → EndsLabelling tells device label a c status
      labelled status s = by_status status s.known s
