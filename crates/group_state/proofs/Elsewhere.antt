-- An event of another controller changes nothing of a controller.
use Rattle.std.proofs.Common.{◌≡◌, ℕ, Bool, true, false, nat_eq, List, [], ◌∷◌, ◌++◌, map, refl, sym, subst, ◌∙◌}
use Rattle.std.specs.Prelude.{filter}
use Rattle.std.proofs.lemmas.Bool.{eqb-true}
use Rattle.std.proofs.lemmas.List.Sums.{fold-append}
use Rattle.ckd_track.specs.declared.write.Batch.{Batch}
use Rattle.ckd_track.specs.declared.write.Write.{Write}
use Rattle.cut_core.specs.Events.{Event}
use Rattle.cut_core.specs.Events.Event.{Join, Copied, Break, Raise, Drop, Carry, Resume, Forget}
use Rattle.cut_core.specs.Shares.{Share, no_share, share_by, share}
use Rattle.cut_core.specs.Groups.{CarriedEntry, carried_entry, is_write_carried, carried_by}
use Rattle.cut_core.specs.Fates.{is_of_control}
use Rattle.cut_core.proofs.Ends.{stays}
use Rattle.group_state.specs.Volumes.{volume_of}
use Rattle.group_state.specs.Controls.{ControlState}
use Rattle.group_state.specs.Histories.{IsShareOf, IsControlOf}
use Rattle.group_state.proofs.Told.{IsTold, IsQuiet, told_quiet, all_stay, waiting_less}

pub share_snoc : (k v x : ℕ) (past : List Event) (y : Event) → share k v x (past ++ y ∷ []) ≡ share_by k v x (share k v x past) y
share_snoc k v x past y = fold-append (share_by k v x) no_share past (y ∷ [])

-- floor and phase of a controller that follows
pub told_of : (k : ℕ) (past : List Event) (c : ControlState) → IsControlOf k past c → IsTold k past c.floor c.phase
told_of k past c h = record { told = h.told; reporting = h.reporting; live = h.live }

-- ---- an event of another controller

pub record IsElsewhere (k : ℕ) (past : List Event) (x : Event) : Type 0 where
  pub quiet : IsQuiet k x
  pub shares : (v y : ℕ) (s : Share) → share_by k v y s x ≡ s
  pub stay : (e : CarriedEntry) → is_of_control k e ≡ true → stays x e ≡ true
  pub none : filter (is_of_control k) (carried_by past x) ≡ []

pub control_aside : (k : ℕ) (past : List Event) (x : Event) (c : ControlState) → IsElsewhere k past x → IsControlOf k past c → IsControlOf k (past ++ x ∷ []) c
control_aside k past x c e h =
    let t = told_quiet k past x c.floor c.phase e.quiet (told_of k past c h) in
    record {
      told = t.told;
      reporting = t.reporting;
      live = t.live;
      volumes = λ v y. subst (IsShareOf (volume_of v c.volumes) y) (sym (share_snoc k v y past x ∙ e.shares v y (share k v y past))) (h.volumes v y);
      waiting = waiting_less k past x c.queue.waiting (all_stay k past x c.queue.waiting e.stay h.waiting) e.none;
    }

others : (j k : ℕ) (writes : List Write) → nat_eq j k ≡ false → filter (is_of_control k) (map (carried_entry j) writes) ≡ []
others j k [] e = refl
others j k (w ∷ writes) e = rw e (others j k writes e)

pub join_elsewhere : (b : Batch) (k : ℕ) (past : List Event) → nat_eq b.control k ≡ false → IsElsewhere k past (Join b)
join_elsewhere b k past other = record {
  quiet = record { form = λ c. refl; break = refl; told = rw other refl };
  shares = λ v y s. rw other refl;
  stay = λ e is. refl;
  none = others b.control k (filter (is_write_carried past b.control) b.writes) other;
}

pub copied_elsewhere : (j v x stamp k : ℕ) (past : List Event) → nat_eq j k ≡ false → IsElsewhere k past (Copied j v x stamp)
copied_elsewhere j v x stamp k past other = record {
  quiet = record { form = λ c. refl; break = refl; told = refl };
  shares = λ w y s. rw other refl;
  stay = λ e is. refl;
  none = rw other refl;
}

pub raise_elsewhere : (j upto k : ℕ) (past : List Event) → nat_eq j k ≡ false → IsElsewhere k past (Raise j upto)
raise_elsewhere j upto k past other = record {
  quiet = record { form = λ c. refl; break = refl; told = rw other refl };
  shares = λ w y s. refl;
  stay = λ e is. refl;
  none = refl;
}

pub break_elsewhere : (j upto k : ℕ) (past : List Event) → nat_eq j k ≡ false → IsElsewhere k past (Break j upto)
break_elsewhere j upto k past other = record {
  quiet = record { form = λ c. refl; break = other; told = rw other refl };
  shares = λ w y s. refl;
  stay = λ e is. refl;
  none = refl;
}

pub drop_elsewhere : (j v : ℕ) (all : Bool) (k : ℕ) (past : List Event) → nat_eq j k ≡ false → IsElsewhere k past (Drop j v all)
drop_elsewhere j v all k past other = record {
  quiet = record { form = λ c. refl; break = refl; told = refl };
  shares = λ w y s. rw other refl;
  stay = λ e is. rw (eqb-true e.control k is, other) refl;
  none = refl;
}

pub carry_elsewhere : (j v : ℕ) (tracks : List ℕ) (k : ℕ) (past : List Event) → nat_eq j k ≡ false → IsElsewhere k past (Carry j v tracks)
carry_elsewhere j v tracks k past other = record {
  quiet = record { form = λ c. refl; break = refl; told = refl };
  shares = λ w y s. rw other refl;
  stay = λ e is. refl;
  none = refl;
}

pub resume_elsewhere : (j v k : ℕ) (past : List Event) → nat_eq j k ≡ false → IsElsewhere k past (Resume j v)
resume_elsewhere j v k past other = record {
  quiet = record { form = λ c. refl; break = refl; told = refl };
  shares = λ w y s. rw other refl;
  stay = λ e is. refl;
  none = refl;
}

pub forget_elsewhere : (j v k : ℕ) (past : List Event) → nat_eq j k ≡ false → IsElsewhere k past (Forget j v)
forget_elsewhere j v k past other = record {
  quiet = record { form = λ c. refl; break = refl; told = refl };
  shares = λ w y s. rw other refl;
  stay = λ e is. refl;
  none = refl;
}
