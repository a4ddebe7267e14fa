-- The writes of a trace up to a time, in two parts; what fed calls report.
use Rattle.std.proofs.Common.{◌≡◌, ℕ, zero, suc, ◌<◌, ◌≤◌, Bool, true, false, cond, nat_eq, nat_lt, nat_le, ◌&&◌, List, [], ◌∷◌, ◌++◌, Some, ◌⊎◌, inl, inr, refl, sym, ap, subst, ◌∙◌, arith}
use Rattle.std.specs.Prelude.{filter, slice_get}
use Rattle.std.proofs.lemmas.Bool.{cases_lt, and_parts, eqb-true, lt-ltb, le-ltb, leb-true, le-leb, lt-leb}
use Rattle.std.proofs.lemmas.Option.{same_Some}
use Rattle.tod_stamp.specs.declared.stamp.Stamp.{Stamp}
use Rattle.ckd_track.specs.declared.rec.Rec.{Rec}
use Rattle.ckd_track.specs.declared.write.Write.{Write}
use Rattle.ckd_track.specs.Effects.{apply}
use Rattle.ckd_track.specs.Writes.{writes_never_fall}
use Rattle.write_trace.specs.declared.entry.Entry.{Entry}
use Rattle.write_trace.specs.declared.entry.Entry.TheVariants.{Written, Idle}
use Rattle.write_trace.specs.declared.trace.Trace.{Trace}
use Rattle.write_trace.specs.Writes.{writes_of}
use Rattle.primary_ctl.specs.States.{base_in, after_writes}
use Rattle.primary_ctl.specs.Primaries.{primary, none_falls}
use Rattle.primary_ctl.proofs.OwnWrites.{own_writes}
use Rattle.group_state.specs.Machine.Call.{Join, NextWanted, Copied, Raise, Break, Form, Carry, Drop, Resume, Forget}
use Rattle.fed_logs.specs.ToldTracks.{floor_of, is_write_up_to}
use Rattle.fed_logs.specs.Feeds.{entries_between, is_between}
use Rattle.fed_logs.specs.LogLaws.{FedReportTruth}

-- a write after one time, up to another
abbrev is_write_between : (from to : ℕ) → Write → Bool
is_write_between from to w = nat_lt from w.stamp.0 && nat_le w.stamp.0 to

-- the writes of a trace after one time, up to another
abbrev writes_between : Trace → (from to : ℕ) → List Write
writes_between t from to = filter (is_write_between from to) (writes_of t.entries)

-- They are the writes of its entries there.
of_entries : (from to : ℕ) (entries : List Entry) → filter (is_write_between from to) (writes_of entries) ≡ writes_of (filter (is_between from to) entries)
of_entries from to [] = refl
of_entries from to (Written w ∷ entries) = choose (is_write_between from to w) (of_entries from to entries)
  where
    choose : (b : Bool) → filter (is_write_between from to) (writes_of entries) ≡ writes_of (filter (is_between from to) entries)
        → cond b (w ∷ filter (is_write_between from to) (writes_of entries)) (filter (is_write_between from to) (writes_of entries)) ≡ writes_of (cond b (Written w ∷ filter (is_between from to) entries) (filter (is_between from to) entries))
    choose true rest = ap (λ (ws : List Write). w ∷ ws) rest
    choose false rest = rest
of_entries from to (Idle s ∷ entries) = choose (is_between from to (Idle s)) (of_entries from to entries)
  where
    choose : (b : Bool) → filter (is_write_between from to) (writes_of entries) ≡ writes_of (filter (is_between from to) entries)
        → filter (is_write_between from to) (writes_of entries) ≡ writes_of (cond b (Idle s ∷ filter (is_between from to) entries) (filter (is_between from to) entries))
    choose true rest = rest
    choose false rest = rest

pub after_then : (recs : List Rec) (xs ys : List Write) → after_writes recs (xs ++ ys) ≡ after_writes (after_writes recs xs) ys
after_then recs [] ys = refl
after_then recs (w ∷ xs) ys = after_then (apply recs w.kind) xs ys

module _ (v x floor upto t : ℕ) (low : floor ≤ t) (high : t ≤ upto) where
  none_and : (a b : Bool) → b ≡ false → (a && b) ≡ false
  none_and true b e = e
  none_and false b e = refl

  -- after the floor
  none_early : (last : ℕ) (writes : List Write) → floor < last → writes_never_fall last writes ≡ true → filter (is_write_up_to v x floor) writes ≡ []
  none_early last [] lt rise = refl
  none_early last (w ∷ writes) lt rise =
      let parts = and_parts (nat_le last w.stamp.0) (writes_never_fall w.stamp.0 writes) rise in
      let above : floor < w.stamp.0 = omega (arith, leb-true last w.stamp.0 parts.0) in
      simp (none_and (nat_eq w.volume v && nat_eq w.track x) (nat_le w.stamp.0 floor) (lt-leb w.stamp.0 floor above)) (none_early w.stamp.0 writes above parts.1)

  all_between : (last : ℕ) (writes : List Write) → floor < last → writes_never_fall last writes ≡ true → filter (is_write_up_to v x t) writes ≡ filter (is_write_up_to v x t) (filter (is_write_between floor upto) writes)
  all_between last [] lt rise = refl
  all_between last (w ∷ writes) lt rise =
      let parts = and_parts (nat_le last w.stamp.0) (writes_never_fall w.stamp.0 writes) rise in
      let above : floor < w.stamp.0 = omega (arith, leb-true last w.stamp.0 parts.0) in
      choose (cases_lt upto w.stamp.0) (lt-ltb floor w.stamp.0 above) (all_between w.stamp.0 writes above parts.1)
    where
      choose : (upto < w.stamp.0) ⊎ (w.stamp.0 ≤ upto) → nat_lt floor w.stamp.0 ≡ true → filter (is_write_up_to v x t) writes ≡ filter (is_write_up_to v x t) (filter (is_write_between floor upto) writes)
          → filter (is_write_up_to v x t) (w ∷ writes) ≡ filter (is_write_up_to v x t) (filter (is_write_between floor upto) (w ∷ writes))
      choose (inl late) after rest =
          simp (none_and (nat_eq w.volume v && nat_eq w.track x) (nat_le w.stamp.0 t) (lt-leb w.stamp.0 t (omega (arith, late, high))), none_and (nat_lt floor w.stamp.0) (nat_le w.stamp.0 upto) (lt-leb w.stamp.0 upto late)) rest
      choose (inr within) after rest = simp (after, le-leb w.stamp.0 upto within) (same (nat_eq w.volume v && nat_eq w.track x && nat_le w.stamp.0 t) rest)
        where
          same : (b : Bool) → filter (is_write_up_to v x t) writes ≡ filter (is_write_up_to v x t) (filter (is_write_between floor upto) writes)
              → cond b (w ∷ filter (is_write_up_to v x t) writes) (filter (is_write_up_to v x t) writes) ≡ cond b (w ∷ filter (is_write_up_to v x t) (filter (is_write_between floor upto) writes)) (filter (is_write_up_to v x t) (filter (is_write_between floor upto) writes))
          same true rest = ap (λ (ws : List Write). w ∷ ws) rest
          same false rest = rest

  -- Those up to a time are those up to the floor, and of those between floor and limit the ones up to the time.
  pub split : (last : ℕ) (writes : List Write) → writes_never_fall last writes ≡ true
      → filter (is_write_up_to v x t) writes ≡ filter (is_write_up_to v x floor) writes ++ filter (is_write_up_to v x t) (filter (is_write_between floor upto) writes)
  split last [] rise = refl
  split last (w ∷ writes) rise =
      let parts = and_parts (nat_le last w.stamp.0) (writes_never_fall w.stamp.0 writes) rise in
      choose (cases_lt floor w.stamp.0) (split w.stamp.0 writes parts.1) (λ lt. none_early w.stamp.0 (w ∷ writes) lt (again parts.1)) (λ lt. all_between w.stamp.0 (w ∷ writes) lt (again parts.1))
    where
      again : writes_never_fall w.stamp.0 writes ≡ true → writes_never_fall w.stamp.0 (w ∷ writes) ≡ true
      again e = simp (le-leb w.stamp.0 w.stamp.0 (omega arith)) e

      choose : (floor < w.stamp.0) ⊎ (w.stamp.0 ≤ floor) → filter (is_write_up_to v x t) writes ≡ filter (is_write_up_to v x floor) writes ++ filter (is_write_up_to v x t) (filter (is_write_between floor upto) writes)
          → ((lt : floor < w.stamp.0) → filter (is_write_up_to v x floor) (w ∷ writes) ≡ [])
          → ((lt : floor < w.stamp.0) → filter (is_write_up_to v x t) (w ∷ writes) ≡ filter (is_write_up_to v x t) (filter (is_write_between floor upto) (w ∷ writes)))
          → filter (is_write_up_to v x t) (w ∷ writes) ≡ filter (is_write_up_to v x floor) (w ∷ writes) ++ filter (is_write_up_to v x t) (filter (is_write_between floor upto) (w ∷ writes))
      choose (inl lt) rest none all = all lt ∙ ap (λ (ws : List Write). ws ++ filter (is_write_up_to v x t) (filter (is_write_between floor upto) (w ∷ writes))) (sym (none lt))
      choose (inr le) rest none all = simp (le-ltb floor w.stamp.0 le, le-leb w.stamp.0 t (omega (arith, le, low)), le-leb w.stamp.0 floor le) (same (nat_eq w.volume v && nat_eq w.track x && true) rest)
        where
          same : (b : Bool) → filter (is_write_up_to v x t) writes ≡ filter (is_write_up_to v x floor) writes ++ filter (is_write_up_to v x t) (filter (is_write_between floor upto) writes)
              → cond b (w ∷ filter (is_write_up_to v x t) writes) (filter (is_write_up_to v x t) writes)
              ≡ cond b (w ∷ filter (is_write_up_to v x floor) writes) (filter (is_write_up_to v x floor) writes) ++ filter (is_write_up_to v x t) (filter (is_write_between floor upto) writes)
          same true rest = ap (λ (ws : List Write). w ∷ ws) rest
          same false rest = rest

-- ---- what is reported

trace_falls : (traces : List Trace) (k : ℕ) (t : Trace) → none_falls traces ≡ true → slice_get traces k ≡ Some t → writes_never_fall 0 (writes_of t.entries) ≡ true
trace_falls [] k t fall at = absurd cc
trace_falls (u ∷ traces) zero t fall at = subst (λ (a : Trace). writes_never_fall 0 (writes_of a.entries) ≡ true) (same_Some u t at) (and_parts (writes_never_fall 0 (writes_of u.entries)) (none_falls traces) fall).0
trace_falls (u ∷ traces) (suc k) t fall at = trace_falls traces k t (and_parts (writes_never_fall 0 (writes_of u.entries)) (none_falls traces) fall).1 at

-- the primary's track at a time, from that at the floor
from_floor : (traces : List Trace) (floor upto k v x time : ℕ) (t : Trace) → none_falls traces ≡ true → slice_get traces k ≡ Some t → floor ≤ time → time ≤ upto
    → primary traces time k v x ≡ after_writes (primary traces floor k v x) (filter (is_write_up_to v x time) (writes_between t floor upto))
from_floor traces floor upto k v x time t fall at low high =
    let writes = writes_of t.entries in
    let base = base_in t.header.base v x in
    let late = filter (is_write_up_to v x time) (writes_between t floor upto) in
    own_writes traces time k v x t fall at
    ∙ ap (after_writes base) (split v x floor upto time low high 0 writes (trace_falls traces k t fall at))
    ∙ after_then base (filter (is_write_up_to v x floor) writes) late
    ∙ ap (λ (r : List Rec). after_writes r late) (sym (own_writes traces floor k v x t fall at))

-- nothing after the floor
still : (traces : List Trace) (floor upto k v x time : ℕ) (t : Trace) → none_falls traces ≡ true → slice_get traces k ≡ Some t → entries_between t floor upto ≡ [] → floor ≤ time → time ≤ upto
    → primary traces time k v x ≡ primary traces floor k v x
still traces floor upto k v x time t fall at none low high =
    let writes : writes_between t floor upto ≡ [] = of_entries floor upto t.entries ∙ ap writes_of none in
    from_floor traces floor upto k v x time t fall at low high ∙ ap (λ (ws : List Write). after_writes (primary traces floor k v x) (filter (is_write_up_to v x time) ws)) writes

pub fed_report_truth : FedReportTruth
fed_report_truth traces s (Join b) k t fall at own may fed = λ v x time low high.
    let is : b.control ≡ k = eqb-true b.control k own in
    let here : slice_get traces b.control ≡ Some t = ap (slice_get traces) is ∙ at in
    let floor = floor_of s b.control in
    let writes : b.writes ≡ writes_between t floor b.upto.0 = subst (λ i. b.writes ≡ writes_between t (floor_of s i) b.upto.0) (sym is) (fed.0.writes ∙ sym (of_entries (floor_of s k) b.upto.0 t.entries)) in
    from_floor traces floor b.upto.0 b.control v x time t fall here low high ∙ ap (λ (ws : List Write). after_writes (primary traces floor b.control v x) (filter (is_write_up_to v x time) ws)) (sym writes)
fed_report_truth traces s (NextWanted j) k t fall at own may fed = tt
fed_report_truth traces s (Copied j v x time slot) k t fall at own may fed =
    let is : j ≡ k = eqb-true j k own in
    let floor : floor_of s k ≡ time.0 = ap (floor_of s) (sym is) ∙ ap (λ (m : Stamp). m.0) (sym may.1.floor) in
    fed ∙ sym (own_writes traces (floor_of s k) k v x t fall at) ∙ ap (λ i. primary traces i k v x) floor ∙ ap (λ i. primary traces time.0 i v x) (sym is)
fed_report_truth traces s (Raise j upto) k t fall at own may fed = λ v x time.
    let is : j ≡ k = eqb-true j k own in
    subst (λ i. floor_of s i ≤ time → time ≤ upto.0 → primary traces time i v x ≡ primary traces (floor_of s i) i v x) (sym is) (still traces (floor_of s k) upto.0 k v x time t fall at fed.0)
fed_report_truth traces s (Break j upto cause) k t fall at own may fed = λ v x time.
    let is : j ≡ k = eqb-true j k own in
    subst (λ i. floor_of s i ≤ time → time ≤ upto.0 → primary traces time i v x ≡ primary traces (floor_of s i) i v x) (sym is) (still traces (floor_of s k) upto.0 k v x time t fall at fed.0)
fed_report_truth traces s (Form limit) k t fall at own may fed = absurd cc
fed_report_truth traces s (Carry j v plan) k t fall at own may fed = absurd cc
fed_report_truth traces s (Drop j v all) k t fall at own may fed = absurd cc
fed_report_truth traces s (Resume j v) k t fall at own may fed = absurd cc
fed_report_truth traces s (Forget j v) k t fall at own may fed = absurd cc
