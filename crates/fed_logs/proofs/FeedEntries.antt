-- Rising entries, their writes and their runs.
use Rattle.std.proofs.Common.{◌≡◌, ◌≤◌, ◌<◌, ◌+◌, ◌-◌, ℕ, Bool, true, false, cond, nat_eq, nat_lt, nat_le, eq-eqb, ◌&&◌, List, [], ◌∷◌, ◌++◌, Option, Some, None, refl, sym, ap, subst, ◌∙◌, arith, append-nil}
use Rattle.std.specs.Prelude.{filter, option_map}
use Rattle.std.specs.List.{list_all, flat_map}
use Rattle.std.proofs.lemmas.Bool.{and_parts, and_from, and_right, eqb-true, eqb-false, leb-true, le-leb, ltb-true, lt-ltb, le-ltb, lt-leb}
use Rattle.std.proofs.lemmas.List.Elements.{filter-append}
use Rattle.ckd_track.specs.declared.rec.Rec.{Rec}
use Rattle.ckd_track.specs.declared.write.Cause.{Cause}
use Rattle.ckd_track.specs.declared.write.Write.{Write}
use Rattle.ckd_track.specs.Effects.{apply}
use Rattle.write_trace.specs.declared.entry.Entry.{Entry}
use Rattle.write_trace.specs.declared.entry.Entry.TheVariants.{Written, Idle}
use Rattle.write_trace.specs.Entries.{stamp_of}
use Rattle.write_trace.specs.Writes.{writes_of}
use Rattle.primary_ctl.specs.States.{is_on, after_writes}
use Rattle.sidefile.specs.Runs.{run_stamp, with_first, runs, is_crowded}
use Rattle.sidefile.specs.Breaks.{break_after, break_in, is_below}
use Rattle.sidefile.specs.Looks.{have_stamp}
use Rattle.sidefile.proofs.HandLaws.{IsAbove, first_stamp}
use Rattle.sidefile.proofs.RunLaws.{runs_are_all, begins, run_at_end}
use Rattle.fed_logs.specs.ToldTracks.{is_write_up_to}
use Rattle.fed_logs.specs.Feeds.{is_between}
use Rattle.fed_logs.specs.Reads.{do_rise, is_up_to}

-- ---- lists

pub all_pass : {A : Type 0} (is P : A → Bool) (xs : List A) → ((x : A) → P x ≡ true → is x ≡ true) → list_all P xs ≡ true → filter is xs ≡ xs
all_pass is P [] pass all = refl
all_pass is P (x ∷ xs) pass all = let parts = and_parts (P x) (list_all P xs) all in rw (pass x parts.0) (ap (λ t. x ∷ t) (all_pass is P xs pass parts.1))

pub none_pass : {A : Type 0} (is P : A → Bool) (xs : List A) → ((x : A) → P x ≡ true → is x ≡ false) → list_all P xs ≡ true → filter is xs ≡ []
none_pass is P [] fail all = refl
none_pass is P (x ∷ xs) fail all = let parts = and_parts (P x) (list_all P xs) all in rw (fail x parts.0) (none_pass is P xs fail parts.1)

pub all_more : {A : Type 0} (P Q : A → Bool) (xs : List A) → ((x : A) → P x ≡ true → Q x ≡ true) → list_all P xs ≡ true → list_all Q xs ≡ true
all_more P Q [] up all = refl
all_more P Q (x ∷ xs) up all = let parts = and_parts (P x) (list_all P xs) all in and_from (Q x) (list_all Q xs) (up x parts.0) (all_more P Q xs up parts.1)

pub all_append : {A : Type 0} (P : A → Bool) (xs ys : List A) → list_all P xs ≡ true → list_all P ys ≡ true → list_all P (xs ++ ys) ≡ true
all_append P [] ys a b = b
all_append P (x ∷ xs) ys a b = let parts = and_parts (P x) (list_all P xs) a in and_from (P x) (list_all P (xs ++ ys)) parts.0 (all_append P xs ys parts.1 b)

-- a test that another one makes no difference to
pub same_filter : {A : Type 0} (p q : A → Bool) (xs : List A) → list_all q xs ≡ true → filter (λ x. p x && q x) xs ≡ filter p xs
same_filter p q [] all = refl
same_filter {A} p q (x ∷ xs) all =
    let parts = and_parts (q x) (list_all q xs) all in
    choose (p x) (q x) parts.0 (same_filter p q xs parts.1)
  where
    choose : (a b : Bool) → b ≡ true → filter (λ x. p x && q x) xs ≡ filter p xs → cond (a && b) (x ∷ filter (λ x. p x && q x) xs) (filter (λ x. p x && q x) xs) ≡ cond a (x ∷ filter p xs) (filter p xs)
    choose true b is h = rw is (ap (λ (t : List A). x ∷ t) h)
    choose false b is h = h

pub writes_then : (xs ys : List Entry) → writes_of (xs ++ ys) ≡ writes_of xs ++ writes_of ys
writes_then [] ys = refl
writes_then (Written w ∷ xs) ys = ap (λ (t : List Write). w ∷ t) (writes_then xs ys)
writes_then (Idle s ∷ xs) ys = writes_then xs ys

pub after_then : (recs : List Rec) (xs ys : List Write) → after_writes recs (xs ++ ys) ≡ after_writes (after_writes recs xs) ys
after_then recs [] ys = refl
after_then recs (x ∷ xs) ys = after_then (apply recs x.kind) xs ys

-- ---- rising entries

pub rise_lower : (low last : ℕ) (entries : List Entry) → low ≤ last → do_rise last entries ≡ true → do_rise low entries ≡ true
rise_lower low last [] le e = refl
rise_lower low last (x ∷ entries) le e =
    let parts = and_parts (nat_le last (stamp_of x)) (do_rise (stamp_of x) entries) e in
    let from = leb-true last (stamp_of x) parts.0 in
    and_from (nat_le low (stamp_of x)) (do_rise (stamp_of x) entries) (le-leb low (stamp_of x) (omega arith)) parts.1

-- what follows some of them
pub rise_after : (last : ℕ) (some rest : List Entry) → do_rise last (some ++ rest) ≡ true → do_rise last rest ≡ true
rise_after last [] rest e = e
rise_after last (x ∷ some) rest e =
    let parts = and_parts (nat_le last (stamp_of x)) (do_rise (stamp_of x) (some ++ rest)) e in
    rise_lower last (stamp_of x) rest (leb-true last (stamp_of x) parts.0) (rise_after (stamp_of x) some rest parts.1)

-- their stamps are that or later
rise_from : (low : ℕ) (entries : List Entry) → do_rise low entries ≡ true → list_all (λ e. nat_le low (stamp_of e)) entries ≡ true
rise_from low [] rise = refl
rise_from low (e ∷ entries) rise =
    let parts = and_parts (nat_le low (stamp_of e)) (do_rise (stamp_of e) entries) rise in
    and_from (nat_le low (stamp_of e)) (list_all (λ e. nat_le low (stamp_of e)) entries) parts.0
    (rise_from low entries (rise_lower low (stamp_of e) entries (leb-true low (stamp_of e) parts.0) parts.1))

-- what all entries keep, their writes keep
writes_keep : (P : Entry → Bool) (Q : Write → Bool) (entries : List Entry) → ((w : Write) → P (Written w) ≡ true → Q w ≡ true) → list_all P entries ≡ true → list_all Q (writes_of entries) ≡ true
writes_keep P Q [] up all = refl
writes_keep P Q (Written w ∷ entries) up all =
    let parts = and_parts (P (Written w)) (list_all P entries) all in
    and_from (Q w) (list_all Q (writes_of entries)) (up w parts.0) (writes_keep P Q entries up parts.1)
writes_keep P Q (Idle s ∷ entries) up all = writes_keep P Q entries up (and_parts (P (Idle s)) (list_all P entries) all).1

-- No write passes a test that none passes of what all entries keep.
no_write : (is : Write → Bool) (P : Entry → Bool) (Q : Write → Bool) (entries : List Entry) → ((w : Write) → P (Written w) ≡ true → Q w ≡ true) → ((w : Write) → Q w ≡ true → is w ≡ false) → list_all P entries ≡ true → filter is (writes_of entries) ≡ []
no_write is P Q entries up fail all = none_pass is Q (writes_of entries) fail (writes_keep P Q entries up all)

-- ---- entries in three parts

in_three : {A : Type 0} (is : A → Bool) (before run ahead : List A) → filter is ((before ++ run) ++ ahead) ≡ (filter is before ++ filter is run) ++ filter is ahead
in_three {A} is before run ahead = filter-append is (before ++ run) ahead ∙ ap (λ (xs : List A). xs ++ filter is ahead) (filter-append is before run)

writes_in_three : (is : Write → Bool) (before run ahead : List Entry) → filter is (writes_of ((before ++ run) ++ ahead)) ≡ (filter is (writes_of before) ++ filter is (writes_of run)) ++ filter is (writes_of ahead)
writes_in_three is before run ahead =
    ap (filter is) (writes_then (before ++ run) ahead ∙ ap (λ (ws : List Write). ws ++ writes_of ahead) (writes_then before run)) ∙ in_three is (writes_of before) (writes_of run) (writes_of ahead)

module _ (time upto : ℕ) (before run ahead : List Entry) (early : list_all (is_up_to time) before ≡ true) (within : list_all (is_between time upto) run ≡ true) (later : do_rise (upto + 1) ahead ≡ true) where
  -- After the primary's time, up to the time that the sidefile has reported, is the run that is held.
  pub held_between : filter (is_between time upto) ((before ++ run) ++ ahead) ≡ run
  held_between =
      let is = is_between time upto in
      in_three is before run ahead
      ∙ ap (λ (es : List Entry). (es ++ filter is run) ++ filter is ahead) (none_pass is (is_up_to time) before (λ e le. rw (le-ltb time (stamp_of e) (leb-true (stamp_of e) time le)) refl) early)
      ∙ ap (λ (es : List Entry). es ++ filter is ahead) (all_pass is is run (λ e in_it. in_it) within)
      ∙ ap (λ (es : List Entry). run ++ es)
      (none_pass is (λ e. nat_le (upto + 1) (stamp_of e)) ahead
      (λ e le. and_right (nat_lt time (stamp_of e)) (nat_le (stamp_of e) upto) (lt-leb (stamp_of e) upto (let l = leb-true (upto + 1) (stamp_of e) le in omega (arith, l)))) (rise_from (upto + 1) ahead later))
      ∙ append-nil run

  -- Up to the primary's time are the writes that it has.
  pub up_to_time : (v x : ℕ) → time ≤ upto → filter (is_write_up_to v x time) (writes_of ((before ++ run) ++ ahead)) ≡ filter (is_on v x) (writes_of before)
  up_to_time v x low =
      let is = is_write_up_to v x time in
      let late : (w : Write) → nat_lt time w.stamp.0 ≡ true → is w ≡ false = λ w lt. and_right (is_on v x w) (nat_le w.stamp.0 time) (lt-leb w.stamp.0 time (ltb-true time w.stamp.0 lt)) in
      writes_in_three is before run ahead
      ∙ ap (λ (ws : List Write). (ws ++ filter is (writes_of run)) ++ filter is (writes_of ahead))
      (same_filter (is_on v x) (λ w. nat_le w.stamp.0 time) (writes_of before) (writes_keep (is_up_to time) (λ w. nat_le w.stamp.0 time) before (λ w le. le) early))
      ∙ ap (λ (ws : List Write). (filter (is_on v x) (writes_of before) ++ ws) ++ filter is (writes_of ahead))
      (no_write is (is_between time upto) (λ w. nat_lt time w.stamp.0) run (λ w e. (and_parts (nat_lt time w.stamp.0) (nat_le w.stamp.0 upto) e).0) late within)
      ∙ ap (λ (ws : List Write). (filter (is_on v x) (writes_of before) ++ []) ++ ws)
      (no_write is (λ e. nat_le (upto + 1) (stamp_of e)) (λ w. nat_lt time w.stamp.0) ahead
      (λ w le. lt-ltb time w.stamp.0 (let l = leb-true (upto + 1) w.stamp.0 le in omega (arith, l, low))) late (rise_from (upto + 1) ahead later))
      ∙ append-nil (filter (is_on v x) (writes_of before) ++ [])
      ∙ append-nil (filter (is_on v x) (writes_of before))

pub up_to_more : (time to : ℕ) (entries : List Entry) → time ≤ to → list_all (is_up_to time) entries ≡ true → list_all (is_up_to to) entries ≡ true
up_to_more time to entries low all = all_more (is_up_to time) (is_up_to to) entries (λ e le. le-leb (stamp_of e) to (let l = leb-true (stamp_of e) time le in omega (arith, l, low))) all

-- Where what is ahead is after a later time, none is between.
pub none_between : (time to : ℕ) (before ahead : List Entry) → list_all (is_up_to time) before ≡ true → do_rise (to + 1) ahead ≡ true → filter (is_between time to) ((before ++ []) ++ ahead) ≡ []
none_between time to before ahead early later = held_between time to before [] ahead early refl later

-- And the writes up to that time are those before.
pub up_to_later : (v x time to : ℕ) (before ahead : List Entry) → time ≤ to → list_all (is_up_to time) before ≡ true → do_rise (to + 1) ahead ≡ true → filter (is_write_up_to v x to) (writes_of ((before ++ []) ++ ahead)) ≡ filter (is_on v x) (writes_of before)
up_to_later v x time to before ahead low early later = up_to_time to to before [] ahead (up_to_more time to before low early) refl later v x (omega arith)

-- ---- runs

-- every run's stamp is that or later
abbrev pub all_from : (low : ℕ) → List (List Entry) → Bool
all_from low left = list_all (λ run. nat_le low (run_stamp run)) left

with_first_from : (low : ℕ) (e : Entry) (left : List (List Entry)) → low ≤ stamp_of e → all_from low left ≡ true → all_from low (with_first e left) ≡ true
with_first_from low e [] le from = and_from (nat_le low (stamp_of e)) true (le-leb low (stamp_of e) le) refl
with_first_from low e (run ∷ left) le from =
    let parts = and_parts (nat_le low (run_stamp run)) (all_from low left) from in
    choose (nat_eq (stamp_of e) (run_stamp run)) parts.1
  where
    choose : (same : Bool) → all_from low left ≡ true → all_from low (cond same ((e ∷ run) ∷ left) ((e ∷ []) ∷ run ∷ left)) ≡ true
    choose true rest = and_from (nat_le low (stamp_of e)) (all_from low left) (le-leb low (stamp_of e) le) rest
    choose false rest = and_from (nat_le low (stamp_of e)) (all_from low (run ∷ left)) (le-leb low (stamp_of e) le) from

runs_from : (low last : ℕ) (entries : List Entry) → low ≤ last → do_rise last entries ≡ true → all_from low (runs entries) ≡ true
runs_from low last [] le e = refl
runs_from low last (x ∷ entries) le e =
    let parts = and_parts (nat_le last (stamp_of x)) (do_rise (stamp_of x) entries) e in
    let from = leb-true last (stamp_of x) parts.0 in
    with_first_from low x (runs entries) (omega arith) (runs_from low (stamp_of x) entries (omega arith) parts.1)

-- ---- the first run

-- the next run has this stamp too
abbrev goes_on : (stamp : ℕ) → List (List Entry) → Bool
goes_on stamp [] = false
goes_on stamp (next ∷ more) = nat_eq stamp (run_stamp next)

-- The first run has one stamp, and the next run hasn't got it.
abbrev BeginsWithOne : List (List Entry) → Type 0
BeginsWithOne [] = Unit {0}
BeginsWithOne (run ∷ more) = (have_stamp (run_stamp run) run ≡ true) × (goes_on (run_stamp run) more ≡ false)

with_first_one : (e : Entry) (left : List (List Entry)) → BeginsWithOne left → BeginsWithOne (with_first e left)
with_first_one e [] one = (and_from (nat_eq (stamp_of e) (stamp_of e)) true (eq-eqb (stamp_of e) (stamp_of e) refl) refl, refl)
with_first_one e (run ∷ left) one = choose (nat_eq (stamp_of e) (run_stamp run)) refl
  where
    here : nat_eq (stamp_of e) (stamp_of e) ≡ true
    here = eq-eqb (stamp_of e) (stamp_of e) refl

    choose : (same : Bool) → nat_eq (stamp_of e) (run_stamp run) ≡ same → BeginsWithOne (cond same ((e ∷ run) ∷ left) ((e ∷ []) ∷ run ∷ left))
    choose true is =
        let stamp : run_stamp run ≡ stamp_of e = sym (eqb-true (stamp_of e) (run_stamp run) is) in (
          and_from (nat_eq (stamp_of e) (stamp_of e)) (have_stamp (stamp_of e) run) here (subst (λ (n : ℕ). have_stamp n run ≡ true) stamp one.0),
          subst (λ (n : ℕ). goes_on n left ≡ false) stamp one.1,
        )
    choose false is = (and_from (nat_eq (stamp_of e) (stamp_of e)) true here refl, is)

begin_with_one : (entries : List Entry) → BeginsWithOne (runs entries)
begin_with_one [] = tt
begin_with_one (e ∷ entries) = with_first_one e (runs entries) (begin_with_one entries)

-- The first run of entries after a time: it is one, with a stamp after that time, and the next run has a later one.
pub record FirstRun (low : ℕ) (run : List Entry) (more : List (List Entry)) : Type 0 where
  pub one : runs run ≡ run ∷ []
  pub stamps : have_stamp (run_stamp run) run ≡ true
  pub above : low < run_stamp run
  pub later : IsAbove (run_stamp run) more

next_later : (stamp : ℕ) (more : List (List Entry)) → all_from stamp more ≡ true → goes_on stamp more ≡ false → IsAbove stamp more
next_later stamp [] from other = tt
next_later stamp (next ∷ more) from other =
    let low = leb-true stamp (run_stamp next) (and_parts (nat_le stamp (run_stamp next)) (all_from stamp more) from).0 in
    let apart = eqb-false stamp (run_stamp next) other in
    omega (arith, low, apart)

pub first_run : (low : ℕ) (entries run : List Entry) (more : List (List Entry)) → do_rise (low + 1) entries ≡ true → runs entries ≡ run ∷ more → FirstRun low run more
first_run low [] run more rise is = absurd (cc is)
first_run low (e ∷ entries) [] more rise is =
    let b = begins e entries in
    absurd (let same : (e ∷ b.run) ∷ b.more ≡ [] ∷ more = sym b.is ∙ is in cc same)
first_run low (e ∷ entries) (first ∷ taken) more rise is =
    let b = begins e entries in
    let stamp : stamp_of e ≡ stamp_of first = ap first_stamp (sym b.is ∙ is) in
    let one : BeginsWithOne ((first ∷ taken) ∷ more) = subst BeginsWithOne is (begin_with_one (e ∷ entries)) in
    let parts = and_parts (nat_le (low + 1) (stamp_of e)) (do_rise (stamp_of e) entries) rise in
    let above = leb-true (low + 1) (stamp_of e) parts.0 in
    let from_it : do_rise (stamp_of e) (e ∷ entries) ≡ true = and_from (nat_le (stamp_of e) (stamp_of e)) (do_rise (stamp_of e) entries) (le-leb (stamp_of e) (stamp_of e) (omega arith)) parts.1 in
    let from : all_from (stamp_of e) ((first ∷ taken) ∷ more) ≡ true = subst (λ (rs : List (List Entry)). all_from (stamp_of e) rs ≡ true) is (runs_from (stamp_of e) (stamp_of e) (e ∷ entries) (omega arith) from_it) in
    let after : all_from (stamp_of first) more ≡ true = subst (λ (n : ℕ). all_from n more ≡ true) stamp (and_parts (nat_le (stamp_of e) (stamp_of first)) (all_from (stamp_of e) more) from).1 in
    record {
      one = run_at_end first taken (and_parts (nat_eq (stamp_of first) (stamp_of first)) (have_stamp (stamp_of first) taken) one.0).1;
      stamps = one.0;
      above = omega (arith, above, stamp);
      later = next_later (stamp_of first) more after one.1;
    }

-- Entries of a stamp between two times are between them.
pub stamp_between : (from to stamp : ℕ) (entries : List Entry) → from < stamp → stamp ≤ to → have_stamp stamp entries ≡ true → list_all (is_between from to) entries ≡ true
stamp_between from to stamp entries low high all =
    all_more (λ e. nat_eq (stamp_of e) stamp) (is_between from to) entries
    (λ e same. let is = eqb-true (stamp_of e) stamp same in and_from (nat_lt from (stamp_of e)) (nat_le (stamp_of e) to) (lt-ltb from (stamp_of e) (omega (arith, is, low))) (le-leb (stamp_of e) to (omega (arith, is, high)))) all

-- ---- the break

-- Then the break time isn't below that stamp less 1.
after_not_below : (cause : Option Cause) (limit time : ℕ) → limit < time → is_below (option_map (λ b. b.upto) (break_after cause time)) limit ≡ false
after_not_below None limit time lt = refl
after_not_below (Some c) limit time lt = le-ltb (time - 1) limit (omega arith)

late_break : (cause : Option Cause) (limit : ℕ) (run : List Entry) (more : List (List Entry)) → all_from (limit + 1) (run ∷ more) ≡ true → is_below (option_map (λ b. b.upto) (break_in cause (run ∷ more))) limit ≡ false
late_break cause limit run [] from =
    let parts = and_parts (nat_le (limit + 1) (run_stamp run)) true from in
    let low = leb-true (limit + 1) (run_stamp run) parts.0 in
    choose low (is_crowded run) refl
  where
    choose : limit + 1 ≤ run_stamp run → (crowded : Bool) → is_crowded run ≡ crowded → is_below (option_map (λ b. b.upto) (break_in cause (run ∷ []))) limit ≡ false
    choose low true is = rw is (le-ltb (run_stamp run - 1) limit (omega arith))
    choose low false is = rw is (after_not_below cause limit (run_stamp run) (omega arith))
late_break cause limit run (next ∷ more) from =
    let parts = and_parts (nat_le (limit + 1) (run_stamp run)) (all_from (limit + 1) (next ∷ more)) from in
    let low = leb-true (limit + 1) (run_stamp run) parts.0 in
    choose low (late_break cause limit next more parts.1) (is_crowded run) refl
  where
    choose : limit + 1 ≤ run_stamp run → is_below (option_map (λ b. b.upto) (break_in cause (next ∷ more))) limit ≡ false → (crowded : Bool) → is_crowded run ≡ crowded
        → is_below (option_map (λ b. b.upto) (break_in cause (run ∷ next ∷ more))) limit ≡ false
    choose low rest true is = rw is (le-ltb (run_stamp run - 1) limit (omega arith))
    choose low rest false is = rw is rest

-- ---- what is after a time

-- Entries of which the first run is above a time rise from after it.
pub above_rises : (limit : ℕ) (entries : List Entry) → do_rise 0 entries ≡ true → IsAbove limit (runs entries) → do_rise (limit + 1) entries ≡ true
above_rises limit [] rise above = refl
above_rises limit (e ∷ entries) rise above =
    let b = begins e entries in
    let lt : limit < stamp_of e = subst (IsAbove limit) b.is above in
    let parts = and_parts (nat_le 0 (stamp_of e)) (do_rise (stamp_of e) entries) rise in
    and_from (nat_le (limit + 1) (stamp_of e)) (do_rise (stamp_of e) entries) (le-leb (limit + 1) (stamp_of e) (omega (arith, lt))) parts.1

-- Their break isn't below that time, where without a run there is none.
pub above_unbroken : (limit : ℕ) (cause : Option Cause) (entries : List Entry) → do_rise (limit + 1) entries ≡ true → (runs entries ≡ [] → cause ≡ None) → is_below (option_map (λ b. b.upto) (break_in cause (runs entries))) limit ≡ false
above_unbroken limit cause [] rise clean = rw (clean refl) refl
above_unbroken limit cause (e ∷ entries) rise clean =
    let b = begins e entries in
    let from : all_from (limit + 1) (runs (e ∷ entries)) ≡ true = runs_from (limit + 1) (limit + 1) (e ∷ entries) (omega arith) rise in
    rw b.is (late_break cause limit (e ∷ b.run) b.more (subst (λ (rs : List (List Entry)). all_from (limit + 1) rs ≡ true) b.is from))

-- entries with the same runs are the same
pub same_runs : (a b : List Entry) → runs a ≡ runs b → a ≡ b
same_runs a b is = sym (runs_are_all a) ∙ ap (λ (rs : List (List Entry)). flat_map (λ r. r) rs) is ∙ runs_are_all b

-- entries begin with their first run
pub begin_with_run : (old new run : List Entry) (more : List (List Entry)) → runs old ≡ run ∷ more → runs new ≡ more → old ≡ run ++ new
begin_with_run old new run more is rest =
    sym (runs_are_all old) ∙ ap (λ (rs : List (List Entry)). flat_map (λ r. r) rs) is ∙ ap (λ (rs : List (List Entry)). run ++ flat_map (λ r. r) rs) (sym rest) ∙ ap (λ (t : List Entry). run ++ t) (runs_are_all new)
