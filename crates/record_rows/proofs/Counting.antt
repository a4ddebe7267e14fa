-- How often records and marks hit a device.
use Rattle.std.proofs.Common.{◌≡◌, ℕ, ◌+◌, ◌≤◌, Bool, true, false, cond, nat_eq, ◌&&◌, List, [], ◌∷◌, ◌++◌, map, filter, Option, Some, None, refl, sym, ap, subst, ◌∙◌, arith, true≢false}
use Rattle.std.specs.List.{flat_map}
use Rattle.std.proofs.lemmas.Bool.{eqb-true}
use Rattle.std.proofs.lemmas.List.Sums.{sum_by-append, sum_by-cons}
use Rattle.tod_stamp.specs.declared.stamp.Stamp.{Stamp}
use Rattle.ckd_track.specs.declared.write.Cause.{Cause}
use Rattle.pair_table.specs.declared.level.Level.{Level}
use Rattle.pair_table.specs.declared.row.PairRow.{PairRow}
use Rattle.pair_table.specs.declared.row.PairState.{PairState}
use Rattle.pair_table.specs.declared.row.SuspendCause.TheVariants.{Device}
use Rattle.pair_table.specs.Devices.{is_among}
use Rattle.pair_table.specs.Tables.{in_state}
use Rattle.pending_queue.specs.Groups.{FormedGroup}
use Rattle.row_changes.specs.Changes.{Timed, reaches_others, since}
use Rattle.row_changes.specs.Changes.RowChange.{Reached}
use Rattle.row_changes.specs.Spans.{hit_count, hits}
use Rattle.record_rows.specs.GroupRows.{breaking, group_changes, matured_with_group, maturing, maturing_of}
use Rattle.record_rows.specs.Hits.{hit_changes, hit_now, is_down, is_hit_now, marked_changes, reached_changes, rows_marked, told_changes}
use Rattle.record_rows.specs.Records.{changes_after_mark, record_changes}

-- 1 for a device that is hit, and else 0
abbrev pub once : Bool → ℕ
once b = cond b 1 0

pub counts_append : (d : ℕ) (xs ys : List Timed) → hit_count d (xs ++ ys) ≡ hit_count d xs + hit_count d ys
counts_append d xs ys = sum_by-append (λ (t : Timed). once (hits d t)) xs ys

counts_first : (d : ℕ) (t : Timed) (changes : List Timed) → hit_count d (t ∷ changes) ≡ once (hits d t) + hit_count d changes
counts_first d t changes = sum_by-cons (λ (x : Timed). once (hits d x)) t changes

none_more : (n : ℕ) → 0 + n ≡ n
none_more n = omega arith

-- ---- what a group brings hits none

breaks_hit_none : (d time : ℕ) (found : List (ℕ × Stamp × Cause)) → hit_count d (map (breaking time) found) ≡ 0
breaks_hit_none d time [] = refl
breaks_hit_none d time (f ∷ found) = counts_first d (breaking time f) (map (breaking time) found) ∙ none_more (hit_count d (map (breaking time) found)) ∙ breaks_hit_none d time found

maturing_hits_none : (d time device : ℕ) (o : Option PairState) → hit_count d (maturing time device o) ≡ 0
maturing_hits_none d time device None = refl
maturing_hits_none d time device (Some state) = refl

matures_hit_none : (d : ℕ) (group : FormedGroup) (rows : List PairRow) → hit_count d (flat_map (maturing_of group) rows) ≡ 0
matures_hit_none d group [] = refl
matures_hit_none d group (r ∷ rows) =
    counts_append d (maturing_of group r) (flat_map (maturing_of group) rows) ∙ ap (λ (n : ℕ). n + hit_count d (flat_map (maturing_of group) rows)) (maturing_hits_none d group.cut.0 r.device (matured_with_group group r))
    ∙ none_more (hit_count d (flat_map (maturing_of group) rows)) ∙ matures_hit_none d group rows

group_hits_none : (d : ℕ) (group : FormedGroup) (rows : List PairRow) → hit_count d (group_changes group rows) ≡ 0
group_hits_none d group rows =
    counts_append d (map (breaking group.cut.0) group.breaks) (flat_map (maturing_of group) rows)
    ∙ ap (λ (n : ℕ). n + hit_count d (flat_map (maturing_of group) rows)) (breaks_hit_none d group.cut.0 group.breaks) ∙ none_more (hit_count d (flat_map (maturing_of group) rows)) ∙ matures_hit_none d group rows

-- ---- hits

pub hits_count : (d time : ℕ) (hit : List ℕ) → hit_count d (hit_changes time hit) ≡ once (is_among d hit)
hits_count d time [] = refl
hits_count d time (e ∷ hit) = none_more (once (is_among d (e ∷ hit)))

pub marks_count : (d time : ℕ) (hit : List ℕ) → hit_count d (marked_changes time hit) ≡ once (is_among d hit)
marks_count d time [] = refl
marks_count d time (e ∷ hit) = none_more (once (is_among d (e ∷ hit)))

reached_hit_none : (d : ℕ) (level : Level) (time : ℕ) (marked : List ℕ) → hit_count d (reached_changes level time marked) ≡ 0
reached_hit_none d level time [] = refl
reached_hit_none d level time (m ∷ marked) = choose (reaches_others level)
  where
    choose : (b : Bool) → hit_count d (cond b (record { time = time; change = Reached (m ∷ marked) } ∷ []) []) ≡ 0
    choose true = refl
    choose false = refl

told_count : (d : ℕ) (level : Level) (time : ℕ) (marked hit : List ℕ) → hit_count d (told_changes level time marked hit) ≡ once (is_among d hit)
told_count d level time marked hit =
    counts_append d (reached_changes level time marked) (hit_changes time hit) ∙ ap (λ (n : ℕ). n + hit_count d (hit_changes time hit)) (reached_hit_none d level time marked)
    ∙ none_more (hit_count d (hit_changes time hit)) ∙ hits_count d time hit

pub after_marks_count : (d : ℕ) (level : Level) (marked : List ℕ) (group : FormedGroup) (failed : List Bool) (rows : List PairRow) → hit_count d (changes_after_mark level marked group failed rows) ≡ once (is_among d (hit_now failed rows))
after_marks_count d level marked group failed rows =
    let told = told_changes level group.cut.0 marked (hit_now failed rows) in
    counts_append d (group_changes group rows) told ∙ ap (λ (n : ℕ). n + hit_count d told) (group_hits_none d group rows) ∙ none_more (hit_count d told) ∙ told_count d level group.cut.0 marked (hit_now failed rows)

pub records_count : (d : ℕ) (group : FormedGroup) (failed : List Bool) (rows : List PairRow) → hit_count d (record_changes group failed rows) ≡ once (is_among d (hit_now failed rows))
records_count d group failed rows =
    let told = hit_changes group.cut.0 (hit_now failed rows) in
    counts_append d (group_changes group rows) told ∙ ap (λ (n : ℕ). n + hit_count d told) (group_hits_none d group rows) ∙ none_more (hit_count d told) ∙ hits_count d group.cut.0 (hit_now failed rows)

-- ---- a mark and its record

-- A device that was hit in the mark isn't hit by the record.
marked_no_more : (failed : List Bool) (d time : ℕ) (hit : List ℕ) (rows : List PairRow) → is_among d hit ≡ true → is_among d (hit_now failed (rows_marked time hit rows)) ≡ false
marked_no_more failed d time hit [] among = refl
marked_no_more failed d time hit (r ∷ rows) among = choose (is_among r.device hit) refl (marked_no_more failed d time hit rows among)
  where
    left : List PairRow
    left = filter (is_hit_now failed) (rows_marked time hit rows)

    suspended : (c : Bool) → is_among d (hit_now failed (rows_marked time hit rows)) ≡ false → is_among d (map (λ (x : PairRow). x.device) (cond (c && false) (in_state (since Device time) r ∷ left) left)) ≡ false
    suspended true rest = rest
    suspended false rest = rest

    other : (b : Bool) → nat_eq r.device d ≡ b → is_among r.device hit ≡ false → b ≡ false
    other true is none = absurd (true≢false (sym among ∙ ap (λ (n : ℕ). is_among n hit) (sym (eqb-true r.device d is)) ∙ none))
    other false is none = refl

    as_it_was : (c : Bool) → nat_eq r.device d ≡ false → is_among d (hit_now failed (rows_marked time hit rows)) ≡ false → is_among d (map (λ (x : PairRow). x.device) (cond c (r ∷ left) left)) ≡ false
    as_it_was true differs rest = rw differs rest
    as_it_was false differs rest = rest

    choose : (b : Bool) → is_among r.device hit ≡ b → is_among d (hit_now failed (rows_marked time hit rows)) ≡ false → is_among d (hit_now failed (cond b (in_state (since Device time) r) r ∷ rows_marked time hit rows)) ≡ false
    choose true is rest = suspended (is_down failed r.device) rest
    choose false is rest = as_it_was (is_hit_now failed r) (other (nat_eq r.device d) refl is) rest

at_most_once : (a b : Bool) → (a ≡ true → b ≡ false) → once a + once b ≤ 1
at_most_once true true no_more = absurd (true≢false (no_more refl))
at_most_once true false no_more = omega arith
at_most_once false true no_more = omega arith
at_most_once false false no_more = omega arith

pub marked_records_count : (d : ℕ) (level : Level) (group : FormedGroup) (early late : List Bool) (time : ℕ) (rows : List PairRow)
    → hit_count d (marked_changes time (hit_now early rows) ++ changes_after_mark level (hit_now early rows) group late (rows_marked time (hit_now early rows) rows)) ≤ 1
marked_records_count d level group early late time rows =
    let hit = hit_now early rows in
    let next = rows_marked time hit rows in
    let after = changes_after_mark level hit group late next in
    subst (λ (n : ℕ). n ≤ 1)
    (sym (counts_append d (marked_changes time hit) after ∙ ap (λ (n : ℕ). n + hit_count d after) (marks_count d time hit) ∙ ap (λ (n : ℕ). once (is_among d hit) + n) (after_marks_count d level hit group late next)))
    (at_most_once (is_among d hit) (is_among d (hit_now late next)) (λ among. marked_no_more late d time hit rows among))
