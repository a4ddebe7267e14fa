-- The volumes of a header are named one after another.
use Rattle.std.proofs.Common.{◌≡◌, ℕ, zero, suc, ◌+◌, ◌-◌, ◌<◌, ◌≤◌, ◌&&◌, ◌||◌, not, Bool, true, false, cond, nat_eq, nat_lt, nat_le, List, [], ◌∷◌, ◌++◌, length, map, take, drop, get_or, Some, None, refl, sym, ap, subst, ◌∙◌, append-nil, append_assoc, arith}
use Rattle.std.specs.Prelude.{bytes_eq, IsTrue}
use Rattle.std.specs.List.{list_all, list_any}
use Rattle.std.proofs.lemmas.Bool.{and_from, and_parts, le-leb, leb-true, lt-ltb, ltb-true, ne_eqb}
use Rattle.std.proofs.lemmas.List.{at_drop_more, get_or-take, length-take-le, take_all, take_more}
use Rattle.std.proofs.lemmas.List.Folds.{list_all-append, list_any-append}
use Rattle.xrc_edge.specs.declared.limits.TheConstants.{MOST_CONTROLS, MOST_CYLINDERS, MOST_CONTROL_VOLUMES}
use Rattle.tod_stamp.specs.Fields.{is_version, within}
use Rattle.tod_stamp.specs.Names.{is_serial}
use Rattle.write_trace.specs.declared.header.Header.{Header}
use Rattle.write_trace.specs.declared.header.VolumeHead.{VolumeHead}
use Rattle.write_trace.specs.Headers.{are_bases, are_volumes, is_header, most_cylinders}
use Rattle.write_trace.proofs.BaseCounts.{most_few}
use Rattle.pair_table.specs.declared.names.NamedVolume.{NamedVolume}
use Rattle.pair_table.specs.Naming.{MayName, Naming, are_alike, none_alike, with_primary}
use Rattle.pair_table.specs.Rows.{are_in_ranges}
use Rattle.pair_table.proofs.NamingLaws.{apart_more}
use Rattle.pair_table.proofs.PutLaws.{name_sym}
use Rattle.consistency.specs.Stages.{volumes_named}
use Rattle.xrc_session.specs.Openings.{AreSerialsNamed, NamesApart, first_named_again, is_named_in, serials_in_header}

-- ---- tests

either_false : (a b : Bool) → (a || b) ≡ false → (a ≡ false) × (b ≡ false)
either_false true b e = absurd cc
either_false false b e = (refl, e)

none_true : (a b : Bool) → a ≡ false → b ≡ false → (a || b) ≡ false
none_true a b e f = cc (e, f)

false_of_not : (b : Bool) → not b ≡ true → b ≡ false
false_of_not true e = absurd cc
false_of_not false e = refl

any_alike : {A : Type 0} (p q : A → Bool) (xs : List A) → ((x : A) → p x ≡ q x) → list_any p xs ≡ list_any q xs
any_alike p q [] same = refl
any_alike p q (x ∷ xs) same = ap (λ (b : Bool). b || list_any p xs) (same x) ∙ ap (λ (b : Bool). q x || b) (any_alike p q xs same)

-- ---- serials that were named

-- A serial is among some, whichever of two is asked for the other.
pub named_either_way : (named : List (List ℕ)) (serial : List ℕ) → list_any (λ s. bytes_eq s serial) named ≡ is_named_in named serial
named_either_way named serial = any_alike (λ s. bytes_eq s serial) (bytes_eq serial) named (λ s. name_sym s serial)

-- The volume at a place is the first with a serial that was named.
pub again_here : (named : List (List ℕ)) (heads : List VolumeHead) (v : ℕ) (head : VolumeHead) → v < length heads → head ≡ get_or heads v head → first_named_again named 0 heads ≡ first_named_again named v (drop v heads) → is_named_in named head.serial ≡ true
    → first_named_again named 0 heads ≡ Some v
again_here named heads v head inside is so_far again =
    so_far ∙ at_drop_more (first_named_again named v) heads v head inside ∙ ap (λ (h : VolumeHead). first_named_again named v (h ∷ drop (v + 1) heads)) (sym is)
    ∙ ap (λ (b : Bool). cond b (Some v) (first_named_again named (v + 1) (drop (v + 1) heads))) again

-- It isn't, and the next one comes.
pub again_later : (named : List (List ℕ)) (heads : List VolumeHead) (v : ℕ) (head : VolumeHead) → v < length heads → head ≡ get_or heads v head → first_named_again named 0 heads ≡ first_named_again named v (drop v heads) → is_named_in named head.serial ≡ false
    → first_named_again named 0 heads ≡ first_named_again named (v + 1) (drop (v + 1) heads)
again_later named heads v head inside is so_far not_yet =
    so_far ∙ at_drop_more (first_named_again named v) heads v head inside ∙ ap (λ (h : VolumeHead). first_named_again named v (h ∷ drop (v + 1) heads)) (sym is)
    ∙ ap (λ (b : Bool). cond b (Some v) (first_named_again named (v + 1) (drop (v + 1) heads))) not_yet

-- If no volume was named before, none at a place was.
fresh_first : (named : List (List ℕ)) (first : ℕ) (h : VolumeHead) (heads : List VolumeHead) → first_named_again named first (h ∷ heads) ≡ None → (is_named_in named h.serial ≡ false) × (first_named_again named (first + 1) heads ≡ None)
fresh_first named first h heads none = of (is_named_in named h.serial) refl
  where
    of : (b : Bool) → is_named_in named h.serial ≡ b → (is_named_in named h.serial ≡ false) × (first_named_again named (first + 1) heads ≡ None)
    of true is = absurd (let e = ap (λ (c : Bool). cond c (Some first) (first_named_again named (first + 1) heads)) (sym is) ∙ none in cc e)
    of false is = (is, ap (λ (c : Bool). cond c (Some first) (first_named_again named (first + 1) heads)) (sym is) ∙ none)

fresh_at : (named : List (List ℕ)) (first : ℕ) (heads : List VolumeHead) (v : ℕ) (d : VolumeHead) → first_named_again named first heads ≡ None → v < length heads → is_named_in named (get_or heads v d).serial ≡ false
fresh_at named first [] v d none inside = absurd (omega (arith, inside))
fresh_at named first (h ∷ heads) zero d none inside = (fresh_first named first h heads none).0
fresh_at named first (h ∷ heads) (suc v) d none inside = fresh_at named (first + 1) heads v d (fresh_first named first h heads none).1 (omega arith)

-- ---- the volumes of one header

-- A volume of a header has a serial that is neither among those seen nor that of a volume before it, and it has few cylinders.
record IsApart (seen : List (List ℕ)) (heads : List VolumeHead) (v : ℕ) (d : VolumeHead) : Type 0 where
  unseen : list_any (bytes_eq (get_or heads v d).serial) seen ≡ false
  earlier : (i : ℕ) → i < v → bytes_eq (get_or heads v d).serial (get_or heads i d).serial ≡ false
  few : within 1 MOST_CYLINDERS (get_or heads v d).cylinders ≡ true

apart_at : (seen : List (List ℕ)) (heads : List VolumeHead) (v : ℕ) (d : VolumeHead) → are_volumes 2 seen heads ≡ true → v < length heads → IsApart seen heads v d
apart_at seen [] v d are inside = absurd (omega (arith, inside))
apart_at seen (h ∷ heads) zero d are inside =
    let three = and_parts (is_serial h.serial && not (list_any (bytes_eq h.serial) seen) && within 1 MOST_CYLINDERS h.cylinders) (are_volumes 2 (h.serial ∷ seen) heads) are in
    let two = and_parts (is_serial h.serial && not (list_any (bytes_eq h.serial) seen)) (within 1 MOST_CYLINDERS h.cylinders) three.0 in
    record { unseen = false_of_not (list_any (bytes_eq h.serial) seen) (and_parts (is_serial h.serial) (not (list_any (bytes_eq h.serial) seen)) two.0).1; earlier = λ i less. absurd (omega (arith, less)); few = two.1 }
apart_at seen (h ∷ heads) (suc v) d are inside =
    let three = and_parts (is_serial h.serial && not (list_any (bytes_eq h.serial) seen) && within 1 MOST_CYLINDERS h.cylinders) (are_volumes 2 (h.serial ∷ seen) heads) are in
    let rest = apart_at (h.serial ∷ seen) heads v d three.1 (omega arith) in
    let new = either_false (bytes_eq (get_or heads v d).serial h.serial) (list_any (bytes_eq (get_or heads v d).serial) seen) rest.unseen in
    record { unseen = new.1; earlier = earlier_of rest new.0; few = rest.few }
  where
    earlier_of : IsApart (h.serial ∷ seen) heads v d → bytes_eq (get_or heads v d).serial h.serial ≡ false → (i : ℕ) → i < suc v → bytes_eq (get_or heads v d).serial (get_or (h ∷ heads) i d).serial ≡ false
    earlier_of rest first zero less = first
    earlier_of rest first (suc i) less = rest.earlier i (omega arith)

-- No volume of these is like one after them whose serial none of them has.
unlike_those : (new : NamedVolume) (control first : ℕ) (heads : List VolumeHead) (d : VolumeHead) → ((i : ℕ) → i < length heads → bytes_eq new.serial (get_or heads i d).serial ≡ false) → first + length heads ≤ new.volume
    → list_any (are_alike new) (volumes_named control first heads) ≡ false
unlike_those new control first [] d apart after = refl
unlike_those new control first (h ∷ heads) d apart after =
    none_true (bytes_eq new.serial h.serial || (nat_eq new.control control && nat_eq new.volume first)) (list_any (are_alike new) (volumes_named control (first + 1) heads))
    (none_true (bytes_eq new.serial h.serial) (nat_eq new.control control && nat_eq new.volume first) (apart 0 (omega arith)) (not_both (nat_eq new.control control) (nat_eq new.volume first) (unequal new.volume first (omega arith))))
    (unlike_those new control (first + 1) heads d (λ i less. apart (suc i) (omega arith)) (omega arith))
  where
    not_both : (a b : Bool) → b ≡ false → (a && b) ≡ false
    not_both true b e = e
    not_both false b e = refl

    unequal : (m n : ℕ) → n < m → nat_eq m n ≡ false
    unequal m n less = ne_eqb m n (λ same. omega arith)

-- A volume is like none of those of controllers below its own, if its serial wasn't named.
unlike_others : (new : NamedVolume) (volumes : List NamedVolume) → list_all (λ v. nat_lt v.control new.control) volumes ≡ true → list_any (bytes_eq new.serial) (map (λ v. v.serial) volumes) ≡ false → list_any (are_alike new) volumes ≡ false
unlike_others new [] below fresh = refl
unlike_others new (w ∷ volumes) below fresh =
    let lower = and_parts (nat_lt w.control new.control) (list_all (λ v. nat_lt v.control new.control) volumes) below in
    let other = either_false (bytes_eq new.serial w.serial) (list_any (bytes_eq new.serial) (map (λ v. v.serial) volumes)) fresh in
    none_true (bytes_eq new.serial w.serial || (nat_eq new.control w.control && nat_eq new.volume w.volume)) (list_any (are_alike new) volumes)
    (none_true (bytes_eq new.serial w.serial) (nat_eq new.control w.control && nat_eq new.volume w.volume) other.0 (not_first (nat_eq new.control w.control) (nat_eq new.volume w.volume) (unequal new.control w.control (ltb-true w.control new.control lower.0))))
    (unlike_others new volumes lower.1 other.1)
  where
    not_first : (a b : Bool) → a ≡ false → (a && b) ≡ false
    not_first a b e = cc e

    unequal : (m n : ℕ) → n < m → nat_eq m n ≡ false
    unequal m n less = ne_eqb m n (λ same. omega arith)

-- ---- the names after some volumes of a header

-- a volume as it is named
abbrev pub volume_named : (control volume : ℕ) → VolumeHead → NamedVolume
volume_named control v head = record { serial = head.serial; control = control; volume = v; cylinders = head.cylinders }

-- the names after the volumes of a controller below a number
abbrev pub names_after : (control : ℕ) → List VolumeHead → (below : ℕ) → Naming → Naming
names_after control heads v names = record names { primaries = names.primaries ++ volumes_named control 0 (take v heads) }

-- The next volume may be named.
pub may_name : (control : ℕ) (heads : List VolumeHead) (named : List (List ℕ)) (before names : Naming) (v : ℕ) (head : VolumeHead) → control < 16 → are_volumes 2 [] heads ≡ true → length heads ≤ 32 → NamesApart control heads named before
    → v < length heads → head ≡ get_or heads v head → names ≡ names_after control heads v before → MayName (volume_named control v head) names
may_name control heads named before names v head small are few apart inside is after = subst (λ (h : VolumeHead). MayName (volume_named control v h) names) (sym is) (record { ranges = ranges; new = new })
  where
    here : VolumeHead
    here = get_or heads v head

    its : IsApart [] heads v head
    its = apart_at [] heads v head are inside

    fresh : list_any (bytes_eq here.serial) (map (λ w. w.serial) before.primaries) ≡ false
    fresh = subst (λ (l : List (List ℕ)). list_any (bytes_eq here.serial) l ≡ false) apart.are.serials (fresh_at named 0 heads v head apart.new inside)

    ranges : IsTrue (are_in_ranges control v here.cylinders)
    ranges =
        and_from (nat_le control (MOST_CONTROLS - 1) && nat_le v (MOST_CONTROL_VOLUMES - 1)) (within 1 MOST_CYLINDERS here.cylinders)
        (and_from (nat_le control (MOST_CONTROLS - 1)) (nat_le v (MOST_CONTROL_VOLUMES - 1)) (le-leb control 15 (omega arith)) (le-leb v 31 (omega (arith, inside, few)))) its.few

    front : (i : ℕ) → i < length (take v heads) → bytes_eq here.serial (get_or (take v heads) i head).serial ≡ false
    front i less =
        let long = length-take-le v heads (omega (arith, inside)) in
        subst (λ (h : VolumeHead). bytes_eq here.serial h.serial ≡ false) (sym (get_or-take v heads i head (omega arith))) (its.earlier i (omega arith))

    new : IsTrue (not (list_any (are_alike (volume_named control v here)) names.primaries))
    new =
        let long = length-take-le v heads (omega (arith, inside)) in
        let mine = unlike_those (volume_named control v here) control 0 (take v heads) head front (omega arith) in
        let others = unlike_others (volume_named control v here) before.primaries apart.are.below fresh in
        ap (λ (n : Naming). not (list_any (are_alike (volume_named control v here)) n.primaries)) after
        ∙ ap not (list_any-append (are_alike (volume_named control v here)) before.primaries (volumes_named control 0 (take v heads)) ∙ none_true _ _ others mine)

volumes_more : (control first : ℕ) (heads : List VolumeHead) (h : VolumeHead) → volumes_named control first (heads ++ h ∷ []) ≡ volumes_named control first heads ++ volume_named control (first + length heads) h ∷ []
volumes_more control first [] h = ap (λ (v : ℕ). volume_named control v h ∷ []) (omega arith)
volumes_more control first (x ∷ heads) h =
    ap (λ (l : List NamedVolume). volume_named control first x ∷ l) (volumes_more control (first + 1) heads h ∙ ap (λ (v : ℕ). volumes_named control (first + 1) heads ++ volume_named control v h ∷ []) (omega arith))

pub serials_more : (heads : List VolumeHead) (h : VolumeHead) → serials_in_header (heads ++ h ∷ []) ≡ serials_in_header heads ++ h.serial ∷ []
serials_more [] h = refl
serials_more (x ∷ heads) h = ap (λ (l : List (List ℕ)). x.serial ∷ l) (serials_more heads h)

-- It was named.
pub named_next : (control : ℕ) (heads : List VolumeHead) (before names next : Naming) (v : ℕ) (head : VolumeHead) → v < length heads → head ≡ get_or heads v head → names ≡ names_after control heads v before → next ≡ with_primary (volume_named control v head) names
    → next ≡ names_after control heads (v + 1) before
named_next control heads before names next v head inside is after named =
    let long = length-take-le v heads (omega (arith, inside)) in
    let volumes =
    ap (volumes_named control 0) (take_more heads v head inside ∙ ap (λ (h : VolumeHead). take v heads ++ h ∷ []) (sym is)) ∙ volumes_more control 0 (take v heads) head
    ∙ ap (λ (n : ℕ). volumes_named control 0 (take v heads) ++ volume_named control n head ∷ []) (omega arith) in
    named ∙ ap (with_primary (volume_named control v head)) after
    ∙ ap (λ (l : List NamedVolume). record before { primaries = l }) (append_assoc before.primaries (volumes_named control 0 (take v heads)) (volume_named control v head ∷ []) ∙ ap (λ (l : List NamedVolume). before.primaries ++ l) (sym volumes))

pub serials_next : (heads : List VolumeHead) (before named next : List (List ℕ)) (v : ℕ) (head : VolumeHead) → v < length heads → head ≡ get_or heads v head → named ≡ before ++ serials_in_header (take v heads) → next ≡ named ++ head.serial ∷ []
    → next ≡ before ++ serials_in_header (take (v + 1) heads)
serials_next heads before named next v head inside is after pushed =
    let serials = ap serials_in_header (take_more heads v head inside ∙ ap (λ (h : VolumeHead). take v heads ++ h ∷ []) (sym is)) ∙ serials_more (take v heads) head in
    pushed ∙ ap (λ (l : List (List ℕ)). l ++ head.serial ∷ []) after ∙ append_assoc before (serials_in_header (take v heads)) (head.serial ∷ []) ∙ ap (λ (l : List (List ℕ)). before ++ l) (sym serials)

-- ---- the names after a header

below_more : (control : ℕ) (volumes : List NamedVolume) → list_all (λ v. nat_lt v.control control) volumes ≡ true → list_all (λ v. nat_lt v.control (control + 1)) volumes ≡ true
below_more control [] below = refl
below_more control (v ∷ volumes) below =
    let both = and_parts (nat_lt v.control control) (list_all (λ v. nat_lt v.control control) volumes) below in
    and_from (nat_lt v.control (control + 1)) (list_all (λ v. nat_lt v.control (control + 1)) volumes) (lt-ltb v.control (control + 1) (let low = ltb-true v.control control both.0 in omega arith)) (below_more control volumes both.1)

below_named : (control first : ℕ) (heads : List VolumeHead) → list_all (λ v. nat_lt v.control (control + 1)) (volumes_named control first heads) ≡ true
below_named control first [] = refl
below_named control first (h ∷ heads) = and_from (nat_lt control (control + 1)) (list_all (λ v. nat_lt v.control (control + 1)) (volumes_named control (first + 1) heads)) (lt-ltb control (control + 1) (omega arith)) (below_named control (first + 1) heads)

serials_named : (control first : ℕ) (heads : List VolumeHead) → serials_in_header heads ≡ map (λ v. v.serial) (volumes_named control first heads)
serials_named control first [] = refl
serials_named control first (h ∷ heads) = ap (λ (l : List (List ℕ)). h.serial ∷ l) (serials_named control (first + 1) heads)

map_both : {A B : Type 0} (f : A → B) (xs ys : List A) → map f (xs ++ ys) ≡ map f xs ++ map f ys
map_both f [] ys = refl
map_both f (x ∷ xs) ys = ap (λ l. f x ∷ l) (map_both f xs ys)

same_at : {A : Type 0} (xs : List A) (i : ℕ) (d e : A) → i < length xs → get_or xs i d ≡ get_or xs i e
same_at [] i d e inside = absurd (omega (arith, inside))
same_at (x ∷ xs) zero d e inside = refl
same_at (x ∷ xs) (suc i) d e inside = same_at xs i d e (omega arith)

-- The volumes of a header are named apart from one another and from those before.
named_apart : (control : ℕ) (heads : List VolumeHead) (named : List (List ℕ)) (before : Naming) (d : VolumeHead) → control < 16 → are_volumes 2 [] heads ≡ true → length heads ≤ 32 → NamesApart control heads named before → (n : ℕ) → n ≤ length heads
    → none_alike (names_after control heads n before).primaries ≡ true
named_apart control heads named before d small are few apart zero within = ap none_alike (append-nil before.primaries) ∙ apart.are.apart
named_apart control heads named before d small are few apart (suc n) within =
    let inside : n < length heads = omega (arith, within) in
    let head = get_or heads n d in
    let is : head ≡ get_or heads n head = same_at heads n d head inside in
    let names = names_after control heads n before in
    let v = volume_named control n head in
    let may = may_name control heads named before names n head small are few apart inside is refl in
    let more = apart_more v names.primaries (named_apart control heads named before d small are few apart n (omega (arith, within))) (false_of_not (list_any (are_alike v) names.primaries) may.new) in
    let next = named_next control heads before names (with_primary v names) n head inside is refl refl in
    let number : n + 1 ≡ suc n = omega arith in
    ap (λ (m : ℕ). none_alike (names_after control heads m before).primaries) (sym number) ∙ ap (λ (x : Naming). none_alike x.primaries) (sym next) ∙ more

-- Volumes of any version have no more cylinders than in version 2.
wide_volumes : (version : ℕ) (seen : List (List ℕ)) (heads : List VolumeHead) → are_volumes version seen heads ≡ true → are_volumes 2 seen heads ≡ true
wide_volumes version seen [] are = refl
wide_volumes version seen (h ∷ heads) are =
    let front = is_serial h.serial && not (list_any (bytes_eq h.serial) seen) in
    let three = and_parts (front && within 1 (most_cylinders version) h.cylinders) (are_volumes version (h.serial ∷ seen) heads) are in
    let two = and_parts front (within 1 (most_cylinders version) h.cylinders) three.0 in
    let one = and_parts (nat_le 1 h.cylinders) (nat_le h.cylinders (most_cylinders version)) two.1 in
    let few : nat_le h.cylinders MOST_CYLINDERS ≡ true = le-leb h.cylinders MOST_CYLINDERS (omega (arith, leb-true h.cylinders (most_cylinders version) one.1, most_few version)) in
    and_from (front && within 1 MOST_CYLINDERS h.cylinders) (are_volumes 2 (h.serial ∷ seen) heads) (and_from front (within 1 MOST_CYLINDERS h.cylinders) two.0 (and_from (nat_le 1 h.cylinders) (nat_le h.cylinders MOST_CYLINDERS) one.0 few)) (wide_volumes version (h.serial ∷ seen) heads three.1)

-- A header that keeps its rules has 1 to 32 volumes, which keep theirs.
pub record HasGoodVolumes (heads : List VolumeHead) : Type 0 where
  pub some : 1 ≤ length heads
  pub few : length heads ≤ 32
  pub are : are_volumes 2 [] heads ≡ true

pub volumes_of_header : (h : Header) → is_header h ≡ true → HasGoodVolumes h.volumes
volumes_of_header h kept =
    let three = and_parts (is_version h.version && within 1 MOST_CONTROL_VOLUMES (length h.volumes) && are_volumes h.version [] h.volumes) (are_bases h.volumes (0, 0) h.base) kept in
    let two = and_parts (is_version h.version && within 1 MOST_CONTROL_VOLUMES (length h.volumes)) (are_volumes h.version [] h.volumes) three.0 in
    let count = and_parts (is_version h.version) (within 1 MOST_CONTROL_VOLUMES (length h.volumes)) two.0 in
    let ends = and_parts (nat_le 1 (length h.volumes)) (nat_le (length h.volumes) MOST_CONTROL_VOLUMES) count.1 in
    record { some = leb-true 1 (length h.volumes) ends.0; few = leb-true (length h.volumes) MOST_CONTROL_VOLUMES ends.1; are = wide_volumes h.version [] h.volumes two.1 }

-- The serials that were named are those of the names again, now of one controller more.
pub serials_are_named : (control : ℕ) (heads : List VolumeHead) (old named : List (List ℕ)) (before names : Naming) → control < 16 → HasGoodVolumes heads → NamesApart control heads old before
    → (names ≡ record before { primaries = before.primaries ++ volumes_named control 0 heads }) × (named ≡ old ++ serials_in_header heads) → AreSerialsNamed (control + 1) named names
serials_are_named control heads old named before names small good apart after = record {
  serials =
      after.1 ∙ ap (λ (l : List (List ℕ)). l ++ serials_in_header heads) apart.are.serials ∙ ap (λ (l : List (List ℕ)). map (λ v. v.serial) before.primaries ++ l) (serials_named control 0 heads)
      ∙ sym (map_both (λ v. v.serial) before.primaries (volumes_named control 0 heads)) ∙ ap (λ (n : Naming). map (λ v. v.serial) n.primaries) (sym after.0);
  below =
      ap (λ (n : Naming). list_all (λ v. nat_lt v.control (control + 1)) n.primaries) after.0 ∙ list_all-append (λ v. nat_lt v.control (control + 1)) before.primaries (volumes_named control 0 heads)
      ∙ and_from (list_all (λ v. nat_lt v.control (control + 1)) before.primaries) (list_all (λ v. nat_lt v.control (control + 1)) (volumes_named control 0 heads)) (below_more control before.primaries apart.are.below) (below_named control 0 heads);
  apart =
      ap (λ (n : Naming). none_alike n.primaries) after.0 ∙ ap (λ (l : List VolumeHead). none_alike (before.primaries ++ volumes_named control 0 l)) (sym (take_all (length heads) heads (omega arith)))
      ∙ named_apart control heads old before (record { serial = []; cylinders = 0 }) small good.are good.few apart (length heads) (omega arith);
}

-- So it is by a header that was read.
pub serials_by_header : (control : ℕ) (h : Header) (heads : List VolumeHead) (old named : List (List ℕ)) (before names : Naming) → heads ≡ h.volumes → control < 16 → is_header h ≡ true → AreSerialsNamed control old before → first_named_again old 0 h.volumes ≡ None
    → (names ≡ record before { primaries = before.primaries ++ volumes_named control 0 heads }) × (named ≡ old ++ serials_in_header heads) → AreSerialsNamed (control + 1) named names
serials_by_header control h heads old named before names is small kept are fresh =
    serials_are_named control heads old named before names small (subst HasGoodVolumes (sym is) (volumes_of_header h kept)) (record { are = are; new = ap (first_named_again old 0) is ∙ fresh })
