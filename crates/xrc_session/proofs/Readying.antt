-- The lanes, the names and the shared state between two epochs.
use Rattle.std.proofs.Common.{◌≡◌, ℕ, zero, suc, ◌+◌, ◌<◌, ◌≤◌, nat_lt, nat_le, nat_eq, Bool, true, false, cond, ◌&&◌, List, [], ◌∷◌, ◌++◌, length, map, take, ◌*◌, Option, Some, None, refl, sym, ap, subst, ◌∙◌, arith, true≢false}
use Rattle.std.specs.Prelude.{IsSomeAnd, is_some, slice_index_or}
use Rattle.std.specs.List.{All, Contains, list_all, list_any}
use Rattle.std.proofs.lemmas.Bool.{and_from, and_parts, eq-eqb, le-ltb, or_left, or_right}
use Rattle.std.proofs.lemmas.List.{length-map}
use Rattle.std.proofs.lemmas.List.Elements.{All-append, All-cons, All-contains, All-nil, All-weaker}
use Rattle.std.proofs.lemmas.List.Folds.{list_any-append}
use Rattle.std.proofs.lemmas.Option.{slice_get_within}
use Rattle.ckd_track.specs.declared.layout.TheConstants.{BLOCKS_OF_QUEUE, WRITES_OF_RUN}
use Rattle.crash_plant.specs.declared.device.Device.TheVariants.{Volume}
use Rattle.crash_plant.specs.Calls.{SameSite}
use Rattle.crash_plant.specs.Moments.{PlantState}
use Rattle.write_trace.specs.declared.header.VolumeHead.{VolumeHead}
use Rattle.write_trace.specs.declared.trace.Trace.{Trace}
use Rattle.write_trace.specs.Headers.{cylinders_of}
use Rattle.sidefile.specs.Breaks.{Break, break_of}
use Rattle.sidefile.specs.Halts.{broken_in}
use Rattle.sidefile.specs.declared.hand.Halt.{Halt}
use Rattle.sidefile.specs.declared.hand.Halt.TheVariants as halts
use Rattle.pair_table.specs.declared.names.NamedDevice.{NamedDevice}
use Rattle.pair_table.specs.declared.names.NamedVolume.{NamedVolume}
use Rattle.pair_table.specs.declared.row.PairRow.{PairRow}
use Rattle.pair_table.specs.declared.row.PairState.{PairState}
use Rattle.pair_table.specs.Commands.{has_named_primary, is_volume_of}
use Rattle.pair_table.specs.Naming.{Naming, has_volumes, is_broken, none_alike, with_broken}
use Rattle.pair_table.specs.Tables.{Table, are_below, in_state, most_rows}
use Rattle.group_state.specs.declared.phase.Phase.{Phase}
use Rattle.group_state.specs.declared.phase.Phase.TheVariants.{Unbroken, Broken, Reported}
use Rattle.group_state.specs.Controls.{ControlState, counts, is_reporting, new_control}
use Rattle.group_state.specs.Groups.{Group, control_at, new_group}
use Rattle.group_state.proofs.GroupLaws.{length_new}
use Rattle.group_state.proofs.Stands.{new_at}
use Rattle.record_rows.specs.ToldRows.{InPlaces}
use Rattle.site_store.specs.Commands.{label_has_volume}
use Rattle.site_store.specs.Sites.{SiteState}
use Rattle.consistency.specs.Stages.{volumes_named}
use Rattle.mover.specs.declared.lane.Lane.{Lane}
use Rattle.mover.specs.Readers.{LaneReaderState}
use Rattle.mover.specs.Lanes.{IsReaderOf, IsSameLane, broken_by, heads_of, reader_in}
use Rattle.mover.specs.Rounds.{AreLanesOf}
use Rattle.mover.specs.Epochs.{AreSameLanes, IsSamePair, LanesBrokeAs, break_below}
use Rattle.xrc_session.specs.Answering.{ControlsCount}
use Rattle.xrc_session.specs.LinePauses.{IsReadyForEpoch, IsUnstarted, MayCommandSite}
use Rattle.xrc_session.specs.Bringing.{IsSiteBrought}
use Rattle.xrc_session.specs.Joins.{AreNamedOfLanes, HasInHeader}
use Rattle.xrc_session.specs.Lanes.{HaveHeadsOf, HaveVolumes, heads_of_reader, primaries_in, with_lanes_broken}
use Rattle.xrc_session.specs.States.{SessionState}
use Rattle.xrc_session.proofs.NamedBroken.{alone, flagged_is_broken, with_flags}

-- ---- headers

-- A named volume is one of a header, of which those before it aren't named here.
record IsOfHeads (control from : ℕ) (heads : List VolumeHead) (v : NamedVolume) : Type 0 where
  control_is : v.control ≡ control
  number : ℕ
  volume : v.volume ≡ from + number
  low : number < length heads
  sized : cylinders_of heads number ≡ v.cylinders

of_heads : (control from : ℕ) (heads : List VolumeHead) → All (IsOfHeads control from heads) (volumes_named control from heads)
of_heads control from [] = All-nil (IsOfHeads control from [])
of_heads control from (head ∷ heads) =
    All-cons (IsOfHeads control from (head ∷ heads)) (record { serial = head.serial; control = control; volume = from; cylinders = head.cylinders }) (volumes_named control (from + 1) heads)
    (record { control_is = refl; number = 0; volume = omega arith; low = omega arith; sized = refl })
    (All-weaker (IsOfHeads control (from + 1) heads) (IsOfHeads control from (head ∷ heads)) later (volumes_named control (from + 1) heads) (of_heads control (from + 1) heads))
  where
    later : (v : NamedVolume) → IsOfHeads control (from + 1) heads v → IsOfHeads control from (head ∷ heads) v
    later v h = record { control_is = h.control_is; number = suc h.number; volume = (let at = h.volume in omega (arith, at)); low = (let low = h.low in omega (arith, low)); sized = h.sized }

-- A named volume is one of a lane's header.
record IsOfLanes {S : Type 0} (from : ℕ) (lanes : List (Lane S)) (v : NamedVolume) : Type 0 where
  place : ℕ
  control : v.control ≡ from + place
  low : place < length lanes
  there : (d : Lane S) → IsSomeAnd (slice_index_or lanes place d).reader (HasInHeader v.volume v.cylinders)

head_there : (o : Option LaneReaderState) (v : NamedVolume) (number : ℕ) → v.volume ≡ 0 + number → number < length (heads_of_reader o) → cylinders_of (heads_of_reader o) number ≡ v.cylinders → IsSomeAnd o (HasInHeader v.volume v.cylinders)
head_there None v number at low sized = absurd (omega (arith, low))
head_there (Some r) v number at low sized =
    let same : number ≡ v.volume = omega (arith, at) in
    record { within = subst (λ n. n < length (heads_of r.feed)) same low; sized = subst (λ n. cylinders_of (heads_of r.feed) n ≡ v.cylinders) same sized }

of_lanes : {S : Type 0} (from : ℕ) (lanes : List (Lane S)) → All (IsOfLanes from lanes) (primaries_in from lanes)
of_lanes from [] = All-nil (IsOfLanes from [])
of_lanes {S} from (lane ∷ lanes) =
    All-append (IsOfLanes from (lane ∷ lanes)) (volumes_named from 0 (heads_of_reader (reader_in lane))) (primaries_in (from + 1) lanes)
    (All-weaker (IsOfHeads from 0 (heads_of_reader (reader_in lane))) (IsOfLanes from (lane ∷ lanes)) first (volumes_named from 0 (heads_of_reader (reader_in lane))) (of_heads from 0 (heads_of_reader (reader_in lane))))
    (All-weaker (IsOfLanes (from + 1) lanes) (IsOfLanes from (lane ∷ lanes)) later (primaries_in (from + 1) lanes) (of_lanes (from + 1) lanes))
  where
    first : (v : NamedVolume) → IsOfHeads from 0 (heads_of_reader (reader_in lane)) v → IsOfLanes from (lane ∷ lanes) v
    first v h = record { place = 0; control = (let at = h.control_is in omega (arith, at)); low = omega arith; there = λ d. head_there lane.reader v h.number h.volume h.low h.sized }

    later : (v : NamedVolume) → IsOfLanes (from + 1) lanes v → IsOfLanes from (lane ∷ lanes) v
    later v h = record { place = suc h.place; control = (let at = h.control in omega (arith, at)); low = (let low = h.low in omega (arith, low)); there = λ d. h.there d }

named_of : {S : Type 0} (lanes : List (Lane S)) (names : Naming) → names.primaries ≡ primaries_in 0 lanes → (v : NamedVolume) → Contains names.primaries v → IsOfLanes 0 lanes v
named_of lanes names is v among = All-contains (IsOfLanes 0 lanes) (primaries_in 0 lanes) v (of_lanes 0 lanes) (subst (λ (l : List NamedVolume). Contains l v) is among)

-- The volumes that the names have from the lanes' headers are of these lanes.
pub named_of_lanes : {S : Type 0} (lanes : List (Lane S)) (names : Naming) → names.primaries ≡ primaries_in 0 lanes → AreNamedOfLanes lanes names
named_of_lanes lanes names is v among d =
    let found = named_of lanes names is v among in
    let same : found.place ≡ v.control = (let at = found.control in omega (arith, at)) in
    subst (λ k. IsSomeAnd (slice_index_or lanes k d).reader (HasInHeader v.volume v.cylinders)) same (found.there d)

-- ---- lanes that stay the same

same_heads : (p q : Option LaneReaderState) → IsSomeAnd p (λ was. IsSomeAnd q (λ is. IsSameLane was.feed is.feed)) → heads_of_reader q ≡ heads_of_reader p
same_heads None q same = absurd same
same_heads (Some was) None same = absurd same
same_heads (Some was) (Some is) same = same.heads

-- Lanes know the same volumes.
abbrev KnowSame : {S : Type 0} → (old new : List (Lane S)) → Type 0
KnowSame old new = (k : ℕ) (d : Lane _) → k < length old → heads_of_reader (reader_in (slice_index_or new k d)) ≡ heads_of_reader (reader_in (slice_index_or old k d))

know_same : {S : Type 0} (old new : List (Lane S)) → AreSameLanes old new → KnowSame old new
know_same old new same k d low = same_heads (slice_index_or old k d).reader (slice_index_or new k d).reader (same.each k d low)

same_primaries : {S : Type 0} (control : ℕ) (old new : List (Lane S)) → length new ≡ length old → KnowSame old new → primaries_in control new ≡ primaries_in control old
same_primaries control [] [] many same = refl
same_primaries control [] (b ∷ new) many same = absurd (omega (arith, many))
same_primaries control (a ∷ old) [] many same = absurd (omega (arith, many))
same_primaries control (a ∷ old) (b ∷ new) many same =
    ap (λ (heads : List VolumeHead). volumes_named control 0 heads ++ primaries_in (control + 1) new) (same 0 a (omega arith))
    ∙ ap (λ (vs : List NamedVolume). volumes_named control 0 (heads_of_reader (reader_in a)) ++ vs) (same_primaries (control + 1) old new (omega (arith, many)) (λ k d low. same (suc k) d (omega (arith, low))))

pub primaries_stay : {S : Type 0} (old new : List (Lane S)) → AreSameLanes old new → primaries_in 0 new ≡ primaries_in 0 old
primaries_stay old new same = same_primaries 0 old new same.many (know_same old new same)

same_list : {S : Type 0} (old new : List (Lane S)) → length new ≡ length old → KnowSame old new → map (λ (lane : Lane S). heads_of_reader (reader_in lane)) new ≡ map (λ (lane : Lane S). heads_of_reader (reader_in lane)) old
same_list [] [] many same = refl
same_list [] (b ∷ new) many same = absurd (omega (arith, many))
same_list (a ∷ old) [] many same = absurd (omega (arith, many))
same_list (a ∷ old) (b ∷ new) many same =
    let first = same 0 a (omega arith) in
    let rest = same_list old new (omega (arith, many)) (λ k d low. same (suc k) d (omega (arith, low))) in
    λ i. first i ∷ rest i

pub heads_stay : {S : Type 0} (old new : List (Lane S)) (traces : List Trace) → AreSameLanes old new → HaveHeadsOf old traces → HaveHeadsOf new traces
heads_stay old new traces same heads = heads ∙ sym (same_list old new same.many (know_same old new same))

pub volumes_stay : {S : Type 0} (old new : List (Lane S)) → AreSameLanes old new → HaveVolumes old → HaveVolumes new
volumes_stay old new same have k d low =
    let before : k < length old = (let many = same.many in omega (arith, low, many)) in
    let here = know_same old new same k d before in
    subst (λ (heads : List VolumeHead). 1 ≤ length heads) (sym here) (have k d before)

-- ---- controllers that are named as broken

-- whether a lane's reader has broken
abbrev pub has_lane_broken : {S : Type 0} → Lane S → Bool
has_lane_broken lane = is_some (broken_by (reader_in lane))

-- Lanes are named as flags are.
pub lanes_as_flags : {S : Type 0} (control : ℕ) (lanes : List (Lane S)) (names : Naming) → with_lanes_broken control lanes names ≡ with_flags control (map has_lane_broken lanes) names
lanes_as_flags k [] names = refl
lanes_as_flags k (lane ∷ lanes) names = lanes_as_flags (k + 1) lanes _

-- Volumes and labels stay.
pub broken_alone : {S : Type 0} (lanes : List (Lane S)) (names : Naming) → ((with_lanes_broken 0 lanes names).primaries ≡ names.primaries) × ((with_lanes_broken 0 lanes names).labels ≡ names.labels)
broken_alone lanes names =
    let same = lanes_as_flags 0 lanes names in
    let rest = alone 0 (map has_lane_broken lanes) names in
    (ap (λ (n : Naming). n.primaries) same ∙ rest.0, ap (λ (n : Naming). n.labels) same ∙ rest.1)

-- One lane more.
pub one_lane_more : {S : Type 0} (control n : ℕ) (lanes : List (Lane S)) (d : Lane S) (names : Naming) → n < length lanes
    → with_lanes_broken control (take (suc n) lanes) names ≡ cond (has_lane_broken (slice_index_or lanes n d)) (with_broken (control + n) (with_lanes_broken control (take n lanes) names)) (with_lanes_broken control (take n lanes) names)
one_lane_more k n [] d names low = absurd (omega (arith, low))
one_lane_more k zero (lane ∷ lanes) d names low =
    let here : k + 0 ≡ k = omega arith in
    ap (λ (i : ℕ). cond (has_lane_broken lane) (with_broken i names) names) (sym here)
one_lane_more k (suc n) (lane ∷ lanes) d names low =
    let next = cond (has_lane_broken lane) (with_broken k names) names in
    let here : (k + 1) + n ≡ k + suc n = omega arith in
    let before = with_lanes_broken (k + 1) (take n lanes) next in
    one_lane_more (k + 1) n lanes d next (omega (arith, low)) ∙ ap (λ (i : ℕ). cond (has_lane_broken (slice_index_or lanes n d)) (with_broken i before) before) here

-- One is named, or none is.
pub named_more : {S : Type 0} (n : ℕ) (lanes : List (Lane S)) (d : Lane S) (names before next : Naming) (flag : Bool) → n < length lanes → d ≡ slice_index_or lanes n d → before ≡ with_lanes_broken 0 (take n lanes) names → flag ≡ has_lane_broken d
    → next ≡ cond flag (with_broken n before) before → next ≡ with_lanes_broken 0 (take (n + 1) lanes) names
named_more n lanes d names before next flag low at so_far is then =
    let more : suc n ≡ n + 1 = omega arith in
    let here : 0 + n ≡ n = omega arith in
    let first = with_lanes_broken 0 (take n lanes) names in
    then
    ∙ (λ i. cond flag (with_broken n (so_far i)) (so_far i))
    ∙ ap (λ (b : Bool). cond b (with_broken n first) first) (is ∙ ap has_lane_broken at)
    ∙ ap (λ (k : ℕ). cond (has_lane_broken (slice_index_or lanes n d)) (with_broken k first) first) (sym here)
    ∙ sym (one_lane_more 0 n lanes d names low)
    ∙ ap (λ (k : ℕ). with_lanes_broken 0 (take k lanes) names) more

flag_at : {S : Type 0} (k : ℕ) (lanes : List (Lane S)) (d : Lane S) → k < length lanes → slice_index_or (map has_lane_broken lanes) k false ≡ has_lane_broken (slice_index_or lanes k d)
flag_at k [] d low = absurd (omega (arith, low))
flag_at zero (lane ∷ lanes) d low = refl
flag_at (suc k) (lane ∷ lanes) d low = flag_at k lanes d (omega (arith, low))

some_lane : {S : Type 0} (lanes : List (Lane S)) (k : ℕ) → k < length lanes → Lane S
some_lane [] k low = absurd (omega (arith, low))
some_lane (lane ∷ lanes) k low = lane

abbrev is_of_control : (control : ℕ) → NamedVolume → Bool
is_of_control k v = nat_eq v.control k

-- The first volume of a header is named.
first_named : (control : ℕ) (heads : List VolumeHead) → 1 ≤ length heads → list_any (is_of_control control) (volumes_named control 0 heads) ≡ true
first_named control [] some = absurd (omega (arith, some))
first_named control (head ∷ heads) some = or_left (nat_eq control control) (list_any (is_of_control control) (volumes_named control (0 + 1) heads)) (eq-eqb control control refl)

pub lane_is_named : {S : Type 0} (from k : ℕ) (lanes : List (Lane S)) → HaveVolumes lanes → k < length lanes → list_any (is_of_control (from + k)) (primaries_in from lanes) ≡ true
lane_is_named from k [] have low = absurd (omega (arith, low))
lane_is_named from zero (lane ∷ lanes) have low =
    let here : from + 0 ≡ from = omega arith in
    let heads = heads_of_reader (reader_in lane) in
    ap (λ (n : ℕ). list_any (is_of_control n) (volumes_named from 0 heads ++ primaries_in (from + 1) lanes)) here
    ∙ list_any-append (is_of_control from) (volumes_named from 0 heads) (primaries_in (from + 1) lanes)
    ∙ or_left (list_any (is_of_control from) (volumes_named from 0 heads)) (list_any (is_of_control from) (primaries_in (from + 1) lanes)) (first_named from heads (have 0 lane (omega arith)))
lane_is_named from (suc k) (lane ∷ lanes) have low =
    let there : (from + 1) + k ≡ from + suc k = omega arith in
    let heads = heads_of_reader (reader_in lane) in
    list_any-append (is_of_control (from + suc k)) (volumes_named from 0 heads) (primaries_in (from + 1) lanes)
    ∙ or_right (list_any (is_of_control (from + suc k)) (volumes_named from 0 heads)) (list_any (is_of_control (from + suc k)) (primaries_in (from + 1) lanes))
    (subst (λ (n : ℕ). list_any (is_of_control n) (primaries_in (from + 1) lanes) ≡ true) there (lane_is_named (from + 1) k lanes (λ j d less. have (suc j) d (omega (arith, less))) (omega (arith, low))))

-- A lane that has broken is named as broken.
pub broken_is_named : {S : Type 0} (lanes : List (Lane S)) (before : Naming) (k : ℕ) (d : Lane S) → HaveVolumes lanes → before.primaries ≡ primaries_in 0 lanes → k < length lanes → has_lane_broken (slice_index_or lanes k d) ≡ true → is_broken k (with_lanes_broken 0 lanes before) ≡ true
broken_is_named lanes before k d have named low broken =
    let zero_is : 0 + k ≡ k = omega arith in
    let many : k < length (map has_lane_broken lanes) = (let same = length-map lanes has_lane_broken in omega (arith, low, same)) in
    let has : has_volumes (0 + k) before ≡ true = ap (list_any (is_of_control (0 + k))) named ∙ lane_is_named 0 k lanes have low in
    ap (is_broken k) (lanes_as_flags 0 lanes before)
    ∙ subst (λ (n : ℕ). is_broken n (with_flags 0 (map has_lane_broken lanes) before) ≡ true) zero_is (flagged_is_broken 0 k (map has_lane_broken lanes) false before many (flag_at k lanes d low ∙ broken) has)

reporting_counts : (p : Phase) → is_reporting p ≡ true → counts p ≡ true
reporting_counts Unbroken is = refl
reporting_counts (Broken cause) is = absurd (true≢false (sym is))
reporting_counts Reported is = absurd (true≢false (sym is))

-- The controllers that aren't named as broken count.
pub controls_count : {S : Type 0} (group : Group) (time : ℕ) (lanes : List (Lane S)) (before names : Naming) → AreLanesOf group time lanes → HaveVolumes lanes → before.primaries ≡ primaries_in 0 lanes → none_alike before.primaries ≡ true
    → names ≡ with_lanes_broken 0 lanes before → ControlsCount names group
controls_count {S} group time lanes before names of have named apart is = record {
  counted = λ k low unbroken.
      let there : k < length lanes = (let many = of.many in omega (arith, low, many)) in
      let d = some_lane lanes k there in
      counted k there unbroken d (slice_index_or lanes k d).reader refl (of.each k d there);
  below = λ v among.
      let found = named_of lanes names (same_primaries ∙ named) v among in
      let control = found.control in
      let low = found.low in
      let many = of.many in
      omega (arith, control, low, many);
  apart = ap none_alike same_primaries ∙ apart;
}
  where
    same_primaries : names.primaries ≡ before.primaries
    same_primaries = ap (λ (n : Naming). n.primaries) is ∙ (broken_alone lanes before).0

    counted : (k : ℕ) → k < length lanes → is_broken k names ≡ false → (d : Lane S) (o : Option LaneReaderState) → (slice_index_or lanes k d).reader ≡ o → IsSomeAnd o (IsReaderOf group k time) → counts (control_at group k).phase ≡ true
    counted k there unbroken d None at h = absurd h
    counted k there unbroken d (Some r) at h = by_halt r.feed.halted refl
      where
        by_halt : (halt : Option Halt) → r.feed.halted ≡ halt → counts (control_at group k).phase ≡ true
        by_halt None on = reporting_counts (control_at group k).phase (h.reporting on)
        by_halt (Some halts.NoMemory) on = absurd (h.goes on)
        by_halt (Some (halts.Broken cause upto)) on =
            let broken : has_lane_broken (slice_index_or lanes k d) ≡ true = ap (λ (o : Option LaneReaderState). is_some (broken_by o)) at ∙ ap (λ (halt : Option Halt). is_some (broken_in halt)) on in
            absurd (true≢false (sym (ap (is_broken k) is ∙ broken_is_named lanes before k d have named there broken) ∙ unbroken))

-- ---- at the start

below_none : (o : Option Break) → break_below 0 o ≡ None
below_none None = refl
below_none (Some b) = rw (le-ltb b.upto 0 (omega arith))

-- No lane has broken before the start.
pub unbroken_at_start : {S : Type 0} (s : SessionState) (lanes : List (Lane S)) (traces : List Trace) → IsUnstarted s lanes → length traces ≡ length lanes → LanesBrokeAs 0 traces lanes
unbroken_at_start s lanes traces unstarted many = record {
  each = λ k t d at.
      let low : k < length lanes = (let there = slice_get_within traces k t at in omega (arith, there, many)) in
      let of = unstarted.lanes_of in
      unbroken k (let count = of.many in omega (arith, low, count)) (slice_index_or lanes k d).reader (of.each k d low) ∙ sym (below_none (break_of t));
}
  where
    new : Group
    new = new_group s.controls WRITES_OF_RUN BLOCKS_OF_QUEUE

    unbroken : (k : ℕ) → k < length new.controls → (o : Option LaneReaderState) → IsSomeAnd o (IsReaderOf new k 0) → broken_by o ≡ None
    unbroken k low None h = absurd h
    unbroken k low (Some r) h = by_halt r.feed.halted refl
      where
        tells : is_reporting (control_at new k).phase ≡ true
        tells = ap (λ (c : ControlState). is_reporting c.phase) (new_at s.controls 0 WRITES_OF_RUN BLOCKS_OF_QUEUE k (new_control 0 0 0) (let count = length_new s.controls 0 WRITES_OF_RUN BLOCKS_OF_QUEUE in omega (arith, low, count)))

        by_halt : (halt : Option Halt) → r.feed.halted ≡ halt → broken_in halt ≡ None
        by_halt None on = refl
        by_halt (Some halts.NoMemory) on = refl
        by_halt (Some (halts.Broken cause upto)) on = absurd (true≢false (sym tells ∙ h.broken cause upto on))

-- ---- commands may come again

-- What is so of a row in whatever state is so of the row in its place.
all_in_places : (test : PairRow → Bool) → ((state : PairState) (r : PairRow) → test (in_state state r) ≡ test r) → (rows next : List PairRow) → InPlaces IsSamePair rows next → list_all test next ≡ list_all test rows
all_in_places test stays [] [] same = refl
all_in_places test stays [] (s ∷ next) same = absurd same
all_in_places test stays (r ∷ rows) [] same = absurd same
all_in_places test stays (r ∷ rows) (s ∷ next) same =
    let here : test s ≡ test r = ap test same.0 ∙ stays s.state r in
    let rest = all_in_places test stays rows next same.1 in
    λ i. here i && rest i

-- Labels fit a plant with the same numbers and lengths.
pub labels_fit : (old new : PlantState) (labels : List NamedDevice) → SameSite old new → list_all (label_has_volume old) labels ≡ true → list_all (label_has_volume new) labels ≡ true
labels_fit old new [] site fit = refl
labels_fit old new (l ∷ labels) site fit =
    let parts = and_parts (label_has_volume old l) (list_all (label_has_volume old) labels) fit in
    let same : label_has_volume new l ≡ label_has_volume old l = λ i. nat_lt l.device (site.volumes i) && nat_le (512 + l.cylinders * 860160) (site.lengths (Volume l.device) i) in
    and_from (label_has_volume new l) (list_all (label_has_volume new) labels) (same ∙ parts.0) (labels_fit old new labels site parts.1)

-- Any command may come to a site that was brought to a time, with the controllers named that have broken by then.
pub commands_again : {S : Type 0} (tells : Type 0) (time : ℕ) (lanes : List (Lane S)) (names : Naming) (site next : SiteState) (group : Group) (old new : PlantState) → MayCommandSite tells names old site → IsSiteBrought time site next
    → IsReadyForEpoch tells lanes next new group → SameSite old new → MayCommandSite tells (with_lanes_broken 0 lanes names) new next
commands_again tells time lanes names site next group old new may brought ready plant = record {
  idle = record { may = ready.begins.rests; same = sym rows };
  told = ready.begins.knows.told;
  commands = record {
    command = record {
      named =
          ap (list_all (has_named_primary named)) rows
          ∙ all_in_places (has_named_primary named) (λ state r. refl) site.told next.told brought.pairs
          ∙ ap (λ (vs : List NamedVolume). list_all (λ r. list_any (is_volume_of r) vs) site.told) same.0
          ∙ ap (list_all (has_named_primary names)) may.idle.same
          ∙ may.commands.command.named;
      below = passes most_rows ∙ may.commands.command.below;
    };
    started = ap (λ (t : Table). t.is_started) brought.table ∙ may.commands.started;
    labels = ap (list_all (λ label. nat_lt label.device (length next.failed))) same.1 ∙ ap (λ (n : ℕ). list_all (λ label. nat_lt label.device n) names.labels) count ∙ may.commands.labels;
    rows = passes (length next.failed) ∙ ap (λ (n : ℕ). are_below n site.table.rows) count ∙ may.commands.rows;
  };
  labels = ap (list_all (label_has_volume new)) same.1 ∙ labels_fit old new names.labels plant may.labels;
}
  where
    named : Naming
    named = with_lanes_broken 0 lanes names

    same : (named.primaries ≡ names.primaries) × (named.labels ≡ names.labels)
    same = broken_alone lanes names

    rows : next.table.rows ≡ next.told
    rows = ap (λ (t : Table). t.rows) brought.table

    count : length next.failed ≡ length site.failed
    count = ready.begins.rests.fast.fits.failed ∙ plant.volumes ∙ sym may.idle.may.fast.fits.failed

    passes : (n : ℕ) → are_below n next.table.rows ≡ are_below n site.table.rows
    passes n = ap (are_below n) rows ∙ all_in_places (λ r. nat_lt r.device n) (λ state r. refl) site.told next.told brought.pairs ∙ ap (are_below n) may.idle.same
