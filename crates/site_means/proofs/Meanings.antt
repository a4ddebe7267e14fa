-- What a finished walk says of the meaning.
use Rattle.std.proofs.Common.{◌≡◌, refl, ℕ, ◌≤◌, ◌<◌, ◌^◌, true, List, [], ◌∷◌, slice_index, Option, Some, None, Result, Ok, Err, IfOk, sym, ap, subst, ◌∙◌, append-nil, arith}
use Rattle.crash_plant.specs.declared.device.Device.{Device}
use Rattle.crash_plant.specs.declared.device.Device.TheVariants.{Control, State, Journal, Volume}
use Rattle.crash_plant.specs.declared.spot.Spot.{Spot}
use Rattle.tod_stamp.specs.declared.stamp.Stamp.{Stamp}
use Rattle.crash_plant.specs.Calls.{SameSite}
use Rattle.crash_plant.specs.Moments.{PlantState, IsDurable, on}
use Rattle.control_set.specs.declared.value.Mark.{Mark}
use Rattle.control_set.specs.Slots.{lengths_of}
use Rattle.control_set.proofs.Lengths.{at_is, count_is}
use Rattle.pair_table.specs.declared.level.Level.{Level}
use Rattle.pair_table.specs.declared.row.PairRow.{PairRow}
use Rattle.pair_table.specs.Tables.{Table, with_rows, are_below}
use Rattle.state_set.specs.Slots.{Stored, started_table}
use Rattle.xrc_journal.specs.Walks.{Logged}
use Rattle.site_means.specs.declared.site_error.SiteError.{SiteError}
use Rattle.site_means.specs.declared.site_error.SiteError.TheVariants.{NoSession, Damaged, Fault, TooSmall, NoMemory}
use Rattle.site_means.specs.declared.walking.Walking.{Walking}
use Rattle.site_means.specs.Images.{Images, Shape, shape_of}
use Rattle.site_means.specs.Walk.{WalkState, Walk, ends_at, has_entered, last_time, rows_through, start, turns_at, walk_in, walk_items, with_before}
use Rattle.site_means.specs.Meaning.{Meaning, chosen_in, meaning_by_mark, meaning_by_state, meaning_by_walk, meaning_in, stored_in}
use Rattle.site_means.specs.Meaning.Meaning.{DamagedAt, Meant}
use Rattle.site_means.specs.declared.reading.SiteReading.{SiteReading}
use Rattle.site_means.specs.Answers.{AnswersMeaning, Enters, HasSpot, IsChosen, IsInTurn, IsOfState, IsReached, IsRead, IsStored, ReadsAll, RestDurable, WhereTold}
use Rattle.site_means.specs.Steps.{BeginsAt, Finishes, HasEnteredOne, AnswersWalk, WalkStands, standing_of, walk_of}
use Rattle.site_means.proofs.ReadAll.{durable_later}
use Rattle.site_means.proofs.Goes.{entered_last, rest_of, rows_of_walk, shape_same}
use Rattle.control_set.specs.Marks.{IsMark}

-- ---- where a walk begins

pub stands_first : (plant : PlantState) (m : Mark) (table : Table) (w : Walking) → ((j : ℕ) → j < plant.journals → 1 ≤ plant.lengths (Journal j)) → HasSpot plant m.at → w.at.number < 2 ^ 64 → are_below plant.volumes table.rows ≡ true → BeginsAt m table w → WalkStands plant w
stands_first plant m table w long spot number below b =
    let at : w.at ≡ m.at = ap (λ (k : WalkState). k.at) b.standing in
    record {
      set = subst (λ (k : Spot). k.set < plant.journals) (sym at) spot.set;
      place = subst (λ (k : Spot). k.place < plant.lengths (Journal k.set)) (sym at) (omega (arith, spot.room));
      number = number;
      below = ap (λ (k : WalkState). are_below plant.volumes k.rows) b.standing ∙ below;
      long = long;
      here = ap (λ (k : WalkState). has_entered k.at.set k.entered) b.standing ∙ entered_last m.at.set [];
    }

pub spot_later : (old new : PlantState) (at : Spot) → SameSite old new → HasSpot old at → HasSpot new at
spot_later old new at site spot = record { set = omega (arith, spot.set, site.journals); room = omega (arith, spot.room, site.lengths (Journal at.set)) }

-- The spot of a mark, and the devices of rows, are the plant's before calls that keep its numbers.
pub spot_before : (old new : PlantState) (r : Result Mark SiteError) → SameSite old new → IfOk r (λ m. HasSpot new m.at) → IfOk r (λ m. HasSpot old m.at)
spot_before old new (Ok m) site spot = record { set = omega (arith, spot.set, site.journals); room = omega (arith, spot.room, site.lengths (Journal m.at.set)) }
spot_before old new (Err e) site spot = tt

pub below_before : (old new : PlantState) (r : Result (Level × Table) SiteError) → SameSite old new → IfOk r (λ f. are_below new.volumes f.1.rows ≡ true) → IfOk r (λ f. are_below old.volumes f.1.rows ≡ true)
below_before old new (Ok f) site below = ap (λ (n : ℕ). are_below n f.1.rows) (sym site.volumes) ∙ below
below_before old new (Err e) site below = tt

-- a mark that keeps the table has its spot in a journal
pub has_spot : (plant : PlantState) (m : Mark) → IsMark (lengths_of plant) m → HasSpot plant m.at
has_spot plant m is =
    let set : m.at.set < plant.journals = omega (arith, is.set, count_is (λ j. plant.lengths (Journal j)) 0 plant.journals) in
    let size : slice_index (lengths_of plant) m.at.set ≡ plant.lengths (Journal m.at.set) = at_is (λ j. plant.lengths (Journal j)) 0 plant.journals m.at.set set ∙ ap (λ (k : ℕ). plant.lengths (Journal k)) (omega arith) in
    record { set = set; room = omega (arith, is.room, size) }

-- ---- the meaning

module _ (shape : Shape) (images : Images) (m : Mark) (s : Stored) (chosen : chosen_in shape images ≡ Ok (Some m)) where
  pub by_state : (r : Result Stored ℕ) → stored_in shape images m ≡ r → meaning_in shape images ≡ meaning_by_state shape images m r
  by_state r stored = ap (λ (k : Result (Option Mark) ℕ). meaning_by_mark shape images k) chosen ∙ ap (λ (k : Result Stored ℕ). meaning_by_state shape images m k) stored

  module _ (stored : stored_in shape images m ≡ Ok s) where
    pub by_walk : (bad : Option (ℕ × ℕ)) → (walk_in shape images m s.rows).bad ≡ bad → meaning_in shape images ≡ meaning_by_walk m s (walk_in shape images m s.rows) bad
    by_walk bad is = by_state (Ok s) stored ∙ ap (λ (k : Option (ℕ × ℕ)). meaning_by_walk m s (walk_in shape images m s.rows) k) is

    -- the walk in the code is this one
    module _ (table : Table) (first : Walking) (rows : table.rows ≡ s.rows) (b : BeginsAt m table first) where
      walk_is : walk_of shape images first ≡ walk_in shape images m s.rows
      walk_is = ap (λ (k : WalkState). rest_of shape images k) (b.standing ∙ ap (λ (l : List PairRow). start m l) rows)

      -- It ended well.
      pub finish_means : (new : Walking) → table ≡ started_table m.session table.rows → Finishes (walk_of shape images first) first new
          → (w : Walk) × (meaning_in shape images ≡ Meant (record { session = m.session; level = s.level; time = new.time; table = new.table; from = m.at; ended = m.ended }) w) × (new.at ≡ w.at)
      finish_means new started f =
          let w = walk_in shape images m s.rows in
          let is : w ≡ with_before f.groups (ends_at (standing_of new) None) = sym walk_is ∙ f.is in
          let groups : w.groups ≡ f.groups = ap (λ (k : Walk). k.groups) is ∙ append-nil f.groups in
          let time : last_time m.time.0 w.groups ≡ new.time.0 = ap (λ (l : List Logged). last_time m.time.0 l) groups ∙ ap (λ (t : Stamp). last_time t.0 f.groups) (sym b.time) ∙ sym f.time in
          let rows_are : rows_through (walk_items w) s.rows ≡ new.table.rows = sym (rows_of_walk (turns_at m.at) shape images (start m s.rows)) ∙ ap (λ (k : Walk). k.rows) is in
          let table_is : started_table m.session (rows_through (walk_items w) s.rows) ≡ new.table =
          ap (λ (l : List PairRow). started_table m.session l) rows_are ∙ ap (λ (k : Table). with_rows k new.table.rows) (sym (b.table_is ∙ started)) ∙ sym f.table in (
            w,
            by_walk None (ap (λ (k : Walk). k.bad) is)
                ∙ (λ i. Meant (record { session = m.session; level = s.level; time = record { 0 = time i }; table = table_is i; from = m.at; ended = m.ended }) w),
            sym (ap (λ (k : Walk). k.at) is),
          )

      -- It ended with an error.
      pub reports_say : {X : Type 0} (good : X → Type 0) (new : Walking) (e : SiteError) → AnswersWalk (walk_of shape images first) first new (Err e) → AnswersMeaning good (meaning_in shape images) (Err e)
      reports_say good new (Damaged d place) p = by_walk (Some (p.0, place)) (ap (λ (k : Walk). k.bad) (sym walk_is) ∙ p.2) ∙ ap (λ (k : Device). DamagedAt k place) (sym p.1)
      reports_say good new (Fault d) p = tt
      reports_say good new NoMemory p = tt
      reports_say good new NoSession p = absurd p
      reports_say good new (TooSmall d needed) p = tt

      pub reports_reach : (new : Walking) (d : Device) → AnswersWalk (walk_of shape images first) first new (Err (Fault d)) → IsReached shape images d
      reports_reach new d p = subst (λ (k : Device). IsReached shape images k) (sym p.1) (record {
        mark = m;
        stored = s;
        chosen = chosen;
        holds = stored;
        entered = ap (λ (k : Walk). has_entered p.0 k.entered) (sym walk_is) ∙ p.2;
      })

-- After a chosen mark the state is damaged, or the walk.
module _ (shape : Shape) (images : Images) where
  by_bad : (m : Mark) (s : Stored) (w : Walk) (bad : Option (ℕ × ℕ)) (place : ℕ) → ¬ (meaning_by_walk m s w bad ≡ DamagedAt State place)
  by_bad m s w None place is = absurd cc
  by_bad m s w (Some bad) place is = absurd cc

  -- Where the state is damaged no journal is entered.
  pub none_entered : (place : ℕ) (j : ℕ) → meaning_in shape images ≡ DamagedAt State place → ¬ Enters shape images j
  none_entered place j is e = by_bad e.mark e.stored (walk_in shape images e.mark e.stored.rows) _ place (sym (by_walk shape images e.mark e.stored e.chosen e.holds _ refl) ∙ is)

  -- A mark and its slot are those by which a journal is entered.
  pub entered_by : (m : Mark) (s : Stored) (j : ℕ) → chosen_in shape images ≡ Ok (Some m) → stored_in shape images m ≡ Ok s → Enters shape images j → has_entered j (walk_in shape images m s.rows).entered ≡ true
  entered_by m s j chosen holds e =
      let mark : e.mark ≡ m = let both = sym e.chosen ∙ chosen in cc in
      let stored : e.stored ≡ s = let both = sym e.holds ∙ ap (λ (k : Mark). stored_in shape images k) mark ∙ holds in cc in
      (λ i. has_entered j (walk_in shape images (sym mark i) (sym stored i).rows).entered) ∙ e.entered

-- The walk in the code enters what the walk from the mark does.
module _ (shape : Shape) (images : Images) (m : Mark) (s : Stored) (chosen : chosen_in shape images ≡ Ok (Some m)) (stored : stored_in shape images m ≡ Ok s) (table : Table) (first : Walking) (rows : table.rows ≡ s.rows) (b : BeginsAt m table first) where
  pub walk_enters : (j : ℕ) → Enters shape images j → has_entered j (walk_of shape images first).entered ≡ true
  walk_enters j e = ap (λ (k : Walk). has_entered j k.entered) (walk_is shape images m s chosen stored table first rows b) ∙ entered_by shape images m s j chosen stored e

pub begins_one : (m : Mark) (table : Table) (first : Walking) → BeginsAt m table first → HasEnteredOne first
begins_one m table first b = ap (λ (k : WalkState). k.entered) b.standing ∙ ap (λ (k : WalkState). k.at.set ∷ []) (sym b.standing)

-- ---- the same by a plant that was read

-- what a plant means where nothing but reads came between
pub record SameSeen (old new : PlantState) : Type 0 where
  pub shape : shape_of new ≡ shape_of old
  pub bytes : (let n : Images = new.bytes in let o : Images = old.bytes in n ≡ o)

pub same_seen : (tells : Type 0) (old new : PlantState) → ReadsAll tells old new → tells → SameSeen old new
same_seen tells old new reads told = record { shape = shape_same old new reads.only.site; bytes = λ i d. reads.same told d i }

module _ (old new : PlantState) (seen : SameSeen old new) where
  pub seen_chosen : (m : Mark) → chosen_in (shape_of old) old.bytes ≡ Ok (Some m) → chosen_in (shape_of new) new.bytes ≡ Ok (Some m)
  seen_chosen m is = (λ i. chosen_in (seen.shape i) (seen.bytes i)) ∙ is

  pub seen_stored : (m : Mark) (s : Stored) → stored_in (shape_of old) old.bytes m ≡ Ok s → stored_in (shape_of new) new.bytes m ≡ Ok s
  seen_stored m s is = (λ i. stored_in (seen.shape i) (seen.bytes i) m) ∙ is

  pub seen_meaning : meaning_in (shape_of new) new.bytes ≡ meaning_in (shape_of old) old.bytes
  seen_meaning = λ i. meaning_in (seen.shape i) (seen.bytes i)

  pub seen_reached : (d : Device) → IsReached (shape_of new) new.bytes d → IsReached (shape_of old) old.bytes d
  seen_reached d is = subst (λ (p : Shape × Images). IsReached p.0 p.1 d) {x = (shape_of new, new.bytes)} {y = (shape_of old, old.bytes)} (λ i. (seen.shape i, seen.bytes i)) is

  -- an error says the same of both
  pub seen_error : {X Y : Type 0} (good : X → Type 0) (other : Y → Type 0) (e : SiteError) → AnswersMeaning good (meaning_in (shape_of new) new.bytes) (Err e) → AnswersMeaning other (meaning_in (shape_of old) old.bytes) (Err e)
  seen_error good other NoSession s = sym seen_meaning ∙ s
  seen_error good other (Damaged d place) s = sym seen_meaning ∙ s
  seen_error good other (Fault d) s = tt
  seen_error good other (TooSmall d needed) s = tt
  seen_error good other NoMemory s = tt

  -- so does an answer whose good case says the same
  pub seen_told : {X : Type 0} (good other : X → Type 0) → ((x : X) → good x → other x) → (r : Result X SiteError) → AnswersMeaning good (meaning_in (shape_of new) new.bytes) r → AnswersMeaning other (meaning_in (shape_of old) old.bytes) r
  seen_told good other f (Ok x) s = f x s
  seen_told {X = X} good other f (Err e) s = seen_error {X = X} {Y = X} good other e s

  pub seen_mark : (m : Mark) → IsChosen new m → IsChosen old m
  seen_mark m is = sym (λ i. chosen_in (seen.shape i) (seen.bytes i)) ∙ is

  pub seen_slot : (m : Mark) (level : Level) (rows : List PairRow) → IsStored new m level rows → IsStored old m level rows
  seen_slot m level rows is = sym (λ i. stored_in (seen.shape i) (seen.bytes i) m) ∙ is

  pub seen_read : (r : SiteReading) → IsRead new r → IsRead old r
  seen_read r is = record { chosen = seen_mark r.mark is.chosen; walk = is.walk; meant = sym seen_meaning ∙ is.meant; end = is.end }

  pub seen_back : SameSeen new old
  seen_back = record { shape = sym seen.shape; bytes = sym seen.bytes }

-- An error says the same, whatever else would be good.
pub says_as : {X Y : Type 0} (good : X → Type 0) (other : Y → Type 0) (m : Meaning) (e : SiteError) → AnswersMeaning good m (Err e) → AnswersMeaning other m (Err e)
says_as good other m NoSession s = s
says_as good other m (Damaged d place) s = s
says_as good other m (Fault d) s = tt
says_as good other m (TooSmall d needed) s = tt
says_as good other m NoMemory s = tt

-- ---- what lasts

where_more : {X : Type 0} (p q : Type 0) → (p → q) → (r : Result X SiteError) → WhereTold r p → WhereTold r q
where_more p q f (Ok x) w = f w
where_more p q f (Err NoSession) w = f w
where_more p q f (Err (Damaged d place)) w = f w
where_more p q f (Err (Fault d)) w = tt
where_more p q f (Err (TooSmall d needed)) w = tt
where_more p q f (Err NoMemory) w = tt

pub where_as : (X Y : Type 0) (p q : Type 0) → (p → q) → (e : SiteError) → (let r : Result X SiteError = Err e in WhereTold r p) → (let r : Result Y SiteError = Err e in WhereTold r q)
where_as X Y p q f NoSession w = f w
where_as X Y p q f (Damaged d place) w = f w
where_as X Y p q f (Fault d) w = tt
where_as X Y p q f (TooSmall d needed) w = tt
where_as X Y p q f NoMemory w = tt

-- The walk's journals last, and the state.
module _ (tells : Type 0) (told : tells) (old one new : PlantState) (first : ReadsAll tells old one) (then : ReadsAll tells one new) (state : IsDurable (on one State)) where
  pub rest_durable : ((j : ℕ) → IsInTurn one (Journal j) → IsDurable (on new (Journal j))) → RestDurable old new
  rest_durable journals Control other turn = absurd (other refl)
  rest_durable journals State other turn = durable_later tells one new State told then state
  rest_durable journals (Journal j) other turn = journals j (seen_reached one old (seen_back old one (same_seen tells old one first told)) (Journal j) turn)
  rest_durable journals (Volume v) other turn = absurd turn

  pub rest_told : {X : Type 0} (r : Result X SiteError) → WhereTold r ((j : ℕ) → IsInTurn one (Journal j) → IsDurable (on new (Journal j))) → WhereTold r (RestDurable old new)
  rest_told r w = where_more _ _ rest_durable r w

-- The state is damaged, and it lasts.
pub state_told : (Y : Type 0) (old one : PlantState) (e : SiteError) → IsOfState e → (¬ (e ≡ Fault State) → IsDurable (on one State)) → (let r : Result Y SiteError = Err e in AnswersMeaning (λ y. Unit {0}) (meaning_in (shape_of old) old.bytes) r) → (let r : Result Y SiteError = Err e in WhereTold r (RestDurable old one))
state_told Y old one NoSession wrong state says = absurd wrong
state_told Y old one (Damaged d place) wrong state says = all
  where
    all : RestDurable old one
    all Control other turn = absurd (other refl)
    all State other turn = state (λ is. cc)
    all (Journal j) other turn = absurd (none_entered (shape_of old) old.bytes place j (says ∙ ap (λ (k : Device). DamagedAt k place) wrong) turn)
    all (Volume v) other turn = absurd turn
state_told Y old one (Fault d) wrong state says = tt
state_told Y old one (TooSmall d needed) wrong state says = tt
state_told Y old one NoMemory wrong state says = tt
