-- Walks through data sets: which of them they enter, on which bytes they depend, and what a record at their end adds.
use Rattle.std.proofs.Common.{◌≡◌, ◌≢◌, ◌⊎◌, inl, inr, ℕ, ◌+◌, ◌≤◌, ◌<◌, Bool, true, false, cond, nat_eq, List, [], ◌∷◌, ◌++◌, length, take, refl, sym, ap, subst, ◌∙◌, arith}
use Rattle.std.proofs.lemmas.Bool.{cases_eq, eq-eqb, eqb-true, eqb-false, or_cases, or_left, or_right, false_from_ne_true}
use Rattle.std.proofs.lemmas.List.Folds.{list_any-append}
use Rattle.crash_plant.specs.declared.spot.Spot.{Spot}
use Rattle.xrc_journal.specs.Items.{Form}
use Rattle.xrc_journal.specs.Records.{Found, next_set, spot_in, walk_one}
use Rattle.xrc_journal.specs.Records.Found.{Group, Switch}
use Rattle.xrc_journal.specs.Walks.{Logged}
use Rattle.xrc_journal.specs.RingWalks.{LeadsTo, WalkPlace, WalkRecord, WalksThrough, found_there, is_entered, spot_after_logged, walk_after, walk_at, walk_start}
use Rattle.xrc_journal.specs.RingWalks.WalkRecord.{OfGroup, OfSwitch}
use Rattle.xrc_journal.specs.RingLaws.{GroupsAreAdded, SameUpTo, SetsComeInTurn, SwitchesAreAdded, WalksAreKept}
use Rattle.xrc_journal.proofs.RecordsAgain.{groups_walked, switches_walked}
use Rattle.xrc_journal.proofs.RecordsRead.{found_again, found_group, group_found, shut_is_end, switch_leads}

-- ---- the data sets that were entered

true_is_not : (b : Bool) → b ≡ true → b ≡ false → ⊥
true_is_not true one two = absurd cc
true_is_not false one two = absurd cc

pub entered_more : (j n : ℕ) (entered : List ℕ) → is_entered j entered ≡ true → is_entered j (entered ++ n ∷ []) ≡ true
entered_more j n entered is = list_any-append (λ e. nat_eq e j) entered (n ∷ []) ∙ or_left (is_entered j entered) (is_entered j (n ∷ [])) is

only_one : (j n : ℕ) → is_entered j (n ∷ []) ≡ true → n ≡ j
only_one j n is = elim (or_cases (nat_eq n j) false is) [ inl same ↦ eqb-true n j same | inr none ↦ absurd (true_is_not false none refl) ]

pub entered_here : (n : ℕ) → is_entered n (n ∷ []) ≡ true
entered_here n = or_left (nat_eq n n) false (eq-eqb n n refl)

pub entered_last : (n : ℕ) (entered : List ℕ) → is_entered n (entered ++ n ∷ []) ≡ true
entered_last n entered = list_any-append (λ e. nat_eq e n) entered (n ∷ []) ∙ or_right (is_entered n entered) (is_entered n (n ∷ [])) (entered_here n)

entered_split : (j n : ℕ) (entered : List ℕ) → is_entered j (entered ++ n ∷ []) ≡ true → (is_entered j entered ≡ true) ⊎ (n ≡ j)
entered_split j n entered is = elim (or_cases (is_entered j entered) (is_entered j (n ∷ [])) (sym (list_any-append (λ e. nat_eq e j) entered (n ∷ [])) ∙ is)) [
  | inl before ↦ inl before
  | inr last ↦ inr (only_one j n last)
]

-- a data set that was entered isn't one that wasn't
entered_differs : (j n : ℕ) (entered : List ℕ) → is_entered j entered ≡ true → is_entered n entered ≡ false → j ≢ n
entered_differs j n entered has hasnt same = true_is_not (is_entered j entered) has (ap (λ (k : ℕ). is_entered k entered) same ∙ hasnt)

-- ---- one record

group_set : (form : Form) (sets : ℕ) (images : ℕ → List ℕ) (p : WalkPlace) (g : Logged) (after : Spot) → found_there form sets images p ≡ Group g.time g.items after → after.set ≡ p.at.set
group_set form sets images p g after is = sym (ap (λ (s : Spot). s.set) (group_found form sets (images p.at.set) p.at p.last g.time g.items after is).after_is)

group_forth : (form : Form) (sets : ℕ) (images : ℕ → List ℕ) (p : WalkPlace) (g : Logged) (after : Spot) → found_there form sets images p ≡ Group g.time g.items after → p.at.place ≤ after.place
group_forth form sets images p g after is = let f = group_found form sets (images p.at.set) p.at p.last g.time g.items after is in omega (arith, ap (λ (s : Spot). s.place) f.after_is)

switch_set : (form : Form) (sets : ℕ) (images : ℕ → List ℕ) (p : WalkPlace) (time : ℕ) (after : Spot) → found_there form sets images p ≡ Switch time after → after.set ≡ next_set sets p.at.set
switch_set form sets images p time after is = ap (λ (s : Spot). s.set) (switch_leads form sets (images p.at.set) p.at after p.last time is)

-- ---- where records lead

module _ (form : Form) (sets : ℕ) where
  -- what was entered stays so
  pub entered_kept : (images : ℕ → List ℕ) (from to : WalkPlace) (records : List WalkRecord) (j : ℕ) → LeadsTo form sets images from records to → is_entered j from.entered ≡ true → is_entered j to.entered ≡ true
  entered_kept images from to [] j leads is = ap (λ (p : WalkPlace). is_entered j p.entered) leads ∙ is
  entered_kept images from to (OfGroup g ∷ records) j leads is = entered_kept images (walk_after (OfGroup g) leads.0 from) to records j leads.2 is
  entered_kept images from to (OfSwitch time ∷ records) j leads is = entered_kept images (walk_after (OfSwitch time) leads.0 from) to records j leads.3 (entered_more j leads.0.set from.entered is)

  -- The data set where a walk stands was entered.
  pub stands_entered : (images : ℕ → List ℕ) (from to : WalkPlace) (records : List WalkRecord) → LeadsTo form sets images from records to → is_entered from.at.set from.entered ≡ true → is_entered to.at.set to.entered ≡ true
  stands_entered images from to [] leads here = ap (λ (p : WalkPlace). is_entered p.at.set p.entered) leads ∙ here
  stands_entered images from to (OfGroup g ∷ records) leads here =
      stands_entered images (walk_after (OfGroup g) leads.0 from) to records leads.2 (ap (λ (n : ℕ). is_entered n from.entered) (group_set form sets images from g leads.0 leads.1) ∙ here)
  stands_entered images from to (OfSwitch time ∷ records) leads here = stands_entered images (walk_after (OfSwitch time) leads.0 from) to records leads.3 (entered_last leads.0.set from.entered)

  -- It never comes back to one that it left.
  never_back : (images : ℕ → List ℕ) (from to : WalkPlace) (records : List WalkRecord) (j : ℕ) → LeadsTo form sets images from records to → is_entered j from.entered ≡ true → j ≢ from.at.set → j ≢ to.at.set
  never_back images from to [] j leads is other = λ same. other (same ∙ ap (λ (p : WalkPlace). p.at.set) leads)
  never_back images from to (OfGroup g ∷ records) j leads is other =
      never_back images (walk_after (OfGroup g) leads.0 from) to records j leads.2 is (λ same. other (same ∙ group_set form sets images from g leads.0 leads.1))
  never_back images from to (OfSwitch time ∷ records) j leads is other =
      never_back images (walk_after (OfSwitch time) leads.0 from) to records j leads.3 (entered_more j leads.0.set from.entered is) (entered_differs j leads.0.set from.entered is leads.2)

  -- While it stays in one, it goes forth.
  goes_forth : (images : ℕ → List ℕ) (from to : WalkPlace) (records : List WalkRecord) → LeadsTo form sets images from records to → is_entered from.at.set from.entered ≡ true → from.at.set ≡ to.at.set → from.at.place ≤ to.at.place
  goes_forth images from to [] leads here same = omega (arith, ap (λ (p : WalkPlace). p.at.place) leads)
  goes_forth images from to (OfGroup g ∷ records) leads here same =
      let set = group_set form sets images from g leads.0 leads.1 in
      let rest = goes_forth images (walk_after (OfGroup g) leads.0 from) to records leads.2 (ap (λ (n : ℕ). is_entered n from.entered) set ∙ here) (set ∙ same) in
      omega (arith, group_forth form sets images from g leads.0 leads.1, rest)
  goes_forth images from to (OfSwitch time ∷ records) leads here same =
      absurd (never_back images (walk_after (OfSwitch time) leads.0 from) to records from.at.set leads.3 (entered_more from.at.set leads.0.set from.entered here) (entered_differs from.at.set leads.0.set from.entered here leads.2) same)

  -- ---- on which bytes it depends

  module _ (old new : ℕ → List ℕ) (to : WalkPlace) (same : SameUpTo to old new) where
    -- a record of a data set that was left
    left_again : (p : WalkPlace) (found : Found) → is_entered p.at.set to.entered ≡ true → p.at.set ≢ to.at.set → found_there form sets old p ≡ found → found_there form sets new p ≡ found
    left_again p found is other at = ap (λ (l : List ℕ). walk_one form sets l p.at p.last) (same.left p.at.set is other) ∙ at

    -- a group of the walk's last data set
    last_again : (p : WalkPlace) (g : Logged) (after : Spot) → p.at.set ≡ to.at.set → after.place ≤ to.at.place → found_there form sets old p ≡ Group g.time g.items after → found_there form sets new p ≡ Group g.time g.items after
    last_again p g after here le at =
        let set = sym here in
        let before = subst (λ (n : ℕ). take to.at.place (new n) ≡ take to.at.place (old n)) set same.before in
        let size = subst (λ (n : ℕ). length (new n) ≡ length (old n)) set same.size in
        found_group form sets (new p.at.set) p.at p.last g.time g.items after (found_again form to.at.place (old p.at.set) (new p.at.set) p.at p.last g.time g.items after before size le (group_found form sets (old p.at.set) p.at p.last g.time g.items after at))

    pub leads_again : (from : WalkPlace) (records : List WalkRecord) → is_entered from.at.set from.entered ≡ true → LeadsTo form sets old from records to → LeadsTo form sets new from records to
    leads_again from [] here leads = leads
    leads_again from (OfGroup g ∷ records) here leads =
        let after = walk_after (OfGroup g) leads.0 from in
        let set = group_set form sets old from g leads.0 leads.1 in
        let next : is_entered after.at.set after.entered ≡ true = ap (λ (n : ℕ). is_entered n from.entered) set ∙ here in
        let found : found_there form sets new from ≡ Group g.time g.items leads.0 = elim (cases_eq from.at.set to.at.set) [
          | inl is ↦ last_again from g leads.0 is (goes_forth old after to records leads.2 next (set ∙ is)) leads.1
          | inr other ↦ left_again from (Group g.time g.items leads.0) (entered_kept old from to (OfGroup g ∷ records) from.at.set leads here) other leads.1
        ] in
        (leads.0, found, leads_again after records next leads.2)
    leads_again from (OfSwitch time ∷ records) here leads =
        let after = walk_after (OfSwitch time) leads.0 from in
        let other = never_back old after to records from.at.set leads.3 (entered_more from.at.set leads.0.set from.entered here) (entered_differs from.at.set leads.0.set from.entered here leads.2) in
        let found = left_again from (Switch time leads.0) (entered_kept old from to (OfSwitch time ∷ records) from.at.set leads here) other leads.1 in
        (leads.0, found, leads.2, leads_again after records (entered_last leads.0.set from.entered) leads.3)

  -- ---- a record more

  leads_to_group : (images : ℕ → List ℕ) (from to : WalkPlace) (records : List WalkRecord) (g : Logged) (after : Spot) → LeadsTo form sets images from records to → found_there form sets images to ≡ Group g.time g.items after
      → LeadsTo form sets images from (records ++ OfGroup g ∷ []) (walk_after (OfGroup g) after to)
  leads_to_group images from to [] g after leads found =
      subst (λ (p : WalkPlace). LeadsTo form sets images p (OfGroup g ∷ []) (walk_after (OfGroup g) after to)) {x = to} {y = from} leads (after, found, refl)
  leads_to_group images from to (OfGroup h ∷ records) g after leads found = (leads.0, leads.1, leads_to_group images (walk_after (OfGroup h) leads.0 from) to records g after leads.2 found)
  leads_to_group images from to (OfSwitch time ∷ records) g after leads found = (leads.0, leads.1, leads.2, leads_to_group images (walk_after (OfSwitch time) leads.0 from) to records g after leads.3 found)

  leads_to_switch : (images : ℕ → List ℕ) (from to : WalkPlace) (records : List WalkRecord) (time : ℕ) (after : Spot) → LeadsTo form sets images from records to → found_there form sets images to ≡ Switch time after → is_entered after.set to.entered ≡ false
      → LeadsTo form sets images from (records ++ OfSwitch time ∷ []) (walk_after (OfSwitch time) after to)
  leads_to_switch images from to [] time after leads found fresh =
      subst (λ (p : WalkPlace). LeadsTo form sets images p (OfSwitch time ∷ []) (walk_after (OfSwitch time) after to)) {x = to} {y = from} leads (after, found, fresh, refl)
  leads_to_switch images from to (OfGroup h ∷ records) time after leads found fresh = (leads.0, leads.1, leads_to_switch images (walk_after (OfGroup h) leads.0 from) to records time after leads.2 found fresh)
  leads_to_switch images from to (OfSwitch then ∷ records) time after leads found fresh = (leads.0, leads.1, leads.2, leads_to_switch images (walk_after (OfSwitch then) leads.0 from) to records time after leads.3 found fresh)

-- ---- the data sets come in turn

next_within : (sets set : ℕ) → next_set sets set < sets → set < sets
next_within sets set lt = by_last (nat_eq (set + 1) sets) refl lt
  where
    by_last : (last : Bool) → nat_eq (set + 1) sets ≡ last → cond last 0 (set + 1) < sets → set < sets
    by_last true is lt = omega (arith, eqb-true (set + 1) sets is)
    by_last false is lt = omega (arith, lt)

-- It is one of them.
pub next_below : (sets set : ℕ) → set < sets → next_set sets set < sets
next_below sets set lt = by_last (nat_eq (set + 1) sets) refl
  where
    by_last : (last : Bool) → nat_eq (set + 1) sets ≡ last → cond last 0 (set + 1) < sets
    by_last true is = omega (arith, lt)
    by_last false is = omega (arith, lt, eqb-false (set + 1) sets is)

-- One data set alone comes before another.
next_once : (sets a b : ℕ) → a < sets → b < sets → next_set sets a ≡ next_set sets b → a ≡ b
next_once sets a b low less is = by_last (nat_eq (a + 1) sets) (nat_eq (b + 1) sets) refl refl is
  where
    by_last : (x y : Bool) → nat_eq (a + 1) sets ≡ x → nat_eq (b + 1) sets ≡ y → cond x 0 (a + 1) ≡ cond y 0 (b + 1) → a ≡ b
    by_last true true e f is = omega (arith, eqb-true (a + 1) sets e, eqb-true (b + 1) sets f)
    by_last true false e f is = omega (arith, is)
    by_last false true e f is = omega (arith, is)
    by_last false false e f is = omega (arith, is)

-- The data sets entered from the first on, up to where the walk stands: each but the first comes after one that was left.
record InTurn (sets first : ℕ) (p : WalkPlace) : Type 0 where
  here : is_entered p.at.set p.entered ≡ true
  within : p.at.set < sets → (j : ℕ) → is_entered j p.entered ≡ true → j < sets
  after : (j : ℕ) → is_entered j p.entered ≡ true → j ≢ first → (k : ℕ) × (is_entered k p.entered ≡ true) × (k ≢ p.at.set) × (next_set sets k ≡ j)

turn_start : (sets : ℕ) (from : Spot) (last : ℕ) → InTurn sets from.set (walk_start from last)
turn_start sets from last = record {
  here = entered_here from.set;
  within = λ low j is. let same = only_one j from.set is in omega (arith, low, same);
  after = λ j is other. absurd (other (sym (only_one j from.set is)));
}

turn_group : (sets first time : ℕ) (after : Spot) (p : WalkPlace) → after.set ≡ p.at.set → InTurn sets first p → InTurn sets first (walk_at p.entered after time)
turn_group sets first time after p set turn = record {
  here = ap (λ (n : ℕ). is_entered n p.entered) set ∙ turn.here;
  within = λ low j is. turn.within (omega (arith, low, set)) j is;
  after = λ j is other. let before = turn.after j is other in (before.0, before.1, (λ same. before.2 (same ∙ set)), before.3);
}

turn_switch : (sets first time : ℕ) (after : Spot) (p : WalkPlace) → after.set ≡ next_set sets p.at.set → is_entered after.set p.entered ≡ false → InTurn sets first p → InTurn sets first (walk_after (OfSwitch time) after p)
turn_switch sets first time after p set fresh turn = record {
  here = entered_last after.set p.entered;
  within = λ low j is. elim (entered_split j after.set p.entered is) [
    | inl before ↦ turn.within (next_within sets p.at.set (omega (arith, low, set))) j before
    | inr last ↦ omega (arith, low, last)
  ];
  after = λ j is other. elim (entered_split j after.set p.entered is) [
    | inl before ↦
        let left = turn.after j before other in
        (left.0, entered_more left.0 after.set p.entered left.1, entered_differs left.0 after.set p.entered left.1 fresh, left.3)
    | inr last ↦ (p.at.set, entered_more p.at.set after.set p.entered turn.here, entered_differs p.at.set after.set p.entered turn.here fresh, sym set ∙ last)
  ];
}

turn_kept : (form : Form) (sets first : ℕ) (images : ℕ → List ℕ) (from to : WalkPlace) (records : List WalkRecord) → LeadsTo form sets images from records to → InTurn sets first from → InTurn sets first to
turn_kept form sets first images from to [] leads turn = subst (λ (p : WalkPlace). InTurn sets first p) (sym leads) turn
turn_kept form sets first images from to (OfGroup g ∷ records) leads turn =
    turn_kept form sets first images (walk_after (OfGroup g) leads.0 from) to records leads.2 (turn_group sets first g.time leads.0 from (group_set form sets images from g leads.0 leads.1) turn)
turn_kept form sets first images from to (OfSwitch time ∷ records) leads turn =
    turn_kept form sets first images (walk_after (OfSwitch time) leads.0 from) to records leads.3 (turn_switch sets first time leads.0 from (switch_set form sets images from time leads.0 leads.1) leads.2 turn)

pub sets_in_turn : SetsComeInTurn
sets_in_turn form sets images from last records to low walks = (
  λ is. elim (cases_eq (next_set sets to.at.set) from.set) [
    | inl same ↦ same
    | inr other ↦
        let before = turn.after (next_set sets to.at.set) is other in
        absurd (before.2 (next_once sets before.0 to.at.set (turn.within low before.0 before.1) low before.3))
  ],
  λ same. ap (λ (n : ℕ). is_entered n to.entered) same ∙ entered_kept form sets images (walk_start from last) to records from.set walks.leads (entered_here from.set),
)
  where
    turn : InTurn sets from.set to
    turn = turn_kept form sets from.set images (walk_start from last) to records walks.leads (turn_start sets from last)

-- The next one wasn't entered where it isn't the first.
pub next_is_fresh : (form : Form) (sets : ℕ) (images : ℕ → List ℕ) (from : Spot) (last : ℕ) (records : List WalkRecord) (to : WalkPlace) → to.at.set < sets → next_set sets to.at.set ≢ from.set → WalksThrough form sets images (walk_start from last) records to
    → is_entered (next_set sets to.at.set) to.entered ≡ false
next_is_fresh form sets images from last records to low other walks = false_from_ne_true (is_entered (next_set sets to.at.set) to.entered) (λ is. other ((sets_in_turn form sets images from last records to low walks).0 is))

-- ---- walks

pub walks_kept : WalksAreKept
walks_kept form sets old new from last records to same shut walks = record {
  leads = leads_again form sets old new to same (walk_start from last) records (entered_here from.set) walks.leads;
  ends = shut_is_end form sets (new to.at.set) to.at to.last shut;
}

pub groups_added : GroupsAreAdded
groups_added form sets old new from last records to g same holds walks =
    let after = spot_after_logged g to.at in
    let leads = leads_again form sets old new to same (walk_start from last) records (entered_here from.set) walks.leads in
    record {
      leads = leads_to_group form sets new (walk_start from last) to records g after leads (groups_walked form sets (new to.at.set) to.at to.last g.time g.items holds.may holds.stands);
      ends = shut_is_end form sets (new to.at.set) after g.time holds.shut;
    }

pub switches_added : SwitchesAreAdded
switches_added form sets old new from last time records to same holds walks =
    let next = next_set sets to.at.set in
    let after = spot_in next to.at in
    let leads = leads_again form sets old new to same (walk_start from last) records (entered_here from.set) walks.leads in
    let found = switches_walked form sets (new to.at.set) to.at to.last time holds.few holds.may.number holds.may.later holds.may.stamp holds.stands in
    record {
      leads = leads_to_switch form sets new (walk_start from last) to records time after leads found (next_is_fresh form sets old from last records to holds.there holds.fresh walks);
      ends = shut_is_end form sets (new next) after time holds.shut;
    }
