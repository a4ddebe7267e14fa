-- The row that a command left, of which a row after it comes, and which calls of the command's change are of its volume.
use Rattle.std.proofs.Common.{◌≡◌, inl, inr, ℕ, ◌<◌, Bool, true, false, cond, not, nat_eq, ◌&&◌, List, [], ◌∷◌, ◌++◌, length, Option, Some, None, refl, sym, ap, subst, ◌∙◌, true≢false}
use Rattle.std.specs.Prelude.{IsSomeAnd}
use Rattle.std.specs.List.{flat_map}
use Rattle.std.proofs.lemmas.Bool.{eq-eqb, eqb-true}
use Rattle.std.proofs.lemmas.List.{append_assoc}
use Rattle.pair_table.specs.declared.command.Change.{Change}
use Rattle.pair_table.specs.declared.command.Change.TheVariants.{Nothing, Started, Added, Resumed, Gone, Suspended as SuspendedRows, Ended}
use Rattle.pair_table.specs.declared.row.PairRow.{PairRow}
use Rattle.pair_table.specs.declared.row.PairState.TheVariants.{Pending}
use Rattle.pair_table.specs.Devices.{is_among}
use Rattle.pair_table.specs.Tables.{in_state, is_of, none_clash, resumed_in, row_changed, row_of, with_resumed}
use Rattle.pair_table.proofs.FindLaws.{found_passes}
use Rattle.pair_table.proofs.PutLaws.{number_sym}
use Rattle.pair_table.proofs.TableLaws.{first_apart, not_true}
use Rattle.group_state.specs.Controls.{counts}
use Rattle.group_state.specs.Groups.{Group, control_at}
use Rattle.group_state.specs.Machine.{Call}
use Rattle.group_state.specs.Machine.Call.{Drop, Forget}
use Rattle.record_rows.specs.ToldRows.{InPlaces}
use Rattle.mover.proofs.Failing.{among_map}
use Rattle.mover.proofs.Pairs.{Among, among_cases, apart_among}
use Rattle.mover.proofs.Pairs.Among.{Here, Later}
use Rattle.pair_table.specs.States.{owes}
use Rattle.xrc_session.specs.Taking.{IsSuspendedSince, MayBeBegun, as_pending, carry_calls, command_calls, drop_call, drop_calls, forget_calls, pair_group_after, regrouped_row, is_begun, owes_again, resume_calls, rows_by_command, stands_again, state_by_command, tracks_owed_to, regrouped_rows}
use Rattle.xrc_session.proofs.CarriedRows.{IsOther, among_either, among_kept, one_of_volume}
use Rattle.xrc_session.proofs.JoinsLanes.{Each, each_of_both}
use Rattle.xrc_session.proofs.MapsOff.{IsOff}
use Rattle.xrc_session.proofs.Walking.{found_in}

-- ---- other rows

other_way : (k v j w : ℕ) → IsOther k v j w → IsOther j w k v
other_way k v j w other = (λ i. number_sym j k i && number_sym w v i) ∙ other

-- A row of another device is one of another volume.
pub other_of_device : (a b : PairRow) (rows : List PairRow) → none_clash rows ≡ true → Among a rows → Among b rows → nat_eq a.device b.device ≡ false → IsOther a.control a.volume b.control b.volume
other_of_device a b rows apart h g other = choose (nat_eq a.control b.control) refl (nat_eq a.volume b.volume) refl
  where
    choose : (c : Bool) → nat_eq a.control b.control ≡ c → (d : Bool) → nat_eq a.volume b.volume ≡ d → (c && d) ≡ false
    choose true control true volume =
        let same : a ≡ b = one_of_volume a.control a.volume a b rows apart h g refl refl (sym (eqb-true a.control b.control control)) (sym (eqb-true a.volume b.volume volume)) in
        absurd (true≢false (sym (eq-eqb a.device b.device (ap (λ (r : PairRow). r.device) same)) ∙ other))
    choose true control false volume = refl
    choose false control d volume = refl

-- ---- the row that a command left

-- the row of which one comes by suspensions
pub record ComesFrom (rows : List PairRow) (z : PairRow) : Type 0 where
  pub row : PairRow
  pub among : Among row rows
  pub goes : IsSuspendedSince row z

pub came_from : (rows next : List PairRow) (z : PairRow) → InPlaces IsSuspendedSince rows next → Among z next → ComesFrom rows z
came_from [] [] z follow there = absurd (among_cases z [] there)
came_from [] (y ∷ next) z follow there = absurd follow
came_from (x ∷ rows) [] z follow there = absurd follow
came_from (x ∷ rows) (y ∷ next) z follow there = elim (among_cases z (y ∷ next) there) [
  | inl same ↦ record { row = x; among = Here rows; goes = subst (IsSuspendedSince x) same follow.0 }
  | inr later ↦ let c = came_from rows next z follow.1 later in record { row = c.row; among = Later x rows c.among; goes = c.goes }
]

-- A command doesn't take a device's row away.
abbrev pub StaysBy : Change → ℕ → Type 0
StaysBy Nothing device = Unit {0}
StaysBy Started device = Unit {0}
StaysBy (Added other) device = Unit {0}
StaysBy (Resumed other) device = Unit {0}
StaysBy (Gone devices) device = is_among device devices ≡ false
StaysBy (SuspendedRows devices) device = Unit {0}
StaysBy Ended device = Unit {0}

-- A row that a command didn't begin was there before.
pub record WasThere (change : Change) (before : List PairRow) (r : PairRow) : Type 0 where
  pub among : Among r before
  pub stays : StaysBy change r.device

pub was_there : (s : Group) (change : Change) (before after : List PairRow) (r : PairRow) → MayBeBegun s change before after → Among r (rows_by_command change before after) → is_begun change r.device ≡ false → WasThere change before r
was_there s Nothing before after r begun there other = record { among = there; stays = tt }
was_there s Started before after r begun there other = record { among = there; stays = tt }
was_there s (Added device) before after r begun there other = choose (row_of device after) refl begun there
  where
    choose : (o : Option PairRow) → row_of device after ≡ o → IsSomeAnd o (λ x. (x.control < length s.controls) × (counts (control_at s x.control).phase ≡ true)) → Among r (before ++ as_pending o) → WasThere (Added device) before r
    choose None is none there = absurd none
    choose (Some new) is begun there = elim (among_either r (in_state Pending new) before there) [
      | inl old ↦ record { among = old; stays = tt }
      | inr same ↦ absurd (true≢false (sym (found_passes (is_of device) after new is) ∙ ap (λ (x : PairRow). nat_eq device x.device) same ∙ other))
    ]
was_there s (Resumed device) before after r begun there other = choose (stands_again (row_of device before) (row_of device after)) there
  where
    group : Option (List ℕ)
    group = pair_group_after device after

    changed : (to : PairRow → PairRow) → ((w : PairRow) → (to w).device ≡ w.device) → (w : PairRow) → Among w before → row_changed device to w ≡ r → (b : Bool) → nat_eq device w.device ≡ b → WasThere (Resumed device) before r
    changed to leaves w among is true own =
        absurd
        (true≢false
        (sym own ∙ ap (nat_eq device) (sym (leaves w)) ∙ ap (λ (x : PairRow). nat_eq device x.device) (sym (ap (λ (b : Bool). cond b (to w) w) own)) ∙ ap (λ (x : PairRow). nat_eq device x.device) is ∙ other))
    changed to leaves w among is false own = record { among = subst (λ (x : PairRow). Among x before) (sym (ap (λ (b : Bool). cond b (to w) w) own) ∙ is) among; stays = tt }

    choose : (b : Bool) → Among r (cond b (regrouped_rows device group before) (with_resumed device group before)) → WasThere (Resumed device) before r
    choose true there = let was = among_map (row_changed device (regrouped_row group)) r before there in changed (regrouped_row group) (λ w. refl) was.row was.among was.is (nat_eq device was.row.device) refl
    choose false there = let was = among_map (row_changed device (resumed_in group)) r before there in changed (resumed_in group) (λ w. refl) was.row was.among was.is (nat_eq device was.row.device) refl
was_there s (Gone devices) before after r begun there other =
    let kept = among_kept (λ x. not (is_among x.device devices)) r before there in
    record { among = kept.0; stays = not_true (is_among r.device devices) kept.1 }
was_there s (SuspendedRows devices) before after r begun there other = record { among = there; stays = tt }
was_there s Ended before after r begun there other = record { among = there; stays = tt }

-- ---- the command's own calls

module _ (before : List PairRow) (apart : none_clash before ≡ true) (r : PairRow) (there : Among r before) where
  forgets_off : (devices : List ℕ) (rows : List PairRow) → is_among r.device devices ≡ false → ((x : PairRow) → Among x rows → Among x before) → Each (IsOff r.control r.volume) (flat_map (forget_calls devices) rows)
  forgets_off devices [] stays all = tt
  forgets_off devices (x ∷ rows) stays all =
      each_of_both (IsOff r.control r.volume) (forget_calls devices x) (flat_map (forget_calls devices) rows) (choose (is_among x.device devices) refl) (forgets_off devices rows stays (λ y among. all y (Later x rows among)))
    where
      other : is_among x.device devices ≡ true → (b : Bool) → nat_eq x.device r.device ≡ b → b ≡ false
      other gone true same = absurd (true≢false (sym gone ∙ ap (λ (d : ℕ). is_among d devices) (eqb-true x.device r.device same) ∙ stays))
      other gone false apart = refl

      choose : (b : Bool) → is_among x.device devices ≡ b → Each (IsOff r.control r.volume) (cond b (Drop x.control x.volume true ∷ Forget x.control x.volume ∷ []) [])
      choose true gone =
          let off = other_of_device x r before apart (all x (Here rows)) there (other gone (nat_eq x.device r.device) refl) in
          (off, (off, tt))
      choose false stays = tt

  resume_off : (s : Group) (device : ℕ) (o p : Option PairRow) → row_of device before ≡ o → nat_eq device r.device ≡ false → Each (IsOff r.control r.volume) (resume_calls s o p)
  resume_off s device None p is other = tt
  resume_off s device (Some x) p is other = (off, again (stands_again (Some x) p))
    where
      off : IsOther x.control x.volume r.control r.volume
      off = other_of_device x r before apart (found_in (is_of device) before x is) there (ap (λ (d : ℕ). nat_eq d r.device) (sym (eqb-true device x.device (found_passes (is_of device) before x is))) ∙ other)

      again : (b : Bool) → Each (IsOff r.control r.volume) (cond b (Drop x.control x.volume (owes_again (tracks_owed_to s (Some x)) x.state) ∷ []) [])
      again true = (off, tt)
      again false = tt

carry_off : (device : ℕ) (after : List PairRow) (o : Option PairRow) (z : PairRow) → row_of device after ≡ o → none_clash after ≡ true → Among z after → nat_eq device z.device ≡ false → Each (IsOff z.control z.volume) (carry_calls o)
carry_off device after None z is apart there other = tt
carry_off device after (Some x) z is apart there other = (
  other_of_device x z after apart (found_in (is_of device) after x is) there (ap (λ (d : ℕ). nat_eq d z.device) (sym (eqb-true device x.device (found_passes (is_of device) after x is))) ∙ other),
  tt,
)

-- The calls of a command itself are of other volumes than a row's that it neither begins nor takes away.
pub command_off : (change : Change) (s : Group) (before after : List PairRow) (r z : PairRow) → none_clash before ≡ true → none_clash after ≡ true → WasThere change before r → Among z after → z ≡ in_state z.state r → is_begun change r.device ≡ false
    → Each (IsOff r.control r.volume) (command_calls change s before after)
command_off Nothing s before after r z apart clear was there pair other = tt
command_off Started s before after r z apart clear was there pair other = tt
command_off (Added device) s before after r z apart clear was there pair other =
    subst (λ (x : PairRow). Each (IsOff x.control x.volume) (carry_calls (row_of device after))) (ap (in_state r.state) pair)
    (carry_off device after (row_of device after) z refl clear there (ap (λ (x : PairRow). nat_eq device x.device) pair ∙ other))
command_off (Resumed device) s before after r z apart clear was there pair other = resume_off before apart r was.among s device (row_of device before) (row_of device after) refl other
command_off (Gone devices) s before after r z apart clear was there pair other = forgets_off before apart r was.among devices before was.stays (λ x among. among)
command_off (SuspendedRows devices) s before after r z apart clear was there pair other = tt
command_off Ended s before after r z apart clear was there pair other = tt

-- ---- the drops

-- The drops of a change, split at a row's: all others are of other volumes.
pub record SplitAt (change : Change) (before : List PairRow) (z : PairRow) (drops : List Call) : Type 0 where
  pub pre : List Call
  pub post : List Call
  pub are : drops ≡ pre ++ (drop_calls change before z ++ post)
  pub first : Each (IsOff z.control z.volume) pre
  pub then : Each (IsOff z.control z.volume) post

module _ (change : Change) (before : List PairRow) (z : PairRow) where
  drop_off : (x : PairRow) → IsOther x.control x.volume z.control z.volume → (o : Option Bool) → Each (IsOff z.control z.volume) (drop_call x o)
  drop_off x other None = tt
  drop_off x other (Some all) = (other, tt)

  drops_off : (rows : List PairRow) → ((x : PairRow) → Among x rows → IsOther x.control x.volume z.control z.volume) → Each (IsOff z.control z.volume) (flat_map (drop_calls change before) rows)
  drops_off [] others = tt
  drops_off (x ∷ rows) others =
      each_of_both (IsOff z.control z.volume) (drop_calls change before x) (flat_map (drop_calls change before) rows)
      (drop_off x (others x (Here rows)) (owes (state_by_command change before x) x.state)) (drops_off rows (λ y among. others y (Later x rows among)))

  pub split_at : (rows : List PairRow) → none_clash rows ≡ true → Among z rows → SplitAt change before z (flat_map (drop_calls change before) rows)
  split_at _ apart (Here rows) = record {
    pre = [];
    post = flat_map (drop_calls change before) rows;
    are = refl;
    first = tt;
    then = drops_off rows (λ x among. other_way z.control z.volume x.control x.volume (apart_among z x rows (first_apart z rows apart).first among).volume);
  }
  split_at _ apart (Later x rows there) =
      let f = first_apart x rows apart in
      let more = split_at rows f.others there in
      record {
        pre = drop_calls change before x ++ more.pre;
        post = more.post;
        are = ap (λ (calls : List Call). drop_calls change before x ++ calls) more.are ∙ sym (append_assoc (drop_calls change before x) more.pre (drop_calls change before z ++ more.post));
        first = each_of_both (IsOff z.control z.volume) (drop_calls change before x) more.pre
            (drop_off x (apart_among x z rows f.first there).volume (owes (state_by_command change before x) x.state)) more.first;
        then = more.then;
      }

  -- Where none is the row's, all drops are of other volumes.
  pub all_off : (drops : List Call) (p : SplitAt change before z drops) → drop_calls change before z ≡ [] → Each (IsOff z.control z.volume) drops
  all_off drops p none =
      subst (Each (IsOff z.control z.volume)) (sym (p.are ∙ ap (λ (own : List Call). p.pre ++ (own ++ p.post)) none)) (each_of_both (IsOff z.control z.volume) p.pre p.post p.first p.then)
