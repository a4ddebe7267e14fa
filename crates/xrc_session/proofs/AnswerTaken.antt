-- What taking a change over leaves of the shared state.
use Rattle.std.proofs.Common.{◌≡◌, ℕ, List, Option, Some, None, Ok, sym, ap, subst, ◌∙◌}
use Rattle.std.specs.Option.{option_map}
use Rattle.std.specs.Prelude.{IsSomeAnd}
use Rattle.pair_table.specs.declared.command.Change.{Change}
use Rattle.pair_table.specs.declared.row.PairRow.{PairRow}
use Rattle.group_state.specs.Groups.{Group}
use Rattle.xrc_session.specs.Answering.{group_taken}
use Rattle.xrc_session.specs.Taking.{IsSoundForRows, MayTake, after_calls, calls_of_change, tracks_to_copy}

-- The rows that are given, before and after, are those of the session and of its site.
module _ (change : Change) (g : Group) (o : Option Group) (is : o ≡ Some g) (before given rows told : List PairRow) (given_is : given ≡ before) (rows_are : rows ≡ told) where
  pub taken_over : (now : Group) → now ≡ after_calls (calls_of_change change g given rows) g → Some now ≡ option_map (group_taken (Ok change) before told) o
  taken_over now calls =
      (λ i. let found : Option Group = Some (calls i) in found)
      ∙ (λ i. let found : Option Group = Some (after_calls (calls_of_change change g (given_is i) (rows_are i)) g) in found)
      ∙ ap (option_map (group_taken (Ok change) before told)) (sym is)

  pub tracks_taken : (tracks : ℕ) → tracks ≡ tracks_to_copy change g given rows → tracks ≡ tracks_to_copy change g before told
  tracks_taken tracks copied = copied ∙ (λ i. tracks_to_copy change g (given_is i) (rows_are i))

  pub tracks_of_group : (tracks : ℕ) → tracks ≡ tracks_to_copy change g given rows → IsSomeAnd o (λ g. tracks ≡ tracks_to_copy change g before told)
  tracks_of_group tracks copied = subst (λ (x : Option Group). IsSomeAnd x (λ g. tracks ≡ tracks_to_copy change g before told)) (sym is) (tracks_taken tracks copied)

  pub may_given : MayTake g change before told → MayTake g change given rows
  may_given may = subst (λ (l : List PairRow). MayTake g change l rows) (sym given_is) (subst (λ (l : List PairRow). MayTake g change before l) (sym rows_are) may)

  pub keeps_given : IsSomeAnd o (λ g. IsSoundForRows g before) → IsSoundForRows g given
  keeps_given kept = subst (λ (l : List PairRow). IsSoundForRows g l) (sym given_is) (subst (λ (x : Option Group). IsSomeAnd x (λ g. IsSoundForRows g before)) is kept)

-- What is so of a group that is there.
pub that_is_there : (A : Group → Type 0) (o : Option Group) (g : Group) → o ≡ Some g → IsSomeAnd o A → A g
that_is_there A o g is holds = subst (λ (x : Option Group). IsSomeAnd x A) is holds

-- A group is there.
pub none_missing : (A : Group → Type 0) (o : Option Group) → o ≡ None → IsSomeAnd o A → ⊥
none_missing A o is holds = subst (λ (x : Option Group). IsSomeAnd x A) is holds
