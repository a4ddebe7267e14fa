-- A session on its site, as its parts have it, and what is so of calls that stopped.
use Rattle.std.proofs.Common.{◌≡◌, ℕ, Bool, true, List, Option, Some, None, Result, Ok, Err, sym, ap, subst, ◌∙◌, true≢false}
use Rattle.std.specs.Prelude.{IfErr, IfOk, IsSome, MatchOption, OnOk, is_some}
use Rattle.std.proofs.lemmas.Bool.{false≢true}
use Rattle.crash_plant.specs.Moments.{PlantState}
use Rattle.pair_table.specs.Tables.{Table}
use Rattle.site_store.specs.Sites.{SiteState}
use Rattle.mover.specs.declared.lane.Lane.{Lane}
use Rattle.mover.specs.Epochs.{AreSameLanes}
use Rattle.xrc_status.specs.declared.stop.Stop.{Stop}
use Rattle.xrc_session.specs.declared.kept.SessionParts.{SessionParts}
use Rattle.xrc_session.specs.declared.place.SessionPlace.{SessionPlace}
use Rattle.xrc_session.specs.declared.place.SessionPlace.TheVariants.{Started, Unstarted}
use Rattle.xrc_session.specs.LinePauses.{IsAtSite, IsBetween, IsUnstarted}
use Rattle.xrc_session.specs.Lanes.{AllWent}
use Rattle.xrc_session.specs.States.{SessionState, site_in, table_in}
use Rattle.xrc_session.specs.Stops.{HasStopCause, StopsByCount}
use Rattle.xrc_session.proofs.InTurn.{counts_as, went_here}
use Rattle.xrc_session.proofs.LinesBegun.{between_may_go_on, same_lanes_here}
use Rattle.xrc_session.proofs.StartWorks.{err_as}

-- ---- the session

-- the session that has these parts
abbrev pub session_in : {V : Type 0} → (session : List ℕ) → (controls : ℕ) → SessionParts → SessionPlace V → (ended : Bool) → SessionState
session_in session controls kept place ended = record { session = session; controls = controls; names = kept.names; group = kept.group; table = table_in place; site = site_in place; is_ended = ended }

-- the session that has these parts and this site
abbrev pub session_on : (session : List ℕ) → (controls : ℕ) → SessionParts → SiteState → (ended : Bool) → SessionState
session_on session controls kept site ended = record { session = session; controls = controls; names = kept.names; group = kept.group; table = site.table; site = Some site; is_ended = ended }

-- A session whose place is a site is on it.
pub session_at : {V : Type 0} (session : List ℕ) (controls : ℕ) (kept : SessionParts) (place : SessionPlace V) (ended : Bool) (s : SessionState) (site : SiteState) → place ≡ Started site → session_in session controls kept place ended ≡ s → session_on session controls kept site ended ≡ s
session_at {V} session controls kept place ended s site is same = ap (λ (p : SessionPlace V). session_in session controls kept p ended) (sym is) ∙ same

-- A session that has started is not at a place of its own table.
pub never_unstarted : {V : Type 0} (session : List ℕ) (controls : ℕ) (kept : SessionParts) (place : SessionPlace V) (ended : Bool) (s : SessionState) (table : Table) → place ≡ Unstarted table → session_in session controls kept place ended ≡ s → IsSome s.site → ⊥
never_unstarted {V} session controls kept place ended s table is same started =
    let none : s.site ≡ None = sym (ap (λ (x : SessionState). x.site) same) ∙ ap (λ (p : SessionPlace V). site_in p) is in
    false≢true (ap is_some (sym none) ∙ started)

pub unstarted_at : {V : Type 0} (session : List ℕ) (controls : ℕ) (kept : SessionParts) (place : SessionPlace V) (ended : Bool) (s : SessionState) (table : Table) → place ≡ Unstarted table → session_in session controls kept place ended ≡ s → s.site ≡ None
unstarted_at {V} session controls kept place ended s table is same = sym (ap (λ (x : SessionState). x.site) same) ∙ ap (λ (p : SessionPlace V). site_in p) is

pub started_at : (session : List ℕ) (controls : ℕ) (kept : SessionParts) (site : SiteState) (ended : Bool) (s : SessionState) → session_on session controls kept site ended ≡ s → IsSome s.site
started_at session controls kept site ended s same = ap (λ (x : SessionState). is_some x.site) (sym same)

pub never_none : (session : List ℕ) (controls : ℕ) (kept : SessionParts) (site : SiteState) (ended : Bool) (s : SessionState) → session_on session controls kept site ended ≡ s → s.site ≡ None → ⊥
never_none session controls kept site ended s same none = let clash : Some site ≡ None = ap (λ (x : SessionState). x.site) same ∙ none in absurd cc

-- A session that hasn't started hasn't ended.
pub unstarted_goes_on : {S : Type 0} (tells : Type 0) (s : SessionState) (lanes : List (Lane S)) (plant : PlantState) → IsBetween tells s lanes plant → s.site ≡ None → s.is_ended ≡ true → ⊥
unstarted_goes_on {S} tells s lanes plant between none ended =
    true≢false (sym ended ∙ (subst (λ (o : Option SiteState). MatchOption o (IsUnstarted s lanes) (IsAtSite tells s lanes plant)) none between.place).goes_on)

-- ---- results

-- Nothing is asked of the value of a result that stopped.
pub ok_none : {T : Type 0} (P : T → Type 0) (result : Result T Stop) (stop : Stop) → result ≡ Err stop → IfOk result P
ok_none {T} P (Ok value) stop is = absurd cc
ok_none {T} P (Err other) stop is = tt

pub on_none : {T : Type 0} (X : Type 0) (result : Result T Stop) (stop : Stop) → result ≡ Err stop → OnOk result X
on_none {T} X result stop is = ok_none (λ value. X) result stop is

-- It has the cause of its stop.
pub cause_of : {T : Type 0} (old new : PlantState) (result : Result T Stop) (stop : Stop) → result ≡ Err stop → HasStopCause old new stop → IfErr result (HasStopCause old new)
cause_of {T} old new result stop is cause = subst (λ (r : Result T Stop). IfErr r (HasStopCause old new)) (sym is) cause

-- The counts of another result that stopped so are its counts.
pub counts_of : {T U : Type 0} (old new : PlantState) (result : Result T Stop) (stop : Stop) → result ≡ Err stop → (let r : Result U Stop = Err stop in StopsByCount old new r) → StopsByCount old new result
counts_of {T} {U} old new result stop is counts =
    subst (λ (r : Result T Stop). StopsByCount old new r) (sym is)
    (counts_as old new (let r : Result U Stop = Err stop in r) (let r : Result T Stop = Err stop in r) (λ other same. err_as {T = U} {U = T} stop other same) counts)

-- ---- lanes

-- The lanes of a session that stands between two lines are as they are, and went on by no call.
module _ {S : Type 0} (tells : Type 0) (s : SessionState) (lanes : List (Lane S)) (old : PlantState) (between : IsBetween tells s lanes old) where
  pub lanes_here : {T : Type 0} (result : Result T Stop) → OnOk result (AreSameLanes lanes lanes)
  lanes_here {T} (Ok value) = same_lanes_here lanes (between_may_go_on tells s lanes old between)
  lanes_here {T} (Err stop) = tt

  pub lanes_went : (left : S → Option (List ℕ)) (faults : S → ℕ) → AllWent left faults lanes lanes
  lanes_went left faults = went_here left faults lanes (between_may_go_on tells s lanes old between)
