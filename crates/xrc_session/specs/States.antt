-- What a session is to its callers.
use Rattle.std.specs.Prelude.{ℕ, List, Bool, Option, Some, None}
use Rattle.pair_table.specs.Naming.{Naming}
use Rattle.pair_table.specs.Tables.{Table}
use Rattle.group_state.specs.Groups.{Group}
use Rattle.site_store.specs.Sites.{SiteState}
use Rattle.xrc_session.specs.declared.place.SessionPlace.{SessionPlace}
use Rattle.xrc_session.specs.declared.place.SessionPlace.TheVariants.{Unstarted, Started}

-- what a session is to its callers
pub record SessionState : Type 0 where
  pub session : List ℕ
  pub controls : ℕ
  -- the names that commands speak of
  pub names : Naming
  -- what readers and mover share: none while they are at work, and after a stop
  pub group : Option Group
  -- the session's pairs, before its start and after it
  pub table : Table
  -- the site on which it works, from its start on
  pub site : Option SiteState
  -- whether its end was answered
  pub is_ended : Bool

-- the pairs of a session at a place, and its site
abbrev pub table_in : {V : Type 0} → SessionPlace V → Table
table_in (Unstarted table) = table
table_in (Started site) = site.table

abbrev pub site_in : {V : Type 0} → SessionPlace V → Option SiteState
site_in (Unstarted table) = None
site_in (Started site) = Some site

abbrev pub site_time : Option SiteState → ℕ
site_time None = 0
site_time (Some site) = site.time

-- the time up to which a session has come: 0 before its start
abbrev pub session_time : SessionState → ℕ
session_time s = site_time s.site

-- the session with a site, these names and this shared state
abbrev pub with_site : Naming → Option Group → SiteState → SessionState → SessionState
with_site names group site s = record s { names = names; group = group; table = site.table; site = Some site }
