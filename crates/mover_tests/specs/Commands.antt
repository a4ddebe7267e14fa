-- A command that is answered with a change.
use Rattle.std.specs.Prelude.{◌≡◌, ℕ, List, Ok}
use Rattle.pair_table.specs.declared.command.Change.{Change}
use Rattle.pair_table.specs.declared.command.Command.{Command}
use Rattle.pair_table.specs.Commands.{answer}
use Rattle.pair_table.specs.Naming.{Naming}
use Rattle.pair_table.specs.Tables.{AreRowsSound}
use Rattle.site_store.specs.Commands.{IsToLog, MayDo, after_command}
use Rattle.site_store.specs.Sites.{SiteState}

-- A command at a time was answered with a change, which may be logged next.
pub record IsCommandAnswered (names : Naming) (command : Command) (at : ℕ) (change : Change) (site next : SiteState) : Type 0 where
  pub session : List ℕ
  pub is : answer names site.table session command ≡ Ok change
  pub next_is : next ≡ after_command names session command at change site
  pub keeps : AreRowsSound next.table.rows
  pub again : MayDo names next
  pub to_log : IsToLog change next
