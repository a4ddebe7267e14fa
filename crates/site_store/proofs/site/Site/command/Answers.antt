use Rattle.std.proofs.Common.{rules, ◌≡◌, ◌&&◌, ◌||◌, Bool, true, false, not, cond, length, sym, ap, subst, ◌∙◌, Ok}
use Rattle.pair_table.specs.Commands.{MayCommand, answer, table_after, wants_memory}
use Rattle.pair_table.specs.Refusals.{refusal}
use Rattle.pair_table.specs.Tables.{AreRowsSound, Table}
use Rattle.site_store.specs.Commands.{AddsBelow, IsToLog, MayDo, alters, with_change, without_flag}
use Rattle.site_store.specs.Sites.{SiteState}
use Rattle.site_store.proofs.Commanded.{change_to_log, may_again, session_after}
use Rattle.site_store.proofs.CommandRows.{adds_below, answered, told_after}
use Rattle.site_store.proofs.site.Site.command.Goals as goal

pub returns-in_err-change-clause-refused : goal.returns-in_err-change-clause-refused
returns-in_err-change-clause-refused g c why is =
    let same : c.command.result ≡ c.from_residual-in_err-change.result = search rules in
    ap (λ (s : SiteState). refusal c.args.names.now s.table c.args.session c.args.command.now) (sym c.self.view_is) ∙ (c.command.ensures.refused why).0 (same ∙ is)

pub take_added-requires : goal.take_added-requires
take_added-requires g c =
    let site = c.args.self.now in
    let change = c.in_ok-change.change in
    let is : answer c.args.names.now site.table c.args.session c.args.command.now ≡ Ok change = subst (λ (s : SiteState). answer c.args.names.now s.table c.args.session c.args.command.now ≡ Ok change) c.self.view_is c.in_ok-change.ensures.change in
    let a = answered c.args.names.now site.table c.args.session c.args.command.now change is in
    subst (λ (s : SiteState). AddsBelow (length s.failed) change) (sym c.self.view_is)
    (subst (AddsBelow (length site.failed)) a.is (adds_below (length site.failed) c.args.names.now c.args.command.now site.table.rows c.requires.may.labels c.requires.may.rows))

pub returns-clause-ok : goal.returns-clause-ok
returns-clause-ok g c =
    let site = c.args.self.now in
    let s = c.self.inside in
    let names = c.args.names.now in
    let session = c.args.session in
    let command = c.args.command.now in
    let at = c.args.at.0 in
    let change = c.in_ok-change.change in
    let started = c.requires.may.started in
    let is : answer names site.table session command ≡ Ok change = subst (λ (k : SiteState). answer names k.table session command ≡ Ok change) c.self.view_is c.in_ok-change.ensures.change in
    let table : c.command.new.self ≡ table_after names site.table session command at = c.in_ok-change.ensures.ok ∙ ap (λ (k : SiteState). table_after names k.table session command at) c.self.view_is in
    let ahead : c.either-self-inside.result ≡ (site.is_ahead || alters change) = c.either-self-inside.ensures ∙ (λ i. s.ahead || c.alters.ensures i) ∙ ap (λ (k : SiteState). k.is_ahead || alters change) c.self.view_is in
    let kept : c.keep_rows.new.told.rows ≡ cond (wants_memory command && not s.ahead) s.table.rows s.told.rows = c.in_ok-keep_rows.ensures.ok ∙ ap (λ (b : Bool). cond b s.table.rows s.told.rows) c.is_to_keep-is_kept.ensures in
    let is_inside : answer names s.table session command ≡ Ok change = c.in_ok-change.ensures.change in
    let started_inside : s.table.is_started ≡ true = ap (λ (k : SiteState). k.table.is_started) c.self.view_is ∙ started in
    let told : cond c.either-self-inside.result c.keep_rows.new.told.rows c.command.new.self.rows ≡ site.told =
    (λ i. cond ((c.either-self-inside.ensures ∙ (λ j. s.ahead || c.alters.ensures j)) i) (kept i) (c.in_ok-change.ensures.ok i).rows) ∙ told_after names s.table session command at change is_inside started_inside s.ahead s.told.rows ∙ ap (λ (k : SiteState). k.told) c.self.view_is in
    let next : c.take_added.new.self ≡ with_change (table_after names site.table session command at) change site =
    c.take_added.ensures ∙ (λ i. record (c.self.view_is i) { table = table i; is_ahead = ahead i; told = told i; failed = without_flag 0 change (c.self.view_is i).failed }) in
    next

pub returns-clause-accepted : goal.returns-clause-accepted
returns-clause-accepted g c =
    let site = c.args.self.now in
    let s = c.self.inside in
    let names = c.args.names.now in
    let session = c.args.session in
    let command = c.args.command.now in
    let at = c.args.at.0 in
    let change = c.in_ok-change.change in
    let started = c.requires.may.started in
    let is : answer names site.table session command ≡ Ok change = subst (λ (k : SiteState). answer names k.table session command ≡ Ok change) c.self.view_is c.in_ok-change.ensures.change in
    (answered names site.table session command change is).accepts

pub returns-clause-again : goal.returns-clause-again
returns-clause-again g c =
    let site = c.args.self.now in
    let s = c.self.inside in
    let names = c.args.names.now in
    let session = c.args.session in
    let command = c.args.command.now in
    let at = c.args.at.0 in
    let change = c.in_ok-change.change in
    let started = c.requires.may.started in
    let is : answer names site.table session command ≡ Ok change = subst (λ (k : SiteState). answer names k.table session command ≡ Ok change) c.self.view_is c.in_ok-change.ensures.change in
    let table : c.command.new.self ≡ table_after names site.table session command at = c.in_ok-change.ensures.ok ∙ ap (λ (k : SiteState). table_after names k.table session command at) c.self.view_is in
    let ahead : c.either-self-inside.result ≡ (site.is_ahead || alters change) = c.either-self-inside.ensures ∙ (λ i. s.ahead || c.alters.ensures i) ∙ ap (λ (k : SiteState). k.is_ahead || alters change) c.self.view_is in
    let kept : c.keep_rows.new.told.rows ≡ cond (wants_memory command && not s.ahead) s.table.rows s.told.rows = c.in_ok-keep_rows.ensures.ok ∙ ap (λ (b : Bool). cond b s.table.rows s.told.rows) c.is_to_keep-is_kept.ensures in
    let is_inside : answer names s.table session command ≡ Ok change = c.in_ok-change.ensures.change in
    let started_inside : s.table.is_started ≡ true = ap (λ (k : SiteState). k.table.is_started) c.self.view_is ∙ started in
    let told : cond c.either-self-inside.result c.keep_rows.new.told.rows c.command.new.self.rows ≡ site.told =
    (λ i. cond ((c.either-self-inside.ensures ∙ (λ j. s.ahead || c.alters.ensures j)) i) (kept i) (c.in_ok-change.ensures.ok i).rows) ∙ told_after names s.table session command at change is_inside started_inside s.ahead s.told.rows ∙ ap (λ (k : SiteState). k.told) c.self.view_is in
    let next : c.take_added.new.self ≡ with_change (table_after names site.table session command at) change site =
    c.take_added.ensures ∙ (λ i. record (c.self.view_is i) { table = table i; is_ahead = ahead i; told = told i; failed = without_flag 0 change (c.self.view_is i).failed }) in
    let may = may_again names site session command at change is started c.requires.may (subst (λ (t : Table). MayCommand names t.rows) table c.in_ok-change.ensures.again) in
    subst (MayDo names) (sym next) may

pub returns-clause-to_log : goal.returns-clause-to_log
returns-clause-to_log g c level keeps =
    let site = c.args.self.now in
    let s = c.self.inside in
    let names = c.args.names.now in
    let session = c.args.session in
    let command = c.args.command.now in
    let at = c.args.at.0 in
    let change = c.in_ok-change.change in
    let started = c.requires.may.started in
    let is : answer names site.table session command ≡ Ok change = subst (λ (k : SiteState). answer names k.table session command ≡ Ok change) c.self.view_is c.in_ok-change.ensures.change in
    let table : c.command.new.self ≡ table_after names site.table session command at = c.in_ok-change.ensures.ok ∙ ap (λ (k : SiteState). table_after names k.table session command at) c.self.view_is in
    let ahead : c.either-self-inside.result ≡ (site.is_ahead || alters change) = c.either-self-inside.ensures ∙ (λ i. s.ahead || c.alters.ensures i) ∙ ap (λ (k : SiteState). k.is_ahead || alters change) c.self.view_is in
    let kept : c.keep_rows.new.told.rows ≡ cond (wants_memory command && not s.ahead) s.table.rows s.told.rows = c.in_ok-keep_rows.ensures.ok ∙ ap (λ (b : Bool). cond b s.table.rows s.told.rows) c.is_to_keep-is_kept.ensures in
    let is_inside : answer names s.table session command ≡ Ok change = c.in_ok-change.ensures.change in
    let started_inside : s.table.is_started ≡ true = ap (λ (k : SiteState). k.table.is_started) c.self.view_is ∙ started in
    let told : cond c.either-self-inside.result c.keep_rows.new.told.rows c.command.new.self.rows ≡ site.told =
    (λ i. cond ((c.either-self-inside.ensures ∙ (λ j. s.ahead || c.alters.ensures j)) i) (kept i) (c.in_ok-change.ensures.ok i).rows) ∙ told_after names s.table session command at change is_inside started_inside s.ahead s.told.rows ∙ ap (λ (k : SiteState). k.told) c.self.view_is in
    let next : c.take_added.new.self ≡ with_change (table_after names site.table session command at) change site =
    c.take_added.ensures ∙ (λ i. record (c.self.view_is i) { table = table i; is_ahead = ahead i; told = told i; failed = without_flag 0 change (c.self.view_is i).failed }) in
    let told_is : site.told ≡ site.table.rows = subst (λ (k : SiteState). k.is_ahead ≡ false → k.told ≡ k.table.rows) c.self.view_is (λ e. ap (λ (b : Bool). cond b s.told.rows s.table.rows) e) level in
    let level_inside : s.ahead ≡ false = ap (λ (k : SiteState). k.is_ahead) c.self.view_is ∙ level in
    let first : wants_memory command ≡ true → AreRowsSound site.table.rows = λ wants. subst (λ (k : SiteState). AreRowsSound k.table.rows) c.self.view_is
    (c.in_ok-keep_rows.ensures.rules (c.is_to_keep-is_kept.ensures ∙ (λ i. wants i && not (level_inside i)))) in
    let then : AreRowsSound (table_after names site.table session command at).rows = subst (λ (k : SiteState). AreRowsSound k.table.rows) next keeps in
    subst (IsToLog change) (sym next) (change_to_log names site session command at change is started level told_is first then c.requires.may.labels c.requires.may.rows)

-- ---- the session of the rows that the devices tell

pub invariant_of-self-2 : goal.invariant_of-self-2
invariant_of-self-2 g c =
    let all = c.self.invariant in
    let after = ap (λ (t : Table). t.session) c.in_ok-change.ensures.ok ∙ session_after c.args.names.now c.self.inside.table c.args.session c.args.command.now c.args.at.0 in
    record {
      room_is = all.room_is;
      marked_is = all.marked_is;
      told_is = c.keep_rows.ensures.session ∙ all.told_is ∙ sym after;
      home = all.home;
      flags = all.flags;
      due_is = all.due_is;
    }
