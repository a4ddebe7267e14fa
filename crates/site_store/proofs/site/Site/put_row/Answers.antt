use Rattle.std.proofs.Common.{◌≡◌, Bool, true, false, not, cond, List, length, map, refl, sym, ap, subst, ◌∙◌, arith}
use Rattle.pair_table.specs.declared.command.Change.TheVariants.{Added}
use Rattle.pair_table.specs.declared.row.PairRow.{PairRow}
use Rattle.pair_table.specs.Tables.{MayPut, Table, are_below, with_row}
use Rattle.site_store.specs.Changing.{Lead, changed_items}
use Rattle.site_store.specs.Jobs.{has_job_failed}
use Rattle.site_store.specs.Sites.{SiteState}
use Rattle.site_store.proofs.CommandLeads.{put_leads}
use Rattle.site_store.proofs.site.Site.put_row.Goals as goal

pub returns-clause-to_log : goal.returns-clause-to_log
returns-clause-to_log g c level below =
    let s = c.self.inside in
    let row = c.args.row in
    let count = length (map has_job_failed s.jobs.items) in
    let ahead : s.ahead ≡ false = ap (λ (k : SiteState). k.is_ahead) c.self.view_is ∙ level in
    let told : c.keep_rows.new.told.rows ≡ s.table.rows = c.in_ok-keep_rows.ensures.ok ∙ ap (λ (b : Bool). cond (not b) s.table.rows s.told.rows) ahead in
    let after : c.put_row.new.self.rows ≡ with_row row s.table.rows = ap (λ (t : Table). t.rows) c.in_ok-put_row.ensures.ok in
    let may : MayPut row s.table.rows = subst (λ (k : SiteState). MayPut row k.table.rows) (sym c.self.view_is) c.requires.may in
    let there : are_below count (with_row row s.table.rows) ≡ true = ap (λ (l : List PairRow). are_below count l) (sym after) ∙ below in
    record {
      few = omega arith;
      ahead = λ some. refl;
      lead = subst (λ (x : Type 0). x) (λ i. Lead count (changed_items (Added row.device) (sym after i)) (sym told i) (sym after i)) (put_leads count row s.table.rows may.few may.apart there);
    }
