use Rattle.std.proofs.Common.{◌≡◌, ℕ, length, map, true, sym, ap, subst, ◌∙◌}
use Rattle.std.proofs.lemmas.List.{length-map}
use Rattle.pair_table.specs.Tables.{are_below}
use Rattle.record_rows.specs.Hits.{hit_now}
use Rattle.site_store.specs.Hits.{are_some}
use Rattle.site_store.specs.Jobs.{has_job_failed}
use Rattle.site_store.specs.Sites.{SiteState}
use Rattle.site_store.proofs.site.Site.has_hit.Goals as goal

pub is_any_hit-requires : goal.is_any_hit-requires
is_any_hit-requires g c =
    let s = c.self.inside in
    let below : are_below (length (map has_job_failed s.jobs.items)) s.table.rows ≡ true = subst (λ (x : SiteState). are_below (length x.failed) x.table.rows ≡ true) (sym c.self.view_is) c.requires in
    subst (λ (n : ℕ). are_below n s.table.rows ≡ true) (length-map s.jobs.items has_job_failed ∙ sym (ap length c.deref.ensures.value)) below

pub returns-clause-hit : goal.returns-clause-hit
returns-clause-hit g c =
    let failed = ap (map has_job_failed) c.deref.ensures.value ∙ ap (λ (x : SiteState). x.failed) c.self.view_is in
    c.is_any_hit.ensures ∙ (λ i. are_some (hit_now (failed i) (c.self.view_is i).table.rows))
