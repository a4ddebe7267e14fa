use Rattle.std.proofs.Common.{◌≡◌, ◌++◌, ◌∙◌, length, ap, arith}
use Rattle.xrc_journal.specs.Bodies.{BodyState}
use Rattle.site_store.specs.Changing.{changed_items}
use Rattle.site_store.specs.Hits.{pairs_with_next, with_hits}
use Rattle.site_store.proofs.Below.{below_more}
use Rattle.site_store.proofs.changing.form_change.Goals as goal

pub put_hits-requires-clause-below : goal.put_hits-requires-clause-below
put_hits-requires-clause-below g c = below_more (length c.args.jobs.now) 64 c.args.table.now.rows c.requires.few c.requires.below

pub returns-clause-forms : goal.returns-clause-forms
returns-clause-forms g c =
    let items = c.take_change.new.body.items in
    let rows = c.args.table.now.rows in
    let hits = c.hits_at-hits.result in
    let pairs = pairs_with_next (with_hits hits) rows in
    let put : items ≡ changed_items c.args.change.now rows = ap (λ (h : BodyState). h.items) c.take_change.ensures.put in
    record {
      hits = hits;
      are = c.hits_at-hits.ensures.hits;
      now_is = c.put_hits.ensures.put ∙ (λ i. record { items = put i ++ pairs; room = (c.take_change.ensures.put i).room });
      rules = c.put_hits.ensures.rules;
      keep = c.bytes.ensures.keep;
      short = omega (arith, c.put_hits.ensures.short, c.take_change.ensures.short);
    }
