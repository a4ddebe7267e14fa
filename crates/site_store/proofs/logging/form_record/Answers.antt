use Rattle.std.proofs.Common.{◌≤◌, ◌&&◌, inl, inr, not, Bool, false, List, length, map, get_or, sym, ap, subst, ◌∙◌, arith}
use Rattle.std.proofs.lemmas.Bool.{cases_lt}
use Rattle.std.proofs.lemmas.List.{length-map}
use Rattle.tod_stamp.specs.declared.stamp.Stamp.{Stamp}
use Rattle.site_means.specs.Walk.{first_unfit}
use Rattle.xrc_journal.specs.Bodies.{BodyState}
use Rattle.xrc_journal.specs.Items.{Item}
use Rattle.site_store.specs.Hits.{AreHits, pairs_with_next, with_group_and_hits}
use Rattle.site_store.specs.Jobs.{has_job_failed}
use Rattle.site_store.proofs.Below.{below_volumes}
use Rattle.site_store.proofs.DueItems.{due_items, flags_past, none_past}
use Rattle.site_store.proofs.FailedFlags.{by_flags}
use Rattle.site_store.proofs.FormedItems.{formed_keep, pairs_are, pairs_lead}
use Rattle.site_store.proofs.RecordPairsFit.{formed_fit}
use Rattle.site_store.proofs.logging.form_record.Goals as goal

pub hits_after_mark-hits-requires-clause-below : goal.hits_after_mark-hits-requires-clause-below
hits_after_mark-hits-requires-clause-below g c =
    let old = g.P.Plant.state c.args.plant.now in
    let same = c.form_group.ensures.fails.size in
    let many : old.volumes ≤ length c.form_group.new.jobs = omega (arith, c.requires.may.volumes, same, length-map c.form_group.new.jobs has_job_failed, length-map c.args.jobs.now has_job_failed) in
    below_volumes old (length c.form_group.new.jobs) c.args.table.now.rows many c.requires.may.have

pub put_changed-requires-clause-below : goal.put_changed-requires-clause-below
put_changed-requires-clause-below g c = below_volumes (g.P.Plant.state c.args.plant.now) 64 c.args.table.now.rows c.requires.may.few c.requires.may.have

pub returns-clause-forms : goal.returns-clause-forms
returns-clause-forms g c =
    let old = g.P.Plant.state c.args.plant.now in
    let rows = c.args.table.now.rows in
    let entries = c.args.formed.now.entries in
    let next = with_group_and_hits c.args.formed.now c.hits_after_mark-hits.result in
    let images = c.form_group.new.body.items in
    let parts = ap (λ (h : BodyState). h.items) c.put_changed.ensures.put in
    record {
      items = record {
        images = images;
        pairs = pairs_with_next next rows;
        parts = parts;
        are_images = c.form_group.ensures.images.images;
        are_pairs = pairs_are next rows;
        keep = formed_keep old rows entries next images c.put_changed.new.body.items c.requires.may.have c.requires.may.entries c.form_group.ensures.images.allowed (λ d x has. ((c.form_group.ensures.tracks d x).0 has).0) parts c.put_changed.ensures.keep;
        lead = pairs_lead next rows c.put_changed.ensures.rules.apart;
        tracks = λ d x. by_flags _ _ d c.form_group.new.jobs c.form_group.ensures.idle (c.form_group.ensures.tracks d x);
        content = c.form_group.ensures.content;
      };
      fit = ap (λ (l : List Item). first_unfit old.volumes 0 rows l) parts ∙ formed_fit next old images rows c.form_group.ensures.images.images c.put_changed.ensures.rules c.requires.may.have;
      rules = c.put_changed.ensures.rules;
      room = ap (λ (h : BodyState). h.room) c.put_changed.ensures.put ∙ c.form_group.ensures.images.room;
      short = omega (arith, c.put_changed.ensures.short, c.form_group.ensures.images.short);
      due_is = λ d.
          let same = due_items rows entries d (get_or (map has_job_failed c.form_group.new.jobs) d false) images (pairs_with_next next rows) c.put_changed.new.body.items (pairs_are next rows) parts (λ x. by_flags _ _ d c.form_group.new.jobs c.form_group.ensures.idle (c.form_group.ensures.tracks d x)) in
          elim (cases_lt d (length c.form_group.new.due)) [
            | inl lt ↦ c.form_group.ensures.due d (omega (arith, lt, c.form_group.auto.due, c.requires.may.flags)) ∙ same
            | inr past ↦
                flags_past c.form_group.new.due d past
                ∙ ap (λ (b : Bool). b && not (get_or (map has_job_failed c.form_group.new.jobs) d false)) (sym (none_past old rows entries d c.requires.may.have c.requires.may.entries (omega (arith, past, c.form_group.auto.due, c.requires.may.flags, c.requires.may.volumes)))) ∙ same
          ];
    }

pub returns-clause-hits : goal.returns-clause-hits
returns-clause-hits g c = λ marked are.
    subst (λ (time : Stamp). AreHits c.args.reach.level time (map has_job_failed c.form_group.new.jobs) marked c.args.table.now.rows c.hits_after_mark-hits.result) c.cut.ensures (c.hits_after_mark-hits.ensures.hits marked are)
