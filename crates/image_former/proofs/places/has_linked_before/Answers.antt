use Rattle.std.proofs.Common.{ap, sym, subst, ◌∙◌, arith}
use Rattle.pending_queue.specs.Groups.{heads}
use Rattle.image_former.specs.Links.{LeadsBack}
use Rattle.image_former.specs.Steps.{same_track}
use Rattle.image_former.proofs.Besides.{any_here, any_none, none_before, none_by_link}
use Rattle.image_former.proofs.Entries.{entry_there}
use Rattle.image_former.proofs.Linking.{bucket_there}
use Rattle.image_former.proofs.places.has_linked_before.Goals as goal

pub returns-then-is_same_track : goal.returns-then-is_same_track
returns-then-is_same_track c =
    let entries = c.args.formed.now.entries in
    let t = entry_there entries c.in-Some.earlier c.head.result c.head.ensures in
    sym (any_here c.args.head entries c.in-Some.earlier c.args.place t.entry t.there (ap (same_track c.args.head) t.head ∙ sym c.is_same_track.ensures ∙ c.if-is_same_track.true)
    (omega (arith, c.in-Some.ensures.0, c.loop-earlier.invariant.0)))

pub loop-earlier-preserved : goal.loop-earlier-preserved
loop-earlier-preserved c =
    let entries = c.args.formed.now.entries in
    let own = bucket_there (heads c.args.formed.now) c.args.place c.args.head c.requires.head in
    let link = c.in-Some.ensures in (
      omega (arith, link.0, c.loop-earlier.invariant.0),
      link.1 ∙ c.loop-earlier.invariant.1,
      none_by_link c.args.head c.head.result entries c.in-Some.earlier c.loop-earlier.at c.args.place c.loop-earlier.invariant.2 link (c.loop-earlier.invariant.1 ∙ own) c.head.ensures
          (sym c.is_same_track.ensures ∙ c.if-is_same_track.false),
    )

pub returns : goal.returns
returns c =
    let entries = c.args.formed.now.entries in
    let own = bucket_there (heads c.args.formed.now) c.args.place c.args.head c.requires.head in
    sym (any_none c.args.head entries c.args.place
    (none_before c.args.head entries c.loop-earlier.at c.args.place c.loop-earlier.invariant.2 (subst (LeadsBack (heads c.args.formed.now) c.loop-earlier.at) c.in_default.is c.back.ensures) (c.loop-earlier.invariant.1 ∙ own)))
