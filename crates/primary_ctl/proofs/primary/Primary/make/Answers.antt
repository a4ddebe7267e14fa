use Rattle.std.proofs.Common.{◌≡◌, ◌∙◌, sym, ap, List, [], ◌&&◌, length}
use Rattle.std.proofs.lemmas.Iterator.Consumers.{YieldsList-end}
use Rattle.std.proofs.lemmas.Iterator.Adapters.{YieldsList-from_vec}
use Rattle.std.proofs.lemmas.List.{map-id}
use Rattle.tod_stamp.specs.Fields.{is_version, within}
use Rattle.write_trace.specs.Headers.{Base, are_volumes, are_bases}
use Rattle.primary_ctl.proofs.Filters.{both_true}
use Rattle.primary_ctl.proofs.Bases.{after_puts, puts_are}
use Rattle.primary_ctl.proofs.primary.Primary.make.Goals as goal

pub returns-clause-tracks : goal.returns-clause-tracks
returns-clause-tracks c =
    let items = c.into_vec-volume-items.result in
    let gives = c.into_iter-volume-iterator.ensures.into_iter_gives in
    let h = c.args.header in
    let rules_of = both_true (is_version h.version && within 1 32 (length h.volumes) && are_volumes h.version [] h.volumes) (are_bases h.volumes (0, 0) h.base) c.requires in
    let seen = YieldsList-end (YieldsList-from_vec {s = c.into_iter-volume-iterator.result} items.items gives.0 (gives.1 ∙ items.ok.0)) c.loop-volume.yielded c.loop-volume.volume-iterator c.loop-volume.yielded_by c.next.result c.next.new.self c.in-None.is c.next.ensures.steps in
    let all : c.loop-volume.yielded ≡ h.base = sym (map-id c.loop-volume.yielded) ∙ seen.0 ∙ c.into_vec-volume-items.ensures in
    λ v t. c.loop-volume.invariant v t ∙ ap (λ (base : List Base). after_puts v t [] base) all ∙ puts_are h.volumes (0, 0) v t h.base rules_of.1
