use Rattle.site_store.proofs.hits.hit_devices.Goals as goal

pub returns-clause-hit : goal.returns-clause-hit
returns-clause-hit g c = record { flags = c.hit_flags-are.ensures.hit; any_is = c.is_any_hit-any.ensures }
