use Rattle.std.proofs.Common.{ℕ, List, [], sym, ap, subst, ◌∙◌, arith}
use Rattle.crash_plant.specs.declared.device.Device.TheVariants.{Control, State}
use Rattle.crash_plant.proofs.Steps.{works_on_more, works_on_trans}
use Rattle.control_set.specs.Slots.{IsNext, chosen_mark, chosen_of, free_place, lengths_of, slot_of}
use Rattle.control_set.proofs.Lengths.{same_lengths}
use Rattle.state_set.specs.Slots.{state_length, state_of}
use Rattle.site_store.proofs.Calls.{durable_still}
use Rattle.site_store.proofs.Puts.{control_marked, puts_both, puts_state, second_stays, state_marked}
use Rattle.site_store.proofs.writing.put_mark.Goals as goal

pub returns-in_default-clause-moments : goal.returns-in_default-clause-moments
returns-in_default-clause-moments g c told =
    puts_state g.P.Plant.tells told _ _ c.args.value.now (record { level = c.args.level; rows = c.args.table.now.rows }) (state_length c.args.table.now.rows) c.put.ensures.only (c.put.ensures.moments told)

pub returns-in_default-clause-only : goal.returns-in_default-clause-only
returns-in_default-clause-only g c = works_on_more g.P.Plant.tells _ _ _ _ state_marked c.put.ensures.only

pub mark-requires-clause-next : goal.mark-requires-clause-next
mark-requires-clause-next g c κs within told =
    let old = g.P.Plant.state c.args.plant.now in
    let mid = g.P.Plant.state c.put.new.plant in
    subst (λ (l : List ℕ). IsNext (chosen_mark l (mid.bytes Control)) c.args.value.now.number) (sym (same_lengths old mid c.put.ensures.only.site))
    (subst (λ (l : List ℕ). IsNext (chosen_mark (lengths_of old) l) c.args.value.now.number) (sym (c.put.ensures.only.others told Control (λ same. cc same)).bytes) (c.requires.next told))

pub mark-requires-clause-durable : goal.mark-requires-clause-durable
mark-requires-clause-durable g c κs within told =
    durable_still g.P.Plant.tells told _ _ _ Control c.put.ensures.only (λ same. cc same) (c.requires.durable told)

pub returns-in_default-mark-clause-moments : goal.returns-in_default-mark-clause-moments
returns-in_default-mark-clause-moments g c told =
    let mid = g.P.Plant.state c.put.new.plant in
    puts_both g.P.Plant.tells told _ mid c.args.value.now (record { level = c.args.level; rows = c.args.table.now.rows }) (state_length c.args.table.now.rows) c.put.ensures.only (c.put.ensures.moments told)
    _ (free_place (lengths_of mid) (mid.bytes Control)) (ap (λ (l : List ℕ). state_of mid.volumes l c.args.value.now.state_slot (mid.bytes State)) c.requires.session ∙ c.in-Ok.ensures.holds told) (c.in-Ok.ensures.durable told) c.mark.ensures.only (c.mark.ensures.moments told)

pub returns-in_default-mark-clause-only : goal.returns-in_default-mark-clause-only
returns-in_default-mark-clause-only g c =
    works_on_trans g.P.Plant.tells _ _ _ _ (works_on_more g.P.Plant.tells _ _ _ _ state_marked c.put.ensures.only) (works_on_more g.P.Plant.tells _ _ _ _ control_marked c.mark.ensures.only)

pub returns-clause-moments : goal.returns-clause-moments
returns-clause-moments g c told =
    let mid = g.P.Plant.state c.put.new.plant in
    puts_both g.P.Plant.tells told _ mid c.args.value.now (record { level = c.args.level; rows = c.args.table.now.rows }) (state_length c.args.table.now.rows) c.put.ensures.only (c.put.ensures.moments told)
    _ (free_place (lengths_of mid) (mid.bytes Control)) (ap (λ (l : List ℕ). state_of mid.volumes l c.args.value.now.state_slot (mid.bytes State)) c.requires.session ∙ c.in-Ok.ensures.holds told) (c.in-Ok.ensures.durable told) c.mark.ensures.only (c.mark.ensures.moments told)

pub returns-clause-put : goal.returns-clause-put
returns-clause-put g c told =
    let mid = g.P.Plant.state c.put.new.plant in
    let new = g.P.Plant.state c.mark.new.plant in
    let slot = c.args.value.now.state_slot in
    let lens = same_lengths mid new c.mark.ensures.only.site in
    record {
      chosen = ap (λ (l : List ℕ). chosen_mark l (new.bytes Control)) lens ∙ c.in-Ok-mark.ensures.chosen told;
      holds =
          ap (λ (k : ℕ). state_of k c.args.value.now.session slot (new.bytes State)) c.mark.ensures.only.site.volumes
          ∙ ap (λ (l : List ℕ). state_of mid.volumes c.args.value.now.session slot l) (c.mark.ensures.only.others told State (λ same. cc same)).bytes
          ∙ ap (λ (l : List ℕ). state_of mid.volumes l slot (mid.bytes State)) c.requires.session ∙ c.in-Ok.ensures.holds told;
      control = c.in-Ok-mark.ensures.durable told;
      state = durable_still g.P.Plant.tells told _ _ _ State c.mark.ensures.only (λ same. cc same) (c.in-Ok.ensures.durable told);
    }

pub returns-clause-only : goal.returns-clause-only
returns-clause-only g c =
    works_on_trans g.P.Plant.tells _ _ _ _ (works_on_more g.P.Plant.tells _ _ _ _ state_marked c.put.ensures.only) (works_on_more g.P.Plant.tells _ _ _ _ control_marked c.mark.ensures.only)

pub returns-clause-second : goal.returns-clause-second
returns-clause-second g c told gates =
    let old = g.P.Plant.state c.args.plant.now in
    let mid = g.P.Plant.state c.put.new.plant in
    let new = g.P.Plant.state c.mark.new.plant in
    let size = g.met.P.Plant.length_told c.args.plant.now Control told tt in
    let size_then = g.met.P.Plant.length_told c.mark.new.plant Control told tt in
    second_stays (lengths_of mid) c.args.value.now (old.bytes Control) (mid.bytes Control) (new.bytes Control) (omega (arith, size, c.requires.control))
    (omega (arith, size_then, c.mark.ensures.only.site.lengths Control, c.put.ensures.only.site.lengths Control, c.requires.control))
    gates (c.put.ensures.only.others told Control (λ same. cc same)).bytes (λ none. ap (λ s. chosen_of s (slot_of (lengths_of mid) [])) (c.in-Ok-mark.ensures.first told none)) (c.in-Ok-mark.ensures.written told)
