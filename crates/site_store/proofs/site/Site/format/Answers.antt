use Rattle.std.proofs.Common.{◌≡◌, ◌∙◌, inl, ℕ, List, Err, Ok, refl, ap, sym, subst, arith, slice_index}
use Rattle.std.proofs.lemmas.Result.{err_from_is_err_and}
use Rattle.crash_plant.specs.declared.device.Device.TheVariants.{Control, Journal}
use Rattle.crash_plant.proofs.Choices.{choices_here}
use Rattle.crash_plant.proofs.Steps.{none_lent_then, works_on_here, works_on_more, works_on_trans}
use Rattle.control_set.specs.declared.value.Mark.{Mark}
use Rattle.control_set.specs.Marks.{IsMark}
use Rattle.control_set.specs.Slots.{IsNext, chosen_mark, lengths_of}
use Rattle.pair_table.specs.Tables.{are_below}
use Rattle.site_store.specs.Formats.{IsFormatted, ShutsOrMeans, started_means}
use Rattle.site_store.specs.Marking.{IsMarked}
use Rattle.site_store.specs.Sites.{SiteState, new_site}
use Rattle.site_store.specs.Standing.{FitsPlant, SiteStands, none_excepted}
use Rattle.site_store.proofs.Calls.{durable_still}
use Rattle.site_store.proofs.Fresh.{first_fits, first_here, first_is_mark, first_is_next, first_means, first_stands, lengths_stay, mark_is_put, marked_formatted, put_cause, puts_first, shut_alone, shut_cause, shut_or_means, whole_cause}
use Rattle.site_store.proofs.site.Site.format.Goals as goal

-- ---- what the mark requires

pub put_mark-requires-clause-keeps : goal.put_mark-requires-clause-keeps
put_mark-requires-clause-keeps g c κs within =
    let mid = g.P.Plant.state c.shut_all.new.plant in
    subst (λ (m : Mark). IsMark (lengths_of mid) m) (sym (ap (λ (s : SiteState). s.mark) (c.site.view_is ∙ c.in_ok-site.ensures)))
    (first_is_mark mid c.args.controls c.args.session c.args.level c.args.at (lengths_stay c.args.controls _ mid c.shut_all.ensures.only.site c.requires.lengths) c.requires.time)

pub put_mark-requires-clause-next : goal.put_mark-requires-clause-next
put_mark-requires-clause-next g c κs within told =
    let mid = g.P.Plant.state c.shut_all.new.plant in
    subst (λ (m : Mark). IsNext (chosen_mark (lengths_of mid) (mid.bytes Control)) m.number) (sym (ap (λ (s : SiteState). s.mark) (c.site.view_is ∙ c.in_ok-site.ensures)))
    (first_is_next (lengths_of mid) (mid.bytes Control) (c.in_ok-shut_all.ensures.shut told).gates)

pub put_mark-requires-clause-durable : goal.put_mark-requires-clause-durable
put_mark-requires-clause-durable g c κs within told = (c.in_ok-shut_all.ensures.shut told).control

pub put_mark-requires-clause-devices : goal.put_mark-requires-clause-devices
put_mark-requires-clause-devices g c κs within =
    ap (λ (s : SiteState). are_below (g.P.Plant.state c.shut_all.new.plant).volumes s.table.rows) (c.site.view_is ∙ c.in_ok-site.ensures)

pub put_mark-requires-clause-session : goal.put_mark-requires-clause-session
put_mark-requires-clause-session g c κs within =
    let is = c.site.view_is ∙ c.in_ok-site.ensures in
    ap (λ (s : SiteState). s.mark.session) is ∙ sym (ap (λ (s : SiteState). s.table.session) is)

-- ---- no memory

pub returns-in_err-site-clause-heard_said : goal.returns-in_err-site-clause-heard_said
returns-in_err-site-clause-heard_said g c told = (works_on_here g.P.Plant.tells IsFormatted (g.P.Plant.state c.args.plant.now)).silent told

pub returns-in_err-site-clause-moments : goal.returns-in_err-site-clause-moments
returns-in_err-site-clause-moments g c told durable =
    let old = g.P.Plant.state c.args.plant.now in
    choices_here old (ShutsOrMeans old (started_means c.args.session c.args.level c.args.at)) (λ b is. inl (first_here (lengths_of old) b))

-- ---- the gates weren't shut

pub returns-in_err-shut_all-clause-others : goal.returns-in_err-shut_all-clause-others
returns-in_err-shut_all-clause-others g c = c.shut_all.ensures.only

pub returns-in_err-shut_all-clause-heard_said : goal.returns-in_err-shut_all-clause-heard_said
returns-in_err-shut_all-clause-heard_said g c told = c.shut_all.ensures.only.silent told

pub returns-in_err-shut_all-clause-moments : goal.returns-in_err-shut_all-clause-moments
returns-in_err-shut_all-clause-moments g c told durable =
    let old = g.P.Plant.state c.args.plant.now in
    shut_alone g.P.Plant.tells told c.args.session c.args.level c.args.at old (g.P.Plant.state c.shut_all.new.plant) c.shut_all.ensures.only (c.shut_all.ensures.moments told durable)

pub returns-in_err-shut_all-clause-cause : goal.returns-in_err-shut_all-clause-cause
returns-in_err-shut_all-clause-cause g c =
    let p = err_from_is_err_and c.from_residual-in_err-shut_all.result c.from_residual-in_err-shut_all.ensures.1 in
    shut_cause (g.P.Plant.state c.args.plant.now) (g.P.Plant.state c.shut_all.new.plant) (Err c.in_err-shut_all.field-0.0) c.from_residual-in_err-shut_all.result c.in_err-shut_all.field-0.0 refl (p.1 ∙ ap Err p.2) c.in_err-shut_all.ensures.cause

-- ---- the mark wasn't put

pub returns-in_err-put_mark-clause-others : goal.returns-in_err-put_mark-clause-others
returns-in_err-put_mark-clause-others g c =
    works_on_trans g.P.Plant.tells IsFormatted _ _ _ c.shut_all.ensures.only (works_on_more g.P.Plant.tells IsMarked IsFormatted _ _ marked_formatted c.put_mark.ensures.only)

pub returns-in_err-put_mark-clause-heard_said : goal.returns-in_err-put_mark-clause-heard_said
returns-in_err-put_mark-clause-heard_said g c told = (returns-in_err-put_mark-clause-others g c).silent told

pub returns-in_err-put_mark-clause-cause : goal.returns-in_err-put_mark-clause-cause
returns-in_err-put_mark-clause-cause g c =
    let p = err_from_is_err_and c.from_residual-in_err-put_mark.result c.from_residual-in_err-put_mark.ensures.1 in
    put_cause g.P.Plant.tells (g.P.Plant.state c.args.plant.now) (g.P.Plant.state c.shut_all.new.plant) (g.P.Plant.state c.put_mark.new.plant) (λ d. c.in_ok-shut_all.ensures.cause.others d (λ no. cc no)) c.put_mark.ensures.only
    (Err c.in_err-put_mark.field-0.0) c.in_err-put_mark.ensures.cause c.from_residual-in_err-put_mark.result c.in_err-put_mark.field-0.0 refl (p.1 ∙ ap Err p.2) c.in_err-put_mark.ensures.marked c.in_err-put_mark.ensures.unspent

pub returns-in_err-put_mark-clause-moments : goal.returns-in_err-put_mark-clause-moments
returns-in_err-put_mark-clause-moments g c told durable =
    let old = g.P.Plant.state c.args.plant.now in
    let mid = g.P.Plant.state c.shut_all.new.plant in
    let new = g.P.Plant.state c.put_mark.new.plant in
    let view = c.site.view_is ∙ c.in_ok-site.ensures in
    shut_or_means g.P.Plant.tells told c.args.session c.args.level c.args.at old mid c.shut_all.ensures.only (c.shut_all.ensures.moments told durable) new (c.in_ok-shut_all.ensures.shut told) c.requires.lengths.journals.0 c.put_mark.ensures.only
    (puts_first c.args.session c.args.level c.args.at c.site.inside.mark c.site.inside.table.rows mid new (ap (λ (s : SiteState). s.mark) view) (ap (λ (s : SiteState). s.table.rows) view) (c.put_mark.ensures.moments told))

-- ---- all was

pub returns-clause-ok : goal.returns-clause-ok
returns-clause-ok g c =
    c.in_ok-site.ensures ∙ ap (λ (v : ℕ). new_site c.args.controls v c.args.session c.args.level c.args.at) c.volumes.ensures

pub returns-clause-others : goal.returns-clause-others
returns-clause-others g c =
    works_on_trans g.P.Plant.tells IsFormatted _ _ _ c.shut_all.ensures.only (works_on_more g.P.Plant.tells IsMarked IsFormatted _ _ marked_formatted c.put_mark.ensures.only)

pub returns-clause-heard_said : goal.returns-clause-heard_said
returns-clause-heard_said g c told = (returns-clause-others g c).silent told

pub returns-clause-cause : goal.returns-clause-cause
returns-clause-cause g c =
    whole_cause g.P.Plant.tells (g.P.Plant.state c.args.plant.now) (g.P.Plant.state c.shut_all.new.plant) (g.P.Plant.state c.put_mark.new.plant) (λ d. c.in_ok-shut_all.ensures.cause.others d (λ no. cc no)) c.put_mark.ensures.only
    (Ok c.in_ok-put_mark.field-0) c.in_ok-put_mark.ensures.cause _ c.in_ok-site.site c.in_ok-put_mark.field-0 refl refl

pub returns-clause-fits : goal.returns-clause-fits
returns-clause-fits g c =
    let new = g.P.Plant.state c.put_mark.new.plant in
    let works = returns-clause-others g c in
    let is = returns-clause-ok g c ∙ ap (λ (v : ℕ). new_site c.args.controls v c.args.session c.args.level c.args.at) (sym works.site.volumes) in
    subst (λ (s : SiteState). FitsPlant s new) (sym is)
    (first_fits new c.args.controls c.args.session c.args.level c.args.at (none_lent_then g.P.Plant.tells IsFormatted _ _ works c.requires.home) c.requires.controls (lengths_stay c.args.controls _ new works.site c.requires.lengths) c.requires.time)

pub returns-clause-means : goal.returns-clause-means
returns-clause-means g c told =
    let mid = g.P.Plant.state c.shut_all.new.plant in
    let new = g.P.Plant.state c.put_mark.new.plant in
    let puts = c.put_mark.ensures.only in
    let shut = c.in_ok-shut_all.ensures.shut told in
    let view = c.site.view_is ∙ c.in_ok-site.ensures in
    first_means new c.args.controls c.args.session c.args.level c.args.at
    (mark_is_put new c.args.session c.args.level c.args.at c.site.inside.mark c.site.inside.table.rows (ap (λ (s : SiteState). s.mark) view) (ap (λ (s : SiteState). s.table.rows) view) (c.in_ok-put_mark.ensures.put told))
    (subst (λ (l : List ℕ). slice_index l 0 ≡ 1 → ⊥) (sym (puts.others told (Journal 0) (λ no. no)).bytes) shut.first) (durable_still g.P.Plant.tells told IsMarked mid new (Journal 0) puts (λ no. no) shut.journal)
    (omega (arith, c.requires.lengths.journals.0, puts.site.journals, c.shut_all.ensures.only.site.journals))

pub returns-clause-stands : goal.returns-clause-stands
returns-clause-stands g c told =
    let mid = g.P.Plant.state c.shut_all.new.plant in
    let new = g.P.Plant.state c.put_mark.new.plant in
    let puts = c.put_mark.ensures.only in
    let shut = c.in_ok-shut_all.ensures.shut told in
    let view = c.site.view_is ∙ c.in_ok-site.ensures in
    let works = returns-clause-others g c in
    let is = returns-clause-ok g c ∙ ap (λ (v : ℕ). new_site c.args.controls v c.args.session c.args.level c.args.at) (sym works.site.volumes) in
    subst (λ (s : SiteState). SiteStands none_excepted s new) (sym is)
    (first_stands new c.args.controls c.args.session c.args.level c.args.at
    (mark_is_put new c.args.session c.args.level c.args.at c.site.inside.mark c.site.inside.table.rows (ap (λ (s : SiteState). s.mark) view) (ap (λ (s : SiteState). s.table.rows) view) (c.in_ok-put_mark.ensures.put told))
    (subst (λ (l : List ℕ). slice_index l 0 ≡ 1 → ⊥) (sym (puts.others told (Journal 0) (λ no. no)).bytes) shut.first) (durable_still g.P.Plant.tells told IsMarked mid new (Journal 0) puts (λ no. no) shut.journal)
    (omega (arith, c.requires.lengths.journals.0, puts.site.journals, c.shut_all.ensures.only.site.journals)))

pub returns-clause-moments : goal.returns-clause-moments
returns-clause-moments g c told durable =
    let old = g.P.Plant.state c.args.plant.now in
    let mid = g.P.Plant.state c.shut_all.new.plant in
    let new = g.P.Plant.state c.put_mark.new.plant in
    let view = c.site.view_is ∙ c.in_ok-site.ensures in
    shut_or_means g.P.Plant.tells told c.args.session c.args.level c.args.at old mid c.shut_all.ensures.only (c.shut_all.ensures.moments told durable) new (c.in_ok-shut_all.ensures.shut told) c.requires.lengths.journals.0 c.put_mark.ensures.only
    (puts_first c.args.session c.args.level c.args.at c.site.inside.mark c.site.inside.table.rows mid new (ap (λ (s : SiteState). s.mark) view) (ap (λ (s : SiteState). s.table.rows) view) (c.put_mark.ensures.moments told))

pub returns-clause-zeroed : goal.returns-clause-zeroed
returns-clause-zeroed g c told = record {
  second = λ on. c.in_ok-put_mark.ensures.second told (c.in_ok-shut_all.ensures.shut told).gates ∙ (c.in_ok-shut_all.ensures.zeroed told).second on;
  first_record = ap (λ (l : List ℕ). slice_index l 0) (c.put_mark.ensures.only.others told (Journal 0) (λ no. no)).bytes ∙ c.in_ok-shut_all.ensures.first told;
}
