use Rattle.std.proofs.Common.{rules, ◌≡◌, ◌^◌, ◌<◌, cond, List, map, Err, sym, ap, subst, ◌∙◌, arith}
use Rattle.crash_plant.specs.Choices.{IsChoice}
use Rattle.control_set.specs.declared.value.Mark.{Mark}
use Rattle.pair_table.specs.Tables.{with_rows}
use Rattle.pair_table.specs.declared.row.PairRow.{PairRow}
use Rattle.record_rows.specs.Records.{rows_with_hits}
use Rattle.xrc_journal.specs.declared.job.VolumeJob.{VolumeJob}
use Rattle.site_store.specs.Jobs.{has_job_failed}
use Rattle.site_store.specs.Marking.{AllPutMark, MayWriteMark, rows_at_mark}
use Rattle.site_store.specs.Sites.{SiteState, next_mark}
use Rattle.site_store.specs.Standing.{Leaves, none_excepted}
use Rattle.site_store.proofs.MarkFits.{reads_choice}
use Rattle.site_store.proofs.MarkMade.{if_err, leaves, makes, may_write, put_as, puts_as}
use Rattle.site_store.proofs.MarkRows.{hits_have, kept_good}
use Rattle.site_store.proofs.NextMark.{marked_view, next_have, next_session, next_started, told_rows, told_session}
use Rattle.site_store.proofs.site.Site.put_next_mark.Given as given
use Rattle.site_store.proofs.site.Site.put_next_mark.Goals as goal
use Rattle.site_store.proofs.site.Site.put_next_mark.Goals.{After-put_told_rows}

pub put_told_rows-requires-clause-may : goal.put_told_rows-requires-clause-may
put_told_rows-requires-clause-may g c κs within =
    let site = c.args.self.now in
    let old = g.P.Plant.state c.args.plant.now in
    let s = c.self.inside in
    let read : g.P.Plant.tells → IsChoice old old.clock old.bytes = λ told. reads_choice old c.requires.may.fast.fits.home (λ d there. g.met.P.Plant.read_is_image c.args.plant.now d told there) in
    subst (λ (m : Mark). MayWriteMark g.P.Plant.tells m (cond s.ahead s.told s.table) old) (sym c.next_mark-mark.ensures)
    (may_write g.P.Plant.tells site c.args.ended old c.requires.may read (cond s.ahead s.told s.table) (told_rows s.ahead s.told s.table ∙ ap (λ (x : SiteState). x.told) c.self.view_is)
    (told_session s.ahead s.told s.table c.self.invariant.told_is ∙ ap (λ (x : SiteState). x.table.session) c.self.view_is))

-- ---- what is put

-- the mark's rows, and the table that is kept
abbrev rows : (g : given.Over) (c : After-put_told_rows g) → List PairRow
rows g c = rows_at_mark c.args.reach c.args.self.now c.args.self.now.failed

failed : (g : given.Over) (c : After-put_told_rows g) → map has_job_failed c.deref.result.now ≡ c.args.self.now.failed
failed g c = ap (λ (l : List (VolumeJob _)). map has_job_failed l) c.deref.ensures.value ∙ ap (λ (s : SiteState). s.failed) c.self.view_is

rows_are : (g : given.Over) (c : After-put_told_rows g) → cond c.self.inside.ahead c.put_told_rows.new.told.rows c.put_told_rows.new.table.rows ≡ rows g c
rows_are g c = c.put_told_rows.ensures.rows ∙ (λ i. rows_with_hits c.args.reach (c.next_mark-mark.ensures i).time.0 (failed g c i) (c.self.view_is i).told)

level : (g : given.Over) (c : After-put_told_rows g) → c.self.inside.level ≡ c.args.self.now.level
level g c = ap (λ (s : SiteState). s.level) c.self.view_is

read : (g : given.Over) (c : After-put_told_rows g) → g.P.Plant.tells → IsChoice (g.P.Plant.state c.args.plant.now) (g.P.Plant.state c.args.plant.now).clock (g.P.Plant.state c.args.plant.now).bytes
read g c told = reads_choice (g.P.Plant.state c.args.plant.now) c.requires.may.fast.fits.home (λ d there. g.met.P.Plant.read_is_image c.args.plant.now d told there)

low : (g : given.Over) (c : After-put_told_rows g) → c.args.self.now.at.number < 2 ^ 64
low g c = let here : c.self.inside.journal.at.number < 2 ^ 64 = omega arith in subst (λ (s : SiteState). s.at.number < 2 ^ 64) c.self.view_is here

puts : (g : given.Over) (c : After-put_told_rows g) → g.P.Plant.tells
    → AllPutMark (next_mark c.args.self.now c.args.ended) (record { level = c.args.self.now.level; rows = rows g c }) (g.P.Plant.state c.args.plant.now) (g.P.Plant.state c.put_told_rows.new.plant)
puts g c told =
    puts_as c.next_mark-mark.result (next_mark c.args.self.now c.args.ended) c.self.inside.level c.args.self.now.level _ (rows g c) (g.P.Plant.state c.args.plant.now) (g.P.Plant.state c.put_told_rows.new.plant) c.next_mark-mark.ensures (level g c) (rows_are g c)
    (c.put_told_rows.ensures.moments told)

-- ---- it fails

pub returns-in_err-put_told_rows-clause-makes : goal.returns-in_err-put_told_rows-clause-makes
returns-in_err-put_told_rows-clause-makes g c =
    let f = (goal.at.returns-in_err-put_told_rows-clause-makes g c).After-put_told_rows in
    let site = c.args.self.now in
    let old = g.P.Plant.state c.args.plant.now in
    let is : c.from_residual.result ≡ Err c.in_err-put_told_rows.field-0.0 = search rules in
    makes g.P.Plant.tells site c.args.ended old c.requires.may (read g f) (rows g f) (g.P.Plant.state c.put_told_rows.new.plant) (low g f) (kept_good c.args.reach site.time site.failed site.told) c.put_told_rows.ensures.only (puts g f)
    _ c.from_residual.result (ap (λ (s : SiteState). s.failed) c.self.view_is) (λ told. if_err _ c.from_residual.result c.in_err-put_told_rows.field-0.0 is)

-- ---- it is made

pub returns-clause-ok : goal.returns-clause-ok
returns-clause-ok g c =
    let f = (goal.at.returns-clause-ok g c).After-put_told_rows in
    c.take_mark.ensures ∙ marked_view _ c.args.self.now c.args.ended _ _ (rows g f) _ c.self.view_is c.put_told_rows.ensures.table (rows_are g f) c.next_mark-mark.ensures

pub returns-clause-failed : goal.returns-clause-failed
returns-clause-failed g c =
    let f = (goal.at.returns-clause-failed g c).After-put_told_rows in
    ap (λ (s : SiteState). s.failed) (c.take_mark.ensures ∙ marked_view _ c.args.self.now c.args.ended _ _ (rows g f) _ c.self.view_is c.put_told_rows.ensures.table (rows_are g f) c.next_mark-mark.ensures)

pub returns-clause-leaves : goal.returns-clause-leaves
returns-clause-leaves g c =
    let f = (goal.at.returns-clause-leaves g c).After-put_told_rows in
    let site = c.args.self.now in
    let old = g.P.Plant.state c.args.plant.now in
    let new = g.P.Plant.state c.put_told_rows.new.plant in
    let fits = c.requires.may.fast.fits in
    let have = hits_have old c.args.reach site.time site.failed site.told fits.told in
    subst (λ (s : SiteState). Leaves g.P.Plant.tells (λ e. none_excepted) site s old new) (sym (c.take_mark.ensures ∙ marked_view _ c.args.self.now c.args.ended _ _ (rows g f) _ c.self.view_is c.put_told_rows.ensures.table (rows_are g f) c.next_mark-mark.ensures))
    (leaves g.P.Plant.tells site c.args.ended old c.requires.may (read g f) (rows g f) new (low g f) (kept_good c.args.reach site.time site.failed site.told) c.put_told_rows.ensures.only (puts g f)
    site.is_ahead (cond site.is_ahead site.table (with_rows site.table (rows g f))) (next_session site.table (rows g f) site.is_ahead) (next_started site.table (rows g f) site.is_ahead fits.started) (next_have site.table (rows g f) old site.is_ahead fits.rows have) have
    (λ told. put_as c.next_mark-mark.result (next_mark c.args.self.now c.args.ended) c.self.inside.level c.args.self.now.level _ (rows g f) (g.P.Plant.state c.put_told_rows.new.plant) c.next_mark-mark.ensures (level g f) (rows_are g f) (c.in_ok-put_told_rows.ensures.put told)))

pub returns-clause-makes : goal.returns-clause-makes
returns-clause-makes g c =
    let f = (goal.at.returns-clause-makes g c).After-put_told_rows in
    let site = c.args.self.now in
    makes g.P.Plant.tells site c.args.ended (g.P.Plant.state c.args.plant.now) c.requires.may (read g f) (rows g f) (g.P.Plant.state c.put_told_rows.new.plant) (low g f) (kept_good c.args.reach site.time site.failed site.told) c.put_told_rows.ensures.only (puts g f)
    _ _ (ap (λ (s : SiteState). s.failed) (c.take_mark.ensures ∙ marked_view _ c.args.self.now c.args.ended _ _ (rows g f) _ c.self.view_is c.put_told_rows.ensures.table (rows_are g f) c.next_mark-mark.ensures))
    (λ told. put_as c.next_mark-mark.result (next_mark c.args.self.now c.args.ended) c.self.inside.level c.args.self.now.level _ (rows g f) (g.P.Plant.state c.put_told_rows.new.plant) c.next_mark-mark.ensures (level g f) (rows_are g f) (c.in_ok-put_told_rows.ensures.put told))
