-- Each event is of one of the kinds after which the floors stand.
use Rattle.std.proofs.Common.{false, true, refl, ap}
use Rattle.cut_core.specs.Events.Event.{Join, Copied, Break, Raise, Drop}
use Rattle.cut_core.proofs.Legality.{joins, told}
use Rattle.cut_core.proofs.Stands.{stands_told, stands_quiet, stands_formed, join_reports, raise_reports, break_reports}
use Rattle.cut_core.proofs.floors.Floors.step.Goals as goal

pub returns-in-Join-clause-stands : goal.returns-in-Join-clause-stands
returns-in-Join-clause-stands c past s legal =
    let b = c.in-Join.batch in
    let next = rw c.in-Join.is at legal in
    let says = (joins c.args.self.now.controls past b next).tells in
    rw c.in-Join.is (stands_told c.args.self.now c.tell.new.self past (Join b) b.control b.upto.0 false (join_reports b) s next says c.tell.ensures.controls c.tell.ensures.last c.tell.ensures.told)

pub returns-in-Raise-clause-stands : goal.returns-in-Raise-clause-stands
returns-in-Raise-clause-stands c past s legal =
    let j = c.in-Raise.control in
    let u = c.in-Raise.upto.0 in
    let next = rw c.in-Raise.is at legal in
    let says = told c.args.self.now.controls j u past next in
    rw c.in-Raise.is (stands_told c.args.self.now c.tell-in-Raise.new.self past (Raise j u) j u false (raise_reports j u) s next says c.tell-in-Raise.ensures.controls c.tell-in-Raise.ensures.last c.tell-in-Raise.ensures.told)

pub returns-in-Break-clause-stands : goal.returns-in-Break-clause-stands
returns-in-Break-clause-stands c past s legal =
    let j = c.in-Break.control in
    let u = c.in-Break.upto.0 in
    let next = rw c.in-Break.is at legal in
    let says = told c.args.self.now.controls j u past next in
    rw c.in-Break.is (stands_told c.args.self.now c.tell-in-Break.new.self past (Break j u) j u true (break_reports j u) s next says c.tell-in-Break.ensures.controls c.tell-in-Break.ensures.last c.tell-in-Break.ensures.told)

pub returns-in-Form-clause-stands : goal.returns-in-Form-clause-stands
returns-in-Form-clause-stands c past s legal =
    let next = rw c.in-Form.is at legal in
    rw c.in-Form.is (stands_formed c.args.self.now c.form.new.self past c.in-Form.cut.0 s next c.form.ensures.controls (ap (λ x. x.0) c.form.ensures.last) c.form.ensures.told)

pub returns-in-Copied-clause-stands : goal.returns-in-Copied-clause-stands
returns-in-Copied-clause-stands c past s legal =
    let x = Copied c.in-Copied.control c.in-Copied.volume c.in-Copied.track c.in-Copied.stamp.0 in
    rw c.in-Copied.is (stands_quiet c.args.self.now past x s (rw c.in-Copied.is at legal) (λ t. refl) (λ c. refl) (λ k. refl) (λ k. refl))

pub returns-in-Drop-clause-stands : goal.returns-in-Drop-clause-stands
returns-in-Drop-clause-stands c past s legal =
    let x = Drop c.in-Drop.control c.in-Drop.volume false in
    rw c.in-Drop.is (stands_quiet c.args.self.now past x s (rw c.in-Drop.is at legal) (λ t. refl) (λ c. refl) (λ k. refl) (λ k. refl))
