use Rattle.std.proofs.Common.{◌≡◌, ◌+◌, ◌++◌, ◌∷◌, [], ℕ, List, length, ◌∙◌, ap, subst, sym, arith, append_assoc, length-append}
use Rattle.std.proofs.lemmas.Result.{on_ok_weaker}
use Rattle.crash_plant.specs.declared.device.Device.TheVariants.{Journal as JournalDevice}
use Rattle.crash_plant.specs.Bytes.{patched, Torn}
use Rattle.crash_plant.specs.Moments.{on, Follows}
use Rattle.crash_plant.proofs.Steps.{works_on_trans}
use Rattle.crash_plant.proofs.BehindGates.{torn_here, written as written_after}
use Rattle.xrc_journal.specs.Items.{body_spelling}
use Rattle.xrc_journal.specs.Records.{record_header_spelling}
use Rattle.xrc_journal.specs.Walks.{Logged}
use Rattle.xrc_journal.specs.Appending.{room_for}
use Rattle.xrc_journal.proofs.Appends.{after_length, behind_gate}
use Rattle.xrc_journal.proofs.Puts.{follows_opened, follows_staged}
use Rattle.xrc_journal.proofs.journal.put_group.Goals as goal

pub returns-in_err-put_both-clause-moments : goal.returns-in_err-put_both-clause-moments
returns-in_err-put_both-clause-moments g c told =
    let old = g.P.Plant.state c.args.plant.now in
    let mid = g.P.Plant.state c.put_both.new.plant in
    let at = c.args.at in
    let device = JournalDevice at.set in
    let items = c.args.body.now.items in
    let group : Logged = record { time = c.args.cut.0; items = items } in
    let front : c.header-header.result ≡ record_header_spelling 1 at.number c.args.cut.0 (length (body_spelling items)) = c.header-header.ensures.spelled ∙ ap (λ (l : List ℕ). record_header_spelling 1 at.number c.args.cut.0 (length l)) c.bytes.ensures.spelled in
    let size : length c.header-header.result + length c.shut_bytes.result.now ≡ length (behind_gate at group) = omega (arith, ap length front, ap length c.shut_bytes.ensures, length-append (body_spelling items) (0 ∷ []), after_length at group) in
    follows_staged (old.lengths device) (room_for items) at.place (behind_gate at group) (on old device) (on mid device) (c.requires.shut told) (subst (λ (n : ℕ). Follows (Torn (at.place + 1) n) (on old device) (on mid device)) size (c.put_both.ensures.moments told))

pub returns-clause-moments : goal.returns-clause-moments
returns-clause-moments g c told =
    let old = g.P.Plant.state c.args.plant.now in
    let mid = g.P.Plant.state c.put_both.new.plant in
    let new = g.P.Plant.state c.put_down.new.plant in
    let at = c.args.at in
    let device = JournalDevice at.set in
    let items = c.args.body.now.items in
    let group : Logged = record { time = c.args.cut.0; items = items } in
    let head = record_header_spelling 1 at.number c.args.cut.0 (length (body_spelling items)) in
    let front : c.header-header.result ≡ head = c.header-header.ensures.spelled ∙ ap (λ (l : List ℕ). record_header_spelling 1 at.number c.args.cut.0 (length l)) c.bytes.ensures.spelled in
    let size : length c.header-header.result + length c.shut_bytes.result.now ≡ length (behind_gate at group) = omega (arith, ap length front, ap length c.shut_bytes.ensures, length-append (body_spelling items) (0 ∷ []), after_length at group) in
    let put = c.in_ok-put_both.ensures.written told ∙ (λ i. patched (at.place + 1) (front i ++ c.shut_bytes.ensures i) (old.bytes device)) ∙ ap (λ (l : List ℕ). patched (at.place + 1) l (old.bytes device)) (sym (append_assoc head (body_spelling items) (0 ∷ []))) in
    let long = g.met.P.Plant.length_told c.args.plant.now device told c.requires.there in
    follows_opened (old.lengths device) (room_for items) at.place (behind_gate at group) (old.bytes device) (mid.bytes device) long (omega (arith, c.requires.room, after_length at group)) c.requires.room put
    (on old device) (on mid device) (on new device) (c.requires.shut told) ((c.put_both.ensures.only.elapses told).kept device) (subst (λ (n : ℕ). Follows (Torn (at.place + 1) n) (on old device) (on mid device)) size (c.put_both.ensures.moments told))
    (c.in_ok-put_both.ensures.durable told) ((c.put_down.ensures.only.elapses told).kept device) (c.put_down.ensures.moments told)

pub returns-clause-only : goal.returns-clause-only
returns-clause-only g c = works_on_trans g.P.Plant.tells _ _ _ _ c.put_both.ensures.only c.put_down.ensures.only

pub returns-clause-written : goal.returns-clause-written
returns-clause-written g c told =
    let old = g.P.Plant.state c.args.plant.now in
    let mid = g.P.Plant.state c.put_both.new.plant in
    let device = JournalDevice c.args.at.set in
    let p = c.args.at.place in
    let items = c.args.body.now.items in
    let head = record_header_spelling 1 c.args.at.number c.args.cut.0 (length (body_spelling items)) in
    let behind = (head ++ body_spelling items) ++ 0 ∷ [] in
    let size = g.met.P.Plant.length_told c.args.plant.now device told c.requires.there in
    let front : c.header-header.result ≡ head = c.header-header.ensures.spelled ∙ ap (λ (l : List ℕ). record_header_spelling 1 c.args.at.number c.args.cut.0 (length l)) c.bytes.ensures.spelled in
    let put = c.in_ok-put_both.ensures.written told ∙ (λ i. patched (p + 1) (front i ++ c.shut_bytes.ensures i) (old.bytes device)) ∙ ap (λ (l : List ℕ). patched (p + 1) l (old.bytes device)) (sym (append_assoc head (body_spelling items) (0 ∷ []))) in
    on_ok_weaker c.put_down.result (λ e. written_after p behind (old.bytes device) (old.bytes device) (mid.bytes device) (omega (arith, size, c.requires.room, length-append (head ++ body_spelling items) (0 ∷ []), length-append head (body_spelling items))) (torn_here p 1 (old.bytes device)) put _ e) (c.put_down.ensures.written told)
