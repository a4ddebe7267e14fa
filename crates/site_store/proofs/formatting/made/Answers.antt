use Rattle.std.proofs.Common.{rules, ◌≡◌, ◌∙◌, ℕ, false, [], length, replicate, ap, sym, arith}
use Rattle.std.proofs.lemmas.List.{length-map, length-replicate}
use Rattle.control_set.specs.declared.value.Mark.{Mark}
use Rattle.pair_table.specs.Tables.{Table}
use Rattle.xrc_journal.specs.Bodies.{BodyState}
use Rattle.site_store.specs.Jobs.{has_job_failed}
use Rattle.site_store.specs.Sites.{first_spot}
use Rattle.site_store.proofs.formatting.made.Goals as goal

pub invariant_of-result : goal.invariant_of-result
invariant_of-result g c =
    let count : c.from.result ≡ c.args.volumes = omega (arith, c.from.ensures) in
    let due : c.in_ok-vec.field-0.items ≡ replicate c.args.volumes false = c.in_ok-vec.ensures.items_if_clones_equal (search rules) ∙ ap (λ (n : ℕ). replicate n false) count in
    record {
      room_is = ap (λ (h : BodyState). h.room) c.in_ok-make.ensures ∙ omega (arith, c.journal_length-room.ensures);
      marked_is = sym (ap (λ (m : Mark). m.at) c.first_mark.ensures);
      told_is = ap (λ (t : Table). t.session) c.in_ok-started-2.ensures ∙ sym (ap (λ (t : Table). t.session) c.in_ok-started.ensures);
      home = c.in_ok-jobs.ensures.home;
      flags = ap length due ∙ length-replicate c.args.volumes false ∙ sym (length-replicate c.args.volumes false) ∙ sym (ap length c.in_ok-jobs.ensures.good) ∙ length-map c.in_ok-jobs.field-0.items has_job_failed;
      due_is = λ waits. absurd cc;
    }

pub returns : goal.returns
returns g c =
    let written : c.in_ok-vec-2.field-0.items ≡ replicate c.args.volumes false = search rules in
    λ i. record {
      controls = c.args.controls;
      level = c.args.level;
      table = c.in_ok-started.ensures i;
      is_ahead = false;
      told = (c.in_ok-started.ensures i).rows;
      time = c.args.at.0;
      mark = c.first_mark.ensures i;
      at = first_spot;
      since = 0;
      waiting = [];
      failed = c.in_ok-jobs.ensures.good i;
      written = written i;
    }
