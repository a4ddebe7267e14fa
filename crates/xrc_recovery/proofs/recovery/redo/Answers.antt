use Rattle.std.proofs.Common.{sym, subst}
use Rattle.xrecover.specs.declared.labelling.Labelling.{Labelling}
use Rattle.xrc_recovery.specs.Recoveries.{RedoesSession}
use Rattle.xrc_recovery.proofs.recovery.redo.Goals as goal

pub returns-in-AsPrimary : goal.returns-in-AsPrimary
returns-in-AsPrimary g c =
    let e = c.recover.ensures in
    subst (λ (l : Labelling). RedoesSession g.P.Plant.tells l c.args.session (g.P.Plant.state c.args.plant.now) (g.P.Plant.state c.recover.new.plant) c.recover.result) (sym c.in-AsPrimary.is) (record {
      says = e.ok;
      short = e.short;
      cause = e.cause;
      failed = e.failed;
      volumes = e.volumes;
      redone = e.redone;
      works = e.works;
      labels = λ told. (e.labels told, e.named told);
      moments = e.moments;
      lasts = e.lasts;
      unwritten = e.unwritten;
    })

pub returns-in-AsItIs : goal.returns-in-AsItIs
returns-in-AsItIs g c =
    let e = c.advance.ensures in
    subst (λ (l : Labelling). RedoesSession g.P.Plant.tells l c.args.session (g.P.Plant.state c.args.plant.now) (g.P.Plant.state c.advance.new.plant) c.advance.result) (sym c.in-AsItIs.is) (record {
      says = e.ok;
      short = e.short;
      cause = e.cause;
      failed = e.failed;
      volumes = e.volumes;
      redone = e.redone;
      works = e.works;
      labels = e.labels;
      moments = e.moments;
      lasts = e.lasts;
      unwritten = e.unwritten;
    })
