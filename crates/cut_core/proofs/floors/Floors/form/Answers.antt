use Rattle.std.proofs.Common.{◌<◌, length, get_or, rules}
use Rattle.std.proofs.lemmas.List.{get_or_default}
use Rattle.std.proofs.lemmas.List.Edits.{map_over_more}
use Rattle.cut_core.specs.Floors.{reported_after_form}
use Rattle.cut_core.proofs.floors.Floors.form.Goals as goal

pub loop-k-preserved : goal.loop-k-preserved
loop-k-preserved c =
    let i = c.loop-k.invariant in
    let old : c.loop-k.k < length c.args.self.now.told = search rules in
    let now : c.loop-k.k < length c.loop-k.self-inside.told = search rules in
    record {
      controls = i.controls;
      told = rw c.after_form.ensures (map_over_more (reported_after_form c.args.cut.0) c.args.self.now.told c.loop-k.self-inside.told c.loop-k.k (get_or c.loop-k.self-inside.told c.loop-k.k _) old i.told (get_or_default c.loop-k.self-inside.told c.loop-k.k _ _ now));
    }
