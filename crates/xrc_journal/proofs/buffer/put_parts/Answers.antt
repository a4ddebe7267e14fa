use Rattle.xrc_journal.proofs.Bodies.{put_thrice}
use Rattle.xrc_journal.proofs.buffer.put_parts.Goals as goal

pub returns : goal.returns
returns c =
    put_thrice c.args.place c.args.front.now c.args.back.now c.args.buffer.now c.put_bytes.new.buffer c.put_bytes-2.new.buffer c.put_bytes-3.new.buffer c.requires c.put_bytes.ensures c.put_bytes-2.ensures c.put_bytes-3.ensures
