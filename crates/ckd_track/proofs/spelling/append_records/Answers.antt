use Rattle.ckd_track.proofs.Puts.{record_fits}
use Rattle.ckd_track.proofs.spelling.append_records.Goals as goal

pub append_record-requires : goal.append_record-requires
append_record-requires c = record { fits = record_fits c.args.recs.now c.loop-rec.rec-index c.rec-item.result c.requires.track c.loop-rec-test.true c.rec-item.is }
