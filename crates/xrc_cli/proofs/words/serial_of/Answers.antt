use Rattle.std.proofs.Common.{◌∙◌, ap, refl}
use Rattle.std.specs.Result.{result_ok}
use Rattle.tod_stamp.specs.Names.{is_serial, name_of}
use Rattle.xrc_cli.proofs.Worded.{serial_read}
use Rattle.xrc_cli.proofs.words.serial_of.Goals as goal

pub returns : goal.returns
returns c =
    c.ok.ensures.value ∙ ap result_ok c.read.ensures ∙ ap (λ text. result_ok (name_of 6 text)) c.as_bytes.ensures.value
    ∙ serial_read c.args.word.now (name_of 6 c.args.word.now) (is_serial c.args.word.now) refl refl
