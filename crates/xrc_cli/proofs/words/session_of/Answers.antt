use Rattle.std.proofs.Common.{◌∙◌, ap, refl}
use Rattle.std.specs.Result.{result_ok}
use Rattle.tod_stamp.specs.Names.{is_session, name_of}
use Rattle.xrc_cli.proofs.Worded.{session_read}
use Rattle.xrc_cli.proofs.words.session_of.Goals as goal

pub returns : goal.returns
returns c =
    c.ok.ensures.value ∙ ap result_ok c.read.ensures ∙ ap (λ text. result_ok (name_of 8 text)) c.as_bytes.ensures.value
    ∙ session_read c.args.word.now (name_of 8 c.args.word.now) (is_session c.args.word.now) refl refl
