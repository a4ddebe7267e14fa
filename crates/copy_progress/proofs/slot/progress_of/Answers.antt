use Rattle.std.proofs.Common.{sym, ◌∙◌}
use Rattle.copy_progress.specs.Progresses.{primary_field_of, session_field_of}
use Rattle.copy_progress.proofs.Reading.{field_is}
use Rattle.copy_progress.proofs.slot.progress_of.Goals as goal

pub fields-progress-requires-clause-session : goal.fields-progress-requires-clause-session
fields-progress-requires-clause-session c = field_is 8 (session_field_of c.args.bytes.now) c.in_ok-session.session (sym c.from_field.ensures ∙ c.in_ok-session.was)

pub fields-progress-requires-clause-primary : goal.fields-progress-requires-clause-primary
fields-progress-requires-clause-primary c = field_is 6 (primary_field_of c.args.bytes.now) c.in_ok-primary.primary (sym c.from_field-2.ensures ∙ c.in_ok-primary.was)
