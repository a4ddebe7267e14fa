use Rattle.fed_logs.proofs.Stepping.{first_is_unread}
use Rattle.fed_logs.proofs.Beginning.{headers_begin_traces}
use Rattle.fed_logs.proofs.feeds.first_feed.Goals as goal

pub returns-clause-nothing : goal.returns-clause-nothing
returns-clause-nothing c = first_is_unread

pub returns-clause-begins : goal.returns-clause-begins
returns-clause-begins c = headers_begin_traces
