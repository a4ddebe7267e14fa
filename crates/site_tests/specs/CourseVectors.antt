-- What worked courses and images name.
use Rattle.std.specs.Prelude.{ℕ, List, [], ◌∷◌, ◌++◌, Option, codes, true, false}
use Rattle.pair_table.specs.declared.command.Command.TheVariants.{End, Query}
use Rattle.pair_table.specs.declared.level.Level.TheVariants.{Volume as VolumeLevel}
use Rattle.pair_table.specs.Tables.{Table}
use Rattle.xrc_command.specs.declared.line.Line.{Line}
use Rattle.site_tests.specs.ChangeVectors.{no_rises}
use Rattle.consistency.specs.Stages.{ScriptRun, Stage}
use Rattle.consistency.specs.Courses.{Answered}

-- ---- the session ABC, begun at 50 without pairs

abbrev pub begun_table : Table
begun_table = record { session = codes "ABC"; is_started = true; is_ended = false; rows = [] }

abbrev pub run_of_none : ScriptRun
run_of_none = record { session = codes "ABC"; traces = []; labels = []; level = VolumeLevel; rises = no_rises }

abbrev pub begun_stage : Option Line → Stage
begun_stage next = record { table = begun_table; replied = 0x50; past = []; next = next }

abbrev pub query_at : (time : ℕ) → Line
query_at time = record { time = record { 0 = time }; session = codes "ABC"; command = Query }

abbrev pub ending_at : (time : ℕ) → Line
ending_at time = record { time = record { 0 = time }; session = codes "ABC"; command = End }

-- ---- the lines of a session that has ended: its end at 90, and a query at 99

abbrev pub ended_by : Line → Answered
ended_by line = record { text = []; line = line; reply = []; changes = []; hits = []; table = record begun_table { is_ended = true } }

abbrev pub lines_past_end : List Answered
lines_past_end = ended_by (ending_at 0x90) ∷ ended_by (query_at 0x99) ∷ []

-- ---- texts

abbrev pub line_feed : List ℕ
line_feed = 10 ∷ []

abbrev pub start_reply : List ℕ
start_reply = codes "0000000000000050 XSTART OK T=0000000000000050" ++ line_feed

abbrev pub query_report : List ℕ
query_report = codes "SESSION ABC LEVEL VOLUME JOURNALED 0000000000000080 PAIRS 1" ++ line_feed ++ codes "CONTROL 0 OK" ++ line_feed ++ codes "PAIR PRIM01 SEC001 DUPLEX" ++ line_feed

abbrev pub query_reply : List ℕ
query_reply = query_report ++ codes "0000000000000080 XQUERY OK T=0000000000000080" ++ line_feed

abbrev pub status_18 : List ℕ
status_18 = codes "STATUS 18" ++ line_feed

-- a reply with a report, of which the last line isn't whole
abbrev pub worked_replies : List ℕ
worked_replies = codes "0000000000000050 XSTART OK T=0000000000000050" ++ line_feed ++ codes "SESSION ABC LEVEL VOLUME JOURNALED 0000000000000080 PAIRS 1" ++ line_feed ++ codes "0000000000000080 XQUERY OK T=0000000000000080"
