-- Exact replies are replies to their lines, and say no later time.
use Rattle.std.proofs.Common.{◌≡◌, ℕ, ◌^◌, ◌<◌, ◌≤◌, ◌&&◌, Bool, true, false, true≢false, List, [], ◌∷◌, ◌++◌, map, Option, Some, None, Result, Ok, Err, refl, sym, ap, subst, ◌∙◌, append_assoc, append-nil, arith}
use Rattle.std.specs.Prelude.{bytes_eq, codes, decimal, is_ok, if◌then◌else◌}
use Rattle.std.specs.Option.{option_map}
use Rattle.std.proofs.lemmas.Bool.{and_right}
use Rattle.std.proofs.lemmas.List.Concat.{flat_map-append}
use Rattle.std.proofs.lemmas.List.Elements.{All-append, All-cons, All-nil}
use Rattle.tod_stamp.specs.declared.stamp.Stamp.{Stamp}
use Rattle.tod_stamp.specs.Stamps.{stamp_text}
use Rattle.sidefile.specs.Breaks.{cause_at, stamp}
use Rattle.pair_table.specs.declared.command.Change.{Change}
use Rattle.pair_table.specs.declared.command.Command.{Command}
use Rattle.pair_table.specs.declared.command.Command.TheVariants.{Start, AddPair, DelPair, Suspend, Query, End}
use Rattle.pair_table.specs.declared.command.Refusal.{Refusal}
use Rattle.pair_table.specs.declared.command.Refusal.TheVariants.{NoSession, SessionExists, NoPrimary, NoSecondary, SecondaryInUse, AlreadyPaired, TooSmall, OtherSecondary, NotPaired, Ended, ControlBroken}
use Rattle.pair_table.specs.declared.level.Level.{Level}
use Rattle.pair_table.specs.Tables.{Table}
use Rattle.row_changes.specs.Changes.{Timed}
use Rattle.row_changes.specs.Spans.{AreCounted}
use Rattle.xquery_report.specs.Replies.{answer_part, command_part, command_word, refusal_name, refusal_number, refusal_part, reply_line, said_part, tracks_part, value_part}
use Rattle.xquery_report.specs.Reports.{report_text}
use Rattle.xrc_command.specs.declared.line.Line.{Line}
use Rattle.consistency.specs.Stages.{ScriptRun, Stage, accepts}
use Rattle.consistency.specs.Courses.{Answered, IsAnswered, replied_after}
use Rattle.consistency.specs.Moments.{AreUpTo}
use Rattle.consistency.specs.Replies.{IsReply, answer_word}
use Rattle.consistency.specs.Steps.{is_active, table_on_the_way}
use Rattle.consistency.specs.Times.{times_in_words, times_said}
use Rattle.consistency.proofs.Pieces.{times_append}
use Rattle.consistency.proofs.Spelled.{AreWords, IsWord, reply_spelled, spelled, stamp_is_word}
use Rattle.consistency.proofs.Spelled.AreWords.{no_word, one_more}
use Rattle.consistency.proofs.Stamped.{times_after_answer, times_spelled}
use Rattle.consistency.specs.Answering.{answered_by, reply_content}
use Rattle.consistency.specs.Leads.{Point}
use Rattle.consistency.specs.Replying.{HasNames, IsExact, is_query, is_reported, report_before, times_replied}
use Rattle.consistency.specs.Ways.{IsCommanding, IsLegOf, Leg, PassedPoint}
use Rattle.consistency.proofs.Answering.{command_is_answered, content_as_accepted, inactive_is_answered}
use Rattle.consistency.proofs.Legs.{leg_goes, table_there}
use Rattle.consistency.proofs.Naming.{names_on_the_way}
use Rattle.consistency.proofs.Telling.{Tells, nothing_tells, report_says, spaced}
use Rattle.consistency.proofs.Words.{AreQuiet, quiet_number, time_after_quiet, time_is_word, time_word, times_quiet}
use Rattle.consistency.proofs.Words.AreQuiet.{no_more, quiet_then}

-- ---- the words of a reply

abbrev pub value_words : Refusal → List (List ℕ)
value_words (TooSmall tracks) = decimal tracks ∷ []
value_words (ControlBroken control) = decimal control ∷ []
value_words NoSession = []
value_words SessionExists = []
value_words NoPrimary = []
value_words NoSecondary = []
value_words SecondaryInUse = []
value_words AlreadyPaired = []
value_words OtherSecondary = []
value_words NotPaired = []
value_words Ended = []

value_spaced : (refusal : Refusal) → spaced (value_words refusal) ≡ value_part refusal
value_spaced (TooSmall tracks) = append-nil (32 ∷ decimal tracks)
value_spaced (ControlBroken control) = append-nil (32 ∷ decimal control)
value_spaced NoSession = refl
value_spaced SessionExists = refl
value_spaced NoPrimary = refl
value_spaced NoSecondary = refl
value_spaced SecondaryInUse = refl
value_spaced AlreadyPaired = refl
value_spaced OtherSecondary = refl
value_spaced NotPaired = refl
value_spaced Ended = refl

-- the words after a refusal's word
abbrev pub refusal_words : Refusal → List (List ℕ)
refusal_words refusal = decimal (refusal_number refusal) ∷ refusal_name refusal ∷ value_words refusal

name_quiet : (refusal : Refusal) → AreQuiet (refusal_name refusal ∷ value_words refusal)
name_quiet (TooSmall tracks) = quiet_then (refl, refl) (refl, refl) (quiet_number tracks no_more)
name_quiet (ControlBroken control) = quiet_then (refl, refl) (refl, refl) (quiet_number control no_more)
name_quiet NoSession = quiet_then (refl, refl) (refl, refl) no_more
name_quiet SessionExists = quiet_then (refl, refl) (refl, refl) no_more
name_quiet NoPrimary = quiet_then (refl, refl) (refl, refl) no_more
name_quiet NoSecondary = quiet_then (refl, refl) (refl, refl) no_more
name_quiet SecondaryInUse = quiet_then (refl, refl) (refl, refl) no_more
name_quiet AlreadyPaired = quiet_then (refl, refl) (refl, refl) no_more
name_quiet OtherSecondary = quiet_then (refl, refl) (refl, refl) no_more
name_quiet NotPaired = quiet_then (refl, refl) (refl, refl) no_more
name_quiet Ended = quiet_then (refl, refl) (refl, refl) no_more

refusal_is : (number name value : List ℕ) → codes " REFUSED" ++ ((32 ∷ number) ++ ((32 ∷ name) ++ value)) ≡ codes " REFUSED" ++ 32 ∷ number ++ codes " " ++ name ++ value
refusal_is number name value = simp append_assoc

refusal_spaced : (refusal : Refusal) → codes " REFUSED" ++ spaced (refusal_words refusal) ≡ refusal_part refusal
refusal_spaced refusal =
    ap (λ (l : List ℕ). codes " REFUSED" ++ ((32 ∷ decimal (refusal_number refusal)) ++ ((32 ∷ refusal_name refusal) ++ l))) (value_spaced refusal)
    ∙ refusal_is (decimal (refusal_number refusal)) (refusal_name refusal) (value_part refusal)

abbrev pub tracks_words : Command → (tracks : ℕ) → List (List ℕ)
tracks_words (AddPair primary secondary group) tracks = codes "TRACKS" ∷ decimal tracks ∷ []
tracks_words (Start level) tracks = []
tracks_words (DelPair choice) tracks = []
tracks_words (Suspend choice) tracks = []
tracks_words Query tracks = []
tracks_words End tracks = []

tracks_spaced : (command : Command) (tracks : ℕ) → spaced (tracks_words command tracks) ≡ tracks_part command tracks
tracks_spaced (AddPair primary secondary group) tracks = ap (λ (l : List ℕ). codes " TRACKS " ++ l) (append-nil (decimal tracks))
tracks_spaced (Start level) tracks = refl
tracks_spaced (DelPair choice) tracks = refl
tracks_spaced (Suspend choice) tracks = refl
tracks_spaced Query tracks = refl
tracks_spaced End tracks = refl

tracks_quiet : (command : Command) (tracks : ℕ) → AreQuiet (tracks_words command tracks)
tracks_quiet (AddPair primary secondary group) tracks = quiet_then (refl, refl) (refl, refl) (quiet_number tracks no_more)
tracks_quiet (Start level) tracks = no_more
tracks_quiet (DelPair choice) tracks = no_more
tracks_quiet (Suspend choice) tracks = no_more
tracks_quiet Query tracks = no_more
tracks_quiet End tracks = no_more

-- the words after the answer's own
abbrev pub answer_words : Command → Result Change Refusal → (tracks : ℕ) → List (List ℕ)
answer_words command (Ok change) tracks = tracks_words command tracks
answer_words command (Err refusal) tracks = refusal_words refusal

answer_spaced : (command : Command) (answer : Result Change Refusal) (tracks : ℕ) → (32 ∷ answer_word (is_ok answer)) ++ spaced (answer_words command answer tracks) ≡ answer_part command answer tracks
answer_spaced command (Ok change) tracks = ap (λ (l : List ℕ). codes " OK" ++ l) (tracks_spaced command tracks)
answer_spaced command (Err refusal) tracks = refusal_spaced refusal

answer_quiet : (command : Command) (answer : Result Change Refusal) (tracks : ℕ) → AreQuiet (answer_words command answer tracks)
answer_quiet command (Ok change) tracks = tracks_quiet command tracks
answer_quiet command (Err refusal) tracks = quiet_number (refusal_number refusal) (name_quiet refusal)

abbrev pub said_words : Option Stamp → List (List ℕ)
said_words None = []
said_words (Some time) = time_word time.0 ∷ []

told_spaced : (told : Option Stamp) → spaced (said_words told) ≡ said_part told
told_spaced None = refl
told_spaced (Some time) = append-nil (codes " T=" ++ stamp_text time.0)

-- ---- the reply's own line

abbrev times_told : Option Stamp → List ℕ
times_told None = []
times_told (Some t) = t.0 ∷ []

reply_is : (time command answer after told : List ℕ) → (time ++ (command ++ (answer ++ (after ++ told)))) ++ 10 ∷ [] ≡ time ++ command ++ (answer ++ after) ++ told ++ 10 ∷ []
reply_is time command answer after told = simp append_assoc

module _ (time : ℕ) (command : Command) (answer : Result Change Refusal) (tracks : ℕ) (told : Option Stamp) where
  abbrev pub others : List (List ℕ)
  others = answer_words command answer tracks ++ said_words told

  pub line_is : spelled (stamp_text time) (command_word command ∷ answer_word (is_ok answer) ∷ others) ++ 10 ∷ [] ≡ reply_line time command answer tracks told
  line_is =
      ap (λ (l : List ℕ). (stamp_text time ++ ((32 ∷ command_word command) ++ ((32 ∷ answer_word (is_ok answer)) ++ l))) ++ 10 ∷ []) (flat_map-append (λ w. 32 ∷ w) (answer_words command answer tracks) (said_words told))
      ∙ reply_is (stamp_text time) (32 ∷ command_word command) (32 ∷ answer_word (is_ok answer)) (spaced (answer_words command answer tracks)) (spaced (said_words told))
      ∙ ap (λ (l : List ℕ). stamp_text time ++ command_part command ++ l ++ spaced (said_words told) ++ 10 ∷ []) (answer_spaced command answer tracks)
      ∙ ap (λ (l : List ℕ). stamp_text time ++ command_part command ++ answer_part command answer tracks ++ l ++ 10 ∷ []) (told_spaced told)

  words_then : (first : List (List ℕ)) (o : Option Stamp) → AreQuiet first → AreWords (first ++ said_words o)
  words_then [] None no_more = no_word
  words_then [] (Some t) no_more = one_more (time_is_word t.0) no_word
  words_then (word ∷ first) o (quiet_then is tells rest) = one_more is (words_then first o rest)

  pub others_are : AreWords others
  others_are = words_then (answer_words command answer tracks) told (answer_quiet command answer tracks)

  pub command_is : IsWord (command_word command)
  command_is = of_command command
    where
      of_command : (c : Command) → IsWord (command_word c)
      of_command (Start level) = (refl, refl)
      of_command (AddPair primary secondary group) = (refl, refl)
      of_command (DelPair choice) = (refl, refl)
      of_command (Suspend choice) = (refl, refl)
      of_command Query = (refl, refl)
      of_command End = (refl, refl)

  pub answer_is : (b : Bool) → IsWord (answer_word b)
  answer_is true = (refl, refl)
  answer_is false = (refl, refl)

  no_journal : (b : Bool) → bytes_eq (answer_word b) (codes "JOURNALED") ≡ false
  no_journal true = refl
  no_journal false = refl

  told_times : (o : Option Stamp) → ((t : Stamp) → o ≡ Some t → t.0 < 2 ^ 64) → times_in_words (answer_word (is_ok answer)) (answer_words command answer tracks ++ said_words o) ≡ times_told o
  told_times None short =
      ap (times_in_words (answer_word (is_ok answer))) (append-nil (answer_words command answer tracks)) ∙ times_quiet (answer_word (is_ok answer)) (answer_words command answer tracks) (no_journal (is_ok answer)) (answer_quiet command answer tracks)
  told_times (Some t) short = time_after_quiet (answer_word (is_ok answer)) (answer_words command answer tracks) t.0 (no_journal (is_ok answer)) (answer_quiet command answer tracks) (short t refl)

  -- It says the time that it tells, and none else.
  line_says : ((t : Stamp) → told ≡ Some t → t.0 < 2 ^ 64) → times_said (reply_line time command answer tracks told) ≡ times_told told
  line_says short =
      sym (ap times_said line_is) ∙ times_spelled (stamp_text time) (command_word command ∷ answer_word (is_ok answer) ∷ others) (stamp_is_word time) (one_more command_is (one_more (answer_is (is_ok answer)) others_are))
      ∙ times_after_answer (is_ok answer) time command others ∙ told_times told short

-- ---- exact replies

module _ (run : ScriptRun) (s : Stage) (first : Point) (points : List PassedPoint) (number : ℕ) (a : Answered) (names : HasNames s.table) where
  abbrev table : Table
  table = table_on_the_way run.level a.changes s.table

  abbrev text_if : Bool → List ℕ
  text_if b = if b then report_text table run.level a.line.time.0 (map (cause_at a.line.time.0) run.traces) else []

  report_is : (b : Bool) → Tells a.line.time.0 (if b then a.line.time.0 ∷ [] else []) (text_if b)
  report_is true = report_says table run.level a.line.time.0 (map (cause_at a.line.time.0) run.traces) (names_on_the_way run.level a.changes s.table names)
  report_is false = nothing_tells a.line.time.0

  pub report_there : Tells a.line.time.0 (if is_reported run table a.line then a.line.time.0 ∷ [] else []) (report_before run table a.line)
  report_there = report_is (is_reported run table a.line)

  abbrev told : Option Stamp
  told = option_map stamp (reply_content run s first points number a).time

  accepted_as : is_ok (reply_content run s first points number a).answer ≡ accepts run table a.line
  accepted_as = content_as_accepted run s first points number a.text a.reply a.line a.changes a.hits

  pub exact_is_reply : IsExact run s first points number a → IsReply (accepts run table a.line) a.line a.reply
  exact_is_reply exact =
      let content = reply_content run s first points number a in
      let report = report_before run table a.line in
      let after = others a.line.time.0 a.line.command content.answer content.tracks told in
      let own = spelled (stamp_text a.line.time.0) (command_word a.line.command ∷ answer_word (is_ok content.answer) ∷ after) in
      subst (λ (b : Bool). IsReply b a.line a.reply) accepted_as
      (subst (λ (l : List ℕ). IsReply (is_ok content.answer) a.line l)
      (append_assoc report own (10 ∷ []) ∙ ap (λ (l : List ℕ). report ++ l) (line_is a.line.time.0 a.line.command content.answer content.tracks told) ∙ sym exact)
      (reply_spelled (is_ok content.answer) a.line report after report_there.whole report_there.none (others_are a.line.time.0 a.line.command content.answer content.tracks told)))

  abbrev latest : ℕ
  latest = replied_after s a.line

  latest_below : s.replied < 2 ^ 64 → a.line.time.0 < 2 ^ 64 → latest < 2 ^ 64
  latest_below old new = by_end s.table.is_ended
    where
      by_end : (e : Bool) → (if e then s.replied else a.line.time.0) < 2 ^ 64
      by_end true = old
      by_end false = new

  told_short : latest < 2 ^ 64 → (b : Bool) (t : Stamp) → option_map stamp (if b then Some latest else None) ≡ Some t → t.0 < 2 ^ 64
  told_short below true t is = let same : latest ≡ t.0 = cc in omega (arith, same, below)
  told_short below false t is = absurd cc

  told_are : (b : Bool) → times_told (option_map stamp (if b then Some latest else None)) ≡ (if b then latest ∷ [] else [])
  told_are true = refl
  told_are false = refl

  pub exact_says : s.replied < 2 ^ 64 → a.line.time.0 < 2 ^ 64 → IsExact run s first points number a → times_said a.reply ≡ times_replied run s a
  exact_says old new exact =
      let content = reply_content run s first points number a in
      let report = report_before run table a.line in
      let own = reply_line a.line.time.0 a.line.command content.answer content.tracks told in
      ap times_said exact ∙ times_append report own report_there.whole ∙ ap (λ (l : List ℕ). l ++ times_said own) (report_there.said new)
      ∙ ap (λ (l : List ℕ). (if is_reported run table a.line then a.line.time.0 ∷ [] else []) ++ l)
      (line_says a.line.time.0 a.line.command content.answer content.tracks told (told_short (latest_below old new) a.table.is_started) ∙ told_are a.table.is_started)

  -- A report comes before the end alone, so its time is that of the session.
  report_time : (b : Bool) → is_reported run table a.line ≡ b → AreUpTo latest (if b then a.line.time.0 ∷ [] else [])
  report_time false is = All-nil (λ z. z ≤ latest)
  report_time true is = by_end s.table.is_ended refl
    where
      by_end : (e : Bool) → s.table.is_ended ≡ e → AreUpTo latest (a.line.time.0 ∷ [])
      by_end true ended =
          let refused : accepts run table a.line ≡ false = rw ended refl in
          absurd (true≢false (sym is ∙ and_right (is_query a.line.command) (accepts run table a.line) refused))
      by_end false goes = let same : latest ≡ a.line.time.0 = rw goes refl in All-cons (λ z. z ≤ latest) a.line.time.0 [] (omega (arith, same)) (All-nil (λ z. z ≤ latest))

  told_time : (b : Bool) → AreUpTo latest (if b then latest ∷ [] else [])
  told_time true = All-cons (λ z. z ≤ latest) latest [] (omega arith) (All-nil (λ z. z ≤ latest))
  told_time false = All-nil (λ z. z ≤ latest)

  pub exact_says_up_to : s.replied < 2 ^ 64 → a.line.time.0 < 2 ^ 64 → IsExact run s first points number a → AreUpTo latest (times_said a.reply)
  exact_says_up_to old new exact =
      subst (AreUpTo latest) (sym (exact_says old new exact))
      (All-append (λ z. z ≤ latest) (if is_reported run table a.line then a.line.time.0 ∷ [] else []) (if a.table.is_started then latest ∷ [] else []) (report_time (is_reported run table a.line) refl) (told_time a.table.is_started))

-- The reply to an accepted query begins with its report.
pub report_first : (run : ScriptRun) (s : Stage) (first : Point) (points : List PassedPoint) (number : ℕ) (a : Answered) → (let table = table_on_the_way run.level a.changes s.table in
    a.line.command ≡ Query → accepts run table a.line ≡ true → IsExact run s first points number a → (own : List ℕ) × (a.reply ≡ report_text table run.level a.line.time.0 (map (cause_at a.line.time.0) run.traces) ++ own))
report_first run s first points number a query accepted exact =
    let content = reply_content run s first points number a in
    let table = table_on_the_way run.level a.changes s.table in
    let own = reply_line a.line.time.0 a.line.command content.answer content.tracks (option_map stamp content.time) in
    (own, exact ∙ ap (λ (b : Bool). (if b then report_text table run.level a.line.time.0 (map (cause_at a.line.time.0) run.traces) else []) ++ own) (ap (λ (b : Bool). is_query a.line.command && b) accepted ∙ ap (λ (c : Command). is_query c && true) query))

-- ---- lines that are answered

module _ (run : ScriptRun) (s : Stage) (goes : s.table.is_ended ≡ false) (l : Leg) (leg : IsLegOf run s l) (q : Point) (hits : List Timed) (c : IsCommanding run s.next l q hits) (text reply : List ℕ) (first : Point) (points : List PassedPoint) (number : ℕ) (names : HasNames s.table) where
  pub command_exactly : AreCounted run.rises (s.past ++ l.changes ++ hits) → IsExact run s first points number (answered_by run s text reply c.line l.changes hits) → IsAnswered run s (answered_by run s text reply c.line l.changes hits)
  command_exactly counted exact =
      command_is_answered run s goes l leg q hits c text reply counted
      (subst (λ (x : Table). IsReply (accepts run x c.line) c.line reply) (sym (table_there run s goes l leg c.line q hits (c.active (leg_goes run s goes l leg))))
      (exact_is_reply run s first points number (answered_by run s text reply c.line l.changes hits) names exact))

pub inactive_exactly : (run : ScriptRun) (s : Stage) (text reply : List ℕ) (line : Line) (first : Point) (points : List PassedPoint) (number : ℕ) → is_active s.table ≡ false → AreCounted run.rises s.past
    → ((level : Level) → line.command ≡ Start level → accepts run s.table line ≡ true → level ≡ run.level) → HasNames s.table → IsExact run s first points number (answered_by run s text reply line [] [])
    → IsAnswered run s (answered_by run s text reply line [] [])
inactive_exactly run s text reply line first points number off counted level names exact =
    inactive_is_answered run s text reply line off counted level (exact_is_reply run s first points number (answered_by run s text reply line [] []) names exact)
