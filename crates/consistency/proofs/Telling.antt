-- The lines of a report: none is a reply, and they say no other time than that of the journal.
use Rattle.std.proofs.Common.{◌≡◌, ℕ, ◌+◌, ◌^◌, ◌<◌, ◌||◌, Bool, true, false, List, [], ◌∷◌, ◌++◌, length, Option, Some, None, refl, ap, subst, ◌∙◌, append_assoc, append-nil, arith}
use Rattle.std.specs.Prelude.{codes, decimal}
use Rattle.std.specs.List.{flat_map, list_all, list_any}
use Rattle.std.proofs.lemmas.Bool.{and_left, and_parts, or_from}
use Rattle.std.proofs.lemmas.List.Folds.{list_any-append}
use Rattle.tod_stamp.specs.Names.{is_serial, is_session}
use Rattle.tod_stamp.specs.Stamps.{stamp_text}
use Rattle.ckd_track.specs.declared.write.Cause.{Cause}
use Rattle.ckd_track.specs.declared.write.Cause.TheVariants.{ReadFault, BadTrace, Crowded}
use Rattle.pair_table.specs.declared.level.Level.{Level}
use Rattle.pair_table.specs.declared.level.Level.TheVariants.{Volume as ByVolume, Session as BySession, Group as ByGroup}
use Rattle.pair_table.specs.declared.row.PairRow.{PairRow}
use Rattle.pair_table.specs.declared.row.PairState.{PairState}
use Rattle.pair_table.specs.declared.row.PairState.TheVariants.{Pending, Copy, Duplex, Suspended}
use Rattle.pair_table.specs.declared.row.SuspendCause.{SuspendCause}
use Rattle.pair_table.specs.declared.row.SuspendCause.TheVariants.{Command, Device, Session, Control, Group}
use Rattle.pair_table.specs.Tables.{Table}
use Rattle.pair_table.specs.States.{cause_word}
use Rattle.xquery_report.specs.Reports.{control_line, control_lines, control_part, report_text, row_line, session_line, state_part}
use Rattle.consistency.specs.Replies.{are_reply, has_reply, is_answer, is_reply_line, is_stamp}
use Rattle.consistency.specs.Times.{AreWhole, times_in_words, times_said, whole_lines}
use Rattle.consistency.proofs.Pieces.{feed_whole, line_ended, lines_append, times_append, whole_append}
use Rattle.consistency.proofs.Spelled.{AreWords, IsWord, no_feed_spelled, spelled, stamp_is_word, words_spelled}
use Rattle.consistency.proofs.Spelled.AreWords.{one_more}
use Rattle.consistency.proofs.Stamped.{times_spelled}
use Rattle.consistency.specs.Replying.{HasNames, has_row_serials}
use Rattle.consistency.proofs.Words.{AreQuiet, quiet_name, quiet_number, quiet_on, quiet_stamp, quiet_words, time_journaled, times_quiet}
use Rattle.consistency.proofs.Words.AreQuiet.{no_more, quiet_then}

-- ---- texts of which no line is a reply

-- Whole lines, of which none is a reply. They say these times, where the session's is a stamp.
pub record Tells (time : ℕ) (times text : List ℕ) : Type 0 where
  pub whole : AreWhole text
  pub none : has_reply text ≡ false
  pub said : time < 2 ^ 64 → times_said text ≡ times

pub nothing_tells : (time : ℕ) → Tells time [] []
nothing_tells time = record { whole = refl; none = refl; said = λ below. refl }

pub both_tell : (time : ℕ) (early late a b : List ℕ) → Tells time early a → Tells time late b → Tells time (early ++ late) (a ++ b)
both_tell time early late a b first second = record {
  whole = whole_append a b first.whole second.whole;
  none = ap (list_any is_reply_line) (lines_append a b first.whole) ∙ list_any-append is_reply_line (whole_lines a) (whole_lines b) ∙ or_from (has_reply a) (has_reply b) first.none second.none;
  said = λ below. times_append a b first.whole ∙ ap (λ (l : List ℕ). l ++ times_said b) (first.said below) ∙ ap (λ (l : List ℕ). early ++ l) (second.said below);
}

module _ (time : ℕ) (word : List ℕ) (others : List (List ℕ)) (no_stamp : is_stamp word ≡ false) (is : IsWord word) (are : AreWords others) where
  no_reply : (words : List (List ℕ)) → are_reply (word ∷ words) ≡ false
  no_reply [] = refl
  no_reply (a ∷ []) = refl
  no_reply (a ∷ b ∷ words) = and_left (is_stamp word) (is_answer b) no_stamp

  -- A line of words, of which the first is no stamp.
  line_says : (times : List ℕ) → (time < 2 ^ 64 → times_in_words [] (word ∷ others) ≡ times) → Tells time times (spelled word others ++ 10 ∷ [])
  line_says times are_times = record {
    whole = feed_whole (spelled word others);
    none =
        ap (list_any is_reply_line) (line_ended [] (spelled word others) refl (no_feed_spelled word others is are)) ∙ ap (λ (l : List (List ℕ)). are_reply l || false) (words_spelled word others is are)
        ∙ ap (λ (b : Bool). b || false) (no_reply others);
    said = λ below. times_spelled word others is are ∙ are_times below;
  }

quiet_line_says : (time : ℕ) (word : List ℕ) (others : List (List ℕ)) → is_stamp word ≡ false → AreQuiet (word ∷ others) → Tells time [] (spelled word others ++ 10 ∷ [])
quiet_line_says time word others no_stamp (quiet_then is tells rest) = line_says time word others no_stamp is (quiet_words rest) [] (λ below. times_quiet [] (word ∷ others) refl (quiet_then is tells rest))

-- words, each after a space
abbrev pub spaced : List (List ℕ) → List ℕ
spaced words = flat_map (λ w. 32 ∷ w) words

-- ---- the session's line

module _ (table : Table) (time : ℕ) (named : is_session table.session ≡ true) where
  abbrev words_after : (level : List ℕ) → List (List ℕ)
  words_after level = table.session ∷ codes "LEVEL" ∷ level ∷ codes "JOURNALED" ∷ stamp_text time ∷ codes "PAIRS" ∷ decimal (length table.rows) ∷ []

  pairs_quiet : AreQuiet (codes "PAIRS" ∷ decimal (length table.rows) ∷ [])
  pairs_quiet = quiet_then (refl, refl) (refl, refl) (quiet_number (length table.rows) no_more)

  after_are : (level : List ℕ) → IsWord level → AreWords (words_after level)
  after_are level is =
      let journaled : AreWords (codes "JOURNALED" ∷ stamp_text time ∷ codes "PAIRS" ∷ decimal (length table.rows) ∷ []) = one_more (refl, refl) (one_more (stamp_is_word time) (quiet_words pairs_quiet)) in
      let first = quiet_words (quiet_name 8 table.session (omega arith) named no_more) in
      name_then first (one_more (refl, refl) (one_more is journaled))
    where
      name_then : AreWords (table.session ∷ []) → {others : List (List ℕ)} → AreWords others → AreWords (table.session ∷ others)
      name_then (one_more name none) rest = one_more name rest

  tells_time : (level : List ℕ) → AreQuiet (table.session ∷ codes "LEVEL" ∷ level ∷ []) → time < 2 ^ 64 → times_in_words [] (codes "SESSION" ∷ words_after level) ≡ time ∷ []
  tells_time level (quiet_then a name (quiet_then b word (quiet_then c last no_more))) below =
      quiet_on (codes "SESSION") table.session (codes "LEVEL" ∷ level ∷ codes "JOURNALED" ∷ stamp_text time ∷ codes "PAIRS" ∷ decimal (length table.rows) ∷ []) refl name.0
      ∙ quiet_on table.session (codes "LEVEL") (level ∷ codes "JOURNALED" ∷ stamp_text time ∷ codes "PAIRS" ∷ decimal (length table.rows) ∷ []) name.1 refl
      ∙ quiet_on (codes "LEVEL") level (codes "JOURNALED" ∷ stamp_text time ∷ codes "PAIRS" ∷ decimal (length table.rows) ∷ []) refl last.0
      ∙ quiet_on level (codes "JOURNALED") (stamp_text time ∷ codes "PAIRS" ∷ decimal (length table.rows) ∷ []) last.1 refl
      ∙ time_journaled time (codes "PAIRS" ∷ decimal (length table.rows) ∷ []) pairs_quiet below

  level_says : (level : List ℕ) → IsWord level → AreQuiet (codes "LEVEL" ∷ level ∷ []) → Tells time (time ∷ []) (spelled (codes "SESSION") (words_after level) ++ 10 ∷ [])
  level_says level is quiet = line_says time (codes "SESSION") (words_after level) refl (refl, refl) (after_are level is) (time ∷ []) (tells_time level (quiet_name 8 table.session (omega arith) named quiet))

  texts_are : (first name level journaled stamp pairs count : List ℕ) → (first ++ (name ++ ((level ++ journaled) ++ (stamp ++ (pairs ++ count))))) ++ 10 ∷ [] ≡ first ++ name ++ level ++ journaled ++ stamp ++ pairs ++ count ++ 10 ∷ []
  texts_are first name level journaled stamp pairs count = simp append_assoc

  volume_is : (name stamp count : List ℕ)
      → spelled (codes "SESSION") (name ∷ codes "LEVEL" ∷ codes "VOLUME" ∷ codes "JOURNALED" ∷ stamp ∷ codes "PAIRS" ∷ count ∷ []) ++ 10 ∷ [] ≡ codes "SESSION " ++ name ++ codes " LEVEL VOLUME" ++ codes " JOURNALED " ++ stamp ++ codes " PAIRS" ++ 32 ∷ count ++ 10 ∷ []
  volume_is name stamp count =
      ap (λ (l : List ℕ). (codes "SESSION " ++ (name ++ (codes " LEVEL VOLUME JOURNALED " ++ (stamp ++ (codes " PAIRS " ++ l))))) ++ 10 ∷ []) (append-nil count)
      ∙ texts_are (codes "SESSION ") name (codes " LEVEL VOLUME") (codes " JOURNALED ") stamp (codes " PAIRS") (32 ∷ count)

  session_is : (name stamp count : List ℕ)
      → spelled (codes "SESSION") (name ∷ codes "LEVEL" ∷ codes "SESSION" ∷ codes "JOURNALED" ∷ stamp ∷ codes "PAIRS" ∷ count ∷ []) ++ 10 ∷ [] ≡ codes "SESSION " ++ name ++ codes " LEVEL SESSION" ++ codes " JOURNALED " ++ stamp ++ codes " PAIRS" ++ 32 ∷ count ++ 10 ∷ []
  session_is name stamp count =
      ap (λ (l : List ℕ). (codes "SESSION " ++ (name ++ (codes " LEVEL SESSION JOURNALED " ++ (stamp ++ (codes " PAIRS " ++ l))))) ++ 10 ∷ []) (append-nil count)
      ∙ texts_are (codes "SESSION ") name (codes " LEVEL SESSION") (codes " JOURNALED ") stamp (codes " PAIRS") (32 ∷ count)

  group_is : (name stamp count : List ℕ)
      → spelled (codes "SESSION") (name ∷ codes "LEVEL" ∷ codes "GROUP" ∷ codes "JOURNALED" ∷ stamp ∷ codes "PAIRS" ∷ count ∷ []) ++ 10 ∷ [] ≡ codes "SESSION " ++ name ++ codes " LEVEL GROUP" ++ codes " JOURNALED " ++ stamp ++ codes " PAIRS" ++ 32 ∷ count ++ 10 ∷ []
  group_is name stamp count =
      ap (λ (l : List ℕ). (codes "SESSION " ++ (name ++ (codes " LEVEL GROUP JOURNALED " ++ (stamp ++ (codes " PAIRS " ++ l))))) ++ 10 ∷ []) (append-nil count)
      ∙ texts_are (codes "SESSION ") name (codes " LEVEL GROUP") (codes " JOURNALED ") stamp (codes " PAIRS") (32 ∷ count)

  session_says : (level : Level) → Tells time (time ∷ []) (session_line table level time)
  session_says ByVolume = subst (Tells time (time ∷ [])) (volume_is table.session (stamp_text time) (decimal (length table.rows))) (level_says (codes "VOLUME") (refl, refl) (quiet_then (refl, refl) (refl, refl) (quiet_then (refl, refl) (refl, refl) no_more)))
  session_says BySession = subst (Tells time (time ∷ [])) (session_is table.session (stamp_text time) (decimal (length table.rows))) (level_says (codes "SESSION") (refl, refl) (quiet_then (refl, refl) (refl, refl) (quiet_then (refl, refl) (refl, refl) no_more)))
  session_says ByGroup = subst (Tells time (time ∷ [])) (group_is table.session (stamp_text time) (decimal (length table.rows))) (level_says (codes "GROUP") (refl, refl) (quiet_then (refl, refl) (refl, refl) (quiet_then (refl, refl) (refl, refl) no_more)))

-- ---- the lines of controllers

abbrev control_words : Option Cause → List (List ℕ)
control_words None = codes "OK" ∷ []
control_words (Some ReadFault) = codes "BROKEN" ∷ codes "READFAULT" ∷ []
control_words (Some (BadTrace place)) = codes "BROKEN" ∷ codes "BADTRACE" ∷ decimal place ∷ []
control_words (Some (Crowded stamp)) = codes "BROKEN" ∷ codes "CROWDED" ∷ stamp_text stamp.0 ∷ []

control_quiet : (broken : Option Cause) → AreQuiet (control_words broken)
control_quiet None = quiet_then (refl, refl) (refl, refl) no_more
control_quiet (Some ReadFault) = quiet_then (refl, refl) (refl, refl) (quiet_then (refl, refl) (refl, refl) no_more)
control_quiet (Some (BadTrace place)) = quiet_then (refl, refl) (refl, refl) (quiet_then (refl, refl) (refl, refl) (quiet_number place no_more))
control_quiet (Some (Crowded stamp)) = quiet_then (refl, refl) (refl, refl) (quiet_then (refl, refl) (refl, refl) (quiet_stamp stamp.0 no_more))

control_spaced : (broken : Option Cause) → spaced (control_words broken) ≡ control_part broken
control_spaced None = refl
control_spaced (Some ReadFault) = refl
control_spaced (Some (BadTrace place)) = ap (λ (l : List ℕ). codes " BROKEN BADTRACE " ++ l) (append-nil (decimal place))
control_spaced (Some (Crowded stamp)) = ap (λ (l : List ℕ). codes " BROKEN CROWDED " ++ l) (append-nil (stamp_text stamp.0))

control_is : (number after : List ℕ) → (codes "CONTROL" ++ ((32 ∷ number) ++ after)) ++ 10 ∷ [] ≡ codes "CONTROL" ++ 32 ∷ number ++ after ++ 10 ∷ []
control_is number after = simp append_assoc

control_says : (time number : ℕ) (broken : Option Cause) → Tells time [] (control_line number broken)
control_says time number broken =
    subst (Tells time []) (ap (λ (l : List ℕ). (codes "CONTROL" ++ ((32 ∷ decimal number) ++ l)) ++ 10 ∷ []) (control_spaced broken) ∙ control_is (decimal number) (control_part broken))
    (quiet_line_says time (codes "CONTROL") (decimal number ∷ control_words broken) refl (quiet_then (refl, refl) (refl, refl) (quiet_number number (control_quiet broken))))

controls_report : (time number : ℕ) (controls : List (Option Cause)) → Tells time [] (control_lines number controls)
controls_report time number [] = nothing_tells time
controls_report time number (broken ∷ controls) = both_tell time [] [] (control_line number broken) (control_lines (number + 1) controls) (control_says time number broken) (controls_report time (number + 1) controls)

-- ---- the lines of pairs

cause_quiet : (cause : SuspendCause) {others : List (List ℕ)} → AreQuiet others → AreQuiet (cause_word cause ∷ others)
cause_quiet Command rest = quiet_then (refl, refl) (refl, refl) rest
cause_quiet Device rest = quiet_then (refl, refl) (refl, refl) rest
cause_quiet Session rest = quiet_then (refl, refl) (refl, refl) rest
cause_quiet Control rest = quiet_then (refl, refl) (refl, refl) rest
cause_quiet Group rest = quiet_then (refl, refl) (refl, refl) rest

abbrev state_words : PairState → List (List ℕ)
state_words Pending = codes "PENDING" ∷ []
state_words Copy = codes "COPY" ∷ []
state_words Duplex = codes "DUPLEX" ∷ []
state_words (Suspended cause since) = codes "SUSPENDED" ∷ cause_word cause ∷ codes "SINCE" ∷ stamp_text since.0 ∷ []

state_quiet : (state : PairState) → AreQuiet (state_words state)
state_quiet Pending = quiet_then (refl, refl) (refl, refl) no_more
state_quiet Copy = quiet_then (refl, refl) (refl, refl) no_more
state_quiet Duplex = quiet_then (refl, refl) (refl, refl) no_more
state_quiet (Suspended cause since) = quiet_then (refl, refl) (refl, refl) (cause_quiet cause (quiet_then (refl, refl) (refl, refl) (quiet_stamp since.0 no_more)))

suspended_is : (cause stamp : List ℕ) → codes " SUSPENDED" ++ ((32 ∷ cause) ++ (codes " SINCE " ++ (stamp ++ []))) ≡ codes " SUSPENDED " ++ cause ++ codes " SINCE " ++ stamp
suspended_is cause stamp = simp (append_assoc, append-nil)

state_spaced : (state : PairState) → spaced (state_words state) ≡ state_part state
state_spaced Pending = refl
state_spaced Copy = refl
state_spaced Duplex = refl
state_spaced (Suspended cause since) = suspended_is (cause_word cause) (stamp_text since.0)

row_is : (primary secondary after : List ℕ) → (codes "PAIR" ++ ((32 ∷ primary) ++ ((32 ∷ secondary) ++ after))) ++ 10 ∷ [] ≡ codes "PAIR " ++ primary ++ codes " " ++ secondary ++ after ++ 10 ∷ []
row_is primary secondary after = simp append_assoc

row_says : (time : ℕ) (row : PairRow) → has_row_serials row ≡ true → Tells time [] (row_line row)
row_says time row named =
    let serials = and_parts (is_serial row.primary) (is_serial row.secondary) named in
    subst (Tells time []) (ap (λ (l : List ℕ). (codes "PAIR" ++ ((32 ∷ row.primary) ++ ((32 ∷ row.secondary) ++ l))) ++ 10 ∷ []) (state_spaced row.state) ∙ row_is row.primary row.secondary (state_part row.state))
    (quiet_line_says time (codes "PAIR") (row.primary ∷ row.secondary ∷ state_words row.state) refl
    (quiet_then (refl, refl) (refl, refl) (quiet_name 6 row.primary (omega arith) serials.0 (quiet_name 6 row.secondary (omega arith) serials.1 (state_quiet row.state)))))

rows_tell : (time : ℕ) (rows : List PairRow) → list_all has_row_serials rows ≡ true → Tells time [] (flat_map row_line rows)
rows_tell time [] named = nothing_tells time
rows_tell time (row ∷ rows) named =
    let parts = and_parts (has_row_serials row) (list_all has_row_serials rows) named in
    both_tell time [] [] (row_line row) (flat_map row_line rows) (row_says time row parts.0) (rows_tell time rows parts.1)

-- ---- the report

-- A report says the time of its journal alone, and none of its lines is a reply.
pub report_says : (table : Table) (level : Level) (time : ℕ) (controls : List (Option Cause)) → HasNames table → Tells time (time ∷ []) (report_text table level time controls)
report_says table level time controls names =
    both_tell time (time ∷ []) [] (session_line table level time ++ control_lines 0 controls) (flat_map row_line table.rows)
    (both_tell time (time ∷ []) [] (session_line table level time) (control_lines 0 controls) (session_says table time names.named level) (controls_report time 0 controls)) (rows_tell time table.rows names.serials)
