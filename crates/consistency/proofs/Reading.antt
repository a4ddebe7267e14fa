-- What can be read of exact replies.
use Rattle.std.proofs.Common.{◌≡◌, ℕ, ◌^◌, ◌<◌, ◌||◌, Bool, true, false, true≢false, List, [], ◌∷◌, ◌++◌, Option, Some, None, Result, Ok, Err, refl, sym, ap, subst, ◌∙◌, append_assoc, arith}
use Rattle.std.specs.Prelude.{◌==◌, IfSome, bytes_eq, codes, decimal, is_ok, if◌then◌else◌}
use Rattle.std.specs.Option.{option_map}
use Rattle.std.proofs.lemmas.Fmt.{decimal_injective}
use Rattle.std.proofs.lemmas.List.{append_cancel_left, append_cancel_right}
use Rattle.tod_stamp.specs.Stamps.{stamp_of_digits, stamp_text}
use Rattle.tod_stamp.proofs.TextLaws.{texts_back}
use Rattle.sidefile.specs.Breaks.{stamp}
use Rattle.pair_table.specs.declared.command.Change.{Change}
use Rattle.pair_table.specs.declared.command.Command.{Command}
use Rattle.pair_table.specs.declared.command.Command.TheVariants.{Start, AddPair, DelPair, Suspend, Query, End}
use Rattle.pair_table.specs.declared.command.Refusal.{Refusal}
use Rattle.pair_table.specs.declared.command.Refusal.TheVariants.{NoSession, SessionExists, NoPrimary, NoSecondary, SecondaryInUse, AlreadyPaired, TooSmall, OtherSecondary, NotPaired, Ended, ControlBroken}
use Rattle.xquery_report.specs.Replies.{command_word, refusal_name, refusal_number}
use Rattle.xrc_command.specs.declared.line.Line.{Line}
use Rattle.consistency.specs.Stages.{ScriptRun, Stage}
use Rattle.consistency.specs.Courses.{Answered}
use Rattle.consistency.specs.Replies.{answer_word}
use Rattle.consistency.specs.Steps.{table_on_the_way}
use Rattle.consistency.specs.Times.{times_of, whole_lines, words}
use Rattle.consistency.proofs.Pieces.{line_ended}
use Rattle.consistency.proofs.Spelled.{AreWords, no_feed_spelled, spelled, stamp_is_word, words_spelled}
use Rattle.consistency.proofs.Spelled.AreWords.{one_more}
use Rattle.consistency.specs.Answering.{ReplyContent, reply_content}
use Rattle.consistency.specs.Leads.{Point}
use Rattle.consistency.specs.Replying.{HasNames, HasShortNumbers, IsExact, SaysTheSame, said_number, own_line, said_refusal, report_before, said_tracks}
use Rattle.consistency.specs.Ways.{PassedPoint}
use Rattle.consistency.proofs.Replying.{answer_is, answer_words, command_is, line_is, others, others_are, refusal_words, report_there, said_words, tracks_words, value_words}
use Rattle.consistency.proofs.Words.{time_word}

-- ---- words

-- Lists that are the same begin alike.
head_same : {X : Type 0} (x y : X) (xs ys : List X) → x ∷ xs ≡ y ∷ ys → x ≡ y
head_same x y xs ys same = cc

tail_same : {X : Type 0} (x y : X) (xs ys : List X) → x ∷ xs ≡ y ∷ ys → xs ≡ ys
tail_same x y xs ys same = cc

-- Stamps of one text are one.
stamp_read : (s t : ℕ) → s < 2 ^ 64 → t < 2 ^ 64 → stamp_text s ≡ stamp_text t → s ≡ t
stamp_read s t short brief same =
    let back : s ∷ [] ≡ t ∷ [] = sym (ap times_of (texts_back (record { 0 = s }) short)) ∙ ap (λ (l : List ℕ). times_of (stamp_of_digits l)) same ∙ ap times_of (texts_back (record { 0 = t }) brief) in
    head_same s t [] [] back

told_same : (o p : Option ℕ) → IfSome o (λ t. t < 2 ^ 64) → IfSome p (λ t. t < 2 ^ 64) → said_words (option_map stamp o) ≡ said_words (option_map stamp p) → o ≡ p
told_same None None short brief same = refl
told_same None (Some t) short brief same = absurd cc
told_same (Some s) None short brief same = absurd cc
told_same (Some s) (Some t) short brief same = ap Some (stamp_read s t short brief (append_cancel_left (codes "T=") (stamp_text s) (stamp_text t) (head_same (time_word s) (time_word t) [] [] same)))

-- ---- an add

abbrev is_add : Command → Bool
is_add (AddPair primary secondary group) = true
is_add (Start level) = false
is_add (DelPair choice) = false
is_add (Suspend choice) = false
is_add Query = false
is_add End = false

add_is : (command : Command) → bytes_eq (command_word command) (codes "XADDPAIR") ≡ is_add command
add_is (AddPair primary secondary group) = refl
add_is (Start level) = refl
add_is (DelPair choice) = refl
add_is (Suspend choice) = refl
add_is Query = refl
add_is End = refl

abbrev words_of_add : Bool → (tracks : ℕ) → List (List ℕ)
words_of_add is tracks = if is then codes "TRACKS" ∷ decimal tracks ∷ [] else []

abbrev tracks_of_add : Bool → (tracks : ℕ) → Option ℕ
tracks_of_add is tracks = if is then Some tracks else None

add_words : (command : Command) (tracks : ℕ) → tracks_words command tracks ≡ words_of_add (is_add command) tracks
add_words (AddPair primary secondary group) tracks = refl
add_words (Start level) tracks = refl
add_words (DelPair choice) tracks = refl
add_words (Suspend choice) tracks = refl
add_words Query tracks = refl
add_words End tracks = refl

add_tracks : (command : Command) (change : Change) (tracks : ℕ) → said_tracks command (Ok change) tracks ≡ tracks_of_add (is_add command) tracks
add_tracks (AddPair primary secondary group) change tracks = refl
add_tracks (Start level) change tracks = refl
add_tracks (DelPair choice) change tracks = refl
add_tracks (Suspend choice) change tracks = refl
add_tracks Query change tracks = refl
add_tracks End change tracks = refl

refused_tracks : (command : Command) (why : Refusal) (tracks : ℕ) → said_tracks command (Err why) tracks ≡ None
refused_tracks (AddPair primary secondary group) why tracks = refl
refused_tracks (Start level) why tracks = refl
refused_tracks (DelPair choice) why tracks = refl
refused_tracks (Suspend choice) why tracks = refl
refused_tracks Query why tracks = refl
refused_tracks End why tracks = refl

-- The words after OK say the tracks of an add, and the time.
add_read : (is : Bool) (m n : ℕ) (told late : List (List ℕ)) → IfSome (tracks_of_add is m) (λ x. x < 2 ^ 64) → IfSome (tracks_of_add is n) (λ x. x < 2 ^ 64) → words_of_add is m ++ told ≡ words_of_add is n ++ late
    → (tracks_of_add is m ≡ tracks_of_add is n) × (told ≡ late)
add_read true m n told late short brief same =
    let after = tail_same (codes "TRACKS") (codes "TRACKS") (decimal m ∷ told) (decimal n ∷ late) same in
    (ap Some (decimal_injective m n short brief (head_same (decimal m) (decimal n) told late after)), tail_same (decimal m) (decimal n) told late after)
add_read false m n told late short brief same = (refl, same)

-- ---- a refusal

abbrev refusal_of : (number value : ℕ) → Refusal
refusal_of number value =
    if number == 1 then NoSession else if number == 2 then SessionExists else if number == 3 then NoPrimary else if number == 4 then NoSecondary else if number == 5 then SecondaryInUse
    else if number == 6 then AlreadyPaired else if number == 7 then TooSmall value else if number == 8 then OtherSecondary else if number == 9 then NotPaired else if number == 10 then Ended
    else ControlBroken value

refusal_is : (why : Refusal) → refusal_of (refusal_number why) (said_number why) ≡ why
refusal_is NoSession = refl
refusal_is SessionExists = refl
refusal_is NoPrimary = refl
refusal_is NoSecondary = refl
refusal_is SecondaryInUse = refl
refusal_is AlreadyPaired = refl
refusal_is (TooSmall tracks) = refl
refusal_is OtherSecondary = refl
refusal_is NotPaired = refl
refusal_is Ended = refl
refusal_is (ControlBroken control) = refl

-- whether a refusal of this number tells a value
abbrev has_value : (number : ℕ) → Bool
has_value number = number == 7 || number == 11

abbrev value_by : Bool → (value : ℕ) → List (List ℕ)
value_by has value = if has then decimal value ∷ [] else []

value_is : (why : Refusal) → value_words why ≡ value_by (has_value (refusal_number why)) (said_number why)
value_is NoSession = refl
value_is SessionExists = refl
value_is NoPrimary = refl
value_is NoSecondary = refl
value_is SecondaryInUse = refl
value_is AlreadyPaired = refl
value_is (TooSmall tracks) = refl
value_is OtherSecondary = refl
value_is NotPaired = refl
value_is Ended = refl
value_is (ControlBroken control) = refl

no_value : (why : Refusal) → has_value (refusal_number why) ≡ false → said_number why ≡ 0
no_value NoSession is = refl
no_value SessionExists is = refl
no_value NoPrimary is = refl
no_value NoSecondary is = refl
no_value SecondaryInUse is = refl
no_value AlreadyPaired is = refl
no_value (TooSmall tracks) is = absurd cc
no_value OtherSecondary is = refl
no_value NotPaired is = refl
no_value Ended is = refl
no_value (ControlBroken control) is = absurd cc

number_short : (why : Refusal) → refusal_number why < 2 ^ 64
number_short NoSession = omega arith
number_short SessionExists = omega arith
number_short NoPrimary = omega arith
number_short NoSecondary = omega arith
number_short SecondaryInUse = omega arith
number_short AlreadyPaired = omega arith
number_short (TooSmall tracks) = omega arith
number_short OtherSecondary = omega arith
number_short NotPaired = omega arith
number_short Ended = omega arith
number_short (ControlBroken control) = omega arith

value_read : (has : Bool) (m n : ℕ) (told late : List (List ℕ)) → m < 2 ^ 64 → n < 2 ^ 64 → (has ≡ false → m ≡ 0) → (has ≡ false → n ≡ 0) → value_by has m ++ told ≡ value_by has n ++ late → (m ≡ n) × (told ≡ late)
value_read true m n told late short brief none neither same = (decimal_injective m n short brief (head_same (decimal m) (decimal n) told late same), tail_same (decimal m) (decimal n) told late same)
value_read false m n told late short brief none neither same = (none refl ∙ sym (neither refl), same)

-- The words after REFUSED say the refusal, and the time.
refusal_read : (why other : Refusal) (told late : List (List ℕ)) → said_number why < 2 ^ 64 → said_number other < 2 ^ 64 → refusal_words why ++ told ≡ refusal_words other ++ late → (why ≡ other) × (told ≡ late)
refusal_read why other told late short brief same = (sym (refusal_is why) ∙ ap (λ (n : ℕ). refusal_of n (said_number why)) number ∙ ap (refusal_of (refusal_number other)) values.0 ∙ refusal_is other, values.1)
  where
    spelling : decimal (refusal_number why) ≡ decimal (refusal_number other)
    spelling = head_same (decimal (refusal_number why)) (decimal (refusal_number other)) (refusal_name why ∷ value_words why ++ told) (refusal_name other ∷ value_words other ++ late) same

    number : refusal_number why ≡ refusal_number other
    number = decimal_injective (refusal_number why) (refusal_number other) (number_short why) (number_short other) spelling

    after : value_words why ++ told ≡ value_words other ++ late
    after =
        tail_same (refusal_name why) (refusal_name other) (value_words why ++ told) (value_words other ++ late)
        (tail_same (decimal (refusal_number why)) (decimal (refusal_number other)) (refusal_name why ∷ value_words why ++ told) (refusal_name other ∷ value_words other ++ late) same)

    has_same : has_value (refusal_number why) ≡ has_value (refusal_number other)
    has_same = ap has_value number

    values : (said_number why ≡ said_number other) × (told ≡ late)
    values =
        value_read (has_value (refusal_number other)) (said_number why) (said_number other) told late short brief (λ none. no_value why (has_same ∙ none)) (no_value other)
        (ap (λ (b : Bool). value_by b (said_number why) ++ told) (sym has_same) ∙ ap (λ (l : List (List ℕ)). l ++ told) (sym (value_is why)) ∙ after ∙ ap (λ (l : List (List ℕ)). l ++ late) (value_is other))

-- ---- a reply's own line

accepted_alike : (b c : Bool) → answer_word b ≡ answer_word c → b ≡ c
accepted_alike true true same = refl
accepted_alike false false same = refl
accepted_alike true false same = absurd (true≢false (ap (λ (w : List ℕ). bytes_eq w (codes "OK")) same))
accepted_alike false true same = absurd (true≢false (sym (ap (λ (w : List ℕ). bytes_eq w (codes "OK")) same)))

-- The words after OK and REFUSED say what the answer says.
answer_read : (c d : Command) (x y : Result Change Refusal) (m n : ℕ) (told late : List (List ℕ)) → is_add c ≡ is_add d → is_ok x ≡ is_ok y → IfSome (said_tracks c x m) (λ k. k < 2 ^ 64) → IfSome (said_tracks d y n) (λ k. k < 2 ^ 64)
    → IfSome (said_refusal x) (λ r. said_number r < 2 ^ 64) → IfSome (said_refusal y) (λ r. said_number r < 2 ^ 64) → answer_words c x m ++ told ≡ answer_words d y n ++ late
    → (said_refusal x ≡ said_refusal y) × (said_tracks c x m ≡ said_tracks d y n) × (told ≡ late)
answer_read c d (Ok change) (Ok other) m n told late add ok tracks more refusal why same = (refl, add_tracks c change m ∙ ap (λ (b : Bool). tracks_of_add b m) add ∙ read.0 ∙ sym (add_tracks d other n), read.1)
  where
    read : (tracks_of_add (is_add d) m ≡ tracks_of_add (is_add d) n) × (told ≡ late)
    read =
        add_read (is_add d) m n told late
        (subst (λ (o : Option ℕ). IfSome o (λ k. k < 2 ^ 64)) (add_tracks c change m ∙ ap (λ (b : Bool). tracks_of_add b m) add) tracks)
        (subst (λ (o : Option ℕ). IfSome o (λ k. k < 2 ^ 64)) (add_tracks d other n) more)
        (ap (λ (b : Bool). words_of_add b m ++ told) (sym add) ∙ ap (λ (l : List (List ℕ)). l ++ told) (sym (add_words c m)) ∙ same ∙ ap (λ (l : List (List ℕ)). l ++ late) (add_words d n))
answer_read c d (Err one) (Err other) m n told late add ok tracks more refusal why same =
    let read = refusal_read one other told late refusal why same in
    (ap Some read.0, refused_tracks c one m ∙ sym (refused_tracks d other n), read.1)
answer_read c d (Ok change) (Err other) m n told late add ok tracks more refusal why same = absurd (true≢false ok)
answer_read c d (Err one) (Ok change) m n told late add ok tracks more refusal why same = absurd (true≢false (sym ok))

-- a reply's own line, without its line feed
abbrev words_after : Line → ReplyContent → List (List ℕ)
words_after a x = others a.time.0 a.command x.answer x.tracks (option_map stamp x.time)

abbrev own_words : Line → ReplyContent → List ℕ
own_words a x = spelled (stamp_text a.time.0) (command_word a.command ∷ answer_word (is_ok x.answer) ∷ words_after a x)

own_is : (a : Line) (x : ReplyContent) → own_words a x ++ 10 ∷ [] ≡ own_line a x
own_is a x = line_is a.time.0 a.command x.answer x.tracks (option_map stamp x.time)

all_words : (a : Line) (x : ReplyContent) → AreWords (command_word a.command ∷ answer_word (is_ok x.answer) ∷ words_after a x)
all_words a x =
    one_more (command_is a.time.0 a.command x.answer x.tracks (option_map stamp x.time))
    (one_more (answer_is a.time.0 a.command x.answer x.tracks (option_map stamp x.time) (is_ok x.answer)) (others_are a.time.0 a.command x.answer x.tracks (option_map stamp x.time)))

own_read : (a : Line) (x : ReplyContent) → words (own_words a x) ≡ stamp_text a.time.0 ∷ command_word a.command ∷ answer_word (is_ok x.answer) ∷ words_after a x
own_read a x = words_spelled (stamp_text a.time.0) (command_word a.command ∷ answer_word (is_ok x.answer) ∷ words_after a x) (stamp_is_word a.time.0) (all_words a x)

-- Lines of the same words say the same.
pub own_tell_apart : (a b : Line) (x y : ReplyContent) → HasShortNumbers a x → HasShortNumbers b y → own_words a x ≡ own_words b y → SaysTheSame a b x y
own_tell_apart a b x y short brief same = record {
  time = stamp_read a.time.0 b.time.0 short.time brief.time first;
  word = second;
  refusal = read.0;
  tracks = read.1;
  replied = told_same x.time y.time short.replied brief.replied read.2;
}
  where
    words_same : stamp_text a.time.0 ∷ command_word a.command ∷ answer_word (is_ok x.answer) ∷ words_after a x ≡ stamp_text b.time.0 ∷ command_word b.command ∷ answer_word (is_ok y.answer) ∷ words_after b y
    words_same = sym (own_read a x) ∙ ap words same ∙ own_read b y

    first : stamp_text a.time.0 ≡ stamp_text b.time.0
    first = head_same (stamp_text a.time.0) (stamp_text b.time.0) (command_word a.command ∷ answer_word (is_ok x.answer) ∷ words_after a x) (command_word b.command ∷ answer_word (is_ok y.answer) ∷ words_after b y) words_same

    from_second : command_word a.command ∷ answer_word (is_ok x.answer) ∷ words_after a x ≡ command_word b.command ∷ answer_word (is_ok y.answer) ∷ words_after b y
    from_second = tail_same (stamp_text a.time.0) (stamp_text b.time.0) (command_word a.command ∷ answer_word (is_ok x.answer) ∷ words_after a x) (command_word b.command ∷ answer_word (is_ok y.answer) ∷ words_after b y) words_same

    second : command_word a.command ≡ command_word b.command
    second = head_same (command_word a.command) (command_word b.command) (answer_word (is_ok x.answer) ∷ words_after a x) (answer_word (is_ok y.answer) ∷ words_after b y) from_second

    from_third : answer_word (is_ok x.answer) ∷ words_after a x ≡ answer_word (is_ok y.answer) ∷ words_after b y
    from_third = tail_same (command_word a.command) (command_word b.command) (answer_word (is_ok x.answer) ∷ words_after a x) (answer_word (is_ok y.answer) ∷ words_after b y) from_second

    third : answer_word (is_ok x.answer) ≡ answer_word (is_ok y.answer)
    third = head_same (answer_word (is_ok x.answer)) (answer_word (is_ok y.answer)) (words_after a x) (words_after b y) from_third

    after : words_after a x ≡ words_after b y
    after = tail_same (answer_word (is_ok x.answer)) (answer_word (is_ok y.answer)) (words_after a x) (words_after b y) from_third

    read : (said_refusal x.answer ≡ said_refusal y.answer) × (said_tracks a.command x.answer x.tracks ≡ said_tracks b.command y.answer y.tracks) × (said_words (option_map stamp x.time) ≡ said_words (option_map stamp y.time))
    read =
        answer_read a.command b.command x.answer y.answer x.tracks y.tracks (said_words (option_map stamp x.time)) (said_words (option_map stamp y.time))
        (sym (add_is a.command) ∙ ap (λ (w : List ℕ). bytes_eq w (codes "XADDPAIR")) second ∙ add_is b.command) (accepted_alike (is_ok x.answer) (is_ok y.answer) third) short.tracks brief.tracks short.refusal brief.refusal after

pub lines_tell_apart : (a b : Line) (x y : ReplyContent) → HasShortNumbers a x → HasShortNumbers b y → own_line a x ≡ own_line b y → SaysTheSame a b x y
lines_tell_apart a b x y short brief same =
    own_tell_apart a b x y short brief (append_cancel_right (own_words a x) (own_words b y) (10 ∷ []) (own_is a x ∙ same ∙ sym (own_is b y)))

-- ---- a whole reply

-- Lists that end alike have the same last item.
last_same : (xs ys : List (List ℕ)) (x y : List ℕ) → xs ++ x ∷ [] ≡ ys ++ y ∷ [] → x ≡ y
last_same [] [] x y same = cc
last_same [] (v ∷ []) x y same = absurd cc
last_same [] (v ∷ w ∷ ys) x y same = absurd cc
last_same (v ∷ []) [] x y same = absurd cc
last_same (v ∷ w ∷ xs) [] x y same = absurd cc
last_same (v ∷ xs) (w ∷ ys) x y same = last_same xs ys x y (tail_same v w (xs ++ x ∷ []) (ys ++ y ∷ []) same)

module _ (run other : ScriptRun) (s t : Stage) (first start : Point) (points passed : List PassedPoint) (number place : ℕ) (a b : Answered) (names : HasNames s.table) (named : HasNames t.table) where
  abbrev x : ReplyContent
  x = reply_content run s first points number a

  abbrev y : ReplyContent
  y = reply_content other t start passed place b

  abbrev report : List ℕ
  report = report_before run (table_on_the_way run.level a.changes s.table) a.line

  abbrev report_then : List ℕ
  report_then = report_before other (table_on_the_way other.level b.changes t.table) b.line

  lines_of : whole_lines (report ++ own_words a.line x ++ 10 ∷ []) ≡ whole_lines report ++ own_words a.line x ∷ []
  lines_of =
      line_ended report (own_words a.line x) (report_there run s first points number a names).whole
      (no_feed_spelled (stamp_text a.line.time.0) (command_word a.line.command ∷ answer_word (is_ok x.answer) ∷ words_after a.line x) (stamp_is_word a.line.time.0) (all_words a.line x))

  lines_then : whole_lines (report_then ++ own_words b.line y ++ 10 ∷ []) ≡ whole_lines report_then ++ own_words b.line y ∷ []
  lines_then =
      line_ended report_then (own_words b.line y) (report_there other t start passed place b named).whole
      (no_feed_spelled (stamp_text b.line.time.0) (command_word b.line.command ∷ answer_word (is_ok y.answer) ∷ words_after b.line y) (stamp_is_word b.line.time.0) (all_words b.line y))

  pub exact_tell_apart : HasShortNumbers a.line x → HasShortNumbers b.line y → IsExact run s first points number a → IsExact other t start passed place b → a.reply ≡ b.reply → SaysTheSame a.line b.line x y × (report ≡ report_then)
  exact_tell_apart short brief exact precise same = (own_tell_apart a.line b.line x y short brief own, append_cancel_right report report_then (own_line a.line x) reports)
    where
      texts : report ++ own_line a.line x ≡ report_then ++ own_line b.line y
      texts = sym exact ∙ same ∙ precise

      spelt : report ++ own_words a.line x ++ 10 ∷ [] ≡ report_then ++ own_words b.line y ++ 10 ∷ []
      spelt =
          append_assoc report (own_words a.line x) (10 ∷ []) ∙ ap (λ (l : List ℕ). report ++ l) (own_is a.line x) ∙ texts
          ∙ sym (append_assoc report_then (own_words b.line y) (10 ∷ []) ∙ ap (λ (l : List ℕ). report_then ++ l) (own_is b.line y))

      own : own_words a.line x ≡ own_words b.line y
      own = last_same (whole_lines report) (whole_lines report_then) (own_words a.line x) (own_words b.line y) (sym lines_of ∙ ap whole_lines spelt ∙ lines_then)

      lines : own_line a.line x ≡ own_line b.line y
      lines = sym (own_is a.line x) ∙ ap (λ (l : List ℕ). l ++ 10 ∷ []) own ∙ own_is b.line y

      reports : report ++ own_line a.line x ≡ report_then ++ own_line a.line x
      reports = texts ∙ ap (λ (l : List ℕ). report_then ++ l) (sym lines)
