-- A command's text: what is read from it is spelled so, and what is spelled is read.
use Rattle.std.proofs.Common.{◌≡◌, ℕ, true, nat_eq, List, [], ◌∷◌, ◌++◌, length, Option, Some, refl, sym, ap, subst, ◌∙◌, append-nil, append_assoc, inl, inr}
use Rattle.std.specs.Prelude.{bytes_eq, codes}
use Rattle.std.specs.List.{list_all, position_or_len}
use Rattle.std.specs.Option.{option_map}
use Rattle.std.proofs.lemmas.Slice.Eq.{bytes_eq-Decides}
use Rattle.tod_stamp.specs.Names.{is_name_char, is_session}
use Rattle.tod_stamp.specs.Fields.{within}
use Rattle.tod_stamp.proofs.NameLaws.{both_true}
use Rattle.pair_table.specs.declared.command.Choice.{Choice}
use Rattle.pair_table.specs.declared.command.Choice.TheVariants.{One}
use Rattle.pair_table.specs.declared.command.Command.{Command}
use Rattle.pair_table.specs.declared.command.Command.TheVariants.{Start, AddPair, DelPair, Suspend, Query, End}
use Rattle.pair_table.specs.declared.level.Level.{Level}
use Rattle.pair_table.specs.declared.level.Level.TheVariants.{Volume, Session, Group}
use Rattle.xrc_command.specs.Lines.{level_text, choice_text, group_text, command_text, short_start_text, IsCommandText, has_serials}
use Rattle.xrc_command.specs.Reading.{split_at, before_space, from_space, session_of, level_of, grouped_pair_of, choice_of, bare, command_of, command_at}
use Rattle.xrc_command.proofs.PartReading.{bind_some, map_some, allow_some, first_or, split_takes, split_again, space_parts, before_again, from_again, session_takes, session_again}
use Rattle.xrc_command.proofs.OperandReading.{level_operand, IsLevelOperand, level_takes, choice_operand, grouped_operand, grouped_takes, grouped_again, choice_takes, choice_again}

-- ---- what is read

-- a word, a session and an operand are a command's text
abbrev IsSpelled : (session word operand : List ℕ) (command : Command) → Type 0
IsSpelled session word operand command = IsCommandText session command (word ++ 32 ∷ (session ++ operand)) × (has_serials command ≡ true)

-- the same bytes, with what follows the session as one operand
grouped : (word session front part end : List ℕ) → word ++ (session ++ (front ++ part ++ end)) ≡ word ++ session ++ front ++ part ++ end
grouped word session front part end = sym (simp append_assoc)

start_text : (session operand : List ℕ) (level : Level) → operand ≡ level_operand level → codes "XSTART " ++ (session ++ operand) ≡ command_text session (Start level)
start_text session operand level e = ap (λ (t : List ℕ). codes "XSTART " ++ (session ++ t)) e ∙ grouped (codes "XSTART ") session (codes " ERRORLEVEL(") (level_text level) (codes ")")

volume_text : (word session operand : List ℕ) (choice : Choice) → operand ≡ choice_operand choice
    → word ++ (session ++ operand) ≡ word ++ session ++ codes " VOLUME(" ++ choice_text choice ++ codes ")"
volume_text word session operand choice e = ap (λ (t : List ℕ). word ++ (session ++ t)) e ∙ grouped word session (codes " VOLUME(") (choice_text choice) (codes ")")

-- the same of a pair with its group
grouped_text : (session primary secondary : List ℕ) (group : Option (List ℕ)) → codes "XADDPAIR " ++ (session ++ grouped_operand primary secondary group) ≡ command_text session (AddPair primary secondary group)
grouped_text session primary secondary group =
    let word = codes "XADDPAIR " in
    let front = choice_operand (One primary secondary) in
    let end = group_text group in
    sym (append_assoc word (session ++ front) end ∙ ap (λ (t : List ℕ). word ++ t) (append_assoc session front end))
    ∙ ap (λ (t : List ℕ). t ++ end) (volume_text word session front (One primary secondary) refl)

start_spelled : (session operand : List ℕ) (level : Level) → IsLevelOperand level operand → IsSpelled session (codes "XSTART") operand (Start level)
start_spelled session operand level (inl e) = (inl (start_text session operand level e), refl)
start_spelled session operand level (inr (by_volume, e)) = (inr (ap (λ l. Start l) by_volume, rw (e, append-nil session) refl), refl)

start_takes : (session operand : List ℕ) (command : Command) → option_map (λ level. Start level) (level_of operand) ≡ Some command → IsSpelled session (codes "XSTART") operand command
start_takes session operand command e =
    let found = map_some (λ (level : Level). Start level) (level_of operand) command e in
    subst (λ (c : Command). IsSpelled session (codes "XSTART") operand c) found.2 (start_spelled session operand found.0 (level_takes operand found.0 found.1))

add_pair_takes : (session operand : List ℕ) (command : Command) → option_map (λ pair. AddPair pair.0.0 pair.0.1 pair.1) (grouped_pair_of operand) ≡ Some command → IsSpelled session (codes "XADDPAIR") operand command
add_pair_takes session operand command e =
    let found = map_some (λ (pair : (List ℕ × List ℕ) × Option (List ℕ)). AddPair pair.0.0 pair.0.1 pair.1) (grouped_pair_of operand) command e in
    let pair = grouped_takes operand found.0 found.1 in
    let whole = ap (λ (t : List ℕ). codes "XADDPAIR " ++ (session ++ t)) pair.spelled ∙ grouped_text session found.0.0.0 found.0.0.1 found.0.1 in
    subst (λ (c : Command). IsSpelled session (codes "XADDPAIR") operand c) found.2 (inl whole, pair.serials)

del_pair_takes : (session operand : List ℕ) (command : Command) → option_map (λ choice. DelPair choice) (choice_of operand) ≡ Some command → IsSpelled session (codes "XDELPAIR") operand command
del_pair_takes session operand command e =
    let found = map_some (λ (choice : Choice). DelPair choice) (choice_of operand) command e in
    let choice = choice_takes operand found.0 found.1 in
    subst (λ (c : Command). IsSpelled session (codes "XDELPAIR") operand c) found.2 (inl (volume_text (codes "XDELPAIR ") session operand found.0 choice.0), choice.1)

suspend_takes : (session operand : List ℕ) (command : Command) → option_map (λ choice. Suspend choice) (choice_of operand) ≡ Some command → IsSpelled session (codes "XSUSPEND") operand command
suspend_takes session operand command e =
    let found = map_some (λ (choice : Choice). Suspend choice) (choice_of operand) command e in
    let choice = choice_takes operand found.0 found.1 in
    subst (λ (c : Command). IsSpelled session (codes "XSUSPEND") operand c) found.2 (inl (volume_text (codes "XSUSPEND ") session operand found.0 choice.0), choice.1)

-- a command with no operand, whose text has the session last
bare_takes : (session word operand : List ℕ) (command read : Command) → command_text session command ≡ word ++ 32 ∷ session → has_serials command ≡ true
    → bare command operand ≡ Some read → IsSpelled session word operand read
bare_takes session word operand command read text serials e =
    let found = allow_some (bytes_eq operand []) (Some command) read e in
    let same : command ≡ read = (let h = found.1 in cc) in
    let none = (bytes_eq-Decides operand []).0 found.0 in
    let whole : word ++ 32 ∷ (session ++ operand) ≡ word ++ 32 ∷ session = ap (λ (t : List ℕ). word ++ 32 ∷ (session ++ t)) none ∙ ap (λ (t : List ℕ). word ++ 32 ∷ t) (append-nil session) in
    subst (λ (c : Command). IsSpelled session word operand c) same (inl (whole ∙ sym text), serials)

-- where the word was found
at_word : (session word operand expected : List ℕ) (command : Command) → bytes_eq word expected ≡ true → IsSpelled session expected operand command → IsSpelled session word operand command
at_word session word operand expected command is spelled = subst (λ (w : List ℕ). IsSpelled session w operand command) (sym ((bytes_eq-Decides word expected).0 is)) spelled

word_takes : (session word operand : List ℕ) (command : Command) → command_of word operand ≡ Some command → IsSpelled session word operand command
unfolding command_of
word_takes session word operand command e =
    first_or (bytes_eq word (codes "XSTART")) _ _ command e (λ is r. at_word session word operand (codes "XSTART") command is (start_takes session operand command r)) (λ e1.
    first_or (bytes_eq word (codes "XADDPAIR")) _ _ command e1 (λ is r. at_word session word operand (codes "XADDPAIR") command is (add_pair_takes session operand command r)) (λ e2.
    first_or (bytes_eq word (codes "XDELPAIR")) _ _ command e2 (λ is r. at_word session word operand (codes "XDELPAIR") command is (del_pair_takes session operand command r)) (λ e3.
    first_or (bytes_eq word (codes "XSUSPEND")) _ _ command e3 (λ is r. at_word session word operand (codes "XSUSPEND") command is (suspend_takes session operand command r)) (λ e4.
    first_or (bytes_eq word (codes "XQUERY")) _ _ command e4 (λ is r. at_word session word operand (codes "XQUERY") command is (bare_takes session (codes "XQUERY") operand Query command refl refl r)) (λ e5.
    let last = allow_some (bytes_eq word (codes "XEND")) (bare End operand) command e5 in
    at_word session word operand (codes "XEND") command last.0 (bare_takes session (codes "XEND") operand End command refl refl last.1))))))

-- a text that spells a command to a session
pub record IsCommand (text session : List ℕ) (command : Command) : Type 0 where
  pub spells : IsCommandText session command text
  pub valid : is_session session ≡ true
  pub serials : has_serials command ≡ true

pub command_takes : (text session : List ℕ) (command : Command) → command_at text ≡ Some (session, command) → IsCommand text session command
unfolding command_at
command_takes text session command e =
    let one = bind_some (split_at 32 text) _ (session, command) e in
    let two = bind_some (session_of (before_space one.0.1)) _ (session, command) one.2 in
    let three = bind_some (command_of one.0.0 (from_space one.0.1)) _ (session, command) two.2 in
    let last : (two.0, three.0) ≡ (session, command) = (let h = three.2 in cc) in
    let name = session_takes (before_space one.0.1) two.0 two.1 in
    let spelled = word_takes two.0 one.0.0 (from_space one.0.1) three.0 three.1 in
    let rest : two.0 ++ from_space one.0.1 ≡ one.0.1 = ap (λ (t : List ℕ). t ++ from_space one.0.1) name.0 ∙ sym (space_parts one.0.1) in
    let whole : one.0.0 ++ 32 ∷ (two.0 ++ from_space one.0.1) ≡ text = ap (λ (t : List ℕ). one.0.0 ++ 32 ∷ t) rest ∙ sym (split_takes 32 text one.0.0 one.0.1 one.1) in
    subst (λ (y : List ℕ × Command). IsCommand text y.0 y.1) last
    (record { spells = subst (λ (t : List ℕ). IsCommandText two.0 three.0 t) whole spelled.0; valid = name.1; serials = spelled.1 })

-- ---- what is spelled

-- a text's word, and what follows the session
record IsParted (text session : List ℕ) (command : Command) : Type 0 where
  pub word : List ℕ
  pub operand : List ℕ
  pub parts : text ≡ word ++ 32 ∷ (session ++ operand)
  pub letters : list_all is_name_char word ≡ true
  pub apart : position_or_len (λ byte. nat_eq byte 32) operand ≡ 0
  pub reads : command_of word operand ≡ Some command

parted : (text session : List ℕ) (command : Command) → text ≡ command_text session command → has_serials command ≡ true → IsParted text session command
unfolding command_of
parted text session (Start Volume) e serials = record { word = codes "XSTART"; operand = level_operand Volume; parts = e ∙ sym (start_text session (level_operand Volume) Volume refl); letters = refl; apart = refl; reads = refl }
parted text session (Start Session) e serials = record { word = codes "XSTART"; operand = level_operand Session; parts = e ∙ sym (start_text session (level_operand Session) Session refl); letters = refl; apart = refl; reads = refl }
parted text session (Start Group) e serials = record { word = codes "XSTART"; operand = level_operand Group; parts = e ∙ sym (start_text session (level_operand Group) Group refl); letters = refl; apart = refl; reads = refl }
parted text session (AddPair primary secondary group) e serials = record {
  word = codes "XADDPAIR";
  operand = grouped_operand primary secondary group;
  parts = e ∙ sym (grouped_text session primary secondary group);
  letters = refl;
  apart = refl;
  reads = ap (λ (o : Option ((List ℕ × List ℕ) × Option (List ℕ))). option_map (λ pair. AddPair pair.0.0 pair.0.1 pair.1) o) (grouped_again primary secondary group serials);
}
parted text session (DelPair choice) e serials = record {
  word = codes "XDELPAIR";
  operand = choice_operand choice;
  parts = e ∙ sym (volume_text (codes "XDELPAIR ") session (choice_operand choice) choice refl);
  letters = refl;
  apart = refl;
  reads = ap (λ (o : Option Choice). option_map (λ c. DelPair c) o) (choice_again choice serials);
}
parted text session (Suspend choice) e serials = record {
  word = codes "XSUSPEND";
  operand = choice_operand choice;
  parts = e ∙ sym (volume_text (codes "XSUSPEND ") session (choice_operand choice) choice refl);
  letters = refl;
  apart = refl;
  reads = ap (λ (o : Option Choice). option_map (λ c. Suspend c) o) (choice_again choice serials);
}
parted text session Query e serials = record { word = codes "XQUERY"; operand = []; parts = e ∙ ap (λ (t : List ℕ). codes "XQUERY " ++ t) (sym (append-nil session)); letters = refl; apart = refl; reads = refl }
parted text session End e serials = record { word = codes "XEND"; operand = []; parts = e ∙ ap (λ (t : List ℕ). codes "XEND " ++ t) (sym (append-nil session)); letters = refl; apart = refl; reads = refl }

short_start : (text session : List ℕ) → text ≡ short_start_text session → IsParted text session (Start Volume)
unfolding command_of
short_start text session e = record { word = codes "XSTART"; operand = []; parts = e ∙ ap (λ (t : List ℕ). codes "XSTART " ++ t) (sym (append-nil session)); letters = refl; apart = refl; reads = refl }

any_parted : (text session : List ℕ) (command : Command) → IsCommandText session command text → has_serials command ≡ true → IsParted text session command
any_parted text session command (inl e) serials = parted text session command e serials
any_parted text session command (inr (is, e)) serials = subst (λ (c : Command). IsParted text session c) (sym is) (short_start text session e)

parted_again : (text session : List ℕ) (command : Command) → is_session session ≡ true → IsParted text session command → command_at text ≡ Some (session, command)
unfolding command_at
parted_again text session command valid k =
    let name = both_true (within 1 8 (length session)) (list_all is_name_char session) valid in
    rw (
      k.parts,
      split_again 32 k.word (session ++ k.operand) k.letters refl,
      before_again session k.operand name.1 k.apart,
      from_again session k.operand name.1 k.apart,
      session_again session valid,
      k.reads,
    ) refl

pub command_again : (text session : List ℕ) (command : Command) → IsCommand text session command → command_at text ≡ Some (session, command)
command_again text session command k = parted_again text session command k.valid (any_parted text session command k.spells k.serials)
