-- A line has 70 bytes at most.
use Rattle.std.proofs.Common.{◌≡◌, ◌<◌, ◌≤◌, ℕ, ◌+◌, true, ◌&&◌, nat_le, List, ◌++◌, length, Option, Some, None, refl, sym, ap, subst, ◌∙◌, arith, inl, inr, length-append}
use Rattle.std.specs.Prelude.{codes}
use Rattle.std.specs.List.{list_all}
use Rattle.std.proofs.lemmas.Bool.{leb-true}
use Rattle.tod_stamp.specs.Names.{is_name_char, is_name, is_serial}
use Rattle.tod_stamp.specs.Fields.{within}
use Rattle.tod_stamp.proofs.NameLaws.{both_true}
use Rattle.pair_table.specs.declared.command.Choice.{Choice}
use Rattle.pair_table.specs.declared.command.Choice.TheVariants.{One, All}
use Rattle.pair_table.specs.declared.command.Command.{Command}
use Rattle.pair_table.specs.declared.command.Command.TheVariants.{Start, AddPair, DelPair, Suspend, Query, End}
use Rattle.pair_table.specs.declared.level.Level.TheVariants.{Volume, Session, Group}
use Rattle.xrc_command.specs.declared.line.Line.{Line}
use Rattle.pair_table.specs.Rows.{is_group}
use Rattle.xrc_command.specs.Lines.{IsLine, IsCommandText, command_text, choice_text, group_text, pair_text, has_serials, names_serials}
use Rattle.xrc_command.specs.Reading.{line_spelled}
use Rattle.xrc_command.proofs.LineReading.{spelled_is_line}
use Rattle.xrc_command.proofs.PartReading.{digits_length}

name_short : (most : ℕ) (name : List ℕ) → is_name most name ≡ true → length name ≤ most
name_short most name e =
    let parts = both_true (within 1 most (length name)) (list_all is_name_char name) e in
    let size = both_true (nat_le 1 (length name)) (nat_le (length name) most) parts.0 in
    leb-true (length name) most size.1

-- a text around a part
around : (front part end : List ℕ) → length (front ++ part ++ end) ≡ length front + length part + length end
around front part end = length-append (front ++ part) end ∙ ap (λ n. n + length end) (length-append front part)

pair_short : (primary secondary : List ℕ) → (is_serial primary && is_serial secondary) ≡ true → length (pair_text primary secondary) ≤ 13
pair_short primary secondary e =
    let both = both_true (is_serial primary) (is_serial secondary) e in
    let first = name_short 6 primary both.0 in
    let second = name_short 6 secondary both.1 in
    omega (arith, first, second, around primary (codes ",") secondary)

choice_short : (choice : Choice) → names_serials choice ≡ true → length (choice_text choice) ≤ 13
choice_short (One primary secondary) e = pair_short primary secondary e
choice_short All e = omega arith

group_short : (group : Option (List ℕ)) → is_group group ≡ true → length (group_text group) ≤ 14
group_short None e = omega arith
group_short (Some name) e = omega (arith, name_short 6 name e, around (codes " GROUP(") name (codes ")"))

-- a word, a session and an operand with something in it
operand_short : (word session name part : List ℕ) → length (word ++ session ++ name ++ part ++ codes ")") ≡ length word + length session + length name + length part + 1
operand_short word session name part = around (word ++ session ++ name) part (codes ")") ∙ ap (λ n. n + length part + 1) (around word session name)

command_short : (session : List ℕ) (command : Command) → length session ≤ 8 → has_serials command ≡ true → length (command_text session command) ≤ 53
command_short session (Start Volume) s e = omega (arith, s, operand_short (codes "XSTART ") session (codes " ERRORLEVEL(") (codes "VOLUME"))
command_short session (Start Session) s e = omega (arith, s, operand_short (codes "XSTART ") session (codes " ERRORLEVEL(") (codes "SESSION"))
command_short session (Start Group) s e = omega (arith, s, operand_short (codes "XSTART ") session (codes " ERRORLEVEL(") (codes "GROUP"))
command_short session (AddPair primary secondary group) s e =
    let both = both_true (is_serial primary && is_serial secondary) (is_group group) e in
    let pair = pair_short primary secondary both.0 in
    let given = group_short group both.1 in
    let front = codes "XADDPAIR " ++ session ++ codes " VOLUME(" ++ pair_text primary secondary ++ codes ")" in
    omega (arith, s, pair, given, operand_short (codes "XADDPAIR ") session (codes " VOLUME(") (pair_text primary secondary), length-append front (group_text group))
command_short session (DelPair choice) s e =
    let chosen = choice_short choice e in
    omega (arith, s, chosen, operand_short (codes "XDELPAIR ") session (codes " VOLUME(") (choice_text choice))
command_short session (Suspend choice) s e =
    let chosen = choice_short choice e in
    omega (arith, s, chosen, operand_short (codes "XSUSPEND ") session (codes " VOLUME(") (choice_text choice))
command_short session Query s e = omega (arith, s, length-append (codes "XQUERY ") session)
command_short session End s e = omega (arith, s, length-append (codes "XEND ") session)

text_short : (session : List ℕ) (command : Command) (text : List ℕ) → length session ≤ 8 → has_serials command ≡ true → IsCommandText session command text → length text ≤ 53
text_short session command text s e (inl is) = subst (λ (t : List ℕ). length t ≤ 53) (sym is) (command_short session command s e)
text_short session command text s e (inr (by_volume, is)) = subst (λ (t : List ℕ). length t ≤ 53) (sym is) (omega (arith, s, length-append (codes "XSTART ") session))

pub line_short : (bytes : List ℕ) (line : Line) → IsLine line bytes → length bytes ≤ 70
line_short bytes line k =
    let session = name_short 8 line.session k.session in
    let command = text_short line.session line.command k.command session k.serials k.spells in
    let digits = digits_length k.digits line.time k.reads in
    subst (λ (t : List ℕ). length t ≤ 70) (sym k.parts) (omega (arith, command, digits, around k.digits (codes " ") k.command))

-- Longer bytes spell none.
pub long_spells_none : (bytes : List ℕ) → 70 < length bytes → line_spelled bytes ≡ None
long_spells_none bytes long = by_line (line_spelled bytes) refl
  where
    by_line : (o : Option Line) → line_spelled bytes ≡ o → o ≡ None
    by_line None is = refl
    by_line (Some line) is = absurd (omega (arith, long, line_short bytes line (spelled_is_line bytes line is)))
