-- What is read as a line is one, and no bytes are another.
use Rattle.std.proofs.Common.{◌≡◌, ℕ, List, Option, Some, None, refl, sym, ap, subst, ◌∙◌, append_assoc}
use Rattle.std.specs.Prelude.{codes}
use Rattle.tod_stamp.specs.declared.stamp.Stamp.{Stamp}
use Rattle.pair_table.specs.declared.command.Command.{Command}
use Rattle.xrc_command.specs.declared.line.Line.{Line}
use Rattle.xrc_command.specs.Lines.{IsLine, LinesAreToldApart}
use Rattle.xrc_command.specs.Reading.{LinesAreRead, command_at, line_spelled, time_at}
use Rattle.xrc_command.proofs.PartReading.{bind_some, time_takes, time_again}
use Rattle.xrc_command.proofs.CommandReading.{command_takes, command_again}

pub line_takes : (bytes text : List ℕ) (line : Line) → time_at bytes ≡ Some (line.time, text) → command_at text ≡ Some (line.session, line.command) → IsLine line bytes
line_takes bytes text line e f =
    let timed = time_takes bytes line.time text e in
    let commanded = command_takes text line.session line.command f in
    record {
      digits = timed.digits;
      command = text;
      parts = timed.parts ∙ sym (append_assoc timed.digits (codes " ") text);
      reads = timed.reads;
      positive = timed.positive;
      spells = commanded.spells;
      session = commanded.valid;
      serials = commanded.serials;
    }

pub time_of_line : (bytes : List ℕ) (line : Line) → (k : IsLine line bytes) → time_at bytes ≡ Some (line.time, k.command)
time_of_line bytes line k = rw (k.parts ∙ append_assoc k.digits (codes " ") k.command) (time_again k.digits k.command line.time k.reads k.positive)

pub command_of_line : (bytes : List ℕ) (line : Line) → (k : IsLine line bytes) → command_at k.command ≡ Some (line.session, line.command)
command_of_line bytes line k = command_again k.command line.session line.command (record { spells = k.spells; valid = k.session; serials = k.serials })

-- where no time is read, there is no line
pub no_time : (bytes : List ℕ) → time_at bytes ≡ None → (line : Line) → IsLine line bytes → ⊥
no_time bytes none line k = let again = time_of_line bytes line k in cc

both_same : {A B : Type 0} (a c : A) (b d : B) (o : Option (A × B)) → o ≡ Some (a, b) → o ≡ Some (c, d) → (a ≡ c) × (b ≡ d)
both_same {A = A} {B = B} a c b d o e f = let same : ◌≡◌ {A = A × B} (a, b) (c, d) = cc in (ap (λ (y : A × B). y.0) same, ap (λ (y : A × B). y.1) same)

-- where no command follows the time, there is no line
pub no_command : (bytes text : List ℕ) (time : Stamp) → time_at bytes ≡ Some (time, text) → command_at text ≡ None → (line : Line) → IsLine line bytes → ⊥
no_command bytes text time e none line k =
    let timed = both_same time line.time text k.command (time_at bytes) e (time_of_line bytes line k) in
    clash (line.session, line.command) (sym none ∙ ap (λ (t : List ℕ). command_at t) timed.1 ∙ command_of_line bytes line k)
  where
    clash : (read : List ℕ × Command) → None ≡ Some read → ⊥
    clash read e = cc

-- ---- the line that bytes spell

pub spelled_from : (bytes text : List ℕ) (line : Line) → time_at bytes ≡ Some (line.time, text) → command_at text ≡ Some (line.session, line.command) → line_spelled bytes ≡ Some line
unfolding line_spelled
spelled_from bytes text line e f = rw (e, f) refl

pub none_spelled : (bytes : List ℕ) → time_at bytes ≡ None → line_spelled bytes ≡ None
unfolding line_spelled
none_spelled bytes e = rw e refl

pub no_command_spelled : (bytes text : List ℕ) (time : Stamp) → time_at bytes ≡ Some (time, text) → command_at text ≡ None → line_spelled bytes ≡ None
unfolding line_spelled
no_command_spelled bytes text time e f = rw (e, f) refl

pub line_is_spelled : (bytes : List ℕ) (line : Line) → IsLine line bytes → line_spelled bytes ≡ Some line
line_is_spelled bytes line k = spelled_from bytes k.command line (time_of_line bytes line k) (command_of_line bytes line k)

pub spelled_is_line : (bytes : List ℕ) (line : Line) → line_spelled bytes ≡ Some line → IsLine line bytes
unfolding line_spelled
spelled_is_line bytes line e =
    let timed = bind_some (time_at bytes) _ line e in
    let asked = bind_some (command_at timed.0.1) _ line timed.2 in
    let same : record { time = timed.0.0; session = asked.0.0; command = asked.0.1 } ≡ line = (let h = asked.2 in cc) in
    subst (λ (l : Line). IsLine l bytes) same (line_takes bytes timed.0.1 (record { time = timed.0.0; session = asked.0.0; command = asked.0.1 }) timed.1 asked.1)

pub lines_read : LinesAreRead
lines_read bytes line = (spelled_is_line bytes line, line_is_spelled bytes line)

-- ---- one line

abbrev line_with : Stamp → List ℕ → Command → Line
line_with time session command = record { time = time; session = session; command = command }

same_line : (t u : Stamp) (s r : List ℕ) (c d : Command) → t ≡ u → (s ≡ r) × (c ≡ d) → line_with t s c ≡ line_with u r d
same_line t u s r c d e f = rw (e, f.0, f.1) refl

-- what was read is the only line
pub only_line : (bytes text : List ℕ) (read : Line) → time_at bytes ≡ Some (read.time, text) → command_at text ≡ Some (read.session, read.command) → (line : Line) → IsLine line bytes → read ≡ line
only_line bytes text read e f line k =
    let timed = both_same read.time line.time text k.command (time_at bytes) e (time_of_line bytes line k) in
    let commanded = both_same read.session line.session read.command line.command (command_at text) f (ap (λ (t : List ℕ). command_at t) timed.1 ∙ command_of_line bytes line k) in
    same_line read.time line.time read.session line.session read.command line.command timed.0 commanded

pub told_apart : LinesAreToldApart
told_apart bytes line other k j = only_line bytes k.command line (time_of_line bytes line k) (command_of_line bytes line k) other j
