-- What the lines of a text say, one after the other.
use Rattle.std.proofs.Common.{◌≡◌, ℕ, ◌+◌, ◌<◌, List, [], ◌∷◌, ◌++◌, length, nat_eq, false, Result, Ok, Err, refl, ap, ◌∙◌}
use Rattle.write_trace.specs.Headers.{header_spelling}
use Rattle.trace_lines.specs.declared.refusal.Cause.{Cause}
use Rattle.trace_lines.specs.declared.refusal.Refusal.{Refusal}
use Rattle.trace_lines.specs.Pieces.{first_piece, after_piece, pieces_of}
use Rattle.trace_lines.specs.Traces.{Said, nothing_said, said_from, spelled, trace_in, with_text}
use Rattle.trace_lines.proofs.Texts.{first_of_pieces, no_pieces}

-- what is said on, by what is said with one line
abbrev said_on : (number : ℕ) → (lines : List (List ℕ)) → Result Said Cause → Result Said Refusal
said_on number lines (Ok next) = said_from (number + 1) next lines
said_on number lines (Err cause) = Err (record { line = number + 1; cause = cause })

line_taken : (number : ℕ) (said next : Said) (line : List ℕ) (lines : List (List ℕ)) → with_text line said ≡ Ok next → said_from number said (line ∷ lines) ≡ said_from (number + 1) next lines
line_taken number said next line lines is = ap (said_on number lines) is

line_refused : (number : ℕ) (said : Said) (cause : Cause) (line : List ℕ) (lines : List (List ℕ)) → with_text line said ≡ Err cause → said_from number said (line ∷ lines) ≡ Err (record { line = number + 1; cause = cause })
line_refused number said cause line lines is = ap (said_on number lines) is

pub said_step : (number : ℕ) (said next : Said) (text : List ℕ) → 0 < length text → with_text (first_piece 10 text) said ≡ Ok next → said_from number said (pieces_of 10 text) ≡ said_from (number + 1) next (pieces_of 10 (after_piece 10 text))
said_step number said next text some is = ap (said_from number said) (first_of_pieces 10 text some) ∙ line_taken number said next (first_piece 10 text) (pieces_of 10 (after_piece 10 text)) is

pub said_stop : (number : ℕ) (said : Said) (cause : Cause) (text : List ℕ) → 0 < length text → with_text (first_piece 10 text) said ≡ Err cause → said_from number said (pieces_of 10 text) ≡ Err (record { line = number + 1; cause = cause })
said_stop number said cause text some is = ap (said_from number said) (first_of_pieces 10 text some) ∙ line_refused number said cause (first_piece 10 text) (pieces_of 10 (after_piece 10 text)) is

pub said_end : (number : ℕ) (said : Said) (text : List ℕ) → length text ≡ 0 → said_from number said (pieces_of 10 text) ≡ said_from number said []
said_end number said text none = ap (said_from number said) (no_pieces 10 text none)

-- Where a volume was said, the trace is what was said.
pub trace_said : (number : ℕ) (said : Said) (text rest : List ℕ) → length rest ≡ 0 → nat_eq (length said.header.volumes) 0 ≡ false → said_from 0 nothing_said (pieces_of 10 text) ≡ said_from number said (pieces_of 10 rest)
    → trace_in text ≡ Ok (header_spelling said.header ++ said.entries)
unfolding trace_in
trace_said number said text rest none some so_far =
    let read : said_from number said [] ≡ Ok said = rw some refl in
    ap spelled (so_far ∙ said_end number said rest none ∙ read)
