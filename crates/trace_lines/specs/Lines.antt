-- The lines of a trace as text, and what each says.
use Rattle.std.specs.Prelude.{ℕ, ◌+◌, ◌-◌, ◌*◌, ◌==◌, ◌&&◌, List, [], ◌∷◌, ◌++◌, length, Bool, true, Option, Some, None, nat_le, if◌then◌else◌, bytes_eq, codes, slice_index, slice_range}
use Rattle.std.specs.List.{before_first, after_first}
use Rattle.std.specs.Result.{result_ok}
use Rattle.tod_stamp.specs.declared.stamp.Stamp.{Stamp}
use Rattle.tod_stamp.specs.Fields.{within}
use Rattle.tod_stamp.specs.Names.{name_of}
use Rattle.tod_stamp.specs.Options.{◌>>=◌}
use Rattle.tod_stamp.specs.Stamps.{stamp_of_digits}
use Rattle.ckd_track.specs.declared.rec.Rec.{Rec}
use Rattle.ckd_track.specs.declared.write.Kind.{Kind}
use Rattle.ckd_track.specs.declared.write.Kind.TheVariants.{Update, Format, Whole}
use Rattle.ckd_track.specs.Tracks.{is_track}
use Rattle.write_trace.specs.declared.entry.Entry.TheVariants.{Written, Idle}
use Rattle.hex.specs.Hex.{decode_of}
use Rattle.trace_lines.specs.declared.line.Line.{Line}
use Rattle.trace_lines.specs.declared.line.Line.TheVariants.{Nothing, Version, Volume, Base, Told}
use Rattle.trace_lines.specs.Pieces.{first_piece, after_piece, pieces_of}

-- ---- words

-- the first word of a text, up to a space, and what follows that space
abbrev pub first_word : List ℕ → List ℕ
first_word text = before_first (λ byte. byte == 32) text

abbrev pub after_word : List ℕ → List ℕ
after_word text = after_first (λ byte. byte == 32) text

abbrev pub words_of : List ℕ → List (List ℕ)
words_of text = pieces_of 32 text

-- What decimal digits are worth that go on from a value, if that is at most the most.
abbrev pub number_from : (most value : ℕ) → List ℕ → Option ℕ
number_from most value [] = Some value
number_from most value (digit ∷ digits) = if within 48 57 digit && nat_le (value * 10 + (digit - 48)) most then number_from most (value * 10 + (digit - 48)) digits else None

-- a number of one digit or more
unfoldable pub number_of : (most : ℕ) → List ℕ → Option ℕ
number_of most digits = if length digits == 0 then None else number_from most 0 digits

-- a stamp of 16 hexadecimal digits
unfoldable pub stamp_in : List ℕ → Option Stamp
stamp_in word = result_ok (stamp_of_digits word)

unfoldable pub serial_in : List ℕ → Option (List ℕ)
serial_in word = result_ok (name_of 6 word)

-- what stands between two quotation marks
unfoldable pub quoted_in : List ℕ → Option (List ℕ)
quoted_in word =
    if nat_le 2 (length word) && slice_index word 0 == 34 && slice_index word (length word - 1) == 34
    then Some (slice_range word 1 (length word - 1)) else None

abbrev pub or_hex : (word : List ℕ) → Option (List ℕ) → Option (List ℕ)
or_hex word (Some bytes) = Some bytes
or_hex word None = result_ok (decode_of word)

-- quoted bytes, or two hexadecimal digits for each
unfoldable pub bytes_in : List ℕ → Option (List ℕ)
bytes_in word = or_hex word (quoted_in word)

-- ---- records

-- a record's number, key and content
unfoldable pub record_in : List ℕ → Option Rec
record_in word = do
  number ← number_of 255 (first_piece 58 word)
  key ← bytes_in (first_piece 58 (after_piece 58 word))
  content ← bytes_in (after_piece 58 (after_piece 58 word))
  Some (record { number = number; key = key; content = content })

-- the records of words, after others
abbrev pub records_from : List Rec → (words : List (List ℕ)) → Option (List Rec)
records_from recs [] = Some recs
records_from recs (word ∷ words) = do
  rec ← record_in word
  records_from (recs ++ rec ∷ []) words

unfoldable pub records_in : List ℕ → Option (List Rec)
records_in text = records_from [] (words_of text)

-- the records of words, after others with which they are a track
abbrev pub track_from : List Rec → (words : List (List ℕ)) → Option (List Rec)
track_from recs [] = Some recs
track_from recs (word ∷ words) = do
  rec ← record_in word
  if is_track (recs ++ rec ∷ []) then track_from (recs ++ rec ∷ []) words else None

unfoldable pub track_of_words : List ℕ → Option (List Rec)
track_of_words text = track_from [] (words_of text)

-- ---- kinds of a write

unfoldable pub update_in : List ℕ → Option Kind
update_in text = do
  number ← number_of 255 (first_word text)
  bytes ← bytes_in (after_word text)
  Some (Update number bytes)

unfoldable pub format_in : List ℕ → Option Kind
format_in text = do
  after ← number_of 255 (first_word text)
  recs ← records_in (after_word text)
  Some (Format after recs)

unfoldable pub whole_in : List ℕ → Option Kind
whole_in text = do
  track ← track_of_words text
  Some (Whole track)

unfoldable pub kind_in : (word text : List ℕ) → Option Kind
kind_in word text =
    if bytes_eq word (codes "write") then whole_in text
    else if bytes_eq word (codes "format") then format_in text
    else if bytes_eq word (codes "update") then update_in text
    else None

-- ---- lines

unfoldable pub version_in : List ℕ → Option Line
version_in text = do
  version ← number_of 255 text
  Some (Version version)

unfoldable pub volume_in : List ℕ → Option Line
volume_in text = do
  serial ← serial_in (first_word text)
  cylinders ← number_of 4294967295 (after_word text)
  Some (Volume (record { serial = serial; cylinders = cylinders }))

unfoldable pub base_line_in : List ℕ → Option Line
base_line_in text = do
  volume ← number_of 65535 (first_word text)
  track ← number_of 4294967295 (first_word (after_word text))
  content ← track_of_words (after_word (after_word text))
  Some (Base volume track content)

unfoldable pub idle_in : List ℕ → Option Line
idle_in text = do
  stamp ← stamp_in text
  Some (Told (Idle stamp))

-- A write's stamp, volume and track, and what its kind has.
unfoldable pub write_in : (word text : List ℕ) → Option Line
write_in word text = do
  stamp ← stamp_in (first_word text)
  volume ← number_of 65535 (first_word (after_word text))
  track ← number_of 4294967295 (first_word (after_word (after_word text)))
  kind ← kind_in word (after_word (after_word (after_word text)))
  Some (Told (Written (record { volume = volume; track = track; stamp = stamp; kind = kind })))

unfoldable pub line_of_words : (word text : List ℕ) → Option Line
line_of_words word text =
    if bytes_eq word (codes "version") then version_in text
    else if bytes_eq word (codes "volume") then volume_in text
    else if bytes_eq word (codes "base") then base_line_in text
    else if bytes_eq word (codes "idle") then idle_in text
    else write_in word text

-- whether a line is empty, or a remark
abbrev pub is_remark : List ℕ → Bool
is_remark [] = true
is_remark (byte ∷ text) = byte == 35

-- What a line says; None where it is outside the grammar.
unfoldable pub line_in : List ℕ → Option Line
line_in text = if is_remark text then Some Nothing else line_of_words (first_word text) (after_word text)
