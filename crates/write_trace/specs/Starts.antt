-- What the start of a trace answers, by all bytes that its source has left, in whatever pieces they come.
use Rattle.std.specs.Prelude.{◌≡◌, ◌≤◌, ◌+◌, ◌++◌, ℕ, List, length, Option, Some, None, Result, Ok, Err, IsTrue}
use Rattle.xrc_edge.specs.Causes.{Rose}
use Rattle.tod_stamp.specs.Fields.{Bad, place_of}
use Rattle.tod_stamp.specs.Fields.Bad.{Cut}
use Rattle.write_trace.specs.declared.header.Header.{Header}
use Rattle.write_trace.specs.declared.trace.HeaderError.{HeaderError}
use Rattle.write_trace.specs.declared.trace.HeaderError.TheVariants.{BadHeader, HeaderFault, NoMemory}
use Rattle.write_trace.specs.Headers.{header_at, is_header}
use Rattle.write_trace.specs.WholeTraces.{whole_trace, most_bytes}
use Rattle.write_trace.specs.UnreadBytes.{unread, seen}
use Rattle.write_trace.specs.Answers.{ReaderState}

-- The bytes begin with this header, and the reader stands after it, with all bytes that follow ahead of it. Also where the source
-- tells no bytes, the header keeps the rules.
pub record ReadsHeader (before now : Option (List ℕ)) (header : Header) (reader : ReaderState) : Type 0 where
  pub version : reader.version ≡ header.version
  pub volumes : reader.volumes ≡ header.volumes
  pub last : reader.last ≡ 0
  pub goes_on : reader.stopped ≡ None
  pub kept : IsTrue (is_header header)
  pub reads : (bytes : List ℕ) → before ≡ Some bytes → (rest : List ℕ)
      × (unread reader.left.bytes now ≡ Some rest)
      × (header_at (whole_trace bytes) ≡ Ok (header, seen reader.left.place rest))
      × (reader.left.place + length rest ≡ length bytes)

-- The first field that is cut or breaks its rule stands at that place.
abbrev pub IsBadHeader : (before : Option (List ℕ)) → (place : ℕ) → Type 0
IsBadHeader before place = (bytes : List ℕ) → before ≡ Some bytes → (bad : Bad) × (header_at (whole_trace bytes) ≡ Err bad) × (place_of bad ≡ place)

-- These bytes are all that the source gave, and they end within the header.
pub record EndsWithinHeader (given left : List ℕ) (bytes : List ℕ) : Type 0 where
  pub all : bytes ≡ given ++ left
  pub within : length given ≤ most_bytes
  pub cut : (place : ℕ) × (header_at (whole_trace given) ≡ Err (Cut place))

abbrev pub FailsInHeader : (before now : Option (List ℕ)) → Type 0
FailsInHeader before now = (bytes left : List ℕ) → before ≡ Some bytes → now ≡ Some left → (given : List ℕ) × EndsWithinHeader given left bytes

-- The count of the source's faults rose only where the answer is a fault in the header.
abbrev pub Starts : (before now : Option (List ℕ)) → (faults risen : ℕ) → Result (Header × ReaderState) HeaderError → Type 0
Starts before now faults risen (Ok started) = ReadsHeader before now started.0 started.1 × (risen ≡ faults)
Starts before now faults risen (Err (BadHeader place)) = IsBadHeader before place × (risen ≡ faults)
Starts before now faults risen (Err HeaderFault) = FailsInHeader before now × Rose faults risen
Starts before now faults risen (Err NoMemory) = risen ≡ faults
