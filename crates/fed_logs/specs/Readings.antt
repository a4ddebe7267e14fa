-- What is answered again.
use Rattle.sidefile.specs.declared.hand.Halt.{Halt}
use Rattle.sidefile.specs.declared.hand.Halt.TheVariants as halts
use Rattle.fed_logs.specs.declared.reading.Reading.{Reading}
use Rattle.fed_logs.specs.declared.reading.Reading.TheVariants as readings

abbrev pub reading_of : Halt → Reading
reading_of (halts.Broken cause upto) = readings.Broken
reading_of halts.NoMemory = readings.NoMemory
