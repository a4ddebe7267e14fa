pub mod CommandReading
pub mod LineReading
pub mod OperandReading
pub mod PartReading
pub mod ShortLines
