mod LowEntries
mod WorkedPoints
