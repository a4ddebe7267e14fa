pub mod TraceVectors
