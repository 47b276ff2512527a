pub mod LineWritten
