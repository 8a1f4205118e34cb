pub mod Tests
pub mod Parts
pub mod Lows
pub mod Eights
pub mod Tables
pub mod Reading
pub mod Single
pub mod Impostors
