pub mod Slots
pub mod Tests
pub mod Written
pub mod Single
pub mod Impostors
