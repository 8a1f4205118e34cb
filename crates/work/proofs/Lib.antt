pub mod Trees
pub mod Bodies
pub mod Formed
pub mod Single
pub mod Impostors
