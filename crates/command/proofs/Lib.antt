pub mod Shown
pub mod Paging
pub mod Judging
pub mod Example
pub mod Impostors
pub mod Single
