-- What this crate's promises say, each over the width. Assumes nothing.
pub mod Wrap
pub mod Range
pub mod Equal
