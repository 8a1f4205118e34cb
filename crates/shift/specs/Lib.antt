-- What this crate's promises say, over the width. Assumes nothing.
pub mod Shift
