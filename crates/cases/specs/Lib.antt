-- Records of the lists of fixed answers, and which of them are answered as they say. Assumes nothing.
pub mod Record
pub mod Scalars
pub mod Judged
