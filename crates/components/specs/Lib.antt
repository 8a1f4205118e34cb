-- Work component by component. Assumes nothing.
pub mod Components
