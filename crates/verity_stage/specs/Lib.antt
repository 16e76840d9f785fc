pub mod Stage
pub mod Inside
