pub mod VerdictLaws
pub mod Saying
pub mod Answering
pub mod Carrying
