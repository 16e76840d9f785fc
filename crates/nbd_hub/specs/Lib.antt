pub mod Texts
pub mod Sessions
pub mod History
pub mod After
pub mod Failures
pub mod Stream
