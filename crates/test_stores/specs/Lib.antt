pub mod Failing
pub mod Script
pub mod ScriptStore
