pub mod ScriptLemmas
