mod NameLemmas
mod WalkLemmas
mod DraftLemmas
mod LineLaw
mod CountLemmas
mod RefusedLemmas
