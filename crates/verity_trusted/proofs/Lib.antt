mod UnderLemmas
mod PathLemmas
mod LineLemmas
mod LineCommits
mod LineAnswers
mod LineLaws
