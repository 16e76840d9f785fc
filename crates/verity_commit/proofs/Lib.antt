mod Commits
mod FileChanges
