-- What is said of what is seen, behind the words on a refusal.
use Rattle.std.specs.Prelude.{ℕ, List, [], ◌++◌, Option, Some, None, codes, string_bytes}
use Rattle.std.specs.Fmt.{decimal}
use Rattle.cli_arguments.specs.declared.looking.Detail.{Detail as Seen}
use Rattle.cli_arguments.specs.declared.looking.Detail.TheVariants as seen
use Rattle.cli_arguments.specs.declared.looking.Subject.{Subject}
use Rattle.cli_arguments.specs.declared.looking.Subject.TheVariants as about

-- two numbers, with what stands in front of each of them
abbrev pub two_numbers : List ℕ → ℕ → List ℕ → ℕ → List ℕ
two_numbers before first between second = before ++ (decimal first ++ (between ++ decimal second))

-- what it is about
abbrev pub subject_text : Subject → List ℕ
subject_text (about.Named name) = name.now
subject_text (about.Line file) = codes "the line in " ++ file.now
subject_text (about.Next file) = file.now ++ codes ".next"
subject_text (about.Both file) = file.now ++ (codes " and " ++ (file.now ++ codes ".next"))

-- its text; what the system says is the system's own
abbrev pub detail_text : Seen → Option (List ℕ)
detail_text seen.None = Some []
detail_text (seen.System error) = None
detail_text seen.NoFile = Some (codes ": it is neither a file nor a block device")
detail_text seen.Unmade = Some (codes ": it isn't there, and can't be made there")
detail_text (seen.Bytes bytes size) = Some (two_numbers (codes ": ") bytes (codes " bytes, blocks of ") size)
detail_text (seen.Block block count) = Some (two_numbers (codes ": block ") block (codes ", count ") count)
detail_text (seen.Count asked count) = Some (two_numbers (codes ": ") asked (codes ", where the count is ") count)
detail_text (seen.Few found wanted) = Some (two_numbers (codes ": ") found (codes " blocks, not ") wanted)
detail_text (seen.Fields count) = Some (codes ": this one has " ++ decimal count)
detail_text (seen.Text text) = Some (codes ": " ++ text.now)
detail_text (seen.Number number) = Some (codes ": " ++ decimal number)
detail_text (seen.Reason reason) = Some (codes ": " ++ string_bytes reason)
detail_text seen.NoUuid = Some (codes ": no UUID is found for HASH's superblock; name one with --uuid")
