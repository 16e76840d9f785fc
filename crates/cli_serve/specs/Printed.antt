-- What `verify` and `serve` print.
use Rattle.std.specs.Prelude.{◌≡◌, ◌↔◌, ◌+◌, ℕ, true, List, [], ◌∷◌, ◌++◌, codes, Option, Ok}
use Rattle.std.specs.List.{flat_map}
use Rattle.std.specs.Fmt.{decimal}
use Rattle.std.specs.Io.KnownBytes.{Appends}
use Rattle.nbd_serve.specs.Lines.{IsServed}
use Rattle.verity_store.specs.Stores.{IsOnlyRead}
use Rattle.verity_store.specs.declared.store.BlockStore as store
use Rattle.verity_superblock.specs.Line.{TableLine, Line}
use Rattle.verity_chain.specs.Table.{tree_len}
use Rattle.verity_chain.specs.Texts.{place_text}
use Rattle.verity_chain.specs.declared.place.Place.{Place}
use Rattle.verity_report.specs.Report.{IsReportOf, IsReportGiven}
use Rattle.verity_report.specs.Stores.{BothTell, given_between, held_in}
use Rattle.verity_report.specs.declared.finding.Verdict.{Verdict}
use Rattle.verity_report.specs.declared.finding.Verdict.TheVariants as verdict
use Rattle.cli_faults.specs.Faults.{line}
use Rattle.cli_faults.specs.Words.{sessions_in}

-- the line of a block that is bad or couldn't be read
abbrev pub place_line : Place × Verdict → List ℕ
place_line (place, verdict.Bad) = codes "bad " ++ line (place_text place)
place_line (place, verdict.Unread) = codes "unread " ++ line (place_text place)

-- the last line of a report of such blocks
abbrev pub last_line : List (Place × Verdict) → List ℕ
last_line [] = line (codes "verified")
last_line (fault ∷ faults) = line (codes "corrupt")

-- a report: a line for each of its blocks, one that says how many weren't read, and the last
abbrev pub report_lines : List (Place × Verdict) → ℕ → List ℕ
report_lines faults unchecked = flat_map place_line faults ++ (codes "unchecked " ++ (line (decimal unchecked) ++ last_line faults))

module _ {D H : Type 0} (data_facts : store.Ghosts D) (hash_facts : store.Ghosts H) where
  -- These blocks are reported of a volume in two stores, and so many places weren't checked: over any stores those that are wrong in what
  -- the stores gave, which was as many blocks as the volume has other places; over stores that tell those that are wrong in what they hold.
  pub record IsReportOver (table : TableLine) (image : D) (device : H) (faults : List (Place × Verdict)) (unchecked : ℕ) : Type 0 where
    pub image' : D
    pub device' : H
    pub image_read : IsOnlyRead data_facts image image'
    pub device_read : IsOnlyRead hash_facts device device'
    pub given : IsReportGiven table (given_between data_facts hash_facts table image device image' device') faults unchecked
        (data_facts.failures image + hash_facts.failures device) (data_facts.failures image' + hash_facts.failures device')
    pub told : BothTell data_facts hash_facts image device → IsReportOf table (held_in data_facts hash_facts table image device) faults
        unchecked (data_facts.failures image + hash_facts.failures device) (data_facts.failures image' + hash_facts.failures device')
    pub counted : unchecked + (data_facts.reads image' + hash_facts.reads device')
        ≡ data_facts.reads image + hash_facts.reads device + (tree_len table + table.data_blocks)

  -- the same of the volume of a table line, in two stores of which this holds
  pub record IsFound (text : List ℕ) (are_there : TableLine → D → H → Type 0) (faults : List (Place × Verdict)) (unchecked : ℕ)
      : Type 0 where
    pub table : TableLine
    pub image : D
    pub device : H
    pub parsed : Line text table
    pub there : are_there table image device
    pub reported : IsReportOver table image device faults unchecked

  -- what `verify` prints, and its status: such a report, which is of no block exactly where the status is 0
  pub record IsReported (text : List ℕ) (are_there : TableLine → D → H → Type 0) (status : ℕ) (old new : Option (List ℕ)) : Type 0 where
    pub faults : List (Place × Verdict)
    pub unchecked : ℕ
    pub found : IsFound text are_there faults unchecked
    pub printed : Appends old new (report_lines faults unchecked)
    pub done : (status ≡ 0) ↔ (faults ≡ [])

-- what `serve` prints where it is done: `listening`, and a line for each of as many sessions as were asked for, none of which names a
-- fault
pub record IsServedAsAsked (text : List ℕ) (old new : Option (List ℕ)) : Type 0 where
  pub sessions : ℕ
  pub asked : sessions_in text ≡ Ok sessions
  pub served : IsServed old new sessions true
