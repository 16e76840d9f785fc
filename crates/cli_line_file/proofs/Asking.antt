-- By which line a volume is looked at, and what follows from what it shows.
use Rattle.std.proofs.Common.{◌≡◌, inl, inr, sym, ap, subst, ◌∙◌, refl, List, ℕ, Option, Some, None}
use Rattle.std.specs.Prelude.{MatchOption, IfSome}
use Rattle.std.specs.Borrow.{Bor}
use Rattle.os_line_file.specs.Folder.{Texts}
use Rattle.cli_faults.specs.Faults.{failure_of}
use Rattle.cli_faults.specs.declared.failure.Failure.{Failure}
use Rattle.cli_faults.specs.declared.failure.Failure.TheVariants as failure
use Rattle.cli_faults.specs.declared.fault.Fault.TheVariants as fault
use Rattle.os_files.specs.declared.system.System.{Ghosts}
use Rattle.verity_line_file.proofs.Standings.{one_line}
use Rattle.verity_line_file.specs.Lines.{Holds}
use Rattle.verity_line_file.specs.Outcome.{IsRefused}
use Rattle.verity_line_file.specs.Shown.{Values}
use Rattle.verity_line_file.specs.Standing.{HasNext}
use Rattle.verity_line_file.specs.declared.fault.LineFileFault.{LineFileFault}
use Rattle.verity_line_file.specs.declared.fault.LineFileFault.TheVariants as why
use Rattle.verity_pending.specs.declared.fault.EditFault.{EditFault}
use Rattle.verity_pending.specs.declared.fault.EditFault.TheVariants as edit
use Rattle.verity_store.specs.declared.store.BlockStore as store
use Rattle.verity_superblock.specs.Line.{TableLine}
use Rattle.verity_superblock.specs.LineLaws.{DeterminesLine}
use Rattle.verity_superblock.specs.declared.faults.SuperFault.TheVariants as super
use Rattle.verity_superblock.specs.declared.faults.TableFault.TheVariants as table
use Rattle.cli_line_file.specs.Faults.{line_failure, top_fault}
use Rattle.cli_line_file.specs.Looking.{shape_of, HasPlaceOf, IsAbsentByEither, IsBroken, IsShownBy, IsUnseen, ShowsEither}
use Rattle.cli_line_file.specs.Settling.{AreAsked, IsAskedLast, IsNextLine, IsOldLine, IsSeen, IsUnsettled, IsUntold, LacksNextLine}

none_some : {A : Type 0} (a : A) → None ≡ Some a → ⊥
none_some a e = cc

some_none : {A : Type 0} (a : A) → Some a ≡ None → ⊥
some_none a e = cc

some_same : {A : Type 0} (a b : A) → Some a ≡ Some b → a ≡ b
some_same a b e = cc

-- both files as they were read: FILE.next's line, and FILE's, one of which may be missing
pub record AreRead (texts : Texts) (next line : Option TableLine) : Type 0 where
  pub of_next : MatchOption next (LacksNextLine texts) (IsNextLine texts)
  pub of_line : IfSome line (IsOldLine texts)
  pub none : line ≡ None → (t : TableLine) → IsOldLine texts t → ⊥

next_of : (texts : Texts) (next line : Option TableLine) (t : TableLine) → AreRead texts next line → next ≡ Some t → IsNextLine texts t
next_of texts next line t read is = subst (λ (o : Option TableLine). MatchOption o (LacksNextLine texts) (IsNextLine texts)) is read.of_next

pub lacks_next : (texts : Texts) (next line : Option TableLine) → AreRead texts next line → next ≡ None → LacksNextLine texts
lacks_next texts next line read is =
    subst (λ (o : Option TableLine). MatchOption o (LacksNextLine texts) (IsNextLine texts)) is read.of_next

old_of : (texts : Texts) (next line : Option TableLine) (t : TableLine) → AreRead texts next line → line ≡ Some t → IsOldLine texts t
old_of texts next line t read is = subst (λ (o : Option TableLine). IfSome o (IsOldLine texts)) is read.of_line

-- FILE holds one line at most
one_old : DeterminesLine → (texts : Texts) (t u : TableLine) → IsOldLine texts t → IsOldLine texts u → t ≡ u
one_old determines texts t u old other =
    one_line determines old.0 t u old.2 (subst (λ (l : List ℕ). Holds l u) (some_same other.0 old.0 (sym other.1 ∙ old.1)) other.2)

found : DeterminesLine → (texts : Texts) (next line : Option TableLine) (old : TableLine) → AreRead texts next line → IsOldLine texts old
    → line ≡ Some old
found determines texts next None old read is = absurd (read.none refl old is)
found determines texts next (Some t) old read is = ap (λ (u : TableLine). Some u) (one_old determines texts t old read.of_line is)

-- where FILE's line is asked, no other of FILE's names another place
own_place : DeterminesLine → (texts : Texts) (next line : Option TableLine) (t : TableLine) → AreRead texts next line → line ≡ Some t
    → (old : TableLine) → IsOldLine texts old → HasPlaceOf old t
own_place determines texts next line t read is old held =
    subst (λ (u : TableLine). HasPlaceOf u t) (some_same t old (sym is ∙ found determines texts next line old read held)) (refl, refl)

module _ {S F D J : Type 0} (facts : Ghosts S F D J) (stores : store.Ghosts D) (s : S) (data_path hash_path : List ℕ) (image device : F)
  where
    -- the volume shows this by a line that is asked
    pub seen : (texts : Texts) (next line : Option TableLine) (first : TableLine) (second : Option (Bor TableLine)) (v : Values)
        → AreRead texts next line → AreAsked next line first second
        → ShowsEither facts stores s data_path hash_path image device first second v
        → IsSeen facts stores s data_path hash_path image device texts v
    seen texts next line first None v read (inl asked) (inl shows) = (first, inl (next_of texts next line first read asked.0), shows.0)
    seen texts next line first None v read (inr asked) (inl shows) =
        (first, inr (old_of texts next line first read asked.1, inl (lacks_next texts next line read asked.0)), shows.0)
    seen texts next line first None v read asked (inr none) = absurd none
    seen texts next line first (Some t) v read (inl asked) (inl shows) = (first, inl (next_of texts next line first read asked.0), shows.0)
    seen texts next line first (Some t) v read (inl asked) (inr shows) = (
      t.now,
      inr (old_of texts next line t.now read asked.1.0, inr (first, next_of texts next line first read asked.0, asked.1.1, shows.0)),
      shows.1,
    )
    seen texts next line first (Some t) v read (inr asked) shows = absurd (some_none t asked.2)

    -- the first line is the last one, where there is no second
    last_first : DeterminesLine → (texts : Texts) (next line : Option TableLine) (first : TableLine) → AreRead texts next line
        → AreAsked next line first None → IsAskedLast facts stores s data_path hash_path image device texts first
    last_first determines texts next line first read (inl asked) = (
      inl (next_of texts next line first read asked.0),
      λ old held. asked.1 old (found determines texts next line old read held),
    )
    last_first determines texts next line first read (inr asked) = (
      inr (old_of texts next line first read asked.1, inl (lacks_next texts next line read asked.0)),
      own_place determines texts next line first read asked.1,
    )

    -- nothing is shown by either
    pub absent : DeterminesLine → (texts : Texts) (next line : Option TableLine) (first : TableLine) (second : Option (Bor TableLine))
        (e : EditFault) → AreRead texts next line → AreAsked next line first second
        → IsAbsentByEither facts stores s data_path hash_path image device first second e
        → IsUntold facts stores s data_path hash_path image device texts e
    absent determines texts next line first None e read asked is = (first, last_first determines texts next line first read asked, inl is)
    absent determines texts next line first (Some t) e read (inl asked) is = (
      t.now,
      (
        inr (old_of texts next line t.now read asked.1.0, inr (first, next_of texts next line first read asked.0, asked.1.1, is.0)),
        own_place determines texts next line t.now read asked.1.0,
      ),
      inl is.1,
    )
    absent determines texts next line first (Some t) e read (inr asked) is = absurd (some_none t asked.2)

    -- what the volume shows isn't FILE.next's: then it shows this by the line that is asked last
    pub last : DeterminesLine → (texts : Texts) (next line : Option TableLine) (first : TableLine) (second : Option (Bor TableLine))
        (v : Values) → AreRead texts next line → AreAsked next line first second
        → ShowsEither facts stores s data_path hash_path image device first second v → (HasNext v texts → ⊥)
        → (t : TableLine) × IsAskedLast facts stores s data_path hash_path image device texts t
        × IsShownBy facts stores s data_path hash_path image device t v
    last determines texts next line first None v read asked (inl shows) other =
        (first, last_first determines texts next line first read asked, shows.0)
    last determines texts next line first None v read asked (inr none) other = absurd none
    last determines texts next line first (Some t) v read (inl asked) (inl shows) other =
        let held : IsNextLine texts first = next_of texts next line first read asked.0 in
        absurd (other (held.0, held.1, (first, held.2, shows.1)))
    last determines texts next line first (Some t) v read (inl asked) (inr shows) other = (
      t.now,
      (
        inr (old_of texts next line t.now read asked.1.0, inr (first, next_of texts next line first read asked.0, asked.1.1, shows.0)),
        own_place determines texts next line t.now read asked.1.0,
      ),
      shows.1,
    )
    last determines texts next line first (Some t) v read (inr asked) shows other = absurd (some_none t asked.2)

    -- a fault of the volume, as a command has it
    told : (texts : Texts) (e : EditFault) → IsUntold facts stores s data_path hash_path image device texts e
        → IsUnsettled facts stores s data_path hash_path image device texts (failure_of (fault.Edit e))
    told texts edit.NoMemory is = tt
    told texts (edit.Superblock super.NoMemory) is = tt
    told texts (edit.Store which) is = tt
    told texts _ is = is

    broken : (texts : Texts) (e : Failure) → IsBroken e → IsUnsettled facts stores s data_path hash_path image device texts e
    broken texts failure.NoMemory is = tt
    broken texts (failure.Refused (fault.Store f)) is = tt
    broken texts (failure.Refused (fault.Edit (edit.Store which))) is = tt
    broken texts _ is = absurd is

    -- why nothing is shown
    pub unseen : DeterminesLine → (texts : Texts) (next line : Option TableLine) (first : TableLine) (second : Option (Bor TableLine))
        (e : Failure) → AreRead texts next line → AreAsked next line first second
        → IsUnseen facts stores s data_path hash_path image device first second e
        → IsUnsettled facts stores s data_path hash_path image device texts e
    unseen determines texts next line first second e read asked (inl is) = broken texts e is
    unseen determines texts next line first second e read asked (inr is) =
        subst (λ (f : Failure). IsUnsettled facts stores s data_path hash_path image device texts f) (sym is.1)
        (told texts is.0 (absent determines texts next line first second is.0 read asked is.2))

    -- why both files are refused
    pub refused : DeterminesLine → (texts : Texts) (next line : Option TableLine) (first : TableLine) (second : Option (Bor TableLine))
        (v : Values) (top : EditFault) (e : LineFileFault) → AreRead texts next line → AreAsked next line first second
        → ShowsEither facts stores s data_path hash_path image device first second v → top ≡ top_fault (shape_of v) → IsRefused v texts e
        → IsUnsettled facts stores s data_path hash_path image device texts (line_failure e top)
    refused determines texts next line first second v top why.NoMemory read asked shows is refuses = tt
    refused determines texts next line first second v top why.Folder read asked shows is refuses = tt
    refused determines texts next line first second v top (why.Line table.NoMemory) read asked shows is refuses = tt
    refused determines texts next line first second v top (why.Line _) read asked shows is refuses = refuses.1
    refused determines texts next line first second v top why.Values read asked shows is refuses =
        let by = last determines texts next line first second v read asked shows refuses.0 in
        (by.0, by.1, inr (v, by.2, inl (refuses, refl)))
    refused determines texts next line first second v top why.Top read asked shows is refuses =
        let by = last determines texts next line first second v read asked shows refuses.0 in
        subst (λ (f : EditFault). IsUnsettled facts stores s data_path hash_path image device texts (failure_of (fault.Edit f))) (sym is)
        (told texts (top_fault (shape_of v)) (by.0, by.1, inr (v, by.2, inr (refuses, refl))))
