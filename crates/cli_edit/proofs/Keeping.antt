-- A table line that is kept in FILE, from its folder as it was opened to what commits left there.
use Rattle.std.proofs.Common.{◌≡◌, ◌⊎◌, ⊎_elim, inl, inr, ℕ, ◌<◌, true, List, Option, None, Some, Result, Ok, Err, IfOk, IfErr, IsSome, Bor}
use Rattle.std.proofs.Common.{refl, sym, ap, subst, ◌∙◌}
use Rattle.std.specs.Prelude.{◌≢◌, MatchOption, option_map}
use Rattle.cli_line_file.specs.Files.{IsOfFolder}
use Rattle.cli_line_file.specs.Settling.{IsSettledBy, SettlesBy, StaysUnlessFailed}
use Rattle.os_line_file.specs.declared.folder.LineFolder as folder
use Rattle.os_line_file.specs.declared.folder.LineFolders as folders
use Rattle.os_line_file.specs.Folder.{Texts, IsDurable, LeavesOnly}
use Rattle.cli_faults.specs.declared.failure.Failure.{Failure}
use Rattle.os_host.specs.declared.host.Host.{Host}
use Rattle.os_host.specs.declared.opening.Opened.{Opened}
use Rattle.os_host.specs.declared.paths.Paths.{Ghosts}
use Rattle.os_files.specs.declared.system.System as system
use Rattle.cli_faults.specs.Errors.{IsS1For}
use Rattle.verity_line_file.specs.Lines.{pulling, text_of}
use Rattle.verity_line_file.specs.declared.line_file.LineFile.{LineFile}
use Rattle.verity_store.specs.declared.store.BlockStore as store
use Rattle.verity_superblock.specs.Line.{TableLine}
use Rattle.verity_superblock.specs.Superblock.{Volume}
use Rattle.cli_volume.specs.Kept.{HoldsLineOf, IsLeft, IsLineSince, KeepsFileOf, LineFails, begun_at, file_of, holding}
use Rattle.cli_volume.specs.Kept.{LeftLine, AsBefore, Holding, Unknown}
use Rattle.cli_volume.specs.Keeping.{OnlyNow, as_it_is}
use Rattle.cli_volume.specs.Lines.{volume_line}
use Rattle.cli_volume.specs.declared.kept.KeptLine.{KeptLine}
use Rattle.cli_volume.specs.declared.kept.StagedCommits.{StagedCommits}
use Rattle.cli_volume.specs.declared.lines.Devices.{Devices}
use Rattle.cli_edit.specs.LineFiles.{BeginsAt, FileFails, IsAtPaths, IsChangedBy, IsKeptAt, IsKeptBy, IsKeptLine, IsLeftAt}
use Rattle.cli_edit.specs.LineFiles.{IsLeftIn, IsSettledFile, OpenedThere}
use Rattle.cli_edit.specs.Work.{Leaves, LeavesAsBefore}

some_or_none : {A : Type 0} (o : Option A) → (o ≡ None) ⊎ IsSome o
some_or_none None = inl refl
some_or_none (Some a) = inr refl

-- S1 where the system refused to open its folder, or a call on it failed
module _ {L F : Type 0} (files : folders.Ghosts L F) (facts : folder.Ghosts F) (l : L) (named : Option (Bor (List ℕ)))
    (path : Bor (List ℕ)) (is : named ≡ Some path) (other : Type 0) where
  pub fails_unopened : (e : Failure) → IsOfFolder (files.refuses l ≡ true) e → IsS1For (other ⊎ FileFails files facts l named) e
  fails_unopened e of same =
      let P : Failure → Type 0 = λ (x : Failure). IsOfFolder (files.refuses l ≡ true) x in
      let Q : Option (Bor (List ℕ)) → Type 0 = λ (o : Option (Bor (List ℕ))). FileFails files facts l o in
      inr (subst Q (sym is) (inl (subst P same of)))

  pub fails_with_file : (a b : F) (e : Failure) → IsS1For (other ⊎ (facts.failures a < facts.failures b)) e
      → IsS1For (other ⊎ FileFails files facts l named) e
  fails_with_file a b e fails same =
      let Q : Option (Bor (List ℕ)) → Type 0 = λ (o : Option (Bor (List ℕ))). FileFails files facts l o in
      ⊎_elim inl (λ more. inr (subst Q (sym is) (inr (a, b, more)))) (fails same)

-- it was closed in this state of it, where it is kept
closed_at : {L F : Type 0} (files : folders.Ghosts L F) (mid new : L) (line : KeptLine F) (file : Option (LineFile F))
    → file ≡ file_of (Some line) → MatchOption file (new ≡ mid) (λ f. files.closes mid f.folder new)
    → files.closes mid line.file.folder new
closed_at files mid new line file is closed =
    let P : Option (LineFile _) → Type 0 = λ (o : Option (LineFile _)). MatchOption o (new ≡ mid) (λ f. files.closes mid f.folder new) in
    subst P is closed

not_closed : {L F : Type 0} (files : folders.Ghosts L F) (mid new : L) (file : Option (LineFile F))
    → file ≡ file_of {F = F} None → MatchOption file (new ≡ mid) (λ f. files.closes mid f.folder new) → new ≡ mid
not_closed files mid new file is closed =
    let P : Option (LineFile _) → Type 0 = λ (o : Option (LineFile _)). MatchOption o (new ≡ mid) (λ f. files.closes mid f.folder new) in
    subst P is closed

module _ {P D J L G : Type 0} (paths : Ghosts P) (host : system.Ghosts (Host P) Opened D J) (stores : store.Ghosts D)
    (files : folders.Ghosts L G) (facts : folder.Ghosts G) (p : P) (data_path hash_path : List ℕ) where
  -- FILE is settled where there was no FILE.next, or once it went or took FILE's place
  pub settled_file : (v : OpenedThere paths host stores files facts p data_path hash_path) (opened settled : G)
      → ((facts.seen opened).next ≡ None → settled ≡ opened)
      → (facts.seen opened).next ≢ Some pulling
      → (IsSome (facts.seen opened).next
      → IsSettledBy host stores v.on data_path hash_path v.image v.device (facts.seen opened) (facts.seen settled))
      → (IsSome (facts.seen opened).next → IsDurable (facts.seen settled) (facts.may_leave settled))
      → LeavesOnly facts.moment facts.left_since opened settled
      (SettlesBy host stores v.on data_path hash_path v.image v.device (facts.seen opened) (facts.may_leave opened))
      → IsSettledFile paths host stores files facts p data_path hash_path opened settled
  settled_file v opened settled stays no_pull moves durable moments = (
    v,
    ⊎_elim (λ none. inl (none, stays none)) (λ some. inr (no_pull, moves some, durable some, moments))
        (some_or_none (facts.seen opened).next),
  )

  -- FILE's folder was opened, and the line that is kept there is settled
  pub kept_there : (old new : L) (named : Option (Bor (List ℕ))) (path : Bor (List ℕ)) (opened : G) (file : LineFile G) (kept : KeptLine G)
      → named ≡ Some path → files.opens old path.now opened new
      → IsSettledFile paths host stores files facts p data_path hash_path opened file.folder → kept.file ≡ file
      → kept.devices.data_path.now ≡ data_path → kept.devices.hash_path.now ≡ hash_path
      → IsKeptLine paths host stores files facts p data_path hash_path old new named (Some kept)
  kept_there old new named path opened file kept is opens settled same at_data hash =
      let P : LineFile G → Type 0 = λ (f : LineFile G). IsSettledFile paths host stores files facts p data_path hash_path opened f.folder in
      let Q : Option (Bor (List ℕ)) → Type 0 = λ (o : Option (Bor (List ℕ))).
      IsKeptLine paths host stores files facts p data_path hash_path old new o (Some kept) in
      subst Q (sym is) (at_data, hash, (opened, opens, subst P (sym same) settled))

  -- it was opened, and closed though it isn't settled
  pub left_unsettled : (v : OpenedThere paths host stores files facts p data_path hash_path) (old mid new : L)
      (named : Option (Bor (List ℕ))) (path : Bor (List ℕ)) (opened last : G) (e : Failure) → named ≡ Some path
      → files.opens old path.now opened mid → files.closes mid last new → StaysUnlessFailed facts opened last e
      → LeavesOnly facts.moment facts.left_since opened last
      (SettlesBy host stores v.on data_path hash_path v.image v.device (facts.seen opened) (facts.may_leave opened))
      → IsLeftAt paths host stores files facts p data_path hash_path old new named e
  left_unsettled v old mid new named path opened last e is opens closes stays moments =
      inr (path, opened, last, is, record { during = mid; opened = opens; closed = closes }, inl (stays, (v, moments)))

  -- it was opened, settled and closed
  pub left_settled : (old mid new : L) (named : Option (Bor (List ℕ))) (path : Bor (List ℕ)) (opened last : G) (e : Failure)
      → named ≡ Some path → files.opens old path.now opened mid → files.closes mid last new
      → IsSettledFile paths host stores files facts p data_path hash_path opened last
      → IsLeftAt paths host stores files facts p data_path hash_path old new named e
  left_settled old mid new named path opened last e is opens closes settled =
      inr (path, opened, last, is, record { during = mid; opened = opens; closed = closes }, inr (last, settled, inl refl))

  -- a line that fails is FILE's
  pub line_fails : (old new : L) (file : Option (Bor (List ℕ))) (kept : Option (KeptLine G))
      → IsKeptLine paths host stores files facts p data_path hash_path old new file kept
      → LineFails facts kept → FileFails files facts old file
  line_fails old new None None is fails = absurd fails
  line_fails old new None (Some kept) is fails = cc
  line_fails old new (Some path) None is fails = absurd is
  line_fails old new (Some path) (Some kept) is fails = inr fails

  -- it is the line of a volume on devices at these paths
  pub kept_paths : (old new : L) (file : Option (Bor (List ℕ))) (kept : Option (KeptLine G))
      → IsKeptLine paths host stores files facts p data_path hash_path old new file kept → IsAtPaths kept data_path hash_path
  kept_paths old new file None is = tt
  kept_paths old new None (Some kept) is = cc
  kept_paths old new (Some path) (Some kept) (at_data, hash, at) = (at_data, hash)

  begun_with : (old mid : L) (named : Option (Bor (List ℕ))) (found a : Option (KeptLine G))
      → IsKeptLine paths host stores files facts p data_path hash_path old mid named found → a ≡ found
      → IsKeptLine paths host stores files facts p data_path hash_path old mid named a
  begun_with old mid named found a is begun =
      let P : Option (KeptLine G) → Type 0 = λ (o : Option (KeptLine G)).
      IsKeptLine paths host stores files facts p data_path hash_path old mid named o in
      subst P (sym begun) is

  kept_at_once : (old mid new : L) (named : Option (Bor (List ℕ)))
      (leaves : Devices → Option (List ℕ) → Option (List ℕ) → ℕ → LeftLine → Type 0)
      (before after : Option (List ℕ)) (status : ℕ) (a b : Option (KeptLine G)) (file : Option (LineFile G))
      → IsKeptLine paths host stores files facts p data_path hash_path old mid named a
      → IsChangedBy facts a b data_path hash_path → file ≡ file_of b
      → MatchOption file (new ≡ mid) (λ f. files.closes mid f.folder new)
      → IsKeptBy facts a b leaves data_path hash_path before after status
      → IsKeptAt paths host stores files facts p data_path hash_path old new named leaves before after status
  kept_at_once old mid new None leaves before after status None None file is changed same closed by =
      not_closed files mid new file same closed ∙ is.1
  kept_at_once old mid new None leaves before after status None (Some b) file is changed same closed by = absurd changed
  kept_at_once old mid new None leaves before after status (Some a) b file is changed same closed by = cc
  kept_at_once old mid new (Some path) leaves before after status None b file is changed same closed by = absurd is
  kept_at_once old mid new (Some path) leaves before after status (Some a) None file is changed same closed by = absurd by
  kept_at_once old mid new (Some path) leaves before after status (Some a) (Some b) file
      (own_data, own_hash, (opened, opens, settled)) changed same closed (devices, at_data, hash, (left, leave, line)) = (
        devices,
        at_data,
        hash,
        (
          opened,
          b.file.folder,
          left,
          record { during = mid; opened = opens; closed = closed_at files mid new b file same closed },
          leave,
          record {
            settled = a.file.folder;
            is_settled = settled;
            is_left = line.is_left;
            any_moment = line.any_moment;
          },
        ),
      )

  -- what was left of the line was left of FILE, whose folder was closed so
  pub kept_at : {E : Type 0} (old mid new : L) (named : Option (Bor (List ℕ)))
      (leaves : Devices → Option (List ℕ) → Option (List ℕ) → ℕ → LeftLine → Type 0)
      (before after : Option (List ℕ)) (found a b : Option (KeptLine G)) (file : Option (LineFile G)) (done : Result ℕ E)
      → IsKeptLine paths host stores files facts p data_path hash_path old mid named found → a ≡ found
      → IsChangedBy facts a b data_path hash_path → file ≡ file_of b
      → MatchOption file (new ≡ mid) (λ f. files.closes mid f.folder new)
      → IfOk done (λ status. IsKeptBy facts a b leaves data_path hash_path before after status)
      → IfOk done (λ status. IsKeptAt paths host stores files facts p data_path hash_path old new named leaves before after status)
  kept_at old mid new named leaves before after found a b file (Ok status) is begun changed same closed by =
      kept_at_once old mid new named leaves before after status a b file (begun_with old mid named found a is begun) changed same closed by
  kept_at old mid new named leaves before after found a b file (Err e) is begun changed same closed by = tt

  left_at_once : (old mid new : L) (named : Option (Bor (List ℕ))) (a b : Option (KeptLine G)) (file : Option (LineFile G)) (e : Failure)
      → IsKeptLine paths host stores files facts p data_path hash_path old mid named a
      → IsChangedBy facts a b data_path hash_path → file ≡ file_of b
      → MatchOption file (new ≡ mid) (λ f. files.closes mid f.folder new)
      → IsLeftAt paths host stores files facts p data_path hash_path old new named e
  left_at_once old mid new None None None file e is changed same closed = inl (not_closed files mid new file same closed ∙ is.1)
  left_at_once old mid new None None (Some b) file e is changed same closed = absurd changed
  left_at_once old mid new None (Some a) b file e is changed same closed = cc
  left_at_once old mid new (Some path) None b file e is changed same closed = absurd is
  left_at_once old mid new (Some path) (Some a) None file e is changed same closed = absurd changed
  left_at_once old mid new (Some path) (Some a) (Some b) file e (own_data, own_hash, (opened, opens, settled)) changed same closed = inr (
    path,
    opened,
    b.file.folder,
    refl,
    record { during = mid; opened = opens; closed = closed_at files mid new b file same closed },
    inr (a.file.folder, settled, changed),
  )

  -- and where the work isn't done, by commits
  pub left_at : {T : Type 0} (old mid new : L) (named : Option (Bor (List ℕ))) (found a b : Option (KeptLine G))
      (file : Option (LineFile G)) (done : Result T Failure)
      → IsKeptLine paths host stores files facts p data_path hash_path old mid named found → a ≡ found
      → IsChangedBy facts a b data_path hash_path → file ≡ file_of b
      → MatchOption file (new ≡ mid) (λ f. files.closes mid f.folder new)
      → IfErr done (IsLeftAt paths host stores files facts p data_path hash_path old new named)
  left_at old mid new named found a b file (Ok value) is begun changed same closed = tt
  left_at old mid new named found a b file (Err e) is begun changed same closed =
      left_at_once old mid new named a b file e (begun_with old mid named found a is begun) changed same closed

-- the hash block at which its tree begins is noted
module _ {F : Type 0} (facts : folder.Ghosts F) (start : ℕ) where
  paths_begun : (line : Option (KeptLine F)) (data_path hash_path : List ℕ) → IsAtPaths line data_path hash_path
      → IsAtPaths (option_map (begun_at start) line) data_path hash_path
  paths_begun None data_path hash_path at = tt
  paths_begun (Some line) data_path hash_path at = at

  start_begun : (line : Option (KeptLine F)) → BeginsAt (option_map (begun_at start) line) start
  start_begun None = tt
  start_begun (Some line) = refl

  fails_begun : (line : Option (KeptLine F)) → LineFails facts (option_map (begun_at start) line) → LineFails facts line
  fails_begun None fails = fails
  fails_begun (Some line) fails = fails

  changed_begun : (line : Option (KeptLine F)) (data_path hash_path : List ℕ)
      → IsChangedBy facts line (option_map (begun_at start) line) data_path hash_path
  changed_begun None data_path hash_path = tt
  changed_begun (Some line) data_path hash_path = inl refl

  by_commits_begun : (line new : Option (KeptLine F)) (data_path hash_path : List ℕ) → IsAtPaths line data_path hash_path
      → KeepsFileOf facts (option_map (begun_at start) line) new → IsChangedBy facts line new data_path hash_path
  by_commits_begun None None data_path hash_path own keeps = tt
  by_commits_begun None (Some b) data_path hash_path own keeps = absurd keeps
  by_commits_begun (Some a) None data_path hash_path own keeps = absurd keeps
  by_commits_begun (Some a) (Some b) data_path hash_path (own_data, own_hash) keeps =
      inr ((begun_at start a).devices, own_data, own_hash, keeps.any_moment)

  kept_begun : {T : Type 0} (line b : Option (KeptLine F)) (leaves : Leaves T) (old new : T) (text : List ℕ → Option (List ℕ))
      (data_path hash_path : List ℕ) (before after : Option (List ℕ)) (status : ℕ) → LeavesAsBefore leaves old new
      → IsKeptBy facts (option_map (begun_at start) line) b (leaves new text) data_path hash_path before after status
      → IsKeptBy facts line b (leaves old text) data_path hash_path before after status
  kept_begun None b leaves old new text data_path hash_path before after status same by = tt
  kept_begun (Some a) None leaves old new text data_path hash_path before after status same by = by
  kept_begun (Some a) (Some b) leaves old new text data_path hash_path before after status same
      (devices, at_data, hash, (left, leave, line)) = (
        devices,
        at_data,
        hash,
        (
          left,
          same text devices before after status left leave,
          record { is_left = line.is_left; any_moment = line.any_moment },
        ),
      )

  module _ (line x : Option (KeptLine F)) (is : x ≡ option_map (begun_at start) line) (data_path hash_path : List ℕ) where
    pub begun_paths : IsAtPaths line data_path hash_path → IsAtPaths x data_path hash_path
    begun_paths at = let Q : Option (KeptLine F) → Type 0 = λ o. IsAtPaths o data_path hash_path in
        subst Q (sym is) (paths_begun line data_path hash_path at)

    pub begun_start : BeginsAt x start
    begun_start = let Q : Option (KeptLine F) → Type 0 = λ o. BeginsAt o start in subst Q (sym is) (start_begun line)

    pub begun_fails : LineFails facts x → LineFails facts line
    begun_fails fails = let Q : Option (KeptLine F) → Type 0 = λ o. LineFails facts o in fails_begun line (subst Q is fails)

    -- nothing else was done
    pub begun_alone : IsChangedBy facts line x data_path hash_path
    begun_alone = let Q : Option (KeptLine F) → Type 0 = λ o. IsChangedBy facts line o data_path hash_path in
        subst Q (sym is) (changed_begun line data_path hash_path)

    -- and then commits were made
    pub begun_by_commits : (new : Option (KeptLine F)) → IsAtPaths line data_path hash_path → KeepsFileOf facts x new
        → IsChangedBy facts line new data_path hash_path
    begun_by_commits new own keeps = let Q : Option (KeptLine F) → Type 0 = λ o. KeepsFileOf facts o new in
        by_commits_begun line new data_path hash_path own (subst Q is keeps)

    -- and the work leaves of it what it was to leave
    pub kept_as_begun : {T E : Type 0} (b : Option (KeptLine F)) (leaves : Leaves T) (old new : T)
        (text : List ℕ → Option (List ℕ)) (before after : Option (List ℕ)) (done : Result ℕ E) → LeavesAsBefore leaves old new
        → IfOk done (λ status. IsKeptBy facts x b (leaves new text) data_path hash_path before after status)
        → IfOk done (λ status. IsKeptBy facts line b (leaves old text) data_path hash_path before after status)
    kept_as_begun b leaves old new text before after (Ok status) same by =
        let Q : Option (KeptLine F) → Type 0 = λ o. IsKeptBy facts o b (leaves new text) data_path hash_path before after status in
        kept_begun line b leaves old new text data_path hash_path before after status same (subst Q is by)
    kept_as_begun b leaves old new text before after (Err e) same by = tt

on_paths : (x y : List ℕ) (n : ℕ) → Devices → Volume → List ℕ → TableLine
on_paths x y n devices volume root = record (volume_line devices volume root) { dev = x; hash_dev = y; hash_start_block = n }

-- a volume's line is one on devices at the same paths, where its tree begins at the same hash block
same_line : (d e : Devices) → d.data_path.now ≡ e.data_path.now → d.hash_path.now ≡ e.hash_path.now
    → d.hash_start_block ≡ e.hash_start_block → (volume : Volume) (root : List ℕ) → volume_line d volume root ≡ volume_line e volume root
unfolding on_paths
same_line d e at_data hash start volume root =
    ap (λ (x : List ℕ). on_paths x d.hash_path.now d.hash_start_block d volume root) at_data
    ∙ ap (λ (y : List ℕ). on_paths e.data_path.now y d.hash_start_block d volume root) hash
    ∙ ap (λ (n : ℕ). on_paths e.data_path.now e.hash_path.now n d volume root) start

since_on : {F : Type 0} (facts : folder.Ghosts F) (old : F) (d e : Devices)
    → ((volume : Volume) (root : List ℕ) → volume_line d volume root ≡ volume_line e volume root) → (c : Texts)
    → IsLineSince facts old d c → IsLineSince facts old e c
since_on facts old d e same c is = ⊎_elim inl (λ later. inr (⊎_elim inl
    (λ made. inr (made.0, made.1, made.2 ∙ ap (λ (t : TableLine). Some (text_of t)) (same made.0 made.1))) later)) is

left_for : {F : Type 0} (facts : folder.Ghosts F) (a b : F) (P Q : Texts → Type 0) → ((c : Texts) → P c → Q c)
    → LeavesOnly facts.moment facts.left_since a b P → LeavesOnly facts.moment facts.left_since a b Q
left_for facts a b P Q f only = record {
  later = only.later;
  each = λ c left. f c (only.each c left);
  before = λ t c early left. ⊎_elim inl (λ p. inr (f c p)) (only.before t c early left);
}

left_in : {C F : Type 0} (facts : folder.Ghosts F) (line : C → Option (KeptLine F)) (i j : C) (a b : KeptLine F) (devices : Devices)
    (left : LeftLine) → line i ≡ Some a → line j ≡ Some b
    → ((volume : Volume) (root : List ℕ) → volume_line b.devices volume root ≡ volume_line devices volume root)
    → IsLeft (λ c. HoldsLineOf facts (line c)) i j left → IsLeftIn facts devices a.file.folder b.file.folder left
left_in facts line i j a b devices AsBefore is_a is_b on same =
    let e : Some b ≡ Some a = sym is_b ∙ ap line same ∙ is_a in
    let f : b ≡ a = cc in
    ap (λ (l : KeptLine _). l.file.folder) f
left_in facts line i j a b devices (Holding volume root) is_a is_b on holds =
    let P : Option (KeptLine _) → Type 0 = λ (x : Option (KeptLine _)). HoldsLineOf facts x volume root in
    subst P is_b holds ∙ ap holding (on volume root)
left_in facts line i j a b devices Unknown is_a is_b on unknown = tt

-- what commits left of the line of a volume on these devices
pub kept_by : {C F : Type 0} (facts : folder.Ghosts F) (line : C → Option (KeptLine F)) (i j : C) (x y : Option (KeptLine F))
    (leaves : Devices → Option (List ℕ) → Option (List ℕ) → ℕ → LeftLine → Type 0) (devices : Devices) (data_path hash_path : List ℕ)
    (before after : Option (List ℕ)) (status : ℕ) → line i ≡ x → line j ≡ y → IsAtPaths x data_path hash_path
    → BeginsAt x devices.hash_start_block → devices.data_path.now ≡ data_path → devices.hash_path.now ≡ hash_path → KeepsFileOf facts x y
    → (left : LeftLine) × leaves devices before after status left × IsLeft (λ c. HoldsLineOf facts (line c)) i j left
    → IsKeptBy facts x y leaves data_path hash_path before after status
kept_by facts line i j None y leaves devices data_path hash_path before after status is_x is_y own start at_data hash keeps left = tt
kept_by facts line i j (Some a) None leaves devices data_path hash_path before after status is_x is_y own start at_data hash keeps left =
    absurd keeps
kept_by facts line i j (Some a) (Some b) leaves devices data_path hash_path before after status is_x is_y (own_data, own_hash) start
    at_data hash
    keeps (left, leave, is_left) =
    let of_a = same_line a.devices devices (own_data ∙ sym at_data) (own_hash ∙ sym hash) start in
    let of_b = λ (volume : Volume) (root : List ℕ). ap (λ (d : Devices). volume_line d volume root) keeps.devices ∙ of_a volume root in (
      devices,
      at_data,
      hash,
      (
        left,
        leave,
        record {
          is_left = left_in facts line i j a b devices left is_x is_y of_b is_left;
          any_moment = left_for facts a.file.folder b.file.folder _ _ (since_on facts a.file.folder a.devices devices of_a)
              keeps.any_moment;
        },
      ),
    )

-- and so of the one that is kept with staged commits
pub kept_by_commits : {P F E : Type 0} (facts : folder.Ghosts F) (i j : StagedCommits P F)
    (leaves : Devices → Option (List ℕ) → Option (List ℕ) → ℕ → LeftLine → Type 0) (devices : Devices) (data_path hash_path : List ℕ)
    (start : ℕ) (before after : Option (List ℕ)) (done : Result ℕ E) → IsAtPaths i.line data_path hash_path → BeginsAt i.line start
    → devices.data_path.now ≡ data_path → devices.hash_path.now ≡ hash_path → devices.hash_start_block ≡ start
    → KeepsFileOf facts i.line j.line
    → IfOk done (λ status. (left : LeftLine) × leaves devices before after status left × IsLeft (λ c. HoldsLineOf facts c.line) i j left)
    → IfOk done (λ status. IsKeptBy facts i.line j.line leaves data_path hash_path before after status)
kept_by_commits {P = P} {F = F} facts i j leaves devices data_path hash_path start before after (Ok status) own begins at_data hash same
    keeps left =
    kept_by facts (λ (c : StagedCommits P F). c.line) i j i.line j.line leaves devices data_path hash_path before after status refl refl own
    (let Q : ℕ → Type 0 = λ n. BeginsAt i.line n in subst Q (sym same) begins) at_data hash keeps left
kept_by_commits facts i j leaves devices data_path hash_path start before after (Err e) own begins at_data hash same keeps left = tt

-- where nothing was committed
pub keeps_itself : {F : Type 0} (facts : folder.Ghosts F) → OnlyNow facts → (line : Option (KeptLine F)) → KeepsFileOf facts line line
keeps_itself facts only None = tt
keeps_itself facts only (Some line) = as_it_is facts only line

-- nothing was done
pub changed_itself : {F : Type 0} (facts : folder.Ghosts F) (line : Option (KeptLine F)) (data_path hash_path : List ℕ)
    → IsChangedBy facts line line data_path hash_path
changed_itself facts None data_path hash_path = tt
changed_itself facts (Some line) data_path hash_path = inl refl
