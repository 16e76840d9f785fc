-- What the calls of a pull with its lines in files come to.
use Rattle.std.proofs.Common.{◌≡◌, ◌⊎◌, ◌∙◌, inl, inr, ℕ, List, Option, Some, None, MatchOption, Bor, ap, refl, subst, sym}
use Rattle.std.specs.Prelude.{String, string_bytes}
use Rattle.os_line_file.specs.Folder.{Texts, with_next, IsDurable, KeepsLine, LeavesOnly}
use Rattle.os_line_file.specs.declared.folder.LineFolder as folder
use Rattle.os_line_file.specs.declared.folder.LineFolders as folders
use Rattle.cli_faults.specs.declared.failure.Failure.{Failure}
use Rattle.os_files.specs.declared.system.System.{Ghosts}
use Rattle.verity_disks.specs.declared.disks.Disks as disks
use Rattle.verity_line_file.specs.Lines.{pulling, text_of}
use Rattle.verity_line_file.proofs.Moments.{still}
use Rattle.verity_moved.specs.Moved.{Moving}
use Rattle.verity_store.specs.declared.store.BlockStore as store
use Rattle.verity_superblock.specs.Line.{TableLine}
use Rattle.cli_arguments.specs.declared.words.pull.PullWords.{PullWords}
use Rattle.cli_line_file.specs.Files.{IsLineAt, IsNoLineAt, IsNoLineIn, IsOpened, WasSeen}
use Rattle.cli_line_file.specs.Keeping.{only_line, KeepsOld, KeepsOldOr}
use Rattle.cli_pull.specs.Keeping.{StaysAtAnyMoment, StaysOrHas, HasLine, IsUnderWay, IsHeld, IsHeldIn, IsPrinted, IsApartFrom}
use Rattle.cli_pull.specs.Keeping.{IsPulledInto, IsCutInto, IsPulledAt, IsPulledTo, IsPulledBy}
use Rattle.cli_pull.specs.Keeping.{IsUnopened, IsLeftAt, IsLeftTo, IsUnread, IsLeftBy}
use Rattle.cli_pull.specs.Printed.{IsPulledThere}
use Rattle.cli_pull.proofs.Moments.{more, twice}

module _ {G : Type 0} (folder : folder.Ghosts G) where
  -- nothing was done
  pub at_rest : (old : G) → ((c : Texts) → folder.left_since old (folder.moment old) c → folder.may_leave old c)
      → StaysAtAnyMoment folder old old
  at_rest old now = still folder.moment folder.left_since old (KeepsOld (folder.seen old) (folder.may_leave old))
      (λ c left. inr (c, now c left, refl))

  -- FILE isn't touched where FILE.next is made
  pub untouched : (old mid : G) → LeavesOnly folder.moment folder.left_since old mid (KeepsLine (folder.may_leave old))
      → StaysAtAnyMoment folder old mid
  untouched old mid only = more folder.moment folder.left_since old mid (KeepsLine (folder.may_leave old))
      (KeepsOld (folder.seen old) (folder.may_leave old)) only (λ c kept. inr kept)

  pub under_way : (old mid : G) → folder.seen mid ≡ with_next (Some pulling) (folder.seen old)
      → IsDurable (folder.seen mid) (folder.may_leave mid)
      → LeavesOnly folder.moment folder.left_since old mid (KeepsLine (folder.may_leave old)) → IsUnderWay folder old mid
  under_way old mid begun durable only = record { begun = begun; durable = durable; any_moment = untouched old mid only }

  -- FILE, as it was while the pull was under way, is as it was before
  onward : (old mid : G) (text : List ℕ) → IsUnderWay folder old mid → (c : Texts)
      → KeepsOldOr text (folder.seen mid) (folder.may_leave mid) c → KeepsOldOr text (folder.seen old) (folder.may_leave old) c
  onward old mid text way c (inl has) = inl has
  onward old mid text way c (inr (inl seen)) = inr (inl (seen ∙ ap (λ (d : Texts). d.line) way.begun))
  onward old mid text way c (inr (inr left)) =
      inr (inl (left.2 ∙ ap (λ (d : Texts). d.line) (way.durable left.0 left.1 ∙ way.begun)))

  -- then a line is kept in FILE
  pub taking : (old mid new : G) (t u : TableLine) → t ≡ u → IsUnderWay folder old mid
      → LeavesOnly folder.moment folder.left_since mid new (KeepsOldOr (text_of t) (folder.seen mid) (folder.may_leave mid))
      → StaysOrHas folder old new u
  taking old mid new t u same way only = subst (λ (line : TableLine). StaysOrHas folder old new line) same
      (twice folder.moment folder.left_since old mid new (KeepsOld (folder.seen old) (folder.may_leave old))
      (KeepsOldOr (text_of t) (folder.seen mid) (folder.may_leave mid)) (KeepsOldOr (text_of t) (folder.seen old) (folder.may_leave old))
      way.any_moment only (λ c kept. inr kept) (onward old mid (text_of t) way))

  pub taken : (old new : G) (t u : TableLine) → t ≡ u → folder.seen new ≡ only_line (text_of t)
      → IsDurable (folder.seen new) (folder.may_leave new) → HasLine folder old new u
  taken old new t u same kept durable = subst (λ (line : TableLine). HasLine folder old new line) same
      (record { only = kept; durable = durable })

-- the line that was found in FILE is the one that is there
pub held_some : {A : Type 0} (text : Option (List ℕ)) (found : Option (String A)) (line : String A) (given : Bor (List ℕ))
    → found ≡ Some line → IsHeld text found → given.now ≡ string_bytes line → IsHeldIn text (Some given)
held_some text found line given is held same =
    let there : IsHeld text (Some line) = subst (λ (o : Option (String _)). IsHeld text o) is held in
    (there.0, there.1, subst (λ (bytes : List ℕ). IsPrinted there.0 bytes) (sym same) there.2)

module _ {S F D J L G : Type 0} (facts : Ghosts S F D J) (stores : store.Ghosts D) (devices : disks.Ghosts J)
    (moving : store.Ghosts (Moving D)) (files : folders.Ghosts L G) (folder : folder.Ghosts G) (before after : S) where
  module _ (l new_l : L) (words : PullWords) where
    -- it was pulled with FILE of this path
    pub pulled_to : (path : Bor (List ℕ)) (old new : G) (out_old out_new : Option (List ℕ)) → words.table_file ≡ Some path
        → IsOpened files folder l new_l path.now old new → IsApartFrom facts before words path.now
        → IsPulledInto facts stores devices moving folder before after words path.now old new out_old out_new
        → IsPulledTo facts stores devices moving files folder before after l new_l words out_old out_new
    pulled_to path old new out_old out_new is opened apart into =
        subst (λ (file : Option (Bor (List ℕ))). MatchOption file
        ((new_l ≡ l) × IsPulledThere facts stores devices moving before after words out_old out_new)
        (λ at. IsPulledAt facts stores devices moving files folder before after l new_l words at.now out_old out_new))
        (sym is) (record { old = old; new = new; is_opened = opened; apart = apart; into = into })

    -- and without FILE
    pub pulled_without : (out_old out_new : Option (List ℕ)) → words.table_file ≡ None → new_l ≡ l
        → IsPulledThere facts stores devices moving before after words out_old out_new
        → IsPulledTo facts stores devices moving files folder before after l new_l words out_old out_new
    pulled_without out_old out_new is stays there =
        subst (λ (file : Option (Bor (List ℕ))). MatchOption file
        ((new_l ≡ l) × IsPulledThere facts stores devices moving before after words out_old out_new)
        (λ at. IsPulledAt facts stores devices moving files folder before after l new_l words at.now out_old out_new))
        (sym is) (stays, there)

    -- and was cut short
    pub left_to : (path : Bor (List ℕ)) (old new : G) → words.table_file ≡ Some path → IsOpened files folder l new_l path.now old new
        → IsCutInto facts stores devices moving folder before after words old new
        → IsLeftTo facts stores devices moving files folder before after l new_l words
    left_to path old new is opened cut =
        subst (λ (file : Option (Bor (List ℕ))). MatchOption file (new_l ≡ l)
        (λ at. IsUnopened facts stores devices moving files folder before after l new_l
        ⊎ IsLeftAt facts stores devices moving files folder before after l new_l words at.now))
        (sym is) (inr (old, new, opened, cut))

    left_closed_in : (file : Option (Bor (List ℕ))) → IsUnopened facts stores devices moving files folder before after l new_l
        → MatchOption file (new_l ≡ l) (λ at. IsUnopened facts stores devices moving files folder before after l new_l
        ⊎ IsLeftAt facts stores devices moving files folder before after l new_l words at.now)
    left_closed_in None stays = stays.0
    left_closed_in (Some at) stays = inl stays

    -- nothing was opened, made or written
    pub left_closed : IsUnopened facts stores devices moving files folder before after l new_l
        → IsLeftTo facts stores devices moving files folder before after l new_l words
    left_closed stays = left_closed_in words.table_file stays

  module _ {A : Type 0} (l mid new_l : L) (words : PullWords) (path to : Bor (List ℕ)) (line : String A) where
    -- it was pulled of the line in this file
    pub pulled_by : (out_old out_new : Option (List ℕ)) → words.to_file ≡ Some path
        → IsLineAt files folder l mid path.now (string_bytes line) → to.now ≡ string_bytes line
        → IsPulledTo facts stores devices moving files folder before after mid new_l (record words { to = to }) out_old out_new
        → IsPulledBy facts stores devices moving files folder before after l new_l words out_old out_new
    pulled_by out_old out_new is read same pulled =
        subst (λ (file : Option (Bor (List ℕ))). MatchOption file
        (IsPulledTo facts stores devices moving files folder before after l new_l words out_old out_new)
        (λ at. (own : Bor (List ℕ)) × (between : L) × IsLineAt files folder l between at.now own.now
        × IsPulledTo facts stores devices moving files folder before after between new_l (record words { to = own }) out_old out_new))
        (sym is)
        (to, mid, subst (λ (text : List ℕ). IsLineAt files folder l mid path.now text) (sym same) read, pulled)

    -- and was cut short
    pub left_by : (e : Failure) → words.to_file ≡ Some path → IsLineAt files folder l mid path.now (string_bytes line)
        → to.now ≡ string_bytes line
        → IsLeftTo facts stores devices moving files folder before after mid new_l (record words { to = to })
        → IsLeftBy facts stores devices moving files folder before after l new_l words e
    left_by e is read same left =
        subst (λ (file : Option (Bor (List ℕ))). MatchOption file
        (IsLeftTo facts stores devices moving files folder before after l new_l words)
        (λ at. IsUnread facts stores devices moving files folder before after l new_l at.now e
        ⊎ ((own : Bor (List ℕ)) × (between : L) × IsLineAt files folder l between at.now own.now
        × IsLeftTo facts stores devices moving files folder before after between new_l (record words { to = own }))))
        (sym is)
        (inr (to, mid, subst (λ (text : List ℕ). IsLineAt files folder l mid path.now text) (sym same) read, left))

  module _ (l new_l : L) (words : PullWords) where
    -- the line in this file isn't read
    pub left_unread : (path : Bor (List ℕ)) (e : Failure) → words.to_file ≡ Some path
        → IsUnread facts stores devices moving files folder before after l new_l path.now e
        → IsLeftBy facts stores devices moving files folder before after l new_l words e
    left_unread path e is unread =
        subst (λ (file : Option (Bor (List ℕ))). MatchOption file
        (IsLeftTo facts stores devices moving files folder before after l new_l words)
        (λ at. IsUnread facts stores devices moving files folder before after l new_l at.now e
        ⊎ ((own : Bor (List ℕ)) × (between : L) × IsLineAt files folder l between at.now own.now
        × IsLeftTo facts stores devices moving files folder before after between new_l (record words { to = own }))))
        (sym is) (inl unread)

-- why no line is read, and how the file was left
pub no_line : {S L G : Type 0} (files : folders.Ghosts L G) (folder : folder.Ghosts G) (s : S) (l new_l : L) (path : List ℕ) (e : Failure)
    → IsNoLineAt files folder l new_l path e
    → (s ≡ s) × ((new_l ≡ l) ⊎ WasSeen files folder l new_l path (λ texts. IsNoLineIn texts e))
no_line files folder s l new_l path e (inl unopened) = (refl, inl unopened.0)
no_line files folder s l new_l path e (inr seen) = (refl, inr seen)
