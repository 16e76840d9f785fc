-- FILE, from where it is opened to where it has the line.
use Rattle.std.proofs.Common.{◌≡◌, ◌⊎◌, inl, inr, ⊎_elim, ℕ, List, [], Option, Some, None, MatchOption, Bor, Result, Ok, Err}
use Rattle.std.proofs.Common.{IfErr, OnOk, ap, sym, subst, ◌∙◌, arith, refl}
use Rattle.std.specs.Prelude.{⊤}
use Rattle.std.specs.Io.KnownBytes.{Appends}
use Rattle.os_line_file.specs.Folder.{Texts, with_next, IsDurable, LeavesOnly}
use Rattle.os_line_file.specs.declared.folder.LineFolder as folder
use Rattle.os_line_file.specs.declared.folder.LineFolders as folders
use Rattle.cli_faults.specs.Faults.{line}
use Rattle.cli_faults.specs.declared.failure.Failure.{Failure}
use Rattle.os_files.specs.declared.system.System.{Ghosts}
use Rattle.verity_store.specs.declared.store.BlockStore as store
use Rattle.verity_superblock.specs.Line.{canonical}
use Rattle.cli_arguments.specs.declared.words.format.FormatWords.{FormatWords}
use Rattle.cli_line_file.specs.Files.{IsOpened}
use Rattle.cli_line_file.specs.Keeping.{KeepsOld, KeepsOldOr}
use Rattle.cli_format.specs.Formatting.{line_made}
use Rattle.cli_format.specs.Kept.{IsKeptAt, IsLeftAt, IsReplacedBy, IsSpared, IsUnopened, Keeps}
use Rattle.cli_format.specs.Printed.{IsFormatted}
use Rattle.cli_format.specs.Sliced.{IsJoined}
use Rattle.cli_format.specs.declared.formatting.Shape.{Shape}

-- one stretch of time, and another one
and_then : {F : Type 0} (moment : F → ℕ) (left_since : F → ℕ → Texts → Type 0) (old mid new : F) (P Q R : Texts → Type 0)
    → LeavesOnly moment left_since old mid P → LeavesOnly moment left_since mid new Q → ((c : Texts) → P c → R c)
    → ((c : Texts) → Q c → R c) → LeavesOnly moment left_since old new R
and_then moment left_since old mid new P Q R first second by_first by_second = record {
  later = omega (arith, first.later, second.later);
  each = λ c left. ⊎_elim (λ was. by_first c (first.each c was)) (by_second c) (second.before (moment old) c first.later left);
  before = λ t c le left. ⊎_elim
      (λ was. ⊎_elim (λ older. inl older) (λ then. inr (by_first c then)) (first.before t c le was))
      (λ now. inr (by_second c now))
      (second.before t c (omega (arith, le, first.later)) left);
}

module _ {G : Type 0} (facts : folder.Ghosts G) where
  -- nothing was done
  pub at_rest : (text : List ℕ) (old : G) → ((c : Texts) → facts.left_since old (facts.moment old) c → facts.may_leave old c)
      → IsReplacedBy facts text old old
  at_rest text old only = record {
    later = omega arith;
    each = λ c left. inr (inr (c, only c left, refl));
    before = λ t c le left. inl left;
  }

  -- FILE as it was when it was tried is FILE as it was when it was opened
  old_text : (old mid : G) → facts.seen mid ≡ with_next None (facts.seen old) → IsDurable (facts.seen mid) (facts.may_leave mid)
      → (c : Texts) → KeepsOld (facts.seen mid) (facts.may_leave mid) c → KeepsOld (facts.seen old) (facts.may_leave old) c
  old_text old mid seen durable c (inl same) = inl (same ∙ ap (λ t. t.line) seen)
  old_text old mid seen durable c (inr (d, left, same)) = inl (same ∙ ap (λ t. t.line) (durable d left ∙ seen))

  old_or_text : (text : List ℕ) (old mid : G) → facts.seen mid ≡ with_next None (facts.seen old)
      → IsDurable (facts.seen mid) (facts.may_leave mid) → (c : Texts) → KeepsOldOr text (facts.seen mid) (facts.may_leave mid) c
      → KeepsOldOr text (facts.seen old) (facts.may_leave old) c
  old_or_text text old mid seen durable c (inl new) = inl new
  old_or_text text old mid seen durable c (inr was) = inr (old_text old mid seen durable c was)

  -- what was put in FILE's place once that was tried, is what was put there since it was opened
  pub replaced_after : (text : List ℕ) (old mid new : G) → facts.seen mid ≡ with_next None (facts.seen old)
      → IsDurable (facts.seen mid) (facts.may_leave mid) → IsSpared facts old mid → IsReplacedBy facts text mid new
      → IsReplacedBy facts text old new
  replaced_after text old mid new seen durable tried replaced = and_then facts.moment facts.left_since old mid new
      (KeepsOld (facts.seen old) (facts.may_leave old)) (KeepsOldOr text (facts.seen mid) (facts.may_leave mid))
      (KeepsOldOr text (facts.seen old) (facts.may_leave old)) tried replaced (λ c was. inr was) (old_or_text text old mid seen durable)

-- what holds at any rate, holds where a call fails
pub on_failure : {T E P : Type 0} (answer : Result T E) → P → IfErr answer (λ _. P)
on_failure (Ok x) p = tt
on_failure (Err e) p = p

-- where a fact of what is done follows of three
pub on_three : {T E A B C D : Type 0} (answer : Result T E) → (A → B → C → D) → OnOk answer A → OnOk answer B → OnOk answer C
    → OnOk answer D
on_three (Ok x) follows a b c = follows a b c
on_three (Err e) follows a b c = tt

-- where a fact of a failure follows of another
pub if_failed : {T E : Type 0} (P Q : E → Type 0) (answer : Result T E) → ((e : E) → P e → Q e) → IfErr answer P → IfErr answer Q
if_failed P Q (Ok x) follows p = tt
if_failed P Q (Err e) follows p = follows e p

-- what was made by printing into memory, which was empty
pub made_in : (is_made : Option (List ℕ) → Option (List ℕ) → Type 0) (start end text : List ℕ) → start ≡ [] → text ≡ end
    → is_made (Some start) (Some end) → is_made (Some []) (Some text)
made_in is_made start end text empty same made =
    subst (λ (from : List ℕ). is_made (Some from) (Some text)) empty
    (subst (λ (to : List ℕ). is_made (Some start) (Some to)) (sym same) made)

-- what is so of FILE's path, where FILE is named
pub of_path : (P : List ℕ → Type 0) (file : Option (Bor (List ℕ))) (path : Bor (List ℕ)) → file ≡ Some path → P path.now
    → MatchOption file ⊤ (λ at. P at.now)
of_path P file path is p = subst (λ (asked : Option (Bor (List ℕ))). MatchOption asked ⊤ (λ at. P at.now)) (sym is) p

module _ {L G : Type 0} (files : folders.Ghosts L G) (facts : folder.Ghosts G) (l new_l : L) (old new : G) where
  -- FILE of this path was kept
  pub kept_at : (file : Option (Bor (List ℕ))) (path : Bor (List ℕ)) (is_made : Option (List ℕ) → Option (List ℕ) → Type 0)
      (before after : Option (List ℕ)) → file ≡ Some path → IsOpened files facts l new_l path.now old new
      → Keeps facts is_made before after old new
      → MatchOption file (new_l ≡ l) (λ at. IsKeptAt files facts l new_l at.now is_made before after)
  kept_at file path is_made before after is opened kept =
      subst (λ (asked : Option (Bor (List ℕ))). MatchOption asked (new_l ≡ l)
      (λ at. IsKeptAt files facts l new_l at.now is_made before after)) (sym is) (old, new, opened, kept)

module _ {L G S F D J : Type 0} (files : folders.Ghosts L G) (facts : folder.Ghosts G) (l new_l : L) (system : Ghosts S F D J)
    (s s' : S) (words : FormatWords) (is_made : Option (List ℕ) → Option (List ℕ) → Type 0) where
  -- FILE of this path was left so
  pub left_at : (file : Option (Bor (List ℕ))) (path : Bor (List ℕ)) (e : Failure) → file ≡ Some path
      → IsUnopened files facts l new_l path.now system s s' words e ⊎ IsLeftAt files facts l new_l path.now is_made
      → MatchOption file (new_l ≡ l) (λ at. IsUnopened files facts l new_l at.now system s s' words e
      ⊎ IsLeftAt files facts l new_l at.now is_made)
  left_at file path e is left =
      subst (λ (asked : Option (Bor (List ℕ))). MatchOption asked (new_l ≡ l)
      (λ at. IsUnopened files facts l new_l at.now system s s' words e ⊎ IsLeftAt files facts l new_l at.now is_made)) (sym is) left

-- a text that was printed into memory, and then elsewhere
printed_again : (text told : List ℕ) (before after : Option (List ℕ)) → Appends (Some []) (Some text) told → Appends before after text
    → Appends before after told
printed_again text told before after held printed = subst (Appends before after) held printed

module _ {D : Type 0} (facts : store.Ghosts D) where
  pub formatted_again : (lies : Shape → D → Type 0) (leaves : Shape → D → D → Type 0) (words : FormatWords) (text : List ℕ)
      (before after : Option (List ℕ)) → IsFormatted facts lies leaves words (Some []) (Some text) → Appends before after text
      → IsFormatted facts lies leaves words before after
  formatted_again lies leaves words text before after f printed = record {
    table = f.table;
    offset = f.offset;
    shape = f.shape;
    image = f.image;
    source = f.source;
    source' = f.source';
    target = f.target;
    target' = f.target';
    profile = f.profile;
    dev = f.dev;
    hash_dev = f.hash_dev;
    data_block_size = f.data_block_size;
    hash_block_size = f.hash_block_size;
    salt = f.salt;
    asked = f.asked;
    start = f.start;
    algorithm = f.algorithm;
    shaped = f.shaped;
    there = f.there;
    read = f.read;
    given = f.given;
    told = f.told;
    fits = f.fits;
    left = f.left;
    later = f.later;
    written = f.written;
    synced = f.synced;
    printed = printed_again text (line (canonical f.table)) before after f.printed printed;
  }

  pub joined_again : (lies : Shape → D → Type 0) (leaves : D → D → Type 0) (words : FormatWords) (input : Option (List ℕ))
      (text : List ℕ) (before after : Option (List ℕ)) → IsJoined facts lies leaves words input (Some []) (Some text)
      → Appends before after text → IsJoined facts lies leaves words input before after
  joined_again lies leaves words input text before after j printed = record {
    shape = j.shape;
    salt = j.salt;
    runs = j.runs;
    made = j.made;
    shaped = j.shaped;
    salted = j.salted;
    told = j.told;
    joined = j.joined;
    start = j.start;
    profile = j.profile;
    printed = printed_again text (line (canonical (line_made words j.shape j.made j.salt))) before after j.printed printed;
  }
