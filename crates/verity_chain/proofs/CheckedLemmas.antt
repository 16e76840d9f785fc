-- What reads leave of a checked store.
use Rattle.std.proofs.Common.{ℕ, ◌+◌, ◌<◌, ◌≤◌, ◌≡◌, ◌≢◌, ◌++◌, List, [], ◌∷◌, length, Contains, Option, None, Some, sym, ap, ◌∙◌}
use Rattle.std.proofs.Common.{Bool, true, false, true≢false, subst, inl, inr, ⊎_elim, arith, refl}
use Rattle.std.specs.Prelude.{IfSome}
use Rattle.std.specs.Option.{is_some}
use Rattle.std.proofs.lemmas.List.Elements.{Contains-push_cases, Contains-push, Contains-append_left}
use Rattle.verity_store.specs.Stores.{IsOnlyRead}
use Rattle.verity_store.specs.declared.store.BlockStore as store
use Rattle.verity_store.proofs.GivenLemmas.{goes_on_then, goes_on_same}
use Rattle.verity_chain.specs.Table.{Table, height, tree_len}
use Rattle.verity_chain.specs.Stores.{hash_given, IsHashStoreOf}
use Rattle.verity_chain.specs.Notes.{Note, AreChecked, WereGiven, KeepsNotes, ExplainsUnread}
use Rattle.verity_chain.specs.Notes.{AreApart, IsUpward, AsksWithin, NotesWithin}
use Rattle.verity_chain.specs.Origin.{StoreFacts, facts_of, IsReadSince}
use Rattle.verity_chain.specs.Checked.{IsAnswer, AsksOnly, Covers, Checking, IsChecking, unread}
use Rattle.verity_chain.specs.declared.notes.ReadRefused.{ReadRefused}
use Rattle.verity_chain.specs.declared.notes.ReadRefused.TheVariants as variant
use Rattle.verity_chain.proofs.ChainLemmas.{hash_given-grows}
use Rattle.verity_chain.proofs.NoteLemmas.{explains_grows}
use Rattle.verity_chain.proofs.FewLemmas.{few_notes}

some_not_none : {X : Type 0} (x : X) → Some x ≡ None → ⊥
some_not_none x e = subst (λ o. IfSome o (λ y. ⊥)) (sym e) tt

-- an option that isn't some is none
pub not_some : {X : Type 0} (o : Option X) → is_some o ≡ false → o ≡ None
not_some None e = refl
not_some (Some x) e = absurd (true≢false e)

-- and one that is isn't
pub is_some_not_none : {X : Type 0} (o : Option X) → is_some o ≡ true → o ≢ None
is_some_not_none None e same = true≢false (sym e)
is_some_not_none (Some x) e same = some_not_none x same

if_some : {X : Type 0} (o : Option X) (P Q : X → Type 0) → ((x : X) → P x → Q x) → IfSome o P → IfSome o Q
if_some None P Q f h = tt
if_some (Some x) P Q f h = f x h

-- the store of a table line stays so
store_later : {H : Type 0} (hash : store.Ghosts H) (t : Table) (old new : H) → IsOnlyRead hash old new → IsHashStoreOf hash t old →
    IsHashStoreOf hash t new
store_later hash t old new read h = record {
  size = read.later.size ∙ h.size;
  tree = λ some. subst (λ content. t.hash_start_block + tree_len t ≤ length content) (sym read.content) (h.tree some);
}

-- what was only read was only read since
pub read_since : {H : Type 0} (hash : store.Ghosts H) (was : StoreFacts) (old new : H) → IsReadSince hash was old → IsOnlyRead hash old new
    → IsReadSince hash was new
read_since hash was old new since read = record {
  content = read.content ∙ since.content;
  changes = read.changes ∙ since.changes;
  fixed = read.later.fixed ∙ since.fixed;
  tells = read.later.tells ∙ since.tells;
  size = read.later.size ∙ since.size;
  room = read.room ∙ since.room;
  gave = goes_on_then was.given (hash.given old) (hash.given new) since.gave read.later.gave;
  failures = let more = read.later.failures in let old_more = since.failures in omega arith;
  reads = let more = read.later.reads in let old_more = since.reads in omega arith;
}

-- an answer stays one
answer_kept : (t : Table) (old new : List Note) (n : ℕ) (block : List ℕ) → KeepsNotes old new → IsAnswer t old n block →
    IsAnswer t new n block
answer_kept t old new n block keeps = ⊎_elim inl (λ has. inr (keeps (record { number = n; block = block }) has))

module _ {H : Type 0} (hash : store.Ghosts H) (c : Checking H) (new : H) (notes : List Note) (is : IsChecking hash c)
    (read : IsOnlyRead hash c.hash_store new)
    (checked : AreChecked c.table notes) (noted : WereGiven hash c.since new notes) (keeps : KeepsNotes c.notes notes)
    (first : c.refusal ≡ None) (apart : AreApart notes) where
  -- a read that was answered
  pub checking_answered : (given : List (ℕ × List ℕ)) (hashed asked n : ℕ) (block : List ℕ) → given ≡ c.given ++ (n, block) ∷ [] →
      IsAnswer c.table notes n block → hash.failures new ≡ hash.failures c.hash_store
      → ((set : ℕ → ℕ → Bool) → IsUpward c.table set → AsksWithin c.table set n → NotesWithin c.table set c.notes notes)
      → hash.reads new + length c.notes ≡ hash.reads c.hash_store + length notes
      → hashed + hash.reads c.hash_store ≡ c.hashed + hash.reads new
      → IsChecking hash (record c { hash_store = new; notes = notes; given = given; hashed = hashed; asked = asked })
  checking_answered given hashed asked n block added answer unfailed within reads once = record {
    store = store_later hash c.table c.hash_store new read is.store;
    blocks = is.blocks;
    since = is.since;
    was = is.was;
    origin = is.origin;
    read = read_since hash is.was c.hash_store new is.read read;
    checked = checked;
    noted = noted;
    answers = λ m b has. ⊎_elim
        (λ was. answer_kept c.table c.notes notes m b keeps (is.answers m b was))
        (λ here. subst (λ (row : ℕ × List ℕ). IsAnswer c.table notes row.0 row.1) here answer)
        (Contains-push_cases c.given (n, block) (m, b) (subst (λ rows. Contains rows (m, b)) added has));
    refusal = if_some c.refusal
        (ExplainsUnread c.table (hash_given hash c.table c.since c.hash_store) (is.was.failures < hash.failures c.hash_store))
        (ExplainsUnread c.table (hash_given hash c.table c.since new) (is.was.failures < hash.failures new))
        (λ why h. explains_grows c.table (hash_given hash c.table c.since c.hash_store) (hash_given hash c.table c.since new) _ _
        (hash_given-grows hash c.table c.since c.hash_store new read) (λ less. omega (arith, less, unfailed)) why h)
        is.refusal;
    unrefused = is.unrefused;
    counted = is.counted;
    unfailed = λ other. unfailed ∙ is.unfailed other;
    apart = apart;
    within = λ none set asks m has.
        let has_now : (k : ℕ) (b : List ℕ) → Contains (c.given ++ (n, block) ∷ []) (k, b) → AsksWithin c.table set k =
        subst (λ rows. (k : ℕ) (b : List ℕ) → Contains rows (k, b) → AsksWithin c.table set k) added asks.1 in
        ⊎_elim
        (is.within first set (asks.0, λ k b h. has_now k b (Contains-append_left c.given ((n, block) ∷ []) (k, b) h)) m)
        (λ here. here)
        (within set asks.0 (has_now n block (Contains-push c.given (n, block))) m has);
    reads = λ none. let before = is.reads first in omega (arith, reads);
    few = λ some. absurd (some first);
    hashed = let before = is.hashed in omega (arith, once);
    hashed_each = λ none. let before = is.hashed_each first in omega (arith, once);
  }

  -- a read that was refused
  pub checking_refused : (hashed asked refused : ℕ) (why : ReadRefused) → refused ≡ c.refused + 1
      → ExplainsUnread c.table (hash_given hash c.table c.since new) (hash.failures c.hash_store < hash.failures new) why
      → (why ≢ variant.Store → hash.failures new ≡ hash.failures c.hash_store)
      → hash.reads new ≤ hash.reads c.hash_store + height c.table
      → hashed + hash.reads c.hash_store ≤ c.hashed + hash.reads new
      → IsChecking hash (record c {
        hash_store = new;
        notes = notes;
        hashed = hashed;
        asked = asked;
        refused = refused;
        refusal = Some why;
      })
  checking_refused hashed asked refused why more explains unfailed path once = record {
    store = store_later hash c.table c.hash_store new read is.store;
    blocks = is.blocks;
    since = is.since;
    was = is.was;
    origin = is.origin;
    read = read_since hash is.was c.hash_store new is.read read;
    checked = checked;
    noted = noted;
    answers = λ m b has. answer_kept c.table c.notes notes m b keeps (is.answers m b has);
    refusal = explains_grows c.table (hash_given hash c.table c.since new) (hash_given hash c.table c.since new) _ _ (λ r i y gave. gave)
        (λ less. let old = is.read.failures in omega arith) why explains;
    unrefused = λ none. absurd (some_not_none why none);
    counted = λ none. absurd (omega (arith, none, more));
    unfailed = λ other. unfailed (λ same. other (ap Some same))
        ∙ is.unfailed (λ same. some_not_none variant.Store (sym same ∙ first));
    apart = apart;
    within = λ none. absurd (some_not_none why none);
    reads = λ none. absurd (some_not_none why none);
    few = λ some set asks places covers.
        let before = is.reads first in
        let most = few_notes c.notes places is.apart (λ n has. covers n (is.within first set asks n has)) in
        omega (arith, path);
    hashed = let before = is.hashed in omega (arith, once);
    hashed_each = λ none. absurd (some_not_none why none);
  }

-- a read that was refused since one was before
pub checking_again : {H : Type 0} (hash : store.Ghosts H) (c : Checking H) (asked refused : ℕ) → c.refusal ≢ None → refused ≡ c.refused + 1
    → IsChecking hash c → IsChecking hash (record c { asked = asked; refused = refused })
checking_again hash c asked refused was more is = record {
  store = is.store;
  blocks = is.blocks;
  since = is.since;
  was = is.was;
  origin = is.origin;
  read = is.read;
  checked = is.checked;
  noted = is.noted;
  answers = is.answers;
  refusal = is.refusal;
  unrefused = λ none. absurd (was none);
  counted = λ none. absurd (omega (arith, none, more));
  unfailed = is.unfailed;
  apart = is.apart;
  within = is.within;
  reads = is.reads;
  few = is.few;
  hashed = is.hashed;
  hashed_each = λ none. absurd (was none);
}

-- one of which nothing was read
pub checking_unread : {H : Type 0} (hash : store.Ghosts H) (t : Table) (h : H) → IsHashStoreOf hash t h → IsChecking hash (unread hash t h)
checking_unread hash t h is = record {
  store = is;
  blocks = omega arith;
  was = facts_of hash h;
  origin = refl;
  since = refl;
  read = record {
    content = refl;
    changes = refl;
    fixed = refl;
    tells = refl;
    size = refl;
    room = refl;
    gave = goes_on_same (hash.given h);
    failures = omega arith;
    reads = omega arith;
  };
  checked = λ note has. absurd (omega (arith, has.1));
  noted = λ note has. absurd (omega (arith, has.1));
  answers = λ n block has. absurd (omega (arith, has.1));
  refusal = tt;
  unrefused = λ none. refl;
  counted = λ none. refl;
  unfailed = λ other. refl;
  apart = λ i j d less below. absurd (omega (arith, less, below));
  within = λ none set asks n has. absurd (omega (arith, has.1));
  reads = λ none. omega arith;
  few = λ some. absurd (some refl);
  hashed = omega arith;
  hashed_each = λ none. omega arith;
}

-- how much was read of the store below, where what was asked for is in a set of places
pub few_reads : {H : Type 0} (hash : store.Ghosts H) (c : Checking H) (is : IsChecking hash c) (set : ℕ → ℕ → Bool)
    (places : List ℕ) → AsksOnly c.table set c.given → Covers c.table set places
    → (c.refusal ≡ None → hash.reads c.hash_store ≤ is.was.reads + length places)
    × (hash.reads c.hash_store ≤ is.was.reads + length places + height c.table)
few_reads hash c is set places asks covers = (whole, by_refusal c.refusal refl) where
  whole : c.refusal ≡ None → hash.reads c.hash_store ≤ is.was.reads + length places
  whole none =
      let same = is.reads none in
      let most = few_notes c.notes places is.apart (λ n has. covers n (is.within none set asks n has)) in
      omega arith

  by_refusal : (o : Option ReadRefused) → c.refusal ≡ o → hash.reads c.hash_store ≤ is.was.reads + length places + height c.table
  by_refusal None none = omega (arith, whole none)
  by_refusal (Some why) some = is.few (λ none. some_not_none why (sym some ∙ none)) set asks places covers
