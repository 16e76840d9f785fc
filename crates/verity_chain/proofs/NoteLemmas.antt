-- Notes of checked hash blocks, one after the other.
use Rattle.std.proofs.Common.{ℕ, zero, suc, ◌/◌, ◌%◌, ◌<◌, ◌≡◌, ◌≢◌, ◌++◌, List, [], ◌∷◌, Contains}
use Rattle.std.proofs.Common.{sym, ◌∙◌, subst, ⊎_elim, Result, Ok, Err, IfErr, OnOk}
use Rattle.std.proofs.lemmas.List.Elements.{Contains-append_left, Contains-push, Contains-push_cases, Contains-get_or}
use Rattle.verity_digest.specs.Tree.{slot}
use Rattle.verity_store.specs.Stores.{IsOnlyRead}
use Rattle.verity_store.specs.declared.store.BlockStore as store
use Rattle.verity_chain.specs.declared.notes.ReadRefused.{ReadRefused}
use Rattle.verity_chain.specs.declared.notes.ReadRefused.TheVariants as refused
use Rattle.verity_chain.specs.Table.{Table, hashing_of, branching, height, row_len, hash_place}
use Rattle.verity_chain.specs.Chain.{Given, Names, EndsChain, WrongAt}
use Rattle.verity_chain.specs.Stores.{Gave, hash_given}
use Rattle.verity_chain.specs.Notes.{Note, noted, note_at, IsNoteAt, IsNoteOf, AreChecked, WereGiven, KeepsNotes, ExplainsUnread}
use Rattle.verity_chain.proofs.ChainLemmas.{Grows, Gave-grows, Names-grows, EndsChain-grows, chain_here, names_below, wrong_here}
use Rattle.verity_chain.proofs.ChainLemmas.{WrongAt-grows}
use Rattle.verity_chain.proofs.NoteLaws.{same_level, same_index}

-- what was noted was given
pub noted_given : {H : Type 0} (hash : store.Ghosts H) (t : Table) (mark : ℕ) (h : H) (notes : List Note) →
    WereGiven hash mark h notes → Grows (noted t notes) (hash_given hash t mark h)
noted_given hash t mark h notes given zero i y gave = absurd gave
noted_given hash t mark h notes given (suc l) i y gave = given (record { number = hash_place t l i; block = y }) gave

pub noted_more : (t : Table) (old new : List Note) → KeepsNotes old new → Grows (noted t old) (noted t new)
noted_more t old new keeps zero i y gave = absurd gave
noted_more t old new keeps (suc l) i y gave = keeps (record { number = hash_place t l i; block = y }) gave

pub given_later : {H : Type 0} (hash : store.Ghosts H) (mark : ℕ) (old new : H) (notes : List Note) → IsOnlyRead hash old new →
    WereGiven hash mark old notes → WereGiven hash mark new notes
given_later hash mark old new notes read given note has = Gave-grows hash mark old new read note.number note.block (given note has)

pub given_push : {H : Type 0} (hash : store.Ghosts H) (mark : ℕ) (old new : H) (notes more : List Note) (x : Note) →
    IsOnlyRead hash old new → Gave hash mark new x.number x.block
    → more ≡ notes ++ x ∷ [] → WereGiven hash mark old notes → WereGiven hash mark new more
given_push hash mark old new notes more x read gave is given note has =
    ⊎_elim (λ was. Gave-grows hash mark old new read note.number note.block (given note was))
    (λ here. subst (λ n. Gave hash mark new n.number n.block) here gave)
    (Contains-push_cases notes x note (subst (λ xs. Contains xs note) is has))

pub keeps_push : (notes more : List Note) (x : Note) → more ≡ notes ++ x ∷ [] → KeepsNotes notes more
keeps_push notes more x is note has = subst (λ xs. Contains xs note) (sym is) (Contains-append_left notes (x ∷ []) note has)

-- one checked block more
pub checked_push : (t : Table) (notes more : List Note) (l i : ℕ) (x : Note) (d : List ℕ) → more ≡ notes ++ x ∷ [] →
    IsNoteOf t l i x → Names t (noted t notes) (suc l) i d → (hashing_of t).digest x.block ≡ d → AreChecked t notes → AreChecked t more
checked_push t notes more l i x d is at names same checked note has =
    let keeps = keeps_push notes more x is in
    let grows = noted_more t notes more keeps in
    ⊎_elim
    (λ was. let c = checked note was in (
      c.0,
      c.1,
      c.2,
      EndsChain-grows t (noted t notes) (noted t more) grows (suc c.0) c.1
          note.block c.3,
    ))
    (λ here.
    let gave : noted t more (suc l) i x.block = subst (λ n. Contains more (record { number = n; block = x.block })) at.number
    (subst (λ xs. Contains xs x) (sym is) (Contains-push notes x)) in
    let chain = chain_here t (noted t more) (suc l) i d x.block (Names-grows t (noted t notes) (noted t more) grows (suc l) i d
    names) gave same in
    subst (λ n. (m : ℕ) × (j : ℕ) × IsNoteOf t m j n × EndsChain t (noted t more) (suc m) j n.block) here (l, i, at, chain))
    (Contains-push_cases notes x note (subst (λ xs. Contains xs note) is has))

-- the note of a place is of the block there
pub note_here : (t : Table) (notes : List Note) (c l i : ℕ) → AreChecked t notes → l < height t → i < row_len t (suc l) →
    IsNoteAt notes c (hash_place t l i)
    → IsNoteOf t l i (note_at notes c) × EndsChain t (noted t notes) (suc l) i (note_at notes c).block
note_here t notes c l i checked level index at =
    let note : Note = note_at notes c in
    let found = checked note (Contains-get_or notes c (record { number = 0; block = [] }) at.0) in
    let same : hash_place t found.0 found.1 ≡ hash_place t l i = sym found.2.number ∙ at.1 in
    let l_is : found.0 ≡ l = same_level t found.0 l found.1 i found.2.level level found.2.index index same in
    let i_is : found.1 ≡ i = same_index t found.0 l found.1 i l_is same in
    let P : ℕ → ℕ → Type 0 = λ m j. IsNoteOf t m j note × EndsChain t (noted t notes) (suc m) j note.block in
    subst (λ j. P l j) i_is (subst (λ m. P m found.1) l_is (found.2, found.3))

-- and names the digests of the blocks below it
pub note_names : (t : Table) (notes : List Note) (c l i : ℕ) → AreChecked t notes → suc l < height t →
    i / branching t < row_len t (suc (suc l)) → IsNoteAt notes c (hash_place t (suc l) (i / branching t))
    → Names t (noted t notes) (suc l) i (slot (hashing_of t) (note_at notes c).block (i % branching t))
note_names t notes c l i checked level index at =
    names_below t (noted t notes) (suc l) i (note_at notes c).block (note_here t notes c (suc l) (i / branching t) checked level index at).1

pub wrong_noted : {H : Type 0} (hash : store.Ghosts H) (t : Table) (mark : ℕ) (old new : H) (notes : List Note) (l i : ℕ)
    (d y : List ℕ) → IsOnlyRead hash old new
    → WereGiven hash mark old notes → Names t (noted t notes) (suc l) i d → Gave hash mark new (hash_place t l i) y →
    (hashing_of t).digest y ≢ d → WrongAt t (hash_given hash t mark new) (suc l) i
wrong_noted hash t mark old new notes l i d y read given names gave differs =
    wrong_here t (hash_given hash t mark new) (suc l) i d y
    (Names-grows t (noted t notes) (hash_given hash t mark new)
    (noted_given hash t mark new notes (given_later hash mark old new notes read given)) (suc l) i d names) gave differs

-- why a block wasn't read, when more was given since
pub explains_grows : (t : Table) (given more : Given) (P Q : Type 0) → Grows given more → (P → Q) → (why : ReadRefused) →
    ExplainsUnread t given P why → ExplainsUnread t more Q why
explains_grows t given more P Q grows f (refused.Mismatch level index) h =
    (h.0, h.1, WrongAt-grows t given more grows (suc level) index h.2)
explains_grows t given more P Q grows f refused.Store h = f h
explains_grows t given more P Q grows f refused.NoMemory h = h

pub err_weaker : {T E : Type 0} (r : Result T E) (P Q : E → Type 0) → ((e : E) → P e → Q e) → IfErr r P → IfErr r Q
err_weaker (Ok x) P Q f h = tt
err_weaker (Err e) P Q f h = f e h

pub ok_weaker : {T E : Type 0} (r : Result T E) (P Q : Type 0) → (P → Q) → OnOk r P → OnOk r Q
ok_weaker (Ok x) P Q f h = f h
ok_weaker (Err e) P Q f h = tt
