-- Chains of given blocks, step by step.
use Rattle.std.proofs.Common.{suc, zero, ℕ, ◌/◌, ◌%◌, ◌≤◌, ◌≡◌, ◌≢◌, List, [], ◌∷◌, ◌++◌, length, get_or, refl, sym, ap, ◌∙◌, subst}
use Rattle.std.proofs.Common.{Bool, true, false, IsTrue, ◌↔◌, Result, Ok, Err, OnOk}
use Rattle.std.specs.Result.{is_err}
use Rattle.std.proofs.lemmas.Bool.{false≢true}
use Rattle.verity_digest.specs.Tree.{slot}
use Rattle.verity_store.specs.Given.{GaveSince}
use Rattle.verity_store.proofs.GivenLemmas.{since_on, since_now}
use Rattle.verity_store.specs.Stores.{IsOnlyRead}
use Rattle.verity_store.specs.declared.store.BlockStore as store
use Rattle.verity_chain.specs.Table.{Table, hashing_of, branching, height, hash_place, path_index}
use Rattle.verity_chain.specs.Chain.{Given, Link, Above, Names, WrongAt, EndsChain}
use Rattle.verity_chain.specs.Stores.{Gave, hash_given}
use Rattle.verity_chain.proofs.TableLaws.{path_index-suc}

-- every block that was given stays given
abbrev pub Grows : Given → Given → Type 0
Grows given more = (r i : ℕ) (y : List ℕ) → given r i y → more r i y

pub Gave-grows : {S : Type 0} (facts : store.Ghosts S) (mark : ℕ) (old new : S) → IsOnlyRead facts old new → (n : ℕ) (y : List ℕ) →
    Gave facts mark old n y → Gave facts mark new n y
Gave-grows facts mark old new read n y gave = (
  since_on (facts.given old) (facts.given new) read.later.gave mark n y gave.0,
  gave.1 ∙ sym read.later.size,
  λ tells. ap (λ content. get_or content n []) read.content ∙ gave.2 (sym read.later.tells ∙ tells),
)

pub hash_given-grows : {H : Type 0} (hash : store.Ghosts H) (t : Table) (mark : ℕ) (old new : H) → IsOnlyRead hash old new →
    Grows (hash_given hash t mark old) (hash_given hash t mark new)
hash_given-grows hash t mark old new read zero i y gave = absurd gave
hash_given-grows hash t mark old new read (suc l) i y gave = Gave-grows hash mark old new read (hash_place t l i) y gave

module _ (t : Table) (given more : Given) (grows : Grows given more) where
  pub Link-grows : (r i : ℕ) (above : List (List ℕ)) (x : List ℕ) → Link t given r i above x → Link t more r i above x
  Link-grows r i above x l = record { gave = grows r i x l.gave; digest = l.digest }

  pub Above-grows : (r i : ℕ) (above : List (List ℕ)) → Above t given r i above → Above t more r i above
  Above-grows r i [] a = a
  Above-grows r i (p ∷ above) a = (Link-grows (suc r) (i / branching t) above p a.0, Above-grows (suc r) (i / branching t) above a.1)

  pub Names-grows : (r i : ℕ) (d : List ℕ) → Names t given r i d → Names t more r i d
  Names-grows r i d n = record { above = n.above; above_it = Above-grows r i n.above n.above_it; is = n.is }

  pub EndsChain-grows : (r i : ℕ) (x : List ℕ) → EndsChain t given r i x → EndsChain t more r i x
  EndsChain-grows r i x c = (c.0, record { above_it = Above-grows r i c.0 c.1.above_it; link = Link-grows r i c.0 x c.1.link })

  pub WrongAt-grows : (r i : ℕ) → WrongAt t given r i → WrongAt t more r i
  WrongAt-grows r i w = record {
    above = w.above;
    above_it = Above-grows r i w.above w.above_it;
    y = w.y;
    gave = grows r i w.y w.gave;
    digest = w.digest;
  }

module _ (t : Table) (given : Given) where
  -- the table names the digest at the top
  pub names_top : (i : ℕ) → Names t given (height t) i t.root
  names_top i = record { above = []; above_it = refl; is = refl }

  -- a given block with the digest that is named ends a chain, and names the digests in its slots
  pub chain_here : (r i : ℕ) (d x : List ℕ) → Names t given r i d → given r i x → (hashing_of t).digest x ≡ d → EndsChain t given r i x
  chain_here r i d x n gave e = (n.above, record { above_it = n.above_it; link = record { gave = gave; digest = e ∙ n.is } })

  pub names_below : (r i : ℕ) (x : List ℕ) → EndsChain t given (suc r) (i / branching t) x →
      Names t given r i (slot (hashing_of t) x (i % branching t))
  names_below r i x c = record { above = x ∷ c.0; above_it = (c.1.link, c.1.above_it); is = refl }

  pub wrong_here : (r i : ℕ) (d y : List ℕ) → Names t given r i d → given r i y → (hashing_of t).digest y ≢ d → WrongAt t given r i
  wrong_here r i d y n gave ne = record { above = n.above; above_it = n.above_it; y = y; gave = gave; digest = λ e. ne (e ∙ sym n.is) }

  -- the block above a path's place names the digest there
  pub names_on_path : (n r : ℕ) (x : List ℕ) → EndsChain t given (suc r) (path_index t n (suc r)) x →
      Names t given r (path_index t n r) (slot (hashing_of t) x (path_index t n r % branching t))
  names_on_path n r x c = names_below r (path_index t n r) x (subst (λ i. EndsChain t given (suc r) i x) (path_index-suc t n r) c)

-- what a read gave
pub ok_here : {T E : Type 0} (r : Result T E) (P : Type 0) → OnOk r P → false ≡ is_err r → P
ok_here (Ok x) P p e = p
ok_here (Err x) P p e = absurd (false≢true e)

-- what a test of a digest says
pub same_here : (r : Bool) (P : Type 0) → (IsTrue r ↔ P) → r ≡ true → P
same_here r P h e = h.0 e

pub differs_here : (r : Bool) (P : Type 0) → (IsTrue r ↔ P) → r ≡ false → P → ⊥
differs_here r P h e p = false≢true (sym e ∙ h.1 p)

-- a block that was read from a store
pub gave_here : {S : Type 0} (facts : store.Ghosts S) (mark : ℕ) (old new : S) (n : ℕ) (block : List ℕ) →
    facts.given new ≡ facts.given old ++ (n, block) ∷ []
    → mark ≤ length (facts.given old) → length block ≡ facts.size new → facts.content new ≡ facts.content old →
    facts.tells new ≡ facts.tells old
    → (facts.tells old ≡ true → get_or (facts.content old) n [] ≡ block) → Gave facts mark new n block
gave_here facts mark old new n block is marked sized content tells right = (
  subst (λ rows. GaveSince rows mark n block) (sym is) (since_now (facts.given old) mark n block marked),
  sized,
  λ told. ap (λ blocks. get_or blocks n []) content ∙ right (sym tells ∙ told),
)
