-- A plan that was made of checked blocks is that of the image of the table line, or there is a clash.
use Rattle.std.proofs.Common.{◌≡◌, ◌≢◌, ℕ, suc, ◌+◌, ◌-◌, ◌<◌, ◌≤◌, ◌++◌, List, [], length, take, drop, replicate, get_or}
use Rattle.std.proofs.Common.{Contains, Option, None, Some, true, inl, inr, ⊎_elim, refl, sym, ap, ◌∙◌, subst, arith}
use Rattle.std.specs.Prelude.{IfSome, Result, Ok, Err, IfOk}
use Rattle.std.proofs.Math.Seq.{drop-append_seam}
use Rattle.std.proofs.lemmas.List.{take_all, length-replicate, get_or-replicate, get_or-drop}
use Rattle.std.proofs.Math.ListN.{get_or-append}
use Rattle.verity_profile.specs.Profile.{zero_block}
use Rattle.verity_digest.specs.Tree.{Hashing, root, tree}
use Rattle.verity_digest.specs.Hash.{hashing}
use Rattle.verity_digest.specs.Shape.{level_count, level_len, place}
use Rattle.std.proofs.Common.{zero}
use Rattle.verity_store.specs.Given.{GoesOn}
use Rattle.verity_store.proofs.GivenLemmas.{since_on}
use Rattle.verity_store.specs.Stores.{IsOnlyRead}
use Rattle.verity_store.specs.declared.store.BlockStore as store
use Rattle.verity_superblock.specs.Superblock.{Volume}
use Rattle.verity_chain.specs.Table.{Table, IsTable, hashing_of, branching, height, row_len, hash_place}
use Rattle.verity_chain.specs.Chain.{WrongAt}
use Rattle.verity_chain.specs.Right.{Fits, Clash, OtherAt, GaveOther}
use Rattle.verity_chain.specs.Stores.{hash_given}
use Rattle.verity_chain.specs.Origin.{facts_of, rows_of}
use Rattle.verity_chain.specs.Notes.{Note, noted, AreChecked, AreOwn, ExplainsUnread}
use Rattle.verity_chain.specs.Checked.{IsAnswer, Checking, IsChecking, bound_to}
use Rattle.verity_chain.specs.declared.notes.ReadRefused.{ReadRefused}
use Rattle.verity_chain.specs.declared.notes.ReadRefused.TheVariants as refused
use Rattle.verity_chain.proofs.ChainLemmas.{Grows, WrongAt-grows}
use Rattle.verity_chain.proofs.ChainLaw.{other_given}
use Rattle.verity_chain.proofs.NoteLemmas.{noted_given}
use Rattle.verity_chain.proofs.NoteLaws.{own_or_clashes}
use Rattle.verity_chain.proofs.OriginLaws.{rows_same, bound_same}
use Rattle.verity_chain.proofs.TableLaws.{two_branches}
use Rattle.verity_pending.specs.declared.fault.EditFault.{EditFault}
use Rattle.verity_pending.specs.declared.fault.EditFault.TheVariants as fault
use Rattle.verity_plan.specs.declared.planning.CommitPlan.{CommitPlan}
use Rattle.verity_trusted.specs.declared.under.PlanRefused.TheVariants.{Fault}
use Rattle.verity_store.specs.declared.fault.Which.TheVariants as which
use Rattle.verity_pending.specs.Draft.{Draft}
use Rattle.verity_plan.specs.Faults.{PlansOrFails}
use Rattle.verity_plan.specs.Planning.{volume_hashing, IsRight}
use Rattle.verity_plan.specs.Standing.{BeginsWith}
use Rattle.verity_trusted.specs.Under.{IsLineFor, IsRightUnder, IsWrongBlock, ExplainsUnplanned, refusal_of, line_given}
use Rattle.verity_plan.proofs.Trees.{stands_at}

-- blocks behind so many zero blocks
abbrev behind : (size first : ℕ) → List (List ℕ) → List (List ℕ)
behind size first blocks = replicate first (zero_block size) ++ blocks

drop-behind : (size first : ℕ) (blocks : List (List ℕ)) → drop first (behind size first blocks) ≡ blocks
drop-behind size first blocks =
    let front : List (List ℕ) = replicate first (zero_block size) in
    let long : length front ≡ first = length-replicate first (zero_block size) in
    ap (λ n. drop n (front ++ blocks)) (sym long) ∙ drop-append_seam front blocks

get_or-front : (size first n : ℕ) (blocks : List (List ℕ)) → n < first → get_or (behind size first blocks) n [] ≡ zero_block size
get_or-front size first n blocks low =
    let front : List (List ℕ) = replicate first (zero_block size) in
    let long : length front ≡ first = length-replicate first (zero_block size) in
    get_or-append front blocks [] n (omega arith) ∙ get_or-replicate first n (zero_block size) [] low

get_or-behind : (size first n : ℕ) (blocks : List (List ℕ)) → get_or (behind size first blocks) (first + n) [] ≡ get_or blocks n []
get_or-behind size first n blocks =
    sym (get_or-drop first (behind size first blocks) n []) ∙ ap (λ bs. get_or bs n []) (drop-behind size first blocks)

-- the image's own blocks are those of its tree behind the blocks in front
own_shown : (t : Table) (image : List (List ℕ)) (notes : List Note) → IsTable t → Fits t image → AreOwn t image notes → (n : ℕ)
    (b : List ℕ) → Contains notes (record { number = n; block = b })
    → get_or (behind t.hash_block_size t.hash_start_block (tree (hashing_of t) image)) n [] ≡ b
own_shown t image notes ok fits own n b has =
    let h = hashing_of t in
    let k : ℕ = branching t in
    let found = own (record { number = n; block = b }) has in
    let l : ℕ = found.0 in
    let i : ℕ = found.1 in
    let content : List (List ℕ) = behind t.hash_block_size t.hash_start_block (tree h image) in
    let stands : BeginsWith (drop t.hash_start_block content) (tree h image) =
    subst (λ xs. BeginsWith xs (tree h image)) (sym (drop-behind t.hash_block_size t.hash_start_block (tree h image)))
    (take_all (length (tree h image)) (tree h image) (omega arith)) in
    let there : l < level_count k (length image) = subst (λ m. l < level_count k m) (sym fits.blocks) found.2.level in
    let inside : i < level_len k (length image) l = subst (λ m. i < level_len k m l) (sym fits.blocks) found.2.index in
    let at : n ≡ t.hash_start_block + place k (length image) l i =
    found.2.number ∙ ap (λ m. t.hash_start_block + place k m l i) (sym fits.blocks) in
    ap (λ q. get_or content q []) at
    ∙ stands_at h image content t.hash_start_block l i (two_branches t ok) stands there inside
    ∙ sym found.3

-- a clash among more blocks
clash_grows : (t : Table) (image : List (List ℕ)) (given more : ℕ → ℕ → List ℕ → Type 0) → Grows given more → Clash t given image →
    Clash t more image
clash_grows t image given more grows clash =
    let c = clash.2 in (
      clash.0,
      clash.1,
      record {
        row = c.row;
        index = c.index;
        y = c.y;
        gave = grows clash.0 clash.1 c.y c.gave;
        differs = c.differs;
        same_length = c.same_length;
        same_digest = c.same_digest;
      },
    )

-- what a store of checked blocks gave is what was noted, or zeros in front of the tree
answers_shown : (t : Table) (notes : List Note) (blocks : List (List ℕ)) (n : ℕ) (b : List ℕ)
    → (Contains notes (record { number = n; block = b }) → get_or (behind t.hash_block_size t.hash_start_block blocks) n [] ≡ b)
    → IsAnswer t notes n b → get_or (behind t.hash_block_size t.hash_start_block blocks) n [] ≡ b
answers_shown t notes blocks n b shown =
    ⊎_elim (λ front. get_or-front t.hash_block_size t.hash_start_block n blocks front.0 ∙ sym front.1) shown

-- what is true of an answer
pub from_ok : {X E : Type 0} (r : Result X E) (x : X) (P : X → Type 0) → r ≡ Ok x → IfOk r P → P x
from_ok r x P is h = subst (λ s. IfOk s P) is h

-- a block that isn't the image's own among more blocks
other_grows : (t : Table) (image : List (List ℕ)) (given more : ℕ → ℕ → List ℕ → Type 0) → Grows given more → GaveOther t given image
    → GaveOther t more image
other_grows t image given more grows found =
    let o = found.2 in (
      found.0,
      found.1,
      record { row = o.row; index = o.index; y = o.y; gave = grows found.0 found.1 o.y o.gave; differs = o.differs },
    )

-- a store that tells and holds the image's tree gives no such block
not_own : {H : Type 0} (t : Table) (image : List (List ℕ)) → IsTable t → Fits t image → (hash : store.Ghosts H) (mark : ℕ) (h : H)
    → hash.tells h ≡ true → BeginsWith (drop t.hash_start_block (hash.content h)) (tree (hashing_of t) image) → (r i : ℕ)
    → OtherAt t (hash_given hash t mark h) image r i → ⊥
not_own t image ok fits hash mark h told stands zero i other = absurd other.gave
not_own t image ok fits hash mark h told stands (suc l) i other =
    let k : ℕ = branching t in
    let first : ℕ = t.hash_start_block in
    let row = other.row in
    let there : l < level_count k (length image) = subst (λ m. l < level_count k m) (sym fits.blocks) (omega arith) in
    let inside : i < level_len k (length image) l = subst (λ m. i < level_len k m l) (sym fits.blocks) other.index in
    let at : hash_place t l i ≡ first + place k (length image) l i = ap (λ m. first + place k m l i) (sym fits.blocks) in
    other.differs (sym (other.gave.2 told) ∙ ap (λ q. get_or (hash.content h) q []) at
    ∙ stands_at (hashing_of t) image (hash.content h) first l i (two_branches t ok) stands there inside)

-- what was given is in the log
was_given : {H : Type 0} (hash : store.Ghosts H) (t : Table) (mark : ℕ) (h : H)
    → Grows (hash_given hash t mark h) (line_given hash t mark h)
was_given hash t mark h zero i y gave = absurd gave
was_given hash t mark h (suc l) i y gave = gave.0

-- and stays there
pub given_on : {H : Type 0} (hash : store.Ghosts H) (t : Table) (mark : ℕ) (old new : H) → GoesOn (hash.given old) (hash.given new)
    → Grows (line_given hash t mark old) (line_given hash t mark new)
given_on hash t mark old new on zero i y gave = absurd gave
given_on hash t mark old new on (suc l) i y gave = since_on (hash.given old) (hash.given new) on mark (hash_place t l i) y gave

-- what a plan is under a line it stays
pub right_later : {H A : Type 0} (hash : store.Ghosts H) (t : Table) (mark : ℕ) (old new : H) (v : Volume) (d : Draft) (first : ℕ)
    (plan : CommitPlan A) → GoesOn (hash.given old) (hash.given new) → IsRightUnder hash t mark old v d first plan
    → IsRightUnder hash t mark new v d first plan
right_later hash t mark old new v d first plan on right image fits =
    ⊎_elim inl (λ clash. inr (clash_grows t image (line_given hash t mark old) (line_given hash t mark new)
    (given_on hash t mark old new on) clash)) (right image fits)

-- which of these an answer is
abbrev kind : Option ReadRefused → ℕ
kind None = 0
kind (Some refused.Store) = 1
kind (Some refused.NoMemory) = 2
kind (Some (refused.Mismatch level index)) = 3

-- a plan that no read was refused for is refused for want of memory alone
refused_by : {H : Type 0} (T : Type 0) (hash : store.Ghosts H) (t : Table) (mark : ℕ) (old new : H) (f : EditFault) (asked : ℕ)
    → PlansOrFails {T = T} (Err f) 0 asked → asked ≡ 0 → hash.failures new ≡ hash.failures old
    → ExplainsUnplanned hash t mark old new (Fault f)
refused_by T hash t mark old new fault.OutOfRange asked fails none same = absurd fails
refused_by T hash t mark old new fault.WrongLength asked fails none same = absurd fails
refused_by T hash t mark old new fault.TooSmall asked fails none same = absurd fails
refused_by T hash t mark old new fault.TooLarge asked fails none same = absurd fails
refused_by T hash t mark old new fault.NoMemory asked fails none same = same
refused_by T hash t mark old new (fault.Store which.Data) asked fails none same = absurd fails
refused_by T hash t mark old new (fault.Store which.Hash) asked fails none same = absurd (omega (arith, fails, none))
refused_by T hash t mark old new fault.Broken asked fails none same = absurd fails
refused_by T hash t mark old new (fault.Mismatch level index) asked fails none same = absurd fails
refused_by T hash t mark old new (fault.Superblock f) asked fails none same = absurd fails
refused_by T hash t mark old new fault.DataLength asked fails none same = absurd fails
refused_by T hash t mark old new (fault.StoreSize store) asked fails none same = absurd fails
refused_by T hash t mark old new fault.Offset asked fails none same = absurd fails
refused_by T hash t mark old new fault.Line asked fails none same = absurd fails
refused_by T hash t mark old new (fault.Untrusted level index) asked fails none same = absurd fails

module _ {H : Type 0} (hash : store.Ghosts H) (t : Table) (h : H) (new : Checking H) (is : IsChecking hash new)
    (bound : bound_to new.table new.origin ≡ bound_to t (rows_of (facts_of hash h))) where
  -- it is under the same line still
  pub same_table : new.table ≡ t
  same_table = (bound_same new.table t new.origin (rows_of (facts_of hash h)) bound).0

  pub was_then : is.was ≡ facts_of hash h
  was_then = rows_same is.was (facts_of hash h) (sym is.origin ∙ (bound_same new.table t new.origin (rows_of (facts_of hash h)) bound).1)

  since_then : new.since ≡ length (hash.given h)
  since_then = is.since ∙ ap (λ w. length w.given) was_then

  -- and the store below was only read
  pub read_then : IsOnlyRead hash h new.hash_store
  read_then = record {
    content = is.read.content ∙ ap (λ w. w.content) was_then;
    changes = is.read.changes ∙ ap (λ w. w.changes) was_then;
    room = is.read.room ∙ ap (λ w. w.room) was_then;
    later = record {
      tells = is.read.tells ∙ ap (λ w. w.tells) was_then;
      size = is.read.size ∙ ap (λ w. w.size) was_then;
      fixed = is.read.fixed ∙ ap (λ w. w.fixed) was_then;
      gave = subst (λ w. take (length w.given) (hash.given new.hash_store) ≡ w.given) was_then is.read.gave;
      failures = subst (λ w. w.failures ≤ hash.failures new.hash_store) was_then is.read.failures;
      reads = subst (λ w. w.reads ≤ hash.reads new.hash_store) was_then is.read.reads;
      changes = let same = is.read.changes ∙ ap (λ w. w.changes) was_then in omega arith;
      room = let same = is.read.room ∙ ap (λ w. w.room) was_then in omega arith;
    };
  }

  -- each block that was read of it was hashed at most once
  pub checks_then : new.hashed + hash.reads h ≤ hash.reads new.hash_store
  checks_then = let most = is.hashed in let was = ap (λ w. w.reads) was_then in omega arith

  pub checks_each_then : new.refusal ≡ None → new.hashed + hash.reads h ≡ hash.reads new.hash_store
  checks_each_then none = let same = is.hashed_each none in let was = ap (λ w. w.reads) was_then in omega arith

  same_failures : new.refusal ≢ Some refused.Store → hash.failures new.hash_store ≡ hash.failures h
  same_failures other = is.unfailed other ∙ ap (λ w. w.failures) was_then

  -- where no read was refused, no failure was passed over
  pub unfailed_then : new.refused ≡ 0 → hash.failures new.hash_store ≡ hash.failures h
  unfailed_then none = same_failures (λ same. absurd (omega (arith, ap kind (sym same ∙ is.counted none))))

  -- a block that hasn't the digest that is named for it
  wrong_then : (level index : ℕ) → IsTable t → level < height t → index < row_len t (suc level)
      → WrongAt t (hash_given hash t (length (hash.given h)) new.hash_store) (suc level) index
      → hash.failures new.hash_store ≡ hash.failures h
      → IsWrongBlock hash t (length (hash.given h)) h new.hash_store level index
  wrong_then level index ok there inside wrong unfailed =
      let mark : ℕ = length (hash.given h) in
      let given = hash_given hash t mark new.hash_store in
      let grows = was_given hash t mark new.hash_store in
      record {
        is_level = there;
        is_index = inside;
        wrong = WrongAt-grows t given (line_given hash t mark new.hash_store) grows (suc level) index wrong;
        other = λ image fits. other_grows t image given (line_given hash t mark new.hash_store) grows
            (other_given t image ok fits given (suc level) index inside wrong);
        not_held = λ told image fits stands.
            let found = other_given t image ok fits given (suc level) index inside wrong in
            not_own t image ok fits hash mark new.hash_store (read_then.later.tells ∙ told)
            (subst (λ blocks. BeginsWith (drop t.hash_start_block blocks) (tree (hashing_of t) image)) (sym read_then.content) stands)
            found.0 found.1 found.2;
        unfailed = unfailed;
      }

  explains_by : (T : Type 0) (o : Option ReadRefused) (f : EditFault) → IsTable t
      → IfSome o (ExplainsUnread new.table (hash_given hash new.table new.since new.hash_store)
      (is.was.failures < hash.failures new.hash_store))
      → (o ≡ None → new.refused ≡ 0) → (o ≢ Some refused.Store → hash.failures new.hash_store ≡ hash.failures h)
      → PlansOrFails {T = T} (Err f) 0 new.refused
      → ExplainsUnplanned hash t (length (hash.given h)) h new.hash_store (refusal_of o f)
  explains_by T (Some (refused.Mismatch level index)) f ok why none same fails =
      let P : Table → ℕ → Type 0 = λ u m. (level < height u) × (index < row_len u (suc level))
      × WrongAt u (hash_given hash u m new.hash_store) (suc level) index in
      let mark : ℕ = length (hash.given h) in
      let there : P t mark = subst (λ m. P t m) since_then (subst (λ u. P u new.since) same_table why) in
      wrong_then level index ok there.0 there.1 there.2 (same (λ e. absurd (omega (arith, ap kind e))))
  explains_by T (Some refused.Store) f ok why none same fails = subst (λ w. w.failures < hash.failures new.hash_store) was_then why
  explains_by T (Some refused.NoMemory) f ok why none same fails = same (λ e. absurd (omega (arith, ap kind e)))
  explains_by T None f ok why none same fails =
      refused_by T hash t (length (hash.given h)) h new.hash_store f new.refused fails (none refl)
      (same (λ e. absurd (omega (arith, ap kind e))))

  -- why there is no plan
  pub explains_then : (T : Type 0) (f : EditFault) → IsTable t → PlansOrFails {T = T} (Err f) 0 new.refused
      → ExplainsUnplanned hash t (length (hash.given h)) h new.hash_store (refusal_of new.refusal f)
  explains_then T f ok fails = explains_by T new.refusal f ok is.refusal is.unrefused same_failures fails

  module _ {A : Type 0} (v : Volume) (d : Draft) (first : ℕ) (old_root : List ℕ) (plan : CommitPlan A) (ok : IsTable t)
      (line : IsLineFor t v first old_root) (count : v.data_blocks ≡ d.committed)
      (right : (blocks : List (List ℕ)) → ((n : ℕ) (b : List ℕ) → Contains new.given (n, b) → get_or blocks n [] ≡ b)
      → IsRight v d first old_root blocks plan) where
    abbrev size : ℕ
    size = t.hash_block_size

    abbrev start : ℕ
    start = t.hash_start_block

    answered : (n : ℕ) (b : List ℕ) → Contains new.given (n, b) → IsAnswer t new.notes n b
    answered n b has = subst (λ u. IsAnswer u new.notes n b) same_table (is.answers n b has)

    pub right_under : IsRightUnder hash t (length (hash.given h)) new.hash_store v d first plan
    right_under image fits =
        ⊎_elim
        (λ own.
        let k : Hashing = hashing_of t in
        let same : k ≡ volume_hashing v.params =
        (λ i. hashing (record { algorithm = line.algorithm i; salt = line.salt i }) (line.hash_block_size i)) in
        let blocks : List (List ℕ) = behind size start (tree k image) in
        let whole : BeginsWith (drop start blocks) (tree k image) =
        subst (λ xs. BeginsWith xs (tree k image)) (sym (drop-behind size start (tree k image)))
        (take_all (length (tree k image)) (tree k image) (omega arith)) in
        let stands : BeginsWith (drop first blocks) (tree (volume_hashing v.params) image) =
        subst (λ f. BeginsWith (drop f blocks) (tree (volume_hashing v.params) image)) line.start
        (subst (λ x. BeginsWith (drop start blocks) (tree x image)) same whole) in
        let is_root : old_root ≡ root (volume_hashing v.params) image = sym line.root ∙ sym fits.root ∙ ap (λ x. root x image) same in
        inl (right blocks (λ n b has. answers_shown t new.notes (tree k image) n b
        (own_shown t image new.notes ok fits own n b) (answered n b has))
        image (fits.blocks ∙ line.data_blocks ∙ count) stands is_root))
        (λ clash. let mark : ℕ = length (hash.given h) in
        inr (clash_grows t image (hash_given hash t mark new.hash_store) (line_given hash t mark new.hash_store)
        (was_given hash t mark new.hash_store) (clash_grows t image (noted t new.notes) (hash_given hash t mark new.hash_store)
        (subst (λ m. Grows (noted t new.notes) (hash_given hash t m new.hash_store)) since_then
        (noted_given hash t new.since new.hash_store new.notes is.noted)) clash)))
        (own_or_clashes t image ok fits new.notes (subst (λ u. AreChecked u new.notes) same_table is.checked))

    -- a noted block is the one that the store holds, if it tells
    held_shown : hash.tells h ≡ true → (n : ℕ) (b : List ℕ) → Contains new.notes (record { number = n; block = b })
        → get_or (behind size start (drop start (hash.content h))) n [] ≡ b
    held_shown told n b has =
        let found = subst (λ u. AreChecked u new.notes) same_table is.checked (record { number = n; block = b }) has in
        let p : ℕ = n - start in
        let at : n ≡ start + p = (let number : n ≡ t.hash_start_block + place (branching t) t.data_blocks found.0 found.1 =
        found.2.number in omega arith) in
        let gave = is.noted (record { number = n; block = b }) has in
        let tells : hash.tells new.hash_store ≡ true = read_then.later.tells ∙ told in
        ap (λ q. get_or (behind size start (drop start (hash.content h))) q []) at
        ∙ get_or-behind size start p (drop start (hash.content h))
        ∙ get_or-drop start (hash.content h) p []
        ∙ ap (λ q. get_or (hash.content h) q []) (sym at)
        ∙ ap (λ c. get_or c n []) (sym read_then.content)
        ∙ gave.2 tells

    pub told_under : hash.tells h ≡ true → IsRight v d first old_root (hash.content h) plan
    told_under told image len stands is_root =
        let blocks : List (List ℕ) = behind size start (drop start (hash.content h)) in
        let same : drop first blocks ≡ drop first (hash.content h) =
        ap (λ f. drop f blocks) (sym line.start) ∙ drop-behind size start (drop start (hash.content h))
        ∙ ap (λ f. drop f (hash.content h)) line.start in
        right blocks (λ n b has. answers_shown t new.notes (drop start (hash.content h)) n b (held_shown told n b) (answered n b has))
        image len (subst (λ xs. BeginsWith xs (tree (volume_hashing v.params) image)) (sym same) stands) is_root
