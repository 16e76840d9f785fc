-- Blocks of NEW, one after the other.
use Rattle.std.proofs.Common.{Bool, false, ℕ, ◌+◌, ◌<◌, ◌≤◌, ◌≡◌, ◌⊎◌, ◌++◌, List, [], ◌∷◌, length, map, get_or, set}
use Rattle.std.proofs.Common.{refl, sym, ap, ◌∙◌, subst, inl, inr, ⊎_elim, arith}
use Rattle.std.proofs.lemmas.Bool.{cases_eq, cases_lt}
use Rattle.std.proofs.lemmas.List.{length-set, get_or-set_other, get_or-set_same, ext_get_or, get_or_append_left, get_or_push}
use Rattle.std.proofs.lemmas.List.{length-append, length-map, get_or-map}
use Rattle.verity_digest.specs.Tree.{Hashing}
use Rattle.verity_store.specs.Stores.{IsOnlyRead}
use Rattle.verity_store.proofs.GivenLemmas.{goes_on_then}
use Rattle.verity_store.specs.declared.store.BlockStore as store
use Rattle.verity_chain.specs.Table.{Table, IsTable, hashing_of, tree_len}
use Rattle.verity_chain.specs.Chain.{Given, Names}
use Rattle.verity_chain.specs.Right.{Fits, Clash}
use Rattle.verity_chain.specs.Stores.{Gave, hash_given, IsHashStoreOf}
use Rattle.verity_chain.specs.Notes.{Note, noted, AreChecked, WereGiven}
use Rattle.verity_chain.proofs.ChainLemmas.{Grows, Gave-grows}
use Rattle.verity_chain.proofs.NoteLaws.{noted_sized}
use Rattle.verity_chain.proofs.NoteLemmas.{noted_given}
use Rattle.verity_chain.proofs.TableLaws.{row_len-first}
use Rattle.verity_update.specs.Update.{IsUpdateOf, GaveAll, Updates}
use Rattle.verity_update.specs.Walk.{Keeps, IsTaken, NamesOther, Spares, Takes, IsTakenTo, TakesTo}
use Rattle.verity_update.proofs.NameLemmas.{names_own}

-- a clash among more blocks
pub clash_grows : (t : Table) (image : List (List ℕ)) (given more : Given) → Grows given more → Clash t given image → Clash t more image
clash_grows t image given more grows clash =
    let c = clash.2 in (
      clash.0,
      clash.1,
      record {
        row = c.row;
        index = c.index;
        y = c.y;
        gave = grows clash.0 clash.1 c.y c.gave;
        differs = c.differs;
        same_length = c.same_length;
        same_digest = c.same_digest;
      },
    )

-- a block that has the digest that is named needn't be written
pub taken_same : {H : Type 0} (hash : store.Ghosts H) (t : Table) (mark : ℕ) (h : H) (notes : List Note) (image old : List (List ℕ))
    (n : ℕ) (x : List ℕ) → IsTable t → Fits t image → AreChecked t notes → WereGiven hash mark h notes → n < t.data_blocks
    → Names t (noted t notes) 0 n ((hashing_of t).digest x) → get_or old n [] ≡ get_or image n []
    → IsTaken (hashing_of t) n x old old ⊎ Clash t (hash_given hash t mark h) image
taken_same hash t mark h notes image old n x ok fits checked given below names own =
    ⊎_elim
    (λ is. inl (record {
      count = refl;
      here = ap (hashing_of t).digest own ∙ sym is;
      others = λ i ne. refl;
    }))
    (λ clash. inr (clash_grows t image (noted t notes) (hash_given hash t mark h) (noted_given hash t mark h notes given) clash))
    (names_own t image ok fits (noted t notes) (noted_sized t notes (λ note has. (checked note has).2.sized)) 0 n
    ((hashing_of t).digest x) (omega (arith, row_len-first t)) names)

-- a block of which another digest is named isn't the image's own
pub spared_other : {H : Type 0} (hash : store.Ghosts H) (t : Table) (mark : ℕ) (h : H) (notes : List Note) (n : ℕ) (x : List ℕ)
    (old new : ℕ → Bool) → IsTable t → AreChecked t notes → WereGiven hash mark h notes
    → (n < t.data_blocks → NamesOther t (noted t notes) n ((hashing_of t).digest x)) → Spares t (hash_given hash t mark h) n x old new
spared_other hash t mark h notes n x old new ok checked given others image fits =
    ⊎_elim
    (λ below.
    let o = others below in
    ⊎_elim
    (λ is. inl (λ low same. absurd (o.other (is ∙ same))))
    (λ clash. inr (clash_grows t image (noted t notes) (hash_given hash t mark h) (noted_given hash t mark h notes given) clash))
    (names_own t image ok fits (noted t notes) (noted_sized t notes (λ note has. (checked note has).2.sized)) 0 n
    o.named (omega (arith, row_len-first t, below)) o.names))
    (λ behind. inl (λ low same. absurd (omega (arith, low, behind))))
    (cases_lt n t.data_blocks)

-- and a block that is written has its own
pub taken_written : (h : Hashing) (old new : List (List ℕ)) (n : ℕ) (x : List ℕ) → n < length old → new ≡ set old n x
    → IsTaken h n x old new
taken_written h old new n x within is = subst (λ blocks. IsTaken h n x old blocks) (sym is) (record {
  count = length-set old n x;
  here = ap h.digest (get_or-set_same old n x [] within);
  others = λ i ne. get_or-set_other old n i x [] ne;
})

-- one block more
taken_next : (h : Hashing) (seen old mid new : List (List ℕ)) (n : ℕ) (x : List ℕ) → length seen ≡ n → IsTakenTo h seen old mid
    → IsTaken h n x mid new → IsTakenTo h (seen ++ x ∷ []) old new
taken_next h seen old mid new n x len before here =
    let long : length (seen ++ x ∷ []) ≡ n + 1 = length-append seen (x ∷ []) ∙ ap (λ m. m + 1) len in
    record {
      count = here.count ∙ before.count;
      here = λ i below. ⊎_elim
          (λ is. subst (λ j. h.digest (get_or new j []) ≡ h.digest (get_or (seen ++ x ∷ []) j [])) (sym is)
          (here.here ∙ ap h.digest (sym (get_or_push seen x [] n len))))
          (λ ne. let low : i < length seen = omega arith in
          ap h.digest (here.others i ne) ∙ before.here i low
          ∙ ap h.digest (sym (get_or_append_left seen (x ∷ []) [] i low)))
          (cases_eq i n);
      others = λ i high. here.others i (λ e. absurd (omega arith)) ∙ before.others i (omega arith);
    }

gave_next : {N : Type 0} (news : store.Ghosts N) (mark : ℕ) (s' s'' : N) (seen : List (List ℕ)) (n : ℕ) (x : List ℕ) → length seen ≡ n
    → IsOnlyRead news s' s'' → GaveAll news mark s' seen → Gave news mark s'' n x → GaveAll news mark s'' (seen ++ x ∷ [])
gave_next news mark s' s'' seen n x len read before here i below =
    let long : length (seen ++ x ∷ []) ≡ n + 1 = length-append seen (x ∷ []) ∙ ap (λ m. m + 1) len in
    ⊎_elim
    (λ is. subst (λ j. Gave news mark s'' j (get_or (seen ++ x ∷ []) j [])) (sym is)
    (subst (Gave news mark s'' n) (sym (get_or_push seen x [] n len)) here))
    (λ ne. let low : i < length seen = omega arith in
    subst (Gave news mark s'' i) (sym (get_or_append_left seen (x ∷ []) [] i low)) (Gave-grows news mark s' s'' read i (get_or seen i [])
    (before i low)))
    (cases_eq i n)

pub takes_none : {N : Type 0} (news : store.Ghosts N) (t : Table) (given : Given) (s : N) (old : List (List ℕ) → List (List ℕ))
    (changed : ℕ → Bool) → TakesTo news t given s s 0 old old changed changed
takes_none news t given s old changed = record {
  seen = [];
  all = refl;
  gave = λ i below. absurd (omega arith);
  taken = λ image fits. inl (record { count = refl; here = λ i below. absurd (omega arith); others = λ i high. refl });
  spared = λ image fits. inl (λ i below low same. refl);
  rest = λ i high. refl;
}

pub takes_next : {N : Type 0} (news : store.Ghosts N) (t : Table) (given more : Given) (s s' s'' : N) (n count : ℕ) (x : List ℕ)
    (old mid new : List (List ℕ) → List (List ℕ)) (old_changed mid_changed new_changed : ℕ → Bool) → Grows given more
    → IsOnlyRead news s' s'' → Gave news (length (news.given s)) s'' n x
    → Keeps t old → ((image : List (List ℕ)) → length (old image) ≡ count) → n < count → Takes t more n x mid new
    → Spares t more n x mid_changed new_changed → ((i : ℕ) → (i ≡ n → ⊥) → new_changed i ≡ mid_changed i)
    → TakesTo news t given s s' n old mid old_changed mid_changed → TakesTo news t more s s'' (n + 1) old new old_changed new_changed
takes_next news t given more s s' s'' n count x old mid new old_changed mid_changed new_changed grows read here keeps wide below takes
    spares others p = record {
      seen = p.seen ++ x ∷ [];
      all = length-append p.seen (x ∷ []) ∙ ap (λ m. m + 1) p.all;
      gave = gave_next news (length (news.given s)) s' s'' p.seen n x p.all read p.gave here;
      taken = λ image fits. ⊎_elim
          (λ before. ⊎_elim
          (λ one. inl (taken_next (hashing_of t) p.seen (old image) (mid image) (new image) n x p.all before one))
          inr
          (takes image fits (omega (arith, before.count, wide image))
          (λ low. before.others n (omega (arith, p.all)) ∙ keeps image fits n low (omega (arith, wide image)))))
          (λ clash. inr (clash_grows t image given more grows clash))
          (p.taken image fits);
      spared = λ image fits. ⊎_elim
          (λ before. ⊎_elim
          (λ one. inl (λ i low inside same. ⊎_elim
          (λ is. subst (λ j. new_changed j ≡ old_changed j) (sym is)
          (one (subst (λ j. j < t.data_blocks) is inside)
          (subst (λ j. (hashing_of t).digest (get_or image j []) ≡ (hashing_of t).digest x) is
          (same ∙ ap (hashing_of t).digest (ap (λ j. get_or (p.seen ++ x ∷ []) j []) is ∙ get_or_push p.seen x [] n p.all)))
          ∙ p.rest n (omega arith)))
          (λ ne. let less : i < length p.seen = omega (arith, p.all, low, ne) in
          others i ne ∙ before i (omega (arith, less, p.all)) inside
          (same ∙ ap (hashing_of t).digest (get_or_append_left p.seen (x ∷ []) [] i less)))
          (cases_eq i n)))
          inr
          (spares image fits))
          (λ clash. inr (clash_grows t image given more grows clash))
          (p.spared image fits);
      rest = λ i high. others i (λ e. absurd (omega (arith, e, high))) ∙ p.rest i (omega (arith, high));
    }

-- all blocks
same_leaves : (h : Hashing) (seen image : List (List ℕ)) → length image ≡ length seen
    → ((i : ℕ) → i < length seen → h.digest (get_or image i []) ≡ h.digest (get_or seen i [])) → IsUpdateOf h seen image
same_leaves h seen image len same =
    ext_get_or [] (map h.digest image) (map h.digest seen) (length-map image h.digest ∙ len ∙ sym (length-map seen h.digest))
    (λ i below. let low : i < length image = omega (arith, length-map image h.digest) in
    get_or-map h.digest image i [] [] low ∙ same i (omega (arith, len)) ∙ sym (get_or-map h.digest seen i [] [] (omega (arith, len))))

pub updates_all : {H N : Type 0} (hash : store.Ghosts H) (news : store.Ghosts N) (t : Table) (h h' : H) (s s' : N) (count : ℕ)
    (old new : List (List ℕ) → List (List ℕ)) (old_changed new_changed : ℕ → Bool) → count ≡ length (news.content s)
    → ((image : List (List ℕ)) → length (old image) ≡ count) → ((i : ℕ) → i < t.data_blocks → i < count → old_changed i ≡ false)
    → TakesTo news t (hash_given hash t (length (hash.given h)) h') s s' count old new old_changed new_changed
    → Updates hash news t h h' s s' new new_changed
updates_all hash news t h h' s s' count old new old_changed new_changed all wide none p = record {
  new = p.seen;
  whole = p.all ∙ all;
  gave = p.gave;
  updated = λ image fits. ⊎_elim
      (λ to. inl (same_leaves (hashing_of t) p.seen (new image) (to.count ∙ wide image ∙ sym p.all) to.here)) inr (p.taken image fits);
  spared = λ image fits. ⊎_elim
      (λ spared. inl (λ i inside low same. let within : i < count = omega (arith, low, p.all) in
      let own : i < t.data_blocks = omega (arith, inside, fits.blocks) in spared i within own same ∙ none i own within))
      inr (p.spared image fits);
}

-- what is only read, and read once more
pub read_on : {S : Type 0} (facts : store.Ghosts S) (a b c : S) → IsOnlyRead facts a b → IsOnlyRead facts b c → IsOnlyRead facts a c
read_on facts a b c ab bc = record {
  content = bc.content ∙ ab.content;
  changes = bc.changes ∙ ab.changes;
  room = bc.room ∙ ab.room;
  later = record {
    tells = bc.later.tells ∙ ab.later.tells;
    size = bc.later.size ∙ ab.later.size;
    fixed = bc.later.fixed ∙ ab.later.fixed;
    gave = goes_on_then (facts.given a) (facts.given b) (facts.given c) ab.later.gave bc.later.gave;
    failures = omega (arith, ab.later.failures, bc.later.failures);
    reads = omega (arith, ab.later.reads, bc.later.reads);
    changes = omega (arith, ab.later.changes, bc.later.changes);
    room = omega (arith, ab.later.room, bc.later.room);
  };
}

pub store_on : {H : Type 0} (hash : store.Ghosts H) (t : Table) (a b : H) → IsOnlyRead hash a b → IsHashStoreOf hash t a
    → IsHashStoreOf hash t b
store_on hash t a b read is = record {
  size = read.later.size ∙ is.size;
  tree = λ some. subst (λ blocks. t.hash_start_block + tree_len t ≤ length blocks) (sym read.content) (is.tree some);
}
