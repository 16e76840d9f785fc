-- The open blocks of a tree while digests of blocks that wait are still to be made.
use Rattle.std.proofs.Common.{◌≡◌, ◌≢◌, ℕ, zero, suc, ◌+◌, ◌<◌, ◌≤◌, List, [], ◌∷◌, ◌++◌, length, map, replicate, set, ⊎_elim, refl}
use Rattle.std.proofs.Common.{sym, ap, ◌∙◌, arith}
use Rattle.std.specs.Prelude.{Option, Some}
use Rattle.std.proofs.lemmas.Bool.{cases_lt, cases_eq}
use Rattle.std.proofs.lemmas.List.{ext_get_or, get_or-set_same, get_or-set_other, length-set, append-nil, append_assoc, map-append}
use Rattle.verity_digest.specs.Tree.{Hashing, hash_block}
use Rattle.verity_tree.specs.Open.{Open}
use Rattle.verity_tree.specs.Climb.{open_at, nothing_open, AreEmpty, Comes, Closes}
use Rattle.verity_tree.specs.Waits.{Waits}
use Rattle.verity_geometry.specs.Geometry.{Shape}
use Rattle.verity_tree.specs.Climb.{AreAlike}
use Rattle.verity_tree.specs.Coming.{none_wait, waits_at, AreWaiting, coming, with_coming, opens_from}

pub length-opens_from : (h : Hashing) (ws : List Waits) (m : ℕ) (bs : List Open) → length (opens_from h ws m bs) ≡ length bs
length-opens_from h ws m [] = refl
length-opens_from h ws m (b ∷ bs) = ap suc (length-opens_from h ws (suc m) bs)

from_at : (h : Hashing) (ws : List Waits) (m : ℕ) (bs : List Open) (l : ℕ) → l < length bs →
    open_at (opens_from h ws m bs) l ≡ with_coming (open_at bs l) (coming h ws (m + l))
from_at h ws m [] l there = absurd (omega arith)
from_at h ws m (b ∷ bs) zero there = ap (λ i. with_coming b (coming h ws i)) (let e : m ≡ m + 0 = omega arith in e)
from_at h ws m (b ∷ bs) (suc l) there =
    from_at h ws (suc m) bs l (omega arith)
    ∙ ap (λ i. with_coming (open_at bs l) (coming h ws i)) (let e : suc m + l ≡ m + suc l = omega arith in e)

-- an open block with what comes to it
pub opens_at : (h : Hashing) (ws : List Waits) (bs : List Open) (l : ℕ) → l < length bs →
    open_at (opens_from h ws 0 bs) l ≡ with_coming (open_at bs l) (coming h ws l)
opens_at h ws bs l there =
    from_at h ws 0 bs l there ∙ ap (λ i. with_coming (open_at bs l) (coming h ws i)) (let e : 0 + l ≡ l = omega arith in e)

with_none : (o : Open) → with_coming o [] ≡ o
with_none o = ap {A = List (List ℕ)} {B = Open} (λ ds. record o { digests = ds }) (append-nil o.digests)

-- where nothing comes it is the block itself
pub opens_settled : (h : Hashing) (ws : List Waits) (bs : List Open) (l : ℕ) → l < length bs → coming h ws l ≡ [] →
    open_at (opens_from h ws 0 bs) l ≡ open_at bs l
opens_settled h ws bs l there none = opens_at h ws bs l there ∙ ap (with_coming (open_at bs l)) none ∙ with_none (open_at bs l)

past : (bs : List Open) (l : ℕ) → length bs ≤ l → open_at bs l ≡ nothing_open
past [] l behind = refl
past (b ∷ bs) zero behind = absurd (omega arith)
past (b ∷ bs) (suc l) behind = past bs l (omega arith)

same_at : (h : Hashing) (ws ws' : List Waits) (bs bs' : List Open) (l : ℕ) → length bs' ≡ length bs → open_at bs' l ≡ open_at bs l →
    coming h ws' l ≡ coming h ws l → open_at (opens_from h ws' 0 bs') l ≡ open_at (opens_from h ws 0 bs) l
same_at h ws ws' bs bs' l len same comes =
    ⊎_elim
    (λ there.
    opens_at h ws' bs' l (omega arith) ∙ (λ i. with_coming (same i) (comes i)) ∙ sym (opens_at h ws bs l there))
    (λ behind.
    past (opens_from h ws' 0 bs') l (omega (arith, length-opens_from h ws' 0 bs'))
    ∙ sym (past (opens_from h ws 0 bs) l (omega (arith, length-opens_from h ws 0 bs))))
    (cases_lt l (length bs))

-- what waits changes on one level
pub coming_other : (h : Hashing) (ws : List Waits) (m : ℕ) (w : Waits) (l : ℕ) → l ≢ suc m → coming h (set ws m w) l ≡ coming h ws l
coming_other h ws m w zero apart = refl
coming_other h ws m w (suc q) apart =
    ap (λ (x : Waits). map h.digest x.blocks) (get_or-set_other ws m q w none_wait (λ e. apart (ap suc e)))

coming_same : (h : Hashing) (ws : List Waits) (m : ℕ) (w : Waits) → m < length ws → coming h (set ws m w) (suc m) ≡ map h.digest w.blocks
coming_same h ws m w there = ap (λ (x : Waits). map h.digest x.blocks) (get_or-set_same ws m w none_wait there)

-- a data block's digest comes to level 0
pub comes_first : (h : Hashing) (ws : List Waits) (bs : List Open) (next : Open) (d : List ℕ) (root : Option (List ℕ)) → 0 < length bs
    → next ≡ record (open_at bs 0) { digests = (open_at bs 0).digests ++ d ∷ [] }
    → Comes 0 d (opens_from h ws 0 bs) (opens_from h ws 0 (set bs 0 next)) root root
comes_first h ws bs next d root some is =
    let len : length (set bs 0 next) ≡ length bs = length-set bs 0 next in
    let count = length-opens_from h ws 0 bs in
    record {
      len = length-opens_from h ws 0 (set bs 0 next) ∙ len ∙ sym count;
      here = λ there.
          opens_settled h ws (set bs 0 next) 0 (omega arith) refl
          ∙ get_or-set_same bs 0 next nothing_open some ∙ is
          ∙ ap {A = Open} {B = Open} (λ o. record o { digests = o.digests ++ d ∷ [] }) (sym (opens_settled h ws bs 0 some refl));
      others = λ l apart. same_at h ws ws bs (set bs 0 next) l len (get_or-set_other bs 0 l next nothing_open apart) refl;
      kept = λ there. refl;
      root = λ none. absurd (omega arith);
    }

-- .. or is the root
pub comes_alone : (h : Hashing) (ws : List Waits) (bs : List Open) (d : List ℕ) (root : Option (List ℕ)) → length bs ≤ 0
    → Comes 0 d (opens_from h ws 0 bs) (opens_from h ws 0 bs) root (Some d)
comes_alone h ws bs d root none =
    let count = length-opens_from h ws 0 bs in
    record {
      len = refl;
      here = λ there. absurd (omega arith);
      others = λ l apart. refl;
      kept = λ there. absurd (omega arith);
      root = λ no. refl;
    }

-- the digests of the blocks that wait below level `suc m` are put into its open block
module _ (h : Hashing) (ws : List Waits) (bs : List Open) (m : ℕ) (next : Open) (none : Waits) (ds : List (List ℕ))
    (row : m < length ws) (there : suc m < length bs) (made : ds ≡ map h.digest (waits_at ws m).blocks)
    (is : next ≡ with_coming (open_at bs (suc m)) ds) (cleared : none.blocks ≡ []) where
  pub settles : coming h (set ws m none) (suc m) ≡ []
  settles = coming_same h ws m none row ∙ ap (map h.digest) cleared

  pub settles_other : (l : ℕ) → l ≢ suc m → coming h (set ws m none) l ≡ coming h ws l
  settles_other l apart = coming_other h ws m none l apart

  settles_at : (l : ℕ) → open_at (opens_from h (set ws m none) 0 (set bs (suc m) next)) l ≡ open_at (opens_from h ws 0 bs) l
  settles_at l =
      let len : length (set bs (suc m) next) ≡ length bs = length-set bs (suc m) next in
      ⊎_elim
      (λ here.
      ap (λ q. open_at (opens_from h (set ws m none) 0 (set bs (suc m) next)) q) here
      ∙ opens_settled h (set ws m none) (set bs (suc m) next) (suc m) (omega arith) settles
      ∙ get_or-set_same bs (suc m) next nothing_open there ∙ is
      ∙ ap (with_coming (open_at bs (suc m))) made ∙ sym (opens_at h ws bs (suc m) there)
      ∙ ap (λ q. open_at (opens_from h ws 0 bs) q) (sym here))
      (λ apart.
      same_at h ws (set ws m none) bs (set bs (suc m) next) l len (get_or-set_other bs (suc m) l next nothing_open apart)
      (settles_other l apart))
      (cases_eq l (suc m))

  pub settles_opens : opens_from h (set ws m none) 0 (set bs (suc m) next) ≡ opens_from h ws 0 bs
  settles_opens =
      ext_get_or nothing_open (opens_from h (set ws m none) 0 (set bs (suc m) next)) (opens_from h ws 0 bs)
      (length-opens_from h (set ws m none) 0 (set bs (suc m) next) ∙ length-set bs (suc m) next ∙ sym (length-opens_from h ws 0 bs))
      (λ l below. settles_at l)

-- the open block of a level makes place for the next one
module _ (h : Hashing) (ws : List Waits) (bs : List Open) (level : ℕ) (next : Open) (there : level < length bs)
    (settled : coming h ws level ≡ []) (is : next ≡ record (open_at bs level) { digests = []; index = (open_at bs level).index + 1 }) where
  -- .. and its block waits
  module _ (waits : Waits) (block : List ℕ) (row : level < length ws) (below : suc level < length bs)
      (bytes : block ≡ hash_block h (open_at bs level).digests) (put : waits.blocks ≡ (waits_at ws level).blocks ++ block ∷ [])
      (root : Option (List ℕ)) where
    waits_above : open_at (opens_from h (set ws level waits) 0 (set bs level next)) (suc level)
        ≡ record (open_at (opens_from h ws 0 bs) (suc level)) {
          digests = (open_at (opens_from h ws 0 bs) (suc level)).digests ++ h.digest
              (hash_block h (open_at (opens_from h ws 0 bs) level).digests) ∷ [];
        }
    waits_above =
        let up : Open = open_at bs (suc level) in
        let old : List (List ℕ) = map h.digest (waits_at ws level).blocks in
        let d : List ℕ = h.digest (hash_block h (open_at bs level).digests) in
        let len : length (set bs level next) ≡ length bs = length-set bs level next in
        let apart : suc level ≢ level = λ e. absurd (omega arith) in
        let made : coming h (set ws level waits) (suc level) ≡ old ++ d ∷ [] =
        coming_same h ws level waits row ∙ ap (map h.digest) put
        ∙ map-append h.digest (waits_at ws level).blocks (block ∷ []) ∙ ap (λ b. old ++ h.digest b ∷ []) bytes in
        let same = opens_settled h ws bs level there settled in
        opens_at h (set ws level waits) (set bs level next) (suc level) (omega arith)
        ∙ ap {A = Open} {B = Open} (λ o. with_coming o (coming h (set ws level waits) (suc level)))
        (get_or-set_other bs level (suc level) next nothing_open apart)
        ∙ ap (with_coming up) made
        ∙ ap {A = List (List ℕ)} {B = Open} (λ ds. record up { digests = ds }) (sym (append_assoc up.digests old (d ∷ [])))
        ∙ ap {A = Open} {B = Open} (λ o. record o { digests = o.digests ++ d ∷ [] }) (sym (opens_at h ws bs (suc level) below))
        ∙ ap {A = Open} {B = Open} (λ o. record (open_at (opens_from h ws 0 bs) (suc level)) {
          digests = (open_at (opens_from h ws 0 bs) (suc level)).digests ++ h.digest (hash_block h o.digests) ∷ [];
        }) (sym same)

    pub closes_waiting : Closes h level (opens_from h ws 0 bs) (opens_from h (set ws level waits) 0 (set bs level next)) root root
    closes_waiting =
        let len : length (set bs level next) ≡ length bs = length-set bs level next in
        let count = length-opens_from h ws 0 bs in
        record {
          len = length-opens_from h (set ws level waits) 0 (set bs level next) ∙ len ∙ sym count;
          here =
              opens_settled h (set ws level waits) (set bs level next) level (omega arith)
              (coming_other h ws level waits level (λ e. absurd (omega arith)) ∙ settled)
              ∙ get_or-set_same bs level next nothing_open there ∙ is
              ∙ ap {A = Open} {B = Open} (λ o. record o { digests = []; index = o.index + 1 })
              (sym (opens_settled h ws bs level there settled));
          above = λ inside. waits_above;
          others = λ l a b.
              same_at h ws (set ws level waits) bs (set bs level next) l len (get_or-set_other bs level l next nothing_open a)
              (coming_other h ws level waits l b);
          kept = λ inside. refl;
          root = λ top. absurd (omega arith);
        }

  -- .. and its digest is the root
  pub closes_top : (digest : List ℕ) (root : Option (List ℕ)) → suc level ≡ length bs
      → digest ≡ h.digest (hash_block h (open_at bs level).digests) →
      Closes h level (opens_from h ws 0 bs) (opens_from h ws 0 (set bs level next)) root (Some digest)
  closes_top digest root top made =
      let len : length (set bs level next) ≡ length bs = length-set bs level next in
      let count = length-opens_from h ws 0 bs in
      let same = opens_settled h ws bs level there settled in
      record {
        len = length-opens_from h ws 0 (set bs level next) ∙ len ∙ sym count;
        here =
            opens_settled h ws (set bs level next) level (omega arith) settled
            ∙ get_or-set_same bs level next nothing_open there ∙ is
            ∙ ap {A = Open} {B = Open} (λ o. record o { digests = []; index = o.index + 1 }) (sym same);
        above = λ inside. absurd (omega arith);
        others = λ l a b. same_at h ws ws bs (set bs level next) l len (get_or-set_other bs level l next nothing_open a) refl;
        kept = λ inside. absurd (omega arith);
        root = λ end. ap (λ d. Some d) made
            ∙ ap {A = Open} {B = Option (List ℕ)} (λ o. Some (h.digest (hash_block h o.digests))) (sym same);
      }

-- another open block of this volume, and other blocks of it that wait
pub alike_set : (s : Shape) (bs : List Open) (level : ℕ) (next : Open) → AreAlike s bs → level < length bs
    → next.block_size ≡ (open_at bs level).block_size → next.digest_size ≡ (open_at bs level).digest_size → AreAlike s (set bs level next)
alike_set s bs level next alike there size slot l below =
    let len = length-set bs level next in
    ⊎_elim
    (λ here.
    let is = ap (λ q. open_at (set bs level next) q) here ∙ get_or-set_same bs level next nothing_open there in
    (ap (λ (o : Open). o.block_size) is ∙ size ∙ (alike level there).0, ap (λ (o : Open). o.digest_size) is ∙ slot ∙ (alike level there).1))
    (λ apart.
    let is = get_or-set_other bs level l next nothing_open apart in
    let was = alike l (omega arith) in
    (ap (λ (o : Open). o.block_size) is ∙ was.0, ap (λ (o : Open). o.digest_size) is ∙ was.1))
    (cases_eq l level)

pub waiting_set : (s : Shape) (ws : List Waits) (level : ℕ) (next : Waits) → AreWaiting s ws → level < length ws
    → next.size ≡ (waits_at ws level).size → next.room ≡ (waits_at ws level).room → AreWaiting s (set ws level next)
waiting_set s ws level next waits there size room l below =
    let len = length-set ws level next in
    ⊎_elim
    (λ here.
    let is = ap (λ q. waits_at (set ws level next) q) here ∙ get_or-set_same ws level next none_wait there in
    let some = (waits level there).1 in
    (ap (λ (w : Waits). w.size) is ∙ size ∙ (waits level there).0, omega (arith, some, room, ap (λ (w : Waits). w.room) is)))
    (λ apart.
    let is = get_or-set_other ws level l next none_wait apart in
    let was = waits l (omega arith) in
    (ap (λ (w : Waits). w.size) is ∙ was.0, omega (arith, was.1, ap (λ (w : Waits). w.room) is)))
    (cases_eq l level)

pub no_waits : (n : ℕ) (w : Waits) (l : ℕ) → w.blocks ≡ [] → (waits_at (replicate n w) l).blocks ≡ []
no_waits zero w l none = refl
no_waits (suc n) w zero none = none
no_waits (suc n) w (suc l) none = no_waits n w l none

nothing_comes : (h : Hashing) (ws : List Waits) → ((l : ℕ) → (waits_at ws l).blocks ≡ []) → (q : ℕ) → coming h ws q ≡ []
nothing_comes h ws none zero = refl
nothing_comes h ws none (suc q) = ap (map h.digest) (none q)

-- before the first data block
pub opens_empty : (h : Hashing) (ws : List Waits) (bs : List Open) → AreEmpty bs → ((l : ℕ) → (waits_at ws l).blocks ≡ []) →
    AreEmpty (opens_from h ws 0 bs)
opens_empty h ws bs empty none l below =
    let there : l < length bs = omega (arith, length-opens_from h ws 0 bs) in
    let same = opens_settled h ws bs l there (nothing_comes h ws none l) in
    (ap (λ (o : Open). o.digests) same ∙ (empty l there).0, ap (λ (o : Open). o.index) same ∙ (empty l there).1)
