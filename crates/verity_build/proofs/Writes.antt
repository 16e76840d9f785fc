-- Blocks of a tree that are written to a store.
use Rattle.std.proofs.Common.{◌≡◌, ℕ, suc, ◌+◌, ◌<◌, ◌≤◌, List, [], length, get_or, set, ⊎_elim, refl, sym, ap, ◌∙◌, arith}
use Rattle.std.specs.Prelude.{Option}
use Rattle.std.proofs.lemmas.Bool.{cases_lt, cases_eq}
use Rattle.std.proofs.lemmas.List.{get_or-set_same, get_or-set_other}
use Rattle.verity_digest.specs.Tree.{Hashing}
use Rattle.verity_geometry.specs.Geometry.{Shape, place_of}
use Rattle.verity_store.specs.Blocks.{ChangesAt}
use Rattle.verity_store.specs.Stores.{IsLater}
use Rattle.verity_store.proofs.StoreLemmas.{later_same, later_then}
use Rattle.verity_store.specs.declared.store.BlockStore as store
use Rattle.verity_tree.specs.Open.{Open}
use Rattle.verity_tree.specs.Climb.{open_at, Closes}
use Rattle.verity_build.specs.Device.{AreStored, WritesFrom}

pub writes_none : {S : Type 0} (facts : store.Ghosts S) (start : ℕ) (s : S) → WritesFrom facts start s s
writes_none facts start s = record { len = refl; front = λ q below. refl; reads = refl; room = refl; later = later_same facts s }

pub writes_then : {S : Type 0} (facts : store.Ghosts S) (start : ℕ) (old now new : S) → WritesFrom facts start old now →
    WritesFrom facts start now new → WritesFrom facts start old new
writes_then facts start old now new first second = record {
  len = second.len ∙ first.len;
  front = λ q below. second.front q below ∙ first.front q below;
  reads = second.reads ∙ first.reads;
  room = second.room ∙ first.room;
  later = later_then facts old now new first.later second.later;
}

pub writes_one : {S : Type 0} (facts : store.Ghosts S) (start at : ℕ) (old new : S) → start ≤ at →
    ChangesAt at (facts.content old) (facts.content new)
    → facts.reads new ≡ facts.reads old → facts.room new ≡ facts.room old → IsLater facts old new → WritesFrom facts start old new
writes_one facts start at old new behind others reads room later = record {
  len = others.0;
  front = λ q below. others.1 q (λ e. absurd (omega arith));
  reads = reads;
  room = room;
  later = later;
}

-- which blocks are closed after one more was
pub closed_before : (h : Hashing) (j : ℕ) (old new : List Open) (old_root new_root : Option (List ℕ)) → Closes h j old new old_root new_root
    → (l i : ℕ) → l < length old → i < (open_at new l).index → (l ≡ j → i ≡ (open_at old j).index → ⊥) → i < (open_at old l).index
closed_before h j old new old_root new_root closes l i there below apart =
    ⊎_elim
    (λ here.
    let index : (open_at new l).index ≡ (open_at old j).index + 1 = ap (λ m. (open_at new m).index) here ∙ ap (λ o. o.index) closes.here in
    let same : (open_at old l).index ≡ (open_at old j).index = ap (λ m. (open_at old m).index) here in
    let ne = apart here in
    ⊎_elim (λ less. less) (λ le. absurd (ne (omega arith))) (cases_lt i (open_at old l).index))
    (λ other.
    let index : (open_at new l).index ≡ (open_at old l).index = ⊎_elim
    (λ next. ap (λ m. (open_at new m).index) next ∙ ap (λ o. o.index) (closes.above (omega arith))
    ∙ ap (λ m. (open_at old m).index) (sym next))
    (λ later. ap (λ o. o.index) (closes.others l other later))
    (cases_eq l (suc j)) in
    omega arith)
    (cases_eq l j)

-- the block that is closed is written at its place
pub stored_next : (h : Hashing) (s : Shape) (start j : ℕ) (blocks : List (List ℕ)) (old new : List Open)
    (old_root new_root : Option (List ℕ)) (content : List (List ℕ)) (block : List ℕ)
    → Closes h j old new old_root new_root → start + place_of s j (open_at old j).index < length content
    → block ≡ get_or blocks (place_of s j (open_at old j).index) []
    → AreStored s start blocks old content → AreStored s start blocks new (set content (start + place_of s j (open_at old j).index) block)
stored_next h s start j blocks old new old_root new_root content block closes within is stored l i there below =
    let p : ℕ = place_of s j (open_at old j).index in
    let q : ℕ = place_of s l i in
    ⊎_elim
    (λ same.
    ap (λ a. get_or (set content (start + p) block) (start + a) []) same
    ∙ get_or-set_same content (start + p) block [] within ∙ is ∙ ap (λ a. get_or blocks a []) (sym same))
    (λ apart.
    get_or-set_other content (start + p) (start + q) block [] (λ e. apart (omega arith))
    ∙ stored l i (let len = closes.len in omega arith)
    (closed_before h j old new old_root new_root closes l i (let len = closes.len in
    omega arith) below (λ e f. apart (λ t. place_of s (e t) (f t)))))
    (cases_eq q p)
