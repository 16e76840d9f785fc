-- A commit over stores that were read and given room since.
use Rattle.std.proofs.Common.{◌≡◌, ℕ, List, Result, Ok, Err, arith, subst, ap, ◌∙◌, length}
use Rattle.std.specs.Prelude.{OnOk}
use Rattle.verity_store.specs.declared.store.BlockStore as store
use Rattle.verity_superblock.specs.Superblock.{Volume}
use Rattle.verity_pending.specs.Draft.{Draft, edits_of}
use Rattle.verity_edit.specs.Committing.{CanCommit, IsCarriedOut, MakesDevice}

pub on_ok_both : {T E : Type 0} (r : Result T E) (P Q R : Type 0) → (P → Q → R) → OnOk r P → OnOk r Q → OnOk r R
on_ok_both (Ok x) P Q R f p q = f p q
on_ok_both (Err e) P Q R f p q = tt

pub can_after : {D H : Type 0} (stored : store.Ghosts D) (hashes : store.Ghosts H) (v : Volume) (d : Draft) (first : ℕ)
    (root : List ℕ) (data_store data_now : D) (hash_store hash_now : H)
    → CanCommit stored hashes v d first root data_store hash_store → stored.content data_now ≡ stored.content data_store →
    stored.size data_now ≡ stored.size data_store
    → hashes.content hash_now ≡ hashes.content hash_store → hashes.size hash_now ≡ hashes.size hash_store →
    CanCommit stored hashes v d first root data_now hash_now
can_after stored hashes v d first root data_store data_now hash_store hash_now can same size hash_same hash_size = record {
  behind = can.behind;
  near = can.near;
  committed = ap length same ∙ can.committed;
  counted = can.counted;
  data_size = size ∙ can.data_size;
  block_size = can.block_size;
  hash_size = hash_size ∙ can.hash_size;
  within = (let w = can.within in let l = ap length hash_same in omega arith);
  root_size = can.root_size;
}

pub carried_before : {D H : Type 0} (stored : store.Ghosts D) (hashes : store.Ghosts H) (v : Volume) (d : Draft) (first : ℕ)
    (root : List ℕ) (data_store data_now new_data : D) (hash_store hash_now new_hash : H)
    → IsCarriedOut stored hashes v d first root data_now new_data hash_now new_hash →
    stored.content data_now ≡ stored.content data_store → stored.tells data_now ≡ stored.tells data_store
    → hashes.content hash_now ≡ hashes.content hash_store → hashes.tells hash_now ≡ hashes.tells hash_store →
    IsCarriedOut stored hashes v d first root data_store new_data hash_store new_hash
carried_before stored hashes v d first root data_store data_now new_data hash_store hash_now new_hash done same tells hash_same
    hash_tells = record {
      image = λ told. done.image (tells ∙ told) ∙ ap (λ blocks. (edits_of blocks d).working) same;
      len = done.len;
      device = λ told.
          subst (λ (blocks : List (List ℕ)). MakesDevice v d first root blocks (hashes.content hash_store) (hashes.content new_hash)) same
          (subst (λ (blocks : List (List ℕ)). MakesDevice v d first root (stored.content data_now) blocks (hashes.content new_hash))
          hash_same (done.device (hash_tells ∙ told)));
      hash_len = done.hash_len;
      data_synced = done.data_synced;
      hash_synced = done.hash_synced;
    }
