-- A volume that was edited under a table line, and one client of it.
use Rattle.std.proofs.Common.{◌≡◌, ◌⊎◌, ◌/◌, ℕ, ◌<◌, ◌≤◌, List, length, take, inl, inr, ⊎_elim, sym, ap, ◌∙◌, subst, arith}
use Rattle.std.proofs.Math.Seq.{take-length}
use Rattle.std.specs.declared.alloc.AllocError.{AllocError}
use Rattle.std.specs.Prelude.{Option, None, IfSome, Result, Ok, IfOk, IfErr, OnOk, OnErr}
use Rattle.verity_digest.specs.Hash.{hashing, size_of}
use Rattle.verity_digest.specs.Tree.{Hashing, root, per_block}
use Rattle.verity_digest.specs.Shape.{total}
use Rattle.nbd_hub.specs.declared.fault.ServeFault.{ServeFault}
use Rattle.nbd_hub.specs.Stream.{Ends}
use Rattle.verity_store.specs.declared.store.BlockStore as store
use Rattle.verity_store.proofs.GivenLemmas.{goes_on_len}
use Rattle.verity_superblock.specs.Superblock.{salted}
use Rattle.verity_chain.specs.Table.{Table, hashing_of, tree_len}
use Rattle.verity_chain.specs.Right.{Fits}
use Rattle.verity_edit.specs.declared.command.Command.{Command}
use Rattle.verity_edit.specs.declared.command.Reply.{Reply}
use Rattle.verity_edit.specs.Edits.{unedited}
use Rattle.verity_edit.specs.Editing.{FitsStores}
use Rattle.verity_trusted.specs.Line.{LineEditing, IsOpenedUnder, IsLineOf, editing_of}
use Rattle.verity_edit.specs.Planning.{volume_hashing}
use Rattle.verity_check.specs.Verifier.{AreStoresOf}
use Rattle.verity_promise.specs.declared.edited.Edited.{Edited}
use Rattle.verity_promise.specs.declared.delivery.Unserved.{Unserved}
use Rattle.verity_promise.specs.declared.delivery.Unserved.TheVariants as unserved
use Rattle.verity_promise.specs.Closing.{IsServed}
use Rattle.verity_promise.specs.Delivery.{ExplainsUnmade}
use Rattle.verity_promise.specs.OnTheWay.{IsAt, AreAnsweredUnder, IsClosedUnder}
use Rattle.verity_promise.specs.Under.{IsChainUnder, IsEditedUnder, ClashesOnTheWay, DeliversUnder, ExplainsUnservedUnder}
use Rattle.verity_promise.specs.Under.{made, committed_by}
use Rattle.verity_promise.proofs.Closed.{if_some, on_ok, on_err}
use Rattle.verity_promise.proofs.Served.{if_ok, if_err}

-- an editor that was opened stands at the image
opened_at : {D H : Type 0} (on_data : store.Ghosts D) (on_hash : store.Ghosts H) (d : D) (h : H) (t : Table) (e : LineEditing D H)
    → IsOpenedUnder on_data on_hash d h t e → (image : List (List ℕ)) → Fits t image → IsAt t (unedited image) e
opened_at on_data on_hash d h t e opens image fits = record {
  line = opens.table ∙ (λ i. record t { data_blocks = sym fits.blocks i; root = sym fits.root i });
  fits = subst (λ x. Fits x image) (sym opens.table) fits;
  edits = λ sound. opens.edits image fits.blocks;
}

module _ {D H A B : Type 0} (on_data : store.Ghosts D) (on_hash : store.Ghosts H) (d : D) (h : H) (t : Table)
    (commands : List (Command A)) (count : ℕ) (old new : List Reply) (opened closed : LineEditing D H)
    (opens : IsOpenedUnder on_data on_hash d h t opened)
    (runs : AreAnsweredUnder on_data on_hash commands count opened closed old new)
    (done : Result (Unit {0}) AllocError) (left : Edited D H B) (shut : IsClosedUnder on_data on_hash closed done left)
    (all : OnOk done (count ≡ length commands)) (short : OnErr done (count < length commands)) where
  -- so it was edited
  pub edited_under : IsEditedUnder on_data on_hash d h t commands old new left
  edited_under =
      let added : List Reply = runs.added in
      let each : length added ≡ count = runs.each in
      let mark : ℕ = length (on_hash.given h) in
      let low : mark ≤ length (on_hash.given opened.hash_store) =
      goes_on_len (on_hash.given h) (on_hash.given opened.hash_store) opens.hash_store.later.gave in
      record {
        opened = opened;
        closed = closed;
        opens = opens;
        added = added;
        replies = runs.replies;
        all = on_ok done left.done _ _ shut.done_is (λ e. each ∙ e) all;
        short = on_err done left.done _ _ shut.done_is (λ e. omega (arith, each, e)) short;
        chain = subst (λ n. IsChainUnder on_data on_hash (take n commands) added opened closed) (sym each) runs.chain;
        stays = runs.stays;
        data_store = shut.data_store;
        hash_store = shut.hash_store;
        table = shut.table;
        fits = shut.fits;
        right = λ image fits.
            let made_of : (x : Table) → Type 0 = λ x. IsAt x (unedited image) opened
            → IsAt x (made x.data_block_size (take count commands) added (unedited image)) closed
            ⊎ ClashesOnTheWay on_hash x mark closed.hash_store commands added image in
            let ran : made_of t = subst made_of opens.table (runs.right mark low image) in
            let blocks : List (List ℕ) = committed_by t (take count commands) added image in
            let same : blocks ≡ committed_by t (take (length added) commands) added image =
            ap (λ n. committed_by t (take n commands) added image) (sym each) in
            ⊎_elim
            (λ at. inl (record {
              root = shut.root ∙ ap (λ (x : Table). x.root) at.line ∙ ap (λ b. root (hashing_of t) b) same;
              table = if_some left.table _ _
                  (λ line is. subst (λ b. Fits line b) same (subst (λ x. Fits x blocks) (sym is.1) at.fits)) shut.table;
            }))
            (λ clash. inr (subst (λ x. ClashesOnTheWay on_hash t mark x commands added image) (sym shut.hash_store) clash))
            (ran (opened_at on_data on_hash d h t opened opens image fits));
      }

module _ {D H A B : Type 0} (on_data : store.Ghosts D) (on_hash : store.Ghosts H) (d : D) (h : H) (t : Table)
    (commands : List (Command A)) (old new : List Reply) (left : Edited D H B)
    (edited : IsEditedUnder on_data on_hash d h t commands old new left) where
  -- what was committed is what is served, or there is a clash on the way
  delivers_under : (called : List ℕ) (ends : Ends) (limit : ℕ) (result : Result (Unit {0}) ServeFault)
      → IsServed on_data on_hash called ends limit result left
      → DeliversUnder on_data on_hash d h t commands B old new called ends limit result
  delivers_under called ends limit result s =
      let added : List Reply = edited.added in
      let all : length added ≡ length commands =
      subst (λ (r : Result (Unit {0}) AllocError). OnOk r (length added ≡ length commands)) s.done edited.all in
      record {
        left = left;
        edited = edited;
        done = s.done;
        line = s.t;
        table = s.table;
        made = s.old;
        after = s.new;
        over = s.over;
        reads = s.reads;
        right = λ image fits.
            let blocks : List (List ℕ) = committed_by t commands added image in
            let same : committed_by t (take (length added) commands) added image ≡ blocks =
            ap (λ n. committed_by t (take n commands) added image) all
            ∙ ap (λ (cs : List (Command A)). committed_by t cs added image) (take-length commands) in
            ⊎_elim
            (λ is.
            let line : Fits s.t (committed_by t (take (length added) commands) added image) =
            subst (λ (o : Option Table). IfSome o (λ x. Fits x (committed_by t (take (length added) commands) added image))) s.table
            is.table in
            inl (s.right blocks (subst (λ b. Fits s.t b) same line)))
            inr
            (edited.right image fits);
      }

  explains_under : (u : Unserved D H B) → ExplainsUnmade left u → ExplainsUnservedUnder on_data on_hash d h t commands old new u
  explains_under (unserved.Opened r) why = absurd why
  explains_under (unserved.Edited same) why =
      subst (λ (x : Edited D H B). IsEditedUnder on_data on_hash d h t commands old new x × ((x.done ≡ Ok tt → ⊥) ⊎ (x.table ≡ None)))
      (sym why.0) (edited, why.1)
  explains_under (unserved.Check fault) why = (why, (left, edited))

  module _ (called : List ℕ) (ends : Ends) (limit : ℕ) (r : Result (Result (Unit {0}) ServeFault) (Unserved D H B)) where
    pub all_delivered_under : IfOk r (λ served. IsServed on_data on_hash called ends limit served left)
        → IfOk r (DeliversUnder on_data on_hash d h t commands B old new called ends limit)
    all_delivered_under s = if_ok r _ _ (λ served x. delivers_under called ends limit served x) s

    pub all_explained_under : IfErr r (ExplainsUnmade left) → IfErr r (ExplainsUnservedUnder on_data on_hash d h t commands old new)
    all_explained_under s = if_err r _ _ explains_under s
