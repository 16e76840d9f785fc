-- A volume that was opened, edited and closed.
use Rattle.std.proofs.Common.{◌≡◌, ◌/◌, ◌-◌, ◌<◌, ◌≤◌, ℕ, true, false, List, [], ◌∷◌, length, take, drop, ◌++◌, get_or, get_or-take}
use Rattle.std.proofs.Common.{length-take, inl, refl, sym, ap, ◌∙◌, subst, arith}
use Rattle.std.specs.List.{concat, list_any, All, Contains}
use Rattle.std.specs.Prelude.{Option, Some, None, IfSome, Result, Ok, Err, OnOk, OnErr}
use Rattle.std.proofs.lemmas.List.{take_all, append_assoc}
use Rattle.verity_digest.specs.Hash.{hashing, size_of}
use Rattle.verity_digest.specs.Tree.{Hashing, root, tree, per_block}
use Rattle.verity_digest.specs.Shape.{total}
use Rattle.verity_store.specs.declared.store.BlockStore as store
use Rattle.verity_store.proofs.BlockLemmas.{take_same}
use Rattle.verity_superblock.specs.Superblock.{Params, salted}
use Rattle.verity_superblock.specs.Image.{hash_image, superblock_block, tree_of, start_behind}
use Rattle.verity_superblock.specs.Line.{TableLine}
use Rattle.verity_superblock.proofs.LineReads.{algorithm_of-sized}
use Rattle.verity_edit.specs.declared.command.Command.{Command}
use Rattle.verity_edit.specs.declared.command.Reply.{Reply}
use Rattle.verity_edit.specs.declared.command.Reply.TheVariants.{Refused}
use Rattle.verity_pending.specs.declared.fault.EditFault.TheVariants.{Store}
use Rattle.verity_build.specs.Faults.{HasFailed}
use Rattle.verity_store.specs.declared.fault.Which.{Which}
use Rattle.verity_store.specs.declared.fault.Which.TheVariants as which
use Rattle.verity_edit.specs.Edits.{unedited}
use Rattle.verity_edit.specs.After.{State, After}
use Rattle.verity_edit.specs.Planning.{volume_hashing}
use Rattle.verity_edit.specs.Editing.{Editing, FitsStores, Stands, IsWhole, hashing_in}
use Rattle.verity_edit.specs.Opening.{IsOpened, ReadsOnce}
use Rattle.verity_edit.specs.Running.{AreAnswered, IsChain, LeadsAll, IsNoFailure, IsUnfailed, is_commit}
use Rattle.verity_edit.specs.Faults.{IsNotPassedOver}
use Rattle.verity_pending.specs.declared.fault.EditFault.{EditFault}
use Rattle.verity_pending.specs.declared.fault.EditFault.TheVariants as fault
use Rattle.verity_chain.specs.Table.{hashing_of, tree_len}
use Rattle.verity_check.specs.Holds.{Holds}
use Rattle.verity_check.specs.Verifier.{AreStoresOf}
use Rattle.verity_promise.specs.declared.edited.Edited.{Edited}
use Rattle.verity_promise.specs.Lines.{IsLine}
use Rattle.verity_promise.specs.Scratch.{IsFromScratch, IsUncommitted, IsEdited}
use Rattle.verity_promise.proofs.Uncommitted.{LeavesSame, chain_leaves_same}

-- what is said of a value follows
pub if_some : {X : Type 0} (o : Option X) (P Q : X → Type 0) → ((x : X) → P x → Q x) → IfSome o P → IfSome o Q
if_some (Some x) P Q f h = f x h
if_some None P Q f h = tt

on_ok-by : {X E : Type 0} (r : Result X E) (P Q : Type 0) → (P → Q) → OnOk r P → OnOk r Q
on_ok-by (Ok x) P Q f h = f h
on_ok-by (Err e) P Q f h = tt

pub on_ok : {X E : Type 0} (r s : Result X E) (P Q : Type 0) → s ≡ r → (P → Q) → OnOk r P → OnOk s Q
on_ok {X = X} {E = E} r s P Q same f h = subst (λ (x : Result X E). OnOk x Q) (sym same) (on_ok-by r P Q f h)

on_err-by : {X E : Type 0} (r : Result X E) (P Q : Type 0) → (P → Q) → OnErr r P → OnErr r Q
on_err-by (Ok x) P Q f h = tt
on_err-by (Err e) P Q f h = f h

pub on_err : {X E : Type 0} (r s : Result X E) (P Q : Type 0) → s ≡ r → (P → Q) → OnErr r P → OnErr s Q
on_err {X = X} {E = E} r s P Q same f h = subst (λ (x : Result X E). OnErr x Q) (sym same) (on_err-by r P Q f h)

-- no store failed in an opening that was refused for another reason
pub refused_unfailed : (data_old data_new hash_old hash_new : ℕ) (fault : EditFault)
    → IsNotPassedOver data_old data_new hash_old hash_new fault → IsNoFailure fault → (data_new ≡ data_old) × (hash_new ≡ hash_old)
refused_unfailed a b c d fault.OutOfRange p n = p
refused_unfailed a b c d fault.WrongLength p n = p
refused_unfailed a b c d fault.TooSmall p n = p
refused_unfailed a b c d fault.TooLarge p n = p
refused_unfailed a b c d fault.NoMemory p n = p
refused_unfailed a b c d (fault.Store which) p n = absurd n
refused_unfailed a b c d fault.Broken p n = absurd n
refused_unfailed a b c d (fault.Mismatch level index) p n = p
refused_unfailed a b c d (fault.Superblock super) p n = p
refused_unfailed a b c d fault.DataLength p n = p
refused_unfailed a b c d (fault.StoreSize which) p n = p
refused_unfailed a b c d fault.Offset p n = p
refused_unfailed a b c d fault.Line p n = p
refused_unfailed a b c d (fault.Untrusted level index) p n = p

concat-append : (xs ys : List (List ℕ)) → concat (xs ++ ys) ≡ concat xs ++ concat ys
concat-append [] ys = refl
concat-append (x ∷ xs) ys = ap (λ l. x ++ l) (concat-append xs ys) ∙ sym (append_assoc x (concat xs) (concat ys))

-- two lists that agree below n begin with the same n blocks
same_front : (n : ℕ) (xs ys : List (List ℕ)) → n ≤ length xs → n ≤ length ys → ((q : ℕ) → q < n → get_or ys q [] ≡ get_or xs q []) →
    take n ys ≡ take n xs
same_front n xs ys short shorter same =
    let len : length (take n xs) ≡ n = simp length-take (omega arith) in
    ap (λ m. take m ys) (sym len)
    ∙ take_same (take n xs) ys (omega arith) (λ k below. let b : k < n = omega arith in same k b ∙ sym (get_or-take n xs k [] b))

module _ {D H : Type 0} (data_facts : store.Ghosts D) (hash_facts : store.Ghosts H) (e : Editing D H) (start : ℕ)
    (fits : FitsStores data_facts hash_facts e)
    (begins : start ≡ e.first) (t : TableLine) (line : IsLine data_facts hash_facts e.data_store e.hash_store start e.root
    e.volume.params.salt t) where
  same_algorithm : t.algorithm ≡ e.volume.params.algorithm
  same_algorithm = line.algorithm ∙ algorithm_of-sized e.volume.params.algorithm e.root fits.root_size

  same_size : t.hash_block_size ≡ e.volume.params.hash_block_size
  same_size = line.hash_block_size ∙ fits.hash_size

  same_start : t.hash_start_block ≡ e.first
  same_start = line.hash_start_block ∙ begins

  same_hashing : hashing_of t ≡ hashing_in e
  same_hashing =
      ap (λ a. hashing (record { algorithm = a; salt = t.salt }) t.hash_block_size) same_algorithm
      ∙ ap (λ s. hashing (record { algorithm = e.volume.params.algorithm; salt = s }) t.hash_block_size) line.salt_is
      ∙ ap (λ size. hashing (salted e.volume.params) size) same_size

  same_tree : tree_len t ≡ total (e.volume.params.hash_block_size / size_of e.volume.params.algorithm) e.volume.data_blocks
  same_tree =
      ap (λ (h : Hashing). total (per_block h) t.data_blocks) same_hashing
      ∙ ap (λ n. total (per_block (hashing_in e)) n) (line.data_blocks ∙ fits.committed ∙ sym fits.blocks)

  -- the stores are those of the line
  pub are_stores : AreStoresOf data_facts hash_facts t e.data_store e.hash_store
  are_stores = record {
    data_store = record { size = sym line.data_block_size; blocks = omega (arith, line.data_blocks) };
    hash_store = record { size = sym line.hash_block_size; tree = λ some. omega (arith, same_tree, same_start, fits.within) };
  }

  -- and hold the committed image, where they tell
  pub holds_closed : data_facts.tells e.data_store ≡ true → hash_facts.tells e.hash_store ≡ true → Stands data_facts hash_facts e
      → Holds t (data_facts.tells e.data_store) (data_facts.content e.data_store) (hash_facts.tells e.hash_store)
      (hash_facts.content e.hash_store) (data_facts.content e.data_store)
  holds_closed data_told hash_told stands =
      let image : List (List ℕ) = data_facts.content e.data_store in
      let content : List (List ℕ) = hash_facts.content e.hash_store in
      record {
        data_tell = data_told;
        hash_tell = hash_told;
        fits = record {
          blocks = sym line.data_blocks;
          sized = subst (λ size. All (λ block. length block ≡ size) image) (sym line.data_block_size) line.sized;
          root = ap (λ h. root h image) same_hashing ∙ sym stands.root ∙ sym line.root_is;
        };
        data_begins = take_all (length image) image (omega arith);
        tree_begins = subst (λ (h : Hashing). take (length (tree h image)) (drop t.hash_start_block content) ≡ tree h image)
            (sym same_hashing)
            (subst (λ n. take (length (tree (hashing_in e) image)) (drop n content) ≡ tree (hashing_in e) image) (sym same_start)
            stands.tree);
      }

module _ {D H A C : Type 0} (data_facts : store.Ghosts D) (hash_facts : store.Ghosts H) (d : D) (h : H) (offset : ℕ)
    (commands : List (Command C)) (count start : ℕ) (old_replies new_replies : List Reply)
    (opened closed : Editing D H) (opens : IsOpened data_facts hash_facts d h offset opened)
    (reads : ReadsOnce data_facts hash_facts d opened.data_store h opened.hash_store opened.volume.params.algorithm)
    (runs : AreAnswered data_facts hash_facts commands count opened closed old_replies new_replies)
    (left : Edited D H A) (data_is : left.data_store ≡ closed.data_store) (hash_is : left.hash_store ≡ closed.hash_store)
    (root_is : left.root ≡ closed.root)
    (fits : closed.broken ≡ false → FitsStores data_facts hash_facts closed)
    (stands : closed.broken ≡ false → data_facts.tells closed.data_store ≡ true → hash_facts.tells closed.hash_store ≡ true →
    Stands data_facts hash_facts closed)
    (begins : start ≡ start_behind offset (hash_facts.size h))
    (line : IfSome left.table (λ t. (closed.broken ≡ false) ×
    IsLine data_facts hash_facts closed.data_store closed.hash_store start closed.root closed.volume.params.salt t)) where
  first : closed.first ≡ start_behind offset (hash_facts.size h)
  first = runs.stays.first ∙ opens.first

  -- the stores that are left are those of the table line
  pub stores_fit : IfSome left.table (λ t. AreStoresOf data_facts hash_facts t left.data_store left.hash_store)
  stores_fit = if_some left.table _ _ (λ t l.
      subst (λ x. AreStoresOf data_facts hash_facts t x left.hash_store) (sym data_is)
      (subst (λ x. AreStoresOf data_facts hash_facts t closed.data_store x) (sym hash_is)
      (are_stores data_facts hash_facts closed start (fits l.0) (begins ∙ sym first) t l.1))) line

  abbrev pub front : List (List ℕ)
  front = take (offset / hash_facts.size h) (hash_facts.content h)

  -- the blocks in front stay
  same_behind : closed.broken ≡ false → take (closed.first - 1) (hash_facts.content closed.hash_store) ≡ front
  same_behind sound =
      let n : ℕ = opened.first - 1 in
      let was : hash_facts.content opened.hash_store ≡ hash_facts.content h = opens.hash_store.content in
      let f = fits sound in
      ap (λ m. take (m - 1) (hash_facts.content closed.hash_store)) runs.stays.first
      ∙ same_front n (hash_facts.content opened.hash_store) (hash_facts.content closed.hash_store)
      (omega (arith, opens.fits.within)) (omega (arith, f.within, runs.stays.first)) runs.stays.front
      ∙ ap (λ c. take n c) was
      ∙ ap (λ m. take m (hash_facts.content h)) (let e = opens.first in omega (arith, e))

  module _ (data_told : data_facts.tells d ≡ true) (hash_told : hash_facts.tells h ≡ true) where
    abbrev pub begin : State
    begin = record { edits = unedited (data_facts.content d); broken = false }

    leads : LeadsAll data_facts hash_facts (take count commands) runs.added opened begin closed
    leads = runs.leads (opens.data_store.later.tells ∙ data_told) (opens.hash_store.later.tells ∙ hash_told) begin
        (record { broken = sym opens.broken; edits = λ sound. sym opens.edits })

    still_data : data_facts.tells closed.data_store ≡ true
    still_data = runs.stays.data_store.tells ∙ opens.data_store.later.tells ∙ data_told

    still_hash : hash_facts.tells closed.hash_store ≡ true
    still_hash = runs.stays.hash_store.tells ∙ opens.hash_store.later.tells ∙ hash_told

    image_of : closed.broken ≡ false → data_facts.content closed.data_store ≡ leads.state.edits.committed
    image_of sound = sym (ap (λ x. x.committed) (leads.is_in.edits sound))

    whole_device : closed.broken ≡ false → list_any is_commit runs.added ≡ true
        → concat (hash_facts.content closed.hash_store) ≡ hash_image opened.volume.params (data_facts.content closed.data_store) front
    whole_device sound committed =
        let p : Params = closed.volume.params in
        let image : List (List ℕ) = data_facts.content closed.data_store in
        let behind : List (List ℕ) = take (closed.first - 1) (hash_facts.content closed.hash_store) in
        let whole : IsWhole data_facts hash_facts closed =
        runs.whole (opens.data_store.later.tells ∙ data_told) (opens.hash_store.later.tells ∙ hash_told) sound (inl committed) in
        ap concat whole
        ∙ concat-append behind (superblock_block p (length image) ∷ tree_of p image)
        ∙ ap (λ b. hash_image p image b) (same_behind sound)
        ∙ ap (λ q. hash_image q image front) runs.stays.params

    unfailed : data_facts.failures left.data_store ≡ data_facts.failures d → hash_facts.failures left.hash_store ≡ hash_facts.failures h
        → (closed.broken ≡ false) × All IsUnfailed runs.added
    unfailed data_same hash_same =
        let a = opens.data_store.later.failures in
        let b = runs.stays.data_store.failures in
        let e = ap (λ x. data_facts.failures x) data_is in
        let a' = opens.hash_store.later.failures in
        let b' = runs.stays.hash_store.failures in
        let e' = ap (λ x. hash_facts.failures x) hash_is in
        runs.unfailed (omega (arith, a, b, e, data_same)) (omega (arith, a', b', e', hash_same)) opens.broken

    pub from_scratch : IsFromScratch data_facts hash_facts d h offset opened.volume.params (take count commands) runs.added left
    from_scratch =
        let flag : leads.state.broken ≡ closed.broken = leads.is_in.broken in
        record {
          state = leads.state;
          after = subst (λ size. After (volume_hashing opened.volume.params) size (take count commands) runs.added begin
              leads.state) (sym opens.fits.block_size) leads.after;
          unfailed = λ data_same hash_same. let u = unfailed data_same hash_same in (flag ∙ u.0, u.1);
          image = λ sound. ap (λ x. data_facts.content x) data_is ∙ image_of (sym flag ∙ sound);
          device = λ sound committed. ap (λ x. concat (hash_facts.content x)) hash_is ∙ whole_device (sym flag ∙ sound) committed
              ∙ ap (λ image. hash_image opened.volume.params image front) (image_of (sym flag ∙ sound));
          root = λ sound. root_is ∙ (stands (sym flag ∙ sound) still_data still_hash).root
              ∙ ap (λ (p : Params). root (volume_hashing p) (data_facts.content closed.data_store)) runs.stays.params
              ∙ ap (λ image. root (volume_hashing opened.volume.params) image) (image_of (sym flag ∙ sound));
          table = if_some left.table _ _ (λ t l. (
            flag ∙ l.0,
            subst (λ x. Holds t (data_facts.tells x) (data_facts.content x) (hash_facts.tells left.hash_store)
                (hash_facts.content left.hash_store) leads.state.edits.committed) (sym data_is)
                (subst (λ x. Holds t (data_facts.tells closed.data_store) (data_facts.content closed.data_store)
                (hash_facts.tells x) (hash_facts.content x) leads.state.edits.committed) (sym hash_is)
                (subst (λ image. Holds t (data_facts.tells closed.data_store) (data_facts.content closed.data_store)
                (hash_facts.tells closed.hash_store) (hash_facts.content closed.hash_store) image) (image_of l.0)
                (holds_closed data_facts hash_facts closed start (fits l.0) (begins ∙ sym first) t l.1 still_data still_hash
                (stands l.0 still_data still_hash)))),
          )) line;
        }

  -- a store that a reply names failed
  named : (which : Which) → Contains runs.added (Refused (Store which)) → HasFailed (data_facts.failures d < data_facts.failures
      left.data_store) (hash_facts.failures h < hash_facts.failures left.hash_store) which
  named which.Data there =
      let a = opens.data_store.later.failures in
      let e = ap (λ x. data_facts.failures x) data_is in
      omega (arith, a, e, runs.named which.Data there)
  named which.Hash there =
      let a = opens.hash_store.later.failures in
      let e = ap (λ x. hash_facts.failures x) hash_is in
      omega (arith, a, e, runs.named which.Hash there)

  -- where no commit was answered, both contents and the root are those that were opened
  uncommitted : list_any is_commit runs.added ≡ false → closed.broken ≡ false → IsUncommitted data_facts hash_facts d h offset opened left
  uncommitted none sound =
      let same : LeavesSame data_facts hash_facts opened closed =
      (chain_leaves_same data_facts hash_facts (take count commands) runs.added opened closed runs.chain none sound).1 in
      record {
        data_content = ap (λ x. data_facts.content x) data_is ∙ same.data_content ∙ opens.data_store.content;
        hash_content = ap (λ x. hash_facts.content x) hash_is ∙ same.hash_content ∙ opens.hash_store.content;
        root = root_is ∙ same.root;
      }

  -- so it was edited
  pub edited_by : OnOk left.done (length runs.added ≡ length commands) → OnErr left.done (length runs.added < length commands)
      → IsEdited data_facts hash_facts d h offset commands old_replies new_replies left
  edited_by all short =
      let unread : data_facts.reads left.data_store ≡ data_facts.reads opened.data_store =
      ap (λ x. data_facts.reads x) data_is ∙ runs.stays.data_reads in
      let behind : opened.first - 1 ≡ offset / hash_facts.size h = (let e = opens.first in omega (arith, e)) in
      record {
        opened = opened;
        closed = closed;
        opens = opens;
        reads = reads;
        added = runs.added;
        replies = runs.replies;
        all = all;
        short = short;
        named = λ which there. named which there;
        chain = subst (λ n. IsChain data_facts hash_facts (take n commands) runs.added opened closed) (sym runs.each) runs.chain;
        stays = runs.stays;
        uncommitted = uncommitted;
        data_store = data_is;
        hash_store = hash_is;
        root = root_is;
        table = if_some left.table _ _ (λ t l. (
          l.0,
          subst (λ s. IsLine data_facts hash_facts closed.data_store closed.hash_store s closed.root closed.volume.params.salt t)
              (begins ∙ sym opens.first) l.1,
        )) line;
        unread = unread;
        data_reads = omega (arith, unread, reads.data_reads);
        stays_front = λ q below. ap (λ x. get_or (hash_facts.content x) q []) hash_is
            ∙ runs.stays.front q (omega (arith, behind, below)) ∙ ap (λ x. get_or x q []) opens.hash_store.content;
        fits = stores_fit;
        scratch = λ data_told hash_told. subst (λ n. IsFromScratch data_facts hash_facts d h offset opened.volume.params
            (take n commands) runs.added left) (sym runs.each) (from_scratch data_told hash_told);
      }
