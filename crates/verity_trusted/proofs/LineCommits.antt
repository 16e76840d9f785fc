-- What a commit under a table line leaves.
use Rattle.std.proofs.Common.{◌≡◌, ℕ, ◌+◌, ◌<◌, ◌≤◌, Bool, true, false, List, [], length, drop, get_or, Option, None, Some, cond}
use Rattle.std.proofs.Common.{ltb, ⊎_elim, inl, inr, refl, sym, ap, ◌∙◌, subst, arith}
use Rattle.std.specs.Prelude.{IfSome, unwrap_or, All, Result, Ok, Err, OnOk, IfErr}
use Rattle.std.proofs.lemmas.Bool.{ltb-true}
use Rattle.std.proofs.lemmas.List.{length-replicate}
use Rattle.std.proofs.lemmas.List.Elements.{All-from_get_or, All-get_or}
use Rattle.verity_digest.specs.Hash.{hashing}
use Rattle.verity_digest.specs.Tree.{root, tree}
use Rattle.verity_profile.specs.Profile.{zero_block}
use Rattle.verity_store.specs.declared.store.BlockStore as store
use Rattle.verity_superblock.specs.Superblock.{Volume}
use Rattle.verity_chain.specs.Table.{Table, hashing_of}
use Rattle.verity_chain.specs.Right.{Fits}
use Rattle.verity_edit.specs.declared.command.Committed.{Committed}
use Rattle.verity_plan.specs.declared.planning.CommitPlan.{CommitPlan}
use Rattle.verity_pending.specs.Draft.{Draft, IsDraft, written_at, edits_of}
use Rattle.verity_plan.specs.Standing.{BeginsWith}
use Rattle.verity_plan.specs.Planning.{volume_hashing, IsPlan, IsRight, ReadsPaths, moves_of}
use Rattle.verity_edit.specs.Committing.{IsCarriedOut}
use Rattle.verity_edit.specs.Editing.{FitsStores, fresh}
use Rattle.verity_pending.specs.declared.fault.EditFault.TheVariants as fault
use Rattle.verity_trusted.specs.declared.under.PlanRefused.{PlanRefused}
use Rattle.verity_trusted.specs.declared.under.PlanRefused.TheVariants.{Untrusted, Fault}
use Rattle.verity_trusted.specs.Under.{ExplainsUncommitted, IsRightUnder, LeavesWhole, fault_under}
use Rattle.verity_trusted.specs.Line.{LineEditing, CommitsUnder, HoldsImage, IsLineOf, IsRefusalUnder, editing_of}
use Rattle.verity_pending.proofs.Drafts.{at_working, length-working}
use Rattle.verity_pending.specs.Touched.{changed_blocks}
use Rattle.verity_pending.proofs.LeafLemmas.{leaf_hashes_most}
use Rattle.verity_edit.proofs.DeviceLemmas.{device_begins, device_bytes}

-- what is true where something is answered
pub at_ok : {X E : Type 0} (r : Result X E) (x : X) (P : Type 0) → r ≡ Ok x → OnOk r P → P
at_ok r x P is h = subst (λ s. OnOk s P) is h

pub at_err : {X E : Type 0} (r : Result X E) (e : E) (P : E → Type 0) → r ≡ Err e → IfErr r P → P e
at_err r e P is h = subst (λ s. IfErr s P) is h

or_sized : (o : Option (List ℕ)) (other : List ℕ) (size : ℕ) → IfSome o (λ block. length block ≡ size) → length other ≡ size
    → length (unwrap_or o other) ≡ size
or_sized None other size some rest = rest
or_sized (Some block) other size some rest = some

cond_sized : (b : Bool) (x y : List ℕ) (size : ℕ) → (b ≡ true → length x ≡ size) → length y ≡ size → length (cond b x y) ≡ size
cond_sized true x y size p q = p refl
cond_sized false x y size p q = q

-- the working image has blocks of one size, where the committed one has
pub working_sized : (image : List (List ℕ)) (d : Draft) → IsDraft d → length image ≡ d.committed
    → All (λ block. length block ≡ d.size) image → All (λ block. length block ≡ d.size) (edits_of image d).working
working_sized image d is count sized =
    All-from_get_or (λ block. length block ≡ d.size) (edits_of image d).working [] (λ n below.
    let inside : n < d.working = rw length-working at below in
    let kept = is.kept in
    subst (λ (block : List ℕ). length block ≡ d.size) (sym (at_working image d n inside))
    (or_sized (written_at d n) (cond (ltb n d.least) (get_or image n []) (zero_block d.size)) d.size (is.sized n)
    (cond_sized (ltb n d.least) (get_or image n []) (zero_block d.size) d.size
    (λ low. let under = ltb-true n d.least low in
    All-get_or (λ block. length block ≡ d.size) image n [] (omega arith) sized)
    (length-replicate d.size 0))))

pub same_hashing : (t : Table) (v : Volume) → IsLineOf t v → hashing_of t ≡ volume_hashing v.params
same_hashing t v line = λ i. hashing (record { algorithm = line.algorithm i; salt = line.salt i }) (line.hash_block_size i)

-- the edited image fits the next line
next_fits : (t : Table) (v : Volume) (d : Draft) (image : List (List ℕ)) (new_root : List ℕ) → IsLineOf t v → IsDraft d
    → v.data_blocks ≡ d.committed → v.params.data_block_size ≡ d.size → Fits t image
    → new_root ≡ root (volume_hashing v.params) (edits_of image d).working
    → Fits (record t { data_blocks = d.working; root = new_root }) (edits_of image d).working
next_fits t v d image new_root line is count size fits named =
    let same : t.data_block_size ≡ d.size = line.data_block_size ∙ size in
    record {
      blocks = length-working image d;
      sized = subst (λ (n : ℕ). All (λ block. length block ≡ n) (edits_of image d).working) (sym same)
          (working_sized image d is (fits.blocks ∙ line.data_blocks ∙ count)
          (subst (λ (n : ℕ). All (λ block. length block ≡ n) image) same fits.sized));
      root = ap (λ h. root h (edits_of image d).working) (same_hashing t v line) ∙ sym named;
    }

module _ {D H A : Type 0} (data_facts : store.Ghosts D) (hash_facts : store.Ghosts H) (old : LineEditing D H) (plan : CommitPlan A)
    (new_data : D) (new_hash : H) (new_hashed new_checks : ℕ) (is : IsDraft old.draft)
    (line : IsLineOf old.table old.volume) (behind : 1 ≤ old.table.hash_start_block)
    (fits : FitsStores data_facts hash_facts (editing_of old))
    (done : IsCarriedOut data_facts hash_facts old.volume old.draft old.table.hash_start_block old.table.root old.data_store new_data
    old.hash_store new_hash)
    (planned : IsPlan old.volume old.draft old.table.hash_start_block old.table.root plan)
    (told : hash_facts.tells old.hash_store ≡ true
    → IsRight old.volume old.draft old.table.hash_start_block old.table.root (hash_facts.content old.hash_store) plan)
    (data_tells : data_facts.tells new_data ≡ data_facts.tells old.data_store)
    (hash_tells : hash_facts.tells new_hash ≡ hash_facts.tells old.hash_store) where
  abbrev image : List (List ℕ)
  image = data_facts.content old.data_store

  abbrev edited : List (List ℕ)
  edited = (edits_of image old.draft).working

  abbrev new_table : Table
  new_table = record old.table { data_blocks = old.draft.working; root = plan.root }

  abbrev new_volume : Volume
  new_volume = record { params = old.volume.params; data_blocks = old.draft.working }

  abbrev after_at : Table → Volume → Draft → LineEditing D H
  after_at t v d = record {
    data_store = new_data;
    hash_store = new_hash;
    table = t;
    volume = v;
    draft = d;
    hashed = new_hashed;
    checks = new_checks;
    broken = false;
  }

  abbrev after : LineEditing D H
  after = after_at new_table new_volume (fresh old.draft.size old.draft.working)

  abbrev made : Committed
  made = record { root = plan.root; hashed = plan.hashed }

  holds_next : HoldsImage data_facts hash_facts old → HoldsImage data_facts hash_facts after
  holds_next holds data_told hash_told =
      let first : ℕ = old.table.hash_start_block in
      let new : List (List ℕ) = hash_facts.content new_hash in
      let before = sym data_tells ∙ data_told in
      let hash_before = sym hash_tells ∙ hash_told in
      let stood = holds before hash_before in
      let device = done.device hash_before stood.tree stood.root in
      let same : data_facts.content new_data ≡ edited = done.image before in
      let within = fits.within in
      let there : first ≤ length (hash_facts.content old.hash_store) = omega arith in
      let begins : BeginsWith (drop first new) (tree (volume_hashing old.volume.params) edited) =
      device_begins old.volume.params edited (hash_facts.content old.hash_store) new first behind there device in
      record {
        tree = subst (λ (xs : List (List ℕ)). BeginsWith (drop first new) (tree (volume_hashing old.volume.params) xs)) (sym same) begins;
        root = (told hash_before image fits.committed stood.tree stood.root).1
            ∙ ap (root (volume_hashing old.volume.params)) (sym same);
      }

  module _ (sound : old.broken ≡ false)
      (right : IsRightUnder hash_facts old.table (length (hash_facts.given old.hash_store)) new_hash old.volume old.draft
      old.table.hash_start_block plan)
      (data_unfailed : data_facts.failures new_data ≡ data_facts.failures old.data_store)
      (hash_unfailed : hash_facts.failures new_hash ≡ hash_facts.failures old.hash_store)
      (counts : new_hashed ≡ old.hashed + plan.hashed)
      (reads : old.draft.working ≡ old.draft.committed
      → ReadsPaths old.volume old.draft 0 (hash_facts.reads old.hash_store) (hash_facts.reads new_hash))
      (moved_reads : ReadsPaths old.volume old.draft (moves_of old.volume old.draft) (hash_facts.reads old.hash_store)
      (hash_facts.reads new_hash)) (checks : ReadsPaths old.volume old.draft 0 0 new_checks)
      (checks_each : hash_facts.reads new_hash ≤ hash_facts.reads old.hash_store + new_checks + moves_of old.volume old.draft) where
    commits_next : CommitsUnder data_facts hash_facts old after made
    commits_next = record {
      whole = sound;
      sound = refl;
      right = λ other fit. ⊎_elim (λ plans. inl (record {
        root = plans.1 ∙ ap (λ h. root h (edits_of other old.draft).working) (sym (same_hashing old.table old.volume line));
        fits = next_fits old.table old.volume old.draft other plan.root line is fits.blocks fits.block_size fit plans.1;
      })) inr (right other fit);
      line = refl;
      image = λ tells. done.image tells;
      draft = refl;
      volume = refl;
      counted = counts;
      bounded = (let most = planned.hashed image fits.committed in
          let few = leaf_hashes_most old.draft.written (changed_blocks (edits_of image old.draft)) in omega arith);
      reads = λ stays. (let most = reads stays image fits.committed in omega arith);
      moved_reads = moved_reads image fits.committed;
      checks = (let most = checks image fits.committed in omega arith);
      checks_each = checks_each;
      once = planned.hashed image fits.committed;
      data_unfailed = data_unfailed;
      hash_unfailed = hash_unfailed;
      data_synced = done.data_synced;
      hash_synced = done.hash_synced;
      commits = λ holds. record {
        whole = sound;
        sound = refl;
        image = λ tells. done.image tells;
        device = λ tells hash_told. let stood = holds tells hash_told in done.device hash_told stood.tree stood.root;
        bytes = λ tells hash_told.
            let stood = holds tells hash_told in
            device_bytes old.volume.params edited (hash_facts.content old.hash_store) (hash_facts.content new_hash)
            old.table.hash_start_block (done.device hash_told stood.tree stood.root);
        root = λ tells hash_told. let stood = holds tells hash_told in
            (told hash_told image fits.committed stood.tree stood.root).1;
        kept_root = refl;
        draft = refl;
        count = refl;
        counted = counts;
        bounded = (let most = planned.hashed image fits.committed in
            let few = leaf_hashes_most old.draft.written (changed_blocks (edits_of image old.draft)) in omega arith);
        once = planned.hashed image fits.committed;
        data_unfailed = data_unfailed;
        hash_unfailed = hash_unfailed;
        data_synced = done.data_synced;
        hash_synced = done.hash_synced;
      };
      holds = holds_next;
    }

    -- the record of a commit, in the words of its parts
    pub commits_under : (next : Table) (draft : Draft) → next ≡ new_table → draft ≡ fresh old.draft.size old.draft.working
        → CommitsUnder data_facts hash_facts old (after_at next plan.superblock draft) made
    commits_under next draft next_is settled =
        subst (λ (t : Table). CommitsUnder data_facts hash_facts old (after_at t plan.superblock draft) made) (sym next_is)
        (subst (λ (v : Volume). CommitsUnder data_facts hash_facts old (after_at new_table v draft) made) (sym planned.superblock)
        (subst (λ (d : Draft). CommitsUnder data_facts hash_facts old (after_at new_table new_volume d) made) (sym settled)
        commits_next))

  -- the line is that of the new superblock
  pub line_next : (next : Table) → next ≡ new_table → IsLineOf next plan.superblock
  line_next next next_is =
      subst (λ (t : Table). IsLineOf t plan.superblock) (sym next_is)
      (subst (λ (v : Volume). IsLineOf new_table v) (sym planned.superblock) (record {
        algorithm = line.algorithm;
        data_block_size = line.data_block_size;
        hash_block_size = line.hash_block_size;
        salt = line.salt;
        data_blocks = refl;
        start = refl;
        root = refl;
      }))

  -- and the stores are its
  pub fits_next : (next : Table) (draft : Draft) → next ≡ new_table → draft ≡ fresh old.draft.size old.draft.working
      → data_facts.size new_data ≡ data_facts.size old.data_store → hash_facts.size new_hash ≡ hash_facts.size old.hash_store
      → FitsStores data_facts hash_facts (editing_of (after_at next plan.superblock draft))
  fits_next next draft next_is settled data_size hash_size =
      subst (λ (t : Table). FitsStores data_facts hash_facts (editing_of (after_at t plan.superblock draft))) (sym next_is)
      (subst (λ (v : Volume). FitsStores data_facts hash_facts (editing_of (after_at new_table v draft))) (sym planned.superblock)
      (subst (λ (d : Draft). FitsStores data_facts hash_facts (editing_of (after_at new_table new_volume d))) (sym settled) (record {
        committed = done.len;
        blocks = refl;
        data_size = data_size ∙ fits.data_size;
        block_size = fits.block_size;
        hash_size = hash_size ∙ fits.hash_size;
        within = (let len = done.hash_len in omega arith);
        root_size = planned.root_size;
      })))

-- why a commit is refused, in the words of its parts
pub refused_under : {D H : Type 0} (data_facts : store.Ghosts D) (hash_facts : store.Ghosts H) (old new : LineEditing D H)
    (why : PlanRefused) → old.broken ≡ false
    → ExplainsUncommitted data_facts hash_facts old.table (length (hash_facts.given old.hash_store)) old.data_store new.data_store
    old.hash_store new.hash_store why
    → LeavesWhole new.broken why → IsRefusalUnder data_facts hash_facts old new (fault_under why)
refused_under data_facts hash_facts old new (Untrusted level index) sound why whole = (
  sound,
  whole,
  record {
    wrong = why.0;
    data_unfailed = why.1;
  },
)
refused_under data_facts hash_facts old new (Fault fault.NoMemory) sound why whole = (sound, whole, why.0, why.1)
refused_under data_facts hash_facts old new (Fault (fault.Store w)) sound why whole = (sound, why)
refused_under data_facts hash_facts old new (Fault fault.OutOfRange) sound why whole = absurd why
refused_under data_facts hash_facts old new (Fault fault.WrongLength) sound why whole = absurd why
refused_under data_facts hash_facts old new (Fault fault.TooSmall) sound why whole = absurd why
refused_under data_facts hash_facts old new (Fault fault.TooLarge) sound why whole = absurd why
refused_under data_facts hash_facts old new (Fault fault.Broken) sound why whole = absurd why
refused_under data_facts hash_facts old new (Fault (fault.Mismatch l i)) sound why whole = absurd why
refused_under data_facts hash_facts old new (Fault (fault.Superblock f)) sound why whole = absurd why
refused_under data_facts hash_facts old new (Fault fault.DataLength) sound why whole = absurd why
refused_under data_facts hash_facts old new (Fault (fault.StoreSize w)) sound why whole = absurd why
refused_under data_facts hash_facts old new (Fault fault.Offset) sound why whole = absurd why
refused_under data_facts hash_facts old new (Fault fault.Line) sound why whole = absurd why
refused_under data_facts hash_facts old new (Fault (fault.Untrusted l i)) sound why whole = absurd why
