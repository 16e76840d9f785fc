-- Commands of which no commit was answered leave what both stores hold, over any stores.
use Rattle.std.proofs.Common.{◌≡◌, Bool, true, false, ◌||◌, List, [], ◌∷◌, refl, sym, ap, ◌∙◌}
use Rattle.std.specs.List.{list_any}
use Rattle.std.proofs.lemmas.Bool.{true≢false}
use Rattle.verity_store.specs.declared.store.BlockStore as store
use Rattle.verity_edit.specs.declared.command.Command.{Command}
use Rattle.verity_edit.specs.declared.command.Reply.{Reply}
use Rattle.verity_edit.specs.declared.command.Reply.TheVariants.{Done, Committed, Refused}
use Rattle.verity_pending.specs.declared.fault.EditFault.{EditFault}
use Rattle.verity_pending.specs.declared.fault.EditFault.TheVariants as fault
use Rattle.verity_edit.specs.Editing.{Editing, IsUnchanged}
use Rattle.verity_edit.specs.Running.{ExplainsRefusal, IsAnswered, IsChain, is_commit}

none_left : (a b : Bool) → (a || b) ≡ false → a ≡ false
none_left true b none = none
none_left false b none = refl

none_right : (a b : Bool) → (a || b) ≡ false → b ≡ false
none_right true b none = absurd (true≢false none)
none_right false b none = none

module _ {D H : Type 0} (on_data : store.Ghosts D) (on_hash : store.Ghosts H) where
  -- both contents and the root
  pub record LeavesSame (old new : Editing D H) : Type 0 where
    pub data_content : on_data.content new.data_store ≡ on_data.content old.data_store
    pub hash_content : on_hash.content new.hash_store ≡ on_hash.content old.hash_store
    pub root : new.root ≡ old.root

  same_by : (old new : Editing D H) → IsUnchanged on_data on_hash old new → LeavesSame old new
  same_by old new is = record { data_content = is.data_content; hash_content = is.hash_content; root = is.root }

  same_as : (old new : Editing D H) → new ≡ old → LeavesSame old new
  same_as old new is = record {
    data_content = ap (λ e. on_data.content e.data_store) is;
    hash_content = ap (λ e. on_hash.content e.hash_store) is;
    root = ap (λ e. e.root) is;
  }

  refused_leaves_same : {A : Type 0} (command : Command A) (old new : Editing D H) (f : EditFault)
      → ExplainsRefusal on_data on_hash command old new f → new.broken ≡ false → (old.broken ≡ false) × LeavesSame old new
  refused_leaves_same command old new fault.OutOfRange why sound = (why.sound, same_as old new why.same)
  refused_leaves_same command old new fault.WrongLength why sound = (why.sound, same_as old new why.same)
  refused_leaves_same command old new fault.TooSmall why sound = (why.sound, same_as old new why.same)
  refused_leaves_same command old new fault.TooLarge why sound = (why.sound, same_as old new why.same)
  refused_leaves_same command old new fault.NoMemory why sound = (why.sound, same_by old new why.unchanged)
  refused_leaves_same command old new (fault.Store which) why sound = (why.sound, same_by old new (why.unchanged sound))
  refused_leaves_same command old new fault.Broken why sound = absurd (true≢false (sym why.0 ∙ ap (λ e. e.broken) (sym why.1) ∙ sound))
  refused_leaves_same command old new (fault.Mismatch level index) why sound = (why.sound, same_as old new why.same)
  refused_leaves_same command old new (fault.Superblock super) why sound = (why.sound, same_as old new why.same)
  refused_leaves_same command old new fault.DataLength why sound = (why.sound, same_as old new why.same)
  refused_leaves_same command old new (fault.StoreSize which) why sound = (why.sound, same_as old new why.same)
  refused_leaves_same command old new fault.Offset why sound = (why.sound, same_as old new why.same)
  refused_leaves_same command old new fault.Line why sound = (why.sound, same_as old new why.same)
  refused_leaves_same command old new (fault.Untrusted level index) why sound = (why.sound, same_as old new why.same)

  answer_leaves_same : {A : Type 0} (command : Command A) (old new : Editing D H) (reply : Reply)
      → IsAnswered on_data on_hash command old new reply → is_commit reply ≡ false → new.broken ≡ false
      → (old.broken ≡ false) × LeavesSame old new
  answer_leaves_same command old new Done one none sound =
      let made = one.explained in
      let only : new ≡ record old { draft = new.draft } = one.only made.edit in (
        made.sound,
        record {
          data_content = ap (λ e. on_data.content e.data_store) only;
          hash_content = ap (λ e. on_hash.content e.hash_store) only;
          root = ap (λ e. e.root) only;
        },
      )
  answer_leaves_same command old new (Committed committed) one none sound = absurd (true≢false none)
  answer_leaves_same command old new (Refused f) one none sound = refused_leaves_same command old new f one.explained sound

  pub chain_leaves_same : {A : Type 0} (commands : List (Command A)) (replies : List Reply) (old new : Editing D H)
      → IsChain on_data on_hash commands replies old new → list_any is_commit replies ≡ false → new.broken ≡ false
      → (old.broken ≡ false) × LeavesSame old new
  chain_leaves_same [] [] old new chain none sound = (ap (λ e. e.broken) (sym chain) ∙ sound, same_as old new chain)
  chain_leaves_same [] (reply ∷ replies) old new chain none sound = absurd chain
  chain_leaves_same (command ∷ commands) [] old new chain none sound = absurd chain
  chain_leaves_same (command ∷ commands) (reply ∷ replies) old new chain none sound =
      let now : Editing D H = chain.0 in
      let later = chain_leaves_same commands replies now new chain.2
      (none_right (is_commit reply) (list_any is_commit replies) none) sound in
      let first = answer_leaves_same command old now reply chain.1
      (none_left (is_commit reply) (list_any is_commit replies) none) later.0 in (
        first.0,
        record {
          data_content = later.1.data_content ∙ first.1.data_content;
          hash_content = later.1.hash_content ∙ first.1.hash_content;
          root = later.1.root ∙ first.1.root;
        },
      )
