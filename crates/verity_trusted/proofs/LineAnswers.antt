-- What the answers to commands under a table line say.
use Rattle.std.proofs.Common.{◌≡◌, ℕ, ◌^◌, Bool, true, false, List, length, Option, Some, None, cond, leb, ltb, eqb, ◌&&◌}
use Rattle.std.proofs.Common.{⊎_elim, ◌⊎◌, refl, sym, ap, ◌∙◌, subst}
use Rattle.std.specs.Prelude.{Result, Ok, Err, OnOk, OnErr, IfErr, IsOk, ◌↔◌}
use Rattle.std.proofs.lemmas.Bool.{cases_Bool, true≢false}
use Rattle.verity_store.specs.declared.store.BlockStore as store
use Rattle.verity_edit.specs.declared.command.Command.{Command}
use Rattle.verity_edit.specs.declared.command.Command.TheVariants.{Write, Grow, Shrink, Discard, Commit}
use Rattle.verity_edit.specs.declared.command.Committed.{Committed}
use Rattle.verity_edit.specs.declared.command.Reply.TheVariants.{Done, Refused, Committed as CommittedReply}
use Rattle.verity_pending.specs.declared.fault.EditFault.{EditFault}
use Rattle.verity_pending.specs.declared.fault.EditFault.TheVariants.{OutOfRange, WrongLength, TooSmall, TooLarge, NoMemory, Store}
use Rattle.verity_pending.specs.declared.fault.EditFault.TheVariants.{Broken, Mismatch, Superblock, DataLength, StoreSize, Offset}
use Rattle.verity_pending.specs.declared.fault.EditFault.TheVariants.{Line, Untrusted}
use Rattle.verity_edit.specs.After.{step, rule, TakesMemory}
use Rattle.verity_pending.specs.Draft.{Draft, edits_of}
use Rattle.verity_edit.specs.Committing.{RefusesEdit}
use Rattle.verity_edit.specs.Editing.{Editing, IsUnchanged, Stays, fresh}
use Rattle.verity_edit.specs.Running.{IsEdit, reply_to}
use Rattle.verity_trusted.specs.Line.{LineEditing, CommitsUnder, ExplainsRefusalUnder, IsAnsweredUnder, IsRefusalUnder, editing_of}
use Rattle.verity_pending.proofs.Drafts.{edits_fresh}
use Rattle.verity_pending.proofs.Frames.{stays_same}
use Rattle.verity_edit.proofs.AnswerLemmas.{at_true, from_true}

-- the faults of the rules of edits
abbrev IsRuleFault : EditFault → Type 0
IsRuleFault OutOfRange = Unit {0}
IsRuleFault WrongLength = Unit {0}
IsRuleFault TooSmall = Unit {0}
IsRuleFault TooLarge = Unit {0}
IsRuleFault _ = ⊥

cond_rule : (b : Bool) (x y : Option EditFault) (fault : EditFault) → ((x ≡ Some fault) → IsRuleFault fault)
    → ((y ≡ Some fault) → IsRuleFault fault) → cond b x y ≡ Some fault → IsRuleFault fault
cond_rule true x y fault f g e = f e
cond_rule false x y fault f g e = g e

one_rule : (own fault : EditFault) → IsRuleFault own → Some own ≡ Some fault → IsRuleFault fault
one_rule own fault free e = let same : own ≡ fault = cc in subst IsRuleFault same free

no_rule : (fault : EditFault) → None ≡ Some fault → IsRuleFault fault
no_rule fault e = let z : ⊥ = cc in absurd z

rule_fault : {A : Type 0} (size count : ℕ) (command : Command A) (fault : EditFault) → rule size count command ≡ Some fault
    → IsRuleFault fault
rule_fault size count (Write n block) fault e =
    cond_rule (leb count n) (Some OutOfRange) (cond (eqb (length block) size) None (Some WrongLength)) fault
    (one_rule OutOfRange fault tt)
    (cond_rule (eqb (length block) size) None (Some WrongLength) fault (no_rule fault) (one_rule WrongLength fault tt)) e
rule_fault size count (Grow new) fault e = cond_rule (ltb count new && leb new (2 ^ 40)) None (Some TooLarge) fault
    (no_rule fault) (one_rule TooLarge fault tt) e
rule_fault size count (Shrink new) fault e = cond_rule (ltb 0 new && ltb new count) None (Some TooSmall) fault (no_rule fault)
    (one_rule TooSmall fault tt) e
rule_fault size count Discard fault e = no_rule fault e
rule_fault size count Commit fault e = no_rule fault e

no_edit : {A : Type 0} (command : Command A) → command ≡ Commit → IsEdit command → ⊥
no_edit {A = A} command is edit = let one : Command A = Commit in let no : IsEdit one = subst (λ (c : Command A). IsEdit c) is edit in no

takes_commit : {A : Type 0} (command : Command A) → command ≡ Commit → TakesMemory command
takes_commit {A = A} command is = let one : Command A = Commit in
    subst (λ (c : Command A). TakesMemory c) (sym is) (let t : TakesMemory one = tt in t)

stays_draft : {D H : Type 0} (stored : store.Ghosts D) (hashes : store.Ghosts H) (old : Editing D H) (d : Draft) →
    d.size ≡ old.draft.size → Stays stored hashes old (record old { draft = d })
stays_draft stored hashes old d size = record {
  params = refl;
  first = refl;
  size = size;
  data_reads = refl;
  data_store = stays_same stored old.data_store;
  hash_store = stays_same hashes old.hash_store;
  front = λ q below. refl;
  broken = λ whole broken. absurd (true≢false (sym broken ∙ whole));
}

explains_ruled : {D H A : Type 0} (stored : store.Ghosts D) (hashes : store.Ghosts H) (command : Command A) (old : LineEditing D H)
    (fault : EditFault) → IsRuleFault fault → old.broken ≡ false → rule old.draft.size old.draft.working command ≡ Some fault
    → ExplainsRefusalUnder stored hashes command old old fault
explains_ruled stored hashes command old OutOfRange own sound why = record { sound = sound; rule = why; same = refl }
explains_ruled stored hashes command old WrongLength own sound why = record { sound = sound; rule = why; same = refl }
explains_ruled stored hashes command old TooSmall own sound why = record { sound = sound; rule = why; same = refl }
explains_ruled stored hashes command old TooLarge own sound why = record { sound = sound; rule = why; same = refl }
explains_ruled stored hashes command old NoMemory own sound why = absurd own
explains_ruled stored hashes command old (Store w) own sound why = absurd own
explains_ruled stored hashes command old Broken own sound why = absurd own
explains_ruled stored hashes command old (Mismatch l i) own sound why = absurd own
explains_ruled stored hashes command old (Superblock f) own sound why = absurd own
explains_ruled stored hashes command old DataLength own sound why = absurd own
explains_ruled stored hashes command old (StoreSize w) own sound why = absurd own
explains_ruled stored hashes command old Offset own sound why = absurd own
explains_ruled stored hashes command old Line own sound why = absurd own
explains_ruled stored hashes command old (Untrusted level index) own sound why = absurd own

from_false : (b : Bool) (fault : EditFault) (refusal : Option EditFault) → b ≡ false → RefusesEdit b refusal fault → refusal ≡ Some fault
from_false b fault refusal e why = subst (λ (x : Bool). RefusesEdit x refusal fault) e why

explains_refused : {D H A : Type 0} (stored : store.Ghosts D) (hashes : store.Ghosts H) (command : Command A) (old : LineEditing D H)
    (fault : EditFault) → RefusesEdit old.broken (rule old.draft.size old.draft.working command) fault
    → ExplainsRefusalUnder stored hashes command old old fault
explains_refused stored hashes command old fault why =
    ⊎_elim
    (λ broken.
    let is : fault ≡ Broken = from_true old.broken (fault ≡ Broken) (rule old.draft.size old.draft.working command ≡ Some fault)
    broken why in
    subst (λ (f : EditFault). ExplainsRefusalUnder stored hashes command old old f) (sym is) (broken, refl))
    (λ sound.
    let is : rule old.draft.size old.draft.working command ≡ Some fault =
    from_false old.broken fault (rule old.draft.size old.draft.working command) sound why in
    explains_ruled stored hashes command old fault (rule_fault old.draft.size old.draft.working command fault is) sound is)
    (cases_Bool old.broken)

refused_same : {D H A : Type 0} (stored : store.Ghosts D) (hashes : store.Ghosts H) (command : Command A) (old : LineEditing D H)
    (fault : EditFault) → ExplainsRefusalUnder stored hashes command old old fault
    → IsAnsweredUnder stored hashes command old old (Refused fault)
refused_same stored hashes command old fault why = record {
  explained = why;
  only = λ _. refl;
  line = refl;
  stays = stays_draft stored hashes (editing_of old) old.draft refl;
}

-- an edit was answered
pub edited_under : {D H A : Type 0} (stored : store.Ghosts D) (hashes : store.Ghosts H) (command : Command A)
    (old new : LineEditing D H) (r : Result (Unit {0}) EditFault)
    → OnOk r ((image : List (List ℕ)) → length image ≡ old.draft.committed
    → edits_of image new.draft ≡ step old.draft.size command (edits_of image old.draft))
    → OnOk r ((old.broken ≡ false) × (rule old.draft.size old.draft.working command ≡ None))
    → IfErr r (λ fault. RefusesEdit old.broken (rule old.draft.size old.draft.working command) fault ⊎
    (TakesMemory command × (old.broken ≡ false) × (rule old.draft.size old.draft.working command ≡ None) × (fault ≡ NoMemory)))
    → OnErr r (new ≡ old) → new ≡ record old { draft = new.draft } → new.draft.size ≡ old.draft.size → IsEdit command
    → IsAnsweredUnder stored hashes command old new (reply_to r)
edited_under stored hashes command old new (Ok x) made passed refused unchanged only size edit = record {
  explained = record { sound = passed.0; passed = passed.1; edit = edit; edits = made };
  only = λ _. only;
  line = tt;
  stays = subst (λ e. Stays stored hashes (editing_of old) (editing_of e)) (sym only)
      (stays_draft stored hashes (editing_of old) new.draft size);
}
edited_under stored hashes command old new (Err fault) made passed refused unchanged only size edit =
    subst (λ e. IsAnsweredUnder stored hashes command old e (Refused fault)) (sym unchanged)
    (⊎_elim
    (λ why. refused_same stored hashes command old fault (explains_refused stored hashes command old fault why))
    (λ why. subst (λ (f : EditFault). IsAnsweredUnder stored hashes command old old (Refused f)) (sym why.3)
    (refused_same stored hashes command old NoMemory (record {
      sound = why.1;
      takes = why.0;
      passed = why.2;
      data_unfailed = refl;
      hash_unfailed = refl;
      unchanged = record {
        data_content = refl;
        hash_content = refl;
        volume = refl;
        first = refl;
        root = refl;
        draft = refl;
        broken = refl;
      };
    })))
    refused)

-- the edits were dropped
pub discarded_under : {D H A : Type 0} (stored : store.Ghosts D) (hashes : store.Ghosts H) (command : Command A)
    (old new : LineEditing D H) (r : Result (Unit {0}) EditFault) → command ≡ Discard
    → OnOk r (new ≡ record old { draft = fresh old.draft.size old.draft.committed }) → IsOk r ↔ (old.broken ≡ false)
    → IfErr r (λ fault. fault ≡ Broken) → OnErr r (new ≡ old) → IsAnsweredUnder stored hashes command old new (reply_to r)
discarded_under {A = A} stored hashes command old new (Ok x) is made ok refused unchanged =
    let one : Command A = Discard in
    let sound = ok.0 refl in
    subst (λ e. IsAnsweredUnder stored hashes command old e Done) (sym made)
    (subst (λ (c : Command A). IsAnsweredUnder stored hashes c old (record old { draft = fresh old.draft.size old.draft.committed })
    Done) (sym is) (record {
      explained = record {
        sound = sound;
        passed = refl;
        edit = tt;
        edits = λ image count. edits_fresh image old.draft.size old.draft.committed count;
      };
      only = λ _. refl;
      line = tt;
      stays = stays_draft stored hashes (editing_of old) (fresh old.draft.size old.draft.committed) refl;
    }))
discarded_under stored hashes command old new (Err fault) is made ok refused unchanged =
    let broken : old.broken ≡ true = ⊎_elim (λ b. b) (λ sound. let no : false ≡ true = ok.1 sound in absurd (true≢false (sym no)))
    (cases_Bool old.broken) in
    subst (λ e. IsAnsweredUnder stored hashes command old e (Refused fault)) (sym unchanged)
    (refused_same stored hashes command old fault (explains_refused stored hashes command old fault
    (at_true old.broken (fault ≡ Broken) (rule old.draft.size old.draft.working command ≡ Some fault) broken refused)))

-- the pending edits were committed
pub committed_under : {D H A : Type 0} (stored : store.Ghosts D) (hashes : store.Ghosts H) (command : Command A)
    (old new : LineEditing D H) (committed : Committed) → command ≡ Commit → CommitsUnder stored hashes old new committed
    → Stays stored hashes (editing_of old) (editing_of new) → IsAnsweredUnder stored hashes command old new (CommittedReply committed)
committed_under stored hashes command old new committed is made stays = record {
  explained = (is, made);
  only = λ edit. absurd (no_edit command is edit);
  line = tt;
  stays = stays;
}

explains_uncommitted : {D H A : Type 0} (stored : store.Ghosts D) (hashes : store.Ghosts H) (command : Command A)
    (old new : LineEditing D H) (fault : EditFault) → command ≡ Commit → IsRefusalUnder stored hashes old new fault
    → (old.broken ≡ true → new ≡ old)
    → (new.broken ≡ old.broken → IsUnchanged stored hashes (editing_of old) (editing_of new))
    → ExplainsRefusalUnder stored hashes command old new fault
explains_uncommitted stored hashes command old new Broken is why still unchanged = (why, still why)
explains_uncommitted stored hashes command old new NoMemory is why still unchanged = record {
  sound = why.0;
  takes = takes_commit command is;
  passed = ap (rule old.draft.size old.draft.working) is;
  data_unfailed = why.2;
  hash_unfailed = why.3;
  unchanged = unchanged (why.1 ∙ sym why.0);
}
explains_uncommitted stored hashes command old new (Store w) is why still unchanged = record {
  sound = why.0;
  commit = is;
  failed = why.1;
  unchanged = λ sound. unchanged (sound ∙ sym why.0);
}
explains_uncommitted stored hashes command old new (Untrusted level index) is why still unchanged = record {
  sound = why.0;
  commit = is;
  untrusted = why.2;
  unchanged = unchanged (why.1 ∙ sym why.0);
}
explains_uncommitted stored hashes command old new OutOfRange is why still unchanged = absurd why
explains_uncommitted stored hashes command old new WrongLength is why still unchanged = absurd why
explains_uncommitted stored hashes command old new TooSmall is why still unchanged = absurd why
explains_uncommitted stored hashes command old new TooLarge is why still unchanged = absurd why
explains_uncommitted stored hashes command old new (Mismatch l i) is why still unchanged = absurd why
explains_uncommitted stored hashes command old new (Superblock f) is why still unchanged = absurd why
explains_uncommitted stored hashes command old new DataLength is why still unchanged = absurd why
explains_uncommitted stored hashes command old new (StoreSize w) is why still unchanged = absurd why
explains_uncommitted stored hashes command old new Offset is why still unchanged = absurd why
explains_uncommitted stored hashes command old new Line is why still unchanged = absurd why

-- a commit was refused
pub uncommitted_under : {D H A : Type 0} (stored : store.Ghosts D) (hashes : store.Ghosts H) (command : Command A)
    (old new : LineEditing D H) (fault : EditFault) → command ≡ Commit → IsRefusalUnder stored hashes old new fault
    → (old.broken ≡ true → new ≡ old)
    → (new.broken ≡ old.broken → IsUnchanged stored hashes (editing_of old) (editing_of new)) → new.table ≡ old.table
    → Stays stored hashes (editing_of old) (editing_of new) → IsAnsweredUnder stored hashes command old new (Refused fault)
uncommitted_under stored hashes command old new fault is why still unchanged same stays = record {
  explained = explains_uncommitted stored hashes command old new fault is why still unchanged;
  only = λ edit. absurd (no_edit command is edit);
  line = same;
  stays = stays;
}
