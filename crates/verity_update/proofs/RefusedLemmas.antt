-- Why an update is refused.
use Rattle.std.proofs.Common.{ℕ, ◌<◌, ◌≡◌, Bool, List, [], length, get_or, Result, Ok, Err, IfErr, sym, subst, inl, inr, ⊎_elim, arith}
use Rattle.verity_store.specs.Stores.{IsOnlyRead}
use Rattle.verity_store.specs.declared.store.BlockStore as store
use Rattle.verity_chain.specs.Table.{Table}
use Rattle.verity_chain.specs.Chain.{Given}
use Rattle.verity_chain.specs.Notes.{ExplainsUnread}
use Rattle.verity_chain.specs.Stores.{hash_given}
use Rattle.verity_chain.specs.declared.notes.ReadRefused.{ReadRefused}
use Rattle.verity_chain.specs.declared.notes.ReadRefused.TheVariants as read
use Rattle.verity_chain.proofs.ChainLemmas.{Gave-grows, hash_given-grows}
use Rattle.verity_update.specs.declared.edited.Edited as editor
use Rattle.verity_update.specs.declared.fault.UpdateFault.{UpdateFault}
use Rattle.verity_update.specs.declared.fault.UpdateFault.TheVariants.{New, Edit}
use Rattle.verity_update.specs.Walk.{TakesTo}
use Rattle.verity_update.specs.Refused.{CanBegin, ExplainsRefused, ExplainsUntaken, HasTaken, StopsAt, fault_of}
use Rattle.verity_update.proofs.WalkLemmas.{clash_grows}

-- a read that was refused
pub unread_untaken : (t : Table) (given : Given) (size bytes old new new_old new_new : ℕ) (why : ReadRefused) → new_new ≡ new_old
    → ((why ≡ read.Store → ⊥) → new ≡ old) → ExplainsUnread t given (old < new) why
    → ExplainsUntaken t given size bytes old new new_old new_new (fault_of why)
unread_untaken t given size bytes old new new_old new_new (read.Mismatch level index) unfailed none is =
    (none (λ e. cc), unfailed, is.0, is.1, is.2)
unread_untaken t given size bytes old new new_old new_new read.Store unfailed none is = (is, unfailed)
unread_untaken t given size bytes old new new_old new_new read.NoMemory unfailed none is = (none (λ e. cc), unfailed)

-- the same, counted from earlier on
pub untaken_since : (t : Table) (given : Given) (size size' bytes bytes' old old' new new_old new_old' new_new : ℕ) (fault : UpdateFault)
    → size ≡ size' → bytes ≡ bytes' → old ≡ old' → new_old ≡ new_old' → ExplainsUntaken t given size bytes old new new_old new_new fault
    → ExplainsUntaken t given size' bytes' old' new new_old' new_new fault
untaken_since t given size size' bytes bytes' old old' new new_old new_old' new_new fault a b c d is =
    subst (λ m. ExplainsUntaken t given m bytes' old' new new_old' new_new fault) a
    (subst (λ m. ExplainsUntaken t given size m old' new new_old' new_new fault) b
    (subst (λ m. ExplainsUntaken t given size bytes m new new_old' new_new fault) c
    (subst (λ m. ExplainsUntaken t given size bytes old new m new_new fault) d is)))

-- the blocks that were taken until then
pub has_taken : {E H N : Type 0} (edits : editor.Ghosts E) (hash : store.Ghosts H) (news : store.Ghosts N) (t : Table) (mark : ℕ)
    (mid h' : H) (s s' s'' : N) (e e' : E) (n : ℕ) (old : List (List ℕ) → List (List ℕ)) (old_changed new_changed : ℕ → Bool)
    → IsOnlyRead hash mid h' → IsOnlyRead news s' s'' → e' ≡ e
    → TakesTo news t (hash_given hash t mark mid) s s' n old (edits.working e) old_changed new_changed
    → HasTaken edits hash news t mark h' s s'' e' n
has_taken edits hash news t mark mid h' s s' s'' e e' n old old_changed new_changed read read_new same p =
    subst (λ x. HasTaken edits hash news t mark h' s s'' x n) (sym same) (record {
      blocks = p.seen;
      all = p.all;
      gave = λ i below. Gave-grows news (length (news.given s)) s' s'' read_new i (get_or p.seen i []) (p.gave i below);
      taken = λ image fits. ⊎_elim (λ to. inl (λ i below. to.here i (omega (arith, p.all))))
          (λ clash. inr (clash_grows t image (hash_given hash t mark mid) (hash_given hash t mark h')
          (hash_given-grows hash t mark mid h' read) clash))
          (p.taken image fits);
    })

-- the same stop, of an editor that has blocks of the same size
pub stops_from : {E H N : Type 0} (edits : editor.Ghosts E) (hash : store.Ghosts H) (news : store.Ghosts N) (t : Table) (mark mark' : ℕ)
    (h h' : H) (s s' : N) (e e' e'' : E) (fault : UpdateFault) (n : ℕ) → mark ≡ mark' → edits.size e ≡ edits.size e'
    → StopsAt edits hash news t mark h h' s s' e e'' fault n → StopsAt edits hash news t mark' h h' s s' e' e'' fault n
stops_from edits hash news t mark mark' h h' s s' e e' e'' fault n same size p =
    subst (λ m. StopsAt edits hash news t m h h' s s' e' e'' fault n) same (record {
      within = p.within;
      reads = p.reads;
      count = p.count;
      taken = p.taken;
      why = subst (λ k. ExplainsUntaken t (hash_given hash t mark h') k t.data_block_size (hash.failures h) (hash.failures h')
          (news.failures s) (news.failures s') fault) size p.why;
    })

-- it was refused on the way
pub refused_later : {E H N : Type 0} (edits : editor.Ghosts E) (hash : store.Ghosts H) (news : store.Ghosts N) (t : Table) (h h' : H)
    (s s' : N) (e e' : E) (f : UpdateFault) → CanBegin edits hash news t h s e → (n : ℕ)
    → StopsAt edits hash news t (length (hash.given h)) h h' s s' e e' f n → ExplainsRefused edits hash news t h h' s s' e e' f
refused_later edits hash news t h h' s s' e e' New begun n stop = (begun, (n, stop))
refused_later edits hash news t h h' s s' e e' (Edit fault) begun n stop = inr (begun, (n, stop))

-- what follows where a call is refused
pub err_weaker : {T E : Type 0} {P Q : E → Type 0} (r : Result T E) → ((e : E) → P e → Q e) → IfErr r P → IfErr r Q
err_weaker (Ok x) f p = tt
err_weaker (Err e) f p = f e p
