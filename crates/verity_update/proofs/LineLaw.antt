-- The line of what was committed after an update.
use Rattle.std.proofs.Common.{ℕ, ◌≡◌, ◌⊎◌, List, length, inl, inr, ⊎_elim, sym, ap, ◌∙◌, subst}
use Rattle.std.proofs.lemmas.List.{length-map}
use Rattle.verity_digest.specs.Tree.{root, root_above}
use Rattle.verity_store.specs.declared.store.BlockStore as store
use Rattle.verity_chain.specs.Table.{Table, hashing_of}
use Rattle.verity_chain.specs.Right.{Fits, Clash}
use Rattle.verity_chain.specs.Stores.{hash_given}
use Rattle.verity_edit.specs.declared.command.Committed.{Committed}
use Rattle.verity_edit.specs.Draft.{edits_of, is_changed}
use Rattle.verity_trusted.specs.Line.{CommitsUnder, LineEditing}
use Rattle.verity_trusted.specs.Under.{line_given}
use Rattle.verity_update.specs.Update.{Updates, line_of_new}

pub line_is_of_new : {D H K N : Type 0} (on_data : store.Ghosts D) (hash : store.Ghosts H) (kept : store.Ghosts K) (news : store.Ghosts N)
    (t : Table) (h h' : H) (s s' : N) (old new : LineEditing D K) (committed : Committed)
    → (updated : Updates hash news t h h' s s' (λ image. (edits_of image old.draft).working) (is_changed old.draft))
    → CommitsUnder on_data kept old new committed → old.table ≡ t → (image : List (List ℕ)) → Fits t image
    → (new.table ≡ line_of_new t updated.new)
    ⊎ Clash t (hash_given hash t (length (hash.given h)) h') image
    ⊎ Clash t (line_given kept t (length (kept.given old.hash_store)) new.hash_store) image
line_is_of_new on_data hash kept news t h h' s s' old new committed updated commits is image fits =
    let w : List (List ℕ) = (edits_of image old.draft).working in
    let blocks : List (List ℕ) = updated.new in
    let d : List ℕ → List ℕ = (hashing_of t).digest in
    ⊎_elim
    (λ leaves. ⊎_elim
    (λ next.
    let many : length w ≡ length blocks = sym (length-map w d) ∙ ap length leaves ∙ length-map blocks d in
    let count : old.draft.working ≡ length blocks = sym (ap (λ (x : Table). x.data_blocks) commits.line) ∙ sym next.fits.blocks ∙ many in
    let top : committed.root ≡ root (hashing_of t) blocks = next.root ∙ ap (λ (x : Table). root (hashing_of x) w) is
    ∙ ap (λ digests. root_above (hashing_of t) digests) leaves in
    inl (commits.line ∙ ap (λ (x : Table). record x { data_blocks = old.draft.working; root = committed.root }) is
    ∙ (λ i. record t { data_blocks = count i; root = top i })))
    (λ clash. inr (inr (subst (λ (x : Table). Clash x (line_given kept x (length (kept.given old.hash_store)) new.hash_store) image) is
    clash)))
    (commits.right image (subst (λ x. Fits x image) (sym is) fits)))
    (λ clash. inr (inl clash))
    (updated.updated image fits)
