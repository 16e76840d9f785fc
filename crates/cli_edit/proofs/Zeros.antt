-- The volume of one block of zeros, opened over what was built of it.
use Rattle.std.proofs.Common.{◌≡◌, true, [], ◌∷◌, length, sym, ap, ◌∙◌}
use Rattle.verity_profile.specs.Profile.{zero_block}
use Rattle.verity_digest.specs.Tree.{root}
use Rattle.verity_store.specs.declared.store.BlockStore as store
use Rattle.verity_edit.specs.Editing.{Editing, hashing_in}
use Rattle.verity_edit.specs.Opening.{IsOpened}
use Rattle.cli_edit.specs.Printing.{IsOfZeros}

pub opened_zeros : {D H : Type 0} (on_data : store.Ghosts D) (on_hash : store.Ghosts H) (d : D) (h : H) (e : Editing D H)
    → IsOpened on_data on_hash d h 0 e → on_data.tells d ≡ true → on_hash.tells h ≡ true
    → on_data.content d ≡ zero_block 1024 ∷ [] → on_data.size d ≡ 1024 → on_hash.size h ≡ 512 → IsOfZeros e.volume e.root
opened_zeros on_data on_hash d h e opened d_tells h_tells content d_size h_size =
    let same : on_data.content e.data_store ≡ zero_block 1024 ∷ [] = opened.data_store.content ∙ content in
    record {
      fits = record {
        data_size = sym d_size ∙ (sym opened.data_store.later.size ∙ (opened.fits.data_size ∙ sym opened.fits.block_size));
        hash_size = sym h_size ∙ (sym opened.hash_store.later.size ∙ opened.fits.hash_size);
        count = ap length (sym same) ∙ (opened.fits.committed ∙ sym opened.fits.blocks);
      };
      root = (opened.stands d_tells h_tells).root ∙ ap (root (hashing_in e)) same;
    }
