use Rattle.std.proofs.Common.{◌≡◌, ◌++◌, List, ℕ, codes, None, ap, subst, sym, ◌∙◌}
use Rattle.test_system.specs.Files.{journal_of}
use Rattle.test_system.specs.declared.memory.MemSystem.{MemSystem}
use Rattle.test_system.proofs.Recovered.{beside_of, carried_files, none_files, of_whole}
use Rattle.test_system.proofs.recovers.recover_in_memory.Goals as goal

pub returns-in-Ok : goal.returns-in-Ok
returns-in-Ok g c =
    let p = c.in-Ok.ensures.recovered in
    let whole = p.whole in
    let files = whole.files in
    let beside = beside_of _ _ _ _ _ _ _ _ whole c.requires.beside in
    let path_is : whole.path ≡ codes "hash.journal" = beside.2
    ∙ ap (λ (led : List ℕ). led ++ codes ".journal") (beside.1 ∙ c.requires.hash_path) in
    let opened_is = files.data_opened.0 ∙ files.hash_opened.0 in
    record {
      recovered = of_whole _ _ _ _ _ _ _ _ whole
          (λ none. none_files _ _ (none.1 ∙ opened_is) (subst (λ (s : MemSystem). s.journal ≡ None) opened_is (none.0 path_is)))
          (λ b done. carried_files _ done.closed _ whole.image whole.device done.recovers.journal done.recovers.starts.joined.devices
          done.left.devices (files.data_opened.1.image c.requires.data_path ∙ ap (λ (s : MemSystem). s.image.items) files.hash_opened.0)
          (files.hash_opened.1.device c.requires.hash_path)
          (done.recovers.opened.1.journal path_is ∙ ap journal_of opened_is)
          done.recovers.starts.joins done.recovers.starts.made done.recovers.starts.durable
          (done.parted.image c.requires.data_path) (done.parted.device c.requires.hash_path) (done.removed path_is));
    }
