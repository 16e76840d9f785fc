-- Reads of a verifier after reads are reads.
use Rattle.std.specs.Prelude.{refl}
use Rattle.std.proofs.Common.{◌∙◌}
use Rattle.verity_store.specs.declared.store.BlockStore as store
use Rattle.verity_store.proofs.StoreLemmas.{only_read_same, only_read_then}
use Rattle.verity_check.specs.Verifier.{Verifying, IsOnlyReading}

module _ {D H : Type 0} (data_facts : store.Ghosts D) (hash_facts : store.Ghosts H) where
  pub reading_same : (v : Verifying D H) → IsOnlyReading data_facts hash_facts v v
  reading_same v = record {
    table = refl;
    data_store = only_read_same data_facts v.data_store;
    hash_store = only_read_same hash_facts v.hash_store;
    data_mark = refl;
    hash_mark = refl;
    since = refl;
  }

  pub reading_on : (u v w : Verifying D H) → IsOnlyReading data_facts hash_facts u v → IsOnlyReading data_facts hash_facts v w →
      IsOnlyReading data_facts hash_facts u w
  reading_on u v w f g = record {
    table = g.table ∙ f.table;
    data_store = only_read_then data_facts u.data_store v.data_store w.data_store f.data_store g.data_store;
    hash_store = only_read_then hash_facts u.hash_store v.hash_store w.hash_store f.hash_store g.hash_store;
    data_mark = g.data_mark ∙ f.data_mark;
    hash_mark = g.hash_mark ∙ f.hash_mark;
    since = g.since ∙ f.since;
  }
