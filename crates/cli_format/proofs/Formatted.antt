-- The table line that `format` prints fits the blocks that it read.
use Rattle.std.proofs.Common.{◌≡◌, ◌<◌, ◌≤◌, ◌++◌, ℕ, List, Option, Some, length, refl, sym, ap, ◌∙◌, subst, arith}
use Rattle.std.specs.Prelude.{All}
use Rattle.std.specs.Io.KnownBytes.{Appends}
use Rattle.verity_profile.specs.Profile.{AllSized}
use Rattle.verity_profile.proofs.Bounds.{block_count_low, block_size_low}
use Rattle.verity_digest.specs.Hash.{Salted, hashing, name_of, size_of}
use Rattle.verity_digest.specs.Rows.{block_at}
use Rattle.verity_digest.specs.Shape.{level_count}
use Rattle.verity_digest.specs.Tree.{Hashing, per_block, root}
use Rattle.verity_digest.proofs.Rows.{root-row}
use Rattle.verity_digest.proofs.Sha.{length-digest_of, per_block_by}
use Rattle.verity_store.specs.declared.store.BlockStore as store
use Rattle.verity_superblock.specs.Image.{start_behind}
use Rattle.verity_superblock.specs.Line.{IsTableLine, algorithm_of, canonical}
use Rattle.verity_superblock.proofs.LineReads.{algorithm_of-sized}
use Rattle.cli_faults.specs.Faults.{line}
use Rattle.cli_faults.specs.Words.{salt_of}
use Rattle.cli_arguments.specs.declared.words.format.FormatWords.{FormatWords}
use Rattle.cli_format.specs.Formatting.{IsAsked, line_made}
use Rattle.cli_format.specs.Made.{device_of, IsMadeOf}
use Rattle.cli_format.specs.Printed.{IsFormatted}
use Rattle.cli_format.specs.declared.formatting.Made.{Made}
use Rattle.cli_format.specs.declared.formatting.Shape.{Shape}

-- a root hash has its algorithm's size
root_len : (s : Salted) (size : ℕ) (image : List (List ℕ)) → 512 ≤ size → 0 < length image
    → length (root (hashing s size) image) ≡ size_of s.algorithm
root_len s size image low some =
    let h : Hashing = hashing s size in
    let wide : 8 ≤ per_block (hashing s size) = per_block_by s.algorithm size low in
    ap length (root-row h image (omega (arith, wide)) some)
    ∙ length-digest_of s.algorithm (s.salt ++ block_at h image (level_count (per_block h) (length image)) 0)

module _ {D : Type 0} (facts : store.Ghosts D) where
  -- what was made of a store was made of one of which more holds
  pub moved : (lies lies' : D → Type 0) (leaves leaves' : D → D → Type 0) (h h' : Hashing)
      (made made' : List (List ℕ) → List (List ℕ) → List (List ℕ)) (size size' blocks : ℕ) (digest : List ℕ) → ((s : D) → lies s → lies' s)
      → ((s s' : D) → leaves s s' → leaves' s s') → h ≡ h' → made ≡ made' → size ≡ size'
      → IsMadeOf facts lies leaves h made size blocks digest
      → IsMadeOf facts lies' leaves' h' made' size' blocks digest
  moved lies lies' leaves leaves' h h' made made' size size' blocks digest more leaving same made_as sized m = record {
    source = m.source;
    source' = m.source';
    target = m.target;
    target' = m.target';
    there = more m.source m.there;
    left = leaving m.target m.target' m.left;
    block_size = m.block_size ∙ sized;
    sized = subst (λ n. AllSized n (facts.content m.source)) sized m.sized;
    read = m.read;
    count = m.count;
    root = (m.root.0, m.root.1, m.root.2 ∙ ap (λ h. root h m.root.0) same);
    told = λ tells. m.told tells ∙ ap (λ h. root h (facts.content m.source)) same;
    later = m.later;
    written = λ tells keeps. m.written tells keeps
        ∙ ap (λ made. made (facts.content m.source) (facts.content m.target)) made_as;
    synced = m.synced;
  }

  pub formatted : (lies : Shape → D → Type 0) (leaves : Shape → D → D → Type 0) (words : FormatWords) (shape : Shape) (made : Made)
      (salt : List ℕ) (old new : Option (List ℕ)) → IsAsked words shape → salt_of words.salt.now ≡ Some salt
      → made.hash_start_block ≡ start_behind shape.hash_offset shape.hash_block_size
      → IsTableLine (line_made words shape made salt) → Appends old new (line (canonical (line_made words shape made salt)))
      → IsMadeOf facts (lies shape) (leaves shape) (hashing (record { algorithm = shape.algorithm; salt = salt }) shape.hash_block_size)
      (device_of shape salt) shape.data_block_size made.data_blocks made.root
      → IsFormatted facts lies leaves words old new
  formatted lies leaves words shape made salt old new asked salted start profile printed m =
      let s : Salted = record { algorithm = shape.algorithm; salt = salt } in
      let image : List (List ℕ) = m.root.0 in
      let given = m.root.1 in
      let count : length m.root.0 ≡ made.data_blocks = given.blocks ∙ sym m.count in
      let some : 0 < length m.root.0 = omega (arith, count, block_count_low made.data_blocks profile.count) in
      let low : 512 ≤ shape.hash_block_size = block_size_low shape.hash_block_size profile.hash_size in
      let len : length made.root ≡ size_of shape.algorithm = ap length m.root.2 ∙ root_len s shape.hash_block_size image low some in
      let same : algorithm_of made.root ≡ shape.algorithm = algorithm_of-sized shape.algorithm made.root len in
      record {
        table = line_made words shape made salt;
        offset = shape.hash_offset;
        shape = shape;
        image = image;
        source = m.source;
        source' = m.source';
        target = m.target;
        target' = m.target';
        profile = profile;
        dev = refl;
        hash_dev = refl;
        data_block_size = asked.data_block_size;
        hash_block_size = asked.hash_block_size;
        salt = salted;
        asked = asked.hash_offset;
        start = start;
        algorithm = asked.algorithm ∙ ap name_of (sym same);
        shaped = asked;
        there = m.there;
        read = m.read;
        given = given.given;
        told = λ tells. record {
          blocks = sym m.count;
          sized = m.sized;
          root = ap (λ a. root (hashing (record { algorithm = a; salt = salt }) shape.hash_block_size) (facts.content m.source)) same
              ∙ sym (m.told tells);
        };
        fits = record {
          blocks = count;
          sized = subst (λ z. All (λ block. length block ≡ z) image) m.block_size given.given.sized;
          root = ap (λ a. root (hashing (record { algorithm = a; salt = salt }) shape.hash_block_size) image) same ∙ sym m.root.2;
        };
        left = m.left;
        later = m.later;
        written = m.written;
        synced = m.synced;
        printed = printed;
      }
