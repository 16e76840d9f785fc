-- The files that a recovery leaves in memory.
use Rattle.std.proofs.Common.{◌≡◌, ℕ, Bool, true, false, List, [], ◌∷◌, Option, None, inl, inr, refl, ap, sym, subst, ◌∙◌, arith}
use Rattle.std.specs.Borrow.{Bor}
use Rattle.std.specs.Prelude.{unwrap_or}
use Rattle.std.specs.Option.{option_map}
use Rattle.os_files.specs.Reached.{BesideAt}
use Rattle.os_files.specs.declared.system.System.{Ghosts}
use Rattle.verity_disks.specs.Disks.{Contents, IsDurable}
use Rattle.verity_journal.specs.Journal.{pair_of, recovered, recovered_pair}
use Rattle.verity_disks.specs.Tearing.{Step, Three, kept_of, all_read, AllMayLeave, InPart, InPartBy, InParts}
use Rattle.verity_disks.specs.declared.disks.Device.TheVariants.{Data, Hash}
use Rattle.verity_disks.specs.declared.disks.Disks as disks
use Rattle.os_journal.specs.Journals.{IsCarriedOut, IsMade, IsMadeWhole}
use Rattle.os_journal.specs.Names.{IsJournalPath}
use Rattle.test_system.specs.Files.{device_of, journal_of, AreJoined, AreRecovered}
use Rattle.test_system.specs.declared.memory.MemOpened.{MemOpened}
use Rattle.test_system.specs.declared.memory.MemSystem.{MemSystem}

-- of a step that a stop cuts short nothing may be left
none_of : (resizes : Bool) (at : ℕ) (new bytes : List ℕ) → InPartBy resizes at new bytes bytes
none_of true at new bytes = record { front = refl; no_shorter = omega arith; no_longer = omega arith }
none_of false at new bytes = record { before = refl; after = refl; no_shorter = omega arith; no_longer = omega arith }

-- nor of any
none_of_all : (bytes : List ℕ) (log : List Step) → InParts bytes log bytes
none_of_all bytes [] = refl
none_of_all bytes (step ∷ log) = (bytes, none_of step.resizes step.at step.bytes bytes, none_of_all bytes log)

-- so a stop may leave what is on three devices
durable_left : (three : Three) → AllMayLeave three (λ device. (kept_of three device).durable)
durable_left three device = inr (none_of_all (kept_of three device).durable (kept_of three device).log)

-- what is done where there is a journal, and where there is none
of_made : {S F D J A : Type 0} (facts : Ghosts S F D J) (devices : disks.Ghosts J) (old new : S) (data_path hash_path path : List ℕ)
    (image device : F) (names : List ℕ) (is_recovered : Bool)
    → IsMade facts devices old new data_path hash_path path image device names is_recovered
    → (facts.lacks old path × (new ≡ old) → A)
    → ((b : Bool) → IsCarriedOut facts devices old new data_path hash_path path image device names b → A) → A
of_made facts devices old new data_path hash_path path image device names true made none done = done true made
of_made facts devices old new data_path hash_path path image device names false (inl made) none done = none made
of_made facts devices old new data_path hash_path path image device names false (inr made) none done = done false made

pub of_whole : {S F D J A : Type 0} (facts : Ghosts S F D J) (devices : disks.Ghosts J) (old new : S) (journal : Option (Bor (List ℕ)))
    (data_path hash_path : List ℕ) (is_recovered : Bool)
    (w : IsMadeWhole facts devices old new journal data_path hash_path is_recovered)
    → (facts.lacks w.opened w.path × (new ≡ w.opened) → A)
    → ((b : Bool) → IsCarriedOut facts devices w.opened new data_path hash_path w.path w.image w.device w.names b → A) → A
of_whole facts devices old new journal data_path hash_path is_recovered w none done =
    of_made facts devices w.opened new data_path hash_path w.path w.image w.device w.names is_recovered w.made none done

-- where none is named, the journal is the one beside HASH
pub beside_of : {S F D J : Type 0} (facts : Ghosts S F D J) (devices : disks.Ghosts J) (old new : S) (journal : Option (Bor (List ℕ)))
    (data_path hash_path : List ℕ) (is_recovered : Bool)
    (w : IsMadeWhole facts devices old new journal data_path hash_path is_recovered) → journal ≡ None
    → BesideAt facts w.opened hash_path w.path
beside_of facts devices old new journal data_path hash_path is_recovered w none =
    subst (λ (j : Option (Bor (List ℕ))). IsJournalPath facts w.opened j hash_path w.path) none w.stands

-- where there is no journal, the files stay
pub none_files : (old new : MemSystem) → new ≡ old → old.journal ≡ None → AreRecovered old new
none_files old new same none = record {
  files = ap (λ (s : MemSystem). (s.image.items, device_of s)) same
      ∙ sym (ap (λ bytes. recovered bytes (old.image.items, device_of old))
      (ap (λ o. unwrap_or (option_map (λ bytes. bytes.items) o) []) none));
  removed = ap (λ (s : MemSystem). s.journal) same ∙ none;
}

-- else they are what the journal makes of them
pub carried_files : (old closed new : MemSystem) (image device journal : MemOpened) (joined left : Three)
    → image.bytes.items ≡ old.image.items → device.bytes.items ≡ device_of old → journal.bytes.items ≡ journal_of old
    → AreJoined image device journal joined → pair_of (all_read left) ≡ recovered_pair (all_read joined)
    → IsDurable (all_read left) (AllMayLeave left) → closed.image.items ≡ left.on_data.durable
    → device_of closed ≡ left.on_hash.durable → new ≡ record closed { journal = None } → AreRecovered old new
carried_files old closed new image device journal joined left on_data on_hash on_journal are made durable data_kept hash_kept gone =
    let data_same = durable Data (λ d. (kept_of left d).durable) (durable_left left) in
    let hash_same = durable Hash (λ d. (kept_of left d).durable) (durable_left left) in
    record {
      files = ap (λ (s : MemSystem). (s.image.items, device_of s)) gone
          ∙ (λ i. ((data_kept ∙ data_same) i, (hash_kept ∙ hash_same) i))
          ∙ made
          ∙ (λ i. recovered ((are.on_journal ∙ on_journal) i) ((are.on_data ∙ on_data) i, (are.on_hash ∙ on_hash) i));
      removed = ap (λ (s : MemSystem). s.journal) gone;
    }
