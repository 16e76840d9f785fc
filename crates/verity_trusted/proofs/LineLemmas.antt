-- Why a volume isn't opened under a table line.
use Rattle.std.proofs.Common.{◌≤◌, ℕ, List}
use Rattle.verity_superblock.specs.Superblock.{Volume}
use Rattle.verity_chain.specs.Table.{Table}
use Rattle.verity_pending.specs.declared.fault.EditFault.{EditFault}
use Rattle.verity_pending.specs.declared.fault.EditFault.TheVariants.{OutOfRange, WrongLength, TooSmall, TooLarge, NoMemory, Store}
use Rattle.verity_pending.specs.declared.fault.EditFault.TheVariants.{Broken, Mismatch, Superblock, DataLength, StoreSize, Offset}
use Rattle.verity_pending.specs.declared.fault.EditFault.TheVariants.{Line, Untrusted}
use Rattle.verity_edit.specs.Opening.{IsVolume, RefusesStores}
use Rattle.verity_trusted.specs.Line.{IsLineOf, ExplainsUnder, front_block}

pub explains_stores_under : (t : Table) (data_size hash_size blocks : ℕ) (content : List (List ℕ)) (told failed : Type 0) (v : Volume)
    (fault : EditFault) → 1 ≤ t.hash_start_block → (told → IsVolume (front_block t content) v) → IsLineOf t v
    → RefusesStores v data_size hash_size blocks fault → ExplainsUnder t data_size hash_size blocks content told failed fault
explains_stores_under t ds hs n content told failed v (StoreSize w) some is line r =
    (some, λ tells. record { volume = v; is_volume = is tells; line = line; refused = r })
explains_stores_under t ds hs n content told failed v DataLength some is line r =
    (some, λ tells. record { volume = v; is_volume = is tells; line = line; refused = r })
explains_stores_under t ds hs n content told failed v OutOfRange some is line r = absurd r
explains_stores_under t ds hs n content told failed v WrongLength some is line r = absurd r
explains_stores_under t ds hs n content told failed v TooSmall some is line r = absurd r
explains_stores_under t ds hs n content told failed v TooLarge some is line r = absurd r
explains_stores_under t ds hs n content told failed v NoMemory some is line r = absurd r
explains_stores_under t ds hs n content told failed v (Store w) some is line r = absurd r
explains_stores_under t ds hs n content told failed v Broken some is line r = absurd r
explains_stores_under t ds hs n content told failed v (Mismatch l i) some is line r = absurd r
explains_stores_under t ds hs n content told failed v (Superblock f) some is line r = absurd r
explains_stores_under t ds hs n content told failed v Offset some is line r = absurd r
explains_stores_under t ds hs n content told failed v Line some is line r = absurd r
explains_stores_under t ds hs n content told failed v (Untrusted level index) some is line r = absurd r
