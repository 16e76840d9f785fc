-- What a journal's bytes say: a head by which it is known, a gate, and behind it a plan. Numbers are of eight bytes, the lowest first.
use Rattle.std.specs.Prelude.{◌≡◌, ◌≢◌, ◌⊎◌, ℕ, zero, suc, ◌+◌, ◌<◌, ◌≤◌, List, [], ◌∷◌, ◌++◌, length, take, drop}
use Rattle.std.specs.Prelude.{nat_le, ◌==◌, if◌then◌else◌, Option, None, Some}
use Rattle.std.specs.Int.{w64, to_le_bytes, from_le_bytes}
use Rattle.verity_disks.specs.Disks.{Contents, IsDurable}
use Rattle.verity_journal.specs.Plan.{Side, Plan, made, IsSide}
use Rattle.verity_disks.specs.declared.disks.Device.TheVariants.{Data, Hash, Journal}
use Rattle.verity_journal.specs.declared.head.Gate.{Gate}
use Rattle.verity_journal.specs.declared.head.Gate.TheVariants as gate

unfoldable pub number : ℕ → List ℕ
number n = to_le_bytes w64 n

-- a change is its place, how many bytes it has, and these
abbrev pub spelled_change : ℕ × List ℕ → List ℕ
spelled_change change = number change.0 ++ (number (length change.1) ++ change.1)

abbrev pub spelled_changes : List (ℕ × List ℕ) → List ℕ
spelled_changes [] = []
spelled_changes (change ∷ changes) = spelled_change change ++ spelled_changes changes

-- a side is how many bytes are kept, the length, how many changes there are, and these
abbrev pub spelled_side : Side → List ℕ
spelled_side side = number side.keep ++ (number side.len ++ (number (length side.changes) ++ spelled_changes side.changes))

-- a plan is how many bytes name the volume, these, and both sides
abbrev pub spelled : Plan → List ℕ
spelled plan = number (length plan.names) ++ (plan.names ++ (spelled_side plan.on_data ++ spelled_side plan.on_hash))

-- a number, and what stands behind it
abbrev pub read_number : List ℕ → Option (ℕ × List ℕ)
read_number bytes = if nat_le 8 (length bytes) then Some (from_le_bytes w64 (take 8 bytes), drop 8 bytes) else None

-- so many bytes, and what stands behind them
abbrev pub read_bytes : ℕ → List ℕ → Option (List ℕ × List ℕ)
read_bytes n bytes = if nat_le n (length bytes) then Some (take n bytes, drop n bytes) else None

abbrev pub and_then : {A B : Type 0} → Option A → (A → Option B) → Option B
and_then None f = None
and_then (Some a) f = f a

-- a change that lies below a length, and what stands behind it
abbrev pub read_change : ℕ → List ℕ → Option ((ℕ × List ℕ) × List ℕ)
read_change len bytes =
    and_then (read_number bytes) (λ at. and_then (read_number at.1) (λ size. and_then (read_bytes size.0 size.1) (λ new.
    if nat_le (at.0 + size.0) len then Some ((at.0, new.0), new.1) else None)))

-- so many of them, and what stands behind them
abbrev pub read_changes : ℕ → ℕ → List ℕ → Option (List (ℕ × List ℕ) × List ℕ)
read_changes len zero bytes = Some ([], bytes)
read_changes len (suc count) bytes =
    and_then (read_change len bytes) (λ first. and_then (read_changes len count first.1) (λ rest.
    Some (first.0 ∷ rest.0, rest.1)))

abbrev pub read_side : List ℕ → Option (Side × List ℕ)
read_side bytes =
    and_then (read_number bytes) (λ keep. and_then (read_number keep.1) (λ len. and_then (read_number len.1) (λ count.
    if nat_le keep.0 len.0 then and_then (read_changes len.0 count.0 count.1) (λ changes.
    Some (record { keep = keep.0; len = len.0; changes = changes.0 }, changes.1)) else None)))

-- the plan that bytes begin with
abbrev pub read_plan : List ℕ → Option Plan
read_plan bytes =
    and_then (read_number bytes) (λ size. and_then (read_bytes size.0 size.1) (λ names.
    and_then (read_side names.1) (λ d. and_then (read_side d.1) (λ h.
    Some (record { names = names.0; on_data = d.0; on_hash = h.0 })))))

-- what each journal begins with: the magic `dalgjrnl`, and the version, 1, of four bytes, the lowest first
abbrev pub head : List ℕ
head = 100 ∷ 97 ∷ 108 ∷ 103 ∷ 106 ∷ 114 ∷ 110 ∷ 108 ∷ 1 ∷ 0 ∷ 0 ∷ 0 ∷ []

-- what stands behind this beginning of bytes; none where they begin otherwise
abbrev pub behind : List ℕ → List ℕ → Option (List ℕ)
behind [] bytes = Some bytes
behind (b ∷ beginning) [] = None
behind (b ∷ beginning) (byte ∷ bytes) = if byte == b then behind beginning bytes else None

-- the plan behind a gate that is open, which is any byte but 0, where a whole one stands there
abbrev pub gated_plan : List ℕ → Option Plan
gated_plan [] = None
gated_plan (gate ∷ rest) = if gate == 0 then None else read_plan rest

-- the plan of a journal: behind its head and an open gate
abbrev pub plan_of : List ℕ → Option Plan
plan_of journal = and_then (behind head journal) gated_plan

-- no more than a beginning of the head stands there: no byte, some of it, or all of it
abbrev pub IsBegun : List ℕ → Type 0
IsBegun bytes = (rest : List ℕ) × (head ≡ bytes ++ rest)

-- a closed gate stands behind the head
abbrev pub IsClosed : List ℕ → Type 0
IsClosed bytes = (rest : List ℕ) × (bytes ≡ head ++ 0 ∷ rest)

-- an open gate stands behind the head
abbrev pub IsOpened : List ℕ → Type 0
IsOpened bytes = (gate : ℕ) × (rest : List ℕ) × (bytes ≡ head ++ gate ∷ rest) × (gate ≢ 0)

-- what the first bytes of a file say of it: 13 of them, or all where there are fewer
abbrev pub Says : List ℕ → Gate → Type 0
Says bytes gate.Begun = IsBegun bytes
Says bytes gate.Closed = IsClosed bytes
Says bytes gate.Open = IsOpened bytes
Says bytes gate.Foreign = (¬ IsBegun bytes) × (¬ IsClosed bytes) × (¬ IsOpened bytes)

-- the bytes of a journal as a stop may leave it: a beginning of its head, a closed gate, or a whole plan behind an open one
abbrev pub IsJournal : List ℕ → Type 0
IsJournal bytes = IsBegun bytes ⊎ (IsClosed bytes ⊎ ((plan : Plan) × (plan_of bytes ≡ Some plan)))

-- the data and the hash device
abbrev pub Pair : Type 0
Pair = List ℕ × List ℕ

-- what a plan makes of both
abbrev pub made_pair : Plan → Pair → Pair
made_pair plan pair = (made plan.on_data pair.0, made plan.on_hash pair.1)

abbrev pub under : Option Plan → Pair → Pair
under None pair = pair
under (Some plan) pair = made_pair plan pair

-- what recovery makes of both: the changes of an open journal, and nothing where it is closed
abbrev pub recovered : List ℕ → Pair → Pair
recovered journal pair = under (plan_of journal) pair

-- the data and the hash device of three
abbrev pub pair_of : Contents → Pair
pair_of contents = (contents Data, contents Hash)

-- what recovery makes of three devices
abbrev pub recovered_pair : Contents → Pair
recovered_pair contents = recovered (contents Journal) (pair_of contents)

-- a gate stands behind the head, and behind it this plan
abbrev pub IsGated : Plan → List ℕ → Type 0
IsGated plan journal = (gate : ℕ) × (rest : List ℕ) × (journal ≡ head ++ gate ∷ rest) × (read_plan rest ≡ Some plan)

-- and the gate is open
abbrev pub IsOpen : Plan → List ℕ → Type 0
IsOpen plan journal = (gate : ℕ) × (rest : List ℕ) × (journal ≡ head ++ gate ∷ rest) × (read_plan rest ≡ Some plan) × (gate ≢ 0)

-- a plan stands behind an open gate, and a device has fewer bytes than it keeps: it was made for other devices
abbrev pub IsOfOthers : Contents → Type 0
IsOfOthers contents =
    (plan : Plan) × (plan_of (contents Journal) ≡ Some plan)
    × ((length (contents Data) < plan.on_data.keep) ⊎ (length (contents Hash) < plan.on_hash.keep))

-- the bytes are no journal's, or its plan was made for other devices
abbrev pub IsForeign : Contents → Type 0
IsForeign contents = (¬ IsJournal (contents Journal)) ⊎ IsOfOthers contents

-- no commit is under way: all is on the devices, and the gate is closed
pub record IsSettled (seen : Contents) (may_leave : Contents → Type 0) : Type 0 where
  pub durable : IsDurable seen may_leave
  pub closed : IsClosed (seen Journal)

-- a plan is under way: all is on the devices, and it stands behind an open gate
pub record IsReady (plan : Plan) (seen : Contents) (may_leave : Contents → Type 0) : Type 0 where
  pub durable : IsDurable seen may_leave
  pub opened : IsOpen plan (seen Journal)

-- a plan that stands behind an open gate has these names
abbrev pub IsNamed : List ℕ → Contents → Type 0
IsNamed names contents = (plan : Plan) → plan_of (contents Journal) ≡ Some plan → plan.names ≡ names

-- the volume as it was or as it is to be, under no other names
pub record IsOldOrNew (plan : Plan) (old : Pair) (contents : Contents) : Type 0 where
  pub volume : (recovered_pair contents ≡ old) ⊎ (recovered_pair contents ≡ made_pair plan old)
  pub named : IsNamed plan.names contents

-- the volume as it is to be, under no other names
pub record IsNew (plan : Plan) (old : Pair) (contents : Contents) : Type 0 where
  pub volume : recovered_pair contents ≡ made_pair plan old
  pub named : IsNamed plan.names contents

-- both sides fit, and leave what they keep
pub record Suits (plan : Plan) (pair : Pair) : Type 0 where
  pub on_data : IsSide plan.on_data
  pub on_hash : IsSide plan.on_hash
  pub data_kept : plan.on_data.keep ≤ length pair.0
  pub hash_kept : plan.on_hash.keep ≤ length pair.1
