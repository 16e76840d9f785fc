-- The fields of the pending edits.
use Rattle.verity_pending.specs.declared.pending.Pending.TheInside.{Inside}
use Rattle.verity_pending.specs.Draft.{Draft, IsDraft}

abbrev pub draft : {A : Type 0} → Inside A → Draft
draft p = record { size = p.size; committed = p.committed; least = p.least; working = p.working; written = p.written.entries }

abbrev pub KeepsDraft : {A : Type 0} → Inside A → Type 0
KeepsDraft p = IsDraft (draft p)
