-- A store over another, some of whose calls fail.
use Rattle.std.specs.Prelude.{ℕ, ◌+◌, ◌-◌, ◌^◌, min, Bool, false, ◌||◌, ◌==◌, nat_le, Option, None, Some}

-- the store below; which call fails, counted from 1 (0 for none); after how many reads each one fails (None for never);
-- the calls and the reads so far, which stay at the greatest u64; how many calls, and reads among them, it made fail; and how many
-- changes were asked for
pub record Failing (S : Type 0) : Type 0 where
  pub store : S
  pub due : ℕ
  pub allowed : Option ℕ
  pub calls : ℕ
  pub reads : ℕ
  pub failed : ℕ
  pub refused : ℕ
  pub changes : ℕ

-- nothing was asked yet
abbrev pub failing_at : {S : Type 0} → S → ℕ → Option ℕ → Failing S
failing_at store due allowed = record {
  store = store;
  due = due;
  allowed = allowed;
  calls = 0;
  reads = 0;
  failed = 0;
  refused = 0;
  changes = 0;
}

abbrev pub one_more : ℕ → ℕ
one_more n = min (n + 1) (2 ^ 64 - 1)

abbrev pub is_past : Option ℕ → ℕ → Bool
is_past None reads = false
is_past (Some allowed) reads = nat_le allowed reads

-- whether the next call is the one that fails
abbrev pub is_call_due : {S : Type 0} → Failing S → Bool
is_call_due s = s.calls + 1 == s.due

-- whether the next call, a read, fails
abbrev pub is_read_due : {S : Type 0} → Failing S → Bool
is_read_due s = is_call_due s || is_past s.allowed s.reads

-- a call was passed on, and left this store
abbrev pub after_call : {S : Type 0} → Failing S → S → Failing S
after_call s store = record s { store = store; calls = one_more s.calls }

-- a read was passed on, and left this store
abbrev pub after_read : {S : Type 0} → Failing S → S → Failing S
after_read s store = record s { store = store; calls = one_more s.calls; reads = one_more s.reads }

-- a change was asked for
abbrev pub asked_change : {S : Type 0} → Failing S → Failing S
asked_change s = record s { changes = s.changes + 1 }

-- a call failed, and the store below wasn't asked
abbrev pub after_failed_call : {S : Type 0} → Failing S → Failing S
after_failed_call s = record s { calls = one_more s.calls; failed = s.failed + 1 }

-- a read failed, and the store below wasn't asked
abbrev pub after_failed_read : {S : Type 0} → Failing S → Failing S
after_failed_read s = record s { calls = one_more s.calls; reads = one_more s.reads; failed = s.failed + 1; refused = s.refused + 1 }
