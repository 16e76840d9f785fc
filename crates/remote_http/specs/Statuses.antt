-- What a status is told as.
use Rattle.std.specs.Prelude.{◌≡◌, ◌≢◌, ℕ, ⊤}
use Rattle.remote_http.specs.declared.fault.RangeFault.{RangeFault}
use Rattle.remote_http.specs.declared.fault.RangeFault.TheVariants.{NoMemory, NotHttp, Status, Redirect, NoRanges}
use Rattle.http.specs.StatusCode.{IsStatusCode}

-- the fault of a status that isn't 206: it carries the code, and 200 is want of ranges
abbrev pub IsStatusFault : ℕ → RangeFault → Type 0
IsStatusFault code (Status status) = (status ≡ code) × (code ≢ 200)
IsStatusFault code (Redirect status text) = status ≡ code
IsStatusFault code NoRanges = code ≡ 200
IsStatusFault code NotHttp = ¬ (IsStatusCode code)
IsStatusFault code (NoMemory e) = ⊤
IsStatusFault code other = ⊥
