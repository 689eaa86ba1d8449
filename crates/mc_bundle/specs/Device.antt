-- What contracts see of inputs and outputs, from which bytes come and to which they go, and how
-- many calls of one have failed.
use Rattle.std.specs.Prelude.{ℕ, ◌+◌, ◌<◌, ◌==◌, ◌&&◌, nat_lt, List, length, take, Option, Result}
use Rattle.std.specs.Prelude.{Ok, Err, Bool, true, cond, if◌then◌else◌}
use Rattle.std.specs.Io.KnownBytes.{Appends}
use Rattle.mc_bundle.specs.declared.io.device.DeviceFault.{DeviceFault}

-- an input
pub record InputState : Type 0 where
  -- the bytes that are still to be read, if they are known
  pub remaining : Option (List ℕ)
  -- how many calls failed
  pub failed : ℕ

-- an output
pub record OutputState : Type 0 where
  -- the bytes that were written, if they are known
  pub written : Option (List ℕ)
  -- how many calls failed
  pub failed : ℕ

-- how many calls failed, after a read: it fails if it returns an error
abbrev pub failures_after_read : Result ℕ DeviceFault → (before : ℕ) → ℕ
failures_after_read (Ok count) before = before
failures_after_read (Err fault) before = before + 1

-- how many calls failed, after a write: it fails if it returns an error, or takes no byte of a text
-- that has some
abbrev pub failures_after_write : Result ℕ DeviceFault → (text : List ℕ) → (before : ℕ) → ℕ
failures_after_write (Ok count) text before =
    if (count == 0) && nat_lt 0 (length text) then before + 1 else before
failures_after_write (Err fault) text before = before + 1

-- how many calls failed, after a function that stops at the first failure: one more if the fault is
-- the device's own
abbrev pub failures_after : {X E : Type 0} → (E → Bool) → Result X E → ℕ → ℕ
failures_after is_own (Ok value) before = before
failures_after is_own (Err fault) before = cond (is_own fault) (before + 1) before

-- whether a device's fault is its own: each is
abbrev pub is_failure : DeviceFault → Bool
is_failure fault = true

-- some bytes from the text's front, but not all, were appended to what an output had taken
abbrev pub AppendsProperPrefix : (old new : Option (List ℕ)) → (text : List ℕ) → Type 0
AppendsProperPrefix old new text =
    (count : ℕ) × (count < length text) × Appends old new (take count text)
