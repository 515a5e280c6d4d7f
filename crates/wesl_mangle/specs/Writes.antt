-- Writing a name, and what handing it over leaves in the caller's buffer.
use Rattle.std.specs.Prelude.{◌≡◌, ℕ, ◌+◌, ◌<◌, ◌≤◌, List, ◌++◌, length, drop, Ok, Err, Result}
use Rattle.wesl_mangle.specs.declared.fault.MangleFault.{MangleFault}
use Rattle.wesl_mangle.specs.declared.fault.MangleFault.TheVariants.{NoRoom}

-- a name that is being written has room for further bytes
abbrev pub HasRoom : List ℕ → List ℕ → Type 0
HasRoom name more = length name + length more ≤ 1024

-- a Mangler's answer: the name stands at the front of the buffer and the rest stays, or there is no room and all stays
abbrev pub Answered : List ℕ → List ℕ → List ℕ → Result ℕ MangleFault → Type 0
Answered what was new (Ok n) = (n ≡ length what) × (n ≤ length was) × (new ≡ what ++ drop n was)
Answered what was new (Err NoRoom) = (length was < length what) × (new ≡ was)
