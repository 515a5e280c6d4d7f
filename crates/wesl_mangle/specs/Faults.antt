-- The number of each refusal.
use Rattle.std.specs.Prelude.{ℕ}
use Rattle.wesl_mangle.specs.declared.fault.MangleFault.{MangleFault}
use Rattle.wesl_mangle.specs.declared.fault.MangleFault.TheVariants.{NoRoom}

-- 14: a buffer is too small
abbrev pub number_of : MangleFault → ℕ
number_of NoRoom = 14
