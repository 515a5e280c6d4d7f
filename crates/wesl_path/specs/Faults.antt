-- The number of each refusal.
use Rattle.std.specs.Prelude.{ℕ}
use Rattle.wesl_path.specs.declared.fault.PathFault.{PathFault}
use Rattle.wesl_path.specs.declared.fault.PathFault.TheVariants.{Malformed, Relative, Long}

-- 8: an argument that is malformed, or a relative path where a module's own is wanted; 4: a path past 255 bytes
abbrev pub number_of : PathFault → ℕ
number_of Malformed = 8
number_of Relative = 8
number_of Long = 4
