-- The number of each refusal.
use Rattle.std.specs.Prelude.{ℕ}
use Rattle.wesl_table.specs.declared.fault.TableFault.{TableFault}
use Rattle.wesl_table.specs.declared.fault.TableFault.TheVariants.{Full}

-- 14: a table is too small
abbrev pub number_of : TableFault → ℕ
number_of Full = 14
