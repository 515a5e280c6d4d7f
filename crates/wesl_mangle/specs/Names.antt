-- What the type that keeps a mangled name holds.
use Rattle.std.specs.Prelude.{ℕ, List}
use Rattle.wesl_path.specs.Inline.{held}
use Rattle.wesl_mangle.specs.declared.name.MangledName.{MangledName}

-- a mangled name's bytes
abbrev pub mangled_text : MangledName → List ℕ
mangled_text n = held n.text
