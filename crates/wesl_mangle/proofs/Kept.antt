-- What the types of paths and names keep.
use Rattle.std.proofs.Common.{◌≡◌, true}
use Rattle.wesl_path.specs.Name.{Plain}
use Rattle.wesl_path.specs.Path.{Sound, is_path_text}
use Rattle.wesl_path.specs.Texts.{path_text, path_value, name_text}
use Rattle.wesl_path.specs.declared.module_path.ModulePath.{ModulePath}
use Rattle.wesl_path.specs.declared.name.PlainName.{PlainName}
use Rattle.wesl_path.proofs.PathFacts.{path_from_test}

pub path_valid : (path : ModulePath) → is_path_text (path_text path) ≡ true
path_valid path = path.valid

pub path_sound : (path : ModulePath) → Sound (path_value path)
path_sound path = (path_from_test (path_text path) (path_valid path)).0

pub name_plain : (item : PlainName) → Plain (name_text item)
name_plain item = item.ok
