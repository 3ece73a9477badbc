-- The items of an array, read one after the other.
use Rattle.std.proofs.Common.{List, ◌++◌, Option, option_map}
use Rattle.toml.specs.Data.{Data}
use Rattle.toml.specs.declared.value.Value.{Value}
use Rattle.toml.specs.View.{items_view}
use Rattle.config_rules.specs.Values.{each_of}

-- what was read so far, and then what the values say
abbrev pub read_from : {A : Type 0} → (Data → Option A) → List A → List Value → Option (List A)
read_from read so_far values = option_map (λ more. so_far ++ more) (each_of read (items_view values))
