-- Labels and their addresses.
use Rattle.std.specs.Prelude.{ℕ, if◌then◌else◌, List, Option, Some, None}
use Rattle.std.specs.Str.{bytes_eq}
use Rattle.std.specs.HashMap as hash
use Rattle.rv_asm.specs.declared.labels.Labels.{Labels}

-- the address that each name has, if it is a label
abbrev pub Addresses : Type 0
Addresses = List ℕ → Option ℕ

abbrev pub no_labels : Addresses
no_labels name = None

-- one label more
abbrev pub with_address : Addresses → List ℕ → ℕ → Addresses
with_address labels name address = λ other. if bytes_eq name other then Some address else labels other

-- the same of the code's own
abbrev pub addresses_in : Labels → Addresses
addresses_in labels = λ name. hash.get_by (λ key. bytes_eq name key.now) labels.map
