-- The rules that device files and verifier files share. A file is read rule by rule, and the first that
-- fails is named by its number.
use Rattle.std.specs.Prelude.{◌≡◌, ℕ, ◌-◌, ◌≤◌, Bool, true, false, ◌&&◌, nat_le, codes, List, [], ◌∷◌, Option, Some, None, option_and_then, Result, Ok, Err}
use Rattle.std.specs.Int.{is_power_of_two}
use Rattle.att_base.specs.declared.faults.DeviceFault.{DeviceFault}
use Rattle.att_base.specs.declared.faults.DeviceFault.TheVariants.{Rule, Memory}
use Rattle.history.specs.declared.ranges.Range.{Range}
use Rattle.history.specs.Attested.{IsRanges, are_ranges, last_end}
use Rattle.history.specs.Layout.{Layout, IsLayout, is_layout}
use Rattle.toml.specs.Data.{Data, Items, no_items, item, Members, get_member, as_array}
use Rattle.config_rules.specs.Values.{each_of, integer_between, number_at, name_at}
use Rattle.sequencing.specs.Options.{◌>>=◌, when}
use Rattle.config_rules.specs.declared.region.Region.{Region}
use Rattle.config_rules.specs.declared.common.Common.{Common}

-- a rule by its number: what it finds goes on to the next rules
abbrev pub rule : {A B : Type 0} → ℕ → Option A → (A → Result B ℕ) → Result B ℕ
rule number None next = Err number
rule number (Some found) next = next found

-- what a call answers that reads by these rules; want of memory may come at any time
abbrev pub AnswersByRules : {A : Type 0} → Result A ℕ → Result A DeviceFault → Type 0
AnswersByRules file (Ok value) = file ≡ Ok value
AnswersByRules file (Err (Rule number)) = file ≡ Err number
AnswersByRules file (Err Memory) = Unit {0}

-- why a call that reads what this rule is about may fail: it found nothing, or memory ran out
abbrev pub FailsRule : {A : Type 0} → ℕ → Option A → DeviceFault → Type 0
FailsRule number found (Rule named) = (named ≡ number) × (found ≡ None)
FailsRule number found Memory = Unit {0}

-- a power of two from 16 to 65,536
unfoldable pub block_size : Members → Option ℕ
block_size members =
    option_and_then (λ size. when (is_power_of_two size) size) (number_at (codes "block") members 16 65536)

-- 1 to 4,096 blocks of this size, from this base on, in which a memory can lie
unfoldable pub memory_layout : ℕ → ℕ → Members → Option Layout
memory_layout base size members =
    option_and_then
    (λ blocks. let layout : Layout = record { base = base; size = size; blocks = blocks } in when (is_layout layout) layout)
    (number_at (codes "blocks") members 1 4096)

-- goes on with what was read
abbrev pub and_then : {A B : Type 0} → Result A ℕ → (A → Result B ℕ) → Result B ℕ
and_then (Ok value) next = next value
and_then (Err number) next = Err number

-- a range: its first block and its number of blocks, each from 0 to 4,096
abbrev pub range_from : Items → Option Range
range_from (item first (item attested no_items)) = do
  block ← integer_between 0 4096 first
  count ← integer_between 0 4096 attested
  Some (record { first = block; attested = count })
range_from _ = None

-- the value is such a range
unfoldable pub range_of : Data → Option Range
range_of value = option_and_then range_from (as_array value)

-- ranges as a device may have them, all below this block
abbrev pub ranges_below : ℕ → List Range → Option (List Range)
ranges_below end ranges = when (are_ranges ranges && nat_le (last_end ranges) end) ranges

-- the value is an array of such ranges
unfoldable pub ranges_of_value : ℕ → Data → Option (List Range)
ranges_of_value end value = option_and_then (ranges_below end) (option_and_then (each_of range_of) (as_array value))

-- nothing stands at this key
abbrev pub is_absent : List ℕ → Members → Bool
is_absent key members = elim (get_member key members) [ None ↦ true | Some value ↦ false ]

-- The attested blocks of so many: rules 5 and 6. Where nothing stands at `ranges`, they are one range from `first`
-- on, of `attested` blocks; else those two keys are absent.
unfoldable pub attested_by : ℕ → Members → Option Data → Result (List Range) ℕ
attested_by blocks members None =
    rule 5 (number_at (codes "first") members 0 (blocks - 1)) (λ first.
    rule 6 (number_at (codes "attested") members 1 (blocks - first)) (λ attested.
    Ok (record { first = first; attested = attested } ∷ [])))
attested_by blocks members (Some value) =
    rule 5 (ranges_of_value blocks value) (λ ranges.
    rule 6 (when (is_absent (codes "first") members && is_absent (codes "attested") members) ranges) (λ found.
    Ok found))

-- where memory lies, and which blocks of it are attested: rules 2 to 6
unfoldable pub region : Members → Result Region ℕ
region members =
    rule 2 (number_at (codes "base") members 0 4294967295) (λ base.
    rule 3 (block_size members) (λ size.
    rule 4 (memory_layout base size members) (λ layout.
    and_then (attested_by layout.blocks members (get_member (codes "ranges") members)) (λ ranges.
    Ok (record { geometry = layout; ranges = ranges })))))

-- memory is such as a device may have, and so are its attested blocks, which lie in it
pub record IsRegion (r : Region) : Type 0 where
  pub layout : IsLayout r.geometry
  pub ranges : IsRanges r.ranges
  pub inside : last_end r.ranges ≤ r.geometry.blocks

-- what both kinds of file say: rules 2 to 8
unfoldable pub common : Members → Result Common ℕ
common members =
    and_then (region members) (λ region.
    rule 7 (name_at (codes "key") members) (λ key.
    rule 8 (number_at (codes "last") members 0 9223372036854775807) (λ last.
    Ok (record { region = region; key = key; last = last }))))
