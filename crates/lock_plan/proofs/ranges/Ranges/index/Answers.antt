use Rattle.std.proofs.Common.{◌≡◌, ℕ, ◌+◌, ◌-◌, ◌≤◌, ◌&&◌, ◌||◌, Bool, true, nat_le, nat_lt, min, List, sum_by, take, sym, ap, ◌∙◌, arith}
use Rattle.std.specs.List.{list_any}
use Rattle.history.specs.declared.ranges.Range.{Range}
use Rattle.std.proofs.lemmas.List.{take_all}
use Rattle.history.specs.Attested.{is_attested, index_of, range_end, total}
use Rattle.lock_plan.proofs.Indexes.{sum_more, any_more, sum_low, index_low}
use Rattle.lock_plan.proofs.ranges.Ranges.index.Goals as goal

pub overflow_add-below : goal.overflow_add-below
overflow_add-below c =
    let f : Range → ℕ = λ r. min r.attested (c.args.block - r.first) in
    let low = sum_low f c.args.self.now c.loop-k.k c.range-range.result c.range-range.ensures in
    let below = index_low c.args.self.now c.args.block in
    let all = c.blocks_in_order.ensures.index_by_ranges c.args.self.now c.args.block in
    let few = c.blocks_in_order.ensures.few c.args.self.now c.count-k-end.ensures.ranges.apart in
    let end = c.count-k-end.ensures.ranges.low in
    let so_far : c.loop-k.below ≡ sum_by f (take c.loop-k.k c.args.self.now) = c.loop-k.invariant.below in
    let here : c.min-below.result ≡ f c.range-range.result = omega (arith, c.saturating_sub.ensures, c.min-below.ensures) in
    let sum : c.loop-k.below + c.min-below.result ≤ total c.args.self.now = omega (arith, low, below, all, so_far, here) in
    omega (arith, sum, few, end)

pub loop-k-preserved : goal.loop-k-preserved
loop-k-preserved c =
    let f : Range → ℕ = λ r. min r.attested (c.args.block - r.first) in
    let p : Range → Bool = λ r. nat_le r.first c.args.block && nat_lt c.args.block (range_end r) in
    let here : c.min-below.result ≡ f c.range-range.result = omega (arith, c.saturating_sub.ensures, c.min-below.ensures) in
    let below : c.loop-k.below + c.min-below.result ≡ sum_by f (take (c.loop-k.k + 1) c.args.self.now)
    = ap (λ n. n + c.min-below.result) c.loop-k.invariant.below ∙ ap (λ n. sum_by f (take c.loop-k.k c.args.self.now) + n) here ∙ sym (sum_more f c.args.self.now c.loop-k.k c.range-range.result c.range-range.ensures) in
    let attested : (c.loop-k.attested || c.has_block-attested.result) ≡ list_any p (take (c.loop-k.k + 1) c.args.self.now)
    = ap (λ (t : Bool). t || c.has_block-attested.result) c.loop-k.invariant.attested ∙ ap (λ (t : Bool). list_any p (take c.loop-k.k c.args.self.now) || t) c.has_block-attested.ensures ∙ sym (any_more p c.args.self.now c.loop-k.k c.range-range.result c.range-range.ensures) in
    record { below = below; attested = attested }

pub returns-then-attested-clause-below : goal.returns-then-attested-clause-below
returns-then-attested-clause-below c =
    let ranges = c.args.self.now in
    let f : Range → ℕ = λ r. min r.attested (c.args.block - r.first) in
    let p : Range → Bool = λ r. nat_le r.first c.args.block && nat_lt c.args.block (range_end r) in
    let laws = c.blocks_in_order.ensures in
    let whole : take c.loop-k.k ranges ≡ ranges = take_all c.loop-k.k ranges (omega (arith, c.loop-k-test.false, c.count-k-end.ensures.value)) in
    let any : c.loop-k.attested ≡ list_any p (take c.loop-k.k ranges) = c.loop-k.invariant.attested in
    let sum : c.loop-k.below ≡ sum_by f (take c.loop-k.k ranges) = c.loop-k.invariant.below in
    let is : is_attested ranges c.args.block ≡ true = laws.by_ranges ranges c.args.block ∙ sym (any ∙ ap (λ (rs : List Range). list_any p rs) whole) ∙ c.if-attested.true in
    let index : c.loop-k.below ≡ index_of ranges c.args.block = sum ∙ ap (λ (rs : List Range). sum_by f rs) whole ∙ sym (laws.index_by_ranges ranges c.args.block) in
    let below = laws.index ranges c.count-k-end.ensures.ranges.apart c.args.block is in
    omega (arith, index, below)
