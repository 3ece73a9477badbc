-- One challenge more.
use Rattle.std.proofs.Common.{◌≡◌, ◌+◌, ◌-◌, ◌<◌, ◌≤◌, [], ◌∷◌, ◌++◌, length, replicate, sym, ap, ◌∙◌, append_assoc, append-nil, arith}
use Rattle.std.specs.Prelude.{vec_capacity}
use Rattle.std.proofs.lemmas.List.{length_push, replicate_more}
use Rattle.device.specs.declared.outcomes.PassEnd.TheVariants as pass
use Rattle.device.proofs.finishing.cut_short.Goals as goal

pub loop-init : goal.loop-init
loop-init c =
    let none : 0 ≡ c.len-counter.result - length c.push_reserved.new.self.items = omega (arith, c.len-counter.ensures, c.push_reserved.new.self.ok.0) in
    record {
      ends = sym (append-nil c.push_reserved.new.self.items) ∙ ap (λ n. c.push_reserved.new.self.items ++ replicate n pass.NotStarted) none;
      count = omega (arith, c.len-counter.ensures, c.push_reserved.new.self.ok.0);
      room = omega (arith, c.requires.room, c.push_reserved.ensures.capacity);
    }

pub push_reserved-requires-in-loop : goal.push_reserved-requires-in-loop
push_reserved-requires-in-loop c = omega (arith, c.loop-test.true, c.loop.invariant.count, c.loop.invariant.room, c.loop.ends.ok.0)

pub loop-preserved : goal.loop-preserved
loop-preserved c =
    let first = c.push_reserved.new.self.items in
    let more : (c.loop.counter - length c.push_reserved.new.self.items) + 1 ≡ (c.loop.counter + 1) - length c.push_reserved.new.self.items =
    omega (arith, c.loop.auto.counter, c.len-counter.ensures, c.push_reserved.new.self.ok.0) in
    record {
      ends =
          c.push_reserved-in-loop.ensures.items
          ∙ ap (λ l. l ++ pass.NotStarted ∷ []) c.loop.invariant.ends
          ∙ append_assoc c.push_reserved.new.self.items (replicate (c.loop.counter - length c.push_reserved.new.self.items) pass.NotStarted) (pass.NotStarted ∷ [])
          ∙ ap (λ l. c.push_reserved.new.self.items ++ l) (replicate_more (c.loop.counter - length c.push_reserved.new.self.items) pass.NotStarted ∙ ap (λ n. replicate n pass.NotStarted) more);
      count = ap length c.push_reserved-in-loop.ensures.items ∙ length_push c.loop.ends.items pass.NotStarted ∙ ap (λ n. n + 1) c.loop.invariant.count;
      room = omega (arith, c.loop.invariant.room, c.push_reserved-in-loop.ensures.capacity);
    }

pub returns : goal.returns
returns c =
    let grown : length c.push_reserved.new.self.items ≡ length c.args.ends.items + 1 = ap length c.push_reserved.ensures.items ∙ length_push c.args.ends.items (pass.Full c.args.report) in
    let start : c.len-counter.result ≡ length c.push_reserved.new.self.items = omega (arith, c.len-counter.ensures, c.push_reserved.new.self.ok.0) in
    let all : c.loop.counter ≡ c.args.count = omega (arith, c.loop-test.false, c.loop.auto.counter-end, start, grown, c.requires.some) in
    c.loop.invariant.ends
    ∙ ap (λ n. c.push_reserved.new.self.items ++ replicate (n - length c.push_reserved.new.self.items) pass.NotStarted) all
    ∙ ap (λ l. l ++ replicate (c.args.count - length l) pass.NotStarted) c.push_reserved.ensures.items
