-- By what all actors have done, over the parts of the device.
use Rattle.std.proofs.Common.{◌≡◌, ◌≤◌, ◌++◌, length, take, drop, sym, ap, ◌∙◌, subst, arith}
use Rattle.std.specs.Prelude.{vec_capacity}
use Rattle.std.proofs.lemmas.List.{take_at}
use Rattle.device.specs.Threads.{HasRunAll}
use Rattle.device.proofs.Ran.{count_ran, whole_ran}
use Rattle.device.proofs.shared.SharedDevice.run.Goals as goal

pub invariant_of-result : goal.invariant_of-result
invariant_of-result g c =
    let d = c.self.inside in
    let r = c.run_all-pass in
    let given : HasRunAll d.memory d.pass r.result d.key.items d.slots.items r.new.slots d.passes r.new.passes =
    subst (λ k. HasRunAll d.memory d.pass r.result k d.slots.items r.new.slots d.passes r.new.passes) c.deref.ensures.value (
    subst (λ s. HasRunAll d.memory d.pass r.result c.deref.result.now s r.new.slots d.passes r.new.passes) c.deref_mut.ensures.value r.ensures.ran) in
    let count : length r.new.slots ≡ d.slots.len = count_ran d.memory.world 1 d.pass.seen r.result.seen d.slots.items r.new.slots given.applications ∙ sym d.slots.ok.0 in
    let now : take d.slots.len (r.new.slots ++ drop (length r.new.slots) d.slots.items) ≡ r.new.slots = take_at r.new.slots (drop (length r.new.slots) d.slots.items) d.slots.len count in
    let ran = whole_ran c.own_entries.ensures.append c.runs_compose.ensures.own d.memory d.pass r.result d.key.items d.slots.items r.new.slots (take d.slots.len (r.new.slots ++ drop (length r.new.slots) d.slots.items)) d.passes r.new.passes c.close-core.result.world c.close-core.result.history
    c.self.invariant.0 given c.close-core.ensures.world c.close-core.ensures.history c.close-core.ensures.below now in
    let bytes : length r.new.buffer ≡ d.buffer.len = r.ensures.room ∙ ap length c.deref_mut-2.ensures.value ∙ sym d.buffer.ok.0 in
    let buffer : take d.buffer.len (r.new.buffer ++ drop (length r.new.buffer) d.buffer.items) ≡ r.new.buffer = take_at r.new.buffer (drop (length r.new.buffer) d.buffer.items) d.buffer.len bytes in
    let world = ap (λ s. s.world) ran.same in
    let room : length (take d.slots.len (r.new.slots ++ drop (length r.new.slots) d.slots.items)) ≤ vec_capacity d.apps = omega (arith, ap length now, count, d.slots.ok.0, c.self.invariant.3) in
    (ran.device, ap length buffer ∙ bytes ∙ d.buffer.ok.0 ∙ c.self.invariant.1 ∙ sym (ap (λ w. w.layout.size) world), c.self.invariant.2, room)

pub returns-clause-setup : goal.returns-clause-setup
returns-clause-setup g c =
    let d = c.self.inside in
    let r = c.run_all-pass in
    let given : HasRunAll d.memory d.pass r.result d.key.items d.slots.items r.new.slots d.passes r.new.passes =
    subst (λ k. HasRunAll d.memory d.pass r.result k d.slots.items r.new.slots d.passes r.new.passes) c.deref.ensures.value (
    subst (λ s. HasRunAll d.memory d.pass r.result c.deref.result.now s r.new.slots d.passes r.new.passes) c.deref_mut.ensures.value r.ensures.ran) in
    let count : length r.new.slots ≡ d.slots.len = count_ran d.memory.world 1 d.pass.seen r.result.seen d.slots.items r.new.slots given.applications ∙ sym d.slots.ok.0 in
    let now : take d.slots.len (r.new.slots ++ drop (length r.new.slots) d.slots.items) ≡ r.new.slots = take_at r.new.slots (drop (length r.new.slots) d.slots.items) d.slots.len count in
    let ran = whole_ran c.own_entries.ensures.append c.runs_compose.ensures.own d.memory d.pass r.result d.key.items d.slots.items r.new.slots (take d.slots.len (r.new.slots ++ drop (length r.new.slots) d.slots.items)) d.passes r.new.passes c.close-core.result.world c.close-core.result.history
    c.self.invariant.0 given c.close-core.ensures.world c.close-core.ensures.history c.close-core.ensures.below now in
    ran.same ∙ c.self.view_is

pub returns-clause-done : goal.returns-clause-done
returns-clause-done g c =
    let d = c.self.inside in
    let r = c.run_all-pass in
    let given : HasRunAll d.memory d.pass r.result d.key.items d.slots.items r.new.slots d.passes r.new.passes =
    subst (λ k. HasRunAll d.memory d.pass r.result k d.slots.items r.new.slots d.passes r.new.passes) c.deref.ensures.value (
    subst (λ s. HasRunAll d.memory d.pass r.result c.deref.result.now s r.new.slots d.passes r.new.passes) c.deref_mut.ensures.value r.ensures.ran) in
    let count : length r.new.slots ≡ d.slots.len = count_ran d.memory.world 1 d.pass.seen r.result.seen d.slots.items r.new.slots given.applications ∙ sym d.slots.ok.0 in
    let now : take d.slots.len (r.new.slots ++ drop (length r.new.slots) d.slots.items) ≡ r.new.slots = take_at r.new.slots (drop (length r.new.slots) d.slots.items) d.slots.len count in
    let ran = whole_ran c.own_entries.ensures.append c.runs_compose.ensures.own d.memory d.pass r.result d.key.items d.slots.items r.new.slots (take d.slots.len (r.new.slots ++ drop (length r.new.slots) d.slots.items)) d.passes r.new.passes c.close-core.result.world c.close-core.result.history
    c.self.invariant.0 given c.close-core.ensures.world c.close-core.ensures.history c.close-core.ensures.below now in
    ran.done

pub returns-clause-waits : goal.returns-clause-waits
returns-clause-waits g c =
    let d = c.self.inside in
    let r = c.run_all-pass in
    let given : HasRunAll d.memory d.pass r.result d.key.items d.slots.items r.new.slots d.passes r.new.passes =
    subst (λ k. HasRunAll d.memory d.pass r.result k d.slots.items r.new.slots d.passes r.new.passes) c.deref.ensures.value (
    subst (λ s. HasRunAll d.memory d.pass r.result c.deref.result.now s r.new.slots d.passes r.new.passes) c.deref_mut.ensures.value r.ensures.ran) in
    let count : length r.new.slots ≡ d.slots.len = count_ran d.memory.world 1 d.pass.seen r.result.seen d.slots.items r.new.slots given.applications ∙ sym d.slots.ok.0 in
    let now : take d.slots.len (r.new.slots ++ drop (length r.new.slots) d.slots.items) ≡ r.new.slots = take_at r.new.slots (drop (length r.new.slots) d.slots.items) d.slots.len count in
    let ran = whole_ran c.own_entries.ensures.append c.runs_compose.ensures.own d.memory d.pass r.result d.key.items d.slots.items r.new.slots (take d.slots.len (r.new.slots ++ drop (length r.new.slots) d.slots.items)) d.passes r.new.passes c.close-core.result.world c.close-core.result.history
    c.self.invariant.0 given c.close-core.ensures.world c.close-core.ensures.history c.close-core.ensures.below now in
    ran.waits
