use Rattle.std.proofs.Common.{◌≡◌, ℕ, ◌+◌, drop, length, sym, ap, subst, ◌∙◌, arith}
use Rattle.std.proofs.lemmas.List.{take_at}
use Rattle.history.specs.Layout.{byte_count}
use Rattle.history.specs.Memory.{memory_at}
use Rattle.trace.specs.Index.{IsWindow}
use Rattle.trace.proofs.Copies.{copy_length, copy_window, whole_window}
use Rattle.trace.proofs.index.next_copy.Goals as goal

pub returns : goal.returns
returns c = λ w base is.
    let h = c.args.entries.now in
    let window = c.replay.new.window in
    let kept : length window ≡ c.in_ok-next.next.len = omega (arith, c.replay.auto.window, c.deref_mut.ensures.len) in
    let copied : c.deref_mut.result.now ≡ c.args.copy.now = c.deref_mut.ensures.value ∙ c.in_ok-next.ensures.items in
    let long : length window ≡ byte_count w.layout = c.replay.auto.window ∙ ap length copied ∙ copy_length w h c.args.place c.args.copy.now is in
    let later = c.replay.ensures w (copy_window w h c.args.place c.args.base c.deref_mut.result.now base (copied ∙ is)) in
    let based = subst (λ (low : ℕ). IsWindow (memory_at w h (c.args.place + 65536)) low window) (sym base) later in
    take_at window (drop (length window) c.in_ok-next.next.items) c.in_ok-next.next.len kept ∙ whole_window w h (c.args.place + 65536) window long based
