use Rattle.std.proofs.Common.{◌≡◌, drop, Some, sym, ap, ◌∙◌}
use Rattle.std.proofs.lemmas.List.{take_rest}
use Rattle.att_base.proofs.StreamLemmas.{drop-moved}
use Rattle.att_base.proofs.memory.MemSourceSource.read.Goals as goal

pub returns-clause-bytes : goal.returns-clause-bytes
returns-clause-bytes c =
    let fields = c.self.inside in
    let left_is : drop fields.at fields.bytes.items ≡ c.args.self.now.left = ap (λ s. s.left) c.self.view_is in
    ap Some (sym left_is ∙ drop-moved fields.bytes.items _ fields.at _ (rw (take_rest, c.deref.ensures.value) at c.copy_front-count.ensures.copied))
