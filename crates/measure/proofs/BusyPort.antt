-- A step after entries of others.
use Rattle.std.proofs.Common.{ℕ, List, reverse, ap, ◌∙◌, subst}
use Rattle.std.specs.Prelude.{IsTrue}
use Rattle.history.specs.declared.events.Act.{Act}
use Rattle.history.specs.declared.events.Entry.{Entry}
use Rattle.history.specs.Layout.{Setting}
use Rattle.history.specs.Pass.{pass_after}
use Rattle.history.specs.Legal.{IsLegal, in_order}
use Rattle.chronicle.specs.declared.answers.Step.{Step}
use Rattle.chronicle.specs.declared.answers.Step.TheVariants.{Done, Full}
use Rattle.chronicle.specs.Ports.{AddsEntry, HasStepped, OthersFollow}
use Rattle.measure.proofs.Steps.{OrderStays, OwnNone}

abbrev pub OthersJoin : Type 0
OthersJoin = (low high : ℕ) (first second third : List Entry) → OthersFollow low high first second → OthersFollow low high second third → OthersFollow low high first third

abbrev pub AddedJoin : Type 0
AddedJoin = (low high : ℕ) (first second third : List Entry) (entry : Entry) → OthersFollow low high first second → AddsEntry low high second third entry → AddsEntry low high first third entry

pub in_order_after : OrderStays → OwnNone → (w : Setting) (old middle : List Entry) (a : Act) → IsLegal w middle → OthersFollow 0 1 old middle → IsTrue (in_order w (pass_after (reverse old)) a) → IsTrue (in_order w (pass_after (reverse middle)) a)
in_order_after order none w old middle a legal f may =
    let whole = order w old f.rest (subst (IsLegal w) f.whole legal) (none 0 1 f.rest f.beyond) a in
    ap (λ l. in_order w (pass_after (reverse l)) a) f.whole ∙ whole ∙ may

pub stepped_after : OthersJoin → AddedJoin → (w : Setting) (old middle new : List Entry) (a : Act) (answer : Step) → OthersFollow 0 1 old middle → HasStepped w 0 1 middle new a answer → HasStepped w 0 1 old new a answer
stepped_after others added w old middle new a (Done place) f h = (added 0 1 old middle new (record { actor = 0; act = a }) f h.0, h.1)
stepped_after others added w old middle new a (Full place) f h = (others 0 1 old middle new f h.0, h.1, h.2)
