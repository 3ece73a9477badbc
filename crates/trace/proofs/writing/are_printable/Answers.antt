-- One entry more.
use Rattle.std.proofs.Common.{refl, All, subst, take_all}
use Rattle.std.proofs.lemmas.List.Elements.{All-more}
use Rattle.history.specs.declared.events.Act.TheVariants.{Fetch}
use Rattle.history.specs.declared.events.Entry.{Entry}
use Rattle.trace.specs.Printable.{IsPrintable}
use Rattle.trace.proofs.writing.are_printable.Goals as goal

pub loop-entry-preserved : goal.loop-entry-preserved
loop-entry-preserved c =
    let default : Entry = record { actor = 0; act = Fetch 0 0 } in
    All-more IsPrintable c.args.entries.now c.loop-entry.entry-index default c.loop-entry-test.true c.loop-entry.invariant (c.if-not-is_printable.ensures.0 refl)

pub returns : goal.returns
returns c = (λ _. subst (λ l. All IsPrintable l) (take_all c.loop-entry.entry-index c.args.entries.now c.loop-entry-test.false) c.loop-entry.invariant, λ _. refl)
