use Rattle.std.proofs.Common.{◌≡◌, ℕ, true, List, [], ◌∷◌, ◌++◌, if◌then◌else◌, Some, None, Bool, sym, ap, subst, ◌∙◌}
use Rattle.std.proofs.lemmas.List.{append-nil}
use Rattle.std.specs.Prelude.{All}
use Rattle.std.proofs.lemmas.List.Elements.{All-push}
use Rattle.elf32.specs.Files.{FileSegment}
use Rattle.loader.specs.declared.faults.PlaceFault.TheVariants.{EntryOutside}
use Rattle.loader.specs.Placing.{Holds, is_entry, spans, segments, entries}
use Rattle.loader.specs.Placing.Test.{TryEntry}
use Rattle.loader.proofs.InTurn.{next_test, spans-append, segments-append, entries-append}
use Rattle.loader.proofs.placing.Placing.entry.Goals as goal

pub returns-then-not-is_entry-clause-outcome : goal.returns-then-not-is_entry-clause-outcome
returns-then-not-is_entry-clause-outcome c = λ done passed.
    next_test c.args.geometry.now done (TryEntry c.args.app c.args.entry) passed.sound
    ∙ ap (λ (b : Bool). if b then None else Some (EntryOutside c.args.app)) (sym c.is_entry.ensures ∙ c.if-not-is_entry.true)

pub returns-clause-outcome : goal.returns-clause-outcome
returns-clause-outcome c = λ done passed. record {
  sound = next_test c.args.geometry.now done (TryEntry c.args.app c.args.entry) passed.sound
      ∙ ap (λ (b : Bool). if b then None else Some (EntryOutside c.args.app)) (sym c.is_entry.ensures ∙ c.if-not-is_entry.false);
  spans_are = passed.spans_are ∙ sym (append-nil (spans done)) ∙ sym (spans-append done (TryEntry c.args.app c.args.entry ∷ []));
  entries_are = c.in-Ok.ensures.items ∙ ap (λ (xs : List ℕ). xs ++ c.args.entry ∷ []) passed.entries_are ∙ sym (entries-append done (TryEntry c.args.app c.args.entry ∷ []));
  entries_fit = subst (λ (es : List ℕ). All (λ e. is_entry c.args.geometry.now e ≡ true) es) (sym (entries-append done (TryEntry c.args.app c.args.entry ∷ [])))
      (All-push (λ e. is_entry c.args.geometry.now e ≡ true) (entries done) c.args.entry passed.entries_fit (sym c.is_entry.ensures ∙ c.if-not-is_entry.false));
  image_holds = subst (λ (ss : List FileSegment). Holds c.args.geometry.now c.args.self.now.image.items ss) (sym (append-nil (segments done)) ∙ sym (segments-append done (TryEntry c.args.app c.args.entry ∷ []))) passed.image_holds;
}
