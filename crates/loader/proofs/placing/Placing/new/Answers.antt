use Rattle.std.proofs.Common.{◌≡◌, true, ℕ, [], replicate, ap, ◌∙◌}
use Rattle.std.proofs.lemmas.List.Elements.{All-nil}
use Rattle.loader.specs.Placing.{is_entry}
use Rattle.loader.proofs.Image.{holds_none}
use Rattle.loader.proofs.InTurn.{no_test}
use Rattle.loader.proofs.placing.Placing.new.Goals as goal

pub returns : goal.returns
returns c = record {
  sound = no_test c.args.geometry.now [];
  spans_are = c.new.ensures.items;
  entries_are = c.new-2.ensures.items;
  entries_fit = All-nil (λ entry. is_entry c.args.geometry.now entry ≡ true);
  image_holds = holds_none c.args.geometry.now c.in_ok-image.image.items (c.in_ok-image.ensures.items ∙ ap (λ (n : ℕ). replicate n 0) c.byte_count.ensures.value) (c.in_ok-image.ensures.len ∙ c.byte_count.ensures.value);
}
