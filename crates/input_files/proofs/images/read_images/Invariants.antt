use Rattle.std.proofs.Common.{◌≡◌, ◌≤◌, length, drop}
use Rattle.image_set.specs.Match.{no_images}
use Rattle.input_files.specs.InputFiles.{total_bytes}
use Rattle.input_files.proofs.ImageSteps.{GoesOn}
use Rattle.input_files.proofs.images.read_images.Given as goal

-- what comes of the names that are left, from this set on, is what comes of all
abbrev pub invariant-loop-name : goal.invariant-loop-name
invariant-loop-name g l = record {
  goes : GoesOn (drop l.name-index l.names) l.set l.names (no_images l.fn.shape) (g.F.Files.shows l.fn.files) (g.F.Files.shows l.files);
  shape : l.set.shape ≡ l.fn.shape;
  count : length l.set.images ≡ l.name-index;
  sum : l.total ≡ total_bytes l.set.images;
  room : l.total ≤ 67108864;
}
