use Rattle.std.proofs.Common.{◌≡◌, length, take}
use Rattle.history.specs.Attested.{attested_blocks}
use Rattle.chronicle.specs.Ports.{KeepsPort}
use Rattle.measure.specs.declared.passing.Part.TheVariants as part
use Rattle.measure.specs.Program.{copies}
use Rattle.measure.specs.Passing.{HasCopiedBlocks}
use Rattle.measure.proofs.passing.copy_blocks.Given as goal

abbrev pub invariant-copying : goal.invariant-copying
invariant-copying g l = record {
  port : KeepsPort (g.P.Viewed.owner l.fn.port) (g.P.Viewed.owner l.port) (g.P.Viewed.world l.fn.port) (g.P.Viewed.world l.port) (g.P.Viewed.low l.fn.port) (g.P.Viewed.low l.port) (g.P.Viewed.high l.fn.port) (g.P.Viewed.high l.port);
  room : length l.buffer ≡ length l.fn.buffer;
  copied : HasCopiedBlocks (g.P.Viewed.world l.fn.port) (g.P.Viewed.seen l.fn.port) (g.P.Viewed.seen l.port) l.fn.passing l.passing
      (copies (take l.index (attested_blocks (g.P.Viewed.world l.fn.port).ranges))) l.index part.Made;
}
