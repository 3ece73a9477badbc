use Rattle.std.proofs.Common.{refl}
use Rattle.std.specs.Fmt.{digits}
use Rattle.hex.specs.Hex.{encode_with}
use Rattle.rv_decode.specs.Table.{listed}
use Rattle.rv_decode.specs.Words.{instr_of}
use Rattle.listing.specs.Listing.{items}
use Rattle.listing.proofs.worked.odd_bytes_are_listed.Goals as goal

pub returns : goal.returns
unfolding encode_with listed items digits instr_of
returns c = refl
