-- What was decoded has the word, and an instruction with the word is the one that was decoded.
use Rattle.std.proofs.Common.{arith}
use Rattle.rv_decode.proofs.WordLaws.{found_of, only_of, none_of}
use Rattle.rv_decode.proofs.decoding.decode.Goals as goal

pub returns-clause-found : goal.returns-clause-found
returns-clause-found c = found_of c.args.word c.decoded.result (omega arith) c.decoded.ensures

pub returns-clause-only : goal.returns-clause-only
returns-clause-only c = only_of c.args.word c.decoded.result c.decoded.ensures

pub returns-clause-none : goal.returns-clause-none
returns-clause-none c = none_of c.args.word c.decoded.result c.decoded.ensures
