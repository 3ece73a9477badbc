-- What reading answers is what the bytes are.
use Rattle.std.proofs.Common.{rules, arith, ◌≡◌, Ok, Err}
use Rattle.challenge.specs.declared.faults.ChallengeFault.TheVariants.{Malformed, BadMac}
use Rattle.challenge.specs.Bytes.{spelled_challenge, challenge_in}
use Rattle.challenge.proofs.Spelling.{reading_of}
use Rattle.challenge.proofs.bytes.read.Goals as goal

pub returns-in_default-clause-reading : goal.returns-in_default-clause-reading
unfolding spelled_challenge challenge_in
returns-in_default-clause-reading c =
    let value : Err Malformed ≡ challenge_in c.args.key.now c.args.bytes.now = search rules in
    reading_of c.args.key.now c.args.bytes.now (Err Malformed) (λ i. omega (arith, c.type_inv.bytes i)) value

pub returns-then-ne-clause-reading : goal.returns-then-ne-clause-reading
unfolding spelled_challenge challenge_in
returns-then-ne-clause-reading c =
    let value : Err BadMac ≡ challenge_in c.args.key.now c.args.bytes.now = search rules in
    reading_of c.args.key.now c.args.bytes.now (Err BadMac) (λ i. omega (arith, c.type_inv.bytes i)) value

pub returns-clause-reading : goal.returns-clause-reading
unfolding spelled_challenge challenge_in
returns-clause-reading c =
    let value : Ok c.in-Some.challenge ≡ challenge_in c.args.key.now c.args.bytes.now = search rules in
    reading_of c.args.key.now c.args.bytes.now (Ok c.in-Some.challenge) (λ i. omega (arith, c.type_inv.bytes i)) value
