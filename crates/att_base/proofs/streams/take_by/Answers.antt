use Rattle.std.proofs.Common.{◌≡◌, ◌+◌, ◌++◌, length, take, arith, length-append, length-take}
use Rattle.att_base.proofs.StreamLemmas.{put_before-more, TakesTooMany-from_taken}
use Rattle.att_base.proofs.streams.take_by.Goals as goal

pub returns-then-count-room-clause-too_long : goal.returns-then-count-room-clause-too_long
returns-then-count-room-clause-too_long g c =
    let piece = take c.in-Ok.count c.read.new.into in
    let all : length (c.reading.bytes.items ++ piece) ≡ c.args.limit + 1 =
    omega (arith, c.in-Ok.ensures.bound, c.reading.bytes.ok.0, length-append c.reading.bytes.items piece, length-take c.in-Ok.count c.read.new.into, length-take c.min-asked.result c.reading.piece) in
    λ _. TakesTooMany-from_taken c.args.limit (c.reading.bytes.items ++ piece) _ _ (put_before-more _ _ _ _ _ c.reading.invariant.taken c.in-Ok.ensures.bytes) all

pub returns-then-count-room-clause-front : goal.returns-then-count-room-clause-front
returns-then-count-room-clause-front g c = record {
  taken = c.reading.bytes.items ++ take c.in-Ok.count c.read.new.into;
  was = put_before-more _ _ _ _ _ c.reading.invariant.taken c.in-Ok.ensures.bytes;
}

pub returns-in_default-extend_from_slice-clause-front : goal.returns-in_default-extend_from_slice-clause-front
returns-in_default-extend_from_slice-clause-front g c = record {
  taken = c.reading.bytes.items ++ take c.in-Ok.count c.read.new.into;
  was = put_before-more _ _ _ _ _ c.reading.invariant.taken c.in-Ok.ensures.bytes;
}
