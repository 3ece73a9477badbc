-- The lemmas on a pass and one entry more.
use Rattle.chronicle.proofs.Others.{pass_more, bytes_more, ends_at, bytes_at_end, releases_at, unreleased_at, ended_whole}
use Rattle.chronicle.proofs.laws.places_of_a_pass.Goals as goal

pub returns : goal.returns
returns c = record {
  step = pass_more;
  bytes = bytes_more;
  ends = ends_at;
  end_bytes = bytes_at_end;
  releases = releases_at;
  unreleased = unreleased_at;
  whole = ended_whole;
}
