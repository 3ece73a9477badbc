-- What the outside shows at a moment.
use Rattle.std.specs.Prelude.{◌≡◌, ℕ, ◌≤◌, List, Option}
use Rattle.att_base.specs.Files.{FilesView}
use Rattle.att_base.specs.Streams.{put_after}

-- a stream: what it holds, or what is left of it, where it tells; and how often it has failed
pub record StreamView : Type 0 where
  pub bytes : Option (List ℕ)
  pub faults : ℕ

abbrev pub stream_view : Option (List ℕ) → ℕ → StreamView
stream_view bytes faults = record { bytes = bytes; faults = faults }

-- the stream with a piece after what it holds
abbrev pub with_appended : List ℕ → StreamView → StreamView
with_appended piece stream = record stream { bytes = put_after stream.bytes piece }

-- files, standard input, standard output and standard error
pub record Moment : Type 0 where
  pub files : FilesView
  pub input : StreamView
  pub out : StreamView
  pub err : StreamView

-- no count of faults has fallen
pub record NoCountFell (before after : Moment) : Type 0 where
  pub files : before.files.faults ≤ after.files.faults
  pub input : before.input.faults ≤ after.input.faults
  pub out : before.out.faults ≤ after.out.faults
  pub err : before.err.faults ≤ after.err.faults

-- nothing has failed
pub record NoCountRose (before after : Moment) : Type 0 where
  pub files : after.files.faults ≡ before.files.faults
  pub input : after.input.faults ≡ before.input.faults
  pub out : after.out.faults ≡ before.out.faults
  pub err : after.err.faults ≡ before.err.faults
