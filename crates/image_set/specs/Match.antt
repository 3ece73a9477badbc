-- Known images, and the first of them that the tag of a report fits.
use Rattle.std.specs.Prelude.{ℕ, ◌*◌, Bool, List, ◌++◌, [], ◌∷◌, bytes_eq, position, Option}
use Rattle.std.specs.List.{list_any}
use Rattle.history.specs.Attested.{total}
use Rattle.chronicle.specs.declared.worlds.Shape.{Shape}
use Rattle.report.specs.declared.Report.{Report}
use Rattle.report.specs.Reports.{asked_of}
use Rattle.report.specs.Tags.{report_tag}
use Rattle.image_set.specs.declared.Image.{Image}

-- a set: where the attested blocks lie, and the images of their bytes in the order in which they were added
pub record Known : Type 0 where
  pub shape : Shape
  pub images : List Image

abbrev pub no_images : Shape → Known
no_images shape = record { shape = shape; images = [] }

abbrev pub with_image : Known → List ℕ → List ℕ → Known
with_image set name bytes =
    record set { images = set.images ++ (record { name = name; bytes = bytes }) ∷ [] }

-- how many bytes the attested blocks have
abbrev pub attested_length : Shape → ℕ
attested_length shape = shape.size * total shape.ranges

-- an image has this name
abbrev pub has_name : List ℕ → List Image → Bool
has_name name images = list_any (λ image. bytes_eq image.name name) images

-- the report's tag is that of these bytes
abbrev pub is_tag_of : List ℕ → Report → List ℕ → Bool
is_tag_of key report bytes = bytes_eq (report_tag key (asked_of report) report.shape bytes report.start report.end) report.tag

-- the least position, from 0, of an image whose bytes have the report's tag
unfoldable pub first_match : List ℕ → Report → List Image → Option ℕ
first_match key report images = position (λ image. is_tag_of key report image.bytes) images
