-- Images, one after the other.
use Rattle.std.proofs.Common.{◌≡◌, ℕ, ◌+◌, List, [], ◌∷◌, ◌++◌, length, Result, Ok, Err, arith}
use Rattle.std.proofs.lemmas.List.Sums.{sum_by-append}
use Rattle.std.specs.Result.{IsErrAnd}
use Rattle.att_base.specs.Files.{FilesView}
use Rattle.image_set.specs.declared.Image.{Image}
use Rattle.image_set.specs.Match.{Known, with_image}
use Rattle.command_plans.specs.Steps.{Reason}
use Rattle.command_plans.specs.declared.output.Stop.{Stop}
use Rattle.command_plans.specs.Answered.{ReadsBy, came_of, reason_of}
use Rattle.command_plans.proofs.Binds.{goes_on, stops}
use Rattle.input_files.specs.InputFiles.{ImageIn, ReadImages, total_bytes}

-- the bytes of a set with one image more
pub total_with : (set : Known) (name bytes : List ℕ) → total_bytes (with_image set name bytes).images ≡ total_bytes set.images + length bytes
total_with set name bytes =
    let image : Image = record { name = name; bytes = bytes } in
    let parts : total_bytes (set.images ++ image ∷ []) ≡ total_bytes set.images + total_bytes (image ∷ []) = sum_by-append (λ (i : Image). length i.bytes) set.images (image ∷ []) in
    let one : total_bytes (image ∷ []) ≡ length bytes = omega arith in
    omega (arith, parts, one)

-- what comes of the rest of the names, from this set on, comes of all names from the first set on
pub record GoesOn (rest : List (List ℕ)) (set : Known) (names : List (List ℕ)) (start : Known) (old mid : FilesView) : Type 0 where
  pub on : (came : Result Known Reason) (new : FilesView) → ReadsBy (ReadImages rest set) came mid new → ReadsBy (ReadImages names start) came old new

pub begins : (names : List (List ℕ)) (start : Known) (old : FilesView) → GoesOn names start names start old old
begins names start old = record { on = λ came new reads. reads }

-- one image more
pub one_more : (rest behind names : List (List ℕ)) (name : List ℕ) (set more start : Known) (old mid next : FilesView) → GoesOn rest set names start old mid → rest ≡ name ∷ behind
    → ReadsBy (ImageIn name set) (Ok more) mid next → GoesOn behind more names start old next
one_more rest behind names name set more start old mid next g split image = record {
  on = λ came new reads.
      let all : ReadsBy (ReadImages (name ∷ behind) set) came mid new = goes_on (ImageIn name set) (ReadImages behind) more came mid next new image reads in
      g.on came new (rw split all);
}

-- an image that stops it
pub image_stops : (rest behind names : List (List ℕ)) (name : List ℕ) (set start : Known) (result : Result Known Stop) (stop : Stop) (old mid new : FilesView) → GoesOn rest set names start old mid → rest ≡ name ∷ behind
    → IsErrAnd result (λ e. e ≡ stop) → ReadsBy {A = Known} (ImageIn name set) (Err (reason_of stop)) mid new → ReadsBy {A = Known} (ReadImages names start) (came_of (λ (v : Known). v) result) old new
image_stops rest behind names name set start result stop old mid new g split is image =
    let came : Result Known Reason = came_of (λ (v : Known). v) result in
    let all : ReadsBy {A = Known} (ReadImages (name ∷ behind) set) came mid new = stops (ImageIn name set) (ReadImages behind) (λ v. v) result stop mid new is image in
    g.on came new (rw split all)
