-- Files that are written under different names have their bytes.
use Rattle.std.proofs.Common.{◌≡◌, ◌≢◌, ℕ, List, [], ◌∷◌, All, Bool, true, false, not, Option, None, Some, refl, sym, ◌∙◌}
use Rattle.std.specs.Prelude.{◌||◌, bytes_eq}
use Rattle.std.specs.List.{AllByRecursion as ByRecursion}
use Rattle.std.proofs.lemmas.Bool.{and_parts, false≢true, not-true}
use Rattle.std.proofs.lemmas.List.Elements.{All-from_recursion}
use Rattle.std.proofs.lemmas.Slice.Eq.{bytes_eq-Decides}
use Rattle.att_base.specs.Files.{Contents, NamedBytes, with_name, put_under}
use Rattle.att_base.proofs.FileLemmas.{others_stay}
use Rattle.device_config.specs.Names.{is_among, all_different}
use Rattle.device_commands.specs.RunWritten.{names_of}
use Rattle.attest_top.specs.Headline.{HasBytes}
use Rattle.attest_top.specs.Outcomes.{after_files}
use Rattle.attest_top.proofs.Inverse.{put_held}

neither : (a b : Bool) → (a || b) ≡ false → (a ≡ false) × (b ≡ false)
neither true b is = absurd (false≢true (sym is))
neither false b is = (refl, is)

other_text : (a b : List ℕ) → bytes_eq a b ≡ false → a ≢ b
other_text a b apart = λ same. false≢true (sym apart ∙ (bytes_eq-Decides a b).1 same)

-- none of the files has a name that isn't among theirs
apart_from : (name : List ℕ) (files : List NamedBytes) → is_among (names_of files) name ≡ false → ByRecursion (λ file. file.name ≢ name) files
apart_from name [] out = tt
apart_from name (file ∷ files) out =
    let both = neither (bytes_eq file.name name) (is_among (names_of files) name) out in
    (other_text file.name name both.0, apart_from name files both.1)

put_keeps : (old : Option Contents) (name bytes other held : List ℕ) → name ≢ other → HasBytes old other held → HasBytes (put_under old name bytes) other held
put_keeps None name bytes other held apart has = λ known tells. cc
put_keeps (Some contents) name bytes other held apart has = λ known tells.
    let same : with_name contents name bytes ≡ known = cc in
    rw (← same) (others_stay contents name bytes other apart ∙ has contents refl)

-- a name that none of the files has keeps its bytes
keeps_bytes : (files : List NamedBytes) (old : Option Contents) (name bytes : List ℕ) → ByRecursion (λ file. file.name ≢ name) files → HasBytes old name bytes → HasBytes (after_files files old) name bytes
keeps_bytes [] old name bytes apart has = has
keeps_bytes (file ∷ files) old name bytes apart has =
    keeps_bytes files (put_under old file.name file.bytes) name bytes apart.1 (put_keeps old file.name file.bytes name bytes apart.0 has)

each_told : (files : List NamedBytes) (old : Option Contents) → all_different (names_of files) ≡ true → ByRecursion (λ file. HasBytes (after_files files old) file.name file.bytes) files
each_told [] old differ = tt
each_told (file ∷ files) old differ =
    let both = and_parts (not (is_among (names_of files) file.name)) (all_different (names_of files)) differ in
    let now = put_under old file.name file.bytes in (
      keeps_bytes files now file.name file.bytes (apart_from file.name files (not-true (is_among (names_of files) file.name) both.0)) (put_held old now file.name file.bytes refl),
      each_told files now both.1,
    )

-- each of the files has its bytes once all are written
pub files_told : (files : List NamedBytes) (old : Option Contents) → all_different (names_of files) ≡ true → All (λ file. HasBytes (after_files files old) file.name file.bytes) files
files_told files old differ = All-from_recursion (λ (file : NamedBytes). HasBytes (after_files files old) file.name file.bytes) files (each_told files old differ)
