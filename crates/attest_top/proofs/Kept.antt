-- Which names keep what they hold.
use Rattle.std.proofs.Common.{◌≡◌, ◌≢◌, ℕ, List, [], ◌∷◌, ◌++◌, All, Any, Option, Some, None, Ok, Err, refl, ap, ◌∙◌}
use Rattle.std.specs.List.{AllByRecursion as ByRecursion, slice_index_or}
use Rattle.std.proofs.lemmas.List.Elements.{All-head, All-tail, All-from_recursion, recursion_from_All, Contains-get_or}
use Rattle.att_base.specs.Files.{Contents, NamedBytes, with_name, put_under, PutsFront, untouched, begun}
use Rattle.att_base.proofs.FileLemmas.{others_stay}
use Rattle.command_plans.specs.Written.{Written}
use Rattle.attest_top.specs.declared.status.Status.{Status}
use Rattle.attest_top.specs.Moments.{Moment}
use Rattle.attest_top.specs.Plans.{Plan, misused, planned}
use Rattle.attest_top.specs.Outcomes.{after_files, FilesCut, CarriesOut, wrote, file_failed, wants_memory, out_failed, ComesTo}
use Rattle.attest_top.specs.Promise.{IsWrittenBy, KeepsOthers}

-- each name but those of P keeps what it holds
abbrev Keeps : (List ℕ → Type 0) → Option Contents → Option Contents → Type 0
Keeps P old new = (known : Contents) → old ≡ Some known → (now : Contents) × (new ≡ Some now) × ((name : List ℕ) → (P name → ⊥) → now name ≡ known name)

keeps_same : (P : List ℕ → Type 0) (old new : Option Contents) → new ≡ old → Keeps P old new
keeps_same P old new same = λ known is. (known, same ∙ is, λ name apart. refl)

keeps_both : (P : List ℕ → Type 0) (old middle new : Option Contents) → Keeps P old middle → Keeps P middle new → Keeps P old new
keeps_both P old middle new first second = λ known is.
    let a = first known is in
    let b = second a.0 a.1 in
    (b.0, b.1, λ name apart. b.2 name apart ∙ a.2 name apart)

other_name : (P : List ℕ → Type 0) (name other : List ℕ) → P name → (P other → ⊥) → name ≢ other
other_name P name other is apart = λ same. apart (rw same at is)

keeps_put : (P : List ℕ → Type 0) (old : Option Contents) (name bytes : List ℕ) → P name → Keeps P old (put_under old name bytes)
keeps_put P None name bytes is = λ known told. cc
keeps_put P (Some held) name bytes is = λ known told.
    (with_name held name bytes, refl, λ other apart. let same : held ≡ known = cc in others_stay held name bytes other (other_name P name other is apart) ∙ ap (λ (h : Contents). h other) same)

keeps_files : (P : List ℕ → Type 0) (files : List NamedBytes) (old : Option Contents) → All (λ file. P file.name) files → Keeps P old (after_files files old)
keeps_files P [] old all = keeps_same P old old refl
keeps_files P (file ∷ files) old all =
    keeps_both P old (put_under old file.name file.bytes) (after_files files (put_under old file.name file.bytes)) (keeps_put P old file.name file.bytes (All-head (λ (f : NamedBytes). P f.name) file files all)) (keeps_files P files (put_under old file.name file.bytes) (All-tail (λ (f : NamedBytes). P f.name) file files all))

front_of : (P : List ℕ → Type 0) (before behind : List NamedBytes) → ByRecursion (λ file. P file.name) (before ++ behind) → ByRecursion (λ file. P file.name) before
front_of P [] behind all = tt
front_of P (file ∷ before) behind all = (all.0, front_of P before behind all.1)

behind_of : (P : List ℕ → Type 0) (before behind : List NamedBytes) → ByRecursion (λ file. P file.name) (before ++ behind) → ByRecursion (λ file. P file.name) behind
behind_of P [] behind all = all
behind_of P (file ∷ before) behind all = behind_of P before behind all.1

keeps_front : (P : List ℕ → Type 0) (old new : Option Contents) (name bytes : List ℕ) → P name → PutsFront old new name bytes → Keeps P old new
keeps_front P old new name bytes is (untouched same) = keeps_same P old new same
keeps_front P old new name bytes is (begun count within grown) = rw grown (keeps_put P old name _ is)

keeps_cut : (P : List ℕ → Type 0) (files : List NamedBytes) (old new : Option Contents) → All (λ file. P file.name) files → FilesCut files old new → Keeps P old new
keeps_cut P files old new all cut =
    let parted : ByRecursion (λ (f : NamedBytes). P f.name) (cut.earlier ++ (cut.file ∷ cut.later)) = recursion_from_All (λ (f : NamedBytes). P f.name) (cut.earlier ++ (cut.file ∷ cut.later)) (rw cut.split at all) in
    keeps_both P old (after_files cut.earlier old) new (keeps_files P cut.earlier old (All-from_recursion (λ (f : NamedBytes). P f.name) cut.earlier (front_of P cut.earlier (cut.file ∷ cut.later) parted)))
    (keeps_front P (after_files cut.earlier old) new cut.file.name cut.file.bytes (behind_of P cut.earlier (cut.file ∷ cut.later) parted).0 cut.front)

keeps_written : (P : List ℕ → Type 0) (w : Written) (status : Status) (before after : Moment) → All (λ file. P file.name) w.files → CarriesOut w status before after → Keeps P before.files.held after.files.held
keeps_written P w status before after names (wrote files out says) = rw files.held (keeps_files P w.files before.files.held names)
keeps_written P w status before after names (file_failed files rose out says) = keeps_cut P w.files before.files.held after.files.held names files
keeps_written P w status before after names (wants_memory files same out says) = keeps_cut P w.files before.files.held after.files.held names files
keeps_written P w status before after names (out_failed files front rose says) = rw files.held (keeps_files P w.files before.files.held names)

own_names : (files : List NamedBytes) → All (λ file. Any (λ other. other.name ≡ file.name) files) files
own_names files = λ k d below.
    let inside = Contains-get_or files k d below in
    (inside.0, slice_index_or files k d, inside.1, inside.2, refl)

-- the names that a plan doesn't write keep what they hold
pub others_kept : (plan : Plan) (status : Status) (before after : Moment) → ComesTo plan status before after → KeepsOthers plan before.files.held after.files.held
others_kept misused status before after comes = keeps_same (IsWrittenBy misused) before.files.held after.files.held comes.files
others_kept (planned (Ok w)) status before after comes = keeps_written (IsWrittenBy (planned (Ok w))) w status before after (own_names w.files) comes
others_kept (planned (Err reason)) status before after comes = keeps_same (IsWrittenBy (planned (Err reason))) before.files.held after.files.held comes.files
