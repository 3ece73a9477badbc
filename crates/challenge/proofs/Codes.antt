-- The discipline with a code.
use Rattle.std.proofs.Common.{◌≡◌, ℕ, false, eqb, Option, Some, None, refl, sym, subst}
use Rattle.std.specs.Prelude.{IfSome, IfNone}
use Rattle.std.proofs.lemmas.Bool.{ne_eqb}
use Rattle.history.specs.declared.events.Discipline.{Discipline}
use Rattle.history.specs.declared.events.Discipline.TheVariants.{All, AllExt, Dec, Inc, IncExt}
use Rattle.history.specs.Names.{code_of}
use Rattle.challenge.specs.Numbers.{discipline_with}

pub code_stands : (d : Discipline) → discipline_with (code_of d) ≡ Some d
unfolding discipline_with
code_stands All = refl
code_stands AllExt = refl
code_stands Dec = refl
code_stands Inc = refl
code_stands IncExt = refl

no_code : (code : ℕ) → ((d : Discipline) → code_of d ≡ code → ⊥) → discipline_with code ≡ None
unfolding discipline_with
no_code code none =
    let all : eqb code 1 ≡ false = ne_eqb code 1 (λ e. none All (sym e)) in
    let all_ext : eqb code 2 ≡ false = ne_eqb code 2 (λ e. none AllExt (sym e)) in
    let dec : eqb code 3 ≡ false = ne_eqb code 3 (λ e. none Dec (sym e)) in
    let inc : eqb code 4 ≡ false = ne_eqb code 4 (λ e. none Inc (sym e)) in
    let inc_ext : eqb code 5 ≡ false = ne_eqb code 5 (λ e. none IncExt (sym e)) in
    rw (all, all_ext, dec, inc, inc_ext) refl

pub code_found : (r : Option Discipline) (code : ℕ) → IfSome r (λ d. code_of d ≡ code) → IfNone r ((d : Discipline) → code_of d ≡ code → ⊥) → r ≡ discipline_with code
code_found None code found none = sym (no_code code none)
code_found (Some d) code found none = sym (subst (λ (n : ℕ). discipline_with n ≡ Some d) found (code_stands d))
