-- Digits that stand one by one in a line are the digits of their number.
use Rattle.std.proofs.Common.{◌≡◌, ℕ, List, [], ◌∷◌, ◌++◌, get_or, refl, sym, ap, ◌∙◌, subst, append_assoc}
use Rattle.hex.specs.Hex.{encode_with}
use Rattle.text_readers.specs.Digits.{word_digits, byte_digits}
use Rattle.trace.specs.Text.{width_digits, access_text}
use Rattle.history.specs.declared.events.Width.TheVariants.{Byte, Half, Word}

abbrev pub two : List ℕ → List ℕ → List ℕ
two d rest = get_or d 0 0 ∷ get_or d 1 0 ∷ rest

abbrev pub four : List ℕ → List ℕ → List ℕ
four d rest = two d (get_or d 2 0 ∷ get_or d 3 0 ∷ rest)

abbrev pub eight : List ℕ → List ℕ → List ℕ
eight d rest = four d (get_or d 4 0 ∷ get_or d 5 0 ∷ get_or d 6 0 ∷ get_or d 7 0 ∷ rest)

pub of_word : (d : List ℕ) (word : ℕ) (rest : List ℕ) → d ≡ word_digits word → eight d rest ≡ word_digits word ++ rest
unfolding encode_with
of_word d word rest is = subst (λ d. eight d rest ≡ word_digits word ++ rest) (sym is) refl

pub of_half : (d : List ℕ) (half : ℕ) (rest : List ℕ) → d ≡ width_digits Half half → four d rest ≡ width_digits Half half ++ rest
unfolding encode_with
of_half d half rest is = subst (λ d. four d rest ≡ width_digits Half half ++ rest) (sym is) refl

pub of_byte : (d : List ℕ) (byte : ℕ) (rest : List ℕ) → d ≡ byte_digits byte → two d rest ≡ byte_digits byte ++ rest
unfolding encode_with
of_byte d byte rest is = subst (λ d. two d rest ≡ byte_digits byte ++ rest) (sym is) refl

-- the end of a line of digits
pub word_access : (d v : List ℕ) (addr value : ℕ) → d ≡ word_digits addr → v ≡ word_digits value → 32 ∷ eight d (32 ∷ eight v (10 ∷ [])) ≡ access_text addr Word value ++ 10 ∷ []
unfolding encode_with
word_access d v addr value is told = ap (λ t. 32 ∷ t) (of_word d addr (32 ∷ eight v (10 ∷ [])) is ∙ ap (λ t. word_digits addr ++ 32 ∷ t) (of_word v value (10 ∷ []) told) ∙ sym (append_assoc (word_digits addr) (32 ∷ word_digits value) (10 ∷ [])))

pub half_access : (d v : List ℕ) (addr value : ℕ) → d ≡ word_digits addr → v ≡ width_digits Half value → 32 ∷ eight d (32 ∷ four v (10 ∷ [])) ≡ access_text addr Half value ++ 10 ∷ []
unfolding encode_with
half_access d v addr value is told = ap (λ t. 32 ∷ t) (of_word d addr (32 ∷ four v (10 ∷ [])) is ∙ ap (λ t. word_digits addr ++ 32 ∷ t) (of_half v value (10 ∷ []) told) ∙ sym (append_assoc (word_digits addr) (32 ∷ width_digits Half value) (10 ∷ [])))

pub byte_access : (d v : List ℕ) (addr value : ℕ) → d ≡ word_digits addr → v ≡ byte_digits value → 32 ∷ eight d (32 ∷ two v (10 ∷ [])) ≡ access_text addr Byte value ++ 10 ∷ []
unfolding encode_with
byte_access d v addr value is told = ap (λ t. 32 ∷ t) (of_word d addr (32 ∷ two v (10 ∷ [])) is ∙ ap (λ t. word_digits addr ++ 32 ∷ t) (of_byte v value (10 ∷ []) told) ∙ sym (append_assoc (word_digits addr) (32 ∷ byte_digits value) (10 ∷ [])))
