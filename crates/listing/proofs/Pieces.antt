-- A line, piece by piece.
use Rattle.std.proofs.Common.{◌≡◌, ℕ, List, ◌++◌, append_assoc, codes}

pub line_joined : (a d t : List ℕ) → ((((a ++ codes " ") ++ d) ++ codes " ") ++ t) ++ codes "\n" ≡ a ++ (codes " " ++ (d ++ (codes " " ++ (t ++ codes "\n"))))
line_joined a d t = simp append_assoc

pub byte_joined : (a d : List ℕ) → ((((a ++ codes " ") ++ d) ++ codes " .byte 0x") ++ d) ++ codes "\n" ≡ a ++ (codes " " ++ (d ++ (codes " " ++ ((codes ".byte 0x" ++ d) ++ codes "\n"))))
byte_joined a d = simp append_assoc
