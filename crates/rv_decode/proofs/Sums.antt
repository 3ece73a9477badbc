-- A word is the sum of its fields, each at its place.
use Rattle.std.proofs.Common.{◌≡◌, ℕ, ◌<◌, ◌+◌, ◌*◌, ◌^◌, subst, arith}
use Rattle.rv_decode.specs.Fields.{field, opcode, rd, funct3, rs1, rs2, funct7}

-- the six fields of the formats, from bit 0 on, side by side
abbrev pub joined : ℕ → ℕ → ℕ → ℕ → ℕ → ℕ → ℕ
joined o d f a b g = o + d * 2 ^ 7 + f * 2 ^ 12 + a * 2 ^ 15 + b * 2 ^ 20 + g * 2 ^ 25

pub joined-small : (o d f a b g : ℕ) → o < 2 ^ 7 → d < 2 ^ 5 → f < 2 ^ 3 → a < 2 ^ 5 → b < 2 ^ 5 → g < 2 ^ 7 → joined o d f a b g < 2 ^ 32
joined-small o d f a b g po pd pf pa pb pg = omega arith

pub opcode-joined : (o d f a b g : ℕ) → o < 2 ^ 7 → opcode (joined o d f a b g) ≡ o
opcode-joined o d f a b g po = omega arith

pub rd-joined : (o d f a b g : ℕ) → o < 2 ^ 7 → d < 2 ^ 5 → rd (joined o d f a b g) ≡ d
rd-joined o d f a b g po pd = omega arith

pub funct3-joined : (o d f a b g : ℕ) → o < 2 ^ 7 → d < 2 ^ 5 → f < 2 ^ 3 → funct3 (joined o d f a b g) ≡ f
funct3-joined o d f a b g po pd pf = omega arith

pub rs1-joined : (o d f a b g : ℕ) → o < 2 ^ 7 → d < 2 ^ 5 → f < 2 ^ 3 → a < 2 ^ 5 → rs1 (joined o d f a b g) ≡ a
rs1-joined o d f a b g po pd pf pa = omega arith

pub rs2-joined : (o d f a b g : ℕ) → o < 2 ^ 7 → d < 2 ^ 5 → f < 2 ^ 3 → a < 2 ^ 5 → b < 2 ^ 5 → rs2 (joined o d f a b g) ≡ b
rs2-joined o d f a b g po pd pf pa pb = omega arith

pub funct7-joined : (o d f a b g : ℕ) → o < 2 ^ 7 → d < 2 ^ 5 → f < 2 ^ 3 → a < 2 ^ 5 → b < 2 ^ 5 → g < 2 ^ 7 → funct7 (joined o d f a b g) ≡ g
funct7-joined o d f a b g po pd pf pa pb pg = omega arith

-- the other fields, by these

pub upper12-split : (w : ℕ) → field 20 12 w ≡ rs2 w + funct7 w * 2 ^ 5
upper12-split w = omega arith

pub upper20-split : (w : ℕ) → field 12 20 w ≡ funct3 w + rs1 w * 2 ^ 3 + rs2 w * 2 ^ 8 + funct7 w * 2 ^ 13
upper20-split w = omega arith

pub bit31-split : (w : ℕ) → field 31 1 w ≡ field 6 1 (funct7 w)
bit31-split w = omega arith

pub bits21-split : (w : ℕ) → field 21 10 w ≡ field 1 4 (rs2 w) + field 0 6 (funct7 w) * 2 ^ 4
bits21-split w = omega arith

pub bit20-split : (w : ℕ) → field 20 1 w ≡ field 0 1 (rs2 w)
bit20-split w = omega arith

pub bits12-split : (w : ℕ) → field 12 8 w ≡ funct3 w + rs1 w * 2 ^ 3
bits12-split w = omega arith

-- the six fields of a word
pub record Parts (w o d f a b g : ℕ) : Type 0 where
  pub small : w < 2 ^ 32
  pub o_is : opcode w ≡ o
  pub d_is : rd w ≡ d
  pub f_is : funct3 w ≡ f
  pub a_is : rs1 w ≡ a
  pub b_is : rs2 w ≡ b
  pub g_is : funct7 w ≡ g

pub parts : (w o d f a b g : ℕ) → o < 2 ^ 7 → d < 2 ^ 5 → f < 2 ^ 3 → a < 2 ^ 5 → b < 2 ^ 5 → g < 2 ^ 7 → joined o d f a b g ≡ w → Parts w o d f a b g
parts w o d f a b g po pd pf pa pb pg e = subst (λ x. Parts x o d f a b g) e (record {
  small = joined-small o d f a b g po pd pf pa pb pg;
  o_is = opcode-joined o d f a b g po;
  d_is = rd-joined o d f a b g po pd;
  f_is = funct3-joined o d f a b g po pd pf;
  a_is = rs1-joined o d f a b g po pd pf pa;
  b_is = rs2-joined o d f a b g po pd pf pa pb;
  g_is = funct7-joined o d f a b g po pd pf pa pb pg;
})

-- from the sum of each format to its fields

pub r_parts : (w base o d f a b g : ℕ) → o < 2 ^ 7 → d < 2 ^ 5 → f < 2 ^ 3 → a < 2 ^ 5 → b < 2 ^ 5 → g < 2 ^ 7 → base ≡ o + f * 2 ^ 12 + g * 2 ^ 25 → base + (d * 2 ^ 7 + a * 2 ^ 15 + b * 2 ^ 20) ≡ w → Parts w o d f a b g
r_parts w base o d f a b g po pd pf pa pb pg q e = parts w o d f a b g po pd pf pa pb pg (omega arith)

pub i_parts : (w base o d f a x : ℕ) → o < 2 ^ 7 → d < 2 ^ 5 → f < 2 ^ 3 → a < 2 ^ 5 → x < 2 ^ 12 → base ≡ o + f * 2 ^ 12 → base + (d * 2 ^ 7 + a * 2 ^ 15 + x * 2 ^ 20) ≡ w → Parts w o d f a (field 0 5 x) (field 5 7 x)
i_parts w base o d f a x po pd pf pa px q e = parts w o d f a (field 0 5 x) (field 5 7 x) po pd pf pa (omega arith) (omega arith) (omega arith)

pub s_parts : (w base o d f a b g : ℕ) → o < 2 ^ 7 → d < 2 ^ 5 → f < 2 ^ 3 → a < 2 ^ 5 → b < 2 ^ 5 → g < 2 ^ 7 → base ≡ o + f * 2 ^ 12 → base + (d * 2 ^ 7 + a * 2 ^ 15 + b * 2 ^ 20 + g * 2 ^ 25) ≡ w → Parts w o d f a b g
s_parts w base o d f a b g po pd pf pa pb pg q e = parts w o d f a b g po pd pf pa pb pg (omega arith)

pub b_parts : (w base o f a b c l m h : ℕ) → o < 2 ^ 7 → f < 2 ^ 3 → a < 2 ^ 5 → b < 2 ^ 5 → c < 2 → l < 2 ^ 4 → m < 2 ^ 6 → h < 2 → base ≡ o + f * 2 ^ 12 → base + (c * 2 ^ 7 + l * 2 ^ 8 + a * 2 ^ 15 + b * 2 ^ 20 + m * 2 ^ 25 + h * 2 ^ 31) ≡ w → Parts w o (c + l * 2) f a b (m + h * 2 ^ 6)
b_parts w base o f a b c l m h po pf pa pb pc pl pm ph q e = parts w o (c + l * 2) f a b (m + h * 2 ^ 6) po (omega arith) pf pa pb (omega arith) (omega arith)

pub u_parts : (w o d x : ℕ) → o < 2 ^ 7 → d < 2 ^ 5 → x < 2 ^ 20 → o + (d * 2 ^ 7 + x * 2 ^ 12) ≡ w → Parts w o d (field 0 3 x) (field 3 5 x) (field 8 5 x) (field 13 7 x)
u_parts w o d x po pd px e = parts w o d (field 0 3 x) (field 3 5 x) (field 8 5 x) (field 13 7 x) po pd (omega arith) (omega arith) (omega arith) (omega arith) (omega arith)

pub j_parts : (w o d m c l h : ℕ) → o < 2 ^ 7 → d < 2 ^ 5 → m < 2 ^ 8 → c < 2 → l < 2 ^ 10 → h < 2 → o + (d * 2 ^ 7 + m * 2 ^ 12 + c * 2 ^ 20 + l * 2 ^ 21 + h * 2 ^ 31) ≡ w → Parts w o d (field 0 3 m) (field 3 5 m) (c + field 0 4 l * 2) (field 4 6 l + h * 2 ^ 6)
j_parts w o d m c l h po pd pm pc pl ph e = parts w o d (field 0 3 m) (field 3 5 m) (c + field 0 4 l * 2) (field 4 6 l + h * 2 ^ 6) po pd (omega arith) (omega arith) (omega arith) (omega arith) (omega arith)

-- from the fields of each format to their sum

pub r_sum : (w base d a b : ℕ) → w < 2 ^ 32 → base ≡ opcode w + funct3 w * 2 ^ 12 + funct7 w * 2 ^ 25 → d ≡ rd w → a ≡ rs1 w → b ≡ rs2 w → base + (d * 2 ^ 7 + a * 2 ^ 15 + b * 2 ^ 20) ≡ w
r_sum w base d a b h q ed ea eb = omega arith

pub i_sum : (w base d a x : ℕ) → w < 2 ^ 32 → base ≡ opcode w + funct3 w * 2 ^ 12 → d ≡ rd w → a ≡ rs1 w → x ≡ field 20 12 w → base + (d * 2 ^ 7 + a * 2 ^ 15 + x * 2 ^ 20) ≡ w
i_sum w base d a x h q ed ea ex = omega arith

pub s_sum : (w base d a b g : ℕ) → w < 2 ^ 32 → base ≡ opcode w + funct3 w * 2 ^ 12 → d ≡ rd w → a ≡ rs1 w → b ≡ rs2 w → g ≡ funct7 w → base + (d * 2 ^ 7 + a * 2 ^ 15 + b * 2 ^ 20 + g * 2 ^ 25) ≡ w
s_sum w base d a b g h q ed ea eb eg = omega arith

pub b_sum : (w base a b c l m k : ℕ) → w < 2 ^ 32 → base ≡ opcode w + funct3 w * 2 ^ 12 → a ≡ rs1 w → b ≡ rs2 w → c ≡ field 7 1 w → l ≡ field 8 4 w → m ≡ field 25 6 w → k ≡ field 31 1 w → base + (c * 2 ^ 7 + l * 2 ^ 8 + a * 2 ^ 15 + b * 2 ^ 20 + m * 2 ^ 25 + k * 2 ^ 31) ≡ w
b_sum w base a b c l m k h q ea eb ec el em ek = omega arith

pub u_sum : (w o d x : ℕ) → w < 2 ^ 32 → o ≡ opcode w → d ≡ rd w → x ≡ field 12 20 w → o + (d * 2 ^ 7 + x * 2 ^ 12) ≡ w
u_sum w o d x h q ed ex = omega arith

pub j_sum : (w o d m c l k : ℕ) → w < 2 ^ 32 → o ≡ opcode w → d ≡ rd w → m ≡ field 12 8 w → c ≡ field 20 1 w → l ≡ field 21 10 w → k ≡ field 31 1 w → o + (d * 2 ^ 7 + m * 2 ^ 12 + c * 2 ^ 20 + l * 2 ^ 21 + k * 2 ^ 31) ≡ w
j_sum w o d m c l k h q ed em ec el ek = omega arith

pub word_sum : (w o r : ℕ) → o ≡ opcode w → r ≡ field 7 25 w → w < 2 ^ 32 → o + r * 2 ^ 7 ≡ w
word_sum w o r eo er h = omega arith
