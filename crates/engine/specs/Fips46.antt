-- FIPS PUB 46, the Data Encryption Standard. The standard goes from the whole to the parts; here each part stands before what uses it.
use Rattle.std.specs.Prelude.{List, [], ◌∷◌, reverse, ℕ, ◌+◌, ◌-◌, ◌*◌, ◌/◌, ◌%◌, ◌^◌, get_or}
use Rattle.std.specs.Int.Bits.{bit_xor}
use Rattle.ground.specs.Rows.{row, digits}
use Rattle.engine.specs.Bits.{permuted}
use Rattle.engine.specs.Tables.{IP, IP⁻¹, E, P, PC-1, PC-2, shifts, S1, S2, S3, S4, S5, S6, S7, S8}

-- ---- the cipher function f

-- Of the six bits of b the first and the last name a row of the box, the four between them a column.
unfoldable pub selected : List ℕ → ℕ → ℕ
selected box b = get_or box ((b / 32 * 2 + b % 2) * 16 + b / 2 % 16) 0

-- S1(B1) S2(B2) .. : each box for its six bits
unfoldable pub selections : List (List ℕ) → List ℕ → List ℕ
selections [] bs = []
selections (s ∷ ss) [] = []
selections (s ∷ ss) (b ∷ bs) = selected s b ∷ selections ss bs

abbrev pub boxes : List (List ℕ)
boxes = S1 ∷ S2 ∷ S3 ∷ S4 ∷ S5 ∷ S6 ∷ S7 ∷ S8 ∷ []

-- B1 B2 .. B8, 48 bits, to S1(B1) S2(B2) .. S8(B8), 32 bits
unfoldable pub substituted : ℕ → ℕ
substituted b = row 16 0 (selections boxes (digits 64 8 b))

-- f(R, K) = P(S1(B1) S2(B2) .. S8(B8)), where B1 B2 .. B8 = K ⊕ E(R)
unfoldable pub f : ℕ → ℕ → ℕ
f r k = permuted 32 P (substituted (bit_xor k (permuted 32 E r)))

-- ---- enciphering and deciphering

-- L' = R and R' = L ⊕ f(R, K) for each key in turn; the preoutput block is the last R followed by the last L
unfoldable pub rounds : List ℕ → ℕ → ℕ → ℕ
rounds [] l r = r * 2 ^ 32 + l
rounds (k ∷ ks) l r = rounds ks r (bit_xor l (f r k))

-- the input block through IP, the rounds, and IP⁻¹
unfoldable pub computed : List ℕ → ℕ → ℕ
computed ks b = permuted 64 IP⁻¹ (rounds ks (permuted 64 IP b / 2 ^ 32) (permuted 64 IP b % 2 ^ 32))

-- ---- the key schedule KS

-- a half of 28 bits, shifted n places to the left; what leaves at the left comes in at the right
unfoldable pub shifted : ℕ → ℕ → ℕ
shifted n c = c * 2 ^ n % 2 ^ 28 + c / 2 ^ (28 - n)

-- from C and D: shift both, and choose the key by PC-2
unfoldable pub scheduled : List ℕ → ℕ → ℕ → List ℕ
scheduled [] c d = []
scheduled (n ∷ ns) c d = permuted 56 PC-2 (shifted n c * 2 ^ 28 + shifted n d) ∷ scheduled ns (shifted n c) (shifted n d)

-- K1 .. K16, from C0 D0 = PC-1(KEY)
unfoldable pub KS : ℕ → List ℕ
KS key = scheduled shifts (permuted 64 PC-1 key / 2 ^ 28) (permuted 64 PC-1 key % 2 ^ 28)

-- ---- the two directions: K1 first, or K16 first

unfoldable pub encipher : ℕ → ℕ → ℕ
encipher key b = computed (KS key) b

unfoldable pub decipher : ℕ → ℕ → ℕ
decipher key b = computed (reverse (KS key)) b
