-- What NOTARY prints is read back: its bytes as hex digits, its numbers as decimal digits.
use Rattle.std.specs.Prelude.{◌≡◌, refl, true, false, List, [], ◌∷◌, ◌++◌, map, ℕ, zero, suc, ◌+◌, ◌-◌, ◌*◌, ◌/◌, ◌%◌, ◌^◌, ◌≤◌, ◌<◌, ltb, leb, length}
use Rattle.std.proofs.Math.Path.{ap}
use Rattle.std.proofs.Common.{ap₂, ◌∙◌, pow-suc}
use Rattle.std.proofs.lemmas.List.{map-append}
use Prim.Native.Char.{code}
use native.Mathlib.Omega.{arith}
use borrow.Author.Tests.{ltb-true, ltb-false, lt-ltb, le-ltb, le-leb, lt-leb}
use Rattle.ground.specs.Search.{by_test}
use Rattle.ground.specs.Lists.{Below}
use Rattle.ground.specs.Rows.{row}
use Rattle.printout.specs.Digits.{hex_digit, hex_byte, hex, decimal, decimal-last, decimal_step}
use Rattle.values.specs.Numbers.{digit_value, decimal_value}
use Rattle.values.specs.Sources.{hex_value, unhex}
use Rattle.words.specs.declared.Class.{Class}
use Rattle.words.specs.declared.Class.TheVariants.{Digit, Hex}
use Rattle.words.specs.Letters.{between, is_in}
use Rattle.grammar.specs.Lines.{every}
use Rattle.grammar.specs.Means.{Number, Pairs}
use Rattle.grammar.proofs.LetterLaws.{both}
use Rattle.grammar.specs.Printed.{SaidBack}

-- ---- hex digits

in_between : (first last c : ℕ) → first ≤ c → c ≤ last → between first last c ≡ true
unfolding between
in_between first last c h k = rw (le-leb first c h, le-leb c last k)

above_all : (first last c : ℕ) → last < c → between first last c ≡ false
unfolding between
above_all first last c h = by_test (leb first c) (λ e. rw (e, lt-leb c last h)) (λ e. rw e)

module _ (n : ℕ) (h : n < 16) where
  digit_value_lem : hex_value (hex_digit n) ≡ n
  unfolding hex_value hex_digit
  digit_value_lem =
      by_test (ltb n 10)
      (λ e. let k = ltb-true n 10 e in rw (e, lt-ltb (48 + n) 65 (omega arith)) (omega arith))
      (λ e. let k = ltb-false n 10 e in rw (e, le-ltb (55 + n) 65 (omega arith), lt-ltb (55 + n) 97 (omega arith)) (omega arith))

  digit-hex : is_in Hex (hex_digit n) ≡ true
  unfolding is_in hex_digit
  digit-hex =
      by_test (ltb n 10)
      (λ e. let k = ltb-true n 10 e in rw (e, in_between 48 57 (48 + n) (omega arith) (omega arith)))
      (λ e. let k = ltb-false n 10 e in rw (e, above_all 48 57 (55 + n) (omega arith), in_between 65 70 (55 + n) (omega arith) (omega arith)))

byte_value : (b : ℕ) → b < 256 → 16 * hex_value (hex_digit (b / 16)) + hex_value (hex_digit (b % 16)) ≡ b
byte_value b h = rw (digit_value_lem (b / 16) (omega arith), digit_value_lem (b % 16) (omega arith)) (omega arith)

pub unhex-hex : (bs : List ℕ) → Below 256 bs → unhex (hex bs) ≡ bs
unfolding hex hex_byte unhex
unhex-hex [] h = refl
unhex-hex (b ∷ bs) h = ap₂ (λ (x : ℕ) (xs : List ℕ). x ∷ xs) (byte_value b (h 0)) (unhex-hex bs (λ i. h (suc i)))

hex_even : (bs : List ℕ) → length (hex bs) % 2 ≡ 0
unfolding hex hex_byte
hex_even [] = refl
hex_even (b ∷ bs) = let i = hex_even bs in omega arith

hex-letters : (bs : List ℕ) → Below 256 bs → every Hex (hex bs) ≡ true
unfolding hex hex_byte every
hex-letters [] h = refl
hex-letters (b ∷ bs) h =
    let k = h 0 in
    rw (digit-hex (b / 16) (omega arith), digit-hex (b % 16) (omega arith)) (hex-letters bs (λ i. h (suc i)))

-- a word of the bytes as NOTARY prints them says these bytes
pub printed-bytes : (bs : List ℕ) → Below 256 bs → Pairs (hex bs) bs
printed-bytes bs h = record { hex = hex-letters bs h; even = hex_even bs; value = unhex-hex bs h }

-- ---- decimal digits

row_then : (b a : ℕ) (ds es : List ℕ) → row b a (ds ++ es) ≡ row b (row b a ds) es
unfolding row
row_then b a [] es = refl
row_then b a (d ∷ ds) es = row_then b (a * b + d) ds es

every_then : (k : Class) (v w : List ℕ) → every k v ≡ true → every k w ≡ true → every k (v ++ w) ≡ true
unfolding every
every_then k [] w h e = e
every_then k (c ∷ cs) w h e =
    let x = both (is_in k c) (every k cs) h in
    rw x.0 (every_then k cs w x.1 e)

-- one digit, after those that say a
module _ (d : ℕ) (h : d < 10) where
  one_digit : every Digit ((48 + d) ∷ []) ≡ true
  unfolding every is_in
  one_digit = rw (in_between 48 57 (48 + d) (omega arith) (omega arith))

  digit-after : (a : ℕ) (w : List ℕ) → decimal_value w ≡ a → decimal_value (w ++ ((48 + d) ∷ [])) ≡ a * 10 + d
  unfolding decimal_value row
  digit-after a w e =
      let n : 48 + d - code "0" ≡ d = omega arith in
      ap (row 10 0) (map-append digit_value w ((48 + d) ∷ [])) ∙ row_then 10 0 (map digit_value w) (map digit_value ((48 + d) ∷ [])) ∙ rw (e, n)

  -- and alone
  only_digit : decimal_value ((48 + d) ∷ []) ≡ d
  unfolding decimal_value row
  only_digit = omega arith

short_back : (n : ℕ) → n < 10 → SaidBack n
short_back n h =
    let d : n % 10 ≡ n = omega arith in
    rw (decimal-last n h) (one_digit (n % 10) (omega arith), only_digit (n % 10) (omega arith) ∙ d)

long_back : (n : ℕ) → 10 ≤ n → n < 10 ^ 20 → SaidBack (n / 10) → SaidBack n
long_back n h m i =
    let d : n / 10 * 10 + n % 10 ≡ n = omega arith in
    rw (decimal_step n h m)
    (every_then Digit (decimal (n / 10)) ((48 + n % 10) ∷ []) i.0 (one_digit (n % 10) (omega arith)), digit-after (n % 10) (omega arith) (n / 10) (decimal (n / 10)) i.1 ∙ d)

said_back : (k n : ℕ) → n < 10 ^ suc k → n < 10 ^ 20 → SaidBack n
said_back zero n h m = short_back n (omega arith)
said_back (suc k) n h m =
    let p : 10 ^ suc (suc k) ≡ 10 ^ suc k * 10 = pow-suc 10 (suc k) in
    by_test (ltb n 10)
    (λ e. short_back n (ltb-true n 10 e))
    (λ e. long_back n (ltb-false n 10 e) m (said_back k (n / 10) (omega (arith, p)) (omega arith)))

-- a word of a number as NOTARY prints it says this number
pub printed-number : (limit n : ℕ) → n ≤ limit → n < 10 ^ 20 → Number limit (decimal n) n
printed-number limit n h m = let x = said_back 19 n m m in record { digit = x.0; value = x.1; within = h }
