-- Laws of a page, of digits, of lines and of rows, by an index or part by part. They stood in specs/; the code is proved without them.
use Rattle.std.specs.Prelude.{◌≡◌, refl, Bool, cond, List, [], ◌∷◌, ◌++◌, ℕ, zero, suc, ◌+◌, ◌-◌, ◌*◌, ◌/◌, ◌%◌, ◌^◌, ◌≤◌, ◌<◌, length, get_or, set, take, drop}
use Rattle.std.proofs.Common.{sym, ap, ne_eqb, subst, ◌∙◌, append_assoc, pow-suc, arith, add-one, drop_of_length-le, drop-cons, drop_at, length-take-le}
use Rattle.std.proofs.lemmas.List.{set_split}
use Rattle.printout.specs.Page.{Page, entered, then, two}
use Rattle.printout.specs.Digits.{hex_byte, hex, last_digit, decimal, decimal-last, decimal_step}
use Rattle.printout.specs.Rows.{Row, beside}
use Rattle.printout.specs.Lines.{space, line_feed, shown, line}

-- ---- a text letter by letter

-- one letter of a text, and the rest
pub enter_step : (xs : List ℕ) (i : ℕ) (p : Page) → i < length xs → entered (drop i xs) p ≡ entered (drop (i + 1) xs) (entered (get_or xs i 0 ∷ []) p)
unfolding entered
enter_step xs i p h = rw (add-one, drop-cons xs i 0 h)

pub enter_end : (xs : List ℕ) (i : ℕ) (p : Page) → length xs ≤ i → entered (drop i xs) p ≡ p
unfolding entered
enter_end xs i p h = rw drop_of_length-le

-- ---- bytes in hexadecimal

-- one byte of several, and the rest
pub hex-step : (bs : List ℕ) (i : ℕ) (p : Page) → i < length bs → entered (hex (drop i bs)) p ≡ entered (hex (drop (i + 1) bs)) (entered (hex_byte (get_or bs i 0)) p)
unfolding hex
hex-step bs i p h = rw (add-one, drop-cons bs i 0 h) (then (hex_byte (get_or bs i 0)) (hex (drop (suc i) bs)) p)

pub hex_end : (bs : List ℕ) (i : ℕ) (p : Page) → length bs ≤ i → entered (hex (drop i bs)) p ≡ p
unfolding hex entered
hex_end bs i p h = rw drop_of_length-le

-- ---- the digits made from the last on, each before those that stand

less : (n k : ℕ) → n < 10 ^ suc k → n / 10 < 10 ^ k
less n k h = let p : 10 ^ suc k ≡ 10 ^ k * 10 = pow-suc 10 k in omega (arith, p)

pub room : (n i : ℕ) → 10 ≤ n → n < 10 ^ (i + 1) → 1 ≤ i
room n zero h k = absurd (omega arith)
room n (suc i) h k = omega arith

pub shorter : (n i : ℕ) → 1 ≤ i → n < 10 ^ (i + 1) → n / 10 < 10 ^ (i - 1 + 1)
shorter n zero h k = absurd (omega arith)
shorter n (suc i) h k =
    let e : suc i + 1 ≡ suc (suc i) = omega arith in
    let f : suc i ≡ suc i - 1 + 1 = omega arith in
    subst (λ (m : ℕ). n / 10 < 10 ^ m) f (less n (suc i) (subst (λ (m : ℕ). n < 10 ^ m) e k))

-- a digit stored at i of the text
module _ (text : List ℕ) (i : ℕ) (h : i < length text) where
  stored : (x : ℕ) → drop i (set text i x) ≡ x ∷ drop (i + 1) text
  stored x = ap (drop i) (set_split text i x h) ∙ drop_at (take i text) (x ∷ drop (suc i) text) i (length-take-le i text (omega arith)) ∙ rw add-one

  pub one_before : (n : ℕ) → 10 ≤ n → n < 10 ^ 20 → decimal (n / 10) ++ drop i (set text i (48 + n % 10)) ≡ decimal n ++ drop (i + 1) text
  one_before n k l =
      ap (λ (r : List ℕ). decimal (n / 10) ++ r) (stored (last_digit n))
      ∙ sym (append_assoc (decimal (n / 10)) (last_digit n ∷ []) (drop (i + 1) text))
      ∙ ap (λ (r : List ℕ). r ++ drop (i + 1) text) (sym (decimal_step n k l))

  pub the_first : (n : ℕ) → n < 10 → drop i (set text i (48 + n % 10)) ≡ decimal n ++ drop (i + 1) text
  the_first n k = stored (last_digit n) ∙ ap (λ (r : List ℕ). r ++ drop (i + 1) text) (sym (decimal-last n k))

-- ---- a line, part by part

pub shown_none : (bs : List ℕ) → length bs ≡ 0 → shown bs ≡ 45 ∷ []
unfolding shown
shown_none [] h = refl
shown_none (b ∷ bs) h = absurd (omega arith)

pub shown_some : (bs : List ℕ) → (length bs ≡ 0 → ⊥) → shown bs ≡ hex bs
unfolding shown
shown_some [] h = absurd (h refl)
shown_some (b ∷ bs) h = refl

-- a line, part by part
pub by_parts : (ordinal tag reply : ℕ) (bs : List ℕ) (p p₁ p₂ p₃ p₄ p₅ p₆ p₇ p₈ : Page)
    → p₁ ≡ entered (decimal ordinal) p → p₂ ≡ entered (space ∷ []) p₁ → p₃ ≡ entered (hex_byte tag) p₂ → p₄ ≡ entered (space ∷ []) p₃
    → p₅ ≡ entered (decimal reply) p₄ → p₆ ≡ entered (space ∷ []) p₅ → p₇ ≡ entered (shown bs) p₆ → p₈ ≡ entered (line_feed ∷ []) p₇
    → p₈ ≡ entered (line ordinal tag reply bs) p
unfolding line
by_parts ordinal tag reply bs p p₁ p₂ p₃ p₄ p₅ p₆ p₇ p₈ e₁ e₂ e₃ e₄ e₅ e₆ e₇ e₈ =
    let f₇ = two (shown bs) (line_feed ∷ []) p₆ p₇ p₈ e₈ e₇ in
    let f₆ = two (space ∷ []) (shown bs ++ (line_feed ∷ [])) p₅ p₆ p₈ f₇ e₆ in
    let f₅ = two (decimal reply) (space ∷ (shown bs ++ (line_feed ∷ []))) p₄ p₅ p₈ f₆ e₅ in
    let f₄ = two (space ∷ []) (decimal reply ++ (space ∷ (shown bs ++ (line_feed ∷ [])))) p₃ p₄ p₈ f₅ e₄ in
    let f₃ = two (hex_byte tag) (space ∷ (decimal reply ++ (space ∷ (shown bs ++ (line_feed ∷ []))))) p₂ p₃ p₈ f₄ e₃ in
    let f₂ = two (space ∷ []) (hex_byte tag ++ (space ∷ (decimal reply ++ (space ∷ (shown bs ++ (line_feed ∷ [])))))) p₁ p₂ p₈ f₃ e₂ in
    two (decimal ordinal) (space ∷ (hex_byte tag ++ (space ∷ (decimal reply ++ (space ∷ (shown bs ++ (line_feed ∷ []))))))) p p₁ p₈ f₂ e₁

-- ---- where a number's row is known, and where it has none

-- T, and n is none of the rows' numbers: what is known in the last arm of a match on n, nested as the checker nests it
abbrev pub Apart : Type 0 → ℕ → List Row → Type 0
Apart T n [] = T
Apart T n (r ∷ rs) = Apart (T × (n ≡ r.number → ⊥)) n rs

apart_others : (T : Type 0) (n : ℕ) (rs : List Row) (others : List ℕ) → Apart T n rs → T × (beside n rs others ≡ others)
apart_others T n [] others h = (h, refl)
apart_others T n (r ∷ rs) others h =
    let later = apart_others (T × (n ≡ r.number → ⊥)) n rs others h in
    (later.0.0, ap (λ (b : Bool). cond b r.words (beside n rs others)) (ne_eqb n r.number later.0.1) ∙ later.1)

module _ (rs : List Row) (others : List ℕ) (n : ℕ) (p q : Page) where
  pub by_row : (k : ℕ) (t : List ℕ) → n ≡ k → beside k rs others ≡ t → q ≡ entered t p → q ≡ entered (beside n rs others) p
  by_row k t e b h = h ∙ ap (λ (ws : List ℕ). entered ws p) (sym (ap (λ (m : ℕ). beside m rs others) e ∙ b))

  pub by_none : (T : Type 0) → Apart T n rs → q ≡ entered others p → q ≡ entered (beside n rs others) p
  by_none T h e = e ∙ ap (λ (ws : List ℕ). entered ws p) (sym (apart_others T n rs others h).1)
