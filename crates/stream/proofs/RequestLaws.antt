-- A request and its arguments: what is put in is what is said, and what is said is the request.
use Rattle.std.specs.Prelude.{◌≡◌, [], ◌∷◌, ℕ, suc, ◌^◌, ◌≤◌, ◌<◌, leb, get_or, true, false, eqb, length}
use Rattle.std.proofs.Common.{refl, sym, ap, ◌∙◌, subst, arith, eqb-true, leb-true, leb-false}
use Rattle.ground.specs.Search.{by_test}
use Rattle.ground.specs.Lists.{Below, listed}
use Rattle.ground.specs.Rows.{row, digits, row_lt, digits-row, row-digits, digits-length, digits_below}
use Rattle.stream.specs.declared.Request.{Request}
use Rattle.stream.specs.Fields.{Bytes}
use Rattle.stream.specs.Commands.{has_size, blank, filled}
use Rattle.stream.specs.Grammar.{argument}
use Rattle.stream.specs.RequestLaws.{Sound, made}

-- the next number, or one above it
next : {Q : Type 0} (n k : ℕ) → n < k → (k ≡ suc n → Q) → (suc n < k → Q) → Q
next n k low f g =
    by_test (leb k (suc n))
    (λ e. let h = leb-true k (suc n) e in f (omega arith))
    (λ e. g (leb-false k (suc n) e))

-- what holds of each of the tags 81 to 87 holds of any between
module _ (P : ℕ → Type 0)
    (p₁ : P 0x81) (p₂ : P 0x82) (p₃ : P 0x83) (p₄ : P 0x84) (p₅ : P 0x85) (p₆ : P 0x86) (p₇ : P 0x87) where
  pub each : (k : ℕ) → 0x80 < k → k ≤ 0x87 → P k
  each k low high =
      next 0x80 k low (λ e. subst P (sym e) p₁) λ l₁.
      next 0x81 k l₁ (λ e. subst P (sym e) p₂) λ l₂.
      next 0x82 k l₂ (λ e. subst P (sym e) p₃) λ l₃.
      next 0x83 k l₃ (λ e. subst P (sym e) p₄) λ l₄.
      next 0x84 k l₄ (λ e. subst P (sym e) p₅) λ l₅.
      next 0x85 k l₅ (λ e. subst P (sym e) p₆) λ l₆.
      next 0x86 k l₆ (λ e. subst P (sym e) p₇) λ l₇. absurd (omega arith)

pub blank_sound : (t : ℕ) → Sound t (blank t)
unfolding blank
blank_sound t = record { tagged = refl; issued = omega arith; partied = omega arith; eight = (refl, refl) }

-- ---- an argument put in

number_of : (b : Bytes) → eqb (length b) 4 ≡ true → Below 256 b → (row 256 0 b < 256 ^ 4) × (digits 256 4 (row 256 0 b) ≡ b)
number_of b e h =
    let n = eqb-true (length b) 4 e in (
      subst (λ (m : ℕ). row 256 0 b < 256 ^ m) n (row_lt 256 b h),
      subst (λ (m : ℕ). digits 256 m (row 256 0 b) ≡ b) n (digits-row 256 0 b h),
    )

module _ (k : ℕ) (low : 0x80 < k) (high : k ≤ 0x87) where
  -- it is what the request then says of that field
  pub own : (b : Bytes) (a : Request) (d : Bytes) → has_size k (length b) ≡ true
      → (k < 0x83 → Below 256 b) → (k ≡ 0x87 → d ≡ b) → argument k (filled k b a) d ≡ b
  unfolding has_size filled argument
  own b a d =
      each
      (λ (n : ℕ).
      has_size n (length b) ≡ true → (n < 0x83 → Below 256 b) → (n ≡ 0x87 → d ≡ b) → argument n (filled n b a) d ≡ b)
      (λ s h e. (number_of b s (h (omega arith))).1)
      (λ s h e. (number_of b s (h (omega arith))).1)
      (λ s h e. sym (listed 1 b (eqb-true (length b) 1 s)))
      (λ s h e. sym (listed 1 b (eqb-true (length b) 1 s)))
      (λ s h e. refl)
      (λ s h e. refl)
      (λ s h e. e refl)
      k low high

  -- of any other field it says what it said
  pub other : (b : Bytes) (a : Request) (d : Bytes) (j : ℕ) → eqb j k ≡ false
      → argument j (filled k b a) d ≡ argument j a d
  unfolding filled argument
  other b a d j =
      each (λ (n : ℕ). eqb j n ≡ false → argument j (filled n b a) d ≡ argument j a d)
      (λ e. rw e) (λ e. rw e) (λ e. rw e) (λ e. rw e) (λ e. rw e) (λ e. rw e) (λ e. refl)
      k low high

  pub stays_sound : (t : ℕ) (b : Bytes) (a : Request) → has_size k (length b) ≡ true → (k < 0x83 → Below 256 b)
      → Sound t a → Sound t (filled k b a)
  unfolding has_size filled
  stays_sound t b a =
      each (λ (n : ℕ). has_size n (length b) ≡ true → (n < 0x83 → Below 256 b) → Sound t a → Sound t (filled n b a))
      (λ s h c.
      let n = number_of b s (h (omega arith)) in
      record { tagged = c.tagged; issued = n.0; partied = c.partied; eight = c.eight })
      (λ s h c.
      let n = number_of b s (h (omega arith)) in
      record { tagged = c.tagged; issued = c.issued; partied = n.0; eight = c.eight })
      (λ s h c. record { tagged = c.tagged; issued = c.issued; partied = c.partied; eight = c.eight })
      (λ s h c. record { tagged = c.tagged; issued = c.issued; partied = c.partied; eight = c.eight })
      (λ s h c.
      let e = eqb-true (length b) 8 s in
      record { tagged = c.tagged; issued = c.issued; partied = c.partied; eight = (e, c.eight.1) })
      (λ s h c.
      let e = eqb-true (length b) 8 s in
      record { tagged = c.tagged; issued = c.issued; partied = c.partied; eight = (c.eight.0, e) })
      (λ s h c. c)
      k low high

  -- ---- an argument of a sound request

  pub sized : (t : ℕ) (a : Request) (d : Bytes) → Sound t a → has_size k (length (argument k a d)) ≡ true
  unfolding has_size argument digits
  sized t a d c =
      each (λ (n : ℕ). has_size n (length (argument n a d)) ≡ true)
      refl refl refl refl
      (rw c.eight.0) (rw c.eight.1) refl
      k low high

  pub in_bytes : (a : Request) (d : Bytes) → k < 0x83 → Below 256 (argument k a d)
  unfolding argument
  in_bytes a d =
      each (λ (n : ℕ). n < 0x83 → Below 256 (argument n a d))
      (λ h. digits_below 256 4 a.issuer (omega arith))
      (λ h. digits_below 256 4 a.party (omega arith))
      (λ h. absurd (omega arith))
      (λ h. absurd (omega arith))
      (λ h. absurd (omega arith))
      (λ h. absurd (omega arith))
      (λ h. absurd (omega arith))
      k low high

  -- all but the data have one length
  pub one_size_lem : (m n : ℕ) → k < 0x87 → has_size k m ≡ true → has_size k n ≡ true → m ≡ n
  unfolding has_size
  one_size_lem m n =
      each (λ (j : ℕ). j < 0x87 → has_size j m ≡ true → has_size j n ≡ true → m ≡ n)
      (λ l e f. to 4 e f) (λ l e f. to 4 e f)
      (λ l e f. to 1 e f) (λ l e f. to 1 e f)
      (λ l e f. to 8 e f) (λ l e f. to 8 e f)
      (λ l e f. absurd (omega arith))
      k low high
    where
      to : (x : ℕ) → eqb m x ≡ true → eqb n x ≡ true → m ≡ n
      to x e f = eqb-true m x e ∙ sym (eqb-true n x f)

  -- only the data may be long
  pub short_argument : (t : ℕ) (a : Request) (d : Bytes) → Sound t a → length d < 65536
      → length (argument k a d) < 65536
  unfolding argument
  short_argument t a d c l =
      each (λ (n : ℕ). length (argument n a d) < 65536)
      (rw (digits-length 256 4 a.issuer) (omega arith))
      (rw (digits-length 256 4 a.party) (omega arith))
      (omega arith) (omega arith)
      (rw c.eight.0 (omega arith)) (rw c.eight.1 (omega arith)) l
      k low high

-- ---- what is said is the request

-- only field 87 is the data
pub no_data : (j : ℕ) (a : Request) (d d' : Bytes) → eqb j 0x87 ≡ false → argument j a d ≡ argument j a d'
unfolding argument
no_data j a d d' e = rw e

head_of : (x y : ℕ) → x ∷ [] ≡ y ∷ [] → x ≡ y
head_of x y e = ap (λ (l : Bytes). get_or l 0 0) e

number_same : (x y : ℕ) → x < 256 ^ 4 → y < 256 ^ 4 → digits 256 4 x ≡ digits 256 4 y → x ≡ y
number_same x y h k e = sym (row-digits 256 4 x h) ∙ ap (row 256 0) e ∙ row-digits 256 4 y k

module _ (t : ℕ) (a a' : Request) (d d' : Bytes) (c : Sound t a) (c' : Sound t a')
    (e : (k : ℕ) → argument k a d ≡ argument k a' d') where
  pub same_request : a ≡ a'
  unfolding argument
  same_request =
      let e₀ : a.tag ≡ a'.tag = c.tagged ∙ sym c'.tagged in
      let e₁ = number_same a.issuer a'.issuer c.issued c'.issued (e 0x81) in
      let e₂ = number_same a.party a'.party c.partied c'.partied (e 0x82) in
      let e₃ = head_of a.interchange a'.interchange (e 0x83) in
      let e₄ = head_of a.function a'.function (e 0x84) in
      let e₅ : a.block ≡ a'.block = e 0x85 in
      let e₆ : a.second ≡ a'.second = e 0x86 in
      let whole : made a.tag a.issuer a.party a.interchange a.function a.block a.second
      ≡ made a'.tag a'.issuer a'.party a'.interchange a'.function a'.block a'.second = cc in
      whole

  pub same_data : d ≡ d'
  unfolding argument
  same_data = e 0x87
