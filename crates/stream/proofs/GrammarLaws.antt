-- The grammar by itself: the order of each command's arguments, and the fields of a value as those of one request.
use Rattle.std.specs.Prelude.{◌≡◌, Bool, true, false, cond, ℕ, ◌+◌, ◌≤◌, ◌<◌, eqb, ltb, leb, Some, List, [], ◌∷◌, ◌++◌, length, drop}
use Rattle.std.proofs.Common.{refl, sym, ◌∙◌, true≢false, arith, ap, subst, length-append, eqb-true, ne_eqb, ltb-true, leb-true}
use Rattle.std.proofs.lemmas.Bool.{false≢true, eqb-false}
use Rattle.ground.specs.Search.{by_test}
use Rattle.stream.specs.declared.Request.{Request}
use Rattle.stream.specs.Fields.{Bytes, field, part}
use Rattle.stream.proofs.FieldLaws.{field-length, field_value, field_rest}
use Rattle.stream.specs.Commands.{Row, commands, arguments_in, arguments_of}
use Rattle.stream.specs.Grammar.{argument, spelled, among}
use Rattle.stream.specs.RequestLaws.{Sound}
use Rattle.stream.proofs.RequestLaws.{one_size_lem, sized}
use Rattle.stream.specs.GrammarLaws.{ascending, ordered}

both : (b c : Bool) → cond b c false ≡ true → (b ≡ true) × (c ≡ true)
both true c e = (refl, e)
both false c e = absurd (false≢true e)

pub neither : (b c : Bool) → cond b true c ≡ false → (b ≡ false) × (c ≡ false)
neither true c e = absurd (true≢false e)
neither false c e = (refl, e)

commands-ordered : ordered commands ≡ true
unfolding ordered ascending
commands-ordered = refl

module _ (n k : ℕ) (ks : List ℕ) (h : ascending n (k ∷ ks) ≡ true) where
  pub above : n < k
  unfolding ascending
  above = ltb-true n k (both (ltb n k) _ h).0

  pub up_to : k ≤ 0x87
  unfolding ascending
  up_to = leb-true k 0x87 (both (leb k 0x87) (ascending k ks) (both (ltb n k) _ h).1).0

  pub later : ascending k ks ≡ true
  unfolding ascending
  later = (both (leb k 0x87) (ascending k ks) (both (ltb n k) _ h).1).1

-- none of them is as low as n
pub not-among : (n : ℕ) (ks : List ℕ) (j : ℕ) → ascending n ks ≡ true → j ≤ n → among j ks ≡ false
unfolding among
not-among n [] j h l = refl
not-among n (k ∷ ks) j h l =
    let u = above n k ks h in
    rw (ne_eqb j k (λ e. omega arith)) (not-among k ks j (later n k ks h) (omega arith))

row-ordered : (t : ℕ) (rs : List Row) (ks : List ℕ) → ordered rs ≡ true → arguments_in t rs ≡ Some ks
    → (ascending 0x80 ks ≡ true) × (length ks ≤ 5)
unfolding ordered
row-ordered t [] ks h e = cc
row-ordered t (r ∷ rs) ks h e =
    let x = both (ascending 0x80 r.arguments) _ h in
    let y = both (leb (length r.arguments) 5) (ordered rs) x.1 in
    by_test (eqb t r.tag)
    (λ q.
    let is : r.arguments ≡ ks = cc in
    (ap (ascending 0x80) (sym is) ∙ x.0, subst (λ (l : List ℕ). length l ≤ 5) is (leb-true (length r.arguments) 5 y.0)))
    (λ q. row-ordered t rs ks y.1 (sym (ap (λ (b : Bool). cond b (Some r.arguments) (arguments_in t rs)) q) ∙ e))

pub arguments_ordered : (t : ℕ) (ks : List ℕ) → arguments_of t ≡ Some ks → (ascending 0x80 ks ≡ true) × (length ks ≤ 5)
unfolding arguments_of
arguments_ordered t ks e = row-ordered t commands ks commands-ordered e

-- ---- the fields of a value are those of one request

nothing_above : (n : ℕ) (ks : List ℕ) → ascending n ks ≡ true → 0x87 ≤ n → ks ≡ []
nothing_above n [] h l = refl
nothing_above n (k ∷ ks) h l = absurd (omega (arith, above n k ks h, up_to n k ks h))

module _ (t : ℕ) (a a' : Request) (d d' : Bytes) (c : Sound t a) (c' : Sound t a') where
  same_length : (n k : ℕ) (ks : List ℕ) → 0x80 ≤ n → ascending n (k ∷ ks) ≡ true
      → spelled (k ∷ ks) a d ≡ spelled (k ∷ ks) a' d' → length (argument k a d) ≡ length (argument k a' d')
  unfolding spelled
  same_length n k ks base up h =
      let u = above n k ks up in
      let high = up_to n k ks up in
      by_test (eqb k 0x87)
      (λ e.
      let z : ks ≡ [] = nothing_above k ks (later n k ks up) (omega (arith, eqb-true k 0x87 e)) in
      let f = field k (argument k a d) in
      let f' = field k (argument k a' d') in
      let g : f ++ [] ≡ f' ++ [] = subst (λ (l : List ℕ). f ++ spelled l a d ≡ f' ++ spelled l a' d') z h in
      let n = field-length k (argument k a d) in
      let n' = field-length k (argument k a' d') in
      omega (arith, ap length g, length-append f [], length-append f' [], n, n'))
      (λ e.
      let m = sized k (omega arith) high t a d c in
      let m' = sized k (omega arith) high t a' d' c' in
      let shorter : k < 0x87 = omega (arith, eqb-false k 0x87 e) in
      one_size_lem k (omega arith) high (length (argument k a d)) (length (argument k a' d')) shorter m m')

  pub same_fields : (n : ℕ) (ks : List ℕ) → 0x80 ≤ n → ascending n ks ≡ true → spelled ks a d ≡ spelled ks a' d'
      → (j : ℕ) → among j ks ≡ true → argument j a d ≡ argument j a' d'
  unfolding spelled among
  same_fields n [] base up h j x = absurd (false≢true x)
  same_fields n (k ∷ ks) base up h j x =
      let u = above n k ks up in
      let s = spelled (k ∷ ks) a d in
      let b = argument k a d in
      let b' = argument k a' d' in
      let r = spelled ks a d in
      let r' = spelled ks a' d' in
      let l : length b ≡ length b' = same_length n k ks base up h in
      let value : b ≡ b' =
      sym (field_value s 0 k b r refl) ∙ ap (λ (m : ℕ). part 3 (3 + m) s) l ∙ field_value s 0 k b' r' h in
      let rest : r ≡ r' =
      sym (field_rest s 0 k b r refl) ∙ ap (λ (m : ℕ). drop (3 + m) s) l ∙ field_rest s 0 k b' r' h in
      by_test (eqb j k)
      (λ e. rw (eqb-true j k e) value)
      (λ e. same_fields k ks (omega arith) (later n k ks up) rest j (rw e at x))
