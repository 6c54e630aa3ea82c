-- A word as a field's value: the reader takes exactly the words of the table, with their bytes.
use Rattle.std.specs.Prelude.{◌≡◌, true, ◌⊎◌, List, [], ◌∷◌, ◌++◌, leb, drop}
use Rattle.std.proofs.Math.Path.{refl, ap}
use Rattle.std.proofs.Common.{sym, ◌∙◌, inl, inr, ⊎_elim}
use Rattle.std.proofs.Math.Bool.{false}
use Rattle.std.proofs.lemmas.Bool.{false≢true}
use Prim.Native.Nat.{ℕ, suc, ◌+◌, ◌-◌, ◌≤◌, ◌<◌}
use Prim.Native.Char.{code}
use native.Mathlib.Omega.{arith}
use Rattle.std.proofs.Math.ListN.{length}
use borrow.Author.Tests.{eq-eqb, leb-true, leb-false}
use Rattle.ground.specs.Search.{by_test}
use Rattle.ground.specs.Lists.{Below}
use Rattle.ground.specs.Rows.{digits-length, digits_below}
use Rattle.stream.specs.Fields.{part}
use Rattle.stream.specs.Commands.{has_size}
use Rattle.stream.proofs.RequestLaws.{each}
use Rattle.values.specs.declared.Origin.TheVariants.{Letters}
use Rattle.values.specs.Sources.{meant, source}
use Rattle.values.specs.Values.{fitting, wrong, data_of, bytes_value}
use Rattle.values.specs.Fields.{plain_value, text_value, value_of, value_bytes}
use Rattle.words.specs.declared.Expected.TheVariants.{Identifier, Interchange}
use Rattle.grammar.specs.Lines.{Piece, plain, text, spelled, formed}
use Rattle.grammar.specs.Means.{Ordinal, Numeral, Function, Block, Data, Means}
use Rattle.grammar.proofs.LetterLaws.{part_there}
use Rattle.grammar.specs.LineLaws.{word_from}
use Rattle.grammar.proofs.LineLaws.{inside}
use Rattle.grammar.specs.NumberLaws.{Exact}
use Rattle.grammar.proofs.NumberLaws.{no_value, a_value, exact_for, numeral_exact, one_long, function_exact}
use Rattle.grammar.specs.BytesLaws.{bytes_of, Sized, InHex}
use Rattle.grammar.proofs.BytesLaws.{unhex-length, bytes_exact}

module _ (l kept ends : List ℕ) (s c : ℕ) (cs r : List ℕ) (h : drop s l ≡ (c ∷ cs) ++ r) where
  -- "hex digits …; or `$n`", with at most 65500 bytes
  plain_data : Exact (bytes_value false (length kept) ends l s (s + suc (length cs))) (bytes_of l kept false) (Data kept ends (plain (c ∷ cs)))
  plain_data =
      exact_for (bytes_value false (length kept) ends l s (s + suc (length cs))) (bytes_of l kept false)
      (λ b. InHex false (c ∷ cs) b ⊎ (Ordinal kept ends (c ∷ cs) b × Sized false (length b))) (Data kept ends (plain (c ∷ cs)))
      (λ b x. ⊎_elim (λ y. (inl y.0, y.1)) (λ y. (inr y.0, y.1)) x)
      (λ b x. ⊎_elim (λ y. inl (y, x.1)) (λ y. inr (y, x.1)) x.0)
      (bytes_exact l kept ends s c cs r h false)

  pub plain_exact : (k : ℕ) → 0x80 < k → k ≤ 0x87
      → Exact (plain_value k (length kept) ends l s (s + suc (length cs))) (λ v. value_bytes k v l kept) (Means kept ends k (plain (c ∷ cs)))
  unfolding plain_value value_bytes Means
  plain_exact =
      each (λ (k : ℕ). Exact (plain_value k (length kept) ends l s (s + suc (length cs))) (λ v. value_bytes k v l kept) (Means kept ends k (plain (c ∷ cs))))
      (numeral_exact l s (c ∷ cs) r h Identifier 4 4294967295)
      (numeral_exact l s (c ∷ cs) r h Identifier 4 4294967295)
      (numeral_exact l s (c ∷ cs) r h Interchange 1 255)
      (function_exact l s (c ∷ cs) r h)
      (bytes_exact l kept ends s c cs r h true)
      (bytes_exact l kept ends s c cs r h true)
      plain_data

-- "or a text, its letters as they are"
module _ (l kept ends : List ℕ) (s : ℕ) (w r : List ℕ) (h : drop s l ≡ w ++ (code "\"" ∷ r)) where
  text_data : Exact (data_of (s - 1) (s + length w - s) (source Letters s (s + length w))) (bytes_of l kept false) (Data kept ends (text w))
  unfolding data_of fitting wrong meant
  text_data =
      let v = data_of (s - 1) (s + length w - s) (source Letters s (s + length w)) in
      let f = bytes_of l kept false in
      let n : s + length w - s ≡ length w = omega arith in
      let is : part s (s + length w) l ≡ w = part_there l s w (code "\"" ∷ r) h in
      by_test (leb (length w) 65500)
      (λ e. a_value v f (Data kept ends (text w)) (fitting 0 (source Letters s (s + length w))) (rw (n, e)) refl
      (sym is, rw is (leb-true (length w) 65500 e))
      (λ b x. is ∙ x.0))
      (λ e. no_value v f (Data kept ends (text w)) (rw (n, e)) (λ b x. omega (arith, leb-false (length w) 65500 e, ap length x.0, x.1)))

  no_text : (k : ℕ) → (text_value k s (s + length w)).fits ≡ false → ((b : List ℕ) → Means kept ends k (text w) b → ⊥) → Exact (text_value k s (s + length w)) (λ v. value_bytes k v l kept) (Means kept ends k (text w))
  no_text k e n = no_value (text_value k s (s + length w)) (λ v. value_bytes k v l kept) (Means kept ends k (text w)) e n

  pub text_exact : (k : ℕ) → 0x80 < k → k ≤ 0x87 → Exact (text_value k s (s + length w)) (λ v. value_bytes k v l kept) (Means kept ends k (text w))
  unfolding text_value value_bytes Means wrong
  text_exact =
      each (λ (k : ℕ). Exact (text_value k s (s + length w)) (λ v. value_bytes k v l kept) (Means kept ends k (text w)))
      (no_text 0x81 refl (λ b x. x))
      (no_text 0x82 refl (λ b x. x))
      (no_text 0x83 refl (λ b x. x))
      (no_text 0x84 refl (λ b x. x))
      (no_text 0x85 refl (λ b x. x))
      (no_text 0x86 refl (λ b x. x))
      text_data

-- ---- a word as the field k

pub means_exact : (l kept ends : List ℕ) (s : ℕ) (p : Piece) (r : List ℕ) → drop s l ≡ spelled p ++ r → formed p ≡ true → (k : ℕ) → 0x80 < k → k ≤ 0x87
    → Exact (value_of k l (length kept) ends (word_from s p)) (λ v. value_bytes k v l kept) (Means kept ends k p)
unfolding value_of formed
means_exact l kept ends s (plain []) r h f k low high = absurd (false≢true f)
means_exact l kept ends s (plain (c ∷ cs)) r h f k low high = plain_exact l kept ends s c cs r h k low high
means_exact l kept ends s (text w) r h f k low high = text_exact l kept ends (s + 1) w r (inside l s w r h) k low high

-- ---- the bytes of a field have its size

block_size : (kept ends : List ℕ) (p : Piece) (b : List ℕ) → Block kept ends p b → length b ≡ 8
block_size kept ends (plain w) b (inl x) = omega (arith, unhex-length w, ap length x.0.value, x.1)
block_size kept ends (plain w) b (inr x) = x.1
block_size kept ends (text w) b x = absurd x

numeral_size : (size limit : ℕ) (p : Piece) (b : List ℕ) → Numeral size limit p b → (length b ≡ size) × Below 256 b
numeral_size size limit (plain w) b x = rw (← x.2) (digits-length 256 size x.0, digits_below 256 size x.0 (omega arith))
numeral_size size limit (text w) b x = absurd x

function_size : (p : Piece) (b : List ℕ) → Function p b → length b ≡ 1
function_size (plain w) b x = ap length (sym x.1) ∙ one_long w x.0
function_size (text w) b x = absurd x

module _ (kept ends : List ℕ) (p : Piece) (b : List ℕ) where
  pub means_sized : (k : ℕ) → 0x80 < k → k ≤ 0x87 → Means kept ends k p b → has_size k (length b) ≡ true
  unfolding Means has_size
  means_sized =
      each (λ (k : ℕ). Means kept ends k p b → has_size k (length b) ≡ true)
      (λ x. eq-eqb (length b) 4 (numeral_size 4 4294967295 p b x).0)
      (λ x. eq-eqb (length b) 4 (numeral_size 4 4294967295 p b x).0)
      (λ x. eq-eqb (length b) 1 (numeral_size 1 255 p b x).0)
      (λ x. eq-eqb (length b) 1 (function_size p b x))
      (λ x. eq-eqb (length b) 8 (block_size kept ends p b x))
      (λ x. eq-eqb (length b) 8 (block_size kept ends p b x))
      (λ x. refl)

  pub means_bytes : (k : ℕ) → 0x80 < k → k ≤ 0x87 → Means kept ends k p b → k < 0x83 → Below 256 b
  unfolding Means
  means_bytes =
      each (λ (k : ℕ). Means kept ends k p b → k < 0x83 → Below 256 b)
      (λ x u. (numeral_size 4 4294967295 p b x).1)
      (λ x u. (numeral_size 4 4294967295 p b x).1)
      (λ x u. absurd (omega arith))
      (λ x u. absurd (omega arith))
      (λ x u. absurd (omega arith))
      (λ x u. absurd (omega arith))
      (λ x u. absurd (omega arith))
