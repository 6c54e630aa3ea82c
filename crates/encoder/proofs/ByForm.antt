-- A command's bytes by its form: the header with the size that was counted, and the argument fields.
use Rattle.std.specs.Prelude.{◌≡◌, refl, Bool, true, false, cond, List, [], ◌∷◌, ◌++◌, ℕ, ◌+◌, ◌<◌, ◌≤◌, eqb, length, get_or, take, Some, None}
use Rattle.std.specs.Int.{w32, to_be_bytes}
use Rattle.std.proofs.Common.{ap, ap₂, ◌∙◌, arith, div-one, length-append, lt-ltb, le-ltb}
use Rattle.ground.specs.Rows.{digits, digits-length}
use Rattle.printout.specs.Parts.{parts_more}
use Rattle.stream.specs.declared.Request.{Request}
use Rattle.stream.specs.Fields.{Bytes, field}
use Rattle.stream.proofs.FieldLaws.{field-length}
use Rattle.stream.specs.Commands.{arguments_of}
use Rattle.stream.specs.Grammar.{argument, spelled}
use Rattle.encoder.specs.Encoded.{encoded}
use Rattle.encoder.specs.Written.{one_size, all_sizes, counted}

pub four_bytes : (x : ℕ) → to_be_bytes w32 x ≡ digits 256 4 x
unfolding digits
four_bytes x = rw div-one

-- one field more, as a loop puts them
pub fields_more : (ks : List ℕ) (a : Request) (d : Bytes) (i : ℕ) → i < length ks
    → spelled (take i ks) a d ++ field (get_or ks i 0) (argument (get_or ks i 0) a d) ≡ spelled (take (i + 1) ks) a d
unfolding spelled
fields_more ks a d i h = parts_more (λ k. field k (argument k a d)) (λ js. spelled js a d) refl (λ k js. refl) ks i 0 h

-- ---- the lengths of the argument fields

pub pick_size : (b : Bool) (x y : Bytes) (m n : ℕ) → 3 + length x ≡ m → 3 + length y ≡ n → 3 + length (cond b x y) ≡ cond b m n
pick_size true x y m n e f = e
pick_size false x y m n e f = f

module _ (a : Request) (d : Bytes) (eight : (length a.block ≡ 8) × (length a.second ≡ 8)) where
  one_length : (k : ℕ) → length (field k (argument k a d)) ≡ one_size k (length d)
  unfolding one_size argument
  one_length k =
      field-length k (argument k a d) ∙
      pick_size (eqb k 0x81) _ _ _ _ (ap (λ (n : ℕ). 3 + n) (digits-length 256 4 a.issuer)) (
      pick_size (eqb k 0x82) _ _ _ _ (ap (λ (n : ℕ). 3 + n) (digits-length 256 4 a.party)) (
      pick_size (eqb k 0x83) _ _ _ _ refl (
      pick_size (eqb k 0x84) _ _ _ _ refl (
      pick_size (eqb k 0x85) _ _ _ _ (ap (λ (n : ℕ). 3 + n) eight.0) (
      pick_size (eqb k 0x86) _ _ _ _ (ap (λ (n : ℕ). 3 + n) eight.1) (
      pick_size (eqb k 0x87) _ _ _ _ refl refl))))))

  all_length : (ks : List ℕ) → length (spelled ks a d) ≡ all_sizes ks (length d)
  unfolding spelled all_sizes
  all_length [] = refl
  all_length (k ∷ ks) = length-append (field k (argument k a d)) (spelled ks a d) ∙ ap₂ (λ (m n : ℕ). m + n) (one_length k) (all_length ks)

-- ---- the command's bytes, with the list ks of its arguments, and the size n that was counted

module _ (a : Request) (d : Bytes) where
  pub unknown : arguments_of a.tag ≡ None → encoded a d ≡ []
  unfolding encoded
  unknown e = rw e

  module _ (ks : List ℕ) (n : ℕ) (eight : (length a.block ≡ 8) × (length a.second ≡ 8)) (known : Some ks ≡ arguments_of a.tag) (size : n ≡ counted (all_sizes ks (length d))) where
    pub too_long : 65536 ≤ n → encoded a d ≡ []
    unfolding encoded
    too_long l = let long : 65536 ≤ length (spelled ks a d) = omega (arith, all_length a d eight ks, size) in rw (← known, le-ltb (length (spelled ks a d)) 65536 long)

    pub whole : n < 65536 → (a.tag ∷ digits 256 2 n) ++ spelled ks a d ≡ encoded a d
    unfolding encoded
    whole l =
        let same : length (spelled ks a d) ≡ n = omega (arith, all_length a d eight ks, size) in
        rw (← known, same, lt-ltb n 65536 l)
