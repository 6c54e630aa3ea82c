-- The line of a command finds room in the 131072 letters that a line may have, with as much data as the page allows.
use Rattle.std.specs.Prelude.{◌≡◌, true, ◌⊎◌, ltb}
use Rattle.std.proofs.Math.Path.{refl}
use Rattle.std.proofs.Common.{ap, inl, inr, arith}
use mathlib.Core.List.{List, [], ◌∷◌}
use Prim.Native.Nat.{ℕ, zero, suc, ◌+◌, ◌*◌, ◌/◌, ◌%◌, ◌≤◌, ◌<◌}
use Rattle.std.proofs.Math.ListN.{length, length-append}
use Rattle.ground.specs.Search.{by_test}
use Rattle.names.specs.Names.{name}
use Rattle.printout.specs.Digits.{decimal_in, decimal}
use Rattle.stream.specs.declared.Request.{Request}
use Rattle.stream.specs.Fields.{Bytes}
use Rattle.stream.specs.Commands.{commands, arguments_of}
use Rattle.stream.specs.Grammar.{Spells}
use Rattle.stream.specs.RequestLaws.{Sound}
use Rattle.stream.proofs.RequestLaws.{each}
use Rattle.stream.specs.GrammarLaws.{ascending}
use Rattle.stream.proofs.GrammarLaws.{arguments_ordered}
use Rattle.grammar.specs.Lines.{spelled}
use Rattle.grammar.proofs.Sizes.{with_data, all_length}
use Rattle.grammar.specs.Sayable.{data_word, word_for, spaced, written}
use Rattle.grammar.proofs.Sayable.{hex-length, commands_in_capitals, name_good}

decimal_short : (k n : ℕ) → length (decimal_in k n) ≤ k
unfolding decimal_in
decimal_short zero n = omega arith
decimal_short (suc k) n =
    let i = decimal_short k (n / 10) in
    by_test (ltb n 10) (λ e. rw e (omega arith)) (λ e. rw e (omega (arith, i, length-append (decimal_in k (n / 10)) ((48 + n % 10) ∷ []))))

pub twenty : (n : ℕ) → length (decimal n) ≤ 20
unfolding decimal
twenty n = decimal_short 20 n

data_length : (d : Bytes) → length (spelled (data_word d)) ≤ 2 * length d + 2
unfolding data_word
data_length [] = omega arith
data_length (b ∷ bs) = omega (arith, hex-length (b ∷ bs))

module _ (t : ℕ) (a : Request) (d : Bytes) (sound : Sound t a) where
  word-length : (k : ℕ) → 0x80 < k → k ≤ 0x87 → k < 0x87 → suc (length (spelled (word_for k a d))) ≤ 21
  unfolding word_for
  word-length =
      each (λ (k : ℕ). k < 0x87 → suc (length (spelled (word_for k a d))) ≤ 21)
      (λ x. omega (arith, twenty a.issuer))
      (λ x. omega (arith, twenty a.party))
      (λ x. omega (arith, twenty a.interchange))
      (λ x. omega arith)
      (λ x. omega (arith, hex-length a.block, sound.eight.0))
      (λ x. omega (arith, hex-length a.second, sound.eight.1))
      (λ x. absurd (omega arith))

  spaced-length : (ks : List ℕ) → ascending 0x80 ks ≡ true → length (spaced ks a d) ≤ 21 * length ks + 2 * length d
  unfolding spaced word_for
  spaced-length ks up =
      all_length (λ (k : ℕ). suc (length (spelled (word_for k a d)))) (λ (l : List ℕ). length (spaced l a d)) 21 (2 * length d) refl
      (λ k l. omega (arith, length-append (spelled (word_for k a d)) (spaced l a d)))
      word-length (omega (arith, data_length d)) 0x80 ks (omega arith) up

pub written_room : (t : ℕ) (v : Bytes) (a : Request) (d : Bytes) (h : Spells t v a d) → length d ≤ 65500 → length (written h.arguments a d) ≤ 131072
unfolding written arguments_of
written_room t v a d h short = by (with_data t ks a d h.known h.absent)
  where
    ks : List ℕ
    ks = h.arguments

    sound : Sound t a
    sound = record { tagged = h.tagged; issued = h.issued; partied = h.partied; eight = h.eight }

    -- at most 6 letters for the name
    line : length (written ks a d) ≤ 6 + 21 * length ks + 2 * length d
    line =
        omega (
          arith,
          (name_good t ks commands h.known commands_in_capitals).2,
          spaced-length t a d sound ks (arguments_ordered t ks h.known).0,
          ap (λ (m : ℕ). length (name m)) h.tagged,
          length-append (name a.tag) (spaced ks a d),
        )

    by : (length d ≡ 0) ⊎ (length ks ≤ 3) → length (written ks a d) ≤ 131072
    by (inl none) = omega (arith, line, none, (arguments_ordered t ks h.known).1)
    by (inr few) = omega (arith, line, few, short)
