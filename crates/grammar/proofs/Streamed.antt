-- What a line says is a command's value in the stream, short enough for its field; and it is read back from the bytes that the encoder writes.
use Rattle.std.specs.Prelude.{◌≡◌, refl, true, ◌⊎◌, ℕ, ◌+◌, ◌*◌, ◌≤◌, ◌<◌, eqb}
use Rattle.std.proofs.Math.Path.{ap}
use Rattle.std.proofs.lemmas.Bool.{false≢true}
use Rattle.std.proofs.Common.{inl, inr, arith, length-append, eqb-true}
use Rattle.std.specs.Prelude.{Some}
use mathlib.Core.List.{List, [], ◌∷◌}
use Rattle.std.proofs.Math.ListN.{length}
use Rattle.ground.specs.Search.{by_test}
use Rattle.ground.specs.Rows.{digits-length}
use Rattle.stream.specs.declared.Request.{Request}
use Rattle.stream.specs.Fields.{Bytes, field}
use Rattle.stream.proofs.FieldLaws.{field-length}
use Rattle.stream.specs.Commands.{arguments_of}
use Rattle.stream.specs.Grammar.{spelled as spelt, argument, among, Spells}
use Rattle.stream.proofs.GrammarLaws.{arguments_ordered}
use Rattle.stream.specs.RequestLaws.{Sound}
use Rattle.stream.proofs.RequestLaws.{each}
use Rattle.encoder.specs.Encoded.{encoded}
use Rattle.encoder.specs.RoundTrip.{ReadBack}
use Rattle.encoder.proofs.RoundTrip.{as_field, read_back}
use Rattle.grammar.specs.Lines.{Piece, plain, text}
use Rattle.grammar.specs.Means.{Data, Means}
use Rattle.grammar.specs.Says.{Each, Commands}
use Rattle.grammar.proofs.Sizes.{with_data, all_length}

-- 11 bytes for each field with its header, and the data
value_length : (t : ℕ) (ks : List ℕ) (a : Request) (d : Bytes) → Sound t a → arguments_of t ≡ Some ks → length (spelt ks a d) ≤ 11 * length ks + length d
unfolding spelt argument
value_length t ks a d sound known =
    all_length (λ (k : ℕ). length (field k (argument k a d))) (λ (l : List ℕ). length (spelt l a d)) 11 (length d) refl
    (λ k l. length-append (field k (argument k a d)) (spelt l a d))
    (each (λ (k : ℕ). k < 0x87 → length (field k (argument k a d)) ≤ 11)
    (λ x. omega (arith, field-length 0x81 (argument 0x81 a d), digits-length 256 4 a.issuer))
    (λ x. omega (arith, field-length 0x82 (argument 0x82 a d), digits-length 256 4 a.party))
    (λ x. omega (arith, field-length 0x83 (argument 0x83 a d)))
    (λ x. omega (arith, field-length 0x84 (argument 0x84 a d)))
    (λ x. omega (arith, field-length 0x85 a.block, sound.eight.0))
    (λ x. omega (arith, field-length 0x86 a.second, sound.eight.1))
    (λ x. absurd (omega arith)))
    (omega (arith, field-length 0x87 d))
    0x80 ks (omega arith) (arguments_ordered t ks known).0

module _ (kept ends l : List ℕ) (a : Request) (d : Bytes) (h : Commands kept ends l a d) where
  its_word : (ks : List ℕ) (ps : List Piece) → Each kept ends ks ps a d → (k : ℕ) → among k ks ≡ true → (p : Piece) × Means kept ends k p (argument k a d)
  unfolding among
  its_word [] ps e k x = absurd (false≢true x)
  its_word (j ∷ ks) [] e k x = absurd e
  its_word (j ∷ ks) (p ∷ ps) e k x =
      by_test (eqb k j)
      (λ q. rw (eqb-true k j q) (p, e.0))
      (λ q. its_word ks ps e.1 k (rw q at x))

  data_short : (p : Piece) → Data kept ends p d → length d ≤ 65500
  data_short (plain w) x = x.1
  data_short (text w) x = x.1

  short_data : length d ≤ 65500
  unfolding Means argument
  short_data =
      by_test (among 0x87 h.arguments)
      (λ x. let p = its_word h.arguments h.words h.fields 0x87 x in data_short p.0 p.1)
      (λ x. omega (arith, ap length (h.absent 0x87 x)))

  pub line_spells : Spells a.tag (spelt h.arguments a d) a d
  line_spells =
      record {
        arguments = h.arguments;
        known = h.known;
        value = refl;
        tagged = refl;
        issued = h.sound.issued;
        partied = h.sound.partied;
        eight = h.sound.eight;
        short = omega (arith, short_data);
        absent = h.absent;
      }

  -- two bytes can say its length
  pub line_short : length (spelt h.arguments a d) < 65536
  line_short = by (with_data a.tag h.arguments a d h.known h.absent)
    where
      value : length (spelt h.arguments a d) ≤ 11 * length h.arguments + length d
      value = value_length a.tag h.arguments a d h.sound h.known

      by : (length d ≡ 0) ⊎ (length h.arguments ≤ 3) → length (spelt h.arguments a d) < 65536
      by (inl none) = omega (arith, value, none, (arguments_ordered a.tag h.arguments h.known).1)
      by (inr few) = omega (arith, value, few, short_data)

  -- it is written as its whole field
  pub line-field : encoded a d ≡ field a.tag (spelt h.arguments a d)
  line-field = as_field a.tag (spelt h.arguments a d) a d line_spells line_short

  -- and what the line says is read back from there
  pub line-read_back : ReadBack (encoded a d) 0 a.tag (spelt h.arguments a d) a d
  line-read_back = read_back a.tag (spelt h.arguments a d) a d line_spells line_short
