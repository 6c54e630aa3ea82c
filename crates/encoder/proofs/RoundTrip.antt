-- Writing and decoding undo one another: what is written is read back, and what is read is written to the same bytes.
use Rattle.std.specs.Prelude.{◌≡◌, Bool, cond, [], ◌++◌, ℕ, ◌+◌, ◌-◌, ◌<◌, length, drop, Some}
use Rattle.std.proofs.Common.{sym, ap, ◌∙◌, subst, append-nil, arith, take_at, lt-ltb}
use Rattle.ground.specs.Lists.{Below, below_take, below_drop}
use Rattle.stream.specs.declared.Field.TheVariants.{Whole}
use Rattle.stream.specs.declared.Request.{Request}
use Rattle.stream.specs.declared.Reading.{Reading}
use Rattle.stream.specs.Fields.{Bytes, field, part, field_at, value_at, value_whole, part_length, within}
use Rattle.stream.proofs.FieldLaws.{field-length, field_is_whole, field_value, whole_is_field, whole_short}
use Rattle.stream.specs.Commands.{arguments_of, decoded}
use Rattle.stream.specs.Grammar.{Spells}
use Rattle.stream.proofs.Exact.{fits_spells, spells_fits}
use Rattle.encoder.specs.Encoded.{encoded_with, unless_long, encoded}
use Rattle.encoder.specs.RoundTrip.{ReadBack}

module _ (t : ℕ) (v : Bytes) (a : Request) (d : Bytes) (h : Spells t v a d) (short : length v < 65536) where
  -- a command of the grammar is written as its field
  pub as_field : encoded a d ≡ field t v
  unfolding encoded
  as_field =
      let known = ap arguments_of h.tagged ∙ h.known in
      ap (encoded_with a d) known
      ∙ ap (unless_long a.tag) (sym h.value)
      ∙ ap (λ (b : Bool). cond b (field a.tag v) []) (lt-ltb (length v) 65536 short)
      ∙ ap (λ (n : ℕ). field n v) h.tagged

  -- wherever it stands in a stream, whatever follows it, it is read back
  pub read-within : (s : Bytes) (at : ℕ) (r : Bytes) → drop at s ≡ encoded a d ++ r → ReadBack s at t v a d
  read-within s at r e =
      let stands : drop at s ≡ field t v ++ r = e ∙ ap (λ (x : Bytes). x ++ r) as_field in
      let whole = field_is_whole s at t v r short stands in
      let back = spells_fits t v a d h in
      record {
        whole = whole;
        value = value_whole s at t (at + 3) (at + 3 + length v) whole ∙ field_value s at t v r stands;
        reading = back.0;
        fits = back.1;
        asked = back.2;
        rest = back.3;
      }

  -- by itself too
  pub read_back : ReadBack (encoded a d) 0 t v a d
  read_back = read-within (encoded a d) 0 [] (sym (append-nil (encoded a d)))

-- what the decoder reads out of a stream is written to the very bytes that stand there
module _ (s : Bytes) (at tag start end : ℕ) (bytes : Below 256 s) (whole : field_at s at ≡ Whole tag start end) where
  the_field : part at end s ≡ field tag (value_at s at)
  the_field =
      let w = within s at tag start end whole in
      let v = part start end s in
      let n : length (field tag v) ≡ end - at = field-length tag v ∙ omega (arith, part_length start end s w.1 w.2) in
      rw (value_whole s at tag start end whole, whole_is_field s at tag start end bytes whole) (take_at (field tag v) (drop end s) (end - at) n)

  pub same_bytes : (r : Reading) → decoded tag (value_at s at) ≡ Some r → encoded r.asked (drop r.text (value_at s at)) ≡ part at end s
  same_bytes r fits =
      let v = value_at s at in
      let is : v ≡ part start end s = value_whole s at tag start end whole in
      let small : Below 256 v = subst (Below 256) (sym is) (below_take 256 (end - start) (drop start s) (omega arith) (below_drop 256 start s bytes)) in
      let short : length v < 65536 = subst (λ (x : Bytes). length x < 65536) (sym is) (whole_short s at tag start end bytes whole) in
      as_field tag v r.asked (drop r.text v) (fits_spells tag v small r fits) short ∙ sym the_field
