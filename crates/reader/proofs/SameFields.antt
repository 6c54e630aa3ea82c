-- A command's fields, where they stood in a list of five with 0 for none, and 0 was passed over: what is read is the same.
use Rattle.std.specs.Prelude.{◌≡◌, refl, Bool, true, false, cond, List, [], ◌∷◌, ℕ, zero, suc, ◌≤◌, ◌<◌, eqb, length, Option, None, Some, unwrap_or}
use Rattle.std.proofs.Common.{arith, ne_eqb, sym, ap, ◌∙◌}
use Rattle.ground.specs.Lists.{padded}
use Rattle.names.specs.declared.Says.TheVariants.{Command}
use Rattle.stream.specs.Commands.{arguments_of}
use Rattle.stream.specs.GrammarLaws.{ascending}
use Rattle.stream.proofs.GrammarLaws.{above, later, arguments_ordered}
use Rattle.values.specs.declared.Origin.TheVariants.{Letters}
use Rattle.values.specs.Sources.{source}
use Rattle.reader.specs.Line.{Line, so_far}
use Rattle.reader.specs.Command.{read_word, read_words, ended_line, command_line}

module _ (l kept ends : List ℕ) where
  abbrev pub word_or_none : Line → ℕ → Line
  word_or_none r k = cond (eqb k 0) r (read_word l kept ends r k)

  abbrev pub words_or_none : Line → List ℕ → Line
  words_or_none r [] = r
  words_or_none r (k ∷ ks) = words_or_none (word_or_none r k) ks

  same_words : (n m : ℕ) (ks : List ℕ) (r : Line) → length ks ≤ n → ascending m ks ≡ true → words_or_none r (padded n ks) ≡ read_words l kept ends r ks
  unfolding read_words padded
  same_words zero m [] r h up = refl
  same_words zero m (k ∷ ks) r h up = absurd (omega arith)
  same_words (suc n) m [] r h up = same_words n m [] r (omega arith) up
  same_words (suc n) m (k ∷ ks) r h up =
      let lies : m < k = above m k ks up in
      let e : eqb k 0 ≡ false = ne_eqb k 0 (λ q. omega (arith, lies, q)) in
      ap (λ (b : Bool). words_or_none (cond b r (read_word l kept ends r k)) (padded n ks)) e
      ∙ same_words n k ks (read_word l kept ends r k) (omega arith) (later m k ks up)

  abbrev pub named : ℕ → ℕ → Line
  named t at = so_far Command t at (source Letters 0 0)

  of_form : (t : ℕ) (r : Line) (o : Option (List ℕ)) → arguments_of t ≡ o → read_words l kept ends r (unwrap_or o []) ≡ words_or_none r (padded 5 (unwrap_or o []))
  unfolding ascending
  of_form t r None e = sym (same_words 5 0 [] r (omega arith) refl)
  of_form t r (Some ks) e = let x = arguments_ordered t ks e in sym (same_words 5 0x80 ks r x.1 x.0)

  pub same_fields : (t at : ℕ) → command_line t l kept ends at ≡ ended_line l (words_or_none (named t at) (padded 5 (unwrap_or (arguments_of t) [])))
  unfolding command_line
  same_fields t at = ap (ended_line l) (of_form t (named t at) (arguments_of t) refl)
