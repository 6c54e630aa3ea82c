-- A line has one splitting into words.
use Rattle.std.specs.Prelude.{◌≡◌, refl, true, List, [], ◌∷◌, ◌++◌, ℕ, ◌+◌, length, drop}
use Rattle.std.proofs.Common.{sym, ap, ap₂, ◌∙◌, subst, true≢false}
use Prim.Native.Char.{code}
use Rattle.words.specs.declared.Word.{Word}
use Rattle.words.specs.Split.{word_at}
use Rattle.reader.specs.Command.{after}
use Rattle.grammar.specs.Lines.{Piece, plain, text, spelled, Begins, Wordless, Lines}
use Rattle.grammar.proofs.LetterLaws.{part_there}
use Rattle.grammar.specs.LineLaws.{word_from}
use Rattle.grammar.proofs.LineLaws.{inside, word_none, begins_stands, after_there}
use Rattle.grammar.specs.Splitting.{piece_of, is_word}

pub piece_there : (l : List ℕ) (s : ℕ) (p : Piece) (r : List ℕ) → drop s l ≡ spelled p ++ r → piece_of l (word_from s p) ≡ p
piece_there l s (plain w) r h = ap plain (part_there l s w r h)
piece_there l s (text w) r h = ap text (part_there l (s + 1) w (code "\"" ∷ r) (inside l s w r h))

pub is_word_lem : (s : ℕ) (p : Piece) → is_word (word_from s p) ≡ true
is_word_lem s (plain w) = refl
is_word_lem s (text w) = refl

-- ---- a line has one splitting

module _ (l : List ℕ) where
  begins_piece : (p : Piece) (rest : List ℕ) → Begins p l rest → (piece_of l (word_at l 0) ≡ p) × (drop (after (length l) (word_at l 0)) l ≡ rest) × (is_word (word_at l 0) ≡ true)
  begins_piece p rest h =
      let k = begins_stands l 0 p rest h in (
        ap (piece_of l) k.word ∙ piece_there l k.start p rest k.there,
        ap (λ (v : Word). drop (after (length l) v) l) k.word ∙ after_there l k.start p rest k.there,
        ap is_word k.word ∙ is_word_lem k.start p,
      )

  pub not-both : (p : Piece) (rest : List ℕ) → Begins p l rest → Wordless l → ⊥
  not-both p rest h k = true≢false (sym (begins_piece p rest h).2 ∙ ap is_word (word_none l 0 k))

pub one_splitting : (ws vs : List Piece) (l : List ℕ) → Lines ws l → Lines vs l → ws ≡ vs
one_splitting [] [] l h k = refl
one_splitting [] (v ∷ vs) l h k = absurd (not-both l v k.0 k.1 h)
one_splitting (w ∷ ws) [] l h k = absurd (not-both l w h.0 h.1 k)
one_splitting (w ∷ ws) (v ∷ vs) l h k =
    let x = begins_piece l w h.0 h.1 in
    let y = begins_piece l v k.0 k.1 in
    ap₂ (λ (p : Piece) (ps : List Piece). p ∷ ps) (sym x.0 ∙ y.0) (one_splitting ws vs h.0 h.2 (subst (Lines vs) (sym y.1 ∙ x.1) k.2))
