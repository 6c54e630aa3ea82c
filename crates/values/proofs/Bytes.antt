-- One step of each, for a loop: two hex digits, and a word of raw bytes.
use Rattle.std.proofs.Common.{◌≡◌, refl, sym, ap, ◌∙◌, List, [], ◌∷◌, ℕ, zero, suc, ◌+◌, ◌-◌, ◌*◌, ◌≤◌, ◌<◌, length, get_or, take, drop, arith, take_all, le-leb}
use Rattle.printout.specs.declared.page.Page.{Page}
use Rattle.printout.specs.Inked.{inked, inked_none, inked_more}
use Rattle.stream.specs.Fields.{part}
use Rattle.words.specs.Letters.{front_end}
use Rattle.words.specs.declared.Class.TheVariants.{Blank}
use Rattle.words.specs.declared.Word.{Word}
use Rattle.words.specs.declared.Word.TheVariants.{PlainWord, TextWord, Broken, NoWord}
use Rattle.words.specs.Split.{word_at, starts_at}
use Rattle.values.specs.Sources.{hex_value, unhex, raw_from}

pub unhex_two : (ds : List ℕ) (p : Page) → 2 ≤ length ds
    → inked (unhex (take (length ds - 2) (drop 2 ds))) (inked ((16 * hex_value (get_or ds 0 0) + hex_value (get_or ds 1 0)) ∷ []) p) ≡ inked (unhex ds) p
unfolding unhex
unhex_two [] p h = absurd (omega arith)
unhex_two (a ∷ []) p h = absurd (omega arith)
unhex_two (a ∷ b ∷ cs) p h =
    ap (λ (x : List ℕ). inked (unhex x) (inked ((16 * hex_value a + hex_value b) ∷ []) p)) (take_all (length (a ∷ b ∷ cs) - 2) cs (omega arith))
    ∙ inked_more ((16 * hex_value a + hex_value b) ∷ []) (unhex cs) p

-- where at most one digit is left
pub unhex_short : (ds : List ℕ) (p : Page) → length ds < 2 → inked (unhex ds) p ≡ p
unfolding unhex
unhex_short [] p h = sym (inked_none p)
unhex_short (a ∷ []) p h = sym (inked_none p)
unhex_short (a ∷ b ∷ cs) p h = absurd (omega arith)

-- word i is plain, and the words after it
pub raw_more : (l : List ℕ) (i at a e : ℕ) (p : Page) → i < length l → word_at l at ≡ PlainWord a e
    → inked (raw_from (length l - (i + 1)) l e) (inked (unhex (part a e l)) p) ≡ inked (raw_from (length l - i) l at) p
unfolding raw_from
raw_more l i at a e p h f =
    let k : length l - i ≡ suc (length l - (i + 1)) = omega arith in
    rw (k, f) (inked_more (unhex (part a e l)) (raw_from (length l - (i + 1)) l e) p)

-- past the line there are no words
none_past : (l : List ℕ) → word_at l (length l) ≡ NoWord (length l)
unfolding word_at starts_at
none_past l =
    ap (starts_at l) (sym (front_end Blank l (length l) (omega arith)))
    ∙ rw (le-leb (length l) (length l) (omega arith))

raw_past : (n : ℕ) (l : List ℕ) → raw_from n l (length l) ≡ []
unfolding raw_from
raw_past zero l = refl
raw_past (suc n) l = rw (none_past l) (raw_past n l)

-- where the next word is not plain
raw_other : (n : ℕ) (l : List ℕ) (at : ℕ) (w : Word) → w ≡ word_at l at → ((a e : ℕ) → w ≡ PlainWord a e → ⊥) → raw_from n l at ≡ []
unfolding raw_from
raw_other zero l at w f h = refl
raw_other (suc n) l at (PlainWord a e) f h = absurd (h a e refl)
raw_other (suc n) l at (TextWord a e) f h = rw (← f) (raw_past n l)
raw_other (suc n) l at (Broken b e) f h = rw (← f) (raw_past n l)
raw_other (suc n) l at (NoWord b) f h = rw (← f) (raw_past n l)

pub raw_ends : (n : ℕ) (l : List ℕ) (at : ℕ) (w : Word) (p : Page) → w ≡ word_at l at → ((a e : ℕ) → w ≡ PlainWord a e → ⊥) → inked (raw_from n l at) p ≡ p
raw_ends n l at w p f h = ap (λ (xs : List ℕ). inked xs p) (raw_other n l at w f h) ∙ sym (inked_none p)

pub raw_none : (n : ℕ) (l : List ℕ) (at : ℕ) (p : Page) → n ≡ 0 → inked (raw_from n l at) p ≡ p
unfolding raw_from
raw_none zero l at p h = sym (inked_none p)
raw_none (suc n) l at p h = absurd (omega arith)
