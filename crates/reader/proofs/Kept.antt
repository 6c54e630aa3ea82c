-- Laws of a word more, by an index or a count. They stood in specs/; the code is proved without them.
use Rattle.std.specs.Prelude.{◌≡◌, refl, Bool, false, cond, List, ℕ, zero, suc, ◌+◌, ◌-◌, ◌≤◌, ◌<◌, length, get_or, drop}
use Rattle.std.proofs.Common.{ap, arith, add-one, drop_of_length-le, drop-cons}
use Rattle.reader.specs.Line.{Line}
use Rattle.words.specs.Split.{word_at}
use Rattle.reader.specs.Command.{read_word, read_words, nothing_else, ended_line}
use Rattle.reader.specs.Raw.{raw_turn, raw_turns}

-- ---- one word more, for a loop

pub words_step : (l kept ends : List ℕ) (r : Line) (ks : List ℕ) (i : ℕ) → i < length ks → read_words l kept ends r (drop i ks) ≡ read_words l kept ends (read_word l kept ends r (get_or ks i 0)) (drop (i + 1) ks)
unfolding read_words
words_step l kept ends r ks i h = rw (add-one, drop-cons ks i 0 h)

pub words_end : (l kept ends : List ℕ) (r : Line) (ks : List ℕ) (i : ℕ) → length ks ≤ i → read_words l kept ends r (drop i ks) ≡ r
unfolding read_words
words_end l kept ends r ks i h = rw drop_of_length-le

-- ---- a line that is wrong already

-- it stays as it is, whatever stands beside its mark
pub wrong_stays : (l : List ℕ) (r : Line) → r.fits ≡ false → ended_line l r ≡ r
unfolding ended_line
wrong_stays l r h = ap (λ (fits : Bool). cond fits (nothing_else r (word_at l r.at)) r) h

-- ---- of raw bytes

pub turns_step : (l : List ℕ) (n : ℕ) (r : Line) → 0 < n → raw_turns l (n - 1) (raw_turn l r) ≡ raw_turns l n r
unfolding raw_turns
turns_step l zero r h = absurd (omega arith)
turns_step l (suc n) r h = let e : suc n - 1 ≡ n = omega arith in rw e

pub turns_end : (l : List ℕ) (n : ℕ) (r : Line) → n ≡ 0 → raw_turns l n r ≡ r
unfolding raw_turns
turns_end l zero r h = refl
turns_end l (suc n) r h = absurd (omega arith)
