-- One step more, for a loop: a command's next word, and the next word of raw bytes; and no line that is wrong goes on.
use Rattle.std.proofs.Common.{◌≡◌, refl, sym, ap, ap₂, ◌∙◌, List, [], ◌∷◌, ℕ, zero, suc, ◌+◌, ◌-◌, ◌≤◌, ◌<◌, length, get_or, drop, Option, Some, None, option_copied, Bor, arith, add-one, drop-cons, drop_of_length-le}
use Rattle.std.specs.Option.{unwrap_or}
use Rattle.stream.specs.Commands.{arguments_of}
use Rattle.names.specs.declared.Says.TheVariants.{Command}
use Rattle.values.specs.declared.Origin.TheVariants.{Letters}
use Rattle.values.specs.Sources.{source}
use Rattle.words.specs.declared.Expected.{Expected}
use Rattle.reader.specs.Line.{Line, wrong_line, so_far}
use Rattle.reader.specs.Command.{read_word, read_words, ended_line, command_line}
use Rattle.reader.specs.Raw.{raw_turn, raw_turns}

module _ (l kept ends : List ℕ) where
  wrong_read : (ks : List ℕ) (at : ℕ) (x : Expected) → read_words l kept ends (wrong_line at x) ks ≡ wrong_line at x
  unfolding read_words read_word wrong_line
  wrong_read [] at x = refl
  wrong_read (k ∷ ks) at x = wrong_read ks at x

  pub word_more : (r : Line) (ks : List ℕ) (i : ℕ) → i < length ks
      → read_words l kept ends (read_word l kept ends r (get_or ks i 0)) (drop (i + 1) ks) ≡ read_words l kept ends r (drop i ks)
  unfolding read_words
  word_more r ks i h = rw (add-one, drop-cons ks i 0 h)

  pub word_wrong : (r : Line) (ks : List ℕ) (i at : ℕ) (x : Expected) → i < length ks → wrong_line at x ≡ read_word l kept ends r (get_or ks i 0)
      → ended_line l (read_words l kept ends r (drop i ks)) ≡ wrong_line at x
  unfolding ended_line wrong_line
  word_wrong r ks i at x h e =
      ap (ended_line l)
      (sym (word_more r ks i h) ∙ ap (λ (q : Line). read_words l kept ends q (drop (i + 1) ks)) (sym e) ∙ wrong_read (drop (i + 1) ks) at x)

  pub words_read : (r : Line) (ks : List ℕ) (i : ℕ) → length ks ≤ i → read_words l kept ends r (drop i ks) ≡ r
  unfolding read_words
  words_read r ks i h = rw (drop_of_length-le ks h)

  -- the fields of a command, where its form is found
  pub form_read : (t at : ℕ) (r : Line) (o : Option (Bor (List ℕ))) (fs d : Bor (List ℕ)) → r ≡ so_far Command t at (source Letters 0 0)
      → fs ≡ unwrap_or o d → d.now ≡ [] → option_copied o ≡ arguments_of t → ended_line l (read_words l kept ends r fs.now) ≡ command_line t l kept ends at
  unfolding command_line
  form_read t at r o fs d e f g h =
      ap₂ (λ (q : Line) (ks : List ℕ). ended_line l (read_words l kept ends q ks)) e
      (ap (λ (s : Bor (List ℕ)). s.now) f ∙ found o g ∙ ap (λ (x : Option (List ℕ)). unwrap_or x []) h)
    where
      found : (o : Option (Bor (List ℕ))) → d.now ≡ [] → (unwrap_or o d).now ≡ unwrap_or (option_copied o) []
      found None q = q
      found (Some s) q = refl

module _ (l : List ℕ) where
  wrong_turned : (n at : ℕ) (x : Expected) → raw_turns l n (wrong_line at x) ≡ wrong_line at x
  unfolding raw_turns raw_turn wrong_line
  wrong_turned zero at x = refl
  wrong_turned (suc n) at x = wrong_turned n at x

  pub turn_more : (r : Line) (i : ℕ) → i < length l → raw_turns l (length l - (i + 1)) (raw_turn l r) ≡ raw_turns l (length l - i) r
  unfolding raw_turns
  turn_more r i h = let k : length l - i ≡ suc (length l - (i + 1)) = omega arith in rw k

  pub turn_wrong : (r : Line) (i at : ℕ) (x : Expected) → i < length l → wrong_line at x ≡ raw_turn l r → raw_turns l (length l - i) r ≡ wrong_line at x
  turn_wrong r i at x h e =
      sym (turn_more r i h) ∙ ap (raw_turns l (length l - (i + 1))) (sym e) ∙ wrong_turned (length l - (i + 1)) at x

  pub turns_done : (r : Line) (n : ℕ) → n ≡ 0 → raw_turns l n r ≡ r
  unfolding raw_turns
  turns_done r n h = rw h

-- what the two loops are proved with
pub ruleset words = (form_read, word_more, word_wrong, words_read)

pub ruleset turns = (turn_more, turn_wrong, turns_done)
