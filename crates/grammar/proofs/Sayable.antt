-- What the stream says, a line can say, if the function is t, r or s and the data are at most 65500 bytes.
use Rattle.std.specs.Prelude.{◌≡◌, Bool, false, ℕ, zero, suc, ◌+◌, ◌*◌, ◌/◌, ◌%◌, ◌^◌, ◌≤◌, ◌<◌, eqb, ltb, leb, length}
use Rattle.std.proofs.Math.Path.{refl, subst}
use Rattle.std.proofs.Common.{sym, ap, ◌∙◌, inl, inr, arith, length-append, get_or-append-add, eqb-true, eq-eqb, ne_eqb, leb-true, ltb-true, ltb-false}
use Rattle.std.proofs.Math.Bool.{true, cond}
use Rattle.std.proofs.lemmas.Bool.{false≢true}
use Rattle.std.specs.Prelude.{Some}
use Rattle.std.proofs.lemmas.Option.{none-some}
use mathlib.Core.List.{List, [], ◌∷◌, ◌++◌, map, head-eq_of_cons-eq}
use Prim.Native.Char.{code}
use Rattle.ground.specs.Search.{by_test}
use Rattle.ground.specs.Lists.{Below}
use Rattle.ground.specs.Rows.{digits}
use Rattle.names.specs.Names.{capital, same_name, name}
use Rattle.printout.specs.Digits.{hex_byte, hex, decimal, decimal-last, decimal_step}
use Rattle.printout.specs.Text.{letters}
use Rattle.stream.specs.declared.Request.{Request}
use Rattle.stream.specs.Fields.{Bytes, field}
use Rattle.stream.specs.Commands.{Row as Form, commands, arguments_in, arguments_of, blank}
use Rattle.stream.specs.Grammar.{spelled as spelt, argument, among, Spells}
use Rattle.stream.specs.RequestLaws.{Sound}
use Rattle.stream.proofs.RequestLaws.{each}
use Rattle.stream.specs.GrammarLaws.{ascending}
use Rattle.stream.proofs.GrammarLaws.{above, up_to, later, arguments_ordered}
use Rattle.words.specs.declared.Class.{Class}
use Rattle.words.specs.declared.Class.TheVariants.{Plain, Digit, Hex}
use Rattle.words.specs.Letters.{between, blank_letter, is_in}
use Rattle.grammar.specs.Lines.{every, Piece, plain, formed, stopped, comment, Lines}
use Rattle.grammar.specs.Means.{Numeral, Block, Data, Means}
use Rattle.grammar.specs.Says.{Each, Commands}
use Rattle.grammar.proofs.LetterLaws.{both}
use Rattle.grammar.proofs.NameLaws.{same_true}
use Rattle.grammar.proofs.Printed.{printed-bytes, printed-number}
use Rattle.grammar.specs.Sayable.{data_word, word_for, spaced, written, OneOf, Sayable}

-- ---- its words are formed

-- a letter from 0 on is no blank, no `#` and no quote
high_plain : (c : ℕ) → code "0" ≤ c → (is_in Plain c ≡ true) × (eqb c (code "\"") ≡ false)
unfolding is_in blank_letter
high_plain c h =
    rw (ne_eqb c 32 (λ e. omega arith), ne_eqb c 9 (λ e. omega arith), ne_eqb c 13 (λ e. omega arith), ne_eqb c (code "#") (λ e. omega arith), ne_eqb c (code "\"") (λ e. omega arith))
    (refl, refl)

-- letters of a class that lies from 0 on
module _ (k : Class) (high : (c : ℕ) → is_in k c ≡ true → code "0" ≤ c) where
  every-plain : (w : List ℕ) → every k w ≡ true → every Plain w ≡ true
  unfolding every
  every-plain [] h = refl
  every-plain (c ∷ cs) h =
      let x = both (is_in k c) (every k cs) h in
      rw (high_plain c (high c x.0)).0 (every-plain cs x.1)

  class_formed : (w : List ℕ) → 0 < length w → every k w ≡ true → formed (plain w) ≡ true
  unfolding formed every
  class_formed [] l h = absurd (omega arith)
  class_formed (c ∷ cs) l h =
      let x = both (is_in k c) (every k cs) h in
      let p = high_plain c (high c x.0) in
      rw (p.1, p.0) (every-plain cs x.1)

low_end : (first last c : ℕ) → between first last c ≡ true → first ≤ c
unfolding between
low_end first last c h = leb-true first c (both (leb first c) (leb c last) h).0

digit_high : (c : ℕ) → is_in Digit c ≡ true → code "0" ≤ c
unfolding is_in
digit_high c h = low_end (code "0") (code "9") c h

hex_high : (c : ℕ) → is_in Hex c ≡ true → code "0" ≤ c
unfolding is_in
hex_high c h =
    by_test (between (code "0") (code "9") c)
    (λ e. low_end (code "0") (code "9") c e)
    (λ e. by_test (between (code "A") (code "F") c)
    (λ f. let x = low_end (code "A") (code "F") c f in omega arith)
    (λ f. let g : between (code "a") (code "f") c ≡ true = rw (e, f) at h in let x = low_end (code "a") (code "f") c g in omega arith))

some_digit : (n : ℕ) → n < 10 ^ 20 → 0 < length (decimal n)
some_digit n h =
    by_test (ltb n 10)
    (λ e. rw (decimal-last n (ltb-true n 10 e)) (omega arith))
    (λ e. rw (decimal_step n (ltb-false n 10 e) h) (omega (arith, length-append (decimal (n / 10)) ((48 + n % 10) ∷ []))))

decimal-formed : (n : ℕ) → n < 10 ^ 20 → formed (plain (decimal n)) ≡ true
decimal-formed n h = class_formed Digit digit_high (decimal n) (some_digit n h) (printed-number n n (omega arith) h).digit

pub hex-length : (bs : List ℕ) → length (hex bs) ≡ 2 * length bs
unfolding hex hex_byte
hex-length [] = refl
hex-length (b ∷ bs) = let i = hex-length bs in omega arith

hex-formed : (bs : List ℕ) → 0 < length bs → Below 256 bs → formed (plain (hex bs)) ≡ true
hex-formed bs l h = class_formed Hex hex_high (hex bs) (omega (arith, hex-length bs)) (printed-bytes bs h).hex

function_formed : (c : ℕ) → OneOf c → formed (plain (c ∷ [])) ≡ true
unfolding formed every is_in blank_letter
function_formed c (inl e) = rw (head-eq_of_cons-eq e)
function_formed c (inr (inl e)) = rw (head-eq_of_cons-eq e)
function_formed c (inr (inr e)) = rw (head-eq_of_cons-eq e)

one_byte : (n : ℕ) → n < 256 → digits 256 1 n ≡ n ∷ []
unfolding digits
one_byte n h = let e : n / 1 % 256 ≡ n = omega arith in ap (λ (m : ℕ). m ∷ []) e

module _ (kept ends : List ℕ) (t : ℕ) (all : List ℕ) (a : Request) (d : Bytes) (sound : Sound t a) (s : Sayable all a d) where
  -- the word for the field k is a word, and says it
  abbrev Good : ℕ → Type 0
  Good k = (formed (word_for k a d) ≡ true) × Means kept ends k (word_for k a d) (argument k a d)

  numeral_good : (size limit n : ℕ) → n ≤ limit → n < 10 ^ 20 → (formed (plain (decimal n)) ≡ true) × Numeral size limit (plain (decimal n)) (digits 256 size n)
  numeral_good size limit n h m = (decimal-formed n m, (n, printed-number limit n h m, refl))

  block_good : (b : List ℕ) → length b ≡ 8 → Below 256 b → (formed (plain (hex b)) ≡ true) × Block kept ends (plain (hex b)) b
  block_good b n h = (hex-formed b (omega arith) h, inl (printed-bytes b h, omega (arith, hex-length b)))

  data_good : (b : List ℕ) → length b ≤ 65500 → Below 256 b → (formed (data_word b) ≡ true) × Data kept ends (data_word b) b
  unfolding data_word formed every
  data_good [] n h = (refl, (refl, n))
  data_good (x ∷ xs) n h = (hex-formed (x ∷ xs) (omega arith) h, (inl (printed-bytes (x ∷ xs) h), n))

  word_good : (k : ℕ) → 0x80 < k → k ≤ 0x87 → among k all ≡ true → Good k
  unfolding word_for Means argument
  word_good =
      each (λ (k : ℕ). among k all ≡ true → Good k)
      (λ x. let h = sound.issued in numeral_good 4 4294967295 a.issuer (omega arith) (omega arith))
      (λ x. let h = sound.partied in numeral_good 4 4294967295 a.party (omega arith) (omega arith))
      (λ x.
      let h = s.bytes 0x83 x 0 in
      subst (λ (b : List ℕ). (formed (plain (decimal a.interchange)) ≡ true) × Numeral 1 255 (plain (decimal a.interchange)) b) (one_byte a.interchange h)
      (numeral_good 1 255 a.interchange (omega arith) (omega arith)))
      (λ x. (function_formed a.function (s.function x), (s.function x, refl)))
      (λ x. block_good a.block sound.eight.0 (s.bytes 0x85 x))
      (λ x. block_good a.second sound.eight.1 (s.bytes 0x86 x))
      (λ x. data_good d s.short (s.bytes 0x87 x))

  -- ---- the line

  abbrev words : List ℕ → List Piece
  words [] = []
  words (k ∷ ks) = word_for k a d ∷ words ks

  spaced-stops : (ks : List ℕ) → stopped (spaced ks a d) ≡ true
  unfolding spaced stopped blank_letter
  spaced-stops [] = refl
  spaced-stops (k ∷ ks) = refl

  spaced_says : (n : ℕ) (ks : List ℕ) → 0x80 ≤ n → ascending n ks ≡ true → ((k : ℕ) → among k ks ≡ true → among k all ≡ true) → Lines (words ks) (spaced ks a d) × Each kept ends ks (words ks) a d
  unfolding spaced among every comment is_in blank_letter
  spaced_says n [] base up within = (record { blanks = []; rest = []; whole = refl; blank = refl; remark = refl }, tt)
  spaced_says n (k ∷ ks) base up within =
      let u = above n k ks up in
      let g = word_good k (omega arith) (up_to n k ks up) (within k (rw (eq-eqb k k refl))) in
      let i = spaced_says k ks (omega arith) (later n k ks up) (λ j x. within j (among_later j k (among j ks) x)) in
      ((spaced ks a d, record { blanks = letters " "; whole = refl; blank = refl; word = g.0; stop = spaced-stops ks }, i.0), (g.1, i.1))
    where
      among_later : (j m : ℕ) (b : Bool) → b ≡ true → cond (eqb j m) true b ≡ true
      among_later j m b x = by_test (eqb j m) (λ e. rw e) (λ e. rw (e, x))

-- ---- the commands' names are words in capital letters, of at most six

pub in_capitals : List Form → Bool
in_capitals [] = true
in_capitals (r ∷ rs) = cond (formed (plain (name r.tag))) (cond (same_name (name r.tag) (name r.tag)) (cond (leb (length (name r.tag)) 6) (in_capitals rs) false) false) false

pub commands_in_capitals : in_capitals commands ≡ true
unfolding in_capitals formed every is_in blank_letter name same_name capital between
commands_in_capitals = refl

pub name_good : (t : ℕ) (ks : List ℕ) (rs : List Form) → arguments_in t rs ≡ Some ks → in_capitals rs ≡ true → (formed (plain (name t)) ≡ true) × (map capital (name t) ≡ name t) × (length (name t) ≤ 6)
unfolding in_capitals
name_good t ks [] e h = absurd (none-some ks e)
name_good t ks (r ∷ rs) e h =
    let x = both (formed (plain (name r.tag))) _ h in
    let y = both (same_name (name r.tag) (name r.tag)) _ x.1 in
    let z = both (leb (length (name r.tag)) 6) (in_capitals rs) y.1 in
    by_test (eqb t r.tag)
    (λ f. rw (eqb-true t r.tag f) (x.0, same_true (name r.tag) (name r.tag) y.0, leb-true (length (name r.tag)) 6 z.0))
    (λ f. name_good t ks rs (rw f at e) z.1)

-- ---- a value in bytes has its fields in bytes

below_left : (xs ys : List ℕ) → Below 256 (xs ++ ys) → Below 256 xs
below_left [] ys h i = omega arith
below_left (x ∷ xs) ys h zero = h 0
below_left (x ∷ xs) ys h (suc i) = below_left xs ys (λ j. h (suc j)) i

below_right : (xs ys : List ℕ) → Below 256 (xs ++ ys) → Below 256 ys
below_right xs ys h i = subst (λ (c : ℕ). c < 256) (get_or-append-add xs ys i 0) (h (length xs + i))

field-bytes : (a : Request) (d : Bytes) (ks : List ℕ) → Below 256 (spelt ks a d) → (k : ℕ) → among k ks ≡ true → Below 256 (argument k a d)
unfolding spelt among
field-bytes a d [] h k x = absurd (false≢true x)
field-bytes a d (j ∷ ks) h k x =
    let v = argument j a d in
    by_test (eqb k j)
    (λ q. rw (eqb-true k j q) (below_right (j ∷ digits 256 2 (length v)) v (below_left (field j v) (spelt ks a d) h)))
    (λ q. field-bytes a d ks (below_right (field j v) (spelt ks a d) h) k (rw q at x))

-- what the stream says is said by a line
pub written_says : (kept ends : List ℕ) (t : ℕ) (v : Bytes) (a : Request) (d : Bytes) (h : Spells t v a d) → Below 256 v
    → (among 0x84 h.arguments ≡ true → OneOf a.function) → length d ≤ 65500 → Commands kept ends (written h.arguments a d) a d
unfolding written arguments_of every
written_says kept ends t v a d h bytes function short =
    let ks = h.arguments in
    let s : Sayable ks a d = record { bytes = field-bytes a d ks (subst (Below 256) h.value bytes); function = function; short = short } in
    let known : arguments_of a.tag ≡ Some ks = ap arguments_of h.tagged ∙ h.known in
    let n = name_good a.tag ks commands known commands_in_capitals in
    let sound : Sound a.tag a = record { tagged = refl; issued = h.issued; partied = h.partied; eight = h.eight } in
    let x = spaced_says kept ends a.tag ks a d sound s 0x80 ks (omega arith) (arguments_ordered t ks h.known).0 (λ k y. y) in
    record {
      first = name a.tag;
      words = words kept ends a.tag ks a d sound s ks;
      line = (spaced ks a d, record { blanks = []; whole = refl; blank = refl; word = n.0; stop = spaced-stops kept ends a.tag ks a d sound s ks }, x.0);
      arguments = ks;
      known = known;
      named = n.1;
      fields = x.1;
      sound = sound;
      absent = λ k y. h.absent k y ∙ ap (λ (m : ℕ). argument k (blank m) []) (sym h.tagged);
    }
