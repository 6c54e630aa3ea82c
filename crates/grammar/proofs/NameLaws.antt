-- A line's first word: the reader knows exactly the names, in small or capital letters.
use Rattle.std.specs.Prelude.{◌≡◌, refl, Bool, true, false, cond, ℕ, ◌-◌, ◌≤◌, ◌<◌, eqb, leb}
use Rattle.std.proofs.Common.{sym, ap₂, ◌∙◌, arith, eqb-true, leb-true}
use Rattle.std.proofs.Math.Path.{ap}
use Rattle.std.proofs.lemmas.Bool.{false≢true, lt-leb}
use Rattle.std.specs.Prelude.{Option, None, Some}
use Rattle.std.proofs.lemmas.Option.{none-some}
use mathlib.Core.List.{List, [], ◌∷◌, map, nil≢cons, head-eq_of_cons-eq, tail-eq_of_cons-eq}
use Prim.Native.Char.{code}
use Rattle.ground.specs.Search.{by_test}
use Rattle.names.specs.declared.Says.{Says}
use Rattle.names.specs.declared.Says.TheVariants.{Nothing, Command, Raw, Help, Who, Quit}
use Rattle.names.specs.Names.{Start, capital, same_name, names, name, start_in, desk_start, start_of}
use Rattle.printout.specs.Rows.{Row}
use Rattle.printout.specs.Text.{letters}
use Rattle.stream.specs.Commands.{Row as Form, commands, arguments_in, arguments_of}
use Rattle.words.specs.Letters.{between}
use Rattle.grammar.proofs.LetterLaws.{both}
use Rattle.grammar.specs.NameLaws.{begun, First, command, raw, help, who, quit, no_name}

-- ---- small and capital letters

small : (c : ℕ) → between (code "a") (code "z") c ≡ true → (code "a" ≤ c) × (c ≤ code "z")
unfolding between
small c e = let x = both (leb (code "a") c) (leb c (code "z")) e in (leb-true (code "a") c x.0, leb-true c (code "z") x.1)

not_small : (c : ℕ) → c < code "a" → between (code "a") (code "z") c ≡ false
unfolding between
not_small c h = rw (lt-leb (code "a") c h)

capital_twice : (c : ℕ) → capital (capital c) ≡ capital c
unfolding capital
capital_twice c =
    by_test (between (code "a") (code "z") c)
    (λ e. let h = small c e in rw (e, not_small (c - 32) (omega arith)))
    (λ e. rw (e, e))

-- a capital letter that is none, as `!`, is the letter
capital_other : (c n : ℕ) → capital c ≡ n → n < code "A" → c ≡ n
unfolding capital
capital_other c n e h =
    by_test (between (code "a") (code "z") c)
    (λ f. let x = small c f in let m : c - 32 ≡ n = rw f at e in absurd (omega arith))
    (λ f. rw f at e)

pub same_true : (w n : List ℕ) → same_name w n ≡ true → map capital w ≡ n
unfolding same_name
same_true [] [] e = refl
same_true [] (n ∷ ns) e = absurd (false≢true e)
same_true (c ∷ cs) [] e = absurd (false≢true e)
same_true (c ∷ cs) (n ∷ ns) e =
    let x = both (eqb (capital c) n) (same_name cs ns) e in
    ap₂ (λ (m : ℕ) (ms : List ℕ). m ∷ ms) (eqb-true (capital c) n x.0) (same_true cs ns x.1)

capitals_twice : (w : List ℕ) → map capital (map capital w) ≡ map capital w
capitals_twice [] = refl
capitals_twice (c ∷ cs) = ap₂ (λ (m : ℕ) (ms : List ℕ). m ∷ ms) (capital_twice c) (capitals_twice cs)

same-capital : (w n : List ℕ) → same_name (map capital w) n ≡ same_name w n
unfolding same_name
same-capital [] [] = refl
same-capital [] (n ∷ ns) = refl
same-capital (c ∷ cs) [] = refl
same-capital (c ∷ cs) (n ∷ ns) = ap₂ (λ (m : ℕ) (b : Bool). cond (eqb m n) b false) (capital_twice c) (same-capital cs ns)

-- so a word begins what it begins in capital letters
module _ (w : List ℕ) where
  in_capital : (rs : List Row) (else : Start) → start_in (map capital w) rs else ≡ start_in w rs else
  in_capital [] else = refl
  in_capital (r ∷ rs) else = ap₂ (λ (b : Bool) (s : Start). cond b (begun Command r.number) s) (same-capital w r.words) (in_capital rs else)

  desk_capital : desk_start (map capital w) ≡ desk_start w
  unfolding desk_start
  desk_capital = rw (same-capital w (letters "!"), same-capital w (letters "HELP"), same-capital w (letters "WHO"), same-capital w (letters "QUIT"))

  start-capital : start_of (map capital w) ≡ start_of w
  unfolding start_of
  start-capital = in_capital names (desk_start (map capital w)) ∙ ap (start_in w names) desk_capital

-- ---- the names begin what they name

is_command : Says → Bool
is_command Nothing = false
is_command Command = true
is_command Raw = false
is_command Help = false
is_command Who = false
is_command Quit = false

command_is : (s : Says) → is_command s ≡ true → s ≡ Command
unfolding is_command
command_is Nothing e = absurd (false≢true e)
command_is Command e = refl
command_is Raw e = absurd (false≢true e)
command_is Help e = absurd (false≢true e)
command_is Who e = absurd (false≢true e)
command_is Quit e = absurd (false≢true e)

-- the start is that of the command t
begins_command : ℕ → Start → Bool
begins_command t s = cond s.known (cond (is_command s.says) (eqb s.tag t) false) false

begins_is : (t : ℕ) (s : Start) → begins_command t s ≡ true → s ≡ begun Command t
unfolding begins_command
begins_is t s e =
    let x = both s.known _ e in
    let y = both (is_command s.says) (eqb s.tag t) x.1 in
    let k = x.0 in
    let c = command_is s.says y.0 in
    let n = eqb-true s.tag t y.1 in
    λ i. record { known = k i; says = c i; tag = n i }

-- each command's name begins it
named_right : List Form → Bool
named_right [] = true
named_right (r ∷ rs) = cond (begins_command r.tag (start_of (name r.tag))) (named_right rs) false

commands-named : named_right commands ≡ true
unfolding named_right begins_command is_command start_of name desk_start same_name capital between
commands-named = refl

name-begins : (t : ℕ) (ks : List ℕ) (rs : List Form) → arguments_in t rs ≡ Some ks → named_right rs ≡ true → start_of (name t) ≡ begun Command t
unfolding named_right
name-begins t ks [] e h = absurd (none-some ks e)
name-begins t ks (r ∷ rs) e h =
    let x = both (begins_command r.tag (start_of (name r.tag))) (named_right rs) h in
    by_test (eqb t r.tag)
    (λ f. rw (eqb-true t r.tag f) (begins_is r.tag (start_of (name r.tag)) x.0))
    (λ f. name-begins t ks rs (rw f at e) x.1)

pub command_begins : (w : List ℕ) (t : ℕ) (ks : List ℕ) → arguments_of t ≡ Some ks → map capital w ≡ name t → start_of w ≡ begun Command t
unfolding arguments_of
command_begins w t ks known e = sym (start-capital w) ∙ ap start_of e ∙ name-begins t ks commands known commands-named

pub raw_begins : start_of (letters "!") ≡ begun Raw 0
unfolding start_of desk_start same_name capital between
raw_begins = refl

pub help-begins : (w : List ℕ) → map capital w ≡ letters "HELP" → start_of w ≡ begun Help 0
unfolding start_of desk_start same_name capital between
help-begins w e = sym (start-capital w) ∙ ap start_of e

pub who-begins : (w : List ℕ) → map capital w ≡ letters "WHO" → start_of w ≡ begun Who 0
unfolding start_of desk_start same_name capital between
who-begins w e = sym (start-capital w) ∙ ap start_of e

pub quit_begins : (w : List ℕ) → map capital w ≡ letters "QUIT" → start_of w ≡ begun Quit 0
unfolding start_of desk_start same_name capital between
quit_begins w e = sym (start-capital w) ∙ ap start_of e

is_known : Option (List ℕ) → Bool
is_known None = false
is_known (Some ks) = true

known_is : (o : Option (List ℕ)) → is_known o ≡ true → (ks : List ℕ) × (o ≡ Some ks)
unfolding is_known
known_is None e = absurd (false≢true e)
known_is (Some ks) e = (ks, refl)

-- each name in the list is its number's, and a command's
listed : List Row → Bool
listed [] = true
listed (r ∷ rs) = cond (same_name r.words (name r.number)) (cond (is_known (arguments_of r.number)) (listed rs) false) false

names_listed : listed names ≡ true
unfolding listed is_known arguments_of name same_name capital between
names_listed = refl

module _ (w : List ℕ) where
  in_list : (rs : List Row) (else : Start) → listed rs ≡ true → First w else → First w (start_in w rs else)
  unfolding listed
  in_list [] else h f = f
  in_list (r ∷ rs) else h f =
      let x = both (same_name r.words (name r.number)) _ h in
      let y = both (is_known (arguments_of r.number)) (listed rs) x.1 in
      by_test (same_name w r.words)
      (λ e.
      let k = known_is (arguments_of r.number) y.0 in
      let is : map capital w ≡ r.words = same_true w r.words e in
      rw e (command r.number k.0 k.1 (sym (capitals_twice w) ∙ ap (map capital) is ∙ same_true r.words (name r.number) x.0)))
      (λ e. rw e (in_list rs else y.1 f))

  -- `!` has no other form
  only_mark : (v : List ℕ) → map capital v ≡ letters "!" → v ≡ letters "!"
  only_mark [] e = absurd (nil≢cons e)
  only_mark (c ∷ []) e = ap (λ (n : ℕ). n ∷ []) (capital_other c (code "!") (head-eq_of_cons-eq e) (omega arith))
  only_mark (c ∷ x ∷ cs) e = absurd (nil≢cons (sym (tail-eq_of_cons-eq e)))

  desk_first : First w (desk_start w)
  unfolding desk_start
  desk_first =
      by_test (same_name w (letters "!"))
      (λ e. rw e (raw (only_mark w (same_true w (letters "!") e))))
      (λ e. by_test (same_name w (letters "HELP"))
      (λ f. rw (e, f) (help (same_true w (letters "HELP") f)))
      (λ f. by_test (same_name w (letters "WHO"))
      (λ g. rw (e, f, g) (who (same_true w (letters "WHO") g)))
      (λ g. by_test (same_name w (letters "QUIT"))
      (λ h. rw (e, f, g, h) (quit (same_true w (letters "QUIT") h)))
      (λ h. rw (e, f, g, h) no_name))))

  pub first-word : First w (start_of w)
  unfolding start_of
  first-word = in_list names (desk_start w) names_listed desk_first
