-- The names of the commands, and what a line says by its first word.
use Rattle.std.specs.Prelude.{◌≡◌, refl, Bool, true, false, cond, List, [], ◌∷◌, ◌++◌, ℕ, suc, ◌-◌, eqb, length}
use Rattle.std.proofs.Common.{ap, ◌∙◌}
use Prim.Native.Char.{code}
use Rattle.printout.specs.Text.{letters}
use Rattle.names.specs.declared.Says.{Says}
use Rattle.names.specs.declared.Says.TheVariants.{Nothing, Command, Raw, Help, Who, Quit}
use Rattle.printout.specs.Rows.{Row, ◌reads◌, beside}
use Rattle.words.specs.Letters.{between}

-- "Small letters do as well as capital ones."
unfoldable pub capital : ℕ → ℕ
capital c = cond (between (code "a") (code "z") c) (c - 32) c

unfoldable pub same_name : List ℕ → List ℕ → Bool
same_name [] [] = true
same_name [] (n ∷ ns) = false
same_name (c ∷ cs) [] = false
same_name (c ∷ cs) (n ∷ ns) = cond (eqb (capital c) n) (same_name cs ns) false

-- ---- the names, by their tags: those of document 01's table, and LOGOUT for "host logout"

abbrev pub user_names : List Row
user_names =
    (0x01 reads letters "RAS")
    ∷ (0x02 reads letters "LAU")
    ∷ (0x03 reads letters "CPW")
    ∷ (0x04 reads letters "GDK")
    ∷ (0x05 reads letters "LDK")
    ∷ (0x06 reads letters "GIV")
    ∷ (0x07 reads letters "LIV")
    ∷ (0x08 reads letters "EIV")
    ∷ (0x09 reads letters "RDK")
    ∷ []

abbrev pub record_names : List Row
record_names =
    (0x0A reads letters "ECBE")
    ∷ (0x0B reads letters "ECBD")
    ∷ (0x0C reads letters "CBCE")
    ∷ (0x0D reads letters "CBCD")
    ∷ (0x0E reads letters "CFBE")
    ∷ (0x0F reads letters "CFBD")
    ∷ (0x10 reads letters "DAUT")
    ∷ []

abbrev pub officer_names : List Row
officer_names =
    (0x20 reads letters "EIK")
    ∷ (0x21 reads letters "IPW")
    ∷ (0x22 reads letters "RPW")
    ∷ (0x23 reads letters "LOGOUT")
    ∷ []

abbrev pub names : List Row
names = user_names ++ (record_names ++ officer_names)

-- "`unknown tag` for a tag that document 01 has not"
unfoldable pub name : ℕ → List ℕ
name tag = beside tag names (letters "unknown tag")

-- ---- what a line says by its first word

-- nothing known, a command with its tag, or another of these
pub record Start : Type 0 where
  pub known : Bool
  pub says : Says
  pub tag : ℕ

abbrev pub begins : Says → ℕ → Start
begins s t = record { known = true; says = s; tag = t }

abbrev pub unknown : Start
unknown = record { known = false; says = Nothing; tag = 0 }

-- the command of that name; where there is none, something else
abbrev pub start_in : List ℕ → List Row → Start → Start
start_in w [] else = else
start_in w (r ∷ rs) else = cond (same_name w r.words) (begins Command r.number) (start_in w rs else)

-- `!` for raw bytes, and "`help`, `who` and `quit`"
unfoldable pub desk_start : List ℕ → Start
desk_start w =
    cond (same_name w (code "!" ∷ [])) (begins Raw 0)
    (cond (same_name w (letters "HELP")) (begins Help 0)
    (cond (same_name w (letters "WHO")) (begins Who 0)
    (cond (same_name w (letters "QUIT")) (begins Quit 0) unknown)))

unfoldable pub start_of : List ℕ → Start
start_of w = start_in w names (desk_start w)

-- ---- two names compared

pub other_length : (w n : List ℕ) → (length w ≡ length n → ⊥) → same_name w n ≡ false
unfolding same_name
other_length [] [] h = absurd (h refl)
other_length [] (n ∷ ns) h = refl
other_length (c ∷ cs) [] h = refl
other_length (c ∷ cs) (n ∷ ns) h =
    ap (λ (b : Bool). cond (eqb (capital c) n) b false) (other_length cs ns (λ e. h (ap suc e))) ∙ both (eqb (capital c) n)
  where
    both : (b : Bool) → cond b false false ≡ false
    both true = refl
    both false = refl
