-- A line of words for a command: "four spaces, the command's name, a space, and `done`, or `refused: ` and the page's words".
use Rattle.std.specs.Prelude.{List, [], ◌∷◌, ◌++◌, ℕ}
use Prim.Native.Char.{code}
use Prim.Native.String.{String}
use Rattle.printout.specs.Text.{letters}
use Rattle.printout.specs.Rows.{Row, ◌reads◌, beside}
use Rattle.names.specs.Names.{name}

unfoldable pub refused : List ℕ → List ℕ
refused why = letters "refused: " ++ why

infix 6 ◌says◌
abbrev ◌says◌ : ℕ → String → Row
n says why = n reads refused (letters why)

-- "Refusal numbers", with 0 for done
abbrev pub replies : List Row
replies =
    (0 reads letters "done")
    ∷ (1 says "identifier (issuer or party) above 268435455")
    ∷ (2 says "table length not a multiple of 12, or above 49152")
    ∷ (3 says "issuer not active")
    ∷ (4 says "already active")
    ∷ (5 says "key function not t, r or s; in LDK and RDK also where s and \"party equals issuer\" do not agree")
    ∷ (6 says "interchange not 1 to 15, or a key of it that the command needs is missing")
    ∷ (7 says "out of turn: RAS, CPW, IPW, or EIK of name 1 while DUE; RPW while not DUE, or while current or old key 1 is missing")
    ∷ (8 says "all 16 places taken")
    ∷ (9 says "not authenticated")
    ∷ (10 says "key of the needed side missing")
    ∷ (11 says "its IV missing")
    ∷ (12 says "data length: 0 or above 32768, and for all but DAUT also not a multiple of 8")
    ∷ (13 says "output buffer shorter than the data")
    ∷ (14 says "some byte of the entered key has even parity")
    ∷ (15 says "no free entry and no entry of the user")
    ∷ (16 says "form")
    ∷ (17 says "cut")
    ∷ []

-- no command gives another number
unfoldable pub meaning : ℕ → List ℕ
meaning reply = beside reply replies (letters "refused")

unfoldable pub words_of : (tag reply : ℕ) → List ℕ
words_of tag reply = letters "    " ++ (name tag ++ (code " " ∷ (meaning reply ++ (code "\n" ∷ []))))
