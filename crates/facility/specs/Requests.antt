-- "The command stream": which command a request asks for, by its tag, and what carrying it out comes to.
use Rattle.std.specs.Prelude.{cond, Option, None, Some, List, [], ◌∷◌, ℕ, eqb}
use Rattle.cipher.specs.declared.modes.Mode.TheVariants.{Ecbe, Ecbd, Cbce, Cbcd, Cfbe, Cfbd}
use Rattle.stream.specs.declared.Request.{Request}
use Rattle.state.specs.State.{Bytes}
use Rattle.rules.specs.Commands.{RAS, LAU, CPW, GDK, LDK, GIV, LIV, EIV, RDK, mode, DAUT, Command, by, EIK, IPW, RPW, logout}
use Rattle.rules.specs.World.{World}
use Rattle.rules.specs.Step.{Refused, Result, result, plain, step}

-- a tag, and its command
pub record Row : Type 0 where
  pub tag : ℕ
  pub command : Command

infix 6 ◌means◌
abbrev pub ◌means◌ : ℕ → Command → Row
n means c = record { tag = n; command = c }

-- The page's rows. The fields: 81 issuer (of IPW and host logout: user), 82 party, 83 interchange, 84 function, 85 block, 86 second, 87 the data d.
unfoldable pub rows : Request → Bytes → List Row
rows q d =
    (0x01 means by q.issuer (RAS q.block))
    ∷ (0x02 means by q.issuer LAU)
    ∷ (0x03 means by q.issuer (CPW q.block q.second))
    ∷ (0x04 means by q.issuer (GDK q.party q.interchange q.block))
    ∷ (0x05 means by q.issuer (LDK q.party q.interchange q.function q.block))
    ∷ (0x06 means by q.issuer (GIV q.block))
    ∷ (0x07 means by q.issuer (LIV q.function q.block))
    ∷ (0x08 means by q.issuer (EIV q.block))
    ∷ (0x09 means by q.issuer (RDK q.party q.interchange q.function q.block))
    ∷ (0x0A means by q.issuer (mode Ecbe d))
    ∷ (0x0B means by q.issuer (mode Ecbd d))
    ∷ (0x0C means by q.issuer (mode Cbce d))
    ∷ (0x0D means by q.issuer (mode Cbcd d))
    ∷ (0x0E means by q.issuer (mode Cfbe d))
    ∷ (0x0F means by q.issuer (mode Cfbd d))
    ∷ (0x10 means by q.issuer (DAUT q.function d))
    ∷ (0x20 means EIK q.interchange q.block)
    ∷ (0x21 means IPW q.issuer q.block)
    ∷ (0x22 means RPW)
    ∷ (0x23 means logout q.issuer)
    ∷ []

-- the command beside a tag
abbrev pub beside : ℕ → List Row → Option Command
beside n [] = None
beside n (r ∷ rs) = cond (eqb n r.tag) (Some r.command) (beside n rs)

abbrev pub command_of : Request → Bytes → Option Command
command_of q d = beside q.tag (rows q d)

-- that command's step; no command: 16, and all as it was
abbrev pub carried_out : World → Option Command → Bytes → Result
carried_out w None out = result (plain (Refused 16) out) w
carried_out w (Some c) out = step w c out

unfoldable pub performed : World → Request → Bytes → Bytes → Result
performed w q d out = carried_out w (command_of q d) out
