-- Nothing is left out: what the desk writes finds room on its paper of 70000 letters, and a line's bytes in its piece of 65538.
use Rattle.std.specs.Prelude.{◌≡◌, List, [], ◌∷◌}
use Prim.Native.Nat.{◌≤◌}
use Rattle.std.proofs.Math.ListN.{length}
use Rattle.stream.specs.Fields.{Bytes}
use Rattle.session.specs.Run.{Answered, Ran}
use Rattle.sittings.specs.Answers.{bytes_of}

-- ---- the answers to a piece of stream

abbrev pub Each : (Answered → Type 0) → List Answered → Type 0
Each P [] = Unit {0}
Each P (a ∷ rest) = P a × Each P rest

-- each is of at most 32768 bytes, where the output is; and the output stays as long as it is
abbrev Short : Answered → Type 0
Short a = length (bytes_of a) ≤ 32768

abbrev pub Kept : Bytes → Ran → Type 0
Kept out r = (length r.output ≡ length out) × Each Short r.answers
