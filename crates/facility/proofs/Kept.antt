-- Laws of `performed`, kept: what it comes to where the tag's row is known, and where the tag has none. The code is proved without them.
use Rattle.std.specs.Prelude.{◌≡◌, refl, Bool, cond, Option, None, Some, List, [], ◌∷◌, ℕ}
use Rattle.std.proofs.Common.{ap, ◌∙◌, ne_eqb}
use Rattle.stream.specs.declared.Request.{Request}
use Rattle.state.specs.State.{Bytes}
use Rattle.rules.specs.World.{World}
use Rattle.rules.specs.Commands.{Command}
use Rattle.rules.specs.Step.{Refused, result, plain, step}
use Rattle.facility.specs.Requests.{Row, rows, beside, carried_out, performed}

-- T, and n is none of the rows' tags: what is known in the last arm of a match on n, nested as the checker nests it
abbrev pub Apart : Type 0 → ℕ → List Row → Type 0
Apart T n [] = T
Apart T n (r ∷ rs) = Apart (T × (n ≡ r.tag → ⊥)) n rs

apart_none : (T : Type 0) (n : ℕ) (rs : List Row) → Apart T n rs → T × (beside n rs ≡ None)
apart_none T n [] h = (h, refl)
apart_none T n (r ∷ rs) h =
    let later = apart_none (T × (n ≡ r.tag → ⊥)) n rs h in
    (later.0.0, ap (λ (b : Bool). cond b (Some r.command) (beside n rs)) (ne_eqb n r.tag later.0.1) ∙ later.1)

module _ (w : World) (q : Request) (d out : Bytes) where
  pub by_row : (n : ℕ) (c : Command) → q.tag ≡ n → beside n (rows q d) ≡ Some c → performed w q d out ≡ step w c out
  unfolding performed
  by_row n c t e = ap (λ (o : Option Command). carried_out w o out) (ap (λ (m : ℕ). beside m (rows q d)) t ∙ e)

  pub by_none : (T : Type 0) → Apart T q.tag (rows q d) → performed w q d out ≡ result (plain (Refused 16) out) w
  unfolding performed
  by_none T h = ap (λ (o : Option Command). carried_out w o out) (apart_none T q.tag (rows q d) h).1
