-- What the code did, at each kind of what stands at the reader: laws that stood in specs/Run, over what a command returns today. The check finds what they say alone.
use Rattle.std.proofs.Common.{◌≡◌, sym, ap, ◌∙◌, [], ℕ, ◌+◌, Result, Err}
use Rattle.stream.specs.declared.Field.{Field}
use Rattle.stream.specs.declared.Field.TheVariants.{Whole, Cut, End}
use Rattle.state.specs.declared.Facility.{Facility}
use Rattle.state.specs.State.{Bytes}
use Rattle.rules.specs.declared.Refusal.{Refusal}
use Rattle.rules.specs.declared.Refusal.TheVariants.{Cut as CutShort}
use Rattle.rules.specs.declared.Outcome.{Outcome}
use Rattle.rules.specs.World.{World, over}
use Rattle.rules.specs.Step.{Result as Stepped}
use Rattle.rules.specs.Outcomes.{state_of, left}
use Rattle.printout.specs.Page.{Page, entered}
use Rattle.session.specs.Run.{answered, answer_to, line_of, reached, turn_of}

module _ (f : Field) (v : Bytes) (w : World) (out : Bytes) (p : Page) (i : ℕ) where
  pub by_whole : (tag start end : ℕ) → f ≡ Whole tag start end → (g : Facility) (done : Result Outcome Refusal) (t out' : Bytes) → left g done t out' ≡ answer_to w tag v out
      → (q : Page) → q ≡ entered (line_of i (answered tag (left g done t out').answered)) p
      → reached (over (state_of g done) t) out' q (i + 1) ≡ turn_of f v w out p i
  unfolding turn_of
  by_whole tag start end e g done t out' d q h =
      ap (λ (x : Page). reached (over (state_of g done) t) out' x (i + 1)) h
      ∙ ap (λ (a : Stepped). reached a.world a.answered.output (entered (line_of i (answered tag a.answered)) p) (i + 1)) d
      ∙ sym (ap (λ (x : Field). turn_of x v w out p i) e)

  pub by_cut : (tag : ℕ) → f ≡ Cut tag → (g : Facility) (done : Result Outcome Refusal) → done ≡ Err CutShort
      → (q : Page) → q ≡ entered (line_of i (answered tag (left g done [] out).answered)) p → reached w out q i ≡ turn_of f v w out p i
  unfolding turn_of
  by_cut tag e g done d q h =
      ap (λ (x : Page). reached w out x i) (h ∙ ap (λ (x : Result Outcome Refusal). entered (line_of i (answered tag (left g x [] out).answered)) p) d)
      ∙ sym (ap (λ (x : Field). turn_of x v w out p i) e)

  pub by_end : f ≡ End → reached w out p i ≡ turn_of f v w out p i
  unfolding turn_of
  by_end e = sym (ap (λ (x : Field). turn_of x v w out p i) e)
