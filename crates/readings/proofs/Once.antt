-- Any two outcomes that the contracts of `session` allow are identical.
-- (The contracts of `stream` are equations for the result itself: any two results are equal to one definition, and so to each other.)
use Rattle.std.specs.Prelude.{◌≡◌, ℕ, Result}
use Rattle.std.proofs.Common.{sym, ap, ◌∙◌}
use Rattle.printout.specs.Page.{Page, page, entered}
use Rattle.printout.specs.Lines.{line}
use Rattle.state.specs.declared.Facility.{Facility}
use Rattle.state.specs.State.{Bytes}
use Rattle.rules.specs.declared.Refusal.{Refusal}
use Rattle.rules.specs.declared.Outcome.{Outcome}
use Rattle.rules.specs.World.{World, over}
use Rattle.rules.specs.Outcomes.{left}
use Rattle.properties.proofs.Determined.{same}
use Rattle.session.specs.Run.{answer_to, Answered, line_of, Left, leaves, printed_run}

-- one command: reply, state, table and output
pub determined_answer_to : (w : World) (t : ℕ) (v out : Bytes) (r r' : Result Outcome Refusal) (a a' o o' : Bytes)
    → left w.facility r a o ≡ answer_to w t v out → left w.facility r' a' o' ≡ answer_to w t v out → (r ≡ r') × (a ≡ a') × (o ≡ o')
determined_answer_to w t v out r r' a a' o o' p p' = same w.facility r r' a a' o o' (p ∙ sym p')

-- a page and how far it is filled, for every function of `printout` that writes on one
pub determined_page : (p : Page) (s s' : Bytes) (n n' : ℕ) → page s n ≡ p → page s' n' ≡ p → (s ≡ s') × (n ≡ n')
determined_page p s s' n n' e e' = (ap (λ (q : Page). q.letters) (e ∙ sym e'), ap (λ (q : Page). q.filled) (e ∙ sym e'))

-- so for a line of any number and any bytes, as `put_answer` puts it
pub determined_line : (ordinal tag number : ℕ) (bytes : Bytes) (p : Page) (s s' : Bytes) (n n' : ℕ)
    → page s n ≡ entered (line ordinal tag number bytes) p → page s' n' ≡ entered (line ordinal tag number bytes) p → (s ≡ s') × (n ≡ n')
determined_line ordinal tag number bytes p = determined_page (entered (line ordinal tag number bytes) p)

-- and for the line of a command's answer
pub determined_put_answer : (ordinal : ℕ) (a : Answered) (p : Page) (s s' : Bytes) (n n' : ℕ)
    → page s n ≡ entered (line_of ordinal a) p → page s' n' ≡ entered (line_of ordinal a) p → (s ≡ s') × (n ≡ n')
determined_put_answer ordinal a = determined_line ordinal a.tag _ _

-- a whole run: state, table, output and page
pub determined_run : (s : Bytes) (w : World) (out : Bytes) (p : Page) (f f' : Facility) (t t' o o' b b' : Bytes) (n n' : ℕ)
    → leaves (over f t) o (page b n) ≡ printed_run s w out p
    → leaves (over f' t') o' (page b' n') ≡ printed_run s w out p
    → (f ≡ f') × (n ≡ n') × (t ≡ t') × (o ≡ o') × (b ≡ b')
determined_run s w out p f f' t t' o o' b b' n n' e e' =
    let g = e ∙ sym e' in (
      ap (λ (x : Left). x.world.facility) g,
      ap (λ (x : Left). x.printed.filled) g,
      ap (λ (x : Left). x.world.table) g,
      ap (λ (x : Left). x.output) g,
      ap (λ (x : Left). x.printed.letters) g,
    )
