-- A piece of stream carried out: each command in turn, with its answer told and kept.
use Rattle.std.specs.Prelude.{◌≡◌, ℕ, ◌<◌, ◌≤◌, length}
use Rattle.std.proofs.Math.Path.{refl, ap, subst}
use Rattle.std.proofs.Common.{sym, ◌∙◌, arith}
use Rattle.stream.specs.declared.Field.{Field}
use Rattle.stream.specs.declared.Field.TheVariants.{Whole, Cut, End}
use Rattle.stream.specs.Fields.{part, field_at, within}
use Rattle.printout.specs.Page.{Page, page, entered}
use Rattle.state.specs.State.{Bytes}
use Rattle.rules.specs.World.{World}
use Rattle.rules.specs.Step.{Refused, Result, result, plain}
use Rattle.session.specs.Run.{answered, answer_to, Ran, go_on, ran_from, turn, over}
use Rattle.clerk.specs.Replies.{reply}
use Rattle.counter.specs.Kept.{Books, next, booked, all_booked}

-- ---- one command

-- what it leaves, its answer on the paper, and where the piece goes on
pub record Turned : Type 0 where
  pub world : World
  pub output : Bytes
  pub answers : Books
  pub paper : Page
  pub at : ℕ

abbrev pub turned : World → Bytes → Books → Page → ℕ → Turned
turned w out b p at = record { world = w; output = out; answers = b; paper = p; at = at }

-- an answer told, from the start of the paper, and kept
abbrev pub turn_for : (tag at : ℕ) → Result → Books → Bytes → Turned
turn_for tag at r b paper =
    turned r.world r.answered.output (booked (answered tag r.answered) b) (entered (reply (next b.count) (answered tag r.answered)) (page paper 0)) at

-- "a field that runs past them is 17, and the rest of that line is not read"
abbrev pub turn_of : Bytes → World → Bytes → Books → Bytes → Field → Turned
turn_of s w out b paper (Whole tag start end) = turn_for tag end (answer_to w tag (part start end s) out) b paper
turn_of s w out b paper (Cut tag) = turn_for tag (length s) (result (plain (Refused 17) out) w) b paper
turn_of s w out b paper End = turned w out b (page paper 0) (length s)

unfoldable pub turn_at : Bytes → ℕ → World → Bytes → Books → Bytes → Turned
turn_at s at w out b paper = turn_of s w out b paper (field_at s at)

-- ---- all of them

pub record Carried : Type 0 where
  pub world : World
  pub output : Bytes
  pub answers : Books

abbrev pub carried : World → Bytes → Books → Carried
carried w out b = record { world = w; output = out; answers = b }

abbrev pub with_answers : Books → Ran → Carried
with_answers b r = carried r.world r.output (all_booked r.answers b)

-- what NOTARY does with these bytes, and each answer kept
unfoldable pub carried_out : Bytes → World → Bytes → Books → Carried
carried_out s w out b = with_answers b (ran_from s w out 0)

-- ---- one turn of the loop

pub finished : (s : Bytes) (w : World) (out : Bytes) (at : ℕ) (b : Books) → length s ≤ at → with_answers b (ran_from s w out at) ≡ carried w out b
unfolding all_booked
finished s w out at b h = ap (with_answers b) (over s w out at h)

module _ (s : Bytes) (w : World) (out : Bytes) (at : ℕ) (b : Books) (paper : Bytes) where
  abbrev goes_on : Turned → Carried
  goes_on t = with_answers t.answers (ran_from s t.world t.output t.at)

  goes_on_lem : (f : Field) → goes_on (turn_of s w out b paper f) ≡ with_answers b (go_on (ran_from s) w out s f)
  unfolding all_booked
  goes_on_lem (Whole tag start end) = refl
  goes_on_lem (Cut tag) = finished s w out (length s) (booked (answered tag (plain (Refused 17) out)) b) (omega arith)
  goes_on_lem End = finished s w out (length s) b (omega arith)

  pub step : at < length s → (t : Turned) → t ≡ turn_at s at w out b paper → goes_on t ≡ with_answers b (ran_from s w out at)
  unfolding turn_at
  step h t e = ap goes_on e ∙ goes_on_lem (field_at s at) ∙ ap (with_answers b) (sym (turn s w out at h))

  further_at : at < length s → (f : Field) → field_at s at ≡ f → at < (turn_of s w out b paper f).at
  further_at h (Whole tag start end) e = let k = within s at tag start end e in omega (arith, k.0, k.1)
  further_at h (Cut tag) e = h
  further_at h End e = h

  pub further : at < length s → (t : Turned) → t ≡ turn_at s at w out b paper → at < t.at
  unfolding turn_at
  further h t e = subst (λ (x : Turned). at < x.at) (sym e) (further_at h (field_at s at) refl)
