-- A stream carried out: its commands one after the other, each answered, and the lines that say so.
use Rattle.std.specs.Prelude.{◌≡◌, take, drop, Option, Some, None}
use Rattle.std.proofs.Math.Path.{refl, sym, ap}
use Rattle.std.proofs.Common.{◌∙◌, arith}
use mathlib.Core.List.{List, [], ◌∷◌, ◌++◌, append-nil}
use Prim.Native.Nat.{ℕ, zero, suc, ◌+◌, ◌≤◌, ◌<◌}
use Rattle.std.proofs.Math.Numerals.{add-one}
use Rattle.std.proofs.Math.ListN.{length}
use Rattle.stream.specs.declared.Field.{Field}
use Rattle.stream.specs.declared.Field.TheVariants.{Whole, Cut, End}
use Rattle.stream.specs.declared.Reading.{Reading}
use Rattle.stream.specs.Fields.{part, field_at, value_at, past_at, value_whole, past_whole, past_cut, past_end, at_end, within}
use Rattle.stream.specs.Commands.{decoded}
use Rattle.printout.specs.Page.{Page, entered, then}
use Rattle.printout.specs.Lines.{line}
use Rattle.state.specs.State.{Bytes}
use Rattle.rules.specs.World.{World}
use Rattle.rules.specs.Step.{Answer, Done, Gave, Wrote, Refused, Result, result, Told, plain, number_of}
use Rattle.facility.specs.Requests.{performed}

-- ---- one command

-- what a value says is carried out; "anything else in the value, or an unknown tag, is 16"
abbrev pub obeyed : World → Option Reading → Bytes → Bytes → Result
obeyed w None v out = result (plain (Refused 16) out) w
obeyed w (Some r) v out = performed w r.asked (drop r.text v) out

unfoldable pub answer_to : World → ℕ → Bytes → Bytes → Result
answer_to w tag v out = obeyed w (decoded tag v) v out

-- ---- all commands

-- a command's tag, and what its issuer is told
pub record Answered : Type 0 where
  pub tag : ℕ
  pub told : Told

abbrev pub answered : ℕ → Told → Answered
answered t a = record { tag = t; told = a }

-- the world and the output after all commands, and the answers
pub record Ran : Type 0 where
  pub world : World
  pub output : Bytes
  pub answers : List Answered

abbrev pub ran : World → Bytes → List Answered → Ran
ran w out list = record { world = w; output = out; answers = list }

abbrev pub after : Answered → Ran → Ran
after a r = ran r.world r.output (a ∷ r.answers)

-- at the end nothing; a header or value that runs past the end is 17, and reading stops; after a command, also one of bad form, reading goes on behind it
abbrev pub go_on : (World → Bytes → ℕ → Ran) → World → Bytes → Bytes → Field → Ran
go_on on w out s (Whole tag start end) =
    after (answered tag (answer_to w tag (part start end s) out).answered)
    (on (answer_to w tag (part start end s) out).world (answer_to w tag (part start end s) out).answered.output end)
go_on on w out s (Cut tag) = ran w out (answered tag (plain (Refused 17) out) ∷ [])
go_on on w out s End = ran w out []

-- at most n commands from a position on
unfoldable pub carry_on : ℕ → Bytes → World → Bytes → ℕ → Ran
carry_on zero s w out at = ran w out []
carry_on (suc n) s w out at = go_on (carry_on n s) w out s (field_at s at)

-- a stream of so many bytes has no more commands
unfoldable pub ran_from : Bytes → World → Bytes → ℕ → Ran
ran_from s w out at = carry_on (length s) s w out at

-- ---- the lines

-- the bytes returned or, for a mode, written
abbrev pub shown_of : Answer → Bytes → Bytes → Bytes
shown_of Done block out = []
shown_of (Gave n) block out = take n block
shown_of (Wrote n) block out = take n out
shown_of (Refused n) block out = []

abbrev pub line_of : ℕ → Answered → Bytes
line_of ordinal a = line ordinal a.tag (number_of a.told.answer) (shown_of a.told.answer a.told.block a.told.output)

unfoldable pub transcript : ℕ → List Answered → Bytes
transcript i [] = []
transcript i (a ∷ rest) = line_of i a ++ transcript (suc i) rest

-- ---- the whole run: what it leaves, and what it prints onto a page

pub record Left : Type 0 where
  pub world : World
  pub output : Bytes
  pub printed : Page

abbrev pub leaves : World → Bytes → Page → Left
leaves w out p = record { world = w; output = out; printed = p }

-- from a position on, with the next ordinal
unfoldable pub printed_from : ℕ → Page → Ran → Left
printed_from i p r = leaves r.world r.output (entered (transcript i r.answers) p)

unfoldable pub printed_run : Bytes → World → Bytes → Page → Left
printed_run s w out p = printed_from 1 p (ran_from s w out 0)

-- ---- one turn of the run

-- where a run has come to: the world, the output, the page, and the next line's ordinal
pub record Reached : Type 0 where
  pub world : World
  pub output : Bytes
  pub printed : Page
  pub ordinal : ℕ

abbrev pub reached : World → Bytes → Page → ℕ → Reached
reached w out p i = record { world = w; output = out; printed = p; ordinal = i }

-- what stands at the reader, with its value, is answered, and the answer printed
unfoldable pub turn_of : Field → Bytes → World → Bytes → Page → ℕ → Reached
turn_of (Whole tag start end) v w out p i =
    reached (answer_to w tag v out).world (answer_to w tag v out).answered.output (entered (line_of i (answered tag (answer_to w tag v out).answered)) p) (i + 1)
turn_of (Cut tag) v w out p i = reached w out (entered (line_of i (answered tag (plain (Refused 17) out))) p) i
turn_of End v w out p i = reached w out p i

-- ---- one turn of the loop

-- where n commands are enough, one more changes nothing
module _ (s : Bytes) where
  abbrev Enough : ℕ → Type 0
  Enough n = (w : World) (out : Bytes) (at : ℕ) → length s ≤ at + n → carry_on (suc n) s w out at ≡ carry_on n s w out at

  enough_at : (n : ℕ) → Enough n → (w : World) (out : Bytes) (at : ℕ) (f : Field) → field_at s at ≡ f → length s ≤ at + suc n
      → go_on (carry_on (suc n) s) w out s f ≡ go_on (carry_on n s) w out s f
  enough_at n ih w out at (Whole tag start end) e h =
      let b = within s at tag start end e in
      ap (after (answered tag (answer_to w tag (part start end s) out).answered)) (ih _ _ end (omega (arith, b.0, b.1)))
  enough_at n ih w out at (Cut tag) e h = refl
  enough_at n ih w out at End e h = refl

  enough : (n : ℕ) → Enough n
  unfolding carry_on
  enough zero w out at h = ap (go_on (carry_on zero s) w out s) (at_end s at (omega arith))
  enough (suc n) w out at h = enough_at n (enough n) w out at (field_at s at) refl h

  from : (n : ℕ) (w : World) (out : Bytes) (at : ℕ) → length s ≡ n → at < length s → carry_on n s w out at ≡ go_on (carry_on n s) w out s (field_at s at)
  unfolding carry_on
  from zero w out at e h = absurd (omega arith)
  from (suc n) w out at e h = sym (enough_at n (enough n) w out at (field_at s at) refl (omega arith))

  -- what stands at a position, and then the rest
  pub turn : (w : World) (out : Bytes) (at : ℕ) → at < length s → ran_from s w out at ≡ go_on (ran_from s) w out s (field_at s at)
  unfolding ran_from
  turn w out at h = from (length s) w out at refl h

  pub over : (w : World) (out : Bytes) (at : ℕ) → length s ≤ at → ran_from s w out at ≡ ran w out []
  unfolding ran_from carry_on
  over w out at h = ends (length s) refl
    where
      ends : (n : ℕ) → length s ≡ n → carry_on n s w out at ≡ ran w out []
      ends zero e = refl
      ends (suc n) e = ap (go_on (carry_on n s) w out s) (at_end s at h)

  -- the same, with the line
  module _ (w : World) (out : Bytes) (at i : ℕ) (p : Page) where
    turn_whole : (tag start end : ℕ) → field_at s at ≡ Whole tag start end → at < length s
        → printed_from i p (ran_from s w out at)
        ≡ printed_from (i + 1) (entered (line_of i (answered tag (answer_to w tag (part start end s) out).answered)) p)
        (ran_from s (answer_to w tag (part start end s) out).world (answer_to w tag (part start end s) out).answered.output end)
    unfolding printed_from transcript
    turn_whole tag start end e h =
        ap (printed_from i p) (turn w out at h ∙ ap (go_on (ran_from s) w out s) e)
        ∙ ap (λ (q : Page). leaves r.world r.output q) (then (line_of i a) (transcript (suc i) r.answers) p)
        ∙ rw add-one
      where
        a : Answered
        a = answered tag (answer_to w tag (part start end s) out).answered

        r : Ran
        r = ran_from s (answer_to w tag (part start end s) out).world (answer_to w tag (part start end s) out).answered.output end

    turn-cut : (tag : ℕ) → field_at s at ≡ Cut tag → at < length s
        → printed_from i p (ran_from s w out at) ≡ leaves w out (entered (line_of i (answered tag (plain (Refused 17) out))) p)
    unfolding printed_from transcript
    turn-cut tag e h =
        ap (printed_from i p) (turn w out at h ∙ ap (go_on (ran_from s) w out s) e)
        ∙ ap (λ (l : Bytes). leaves w out (entered l p)) (append-nil (line_of i (answered tag (plain (Refused 17) out))))

    pub turn_none : field_at s at ≡ End → at < length s → printed_from i p (ran_from s w out at) ≡ leaves w out p
    unfolding printed_from transcript entered
    turn_none e h = ap (printed_from i p) (turn w out at h ∙ ap (go_on (ran_from s) w out s) e)

    pub turn_end : length s ≤ at → printed_from i p (ran_from s w out at) ≡ leaves w out p
    unfolding printed_from transcript entered
    turn_end h = ap (printed_from i p) (over w out at h)

  -- what is printed from where a turn has come to, with the reader moved past, is what was to be printed; and the ordinal never runs ahead of the place
  module _ (w : World) (out : Bytes) (at i : ℕ) (p : Page) (i-small : i ≤ at + 1) (more : at < length s) where
    abbrev Goes : Reached → Type 0
    Goes x =
        (x.ordinal ≤ past_at s at + 1)
        × (printed_from x.ordinal x.printed (ran_from s x.world x.output (past_at s at)) ≡ printed_from i p (ran_from s w out at))

    -- what is printed from the next field on, where the one here had the value v
    abbrev after_value : ℕ → ℕ → Bytes → Left
    after_value tag to v =
        let r = answer_to w tag v out in
        printed_from (i + 1) (entered (line_of i (answered tag r.answered)) p) (ran_from s r.world r.answered.output to)

    goes_by : (f : Field) → field_at s at ≡ f → Goes (turn_of f (value_at s at) w out p i)
    unfolding turn_of
    goes_by (Whole tag start end) e =
        let b = within s at tag start end e in
        let past = past_whole s at tag start end e in (
          omega (arith, past, b.0, b.1),
          ap (λ (n : ℕ). after_value tag n (value_at s at)) past ∙ ap (after_value tag end) (value_whole s at tag start end e) ∙ sym (turn_whole w out at i p tag start end e more),
        )
    goes_by (Cut tag) e =
        let past = past_cut s at tag e in
        (omega (arith, past), turn_end w out (past_at s at) i _ (omega (arith, past)) ∙ sym (turn-cut w out at i p tag e more))
    goes_by End e =
        let past = past_end s at e in
        (omega (arith, past), turn_end w out (past_at s at) i p (omega (arith, past)) ∙ sym (turn_none w out at i p e more))

    pub goes : Goes (turn_of (field_at s at) (value_at s at) w out p i)
    goes = goes_by (field_at s at) refl
