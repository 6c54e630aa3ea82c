-- Theorems that stood in specs/ beside the definitions, of what the code did step by step; the code is proved without them.
use Rattle.std.specs.Prelude.{◌≡◌, Bool, List, ℕ, ◌+◌, ◌≤◌, ◌<◌, length, take}
use Rattle.std.proofs.Common.{sym, ap, ◌∙◌, le-leb}
use Rattle.std.proofs.lemmas.Bool.{lt-leb}
use Rattle.stream.specs.declared.Field.TheVariants.{Whole, Cut}
use Rattle.stream.specs.Fields.{field_at, value_at, value_whole}
use Rattle.printout.specs.Page.{Page, page, entered}
use Rattle.state.specs.State.{Bytes}
use Rattle.rules.specs.World.{World}
use Rattle.rules.specs.Step.{Refused, Result, result, Told, plain}
use Rattle.session.specs.Run.{answered, answer_to, shown_of}
use Rattle.reader.specs.Line.{Line}
use Rattle.clerk.specs.Filled.{put-over}
use Rattle.clerk.specs.Heard.{heard}
use Rattle.clerk.specs.Replies.{reply}
use Rattle.clerk.specs.Spoken.{spoken}
use Rattle.counter.specs.Kept.{Books, books, next, kept_bytes, end_marked, booked}
use Rattle.counter.specs.Service.{Turned, turned, turn_for, turn_of, turn_at, Carried, carried_out}
use Rattle.counter.specs.Line.{served, bytes_of, carried_with, served_line}

-- ---- whether there is room

pub not-kept : (xs : List ℕ) (p : Page) → length p.letters < p.filled + length xs → p ≡ kept_bytes xs p
unfolding kept_bytes
not-kept xs p h = rw (lt-leb _ _ h)

pub all_kept : (xs : List ℕ) (p : Page) → p.filled + length xs ≤ length p.letters → entered xs p ≡ kept_bytes xs p
unfolding kept_bytes
all_kept xs p h = rw (le-leb _ _ h)

-- ---- an answer, and a command

-- what the code did with an answer
pub by_answer : (w : World) (b : Books) (paper : Bytes) (tag at : ℕ) (told : Told) (n : ℕ) (p kept : Page) (ends : List ℕ)
    → n ≡ next b.count → p ≡ entered (reply n (answered tag told)) (page paper 0) → kept ≡ kept_bytes (shown_of told.answer told.block told.output) b.bytes
    → ends ≡ end_marked b.ends n kept.filled → turned w told.output (books n kept ends) p at ≡ turn_for tag at (result told w) b paper
unfolding booked
by_answer w b paper tag at told n p kept ends e f g h =
    ap (λ (l : List ℕ). turned w told.output (books n kept l) p at) h
    ∙ ap (λ (q : Page). turned w told.output (books n kept (end_marked b.ends n kept.filled)) q at) f
    ∙ ap (λ (k : Page). turned w told.output (books n k (end_marked b.ends n k.filled)) (entered (reply n (answered tag told)) (page paper 0)) at) g
    ∙ ap (λ (m : ℕ). turned w told.output (books m whole (end_marked b.ends m whole.filled)) (entered (reply m (answered tag told)) (page paper 0)) at) e
  where
    whole : Page
    whole = kept_bytes (shown_of told.answer told.block told.output) b.bytes

-- what the code did at a place
module _ (s : Bytes) (at : ℕ) (b : Books) (paper out : Bytes) (t : Turned) where
  pub by_whole : (w : World) (tag start end : ℕ) → field_at s at ≡ Whole tag start end → (v : Bytes) → v ≡ value_at s at → (r : Result) → r ≡ answer_to w tag v out
      → t ≡ turn_for tag end r b paper → t ≡ turn_at s at w out b paper
  unfolding turn_at
  by_whole w tag start end e v f r d g =
      g
      ∙ ap (λ (x : Result). turn_for tag end x b paper) (d ∙ ap (λ (x : Bytes). answer_to w tag x out) (f ∙ value_whole s at tag start end e))
      ∙ ap (turn_of s w out b paper) (sym e)

  pub by_cut : (w : World) (tag : ℕ) → field_at s at ≡ Cut tag → (r : Result) → r ≡ result (plain (Refused 17) out) w
      → t ≡ turn_for tag (length s) r b paper → t ≡ turn_at s at w out b paper
  unfolding turn_at
  by_cut w tag e r d g = g ∙ ap (λ (x : Result). turn_for tag (length s) x b paper) d ∙ ap (turn_of s w out b paper) (sym e)

-- ---- a line

-- what the code did: heard with some ends, put onto a piece, and carried out the first letters of it
module _ (longer : Bool) (l piece : List ℕ) (w : World) (out : Bytes) (b : Books) where
  pub by_parts : (ends : List ℕ) → ends ≡ take (b.count + 1) b.ends → (said : Line) → said ≡ heard longer l b.bytes.letters ends
      → (letters : List ℕ) (filled : ℕ) → page letters filled ≡ entered (spoken said l b.bytes.letters) (page piece 0)
      → (bytes : Bytes) → bytes ≡ take filled letters → (c : Carried) → c ≡ carried_out bytes w out b
      → served said (take filled letters) c ≡ served_line longer l (length piece) w out b
  unfolding served_line
  by_parts ends e said f letters filled g bytes h c k =
      ap (served said (take filled letters)) (k ∙ ap (λ (s : Bytes). carried_out s w out b) h)
      ∙ ap (carried_with w out b said) (put-over piece (spoken said l b.bytes.letters) letters filled g)
      ∙ ap (λ (s : Line). carried_with w out b s (bytes_of l (length piece) b s)) (f ∙ ap (heard longer l b.bytes.letters) e)
