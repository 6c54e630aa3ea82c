-- Theorems that stood in specs/ beside the definitions, of texts entered one after another onto a page; the code no longer needs them.
use Rattle.std.specs.Prelude.{◌≡◌, List, ℕ, take, replicate}
use Rattle.std.proofs.Common.{sym, ap, ◌∙◌}
use Rattle.printout.specs.Page.{Page, page, entered, then}
use Rattle.rules.specs.Step.{number_of}
use Rattle.words.specs.declared.Expected.{Expected}
use Rattle.values.specs.Sources.{meant}
use Rattle.reader.specs.Line.{Line}
use Rattle.encoder.specs.Encoded.{encoded}
use Rattle.session.specs.Run.{Answered, line_of}
use Rattle.talk.specs.Replies.{words_of}
use Rattle.clerk.specs.Filled.{put-fresh}
use Rattle.clerk.specs.Replies.{reply}
use Rattle.clerk.specs.Spoken.{command_bytes}
use Rattle.clerk.specs.Wrong.{expected_text}

-- one line after the other; n is the reply's number
pub by_lines : (ordinal : ℕ) (a : Answered) (n : ℕ) (p q r : Page)
    → q ≡ entered (line_of ordinal a) p → n ≡ number_of a.told.answer → r ≡ entered (words_of a.tag n) q → r ≡ entered (reply ordinal a) p
unfolding reply
by_lines ordinal a n p q r e f g =
    g ∙ ap (λ (m : ℕ). entered (words_of a.tag m) q) f ∙ ap (entered (words_of a.tag (number_of a.told.answer))) e ∙ sym (then (line_of ordinal a) (words_of a.tag (number_of a.told.answer)) p)

-- a text entered for what is known to be expected
pub by_expected : (e known : Expected) (p q : Page) → e ≡ known → q ≡ entered (expected_text known) p → q ≡ entered (expected_text e) p
by_expected e known p q h f = f ∙ ap (λ (x : Expected). entered (expected_text x) p) (sym h)

-- a command whose data went by a buffer of 65536 bytes
pub by_buffer : (said : Line) (l kept buffer text : List ℕ) (filled : ℕ) (p q : Page)
    → page buffer filled ≡ entered (meant said.bytes l kept) (page (replicate 65536 0) 0) → text ≡ take filled buffer → q ≡ entered (encoded said.asked text) p
    → q ≡ entered (command_bytes said l kept) p
unfolding command_bytes
by_buffer said l kept buffer text filled p q e f g =
    g ∙ ap (λ (t : List ℕ). entered (encoded said.asked t) p) (f ∙ put-fresh 65536 (meant said.bytes l kept) buffer filled e)
