-- What is written stands whole, from the start of the paper or of the piece, whatever stood there.
use Rattle.std.specs.Prelude.{◌≡◌, Bool, List, take}
use Rattle.std.proofs.Math.Path.{ap}
use Rattle.std.proofs.Common.{arith, take_all}
use Prim.Native.Nat.{ℕ, ◌+◌, ◌≤◌}
use Rattle.std.proofs.Math.ListN.{length}
use Rattle.stream.specs.Fields.{Bytes}
use Rattle.printout.specs.Page.{page, entered}
use Rattle.reader.specs.Line.{Line}
use Rattle.state.specs.declared.Place.{Place}
use Rattle.rules.specs.World.{World}
use Rattle.session.specs.Run.{Answered}
use Rattle.clerk.specs.Replies.{reply}
use Rattle.clerk.specs.Told.{told}
use Rattle.clerk.specs.Heard.{heard}
use Rattle.clerk.specs.Spoken.{spoken}
use Rattle.counter.specs.Kept.{Books}
use Rattle.counter.specs.Service.{carried_out}
use Rattle.counter.specs.Line.{served, heard_with, served_line}
use Rattle.sittings.proofs.Pages.{whole_there}
use Rattle.sittings.specs.Answers.{bytes_of}
use Rattle.sittings.proofs.Room.{reply_room, told_room, spoken_room}

-- ---- whole, from the start of the paper or of the piece, whatever stood there

pub reply_whole : (ordinal : ℕ) (a : Answered) (paper : List ℕ) → length (bytes_of a) ≤ 32768 → 70000 ≤ length paper
    → let p = entered (reply ordinal a) (page paper 0) in take p.filled p.letters ≡ reply ordinal a
reply_whole ordinal a paper h room = whole_there (reply ordinal a) paper (omega (arith, reply_room ordinal a h, room))

pub told_whole : (number : ℕ) (said : Line) (ps : List Place) (paper : List ℕ) → length ps ≤ 16 → 70000 ≤ length paper
    → let p = entered (told number said ps) (page paper 0) in take p.filled p.letters ≡ told number said ps
told_whole number said ps paper h room = whole_there (told number said ps) paper (omega (arith, told_room number said ps h, room))

-- a line served in a piece of so much room: its bytes are all there, and are carried out
pub served_whole : (longer : Bool) (l : List ℕ) (room : ℕ) (w : World) (out : Bytes) (b : Books) → length l ≤ 131072 → 65538 ≤ room
    → let bytes = spoken (heard_with longer l b) l b.bytes.letters in served_line longer l room w out b ≡ served (heard_with longer l b) bytes (carried_out bytes w out b)
unfolding served_line
served_whole longer l room w out b h k =
    let bytes = spoken (heard_with longer l b) l b.bytes.letters in
    ap (λ (s : Bytes). served (heard_with longer l b) s (carried_out s w out b))
    (take_all room bytes (omega (arith, k, spoken_room l b.bytes.letters (take (b.count + 1) b.ends) h longer)))

pub spoken_whole : (longer : Bool) (l kept ends piece : List ℕ) → length l ≤ 131072 → 65538 ≤ length piece
    → let p = entered (spoken (heard longer l kept ends) l kept) (page piece 0) in take p.filled p.letters ≡ spoken (heard longer l kept ends) l kept
spoken_whole longer l kept ends piece h room = whole_there (spoken (heard longer l kept ends) l kept) piece (omega (arith, spoken_room l kept ends h longer, room))
