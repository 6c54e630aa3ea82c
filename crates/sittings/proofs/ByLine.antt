-- A command's line is one whole command of the stream; so NOTARY answers the bytes of all lines at once as the desk answers line after line, where raw bytes are whole too.
use Rattle.std.specs.Prelude.{◌≡◌, Bool, true, false, ℕ, ◌+◌, take}
use Rattle.std.proofs.Math.Path.{refl, ap}
use Rattle.std.proofs.Common.{sym, ap₂, ◌∙◌, arith, take_all}
use Rattle.std.proofs.Math.Bool.{cond}
use mathlib.Core.List.{List, [], ◌∷◌, ◌++◌, append-nil, append_assoc}
use Rattle.ground.specs.Search.{by_test}
use Rattle.names.specs.declared.Says.{Says}
use Rattle.names.specs.declared.Says.TheVariants.{Nothing, Command, Raw, Help, Who, Quit}
use Rattle.reader.specs.Line.{Line}
use Rattle.reader.specs.Reader.{read_line}
use Rattle.values.specs.Sources.{meant}
use Rattle.stream.specs.declared.Request.{Request}
use Rattle.stream.specs.Fields.{Bytes, field}
use Rattle.stream.specs.Grammar.{spelled}
use Rattle.encoder.specs.Encoded.{encoded}
use Rattle.grammar.specs.Says.{Commands, Reads}
use Rattle.grammar.proofs.Exact.{fits_reads, reads_fits}
use Rattle.grammar.proofs.Streamed.{line_spells, line_short, line-field}
use Rattle.rules.specs.World.{World}
use Rattle.session.specs.Run.{Ran, ran, ran_from, over}
use Rattle.clerk.specs.Spoken.{command_bytes, bytes_for, spoken}
use Rattle.clerk.specs.Heard.{heard}
use Rattle.counter.specs.Kept.{Books, all_booked}
use Rattle.readings.specs.InTurn.{Sent, sent, Short, next}
use Rattle.readings.proofs.InTurn.{in_parts}
use Rattle.sittings.specs.ByLine.{tagged, said, line_by_line, written, WholeLine, Whole}

-- a line that fits is spoken as what it says, and any other not at all
module _ (r : Line) (l kept : List ℕ) where
  pub spoken_as : (s : Says) → r.fits ≡ true → r.says ≡ s → spoken r l kept ≡ bytes_for s r l kept
  unfolding spoken
  spoken_as s f e = ap (λ (t : Bool). cond t (bytes_for r.says r l kept) []) f ∙ ap (λ (x : Says). bytes_for x r l kept) e

  pub unspoken : r.fits ≡ false → spoken r l kept ≡ []
  unfolding spoken
  unspoken f = ap (λ (t : Bool). cond t (bytes_for r.says r l kept) []) f

-- a command is spoken as one command of the stream, with its tag and its fields
pub command_spoken : (kept ends l : List ℕ) (a : Request) (d : Bytes) (h : Commands kept ends l a d) → spoken (read_line l kept ends) l kept ≡ sent (tagged a.tag (spelled h.arguments a d) ∷ [])
unfolding command_bytes sent
command_spoken kept ends l a d h =
    let r = read_line l kept ends in
    let t = reads_fits l kept ends a d Command h in
    spoken_as r l kept Command t.0 t.1
    ∙ ap₂ (λ (q : Request) (x : Bytes). encoded q (take 65536 x)) t.2 t.3
    ∙ ap (encoded a) (take_all 65536 d (omega (arith, (line_spells kept ends l a d h).short)))
    ∙ line-field kept ends l a d h
    ∙ sym (append-nil (field a.tag (spelled h.arguments a d)))

-- then a line's bytes are whole commands, whatever it says
module _ (b : Books) (l : List ℕ) (whole : WholeLine l) where
  abbrev kept : List ℕ
  kept = b.bytes.letters

  abbrev ends : List ℕ
  ends = take (b.count + 1) b.ends

  abbrev read : Line
  read = read_line l kept ends

  abbrev Commanded : Type 0
  Commanded = (cs : List Sent) × Short cs × (said b l ≡ sent cs)

  by_says : (s : Says) → read.fits ≡ true → read.says ≡ s → Reads kept ends l s read.asked (meant read.bytes l kept) → Commanded
  unfolding said heard sent
  by_says Nothing f e h = ([], tt, spoken_as read l kept Nothing f e)
  by_says Command f e h =
      let a = read.asked in
      let d = meant read.bytes l kept in
      (tagged a.tag (spelled h.arguments a d) ∷ [], (line_short kept ends l a d h, tt), command_spoken kept ends l a d h)
  by_says Raw f e h = let w = whole (meant read.bytes l kept) h.0 in (w.0, w.1, spoken_as read l kept Raw f e ∙ w.2)
  by_says Help f e h = ([], tt, spoken_as read l kept Help f e)
  by_says Who f e h = ([], tt, spoken_as read l kept Who f e)
  by_says Quit f e h = ([], tt, spoken_as read l kept Quit f e)

  commanded : Commanded
  unfolding said heard sent
  commanded = by_test read.fits (λ f. by_says read.says f refl (fits_reads l kept ends f)) (λ f. ([], tt, unspoken read l kept f))

-- commands behind commands
together : (cs ds : List Sent) → Short cs → Short ds → (es : List Sent) × Short es × (sent cs ++ sent ds ≡ sent es)
unfolding sent
together [] ds h k = (ds, k, refl)
together (c ∷ cs) ds h k =
    let v = field c.tag c.value in
    let r = together cs ds h.1 k in
    (c ∷ r.0, (h.0, r.1), append_assoc v (sent cs) (sent ds) ∙ ap (λ (x : Bytes). v ++ x) r.2)

-- the bytes of all lines are commands
sends : (ls : List (List ℕ)) → Whole ls → (w : World) (out : Bytes) (b : Books) → (cs : List Sent) × Short cs × (written ls w out b ≡ sent cs)
unfolding written sent
sends [] h w out b = ([], tt, refl)
sends (l ∷ ls) h w out b =
    let r = ran_from (said b l) w out 0 in
    let one = commanded b l h.0 in
    let rest = sends ls h.1 r.world r.output (all_booked r.answers b) in
    let all = together one.0 rest.0 one.1 rest.1 in
    (all.0, all.1, ap₂ (λ (x y : Bytes). x ++ y) one.2 rest.2 ∙ all.2)

-- given to NOTARY at once, they are answered as line after line
pub at_once : (ls : List (List ℕ)) → Whole ls → (w : World) (out : Bytes) (b : Books) → ran_from (written ls w out b) w out 0 ≡ line_by_line ls w out b
unfolding written line_by_line next
at_once [] h w out b = over [] w out 0 (omega arith)
at_once (l ∷ ls) h w out b =
    let r = ran_from (said b l) w out 0 in
    let later = written ls r.world r.output (all_booked r.answers b) in
    let one = commanded b l h.0 in
    let rest = sends ls h.1 r.world r.output (all_booked r.answers b) in
    let parts : ran_from (said b l ++ later) w out 0 ≡ next r (λ w' out'. ran_from later w' out' 0) =
    ap₂ (λ (x y : Bytes). ran_from (x ++ y) w out 0) one.2 rest.2
    ∙ in_parts one.0 rest.0 one.1 rest.1 w out
    ∙ ap₂ (λ (x y : Bytes). next (ran_from x w out 0) (λ w' out'. ran_from y w' out' 0)) (sym one.2) (sym rest.2) in
    parts ∙ ap (λ (x : Ran). ran x.world x.output (r.answers ++ x.answers)) (at_once ls h.1 r.world r.output (all_booked r.answers b))
