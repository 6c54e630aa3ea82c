-- NOTARY's paper has room for every line, whatever the input is.
use Rattle.std.specs.Prelude.{◌≡◌, ◌≤◌, length}
use Rattle.std.proofs.Common.{ap, ◌∙◌, arith, length-take}
use Rattle.ground.specs.Lists.{Below, below_take}
use Rattle.printout.specs.Page.{page}
use Rattle.state.specs.State.{Bytes}
use Rattle.rules.specs.World.{World}
use Rattle.session.specs.Run.{Left, printed_run}
use Rattle.readings.proofs.Room.{lines-length, whole_page}
use Rattle.programs.specs.Notary.{stream, buffer, start, notary, printed}

-- at most 65536 bytes
stream-length : (input : Bytes) → length (stream input) ≤ 65536
unfolding stream
stream-length input = rw length-take (omega arith)

-- what is printed is never longer than the paper
pub notary-length : (input : Bytes) → Below 256 input → length (notary input) ≤ 327680
unfolding notary stream
notary-length input bytes =
    omega (arith, stream-length input, lines-length (stream input) (below_take 256 65536 input (omega arith) bytes) (stream-length input) start buffer)

-- the run of the stream, from a fresh start, prints all of it
pub all_printed : (input paper : Bytes) → Below 256 input → length paper ≡ 327680
    → (printed_run (stream input) start buffer (page paper 0)).printed ≡ printed (notary input) paper
unfolding notary printed stream
all_printed input paper bytes size =
    whole_page (stream input) start buffer paper (below_take 256 65536 input (omega arith) bytes) (stream-length input) (omega arith)

-- what the code did: what the run left, the stream that it read, the world and the output that it began with
pub carried_out_lem : (input paper s out : Bytes) (w : World) (after : Left) → Below 256 input → length paper ≡ 327680
    → after ≡ printed_run s w out (page paper 0) → s ≡ stream input → w ≡ start → out ≡ buffer → after.printed ≡ printed (notary input) paper
carried_out_lem input paper s out w after bytes size r e f g =
    let as-defined : after ≡ printed_run (stream input) start buffer (page paper 0) = rw (← e, ← f, ← g) r in
    ap (λ (l : Left). l.printed) as-defined ∙ all_printed input paper bytes size
