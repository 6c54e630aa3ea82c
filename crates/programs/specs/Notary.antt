-- "The program NOTARY reads a stream on standard input (its first 65536 bytes; the rest is ignored), has an output buffer of 32768 bytes, starts fresh with
-- 64 free entries, all bytes FF, and prints one line per command": what it prints, as a function of its input.
use Rattle.std.specs.Prelude.{◌++◌, ◌*◌, length, take, drop, replicate}
use Rattle.printout.specs.Page.{Page, page}
use Rattle.state.specs.State.{Bytes, fresh}
use Rattle.rules.specs.World.{World, over}
use Rattle.session.specs.Run.{transcript, ran_from}

-- "a stream on standard input (its first 65536 bytes; the rest is ignored)"
unfoldable pub stream : Bytes → Bytes
stream input = take 65536 input

-- "an output buffer of 32768 bytes"
unfoldable pub buffer : Bytes
buffer = replicate 32768 0

-- "starts fresh with 64 free entries, all bytes FF"; an entry has 12
unfoldable pub start : World
start = over fresh (replicate (64 * 12) 0xFF)

-- "and prints one line per command": the commands from the stream's first byte on, each carried out and answered, with the lines that say so, from ordinal 1
unfoldable pub notary : Bytes → Bytes
notary input = transcript 1 (ran_from (stream input) start buffer 0).answers

-- a text on a paper, from its start, and the paper filled as far as the text goes; behind it the paper is as it was
unfoldable pub printed : Bytes → Bytes → Page
printed text paper = page (text ++ drop (length text) paper) (length text)
