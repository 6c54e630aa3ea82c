-- The page's own examples.
use Rattle.std.specs.Prelude.{refl, [], ◌∷◌}
use Rattle.std.proofs.Common.{arith}
use Rattle.names.specs.declared.Says.TheVariants.{Command, Raw}
use Rattle.names.specs.Names.{capital, name}
use Rattle.printout.specs.Text.{letters}
use Rattle.stream.specs.Commands.{arguments_of, blank}
use Rattle.stream.proofs.RequestLaws.{blank_sound}
use Rattle.values.specs.Sources.{hex_value, unhex}
use Rattle.words.specs.Letters.{between, blank_letter, is_in}
use Rattle.grammar.specs.Lines.{every, plain, text, formed, stopped, comment, Lines}
use Rattle.grammar.specs.Says.{Reads}

-- "So `RPW#now` is the word `RPW` and a comment"
pub comment-after : Lines (plain (letters "RPW") ∷ []) (letters "RPW#now")
unfolding every is_in blank_letter formed stopped comment
comment-after = (
  letters "#now",
  record { blanks = []; whole = refl; blank = refl; word = refl; stop = refl },
  record { blanks = []; rest = letters "#now"; whole = refl; blank = refl; remark = refl },
)

-- which is the command, in small letters as well
pub small_letters : Reads [] [] (letters "rpw#now") Command (blank 0x22) []
unfolding every is_in blank_letter between formed stopped comment capital name arguments_of blank
small_letters =
    record {
      first = letters "rpw";
      words = [];
      line = (
        letters "#now",
        record { blanks = []; whole = refl; blank = refl; word = refl; stop = refl },
        record { blanks = []; rest = letters "#now"; whole = refl; blank = refl; remark = refl },
      );
      arguments = [];
      known = refl;
      named = refl;
      fields = tt;
      sound = blank_sound 0x22;
      absent = λ k x. refl;
    }

-- "inside a text `#` is a letter"
pub letter_inside : Lines (text (letters "RPW#now") ∷ []) (letters " \"RPW#now\"")
unfolding every is_in blank_letter formed stopped comment
letter_inside = (
  [],
  record { blanks = letters " "; whole = refl; blank = refl; word = refl; stop = refl },
  record { blanks = []; rest = []; whole = refl; blank = refl; remark = refl },
)

-- "`! 0200` says raw bytes"
pub raw_bytes : Reads [] [] (letters "! 0200") Raw (blank 0) (0x02 ∷ 0x00 ∷ [])
unfolding every is_in blank_letter between formed stopped comment hex_value unhex
raw_bytes = (
  record {
    words = plain (letters "0200") ∷ [];
    line = (
      letters " 0200",
      record { blanks = []; whole = refl; blank = refl; word = refl; stop = refl },
      (
        [],
        record { blanks = letters " "; whole = refl; blank = refl; word = refl; stop = refl },
        record { blanks = []; rest = []; whole = refl; blank = refl; remark = refl },
      ),
    );
    some = omega arith;
    bytes = (0x02 ∷ 0x00 ∷ [], [], record { hex = refl; even = refl; value = refl }, refl, refl);
  },
  refl,
)
