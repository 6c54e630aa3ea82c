-- A word as the field k of a command: "one word for each field of the command".
use Rattle.std.specs.Prelude.{true, false, cond, List, ℕ, ◌-◌, eqb}
use Rattle.ground.specs.Lists.{padded}
use Rattle.ground.specs.Rows.{digits}
use Rattle.stream.specs.declared.Request.{Request}
use Rattle.stream.specs.Commands.{filled}
use Rattle.values.specs.declared.Origin.TheVariants.{Letters}
use Rattle.words.specs.declared.Expected.{Expected}
use Rattle.words.specs.declared.Expected.TheVariants.{Identifier, Interchange, Function, Block, Bytes, NothingMore}
use Rattle.words.specs.declared.Word.{Word}
use Rattle.words.specs.declared.Word.TheVariants.{PlainWord, TextWord, Broken, NoWord}
use Rattle.values.specs.Sources.{source, meant}
use Rattle.values.specs.Values.{Value, wrong, data_of, number_value, function_value, bytes_value}

unfoldable pub expected_for : ℕ → Expected
expected_for k =
    cond (eqb k 0x81) Identifier
    (cond (eqb k 0x82) Identifier
    (cond (eqb k 0x83) Interchange
    (cond (eqb k 0x84) Function
    (cond (eqb k 0x85) Block
    (cond (eqb k 0x86) Block
    (cond (eqb k 0x87) Bytes NothingMore))))))

unfoldable pub plain_value : ℕ → ℕ → List ℕ → List ℕ → ℕ → ℕ → Value
plain_value k m ends l a z =
    cond (eqb k 0x81) (number_value Identifier 4294967295 l a z)
    (cond (eqb k 0x82) (number_value Identifier 4294967295 l a z)
    (cond (eqb k 0x83) (number_value Interchange 255 l a z)
    (cond (eqb k 0x84) (function_value l a z)
    (cond (eqb k 0x85) (bytes_value true m ends l a z)
    (cond (eqb k 0x86) (bytes_value true m ends l a z)
    (cond (eqb k 0x87) (bytes_value false m ends l a z)
    (wrong a NothingMore)))))))

-- a text is data; its letters stand from a to z, and its quote before them
unfoldable pub text_value : ℕ → ℕ → ℕ → Value
text_value k a z = cond (eqb k 0x87) (data_of (a - 1) (z - a) (source Letters a z)) (wrong (a - 1) (expected_for k))

unfoldable pub value_of : ℕ → List ℕ → ℕ → List ℕ → Word → Value
value_of k l m ends (PlainWord a z) = plain_value k m ends l a z
value_of k l m ends (TextWord a z) = text_value k a z
value_of k l m ends (Broken at x) = wrong at x
value_of k l m ends (NoWord at) = wrong at (expected_for k)

-- ---- the request with the field k

unfoldable pub value_bytes : ℕ → Value → List ℕ → List ℕ → List ℕ
value_bytes k v l kept =
    cond (eqb k 0x81) (digits 256 4 v.number)
    (cond (eqb k 0x82) (digits 256 4 v.number)
    (cond (eqb k 0x83) (digits 256 1 v.number)
    (cond (eqb k 0x84) (digits 256 1 v.number)
    (cond (eqb k 0x85) (padded 8 (meant v.bytes l kept))
    (cond (eqb k 0x86) (padded 8 (meant v.bytes l kept))
    (meant v.bytes l kept))))))

unfoldable pub with_value : ℕ → Value → List ℕ → List ℕ → Request → Request
with_value k v l kept a = filled k (value_bytes k v l kept) a
