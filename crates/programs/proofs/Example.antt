-- The page's worked example: its input, and the lines that NOTARY prints.
use Rattle.std.specs.Prelude.{◌≡◌, refl, false}
use Rattle.std.proofs.Common.{ap}
use Rattle.std.specs.Prelude.{None}
use Rattle.ground.specs.Rows.{row, digits}
use Rattle.keys.specs.Keys.{odd, parity_of}
use Rattle.stream.specs.Fields.{length_at, field_at}
use Rattle.stream.specs.Commands.{arguments_of, has_size, blank, filled, is_argument, took, read_all, decoded}
use Rattle.printout.specs.Digits.{hex_digit, hex_byte, decimal_in, decimal}
use Rattle.printout.specs.Lines.{shown, line}
use Rattle.state.specs.State.{find, all_taken, bare, give, seat_of, named, key_at, rekeyed}
use Rattle.table.specs.Entries.{fits, id_of, entry_in, entry_of}
use Rattle.table.specs.Passwords.{big, same}
use Rattle.rules.specs.Commands.{RAS, by, refusals, effect, tests, keyed}
use Rattle.rules.specs.Step.{Done, plain, result, rule, step}
use Rattle.rules.specs.Sides.{mode_side}
use Rattle.rules.specs.Refusals.{big_pair, test, of_own, lacks_entry, out_of_turn}
use Rattle.facility.specs.Requests.{rows, performed}
use Rattle.properties.proofs.Steps.{accepted_first, done-step}
use Rattle.properties.specs.Passwords.{Stands}
use Rattle.properties.proofs.Passwords.{ipw_stands, ras-done}
use Rattle.session.specs.Run.{answer_to, carry_on, ran_from, transcript}
use Rattle.programs.specs.Notary.{stream, buffer, start, notary}
use Rattle.programs.specs.Example.{input, output, password, entered_1, enrolled_5, active_5, lines}

stands : Stands enrolled_5 5 password
unfolding start step tests test big fits keyed rekeyed named key_at of_own same parity_of odd digits lacks_entry entry_of entry_in id_of row
stands = ipw_stands entered_1 5 password buffer refl

-- nobody is active
nobody : (find 5 enrolled_5.facility.places ≡ None) × (all_taken enrolled_5.facility.places ≡ false)
unfolding start step tests test big fits keyed rekeyed named key_at of_own same parity_of odd digits lacks_entry entry_of entry_in id_of row
nobody = (refl, refl)

admitted : step enrolled_5 (by 5 (RAS password)) buffer ≡ result (plain Done buffer) active_5
unfolding effect
admitted =
    let done = ras-done enrolled_5 5 password buffer stands nobody.0 nobody.1 in
    done-step enrolled_5 5 (RAS password) buffer (accepted_first enrolled_5 5 (RAS password) buffer done.0)

pub worked_example : notary input ≡ output
unfolding notary stream start ran_from carry_on field_at length_at row
    answer_to decoded read_all took is_argument has_size filled blank arguments_of performed rows
    step tests rule refusals mode_side effect test out_of_turn of_own big_pair big fits same parity_of odd digits
    keyed rekeyed named key_at seat_of give bare lacks_entry entry_of entry_in id_of
    transcript line decimal decimal_in hex_byte hex_digit shown
worked_example = ap lines admitted
