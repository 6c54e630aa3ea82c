-- What the definition of NOTARY comes to, and what its contract leaves open: nothing.
use Rattle.std.specs.Prelude.{◌≡◌, refl, List, [], ◌++◌, ℕ, ◌≤◌, length, take, drop}
use Rattle.std.proofs.Common.{sym, ap, ◌∙◌, arith, take_at, take_all}
use Rattle.printout.specs.Page.{Page, page}
use Rattle.state.specs.State.{Bytes}
use Rattle.session.specs.Run.{ran, ran_from, carry_on, transcript}
use Rattle.readings.specs.InTurn.{Sent, sent, Short, in_turn}
use Rattle.readings.proofs.InTurn.{in_turn_lem}
use Rattle.readings.proofs.Once.{determined_page}
use Rattle.programs.specs.Notary.{stream, buffer, start, notary, printed}

-- ---- "its first 65536 bytes; the rest is ignored"

pub rest_ignored : (input more : Bytes) → length input ≡ 65536 → notary (input ++ more) ≡ notary input
unfolding notary stream
rest_ignored input more size =
    let first : take 65536 (input ++ more) ≡ take 65536 input = take_at input more 65536 size ∙ sym (take_all 65536 input (omega arith)) in
    ap (λ (s : Bytes). transcript 1 (ran_from s start buffer 0).answers) first

-- ---- "one line per command"

pub no_command : notary [] ≡ []
unfolding notary stream ran_from carry_on transcript
no_command = refl

-- commands, one after the other, are answered one after the other from the fresh start
pub commands_in_turn : (cs : List Sent) → Short cs → length (sent cs) ≤ 65536
    → notary (sent cs) ≡ transcript 1 (in_turn cs (λ w out. ran w out []) start buffer).answers
unfolding notary stream
commands_in_turn cs short size =
    ap (λ (s : Bytes). transcript 1 (ran_from s start buffer 0).answers) (take_all 65536 (sent cs) size)
    ∙ ap (λ r. transcript 1 r.answers) (in_turn_lem cs short start buffer)

-- ---- the contract of `print_notary`

-- as far as the paper is filled, it is what NOTARY prints, and nothing else
pub written_is : (text paper p : Bytes) (n : ℕ) → page p n ≡ printed text paper → take n p ≡ text
unfolding printed
written_is text paper p n e = ap (λ (q : Page). take q.filled q.letters) e ∙ take_at text (drop (length text) paper) (length text) refl

-- any two outcomes that it allows are identical
pub determined_print_notary : (input paper p p' : Bytes) (n n' : ℕ)
    → page p n ≡ printed (notary input) paper → page p' n' ≡ printed (notary input) paper → (p ≡ p') × (n ≡ n')
determined_print_notary input paper p p' n n' = determined_page (printed (notary input) paper) p p' n n'
