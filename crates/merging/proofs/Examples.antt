-- Runs that are computed, so that no one takes the demand for empty: its premises can be met, and without each of the two bounds on places it fails.
use Rattle.std.specs.Prelude.{◌≡◌, refl, List, [], ◌∷◌, ◌++◌, ℕ, T, length, replicate}
use Rattle.std.proofs.Common.{ap, ◌∙◌, arith, lit≤}
use Rattle.ground.specs.Tests.{within, at_most}
use Rattle.ground.specs.Rows.{row}
use Rattle.cipher.specs.declared.modes.Mode.TheVariants.{Cbce}
use Rattle.cipher.specs.Cipher.{deciphered}
use Rattle.cipher.proofs.Promise.{enciphered-deciphered}
use Rattle.keys.specs.Keys.{notarized}
use Rattle.state.specs.State.{Bytes, vacant, bare, holders, give, leave, shut_to, key_at, named}
use Rattle.table.specs.Entries.{fits, id_of, entry_in, entry_of, enter_in, enter}
use Rattle.table.specs.Passwords.{big, same, sealed, authentic}
use Rattle.state.specs.State.{seat_of}
use Rattle.rules.specs.World.{World}
use Rattle.rules.specs.Commands.{UserCommand, RAS, LAU, CPW, GIV, LIV, LDK, mode, refusals, effect}
use Rattle.rules.specs.Step.{step, rule}
use Rattle.rules.specs.Sides.{mode_side, side_for, function_of, unknown, wrong_pair, with_key, with_vector, after_mode}
use Rattle.rules.specs.Refusals.{test, big_pair, bad_length, bad_blocks}
use Rattle.properties.specs.Single.{Single}
use Rattle.merging.specs.Ids.{different}
use Rattle.merging.specs.Demand3.{Request, Lists, Run, users, list_of, alone, here, there, Finished, Merge, done, next, after, gets}
use Rattle.merging.proofs.Places.{single_by}
use Rattle.merging.specs.Theorem.{commanded}
use Rattle.merging.proofs.Theorem.{demand_3}
use Rattle.merging.specs.Examples.{key, first, second, entry, start, ask, numbers, block, of7, three, nearly_full, doubled}

-- the password of u whose entry is x
pub password_of : ℕ → Bytes → Bytes
password_of u x = deciphered (notarized key u u) x

pub its_entry : (u : ℕ) (x : Bytes) → length x ≡ 8 → T (within 0 255 x) → sealed key u (password_of u x) ≡ x
unfolding sealed password_of
its_entry u x e t = enciphered-deciphered (notarized key u u) x (record { eight = e; small = λ i. let z = at_most 0 255 x t i in omega arith })

pub entry_first : (u : ℕ) → sealed key u (password_of u first) ≡ first
entry_first u = its_entry u first refl tt

pub entry-second : (u : ℕ) → sealed key u (password_of u second) ≡ second
entry-second u = its_entry u second refl tt

-- u comes
abbrev pub comes : ℕ → Request UserCommand
comes u = ask (RAS (password_of u first))

abbrev of5 : List (Request UserCommand)
of5 = comes 5 ∷ ask (GIV block) ∷ ask LAU ∷ ask LAU ∷ []

abbrev of6 : List (Request UserCommand)
of6 = ask (LIV 0x74 block) ∷ comes 6 ∷ ask (CPW (password_of 6 first) (password_of 6 second)) ∷ ask LAU ∷ comes 6 ∷ []

abbrev lists : Lists UserCommand
lists = (5, of5) ∷ (6, of6) ∷ (7, of7) ∷ []

-- each list alone
alone_5 : numbers (gets commanded three (alone 5 of5) 5) ≡ 0 ∷ 10 ∷ 0 ∷ 3 ∷ []
unfolding step rule refusals effect test give leave shut_to seat_of key_at named fits id_of entry_in entry_of big row bare same authentic
alone_5 = rw (entry_first 5)

alone_6 : numbers (gets commanded three (alone 6 of6) 6) ≡ 3 ∷ 0 ∷ 0 ∷ 0 ∷ 9 ∷ []
unfolding step rule refusals effect test give leave shut_to seat_of key_at named fits id_of entry_in entry_of enter_in enter big row bare same authentic
alone_6 = rw (entry_first 6, entry_first 6, entry-second 6, entry_first 6)

alone_7 : numbers (gets commanded three (alone 7 of7) 7) ≡ 0 ∷ 11 ∷ 0 ∷ 0 ∷ 0 ∷ []
unfolding step rule refusals mode_side effect test function_of unknown wrong_pair with_key with_vector side_for after_mode big_pair bad_length bad_blocks give leave shut_to seat_of key_at named big bare
alone_7 = refl

-- two of the merges: one list after another, and mixed
abbrev in_turn : Run UserCommand
in_turn = alone 7 of7 ++ (alone 5 of5 ++ alone 6 of6)

abbrev mixed : Run UserCommand
mixed =
    (6, ask (LIV 0x74 block)) ∷ (5, comes 5) ∷ (7, ask (LDK 7 1 0x73 block)) ∷ (6, comes 6) ∷ (5, ask (GIV block)) ∷ (5, ask LAU)
    ∷ (6, ask (CPW (password_of 6 first) (password_of 6 second))) ∷ (7, ask (mode Cbce block)) ∷ (6, ask LAU) ∷ (7, ask (LIV 0x74 block)) ∷ (7, ask (mode Cbce block))
    ∷ (5, ask LAU) ∷ (6, comes 6) ∷ (7, ask LAU) ∷ []

end : Merge UserCommand ((5, []) ∷ (6, []) ∷ (7, []) ∷ []) []
end = let f : Finished ((5, []) ∷ (6, []) ∷ (7, []) ∷ []) = (refl, (refl, (refl, tt))) in done f

in_turn_merge : Merge UserCommand lists in_turn
in_turn_merge =
    next (there (there here)) (next (there (there here)) (next (there (there here)) (next (there (there here)) (next (there (there here))
    (next here (next here (next here (next here
    (next (there here) (next (there here) (next (there here) (next (there here) (next (there here) end)))))))))))))

mixed_merge : Merge UserCommand lists mixed
mixed_merge =
    next (there here) (next here (next (there (there here)) (next (there here) (next here (next here
    (next (there here) (next (there (there here)) (next (there here) (next (there (there here)) (next (there (there here))
    (next here (next (there here) (next (there (there here)) end)))))))))))))

-- the premises are met: so each gets the same in every merge as alone
module _ (m : Run UserCommand) (g : Merge UserCommand lists m) where
  single : Single three.facility.places
  single = single_by three.facility.places refl

  as_alone : (u : ℕ) → gets commanded three m u ≡ gets commanded three (alone u (list_of u lists)) u
  as_alone = (demand_3 three refl single lists (refl, (refl, (refl, tt))) (lit≤ tt) m g).0

  any_merge : (numbers (gets commanded three m 5) ≡ 0 ∷ 10 ∷ 0 ∷ 3 ∷ []) × (numbers (gets commanded three m 6) ≡ 3 ∷ 0 ∷ 0 ∷ 0 ∷ 9 ∷ []) × (numbers (gets commanded three m 7) ≡ 0 ∷ 11 ∷ 0 ∷ 0 ∷ 0 ∷ [])
  any_merge = (ap numbers (as_alone 5) ∙ alone_5, ap numbers (as_alone 6) ∙ alone_6, ap numbers (as_alone 7) ∙ alone_7)

  -- and it leaves the same table
  one_table : (after commanded three m).table ≡ (after commanded three in_turn).table
  one_table = ((demand_3 three refl single lists (refl, (refl, (refl, tt))) (lit≤ tt) m g).1 in_turn in_turn_merge).0

-- the table that it leaves: 7 and 5 have gone when 6 comes
gone : after commanded three (alone 7 of7 ++ alone 5 of5) ≡ start (replicate 16 vacant)
unfolding step rule refusals mode_side effect test function_of unknown wrong_pair with_key with_vector side_for after_mode big_pair bad_length bad_blocks give leave shut_to seat_of key_at named fits id_of entry_in entry_of big row bare same authentic
gone = rw (entry_first 5)

changed : (after commanded (start (replicate 16 vacant)) (alone 6 of6)).table ≡ entry 5 first ++ entry 6 second
unfolding step rule refusals effect test give leave shut_to seat_of key_at named fits id_of entry_in entry_of enter_in enter big row bare same authentic
changed = rw (entry_first 6, entry_first 6, entry-second 6, entry_first 6)

mixed_table : (after commanded three mixed).table ≡ entry 5 first ++ entry 6 second
mixed_table = one_table mixed mixed_merge ∙ ap (λ (w : World). (after commanded w (alone 6 of6)).table) gone ∙ changed

-- the two lists that fail, and the merge in which they do
abbrev two : Request UserCommand → Lists UserCommand
two q = (5, q ∷ []) ∷ (6, comes 6 ∷ []) ∷ []

abbrev then6 : Request UserCommand → Run UserCommand
then6 q = (5, q) ∷ (6, comes 6) ∷ []

then6_merge : (q : Request UserCommand) → Merge UserCommand (two q) (then6 q)
then6_merge q = let f : Finished ((5, []) ∷ (6, []) ∷ []) = (refl, (refl, tt)) in next here (next (there here) (done f))

seventeen : (length nearly_full.facility.places ≡ 16)
    × Single nearly_full.facility.places
    × (different (users (two (comes 5)) ++ holders nearly_full.facility.places) ≡ 17)
    × (numbers (gets commanded nearly_full (then6 (comes 5)) 6) ≡ 8 ∷ [])
    × (numbers (gets commanded nearly_full (alone 6 (list_of 6 (two (comes 5)))) 6) ≡ 0 ∷ [])
unfolding step rule refusals effect test give leave shut_to seat_of key_at named fits id_of entry_in entry_of big row same authentic
seventeen = (refl, single_by nearly_full.facility.places refl, refl, rw (entry_first 5), rw (entry_first 6))

two_places : (length doubled.facility.places ≡ 16)
    × (different (users (two (ask LAU)) ++ holders doubled.facility.places) ≡ 16)
    × (numbers (gets commanded doubled (then6 (ask LAU)) 6) ≡ 0 ∷ [])
    × (numbers (gets commanded doubled (alone 6 (list_of 6 (two (ask LAU)))) 6) ≡ 8 ∷ [])
unfolding step rule refusals effect test give leave shut_to seat_of key_at named fits id_of entry_in entry_of big row same authentic
two_places = (refl, refl, rw (entry_first 6), refl)
