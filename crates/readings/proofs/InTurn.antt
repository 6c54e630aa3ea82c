-- A stream written without positions: commands, one after the other, are answered one after the other; also after one of bad form reading goes on.
use Rattle.std.specs.Prelude.{◌≡◌, List, [], ◌∷◌, ◌++◌, ℕ, zero, suc, ◌+◌, ◌≤◌, length, drop}
use Rattle.std.proofs.Common.{refl, sym, ap, ◌∙◌, append-nil, append_assoc, add-zero, arith, length-append}
use Rattle.stream.specs.Fields.{Bytes, field, within, at_end}
use Rattle.stream.proofs.FieldLaws.{field-length, field_is_whole, field_value, field_rest}
use Rattle.rules.specs.World.{World}
use Rattle.session.specs.Run.{answer_to, answered, Ran, ran, after, go_on, carry_on, ran_from, turn}
use Rattle.readings.specs.InTurn.{Sent, sent, Short, in_turn, next}

-- from a position on
pub in_turn_from : (s : Bytes) (cs : List Sent) (rest : Bytes) (at : ℕ) → Short cs → drop at s ≡ sent cs ++ rest
    → (w : World) (out : Bytes)
    → ran_from s w out at ≡ in_turn cs (λ w' out'. ran_from s w' out' (at + length (sent cs))) w out
unfolding sent in_turn
in_turn_from s [] rest at h e w out = rw add-zero
in_turn_from s (c ∷ cs) rest at h e w out =
    let t = c.tag in
    let v = c.value in
    let stands : drop at s ≡ field t v ++ (sent cs ++ rest) = e ∙ append_assoc (field t v) (sent cs) rest in
    let whole = field_is_whole s at t v (sent cs ++ rest) h.0 stands in
    let b = within s at t (at + 3) (at + 3 + length v) whole in
    let to : at + 3 + length v + length (sent cs) ≡ at + length (field t v ++ sent cs) =
    omega (arith, length-append (field t v) (sent cs), field-length t v) in
    let then = in_turn_from s cs rest (at + 3 + length v) h.1 (field_rest s at t v (sent cs ++ rest) stands) in
    turn s w out at (omega (arith, b.1, b.2))
    ∙ ap (go_on (ran_from s) w out s) whole
    ∙ rw (field_value s at t v (sent cs ++ rest) stands, then, to)

same-last : (cs : List Sent) (f g : World → Bytes → Ran) → ((w : World) (out : Bytes) → f w out ≡ g w out)
    → (w : World) (out : Bytes) → in_turn cs f w out ≡ in_turn cs g w out
unfolding in_turn
same-last [] f g p w out = p w out
same-last (c ∷ cs) f g p w out =
    ap (after (answered c.tag (answer_to w c.tag c.value out).answered)) (same-last cs f g p _ _)

nothing_left : (n : ℕ) (s : Bytes) (w : World) (out : Bytes) (at : ℕ) → length s ≤ at → carry_on n s w out at ≡ ran w out []
unfolding carry_on
nothing_left zero s w out at h = refl
nothing_left (suc n) s w out at h = ap (go_on (carry_on n s) w out s) (at_end s at h)

-- a whole stream of commands
pub in_turn_lem : (cs : List Sent) → Short cs → (w : World) (out : Bytes)
    → ran_from (sent cs) w out 0 ≡ in_turn cs (λ w' out'. ran w' out' []) w out
unfolding ran_from
in_turn_lem cs h w out =
    let n = length (sent cs) in
    in_turn_from (sent cs) cs [] 0 h (sym (append-nil (sent cs))) w out
    ∙ same-last cs _ _ (λ w' out'. nothing_left n (sent cs) w' out' (0 + n) (omega arith)) w out

sent_parts : (cs ds : List Sent) → sent (cs ++ ds) ≡ sent cs ++ sent ds
unfolding sent
sent_parts [] ds = refl
sent_parts (c ∷ cs) ds =
    let f = field c.tag c.value in
    ap (λ (rest : Bytes). f ++ rest) (sent_parts cs ds) ∙ sym (append_assoc f (sent cs) (sent ds))

short_parts : (cs ds : List Sent) → Short cs → Short ds → Short (cs ++ ds)
short_parts [] ds h k = k
short_parts (c ∷ cs) ds h k = (h.0, short_parts cs ds h.1 k)

in_turn_parts : (cs ds : List Sent) (last : World → Bytes → Ran) (w : World) (out : Bytes)
    → in_turn (cs ++ ds) last w out ≡ next (in_turn cs (λ w' out'. ran w' out' []) w out) (in_turn ds last)
unfolding in_turn next
in_turn_parts [] ds last w out = refl
in_turn_parts (c ∷ cs) ds last w out =
    ap (after (answered c.tag (answer_to w c.tag c.value out).answered)) (in_turn_parts cs ds last _ _)

-- commands, and behind them other commands: the answers are those of the first part, and then those of the second, begun where the first ended
pub in_parts : (cs ds : List Sent) → Short cs → Short ds → (w : World) (out : Bytes)
    → ran_from (sent cs ++ sent ds) w out 0 ≡ next (ran_from (sent cs) w out 0) (λ w' out'. ran_from (sent ds) w' out' 0)
unfolding next
in_parts cs ds h k w out =
    ap (λ (s : Bytes). ran_from s w out 0) (sym (sent_parts cs ds))
    ∙ in_turn_lem (cs ++ ds) (short_parts cs ds h k) w out
    ∙ in_turn_parts cs ds _ w out
    ∙ rw (in_turn_lem cs h, in_turn_lem ds k)
