use Rattle.std.proofs.Common.{◌≡◌, ◌/◌, ◌<◌, length, get_or, map, sym, ◌∙◌, rules, arith, ext_get_or}
use Rattle.std.proofs.lemmas.List.{length-map, get_or-map}
use Rattle.keys.specs.Keys.{odd, parity_of}
use Rattle.keys.proofs.set_parity.Goals as goal

pub returns : goal.returns
unfolding parity_of
returns c =
    let b = c.args.b in
    let m = c.map.ensures.items in
    let l : length b ≡ 8 = search rules in
    ext_get_or 0 c.map.result (map (λ x. odd (x / 2)) b) (m.long ∙ sym l ∙ sym (length-map b (λ x. odd (x / 2))))
    (λ i h.
    let k : i < 8 = omega (arith, m.long) in
    let e = (m.at i 0 0 k).2 in
    let r : get_or c.map.result i 0 ≡ odd (get_or b i 0 / 2) = search rules in
    r ∙ sym (get_or-map (λ x. odd (x / 2)) b i 0 0 (omega arith)))
