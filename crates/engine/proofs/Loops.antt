-- What the loops of the computation and of the key schedule keep, and the values of their steps.
use Rattle.std.proofs.Common.{◌≡◌, sym, ap, ◌∙◌, List, [], ◌∷◌, ◌++◌, append-nil, ℕ, zero, suc, ◌+◌, ◌*◌, ◌/◌, ◌%◌, ◌^◌, ◌≤◌, ◌<◌}
use Rattle.std.proofs.Common.{div-one, add-one, arith, length, get_or, drop, take, set, drop_of_length-le, drop-cons, take_all, bit_xor}
use Rattle.engine.specs.Bits.{permuted}
use Rattle.ground.specs.Rows.{row, digits}
use Rattle.ground.specs.Lists.{put}
use Rattle.engine.specs.Fips46.{shifted, selected, selections, substituted, rounds, scheduled, f}
use Rattle.engine.specs.Tables.{PC-2, S1, S2, S3, S4, S5, S6, S7, S8}

-- a half of the key stays one of 28 bits when it is shifted around
pub shifted_lt : (n c : ℕ) → 1 ≤ n → n ≤ 2 → c < 2 ^ 28 → shifted n c < 2 ^ 28
unfolding shifted
shifted_lt zero c h k l = omega arith
shifted_lt (suc zero) c h k l = omega arith
shifted_lt (suc (suc zero)) c h k l = omega arith
shifted_lt (suc (suc (suc n))) c h k l = omega arith

-- the eight selections in turn
pub eight : (x : ℕ) {v1 v2 v3 v4 v5 v6 v7 v8 : ℕ}
    → v1 ≡ selected S1 (x / 2 ^ 42 % 64) → v2 ≡ selected S2 (x / 2 ^ 36 % 64) → v3 ≡ selected S3 (x / 2 ^ 30 % 64) → v4 ≡ selected S4 (x / 2 ^ 24 % 64)
    → v5 ≡ selected S5 (x / 2 ^ 18 % 64) → v6 ≡ selected S6 (x / 2 ^ 12 % 64) → v7 ≡ selected S7 (x / 2 ^ 6 % 64) → v8 ≡ selected S8 (x % 64)
    → (((((((0 * 16 + v1) * 16 + v2) * 16 + v3) * 16 + v4) * 16 + v5) * 16 + v6) * 16 + v7) * 16 + v8 ≡ substituted x
unfolding substituted selections row digits
eight x a b c d e f g h = rw (a, b, c, d, e, f, g, h, div-one)

pub rounds-step : (ks : List ℕ) (l r i : ℕ) → i < length ks
    → rounds (drop i ks) l r ≡ rounds (drop (i + 1) ks) r (bit_xor l (f r (get_or ks i 0)))
unfolding rounds
rounds-step ks l r i h = rw (add-one, drop-cons ks i 0)

pub rounds_end : (ks : List ℕ) (l r i : ℕ) → length ks ≤ i → rounds (drop i ks) l r ≡ r * 2 ^ 32 + l
unfolding rounds
rounds_end ks l r i h = rw drop_of_length-le

pub scheduled-step : (ns : List ℕ) (c d i : ℕ) → i < length ns
    → scheduled (drop i ns) c d
    ≡ permuted 56 PC-2 (shifted (get_or ns i 0) c * 2 ^ 28 + shifted (get_or ns i 0) d)
    ∷ scheduled (drop (i + 1) ns) (shifted (get_or ns i 0) c) (shifted (get_or ns i 0) d)
unfolding scheduled
scheduled-step ns c d i h = rw (add-one, drop-cons ns i 0)

pub scheduled_end : (ns : List ℕ) (c d i : ℕ) → length ns ≤ i → scheduled (drop i ns) c d ≡ []
unfolding scheduled
scheduled_end ns c d i h = rw drop_of_length-le

-- one key more is stored
pub key_step : (ns ks : List ℕ) (c d : ℕ) {i n c' d' v : ℕ} → i < length ns → i < length ks
    → n ≡ get_or ns i 0 → c' ≡ shifted n c → d' ≡ shifted n d → v ≡ permuted 56 PC-2 (c' * 2 ^ 28 + d')
    → take (i + 1) (set ks i v) ++ scheduled (drop (i + 1) ns) c' d' ≡ take i ks ++ scheduled (drop i ns) c d
key_step ns ks c d {i} h k en ec ed ev =
    rw (ev, ec, ed, en) (put ks i _ _ k ∙ ap (λ (l : List ℕ). take i ks ++ l) (sym (scheduled-step ns c d i h)))

pub key_end : (ns ks : List ℕ) (c d i : ℕ) → length ns ≤ i → length ks ≤ i → take i ks ++ scheduled (drop i ns) c d ≡ ks
key_end ns ks c d i h k = rw (scheduled_end ns c d i h, take_all i ks k, append-nil)
