-- Laws of hex digits, of the words of raw bytes and of parts, by an index or step by step. They stood in specs/; the code is proved without them.
use Rattle.std.specs.Prelude.{◌≡◌, refl, List, [], ◌∷◌, ℕ, zero, suc, ◌+◌, ◌-◌, ◌*◌, ◌≤◌, ◌<◌, length, get_or, take, drop}
use Rattle.std.proofs.Common.{sym, ap, ap₂, ◌∙◌, arith, add-one, length-drop, drop_of_length-le, drop-cons, take_all}
use Rattle.std.proofs.Math.Seq.{take-nil}
use Rattle.printout.specs.Page.{Page, entered, then}
use Rattle.stream.specs.declared.Request.{Request}
use Rattle.stream.specs.Fields.{part}
use Rattle.words.specs.declared.Word.{Word}
use Rattle.words.specs.Split.{word_at}
use Rattle.values.specs.Sources.{hex_value, unhex, word_bytes, raw_next, raw_from}
use Rattle.values.specs.Values.{Value, fitting}
use Rattle.values.specs.Fields.{value_bytes, with_value}

-- ---- one step of each, for a loop

pub unhex-step : (ds : List ℕ) (i : ℕ) → i + 1 < length ds → unhex (drop i ds) ≡ (16 * hex_value (get_or ds i 0) + hex_value (get_or ds (i + 1) 0)) ∷ unhex (drop (i + 2) ds)
unfolding unhex
unhex-step ds i h =
    let next : suc (i + 1) ≡ i + 2 = omega arith in
    let two : drop i ds ≡ get_or ds i 0 ∷ get_or ds (i + 1) 0 ∷ drop (i + 2) ds =
    drop-cons ds i 0 (omega arith)
    ∙ ap (λ (n : ℕ). get_or ds i 0 ∷ drop n ds) (sym (add-one i))
    ∙ ap (λ (r : List ℕ). get_or ds i 0 ∷ r) (drop-cons ds (i + 1) 0 h ∙ ap (λ (n : ℕ). get_or ds (i + 1) 0 ∷ drop n ds) next) in
    ap unhex two

-- where at most one digit is left
unhex_short : (ds : List ℕ) → length ds ≤ 1 → unhex ds ≡ []
unfolding unhex
unhex_short [] h = refl
unhex_short (a ∷ []) h = refl
unhex_short (a ∷ b ∷ cs) h = absurd (omega arith)

pub unhex_end : (ds : List ℕ) (i : ℕ) → length ds ≤ i + 1 → unhex (drop i ds) ≡ []
unhex_end ds i h = unhex_short (drop i ds) (omega (arith, length-drop i ds))

-- a byte of several put onto a page, and the rest
pub enter-unhex : (ds : List ℕ) (i : ℕ) (p : Page) → i + 1 < length ds
    → entered (unhex (drop (i + 2) ds)) (entered ((16 * hex_value (get_or ds i 0) + hex_value (get_or ds (i + 1) 0)) ∷ []) p) ≡ entered (unhex (drop i ds)) p
unfolding entered
enter-unhex ds i p h = sym (ap (λ (r : List ℕ). entered r p) (unhex-step ds i h))

pub unhex-done : (ds : List ℕ) (i : ℕ) (p : Page) → length ds ≤ i + 1 → p ≡ entered (unhex (drop i ds)) p
unfolding entered
unhex-done ds i p h = sym (ap (λ (r : List ℕ). entered r p) (unhex_end ds i h))

-- one word of raw bytes put onto a page, and the rest
raw_step : (n : ℕ) (l : List ℕ) (at : ℕ) (p : Page) → 0 < n
    → entered (raw_from (n - 1) l (raw_next (length l) (word_at l at))) (entered (word_bytes l (word_at l at)) p) ≡ entered (raw_from n l at) p
unfolding raw_from
raw_step zero l at p h = absurd (omega arith)
raw_step (suc n) l at p h =
    let e : suc n - 1 ≡ n = omega arith in
    rw e (sym (then (word_bytes l (word_at l at)) (raw_from n l (raw_next (length l) (word_at l at))) p))

pub raw_turn_lem : (n : ℕ) (l : List ℕ) (at next : ℕ) (w : Word) (p q : Page) → 0 < n → w ≡ word_at l at → next ≡ raw_next (length l) w → q ≡ entered (word_bytes l w) p
    → entered (raw_from (n - 1) l next) q ≡ entered (raw_from n l at) p
raw_turn_lem n l at next w p q h e f g =
    ap₂ (λ (m : ℕ) (x : Page). entered (raw_from (n - 1) l m) x) (f ∙ ap (raw_next (length l)) e) (g ∙ ap (λ (v : Word). entered (word_bytes l v) p) e)
    ∙ raw_step n l at p h

pub raw_end : (n : ℕ) (l : List ℕ) (at : ℕ) (p : Page) → n ≡ 0 → p ≡ entered (raw_from n l at) p
unfolding raw_from entered
raw_end zero l at p h = refl
raw_end (suc n) l at p h = absurd (omega arith)

-- ---- parts

pub part_none : (start end : ℕ) (s : List ℕ) → end ≤ start → part start end s ≡ []
part_none start end s h = let z : end - start ≡ 0 = omega arith in rw z

pub part_past : (start end : ℕ) (s : List ℕ) → length s ≤ start → part start end s ≡ []
part_past start end s h = ap (take (end - start)) (drop_of_length-le s h) ∙ take-nil (end - start)

pub part_rest : (start end : ℕ) (s : List ℕ) → length s ≤ end → part start end s ≡ drop start s
part_rest start end s h = take_all (end - start) (drop start s) (omega (arith, length-drop start s))

-- ---- a field of any value, one that does not fit too

-- only its number and its bytes are read
pub any_value : (k : ℕ) (v : Value) (l kept : List ℕ) (a : Request) → with_value k v l kept a ≡ with_value k (fitting v.number v.bytes) l kept a
unfolding with_value value_bytes fitting
any_value k v l kept a = refl
