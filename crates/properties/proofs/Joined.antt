-- "Two calls equal one call on the joined data where that is at most 32768 bytes", for all six modes.
use Rattle.std.specs.Prelude.{◌≡◌, refl, Bool, false, cond, List, [], ◌∷◌, ◌++◌, ℕ, ◌+◌, ◌%◌, ◌≤◌, length, take}
use Rattle.std.proofs.Math.Path.{sym, ap₂}
use Rattle.std.proofs.Common.{ap, ◌∙◌, arith, length-append, eq-eqb, ne_eqb, le-ltb}
use Rattle.std.specs.Prelude.{Some}
use Rattle.ground.specs.Search.{by_test}
use Rattle.ground.specs.Lists.{Below}
use Rattle.cipher.specs.Cipher.{Octets, Whole, mode_text, mode_vector}
use Rattle.cipher.specs.declared.keys.Vector.{Vector}
use Rattle.cipher.specs.declared.modes.Mode.{Mode}
use Rattle.cipher.specs.declared.modes.Mode.TheVariants.{Ecbe, Ecbd, Cbce, Cbcd, Cfbe, Cfbd}
use Rattle.cipher.proofs.Promise.{mode_text_join, mode_vector_join}
use Rattle.state.specs.declared.Holdings.{Holdings}
use Rattle.state.specs.declared.Place.{Place}
use Rattle.state.specs.State.{Bytes, has, seat, find, put, with_places}
use Rattle.rules.specs.World.{World, over}
use Rattle.rules.specs.Sides.{mode_side, after_mode, with_vector}
use Rattle.rules.specs.Refusals.{bad_length, bad_blocks}
use Rattle.rules.specs.Commands.{by, mode}
use Rattle.rules.specs.Step.{step}
use Rattle.rules.proofs.Laws.{good_blocks}
use Rattle.properties.specs.Steps.{Accepted}
use Rattle.properties.proofs.Steps.{put-own}
use Rattle.properties.specs.Calls.{vector_of, held}
use Rattle.properties.proofs.Calls.{Conditions, conditions, accepted, left_world, key_stays, vector-left, some_bytes}
use Rattle.properties.proofs.Texts.{whole, text, written}

-- ---- between two calls

-- the later vector counts
twice : (h : Holdings) (x : Vector) (m : Mode) (y : Vector) → after_mode m y (after_mode m x h) ≡ after_mode m y h
unfolding after_mode with_vector
twice h x Ecbe y = refl
twice h x Ecbd y = refl
twice h x Cbce y = refl
twice h x Cbcd y = refl
twice h x Cfbe y = refl
twice h x Cfbd y = refl

put_twice : (u : ℕ) (a b : Holdings) (ps : List Place) → put u (seat u b) (put u (seat u a) ps) ≡ put u (seat u b) ps
put_twice u a b [] = refl
put_twice u a b (p ∷ ps) =
    by_test (has u p)
    (λ t.
    ap (λ (x : Bool). put u (seat u b) (cond x (seat u a ∷ ps) (p ∷ put u (seat u a) ps))) t
    ∙ ap (λ (x : Bool). cond x (seat u b ∷ ps) (seat u a ∷ put u (seat u b) ps)) (eq-eqb u u refl)
    ∙ sym (ap (λ (x : Bool). cond x (seat u b ∷ ps) (p ∷ put u (seat u b) ps)) t))
    (λ f.
    ap (λ (x : Bool). put u (seat u b) (cond x (seat u a ∷ ps) (p ∷ put u (seat u a) ps))) f
    ∙ ap (λ (x : Bool). cond x (seat u b ∷ put u (seat u a) ps) (p ∷ put u (seat u b) (put u (seat u a) ps))) f
    ∙ ap (λ (l : List Place). p ∷ l) (put_twice u a b ps)
    ∙ sym (ap (λ (x : Bool). cond x (seat u b ∷ ps) (p ∷ put u (seat u b) ps)) f))

-- ---- the length of the joined data

pub good : (n : ℕ) → (n ≡ 0 → ⊥) → n ≤ 32768 → n % 8 ≡ 0 → bad_blocks n ≡ false
unfolding bad_blocks bad_length
good n z l b = rw (ne_eqb n 0 z, le-ltb 32768 n l, eq-eqb (n % 8) 0 b)

-- ---- two calls, and one

-- the active user u, who holds h, calls the mode m with d, then with e
module _ (w : World) (u : ℕ) (m : Mode) (d e out₁ out₂ : Bytes) (h : Holdings) (active : find u w.facility.places ≡ Some h)
    (o : Octets (mode_side m h).vector.value.0) (bytes : Below 256 d)
    (one : Accepted w u (mode m d) out₁) (two : Accepted (step w (by u (mode m d)) out₁).world u (mode m e) out₂) where
  -- the world between the calls
  abbrev pub between : World
  between = (step w (by u (mode m d)) out₁).world

  -- what the calls wrote
  abbrev pub wrote₁ : Bytes
  wrote₁ = take (length d) (step w (by u (mode m d)) out₁).answered.output

  abbrev pub wrote₂ : Bytes
  wrote₂ = take (length e) (step between (by u (mode m e)) out₂).answered.output

  first : Conditions w u m d out₁ h active
  first = conditions w u m d out₁ h active one

  still : find u between.facility.places ≡ Some (held m h d)
  still = ap (λ (x : World). find u x.facility.places) (left_world w u m d out₁ h active first) ∙ put-own u h (held m h d) w.facility.places active

  second : Conditions between u m e out₂ (held m h d) still
  second = conditions between u m e out₂ (held m h d) still two

  some_data : length d ≡ 0 → ⊥
  some_data = some_bytes (length d) first.blocks

  all : Whole d
  all = record { blocks = whole w u m d out₁ h active one; small = bytes }

  key_is : (mode_side m (held m h d)).key.value.0 ≡ (mode_side m h).key.value.0
  key_is = ap (λ k. k.value.0) (key_stays h (vector_of m h d) m)

  vector_is : (mode_side m (held m h d)).vector.value.0 ≡ (vector_of m h d).0
  vector_is = vector-left h d all (omega (arith, some_data)) m o

  -- the one call on the joined data is accepted, where that is at most 32768 bytes and the output has room
  module _ (out : Bytes) (limit : length (d ++ e) ≤ 32768) (room : length (d ++ e) ≤ length out) where
    third : Conditions w u m (d ++ e) out h active
    third =
        let l : length (d ++ e) ≡ length d + length e = length-append d e in
        let x : length d % 8 ≡ 0 = good_blocks (length d) first.blocks in
        let y : length e % 8 ≡ 0 = good_blocks (length e) second.blocks in
        let z : length (d ++ e) % 8 ≡ 0 = omega arith in
        record {
          small = first.small;
          key = first.key;
          vector = first.vector;
          blocks = good (length (d ++ e)) (λ q. some_data (omega arith)) limit z;
          room = le-ltb (length out) (length (d ++ e)) room;
        }

    pub joined_accepted : Accepted w u (mode m (d ++ e)) out
    joined_accepted = accepted w u m (d ++ e) out h active third

    -- it writes what the two calls wrote, joined
    pub joined-text : take (length (d ++ e)) (step w (by u (mode m (d ++ e))) out).answered.output ≡ wrote₁ ++ wrote₂
    unfolding text
    joined-text =
        written w u m (d ++ e) out h active joined_accepted
        ∙ mode_text_join m (mode_side m h).key.value.0 (mode_side m h).vector.value.0 d e o all
        ∙ sym (ap₂ (λ (x y : Bytes). x ++ y)
        (written w u m d out₁ h active one)
        (written between u m e out₂ (held m h d) still two ∙ ap₂ (λ (k v : Bytes). mode_text m k v e) key_is vector_is))

    held_same : held m (held m h d) e ≡ held m h (d ++ e)
    held_same =
        ap₂ (λ (k v : Bytes). after_mode m (record { 0 = mode_vector m k v e }) (held m h d)) key_is vector_is
        ∙ twice h (vector_of m h d) m _
        ∙ ap (λ (v : Bytes). after_mode m (record { 0 = v }) h) (sym (mode_vector_join m (mode_side m h).key.value.0 (mode_side m h).vector.value.0 d e o all))

    -- and leaves the world that they left
    pub joined_world : (step w (by u (mode m (d ++ e))) out).world ≡ (step between (by u (mode m e)) out₂).world
    joined_world =
        left_world w u m (d ++ e) out h active third
        ∙ sym (left_world between u m e out₂ (held m h d) still second
        ∙ ap (λ (x : World). over (with_places x.facility (put u (seat u (held m (held m h d) e)) x.facility.places)) x.table) (left_world w u m d out₁ h active first)
        ∙ ap (λ (l : List Place). over (with_places w.facility l) w.table) (put_twice u (held m h d) (held m (held m h d) e) w.facility.places)
        ∙ ap (λ (x : Holdings). over (with_places w.facility (put u (seat u x) w.facility.places)) w.table) held_same)
