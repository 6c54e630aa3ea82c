-- The cipher's promise: the laws that a layer above may use. What the cipher computes stays shut; the words around it (verdicts, which mode undoes which)
-- are open.
use Rattle.std.proofs.Common.{Result, Ok, Err}
use Rattle.std.proofs.Common.{◌≡◌, refl, sym, ap, ◌∙◌, List, [], ◌∷◌, ◌++◌, map, reverse, append-nil, ℕ, ◌-◌, ◌/◌, ◌%◌, ◌^◌, ◌<◌, ◌≤◌, arith, bit_xor}
use Rattle.std.proofs.Common.{length, replicate, eq-eqb, ne_eqb, le-leb}
use Rattle.std.proofs.lemmas.Bool.{lt-leb}
use Rattle.std.proofs.lemmas.List.{reverse-reverse}
use Rattle.std.proofs.lemmas.Nat.{xor_lt}
use Rattle.ground.specs.Lists.{none}
use Rattle.engine.specs.Fips46.{computed, encipher, decipher, KS}
use Rattle.engine.proofs.Undoing.{computed_lt, computed_back}
use Rattle.fips81.specs.declared.Turn.{Turn}
use Rattle.fips81.specs.Fips81.{turned, keys_for, codebook, chain, unchain, given, left, blocks, joined}
use Rattle.fips81.specs.Keyed.{enciphered, deciphered, text_of, vector_of, turn_of}
use Rattle.fips81.proofs.Turns.{Undoes, given-length, given_join, left_join, given_back, left_back, Bounded, given_below, left_lt}
use Rattle.fips81.proofs.Turns.{last, left-given, left-taken, left_still, feedback_64, unfeedback_64, turn_bounded, turn_undone}
use Rattle.cipher.specs.declared.modes.Mode.{Mode}
use Rattle.cipher.specs.declared.modes.Mode.TheVariants.{Ecbe, Ecbd, Cbce, Cbcd, Cfbe, Cfbd}
use Rattle.cipher.specs.declared.modes.Misfit.{Misfit}
use Rattle.cipher.specs.declared.modes.Misfit.TheVariants.{BadLength, NoRoom}
use Rattle.cipher.specs.declared.keys.Vector.{Vector}
use Rattle.cipher.specs.Bits.{word, bytes}
use Rattle.cipher.specs.Cipher.{Octets, Whole, Way, ECB, CBC, CFB, way_of, direction_of, enciphering, deciphering, mode_text, mode_vector, vector_after}
use Rattle.cipher.specs.Cipher.{filled, last_block, fixity, onto, Outcome, outcome_of, applied, ruled, fitting, Value, value_of, valued}
use Rattle.cipher.proofs.Parity.{KS_parity}
use Rattle.cipher.proofs.Blocks.{word_lt, bytes_word, word_bytes, bytes_octets, blocks_below, blocks-length, blocks-append, last-joined}
use Rattle.cipher.proofs.Blocks.{joined-blocks, joined_length, blocks-joined, joined_whole, joined-append}
use Rattle.cipher.proofs.Texts.{blocks-first, blocks_none, blocks_one, filled-length, filled-zeros}

-- ---- one block

pub enciphered_octets : (k b : List ℕ) → Octets (enciphered k b)
unfolding enciphered
enciphered_octets k b = bytes_octets (encipher (word k) (word b))

pub deciphered_octets : (k b : List ℕ) → Octets (deciphered k b)
unfolding deciphered
deciphered_octets k b = bytes_octets (decipher (word k) (word b))

block_lt : (b : List ℕ) → Octets b → word b < 2 ^ 64
block_lt b o = word_lt b (omega (arith, o.eight)) o.small

-- deciphering undoes enciphering, and enciphering deciphering, under every key
pub deciphered-enciphered : (k b : List ℕ) → Octets b → deciphered k (enciphered k b) ≡ b
unfolding enciphered deciphered encipher decipher
deciphered-enciphered k b o =
    ap (λ (x : ℕ). bytes (computed (reverse (KS (word k))) x)) (word_bytes (computed (KS (word k)) (word b)) (computed_lt (KS (word k)) (word b)))
    ∙ ap bytes (computed_back (KS (word k)) (word b) (block_lt b o))
    ∙ bytes_word b o

pub enciphered-deciphered : (k b : List ℕ) → Octets b → enciphered k (deciphered k b) ≡ b
unfolding enciphered deciphered encipher decipher
enciphered-deciphered k b o =
    ap (λ (x : ℕ). bytes (computed (KS (word k)) x)) (word_bytes (computed (reverse (KS (word k))) (word b)) (computed_lt (reverse (KS (word k))) (word b)))
    ∙ ap (λ (ks : List ℕ). bytes (computed ks (computed (reverse (KS (word k))) (word b)))) (sym (reverse-reverse (KS (word k))))
    ∙ ap bytes (computed_back (reverse (KS (word k))) (word b) (block_lt b o))
    ∙ bytes_word b o

-- the last bit of each byte of a key plays no part: two keys that agree but for those bits
module _ (k k' : List ℕ) (o : Octets k) (o' : Octets k') (e : map (λ (b : ℕ). b / 2) k ≡ map (λ (b : ℕ). b / 2) k') where
  pub enciphered_parity : (b : List ℕ) → enciphered k b ≡ enciphered k' b
  unfolding enciphered encipher
  enciphered_parity b = ap (λ (ks : List ℕ). bytes (computed ks (word b))) (KS_parity k k' o o' e)

  pub deciphered_parity : (b : List ℕ) → deciphered k b ≡ deciphered k' b
  unfolding deciphered decipher
  deciphered_parity b = ap (λ (ks : List ℕ). bytes (computed (reverse ks) (word b))) (KS_parity k k' o o' e)

-- ---- a text by a mode: its length, and that it is bytes

-- the mode's turn under the key k
abbrev turn : Mode → List ℕ → ℕ → ℕ → Turn
turn m k = turn_of (way_of m) (direction_of m) k

module _ (m : Mode) (k v : List ℕ) where
  pub mode_text-length : (t : List ℕ) → length t % 8 ≡ 0 → length (mode_text m k v t) ≡ length t
  unfolding mode_text text_of
  mode_text-length t h =
      omega (arith, joined_length (given (turn m k) (word v) (blocks t)), given-length (turn m k) (word v) (blocks t), blocks-length t)

  pub mode_text_whole : (t : List ℕ) → Whole (mode_text m k v t)
  unfolding mode_text text_of
  mode_text_whole t = joined_whole (given (turn m k) (word v) (blocks t))

  pub mode_vector_octets : (t : List ℕ) → Octets (mode_vector m k v t)
  unfolding mode_vector vector_of
  mode_vector_octets t = bytes_octets (left (turn m k) (word v) (blocks t))

-- ---- the six modes

bounded : (m : Mode) (k : List ℕ) → Bounded (turn m k)
bounded m k = turn_bounded (way_of m) (direction_of m) k

-- deciphering undoes enciphering
undone : (w : Way) (k : List ℕ) → Undoes (2 ^ 64) (turn (enciphering w) k) (turn (deciphering w) k)
unfolding way_of direction_of enciphering deciphering
undone ECB k = turn_undone ECB k
undone CBC k = turn_undone CBC k
undone CFB k = turn_undone CFB k

-- two calls equal one call on the joined text
module _ (m : Mode) (k v s t : List ℕ) (o : Octets v) (w : Whole s) where
  between : word (mode_vector m k v s) ≡ left (turn m k) (word v) (blocks s)
  unfolding mode_vector vector_of
  between = word_bytes (left (turn m k) (word v) (blocks s)) (left_lt (bounded m k) (word v) (blocks s) (block_lt v o) (blocks_below s w.small))

  pub mode_text_join : mode_text m k v (s ++ t) ≡ mode_text m k v s ++ mode_text m k (mode_vector m k v s) t
  unfolding mode_text text_of
  mode_text_join =
      ap (λ (l : List ℕ). joined (given (turn m k) (word v) l)) (blocks-append s t w.blocks)
      ∙ ap joined (given_join (turn m k) (word v) (blocks s) (blocks t))
      ∙ joined-append (given (turn m k) (word v) (blocks s)) (given (turn m k) (left (turn m k) (word v) (blocks s)) (blocks t))
      ∙ ap (λ (n : ℕ). mode_text m k v s ++ joined (given (turn m k) n (blocks t))) (sym between)

  pub mode_vector_join : mode_vector m k v (s ++ t) ≡ mode_vector m k (mode_vector m k v s) t
  unfolding mode_vector vector_of
  mode_vector_join =
      ap (λ (l : List ℕ). bytes (left (turn m k) (word v) l)) (blocks-append s t w.blocks)
      ∙ ap bytes (left_join (turn m k) (word v) (blocks s) (blocks t) ∙ ap (λ (n : ℕ). left (turn m k) n (blocks t)) (sym between))

-- from the same key and vector deciphering gives back what was enciphered, and ends with the same vector
module _ (w : Way) (k v t : List ℕ) (o : Octets v) (u : Whole t) where
  middle : blocks (mode_text (enciphering w) k v t) ≡ given (turn (enciphering w) k) (word v) (blocks t)
  unfolding mode_text text_of
  middle =
      blocks-joined (given (turn (enciphering w) k) (word v) (blocks t))
      (given_below (bounded (enciphering w) k) (word v) (blocks t) (block_lt v o) (blocks_below t u.small))

  pub mode_text_back : mode_text (deciphering w) k v (mode_text (enciphering w) k v t) ≡ t
  unfolding mode_text text_of
  mode_text_back =
      ap (λ (l : List ℕ). joined (given (turn (deciphering w) k) (word v) l)) middle
      ∙ ap joined (given_back (undone w k) (word v) (blocks t) (block_lt v o) (blocks_below t u.small))
      ∙ joined-blocks t u

  pub mode_vector_back : mode_vector (deciphering w) k v (mode_text (enciphering w) k v t) ≡ mode_vector (enciphering w) k v t
  unfolding mode_vector vector_of
  mode_vector_back =
      ap (λ (l : List ℕ). bytes (left (turn (deciphering w) k) (word v) l)) middle
      ∙ ap bytes (left_back (undone w k) (word v) (blocks t) (block_lt v o) (blocks_below t u.small))

-- the vector afterwards is the last cipher block: the last of what the mode gives, or of what it takes
module _ (m : Mode) (k v t : List ℕ) (h : 8 ≤ length t) where
  last-given : bytes (last (word v) (given (turn m k) (word v) (blocks t))) ≡ last_block (mode_text m k v t)
  unfolding given mode_text text_of
  last-given =
      ap (λ (l : List ℕ). bytes (last (word v) (given (turn m k) (word v) l))) (blocks-first t h)
      ∙ sym (last-joined (word v) _ _)
      ∙ ap (λ (l : List ℕ). last_block (joined (given (turn m k) (word v) l))) (sym (blocks-first t h))

  last_taken : Whole t → bytes (last (word v) (blocks t)) ≡ last_block t
  last_taken u =
      ap (λ (l : List ℕ). bytes (last (word v) l)) (blocks-first t h)
      ∙ sym (last-joined (word v) _ _)
      ∙ ap (λ (l : List ℕ). last_block (joined l)) (sym (blocks-first t h))
      ∙ ap last_block (joined-blocks t u)

-- CBC enciphering: no premise but that there is a block
chain-after : (k v t : List ℕ) → 8 ≤ length t → mode_vector Cbce k v t ≡ last_block (mode_text Cbce k v t)
unfolding mode_vector vector_of way_of direction_of turned chain
chain-after k v t h =
    ap bytes (left-given (turn Cbce k) (λ x. Unit {0}) (λ v x p. refl) (word v) (blocks t) (λ i. tt))
    ∙ last-given Cbce k v t h

module _ (k v t : List ℕ) (o : Octets v) (u : Whole t) (n : 0 < length t) where
  one : 8 ≤ length t
  one = let b : length t % 8 ≡ 0 = u.blocks in omega arith

  pub mode_vector-after : (m : Mode) → mode_vector m k v t ≡ vector_after m v t (mode_text m k v t)
  unfolding vector_after mode_vector vector_of way_of direction_of turned keys_for codebook unchain
  mode_vector-after Ecbe = ap bytes (left_still (turn Ecbe k) (λ v x. refl) (word v) (blocks t)) ∙ bytes_word v o
  mode_vector-after Ecbd = ap bytes (left_still (turn Ecbd k) (λ v x. refl) (word v) (blocks t)) ∙ bytes_word v o
  mode_vector-after Cbce = chain-after k v t one
  mode_vector-after Cbcd =
      ap bytes (left-taken (turn Cbcd k) (λ x. x < 2 ^ 64) (λ v x h. refl) (word v) (blocks t) (blocks_below t u.small))
      ∙ last_taken Cbcd k v t one u
  mode_vector-after Cfbe =
      let e : (v x : ℕ) → x < 2 ^ 64 → (turn Cfbe k v x).leaves ≡ (turn Cfbe k v x).gives =
      λ v x h. rw (feedback_64 (computed (KS (word k))) v x h (computed_lt (KS (word k)) v)) in
      ap bytes (left-given (turn Cfbe k) (λ x. x < 2 ^ 64) e (word v) (blocks t) (blocks_below t u.small))
      ∙ last-given Cfbe k v t one
  mode_vector-after Cfbd =
      let e : (v x : ℕ) → x < 2 ^ 64 → (turn Cfbd k v x).leaves ≡ x = λ v x h. rw (unfeedback_64 (computed (KS (word k))) v x h) in
      ap bytes (left-taken (turn Cfbd k) (λ x. x < 2 ^ 64) e (word v) (blocks t) (blocks_below t u.small))
      ∙ last_taken Cfbd k v t one u

-- a text of no bytes gives none, and leaves the vector
pub mode_text_none : (m : Mode) (k v : List ℕ) → mode_text m k v [] ≡ []
mode_text_none m k v = none (mode_text m k v []) (mode_text-length m k v [] refl)

pub mode_vector_none : (m : Mode) (k v : List ℕ) → Octets v → mode_vector m k v [] ≡ v
unfolding mode_vector vector_of left
mode_vector_none m k v o = ap (λ (l : List ℕ). bytes (left (turn m k) (word v) l)) (blocks_none [] (omega arith)) ∙ bytes_word v o

-- ---- one block by each mode, in terms of `enciphered` and `deciphered`

-- whatever the mode: what it gives for the one block
one_block : (m : Mode) (k v b : List ℕ) → Octets b → mode_text m k v b ≡ bytes (turn m k (word v) (word b)).gives
unfolding mode_text text_of given joined
one_block m k v b o =
    ap (λ (xs : List ℕ). joined (given (turn m k) (word v) xs)) (blocks_one b o.eight)
    ∙ append-nil (bytes (turn m k (word v) (word b)).gives)

-- ECB: the vector plays no part
pub mode_text_ecbe : (k v b : List ℕ) → Octets b → mode_text Ecbe k v b ≡ enciphered k b
unfolding way_of direction_of turned keys_for codebook enciphered encipher
mode_text_ecbe k v b o = one_block Ecbe k v b o

pub mode_text_ecbd : (k v b : List ℕ) → Octets b → mode_text Ecbd k v b ≡ deciphered k b
unfolding way_of direction_of turned keys_for codebook deciphered decipher
mode_text_ecbd k v b o = one_block Ecbd k v b o

-- the exclusive or of two blocks
abbrev pub ◌⊕◌ : List ℕ → List ℕ → List ℕ
◌⊕◌ a b = bytes (bit_xor (word a) (word b))

pub mode_text_cbce : (k v b : List ℕ) → Octets v → Octets b → mode_text Cbce k v b ≡ enciphered k (◌⊕◌ b v)
unfolding way_of direction_of turned keys_for chain enciphered encipher
mode_text_cbce k v b o p =
    one_block Cbce k v b p
    ∙ ap (λ (x : ℕ). bytes (computed (KS (word k)) x)) (sym (word_bytes (bit_xor (word b) (word v)) (xor_lt 64 (word b) (word v) (block_lt b p) (block_lt v o))))

pub mode_text_cbcd : (k v b : List ℕ) → Octets b → mode_text Cbcd k v b ≡ ◌⊕◌ (deciphered k b) v
unfolding way_of direction_of turned keys_for unchain deciphered decipher
mode_text_cbcd k v b o =
    one_block Cbcd k v b o
    ∙ ap (λ (x : ℕ). bytes (bit_xor x (word v))) (sym (word_bytes (computed (reverse (KS (word k))) (word b)) (computed_lt (reverse (KS (word k))) (word b))))

-- CFB, both ways, by the enciphered vector
the_pad : (k v : List ℕ) → word (enciphered k v) ≡ computed (KS (word k)) (word v)
unfolding enciphered encipher
the_pad k v = word_bytes (computed (KS (word k)) (word v)) (computed_lt (KS (word k)) (word v))

pub mode_text_cfbe : (k v b : List ℕ) → Octets b → mode_text Cfbe k v b ≡ ◌⊕◌ b (enciphered k v)
unfolding way_of direction_of turned keys_for
mode_text_cfbe k v b o =
    one_block Cfbe k v b o
    ∙ ap (λ (z : Turn). bytes z.gives) (feedback_64 (computed (KS (word k))) (word v) (word b) (block_lt b o) (computed_lt (KS (word k)) (word v)))
    ∙ ap (λ (y : ℕ). bytes (bit_xor (word b) y)) (sym (the_pad k v))

pub mode_text_cfbd : (k v b : List ℕ) → Octets b → mode_text Cfbd k v b ≡ ◌⊕◌ b (enciphered k v)
unfolding way_of direction_of turned keys_for
mode_text_cfbd k v b o =
    one_block Cfbd k v b o
    ∙ ap (λ (z : Turn). bytes z.gives) (unfeedback_64 (computed (KS (word k))) (word v) (word b) (block_lt b o))
    ∙ ap (λ (y : ℕ). bytes (bit_xor (word b) y)) (sym (the_pad k v))

-- nor does the last bit of each byte of a key play a part in any mode
module _ (k k' : List ℕ) (o : Octets k) (o' : Octets k') (e : map (λ (b : ℕ). b / 2) k ≡ map (λ (b : ℕ). b / 2) k') (v t : List ℕ) where
  keys_parity : (m : Mode) → keys_for (way_of m) (direction_of m) (word k) ≡ keys_for (way_of m) (direction_of m) (word k')
  unfolding way_of direction_of keys_for
  keys_parity Ecbe = KS_parity k k' o o' e
  keys_parity Ecbd = ap reverse (KS_parity k k' o o' e)
  keys_parity Cbce = KS_parity k k' o o' e
  keys_parity Cbcd = ap reverse (KS_parity k k' o o' e)
  keys_parity Cfbe = KS_parity k k' o o' e
  keys_parity Cfbd = KS_parity k k' o o' e

  pub mode_text_parity : (m : Mode) → mode_text m k v t ≡ mode_text m k' v t
  unfolding mode_text text_of
  mode_text_parity m = ap (λ (ks : List ℕ). joined (given (turned (way_of m) (direction_of m) (computed ks)) (word v) (blocks t))) (keys_parity m)

  pub mode_vector_parity : (m : Mode) → mode_vector m k v t ≡ mode_vector m k' v t
  unfolding mode_vector vector_of
  mode_vector_parity m = ap (λ (ks : List ℕ). bytes (left (turned (way_of m) (direction_of m) (computed ks)) (word v) (blocks t))) (keys_parity m)

-- ---- the fixity value

-- it is the last block of the record's CBC text, the record filled with zero bytes
pub fixity_cbc : (k v t : List ℕ) → fixity k v t ≡ last_block (mode_text Cbce k v (filled t))
unfolding fixity
fixity_cbc k v t = refl

-- and so the vector that CBC leaves
pub fixity-vector : (k v t : List ℕ) → (length t ≡ 0 → ⊥) → fixity k v t ≡ mode_vector Cbce k v (filled t)
fixity-vector k v t n = fixity_cbc k v t ∙ sym (chain-after k v (filled t) (omega (arith, filled-length t)))

pub fixity_octets : (k v t : List ℕ) → (length t ≡ 0 → ⊥) → Octets (fixity k v t)
fixity_octets k v t n = rw (fixity-vector k v t n) (mode_vector_octets Cbce k v (filled t))

-- a record, and the same record with zero bytes behind it that pass no block, have one value
pub fixity-zeros : (k v t : List ℕ) (n : ℕ) → n ≤ (8 - length t % 8) % 8 → fixity k v (t ++ replicate n 0) ≡ fixity k v t
fixity-zeros k v t n h = rw (fixity_cbc, fixity_cbc k v t) (ap (λ (f : List ℕ). last_block (mode_text Cbce k v f)) (filled-zeros t n h))

-- "AB", and "AB" followed by a zero byte
pub fixity_AB : (k v : List ℕ) → fixity k v (0x41 ∷ 0x42 ∷ 0x00 ∷ []) ≡ fixity k v (0x41 ∷ 0x42 ∷ [])
fixity_AB k v = fixity-zeros k v (0x41 ∷ 0x42 ∷ []) 1 (omega arith)

-- ---- what the operations answer and leave, case by case

module _ (m : Mode) (k v t out : List ℕ) where
  pub applied-done : length t % 8 ≡ 0 → length t ≤ length out
      → applied m k v t out ≡ record { verdict = Ok tt; vector = mode_vector m k v t; output = onto (mode_text m k v t) out }
  unfolding applied ruled fitting
  applied-done h r = simp (eq-eqb _ _ h, le-leb _ _ r)

  pub applied-length : (length t % 8 ≡ 0 → ⊥) → applied m k v t out ≡ record { verdict = Err BadLength; vector = v; output = out }
  unfolding applied ruled fitting
  applied-length h = simp (ne_eqb _ _ h)

  pub applied_room : length t % 8 ≡ 0 → length out < length t → applied m k v t out ≡ record { verdict = Err NoRoom; vector = v; output = out }
  unfolding applied ruled fitting
  applied_room h r = simp (eq-eqb _ _ h, lt-leb _ _ r)

pub valued-done : (k v t : List ℕ) → (length t ≡ 0 → ⊥) → valued k v t ≡ record { verdict = Ok tt; value = fixity k v t }
unfolding valued
valued-done k v t h = simp (ne_eqb _ _ h)

pub valued_none : (k v t : List ℕ) → length t ≡ 0 → valued k v t ≡ record { verdict = Err BadLength; value = replicate 8 0 }
unfolding valued
valued_none k v t h = simp (eq-eqb _ _ h)

-- ---- the same, of an answer that a contract allows: with whole blocks and room for them, or with a record of some bytes, it is never a refusal

pub apply_done : (m : Mode) (k v t out : List ℕ) {r : Result Vector Misfit} {o : List ℕ} → outcome_of r v o ≡ applied m k v t out
    → length t % 8 ≡ 0 → length t ≤ length out → (r ≡ Ok (record { 0 = mode_vector m k v t })) × (o ≡ onto (mode_text m k v t) out)
apply_done m k v t out {r} {o} e h n = done r (e ∙ applied-done m k v t out h n)
  where
    done : (r : Result Vector Misfit)
        → outcome_of r v o ≡ record { verdict = Ok tt; vector = mode_vector m k v t; output = onto (mode_text m k v t) out }
        → (r ≡ Ok (record { 0 = mode_vector m k v t })) × (o ≡ onto (mode_text m k v t) out)
    done (Ok w) q = (ap (λ (x : Outcome). Ok (record { 0 = x.vector })) q, ap (λ (x : Outcome). x.output) q)
    done (Err x) q = absurd (cc (ap (λ (x : Outcome). x.verdict) q))

pub fixity_done : (k v t : List ℕ) {r : Result (List ℕ) Misfit} → value_of r ≡ valued k v t → (length t ≡ 0 → ⊥) → r ≡ Ok (fixity k v t)
fixity_done k v t {r} e n = done r (e ∙ valued-done k v t n)
  where
    done : (r : Result (List ℕ) Misfit) → value_of r ≡ record { verdict = Ok tt; value = fixity k v t } → r ≡ Ok (fixity k v t)
    done (Ok b) q = ap (λ (x : Value). Ok x.value) q
    done (Err x) q = absurd (cc (ap (λ (x : Value). x.verdict) q))
