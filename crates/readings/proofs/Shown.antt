-- A line shows no more bytes than its command's value has.
use Rattle.std.specs.Prelude.{◌≡◌, Bool, true, false, cond, List, [], ◌∷◌, ℕ, zero, suc, ◌-◌, ◌≤◌, eqb, leb, length, take, drop, Option, Some, None}
use Rattle.std.proofs.Common.{refl, sym, ap, ◌∙◌, subst, arith, length-drop, length-append, eqb-true, leb-true, le-leb}
use Rattle.std.specs.Prelude.{Some}
use Rattle.std.proofs.lemmas.Option.{none-some, same_Some}
use Rattle.std.proofs.lemmas.Bool.{false≢true}
use Rattle.std.proofs.lemmas.Option.{none-some, same_Some}
use Rattle.ground.specs.Search.{by_test}
use Rattle.ground.specs.Lists.{Below}
use Rattle.ground.specs.Rows.{digits, digits-length}
use Rattle.cipher.specs.declared.modes.Mode.{Mode}
use Rattle.cipher.specs.declared.modes.Mode.TheVariants.{Ecbe, Ecbd, Cbce, Cbcd, Cfbe, Cfbd}
use Rattle.cipher.specs.Cipher.{mode_text, onto}
use Rattle.cipher.proofs.Promise.{mode_text-length}
use Rattle.stream.specs.declared.Request.{Request}
use Rattle.stream.specs.declared.Reading.{Reading}
use Rattle.stream.specs.Fields.{Bytes, field}
use Rattle.stream.proofs.FieldLaws.{field-length}
use Rattle.stream.specs.Commands.{Row as Form, commands, arguments_in, arguments_of, blank, decoded}
use Rattle.stream.specs.Grammar.{argument, spelled, Spells}
use Rattle.stream.proofs.Exact.{fits_spells, spells_fits}
use Rattle.rules.specs.Commands.{UserCommand, RAS, LAU, CPW, GDK, LDK, GIV, LIV, EIV, RDK, mode, DAUT, Command, by, EIK, IPW, RPW, logout, refusals, refused, effect, tests}
use Rattle.state.specs.declared.Side.{Side}
use Rattle.rules.specs.World.{World, Own, own, shut_for}
use Rattle.rules.specs.Sides.{mode_side}
use Rattle.rules.specs.Refusals.{bad_blocks, first_of}
use Rattle.rules.specs.Step.{Told, told, number_of, rule, settled, step_by, step}
use Rattle.rules.proofs.Laws.{good_blocks}
use Rattle.facility.specs.Requests.{Row, rows, beside}
use Rattle.properties.specs.Demand1.{holds, written, users_written}
use Rattle.properties.proofs.Demand1.{demand_1}
use Rattle.session.specs.Run.{answer_to}
use Rattle.readings.proofs.Spelled.{spelled_step}
use Rattle.readings.specs.Shown.{shown_in, users_returned, returned, fitting}

taken : (n : ℕ) (xs : Bytes) → length (take n xs) ≤ n
taken zero xs = omega arith
taken (suc n) [] = omega arith
taken (suc n) (x ∷ xs) = let h = taken n xs in omega arith

first-of : (k : ℕ) (xs : Bytes) (n : ℕ) → k ≤ n → length (take k xs) ≤ n
first-of k xs n h = omega (arith, taken k xs)

unless : (b : Bool) → cond b true false ≡ false → b ≡ false
unless true h = h
unless false h = refl

-- where 12 does not hold, the data is whole blocks
whole_blocks : (m : Mode) (u : ℕ) (d : Bytes) (room : ℕ) (shut : Bool) (o : Own)
    → holds 12 (refusals u (mode m d) room shut o) ≡ false → bad_blocks (length d) ≡ false
unfolding refusals
whole_blocks Ecbe u d room shut o h = unless _ h
whole_blocks Ecbd u d room shut o h = unless _ h
whole_blocks Cbce u d room shut o h = unless _ h
whole_blocks Cbcd u d room shut o h = unless _ h
whole_blocks Cfbe u d room shut o h = unless _ h
whole_blocks Cfbd u d room shut o h = unless _ h

-- what the effect of a user's command shows, where no refusal applies
Shows : ℕ → UserCommand → World → Bytes → Type 0
Shows u c w out =
    let after = told (effect u c (own u w)) out in
    (number_of after.answer ≡ 0)
    × (((k : ℕ) → holds k (tests (by u c) w out) ≡ false)
    → (n : ℕ) → users_returned c ≤ n → users_written c ≤ n → length (shown_in after) ≤ n)

effect_shows : (u : ℕ) (c : UserCommand) (w : World) (out : Bytes) → Shows u c w out
unfolding Shows effect tests refusals
effect_shows u (RAS p) w out = (refl, λ z n r t. r)
effect_shows u LAU w out = (refl, λ z n r t. r)
effect_shows u (CPW p x) w out = (refl, λ z n r t. r)
effect_shows u (GDK p i b) w out = (refl, λ z n r t. first-of 8 (told (effect u (GDK p i b) (own u w)) out).block n r)
effect_shows u (LDK p i f b) w out = (refl, λ z n r t. r)
effect_shows u (GIV b) w out = (refl, λ z n r t. first-of 8 (told (effect u (GIV b) (own u w)) out).block n r)
effect_shows u (LIV f b) w out = (refl, λ z n r t. r)
effect_shows u (EIV b) w out = (refl, λ z n r t. first-of 8 (told (effect u (EIV b) (own u w)) out).block n r)
effect_shows u (RDK p i f b) w out = (refl, λ z n r t. first-of 8 (told (effect u (RDK p i f b) (own u w)) out).block n r)
effect_shows u (mode m d) w out =
    let key = side.key.value.0 in
    let vector = side.vector.value.0 in
    let s = mode_text m key vector d in (
      refl,
      λ z n r t.
          let whole = good_blocks (length d) (whole_blocks m u d (length out) (shut_for u w) (own u w) (z 12)) in
          first-of (length s) (onto s out) n (omega (arith, t, mode_text-length m key vector d whole)),
    )
  where
    side : Side
    side = mode_side m (own u w).seat.holdings
effect_shows u (DAUT f d) w out = (refl, λ z n r t. first-of 8 (told (effect u (DAUT f d) (own u w)) out).block n r)

none_shown : (k n : ℕ) (w w' : World) (out : Bytes) → length (shown_in (settled k w out w').answered) ≤ n
none_shown k n w w' out = by_test (eqb k 0) (λ e. rw e (omega arith)) (λ e. rw e (omega arith))

user_shows : (w : World) (u : ℕ) (c : UserCommand) (out : Bytes) (n : ℕ) → users_returned c ≤ n → users_written c ≤ n
    → length (shown_in (step_by w u c out).answered) ≤ n
unfolding Shows rule step
user_shows w u c out n r t =
    let k = first_of (refusals u c (length out) (shut_for u w) (own u w)) in
    let does = effect u c (own u w) in
    let after : Bool → Told = λ b. told (cond b does (refused k)) out in
    let s = effect_shows u c w out in
    let low = (demand_1 w (by u c) out).lowest in
    by_test (eqb k 0)
    (λ e.
    let None = low.none (ap (λ (b : Bool). number_of (after b).answer) e ∙ s.0) in
    subst (λ (b : Bool). length (shown_in (after b)) ≤ n) (sym e) (s.1 None n r t))
    (λ e. subst (λ (b : Bool). length (shown_in (after b)) ≤ n) (sym e) (omega arith))

-- a step shows no more bytes than it returns or writes
shows : (w : World) (c : Command) (out : Bytes) (n : ℕ) → returned c ≤ n → written c ≤ n
    → length (shown_in (step w c out).answered) ≤ n
unfolding step
shows w (by u c) out n r t = user_shows w u c out n r t
shows w (EIK i b) out n r t = none_shown (first_of (tests (EIK i b) w out)) n w _ out
shows w (IPW u p) out n r t = none_shown (first_of (tests (IPW u p) w out)) n w _ out
shows w RPW out n r t = none_shown (first_of (tests RPW w out)) n w _ out
shows w (logout u) out n r t = user_shows w u LAU out n r t

rows_fit : (q : Request) (d : Bytes) → fitting (length d) commands (rows q d) ≡ true
unfolding rows spelled argument blank digits
rows_fit q d =
    let e : leb (length d) (length d) ≡ true = le-leb (length d) (length d) (omega arith) in
    let z : leb 0 (length d) ≡ true = le-leb 0 (length d) (omega arith) in
    simp (e, z)

all_three : (b₁ b₂ b₃ rest : Bool) → cond b₁ (cond b₂ (cond b₃ rest false) false) false ≡ true
    → (b₁ ≡ true) × (b₂ ≡ true) × (b₃ ≡ true) × (rest ≡ true)
all_three false b₂ b₃ rest h = absurd (false≢true h)
all_three true false b₃ rest h = absurd (false≢true h)
all_three true true false rest h = absurd (false≢true h)
all_three true true true rest h = (refl, refl, refl, h)

-- so of the row of one tag
fitted : (t n : ℕ) (ks : List ℕ) (c : Command) (l : List Form) (m : List Row) → fitting n l m ≡ true
    → arguments_in t l ≡ Some ks → beside t m ≡ Some c → (returned c ≤ length (spelled ks (blank 0) [])) × (written c ≤ n)
fitted t n ks c [] m h a b = absurd (none-some ks a)
fitted t n ks c (x ∷ l) [] h a b = absurd (none-some c b)
fitted t n ks c (x ∷ l) (y ∷ m) h a b =
    let size = length (spelled x.arguments (blank 0) []) in
    let p = all_three (eqb x.tag y.tag) (leb (returned y.command) size) (leb (written y.command) n) (fitting n l m) h in
    let tags : x.tag ≡ y.tag = eqb-true x.tag y.tag p.0 in
    by_test (eqb t y.tag)
    (λ e.
    let args : x.arguments ≡ ks = same_Some x.arguments ks (rw (tags, e) at a) in
    let command : y.command ≡ c = same_Some y.command c (rw e at b) in
    rw (← args, ← command) (leb-true (returned y.command) size p.1, leb-true (written y.command) n p.2))
    (λ e. fitted t n ks c l m p.3 (rw (tags, e) at a) (rw e at b))

-- a field of any request is no shorter than the same field of the blank one
no_shorter : (k : ℕ) (a : Request) (d : Bytes) → (length a.block ≡ 8) × (length a.second ≡ 8)
    → length (argument k (blank 0) []) ≤ length (argument k a d)
unfolding argument blank
no_shorter k a d e =
    by_test (eqb k 0x81) (λ h. rw h (omega (arith, digits-length 256 4 0, digits-length 256 4 a.issuer))) (λ h₁.
    by_test (eqb k 0x82) (λ h. rw (h₁, h) (omega (arith, digits-length 256 4 0, digits-length 256 4 a.party))) (λ h₂.
    by_test (eqb k 0x83) (λ h. rw (h₁, h₂, h) (omega arith)) (λ h₃.
    by_test (eqb k 0x84) (λ h. rw (h₁, h₂, h₃, h) (omega arith)) (λ h₄.
    by_test (eqb k 0x85) (λ h. rw (h₁, h₂, h₃, h₄, h) (omega (arith, e.0))) (λ h₅.
    by_test (eqb k 0x86) (λ h. rw (h₁, h₂, h₃, h₄, h₅, h) (omega (arith, e.1))) (λ h₆.
    by_test (eqb k 0x87)
    (λ h. rw (h₁, h₂, h₃, h₄, h₅, h₆, h) (omega arith))
    (λ h. rw (h₁, h₂, h₃, h₄, h₅, h₆, h) (omega arith))))))))

all_no_shorter : (ks : List ℕ) (a : Request) (d : Bytes) → (length a.block ≡ 8) × (length a.second ≡ 8)
    → length (spelled ks (blank 0) []) ≤ length (spelled ks a d)
unfolding spelled
all_no_shorter [] a d e = omega arith
all_no_shorter (k ∷ ks) a d e =
    let one = no_shorter k a d e in
    let rest = all_no_shorter ks a d e in
    let b = argument k (blank 0) [] in
    let v = argument k a d in
    let low = length-append (field k b) (spelled ks (blank 0) []) in
    let high = length-append (field k v) (spelled ks a d) in
    rw (low, high, field-length k b, field-length k v) (omega arith)

-- ---- an answer

-- a line shows no more bytes than the value has
pub shows_no_more : (w : World) (t : ℕ) (v out : Bytes) → Below 256 v
    → length (shown_in (answer_to w t v out).answered) ≤ length v
unfolding answer_to arguments_of
shows_no_more w t v out bytes =
    by_reading (decoded t v) refl
  where
    spelt : (a : Request) (d : Bytes) → Spells t v a d → length (shown_in (answer_to w t v out).answered) ≤ length v
    spelt a d h =
        let c = spelled_step w t v out a d h in
        let known = ap arguments_of h.tagged ∙ h.known in
        let f = fitted a.tag (length d) h.arguments c.0 commands (rows a d) (rows_fit a d) known c.1 in
        let size : length v ≡ length (spelled h.arguments a d) = ap length h.value in
        let read = spells_fits t v a d h in
        let data-size : length d ≡ length v - read.0.text = ap length (sym read.3) ∙ length-drop read.0.text v in
        rw c.2 (shows w c.0 out (length v) (omega (arith, f.0, all_no_shorter h.arguments a d h.eight)) (omega (arith, f.1)))

    by_reading : (o : Option Reading) → decoded t v ≡ o → length (shown_in (answer_to w t v out).answered) ≤ length v
    by_reading None e = rw e (omega arith)
    by_reading (Some r) e = spelt r.asked (drop r.text v) (fits_spells t v bytes r e)
