-- A command's value, read with a mark for what fits and 0 for an argument that it lacks: it says what it says today.
use Rattle.std.specs.Prelude.{◌≡◌, Bool, true, false, cond, List, [], ◌∷◌, ℕ, zero, suc, ◌+◌, ◌-◌, ◌≤◌, ◌<◌, eqb, length, get_or, drop, replicate, Option, Some, None, option_and_then}
use Rattle.std.proofs.Common.{refl, sym, ap, ◌∙◌, add-one, drop_of_length-le, drop-cons, eqb-true, eq-eqb, ne_eqb, le_of_suc-le-suc, not-suc-le-zero, arith}
use Rattle.std.proofs.lemmas.Bool.{false≢true}
use Rattle.ground.specs.Search.{by_test}
use Rattle.ground.specs.Lists.{padded}
use Rattle.stream.specs.declared.Field.{Field}
use Rattle.stream.specs.declared.Field.TheVariants.{Whole, Cut, End}
use Rattle.stream.specs.declared.Request.{Request}
use Rattle.stream.specs.declared.Reading.{Reading}
use Rattle.stream.specs.Fields.{Bytes, part, field_at}
use Rattle.stream.specs.Commands.{arguments_of, blank, filled, is_argument, begun, took, read_all, ended, decoded}
use Rattle.stream.specs.GrammarLaws.{ascending}
use Rattle.stream.proofs.GrammarLaws.{above, up_to, later, arguments_ordered}
use Rattle.stream.proofs.RequestLaws.{each}

-- ---- the definitions, as they were

pub record Form : Type 0 where
  pub known : Bool
  pub arguments : List ℕ

abbrev pub form_for : Option (List ℕ) → Form
form_for None = record { known = false; arguments = replicate 5 0 }
form_for (Some ks) = record { known = true; arguments = padded 5 ks }

unfoldable pub form_of : ℕ → Form
form_of t = form_for (arguments_of t)

pub record Tried : Type 0 where
  pub fits : Bool
  pub at : ℕ
  pub text : ℕ
  pub asked : Request

unfoldable pub begun_before : Bool → ℕ → Tried
begun_before known t = record { fits = known; at = 0; text = 0; asked = blank t }

-- the argument k, where it is what stands next; else the value is no command's
unfoldable pub took_before : Bytes → Tried → ℕ → Field → Tried
took_before v r k (Whole tag start end) =
    cond (is_argument k tag (end - start))
    (record { fits = true; at = end; text = cond (eqb k 0x87) start end; asked = filled k (part start end v) r.asked })
    (begun_before false r.asked.tag)
took_before v r k (Cut tag) = begun_before false r.asked.tag
took_before v r k End = begun_before false r.asked.tag

unfoldable pub read_one : Bytes → Tried → ℕ → Tried
read_one v r k = cond (eqb k 0) r (cond r.fits (took_before v r k (field_at v r.at)) r)

unfoldable pub read_all_before : Bytes → Tried → List ℕ → Tried
read_all_before v r [] = r
read_all_before v r (k ∷ ks) = read_all_before v (read_one v r k) ks

-- nothing else is in the value
unfoldable pub ended_before : ℕ → ℕ → Tried → Tried
ended_before t n r = cond (eqb r.at n) r (begun_before false t)

unfoldable pub decoded_before : ℕ → Bytes → Tried
decoded_before t v =
    ended_before t (length v) (read_all_before v (begun_before (form_of t).known t) (form_of t).arguments)

-- ---- their laws

-- the form of what the code gives for a tag today
pub form_given : (t : ℕ) (o : Option (List ℕ)) → o ≡ arguments_of t → form_for o ≡ form_of t
unfolding form_of
form_given t o e = ap form_for e

-- each of the arguments in turn
pub read_step : (v : Bytes) (r : Tried) (ks : List ℕ) (i : ℕ) → i < length ks
    → read_all_before v r (drop i ks) ≡ read_all_before v (read_one v r (get_or ks i 0)) (drop (i + 1) ks)
unfolding read_all_before
read_step v r ks i h = rw (add-one, drop-cons ks i 0 h)

pub read_end : (v : Bytes) (r : Tried) (ks : List ℕ) (i : ℕ) → length ks ≤ i → read_all_before v r (drop i ks) ≡ r
unfolding read_all_before
read_end v r ks i h = rw drop_of_length-le

module _ (v : Bytes) (r : Tried) (k : ℕ) (low : 0x80 < k) (fit : r.fits ≡ true) where
  pub read-field : read_one v r k ≡ took_before v r k (field_at v r.at)
  unfolding read_one
  read-field = rw (ne_eqb k 0 (λ e. omega arith), fit)

-- no value that failed fits again
pub stuck : (v : Bytes) (ks : List ℕ) (r : Tried) → r.fits ≡ false → (read_all_before v r ks).fits ≡ false
unfolding read_all_before read_one
stuck v [] r h = h
stuck v (k ∷ ks) r h = stuck v ks (read_one v r k) (by_test (eqb k 0) (λ e. rw (e, h)) (λ e. rw (e, h)))

pub fit_before : (v : Bytes) (ks : List ℕ) (r : Tried) → (read_all_before v r ks).fits ≡ true → r.fits ≡ true
fit_before v ks r h = by_test r.fits (λ e. e) (λ e. absurd (false≢true (sym (stuck v ks r e) ∙ h)))

-- zeros are passed over
pub read-padded : (v : Bytes) (r : Tried) (n : ℕ) (ks : List ℕ) → length ks ≤ n
    → read_all_before v r (padded n ks) ≡ read_all_before v r ks
unfolding read_all_before read_one padded
read-padded v r zero [] h = refl
read-padded v r zero (k ∷ ks) h = absurd (not-suc-le-zero h)
read-padded v r (suc n) [] h = read-padded v r n [] (omega arith)
read-padded v r (suc n) (k ∷ ks) h = read-padded v (read_one v r k) n ks (le_of_suc-le-suc h)

-- what fits has been read to its end
pub ended_at : (t n : ℕ) (r : Tried) → (ended_before t n r).fits ≡ true → r.at ≡ n
unfolding ended_before begun_before
ended_at t n r h = by_test (eqb r.at n) (λ e. eqb-true r.at n e) (λ e. absurd (false≢true (rw e at h)))

pub ended_is : (t n : ℕ) (r : Tried) → r.at ≡ n → ended_before t n r ≡ r
unfolding ended_before
ended_is t n r e = rw (eq-eqb r.at n e)

-- a tag of no command has no value
module _ (t : ℕ) (v : Bytes) where
  pub decoded_none : arguments_of t ≡ None → decoded t v ≡ None
  unfolding decoded
  decoded_none e = rw e refl

  pub decoded_none_before : arguments_of t ≡ None → (decoded_before t v).fits ≡ false
  unfolding decoded_before form_of ended_before begun_before
  decoded_none_before e =
      let nothing : List ℕ = replicate 5 0 in
      let failed = begun_before false t in
      rw e
      (by_test (eqb (read_all_before v failed nothing).at (length v))
      (λ b. rw b (stuck v nothing failed refl))
      (λ b. rw b))

-- ---- what they gave is what today's give

abbrev pub tried : ℕ → Option Reading → Tried
tried t None = begun_before false t
tried t (Some r) = record { fits = true; at = r.at; text = r.text; asked = r.asked }

module _ (t : ℕ) (v : Bytes) where
  failed : (ks : List ℕ) → read_all_before v (begun_before false t) ks ≡ begun_before false t
  unfolding read_all_before read_one begun_before
  failed [] = refl
  failed (k ∷ ks) = by_test (eqb k 0) (λ e. rw e (failed ks)) (λ e. rw e (failed ks))

  -- a command keeps its tag, and each argument is taken alike
  same_read : (n : ℕ) (ks : List ℕ) (r : Reading) → 0x80 ≤ n → ascending n ks ≡ true → r.asked.tag ≡ t
      → read_all_before v (tried t (Some r)) ks ≡ tried t (read_all v r ks)
  unfolding read_all_before read_one read_all took_before took filled
  same_read n [] r base up e = refl
  same_read n (k ∷ ks) r base up e =
      let low : 0x80 < k = let u = above n k ks up in omega arith in
      let high = up_to n k ks up in
      let kept = λ (b : Bytes). each (λ (m : ℕ). (filled m b r.asked).tag ≡ t) e e e e e e e k low high in
      let next = λ (q : Reading). same_read k ks q (omega arith) (later n k ks up) in
      let Same = λ (f : Field).
      read_all_before v (took_before v (tried t (Some r)) k f) ks
      ≡ tried t (option_and_then (λ q. read_all v q ks) (took v r k f)) in
      rw (ne_eqb k 0 (λ h. omega arith)) (elim (field_at v r.at) as Same [
        | Whole tag start end ↦
            by_test (is_argument k tag (end - start)) (λ h. rw h (next _ (kept _))) (λ h. rw (h, e) (failed ks))
        | Cut tag ↦ rw e (failed ks)
        | End ↦ rw e (failed ks)
      ])

  same_form : (o : Option (List ℕ)) → arguments_of t ≡ o
      → read_all_before v (begun_before (form_for o).known t) (form_for o).arguments
      ≡ tried t (option_and_then (read_all v (begun t)) o)
  unfolding begun_before blank
  same_form None e = failed (replicate 5 0)
  same_form (Some ks) e =
      let x = arguments_ordered t ks e in
      read-padded v (begun_before true t) 5 ks x.1 ∙ same_read 0x80 ks (begun t) (omega arith) x.0 refl

  same_end : (n : ℕ) (o : Option Reading) → ended_before t n (tried t o) ≡ tried t (option_and_then (ended n) o)
  unfolding ended_before
  same_end n None = by_test (eqb (begun_before false t).at n) (λ e. rw e) (λ e. rw e)
  same_end n (Some r) = by_test (eqb r.at n) (λ e. rw e) (λ e. rw e)

-- what the definition gave before is what it gives today
pub as_before : (t : ℕ) (v : Bytes) → decoded_before t v ≡ tried t (decoded t v)
unfolding decoded_before form_of decoded
as_before t v =
    let read = option_and_then (read_all v (begun t)) (arguments_of t) in
    ap (ended_before t (length v)) (same_form t v (arguments_of t) refl) ∙ same_end t v (length v) read

-- so what did not fit is nothing today
pub unfit_none : (t : ℕ) (v : Bytes) → (decoded_before t v).fits ≡ false → decoded t v ≡ None
unfit_none t v h = go (decoded t v) (ap (λ (x : Tried). x.fits) (sym (as_before t v)) ∙ h)
  where
    go : (o : Option Reading) → (tried t o).fits ≡ false → o ≡ None
    go None f = refl
    go (Some r) f = absurd (false≢true (sym f))
