-- A command's fields by its form, with 0 for no argument, and their sizes: definitions and laws as they stood.
-- The code is proved without them.
use Rattle.std.specs.Prelude.{◌≡◌, Bool, true, false, cond, List, [], ◌∷◌, ◌++◌, ℕ, zero, suc, ◌+◌, ◌≤◌, ◌<◌, eqb, leb, length, get_or, take, drop, Option, None, Some}
use Rattle.std.proofs.Common.{refl, sym, ap, ap₂, ◌∙◌, le_of_suc-le-suc, not-suc-le-zero, add-one, arith, drop_of_length-le, drop-cons, take_all, length-take-le, length-append, eqb-true, ne_eqb, lt-ltb, le-ltb, leb-true, leb-false}
use Rattle.ground.specs.Lists.{padded}
use Rattle.ground.specs.Rows.{digits, digits-length}
use Rattle.ground.specs.Search.{by_test}
use Rattle.printout.specs.Page.{Page, entered, then, two}
use Rattle.stream.specs.declared.Request.{Request}
use Rattle.stream.specs.Fields.{Bytes, field}
use Rattle.stream.proofs.FieldLaws.{field-length}
use Rattle.stream.specs.Commands.{arguments_of}
use Rattle.stream.specs.Grammar.{argument, spelled}
use Rattle.stream.specs.GrammarLaws.{ascending}
use Rattle.stream.proofs.GrammarLaws.{above, later, arguments_ordered}
use Rattle.stream.proofs.Kept.{Form, form_of}
use Rattle.encoder.specs.Encoded.{encoded_with, encoded}
use Rattle.encoder.specs.Written.{one_size, all_sizes}
use Rattle.encoder.proofs.ByForm.{pick_size}
use Rattle.encoder.proofs.Kept.{at_most}

-- the field of the argument k
unfoldable pub one_field : ℕ → Request → Bytes → Bytes
one_field k a d = cond (eqb k 0) [] (field k (argument k a d))

unfoldable pub all_fields : List ℕ → Request → Bytes → Bytes
all_fields [] a d = []
all_fields (k ∷ ks) a d = one_field k a d ++ all_fields ks a d

-- the length of that field, with n bytes of data: three bytes, and the argument's own
unfoldable pub one_size_before : ℕ → ℕ → ℕ
one_size_before k n =
    cond (eqb k 0) 0
    (cond (eqb k 0x81) 7
    (cond (eqb k 0x82) 7
    (cond (eqb k 0x83) 4
    (cond (eqb k 0x84) 4
    (cond (eqb k 0x85) 11
    (cond (eqb k 0x86) 11
    (cond (eqb k 0x87) (3 + n) 3)))))))

unfoldable pub all_sizes_before : List ℕ → ℕ → ℕ
all_sizes_before [] n = 0
all_sizes_before (k ∷ ks) n = one_size_before k n + all_sizes_before ks n

-- that of an unknown tag counts as too long
unfoldable pub form_size : Form → ℕ → ℕ
form_size f n = cond f.known (all_sizes_before f.arguments n) 65536

-- ---- one argument more, as a loop puts and counts them

pub fields_step_before : (ks : List ℕ) (a : Request) (d : Bytes) (i : ℕ) (p : Page) → i < length ks
    → entered (all_fields (drop i ks) a d) p
    ≡ entered (all_fields (drop (i + 1) ks) a d) (entered (one_field (get_or ks i 0) a d) p)
unfolding all_fields
fields_step_before ks a d i p h =
    rw (add-one, drop-cons ks i 0 h) (then (one_field (get_or ks i 0) a d) (all_fields (drop (suc i) ks) a d) p)

pub fields_end_before : (ks : List ℕ) (a : Request) (d : Bytes) (i : ℕ) (p : Page) → length ks ≤ i
    → entered (all_fields (drop i ks) a d) p ≡ p
unfolding all_fields entered
fields_end_before ks a d i p h = rw drop_of_length-le

pub sizes_step_before : (ks : List ℕ) (n i m : ℕ) → i < length ks
    → m + all_sizes_before (drop i ks) n
    ≡ m + one_size_before (get_or ks i 0) n + all_sizes_before (drop (i + 1) ks) n
unfolding all_sizes_before
sizes_step_before ks n i m h = rw (add-one, drop-cons ks i 0 h) (omega arith)

pub sizes_end_before : (ks : List ℕ) (n i m : ℕ) → length ks ≤ i → m + all_sizes_before (drop i ks) n ≡ m
unfolding all_sizes_before
sizes_end_before ks n i m h = rw drop_of_length-le (omega arith)

pub size_most_before : (k n : ℕ) → one_size_before k n ≤ 11 + n
unfolding one_size_before
size_most_before k n =
    at_most (11 + n) (eqb k 0) _ _ (omega arith) (
    at_most (11 + n) (eqb k 0x81) _ _ (omega arith) (
    at_most (11 + n) (eqb k 0x82) _ _ (omega arith) (
    at_most (11 + n) (eqb k 0x83) _ _ (omega arith) (
    at_most (11 + n) (eqb k 0x84) _ _ (omega arith) (
    at_most (11 + n) (eqb k 0x85) _ _ (omega arith) (
    at_most (11 + n) (eqb k 0x86) _ _ (omega arith) (
    at_most (11 + n) (eqb k 0x87) _ _ (omega arith) (omega arith))))))))

-- ---- the size of a command's value, of whose data at most 65536 bytes are counted

abbrev pub size_by : List ℕ → Bytes → ℕ
size_by ks d = all_sizes_before ks (length (take 65536 d))

-- ---- the argument fields, without those that are none

none_there : (n : ℕ) (a : Request) (d : Bytes) → all_fields (padded n []) a d ≡ []
unfolding padded all_fields one_field
none_there zero a d = refl
none_there (suc n) a d = none_there n a d

some_there : (n m : ℕ) (ks : List ℕ) (a : Request) (d : Bytes) → ascending m ks ≡ true → length ks ≤ n
    → all_fields (padded n ks) a d ≡ spelled ks a d
unfolding padded all_fields one_field spelled
some_there n m [] a d h l = none_there n a d
some_there zero m (k ∷ ks) a d h l = absurd (not-suc-le-zero l)
some_there (suc n) m (k ∷ ks) a d h l =
    let up = above m k ks h in
    let rest = some_there n k ks a d (later m k ks h) (le_of_suc-le-suc l) in
    rw (ne_eqb k 0 (λ e. omega arith)) (ap (λ (r : Bytes). field k (argument k a d) ++ r) rest)

-- ---- their lengths

none_or : (b : Bool) (v : Bytes) (n : ℕ) → length v ≡ n → length (cond b [] v) ≡ cond b 0 n
none_or true v n e = refl
none_or false v n e = e

module _ (a : Request) (d : Bytes) (eight : (length a.block ≡ 8) × (length a.second ≡ 8)) where
  one_length_before : (k : ℕ) → length (one_field k a d) ≡ one_size_before k (length d)
  unfolding one_field one_size_before argument
  one_length_before k =
      none_or (eqb k 0) (field k (argument k a d)) _
      (field-length k (argument k a d) ∙
      pick_size (eqb k 0x81) _ _ _ _ (ap (λ (n : ℕ). 3 + n) (digits-length 256 4 a.issuer)) (
      pick_size (eqb k 0x82) _ _ _ _ (ap (λ (n : ℕ). 3 + n) (digits-length 256 4 a.party)) (
      pick_size (eqb k 0x83) _ _ _ _ refl (
      pick_size (eqb k 0x84) _ _ _ _ refl (
      pick_size (eqb k 0x85) _ _ _ _ (ap (λ (n : ℕ). 3 + n) eight.0) (
      pick_size (eqb k 0x86) _ _ _ _ (ap (λ (n : ℕ). 3 + n) eight.1) (
      pick_size (eqb k 0x87) _ _ _ _ refl refl)))))))

  all_length_before : (ks : List ℕ) → length (all_fields ks a d) ≡ all_sizes_before ks (length d)
  unfolding all_fields all_sizes_before
  all_length_before [] = refl
  all_length_before (k ∷ ks) =
      length-append (one_field k a d) (all_fields ks a d)
      ∙ ap₂ (λ (m n : ℕ). m + n) (one_length_before k) (all_length_before ks)

-- ---- of too much data, how much does not matter

module _ (m n : ℕ) (h : 65536 ≤ m) where
  one_same : (k : ℕ) → one_size_before k m < 65536 → one_size_before k n ≡ one_size_before k m
  unfolding one_size_before
  one_same k l =
      by_test (eqb k 0x87)
      (λ e. let z : 3 + m < 65536 = rw (eqb-true k 0x87 e) at l in absurd (omega arith))
      (λ e. rw e)

  all_same : (ks : List ℕ) → all_sizes_before ks m < 65536 → all_sizes_before ks n ≡ all_sizes_before ks m
  unfolding all_sizes_before
  all_same [] l = refl
  all_same (k ∷ ks) l = ap₂ (λ (x y : ℕ). x + y) (one_same k (omega arith)) (all_same ks (omega arith))

-- the data as it is counted is the data, or both are too much
counting : (P : ℕ → ℕ → Type 0) (d : Bytes) → ((n : ℕ) → P n n) → ((m n : ℕ) → 65536 ≤ m → 65536 ≤ n → P m n)
    → P (length (take 65536 d)) (length d)
counting P d same much =
    by_test (leb (length d) 65536)
    (λ e. rw (take_all 65536 d (leb-true (length d) 65536 e)) (same (length d)))
    (λ e.
    let l = leb-false (length d) 65536 e in
    let most = length-take-le 65536 d (omega arith) in
    much (length (take 65536 d)) (length d) (omega (arith, most)) (omega arith))

module _ (ks : List ℕ) (d : Bytes) where
  counted_before : all_sizes_before ks (length (take 65536 d)) < 65536
      → all_sizes_before ks (length d) ≡ all_sizes_before ks (length (take 65536 d))
  counted_before =
      counting (λ (m n : ℕ). all_sizes_before ks m < 65536 → all_sizes_before ks n ≡ all_sizes_before ks m) d
      (λ n l. refl)
      (λ m n h k l. all_same m n h ks l)

  too_long_before : 65536 ≤ all_sizes_before ks (length (take 65536 d)) → 65536 ≤ all_sizes_before ks (length d)
  too_long_before =
      counting (λ (m n : ℕ). 65536 ≤ all_sizes_before ks m → 65536 ≤ all_sizes_before ks n) d (λ n l. l)
      (λ m n h k l.
      by_test (leb 65536 (all_sizes_before ks n))
      (λ e. leb-true 65536 (all_sizes_before ks n) e)
      (λ e. let short = leb-false 65536 (all_sizes_before ks n) e in absurd (omega (arith, all_same n m k ks short))))

module _ (a : Request) (d : Bytes) (eight : (length a.block ≡ 8) × (length a.second ≡ 8)) where
  -- the command's bytes, as they are put
  abbrev put : ℕ → List ℕ → Bytes
  put n ks = (a.tag ∷ digits 256 2 n) ++ all_fields ks a d

  module _ (ks : List ℕ) (known : arguments_of a.tag ≡ Some ks) where
    fields : all_fields (padded 5 ks) a d ≡ spelled ks a d
    fields = let o = arguments_ordered a.tag ks known in some_there 5 0x80 ks a d o.0 o.1

    value_length : length (spelled ks a d) ≡ all_sizes_before (padded 5 ks) (length d)
    value_length = ap length (sym fields) ∙ all_length_before a d eight (padded 5 ks)

    short_with : size_by (padded 5 ks) d < 65536
        → encoded_with a d (Some ks) ≡ put (size_by (padded 5 ks) d) (padded 5 ks)
    short_with l =
        let n : length (spelled ks a d) ≡ size_by (padded 5 ks) d = value_length ∙ counted_before (padded 5 ks) d l in
        let short = lt-ltb (length (spelled ks a d)) 65536 (omega (arith, n)) in
        ap (λ (b : Bool). cond b (field a.tag (spelled ks a d)) []) short
        ∙ ap₂ (λ (m : ℕ) (v : Bytes). (a.tag ∷ digits 256 2 m) ++ v) n (sym fields)

    long_with : 65536 ≤ size_by (padded 5 ks) d → encoded_with a d (Some ks) ≡ []
    long_with l =
        let n = too_long_before (padded 5 ks) d l in
        let long = le-ltb (length (spelled ks a d)) 65536 (omega (arith, value_length, n)) in
        ap (λ (b : Bool). cond b (field a.tag (spelled ks a d)) []) long

  nothing : 65536 ≤ form_size (form_of a.tag) (length (take 65536 d)) → encoded a d ≡ []
  unfolding form_size form_of encoded
  nothing l = go (arguments_of a.tag) refl
    where
      go : (o : Option (List ℕ)) → arguments_of a.tag ≡ o → encoded_with a d (arguments_of a.tag) ≡ []
      go None e = rw e
      go (Some ks) e = rw e (long_with ks e (rw e at l))

  whole_before : form_size (form_of a.tag) (length (take 65536 d)) < 65536
      → encoded a d ≡ put (form_size (form_of a.tag) (length (take 65536 d))) (form_of a.tag).arguments
  unfolding form_size form_of encoded
  whole_before l = go (arguments_of a.tag) refl
    where
      go : (o : Option (List ℕ)) → arguments_of a.tag ≡ o
          → encoded_with a d (arguments_of a.tag)
          ≡ put (form_size (form_of a.tag) (length (take 65536 d))) (form_of a.tag).arguments
      go None e = let z : 65536 < 65536 = rw e at l in absurd (omega arith)
      go (Some ks) e = rw e (short_with ks e (rw e at l))

-- ---- the same, as the code comes to it: the form f, the data x that it counts, the size n

module _ (a : Request) (d x : Bytes) (f : Form) (n : ℕ) (eight : (length a.block ≡ 8) × (length a.second ≡ 8))
    (form : f ≡ form_of a.tag) (data_is : x ≡ take 65536 d) (size : n ≡ form_size f (length x)) where
  same_size : n ≡ form_size (form_of a.tag) (length (take 65536 d))
  same_size = size ∙ ap₂ (λ (g : Form) (y : Bytes). form_size g (length y)) form data_is

  pub put_nothing : (p : Page) → 65536 ≤ n → p ≡ entered (encoded a d) p
  unfolding entered
  put_nothing p l = rw (nothing a d eight (omega (arith, same_size)))

  pub put_whole : (p q r : Page) → n < 65536 → q ≡ entered (a.tag ∷ digits 256 2 n) p
      → r ≡ entered (all_fields f.arguments a d) q → r ≡ entered (encoded a d) p
  put_whole p q r l e e' =
      two (a.tag ∷ digits 256 2 n) (all_fields f.arguments a d) p q r e' e
      ∙ ap₂ (λ (m : ℕ) (g : Form). entered ((a.tag ∷ digits 256 2 m) ++ all_fields g.arguments a d) p) same_size form
      ∙ ap (λ (y : Bytes). entered y p) (sym (whole_before a d eight (omega (arith, same_size))))

-- ---- today's sizes, which know no zeros, are these

none_sized : (n x : ℕ) → all_sizes_before (padded n []) x ≡ 0
unfolding padded all_sizes_before one_size_before
none_sized zero x = refl
none_sized (suc n) x = omega (arith, none_sized n x)

pub same_one : (k x : ℕ) → 0 < k → one_size_before k x ≡ one_size k x
unfolding one_size_before one_size
same_one k x h = rw (ne_eqb k 0 (λ e. omega (arith, h, e)))

pub same_sizes : (n m : ℕ) (ks : List ℕ) (x : ℕ) → ascending m ks ≡ true → length ks ≤ n
    → all_sizes_before (padded n ks) x ≡ all_sizes ks x
unfolding padded all_sizes_before all_sizes
same_sizes n m [] x h l = none_sized n x
same_sizes zero m (k ∷ ks) x h l = absurd (not-suc-le-zero l)
same_sizes (suc n) m (k ∷ ks) x h l =
    let up = above m k ks h in
    let rest = same_sizes n k ks x (later m k ks h) (le_of_suc-le-suc l) in
    ap₂ (λ (y z : ℕ). y + z) (same_one k x (omega arith)) rest

module _ (t x : ℕ) where
  pub same_form : (ks : List ℕ) → arguments_of t ≡ Some ks → form_size (form_of t) x ≡ all_sizes ks x
  unfolding form_size form_of
  same_form ks e = let o = arguments_ordered t ks e in rw e (same_sizes 5 0x80 ks x o.0 o.1)

  pub no_form : arguments_of t ≡ None → form_size (form_of t) x ≡ 65536
  unfolding form_size form_of
  no_form e = rw e
