-- A command's value, read argument by argument: what fits is spelled, and what is spelled fits.
use Rattle.std.specs.Prelude.{◌≡◌, Bool, false, true, cond, List, [], ◌∷◌, ◌++◌, ℕ, ◌+◌, ◌-◌, ◌≤◌, ◌<◌, eqb, length, drop, Some}
use Rattle.std.proofs.Common.{refl, sym, ap, ap₂, ◌∙◌, subst, append_assoc, length-drop, eqb-true, eq-eqb, ne_eqb, arith}
use Rattle.std.proofs.lemmas.Bool.{eqb-false}
use Rattle.std.proofs.lemmas.Option.{none-some, same_Some, cond_some, option_and_then_some}
use Rattle.ground.specs.Search.{by_test}
use Rattle.ground.specs.Lists.{Below}
use Rattle.stream.specs.declared.Field.{Field}
use Rattle.stream.specs.declared.Field.TheVariants.{Whole, Cut, End}
use Rattle.stream.specs.declared.Request.{Request}
use Rattle.stream.specs.declared.Reading.{Reading}
use Rattle.stream.specs.Fields.{Bytes, field, part, field_at, part_length, within}
use Rattle.stream.proofs.FieldLaws.{part_none, part_bytes, whole_is_field, whole_short, field_is_whole, field_value, field_rest}
use Rattle.stream.specs.Commands.{has_size, is_argument, argument_is, took, read_all}
use Rattle.stream.specs.Grammar.{argument, spelled, among}
use Rattle.stream.specs.RequestLaws.{Sound}
use Rattle.stream.proofs.RequestLaws.{own, other, stays_sound, sized, in_bytes, short_argument, no_data}
use Rattle.stream.specs.GrammarLaws.{ascending}
use Rattle.stream.proofs.GrammarLaws.{neither, above, up_to, later, not-among}
use Rattle.stream.specs.ReadLaws.{said, tells, taken, Read, Done}

module _ (v : Bytes) (r : Reading) (k : ℕ) where
  read_whole : (s e : ℕ) → field_at v r.at ≡ Whole k s e → has_size k (e - s) ≡ true
      → took v r k (field_at v r.at) ≡ Some (taken v r k s e)
  unfolding took is_argument
  read_whole s e f size = rw (f, eq-eqb k k refl, size)

  -- what is read is a whole field
  abbrev WholeField : Type 0
  WholeField = (s : ℕ) × (e : ℕ) × (field_at v r.at ≡ Whole k s e) × (has_size k (e - s) ≡ true)

  fits_whole : (q : Reading) (f : Field) → field_at v r.at ≡ f → took v r k f ≡ Some q → WholeField
  unfolding took
  fits_whole q (Whole tag s e) f h =
      let x : is_argument k tag (e - s) ≡ true = (cond_some _ _ _ h).0 in
      let y = argument_is k tag (e - s) x in
      (s, e, f ∙ ap (λ (n : ℕ). Whole n s e) y.0, y.1)
  fits_whole q (Cut tag) f h = absurd (none-some q h)
  fits_whole q End f h = absurd (none-some q h)

module _ (v : Bytes) (r : Reading) (k s e : ℕ) (low : 0x80 < k) (high : k ≤ 0x87) where
  next-blank : k < 0x87 → said v (taken v r k s e) ≡ []
  next-blank h = ap (λ (b : Bool). part (cond b s e) e v) (ne_eqb k 0x87 (λ q. omega arith)) ∙ part_none e v

  -- it says what it said of every other field
  next_other : (j : ℕ) → eqb j k ≡ false → (k < 0x87 → said v r ≡ []) → tells v (taken v r k s e) j ≡ tells v r j
  next_other j n z =
      other k low high (part s e v) r.asked (said v (taken v r k s e)) j n
      ∙ by_test (eqb k 0x87)
      (λ q.
      let apart = subst (λ (m : ℕ). eqb j m ≡ false) (eqb-true k 0x87 q) n in
      no_data j r.asked (said v (taken v r k s e)) (said v r) apart)
      (λ q.
      let h : k < 0x87 = omega (arith, eqb-false k 0x87 q) in
      ap (argument j r.asked) (next-blank h ∙ sym (z h)))

  module _ (size : has_size k (length (part s e v)) ≡ true) (bytes : k < 0x83 → Below 256 (part s e v)) where
    next-own : tells v (taken v r k s e) k ≡ part s e v
    next-own =
        own k low high (part s e v) r.asked (said v (taken v r k s e)) size bytes
        (λ q. ap (λ (b : Bool). part (cond b s e) e v) (eq-eqb k 0x87 q))

module _ (t : ℕ) (v : Bytes) (all-bytes : Below 256 v) where
  -- one field more before those read
  module _ (n k : ℕ) (ks : List ℕ) (r : Reading) (s e : ℕ)
      (base : 0x80 ≤ n) (up : ascending n (k ∷ ks) ≡ true) (clear : n < 0x87 → said v r ≡ [])
      (whole : field_at v r.at ≡ Whole k s e) (size : has_size k (e - s) ≡ true) where
    low : 0x80 < k
    low = let u = above n k ks up in omega arith

    length-fits : has_size k (length (part s e v)) ≡ true
    length-fits = let w = within v r.at k s e whole in ap (has_size k) (part_length s e v w.1 w.2) ∙ size

    step_sound : Sound t r.asked → Sound t (taken v r k s e).asked
    step_sound c =
        stays_sound k low (up_to n k ks up) t (part s e v) r.asked length-fits (λ h. part_bytes s e v all-bytes) c

    step_short : length (said v (taken v r k s e)) < 65536
    step_short =
        by_test (eqb k 0x87)
        (λ q. rw q (whole_short v r.at k s e all-bytes whole))
        (λ q. rw (q, part_none e v) (omega arith))

    before : (q : Reading) → Read t v ks (taken v r k s e) q → Read t v (k ∷ ks) r q
    unfolding spelled among
    before q read =
        let high = up_to n k ks up in
        let own-value = next-own v r k s e low high length-fits (λ h. part_bytes s e v all-bytes) in
        let apart = not-among k ks k (later n k ks up) (omega arith) in
        let mine : tells v q k ≡ part s e v = read.others k apart ∙ own-value in
        record {
          bytes = whole_is_field v r.at k s e all-bytes whole
              ∙ ap₂ (λ (x y : Bytes). field k x ++ y) (sym mine) read.bytes
              ∙ sym (append_assoc (field k (tells v q k)) (spelled ks q.asked (said v q)) (drop q.at v));
          others = λ j x.
              let y = neither (eqb j k) (among j ks) x in
              let u = above n k ks up in
              read.others j y.1 ∙ next_other v r k s e low high j y.0 (λ h. clear (omega arith));
          sound = read.sound;
          short = read.short;
        }

  pub fits_read : (n : ℕ) (ks : List ℕ) (r q : Reading) → 0x80 ≤ n → ascending n ks ≡ true
      → (n < 0x87 → said v r ≡ []) → Sound t r.asked → length (said v r) < 65536
      → read_all v r ks ≡ Some q → Read t v ks r q
  unfolding read_all spelled
  fits_read n [] r q base up clear c l h =
      let none : Read t v [] r r = record { bytes = refl; others = λ j x. refl; sound = c; short = l } in
      subst (λ (x : Reading). Read t v [] r x) (same_Some r q h) none
  fits_read n (k ∷ ks) r q base up clear c l h =
      option_and_then_some (λ (x : Reading). read_all v x ks) (took v r k (field_at v r.at)) q h λ x one rest.
      let u = above n k ks up in
      let w = fits_whole v r k x (field_at v r.at) refl one in
      let next = taken v r k w.0 w.1 in
      let is : x ≡ next = same_Some x next (sym one ∙ read_whole v r k w.0 w.1 w.2 w.3) in
      before n k ks r w.0 w.1 base up clear w.2 w.3 q
      (fits_read k ks next q (omega arith) (later n k ks up)
      (next-blank v r k w.0 w.1 (omega arith) (up_to n k ks up))
      (step_sound n k ks r w.0 w.1 base up clear w.2 w.3 c)
      (step_short n k ks r w.0 w.1 base up clear w.2 w.3)
      (subst (λ (y : Reading). read_all v y ks ≡ Some q) is rest))

module _ (t : ℕ) (v : Bytes) (a : Request) (d : Bytes) (proper : Sound t a) (small : length d < 65536) where
  pub spelled-read : (n : ℕ) (ks : List ℕ) (r : Reading) → 0x80 ≤ n → ascending n ks ≡ true
      → (n < 0x87 → said v r ≡ []) → Sound t r.asked
      → r.at ≤ length v → drop r.at v ≡ spelled ks a d → ((j : ℕ) → among j ks ≡ false → tells v r j ≡ argument j a d)
      → Done t v a d (read_all v r ks)
  unfolding read_all spelled among
  spelled-read n [] r base up clear c l h says =
      let z = sym (length-drop r.at v) ∙ ap length h in
      record { reading = r; fits = refl; end = omega arith; says = λ j. says j refl; sound = c }
  spelled-read n (k ∷ ks) r base up clear c l h says =
      let u = above n k ks up in
      let b = argument k a d in
      let low : 0x80 < k = omega arith in
      let high = up_to n k ks up in
      let s = r.at + 3 in
      let e = r.at + 3 + length b in
      let short = short_argument k low high t a d proper small in
      let whole : field_at v r.at ≡ Whole k s e = field_is_whole v r.at k b (spelled ks a d) short h in
      let value : part s e v ≡ b = field_value v r.at k b (spelled ks a d) h in
      let size : has_size k (length (part s e v)) ≡ true = rw value (sized k low high t a d proper) in
      let bytes : k < 0x83 → Below 256 (part s e v) = λ x. rw value (in_bytes k low high a d x) in
      let w = within v r.at k s e whole in
      let sized-whole : has_size k (e - s) ≡ true = ap (has_size k) (sym (part_length s e v w.1 w.2)) ∙ size in
      let is : took v r k (field_at v r.at) ≡ Some (taken v r k s e) = read_whole v r k s e whole sized-whole in
      rw is
      (spelled-read k ks (taken v r k s e) (omega arith) (later n k ks up) (next-blank v r k s e low high)
      (stays_sound k low high t (part s e v) r.asked size bytes c)
      w.2
      (field_rest v r.at k b (spelled ks a d) h)
      (λ j x. by_test (eqb j k)
      (λ y. rw (eqb-true j k y) (next-own v r k s e low high size bytes ∙ value))
      (λ y. next_other v r k s e low high j y (λ z. clear (omega arith)) ∙ says j (rw (y, x)))))
