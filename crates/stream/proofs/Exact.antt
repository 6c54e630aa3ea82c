-- The decoder accepts exactly the grammar's values, and each value has one reading.
use Rattle.std.specs.Prelude.{◌≡◌, ◌↔◌, false, List, ◌++◌, ℕ, ◌<◌, eqb, length, drop, Option, Some, None, option_and_then}
use Rattle.std.proofs.Common.{refl, sym, ap, ap₂, ◌∙◌, subst, append-nil, drop_of_length-le, eqb-true, eq-eqb, arith}
use Rattle.std.proofs.lemmas.Option.{none-some, cond_some, option_and_then_some}
use Rattle.ground.specs.Search.{by_test}
use Rattle.ground.specs.Lists.{Below, rest_all}
use Rattle.stream.specs.declared.Request.{Request}
use Rattle.stream.specs.declared.Reading.{Reading}
use Rattle.stream.specs.Fields.{Bytes, part}
use Rattle.stream.specs.Commands.{arguments_of, begun, read_all, ended, decoded}
use Rattle.stream.specs.Grammar.{argument, spelled, among, Spells}
use Rattle.stream.specs.RequestLaws.{Sound}
use Rattle.stream.proofs.RequestLaws.{blank_sound, same_request, same_data}
use Rattle.stream.proofs.GrammarLaws.{arguments_ordered, same_fields}
use Rattle.stream.specs.ReadLaws.{said}
use Rattle.stream.proofs.ReadLaws.{fits_read, spelled-read}

-- ---- the grammar by itself: a value has one reading

sound_of : {t : ℕ} {v : Bytes} {a : Request} {d : Bytes} → Spells t v a d → Sound t a
sound_of h = record { tagged = h.tagged; issued = h.issued; partied = h.partied; eight = h.eight }

module _ (t : ℕ) (v : Bytes) (a a' : Request) (d d' : Bytes) (h : Spells t v a d) (h' : Spells t v a' d') where
  each_field : (k : ℕ) → argument k a d ≡ argument k a' d'
  each_field k =
      let e = h.known in
      let e' = h'.known in
      let one : h'.arguments ≡ h.arguments = cc in
      by_test (among k h.arguments)
      (λ x.
      let up = (arguments_ordered t h.arguments e).0 in
      same_fields t a a' d d' (sound_of h) (sound_of h') 0x80 h.arguments (omega arith) up
      (sym h.value ∙ h'.value ∙ ap (λ (ks : List ℕ). spelled ks a' d') one) k x)
      (λ x. h.absent k x ∙ sym (h'.absent k (ap (among k) one ∙ x)))

  pub one_reading : (a ≡ a') × (d ≡ d')
  one_reading =
      let c = sound_of h in
      let c' = sound_of h' in
      (same_request t a a' d d' c c' each_field, same_data t a a' d d' c c' each_field)

-- ---- the decoder, by the arguments of its command

module _ (t : ℕ) (v : Bytes) where
  -- read to its end, the data is the rest of the value
  all_data : (q : Reading) → q.at ≡ length v → said v q ≡ drop q.text v
  all_data q e = ap (λ (n : ℕ). part q.text n v) e ∙ rest_all v q.text

  module _ (ks : List ℕ) (known : arguments_of t ≡ Some ks) where
    decoded_by : decoded t v ≡ option_and_then (ended (length v)) (read_all v (begun t) ks)
    unfolding decoded
    decoded_by = rw known

    whole_spells : Below 256 v → (q : Reading) → read_all v (begun t) ks ≡ Some q → q.at ≡ length v
        → Spells t v q.asked (drop q.text v)
    whole_spells bytes q h end =
        let up = (arguments_ordered t ks known).0 in
        let read = fits_read t v bytes 0x80 ks (begun t) q (omega arith) up (λ x. refl) (blank_sound t) (omega arith) h in
        let data_is : said v q ≡ drop q.text v = all_data q end in
        record {
          arguments = ks;
          known = known;
          value = read.bytes
              ∙ ap₂ (λ (x y : Bytes). spelled ks q.asked x ++ y) data_is (drop_of_length-le v {i = q.at} (omega arith))
              ∙ append-nil (spelled ks q.asked (drop q.text v));
          tagged = read.sound.tagged;
          issued = read.sound.issued;
          partied = read.sound.partied;
          eight = read.sound.eight;
          short = subst (λ (d : Bytes). length d < 65536) data_is read.short;
          absent = λ k x. ap (argument k q.asked) (sym data_is) ∙ read.others k x;
        }

    known_spells : Below 256 v → (r : Reading) → decoded t v ≡ Some r → Spells t v r.asked (drop r.text v)
    known_spells bytes r h =
        option_and_then_some (ended (length v)) (read_all v (begun t) ks) r (sym decoded_by ∙ h) λ q read last.
        let z = cond_some (eqb q.at (length v)) q r last in
        let whole = whole_spells bytes q read (eqb-true q.at (length v) z.0) in
        subst (λ (x : Reading). Spells t v x.asked (drop x.text v)) z.1 whole

  -- ---- the decoder and the grammar

  -- what the decoder takes is a command's value, with that request and that data
  pub fits_spells : Below 256 v → (r : Reading) → decoded t v ≡ Some r → Spells t v r.asked (drop r.text v)
  unfolding decoded
  fits_spells bytes r h = go (arguments_of t) refl
    where
      go : (o : Option (List ℕ)) → arguments_of t ≡ o → Spells t v r.asked (drop r.text v)
      go None e = absurd (none-some r (rw e at h))
      go (Some ks) e = known_spells ks e bytes r h

  -- a command's value is taken, with its request and its data
  pub spells_fits : (a : Request) (d : Bytes) → Spells t v a d
      → (r : Reading) × (decoded t v ≡ Some r) × (r.asked ≡ a) × (drop r.text v ≡ d)
  spells_fits a d h =
      let ks = h.arguments in
      let c = sound_of h in
      let up = (arguments_ordered t ks h.known).0 in
      let nothing = λ (j : ℕ) (x : among j ks ≡ false). sym (h.absent j x) in
      let start = blank_sound t in
      let done = spelled-read t v a d c h.short 0x80 ks (begun t) (omega arith) up (λ x. refl) start (omega arith) h.value nothing in
      let q = done.reading in (
        q,
        decoded_by ks h.known ∙ rw (done.fits, eq-eqb q.at (length v) done.end),
        same_request t q.asked a (said v q) d done.sound c done.says,
        sym (all_data q done.end) ∙ same_data t q.asked a (said v q) d done.sound c done.says,
      )

  -- refused is what has no reading
  pub misfit : Below 256 v → decoded t v ≡ None ↔ ((a : Request) (d : Bytes) → Spells t v a d → ⊥)
  misfit bytes = (
    λ e a d h. let x = spells_fits a d h in none-some x.0 (sym e ∙ x.1),
    λ none-fits. go none-fits (decoded t v) refl,
  )
    where
      go : ((a : Request) (d : Bytes) → Spells t v a d → ⊥)
          → (o : Option Reading) → decoded t v ≡ o → decoded t v ≡ None
      go none-fits None e = e
      go none-fits (Some r) e = absurd (none-fits r.asked (drop r.text v) (fits_spells bytes r e))
