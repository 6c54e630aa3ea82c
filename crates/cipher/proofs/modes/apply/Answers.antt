use Rattle.std.proofs.Common.{◌≡◌, ℕ, ◌%◌, ◌≤◌, leb, eqb, List, ◌++◌, length, drop, Ok, Err, sym, ap, ap₂, ◌∙◌, eqb-true, leb-true, rules}
use Rattle.ground.specs.Search.{by_test}
use Rattle.cipher.specs.declared.modes.Misfit.{Misfit}
use Rattle.cipher.specs.declared.modes.Mode.{Mode}
use Rattle.cipher.specs.Bits.{word, bytes}
use Rattle.engine.specs.Fips46.{computed}
use Rattle.fips81.specs.declared.Turn.{Turn}
use Rattle.fips81.specs.Fips81.{turned, keys_for, given, left, blocks, joined}
use Rattle.cipher.specs.Cipher.{Verdict, Outcome, outcome_of, fitting, applied, ruled, way_of, direction_of, mode_text, mode_vector, onto}
use Rattle.fips81.specs.Keyed.{text_of, vector_of}
use Rattle.cipher.proofs.Promise.{applied-done, mode_text-length}
use Rattle.cipher.proofs.modes.apply.Goals as goal

refused : (m : Mode) (k v t out : List ℕ) (e : Misfit) → fitting t out ≡ Err e → applied m k v t out ≡ record { verdict = Err e; vector = v; output = out }
unfolding applied ruled
refused m k v t out e h = ap (λ (d : Verdict). ruled d m k v t out) h

fitting_done : (t out : List ℕ) (d : Unit {0}) → fitting t out ≡ Ok d → (length t % 8 ≡ 0) × (length t ≤ length out)
unfolding fitting
fitting_done t out d e =
    by_test (eqb (length t % 8) 0)
    (λ p. by_test (leb (length t) (length out)) (λ q. (eqb-true _ _ p, leb-true _ _ q)) (λ q. absurd (cc (rw (p, q) at e))))
    (λ p. absurd (cc (rw p at e)))

done : List ℕ → List ℕ → Outcome
done v o = record { verdict = Ok tt; vector = v; output = o }

pub returns-in_err-fits : goal.returns-in_err-fits
returns-in_err-fits c =
    let a = c.args in
    let r : c.from_residual.result ≡ Err c.in_err-fits.field-0.0 = search rules in
    ap (λ x. outcome_of x a.vector.0 a.out.now) r ∙ sym (refused a.mode a.key.0 a.vector.0 a.text.now a.out.now _ (sym c.fits.ensures ∙ c.in_err-fits.was))

pub run-after-requires : goal.run-after-requires
run-after-requires c = fitting_done _ _ _ (sym c.fits.ensures ∙ c.in_ok-fits.was)

pub returns : goal.returns
unfolding done mode_text text_of mode_vector vector_of
returns c =
    let start = c.args in
    let t = start.text.now in
    let turn : List ℕ → ℕ → ℕ → Turn = λ ks. turned (way_of start.mode) (direction_of start.mode) (computed ks) in
    let text = mode_text start.mode start.key.0 start.vector.0 t in
    let f : (length t % 8 ≡ 0) × (length t ≤ length start.out.now) = fitting_done _ _ _ (sym c.fits.ensures ∙ c.in_ok-fits.was) in
    let ks : c.keys_for-keys.result ≡ keys_for (way_of start.mode) (direction_of start.mode) (word start.key.0) =
    c.keys_for-keys.ensures ∙ ap (keys_for (way_of start.mode) (direction_of start.mode)) c.word_of.ensures in
    let v : c.word_of-2.result ≡ word start.vector.0 = c.word_of-2.ensures in
    let x : c.bytes_of.result ≡ mode_vector start.mode start.key.0 start.vector.0 t =
    c.bytes_of.ensures ∙ ap bytes (c.run-after.ensures.0 ∙ ap₂ (λ (k : List ℕ) (n : ℕ). left (turn k) n (blocks t)) ks v) in
    let y : c.run-after.new.out ≡ onto text start.out.now =
    c.run-after.ensures.1
    ∙ ap₂ (λ (k : List ℕ) (n : ℕ). joined (given (turn k) n (blocks t)) ++ drop (length t) start.out.now) ks v
    ∙ ap (λ (n : ℕ). text ++ drop n start.out.now) (sym (mode_text-length start.mode start.key.0 start.vector.0 t f.0)) in
    ap₂ done x y ∙ sym (applied-done _ _ _ _ _ f.0 f.1)
