-- "A user not in the table and a wrong password get the same reply."
use Rattle.std.specs.Prelude.{◌≡◌, Bool, false, not, ℕ, eqb, length}
use Rattle.std.proofs.Math.Path.{refl, sym, ap}
use Rattle.std.proofs.Common.{ap₂, ◌∙◌}
use Rattle.std.proofs.Math.Bool.{cond}
use Rattle.std.specs.Prelude.{None}
use Rattle.ground.specs.Search.{by_test}
use Rattle.state.specs.declared.Facility.{Facility}
use Rattle.state.specs.State.{Bytes, find, key_at}
use Rattle.table.specs.Entries.{fits, entry_of}
use Rattle.table.specs.Passwords.{big, authentic}
use Rattle.state.specs.State.{seat_of}
use Rattle.rules.specs.World.{World, over, own, shut_for, key1}
use Rattle.rules.specs.Refusals.{test}
use Rattle.rules.specs.Commands.{UserCommand, RAS, CPW, by, Effect, refused, refusals, effect}
use Rattle.rules.specs.Step.{Done, Refused, Told, told, plain, ruled, rule, step}
use Rattle.properties.specs.Steps.{list_of}
use Rattle.properties.specs.Passwords.{authenticates}

-- who is not in the table is not authenticated, whatever the password
pub not_in_table : (w : World) (u : ℕ) (p : Bytes) → entry_of u w.table ≡ None → authenticates w u p ≡ false
unfolding authentic
not_in_table w u p e = ap (authentic (key1 w) u p) e

-- a command whose effect is answered "done", with no bytes
answered-plain : (n : ℕ) (e : Effect) (out : Bytes) → told e out ≡ plain Done out → told (ruled n e) out ≡ cond (eqb n 0) (plain Done out) (plain (Refused n) out)
answered-plain n e out h =
    let a : Bool → Told = λ b. told (cond b e (refused n)) out in
    let b : Bool → Told = λ b. cond b (plain Done out) (plain (Refused n) out) in
    by_test (eqb n 0) (λ t. ap a t ∙ h ∙ sym (ap b t)) (λ f. ap a f ∙ sym (ap b f))

-- one facility beside two tables, both fitting or both not, and a user who is authenticated in neither: not in the table, or by a wrong password
module _ (f : Facility) (t t' : Bytes) (u : ℕ) (p p' out : Bytes) (fit : fits (length t) ≡ fits (length t'))
    (one : authenticates (over f t) u p ≡ false) (other : authenticates (over f t') u p' ≡ false) where
  alike : authenticates (over f t) u p ≡ authenticates (over f t') u p'
  alike = one ∙ sym other

  replied : (c c' : UserCommand) → told (effect u c (own u (over f t))) out ≡ plain Done out → told (effect u c' (own u (over f t'))) out ≡ plain Done out
      → list_of (over f t) u c out ≡ list_of (over f t') u c' out → (step (over f t) (by u c) out).answered ≡ (step (over f t') (by u c') out).answered
  unfolding step rule
  replied c c' a b e =
      answered-plain (list_of (over f t) u c out) _ out a
      ∙ ap (λ (n : ℕ). cond (eqb n 0) (plain Done out) (plain (Refused n) out)) e
      ∙ sym (answered-plain (list_of (over f t') u c' out) _ out b)

  pub ras_alike : (step (over f t) (by u (RAS p)) out).answered ≡ (step (over f t') (by u (RAS p')) out).answered
  unfolding refusals effect
  ras_alike =
      let place = find u f.places in
      replied (RAS p) (RAS p') refl refl
      (ap₂ (λ (x y : Bool). test (big u) 1 (test (not x) 2 (test (seat_of place).active 4 (test (not (key_at 1 f.current_keys).present) 6 (test f.due 7 (test (shut_for u (over f t)) 8 (test (not y) 9 0)))))))
      fit alike)

  pub cpw_alike : (new new' : Bytes) → (step (over f t) (by u (CPW p new)) out).answered ≡ (step (over f t') (by u (CPW p' new')) out).answered
  unfolding refusals effect
  cpw_alike new new' =
      let place = find u f.places in
      replied (CPW p new) (CPW p' new') refl refl
      (ap₂ (λ (x y : Bool). test (big u) 1 (test (not x) 2 (test (not (seat_of place).active) 3 (test (not (key_at 1 f.current_keys).present) 6 (test f.due 7 (test (not y) 9 0))))))
      fit alike)
