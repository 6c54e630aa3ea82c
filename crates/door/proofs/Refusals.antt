-- A refusal leaves the vector and the output as they were.
use Rattle.std.proofs.Common.{Option, Some, None, Ok, Err, ◌≡◌, refl, List, ℕ, ◌^◌, ◌<◌}
use Rattle.ground.specs.Rows.{row-digits}
use Rattle.cipher.specs.declared.modes.Mode.{Mode}
use Rattle.cipher.specs.Bits.{bytes}
use Rattle.cipher.specs.Cipher.{Verdict, number, fitting, ruled, applied}
use Rattle.door.specs.Door.{Moded, told, moded}

module _ (key vector : ℕ) (text out : List ℕ) (h : vector < 2 ^ 64) where
  abbrev Unmoved : Moded → Type 0
  Unmoved r = (r.answer ≡ 0 → ⊥) → (r.vector ≡ vector) × (r.output ≡ out)

  by_verdict : (m : Mode) (d : Verdict) → Unmoved (told (ruled d m (bytes key) (bytes vector) text out))
  unfolding told number ruled
  by_verdict m (Ok d) n = absurd (n refl)
  by_verdict m (Err e) n = (row-digits 256 8 vector h, refl)

  pub refused : (q : Option Mode) → Unmoved (moded q key vector text out)
  unfolding moded applied
  refused (Some m) n = by_verdict m (fitting text out) n
  refused None n = (refl, refl)
