-- Key functions, pairs, and the two sides of a user's place.
use Rattle.std.specs.Prelude.{Bool, true, false, cond, not, ℕ, eqb}
use Rattle.cipher.specs.declared.keys.DataKey.{DataKey}
use Rattle.cipher.specs.declared.keys.Vector.{Vector}
use Rattle.cipher.specs.declared.modes.Mode.{Mode}
use Rattle.cipher.specs.declared.modes.Mode.TheVariants.{Ecbe, Ecbd, Cbce, Cbcd, Cfbe, Cfbd}
use Rattle.keys.specs.Keys.{notarized}
use Rattle.state.specs.declared.Side.{Side}
use Rattle.state.specs.declared.Holdings.{Holdings}
use Rattle.state.specs.State.{Bytes, held, no_vector}
use Rattle.rules.specs.declared.Function.{Function}
use Rattle.rules.specs.declared.Function.TheVariants.{Transmit, Receive, Both, Neither}

-- ---- functions

-- t, r and s are the bytes 74, 72 and 73
unfoldable pub function_of : ℕ → Function
function_of f = cond (eqb f 0x74) Transmit (cond (eqb f 0x72) Receive (cond (eqb f 0x73) Both Neither))

unfoldable pub unknown : Function → Bool
unknown Transmit = false
unknown Receive = false
unknown Both = false
unknown Neither = true

-- no function, or s and "party equals issuer" do not agree
unfoldable pub wrong_pair : Function → Bool → Bool
wrong_pair Transmit alike = alike
wrong_pair Receive alike = alike
wrong_pair Both alike = not alike
wrong_pair Neither alike = true

-- the interchange key k notarized with the pair that the function names: the sender first
unfoldable pub pair_key : Function → Bytes → (issuer party : ℕ) → Bytes
pair_key Transmit k issuer party = notarized k issuer party
pair_key Receive k issuer party = notarized k party issuer
pair_key Both k issuer party = notarized k issuer issuer
pair_key Neither k issuer party = notarized k issuer issuer

-- t and s use the transmit side, r the receive side
unfoldable pub side_for : Function → Holdings → Side
side_for Transmit h = h.transmit
side_for Receive h = h.receive
side_for Both h = h.transmit
side_for Neither h = h.transmit

-- ---- loading

-- a side with a key just loaded: its vector is removed
abbrev pub loaded : DataKey → Side
loaded k = record { key = held k; vector = no_vector }

unfoldable pub with_key : Function → DataKey → Holdings → Holdings
with_key Transmit k h = record { transmit = loaded k; receive = h.receive }
with_key Receive k h = record { transmit = h.transmit; receive = loaded k }
with_key Both k h = record { transmit = loaded k; receive = loaded k }
with_key Neither k h = h

abbrev pub vectored : Vector → Side → Side
vectored v s = record { key = s.key; vector = held v }

unfoldable pub with_vector : Function → Vector → Holdings → Holdings
with_vector Transmit v h = record { transmit = vectored v h.transmit; receive = h.receive }
with_vector Receive v h = record { transmit = h.transmit; receive = vectored v h.receive }
with_vector Both v h = record { transmit = vectored v h.transmit; receive = vectored v h.receive }
with_vector Neither v h = h

-- ---- modes

-- E commands use the transmit side, D commands the receive side
unfoldable pub mode_side : Mode → Holdings → Side
mode_side Ecbe h = h.transmit
mode_side Ecbd h = h.receive
mode_side Cbce h = h.transmit
mode_side Cbcd h = h.receive
mode_side Cfbe h = h.transmit
mode_side Cfbd h = h.receive

-- after CBC or CFB that side's vector is v; ECB alters nothing held
unfoldable pub after_mode : Mode → Vector → Holdings → Holdings
after_mode Ecbe v h = h
after_mode Ecbd v h = h
after_mode Cbce v h = with_vector Transmit v h
after_mode Cbcd v h = with_vector Receive v h
after_mode Cfbe v h = with_vector Transmit v h
after_mode Cfbd v h = with_vector Receive v h

-- ECB needs no vector; CBC and CFB lack it where it is missing
unfoldable pub lacks_vector : Mode → Bool → Bool
lacks_vector Ecbe present = false
lacks_vector Ecbd present = false
lacks_vector Cbce present = not present
lacks_vector Cbcd present = not present
lacks_vector Cfbe present = not present
lacks_vector Cfbd present = not present
